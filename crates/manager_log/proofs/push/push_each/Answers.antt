use Rattle.std.proofs.Common.{rules, drop, ◌+◌, ◌-◌, ◌<◌, ◌∙◌, sym, filter, length, take, List}
use Rattle.std.specs.List.{flat_map}
use Rattle.std.proofs.lemmas.List.{at_drop_more}
use Rattle.node_spec.specs.Steps.{outgoing, with_sends}
use Rattle.manager_spec.specs.Known.{is_near}
use Rattle.manager_spec.specs.Orders.{push_one}
use Rattle.manager_spec.specs.declared.peer.Peer.{Peer}
use Rattle.manager_log.proofs.PushLaws.{push_on, room_on}
use Rattle.manager_log.proofs.push.push_each.Goals as goal

pub loop-peer-preserved : goal.loop-peer-preserved
loop-peer-preserved c =
    let said = push_on _ _ _ _ (drop (c.loop-peer.peer-index + 1) c.args.peers.now) _ _ _ _
    c.in_ok-left.ensures.sends c.in_ok-left.ensures.room in
    let left = room_on _ _ _ (drop (c.loop-peer.peer-index + 1) c.args.peers.now) _ _ c.in_ok-left.ensures.room in
    let within : c.loop-peer.peer-index < length c.args.peers.now = search rules in
    let on = at_drop_more
    (λ (peers : List Peer). c.loop-peer.left
    - length (flat_map (push_one c.args.pushed.now.epoch c.args.pushed.now.row c.args.pushed.now.marks)
    (filter (is_near c.args.cfg.now c.args.time) peers)))
    c.args.peers.now c.loop-peer.peer-index (record { mux = 0; boot = 0; heard_at = 0 }) within in
    let then = at_drop_more
    (λ (peers : List Peer). with_sends (flat_map (outgoing c.args.cfg.now) (take c.loop-peer.left
    (flat_map (push_one c.args.pushed.now.epoch c.args.pushed.now.row c.args.pushed.now.marks)
    (filter (is_near c.args.cfg.now c.args.time) peers)))) c.loop-peer.out)
    c.args.peers.now c.loop-peer.peer-index (record { mux = 0; boot = 0; heard_at = 0 }) within in
    record {
      sends = said ∙ sym then ∙ c.loop-peer.invariant.sends;
      room = left ∙ sym on ∙ c.loop-peer.invariant.room;
    }
