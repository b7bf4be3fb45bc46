use Rattle.std.proofs.Common.{rules, ◌≡◌, ◌∙◌, sym, Some}
use Rattle.packet_spec.specs.Packets.{key_of}
use Rattle.node_spec.specs.Steps.{turned}
use Rattle.agent_spec.specs.declared.connection.Connection.{Connection}
use Rattle.agent_spec.specs.Packets.{is_used, new_connection}
use Rattle.agent_spec.specs.Ranges.{first_unused, ports_of}
use Rattle.agent_spec.specs.Traffic.{open_conn, use_conn}
use Rattle.host_agent.specs.Seen.{as_is}
use Rattle.host_agent.proofs.Opening.{private_free, public_free}
use Rattle.host_agent.proofs.Tries.{both_tried}
use Rattle.host_agent.proofs.trying.open_at.Goals as goal

pub open-requires-clause-private : goal.open-requires-clause-private
open-requires-clause-private c =
    let new : c.new_connection-c.result
    ≡ new_connection c.args.traffic.now.time (key_of c.args.packet.now) c.args.vip (c.in-Some.n, c.in-Some.port) = search rules in
    rw new (private_free c.args.traffic.now.time (key_of c.args.packet.now) c.args.vip (c.in-Some.n, c.in-Some.port)
    c.args.traffic.now.conns c.requires.private)

pub open-requires-clause-public : goal.open-requires-clause-public
open-requires-clause-public c =
    let new : c.new_connection-c.result
    ≡ new_connection c.args.traffic.now.time (key_of c.args.packet.now) c.args.vip (c.in-Some.n, c.in-Some.port) = search rules in
    let chosen : Some (c.in-Some.n, c.in-Some.port)
    ≡ first_unused (is_used c.args.traffic.now.conns (key_of c.args.packet.now) c.args.vip)
    (ports_of c.args.traffic.now.ranges.held (key_of c.args.packet.now).src) = search rules in
    rw new (public_free c.args.traffic.now.time (key_of c.args.packet.now) c.args.vip (c.in-Some.n, c.in-Some.port)
    (ports_of c.args.traffic.now.ranges.held (key_of c.args.packet.now).src) c.args.traffic.now.conns chosen)

pub returns : goal.returns
returns c =
    let new : c.new_connection-c.result
    ≡ new_connection c.args.traffic.now.time (key_of c.args.packet.now) c.args.vip (c.in-Some.n, c.in-Some.port) = search rules in
    let chosen : c.args.chosen ≡ Some (c.in-Some.n, c.in-Some.port) = search rules in
    let opens : (c.open.new.self, c.open.new.step)
    ≡ turned as_is c.args.cfg.now c.args.step.now (open_conn c.args.traffic.now c.new_connection-c.result) = search rules in
    let leaves : (c.use_conn.new.traffic, c.use_conn.new.step)
    ≡ turned as_is c.args.cfg.now c.open.new.step
    (use_conn c.args.cfg.now c.open.new.self c.new_connection-c.result c.args.packet.now) = search rules in
    rw chosen (both_tried c.args.cfg.now c.args.step.now c.open.new.step c.use_conn.new.step c.args.traffic.now
    c.open.new.self c.use_conn.new.traffic
    (open_conn c.args.traffic.now (new_connection c.args.traffic.now.time (key_of c.args.packet.now) c.args.vip (c.in-Some.n, c.in-Some.port)))
    (λ u. use_conn c.args.cfg.now u (new_connection c.args.traffic.now.time (key_of c.args.packet.now) c.args.vip (c.in-Some.n, c.in-Some.port)) c.args.packet.now)
    (rw new at opens) (rw new at leaves))
