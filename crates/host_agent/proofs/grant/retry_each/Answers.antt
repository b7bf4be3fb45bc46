use Rattle.std.proofs.Common.{rules, ◌≡◌, ◌∙◌, ◌+◌, ◌≤◌, ◌<◌, suc, List, [], ◌∷◌, length, drop, slice_get, Some, None, refl, sym, ap, arith}
use Rattle.node_spec.specs.Steps.{turned}
use Rattle.agent_spec.specs.Answers.{retry}
use Rattle.host_agent.specs.Seen.{as_is, site}
use Rattle.host_agent.proofs.Retried.{each_done, each_next, first_is, none_wait}
use Rattle.host_agent.proofs.grant.retry_each.Goals as goal

pub loop-bytes-smaller : goal.loop-bytes-smaller
loop-bytes-smaller c =
    let first : Some c.in-Some.bytes.items ≡ slice_get c.loop-bytes.waiting 0 = search rules in
    let left : c.take.new.self ≡ drop 1 c.loop-bytes.waiting = search rules in
    let are : c.loop-bytes.waiting ≡ c.in-Some.bytes.items ∷ c.take.new.self =
    first_is c.loop-bytes.waiting c.in-Some.bytes.items first ∙ ap (λ xs. c.in-Some.bytes.items ∷ xs) (sym left) in
    let len : length c.loop-bytes.waiting ≡ suc (length c.take.new.self) = ap length are in
    let smaller : length c.take.new.self < length c.loop-bytes.waiting = omega arith in
    smaller

pub loop-bytes-preserved : goal.loop-bytes-preserved
loop-bytes-preserved c =
    let first : Some c.in-Some.bytes.items ≡ slice_get c.loop-bytes.waiting 0 = search rules in
    let left : c.take.new.self ≡ drop 1 c.loop-bytes.waiting = search rules in
    let are : c.loop-bytes.waiting ≡ c.in-Some.bytes.items ∷ c.take.new.self =
    first_is c.loop-bytes.waiting c.in-Some.bytes.items first ∙ ap (λ xs. c.in-Some.bytes.items ∷ xs) (sym left) in
    let len : length c.loop-bytes.waiting ≡ suc (length c.take.new.self) = ap length are in
    let more = c.retry.ensures.few in
    let few = c.loop-bytes.invariant.few in
    let tries : (site c.retry.new.traffic c.retry.new.host, c.retry.new.step)
    ≡ turned as_is c.args.cfg.now c.loop-bytes.step
    (retry c.args.cfg.now c.in-Some.bytes.items (site c.loop-bytes.traffic c.loop-bytes.host)) = search rules in
    record {
      turn = each_next c.args.cfg.now (retry c.args.cfg.now) c.loop-bytes.step c.retry.new.step c.in-Some.bytes.items
          c.loop-bytes.waiting c.take.new.self (site c.loop-bytes.traffic c.loop-bytes.host)
          (site c.retry.new.traffic c.retry.new.host) are tries
          ∙ c.loop-bytes.invariant.turn;
      cfg = refl;
      few = omega arith;
      machine = c.retry.ensures.machine ∙ c.loop-bytes.invariant.machine;
    }

pub returns-clause-turn : goal.returns-clause-turn
returns-clause-turn c =
    let none : None ≡ slice_get c.loop-bytes.waiting 0 = search rules in
    each_done c.args.cfg.now (retry c.args.cfg.now) c.loop-bytes.step c.loop-bytes.waiting
    (site c.loop-bytes.traffic c.loop-bytes.host) (none_wait c.loop-bytes.waiting none)
    ∙ c.loop-bytes.invariant.turn
