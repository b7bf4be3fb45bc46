use Rattle.std.proofs.Common.{rules, ◌≡◌, ◌∙◌, ◌<◌, suc, ◌∷◌, length, drop, slice_get, Some, sym, ap, arith}
use Rattle.host_agent.proofs.Retried.{first_is}
use Rattle.host_agent.proofs.host.deny_each.Goals as goal

pub loop-packet-smaller : goal.loop-packet-smaller
loop-packet-smaller c =
    let first : Some c.in-Some.packet.items ≡ slice_get c.loop-packet.queue 0 = search rules in
    let left : c.take.new.self ≡ drop 1 c.loop-packet.queue = search rules in
    let are : c.loop-packet.queue ≡ c.in-Some.packet.items ∷ c.take.new.self =
    first_is c.loop-packet.queue c.in-Some.packet.items first ∙ ap (λ xs. c.in-Some.packet.items ∷ xs) (sym left) in
    let len : length c.loop-packet.queue ≡ suc (length c.take.new.self) = ap length are in
    let smaller : length c.take.new.self < length c.loop-packet.queue = omega arith in
    smaller
