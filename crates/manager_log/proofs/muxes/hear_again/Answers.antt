use Rattle.std.proofs.Common.{rules, ◌≤◌, slice_index_or}
use Rattle.manager_spec.specs.Known.{no_peer}
use Rattle.manager_log.proofs.PendingLaws.{current_heard, current_new}
use Rattle.manager_log.proofs.muxes.hear_again.Goals as goal

pub returns-then-boot-known-clause-current : goal.returns-then-boot-known-clause-current
returns-then-boot-known-clause-current c = λ rules' a acks numbered current.
    rw c.clear.ensures (current_new rules' a acks _)

pub returns-else-boot-known-clause-current : goal.returns-else-boot-known-clause-current
returns-else-boot-known-clause-current c = λ rules' a acks numbered current.
    let le : c.args.boot ≤ (slice_index_or c.args.muxes.now.items c.args.mux no_peer).boot = search rules in
    rw c.hear.ensures.set (current_heard _ rules' a acks _ c.args.mux c.args.boot c.args.time numbered le current)
