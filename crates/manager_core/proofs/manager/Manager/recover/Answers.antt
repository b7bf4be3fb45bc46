use Rattle.std.proofs.Common.{rules, ◌≡◌, ◌≤◌, ◌<◌, length}
use Rattle.vip_config.specs.Leases.{lease_rules_of}
use Rattle.manager_log.specs.Parts.{NumberedFrom}
use Rattle.manager_log.proofs.PendingLaws.{current_new}
use Rattle.manager_core.proofs.manager.Manager.recover.Goals as goal

pub invariant_of-result : goal.invariant_of-result
invariant_of-result c =
    let same : c.in_ok-log.log.rules ≡ lease_rules_of c.in-Ok.cfg = search rules in
    let index : c.args.index < 5 = search rules in
    let numbered : NumberedFrom 0 c.in_ok-muxes.muxes.items = search rules in
    let few : length c.in_ok-muxes.muxes.items ≤ 16 = search rules in
    (same, index, numbered, few, λ sound. rw c.new-2.ensures (current_new _ _ _ _))
