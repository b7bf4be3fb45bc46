use Rattle.std.proofs.Common.{rules, ap, ◌≡◌, ◌≤◌, ◌<◌, ◌-◌, true, Some, None, arith}
use Rattle.vip_config.specs.Leases.{lease_rules_of}
use Rattle.lease_spec.specs.declared.row.Phase.TheVariants.{Freeing}
use Rattle.port_leases.specs.TableState.{onward_in, rows_in}
use Rattle.manager_spec.specs.Manager.{leases}
use Rattle.manager_log.specs.Pending.{IsCurrent}
use Rattle.manager_log.proofs.PendingLaws.{current_as}
use Rattle.manager_log.proofs.QuietLaws.{freeing_above, quiet_less, quiet_walk}
use Rattle.manager_core.proofs.manager.Manager.quiet_to.Goals as goal

pub overflow_sub-result : goal.overflow_sub-result
overflow_sub-result c =
    let walk : rows_in (leases c.args.self.now.config c.args.self.now.lists).rows Freeing c.args.above
    ≡ onward_in (leases c.args.self.now.config c.args.self.now.lists).rows Freeing (Some c.in-Some.row) =
    search rules in
    let over : c.args.above < c.in-Some.row.n =
    freeing_above (leases c.args.self.now.config c.args.self.now.lists).rows c.args.above (Some c.in-Some.row) walk in
    omega arith

pub returns-in_default-clause-quiet : goal.returns-in_default-clause-quiet
returns-in_default-clause-quiet c =
    let sound : c.self.inside.log.sound ≡ true = search rules in
    let cfg : c.args.self.now.config ≡ c.self.inside.cfg = search rules in
    let log : c.args.self.now.lists.acceptor ≡ c.self.inside.log.replica.acceptor = search rules in
    let acks : c.args.self.now.lists.acks ≡ c.self.inside.acks.entries = search rules in
    let muxes : c.args.self.now.lists.muxes ≡ c.self.inside.muxes.items = search rules in
    let current : IsCurrent c.self.inside.pending (lease_rules_of c.args.self.now.config) c.args.self.now.lists.acceptor
    c.args.self.now.lists.acks c.args.self.now.lists.muxes = current_as c.self.inside.pending _ _ _ _ _ _ _ _ (ap lease_rules_of cfg) log acks muxes (c.self.invariant.4 sound) in
    let walk : rows_in (leases c.args.self.now.config c.args.self.now.lists).rows Freeing c.args.above
    ≡ onward_in (leases c.args.self.now.config c.args.self.now.lists).rows Freeing None = search rules in
    quiet_walk c.args.self.now.config c.args.self.now.lists c.self.inside.pending c.args.above c.quiet_to-seen.result None
    current c.quiet_to-seen.ensures.further c.quiet_to-seen.ensures.quiet walk tt

pub returns-then-row-seen-clause-further : goal.returns-then-row-seen-clause-further
returns-then-row-seen-clause-further c =
    let walk : rows_in (leases c.args.self.now.config c.args.self.now.lists).rows Freeing c.args.above
    ≡ onward_in (leases c.args.self.now.config c.args.self.now.lists).rows Freeing (Some c.in-Some.row) =
    search rules in
    let over : c.args.above < c.in-Some.row.n =
    freeing_above (leases c.args.self.now.config c.args.self.now.lists).rows c.args.above (Some c.in-Some.row) walk in
    omega arith

pub returns-then-row-seen-clause-quiet : goal.returns-then-row-seen-clause-quiet
returns-then-row-seen-clause-quiet c =
    let sound : c.self.inside.log.sound ≡ true = search rules in
    let cfg : c.args.self.now.config ≡ c.self.inside.cfg = search rules in
    let log : c.args.self.now.lists.acceptor ≡ c.self.inside.log.replica.acceptor = search rules in
    let acks : c.args.self.now.lists.acks ≡ c.self.inside.acks.entries = search rules in
    let muxes : c.args.self.now.lists.muxes ≡ c.self.inside.muxes.items = search rules in
    let current : IsCurrent c.self.inside.pending (lease_rules_of c.args.self.now.config) c.args.self.now.lists.acceptor
    c.args.self.now.lists.acks c.args.self.now.lists.muxes = current_as c.self.inside.pending _ _ _ _ _ _ _ _ (ap lease_rules_of cfg) log acks muxes (c.self.invariant.4 sound) in
    let walk : rows_in (leases c.args.self.now.config c.args.self.now.lists).rows Freeing c.args.above
    ≡ onward_in (leases c.args.self.now.config c.args.self.now.lists).rows Freeing (Some c.in-Some.row) =
    search rules in
    let over : c.args.above < c.in-Some.row.n =
    freeing_above (leases c.args.self.now.config c.args.self.now.lists).rows c.args.above (Some c.in-Some.row) walk in
    let within : c.in-Some.row.n ≤ c.quiet_to-seen.result = search rules in
    let less : c.in-Some.row.n - 1 ≤ c.quiet_to-seen.result = omega arith in
    let further : c.args.above ≤ c.in-Some.row.n - 1 = omega arith in
    let before : c.in-Some.row.n - 1 < c.in-Some.row.n = omega arith in
    quiet_walk c.args.self.now.config c.args.self.now.lists c.self.inside.pending c.args.above (c.in-Some.row.n - 1)
    (Some c.in-Some.row) current further
    (quiet_less c.self.inside.pending c.args.above c.quiet_to-seen.result (c.in-Some.row.n - 1) less c.quiet_to-seen.ensures.quiet)
    walk before

pub returns-else-row-seen-clause-quiet : goal.returns-else-row-seen-clause-quiet
returns-else-row-seen-clause-quiet c =
    let sound : c.self.inside.log.sound ≡ true = search rules in
    let cfg : c.args.self.now.config ≡ c.self.inside.cfg = search rules in
    let log : c.args.self.now.lists.acceptor ≡ c.self.inside.log.replica.acceptor = search rules in
    let acks : c.args.self.now.lists.acks ≡ c.self.inside.acks.entries = search rules in
    let muxes : c.args.self.now.lists.muxes ≡ c.self.inside.muxes.items = search rules in
    let current : IsCurrent c.self.inside.pending (lease_rules_of c.args.self.now.config) c.args.self.now.lists.acceptor
    c.args.self.now.lists.acks c.args.self.now.lists.muxes = current_as c.self.inside.pending _ _ _ _ _ _ _ _ (ap lease_rules_of cfg) log acks muxes (c.self.invariant.4 sound) in
    let walk : rows_in (leases c.args.self.now.config c.args.self.now.lists).rows Freeing c.args.above
    ≡ onward_in (leases c.args.self.now.config c.args.self.now.lists).rows Freeing (Some c.in-Some.row) =
    search rules in
    let before : c.quiet_to-seen.result < c.in-Some.row.n = search rules in
    quiet_walk c.args.self.now.config c.args.self.now.lists c.self.inside.pending c.args.above c.quiet_to-seen.result
    (Some c.in-Some.row) current c.quiet_to-seen.ensures.further c.quiet_to-seen.ensures.quiet walk before
