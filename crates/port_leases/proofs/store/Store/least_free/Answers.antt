use Rattle.std.proofs.Common.{◌≡◌, true, sym, ap, subst, ◌∙◌}
use Rattle.indexmap.specs.IndexMap.{get}
use Rattle.wire_core.specs.Ranges.{range_at}
use Rattle.lease_spec.specs.Free.{is_free, least_free, range_of_start}
use Rattle.lease_rows.specs.Rows.{same_address}
use Rattle.port_leases.specs.Store.{StoreState}
use Rattle.port_leases.proofs.Stored.{first-free, least-first}
use Rattle.port_leases.proofs.store.Store.least_free.Goals as goal

pub returns-in-Some-clause-range : goal.returns-in-Some-clause-range
returns-in-Some-clause-range c =
    let least = least-first c.self.inside.rules c.self.inside.rows.rows c.args.vip (get same_address c.self.inside.vips c.args.vip) (c.self.invariant.vips c.args.vip) in
    sym (ap (range_of_start c.args.vip) (sym c.first_free.ensures ∙ c.in-Some.is)) ∙ least ∙ ap (λ (v : StoreState). least_free v.rules v.leases.rows c.args.vip) c.self.view_is

pub returns-in-None-clause-range : goal.returns-in-None-clause-range
returns-in-None-clause-range c =
    let least = least-first c.self.inside.rules c.self.inside.rows.rows c.args.vip (get same_address c.self.inside.vips c.args.vip) (c.self.invariant.vips c.args.vip) in
    sym (ap (range_of_start c.args.vip) (sym c.first_free.ensures ∙ c.in-None.is)) ∙ least ∙ ap (λ (v : StoreState). least_free v.rules v.leases.rows c.args.vip) c.self.view_is

pub returns-in-Some-clause-free : goal.returns-in-Some-clause-free
returns-in-Some-clause-free c =
    let free = first-free c.self.inside.rules c.self.inside.rows.rows c.args.vip (get same_address c.self.inside.vips c.args.vip) c.in-Some.start (c.self.invariant.vips c.args.vip)
    (sym c.first_free.ensures ∙ c.in-Some.is) in
    subst (λ (v : StoreState). is_free v.rules v.leases.rows (range_at c.args.vip c.in-Some.start) ≡ true) c.self.view_is free
