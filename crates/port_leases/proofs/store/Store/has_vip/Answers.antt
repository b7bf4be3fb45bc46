use Rattle.std.proofs.Common.{ap, ◌∙◌}
use Rattle.indexmap.specs.IndexMap.{get}
use Rattle.lease_rows.specs.Rows.{same_address}
use Rattle.port_leases.specs.Store.{StoreState}
use Rattle.port_leases.specs.TableState.{has_vip}
use Rattle.port_leases.proofs.Stored.{named-free}
use Rattle.port_leases.proofs.store.Store.has_vip.Goals as goal

pub returns : goal.returns
returns c =
    c.contains_key.ensures
    ∙ named-free c.self.inside.rules c.self.inside.rows.rows c.args.vip (get same_address c.self.inside.vips c.args.vip) (c.self.invariant.vips c.args.vip)
    ∙ ap (λ (v : StoreState). has_vip v.rules c.args.vip) c.self.view_is
