use Rattle.std.proofs.Common.{◌≡◌, nat_le, None, sym, subst, ◌∙◌}
use Rattle.mux_spec.specs.Rows.{Rows, kept_at}
use Rattle.mux_core.specs.Routed.{IsRouted}
use Rattle.mux_core.proofs.RowLaws.{either_shows}
use Rattle.mux_core.proofs.routes.Routes.unprogram.Goals as goal

pub invariant_of-self : goal.invariant_of-self
invariant_of-self c =
    let r = c.self.inside in
    let was = c.self.invariant in
    let n = c.args.n in
    let s = c.args.r.now in
    subst (λ (rows : Rows). IsRouted r.config r.index r.own rows r.endpoints r.vips r.leaving) (sym c.unprogram.ensures) (record {
      source = was.source;
      leasable = λ x. either_shows (nat_le (kept_at r.ranges s).n n) s x (record { n = n; machine = None }) r.ranges ∙ was.leasable x;
      served = was.served;
      named = was.named;
      leaves = was.leaves;
    })
