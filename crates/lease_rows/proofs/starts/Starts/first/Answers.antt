use Rattle.std.proofs.Common.{refl, sym, ap, subst, length, arith, ◌∙◌}
use Rattle.lease_rows.specs.Starts.{IsFound, first_flag}
use Rattle.lease_rows.proofs.StartBlocks.{covered, found, not_found}
use Rattle.lease_rows.proofs.starts.Starts.first.Goals as goal

pub first_start-requires-clause-found : goal.first_start-requires-clause-found
first_start-requires-clause-found c =
    let some = sym (ap (first_flag 512 0) c.deref.ensures.value) ∙ sym c.first.ensures ∙ c.in-Some.is in
    subst (λ flags. IsFound flags 0 c.in-Some.place) (sym c.deref-in-Some.ensures.value)
    (found 64 512 0 c.in-Some.place c.self.inside.blocks.items c.self.inside.free.items refl c.self.invariant.sums some)

pub returns-in-None : goal.returns-in-None
returns-in-None c =
    let none = sym (ap (first_flag 512 0) c.deref.ensures.value) ∙ sym c.first.ensures ∙ c.in-None.is in
    sym (ap (first_flag 8 0) (sym c.self.view_is) ∙ not_found 64 512 0 c.self.inside.blocks.items c.self.inside.free.items refl c.self.invariant.sums none)

pub first_start-requires-clause-within : goal.first_start-requires-clause-within
first_start-requires-clause-within c =
    let few = covered 64 c.self.inside.blocks.items c.self.inside.free.items c.self.invariant.sums in
    let long = ap length c.deref-in-Some.ensures.value in
    omega (arith, few, long, c.self.invariant.few)
