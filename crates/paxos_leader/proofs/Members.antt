-- How many of the five, as the library counts.
use Rattle.std.proofs.Common.{◌≡◌, ◌∷◌, Bool, true, false, List, refl, sym, cond, ◌+◌, add_comm}
use Rattle.std.specs.List.{count_by}
use Rattle.std.proofs.lemmas.List.Recursion.{is_count_by}
use Rattle.paxos_spec.specs.Five.{how_many}

one_more : (flag : Bool) (flags : List Bool) → how_many (flag ∷ flags) ≡ cond flag (1 + how_many flags) (how_many flags)
one_more true flags = add_comm (how_many flags) 1
one_more false flags = refl

pub counted_members : (flags : List Bool) → count_by (λ flag. flag) flags ≡ how_many flags
counted_members flags = sym (is_count_by how_many (λ flag. flag) refl one_more flags)
