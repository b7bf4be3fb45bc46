-- Tests of numbers and addresses.
use Rattle.std.proofs.Common.{◌≡◌, ℕ, Bool, true, false, ◌==◌, refl, ap, arith}
use Rattle.std.specs.Prelude.{◌&&◌}
use Rattle.std.proofs.lemmas.Bool.Decides.{nat_tests}
use Rattle.wire_core.specs.declared.address.Ip4.{Ip4}

pub both : (a b : Bool) → (a && b) ≡ true → (a ≡ true) × (b ≡ true)
both true b e = (refl, e)
both false b e = absurd (cc)

pub number_is : (a b : ℕ) → (a == b) ≡ true → a ≡ b
number_is a b e = grind (arith, nat_tests)

pub number_same : (a : ℕ) → (a == a) ≡ true
number_same a = grind (arith, nat_tests)

pub address_is : (a b : Ip4) → a.0 ≡ b.0 → a ≡ b
address_is a b e = ap (λ (n : ℕ). let ip : Ip4 = record { 0 = n } in ip) e
