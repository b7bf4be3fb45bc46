-- Known boots and last requests in maps, and in the lists that the table tells of.
use Rattle.std.proofs.Common.{◌≡◌, ℕ, List, [], ◌∷◌, Some, unwrap_or, option_map, nat_eq, refl, ap, sym, ◌∙◌, arith}
use Rattle.std.specs.Map.{lookup}
use Rattle.std.proofs.lemmas.Bool.Decides.{nat_tests}
use Rattle.indexmap.specs.IndexMap.{insert_entry}
use Rattle.wire_core.specs.declared.address.Ip4.{Ip4}
use Rattle.lease_spec.specs.Table.{known_boot, last_of, with_known, with_last}
use Rattle.port_leases.specs.declared.requests.Request.{Request}
use Rattle.port_leases.specs.Requests.{last_with}
use Rattle.lease_rows.specs.Rows.{same_address}
use Rattle.port_leases.specs.Store.{known_of, last_entry, lasts_of}
use Rattle.lease_rows.proofs.Indexed.{address_is, by_test}

pub known_at : (agent : ℕ) (es : List (ℕ × ℕ)) → unwrap_or (lookup (nat_eq agent) es) 0 ≡ known_boot (known_of es) agent
known_at agent [] = refl
known_at agent (e ∷ es) = grind (arith, nat_tests, known_at agent es)

pub put_known_of : (agent boot : ℕ) (es : List (ℕ × ℕ)) → known_of (insert_entry nat_eq es agent boot) ≡ with_known agent boot (known_of es)
put_known_of agent boot [] = refl
put_known_of agent boot (e ∷ es) = grind (arith, nat_tests, put_known_of agent boot es)

flip : (a b : Ip4) → same_address a b ≡ same_address b a
flip a b = grind (arith, nat_tests)

pub last_at : (machine : Ip4) (es : List (Ip4 × Request)) → option_map (last_with machine) (lookup (same_address machine) es) ≡ last_of (lasts_of es) machine
last_at machine [] = refl
last_at machine (e ∷ es) = by_test (same_address machine e.0)
    (λ hit. let is = address_is machine e.0 hit in let back = sym (flip machine e.0) ∙ hit in rw (hit, back) (ap (λ m. Some (last_with m e.1)) is))
    (λ miss. let back = sym (flip machine e.0) ∙ miss in rw (miss, back) (last_at machine es))

pub put_last_of : (machine : Ip4) (r : Request) (es : List (Ip4 × Request)) → lasts_of (insert_entry same_address es machine r) ≡ with_last (last_with machine r) (lasts_of es)
put_last_of machine r [] = refl
put_last_of machine r (e ∷ es) = by_test (same_address machine e.0)
    (λ hit. let is = address_is machine e.0 hit in let back = sym (flip machine e.0) ∙ hit in rw (hit, back) (ap (λ m. last_with m r ∷ lasts_of es) (sym is)))
    (λ miss. let back = sym (flip machine e.0) ∙ miss in rw (miss, back) (ap (λ rest. last_entry e ∷ rest) (put_last_of machine r es)))
