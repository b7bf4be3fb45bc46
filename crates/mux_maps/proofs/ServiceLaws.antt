-- Look-ups among services, as endpoints come.
use Rattle.std.proofs.Common.{◌≡◌, ℕ, ◌+◌, ◌<◌, Bool, true, false, cond, List, [], ◌∷◌, ◌++◌, map, length, take, get_or, Option, Some, None, is_some, if◌then◌else◌, refl, ap, sym, ◌∙◌, arith}
use Rattle.std.specs.List.{flat_map}
use Rattle.std.specs.Map.{lookup}
use Rattle.std.specs.Option.{option_or}
use Rattle.std.proofs.lemmas.Bool.Decides.{nat_tests}
use Rattle.std.proofs.lemmas.List.{take_more, append-nil, map-append}
use Rattle.std.proofs.lemmas.Grind.{flat_map-append}
use Rattle.indexmap.specs.IndexMap.{insert_entry}
use Rattle.wire_core.specs.declared.address.Ip4.{Ip4}
use Rattle.wire_core.specs.declared.flow.Proto.{Proto}
use Rattle.wire_core.specs.declared.flow.Proto.TheVariants.{Tcp, Udp}
use Rattle.wire_core.specs.Same.{same_proto}
use Rattle.mux_spec.specs.declared.service.Service.{Service}
use Rattle.mux_spec.specs.Services.{same_service}

abbrev Served : Type 0
Served = List (Service × List Ip4)

proto-sym : (p q : Proto) → same_proto p q ≡ same_proto q p
proto-sym Tcp Tcp = refl
proto-sym Tcp Udp = refl
proto-sym Udp Tcp = refl
proto-sym Udp Udp = refl

pub service-sym : (a b : Service) → same_service a b ≡ same_service b a
service-sym a b = let p = proto-sym a.proto b.proto in grind (arith, nat_tests, p)

pub lookup-append : (t : Service → Bool) (a b : Served) → lookup t (a ++ b) ≡ option_or (lookup t a) (lookup t b)
lookup-append t [] b = refl
lookup-append t (e ∷ a) b = let rest = lookup-append t a b in grind (arith, rest)

or-assoc : (a b c : Option (List Ip4)) → option_or (option_or a b) c ≡ option_or a (option_or b c)
or-assoc None b c = refl
or-assoc (Some x) b c = refl

module _ {A : Type 0} (s : Service) (xs : List A) (i : ℕ) (d : A) (within : i < length xs) where
  pub one_more : (f : A → Service × List Ip4) (before was now : Option (List Ip4)) → now ≡ option_or was (if same_service (f (get_or xs i d)).0 s then Some (f (get_or xs i d)).1 else None) → was ≡ option_or before (lookup (same_service s) (map f (take i xs))) → now ≡ option_or before (lookup (same_service s) (map f (take (i + 1) xs)))
  one_more f before was now step so_far =
      let x : A = get_or xs i d in
      let turned : (if same_service (f x).0 s then Some (f x).1 else None) ≡ lookup (same_service s) (f x ∷ []) = ap (λ (b : Bool). if b then Some (f x).1 else None) (service-sym (f x).0 s) in
      step ∙ ap (λ o. option_or was o) turned ∙ ap (λ o. option_or o (lookup (same_service s) (f x ∷ []))) so_far
      ∙ or-assoc before (lookup (same_service s) (map f (take i xs))) (lookup (same_service s) (f x ∷ []))
      ∙ ap (λ o. option_or before o) (sym (lookup-append (same_service s) (map f (take i xs)) (f x ∷ [])))
      ∙ ap (λ l. option_or before (lookup (same_service s) l)) (sym (ap (map f) (take_more xs i d within) ∙ map-append f (take i xs) (x ∷ [])))

  pub some_more : (f : A → Served) (was now : Option (List Ip4)) → now ≡ option_or was (lookup (same_service s) (f (get_or xs i d))) → was ≡ lookup (same_service s) (flat_map f (take i xs)) → now ≡ lookup (same_service s) (flat_map f (take (i + 1) xs))
  some_more f was now step so_far =
      let x : A = get_or xs i d in
      step ∙ ap (λ o. option_or o (lookup (same_service s) (f x))) so_far
      ∙ sym (lookup-append (same_service s) (flat_map f (take i xs)) (f x))
      ∙ ap (lookup (same_service s)) (sym (ap (flat_map f) (take_more xs i d within) ∙ flat_map-append f (take i xs) (x ∷ []) ∙ ap (λ l. flat_map f (take i xs) ++ l) (append-nil (f x))))

module _ (eq : Service → Service → Bool) (is : (a b : Service) → eq a b ≡ same_service a b) (r : Service) (v : List Ip4) (s : Service) where
  pub insert_looks : (es : Served) → is_some (lookup (same_service r) es) ≡ false → lookup (same_service s) (insert_entry eq es r v) ≡ option_or (lookup (same_service s) es) (if same_service r s then Some v else None)
  insert_looks [] h = let turned = service-sym s r in grind (arith, turned)
  insert_looks (e ∷ es) h = by (insert_looks es) (same_service r e.0) refl
    where
      by : (is_some (lookup (same_service r) es) ≡ false → lookup (same_service s) (insert_entry eq es r v) ≡ option_or (lookup (same_service s) es) (if same_service r s then Some v else None)) → (b : Bool) → same_service r e.0 ≡ b → lookup (same_service s) (insert_entry eq (e ∷ es) r v) ≡ option_or (lookup (same_service s) (e ∷ es)) (if same_service r s then Some v else None)
      by rest true same = let here = rw same at h in absurd (cc)
      by rest false other = let later = rest (rw other at h) in let here = is r e.0 ∙ other in grind (arith, here, later)
