-- What stands first beside a key is found at once.
use Rattle.std.proofs.Common.{◌≡◌, ℕ, ◌+◌, ◌<◌, Bool, true, false, ◌&&◌, ◌||◌, List, [], ◌∷◌, ◌++◌, map}
use Rattle.std.proofs.Common.{length, take, get_or, cond}
use Rattle.std.proofs.Common.{find, Option, Some, None, is_some, option_map, refl, ap, sym, ◌∙◌, true≢false}
use Rattle.std.specs.List.{flat_map, list_any}
use Rattle.std.specs.Map.{lookup}
use Rattle.indexmap.specs.IndexMap.{insert_entry}
use Rattle.std.specs.Option.{option_or}
use Rattle.std.proofs.lemmas.List.{append_assoc}
use Rattle.wire_core.specs.declared.address.Ip4.{Ip4}
use Rattle.wire_core.specs.Members.{In}
use Rattle.wire_core.specs.Same.{same_ip}
use Rattle.wire_core.proofs.SameLaws.{ip_is}
use Rattle.vip_config.specs.Rules.{Once}
use Rattle.vip_config.specs.Serving.{has_snat, is_snat, snat_vip}
use Rattle.vip_config.specs.Ways.{FindsAs, all_leaves, leaves_of}
use Rattle.vip_config.specs.declared.parts.VipConf.{VipConf}
use Rattle.vip_config.proofs.Clean.{any_member, no_member}
use Rattle.vip_config.proofs.Members.{in_left, in_right, once_apart, once_right}
use Rattle.vip_config.proofs.Loops.{joined_more, mapped_more}
use Rattle.vip_config.proofs.Walks.{insert_last}

pub lookup_append : {K V : Type 0} (t : K → Bool) (es fs : List (K × V))
    → lookup t (es ++ fs) ≡ option_or (lookup t es) (lookup t fs)
lookup_append t [] fs = refl
lookup_append t (e ∷ es) fs = by (t e.0) refl (lookup_append t es fs)
  where
    by : (b : Bool) → t e.0 ≡ b → lookup t (es ++ fs) ≡ option_or (lookup t es) (lookup t fs)
        → lookup t (e ∷ (es ++ fs)) ≡ option_or (lookup t (e ∷ es)) (lookup t fs)
    by true is rest = rw is refl
    by false is rest = rw is rest

some_first : {V : Type 0} (o p : Option V) → is_some o ≡ true → o ≡ option_or o p
some_first (Some x) p is = refl
some_first None p is = absurd (true≢false (sym is))

pub none_last : {V : Type 0} (o : Option V) → o ≡ option_or o None
none_last (Some x) = refl
none_last None = refl

module _ {K V : Type 0} (same : K → K → Bool) where
  -- a key that stands there already hides what comes later
  pub hidden : ((a b : K) → same a b ≡ true → a ≡ b) → (es : List (K × V)) (a : K) (v : V)
      → is_some (lookup (same a) es) ≡ true → FindsAs same es (es ++ (a, v) ∷ [])
  hidden is_same es a v there k = by (same k a) refl ∙ sym (lookup_append (same k) es ((a, v) ∷ []))
    where
      by : (b : Bool) → same k a ≡ b
          → lookup (same k) es ≡ option_or (lookup (same k) es) (lookup (same k) ((a, v) ∷ []))
      by true is =
          some_first (lookup (same k) es) _
          (ap (λ x. is_some (lookup (same x) es)) (is_same k a is) ∙ there)
      by false is = rw is (none_last (lookup (same k) es))

  pub added : (es new : List (K × V)) (a : K) (v : V) → is_some (lookup (same a) es) ≡ false
      → new ≡ insert_entry same es a v → FindsAs same new (es ++ (a, v) ∷ [])
  added es new a v none is k = ap (lookup (same k)) (is ∙ insert_last same es a v none)

  -- what is found so far, and what is added to it
  pub finds_more : (was now ys zs all : List (K × V)) → FindsAs same was ys → FindsAs same now (was ++ zs)
      → ys ++ zs ≡ all → FindsAs same now all
  finds_more was now ys zs all so_far step is k =
      step k ∙ lookup_append (same k) was zs
      ∙ ap (λ o. option_or o (lookup (same k) zs)) (so_far k)
      ∙ sym (lookup_append (same k) ys zs) ∙ ap (lookup (same k)) is

module _ {A K V : Type 0} (same : K → K → Bool) (xs : List A) (i : ℕ) (d : A) (within : i < length xs) where
  pub finds_mapped : (f : A → K × V) (front was now : List (K × V)) → FindsAs same was (front ++ map f (take i xs))
      → FindsAs same now (was ++ f (get_or xs i d) ∷ []) → FindsAs same now (front ++ map f (take (i + 1) xs))
  finds_mapped f front was now so_far step =
      finds_more same was now (front ++ map f (take i xs)) (f (get_or xs i d) ∷ []) (front ++ map f (take (i + 1) xs))
      so_far step (mapped_more xs i d within f front (front ++ map f (take i xs)) _ refl refl)

  pub finds_joined : (f : A → List (K × V)) (was now : List (K × V)) → FindsAs same was (flat_map f (take i xs))
      → FindsAs same now (was ++ f (get_or xs i d)) → FindsAs same now (flat_map f (take (i + 1) xs))
  finds_joined f was now so_far step =
      finds_more same was now (flat_map f (take i xs)) (f (get_or xs i d)) (flat_map f (take (i + 1) xs))
      so_far step (joined_more xs i d within f (flat_map f (take i xs)) _ refl refl)

  -- the same, behind what was there before
  pub finds_behind : (f : A → List (K × V)) (front was now : List (K × V))
      → FindsAs same was (front ++ flat_map f (take i xs)) → FindsAs same now (was ++ f (get_or xs i d))
      → FindsAs same now (front ++ flat_map f (take (i + 1) xs))
  finds_behind f front was now so_far step =
      finds_more same was now (front ++ flat_map f (take i xs)) (f (get_or xs i d))
      (front ++ flat_map f (take (i + 1) xs)) so_far step
      (append_assoc front (flat_map f (take i xs)) (f (get_or xs i d))
      ∙ ap (λ l. front ++ l) (joined_more xs i d within f (flat_map f (take i xs)) _ refl refl))

-- ---- leaving

leaves_found : (t : Ip4 → Bool) (vip : Ip4) (machines : List Ip4)
    → lookup t (map (λ (machine : Ip4). (machine, vip)) machines) ≡ cond (list_any t machines) (Some vip) None
leaves_found t vip [] = refl
leaves_found t vip (m ∷ ms) = by (t m) refl (leaves_found t vip ms)
  where
    by : (b : Bool) → t m ≡ b
        → lookup t (map (λ (machine : Ip4). (machine, vip)) ms) ≡ cond (list_any t ms) (Some vip) None
        → lookup t (map (λ (machine : Ip4). (machine, vip)) (m ∷ ms)) ≡ cond (list_any t (m ∷ ms)) (Some vip) None
    by true is rest = rw is refl
    by false is rest = rw is rest

pub leaving_is : (vips : List VipConf) (machine : Ip4)
    → lookup (same_ip machine) (all_leaves vips) ≡ snat_vip vips machine
unfolding snat_vip
leaving_is [] machine = refl
leaving_is (x ∷ xs) machine =
    lookup_append (same_ip machine) (leaves_of x) (all_leaves xs)
    ∙ ap (λ o. option_or o (lookup (same_ip machine) (all_leaves xs)))
    (leaves_found (same_ip machine) x.address x.snat)
    ∙ by (is_snat machine x) refl (leaving_is xs machine)
  where
    by : (b : Bool) → is_snat machine x ≡ b → lookup (same_ip machine) (all_leaves xs) ≡ snat_vip xs machine
        → option_or (cond (is_snat machine x) (Some x.address) None) (lookup (same_ip machine) (all_leaves xs))
        ≡ option_map (λ (vip : VipConf). vip.address) (find (is_snat machine) (x ∷ xs))
    by true is rest = rw is refl
    by false is rest = rw is rest

-- whether this is the VIP, where there is one
abbrev pub is_from : Ip4 → Option Ip4 → Bool
is_from a None = false
is_from a (Some vip) = same_ip vip a

and_false : (b : Bool) → (b && false) ≡ false
and_false true = refl
and_false false = refl

or_false : (b : Bool) → ((b && true) || false) ≡ b
or_false true = refl
or_false false = refl

-- where the machine stands in no `snat`
none_leaves : (vips : List VipConf) (a machine : Ip4) → (In machine (flat_map (λ vip. vip.snat) vips) → ⊥)
    → has_snat vips a machine ≡ false
none_leaves [] a machine apart = refl
none_leaves (x ∷ xs) a machine apart =
    let snat = flat_map (λ (vip : VipConf). vip.snat) xs in
    let here : is_snat machine x ≡ false =
    no_member same_ip ip_is machine x.snat (λ i. apart (in_left x.snat snat machine i)) in
    let rest = none_leaves xs a machine (λ i. apart (in_right x.snat snat machine i)) in
    rw (here, rest) (ap (λ b. b || false) (and_false (same_ip x.address a)))

pub snat_found : (vips : List VipConf) (a machine : Ip4) → Once (flat_map (λ vip. vip.snat) vips)
    → has_snat vips a machine ≡ is_from a (snat_vip vips machine)
unfolding snat_vip
snat_found [] a machine once = refl
snat_found (x ∷ xs) a machine once =
    by (is_snat machine x) refl (snat_found xs a machine (once_right x.snat (flat_map (λ vip. vip.snat) xs) once))
  where
    by : (b : Bool) → is_snat machine x ≡ b → has_snat xs a machine ≡ is_from a (snat_vip xs machine)
        → has_snat (x ∷ xs) a machine
        ≡ is_from a (option_map (λ (vip : VipConf). vip.address) (find (is_snat machine) (x ∷ xs)))
    by true is rest =
        let here = any_member same_ip ip_is machine x.snat is in
        let apart = once_apart x.snat (flat_map (λ (vip : VipConf). vip.snat) xs) machine once here in
        rw (is, none_leaves xs a machine apart) (or_false (same_ip x.address a))
    by false is rest = rw (is, and_false (same_ip x.address a)) rest
