-- Lists of connections and of held ranges: what an opening, a use and a closing do to counts.
use Rattle.std.proofs.Common.{◌≡◌, ◌≤◌, ◌<◌, refl, sym, ap, subst, ◌∙◌, ◌⊎◌, inl, inr, ℕ, zero, suc, ◌+◌, ◌-◌, ◌%◌}
use Rattle.std.proofs.Common.{Bool, true, false, not, cond, List, [], ◌∷◌, ◌++◌, Option, Some, None, if◌then◌else◌}
use Rattle.std.proofs.Common.{arith, min, length}
use Rattle.std.specs.Prelude.{map, option_map, filter, find, take, drop, nat_le, ◌==◌, ◌&&◌, ◌||◌}
use Rattle.std.specs.List.{flat_map, list_any}
use Rattle.std.proofs.lemmas.Bool.Decides.{nat_tests}
use Rattle.wire_core.proofs.SameLaws.{ip_is, ip_itself, key_is, key_itself}
use Rattle.wire_core.specs.Members.{In, Each}
use Rattle.wire_core.specs.Ranges.{allows, is_leasable, range_of}
use Rattle.wire_core.specs.Same.{same_ip, same_key}
use Rattle.wire_core.specs.declared.address.Ip4.{Ip4}
use Rattle.wire_core.specs.declared.flow.FlowKey.{FlowKey}
use Rattle.wire_core.specs.declared.range.Range.{Range}
use Rattle.wire_core.specs.declared.rules.VipRule.{VipRule}
use Rattle.vip_config.specs.Leases.{lease_rules_of, vip_rule}
use Rattle.vip_config.specs.Rules.{HasRanges, KeepsRules, Once}
use Rattle.vip_config.specs.Serving.{has_snat, is_snat, snat_vip}
use Rattle.vip_config.specs.declared.parts.ConfigParts.{ConfigParts}
use Rattle.vip_config.specs.declared.parts.VipConf.{VipConf}
use Rattle.agent_spec.specs.declared.connection.Connection.{Connection}
use Rattle.agent_spec.specs.declared.held.Held.{Held}
use Rattle.agent_spec.specs.Connections.{closed, has_private, private_key}
use Rattle.agent_spec.specs.Footprints.{lease_of}
use Rattle.agent_spec.specs.Keys.{OwnKeys}
use Rattle.agent_spec.specs.Ranges.{numbered, places, ports_in, ports_of}
use Rattle.agent_spec.specs.Through.{HasRange, count_of}

-- ---- lists

pub by_test : {X : Type 0} (P : X → Type 0) (b : Bool) {x y : X} → (b ≡ true → P x) → (b ≡ false → P y)
    → P (if b then x else y)
by_test P true f g = f refl
by_test P false f g = g refl

pub each_on : {X : Type 0} (P Q : X → Type 0) → ((x : X) → P x → Q x) → (xs : List X) → Each P xs → Each Q xs
each_on P Q f [] h = tt
each_on P Q f (x ∷ xs) h = (f x h.0, each_on P Q f xs h.1)

pub each_mapped : {X Y : Type 0} (P : Y → Type 0) (f : X → Y) (xs : List X) → Each (λ x. P (f x)) xs → Each P (map f xs)
each_mapped P f [] h = tt
each_mapped P f (x ∷ xs) h = (h.0, each_mapped P f xs h.1)

pub each_in : {X : Type 0} (P : X → Type 0) (xs : List X) (x : X) → Each P xs → In x xs → P x
each_in P [] x h i = absurd i
each_in P (y ∷ ys) x h i = elim i [ inl e ↦ subst P e h.0 | inr j ↦ each_in P ys x h.1 j ]

pub each_passing : {X : Type 0} (P Q : X → Type 0) (p : X → Bool) → ((x : X) → P x → p x ≡ true → Q x) → (xs : List X)
    → Each P xs → Each Q (filter p xs)
each_passing P Q p f [] h = tt
each_passing P Q p f (x ∷ xs) h = by (p x) refl (each_passing P Q p f xs h.1)
  where
    by : (b : Bool) → p x ≡ b → Each Q (filter p xs) → Each Q (cond b (x ∷ filter p xs) (filter p xs))
    by true e rest = (f x h.0 e, rest)
    by false e rest = rest

pub in_mapped : {X Y : Type 0} (f : X → Y) (xs : List X) (x : X) → In x xs → In (f x) (map f xs)
in_mapped f [] x i = absurd i
in_mapped f (y ∷ ys) x i = elim i [ inl e ↦ inl (ap f e) | inr j ↦ inr (in_mapped f ys x j) ]

pub in_filter : {X : Type 0} (p : X → Bool) (xs : List X) (x : X) → In x xs → p x ≡ true → In x (filter p xs)
in_filter p [] x i t = absurd i
in_filter p (y ∷ ys) x i t = by (p y) refl i (λ j. in_filter p ys x j t)
  where
    by : (b : Bool) → p y ≡ b → In x (y ∷ ys) → (In x ys → In x (filter p ys))
        → In x (cond b (y ∷ filter p ys) (filter p ys))
    by true is i rest = elim i [ inl e ↦ inl e | inr j ↦ inr (rest j) ]
    by false is i rest =
        elim i [ inl e ↦ absurd (let a : p x ≡ false = subst (λ z. p z ≡ false) e is in cc) | inr j ↦ rest j ]

pub in_left : {X : Type 0} (xs ys : List X) (x : X) → In x xs → In x (xs ++ ys)
in_left [] ys x i = absurd i
in_left (z ∷ zs) ys x i = elim i [ inl e ↦ inl e | inr j ↦ inr (in_left zs ys x j) ]

pub in_right : {X : Type 0} (xs ys : List X) (x : X) → In x ys → In x (xs ++ ys)
in_right [] ys x i = i
in_right (z ∷ zs) ys x i = inr (in_right zs ys x i)

in_cases : {X : Type 0} (xs ys : List X) (x : X) → In x (xs ++ ys) → In x xs ⊎ In x ys
in_cases [] ys x i = inr i
in_cases (z ∷ zs) ys x i =
    elim i [ inl e ↦ inl (inl e) | inr j ↦ elim (in_cases zs ys x j) [ inl k ↦ inl (inr k) | inr k ↦ inr k ] ]

-- what was found is one of the list
pub found_in : {X : Type 0} (p : X → Bool) (xs : List X) (x : X) → find p xs ≡ Some x → In x xs
found_in p [] x e = absurd (cc)
found_in p (y ∷ ys) x e = by (p y) e (found_in p ys x)
  where
    by : (b : Bool) → cond b (Some y) (find p ys) ≡ Some x → (find p ys ≡ Some x → In x ys) → In x (y ∷ ys)
    by true e rest = inl (cc)
    by false e rest = inr (rest e)

pub in_inserted : {X : Type 0} (x y : X) (k : ℕ) (xs : List X) → In y xs → In y (take k xs ++ x ∷ drop k xs)
in_inserted x y zero xs i = inr i
in_inserted x y (suc k) [] i = absurd i
in_inserted x y (suc k) (z ∷ zs) i = elim i [ inl e ↦ inl e | inr j ↦ inr (in_inserted x y k zs j) ]

pub each_inserted : {X : Type 0} (P : X → Type 0) (x : X) (k : ℕ) (xs : List X) → P x → Each P xs
    → Each P (take k xs ++ x ∷ drop k xs)
each_inserted P x zero xs p h = (p, h)
each_inserted P x (suc k) [] p h = (p, tt)
each_inserted P x (suc k) (y ∷ ys) p h = (h.0, each_inserted P x k ys p h.1)

-- ---- tests

pub both : (a b : Bool) → (a && b) ≡ true → (a ≡ true) × (b ≡ true)
both true true e = (refl, refl)
both true false e = absurd (cc)
both false b e = absurd (cc)

either : (a b : Bool) → (a || b) ≡ true → (a ≡ true) ⊎ (b ≡ true)
either true b e = inl refl
either false b e = inr e

pub neither : (a b : Bool) → (a || b) ≡ false → (a ≡ false) × (b ≡ false)
neither true b e = absurd (cc)
neither false b e = (refl, e)

pub is_equal : (a b : ℕ) → (a == b) ≡ true → a ≡ b
is_equal a b e = grind (arith, nat_tests, e)

pub same_number : (a b : ℕ) → a ≡ b → (a == b) ≡ true
same_number a b e = grind (arith, nat_tests, e)

-- ---- a machine leaves from one VIP

any_in : (m : Ip4) (ips : List Ip4) → list_any (same_ip m) ips ≡ true → In m ips
any_in m [] e = absurd (cc)
any_in m (a ∷ ips) e = elim (either (same_ip m a) (list_any (same_ip m) ips) e) [
  | inl is ↦ inl (sym (ip_is m a is))
  | inr later ↦ inr (any_in m ips later)
]

abbrev snats : List VipConf → List Ip4
snats vips = flat_map (λ (vip : VipConf). vip.snat) vips

snat_in : (a m : Ip4) (vips : List VipConf) → has_snat vips a m ≡ true → In m (snats vips)
snat_in a m [] e = absurd (cc)
snat_in a m (v ∷ vs) e = elim (either (same_ip v.address a && is_snat m v) (has_snat vs a m) e) [
  | inl is ↦ in_left v.snat (snats vs) m (any_in m v.snat (both (same_ip v.address a) (is_snat m v) is).1)
  | inr later ↦ in_right v.snat (snats vs) m (snat_in a m vs later)
]

once_apart : {X : Type 0} (xs ys : List X) (x : X) → Once (xs ++ ys) → In x xs → In x ys → ⊥
once_apart [] ys x o i j = i
once_apart (z ∷ zs) ys x o i j = elim i [
  | inl e ↦ o.0 (in_right zs ys z (subst (λ y. In y ys) (sym e) j))
  | inr k ↦ once_apart zs ys x o.1 k j
]

once_right : {X : Type 0} (xs ys : List X) → Once (xs ++ ys) → Once ys
once_right [] ys o = o
once_right (x ∷ xs) ys o = once_right xs ys o.1

-- two VIPs from which one machine leaves are one
pub has_both : (a b m : Ip4) (vips : List VipConf) → Once (snats vips) → has_snat vips a m ≡ true → has_snat vips b m
    ≡ true
    → a ≡ b
has_both a b m [] once p q = absurd (cc)
has_both a b m (z ∷ zs) once p q =
    elim (either (same_ip z.address a && is_snat m z) (has_snat zs a m) p) [
      | inl here ↦ elim (either (same_ip z.address b && is_snat m z) (has_snat zs b m) q) [
        | inl also ↦ sym (ip_is z.address a (both (same_ip z.address a) (is_snat m z) here).0)
            ∙ ip_is z.address b (both (same_ip z.address b) (is_snat m z) also).0
        | inr later ↦ absurd (once_apart z.snat (snats zs) m once
            (any_in m z.snat (both (same_ip z.address a) (is_snat m z) here).1) (snat_in b m zs later))
      ]
      | inr later ↦ elim (either (same_ip z.address b && is_snat m z) (has_snat zs b m) q) [
        | inl here ↦ absurd (once_apart z.snat (snats zs) m once
            (any_in m z.snat (both (same_ip z.address b) (is_snat m z) here).1) (snat_in a m zs later))
        | inr also ↦ has_both a b m zs (once_right z.snat (snats zs) once) later also
      ]
    ]

-- the VIP that is found is one of them
found_has : (m : Ip4) (vips : List VipConf) (v : VipConf) → find (is_snat m) vips ≡ Some v
    → has_snat vips v.address m ≡ true
found_has m [] v e = absurd (cc)
found_has m (z ∷ zs) v e = by (is_snat m z) refl e (found_has m zs v)
  where
    first : z ≡ v → is_snat m z ≡ true → has_snat (z ∷ zs) v.address m ≡ true
    first same is = subst (λ (x : VipConf). has_snat (z ∷ zs) x.address m ≡ true) same
        (rw (ip_itself z.address, is) refl)

    or_right : (b : Bool) {d : Bool} → d ≡ true → (b || d) ≡ true
    or_right true e = refl
    or_right false e = e

    by : (b : Bool) → is_snat m z ≡ b → cond b (Some z) (find (is_snat m) zs) ≡ Some v
        → (find (is_snat m) zs ≡ Some v → has_snat zs v.address m ≡ true) → has_snat (z ∷ zs) v.address m ≡ true
    by true is e rest = first (cc) is
    by false is e rest = or_right (same_ip z.address v.address && is_snat m z) (rest e)

found_address : (o : Option VipConf) (vip : Ip4)
    → option_map (λ (v : VipConf). v.address) o ≡ Some vip
    → (v : VipConf) × (o ≡ Some v) × (v.address ≡ vip)
found_address None vip e = absurd (cc)
found_address (Some v) vip e = (v, refl, cc)

-- the VIP from which a machine leaves is the one of each range that it may have
pub snat_is : (c : ConfigParts) → KeepsRules c → (a m vip : Ip4) → snat_vip c.vips m ≡ Some vip
    → has_snat c.vips a m ≡ true → a ≡ vip
unfolding snat_vip
snat_is c rules a m vip e has =
    let f = found_address (find (is_snat m) c.vips) vip e in
    has_both a f.0.address m c.vips rules.snat has (found_has m c.vips f.0 f.1) ∙ f.2

-- ---- a leasable range has eight ports

pub record Eight (start : ℕ) : Type 0 where
  pub multiple : start % 8 ≡ 0
  pub fits : start + 7 ≤ 65535

allowed : (vip : VipConf) (start : ℕ) → HasRanges vip → allows (vip_rule vip) start ≡ true → Eight start
allowed vip start h e =
    let multiple : (start % 8 == 0) ≡ true = grind arith in
    let fits : nat_le (start + 7) vip.high ≡ true = grind arith in
    let high : start + 7 ≤ vip.high = below (start + 7) vip.high fits in
    let most : vip.high ≤ 65535 = h.below in
    record { multiple = is_equal (start % 8) 0 multiple; fits = omega arith }
  where
    below : (m n : ℕ) → nat_le m n ≡ true → m ≤ n
    below m n e = grind (arith, nat_tests, e)

eight_in : (r : Range) (vips : List VipConf) → Each HasRanges vips
    → list_any (λ (rule : VipRule). (rule.vip.0 == r.vip.0) && allows rule r.start) (map vip_rule vips) ≡ true
    → Eight r.start
eight_in r [] h e = absurd (cc)
eight_in r (v ∷ vs) h e = elim (either ((v.address.0 == r.vip.0) && allows (vip_rule v) r.start) _ e) [
  | inl here ↦ allowed v r.start h.0 (both (v.address.0 == r.vip.0) (allows (vip_rule v) r.start) here).1
  | inr later ↦ eight_in r vs h.1 later
]

pub eight : (c : ConfigParts) → KeepsRules c → (r : Range) → is_leasable (lease_rules_of c) r ≡ true → Eight r.start
eight c rules r e = eight_in r c.vips rules.ranges e

floor : (s i : ℕ) → s % 8 ≡ 0 → i < 8 → s + i - (s + i) % 8 ≡ s
floor s i m lt = omega arith

no_more : (s i : ℕ) → s + 7 ≤ 65535 → i < 8 → min (s + i) 65535 ≡ s + i
no_more s i fits lt = omega arith

-- the range of each of its ports
pub port_in : (c : ConfigParts) → KeepsRules c → (r : Range) (i : ℕ) → is_leasable (lease_rules_of c) r ≡ true → i < 8
    → r ≡ range_of r.vip (min (r.start + i) 65535)
port_in c rules r i leasable lt =
    let e : Eight r.start = eight c rules r leasable in
    let same : min (r.start + i) 65535 ≡ r.start + i = no_more r.start i e.fits lt in
    rw (same, floor r.start i e.multiple lt) refl

-- ---- the ports of a machine

each_place : Each (λ (i : ℕ). i < 8) places
each_place = (
  omega arith,
  (omega arith, (omega arith, (omega arith, (omega arith, (omega arith, (omega arith, (omega arith, tt))))))),
)

in_image : {X Y : Type 0} (P : X → Type 0) (f : X → Y) (xs : List X) (y : Y) → Each P xs → In y (map f xs)
    → (x : X) × P x × (f x ≡ y)
in_image P f [] y h i = absurd i
in_image P f (x ∷ xs) y h i = elim i [ inl e ↦ (x, h.0, e) | inr j ↦ in_image P f xs y h.1 j ]

-- where a port of a machine comes from
pub record IsPortOf (hs : List Held) (machine : Ip4) (chosen : ℕ × ℕ) : Type 0 where
  pub range : Held
  pub there : In range hs
  pub own : range.machine ≡ machine
  pub place : ℕ
  pub lt : place < 8
  pub is : numbered range place ≡ chosen

pub port_of : (hs : List Held) (machine : Ip4) (chosen : ℕ × ℕ) → In chosen (ports_of hs machine)
    → IsPortOf hs machine chosen
unfolding ports_of
port_of [] machine chosen i = absurd i
port_of (h ∷ hs) machine chosen i = elim (in_cases (ports_in machine h) (ports_of hs machine) chosen i) [
  | inl here ↦ by (same_ip h.machine machine) refl here
  | inr later ↦ (let k = port_of hs machine chosen later in record {
    range = k.range;
    there = inr k.there;
    own = k.own;
    place = k.place;
    lt = k.lt;
    is = k.is;
  })
]
  where
    by : (b : Bool) → same_ip h.machine machine ≡ b → In chosen (cond b (map (numbered h) places) [])
        → IsPortOf (h ∷ hs) machine chosen
    by true e here =
        let k = in_image (λ (i : ℕ). i < 8) (numbered h) places chosen each_place here in record {
          range = h;
          there = inl refl;
          own = ip_is h.machine machine e;
          place = k.0;
          lt = k.1;
          is = k.2;
        }
    by false e here = absurd here

-- ---- counts

pub count_append : (n : ℕ) (cs : List Connection) (x : Connection)
    → count_of n (cs ++ x ∷ []) ≡ count_of n cs + (if x.n == n then 1 else 0)
count_append n [] x = plus_none (if x.n == n then 1 else 0)
  where
    plus_none : (k : ℕ) → k + 0 ≡ 0 + k
    plus_none k = omega arith
count_append n (y ∷ ys) x =
    ap (λ (k : ℕ). (if y.n == n then 1 else 0) + k) (count_append n ys x)
    ∙ along (if y.n == n then 1 else 0) (count_of n ys) (if x.n == n then 1 else 0)
  where
    along : (a b d : ℕ) → a + (b + d) ≡ a + b + d
    along a b d = omega arith

pub count_mapped : (f : Connection → Connection) → ((x : Connection) → (f x).n ≡ x.n) → (n : ℕ) (cs : List Connection)
    → count_of n (map f cs) ≡ count_of n cs
count_mapped f same n [] = refl
count_mapped f same n (x ∷ xs) = rw (same x, count_mapped f same n xs) refl

pub count_least : (n : ℕ) (cs : List Connection) → count_of n cs ≤ length cs
count_least n [] = omega arith
count_least n (x ∷ xs) = by (x.n == n) (count_least n xs)
  where
    by : (b : Bool) → count_of n xs ≤ length xs → (if b then 1 else 0) + count_of n xs ≤ suc (length xs)
    by true h = omega arith
    by false h = omega arith

pub none_of : (n : ℕ) (cs : List Connection) → count_of n cs ≡ 0 → Each (λ (x : Connection). (x.n == n) ≡ false) cs
none_of n [] e = tt
none_of n (x ∷ xs) e = by (x.n == n) refl e (none_of n xs)
  where
    by : (b : Bool) → (x.n == n) ≡ b → (if b then 1 else 0) + count_of n xs ≡ 0
        → (count_of n xs ≡ 0 → Each (λ (y : Connection). (y.n == n) ≡ false) xs)
        → ((x.n == n) ≡ false) × Each (λ (y : Connection). (y.n == n) ≡ false) xs
    by true is e rest = absurd (omega arith)
    by false is e rest = (is, rest (omega arith))

pub count_none : (n : ℕ) (cs : List Connection) → Each (λ (x : Connection). (x.n == n) ≡ false) cs → count_of n cs ≡ 0
count_none n [] h = refl
count_none n (x ∷ xs) h = rw (h.0, count_none n xs h.1) refl

-- ---- a connection closes

pub other_way : (a b : FlowKey) → same_key a b ≡ false → same_key b a ≡ false
other_way a b e = by (same_key b a) refl
  where
    by : (r : Bool) → same_key b a ≡ r → r ≡ false
    by true is = (let back : same_key a a ≡ false = subst (λ (k : FlowKey). same_key a k ≡ false) (key_is b a is) e in
        absurd (let yes = key_itself a in cc))
    by false is = refl

none_closed : (k : FlowKey) (cs : List Connection) → Each (λ (x : Connection). has_private k x ≡ false) cs → closed k cs
    ≡ cs
none_closed k [] h = refl
none_closed k (x ∷ xs) h =
    ap (λ (b : Bool). cond (not b) (x ∷ closed k xs) (closed k xs)) h.0
    ∙ ap (λ (ys : List Connection). x ∷ ys) (none_closed k xs h.1)

pub count_closed : (k : FlowKey) (cs : List Connection) (y : Connection) → OwnKeys private_key cs → In y cs
    → private_key y ≡ k → (n : ℕ) → count_of n cs ≡ count_of n (closed k cs) + (if y.n == n then 1 else 0)
count_closed k [] y own i e n = absurd i
count_closed k (z ∷ zs) y own i e n =
    elim i [ inl here ↦ first here | inr later ↦ rest later (count_closed k zs y own.1 later e n) ]
  where
    swapped : (a b : ℕ) → a + b ≡ b + a
    swapped a b = omega arith

    moved : (a b d f : ℕ) → b ≡ d + f → a + b ≡ a + d + f
    moved a b d f e = omega arith

    first : z ≡ y → count_of n (z ∷ zs) ≡ count_of n (closed k (z ∷ zs)) + (if y.n == n then 1 else 0)
    first here =
        let key : private_key z ≡ k = ap private_key here ∙ e in
        let yes : has_private k z ≡ true = subst (λ (q : FlowKey). same_key (private_key z) q ≡ true) key
        (key_itself (private_key z)) in
        let none : Each (λ (x : Connection). has_private k x ≡ false) zs =
        each_on _ (λ (x : Connection). has_private k x ≡ false)
        (λ x apart. subst (λ (q : FlowKey). same_key (private_key x) q ≡ false) key
        (other_way (private_key z) (private_key x) apart)) zs own.0 in
        let left : closed k (z ∷ zs) ≡ zs =
        ap (λ (b : Bool). cond (not b) (z ∷ closed k zs) (closed k zs)) yes ∙ none_closed k zs none in
        swapped (if z.n == n then 1 else 0) (count_of n zs)
        ∙ ap (λ (q : Connection). count_of n zs + (if q.n == n then 1 else 0)) here
        ∙ ap (λ (xs : List Connection). count_of n xs + (if y.n == n then 1 else 0)) (sym left)

    rest : In y zs → count_of n zs ≡ count_of n (closed k zs) + (if y.n == n then 1 else 0)
        → count_of n (z ∷ zs) ≡ count_of n (closed k (z ∷ zs)) + (if y.n == n then 1 else 0)
    rest later more =
        let apart : same_key (private_key z) (private_key y) ≡ false =
        each_in (λ (x : Connection). same_key (private_key z) (private_key x) ≡ false) zs y own.0 later in
        let no : has_private k z ≡ false = subst (λ (q : FlowKey). same_key (private_key z) q ≡ false) e apart in
        let left : closed k (z ∷ zs) ≡ z ∷ closed k zs =
        ap (λ (b : Bool). cond (not b) (z ∷ closed k zs) (closed k zs)) no in
        moved (if z.n == n then 1 else 0) (count_of n zs) (count_of n (closed k zs)) (if y.n == n then 1 else 0) more
        ∙ ap (λ (xs : List Connection). count_of n xs + (if y.n == n then 1 else 0)) (sym left)

pub fewer : (p : Connection → Bool) (cs : List Connection) → length (filter p cs) ≤ length cs
fewer p [] = omega arith
fewer p (x ∷ xs) = by (p x) (fewer p xs)
  where
    by : (b : Bool) → length (filter p xs) ≤ length xs
        → length (cond b (x ∷ filter p xs) (filter p xs)) ≤ suc (length xs)
    by true h = omega arith
    by false h = omega arith

-- ---- held ranges

-- an edit that keeps the leases keeps the range of a connection
pub has_mapped : (f : Held → Held) → ((h : Held) → lease_of (f h) ≡ lease_of h) → (hs : List Held) (x : Connection)
    → HasRange hs x → HasRange (map f hs) x
has_mapped f same hs x k =
    let e : lease_of (f k.range) ≡ lease_of k.range = same k.range in record {
      range = f k.range;
      there = in_mapped f hs k.range k.there;
      through = record {
        number = ap (λ l. l.0) e ∙ k.through.number;
        machine = ap (λ l. l.1.1) e ∙ k.through.machine;
        range = ap (λ l. l.1.0) e ∙ k.through.range;
      };
    }

-- so does the range's end, where the connection isn't in it
pub has_filtered : (n : ℕ) (hs : List Held) (x : Connection) → (x.n == n) ≡ false → HasRange hs x
    → HasRange (filter (λ (h : Held). not (h.n == n)) hs) x
has_filtered n hs x other k = record {
  range = k.range;
  there = in_filter (λ (h : Held). not (h.n == n)) hs k.range k.there
      (let e : (k.range.n == n) ≡ false = subst (λ (m : ℕ). (m == n) ≡ false) (sym k.through.number) other in
      ap not e);
  through = k.through;
}
