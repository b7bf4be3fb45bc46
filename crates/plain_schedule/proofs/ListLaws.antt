-- The newest connection of a kind, and the least facts of lists.
use Rattle.std.proofs.Common.{◌≡◌, ◌≢◌, ◌⊎◌, inl, inr, ℕ, Bool, true, false, ◌==◌, List, [], ◌∷◌, ◌++◌, map, filter, Option, Some, None, refl, subst}
use Rattle.std.specs.Prelude.{if◌then◌else◌, fold, cond}
use Rattle.std.specs.List.{flat_map}
use Rattle.std.proofs.lemmas.Grind.{fold-append}
use Rattle.std.proofs.lemmas.List.Concat.{flat_map-cons}
use Rattle.wire_core.specs.Members.{In}
use Rattle.lease_spec.specs.declared.row.Row.{Row}
use Rattle.lease_spec.specs.Table.{row_at}
use Rattle.lease_spec.specs.Holders.{OwnNumbers}
use Rattle.lease_spec.proofs.MemberLaws.{each_in, in_cases}
use Rattle.plain_schedule.specs.declared.connections.Connection.{Connection}
use Rattle.plain_schedule.specs.Connections.{newest}
use Rattle.plain_schedule.proofs.KeyLaws.{number_is, number_same}

-- ---- the newest connection of a kind

pub newest-more : (kind : Connection → Bool) (opened : List Connection) (c : Connection)
    → newest kind (opened ++ c ∷ []) ≡ (if kind c then Some c else newest kind opened)
newest-more kind opened c = fold-append (λ found d. if kind d then Some d else found) None opened (c ∷ [])

-- it is one of the list and of the kind
pub newest_from : (kind : Connection → Bool) (ds : List Connection) (found : Option Connection) (c : Connection)
    → fold (λ f d. if kind d then Some d else f) found ds ≡ Some c → (found ≡ Some c) ⊎ (In c ds × (kind c ≡ true))
newest_from kind [] found c e = inl e
newest_from kind (d ∷ ds) found c e = elim (newest_from kind ds (if kind d then Some d else found) c e) [
  | inl f ↦ by (kind d) refl f
  | inr h ↦ inr (inr h.0, h.1)
]
  where
    by : (b : Bool) → kind d ≡ b → cond b (Some d) found ≡ Some c → (found ≡ Some c) ⊎ (In c (d ∷ ds) × (kind c ≡ true))
    by true is f = let same : d ≡ c = cc in inr (inl same, subst (λ (x : Connection). kind x ≡ true) same is)
    by false is f = inl f

pub newest_in : (kind : Connection → Bool) (opened : List Connection) (c : Connection) → newest kind opened ≡ Some c
    → In c opened × (kind c ≡ true)
newest_in kind opened c e = elim (newest_from kind opened None c e) [ inl none ↦ absurd (cc) | inr h ↦ h ]

pub none_some : {X : Type 0} {x : X} {G : Type 0} → None ≡ Some x → G
none_some e = absurd (cc)

-- ---- rows and lists

pub in_filter_back : {X : Type 0} (p : X → Bool) (xs : List X) (x : X) → In x (filter p xs) → In x xs × (p x ≡ true)
in_filter_back p [] x i = absurd i
in_filter_back p (y ∷ ys) x i = by (p y) refl i (in_filter_back p ys x)
  where
    by : (b : Bool) → p y ≡ b → In x (cond b (y ∷ filter p ys) (filter p ys))
        → (In x (filter p ys) → In x ys × (p x ≡ true)) → In x (y ∷ ys) × (p x ≡ true)
    by true is i rest =
        elim i [ inl e ↦ (inl e, subst (λ z. p z ≡ true) e is) | inr j ↦ let r = rest j in (inr r.0, r.1) ]
    by false is i rest = let r = rest i in (inr r.0, r.1)

pub in_map_back : {X Y : Type 0} (f : X → Y) (xs : List X) (y : Y) → In y (map f xs) → (x : X) × In x xs × (f x ≡ y)
in_map_back f [] y i = absurd i
in_map_back f (x ∷ xs) y i =
    elim i [ inl e ↦ (x, inl refl, e) | inr j ↦ let r = in_map_back f xs y j in (r.0, inr r.1, r.2) ]

pub in_flat_map : {X Y : Type 0} (f : X → List Y) (xs : List X) (y : Y) → In y (flat_map f xs)
    → (x : X) × In x xs × In y (f x)
in_flat_map f [] y i = absurd i
in_flat_map f (x ∷ xs) y i = elim (in_cases (f x) (flat_map f xs) y (subst (In y) (flat_map-cons f x xs) i)) [
  | inl here ↦ (x, inl refl, here)
  | inr there ↦ let r = in_flat_map f xs y there in (r.0, inr r.1, r.2)
]

-- a row is found by its number, where no other has it
pub own_row : (rs : List Row) (row : Row) → OwnNumbers rs → In row rs → row_at rs row.n ≡ Some row
own_row [] row own i = absurd i
own_row (r ∷ rs) row own i = elim i [
  | inl e ↦
      let same : (r.n == row.n) ≡ true = subst (λ (x : Row). (r.n == x.n) ≡ true) e (number_same r.n) in
      rw (same, e) refl
  | inr j ↦ let apart : r.n ≢ row.n = each_in (λ (x : Row). r.n ≢ x.n) rs row own.0 j in
      let off : (r.n == row.n) ≡ false = differ r.n row.n apart in rw off (own_row rs row own.1 j)
]
  where
    differ : (a b : ℕ) → a ≢ b → (a == b) ≡ false
    differ a b d = by (a == b) refl
      where
        by : (c : Bool) → (a == b) ≡ c → (a == b) ≡ false
        by true is = absurd (d (number_is a b is))
        by false is = is
