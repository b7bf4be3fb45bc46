-- Members that claim keys, each of which may be claimed once.
use Rattle.std.specs.Prelude.{◌≡◌, ℕ, suc, Bool, not, ◌||◌, List, [], ◌∷◌, ◌++◌, map, fold, Option, Some, None, is_some}
use Rattle.std.specs.Prelude.{if◌then◌else◌, Result, Ok, Err}
use Rattle.std.specs.Map.{lookup}
use Rattle.std.specs.List.{list_any}
use Rattle.indexmap.specs.IndexMap.{IndexMap}
use Rattle.vip_config.specs.declared.broken.Broken.{Broken}
use Rattle.vip_config.specs.declared.broken.Broken.TheVariants.{At, NoMemory}
use Rattle.vip_config.specs.declared.place.Place.{Place}

-- A member at its place claims a key for an owner; whether the member is as its rule has it.
pub record Claim (K V : Type 0) : Type 0 where
  pub place : Place
  pub key : K
  pub owner : V
  pub fits : Bool

abbrev pub claim : {K V : Type 0} → Place → K → V → Bool → Claim K V
claim place key owner fits = record { place = place; key = key; owner = owner; fits = fits }

-- The first member that doesn't fit, or whose key one before it claims.
abbrev pub first_broken : {K V : Type 0} → (K → K → Bool) → List K → List (Claim K V) → Option Place
first_broken same before [] = None
first_broken same before (c ∷ cs) =
    if not c.fits || list_any (same c.key) before then Some c.place else first_broken same (before ++ c.key ∷ []) cs

-- what each member of a list claims, by its number
abbrev pub claims_of : {A B : Type 0} → (ℕ → A → List B) → ℕ → List A → List B
claims_of claims i [] = []
claims_of claims i (x ∷ xs) = claims i x ++ claims_of claims (suc i) xs

-- who claims which key
abbrev pub owners_of : {K V : Type 0} → List (Claim K V) → List (K × V)
owners_of cs = map (λ c. (c.key, c.owner)) cs

-- How far a walk over claims is: who has which key, and the first member that broke the rule.
pub record Claimed (K V : Type 0) : Type 0 where
  pub owners : List (K × V)
  pub broken : Option Place

abbrev pub nothing_claimed : {K V : Type 0} → Claimed K V
nothing_claimed = record { owners = []; broken = None }

abbrev pub claimed : {K V : Type 0} → (K → K → Bool) → Claimed K V → Claim K V → Claimed K V
claimed same w c =
    if is_some w.broken then w
    else if not c.fits || is_some (lookup (same c.key) w.owners) then record w { broken = Some c.place }
    else record w { owners = w.owners ++ (c.key, c.owner) ∷ [] }

abbrev pub all_claimed : {K V : Type 0} → (K → K → Bool) → Claimed K V → List (Claim K V) → Claimed K V
all_claimed same w cs = fold (claimed same) w cs

abbrev pub EndsAs : {K V S : Type 0} → Claimed K V → Result (IndexMap K V S) Broken → Type 0
EndsAs w (Ok m) = (w.broken ≡ None) × (m.entries ≡ w.owners)
EndsAs w (Err (At place)) = w.broken ≡ Some place
EndsAs w (Err NoMemory) = ⊥

-- A rule that a member breaks first, or none: what its test answers, memory aside.
abbrev pub Tells : {X : Type 0} → Option Place → Result X Broken → Type 0
Tells broken (Ok x) = broken ≡ None
Tells broken (Err (At place)) = broken ≡ Some place
Tells broken (Err NoMemory) = Unit {0}

-- No key is claimed twice and each member fits, and the map has each key's owner; or the first member for which it
-- isn't so.
abbrev pub Indexes : {K V S : Type 0} → (K → K → Bool) → List (Claim K V) → Result (IndexMap K V S) Broken → Type 0
Indexes same cs (Ok m) = (first_broken same [] cs ≡ None) × (m.entries ≡ owners_of cs)
Indexes same cs (Err (At place)) = first_broken same [] cs ≡ Some place
Indexes same cs (Err NoMemory) = Unit {0}
