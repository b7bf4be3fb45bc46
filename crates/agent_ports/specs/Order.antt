-- Lists by number: found by a binary search.
use Rattle.std.specs.Prelude.{◌≡◌, ◌≢◌, ℕ, ◌<◌, ◌≤◌, ◌==◌, List, [], ◌∷◌, length, get_or, Option, Some, None}
use Rattle.std.specs.Prelude.{if◌then◌else◌}

-- each number is above n
abbrev pub AllAbove : {X : Type 0} → (X → ℕ) → ℕ → List X → Type 0
AllAbove key n [] = Unit {0}
AllAbove key n (x ∷ xs) = (n < key x) × AllAbove key n xs

-- numbers ascend
abbrev pub Ascend : {X : Type 0} → (X → ℕ) → List X → Type 0
Ascend key [] = Unit {0}
Ascend key (x ∷ xs) = AllAbove key (key x) xs × Ascend key xs

-- What stands before i has lesser numbers than n, and what stands from i on hasn't.
pub record SplitsAt {X : Type 0} (key : X → ℕ) (n : ℕ) (xs : List X) (i : ℕ) : Type 0 where
  pub within : i ≤ length xs
  pub front : (k : ℕ) (d : X) → k < i → key (get_or xs k d) < n
  pub back : (k : ℕ) (d : X) → i ≤ k → k < length xs → n ≤ key (get_or xs k d)

-- the one at i has the number
pub record HasAt {X : Type 0} (key : X → ℕ) (n : ℕ) (xs : List X) (i : ℕ) : Type 0 where
  pub within : i < length xs
  pub number : (d : X) → key (get_or xs i d) ≡ n

-- none has the number
abbrev pub Lacks : {X : Type 0} → (X → ℕ) → ℕ → List X → Type 0
Lacks {X = X} key n xs = (k : ℕ) (d : X) → k < length xs → key (get_or xs k d) ≢ n

-- where the one with the number is
abbrev pub IsPlace : {X : Type 0} → (X → ℕ) → ℕ → List X → Option ℕ → Type 0
IsPlace key n xs None = Lacks key n xs
IsPlace key n xs (Some i) = HasAt key n xs i
