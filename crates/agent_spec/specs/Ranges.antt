-- Held ranges by n, the kept number of each range, and the numbers that are given back.
use Rattle.std.specs.Prelude.{ℕ, ◌+◌, ◌-◌, ◌^◌, ◌==◌, min, nat_le, Bool, not, ◌&&◌, ◌||◌, List}
use Rattle.std.specs.Prelude.{[], ◌∷◌, ◌++◌, map, filter, find, Option, if◌then◌else◌, unwrap_or}
use Rattle.std.specs.Prelude.{insert, position, length}
use Rattle.std.specs.List.{list_any}
use Rattle.std.specs.Map.{lookup}
use Rattle.wire_core.specs.declared.address.Ip4.{Ip4}
use Rattle.wire_core.specs.declared.range.Range.{Range}
use Rattle.indexmap.specs.IndexMap.{insert_entry}
use Rattle.wire_core.specs.Same.{same_ip, same_range}
use Rattle.agent_spec.specs.declared.held.Held.{Held}
use Rattle.agent_spec.specs.declared.held.Granting.{Granting}
use Rattle.agent_spec.specs.declared.held.Granting.TheVariants as granting

-- what an agent keeps of ranges
pub record Ranges : Type 0 where
  pub held : List Held  -- by n
  pub kept : List (Range × ℕ)  -- at most one a range
  pub returning : List ℕ  -- as they joined

-- nothing is held, kept or returning
abbrev pub no_ranges : Ranges
no_ranges = record { held = []; kept = []; returning = [] }

-- ---- ports

-- the eight places of a range
abbrev pub places : List ℕ
places = 0 ∷ 1 ∷ 2 ∷ 3 ∷ 4 ∷ 5 ∷ 6 ∷ 7 ∷ []

-- the i-th port of a range with its number; ports end at 65535
abbrev pub numbered : Held → ℕ → ℕ × ℕ
numbered h i = (h.n, min (h.range.start + i) 65535)

-- the ports of a range, where the machine has it
abbrev pub ports_in : Ip4 → Held → List (ℕ × ℕ)
ports_in machine h = if same_ip h.machine machine then map (numbered h) places else []

-- the ports of a machine's ranges, in the order of their numbers
unfoldable pub ports_of : List Held → Ip4 → List (ℕ × ℕ)
ports_of [] machine = []
ports_of (h ∷ hs) machine = ports_in machine h ++ ports_of hs machine

-- the first port that isn't used
abbrev pub first_unused : (ℕ → Bool) → List (ℕ × ℕ) → Option (ℕ × ℕ)
first_unused used ports = find (λ p. not (used p.1)) ports

-- ---- counts

-- f, at the range with this number
abbrev pub at_number : ℕ → (Held → Held) → Held → Held
at_number n f h = if h.n == n then f h else h

-- one connection more
abbrev pub more_one : Held → Held
more_one h = record h { count = min (h.count + 1) (2 ^ 32 - 1) }

-- one connection less, now
abbrev pub less_one : ℕ → Held → Held
less_one now h = record h { count = h.count - 1; idle = now }

-- ---- grants

-- the place of a number among them
abbrev pub place_for : ℕ → List Held → ℕ
place_for n hs = min (unwrap_or (position (λ x. nat_le n x.n) hs) (length hs)) (length hs)

-- one more, in its place
abbrev pub inserted : Held → List Held → List Held
inserted h hs = insert hs (place_for h.n hs) h

-- the greatest number that was held of a range, at first 0
abbrev pub kept_at : List (Range × ℕ) → Range → ℕ
kept_at kept r = unwrap_or (lookup (same_range r) kept) 0

-- the number or the range is held
abbrev pub clashes : List Held → ℕ → Range → Bool
clashes held n r = list_any (λ h. (h.n == n) || same_range h.range r) held

-- the range is held, the number is held or returning, or it is at most the kept one
abbrev pub is_old : Ranges → ℕ → Range → Bool
is_old p n r = clashes p.held n r || list_any (λ m. m == n) p.returning || nat_le n (kept_at p.kept r)

-- a range without connections
abbrev pub new_held : ℕ → Range → Ip4 → ℕ → Held
new_held n r machine now = record { n = n; range = r; machine = machine; idle = now; count = 0 }

-- a range is held from now on
abbrev pub granted : Ranges → ℕ → Range → Ip4 → ℕ → Ranges × Granting
granted p n r machine now =
    if is_old p n r then (p, granting.Old (kept_at p.kept r))
    else (
      record p { held = inserted (new_held n r machine now) p.held; kept = insert_entry same_range p.kept r n },
      granting.Held,
    )

-- with these held ranges
abbrev pub counted : Ranges → List Held → Ranges
counted p held = record p { held = held }

-- ---- giving back

-- no connection for so long
abbrev pub is_unused : ℕ → ℕ → Held → Bool
is_unused now idle h = (h.count == 0) && nat_le idle (now - h.idle)

-- it leaves; its number is kept, and joins the returning ones
abbrev pub given_back : ℕ → Ranges → Ranges
given_back n p = record p { held = filter (λ h. not (h.n == n)) p.held; returning = p.returning ++ n ∷ [] }

-- the number is given back, and that isn't answered
abbrev pub is_returning : ℕ → Ranges → Bool
is_returning n p = list_any (λ m. m == n) p.returning

-- the answer came
abbrev pub returned : ℕ → Ranges → Ranges
returned n p = record p { returning = filter (λ m. not (m == n)) p.returning }
