-- Each machine's rows as a chain: a row names the one before it and the one after it.
use Rattle.std.specs.Prelude.{◌≡◌, ℕ, ◌==◌, Bool, false, nat_lt, List, [], ◌∷◌, Option, Some, None, find, unwrap_or, if◌then◌else◌}
use Rattle.std.specs.Option.{is_none, option_or}
use Rattle.wire_core.specs.declared.address.Ip4.{Ip4}
use Rattle.lease_spec.specs.declared.row.Row.{Row}
use Rattle.lease_spec.specs.Table.{row_at}
use Rattle.lease_rows.specs.declared.links.Ends.{Ends}
use Rattle.lease_rows.specs.declared.links.Link.{Link}

-- the numbers of the machine's rows, in order
abbrev pub numbers_of : List Row → Ip4 → List ℕ
numbers_of [] machine = []
numbers_of (row ∷ rows) machine =
    if row.machine.0 == machine.0
    then row.n ∷ numbers_of rows machine
    else numbers_of rows machine

abbrev pub first_number : List ℕ → Option ℕ
first_number [] = None
first_number (n ∷ ns) = Some n

abbrev pub last_number : List ℕ → Option ℕ
last_number [] = None
last_number (n ∷ ns) = option_or (last_number ns) (Some n)

-- of ascending numbers the least above k
abbrev pub number_after : List ℕ → ℕ → Option ℕ
number_after ns k = find (λ n. nat_lt k n) ns

-- of ascending numbers the greatest below k
abbrev pub number_before : List ℕ → ℕ → Option ℕ
number_before [] k = None
number_before (n ∷ ns) k =
    if nat_lt n k
    then option_or (number_before ns k) (Some n)
    else number_before ns k

-- it is this number
abbrev pub is_number : ℕ → Option ℕ → Bool
is_number k None = false
is_number k (Some n) = n == k

-- a row's place among those of its machine
abbrev pub link_of : List Row → Option Row → Option Link
link_of rows None = None
link_of rows (Some row) = Some (record {
  machine = row.machine;
  previous = number_before (numbers_of rows row.machine) row.n;
  next = number_after (numbers_of rows row.machine) row.n;
})

abbrev pub no_ends : Ends
no_ends = record { first = None; last = None }

-- the first and the last of a machine's rows
abbrev pub ends_of : List ℕ → Ends
ends_of ns = record { first = first_number ns; last = last_number ns }

-- Each row has its link and each machine its ends, and nothing else has.
pub record IsLinked (rows : List Row) (link_at : ℕ → Option Link) (ends_at : Ip4 → Option Ends) : Type 0 where
  pub links : (n : ℕ) → link_at n ≡ link_of rows (row_at rows n)
  pub ends : (machine : Ip4) → unwrap_or (ends_at machine) no_ends ≡ ends_of (numbers_of rows machine)

abbrev pub with_next : Option ℕ → Link → Link
with_next next link = record link { next = next }

abbrev pub with_previous : Option ℕ → Link → Link
with_previous previous link = record link { previous = previous }

-- a machine's ends with one row more, after the others
abbrev pub with_last : ℕ → Ends → Ends
with_last n e = record { first = option_or e.first (Some n); last = Some n }

-- a machine's ends without the row that had this place
abbrev pub without_link : Link → Ends → Ends
without_link link e = record {
  first = if is_none link.previous then link.next else e.first;
  last = if is_none link.next then link.previous else e.last;
}
