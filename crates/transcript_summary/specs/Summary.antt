-- How many lines of each kind a transcript has.
use Rattle.std.specs.Prelude.{◌≡◌, ◌⊎◌, ℕ, ◌+◌, ◌<◌, ◌++◌, ◌==◌, if◌then◌else◌, Bool, List, [], ◌∷◌, codes}
use Rattle.std.specs.Fmt.{decimal}
use Rattle.std.specs.List.{count_by, starts_with}
use Rattle.address_text.specs.Fields.{parts}
use Rattle.transcript_summary.specs.declared.kinds.Counts.{Counts}
use Rattle.transcript_summary.specs.declared.kinds.LeaseCounts.{LeaseCounts}
use Rattle.transcript_summary.specs.declared.kinds.TrafficCounts.{TrafficCounts}

-- ---- counting

-- a line begins with these bytes
abbrev pub begins : List ℕ → List ℕ → Bool
begins front line = starts_with (λ a b. a == b) line front

-- how many lines of a text begin with these bytes
unfoldable pub lines_with : List ℕ → List ℕ → ℕ
lines_with front text = count_by (begins front) (parts 10 text)

-- how many lines say an act of this name
abbrev pub acts_with : List ℕ → List ℕ → ℕ
acts_with name text = lines_with (codes "act " ++ name ++ codes " ") text

-- the acts on leases, in the order of a lease's life
abbrev pub lease_counts : List ℕ → LeaseCounts
lease_counts text = record {
  reserves = acts_with (codes "reserve") text;
  grants = acts_with (codes "grant") text;
  holds = acts_with (codes "hold") text;
  drops = acts_with (codes "drop") text;
  frees = acts_with (codes "free") text;
  freed = acts_with (codes "freed") text;
}

-- the acts on connections, the losses, and the packets that were handed
abbrev pub traffic_counts : List ℕ → TrafficCounts
traffic_counts text = record {
  opens = acts_with (codes "open") text;
  closes = acts_with (codes "close") text;
  losses = acts_with (codes "lose") text;
  hands = acts_with (codes "hand") text;
}

-- How many lines of each kind a text has.
abbrev pub counts_of : List ℕ → Counts
counts_of text = record {
  events = lines_with (codes "event ") text;
  sent = lines_with (codes "sent ") text;
  leases = lease_counts text;
  traffic = traffic_counts text;
  drops = lines_with (codes "drop ") text;
}

-- ---- line by line

-- what a line adds to the count of those that begin with these bytes
abbrev pub one : List ℕ → List ℕ → ℕ
one front line = if begins front line then 1 else 0

-- what a line adds to the counts
abbrev pub lease_line : List ℕ → LeaseCounts
lease_line line = record {
  reserves = one (codes "act reserve ") line;
  grants = one (codes "act grant ") line;
  holds = one (codes "act hold ") line;
  drops = one (codes "act drop ") line;
  frees = one (codes "act free ") line;
  freed = one (codes "act freed ") line;
}

abbrev pub traffic_line : List ℕ → TrafficCounts
traffic_line line = record {
  opens = one (codes "act open ") line;
  closes = one (codes "act close ") line;
  losses = one (codes "act lose ") line;
  hands = one (codes "act hand ") line;
}

abbrev pub line_counts : List ℕ → Counts
line_counts line = record {
  events = one (codes "event ") line;
  sent = one (codes "sent ") line;
  leases = lease_line line;
  traffic = traffic_line line;
  drops = one (codes "drop ") line;
}

-- each count is below a number
abbrev pub LeasesBelow : ℕ → LeaseCounts → Type 0
LeasesBelow n c =
    (c.reserves < n) × (c.grants < n) × (c.holds < n) × (c.drops < n) × (c.frees < n) × (c.freed < n)

abbrev pub TrafficBelow : ℕ → TrafficCounts → Type 0
TrafficBelow n c = (c.opens < n) × (c.closes < n) × (c.losses < n) × (c.hands < n)

pub record AreBelow (n : ℕ) (c : Counts) : Type 0 where
  pub events : c.events < n
  pub sent : c.sent < n
  pub leases : LeasesBelow n c.leases
  pub traffic : TrafficBelow n c.traffic
  pub drops : c.drops < n

-- ---- texts one behind the other

-- each line has its end
abbrev pub IsWhole : List ℕ → Type 0
IsWhole text = (text ≡ []) ⊎ ((front : List ℕ) × (text ≡ front ++ 10 ∷ []))

abbrev pub leases_added : LeaseCounts → LeaseCounts → LeaseCounts
leases_added a b = record {
  reserves = a.reserves + b.reserves;
  grants = a.grants + b.grants;
  holds = a.holds + b.holds;
  drops = a.drops + b.drops;
  frees = a.frees + b.frees;
  freed = a.freed + b.freed;
}

abbrev pub traffic_added : TrafficCounts → TrafficCounts → TrafficCounts
traffic_added a b = record {
  opens = a.opens + b.opens;
  closes = a.closes + b.closes;
  losses = a.losses + b.losses;
  hands = a.hands + b.hands;
}

-- the lines of both
abbrev pub added : Counts → Counts → Counts
added a b = record {
  events = a.events + b.events;
  sent = a.sent + b.sent;
  leases = leases_added a.leases b.leases;
  traffic = traffic_added a.traffic b.traffic;
  drops = a.drops + b.drops;
}

-- Where a text ends with a line's end, what follows it is counted apart.
abbrev pub CountsByPieces : Type 0
CountsByPieces = (text more : List ℕ) → IsWhole text → counts_of (text ++ more) ≡ added (counts_of text) (counts_of more)

-- ---- what is written of it

-- a name, a space and a count
unfoldable pub counted : List ℕ → ℕ → List ℕ
counted name n = name ++ codes " " ++ decimal n

-- Each count stands behind the name.
unfoldable pub lease_acts : LeaseCounts → List ℕ
lease_acts c =
    counted (codes " reserve") c.reserves ++ counted (codes " grant") c.grants ++ counted (codes " hold") c.holds
    ++ counted (codes " drop") c.drops ++ counted (codes " free") c.frees ++ counted (codes " freed") c.freed

unfoldable pub traffic_acts : TrafficCounts → List ℕ
traffic_acts c =
    counted (codes " open") c.opens ++ counted (codes " close") c.closes ++ counted (codes " lose") c.losses
    ++ counted (codes " hand") c.hands

-- The four lines of some counts.
abbrev pub four_lines : Counts → List ℕ
four_lines c =
    counted (codes "events") c.events ++ codes "\n"
    ++ counted (codes "sent") c.sent ++ codes "\n"
    ++ codes "acts" ++ lease_acts c.leases ++ traffic_acts c.traffic ++ codes "\n"
    ++ counted (codes "drops") c.drops ++ codes "\n"

-- The four lines that say how many lines of each kind a text has.
abbrev pub summary : List ℕ → List ℕ
summary text = four_lines (counts_of text)
