-- What a leader keeps, and what it decides.
use Rattle.std.specs.Prelude.{ℕ, ◌^◌, max, min, Bool, true, false, not, ◌&&◌, if◌then◌else◌, nat_lt, ◌==◌, List, Option}
use Rattle.std.specs.Prelude.{Some, None}
use Rattle.paxos_spec.specs.declared.stage.Stage.{Stage}
use Rattle.paxos_spec.specs.declared.stage.Stage.TheVariants.{Follower, Candidate, Catching, Inheriting, Primary}
use Rattle.paxos_spec.specs.declared.steps.LeadStep.{LeadStep}
use Rattle.paxos_spec.specs.declared.steps.LeadStep.TheVariants as lead
use Rattle.paxos_spec.specs.declared.steps.Counted.{Counted}
use Rattle.paxos_spec.specs.declared.steps.Counted.TheVariants as counted
use Rattle.paxos_spec.specs.declared.cast.Cast.{Cast}
use Rattle.paxos_spec.specs.declared.cast.Proposal.{Proposal}
use Rattle.paxos_spec.specs.Votes.{Value, no_vote, value_of}
use Rattle.paxos_spec.specs.Five.{nobody, has, joined, how_many, next_ballot}

-- What a candidate keeps of the promises that it recorded.
pub record Tally : Type 0 where
  pub tellers : List Bool  -- who told
  pub longest : ℕ  -- the greatest length told
  pub source : ℕ  -- the least replica that told it
  pub best : Cast  -- the greatest vote told with that length, of equal ones the first

abbrev pub no_tally : Tally
no_tally = record { tellers = nobody; longest = 0; source = 5; best = no_vote }

-- with one more promise
abbrev pub tallied : Tally → ℕ → ℕ → Cast → Tally
tallied t from length vote = record {
  tellers = joined t.tellers from;
  longest = max t.longest length;
  source = if nat_lt t.longest length then from else if length == t.longest then min t.source from else t.source;
  best =
      if nat_lt t.longest length then vote
      else if (length == t.longest) && nat_lt t.best.ballot vote.ballot then vote
      else t.best;
}

pub record LeaderState : Type 0 where
  pub stage : Stage
  pub ballot : ℕ
  pub tally : Tally
  pub sought : ℕ  -- Catching: the length to reach
  pub pending : Option Value  -- Catching: the value to inherit there
  pub out : Option Proposal  -- what is outstanding
  pub counted : List Bool  -- who accepted it

-- of this stage and ballot, and nothing else
abbrev pub bare : Stage → ℕ → LeaderState
bare stage ballot = record {
  stage = stage;
  ballot = ballot;
  tally = no_tally;
  sought = 0;
  pending = None;
  out = None;
  counted = nobody;
}

abbrev pub new_leader : LeaderState
new_leader = bare Follower 0

abbrev pub is_follower : Stage → Bool
is_follower Follower = true
is_follower Candidate = false
is_follower Catching = false
is_follower Inheriting = false
is_follower Primary = false

abbrev pub is_candidate : Stage → Bool
is_candidate Follower = false
is_candidate Candidate = true
is_candidate Catching = false
is_candidate Inheriting = false
is_candidate Primary = false

abbrev pub is_catching : Stage → Bool
is_catching Follower = false
is_catching Candidate = false
is_catching Catching = true
is_catching Inheriting = false
is_catching Primary = false

abbrev pub is_primary : Stage → Bool
is_primary Follower = false
is_primary Candidate = false
is_primary Catching = false
is_primary Inheriting = false
is_primary Primary = true

-- it has proposed at its ballot, or may
abbrev pub is_leading : Stage → Bool
is_leading Follower = false
is_leading Candidate = false
is_leading Catching = false
is_leading Inheriting = true
is_leading Primary = true

-- What three promises were for: primary means that the log has each slot that was chosen, or ever will be, at a lower
-- ballot. The three promised its ballot, its length is at least each of theirs, and what was pending there it has
-- learned at its own ballot.
abbrev pub ready : LeaderState → Bool
ready l = is_primary l.stage

abbrev pub is_idle : Option Proposal → Bool
is_idle None = true
is_idle (Some p) = false

abbrev pub value_out : Option Proposal → Option Value
value_out None = None
value_out (Some p) = Some p.value

-- To step down: all but the ballot is forgotten.
abbrev pub stepped_down : LeaderState → LeaderState
stepped_down l = bare Follower l.ballot

-- a new candidate
abbrev pub candidate : ℕ → LeaderState
candidate ballot = bare Candidate ballot

-- Its next ballot, where that fits.
abbrev pub campaign : LeaderState → ℕ → ℕ → LeaderState × Option ℕ
campaign l above index =
    if nat_lt (next_ballot above index) (2 ^ 64)
    then (candidate (next_ballot above index), Some (next_ballot above index))
    else (l, None)

-- A value stands outstanding at a slot.
abbrev pub proposing : Stage → LeaderState → ℕ → Value → LeaderState
proposing stage l slot value = record {
  stage = stage;
  ballot = l.ballot;
  tally = no_tally;
  sought = 0;
  pending = None;
  out = Some (record { slot = slot; value = value });
  counted = nobody;
}

-- nothing is outstanding, and it may propose
abbrev pub primary : LeaderState → LeaderState
primary l = bare Primary l.ballot

-- The arrival at a length: a pending value is inherited there, else the replica is primary.
abbrev pub arrive : LeaderState → ℕ → Option Value → LeaderState × LeadStep
arrive l at None = (primary l, lead.Ready)
arrive l at (Some value) = (proposing Inheriting l at value, lead.Inherit)

-- It fetches up to a length, where this value pends.
abbrev pub catching : LeaderState → ℕ → Option Value → LeaderState
catching l sought pending = record {
  stage = Catching;
  ballot = l.ballot;
  tally = no_tally;
  sought = sought;
  pending = pending;
  out = None;
  counted = nobody;
}

-- The third promise: what is longer is fetched first.
abbrev pub third_promise : LeaderState → Tally → ℕ → LeaderState × LeadStep
third_promise l t own =
    if nat_lt own t.longest
    then (catching l t.longest (value_of t.best), lead.Catch t.source t.longest)
    else arrive l own (if own == t.longest then value_of t.best else None)

abbrev pub with_tally : LeaderState → Tally → LeaderState
with_tally l t = record {
  stage = l.stage;
  ballot = l.ballot;
  tally = t;
  sought = l.sought;
  pending = l.pending;
  out = l.out;
  counted = l.counted;
}

-- A promise: it is recorded where it is new and of this candidacy. `own` is the replica's own length.
abbrev pub lead_promise : LeaderState → ℕ → ℕ → ℕ → Cast → ℕ → LeaderState × LeadStep
lead_promise l from ballot length vote own =
    if is_candidate l.stage && (l.ballot == ballot) && not (has l.tally.tellers from)
    then (if nat_lt (how_many (joined l.tally.tellers from)) 3
    then (with_tally l (tallied l.tally from length vote), lead.More)
    else third_promise l (tallied l.tally from length vote) own)
    else (l, lead.Late)

-- The length that was sought is reached.
abbrev pub lead_reached : LeaderState → LeaderState × LeadStep
lead_reached l = arrive l l.sought l.pending

-- The value is proposed at the slot.
abbrev pub propose : LeaderState → ℕ → Value → LeaderState
propose l slot value = proposing Primary l slot value

abbrev pub with_counted : LeaderState → List Bool → LeaderState
with_counted l flags = record {
  stage = l.stage;
  ballot = l.ballot;
  tally = l.tally;
  sought = l.sought;
  pending = l.pending;
  out = l.out;
  counted = flags;
}

-- An Accepted: it is counted where it is new and of what is outstanding.
abbrev pub lead_accepted_of : Option Proposal → LeaderState → ℕ → ℕ → ℕ → LeaderState × Counted
lead_accepted_of None l from ballot slot = (l, counted.Late)
lead_accepted_of (Some p) l from ballot slot =
    if is_leading l.stage && (l.ballot == ballot) && (p.slot == slot) && not (has l.counted from)
    then (if nat_lt (how_many (joined l.counted from)) 3
    then (with_counted l (joined l.counted from), counted.More)
    else (primary l, counted.Chosen))
    else (l, counted.Late)

abbrev pub lead_accepted : LeaderState → ℕ → ℕ → ℕ → LeaderState × Counted
lead_accepted l from ballot slot = lead_accepted_of l.out l from ballot slot
