-- What an acceptor keeps, and what it decides.
use Rattle.std.specs.Prelude.{ℕ, ◌^◌, max, Bool, ◌&&◌, ◌||◌, if◌then◌else◌, nat_lt, nat_le, ◌==◌, List, [], ◌∷◌, ◌++◌, length, Option, Some, None, fold}
use Rattle.wire_core.specs.declared.entry.Entry.{Entry}
use Rattle.wire_core.specs.declared.entry.Entry.TheVariants as entry
use Rattle.wire_core.specs.Same.{same_value}
use Rattle.paxos_spec.specs.declared.steps.PrepareStep.{PrepareStep}
use Rattle.paxos_spec.specs.declared.steps.PrepareStep.TheVariants as prepare
use Rattle.paxos_spec.specs.declared.steps.AcceptStep.{AcceptStep}
use Rattle.paxos_spec.specs.declared.steps.AcceptStep.TheVariants as accept
use Rattle.paxos_spec.specs.declared.steps.ChosenStep.{ChosenStep}
use Rattle.paxos_spec.specs.declared.steps.ChosenStep.TheVariants as chosen
use Rattle.paxos_spec.specs.declared.cast.Cast.{Cast}
use Rattle.paxos_spec.specs.Votes.{Value, no_vote}

pub record AcceptorState : Type 0 where
  pub promise : ℕ  -- it follows no lower ballot
  pub vote : Cast  -- for the slot at the log's end
  pub log : List Cast  -- what it learned, slot by slot

abbrev pub new_acceptor : AcceptorState
new_acceptor = record { promise = 0; vote = no_vote; log = [] }

-- the length of its log: the slot that comes next
abbrev pub reach : AcceptorState → ℕ
reach a = length a.log

-- a log has at most so many slots
abbrev pub most_slots : ℕ
most_slots = 2 ^ 58

-- A value learned is the log's last, the vote for its slot is over, and no lower ballot is followed.
abbrev pub with_learned : AcceptorState → ℕ → Value → AcceptorState
with_learned a ballot value = record {
  promise = max a.promise ballot;
  vote = no_vote;
  log = a.log ++ record { ballot = ballot; value = value } ∷ [];
}

-- The state after one more entry. A full log passes over what else is learned.
abbrev pub follow : AcceptorState → Entry → AcceptorState
follow a (entry.Boot version role index boot) = a
follow a (entry.Promise ballot) = record { promise = max a.promise ballot; vote = a.vote; log = a.log }
follow a (entry.Vote ballot value) = record {
  promise = max a.promise ballot;
  vote = record { ballot = ballot; value = value };
  log = a.log;
}
follow a (entry.Learn ballot value) = if nat_lt (reach a) most_slots then with_learned a ballot value else a
follow a (entry.Epoch epoch) = a

-- what entries say, from the first on
unfoldable pub state_of : List Entry → AcceptorState
state_of entries = fold follow new_acceptor entries

-- a step's entry, if it has one
abbrev pub kept : AcceptorState → Option Entry → AcceptorState
kept a None = a
kept a (Some e) = follow a e

-- its entries after the step
abbrev pub with_entry : List Entry → Option Entry → List Entry
with_entry entries None = entries
with_entry entries (Some e) = entries ++ e ∷ []

-- An acceptor: its state, and the entry of its last step.
pub record Acceptor : Type 0 where
  pub state : AcceptorState
  pub entry : Option Entry

-- after a step with this entry, or with none
abbrev pub acted : AcceptorState → Option Entry → Acceptor
acted a e = record { state = kept a e; entry = e }

-- Prepare: is the ballot below the promise, the promise itself, or above?
abbrev pub prepare_step : AcceptorState → ℕ → PrepareStep
prepare_step a ballot =
    if nat_lt ballot a.promise then prepare.Refuse a.promise
    else if ballot == a.promise then prepare.Again
    else prepare.Promise

abbrev pub prepare_entry : ℕ → PrepareStep → Option Entry
prepare_entry ballot (prepare.Refuse promised) = None
prepare_entry ballot prepare.Again = None
prepare_entry ballot prepare.Promise = Some (entry.Promise ballot)

-- the slot has its value, or there is no room
abbrev pub is_late : AcceptorState → ℕ → Bool
is_late a slot = nat_lt slot (reach a) || nat_le most_slots (reach a)

-- this very vote stands
abbrev pub stands : Cast → ℕ → Value → Bool
stands vote ballot value = nat_lt 0 ballot && (vote.ballot == ballot) && same_value vote.value value

-- Accept: the first that applies.
abbrev pub accept_step : AcceptorState → ℕ → ℕ → Value → AcceptStep
accept_step a ballot slot value =
    if nat_lt ballot a.promise then accept.Refuse a.promise
    else if is_late a slot then accept.Late
    else if nat_lt (reach a) slot then accept.Behind (reach a)
    else if stands a.vote ballot value then accept.Again
    else accept.Voted

abbrev pub accept_entry : ℕ → Value → AcceptStep → Option Entry
accept_entry ballot value (accept.Refuse promised) = None
accept_entry ballot value accept.Late = None
accept_entry ballot value (accept.Behind length) = None
accept_entry ballot value accept.Again = None
accept_entry ballot value accept.Voted = Some (entry.Vote ballot value)

-- Chosen: the first that applies.
abbrev pub chosen_step : AcceptorState → ℕ → ChosenStep
chosen_step a slot =
    if is_late a slot then chosen.Late
    else if nat_lt (reach a) slot then chosen.Behind (reach a)
    else chosen.Learned

abbrev pub chosen_entry : ℕ → Value → ChosenStep → Option Entry
chosen_entry ballot value chosen.Late = None
chosen_entry ballot value (chosen.Behind length) = None
chosen_entry ballot value chosen.Learned = Some (entry.Learn ballot value)
