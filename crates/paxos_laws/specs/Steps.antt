-- One step of one replica: what it leaves, and what it has to show.
use Rattle.std.specs.Prelude.{◌≡◌, ◌≢◌, ℕ, ◌%◌, ◌<◌, ◌≤◌, ◌⊎◌, List, [], ◌++◌, Option, Some, None, Contains, All, map}
use Rattle.wire_core.specs.declared.entry.Entry.{Entry}
use Rattle.wire_core.specs.declared.entry.Entry.TheVariants as entry
use Rattle.paxos_spec.specs.declared.mail.Body.{Body}
use Rattle.paxos_spec.specs.declared.mail.Body.TheVariants.{Prepare, Promise, Accept, Accepted, Refuse, Chosen, Fetch}
use Rattle.paxos_spec.specs.declared.mail.Mail.{Mail}
use Rattle.paxos_spec.specs.Votes.{Value}
use Rattle.paxos_spec.specs.Acceptor.{reach, most_slots}
use Rattle.paxos_spec.specs.Replica.{Memory, new_memory, Out, mail}
use Rattle.paxos_spec.specs.Agreement.{View, Disk, grown, HasVoted, HasLearned, IsChosen}
use Rattle.paxos_laws.specs.Facts.{Proposed, MailOk, StageOk, Inv}

-- the view u is what the step of replica r makes of w
pub record Moves (w u : View) (r : ℕ) (o : Out) : Type 0 where
  pub disk_same : u.disk r ≡ grown (w.disk r) o.entry
  pub disk_other : (i : ℕ) → i ≢ r → u.disk i ≡ w.disk i
  pub memory_same : u.memory r ≡ o.memory
  pub memory_other : (i : ℕ) → i ≢ r → u.memory i ≡ w.memory i
  pub sent : u.sent ≡ w.sent ++ o.sends

-- What a step does to entries and messages: promises rise, votes stay, and a new vote is at the promise or above.
pub record Grows (w u : View) : Type 0 where
  pub promise : (i : ℕ) → (w.disk i).state.promise ≤ (u.disk i).state.promise
  pub reach : (i : ℕ) → reach (w.disk i).state ≤ reach (u.disk i).state
  pub learned : (i s b : ℕ) (v : Value) → HasLearned w i s b v → HasLearned u i s b v
  pub voted : (i s b : ℕ) (v : Value) → HasVoted w i s b v → HasVoted u i s b v
  pub fresh : (i s b : ℕ) (v : Value)
      → HasVoted u i s b v → HasVoted w i s b v ⊎ ((w.disk i).state.promise ≤ b)
  pub sent : (b s : ℕ) (v : Value) → Proposed w b s v → Proposed u b s v

-- what is learned was chosen, and its owner learned it before, or is this replica
pub record Learns (w : View) (r : ℕ) (d : Disk) (c : ℕ) (v : Value) : Type 0 where
  pub chosen : IsChosen w (reach d.state) c v
  pub owner : HasLearned w (c % 5) (reach d.state) c v ⊎ (c % 5 ≡ r)
  pub room : reach d.state < most_slots

-- What an entry of the replica has to show, of the world before it.
abbrev pub EntryOk : View → ℕ → Disk → Option Entry → Type 0
EntryOk w r d None = Unit {0}
EntryOk w r d (Some (entry.Boot version role index boot)) = Unit {0}
EntryOk w r d (Some (entry.Promise c)) = Unit {0}
EntryOk w r d (Some (entry.Vote c v)) = (d.state.promise ≤ c) × Proposed w c (reach d.state) v
EntryOk w r d (Some (entry.Learn c v)) = Learns w r d c v
EntryOk w r d (Some (entry.Epoch epoch)) = Unit {0}

pub record SendsAccept (xs : List Mail) (b s : ℕ) (v : Value) : Type 0 where
  pub by : ℕ
  pub to : ℕ
  pub at : Contains xs (mail by (Accept b s v) to)

-- What a step has to show, of the world u after it. The value offered in it, if any, is f.
pub record Good (f : Option Value) (w u : View) (r : ℕ) (o : Out) : Type 0 where
  pub entry : EntryOk w r (w.disk r) o.entry
  pub senders : All (λ x. x.sender ≡ r) o.sends
  pub mails : All (MailOk u) o.sends
  -- a value that is proposed was offered in this step, or was proposed at the slot before
  pub origin : (b s : ℕ) (v : Value)
      → SendsAccept o.sends b s v → (f ≡ Some v) ⊎ ((c : ℕ) × Proposed w c s v)
  pub unique : (b s : ℕ) (v x : Value) → SendsAccept o.sends b s v → Proposed u b s x → v ≡ x
  pub stage : StageOk u r (grown (w.disk r) o.entry) o.memory.leader o.memory.leader.stage

-- whatever world the step leads to
abbrev pub GoodOut : Option Value → View → ℕ → Out → Type 0
GoodOut f w r o = (u : View) → Moves w u r o → Good f w u r o

-- what holds of a replica before its step
pub record Here (w : View) (r : ℕ) : Type 0 where
  pub number : r < 5
  pub inv : Inv w

-- a body that proposes nothing
abbrev pub IsPlain : Body → Type 0
IsPlain (Prepare c) = Unit {0}
IsPlain (Promise c l vote value) = Unit {0}
IsPlain (Accept b s v) = ⊥
IsPlain (Accepted b s) = Unit {0}
IsPlain (Refuse c p) = Unit {0}
IsPlain (Chosen s b v) = Unit {0}
IsPlain (Fetch s) = Unit {0}

-- one body, sent to some
abbrev pub one_body : ℕ → Option Entry → Memory → Body → List ℕ → Out
one_body r e m body ts = record { entry = e; memory = m; sends = map (mail r body) ts }

-- it goes down and opens again: an entry may be kept, the memory is lost, nothing is said
abbrev pub reopened : Option Entry → Out
reopened e = record { entry = e; memory = new_memory; sends = [] }

-- a step in which it goes down once the entry is durable
abbrev pub cut_short : Out → Out
cut_short o = reopened o.entry

-- a step, and in the same turn another that writes nothing
abbrev pub followed_by : Out → Out → Out
followed_by o p = record { entry = o.entry; memory = p.memory; sends = o.sends ++ p.sends }
