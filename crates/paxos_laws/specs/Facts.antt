-- What holds of every world: what each message, disk and stage says is true.
use Rattle.std.specs.Prelude.{◌≡◌, ℕ, ◌%◌, ◌<◌, ◌≤◌, ◌⊎◌, Option, Some, None, slice_get, Contains, All, true, length}
use Rattle.paxos_spec.specs.declared.mail.Body.{Body}
use Rattle.paxos_spec.specs.declared.mail.Body.TheVariants.{Prepare, Promise, Accept, Accepted, Refuse, Chosen, Fetch}
use Rattle.paxos_spec.specs.declared.mail.Mail.{Mail}
use Rattle.paxos_spec.specs.declared.stage.Stage.{Stage}
use Rattle.paxos_spec.specs.declared.stage.Stage.TheVariants.{Follower, Candidate, Catching, Inheriting, Primary}
use Rattle.paxos_spec.specs.declared.cast.Cast.{Cast}
use Rattle.paxos_spec.specs.declared.cast.Proposal.{Proposal}
use Rattle.paxos_spec.specs.Votes.{Value, cast}
use Rattle.paxos_spec.specs.Five.{has}
use Rattle.paxos_spec.specs.Acceptor.{reach}
use Rattle.paxos_spec.specs.Leader.{Tally, LeaderState, value_out}
use Rattle.paxos_spec.specs.Replica.{mail}
use Rattle.paxos_spec.specs.Agreement.{View, Disk, Placed, HasVoted, HasLearned, IsChosen, Choosable}

-- an Accept of this was sent
pub record Proposed (w : View) (b s : ℕ) (v : Value) : Type 0 where
  pub by : ℕ
  pub to : ℕ
  pub at : Contains w.sent (mail by (Accept b s v) to)

-- no other value is chosen at the slot below the ballot, now or ever
abbrev pub SafeAt : View → ℕ → ℕ → Value → Type 0
SafeAt w b s v = (a : ℕ) (x : Value) → a < b → Choosable w s a x → x ≡ v

-- from the length on nothing is chosen below the ballot, now or ever, but the value there
abbrev pub Pends : View → ℕ → ℕ → Option Value → Type 0
Pends w c l o = (s b : ℕ) (v : Value) → b < c → l ≤ s → Choosable w s b v → (s ≡ l) × (o ≡ Some v)

-- what a promise says of the replica's votes below its ballot
pub record PromiseOk (w : View) (i c l : ℕ) (vote : Cast) : Type 0 where
  pub kept : c ≤ (w.disk i).state.promise
  pub before : (s b : ℕ) (v : Value)
      → HasVoted w i s b v → b < c → (s < l) ⊎ ((s ≡ l) × (b ≤ vote.ballot))
  pub stands : 0 < vote.ballot → HasVoted w i l vote.ballot vote.value
  pub bound : vote.ballot ≤ c

pub record AcceptOk (w : View) (i b s : ℕ) (v : Value) : Type 0 where
  pub safe : SafeAt w b s v
  pub owner : b % 5 ≡ i
  pub kept : b ≤ (w.disk i).state.promise
  pub positive : 0 < b

-- what is learned: it is chosen, and the replica whose ballot it is has learned it
pub record LearnOk (w : View) (s b : ℕ) (v : Value) : Type 0 where
  pub chosen : IsChosen w s b v
  pub owner : HasLearned w (b % 5) s b v

abbrev pub BodyOk : View → ℕ → Body → Type 0
BodyOk w i (Prepare c) = Unit {0}
BodyOk w i (Promise c l vote value) = PromiseOk w i c l (cast vote value)
BodyOk w i (Accept b s v) = AcceptOk w i b s v
BodyOk w i (Accepted b s) = (v : Value) × HasVoted w i s b v
BodyOk w i (Refuse c p) = Unit {0}
BodyOk w i (Chosen s b v) = LearnOk w s b v
BodyOk w i (Fetch s) = Unit {0}

pub record MailOk (w : View) (x : Mail) : Type 0 where
  pub sender : x.sender < 5
  pub body : BodyOk w x.sender x.body

pub record VoteOk (w : View) (d : Disk) (s b : ℕ) (v : Value) : Type 0 where
  pub slot : s ≤ reach d.state
  pub ballot : b ≤ d.state.promise
  pub last : s ≡ reach d.state → b ≤ d.state.vote.ballot
  pub proposed : Proposed w b s v

-- a vote or a lesson, at its slot
abbrev pub placed : ℕ → Cast → Placed
placed s x = record { slot = s; ballot = x.ballot; value = x.value }

pub record DiskOk (w : View) (d : Disk) : Type 0 where
  pub votes : (s b : ℕ) (v : Value)
      → Contains d.votes (record { slot = s; ballot = b; value = v }) → VoteOk w d s b v
  pub standing : 0 < d.state.vote.ballot
      → Contains d.votes (placed (reach d.state) d.state.vote)
  pub learned : (s b : ℕ) (v : Value)
      → Contains d.learns (record { slot = s; ballot = b; value = v })
      → (LearnOk w s b v) × (b ≤ d.state.promise) × (s < reach d.state)
  pub logged : (k : ℕ) (x : Cast) → slice_get d.state.log k ≡ Some x → Contains d.learns (placed k x)

-- the ballot is the replica's own, and its promise
pub record Owns (r : ℕ) (d : Disk) (l : LeaderState) : Type 0 where
  pub promise : d.state.promise ≡ l.ballot
  pub owner : l.ballot % 5 ≡ r
  pub positive : 0 < l.ballot

abbrev pub NoneYet : View → ℕ → Type 0
NoneYet w c = (s : ℕ) (v : Value) → Proposed w c s v → ⊥

-- what one told, and how the tally stands to it
pub record TellerOk (w : View) (c : ℕ) (t : Tally) (i : ℕ) : Type 0 where
  pub number : i < 5
  pub length : ℕ
  pub vote : Cast
  pub promise : PromiseOk w i c length vote
  pub within : length ≤ t.longest
  pub at_most : length ≡ t.longest → vote.ballot ≤ t.best.ballot

-- the best vote was told at the longest length
pub record BestOk (w : View) (t : Tally) : Type 0 where
  pub by : ℕ
  pub number : by < 5
  pub voted : HasVoted w by t.longest t.best.ballot t.best.value

pub record TallyOk (w : View) (c : ℕ) (t : Tally) : Type 0 where
  pub size : length t.tellers ≡ 5
  pub tellers : (i : ℕ) → has t.tellers i ≡ true → TellerOk w c t i
  pub best : 0 < t.best.ballot → BestOk w t
  pub bound : t.best.ballot ≤ c

pub record CandidateOk (w : View) (r : ℕ) (d : Disk) (l : LeaderState) : Type 0 where
  pub owns : Owns r d l
  pub none_yet : NoneYet w l.ballot
  pub tally : TallyOk w l.ballot l.tally

-- the value was proposed at the slot
abbrev pub WasProposed : View → ℕ → Option Value → Type 0
WasProposed w s o = (v : Value) → o ≡ Some v → (c : ℕ) × Proposed w c s v

pub record CatchingOk (w : View) (r : ℕ) (d : Disk) (l : LeaderState) : Type 0 where
  pub owns : Owns r d l
  pub none_yet : NoneYet w l.ballot
  pub pends : Pends w l.ballot l.sought l.pending
  pub source : WasProposed w l.sought l.pending

-- it voted so
pub record CountedOk (w : View) (s b i : ℕ) : Type 0 where
  pub number : i < 5
  pub value : Value
  pub voted : HasVoted w i s b value

-- inheriting the value, or primary with none
pub record LeadingOk (w : View) (r : ℕ) (d : Disk) (l : LeaderState) (o : Option Value) : Type 0 where
  pub owns : Owns r d l
  pub pends : Pends w l.ballot (reach d.state) o
  pub source : WasProposed w (reach d.state) (value_out l.out)
  pub only : (s : ℕ) (v : Value) → Proposed w l.ballot s v
      → (s < reach d.state) ⊎ ((s ≡ reach d.state) × (value_out l.out ≡ Some v))
  pub place : (p : Proposal) → l.out ≡ Some p → p.slot ≡ reach d.state
  pub size : length l.counted ≡ 5
  pub counted : (i : ℕ) → has l.counted i ≡ true → CountedOk w (reach d.state) l.ballot i

-- what holds of a replica at this stage
abbrev pub StageOk : View → ℕ → Disk → LeaderState → Stage → Type 0
StageOk w r d l Follower = Unit {0}
StageOk w r d l Candidate = CandidateOk w r d l
StageOk w r d l Catching = CatchingOk w r d l
StageOk w r d l Inheriting = LeadingOk w r d l (value_out l.out)
StageOk w r d l Primary = LeadingOk w r d l None

pub record Inv (w : View) : Type 0 where
  pub mails : All (MailOk w) w.sent
  pub unique : (b s : ℕ) (v x : Value) → Proposed w b s v → Proposed w b s x → v ≡ x
  pub disks : (i : ℕ) → i < 5 → DiskOk w (w.disk i)
  pub mems : (i : ℕ) → i < 5 → StageOk w i (w.disk i) (w.memory i).leader (w.memory i).leader.stage
