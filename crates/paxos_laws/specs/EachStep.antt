-- Each thing that a replica does is a step that shows what it owes.
use Rattle.std.specs.Prelude.{ℕ, ◌≡◌, ◌%◌, ◌<◌, List, Option, Some, None, Contains, All}
use Rattle.wire_core.specs.declared.entry.Entry.{Entry}
use Rattle.wire_core.specs.declared.entry.Entry.TheVariants as entry
use Rattle.paxos_spec.specs.declared.mail.Body.{Body}
use Rattle.paxos_spec.specs.declared.mail.Body.TheVariants.{Prepare, Accept}
use Rattle.paxos_spec.specs.declared.mail.Mail.{Mail}
use Rattle.paxos_spec.specs.declared.stage.Stage.TheVariants.{Follower}
use Rattle.paxos_spec.specs.Votes.{Value}
use Rattle.paxos_spec.specs.Acceptor.{reach}
use Rattle.paxos_spec.specs.Leader.{candidate, value_out}
use Rattle.paxos_spec.specs.Replica.{Memory, with_leader, Out, quiet, to_all, on_message, on_campaign, on_offer}
use Rattle.paxos_spec.specs.Agreement.{View, IsPrimary}
use Rattle.paxos_laws.specs.Facts.{BodyOk}
use Rattle.paxos_laws.specs.Steps.{Moves, EntryOk, GoodOut, Here, IsPlain, one_body, reopened, cut_short, followed_by}

-- what a replica does with a message that was sent
abbrev pub MessageIsGood : Type 0
MessageIsGood = (w : View) (r : ℕ) (x : Mail) → Here w r → Contains w.sent x
    → GoodOut None w r (on_message r (w.disk r).state (w.memory r) x.sender x.body)

-- a candidacy at any ballot of its own above its promise
abbrev pub CandidacyIsGood : Type 0
CandidacyIsGood = (w : View) (r b : ℕ) (m : Memory) → Here w r → (w.disk r).state.promise < b → b % 5 ≡ r
    → GoodOut None w r (record {
      entry = Some (entry.Promise b);
      memory = with_leader m (candidate b);
      sends = to_all r (Prepare b);
    })

abbrev pub CampaignIsGood : Type 0
CampaignIsGood = (w : View) (r : ℕ) → Here w r → GoodOut None w r (on_campaign r (w.disk r).state (w.memory r))

-- any value may be offered
abbrev pub OfferIsGood : Type 0
OfferIsGood = (w : View) (r : ℕ) (v : Value) → Here w r
    → GoodOut (Some v) w r (on_offer r (w.disk r).state (w.memory r) v)

-- a primary sends what is outstanding again
abbrev pub ResendIsGood : Type 0
ResendIsGood = (w : View) (r : ℕ) (v : Value)
    → Here w r → IsPrimary w r → value_out (w.memory r).leader.out ≡ Some v
    → GoodOut None w r (record {
      entry = None;
      memory = w.memory r;
      sends = to_all r (Accept (w.memory r).leader.ballot (reach (w.disk r).state) v);
    })

-- it remembers something else, and says something true that proposes nothing
abbrev pub SayingIsGood : Type 0
SayingIsGood = (w : View) (r : ℕ) (m : Memory) (body : Body) (ts : List ℕ)
    → Here w r → m.leader ≡ (w.memory r).leader → IsPlain body → BodyOk w r body
    → GoodOut None w r (one_body r None m body ts)

-- it remembers something else of what it heard, and says nothing
abbrev pub HearingIsGood : Type 0
HearingIsGood = (w : View) (r : ℕ) (m : Memory) → Here w r → m.leader ≡ (w.memory r).leader → GoodOut None w r (quiet m)

-- it steps down
abbrev pub DownIsGood : Type 0
DownIsGood = (w : View) (r : ℕ) (m : Memory) → Here w r → m.leader.stage ≡ Follower → GoodOut None w r (quiet m)

-- it goes down, where an entry of a step may be kept, or that of an opening
abbrev pub ReopeningIsGood : Type 0
ReopeningIsGood = (w : View) (r : ℕ) (e : Option Entry)
    → Here w r → EntryOk w r (w.disk r) e → GoodOut None w r (reopened e)

-- it goes down in a step, once the entry is durable
abbrev pub CutIsGood : Type 0
CutIsGood = (f : Option Value) (w : View) (r : ℕ) (o : Out)
    → Here w r → GoodOut f w r o → GoodOut None w r (cut_short o)

-- a step in which nothing was offered is also one in which something was
abbrev pub UnofferedIsGood : Type 0
UnofferedIsGood = (f : Option Value) (w : View) (r : ℕ) (o : Out) → GoodOut None w r o → GoodOut f w r o

-- what a step says comes from its own replica
abbrev pub SendersAreOwn : Type 0
SendersAreOwn = (f : Option Value) (w : View) (r : ℕ) (o : Out) → GoodOut f w r o → All (λ x. x.sender ≡ r) o.sends

-- a step, and in the same turn another that writes nothing, are one step
abbrev pub BothAreGood : Type 0
BothAreGood = (f : Option Value) (w : View) (r : ℕ) (o p : Out)
    → Here w r → p.entry ≡ None → GoodOut f w r o
    → ((v : View) → Here v r → Moves w v r o → GoodOut f v r p)
    → GoodOut f w r (followed_by o p)
