-- Worlds in which five replicas stand beside all else: turns, runs of turns, and what is true of every run.
use Rattle.std.specs.Prelude.{ℕ, ◌≡◌, ◌%◌, ◌<◌, List, [], ◌∷◌, ◌++◌, drop, length, false, Option, Some, None, Contains}
use Rattle.wire_core.specs.declared.entry.Entry.{Entry}
use Rattle.wire_core.specs.declared.entry.Entry.TheVariants as entry
use Rattle.paxos_spec.specs.declared.mail.Body.{Body}
use Rattle.paxos_spec.specs.declared.mail.Body.TheVariants.{Prepare, Accept}
use Rattle.paxos_spec.specs.declared.mail.Mail.{Mail}
use Rattle.paxos_spec.specs.declared.stage.Stage.TheVariants.{Follower}
use Rattle.paxos_spec.specs.Votes.{Value}
use Rattle.paxos_spec.specs.Acceptor.{reach}
use Rattle.paxos_spec.specs.Leader.{candidate, value_out, is_follower}
use Rattle.paxos_spec.specs.Replica.{Memory, with_leader, Out, quiet, to_all, on_message, on_campaign, on_offer}
use Rattle.paxos_spec.specs.Agreement.{View, IsPrimary, IsChosen, world_log}
use Rattle.paxos_laws.specs.Facts.{BodyOk, Inv}
use Rattle.paxos_laws.specs.Steps.{Moves, Grows, GoodOut, Here, IsPlain, one_body, reopened, cut_short, followed_by}
use Rattle.paxos_laws.specs.Order.{IsNew}
use Rattle.paxos_laws.specs.Values.{Everywhere}

-- what an opening may write
abbrev pub IsOpening : Option Entry → Type 0
IsOpening None = Unit {0}
IsOpening (Some (entry.Boot version role index boot)) = Unit {0}
IsOpening (Some (entry.Epoch epoch)) = Unit {0}
IsOpening (Some (entry.Promise ballot)) = ⊥
IsOpening (Some (entry.Vote ballot value)) = ⊥
IsOpening (Some (entry.Learn ballot value)) = ⊥

-- a candidacy at this ballot
abbrev pub running : ℕ → ℕ → Memory → Out
running r b m = record {
  entry = Some (entry.Promise b);
  memory = with_leader m (candidate b);
  sends = to_all r (Prepare b);
}

-- the outstanding value once more
abbrev pub sent_again : ℕ → View → Value → Out
sent_again r w v = record {
  entry = None;
  memory = w.memory r;
  sends = to_all r (Accept (w.memory r).leader.ballot (reach (w.disk r).state) v);
}

-- One turn of replica r in the view w: the value that is offered to it, if one is, and what it does.
pub data Turn : View → ℕ → Option Value → Out → Type 0 where
  gets : (w : View) (r : ℕ) (x : Mail) → Contains w.sent x
      → Turn w r None (on_message r (w.disk r).state (w.memory r) x.sender x.body)
  runs : (w : View) (r b : ℕ) (m : Memory) → (w.disk r).state.promise < b → b % 5 ≡ r → Turn w r None (running r b m)
  campaigns : (w : View) (r : ℕ) → Turn w r None (on_campaign r (w.disk r).state (w.memory r))
  is_offered : (w : View) (r : ℕ) (v : Value) → Turn w r (Some v) (on_offer r (w.disk r).state (w.memory r) v)
  resends : (w : View) (r : ℕ) (v : Value)
      → IsPrimary w r → value_out (w.memory r).leader.out ≡ Some v → Turn w r None (sent_again r w v)
  says : (w : View) (r : ℕ) (m : Memory) (body : Body) (ts : List ℕ)
      → m.leader ≡ (w.memory r).leader → IsPlain body → BodyOk w r body → Turn w r None (one_body r None m body ts)
  hears : (w : View) (r : ℕ) (m : Memory) → m.leader ≡ (w.memory r).leader → Turn w r None (quiet m)
  steps_down : (w : View) (r : ℕ) (m : Memory) → m.leader.stage ≡ Follower → Turn w r None (quiet m)
  opens : (w : View) (r : ℕ) (e : Option Entry) → IsOpening e → Turn w r None (reopened e)
  -- it goes down within a turn, once the entry is durable
  falls : (w : View) (r : ℕ) (f : Option Value) (o : Out) → Turn w r f o → Turn w r None (cut_short o)
  -- it goes on within a turn, and writes no more
  goes_on : (w : View) (r : ℕ) (f : Option Value) (o p : Out) → Turn w r None o → p.entry ≡ None
      → ((v : View) → Moves w v r o → Turn v r f p) → Turn w r f (followed_by o p)

abbrev pub offered : Option Value → List Value → List Value
offered None values = values
offered (Some v) values = v ∷ values

-- The view u came of w by turns, in which these values were offered, the last first.
pub data Run (w : View) : List Value → View → Type 0 where
  rests : Run w [] w
  turns : (v u : View) (values : List Value) (r : ℕ) (f : Option Value) (o : Out)
      → Run w values v → r < 5 → Turn v r f o → Moves v u r o → Run w (offered f values) u

-- Each turn shows what it owes.
abbrev pub TurnIsGood : Type 0
TurnIsGood = (w : View) (r : ℕ) (f : Option Value) (o : Out) → Turn w r f o → Here w r → GoodOut f w r o

-- what holds from w to u
pub record Follows (w u : View) : Type 0 where
  pub inv : Inv u
  pub grows : Grows w u

-- Whatever happens, all stays in order, and only grows.
abbrev pub RunKeeps : Type 0
RunKeeps = (w u : View) (values : List Value) → Run w values u → Inv w → Follows w u

-- What is chosen at a slot, now or later, is one value.
abbrev pub OneForEver : Type 0
OneForEver = (w u : View) (values : List Value) → Run w values u → Inv w
    → (s b c : ℕ) (v x : Value) → IsChosen w s b v → IsChosen u s c x → v ≡ x

-- The log of all five only grows.
abbrev pub LogGrowsOn : Type 0
LogGrowsOn = (w u : View) (values : List Value) → Run w values u → Inv w
    → world_log u ≡ world_log w ++ drop (length (world_log w)) (world_log u)

-- What lower ballots choose, now or ever, stands below the length that a primary's log has now.
abbrev pub PrimaryKnowsForEver : Type 0
PrimaryKnowsForEver = (w u : View) (values : List Value) → Run w values u → Inv w
    → (r s c : ℕ) (v : Value) → r < 5 → IsPrimary w r
    → c < (w.memory r).leader.ballot → IsChosen u s c v → s < reach (w.disk r).state

-- Each value anywhere was offered since the beginning.
abbrev pub EachWasOffered : Type 0
EachWasOffered = (w u : View) (values : List Value) → Run w values u → IsNew w
    → Everywhere (λ b s v. Contains values v) u

-- No two replicas lead, or try to, at one ballot.
abbrev pub OneLeads : Type 0
OneLeads = (w : View) → Inv w → (r q : ℕ) → r < 5 → q < 5
    → is_follower (w.memory r).leader.stage ≡ false → is_follower (w.memory q).leader.stage ≡ false
    → (w.memory r).leader.ballot ≡ (w.memory q).leader.ballot → r ≡ q
