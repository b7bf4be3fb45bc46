-- What an agent holds is leased in the book: nothing ended it.
use Rattle.std.proofs.Common.{◌≡◌, ◌≢◌, refl, sym, ap, subst, ◌∙◌, ◌⊎◌, inl, inr, ℕ, ◌+◌, ◌*◌, ◌<◌, ◌≤◌, ◌^◌, Bool}
use Rattle.std.proofs.Common.{true, false, List, [], ◌∷◌, ◌++◌, map, length, nat_lt, cond, ◌==◌, Some, arith}
use Rattle.std.proofs.Common.{append-nil}
use Rattle.std.proofs.lemmas.Bool.Decides.{nat_tests}
use Rattle.std.proofs.lemmas.List.{append_assoc}
use Rattle.wire_core.specs.Commands.{IsAllowed, IsValue, LogCommand, Reserve, Granted, Release, Freed, Up}
use Rattle.wire_core.specs.Members.{In, Each}
use Rattle.wire_core.specs.declared.address.Ip4.{Ip4}
use Rattle.wire_core.specs.declared.rules.LeaseRules.{LeaseRules}
use Rattle.wire_core.specs.declared.node.NodeId.TheVariants.{Replica, Mux, Agent}
use Rattle.control_msg.specs.Messages.{address, message_bytes, number}
use Rattle.control_msg.specs.declared.message.Message.{Message}
use Rattle.control_msg.specs.declared.message.Message.TheVariants as message
use Rattle.vip_config.specs.Leases.{lease_rules_of}
use Rattle.vip_config.specs.declared.parts.ConfigParts.{ConfigParts}
use Rattle.agent_spec.specs.Agent.{Agent as AgentLists}
use Rattle.agent_spec.specs.Footprints.{lease_of}
use Rattle.agent_spec.specs.declared.held.Held.{Held as HeldRange}
use Rattle.lease_spec.proofs.MemberLaws.{each_in, each_on, in_map}
use Rattle.lease_spec.proofs.OnceLaws.{nothing_twice}
use Rattle.lease_spec.proofs.PlaceLaws.{ascends_append, effects_more}
use Rattle.lease_spec.specs.Holders.{OwnNumbers}
use Rattle.lease_spec.specs.Lives.{HasCause, IsDying, IsGone, IsGranted, RaisesAbove, Standing}
use Rattle.lease_spec.specs.Once.{AllNew, NotYet}
use Rattle.lease_spec.specs.Places.{Ascends, Placed, commands}
use Rattle.lease_spec.specs.Table.{Leases, apply, at_phase, grant, history, is_being, row_at, story}
use Rattle.lease_spec.specs.Truths.{PhaseTold, RowTold, WasBorn}
use Rattle.lease_spec.specs.declared.effect.Effect.{Effect}
use Rattle.lease_spec.specs.declared.effect.Effect.TheVariants as effect
use Rattle.lease_spec.specs.declared.row.Phase.{Phase}
use Rattle.lease_spec.specs.declared.row.Phase.TheVariants.{BeingLeased, Freeing, Leased}
use Rattle.lease_spec.specs.declared.row.Row.{Row}
use Rattle.paxos_spec.specs.Votes.{Value}
use Rattle.node_spec.specs.Sends.{ToNode, Says}
use Rattle.world_spec.specs.Facts.{Reached}
use Rattle.world_spec.specs.Nodes.{OfAgent}
use Rattle.world_spec.specs.World.{World, Sent, at}
use Rattle.world_laws.specs.Agents.{AgentIsRight, AgentsTellTheirOwn, HasReturned, IsBack, IsOfOwnBoot, IsOwn}
use Rattle.world_laws.specs.Agents.{agent_boot}
use Rattle.world_laws.specs.Grants.{IsLease}
use Rattle.world_laws.specs.Hearing.{IsSound}
use Rattle.world_laws.specs.Living.{Dies, HasEnded, IsBorn, LivesAreInOrder, done}
use Rattle.world_laws.specs.Log.{book, log}
use Rattle.world_laws.specs.Reasons.{HasReason, HaveReasons, Spoke}
use Rattle.world_laws.specs.Safety.{HeldAreLeased, IsInBook, IsLeased}
use Rattle.world_laws.proofs.AgentLaws.{agents_at, return_of}
use Rattle.world_laws.proofs.Births.{BirthIs, birth_is, born_once, each_command, each_place}
use Rattle.world_laws.proofs.Books.{log_fits, log_short}
use Rattle.world_laws.proofs.GrantLaws.{prepared_by}
use Rattle.world_laws.proofs.LeaseSteps.{Lease}
use Rattle.world_laws.proofs.Living.{lives_in_world}
use Rattle.world_laws.proofs.ReasonLaws.{log_has_reasons}
use Rattle.world_laws.proofs.Taken.{same_fields, same_front, same_kind, same_last, same_rest}

-- ---- what an agent spoke

below_or : (k : ℕ) → (k < 2 ^ 64) ⊎ (2 ^ 64 ≤ k)
below_or k = by (nat_lt k (2 ^ 64)) refl
  where
    by : (t : Bool) → nat_lt k (2 ^ 64) ≡ t → (k < 2 ^ 64) ⊎ (2 ^ 64 ≤ k)
    by true e = inl (grind (arith, nat_tests, e))
    by false e = inr (grind (arith, nat_tests, e))

-- the boot that is read isn't above the one that was told
told_most : (b x : ℕ) (xs ys : List ℕ) → b < 2 ^ 64 → number x ++ xs ≡ number b ++ ys → b ≤ x
told_most b x xs ys lt e = elim (below_or x) [
  | inl small ↦ same b x (same_front 8 x b xs ys small lt e)
  | inr large ↦ above b x lt large
]
  where
    same : (m n : ℕ) → n ≡ m → m ≤ n
    same m n e = omega arith

    above : (m n : ℕ) → m < 2 ^ 64 → 2 ^ 64 ≤ n → m ≤ n
    above m n p q = omega arith

-- the same of a boot alone
told_alone : (b x : ℕ) → b < 2 ^ 64 → number x ≡ number b → b ≤ x
told_alone b x lt e = told_most b x [] [] lt (append-nil (number x) ∙ e ∙ sym (append-nil (number b)))

up_to : (a b c : ℕ) → a ≤ b → b ≤ c → a ≤ c
up_to a b c h k = omega arith

-- ---- what an agent sends, by its kind

pub data AgentSaid (cfg : ConfigParts) (w : World) (agent : ℕ) : Message → Type 0 where
  AnAsk : (boot : ℕ) (machine : Ip4) (seq : ℕ) → boot ≤ agent_boot w agent
      → AgentSaid cfg w agent (message.Ask boot machine seq)
  AnUp : (boot : ℕ) → boot ≤ agent_boot w agent → AgentSaid cfg w agent (message.AgentUp boot)
  AReturn : (boot n : ℕ) → IsOwn cfg w agent boot n → AgentSaid cfg w agent (message.Return boot n)

agent_said : (cfg : ConfigParts) (w : World) (agent : ℕ) (m : Message) → IsOfOwnBoot cfg w agent (Says m)
    → AgentSaid cfg w agent m
agent_said cfg w agent (message.Ask boot machine seq) h = AnAsk boot machine seq h
agent_said cfg w agent (message.AgentUp boot) h = AnUp boot h
agent_said cfg w agent (message.Return boot n) h = AReturn boot n h.1
agent_said cfg w agent (message.Prepare c) h = absurd h
agent_said cfg w agent (message.Promise c l vote value) h = absurd h
agent_said cfg w agent (message.Accept c t v) h = absurd h
agent_said cfg w agent (message.Accepted c t) h = absurd h
agent_said cfg w agent (message.Refuse c p) h = absurd h
agent_said cfg w agent (message.Chosen t c v) h = absurd h
agent_said cfg w agent (message.Fetch t) h = absurd h
agent_said cfg w agent (message.Grant boot machine seq n vip start) h = absurd h
agent_said cfg w agent (message.Denied boot machine seq reason number) h = absurd h
agent_said cfg w agent (message.Returned boot n) h = absurd h
agent_said cfg w agent (message.AgentKnown boot) h = absurd h
agent_said cfg w agent (message.MuxHello boot epoch) h = absurd h
agent_said cfg w agent (message.Program epoch boot n vip start machine) h = absurd h
agent_said cfg w agent (message.Programmed epoch boot n) h = absurd h
agent_said cfg w agent (message.Unprogram epoch boot n vip start) h = absurd h
agent_said cfg w agent (message.Unprogrammed epoch boot n) h = absurd h
agent_said cfg w agent (message.MuxRefuse epoch boot keeps) h = absurd h
agent_said cfg w agent (message.Lead c l) h = absurd h
agent_said cfg w agent (message.RedirectAsk src sport dst dport machine) h = absurd h
agent_said cfg w agent (message.Redirect side n src sport dst dport opener server) h = absurd h

-- an Ask that is spelled so tells a boot that the agent had
pub asked : (cfg : ConfigParts) (w : World) (agent : ℕ) (m : Message) → AgentSaid cfg w agent m → (boot : ℕ)
    (machine : Ip4) (seq : ℕ) → boot < 2 ^ 64 → message_bytes m ≡ message_bytes (message.Ask boot machine seq)
    → boot ≤ agent_boot w agent
asked cfg w agent m (AnAsk b machine' seq' le) boot machine seq lt e =
    let whole : number b ++ address machine' ++ number seq' ≡ number boot ++ address machine ++ number seq =
    same_fields 8 8 _ _ e in
    let a : number b ++ (address machine' ++ number seq') ≡ number boot ++ (address machine ++ number seq) =
    sym (append_assoc (number b) (address machine') (number seq')) ∙ whole
    ∙ append_assoc (number boot) (address machine) (number seq) in
    up_to boot b (agent_boot w agent)
    (told_most boot b (address machine' ++ number seq') (address machine ++ number seq) lt a) le
asked cfg w agent m (AnUp b le) boot machine seq lt e = absurd
    (let k : 13 ≡ 8 = same_kind 13 8 _ _ e in omega (arith, k))
asked cfg w agent m (AReturn b n own) boot machine seq lt e =
    absurd (let k : 11 ≡ 8 = same_kind 11 8 _ _ e in omega (arith, k))

-- so does an AgentUp
pub upped : (cfg : ConfigParts) (w : World) (agent : ℕ) (m : Message) → AgentSaid cfg w agent m → (boot : ℕ)
    → boot < 2 ^ 64 → message_bytes m ≡ message_bytes (message.AgentUp boot) → boot ≤ agent_boot w agent
upped cfg w agent m (AnAsk b machine seq le) boot lt e = absurd
    (let k : 8 ≡ 13 = same_kind 8 13 _ _ e in omega (arith, k))
upped cfg w agent m (AnUp b le) boot lt e =
    up_to boot b (agent_boot w agent) (told_alone boot b lt (same_fields 13 13 _ _ e)) le
upped cfg w agent m (AReturn b n own) boot lt e = absurd (let k : 11 ≡ 13 = same_kind 11 13 _ _ e in omega (arith, k))

-- a Return that is spelled so is of this number
record GaveBack (cfg : ConfigParts) (w : World) (agent n : ℕ) (m : Message) : Type 0 where
  boot : ℕ
  own : IsOwn cfg w agent boot n
  is : m ≡ message.Return boot n

gave_back : (cfg : ConfigParts) → IsSound cfg → (w : World) → Reached cfg w → (agent : ℕ) (m : Message)
    → AgentSaid cfg w agent m → (boot n : ℕ) → n < 2 ^ 64 → message_bytes m ≡ message_bytes (message.Return boot n)
    → GaveBack cfg w agent n m
gave_back cfg sound w r agent m (AnAsk b machine seq le) boot n lt e =
    absurd (let k : 8 ≡ 11 = same_kind 8 11 _ _ e in omega (arith, k))
gave_back cfg sound w r agent m (AnUp b le) boot n lt e =
    absurd (let k : 13 ≡ 11 = same_kind 13 11 _ _ e in omega (arith, k))
gave_back cfg sound w r agent m (AReturn b k own) boot n lt e =
    let born : BirthIs cfg own.lease.born = birth_is cfg sound w r k own.lease.born own.lease.birth in
    let fits : k < 2 ^ 64 = subst (λ (j : ℕ). j < 2 ^ 64) own.lease.birth.number born.number in
    let same : k ≡ n = same_last 8 k n fits lt (same_rest 8 b boot _ _ (same_fields 11 11 _ _ e)) in
    record {
      boot = b;
      own = subst (IsOwn cfg w agent b) same own;
      is = ap (message.Return b) same;
    }

-- ---- a held number isn't dying

-- each command of the log fits, and has its reason
pub reasons_at : (cfg : ConfigParts) → IsSound cfg → (w : World) → Reached cfg w → Each (HaveReasons w) (log w)
reasons_at cfg sound w r =
    subst (λ (v : World). Each (HaveReasons v) (log v)) (sym r.is) (log_has_reasons cfg sound r.events r.named)

pub reason_of : (cfg : ConfigParts) → IsSound cfg → (w : World) → Reached cfg w → (c : Placed) → In c (commands (log w))
    → HasReason w c.command
reason_of cfg sound w r c i =
    each_in (λ (x : Placed). HasReason w x.command) (commands (log w)) c
    (each_command (HasReason w) 0 (log w) (reasons_at cfg sound w r)) i

pub allowed_of : (cfg : ConfigParts) → IsSound cfg → (w : World) → Reached cfg w → (c : Placed)
    → In c (commands (log w)) → IsAllowed c.command
allowed_of cfg sound w r c i =
    each_in (λ (x : Placed). IsAllowed x.command) (commands (log w)) c
    (each_command IsAllowed 0 (log w)
    (each_on IsValue (Each IsAllowed) (λ v h. h.fields) (log w) (log_fits cfg sound w r))) i

pub said_of : (cfg : ConfigParts) → IsSound cfg → (w : World) → Reached cfg w → (agent : ℕ) (m : Message)
    (s : Spoke w agent m)
    → AgentSaid cfg w agent s.message
said_of cfg sound w r agent m s = agent_said cfg w agent s.message
    (each_in (AgentsTellTheirOwn cfg w) w.sent _ (agents_at cfg sound w r).said s.sent)

-- no command raises the boot of an agent that runs above its own
no_raise : (cfg : ConfigParts) → IsSound cfg → (w : World) → Reached cfg w → (agent boot : ℕ) → boot
    ≡ agent_boot w agent
    → (c : LogCommand) → IsAllowed c → HasReason w c → RaisesAbove c agent boot → ⊥
no_raise cfg sound w r agent boot own (Reserve ag b machine seq) fits why up =
    let had : b ≤ agent_boot w ag = asked cfg w ag why.message
    (said_of cfg sound w r ag _ why) b machine seq fits.1 why.spelled in
    above boot b (agent_boot w agent) own up.1 (subst (λ (k : ℕ). b ≤ agent_boot w k) up.0 had)
  where
    above : (m n k : ℕ) → m ≡ k → m < n → n ≤ k → ⊥
    above m n k e lt le = omega arith
no_raise cfg sound w r agent boot own (Up ag b) fits why up =
    let had : b ≤ agent_boot w ag = upped cfg w ag why.message (said_of cfg sound w r ag _ why) b fits.1 why.spelled in
    above boot b (agent_boot w agent) own up.1 (subst (λ (k : ℕ). b ≤ agent_boot w k) up.0 had)
  where
    above : (m n k : ℕ) → m ≡ k → m < n → n ≤ k → ⊥
    above m n k e lt le = omega arith
no_raise cfg sound w r agent boot own (Granted n muxes) fits why up = up
no_raise cfg sound w r agent boot own (Release n) fits why up = up
no_raise cfg sound w r agent boot own (Freed n) fits why up = up

-- the row of an effect on a lease's number has the lease's agent and boot
pub record SameOwner (row : Row) (agent boot : ℕ) : Type 0 where
  pub agent_is : row.agent ≡ agent
  pub boot_is : row.boot ≡ boot

pub owner_of : (cfg : ConfigParts) → IsSound cfg → (w : World) → Reached cfg w → (agent boot : ℕ) (h : HeldRange)
    → IsLease cfg w agent boot h.n h.range h.machine → (row : Row) → row.n ≡ h.n → WasBorn (done cfg w) row
    → SameOwner row agent boot
owner_of cfg sound w r agent boot h lease row same was =
    let one : was.born ≡ lease.born =
    born_once cfg sound w r h.n was.born lease.born
    (subst (λ (k : ℕ). IsBorn cfg w k was.born) same was.birth) lease.birth in
    record {
      agent_is = ap (λ (x : Row). x.agent) was.fields ∙ ap (λ (x : Row). x.agent) one ∙ lease.agent_is;
      boot_is = ap (λ (x : Row). x.boot) was.fields ∙ ap (λ (x : Row). x.boot) one ∙ lease.boot_is;
    }

-- a lease that was released was given back by its agent in its boot
pub returned_by : (cfg : ConfigParts) → IsSound cfg → (w : World) → Reached cfg w → (agent boot : ℕ) (h : HeldRange)
    → IsLease cfg w agent boot h.n h.range h.machine → HasReason w (Release h.n) → HasReturned w agent boot h.n
returned_by cfg sound w r agent boot h lease why =
    let s : Spoke w why.0 (message.Return why.1 h.n) = why.2 in
    let born : BirthIs cfg lease.born = birth_is cfg sound w r h.n lease.born lease.birth in
    let fits : h.n < 2 ^ 64 = subst (λ (j : ℕ). j < 2 ^ 64) lease.birth.number born.number in
    let gave : GaveBack cfg w why.0 h.n s.message =
    gave_back cfg sound w r why.0 s.message (said_of cfg sound w r why.0 _ s) why.1 h.n fits s.spelled in
    let one : gave.own.lease.born ≡ lease.born =
    born_once cfg sound w r h.n gave.own.lease.born lease.born gave.own.lease.birth lease.birth in
    let same_agent : why.0 ≡ agent =
    sym gave.own.lease.agent_is ∙ ap (λ (x : Row). x.agent) one ∙ lease.agent_is in
    let same_boot : gave.boot ≡ boot =
    sym gave.own.lease.boot_is ∙ ap (λ (x : Row). x.boot) one ∙ lease.boot_is in
    record {
      to = s.to;
      sent = subst (λ (b : ℕ). In (return_of agent b s.to h.n) w.sent) same_boot
          (subst (λ (k : ℕ). In (return_of k gave.boot s.to h.n) w.sent) same_agent
          (subst (λ (m : Message). In
          (record { from = Agent why.0; to = ToNode s.to; said = Says m }) w.sent) gave.is s.sent));
    }

not_held : (n : ℕ) (hs : List HeldRange) (h : HeldRange) → In h hs → h.n ≡ n
    → Each (λ (l : Lease). l.0 ≢ n) (map lease_of hs) → ⊥
not_held n [] h i e left = i
not_held n (x ∷ xs) h i e left = elim i [
  | inl here ↦ left.0 (ap (λ (y : HeldRange). y.n) here ∙ e)
  | inr later ↦ not_held n xs h later e left.1
]

lease_held : (cfg : ConfigParts) (w : World) (agent : ℕ) (a : AgentLists) → AgentIsRight cfg w agent a → (h : HeldRange)
    → In h a.traffic.ranges.held → IsLease cfg w agent a.boot h.n h.range h.machine
lease_held cfg w agent a right h i =
    (each_in _ (map lease_of a.traffic.ranges.held) (lease_of h) right.ranges.held
    (in_map lease_of a.traffic.ranges.held h i)).0

lives_on : (cfg : ConfigParts) → IsSound cfg → (w : World) → Reached cfg w → (agent : ℕ) (a : AgentLists)
    → AgentIsRight cfg w agent a → (h : HeldRange) → In h a.traffic.ranges.held → Dies cfg w h.n → ⊥
lives_on cfg sound w r agent a right h i dying =
    let lease : IsLease cfg w agent a.boot h.n h.range h.machine = lease_held cfg w agent a right h i in
    let caused : Each (HasCause (commands (log w))) (done cfg w) = (lives_in_world cfg sound w r).caused in
    elim dying.done [
      | inl released ↦ (
          let cause : HasCause (commands (log w)) (effect.Released dying.row) =
          each_in (HasCause (commands (log w))) (done cfg w) (effect.Released dying.row) caused released in
          let why : HasReason w (Release h.n) =
          subst (λ (n : ℕ). HasReason w (Release n)) dying.number
          (subst (HasReason w) cause.causes (reason_of cfg sound w r cause.command cause.there)) in
          not_held h.n a.traffic.ranges.held h i refl
          (right.ranges.back h.n (returned_by cfg sound w r agent a.boot h lease why)).left)
      | inr cleared ↦ (
          let cause : HasCause (commands (log w)) (effect.Cleared dying.row) =
          each_in (HasCause (commands (log w))) (done cfg w) (effect.Cleared dying.row) caused cleared in
          let owner : SameOwner dying.row agent a.boot =
          owner_of cfg sound w r agent a.boot h lease dying.row dying.number
          (prepared_by (lease_rules_of cfg) (log w) (effect.Cleared dying.row) cleared) in
          no_raise cfg sound w r agent a.boot right.boot cause.command.command
          (allowed_of cfg sound w r cause.command cause.there) (reason_of cfg sound w r cause.command cause.there)
          (subst (λ (b : ℕ). RaisesAbove cause.command.command agent b) owner.boot_is
          (subst (λ (k : ℕ). RaisesAbove cause.command.command k dying.row.boot) owner.agent_is cause.causes)))
    ]

-- ---- a granted row that stands is Leased or ends

last_new : (past es : List Effect) (e : Effect) → AllNew past (es ++ e ∷ []) → NotYet (past ++ es) e
last_new past [] e h = subst (λ (l : List Effect). NotYet l e) (sym (append-nil past)) h.0
last_new past (x ∷ xs) e h = subst (λ (l : List Effect). NotYet l e) (append_assoc past (x ∷ []) xs)
    (last_new (past ++ x ∷ []) xs e h.1)

row_found : (rows : List Row) (row : Row) → OwnNumbers rows → In row rows → row_at rows row.n ≡ Some row
row_found [] row own i = absurd i
row_found (x ∷ xs) row own i = elim i [
  | inl here ↦ subst (λ (r : Row). row_at (x ∷ xs) r.n ≡ Some r) here
      (ap (λ (b : Bool). cond b (Some x) (row_at xs x.n)) (itself x.n))
  | inr later ↦ ap (λ (b : Bool). cond b (Some x) (row_at xs row.n))
      (differs x.n row.n (each_in (λ (other : Row). x.n ≢ other.n) xs row own.0 later))
      ∙ row_found xs row own.1 later
]
  where
    itself : (n : ℕ) → (n == n) ≡ true
    itself n = grind (arith, nat_tests)

    differs : (m n : ℕ) → m ≢ n → (m == n) ≡ false
    differs m n ne = by (m == n) refl
      where
        by : (b : Bool) → (m == n) ≡ b → b ≡ false
        by true e = absurd (ne (grind (arith, nat_tests, e)))
        by false e = refl

-- one Granted more would grant it again, and nothing is granted twice
pub not_being : (rules : LeaseRules) (cs : List Placed) (p : ℕ) (row : Row) → Ascends cs
    → Each (λ (c : Placed). c.place < p) cs → OwnNumbers (story rules cs).leases.rows → In row
    (story rules cs).leases.rows
    → IsGranted (history rules cs) row.n → row.phase ≡ BeingLeased → ⊥
unfolding apply grant
not_being rules cs p row up low own there granted phase =
    let t : Leases = (story rules cs).leases in
    let c : Placed = record { place = p; command = Granted row.n [] } in
    let rises : Ascends (cs ++ c ∷ []) = ascends_append p cs (c ∷ []) up (tt, tt) low (no_less p, tt) in
    let being : is_being row.phase ≡ true = ap is_being phase in
    let found : row_at t.rows row.n ≡ Some row = row_found t.rows row own there in
    let does : (apply rules (c ∷ []) t).effects ≡ effect.Granted (at_phase Leased row) ∷ [] = rw (found, being) refl in
    let more : history rules (cs ++ c ∷ []) ≡ history rules cs ++ effect.Granted (at_phase Leased row) ∷ [] =
    effects_more rules cs (c ∷ []) ∙ ap (λ (es : List Effect). history rules cs ++ es) does in
    let new : AllNew [] (history rules cs ++ effect.Granted (at_phase Leased row) ∷ []) =
    subst (AllNew []) more (nothing_twice rules (cs ++ c ∷ []) rises) in
    (last_new [] (history rules cs) (effect.Granted (at_phase Leased row)) new).0 granted
  where
    no_less : (k : ℕ) → k ≤ k
    no_less k = omega arith

leased_phase : (p : Phase) → (p ≡ BeingLeased → ⊥) → (p ≡ Freeing → ⊥) → p ≡ Leased
leased_phase BeingLeased a b = absurd (a refl)
leased_phase Leased a b = refl
leased_phase Freeing a b = absurd (b refl)

-- ---- the book has it

in_book : (cfg : ConfigParts) → IsSound cfg → (w : World) → Reached cfg w → (agent boot : ℕ) (h : HeldRange)
    → IsLease cfg w agent boot h.n h.range h.machine → (Dies cfg w h.n → ⊥) → IsInBook cfg w agent boot h
in_book cfg sound w r agent boot h lease lives =
    let all : LivesAreInOrder cfg w = lives_in_world cfg sound w r in
    elim (all.stands h.n lease.born lease.birth) [
      | inl stands ↦ (
          let told : RowTold (done cfg w) stands.row =
          each_in (RowTold (done cfg w)) (book cfg w).rows stands.row all.told stands.there in
          let number : stands.row.n ≡ h.n = stands.number ∙ lease.birth.number in
          let one : told.was.born ≡ lease.born =
          born_once cfg sound w r h.n told.was.born lease.born
          (subst (λ (k : ℕ). IsBorn cfg w k told.was.born) number told.was.birth) lease.birth in
          let same : stands.row ≡ at_phase stands.row.phase lease.born =
          told.was.fields ∙ ap (at_phase stands.row.phase) one in
          record {
            row = stands.row;
            there = stands.there;
            number = number;
            range = stands.range ∙ lease.range_is;
            machine = ap (λ (x : Row). x.machine) same ∙ lease.machine_is;
            agent_is = ap (λ (x : Row). x.agent) same ∙ lease.agent_is;
            boot_is = ap (λ (x : Row). x.boot) same ∙ lease.boot_is;
            phase = leased_phase stands.row.phase
                (not_being (lease_rules_of cfg) (commands (log w)) (16 * (0 + length (log w)) + 1) stands.row all.places
                (each_place 0 (log w) (log_short cfg sound w r)) all.numbers stands.there
                (subst (IsGranted (done cfg w)) (sym number) lease.granted))
                (λ freeing. lives (subst (IsDying (done cfg w)) number
                (subst (PhaseTold (done cfg w) stands.row.n) freeing told.phase)));
          })
      | inr gone ↦ absurd (lives (subst (IsDying (done cfg w)) gone.number
          (prepared_by (lease_rules_of cfg) (log w) (effect.Freed gone.row) gone.done).1))
    ]

each_lives : (P : HeldRange → Type 0) (hs : List HeldRange) → ((h : HeldRange) → In h hs → P h) → Each P hs
each_lives P [] f = tt
each_lives P (h ∷ hs) f = (f h (inl refl), each_lives P hs (λ x i. f x (inr i)))

pub held_are_leased : (cfg : ConfigParts) → IsSound cfg → (w : World) → Reached cfg w → HeldAreLeased cfg w
held_are_leased cfg sound w r agent a is =
    let right : AgentIsRight cfg w agent a = (agents_at cfg sound w r).lists (Agent agent) (OfAgent a) is in
    each_lives (IsLeased cfg w agent a.boot) a.traffic.ranges.held (λ h i.
    (let lease = lease_held cfg w agent a right h i in
    let lives = lives_on cfg sound w r agent a right h i in
    record { lease = lease; lives = lives; book = in_book cfg sound w r agent a.boot h lease lives }))
