-- What is known of a lease's birth: one birth a number, fields within their widths, a range of the machine's own VIP.
use Rattle.std.proofs.Common.{◌≡◌, refl, sym, ap, subst, ◌∙◌, inl, inr, ℕ, zero, suc, ◌+◌, ◌-◌, ◌*◌, ◌<◌, ◌≤◌, ◌^◌}
use Rattle.std.proofs.Common.{Bool, true, false, List, [], ◌∷◌, ◌++◌, map, drop, length, Option, Some, None, arith}
use Rattle.std.proofs.Common.{length-append}
use Rattle.std.specs.Prelude.{◌==◌, ◌&&◌, ◌||◌, find}
use Rattle.std.specs.List.{flat_map, list_any}
use Rattle.std.proofs.lemmas.Bool.Decides.{nat_tests}
use Rattle.std.proofs.lemmas.List.{length-drop, length-map}
use Rattle.wire_core.proofs.SameLaws.{ip_is, ip_itself}
use Rattle.wire_core.specs.Commands.{IsAllowed, IsValue, LogCommand, Reserve}
use Rattle.wire_core.specs.Members.{In, Each}
use Rattle.wire_core.specs.Ranges.{is_leasable}
use Rattle.wire_core.specs.Same.{same_ip}
use Rattle.wire_core.specs.declared.address.Ip4.{Ip4}
use Rattle.wire_core.specs.declared.range.Range.{Range}
use Rattle.wire_core.specs.declared.rules.LeaseRules.{LeaseRules}
use Rattle.wire_core.specs.declared.rules.MachineRule.{MachineRule}
use Rattle.vip_config.specs.Leases.{lease_rules_of, machine_rule, machine_rules}
use Rattle.vip_config.specs.Machines.{machines_of}
use Rattle.vip_config.specs.Rules.{KeepsRules}
use Rattle.vip_config.specs.Serving.{has_snat, is_snat}
use Rattle.vip_config.specs.declared.parts.ConfigParts.{ConfigParts}
use Rattle.vip_config.specs.declared.parts.VipConf.{VipConf}
use Rattle.agent_spec.proofs.Counting.{Eight, both, eight, has_both}
use Rattle.lease_spec.proofs.MemberLaws.{each_append, each_in, each_on, found_in, found_passes, in_cases, in_left}
use Rattle.lease_spec.proofs.MemberLaws.{in_right}
use Rattle.lease_spec.proofs.MomentLaws.{all_true}
use Rattle.lease_spec.proofs.PlaceLaws.{placed_within}
use Rattle.lease_spec.specs.Free.{IsLeast, has_no_row, is_free}
use Rattle.lease_spec.specs.Lives.{Birth, Causes, HasCause}
use Rattle.lease_spec.specs.Moments.{Happened, IsBirth, IsTrueOf}
use Rattle.lease_spec.specs.Once.{AllNew, IsOnBelow, NotYet}
use Rattle.lease_spec.specs.Places.{AreShort, Placed, commands, commands_from, placed, slot_commands}
use Rattle.lease_spec.specs.Table.{history, rule_of, story}
use Rattle.lease_spec.specs.declared.effect.Effect.{Effect}
use Rattle.lease_spec.specs.declared.effect.Effect.TheVariants as effect
use Rattle.lease_spec.specs.declared.row.Row.{Row}
use Rattle.paxos_laws.specs.Disks.{disk_of}
use Rattle.paxos_laws.proofs.Named as laws
use Rattle.paxos_spec.specs.Acceptor.{AcceptorState, most_slots, reach}
use Rattle.paxos_spec.specs.Agreement.{Disk, View, first_of, values_of, world_log}
use Rattle.paxos_spec.specs.Five.{five}
use Rattle.paxos_spec.specs.Votes.{Value}
use Rattle.paxos_spec.specs.declared.cast.Cast.{Cast}
use Rattle.wire_core.specs.declared.node.NodeId.TheVariants.{Replica}
use Rattle.world_spec.specs.Facts.{Reached}
use Rattle.world_spec.specs.World.{World, disk}
use Rattle.world_laws.specs.Hearing.{IsSound}
use Rattle.world_laws.specs.Living.{IsBorn, LivesAreInOrder, done}
use Rattle.world_laws.specs.Log.{log}
use Rattle.world_laws.specs.Seen.{view}
use Rattle.world_laws.specs.Widths.{AcceptorFits, EntryFits}
use Rattle.world_laws.proofs.Books.{log_fits, log_short}
use Rattle.world_laws.proofs.Heard.{hearing_at}
use Rattle.world_laws.proofs.Living.{lives_in_world}
use Rattle.world_laws.proofs.StepWidths.{state_fits}

-- ---- one birth a number

later_new : (past es : List Effect) (row : Row) (e : Effect) → AllNew past es → In (effect.Reserved row) es → In e past
    → IsOnBelow row.n e
later_new past [] row e new i j = absurd i
later_new past (x ∷ xs) row e new i j = elim i [
  | inl here ↦ each_in (IsOnBelow row.n) past e (subst (NotYet past) here new.0) j
  | inr later ↦ later_new (past ++ x ∷ []) xs row e new.1 later (in_left past (x ∷ []) e j)
]

no_less : (n : ℕ) → n < n → ⊥
no_less n lt = omega arith

reserved_is : (a b : Row) → effect.Reserved a ≡ effect.Reserved b → a ≡ b
reserved_is a b e = cc

one_birth : (past es : List Effect) (a b : Row) → AllNew past es → In (effect.Reserved a) es → In (effect.Reserved b) es
    → a.n ≡ b.n → a ≡ b
one_birth past [] a b new i j e = absurd i
one_birth past (x ∷ xs) a b new i j e = elim i [
  | inl here ↦ elim j [
    | inl also ↦ reserved_is a b (sym here ∙ also)
    | inr later ↦ absurd (no_less b.n (subst (λ (n : ℕ). n < b.n) e
        (subst (IsOnBelow b.n) here
        (later_new (past ++ x ∷ []) xs b x new.1 later (in_right past (x ∷ []) x (inl refl))))))
  ]
  | inr later ↦ elim j [
    | inl here ↦ absurd (no_less a.n (subst (λ (n : ℕ). n < a.n) (sym e)
        (subst (IsOnBelow a.n) here
        (later_new (past ++ x ∷ []) xs a x new.1 later (in_right past (x ∷ []) x (inl refl))))))
    | inr also ↦ one_birth (past ++ x ∷ []) xs a b new.1 later also e
  ]
]

pub born_once : (cfg : ConfigParts) → IsSound cfg → (w : World) → Reached cfg w → (n : ℕ) (a b : Row) → IsBorn cfg w n a
    → IsBorn cfg w n b → a ≡ b
born_once cfg sound w r n a b h k =
    one_birth [] (done cfg w) a b (lives_in_world cfg sound w r).once h.done k.done (h.number ∙ sym k.number)

-- ---- commands of a log

each_placed : (P : LogCommand → Type 0) (place : ℕ) (cs : List LogCommand) → Each P cs
    → Each (λ (c : Placed). P c.command) (placed place cs)
each_placed P place [] h = tt
each_placed P place (c ∷ cs) h = (h.0, each_placed P (place + 1) cs h.1)

-- what holds of each command of each value
pub each_command : (P : LogCommand → Type 0) (slot : ℕ) (values : List Value) → Each (Each P) values
    → Each (λ (c : Placed). P c.command) (commands_from slot values)
each_command P slot [] h = tt
each_command P slot (v ∷ vs) h =
    each_append (λ (c : Placed). P c.command) (slot_commands slot v) (commands_from (slot + 1) vs)
    (each_placed P (16 * slot + 1) v h.0) (each_command P (slot + 1) vs h.1)

pub each_place : (slot : ℕ) (values : List Value) → AreShort values
    → Each (λ (c : Placed). c.place < 16 * (slot + length values) + 1) (commands_from slot values)
each_place slot [] short = tt
each_place slot (v ∷ vs) short =
    each_append (λ (c : Placed). c.place < 16 * (slot + length (v ∷ vs)) + 1) (slot_commands slot v)
    (commands_from (slot + 1) vs)
    (each_on _ (λ (c : Placed). c.place < 16 * (slot + length (v ∷ vs)) + 1) (λ c h. first c.place h.1)
    (slot_commands slot v)
    (placed_within (16 * slot + 1) v))
    (each_on (λ (c : Placed). c.place < 16 * (slot + 1 + length vs) + 1)
    (λ (c : Placed). c.place < 16 * (slot + length (v ∷ vs)) + 1)
    (λ c h. omega arith) (commands_from (slot + 1) vs) (each_place (slot + 1) vs short.1))
  where
    first : (p : ℕ) → p < 16 * slot + 1 + length v → p < 16 * (slot + length (v ∷ vs)) + 1
    first p lt = let few : length v ≤ 16 = short.0 in omega arith

-- ---- the log's length

first_long : (most : ℕ) (ls : List (List Value)) → Each (λ (l : List Value). length l ≤ most) ls → length
    (first_of ls) ≤ most
first_long most [] h = omega arith
first_long most (l ∷ ls) h =
    let rest : length (first_of ls) ≤ most = first_long most ls h.1 in
    let whole : length (l ++ drop (length l) (first_of ls)) ≡ length l + length (drop (length l) (first_of ls)) =
    length-append l (drop (length l) (first_of ls)) in
    let left : length (drop (length l) (first_of ls)) ≡ length (first_of ls) - length l = length-drop (length l)
    (first_of ls) in
    let here : length l ≤ most = h.0 in
    omega (arith, whole, left, here, rest)

disk_short : (cfg : ConfigParts) → IsSound cfg → (w : World) → Reached cfg w → (i : ℕ)
    → length (values_of ((view w).disk i)) ≤ most_slots
unfolding view
disk_short cfg sound w r i =
    let fits : AcceptorFits (disk_of (disk w (Replica i))).state =
    subst AcceptorFits (laws.state_is_of_disk (disk w (Replica i)))
    (state_fits (disk w (Replica i)) ((hearing_at cfg sound w r).kept (Replica i))) in
    let long : length (values_of (disk_of (disk w (Replica i)))) ≡ reach (disk_of (disk w (Replica i))).state =
    length-map (disk_of (disk w (Replica i))).state.log (λ (x : Cast). x.value) in
    subst (λ (k : ℕ). k ≤ most_slots) (sym long) fits.room

each_five : (P : List Value → Type 0) (f : ℕ → List Value) → ((i : ℕ) → P (f i)) → (is : List ℕ) → Each P (map f is)
each_five P f h [] = tt
each_five P f h (i ∷ is) = (h i, each_five P f h is)

log_long : (cfg : ConfigParts) → IsSound cfg → (w : World) → Reached cfg w → length (log w) ≤ most_slots
log_long cfg sound w r = first_long most_slots (map (λ (i : ℕ). values_of ((view w).disk i)) five)
    (each_five (λ (l : List Value). length l ≤ most_slots) (λ (i : ℕ). values_of ((view w).disk i))
    (disk_short cfg sound w r) five)

-- ---- a birth

rule_in : (ms : List (Ip4 × ℕ)) (vip : VipConf) (ips : List Ip4) (machine : Ip4) (rule : MachineRule)
    → In rule (map (machine_rule ms vip.address) ips) → (rule.machine.0 == machine.0) ≡ true
    → (list_any (same_ip machine) ips ≡ true) × (rule.vip ≡ vip.address)
rule_in ms vip [] machine rule i e = absurd i
rule_in ms vip (a ∷ ips) machine rule i e = elim i [
  | inl here ↦ (
    ap (λ (b : Bool). b || list_any (same_ip machine) ips) (same_first a (ap (λ (x : MachineRule). x.machine) here)),
    sym (ap (λ (x : MachineRule). x.vip) here),
  )
  | inr later ↦ (let k = rule_in ms vip ips machine rule later e in (or_right (same_ip machine a) k.0, k.1))
]
  where
    same_first : (a : Ip4) → a ≡ rule.machine → same_ip machine a ≡ true
    same_first a is = subst (λ (m : Ip4). same_ip machine m ≡ true) (sym is) (grind (arith, nat_tests, e))

    or_right : (b : Bool) {d : Bool} → d ≡ true → (b || d) ≡ true
    or_right true e = refl
    or_right false e = e

rules_in : (ms : List (Ip4 × ℕ)) (vips : List VipConf) (machine : Ip4) (rule : MachineRule)
    → In rule (flat_map (machine_rules ms) vips) → (rule.machine.0 == machine.0) ≡ true
    → has_snat vips rule.vip machine ≡ true
rules_in ms [] machine rule i e = absurd i
rules_in ms (v ∷ vs) machine rule i e =
    elim (in_cases (machine_rules ms v) (flat_map (machine_rules ms) vs) rule i) [
      | inl here ↦ (let k = rule_in ms v v.snat machine rule here e in
          here_snat (is_snat machine v)
          (subst (λ (a : Ip4). same_ip v.address a ≡ true) (sym k.1) (ip_itself v.address)) k.0)
      | inr later ↦ or_right (same_ip v.address rule.vip && is_snat machine v) (rules_in ms vs machine rule later e)
    ]
  where
    here_snat : (b : Bool) → same_ip v.address rule.vip ≡ true → b ≡ true
        → ((same_ip v.address rule.vip && b) || has_snat vs rule.vip machine) ≡ true
    here_snat b p q = rw (p, q) refl

    or_right : (b : Bool) {d : Bool} → d ≡ true → (b || d) ≡ true
    or_right true e = refl
    or_right false e = e

-- what is known of the row that a lease was born with
pub record BirthIs (cfg : ConfigParts) (row : Row) : Type 0 where
  pub number : row.n < 2 ^ 64
  pub boot : row.boot < 2 ^ 64
  pub machine : row.machine.0 < 2 ^ 32
  pub start : row.range.start < 2 ^ 16
  pub snat : has_snat cfg.vips row.range.vip row.machine ≡ true
  pub rule : MachineRule
  pub rule_is : rule_of (lease_rules_of cfg) row.machine ≡ Some rule
  pub agent : row.agent ≡ rule.agent

reserved_fits : (cfg : ConfigParts) → IsSound cfg → (w : World) → Reached cfg w → (row : Row)
    → HasCause (commands (log w)) (effect.Reserved row)
    → (row.n < 2 ^ 64) × (row.boot < 2 ^ 64) × (row.machine.0 < 2 ^ 32)
reserved_fits cfg sound w r row cause =
    let values : Each (Each IsAllowed) (log w) =
    each_on IsValue (Each IsAllowed) (λ v h. h.fields) (log w) (log_fits cfg sound w r) in
    let allowed : IsAllowed cause.command.command =
    each_in (λ (c : Placed). IsAllowed c.command) (commands (log w)) cause.command
    (each_command IsAllowed 0 (log w) values) cause.there in
    let place : cause.command.place < 16 * (0 + length (log w)) + 1 =
    each_in (λ (c : Placed). c.place < 16 * (0 + length (log w)) + 1) (commands (log w)) cause.command
    (each_place 0 (log w) (log_short cfg sound w r)) cause.there in
    let long : length (log w) ≤ most_slots = log_long cfg sound w r in
    let at : cause.command.place ≡ row.n = cause.causes.0 in
    let fields : IsAllowed (Reserve row.agent row.boot row.machine row.seq) = subst IsAllowed cause.causes.1 allowed in
    (below cause.command.place row.n (length (log w)) at place long, fields.1, fields.2)
  where
    below : (p n l : ℕ) → p ≡ n → p < 16 * (0 + l) + 1 → l ≤ 2 ^ 58 → n < 2 ^ 64
    below p n l e lt long = omega arith

pub birth_is : (cfg : ConfigParts) → IsSound cfg → (w : World) → Reached cfg w → (n : ℕ) (row : Row)
    → IsBorn cfg w n row
    → BirthIs cfg row
birth_is cfg sound w r n row h =
    let rules : LeaseRules = lease_rules_of cfg in
    let lives : LivesAreInOrder cfg w = lives_in_world cfg sound w r in
    let fits = reserved_fits cfg sound w r row
    (each_in (HasCause (commands (log w))) (done cfg w) (effect.Reserved row) lives.caused h.done) in
    let happened : Happened rules (commands (log w)) (effect.Reserved row) =
    each_in (Happened rules (commands (log w))) (done cfg w) (effect.Reserved row)
    (all_true rules (commands (log w))) h.done in
    let b : IsBirth rules (story rules happened.before).leases row = happened.true_of in
    let found : rule_of rules row.machine ≡ Some b.rule = b.asked.rule_is in
    let snat : has_snat cfg.vips b.rule.vip row.machine ≡ true =
    rules_in (machines_of cfg.agents) cfg.vips row.machine b.rule
    (found_in (λ (x : MachineRule). x.machine.0 == row.machine.0) rules.machines b.rule found)
    (found_passes (λ (x : MachineRule). x.machine.0 == row.machine.0) rules.machines b.rule found) in
    let leasable : is_leasable rules row.range ≡ true = (both (is_leasable rules row.range) _ b.least.free).0 in
    let e : Eight row.range.start = eight cfg sound.rules row.range leasable in
    record {
      number = fits.0;
      boot = fits.1;
      machine = fits.2;
      start = within row.range.start e.fits;
      snat = subst (λ (v : Ip4). has_snat cfg.vips v row.machine ≡ true) (sym b.least.of_vip) snat;
      rule = b.rule;
      rule_is = found;
      agent = b.agent;
    }
  where
    within : (s : ℕ) → s + 7 ≤ 65535 → s < 2 ^ 16
    within s h = omega arith
