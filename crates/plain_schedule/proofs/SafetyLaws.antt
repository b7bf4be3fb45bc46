-- Each moment of a plain schedule is safe.
use Rattle.std.proofs.Common.{◌≡◌, ℕ, ◌+◌, ◌<◌, ◌≤◌, Bool, true, false, ◌==◌, nat_lt, nat_le, List, [], ◌∷◌, length, Option, Some, None, Result, Ok, Err, refl, sym, ap, ◌∙◌, subst, arith}
use Rattle.std.specs.Prelude.{not, ◌||◌, cond, is_none, is_some}
use Rattle.std.proofs.lemmas.Bool.Decides.{nat_tests}
use Rattle.wire_core.specs.declared.address.Ip4.{Ip4}
use Rattle.wire_core.specs.declared.cause.DropCause.{DropCause}
use Rattle.wire_core.specs.declared.cause.DropCause.TheVariants.{TtlOut}
use Rattle.wire_core.specs.declared.flow.FlowKey.{FlowKey}
use Rattle.wire_core.specs.declared.rules.MachineRule.{MachineRule}
use Rattle.wire_core.specs.Flows.{reverse}
use Rattle.wire_core.specs.Members.{In, Each}
use Rattle.wire_core.specs.Commands.{Reserve, Release, Freed}
use Rattle.packet_spec.specs.declared.fault.PacketFault.{PacketFault}
use Rattle.packet_spec.specs.Packets.{read_packet, key_of}
use Rattle.lease_spec.specs.declared.row.Row.{Row}
use Rattle.lease_spec.specs.Table.{row_at, rule_of, last_of}
use Rattle.lease_spec.proofs.MemberLaws.{each_in, by_if}
use Rattle.port_leases.specs.TableState.{has_vip}
use Rattle.plain_schedule.specs.declared.connections.Connection.{Connection}
use Rattle.plain_schedule.specs.declared.line.Line.{Line}
use Rattle.plain_schedule.specs.declared.line.Line.TheVariants.{Skip, Vip, Ask, Return, Packet, Reply}
use Rattle.plain_schedule.specs.Connections.{has_private, has_public, newest, standing}
use Rattle.address_text.specs.Fields.{parts}
use Rattle.plain_schedule.specs.Lines.{line_of}
use Rattle.plain_schedule.specs.Packets.{with_private, with_public, first_free, opens, takes, outgoing, or_none, incoming, sent}
use Rattle.plain_schedule.specs.Schedule.{Plain, start, is_named, with_machine, seq_after, asked, ask_by, ask_line, returned, named, at_table, step, line_step, without_end}
use Rattle.plain_schedule.specs.Safety.{moments_after, moments_from, moments_of_lines, IsLive, IsSafe, IsAlwaysSafe}
use Rattle.wire_core.proofs.SameLaws.{key_is}
use Rattle.plain_schedule.proofs.ListLaws.{newest_in}
use Rattle.plain_schedule.specs.Kept.{Sound, Stands}
use Rattle.plain_schedule.proofs.Kept.{rows, some_is}
use Rattle.plain_schedule.proofs.Openings.{standing_is, standing_some, found_new, sound_opens}
use Rattle.plain_schedule.proofs.TableSteps.{at, sound_machine, sound_slot, sound_vip}
use Rattle.plain_schedule.proofs.PortLines.{IsPort, port_line}

pub sound_start : Sound start
sound_start = record {
  ranges = tt;
  leasable = tt;
  bounds = tt;
  numbers = tt;
  below = tt;
  old = tt;
  known = tt;
  public = λ c i. absurd i;
  private = λ c i. absurd i;
  holders = λ c i. absurd i;
}

-- ---- lines

abbrev IfGood : Option (Plain × List ℕ) → Type 0
IfGood None = Unit {0}
IfGood (Some after) = Sound after.0

is_not_none : {X : Type 0} (o : Option X) → is_none o ≡ false → is_some o ≡ true
is_not_none None e = absurd (cc)
is_not_none (Some x) e = refl

is_not_some : {X : Type 0} (o : Option X) → is_some o ≡ true → is_none o ≡ false
is_not_some None e = absurd (cc)
is_not_some (Some x) e = refl

sound_named : (s : Plain) (vip : Ip4) (low high : ℕ) → high ≤ 65535 → Sound s
    → IfGood (at_table s (named s.table vip low high))
sound_named s vip low high top h =
    by_if (λ o. IfGood (at_table s o)) (is_named s.table vip || nat_le 64 (length s.table.rules.vips)) (λ _. tt)
    (λ _. sound_vip s (record { vip = vip; low = low; high = high; taken = [] }) top h)

sound_asked : (s : Plain) (machine : Ip4) → Sound s → Sound (at s (asked s.table machine).0)
sound_asked s machine h =
    sound_slot s (Reserve 0 1 machine (seq_after (last_of s.table.leases.lasts machine)) ∷ []) (omega arith) h

sound_ask_by : (s : Plain) (vip machine : Ip4) (o : Option MachineRule) → Sound s
    → IfGood (at_table s (ask_by s.table vip machine o))
sound_ask_by s vip machine None h =
    let rule : MachineRule = record { machine = machine; agent = 0; vip = vip } in
    sound_asked (at s (with_machine rule s.table)) machine (sound_machine s rule h)
sound_ask_by s vip machine (Some rule) h =
    by_if (λ o. IfGood (at_table s o)) (rule.vip.0 == vip.0) (λ _. sound_asked s machine h) (λ _. tt)

sound_ask : (s : Plain) (vip machine : Ip4) → Sound s → IfGood (at_table s (ask_line s.table vip machine))
sound_ask s vip machine h =
    by_if (λ o. IfGood (at_table s o)) (not (has_vip s.table.rules vip) || has_vip s.table.rules machine) (λ _. tt)
    (λ _. sound_ask_by s vip machine (rule_of s.table.rules machine) h)

sound_returned : (s : Plain) (n : ℕ) (o : Option Row) → Sound s → Sound (at s (returned s.table n o).0)
sound_returned s n None h = h
sound_returned s n (Some row) h = sound_slot s (Release n ∷ Freed n ∷ []) (omega arith) h

sound_opened : (s : Plain) (key : FlowKey) (o : Option Connection) → is_some (rule_of s.table.rules key.src) ≡ true
    → first_free s.table s.opened key ≡ o → with_private s.table s.opened key ≡ None → Sound s
    → Sound (record s { opened = (opens s.opened o).0 })
sound_opened s key None known e private h = h
sound_opened s key (Some c) known e private h = sound_opens s c h (found_new s key c h known private e)

sound_takes : (s : Plain) (key : FlowKey) (o : Option Connection) → is_some (rule_of s.table.rules key.src) ≡ true
    → with_private s.table s.opened key ≡ o → Sound s
    → Sound (record s { opened = (takes s.table s.opened key o).0 })
sound_takes s key None known private h =
    sound_opened s key (first_free s.table s.opened key) known refl private h
sound_takes s key (Some c) known private h = h

sound_outgoing : (s : Plain) (key : FlowKey) → Sound s
    → Sound (record s { opened = (outgoing s.table s.opened key).0 })
sound_outgoing s key h =
    by_if (λ (x : List Connection × Result Connection DropCause). Sound (record s { opened = x.0 }))
    (is_none (rule_of s.table.rules key.src)) (λ _. h)
    (λ is.
    sound_takes s key (with_private s.table s.opened key) (is_not_none (rule_of s.table.rules key.src) is) refl h)

sound_sent : (s : Plain) (r : Result (List ℕ) PacketFault) → Sound s
    → Sound (record s { opened = (sent s.table s.opened r).0 })
sound_sent s (Err fault) h = h
sound_sent s (Ok p) h = sound_outgoing s (key_of p) h

-- Each line keeps the facts.
sound_step : (s : Plain) (o : Option Line) → IsPort o → Sound s → IfGood (step s o)
sound_step s None port h = tt
sound_step s (Some Skip) port h = h
sound_step s (Some (Vip vip low high)) port h = sound_named s vip low high port h
sound_step s (Some (Ask vip machine)) port h = sound_ask s vip machine h
sound_step s (Some (Return n)) port h = sound_returned s n (row_at (rows s) n) h
sound_step s (Some (Packet bytes)) port h = sound_sent s (read_packet bytes) h
sound_step s (Some (Reply bytes)) port h = h

sound_line : (n : ℕ) (s : Plain) (line : List ℕ) → Sound s → IfGood (line_step n s line)
sound_line n s line h = by_if IfGood (nat_lt 100000 n) (λ _. tt) (λ _. sound_step s (line_of line) (port_line line) h)

-- ---- what the facts say

private_one : (s : Plain) (c d : Connection) → Sound s → IsLive s c → IsLive s d → c.private ≡ d.private → c ≡ d
private_one s c d h a b same =
    some_is c d
    (sym (h.private c a.opened a.stands) ∙ ap (λ (k : FlowKey). newest (has_private k) s.opened) same
    ∙ h.private d b.opened b.stands)

-- a packet of a live connection takes it
takes_own : (s : Plain) (c : Connection) → Sound s → IsLive s c
    → outgoing s.table s.opened c.private ≡ (s.opened, Ok c)
takes_own s c h a =
    let known : is_some (rule_of s.table.rules c.private.src) ≡ true
    = each_in (λ (d : Connection). is_some (rule_of s.table.rules d.private.src) ≡ true) s.opened c h.known a.opened in
    let found : with_private s.table s.opened c.private ≡ Some c
    = ap (standing (rows s)) (h.private c a.opened a.stands) ∙ standing_is (rows s) c a.stands in
    rw (is_not_some (rule_of s.table.rules c.private.src) known, found) refl

public_one : (s : Plain) (c d : Connection) → Sound s → IsLive s c → IsLive s d → c.public ≡ d.public → c ≡ d
public_one s c d h a b same =
    some_is c d
    (sym (h.public c a.opened a.stands) ∙ ap (λ (k : FlowKey). newest (has_public k) s.opened) same
    ∙ h.public d b.opened b.stands)

reply_is : (s : Plain) (c : Connection) (ttl : ℕ) (key : FlowKey) → incoming s.table s.opened ttl key ≡ Ok c
    → IsLive s c × (c.public ≡ reverse key)
reply_is s c ttl key e = by (nat_le ttl 1) e
  where
    from : (o : Option Connection) → with_public s.table s.opened (reverse key) ≡ o → or_none o ≡ Ok c
        → IsLive s c × (c.public ≡ reverse key)
    from None is e = absurd (cc)
    from (Some d) is e =
        let same : d ≡ c = cc in
        let found : (newest (has_public (reverse key)) s.opened ≡ Some d) × Stands (rows s) d = standing_some (rows s)
        (newest (has_public (reverse key)) s.opened) d is in
        let there : In d s.opened × (has_public (reverse key) d ≡ true) = newest_in (has_public (reverse key)) s.opened
        d found.0 in
        subst (λ (x : Connection). IsLive s x × (x.public ≡ reverse key)) same
        (record { opened = there.0; stands = found.1 }, key_is d.public (reverse key) there.1)

    by : (b : Bool) → cond b (Err TtlOut) (or_none (with_public s.table s.opened (reverse key))) ≡ Ok c
        → IsLive s c × (c.public ≡ reverse key)
    by true e = absurd (cc)
    by false e = from (with_public s.table s.opened (reverse key)) refl e

reply_reaches : (s : Plain) (c : Connection) (ttl : ℕ) (key : FlowKey) → Sound s → IsLive s c → c.public ≡ reverse key
    → 1 < ttl → incoming s.table s.opened ttl key ≡ Ok c
reply_reaches s c ttl key h live same more =
    let late : nat_le ttl 1 ≡ false = grind (arith, nat_tests) in
    let found : newest (has_public (reverse key)) s.opened ≡ Some c = subst
    (λ (k : FlowKey). newest (has_public k) s.opened ≡ Some c) same (h.public c live.opened live.stands) in
    let stands : with_public s.table s.opened (reverse key) ≡ Some c = ap (standing (rows s)) found
    ∙ standing_is (rows s) c live.stands in
    rw (late, stands) refl

safe_of : (s : Plain) → Sound s → IsSafe s
safe_of s h = record {
  ranges = h.ranges;
  leasable = h.leasable;
  ends = λ c d a b same. public_one s c d h a b same;
  flows = λ c d a b same. private_one s c d h a b same;
  keeps = λ c a. takes_own s c h a;
  holders = λ c a. h.holders c a.opened a.stands;
  replies = reply_is s;
  reaches = λ c ttl key a same more. reply_reaches s c ttl key h a same more;
}

-- ---- every text

safe_from : (lines : List (List ℕ)) (s : Plain) (n : ℕ) → Sound s → Each IsSafe (moments_from s n lines)
unfolding moments_from
safe_from [] s n h = (safe_of s h, tt)
safe_from (line ∷ lines) s n h =
    (safe_of s h, on (line_step n s line) (sound_line n s line h) (λ after k. safe_from lines after (n + 1) k))
  where
    on : (o : Option (Plain × List ℕ)) → IfGood o
        → ((after : Plain) → Sound after → Each IsSafe (moments_from after (n + 1) lines))
        → Each IsSafe (moments_after o (λ after. moments_from after (n + 1) lines))
    on None good k = tt
    on (Some after) good k = k after.0 good

safe_lines : (lines : List (List ℕ)) → Each IsSafe (moments_of_lines lines)
safe_lines [] = tt
safe_lines (line ∷ lines) = safe_from lines start 2 sound_start

pub always_safe : (text : List ℕ) → IsAlwaysSafe text
always_safe text = safe_lines (parts 10 (without_end text))
