-- The flows of a mux: those that had one packet, and those that had more. Both lists are newest first.
use Rattle.std.specs.Prelude.{ℕ, ◌+◌, ◌-◌, min, Bool, not, nat_lt, nat_le, List, [], ◌∷◌, length, take, filter}
use Rattle.std.specs.Prelude.{Option, Some, None, if◌then◌else◌}
use Rattle.std.specs.Map.{lookup, remove_entry}
use Rattle.wire_core.specs.declared.address.Ip4.{Ip4}
use Rattle.wire_core.specs.declared.flow.FlowKey.{FlowKey}
use Rattle.wire_core.specs.Same.{same_key}
use Rattle.mux_spec.specs.declared.flow.Seen.{Seen}
use Rattle.mux_spec.specs.declared.flow.Noted.{Noted}

-- flows, newest first
abbrev pub FlowList : Type 0
FlowList = List (FlowKey × Seen)

-- The two lists.
pub record Flows : Type 0 where
  pub untrusted : FlowList
  pub trusted : FlowList

-- no flow
abbrev pub no_flows : Flows
no_flows = record { untrusted = []; trusted = [] }

-- the most of the first list
unfoldable pub most_untrusted : ℕ
most_untrusted = 16384

-- the most of the second list
unfoldable pub most_trusted : ℕ
most_trusted = 65536

-- what is kept of a flow
abbrev pub flow_in : FlowKey → FlowList → Option Seen
flow_in k fs = lookup (same_key k) fs

-- the list without a flow
abbrev pub without : FlowKey → FlowList → FlowList
without k fs = remove_entry (same_key k) fs

-- a flow's first packet, and each later one: a SYN begins the count again
abbrev pub first_seen : Ip4 → ℕ → Seen
first_seen chosen now = record { machine = chosen; count = 1; last = now }

-- each later packet keeps the machine
abbrev pub seen_again : Bool → ℕ → Seen → Seen
seen_again syn now s = record { machine = s.machine; count = if syn then 1 else min (s.count + 1) 4; last = now }

-- a new flow: where the list is full its oldest leaves
abbrev pub begin : Flows → FlowKey → Seen → Flows
begin t k s = record t { untrusted = (k, s) ∷ take (most_untrusted - 1) t.untrusted }

-- an untrusted flow that comes again becomes trusted where there is room
abbrev pub trust : Flows → FlowKey → Seen → Flows
trust t k s =
    if nat_lt (length t.trusted) most_trusted
    then record { untrusted = without k t.untrusted; trusted = (k, s) ∷ t.trusted }
    else record t { untrusted = (k, s) ∷ without k t.untrusted }

-- a trusted flow that comes again goes newest
abbrev pub renew : Flows → FlowKey → Seen → Flows
renew t k s = record t { trusted = (k, s) ∷ without k t.trusted }

-- the flows after a packet, and what is noted of it
abbrev pub Noting : Type 0
Noting = Flows × Noted

-- the machine and the count
abbrev pub noted : Seen → Noted
noted s = record { machine = s.machine; count = s.count }

-- by what the first list has
abbrev pub note_untrusted : Flows → FlowKey → Bool → Ip4 → ℕ → Option Seen → Noting
note_untrusted t k syn chosen now None = (begin t k (first_seen chosen now), noted (first_seen chosen now))
note_untrusted t k syn chosen now (Some s) = (trust t k (seen_again syn now s), noted (seen_again syn now s))

-- by what the second list has
abbrev pub note_trusted : Flows → FlowKey → Bool → Ip4 → ℕ → Option Seen → Noting
note_trusted t k syn chosen now None = note_untrusted t k syn chosen now (flow_in k t.untrusted)
note_trusted t k syn chosen now (Some s) = (renew t k (seen_again syn now s), noted (seen_again syn now s))

-- a packet of a flow, with the machine that is chosen where the flow is new
unfoldable pub note : Flows → FlowKey → Bool → Ip4 → ℕ → Noting
note t k syn chosen now = note_trusted t k syn chosen now (flow_in k t.trusted)

-- idle for so long
abbrev pub is_idle : ℕ → ℕ → Seen → Bool
is_idle now idle s = nat_le idle (now - s.last)

-- those that aren't idle
abbrev pub still : ℕ → ℕ → FlowList → FlowList
still now idle fs = filter (λ f. not (is_idle now idle f.1)) fs

-- idle flows leave
unfoldable pub expire : Flows → ℕ → ℕ → Flows
expire t now idle = record { untrusted = still now idle t.untrusted; trusted = still now idle t.trusted }
