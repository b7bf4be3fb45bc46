-- The book, and which acts are legal.
use Rattle.std.specs.Prelude.{◌≡◌, ℕ, Bool, true, false, not, ◌&&◌, ◌||◌, nat_lt, nat_le, ◌==◌, if◌then◌else◌, List, [], ◌∷◌, ◌++◌, map, filter, find, Option, Some, None, Result, Ok, Err}
use Rattle.std.specs.List.{list_any}
use Rattle.wire_core.specs.declared.act.Act.{Act}
use Rattle.wire_core.specs.declared.act.Act.TheVariants as act
use Rattle.wire_core.specs.declared.address.Ip4.{Ip4}
use Rattle.wire_core.specs.declared.connection.Conn.{Conn}
use Rattle.wire_core.specs.declared.flow.FlowKey.{FlowKey}
use Rattle.wire_core.specs.declared.range.Range.{Range}
use Rattle.wire_core.specs.declared.rules.LeaseRules.{LeaseRules}
use Rattle.wire_core.specs.declared.rules.MachineRule.{MachineRule}
use Rattle.wire_core.specs.Ranges.{has_port, range_of}
use Rattle.wire_core.specs.Same.{same_ip, same_key}
use Rattle.lease_spec.specs.declared.row.Phase.TheVariants.{BeingLeased, Leased, Freeing}
use Rattle.lease_spec.specs.Table.{is_being, is_leased, is_freeing}
use Rattle.lease_model.specs.declared.row.BookRow.{BookRow}
use Rattle.lease_model.specs.declared.verdict.Verdict.{Verdict}
use Rattle.lease_model.specs.declared.verdict.Verdict.TheVariants.{Legal, Clashes}
use Rattle.lease_model.specs.declared.fault.StepFault.{StepFault}
use Rattle.lease_model.specs.declared.fault.StepFault.TheVariants.{Illegal, NoMemory}
use Rattle.lease_model.specs.Rows.{row_at, row_of, first_of, count_of, moved, without, is_least, rule_of}

pub record BookState : Type 0 where
  pub rules : LeaseRules
  pub rows : List BookRow  -- as they were reserved
  pub last : ℕ  -- the greatest number so far, at first 0
  pub held : List ℕ  -- the numbers that agents hold
  pub once : List ℕ  -- all numbers that were ever held
  pub conns : List Conn  -- as they were opened

-- a book without rows
abbrev pub new_book : LeaseRules → BookState
new_book rules = record { rules = rules; rows = []; last = 0; held = []; once = []; conns = [] }

-- The book after an act that is legal, or the row that an illegal one clashes with.
abbrev pub Taken : Type 0
Taken = Result BookState (Option BookRow)

-- the number is one of these
abbrev pub is_in : ℕ → List ℕ → Bool
is_in n ns = list_any (λ m. m == n) ns

-- ---- leases

-- a new row
abbrev pub with_row : BookState → ℕ → Range → Ip4 → BookState
with_row b n r machine = record b {
  rows = b.rows ++ record { n = n; range = r; machine = machine; phase = BeingLeased } ∷ [];
  last = n;
}

-- the range is the least without a row, and the machine may have one more
abbrev pub reserve_free : BookState → ℕ → Range → Ip4 → Taken
reserve_free b n r machine =
    if not (is_least b.rules b.rows r machine) then Err None
    else if nat_le b.rules.limit (count_of b.rows machine) then Err (first_of b.rows machine)
    else Ok (with_row b n r machine)

-- the range has no row
abbrev pub reserve_on : BookState → ℕ → Range → Ip4 → Option BookRow → Taken
reserve_on b n r machine (Some row) = Err (Some row)
reserve_on b n r machine None = reserve_free b n r machine

-- Reserve: its number is above all before.
unfoldable pub reserve : BookState → ℕ → Range → Ip4 → Taken
reserve b n r machine = if nat_lt b.last n then reserve_on b n r machine (row_of b.rows r) else Err (row_at b.rows n)

-- the rows, changed
abbrev pub with_rows : BookState → List BookRow → BookState
with_rows b rows = record b { rows = rows }

-- Grant: the row is BeingLeased.
abbrev pub grant : BookState → ℕ → Option BookRow → Taken
grant b n None = Err None
grant b n (Some row) = if is_being row.phase then Ok (with_rows b (moved n Leased b.rows)) else Err (Some row)

-- Free: the row is BeingLeased or Leased, and its number isn't held.
abbrev pub free : BookState → ℕ → Option BookRow → Taken
free b n None = Err None
free b n (Some row) =
    if not (is_freeing row.phase) && not (is_in n b.held) then Ok (with_rows b (moved n Freeing b.rows))
    else Err (Some row)

-- Freed: the row is Freeing.
abbrev pub freed : BookState → ℕ → Option BookRow → Taken
freed b n None = Err None
freed b n (Some row) = if is_freeing row.phase then Ok (with_rows b (without n b.rows)) else Err (Some row)

-- Hold: the row is Leased, and its number was never held.
abbrev pub hold : BookState → ℕ → Option BookRow → Taken
hold b n None = Err None
hold b n (Some row) =
    if is_leased row.phase && not (is_in n b.once)
    then Ok (record b { held = b.held ++ n ∷ []; once = b.once ++ n ∷ [] })
    else Err (Some row)

-- ---- connections

-- the connection's public end is in the range
abbrev pub is_within : Range → Conn → Bool
is_within r c = same_ip c.vip r.vip && has_port r.start c.port

-- one of the connections is in the row's range
abbrev pub is_used : List Conn → Option BookRow → Bool
is_used cs None = false
is_used cs (Some row) = list_any (is_within row.range) cs

-- Drop: the number is held, and no connection is in its range.
abbrev pub drop : BookState → ℕ → Option BookRow → Taken
drop b n row =
    if is_in n b.held && not (is_used b.conns row)
    then Ok (record b { held = filter (λ m. not (m == n)) b.held })
    else Err row

-- what the remote end sees, as the key of packets that leave
abbrev pub public_key : Conn → FlowKey
public_key c = record { src = c.vip; dst = c.remote; sport = c.port; dport = c.rport; proto = c.proto }

-- what the machine sees
abbrev pub private_key : Conn → FlowKey
private_key c = record { src = c.machine; dst = c.remote; sport = c.sport; dport = c.rport; proto = c.proto }

-- another connection has one of its keys
abbrev pub clashes : Conn → Conn → Bool
clashes c d = same_key (public_key d) (public_key c) || same_key (private_key d) (private_key c)

-- the row is of the connection's machine, and its number is held
abbrev pub is_lent : BookState → Conn → BookRow → Bool
is_lent b c row = same_ip row.machine c.machine && is_in row.n b.held

-- Open: its range has a row of its machine whose number is held, and no connection has one of its keys.
abbrev pub open_on : BookState → Conn → Option BookRow → Taken
open_on b c None = Err None
open_on b c (Some row) =
    if is_lent b c row && not (list_any (clashes c) b.conns) then Ok (record b { conns = b.conns ++ c ∷ [] })
    else Err (Some row)

-- the same connection
abbrev pub same_conn : Conn → Conn → Bool
same_conn c d = same_key (public_key d) (public_key c) && same_key (private_key d) (private_key c)

-- Close: the connection is open.
abbrev pub close_on : BookState → Conn → Option BookRow → Taken
close_on b c row =
    if list_any (same_conn c) b.conns then Ok (record b { conns = filter (λ d. not (same_conn c d)) b.conns })
    else Err row

-- ---- agents

-- the machine is one of the agent's
abbrev pub is_of : ℕ → Option MachineRule → Bool
is_of agent None = false
is_of agent (Some rule) = rule.agent == agent

-- the machine's agent is this one
abbrev pub is_agents : LeaseRules → ℕ → Ip4 → Bool
is_agents rules agent machine = is_of agent (rule_of rules.machines machine)

-- the row's machine is one of the agent's
abbrev pub row_is_of : LeaseRules → ℕ → Option BookRow → Bool
row_is_of rules agent None = false
row_is_of rules agent (Some row) = is_agents rules agent row.machine

-- Lose: the numbers that the agent's machines hold and their connections leave.
abbrev pub lose : BookState → ℕ → BookState
lose b agent = record b {
  held = filter (λ n. not (row_is_of b.rules agent (row_at b.rows n))) b.held;
  conns = filter (λ c. not (is_agents b.rules agent c.machine)) b.conns;
}

-- ---- acts

-- What an act makes of a book.
unfoldable pub taken : BookState → Act → Taken
taken b (act.Reserve n r machine) = reserve b n r machine
taken b (act.Grant n) = grant b n (row_at b.rows n)
taken b (act.Free n) = free b n (row_at b.rows n)
taken b (act.Freed n) = freed b n (row_at b.rows n)
taken b (act.Hold n) = hold b n (row_at b.rows n)
taken b (act.Drop n) = drop b n (row_at b.rows n)
taken b (act.Open c) = open_on b c (row_of b.rows (range_of c.vip c.port))
taken b (act.Close c) = close_on b c (row_of b.rows (range_of c.vip c.port))
taken b (act.Lose agent) = Ok (lose b agent)
taken b (act.Hand machine bytes) = Ok b

-- ---- answers

-- A legal act leaves the next book, any other the book as it was and the row.
abbrev pub judged : BookState → Taken → BookState × Verdict
judged b (Ok next) = (next, Legal)
judged b (Err kept) = (b, Clashes kept)

-- what is answered to an act, by its verdict
abbrev pub Answers : Verdict → Act → Result Unit StepFault → Type 0
Answers verdict a (Ok u) = verdict ≡ Legal
Answers verdict a (Err (Illegal said kept)) = (said ≡ a) × (verdict ≡ Clashes kept)
Answers verdict a (Err NoMemory) = ⊥

-- What a step answers: the next book; or the act and the row that it clashes with, and the book as it was.
abbrev pub Steps : BookState → Act → BookState → Result Unit StepFault → Type 0
Steps b a c (Ok u) = taken b a ≡ Ok c
Steps b a c (Err (Illegal said kept)) = (said ≡ a) × (taken b a ≡ Err kept) × (c ≡ b)
Steps b a c (Err NoMemory) = c ≡ b
