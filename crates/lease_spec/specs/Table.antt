-- The lease table: what a list of commands leaves, and what each of them does.
use Rattle.std.specs.Prelude.{ℕ, ◌≡◌, Bool, true, false, not, ◌&&◌, ◌||◌, if◌then◌else◌, nat_lt, nat_le, ◌==◌, List, [], ◌∷◌, ◌++◌, map, filter, count_by, Option, Some, None, find, fold, length}
use Rattle.wire_core.specs.declared.address.Ip4.{Ip4}
use Rattle.wire_core.specs.declared.range.Range.{Range}
use Rattle.wire_core.specs.declared.rules.MachineRule.{MachineRule}
use Rattle.wire_core.specs.declared.rules.LeaseRules.{LeaseRules}
use Rattle.wire_core.specs.Commands.{LogCommand, Reserve, Granted, Release, Freed, Up}
use Rattle.lease_spec.specs.declared.row.Row.{Row}
use Rattle.lease_spec.specs.declared.row.Phase.{Phase}
use Rattle.lease_spec.specs.declared.row.Phase.TheVariants.{BeingLeased, Leased, Freeing}
use Rattle.lease_spec.specs.declared.row.Outcome.{Outcome}
use Rattle.lease_spec.specs.declared.row.Outcome.TheVariants as outcome
use Rattle.lease_spec.specs.declared.effect.Effect.{Effect}
use Rattle.lease_spec.specs.declared.effect.Effect.TheVariants as effect
use Rattle.lease_spec.specs.Places.{Placed, commands, slot_commands}
use Rattle.lease_spec.specs.Free.{least_free}

abbrev pub is_being : Phase → Bool
is_being BeingLeased = true
is_being Leased = false
is_being Freeing = false

abbrev pub is_leased : Phase → Bool
is_leased BeingLeased = false
is_leased Leased = true
is_leased Freeing = false

abbrev pub is_freeing : Phase → Bool
is_freeing BeingLeased = false
is_freeing Leased = false
is_freeing Freeing = true

-- The last request of a machine that had an effect.
pub record Last : Type 0 where
  pub machine : Ip4
  pub boot : ℕ
  pub seq : ℕ
  pub outcome : Outcome

pub record Known : Type 0 where
  pub agent : ℕ
  pub boot : ℕ

pub record Leases : Type 0 where
  pub rows : List Row  -- by n
  pub known : List Known  -- at most one an agent, in the order of their first boots
  pub lasts : List Last  -- at most one a machine, in the order of their first requests

abbrev pub no_leases : Leases
no_leases = record { rows = []; known = []; lasts = [] }

-- The table after a command, and what the command did, in order.
pub record Done : Type 0 where
  pub leases : Leases
  pub effects : List Effect

abbrev pub nothing : Leases → Done
nothing t = record { leases = t; effects = [] }

-- one after the other
abbrev pub next : Done → (Leases → Done) → Done
next d f = record { leases = (f d.leases).leases; effects = d.effects ++ (f d.leases).effects }

abbrev pub row_at : List Row → ℕ → Option Row
row_at rows n = find (λ row. row.n == n) rows

abbrev pub rule_of : LeaseRules → Ip4 → Option MachineRule
rule_of rules machine = find (λ rule. rule.machine.0 == machine.0) rules.machines

abbrev pub boot_of : Option Known → ℕ
boot_of None = 0
boot_of (Some k) = k.boot

-- an agent's known boot, at first 0
abbrev pub known_boot : List Known → ℕ → ℕ
known_boot known agent = boot_of (find (λ k. k.agent == agent) known)

-- the first that is the same is replaced; where none is, it is added at the end
abbrev pub put : {X : Type 0} → (X → Bool) → X → List X → List X
put same x [] = x ∷ []
put same x (y ∷ ys) = if same y then x ∷ ys else y ∷ put same x ys

abbrev pub with_known : ℕ → ℕ → List Known → List Known
with_known agent boot known = put (λ k. k.agent == agent) (record { agent = agent; boot = boot }) known

abbrev pub last_of : List Last → Ip4 → Option Last
last_of lasts machine = find (λ last. last.machine.0 == machine.0) lasts

abbrev pub with_last : Last → List Last → List Last
with_last last lasts = put (λ other. other.machine.0 == last.machine.0) last lasts

-- Pairs compare by boot, then seq.
abbrev pub is_later : ℕ → ℕ → Option Last → Bool
is_later boot seq None = true
is_later boot seq (Some last) = nat_lt last.boot boot || ((last.boot == boot) && nat_lt last.seq seq)

abbrev pub row_count : List Row → Ip4 → ℕ
row_count rows machine = count_by (λ row. row.machine.0 == machine.0) rows

abbrev pub at_phase : Phase → Row → Row
at_phase phase row = record row { phase = phase }

-- row n goes to a phase
abbrev pub move : ℕ → Phase → List Row → List Row
move n phase rows = map (λ row. if row.n == n then at_phase phase row else row) rows

-- A raised boot ends the agent's rows of lower boots.
abbrev pub is_stale : ℕ → ℕ → Row → Bool
is_stale agent boot row = (row.agent == agent) && nat_lt row.boot boot && not (is_freeing row.phase)

abbrev pub cleared : ℕ → ℕ → Row → Row
cleared agent boot row = if is_stale agent boot row then at_phase Freeing row else row

unfoldable pub raise_known : ℕ → ℕ → Leases → Done
raise_known agent boot t =
    if nat_lt (known_boot t.known agent) boot
    then record {
      leases = record t { rows = map (cleared agent boot) t.rows; known = with_known agent boot t.known };
      effects = map (λ row. effect.Cleared (at_phase Freeing row)) (filter (is_stale agent boot) t.rows);
    }
    else nothing t

abbrev pub new_row : ℕ → Range → Ip4 → ℕ → ℕ → ℕ → Row
new_row place range machine agent boot seq = record {
  n = place;
  range = range;
  machine = machine;
  agent = agent;
  boot = boot;
  seq = seq;
  phase = BeingLeased;
}

-- what a request came to is the machine's last outcome
abbrev pub noted : Ip4 → ℕ → ℕ → Outcome → Leases → Leases
noted machine boot seq outcome t = record t {
  lasts = with_last (record { machine = machine; boot = boot; seq = seq; outcome = outcome }) t.lasts;
}

-- A request for which a range is sought: Exhausted, or a row on the range that was found.
abbrev pub take_range : ℕ → ℕ → ℕ → Ip4 → ℕ → Leases → Option Range → Done
take_range place agent boot machine seq t None = record {
  leases = noted machine boot seq (outcome.Exhausted place) t;
  effects = effect.Exhausted machine boot seq place ∷ [];
}
take_range place agent boot machine seq t (Some range) = record {
  leases = noted machine boot seq (outcome.Reserved range place) (record t {
    rows = t.rows ++ new_row place range machine agent boot seq ∷ [];
  });
  effects = effect.Reserved (new_row place range machine agent boot seq) ∷ [];
}

-- A request that has an effect: AtLimit, Exhausted, or a row on the least free range.
unfoldable pub decide : LeaseRules → ℕ → ℕ → MachineRule → ℕ → Leases → Done
decide rules place boot rule seq t =
    if nat_le rules.limit (row_count t.rows rule.machine)
    then record {
      leases = noted rule.machine boot seq (outcome.AtLimit (row_count t.rows rule.machine)) t;
      effects = effect.AtLimit rule.machine boot seq (row_count t.rows rule.machine) ∷ [];
    }
    else take_range place rule.agent boot rule.machine seq t (least_free rules t.rows rule.vip)

-- A Reserve has an effect where the machine is that agent's, its boot isn't below the known one, and its pair is later.
unfoldable pub reserve : LeaseRules → ℕ → ℕ → ℕ → ℕ → Option MachineRule → Leases → Done
reserve rules place agent boot seq None t = nothing t
reserve rules place agent boot seq (Some rule) t =
    if (rule.agent == agent) && nat_le (known_boot t.known agent) boot
    && is_later boot seq (last_of t.lasts rule.machine)
    then next (raise_known agent boot t) (decide rules place boot rule seq)
    else nothing t

unfoldable pub grant : Leases → Option Row → Done
grant t None = nothing t
grant t (Some row) =
    if is_being row.phase
    then record {
      leases = record t { rows = move row.n Leased t.rows };
      effects = effect.Granted (at_phase Leased row) ∷ [];
    }
    else nothing t

unfoldable pub release : Leases → Option Row → Done
release t None = nothing t
release t (Some row) =
    if not (is_freeing row.phase)
    then record {
      leases = record t { rows = move row.n Freeing t.rows };
      effects = effect.Released (at_phase Freeing row) ∷ [];
    }
    else nothing t

unfoldable pub free : Leases → Option Row → Done
free t None = nothing t
free t (Some row) =
    if is_freeing row.phase
    then record {
      leases = record t { rows = filter (λ other. not (other.n == row.n)) t.rows };
      effects = effect.Freed row ∷ [];
    }
    else nothing t

-- An agent below 256 in a higher boot than the known one.
unfoldable pub up : ℕ → ℕ → Leases → Done
up agent boot t =
    if nat_lt agent 256 && nat_lt (known_boot t.known agent) boot
    then record {
      leases = (raise_known agent boot t).leases;
      effects = effect.Known agent boot ∷ (raise_known agent boot t).effects;
    }
    else nothing t

-- One command at its place.
abbrev pub command : LeaseRules → ℕ → LogCommand → Leases → Done
command rules place (Reserve agent boot machine seq) t = reserve rules place agent boot seq (rule_of rules machine) t
command rules place (Granted n muxes) t = grant t (row_at t.rows n)
command rules place (Release n) t = release t (row_at t.rows n)
command rules place (Freed n) t = free t (row_at t.rows n)
command rules place (Up agent boot) t = up agent boot t

-- A table with all that was done so far, and one command more.
abbrev pub tell : LeaseRules → Done → Placed → Done
tell rules d c = next d (command rules c.place c.command)

abbrev pub none_done : Done
none_done = nothing no_leases

-- What commands at places leave and did, from no rows.
unfoldable pub story : LeaseRules → List Placed → Done
story rules cs = fold (tell rules) none_done cs

-- all that was done, in order
abbrev pub history : LeaseRules → List Placed → List Effect
history rules cs = (story rules cs).effects

-- The table of a log's values.
abbrev pub table : LeaseRules → List (List LogCommand) → Leases
table rules values = (story rules (commands values)).leases

-- Commands on top of a table: what the code does at a slot.
unfoldable pub apply : LeaseRules → List Placed → Leases → Done
apply rules cs t = fold (tell rules) (nothing t) cs

-- A log with one value more: the value's commands on top of its table, what they did after all that was done.
pub record OneMore (rules : LeaseRules) (values : List (List LogCommand)) (value : List LogCommand) : Type 0 where
  pub leaves : table rules (values ++ value ∷ [])
      ≡ (apply rules (slot_commands (length values) value) (table rules values)).leases
  pub does : history rules (commands (values ++ value ∷ []))
      ≡ history rules (commands values)
      ++ (apply rules (slot_commands (length values) value) (table rules values)).effects
