-- Connections of a plain schedule, and which of them stand.
use Rattle.std.specs.Prelude.{◌≡◌, Bool, List, Option, Some, None, fold, is_some, if◌then◌else◌}
use Rattle.wire_core.specs.declared.flow.FlowKey.{FlowKey}
use Rattle.wire_core.specs.Same.{same_key}
use Rattle.lease_spec.specs.declared.row.Row.{Row}
use Rattle.lease_spec.specs.Table.{row_at}
use Rattle.plain_schedule.specs.declared.connections.Connection.{Connection}

-- the last of the list that is of this kind
abbrev pub newest : (Connection → Bool) → List Connection → Option Connection
newest kind connections = fold (λ found c. if kind c then Some c else found) None connections

abbrev pub has_private : FlowKey → Connection → Bool
has_private key c = same_key c.private key

abbrev pub has_public : FlowKey → Connection → Bool
has_public key c = same_key c.public key

-- both look-ups answer the newest connection with a key
pub record IsIndexed (opened : List Connection) (private public : FlowKey → Option Connection) : Type 0 where
  pub by_private : (key : FlowKey) → private key ≡ newest (has_private key) opened
  pub by_public : (key : FlowKey) → public key ≡ newest (has_public key) opened

-- what was found, while its lease stands
abbrev pub standing : List Row → Option Connection → Option Connection
standing rows None = None
standing rows (Some c) = if is_some (row_at rows c.n) then Some c else None
