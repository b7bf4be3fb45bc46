-- The node with the longest log, and the table of what its disk learned.
use Rattle.std.specs.Prelude.{ℕ, zero, suc, if◌then◌else◌, nat_lt, List, [], ◌∷◌, Option, Some, None}
use Rattle.wire_core.specs.Commands.{LogCommand}
use Rattle.node_roles.specs.declared.role.Role.{Role}
use Rattle.port_leases.specs.TableState.{TableState, apply_slot}
use Rattle.world_nodes.specs.Nodes.{nobody, site_at}
use Rattle.world_nodes.specs.Sites.{SiteState}

-- the node with the longer log of two, the first of equals
abbrev pub longer : SiteState Role → SiteState Role → SiteState Role
longer s t = if nat_lt s.learned t.learned then t else s

-- the first of those with the longest log, among the first n nodes of a list: nobody where no log has a value
abbrev pub longest_of : List (SiteState Role) → ℕ → SiteState Role
longest_of ss zero = nobody
longest_of ss (suc n) = longer (longest_of ss n) (site_at ss n)

-- the node with this number, if there is one
abbrev pub site_of : List (SiteState Role) → Option ℕ → SiteState Role
site_of ss None = nobody
site_of ss (Some i) = site_at ss i

-- a table after these values, slot by slot
abbrev pub learns : TableState → List (List LogCommand) → TableState
learns t [] = t
learns t (value ∷ values) = learns (apply_slot t value).0 values
