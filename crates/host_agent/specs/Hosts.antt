-- How an agent's machines are kept.
use Rattle.std.specs.Prelude.{◌≡◌, ℕ, List, [], ◌∷◌, ◌++◌, map, set, slice_get, Option, Some, None, if◌then◌else◌}
use Rattle.std.specs.List.{list_any}
use Rattle.wire_core.specs.Same.{same_ip}
use Rattle.wire_core.specs.declared.address.Ip4.{Ip4}
use Rattle.wire_core.specs.declared.cause.DropCause.TheVariants.{Denied}
use Rattle.wire_core.specs.declared.note.Note.TheVariants.{Dropped}
use Rattle.config_text.specs.declared.agents.Attach.{Attach}
use Rattle.vip_config.specs.Rules.{Once}
use Rattle.node_spec.specs.Turns.{Turn, quiet}
use Rattle.agent_spec.specs.Agent.{Host, Site, Traffic, new_host, put_host}
use Rattle.agent_spec.specs.Answers.{is_ask}

-- their addresses
abbrev pub addresses : List Host → List Ip4
addresses hosts = map (λ h. h.machine) hosts

-- the machines as configured
abbrev pub hosts_of : List Attach → List Host
hosts_of machines = map (λ m. new_host m.address) machines

-- one address more, unless it is there
abbrev pub with_address : List Ip4 → Attach → List Ip4
with_address places m =
    if list_any (λ a. same_ip m.address a) places then places else places ++ m.address ∷ []

-- Each address stands at its machine's place, and at no other.
pub record IsKept (hosts : List Host) (places : List Ip4) : Type 0 where
  pub places_are : places ≡ addresses hosts
  pub apart : Once (addresses hosts)

-- the machine at a place
abbrev pub at_place : List Host → Option ℕ → Option Host
at_place hosts None = None
at_place hosts (Some i) = slice_get hosts i

-- the machines after a Denied, where the ask with this number is out
abbrev pub denial : List Host → ℕ → Option Host → Option (Turn (List Host))
denial hosts seq None = None
denial hosts seq (Some h) =
    if is_ask seq h.ask then Some (record (quiet (put_host (record h { queue = []; ask = None }) hosts)) {
      notes = map (λ (p : List ℕ). Dropped Denied) h.queue;
    })
    else None

-- a machine and the traffic, at a place of the machines
abbrev pub put_at : List Host → ℕ → Site → Traffic × List Host
put_at hosts place s = (s.traffic, set hosts place s.host)
