-- What an agent keeps.
use Rattle.std.specs.Prelude.{ℕ, Bool, false, List, [], map, find, Option, Some, None, is_some, slice_get}
use Rattle.std.specs.Prelude.{if◌then◌else◌}
use Rattle.wire_core.specs.declared.address.Ip4.{Ip4}
use Rattle.wire_core.specs.declared.entry.Entry.{Entry}
use Rattle.config_text.specs.declared.agents.AgentConf.{AgentConf}
use Rattle.vip_config.specs.declared.parts.ConfigParts.{ConfigParts}
use Rattle.wire_core.specs.Same.{same_ip}
use Rattle.node_spec.specs.Turns.{Turn, lifted}
use Rattle.node_spec.specs.Boots.{boot_of}
use Rattle.agent_spec.specs.declared.connection.Connection.{Connection}
use Rattle.agent_spec.specs.declared.held.Asked.{Asked}
use Rattle.agent_spec.specs.Ranges.{Ranges, no_ranges}

-- An own machine: its held packets, the number of its last ask, at first 0, and the ask that is out.
pub record Host : Type 0 where
  pub machine : Ip4
  pub queue : List (List ℕ)
  pub seq : ℕ
  pub ask : Option Asked

-- Ranges, connections and inbound entries.
pub record Traffic : Type 0 where
  pub ranges : Ranges
  pub conns : List Connection
  pub inbound : List Connection
  pub time : ℕ

-- The lists of an agent.
pub record Agent : Type 0 where
  pub index : ℕ
  pub boot : ℕ
  pub known : Bool  -- a primary knows this boot
  pub hint : ℕ  -- the replica that is asked
  pub hosts : List Host  -- as configured
  pub traffic : Traffic

-- ---- opening

-- a machine without packets
abbrev pub new_host : Ip4 → Host
new_host machine = record { machine = machine; queue = []; seq = 0; ask = None }

-- an agent's machines
abbrev pub new_hosts : Option AgentConf → List Host
new_hosts None = []
new_hosts (Some a) = map (λ m. new_host m.address) a.machines

-- An agent as it opens: its boot by its entries, and else nothing.
unfoldable pub opened_agent : ConfigParts → ℕ → List Entry → Agent
opened_agent c index entries = record {
  index = index;
  boot = boot_of entries;
  known = false;
  hint = 0;
  hosts = new_hosts (slice_get c.agents index);
  traffic = record { ranges = no_ranges; conns = []; inbound = []; time = 0 };
}

-- ---- parts

-- the agent with this traffic
abbrev pub with_traffic : Agent → Traffic → Agent
with_traffic a t = record a { traffic = t }

-- the traffic with these ranges
abbrev pub with_ranges : Traffic → Ranges → Traffic
with_ranges t ranges = record t { ranges = ranges }

-- an own machine
abbrev pub host_of : List Host → Ip4 → Option Host
host_of hosts machine = find (λ h. same_ip h.machine machine) hosts

-- the machine is its own
abbrev pub is_own : List Host → Ip4 → Bool
is_own hosts machine = is_some (host_of hosts machine)

-- a machine's new state
abbrev pub put_host : Host → List Host → List Host
put_host h hosts = map (λ x. if same_ip x.machine h.machine then h else x) hosts

-- One machine and the traffic: what its packets change.
pub record Site : Type 0 where
  pub traffic : Traffic
  pub host : Host

-- a machine of the agent
abbrev pub site_at : Agent → Host → Site
site_at a h = record { traffic = a.traffic; host = h }

-- the agent with it
abbrev pub with_site : Agent → Site → Agent
with_site a s = record a { traffic = s.traffic; hosts = put_host s.host a.hosts }

-- a turn of the traffic, or of the machine, is one of both
abbrev pub of_traffic : Site → Turn Traffic → Turn Site
of_traffic s t = lifted (λ u. record s { traffic = u }) t

-- the same of a turn of the machine
abbrev pub of_host : Site → Turn Host → Turn Site
of_host s t = lifted (λ h. record s { host = h }) t

-- a turn of one machine is one of the agent
abbrev pub of_site : Agent → Turn Site → Turn Agent
of_site a t = lifted (with_site a) t
