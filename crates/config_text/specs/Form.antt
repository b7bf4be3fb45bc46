-- The form of a configuration: each object's keys in the order in which they are tested.
use Rattle.std.specs.Prelude.{ℕ, List, [], ◌∷◌, Option, Some, None, Result, Ok, Err, if◌then◌else◌, codes}
use Rattle.std.specs.Str.{is_utf8}
use Rattle.serde_json.specs.Data.{Data}
use Rattle.serde_json.specs.Read as json_text
use Rattle.config_text.specs.declared.agents.AgentConf.{AgentConf}
use Rattle.config_text.specs.declared.agents.Attach.{Attach}
use Rattle.config_text.specs.declared.settings.Settings.{Settings}
use Rattle.config_text.specs.declared.settings.Timers.{Timers}
use Rattle.config_text.specs.declared.vips.Endpoint.{Endpoint}
use Rattle.config_text.specs.declared.vips.Member.{Member}
use Rattle.config_text.specs.declared.vips.VipText.{VipText}
use Rattle.config_text.specs.Faults.{Fault, json, ◌>>=◌}
use Rattle.config_text.specs.Members.{At, address_in, child, list_at, member_at, nothing_but, number_in, object}
use Rattle.config_text.specs.Members.{port_in, proto_in, single, socket_in, whole_in}

unfoldable pub attach_of : At → Result Attach Fault
attach_of o = do
  is_object ← object o
  address ← member_at address_in o (codes "address")
  attach ← member_at socket_in o (codes "attach")
  others ← nothing_but (codes "address" ∷ codes "attach" ∷ []) o
  Ok (record { address = address; attach = attach })

unfoldable pub agent_of : At → Result AgentConf Fault
agent_of o = do
  is_object ← object o
  socket ← member_at socket_in o (codes "socket")
  machines ← list_at attach_of 1 64 o (codes "machines")
  others ← nothing_but (codes "socket" ∷ codes "machines" ∷ []) o
  Ok (record { socket = socket; machines = machines })

unfoldable pub member_of : At → Result Member Fault
member_of o = do
  is_object ← object o
  address ← member_at address_in o (codes "address")
  port ← member_at port_in o (codes "port")
  others ← nothing_but (codes "address" ∷ codes "port" ∷ []) o
  Ok (record { address = address; port = port })

unfoldable pub endpoint_of : At → Result Endpoint Fault
endpoint_of o = do
  is_object ← object o
  proto ← member_at proto_in o (codes "proto")
  port ← member_at port_in o (codes "port")
  machines ← list_at member_of 1 64 o (codes "machines")
  others ← nothing_but (codes "proto" ∷ codes "port" ∷ codes "machines" ∷ []) o
  Ok (record { proto = proto; port = port; machines = machines })

unfoldable pub vip_of : At → Result VipText Fault
vip_of o = do
  is_object ← object o
  address ← member_at address_in o (codes "address")
  low ← member_at whole_in o (codes "low")
  high ← member_at whole_in o (codes "high")
  snat ← list_at (single address_in) 0 4096 o (codes "snat")
  endpoints ← list_at endpoint_of 0 1024 o (codes "endpoints")
  others ← nothing_but (codes "address" ∷ codes "low" ∷ codes "high" ∷ codes "snat" ∷ codes "endpoints" ∷ []) o
  Ok (record { address = address; low = low; high = high; snat = snat; endpoints = endpoints })

abbrev pub timer_keys : List (List ℕ)
timer_keys = codes "lead_silent" ∷ codes "mux_silent" ∷ codes "ask_retry" ∷ codes "flow_idle" ∷ codes "range_idle" ∷ []

unfoldable pub timers_of : At → Result Timers Fault
timers_of o = do
  is_object ← object o
  lead_silent ← member_at (number_in 1 86400000) o (codes "lead_silent")
  mux_silent ← member_at (number_in 1 86400000) o (codes "mux_silent")
  ask_retry ← member_at (number_in 1 86400000) o (codes "ask_retry")
  flow_idle ← member_at (number_in 1 86400000) o (codes "flow_idle")
  range_idle ← member_at (number_in 1 86400000) o (codes "range_idle")
  others ← nothing_but timer_keys o
  Ok (record {
    lead_silent = lead_silent;
    mux_silent = mux_silent;
    ask_retry = ask_retry;
    flow_idle = flow_idle;
    range_idle = range_idle;
  })

abbrev pub timers_at : At → List ℕ → Result Timers Fault
timers_at o key = child o key >>= timers_of

abbrev pub whole_keys : List (List ℕ)
whole_keys =
    codes "version" ∷ codes "router" ∷ codes "replicas" ∷ codes "muxes" ∷ codes "agents" ∷ codes "vips"
    ∷ codes "limit" ∷ codes "timers" ∷ []

-- the whole text: where it is no object, `version` is missing
unfoldable pub whole_of : At → Result Settings Fault
whole_of o = do
  version ← member_at (number_in 1 1) o (codes "version")
  router ← member_at socket_in o (codes "router")
  replicas ← list_at (single socket_in) 5 5 o (codes "replicas")
  muxes ← list_at (single socket_in) 1 16 o (codes "muxes")
  agents ← list_at agent_of 1 256 o (codes "agents")
  vips ← list_at vip_of 1 64 o (codes "vips")
  limit ← member_at (number_in 1 1024) o (codes "limit")
  timers ← timers_at o (codes "timers")
  others ← nothing_but whole_keys o
  Ok (record {
    version = version;
    router = router;
    replicas = replicas;
    muxes = muxes;
    agents = agents;
    vips = vips;
    limit = limit;
    timers = timers;
  })

-- the JSON value that the bytes are, as `serde_json` reads it
abbrev pub json_of : List ℕ → Option Data
json_of bytes = if is_utf8 bytes then json_text.read bytes else None

abbrev pub or_json : Option Data → Result Data Fault
or_json None = Err json
or_json (Some d) = Ok d

unfoldable pub settings_of : List ℕ → Result Settings Fault
settings_of bytes = or_json (json_of bytes) >>= λ d. whole_of (record { path = None; value = d })
