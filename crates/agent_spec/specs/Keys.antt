-- The keys of connections: no two have one, so a packet of a machine and a reply from outside each have one connection.
use Rattle.std.specs.Prelude.{◌≡◌, ℕ, false, List, [], ◌∷◌, Option, Some, option_map}
use Rattle.wire_core.specs.Members.{Each}
use Rattle.wire_core.specs.Same.{same_key}
use Rattle.wire_core.specs.declared.address.Ip4.{Ip4}
use Rattle.wire_core.specs.declared.flow.FlowKey.{FlowKey}
use Rattle.config_text.specs.declared.vips.Member.{Member}
use Rattle.vip_config.specs.Serving.{member_at}
use Rattle.vip_config.specs.declared.parts.ConfigParts.{ConfigParts}
use Rattle.vip_config.specs.declared.parts.VipConf.{VipConf}
use Rattle.agent_spec.specs.declared.connection.Connection.{Connection}
use Rattle.agent_spec.specs.Connections.{private_key, public_key}

-- no connection has this key
abbrev pub IsFree : (Connection → FlowKey) → FlowKey → List Connection → Type 0
IsFree key k cs = Each (λ c. same_key (key c) k ≡ false) cs

-- each connection's key differs from those of all behind it
abbrev pub OwnKeys : (Connection → FlowKey) → List Connection → Type 0
OwnKeys key [] = Unit {0}
OwnKeys key (c ∷ cs) = Each (λ d. same_key (key c) (key d) ≡ false) cs × OwnKeys key cs

-- No two connections have one private key, and no two one public key.
pub record KeysApart (cs : List Connection) : Type 0 where
  pub private_keys : OwnKeys private_key cs
  pub public_keys : OwnKeys public_key cs

-- ---- inbound entries

-- the key of the packets that come to the entry from outside
abbrev pub outer_key : Connection → FlowKey
outer_key x = record { src = x.remote; dst = x.vip; sport = x.rport; dport = x.port; proto = x.proto }

-- the port at which the machine serves the endpoint that packets with this key are for
abbrev pub served_port : List VipConf → FlowKey → Ip4 → Option ℕ
served_port vips k machine = option_map (λ (m : Member). m.port) (member_at vips k machine)

-- the entry is of an endpoint, which its machine serves at the entry's own port
abbrev pub IsServed : List VipConf → Connection → Type 0
IsServed vips x = served_port vips (outer_key x) x.machine ≡ Some x.sport

-- No two inbound entries have one private key or one public key, and each is of an endpoint.
pub record EntriesApart (c : ConfigParts) (xs : List Connection) : Type 0 where
  pub keys : KeysApart xs
  pub served : Each (IsServed c.vips) xs
