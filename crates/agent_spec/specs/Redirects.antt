-- Connections that do without a mux from now on.
use Rattle.std.specs.Prelude.{ℕ, ◌==◌, ◌&&◌, Option, Some, None, is_some, option_map, if◌then◌else◌}
use Rattle.wire_core.specs.declared.address.Ip4.{Ip4}
use Rattle.wire_core.specs.declared.flow.FlowKey.{FlowKey}
use Rattle.wire_core.specs.declared.flow.Proto.TheVariants.{Tcp}
use Rattle.wire_core.specs.declared.cause.DropCause.TheVariants as drop
use Rattle.wire_core.specs.Flows.{reverse}
use Rattle.vip_config.specs.declared.parts.ConfigParts.{ConfigParts}
use Rattle.vip_config.specs.declared.who.Who.TheVariants.{Mux}
use Rattle.node_spec.specs.declared.accept.Accept.{Accept}
use Rattle.node_spec.specs.declared.accept.Accept.TheVariants.{NotFromMux, NoConnection, StaleLease, Yes}
use Rattle.wire_core.specs.Same.{same_ip}
use Rattle.node_spec.specs.Fastpath.{accept_redirect}
use Rattle.vip_config.specs.Serving.{agent_with}
use Rattle.node_spec.specs.Turns.{Turn, quiet, drop_turn}
use Rattle.agent_spec.specs.declared.connection.Connection.{Connection}
use Rattle.agent_spec.specs.declared.order.Redirection.{Redirection}
use Rattle.agent_spec.specs.Connections.{by_public, changed, with_peer}
use Rattle.agent_spec.specs.Agent.{Agent, Traffic, with_traffic}

-- the key of the opener's packets, as they leave
abbrev pub redirect_key : Redirection → FlowKey
redirect_key o = record { src = o.src; dst = o.dst; sport = o.sport; dport = o.dport; proto = Tcp }

-- the connection, if it is this machine's
abbrev pub if_machine : Ip4 → Option Connection → Option Connection
if_machine machine None = None
if_machine machine (Some x) = if same_ip x.machine machine then Some x else None

-- the opener's connection, or the server's entry
abbrev pub redirected : Redirection → Traffic → Option Connection
redirected o t =
    if o.side == 0 then if_machine o.opener (by_public (redirect_key o) t.conns)
    else if_machine o.server (by_public (reverse (redirect_key o)) t.inbound)

-- from now on its packets go to the other machine; at the server the number is kept
abbrev pub with_redirect : Redirection → Traffic → Connection → Traffic
with_redirect o t x =
    if o.side == 0 then record t { conns = changed x (with_peer (Some o.server) x.n) t.conns }
    else record t { inbound = changed x (with_peer (Some o.opener) o.n) t.inbound }

-- the number that it keeps
abbrev pub number_of : Option Connection → Option ℕ
number_of x = option_map (λ (c : Connection). c.n) x

-- the connection that was found is changed
abbrev pub redirect_to : Agent → Redirection → Option Connection → Turn Agent
redirect_to a o None = drop_turn a drop.NoConnection
redirect_to a o (Some x) = quiet (with_traffic a (with_redirect o a.traffic x))

-- by the tests' answer
abbrev pub if_accepted : Agent → Redirection → Option Connection → Accept → Turn Agent
if_accepted a o x NotFromMux = drop_turn a drop.NotFromMux
if_accepted a o x NoConnection = drop_turn a drop.NoConnection
if_accepted a o x (StaleLease kept) = drop_turn a (drop.StaleLease kept)
if_accepted a o x Yes = redirect_to a o x

-- Redirect: the connection's packets go to the other machine directly, where the tests let it.
unfoldable pub on_redirect : ConfigParts → Agent → ℕ → Redirection → Turn Agent
on_redirect c a from o =
    if is_some (agent_with c o.opener) && is_some (agent_with c o.server)
    then if_accepted a o (redirected o a.traffic)
    (accept_redirect (Mux from) o.side o.n (number_of (redirected o a.traffic)))
    else drop_turn a drop.NotMine
