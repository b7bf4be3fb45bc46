-- Connections between two machines that may do without a mux: when a mux offers it, and when an agent takes it.
use Rattle.std.specs.Prelude.{ℕ, Bool, false, not, ◌&&◌, ◌||◌, ◌==◌, nat_lt, if◌then◌else◌, Option, Some, None}
use Rattle.wire_core.specs.declared.flow.FlowKey.{FlowKey}
use Rattle.wire_core.specs.declared.flow.Proto.TheVariants.{Tcp}
use Rattle.wire_core.specs.declared.rules.LeaseRules.{LeaseRules}
use Rattle.wire_core.specs.Ranges.{is_leasable, range_of}
use Rattle.wire_core.specs.Same.{same_proto}
use Rattle.vip_config.specs.declared.who.Who.{Who}
use Rattle.node_spec.specs.declared.accept.Accept.{Accept}
use Rattle.node_spec.specs.declared.accept.Accept.TheVariants.{NotFromMux, NoConnection, StaleLease, Yes}
use Rattle.node_spec.specs.Datagrams.{is_mux}

-- Not yet: no mux asks for a redirect or answers one, no agent takes one, and none takes a wrapped packet of an agent.
-- The tables of the mux and of the agent ask this where they would.
abbrev pub has_fastpath : Bool
has_fastpath = false

-- A mux asks at the third packet of a TCP connection that comes from a leasable range.
unfoldable pub should_redirect : FlowKey → ℕ → LeaseRules → Bool
should_redirect k count rules = same_proto k.proto Tcp && (count == 3) && is_leasable rules (range_of k.src k.sport)

-- The kept number doesn't fit: at the opener (side 0) the numbers differ, at the server (side 1) it is the greater.
abbrev pub is_stale : ℕ → ℕ → ℕ → Bool
is_stale side n kept = ((side == 0) && not (kept == n)) || ((side == 1) && nat_lt n kept)

-- there is a connection with a kept number, and it fits
abbrev pub accept_kept : ℕ → ℕ → Option ℕ → Accept
accept_kept side n None = NoConnection
accept_kept side n (Some kept) = if is_stale side n kept then StaleLease kept else Yes

-- What an agent answers to a Redirect: the first that applies.
unfoldable pub accept_redirect : Who → ℕ → ℕ → Option ℕ → Accept
accept_redirect from side n kept = if is_mux from then accept_kept side n kept else NotFromMux
