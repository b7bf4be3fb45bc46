-- What a packet of a machine and a reply to one come to: which connection they take, and what is printed of them.
use Rattle.std.specs.Prelude.{ℕ, ◌+◌, min, nat_le, Bool, List, [], ◌∷◌, ◌++◌, map, find, Option, Some, None, is_none, Result, Ok, Err, if◌then◌else◌, codes}
use Rattle.std.specs.List.{flat_map}
use Rattle.hex.specs.Hex.{encode_lower}
use Rattle.wire_core.specs.declared.cause.DropCause.{DropCause}
use Rattle.wire_core.specs.declared.cause.DropCause.TheVariants.{NotMine, NoLease, TtlOut, NoConnection}
use Rattle.wire_core.specs.declared.flow.FlowKey.{FlowKey}
use Rattle.wire_core.specs.Flows.{reverse}
use Rattle.address_text.specs.Addresses.{address_text}
use Rattle.packet_spec.specs.declared.fault.PacketFault.{PacketFault}
use Rattle.packet_spec.specs.Edits.{translate_source, translate_destination}
use Rattle.packet_spec.specs.Headers.{ttl_of}
use Rattle.packet_spec.specs.Packets.{key_of}
use Rattle.lease_spec.specs.declared.row.Row.{Row}
use Rattle.lease_spec.specs.Table.{rule_of}
use Rattle.port_leases.specs.TableState.{TableState, rows_of}
use Rattle.plain_schedule.specs.declared.connections.Connection.{Connection}
use Rattle.packet_spec.specs.Causes.{cause_name, packet_cause}
use Rattle.plain_schedule.specs.Connections.{has_private, has_public, newest, standing}

-- the connection with a private key, and the one with a public key
abbrev pub with_private : TableState → List Connection → FlowKey → Option Connection
with_private t opened key = standing t.leases.rows (newest (has_private key) opened)

abbrev pub with_public : TableState → List Connection → FlowKey → Option Connection
with_public t opened key = standing t.leases.rows (newest (has_public key) opened)

-- ---- a machine's packet

-- the connection that the i-th port of a lease would carry; ports end at 65535
abbrev pub through : Row → FlowKey → ℕ → Connection
through row key i = record {
  private = key;
  public = record key { src = row.range.vip; sport = min (row.range.start + i) 65535 };
  n = row.n;
}

abbrev pub places : List ℕ
places = 0 ∷ 1 ∷ 2 ∷ 3 ∷ 4 ∷ 5 ∷ 6 ∷ 7 ∷ []

-- one for each of its eight ports
abbrev pub eight : FlowKey → Row → List Connection
eight key row = map (through row key) places

-- no connection has its public key
abbrev pub is_free : TableState → List Connection → Connection → Bool
is_free t opened c = is_none (with_public t opened c.public)

-- through the first free port over the machine's leases
abbrev pub first_free : TableState → List Connection → FlowKey → Option Connection
first_free t opened key = find (is_free t opened) (flat_map (eight key) (rows_of t.leases.rows key.src 0))

abbrev pub opens : List Connection → Option Connection → List Connection × Result Connection DropCause
opens opened None = (opened, Err NoLease)
opens opened (Some c) = (opened ++ c ∷ [], Ok c)

abbrev pub takes : TableState → List Connection → FlowKey → Option Connection
    → List Connection × Result Connection DropCause
takes t opened key None = opens opened (first_free t opened key)
takes t opened key (Some c) = (opened, Ok c)

-- The connection of a packet with this key, which is a new one where it has none. A source that never asked has none.
abbrev pub outgoing : TableState → List Connection → FlowKey → List Connection × Result Connection DropCause
outgoing t opened key =
    if is_none (rule_of t.rules key.src) then (opened, Err NotMine) else takes t opened key (with_private t opened key)

-- ---- a reply

abbrev pub or_none : Option Connection → Result Connection DropCause
or_none None = Err NoConnection
or_none (Some c) = Ok c

-- the connection that a reply with this key belongs to
abbrev pub incoming : TableState → List Connection → ℕ → FlowKey → Result Connection DropCause
incoming t opened ttl key = if nat_le ttl 1 then Err TtlOut else or_none (with_public t opened (reverse key))

-- ---- what is printed

abbrev pub drop_text : DropCause → List ℕ
drop_text cause = codes "drop " ++ cause_name cause ++ codes "\n"

-- the packet as it leaves
abbrev pub public_text : List ℕ → Result Connection DropCause → List ℕ
public_text p (Err cause) = drop_text cause
public_text p (Ok c) = codes "public " ++ encode_lower (translate_source c.public.src c.public.sport p) ++ codes "\n"

-- the packet as the machine gets it
abbrev pub machine_text : List ℕ → Result Connection DropCause → List ℕ
machine_text p (Err cause) = drop_text cause
machine_text p (Ok c) =
    codes "machine " ++ (address_text c.private.src ++ (codes " "
    ++ (encode_lower (translate_destination c.private.src c.private.sport 1 p) ++ codes "\n")))

abbrev pub sent_as : List ℕ → List Connection × Result Connection DropCause → List Connection × List ℕ
sent_as p after = (after.0, public_text p after.1)

-- a packet of a machine, as it was read
abbrev pub sent : TableState → List Connection → Result (List ℕ) PacketFault → List Connection × List ℕ
sent t opened (Err fault) = (opened, drop_text (packet_cause fault))
sent t opened (Ok p) = sent_as p (outgoing t opened (key_of p))

-- a reply, as it was read
abbrev pub replied : TableState → List Connection → Result (List ℕ) PacketFault → List ℕ
replied t opened (Err fault) = drop_text (packet_cause fault)
replied t opened (Ok p) = machine_text p (incoming t opened (ttl_of p) (key_of p))
