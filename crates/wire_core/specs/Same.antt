-- When two values are the same.
use Rattle.std.specs.Prelude.{Bool, true, false, ◌==◌, ◌&&◌, List, bytes_eq}
use Rattle.wire_core.specs.declared.address.Ip4.{Ip4}
use Rattle.wire_core.specs.declared.address.Socket.{Socket}
use Rattle.wire_core.specs.declared.flow.FlowKey.{FlowKey}
use Rattle.wire_core.specs.declared.flow.Proto.{Proto}
use Rattle.wire_core.specs.declared.flow.Proto.TheVariants.{Tcp, Udp}
use Rattle.wire_core.specs.declared.range.Range.{Range}
use Rattle.wire_core.specs.Commands.{LogCommand, value_bytes}

-- the same address
abbrev pub same_ip : Ip4 → Ip4 → Bool
same_ip a b = a.0 == b.0

-- the same address and port
abbrev pub same_socket : Socket → Socket → Bool
same_socket a b = same_ip a.ip b.ip && (a.port == b.port)

-- the same transport
abbrev pub same_proto : Proto → Proto → Bool
same_proto Tcp Tcp = true
same_proto Tcp Udp = false
same_proto Udp Tcp = false
same_proto Udp Udp = true

-- the same eight ports
abbrev pub same_range : Range → Range → Bool
same_range a b = same_ip a.vip b.vip && (a.start == b.start)

-- the same five numbers
abbrev pub same_key : FlowKey → FlowKey → Bool
same_key a b =
    same_ip a.src b.src
    && (same_ip a.dst b.dst && ((a.sport == b.sport) && ((a.dport == b.dport) && same_proto a.proto b.proto)))

-- values are the same where they have one spelling
unfoldable pub same_value : List LogCommand → List LogCommand → Bool
same_value v w = bytes_eq (value_bytes v) (value_bytes w)
