-- The five numbers of a flow, and their hash.
use Rattle.std.specs.Prelude.{ℕ, ◌*◌, ◌%◌, List, [], ◌∷◌, ◌++◌, bit_xor, fold}
use Rattle.wire_core.specs.declared.flow.FlowKey.{FlowKey}
use Rattle.wire_core.specs.declared.flow.Proto.{Proto}
use Rattle.wire_core.specs.declared.flow.Proto.TheVariants.{Tcp, Udp}
use Rattle.wire_core.specs.Numbers.{number_bytes}

-- the key of the packets that answer: both ends swapped
abbrev pub reverse : FlowKey → FlowKey
reverse key = record { src = key.dst; dst = key.src; sport = key.dport; dport = key.sport; proto = key.proto }

-- the protocol's number in an IPv4 header
abbrev pub proto_number : Proto → ℕ
proto_number Tcp = 6
proto_number Udp = 17

-- a hash with one more byte: exclusive or, then times FNV's prime for 32 bits
unfoldable pub fnv_1a_step : ℕ → ℕ → ℕ
fnv_1a_step hash byte = bit_xor hash byte * 16777619 % 4294967296

-- a hash with these bytes more
abbrev pub fnv_1a_from : ℕ → List ℕ → ℕ
fnv_1a_from hash bytes = fold fnv_1a_step hash bytes

-- 32-bit FNV-1a of these bytes; the number is FNV's offset basis
abbrev pub fnv_1a : List ℕ → ℕ
fnv_1a bytes = fnv_1a_from 2166136261 bytes

-- source, destination, source port, destination port and protocol: 13 bytes
abbrev pub flow_bytes : FlowKey → List ℕ
flow_bytes key =
    number_bytes 4 key.src.0 ++ number_bytes 4 key.dst.0 ++ number_bytes 2 key.sport ++ number_bytes 2 key.dport
    ++ proto_number key.proto ∷ []

-- the hash that chooses among an endpoint's machines
unfoldable pub hash : FlowKey → ℕ
hash key = fnv_1a (flow_bytes key)
