-- What the edits of a packet make of it, told by its key, its control bits and its time to live.
use Rattle.std.specs.Prelude.{◌≡◌, ℕ, ◌<◌, ◌^◌, List, length, None}
use Rattle.wire_core.specs.declared.address.Ip4.{Ip4}
use Rattle.wire_core.specs.declared.flow.FlowKey.{FlowKey}
use Rattle.wire_core.specs.Numbers.{AreBytes}
use Rattle.packet_spec.specs.Headers.{IsWhole, ttl_of}
use Rattle.packet_spec.specs.Packets.{packet_fault, key_of, has_syn, has_ack, has_rst}

-- bytes with a packet without fault at their front
pub record IsSound (p : List ℕ) : Type 0 where
  pub bytes : AreBytes p
  pub fine : packet_fault p ≡ None

-- an address and a port, each within its width
pub record IsEnd (ip : Ip4) (port : ℕ) : Type 0 where
  pub address : ip.0 < 2 ^ 32
  pub port_fits : port < 65536

-- the key with another source, and with another destination
abbrev pub from_end : Ip4 → ℕ → FlowKey → FlowKey
from_end ip port key = record key { src = ip; sport = port }

abbrev pub to_end : Ip4 → ℕ → FlowKey → FlowKey
to_end ip port key = record key { dst = ip; dport = port }

-- A packet with this key and time to live, again without fault. It has as many bytes as the one that it was made of,
-- and the same control bits.
pub record Becomes (p q : List ℕ) (key : FlowKey) (ttl : ℕ) : Type 0 where
  pub sound : IsSound q
  pub as_long : length q ≡ length p
  pub whole : IsWhole p → IsWhole q
  pub key_is : key_of q ≡ key
  pub hops : ttl_of q ≡ ttl
  pub syn : has_syn q ≡ has_syn p
  pub ack : has_ack q ≡ has_ack p
  pub rst : has_rst q ≡ has_rst p
