-- What is the same is equal, and the other way round.
use Rattle.std.proofs.Common.{◌≡◌, true, refl, arith}
use Rattle.wire_core.specs.declared.address.Ip4.{Ip4}
use Rattle.wire_core.specs.declared.address.Socket.{Socket}
use Rattle.wire_core.specs.declared.flow.FlowKey.{FlowKey}
use Rattle.wire_core.specs.declared.flow.Proto.{Proto}
use Rattle.wire_core.specs.declared.flow.Proto.TheVariants.{Tcp, Udp}
use Rattle.wire_core.specs.declared.range.Range.{Range}
use Rattle.wire_core.specs.Same.{same_ip, same_key, same_proto, same_range, same_socket}

pub ip_is : (a b : Ip4) → same_ip a b ≡ true → a ≡ b
ip_is a b same = grind arith

pub socket_is : (a b : Socket) → same_socket a b ≡ true → a ≡ b
socket_is a b same = grind arith

pub proto_is : (a b : Proto) → same_proto a b ≡ true → a ≡ b
proto_is Tcp Tcp same = refl
proto_is Tcp Udp same = absurd (cc)
proto_is Udp Tcp same = absurd (cc)
proto_is Udp Udp same = refl

pub range_is : (a b : Range) → same_range a b ≡ true → a ≡ b
range_is a b same = grind arith

pub key_is : (a b : FlowKey) → same_key a b ≡ true → a ≡ b
key_is a b same = let proto : a.proto ≡ b.proto = proto_is a.proto b.proto (grind arith) in grind arith

pub ip_itself : (a : Ip4) → same_ip a a ≡ true
ip_itself a = grind arith

pub socket_itself : (a : Socket) → same_socket a a ≡ true
socket_itself a = grind arith

pub proto_itself : (p : Proto) → same_proto p p ≡ true
proto_itself Tcp = refl
proto_itself Udp = refl

pub range_itself : (r : Range) → same_range r r ≡ true
range_itself r = grind arith

pub key_itself : (key : FlowKey) → same_key key key ≡ true
key_itself key = let proto = proto_itself key.proto in grind arith
