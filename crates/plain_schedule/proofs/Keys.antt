-- The derived `==` of flow keys is `same_key`, and that of remote ends is `same_end`.
use Rattle.std.proofs.Common.{◌≡◌, Bool, ◌&&◌, ◌==◌, refl, ap}
use Rattle.std.proofs.Math.Path.{fun_ext}
use Rattle.wire_core.specs.declared.flow.FlowKey.{FlowKey}
use Rattle.wire_core.specs.declared.flow.Proto.{Proto}
use Rattle.wire_core.specs.declared.flow.Proto.TheVariants.{Tcp, Udp}
use Rattle.wire_core.specs.contracts.flow.ProtoPartialEq.TheImpl as proto
use Rattle.wire_core.specs.contracts.flow.FlowKeyPartialEq.TheImpl as flow
use Rattle.plain_schedule.specs.declared.full_leases.RemoteEnd.{RemoteEnd}
use Rattle.plain_schedule.specs.contracts.full_leases.RemoteEndPartialEq.TheImpl as remote
use Rattle.wire_core.specs.Same.{same_key, same_proto}
use Rattle.plain_schedule.specs.FullLeases.{same_end}

proto_eq : (a b : Proto) → proto.ghosts.eq a b ≡ same_proto a b
proto_eq Tcp Tcp = refl
proto_eq Tcp Udp = refl
proto_eq Udp Tcp = refl
proto_eq Udp Udp = refl

key_eq : (a b : FlowKey) → flow.ghosts.eq a b ≡ same_key a b
key_eq a b =
    ap (λ (p : Bool).
    (a.src.0 == b.src.0) && ((a.dst.0 == b.dst.0) && ((a.sport == b.sport) && ((a.dport == b.dport) && p))))
    (proto_eq a.proto b.proto)

pub key_eq_is : flow.ghosts.eq ≡ same_key
key_eq_is = fun_ext (λ a. fun_ext (λ b. key_eq a b))

end_eq : (a b : RemoteEnd) → remote.ghosts.eq a b ≡ same_end a b
end_eq a b =
    ap (λ (p : Bool). (a.machine.0 == b.machine.0) && ((a.address.0 == b.address.0) && ((a.port == b.port) && p)))
    (proto_eq a.proto b.proto)

pub end_eq_is : remote.ghosts.eq ≡ same_end
end_eq_is = fun_ext (λ a. fun_ext (λ b. end_eq a b))
