-- Derived equalities of keys.
use Rattle.std.proofs.Common.{◌≡◌, Bool, true, ◌&&◌, ◌==◌, refl, ap, arith}
use Rattle.std.proofs.Math.Path.{fun_ext}
use Rattle.wire_core.specs.declared.flow.Proto.{Proto}
use Rattle.wire_core.specs.declared.flow.Proto.TheVariants.{Tcp, Udp}
use Rattle.wire_core.specs.contracts.flow.ProtoPartialEq.TheImpl as proto
use Rattle.wire_core.specs.contracts.range.RangePartialEq.TheImpl as range
use Rattle.wire_core.specs.Same.{same_proto, same_range}
use Rattle.wire_core.proofs.SameLaws.{proto_is}
use Rattle.agent_ports.specs.declared.remote_end.RemoteEnd.{RemoteEnd}
use Rattle.agent_ports.specs.contracts.remote_end.RemoteEndPartialEq.TheImpl as remote
use Rattle.agent_ports.specs.Full.{same_end}

proto_eq : (a b : Proto) → proto.ghosts.eq a b ≡ same_proto a b
proto_eq Tcp Tcp = refl
proto_eq Tcp Udp = refl
proto_eq Udp Tcp = refl
proto_eq Udp Udp = refl

end_eq : (a b : RemoteEnd) → remote.ghosts.eq a b ≡ same_end a b
end_eq a b =
    ap
    (λ (p : Bool).
    (a.machine.0 == b.machine.0)
    && ((a.vip.0 == b.vip.0) && ((a.remote.0 == b.remote.0) && ((a.rport == b.rport) && p))))
    (proto_eq a.proto b.proto)

pub end_eq_is : remote.ghosts.eq ≡ same_end
end_eq_is = fun_ext (λ a. fun_ext (λ b. end_eq a b))

pub range_eq_is : range.ghosts.eq ≡ same_range
range_eq_is = fun_ext (λ a. fun_ext (λ b. refl))

pub end_is : (a b : RemoteEnd) → same_end a b ≡ true → a ≡ b
end_is a b same = let proto : a.proto ≡ b.proto = proto_is a.proto b.proto (grind arith) in grind arith
