use Rattle.std.proofs.Common.{◌≡◌, true, subst}
use Rattle.wire_core.specs.Same.{same_ip, same_key, same_proto, same_range, same_socket}
use Rattle.wire_core.proofs.SameLaws.{ip_is, ip_itself, socket_is, socket_itself, proto_is, proto_itself, range_is, range_itself, key_is, key_itself}
use Rattle.wire_core.proofs.same.sameness_is_equality.Goals as goal

pub returns-clause-ips : goal.returns-clause-ips
returns-clause-ips c = λ a b. (ip_is a b, λ e. subst (λ x. same_ip a x ≡ true) e (ip_itself a))

pub returns-clause-sockets : goal.returns-clause-sockets
returns-clause-sockets c = λ a b. (socket_is a b, λ e. subst (λ x. same_socket a x ≡ true) e (socket_itself a))

pub returns-clause-protos : goal.returns-clause-protos
returns-clause-protos c = λ a b. (proto_is a b, λ e. subst (λ x. same_proto a x ≡ true) e (proto_itself a))

pub returns-clause-ranges : goal.returns-clause-ranges
returns-clause-ranges c = λ a b. (range_is a b, λ e. subst (λ x. same_range a x ≡ true) e (range_itself a))

pub returns-clause-keys : goal.returns-clause-keys
returns-clause-keys c = λ a b. (key_is a b, λ e. subst (λ x. same_key a x ≡ true) e (key_itself a))
