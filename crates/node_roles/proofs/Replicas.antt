-- A configured replica has one of the five numbers.
use Rattle.std.proofs.Common.{◌≡◌, ℕ, ◌<◌, List, Option, Some, None, refl, length, slice_get, subst}
use Rattle.std.specs.Prelude.{IsSome}
use Rattle.std.proofs.lemmas.Option.{slice_get_within}
use Rattle.wire_core.specs.declared.address.Socket.{Socket}
use Rattle.wire_core.specs.declared.node.NodeId.TheVariants.{Replica}
use Rattle.vip_config.specs.declared.parts.ConfigParts.{ConfigParts}
use Rattle.vip_config.specs.Queries.{socket_of}

within : (sockets : List Socket) (i : ℕ) (o : Option Socket) → slice_get sockets i ≡ o → IsSome o → i < length sockets
within sockets i None e is = absurd (cc)
within sockets i (Some s) e is = slice_get_within sockets i s e

pub below_five : (c : ConfigParts) (i : ℕ) → length c.replicas ≡ 5 → IsSome (socket_of c (Replica i)) → i < 5
below_five c i five is =
    subst (λ (n : ℕ). i < n) five (within c.replicas i (slice_get c.replicas i) refl is)
