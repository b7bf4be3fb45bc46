-- The words of this crate, opened where a row is computed on literals.
use Rattle.std.specs.Prelude.{⊤}
use Rattle.node_spec.specs.Boots.{boot_of, epoch_of}
use Rattle.packet_spec.specs.Causes.{packet_cause}
use Rattle.node_spec.specs.Datagrams.{admitted, heard}
use Rattle.node_spec.specs.Fastpath.{should_redirect, accept_redirect}
use Rattle.node_spec.specs.Steps.{datagram, outgoing, body_of, onto, turned, tried}
use Rattle.node_spec.specs.Turns.{each}

-- what an answer unfolds
unfoldable pub node_on_literals : ⊤
unfolding boot_of epoch_of packet_cause admitted heard should_redirect accept_redirect datagram outgoing body_of
    onto turned tried each
node_on_literals = tt
