-- What the agreement of the log sees of a world: the disks and memories of the replicas, and their messages.
use Rattle.std.specs.Prelude.{List, [], Option, Some, None}
use Rattle.std.specs.List.{flat_map}
use Rattle.wire_core.specs.declared.node.NodeId.{NodeId}
use Rattle.wire_core.specs.declared.node.NodeId.TheVariants.{Replica, Mux, Agent}
use Rattle.node_spec.specs.Sends.{Place, Said}
use Rattle.paxos_spec.specs.declared.mail.Mail.{Mail}
use Rattle.paxos_spec.specs.Replica.{Memory, new_memory}
use Rattle.paxos_spec.specs.Agreement.{View}
use Rattle.paxos_laws.specs.Disks.{disk_of}
use Rattle.manager_spec.specs.Agreement.{mail_at}
use Rattle.world_spec.specs.Nodes.{Lists, OfManager, OfMux, OfAgent}
use Rattle.world_spec.specs.World.{World, Sent, disk, at}

-- what a node sends to a place, of the agreement: only replicas send of it
abbrev pub mail_from : NodeId → Place → Said → List Mail
mail_from (Replica i) to said = mail_at i to said
mail_from (Mux i) to said = []
mail_from (Agent i) to said = []

abbrev pub mail_of : Sent → List Mail
mail_of s = mail_from s.from s.to s.said

-- the messages of the agreement among some datagrams
unfoldable pub mails_of : List Sent → List Mail
mails_of ss = flat_map mail_of ss

-- what a node keeps in memory alone, of the agreement; a replica that is down keeps nothing
abbrev pub memory_of : Option Lists → Memory
memory_of None = new_memory
memory_of (Some (OfManager m)) = m.memory
memory_of (Some (OfMux m)) = new_memory
memory_of (Some (OfAgent a)) = new_memory

-- The view of a world.
unfoldable pub view : World → View
view w = record {
  disk = λ i. disk_of (disk w (Replica i));
  memory = λ i. memory_of (at w (Replica i));
  sent = mails_of w.sent;
}
