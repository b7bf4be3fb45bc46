use Rattle.packet_edit.proofs.ReadLaws.{if_lent_front, if_lent_fine, if_lent_buffer}
use Rattle.packet_edit.proofs.packet.Packet.read.Goals as goal

pub returns-clause-front : goal.returns-clause-front
returns-clause-front c = if_lent_front c.args.bytes.now c.read_parts.result c.read_parts.ensures

pub returns-clause-fine : goal.returns-clause-fine
returns-clause-fine c = if_lent_fine c.args.bytes.now c.read_parts.result c.read_parts.ensures

pub returns-clause-buffer : goal.returns-clause-buffer
returns-clause-buffer c = if_lent_buffer c.args.bytes.now c.read_parts.result c.read_parts.ensures
