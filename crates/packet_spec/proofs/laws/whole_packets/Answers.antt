use Rattle.packet_spec.proofs.PacketLaws.{has_header, header_is_fine}
use Rattle.packet_spec.proofs.WholeLaws.{whole_is_sound, sound_is_whole, whole_stays, read_again, key_of_whole}
use Rattle.packet_spec.proofs.WholeLaws.{syn_of_whole, ack_of_whole, rst_of_whole}
use Rattle.packet_spec.proofs.JoinLaws.{whole_translated, whole_restored}
use Rattle.packet_spec.proofs.laws.whole_packets.Goals as goal

pub returns-clause-sound : goal.returns-clause-sound
returns-clause-sound c = whole_is_sound

pub returns-clause-whole : goal.returns-clause-whole
returns-clause-whole c = sound_is_whole

pub returns-clause-stays : goal.returns-clause-stays
returns-clause-stays c = whole_stays

pub returns-clause-read : goal.returns-clause-read
returns-clause-read c = λ p s w. read_again p s.fine w

pub returns-clause-key : goal.returns-clause-key
returns-clause-key c = λ p s. key_of_whole p (has_header p (header_is_fine p s.fine))

pub returns-clause-syn : goal.returns-clause-syn
returns-clause-syn c = λ p s. syn_of_whole p (has_header p (header_is_fine p s.fine))

pub returns-clause-ack : goal.returns-clause-ack
returns-clause-ack c = λ p s. ack_of_whole p (has_header p (header_is_fine p s.fine))

pub returns-clause-rst : goal.returns-clause-rst
returns-clause-rst c = λ p s. rst_of_whole p (has_header p (header_is_fine p s.fine))

pub returns-clause-leaves : goal.returns-clause-leaves
returns-clause-leaves c = whole_translated

pub returns-clause-handed : goal.returns-clause-handed
returns-clause-handed c = whole_restored
