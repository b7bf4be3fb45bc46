use Rattle.packet_spec.proofs.BecomeLaws.{set_source_becomes, set_destination_becomes, clamp_mss_becomes}
use Rattle.packet_spec.proofs.BecomeLaws.{translate_source_becomes, translate_destination_becomes}
use Rattle.packet_spec.proofs.laws.edits_of_packets.Goals as goal

pub returns-clause-source : goal.returns-clause-source
returns-clause-source c = set_source_becomes

pub returns-clause-destination : goal.returns-clause-destination
returns-clause-destination c = set_destination_becomes

pub returns-clause-clamped : goal.returns-clause-clamped
returns-clause-clamped c = clamp_mss_becomes

pub returns-clause-leaves : goal.returns-clause-leaves
returns-clause-leaves c = translate_source_becomes

pub returns-clause-handed : goal.returns-clause-handed
returns-clause-handed c = translate_destination_becomes
