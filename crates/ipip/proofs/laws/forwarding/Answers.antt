use Rattle.packet_spec.proofs.WholeLaws.{whole_is_sound, sound_is_whole}
use Rattle.ipip.proofs.InverseLaws.{unwraps_again}
use Rattle.ipip.proofs.ForwardLaws.{lowered_becomes, lowered_payload, lowered_read, lowered_handed, lowered_restored}
use Rattle.ipip.proofs.laws.forwarding.Goals as goal

pub returns-clause-lowered : goal.returns-clause-lowered
returns-clause-lowered c = lowered_becomes

pub returns-clause-payload : goal.returns-clause-payload
returns-clause-payload c = lowered_payload

pub returns-clause-unwrapped : goal.returns-clause-unwrapped
returns-clause-unwrapped c = λ d src dst p a b s fine.
    unwraps_again d src dst _ a b (whole_is_sound p s).bytes (sound_is_whole p s) fine

pub returns-clause-read : goal.returns-clause-read
returns-clause-read c = lowered_read

pub returns-clause-handed : goal.returns-clause-handed
returns-clause-handed c = lowered_handed

pub returns-clause-restored : goal.returns-clause-restored
returns-clause-restored c = lowered_restored
