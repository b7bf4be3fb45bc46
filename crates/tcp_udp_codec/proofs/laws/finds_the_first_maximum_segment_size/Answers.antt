use Rattle.std.proofs.Common.{◌∙◌}
use Rattle.std.proofs.lemmas.List.{append-nil}
use Rattle.tcp_udp_codec.specs.Options.{all_spelled}
use Rattle.tcp_udp_codec.proofs.WalkLaws.{found, ended, spent}
use Rattle.tcp_udp_codec.proofs.laws.finds_the_first_maximum_segment_size.Goals as goal

pub returns-clause-found : goal.returns-clause-found
returns-clause-found c = λ s before high low rest h. found s before high low rest h.within h.most h.others h.bytes

pub returns-clause-ended : goal.returns-clause-ended
returns-clause-ended c = λ s before rest h. ended s before rest h.within h.most h.others h.bytes

pub returns-clause-spent : goal.returns-clause-spent
returns-clause-spent c = λ s before h. spent s before h.within h.most h.others (h.bytes
    ∙ append-nil (all_spelled before))
