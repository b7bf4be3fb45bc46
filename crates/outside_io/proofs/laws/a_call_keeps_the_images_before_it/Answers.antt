use Rattle.outside_io.proofs.Torn.{before_a_write, before_a_cut}
use Rattle.outside_io.proofs.laws.a_call_keeps_the_images_before_it.Goals as goal

pub returns-clause-written : goal.returns-clause-written
returns-clause-written c = before_a_write

pub returns-clause-cut : goal.returns-clause-cut
returns-clause-cut c = before_a_cut
