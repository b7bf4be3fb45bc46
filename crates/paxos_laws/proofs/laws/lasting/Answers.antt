use Rattle.paxos_laws.proofs.Named.{stays_as_it_is, grows_on, chosen_lasts, choosable_shrinks, seal_lasts, seal_bounds}
use Rattle.paxos_laws.proofs.laws.lasting.Goals as goal

pub returns-clause-same : goal.returns-clause-same
returns-clause-same c = stays_as_it_is

pub returns-clause-on : goal.returns-clause-on
returns-clause-on c = grows_on

pub returns-clause-chosen : goal.returns-clause-chosen
returns-clause-chosen c = chosen_lasts

pub returns-clause-choosable : goal.returns-clause-choosable
returns-clause-choosable c = choosable_shrinks

pub returns-clause-seal : goal.returns-clause-seal
returns-clause-seal c = seal_lasts

pub returns-clause-bounds : goal.returns-clause-bounds
returns-clause-bounds c = seal_bounds
