use Rattle.worked_run.proofs.MuxesComputed.{hellos, acknowledges, acknowledges_twice, grants_due, freed_due, pushes}
use Rattle.worked_run.proofs.MuxesComputed.{pushes_some, proposes, orders}
use Rattle.worked_run.proofs.managers.muxes_rows.Goals as goal

pub returns-clause-hellos : goal.returns-clause-hellos
returns-clause-hellos c = hellos

pub returns-clause-acknowledges : goal.returns-clause-acknowledges
returns-clause-acknowledges c = acknowledges

pub returns-clause-acknowledges_twice : goal.returns-clause-acknowledges_twice
returns-clause-acknowledges_twice c = acknowledges_twice

pub returns-clause-granted : goal.returns-clause-granted
returns-clause-granted c = grants_due

pub returns-clause-freed : goal.returns-clause-freed
returns-clause-freed c = freed_due

pub returns-clause-pushes : goal.returns-clause-pushes
returns-clause-pushes c = pushes

pub returns-clause-pushes_some : goal.returns-clause-pushes_some
returns-clause-pushes_some c = pushes_some

pub returns-clause-proposes : goal.returns-clause-proposes
returns-clause-proposes c = proposes

pub returns-clause-orders : goal.returns-clause-orders
returns-clause-orders c = orders
