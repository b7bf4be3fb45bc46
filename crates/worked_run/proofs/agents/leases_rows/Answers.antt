use Rattle.worked_run.proofs.LeasesComputed.{holds, denies, grants_taken, idles, asks_again, answered}
use Rattle.worked_run.proofs.agents.leases_rows.Goals as goal

pub returns-clause-holds : goal.returns-clause-holds
returns-clause-holds c = holds

pub returns-clause-denies : goal.returns-clause-denies
returns-clause-denies c = denies

pub returns-clause-grants : goal.returns-clause-grants
returns-clause-grants c = grants_taken

pub returns-clause-idles : goal.returns-clause-idles
returns-clause-idles c = idles

pub returns-clause-asks_again : goal.returns-clause-asks_again
returns-clause-asks_again c = asks_again

pub returns-clause-answered : goal.returns-clause-answered
returns-clause-answered c = answered
