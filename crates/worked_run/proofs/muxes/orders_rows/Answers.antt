use Rattle.worked_run.proofs.OrdersComputed.{is_refused, programs, unprograms, not_its, untaken, redirects}
use Rattle.worked_run.proofs.muxes.orders_rows.Goals as goal

pub returns-clause-refused : goal.returns-clause-refused
returns-clause-refused c = is_refused

pub returns-clause-programs : goal.returns-clause-programs
returns-clause-programs c = programs

pub returns-clause-unprograms : goal.returns-clause-unprograms
returns-clause-unprograms c = unprograms

pub returns-clause-not_its : goal.returns-clause-not_its
returns-clause-not_its c = not_its

pub returns-clause-untaken : goal.returns-clause-untaken
returns-clause-untaken c = untaken

pub returns-clause-redirects : goal.returns-clause-redirects
returns-clause-redirects c = redirects
