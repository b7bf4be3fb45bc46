use Rattle.worked_run.proofs.LeadingComputed.{silence, prepares, promises, catches, inherits, refuses, leads}
use Rattle.worked_run.proofs.VotingComputed.{accepts, counts, learns, fetches}
use Rattle.worked_run.proofs.managers.agreement_rows.Goals as goal

pub returns-clause-silence : goal.returns-clause-silence
returns-clause-silence c = silence

pub returns-clause-prepares : goal.returns-clause-prepares
returns-clause-prepares c = prepares

pub returns-clause-promises : goal.returns-clause-promises
returns-clause-promises c = promises

pub returns-clause-catches : goal.returns-clause-catches
returns-clause-catches c = catches

pub returns-clause-inherits : goal.returns-clause-inherits
returns-clause-inherits c = inherits

pub returns-clause-refuses : goal.returns-clause-refuses
returns-clause-refuses c = refuses

pub returns-clause-leads : goal.returns-clause-leads
returns-clause-leads c = leads

pub returns-clause-accepts : goal.returns-clause-accepts
returns-clause-accepts c = accepts

pub returns-clause-counts : goal.returns-clause-counts
returns-clause-counts c = counts

pub returns-clause-learns : goal.returns-clause-learns
returns-clause-learns c = learns

pub returns-clause-fetches : goal.returns-clause-fetches
returns-clause-fetches c = fetches
