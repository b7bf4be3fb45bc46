use Rattle.paxos_log.specs.World.{run, start, view}
use Rattle.paxos_laws.proofs.Named.{claims}
use Rattle.paxos_log.proofs.Runs.{inv_of}
use Rattle.paxos_log.proofs.laws.agreement.Goals as goal

pub returns-clause-agrees : goal.returns-clause-agrees
returns-clause-agrees c = λ es. (claims (view (run es start)) (inv_of es)).agrees

pub returns-clause-learned : goal.returns-clause-learned
returns-clause-learned c = λ es. (claims (view (run es start)) (inv_of es)).learned

pub returns-clause-owner : goal.returns-clause-owner
returns-clause-owner c = λ es. (claims (view (run es start)) (inv_of es)).owner

pub returns-clause-knows : goal.returns-clause-knows
returns-clause-knows c = λ es. (claims (view (run es start)) (inv_of es)).knows

pub returns-clause-seal : goal.returns-clause-seal
returns-clause-seal c = λ es. (claims (view (run es start)) (inv_of es)).seal

pub returns-clause-ballots : goal.returns-clause-ballots
returns-clause-ballots c = λ es. (claims (view (run es start)) (inv_of es)).ballots

pub returns-clause-logs : goal.returns-clause-logs
returns-clause-logs c = λ es. (claims (view (run es start)) (inv_of es)).logs

pub returns-clause-beginning : goal.returns-clause-beginning
returns-clause-beginning c = λ es. (claims (view (run es start)) (inv_of es)).beginning
