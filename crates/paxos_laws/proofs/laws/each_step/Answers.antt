use Rattle.paxos_laws.proofs.Named.{message, candidacy, campaign, offer, resend, saying, hearing}
use Rattle.paxos_laws.proofs.Named.{down, reopening, cut, both, not_offered, own}
use Rattle.paxos_laws.proofs.laws.each_step.Goals as goal

pub returns-clause-message : goal.returns-clause-message
returns-clause-message c = message

pub returns-clause-candidacy : goal.returns-clause-candidacy
returns-clause-candidacy c = candidacy

pub returns-clause-campaign : goal.returns-clause-campaign
returns-clause-campaign c = campaign

pub returns-clause-offer : goal.returns-clause-offer
returns-clause-offer c = offer

pub returns-clause-resend : goal.returns-clause-resend
returns-clause-resend c = resend

pub returns-clause-saying : goal.returns-clause-saying
returns-clause-saying c = saying

pub returns-clause-hearing : goal.returns-clause-hearing
returns-clause-hearing c = hearing

pub returns-clause-down : goal.returns-clause-down
returns-clause-down c = down

pub returns-clause-reopening : goal.returns-clause-reopening
returns-clause-reopening c = reopening

pub returns-clause-cut : goal.returns-clause-cut
returns-clause-cut c = cut

pub returns-clause-both : goal.returns-clause-both
returns-clause-both c = both

pub returns-clause-unoffered : goal.returns-clause-unoffered
returns-clause-unoffered c = not_offered

pub returns-clause-own : goal.returns-clause-own
returns-clause-own c = own
