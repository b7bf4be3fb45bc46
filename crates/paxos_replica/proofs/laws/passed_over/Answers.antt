use Rattle.paxos_replica.proofs.PassedOver.{message_steps, campaign_steps, offer_steps}
use Rattle.paxos_replica.proofs.laws.passed_over.Goals as goal

pub returns-clause-messages : goal.returns-clause-messages
returns-clause-messages c = message_steps

pub returns-clause-campaigns : goal.returns-clause-campaigns
returns-clause-campaigns c = campaign_steps

pub returns-clause-offers : goal.returns-clause-offers
returns-clause-offers c = offer_steps
