-- What doesn't count changes nothing and says nothing.
use Rattle.std.specs.Prelude.{ℕ, ◌≡◌}
use Rattle.paxos_spec.specs.declared.mail.Body.{Body}
use Rattle.paxos_spec.specs.Votes.{Value}
use Rattle.paxos_spec.specs.Replica.{on_message, on_campaign, on_offer}
use Rattle.paxos_spec.specs.Events.{Replica, or_quiet, step_at, step_at_campaign, step_at_offer}

abbrev pub MessagesPassedOver : Type 0
MessagesPassedOver = (me from : ℕ) (r : Replica) (body : Body)
    → or_quiet r.memory (step_at me r from body) ≡ on_message me r.acceptor r.memory from body

abbrev pub CampaignsPassedOver : Type 0
CampaignsPassedOver = (me : ℕ) (r : Replica)
    → or_quiet r.memory (step_at_campaign me r) ≡ on_campaign me r.acceptor r.memory

abbrev pub OffersPassedOver : Type 0
OffersPassedOver = (me : ℕ) (r : Replica) (value : Value)
    → or_quiet r.memory (step_at_offer me r value) ≡ on_offer me r.acceptor r.memory value
