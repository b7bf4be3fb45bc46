-- The words of this crate, opened where a row is computed on literals.
use Rattle.std.specs.Prelude.{⊤}
use Rattle.manager_spec.specs.Agents.{enqueue, ask_after, on_ask, on_return, on_agent_up}
use Rattle.manager_spec.specs.Clock.{on_tick}
use Rattle.manager_spec.specs.Leading.{on_prepare, on_promise, on_refuse, on_lead}
use Rattle.manager_spec.specs.Manager.{opened_manager, leases_of, effects_of, agrees}
use Rattle.manager_spec.specs.ManagerTable.{manager_hears, manager_half, manager_step}
use Rattle.manager_spec.specs.Muxes.{on_hello, on_mux_refuse, on_ack}
use Rattle.manager_spec.specs.Orders.{orders_of, after_effects, push}
use Rattle.manager_spec.specs.Proposal.{due, propose, whole}
use Rattle.manager_spec.specs.Voting.{on_accept, completes, on_accepted, on_chosen, on_fetched}

-- what an answer unfolds
unfoldable pub manager_on_literals : ⊤
unfolding enqueue ask_after on_ask on_return on_agent_up on_tick on_prepare on_promise on_refuse on_lead
    opened_manager leases_of effects_of agrees manager_hears manager_half manager_step on_hello on_mux_refuse on_ack
    orders_of after_effects push due propose whole on_accept completes on_accepted on_chosen on_fetched
manager_on_literals = tt
