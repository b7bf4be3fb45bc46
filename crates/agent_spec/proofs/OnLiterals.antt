-- The words of this crate, opened where a row is computed on literals.
use Rattle.std.specs.Prelude.{⊤}
use Rattle.agent_spec.specs.Agent.{opened_agent}
use Rattle.agent_spec.specs.AgentTable.{agent_hears, agent_takes, agent_step}
use Rattle.agent_spec.specs.Answers.{retry, take_grant, on_grant, on_denied, on_returned, on_known}
use Rattle.agent_spec.specs.Clock.{close_idle, forget_inbound, give_back, give_back_spare, up_again, asks_again}
use Rattle.agent_spec.specs.Clock.{returns_again, says_again, idle_leave, on_tick}
use Rattle.agent_spec.specs.Connections.{private_key, public_key}
use Rattle.agent_spec.specs.Packets.{new_conn, try_packet, ask_for, stays, machine_packet, from_machine}
use Rattle.agent_spec.specs.Ranges.{ports_of}
use Rattle.agent_spec.specs.Redirects.{on_redirect}
use Rattle.agent_spec.specs.Traffic.{open_conn, close_conn, use_conn, use_inbound, hand}
use Rattle.agent_spec.specs.Wrapped.{reply, enters, to_server, delivered, on_wrapped}

-- what an answer unfolds
unfoldable pub agent_on_literals : ⊤
unfolding opened_agent agent_hears agent_takes agent_step retry take_grant on_grant on_denied on_returned on_known
    close_idle forget_inbound give_back give_back_spare up_again asks_again returns_again says_again idle_leave
    on_tick private_key public_key new_conn try_packet ask_for stays machine_packet from_machine ports_of
    on_redirect open_conn close_conn use_conn use_inbound hand reply enters to_server delivered on_wrapped
agent_on_literals = tt
