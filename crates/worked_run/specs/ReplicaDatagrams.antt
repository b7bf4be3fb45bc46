-- Rows of the managers on what they don't take: the common tests, and the kinds of other roles.
use Rattle.std.specs.Prelude.{ℕ, List, [], ◌∷◌, ◌≡◌}
use Rattle.wire_core.specs.declared.address.Socket.{Socket}
use Rattle.wire_core.specs.declared.cause.DropCause.TheVariants.{BadFrame, BadMessage, NotFromMux, NotNode, WrongRole}
use Rattle.wire_core.specs.declared.step.Step.{Step}
use Rattle.worked_run.specs.Configs.{run_config, replica_at, mux_at, agent_at, router_at, machine_at}
use Rattle.worked_run.specs.Run as run
use Rattle.worked_run.specs.Redirects as redirects
use Rattle.worked_run.specs.Steps.{dropped}
use Rattle.worked_run.specs.Replicas.{of, hears, elected}

-- what comes to the primary of the run from this socket
abbrev pub takes : Socket → List ℕ → Step
takes from bytes = of (hears run_config elected from bytes)

-- The tests in their order: a frame, a message, a Redirect of a mux, a message of a node, a kind of the sender's role.
-- A replica takes no packet.
pub record Datagrams : Type 0 where
  pub empty : takes agent_at [] ≡ dropped BadFrame
  pub no_frame : takes agent_at (3 ∷ 1 ∷ []) ≡ dropped BadFrame
  pub no_message : takes router_at (1 ∷ 1 ∷ []) ≡ dropped BadMessage
  pub redirect_of_outside : takes router_at redirects.redirect ≡ dropped NotFromMux
  pub redirect_of_agent : takes agent_at redirects.redirect ≡ dropped NotFromMux
  pub outside : takes router_at run.ask ≡ dropped NotNode
  pub machine : takes machine_at run.ask ≡ dropped NotNode
  pub redirect_of_mux : takes mux_at redirects.redirect ≡ dropped WrongRole
  pub redirect_ask : takes mux_at redirects.redirect_ask ≡ dropped WrongRole
  pub prepare_of_mux : takes mux_at run.prepare ≡ dropped WrongRole
  pub grant_of_agent : takes agent_at run.grant ≡ dropped WrongRole
  pub hello_of_agent : takes agent_at run.hello ≡ dropped WrongRole
  pub ask_of_replica : takes (replica_at 1) run.ask ≡ dropped WrongRole
  pub ask_of_mux : takes mux_at run.ask ≡ dropped WrongRole
  pub packet : takes router_at run.reply_in ≡ dropped WrongRole
  pub packet_of_mux : takes mux_at run.reply_wrapped ≡ dropped WrongRole
