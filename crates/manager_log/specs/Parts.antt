-- Requests as the commands that they ask for, muxes by their numbers, and what is added to a step.
use Rattle.std.specs.Prelude.{◌≡◌, ℕ, ◌+◌, List, [], ◌∷◌, ◌++◌, Option, Some, None}
use Rattle.wire_core.specs.declared.act.Act.{Act}
use Rattle.wire_core.specs.Commands.{LogCommand, Reserve, Release, Up}
use Rattle.wire_core.specs.declared.step.Step.{Step}
use Rattle.wire_core.specs.declared.node.NodeId.TheVariants.{Mux}
use Rattle.control_msg.specs.declared.message.Message.{Message}
use Rattle.node_spec.specs.Sends.{Send, tell}
use Rattle.manager_spec.specs.declared.peer.Peer.{Peer}
use Rattle.manager_log.specs.declared.queue.Request.{Request}
use Rattle.manager_log.specs.declared.queue.Request.TheVariants as request

-- what a request asks for
abbrev pub command_of : Request → LogCommand
command_of (request.Reserve agent boot machine seq) = Reserve agent boot machine seq
command_of (request.Release n) = Release n
command_of (request.Up agent boot) = Up agent boot

-- muxes stand by their numbers
abbrev pub NumberedFrom : ℕ → List Peer → Type 0
NumberedFrom k [] = Unit {0}
NumberedFrom k (p ∷ ps) = (p.mux ≡ k) × NumberedFrom (k + 1) ps

-- with so many acts more
abbrev pub with_acts : List Act → Step → Step
with_acts acts s = record s { acts = s.acts ++ acts }

-- a message to a mux, where there is one
abbrev pub sends_of : ℕ → Option Message → List Send
sends_of mux None = []
sends_of mux (Some m) = tell (Mux mux) m ∷ []
