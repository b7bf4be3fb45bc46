-- What is sent of a packet that leaves by a connection, or why it is dropped.
use Rattle.std.specs.Prelude.{ℕ, Bool, true, false, List, [], ◌∷◌, Option, Some, None, Result, Ok, Err}
use Rattle.std.specs.List.{flat_map}
use Rattle.wire_core.specs.declared.address.Ip4.{Ip4}
use Rattle.wire_core.specs.declared.cause.DropCause.{DropCause}
use Rattle.wire_core.specs.declared.note.Note.TheVariants.{Dropped}
use Rattle.wire_core.specs.declared.step.Step.{Step}
use Rattle.wire_core.specs.Steps.{with_note}
use Rattle.ipip.specs.Causes.{wrap_cause}
use Rattle.ipip.specs.Wrapping.{wrapped, wrap_fault}
use Rattle.ipip.specs.declared.wrapping.WrapFault.{WrapFault}
use Rattle.vip_config.specs.Serving.{agent_with}
use Rattle.vip_config.specs.declared.parts.ConfigParts.{ConfigParts}
use Rattle.node_spec.specs.Sends.{Send, ToRouter, Carries, carry, to_agent}
use Rattle.node_spec.specs.Steps.{outgoing, with_sends}
use Rattle.agent_spec.specs.declared.connection.Connection.{Connection}

-- wrapped to a peer, to the peer's agent
abbrev pub to_peer : ConfigParts → Connection → Ip4 → List ℕ → Option WrapFault → Result (List Send) DropCause
to_peer c x peer p (Some fault) = Err (wrap_cause fault)
to_peer c x peer p None = Ok (to_agent (agent_with c peer) (Carries (wrapped 0 x.machine peer p)))

-- to the peer, or to the router
abbrev pub leaves_by : ConfigParts → Connection → List ℕ → Option Ip4 → Result (List Send) DropCause
leaves_by c x p (Some peer) = to_peer c x peer p (wrap_fault 0 p)
leaves_by c x p None = Ok (carry ToRouter p ∷ [])

-- the step with what is sent, or with the cause, and whether it was sent
abbrev pub sent_or_dropped : ConfigParts → Step → Result (List Send) DropCause → Step × Bool
sent_or_dropped c s (Ok xs) = (with_sends (flat_map (outgoing c) xs) s, true)
sent_or_dropped c s (Err cause) = (with_note (Dropped cause) s, false)
