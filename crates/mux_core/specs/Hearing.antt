-- What the code's answer to the common tests means.
use Rattle.mux_core.specs.declared.hearing.Heard.{Heard as CodeHeard}
use Rattle.mux_core.specs.declared.hearing.Heard.TheVariants as code
use Rattle.node_spec.specs.Datagrams.{Heard, Refused, Told, Brought}

-- the same, of the bytes that a packet borrows
abbrev pub heard_by : CodeHeard → Heard
heard_by (code.Refused cause) = Refused cause
heard_by (code.Told sender message) = Told sender message
heard_by (code.Brought sender packet) = Brought sender packet.now
