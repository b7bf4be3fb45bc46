use Rattle.std.proofs.Common.{rules, ◌≡◌, Some, Option, ℕ, List}
use Rattle.wire_core.specs.declared.note.Note.TheVariants.{Queued}
use Rattle.wire_core.specs.Steps.{with_note}
use Rattle.node_spec.specs.Steps.{turned}
use Rattle.agent_spec.specs.Packets.{ask_for, enqueued}
use Rattle.host_agent.specs.Seen.{as_is}
use Rattle.host_agent.proofs.Held.{held_turned}
use Rattle.host_agent.proofs.host.Host.hold.Goals as goal

pub returns-clause-turn : goal.returns-clause-turn
returns-clause-turn c =
    let enq : (c.enqueue.new.queue, Some c.in-Some.count) ≡ enqueued c.args.self.now.queue c.args.packet.now = search rules in
    let asks : (c.ask_for.new.self, c.ask_for.new.step)
    ≡ turned as_is c.args.cfg.now (with_note (Queued c.args.self.now.machine c.in-Some.count) c.args.step.now)
    (ask_for c.args.origin.now.boot c.args.origin.now.hint c.args.now (record c.args.self.now { queue = c.enqueue.new.queue })) = search rules in
    held_turned c.args.cfg.now c.args.origin.now.boot c.args.origin.now.hint c.args.now c.args.step.now c.args.self.now
    c.args.packet.now c.enqueue.new.queue c.in-Some.count (c.ask_for.new.self, c.ask_for.new.step) enq asks
