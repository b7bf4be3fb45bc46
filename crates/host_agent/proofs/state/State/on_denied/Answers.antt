use Rattle.std.proofs.Common.{rules, ◌≡◌, ◌∙◌, ◌==◌, true, false, ap}
use Rattle.wire_core.specs.declared.cause.DropCause.TheVariants.{Late}
use Rattle.wire_core.specs.declared.note.Note.TheVariants.{Dropped}
use Rattle.wire_core.specs.Steps.{with_note}
use Rattle.node_spec.specs.Steps.{tried, turned}
use Rattle.agent_spec.specs.Agent.{host_of}
use Rattle.agent_spec.specs.Answers.{on_denied}
use Rattle.host_agent.specs.contracts.state.State.{the_view}
use Rattle.host_agent.specs.Hosts.{denial}
use Rattle.host_agent.specs.Seen.{Core, as_is, with_lists}
use Rattle.host_agent.proofs.Sited.{denied_turned, undenied_turned}
use Rattle.host_agent.proofs.state.State.on_denied.Goals as goal

pub returns-then-not-out : goal.returns-then-not-out
unfolding on_denied
returns-then-not-out c =
    let own : (c.args.boot == c.self.inside.origin.boot) ≡ true = search rules in
    let denies : (c.deny.new.self, (c.deny.new.step, false))
    ≡ tried as_is c.self.inside.cfg c.args.step.now c.self.inside.hosts
    (denial c.self.inside.hosts c.args.seq (host_of c.self.inside.hosts c.args.machine)) = search rules in
    let note : c.drop_for-then-not-out.new.step ≡ with_note (Dropped Late) c.deny.new.step = search rules in
    let main : (
      with_lists (the_view c.self.inside) (record (the_view c.self.inside).lists { hosts = c.deny.new.self }),
      c.drop_for-then-not-out.new.step,
    )
    ≡ turned (with_lists (the_view c.self.inside)) c.self.inside.cfg c.args.step.now
    (on_denied (the_view c.self.inside).lists c.args.from c.args.boot c.args.machine c.args.seq) =
    rw own (undenied_turned (the_view c.self.inside) c.args.step.now c.deny.new.step c.drop_for-then-not-out.new.step
    c.args.from c.args.seq c.deny.new.self (host_of c.self.inside.hosts c.args.machine) denies note) in
    main
    ∙ ap (λ (x : Core). turned (with_lists x) x.config c.args.step.now
    (on_denied x.lists c.args.from c.args.boot c.args.machine c.args.seq)) c.self.view_is

pub returns : goal.returns
unfolding on_denied
returns c =
    let own : (c.args.boot == c.self.inside.origin.boot) ≡ true = search rules in
    let denies : (c.deny.new.self, (c.deny.new.step, true))
    ≡ tried as_is c.self.inside.cfg c.args.step.now c.self.inside.hosts
    (denial c.self.inside.hosts c.args.seq (host_of c.self.inside.hosts c.args.machine)) = search rules in
    let main : (
      with_lists (the_view c.self.inside) (record (the_view c.self.inside).lists { hint = c.args.from; hosts = c.deny.new.self }),
      c.deny.new.step,
    )
    ≡ turned (with_lists (the_view c.self.inside)) c.self.inside.cfg c.args.step.now
    (on_denied (the_view c.self.inside).lists c.args.from c.args.boot c.args.machine c.args.seq) =
    rw own (denied_turned (the_view c.self.inside) c.args.step.now c.deny.new.step c.args.from c.args.seq
    c.deny.new.self (host_of c.self.inside.hosts c.args.machine) denies) in
    main
    ∙ ap (λ (x : Core). turned (with_lists x) x.config c.args.step.now
    (on_denied x.lists c.args.from c.args.boot c.args.machine c.args.seq)) c.self.view_is
