use Rattle.std.proofs.Common.{rules, ◌≡◌, ◌∙◌, ◌&&◌, true, false, refl, sym, ap}
use Rattle.wire_core.specs.declared.cause.DropCause.TheVariants.{NotMine, OldGrant}
use Rattle.wire_core.specs.declared.note.Note.TheVariants.{Dropped}
use Rattle.wire_core.specs.declared.step.Step.{Step}
use Rattle.wire_core.specs.Ranges.{is_leasable}
use Rattle.wire_core.specs.Steps.{with_note}
use Rattle.vip_config.specs.Leases.{lease_rules_of}
use Rattle.vip_config.specs.Serving.{has_snat}
use Rattle.node_spec.specs.Turns.{Turn}
use Rattle.node_spec.specs.Steps.{turned}
use Rattle.node_spec.proofs.Turning.{drop_turned}
use Rattle.std.specs.Prelude.{is_some, Option}
use Rattle.agent_spec.specs.declared.held.Granting.TheVariants as granting
use Rattle.agent_spec.specs.Agent.{Agent, Host, Traffic, host_of, of_site}
use Rattle.agent_spec.specs.Answers.{grant_to, take_grant}
use Rattle.host_agent.specs.contracts.state.State.{the_view}
use Rattle.host_agent.specs.Seen.{Core, site, with_lists}
use Rattle.host_agent.specs.Transfers.{granted_to}
use Rattle.host_agent.proofs.Sited.{grant_barred, grant_new, grant_old, old_same, some_of}
use Rattle.host_agent.proofs.state.State.grant_to.Goals as goal

pub returns-then-not-may : goal.returns-then-not-may
returns-then-not-may c =
    let may : (has_snat c.args.self.now.config.vips c.args.grant.now.range.vip c.args.grant.now.machine
    && is_leasable (lease_rules_of c.args.self.now.config) c.args.grant.now.range)
    ≡ false = search rules in
    let note : c.drop_for-then-not-may.new.step ≡ with_note (Dropped NotMine) c.args.step.now = search rules in
    ap (λ (s : Step). (c.args.self.now, s)) note
    ∙ drop_turned (with_lists c.args.self.now) c.args.self.now.config c.args.step.now c.args.self.now.lists NotMine
    ∙ ap (λ (t : Turn Agent). turned (with_lists c.args.self.now) c.args.self.now.config c.args.step.now t)
    (sym (grant_barred c.args.self.now.config c.args.self.now.lists c.args.from c.args.grant.now.seq c.args.grant.now.n
    c.args.grant.now.range c.args.grant.now.machine (host_of c.args.self.now.lists.hosts c.args.grant.now.machine) refl may))

pub returns-in_ok-drop_for-in-Old : goal.returns-in_ok-drop_for-in-Old
returns-in_ok-drop_for-in-Old c =
    let own : is_some (host_of c.self.inside.hosts c.args.grant.now.machine) ≡ true = search rules in
    let may : (has_snat c.self.inside.cfg.vips c.args.grant.now.range.vip c.args.grant.now.machine
    && is_leasable (lease_rules_of c.self.inside.cfg) c.args.grant.now.range)
    ≡ true = search rules in
    let old : (c.grant.new.self, granting.Old c.in-Old.kept)
    ≡ granted_to c.self.inside.traffic c.args.grant.now.n c.args.grant.now.range c.args.grant.now.machine = search rules in
    let note : c.drop_for-in-Old.new.step ≡ with_note (Dropped (OldGrant c.in-Old.kept)) c.args.step.now = search rules in
    ap (λ (t : Traffic).
    (with_lists (the_view c.self.inside) (record (the_view c.self.inside).lists { traffic = t }), c.drop_for-in-Old.new.step))
    (old_same c.self.inside.traffic c.grant.new.self c.args.grant.now.n c.in-Old.kept c.args.grant.now.range
    c.args.grant.now.machine old)
    ∙ ap (λ (s : Step). (the_view c.self.inside, s)) note
    ∙ drop_turned (with_lists (the_view c.self.inside)) c.self.inside.cfg c.args.step.now (the_view c.self.inside).lists
    (OldGrant c.in-Old.kept)
    ∙ ap (λ (t : Turn Agent). turned (with_lists (the_view c.self.inside)) c.self.inside.cfg c.args.step.now t)
    (sym (grant_old c.self.inside.cfg (the_view c.self.inside).lists c.args.from c.args.grant.now.seq c.args.grant.now.n
    c.in-Old.kept c.args.grant.now.range c.args.grant.now.machine c.grant.new.self
    (host_of c.self.inside.hosts c.args.grant.now.machine) refl own may old))
    ∙ ap (λ (x : Core). turned (with_lists x) x.config c.args.step.now
    (grant_to x.config x.lists c.args.from c.args.grant.now.seq c.args.grant.now.n c.args.grant.now.range
    (host_of x.lists.hosts c.args.grant.now.machine))) c.self.view_is

pub returns-in_ok-take_range-in-Held : goal.returns-in_ok-take_range-in-Held
returns-in_ok-take_range-in-Held c =
    let own : is_some (host_of c.self.inside.hosts c.args.grant.now.machine) ≡ true = search rules in
    let may : (has_snat c.self.inside.cfg.vips c.args.grant.now.range.vip c.args.grant.now.machine
    && is_leasable (lease_rules_of c.self.inside.cfg) c.args.grant.now.range)
    ≡ true = search rules in
    let held : (c.grant.new.self, granting.Held)
    ≡ granted_to c.self.inside.traffic c.args.grant.now.n c.args.grant.now.range c.args.grant.now.machine = search rules in
    let found = some_of (host_of c.self.inside.hosts c.args.grant.now.machine) own in
    let took : (c.take_range.new.self, c.take_range.new.step)
    ≡ turned (with_lists (the_view c.self.inside)) c.self.inside.cfg c.args.step.now
    (of_site (record (the_view c.self.inside).lists { hint = c.args.from })
    (take_grant c.self.inside.cfg c.self.inside.origin.boot c.args.from (site c.grant.new.self found.0)
    c.args.grant.now.seq c.args.grant.now.n)) =
    c.in_ok-take_range-in-Held.ensures found.0 found.1 in
    took
    ∙ ap (λ (t : Turn Agent). turned (with_lists (the_view c.self.inside)) c.self.inside.cfg c.args.step.now t)
    (sym (grant_new c.self.inside.cfg (the_view c.self.inside).lists c.args.from c.args.grant.now.seq c.args.grant.now.n
    c.args.grant.now.range c.args.grant.now.machine c.grant.new.self found.0 found.1 may held))
    ∙ ap (λ (r : Option Host). turned (with_lists (the_view c.self.inside)) c.self.inside.cfg c.args.step.now
    (grant_to c.self.inside.cfg (the_view c.self.inside).lists c.args.from c.args.grant.now.seq c.args.grant.now.n
    c.args.grant.now.range r)) (sym found.1)
    ∙ ap (λ (x : Core). turned (with_lists x) x.config c.args.step.now
    (grant_to x.config x.lists c.args.from c.args.grant.now.seq c.args.grant.now.n c.args.grant.now.range
    (host_of x.lists.hosts c.args.grant.now.machine))) c.self.view_is
