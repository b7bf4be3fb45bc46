use Rattle.std.proofs.Common.{rules, ◌≡◌, ◌+◌, List, ℕ, Option, Some, [], map, subst, ◌∙◌}
use Rattle.node_core.specs.Sending.{Handed}
use Rattle.node_spec.specs.Bodies.{Spells}
use Rattle.node_spec.specs.Steps.{input_of}
use Rattle.world_spec.specs.Acts.{log_length}
use Rattle.world_nodes.specs.Disks.{as_taken, entry_of, outbox_sent}
use Rattle.world_nodes.proofs.Places.{all_kept, holds_next, length_next, told_is}
use Rattle.world_nodes.proofs.site.step_node.Goals as goal

pub returns-clause-told : goal.returns-clause-told
returns-clause-told g c =
    let counts : c.in-Some.learned ≡ c.args.learned + log_length (entry_of c.in-Ok.report.entry) = search rules in
    let old : outbox_sent c.new-outbox.result ≡ Some [] = search rules in
    let new : outbox_sent c.handle.new.link ≡ Some (map as_taken c.in_ok-into_sent.field-0) = search rules in
    let handed : Handed (outbox_sent c.new-outbox.result) (outbox_sent c.handle.new.link)
    (g.C.Core.step c.args.node.now.core (input_of c.args.input.now)).1.sends c.in-Ok.report.failed = search rules in
    told_is (g.C.Core.step c.args.node.now.core (input_of c.args.input.now)).1 c.in-Ok.report.entry
    (g.C.Core.written c.args.node.now.core (input_of c.args.input.now)) c.args.learned c.in-Some.learned
    c.in-Ok.report.acts c.in-Ok.report.notes c.in_ok-into_sent.field-0 c.in-Ok.ensures.written counts
    c.in-Ok.ensures.acts c.in-Ok.ensures.notes
    (all_kept (outbox_sent c.new-outbox.result) (outbox_sent c.handle.new.link) c.in_ok-into_sent.field-0
    (g.C.Core.step c.args.node.now.core (input_of c.args.input.now)).1.sends c.in-Ok.report.failed old new handed)

pub returns-clause-up : goal.returns-clause-up
returns-clause-up g c =
    let spells : Spells (g.C.Core.step c.args.node.now.core (input_of c.args.input.now)).1.entry
    (g.C.Core.written c.args.node.now.core (input_of c.args.input.now)) =
    subst (λ (b : Option (List ℕ)). Spells b (g.C.Core.written c.args.node.now.core (input_of c.args.input.now)))
    c.in-Ok.ensures.entry c.in-Ok.ensures.written in
    record {
      ready = c.in-Ok.ensures.live;
      bound = c.in-Ok.ensures.bound ∙ c.requires.up.bound;
      disk = holds_next c.args.node.now.journal.first c.handle.new.self.journal.first c.args.node.now.journal.bound
          (g.C.Core.step c.args.node.now.core (input_of c.args.input.now)).1.entry
          (g.C.Core.written c.args.node.now.core (input_of c.args.input.now)) c.requires.up.bound c.requires.up.disk spells
          c.in-Ok.ensures.reads c.in-Ok.ensures.durable;
      length = length_next c.args.node.now.journal.first c.handle.new.self.journal.first c.args.node.now.journal.bound
          c.args.node.now.journal.length c.handle.new.self.journal.length
          (g.C.Core.step c.args.node.now.core (input_of c.args.input.now)).1.entry
          (g.C.Core.written c.args.node.now.core (input_of c.args.input.now)) c.requires.up.bound c.requires.up.disk spells
          c.in-Ok.ensures.reads c.requires.up.length c.in-Ok.ensures.length;
    }
