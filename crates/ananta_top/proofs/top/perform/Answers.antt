use Rattle.std.proofs.Common.{Some, rules}
use Rattle.ananta_top.specs.Node.{NodeRan}
use Rattle.ananta_top.specs.Run.{DamageIn, FirstIs, Fronts, IfServed}
use Rattle.ananta_top.specs.Words.{given, job_of}
use Rattle.ananta_top.proofs.Ran.{given_by, nothing_given}
use Rattle.ananta_top.proofs.Replayed.{fronts_given, short_for}
use Rattle.ananta_top.proofs.top.perform.Goals as goal

pub returns-in-Err-NoMemory-clause-node : goal.returns-in-Err-NoMemory-clause-node
returns-in-Err-NoMemory-clause-node g c = λ after.
    nothing_given (job_of c.args.words.now) (g.C.Clock.times c.args.clock.now) (g.H.Host.calls c.args.host.now)
    (g.K.Sink.written c.args.out.now) (given c.args.words.now (g.S.Source.left c.args.input.now))

pub returns-in-Ok-clause-first : goal.returns-in-Ok-clause-first
returns-in-Ok-clause-first g c =
    given_by (job_of c.args.words.now) c.in-Some.job (g.S.Source.left c.args.input.now) c.in-Ok.text.items
    (λ a. FirstIs c.respond.result a) (search rules) c.in-Ok.ensures.all
    (rw (c.deref.ensures.value) at c.respond.ensures.first)

pub returns-in-Ok-clause-damage : goal.returns-in-Ok-clause-damage
returns-in-Ok-clause-damage g c =
    given_by (job_of c.args.words.now) c.in-Some.job (g.S.Source.left c.args.input.now) c.in-Ok.text.items
    (λ a. DamageIn c.respond.result a) (search rules) c.in-Ok.ensures.all
    (rw (c.deref.ensures.value) at c.respond.ensures.damage)

pub returns-in-Ok-clause-node : goal.returns-in-Ok-clause-node
returns-in-Ok-clause-node g c = λ after.
    given_by (job_of c.args.words.now) c.in-Some.job (g.S.Source.left c.args.input.now) c.in-Ok.text.items
    (λ a. IfServed a (λ cfg who turns. NodeRan cfg who turns (g.C.Clock.times c.args.clock.now)
    (g.C.Clock.times c.respond.new.clock) (g.H.Host.calls c.args.host.now) (g.H.Host.calls c.respond.new.host)
    (g.K.Sink.written c.args.out.now) (g.K.Sink.written c.respond.new.out) c.respond.result))
    (search rules) c.in-Ok.ensures.all (rw (c.deref.ensures.value) at c.respond.ensures.node)

pub returns-in-Err-NoMemory-clause-stopped : goal.returns-in-Err-NoMemory-clause-stopped
returns-in-Err-NoMemory-clause-stopped g c = λ short.
    fronts_given (job_of c.args.words.now) (g.K.Sink.written c.args.out.now)
    (given c.args.words.now (g.S.Source.left c.args.input.now))

pub returns-in-Ok-clause-stopped : goal.returns-in-Ok-clause-stopped
returns-in-Ok-clause-stopped g c = λ short.
    given_by (job_of c.args.words.now) c.in-Some.job (g.S.Source.left c.args.input.now) c.in-Ok.text.items
    (λ a. Fronts (g.K.Sink.written c.args.out.now) (g.K.Sink.written c.respond.new.out) a) (search rules)
    c.in-Ok.ensures.all
    (rw (c.deref.ensures.value) at (c.respond.ensures.stopped
    (short_for (job_of c.args.words.now) (Some c.in-Some.job) c.respond.result (search rules) short)))
