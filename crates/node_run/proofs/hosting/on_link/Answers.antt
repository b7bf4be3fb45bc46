use Rattle.node_run.specs.Serving.{state_of}
use Rattle.node_run.proofs.Hosts.{goes_served, goes_unbound, serves_or}
use Rattle.node_run.proofs.hosting.on_link.Goals as goal

pub returns-in-Err-clause-calls : goal.returns-in-Err-clause-calls
returns-in-Err-clause-calls g c =
    goes_unbound g.C.Core.step 1073741824 c.args.turns c.args.at.now
    (state_of g.H.D.Disk.history c.args.node.now) (g.K.Clock.times c.args.clock.now)
    (g.H.Host.calls c.args.host.now) (g.H.Host.calls c.bind.new.self) c.in-Err.ensures.told

pub returns-in-Ok-clause-calls : goal.returns-in-Ok-clause-calls
returns-in-Ok-clause-calls g c =
    goes_served g.C.Core.step 1073741824 c.args.turns c.args.at.now
    (state_of g.H.D.Disk.history c.args.node.now) (g.K.Clock.times c.args.clock.now)
    (g.H.Host.calls c.args.host.now) (g.H.Host.calls c.bind.new.self) (g.H.Host.calls c.back_link.new.self)
    (g.K.Clock.times c.serve-served.new.clock) (state_of g.H.D.Disk.history c.serve-served.new.node)
    (g.H.L.Link.answers c.in-Ok.link) (g.H.L.Link.answers c.serve-served.new.link)
    (g.H.L.Link.sent c.in-Ok.link) (g.H.L.Link.sent c.serve-served.new.link)
    c.serve-served.result c.of_served.result c.of_served.ensures c.in-Ok.ensures.told c.back_link.ensures.told
    c.in-Ok.ensures.new.no_answer c.in-Ok.ensures.new.none_sent
    (serves_or g.C.Core.step 1073741824 c.args.node.now.journal.bound c.args.turns
    (record {
      times = g.K.Clock.times c.args.clock.now;
      answers = g.H.L.Link.answers c.in-Ok.link;
      sent = g.H.L.Link.sent c.in-Ok.link;
      state = state_of g.H.D.Disk.history c.args.node.now;
    })
    (record {
      times = g.K.Clock.times c.serve-served.new.clock;
      answers = g.H.L.Link.answers c.serve-served.new.link;
      sent = g.H.L.Link.sent c.serve-served.new.link;
      state = state_of g.H.D.Disk.history c.serve-served.new.node;
    })
    c.serve-served.result c.requires.bound c.serve-served.ensures.turns c.serve-served.ensures.taken
    c.serve-served.ensures.served c.serve-served.ensures.stops)
