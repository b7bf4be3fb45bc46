use Rattle.std.proofs.Common.{◌≡◌, take}
use Rattle.std.specs.List.{flat_map}
use Rattle.node_spec.specs.Steps.{outgoing, with_sends}
use Rattle.node_spec.specs.Sends.{tell_each}
use Rattle.node_spec.proofs.telling.say_each.Given as goal

abbrev pub invariant-loop-target : goal.invariant-loop-target
invariant-loop-target l =
    l.step ≡ with_sends (flat_map (outgoing l.fn.cfg) (tell_each (take l.target-index l.targets) l.m)) l.fn.step
