use Rattle.std.proofs.Common.{◌≡◌, ◌++◌, take, string_bytes}
use Rattle.std.specs.List.{flat_map}
use Rattle.plain_schedule.specs.Schedule.{effect_text}
use Rattle.plain_schedule.proofs.state.print_effects.Given as goal

abbrev pub invariant-loop-effect : goal.invariant-loop-effect
invariant-loop-effect l =
    string_bytes l.out ≡ string_bytes l.fn.out ++ flat_map effect_text (take l.effect-index l.effects)
