use Rattle.std.proofs.Common.{◌≡◌, drop, find, map}
use Rattle.plain_schedule.specs.Packets.{eight, is_free, places, through}
use Rattle.plain_schedule.proofs.choice.free_in.Given as goal

abbrev pub invariant-loop-i : goal.invariant-loop-i
invariant-loop-i l =
    find (is_free l.table l.opened) (map (through l.row l.key) (drop l.i places)) ≡ find (is_free l.table l.opened)
    (eight l.key l.row)
