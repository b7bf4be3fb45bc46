use Rattle.std.proofs.Common.{◌≡◌, ◌≤◌, ◌+◌, ◌++◌, drop, length}
use Rattle.lease_rows.specs.Effects.{cleared_effects}
use Rattle.lease_rows.proofs.effects.tell_cleared.Given as goal

abbrev pub invariant-loop-entry : goal.invariant-loop-entry
invariant-loop-entry l = record {
  told : l.effects.effects ++ cleared_effects l.agent l.boot (drop l.entry-index l.entries) ≡ l.initial.effects.effects ++ cleared_effects l.agent l.boot l.entries;
  room : l.initial.effects.room + length (cleared_effects l.agent l.boot (drop l.entry-index l.entries)) ≤ l.effects.room + length (cleared_effects l.agent l.boot l.entries);
}
