use Rattle.std.proofs.Common.{◌≡◌, ◌+◌, true, drop, take, Option, Some, None, List, ℕ, option_map}
use Rattle.journal.specs.Journal.{journal_length}
use Rattle.node_spec.specs.Bodies.{entries_of}
use Rattle.node_spec.specs.Boots.{boot_of}
use Rattle.node_disk.specs.Judging.{foreign_from, strange_from}
use Rattle.node_disk.proofs.judging.look.Given as goal

-- the entry that was found, or the first that is found in the rest
abbrev pub found : Option (List ℕ) → Option (List ℕ) → Option (List ℕ)
found None rest = rest
found (Some entry) rest = Some entry

abbrev pub invariant-loop-body : goal.invariant-loop-body
invariant-loop-body l = record {
  rest : foreign_from l.who l.at (drop l.body-index l.bodies) ≡ foreign_from l.who 0 l.bodies;
  fits : l.at + journal_length (drop l.body-index l.bodies) ≡ l.end;
  strange : found (option_map (λ b. b.now) l.strange) (strange_from l.who l.first (drop l.body-index l.bodies))
      ≡ strange_from l.who true l.bodies;
  boot : l.boot ≡ boot_of (entries_of (take l.body-index l.bodies));
}
