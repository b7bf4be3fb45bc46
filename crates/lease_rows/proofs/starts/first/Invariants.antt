use Rattle.std.proofs.Common.{◌≡◌, ◌<◌, ◌+◌, ◌*◌, ◌^◌, drop, length}
use Rattle.lease_rows.specs.Starts.{first_flag}
use Rattle.lease_rows.proofs.starts.first.Given as goal

abbrev pub invariant-loop-flag : goal.invariant-loop-flag
invariant-loop-flag l = record {
  rest : first_flag l.step l.at (drop l.flag-index l.flags) ≡ first_flag l.step l.place l.flags;
  room : l.at + l.step * length (drop l.flag-index l.flags) < 2 ^ 32;
}
