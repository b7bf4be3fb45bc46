use Rattle.std.proofs.Common.{◌≡◌, ◌≤◌, drop}
use Rattle.address_text.specs.Numbers.{number_after}
use Rattle.address_text.proofs.number.read_digits.Given as goal

abbrev pub invariant-loop-byte : goal.invariant-loop-byte
invariant-loop-byte l =
    record {
      same : number_after l.limit l.number (drop l.byte-index l.text) ≡ number_after l.limit 0 l.text;
      within : l.number ≤ l.limit;
    }
