-- What the code answers, by what is to be printed.
use Rattle.std.specs.Prelude.{◌≡◌, ℕ, List, Result, Ok, Err, String, string_bytes}
use Rattle.std.specs.declared.alloc.Global.{Global}
use Rattle.plain_schedule.specs.declared.replay.PlainFault.{PlainFault}
use Rattle.plain_schedule.specs.declared.replay.PlainFault.TheVariants.{Line, NoMemory}

abbrev pub Fails : PlainFault → Result (List ℕ) ℕ → Type 0
Fails (Line n) wanted = wanted ≡ Err n
Fails NoMemory wanted = Unit {0}

-- this text is printed, or this is the first bad line, unless memory ran out
abbrev pub Prints : Result (String Global) PlainFault → Result (List ℕ) ℕ → Type 0
Prints (Ok text) wanted = wanted ≡ Ok (string_bytes text)
Prints (Err fault) wanted = Fails fault wanted

-- the same where the text stands on an output
abbrev pub Plays : Result (Unit {0}) PlainFault → List ℕ → Result (List ℕ) ℕ → Type 0
Plays (Ok done) text wanted = wanted ≡ Ok text
Plays (Err fault) text wanted = Fails fault wanted
