use Rattle.std.proofs.Common.{rules, ◌≡◌, ◌≤◌, ℕ, List, ◌++◌, length, take, drop, refl, arith, length-append}
use Rattle.std.proofs.lemmas.List.{length-take-le}
use Rattle.journal.proofs.Begin.{still_moments, journal_length_some}
use Rattle.journal.proofs.journal.Journal.open.Goals as goal

kept_room : (len : ℕ) (new old : List ℕ) → len ≡ length old → length new ≡ length old → 65541 ≤ length old
    → 65541 ≤ length (take len (new ++ drop (length new) old))
kept_room len new old whole same room =
    omega (
      arith,
      whole,
      same,
      room,
      length-append new (drop (length new) old),
      length-take-le len (new ++ drop (length new) old)
          (omega (arith, whole, same, length-append new (drop (length new) old))),
    )

pub invariant_of-result : goal.invariant_of-result
invariant_of-result g c = record {
  fits = kept_room c.in-Ok.room.len c.open_file.new.room c.in-Ok.room.items (search rules) (search rules)
      (search rules);
  begun = omega (arith, c.in-Ok-open_file.ensures.end, journal_length_some c.in-Ok-open_file.bodies);
  stands = λ live. c.in-Ok-open_file.ensures.stands;
}

pub returns-in-Ok-open_file-clause-still : goal.returns-in-Ok-open_file-clause-still
returns-in-Ok-open_file-clause-still g c =
    λ still. still_moments c.args.bound (g.D.Disk.history c.args.a) (g.D.Disk.history c.open_file.new.disk) still
    c.open_file.ensures.moments

pub returns-in-Err-open_file-clause-still : goal.returns-in-Err-open_file-clause-still
returns-in-Err-open_file-clause-still g c =
    λ still. still_moments c.args.bound (g.D.Disk.history c.args.a) (g.D.Disk.history c.open_file.new.disk) still
    c.open_file.ensures.moments
