use Rattle.std.proofs.Common.{◌≡◌, ◌≤◌, length, ℕ, List, Option, Some, subst, sym, arith, refl}
use Rattle.outside_io.specs.Disk.{History, Within, wrote}
use Rattle.journal.specs.Durable.{file_in, Torn}
use Rattle.journal.proofs.Images.{image_wrote, torn_done}
use Rattle.journal.proofs.Moments.{Serves, moved, moved_synced}
use Rattle.journal.proofs.durable.write_through.Goals as goal

serves : (at : ℕ) (bytes : List ℕ) (old : Option History) → Within old at → (t : History) → old ≡ Some t
    → Serves (wrote at bytes) (Torn at (length bytes) (file_in old)) t.now.bytes
serves at bytes old place t is =
    let le : at ≤ length t.now.bytes = subst (λ (o : Option History). Within o at) is place in
    subst (λ (o : Option History). Serves (wrote at bytes) (Torn at (length bytes) (file_in o)) t.now.bytes) (sym is)
    record {
      before = record { front = refl; back = refl; no_shorter = omega arith; no_longer = omega arith };
      images = λ c im. image_wrote at bytes t.now.bytes le c im;
      done = torn_done at bytes t.now.bytes le;
    }

pub returns-in_err-write_at-clause-moments : goal.returns-in_err-write_at-clause-moments
returns-in_err-write_at-clause-moments g c =
    moved _ _ _ _ _ (serves c.args.at c.args.bytes.now _ c.requires.place) c.requires.still c.write_at.ensures.written

pub returns-clause-moments : goal.returns-clause-moments
returns-clause-moments g c =
    moved_synced _ _ _ _ _ _ _ (serves c.args.at c.args.bytes.now _ c.requires.place) c.requires.still
    c.in_ok-write_at.ensures.written c.sync.ensures.kept
