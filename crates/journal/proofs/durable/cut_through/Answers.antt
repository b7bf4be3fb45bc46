use Rattle.std.proofs.Common.{◌≡◌, ◌≤◌, length, ℕ, Option, Some, subst, sym, arith, refl}
use Rattle.outside_io.specs.Disk.{History, Within, shortened}
use Rattle.journal.specs.Durable.{file_in, Cut}
use Rattle.journal.proofs.Images.{image_cut, cut_done}
use Rattle.journal.proofs.Moments.{Serves, moved, moved_synced}
use Rattle.journal.proofs.durable.cut_through.Goals as goal

serves : (n : ℕ) (old : Option History) → Within old n → (t : History) → old ≡ Some t
    → Serves (shortened n) (Cut n (file_in old)) t.now.bytes
serves n old place t is =
    let le : n ≤ length t.now.bytes = subst (λ (o : Option History). Within o n) is place in
    subst (λ (o : Option History). Serves (shortened n) (Cut n (file_in o)) t.now.bytes) (sym is) record {
      before = record { front = refl; no_shorter = le; no_longer = omega arith };
      images = λ c im. image_cut n t.now.bytes le c im;
      done = cut_done n t.now.bytes le;
    }

pub returns-in_err-cut-clause-moments : goal.returns-in_err-cut-clause-moments
returns-in_err-cut-clause-moments g c =
    moved _ _ _ _ _ (serves c.args.len _ c.requires.place) c.requires.still c.cut.ensures.cut

pub returns-clause-moments : goal.returns-clause-moments
returns-clause-moments g c =
    moved_synced _ _ _ _ _ _ _ (serves c.args.len _ c.requires.place) c.requires.still c.in_ok-cut.ensures.cut
    c.sync.ensures.kept
