use Rattle.std.proofs.Common.{◌≡◌, inr, ℕ, true, length, List, [], arith}
use Rattle.std.specs.Prelude.{◌==◌}
use Rattle.std.proofs.lemmas.List.{nil_from_length}
use Rattle.std.proofs.lemmas.Bool.Decides.{nat_tests}
use Rattle.journal.proofs.Begin.{synced_is, open_moments, open_made, gate_stands}
use Rattle.journal.proofs.opening.open_file.Goals as goal

no_items : (bs : List (List ℕ)) → true ≡ (length bs == 0) → bs ≡ []
no_items bs is = nil_from_length bs (zero_length (length bs) is)
  where
    zero_length : (k : ℕ) → true ≡ (k == 0) → k ≡ 0
    zero_length k h = grind (arith, nat_tests)

pub returns-in_err-shut_empty-clause-moments : goal.returns-in_err-shut_empty-clause-moments
returns-in_err-shut_empty-clause-moments g c =
    let none = no_items _ c.if-not-is_empty.ensures in
    inr (open_moments (g.D.Disk.history c.args.disk.now) (g.D.Disk.history c.sync.new.self)
    (g.D.Disk.history c.load.new.disk) _ c.args.bound c.in_ok-bodies.end c.in_ok-bodies.bodies
    (synced_is _ _ c.in_ok-sync.field-0 c.in_ok-sync.ensures.kept) c.load.ensures.same c.in_ok-bodies.ensures.read
    none c.shut_empty.ensures.moments)

pub returns-clause-synced : goal.returns-clause-synced
returns-clause-synced g c =
    let none = no_items _ c.if-not-is_empty.ensures in
    open_moments (g.D.Disk.history c.args.disk.now) (g.D.Disk.history c.sync.new.self)
    (g.D.Disk.history c.load.new.disk) _ c.args.bound c.in_ok-bodies.end c.in_ok-bodies.bodies
    (synced_is _ _ c.in_ok-sync.field-0 c.in_ok-sync.ensures.kept) c.load.ensures.same c.in_ok-bodies.ensures.read
    none c.shut_empty.ensures.moments

pub returns-clause-moments : goal.returns-clause-moments
returns-clause-moments g c =
    let none = no_items _ c.if-not-is_empty.ensures in
    inr (open_moments (g.D.Disk.history c.args.disk.now) (g.D.Disk.history c.sync.new.self)
    (g.D.Disk.history c.load.new.disk) _ c.args.bound c.in_ok-bodies.end c.in_ok-bodies.bodies
    (synced_is _ _ c.in_ok-sync.field-0 c.in_ok-sync.ensures.kept) c.load.ensures.same c.in_ok-bodies.ensures.read
    none c.shut_empty.ensures.moments)

pub returns-clause-opened : goal.returns-clause-opened
returns-clause-opened g c =
    let none = no_items _ c.if-not-is_empty.ensures in
    open_made (g.D.Disk.history c.args.disk.now) (g.D.Disk.history c.sync.new.self)
    (g.D.Disk.history c.load.new.disk) _ c.args.bound c.in_ok-bodies.end c.in_ok-bodies.bodies
    (synced_is _ _ c.in_ok-sync.field-0 c.in_ok-sync.ensures.kept) c.load.ensures.same c.in_ok-bodies.ensures.read
    none c.shut_empty.ensures.moments c.in_ok-shut_empty.ensures.made

pub returns-clause-stands : goal.returns-clause-stands
returns-clause-stands g c = gate_stands c.args.bound (g.D.Disk.history c.shut_empty.new.disk)
    c.in_ok-shut_empty.ensures.made
