use Rattle.std.proofs.Common.{rules, ◌≡◌, ◌≤◌, ◌+◌, take, length, Ok, Err, Some, None, Option, ℕ, List, [], ◌∷◌, ◌++◌, ap, subst, sym, ◌∙◌, arith}
use Rattle.std.proofs.lemmas.Result.{err_from_is_err_and}
use Rattle.std.proofs.lemmas.List.{length-take-le}
use Rattle.outside_io.specs.Disk.{History}
use Rattle.journal.specs.Journal.{journal_length}
use Rattle.journal.specs.Reading.{Finds}
use Rattle.journal.proofs.Loads.{Loading, load_next, load_end, load_fails, journal_length_push}
use Rattle.journal.proofs.reading.load.Goals as goal

pub loop-bodies-preserved : goal.loop-bodies-preserved
loop-bodies-preserved g c =
    let i = c.loop-bodies.invariant in
    let bs = c.loop-bodies.bodies in
    let n = c.in-Some.n in
    let same : g.D.Disk.history c.loop-bodies.disk ≡ g.D.Disk.history c.args.disk.now = i.same in
    let found : Finds (g.D.Disk.history c.loop-bodies.disk) c.args.bound c.loop-bodies.at c.read_record.new.room
    (Ok (Some n)) = search rules in
    let there =
    subst (λ (o : Option History). Finds o c.args.bound c.loop-bodies.at c.read_record.new.room (Ok (Some n)))
    same found in
    let copied : c.in_ok-body.body.items ≡ take n c.read_record.new.room = search rules in
    let item : c.from_vec.result ≡ take n c.read_record.new.room = c.from_vec.ensures ∙ copied in
    let pushed : c.push.new.self ≡ bs ++ take n c.read_record.new.room ∷ [] = c.in_ok-push.ensures.ok
    ∙ ap (λ (l : List ℕ). bs ++ l ∷ []) item in
    let small : n ≤ 65536 = search rules in
    let room_long : n ≤ length c.read_record.new.room =
    omega (arith, small, c.read_record.ensures.length, i.long, c.requires.room) in
    record {
      same = c.read_record.ensures.same ∙ same;
      later = omega (arith, c.read_record.ensures.later, i.later);
      long = c.read_record.ensures.length ∙ i.long;
      fits = search rules;
      end = omega (
        arith,
        i.end,
        journal_length_push bs (take n c.read_record.new.room),
        length-take-le n c.read_record.new.room room_long,
      )
          ∙ sym (ap (λ (l : List (List ℕ)). journal_length l) pushed);
      so_far = subst (λ (l : List (List ℕ)). Loading (g.D.Disk.history c.args.disk.now) c.args.bound
          (c.loop-bodies.at + (n + 5)) l) (sym pushed)
          (load_next _ c.args.bound c.loop-bodies.at n bs c.read_record.new.room room_long i.so_far there);
    }

pub returns-clause-read : goal.returns-clause-read
returns-clause-read g c =
    let i = c.loop-bodies.invariant in
    let found : Finds (g.D.Disk.history c.loop-bodies.disk) c.args.bound c.loop-bodies.at c.read_record.new.room
    (Ok None) = search rules in
    let there =
    subst (λ (o : Option History). Finds o c.args.bound c.loop-bodies.at c.read_record.new.room (Ok None)) i.same
    found in
    load_end _ c.args.bound c.loop-bodies.at c.loop-bodies.bodies c.read_record.new.room i.so_far there

pub returns-in_err-n-clause-fault : goal.returns-in_err-n-clause-fault
returns-in_err-n-clause-fault g c =
    let i = c.loop-bodies.invariant in
    let q = err_from_is_err_and c.from_residual-in_err-n.result c.from_residual-in_err-n.ensures.1 in
    rw (q.1, q.2)
    (load_fails (g.D.Disk.history c.args.disk.now) (g.D.Disk.history c.loop-bodies.disk) c.args.bound
    c.loop-bodies.at (g.D.Disk.faults c.args.disk.now) (g.D.Disk.faults c.loop-bodies.disk)
    (g.D.Disk.faults c.read_record.new.disk)
    c.loop-bodies.bodies c.read_record.new.room c.in_err-n.field-0.0 i.same i.so_far c.in_err-n.ensures.found i.later
    c.read_record.ensures.later (λ is. c.in_err-n.ensures.cause (ap Err is)))
