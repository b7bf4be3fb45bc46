use Rattle.std.proofs.Common.{rules, ◌≡◌, ◌≤◌, ◌-◌, ℕ, [], ◌∷◌, ◌++◌, length, drop, take, min, reverse, subst, sym, ap, ◌∙◌, arith}
use Rattle.std.proofs.lemmas.List.{length-take-le, take-take}
use Rattle.outside_io.specs.Disk.{FileState, shortened, then}
use Rattle.outside_io.specs.declared.disk.Span.{Span}
use Rattle.disk_model.specs.declared.state.Replaced.TheVariants.{Bytes}
use Rattle.disk_model.specs.declared.state.Undo.{Undo}
use Rattle.disk_model.specs.Disks.{DiskState}
use Rattle.disk_model.specs.States.{state_of, disk_of, before, pasts}
use Rattle.disk_model.proofs.Back.{history_next, ranges_back, behind, cut_back}
use Rattle.disk_model.proofs.state.MemDisk.shorten.Goals as goal

pub returns-clause-cut : goal.returns-clause-cut
returns-clause-cut c =
    let d = c.self.inside in
    let b = d.buffer.items in
    let n = c.args.len in
    let long : length (take d.len b) ≡ d.len = length-take-le d.len b c.self.invariant.high in
    let file_inside : n ≤ length (take d.len b) =
    subst (λ (s : DiskState). n ≤ length s.history.now.bytes) (sym c.self.view_is) c.requires in
    let in_file : n ≤ d.len = omega (arith, file_inside, long) in
    let s : Span = record { from = n; to = d.len } in
    let u : Undo = record { replaced = Bytes n 0 c.from_vec-old.result; least = d.least; greatest = c.len.result } in
    let pushed : c.push-2.new.self.items ≡ d.undo.items ++ u ∷ [] = search rules in
    let ranges : c.push.new.self.items ≡ d.unsynced.items ++ s ∷ [] = search rules in
    let least : c.min-self-inside.result ≡ min d.least n = search rules in
    let greatest : c.len.result ≡ length b = search rules in
    let old : c.from_vec-old.result ≡ take (d.len - n) (drop n b) = search rules in
    let taken = old ∙ sym (behind b n d.len in_file) in
    let new : FileState =
    record {
      bytes = take n b;
      unsynced = c.push.new.self.items;
      least = c.min-self-inside.result;
      greatest = length b;
    } in
    let is : new ≡ shortened n (state_of d)
    = λ i. record {
      bytes = sym (take-take n d.len b in_file) i;
      unsynced = (ranges ∙ ap (λ (k : ℕ). d.unsynced.items ++ record { from = n; to = k } ∷ []) (sym long)) i;
      least = least i;
      greatest = length b;
    } in
    let back : before u (shortened n (state_of d)) ≡ state_of d
    = λ i. record {
      bytes = cut_back (take d.len b) c.from_vec-old.result n file_inside taken i;
      unsynced = ranges_back d.unsynced.items (record { from = n; to = length (take d.len b) }) i;
      least = d.least;
      greatest = greatest i;
    } in
    let now = history_next d.undo.items c.push-2.new.self.items u (state_of d) _ pushed
    (ap (λ (x : FileState). before u x) is ∙ back)
    ∙ ap (λ (x : FileState). then x (disk_of d).history) is in
    subst (λ (s : DiskState). record { now = new; past = pasts (reverse c.push-2.new.self.items) new }
    ≡ then (shortened n s.history.now) s.history) c.self.view_is now
