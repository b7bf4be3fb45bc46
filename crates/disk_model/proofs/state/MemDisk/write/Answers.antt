use Rattle.std.proofs.Common.{rules, subst, sym, ◌≡◌, ◌≤◌, ◌+◌, ◌-◌, List, ℕ, [], ◌∷◌, ◌++◌, length, drop, take, min, max, reverse, ap, ◌∙◌, arith}
use Rattle.std.proofs.lemmas.List.{length-take-le}
use Rattle.outside_io.specs.Disk.{FileState, wrote, then}
use Rattle.outside_io.specs.declared.disk.Span.{Span}
use Rattle.disk_model.specs.declared.state.Replaced.TheVariants.{Bytes}
use Rattle.disk_model.specs.declared.state.Undo.{Undo}
use Rattle.disk_model.specs.Disks.{DiskState}
use Rattle.disk_model.specs.States.{state_of, disk_of, before, pasts}
use Rattle.disk_model.proofs.Back.{history_next, ranges_back, bytes_back, replaced_in_file, written_in_file, written_long}
use Rattle.disk_model.proofs.state.MemDisk.write.Goals as goal

pub returns-clause-written : goal.returns-clause-written
returns-clause-written c =
    let d = c.self.inside in
    let b = d.buffer.items in
    let at = c.args.at in
    let piece = c.args.piece.now in
    let high = c.self.invariant.high in
    let file_inside : at ≤ length (take d.len b) =
    subst (λ (s : DiskState). at ≤ length s.history.now.bytes) (sym c.self.view_is) c.requires in
    let in_file : at ≤ d.len = omega (arith, file_inside, length-take-le d.len b high) in
    let s : Span = record { from = at; to = at + length piece } in
    let u : Undo =
    record {
      replaced = Bytes at (length piece) c.from_vec-old.result;
      least = d.least;
      greatest = c.len-greatest.result;
    } in
    let inside : at ≤ length b = omega (arith, in_file, high) in
    let pushed : c.push-2.new.self.items ≡ d.undo.items ++ u ∷ [] = search rules in
    let put : c.put.new.bytes.items ≡ take at b ++ piece ++ drop (at + length piece) b = search rules in
    let ranges : c.push.new.self.items ≡ d.unsynced.items ++ s ∷ [] = search rules in
    let long : c.max-self-inside.result ≡ max d.len (at + length piece) = search rules in
    let greatest : c.len-greatest.result ≡ length b = search rules in
    let old : c.from_vec-old.result ≡ take (min (length piece) (d.len - at)) (drop at b) = search rules in
    let replaced = old ∙ replaced_in_file b at d.len (length piece) in_file high in
    let bytes = ap (λ k. take k c.put.new.bytes.items) long
    ∙ ap (λ (l : List ℕ). take (max d.len (at + length piece)) l) put
    ∙ written_in_file b piece at d.len in_file high in
    let greater = ap (λ (l : List ℕ). length l) put ∙ written_long b piece at inside in
    let new : FileState =
    record {
      bytes = take c.max-self-inside.result c.put.new.bytes.items;
      unsynced = c.push.new.self.items;
      least = d.least;
      greatest = length c.put.new.bytes.items;
    } in
    let is : new ≡ wrote at piece (state_of d)
    = λ i. record { bytes = bytes i; unsynced = ranges i; least = d.least; greatest = greater i } in
    let back : before u (wrote at piece (state_of d)) ≡ state_of d
    = λ i. record {
      bytes = bytes_back (take d.len b) piece c.from_vec-old.result at file_inside replaced i;
      unsynced = ranges_back d.unsynced.items s i;
      least = d.least;
      greatest = greatest i;
    } in
    let now = history_next d.undo.items c.push-2.new.self.items u (state_of d) _ pushed
    (ap (λ (x : FileState). before u x) is ∙ back)
    ∙ ap (λ (x : FileState). then x (disk_of d).history) is in
    subst (λ (s : DiskState). record { now = new; past = pasts (reverse c.push-2.new.self.items) new }
    ≡ then (wrote at piece s.history.now) s.history) c.self.view_is now
