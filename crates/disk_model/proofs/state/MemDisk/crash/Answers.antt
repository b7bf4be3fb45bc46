use Rattle.std.proofs.Common.{rules, ◌≡◌, ◌||◌, List, ℕ, [], length, take, drop, reverse, min, refl, sym, subst, ap, ◌∙◌, arith}
use Rattle.std.specs.Prelude.{nat_le}
use Rattle.std.specs.List.{list_any}
use Rattle.std.proofs.lemmas.List.{take_all, take_at}
use Rattle.std.specs.Vec.{with_items}
use Rattle.disk_model.specs.declared.state.Undo.{Undo}
use Rattle.outside_io.specs.Disk.{FileState, IsImage, kept, is_in}
use Rattle.disk_model.specs.Disks.{DiskState}
use Rattle.disk_model.specs.Overlays.{IsLaid}
use Rattle.disk_model.specs.Picked.{picked, picked_length}
use Rattle.disk_model.specs.States.{state_of, pasts}
use Rattle.disk_model.proofs.Pick.{picked_is_image, picked_from_laid, length-picked}
use Rattle.disk_model.proofs.state.MemDisk.crash.Goals as goal

pub returns-clause-left : goal.returns-clause-left
returns-clause-left c =
    let d = c.self.inside in
    let pick = c.args.pick.now in
    let f = state_of d in
    let left : c.min-left.result ≡ picked_length f pick = search rules in
    let short : c.truncate.new.self.items ≡ take c.min-left.result d.buffer.items = search rules in
    let spans : c.deref.result.now ≡ d.unsynced.items = search rules in
    let cut : c.deref_mut.result.now ≡ take (picked_length f pick) d.buffer.items = c.deref_mut.ensures.value ∙ short
    ∙ ap (λ k. take k d.buffer.items) left in
    let end : c.min.result ≡ min d.len (picked_length f pick) = c.min.ensures ∙ ap (λ k. min d.len k) left in
    let laid =
    subst (λ l. IsLaid (λ k. list_any (is_in k) d.unsynced.items || nat_le (min d.len (picked_length f pick)) k)
    pick l c.lay.new.bytes) cut
    (subst (λ l. IsLaid (λ k. list_any (is_in k) l || nat_le (min d.len (picked_length f pick)) k) pick
    c.deref_mut.result.now c.lay.new.bytes) spans
    (subst (λ n. IsLaid (λ k. list_any (is_in k) c.deref.result.now || nat_le n k) pick c.deref_mut.result.now
    c.lay.new.bytes) end c.lay.ensures)) in
    let is : c.lay.new.bytes ≡ picked f pick =
    picked_from_laid f pick d.buffer.items c.lay.new.bytes d.len refl c.self.invariant.high refl laid in
    let whole : (with_items c.truncate.new.self c.lay.new.bytes).items ≡ c.lay.new.bytes =
    take_at c.lay.new.bytes (drop (length c.lay.new.bytes) c.truncate.new.self.items) c.truncate.new.self.len
    (search rules) in
    let buffer = whole ∙ is in
    let long : c.min-left.result ≡ length (picked f pick) = left ∙ sym (length-picked f pick) in
    let bytes = ap (λ (l : List ℕ). take c.min-left.result l) buffer
    ∙ take_all c.min-left.result (picked f pick) (omega (arith, long)) in
    let none : c.clear.new.self.items ≡ [] = search rules in
    let nothing : c.clear-2.new.self.items ≡ [] = search rules in
    let now : FileState =
    record {
      bytes = take c.min-left.result (with_items c.truncate.new.self c.lay.new.bytes).items;
      unsynced = c.clear.new.self.items;
      least = c.min-left.result;
      greatest = length (with_items c.truncate.new.self c.lay.new.bytes).items;
    } in
    let left_is : record { now = now; past = pasts (reverse c.clear-2.new.self.items) now }
    ≡ record { now = kept (picked f pick); past = [] }
    = λ i. record {
      now = record {
        bytes = bytes i;
        unsynced = none i;
        least = long i;
        greatest = ap (λ (l : List ℕ). length l) buffer i;
      };
      past = ap (λ (us : List Undo). pasts (reverse us) now) nothing i;
    } in
    subst (λ (s : DiskState). record { now = now; past = pasts (reverse c.clear-2.new.self.items) now }
    ≡ record { now = kept (picked s.history.now pick); past = [] }) c.self.view_is left_is

pub returns-clause-image : goal.returns-clause-image
returns-clause-image c =
    let image = picked_is_image (state_of c.self.inside) c.args.pick.now
    (omega (arith, c.self.invariant.low, c.self.invariant.high)) in
    subst (λ (s : DiskState). IsImage s.history.now (picked s.history.now c.args.pick.now)) c.self.view_is image
