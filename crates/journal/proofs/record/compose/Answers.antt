use Rattle.std.proofs.Common.{rules, ◌≡◌, ◌≤◌, ◌<◌, ◌+◌, ◌-◌, ◌∷◌, [], ◌++◌, length, take, drop, ℕ, List, set, refl, ap, ◌∙◌, sym, arith, length-append, length-drop}
use Rattle.std.proofs.lemmas.List.{take_more_set, take_at, length-take-le}
use Rattle.std.proofs.lemmas.Slice.{take-put_mid}
use borrow.Rule.Slice.PartMut.{put_mid, post_of}
use Rattle.journal.specs.File.{size_bytes}
use Rattle.journal.proofs.Records.{length-size_bytes}
use Rattle.journal.proofs.record.compose.Goals as goal

written : (n gate : ℕ) (old room body mid : List ℕ) → n ≡ length body → n + 5 ≤ length old
    → room ≡ size_bytes n ++ drop 4 old → mid ≡ body
    → take (n + 5) (set (put_mid 4 (n + 4 - 4) room mid) (n + 4) gate) ≡ size_bytes n ++ body ++ gate ∷ []
written n gate old room body mid is fits sized copied =
    let long : length room ≡ length old =
    omega (
      arith,
      fits,
      ap length sized,
      length-append (size_bytes n) (drop 4 old),
      length-size_bytes n,
      length-drop 4 old,
    ) in
    let mid_long : length mid ≡ n = ap length copied ∙ sym is in
    let all_long : n + 4 < length (put_mid 4 (n + 4 - 4) room mid) =
    omega (
      arith,
      fits,
      long,
      mid_long,
      length-append (take 4 room) (mid ++ post_of 4 (n + 4 - 4) room),
      length-append mid (post_of 4 (n + 4 - 4) room),
      length-take-le 4 room (omega (arith, fits, long)),
      length-drop 4 room,
      length-drop (n + 4 - 4) (drop 4 room),
    ) in
    ap (λ k. take k (set (put_mid 4 (n + 4 - 4) room mid) (n + 4) gate)) (five n)
    ∙ take_more_set (put_mid 4 (n + 4 - 4) room mid) (n + 4) gate all_long
    ∙ ap (λ (l : List ℕ). l ++ gate ∷ [])
    (take-put_mid 4 (n + 4 - 4) room mid (n + 4) (omega (arith, mid_long)) (omega (arith, fits, long)))
    ∙ ap (λ (l : List ℕ). take 4 l ++ mid ++ gate ∷ []) sized
    ∙ ap (λ (l : List ℕ). l ++ mid ++ gate ∷ []) (take_at (size_bytes n) (drop 4 old) 4 (length-size_bytes n))
    ∙ ap (λ (l : List ℕ). size_bytes n ++ l ++ gate ∷ []) copied
  where
    five : (k : ℕ) → k + 5 ≡ k + 4 + 1
    five k = omega arith

pub returns-clause-bytes : goal.returns-clause-bytes
returns-clause-bytes c =
    let copied : c.copy_from_slice.new.self ≡ c.args.body.now = search rules in
    written (length c.args.body.now) c.args.gate c.args.room.now c.write_size.new.room c.args.body.now
    c.copy_from_slice.new.self refl c.requires.room c.write_size.ensures copied
