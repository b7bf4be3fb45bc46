-- What a crash may leave of a file with nothing pending, after one write and after one cut.
use Rattle.std.proofs.Common.{◌≡◌, ◌<◌, ◌≤◌, ℕ, ◌+◌, max, false, List, ◌++◌, length, get_or, take, drop, refl, sym, ◌∙◌, ap, arith, length-append, length-drop}
use Rattle.std.proofs.lemmas.List.{take_at, drop_at, take-append-le, length-take-le, ext_get_or, get_or-take, get_or-drop, take_all}
use Rattle.std.proofs.lemmas.Bool.Decides.{nat_tests}
use Rattle.outside_io.specs.Disk.{IsImage, is_unsynced, kept, wrote, shortened}
use Rattle.journal.specs.Durable.{over, Torn, Cut}

pub image_kept : (file c : List ℕ) → IsImage (kept file) c → c ≡ file
image_kept file c im =
    let long : length c ≡ length file = omega (arith, im.no_shorter, im.no_longer) in
    ext_get_or 0 c file long (λ i lt. im.stays i (omega (arith, long, lt)) lt refl)

module _ (at : ℕ) (bytes file : List ℕ) (le : at ≤ length file) where
  n : ℕ
  n = length bytes

  both_long : length (take at file ++ bytes) ≡ at + length bytes
  both_long = omega (arith, length-take-le at file le, length-append (take at file) bytes)

  pub take-over : take at (over at bytes file) ≡ take at file
  take-over =
      take-append-le at (take at file ++ bytes) (drop (at + length bytes) file) (omega (arith, both_long))
      ∙ take_at (take at file) bytes at (length-take-le at file le)

  pub drop-over : drop (at + length bytes) (over at bytes file) ≡ drop (at + length bytes) file
  drop-over = drop_at (take at file ++ bytes) (drop (at + length bytes) file) (at + length bytes) both_long

  pub length-over : length (over at bytes file) ≡ max (length file) (at + length bytes)
  length-over =
      omega (
        arith,
        both_long,
        length-append (take at file ++ bytes) (drop (at + length bytes) file),
        length-drop (at + length bytes) file,
      )

  pub torn_done : Torn at (length bytes) file (over at bytes file)
  torn_done =
      record {
        front = take-over;
        back = drop-over;
        no_shorter = omega (arith, length-over);
        no_longer = omega (arith, length-over);
      }

  below : (i : ℕ) → i < at → is_unsynced (wrote at bytes (kept file)) i ≡ false
  below i lt = grind (arith, nat_tests)

  above : (i : ℕ) → at + length bytes ≤ i → is_unsynced (wrote at bytes (kept file)) i ≡ false
  above i le = grind (arith, nat_tests)

  pub image_wrote : (c : List ℕ) → IsImage (wrote at bytes (kept file)) c → Torn at (length bytes) file c
  image_wrote c im = record { front = front; back = back; no_shorter = im.no_shorter; no_longer = im.no_longer }
    where
      longer : at ≤ length c
      longer = omega (arith, le, im.no_shorter)

      front : take at c ≡ take at file
      front = ext_get_or 0 (take at c) (take at file) (length-take-le at c longer ∙ sym (length-take-le at file le))
          (λ i lt.
          let small : i < at = omega (arith, lt, length-take-le at c longer) in
          get_or-take at c i 0 small
          ∙ im.stays i (omega (arith, small, le, length-over)) (omega (arith, small, longer)) (below i small)
          ∙ sym (get_or-take at (over at bytes file) i 0 small)
          ∙ ap (λ (l : List ℕ). get_or l i 0) take-over)

      back : drop (at + length bytes) c ≡ drop (at + length bytes) file
      back = ext_get_or 0 (drop (at + length bytes) c) (drop (at + length bytes) file)
          (omega (
            arith,
            length-drop (at + length bytes) c,
            length-drop (at + length bytes) file,
            im.no_shorter,
            im.no_longer,
          ))
          (λ i lt.
          let within : at + length bytes + i < length c = omega (arith, lt, length-drop (at + length bytes) c) in
          get_or-drop (at + length bytes) c i 0
          ∙ im.stays (at + length bytes + i) (omega (arith, within, im.no_longer, length-over)) within
          (above (at + length bytes + i) (omega arith))
          ∙ sym (get_or-drop (at + length bytes) (over at bytes file) i 0)
          ∙ ap (λ (l : List ℕ). get_or l i 0) drop-over)

module _ (n : ℕ) (file : List ℕ) (le : n ≤ length file) where
  low : (i : ℕ) → i < n → is_unsynced (shortened n (kept file)) i ≡ false
  low i lt = grind (arith, nat_tests)

  pub cut_done : Cut n file (take n file)
  cut_done =
      record {
        front = take_all n (take n file) (omega (arith, length-take-le n file le));
        no_shorter = omega (arith, length-take-le n file le);
        no_longer = omega (arith, le, length-take-le n file le);
      }

  pub image_cut : (c : List ℕ) → IsImage (shortened n (kept file)) c → Cut n file c
  image_cut c im = record { front = front; no_shorter = longer; no_longer = im.no_longer }
    where
      longer : n ≤ length c
      longer = omega (arith, le, im.no_shorter)

      front : take n c ≡ take n file
      front = ext_get_or 0 (take n c) (take n file) (length-take-le n c longer ∙ sym (length-take-le n file le))
          (λ i lt.
          let small : i < n = omega (arith, lt, length-take-le n c longer) in
          get_or-take n c i 0 small
          ∙ im.stays i (omega (arith, small, length-take-le n file le)) (omega (arith, small, longer)) (low i small))
