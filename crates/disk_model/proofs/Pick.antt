-- What is picked is an image, and each image is picked by itself.
use Rattle.std.proofs.Common.{◌≡◌, ◌<◌, ◌≤◌, ℕ, zero, suc, min, ◌||◌, List, [], ◌∷◌, length, get_or, take, refl, sym, ◌∙◌, ap, arith, inl, inr}
use Rattle.std.specs.Prelude.{nat_le, if◌then◌else◌}
use Rattle.std.specs.List.{list_any}
use Rattle.std.proofs.lemmas.Bool.{cond-true, cond-false, leb-false, lt-leb, le-leb, cases_lt, cases_Bool, or_parts, or_from}
use Rattle.std.proofs.lemmas.List.{get_or-take, length-take-le, length_push, get_or_push, get_or_append_left}
use Rattle.std.proofs.lemmas.Grind.{same_number_lists}
use Rattle.outside_io.specs.Disk.{FileState, IsImage, is_in, is_unsynced}
use Rattle.disk_model.specs.Overlays.{IsLaid}
use Rattle.disk_model.specs.Picked.{picked_length, is_free, picked_byte, first_bytes, picked}
use Rattle.disk_model.proofs.Laid.{laid_same}

pub length-first_bytes : (byte : ℕ → ℕ) (n : ℕ) → length (first_bytes byte n) ≡ n
length-first_bytes byte zero = refl
length-first_bytes byte (suc n) = length_push (first_bytes byte n) (byte n) ∙ omega (arith, length-first_bytes byte n)

pub get_or-first_bytes : (byte : ℕ → ℕ) (n k : ℕ) → k < n → get_or (first_bytes byte n) k 0 ≡ byte k
get_or-first_bytes byte zero k lt = absurd (omega (arith, lt))
get_or-first_bytes byte (suc n) k lt = elim (cases_lt k n) [
  | inl before ↦ get_or_append_left (first_bytes byte n) (byte n ∷ []) 0 k
      (omega (arith, before, length-first_bytes byte n)) ∙ get_or-first_bytes byte n k before
  | inr last ↦ get_or_push (first_bytes byte n) (byte n) 0 k (omega (arith, lt, last, length-first_bytes byte n))
      ∙ ap byte {x = n} {y = k} (omega (arith, lt, last))
]

module _ (f : FileState) (pick : List ℕ) where
  pub length-picked : length (picked f pick) ≡ picked_length f pick
  length-picked = length-first_bytes (picked_byte f pick) (picked_length f pick)

  pub get_or-picked : (k : ℕ) → k < picked_length f pick → get_or (picked f pick) k 0 ≡ picked_byte f pick k
  get_or-picked k lt = get_or-first_bytes (picked_byte f pick) (picked_length f pick) k lt

  pub picked_is_image : f.least ≤ f.greatest → IsImage f (picked f pick)
  picked_is_image ordered = record {
    no_shorter = omega (arith, ordered, length-picked);
    no_longer = omega (arith, length-picked);
    stays = λ k lt lt' synced. get_or-picked k (omega (arith, lt', length-picked))
        ∙ cond-false (is_free f k) (get_or pick k 0) (get_or f.bytes k 0)
        (or_from (is_unsynced f k) (nat_le (length f.bytes) k) synced (lt-leb (length f.bytes) k lt));
  }

  -- a file over whose free places the pick was laid, cut to the picked length, is what is picked
  pub picked_from_laid : (buffer new : List ℕ) (len : ℕ) → f.bytes ≡ take len buffer → len ≤ length buffer
      → f.greatest ≡ length buffer
      → IsLaid (λ k. list_any (is_in k) f.unsynced || nat_le (min len (picked_length f pick)) k) pick
      (take (picked_length f pick) buffer) new → new ≡ picked f pick
  picked_from_laid buffer new len is le whole laid =
      same_number_lists new (picked f pick) (new_long ∙ sym length-picked)
      (λ k lt. all.byte k (omega (arith, lt, new_long, front_long)) ∙ chosen k (omega (arith, lt, new_long))
      ∙ sym (get_or-picked k (omega (arith, lt, new_long))))
    where
      file_long : length f.bytes ≡ len
      file_long = ap length is ∙ length-take-le len buffer le

      front_long : length (take (picked_length f pick) buffer) ≡ picked_length f pick
      front_long = length-take-le (picked_length f pick) buffer (omega (arith, whole))

      tail : (k : ℕ) → k < picked_length f pick → nat_le (length f.bytes) k ≡ nat_le (min len (picked_length f pick)) k
      tail k lt = elim (cases_lt k len) [
        | inl before ↦ lt-leb (length f.bytes) k (omega (arith, before, file_long))
            ∙ sym (lt-leb (min len (picked_length f pick)) k (omega (arith, before, lt)))
        | inr after ↦ le-leb (length f.bytes) k (omega (arith, after, file_long))
            ∙ sym (le-leb (min len (picked_length f pick)) k (omega (arith, after)))
      ]

      all : IsLaid (λ k. is_free f k) pick (take (picked_length f pick) buffer) new
      all = laid_same (λ k. list_any (is_in k) f.unsynced || nat_le (min len (picked_length f pick)) k)
          (λ k. is_free f k) pick (take (picked_length f pick) buffer) new
          (λ k lt. ap (λ b. is_unsynced f k || b) (tail k (omega (arith, lt, front_long)))) laid

      new_long : length new ≡ picked_length f pick
      new_long = all.room ∙ front_long

      chosen : (k : ℕ) → k < picked_length f pick
          → (if is_free f k then get_or pick k 0 else get_or (take (picked_length f pick) buffer) k 0)
          ≡ picked_byte f pick k
      chosen k lt = elim (cases_Bool (is_free f k)) [
        | inl free ↦ cond-true (is_free f k) _ _ free ∙ sym (cond-true (is_free f k) _ _ free)
        | inr bound ↦ cond-false (is_free f k) _ _ bound
            ∙ get_or-take (picked_length f pick) buffer k 0 lt
            ∙ sym (ap (λ (l : List ℕ). get_or l k 0) is
            ∙ get_or-take len buffer k 0
            (omega (
              arith,
              leb-false (length f.bytes) k
                  (or_parts (is_unsynced f k) (nat_le (length f.bytes) k) bound).1,
              file_long,
            )))
            ∙ sym (cond-false (is_free f k) _ _ bound)
      ]

pub image_is_picked : (f : FileState) (image : List ℕ) → IsImage f image → picked f image ≡ image
image_is_picked f image is = same_number_lists (picked f image) image long
    (λ k lt. get_or-picked f image k (omega (arith, lt, length-picked f image)) ∙ chosen k (omega (arith, lt, long)))
  where
    long : length (picked f image) ≡ length image
    long = length-picked f image ∙ omega (arith, is.no_shorter, is.no_longer)

    chosen : (k : ℕ) → k < length image → picked_byte f image k ≡ get_or image k 0
    chosen k lt = elim (cases_Bool (is_free f k)) [
      | inl free ↦ cond-true (is_free f k) _ _ free
      | inr bound ↦ let parts = or_parts (is_unsynced f k) (nat_le (length f.bytes) k) bound in
          cond-false (is_free f k) _ _ bound ∙ sym (is.stays k (leb-false (length f.bytes) k parts.1) lt parts.0)
    ]
