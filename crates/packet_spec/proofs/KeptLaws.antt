-- What an edit keeps of a packet: its length, and the bytes by which its parts are found.
use Rattle.std.proofs.Common.{◌≡◌, ◌≢◌, ℕ, ◌+◌, ◌/◌, ◌%◌, ◌<◌, ◌≤◌, List, length, get_or, slice_set, refl, sym, ◌∙◌}
use Rattle.std.proofs.Common.{arith}
use Rattle.std.proofs.Math.ListN.{length-set}
use Rattle.std.proofs.lemmas.List.{get_or-set_other}
use Rattle.packet_spec.specs.Words.{put_word}

-- of the bytes before the addresses all but the time to live and the checksum, and of a segment that begins at this
-- place the bytes of UDP's length and of TCP's data offset
pub record Keeps (start : ℕ) (p q : List ℕ) : Type 0 where
  pub same_length : length q ≡ length p
  pub front : (i : ℕ) → i < 8 → get_or q i 0 ≡ get_or p i 0
  pub number : get_or q 9 0 ≡ get_or p 9 0
  pub length_high : get_or q (start + 4) 0 ≡ get_or p (start + 4) 0
  pub length_low : get_or q (start + 4 + 1) 0 ≡ get_or p (start + 4 + 1) 0
  pub offset : get_or q (start + 12) 0 ≡ get_or p (start + 12) 0

pub keeps_all : (start : ℕ) (p : List ℕ) → Keeps start p p
keeps_all start p = record {
  same_length = refl;
  front = λ i h. refl;
  number = refl;
  length_high = refl;
  length_low =
      refl;
  offset = refl;
}

-- another byte that none of these is
pub record IsFree (start at : ℕ) : Type 0 where
  pub behind : 8 ≤ at
  pub not_number : at ≢ 9
  pub not_high : at ≢ start + 4
  pub not_low : at ≢ start + 4 + 1
  pub not_offset : at ≢ start + 12

pub keeps_set : (start : ℕ) (p q : List ℕ) (at v : ℕ) → Keeps start p q → IsFree start at
    → Keeps start p (slice_set q at v)
keeps_set start p q at v k f =
    let behind = f.behind in
    let a = f.not_number in
    let b = f.not_high in
    let c = f.not_low in
    let d = f.not_offset in
    let n : 9 ≢ at = λ e. a (sym e) in
    let h : start + 4 ≢ at = λ e. b (sym e) in
    let l : start + 4 + 1 ≢ at = λ e. c (sym e) in
    let o : start + 12 ≢ at = λ e. d (sym e) in
    record {
      same_length = length-set q at v ∙ k.same_length;
      front = λ i lt. let m : i ≢ at = omega arith in get_or-set_other q at i v 0 m ∙ k.front i lt;
      number = get_or-set_other q at 9 v 0 n ∙ k.number;
      length_high = get_or-set_other q at (start + 4) v 0 h ∙ k.length_high;
      length_low = get_or-set_other q at (start + 4 + 1) v 0 l ∙ k.length_low;
      offset = get_or-set_other q at (start + 12) v 0 o ∙ k.offset;
    }

pub keeps_put : (start : ℕ) (p q : List ℕ) (at w : ℕ) → Keeps start p q → IsFree start at → IsFree start (at + 1)
    → Keeps start p (put_word q at w)
keeps_put start p q at w k f g = keeps_set start p (slice_set q at (w / 256)) (at + 1) (w % 256)
    (keeps_set start p q at (w / 256) k f) g

-- a header of at least 20 bytes lies before the segment, so the addresses, the time to live and the checksum are free
pub free_in_header : (start at : ℕ) → 20 ≤ start → 10 ≤ at → at < start + 4 → IsFree start at
free_in_header start at long low high =
    record {
      behind = omega arith;
      not_number = omega arith;
      not_high = omega arith;
      not_low = omega arith;
      not_offset = omega arith;
    }

pub free_behind : (start at : ℕ) → start + 13 ≤ at → IsFree start at
free_behind start at low = record {
  behind = omega arith;
  not_number = omega arith;
  not_high = omega arith;
  not_low =
      omega arith;
  not_offset = omega arith;
}

-- the time to live, and UDP's checksum
pub free_ttl : (start : ℕ) → 20 ≤ start → IsFree start 8
free_ttl start long = record {
  behind = omega arith;
  not_number = omega arith;
  not_high = omega arith;
  not_low =
      omega arith;
  not_offset = omega arith;
}

pub free_sum : (start at : ℕ) → 20 ≤ start → start + 6 ≤ at → at < start + 8 → IsFree start at
free_sum start at long low high = record {
  behind = omega arith;
  not_number = omega arith;
  not_high = omega arith;
  not_low = omega arith;
  not_offset = omega arith;
}
