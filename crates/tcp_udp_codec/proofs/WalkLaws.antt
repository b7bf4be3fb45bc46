-- What the walk over the options finds, by how the options are spelled.
use Rattle.std.proofs.Common.{◌≡◌, ◌≢◌, ℕ, zero, suc, ◌+◌, ◌-◌, ◌<◌, ◌≤◌, List, [], ◌∷◌, ◌++◌, length, take, drop}
use Rattle.std.proofs.Common.{get_or, Some, None, sym, ap, ◌∙◌, arith, append_assoc}
use Rattle.std.specs.List.{slice_range}
use Rattle.std.proofs.lemmas.List.{get_or-take, get_or-drop, length-take, length-drop, length-append, append-nil}
use Rattle.std.proofs.lemmas.List.{drop-take, drop-drop}
use Rattle.std.proofs.Math.Seq.{drop-append_seam}
use Rattle.packet_spec.specs.declared.options.OptionStep.TheVariants.{Stop, Size, Next}
use Rattle.packet_spec.specs.Options.{data_offset, option_at, mss_from, mss_at}
use Rattle.tcp_udp_codec.specs.Options.{OtherOption, Padding, Carrying, spelled, all_spelled, IsOther, AreOther}
use Rattle.tcp_udp_codec.specs.Options.{options_of}
use Rattle.tcp_udp_codec.proofs.OptionLaws.{mss_none, mss_stop, mss_size, mss_next}

-- the bytes of a part
pub part_byte : (s : List ℕ) (at end i : ℕ) → i < end - at → get_or (slice_range s at end) i 0 ≡ get_or s (at + i) 0
part_byte s at end i lt = get_or-take (end - at) (drop at s) i 0 lt ∙ get_or-drop at s i 0

pub length-part : (s : List ℕ) (at end : ℕ) → end ≤ length s → length (slice_range s at end) ≡ end - at
length-part s at end within = simp (length-take, length-drop) (omega arith)

-- a part less its front
pub part_rest : (s front tail : List ℕ) (at end : ℕ) → at + length front ≤ end → slice_range s at end ≡ front ++ tail
    → slice_range s (at + length front) end ≡ tail
part_rest s front tail at end within e =
    let split : end - at ≡ length front + (end - (at + length front)) = omega arith in
    let moved : drop (length front) (slice_range s at end) ≡ slice_range s (at + length front) end =
    ap (λ (n : ℕ). drop (length front) (take n (drop at s))) split
    ∙ drop-take (length front) (end - (at + length front)) (drop at s)
    ∙ ap (λ (x : List ℕ). take (end - (at + length front)) x) (drop-drop (length front) at s) in
    sym moved ∙ ap (λ (x : List ℕ). drop (length front) x) e ∙ drop-append_seam front tail

-- what stands where an option is spelled
pub padding_at : (s tail : List ℕ) (at end : ℕ) → end ≤ length s → slice_range s at end ≡ 1 ∷ tail
    → option_at s end at ≡ Next (at + 1)
unfolding option_at
padding_at s tail at end within e =
    let len = length-part s at end within in
    let size : end - at ≡ suc (length tail) = sym len ∙ ap length e in
    let b = part_byte s at end 0 (omega arith) in
    let is : get_or s (at + 0) 0 ≡ 1 = sym b ∙ ap (λ (x : List ℕ). get_or x 0 0) e in
    let same : at + 0 ≡ at = omega arith in
    let first : get_or s at 0 ≡ 1 = sym (ap (λ (n : ℕ). get_or s n 0) same) ∙ is in
    grind arith

pub carrying_at : (s value tail : List ℕ) (at end kind : ℕ) → end ≤ length s
    → slice_range s at end ≡ kind ∷ (2 + length value) ∷ (value ++ tail)
    → kind ≢ 0 → kind ≢ 1 → (kind ≡ 2 → length value ≢ 2) → option_at s end at ≡ Next (at + (2 + length value))
unfolding option_at
carrying_at s value tail at end kind within e a b c =
    let len = length-part s at end within in
    let joined = length-append value tail in
    let size : end - at ≡ suc (suc (length (value ++ tail))) = sym len ∙ ap length e in
    let b0 = part_byte s at end 0 (omega arith) in
    let b1 = part_byte s at end 1 (omega arith) in
    let is : get_or s (at + 0) 0 ≡ kind = sym b0 ∙ ap (λ (x : List ℕ). get_or x 0 0) e in
    let same : at + 0 ≡ at = omega arith in
    let first : get_or s at 0 ≡ kind = sym (ap (λ (n : ℕ). get_or s n 0) same) ∙ is in
    let second : get_or s (at + 1) 0 ≡ 2 + length value = sym b1 ∙ ap (λ (x : List ℕ). get_or x 1 0) e in
    let room : at + (2 + length value) ≤ end = omega arith in
    let next : at + get_or s (at + 1) 0 ≡ at + (2 + length value) = ap (λ (n : ℕ). at + n) second in
    grind arith

pub size_at : (s rest : List ℕ) (at end high low : ℕ) → end ≤ length s
    → slice_range s at end ≡ 2 ∷ 4 ∷ high ∷ low ∷ rest → option_at s end at ≡ Size (at + 2)
unfolding option_at
size_at s rest at end high low within e =
    let len = length-part s at end within in
    let size : end - at ≡ suc (suc (suc (suc (length rest)))) = sym len ∙ ap length e in
    let b0 = part_byte s at end 0 (omega arith) in
    let b1 = part_byte s at end 1 (omega arith) in
    let is : get_or s (at + 0) 0 ≡ 2 = sym b0 ∙ ap (λ (x : List ℕ). get_or x 0 0) e in
    let same : at + 0 ≡ at = omega arith in
    let first : get_or s at 0 ≡ 2 = sym (ap (λ (n : ℕ). get_or s n 0) same) ∙ is in
    let second : get_or s (at + 1) 0 ≡ 4 = sym b1 ∙ ap (λ (x : List ℕ). get_or x 1 0) e in
    grind arith

pub end_at : (s rest : List ℕ) (at end : ℕ) → end ≤ length s → slice_range s at end ≡ 0 ∷ rest
    → option_at s end at ≡ Stop
unfolding option_at
end_at s rest at end within e =
    let len = length-part s at end within in
    let size : end - at ≡ suc (length rest) = sym len ∙ ap length e in
    let b0 = part_byte s at end 0 (omega arith) in
    let is : get_or s (at + 0) 0 ≡ 0 = sym b0 ∙ ap (λ (x : List ℕ). get_or x 0 0) e in
    let same : at + 0 ≡ at = omega arith in
    let first : get_or s at 0 ≡ 0 = sym (ap (λ (n : ℕ). get_or s n 0) same) ∙ is in
    grind arith

pub over_at : (s : List ℕ) (at end : ℕ) → end ≤ at → option_at s end at ≡ Stop
unfolding option_at
over_at s at end le = grind arith

-- the walk goes past an option that isn't the maximum segment size
pub other_at : (o : OtherOption) (s tail : List ℕ) (at end : ℕ) → end ≤ length s
    → slice_range s at end ≡ spelled o ++ tail → IsOther o → option_at s end at ≡ Next (at + length (spelled o))
other_at Padding s tail at end within e is = padding_at s tail at end within e
other_at (Carrying kind value) s tail at end within e is =
    let size : at + (2 + length value) ≡ at + length (spelled (Carrying kind value)) = omega arith in
    carrying_at s value tail at end kind within e is.0 is.1 is.2 ∙ ap Next size

-- and past so many of them
pub walk : (before : List OtherOption) (n : ℕ) (s tail : List ℕ) (end at : ℕ) → end ≤ length s → AreOther before
    → slice_range s at end ≡ all_spelled before ++ tail
    → (mss_from (length before + n) s end at ≡ mss_from n s end (at + length (all_spelled before)))
    × (slice_range s (at + length (all_spelled before)) end ≡ tail)
walk [] n s tail end at within others e =
    let count : 0 + n ≡ n = omega arith in
    let same : at + 0 ≡ at = omega arith in (
      ap (λ (k : ℕ). mss_from k s end at) count ∙ ap (λ (k : ℕ). mss_from n s end k) (sym same),
      ap (λ (k : ℕ). slice_range s k end) same ∙ e,
    )
walk (o ∷ os) n s tail end at within others e =
    let grouped : slice_range s at end ≡ spelled o ++ (all_spelled os ++ tail) = e
    ∙ append_assoc (spelled o) (all_spelled os) tail in
    let step = other_at o s (all_spelled os ++ tail) at end within grouped others.0 in
    let len = length-part s at end within in
    let parts = length-append (spelled o) (all_spelled os ++ tail) in
    let whole = ap length grouped in
    let some = spelled_some o in
    let room : at + length (spelled o) ≤ end = omega arith in
    let rest = part_rest s (spelled o) (all_spelled os ++ tail) at end room grouped in
    let ih = walk os n s tail end (at + length (spelled o)) within others.1 rest in
    let joined = length-append (spelled o) (all_spelled os) in
    let place : at + length (spelled o) + length (all_spelled os) ≡ at + length (spelled o ++ all_spelled os) =
    omega arith in
    let count : suc (length os + n) ≡ suc (length os) + n = omega arith in (
      mss_next (suc (length os) + n) (length os + n) s end at (at + length (spelled o)) count step ∙ ih.0
          ∙ ap (λ (k : ℕ). mss_from n s end k) place,
      ap (λ (k : ℕ). slice_range s k end) (sym place) ∙ ih.1,
    )
  where
    spelled_some : (o : OtherOption) → 1 ≤ length (spelled o)
    spelled_some Padding = omega arith
    spelled_some (Carrying kind value) = omega arith

-- there are at most as many options as bytes
pub few : (before : List OtherOption) → length before ≤ length (all_spelled before)
few [] = omega arith
few (Padding ∷ os) = let ih = few os in let j = length-append (1 ∷ []) (all_spelled os) in omega arith
few (Carrying kind value ∷ os) = let ih = few os in let j =
    length-append (spelled (Carrying kind value)) (all_spelled os) in omega arith

pub found : (s : List ℕ) (before : List OtherOption) (high low : ℕ) (rest : List ℕ) → data_offset s ≤ length s
    → data_offset s ≤ 60 → AreOther before
    → options_of s ≡ all_spelled before ++ 2 ∷ 4 ∷ high ∷ low ∷ rest
    → mss_at s ≡ Some (20 + length (all_spelled before) + 2)
unfolding mss_at
found s before high low rest within most others e =
    let len = length-part s 20 (data_offset s) within in
    let parts = length-append (all_spelled before) (2 ∷ 4 ∷ high ∷ low ∷ rest) in
    let whole = ap length e in
    let f = few before in
    let count : length before + (40 - length before) ≡ 40 = omega arith in
    let left : 0 < 40 - length before = omega arith in
    let w = walk before (40 - length before) s (2 ∷ 4 ∷ high ∷ low ∷ rest) (data_offset s) 20 within others e in
    ap (λ (k : ℕ). mss_from k s (data_offset s) 20) (sym count) ∙ w.0
    ∙ mss_size (40 - length before) s (data_offset s) (20 + length (all_spelled before))
    (20 + length (all_spelled before) + 2) left
    (size_at s rest (20 + length (all_spelled before)) (data_offset s) high low within w.1)

-- a walk that begins with Stop finds nothing, however many options are left
stops : (n : ℕ) (s : List ℕ) (end at : ℕ) → option_at s end at ≡ Stop → mss_from n s end at ≡ None
stops zero s end at e = mss_none s end at
stops (suc n) s end at e = mss_stop (suc n) s end at (omega arith) e

pub not_found : (s : List ℕ) (before : List OtherOption) (tail : List ℕ) → data_offset s ≤ length s
    → data_offset s ≤ 60 → AreOther before
    → options_of s ≡ all_spelled before ++ tail → option_at s (data_offset s) (20 + length (all_spelled before))
    ≡ Stop → mss_at s ≡ None
unfolding mss_at
not_found s before tail within most others e stop =
    let len = length-part s 20 (data_offset s) within in
    let parts = length-append (all_spelled before) tail in
    let whole = ap length e in
    let f = few before in
    let count : length before + (40 - length before) ≡ 40 = omega arith in
    let w = walk before (40 - length before) s tail (data_offset s) 20 within others e in
    ap (λ (k : ℕ). mss_from k s (data_offset s) 20) (sym count) ∙ w.0
    ∙ stops (40 - length before) s (data_offset s) (20 + length (all_spelled before)) stop

pub ended : (s : List ℕ) (before : List OtherOption) (rest : List ℕ) → data_offset s ≤ length s → data_offset s ≤ 60
    → AreOther before
    → options_of s ≡ all_spelled before ++ 0 ∷ rest → mss_at s ≡ None
ended s before rest within most others e =
    let w = walk before 0 s (0 ∷ rest) (data_offset s) 20 within others e in
    not_found s before (0 ∷ rest) within most others e
    (end_at s rest (20 + length (all_spelled before)) (data_offset s) within w.1)

pub spent : (s : List ℕ) (before : List OtherOption) → data_offset s ≤ length s → data_offset s ≤ 60 → AreOther before
    → options_of s ≡ all_spelled before → mss_at s ≡ None
spent s before within most others e =
    let len = length-part s 20 (data_offset s) within in
    let whole = ap length e in
    let over : data_offset s ≤ 20 + length (all_spelled before) = omega arith in
    let all : options_of s ≡ all_spelled before ++ [] = e ∙ sym (append-nil (all_spelled before)) in
    not_found s before [] within most others all (over_at s (20 + length (all_spelled before)) (data_offset s) over)
