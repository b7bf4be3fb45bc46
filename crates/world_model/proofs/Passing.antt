-- A text that is written piece by piece, and what is answered of it.
use Rattle.std.proofs.Common.{◌≡◌, ◌≤◌, ℕ, ◌+◌, ◌^◌, ◌-◌, List, [], ◌∷◌, ◌++◌, length, take, Option, Some, None, Result, Ok, Err, refl, sym, ap, subst, ◌∙◌, append_assoc, append-nil, arith}
use Rattle.std.specs.Prelude.{min}
use Rattle.std.proofs.Math.Seq.{take-append_seam, take-append-add, take-length}
use Rattle.std.proofs.lemmas.List.{take-append-le, take_min}
use Rattle.std.specs.Io.KnownBytes.{Appends}
use Rattle.outside_io.specs.Faults.{Rose}
use Rattle.sink_text.proofs.Written.{append_then}
use Rattle.world_nodes.specs.Overflows.{IsFaultOf, Overflow}
use Rattle.world_nodes.specs.declared.fault.WorldFault.{WorldFault}
use Rattle.world_nodes.specs.declared.fault.WorldFault.TheVariants.{Full, NoMemory}
use Rattle.world_model.specs.Runs.{Front, Passed, ReplayFulls, WritesFail, replay_fault}
use Rattle.world_model.specs.declared.fault.ReplayFault.{ReplayFault}

append_none : (a : Option (List ℕ)) → Appends a a []
append_none None = tt
append_none (Some x) = sym (append-nil x)

pub passed_none : (a : Option (List ℕ)) (text : List ℕ) → Passed a a text text
passed_none a text = record { written = []; appended = append_none a; whole = refl }

pub passed_all : (a b : Option (List ℕ)) (left text : List ℕ) → Appends a b text → left ≡ [] → Passed a b left text
passed_all a b left text is none = record {
  written = text;
  appended = is;
  whole = ap (λ (l : List ℕ). text ++ l) none ∙ append-nil text;
}

pub front_none : (a : Option (List ℕ)) (text : List ℕ) → Front a a text
front_none a text = (0, append_none a)

pub front_all : (a b : Option (List ℕ)) (text : List ℕ) → Appends a b text → Front a b text
front_all a b text is = (length text, subst (Appends a b) (sym (take-length text)) is)

-- all that was written is a front of the whole
pub front_of : (a b : Option (List ℕ)) (left text : List ℕ) → Passed a b left text → Front a b text
front_of a b left text is = (
  length is.written,
  subst (Appends a b) (sym (take-append_seam is.written left) ∙ ap (take (length is.written)) is.whole) is.appended,
)

module _ (a b c : Option (List ℕ)) (part rest left text : List ℕ) (is : Passed a b left text) (split : left ≡ part ++ rest) where
  abbrev entire : List ℕ
  entire = is.written ++ (part ++ rest)

  all : entire ≡ text
  all = ap (λ (l : List ℕ). is.written ++ l) (sym split) ∙ is.whole

  taken : (n : ℕ) → is.written ++ take n part ≡ take (length is.written + min n (length part)) entire
  taken n =
      let few : min n (length part) ≤ length part = omega arith in
      ap (λ (l : List ℕ). is.written ++ l)
      (sym (take_min n part) ∙ sym (take-append-le (min n (length part)) part rest few))
      ∙ sym (take-append-add is.written (part ++ rest) (min n (length part)))

  -- a front of what is left is one of the whole behind what was written
  pub front_then : Front b c part → Front a c text
  front_then front = (
    length is.written + min front.0 (length part),
    subst (Appends a c) (taken front.0 ∙ ap (take (length is.written + min front.0 (length part))) all)
        (append_then a b c is.written (take front.0 part) is.appended front.1),
  )

  -- a part of it is passed on, and something stays
  pub passed_then : (stays : List ℕ) → Passed b c stays part → Passed a c (stays ++ rest) text
  passed_then stays more = record {
    written = is.written ++ more.written;
    appended = append_then a b c is.written more.written is.appended more.appended;
    whole = append_assoc is.written more.written (stays ++ rest)
        ∙ ap (λ (l : List ℕ). is.written ++ l) (sym (append_assoc more.written stays rest))
        ∙ ap (λ (l : List ℕ). is.written ++ (l ++ rest)) more.whole
        ∙ all;
  }

  -- nothing stays
  pub passed_end : rest ≡ [] → Appends b c part → Appends a c text
  passed_end none more =
      subst (Appends a c)
      (ap (λ (l : List ℕ). is.written ++ l) (sym (append-nil part) ∙ ap (λ (l : List ℕ). part ++ l) (sym none)) ∙ all)
      (append_then a b c is.written part is.appended more)

-- what is left is told in another way
pub passed_as : (a b : Option (List ℕ)) (left other text : List ℕ) → other ≡ left → Passed a b left text → Passed a b other text
passed_as a b left other text same is = subst (λ (l : List ℕ). Passed a b l text) (sym same) is

-- ---- faults

pub rose_later : (a b c : ℕ) → a ≤ b → Rose b c → Rose a c
rose_later a b c le rose = omega (arith, le, rose)

pub no_write : (T : Type 0) (before now : ℕ) (f : WorldFault) → WritesFail {T = T} before now (Err (replay_fault f))
no_write T before now NoMemory = tt
no_write T before now (Full n body) = tt

pub full_of : (T : Type 0) (o p : Option Overflow) (f : WorldFault) → o ≡ p → IsFaultOf o f → ReplayFulls {T = T} p (Err (replay_fault f))
full_of T o p NoMemory same is = tt
full_of T o p (Full n body) same is = sym same ∙ is
