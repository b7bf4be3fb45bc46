-- One step of the walk over the options of a TCP header.
use Rattle.std.proofs.Common.{◌≡◌, ℕ, zero, suc, ◌<◌, List, Some, None, refl, ap, arith}
use Rattle.packet_spec.specs.declared.options.OptionStep.TheVariants.{Stop, Size, Next}
use Rattle.packet_spec.specs.Options.{option_at, mss_from}

pub mss_none : (s : List ℕ) (end at : ℕ) → mss_from 0 s end at ≡ None
unfolding mss_from
mss_none s end at = refl

-- the walk stops
pub mss_stop : (n : ℕ) (s : List ℕ) (end at : ℕ) → 0 < n → option_at s end at ≡ Stop → mss_from n s end at ≡ None
unfolding mss_from
mss_stop zero s end at h e = absurd (omega arith)
mss_stop (suc n) s end at h e = rw e refl

-- the walk finds
pub mss_size : (n : ℕ) (s : List ℕ) (end at place : ℕ) → 0 < n → option_at s end at ≡ Size place
    → mss_from n s end at ≡ Some place
unfolding mss_from
mss_size zero s end at place h e = absurd (omega arith)
mss_size (suc n) s end at place h e = rw e refl

-- the walk goes on
pub mss_next : (n m : ℕ) (s : List ℕ) (end at next : ℕ) → suc m ≡ n → option_at s end at ≡ Next next
    → mss_from n s end at ≡ mss_from m s end next
unfolding mss_from
mss_next zero m s end at next h e = absurd (omega arith)
mss_next (suc n) m s end at next h e = let same : n ≡ m =
    omega arith in rw e (ap (λ (k : ℕ). mss_from k s end next) same)
