-- A packet behind the outer header.
use Rattle.std.proofs.Common.{◌≡◌, ◌∙◌, ℕ, List, ◌++◌, length, take, drop, ap}
use Rattle.std.proofs.lemmas.List.{drop_at, take_at}
use Rattle.ipip.specs.Wrapping.{lowered}

pub behind : (whole outer packet : List ℕ) → whole ≡ outer ++ packet → length outer ≡ 20 → drop 20 whole ≡ packet
behind whole outer packet e len = ap (drop 20) e ∙ drop_at outer packet 20 len

before : (whole outer packet : List ℕ) → whole ≡ outer ++ packet → length outer ≡ 20 → take 20 whole ≡ outer
before whole outer packet e len = ap (take 20) e ∙ take_at outer packet 20 len

pub lowered_behind : (whole outer packet : List ℕ) → whole ≡ outer ++ packet → length outer ≡ 20
    → take 20 whole ++ lowered 1 (drop 20 whole) ≡ outer ++ lowered 1 packet
lowered_behind whole outer packet e len =
    ap (λ (front : List ℕ). front ++ lowered 1 (drop 20 whole)) (before whole outer packet e len)
    ∙ ap (λ (p : List ℕ). outer ++ lowered 1 p) (behind whole outer packet e len)
