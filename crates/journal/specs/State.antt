-- What a clause sees of a journal.
use Rattle.std.specs.Prelude.{ℕ, Bool, refl}
use Rattle.std.specs.Coded.{Coded, code_by, coded×, coded_ℕ, coded_bool}

-- The two disks, the bound, the length in bytes up to the end of the ending gate, and whether the journal may be
-- appended to.
pub record JournalState (D : Type 0) : Type 0 where
  pub first : D
  pub second : D
  pub bound : ℕ
  pub length : ℕ
  pub live : Bool

abbrev pub journal_code : {D : Type 0} → Coded D → Coded (JournalState D)
journal_code {D} disk =
    code_by (D × (D × (ℕ × (ℕ × Bool)))) (coded× disk (coded× disk (coded× coded_ℕ (coded× coded_ℕ coded_bool))))
    (λ j. (j.first, (j.second, (j.bound, (j.length, j.live)))))
    (λ p. record { first = p.0; second = p.1.0; bound = p.1.1.0; length = p.1.1.1.0; live = p.1.1.1.1 })
    (λ _. refl)
