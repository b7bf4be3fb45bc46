-- Numerals and their numbers.
use Rattle.std.proofs.Common.{◌≡◌, ◌∙◌, ℕ, zero, suc, not, ◌+◌, ◌-◌, ◌*◌, ◌^◌, ◌<◌, ◌≤◌, Bool, true, false, cond, ◌&&◌}
use Rattle.std.proofs.Common.{◌||◌, nat_le, nat_lt, ◌==◌, if◌then◌else◌, List, [], ◌∷◌, length, get_or, slice_index}
use Rattle.std.proofs.Common.{Option, None, Some, refl, sym, ap, arith}
use Rattle.std.specs.Fmt.{decimal}
use Rattle.std.specs.Str.{all_ascii_digits}
use Rattle.std.specs.Str.Parse.{digits_value, digits_value_after}
use Rattle.std.proofs.lemmas.Fmt.{decimal-digits_value, digits_decimal, digits_value-decimal, decimal_nonempty}
use Rattle.std.proofs.lemmas.Fmt.{first_decimal, decimal_digit}
use Rattle.std.proofs.lemmas.Str.Parse.{IsNumeralModel, numerals_by_value, tells_all_ascii_digits}
use Rattle.std.proofs.lemmas.Bool.Decides.{nat_tests}
use Rattle.std.proofs.lemmas.Bool.{leb-true, leb-false, lt-leb, le-leb}
use Rattle.std.proofs.lemmas.Str.{digit_value_digit}
use Rattle.std.specs.Char.{digit_value}
use Rattle.address_text.specs.Numbers.{is_numeral, number_of, number_after}

pub own : IsNumeralModel (λ ds. all_ascii_digits ds ≡ true) (digits_value 10)
own = numerals_by_value _ tells_all_ascii_digits

-- the digits of n and those that follow are at least n
grows : (n : ℕ) (ds : List ℕ) → n ≤ digits_value_after 10 n ds
grows n [] = omega arith
grows n (d ∷ ds) = omega (arith, grows (n * 10 + digit_value d) ds)

digit : (b : ℕ) → 48 ≤ b → b ≤ 57 → digit_value b ≡ b - 48
digit b low high = omega (arith, digit_value_digit b (low, high))

abbrev wanted : Bool → ℕ → ℕ → Option ℕ
wanted digits limit value = if digits && nat_le value limit then Some value else None

stopped : (digits : Bool) (limit value : ℕ) → limit < value → wanted digits limit value ≡ None
stopped true limit value lt = rw (lt-leb value limit lt) refl
stopped false limit value lt = refl

-- a digit more, within the limit or past it
goes_on : (t : Bool) (limit m : ℕ) (bs : List ℕ) → nat_le m limit ≡ t
    → (m ≤ limit → number_after limit m bs ≡ wanted (all_ascii_digits bs) limit (digits_value_after 10 m bs))
    → cond t (number_after limit m bs) None ≡ wanted (all_ascii_digits bs) limit (digits_value_after 10 m bs)
goes_on true limit m bs e more = more (leb-true m limit e)
goes_on false limit m bs e more =
    sym (stopped (all_ascii_digits bs) limit (digits_value_after 10 m bs) (let above =
    leb-false m limit e in omega (arith, grows m bs)))

by_digit : (t : Bool) (limit n b : ℕ) (bs : List ℕ) → (nat_le 48 b && nat_le b 57) ≡ t
    → (t ≡ true → cond (nat_le (10 * n + (b - 48)) limit) (number_after limit (10 * n + (b - 48)) bs) None
    ≡ wanted (all_ascii_digits bs) limit (digits_value_after 10 (n * 10 + digit_value b) bs))
    → cond (t && nat_le (10 * n + (b - 48)) limit) (number_after limit (10 * n + (b - 48)) bs) None
    ≡ wanted (t && all_ascii_digits bs) limit (digits_value_after 10 (n * 10 + digit_value b) bs)
by_digit true limit n b bs e more = more refl
by_digit false limit n b bs e more = refl

both_are : (p q : Bool) → (p && q) ≡ true → (p ≡ true) × (q ≡ true)
both_are true q e = (refl, e)
both_are false q e = absurd cc

-- reading from the left stops early exactly where the whole is no number within the limit
pub after_is : (limit n : ℕ) (text : List ℕ) → n ≤ limit
    → number_after limit n text ≡ wanted (all_ascii_digits text) limit (digits_value_after 10 n text)
unfolding number_after
after_is limit n [] le = rw (le-leb n limit le) refl
after_is limit n (b ∷ bs) le =
    by_digit (nat_le 48 b && nat_le b 57) limit n b bs refl (λ t.
    let k = both_are (nat_le 48 b) (nat_le b 57) t in
    let value = digit b (leb-true 48 b k.0) (leb-true b 57 k.1) in
    let same : n * 10 + digit_value b ≡ 10 * n + (b - 48) = omega arith in
    rw same (goes_on (nat_le (10 * n + (b - 48)) limit) limit (10 * n + (b - 48)) bs refl
    (λ within. after_is limit (10 * n + (b - 48)) bs within)))

-- ---- numerals

joined : (digits led : Bool) (limit value : ℕ) → led ≡ false
    → wanted digits limit value ≡ wanted (digits && not led) limit value
joined true true limit value e = absurd cc
joined true false limit value e = refl
joined false led limit value e = refl

refused : (digits led : Bool) (limit value : ℕ) → led ≡ true → wanted (digits && not led) limit value ≡ None
refused true true limit value e = refl
refused true false limit value e = absurd cc
refused false led limit value e = refl

abbrev is_led : List ℕ → Bool
is_led text = (length text == 0) || ((slice_index text 0 == 48) && nat_lt 1 (length text))

-- a text that isn't empty and has no leading zero
pub digits_are : (limit : ℕ) (text : List ℕ) → is_led text ≡ false → number_after limit 0 text ≡ number_of limit text
digits_are limit text e =
    after_is limit 0 text (omega arith) ∙ joined (all_ascii_digits text) (is_led text) limit (digits_value 10 text) e

pub no_number : (limit : ℕ) (text : List ℕ) → is_led text ≡ true → number_of limit text ≡ None
no_number limit text e = refused (all_ascii_digits text) (is_led text) limit (digits_value 10 text) e

-- ---- the law

passes : (p q : Bool) (value n : ℕ) → cond (p && q) (Some value) None ≡ Some n → (p ≡ true) × (q ≡ true) × (value ≡ n)
passes true true value n e = (refl, refl, cc)
passes true false value n e = absurd cc
passes false q value n e = absurd cc

not_led : (digits led : Bool) → (digits && not led) ≡ true → (digits ≡ true) × (led ≡ false)
not_led true true e = absurd cc
not_led true false e = (refl, refl)
not_led false led e = absurd cc

led_parts : (text : List ℕ) → is_led text ≡ false → (0 < length text) × (get_or text 0 0 ≡ 48 → length text ≡ 1)
led_parts text e = grind (arith, nat_tests)

pub number_spelled : (limit n : ℕ) (text : List ℕ) → limit < 2 ^ 64 → number_of limit text ≡ Some n
    → (text ≡ decimal n) × (n ≤ limit)
number_spelled limit n text small e =
    let p = passes (is_numeral text) (nat_le (digits_value 10 text) limit) (digits_value 10 text) n e in
    let d = not_led (all_ascii_digits text) (is_led text) p.0 in
    let parts = led_parts text d.1 in
    let within : digits_value 10 text ≤ limit = leb-true _ _ p.1 in
    let again : decimal (digits_value 10 text) ≡ text =
    decimal-digits_value own text d.0 parts.0 parts.1 (omega arith) in
    (sym again ∙ ap decimal p.2, omega (arith, p.2))

led_is : (text : List ℕ) → 0 < length text → (get_or text 0 0 ≡ 48 → length text ≡ 1) → is_led text ≡ false
led_is text some alone = grind (arith, nat_tests)

zero_alone : (n : ℕ) → n < 2 ^ 64 → get_or (decimal n) 0 0 ≡ 48 → length (decimal n) ≡ 1
zero_alone zero small e = ap length (decimal_digit 0 (omega arith))
zero_alone (suc n) small e = absurd (let first = first_decimal (suc n) (omega arith) small in omega arith)

pub number_read : (limit n : ℕ) → n ≤ limit → limit < 2 ^ 64 → number_of limit (decimal n) ≡ Some n
number_read limit n le small =
    let fits : n < 2 ^ 64 = omega arith in
    let digits : all_ascii_digits (decimal n) ≡ true = digits_decimal own n fits in
    let value : digits_value 10 (decimal n) ≡ n = digits_value-decimal own n fits in
    let led : is_led (decimal n) ≡ false = led_is (decimal n) (decimal_nonempty n fits) (zero_alone n fits) in
    rw (digits, led, value, le-leb n limit le) refl
