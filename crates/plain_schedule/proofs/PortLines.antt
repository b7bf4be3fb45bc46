-- The last port of a VIP on a line is a port.
use Rattle.std.proofs.Common.{◌≡◌, ℕ, ◌≤◌, Bool, true, false, ◌==◌, nat_le, List, [], ◌∷◌, length, Option, Some, None, refl, arith}
use Rattle.std.specs.Prelude.{◌&&◌, ◌||◌, ◌^◌, ◌-◌, slice_index, cond, codes}
use Rattle.std.specs.Str.{bytes_eq}
use Rattle.std.specs.Str.Parse.{digits_value}
use Rattle.std.proofs.lemmas.Bool.Decides.{nat_tests}
use Rattle.lease_spec.proofs.MemberLaws.{by_if}
use Rattle.plain_schedule.specs.declared.line.Line.{Line}
use Rattle.plain_schedule.specs.declared.line.Line.TheVariants.{Vip}
use Rattle.address_text.specs.Fields.{parts, two_of, three_of}
use Rattle.address_text.specs.Numbers.{is_numeral, number_of}
use Rattle.address_text.specs.Addresses.{◌>>=◌, address_of}
use Rattle.plain_schedule.specs.Lines.{are_bounds, vip_line, ask_line as ask_fields, one_of, return_line, packet_line, reply_line, bytes_in, word_line, line_of}
use Rattle.plain_schedule.proofs.KeyLaws.{both}
use Rattle.plain_schedule.proofs.ListLaws.{none_some}
use Rattle.plain_schedule.proofs.Kept.{some_is}

-- the last port of a VIP is a port
abbrev pub IsPort : Option Line → Type 0
IsPort (Some (Vip vip low high)) = high ≤ 65535
IsPort other = Unit {0}

pub number_within : (text : List ℕ) (n : ℕ) → number_of 65535 text ≡ Some n → n ≤ 65535
number_within text n e = by (is_numeral text && nat_le (digits_value 10 text) 65535) refl e
  where
    by : (b : Bool) → (is_numeral text && nat_le (digits_value 10 text) 65535) ≡ b
        → cond b (Some (digits_value 10 text)) None ≡ Some n → n ≤ 65535
    by true is e =
        let low : nat_le (digits_value 10 text) 65535 ≡ true
        = (both (is_numeral text) (nat_le (digits_value 10 text) 65535) is).1 in
        let same : digits_value 10 text ≡ n = some_is _ n e in grind (arith, nat_tests)
    by false is e = none_some e

pub bind_port : {A : Type 0} (o : Option A) (f : A → Option Line) → ((x : A) → o ≡ Some x → IsPort (f x))
    → IsPort (o >>= f)
bind_port None f k = tt
bind_port (Some x) f k = k x refl

pub port_vip : (fields : List (List ℕ)) → IsPort (vip_line fields)
unfolding vip_line
port_vip fields =
    bind_port (three_of fields) _
    (λ w _. bind_port (address_of w.0) _
    (λ vip _. bind_port (number_of 65535 w.1) _
    (λ low _. bind_port (number_of 65535 w.2) _
    (λ high e. by_if IsPort (are_bounds low high) (λ _. number_within w.2 high e) (λ _. tt)))))

pub port_ask : (fields : List (List ℕ)) → IsPort (ask_fields fields)
unfolding ask_fields
port_ask fields =
    bind_port (two_of fields) _
    (λ w _. bind_port (address_of w.0) _ (λ vip _. bind_port (address_of w.1) _ (λ machine _. tt)))

pub port_return : (fields : List (List ℕ)) → IsPort (return_line fields)
unfolding return_line
port_return fields = bind_port (one_of fields) _ (λ w _. bind_port (number_of (2 ^ 64 - 1) w) _ (λ n _. tt))

pub port_packet : (o : Option (List ℕ)) → IsPort (packet_line o)
port_packet None = tt
port_packet (Some bytes) = tt

pub port_reply : (o : Option (List ℕ)) → IsPort (reply_line o)
port_reply None = tt
port_reply (Some bytes) = tt

pub port_word : (fields : List (List ℕ)) → IsPort (word_line fields)
port_word [] = tt
port_word (word ∷ fields) = by_if IsPort (bytes_eq word (codes "packet")) (λ _. port_packet (bytes_in fields))
    (λ _. by_if IsPort (bytes_eq word (codes "reply")) (λ _. port_reply (bytes_in fields))
    (λ _. by_if IsPort (bytes_eq word (codes "vip")) (λ _. port_vip fields)
    (λ _. by_if IsPort (bytes_eq word (codes "ask")) (λ _. port_ask fields)
    (λ _. by_if IsPort (bytes_eq word (codes "return")) (λ _. port_return fields) (λ _. tt)))))

pub port_line : (text : List ℕ) → IsPort (line_of text)
port_line text =
    by_if IsPort ((length text == 0) || (slice_index text 0 == 35)) (λ _. tt) (λ _. port_word (parts 32 text))
