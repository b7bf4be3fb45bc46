-- How long messages are.
use Rattle.std.proofs.Common.{◌≡◌, ℕ, ◌+◌, List, ◌++◌, length, Option, arith}
use Rattle.std.proofs.lemmas.List.{length-append}
use Rattle.wire_core.specs.declared.address.Ip4.{Ip4}
use Rattle.wire_core.specs.Commands.{LogCommand, value_bytes}
use Rattle.wire_core.proofs.NumberLaws.{length-number_bytes}
use Rattle.control_msg.specs.declared.message.Message.TheVariants.{Promise, Ask, Grant, Denied, Program, Unprogram}
use Rattle.control_msg.specs.declared.message.Message.TheVariants.{RedirectAsk, Redirect}
use Rattle.control_msg.specs.Messages.{number, optional_value, spelled, message_bytes}

pub number_is_long : (kind a : ℕ) → length (spelled kind (number a)) ≡ 10
number_is_long kind a = simp length-number_bytes

pub two_numbers_are_long : (kind a b : ℕ) → length (spelled kind (number a ++ number b)) ≡ 18
two_numbers_are_long kind a b = simp (length-append, length-number_bytes)

pub three_numbers_are_long : (kind a b c : ℕ) → length (spelled kind (number a ++ number b ++ number c)) ≡ 26
three_numbers_are_long kind a b c = simp (length-append, length-number_bytes)

pub valued_is_long : (kind a b : ℕ) (v : List LogCommand)
    → length (spelled kind (number a ++ number b ++ value_bytes v)) ≡ 18 + length (value_bytes v)
valued_is_long kind a b v = simp (length-append, length-number_bytes) (omega arith)

pub promise_is_long : (ballot log_length vote : ℕ) (v : Option (List LogCommand))
    → length (message_bytes (Promise ballot log_length vote v)) ≡ 26 + length (optional_value v)
promise_is_long ballot log_length vote v = simp (length-append, length-number_bytes) (omega arith)

pub ask_is_long : (boot : ℕ) (machine : Ip4) (seq : ℕ) → length (message_bytes (Ask boot machine seq)) ≡ 22
ask_is_long boot machine seq = simp (length-append, length-number_bytes)

pub grant_is_long : (boot : ℕ) (machine : Ip4) (seq n : ℕ) (vip : Ip4) (start : ℕ)
    → length (message_bytes (Grant boot machine seq n vip start)) ≡ 36
grant_is_long boot machine seq n vip start = simp (length-append, length-number_bytes)

pub denied_is_long : (boot : ℕ) (machine : Ip4) (seq reason count : ℕ)
    → length (message_bytes (Denied boot machine seq reason count)) ≡ 31
denied_is_long boot machine seq reason count = simp (length-append, length-number_bytes)

pub program_is_long : (epoch boot n : ℕ) (vip : Ip4) (start : ℕ) (machine : Ip4)
    → length (message_bytes (Program epoch boot n vip start machine)) ≡ 36
program_is_long epoch boot n vip start machine = simp (length-append, length-number_bytes)

pub unprogram_is_long : (epoch boot n : ℕ) (vip : Ip4) (start : ℕ)
    → length (message_bytes (Unprogram epoch boot n vip start)) ≡ 32
unprogram_is_long epoch boot n vip start = simp (length-append, length-number_bytes)

pub redirect_ask_is_long : (src : Ip4) (sport : ℕ) (dst : Ip4) (dport : ℕ) (machine : Ip4)
    → length (message_bytes (RedirectAsk src sport dst dport machine)) ≡ 18
redirect_ask_is_long src sport dst dport machine = simp (length-append, length-number_bytes)

pub redirect_is_long : (side n : ℕ) (src : Ip4) (sport : ℕ) (dst : Ip4) (dport : ℕ) (opener server : Ip4)
    → length (message_bytes (Redirect side n src sport dst dport opener server)) ≡ 31
redirect_is_long side n src sport dst dport opener server = simp (length-append, length-number_bytes)
