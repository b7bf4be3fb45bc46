-- One message of each kind, with bytes that were worked out apart from this crate: the version, the kind, and the
-- fields in order, numbers big-endian.
use Rattle.std.specs.Prelude.{◌≡◌, ℕ, ◌+◌, ◌-◌, ◌*◌, nat_le, List, [], ◌∷◌, codes, if◌then◌else◌, Some, None}
use Rattle.std.proofs.Common.{refl}
use Rattle.wire_core.specs.declared.address.Ip4.{Ip4}
use Rattle.wire_core.specs.Numbers.{number_bytes}
use Rattle.wire_core.specs.Commands.{LogCommand, Release}
use Rattle.control_msg.specs.declared.message.Message.TheVariants.{Prepare, Promise, Accept, Accepted, Refuse, Chosen}
use Rattle.control_msg.specs.declared.message.Message.TheVariants.{Fetch, Ask, Grant, Denied, Return, Returned, AgentUp}
use Rattle.control_msg.specs.declared.message.Message.TheVariants.{AgentKnown, MuxHello, Program, Programmed, Unprogram}
use Rattle.control_msg.specs.declared.message.Message.TheVariants.{Unprogrammed, MuxRefuse, Lead, RedirectAsk, Redirect}
use Rattle.control_msg.specs.Messages.{message_bytes}

-- the value of a hexadecimal digit
abbrev digit : ℕ → ℕ
digit c = if nat_le 97 c then c - 87 else c - 48

-- bytes by two hexadecimal digits each
abbrev hex : List ℕ → List ℕ
hex [] = []
hex (a ∷ []) = []
hex (a ∷ b ∷ cs) = (digit a * 16 + digit b) ∷ hex cs

-- numbers all of whose bytes differ
abbrev first : ℕ
first = 72623859790382856

abbrev second : ℕ
second = 1230066625199609624

abbrev third : ℕ
third = 2387509390608836392

-- 10.1.0.4, 10.2.0.9, 192.0.2.10 and 198.51.100.7
abbrev machine : Ip4
machine = record { 0 = 167837700 }

abbrev opener : Ip4
opener = record { 0 = 167903241 }

abbrev vip : Ip4
vip = record { 0 = 3221225994 }

abbrev source : Ip4
source = record { 0 = 3325256711 }

abbrev value : List LogCommand
value = Release 7 ∷ []

prepare_is : message_bytes (Prepare first) ≡ hex (codes "01010102030405060708")
unfolding number_bytes
prepare_is = refl

promise_is : message_bytes (Promise first second third (Some value))
    ≡ hex (codes "010201020304050607081112131415161718212223242526272801030000000000000007")
unfolding number_bytes
promise_is = refl

promise_without_a_vote_is : message_bytes (Promise first second 0 None)
    ≡ hex (codes "0102010203040506070811121314151617180000000000000000")
unfolding number_bytes
promise_without_a_vote_is = refl

accept_is : message_bytes (Accept first second value)
    ≡ hex (codes "01030102030405060708111213141516171801030000000000000007")
unfolding number_bytes
accept_is = refl

accepted_is : message_bytes (Accepted first second) ≡ hex (codes "010401020304050607081112131415161718")
unfolding number_bytes
accepted_is = refl

refuse_is : message_bytes (Refuse first second) ≡ hex (codes "010501020304050607081112131415161718")
unfolding number_bytes
refuse_is = refl

chosen_is : message_bytes (Chosen first second value)
    ≡ hex (codes "01060102030405060708111213141516171801030000000000000007")
unfolding number_bytes
chosen_is = refl

fetch_is : message_bytes (Fetch first) ≡ hex (codes "01070102030405060708")
unfolding number_bytes
fetch_is = refl

ask_is : message_bytes (Ask first machine second) ≡ hex (codes "010801020304050607080a0100041112131415161718")
unfolding number_bytes
ask_is = refl

grant_is : message_bytes (Grant first machine second third vip 1032)
    ≡ hex (codes "010901020304050607080a01000411121314151617182122232425262728c000020a0408")
unfolding number_bytes
grant_is = refl

denied_is : message_bytes (Denied first machine second 2 third)
    ≡ hex (codes "010a01020304050607080a0100041112131415161718022122232425262728")
unfolding number_bytes
denied_is = refl

returns_is : message_bytes (Return first second) ≡ hex (codes "010b01020304050607081112131415161718")
unfolding number_bytes
returns_is = refl

returned_is : message_bytes (Returned first second) ≡ hex (codes "010c01020304050607081112131415161718")
unfolding number_bytes
returned_is = refl

agent_up_is : message_bytes (AgentUp first) ≡ hex (codes "010d0102030405060708")
unfolding number_bytes
agent_up_is = refl

agent_known_is : message_bytes (AgentKnown first) ≡ hex (codes "010e0102030405060708")
unfolding number_bytes
agent_known_is = refl

mux_hello_is : message_bytes (MuxHello first second) ≡ hex (codes "010f01020304050607081112131415161718")
unfolding number_bytes
mux_hello_is = refl

program_is : message_bytes (Program first second third vip 1032 machine)
    ≡ hex (codes "0110010203040506070811121314151617182122232425262728c000020a04080a010004")
unfolding number_bytes
program_is = refl

programmed_is : message_bytes (Programmed first second third)
    ≡ hex (codes "0111010203040506070811121314151617182122232425262728")
unfolding number_bytes
programmed_is = refl

unprogram_is : message_bytes (Unprogram first second third vip 1032)
    ≡ hex (codes "0112010203040506070811121314151617182122232425262728c000020a0408")
unfolding number_bytes
unprogram_is = refl

unprogrammed_is : message_bytes (Unprogrammed first second third)
    ≡ hex (codes "0113010203040506070811121314151617182122232425262728")
unfolding number_bytes
unprogrammed_is = refl

mux_refuse_is : message_bytes (MuxRefuse first second third)
    ≡ hex (codes "0114010203040506070811121314151617182122232425262728")
unfolding number_bytes
mux_refuse_is = refl

lead_is : message_bytes (Lead first second) ≡ hex (codes "011501020304050607081112131415161718")
unfolding number_bytes
lead_is = refl

redirect_ask_is : message_bytes (RedirectAsk source 5000 vip 80 machine)
    ≡ hex (codes "0116c63364071388c000020a00500a010004")
unfolding number_bytes
redirect_ask_is = refl

redirect_is : message_bytes (Redirect 1 first source 5000 vip 80 opener machine)
    ≡ hex (codes "0117010102030405060708c63364071388c000020a00500a0200090a010004")
unfolding number_bytes
redirect_is = refl
