-- What is spelled is read again.
use Rattle.std.proofs.Common.{◌≡◌, ◌∙◌, ℕ, ◌≤◌, ◌<◌, ◌^◌, ◌%◌, Bool, true, false, ltb, ◌==◌, List, [], ◌∷◌, ◌++◌}
use Rattle.std.proofs.Common.{length, Option, Some, None, Ok, refl, sym, ap, append_assoc, append-nil, arith}
use Rattle.std.proofs.lemmas.Bool.{le-ltb}
use Rattle.std.proofs.lemmas.Bool.Decides.{nat_tests}
use Rattle.wire_core.specs.declared.address.Ip4.{Ip4}
use Rattle.wire_core.specs.Numbers.{number_bytes}
use Rattle.wire_core.specs.Commands.{LogCommand, IsValue, value_bytes}
use Rattle.wire_core.proofs.AgainLaws.{field_again, byte_again, value_again}
use Rattle.control_msg.specs.declared.kind.Kind.{Kind}
use Rattle.control_msg.specs.declared.kind.Kind.TheVariants as kind
use Rattle.control_msg.specs.declared.message.Message.{Message}
use Rattle.control_msg.specs.declared.message.Message.TheVariants.{Prepare, Promise, Accept, Accepted, Refuse, Chosen}
use Rattle.control_msg.specs.declared.message.Message.TheVariants.{Fetch, Ask, Grant, Denied, Return, Returned, AgentUp}
use Rattle.control_msg.specs.declared.message.Message.TheVariants.{AgentKnown, MuxHello, Program, Programmed, Unprogram}
use Rattle.control_msg.specs.declared.message.Message.TheVariants.{Unprogrammed, MuxRefuse, Lead, RedirectAsk, Redirect}
use Rattle.control_msg.specs.Messages.{number, address, port, byte, optional_value, message_bytes, IsNumber, IsAddress}
use Rattle.control_msg.specs.Messages.{IsStart, IsReason, IsSide, IsVote, IsMessage}
use Rattle.control_msg.specs.Reading.{address_at, tested_at, is_start, is_reason, is_side, start_at, reason_at, side_at}
use Rattle.control_msg.specs.Reading.{vote_value_at, number_at, two_numbers_at, three_numbers_at, valued_at, promise_at}
use Rattle.control_msg.specs.Reading.{ask_at, grant_at, denied_at, program_at, unprogram_at, redirect_ask_at}
use Rattle.control_msg.specs.Reading.{redirect_at, kind_of, fields_at, message_at}

-- ---- fields

address_again : (a : Ip4) (rest : List ℕ) → IsAddress a → address_at (address a ++ rest) ≡ Ok (a, rest)
unfolding address_at
address_again a rest h = rw (field_again 4 a.0 rest h) refl

tested_again : (passes : ℕ → Bool) (n x : ℕ) (rest : List ℕ) → x < 256 ^ n → passes x ≡ true
    → tested_at passes n (number_bytes n x ++ rest) ≡ Ok (x, rest)
tested_again passes n x rest small pass = rw (field_again n x rest small, pass) refl

start_passes : (start : ℕ) → IsStart start → is_start start ≡ true
start_passes start h =
    let multiple : start % 8 ≡ 0 = h.0 in
    let low : 1024 ≤ start = h.1 in
    let high : start ≤ 65528 = h.2 in
    grind (arith, nat_tests)

start_again : (start : ℕ) (rest : List ℕ) → IsStart start → start_at (port start ++ rest) ≡ Ok (start, rest)
unfolding start_at
start_again start rest h =
    tested_again is_start 2 start rest (let high : start ≤ 65528 = h.2 in omega arith) (start_passes start h)

reason_passes : (reason : ℕ) → IsReason reason → is_reason reason ≡ true
reason_passes reason h = let low : 1 ≤ reason = h.0 in let high : reason ≤ 2 = h.1 in grind (arith, nat_tests)

reason_again : (reason : ℕ) (rest : List ℕ) → IsReason reason → reason_at (byte reason ++ rest) ≡ Ok (reason, rest)
unfolding reason_at
reason_again reason rest h = rw (byte_again reason rest, reason_passes reason h) refl

side_passes : (side : ℕ) → IsSide side → is_side side ≡ true
side_passes side h = grind (arith, nat_tests)

side_again : (side : ℕ) (rest : List ℕ) → IsSide side → side_at (byte side ++ rest) ≡ Ok (side, rest)
unfolding side_at
side_again side rest h = rw (byte_again side rest, side_passes side h) refl

vote_value_again : (vote : ℕ) (value : Option (List LogCommand)) (rest : List ℕ) → IsVote vote value
    → vote_value_at vote (optional_value value ++ rest) ≡ Ok (value, rest)
unfolding vote_value_at
vote_value_again vote None rest h = rw h refl
vote_value_again vote (Some value) rest h =
    let low : 0 < vote = h.0 in
    let some : (vote == 0) ≡ false = grind (arith, nat_tests) in
    rw (some, value_again value rest h.1) refl

-- ---- the fields of a message

number_again : (make : ℕ → Message) (a : ℕ) (rest : List ℕ) → IsNumber a
    → number_at make (number a ++ rest) ≡ Ok (make a, rest)
unfolding number_at
number_again make a rest is_a =
    rw (field_again 8 a _ is_a) refl

two_numbers_again : (make : ℕ → ℕ → Message) (a : ℕ) (b : ℕ) (rest : List ℕ) → IsNumber a → IsNumber b
    → two_numbers_at make (number a ++ (number b ++ rest)) ≡ Ok (make a b, rest)
unfolding two_numbers_at
two_numbers_again make a b rest is_a is_b =
    rw (field_again 8 a _ is_a, field_again 8 b _ is_b) refl

three_numbers_again : (make : ℕ → ℕ → ℕ → Message) (a : ℕ) (b : ℕ) (c : ℕ) (rest : List ℕ) → IsNumber a → IsNumber b
    → IsNumber c → three_numbers_at make (number a ++ (number b ++ (number c ++ rest))) ≡ Ok (make a b c, rest)
unfolding three_numbers_at
three_numbers_again make a b c rest is_a is_b is_c =
    rw (field_again 8 a _ is_a, field_again 8 b _ is_b, field_again 8 c _ is_c) refl

valued_again : (make : ℕ → ℕ → List LogCommand → Message) (a : ℕ) (b : ℕ) (value : List LogCommand) (rest : List ℕ)
    → IsNumber a → IsNumber b → IsValue value
    → valued_at make (number a ++ (number b ++ (value_bytes value ++ rest))) ≡ Ok (make a b value, rest)
unfolding valued_at
valued_again make a b value rest is_a is_b is_value =
    rw (field_again 8 a _ is_a, field_again 8 b _ is_b, value_again value _ is_value) refl

promise_again : (ballot : ℕ) (length : ℕ) (vote : ℕ) (value : Option (List LogCommand)) (rest : List ℕ)
    → IsMessage (Promise ballot length vote value)
    → promise_at (number ballot ++ (number length ++ (number vote ++ (optional_value value ++ rest)))) ≡ Ok
    (Promise ballot length vote value, rest)
unfolding promise_at
promise_again ballot length vote value rest h =
    rw (
      field_again 8 ballot _ h.0,
      field_again 8 length _ h.1,
      field_again 8 vote _ h.2,
      vote_value_again vote value _ h.3,
    ) refl

ask_again : (boot : ℕ) (machine : Ip4) (seq : ℕ) (rest : List ℕ) → IsMessage (Ask boot machine seq)
    → ask_at (number boot ++ (address machine ++ (number seq ++ rest))) ≡ Ok (Ask boot machine seq, rest)
unfolding ask_at
ask_again boot machine seq rest h =
    rw (field_again 8 boot _ h.0, address_again machine _ h.1, field_again 8 seq _ h.2) refl

grant_again : (boot : ℕ) (machine : Ip4) (seq : ℕ) (n : ℕ) (vip : Ip4) (start : ℕ) (rest : List ℕ)
    → IsMessage (Grant boot machine seq n vip start)
    → grant_at
    (number boot ++ (address machine ++ (number seq ++ (number n ++ (address vip ++ (port start ++ rest)))))) ≡ Ok
    (Grant boot machine seq n vip start, rest)
unfolding grant_at
grant_again boot machine seq n vip start rest h =
    rw (
      field_again 8 boot _ h.0,
      address_again machine _ h.1,
      field_again 8 seq _ h.2,
      field_again 8 n _ h.3,
      address_again vip _ h.4,
      start_again start _ h.5,
    ) refl

denied_again : (boot : ℕ) (machine : Ip4) (seq : ℕ) (reason : ℕ) (count : ℕ) (rest : List ℕ)
    → IsMessage (Denied boot machine seq reason count)
    → denied_at (number boot ++ (address machine ++ (number seq ++ (byte reason ++ (number count ++ rest))))) ≡ Ok
    (Denied boot machine seq reason count, rest)
unfolding denied_at
denied_again boot machine seq reason count rest h =
    rw (
      field_again 8 boot _ h.0,
      address_again machine _ h.1,
      field_again 8 seq _ h.2,
      reason_again reason _ h.3,
      field_again 8 count _ h.4,
    ) refl

program_again : (epoch : ℕ) (boot : ℕ) (n : ℕ) (vip : Ip4) (start : ℕ) (machine : Ip4) (rest : List ℕ)
    → IsMessage (Program epoch boot n vip start machine)
    → program_at
    (number epoch ++ (number boot ++ (number n ++ (address vip ++ (port start ++ (address machine ++ rest)))))) ≡ Ok
    (Program epoch boot n vip start machine, rest)
unfolding program_at
program_again epoch boot n vip start machine rest h =
    rw (
      field_again 8 epoch _ h.0,
      field_again 8 boot _ h.1,
      field_again 8 n _ h.2,
      address_again vip _ h.3,
      start_again start _ h.4,
      address_again machine _ h.5,
    ) refl

unprogram_again : (epoch : ℕ) (boot : ℕ) (n : ℕ) (vip : Ip4) (start : ℕ) (rest : List ℕ)
    → IsMessage (Unprogram epoch boot n vip start)
    → unprogram_at (number epoch ++ (number boot ++ (number n ++ (address vip ++ (port start ++ rest))))) ≡ Ok
    (Unprogram epoch boot n vip start, rest)
unfolding unprogram_at
unprogram_again epoch boot n vip start rest h =
    rw (
      field_again 8 epoch _ h.0,
      field_again 8 boot _ h.1,
      field_again 8 n _ h.2,
      address_again vip _ h.3,
      start_again start _ h.4,
    ) refl

redirect_ask_again : (src : Ip4) (sport : ℕ) (dst : Ip4) (dport : ℕ) (machine : Ip4) (rest : List ℕ)
    → IsMessage (RedirectAsk src sport dst dport machine)
    → redirect_ask_at
    (address src ++ (port sport ++ (address dst ++ (port dport ++ (address machine ++ rest))))) ≡ Ok
    (RedirectAsk src sport dst dport machine, rest)
unfolding redirect_ask_at
redirect_ask_again src sport dst dport machine rest h =
    rw (
      address_again src _ h.0,
      field_again 2 sport _ h.1,
      address_again dst _ h.2,
      field_again 2 dport _ h.3,
      address_again machine _ h.4,
    ) refl

redirect_again : (side : ℕ) (n : ℕ) (src : Ip4) (sport : ℕ) (dst : Ip4) (dport : ℕ) (opener : Ip4) (server : Ip4)
    (rest : List ℕ) → IsMessage (Redirect side n src sport dst dport opener server)
    → redirect_at
    (byte side
    ++
    (number n
    ++
    (address src
    ++ (port sport ++ (address dst ++ (port dport ++ (address opener ++ (address server ++ rest)))))))) ≡ Ok
    (Redirect side n src sport dst dport opener server, rest)
unfolding redirect_at
redirect_again side n src sport dst dport opener server rest h =
    rw (
      side_again side _ h.0,
      field_again 8 n _ h.1,
      address_again src _ h.2,
      field_again 2 sport _ h.3,
      address_again dst _ h.4,
      field_again 2 dport _ h.5,
      address_again opener _ h.6,
      address_again server _ h.7,
    ) refl

fields_2 : (a b : List ℕ) → a ++ b ≡ a ++ (b ++ [])
fields_2 a b = simp append-nil

fields_3 : (a b c : List ℕ) → a ++ b ++ c ≡ a ++ (b ++ (c ++ []))
fields_3 a b c = simp (append_assoc, append-nil)

fields_4 : (a b c d : List ℕ) → a ++ b ++ c ++ d ≡ a ++ (b ++ (c ++ (d ++ [])))
fields_4 a b c d = simp (append_assoc, append-nil)

fields_5 : (a b c d e : List ℕ) → a ++ b ++ c ++ d ++ e ≡ a ++ (b ++ (c ++ (d ++ (e ++ []))))
fields_5 a b c d e = simp (append_assoc, append-nil)

fields_6 : (a b c d e f : List ℕ) → a ++ b ++ c ++ d ++ e ++ f ≡ a ++ (b ++ (c ++ (d ++ (e ++ (f ++ [])))))
fields_6 a b c d e f = simp (append_assoc, append-nil)

fields_7 : (a b c d e f g : List ℕ)
    → a ++ b ++ c ++ d ++ e ++ f ++ g ≡ a ++ (b ++ (c ++ (d ++ (e ++ (f ++ (g ++ []))))))
fields_7 a b c d e f g = simp (append_assoc, append-nil)

fields_8 : (a b c d e f g h : List ℕ)
    → a ++ b ++ c ++ d ++ e ++ f ++ g ++ h ≡ a ++ (b ++ (c ++ (d ++ (e ++ (f ++ (g ++ (h ++ [])))))))
fields_8 a b c d e f g h = simp (append_assoc, append-nil)

-- ---- the whole

headed : (kind_byte : ℕ) (k : Kind) (fields : List ℕ) (m : Message) → kind_of kind_byte ≡ Some k
    → fields_at k fields ≡ Ok (m, []) → message_at (1 ∷ kind_byte ∷ fields) ≡ Ok m
unfolding message_at
headed kind_byte k fields m is read =
    let long : ltb (length (1 ∷ kind_byte ∷ fields)) 2 ≡ false = le-ltb _ _ (omega arith) in
    rw (long, is, read) refl

pub message_again : (m : Message) → IsMessage m → message_at (message_bytes m) ≡ Ok m
message_again (Prepare ballot) h =
    headed 1 kind.Prepare (number ballot) (Prepare ballot) refl
    (ap (number_at Prepare) (sym (append-nil (number ballot))) ∙ number_again Prepare ballot [] h)
message_again (Promise ballot length vote value) h =
    headed 2 kind.Promise (number ballot ++ number length ++ number vote ++ optional_value value)
    (Promise ballot length vote value) refl
    (ap promise_at (fields_4 (number ballot) (number length) (number vote) (optional_value value))
    ∙ promise_again ballot length vote value [] h)
message_again (Accept ballot slot value) h =
    headed 3 kind.Accept (number ballot ++ number slot ++ value_bytes value) (Accept ballot slot value) refl
    (ap (valued_at Accept) (fields_3 (number ballot) (number slot) (value_bytes value))
    ∙ valued_again Accept ballot slot value [] h.0 h.1 h.2)
message_again (Accepted ballot slot) h =
    headed 4 kind.Accepted (number ballot ++ number slot) (Accepted ballot slot) refl
    (ap (two_numbers_at Accepted) (fields_2 (number ballot) (number slot))
    ∙ two_numbers_again Accepted ballot slot [] h.0 h.1)
message_again (Refuse ballot promised) h =
    headed 5 kind.Refuse (number ballot ++ number promised) (Refuse ballot promised) refl
    (ap (two_numbers_at Refuse) (fields_2 (number ballot) (number promised))
    ∙ two_numbers_again Refuse ballot promised [] h.0 h.1)
message_again (Chosen slot ballot value) h =
    headed 6 kind.Chosen (number slot ++ number ballot ++ value_bytes value) (Chosen slot ballot value) refl
    (ap (valued_at Chosen) (fields_3 (number slot) (number ballot) (value_bytes value))
    ∙ valued_again Chosen slot ballot value [] h.0 h.1 h.2)
message_again (Fetch slot) h =
    headed 7 kind.Fetch (number slot) (Fetch slot) refl
    (ap (number_at Fetch) (sym (append-nil (number slot))) ∙ number_again Fetch slot [] h)
message_again (Ask boot machine seq) h =
    headed 8 kind.Ask (number boot ++ address machine ++ number seq) (Ask boot machine seq) refl
    (ap ask_at (fields_3 (number boot) (address machine) (number seq)) ∙ ask_again boot machine seq [] h)
message_again (Grant boot machine seq n vip start) h =
    headed 9 kind.Grant (number boot ++ address machine ++ number seq ++ number n ++ address vip ++ port start)
    (Grant boot machine seq n vip start) refl
    (ap grant_at (fields_6 (number boot) (address machine) (number seq) (number n) (address vip) (port start))
    ∙ grant_again boot machine seq n vip start [] h)
message_again (Denied boot machine seq reason count) h =
    headed 10 kind.Denied (number boot ++ address machine ++ number seq ++ byte reason ++ number count)
    (Denied boot machine seq reason count) refl
    (ap denied_at (fields_5 (number boot) (address machine) (number seq) (byte reason) (number count))
    ∙ denied_again boot machine seq reason count [] h)
message_again (Return boot n) h =
    headed 11 kind.Return (number boot ++ number n) (Return boot n) refl
    (ap (two_numbers_at Return) (fields_2 (number boot) (number n)) ∙ two_numbers_again Return boot n [] h.0 h.1)
message_again (Returned boot n) h =
    headed 12 kind.Returned (number boot ++ number n) (Returned boot n) refl
    (ap (two_numbers_at Returned) (fields_2 (number boot) (number n)) ∙ two_numbers_again Returned boot n [] h.0 h.1)
message_again (AgentUp boot) h =
    headed 13 kind.AgentUp (number boot) (AgentUp boot) refl
    (ap (number_at AgentUp) (sym (append-nil (number boot))) ∙ number_again AgentUp boot [] h)
message_again (AgentKnown boot) h =
    headed 14 kind.AgentKnown (number boot) (AgentKnown boot) refl
    (ap (number_at AgentKnown) (sym (append-nil (number boot))) ∙ number_again AgentKnown boot [] h)
message_again (MuxHello boot epoch) h =
    headed 15 kind.MuxHello (number boot ++ number epoch) (MuxHello boot epoch) refl
    (ap (two_numbers_at MuxHello) (fields_2 (number boot) (number epoch))
    ∙ two_numbers_again MuxHello boot epoch [] h.0 h.1)
message_again (Program epoch boot n vip start machine) h =
    headed 16 kind.Program (number epoch ++ number boot ++ number n ++ address vip ++ port start ++ address machine)
    (Program epoch boot n vip start machine) refl
    (ap program_at (fields_6 (number epoch) (number boot) (number n) (address vip) (port start) (address machine))
    ∙ program_again epoch boot n vip start machine [] h)
message_again (Programmed epoch boot n) h =
    headed 17 kind.Programmed (number epoch ++ number boot ++ number n) (Programmed epoch boot n) refl
    (ap (three_numbers_at Programmed) (fields_3 (number epoch) (number boot) (number n))
    ∙ three_numbers_again Programmed epoch boot n [] h.0 h.1 h.2)
message_again (Unprogram epoch boot n vip start) h =
    headed 18 kind.Unprogram (number epoch ++ number boot ++ number n ++ address vip ++ port start)
    (Unprogram epoch boot n vip start) refl
    (ap unprogram_at (fields_5 (number epoch) (number boot) (number n) (address vip) (port start))
    ∙ unprogram_again epoch boot n vip start [] h)
message_again (Unprogrammed epoch boot n) h =
    headed 19 kind.Unprogrammed (number epoch ++ number boot ++ number n) (Unprogrammed epoch boot n) refl
    (ap (three_numbers_at Unprogrammed) (fields_3 (number epoch) (number boot) (number n))
    ∙ three_numbers_again Unprogrammed epoch boot n [] h.0 h.1 h.2)
message_again (MuxRefuse epoch boot kept) h =
    headed 20 kind.MuxRefuse (number epoch ++ number boot ++ number kept) (MuxRefuse epoch boot kept) refl
    (ap (three_numbers_at MuxRefuse) (fields_3 (number epoch) (number boot) (number kept))
    ∙ three_numbers_again MuxRefuse epoch boot kept [] h.0 h.1 h.2)
message_again (Lead ballot length) h =
    headed 21 kind.Lead (number ballot ++ number length) (Lead ballot length) refl
    (ap (two_numbers_at Lead) (fields_2 (number ballot) (number length))
    ∙ two_numbers_again Lead ballot length [] h.0 h.1)
message_again (RedirectAsk src sport dst dport machine) h =
    headed 22 kind.RedirectAsk (address src ++ port sport ++ address dst ++ port dport ++ address machine)
    (RedirectAsk src sport dst dport machine) refl
    (ap redirect_ask_at (fields_5 (address src) (port sport) (address dst) (port dport) (address machine))
    ∙ redirect_ask_again src sport dst dport machine [] h)
message_again (Redirect side n src sport dst dport opener server) h =
    headed 23 kind.Redirect
    (byte side ++ number n ++ address src ++ port sport ++ address dst ++ port dport ++ address opener
    ++ address server) (Redirect side n src sport dst dport opener server) refl
    (ap redirect_at
    (fields_8 (byte side) (number n) (address src) (port sport) (address dst) (port dport) (address opener)
    (address server)) ∙ redirect_again side n src sport dst dport opener server [] h)
