-- What is read of a message is spelled by the bytes that were read, and allowed.
use Rattle.std.proofs.Common.{◌≡◌, ◌∙◌, ℕ, ◌<◌, ◌%◌, Bool, true, false, cond, ◌==◌, nat_le, if◌then◌else◌, List, ◌++◌}
use Rattle.std.proofs.Common.{length, Option, Some, None, Result, Ok, Err, refl, sym, ap, subst, arith, inl, inr}
use Rattle.std.proofs.lemmas.Bool.Decides.{nat_tests}
use Rattle.wire_core.specs.declared.address.Ip4.{Ip4}
use Rattle.wire_core.specs.declared.reading.FieldFault.{FieldFault}
use Rattle.wire_core.specs.declared.reading.FieldFault.TheVariants.{NotAllowed}
use Rattle.wire_core.specs.Numbers.{AreBytes}
use Rattle.wire_core.specs.Commands.{LogCommand, IsValue, value_bytes}
use Rattle.wire_core.specs.Reading.{Read, ◌>>=◌, field, value_at}
use Rattle.wire_core.proofs.ReadingLaws.{done_is, bind_ok, chosen, Splits, splits_none, splits_then, field_is, byte_is}
use Rattle.wire_core.proofs.CommandLaws.{value_is}
use Rattle.control_msg.specs.declared.kind.Kind.{Kind}
use Rattle.control_msg.specs.declared.kind.Kind.TheVariants as kind
use Rattle.control_msg.specs.declared.message.Message.{Message}
use Rattle.control_msg.specs.declared.message.Message.TheVariants.{Prepare, Promise, Accept, Accepted, Refuse, Chosen}
use Rattle.control_msg.specs.declared.message.Message.TheVariants.{Fetch, Ask, Grant, Denied, Return, Returned, AgentUp}
use Rattle.control_msg.specs.declared.message.Message.TheVariants.{AgentKnown, MuxHello, Program, Programmed, Unprogram}
use Rattle.control_msg.specs.declared.message.Message.TheVariants.{Unprogrammed, MuxRefuse, Lead, RedirectAsk, Redirect}
use Rattle.control_msg.specs.Messages.{number, address, port, byte, optional_value, spelled, message_bytes, IsNumber}
use Rattle.control_msg.specs.Messages.{IsAddress, IsPort, IsStart, IsReason, IsSide, IsVote, IsMessage}
use Rattle.control_msg.specs.Reading.{address_at, tested_at, is_start, is_reason, is_side, start_at, reason_at, side_at}
use Rattle.control_msg.specs.Reading.{vote_value_at, number_at, two_numbers_at, three_numbers_at, valued_at, promise_at}
use Rattle.control_msg.specs.Reading.{ask_at, grant_at, denied_at, program_at, unprogram_at, redirect_ask_at}
use Rattle.control_msg.specs.Reading.{redirect_at, kind_of, fields_at}

-- ---- fields

-- what is read is allowed, and spelled by the bytes in front of what is left
abbrev SpelledSo : {A : Type 0} → (List ℕ → Read A) → (A → List ℕ) → (A → Type 0) → Type 0
SpelledSo {A = A} read spelling allowed =
    (bytes : List ℕ) (a : A) (rest : List ℕ) → AreBytes bytes → read bytes ≡ Ok (a, rest)
    → Splits bytes (spelling a) rest × allowed a

number_is : SpelledSo (field 8) number IsNumber
number_is bytes a rest h e = let f = field_is 8 bytes (a, rest) h e in (f.splits, f.small)

port_is : SpelledSo (field 2) port IsPort
port_is bytes a rest h e = let f = field_is 2 bytes (a, rest) h e in (f.splits, f.small)

value_fits : SpelledSo value_at value_bytes IsValue
value_fits bytes a rest h e = let f = value_is bytes (a, rest) h e in (f.splits, f.value)

address_is : SpelledSo address_at address IsAddress
unfolding address_at
address_is bytes a rest h e =
    let n = bind_ok (field 4 bytes) (λ n. Ok (record { 0 = n.0 }, n.1)) (a, rest) e in
    let f = field_is 4 bytes n.0 h n.1 in
    let made : Ip4 × List ℕ = (record { 0 = n.0.0 }, n.0.1) in
    let P : Ip4 × List ℕ → Type 0 = λ x. Splits bytes (address x.0) x.1 × IsAddress x.0 in
    subst P (done_is made (a, rest) n.2) (f.splits, f.small)

-- a test that was passed
passed : {A : Type 0} (b : Bool) (d : FieldFault) (r : Result A FieldFault) (y : A) → cond b r (Err d) ≡ Ok y
    → (b ≡ true) × (r ≡ Ok y)
passed true d r y e = (refl, e)
passed false d r y e = absurd cc

abbrev number_read : ℕ × List ℕ → Read ℕ
number_read x = Ok (x.0, x.1)

tested : (passes : ℕ → Bool) (n : ℕ) (bytes : List ℕ) (x : ℕ × List ℕ) → tested_at passes n bytes ≡ Ok x
    → (passes x.0 ≡ true) × (field n bytes ≡ Ok x)
tested passes n bytes x e =
    let a = bind_ok (field n bytes) (λ a. if passes a.0 then Ok (a.0, a.1) else Err (NotAllowed (length bytes))) x e in
    let p = passed (passes a.0.0) (NotAllowed (length bytes)) (number_read a.0) x a.2 in
    let same : a.0 ≡ x = done_is a.0 x p.1 in
    (subst (λ (y : ℕ × List ℕ). passes y.0 ≡ true) same p.0, subst (λ (y : ℕ × List ℕ). field n bytes ≡ Ok y) same a.1)

start_allowed : (start : ℕ) → is_start start ≡ true → IsStart start
start_allowed start e = (
  let multiple : (start % 8 == 0) ≡ true = grind arith in grind (arith, nat_tests),
  let low : nat_le 1024 start ≡ true = grind arith in grind (arith, nat_tests),
  let high : nat_le start 65528 ≡ true = grind arith in grind (arith, nat_tests),
)

start_is : SpelledSo start_at port IsStart
unfolding start_at
start_is bytes a rest h e = let t =
    tested is_start 2 bytes (a, rest) e in ((field_is 2 bytes (a, rest) h t.1).splits, start_allowed a t.0)

reason_allowed : (reason : ℕ) → is_reason reason ≡ true → IsReason reason
reason_allowed reason e = (
  let low : nat_le 1 reason ≡ true = grind arith in grind (arith, nat_tests),
  let high : nat_le reason 2 ≡ true = grind arith in grind (arith, nat_tests),
)

reason_is : SpelledSo reason_at byte IsReason
unfolding reason_at
reason_is bytes a rest h e = let t =
    tested is_reason 1 bytes (a, rest) e in ((byte_is bytes (a, rest) h t.1).splits, reason_allowed a t.0)

side_allowed : (side : ℕ) → is_side side ≡ true → IsSide side
side_allowed side e = grind (arith, nat_tests)

side_is : SpelledSo side_at byte IsSide
unfolding side_at
side_is bytes a rest h e = let t =
    tested is_side 1 bytes (a, rest) e in ((byte_is bytes (a, rest) h t.1).splits, side_allowed a t.0)

no_vote : (vote : ℕ) → (vote == 0) ≡ true → vote ≡ 0
no_vote vote e = grind (arith, nat_tests)

some_vote : (vote : ℕ) → (vote == 0) ≡ false → 0 < vote
some_vote vote e = grind (arith, nat_tests)

vote_value_is : (vote : ℕ) → SpelledSo (vote_value_at vote) optional_value (IsVote vote)
unfolding vote_value_at
vote_value_is vote bytes a rest h e =
    let P : Option (List LogCommand) × List ℕ → Type 0 = λ x. Splits bytes (optional_value x.0) x.1 × IsVote vote x.0 in
    elim (chosen (vote == 0) _ _ _ e) [
      | inl none ↦
          let made : Option (List LogCommand) × List ℕ = (None, bytes) in
          subst P (done_is made (a, rest) none.1) (splits_none bytes h, no_vote vote none.0)
      | inr some ↦
          let v = bind_ok (value_at bytes) (λ value. Ok (Some value.0, value.1)) (a, rest) some.1 in
          let f = value_is bytes v.0 h v.1 in
          let made : Option (List LogCommand) × List ℕ = (Some v.0.0, v.0.1) in
          subst P (done_is made (a, rest) v.2) (f.splits, (some_vote vote some.0, f.value))
    ]

-- ---- the fields of a message

-- the fields of a message of this kind in front of what is left
pub record HasFields (kind : ℕ) (whole : List ℕ) (x : Message × List ℕ) : Type 0 where
  pub front : List ℕ
  pub splits : Splits whole front x.1
  pub spelling : message_bytes x.0 ≡ spelled kind front
  pub allowed : IsMessage x.0

abbrev message_read : Message → List ℕ → Read Message
message_read m rest = Ok (m, rest)

-- one field more was read
step : {A Goal : Type 0} {spelling : A → List ℕ} {allowed : A → Type 0} {whole front : List ℕ}
    (read : List ℕ → Read A) (more : A × List ℕ → Read Message) → SpelledSo read spelling allowed
    → (bytes : List ℕ) (x : Message × List ℕ) → Splits whole front bytes → (read bytes >>= more) ≡ Ok x
    → ((a : A) (rest : List ℕ) → allowed a → Splits whole (front ++ spelling a) rest → more (a, rest) ≡ Ok x → Goal)
    → Goal
step read more law bytes x splits e goal =
    let r = bind_ok (read bytes) more x e in
    let is = law bytes r.0.0 r.0.1 splits.bytes r.1 in
    goal r.0.0 r.0.1 is.1 (splits_then _ _ _ _ _ splits is.0) r.2

-- all fields were read
ended : {whole front : List ℕ} (kind : ℕ) (m : Message) (rest : List ℕ) (x : Message × List ℕ)
    → Splits whole front rest → message_bytes m ≡ spelled kind front → IsMessage m → message_read m rest ≡ Ok x
    → HasFields kind whole x
ended {whole = whole} {front = front} kind m rest x splits spelling allowed e =
    let has : HasFields kind whole (m, rest) =
    record { front = front; splits = splits; spelling = spelling; allowed = allowed } in
    subst (HasFields kind whole) (done_is (m, rest) x e) has

number_has : (make : ℕ → Message) (kind : ℕ) → ((a : ℕ) → message_bytes (make a) ≡ spelled kind (number a))
    → ((a : ℕ) → IsNumber a → IsMessage (make a))
    → (bytes : List ℕ) (x : Message × List ℕ) → AreBytes bytes → number_at make bytes ≡ Ok x → HasFields kind bytes x
unfolding number_at
number_has make kind spelling allowed bytes x h e =
    step (field 8) _ number_is bytes x (splits_none bytes h) e (λ a after_a is_a to_a next_a.
    ended kind (make a) after_a x to_a (spelling a) (allowed a is_a) next_a)

two_numbers_has : (make : ℕ → ℕ → Message) (kind : ℕ)
    → ((a : ℕ) (b : ℕ) → message_bytes (make a b) ≡ spelled kind (number a ++ number b))
    → ((a : ℕ) (b : ℕ) → IsNumber a → IsNumber b → IsMessage (make a b))
    → (bytes : List ℕ) (x : Message × List ℕ) → AreBytes bytes → two_numbers_at make bytes ≡ Ok x
    → HasFields kind bytes x
unfolding two_numbers_at
two_numbers_has make kind spelling allowed bytes x h e =
    step (field 8) _ number_is bytes x (splits_none bytes h) e (λ a after_a is_a to_a next_a.
    step (field 8) _ number_is after_a x to_a next_a (λ b after_b is_b to_b next_b.
    ended kind (make a b) after_b x to_b (spelling a b) (allowed a b is_a is_b) next_b))

three_numbers_has : (make : ℕ → ℕ → ℕ → Message) (kind : ℕ)
    → ((a : ℕ) (b : ℕ) (c : ℕ) → message_bytes (make a b c) ≡ spelled kind (number a ++ number b ++ number c))
    → ((a : ℕ) (b : ℕ) (c : ℕ) → IsNumber a → IsNumber b → IsNumber c → IsMessage (make a b c))
    → (bytes : List ℕ) (x : Message × List ℕ) → AreBytes bytes → three_numbers_at make bytes ≡ Ok x
    → HasFields kind bytes x
unfolding three_numbers_at
three_numbers_has make kind spelling allowed bytes x h e =
    step (field 8) _ number_is bytes x (splits_none bytes h) e (λ a after_a is_a to_a next_a.
    step (field 8) _ number_is after_a x to_a next_a (λ b after_b is_b to_b next_b.
    step (field 8) _ number_is after_b x to_b next_b (λ c after_c is_c to_c next_c.
    ended kind (make a b c) after_c x to_c (spelling a b c) (allowed a b c is_a is_b is_c) next_c)))

valued_has : (make : ℕ → ℕ → List LogCommand → Message) (kind : ℕ)
    → ((a : ℕ) (b : ℕ) (value : List LogCommand)
    → message_bytes (make a b value) ≡ spelled kind (number a ++ number b ++ value_bytes value))
    → ((a : ℕ) (b : ℕ) (value : List LogCommand) → IsNumber a → IsNumber b → IsValue value → IsMessage (make a b value))
    → (bytes : List ℕ) (x : Message × List ℕ) → AreBytes bytes → valued_at make bytes ≡ Ok x → HasFields kind bytes x
unfolding valued_at
valued_has make kind spelling allowed bytes x h e =
    step (field 8) _ number_is bytes x (splits_none bytes h) e (λ a after_a is_a to_a next_a.
    step (field 8) _ number_is after_a x to_a next_a (λ b after_b is_b to_b next_b.
    step value_at _ value_fits after_b x to_b next_b (λ value after_value is_value to_value next_value.
    ended kind (make a b value) after_value x to_value (spelling a b value)
    (allowed a b value is_a is_b is_value) next_value)))

promise_has : (bytes : List ℕ) (x : Message × List ℕ) → AreBytes bytes → promise_at bytes ≡ Ok x → HasFields 2 bytes x
unfolding promise_at
promise_has bytes x h e =
    step (field 8) _ number_is bytes x (splits_none bytes h) e (λ ballot after_ballot is_ballot to_ballot next_ballot.
    step (field 8) _ number_is after_ballot x to_ballot next_ballot
    (λ length after_length is_length to_length next_length.
    step (field 8) _ number_is after_length x to_length next_length (λ vote after_vote is_vote to_vote next_vote.
    step (vote_value_at vote) _ (vote_value_is vote) after_vote x to_vote next_vote
    (λ value after_value is_value to_value next_value.
    ended 2 (Promise ballot length vote value) after_value x to_value refl
    (is_ballot, is_length, is_vote, is_value) next_value))))

ask_has : (bytes : List ℕ) (x : Message × List ℕ) → AreBytes bytes → ask_at bytes ≡ Ok x → HasFields 8 bytes x
unfolding ask_at
ask_has bytes x h e =
    step (field 8) _ number_is bytes x (splits_none bytes h) e (λ boot after_boot is_boot to_boot next_boot.
    step address_at _ address_is after_boot x to_boot next_boot
    (λ machine after_machine is_machine to_machine next_machine.
    step (field 8) _ number_is after_machine x to_machine next_machine (λ seq after_seq is_seq to_seq next_seq.
    ended 8 (Ask boot machine seq) after_seq x to_seq refl (is_boot, is_machine, is_seq) next_seq)))

grant_has : (bytes : List ℕ) (x : Message × List ℕ) → AreBytes bytes → grant_at bytes ≡ Ok x → HasFields 9 bytes x
unfolding grant_at
grant_has bytes x h e =
    step (field 8) _ number_is bytes x (splits_none bytes h) e (λ boot after_boot is_boot to_boot next_boot.
    step address_at _ address_is after_boot x to_boot next_boot
    (λ machine after_machine is_machine to_machine next_machine.
    step (field 8) _ number_is after_machine x to_machine next_machine (λ seq after_seq is_seq to_seq next_seq.
    step (field 8) _ number_is after_seq x to_seq next_seq (λ n after_n is_n to_n next_n.
    step address_at _ address_is after_n x to_n next_n (λ vip after_vip is_vip to_vip next_vip.
    step start_at _ start_is after_vip x to_vip next_vip (λ start after_start is_start to_start next_start.
    ended 9 (Grant boot machine seq n vip start) after_start x to_start refl
    (is_boot, is_machine, is_seq, is_n, is_vip, is_start) next_start))))))

denied_has : (bytes : List ℕ) (x : Message × List ℕ) → AreBytes bytes → denied_at bytes ≡ Ok x → HasFields 10 bytes x
unfolding denied_at
denied_has bytes x h e =
    step (field 8) _ number_is bytes x (splits_none bytes h) e (λ boot after_boot is_boot to_boot next_boot.
    step address_at _ address_is after_boot x to_boot next_boot
    (λ machine after_machine is_machine to_machine next_machine.
    step (field 8) _ number_is after_machine x to_machine next_machine (λ seq after_seq is_seq to_seq next_seq.
    step reason_at _ reason_is after_seq x to_seq next_seq (λ reason after_reason is_reason to_reason next_reason.
    step (field 8) _ number_is after_reason x to_reason next_reason (λ count after_count is_count to_count next_count.
    ended 10 (Denied boot machine seq reason count) after_count x to_count refl
    (is_boot, is_machine, is_seq, is_reason, is_count) next_count)))))

program_has : (bytes : List ℕ) (x : Message × List ℕ) → AreBytes bytes → program_at bytes ≡ Ok x → HasFields 16 bytes x
unfolding program_at
program_has bytes x h e =
    step (field 8) _ number_is bytes x (splits_none bytes h) e (λ epoch after_epoch is_epoch to_epoch next_epoch.
    step (field 8) _ number_is after_epoch x to_epoch next_epoch (λ boot after_boot is_boot to_boot next_boot.
    step (field 8) _ number_is after_boot x to_boot next_boot (λ n after_n is_n to_n next_n.
    step address_at _ address_is after_n x to_n next_n (λ vip after_vip is_vip to_vip next_vip.
    step start_at _ start_is after_vip x to_vip next_vip (λ start after_start is_start to_start next_start.
    step address_at _ address_is after_start x to_start next_start
    (λ machine after_machine is_machine to_machine next_machine.
    ended 16 (Program epoch boot n vip start machine) after_machine x to_machine refl
    (is_epoch, is_boot, is_n, is_vip, is_start, is_machine) next_machine))))))

unprogram_has : (bytes : List ℕ) (x : Message × List ℕ) → AreBytes bytes → unprogram_at bytes ≡ Ok x
    → HasFields 18 bytes x
unfolding unprogram_at
unprogram_has bytes x h e =
    step (field 8) _ number_is bytes x (splits_none bytes h) e (λ epoch after_epoch is_epoch to_epoch next_epoch.
    step (field 8) _ number_is after_epoch x to_epoch next_epoch (λ boot after_boot is_boot to_boot next_boot.
    step (field 8) _ number_is after_boot x to_boot next_boot (λ n after_n is_n to_n next_n.
    step address_at _ address_is after_n x to_n next_n (λ vip after_vip is_vip to_vip next_vip.
    step start_at _ start_is after_vip x to_vip next_vip (λ start after_start is_start to_start next_start.
    ended 18 (Unprogram epoch boot n vip start) after_start x to_start refl
    (is_epoch, is_boot, is_n, is_vip, is_start) next_start)))))

redirect_ask_has : (bytes : List ℕ) (x : Message × List ℕ) → AreBytes bytes → redirect_ask_at bytes ≡ Ok x
    → HasFields 22 bytes x
unfolding redirect_ask_at
redirect_ask_has bytes x h e =
    step address_at _ address_is bytes x (splits_none bytes h) e (λ src after_src is_src to_src next_src.
    step (field 2) _ port_is after_src x to_src next_src (λ sport after_sport is_sport to_sport next_sport.
    step address_at _ address_is after_sport x to_sport next_sport (λ dst after_dst is_dst to_dst next_dst.
    step (field 2) _ port_is after_dst x to_dst next_dst (λ dport after_dport is_dport to_dport next_dport.
    step address_at _ address_is after_dport x to_dport next_dport
    (λ machine after_machine is_machine to_machine next_machine.
    ended 22 (RedirectAsk src sport dst dport machine) after_machine x to_machine refl
    (is_src, is_sport, is_dst, is_dport, is_machine) next_machine)))))

redirect_has : (bytes : List ℕ) (x : Message × List ℕ) → AreBytes bytes → redirect_at bytes ≡ Ok x
    → HasFields 23 bytes x
unfolding redirect_at
redirect_has bytes x h e =
    step side_at _ side_is bytes x (splits_none bytes h) e (λ side after_side is_side to_side next_side.
    step (field 8) _ number_is after_side x to_side next_side (λ n after_n is_n to_n next_n.
    step address_at _ address_is after_n x to_n next_n (λ src after_src is_src to_src next_src.
    step (field 2) _ port_is after_src x to_src next_src (λ sport after_sport is_sport to_sport next_sport.
    step address_at _ address_is after_sport x to_sport next_sport (λ dst after_dst is_dst to_dst next_dst.
    step (field 2) _ port_is after_dst x to_dst next_dst (λ dport after_dport is_dport to_dport next_dport.
    step address_at _ address_is after_dport x to_dport next_dport
    (λ opener after_opener is_opener to_opener next_opener.
    step address_at _ address_is after_opener x to_opener next_opener
    (λ server after_server is_server to_server next_server.
    ended 23 (Redirect side n src sport dst dport opener server) after_server x to_server refl
    (is_side, is_n, is_src, is_sport, is_dst, is_dport, is_opener, is_server) next_server))))))))

-- ---- kinds

abbrev pub byte_of : Kind → ℕ
byte_of kind.Prepare = 1
byte_of kind.Promise = 2
byte_of kind.Accept = 3
byte_of kind.Accepted = 4
byte_of kind.Refuse = 5
byte_of kind.Chosen = 6
byte_of kind.Fetch = 7
byte_of kind.Ask = 8
byte_of kind.Grant = 9
byte_of kind.Denied = 10
byte_of kind.Return = 11
byte_of kind.Returned = 12
byte_of kind.AgentUp = 13
byte_of kind.AgentKnown = 14
byte_of kind.MuxHello = 15
byte_of kind.Program = 16
byte_of kind.Programmed = 17
byte_of kind.Unprogram = 18
byte_of kind.Unprogrammed = 19
byte_of kind.MuxRefuse = 20
byte_of kind.Lead = 21
byte_of kind.RedirectAsk = 22
byte_of kind.Redirect = 23

pub fields_are : (k : Kind) (bytes : List ℕ) (x : Message × List ℕ) → AreBytes bytes → fields_at k bytes ≡ Ok x
    → HasFields (byte_of k) bytes x
fields_are kind.Prepare = number_has Prepare 1 (λ a. refl) (λ a is_a. is_a)
fields_are kind.Promise = promise_has
fields_are kind.Accept =
    valued_has Accept 3 (λ a b value. refl) (λ a b value is_a is_b is_value. (is_a, is_b, is_value))
fields_are kind.Accepted = two_numbers_has Accepted 4 (λ a b. refl) (λ a b is_a is_b. (is_a, is_b))
fields_are kind.Refuse = two_numbers_has Refuse 5 (λ a b. refl) (λ a b is_a is_b. (is_a, is_b))
fields_are kind.Chosen =
    valued_has Chosen 6 (λ a b value. refl) (λ a b value is_a is_b is_value. (is_a, is_b, is_value))
fields_are kind.Fetch = number_has Fetch 7 (λ a. refl) (λ a is_a. is_a)
fields_are kind.Ask = ask_has
fields_are kind.Grant = grant_has
fields_are kind.Denied = denied_has
fields_are kind.Return = two_numbers_has Return 11 (λ a b. refl) (λ a b is_a is_b. (is_a, is_b))
fields_are kind.Returned = two_numbers_has Returned 12 (λ a b. refl) (λ a b is_a is_b. (is_a, is_b))
fields_are kind.AgentUp = number_has AgentUp 13 (λ a. refl) (λ a is_a. is_a)
fields_are kind.AgentKnown = number_has AgentKnown 14 (λ a. refl) (λ a is_a. is_a)
fields_are kind.MuxHello = two_numbers_has MuxHello 15 (λ a b. refl) (λ a b is_a is_b. (is_a, is_b))
fields_are kind.Program = program_has
fields_are kind.Programmed =
    three_numbers_has Programmed 17 (λ a b c. refl) (λ a b c is_a is_b is_c. (is_a, is_b, is_c))
fields_are kind.Unprogram = unprogram_has
fields_are kind.Unprogrammed =
    three_numbers_has Unprogrammed 19 (λ a b c. refl) (λ a b c is_a is_b is_c. (is_a, is_b, is_c))
fields_are kind.MuxRefuse = three_numbers_has MuxRefuse 20 (λ a b c. refl) (λ a b c is_a is_b is_c. (is_a, is_b, is_c))
fields_are kind.Lead = two_numbers_has Lead 21 (λ a b. refl) (λ a b is_a is_b. (is_a, is_b))
fields_are kind.RedirectAsk = redirect_ask_has
fields_are kind.Redirect = redirect_has

-- one more kind of the list
kind_step : (byte wanted : ℕ) (one found : Kind) (others : Option Kind)
    → (if byte == wanted then Some one else others) ≡ Some found → byte_of one ≡ wanted
    → (others ≡ Some found → byte ≡ byte_of found) → byte ≡ byte_of found
kind_step byte wanted one found others e own more = by (byte == wanted) refl e
  where
    by : (b : Bool) → (byte == wanted) ≡ b → cond b (Some one) others ≡ Some found → byte ≡ byte_of found
    by true is e = let same : one ≡ found = cc in let at : byte ≡ wanted =
        grind (arith, nat_tests) in at ∙ sym own ∙ ap byte_of same
    by false is e = more e

pub kind_byte : (byte : ℕ) (found : Kind) → kind_of byte ≡ Some found → byte ≡ byte_of found
kind_byte byte found e =
    kind_step byte 1 kind.Prepare found _ e refl
    (λ e. kind_step byte 2 kind.Promise found _ e refl
    (λ e. kind_step byte 3 kind.Accept found _ e refl
    (λ e. kind_step byte 4 kind.Accepted found _ e refl
    (λ e. kind_step byte 5 kind.Refuse found _ e refl
    (λ e. kind_step byte 6 kind.Chosen found _ e refl
    (λ e. kind_step byte 7 kind.Fetch found _ e refl
    (λ e. kind_step byte 8 kind.Ask found _ e refl
    (λ e. kind_step byte 9 kind.Grant found _ e refl
    (λ e. kind_step byte 10 kind.Denied found _ e refl
    (λ e. kind_step byte 11 kind.Return found _ e refl
    (λ e. kind_step byte 12 kind.Returned found _ e refl
    (λ e. kind_step byte 13 kind.AgentUp found _ e refl
    (λ e. kind_step byte 14 kind.AgentKnown found _ e refl
    (λ e. kind_step byte 15 kind.MuxHello found _ e refl
    (λ e. kind_step byte 16 kind.Program found _ e refl
    (λ e. kind_step byte 17 kind.Programmed found _ e refl
    (λ e. kind_step byte 18 kind.Unprogram found _ e refl
    (λ e. kind_step byte 19 kind.Unprogrammed found _ e refl
    (λ e. kind_step byte 20 kind.MuxRefuse found _ e refl
    (λ e. kind_step byte 21 kind.Lead found _ e refl
    (λ e. kind_step byte 22 kind.RedirectAsk found _ e refl
    (λ e. kind_step byte 23 kind.Redirect found _ e refl
    (λ e. absurd cc)))))))))))))))))))))))
