-- A message that is read from a whole text is spelled by it.
use Rattle.std.proofs.Common.{◌≡◌, ◌∙◌, ℕ, suc, Bool, true, false, ltb, ◌==◌, not, if◌then◌else◌, List, [], ◌∷◌, length}
use Rattle.std.proofs.Common.{Option, Some, None, Result, Ok, Err, refl, sym, ap, append-nil, arith, cond}
use Rattle.std.proofs.lemmas.Bool.{le-ltb}
use Rattle.std.proofs.lemmas.Bool.Decides.{nat_tests}
use Rattle.wire_core.specs.Numbers.{AreBytes}
use Rattle.wire_core.specs.Reading.{Read}
use Rattle.control_msg.specs.declared.kind.Kind.{Kind}
use Rattle.control_msg.specs.declared.message.Message.{Message}
use Rattle.control_msg.specs.declared.reading.MessageFault.{MessageFault}
use Rattle.control_msg.specs.declared.reading.MessageFault.TheVariants as fault
use Rattle.control_msg.specs.Messages.{spelled, message_bytes, IsMessage}
use Rattle.control_msg.specs.Reading.{kind_of, fields_at, whole, of_kind, message_at}
use Rattle.control_msg.specs.Frames.{Framed, Control, Packet, frame_bytes, frame_at}
use Rattle.control_msg.proofs.SpellingLaws.{byte_of, fields_are, kind_byte}

abbrev read_as : Message → List ℕ → Read Message
read_as m rest = Ok (m, rest)

nothing_left : (total : ℕ) (x : Message) (rest : List ℕ) (m : Message) → whole total (read_as x rest) ≡ Ok m
    → read_as x rest ≡ read_as m []
nothing_left total x [] m e = let same : x ≡ m = cc in ap (λ (y : Message). read_as y []) same
nothing_left total x (b ∷ bs) m e =
    let some : (length (b ∷ bs) == 0) ≡ false = grind (arith, nat_tests) in
    let left = rw some at e in
    absurd cc

whole_ok : (total : ℕ) (read : Read Message) (m : Message) → whole total read ≡ Ok m → read ≡ read_as m []
whole_ok total (Ok x) m e = nothing_left total x.0 x.1 m e
whole_ok total (Err d) m e = absurd cc

-- the parts of a message that was read
record Opened (version kind : ℕ) (fields : List ℕ) (m : Message) : Type 0 where
  one : version ≡ 1
  found : Kind
  listed : kind_of kind ≡ Some found
  read : fields_at found fields ≡ read_as m []

guarded : (b : Bool) (d : MessageFault) (r : Result Message MessageFault) (m : Message) → cond b (Err d) r ≡ Ok m
    → (b ≡ false) × (r ≡ Ok m)
guarded true d r m e = absurd cc
guarded false d r m e = (refl, e)

is_one : (version : ℕ) → not (version == 1) ≡ false → version ≡ 1
is_one version e = by (version == 1) refl e
  where
    by : (b : Bool) → (version == 1) ≡ b → not b ≡ false → version ≡ 1
    by true is e = grind (arith, nat_tests)
    by false is e = absurd cc

by_kind : (version kind : ℕ) (fields : List ℕ) (m : Message) → version ≡ 1 → (o : Option Kind) → kind_of kind ≡ o
    → of_kind (version ∷ kind ∷ fields) o ≡ Ok m → Opened version kind fields m
by_kind version kind fields m one None is e = absurd cc
by_kind version kind fields m one (Some k) is e =
    record {
      one = one;
      found = k;
      listed = is;
      read = whole_ok (length (version ∷ kind ∷ fields)) (fields_at k fields) m e;
    }

opened : (version kind : ℕ) (fields : List ℕ) (m : Message) → message_at (version ∷ kind ∷ fields) ≡ Ok m
    → Opened version kind fields m
unfolding message_at
opened version kind fields m e =
    let long : ltb (length (version ∷ kind ∷ fields)) 2 ≡ false = le-ltb _ _ (omega arith) in
    let read = rw long at e in
    let g = guarded (not (version == 1)) (fault.Field 0) (of_kind (version ∷ kind ∷ fields) (kind_of kind)) m read in
    by_kind version kind fields m (is_one version g.0) (kind_of kind) refl g.1

three : (version kind : ℕ) (fields : List ℕ) (own : ℕ) (front : List ℕ) → version ≡ 1 → kind ≡ own → fields ≡ front
    → version ∷ kind ∷ fields ≡ spelled own front
three version kind fields own front one same rest = rw (one, same, rest) refl

no_bytes : (m : Message) → message_at [] ≡ Ok m → ⊥
unfolding message_at
no_bytes m e = cc

one_byte : (b : ℕ) (m : Message) → message_at (b ∷ []) ≡ Ok m → ⊥
unfolding message_at
one_byte b m e = cc

pub message_is : (bytes : List ℕ) (m : Message) → AreBytes bytes → message_at bytes ≡ Ok m
    → (bytes ≡ message_bytes m) × IsMessage m
message_is [] m h e = absurd (no_bytes m e)
message_is (b ∷ []) m h e = absurd (one_byte b m e)
message_is (version ∷ kind ∷ fields) m h e =
    let o = opened version kind fields m e in
    let behind : AreBytes fields = λ k. h (suc (suc k)) in
    let has = fields_are o.found fields (m, []) behind o.read in
    let same : kind ≡ byte_of o.found = kind_byte kind o.found o.listed in
    let front : fields ≡ has.front = has.splits.joined ∙ append-nil has.front in
    (three version kind fields (byte_of o.found) has.front o.one same front ∙ sym has.spelling, has.allowed)

-- ---- frames

pub frame_again : (f : Framed) → frame_at (frame_bytes f) ≡ Some f
frame_again (Control message) = refl
frame_again (Packet packet) = refl

pub frame_is : (bytes : List ℕ) (f : Framed) → frame_at bytes ≡ Some f → bytes ≡ frame_bytes f
frame_is [] f e = absurd cc
frame_is (first ∷ rest) f e = by_one (first == 1) refl e
  where
    by_two : (b : Bool) → (first == 2) ≡ b → (if b then Some (Packet rest) else None) ≡ Some f
        → first ∷ rest ≡ frame_bytes f
    by_two true is e = let same : Packet rest ≡ f = cc in let at : first ≡ 2 =
        grind (arith, nat_tests) in rw at (ap frame_bytes same)
    by_two false is e = absurd cc

    by_one : (b : Bool) → (first == 1) ≡ b
        → (if b then Some (Control rest) else if first == 2 then Some (Packet rest) else None) ≡ Some f
        → first ∷ rest ≡ frame_bytes f
    by_one true is e = let same : Control rest ≡ f = cc in let at : first ≡ 1 =
        grind (arith, nat_tests) in rw at (ap frame_bytes same)
    by_one false is e = by_two (first == 2) refl e
