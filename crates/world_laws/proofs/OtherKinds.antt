-- What is spelled as nothing of the agreement is read as nothing of it, whatever its fields.
use Rattle.std.proofs.Common.{◌≡◌, refl, subst, inl, inr, ◌⊎◌, ℕ, Bool, true, false, ltb, ◌==◌, if◌then◌else◌, List, ◌∷◌, length, Some, None, Result, Ok, Err, arith}
use Rattle.std.proofs.lemmas.Bool.{le-ltb}
use Rattle.wire_core.specs.Reading.{Read, ◌>>=◌, field}
use Rattle.control_msg.specs.declared.kind.Kind.{Kind}
use Rattle.control_msg.specs.declared.kind.Kind.TheVariants as kind
use Rattle.control_msg.specs.declared.message.Message.{Message}
use Rattle.control_msg.specs.declared.message.Message.TheVariants as message
use Rattle.control_msg.specs.declared.reading.MessageFault.{MessageFault}
use Rattle.control_msg.specs.Messages.{message_bytes}
use Rattle.control_msg.specs.Reading.{address_at, start_at, reason_at, side_at, number_at, two_numbers_at, three_numbers_at, ask_at, grant_at, denied_at, program_at, unprogram_at, redirect_ask_at, redirect_at, kind_of, fields_at, whole, of_kind, message_at}
use Rattle.paxos_spec.specs.declared.mail.Body.{Body}
use Rattle.paxos_spec.specs.declared.mail.Body.TheVariants as body
use Rattle.manager_spec.specs.Manager.{message_of}
use Rattle.manager_spec.specs.Agreement.{body_in}

-- a message is nothing of the agreement, or it is what the agreement says
pub agreed_or : (m : Message) → (body_in m ≡ None) ⊎ ((b : Body) × (body_in m ≡ Some b) × (message_of b ≡ m))
agreed_or (message.Prepare c) = inr (body.Prepare c, refl, refl)
agreed_or (message.Promise c l vote value) = inr (body.Promise c l vote value, refl, refl)
agreed_or (message.Accept c t v) = inr (body.Accept c t v, refl, refl)
agreed_or (message.Accepted c t) = inr (body.Accepted c t, refl, refl)
agreed_or (message.Refuse c p) = inr (body.Refuse c p, refl, refl)
agreed_or (message.Chosen t c v) = inr (body.Chosen t c v, refl, refl)
agreed_or (message.Fetch t) = inr (body.Fetch t, refl, refl)
agreed_or _ = inl refl

-- what is read, if anything is, is nothing of the agreement
abbrev IsOther : Read Message → Type 0
IsOther r = (x : Message × List ℕ) → r ≡ Ok x → body_in x.0 ≡ None

abbrev read_as : Message × List ℕ → Read Message
read_as x = Ok x

read_is : (x y : Message × List ℕ) → read_as x ≡ read_as y → x ≡ y
read_is x y e = cc

abbrev message_as : Message → Result Message MessageFault
message_as m = Ok m

pub message_same : (m x : Message) → message_as m ≡ message_as x → m ≡ x
message_same m x e = cc

read_first : {A : Type 0} (r : Read A) (f : A × List ℕ → Read Message) → ((x : A × List ℕ) → IsOther (f x))
    → IsOther (r >>= f)
read_first (Ok x) f h = h x
read_first (Err fault) f h = λ x e. absurd (cc)

is_read : (m : Message) (rest : List ℕ) → body_in m ≡ None → IsOther (Ok (m, rest))
is_read m rest h x e = subst (λ (y : Message × List ℕ). body_in y.0 ≡ None) (read_is (m, rest) x e) h

number_other : (make : ℕ → Message) → ((a : ℕ) → body_in (make a) ≡ None) → (bytes : List ℕ) → IsOther (number_at make bytes)
unfolding number_at
number_other make h bytes = read_first (field 8 bytes) _ (λ a. is_read (make a.0) a.1 (h a.0))

two_other : (make : ℕ → ℕ → Message) → ((a b : ℕ) → body_in (make a b) ≡ None) → (bytes : List ℕ)
    → IsOther (two_numbers_at make bytes)
unfolding two_numbers_at
two_other make h bytes =
    read_first (field 8 bytes) _ (λ a. read_first (field 8 a.1) _ (λ b. is_read (make a.0 b.0) b.1 (h a.0 b.0)))

three_other : (make : ℕ → ℕ → ℕ → Message) → ((a b c : ℕ) → body_in (make a b c) ≡ None) → (bytes : List ℕ)
    → IsOther (three_numbers_at make bytes)
unfolding three_numbers_at
three_other make h bytes = read_first (field 8 bytes) _ (λ a. read_first (field 8 a.1) _
    (λ b. read_first (field 8 b.1) _ (λ c. is_read (make a.0 b.0 c.0) c.1 (h a.0 b.0 c.0))))

ask_other : (bytes : List ℕ) → IsOther (ask_at bytes)
unfolding ask_at
ask_other bytes = read_first (field 8 bytes) _ (λ a. read_first (address_at a.1) _
    (λ b. read_first (field 8 b.1) _ (λ c. is_read (message.Ask a.0 b.0 c.0) c.1 refl)))

grant_other : (bytes : List ℕ) → IsOther (grant_at bytes)
unfolding grant_at
grant_other bytes = read_first (field 8 bytes) _ (λ a. read_first (address_at a.1) _ (λ b. read_first (field 8 b.1) _
    (λ c. read_first (field 8 c.1) _ (λ d. read_first (address_at d.1) _ (λ e. read_first (start_at e.1) _
    (λ f. is_read (message.Grant a.0 b.0 c.0 d.0 e.0 f.0) f.1 refl))))))

denied_other : (bytes : List ℕ) → IsOther (denied_at bytes)
unfolding denied_at
denied_other bytes = read_first (field 8 bytes) _ (λ a. read_first (address_at a.1) _ (λ b. read_first (field 8 b.1) _
    (λ c. read_first (reason_at c.1) _ (λ d. read_first (field 8 d.1) _
    (λ e. is_read (message.Denied a.0 b.0 c.0 d.0 e.0) e.1 refl)))))

program_other : (bytes : List ℕ) → IsOther (program_at bytes)
unfolding program_at
program_other bytes = read_first (field 8 bytes) _ (λ a. read_first (field 8 a.1) _ (λ b. read_first (field 8 b.1) _
    (λ c. read_first (address_at c.1) _ (λ d. read_first (start_at d.1) _ (λ e. read_first (address_at e.1) _
    (λ f. is_read (message.Program a.0 b.0 c.0 d.0 e.0 f.0) f.1 refl))))))

unprogram_other : (bytes : List ℕ) → IsOther (unprogram_at bytes)
unfolding unprogram_at
unprogram_other bytes = read_first (field 8 bytes) _ (λ a. read_first (field 8 a.1) _ (λ b. read_first (field 8 b.1) _
    (λ c. read_first (address_at c.1) _ (λ d. read_first (start_at d.1) _
    (λ e. is_read (message.Unprogram a.0 b.0 c.0 d.0 e.0) e.1 refl)))))

redirect_ask_other : (bytes : List ℕ) → IsOther (redirect_ask_at bytes)
unfolding redirect_ask_at
redirect_ask_other bytes = read_first (address_at bytes) _ (λ a. read_first (field 2 a.1) _
    (λ b. read_first (address_at b.1) _ (λ c. read_first (field 2 c.1) _ (λ d. read_first (address_at d.1) _
    (λ e. is_read (message.RedirectAsk a.0 b.0 c.0 d.0 e.0) e.1 refl)))))

redirect_other : (bytes : List ℕ) → IsOther (redirect_at bytes)
unfolding redirect_at
redirect_other bytes = read_first (side_at bytes) _ (λ a. read_first (field 8 a.1) _ (λ b. read_first (address_at b.1) _
    (λ c. read_first (field 2 c.1) _ (λ d. read_first (address_at d.1) _ (λ e. read_first (field 2 e.1) _
    (λ f. read_first (address_at f.1) _ (λ g. read_first (address_at g.1) _
    (λ h. is_read (message.Redirect a.0 b.0 c.0 d.0 e.0 f.0 g.0 h.0) h.1 refl))))))))

-- ---- the whole

whole_by : (total : ℕ) (x : Message × List ℕ) (fault : MessageFault) (m : Message) (b : Bool) → body_in x.0 ≡ None
    → (if b then Ok x.0 else Err fault) ≡ Ok m → body_in m ≡ None
whole_by total x fault m true h e = subst (λ (y : Message). body_in y ≡ None) (message_same x.0 m e) h
whole_by total x fault m false h e = absurd (cc)

whole_other : (total : ℕ) (r : Read Message) (m : Message) → IsOther r → whole total r ≡ Ok m → body_in m ≡ None
whole_other total (Ok x) m h e = whole_by total x _ m (length x.1 == 0) (h x refl) e
whole_other total (Err fault) m h e = absurd (cc)

opened : (byte : ℕ) (k : Kind) (fields : List ℕ) (m : Message) → kind_of byte ≡ Some k → IsOther (fields_at k fields)
    → message_at (1 ∷ byte ∷ fields) ≡ Ok m → body_in m ≡ None
unfolding message_at
opened byte k fields m is h e =
    let long : ltb (length (1 ∷ byte ∷ fields)) 2 ≡ false = le-ltb _ _ (omega arith) in
    let read : of_kind (1 ∷ byte ∷ fields) (kind_of byte) ≡ Ok m = rw long at e in
    let found : of_kind (1 ∷ byte ∷ fields) (Some k) ≡ Ok m = rw is at read in
    whole_other (length (1 ∷ byte ∷ fields)) (fields_at k fields) m h found

-- what isn't of the agreement is heard as nothing of it
pub stays_other : (m x : Message) → body_in m ≡ None → message_at (message_bytes m) ≡ Ok x → body_in x ≡ None
stays_other (message.Prepare c) x h e = absurd (cc)
stays_other (message.Promise c l vote value) x h e = absurd (cc)
stays_other (message.Accept c t v) x h e = absurd (cc)
stays_other (message.Accepted c t) x h e = absurd (cc)
stays_other (message.Refuse c p) x h e = absurd (cc)
stays_other (message.Chosen t c v) x h e = absurd (cc)
stays_other (message.Fetch t) x h e = absurd (cc)
stays_other (message.Ask boot machine seq) x h e = opened 8 kind.Ask _ x refl (ask_other _) e
stays_other (message.Grant boot machine seq n vip start) x h e = opened 9 kind.Grant _ x refl (grant_other _) e
stays_other (message.Denied boot machine seq reason number) x h e = opened 10 kind.Denied _ x refl (denied_other _) e
stays_other (message.Return boot n) x h e = opened 11 kind.Return _ x refl (two_other message.Return (λ a b. refl) _) e
stays_other (message.Returned boot n) x h e = opened 12 kind.Returned _ x refl (two_other message.Returned (λ a b. refl) _) e
stays_other (message.AgentUp boot) x h e = opened 13 kind.AgentUp _ x refl (number_other message.AgentUp (λ a. refl) _) e
stays_other (message.AgentKnown boot) x h e = opened 14 kind.AgentKnown _ x refl (number_other message.AgentKnown (λ a. refl) _) e
stays_other (message.MuxHello boot epoch) x h e = opened 15 kind.MuxHello _ x refl (two_other message.MuxHello (λ a b. refl) _) e
stays_other (message.Program epoch boot n vip start machine) x h e = opened 16 kind.Program _ x refl (program_other _) e
stays_other (message.Programmed epoch boot n) x h e =
    opened 17 kind.Programmed _ x refl (three_other message.Programmed (λ a b c. refl) _) e
stays_other (message.Unprogram epoch boot n vip start) x h e = opened 18 kind.Unprogram _ x refl (unprogram_other _) e
stays_other (message.Unprogrammed epoch boot n) x h e =
    opened 19 kind.Unprogrammed _ x refl (three_other message.Unprogrammed (λ a b c. refl) _) e
stays_other (message.MuxRefuse epoch boot kept) x h e =
    opened 20 kind.MuxRefuse _ x refl (three_other message.MuxRefuse (λ a b c. refl) _) e
stays_other (message.Lead ballot length) x h e = opened 21 kind.Lead _ x refl (two_other message.Lead (λ a b. refl) _) e
stays_other (message.RedirectAsk src sport dst dport machine) x h e =
    opened 22 kind.RedirectAsk _ x refl (redirect_ask_other _) e
stays_other (message.Redirect side n src sport dst dport opener server) x h e =
    opened 23 kind.Redirect _ x refl (redirect_other _) e
