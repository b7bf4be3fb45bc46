-- A Grant that an agent takes is of a lease of its own: what it hears is what a replica told it.
use Rattle.std.proofs.Common.{◌≡◌, refl, sym, ap, subst, ◌∙◌, ◌⊎◌, inl, inr, ℕ, ◌+◌, ◌<◌, ◌≤◌, ◌^◌, Bool, true, false}
use Rattle.std.proofs.Common.{List, [], ◌∷◌, ◌++◌, drop, Option, Some, None, Ok, arith, append-nil}
use Rattle.std.proofs.lemmas.List.{append_assoc}
use Rattle.byteorder.specs.Endian.{big_number}
use Rattle.wire_core.proofs.AgainLaws.{big_number-number_bytes, drop-number_bytes}
use Rattle.wire_core.specs.Members.{In, Each}
use Rattle.wire_core.specs.Numbers.{AreBytes, number_bytes}
use Rattle.wire_core.specs.Ranges.{range_at}
use Rattle.wire_core.specs.declared.address.Ip4.{Ip4}
use Rattle.wire_core.specs.declared.node.NodeId.{NodeId}
use Rattle.wire_core.specs.declared.node.NodeId.TheVariants.{Replica, Agent}
use Rattle.wire_core.specs.declared.range.Range.{Range}
use Rattle.control_msg.proofs.WholeLaws.{message_is}
use Rattle.control_msg.specs.Messages.{IsMessage, address, byte, message_bytes, number, port, spelled}
use Rattle.control_msg.specs.Reading.{message_at}
use Rattle.control_msg.specs.declared.message.Message.{Message}
use Rattle.control_msg.specs.declared.message.Message.TheVariants as message
use Rattle.vip_config.specs.Serving.{has_snat}
use Rattle.vip_config.specs.declared.parts.ConfigParts.{ConfigParts}
use Rattle.agent_spec.proofs.Counting.{has_both}
use Rattle.agent_spec.specs.Agent.{Agent as AgentLists}
use Rattle.agent_spec.specs.Leases.{IsTaken, heard_in}
use Rattle.lease_spec.proofs.MemberLaws.{each_in}
use Rattle.lease_spec.specs.declared.row.Row.{Row}
use Rattle.node_spec.specs.Datagrams.{Heard, Told, heard}
use Rattle.node_spec.specs.Sends.{ToNode, Says}
use Rattle.node_spec.specs.Turns.{Input, Arrived, Ticked}
use Rattle.world_spec.specs.Facts.{Reached}
use Rattle.world_spec.specs.Shapes.{Given}
use Rattle.world_spec.specs.World.{World, Sent}
use Rattle.world_laws.specs.Grants.{AnswersAreTrue, IsForAgent, IsLease}
use Rattle.world_laws.specs.Hearing.{IsSound}
use Rattle.world_laws.specs.Living.{IsBorn, WasGranted}
use Rattle.world_laws.proofs.Births.{BirthIs, birth_is}
use Rattle.world_laws.proofs.GrantLaws.{grants_at}
use Rattle.world_laws.proofs.Spelled.{in_bytes, joined, one_more, none_bytes, spelled_in}
use Rattle.world_laws.proofs.Told.{InputWasTold, Tells, WasTold, given_told}

-- ---- numbers in bytes

-- two numbers of one width that are spelled by one front are one
pub same_front : (k x y : ℕ) (xs ys : List ℕ) → x < 256 ^ k → y < 256 ^ k
    → number_bytes k x ++ xs ≡ number_bytes k y ++ ys → x ≡ y
same_front k x y xs ys p q e =
    sym (big_number-number_bytes k x xs p) ∙ ap (λ (bs : List ℕ). big_number k bs) e ∙ big_number-number_bytes k y ys q

-- and so is what is behind them
pub same_rest : (k x y : ℕ) (xs ys : List ℕ) → number_bytes k x ++ xs ≡ number_bytes k y ++ ys → xs ≡ ys
same_rest k x y xs ys e =
    sym (drop-number_bytes k x xs) ∙ ap (λ (bs : List ℕ). drop k bs) e ∙ drop-number_bytes k y ys

-- one number alone
pub same_last : (k x y : ℕ) → x < 256 ^ k → y < 256 ^ k → number_bytes k x ≡ number_bytes k y → x ≡ y
same_last k x y p q e =
    same_front k x y [] [] p q (append-nil (number_bytes k x) ∙ e ∙ sym (append-nil (number_bytes k y)))

same_address : (a b : Ip4) → a.0 ≡ b.0 → a ≡ b
same_address a b e = ap (λ (k : ℕ). let ip : Ip4 = record { 0 = k } in ip) e

-- messages of two kinds aren't spelled alike
pub same_kind : (k j : ℕ) (xs ys : List ℕ) → spelled k xs ≡ spelled j ys → k ≡ j
same_kind k j xs ys e = cc

pub same_fields : (k j : ℕ) (xs ys : List ℕ) → spelled k xs ≡ spelled j ys → xs ≡ ys
same_fields k j xs ys e = cc

-- ---- a Grant that is read

-- the fields that a lease hangs on
record SameGrant (boot boot' n n' start start' : ℕ) (machine machine' : Ip4) : Type 0 where
  boot_is : boot ≡ boot'
  machine_is : machine ≡ machine'
  n_is : n ≡ n'
  start_is : start ≡ start'

-- six lists, grouped from the right
six : (a b c d e f : List ℕ) → a ++ b ++ c ++ d ++ e ++ f ≡ a ++ (b ++ (c ++ (d ++ (e ++ f))))
six a b c d e f =
    append_assoc (a ++ b ++ c ++ d) e f ∙ append_assoc (a ++ b ++ c) d (e ++ f)
    ∙ append_assoc (a ++ b) c (d ++ (e ++ f)) ∙ append_assoc a b (c ++ (d ++ (e ++ f)))

grant_fields : (boot : ℕ) (machine : Ip4) (seq n : ℕ) (vip : Ip4) (start : ℕ) (boot' : ℕ) (machine' : Ip4) (seq' n' : ℕ)
    (vip' : Ip4) (start' : ℕ) → (boot < 2 ^ 64) × (machine.0 < 2 ^ 32) × (n < 2 ^ 64) × (start < 2 ^ 16)
    → (boot' < 2 ^ 64) × (machine'.0 < 2 ^ 32) × (n' < 2 ^ 64) × (start' < 2 ^ 16)
    → message_bytes (message.Grant boot machine seq n vip start) ≡ message_bytes
    (message.Grant boot' machine' seq' n' vip' start')
    → SameGrant boot boot' n n' start start' machine machine'
grant_fields boot machine seq n vip start boot' machine' seq' n' vip' start' f g e =
    let whole : number boot ++ address machine ++ number seq ++ number n ++ address vip ++ port start
    ≡ number boot' ++ address machine' ++ number seq' ++ number n' ++ address vip' ++ port start' =
    same_fields 9 9 _ _ e in
    let a : number boot ++ (address machine ++ (number seq ++ (number n ++ (address vip ++ port start))))
    ≡ number boot' ++ (address machine' ++ (number seq' ++ (number n' ++ (address vip' ++ port start')))) =
    sym (six (number boot) (address machine) (number seq) (number n) (address vip) (port start)) ∙ whole
    ∙ six (number boot') (address machine') (number seq') (number n') (address vip') (port start') in
    let b = same_rest 8 boot boot' _ _ a in
    let d = same_rest 4 machine.0 machine'.0 _ _ b in
    let h = same_rest 8 seq seq' _ _ d in
    let j = same_rest 8 n n' _ _ h in
    let k = same_rest 4 vip.0 vip'.0 _ _ j in
    record {
      boot_is = same_front 8 boot boot' _ _ f.0 g.0 a;
      machine_is = same_address machine machine' (same_front 4 machine.0 machine'.0 _ _ f.1 g.1 b);
      n_is = same_front 8 n n' _ _ f.2 g.2 h;
      start_is = same_last 2 start start' f.3 g.3 k;
    }

grant_bytes : (boot : ℕ) (machine : Ip4) (seq n : ℕ) (vip : Ip4) (start : ℕ)
    → AreBytes (message_bytes (message.Grant boot machine seq n vip start))
grant_bytes boot machine seq n vip start =
    let two : AreBytes (number boot ++ address machine) =
    joined (number boot) (address machine) (in_bytes 8 boot) (in_bytes 4 machine.0) in
    let three : AreBytes (number boot ++ address machine ++ number seq) =
    joined (number boot ++ address machine) (number seq) two (in_bytes 8 seq) in
    let four : AreBytes (number boot ++ address machine ++ number seq ++ number n) =
    joined (number boot ++ address machine ++ number seq) (number n) three (in_bytes 8 n) in
    let five : AreBytes (number boot ++ address machine ++ number seq ++ number n ++ address vip) =
    joined (number boot ++ address machine ++ number seq ++ number n) (address vip) four (in_bytes 4 vip.0) in
    spelled_in 9 (number boot ++ address machine ++ number seq ++ number n ++ address vip ++ port start) (omega arith)
    (joined (number boot ++ address machine ++ number seq ++ number n ++ address vip) (port start) five
    (in_bytes 2 start))

denied_bytes : (boot : ℕ) (machine : Ip4) (seq reason count : ℕ) → reason < 256
    → AreBytes (message_bytes (message.Denied boot machine seq reason count))
denied_bytes boot machine seq reason count lt =
    let two : AreBytes (number boot ++ address machine) =
    joined (number boot) (address machine) (in_bytes 8 boot) (in_bytes 4 machine.0) in
    let three : AreBytes (number boot ++ address machine ++ number seq) =
    joined (number boot ++ address machine) (number seq) two (in_bytes 8 seq) in
    let four : AreBytes (number boot ++ address machine ++ number seq ++ byte reason) =
    joined (number boot ++ address machine ++ number seq) (byte reason) three (one_more reason [] lt none_bytes) in
    spelled_in 10 (number boot ++ address machine ++ number seq ++ byte reason ++ number count) (omega arith)
    (joined (number boot ++ address machine ++ number seq ++ byte reason) (number count) four (in_bytes 8 count))

returned_bytes : (boot n : ℕ) → AreBytes (message_bytes (message.Returned boot n))
returned_bytes boot n = spelled_in 12 _ (omega arith) (joined (number boot) (number n) (in_bytes 8 boot) (in_bytes 8 n))

known_bytes : (boot : ℕ) → AreBytes (message_bytes (message.AgentKnown boot))
known_bytes boot = spelled_in 14 _ (omega arith) (in_bytes 8 boot)

other_kind : (k : ℕ) → k ≡ 9 → (k ≡ 10) ⊎ ((k ≡ 12) ⊎ (k ≡ 14)) → ⊥
other_kind k e o = omega arith

-- what is read as a Grant from what was told truly, is one of that lease
read_grant : (cfg : ConfigParts) → IsSound cfg → (w : World) → Reached cfg w → (agent : ℕ) (m : Message)
    → IsForAgent cfg w agent m → (boot : ℕ) (machine : Ip4) (seq n : ℕ) (r : Range)
    → message_at (message_bytes m) ≡ Ok (message.Grant boot machine seq n r.vip r.start)
    → has_snat cfg.vips r.vip machine ≡ true → IsLease cfg w agent boot n r machine
read_grant cfg sound w rd agent (message.Grant boot' machine' seq' n' vip' start') h boot machine seq n r e snat =
    let is = message_is _ _ (grant_bytes boot' machine' seq' n' vip' start') e in
    let born : BirthIs cfg h.born = birth_is cfg sound w rd n' h.born h.birth in
    let start_fits : start' < 2 ^ 16 = subst (λ (s : Range). s.start < 2 ^ 16) h.range_is born.start in
    let n_fits : n' < 2 ^ 64 = subst (λ (k : ℕ). k < 2 ^ 64) h.birth.number born.number in
    let boot_fits : boot' < 2 ^ 64 = subst (λ (k : ℕ). k < 2 ^ 64) h.boot_is born.boot in
    let machine_fits : machine'.0 < 2 ^ 32 = subst (λ (a : Ip4). a.0 < 2 ^ 32) h.machine_is born.machine in
    let same : SameGrant boot' boot n' n start' r.start machine' machine =
    grant_fields boot' machine' seq' n' vip' start' boot machine seq n r.vip r.start
    (boot_fits, machine_fits, n_fits, start_fits) (is.1.0, is.1.1, is.1.3, small r.start is.1.5.2) is.0 in
    let leaves : has_snat cfg.vips vip' machine ≡ true =
    subst (λ (a : Ip4). has_snat cfg.vips vip' a ≡ true) same.machine_is
    (subst (λ (a : Ip4). has_snat cfg.vips vip' a ≡ true) h.machine_is
    (subst (λ (s : Range). has_snat cfg.vips s.vip h.born.machine ≡ true) h.range_is born.snat)) in
    let vip : vip' ≡ r.vip = has_both vip' r.vip machine cfg.vips sound.rules.snat leaves snat in
    record {
      born = h.born;
      birth = subst (λ (k : ℕ). IsBorn cfg w k h.born) same.n_is h.birth;
      agent_is = h.agent_is;
      boot_is = h.boot_is ∙ same.boot_is;
      range_is = h.range_is ∙ range_same vip' start' r vip same.start_is;
      machine_is = h.machine_is ∙ same.machine_is;
      granted = subst (WasGranted cfg w) same.n_is h.granted;
    }
  where
    small : (s : ℕ) → s ≤ 65528 → s < 2 ^ 16
    small s lt = omega arith

    range_same : (vip : Ip4) (start : ℕ) (r : Range) → vip ≡ r.vip → start ≡ r.start → range_at vip start ≡ r
    range_same vip start r v s = rw (v, s) refl
read_grant cfg sound w rd agent (message.Denied boot' machine' seq' reason count) h boot machine seq n r e snat =
    absurd (other_kind 10 (same_kind 10 9 _ _ (message_is _ _ (denied_bytes boot' machine' seq' reason count h) e).0)
    (inl refl))
read_grant cfg sound w rd agent (message.Returned boot' n') h boot machine seq n r e snat =
    absurd (other_kind 12 (same_kind 12 9 _ _ (message_is _ _ (returned_bytes boot' n') e).0) (inr (inl refl)))
read_grant cfg sound w rd agent (message.AgentKnown boot') h boot machine seq n r e snat =
    absurd (other_kind 14 (same_kind 14 9 _ _ (message_is _ _ (known_bytes boot') e).0) (inr (inr refl)))
read_grant cfg sound w rd agent (message.Prepare c) h boot machine seq n r e snat = absurd h
read_grant cfg sound w rd agent (message.Promise c l vote value) h boot machine seq n r e snat = absurd h
read_grant cfg sound w rd agent (message.Accept c t v) h boot machine seq n r e snat = absurd h
read_grant cfg sound w rd agent (message.Accepted c t) h boot machine seq n r e snat = absurd h
read_grant cfg sound w rd agent (message.Refuse c p) h boot machine seq n r e snat = absurd h
read_grant cfg sound w rd agent (message.Chosen t c v) h boot machine seq n r e snat = absurd h
read_grant cfg sound w rd agent (message.Fetch t) h boot machine seq n r e snat = absurd h
read_grant cfg sound w rd agent (message.Ask boot' machine' seq') h boot machine seq n r e snat = absurd h
read_grant cfg sound w rd agent (message.Return boot' n') h boot machine seq n r e snat = absurd h
read_grant cfg sound w rd agent (message.AgentUp boot') h boot machine seq n r e snat = absurd h
read_grant cfg sound w rd agent (message.MuxHello boot' epoch) h boot machine seq n r e snat = absurd h
read_grant cfg sound w rd agent
    (message.Program epoch boot' n' vip' start' machine') h boot machine seq n r e snat = absurd h
read_grant cfg sound w rd agent (message.Programmed epoch boot' n') h boot machine seq n r e snat = absurd h
read_grant cfg sound w rd agent (message.Unprogram epoch boot' n' vip' start') h boot machine seq n r e snat = absurd h
read_grant cfg sound w rd agent (message.Unprogrammed epoch boot' n') h boot machine seq n r e snat = absurd h
read_grant cfg sound w rd agent (message.MuxRefuse epoch boot' keeps) h boot machine seq n r e snat = absurd h
read_grant cfg sound w rd agent (message.Lead c l) h boot machine seq n r e snat = absurd h
read_grant cfg sound w rd agent
    (message.RedirectAsk src sport dst dport machine') h boot machine seq n r e snat = absurd h
read_grant cfg sound w rd agent
    (message.Redirect side n' src sport dst dport opener server) h boot machine seq n r e snat = absurd h

-- ---- an agent takes it

told_by : (w : World) (agent : ℕ) (cfg : ConfigParts) (x : Input) (y : NodeId) (m : Message)
    → InputWasTold cfg w (Agent agent) x → heard_in cfg x ≡ Some (Told y m) → Tells w (Agent agent) y m
told_by w agent cfg (Arrived from bytes) y m t e =
    subst (WasTold w (Agent agent)) (some_is (heard cfg from bytes) (Told y m) e) t
  where
    some_is : (a b : Heard) → Some a ≡ Some b → a ≡ b
    some_is a b e = cc
told_by w agent cfg (Ticked now) y m t e = absurd (cc)

pub taken_is_lease : (cfg : ConfigParts) → IsSound cfg → (w : World) → Reached cfg w → (agent : ℕ) (a : AgentLists)
    (x : Input)
    → Given cfg w (Agent agent) x → (n : ℕ) (r : Range) (machine : Ip4) → IsTaken cfg a x n r machine
    → IsLease cfg w agent a.boot n r machine
taken_is_lease cfg sound w rd agent a x given n r machine taken =
    let t : Tells w (Agent agent) (Replica taken.from) (message.Grant a.boot machine taken.seq n r.vip r.start) =
    told_by w agent cfg x (Replica taken.from) _ (given_told cfg sound w rd (Agent agent) x given) taken.told in
    let true_of : IsForAgent cfg w agent t.message =
    each_in (AnswersAreTrue cfg w) w.sent _ (grants_at cfg sound w rd) t.sent in
    read_grant cfg sound w rd agent t.message true_of a.boot machine taken.seq n r t.read taken.snat
