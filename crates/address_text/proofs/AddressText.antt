-- Addresses and sockets: reading is the inverse of writing.
use Rattle.std.proofs.Common.{◌≡◌, ◌∙◌, ℕ, zero, suc, ◌+◌, ◌*◌, ◌/◌, ◌%◌, ◌^◌, ◌<◌, ◌≤◌, Bool, true, false, cond, ◌==◌}
use Rattle.std.proofs.Common.{if◌then◌else◌, List, [], ◌∷◌, ◌++◌, Option, None, Some, refl, sym, ap, subst}
use Rattle.std.proofs.Common.{append_assoc, arith, ne_eqb}
use Rattle.std.specs.Fmt.{decimal}
use Rattle.std.specs.List.{All, join_with_byte}
use Rattle.std.proofs.lemmas.List.Splits.{slice_split_at, slice_split_none, join_with_byte-slice_split}
use Rattle.std.proofs.lemmas.Fmt.{digits_decimal}
use Rattle.std.proofs.lemmas.Str.Parse.{not_in_digits}
use Rattle.std.proofs.lemmas.List.{get_or_default}
use Rattle.std.proofs.lemmas.List.Elements.{All-append}
use Rattle.std.specs.Int.{IsInRange}
use Rattle.std.proofs.Math.Nat.{div-div-eq-div-mul}
use Rattle.wire_core.specs.declared.address.Ip4.{Ip4}
use Rattle.wire_core.specs.declared.address.Socket.{Socket}
use Rattle.address_text.specs.Fields.{parts, two_of, four_of}
use Rattle.address_text.specs.Numbers.{number_of}
use Rattle.address_text.specs.Addresses.{◌>>=◌, ip, address_text, address_of, socket_text, socket_of}
use Rattle.address_text.specs.Laws.{IsSocket}
use Rattle.address_text.proofs.NumberText.{own, number_read, number_spelled}

pub some_is : {A : Type 0} {x y : A} → Some x ≡ Some y → x ≡ y
some_is e = cc

-- ---- no separator in a number

abbrev IsNoDigit : ℕ → Type 0
IsNoDigit c = ¬ (IsInRange 48 57 c)

dot : IsNoDigit 46
dot h = omega (arith, h.0)

colon : IsNoDigit 58
colon h = omega (arith, h.1)

no_mark : (n c : ℕ) → n < 2 ^ 64 → IsNoDigit c → All (λ b. (b == c) ≡ false) (decimal n)
no_mark n c small mark = λ k d lt.
    let other = not_in_digits own (decimal n) c (digits_decimal own n small) mark k lt in
    rw (get_or_default (decimal n) k d 0 lt) (ne_eqb _ _ other)

-- ---- the text of an address, cut at its dots

four_parts : (a b c d : List ℕ) → All (λ x. (x == 46) ≡ false) a → All (λ x. (x == 46) ≡ false) b
    → All (λ x. (x == 46) ≡ false) c → All (λ x. (x == 46) ≡ false) d
    → parts 46 (a ++ (46 ∷ (b ++ (46 ∷ (c ++ (46 ∷ d)))))) ≡ a ∷ b ∷ c ∷ d ∷ []
four_parts a b c d ha hb hc hd =
    slice_split_at (λ x. x == 46) a 46 (b ++ (46 ∷ (c ++ (46 ∷ d)))) ha refl
    ∙ ap (λ (l : List (List ℕ)). a ∷ l) (slice_split_at (λ x. x == 46) b 46 (c ++ (46 ∷ d)) hb refl
    ∙ ap (λ (l : List (List ℕ)). b ∷ l) (slice_split_at (λ x. x == 46) c 46 d hc refl
    ∙ ap (λ (l : List (List ℕ)). c ∷ l) (slice_split_none (λ x. x == 46) d hd)))

regroup : (a b c d : List ℕ)
    → a ++ 46 ∷ [] ++ b ++ 46 ∷ [] ++ c ++ 46 ∷ [] ++ d ≡ a ++ (46 ∷ (b ++ (46 ∷ (c ++ (46 ∷ d)))))
regroup a b c d = simp append_assoc

text_parts : (a b c d : ℕ) → a < 256 → b < 256 → c < 256 → d < 256
    → parts 46 (decimal a ++ 46 ∷ [] ++ decimal b ++ 46 ∷ [] ++ decimal c ++ 46 ∷ [] ++ decimal d) ≡ decimal a
    ∷ decimal b ∷ decimal c ∷ decimal d ∷ []
text_parts a b c d ha hb hc hd =
    ap (parts 46) (regroup (decimal a) (decimal b) (decimal c) (decimal d))
    ∙ four_parts (decimal a) (decimal b) (decimal c) (decimal d) (no_mark a 46 (omega arith) dot)
    (no_mark b 46 (omega arith) dot) (no_mark c 46 (omega arith) dot) (no_mark d 46 (omega arith) dot)

byte_read : (n : ℕ) → n < 256 → number_of 255 (decimal n) ≡ Some n
byte_read n lt = number_read 255 n (omega arith) (omega arith)

-- an address from its four bytes
abbrev of_bytes : ℕ → ℕ → ℕ → ℕ → Ip4
of_bytes a b c d = ip (((a * 256 + b) * 256 + c) * 256 + d)

abbrev bytes_text : ℕ → ℕ → ℕ → ℕ → List ℕ
bytes_text a b c d = decimal a ++ 46 ∷ [] ++ decimal b ++ 46 ∷ [] ++ decimal c ++ 46 ∷ [] ++ decimal d

bytes_read : (a b c d : ℕ) → a < 256 → b < 256 → c < 256 → d < 256
    → address_of (bytes_text a b c d) ≡ Some (of_bytes a b c d)
unfolding address_of
bytes_read a b c d ha hb hc hd =
    rw (text_parts a b c d ha hb hc hd, byte_read a ha, byte_read b hb, byte_read c hc, byte_read d hd) refl

of_address : (n : ℕ) → n < 2 ^ 32
    → ((n / 16777216 % 256 * 256 + n / 65536 % 256) * 256 + n / 256 % 256) * 256 + n % 256 ≡ n
of_address n lt =
    let a : n / 65536 / 256 ≡ n / 16777216 = div-div-eq-div-mul n 65536 256 in
    let b : n / 256 / 256 ≡ n / 65536 = div-div-eq-div-mul n 256 256 in
    omega (arith, a, b)

pub address_read : (a : Ip4) → a.0 < 2 ^ 32 → address_of (address_text a) ≡ Some a
address_read a lt =
    bytes_read (a.0 / 16777216 % 256) (a.0 / 65536 % 256) (a.0 / 256 % 256) (a.0 % 256) (omega arith) (omega arith)
    (omega arith) (omega arith)
    ∙ ap (λ (n : ℕ). Some (ip n)) (of_address a.0 lt)

-- ---- what is read is an address's text

bind_some : {A B : Type 0} (o : Option A) (f : A → Option B) (y : B) → (o >>= f) ≡ Some y
    → (x : A) × (o ≡ Some x) × (f x ≡ Some y)
bind_some None f y e = absurd cc
bind_some (Some x) f y e = (x, refl, e)

four_is : (ps : List (List ℕ)) (p : List ℕ × List ℕ × List ℕ × List ℕ) → four_of ps ≡ Some p
    → ps ≡ p.0 ∷ p.1 ∷ p.2 ∷ p.3 ∷ []
four_is [] p e = absurd cc
four_is (a ∷ []) p e = absurd cc
four_is (a ∷ b ∷ []) p e = absurd cc
four_is (a ∷ b ∷ c ∷ []) p e = absurd cc
four_is (a ∷ b ∷ c ∷ d ∷ []) p e = let same : (a, b, c, d) ≡ p =
    some_is e in ap (λ (q : List ℕ × List ℕ × List ℕ × List ℕ). q.0 ∷ q.1 ∷ q.2 ∷ q.3 ∷ []) same
four_is (a ∷ b ∷ c ∷ d ∷ f ∷ fs) p e = absurd cc

two_is : (ps : List (List ℕ)) (p : List ℕ × List ℕ) → two_of ps ≡ Some p → ps ≡ p.0 ∷ p.1 ∷ []
two_is [] p e = absurd cc
two_is (a ∷ []) p e = absurd cc
two_is (a ∷ b ∷ []) p e = let same : (a, b) ≡ p = some_is e in ap (λ (q : List ℕ × List ℕ). q.0 ∷ q.1 ∷ []) same
two_is (a ∷ b ∷ c ∷ cs) p e = absurd cc

joined : (p q r s : List ℕ) (a b c d : ℕ) → p ≡ decimal a → q ≡ decimal b → r ≡ decimal c → s ≡ decimal d
    → p ++ (46 ∷ (q ++ (46 ∷ (r ++ (46 ∷ s))))) ≡ bytes_text a b c d
joined p q r s a b c d ea eb ec ed = rw (ea, eb, ec, ed) (sym (regroup (decimal a) (decimal b) (decimal c) (decimal d)))

to_address : (a b c d : ℕ) → a ≤ 255 → b ≤ 255 → c ≤ 255 → d ≤ 255
    → address_text (of_bytes a b c d) ≡ bytes_text a b c d
to_address a b c d ha hb hc hd =
    let n : ℕ = ((a * 256 + b) * 256 + c) * 256 + d in
    let first : (((a * 256 + b) * 256 + c) * 256 + d) / 16777216 % 256 ≡ a = omega arith in
    let second : (((a * 256 + b) * 256 + c) * 256 + d) / 65536 % 256 ≡ b = omega arith in
    let third : (((a * 256 + b) * 256 + c) * 256 + d) / 256 % 256 ≡ c = omega arith in
    let fourth : (((a * 256 + b) * 256 + c) * 256 + d) % 256 ≡ d = omega arith in
    rw (first, second, third, fourth) refl

pub address_spelled : (a : Ip4) (text : List ℕ) → address_of text ≡ Some a → (text ≡ address_text a) × (a.0 < 2 ^ 32)
unfolding address_of
address_spelled x text e =
    let p =
    bind_some (four_of (parts 46 text)) (λ p. number_of 255 p.0 >>= λ a. number_of 255 p.1 >>= λ b. number_of 255 p.2
    >>= λ c. number_of 255 p.3 >>= λ d. Some (of_bytes a b c d)) x e in
    let a =
    bind_some (number_of 255 p.0.0) (λ a. number_of 255 p.0.1 >>= λ b. number_of 255 p.0.2 >>= λ c. number_of 255 p.0.3
    >>= λ d. Some (of_bytes a b c d)) x p.2 in
    let b =
    bind_some (number_of 255 p.0.1) (λ b. number_of 255 p.0.2 >>= λ c. number_of 255 p.0.3
    >>= λ d. Some (of_bytes a.0 b c d)) x a.2 in
    let c = bind_some (number_of 255 p.0.2) (λ c. number_of 255 p.0.3 >>= λ d. Some (of_bytes a.0 b.0 c d)) x b.2 in
    let d = bind_some (number_of 255 p.0.3) (λ d. Some (of_bytes a.0 b.0 c.0 d)) x c.2 in
    let sa = number_spelled 255 a.0 p.0.0 (omega arith) a.1 in
    let sb = number_spelled 255 b.0 p.0.1 (omega arith) b.1 in
    let sc = number_spelled 255 c.0 p.0.2 (omega arith) c.1 in
    let sd = number_spelled 255 d.0 p.0.3 (omega arith) d.1 in
    let cut = four_is (parts 46 text) p.0 p.1 in
    let whole : p.0.0 ++ (46 ∷ (p.0.1 ++ (46 ∷ (p.0.2 ++ (46 ∷ p.0.3))))) ≡ text =
    ap (join_with_byte 46) (sym cut) ∙ join_with_byte-slice_split 46 text in
    let spelled : text ≡ bytes_text a.0 b.0 c.0 d.0 =
    sym whole ∙ joined p.0.0 p.0.1 p.0.2 p.0.3 a.0 b.0 c.0 d.0 sa.0 sb.0 sc.0 sd.0 in
    let same : of_bytes a.0 b.0 c.0 d.0 ≡ x = some_is d.2 in
    let made : (text ≡ address_text (of_bytes a.0 b.0 c.0 d.0)) × ((of_bytes a.0 b.0 c.0 d.0).0 < 2 ^ 32) =
    (spelled ∙ sym (to_address a.0 b.0 c.0 d.0 sa.1 sb.1 sc.1 sd.1), omega (arith, sa.1, sb.1, sc.1, sd.1)) in
    subst (λ (y : Ip4). (text ≡ address_text y) × (y.0 < 2 ^ 32)) same made

-- ---- sockets

abbrev NoColon : List ℕ → Type 0
NoColon text = All (λ x. (x == 58) ≡ false) text

one_dot : NoColon (46 ∷ [])
one_dot zero d lt = refl
one_dot (suc k) d lt = absurd (omega arith)

joined_parts : (a b : List ℕ) → NoColon a → NoColon b → NoColon (a ++ b)
joined_parts a b p q = All-append (λ x. (x == 58) ≡ false) a b p q

no_colon : (a b c d : ℕ) → a < 256 → b < 256 → c < 256 → d < 256 → NoColon (bytes_text a b c d)
no_colon a b c d ha hb hc hd =
    let na = no_mark a 58 (omega arith) colon in
    let nb = no_mark b 58 (omega arith) colon in
    let nc = no_mark c 58 (omega arith) colon in
    let nd = no_mark d 58 (omega arith) colon in
    joined_parts _ _ (joined_parts _ _
    (joined_parts _ _ (joined_parts _ _ (joined_parts _ _ (joined_parts _ _ na one_dot) nb) one_dot) nc) one_dot) nd

socket_parts : (s : Socket) → IsSocket s → parts 58 (socket_text s) ≡ address_text s.ip ∷ decimal s.port ∷ []
socket_parts s h =
    let n : ℕ = s.ip.0 in
    let front =
    no_colon (s.ip.0 / 16777216 % 256) (s.ip.0 / 65536 % 256) (s.ip.0 / 256 % 256) (s.ip.0 % 256) (omega arith)
    (omega arith) (omega arith) (omega arith) in
    let back = no_mark s.port 58 (omega (arith, h.2)) colon in
    ap (parts 58) (append_assoc (address_text s.ip) (58 ∷ []) (decimal s.port))
    ∙ slice_split_at (λ x. x == 58) (address_text s.ip) 58 (decimal s.port) front refl
    ∙ ap (λ (l : List (List ℕ)). address_text s.ip ∷ l) (slice_split_none (λ x. x == 58) (decimal s.port) back)

pub socket_read : (s : Socket) → IsSocket s → socket_of (socket_text s) ≡ Some s
unfolding socket_of
socket_read s h =
    let some : (s.port == 0) ≡ false = ne_eqb _ _ (λ e. omega (arith, h.1, e)) in
    rw (socket_parts s h, address_read s.ip h.0, number_read 65535 s.port (omega (arith, h.2)) (omega arith), some) refl

above_zero : (t : Bool) (s x : Socket) → cond t None (Some s) ≡ Some x → (t ≡ false) × (s ≡ x)
above_zero true s x e = absurd cc
above_zero false s x e = (refl, some_is e)

joined_socket : (p q : List ℕ) (a : Ip4) (port : ℕ) → p ≡ address_text a → q ≡ decimal port
    → p ++ (58 ∷ q) ≡ socket_text (record { ip = a; port = port })
joined_socket p q a port ea ep = rw (ea, ep) (sym (append_assoc (address_text a) (58 ∷ []) (decimal port)))

pub socket_spelled : (s : Socket) (text : List ℕ) → socket_of text ≡ Some s → (text ≡ socket_text s) × IsSocket s
unfolding socket_of
socket_spelled x text e =
    let p =
    bind_some (two_of (parts 58 text)) (λ p. address_of p.0 >>= λ a. number_of 65535 p.1
    >>= λ port. if port == 0 then None else Some (record { ip = a; port = port })) x e in
    let a =
    bind_some (address_of p.0.0) (λ a. number_of 65535 p.0.1 >>= λ port. if port == 0 then None else Some (record {
      ip =
          a;
      port = port;
    })) x p.2 in
    let n =
    bind_some (number_of 65535 p.0.1) (λ port. if port == 0 then None else Some (record {
      ip = a.0;
      port =
          port;
    })) x a.2 in
    let made : Socket = record { ip = a.0; port = n.0 } in
    let some = above_zero (n.0 == 0) made x n.2 in
    let sa = address_spelled a.0 p.0.0 a.1 in
    let sn = number_spelled 65535 n.0 p.0.1 (omega arith) n.1 in
    let cut = two_is (parts 58 text) p.0 p.1 in
    let whole : p.0.0 ++ (58 ∷ p.0.1) ≡ text = ap (join_with_byte 58) (sym cut) ∙ join_with_byte-slice_split 58 text in
    let spelled : text ≡ socket_text made = sym whole ∙ joined_socket p.0.0 p.0.1 a.0 n.0 sa.0 sn.0 in
    let port : 0 < n.0 = above n.0 some.0 in
    subst (λ (s : Socket). (text ≡ socket_text s) × IsSocket s) some.1 (spelled, (sa.1, port, omega (arith, sn.1)))
  where
    above : (k : ℕ) → (k == 0) ≡ false → 0 < k
    above zero e = absurd cc
    above (suc k) e = omega arith
