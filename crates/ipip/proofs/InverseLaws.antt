-- What is wrapped is unwrapped again.
use Rattle.std.proofs.Common.{◌≡◌, ◌∙◌, ℕ, zero, suc, ◌+◌, ◌-◌, ◌*◌, ◌/◌, ◌%◌, ◌^◌, ◌<◌, ◌≤◌, Bool, true, false, List}
use Rattle.std.proofs.Common.{[], ◌∷◌, ◌++◌, length, drop, None, Result, Ok, refl, sym, ap, arith, lit<}
use Rattle.std.proofs.lemmas.List.{length-set, drop_at, take_all}
use Rattle.std.proofs.lemmas.Bool.Decides.{nat_tests}
use Rattle.wire_core.specs.declared.address.Ip4.{Ip4}
use Rattle.wire_core.specs.Numbers.{AreBytes}
use Rattle.packet_spec.specs.declared.header.Ip4Header.{Ip4Header}
use Rattle.packet_spec.specs.Words.{address_at}
use Rattle.packet_spec.specs.Sums.{ones_sum, checksum}
use Rattle.packet_spec.specs.Headers.{IsWhole, total_length, ttl_of, protocol_of, source_of, destination_of}
use Rattle.packet_spec.specs.Headers.{payload_of, whole, is_fragment, ip_fault, read_ip, header_with, header_bytes}
use Rattle.packet_spec.specs.Headers.{df_byte}
use Rattle.packet_spec.specs.Edits.{put_ttl, put_header_sum}
use Rattle.packet_spec.proofs.PacketLaws.{IsFine, fine_is}
use Rattle.packet_spec.proofs.SumLaws.{sum_right}
use Rattle.ipip.specs.declared.unwrapping.UnwrapFault.{UnwrapFault}
use Rattle.ipip.specs.Wrapping.{outer_header, lowered, wrapped, wrap_fault, Unwrapped, carried_by, of_outer, unwrapped}

-- ---- a checksum makes the sum right

byte_more : (b : ℕ) (bs : List ℕ) → b < 256 → AreBytes bs → AreBytes (b ∷ bs)
byte_more b bs lt h zero = lt
byte_more b bs lt h (suc k) = h k

four : (a b c d : ℕ) (rest : List ℕ) → a < 256 → b < 256 → c < 256 → d < 256 → AreBytes rest
    → AreBytes (a ∷ b ∷ c ∷ d ∷ rest)
four a b c d rest p q r s h =
    byte_more a (b ∷ c ∷ d ∷ rest) p (byte_more b (c ∷ d ∷ rest) q (byte_more c (d ∷ rest) r (byte_more d rest s h)))

no_byte : AreBytes []
no_byte k = omega arith

-- the fields of a header, each within its width
pub record Fits (h : Ip4Header) : Type 0 where
  pub tos : h.tos < 256
  pub total : h.total < 65536
  pub id : h.id < 65536
  pub ttl : h.ttl < 256
  pub proto : h.proto < 256
  pub src : h.src.0 < 4294967296
  pub dst : h.dst.0 < 4294967296

df_small : (df : Bool) → df_byte df < 256
df_small true = omega arith
df_small false = omega arith

-- the words of a header by twos
abbrev to_address : Ip4 → List ℕ → List ℕ
to_address a rest = a.0 / 65536 / 256 ∷ a.0 / 65536 % 256 ∷ a.0 % 65536 / 256 ∷ a.0 % 65536 % 256 ∷ rest

abbrev from_ttl : Ip4Header → ℕ → List ℕ
from_ttl h sum = h.ttl ∷ h.proto ∷ sum / 256 ∷ sum % 256 ∷ to_address h.src (to_address h.dst [])

abbrev from_id : Ip4Header → ℕ → List ℕ
from_id h sum = h.id / 256 ∷ h.id % 256 ∷ df_byte h.df ∷ 0 ∷ from_ttl h sum

address_are_bytes : (a : Ip4) (rest : List ℕ) → a.0 < 4294967296 → AreBytes rest → AreBytes (to_address a rest)
address_are_bytes a rest small h =
    four (a.0 / 65536 / 256) (a.0 / 65536 % 256) (a.0 % 65536 / 256) (a.0 % 65536 % 256) rest (omega arith)
    (omega arith) (omega arith) (omega arith) h

header_are_bytes : (h : Ip4Header) (sum : ℕ) → Fits h → sum < 65536 → AreBytes (header_with h sum)
header_are_bytes h sum f lt =
    let total = f.total in
    let id = f.id in
    let addresses = address_are_bytes h.src (to_address h.dst []) f.src (address_are_bytes h.dst [] f.dst no_byte) in
    let behind_id = four h.ttl h.proto (sum / 256) (sum % 256) (to_address h.src (to_address h.dst [])) f.ttl f.proto
    (omega arith) (omega arith) addresses in
    let behind_total = four (h.id / 256) (h.id % 256) (df_byte h.df) 0 (from_ttl h sum) (omega arith) (omega arith)
    (df_small h.df) (omega arith) behind_id in
    four 69 h.tos (h.total / 256) (h.total % 256) (from_id h sum) (omega arith) f.tos (omega arith)
    (omega arith) behind_total

pub header_sum : (h : Ip4Header) → Fits h → ones_sum (header_with h (checksum (header_with h 0))) ≡ 65535
header_sum h f = sum_right (header_with h 0) 10 refl (omega arith) (header_are_bytes h 0 f (omega arith)) (omega arith)

-- ---- the outer header is read again

length-lowered : (d : ℕ) (p : List ℕ) → length (lowered d p) ≡ length p
unfolding lowered put_ttl put_header_sum
length-lowered zero p = refl
length-lowered (suc d) p = simp length-set refl

word_back : (n : ℕ) → 256 * (n / 256) + n % 256 ≡ n
word_back n = omega arith

address_back : (a : Ip4)
    → address_at (a.0 / 65536 / 256 ∷ a.0 / 65536 % 256 ∷ a.0 % 65536 / 256 ∷ a.0 % 65536 % 256 ∷ []) 0 ≡ a
address_back a =
    let same : 65536 * (256 * (a.0 / 65536 / 256) + a.0 / 65536 % 256) +
    (256 * (a.0 % 65536 / 256) + a.0 % 65536 % 256) ≡ a.0 = omega arith in
    ap (λ (n : ℕ). let ip : Ip4 = record { 0 = n } in ip) same

-- what stands in a packet behind a header of five words
record IsRead (h : Ip4Header) (q p : List ℕ) : Type 0 where
  fine : ip_fault p ≡ None
  total : total_length p ≡ h.total
  protocol : protocol_of p ≡ h.proto
  source : source_of p ≡ h.src
  destination : destination_of p ≡ h.dst

headed_fine : (h : Ip4Header) (q : List ℕ) (sum : ℕ) → ones_sum (header_with h sum) ≡ 65535 → length q + 20 ≡ h.total
    → IsFine (header_with h sum ++ q)
headed_fine h q sum right len = record {
  long = omega arith;
  version_is = refl;
  header = omega arith;
  within = omega arith;
  total = omega arith;
  sum = right;
  alone = by h.df;
}
  where
    by : (df : Bool) → is_fragment (header_with (record h { df = df }) sum ++ q) ≡ false
    by true = grind (arith, nat_tests)
    by false = grind (arith, nat_tests)

headed : (h : Ip4Header) (q : List ℕ) (sum : ℕ) → ones_sum (header_with h sum) ≡ 65535 → length q + 20 ≡ h.total
    → IsRead h q (header_with h sum ++ q)
headed h q sum right len = record {
  fine = fine_is (header_with h sum ++ q) (headed_fine h q sum right len);
  total = word_back h.total;
  protocol = refl;
  source = address_back h.src;
  destination = address_back h.dst;
}

read_whole : (h : Ip4Header) (q : List ℕ) (sum : ℕ) → ones_sum (header_with h sum) ≡ 65535 → length q + 20 ≡ h.total
    → read_ip (header_with h sum ++ q) ≡ Ok (header_with h sum ++ q)
unfolding read_ip whole
read_whole h q sum right len =
    let r = headed h q sum right len in
    let all : length (header_with h sum ++ q) ≤ total_length (header_with h sum ++ q) = let t =
    r.total in omega arith in
    rw (r.fine, take_all (total_length (header_with h sum ++ q)) (header_with h sum ++ q) all) refl

payload_is : (h : Ip4Header) (q : List ℕ) (sum : ℕ) → length q + 20 ≡ h.total → payload_of (header_with h sum ++ q) ≡ q
payload_is h q sum len =
    let t : total_length (header_with h sum ++ q) ≡ h.total = word_back h.total in
    let all : length (header_with h sum ++ q) ≤ total_length (header_with h sum ++ q) = omega arith in
    ap (drop 20) (take_all (total_length (header_with h sum ++ q)) (header_with h sum ++ q) all)
    ∙ drop_at (header_with h sum) q 20 refl

-- ---- the law

may : (d : ℕ) (p : List ℕ) → wrap_fault d p ≡ None → (total_length p ≤ 65000) × (d < ttl_of p)
unfolding wrap_fault
may d p e = grind (arith, nat_tests)

outer_fits : (src dst : Ip4) (p : List ℕ) → src.0 < 2 ^ 32 → dst.0 < 2 ^ 32 → AreBytes p → total_length p ≤ 65000
    → Fits (outer_header src dst p)
outer_fits src dst p a b bytes few = record {
  tos = bytes 1;
  total = omega arith;
  id = omega arith;
  ttl = omega arith;
  proto = omega arith;
  src = a;
  dst = b;
}

abbrev held : Unwrapped → Result Unwrapped UnwrapFault
held u = Ok u

carried : (src dst : Ip4) (q w : List ℕ) → source_of w ≡ src → destination_of w ≡ dst → payload_of w ≡ q
    → held (carried_by w) ≡ held (record { outer_src = src; outer_dst = dst; bytes = q })
carried src dst q w s t b = rw (s, t, b) refl

pub unwraps_again : (d : ℕ) (src dst : Ip4) (p : List ℕ) → src.0 < 2 ^ 32 → dst.0 < 2 ^ 32 → AreBytes p → IsWhole p
    → wrap_fault d p ≡ None
    → unwrapped (wrapped d src dst p) ≡ Ok (record { outer_src = src; outer_dst = dst; bytes = lowered d p })
unfolding wrapped header_bytes
unwraps_again d src dst p a b bytes is fine =
    let few = (may d p fine).0 in
    let h : Ip4Header = outer_header src dst p in
    let sum : ℕ = checksum (header_with h 0) in
    let right = header_sum h (outer_fits src dst p a b bytes few) in
    let len : length (lowered d p) + 20 ≡ total_length p + 20 =
    ap (λ (n : ℕ). n + 20) (length-lowered d p ∙ is.total) in
    let r = headed h (lowered d p) sum right len in
    let read = read_whole h (lowered d p) sum right len in
    ap of_outer read ∙ carried src dst (lowered d p) (header_with h sum ++ lowered d p) r.source r.destination
    (payload_is h (lowered d p) sum len)
