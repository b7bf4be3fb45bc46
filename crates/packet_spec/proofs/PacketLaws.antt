-- What a packet without fault is known to have.
use Rattle.std.proofs.Common.{◌≡◌, ℕ, ◌+◌, ◌-◌, ◌*◌, ◌<◌, ◌≤◌, false, not, ◌||◌, ◌==◌, ◌/◌, ◌%◌, List, length, take}
use Rattle.std.proofs.Common.{drop, get_or, slice_index, Option, Some, None, Ok, Err, refl, sym, ap, ◌∙◌, arith}
use Rattle.std.proofs.lemmas.List.{get_or-drop, get_or-take, length-drop, length-take, take-take}
use Rattle.wire_core.specs.declared.flow.Proto.{Proto}
use Rattle.wire_core.specs.declared.flow.Proto.TheVariants.{Tcp, Udp}
use Rattle.wire_core.specs.declared.address.Ip4.{Ip4}
use Rattle.packet_spec.specs.declared.fault.IpFault.{IpFault}
use Rattle.packet_spec.specs.Words.{word_at, address_at}
use Rattle.packet_spec.specs.Headers.{version, is_fragment, ip_fault, read_ip, unless_fault, header_of, protocol_of}
use Rattle.packet_spec.specs.Headers.{header_words, header_length, total_length, source_of, destination_of}
use Rattle.packet_spec.specs.Headers.{payload_of, whole}
use Rattle.packet_spec.specs.Sums.{ones_sum}
use Rattle.packet_spec.specs.Segments.{segment_fault, HasFields, udp_length}
use Rattle.packet_spec.specs.Packets.{packet_fault, proto_of, transport_fault, in_segment, carried}

-- the header lies within the total length, and that within the bytes
pub record HasHeader (p : List ℕ) : Type 0 where
  pub header : 20 ≤ header_length p
  pub within : header_length p ≤ total_length p
  pub total : total_length p ≤ length p

pub has_header : (p : List ℕ) → ip_fault p ≡ None → HasHeader p
unfolding ip_fault
has_header p fine = grind arith

-- what the tests of the header found
pub record IsFine (p : List ℕ) : Type 0 where
  pub long : 20 ≤ length p
  pub version_is : version p ≡ 4
  pub header : 5 ≤ header_words p
  pub within : header_length p ≤ total_length p
  pub total : total_length p ≤ length p
  pub sum : ones_sum (header_of p) ≡ 65535
  pub alone : is_fragment p ≡ false

pub is_fine : (p : List ℕ) → ip_fault p ≡ None → IsFine p
unfolding ip_fault
is_fine p fine = grind arith

pub fine_is : (p : List ℕ) → IsFine p → ip_fault p ≡ None
unfolding ip_fault
fine_is p fine = grind arith

-- no fault of the packet is no fault of its header, and none of its segment
pub header_is_fine : (p : List ℕ) → packet_fault p ≡ None → ip_fault p ≡ None
unfolding packet_fault
header_is_fine p fine = grind arith

pub segment_is_fine : (p : List ℕ) → packet_fault p ≡ None
    → segment_fault (carried p) (source_of p) (destination_of p) (payload_of p) ≡ None
unfolding packet_fault
segment_is_fine p fine = grind arith

-- a segment without fault has its fields
pub has_fields : (proto : Proto) (src dst : Ip4) (s : List ℕ) → segment_fault proto src dst s ≡ None → HasFields proto s
unfolding segment_fault
has_fields Tcp src dst s fine = grind arith
has_fields Udp src dst s fine = grind arith

-- a datagram's length lies within its bytes
pub udp_within : (src dst : Ip4) (s : List ℕ) → segment_fault Udp src dst s ≡ None
    → (8 ≤ udp_length s) × (udp_length s ≤ length s)
unfolding segment_fault
udp_within src dst s fine = grind arith

-- the payload is as long as the header leaves
pub length-payload : (p : List ℕ) → HasHeader p → length (payload_of p) ≡ total_length p - header_length p
length-payload p h = let t = h.total in simp (length-drop, length-take) (omega arith)

-- a byte of the payload is the packet's
pub payload_byte : (p : List ℕ) (i : ℕ) → HasHeader p → header_length p + i < total_length p
    → get_or (payload_of p) i 0 ≡ get_or p (header_length p + i) 0
payload_byte p i h k = get_or-drop (header_length p) (take (total_length p) p) i 0
    ∙ get_or-take (total_length p) p (header_length p + i) 0 k

-- a word of the payload is the packet's
pub payload_word : (p : List ℕ) (i : ℕ) → HasHeader p → header_length p + i + 1 < total_length p
    → word_at (payload_of p) i ≡ word_at p (header_length p + i)
payload_word p i h k =
    let first : header_length p + i < total_length p = omega arith in
    let second : header_length p + (i + 1) < total_length p = omega arith in
    let a = payload_byte p i h first in
    let b = payload_byte p (i + 1) h second in
    let place : header_length p + (i + 1) ≡ header_length p + i + 1 = omega arith in
    let c = ap (λ (n : ℕ). get_or p n 0) place in
    omega (arith, a, b, c)

-- a fault forbids a value, and without one it is that value
pub unless_ok : {A F : Type 0} (o : Option F) (x y : A) → Ok y ≡ unless_fault o x → (o ≡ None) × (y ≡ x)
unless_ok None x y e = (refl, cc)
unless_ok (Some f) x y e = absurd (cc)

pub unless_err : {A F : Type 0} (o : Option F) (x : A) (f : F) → Err f ≡ unless_fault o x → o ≡ Some f
unless_err None x f e = absurd (cc)
unless_err (Some g) x f e = cc

-- what reading a header answers
pub read_ip_ok : (p q : List ℕ) → Ok q ≡ read_ip p → (ip_fault p ≡ None) × (q ≡ whole p)
unfolding read_ip
read_ip_ok p q e = unless_ok (ip_fault p) (whole p) q e

pub read_ip_err : (p : List ℕ) (f : IpFault) → Err f ≡ read_ip p → ip_fault p ≡ Some f
unfolding read_ip
read_ip_err p f e = unless_err (ip_fault p) (whole p) f e

-- up to its total length a packet reads as with the bytes past it
pub byte_of_whole : (p : List ℕ) (i : ℕ) → i < total_length p → get_or (whole p) i 0 ≡ get_or p i 0
unfolding whole
byte_of_whole p i h = get_or-take (total_length p) p i 0 h

pub word_of_whole : (p : List ℕ) (i : ℕ) → i + 1 < total_length p → word_at (whole p) i ≡ word_at p i
word_of_whole p i h =
    let first : i < total_length p = omega arith in
    let a = byte_of_whole p i first in
    let b = byte_of_whole p (i + 1) h in
    omega (arith, a, b)

pub address_of_whole : (p : List ℕ) (i : ℕ) → i + 3 < total_length p → address_at (whole p) i ≡ address_at p i
address_of_whole p i h =
    let first : i + 1 < total_length p = omega arith in
    let second : i + 2 + 1 < total_length p = omega arith in
    let a = word_of_whole p i first in
    let b = word_of_whole p (i + 2) second in
    rw (a, b) refl

pub length-whole : (p : List ℕ) → HasHeader p → length (whole p) ≡ total_length p
unfolding whole
length-whole p h = let t = h.total in simp length-take (omega arith)

pub front_of_whole : (p : List ℕ) (n : ℕ) → n ≤ total_length p → take n (whole p) ≡ take n p
unfolding whole
front_of_whole p n h = take-take n (total_length p) p h

pub payload_of_whole : (p : List ℕ) → HasHeader p → payload_of (whole p) ≡ payload_of p
payload_of_whole p h =
    let a = h.header in
    let b = h.within in
    let byte = byte_of_whole p 0 (omega arith) in
    let start : header_length (whole p) ≡ header_length p = ap (λ (x : ℕ). 4 * (x % 16)) byte in
    let total = word_of_whole p 2 (omega arith) in
    ap (λ (n : ℕ). drop n (take (total_length (whole p)) (whole p))) start
    ∙ ap (λ (n : ℕ). drop (header_length p) (take n (whole p))) total
    ∙ ap (λ (q : List ℕ). drop (header_length p) q) (front_of_whole p (total_length p) (omega arith))

pub header_of_whole : (p : List ℕ) → HasHeader p → header_of (whole p) ≡ header_of p
header_of_whole p h =
    let a = h.header in
    let b = h.within in
    let byte = byte_of_whole p 0 (omega arith) in
    let start : header_length (whole p) ≡ header_length p = ap (λ (x : ℕ). 4 * (x % 16)) byte in
    ap (λ (n : ℕ). take n (whole p)) start ∙ front_of_whole p (header_length p) b

pub ip_fault_of_whole : (p : List ℕ) → ip_fault p ≡ None → ip_fault (whole p) ≡ None
ip_fault_of_whole p fine =
    let f = is_fine p fine in
    let h = has_header p fine in
    let a = h.header in
    let b = h.within in
    let c = h.total in
    let b0 = byte_of_whole p 0 (omega arith) in
    let b6 = byte_of_whole p 6 (omega arith) in
    let w2 = word_of_whole p 2 (omega arith) in
    let w6 = word_of_whole p 6 (omega arith) in
    let len = length-whole p h in
    let v = f.version_is in
    let n = f.header in
    let words : header_words (whole p) ≡ header_words p = ap (λ (x : ℕ). x % 16) b0 in
    let first : is_fragment (whole p) ≡ is_fragment p =
    ap (λ (x : ℕ). (x / 32 % 2 == 1) || not (word_at (whole p) 6 % 8192 == 0)) b6
    ∙ ap (λ (x : ℕ). (slice_index p 6 / 32 % 2 == 1) || not (x % 8192 == 0)) w6 in
    fine_is (whole p) (record {
      long = omega arith;
      version_is = ap (λ (x : ℕ). x / 16) b0 ∙ v;
      header = omega arith;
      within = omega arith;
      total = omega arith;
      sum = ap ones_sum (header_of_whole p h) ∙ f.sum;
      alone = first ∙ f.alone;
    })

-- the same parts give the same fault
pub transport_same : (o : Option Proto) (p q : List ℕ) → source_of q ≡ source_of p
    → destination_of q ≡ destination_of p → payload_of q ≡ payload_of p
    → transport_fault o q ≡ transport_fault o p
transport_same None p q a b c = refl
transport_same (Some proto) p q a b c =
    ap (λ (x : Ip4). in_segment (segment_fault proto x (destination_of q) (payload_of q))) a
    ∙ ap (λ (x : Ip4). in_segment (segment_fault proto (source_of p) x (payload_of q))) b
    ∙ ap (λ (x : List ℕ). in_segment (segment_fault proto (source_of p) (destination_of p) x)) c

pub transport_of_whole : (p : List ℕ) → HasHeader p → transport_fault (proto_of (protocol_of (whole p))) (whole p)
    ≡ transport_fault (proto_of (protocol_of p)) p
transport_of_whole p h =
    let header = h.header in
    let within = h.within in
    let number = byte_of_whole p 9 (omega arith) in
    ap (λ (n : ℕ). transport_fault (proto_of n) (whole p)) number
    ∙ transport_same (proto_of (protocol_of p)) p (whole p) (address_of_whole p 12 (omega arith))
    (address_of_whole p 16 (omega arith)) (payload_of_whole p h)

-- behind a header without fault the packet's fault is its segment's
pub fault_behind : (p : List ℕ) → ip_fault p ≡ None → packet_fault p ≡ transport_fault (proto_of (protocol_of p)) p
unfolding packet_fault
fault_behind p fine = rw fine refl

-- without the bytes past its total length a packet without fault has none
pub whole_is_fine : (p : List ℕ) → packet_fault p ≡ None → packet_fault (whole p) ≡ None
whole_is_fine p fine =
    let head = header_is_fine p fine in
    fault_behind (whole p) (ip_fault_of_whole p head) ∙ transport_of_whole p (has_header p head)
    ∙ sym (fault_behind p head) ∙ fine
