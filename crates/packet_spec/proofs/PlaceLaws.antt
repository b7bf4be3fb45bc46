-- Where the key, the control bits and the time to live of a packet stand, and what an edit leaves of them.
use Rattle.std.proofs.Common.{◌≡◌, ◌≢◌, ℕ, ◌+◌, ◌*◌, ◌/◌, ◌%◌, ◌^◌, ◌<◌, ◌≤◌, ◌==◌, Bool, true, false, nat_lt}
use Rattle.std.proofs.Common.{if◌then◌else◌, List, length, take, get_or, slice_set, Option, Some, None, refl, sym, ap}
use Rattle.std.proofs.Common.{◌∙◌, arith}
use Rattle.std.proofs.Math.ListN.{length-set}
use Rattle.std.proofs.lemmas.List.{get_or-set_other, get_or-set_same, get_or-take}
use Rattle.wire_core.specs.declared.address.Ip4.{Ip4}
use Rattle.wire_core.specs.declared.flow.FlowKey.{FlowKey}
use Rattle.wire_core.specs.declared.flow.Proto.{Proto}
use Rattle.wire_core.specs.declared.flow.Proto.TheVariants.{Tcp, Udp}
use Rattle.packet_spec.specs.declared.layout.Layout.{Layout}
use Rattle.packet_spec.specs.Words.{word_at, address_at, put_word, put_address}
use Rattle.packet_spec.specs.Sums.{checksum}
use Rattle.packet_spec.specs.Headers.{header_length, total_length, ttl_of, source_of, destination_of, payload_of}
use Rattle.packet_spec.specs.Segments.{segment_fault, segment_bytes, least_length, udp_length, sum_place, is_syn}
use Rattle.packet_spec.specs.Segments.{is_rst, is_ack}
use Rattle.packet_spec.specs.Packets.{packet_fault, carried, segment_of, key_of, has_syn, has_ack, has_rst}
use Rattle.packet_spec.specs.Edits.{put_source, put_destination, put_ttl, lower_word, placed, syn_mss, clamp}
use Rattle.packet_spec.specs.Edits.{put_header_sum, put_segment_sum, segment_in, segment_sum, lacks_sum}
use Rattle.packet_spec.specs.Laws.{from_end, to_end}
use Rattle.packet_spec.proofs.PacketLaws.{HasHeader, has_header, header_is_fine, segment_is_fine, has_fields}
use Rattle.packet_spec.proofs.PacketLaws.{udp_within, length-payload, payload_byte, payload_word}
use Rattle.packet_spec.proofs.EditLaws.{syn_mss_above}

-- ---- a word that is written

pub byte_apart : (r : List ℕ) (i at w : ℕ) → i ≢ at → i ≢ at + 1 → get_or (put_word r at w) i 0 ≡ get_or r i 0
byte_apart r i at w a b =
    get_or-set_other (slice_set r at (w / 256)) (at + 1) i (w % 256) 0 b ∙ get_or-set_other r at i (w / 256) 0 a

-- none of so many bytes from a place on is one of the word's
abbrev Apart : ℕ → ℕ → ℕ → Type 0
Apart n i at = (k : ℕ) → i ≤ k → k < i + n → (k ≢ at) × (k ≢ at + 1)

word_apart : (r : List ℕ) (i at w : ℕ) → Apart 2 i at → word_at (put_word r at w) i ≡ word_at r i
word_apart r i at w h =
    let a = h i (omega arith) (omega arith) in
    let b = h (i + 1) (omega arith) (omega arith) in
    let first = byte_apart r i at w a.0 a.1 in
    let second = byte_apart r (i + 1) at w b.0 b.1 in
    omega (arith, first, second)

address_apart : (r : List ℕ) (i at w : ℕ) → Apart 4 i at → address_at (put_word r at w) i ≡ address_at r i
address_apart r i at w h =
    let high = word_apart r i at w (λ k low up. h k low (omega arith)) in
    let low = word_apart r (i + 2) at w (λ k low up. h k (omega arith) (omega arith)) in
    rw (high, low) refl

word_there : (r : List ℕ) (at w : ℕ) → at + 1 < length r → word_at (put_word r at w) at ≡ w
word_there r at w room =
    let len = length-set r at (w / 256) in
    let apart : at ≢ at + 1 = omega arith in
    let first = get_or-set_other (slice_set r at (w / 256)) (at + 1) at (w % 256) 0 apart
    ∙ get_or-set_same r at (w / 256) 0 (omega arith) in
    let second = get_or-set_same (slice_set r at (w / 256)) (at + 1) (w % 256) 0 (omega arith) in
    omega (arith, first, second)

pub length-word : (r : List ℕ) (at w : ℕ) → length (put_word r at w) ≡ length r
length-word r at w = length-set (slice_set r at (w / 256)) (at + 1) (w % 256) ∙ length-set r at (w / 256)

address_there : (r : List ℕ) (at : ℕ) (ip : Ip4) → at + 3 < length r → address_at (put_address r at ip) at ≡ ip
address_there r at ip room =
    let len = length-word r at (ip.0 / 65536) in
    let high : word_at (put_address r at ip) at ≡ ip.0 / 65536 =
    word_apart (put_word r at (ip.0 / 65536)) at (at + 2) (ip.0 % 65536) (λ k low up. (omega arith, omega arith))
    ∙ word_there r at (ip.0 / 65536) (omega arith) in
    let low : word_at (put_address r at ip) (at + 2) ≡ ip.0 % 65536 =
    word_there (put_word r at (ip.0 / 65536)) (at + 2) (ip.0 % 65536) (omega arith) in
    let same : 65536 * word_at (put_address r at ip) at + word_at (put_address r at ip) (at + 2) ≡ ip.0 =
    omega (arith, high, low) in
    ap (λ (n : ℕ). let made : Ip4 = record { 0 = n } in made) same

-- ---- the places

-- what stands in the header and in the segment that begins at this place
pub record Reads (start : ℕ) (q : List ℕ) (key : FlowKey) (ttl control : ℕ) : Type 0 where
  pub source : address_at q 12 ≡ key.src
  pub destination : address_at q 16 ≡ key.dst
  pub sport : word_at q start ≡ key.sport
  pub dport : word_at q (start + 2) ≡ key.dport
  pub hops : get_or q 8 0 ≡ ttl
  pub bits : get_or q (start + 13) 0 ≡ control

-- a word that is none of this
pub record IsAside (start at : ℕ) : Type 0 where
  pub addresses : (k : ℕ) → 12 ≤ k → k < 20 → (k ≢ at) × (k ≢ at + 1)
  pub ports : (k : ℕ) → start ≤ k → k < start + 4 → (k ≢ at) × (k ≢ at + 1)
  pub hops : (8 ≢ at) × (8 ≢ at + 1)
  pub bits : (start + 13 ≢ at) × (start + 13 ≢ at + 1)

reads_put : (start : ℕ) (q : List ℕ) (key : FlowKey) (ttl control at w : ℕ) → IsAside start at
    → Reads start q key ttl control → Reads start (put_word q at w) key ttl control
reads_put start q key ttl control at w aside r = record {
  source = address_apart q 12 at w (λ k low up. aside.addresses k low (omega arith)) ∙ r.source;
  destination = address_apart q 16 at w (λ k low up. aside.addresses k (omega arith) (omega arith)) ∙ r.destination;
  sport = word_apart q start at w (λ k low up. aside.ports k low (omega arith)) ∙ r.sport;
  dport = word_apart q (start + 2) at w (λ k low up. aside.ports k (omega arith) (omega arith)) ∙ r.dport;
  hops = byte_apart q 8 at w aside.hops.0 aside.hops.1 ∙ r.hops;
  bits = byte_apart q (start + 13) at w aside.bits.0 aside.bits.1 ∙ r.bits;
}

aside_sum : (start : ℕ) → 20 ≤ start → IsAside start 10
aside_sum start long = record {
  addresses = λ k low up. (omega arith, omega arith);
  ports = λ k low up. (omega arith, omega arith);
  hops = (omega arith, omega arith);
  bits = (omega arith, omega arith);
}

aside_behind : (start at : ℕ) → 20 ≤ start → start + 4 ≤ at → (start + 13 ≢ at) × (start + 13 ≢ at + 1)
    → IsAside start at
aside_behind start at long behind bits = record {
  addresses = λ k low up. (omega arith, omega arith);
  ports = λ k low up. (omega arith, omega arith);
  hops = (omega arith, omega arith);
  bits = bits;
}

aside_place : (proto : Proto) (start : ℕ) → 20 ≤ start → IsAside start (start + sum_place proto)
aside_place Tcp start long = aside_behind start (start + 16) long (omega arith) (omega arith, omega arith)
aside_place Udp start long = aside_behind start (start + 6) long (omega arith) (omega arith, omega arith)

reads_if : (start : ℕ) (x y : List ℕ) (key : FlowKey) (ttl control : ℕ) (b : Bool)
    → Reads start x key ttl control → Reads start y key ttl control → Reads start (if b then x else y) key ttl control
reads_if start x y key ttl control true r s = r
reads_if start x y key ttl control false r s = s

-- ---- each edit

pub reads_header_sum : (l : Layout) (q : List ℕ) (key : FlowKey) (ttl control : ℕ) → 20 ≤ l.start
    → Reads l.start q key ttl control → Reads l.start (put_header_sum l q) key ttl control
unfolding put_header_sum
reads_header_sum l q key ttl control long r =
    let cleared = reads_put l.start q key ttl control 10 0 (aside_sum l.start long) r in
    reads_put l.start (put_word q 10 0) key ttl control 10 _ (aside_sum l.start long) cleared

pub reads_segment_sum : (l : Layout) (q : List ℕ) (key : FlowKey) (ttl control : ℕ) → 20 ≤ l.start
    → Reads l.start q key ttl control → Reads l.start (put_segment_sum l q) key ttl control
unfolding put_segment_sum
reads_segment_sum l q key ttl control long r =
    let aside = aside_place l.proto l.start long in
    let cleared = reads_put l.start q key ttl control (l.start + sum_place l.proto) 0 aside r in
    let summed = reads_put l.start (put_word q (l.start + sum_place l.proto) 0) key ttl control
    (l.start + sum_place l.proto)
    (segment_sum l (put_word q (l.start + sum_place l.proto) 0)) aside cleared in
    reads_if l.start q _ key ttl control (lacks_sum l.proto (word_at q (l.start + sum_place l.proto))) r summed

reads_lower : (start : ℕ) (q : List ℕ) (key : FlowKey) (ttl control : ℕ) (o : Option ℕ) → 20 ≤ start
    → ((v : ℕ) → o ≡ Some v → 22 ≤ v) → Reads start q key ttl control
    → Reads start (lower_word (placed start o) q) key ttl control
reads_lower start q key ttl control None long above r = r
reads_lower start q key ttl control (Some v) long above r =
    let a = above v refl in
    let lowered = reads_put start q key ttl control (start + v) 1440
    (aside_behind start (start + v) long (omega arith) (omega arith, omega arith)) r in
    reads_if start (put_word q (start + v) 1440) q key ttl control (nat_lt 1440 (word_at q (start + v))) lowered r

pub reads_clamp : (l : Layout) (q : List ℕ) (key : FlowKey) (ttl control : ℕ) → 20 ≤ l.start
    → Reads l.start q key ttl control → Reads l.start (clamp l q) key ttl control
unfolding clamp
reads_clamp l q key ttl control long r =
    reads_lower l.start q key ttl control (syn_mss l.proto (segment_in l q)) long
    (syn_mss_above l.proto (segment_in l q)) r

pub reads_ttl : (start : ℕ) (q : List ℕ) (key : FlowKey) (ttl control v : ℕ) → 20 ≤ start → 8 < length q
    → Reads start q key ttl control → Reads start (put_ttl v q) key v control
unfolding put_ttl
reads_ttl start q key ttl control v long room r =
    let other : (i : ℕ) → 9 ≤ i → get_or (slice_set q 8 v) i 0 ≡ get_or q i 0 = λ i low. let n : i ≢ 8 =
    omega arith in get_or-set_other q 8 i v 0 n in
    let word : (i : ℕ) → 9 ≤ i → word_at (slice_set q 8 v) i ≡ word_at q i = λ i low. let a = other i low in let b =
    other (i + 1) (omega arith) in omega (arith, a, b) in
    let address : (i : ℕ) → 9 ≤ i → address_at (slice_set q 8 v) i ≡ address_at q i = λ i low. let a =
    word i low in let b = word (i + 2) (omega arith) in rw (a, b) refl in
    record {
      source = address 12 (omega arith) ∙ r.source;
      destination = address 16 (omega arith) ∙ r.destination;
      sport = word start (omega arith) ∙ r.sport;
      dport = word (start + 2) (omega arith) ∙ r.dport;
      hops = get_or-set_same q 8 v 0 room;
      bits = other (start + 13) (omega arith) ∙ r.bits;
    }

pub reads_source : (l : Layout) (ip : Ip4) (port : ℕ) (q : List ℕ) (key : FlowKey) (ttl control : ℕ) → 20 ≤ l.start
    → l.start + 4 ≤ length q
    → Reads l.start q key ttl control → Reads l.start (put_source l ip port q) (from_end ip port key) ttl control
unfolding put_source
reads_source l ip port q key ttl control long room r =
    let len_a = length-word q 12 (ip.0 / 65536) in
    let len_b = length-word (put_word q 12 (ip.0 / 65536)) (12 + 2) (ip.0 % 65536) in
    let behind : (i : ℕ) → 16 ≤ i → get_or (put_address q 12 ip) i 0 ≡ get_or q i 0 = λ i low.
    byte_apart (put_word q 12 (ip.0 / 65536)) i (12 + 2) (ip.0 % 65536) (omega arith) (omega arith)
    ∙ byte_apart q i 12 (ip.0 / 65536) (omega arith) (omega arith) in
    let destination : address_at (put_address q 12 ip) 16 ≡ address_at q 16 =
    address_apart (put_word q 12 (ip.0 / 65536)) 16 (12 + 2) (ip.0 % 65536)
    (λ k low up. (omega arith, omega arith))
    ∙ address_apart q 16 12 (ip.0 / 65536) (λ k low up. (omega arith, omega arith)) in
    let first = behind (l.start + 2) (omega arith) in
    let second = behind (l.start + 2 + 1) (omega arith) in
    let dport : word_at (put_address q 12 ip) (l.start + 2) ≡ word_at q (l.start + 2) = omega (arith, first, second) in
    record {
      source = address_apart (put_address q 12 ip) 12 l.start port (λ k low up. (omega arith, omega arith))
          ∙ address_there q 12 ip (omega arith);
      destination = address_apart (put_address q 12 ip) 16 l.start port (λ k low up. (omega arith, omega arith))
          ∙ destination ∙ r.destination;
      sport = word_there (put_address q 12 ip) l.start port (omega arith);
      dport = word_apart (put_address q 12 ip) (l.start + 2) l.start port (λ k low up. (omega arith, omega arith))
          ∙ dport ∙ r.dport;
      hops = byte_apart (put_address q 12 ip) 8 l.start port (omega arith) (omega arith)
          ∙ byte_apart (put_word q 12 (ip.0 / 65536)) 8 (12 + 2) (ip.0 % 65536) (omega arith) (omega arith)
          ∙ byte_apart q 8 12 (ip.0 / 65536) (omega arith) (omega arith) ∙ r.hops;
      bits = byte_apart (put_address q 12 ip) (l.start + 13) l.start port (omega arith) (omega arith)
          ∙ behind (l.start + 13) (omega arith) ∙ r.bits;
    }

pub reads_destination : (l : Layout) (ip : Ip4) (port : ℕ) (q : List ℕ) (key : FlowKey) (ttl control : ℕ)
    → 20 ≤ l.start → l.start + 4 ≤ length q
    → Reads l.start q key ttl control → Reads l.start (put_destination l ip port q) (to_end ip port key) ttl control
unfolding put_destination
reads_destination l ip port q key ttl control long room r =
    let len_a = length-word q 16 (ip.0 / 65536) in
    let len_b = length-word (put_word q 16 (ip.0 / 65536)) (16 + 2) (ip.0 % 65536) in
    let behind : (i : ℕ) → 20 ≤ i → get_or (put_address q 16 ip) i 0 ≡ get_or q i 0 = λ i low.
    byte_apart (put_word q 16 (ip.0 / 65536)) i (16 + 2) (ip.0 % 65536) (omega arith) (omega arith)
    ∙ byte_apart q i 16 (ip.0 / 65536) (omega arith) (omega arith) in
    let source : address_at (put_address q 16 ip) 12 ≡ address_at q 12 =
    address_apart (put_word q 16 (ip.0 / 65536)) 12 (16 + 2) (ip.0 % 65536)
    (λ k low up. (omega arith, omega arith))
    ∙ address_apart q 12 16 (ip.0 / 65536) (λ k low up. (omega arith, omega arith)) in
    let first = behind l.start (omega arith) in
    let second = behind (l.start + 1) (omega arith) in
    let sport : word_at (put_address q 16 ip) l.start ≡ word_at q l.start = omega (arith, first, second) in
    record {
      source = address_apart (put_address q 16 ip) 12 (l.start + 2) port (λ k low up. (omega arith, omega arith))
          ∙ source ∙ r.source;
      destination = address_apart (put_address q 16 ip) 16 (l.start + 2) port (λ k low up. (omega arith, omega arith))
          ∙ address_there q 16 ip (omega arith);
      sport = word_apart (put_address q 16 ip) l.start (l.start + 2) port (λ k low up. (omega arith, omega arith))
          ∙ sport ∙ r.sport;
      dport = word_there (put_address q 16 ip) (l.start + 2) port (omega arith);
      hops = byte_apart (put_address q 16 ip) 8 (l.start + 2) port (omega arith) (omega arith)
          ∙ byte_apart (put_word q 16 (ip.0 / 65536)) 8 (16 + 2) (ip.0 % 65536) (omega arith) (omega arith)
          ∙ byte_apart q 8 16 (ip.0 / 65536) (omega arith) (omega arith) ∙ r.hops;
      bits = byte_apart (put_address q 16 ip) (l.start + 13) (l.start + 2) port (omega arith) (omega arith)
          ∙ behind (l.start + 13) (omega arith) ∙ r.bits;
    }

-- ---- a packet without fault is read from these places

segment_word : (proto : Proto) (p : List ℕ) (i : ℕ) → HasHeader p
    → segment_fault proto (source_of p) (destination_of p) (payload_of p) ≡ None
    → i + 1 < least_length proto → word_at (segment_bytes proto (payload_of p)) i ≡ word_at p (header_length p + i)
segment_word Tcp p i h fine lt =
    let f = (has_fields Tcp (source_of p) (destination_of p) (payload_of p) fine).fields in
    let len = length-payload p h in
    payload_word p i h (omega arith)
segment_word Udp p i h fine lt =
    let f = udp_within (source_of p) (destination_of p) (payload_of p) fine in
    let least = f.0 in
    let within = f.1 in
    let len = length-payload p h in
    let first = get_or-take (udp_length (payload_of p)) (payload_of p) i 0 (omega arith) in
    let second = get_or-take (udp_length (payload_of p)) (payload_of p) (i + 1) 0 (omega arith) in
    let taken : word_at (take (udp_length (payload_of p)) (payload_of p)) i ≡ word_at (payload_of p) i =
    omega (arith, first, second) in
    taken ∙ payload_word p i h (omega arith)

ports_fit : (proto : Proto) → 4 ≤ least_length proto
ports_fit Tcp = omega arith
ports_fit Udp = omega arith

sport_is : (p : List ℕ) → packet_fault p ≡ None → word_at (segment_of p) 0 ≡ word_at p (header_length p)
sport_is p fine =
    let some = ports_fit (carried p) in
    let place : header_length p + 0 ≡ header_length p = omega arith in
    segment_word (carried p) p 0 (has_header p (header_is_fine p fine)) (segment_is_fine p fine) (omega arith)
    ∙ ap (λ (n : ℕ). word_at p n) place

dport_is : (p : List ℕ) → packet_fault p ≡ None → word_at (segment_of p) 2 ≡ word_at p (header_length p + 2)
dport_is p fine =
    let some = ports_fit (carried p) in
    segment_word (carried p) p 2 (has_header p (header_is_fine p fine)) (segment_is_fine p fine) (omega arith)

pub key_reads : (p : List ℕ) → packet_fault p ≡ None
    → Reads (header_length p) p (key_of p) (ttl_of p) (get_or p (header_length p + 13) 0)
unfolding key_of
key_reads p fine = record {
  source = refl;
  destination = refl;
  sport = sym (sport_is p fine);
  dport = sym (dport_is p fine);
  hops = refl;
  bits = refl;
}

pub same_flow : (a b : FlowKey) → a.src ≡ b.src → a.dst ≡ b.dst → a.sport ≡ b.sport → a.dport ≡ b.dport
    → a.proto ≡ b.proto → a ≡ b
same_flow a b e1 e2 e3 e4 e5 =
    ap (λ (x : Ip4). record a { src = x }) e1
    ∙ ap (λ (x : Ip4). record a { src = b.src; dst = x }) e2
    ∙ ap (λ (x : ℕ). record a { src = b.src; dst = b.dst; sport = x }) e3
    ∙ ap (λ (x : ℕ). record b { dport = x; proto = a.proto }) e4
    ∙ ap (λ (x : Proto). record b { proto = x }) e5

pub key_from : (q : List ℕ) (start : ℕ) (key : FlowKey) (ttl control : ℕ) → packet_fault q ≡ None
    → header_length q ≡ start → carried q ≡ key.proto
    → Reads start q key ttl control → key_of q ≡ key
unfolding key_of
key_from q start key ttl control fine at proto r =
    same_flow _ key r.source r.destination
    (sport_is q fine ∙ ap (λ (n : ℕ). word_at q n) at ∙ r.sport)
    (dport_is q fine ∙ ap (λ (n : ℕ). word_at q (n + 2)) at ∙ r.dport) proto

pub key_proto : (p : List ℕ) → (key_of p).proto ≡ carried p
unfolding key_of
key_proto p = refl

-- the control bit of this weight
abbrev control_bit : ℕ → Proto → ℕ → Bool
control_bit n Tcp byte = byte / n % 2 == 1
control_bit n Udp byte = false

control_byte : (p : List ℕ) → HasHeader p → segment_fault Tcp (source_of p) (destination_of p) (payload_of p) ≡ None
    → get_or (payload_of p) 13 0 ≡ get_or p (header_length p + 13) 0
control_byte p h fine =
    let f = (has_fields Tcp (source_of p) (destination_of p) (payload_of p) fine).fields in
    let len = length-payload p h in
    payload_byte p 13 h (omega arith)

syn_for : (proto : Proto) (p : List ℕ) → HasHeader p
    → segment_fault proto (source_of p) (destination_of p) (payload_of p) ≡ None
    → is_syn proto (segment_bytes proto (payload_of p)) ≡ control_bit 2 proto (get_or p (header_length p + 13) 0)
syn_for Tcp p h fine = ap (λ (b : ℕ). b / 2 % 2 == 1) (control_byte p h fine)
syn_for Udp p h fine = refl

rst_for : (proto : Proto) (p : List ℕ) → HasHeader p
    → segment_fault proto (source_of p) (destination_of p) (payload_of p) ≡ None
    → is_rst proto (segment_bytes proto (payload_of p)) ≡ control_bit 4 proto (get_or p (header_length p + 13) 0)
rst_for Tcp p h fine = ap (λ (b : ℕ). b / 4 % 2 == 1) (control_byte p h fine)
rst_for Udp p h fine = refl

ack_for : (proto : Proto) (p : List ℕ) → HasHeader p
    → segment_fault proto (source_of p) (destination_of p) (payload_of p) ≡ None
    → is_ack proto (segment_bytes proto (payload_of p)) ≡ control_bit 16 proto (get_or p (header_length p + 13) 0)
ack_for Tcp p h fine = ap (λ (b : ℕ). b / 16 % 2 == 1) (control_byte p h fine)
ack_for Udp p h fine = refl

-- two packets of one protocol and with one control byte have the same control bits
pub record SameBits (p q : List ℕ) : Type 0 where
  pub syn : has_syn q ≡ has_syn p
  pub ack : has_ack q ≡ has_ack p
  pub rst : has_rst q ≡ has_rst p

pub same_bits : (p q : List ℕ) → packet_fault p ≡ None → packet_fault q ≡ None → carried q ≡ carried p
    → get_or q (header_length q + 13) 0 ≡ get_or p (header_length p + 13) 0 → SameBits p q
unfolding has_syn has_ack has_rst
same_bits p q fine_p fine_q proto byte =
    let hp = has_header p (header_is_fine p fine_p) in
    let hq = has_header q (header_is_fine q fine_q) in
    let sp = segment_is_fine p fine_p in
    let sq = segment_is_fine q fine_q in
    let bit : (n : ℕ) → control_bit n (carried q) (get_or q (header_length q + 13) 0)
    ≡ control_bit n (carried p) (get_or p (header_length p + 13) 0) =
    λ n. ap (λ (x : Proto). control_bit n x (get_or q (header_length q + 13) 0)) proto
    ∙ ap (λ (b : ℕ). control_bit n (carried p) b) byte in
    record {
      syn = syn_for (carried q) q hq sq ∙ bit 2 ∙ sym (syn_for (carried p) p hp sp);
      ack = ack_for (carried q) q hq sq ∙ bit 16 ∙ sym (ack_for (carried p) p hp sp);
      rst = rst_for (carried q) q hq sq ∙ bit 4 ∙ sym (rst_for (carried p) p hp sp);
    }
