-- Both checksums are right after they were computed.
use Rattle.std.proofs.Common.{◌≡◌, ◌≢◌, ℕ, zero, suc, ◌+◌, ◌-◌, ◌/◌, ◌%◌, ◌<◌, ◌≤◌, ◌^◌, true, false, List, [], ◌∷◌}
use Rattle.std.proofs.Common.{◌++◌, length, take, drop, get_or, slice_set, refl, sym, ap, ◌∙◌, arith, lit<}
use Rattle.std.proofs.Math.ListN.{length-set}
use Rattle.std.proofs.Math.Seq.{take-set-lt}
use Rattle.std.proofs.lemmas.List.{get_or-set_other, get_or-set_same, get_or-take, get_or-drop, length-take}
use Rattle.std.proofs.lemmas.List.{length-append, get_or-append-add, take-set-le, drop-set-add, set-append_right}
use Rattle.wire_core.specs.declared.address.Ip4.{Ip4}
use Rattle.wire_core.specs.declared.flow.Proto.{Proto}
use Rattle.wire_core.specs.declared.flow.Proto.TheVariants.{Tcp, Udp}
use Rattle.packet_spec.specs.declared.layout.Layout.{Layout}
use Rattle.packet_spec.specs.Words.{word_at, put_word, address_at, address_bytes, word_bytes}
use Rattle.packet_spec.specs.Sums.{ones_sum, checksum}
use Rattle.packet_spec.specs.Headers.{source_of, destination_of}
use Rattle.packet_spec.specs.Segments.{proto_number, pseudo_header, covered, sum_place, least_length}
use Rattle.packet_spec.specs.Edits.{put_header_sum, put_segment_sum, segment_in, sent_sum, segment_sum, lacks_sum}
use Rattle.packet_spec.proofs.FoldLaws.{bytes_append}
use Rattle.packet_spec.specs.Layouts.{LiesWithin}
use Rattle.packet_spec.proofs.LayoutLaws.{length-segment_in}
use Rattle.packet_spec.proofs.SumLaws.{IsBytes, bytes_put, sum_right, sent_sum_right}

-- parts of bytes are bytes
pub bytes_take : (n : ℕ) (xs : List ℕ) → IsBytes xs → IsBytes (take n xs)
bytes_take zero xs h k = lit< tt
bytes_take (suc n) [] h k = h k
bytes_take (suc n) (x ∷ xs) h zero = h 0
bytes_take (suc n) (x ∷ xs) h (suc k) = bytes_take n xs (λ j. h (suc j)) k

pub bytes_drop : (n : ℕ) (xs : List ℕ) → IsBytes xs → IsBytes (drop n xs)
bytes_drop n xs h k = rw (get_or-drop n xs k 0) (h (n + k))

-- a word that was set to 0 is 0
pub zero_word : (q : List ℕ) (at : ℕ) → at + 1 < length q → word_at (put_word q at 0) at ≡ 0
zero_word q at lt =
    let first : at < length q = omega arith in
    let apart : at ≢ at + 1 = omega arith in
    let len = length-set q at 0 in
    let second : at + 1 < length (slice_set q at 0) = omega arith in
    let a : get_or (put_word q at 0) at 0 ≡ 0 = get_or-set_other (slice_set q at 0) (at + 1) at 0 0 apart
    ∙ get_or-set_same q at 0 0 first in
    let b : get_or (put_word q at 0) (at + 1) 0 ≡ 0 = get_or-set_same (slice_set q at 0) (at + 1) 0 0 second in
    omega (arith, a, b)

pub length-put : (q : List ℕ) (at w : ℕ) → length (put_word q at w) ≡ length q
length-put q at w = length-set (slice_set q at (w / 256)) (at + 1) (w % 256) ∙ length-set q at (w / 256)

-- a word that is set in front of a place is set in the front
pub take_put : (n : ℕ) (q : List ℕ) (at w : ℕ) → at + 1 < n → take n (put_word q at w) ≡ put_word (take n q) at w
take_put n q at w lt =
    let first : at < n = omega arith in
    take-set-lt n (slice_set q at (w / 256)) (at + 1) (w % 256) lt
    ∙ ap (λ (x : List ℕ). slice_set x (at + 1) (w % 256)) (take-set-lt n q at (w / 256) first)

pub take_put_behind : (n : ℕ) (q : List ℕ) (at w : ℕ) → n ≤ at → take n (put_word q at w) ≡ take n q
take_put_behind n q at w le =
    let next : n ≤ at + 1 = omega arith in
    take-set-le n (slice_set q at (w / 256)) (at + 1) (w % 256) next ∙ take-set-le n q at (w / 256) le

pub drop_put : (n : ℕ) (q : List ℕ) (at w : ℕ) → drop n (put_word q (n + at) w) ≡ put_word (drop n q) at w
drop_put n q at w =
    let place : n + at + 1 ≡ n + (at + 1) = omega arith in
    ap (λ (i : ℕ). drop n (slice_set (slice_set q (n + at) (w / 256)) i (w % 256))) place
    ∙ drop-set-add n (slice_set q (n + at) (w / 256)) (at + 1) (w % 256)
    ∙ ap (λ (x : List ℕ). slice_set x (at + 1) (w % 256)) (drop-set-add n q at (w / 256))

-- the header
pub header_right : (l : Layout) (q : List ℕ) → 20 ≤ l.start → l.start ≤ length q → IsBytes q
    → ones_sum (take l.start (put_header_sum l q)) ≡ 65535
unfolding put_header_sum
header_right l q long within h =
    let cleared : List ℕ = put_word q 10 0 in
    let xs : List ℕ = take l.start (put_word q 10 0) in
    let len : length (put_word q 10 0) ≡ length q = length-put q 10 0 in
    let size : length (take l.start (put_word q 10 0)) ≡ l.start = length-take l.start (put_word q 10 0)
    ∙ omega arith in
    let bytes = bytes_take l.start (put_word q 10 0) (bytes_put q 10 0 h (lit< tt)) in
    let ten : 10 + 1 < l.start = omega arith in
    let room : 10 + 1 < length q = omega arith in
    let whole_zero = zero_word q 10 room in
    let a = get_or-take l.start (put_word q 10 0) 10 0 (omega arith) in
    let b = get_or-take l.start (put_word q 10 0) (10 + 1) 0 ten in
    let z : word_at (take l.start (put_word q 10 0)) 10 ≡ 0 = omega (arith, a, b, whole_zero) in
    let fits : 10 + 1 < length (take l.start (put_word q 10 0)) = omega arith in
    ap ones_sum (take_put l.start (put_word q 10 0) 10 (checksum (take l.start (put_word q 10 0))) ten)
    ∙ sum_right (take l.start (put_word q 10 0)) 10 refl fits bytes z

-- the segment with a word of it set
pub segment_put : (l : Layout) (r : List ℕ) (place w : ℕ) → place + 1 < l.end - l.start
    → segment_in l (put_word r (l.start + place) w) ≡ put_word (segment_in l r) place w
segment_put l r place w lt = ap (λ (x : List ℕ). take (l.end - l.start) x) (drop_put l.start r place w)
    ∙ take_put (l.end - l.start) (drop l.start r) place w lt

-- behind other bytes a word is set as without them
pub put_append : (xs ys : List ℕ) (n place w : ℕ) → length xs ≡ n → put_word (xs ++ ys) (n + place) w ≡ xs
    ++ put_word ys place w
put_append xs ys n place w len =
    let a : n ≤ n + place = omega arith in
    let b : n ≤ n + place + 1 = omega arith in
    let c : n + place - n ≡ place = omega arith in
    let d : n + place + 1 - n ≡ place + 1 = omega arith in
    ap (λ (x : List ℕ). slice_set x (n + place + 1) (w % 256)) (set-append_right xs ys n (n + place) (w / 256) len a
    ∙ ap (λ (i : ℕ). xs ++ slice_set ys i (w / 256)) c)
    ∙ set-append_right xs (slice_set ys place (w / 256)) n (n + place + 1) (w % 256) len b
    ∙ ap (λ (i : ℕ). xs ++ slice_set (slice_set ys place (w / 256)) i (w % 256)) d

pub length-pseudo_header : (proto : Proto) (src dst : Ip4) (len : ℕ) → length (pseudo_header proto src dst len) ≡ 12
unfolding pseudo_header
length-pseudo_header proto src dst len = refl

-- a byte of the segment is the packet's
pub segment_byte : (l : Layout) (r : List ℕ) (i : ℕ) → i < l.end - l.start
    → get_or (segment_in l r) i 0 ≡ get_or r (l.start + i) 0
segment_byte l r i lt = get_or-take (l.end - l.start) (drop l.start r) i 0 lt ∙ get_or-drop l.start r i 0

-- what the checksum covers with a word of the segment set
pub covered_put : (proto : Proto) (src dst : Ip4) (s : List ℕ) (place w : ℕ)
    → covered proto src dst (put_word s place w) ≡ put_word (covered proto src dst s) (12 + place) w
covered_put proto src dst s place w =
    ap (λ (n : ℕ). pseudo_header proto src dst n ++ put_word s place w) (length-put s place w)
    ∙ sym (put_append (pseudo_header proto src dst (length s)) s 12 place w
    (length-pseudo_header proto src dst (length s)))

pub length-covered : (proto : Proto) (src dst : Ip4) (s : List ℕ) → length (covered proto src dst s) ≡ 12 + length s
length-covered proto src dst s = length-append (pseudo_header proto src dst (length s)) s
    ∙ ap (λ (n : ℕ). n + length s) (length-pseudo_header proto src dst (length s))

pub byte_of_covered : (proto : Proto) (src dst : Ip4) (s : List ℕ) (i : ℕ)
    → get_or (covered proto src dst s) (12 + i) 0 ≡ get_or s i 0
byte_of_covered proto src dst s i =
    let n = length-pseudo_header proto src dst (length s) in
    ap (λ (n : ℕ). get_or (covered proto src dst s) (n + i) 0) (sym n)
    ∙ get_or-append-add (pseudo_header proto src dst (length s)) s i 0

-- what the checksum covers is bytes
pub proto_number-lt : (proto : Proto) → proto_number proto < 256
proto_number-lt Tcp = lit< tt
proto_number-lt Udp = lit< tt

pub bytes_of_pair : (a b : ℕ) → a < 256 → b < 256 → IsBytes (a ∷ b ∷ [])
bytes_of_pair a b x y zero = x
bytes_of_pair a b x y (suc zero) = y
bytes_of_pair a b x y (suc (suc k)) = lit< tt

pub bytes_of_word : (w : ℕ) → w < 65536 → IsBytes (word_bytes w)
bytes_of_word w lt = bytes_of_pair (w / 256) (w % 256) (omega arith) (omega arith)

pub bytes_of_address : (ip : Ip4) → ip.0 < 2 ^ 32 → IsBytes (address_bytes ip)
bytes_of_address ip lt = bytes_append (word_bytes (ip.0 / 65536)) (word_bytes (ip.0 % 65536))
    (bytes_of_word (ip.0 / 65536) (omega arith)) (bytes_of_word (ip.0 % 65536) (omega arith))

pub bytes_of_pseudo_header : (proto : Proto) (src dst : Ip4) (len : ℕ) → src.0 < 2 ^ 32 → dst.0 < 2 ^ 32 → len < 65536
    → IsBytes (pseudo_header proto src dst len)
unfolding pseudo_header
bytes_of_pseudo_header proto src dst len a b c =
    bytes_append (address_bytes src ++ address_bytes dst ++ 0 ∷ proto_number proto ∷ []) (word_bytes len)
    (bytes_append (address_bytes src ++ address_bytes dst) (0 ∷ proto_number proto ∷ [])
    (bytes_append (address_bytes src) (address_bytes dst) (bytes_of_address src a) (bytes_of_address dst b))
    (bytes_of_pair 0 (proto_number proto) (lit< tt) (proto_number-lt proto)))
    (bytes_of_word len c)

pub address-lt : (r : List ℕ) (i : ℕ) → IsBytes r → (address_at r i).0 < 2 ^ 32
address-lt r i h =
    let a = h i in
    let b = h (i + 1) in
    let c = h (i + 2) in
    let d = h (i + 2 + 1) in
    omega arith

-- the addresses stand before the segment
pub byte_put : (r : List ℕ) (i at w : ℕ) → i < at → get_or (put_word r at w) i 0 ≡ get_or r i 0
byte_put r i at w lt =
    let a : i ≢ at = omega arith in
    let b : i ≢ at + 1 = omega arith in
    get_or-set_other (slice_set r at (w / 256)) (at + 1) i (w % 256) 0 b ∙ get_or-set_other r at i (w / 256) 0 a

pub address_put : (r : List ℕ) (i at w : ℕ) → i + 3 < at → address_at (put_word r at w) i ≡ address_at r i
address_put r i at w lt =
    let a = byte_put r i at w (omega arith) in
    let b = byte_put r (i + 1) at w (omega arith) in
    let c = byte_put r (i + 2) at w (omega arith) in
    let d = byte_put r (i + 2 + 1) at w (omega arith) in
    rw (a, b, c, d) refl

-- where a checksum stands in its segment
pub place_is_even : (proto : Proto) → (12 + sum_place proto) % 2 ≡ 0
place_is_even Tcp = refl
place_is_even Udp = refl

pub place_within : (proto : Proto) → sum_place proto + 1 < least_length proto
place_within Tcp = lit< tt
place_within Udp = lit< tt

pub place_behind : (proto : Proto) → 6 ≤ sum_place proto
place_behind Tcp = omega arith
place_behind Udp = omega arith

-- the segment's checksum over bytes that have 0 in its place
pub summed : (l : Layout) (c : List ℕ) (w : ℕ) → LiesWithin l (length c) → IsBytes c
    → word_at c (l.start + sum_place l.proto) ≡ 0
    → w ≡ sent_sum l.proto (checksum (covered l.proto (source_of c) (destination_of c) (segment_in l c)))
    → ones_sum (covered l.proto (source_of (put_word c (l.start + sum_place l.proto) w))
    (destination_of (put_word c (l.start + sum_place l.proto) w))
    (segment_in l (put_word c (l.start + sum_place l.proto) w))) ≡ 65535
summed l c w within h cleared is =
    let header = within.header in
    let fields = within.fields in
    let short = within.short in
    let inside = place_within l.proto in
    let behind = place_behind l.proto in
    let place : ℕ = sum_place l.proto in
    let room : sum_place l.proto + 1 < l.end - l.start = omega arith in
    let src = address_put c 12 (l.start + sum_place l.proto) w (omega arith) in
    let dst = address_put c 16 (l.start + sum_place l.proto) w (omega arith) in
    let seg = segment_put l c (sum_place l.proto) w room in
    let put = covered_put l.proto (source_of c) (destination_of c) (segment_in l c) (sum_place l.proto) w in
    let size = length-segment_in l c within in
    let len = length-covered l.proto (source_of c) (destination_of c) (segment_in l c) in
    let fits : 12 + sum_place l.proto + 1 < length
    (covered l.proto (source_of c) (destination_of c) (segment_in l c)) = omega arith in
    let few : length (segment_in l c) < 65536 = omega arith in
    let bytes = bytes_append (pseudo_header l.proto (source_of c) (destination_of c) (length (segment_in l c)))
    (segment_in l c)
    (bytes_of_pseudo_header l.proto (source_of c) (destination_of c) (length (segment_in l c)) (address-lt c 12 h)
    (address-lt c 16 h) few)
    (bytes_take (l.end - l.start) (drop l.start c) (bytes_drop l.start c h)) in
    let first = byte_of_covered l.proto (source_of c) (destination_of c) (segment_in l c) (sum_place l.proto) in
    let second = byte_of_covered l.proto (source_of c) (destination_of c) (segment_in l c) (sum_place l.proto + 1) in
    let next : 12 + (sum_place l.proto + 1) ≡ 12 + sum_place l.proto + 1 = omega arith in
    let second_at = ap
    (λ (n : ℕ). get_or (covered l.proto (source_of c) (destination_of c) (segment_in l c)) n 0) next in
    let a = segment_byte l c (sum_place l.proto) (omega arith) in
    let b = segment_byte l c (sum_place l.proto + 1) room in
    let there : l.start + (sum_place l.proto + 1) ≡ l.start + sum_place l.proto + 1 = omega arith in
    let b_at = ap (λ (n : ℕ). get_or c n 0) there in
    let z : word_at (covered l.proto (source_of c) (destination_of c) (segment_in l c)) (12 + sum_place l.proto) ≡ 0 =
    omega (arith, first, second, second_at, a, b, b_at, cleared) in
    let right = sent_sum_right l.proto (covered l.proto (source_of c) (destination_of c) (segment_in l c))
    (12 + sum_place l.proto) (place_is_even l.proto) fits bytes z in
    ap (λ (x : Ip4). ones_sum (covered l.proto x (destination_of (put_word c (l.start + sum_place l.proto) w))
    (segment_in l (put_word c (l.start + sum_place l.proto) w)))) src
    ∙ ap (λ (x : Ip4). ones_sum
    (covered l.proto (source_of c) x (segment_in l (put_word c (l.start + sum_place l.proto) w)))) dst
    ∙ ap (λ (x : List ℕ). ones_sum (covered l.proto (source_of c) (destination_of c) x)) seg
    ∙ ap ones_sum put
    ∙ ap (λ (x : ℕ). ones_sum
    (put_word (covered l.proto (source_of c) (destination_of c) (segment_in l c)) (12 + sum_place l.proto) x)) is
    ∙ right

-- the segment
pub segment_right : (l : Layout) (r : List ℕ) → LiesWithin l (length r) → IsBytes r
    → lacks_sum l.proto (word_at r (l.start + sum_place l.proto)) ≡ false
    → ones_sum (covered l.proto (source_of (put_segment_sum l r)) (destination_of (put_segment_sum l r))
    (segment_in l (put_segment_sum l r))) ≡ 65535
unfolding put_segment_sum
segment_right l r within h sent =
    let fields = within.fields in
    let end = within.within in
    let inside = place_within l.proto in
    let there : l.start + sum_place l.proto + 1 < length r = omega arith in
    let len = length-put r (l.start + sum_place l.proto) 0 in
    let lies : LiesWithin l (length (put_word r (l.start + sum_place l.proto) 0)) =
    record { header = within.header; fields = fields; within = omega arith; short = within.short } in
    rw sent (summed l (put_word r (l.start + sum_place l.proto) 0)
    (segment_sum l (put_word r (l.start + sum_place l.proto) 0)) lies
    (bytes_put r (l.start + sum_place l.proto) 0 h (lit< tt))
    (zero_word r (l.start + sum_place l.proto) there) refl)

-- without a checksum the segment stays as it is
pub segment_unsummed : (l : Layout) (r : List ℕ) → lacks_sum l.proto (word_at r (l.start + sum_place l.proto)) ≡ true
    → put_segment_sum l r ≡ r
unfolding put_segment_sum
segment_unsummed l r lacks = rw lacks refl
