-- Edits of two packets that are alike: of a packet with the bytes past its total length and without them, and of a
-- packet before and after its time to live was lowered.
use Rattle.std.proofs.Common.{◌≡◌, ◌≢◌, ℕ, ◌+◌, ◌-◌, ◌*◌, ◌/◌, ◌%◌, ◌^◌, ◌<◌, ◌≤◌, ◌==◌, if◌then◌else◌, Bool, true}
use Rattle.std.proofs.Common.{false, nat_lt, List, length, take, get_or, slice_set, Option, Some, None, refl, sym, ap}
use Rattle.std.proofs.Common.{◌∙◌, subst, arith, lit<}
use Rattle.std.proofs.Math.ListN.{length-set}
use Rattle.std.proofs.lemmas.List.{take_all}
use Rattle.wire_core.specs.declared.address.Ip4.{Ip4}
use Rattle.wire_core.specs.declared.flow.Proto.{Proto}
use Rattle.wire_core.specs.declared.flow.Proto.TheVariants.{Tcp, Udp}
use Rattle.packet_spec.specs.declared.layout.Layout.{Layout}
use Rattle.packet_spec.specs.Words.{word_at, put_word, put_address}
use Rattle.packet_spec.specs.Sums.{checksum}
use Rattle.packet_spec.specs.Headers.{IsWhole, header_length, total_length, ttl_of, source_of, destination_of, whole}
use Rattle.packet_spec.specs.Segments.{HasFields, least_length, sum_place, covered}
use Rattle.packet_spec.specs.Packets.{packet_fault, carried}
use Rattle.packet_spec.specs.Edits.{layout_of, segment_end, segment_in, put_source, put_destination, put_ttl}
use Rattle.packet_spec.specs.Edits.{lower_word, placed, syn_mss, clamp, put_header_sum, put_segment_sum, put_sums}
use Rattle.packet_spec.specs.Edits.{sent_sum, segment_sum, lacks_sum, translate_source, translate_destination}
use Rattle.packet_spec.specs.Edits.{translated, restored}
use Rattle.packet_spec.specs.Layouts.{LiesWithin}
use Rattle.packet_spec.specs.Laws.{IsSound, IsEnd, Becomes}
use Rattle.packet_spec.proofs.PacketLaws.{HasHeader, has_header, header_is_fine, length-whole, byte_of_whole}
use Rattle.packet_spec.proofs.PacketLaws.{word_of_whole}
use Rattle.packet_spec.proofs.LayoutLaws.{laid_out, laid_fields, length-segment_in}
use Rattle.packet_spec.proofs.KeptLaws.{Keeps}
use Rattle.packet_spec.proofs.EditLaws.{syn_mss_within, edited_clamp}
use Rattle.packet_spec.proofs.RightLaws.{place_within}
use Rattle.packet_spec.proofs.FineLaws.{header_kept, total_kept, edited_all}
use Rattle.packet_spec.proofs.AgreeLaws.{Agree, agree_set, agree_still, agree_put, agree_put_same, agree_address}
use Rattle.packet_spec.proofs.AgreeLaws.{agree_word, agree_address_at, agree_range, agree_front, agree_all, agree_if}
use Rattle.packet_spec.proofs.AgreeLaws.{agree_lower}
use Rattle.packet_spec.proofs.PlaceLaws.{length-word}
use Rattle.packet_spec.proofs.BecomeLaws.{hops_elsewhere, hops_edited, hops_become, translate_source_becomes}
use Rattle.packet_spec.proofs.BecomeLaws.{translate_destination_becomes}
use Rattle.packet_spec.proofs.WholeLaws.{whole_is_sound, sound_is_whole, whole_stays, carried_of_whole}

-- ---- each edit of two packets

agree_clamp : (here : ℕ → Type 0) (l : Layout) (x y : List ℕ) → Agree here x y → l.start ≤ l.end → l.end ≤ length x
    → l.end ≤ length y
    → ((i : ℕ) → l.start ≤ i → i < l.end → here i) → length (segment_in l y) ≡ l.end - l.start
    → HasFields l.proto (segment_in l y)
    → Agree here (clamp l x) (clamp l y)
unfolding clamp
agree_clamp here l x y a some left right inside size fields =
    let same : segment_in l x ≡ segment_in l y = agree_range here x y l.start l.end a left right inside in
    subst (λ (s : List ℕ). Agree here (lower_word (placed l.start (syn_mss l.proto s)) x)
    (lower_word (placed l.start (syn_mss l.proto (segment_in l y))) y)) (sym same)
    (agree_lower here x y l.start (syn_mss l.proto (segment_in l y)) a (λ v e.
    let w = syn_mss_within l.proto (segment_in l y) v fields e in
    (inside (l.start + v) (omega arith) (omega arith), inside (l.start + v + 1) (omega arith) (omega arith))))

agree_source : (here : ℕ → Type 0) (l : Layout) (ip : Ip4) (port : ℕ) (x y : List ℕ) → Agree here x y
    → Agree here (put_source l ip port x) (put_source l ip port y)
unfolding put_source
agree_source here l ip port x y a =
    agree_put here (put_address x 12 ip) (put_address y 12 ip) l.start port (agree_address here x y 12 ip a)

agree_destination : (here : ℕ → Type 0) (l : Layout) (ip : Ip4) (port : ℕ) (x y : List ℕ) → Agree here x y
    → Agree here (put_destination l ip port x) (put_destination l ip port y)
unfolding put_destination
agree_destination here l ip port x y a =
    agree_put here (put_address x 16 ip) (put_address y 16 ip) (l.start + 2) port (agree_address here x y 16 ip a)

agree_ttl : (here : ℕ → Type 0) (v : ℕ) (x y : List ℕ) → Agree here x y → Agree here (put_ttl v x) (put_ttl v y)
unfolding put_ttl
agree_ttl here v x y a = agree_still here x y 8 v a

-- the places before n
abbrev Before : ℕ → ℕ → Type 0
Before n i = i < n

long_left : (n : ℕ) (x y : List ℕ) → 0 < n → Agree (Before n) x y → n ≤ length x
long_left n x y some a = let l = a.left (n - 1) (omega arith) in omega arith

long_right : (n : ℕ) (x y : List ℕ) → 0 < n → Agree (Before n) x y → n ≤ length y
long_right n x y some a = let r = a.right (n - 1) (omega arith) in omega arith

agree_header_sum : (n : ℕ) (l : Layout) (x y : List ℕ) → LiesWithin l n → Agree (Before n) x y
    → Agree (Before n) (put_header_sum l x) (put_header_sum l y)
unfolding put_header_sum
agree_header_sum n l x y within a =
    let header = within.header in
    let fields = within.fields in
    let end = within.within in
    let cleared = agree_put (Before n) x y 10 0 a in
    let left = long_left n (put_word x 10 0) (put_word y 10 0) (omega arith) cleared in
    let right = long_right n (put_word x 10 0) (put_word y 10 0) (omega arith) cleared in
    let front = agree_front (Before n) (put_word x 10 0) (put_word y 10 0) l.start cleared (omega arith) (omega arith)
    (λ i lt. omega arith) in
    agree_put_same (Before n) (put_word x 10 0) (put_word y 10 0) 10 (checksum (take l.start (put_word x 10 0)))
    (checksum (take l.start (put_word y 10 0))) (ap checksum front) cleared

same_segment_sum : (n : ℕ) (l : Layout) (x y : List ℕ) → LiesWithin l n → Agree (Before n) x y
    → segment_sum l x ≡ segment_sum l y
same_segment_sum n l x y within a =
    let header = within.header in
    let fields = within.fields in
    let end = within.within in
    let left = long_left n x y (omega arith) a in
    let right = long_right n x y (omega arith) a in
    let source = agree_address_at (Before n) x y 12 a (λ i low up. omega arith) in
    let destination = agree_address_at (Before n) x y 16 a (λ i low up. omega arith) in
    let segment = agree_range (Before n) x y l.start l.end a (omega arith) (omega arith) (λ i low up. omega arith) in
    ap (λ (ip : Ip4). sent_sum l.proto (checksum (covered l.proto ip (destination_of x) (segment_in l x)))) source
    ∙ ap (λ (ip : Ip4). sent_sum l.proto (checksum (covered l.proto (source_of y) ip (segment_in l x)))) destination
    ∙ ap (λ (s : List ℕ). sent_sum l.proto (checksum (covered l.proto (source_of y) (destination_of y) s))) segment

agree_segment_sum : (n : ℕ) (l : Layout) (x y : List ℕ) → LiesWithin l n → Agree (Before n) x y
    → Agree (Before n) (put_segment_sum l x) (put_segment_sum l y)
unfolding put_segment_sum
agree_segment_sum n l x y within a =
    let fields = within.fields in
    let end = within.within in
    let inside = place_within l.proto in
    let word = agree_word (Before n) x y (l.start + sum_place l.proto) a (omega arith) (omega arith) in
    let cleared = agree_put (Before n) x y (l.start + sum_place l.proto) 0 a in
    let sum = same_segment_sum n l (put_word x (l.start + sum_place l.proto) 0)
    (put_word y (l.start + sum_place l.proto) 0) within cleared in
    agree_if (Before n) x _ y _ (lacks_sum l.proto (word_at x (l.start + sum_place l.proto)))
    (lacks_sum l.proto (word_at y (l.start + sum_place l.proto)))
    (ap (λ (w : ℕ). lacks_sum l.proto w) word) a
    (agree_put_same (Before n) (put_word x (l.start + sum_place l.proto) 0)
    (put_word y (l.start + sum_place l.proto) 0) (l.start + sum_place l.proto) _ _ sum cleared)

agree_sums : (n : ℕ) (l : Layout) (x y : List ℕ) → LiesWithin l n → Agree (Before n) x y
    → Agree (Before n) (put_sums l x) (put_sums l y)
agree_sums n l x y within a = agree_segment_sum n l (put_header_sum l x) (put_header_sum l y) within
    (agree_header_sum n l x y within a)

-- ---- with the bytes past the total length and without them

whole_agrees : (x y : List ℕ) → Agree (Before (length y)) x y → IsWhole y → whole x ≡ y
unfolding whole
whole_agrees x y a w =
    let header = w.header in
    let within = w.within in
    let total = w.total in
    let left = long_left (length y) x y (omega arith) a in
    let word = agree_word (Before (length y)) x y 2 a (omega arith) (omega arith) in
    let size : total_length x ≡ length y = word ∙ sym total in
    ap (λ (n : ℕ). take n x) size ∙ agree_front (Before (length y)) x y (length y) a left (omega arith) (λ i lt. lt)
    ∙ take_all (length y) y (omega arith)

front_agrees : (p : List ℕ) → HasHeader p → Agree (Before (total_length p)) p (whole p)
front_agrees p h =
    let total = h.total in
    let len = length-whole p h in
    record {
      left = λ i lt. omega arith;
      right = λ i lt. omega arith;
      same = λ i lt. sym (byte_of_whole p i lt);
    }

end_of_whole : (proto : Proto) (p : List ℕ) → HasHeader p → header_length (whole p) ≡ header_length p
    → header_length p + 5 < total_length p
    → segment_end proto (whole p) ≡ segment_end proto p
end_of_whole Tcp p h same room = let a = h.header in let b = h.within in word_of_whole p 2 (omega arith)
end_of_whole Udp p h same room =
    ap (λ (n : ℕ). n + word_at (whole p) (n + 4)) same
    ∙ ap (λ (n : ℕ). header_length p + n) (word_of_whole p (header_length p + 4) (omega arith))

-- where the parts of a packet lie, with and without the bytes past it
record Laid (p : List ℕ) : Type 0 where
  header : HasHeader p
  layout : layout_of (whole p) ≡ layout_of p
  within : LiesWithin (layout_of p) (total_length p)
  fields : HasFields (layout_of p).proto (segment_in (layout_of p) (whole p))

least_of : (proto : Proto) → 8 ≤ least_length proto
least_of Tcp = omega arith
least_of Udp = omega arith

laid : (p : List ℕ) → IsSound p → Laid p
unfolding layout_of
laid p s =
    let h = has_header p (header_is_fine p s.fine) in
    let a = h.header in
    let b = h.within in
    let w = whole_is_sound p s in
    let len = length-whole p h in
    let byte = byte_of_whole p 0 (omega arith) in
    let start : header_length (whole p) ≡ header_length p = ap (λ (x : ℕ). 4 * (x % 16)) byte in
    let proto = carried_of_whole p h in
    let of_whole = laid_out (whole p) w.bytes w.fine in
    let most = of_whole.within in
    let few = of_whole.fields in
    let least = least_of (carried (whole p)) in
    let end : segment_end (carried (whole p)) (whole p) ≡ segment_end (carried p) p =
    ap (λ (x : Proto). segment_end x (whole p)) proto ∙ end_of_whole (carried p) p h start (omega arith) in
    let same : layout_of (whole p) ≡ layout_of p =
    ap (λ (x : Proto). made x (header_length (whole p)) (segment_end (carried (whole p)) (whole p))) proto
    ∙ ap (λ (n : ℕ). made (carried p) n (segment_end (carried (whole p)) (whole p))) start
    ∙ ap (λ (n : ℕ). made (carried p) (header_length p) n) end in
    record {
      header = h;
      layout = same;
      within = subst (λ (n : ℕ). LiesWithin (layout_of p) n) len
          (subst (λ (l : Layout). LiesWithin l (length (whole p))) same of_whole);
      fields = subst (λ (l : Layout). HasFields l.proto (segment_in l (whole p))) same
          (laid_fields (whole p) w.bytes w.fine);
    }
  where
    made : Proto → ℕ → ℕ → Layout
    made proto start end = record { proto = proto; start = start; end = end }

clamped_front : (p : List ℕ) → IsSound p
    → Agree (Before (total_length p)) (clamp (layout_of p) p) (clamp (layout_of p) (whole p))
clamped_front p s =
    let d = laid p s in
    let w = d.within in
    let fields = w.fields in
    let end = w.within in
    let total = d.header.total in
    let len = length-whole p d.header in
    let size = length-segment_in (layout_of p) (whole p) (subst (λ (n : ℕ). LiesWithin (layout_of p) n) (sym len) w) in
    agree_clamp (Before (total_length p)) (layout_of p) p (whole p) (front_agrees p d.header) (omega arith)
    (omega arith) (omega arith)
    (λ i low up. omega arith) size d.fields

source_agrees : (ip : Ip4) (port : ℕ) (p : List ℕ) → IsSound p
    → Agree (Before (total_length p)) (translate_source ip port p) (translate_source ip port (whole p))
unfolding translate_source
source_agrees ip port p s =
    let d = laid p s in
    let front = agree_source (Before (total_length p)) (layout_of p) ip port (clamp (layout_of p) p)
    (clamp (layout_of p) (whole p)) (clamped_front p s) in
    subst (λ (l : Layout). Agree (Before (total_length p))
    (put_sums (layout_of p) (put_source (layout_of p) ip port (clamp (layout_of p) p)))
    (put_sums l (put_source l ip port (clamp l (whole p)))))
    (sym d.layout)
    (agree_sums (total_length p) (layout_of p) (put_source (layout_of p) ip port (clamp (layout_of p) p))
    (put_source (layout_of p) ip port (clamp (layout_of p) (whole p))) d.within front)

pub whole_translated : (ip : Ip4) (port : ℕ) (p : List ℕ) → IsSound p → IsEnd ip port
    → whole (translate_source ip port p) ≡ translated ip port p
unfolding translated
whole_translated ip port p s e =
    let d = laid p s in
    let b = translate_source_becomes ip port (whole p) (whole_is_sound p s) e in
    let len : length (translate_source ip port (whole p)) ≡ total_length p = b.as_long ∙ length-whole p d.header in
    whole_agrees (translate_source ip port p) (translate_source ip port (whole p))
    (subst (λ (n : ℕ). Agree (Before n) (translate_source ip port p) (translate_source ip port (whole p))) (sym len)
    (source_agrees ip port p s))
    (b.whole (sound_is_whole p s))

destination_agrees : (ip : Ip4) (port d : ℕ) (p : List ℕ) → IsSound p
    → Agree (Before (total_length p)) (translate_destination ip port d p) (translate_destination ip port d (whole p))
unfolding translate_destination
destination_agrees ip port d p s =
    let x = laid p s in
    let header = x.header.header in
    let within = x.header.within in
    let hops : ttl_of (whole p) ≡ ttl_of p = byte_of_whole p 8 (omega arith) in
    let lowered = agree_ttl (Before (total_length p)) (ttl_of p - d) (clamp (layout_of p) p)
    (clamp (layout_of p) (whole p)) (clamped_front p s) in
    let front = agree_destination (Before (total_length p)) (layout_of p) ip port
    (put_ttl (ttl_of p - d) (clamp (layout_of p) p))
    (put_ttl (ttl_of p - d) (clamp (layout_of p) (whole p))) lowered in
    let summed = agree_sums (total_length p) (layout_of p)
    (put_destination (layout_of p) ip port (put_ttl (ttl_of p - d) (clamp (layout_of p) p)))
    (put_destination (layout_of p) ip port
    (put_ttl (ttl_of p - d) (clamp (layout_of p) (whole p)))) x.within front in
    subst (λ (l : Layout). Agree (Before (total_length p))
    (put_sums (layout_of p)
    (put_destination (layout_of p) ip port (put_ttl (ttl_of p - d) (clamp (layout_of p) p))))
    (put_sums l (put_destination l ip port (put_ttl (ttl_of (whole p) - d) (clamp l (whole p))))))
    (sym x.layout)
    (subst (λ (n : ℕ). Agree (Before (total_length p))
    (put_sums (layout_of p)
    (put_destination (layout_of p) ip port (put_ttl (ttl_of p - d) (clamp (layout_of p) p))))
    (put_sums (layout_of p)
    (put_destination (layout_of p) ip port (put_ttl (n - d) (clamp (layout_of p) (whole p))))))
    (sym hops) summed)

pub whole_restored : (ip : Ip4) (port d : ℕ) (p : List ℕ) → IsSound p → IsEnd ip port
    → whole (translate_destination ip port d p) ≡ restored ip port d p
unfolding restored
whole_restored ip port d p s e =
    let x = laid p s in
    let b = translate_destination_becomes ip port d (whole p) (whole_is_sound p s) e in
    let len : length (translate_destination ip port d (whole p)) ≡ total_length p = b.as_long
    ∙ length-whole p x.header in
    whole_agrees (translate_destination ip port d p) (translate_destination ip port d (whole p))
    (subst (λ (n : ℕ). Agree (Before n) (translate_destination ip port d p)
    (translate_destination ip port d (whole p))) (sym len) (destination_agrees ip port d p s))
    (b.whole (sound_is_whole p s))

-- ---- before and after the time to live was lowered

-- all places but those of the time to live and of the header's checksum
abbrev Elsewhere : ℕ → ℕ → Type 0
Elsewhere n i = (i < n) × ((i ≢ 8) × ((i ≢ 10) × (i ≢ 11)))

abbrev OffSum : ℕ → ℕ → Type 0
OffSum n i = (i < n) × ((i ≢ 10) × (i ≢ 11))

layout_kept : (p q : List ℕ) → Keeps (header_length p) p q → layout_of q ≡ layout_of p
unfolding layout_of
layout_kept p q k =
    let start = header_kept (header_length p) p q k in
    let proto : carried q ≡ carried p = ap (λ (n : ℕ). if n == 6 then Tcp else Udp) k.number in
    let high = k.length_high in
    let low = k.length_low in
    let size : word_at q (header_length p + 4) ≡ word_at p (header_length p + 4) = omega (arith, high, low) in
    let datagram : segment_end Udp q ≡ segment_end Udp p = ap (λ (n : ℕ). n + word_at q (n + 4)) start
    ∙ ap (λ (n : ℕ). header_length p + n) size in
    ap (λ (x : Proto). made x (header_length q) (segment_end x q)) proto
    ∙ ap (λ (n : ℕ). made (carried p) n (segment_end (carried p) q)) start
    ∙ ap (λ (n : ℕ). made (carried p) (header_length p) n)
    (ends (carried p) datagram (total_kept (header_length p) p q k))
  where
    made : Proto → ℕ → ℕ → Layout
    made proto start end = record { proto = proto; start = start; end = end }

    ends : (x : Proto) → segment_end Udp q ≡ segment_end Udp p → total_length q ≡ total_length p
        → segment_end x q ≡ segment_end x p
    ends Tcp a b = b
    ends Udp a b = a

clamp_length : (l : Layout) (z : List ℕ) → length (clamp l z) ≡ length z
unfolding clamp
clamp_length l z = lower_length (placed l.start (syn_mss l.proto (segment_in l z))) z
  where
    if_length : (b : Bool) (at : ℕ) (z : List ℕ) → length (if b then put_word z at 1440 else z) ≡ length z
    if_length true at z = length-word z at 1440
    if_length false at z = refl

    lower_length : (o : Option ℕ) (z : List ℕ) → length (lower_word o z) ≡ length z
    lower_length None z = refl
    lower_length (Some at) z = if_length (nat_lt 1440 (word_at z at)) at z

-- setting the time to live and clearing the checksum makes them one
same_cleared : (l : Layout) (ip : Ip4) (port t : ℕ) (x y : List ℕ) → length x ≡ length y → 8 < length x
    → Agree (Elsewhere (length x)) (clamp l x) (clamp l y) → length (clamp l x) ≡ length x
    → length (clamp l y) ≡ length y
    → put_header_sum l (put_destination l ip port (put_ttl t (clamp l x)))
    ≡ put_header_sum l (put_destination l ip port (put_ttl t (clamp l y)))
unfolding put_header_sum put_ttl put_destination
same_cleared l ip port t x y same room a left right =
    let hops = agree_set (Elsewhere (length x)) (OffSum (length x)) (clamp l x) (clamp l y) 8 t a
    (λ i h. let b = h.0 in omega arith) (λ i h. let b = h.0 in omega arith) (λ i h n. (h.0, (n, h.1))) in
    let moved = agree_destination (OffSum (length x)) l ip port (put_ttl t (clamp l x)) (put_ttl t (clamp l y)) hops in
    let len_x = sizes l ip port t (clamp l x) in
    let len_y = sizes l ip port t (clamp l y) in
    let high = agree_set (OffSum (length x)) (λ i. (i < length x) × (i ≢ 11))
    (put_destination l ip port (put_ttl t (clamp l x)))
    (put_destination l ip port (put_ttl t (clamp l y))) 10 0 moved
    (λ i h. let b = h.0 in omega arith) (λ i h. let b = h.0 in omega arith) (λ i h n. (h.0, (n, h.1))) in
    let high_x = length-set (put_destination l ip port (put_ttl t (clamp l x))) 10 0 in
    let high_y = length-set (put_destination l ip port (put_ttl t (clamp l y))) 10 0 in
    let low = agree_set (λ i. (i < length x) × (i ≢ 11)) (Before (length x))
    (slice_set (put_destination l ip port (put_ttl t (clamp l x))) 10 0)
    (slice_set (put_destination l ip port (put_ttl t (clamp l y))) 10 0) (10 + 1) 0 high
    (λ i h. omega arith) (λ i h. omega arith) (λ i h n. (h, λ e. n (omega arith))) in
    let low_x = length-word (put_destination l ip port (put_ttl t (clamp l x))) 10 0 in
    let low_y = length-word (put_destination l ip port (put_ttl t (clamp l y))) 10 0 in
    let as_long : length (put_word (put_destination l ip port (put_ttl t (clamp l x))) 10 0) ≡ length x = omega arith in
    let both : length (put_word (put_destination l ip port (put_ttl t (clamp l x))) 10 0)
    ≡ length (put_word (put_destination l ip port (put_ttl t (clamp l y))) 10 0) = omega arith in
    let one = agree_all (put_word (put_destination l ip port (put_ttl t (clamp l x))) 10 0)
    (put_word (put_destination l ip port (put_ttl t (clamp l y))) 10 0) both
    (subst (λ (n : ℕ). Agree (Before n) (put_word (put_destination l ip port (put_ttl t (clamp l x))) 10 0)
    (put_word (put_destination l ip port (put_ttl t (clamp l y))) 10 0)) (sym as_long) low) in
    ap (λ (z : List ℕ). put_word z 10 (checksum (take l.start z))) one
  where
    sizes : (l : Layout) (ip : Ip4) (port t : ℕ) (z : List ℕ) → length (put_destination l ip port (put_ttl t z))
        ≡ length z
    sizes l ip port t z =
        length-word (put_address (put_ttl t z) 16 ip) (l.start + 2) port
        ∙ length-word (put_word (put_ttl t z) 16 (ip.0 / 65536)) (16 + 2) (ip.0 % 65536)
        ∙ length-word (put_ttl t z) 16 (ip.0 / 65536)
        ∙ length-set z 8 t

elsewhere_agrees : (v : ℕ) (p : List ℕ) → v < 256 → IsSound p
    → Agree (Elsewhere (length p)) (put_header_sum (layout_of p) (put_ttl v p)) p
elsewhere_agrees v p small s =
    let len = (hops_edited v p small s).keeps.same_length in
    record {
      left = λ i h. let l = h.0 in omega arith;
      right = λ i h. h.0;
      same = λ i h. hops_elsewhere (layout_of p) v p i h.1.0 h.1.1.0 h.1.1.1;
    }

-- What is handed on after its time to live was set is what would have been handed on before, by as many hops in all.
pub restored_after : (ip : Ip4) (port d e v : ℕ) (p : List ℕ) → v < 256 → IsSound p → v - d ≡ ttl_of p - e
    → translate_destination ip port d (put_header_sum (layout_of p) (put_ttl v p)) ≡ translate_destination ip port e p
unfolding translate_destination
restored_after ip port d e v p small s hops =
    let q_edited = hops_edited v p small s in
    let same = q_edited.keeps.same_length in
    let layout = layout_kept p (put_header_sum (layout_of p) (put_ttl v p)) q_edited.keeps in
    let ttl : ttl_of (put_header_sum (layout_of p) (put_ttl v p)) - d ≡ ttl_of p - e =
    ap (λ (n : ℕ). n - d) (hops_become v p small s).hops ∙ hops in
    let h = has_header p (header_is_fine p s.fine) in
    let header = h.header in
    let within = laid_out p s.bytes s.fine in
    let start = within.header in
    let fields = within.fields in
    let end = within.within in
    let size = length-segment_in (layout_of p) p within in
    let alike = agree_clamp (Elsewhere (length p)) (layout_of p) (put_header_sum (layout_of p) (put_ttl v p)) p
    (elsewhere_agrees v p small s) (omega arith) (omega arith) (omega arith)
    (λ i low up. (omega arith, (omega arith, (omega arith, omega arith)))) size (laid_fields p s.bytes s.fine) in
    let left = clamp_length (layout_of p) (put_header_sum (layout_of p) (put_ttl v p)) in
    let right = clamp_length (layout_of p) p in
    let one = same_cleared (layout_of p) ip port (ttl_of p - e) (put_header_sum (layout_of p) (put_ttl v p)) p same
    (omega arith)
    (subst (λ (n : ℕ). Agree (Elsewhere n) (clamp (layout_of p) (put_header_sum (layout_of p) (put_ttl v p)))
    (clamp (layout_of p) p)) (sym same) alike) left right in
    ap (λ (l : Layout). put_sums l
    (put_destination l ip port
    (put_ttl (ttl_of (put_header_sum (layout_of p) (put_ttl v p)) - d)
    (clamp l (put_header_sum (layout_of p) (put_ttl v p)))))) layout
    ∙ ap (λ (n : ℕ). put_sums (layout_of p)
    (put_destination (layout_of p) ip port
    (put_ttl n (clamp (layout_of p) (put_header_sum (layout_of p) (put_ttl v p)))))) ttl
    ∙ ap (λ (z : List ℕ). put_segment_sum (layout_of p) z) one

-- ---- the same of what was put together step by step, in the words in which code tells it

pub source_put_whole : (l : Layout) (ip : Ip4) (port : ℕ) (p : List ℕ) → l ≡ layout_of p → ip.0 < 2 ^ 32 → port < 65536
    → ((i : ℕ) → get_or p i 0 < 256) → packet_fault p ≡ None
    → whole (put_sums l (put_source l ip port (clamp l p))) ≡ translated ip port p
unfolding translate_source
source_put_whole l ip port p is a b bytes fine =
    ap (λ (x : Layout). whole (put_sums x (put_source x ip port (clamp x p)))) is
    ∙ whole_translated ip port p (record { bytes = bytes; fine = fine }) (record { address = a; port_fits = b })

pub destination_put_whole : (l : Layout) (ip : Ip4) (port d ttl : ℕ) (p : List ℕ) → l ≡ layout_of p → ip.0 < 2 ^ 32
    → port < 65536
    → ttl ≡ ttl_of p - d → ((i : ℕ) → get_or p i 0 < 256) → packet_fault p ≡ None
    → whole (put_sums l (put_destination l ip port (put_ttl ttl (clamp l p)))) ≡ restored ip port d p
unfolding translate_destination
destination_put_whole l ip port d ttl p is a b hops bytes fine =
    ap (λ (x : Layout). whole (put_sums x (put_destination x ip port (put_ttl ttl (clamp x p))))) is
    ∙ ap (λ (n : ℕ). whole
    (put_sums (layout_of p) (put_destination (layout_of p) ip port (put_ttl n (clamp (layout_of p) p))))) hops
    ∙ whole_restored ip port d p (record { bytes = bytes; fine = fine }) (record { address = a; port_fits = b })
