-- Each edit keeps what the parts of a packet are found by, and its bytes.
use Rattle.std.proofs.Common.{◌≡◌, ℕ, zero, suc, ◌+◌, ◌/◌, ◌%◌, ◌<◌, ◌≤◌, ◌^◌, Bool, true, false, nat_lt}
use Rattle.std.proofs.Common.{if◌then◌else◌, List, length, take, Option, Some, None, refl, arith, lit<}
use Rattle.wire_core.specs.declared.address.Ip4.{Ip4}
use Rattle.wire_core.specs.declared.flow.Proto.{Proto}
use Rattle.wire_core.specs.declared.flow.Proto.TheVariants.{Tcp, Udp}
use Rattle.packet_spec.specs.declared.layout.Layout.{Layout}
use Rattle.packet_spec.specs.declared.options.OptionStep.{OptionStep}
use Rattle.packet_spec.specs.declared.options.OptionStep.TheVariants.{Stop, Size, Next}
use Rattle.packet_spec.specs.Words.{word_at, put_word, put_address}
use Rattle.packet_spec.specs.Sums.{checksum}
use Rattle.packet_spec.specs.Options.{option_at, follow, mss_from, mss_at, data_offset}
use Rattle.packet_spec.specs.Headers.{source_of, destination_of}
use Rattle.packet_spec.specs.Segments.{HasFields, sum_place, covered}
use Rattle.packet_spec.specs.Edits.{put_source, put_destination, put_ttl, lower_word, placed, syn_mss, clamp}
use Rattle.packet_spec.specs.Edits.{put_header_sum, put_segment_sum, segment_in, sent_sum, lacks_sum}
use Rattle.packet_spec.proofs.SumLaws.{IsBytes, bytes_set, bytes_put}
use Rattle.packet_spec.proofs.KeptLaws.{Keeps, keeps_set, keeps_put, free_in_header, free_behind, free_ttl, free_sum}

-- a packet that keeps the parts of another, in bytes
pub record Edited (start : ℕ) (p q : List ℕ) : Type 0 where
  pub keeps : Keeps start p q
  pub bytes : IsBytes q

pub edited_put : (start : ℕ) (p q : List ℕ) (at w : ℕ) → 20 ≤ start → 10 ≤ at → at + 1 < start + 4 → w < 65536
    → Edited start p q → Edited start p (put_word q at w)
edited_put start p q at w long low high fits e = record {
  keeps = keeps_put start p q at w e.keeps (free_in_header start at long low (omega arith))
      (free_in_header start (at + 1) long (omega arith) high);
  bytes = bytes_put q at w e.bytes fits;
}

pub edited_address : (start : ℕ) (p q : List ℕ) (at : ℕ) (ip : Ip4) → 20 ≤ start → 10 ≤ at → at + 4 ≤ start
    → ip.0 < 2 ^ 32 → Edited start p q → Edited start p (put_address q at ip)
edited_address start p q at ip long low high fits e =
    let above : ip.0 / 65536 < 65536 = omega arith in
    let below : ip.0 % 65536 < 65536 = omega arith in
    edited_put start p (put_word q at (ip.0 / 65536)) (at + 2) (ip.0 % 65536) long (omega arith) (omega arith) below
    (edited_put start p q at (ip.0 / 65536) long low (omega arith) above e)

pub edited_source : (l : Layout) (ip : Ip4) (port : ℕ) (p q : List ℕ) → 20 ≤ l.start → ip.0 < 2 ^ 32 → port < 65536
    → Edited l.start p q → Edited l.start p (put_source l ip port q)
unfolding put_source
edited_source l ip port p q long a b e = edited_put l.start p (put_address q 12 ip) l.start port long (omega arith)
    (omega arith) b (edited_address l.start p q 12 ip long (omega arith) (omega arith) a e)

pub edited_destination : (l : Layout) (ip : Ip4) (port : ℕ) (p q : List ℕ) → 20 ≤ l.start → ip.0 < 2 ^ 32
    → port < 65536 → Edited l.start p q → Edited l.start p (put_destination l ip port q)
unfolding put_destination
edited_destination l ip port p q long a b e = edited_put l.start p (put_address q 16 ip) (l.start + 2) port long
    (omega arith) (omega arith) b (edited_address l.start p q 16 ip long (omega arith) (omega arith) a e)

pub edited_ttl : (start ttl : ℕ) (p q : List ℕ) → 20 ≤ start → ttl < 256 → Edited start p q
    → Edited start p (put_ttl ttl q)
unfolding put_ttl
edited_ttl start ttl p q long a e = record {
  keeps = keeps_set start p q 8 ttl e.keeps (free_ttl start long);
  bytes =
      bytes_set q 8 ttl e.bytes a;
}

-- what the walk over the options finds stands behind the place where it begins
step_size : (s : List ℕ) (end at x : ℕ) → option_at s end at ≡ Size x → x ≡ at + 2
unfolding option_at
step_size s end at x e = grind arith

step_next : (s : List ℕ) (end at x : ℕ) → option_at s end at ≡ Next x → at + 1 ≤ x
unfolding option_at
step_next s end at x e = grind arith

follow_above : (s : List ℕ) (end at v : ℕ) (more : ℕ → Option ℕ) → ((x : ℕ) → more x ≡ Some v → x + 2 ≤ v)
    → (r : OptionStep) → option_at s end at ≡ r → follow more r ≡ Some v → at + 2 ≤ v
follow_above s end at v more ih Stop is e = absurd (cc)
follow_above s end at v more ih (Size x) is e = let p = step_size s end at x is in let q : x ≡ v = cc in omega arith
follow_above s end at v more ih (Next x) is e = let p = step_next s end at x is in let q = ih x e in omega arith

mss_above : (n : ℕ) (s : List ℕ) (end at v : ℕ) → mss_from n s end at ≡ Some v → at + 2 ≤ v
unfolding mss_from
mss_above zero s end at v e = absurd (cc)
mss_above (suc n) s end at v e = follow_above s end at v (λ x. mss_from n s end x) (λ x. mss_above n s end x v)
    (option_at s end at) refl e

pub syn_mss_above : (proto : Proto) (s : List ℕ) (v : ℕ) → syn_mss proto s ≡ Some v → 22 ≤ v
unfolding mss_at
syn_mss_above proto s v e = let m = mss_above 40 s (data_offset s) 20 v in grind arith

-- and within the options
step_within : (s : List ℕ) (end at x : ℕ) → option_at s end at ≡ Size x → x + 2 ≤ end
unfolding option_at
step_within s end at x e = grind arith

follow_within : (s : List ℕ) (end at v : ℕ) (more : ℕ → Option ℕ) → ((x : ℕ) → more x ≡ Some v → v + 2 ≤ end)
    → (r : OptionStep) → option_at s end at ≡ r → follow more r ≡ Some v → v + 2 ≤ end
follow_within s end at v more ih Stop is e = absurd (cc)
follow_within s end at v more ih (Size x) is e = let p = step_within s end at x is in let q : x ≡ v = cc in omega arith
follow_within s end at v more ih (Next x) is e = ih x e

mss_within : (n : ℕ) (s : List ℕ) (end at v : ℕ) → mss_from n s end at ≡ Some v → v + 2 ≤ end
unfolding mss_from
mss_within zero s end at v e = absurd (cc)
mss_within (suc n) s end at v e =
    follow_within s end at v (λ x. mss_from n s end x) (λ x. mss_within n s end x v) (option_at s end at) refl e

pub syn_mss_within : (proto : Proto) (s : List ℕ) (v : ℕ) → HasFields proto s → syn_mss proto s ≡ Some v
    → v + 2 ≤ length s
unfolding mss_at
syn_mss_within Tcp s v f e = let options = f.options in let m = mss_within 40 s (data_offset s) 20 v in grind arith
syn_mss_within Udp s v f e = absurd (cc)

-- either of two
pub edited_if : (start : ℕ) (p x y : List ℕ) (b : Bool) → Edited start p x → Edited start p y
    → Edited start p (if b then x else y)
edited_if start p x y true e f = e
edited_if start p x y false e f = f

edited_lower : (start : ℕ) (p q : List ℕ) (o : Option ℕ) → 20 ≤ start → ((v : ℕ) → o ≡ Some v → 22 ≤ v)
    → Edited start p q → Edited start p (lower_word (placed start o) q)
edited_lower start p q None long above e = e
edited_lower start p q (Some v) long above e =
    let a = above v refl in
    edited_if start p (put_word q (start + v) 1440) q (nat_lt 1440 (word_at q (start + v))) (record {
      keeps = keeps_put start p q (start + v) 1440 e.keeps (free_behind start (start + v) (omega arith))
          (free_behind start (start + v + 1) (omega arith));
      bytes = bytes_put q (start + v) 1440 e.bytes (lit< tt);
    }) e

pub edited_clamp : (l : Layout) (p q : List ℕ) → 20 ≤ l.start → Edited l.start p q → Edited l.start p (clamp l q)
unfolding clamp
edited_clamp l p q long e = edited_lower l.start p q (syn_mss l.proto (segment_in l q)) long
    (syn_mss_above l.proto (segment_in l q)) e

-- a checksum is a word
pub checksum-lt : (xs : List ℕ) → checksum xs < 65536
unfolding checksum
checksum-lt xs = omega arith

pub sent_sum-lt : (proto : Proto) (w : ℕ) → w < 65536 → sent_sum proto w < 65536
sent_sum-lt Tcp w h = h
sent_sum-lt Udp w h = grind arith

pub edited_header_sum : (l : Layout) (p q : List ℕ) → 20 ≤ l.start → Edited l.start p q
    → Edited l.start p (put_header_sum l q)
unfolding put_header_sum
edited_header_sum l p q long e =
    let zero_put = edited_put l.start p q 10 0 long (omega arith) (omega arith) (lit< tt) e in
    edited_put l.start p (put_word q 10 0) 10 _ long (omega arith) (omega arith)
    (checksum-lt (take l.start (put_word q 10 0))) zero_put

-- the place of a segment's checksum is free
pub edited_sum : (proto : Proto) (start : ℕ) (p q : List ℕ) (w : ℕ) → 20 ≤ start → w < 65536 → Edited start p q
    → Edited start p (put_word q (start + sum_place proto) w)
edited_sum Tcp start p q w long fits e = record {
  keeps = keeps_put start p q (start + 16) w e.keeps (free_behind start (start + 16) (omega arith))
      (free_behind start (start + 16 + 1) (omega arith));
  bytes = bytes_put q (start + 16) w e.bytes fits;
}
edited_sum Udp start p q w long fits e = record {
  keeps = keeps_put start p q (start + 6) w e.keeps (free_sum start (start + 6) long (omega arith) (omega arith))
      (free_sum start (start + 6 + 1) long (omega arith) (omega arith));
  bytes = bytes_put q (start + 6) w e.bytes fits;
}

pub edited_segment_sum : (l : Layout) (p q : List ℕ) → 20 ≤ l.start → Edited l.start p q
    → Edited l.start p (put_segment_sum l q)
unfolding put_segment_sum
edited_segment_sum l p q long e =
    let cleared : List ℕ = put_word q (l.start + sum_place l.proto) 0 in
    let zero_put = edited_sum l.proto l.start p q 0 long (lit< tt) e in
    let fits = sent_sum-lt l.proto
    (checksum (covered l.proto (source_of cleared) (destination_of cleared) (segment_in l cleared)))
    (checksum-lt _) in
    edited_if l.start p q _ (lacks_sum l.proto (word_at q (l.start + sum_place l.proto))) e
    (edited_sum l.proto l.start p cleared _ long fits zero_put)
