-- A packet whose time to live was lowered: it has no fault, and is handed to a machine as it would have been before.
use Rattle.std.proofs.Common.{◌≡◌, ℕ, zero, suc, ◌+◌, ◌-◌, ◌<◌, ◌≤◌, List, Ok, refl, ap, ◌∙◌, subst, arith}
use Rattle.wire_core.specs.declared.address.Ip4.{Ip4}
use Rattle.packet_spec.specs.Headers.{ttl_of, payload_of, whole}
use Rattle.packet_spec.specs.Packets.{key_of, read_packet}
use Rattle.packet_spec.specs.Edits.{translate_destination, restored}
use Rattle.packet_spec.specs.Laws.{IsSound, Becomes}
use Rattle.packet_spec.proofs.BecomeLaws.{hops_become, hops_payload, stays}
use Rattle.packet_spec.proofs.WholeLaws.{whole_is_sound, sound_is_whole, whole_stays, read_again}
use Rattle.packet_spec.proofs.JoinLaws.{restored_after}
use Rattle.ipip.specs.Wrapping.{lowered}

ttl_small : (d : ℕ) (p : List ℕ) → IsSound p → ttl_of p - d < 256
ttl_small d p s = let b = s.bytes 8 in omega arith

pub lowered_becomes : (d : ℕ) (p : List ℕ) → IsSound p → Becomes p (lowered d p) (key_of p) (ttl_of p - d)
unfolding lowered
lowered_becomes zero p s =
    let same : ttl_of p ≡ ttl_of p - 0 = omega arith in
    subst (λ (n : ℕ). Becomes p p (key_of p) n) same (stays p s)
lowered_becomes (suc d) p s = hops_become (ttl_of p - suc d) p (ttl_small (suc d) p s) s

pub lowered_payload : (d : ℕ) (p : List ℕ) → IsSound p → payload_of (lowered d p) ≡ payload_of p
unfolding lowered
lowered_payload zero p s = refl
lowered_payload (suc d) p s = hops_payload (ttl_of p - suc d) p (ttl_small (suc d) p s) s

pub lowered_read : (d : ℕ) (p : List ℕ) → IsSound p → read_packet (lowered d (whole p)) ≡ Ok (lowered d (whole p))
lowered_read d p s =
    let b = lowered_becomes d (whole p) (whole_is_sound p s) in
    read_again (lowered d (whole p)) b.sound.fine (b.whole (sound_is_whole p s))

handed : (ip : Ip4) (port d e : ℕ) (p : List ℕ) → IsSound p
    → translate_destination ip port e (lowered d p) ≡ translate_destination ip port (d + e) p
unfolding lowered
handed ip port zero e p s = let same : e ≡ 0 + e = omega arith in ap (λ (n : ℕ). translate_destination ip port n p) same
handed ip port (suc d) e p s =
    restored_after ip port e (suc d + e) (ttl_of p - suc d) p (ttl_small (suc d) p s) s (omega arith)

pub lowered_handed : (ip : Ip4) (port d e : ℕ) (p : List ℕ) → IsSound p
    → translate_destination ip port e (lowered d (whole p)) ≡ restored ip port (d + e) p
unfolding restored
lowered_handed ip port d e p s = handed ip port d e (whole p) (whole_is_sound p s)

pub lowered_restored : (ip : Ip4) (port d e : ℕ) (p : List ℕ) → IsSound p
    → restored ip port e (lowered d (whole p)) ≡ restored ip port (d + e) p
unfolding restored
lowered_restored ip port d e p s =
    let b = lowered_becomes d (whole p) (whole_is_sound p s) in
    ap (λ (q : List ℕ). translate_destination ip port e q)
    (whole_stays (lowered d (whole p)) (b.whole (sound_is_whole p s)))
    ∙ handed ip port d e (whole p) (whole_is_sound p s)
