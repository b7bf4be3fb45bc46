-- The lessons on a disk are the slots of its log, so the greatest log is as long as the log of all five.
use Rattle.std.proofs.Common.{◌≡◌, refl, sym, ap, ◌∙◌, subst, ℕ, zero, suc, ◌+◌, ◌<◌, ◌≤◌, nat_lt, true, List, [], ◌∷◌, ◌++◌, length, Option, Some, None, fold, arith, length-append}
use Rattle.std.specs.Prelude.{slice_index_or}
use Rattle.std.proofs.lemmas.Bool.Decides.{nat_tests}
use Rattle.std.proofs.lemmas.List.{length-map}
use Rattle.wire_core.specs.declared.entry.Entry.{Entry}
use Rattle.wire_core.specs.declared.entry.Entry.TheVariants as entry
use Rattle.wire_core.specs.declared.node.NodeId.{NodeId}
use Rattle.wire_core.specs.declared.node.NodeId.TheVariants.{Replica}
use Rattle.vip_config.specs.declared.parts.ConfigParts.{ConfigParts}
use Rattle.paxos_spec.specs.Acceptor.{reach}
use Rattle.paxos_spec.specs.Agreement.{View, Disk, grown, values_of}
use Rattle.paxos_laws.specs.Disks.{disk_of}
use Rattle.paxos_laws.specs.Steps.{EntryOk}
use Rattle.paxos_laws.proofs.CommonLog.{at_most, who_has}
use Rattle.paxos_laws.proofs.Named as laws
use Rattle.paxos_laws.proofs.Quorums.{by_same}
use Rattle.paxos_laws.proofs.Steps.{after_learned}
use Rattle.world_spec.specs.Acts.{log_length, longest}
use Rattle.world_spec.specs.Events.{Basic, AreNamed, after, world}
use Rattle.world_spec.specs.Facts.{Reached}
use Rattle.world_spec.specs.Nodes.{listed}
use Rattle.world_spec.specs.World.{Site, World, nobody, first_world, site, is_there, disk}
use Rattle.world_spec.proofs.Principle.{reached_next}
use Rattle.world_laws.specs.Hearing.{IsSound}
use Rattle.world_laws.specs.Log.{InOrder, StepsOnce, log}
use Rattle.world_laws.specs.Seen.{view}
use Rattle.world_laws.proofs.Heard.{first_have}
use Rattle.world_laws.proofs.InWorld.{Shown, shows, next, number_of, in_order_at, first_order, first_reached}

-- each disk has as many lessons as its log has slots
abbrev LengthsAre : World → Type 0
LengthsAre w = (i : ℕ) → i < 5 → log_length (disk w (Replica i)) ≡ reach ((view w).disk i).state

-- ---- a step

pub length_more : (es fs : List Entry) → log_length (es ++ fs) ≡ log_length es + log_length fs
length_more [] fs = omega arith
length_more (entry.Learn ballot value ∷ es) fs = let rest = length_more es fs in omega arith
length_more (entry.Boot version role index boot ∷ es) fs = length_more es fs
length_more (entry.Promise ballot ∷ es) fs = length_more es fs
length_more (entry.Vote ballot value ∷ es) fs = length_more es fs
length_more (entry.Epoch epoch ∷ es) fs = length_more es fs

-- a Learn has room, so it is a slot more
reach_more : (w : View) (r : ℕ) (d : Disk) (e : Option Entry) → EntryOk w r d e
    → reach (grown d e).state ≡ reach d.state + log_length (listed e)
reach_more w r d None ok = omega arith
reach_more w r d (Some (entry.Boot version role index boot)) ok = omega arith
reach_more w r d (Some (entry.Promise ballot)) ok = omega arith
reach_more w r d (Some (entry.Vote ballot value)) ok = omega arith
reach_more w r d (Some (entry.Epoch epoch)) ok = omega arith
reach_more w r d (Some (entry.Learn ballot value)) ok =
    ap (λ (x : Disk). reach x.state) (after_learned d ballot value ok.room) ∙ length-append d.state.log _

lengths_next : (cfg : ConfigParts) (w u : World) → Shown cfg w u → LengthsAre w → LengthsAre u
lengths_next cfg w u h was i lt =
    let s : StepsOnce (view w) (view u) = h.steps in
    let r : ℕ = s.replica in
    by_same i r
    (λ same. subst (λ (k : ℕ). log_length (disk u (Replica k)) ≡ reach ((view u).disk k).state) (sym same)
    (let d : Disk = (view w).disk r in
    let more : reach (grown d s.out.entry).state ≡ reach d.state + log_length (listed s.out.entry) =
    reach_more (view w) r d s.out.entry s.good.entry in
    ap log_length h.wrote ∙ length_more (disk w (Replica r)) (listed s.out.entry)
    ∙ ap (λ (n : ℕ). n + log_length (listed s.out.entry)) (was r s.number) ∙ sym more
    ∙ ap (λ (x : Disk). reach x.state) (sym s.moves.disk_same)))
    (λ ne. ap log_length (h.others i ne) ∙ was i lt ∙ ap (λ (x : Disk). reach x.state) (sym (s.moves.disk_other i ne)))

-- ---- every world

lengths_run : (cfg : ConfigParts) → IsSound cfg → (bs : List Basic) (w : World) → AreNamed cfg bs → Reached cfg w
    → InOrder w → LengthsAre w → LengthsAre (fold (after cfg) w bs)
lengths_run cfg sound [] w named r ok h = h
lengths_run cfg sound (b ∷ bs) w named r ok h =
    lengths_run cfg sound bs (after cfg w b) named.1 (reached_next cfg w b named.0 r) (next cfg sound w b r ok named.0)
    (lengths_next cfg w (after cfg w b) (shows cfg sound w b r ok named.0) h)

abbrev IsLong : NodeId → Site → Type 0
IsLong x s = log_length s.entries ≡ reach (disk_of s.entries).state

lengths_first : (cfg : ConfigParts) → LengthsAre (first_world cfg)
unfolding view disk_of
lengths_first cfg i lt = first_have cfg IsLong (λ x. refl) (λ x. refl) (Replica i)

pub lengths_at : (cfg : ConfigParts) → IsSound cfg → (w : World) → Reached cfg w
    → (i : ℕ) → i < 5 → log_length (disk w (Replica i)) ≡ reach ((view w).disk i).state
unfolding world
lengths_at cfg sound w r = subst LengthsAre (sym r.is)
    (lengths_run cfg sound r.events (first_world cfg) r.named (first_reached cfg) (first_order cfg) (lengths_first cfg))

-- ---- the greatest length

at_least : (ss : List Site) (i : ℕ) → log_length (slice_index_or ss i nobody).entries ≤ longest ss
at_least [] i = omega arith
at_least (s ∷ ss) zero = omega arith
at_least (s ∷ ss) (suc i) = let rest = at_least ss i in omega arith

each_at_most : (ss : List Site) (n : ℕ)
    → ((i : ℕ) → i < length ss → log_length (slice_index_or ss i nobody).entries ≤ n) → longest ss ≤ n
each_at_most [] n h = omega arith
each_at_most (s ∷ ss) n h =
    let first : log_length s.entries ≤ n = h 0 (omega arith) in
    let rest : longest ss ≤ n = each_at_most ss n (λ i lt. h (suc i) (omega arith)) in
    omega arith

-- no log is longer
pub below_longest : (w : World) (i : ℕ) → log_length (disk w (Replica i)) ≤ longest w.replicas
unfolding site
below_longest w i = at_least w.replicas i

-- what no log exceeds
pub longest_below : (cfg : ConfigParts) (w : World) → Reached cfg w → (n : ℕ)
    → ((i : ℕ) → i < 5 → log_length (disk w (Replica i)) ≤ n) → longest w.replicas ≤ n
unfolding site is_there
longest_below cfg w r n h =
    each_at_most w.replicas n (λ i lt. h i (number_of cfg w r i (is_below i (length w.replicas) lt)))
  where
    is_below : (i n : ℕ) → i < n → nat_lt i n ≡ true
    is_below i n lt = grind (arith, nat_tests)

pub longest_is : (cfg : ConfigParts) → IsSound cfg → (w : World) → Reached cfg w → longest w.replicas ≡ length (log w)
longest_is cfg sound w r =
    let ok : InOrder w = in_order_at cfg sound w r in
    let up : longest w.replicas ≤ length (log w) = longest_below cfg w r (length (log w)) (λ i lt.
    (let len = lengths_at cfg sound w r i lt in
    let le = laws.none_is_longer (view w) ok.inv i lt in
    omega arith)) in
    let down : length (log w) ≤ longest w.replicas = at_most (length (log w)) (longest w.replicas) (λ k lt.
    (let q = who_has (view w) k lt in
    let slots : length (values_of ((view w).disk q.0)) ≡ reach ((view w).disk q.0).state = length-map _ _ in
    let has : k < length (values_of ((view w).disk q.0)) = q.2 in
    let len = lengths_at cfg sound w r q.0 q.1 in
    let le = below_longest w q.0 in
    omega arith)) in
    omega arith
