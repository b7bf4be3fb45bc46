-- The table is that of the log.
use Rattle.std.proofs.Common.{◌≡◌, refl, sym, ap, ◌∙◌, ◌++◌, ◌∷◌, [], map, List, ℕ, ◌+◌, Bool, true, false}
use Rattle.std.proofs.Common.{if◌then◌else◌, length, nat_lt, Option, Some, None}
use Rattle.std.proofs.lemmas.List.{length-map, map-append, length-append}
use Rattle.wire_core.specs.Commands.{LogCommand}
use Rattle.wire_core.specs.declared.entry.Entry.{Entry}
use Rattle.wire_core.specs.declared.entry.Entry.TheVariants as entry
use Rattle.wire_core.specs.declared.rules.LeaseRules.{LeaseRules}
use Rattle.paxos_spec.specs.declared.cast.Cast.{Cast}
use Rattle.paxos_spec.specs.Acceptor.{AcceptorState, new_acceptor, reach, most_slots, follow, kept}
use Rattle.lease_spec.specs.Places.{slot_commands}
use Rattle.lease_spec.specs.Table.{Leases, story, table, apply}
use Rattle.lease_spec.proofs.PlaceLaws.{one_more}
use Rattle.port_leases.specs.TableState.{TableState, fresh, apply_slot}
use Rattle.manager_spec.specs.Manager.{leases_of, effects_of}
use Rattle.manager_log.specs.Log.{Tied, HasRoom, HasRoomFor, table_after, table_again, table_with}

pub tied_new : (rules' : LeaseRules) → Tied new_acceptor (fresh rules')
unfolding leases_of story
tied_new rules' = record { leases = refl; slots = refl }

tied_learned : (a : AcceptorState) (t : TableState) (ballot : ℕ) (value : List LogCommand)
    → nat_lt (reach a) most_slots ≡ true → Tied a t → Tied (follow a (entry.Learn ballot value)) (apply_slot t value).0
unfolding leases_of
tied_learned a t ballot value room tied =
    let values : List (List LogCommand) = map (λ (x : Cast). x.value) a.log in
    let long : length values ≡ t.slots = length-map a.log _ ∙ sym tied.slots in
    let more : map (λ (x : Cast). x.value) (a.log ++ record { ballot = ballot; value = value } ∷ []) ≡ values ++ value ∷ [] = map-append _ a.log _ in
    rw room (record {
      leases = sym (ap (table t.rules) more ∙ (one_more t.rules values value).leaves ∙ ap (λ (s : ℕ). (apply t.rules (slot_commands s value) (table t.rules values)).leases) long ∙ ap (λ (l : Leases). (apply t.rules (slot_commands t.slots value) l).leases) (sym tied.leases));
      slots = ap (λ (s : ℕ). s + 1) tied.slots ∙ sym (length-append a.log _);
    })

-- after an entry for which there is room
pub tied_followed : (a : AcceptorState) (t : TableState) (e : Entry) → HasRoomFor (reach a) e → Tied a t
    → Tied (follow a e) (table_with t e).0
unfolding leases_of HasRoomFor table_with
tied_followed a t (entry.Boot version role index boot) room tied = tied
tied_followed a t (entry.Promise ballot) room tied = record { leases = tied.leases; slots = tied.slots }
tied_followed a t (entry.Vote ballot value) room tied = record { leases = tied.leases; slots = tied.slots }
tied_followed a t (entry.Learn ballot value) room tied = tied_learned a t ballot value room tied
tied_followed a t (entry.Epoch epoch) room tied = tied

-- a full log passes over what else is learned
tied_full : (a : AcceptorState) (t : TableState) (e : Entry) → nat_lt (reach a) most_slots ≡ false → Tied a t
    → Tied (follow a e) t
unfolding leases_of
tied_full a t (entry.Boot version role index boot) full tied = tied
tied_full a t (entry.Promise ballot) full tied = record { leases = tied.leases; slots = tied.slots }
tied_full a t (entry.Vote ballot value) full tied = record { leases = tied.leases; slots = tied.slots }
tied_full a t (entry.Learn ballot value) full tied = rw full tied
tied_full a t (entry.Epoch epoch) full tied = tied

pub room_tested : (n : ℕ) (e : Entry) → nat_lt n most_slots ≡ true → HasRoomFor n e
unfolding HasRoomFor
room_tested n (entry.Boot version role index boot) room = tt
room_tested n (entry.Promise ballot) room = tt
room_tested n (entry.Vote ballot value) room = tt
room_tested n (entry.Learn ballot value) room = room
room_tested n (entry.Epoch epoch) room = tt

tied_if : (a : AcceptorState) (t : TableState) (e : Entry) (room : Bool) → nat_lt (reach a) most_slots ≡ room → Tied a t
    → Tied (follow a e) (if room then (table_with t e).0 else t)
tied_if a t e true room tied = tied_followed a t e (room_tested (reach a) e room) tied
tied_if a t e false full tied = tied_full a t e full tied

-- after an entry of the journal
pub tied_again : (a : AcceptorState) (t : TableState) (e : Entry) → Tied a t → Tied (follow a e) (table_again t e)
unfolding table_again
tied_again a t e tied = tied_if a t e _ (ap (λ (n : ℕ). nat_lt n most_slots) (sym tied.slots)) tied

-- after a step
pub tied_after : (a : AcceptorState) (t : TableState) (e : Option Entry) → HasRoom (reach a) e → Tied a t
    → Tied (kept a e) (table_after t e).0
unfolding HasRoom table_after
tied_after a t None room tied = tied
tied_after a t (Some e) room tied = tied_followed a t e room tied

effects_with : (a : AcceptorState) (t : TableState) (e : Entry) → Tied a t
    → (table_with t e).1 ≡ effects_of t.rules a (Some e)
unfolding effects_of table_with
effects_with a t (entry.Boot version role index boot) tied = refl
effects_with a t (entry.Promise ballot) tied = refl
effects_with a t (entry.Vote ballot value) tied = refl
effects_with a t (entry.Learn ballot value) tied = rw (tied.slots, tied.leases) refl
effects_with a t (entry.Epoch epoch) tied = refl

-- what it did
pub effects_after : (a : AcceptorState) (t : TableState) (e : Option Entry) → Tied a t
    → (table_after t e).1 ≡ effects_of t.rules a e
unfolding effects_of table_after
effects_after a t None tied = refl
effects_after a t (Some e) tied = effects_with a t e tied
