-- What is heard has allowed fields, and a step spells the entry of its turn, where that has them.
use Rattle.std.proofs.Common.{◌≡◌, refl, sym, ap, subst, ℕ, suc, Bool, true, false, List, [], ◌∷◌, Option, Some, None, Result, Ok, Err}
use Rattle.std.specs.Prelude.{IfSome, ◌==◌, ◌&&◌, not, if◌then◌else◌}
use Rattle.wire_core.specs.Entries.{IsEntry}
use Rattle.wire_core.specs.Numbers.{AreBytes}
use Rattle.wire_core.specs.Steps.{no_step}
use Rattle.wire_core.specs.declared.address.Socket.{Socket}
use Rattle.wire_core.specs.declared.cause.DropCause.TheVariants.{NotFromMux}
use Rattle.wire_core.specs.declared.entry.Entry.{Entry}
use Rattle.wire_core.specs.declared.step.Step.{Step}
use Rattle.control_msg.specs.Frames.{Framed, Control, Packet, frame_at}
use Rattle.control_msg.specs.Messages.{IsMessage}
use Rattle.control_msg.specs.Reading.{message_at}
use Rattle.control_msg.specs.declared.message.Message.{Message}
use Rattle.control_msg.specs.declared.reading.MessageFault.{MessageFault}
use Rattle.control_msg.proofs.WholeLaws.{message_is}
use Rattle.vip_config.specs.declared.parts.ConfigParts.{ConfigParts}
use Rattle.vip_config.specs.declared.who.Who.{Who}
use Rattle.vip_config.specs.declared.who.Who.TheVariants as who
use Rattle.vip_config.specs.Queries.{who_of}
use Rattle.node_spec.specs.Arriving.{IsAllowed}
use Rattle.node_spec.specs.Bodies.{IsSpelled, Spells}
use Rattle.node_spec.specs.Datagrams.{Heard, Refused, Told, Brought, is_redirect, is_mux, of_node, admitted, decoded, framed_by, heard}
use Rattle.node_spec.specs.Steps.{body_of, onto, turned}
use Rattle.node_spec.specs.Turns.{Turn}

-- ---- what is heard

of_node_allowed : (sender : Who) (m : Message) → IsMessage m → IsAllowed (of_node sender m)
of_node_allowed (who.Replica i) m is = is
of_node_allowed (who.Mux i) m is = is
of_node_allowed (who.Agent i) m is = is
of_node_allowed (who.Machine a) m is = tt
of_node_allowed who.Outside m is = tt

admitted_allowed : (sender : Who) (m : Message) → IsMessage m → IsAllowed (admitted sender m)
unfolding admitted
admitted_allowed sender m is = by_test (is_redirect m && not (is_mux sender))
  where
    by_test : (b : Bool) → IsAllowed (if b then Refused NotFromMux else of_node sender m)
    by_test true = tt
    by_test false = of_node_allowed sender m is

decoded_allowed : (sender : Who) (bytes : List ℕ) → AreBytes bytes → IsAllowed (decoded sender (message_at bytes))
decoded_allowed sender bytes h = by_result (message_at bytes) refl
  where
    by_result : (r : Result Message MessageFault) → message_at bytes ≡ r → IsAllowed (decoded sender r)
    by_result (Err fault) e = tt
    by_result (Ok m) e = admitted_allowed sender m (message_is bytes m h e).1

framed_allowed : (sender : Who) (bytes : List ℕ) → AreBytes bytes → IsAllowed (framed_by sender (frame_at bytes))
framed_allowed sender [] h = tt
framed_allowed sender (b ∷ bytes) h = by_first (b == 1) (b == 2)
  where
    by_first : (one two : Bool)
        → IsAllowed (framed_by sender (if one then Some (Control bytes) else if two then Some (Packet bytes) else None))
    by_first true two = decoded_allowed sender bytes (λ k. h (suc k))
    by_first false true = tt
    by_first false false = tt

pub heard_allowed : (c : ConfigParts) (from : Socket) (bytes : List ℕ) → AreBytes bytes → IsAllowed (heard c from bytes)
unfolding heard
heard_allowed c from bytes h = framed_allowed (who_of c from) bytes h

-- ---- what is written

onto_spells : {S : Type 0} (c : ConfigParts) (t : Turn S) (entry : Option Entry) → t.entry ≡ entry → IfSome entry IsEntry
    → Spells (onto c no_step t).entry entry
unfolding onto body_of
onto_spells c t None e is = record { allowed = tt; spelled = rw e refl }
onto_spells c t (Some x) e is = record { allowed = is; spelled = rw e refl }

-- the step of a turn spells the turn's entry
pub turned_spells : {S K : Type 0} (keep : S → K) (c : ConfigParts) (t : Turn S) (x : K × Step)
    → x ≡ turned keep c no_step t → IfSome t.entry IsEntry → Spells x.1.entry t.entry
unfolding turned
turned_spells keep c t x e is = rw e (onto_spells c t t.entry refl is)

-- what spells an entry is spelled
pub spells_spelled : (bytes : Option (List ℕ)) (entry : Option Entry) → Spells bytes entry → IfSome bytes IsSpelled
spells_spelled bytes None s = rw s.spelled tt
spells_spelled bytes (Some e) s = rw s.spelled (record { entry = e; allowed = s.allowed; spelled = refl })
