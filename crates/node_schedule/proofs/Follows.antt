-- What decides in a node follows the table of its role, so what a world of such nodes writes is the transcript.
use Rattle.std.proofs.Common.{◌≡◌, ℕ, List, Option, Some, None, IsSome, Result, Err, refl, sym, subst, ◌∙◌}
use Rattle.std.specs.Io.KnownBytes.{Appends}
use Rattle.wire_core.specs.declared.entry.Entry.{Entry}
use Rattle.wire_core.specs.declared.node.NodeId.{NodeId}
use Rattle.wire_core.specs.declared.node.NodeId.TheVariants as node
use Rattle.vip_config.specs.declared.parts.ConfigParts.{ConfigParts}
use Rattle.schedule_text.specs.declared.event.Event.{Event}
use Rattle.node_spec.specs.Steps.{onto, step_of, turned}
use Rattle.node_spec.specs.Turns.{Input}
use Rattle.node_roles.specs.Roles as role
use Rattle.world_spec.specs.Nodes.{Lists, OfManager, OfMux, OfAgent, node_turn, opened}
use Rattle.world_spec.specs.Transcript.{transcript_text}
use Rattle.transcript_summary.specs.Summary.{counts_of}
use Rattle.transcript_summary.specs.declared.kinds.Counts.{Counts}
use Rattle.world_model.specs.Runs.{Front, ReplayFulls}
use Rattle.world_model.specs.Shown.{IsTranscript}
use Rattle.world_model.specs.TableOverflows.{IsRunOverflow}
use Rattle.world_model.specs.declared.fault.ReplayFault.{ReplayFault}
use Rattle.world_model.specs.declared.fault.ReplayFault.TheVariants as replay
use Rattle.world_nodes.specs.Overflows.{FullsBy, Overflow}
use Rattle.world_nodes.specs.declared.fault.WorldFault.{WorldFault}
use Rattle.world_nodes.specs.declared.fault.WorldFault.TheVariants as world
use Rattle.world_nodes.specs.Sites.{deciding}
use Rattle.node_schedule.specs.Answers.{HasRoom, Overflows}
use Rattle.node_schedule.specs.Roles.{RolesFollow, role_of}

turns : (cfg : ConfigParts) (l : Lists) (i : Input)
    → deciding role.step role.written (role_of cfg l) i
    ≡ ((role_of cfg (node_turn cfg l i).state, step_of cfg (node_turn cfg l i)), (node_turn cfg l i).entry)
unfolding onto turned
turns cfg (OfManager m) i = refl
turns cfg (OfMux m) i = refl
turns cfg (OfAgent a) i = refl

opens : (cfg : ConfigParts) (x : NodeId) (entries : List Entry)
    → role.opened cfg x entries ≡ role_of cfg (opened cfg x entries)
unfolding opened
opens cfg (node.Replica i) entries = refl
opens cfg (node.Mux i) entries = refl
opens cfg (node.Agent i) entries = refl

pub follow : RolesFollow
follow cfg = record { turns = turns cfg; opens = opens cfg }

-- ---- what a run writes, and where it finds no room, is what the tables say

pub wrote : (cfg : ConfigParts) (es : List Event) (text : List ℕ) (before after : Option (List ℕ)) → RolesFollow
    → IsTranscript (deciding role.step role.written) role.opened cfg es text → Appends before after text
    → Appends before after (transcript_text cfg es)
wrote cfg es text before after follows is written =
    subst (λ (t : List ℕ). Appends before after t) (is (role_of cfg) (follows cfg)) written

pub wrote_front : (cfg : ConfigParts) (es : List Event) (text : List ℕ) (before after : Option (List ℕ)) → RolesFollow
    → IsTranscript (deciding role.step role.written) role.opened cfg es text → Front before after text
    → Front before after (transcript_text cfg es)
wrote_front cfg es text before after follows is front =
    subst (λ (t : List ℕ). Front before after t) (is (role_of cfg) (follows cfg)) front

pub counts : (cfg : ConfigParts) (es : List Event) (text : List ℕ) (found : Counts) → RolesFollow
    → IsTranscript (deciding role.step role.written) role.opened cfg es text → found ≡ counts_of text
    → found ≡ counts_of (transcript_text cfg es)
counts cfg es text found follows is same =
    subst (λ (t : List ℕ). found ≡ counts_of t) (is (role_of cfg) (follows cfg)) same

pub finds_room : (cfg : ConfigParts) (es : List Event) (o : Option Overflow) → RolesFollow
    → IsRunOverflow (deciding role.step role.written) role.opened cfg es o → o ≡ None → HasRoom (cfg, es)
finds_room cfg es o follows is none = sym (is (role_of cfg) (follows cfg)) ∙ none

pub finds_none : (cfg : ConfigParts) (es : List Event) (o : Option Overflow) (x : Overflow) → RolesFollow
    → IsRunOverflow (deciding role.step role.written) role.opened cfg es o → o ≡ Some x → Overflows (cfg, es)
finds_none cfg es o x follows is some =
    subst (λ (p : Option Overflow). IsSome p) (sym some ∙ is (role_of cfg) (follows cfg)) refl

-- the numbers of a full journal are told in a fault
pub overflowed : {T : Type 0} (cfg : ConfigParts) (es : List Event) (o : Option Overflow) (r : Result T ReplayFault)
    (e : ReplayFault) (length body : ℕ) → RolesFollow
    → IsRunOverflow (deciding role.step role.written) role.opened cfg es o → ReplayFulls o r → r ≡ Err e
    → e ≡ replay.Full length body → Overflows (cfg, es)
overflowed {T} cfg es o r e length body follows is full err numbers =
    finds_none cfg es o (record { length = length; body = body }) follows is
    (subst (λ (f : ReplayFault). ReplayFulls {T = T} o (Err f)) numbers
    (subst (λ (x : Result T ReplayFault). ReplayFulls o x) err full))

pub miscounted : {T : Type 0} (cfg : ConfigParts) (es : List Event) (o : Option Overflow) (r : Result T WorldFault)
    (e : WorldFault) (length body : ℕ) → RolesFollow
    → IsRunOverflow (deciding role.step role.written) role.opened cfg es o → FullsBy o r → r ≡ Err e
    → e ≡ world.Full length body → Overflows (cfg, es)
miscounted {T} cfg es o r e length body follows is full err numbers =
    finds_none cfg es o (record { length = length; body = body }) follows is
    (subst (λ (f : WorldFault). FullsBy {T = T} o (Err f)) numbers
    (subst (λ (x : Result T WorldFault). FullsBy o x) err full))
