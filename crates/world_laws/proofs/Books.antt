-- The log only grows, each replica has the table of its beginning, and each value of it fits.
use Rattle.std.proofs.Common.{◌≡◌, refl, inl, inr, ◌⊎◌, ap, ◌∙◌, subst, ℕ, suc, ◌<◌, ◌≤◌, Bool, true, false, List, [], ◌∷◌, ◌++◌, length, take, Option, Some, None, append-nil, arith, if◌then◌else◌}
use Rattle.std.specs.Prelude.{Contains, slice_get, ◌==◌}
use Rattle.std.specs.List.{flat_map}
use Rattle.wire_core.specs.Commands.{IsValue}
use Rattle.wire_core.specs.Members.{Each}
use Rattle.wire_core.specs.declared.entry.Entry.{Entry}
use Rattle.wire_core.specs.declared.entry.Entry.TheVariants as entry
use Rattle.wire_core.specs.declared.node.NodeId.TheVariants.{Replica, Mux, Agent}
use Rattle.vip_config.specs.declared.parts.ConfigParts.{ConfigParts}
use Rattle.vip_config.specs.Leases.{lease_rules_of}
use Rattle.lease_spec.specs.Places.{AreShort}
use Rattle.lease_spec.specs.Table.{table}
use Rattle.lease_spec.proofs.MemberLaws.{each_append, each_on}
use Rattle.paxos_spec.specs.Acceptor.{AcceptorState, reach}
use Rattle.paxos_spec.specs.Agreement.{View, world_log}
use Rattle.paxos_spec.specs.Votes.{Value}
use Rattle.paxos_spec.specs.declared.mail.Mail.{Mail}
use Rattle.paxos_laws.specs.Facts.{Proposed}
use Rattle.paxos_laws.specs.CommonLog.{value_added}
use Rattle.paxos_laws.proofs.Named as laws
use Rattle.paxos_laws.proofs.Steps.{in_cons}
use Rattle.manager_spec.specs.Manager.{leases_of}
use Rattle.world_spec.specs.World.{World, Sent}
use Rattle.world_spec.specs.Events.{Basic, IsNamed, after}
use Rattle.world_spec.specs.Facts.{Reached}
use Rattle.world_laws.specs.Hearing.{IsSound, SaidFits, SentFits}
use Rattle.world_laws.specs.Log.{log, InOrder, BooksAgree, LogGrows, StepsOnce}
use Rattle.world_laws.specs.Seen.{mail_of, mails_of, view}
use Rattle.world_laws.specs.Widths.{MailFits}
use Rattle.world_laws.proofs.InWorld.{shows, next, in_order_at}
use Rattle.world_laws.proofs.Heard.{hearing_at}

lists_of : (cfg : ConfigParts) (w : World) (i : ℕ) (a : AcceptorState) → InOrder w → i < 5
    → a ≡ ((view w).disk i).state
    → leases_of (lease_rules_of cfg) a ≡ table (lease_rules_of cfg) (take (reach a) (log w))
unfolding leases_of
lists_of cfg w i a ok i5 is = rw is (ap (table (lease_rules_of cfg)) ((laws.claims (view w) ok.inv).beginning i i5))

pub books_agree : (cfg : ConfigParts) (w : World) → InOrder w → BooksAgree cfg w
books_agree cfg w ok = record {
  disks = λ i i5. ap (table (lease_rules_of cfg)) ((laws.claims (view w) ok.inv).beginning i i5);
  lists = λ i m i5 is. lists_of cfg w i m.acceptor ok i5 (ok.lists i m is).acceptor;
  longest = λ i i5 most. ap (table (lease_rules_of cfg)) (laws.longest_has_all (view w) ok.inv i i5 most);
}

-- what a step adds to the log is no value, or one
added_or : (w : View) (r : ℕ) (e : Option Entry) → (value_added w r e ≡ []) ⊎ ((v : Value) × (value_added w r e ≡ v ∷ []))
added_or w r None = inl refl
added_or w r (Some (entry.Boot version role index boot)) = inl refl
added_or w r (Some (entry.Epoch epoch)) = inl refl
added_or w r (Some (entry.Promise ballot)) = inl refl
added_or w r (Some (entry.Vote ballot value)) = inl refl
added_or w r (Some (entry.Learn ballot value)) = by (reach (w.disk r).state == length (world_log w))
  where
    by : (b : Bool) → ((if b then value ∷ [] else []) ≡ []) ⊎ ((v : Value) × ((if b then value ∷ [] else []) ≡ v ∷ []))
    by true = inr (value, refl)
    by false = inl refl

pub log_grows : (cfg : ConfigParts) → IsSound cfg → (w : World) (b : Basic) → Reached cfg w → IsNamed cfg b
    → LogGrows w (after cfg w b)
log_grows cfg sound w b r named =
    let ok : InOrder w = in_order_at cfg sound w r in
    let u : World = after cfg w b in
    let s : StepsOnce (view w) (view u) = (shows cfg sound w b r ok named).steps in
    let more : log u ≡ log w ++ value_added (view w) s.replica s.out.entry =
    laws.step_adds s.offered (view w) (view u) s.replica s.out s.moves s.number ok.inv s.good in
    record {
      front = laws.log_only_grows (view w) (view u) ok.inv (next cfg sound w b r ok named).inv
          (laws.step_grows s.offered (view w) (view u) s.replica s.out s.moves s.good);
      one = elim (added_or (view w) s.replica s.out.entry) [
        | inl none ↦ inl (more ∙ ap (λ (xs : List Value). log w ++ xs) none ∙ append-nil (log w))
        | inr some ↦ inr (some.0, more ∙ ap (λ (xs : List Value). log w ++ xs) some.1)
      ];
    }

-- ---- each value fits

contains_each : (P : Mail → Type 0) (xs : List Mail) (x : Mail) → Each P xs → Contains xs x → P x
contains_each P [] x h c = absurd (let lt = c.1 in omega arith)
contains_each P (y ∷ ys) x h c = elim (in_cons y ys x c) [
  | inl same ↦ subst P same h.0
  | inr old ↦ contains_each P ys x h.1 old
]

mails_fit : (w : World) (ss : List Sent) → Each (SentFits w) ss → Each MailFits (mails_of ss)
unfolding mails_of
mails_fit w [] h = tt
mails_fit w (s ∷ ss) h = each_append MailFits (mail_of s) (flat_map mail_of ss) (one s.from h.0) (mails_fit w ss h.1)
  where
    one : (x : Rattle.wire_core.specs.declared.node.NodeId.NodeId) → SaidFits x s.to s.said
        → Each MailFits (Rattle.world_laws.specs.Seen.mail_from x s.to s.said)
    one (Replica i) h = h
    one (Mux i) h = tt
    one (Agent i) h = tt

-- each value that was proposed has 1 to 16 commands, within their widths
pub proposed_fit : (cfg : ConfigParts) → IsSound cfg → (w : World) → Reached cfg w → (b s : ℕ) (v : Value)
    → Proposed (view w) b s v → IsValue v
unfolding view
proposed_fit cfg sound w r b s v p =
    let fit = contains_each MailFits (mails_of w.sent) _ (mails_fit w w.sent (hearing_at cfg sound w r).said) p.at in
    fit.1.2

pub each_by_get : (P : Value → Type 0) (xs : List Value) → ((k : ℕ) (x : Value) → slice_get xs k ≡ Some x → P x) → Each P xs
each_by_get P [] h = tt
each_by_get P (x ∷ xs) h = (h 0 x refl, each_by_get P xs (λ k y e. h (suc k) y e))

-- so is each value of the log
pub log_fits : (cfg : ConfigParts) → IsSound cfg → (w : World) → Reached cfg w → Each IsValue (log w)
log_fits cfg sound w r = each_by_get IsValue (log w) (λ k v e.
    (let p = (laws.each_was_proposed (view w) (in_order_at cfg sound w r).inv).log k v e in
    proposed_fit cfg sound w r p.0 k v p.1))

pub log_short : (cfg : ConfigParts) → IsSound cfg → (w : World) → Reached cfg w → AreShort (log w)
log_short cfg sound w r = each_on IsValue (λ (v : Value). length v ≤ 16) (λ v is. is.few) (log w) (log_fits cfg sound w r)
