-- A lease that was acknowledged is kept, given back, or of an earlier boot.
use Rattle.std.proofs.Common.{◌≡◌, refl, sym, ap, subst, ◌∙◌, inl, inr, ℕ, ◌+◌, ◌*◌, ◌<◌, ◌≤◌, length, arith}
use Rattle.wire_core.specs.Commands.{IsAllowed, LogCommand, Reserve, Granted, Release, Freed, Up}
use Rattle.wire_core.specs.Members.{In, Each}
use Rattle.wire_core.specs.Ranges.{range_at}
use Rattle.wire_core.specs.declared.address.Ip4.{Ip4}
use Rattle.wire_core.specs.declared.range.Range.{Range}
use Rattle.vip_config.specs.Leases.{lease_rules_of}
use Rattle.vip_config.specs.declared.parts.ConfigParts.{ConfigParts}
use Rattle.agent_spec.specs.declared.held.Held.{Held as HeldRange}
use Rattle.lease_spec.proofs.MemberLaws.{each_in}
use Rattle.lease_spec.specs.Lives.{HasCause, IsDying, IsGranted, RaisesAbove, Standing}
use Rattle.lease_spec.specs.Places.{commands}
use Rattle.lease_spec.specs.Table.{at_phase}
use Rattle.lease_spec.specs.Truths.{PhaseTold, RowTold}
use Rattle.lease_spec.specs.declared.effect.Effect.TheVariants as effect
use Rattle.lease_spec.specs.declared.row.Phase.{Phase}
use Rattle.lease_spec.specs.declared.row.Phase.TheVariants.{BeingLeased, Freeing, Leased}
use Rattle.lease_spec.specs.declared.row.Row.{Row}
use Rattle.world_spec.specs.Facts.{Reached}
use Rattle.world_spec.specs.World.{World}
use Rattle.world_laws.specs.Agents.{agent_boot}
use Rattle.world_laws.specs.Grants.{AnswersAreTrue, IsLease}
use Rattle.world_laws.specs.Hearing.{IsSound}
use Rattle.world_laws.specs.Kept.{GrantsAreKept, IsKept, GaveItBack, RanAgain, StaysLeased}
use Rattle.world_laws.specs.Living.{IsBorn, LivesAreInOrder, done}
use Rattle.world_laws.specs.Log.{book, log}
use Rattle.world_laws.specs.Reasons.{HasReason}
use Rattle.world_laws.proofs.Births.{born_once, each_place}
use Rattle.world_laws.proofs.Books.{log_short}
use Rattle.world_laws.proofs.GrantLaws.{grants_at, prepared_by}
use Rattle.world_laws.proofs.Leased.{SameOwner, allowed_of, asked, not_being, owner_of, reason_of, returned_by, said_of}
use Rattle.world_laws.proofs.Leased.{upped}
use Rattle.world_laws.proofs.Living.{lives_in_world}

module _ (cfg : ConfigParts) (sound : IsSound cfg) (w : World) (r : Reached cfg w) where
  -- a command that raises an agent's boot tells one that the agent had
  raised : (agent boot : ℕ) (c : LogCommand) → IsAllowed c → HasReason w c → RaisesAbove c agent boot
      → boot < agent_boot w agent
  raised agent boot (Reserve ag b machine seq) fits why up =
      let had : b ≤ agent_boot w ag =
      asked cfg w ag why.message (said_of cfg sound w r ag _ why) b machine seq fits.1 why.spelled in
      above boot b (agent_boot w agent) up.1 (subst (λ (k : ℕ). b ≤ agent_boot w k) up.0 had)
    where
      above : (m n k : ℕ) → m < n → n ≤ k → m < k
      above m n k lt le = omega arith
  raised agent boot (Up ag b) fits why up =
      let had : b ≤ agent_boot w ag =
      upped cfg w ag why.message (said_of cfg sound w r ag _ why) b fits.1 why.spelled in
      above boot b (agent_boot w agent) up.1 (subst (λ (k : ℕ). b ≤ agent_boot w k) up.0 had)
    where
      above : (m n k : ℕ) → m < n → n ≤ k → m < k
      above m n k lt le = omega arith
  raised agent boot (Granted n muxes) fits why up = absurd up
  raised agent boot (Release n) fits why up = absurd up
  raised agent boot (Freed n) fits why up = absurd up

  -- a lease that ends was given back, or its agent runs in a later boot
  ended : (agent boot : ℕ) (h : HeldRange) → IsLease cfg w agent boot h.n h.range h.machine
      → IsDying (done cfg w) h.n → IsKept cfg w agent boot h.n h.range h.machine
  ended agent boot h lease dying =
      let caused : Each (HasCause (commands (log w))) (done cfg w) = (lives_in_world cfg sound w r).caused in
      elim dying.done [
        | inl released ↦ (
            let cause : HasCause (commands (log w)) (effect.Released dying.row) =
            each_in (HasCause (commands (log w))) (done cfg w) (effect.Released dying.row) caused released in
            let why : HasReason w (Release h.n) =
            subst (λ (n : ℕ). HasReason w (Release n)) dying.number
            (subst (HasReason w) cause.causes (reason_of cfg sound w r cause.command cause.there)) in
            GaveItBack (returned_by cfg sound w r agent boot h lease why))
        | inr cleared ↦ (
            let cause : HasCause (commands (log w)) (effect.Cleared dying.row) =
            each_in (HasCause (commands (log w))) (done cfg w) (effect.Cleared dying.row) caused cleared in
            let owner : SameOwner dying.row agent boot =
            owner_of cfg sound w r agent boot h lease dying.row dying.number
            (prepared_by (lease_rules_of cfg) (log w) (effect.Cleared dying.row) cleared) in
            RanAgain (raised agent boot cause.command.command
            (allowed_of cfg sound w r cause.command cause.there) (reason_of cfg sound w r cause.command cause.there)
            (subst (λ (b : ℕ). RaisesAbove cause.command.command agent b) owner.boot_is
            (subst (λ (k : ℕ). RaisesAbove cause.command.command k dying.row.boot) owner.agent_is cause.causes))))
      ]

  -- a lease whose row stands is Leased, or ends
  standing : (agent boot : ℕ) (h : HeldRange) (lease : IsLease cfg w agent boot h.n h.range h.machine)
      → Standing (book cfg w).rows lease.born → IsKept cfg w agent boot h.n h.range h.machine
  standing agent boot h lease stands = by stands.row.phase refl
    where
      all : LivesAreInOrder cfg w
      all = lives_in_world cfg sound w r

      told : RowTold (done cfg w) stands.row
      told = each_in (RowTold (done cfg w)) (book cfg w).rows stands.row all.told stands.there

      number : stands.row.n ≡ h.n
      number = stands.number ∙ lease.birth.number

      same : stands.row ≡ at_phase stands.row.phase lease.born
      same = told.was.fields ∙ ap (at_phase stands.row.phase)
          (born_once cfg sound w r h.n told.was.born lease.born
          (subst (λ (k : ℕ). IsBorn cfg w k told.was.born) number told.was.birth) lease.birth)

      by : (p : Phase) → stands.row.phase ≡ p → IsKept cfg w agent boot h.n h.range h.machine
      by BeingLeased e = absurd (not_being (lease_rules_of cfg) (commands (log w)) (16 * (0 + length (log w)) + 1)
          stands.row all.places (each_place 0 (log w) (log_short cfg sound w r)) all.numbers stands.there
          (subst (IsGranted (done cfg w)) (sym number) lease.granted) e)
      by Leased e = StaysLeased stands.row stands.there number (stands.range ∙ lease.range_is)
          (ap (λ (x : Row). x.machine) same ∙ lease.machine_is) (ap (λ (x : Row). x.agent) same ∙ lease.agent_is)
          (ap (λ (x : Row). x.boot) same ∙ lease.boot_is) e
      by Freeing e = ended agent boot h lease (subst (IsDying (done cfg w)) number
          (subst (PhaseTold (done cfg w) stands.row.n) e told.phase))

  lease_kept : (agent boot : ℕ) (h : HeldRange) → IsLease cfg w agent boot h.n h.range h.machine
      → IsKept cfg w agent boot h.n h.range h.machine
  lease_kept agent boot h lease = elim ((lives_in_world cfg sound w r).stands h.n lease.born lease.birth) [
    | inl stands ↦ standing agent boot h lease stands
    | inr gone ↦ ended agent boot h lease (subst (IsDying (done cfg w)) gone.number
        (prepared_by (lease_rules_of cfg) (log w) (effect.Freed gone.row) gone.done).1)
  ]

  -- the lease as a range that its agent may hold
  abbrev as_held : ℕ → Range → Ip4 → HeldRange
  as_held n range machine = record { n = n; range = range; machine = machine; idle = 0; count = 0 }

  pub grants_kept : GrantsAreKept cfg w
  grants_kept replica agent boot machine seq n vip start said =
      lease_kept agent boot (as_held n (range_at vip start) machine)
      (each_in (AnswersAreTrue cfg w) w.sent _ (grants_at cfg sound w r) said)
