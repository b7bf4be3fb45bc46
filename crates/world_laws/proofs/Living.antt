-- The lives of leases along the log of a world.
use Rattle.std.proofs.Common.{◌≡◌, inl, inr, sym, ap, ◌∙◌, subst, ℕ, ◌+◌, List, [], ◌∷◌, ◌++◌, length, drop, arith}
use Rattle.std.proofs.lemmas.List.{append_assoc}
use Rattle.wire_core.specs.declared.rules.LeaseRules.{LeaseRules}
use Rattle.vip_config.specs.Leases.{lease_rules_of}
use Rattle.vip_config.specs.declared.parts.ConfigParts.{ConfigParts}
use Rattle.lease_spec.specs.Lives.{Birth, IsDying, IsGone, IsGranted}
use Rattle.lease_spec.specs.Places.{Ascends, Placed, commands, commands_from, slot_commands}
use Rattle.lease_spec.specs.Table.{history}
use Rattle.lease_spec.specs.declared.effect.Effect.{Effect}
use Rattle.lease_spec.specs.declared.row.Row.{Row}
use Rattle.lease_spec.proofs.CauseLaws.{all_caused, lasts}
use Rattle.lease_spec.proofs.HolderLaws.{all_leasable, own_ranges}
use Rattle.lease_spec.proofs.KeptLaws.{all_current}
use Rattle.lease_spec.proofs.LifeLaws.{earlier_is_gone, stands_or_gone}
use Rattle.lease_spec.proofs.OnceLaws.{nothing_twice, own_numbers}
use Rattle.lease_spec.proofs.PlaceLaws.{commands_ascend}
use Rattle.lease_spec.proofs.TruthLaws.{lives_in_order, rows_told}
use Rattle.lease_spec.proofs.MemberLaws.{in_left}
use Rattle.paxos_spec.specs.Votes.{Value}
use Rattle.world_spec.specs.Events.{Basic, IsNamed, after}
use Rattle.world_spec.specs.Facts.{Reached}
use Rattle.world_spec.specs.World.{World}
use Rattle.world_laws.specs.Hearing.{IsSound}
use Rattle.world_laws.specs.Living.{done, LivesAreInOrder, LivesGoOn}
use Rattle.world_laws.specs.Log.{log, LogGrows}
use Rattle.world_laws.proofs.Books.{log_grows, log_short}

-- ---- what was done stays done

pub born_on : (es more : List Effect) (n : ℕ) (row : Row) → Birth es n row → Birth (es ++ more) n row
born_on es more n row h = record { number = h.number; done = in_left es more _ h.done }

pub granted_on : (es more : List Effect) (n : ℕ) → IsGranted es n → IsGranted (es ++ more) n
granted_on es more n h = record { row = h.row; number = h.number; done = in_left es more _ h.done }

pub dying_on : (es more : List Effect) (n : ℕ) → IsDying es n → IsDying (es ++ more) n
dying_on es more n h = record {
  row = h.row;
  number = h.number;
  done = elim h.done [ inl back ↦ inl (in_left es more _ back) | inr cleared ↦ inr (in_left es more _ cleared) ];
}

pub gone_on : (es more : List Effect) (n : ℕ) → IsGone es n → IsGone (es ++ more) n
gone_on es more n h = record { row = h.row; number = h.number; done = in_left es more _ h.done }

-- the commands of a log with more values behind it
pub commands_append : (slot : ℕ) (values more : List Value)
    → commands_from slot (values ++ more) ≡ commands_from slot values ++ commands_from (slot + length values) more
commands_append slot [] more = let e : slot ≡ slot + 0 = omega arith in ap (λ (s : ℕ). commands_from s more) e
commands_append slot (v ∷ values) more =
    let e : slot + 1 + length values ≡ slot + length (v ∷ values) = omega arith in
    ap (λ (cs : List Placed). slot_commands slot v ++ cs) (commands_append (slot + 1) values more
    ∙ ap (λ (s : ℕ). commands_from (slot + 1) values ++ commands_from s more) e)
    ∙ sym (append_assoc (slot_commands slot v) (commands_from (slot + 1) values)
    (commands_from (slot + length (v ∷ values)) more))

-- it did all that the log did, and then the rest
pub history_front : (rules : LeaseRules) (values more : List Value)
    → (es : List Effect) × (history rules (commands (values ++ more)) ≡ history rules (commands values) ++ es)
history_front rules values more =
    let rest = lasts rules (commands values) (commands_from (0 + length values) more) in
    (rest.0, ap (history rules) (commands_append 0 values more) ∙ rest.1)

pub lives_on : (cfg : ConfigParts) (w u : World) (more : List Value) → log u ≡ log w ++ more → LivesGoOn cfg w u
lives_on cfg w u more is =
    let f = history_front (lease_rules_of cfg) (log w) more in
    let e : done cfg u ≡ done cfg w ++ f.0 = ap (λ (vs : List Value). history (lease_rules_of cfg) (commands vs)) is ∙ f.1 in
    record {
      more = f.0;
      is = e;
      born = λ n row h. subst (λ (es : List Effect). Birth es n row) (sym e) (born_on (done cfg w) f.0 n row h);
      granted = λ n h. subst (λ (es : List Effect). IsGranted es n) (sym e) (granted_on (done cfg w) f.0 n h);
      dies = λ n h. subst (λ (es : List Effect). IsDying es n) (sym e) (dying_on (done cfg w) f.0 n h);
      ended = λ n h. subst (λ (es : List Effect). IsGone es n) (sym e) (gone_on (done cfg w) f.0 n h);
    }

pub lives_go_on : (cfg : ConfigParts) → IsSound cfg → (w : World) (b : Basic) → Reached cfg w → IsNamed cfg b
    → LivesGoOn cfg w (after cfg w b)
lives_go_on cfg sound w b r named =
    let g : LogGrows w (after cfg w b) = log_grows cfg sound w b r named in
    lives_on cfg w (after cfg w b) (drop (length (log w)) (log (after cfg w b))) g.front

-- ---- of the log

pub lives_in_world : (cfg : ConfigParts) → IsSound cfg → (w : World) → Reached cfg w → LivesAreInOrder cfg w
lives_in_world cfg sound w r =
    let rules : LeaseRules = lease_rules_of cfg in
    let cs : List Placed = commands (log w) in
    let rise : Ascends cs = commands_ascend (log w) (log_short cfg sound w r) in
    record {
      places = rise;
      caused = all_caused rules cs;
      told = rows_told rules cs;
      order = lives_in_order rules cs;
      once = nothing_twice rules cs rise;
      stands = stands_or_gone rules cs rise;
      ends = earlier_is_gone rules cs rise;
      numbers = own_numbers rules cs rise;
      ranges = own_ranges rules cs;
      leasable = all_leasable rules cs;
      current = all_current rules cs rise;
    }
