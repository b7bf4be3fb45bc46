-- Places of commands: one slot more, and places that rise.
use Rattle.std.proofs.Common.{◌≡◌, ◌∙◌, ℕ, ◌+◌, ◌*◌, ◌<◌, ◌≤◌, List, [], ◌∷◌, ◌++◌, length, refl, sym, ap, arith}
use Rattle.std.specs.Prelude.{fold}
use Rattle.std.proofs.lemmas.Grind.{fold-append}
use Rattle.std.proofs.lemmas.List.{append_assoc, append-nil}
use Rattle.wire_core.specs.declared.rules.LeaseRules.{LeaseRules}
use Rattle.wire_core.specs.Members.{Each}
use Rattle.wire_core.specs.Commands.{LogCommand}
use Rattle.lease_spec.specs.declared.effect.Effect.{Effect}
use Rattle.lease_spec.specs.Places.{Placed, placed, slot_commands, commands_from, commands, AreShort, Ascends}
use Rattle.lease_spec.specs.Table.{Leases, Done, nothing, none_done, command, tell, story, history, table, apply}
use Rattle.lease_spec.specs.Table.{OneMore}
use Rattle.lease_spec.proofs.MemberLaws.{each_append, each_on}

-- ---- a slot more

pub commands_from_more : (slot : ℕ) (values : List (List LogCommand)) (value : List LogCommand)
    → commands_from slot (values ++ value ∷ [])
    ≡ commands_from slot values ++ slot_commands (slot + length values) value
commands_from_more slot [] value = let e : slot ≡ slot + 0 =
    omega arith in append-nil _ ∙ ap (λ (s : ℕ). slot_commands s value) e
commands_from_more slot (x ∷ values) value =
    let e : slot + 1 + length values ≡ slot + length (x ∷ values) = omega arith in
    ap (λ (cs : List Placed). slot_commands slot x ++ cs) (commands_from_more (slot + 1) values value
    ∙ ap (λ (s : ℕ). commands_from (slot + 1) values ++ slot_commands s value) e)
    ∙ sym (append_assoc (slot_commands slot x) (commands_from (slot + 1) values)
    (slot_commands (slot + length (x ∷ values)) value))

pub commands_more : (values : List (List LogCommand)) (value : List LogCommand)
    → commands (values ++ value ∷ []) ≡ commands values ++ slot_commands (length values) value
commands_more values value = let e : 0 + length values ≡ length values =
    omega arith in commands_from_more 0 values value ∙ ap (λ (s : ℕ). commands values ++ slot_commands s value) e

-- what commands make of a table, and what they do, doesn't hang on what was done before
from_leases : (rules : LeaseRules) (cs : List Placed) (d : Done)
    → (fold (tell rules) d cs).leases ≡ (fold (tell rules) (nothing d.leases) cs).leases
from_leases rules cs d = same rules cs d (nothing d.leases) refl
  where
    same : (rules : LeaseRules) (cs : List Placed) (d e : Done) → d.leases ≡ e.leases
        → (fold (tell rules) d cs).leases ≡ (fold (tell rules) e cs).leases
    same rules [] d e is = is
    same rules (c ∷ cs) d e is =
        same rules cs (tell rules d c) (tell rules e c)
        (ap (λ (t : Leases). (command rules c.place c.command t).leases) is)

from_effects : (rules : LeaseRules) (cs : List Placed) (es : List Effect) (d : Done)
    → (fold (tell rules) (record d { effects = es ++ d.effects }) cs).effects ≡ es ++ (fold (tell rules) d cs).effects
from_effects rules [] es d = refl
from_effects rules (c ∷ cs) es d =
    let more : List Effect = (command rules c.place c.command d.leases).effects in
    ap (λ (fs : List Effect). (fold (tell rules)
    (record { leases = (command rules c.place c.command d.leases).leases; effects = fs }) cs).effects)
    (append_assoc es d.effects more)
    ∙ from_effects rules cs es (tell rules d c)

-- a story that goes on is the rest of it on top of its table
pub leases_more : (rules : LeaseRules) (cs ds : List Placed)
    → (story rules (cs ++ ds)).leases ≡ (apply rules ds (story rules cs).leases).leases
unfolding story apply
leases_more rules cs ds =
    ap (λ (d : Done). d.leases) (fold-append (tell rules) none_done cs ds)
    ∙ from_leases rules ds (fold (tell rules) none_done cs)

pub effects_more : (rules : LeaseRules) (cs ds : List Placed)
    → history rules (cs ++ ds) ≡ history rules cs ++ (apply rules ds (story rules cs).leases).effects
unfolding story apply
effects_more rules cs ds =
    let d : Done = fold (tell rules) none_done cs in
    ap (λ (e : Done). e.effects) (fold-append (tell rules) none_done cs ds)
    ∙ ap (λ (es : List Effect). (fold (tell rules) (record d { effects = es }) ds).effects) (sym (append-nil d.effects))
    ∙ from_effects rules ds d.effects (nothing d.leases)

-- the table of a log with one value more is what the value makes of the table
pub table_more : (rules : LeaseRules) (values : List (List LogCommand)) (value : List LogCommand)
    → table rules (values ++ value ∷ [])
    ≡ (apply rules (slot_commands (length values) value) (table rules values)).leases
table_more rules values value =
    ap (λ (cs : List Placed). (story rules cs).leases) (commands_more values value)
    ∙ leases_more rules (commands values) (slot_commands (length values) value)

pub history_more : (rules : LeaseRules) (values : List (List LogCommand)) (value : List LogCommand)
    → history rules (commands (values ++ value ∷ [])) ≡ history rules (commands values)
    ++ (apply rules (slot_commands (length values) value) (table rules values)).effects
history_more rules values value =
    ap (history rules) (commands_more values value)
    ∙ effects_more rules (commands values) (slot_commands (length values) value)

pub one_more : (rules : LeaseRules) (values : List (List LogCommand)) (value : List LogCommand)
    → OneMore rules values value
one_more rules values value = record { leaves = table_more rules values value; does = history_more rules values value }

-- ---- places that rise

pub length-placed : (place : ℕ) (cs : List LogCommand) → length (placed place cs) ≡ length cs
length-placed place [] = refl
length-placed place (c ∷ cs) = let rest = length-placed (place + 1) cs in omega arith

-- the places of a value lie from its first on
pub placed_within : (place : ℕ) (cs : List LogCommand)
    → Each (λ c. (place ≤ c.place) × (c.place < place + length cs)) (placed place cs)
placed_within place [] = tt
placed_within place (c ∷ cs) = (
  (omega arith, omega arith),
  each_on _ _ (λ d h. (let low = h.0 in omega arith, let high = h.1 in omega arith))
      (placed (place + 1) cs) (placed_within (place + 1) cs),
)

pub placed_ascend : (place : ℕ) (cs : List LogCommand) → Ascends (placed place cs)
placed_ascend place [] = tt
placed_ascend place (c ∷ cs) = (
  each_on _ _ (λ d h. let low = h.0 in omega arith) (placed (place + 1) cs) (placed_within (place + 1) cs),
  placed_ascend (place + 1) cs,
)

-- lists that rise, the first below the second
pub ascends_append : (n : ℕ) (cs ds : List Placed) → Ascends cs → Ascends ds → Each (λ c. c.place < n) cs
    → Each (λ d. n ≤ d.place) ds → Ascends (cs ++ ds)
ascends_append n [] ds a b low high = b
ascends_append n (c ∷ cs) ds a b low high = (
  each_append _ cs ds a.0 (each_on _ _ (λ d h. let lt = low.0 in omega arith) ds high),
  ascends_append n cs ds a.1 b low.1 high,
)

pub slot_within : (slot : ℕ) (value : List LogCommand) → length value ≤ 16
    → Each (λ c. (16 * slot + 1 ≤ c.place) × (c.place < 16 * (slot + 1) + 1)) (slot_commands slot value)
slot_within slot value few =
    each_on _ _ (λ d h. (
      h.0,
      let high =
          h.1 in omega arith,
    )) (slot_commands slot value) (placed_within (16 * slot + 1) value)

pub commands_from_above : (slot : ℕ) (values : List (List LogCommand)) → AreShort values
    → Each (λ c. 16 * slot + 1 ≤ c.place) (commands_from slot values)
commands_from_above slot [] short = tt
commands_from_above slot (value ∷ values) short =
    each_append _ (slot_commands slot value) (commands_from (slot + 1) values)
    (each_on _ _ (λ c h. h.0) (slot_commands slot value) (slot_within slot value short.0))
    (each_on _ _ (λ c h. omega arith) (commands_from (slot + 1) values) (commands_from_above (slot + 1) values short.1))

pub commands_from_ascend : (slot : ℕ) (values : List (List LogCommand)) → AreShort values
    → Ascends (commands_from slot values)
commands_from_ascend slot [] short = tt
commands_from_ascend slot (value ∷ values) short =
    ascends_append (16 * (slot + 1) + 1) (slot_commands slot value) (commands_from (slot + 1) values)
    (placed_ascend (16 * slot + 1) value) (commands_from_ascend (slot + 1) values short.1)
    (each_on _ _ (λ c h. h.1) (slot_commands slot value) (slot_within slot value short.0))
    (commands_from_above (slot + 1) values short.1)

-- where each value has at most 16 commands, places rise along the log
pub commands_ascend : (values : List (List LogCommand)) → AreShort values → Ascends (commands values)
commands_ascend values short = commands_from_ascend 0 values short
