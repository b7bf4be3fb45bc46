-- The spelling of an entry is a body that a journal takes.
use Rattle.std.proofs.Common.{◌≡◌, ◌≤◌, ℕ, ◌+◌, ◌*◌, true, List, [], ◌∷◌, ◌++◌, length, sym, ◌∙◌, ap, arith, length-append, append-nil}
use Rattle.std.specs.Prelude.{Ok, is_ok}
use Rattle.std.specs.List.{flat_map}
use Rattle.wire_core.specs.declared.command.MuxBoot.{MuxBoot}
use Rattle.wire_core.specs.declared.entry.Entry.{Entry}
use Rattle.wire_core.specs.declared.entry.Entry.TheVariants.{Boot, Promise, Vote, Learn, Epoch}
use Rattle.wire_core.specs.Commands.{LogCommand, Reserve, Granted, Release, Freed, Up, mux_boot_bytes, command_bytes, value_bytes, IsAllowed, IsValue}
use Rattle.wire_core.specs.Entries.{IsEntry, entry_bytes, entry_at, whole_entry}
use Rattle.wire_core.specs.Members.{Each}
use Rattle.wire_core.specs.Numbers.{number_bytes}
use Rattle.wire_core.proofs.EntryLaws.{entry_again}
use Rattle.wire_core.proofs.NumberLaws.{length-number_bytes}
use Rattle.journal.specs.File.{is_entry}
use Rattle.journal.specs.Records.{IsBody}

-- what is spelled is an entry
spelled_is_entry : (e : Entry) → IsEntry e → is_entry (entry_bytes e) ≡ true
unfolding is_entry
spelled_is_entry e allowed =
    let again : entry_at (entry_bytes e) ≡ Ok (e, []) = ap entry_at (sym (append-nil (entry_bytes e)))
    ∙ entry_again e [] allowed in
    ap (λ r. is_ok (whole_entry (length (entry_bytes e)) r)) again

length-mux_boots : (ms : List MuxBoot) → length (flat_map mux_boot_bytes ms) ≡ 10 * length ms
length-mux_boots [] = omega arith
length-mux_boots (m ∷ ms) = omega (
  arith,
  length-append (mux_boot_bytes m) (flat_map mux_boot_bytes ms),
  length-append (number_bytes 2 m.mux) (number_bytes 8 m.boot),
  length-number_bytes 2 m.mux,
  length-number_bytes 8 m.boot,
  length-mux_boots ms,
)

-- the longest command names 16 muxes
length-command : (c : LogCommand) → IsAllowed c → length (command_bytes c) ≤ 170
length-command (Reserve agent boot machine seq) allowed =
    let a = number_bytes 2 agent in
    let b = number_bytes 8 boot in
    let m = number_bytes 4 machine.0 in
    let s = number_bytes 8 seq in
    omega (
      arith,
      length-append (a ++ b ++ m) s,
      length-append (a ++ b) m,
      length-append a b,
      length-number_bytes 2 agent,
      length-number_bytes 8 boot,
      length-number_bytes 4 machine.0,
      length-number_bytes 8 seq,
    )
length-command (Granted n muxes) allowed =
    let few = allowed.1.few in
    let named = flat_map mux_boot_bytes muxes in
    omega (
      arith,
      few,
      length-append (number_bytes 8 n ++ length muxes ∷ []) named,
      length-append (number_bytes 8 n) (length muxes ∷ []),
      length-number_bytes 8 n,
      length-mux_boots muxes,
    )
length-command (Release n) allowed = omega (arith, length-number_bytes 8 n)
length-command (Freed n) allowed = omega (arith, length-number_bytes 8 n)
length-command (Up agent boot) allowed =
    omega (
      arith,
      length-append (number_bytes 2 agent) (number_bytes 8 boot),
      length-number_bytes 2 agent,
      length-number_bytes 8 boot,
    )

length-commands : (cs : List LogCommand) → Each IsAllowed cs → length (flat_map command_bytes cs) ≤ 170 * length cs
length-commands [] each = omega arith
length-commands (c ∷ cs) each = omega (
  arith,
  length-append (command_bytes c) (flat_map command_bytes cs),
  length-command c each.0,
  length-commands cs each.1,
)

length-value : (cs : List LogCommand) → IsValue cs → length (value_bytes cs) ≤ 2721
length-value cs value = let few = value.few in omega (arith, few, length-commands cs value.fields)

-- the longest entry has a ballot and 16 of the longest commands
pub length-entry : (e : Entry) → IsEntry e → length (entry_bytes e) ≤ 2730
length-entry (Boot version role index boot) allowed =
    omega (
      arith,
      length-append (number_bytes 2 index) (number_bytes 8 boot),
      length-number_bytes 2 index,
      length-number_bytes 8 boot,
    )
length-entry (Promise ballot) allowed = omega (arith, length-number_bytes 8 ballot)
length-entry (Vote ballot value) allowed =
    omega (
      arith,
      length-append (number_bytes 8 ballot) (value_bytes value),
      length-number_bytes 8 ballot,
      length-value value allowed.1,
    )
length-entry (Learn ballot value) allowed =
    omega (
      arith,
      length-append (number_bytes 8 ballot) (value_bytes value),
      length-number_bytes 8 ballot,
      length-value value allowed.1,
    )
length-entry (Epoch epoch) allowed = omega (arith, length-number_bytes 8 epoch)

some-entry : (e : Entry) → 1 ≤ length (entry_bytes e)
some-entry (Boot version role index boot) = omega arith
some-entry (Promise ballot) = omega arith
some-entry (Vote ballot value) = omega arith
some-entry (Learn ballot value) = omega arith
some-entry (Epoch epoch) = omega arith

pub entry_is_body : (e : Entry) → IsEntry e → IsBody (entry_bytes e)
entry_is_body e allowed = record {
  some = some-entry e;
  most = omega (arith, length-entry e allowed);
  entry = spelled_is_entry e allowed;
}
