-- How long spellings are.
use Rattle.std.proofs.Common.{◌≡◌, ℕ, ◌+◌, ◌*◌, List, length, arith}
use Rattle.std.proofs.lemmas.List.{length-append}
use Rattle.wire_core.specs.declared.address.Ip4.{Ip4}
use Rattle.wire_core.specs.declared.command.MuxBoot.{MuxBoot}
use Rattle.wire_core.specs.Commands.{Reserve, Granted, Release, Freed, Up, command_bytes, value_bytes, LogCommand}
use Rattle.wire_core.specs.Entries.{entry_bytes}
use Rattle.wire_core.specs.declared.entry.Entry.TheVariants.{Boot, Promise, Vote, Learn, Epoch}
use Rattle.wire_core.proofs.NumberLaws.{length-number_bytes}
use Rattle.wire_core.proofs.AgainLaws.{length-flat_map-mux_boots}

pub reserve_is_long : (agent boot : ℕ) (machine : Ip4) (seq : ℕ)
    → length (command_bytes (Reserve agent boot machine seq)) ≡ 23
reserve_is_long agent boot machine seq = simp (length-append, length-number_bytes)

pub granted_is_long : (n : ℕ) (muxes : List MuxBoot) → length (command_bytes (Granted n muxes)) ≡ 10 + 10 * length muxes
granted_is_long n muxes = simp (length-append, length-number_bytes, length-flat_map-mux_boots) (omega arith)

pub release_is_long : (n : ℕ) → length (command_bytes (Release n)) ≡ 9
release_is_long n = simp length-number_bytes

pub freed_is_long : (n : ℕ) → length (command_bytes (Freed n)) ≡ 9
freed_is_long n = simp length-number_bytes

pub up_is_long : (agent boot : ℕ) → length (command_bytes (Up agent boot)) ≡ 11
up_is_long agent boot = simp (length-append, length-number_bytes)

pub boot_is_long : (version role index boot : ℕ) → length (entry_bytes (Boot version role index boot)) ≡ 13
boot_is_long version role index boot = simp (length-append, length-number_bytes)

pub promise_is_long : (ballot : ℕ) → length (entry_bytes (Promise ballot)) ≡ 9
promise_is_long ballot = simp length-number_bytes

pub epoch_is_long : (epoch : ℕ) → length (entry_bytes (Epoch epoch)) ≡ 9
epoch_is_long epoch = simp length-number_bytes

pub vote_is_long : (ballot : ℕ) (value : List LogCommand)
    → length (entry_bytes (Vote ballot value)) ≡ 9 + length (value_bytes value)
vote_is_long ballot value = simp (length-append, length-number_bytes)

pub learn_is_long : (ballot : ℕ) (value : List LogCommand)
    → length (entry_bytes (Learn ballot value)) ≡ 9 + length (value_bytes value)
learn_is_long ballot value = simp (length-append, length-number_bytes)
