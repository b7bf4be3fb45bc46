-- A node's boot and epoch, by its entries.
use Rattle.std.specs.Prelude.{ℕ, max, List, fold}
use Rattle.wire_core.specs.declared.entry.Entry.{Entry}
use Rattle.wire_core.specs.declared.entry.Entry.TheVariants.{Boot, Promise, Vote, Learn, Epoch}

-- the greatest boot, with one entry more
abbrev pub boot_after : ℕ → Entry → ℕ
boot_after b (Boot version role index boot) = max b boot
boot_after b (Promise ballot) = b
boot_after b (Vote ballot value) = b
boot_after b (Learn ballot value) = b
boot_after b (Epoch epoch) = b

-- The greatest boot, at first 0.
unfoldable pub boot_of : List Entry → ℕ
boot_of entries = fold boot_after 0 entries

-- the greatest epoch, with one entry more
abbrev pub epoch_after : ℕ → Entry → ℕ
epoch_after e (Boot version role index boot) = e
epoch_after e (Promise ballot) = e
epoch_after e (Vote ballot value) = e
epoch_after e (Learn ballot value) = e
epoch_after e (Epoch epoch) = max e epoch

-- The greatest epoch, at first 0.
unfoldable pub epoch_of : List Entry → ℕ
epoch_of entries = fold epoch_after 0 entries
