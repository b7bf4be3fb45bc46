-- Entries in blocks of 64, and of each block how many of its rows are in each phase.
use Rattle.std.specs.Prelude.{◌≡◌, ◌<◌, ◌≤◌, ◌&&◌, cond, ℕ, ◌+◌, ◌*◌, Bool, List, length, take, drop, get_or}
use Rattle.std.specs.List.{count_by}
use Rattle.lease_spec.specs.declared.row.Phase.{Phase}
use Rattle.lease_spec.specs.declared.row.Phase.TheVariants.{BeingLeased, Leased, Freeing}
use Rattle.lease_rows.specs.declared.blocks.Block.{Block}
use Rattle.lease_rows.specs.declared.entries.Entry.{Entry}
use Rattle.lease_rows.specs.Walks.{in_phase}

-- What callers see of entries in blocks: the entries, and how many more fit without memory.
pub record Listed : Type 0 where
  pub items : List Entry
  pub room : ℕ

-- the entry has a row in this phase
abbrev pub is_in : Phase → Entry → Bool
is_in phase e = e.live && in_phase phase e.row

abbrev pub block_of : List Entry → Block
block_of es = record {
  being_leased = count_by (is_in BeingLeased) es;
  leased = count_by (is_in Leased) es;
  freeing = count_by (is_in Freeing) es;
}

-- how many rows of the block are in this phase
abbrev pub in_block : Phase → Block → ℕ
in_block BeingLeased block = block.being_leased
in_block Leased block = block.leased
in_block Freeing block = block.freeing

abbrev pub one : Bool → ℕ
one counted = cond counted 1 0

-- a count of at most 64 entries, one of which is counted or isn't
pub record IsCountOf (counted : Bool) (count : ℕ) : Type 0 where
  pub least : one counted ≤ count
  pub most : count ≤ 64

-- the entry is one of the block
pub record Counts (e : Entry) (block : Block) : Type 0 where
  pub being_leased : IsCountOf (is_in BeingLeased e) block.being_leased
  pub leased : IsCountOf (is_in Leased e) block.leased
  pub freeing : IsCountOf (is_in Freeing e) block.freeing

-- the block after one of its entries changed
pub record IsRecount (old new : Entry) (before after : Block) : Type 0 where
  pub being_leased : after.being_leased + one (is_in BeingLeased old)
      ≡ before.being_leased + one (is_in BeingLeased new)
  pub leased : after.leased + one (is_in Leased old) ≡ before.leased + one (is_in Leased new)
  pub freeing : after.freeing + one (is_in Freeing old) ≡ before.freeing + one (is_in Freeing new)

-- at most 64 entries are counted
pub record IsFew (block : Block) : Type 0 where
  pub being_leased : block.being_leased ≤ 64
  pub leased : block.leased ≤ 64
  pub freeing : block.freeing ≤ 64

-- the block with one entry more
abbrev pub with_entry : Entry → Block → Block
with_entry e block = record {
  being_leased = block.being_leased + one (is_in BeingLeased e);
  leased = block.leased + one (is_in Leased e);
  freeing = block.freeing + one (is_in Freeing e);
}

-- As many blocks as the entries fill, and each is that of its 64 entries.
pub record IsBlocked (blocks : List Block) (es : List Entry) : Type 0 where
  pub covers : length es ≤ 64 * length blocks
  pub few : 64 * length blocks < length es + 64
  pub each : (b : ℕ) (d : Block) → b < length blocks → get_or blocks b d ≡ block_of (take 64 (drop (64 * b) es))
