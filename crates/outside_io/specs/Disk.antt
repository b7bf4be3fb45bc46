-- A file, and what a crash may leave of it.
use Rattle.std.specs.Prelude.{◌≡◌, ◌<◌, ◌≤◌, ℕ, ◌+◌, ◌-◌, min, max, Bool, false, ◌&&◌, List, [], ◌∷◌, ◌++◌, length, get_or, take, drop, nat_le, nat_lt, Result, Ok, Err, Option, Some, None, ⊤}
use Rattle.std.specs.List.{list_any}
use Rattle.outside_io.specs.declared.disk.Span.{Span}

-- A file between two calls: what a read gives, the ranges that were written since the last successful sync,
-- and the least and the greatest length that it had since then.
pub record FileState : Type 0 where
  pub bytes : List ℕ
  pub unsynced : List Span
  pub least : ℕ
  pub greatest : ℕ

abbrev pub is_in : ℕ → Span → Bool
is_in i span = nat_le span.from i && nat_lt i span.to

-- the byte at this place was written since the last successful sync
abbrev pub is_unsynced : FileState → ℕ → Bool
is_unsynced f i = list_any (is_in i) f.unsynced

-- A crash may leave c: any bytes in the written ranges and past the end, the same elsewhere, and a length between.
pub record IsImage (f : FileState) (c : List ℕ) : Type 0 where
  pub no_shorter : f.least ≤ length c
  pub no_longer : length c ≤ f.greatest
  pub stays : (i : ℕ) → i < length f.bytes → i < length c → is_unsynced f i ≡ false → get_or c i 0 ≡ get_or f.bytes i 0

-- each image has P
abbrev pub Leaves : (List ℕ → Type 0) → FileState → Type 0
Leaves P f = (c : List ℕ) → IsImage f c → P c

-- nothing is pending: a crash leaves what a read gives
abbrev pub kept : List ℕ → FileState
kept bytes = record { bytes = bytes; unsynced = []; least = length bytes; greatest = length bytes }

-- these bytes stand at this place
abbrev pub wrote : ℕ → List ℕ → FileState → FileState
wrote at bytes f = record {
  bytes = take at f.bytes ++ bytes ++ drop (at + length bytes) f.bytes;
  unsynced = f.unsynced ++ record { from = at; to = at + length bytes } ∷ [];
  least = f.least;
  greatest = max f.greatest (at + length bytes);
}

-- a cut counts as a written range of all bytes past the new end
abbrev pub shortened : ℕ → FileState → FileState
shortened n f = record {
  bytes = take n f.bytes;
  unsynced = f.unsynced ++ record { from = n; to = length f.bytes } ∷ [];
  least = min f.least n;
  greatest = f.greatest;
}

-- what a disk tells: the file now, and as it was after each call before, the latest first
pub record History : Type 0 where
  pub now : FileState
  pub past : List FileState

-- the file at each moment, the latest first
abbrev pub moments : History → List FileState
moments t = t.now ∷ t.past

-- one moment more
abbrev pub then : FileState → History → History
then f t = record { now = f; past = moments t }

abbrev pub Each : {A : Type 0} → (A → Type 0) → List A → Type 0
Each P [] = ⊤
Each P (x ∷ xs) = P x × Each P xs

-- from old to new there were these moments, each with P
pub record Grew (P : FileState → Type 0) (old new : History) : Type 0 where
  pub since : List FileState
  pub grown : moments new ≡ since ++ moments old
  pub each : Each P since

-- f has no image but those of g
abbrev pub IsWithin : FileState → FileState → Type 0
IsWithin g f = (c : List ℕ) → IsImage f c → IsImage g c

-- A call that changes the file is done; or it failed, and no image is left but those that it could have left had it
-- been done. What isn't told stays untold, and what is told stays told.
abbrev pub Does : {A E : Type 0} → (FileState → FileState) → Option History → Option History → Result A E → Type 0
Does step None None result = ⊤
Does step None (Some u) result = ⊥
Does step (Some t) None result = ⊥
Does step (Some t) (Some u) (Ok x) = u ≡ then (step t.now) t
Does step (Some t) (Some u) (Err e) = Grew (IsWithin (step t.now)) t u

-- after a sync a crash leaves what a read gives; one that failed adds no image
abbrev pub Syncs : {A E : Type 0} → Option History → Option History → Result A E → Type 0
Syncs old new (Err e) = new ≡ old
Syncs None None (Ok x) = ⊤
Syncs None (Some u) (Ok x) = ⊥
Syncs (Some t) new (Ok x) = new ≡ Some (then (kept t.now.bytes) t)

-- the place is within the file, where it is told
abbrev pub Within : Option History → ℕ → Type 0
Within None at = ⊤
Within (Some t) at = at ≤ length t.now.bytes

-- the answer is the file's length, where it is told
abbrev pub HasLength : {E : Type 0} → Option History → Result ℕ E → Type 0
HasLength (Some t) (Ok n) = n ≡ length t.now.bytes
HasLength (Some t) (Err e) = ⊤
HasLength None result = ⊤

-- what a read gives: the bytes from there on, as many as there are and as there is room for
abbrev pub Reads : {E : Type 0} → Option History → ℕ → List ℕ → List ℕ → Result ℕ E → Type 0
Reads told at before after (Err e) = ⊤
Reads None at before after (Ok n) = ⊤
Reads (Some t) at before after (Ok n) = (n ≡ min (length before) (length t.now.bytes - at))
    × (take n after ≡ take n (drop at t.now.bytes))

-- a crash at any moment since old leaves a file that has P
abbrev pub LeavesOnly : Option History → Option History → (List ℕ → Type 0) → Type 0
LeavesOnly None None P = ⊤
LeavesOnly None (Some u) P = ⊥
LeavesOnly (Some t) None P = ⊥
LeavesOnly (Some t) (Some u) P = Leaves P t.now × Grew (Leaves P) t u

-- what the file reads as is one of the images
abbrev pub ReadsAnImage : Option History → Type 0
ReadsAnImage None = ⊤
ReadsAnImage (Some t) = IsImage t.now t.now.bytes
