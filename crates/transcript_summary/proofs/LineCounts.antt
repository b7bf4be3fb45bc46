-- Counts line by line: the counts of lines, those of none, those of one line more, and that they are no more than lines.
use Rattle.std.proofs.Common.{◌≡◌, ◌<◌, ℕ, ◌+◌, ◌-◌, ◌^◌, ◌==◌, List, [], length, refl, ap, arith}
use Rattle.std.specs.Prelude.{codes}
use Rattle.std.specs.List.{count_by}
use Rattle.std.proofs.lemmas.List.Splits.{length-slice_split}
use Rattle.std.proofs.lemmas.List.Sums.{count_by-le-length}
use Rattle.address_text.specs.Fields.{parts}
use Rattle.transcript_summary.specs.declared.kinds.Counts.{Counts}
use Rattle.transcript_summary.specs.Summary.{AreBelow, added, begins, counts_of, lines_with}

-- the counts of some lines
abbrev pub counts_in : List (List ℕ) → Counts
counts_in lines = record {
  events = count_by (begins (codes "event ")) lines;
  sent = count_by (begins (codes "sent ")) lines;
  leases = record {
    reserves = count_by (begins (codes "act reserve ")) lines;
    grants = count_by (begins (codes "act grant ")) lines;
    holds = count_by (begins (codes "act hold ")) lines;
    drops = count_by (begins (codes "act drop ")) lines;
    frees = count_by (begins (codes "act free ")) lines;
    freed = count_by (begins (codes "act freed ")) lines;
  };
  traffic = record {
    opens = count_by (begins (codes "act open ")) lines;
    closes = count_by (begins (codes "act close ")) lines;
    losses = count_by (begins (codes "act lose ")) lines;
    hands = count_by (begins (codes "act hand ")) lines;
  };
  drops = count_by (begins (codes "drop ")) lines;
}

pub in_parts : (text : List ℕ) → counts_in (parts 10 text) ≡ counts_of text
unfolding lines_with
in_parts text = refl

no_more : (a : ℕ) → a + 0 ≡ a
no_more a = omega arith

-- no lines add nothing
pub none_more : (c : Counts) → added c (counts_in []) ≡ c
none_more c = λ i. record {
  events = no_more c.events i;
  sent = no_more c.sent i;
  leases = record {
    reserves = no_more c.leases.reserves i;
    grants = no_more c.leases.grants i;
    holds = no_more c.leases.holds i;
    drops = no_more c.leases.drops i;
    frees = no_more c.leases.frees i;
    freed = no_more c.leases.freed i;
  };
  traffic = record {
    opens = no_more c.traffic.opens i;
    closes = no_more c.traffic.closes i;
    losses = no_more c.traffic.losses i;
    hands = no_more c.traffic.hands i;
  };
  drops = no_more c.drops i;
}

-- so far there are no more than lines
few : (p : List ℕ) (text : List ℕ) (a b : ℕ) → length text + 2 < 2 ^ 64 → a + b ≡ count_by (begins p) (parts 10 text)
    → a < 2 ^ 64 - 1
few p text a b short is =
    let lines = count_by-le-length (begins p) (parts 10 text) in
    let split = length-slice_split (λ (b : ℕ). b == 10) text in
    let ends = count_by-le-length (λ (b : ℕ). b == 10) text in
    omega (arith, is, lines, split, ends, short)

pub below : (c left : Counts) (text : List ℕ) → length text + 2 < 2 ^ 64 → added c left ≡ counts_in (parts 10 text)
    → AreBelow (2 ^ 64 - 1) c
below c left text short is = record {
  events = few (codes "event ") text c.events left.events short (ap (λ c. c.events) is);
  sent = few (codes "sent ") text c.sent left.sent short (ap (λ c. c.sent) is);
  leases = (
    few (codes "act reserve ") text c.leases.reserves left.leases.reserves short (ap (λ c. c.leases.reserves) is),
    few (codes "act grant ") text c.leases.grants left.leases.grants short (ap (λ c. c.leases.grants) is),
    few (codes "act hold ") text c.leases.holds left.leases.holds short (ap (λ c. c.leases.holds) is),
    few (codes "act drop ") text c.leases.drops left.leases.drops short (ap (λ c. c.leases.drops) is),
    few (codes "act free ") text c.leases.frees left.leases.frees short (ap (λ c. c.leases.frees) is),
    few (codes "act freed ") text c.leases.freed left.leases.freed short (ap (λ c. c.leases.freed) is),
  );
  traffic = (
    few (codes "act open ") text c.traffic.opens left.traffic.opens short (ap (λ c. c.traffic.opens) is),
    few (codes "act close ") text c.traffic.closes left.traffic.closes short (ap (λ c. c.traffic.closes) is),
    few (codes "act lose ") text c.traffic.losses left.traffic.losses short (ap (λ c. c.traffic.losses) is),
    few (codes "act hand ") text c.traffic.hands left.traffic.hands short (ap (λ c. c.traffic.hands) is),
  );
  drops = few (codes "drop ") text c.drops left.drops short (ap (λ c. c.drops) is);
}
