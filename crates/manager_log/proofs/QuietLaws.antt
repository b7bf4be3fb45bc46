-- A push passes over rows of which no mux has to be told.
use Rattle.std.proofs.Common.{◌≡◌, ◌≤◌, ◌<◌, inl, inr, refl, sym, ap, subst, ◌∙◌, ℕ, suc, ◌-◌, Bool, true, false, ◌&&◌, cond}
use Rattle.std.proofs.Common.{nat_le, nat_lt, List, [], ◌∷◌, ◌++◌, filter, length, Option, Some, None, IfSome, arith}
use Rattle.std.specs.Prelude.{◌==◌, is_some}
use Rattle.std.specs.List.{flat_map}
use Rattle.std.proofs.lemmas.Bool.Decides.{nat_tests}
use Rattle.wire_core.specs.Members.{Each, In}
use Rattle.vip_config.specs.declared.parts.ConfigParts.{ConfigParts}
use Rattle.vip_config.specs.Leases.{lease_rules_of}
use Rattle.lease_spec.specs.declared.row.Row.{Row}
use Rattle.lease_spec.specs.declared.row.Phase.TheVariants.{Freeing}
use Rattle.lease_spec.specs.Table.{is_freeing, row_at}
use Rattle.lease_spec.proofs.MemberLaws.{each_from, each_in, each_passing, found_passes, in_filter}
use Rattle.node_spec.specs.Sends.{Send}
use Rattle.port_leases.specs.TableState.{in_phase, onward_in, row_above, rows_above, rows_in}
use Rattle.manager_spec.specs.declared.peer.Peer.{Peer}
use Rattle.manager_spec.specs.declared.marks.Marks.{Marks}
use Rattle.manager_spec.specs.Known.{is_acked, is_near, marks_at}
use Rattle.manager_spec.specs.Manager.{Manager, leases}
use Rattle.manager_spec.specs.Orders.{push_one, push_row}
use Rattle.manager_log.specs.Pending.{IsCurrent, IsQuiet, Pending, is_settled}
use Rattle.manager_log.proofs.PendingLaws.{has_it, settled_more}

-- ---- walks

-- the first above a number is above it
pub first_above : (rows : List Row) (above : ℕ) → IfSome (row_above rows above) (λ row. above < row.n)
first_above rows above = by (row_above rows above) refl
  where
    by : (o : Option Row) → row_above rows above ≡ o → IfSome o (λ row. above < row.n)
    by None e = tt
    by (Some row) e = let passes : nat_lt above row.n ≡ true = found_passes (λ x. nat_lt above x.n) rows row e in grind (arith, nat_tests)

in_phase_above : (rows : List Row) (above : ℕ) (row : Row) → In row (rows_in rows Freeing above) → above < row.n
in_phase_above rows above row i =
    each_in (λ x. above < x.n) (rows_in rows Freeing above) row
    (each_passing (λ x. above < x.n) (λ x. nat_lt above x.n && in_phase Freeing x) rows
    (λ x j e. let passes : nat_lt above x.n ≡ true = grind (arith) in grind (arith, nat_tests))) i

-- the first Freeing row above a number is above it
pub freeing_above : (rows : List Row) (above : ℕ) (o : Option Row) → rows_in rows Freeing above ≡ onward_in rows Freeing o
    → IfSome o (λ row. above < row.n)
freeing_above rows above None walk = tt
freeing_above rows above (Some row) walk =
    in_phase_above rows above row (subst (λ (xs : List Row). In row xs) (sym walk) (inl refl))

longer : (rows : List Row) (above upto : ℕ) → above ≤ upto → length (rows_above rows upto) ≤ length (rows_above rows above)
longer [] above upto le = omega arith
longer (row ∷ rows) above upto le = by (nat_lt above row.n) (nat_lt upto row.n) refl refl (longer rows above upto le)
  where
    by : (b c : Bool) → nat_lt above row.n ≡ b → nat_lt upto row.n ≡ c
        → length (rows_above rows upto) ≤ length (rows_above rows above)
        → length (cond c (row ∷ rows_above rows upto) (rows_above rows upto))
        ≤ length (cond b (row ∷ rows_above rows above) (rows_above rows above))
    by true true e f rest = omega arith
    by true false e f rest = omega arith
    by false true e f rest =
        absurd (let lt : upto < row.n = grind (arith, nat_tests) in let ge : row.n ≤ above = grind (arith, nat_tests) in omega arith)
    by false false e f rest = rest

-- a walk that goes on has fewer rows to go
pub fewer_to_go : (rows : List Row) (above upto : ℕ) (next : Row) → above ≤ upto
    → rows_above rows upto ≡ next ∷ rows_above rows next.n
    → length (rows_above rows next.n) < length (rows_above rows above)
fewer_to_go rows above upto next le walk =
    let all = longer rows above upto le in
    let one : length (rows_above rows upto) ≡ suc (length (rows_above rows next.n)) = ap (λ (xs : List Row). length xs) walk in
    omega arith

-- ---- nothing is said

-- of rows up to a number
passed_over : (g : Row → List Send) (rows : List Row) (above upto : ℕ) → above ≤ upto
    → Each (λ row. above < row.n → row.n ≤ upto → g row ≡ []) rows
    → flat_map g (rows_above rows above) ≡ flat_map g (rows_above rows upto)
passed_over g [] above upto le each = refl
passed_over g (row ∷ rows) above upto le each =
    by (nat_lt above row.n) (nat_lt upto row.n) refl refl (passed_over g rows above upto le each.1)
  where
    by : (b c : Bool) → nat_lt above row.n ≡ b → nat_lt upto row.n ≡ c
        → flat_map g (rows_above rows above) ≡ flat_map g (rows_above rows upto)
        → flat_map g (cond b (row ∷ rows_above rows above) (rows_above rows above))
        ≡ flat_map g (cond c (row ∷ rows_above rows upto) (rows_above rows upto))
    by true true e f rest = ap (λ (xs : List Send). g row ++ xs) rest
    by true false e f rest =
        let over : above < row.n = grind (arith, nat_tests) in
        let within : row.n ≤ upto = grind (arith, nat_tests) in
        let none : g row ≡ [] = each.0 over within in
        ap (λ (xs : List Send). xs ++ flat_map g (rows_above rows above)) none ∙ rest
    by false true e f rest =
        absurd (let lt : upto < row.n = grind (arith, nat_tests) in let ge : row.n ≤ above = grind (arith, nat_tests) in omega arith)
    by false false e f rest = rest

both : (a b : Bool) → (a && b) ≡ true → (a ≡ true) × (b ≡ true)
both true true e = (refl, refl)
both true false e = absurd (cc)
both false b e = absurd (cc)

acked_by : (marks : Marks) (p : Peer) → nat_lt 0 p.boot ≡ true → has_it marks p.mux p.boot ≡ true
    → is_acked marks.programmed p ≡ true
acked_by marks p e it = let is : has_it marks p.mux p.boot ≡ is_acked marks.programmed p = rw e refl in sym is ∙ it

quiet_one : (epoch : ℕ) (row : Row) (marks : Marks) (p : Peer) → is_freeing row.phase ≡ false
    → is_acked marks.programmed p ≡ true → push_one epoch row marks p ≡ []
quiet_one epoch row marks p e f = rw (e, f) refl

quiet_peers : (cfg : ConfigParts) (time epoch : ℕ) (row : Row) (marks : Marks) (ps : List Peer) → is_freeing row.phase ≡ false
    → is_settled ps marks ≡ true → flat_map (push_one epoch row marks) (filter (is_near cfg time) ps) ≡ []
quiet_peers cfg time epoch row marks [] stands all = refl
quiet_peers cfg time epoch row marks (p ∷ ps) stands all =
    let split = both _ _ (sym (settled_more p ps marks) ∙ all) in
    by (nat_lt 0 p.boot) (nat_le (time - p.heard_at) cfg.timers.mux_silent) refl split.0
    (quiet_peers cfg time epoch row marks ps stands split.1)
  where
    by : (b c : Bool) → nat_lt 0 p.boot ≡ b → has_it marks p.mux p.boot ≡ true
        → flat_map (push_one epoch row marks) (filter (is_near cfg time) ps) ≡ []
        → flat_map (push_one epoch row marks) (cond (b && c) (p ∷ filter (is_near cfg time) ps) (filter (is_near cfg time) ps)) ≡ []
    by true true e it rest =
        let none : push_one epoch row marks p ≡ [] = quiet_one epoch row marks p stands (acked_by marks p e it) in
        ap (λ (xs : List Send). xs ++ flat_map (push_one epoch row marks) (filter (is_near cfg time) ps)) none ∙ rest
    by true false e it rest = rest
    by false c e it rest = rest

quiet_row : (cfg : ConfigParts) (r : Manager) (row : Row) → is_freeing row.phase ≡ false
    → is_settled r.muxes (marks_at r.acks row.n) ≡ true → push_row cfg r row ≡ []
quiet_row cfg r row stands all =
    quiet_peers cfg r.time r.memory.leader.ballot row (marks_at r.acks row.n) r.muxes stands all

there_is : (rows : List Row) (row : Row) → In row rows → is_some (row_at rows row.n) ≡ true
there_is [] row i = absurd i
there_is (x ∷ xs) row i = by (x.n == row.n) refl (λ j. there_is xs row j)
  where
    by : (b : Bool) → (x.n == row.n) ≡ b → (In row xs → is_some (row_at xs row.n) ≡ true)
        → is_some (cond b (Some x) (row_at xs row.n)) ≡ true
    by true e rest = refl
    by false e rest = elim i [
      | inl same ↦ absurd (let number : x.n ≡ row.n = ap (λ (y : Row). y.n) same in grind (arith, nat_tests))
      | inr later ↦ rest later
    ]

-- a Freeing row isn't before the first one
freeing_from : (rows : List Row) (above upto : ℕ) (o : Option Row) (row : Row) → rows_in rows Freeing above ≡ onward_in rows Freeing o
    → IfSome o (λ f. upto < f.n) → In row rows → above < row.n → is_freeing row.phase ≡ true → upto < row.n
freeing_from rows above upto o row walk over i lt freeing =
    let passes : (nat_lt above row.n && in_phase Freeing row) ≡ true =
    (let e : nat_lt above row.n ≡ true = grind (arith, nat_tests) in rw (e, freeing) refl) in
    by o over (subst (λ (xs : List Row). In row xs) walk
    (in_filter (λ x. nat_lt above x.n && in_phase Freeing x) rows row i passes))
  where
    by : (o : Option Row) → IfSome o (λ f. upto < f.n) → In row (onward_in rows Freeing o) → upto < row.n
    by None over j = absurd j
    by (Some f) over j = elim j [
      | inl same ↦ subst (λ (x : Row). upto < x.n) same over
      | inr later ↦ (let past : f.n < row.n = in_phase_above rows f.n row later in let first : upto < f.n = over in omega arith)
    ]

-- What a walk over all rows says, it says from there on to which no row has to be looked at.
pub quiet_walk : (cfg : ConfigParts) (r : Manager) (p : Pending) (above upto : ℕ) (o : Option Row)
    → IsCurrent p (lease_rules_of cfg) r.acceptor r.acks r.muxes → above ≤ upto → IsQuiet p above upto
    → rows_in (leases cfg r).rows Freeing above ≡ onward_in (leases cfg r).rows Freeing o → IfSome o (λ f. upto < f.n)
    → flat_map (push_row cfg r) (rows_above (leases cfg r).rows above)
    ≡ flat_map (push_row cfg r) (rows_above (leases cfg r).rows upto)
quiet_walk cfg r p above upto o current le quiet walk first =
    passed_over (push_row cfg r) (leases cfg r).rows above upto le
    (each_from _ (leases cfg r).rows (λ row i over within. by row i over within (is_freeing row.phase) refl))
  where
    by : (row : Row) → In row (leases cfg r).rows → above < row.n → row.n ≤ upto → (b : Bool) → is_freeing row.phase ≡ b
        → push_row cfg r row ≡ []
    by row i over within true e =
        absurd (let past : upto < row.n = freeing_from (leases cfg r).rows above upto o row walk first i over e in omega arith)
    by row i over within false e =
        let seen = quiet row.n over within in
        quiet_row cfg r row e
        (current.seen row.n (there_is (leases cfg r).rows row i) (omega arith) seen.0 seen.1)

pub quiet_less : (p : Pending) (above upto less : ℕ) → less ≤ upto → IsQuiet p above upto → IsQuiet p above less
quiet_less p above upto less le quiet n over within = quiet n over (omega arith)
