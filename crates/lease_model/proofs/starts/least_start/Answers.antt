use Rattle.std.proofs.Common.{◌≡◌, ◌∙◌, ℕ, suc, ◌-◌, sym, arith}
use Rattle.lease_model.specs.Rows.{is_free, least_start}
use Rattle.lease_model.proofs.LeastStarts.{start_goes, start_found, start_ends}
use Rattle.lease_model.proofs.starts.least_start.Goals as goal

pub returns-then-is_free : goal.returns-then-is_free
unfolding least_start
returns-then-is_free c =
    let some = c.loop-left-test.true in
    let next : c.loop-left.left ≡ suc (c.loop-left.left - 1) = omega (arith, some) in
    let found = sym c.is_free.ensures ∙ c.if-is_free.true in
    sym (start_found (is_free c.args.rules.now c.args.rows.now c.args.vip) c.loop-left.left (c.loop-left.left - 1)
    c.loop-left.start _ next found c.loop-left.invariant.so_far)

pub loop-left-preserved : goal.loop-left-preserved
loop-left-preserved c =
    let some = c.loop-left-test.true in
    let next : c.loop-left.left ≡ suc (c.loop-left.left - 1) = omega (arith, some) in
    let passed = sym c.is_free.ensures ∙ c.if-is_free.false in
    record {
      so_far = start_goes (is_free c.args.rules.now c.args.rows.now c.args.vip) c.loop-left.left (c.loop-left.left - 1)
          c.loop-left.start _ next passed c.loop-left.invariant.so_far;
      place = omega (arith, some, c.loop-left.invariant.place);
    }

pub returns : goal.returns
unfolding least_start
returns c =
    sym (start_ends (is_free c.args.rules.now c.args.rows.now c.args.vip) c.loop-left.left c.loop-left.start _
    (omega (arith, c.loop-left-test.false)) c.loop-left.invariant.so_far)
