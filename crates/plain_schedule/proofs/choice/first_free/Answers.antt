use Rattle.std.proofs.Common.{◌≡◌, ◌∙◌, sym, ap, find, List, None}
use Rattle.std.specs.List.{flat_map}
use Rattle.lease_spec.specs.declared.row.Row.{Row}
use Rattle.port_leases.specs.TableState.{rows_of}
use Rattle.plain_schedule.specs.FullLeases.{plain}
use Rattle.plain_schedule.specs.Packets.{eight, is_free}
use Rattle.plain_schedule.proofs.FreePorts.{found_later, none_left}
use Rattle.plain_schedule.proofs.FullKept.{goes_on, passed}
use Rattle.plain_schedule.proofs.choice.first_free.Goals as goal

pub loop-row-init : goal.loop-row-init
loop-row-init c = record {
  found = passed (plain c.args.table.now c.args.opened.now) c.args.key.now c.args.full c.requires.sound c.requires.full;
  full = c.requires.full;
}

pub loop-row-preserved : goal.loop-row-preserved
loop-row-preserved c =
    let none : find (is_free c.args.table.now c.args.opened.now) (eight c.args.key.now c.in-Some.row) ≡ None
    = sym c.free_in-found.ensures ∙ none_left c.free_in-found.result c.if-is_some.ensures in
    record {
      found =
          sym (found_later (is_free c.args.table.now c.args.opened.now) (eight c.args.key.now) c.in-Some.row
          (rows_of c.args.table.now.leases.rows c.args.key.now.src c.in-Some.row.n) none)
          ∙ ap
          (λ (rows : List Row).
          find (is_free c.args.table.now c.args.opened.now) (flat_map (eight c.args.key.now) rows))
          (sym c.in-Some.ensures)
          ∙ c.loop-row.invariant.found;
      full =
          goes_on (plain c.args.table.now c.args.opened.now) c.args.key.now c.loop-row.above c.in-Some.row
          c.requires.sound c.loop-row.invariant.full c.in-Some.ensures none;
    }
