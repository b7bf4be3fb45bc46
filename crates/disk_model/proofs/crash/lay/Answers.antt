use Rattle.std.proofs.Common.{rules, subst}
use Rattle.std.specs.List.{list_any}
use Rattle.outside_io.specs.Disk.{is_in}
use Rattle.disk_model.specs.Overlays.{IsOverlaid}
use Rattle.disk_model.proofs.Laid.{laid_past}
use Rattle.disk_model.proofs.crash.lay.Goals as goal

pub returns : goal.returns
returns c = laid_past (λ k. list_any (is_in k) c.args.ranges.now) c.args.end c.args.pick.now c.args.bytes.now
    c.overlay_all.new.bytes c.overlay.new.bytes c.overlay_all.ensures
    (subst (λ n. IsOverlaid c.args.end n c.args.pick.now c.overlay_all.new.bytes c.overlay.new.bytes) (search rules)
    c.overlay.ensures)
