use Rattle.std.proofs.Common.{rules, ◌≡◌, Ok, Some, sym, subst}
use Rattle.outside_io.specs.Disk.{LeavesOnly}
use Rattle.journal.specs.Durable.{IsStill, file_in}
use Rattle.journal.specs.Journal.{OpenedAs, IsAsBefore, journal_length}
use Rattle.node_disk.specs.Judging.{boot_entry, judge}
use Rattle.node_disk.specs.Keeping.{IsKept, KeepFails, LeavesKept, ReadsKept, length_with}
use Rattle.node_core.specs.Opening.{OpeningLeaves, OpenFails, next_boot, with_boot}
use Rattle.node_core.proofs.Opens.{not_kept, opened_with, then_started}
use Rattle.node_core.proofs.node.Node.open.Goals as goal

pub returns-in-Ok-keep-clause-still : goal.returns-in-Ok-keep-clause-still
returns-in-Ok-keep-clause-still g c = λ still.
    let entry : c.in-Ok-prepare.prepared.1 ≡ Some (boot_entry c.args.who (next_boot c.in-Ok.opened.1)) = search rules in
    let opened : OpenedAs 1073741824 (g.D.Disk.history c.args.a) (g.D.Disk.history c.in-Ok.opened.0.first)
    c.in-Ok.opened.1 = search rules in
    let first : LeavesOnly (g.D.Disk.history c.args.a) (g.D.Disk.history c.in-Ok.opened.0.first)
    (IsAsBefore 1073741824 (file_in (g.D.Disk.history c.args.a))) = search (rules, still) in
    let moments : LeavesOnly (g.D.Disk.history c.in-Ok.opened.0.first) (g.D.Disk.history c.keep.new.journal.first)
    (IsKept 1073741824 (file_in (g.D.Disk.history c.in-Ok.opened.0.first)) c.in-Ok-prepare.prepared.1) =
    search rules in
    then_started 1073741824 c.args.who (g.D.Disk.history c.args.a) (g.D.Disk.history c.in-Ok.opened.0.first)
    (g.D.Disk.history c.keep.new.journal.first) c.in-Ok.opened.1 opened first
    (subst (λ e. LeavesOnly (g.D.Disk.history c.in-Ok.opened.0.first) (g.D.Disk.history c.keep.new.journal.first)
    (IsKept 1073741824 (file_in (g.D.Disk.history c.in-Ok.opened.0.first)) e)) entry moments)

pub returns-in-Err-keep-clause-still : goal.returns-in-Err-keep-clause-still
returns-in-Err-keep-clause-still g c = λ still.
    let entry : c.in-Ok-prepare.prepared.1 ≡ Some (boot_entry c.args.who (next_boot c.in-Ok.opened.1)) = search rules in
    let opened : OpenedAs 1073741824 (g.D.Disk.history c.args.a) (g.D.Disk.history c.in-Ok.opened.0.first)
    c.in-Ok.opened.1 = search rules in
    let first : LeavesOnly (g.D.Disk.history c.args.a) (g.D.Disk.history c.in-Ok.opened.0.first)
    (IsAsBefore 1073741824 (file_in (g.D.Disk.history c.args.a))) = search (rules, still) in
    let moments : LeavesOnly (g.D.Disk.history c.in-Ok.opened.0.first) (g.D.Disk.history c.keep.new.journal.first)
    (IsKept 1073741824 (file_in (g.D.Disk.history c.in-Ok.opened.0.first)) c.in-Ok-prepare.prepared.1) =
    search rules in
    let after : c.into_disks-a-in-Err-keep.result.0 ≡ c.keep.new.journal.first = search rules in
    subst (λ d. OpeningLeaves 1073741824 c.args.who (g.D.Disk.history c.args.a) (g.D.Disk.history c.args.a)
    (g.D.Disk.history d)) (sym after)
    (then_started 1073741824 c.args.who (g.D.Disk.history c.args.a) (g.D.Disk.history c.in-Ok.opened.0.first)
    (g.D.Disk.history c.keep.new.journal.first) c.in-Ok.opened.1 opened first
    (subst (λ e. LeavesOnly (g.D.Disk.history c.in-Ok.opened.0.first) (g.D.Disk.history c.keep.new.journal.first)
    (IsKept 1073741824 (file_in (g.D.Disk.history c.in-Ok.opened.0.first)) e)) entry moments))

pub returns-in-Err-keep-clause-fault : goal.returns-in-Err-keep-clause-fault
returns-in-Err-keep-clause-fault g c =
    let entry : c.in-Ok-prepare.prepared.1 ≡ Some (boot_entry c.args.who (next_boot c.in-Ok.opened.1)) = search rules in
    let opened : OpenedAs 1073741824 (g.D.Disk.history c.args.a) (g.D.Disk.history c.in-Ok.opened.0.first)
    c.in-Ok.opened.1 = search rules in
    let length : c.in-Ok.opened.0.length ≡ journal_length c.in-Ok.opened.1 = search rules in
    let fails : KeepFails 1073741824 c.in-Ok.opened.0.length (g.D.Disk.faults c.in-Ok.opened.0.first)
    (g.D.Disk.faults c.keep.new.journal.first) c.in-Ok-prepare.prepared.1 c.in-Err-keep.fault = search rules in
    let after : c.into_disks-a-in-Err-keep.result.0 ≡ c.keep.new.journal.first = search rules in
    subst (λ d. OpenFails 1073741824 c.args.who (g.D.Disk.history c.args.a) (g.D.Disk.faults c.args.a)
    (g.D.Disk.faults d) c.in-Err-keep.fault) (sym after)
    (not_kept 1073741824 c.in-Ok.opened.0.length (g.D.Disk.faults c.args.a) (g.D.Disk.faults c.in-Ok.opened.0.first)
    (g.D.Disk.faults c.keep.new.journal.first) c.args.who (g.D.Disk.history c.args.a)
    (g.D.Disk.history c.in-Ok.opened.0.first) c.in-Ok.opened.1 c.in-Err-keep.fault (search rules) opened length
    (subst (λ e. KeepFails 1073741824 c.in-Ok.opened.0.length (g.D.Disk.faults c.in-Ok.opened.0.first)
    (g.D.Disk.faults c.keep.new.journal.first) e c.in-Err-keep.fault) entry fails))

pub returns-in-Ok-keep-clause-with : goal.returns-in-Ok-keep-clause-with
returns-in-Ok-keep-clause-with g c =
    opened_with 1073741824 c.args.who c.in-Ok.opened.1 c.args.cfg.now (g.D.Disk.history c.args.a)
    (g.D.Disk.history c.in-Ok.opened.0.first) (g.D.Disk.history c.keep.new.journal.first) g.C.Core.opened
    c.in-Ok-prepare.prepared.0 c.in-Ok.opened.0.length c.keep.new.journal.length c.in-Ok-prepare.prepared.1
    (search rules) (search rules) (search rules) (search rules) (search rules) (search rules) (search rules)
    (search rules) (search rules) (search rules) (search rules)
