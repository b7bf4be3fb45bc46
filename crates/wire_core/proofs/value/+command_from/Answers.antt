use Rattle.std.proofs.Common.{◌≡◌, ◌-◌, suc, refl, arith}
use Rattle.wire_core.specs.Views.{command_of}
use Rattle.wire_core.proofs.WalkLaws.{first_fails, first_is}
use Rattle.wire_core.proofs.value.+command_from.Goals as goal

pub unreachable-requires : goal.unreachable-requires
unreachable-requires t c =
    first_fails c.args.count c.args.bytes.now _ (omega (arith, c.requires.within)) c.requires.read c.in-Err.ensures

pub command_from-requires : goal.command_from-requires
command_from-requires t c =
    let m =
    first_is c.args.count c.args.bytes.now (command_of c.in-Ok.command) c.in-Ok.after.now
    (omega (arith, c.requires.within)) c.requires.read c.in-Ok.ensures in
    (omega arith, (m.more, omega (arith, c.requires.within)))

pub returns-then-i-eq0 : goal.returns-then-i-eq0
returns-then-i-eq0 t c =
    let m =
    first_is c.args.count c.args.bytes.now (command_of c.in-Ok.command) c.in-Ok.after.now
    (omega (arith, c.requires.within)) c.requires.read c.in-Ok.ensures in
    rw (m.all, c.if-i-eq0.true) refl

pub returns-else-i-eq0 : goal.returns-else-i-eq0
returns-else-i-eq0 t c =
    let m =
    first_is c.args.count c.args.bytes.now (command_of c.in-Ok.command) c.in-Ok.after.now
    (omega (arith, c.requires.within)) c.requires.read c.in-Ok.ensures in
    let k : c.args.i ≡ suc (c.args.i - 1) = omega (arith, c.if-i-eq0.false) in
    rw (m.all, k) c.command_from.ensures
