use Rattle.plain_schedule.proofs.packets.print_machine.Goals as goal

pub returns-in_ok-address-in-Ok : goal.returns-in_ok-address-in-Ok
returns-in_ok-address-in-Ok c =
    rw c.in-Ok.is
    (rw (c.in_ok-address-in-Ok.ensures, c.in_ok-digits-in-Ok.ensures, c.translate_destination.ensures.packet) at
    c.writeln.ensures.bytes)
