use Rattle.worked_run.proofs.RangesComputed.{opens, in_order, eight_ports, stay_held, asks_later, own_machines}
use Rattle.worked_run.proofs.agents.ranges_rows.Goals as goal

pub returns-clause-opens : goal.returns-clause-opens
returns-clause-opens c = opens

pub returns-clause-in_order : goal.returns-clause-in_order
returns-clause-in_order c = in_order

pub returns-clause-eight_ports : goal.returns-clause-eight_ports
returns-clause-eight_ports c = eight_ports

pub returns-clause-stay_held : goal.returns-clause-stay_held
returns-clause-stay_held c = stay_held

pub returns-clause-asks_later : goal.returns-clause-asks_later
returns-clause-asks_later c = asks_later

pub returns-clause-own_machines : goal.returns-clause-own_machines
returns-clause-own_machines c = own_machines
