use Rattle.worked_run.proofs.PacketsComputed.{refusals, forwards, notes, ticks}
use Rattle.worked_run.proofs.muxes.packets_rows.Goals as goal

pub returns-clause-refusals : goal.returns-clause-refusals
returns-clause-refusals c = refusals

pub returns-clause-forwards : goal.returns-clause-forwards
returns-clause-forwards c = forwards

pub returns-clause-notes : goal.returns-clause-notes
returns-clause-notes c = notes

pub returns-clause-ticks : goal.returns-clause-ticks
returns-clause-ticks c = ticks
