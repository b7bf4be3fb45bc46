use Rattle.worked_run.proofs.MuxLimitsComputed.{too_long_to_wrap, flows_full}
use Rattle.worked_run.proofs.muxes.mux_limits.Goals as goal

pub returns-clause-long : goal.returns-clause-long
returns-clause-long c = too_long_to_wrap

pub returns-clause-full : goal.returns-clause-full
returns-clause-full c = flows_full
