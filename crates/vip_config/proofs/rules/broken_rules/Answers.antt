use Rattle.vip_config.proofs.Laws.{keeps_rules}
use Rattle.vip_config.proofs.Given.{is_read, what_is_given}
use Rattle.vip_config.proofs.Unbroken.{breaks_none}
use Rattle.vip_config.proofs.rules.broken_rules.Goals as goal

pub returns-clause-keeps : goal.returns-clause-keeps
returns-clause-keeps c = keeps_rules

pub returns-clause-breaks_none : goal.returns-clause-breaks_none
returns-clause-breaks_none c = breaks_none

pub returns-clause-read : goal.returns-clause-read
returns-clause-read c = is_read

pub returns-clause-given : goal.returns-clause-given
returns-clause-given c = what_is_given
