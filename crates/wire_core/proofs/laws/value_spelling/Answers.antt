use Rattle.wire_core.proofs.AgainLaws as again
use Rattle.wire_core.proofs.CommandLaws.{command_is, value_is}
use Rattle.wire_core.proofs.laws.value_spelling.Goals as goal

pub returns-clause-command_again : goal.returns-clause-command_again
returns-clause-command_again c = λ x rest h. again.command_again x rest h

pub returns-clause-command_spelled : goal.returns-clause-command_spelled
returns-clause-command_spelled c = λ bytes x rest h e. let is =
    command_is bytes (x, rest) h e in (is.splits.joined, is.allowed)

pub returns-clause-value_again : goal.returns-clause-value_again
returns-clause-value_again c = λ x rest h. again.value_again x rest h

pub returns-clause-value_spelled : goal.returns-clause-value_spelled
returns-clause-value_spelled c = λ bytes x rest h e. let is =
    value_is bytes (x, rest) h e in (is.splits.joined, is.value)
