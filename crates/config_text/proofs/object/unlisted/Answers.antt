use Rattle.std.proofs.Common.{rules}
use Rattle.config_text.proofs.object.unlisted.Goals as goal
use Rattle.config_text.proofs.Unlisted.{unlisted_is}

pub returns : goal.returns
returns c = unlisted_is c.args.listed.now c.in_ok-as_object.field-0.now.entries _ _
    (search rules) c.first_unlisted.ensures.ordered c.first_unlisted.ensures.found
