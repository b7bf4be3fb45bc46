use Rattle.wire_core.proofs.OwnedLaws.{read_back, is_value}
use Rattle.wire_core.proofs.owned.OwnedValue.new.Goals as goal

pub invariant_of-result : goal.invariant_of-result
invariant_of-result c =
    (read_back _ _ c.in_ok-bytes.ensures
    (is_value c.args.commands.now c.requires.some c.requires.few c.requires.writable)).1

pub returns : goal.returns
returns c =
    (read_back _ _ c.in_ok-bytes.ensures
    (is_value c.args.commands.now c.requires.some c.requires.few c.requires.writable)).0
