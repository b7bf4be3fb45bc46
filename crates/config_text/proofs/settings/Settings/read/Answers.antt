use Rattle.config_text.proofs.Sized.{bounded_if_read, sized_if_read}
use Rattle.config_text.proofs.settings.Settings.read.Goals as goal

pub returns-clause-sized : goal.returns-clause-sized
returns-clause-sized c = sized_if_read c.args.bytes.now c.read_text.result c.read_text.ensures

pub returns-clause-bounded : goal.returns-clause-bounded
returns-clause-bounded c = bounded_if_read c.args.bytes.now c.read_text.result c.read_text.ensures
