use Rattle.std.proofs.Common.{rules}
use Rattle.wire_core.specs.declared.entry.Entry.TheVariants.{Epoch}
use Rattle.node_core.proofs.tests.epoch_bytes.Goals as goal

pub returns-clause-spelled : goal.returns-clause-spelled
returns-clause-spelled c = record {
  entry = Epoch c.args.epoch;
  allowed = c.ranges.epoch.fits;
  spelled = search rules;
}
