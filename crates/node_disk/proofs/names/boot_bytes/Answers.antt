use Rattle.std.proofs.Common.{rules, arith, subst, ◌<◌, ◌^◌}
use Rattle.wire_core.specs.declared.entry.Entry.TheVariants.{Boot}
use Rattle.node_disk.proofs.names.boot_bytes.Goals as goal

pub returns-clause-spelled : goal.returns-clause-spelled
returns-clause-spelled c = record {
  entry = Boot 1 c.role_of.result c.index_of.result c.args.boot;
  allowed = (omega arith, c.role_of.ensures.byte, c.index_of.ensures.fits, c.ranges.boot.fits);
  spelled = search rules;
}

pub returns-clause-allowed : goal.returns-clause-allowed
returns-clause-allowed c = (
  omega arith,
  subst (λ r. r < 256) c.role_of.ensures.value c.role_of.ensures.byte,
  subst (λ i. i < 2 ^ 16) c.index_of.ensures.value c.index_of.ensures.fits,
  c.ranges.boot.fits,
)
