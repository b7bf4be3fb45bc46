use Rattle.std.proofs.Common.{length, ap, ◌∙◌}
use Rattle.vip_config.specs.Queries.{counts_of}
use Rattle.vip_config.proofs.Laws.{machine_count}
use Rattle.vip_config.proofs.config.Config.counts.Goals as goal

pub returns : goal.returns
returns c =
    let machines = c.len-3.ensures.len ∙ ap length c.self.invariant.of_machines
    ∙ machine_count c.self.inside.parts.agents in
    (λ t. record {
      muxes = c.len.ensures t;
      agents = c.len-2.ensures t;
      machines = machines t;
      vips =
          c.len-4.ensures t;
    }) ∙ ap counts_of c.self.view_is
