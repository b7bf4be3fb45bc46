use Rattle.std.proofs.Common.{rules, ◌≡◌, ◌∙◌, ◌++◌, ◌∷◌, [], ap, arith, Bool, List}
use Rattle.agent_ports.specs.Ports.{is_spare}
use Rattle.agent_ports.proofs.Giving.{map_all, map_more, one_flag_more}
use Rattle.agent_ports.proofs.flags.spare_flags.Goals as goal

pub loop-h-preserved : goal.loop-h-preserved
loop-h-preserved g c =
    let items : c.push.new.self.items ≡ c.loop-h.flags.items ++ c.is_spare.result ∷ [] = search rules in
    record {
      len = one_flag_more c.loop-h.flags.items _ c.loop-h.h-index c.is_spare.result c.loop-h.invariant.len items;
      flags = λ test says.
          items
          ∙ ap (λ (l : List Bool). l ++ c.is_spare.result ∷ []) (c.loop-h.invariant.flags test says)
          ∙ map_more (is_spare test c.args.now c.args.idle) c.args.held.now c.loop-h.h-index _ c.is_spare.result
          c.loop-h-test.true
          (c.is_spare.ensures test says);
    }

pub returns-clause-flags : goal.returns-clause-flags
returns-clause-flags g c = λ test says.
    c.loop-h.invariant.flags test says
    ∙ map_all (is_spare test c.args.now c.args.idle) c.args.held.now c.loop-h.h-index
    (omega (arith, c.loop-h-test.false))
