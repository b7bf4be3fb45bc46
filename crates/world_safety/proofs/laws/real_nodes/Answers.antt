-- A world of real nodes is as safe as the one by the tables.
use Rattle.world_nodes.specs.Sites.{deciding}
use Rattle.world_safety.proofs.RealNodes.{played_safe, stands_safe}
use Rattle.world_safety.proofs.laws.real_nodes.Goals as goal

pub returns-clause-played : goal.returns-clause-played
returns-clause-played g c = λ cfg sound core see sees follows events honest.
    played_safe core see sees cfg sound (deciding g.C.Core.step g.C.Core.written) g.C.Core.opened follows events honest

pub returns-clause-stands : goal.returns-clause-stands
returns-clause-stands g c = λ cfg core see sees v w stands safe. stands_safe core see sees cfg v w stands safe
