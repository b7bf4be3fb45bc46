-- In every world the replicas agree.
use Rattle.std.proofs.Common.{refl}
use Rattle.paxos_laws.proofs.Named as laws
use Rattle.world_spec.specs.Events.{world}
use Rattle.world_laws.specs.Seen.{view}
use Rattle.world_laws.proofs.InWorld.{in_order}
use Rattle.world_laws.proofs.Books.{books_agree, log_short}
use Rattle.world_laws.proofs.laws.agreement.Goals as goal

pub returns-clause-order : goal.returns-clause-order
returns-clause-order c = in_order

pub returns-clause-claims : goal.returns-clause-claims
returns-clause-claims c =
    λ cfg sound bs named. laws.claims (view (world cfg bs)) (in_order cfg sound bs named).inv

pub returns-clause-books : goal.returns-clause-books
returns-clause-books c = λ cfg sound bs named. books_agree cfg (world cfg bs) (in_order cfg sound bs named)

pub returns-clause-short : goal.returns-clause-short
returns-clause-short c =
    λ cfg sound bs named. log_short cfg sound (world cfg bs) (record { events = bs; named = named; is = refl })
