use Rattle.transcript_summary.proofs.Pieces.{by_pieces}
use Rattle.transcript_summary.proofs.laws.counts_by_pieces.Goals as goal

pub returns : goal.returns
returns c = by_pieces
