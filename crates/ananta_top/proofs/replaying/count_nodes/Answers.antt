use Rattle.ananta_top.proofs.Schedules.{counted_room, counting_stops, counts_on, safe_on}
use Rattle.ananta_top.proofs.replaying.count_nodes.Goals as goal

pub returns-clause-counts : goal.returns-clause-counts
returns-clause-counts c =
    counts_on c.args.text.now c.count_transcript.result c.requires.plain c.count_transcript.ensures.answer

pub returns-clause-room : goal.returns-clause-room
returns-clause-room c =
    counted_room c.args.text.now c.count_transcript.result c.requires.plain c.count_transcript.ensures.answer

pub returns-clause-stops : goal.returns-clause-stops
returns-clause-stops c =
    counting_stops c.args.text.now c.count_transcript.result c.requires.plain c.count_transcript.ensures.answer

pub returns-clause-safe : goal.returns-clause-safe
returns-clause-safe c =
    safe_on c.args.text.now c.count_transcript.result c.requires.plain c.count_transcript.ensures.safe
