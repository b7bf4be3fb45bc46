-- What a run shows of the managers is what the log did.
use Rattle.std.proofs.Common.{refl, sym, subst, List}
use Rattle.wire_core.specs.declared.act.Act.{Act}
use Rattle.world_spec.specs.Events.{expand, world}
use Rattle.world_spec.specs.World.{World}
use Rattle.world_spec.specs.Transcript.{acts_in, transcript}
use Rattle.world_spec.proofs.Settles.{end_is_world}
use Rattle.world_laws.specs.Acts.{ActsAreOfLog}
use Rattle.world_laws.proofs.LogActs.{acts_of_log, event_shows}
use Rattle.world_laws.proofs.TranscriptActs.{transcript_shows}
use Rattle.world_laws.proofs.laws.acts.Goals as goal

pub returns-clause-event : goal.returns-clause-event
returns-clause-event c =
    λ cfg sound bs named b is.
    event_shows cfg sound (world cfg bs) b (record { events = bs; named = named; is = refl }) is

pub returns-clause-run : goal.returns-clause-run
returns-clause-run c = acts_of_log

pub returns-clause-transcript : goal.returns-clause-transcript
returns-clause-transcript c =
    λ cfg sound es named.
    subst (λ (w : World). ActsAreOfLog cfg w (acts_in (transcript cfg es))) (sym (end_is_world cfg es))
    (subst (λ (acts : List Act). ActsAreOfLog cfg (world cfg (expand cfg es)) acts) (sym (transcript_shows cfg es))
    (acts_of_log cfg sound (expand cfg es) named))
