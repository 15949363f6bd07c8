use Rattle.std.proofs.Common.{ap, ◌∙◌}
use Rattle.transcript.specs.Reading.{transcript_of}
use Rattle.transcript.proofs.printing.print.Goals as goal

pub returns-in-Ok-clause-read : goal.returns-in-Ok-clause-read
returns-in-Ok-clause-read c = λ first.
    ap (transcript_of first) (c.of.ensures ∙ ap (λ v. v.items) c.into_bytes.ensures.value ∙ c.in-Ok.ensures)
    ∙ c.texts_are_read.ensures first c.args.run.now c.transcripts_fit.ensures
