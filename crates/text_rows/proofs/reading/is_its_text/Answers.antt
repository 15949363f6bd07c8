use Rattle.text_rows.proofs.reading.is_its_text.Goals as goal

pub returns : goal.returns
returns c = λ first. c.texts_are_read.ensures first c.args.run.now c.transcripts_fit.ensures
