use Rattle.std.proofs.Common.{Ok, sym, ◌∙◌, subst, ap, ◌≡◌}
use Rattle.script_text.specs.Scripts.{script_of}
use Rattle.transcript.specs.Reading.{transcript_of}
use Rattle.irqboard.specs.Parting.{script_part, transcript_part, transcript_line}
use Rattle.irqboard.specs.Works.{Works}
use Rattle.irqboard.specs.declared.command.Command.TheVariants.{Check}
use Rattle.irqboard.proofs.Together.{check_done}
use Rattle.irqboard.proofs.work.checked.Goals as goal

pub returns-in-Ok-line_of-clause-done : goal.returns-in-Ok-line_of-clause-done
returns-in-Ok-line_of-clause-done c =
    let input = c.args.input.now in
    let at = c.parted-line.ensures in
    let script : script_of (script_part input) ≡ Ok c.in-Ok.script = ap script_of (sym at.script) ∙ c.in-Ok.ensures.read in
    let transcript : transcript_of (transcript_line input) (transcript_part input) ≡ Ok c.in-Ok-read.run' =
    (λ i. transcript_of (sym at.line i) (sym at.transcript i)) ∙ c.in-Ok-read.ensures.read in
    let done =
    check_done input c.in-Ok.script c.in-Ok-read.run' c.in-Ok-check.verdict c.in-Ok-line_of.text script transcript
    c.in-Ok-check.ensures.verdict c.in-Ok-check.ensures.laws c.in-Ok-line_of.ensures
    in
    subst (λ o. Works Check input o c.in-Ok-line_of.text) (sym c.answer_of_check.ensures) done
