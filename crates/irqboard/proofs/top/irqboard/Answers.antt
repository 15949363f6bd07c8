use Rattle.irqboard.specs.Making.{IsMade}
use Rattle.std.proofs.Common.{◌≡◌, Some}
use Rattle.irqboard.specs.Commands.{command_of}
use Rattle.irqboard.specs.declared.command.Command.TheVariants.{Run}
use Rattle.irqboard.proofs.Lives.{with_command}
use Rattle.irqboard.proofs.Unread.{unread}
use Rattle.irqboard.proofs.top.irqboard.Goals as goal

pub returns-in-Some-clause-length : goal.returns-in-Some-clause-length
returns-in-Some-clause-length g c =
    unread (IsMade c.in-Some.making) (g.S.Source.left c.args.source.now) (g.K.Sink.holds c.args.sink.now) (g.K.Sink.holds c.make_text.new.sink) c.make_text.result c.make_text.ensures.output

pub returns-in-Some-Run-clause-complete : goal.returns-in-Some-Run-clause-complete
returns-in-Some-Run-clause-complete g c =
    let words_are = c.in-Some-Run.ensures in
    let run_is = c.in-Some-Run.field-0-is in
    let is : command_of c.args.words.now ≡ Some Run = cc in
    with_command _ _ Run is c.run_text.ensures.complete
