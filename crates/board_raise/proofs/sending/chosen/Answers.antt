use Rattle.std.proofs.Common.{sym, ap, ◌∙◌}
use Rattle.board_raise.specs.Named.{is_lowest, lowest_of, numbers_of}
use Rattle.board_raise.proofs.Preferred.{ascends_filtered, chosen_lowest}
use Rattle.board_raise.proofs.sending.chosen.Goals as goal

pub returns-then-goes_to_lowest : goal.returns-then-goes_to_lowest
returns-then-goes_to_lowest c = λ ps up all lowest.
    c.preferred.ensures (lowest_of ps) (ascends_filtered (is_lowest ps) ps up) lowest ∙ ap numbers_of (sym (chosen_lowest c.args.mode c.args.wish.now ps (sym c.goes_to_lowest.ensures ∙ c.if-goes_to_lowest.true)))
