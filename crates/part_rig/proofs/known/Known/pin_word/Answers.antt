use Rattle.std.proofs.Common.{ap, ◌∙◌}
use Rattle.part_rig.specs.Knowing.{noted_at}
use Rattle.part_rig.proofs.Fitting.{pin_fits}
use Rattle.part_rig.proofs.known.Known.pin_word.Goals as goal

pub returns-clause-fits : goal.returns-clause-fits
returns-clause-fits c =
    let known = c.args.self.now in
    pin_fits (noted_at known) known.pins c.args.pin c.requires c.word.result (c.word.ensures.word ∙ ap (noted_at known) c.index_of_pin.ensures.value)
