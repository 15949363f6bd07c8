use Rattle.part_rig.proofs.Blanks.{few_blanks}
use Rattle.part_rig.proofs.known.Known.look.Goals as goal
use Rattle.board_model.specs.declared.width.TheConstants.{WORDS}

pub returns-clause-few : goal.returns-clause-few
returns-clause-few c = λ g. few_blanks c.settle.new.self.places.items WORDS g c.settle.new.self.count
