use Rattle.part_rig.proofs.Lent.{lent_comes_home}
use Rattle.part_rig.proofs.lending.lent_comes_home.Goals as goal

pub returns : goal.returns
returns c = lent_comes_home
