use Rattle.std.proofs.Common.{arith}
use Rattle.std.proofs.lemmas.List.{drop_all}
use Rattle.board_raise.proofs.wish_list.WishList.clear.Goals as goal

pub returns : goal.returns
returns c = drop_all 561 c.self.inside.sets (omega (c.self.invariant.0, arith))
