use Rattle.board_raise.proofs.Pins.{pic_pins_follow_holds}
use Rattle.board_raise.proofs.pic_pins_follow_holds.Goals as goal

pub returns : goal.returns
returns c = pic_pins_follow_holds
