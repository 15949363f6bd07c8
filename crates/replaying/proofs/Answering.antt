-- One call that the board answered.
use Rattle.std.proofs.Common.{◌≡◌, ℕ, true}
use Rattle.irq_base.specs.Callers.{is_allowed}
use Rattle.irq_base.specs.declared.call.Call.{Call}
use Rattle.irq_base.specs.declared.call.Call.TheVariants.{Ack, Eoi, PortOut}
use Rattle.irq_base.specs.declared.call.Caller.{Caller}
use Rattle.irq_base.specs.declared.call.Caller.TheVariants.{Device, Cpu}
use Rattle.irq_base.specs.declared.lists.Entry.{Entry}
use Rattle.irq_base.specs.declared.shape.Shape.{Shape}
use Rattle.board_model.specs.Board.{Board}
use Rattle.board_step.specs.Applied.{UnwishedStep}
use Rattle.board_step.proofs.Publishing.{steps_keep_the_frame}

-- the shape stays
pub step_shape : (b : Board) (e : Entry) (c : Board) → UnwishedStep b e c → c.shape ≡ b.shape
step_shape b e c (step, unwished) = (steps_keep_the_frame b e c step).shape

-- a caller that may ask for its interrupt may end it
pub eoi_allowed : (who : Caller) (shape : Shape) → is_allowed who Ack shape ≡ true → is_allowed who Eoi shape ≡ true
eoi_allowed (Device d) shape may = may
eoi_allowed (Cpu n) shape may = may

pub end_allowed : (who : Caller) (port : ℕ) (shape : Shape) → is_allowed who Ack shape ≡ true → is_allowed who (PortOut port 1 0x20) shape ≡ true
end_allowed (Device d) port shape may = may
end_allowed (Cpu n) port shape may = may
