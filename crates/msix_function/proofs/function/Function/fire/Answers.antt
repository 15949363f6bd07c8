use Rattle.std.proofs.Common.{refl}
use Rattle.msix_function.specs.Balance.{one_if}
use Rattle.msix_function.specs.Operations.{call_of, can_send}
use Rattle.msix_function.specs.Functions.{message_at}
use Rattle.msix_function.proofs.Sends.{fire_sent, fire_barred, can_now}
use Rattle.msix_function.proofs.function.Function.fire.Goals as goal

pub returns-in-Ok : goal.returns-in-Ok
returns-in-Ok g c =
    let f = c.args.self.now in
    let k = c.args.k in
    record {
      fires = fire_sent g.F.Face f k c.args.face.now c.send.new.face (call_of (message_at f k)) c.args.events.now.items c.send.new.events.items c.in-Ok.done
          (can_now f k c.if-not-self.false c.if-pending.ensures.value c.if-is_held.ensures) refl (one_if (can_send f k)) c.in-Ok.ensures;
    }

pub returns-in-Err : goal.returns-in-Err
returns-in-Err g c =
    let f = c.args.self.now in
    let k = c.args.k in
    record {
      fires = fire_barred g.F.Face f c.pend-in-Err.new.self k c.args.face.now c.send.new.face (call_of (message_at f k)) c.args.events.now.items
          c.send.new.events.items c.in-Err.spent (can_now f k c.if-not-self.false c.if-pending.ensures.value c.if-is_held.ensures) refl
          c.pend-in-Err.ensures c.in-Err.ensures;
    }
