use Rattle.std.proofs.Common.{◌≡◌, ◌+◌, true, refl, sym, ◌∙◌, subst}
use Rattle.std.proofs.lemmas.Result.{err_from_is_err_and}
use Rattle.msix_function.specs.Functions.{message_at, is_due}
use Rattle.msix_function.specs.Operations.{call_of}
use Rattle.msix_function.specs.declared.function.Function.{Function}
use Rattle.msix_function.proofs.Sends.{SentBelow, not_sent, next_sent, next_barred}
use Rattle.msix_function.proofs.function.Function.send_due.Goals as goal

pub returns-in_err-send : goal.returns-in_err-send
returns-in_err-send g c =
    let p = err_from_is_err_and c.from_residual.result c.from_residual.ensures.1 in
    let now = c.loop-k.self in
    let due : is_due now c.loop-k.k ≡ true = sym c.is_due.ensures ∙ c.if-not-is_due.false in
    rw (p.1, p.2) (next_barred g.F.Face c.args.self.now c.args.face.now c.loop-k.k c.loop-k.sent c.loop-k.face now c.args.events.now.items c.loop-k.events.items c.loop-k.invariant
    c.send.new.face (call_of (message_at now c.loop-k.k)) c.send.new.events.items due refl c.in_err-send.field-0.0 c.loop-k-test.true c.in_err-send.ensures)

pub loop-k-preserved : goal.loop-k-preserved
loop-k-preserved g c =
    let now = c.loop-k.self in
    let due : is_due now c.loop-k.k ≡ true = sym c.is_due.ensures ∙ c.if-not-is_due.false in
    subst (λ (f : Function g.row.N). SentBelow g.F.Face c.args.self.now c.args.face.now (c.loop-k.k + 1) (c.loop-k.sent + 1) c.send.new.face f c.args.events.now.items c.send.new.events.items) (sym c.clear.ensures)
    (next_sent g.F.Face c.args.self.now c.args.face.now c.loop-k.k c.loop-k.sent c.loop-k.face now c.args.events.now.items c.loop-k.events.items c.loop-k.invariant
    c.send.new.face (call_of (message_at now c.loop-k.k)) c.send.new.events.items due refl c.in_ok-send.field-0 c.in_ok-send.ensures)

pub loop-k-preserved-then-not-is_due : goal.loop-k-preserved-then-not-is_due
loop-k-preserved-then-not-is_due g c =
    not_sent g.F.Face c.args.self.now c.args.face.now c.loop-k.k c.loop-k.sent c.loop-k.face c.loop-k.self c.args.events.now.items c.loop-k.events.items c.loop-k.invariant
    (sym c.is_due.ensures ∙ c.if-not-is_due.true)
