use Rattle.std.proofs.Common.{ℕ, List, [], ◌∷◌, Ok, Err, Some, None, sym, ap, subst, ◌∙◌}
use Rattle.std.specs.declared.option.Option.{Option}
use Rattle.irq_base.specs.declared.reply.Reply.{Reply}
use Rattle.irq_base.specs.declared.reply.Reply.TheVariants.{Extint}
use Rattle.irq_base.proofs.Room.{told-none}
use Rattle.board_model.specs.Published.{routing_of_words}
use Rattle.board_model.specs.Run.{run_on}
use Rattle.board_raise.specs.InHand.{parts_of}
use Rattle.board_raise.specs.Shown.{StopsAt}
use Rattle.board_raise.proofs.Composing.{stops_first}
use Rattle.board_calls.specs.Accessed.{cycle_answered}
use Rattle.board_calls.specs.Own.{answering}
use Rattle.board_calls.specs.Told.{TellsOn}
use Rattle.board_calls.proofs.Asking.{after_answer, answer_steps}
use Rattle.board_calls.proofs.Composed.{said, does_from}
use Rattle.board_calls.proofs.Telling.{second_tells}
use Rattle.board_calls.proofs.asks.next_interrupt.Goals as goal

pub returns-in-Err-clause-does : goal.returns-in-Err-clause-does
returns-in-Err-clause-does g c = λ straight.
    let rig = c.args.rig.now in
    let shape = c.args.shape.now in
    let routing = routing_of_words (g.R.Rig.published rig) in
    let n = c.args.n in
    let q = parts_of (g.R.Rig.held rig) in
    let ws = g.R.Rig.wishes rig in
    let left = c.answer_own.new.parts in
    let after = g.R.Rig.with_held rig left in
    subst (StopsAt c.in-Err.lacks.part) (answer_steps routing shape n q ws)
    (stops_first (after_answer routing shape) (answering n) q ws c.in-Err.lacks.part
    (does_from {S = Option Reply} (answering n) c.answer_own.result (Err c.in-Err.lacks) (g.R.Rig.held rig) c.parts.result.now left (g.R.Rig.held after) ws (g.R.Rig.wishes after)
    c.in-Err.is c.parts.ensures.value (g.met.R.Rig.held_with rig left) (g.met.R.Rig.wishes_with rig left) (c.answer_own.ensures.does ws)))

pub returns-in-Ok-Some-clause-does : goal.returns-in-Ok-Some-clause-does
returns-in-Ok-Some-clause-does g c = λ straight.
    let rig = c.args.rig.now in
    let shape = c.args.shape.now in
    let routing = routing_of_words (g.R.Rig.published rig) in
    let n = c.args.n in
    let q = parts_of (g.R.Rig.held rig) in
    let ws = g.R.Rig.wishes rig in
    let left = c.answer_own.new.parts in
    let after = g.R.Rig.with_held rig left in
    let r = parts_of (g.R.Rig.held after) in
    let vs = g.R.Rig.wishes after in
    let old = c.args.events.now.items in
    let answer = c.in-Ok-Some.reply in
    subst (TellsOn (λ (reply : Reply). reply ∷ []) (Ok answer) old old r vs) (answer_steps routing shape n q ws)
    (second_tells (answering n) (after_answer routing shape) q ws (λ (reply : Reply). reply ∷ []) (Some answer) r vs
    (does_from {S = Option Reply} (answering n) c.answer_own.result (Ok (Some answer)) (g.R.Rig.held rig) c.parts.result.now left (g.R.Rig.held after) ws vs
    (c.in-Ok-Some.is ∙ ap Ok c.in-Ok-Some.field-0-is) c.parts.ensures.value (g.met.R.Rig.held_with rig left) (g.met.R.Rig.wishes_with rig left) (c.answer_own.ensures.does ws))
    (Ok answer) old old r vs ([], record { ends = said answer r vs; room = sym (told-none old) }))

pub returns-in-Ok-clause-does : goal.returns-in-Ok-clause-does
returns-in-Ok-clause-does g c = λ straight.
    let rig = c.args.rig.now in
    let shape = c.args.shape.now in
    let routing = routing_of_words (g.R.Rig.published rig) in
    let n = c.args.n in
    let q = parts_of (g.R.Rig.held rig) in
    let ws = g.R.Rig.wishes rig in
    let left = c.answer_own.new.parts in
    let mid = g.R.Rig.with_held rig left in
    let r = parts_of (g.R.Rig.held mid) in
    let vs = g.R.Rig.wishes mid in
    let after = c.make_cycle.new.rig in
    let s = parts_of (g.R.Rig.held after) in
    let later = g.R.Rig.wishes after in
    let old = c.args.events.now.items in
    let new = c.make_cycle.new.events.items in
    let vector = c.in-Ok.vector in
    subst (TellsOn (λ (reply : Reply). reply ∷ []) (Ok (Extint vector)) old new s later) (answer_steps routing shape n q ws)
    (second_tells (answering n) (after_answer routing shape) q ws (λ (reply : Reply). reply ∷ []) None r vs
    (does_from {S = Option Reply} (answering n) c.answer_own.result (Ok None) (g.R.Rig.held rig) c.parts.result.now left (g.R.Rig.held mid) ws vs
    (c.in-Ok-None.is ∙ ap Ok c.in-Ok-None.field-0-is) c.parts.ensures.value (g.met.R.Rig.held_with rig left) (g.met.R.Rig.wishes_with rig left) (c.answer_own.ensures.does ws))
    (Ok (Extint vector)) old new s later
    (subst (λ (words : List ℕ). TellsOn {S = ℕ} (λ v. Extint v ∷ []) (Ok vector) old new s later (run_on (cycle_answered (routing_of_words words) shape (λ v. Extint v)) r vs)) (g.met.R.Rig.published_with rig left)
    (c.in-Ok.ensures.does (λ v. Extint v) straight)))

pub returns-in-Err-make_cycle-clause-does : goal.returns-in-Err-make_cycle-clause-does
returns-in-Err-make_cycle-clause-does g c = λ straight.
    let rig = c.args.rig.now in
    let shape = c.args.shape.now in
    let routing = routing_of_words (g.R.Rig.published rig) in
    let n = c.args.n in
    let q = parts_of (g.R.Rig.held rig) in
    let ws = g.R.Rig.wishes rig in
    let left = c.answer_own.new.parts in
    let mid = g.R.Rig.with_held rig left in
    let r = parts_of (g.R.Rig.held mid) in
    let vs = g.R.Rig.wishes mid in
    let after = c.make_cycle.new.rig in
    let s = parts_of (g.R.Rig.held after) in
    let later = g.R.Rig.wishes after in
    let old = c.args.events.now.items in
    let new = c.make_cycle.new.events.items in
    let lacks = c.in-Err-make_cycle.lacks in
    subst (TellsOn (λ (reply : Reply). reply ∷ []) (Err lacks) old new s later) (answer_steps routing shape n q ws)
    (second_tells (answering n) (after_answer routing shape) q ws (λ (reply : Reply). reply ∷ []) None r vs
    (does_from {S = Option Reply} (answering n) c.answer_own.result (Ok None) (g.R.Rig.held rig) c.parts.result.now left (g.R.Rig.held mid) ws vs
    (c.in-Ok-None.is ∙ ap Ok c.in-Ok-None.field-0-is) c.parts.ensures.value (g.met.R.Rig.held_with rig left) (g.met.R.Rig.wishes_with rig left) (c.answer_own.ensures.does ws))
    (Err lacks) old new s later
    (subst (λ (words : List ℕ). TellsOn {S = ℕ} (λ v. Extint v ∷ []) (Err lacks) old new s later (run_on (cycle_answered (routing_of_words words) shape (λ v. Extint v)) r vs)) (g.met.R.Rig.published_with rig left)
    (c.in-Err-make_cycle.ensures.does (λ v. Extint v) straight)))
