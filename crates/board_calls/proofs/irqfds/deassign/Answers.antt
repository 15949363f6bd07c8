use Rattle.std.proofs.Common.{Bool, true, false, List, ℕ, Ok, Err, Some, None, ap, subst, ◌∙◌, [], ◌∷◌}
use Rattle.std.specs.declared.option.Option.{Option}
use Rattle.irq_base.specs.declared.reply.Reply.TheVariants.{Removed}
use Rattle.board_model.specs.Plan.{reply}
use Rattle.board_model.specs.Published.{routing_of_words}
use Rattle.board_model.specs.Run.{run_on}
use Rattle.board_raise.specs.InHand.{parts_of}
use Rattle.board_raise.specs.Shown.{EndsWith, StopsAt}
use Rattle.board_raise.proofs.Composing.{then_ends, stops_first}
use Rattle.board_calls.specs.Registrations.{release, deassign}
use Rattle.board_calls.specs.Pieces.{removing}
use Rattle.board_calls.proofs.Composed.{said, does_from, second_replies, second_lacks, first_lacks}
use Rattle.board_calls.proofs.Steps.{after_removal, deassign_steps}
use Rattle.board_calls.proofs.irqfds.deassign.Goals as goal

pub returns-in-Err-clause-does : goal.returns-in-Err-clause-does
returns-in-Err-clause-does g c = λ straight.
    let rig = c.args.rig.now in
    let routing = routing_of_words (g.R.Rig.published rig) in
    let left = c.remove.new.parts in
    let after = g.R.Rig.with_held rig left in
    first_lacks (removing c.args.trigger c.args.gsi) (after_removal routing c.args.gsi) (deassign routing c.args.trigger c.args.gsi) (deassign_steps routing c.args.trigger c.args.gsi) (parts_of (g.R.Rig.held rig)) (g.R.Rig.wishes rig) c.in-Err.lacks.part
    (does_from {S = Option Bool} (removing c.args.trigger c.args.gsi) c.remove.result (Err c.in-Err.lacks) (g.R.Rig.held rig) c.parts.result.now left (g.R.Rig.held after) (g.R.Rig.wishes rig) (g.R.Rig.wishes after)
    c.in-Err.is c.parts.ensures.value (g.met.R.Rig.held_with rig left) (g.met.R.Rig.wishes_with rig left) (c.remove.ensures.does (g.R.Rig.wishes rig)))

pub returns-in-Ok-None-clause-does : goal.returns-in-Ok-None-clause-does
returns-in-Ok-None-clause-does g c = λ straight.
    let rig = c.args.rig.now in
    let routing = routing_of_words (g.R.Rig.published rig) in
    let left = c.remove.new.parts in
    let after = g.R.Rig.with_held rig left in
    let r = parts_of (g.R.Rig.held after) in
    let vs = g.R.Rig.wishes after in
    second_replies (removing c.args.trigger c.args.gsi) (after_removal routing c.args.gsi) (deassign routing c.args.trigger c.args.gsi) (deassign_steps routing c.args.trigger c.args.gsi) (parts_of (g.R.Rig.held rig)) (g.R.Rig.wishes rig) None r vs
    (does_from {S = Option Bool} (removing c.args.trigger c.args.gsi) c.remove.result (Ok None) (g.R.Rig.held rig) c.parts.result.now left (g.R.Rig.held after) (g.R.Rig.wishes rig) vs
    (c.in-Ok-None.is ∙ ap Ok c.in-Ok-None.field-0-is) c.parts.ensures.value (g.met.R.Rig.held_with rig left) (g.met.R.Rig.wishes_with rig left) (c.remove.ensures.does (g.R.Rig.wishes rig)))
    (Removed 0) r vs (said (Removed 0) r vs)

pub returns-in-Ok-Some-false-clause-does : goal.returns-in-Ok-Some-false-clause-does
returns-in-Ok-Some-false-clause-does g c = λ straight.
    let rig = c.args.rig.now in
    let routing = routing_of_words (g.R.Rig.published rig) in
    let left = c.remove.new.parts in
    let after = g.R.Rig.with_held rig left in
    let r = parts_of (g.R.Rig.held after) in
    let vs = g.R.Rig.wishes after in
    second_replies (removing c.args.trigger c.args.gsi) (after_removal routing c.args.gsi) (deassign routing c.args.trigger c.args.gsi) (deassign_steps routing c.args.trigger c.args.gsi) (parts_of (g.R.Rig.held rig)) (g.R.Rig.wishes rig) (Some false) r vs
    (does_from {S = Option Bool} (removing c.args.trigger c.args.gsi) c.remove.result (Ok (Some false)) (g.R.Rig.held rig) c.parts.result.now left (g.R.Rig.held after) (g.R.Rig.wishes rig) vs
    (c.in-Ok-Some-false.is ∙ ap Ok c.in-Ok-Some-false.field-0-is ∙ ap (λ b. Ok (Some b)) c.in-Ok-Some-false.field-0-0-test) c.parts.ensures.value (g.met.R.Rig.held_with rig left) (g.met.R.Rig.wishes_with rig left) (c.remove.ensures.does (g.R.Rig.wishes rig)))
    (Removed 1) r vs (said (Removed 1) r vs)

pub returns-in-Ok-clause-does : goal.returns-in-Ok-clause-does
returns-in-Ok-clause-does g c = λ straight.
    let rig = c.args.rig.now in
    let routing = routing_of_words (g.R.Rig.published rig) in
    let left = c.remove.new.parts in
    let after = g.R.Rig.with_held rig left in
    let r = parts_of (g.R.Rig.held after) in
    let vs = g.R.Rig.wishes after in
    let s = parts_of (g.R.Rig.held c.release.new.rig) in
    let later = g.R.Rig.wishes c.release.new.rig in
    second_replies (removing c.args.trigger c.args.gsi) (after_removal routing c.args.gsi) (deassign routing c.args.trigger c.args.gsi) (deassign_steps routing c.args.trigger c.args.gsi) (parts_of (g.R.Rig.held rig)) (g.R.Rig.wishes rig) (Some true) r vs
    (does_from {S = Option Bool} (removing c.args.trigger c.args.gsi) c.remove.result (Ok (Some true)) (g.R.Rig.held rig) c.parts.result.now left (g.R.Rig.held after) (g.R.Rig.wishes rig) vs
    (c.in-Ok-Some-true.is ∙ ap Ok c.in-Ok-Some-true.field-0-is ∙ ap (λ b. Ok (Some b)) c.in-Ok-Some-true.field-0-0-test) c.parts.ensures.value (g.met.R.Rig.held_with rig left) (g.met.R.Rig.wishes_with rig left) (c.remove.ensures.does (g.R.Rig.wishes rig)))
    (Removed 1) s later
    (then_ends (λ _. reply (Removed 1)) (release routing c.args.gsi true) r vs tt [] [] s later tt [] (Removed 1 ∷ []) s later
    (subst (λ (words : List ℕ). EndsWith tt [] [] s later (run_on (release (routing_of_words words) c.args.gsi true) r vs)) (g.met.R.Rig.published_with rig left) (c.in-Ok.ensures.does straight))
    (said (Removed 1) s later))

pub returns-in-Err-release-clause-does : goal.returns-in-Err-release-clause-does
returns-in-Err-release-clause-does g c = λ straight.
    let rig = c.args.rig.now in
    let routing = routing_of_words (g.R.Rig.published rig) in
    let left = c.remove.new.parts in
    let after = g.R.Rig.with_held rig left in
    let r = parts_of (g.R.Rig.held after) in
    let vs = g.R.Rig.wishes after in
    second_lacks (removing c.args.trigger c.args.gsi) (after_removal routing c.args.gsi) (deassign routing c.args.trigger c.args.gsi) (deassign_steps routing c.args.trigger c.args.gsi) (parts_of (g.R.Rig.held rig)) (g.R.Rig.wishes rig) (Some true) r vs
    (does_from {S = Option Bool} (removing c.args.trigger c.args.gsi) c.remove.result (Ok (Some true)) (g.R.Rig.held rig) c.parts.result.now left (g.R.Rig.held after) (g.R.Rig.wishes rig) vs
    (c.in-Ok-Some-true.is ∙ ap Ok c.in-Ok-Some-true.field-0-is ∙ ap (λ b. Ok (Some b)) c.in-Ok-Some-true.field-0-0-test) c.parts.ensures.value (g.met.R.Rig.held_with rig left) (g.met.R.Rig.wishes_with rig left) (c.remove.ensures.does (g.R.Rig.wishes rig)))
    c.in-Err-release.lacks.part
    (stops_first (λ _. reply (Removed 1)) (release routing c.args.gsi true) r vs c.in-Err-release.lacks.part
    (subst (λ (words : List ℕ). StopsAt c.in-Err-release.lacks.part (run_on (release (routing_of_words words) c.args.gsi true) r vs)) (g.met.R.Rig.published_with rig left) (c.in-Err-release.ensures.does straight)))
