use Rattle.std.proofs.Common.{Bool, true, false, List, ℕ, Ok, Err, sym, ap, subst, ◌∙◌, [], ◌∷◌}
use Rattle.std.specs.Prelude.{Result}
use Rattle.irq_base.specs.declared.refusal.Refusal.{Refusal}
use Rattle.irq_base.specs.declared.reply.Reply.TheVariants.{Done, Refused}
use Rattle.board_model.specs.Plan.{reply}
use Rattle.board_model.specs.Published.{routing_of_words}
use Rattle.board_model.specs.Run.{run_on}
use Rattle.board_raise.specs.InHand.{parts_of}
use Rattle.board_raise.specs.Shown.{StopsAt}
use Rattle.board_raise.proofs.Composing.{stops_first}
use Rattle.board_calls.specs.Registrations.{inject_count, assign}
use Rattle.board_calls.specs.Pieces.{adding}
use Rattle.board_calls.specs.Told.{TellsOn}
use Rattle.board_calls.proofs.Composed.{said, does_from, told_then_said, second_ends, second_lacks, first_lacks}
use Rattle.irq_base.proofs.Room.{told-none}
use Rattle.board_calls.proofs.Steps.{after_addition, assign_steps}
use Rattle.board_calls.proofs.irqfds.assign.Goals as goal

pub returns-in-Err-clause-does : goal.returns-in-Err-clause-does
returns-in-Err-clause-does g c = λ straight.
    let rig = c.args.rig.now in
    let shape = c.args.shape.now in
    let routing = routing_of_words (g.R.Rig.published rig) in
    let first = adding c.args.trigger c.args.gsi c.args.resample in
    let next = after_addition routing shape c.args.gsi c.args.resample in
    let whole = assign routing shape c.args.trigger c.args.gsi c.args.resample in
    let steps = assign_steps routing shape c.args.trigger c.args.gsi c.args.resample in
    let q = parts_of (g.R.Rig.held rig) in
    let ws = g.R.Rig.wishes rig in
    let left = c.add.new.parts in
    let after = g.R.Rig.with_held rig left in
    let r = parts_of (g.R.Rig.held after) in
    let vs = g.R.Rig.wishes after in
    first_lacks first next whole steps q ws c.in-Err.lacks.part
    (does_from {S = Result Bool Refusal} first c.add.result (Err c.in-Err.lacks) (g.R.Rig.held rig) c.parts.result.now left (g.R.Rig.held after) ws vs
    (c.in-Err.is) c.parts.ensures.value (g.met.R.Rig.held_with rig left) (g.met.R.Rig.wishes_with rig left) (c.add.ensures.does ws))

pub returns-in-Ok-Err-clause-does : goal.returns-in-Ok-Err-clause-does
returns-in-Ok-Err-clause-does g c = λ straight.
    let rig = c.args.rig.now in
    let shape = c.args.shape.now in
    let routing = routing_of_words (g.R.Rig.published rig) in
    let first = adding c.args.trigger c.args.gsi c.args.resample in
    let next = after_addition routing shape c.args.gsi c.args.resample in
    let whole = assign routing shape c.args.trigger c.args.gsi c.args.resample in
    let steps = assign_steps routing shape c.args.trigger c.args.gsi c.args.resample in
    let q = parts_of (g.R.Rig.held rig) in
    let ws = g.R.Rig.wishes rig in
    let left = c.add.new.parts in
    let after = g.R.Rig.with_held rig left in
    let r = parts_of (g.R.Rig.held after) in
    let vs = g.R.Rig.wishes after in
    let added = (does_from {S = Result Bool Refusal} first c.add.result (Ok (Err c.in-Ok-Err.refusal)) (g.R.Rig.held rig) c.parts.result.now left (g.R.Rig.held after) ws vs
    (c.in-Ok-Err.is ∙ ap Ok c.in-Ok-Err.field-0-is) c.parts.ensures.value (g.met.R.Rig.held_with rig left) (g.met.R.Rig.wishes_with rig left) (c.add.ensures.does ws)) in (
      [],
      record {
        ends = second_ends first next whole steps q ws (Err c.in-Ok-Err.refusal) r vs added [] (Refused c.in-Ok-Err.refusal ∷ []) r vs (said (Refused c.in-Ok-Err.refusal) r vs);
        room = sym (told-none c.args.events.now.items);
      },
    )

pub returns-in-Ok-Ok-false-clause-does : goal.returns-in-Ok-Ok-false-clause-does
returns-in-Ok-Ok-false-clause-does g c = λ straight.
    let rig = c.args.rig.now in
    let shape = c.args.shape.now in
    let routing = routing_of_words (g.R.Rig.published rig) in
    let first = adding c.args.trigger c.args.gsi c.args.resample in
    let next = after_addition routing shape c.args.gsi c.args.resample in
    let whole = assign routing shape c.args.trigger c.args.gsi c.args.resample in
    let steps = assign_steps routing shape c.args.trigger c.args.gsi c.args.resample in
    let q = parts_of (g.R.Rig.held rig) in
    let ws = g.R.Rig.wishes rig in
    let left = c.add.new.parts in
    let after = g.R.Rig.with_held rig left in
    let r = parts_of (g.R.Rig.held after) in
    let vs = g.R.Rig.wishes after in
    let added = (does_from {S = Result Bool Refusal} first c.add.result (Ok (Ok false)) (g.R.Rig.held rig) c.parts.result.now left (g.R.Rig.held after) ws vs
    (c.in-Ok-Ok-false.is ∙ ap Ok c.in-Ok-Ok-false.field-0-is ∙ ap (λ b. Ok (Ok b)) c.in-Ok-Ok-false.field-0-0-test) c.parts.ensures.value (g.met.R.Rig.held_with rig left) (g.met.R.Rig.wishes_with rig left) (c.add.ensures.does ws)) in (
      [],
      record {
        ends = second_ends first next whole steps q ws (Ok false) r vs added [] (Done ∷ []) r vs (said Done r vs);
        room = sym (told-none c.args.events.now.items);
      },
    )

pub returns-in-Ok-clause-does : goal.returns-in-Ok-clause-does
returns-in-Ok-clause-does g c = λ straight.
    let rig = c.args.rig.now in
    let shape = c.args.shape.now in
    let routing = routing_of_words (g.R.Rig.published rig) in
    let first = adding c.args.trigger c.args.gsi c.args.resample in
    let next = after_addition routing shape c.args.gsi c.args.resample in
    let whole = assign routing shape c.args.trigger c.args.gsi c.args.resample in
    let steps = assign_steps routing shape c.args.trigger c.args.gsi c.args.resample in
    let q = parts_of (g.R.Rig.held rig) in
    let ws = g.R.Rig.wishes rig in
    let left = c.add.new.parts in
    let after = g.R.Rig.with_held rig left in
    let r = parts_of (g.R.Rig.held after) in
    let vs = g.R.Rig.wishes after in
    let s = parts_of (g.R.Rig.held c.inject_count.new.rig) in
    let later = g.R.Rig.wishes c.inject_count.new.rig in
    let added = (does_from {S = Result Bool Refusal} first c.add.result (Ok (Ok true)) (g.R.Rig.held rig) c.parts.result.now left (g.R.Rig.held after) ws vs
    (c.in-Ok-Ok-true.is ∙ ap Ok c.in-Ok-Ok-true.field-0-is ∙ ap (λ b. Ok (Ok b)) c.in-Ok-Ok-true.field-0-0-test) c.parts.ensures.value (g.met.R.Rig.held_with rig left) (g.met.R.Rig.wishes_with rig left) (c.add.ensures.does ws)) in
    let done =
    subst (λ (words : List ℕ). TellsOn {S = Unit {0}} (λ _. []) (Ok tt) c.args.events.now.items c.inject_count.new.events.items s later (run_on (inject_count (routing_of_words words) shape c.args.gsi c.args.resample true) r vs))
    (g.met.R.Rig.published_with rig left) (c.in-Ok.ensures.does straight)
    in (
      done.0,
      record {
        ends = second_ends first next whole steps q ws (Ok true) r vs added done.0 (Done ∷ []) s later (told_then_said (inject_count routing shape c.args.gsi c.args.resample true) Done r vs done.0 s later done.1.ends);
        room = done.1.room;
      },
    )

pub returns-in-Err-inject_count-clause-does : goal.returns-in-Err-inject_count-clause-does
returns-in-Err-inject_count-clause-does g c = λ straight.
    let rig = c.args.rig.now in
    let shape = c.args.shape.now in
    let routing = routing_of_words (g.R.Rig.published rig) in
    let first = adding c.args.trigger c.args.gsi c.args.resample in
    let next = after_addition routing shape c.args.gsi c.args.resample in
    let whole = assign routing shape c.args.trigger c.args.gsi c.args.resample in
    let steps = assign_steps routing shape c.args.trigger c.args.gsi c.args.resample in
    let q = parts_of (g.R.Rig.held rig) in
    let ws = g.R.Rig.wishes rig in
    let left = c.add.new.parts in
    let after = g.R.Rig.with_held rig left in
    let r = parts_of (g.R.Rig.held after) in
    let vs = g.R.Rig.wishes after in
    let added = (does_from {S = Result Bool Refusal} first c.add.result (Ok (Ok true)) (g.R.Rig.held rig) c.parts.result.now left (g.R.Rig.held after) ws vs
    (c.in-Ok-Ok-true.is ∙ ap Ok c.in-Ok-Ok-true.field-0-is ∙ ap (λ b. Ok (Ok b)) c.in-Ok-Ok-true.field-0-0-test) c.parts.ensures.value (g.met.R.Rig.held_with rig left) (g.met.R.Rig.wishes_with rig left) (c.add.ensures.does ws)) in
    second_lacks first next whole steps q ws (Ok true) r vs added c.in-Err-inject_count.lacks.part
    (stops_first (λ _. reply Done) (inject_count routing shape c.args.gsi c.args.resample true) r vs c.in-Err-inject_count.lacks.part
    (subst (λ (words : List ℕ). StopsAt c.in-Err-inject_count.lacks.part (run_on (inject_count (routing_of_words words) shape c.args.gsi c.args.resample true) r vs)) (g.met.R.Rig.published_with rig left) (c.in-Err-inject_count.ensures.does straight)))
