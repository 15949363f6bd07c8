use Rattle.board_step.proofs.Basics.{[], ◌∷◌, Ok, sym, subst, Refused, run_on, parts_of, TellsOn}
use Rattle.board_step.proofs.Answered.{told_leads, not_refused, refused_tells}
use Rattle.board_step.proofs.step.step_on.Goals as goal

pub returns-in-Some-clause-does : goal.returns-in-Some-clause-does
returns-in-Some-clause-does g c = λ straight.
    let rig = c.args.rig.now in
    refused_tells (g.R.Rig.published rig) c.args.shape.now c.args.caller c.args.call.now c.in-Some.refusal (sym c.in-Some.ensures) c.args.events.now.items (parts_of (g.R.Rig.held rig)) (g.R.Rig.wishes rig)

pub returns-in-Some-clause-leads : goal.returns-in-Some-clause-leads
returns-in-Some-clause-leads g c = λ straight.
    let rig = c.args.rig.now in
    told_leads c.args.shape.now (g.R.Rig.published rig) (parts_of (g.R.Rig.held rig)) c.args.caller c.args.call.now (g.R.Rig.wishes rig) (Ok (Refused c.in-Some.refusal)) c.args.events.now.items c.args.events.now.items
    (parts_of (g.R.Rig.held rig)) (g.R.Rig.wishes rig) (returns-in-Some-clause-does g c straight)

pub returns-in-None-clause-leads : goal.returns-in-None-clause-leads
returns-in-None-clause-leads g c = λ straight.
    let rig = c.args.rig.now in
    let after = c.call_in_range.new.rig in
    let words = g.R.Rig.published rig in
    let q = parts_of (g.R.Rig.held rig) in
    let now = c.call_in_range.new.events.items in
    told_leads c.args.shape.now words q c.args.caller c.args.call.now (g.R.Rig.wishes rig) c.call_in_range.result c.args.events.now.items now (parts_of (g.R.Rig.held after)) (g.R.Rig.wishes after)
    (subst (λ m. TellsOn (λ reply. reply ∷ []) c.call_in_range.result c.args.events.now.items now (parts_of (g.R.Rig.held after)) (g.R.Rig.wishes after) (run_on m q (g.R.Rig.wishes rig)))
    (not_refused words c.args.shape.now c.args.caller c.args.call.now (sym c.in-None.ensures)) (c.call_in_range.ensures.does straight))
