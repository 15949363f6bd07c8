use Rattle.std.proofs.Common.{Ok, Err, refl, sym, ap, subst, ◌∙◌, [], is_some}
use Rattle.irq_base.specs.declared.message.Source.TheVariants.{Tick as TickSource}
use Rattle.irq_base.specs.declared.message.Targets.{Targets}
use Rattle.irq_base.specs.declared.reply.Reply.TheVariants.{Signal}
use Rattle.irq_base.specs.declared.shape.Part.TheVariants.{Tick}
use Rattle.irq_base.specs.declared.status.Status.{Status}
use Rattle.tick_reinject.specs.declared.state.TickState.{TickState}
use Rattle.tick_reinject.specs.Ticks.{tick_injected}
use Rattle.board_model.specs.Hand.{part_in}
use Rattle.board_model.specs.Plan.{the_reply, change}
use Rattle.board_model.specs.Published.{routing_of_words}
use Rattle.board_model.specs.Run.{run_on}
use Rattle.board_raise.specs.declared.parts.Parts as code
use Rattle.board_raise.specs.InHand.{parts_of}
use Rattle.board_raise.specs.Shown.{in_reply, without_sets, EndsWith, StopsAt}
use Rattle.board_raise.specs.Signal.{inject}
use Rattle.board_raise.proofs.Composing.{does_on}
use Rattle.board_calls.specs.Done.{FitsButTick}
use Rattle.board_calls.proofs.Composed.{replied_then, replied_lacks, lacks_at_once}
use Rattle.board_calls.proofs.Fitting.{but_tick_signalled}
use Rattle.board_calls.proofs.Steps.{noted_alike}
use Rattle.board_calls.proofs.ticks.inject_tick.Goals as goal

pub returns-in-Err-clause-does : goal.returns-in-Err-clause-does
returns-in-Err-clause-does g c = λ straight.
    let asked = c.targets-targets.ensures in
    lacks_at_once (λ (t : Targets). inject c.args.shape.now.cpus t TickSource (λ pic. the_reply pic)) (λ (status : Status). change Tick (λ tick. tick_injected tick status))
    c.targets-targets.result ((routing_of_words (g.R.Rig.published c.args.rig.now)).targets c.args.shape.now.tick)
    (parts_of (g.R.Rig.held c.targets-targets.new.self)) (parts_of (g.R.Rig.held c.args.rig.now)) (g.R.Rig.wishes c.targets-targets.new.self) (g.R.Rig.wishes c.args.rig.now)
    (asked.told (sym c.in-Err.ensures.strays ∙ straight)) (ap parts_of asked.kept) asked.wishes
    c.in-Err.lacks.part (c.in-Err.ensures.does in_reply)

pub returns-in-Ok-note_injection-clause-does : goal.returns-in-Ok-note_injection-clause-does
returns-in-Ok-note_injection-clause-does g c = λ straight.
    let asked = c.targets-targets.ensures in
    let mid = c.inject.new.rig in
    let vs = g.R.Rig.wishes mid in
    let left = c.note_injection.new.parts in
    let after = g.R.Rig.with_held mid left in
    let s = parts_of (g.R.Rig.held after) in
    let later = g.R.Rig.wishes after in
    replied_then (λ (t : Targets). inject c.args.shape.now.cpus t TickSource (λ pic. the_reply pic)) (λ (status : Status). change Tick (λ tick. tick_injected tick status))
    c.targets-targets.result ((routing_of_words (g.R.Rig.published c.args.rig.now)).targets c.args.shape.now.tick)
    (parts_of (g.R.Rig.held c.targets-targets.new.self)) (parts_of (g.R.Rig.held c.args.rig.now)) (g.R.Rig.wishes c.targets-targets.new.self) (g.R.Rig.wishes c.args.rig.now)
    (asked.told (sym c.in-Ok.ensures.strays ∙ (sym (g.met.R.Rig.astray_with mid left) ∙ straight))) (ap parts_of asked.kept) asked.wishes
    (without_sets c.in-Ok.status) (Signal c.in-Ok.status) (parts_of (g.R.Rig.held mid)) vs (c.in-Ok.ensures.does in_reply) s later
    (subst (λ (f : TickState → TickState). EndsWith tt [] [] s later (run_on (change Tick f) (parts_of (g.R.Rig.held mid)) vs)) (noted_alike c.in-Ok.status)
    (does_on {S = Unit {0}} {A = Unit {0}} (λ _. tt) (Ok tt) (change Tick (λ tick. tick_injected tick c.in-Ok.status)) (g.R.Rig.held mid) c.parts.result.now left (g.R.Rig.held after) vs later
    c.parts.ensures.value (g.met.R.Rig.held_with mid left) (g.met.R.Rig.wishes_with mid left) (c.in-Ok-note_injection.ensures.does vs)))

pub returns-in-Err-note_injection-clause-does : goal.returns-in-Err-note_injection-clause-does
returns-in-Err-note_injection-clause-does g c = λ straight.
    let asked = c.targets-targets.ensures in
    let mid = c.inject.new.rig in
    let vs = g.R.Rig.wishes mid in
    let left = c.note_injection.new.parts in
    replied_lacks (λ (t : Targets). inject c.args.shape.now.cpus t TickSource (λ pic. the_reply pic)) (λ (status : Status). change Tick (λ tick. tick_injected tick status))
    c.targets-targets.result ((routing_of_words (g.R.Rig.published c.args.rig.now)).targets c.args.shape.now.tick)
    (parts_of (g.R.Rig.held c.targets-targets.new.self)) (parts_of (g.R.Rig.held c.args.rig.now)) (g.R.Rig.wishes c.targets-targets.new.self) (g.R.Rig.wishes c.args.rig.now)
    (asked.told (sym c.in-Ok.ensures.strays ∙ (sym (g.met.R.Rig.astray_with mid left) ∙ straight))) (ap parts_of asked.kept) asked.wishes
    (without_sets c.in-Ok.status) (Signal c.in-Ok.status) (parts_of (g.R.Rig.held mid)) vs (c.in-Ok.ensures.does in_reply) c.in-Err-note_injection.lacks.part
    (subst (λ (f : TickState → TickState). StopsAt c.in-Err-note_injection.lacks.part (run_on (change Tick f) (parts_of (g.R.Rig.held mid)) vs)) (noted_alike c.in-Ok.status)
    (does_on {S = Unit {0}} {A = Unit {0}} (λ _. tt) (Err c.in-Err-note_injection.lacks) (change Tick (λ tick. tick_injected tick c.in-Ok.status)) (g.R.Rig.held mid) c.parts.result.now left left vs vs
    c.parts.ensures.value refl refl (c.in-Err-note_injection.ensures.does vs)))

pub returns-in-Ok-note_injection-clause-held : goal.returns-in-Ok-note_injection-clause-held
returns-in-Ok-note_injection-clause-held g c = λ part.
    ap (λ (p : code.Parts). is_some (part_in (parts_of p) part)) (g.met.R.Rig.held_with c.inject.new.rig c.note_injection.new.parts)
    ∙ c.in-Ok-note_injection.ensures.held part
    ∙ ap (λ (p : code.Parts). is_some (part_in (parts_of p) part)) c.parts.ensures.value
    ∙ c.in-Ok.ensures.kept.held part
    ∙ ap (λ (p : code.Parts). is_some (part_in (parts_of p) part)) c.targets-targets.ensures.kept

pub returns-in-Err-note_injection-clause-held : goal.returns-in-Err-note_injection-clause-held
returns-in-Err-note_injection-clause-held g c = λ part.
    ap (λ (p : code.Parts). is_some (part_in (parts_of p) part)) (g.met.R.Rig.held_with c.inject.new.rig c.note_injection.new.parts)
    ∙ c.in-Err-note_injection.ensures.held part
    ∙ ap (λ (p : code.Parts). is_some (part_in (parts_of p) part)) c.parts.ensures.value
    ∙ c.in-Ok.ensures.kept.held part
    ∙ ap (λ (p : code.Parts). is_some (part_in (parts_of p) part)) c.targets-targets.ensures.kept

pub returns-in-Ok-note_injection-clause-fits : goal.returns-in-Ok-note_injection-clause-fits
returns-in-Ok-note_injection-clause-fits g c =
    let shape = c.args.shape.now in
    let asked = subst (FitsButTick shape) (sym c.targets-targets.ensures.kept) c.requires.fits in
    let mid = g.R.Rig.held c.inject.new.rig in
    subst (FitsButTick shape) (sym (g.met.R.Rig.held_with c.inject.new.rig c.note_injection.new.parts))
    (c.in-Ok-note_injection.ensures.fits shape (subst (FitsButTick shape) (sym c.parts.ensures.value)
    (but_tick_signalled shape (g.R.Rig.held c.targets-targets.new.self) mid asked c.in-Ok.ensures.kept c.in-Ok.ensures.pins (c.in-Ok.ensures.fits shape (record { places = asked.others.lapics.places; numbers = asked.others.lapics.numbers })))))

pub returns-in-Err-note_injection-clause-fits : goal.returns-in-Err-note_injection-clause-fits
returns-in-Err-note_injection-clause-fits g c =
    let shape = c.args.shape.now in
    let asked = subst (FitsButTick shape) (sym c.targets-targets.ensures.kept) c.requires.fits in
    let mid = g.R.Rig.held c.inject.new.rig in
    subst (FitsButTick shape) (sym (g.met.R.Rig.held_with c.inject.new.rig c.note_injection.new.parts))
    (c.in-Err-note_injection.ensures.fits shape (subst (FitsButTick shape) (sym c.parts.ensures.value)
    (but_tick_signalled shape (g.R.Rig.held c.targets-targets.new.self) mid asked c.in-Ok.ensures.kept c.in-Ok.ensures.pins (c.in-Ok.ensures.fits shape (record { places = asked.others.lapics.places; numbers = asked.others.lapics.numbers })))))
