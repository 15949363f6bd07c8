use Rattle.board_step.proofs.Basics.{true, false, refl, sym, ◌∙◌, subst, parts_of, Board, Ran}
use Rattle.board_step.proofs.Applied.{kept_is_of}
use Rattle.board_step.proofs.Applying.{wishing_kept, wishing_is, wishing_ran, board_fits, never_lacks, called, spent_told, call_applied, call_outside, kept_quietly, kept_anew}
use Rattle.board_step.proofs.board.Board.step.Goals as goal
use Rattle.board_step.proofs.board.Board.step.Goals.{then-publishes, else-publishes}

pub returns-in-Some-clause-spent : goal.returns-in-Some-clause-spent
returns-in-Some-clause-spent c =
    let w = called c.self.inside c.wish_for.new.self c.args.wishes.now c.wish_for.ensures c.self.invariant c.args.self.now c.self.view_is c.args.caller c.args.call.now c.would_publish_in-publishes.result c.requires.allowed _ c.all.ensures c.would_publish_in-publishes.ensures in
    spent_told _ _ c.args.caller c.args.call.now _ w ∙ sym c.in-Some.ensures

pub step_on-requires-clause-fits : goal.step_on-requires-clause-fits
step_on-requires-clause-fits c = board_fits _ (wishing_kept c.self.inside c.wish_for.new.self c.args.wishes.now c.wish_for.ensures c.self.invariant)

pub unreachable-requires : goal.unreachable-requires
unreachable-requires c =
    let w = called c.self.inside c.wish_for.new.self c.args.wishes.now c.wish_for.ensures c.self.invariant c.args.self.now c.self.view_is c.args.caller c.args.call.now c.would_publish_in-publishes.result c.requires.allowed _ c.all.ensures c.would_publish_in-publishes.ensures in
    never_lacks _ w.kept c.args.caller c.args.call.now w.allowed c.in-Err.field-0.part (c.in-Err.ensures.leads refl _ (kept_is_of _ w.kept))

pub invariant_of-self-then-publishes : goal.invariant_of-self-then-publishes
invariant_of-self-then-publishes c =
    let w = called c.self.inside c.wish_for.new.self c.args.wishes.now c.wish_for.ensures c.self.invariant c.args.self.now c.self.view_is c.args.caller c.args.call.now c.would_publish_in-publishes.result c.requires.allowed _ c.all.ensures c.would_publish_in-publishes.ensures in
    kept_anew _ _ c.args.caller c.args.call.now _ w (sym c.barred_by.ensures ∙ c.in_default.is) c.in-Ok.reply c.args.events.now.items c.step_on.new.events.items c.step_on.new.rig c.publish.new.self c.publish.ensures.parts (c.in-Ok.ensures.leads refl) c.in-Ok.ensures.fits true c.if-publishes.true c.calls_are_typed.ensures c.publish.ensures.words

pub invariant_of-self-else-publishes : goal.invariant_of-self-else-publishes
invariant_of-self-else-publishes c =
    let w = called c.self.inside c.wish_for.new.self c.args.wishes.now c.wish_for.ensures c.self.invariant c.args.self.now c.self.view_is c.args.caller c.args.call.now c.would_publish_in-publishes.result c.requires.allowed _ c.all.ensures c.would_publish_in-publishes.ensures in
    kept_quietly _ _ c.args.caller c.args.call.now _ w (sym c.barred_by.ensures ∙ c.in_default.is) c.in-Ok.reply c.args.events.now.items c.step_on.new.events.items c.step_on.new.rig c.step_on.new.rig refl (c.in-Ok.ensures.leads refl) c.in-Ok.ensures.fits false c.if-publishes.false c.calls_are_typed.ensures refl c.in-Ok.ensures.published

pub returns-clause-spent : goal.returns-clause-spent
returns-clause-spent c =
    let w = called c.self.inside c.wish_for.new.self c.args.wishes.now c.wish_for.ensures c.self.invariant c.args.self.now c.self.view_is c.args.caller c.args.call.now c.would_publish_in-publishes.result c.requires.allowed _ c.all.ensures c.would_publish_in-publishes.ensures in
    spent_told _ _ c.args.caller c.args.call.now _ w ∙ sym c.barred_by.ensures ∙ c.in_default.is

pub returns-clause-applied : goal.returns-clause-applied
returns-clause-applied c =
    let w = called c.self.inside c.wish_for.new.self c.args.wishes.now c.wish_for.ensures c.self.invariant c.args.self.now c.self.view_is c.args.caller c.args.call.now c.would_publish_in-publishes.result c.requires.allowed _ c.all.ensures c.would_publish_in-publishes.ensures in
    elim c.if-publishes.branch [
      | then-publishes p ↦ call_applied _ _ c.args.caller c.args.call.now _ w (sym c.barred_by.ensures ∙ c.in_default.is) c.in-Ok.reply c.args.events.now.items c.step_on.new.events.items c.step_on.new.rig p.publish.new.self p.publish.ensures.parts (c.in-Ok.ensures.leads refl) c.in-Ok.ensures.fits true p.if-publishes.true _ p.self-is
      | else-publishes p ↦ call_applied _ _ c.args.caller c.args.call.now _ w (sym c.barred_by.ensures ∙ c.in_default.is) c.in-Ok.reply c.args.events.now.items c.step_on.new.events.items c.step_on.new.rig c.step_on.new.rig refl (c.in-Ok.ensures.leads refl) c.in-Ok.ensures.fits false p.if-publishes.false _ p.self-is
    ]

pub returns-clause-outside : goal.returns-clause-outside
returns-clause-outside c =
    let w = called c.self.inside c.wish_for.new.self c.args.wishes.now c.wish_for.ensures c.self.invariant c.args.self.now c.self.view_is c.args.caller c.args.call.now c.would_publish_in-publishes.result c.requires.allowed _ c.all.ensures c.would_publish_in-publishes.ensures in
    elim c.if-publishes.branch [
      | then-publishes p ↦ call_outside _ _ c.args.caller c.args.call.now _ w (sym c.barred_by.ensures ∙ c.in_default.is) c.in-Ok.reply c.args.events.now.items c.step_on.new.events.items c.step_on.new.rig p.publish.new.self p.publish.ensures.parts (c.in-Ok.ensures.leads refl) c.in-Ok.ensures.fits true p.if-publishes.true _ p.self-is
      | else-publishes p ↦ call_outside _ _ c.args.caller c.args.call.now _ w (sym c.barred_by.ensures ∙ c.in_default.is) c.in-Ok.reply c.args.events.now.items c.step_on.new.events.items c.step_on.new.rig c.step_on.new.rig refl (c.in-Ok.ensures.leads refl) c.in-Ok.ensures.fits false p.if-publishes.false _ p.self-is
    ]

pub returns-clause-ran : goal.returns-clause-ran
returns-clause-ran c =
    subst (λ (b : Board). Ran b c.args.caller c.args.call.now c.args.wishes.now c.in-Ok.reply c.args.events.now.items c.step_on.new.events.items) c.self.view_is
    (wishing_ran c.self.inside c.wish_for.new.self c.args.wishes.now c.wish_for.ensures c.self.invariant c.args.caller c.args.call.now c.in-Ok.reply c.args.events.now.items c.step_on.new.events.items (parts_of c.step_on.new.rig.parts) c.step_on.new.rig.wishes (c.in-Ok.ensures.does refl))

pub returns-in-Some-clause-stays : goal.returns-in-Some-clause-stays
returns-in-Some-clause-stays c = wishing_is c.self.inside c.wish_for.new.self c.args.wishes.now c.wish_for.ensures ∙ c.self.view_is

pub invariant_of-self : goal.invariant_of-self
invariant_of-self c = wishing_kept c.self.inside c.wish_for.new.self c.args.wishes.now c.wish_for.ensures c.self.invariant
