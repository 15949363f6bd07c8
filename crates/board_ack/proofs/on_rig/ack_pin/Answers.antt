use Rattle.std.proofs.Common.{◌≡◌, false, Ok, Err, refl, sym, ap, ◌∙◌, subst}
use Rattle.board_model.specs.Published.{routing_of_words}
use Rattle.board_model.specs.Run.{run_on}
use Rattle.board_raise.specs.InHand.{parts_of}
use Rattle.board_ack.specs.Acknowledge.{tell_concerned, end_level, end_tick}
use Rattle.board_ack.specs.OnHand.{Adds}
use Rattle.board_raise.proofs.Composing.{stops_first}
use Rattle.board_ack.proofs.Adding.{adds_adds, adds_all}
use Rattle.board_ack.proofs.Stepping.{acked_adds, later_steps, acknowledge_needs, acknowledge_lacks, acknowledge_reached}
use Rattle.board_ack.proofs.on_rig.ack_pin.Goals as goal

pub returns-in-Err-clause-does : goal.returns-in-Err-clause-does
returns-in-Err-clause-does g c = λ straight.
    let rig = c.args.rig.now in
    let told = c.gsi_of-gsi.ensures in
    let gsi = c.gsi_of-gsi.result in
    let pin = c.args.pin in
    let shape = c.args.shape.now in
    let routing = routing_of_words (g.R.Rig.published rig) in
    let q = parts_of (g.R.Rig.held rig) in
    let ws = g.R.Rig.wishes rig in
    let after = c.tell_concerned.new.rig in
    let r = parts_of (g.R.Rig.held after) in
    let vs = g.R.Rig.wishes after in
    let named : gsi ≡ routing.gsi_of pin = told.told (c.in-Err.ensures.strays straight) in
    let first : Adds (Err c.in-Err.lacks) c.tell.new.events.items c.tell_concerned.new.events.items r vs (run_on (tell_concerned routing gsi) q ws) =
    subst (Adds (Err c.in-Err.lacks) c.tell.new.events.items c.tell_concerned.new.events.items r vs) (λ i. run_on (tell_concerned (routing_of_words (told.stands i)) gsi) (parts_of (told.kept i)) (told.wishes i)) (c.in-Err.ensures.does straight) in
    acked_adds routing shape pin gsi named q ws (Err c.in-Err.lacks) c.args.events.now.items c.tell.new.events.items c.tell_concerned.new.events.items r vs c.tell.ensures
    (stops_first (λ _. later_steps routing shape pin gsi named q ws) (tell_concerned routing gsi) q ws c.in-Err.lacks.part first)

pub returns-in-Err-clause-lacks : goal.returns-in-Err-clause-lacks
returns-in-Err-clause-lacks g c = λ straight.
    let rig = c.args.rig.now in
    acknowledge_needs (routing_of_words (g.R.Rig.published rig)) c.args.shape.now c.args.pin _ refl (parts_of (g.R.Rig.held rig)) (g.R.Rig.wishes rig) c.in-Err.lacks.part (returns-in-Err-clause-does g c straight)

pub returns-in-Err-end_level-clause-does : goal.returns-in-Err-end_level-clause-does
returns-in-Err-end_level-clause-does g c = λ straight.
    let rig = c.args.rig.now in
    let told = c.gsi_of-gsi.ensures in
    let gsi = c.gsi_of-gsi.result in
    let pin = c.args.pin in
    let shape = c.args.shape.now in
    let routing = routing_of_words (g.R.Rig.published rig) in
    let q = parts_of (g.R.Rig.held rig) in
    let ws = g.R.Rig.wishes rig in
    let mid = c.tell_concerned.new.rig in
    let r = parts_of (g.R.Rig.held mid) in
    let vs = g.R.Rig.wishes mid in
    let after = c.end_level.new.rig in
    let s = parts_of (g.R.Rig.held after) in
    let us = g.R.Rig.wishes after in
    let at_mid : g.R.Rig.astray mid ≡ false = sym c.end_level.ensures.strays ∙ straight in
    let named : gsi ≡ routing.gsi_of pin = told.told (c.in-Ok.ensures.strays at_mid) in
    let first : Adds (Ok tt) c.tell.new.events.items c.tell_concerned.new.events.items r vs (run_on (tell_concerned routing gsi) q ws) =
    subst (Adds (Ok tt) c.tell.new.events.items c.tell_concerned.new.events.items r vs) (λ i. run_on (tell_concerned (routing_of_words (told.stands i)) gsi) (parts_of (told.kept i)) (told.wishes i)) (c.in-Ok.ensures.does at_mid) in
    acked_adds routing shape pin gsi named q ws (Err c.in-Err-end_level.lacks) c.args.events.now.items c.tell.new.events.items c.end_level.new.events.items s us c.tell.ensures
    (adds_adds (tell_concerned routing gsi) (later_steps routing shape pin gsi named q ws) q ws r vs c.tell.new.events.items c.tell_concerned.new.events.items c.end_level.new.events.items s us (Err c.in-Err-end_level.lacks) first
    (stops_first (λ _. end_tick routing shape gsi) (end_level shape.cpus pin) r vs c.in-Err-end_level.lacks.part c.in-Err-end_level.ensures.does))

pub returns-in-Err-end_level-clause-lacks : goal.returns-in-Err-end_level-clause-lacks
returns-in-Err-end_level-clause-lacks g c = λ straight.
    let rig = c.args.rig.now in
    acknowledge_needs (routing_of_words (g.R.Rig.published rig)) c.args.shape.now c.args.pin _ refl (parts_of (g.R.Rig.held rig)) (g.R.Rig.wishes rig) c.in-Err-end_level.lacks.part (returns-in-Err-end_level-clause-does g c straight)

pub returns-in-Ok-end_level-clause-does : goal.returns-in-Ok-end_level-clause-does
returns-in-Ok-end_level-clause-does g c = λ straight.
    let rig = c.args.rig.now in
    let told = c.gsi_of-gsi.ensures in
    let gsi = c.gsi_of-gsi.result in
    let pin = c.args.pin in
    let shape = c.args.shape.now in
    let routing = routing_of_words (g.R.Rig.published rig) in
    let q = parts_of (g.R.Rig.held rig) in
    let ws = g.R.Rig.wishes rig in
    let mid = c.tell_concerned.new.rig in
    let r = parts_of (g.R.Rig.held mid) in
    let vs = g.R.Rig.wishes mid in
    let next = c.end_level.new.rig in
    let s = parts_of (g.R.Rig.held next) in
    let us = g.R.Rig.wishes next in
    let after = c.end_tick.new.rig in
    let t = parts_of (g.R.Rig.held after) in
    let xs = g.R.Rig.wishes after in
    let at_next : g.R.Rig.astray next ≡ false = c.end_tick.ensures.strays straight in
    let at_mid : g.R.Rig.astray mid ≡ false = sym c.end_level.ensures.strays ∙ at_next in
    let named : gsi ≡ routing.gsi_of pin = told.told (c.in-Ok.ensures.strays at_mid) in
    let words = c.end_level.ensures.published ∙ c.tell_concerned.ensures.published ∙ told.stands in
    let first : Adds (Ok tt) c.tell.new.events.items c.tell_concerned.new.events.items r vs (run_on (tell_concerned routing gsi) q ws) =
    subst (Adds (Ok tt) c.tell.new.events.items c.tell_concerned.new.events.items r vs) (λ i. run_on (tell_concerned (routing_of_words (told.stands i)) gsi) (parts_of (told.kept i)) (told.wishes i)) (c.in-Ok.ensures.does at_mid) in
    let last : Adds c.end_tick.result c.end_level.new.events.items c.end_tick.new.events.items t xs (run_on (end_tick routing shape gsi) s us) =
    subst (λ w. Adds c.end_tick.result c.end_level.new.events.items c.end_tick.new.events.items t xs (run_on (end_tick (routing_of_words w) shape gsi) s us)) words (c.end_tick.ensures.does straight) in
    acked_adds routing shape pin gsi named q ws c.end_tick.result c.args.events.now.items c.tell.new.events.items c.end_tick.new.events.items t xs c.tell.ensures
    (adds_adds (tell_concerned routing gsi) (later_steps routing shape pin gsi named q ws) q ws r vs c.tell.new.events.items c.tell_concerned.new.events.items c.end_tick.new.events.items t xs c.end_tick.result first
    (adds_adds (end_level shape.cpus pin) (end_tick routing shape gsi) r vs s us c.tell_concerned.new.events.items c.end_level.new.events.items c.end_tick.new.events.items t xs c.end_tick.result c.in-Ok-end_level.ensures.does last))

pub returns-in-Ok-end_level-clause-all : goal.returns-in-Ok-end_level-clause-all
returns-in-Ok-end_level-clause-all g c = λ straight.
    adds_all c.args.events.now.items c.end_tick.new.events.items (parts_of (g.R.Rig.held c.end_tick.new.rig)) (g.R.Rig.wishes c.end_tick.new.rig) c.end_tick.result _ (returns-in-Ok-end_level-clause-does g c straight)

pub returns-in-Ok-end_level-clause-lacks : goal.returns-in-Ok-end_level-clause-lacks
returns-in-Ok-end_level-clause-lacks g c = λ straight.
    let rig = c.args.rig.now in
    acknowledge_lacks (routing_of_words (g.R.Rig.published rig)) c.args.shape.now c.args.pin _ refl (parts_of (g.R.Rig.held rig)) (g.R.Rig.wishes rig) c.args.events.now.items c.end_tick.new.events.items (parts_of (g.R.Rig.held c.end_tick.new.rig)) (g.R.Rig.wishes c.end_tick.new.rig) c.end_tick.result (returns-in-Ok-end_level-clause-does g c straight)

pub returns-in-Ok-end_level-clause-reached : goal.returns-in-Ok-end_level-clause-reached
returns-in-Ok-end_level-clause-reached g c = λ straight.
    let rig = c.args.rig.now in
    acknowledge_reached (routing_of_words (g.R.Rig.published rig)) c.args.shape.now c.args.pin _ refl (parts_of (g.R.Rig.held rig)) (g.R.Rig.wishes rig) c.args.events.now.items c.end_tick.new.events.items (parts_of (g.R.Rig.held c.end_tick.new.rig)) (g.R.Rig.wishes c.end_tick.new.rig) c.end_tick.result (returns-in-Ok-end_level-clause-does g c straight)
