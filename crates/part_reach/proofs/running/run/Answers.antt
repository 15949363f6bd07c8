use Rattle.std.proofs.Common.{◌≡◌, ◌+◌, sym, ◌∙◌, subst}
use Rattle.std.specs.Prelude.{IfSome}
use Rattle.board_raise.specs.InHand.{parts_of}
use Rattle.board_step.specs.Bodies.{entry_of}
use Rattle.board_step.specs.Publications.{words}
use Rattle.turn_book.specs.Many.{AllBelow}
use Rattle.turn_book.specs.Views.{view_of, IsLegal}
use Rattle.part_rig.specs.declared.known.Known.{Known}
use Rattle.part_rig.specs.Knowing.{list_of}
use Rattle.part_slots.specs.Commits.{Seen}
use Rattle.part_slots.specs.Running.{Opens, IsStep}
use Rattle.part_reach.specs.Entered.{IsMadeOn}
use Rattle.part_reach.specs.Wants.{IsWanted}
use Rattle.part_reach.proofs.Runs.{fits_shape, counted, barred, is_wanted, made}
use Rattle.part_reach.proofs.running.run.Goals as goal

pub asked-requires-clause-fits : goal.asked-requires-clause-fits
asked-requires-clause-fits c =
    fits_shape c.args.shape.now (view_of c.args.pen.now.seat) c.requires.begins c.requires.legal c.requires.holds c.args.places.now c.requires.just c.copy_parts.new.room.rig.parts
    (c.copy_parts.ensures.copies c.requires.legal.1 c.requires.legal.4)

pub entered-requires-clause-legal : goal.entered-requires-clause-legal
entered-requires-clause-legal c = subst (λ (u : Seen). IsLegal Opens IsStep u) (sym c.copy_parts.ensures.view) c.requires.legal

pub entered-requires-clause-made : goal.entered-requires-clause-made
entered-requires-clause-made c =
    let v = view_of c.args.pen.now.seat in
    let q = c.copy_parts.new.room.rig.parts in
    let copies = c.copy_parts.ensures.copies c.requires.legal.1 c.requires.legal.4 in
    let known = list_of c.copy_parts.new.room.rig.known in
    let told = subst (λ (k : Known). IfSome v.now (λ b. words b ≡ list_of k)) (sym c.copy_parts.ensures.known) c.requires.published in
    let here = counted c.args.shape.now v c.requires.begins c.requires.legal c.requires.holds c.args.places.now c.requires.just q copies c.args.had c.requires.length c.requires.generation in
    subst (λ (u : Seen). IsMadeOn u (entry_of c.args.caller c.args.call.now c.in-Ok.reply c.asked.new.events.items) c.args.places.now c.asked.new.room.rig.parts) (sym c.copy_parts.ensures.view)
    (made c.args.shape.now v c.requires.begins c.requires.legal c.requires.holds c.args.places.now c.requires.just q copies known told c.args.caller c.args.call.now c.args.had c.requires.length c.requires.allowed c.calls_are_typed.ensures
    (λ reached. c.barred.ensures.free c.requires.legal.1 here reached c.in-None.is) c.in-Ok.reply c.clear.new.self.items c.asked.new.events.items c.asked.new.room.rig.parts c.clear.ensures c.in-Ok.ensures.leads c.asked.ensures.held c.asked.ensures.fits)

pub returns-in-Some-clause-barred : goal.returns-in-Some-clause-barred
returns-in-Some-clause-barred c =
    let v = view_of c.args.pen.now.seat in
    let q = c.copy_parts.new.room.rig.parts in
    let copies = c.copy_parts.ensures.copies c.requires.legal.1 c.requires.legal.4 in
    let here = counted c.args.shape.now v c.requires.begins c.requires.legal c.requires.holds c.args.places.now c.requires.just q copies c.args.had c.requires.length c.requires.generation in
    barred c.args.shape.now v c.requires.begins c.requires.legal c.requires.holds c.args.places.now c.requires.just q copies c.args.call.now c.in-Some.spent (c.in-Some.ensures.bars c.requires.legal.1 here)

pub returns-in-Err-clause-wants : goal.returns-in-Err-clause-wants
returns-in-Err-clause-wants c =
    let v = view_of c.args.pen.now.seat in
    let q = c.copy_parts.new.room.rig.parts in
    let copies = c.copy_parts.ensures.copies c.requires.legal.1 c.requires.legal.4 in
    let known = list_of c.copy_parts.new.room.rig.known in
    let told = subst (λ (k : Known). IfSome v.now (λ b. words b ≡ list_of k)) (sym c.copy_parts.ensures.known) c.requires.published in
    subst (λ (k : Known). IsWanted k c.args.shape.now c.args.caller c.args.call.now v c.args.places.now c.in-Err.want) c.copy_parts.ensures.known
    (is_wanted c.args.shape.now v c.requires.begins c.requires.legal c.requires.holds c.args.places.now c.requires.just q copies known told c.args.caller c.args.call.now c.copy_parts.new.room.rig.known c.in-Err.want c.clear.new.self.items c.asked.new.events.items (parts_of c.asked.new.room.rig.parts) c.in-Err.ensures.wants)

pub returns-in-Some-clause-legal : goal.returns-in-Some-clause-legal
returns-in-Some-clause-legal c = subst (λ (u : Seen). IsLegal Opens IsStep u) (sym c.copy_parts.ensures.view) c.requires.legal

pub returns-in-Some-clause-in_hand : goal.returns-in-Some-clause-in_hand
returns-in-Some-clause-in_hand c = (c.copy_parts.ensures.copies c.requires.legal.1 c.requires.legal.4).none

pub returns-in-Err-clause-legal : goal.returns-in-Err-clause-legal
returns-in-Err-clause-legal c = subst (λ (u : Seen). IsLegal Opens IsStep u) (sym c.copy_parts.ensures.view) c.requires.legal

pub begin-requires-clause-places : goal.begin-requires-clause-places
begin-requires-clause-places c = subst (λ n. AllBelow (5 + n) c.args.places.now) (sym c.asked.ensures.room.places) c.requires.below

pub begin-requires-clause-in_hand : goal.begin-requires-clause-in_hand
begin-requires-clause-in_hand c = λ p out. c.asked.ensures.held p ∙ (c.copy_parts.ensures.copies c.requires.legal.1 c.requires.legal.4).none p out

pub returns-in-Err-clause-in_hand : goal.returns-in-Err-clause-in_hand
returns-in-Err-clause-in_hand c = λ p out. c.begin.ensures.bare p

pub returns-in-Err-clause-bare : goal.returns-in-Err-clause-bare
returns-in-Err-clause-bare c = λ p out. c.begin.ensures.bare p

pub returns-in-Ok-clause-in_hand : goal.returns-in-Ok-clause-in_hand
returns-in-Ok-clause-in_hand c = λ p out. c.asked.ensures.held p ∙ (c.copy_parts.ensures.copies c.requires.legal.1 c.requires.legal.4).none p out
