use Rattle.std.proofs.Common.{arith, ap, sym, ◌∙◌, length}
use Rattle.std.specs.Prelude.{Some, is_some, nat_lt}
use mathlib.Core.Option.{none}
use Rattle.atomic_table.specs.Table.{step}
use Rattle.turn_book.specs.declared.view.Front.{Front}
use Rattle.turn_book.specs.Hands.{held_at, slot_at, are_distinct}
use Rattle.turn_book.specs.Rule.{workings}
use Rattle.turn_book.specs.Histories.{last_of}
use Rattle.turn_book.specs.Fronts.{front_of}
use Rattle.turn_book.proofs.Lists.{last-snoc, some_is}
use Rattle.turn_book.proofs.Looking.{look_allows}
use Rattle.turn_book.proofs.book.TurnBook.front.Goals as goal

pub load-word-requires : goal.load-word-requires
load-word-requires g c =
    let wide = c.args.self.now.wide in
    let m = g.M.Machine in
    let shared = c.args.self.now.table.shared in
    let pen = c.args.pen.now in
    (c.requires.book, omega arith, look_allows (workings m.opens m.steps m.parts m.published m.caller m.is_publication) (m.opening shared.key.parts.value.items) (length shared.key.words.value.items) m.bounded shared.table_id.slots pen.seat.id pen.seat.me (step shared.table_id.slots 0 0 0 none) pen.live)

pub invariant_of-pen-clause-distinct : goal.invariant_of-pen-clause-distinct
invariant_of-pen-clause-distinct g c = ap are_distinct c.load-word.ensures.2.1 ∙ c.args.pen.now.distinct

pub invariant_of-pen-clause-paired : goal.invariant_of-pen-clause-paired
invariant_of-pen-clause-paired g c = λ q. ap (λ l. is_some (slot_at q l)) c.load-word.ensures.2.1 ∙ c.args.pen.now.paired q ∙ sym (ap (λ l. is_some (held_at q l)) c.load-word.ensures.2.4.0)

pub invariant_of-pen-clause-below : goal.invariant_of-pen-clause-below
invariant_of-pen-clause-below g c = λ q h. ap (λ t. nat_lt q t.slots) c.load-word.ensures.0 ∙ c.args.pen.now.below q (sym (ap (λ l. is_some (held_at q l)) c.load-word.ensures.2.4.0) ∙ h)

pub invariant_of-pen-clause-looks_under : goal.invariant_of-pen-clause-looks_under
invariant_of-pen-clause-looks_under g c = λ f h.
    let found = front_of c.load-word.result in
    ap (λ (x : Front). x.generation) (some_is f found (sym h ∙ ap last_of c.load-word.ensures.2.5 ∙ last-snoc c.args.pen.now.seat.me.0.looks found) ∙ sym c.of_word-found.ensures)

pub invariant_of-pen-clause-knows_only : goal.invariant_of-pen-clause-knows_only
invariant_of-pen-clause-knows_only g c = λ h is. c.load-word.ensures.2.7.4 h is ∙ ap (λ (x : Front). x.generation) (sym c.of_word-found.ensures)

pub returns-clause-last_look : goal.returns-clause-last_look
returns-clause-last_look g c =
    let found = front_of c.load-word.result in
    ap last_of c.load-word.ensures.2.5 ∙ last-snoc c.args.pen.now.seat.me.0.looks found ∙ ap (λ f. Some f) (sym c.of_word-found.ensures)
