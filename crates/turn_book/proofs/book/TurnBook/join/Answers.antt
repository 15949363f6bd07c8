use Rattle.std.proofs.Common.{arith, ap, ◌∙◌, sym, subst, length}
use mathlib.Core.Option.{none}
use Rattle.atomic_table.specs.Table.{step}
use Rattle.turn_book.specs.Histories.{IsPrefix, entries_of}
use Rattle.turn_book.specs.Rule.{workings}
use Rattle.turn_book.proofs.Lists.{none_not}
use Rattle.turn_book.proofs.Handing.{no_slots}
use Rattle.turn_book.proofs.Looking.{learn_allows}
use Rattle.turn_book.proofs.Joining.{join_allows}
use Rattle.turn_book.proofs.book.TurnBook.join.Goals as goal

pub join_seat-requires : goal.join_seat-requires
join_seat-requires g c =
    let wide = c.args.self.now.wide in
    let m = g.M.Machine in
    let pen = c.args.pen.now in
    let other = c.args.other in (
      c.requires.books.0,
      c.requires.books.1,
      no_slots other.seat.me.0.held other.seat.me.1 c.requires.empty other.paired,
      omega arith,
      join_allows (workings m.opens m.steps m.parts m.published m.caller m.is_publication) (m.opening c.args.self.now.table.shared.key.parts.value.items) (length c.args.self.now.table.shared.key.words.value.items) pen.seat.id other.seat.id pen.seat.me.0 other.seat.me.0 pen.live other.live c.requires.empty (λ d is. c.requires.desk (λ absent. none_not d (sym absent ∙ is))),
    )

pub load-requires : goal.load-requires
load-requires g c =
    let wide = c.args.self.now.wide in
    let m = g.M.Machine in
    let shared = c.args.self.now.table.shared in
    let seat = c.join_seat.new.seat in
    let joined = c.join_seat.ensures in
    (joined.0 ∙ c.requires.books.0, omega arith, learn_allows (workings m.opens m.steps m.parts m.published m.caller m.is_publication) (m.opening shared.key.parts.value.items) (length shared.key.words.value.items) m.bounded shared.table_id.slots seat.id seat.me (step shared.table_id.slots 0 0 0 none) (ap (λ me. me.0.spent) joined.2 ∙ c.args.pen.now.live))

pub returns-clause-seen : goal.returns-clause-seen
returns-clause-seen g c = subst (λ l. IsPrefix l c.load.new.seat.me.0.seen) (ap (λ me. me.0.before) c.join_seat.ensures.2) c.load.ensures.2.3

pub returns-clause-own : goal.returns-clause-own
returns-clause-own g c = λ d called. c.load.ensures.2.5 d (ap (λ me. me.0.caller) c.join_seat.ensures.2 ∙ called) ∙ ap (λ me. entries_of g.M.Machine.caller d me.0.before) c.join_seat.ensures.2
