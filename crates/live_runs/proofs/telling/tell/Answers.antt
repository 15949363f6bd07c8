use Rattle.std.proofs.Common.{◌++◌, [], All, length, refl, sym, ap, ◌∙◌, subst, arith}
use Rattle.std.proofs.lemmas.List.{append-nil}
use Rattle.std.proofs.lemmas.List.Elements.{All-head, All-tail, All-push}
use Rattle.std.specs.Vec.Iter.{into_iter_items}
use Rattle.turn_book.proofs.Lists.{length_zero}
use Rattle.part_board.specs.Seen.{note_seen, IsPassOf}
use Rattle.live_runs.specs.Telling.{told_by, GoesAlong}
use Rattle.live_runs.proofs.Rounds.{goes_on}
use Rattle.live_runs.proofs.telling.tell.Goals as goal

pub next_note-requires-clause-pass : goal.next_note-requires-clause-pass
next_note-requires-clause-pass c =
    let board = c.args.board.now in
    All-head (IsPassOf board) c.in-Some.pass (into_iter_items c.next.new.self) (subst (All (IsPassOf board)) c.in-Some.ensures.items c.loop-pass.invariant.2)

pub loop-pass-preserved : goal.loop-pass-preserved
loop-pass-preserved c =
    let board = c.args.board.now in
    let rest = into_iter_items c.next.new.self in
    let pass = c.in-Some.pass in
    let seen = c.next_note.new.pass in
    let told = c.loop-pass.told.items in (
      c.next_note.ensures.note,
      subst (All (IsPassOf board)) (sym c.in-Ok.ensures.items) (All-push (IsPassOf board) told seen c.loop-pass.invariant.1 c.next_note.ensures.pass),
      All-tail (IsPassOf board) pass rest (subst (All (IsPassOf board)) c.in-Some.ensures.items c.loop-pass.invariant.2),
      (let many = ap length c.in-Some.ensures.items in let here = c.loop-pass.invariant.3 in let len = c.in-Some.ensures.len in omega (arith, many, here, len)),
      λ more last along. subst (λ l. GoesAlong board.shape (told_by c.args.note) c.args.passes.items (l ++ more) last) (sym c.in-Ok.ensures.items)
          (goes_on board.shape (told_by c.args.note) (told_by c.loop-pass.note) (note_seen c.next_note.result) c.args.passes.items told pass seen
          (into_iter_items c.loop-pass.rest) rest more last (λ qs. c.loop-pass.invariant.4 qs last) c.in-Some.ensures.items
          c.next_note.ensures.caller c.next_note.ensures.learnt c.next_note.ensures.told c.next_note.ensures.copy along),
    )

pub returns-clause-along : goal.returns-clause-along
returns-clause-along c =
    let shape = c.args.board.now.shape in
    let last = told_by c.loop-pass.note in
    let none = length_zero (into_iter_items c.loop-pass.rest) (c.loop-pass.invariant.3 ∙ c.in_default.ensures.cases.0) in
    subst (λ l. GoesAlong shape (told_by c.args.note) c.args.passes.items l last) (append-nil c.loop-pass.told.items)
    (c.loop-pass.invariant.4 [] last (subst (λ l. GoesAlong shape last l [] last) (sym none) refl))
