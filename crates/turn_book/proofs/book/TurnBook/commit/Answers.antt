use Rattle.std.proofs.Common.{◌≡◌, ◌+◌, ◌%◌, ◌^◌, length, arith, subst, sym, ap, ◌∙◌}
use Rattle.std.specs.Prelude.{◌==◌, Some, IfSome}
use mathlib.Core.Option.{none}
use prog.Atomic.{either}
use Rattle.atomic_table.specs.Table.{step, Allows}
use Rattle.turn_book.specs.Fronts.{word_of, rise_of}
use Rattle.turn_book.specs.Rule.{IsKept, workings}
use Rattle.turn_book.specs.Plays.{Commits, LeadsOn, HoldsReach, HasDrafted}
use Rattle.turn_book.proofs.Lists.{has}
use Rattle.turn_book.proofs.Committing.{commit_allows}
use Rattle.turn_book.proofs.book.TurnBook.commit.Goals as goal

pub compare_exchange-found-requires : goal.compare_exchange-found-requires
compare_exchange-found-requires g c =
    let wide = c.args.self.now.wide in
    let m = g.M.Machine in
    let w = workings m.opens m.steps m.parts m.published m.caller m.is_publication in
    let (e, named) = has g.N.Entering.entry c.requires.named in
    let z = c.args.self.now.table.shared.table_id in
    let opening = m.opening c.args.self.now.table.shared.key.parts.value.items in
    let size = length c.args.self.now.table.shared.key.words.value.items in
    let pen = c.args.pen.now in
    let me = pen.seat.me in
    let had = c.args.had in
    let publish = c.args.publish in
    let first = c.word-expected.result in
    let next = c.raised-next.result in
    let called = subst (λ o. IfSome o (λ x. me.0.caller ≡ Some (m.caller x))) named c.requires.caller in
    let leads = subst (λ o. IfSome o (λ x. LeadsOn m.steps had me.0 x)) named c.requires.step in
    let holds = subst (λ o. IfSome o (λ x. HoldsReach m.reach had me.0 x)) named c.requires.reach in
    let publishes = subst (λ o. IfSome o (λ x. publish ≡ m.is_publication x)) named c.requires.publish in
    let rises : (word_of had % 2 ^ 64 + rise_of (m.is_publication e)) % 2 ^ 64 ≡ next = ap (λ b. (word_of had % 2 ^ 64 + rise_of b) % 2 ^ 64) (sym publishes) ∙ ap (λ n. (n + rise_of publish) % 2 ^ 64) (sym c.word-expected.ensures) ∙ sym c.raised-next.ensures in (
      c.requires.book,
      omega arith,
      subst (λ o. Allows (IsKept w opening size) z.slots pen.seat.id me 0 (λ k. either (k == first) next k) (Commits w o (step z.slots 0 first next none) me)) (sym named)
          (subst (λ n. Allows (IsKept w opening size) z.slots pen.seat.id me 0 (λ k. either (k == first) n k) (Commits w (Some e) (step z.slots 0 first next none) me)) rises
          (commit_allows w m.reach opening size m.one_step m.count_stays m.unreached_stays m.words_stay m.width_stays m.bounded z.slots pen.seat.id me (step z.slots 0 first next none) had e pen.live called c.requires.last_look c.word-expected.ensures leads holds
          (λ is. (c.requires.registry (publishes ∙ is), subst (λ o. IfSome o (λ x. HasDrafted m.steps m.published had me.0 x)) named (c.requires.drafted (publishes ∙ is)))))),
    )
