use Rattle.std.proofs.Common.{◌≡◌, ◌+◌, ◌-◌, true, arith, subst, sym, ap, ◌∙◌, length}
use Rattle.std.specs.Prelude.{is_some, nat_lt}
use mathlib.Core.Option.{none}
use Rattle.atomic_table.specs.Table.{step, Allows, rest}
use Rattle.turn_book.specs.Hands.{held_at, held_without, slot_at, are_distinct, brought}
use Rattle.turn_book.specs.Histories.{last_of}
use Rattle.turn_book.specs.Views.{given_view}
use Rattle.turn_book.specs.Lent.{brought-first, rest-brought}
use Rattle.turn_book.specs.Rule.{IsKept, workings}
use Rattle.turn_book.specs.Plays.{Gives}
use Rattle.turn_book.proofs.Lists.{not_some}
use Rattle.turn_book.proofs.Handing.{in_hand, given-paired, given-below, given_knows}
use Rattle.turn_book.proofs.Holding.{given-held, given-home}
use Rattle.turn_book.proofs.Giving.{give_allows}
use Rattle.turn_book.proofs.book.TurnBook.give.Goals as goal

pub store-requires : goal.store-requires
store-requires g c =
    let wide = c.args.self.now.wide in
    let m = g.M.Machine in
    let w = workings m.opens m.steps m.parts m.published m.caller m.is_publication in
    let z = c.args.self.now.table.shared.table_id in
    let opening = m.opening c.args.self.now.table.shared.key.parts.value.items in
    let size = length c.args.self.now.table.shared.key.words.value.items in
    let pen = c.args.pen.now in
    let v = pen.seat.me.0 in
    let cs = pen.seat.me.1 in
    let id = c.bring.new.seat.id in
    let p = c.args.part in
    let st = step z.slots (p + 1) 0 0 none in
    let (x, is) = in_hand v.held cs p pen.paired c.requires.held in
    let below : nat_lt p z.slots ≡ true = ap (λ t. nat_lt p t.slots) (sym c.requires.book) ∙ pen.below p c.requires.held in
    let back : (p + 1) - 1 ≡ p = omega arith in (
      c.bring.ensures.0 ∙ c.requires.book,
      grind arith,
      subst (λ q. Allows (IsKept w opening size) z.slots id c.bring.new.seat.me (p + 1) (λ _. 0) (λ _. Gives q st c.bring.new.seat.me 0)) (sym back)
          (subst (λ me. Allows (IsKept w opening size) z.slots id me (p + 1) (λ _. 0) (λ _. Gives p st me 0)) (sym c.bring.ensures.2)
          (subst (λ l. Allows (IsKept w opening size) z.slots id (v, l) (p + 1) (λ _. 0) (λ _. Gives p st (v, l) 0)) (sym (brought-first p cs x is))
          (give_allows w opening size z.slots id v (rest (brought p cs)) st p x pen.live (sym c.requires.home ∙ is)))),
    )

pub invariant_of-pen : goal.invariant_of-pen
invariant_of-pen g c =
    let pen = c.args.pen.now in
    let v = pen.seat.me.0 in
    let cs = pen.seat.me.1 in
    let p = c.args.part in
    let (x, is) = in_hand v.held cs p pen.paired c.requires.held in
    let r = rest-brought p cs x pen.distinct is in
    let back : (p + 1) - 1 ≡ p = omega arith in
    let given = c.store.ensures.2 in
    let brings = c.bring.ensures in
    let view' : c.store.new.seat.me.0 ≡ given_view p v = given.0 ∙ ap (λ q. given_view q c.bring.new.seat.me.0) back ∙ ap (λ me. given_view p me.0) brings.2 in
    let held' : c.store.new.seat.me.0.held ≡ held_without p v.held = ap (λ u. u.held) view' in
    let slots' : c.store.new.seat.me.1 ≡ rest (brought p cs) = given.1 ∙ ap (λ me. rest me.1) brings.2 in
    record {
      live = ap (λ u. u.spent) view' ∙ pen.live;
      distinct = ap are_distinct slots' ∙ r.1;
      paired = λ q. ap (λ l. is_some (slot_at q l)) slots' ∙ given-paired v.held cs p x pen.distinct pen.paired is q ∙ sym (ap (λ l. is_some (held_at q l)) held');
      looks_under = λ f h. pen.looks_under f (sym (ap (λ u. last_of u.looks) view') ∙ h);
      knows_only = λ k h. given_knows p v pen.known pen.knows_only k (sym (ap (λ u. u.knows) view') ∙ h);
      below = λ q h. ap (λ t. nat_lt q t.slots) (c.store.ensures.0 ∙ brings.0) ∙ given-below pen.seat.table_id.slots v.held p pen.below q (sym (ap (λ l. is_some (held_at q l)) held') ∙ h);
    }

pub returns-clause-gone : goal.returns-clause-gone
returns-clause-gone g c =
    let pen = c.args.pen.now in
    let cs = pen.seat.me.1 in
    let p = c.args.part in
    let (x, is) = in_hand pen.seat.me.0.held cs p pen.paired c.requires.held in
    let r = rest-brought p cs x pen.distinct is in
    ap (slot_at p) (c.store.ensures.2.1 ∙ ap (λ me. rest me.1) c.bring.ensures.2) ∙ not_some (slot_at p (rest (brought p cs))) r.0

pub returns-clause-slots : goal.returns-clause-slots
returns-clause-slots g c = λ q t.
    let pen = c.args.pen.now in
    let cs = pen.seat.me.1 in
    let p = c.args.part in
    let (x, is) = in_hand pen.seat.me.0.held cs p pen.paired c.requires.held in
    let r = rest-brought p cs x pen.distinct is in
    ap (slot_at q) (c.store.ensures.2.1 ∙ ap (λ me. rest me.1) c.bring.ensures.2) ∙ r.2 q t

pub returns-clause-just : goal.returns-clause-just
returns-clause-just g c = λ q.
    let pen = c.args.pen.now in
    let v = pen.seat.me.0 in
    let p = c.args.part in
    let back : (p + 1) - 1 ≡ p = omega arith in
    let given = c.store.ensures.2 in
    let view' : c.store.new.seat.me.0 ≡ given_view p v = given.0 ∙ ap (λ n. given_view n c.bring.new.seat.me.0) back ∙ ap (λ me. given_view p me.0) c.bring.ensures.2 in
    ap (λ u. is_some (held_at q u.held)) view' ∙ given-held p q v.held

pub returns-clause-home : goal.returns-clause-home
returns-clause-home g c = λ home q.
    let pen = c.args.pen.now in
    let v = pen.seat.me.0 in
    let cs = pen.seat.me.1 in
    let p = c.args.part in
    let (x, is) = in_hand v.held cs p pen.paired c.requires.held in
    let r = rest-brought p cs x pen.distinct is in
    let back : (p + 1) - 1 ≡ p = omega arith in
    let given = c.store.ensures.2 in
    let view' : c.store.new.seat.me.0 ≡ given_view p v = given.0 ∙ ap (λ n. given_view n c.bring.new.seat.me.0) back ∙ ap (λ me. given_view p me.0) c.bring.ensures.2 in
    let slots' : c.store.new.seat.me.1 ≡ rest (brought p cs) = given.1 ∙ ap (λ me. rest me.1) c.bring.ensures.2 in
    ap (slot_at q) slots' ∙ given-home p v.held cs (rest (brought p cs)) home (not_some (slot_at p (rest (brought p cs))) r.0) r.2 q ∙ sym (ap (λ u. held_at q u.held) view')
