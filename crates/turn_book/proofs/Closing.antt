-- Where each caller's pen was joined, no part is out, and the slots hold what the history leaves
use Rattle.std.proofs.Common.{◌≡◌, ◌≢◌, ℕ, ◌<◌, ◌≤◌, ◌^◌, List, length, true, false, refl, sym, ap, ◌∙◌, arith}
use Rattle.std.specs.Prelude.{Option, Some, None, slice_index, is_some}
use mathlib.Core.Option.{some}
use lib.ListN.{get_elem?}
use Rattle.atomic_table.specs.Table.{State, Final, Seen}
use Rattle.turn_book.specs.declared.view.View.{View}
use Rattle.turn_book.specs.Laws.{IsBounded}
use Rattle.turn_book.specs.Fronts.{front_of, front_after}
use Rattle.turn_book.specs.Histories.{is_in}
use Rattle.turn_book.specs.Hands.{held_at}
use Rattle.turn_book.specs.Views.{ended_at}
use Rattle.turn_book.specs.Rule.{Workings, IsKept, Knows, IsOut, turn_of}
use Rattle.turn_book.specs.Ending.{EndsRight, AllEnded}
use Rattle.turn_book.proofs.Lists.{not_both, get_within, same_lists, ended_right}
use Rattle.turn_book.proofs.Banking.{front_of-word}

module _ {S E P : Type 0} (m : Workings S E P) (opening : S) (size : ℕ) (bounded : IsBounded m.opens m.steps m.is_publication) where
  module _ (s : State P (View S E P)) (k : IsKept m opening size s) (id : ℕ) (v : View S E P)
      (at : get_elem? s.views id ≡ some v) (live : v.spent ≡ false) (desk : v.is_desk ≡ true) (all : AllEnded v) where
    known : Knows m opening k.behind s.words id v
    known = k.each_seat id v at live

    -- a seat that is not spent holds nothing
    bare : (i p : ℕ) → IsOut s.views i p → ⊥
    bare i p (u, there, alive, has) = by_caller u.caller refl
      where
        by_caller : (o : Option ℕ) → u.caller ≡ o → ⊥
        by_caller None e = not_both (is_some (held_at p u.held)) has (ap (λ hs. is_some (held_at p hs)) ((k.each_seat i u there alive).idle e))
        by_caller (Some c) e =
            let l = (k.each_seat i u there alive).listed c e in
            let d = known.desk desk in
            not_both (is_some (ended_at c v.ended)) (all c (ap (is_in c) d.0 ∙ l.0)) (ap (λ x. is_some (ended_at c x)) d.1 ∙ ap is_some l.1)

    turn_zero : (p : ℕ) → p < length (m.parts k.behind.now) → turn_of s.words p ≡ 0
    turn_zero p h =
        let t = k.turns p h in
        let n : turn_of s.words p ≢ 1 = λ o. bare (k.behind.owner p) p (k.out p h o) in
        omega arith

    pub closes_right : (ws : List ℕ) (xs : List P) → s.words ≡ ws → length s.homes ≡ length xs → ((i : ℕ) (y : P) → get_elem? s.homes i ≡ some (some y) → get_elem? xs i ≡ some y)
        → EndsRight m opening v xs (front_of (slice_index ws 0))
    closes_right ws xs words count homes = record {
      history = k.behind.history;
      now = k.behind.now;
      opened = known.opened;
      begins = k.begins;
      legal = k.legal;
      parts_left = same_lists (m.parts k.behind.now) xs (sym k.deep ∙ count) (λ p x e. homes p x (k.at_home p x (turn_zero p (get_within (m.parts k.behind.now) p x e)) e));
      counted = ap (λ l. front_of (slice_index l 0)) (sym words) ∙ ap front_of k.front ∙ front_of-word (front_after m.is_publication k.behind.history) (let b = bounded opening k.behind.now k.behind.history k.begins k.legal in let low : length k.behind.history ≤ 2 ^ 40 = b.0 in omega arith);
      seen = known.begins;
      ended = ended_right k.behind.made m.caller k.behind.history v.ended k.behind.ended (known.desk desk).1 k.at_end;
      others = λ c e. k.unmade c (ap (is_in c) (sym (known.desk desk).0) ∙ e);
    }

  pub finals : (id : ℕ) (v : View S E P) → v.spent ≡ false → v.is_desk ≡ true → AllEnded v → (ws : List ℕ) (xs : List P) → Final (Seen (IsKept m opening size) id v) ws xs → EndsRight m opening v xs (front_of (slice_index ws 0))
  finals id v live desk all ws xs (s, seen, words, count, homes) = closes_right s seen.0 id v seen.1 live desk all ws xs words count homes
