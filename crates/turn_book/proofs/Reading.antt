-- A load of a published word keeps the rule: it is noted under the generation of the last look
use Rattle.std.proofs.Common.{◌≡◌, ℕ, ◌<◌, ◌≤◌, length, false, refl, sym, ap, ◌∙◌, subst, arith}
use Rattle.std.proofs.lemmas.List.Elements.{All-cons}
use Rattle.std.specs.Prelude.{Some, IfSome, slice_get, slice_index, slice_set, count_by}
use Rattle.atomic_table.specs.Table.{Me, Step, keeps, Allows}
use Rattle.turn_book.specs.declared.view.Front.{Front}
use Rattle.turn_book.specs.declared.view.Note.{Note}
use Rattle.turn_book.specs.declared.view.View.{View}
use Rattle.turn_book.specs.Histories.{last_of}
use Rattle.turn_book.specs.Banks.{is_odd, place, IsRight}
use Rattle.turn_book.specs.Rule.{Workings, IsKept, Knows}
use Rattle.turn_book.specs.Views.{noted_view}
use Rattle.turn_book.specs.Plays.{ReadsWord}
use Rattle.turn_book.proofs.Lists.{set-itself, get_there, last_all}
use Rattle.turn_book.proofs.Seating.{view_keeps}

module _ {S E P : Type 0} (m : Workings S E P) (opening : S) (size : ℕ) where
  pub read_allows : (slots id i g : ℕ) (me : Me P (View S E P)) (st : Step P) (had : Front) → me.0.spent ≡ false → last_of me.0.looks ≡ Some had → had.generation ≡ g → i < size
      → Allows (IsKept m opening size) slots id me (place slots size (is_odd g) i) (λ n. n) (ReadsWord (Some i) st me)
  read_allows slots id i g me st had live last under inside s k deep at small = (
    w,
    keeps,
    tt,
    subst (λ l. IsKept m opening size (record { words = l; homes = s.homes; views = slice_set s.views id w })) (sym (set-itself s.words spot found refl))
        (view_keeps m opening size s k id v w at (refl, refl, refl) (λ p h. h) (λ _. record {
          opened = known.opened;
          begins = known.begins;
          before = known.before;
          heard = known.heard;
          stands = known.stands;
          looked = known.looked;
          reads = record { looks = known.reads.looks; misses = known.reads.misses; notes = All-cons (IsRight (m.published k.behind.now) generation) note v.notes (below, right) known.reads.notes; knows = known.reads.knows; drafts = known.reads.drafts };
          holds = known.holds;
          idle = known.idle;
          own = known.own;
          listed = known.listed;
          desk = known.desk;
        })),
    (refl, subst (λ o. IfSome o (λ (f : Front). w ≡ noted_view i found f.generation v)) (sym last) refl),
  )
    where
      v : View S E P
      v = me.0

      spot : ℕ
      spot = place slots size (is_odd g) i

      found : ℕ
      found = slice_index s.words spot

      note : Note
      note = record { index = i; value = found; generation = had.generation }

      w : View S E P
      w = noted_view i found had.generation v

      generation : ℕ
      generation = count_by m.is_publication k.behind.history

      known : Knows m opening k.behind s.words id v
      known = k.each_seat id v at live

      below : had.generation ≤ generation
      below = last_all (λ (f : Front). f.generation ≤ generation) v.looks had known.reads.looks last

      right : had.generation ≡ generation → slice_get (m.published k.behind.now) i ≡ Some found
      right same =
          let (x, is) = get_there (m.published k.behind.now) i (let a = k.width in omega arith) in
          let turns : length (m.parts k.behind.now) ≡ slots = sym k.deep ∙ deep in
          let odd : is_odd generation ≡ is_odd g = ap is_odd (sym same ∙ under) in
          is ∙ ap (λ y. Some y) (sym (k.bank i x is) ∙ (λ r. slice_index s.words (place (turns r) (k.width r) (odd r) i)))
