-- A store to a word of the spare bank keeps the rule: it is drafted
use Rattle.std.proofs.Common.{◌≡◌, ◌≢◌, ℕ, ◌+◌, ◌<◌, ◌≤◌, List, length, Bool, true, false, not, refl, sym, ap, ◌∙◌, subst, arith}
use Rattle.std.specs.Prelude.{Some, slice_get, slice_index, slice_set, nat_eq, count_by}
use mathlib.Core.Option.{some}
use lib.ListN.{get_elem?}
use Rattle.atomic_table.specs.Table.{State, Me, Step, keeps, Allows}
use Rattle.turn_book.specs.declared.view.View.{View}
use Rattle.turn_book.specs.Hands.{held_at}
use Rattle.turn_book.specs.Banks.{is_odd, place, draft_at, HasRegistry}
use Rattle.turn_book.specs.Rule.{Workings, IsKept, Knows, Reads, turn_of}
use Rattle.turn_book.specs.Views.{drafted_view}
use Rattle.turn_book.specs.Plays.{DraftsWord}
use Rattle.turn_book.proofs.Lists.{some_is, has, index-other, index-same, length-set, get_within}
use Rattle.turn_book.proofs.Banking.{place-beyond, place-within, place-apart, place-other}
use Rattle.turn_book.proofs.Seating.{each_set, out_set, seats_set}

module _ {S E P : Type 0} (m : Workings S E P) (opening : S) (size : ℕ) where
  module _ (s : State P (View S E P)) (k : IsKept m opening size s) (id : ℕ) (v : View S E P) (i x : ℕ)
      (at : get_elem? s.views id ≡ some v) (live : v.spent ≡ false) (registry : HasRegistry v) (inside : i < size) where
    turns : ℕ
    turns = length (m.parts k.behind.now)

    width : ℕ
    width = length (m.published k.behind.now)

    odd : Bool
    odd = is_odd (count_by m.is_publication k.behind.history)

    spot : ℕ
    spot = place turns width (not odd) i

    words' : List ℕ
    words' = slice_set s.words spot x

    known : Knows m opening k.behind s.words id v
    known = k.each_seat id v at live

    inside' : i < width
    unfolding width
    inside' = let a = k.width in omega arith

    -- what stands before the banks stays
    before_banks : (j : ℕ) → j ≤ turns → slice_index words' j ≡ slice_index s.words j
    unfolding words' spot
    before_banks j h = index-other s.words (place turns width (not odd) i) j x (λ e. let a = place-beyond turns width i (not odd) in omega arith)

    turn-same : (p : ℕ) → p < turns → turn_of words' p ≡ turn_of s.words p
    turn-same p h = before_banks (p + 1) (omega arith)

    held_same : (j p : ℕ) (y : P) → (turn_of s.words p ≡ 1) × (k.behind.owner p ≡ j) × (slice_get (m.parts k.behind.now) p ≡ Some y) → (turn_of words' p ≡ 1) × (k.behind.owner p ≡ j) × (slice_get (m.parts k.behind.now) p ≡ Some y)
    unfolding turns
    held_same j p y (taken, by, value) = (turn-same p (get_within (m.parts k.behind.now) p y value) ∙ taken, by, value)

    drafter_reads : Reads m k.behind words' (drafted_view i x v)
    unfolding turns width odd words' spot
    drafter_reads = record {
      looks = known.reads.looks;
      misses = known.reads.misses;
      notes = known.reads.notes;
      knows = known.reads.knows;
      drafts = λ j y h. elim (nat_eq i j) as (λ b. nat_eq i j ≡ b → (elim b [ true ↦ Some x | false ↦ draft_at j v.drafts ]) ≡ Some y → HasRegistry v × (slice_index words' (place turns width (not odd) j) ≡ y)) [
        | true ↦ λ t e.
            let same : i ≡ j = grind arith in
            let fits : spot < length s.words = (let a = place-within turns width i (not odd) inside' in let b = k.wide in omega arith) in
            (registry, subst (λ n. slice_index words' (place turns width (not odd) n) ≡ y) same (index-same s.words spot x fits ∙ some_is x y e))
        | false ↦ λ t e.
            let far : i ≢ j = λ q. (let no_way : ⊥ = grind arith in no_way) in
            (registry, index-other s.words spot (place turns width (not odd) j) x (place-other turns width i j (not odd) far) ∙ (known.reads.drafts j y e).1)
      ] refl h;
    }

    drafter_knows : Knows m opening k.behind words' id (drafted_view i x v)
    drafter_knows = record {
      opened = known.opened;
      begins = known.begins;
      before = known.before;
      heard = known.heard;
      stands = known.stands;
      looked = known.looked;
      reads = drafter_reads;
      holds = λ p y h. held_same id p y (known.holds p y h);
      idle = known.idle;
      own = known.own;
      listed = known.listed;
      desk = known.desk;
    }

    -- no other seat has the registry, so none has drafts
    others_know : (j : ℕ) (u : View S E P) → j ≢ id → get_elem? s.views j ≡ some u → u.spent ≡ false → Knows m opening k.behind words' j u
    others_know j u other there alive =
        let theirs = k.each_seat j u there alive in
        record {
          opened = theirs.opened;
          begins = theirs.begins;
          before = theirs.before;
          heard = theirs.heard;
          stands = theirs.stands;
          looked = theirs.looked;
          reads = record { looks = theirs.reads.looks; misses = theirs.reads.misses; notes = theirs.reads.notes; knows = theirs.reads.knows; drafts = λ n y h. absurd (alone theirs (theirs.reads.drafts n y h).0) };
          holds = λ p y h. held_same j p y (theirs.holds p y h);
          idle = theirs.idle;
          own = theirs.own;
          listed = theirs.listed;
          desk = theirs.desk;
        }
      where
        alone : Knows m opening k.behind s.words j u → HasRegistry u → ⊥
        alone theirs h =
            let (y, is) = has (held_at 0 u.held) h in
            let (z, was) = has (held_at 0 v.held) registry in
            other (sym (theirs.holds 0 y is).1 ∙ (known.holds 0 z was).1)

    pub drafted_keeps : IsKept m opening size (record { words = slice_set s.words (place (length (m.parts k.behind.now)) (length (m.published k.behind.now)) (not (is_odd (count_by m.is_publication k.behind.history))) i) x; homes = s.homes; views = slice_set s.views id (drafted_view i x v) })
    unfolding turns width odd words' spot
    drafted_keeps = record {
      behind = k.behind;
      begins = k.begins;
      legal = k.legal;
      front = before_banks 0 (omega arith) ∙ k.front;
      width = k.width;
      wide = length-set s.words spot x ∙ k.wide;
      deep = k.deep;
      turns = λ p h. subst (λ n. n < 2) (sym (turn-same p h)) (k.turns p h);
      at_home = λ p y zero_turn is. k.at_home p y (sym (turn-same p (get_within (m.parts k.behind.now) p y is)) ∙ zero_turn) is;
      out = λ p h o. out_set s.views id v (drafted_view i x v) at refl (k.behind.owner p) p (λ q. q) (k.out p h (sym (turn-same p h) ∙ o));
      bank = λ j y h. index-other s.words spot (place turns width odd j) x (place-apart turns width i j odd inside' (get_within (m.published k.behind.now) j y h)) ∙ k.bank j y h;
      each_seat = each_set s.views id (drafted_view i x v) (Knows m opening k.behind words') (λ _. drafter_knows) others_know;
      seats = seats_set k.behind k.behind s.views id v (drafted_view i x v) k.seats at (refl, refl, refl) refl refl;
      unmade = k.unmade;
      at_end = k.at_end;
    }

  pub draft_allows : (slots id i x g : ℕ) (me : Me P (View S E P)) (st : Step P) → me.0.spent ≡ false → me.0.knows ≡ Some g → i < size
      → Allows (IsKept m opening size) slots id me (place slots size (not (is_odd g)) i) (λ _. x) (λ _. DraftsWord (Some i) st me x)
  draft_allows slots id i x g me st live knows inside s k deep at small =
      let known : Knows m opening k.behind s.words id me.0 = k.each_seat id me.0 at live in
      let a = known.reads.knows g knows in
      let turns : length (m.parts k.behind.now) ≡ slots = sym k.deep ∙ deep in
      let same : not (is_odd (count_by m.is_publication k.behind.history)) ≡ not (is_odd g) = ap (λ n. not (is_odd n)) (sym a.0) in (
        drafted_view i x me.0,
        keeps,
        tt,
        subst (λ n. IsKept m opening size (record { words = slice_set s.words n x; homes = s.homes; views = slice_set s.views id (drafted_view i x me.0) })) (λ r. place (turns r) (k.width r) (same r) i)
            (drafted_keeps s k id me.0 i x at live a.1 inside),
        (refl, refl),
      )
