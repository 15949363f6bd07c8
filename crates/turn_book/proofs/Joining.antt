-- Two seats made one keep the rule
use Rattle.std.proofs.Common.{◌≡◌, ◌≢◌, ℕ, ◌≤◌, ◌<◌, List, [], ◌∷◌, length, Bool, true, false, refl, sym, ap, ◌∙◌, subst, ⊎_elim, inl, inr, ◌⊎◌, arith}
use Rattle.std.proofs.lemmas.List.Elements.{All-cons}
use Rattle.std.specs.Prelude.{Option, Some, None, nat_eq, nat_le, is_some, slice_set, if◌then◌else◌, All}
use mathlib.Core.Option.{some, some-injective}
use lib.ListN.{get_elem?}
use Rattle.atomic_table.specs.Table.{State, Joins}
use Rattle.atomic_table.proofs.Lists.{at_set, set_else}
use Rattle.turn_book.specs.declared.view.View.{View}
use Rattle.turn_book.specs.declared.view.Ended.{Ended}
use Rattle.turn_book.specs.Histories.{IsPrefix, entries_of, is_in, Runs}
use Rattle.turn_book.specs.Hands.{held_at}
use Rattle.turn_book.specs.Rule.{Workings, Behind, IsKept, Knows, IsOut, HasSeat, turn_of}
use Rattle.turn_book.specs.Views.{ended_at, with_end, joined_view, spent_view}
use Rattle.turn_book.proofs.Lists.{some_is, none_not, not_both, prefix-shorter, filter-between}
use Rattle.turn_book.proofs.Seating.{Was, was, out_set, seat_set}

-- of another caller the list of the ended stays
ended_apart : {E : Type 0} (caller : E → ℕ) (o : Option ℕ) (seen : List E) (l : List (Ended E)) (d : ℕ) → (o ≡ Some d → ⊥) → ended_at d (with_end caller o seen l) ≡ ended_at d l
ended_apart caller None seen l d other = refl
ended_apart caller (Some c) seen l d other = let t : nat_eq c d ≡ false = (let n : c ≢ d = λ e. other (ap (λ k. Some k) e) in grind arith) in ap (λ b. elim b [ true ↦ Some (entries_of caller c seen) | false ↦ ended_at d l ]) t

-- the caller itself has ended, with its entries
ended_own : {E : Type 0} (caller : E → ℕ) (o : Option ℕ) (seen : List E) (l : List (Ended E)) (d : ℕ) → o ≡ Some d → ended_at d (with_end caller o seen l) ≡ Some (entries_of caller d seen)
ended_own caller None seen l d is = absurd (none_not d is)
ended_own {E} caller (Some c) seen l d is = subst (λ n. ended_at n (record { caller = c; entries = entries_of caller c seen } ∷ l) ≡ Some (entries_of caller n seen)) (some_is c d is)
    (let t : nat_eq c c ≡ true = grind arith in ap (λ b. elim b [ true ↦ Some (entries_of caller c seen) | false ↦ ended_at c l ]) t)

module _ {S E P : Type 0} (m : Workings S E P) (opening : S) (size : ℕ) where
  module _ (s : State P (View S E P)) (k : IsKept m opening size s) (id other : ℕ) (v w : View S E P)
      (at : get_elem? s.views id ≡ some v) (there : get_elem? s.views other ≡ some w) (live : v.spent ≡ false) (lives : w.spent ≡ false)
      (bare : w.held ≡ []) (two : other ≢ id) (desk : (c : ℕ) → w.caller ≡ Some c → v.is_desk ≡ true) where
    left : View S E P
    left = joined_view m.caller v w

    behind' : Behind S E
    behind' = record { history = k.behind.history; now = k.behind.now; owner = k.behind.owner; made = k.behind.made; ended = with_end m.caller w.caller w.seen k.behind.ended }

    views' : List (View S E P)
    views' = slice_set (slice_set s.views id left) other spent_view

    known : Knows m opening k.behind s.words id v
    known = k.each_seat id v at live

    gone : Knows m opening k.behind s.words other w
    gone = k.each_seat other w there lives

    -- no other seat has the caller of the seat that is gone
    apart : (j d : ℕ) (u : View S E P) → j ≢ other → get_elem? s.views j ≡ some u → u.spent ≡ false → u.caller ≡ Some d → w.caller ≡ Some d → ⊥
    apart j d u elsewhere here alive by called = elsewhere (k.seats.one_seat j other u w d here there alive lives by called)

    -- the longer list, with its state
    Longer : Bool → Type 0
    Longer t = (IsPrefix (if t then w.seen else v.seen) k.behind.history)
        × ((x : S) × ((if t then w.now else v.now) ≡ Some x) × Runs m.steps opening (if t then w.seen else v.seen) x)
        × (length v.seen ≤ length (if t then w.seen else v.seen))
        × ((c : ℕ) → v.caller ≡ Some c → entries_of m.caller c k.behind.history ≡ entries_of m.caller c (if t then w.seen else v.seen))

    longer : Longer (nat_le (length v.seen) (length w.seen))
    unfolding Longer
    longer = elim (nat_le (length v.seen) (length w.seen)) as (λ t. nat_le (length v.seen) (length w.seen) ≡ t → Longer t) [
      | true ↦ λ t.
          let le : length v.seen ≤ length w.seen = grind arith in
          (gone.begins, gone.stands, le, λ c h. filter-between (λ e. nat_eq (m.caller e) c) v.seen w.seen k.behind.history (prefix-shorter v.seen w.seen k.behind.history known.begins gone.begins le) gone.begins (known.own c h).0)
      | false ↦ λ t. (known.begins, known.stands, omega arith, λ c h. (known.own c h).0)
    ] refl

    left_knows : Knows m opening behind' s.words id left
    unfolding left behind' Longer
    left_knows =
        let l = longer in
        record {
          opened = known.opened;
          begins = l.0;
          before = known.begins;
          heard = gone.begins;
          stands = l.1;
          looked = λ f h. (let a = known.looked f h in let b = l.2 in omega arith);
          reads = record { looks = known.reads.looks; misses = known.reads.misses; notes = known.reads.notes; knows = known.reads.knows; drafts = known.reads.drafts };
          holds = known.holds;
          idle = known.idle;
          own = λ c h. (l.3 c h, (known.own c h).0);
          listed = λ d h. ((known.listed d h).0, ended_apart m.caller w.caller w.seen k.behind.ended d (apart id d v (λ e. two (sym e)) at live h) ∙ (known.listed d h).1);
          desk = λ d. ((known.desk d).0, ap (with_end m.caller w.caller w.seen) (known.desk d).1);
        }

    others_know : (j : ℕ) (u : View S E P) → j ≢ id → j ≢ other → get_elem? s.views j ≡ some u → u.spent ≡ false → Knows m opening behind' s.words j u
    unfolding behind'
    others_know j u n elsewhere here alive =
        let theirs = k.each_seat j u here alive in
        record {
          opened = theirs.opened;
          begins = theirs.begins;
          before = theirs.before;
          heard = theirs.heard;
          stands = theirs.stands;
          looked = theirs.looked;
          reads = theirs.reads;
          holds = theirs.holds;
          idle = theirs.idle;
          own = theirs.own;
          listed = λ d h. ((theirs.listed d h).0, ended_apart m.caller w.caller w.seen k.behind.ended d (apart j d u elsewhere here alive h) ∙ (theirs.listed d h).1);
          desk = λ d. ((theirs.desk d).0, (theirs.desk d).1 ∙ sym (with_none w.caller (λ c called. n (k.seats.one_desk j id u v here at alive live d (desk c called)))));
        }
      where
        with_none : (o : Option ℕ) → ((c : ℕ) → o ≡ Some c → ⊥) → with_end m.caller o w.seen k.behind.ended ≡ k.behind.ended
        with_none None f = refl
        with_none (Some c) f = absurd (f c refl)

    spent_not : (u : View S E P) → spent_view ≡ u → u.spent ≡ false → ⊥
    spent_not u is alive = not_both u.spent (ap (λ (x : View S E P). x.spent) (sym is)) alive

    -- a view of the new list that is not spent was there before, and is not the one that is gone
    came : (i : ℕ) (x : View S E P) → get_elem? views' i ≡ some x → x.spent ≡ false → Was s.views i x
    unfolding views' left
    came i x f alive = ⊎_elim
        (λ (t : (i ≡ other) × (spent_view ≡ x)). absurd (spent_not x t.1 alive))
        (λ (t : (i ≢ other) × (get_elem? (slice_set s.views id left) i ≡ some x)). was s.views id v left at (refl, refl, refl) i x t.1)
        (at_set (slice_set s.views id left) other i spent_view x f)

    there' : get_elem? (slice_set s.views id left) other ≡ some w
    there' = set_else s.views id other left two ∙ there

    out' : (p : ℕ) → p < length (m.parts k.behind.now) → turn_of s.words p ≡ 1 → IsOut views' (k.behind.owner p) p
    unfolding views' left
    out' p h o = by_place (out_set s.views id v left at refl (k.behind.owner p) p (λ x. x) (k.out p h o))
      where
        by_place : IsOut (slice_set s.views id left) (k.behind.owner p) p → IsOut (slice_set (slice_set s.views id left) other spent_view) (k.behind.owner p) p
        by_place (u, here, alive, has) = (u, set_else (slice_set s.views id left) other (k.behind.owner p) spent_view clash ∙ here, alive, has)
          where
            clash : k.behind.owner p ≢ other
            clash e =
                let is : w ≡ u = some-injective w u (sym there' ∙ ap (λ n. get_elem? (slice_set s.views id left) n) (sym e) ∙ here) in
                not_both (is_some (held_at p u.held)) has (ap (λ x. is_some (held_at p x.held)) (sym is) ∙ ap (λ hs. is_some (held_at p hs)) bare)

    placed' : (c : ℕ) → is_in c k.behind.made ≡ true → HasSeat views' c ⊎ (is_some (ended_at c (with_end m.caller w.caller w.seen k.behind.ended)) ≡ true)
    unfolding views' left
    placed' c is = ⊎_elim
        (λ h. by_place (seat_set s.views id v left at (refl, refl, refl) c h))
        (λ h. inr (elim w.caller as (λ o. is_some (ended_at c (with_end m.caller o w.seen k.behind.ended)) ≡ true) [ None ↦ h | Some d ↦ more d h ]))
        (k.seats.placed c is)
      where
        more : (d : ℕ) → is_some (ended_at c k.behind.ended) ≡ true → is_some (ended_at c (record { caller = d; entries = entries_of m.caller d w.seen } ∷ k.behind.ended)) ≡ true
        more d h = elim (nat_eq d c) as (λ b. is_some (elim b [ true ↦ Some (entries_of m.caller d w.seen) | false ↦ ended_at c k.behind.ended ]) ≡ true) [ true ↦ refl | false ↦ h ]

        by_place : HasSeat (slice_set s.views id left) c → HasSeat (slice_set (slice_set s.views id left) other spent_view) c ⊎ (is_some (ended_at c (with_end m.caller w.caller w.seen k.behind.ended)) ≡ true)
        by_place (i, u, here, alive, has) = elim (nat_eq i other) as (λ b. nat_eq i other ≡ b → HasSeat (slice_set (slice_set s.views id left) other spent_view) c ⊎ (is_some (ended_at c (with_end m.caller w.caller w.seen k.behind.ended)) ≡ true)) [
          | true ↦ λ t.
              let e : i ≡ other = grind arith in
              let is : w ≡ u = some-injective w u (sym there' ∙ ap (λ n. get_elem? (slice_set s.views id left) n) (sym e) ∙ here) in
              inr (ap is_some (ended_own m.caller w.caller w.seen k.behind.ended c (ap (λ (x : View S E P). x.caller) is ∙ has)))
          | false ↦ λ t. (let elsewhere : i ≢ other = λ e. (let no_way : ⊥ = grind arith in no_way) in inl (i, u, set_else (slice_set s.views id left) other i spent_view elsewhere ∙ here, alive, has))
        ] refl

    abbrev IsEnd : Ended E → Type 0
    IsEnd x = (is_in x.caller k.behind.made ≡ true) × (entries_of m.caller x.caller k.behind.history ≡ x.entries)

    at_end' : All IsEnd (with_end m.caller w.caller w.seen k.behind.ended)
    at_end' = by_caller w.caller refl
      where
        by_caller : (o : Option ℕ) → w.caller ≡ o → All IsEnd (with_end m.caller o w.seen k.behind.ended)
        by_caller None called = k.at_end
        by_caller (Some c) called = All-cons IsEnd (record { caller = c; entries = entries_of m.caller c w.seen }) k.behind.ended ((gone.listed c called).0, (gone.own c called).0) k.at_end

    joined_keeps : IsKept m opening size (record { words = s.words; homes = s.homes; views = views' })
    unfolding views' behind'
    joined_keeps = record {
      behind = behind';
      begins = k.begins;
      legal = k.legal;
      front = k.front;
      width = k.width;
      wide = k.wide;
      deep = k.deep;
      turns = k.turns;
      at_home = k.at_home;
      out = out';
      bank = k.bank;
      each_seat = λ j u e alive. ⊎_elim
          (λ (t : (j ≡ other) × (spent_view ≡ u)). absurd (spent_not u t.1 alive))
          (λ (t : (j ≢ other) × (get_elem? (slice_set s.views id left) j ≡ some u)). ⊎_elim
          (λ (r : (j ≡ id) × (left ≡ u)). subst (λ i. Knows m opening behind' s.words i u) (sym r.0) (subst (λ x. Knows m opening behind' s.words id x) r.1 left_knows))
          (λ (r : (j ≢ id) × (get_elem? s.views j ≡ some u)). others_know j u r.0 t.0 r.1 alive)
          (at_set s.views id j left u t.1))
          (at_set (slice_set s.views id left) other j spent_view u e);
      seats = record {
        one_desk = λ i j x y f g lx ly dx dy.
            let a : Was s.views i x = came i x f lx in
            let b : Was s.views j y = came j y g ly in
            k.seats.one_desk i j a.0 b.0 a.1 b.1 (sym a.2.0 ∙ lx) (sym b.2.0 ∙ ly) (sym a.2.2 ∙ dx) (sym b.2.2 ∙ dy);
        one_seat = λ i j x y d f g lx ly cx cy.
            let a : Was s.views i x = came i x f lx in
            let b : Was s.views j y = came j y g ly in
            k.seats.one_seat i j a.0 b.0 d a.1 b.1 (sym a.2.0 ∙ lx) (sym b.2.0 ∙ ly) (sym a.2.1 ∙ cx) (sym b.2.1 ∙ cy);
        placed = placed';
      };
      unmade = k.unmade;
      at_end = at_end';
    }

  pub join_allows : (id other : ℕ) (v w : View S E P) → v.spent ≡ false → w.spent ≡ false → w.held ≡ [] → ((c : ℕ) → w.caller ≡ Some c → v.is_desk ≡ true) → Joins (IsKept m opening size) id v other w (joined_view m.caller v w) spent_view
  unfolding views' left
  join_allows id other v w live lives bare desk s k at two there =
      let before : get_elem? s.views other ≡ some w = sym (set_else s.views id other (joined_view m.caller v w) two) ∙ there in
      joined_keeps s k id other v w at before live lives bare two desk
