-- A seat split off another keeps the rule, for nobody or for a caller
use Rattle.std.proofs.Common.{◌≡◌, ◌≢◌, ℕ, List, [], ◌∷◌, ◌++◌, length, true, false, refl, sym, ap, ◌∙◌, subst, ⊎_elim, inl, inr, ◌⊎◌, arith}
use Rattle.std.proofs.lemmas.List.Elements.{All-nil}
use Rattle.std.specs.Prelude.{Option, Some, None, nat_eq, is_some, slice_set}
use mathlib.Core.Option.{some}
use lib.ListN.{get_elem?}
use Rattle.atomic_table.specs.Table.{State, Splits}
use Rattle.atomic_table.proofs.Lists.{at_set, at_snoc, at_last, at_longer}
use Rattle.turn_book.specs.declared.view.View.{View}
use Rattle.turn_book.specs.declared.view.Ended.{Ended}
use Rattle.turn_book.specs.Histories.{is_in, entries_of}
use Rattle.turn_book.specs.Rule.{Workings, Behind, IsKept, Knows, HasSeat}
use Rattle.turn_book.specs.Views.{ended_at, split_view, made_view}
use Rattle.turn_book.proofs.Lists.{some_is, none_not, not_both, get_last, in_more, in_less, in_first, filter-none, all_more, none_among}
use Rattle.turn_book.proofs.Seating.{Was, was, out_set, seat_set}

module _ {S E P : Type 0} (m : Workings S E P) (opening : S) (size : ℕ) where
  -- a caller for whom a seat may be split: the seat is the desk's, and the caller was not made
  abbrev pub MaySplit : Option ℕ → View S E P → Type 0
  MaySplit o v = (c : ℕ) → o ≡ Some c → (v.is_desk ≡ true) × (is_in c v.made ≡ false)

  module _ (s : State P (View S E P)) (k : IsKept m opening size s) (id : ℕ) (v : View S E P) (o : Option ℕ)
      (at : get_elem? s.views id ≡ some v) (live : v.spent ≡ false) (may : MaySplit o v) where
    left : View S E P
    left = made_view o v

    born : View S E P
    born = split_view o v

    made' : List ℕ
    made' = elim o [ None ↦ k.behind.made | Some c ↦ c ∷ k.behind.made ]

    behind' : Behind S E
    behind' = record { history = k.behind.history; now = k.behind.now; owner = k.behind.owner; made = made'; ended = k.behind.ended }

    views' : List (View S E P)
    views' = slice_set s.views id left ++ born ∷ []

    known : Knows m opening k.behind s.words id v
    known = k.each_seat id v at live

    -- a caller that is new was not made
    fresh : (c : ℕ) → o ≡ Some c → is_in c k.behind.made ≡ false
    fresh c is = let f = may c is in ap (is_in c) (sym (known.desk f.0).0) ∙ f.1

    -- who was made still is
    still_made : (d : ℕ) → is_in d k.behind.made ≡ true → is_in d made' ≡ true
    unfolding made'
    still_made d h = elim o as (λ p. is_in d (elim p [ None ↦ k.behind.made | Some c ↦ c ∷ k.behind.made ]) ≡ true) [ None ↦ h | Some c ↦ in_more c d k.behind.made h ]

    -- who was not made before is not made now, or is the new one
    made_before : (d : ℕ) → is_in d made' ≡ false → is_in d k.behind.made ≡ false
    unfolding made'
    made_before d h = elim o as (λ p. is_in d (elim p [ None ↦ k.behind.made | Some c ↦ c ∷ k.behind.made ]) ≡ false → is_in d k.behind.made ≡ false) [ None ↦ λ e. e | Some c ↦ λ e. (in_less c d k.behind.made e).0 ] h

    left_knows : Knows m opening behind' s.words id left
    unfolding left behind' made'
    left_knows = record {
      opened = known.opened;
      begins = known.begins;
      before = known.before;
      heard = known.heard;
      stands = known.stands;
      looked = known.looked;
      reads = record { looks = known.reads.looks; misses = known.reads.misses; notes = known.reads.notes; knows = known.reads.knows; drafts = known.reads.drafts };
      holds = known.holds;
      idle = known.idle;
      own = known.own;
      listed = λ d h. (still_made d (known.listed d h).0, (known.listed d h).1);
      desk = λ d. (ap (λ l. elim o [ None ↦ l | Some c ↦ c ∷ l ]) (known.desk d).0, (known.desk d).1);
    }

    others_know : (j : ℕ) (u : View S E P) → j ≢ id → get_elem? s.views j ≡ some u → u.spent ≡ false → Knows m opening behind' s.words j u
    unfolding behind' made'
    others_know j u n here alive =
        let theirs = k.each_seat j u here alive in
        record {
          opened = theirs.opened;
          begins = theirs.begins;
          before = theirs.before;
          heard = theirs.heard;
          stands = theirs.stands;
          looked = theirs.looked;
          reads = theirs.reads;
          holds = theirs.holds;
          idle = theirs.idle;
          own = theirs.own;
          listed = λ d h. (still_made d (theirs.listed d h).0, (theirs.listed d h).1);
          desk = λ d. ((theirs.desk d).0 ∙ sym (with_none o (λ c is. n (k.seats.one_desk j id u v here at alive live d (may c is).0))), (theirs.desk d).1);
        }
      where
        with_none : (p : Option ℕ) → ((c : ℕ) → p ≡ Some c → ⊥) → (elim p [ None ↦ k.behind.made | Some c ↦ c ∷ k.behind.made ]) ≡ k.behind.made
        with_none None f = refl
        with_none (Some c) f = absurd (f c refl)

    born_knows : (j : ℕ) → Knows m opening behind' s.words j born
    unfolding born behind' made'
    born_knows j = record {
      opened = known.opened;
      begins = known.begins;
      before = (k.behind.history, refl);
      heard = (k.behind.history, refl);
      stands = known.stands;
      looked = λ f h. absurd (none_not f h);
      reads = record {
        looks = All-nil _;
        misses = All-nil _;
        notes = All-nil _;
        knows = λ g h. absurd (none_not g h);
        drafts = λ i x h. absurd (none_not x h);
      };
      holds = λ p x h. absurd (none_not x h);
      idle = λ h. refl;
      own = λ c is. (k.unmade c (fresh c is) ∙ sym (filter-none (λ e. nat_eq (m.caller e) c) v.seen k.behind.history known.begins (k.unmade c (fresh c is))), k.unmade c (fresh c is));
      listed = λ c is. (is_first o c is, none_among (λ n. is_in n k.behind.made ≡ true) c k.behind.ended (all_more (λ (x : Ended E). (is_in x.caller k.behind.made ≡ true) × (entries_of m.caller x.caller k.behind.history ≡ x.entries)) (λ (x : Ended E). is_in x.caller k.behind.made ≡ true) k.behind.ended (λ x h. h.0) k.at_end) (λ h. not_both (is_in c k.behind.made) h (fresh c is)));
      desk = λ d. absurd (not_both false d refl);
    }
      where
        is_first : (p : Option ℕ) (c : ℕ) → p ≡ Some c → is_in c (elim p [ None ↦ k.behind.made | Some d ↦ d ∷ k.behind.made ]) ≡ true
        is_first None c is = absurd (none_not c is)
        is_first (Some d) c is = subst (λ n. is_in n (d ∷ k.behind.made) ≡ true) (some_is d c is) (in_first d k.behind.made)

    -- no seat has a caller that is new
    unknown : (j c : ℕ) (u : View S E P) → get_elem? s.views j ≡ some u → u.spent ≡ false → u.caller ≡ Some c → o ≡ Some c → ⊥
    unknown j c u here alive by is = not_both (is_in c k.behind.made) ((k.each_seat j u here alive).listed c by).0 (fresh c is)

    Place : ℕ → View S E P → Type 0
    Place i x = Was s.views i x ⊎ ((i ≡ length (slice_set s.views id left)) × (born ≡ x))

    place : (i : ℕ) (x : View S E P) → get_elem? views' i ≡ some x → Place i x
    unfolding views' left Place
    place i x f = ⊎_elim
        (λ (t : get_elem? (slice_set s.views id left) i ≡ some x). inl (was s.views id v left at (refl, refl, refl) i x t))
        (λ (t : (i ≡ length (slice_set s.views id left)) × (born ≡ x)). inr t)
        (get_last (slice_set s.views id left) born x i f)

    deskless : (u : View S E P) → born ≡ u → u.is_desk ≡ true → ⊥
    unfolding born
    deskless u is h = not_both u.is_desk h (ap (λ (x : View S E P). x.is_desk) (sym is))

    callers : (u : View S E P) (c : ℕ) → born ≡ u → u.caller ≡ Some c → o ≡ Some c
    unfolding born
    callers u c is called = ap (λ (x : View S E P). x.caller) is ∙ called

    seat_longer : (c : ℕ) → HasSeat s.views c → HasSeat views' c
    unfolding views' left
    seat_longer c h = by_seat (seat_set s.views id v left at (refl, refl, refl) c h)
      where
        by_seat : HasSeat (slice_set s.views id left) c → HasSeat (slice_set s.views id left ++ born ∷ []) c
        by_seat (i, u, here, alive, has) = (i, u, at_longer (slice_set s.views id left) (born ∷ []) i u here, alive, has)

    placed' : (c : ℕ) → is_in c made' ≡ true → HasSeat views' c ⊎ (is_some (ended_at c k.behind.ended) ≡ true)
    unfolding made' views' born
    placed' c is = by_caller o refl is
      where
        old : is_in c k.behind.made ≡ true → HasSeat views' c ⊎ (is_some (ended_at c k.behind.ended) ≡ true)
        old h = ⊎_elim (λ a. inl (seat_longer c a)) (λ a. inr a) (k.seats.placed c h)

        by_caller : (p : Option ℕ) → o ≡ p → is_in c (elim p [ None ↦ k.behind.made | Some d ↦ d ∷ k.behind.made ]) ≡ true → HasSeat views' c ⊎ (is_some (ended_at c k.behind.ended) ≡ true)
        by_caller None called h = old h
        by_caller (Some d) called h = elim (nat_eq d c) as (λ b. nat_eq d c ≡ b → (elim b [ true ↦ true | false ↦ is_in c k.behind.made ]) ≡ true → HasSeat views' c ⊎ (is_some (ended_at c k.behind.ended) ≡ true)) [
          | true ↦ λ t e. (let same : d ≡ c = grind arith in inl (length (slice_set s.views id left), born, at_last (slice_set s.views id left) born (length (slice_set s.views id left)) refl, live, called ∙ ap (λ n. Some n) same))
          | false ↦ λ t e. old e
        ] refl h

    pub split_keeps : IsKept m opening size (record { words = s.words; homes = s.homes; views = slice_set s.views id (made_view o v) ++ split_view o v ∷ [] })
    unfolding views' left Place born behind' made'
    split_keeps = record {
      behind = behind';
      begins = k.begins;
      legal = k.legal;
      front = k.front;
      width = k.width;
      wide = k.wide;
      deep = k.deep;
      turns = k.turns;
      at_home = k.at_home;
      out = λ p h q. (let (u, a, lu, has) = out_set s.views id v left at refl (k.behind.owner p) p (λ x. x) (k.out p h q) in (u, at_longer (slice_set s.views id left) (born ∷ []) (k.behind.owner p) u a, lu, has));
      bank = k.bank;
      each_seat = λ j u e alive. ⊎_elim
          (λ (t : get_elem? (slice_set s.views id left) j ≡ some u). ⊎_elim
          (λ (r : (j ≡ id) × (left ≡ u)). subst (λ i. Knows m opening behind' s.words i u) (sym r.0) (subst (λ x. Knows m opening behind' s.words id x) r.1 left_knows))
          (λ (r : (j ≢ id) × (get_elem? s.views j ≡ some u)). others_know j u r.0 r.1 alive)
          (at_set s.views id j left u t))
          (λ (t : born ≡ u). subst (λ x. Knows m opening behind' s.words j x) t (born_knows j))
          (at_snoc (slice_set s.views id left) born u j e);
      seats = record {
        one_desk = λ i j x y f g lx ly dx dy. ⊎_elim
            (λ (a : Was s.views i x). ⊎_elim
            (λ (b : Was s.views j y). k.seats.one_desk i j a.0 b.0 a.1 b.1 (sym a.2.0 ∙ lx) (sym b.2.0 ∙ ly) (sym a.2.2 ∙ dx) (sym b.2.2 ∙ dy))
            (λ (b : (j ≡ length (slice_set s.views id left)) × (born ≡ y)). absurd (deskless y b.1 dy))
            (place j y g))
            (λ (a : (i ≡ length (slice_set s.views id left)) × (born ≡ x)). absurd (deskless x a.1 dx))
            (place i x f);
        one_seat = λ i j x y d f g lx ly cx cy. ⊎_elim
            (λ (a : Was s.views i x). ⊎_elim
            (λ (b : Was s.views j y). k.seats.one_seat i j a.0 b.0 d a.1 b.1 (sym a.2.0 ∙ lx) (sym b.2.0 ∙ ly) (sym a.2.1 ∙ cx) (sym b.2.1 ∙ cy))
            (λ (b : (j ≡ length (slice_set s.views id left)) × (born ≡ y)). absurd (unknown i d a.0 a.1 (sym a.2.0 ∙ lx) (sym a.2.1 ∙ cx) (callers y d b.1 cy)))
            (place j y g))
            (λ (a : (i ≡ length (slice_set s.views id left)) × (born ≡ x)). ⊎_elim
            (λ (b : Was s.views j y). absurd (unknown j d b.0 b.1 (sym b.2.0 ∙ ly) (sym b.2.1 ∙ cy) (callers x d a.1 cx)))
            (λ (b : (j ≡ length (slice_set s.views id left)) × (born ≡ y)). a.0 ∙ sym b.0)
            (place j y g))
            (place i x f);
        placed = placed';
      };
      unmade = λ d h. k.unmade d (made_before d h);
      at_end = all_more (λ (x : Ended E). (is_in x.caller k.behind.made ≡ true) × (entries_of m.caller x.caller k.behind.history ≡ x.entries)) (λ (x : Ended E). (is_in x.caller made' ≡ true) × (entries_of m.caller x.caller k.behind.history ≡ x.entries)) k.behind.ended (λ x old. (still_made x.caller old.0, old.1)) k.at_end;
    }

  pub split_allows : (id : ℕ) (v : View S E P) (o : Option ℕ) → v.spent ≡ false → MaySplit o v → Splits (IsKept m opening size) id v (made_view o v) (split_view o v)
  split_allows id v o live may s k at = split_keeps s k id v o at live may
