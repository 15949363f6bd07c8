-- An exchange of the front keeps the rule: one entry more, or another front was found
use Rattle.std.proofs.Common.{◌≡◌, ◌≢◌, ℕ, ◌+◌, ◌*◌, ◌<◌, ◌≤◌, ◌%◌, ◌^◌, List, [], ◌∷◌, ◌++◌, length, Bool, true, false, not, cond, refl, sym, ap, ◌∙◌, subst, arith, append-nil, length-append, ◌==◌}
use Rattle.std.proofs.lemmas.List.Elements.{All-nil, All-cons, All-append}
use Rattle.std.specs.Prelude.{Option, Some, None, slice_get, slice_index, slice_set, is_some, nat_eq, All, count_by}
use mathlib.Core.Option.{some}
use lib.ListN.{get_elem?}
use prog.Atomic.{either}
use Rattle.atomic_table.specs.Table.{State, Me, Step, Act, Valid, stepped, keeps, Allows, carried_after}
use Rattle.turn_book.specs.declared.view.Ended.{Ended}
use Rattle.turn_book.specs.declared.view.Front.{Front}
use Rattle.turn_book.specs.declared.view.Miss.{Miss}
use Rattle.turn_book.specs.declared.view.View.{View}
use Rattle.turn_book.specs.Histories.{Runs, entries_of, is_in}
use Rattle.turn_book.specs.Hands.{held_at, held_after}
use Rattle.turn_book.specs.Laws.{IsBounded}
use Rattle.turn_book.specs.Fronts.{front_of, word_of, rise_of, front_after}
use Rattle.turn_book.specs.Banks.{is_odd, place, draft_at, AreDrafted, HasRegistry}
use Rattle.turn_book.specs.Rule.{Workings, Behind, IsKept, Knows, Reads, turn_of}
use Rattle.turn_book.specs.Views.{next_of}
use Rattle.turn_book.specs.Plays.{Meets, Commits, IsLastLook, IsAt, LeadsOn, HoldsReach, HasDrafted}
use Rattle.turn_book.proofs.Lists.{some_is, none_not, not_both, has, index-other, index-same, length-set, get_or_own, prefix-snoc, prefix-whole, prefix-length, filter-append, filter-one, runs-snoc, runs-one, count-snoc, all_two, last_all, not_among, ended_right}
use Rattle.turn_book.proofs.Banking.{odd-next, place-beyond, front_of-word, SameBanks, knows_kept, knows_older}
use Rattle.turn_book.proofs.Holding.{held-after, held_after-some}
use Rattle.turn_book.proofs.Seating.{each_set, out_set, seats_set}
use Rattle.turn_book.proofs.Looking.{met_view, met_keeps, meets, looks_low, front_is}

-- a generation that is one more than another
next-some : (o : Option ℕ) (g : ℕ) → next_of o ≡ Some g → (h : ℕ) × (o ≡ Some h) × (g ≡ h + 1)
next-some None g e = absurd (none_not g e)
next-some (Some h) g e = (h, refl, sym (some_is (h + 1) g e))

module _ {S E P : Type 0} (m : Workings S E P) (reach : S → E → ℕ → Bool) (opening : S) (size : ℕ)
    (one : (s : S) (e : E) (t u : S) → m.steps s e t → m.steps s e u → t ≡ u)
    (counts : (s : S) (e : E) (t : S) → m.steps s e t → length (m.parts t) ≡ length (m.parts s))
    (stays : (s : S) (e : E) (t : S) (p : ℕ) → m.steps s e t → reach s e p ≡ false → slice_get (m.parts t) p ≡ slice_get (m.parts s) p)
    (words_stay : (s : S) (e : E) (t : S) → m.steps s e t → m.is_publication e ≡ false → m.published t ≡ m.published s)
    (width_stays : (s : S) (e : E) (t : S) → m.steps s e t → length (m.published t) ≡ length (m.published s))
    (bounded : IsBounded m.opens m.steps m.is_publication) where
  -- the view after its entry was added, which is a publication or not
  abbrev pub added_view : Bool → View S E P → E → S → View S E P
  added_view b v e t = record v { seen = v.seen ++ e ∷ []; now = Some t; before = v.seen ++ e ∷ []; held = held_after (m.parts t) v.held; drafts = cond b [] v.drafts; knows = cond b (next_of v.knows) v.knows }

  -- what the adder of a publication has done before: it holds the registry and drafted the words of the next state
  abbrev pub IsReady : View S E P → E → S → Type 0
  IsReady v e t = m.is_publication e ≡ true → HasRegistry v × AreDrafted (m.published t) v.drafts

  module _ (s : State P (View S E P)) (k : IsKept m opening size s) (id : ℕ) (v : View S E P) (e : E) (t : S)
      (at : get_elem? s.views id ≡ some v) (live : v.spent ≡ false) (called : v.caller ≡ Some (m.caller e))
      (all : v.seen ≡ k.behind.history) (step : m.steps k.behind.now e t)
      (held : (p : ℕ) → reach k.behind.now e p ≡ true → is_some (held_at p v.held) ≡ true) (ready : IsReady v e t) where
    words' : List ℕ
    words' = slice_set s.words 0 (word_of (front_after m.is_publication (k.behind.history ++ e ∷ [])))

    behind' : Behind S E
    behind' = record { history = k.behind.history ++ e ∷ []; now = t; owner = k.behind.owner; made = k.behind.made; ended = k.behind.ended }

    known : Knows m opening k.behind s.words id v
    known = k.each_seat id v at live

    count : length (m.parts t) ≡ length (m.parts k.behind.now)
    count = counts k.behind.now e t step

    legal' : Runs m.steps opening (k.behind.history ++ e ∷ []) t
    legal' = runs-snoc m.steps opening k.behind.history k.behind.now t e k.legal step

    turn-front : (p : ℕ) → turn_of words' p ≡ turn_of s.words p
    unfolding words'
    turn-front p = index-other s.words 0 (p + 1) _ (λ q. omega arith)

    same_banks : SameBanks (length (m.parts k.behind.now)) s.words words'
    unfolding words'
    same_banks j h = index-other s.words 0 j _ (λ q. omega arith)

    -- a part that the seat does not hold stays
    unheld_stays : (p : ℕ) → ((x : P) → held_at p v.held ≡ Some x → ⊥) → slice_get (m.parts t) p ≡ slice_get (m.parts k.behind.now) p
    unheld_stays p lacks = stays k.behind.now e t p step (elim (reach k.behind.now e p) as (λ b. reach k.behind.now e p ≡ b → b ≡ false) [
      | true ↦ λ r. absurd (no_some (held_at p v.held) lacks (held p r))
      | false ↦ λ _. refl
    ] refl)
      where
        no_some : (o : Option P) → ((x : P) → o ≡ Some x → ⊥) → is_some o ≡ true → ⊥
        no_some None f h = not_both false h refl
        no_some (Some x) f h = f x refl

    -- the entry is none of another caller's
    apart : (d : ℕ) → (m.caller e ≡ d → ⊥) → entries_of m.caller d (k.behind.history ++ e ∷ []) ≡ entries_of m.caller d k.behind.history
    apart d other =
        filter-append (λ x. nat_eq (m.caller x) d) k.behind.history (e ∷ [])
        ∙ ap (λ l. entries_of m.caller d k.behind.history ++ l) (filter-one (λ x. nat_eq (m.caller x) d) e (let n : nat_eq (m.caller e) d ≡ false = grind arith in n))
        ∙ append-nil _

    -- what is held after the entry is as the history then has it
    adder_holds : (p : ℕ) (x : P) → held_at p (held_after (m.parts t) v.held) ≡ Some x → (turn_of words' p ≡ 1) × (k.behind.owner p ≡ id) × (slice_get (m.parts t) p ≡ Some x)
    adder_holds p x h =
        let (y, was, is) = held-after (m.parts t) p x v.held h in
        let before = known.holds p y was in
        (turn-front p ∙ before.0, before.1, get_or_own (m.parts k.behind.now) (m.parts t) p y count before.2 ∙ ap (λ z. Some z) (sym is))

    -- no seat but the adder's holds a part that the adder holds
    alone : (j p : ℕ) (u : View S E P) → j ≢ id → get_elem? s.views j ≡ some u → u.spent ≡ false → is_some (held_at p u.held) ≡ true → is_some (held_at p v.held) ≡ true → ⊥
    alone j p u other there alive theirs mine =
        let (x, is) = has (held_at p u.held) theirs in
        let (y, was) = has (held_at p v.held) mine in
        other (sym ((k.each_seat j u there alive).holds p x is).1 ∙ (known.holds p y was).1)

    -- how many publications there are then
    publications : (b : Bool) → m.is_publication e ≡ b → count_by m.is_publication (k.behind.history ++ e ∷ []) ≡ count_by m.is_publication k.behind.history + cond b 1 0
    publications b is = count-snoc m.is_publication k.behind.history e ∙ ap (λ c. count_by m.is_publication k.behind.history + cond c 1 0) is

    adder_reads : (b : Bool) → m.is_publication e ≡ b → Reads m behind' words' (added_view b v e t)
    unfolding behind'
    adder_reads false is = knows_kept _ _ _ _ _ _ s.words words' v (added_view false v e t) (words_stay k.behind.now e t step is) (let g = publications false is in omega arith) count same_banks (refl, refl, refl) refl refl (λ h. held_after-some (m.parts t) 0 v.held ∙ h) known.reads
    adder_reads true is = knows_older (m.published k.behind.now) (m.published t) _ _ (length (m.parts k.behind.now)) (length (m.parts t)) s.words words' v (added_view true v e t) (publications true is) (refl, refl, refl)
        (λ i x h. none_not x h)
        (λ g h. (let (g', was, more) = next-some v.knows g h in let a = known.reads.knows g' was in let n = publications true is in (omega (arith, a.0), held_after-some (m.parts t) 0 v.held ∙ a.1)))
        known.reads

    others_read : (b : Bool) → m.is_publication e ≡ b → (j : ℕ) (u : View S E P) → j ≢ id → get_elem? s.views j ≡ some u → u.spent ≡ false → Reads m k.behind s.words u → Reads m behind' words' u
    unfolding behind'
    others_read false is j u other there alive reads = knows_kept _ _ _ _ _ _ s.words words' u u (words_stay k.behind.now e t step is) (let g = publications false is in omega arith) count same_banks (refl, refl, refl) refl refl (λ h. h) reads
    others_read true is j u other there alive reads = knows_older (m.published k.behind.now) (m.published t) _ _ (length (m.parts k.behind.now)) (length (m.parts t)) s.words words' u u (publications true is) (refl, refl, refl)
        (λ i x h. alone j 0 u other there alive (reads.drafts i x h).0 (ready is).0)
        (λ g h. absurd (alone j 0 u other there alive (reads.knows g h).1 (ready is).0))
        reads

    -- the bank of the generation then has the words that are published then
    bank' : (b : Bool) → m.is_publication e ≡ b → (i x : ℕ) → slice_get (m.published t) i ≡ Some x
        → slice_index words' (place (length (m.parts t)) (length (m.published t)) (is_odd (count_by m.is_publication (k.behind.history ++ e ∷ []))) i) ≡ x
    bank' false is i x h =
        let same : m.published t ≡ m.published k.behind.now = words_stay k.behind.now e t step is in
        let g : count_by m.is_publication (k.behind.history ++ e ∷ []) ≡ count_by m.is_publication k.behind.history = (let n = publications false is in omega arith) in
        let old = is_odd (count_by m.is_publication k.behind.history) in
        (λ r. slice_index words' (place (count r) (length (same r)) (is_odd (g r)) i))
        ∙ same_banks _ (place-beyond (length (m.parts k.behind.now)) (length (m.published k.behind.now)) i old)
        ∙ k.bank i x (sym (ap (λ l. slice_get l i) same) ∙ h)
    bank' true is i x h =
        let w : length (m.published t) ≡ length (m.published k.behind.now) = width_stays k.behind.now e t step in
        let odd : is_odd (count_by m.is_publication (k.behind.history ++ e ∷ [])) ≡ not (is_odd (count_by m.is_publication k.behind.history)) = ap is_odd (publications true is) ∙ odd-next (count_by m.is_publication k.behind.history) in
        let other = not (is_odd (count_by m.is_publication k.behind.history)) in
        (λ r. slice_index words' (place (count r) (w r) (odd r) i))
        ∙ same_banks _ (place-beyond (length (m.parts k.behind.now)) (length (m.published k.behind.now)) i other)
        ∙ (known.reads.drafts i x ((ready is).1 i x h)).1

    adder_knows : Knows m opening behind' words' id (added_view (m.is_publication e) v e t)
    unfolding behind'
    adder_knows = record {
      opened = known.opened;
      begins = ([], append-nil _ ∙ ap (λ l. l ++ e ∷ []) all);
      before = ([], append-nil _ ∙ ap (λ l. l ++ e ∷ []) all);
      heard = prefix-snoc v.heard k.behind.history e known.heard;
      stands = (t, refl, subst (λ l. Runs m.steps opening (l ++ e ∷ []) t) (sym all) legal');
      looked = λ f h. (let a = known.looked f h in let b = length-append v.seen (e ∷ []) in omega arith);
      reads = adder_reads (m.is_publication e) refl;
      holds = adder_holds;
      idle = λ no_caller. absurd (none_not (m.caller e) (sym no_caller ∙ called));
      own = λ d h. (ap (λ l. entries_of m.caller d (l ++ e ∷ [])) (sym all), ap (λ l. entries_of m.caller d (l ++ e ∷ [])) (sym all));
      listed = known.listed;
      desk = known.desk;
    }

    others_know : (j : ℕ) (u : View S E P) → j ≢ id → get_elem? s.views j ≡ some u → u.spent ≡ false → Knows m opening behind' words' j u
    unfolding behind'
    others_know j u other there alive =
        let theirs = k.each_seat j u there alive in
        record {
          opened = theirs.opened;
          begins = prefix-snoc u.seen k.behind.history e theirs.begins;
          before = prefix-snoc u.before k.behind.history e theirs.before;
          heard = prefix-snoc u.heard k.behind.history e theirs.heard;
          stands = theirs.stands;
          looked = theirs.looked;
          reads = others_read (m.is_publication e) refl j u other there alive theirs.reads;
          holds = λ p x h. (let before = theirs.holds p x h in (turn-front p ∙ before.0, before.1, unheld_stays p (λ y was. other (sym before.1 ∙ (known.holds p y was).1)) ∙ before.2));
          idle = theirs.idle;
          own = λ d h.
              let added = apart d (λ same. other (k.seats.one_seat j id u v d there at alive live h (called ∙ ap (λ n. Some n) same))) in
              (added ∙ (theirs.own d h).0, added ∙ (theirs.own d h).1);
          listed = theirs.listed;
          desk = theirs.desk;
        }

    unmade' : (d : ℕ) → is_in d k.behind.made ≡ false → entries_of m.caller d (k.behind.history ++ e ∷ []) ≡ []
    unmade' d absent = apart d (λ same. not_both (is_in d k.behind.made) (ap (λ n. is_in n k.behind.made) (sym same) ∙ (known.listed (m.caller e) called).0) absent) ∙ k.unmade d absent

    abbrev IsEnd : List E → Ended E → Type 0
    IsEnd history x = (is_in x.caller k.behind.made ≡ true) × (entries_of m.caller x.caller history ≡ x.entries)

    at_end' : All (IsEnd (k.behind.history ++ e ∷ [])) k.behind.ended
    at_end' = all_two (IsEnd k.behind.history) (λ (x : Ended E). x.caller ≢ m.caller e) (IsEnd (k.behind.history ++ e ∷ [])) k.behind.ended
        (λ (x : Ended E) old other. (old.0, apart x.caller (λ same. other (sym same)) ∙ old.1))
        k.at_end (not_among (m.caller e) k.behind.ended (known.listed (m.caller e) called).1)

    pub added_keeps : IsKept m opening size (record { words = slice_set s.words 0 (word_of (front_after m.is_publication (k.behind.history ++ e ∷ []))); homes = s.homes; views = slice_set s.views id (added_view (m.is_publication e) v e t) })
    unfolding words' behind'
    added_keeps = record {
      behind = behind';
      begins = k.begins;
      legal = legal';
      front = index-same s.words 0 _ (let w = k.wide in omega arith);
      width = width_stays k.behind.now e t step ∙ k.width;
      wide = length-set s.words 0 _ ∙ k.wide ∙ (let w = width_stays k.behind.now e t step in let n = count in omega arith);
      deep = k.deep ∙ sym count;
      turns = λ p h. subst (λ n. n < 2) (sym (turn-front p)) (k.turns p (let n = count in omega arith));
      at_home = λ p x zero_turn is.
          let z : turn_of s.words p ≡ 0 = sym (turn-front p) ∙ zero_turn in
          k.at_home p x z (sym (unheld_stays p (λ y was. let o = (known.holds p y was).0 in let q : 1 ≡ 0 = sym o ∙ z in omega arith)) ∙ is);
      out = λ p h o. out_set s.views id v (added_view (m.is_publication e) v e t) at refl (k.behind.owner p) p (λ x. held_after-some (m.parts t) p v.held ∙ x) (k.out p (let n = count in omega arith) (sym (turn-front p) ∙ o));
      bank = bank' (m.is_publication e) refl;
      each_seat = each_set s.views id (added_view (m.is_publication e) v e t) (Knows m opening behind' words') (λ _. adder_knows) others_know;
      seats = seats_set k.behind behind' s.views id v (added_view (m.is_publication e) v e t) k.seats at (refl, refl, refl) refl refl;
      unmade = unmade';
      at_end = at_end';
    }

    pub added_meets : Meets m v (added_view (m.is_publication e) v e t)
    unfolding behind'
    added_meets = (
      (e ∷ [], refl),
      (opening, t, known.opened, k.begins, refl, subst (λ l. Runs m.steps opening (l ++ e ∷ []) t) (sym all) legal'),
      (λ p x h. (adder_holds p x h).2),
      (λ desk. subst (λ l. All (λ (x : Ended E). entries_of m.caller x.caller (l ++ e ∷ []) ≡ x.entries) v.ended) (sym all) (ended_right k.behind.made m.caller (k.behind.history ++ e ∷ []) v.ended k.behind.ended (known.desk desk).1 at_end')),
      (λ desk c h. ap (λ l. entries_of m.caller c (l ++ e ∷ [])) all ∙ unmade' c (ap (is_in c) (sym (known.desk desk).0) ∙ h)),
      (refl, refl, refl, refl, refl, refl),
      subst (λ l. All (Rattle.turn_book.specs.Banks.IsRight (m.published t) (count_by m.is_publication (l ++ e ∷ []))) v.notes) (sym all) (adder_reads (m.is_publication e) refl).notes,
    )

    -- of a publication the generation known is one more than the front's was
    pub added_knows : (g : ℕ) → m.is_publication e ≡ true → (added_view (m.is_publication e) v e t).knows ≡ Some g → (g ≡ count_by m.is_publication k.behind.history + 1) × (g < 2 ^ 32)
    unfolding behind'
    added_knows g is h =
        let a = (adder_reads (m.is_publication e) refl).knows g h in
        let n = publications true is in
        let b = bounded opening t (k.behind.history ++ e ∷ []) k.begins legal' in
        let low : count_by m.is_publication (k.behind.history ++ e ∷ []) ≤ 2 ^ 20 = b.1 in
        (omega (arith, a.0), omega (arith, a.0))

  module _ (s : State P (View S E P)) (k : IsKept m opening size s) (id : ℕ) (v : View S E P) (had : Front) (e : E)
      (at : get_elem? s.views id ≡ some v) (live : v.spent ≡ false) (last : IsLastLook had v)
      (leads : LeadsOn m.steps had v e) (holds : HoldsReach reach had v e)
      (drafted : m.is_publication e ≡ true → HasRegistry v × HasDrafted m.steps m.published had v e)
      (found : slice_index s.words 0 ≡ word_of had % 2 ^ 64) where
    mine : Knows m opening k.behind s.words id v
    mine = k.each_seat id v at live

    -- the front is the one of the last look
    pub had_is : had ≡ front_after m.is_publication k.behind.history
    had_is =
        let b = bounded opening k.behind.now k.behind.history k.begins k.legal in
        let long : length k.behind.history ≤ 2 ^ 40 = b.0 in
        let many : count_by m.is_publication k.behind.history ≤ 2 ^ 20 = b.1 in
        let low = mine.looked had last in
        let prefix = prefix-length v.seen k.behind.history mine.begins in
        let below : had.generation ≤ count_by m.is_publication k.behind.history = last_all (λ (f : Front). f.generation ≤ count_by m.is_publication k.behind.history) v.looks had mine.reads.looks last in
        let fits : word_of had % 2 ^ 64 ≡ word_of had = omega arith in
        sym (front_of-word had (omega arith)) ∙ ap front_of (sym fits ∙ sym found ∙ k.front) ∙ front_of-word (front_after m.is_publication k.behind.history) (omega arith)

    length_is : had.length ≡ length k.behind.history
    length_is = ap (λ (f : Front). f.length) had_is

    -- so the view has seen the whole history
    pub all : v.seen ≡ k.behind.history
    all =
        let low = mine.looked had last in
        let l = length_is in
        prefix-whole v.seen k.behind.history mine.begins (omega arith)

    pub is_at : IsAt had v k.behind.now
    is_at =
        let (s', is, runs) = mine.stands in
        let same : s' ≡ k.behind.now = runs-one m.steps one opening k.behind.history s' k.behind.now (subst (λ l. Runs m.steps opening l s') all runs) k.legal in
        (length_is ∙ ap length (sym all), is ∙ ap (λ x. Some x) same)

    pub after : S
    after = (leads k.behind.now is_at).0

    pub step : m.steps k.behind.now e after
    unfolding after
    step = (leads k.behind.now is_at).1

    pub reached : (p : ℕ) → reach k.behind.now e p ≡ true → is_some (held_at p v.held) ≡ true
    reached = holds k.behind.now is_at

    pub ready : IsReady v e after
    ready is = (let d = drafted is in (d.0, d.1 k.behind.now after is_at step))

    -- the front after the entry fits the word
    pub raises : (word_of had % 2 ^ 64 + rise_of (m.is_publication e)) % 2 ^ 64 ≡ word_of (front_after m.is_publication (k.behind.history ++ e ∷ []))
    raises =
        let b = bounded opening after (k.behind.history ++ e ∷ []) k.begins (runs-snoc m.steps opening k.behind.history k.behind.now after e k.legal step) in
        let long : length (k.behind.history ++ e ∷ []) ≤ 2 ^ 40 = b.0 in
        let many : count_by m.is_publication (k.behind.history ++ e ∷ []) ≤ 2 ^ 20 = b.1 in
        let n = length-append k.behind.history (e ∷ []) in
        let c = count-snoc m.is_publication k.behind.history e in
        let f = ap (λ (x : Front). x.generation) had_is in
        let l = length_is in
        by_case (m.is_publication e) had.generation had.length (length k.behind.history) (count_by m.is_publication k.behind.history) (length (k.behind.history ++ e ∷ [])) (count_by m.is_publication (k.behind.history ++ e ∷ [])) l f n c (omega arith) (omega arith)
      where
        by_case : (b : Bool) (g l n c n' c' : ℕ) → l ≡ n → g ≡ c → n' ≡ n + 1 → c' ≡ c + cond b 1 0 → n' < 2 ^ 41 → c' ≤ 2 ^ 20 → ((g * 2 ^ 41 + l) % 2 ^ 64 + rise_of b) % 2 ^ 64 ≡ c' * 2 ^ 41 + n'
        by_case true g l n c n' c' el eg en ec low small = omega arith
        by_case false g l n c n' c' el eg en ec low small = omega arith

  -- the front is exchanged: the entry is added, or another front is found
  pub commit_allows : (slots id : ℕ) (me : Me P (View S E P)) (st : Step P) (had : Front) (e : E) → me.0.spent ≡ false → me.0.caller ≡ Some (m.caller e) → IsLastLook had me.0 → st.first ≡ word_of had % 2 ^ 64
      → LeadsOn m.steps had me.0 e → HoldsReach reach had me.0 e → (m.is_publication e ≡ true → HasRegistry me.0 × HasDrafted m.steps m.published had me.0 e)
      → Allows (IsKept m opening size) slots id me 0 (λ n. either (n == st.first) ((word_of had % 2 ^ 64 + rise_of (m.is_publication e)) % 2 ^ 64) n) (Commits m (Some e) st me)
  commit_allows slots id me st had e live called last first leads holds drafted s k deep at fits =
      elim (slice_index s.words 0 == st.first) as (λ b. (slice_index s.words 0 == st.first) ≡ b → Done b) [
        | true ↦ λ q. won q
        | false ↦ λ q. lost q
      ] refl
    where
      next : ℕ
      next = (word_of had % 2 ^ 64 + rise_of (m.is_publication e)) % 2 ^ 64

      Done : Bool → Type 0
      Done b = (w : View S E P) × (a : Act P) × Valid s.homes me.1 a × IsKept m opening size (stepped s 0 (either b ((word_of had % 2 ^ 64 + rise_of (m.is_publication e)) % 2 ^ 64) (slice_index s.words 0)) id me.1 w a) × Commits m (Some e) st me (slice_index s.words 0) (w, carried_after me.1 a)

      known : Knows m opening k.behind s.words id me.0
      known = k.each_seat id me.0 at live

      won : (slice_index s.words 0 == st.first) ≡ true → Done true
      won q =
          let v = me.0 in
          let found : slice_index s.words 0 ≡ word_of had % 2 ^ 64 = (let f : slice_index s.words 0 ≡ st.first = grind arith in f ∙ first) in
          let whole = all s k id v had e at live last leads holds drafted found in
          let is = had_is s k id v had e at live last leads holds drafted found in
          let t = after s k id v had e at live last leads holds drafted found in
          let goes = step s k id v had e at live last leads holds drafted found in
          let here = is_at s k id v had e at live last leads holds drafted found in
          let reaches = reached s k id v had e at live last leads holds drafted found in
          let done = ready s k id v had e at live last leads holds drafted found in
          let w = added_view (m.is_publication e) v e t in (
            w,
            keeps,
            tt,
            subst (λ n. IsKept m opening size (record { words = slice_set s.words 0 n; homes = s.homes; views = slice_set s.views id w })) (sym (raises s k id v had e at live last leads holds drafted found))
                (added_keeps s k id v e t at live called whole goes reaches done),
            (
              refl,
              added_meets s k id v e t at live called whole goes reaches done,
              refl,
              refl,
              refl,
              (λ p. held_after-some (m.parts t) p v.held),
              (λ same. (
                (λ f looked. sym (some_is had f (sym last ∙ looked)) ∙ is ∙ ap (front_after m.is_publication) (sym whole)),
                refl,
                (
                  refl,
                  (λ u x before now. subst (λ y. m.steps u e y) (some_is t x now) (subst (λ y. m.steps y e t) (some_is k.behind.now u (sym here.1 ∙ before)) goes)),
                  (refl, refl, refl),
                  (λ f looked publishes g knows.
                      let a = added_knows s k id v e t at live called whole goes reaches done g publishes knows in
                      let same : f.generation ≡ count_by m.is_publication k.behind.history = ap (λ (x : Front). x.generation) (sym (some_is had f (sym last ∙ looked)) ∙ is) in
                      (omega (arith, a.0), a.1)),
                ),
              )),
              λ other. absurd (other (found ∙ sym first)),
            ),
          )

      lost : (slice_index s.words 0 == st.first) ≡ false → Done false
      lost q =
          let v = me.0 in
          let other : slice_index s.words 0 ≢ st.first = λ h. (let no_way : ⊥ = grind arith in no_way) in
          let f : Front = front_of (slice_index s.words 0) in
          let is = front_is m opening size bounded s k id v at live in
          let Low : Miss → Type 0 = λ x. (x.had.generation ≤ count_by m.is_publication k.behind.history) × (x.found.generation ≤ count_by m.is_publication k.behind.history) in
          let below : had.generation ≤ count_by m.is_publication k.behind.history = last_all (λ (x : Front). x.generation ≤ count_by m.is_publication k.behind.history) v.looks had known.reads.looks last in
          let same : f.generation ≡ count_by m.is_publication k.behind.history = ap (λ (x : Front). x.generation) is in
          let one_more : List Miss = record { had = had; found = f } ∷ [] in
          let misses : List Miss = v.misses ++ one_more in (
            met_view m opening size bounded v k.behind.history k.behind.now v.looks misses v.knows,
            keeps,
            tt,
            met_keeps m opening size bounded s k id v at live v.looks misses v.knows (looks_low m opening size bounded s k id v at live)
                (known.reads.looks, All-append Low v.misses one_more known.reads.misses (All-cons Low (record { had = had; found = f }) [] (below, omega arith) (All-nil Low)), known.reads.knows),
            (
              refl,
              meets m opening size bounded s k id v at live v.looks misses v.knows,
              refl,
              refl,
              refl,
              (λ p. refl),
              (λ equal. absurd (other equal)),
              λ _. (is, refl, (λ c by. (known.own c by).0), (refl, refl, refl), λ x looked. ap (λ (y : Front). v.misses ++ record { had = y; found = f } ∷ []) (some_is had x (sym last ∙ looked))),
            ),
          )
