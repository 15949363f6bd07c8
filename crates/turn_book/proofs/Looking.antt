-- A load of the front keeps the rule: the seat has seen the whole history
use Rattle.std.proofs.Common.{◌≡◌, ℕ, ◌≤◌, ◌^◌, true, false, cond, List, [], ◌∷◌, ◌++◌, length, refl, sym, ap, ◌∙◌, subst, arith}
use Rattle.std.proofs.lemmas.List.Elements.{All-nil, All-cons, All-append}
use Rattle.std.specs.Prelude.{Option, Some, slice_index, slice_set, is_some, All, count_by}
use mathlib.Core.Option.{some}
use lib.ListN.{get_elem?}
use Rattle.atomic_table.specs.Table.{State, Me, Step, keeps, Allows}
use Rattle.turn_book.specs.declared.view.Front.{Front}
use Rattle.turn_book.specs.declared.view.Miss.{Miss}
use Rattle.turn_book.specs.declared.view.View.{View}
use Rattle.turn_book.specs.Histories.{is_in, last_of}
use Rattle.turn_book.specs.Hands.{held_at}
use Rattle.turn_book.specs.Laws.{IsBounded}
use Rattle.turn_book.specs.Fronts.{front_of, front_after}
use Rattle.turn_book.specs.Banks.{HasRegistry}
use Rattle.turn_book.specs.Rule.{Workings, Knows, IsKept}
use Rattle.turn_book.specs.Plays.{Meets, Looks, Learns}
use Rattle.turn_book.proofs.Lists.{set-itself, last-snoc, some_is, prefix-nil, prefix-length, ended_right}
use Rattle.turn_book.proofs.Banking.{front_of-word}
use Rattle.turn_book.proofs.Seating.{view_keeps}

module _ {S E P : Type 0} (m : Workings S E P) (opening : S) (size : ℕ) (bounded : IsBounded m.opens m.steps m.is_publication) where
  -- a view that has seen the whole history, with these looks and misses, and knowing this generation or none
  abbrev pub met_view : View S E P → List E → S → List Front → List Miss → Option ℕ → View S E P
  met_view v history now looks misses knows = record v { seen = history; now = Some now; looks = looks; misses = misses; knows = knows }

  module _ (s : State P (View S E P)) (k : IsKept m opening size s) (id : ℕ) (v : View S E P) (at : get_elem? s.views id ≡ some v) (live : v.spent ≡ false) where
    known : Knows m opening k.behind s.words id v
    known = k.each_seat id v at live

    -- the front word is read back
    pub front_is : front_of (slice_index s.words 0) ≡ front_after m.is_publication k.behind.history
    front_is = ap front_of k.front ∙ front_of-word (front_after m.is_publication k.behind.history) (let b = bounded opening k.behind.now k.behind.history k.begins k.legal in let low : length k.behind.history ≤ 2 ^ 40 = b.0 in omega arith)

    -- no generation among these is above the front's, and the one known is the front's, with the registry held
    abbrev pub AreLow : List Front → List Miss → Option ℕ → Type 0
    AreLow looks misses knows =
        All (λ (f : Front). f.generation ≤ count_by m.is_publication k.behind.history) looks
        × All (λ (x : Miss). (x.had.generation ≤ count_by m.is_publication k.behind.history) × (x.found.generation ≤ count_by m.is_publication k.behind.history)) misses
        × ((g : ℕ) → knows ≡ Some g → (g ≡ count_by m.is_publication k.behind.history) × HasRegistry v)

    pub met_knows : (looks : List Front) (misses : List Miss) (knows : Option ℕ) → ((f : Front) → last_of looks ≡ Some f → f.length ≤ length k.behind.history) → AreLow looks misses knows → Knows m opening k.behind s.words id (met_view v k.behind.history k.behind.now looks misses knows)
    met_knows looks misses knows low fronts = record {
      opened = known.opened;
      begins = prefix-nil k.behind.history;
      before = known.before;
      heard = known.heard;
      stands = (k.behind.now, refl, k.legal);
      looked = low;
      reads = record { looks = fronts.0; misses = fronts.1; notes = known.reads.notes; knows = fronts.2; drafts = known.reads.drafts };
      holds = known.holds;
      idle = known.idle;
      own = λ c called. (refl, (known.own c called).1);
      listed = known.listed;
      desk = known.desk;
    }

    pub meets : (looks : List Front) (misses : List Miss) (knows : Option ℕ) → Meets m v (met_view v k.behind.history k.behind.now looks misses knows)
    meets looks misses knows = (
      known.begins,
      (opening, k.behind.now, known.opened, k.begins, refl, k.legal),
      (λ p x h. (known.holds p x h).2),
      (λ desk. ended_right k.behind.made m.caller k.behind.history v.ended k.behind.ended (known.desk desk).1 k.at_end),
      (λ desk c h. k.unmade c (ap (is_in c) (sym (known.desk desk).0) ∙ h)),
      (refl, refl, refl, refl, refl, refl),
      known.reads.notes,
    )

    -- the last look is no longer than the history
    pub looks_low : (f : Front) → last_of v.looks ≡ Some f → f.length ≤ length k.behind.history
    looks_low f h = let a = known.looked f h in let b = prefix-length v.seen k.behind.history known.begins in omega arith

    pub look_low : (f : Front) → last_of (v.looks ++ front_of (slice_index s.words 0) ∷ []) ≡ Some f → f.length ≤ length k.behind.history
    look_low f h =
        let is : front_of (slice_index s.words 0) ≡ f = some_is (front_of (slice_index s.words 0)) f (sym (last-snoc v.looks (front_of (slice_index s.words 0))) ∙ h) in
        let n : length k.behind.history ≡ f.length = ap (λ (x : Front). x.length) (sym front_is ∙ is) in
        omega arith

    -- one look more, of the front's generation
    pub looks_more : All (λ (f : Front). f.generation ≤ count_by m.is_publication k.behind.history) (v.looks ++ front_of (slice_index s.words 0) ∷ [])
    looks_more =
        let Low : Front → Type 0 = λ f. f.generation ≤ count_by m.is_publication k.behind.history in
        let same : (front_of (slice_index s.words 0)).generation ≡ count_by m.is_publication k.behind.history = ap (λ (x : Front). x.generation) front_is in
        All-append Low v.looks (front_of (slice_index s.words 0) ∷ []) known.reads.looks (All-cons Low (front_of (slice_index s.words 0)) [] (omega arith) (All-nil Low))

    -- what a look tells of the generation
    pub looked_knows : (g : ℕ) → cond (is_some (held_at 0 v.held)) (Some (front_of (slice_index s.words 0)).generation) v.knows ≡ Some g → (g ≡ count_by m.is_publication k.behind.history) × HasRegistry v
    looked_knows g = elim (is_some (held_at 0 v.held)) as (λ b. is_some (held_at 0 v.held) ≡ b → cond b (Some (front_of (slice_index s.words 0)).generation) v.knows ≡ Some g → (g ≡ count_by m.is_publication k.behind.history) × HasRegistry v) [
      | true ↦ λ has e. (sym (some_is _ g e) ∙ ap (λ (x : Front). x.generation) front_is, has)
      | false ↦ λ has e. known.reads.knows g e
    ] refl

    pub met_keeps : (looks : List Front) (misses : List Miss) (knows : Option ℕ) → ((f : Front) → last_of looks ≡ Some f → f.length ≤ length k.behind.history) → AreLow looks misses knows
        → IsKept m opening size (record { words = slice_set s.words 0 (slice_index s.words 0); homes = s.homes; views = slice_set s.views id (met_view v k.behind.history k.behind.now looks misses knows) })
    met_keeps looks misses knows low fronts =
        let w : View S E P = met_view v k.behind.history k.behind.now looks misses knows in
        subst (λ l. IsKept m opening size (record { words = l; homes = s.homes; views = slice_set s.views id w })) (sym (set-itself s.words 0 (slice_index s.words 0) refl))
        (view_keeps m opening size s k id v w at (refl, refl, refl) (λ p h. h) (λ _. met_knows looks misses knows low fronts))

  pub look_allows : (slots id : ℕ) (me : Me P (View S E P)) (st : Step P) → me.0.spent ≡ false → Allows (IsKept m opening size) slots id me 0 (λ n. n) (Looks m st me)
  look_allows slots id me st live s k deep at small =
      let v = me.0 in
      let found = front_of (slice_index s.words 0) in
      let looks = v.looks ++ found ∷ [] in
      let knows = cond (is_some (held_at 0 v.held)) (Some found.generation) v.knows in
      let known = k.each_seat id v at live in (
        met_view v k.behind.history k.behind.now looks v.misses knows,
        keeps,
        tt,
        met_keeps s k id v at live looks v.misses knows (look_low s k id v at live) (looks_more s k id v at live, known.reads.misses, looked_knows s k id v at live),
        (
          front_is s k id v at live,
          refl,
          meets s k id v at live looks v.misses knows,
          (λ c called. (known.own c called).0),
          (refl, refl, refl),
          refl,
          refl,
          (
            refl,
            refl,
            (λ has. ap (λ b. cond b (Some found.generation) v.knows) has),
            (λ none. ap (λ b. cond b (Some found.generation) v.knows) none),
            λ g e. (looked_knows s k id v at live g e).0 ∙ sym (ap (λ (x : Front). x.generation) (front_is s k id v at live)),
          ),
        ),
      )

  pub learn_allows : (slots id : ℕ) (me : Me P (View S E P)) (st : Step P) → me.0.spent ≡ false → Allows (IsKept m opening size) slots id me 0 (λ n. n) (Learns m st me)
  learn_allows slots id me st live s k deep at small =
      let v = me.0 in
      let known = k.each_seat id v at live in (
        met_view v k.behind.history k.behind.now v.looks v.misses v.knows,
        keeps,
        tt,
        met_keeps s k id v at live v.looks v.misses v.knows (looks_low s k id v at live) (known.reads.looks, known.reads.misses, known.reads.knows),
        (front_is s k id v at live, refl, meets s k id v at live v.looks v.misses v.knows, known.before, known.heard, (λ c called. (known.own c called).1), (refl, refl, refl), refl, refl, (refl, refl, refl)),
      )
