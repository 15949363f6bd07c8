-- A swap of a turn keeps the rule: the part comes into hand, or the turn was taken
use Rattle.std.proofs.Common.{◌≡◌, ◌≢◌, ℕ, ◌+◌, ◌<◌, List, [], ◌∷◌, ◌++◌, length, true, false, refl, sym, ap, ◌∙◌, subst, arith, cond, ◌==◌}
use Rattle.std.specs.Prelude.{Some, None, slice_get, slice_index, slice_set, nat_eq, is_some, count_by}
use mathlib.Core.Option.{some, none}
use lib.ListN.{get_elem?}
use Rattle.atomic_table.specs.Table.{State, Me, Step, Act, Valid, stepped, keeps, takes, Allows, carried_after}
use Rattle.atomic_table.proofs.Lists.{set_else}
use Rattle.turn_book.specs.declared.view.View.{View}
use Rattle.turn_book.specs.Hands.{held_at}
use Rattle.turn_book.specs.Banks.{is_odd, HasRegistry}
use Rattle.turn_book.specs.Rule.{Workings, Behind, IsKept, Knows, Reads, IsOut, turn_of}
use Rattle.turn_book.specs.Plays.{Takes}
use Rattle.turn_book.proofs.Lists.{index-other, index-same, set-itself, length-set, get_here, get_there}
use Rattle.turn_book.proofs.Banking.{SameBanks, SameSights, place-beyond, knows_kept}
use Rattle.turn_book.proofs.Seating.{each_set, out_set, seats_set, view_keeps}

module _ {S E P : Type 0} (m : Workings S E P) (opening : S) (size : ℕ) where
  abbrev pub with_part : View S E P → ℕ → P → View S E P
  with_part v p x = record v { held = record { part = p; value = x } ∷ v.held; took = v.took ++ p ∷ [] }

  module _ (s : State P (View S E P)) (k : IsKept m opening size s) (id : ℕ) (v : View S E P) (p : ℕ) (x : P)
      (at : get_elem? s.views id ≡ some v) (live : v.spent ≡ false) (called : v.caller ≢ None)
      (inside : p < length (m.parts k.behind.now)) (free : turn_of s.words p ≡ 0) (is : slice_get (m.parts k.behind.now) p ≡ Some x) where
    words' : List ℕ
    words' = slice_set s.words (p + 1) 1

    behind' : Behind S E
    behind' = record { history = k.behind.history; now = k.behind.now; owner = λ q. cond (nat_eq p q) id (k.behind.owner q); made = k.behind.made; ended = k.behind.ended }

    views' : List (View S E P)
    views' = slice_set s.views id (with_part v p x)

    known : Knows m opening k.behind s.words id v
    known = k.each_seat id v at live

    turn-other : (q : ℕ) → p ≢ q → turn_of words' q ≡ turn_of s.words q
    unfolding words'
    turn-other q h = index-other s.words (p + 1) (q + 1) 1 (λ e. h (omega arith))

    turn-same : turn_of words' p ≡ 1
    unfolding words'
    turn-same = index-same s.words (p + 1) 1 (let w = k.wide in omega arith)

    owner-same : behind'.owner p ≡ id
    unfolding behind'
    owner-same = let t : nat_eq p p ≡ true = grind arith in ap (λ b. cond b id (k.behind.owner p)) t

    owner-other : (q : ℕ) → p ≢ q → behind'.owner q ≡ k.behind.owner q
    unfolding behind'
    owner-other q h = let t : nat_eq p q ≡ false = grind arith in ap (λ b. cond b id (k.behind.owner q)) t

    IsHeld : ℕ → ℕ → P → Type 0
    IsHeld j q y = (turn_of words' q ≡ 1) × (behind'.owner q ≡ j) × (slice_get (m.parts k.behind.now) q ≡ Some y)

    -- what was held before, by this seat or another, still is
    holds_still : (j q : ℕ) (y : P) → (turn_of s.words q ≡ 1) × (k.behind.owner q ≡ j) × (slice_get (m.parts k.behind.now) q ≡ Some y) → IsHeld j q y
    unfolding IsHeld
    holds_still j q y (taken, by, value) =
        let other : p ≢ q = λ e. (let f : turn_of s.words q ≡ 0 = ap (turn_of s.words) (sym e) ∙ free in let no_way : ⊥ = omega arith in no_way) in
        (turn-other q other ∙ taken, owner-other q other ∙ by, value)

    taker_holds : (q : ℕ) (y : P) → held_at q (record { part = p; value = x } ∷ v.held) ≡ Some y → IsHeld id q y
    unfolding IsHeld
    taker_holds q y h = elim (nat_eq p q) as (λ b. nat_eq p q ≡ b → (elim b [ true ↦ Some x | false ↦ held_at q v.held ]) ≡ Some y → IsHeld id q y) [
      | true ↦ λ t e. (let same : p ≡ q = grind arith in subst (λ r. (turn_of words' r ≡ 1) × (behind'.owner r ≡ id) × (slice_get (m.parts k.behind.now) r ≡ Some y)) same (turn-same, owner-same, is ∙ e))
      | false ↦ λ t e. holds_still id q y (known.holds q y e)
    ] refl h

    -- the banks stay
    same_banks : SameBanks (length (m.parts k.behind.now)) s.words words'
    unfolding words'
    same_banks j h = index-other s.words (p + 1) j 1 (λ e. omega arith)

    reads_kept : (u w : View S E P) → SameSights u w → w.drafts ≡ u.drafts → w.knows ≡ u.knows → (HasRegistry u → HasRegistry w) → Reads m k.behind s.words u → Reads m behind' words' w
    unfolding behind'
    reads_kept u w sights drafts knows keep reads = knows_kept _ _ _ _ _ _ s.words words' u w refl refl refl same_banks sights drafts knows keep reads

    still_has : HasRegistry v → HasRegistry (with_part v p x)
    still_has h = elim (nat_eq p 0) as (λ b. is_some (elim b [ true ↦ Some x | false ↦ held_at 0 v.held ]) ≡ true) [ true ↦ refl | false ↦ h ]

    taker_knows : Knows m opening behind' words' id (with_part v p x)
    unfolding IsHeld behind'
    taker_knows = record {
      opened = known.opened;
      begins = known.begins;
      before = known.before;
      heard = known.heard;
      stands = known.stands;
      looked = known.looked;
      reads = reads_kept v (with_part v p x) (refl, refl, refl) refl refl still_has known.reads;
      holds = taker_holds;
      idle = λ no_caller. absurd (called no_caller);
      own = known.own;
      listed = known.listed;
      desk = known.desk;
    }

    others_know : (j : ℕ) (u : View S E P) → j ≢ id → get_elem? s.views j ≡ some u → u.spent ≡ false → Knows m opening behind' words' j u
    unfolding IsHeld behind'
    others_know j u other there alive =
        let theirs = k.each_seat j u there alive in
        record {
          opened = theirs.opened;
          begins = theirs.begins;
          before = theirs.before;
          heard = theirs.heard;
          stands = theirs.stands;
          looked = theirs.looked;
          reads = reads_kept u u (refl, refl, refl) refl refl (λ h. h) theirs.reads;
          holds = λ q y h. holds_still j q y (theirs.holds q y h);
          idle = theirs.idle;
          own = theirs.own;
          listed = theirs.listed;
          desk = theirs.desk;
        }

    still_out : (q : ℕ) → q < length (m.parts k.behind.now) → turn_of words' q ≡ 1 → IsOut views' (behind'.owner q) q
    unfolding views'
    still_out q h o = elim (nat_eq p q) as (λ b. nat_eq p q ≡ b → IsOut views' (behind'.owner q) q) [
      | true ↦ λ t.
          let same : p ≡ q = grind arith in
          let own : nat_eq p p ≡ true = grind arith in
          let taker = with_part v p x in
          subst (λ r. IsOut (slice_set s.views id taker) (behind'.owner r) r) same
          (taker, subst (λ n. get_elem? (slice_set s.views id taker) n ≡ some taker) (sym owner-same) (get_here s.views id v taker at), live, ap (λ b. is_some (elim b [ true ↦ Some x | false ↦ held_at p v.held ])) own)
      | false ↦ λ t.
          let other : p ≢ q = λ e. (let no_way : ⊥ = grind arith in no_way) in
          subst (λ i. IsOut (slice_set s.views id (with_part v p x)) i q) (sym (owner-other q other))
          (out_set s.views id v (with_part v p x) at refl (k.behind.owner q) q (λ has. ap (λ b. is_some (elim b [ true ↦ Some x | false ↦ held_at q v.held ])) t ∙ has) (k.out q h (sym (turn-other q other) ∙ o)))
    ] refl

    pub taken_keeps : IsKept m opening size (record { words = slice_set s.words (p + 1) 1; homes = slice_set s.homes p none; views = slice_set s.views id (with_part v p x) })
    unfolding words' behind' views'
    taken_keeps = record {
      behind = behind';
      begins = k.begins;
      legal = k.legal;
      front = index-other s.words (p + 1) 0 1 (λ e. omega arith) ∙ k.front;
      width = k.width;
      wide = length-set s.words (p + 1) 1 ∙ k.wide;
      deep = length-set s.homes p none ∙ k.deep;
      turns = λ q h. elim (nat_eq p q) as (λ b. nat_eq p q ≡ b → turn_of words' q < 2) [
        | true ↦ λ t. (let same : p ≡ q = grind arith in let o : turn_of words' q ≡ 1 = subst (λ r. turn_of words' r ≡ 1) same turn-same in omega arith)
        | false ↦ λ t. (let other : p ≢ q = λ e. (let no_way : ⊥ = grind arith in no_way) in subst (λ n. n < 2) (sym (turn-other q other)) (k.turns q h))
      ] refl;
      at_home = λ q y zero_turn value.
          let other : p ≢ q = λ e. (let o : turn_of words' q ≡ 1 = subst (λ r. turn_of words' r ≡ 1) e turn-same in let no_way : ⊥ = omega arith in no_way) in
          set_else s.homes p q none (λ e. other (sym e)) ∙ k.at_home q y (sym (turn-other q other) ∙ zero_turn) value;
      out = still_out;
      bank = λ i y h. same_banks _ (place-beyond (length (m.parts k.behind.now)) (length (m.published k.behind.now)) i (is_odd (count_by m.is_publication k.behind.history))) ∙ k.bank i y h;
      each_seat = each_set s.views id (with_part v p x) (Knows m opening behind' words') (λ _. taker_knows) others_know;
      seats = seats_set k.behind behind' s.views id v (with_part v p x) k.seats at (refl, refl, refl) refl refl;
      unmade = k.unmade;
      at_end = k.at_end;
    }

  pub take_allows : (slots id : ℕ) (me : Me P (View S E P)) (st : Step P) (p : ℕ) → me.0.spent ≡ false → me.0.caller ≢ None → p < slots
      → Allows (IsKept m opening size) slots id me (p + 1) (λ _. 1) (Takes m p st me)
  take_allows slots id me st p live called inside s k count at small =
      elim (slice_index s.words (p + 1) == 0) as (λ b. (slice_index s.words (p + 1) == 0) ≡ b → Done) [
        | true ↦ λ q. free q
        | false ↦ λ q. taken q
      ] refl
    where
      Done : Type 0
      Done = (w : View S E P) × (a : Act P) × Valid s.homes me.1 a × IsKept m opening size (stepped s (p + 1) 1 id me.1 w a) × Takes m p st me (slice_index s.words (p + 1)) (w, carried_after me.1 a)

      known : Knows m opening k.behind s.words id me.0
      known = k.each_seat id me.0 at live

      within : p < length (m.parts k.behind.now)
      within = let d = k.deep in omega arith

      free : (slice_index s.words (p + 1) == 0) ≡ true → Done
      free q =
          let zero_turn : slice_index s.words (p + 1) ≡ 0 = grind arith in
          let (x, is) = get_there (m.parts k.behind.now) p within in (
            with_part me.0 p x,
            takes p x,
            k.at_home p x zero_turn is,
            taken_keeps s k id me.0 p x at live called within zero_turn is,
            ((refl, refl, refl, refl, refl, refl), (refl, refl, refl, refl, refl, refl), (refl, refl, refl), (λ _. (x, refl, refl, refl, refl, (opening, k.behind.history, k.behind.now, known.opened, k.begins, known.begins, k.legal, is))), λ other. absurd (other zero_turn)),
          )

      taken : (slice_index s.words (p + 1) == 0) ≡ false → Done
      taken q =
          let other : slice_index s.words (p + 1) ≢ 0 = λ h. (let no_way : ⊥ = grind arith in no_way) in
          let low : slice_index s.words (p + 1) < 2 = k.turns p within in
          let one_turn : slice_index s.words (p + 1) ≡ 1 = omega arith in
          let w : View S E P = record me.0 { found = me.0.found ++ p ∷ [] } in (
            w,
            keeps,
            tt,
            subst (λ l. IsKept m opening size (record { words = l; homes = s.homes; views = slice_set s.views id w })) (sym (set-itself s.words (p + 1) 1 one_turn))
                (view_keeps m opening size s k id me.0 w at (refl, refl, refl) (λ p h. h) (λ _. record { opened = known.opened; begins = known.begins; before = known.before; heard = known.heard; stands = known.stands; looked = known.looked; reads = record { looks = known.reads.looks; misses = known.reads.misses; notes = known.reads.notes; knows = known.reads.knows; drafts = known.reads.drafts }; holds = known.holds; idle = known.idle; own = known.own; listed = known.listed; desk = known.desk })),
            ((refl, refl, refl, refl, refl, refl), (refl, refl, refl, refl, refl, refl), (refl, refl, refl), (λ z. absurd (other z)), λ _. (refl, refl, refl, refl)),
          )
