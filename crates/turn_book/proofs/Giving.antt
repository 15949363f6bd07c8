-- A store of 0 to the turn of a part in hand keeps the rule: the part is home
use Rattle.std.proofs.Common.{◌≡◌, ◌≢◌, ℕ, ◌+◌, ◌<◌, List, [], ◌∷◌, length, true, false, not, cond, refl, sym, ap, ◌∙◌, subst, arith}
use Rattle.std.specs.Prelude.{Some, None, slice_get, slice_index, slice_set, nat_eq, is_some, count_by}
use mathlib.Core.Option.{some}
use lib.ListN.{get_elem?}
use Rattle.atomic_table.specs.Table.{State, Step, gives, Allows}
use Rattle.atomic_table.proofs.Lists.{set_else, set_here}
use Rattle.turn_book.specs.declared.view.View.{View}
use Rattle.turn_book.specs.Hands.{held_at}
use Rattle.turn_book.specs.Banks.{is_odd, place, draft_at, HasRegistry}
use Rattle.turn_book.specs.Views.{given_view}
use Rattle.turn_book.specs.Rule.{Workings, IsKept, Knows, Reads, turn_of}
use Rattle.turn_book.specs.Plays.{Gives}
use Rattle.turn_book.proofs.Lists.{index-other, index-same, length-set, get_within, some_is, none_not}
use Rattle.turn_book.proofs.Holding.{held-without, held-else}
use Rattle.turn_book.proofs.Banking.{SameBanks, SameSights, place-beyond, knows_kept}
use Rattle.turn_book.proofs.Seating.{each_set, out_set, seats_set}

module _ {S E P : Type 0} (m : Workings S E P) (opening : S) (size : ℕ) where
  module _ (s : State P (View S E P)) (k : IsKept m opening size s) (id : ℕ) (v : View S E P) (p : ℕ) (x : P)
      (at : get_elem? s.views id ≡ some v) (live : v.spent ≡ false) (held : held_at p v.held ≡ Some x) where
    words' : List ℕ
    words' = slice_set s.words (p + 1) 0

    known : Knows m opening k.behind s.words id v
    known = k.each_seat id v at live

    turn-other : (q : ℕ) → p ≢ q → turn_of words' q ≡ turn_of s.words q
    unfolding words'
    turn-other q h = index-other s.words (p + 1) (q + 1) 0 (λ e. h (omega arith))

    inside : p < length (m.parts k.behind.now)
    inside = get_within (m.parts k.behind.now) p x (known.holds p x held).2

    turn-same : turn_of words' p ≡ 0
    unfolding words'
    turn-same = index-same s.words (p + 1) 0 (let w = k.wide in let i = inside in omega arith)

    holds_still : (j q : ℕ) (y : P) → p ≢ q → (turn_of s.words q ≡ 1) × (k.behind.owner q ≡ j) × (slice_get (m.parts k.behind.now) q ≡ Some y) → (turn_of words' q ≡ 1) × (k.behind.owner q ≡ j) × (slice_get (m.parts k.behind.now) q ≡ Some y)
    holds_still j q y other (taken, by, value) = (turn-other q other ∙ taken, by, value)

    -- the banks stay
    same_banks : SameBanks (length (m.parts k.behind.now)) s.words words'
    unfolding words'
    same_banks j h = index-other s.words (p + 1) j 0 (λ e. let i = inside in omega arith)

    reads_kept : (u w : View S E P) → SameSights u w → w.drafts ≡ u.drafts → w.knows ≡ u.knows → (HasRegistry u → HasRegistry w) → Reads m k.behind s.words u → Reads m k.behind words' w
    reads_kept u w sights drafts knows keep reads = knows_kept _ _ _ _ _ _ s.words words' u w refl refl refl same_banks sights drafts knows keep reads

    -- with the registry go the drafts and the generation known
    giver_reads : Reads m k.behind words' (given_view p v)
    giver_reads = record {
      looks = known.reads.looks;
      misses = known.reads.misses;
      notes = known.reads.notes;
      knows = λ g. elim (nat_eq p 0) as (λ b. nat_eq p 0 ≡ b → cond b None v.knows ≡ Some g → (g ≡ count_by m.is_publication k.behind.history) × HasRegistry (given_view p v)) [
        | true ↦ λ t e. absurd (none_not g e)
        | false ↦ λ t e. (let a = known.reads.knows g e in (a.0, still_has t a.1))
      ] refl;
      drafts = λ i y. elim (nat_eq p 0) as (λ b. nat_eq p 0 ≡ b → draft_at i (cond b [] v.drafts) ≡ Some y → HasRegistry (given_view p v) × (slice_index words' (place (length (m.parts k.behind.now)) (length (m.published k.behind.now)) (not (is_odd (count_by m.is_publication k.behind.history))) i) ≡ y)) [
        | true ↦ λ t e. absurd (none_not y e)
        | false ↦ λ t e. (let a = known.reads.drafts i y e in (still_has t a.0, same_banks _ (place-beyond (length (m.parts k.behind.now)) (length (m.published k.behind.now)) i (not (is_odd (count_by m.is_publication k.behind.history)))) ∙ a.1))
      ] refl;
    }
      where
        still_has : nat_eq p 0 ≡ false → HasRegistry v → HasRegistry (given_view p v)
        still_has t h = let other : p ≢ 0 = λ e. (let no_way : ⊥ = grind arith in no_way) in ap is_some (held-else p 0 other v.held) ∙ h

    giver_knows : Knows m opening k.behind words' id (given_view p v)
    giver_knows = record {
      opened = known.opened;
      begins = known.begins;
      before = known.before;
      heard = known.heard;
      stands = known.stands;
      looked = known.looked;
      reads = giver_reads;
      holds = λ q y h. (let r = held-without p q y v.held h in holds_still id q y r.0 (known.holds q y r.1));
      idle = λ no_caller. absurd (none_not x (ap (held_at p) (sym (known.idle no_caller)) ∙ held));
      own = known.own;
      listed = known.listed;
      desk = known.desk;
    }

    others_know : (j : ℕ) (u : View S E P) → j ≢ id → get_elem? s.views j ≡ some u → u.spent ≡ false → Knows m opening k.behind words' j u
    others_know j u apart there alive =
        let theirs = k.each_seat j u there alive in
        record {
          opened = theirs.opened;
          begins = theirs.begins;
          before = theirs.before;
          heard = theirs.heard;
          stands = theirs.stands;
          looked = theirs.looked;
          reads = reads_kept u u (refl, refl, refl) refl refl (λ h. h) theirs.reads;
          holds = λ q y h.
              let r = theirs.holds q y h in
              holds_still j q y (λ same. apart (sym r.1 ∙ ap k.behind.owner (sym same) ∙ (known.holds p x held).1)) r;
          idle = theirs.idle;
          own = theirs.own;
          listed = theirs.listed;
          desk = theirs.desk;
        }

    pub given_keeps : IsKept m opening size (record { words = slice_set s.words (p + 1) 0; homes = slice_set s.homes p (some x); views = slice_set s.views id (given_view p v) })
    unfolding words'
    given_keeps = record {
      behind = k.behind;
      begins = k.begins;
      legal = k.legal;
      front = index-other s.words (p + 1) 0 0 (λ e. omega arith) ∙ k.front;
      width = k.width;
      wide = length-set s.words (p + 1) 0 ∙ k.wide;
      deep = length-set s.homes p (some x) ∙ k.deep;
      turns = λ q h. elim (nat_eq p q) as (λ b. nat_eq p q ≡ b → turn_of words' q < 2) [
        | true ↦ λ t. (let same : p ≡ q = grind arith in let o : turn_of words' q ≡ 0 = subst (λ r. turn_of words' r ≡ 0) same turn-same in omega arith)
        | false ↦ λ t. (let other : p ≢ q = λ e. (let no_way : ⊥ = grind arith in no_way) in subst (λ n. n < 2) (sym (turn-other q other)) (k.turns q h))
      ] refl;
      at_home = λ q y zero_turn value. elim (nat_eq p q) as (λ b. nat_eq p q ≡ b → get_elem? (slice_set s.homes p (some x)) q ≡ some (some y)) [
        | true ↦ λ t.
            let same : p ≡ q = grind arith in
            let there : slice_get (m.parts k.behind.now) q ≡ Some x = subst (λ r. slice_get (m.parts k.behind.now) r ≡ Some x) same (known.holds p x held).2 in
            let xy : x ≡ y = some_is x y (sym there ∙ value) in
            subst (λ r. get_elem? (slice_set s.homes p (some x)) r ≡ some (some y)) same
            (set_here s.homes p (some x) (let d = k.deep in let i = inside in omega arith) ∙ ap (λ z. some (some z)) xy)
        | false ↦ λ t.
            let other : p ≢ q = λ e. (let no_way : ⊥ = grind arith in no_way) in
            set_else s.homes p q (some x) (λ e. other (sym e)) ∙ k.at_home q y (sym (turn-other q other) ∙ zero_turn) value
      ] refl;
      out = λ q h o.
          let other : p ≢ q = λ e. (let z : turn_of words' q ≡ 0 = subst (λ r. turn_of words' r ≡ 0) e turn-same in let no_way : ⊥ = omega arith in no_way) in
          out_set s.views id v (given_view p v) at refl (k.behind.owner q) q (λ has. ap is_some (held-else p q other v.held) ∙ has) (k.out q h (sym (turn-other q other) ∙ o));
      bank = λ i y h. same_banks _ (place-beyond (length (m.parts k.behind.now)) (length (m.published k.behind.now)) i (is_odd (count_by m.is_publication k.behind.history))) ∙ k.bank i y h;
      each_seat = each_set s.views id (given_view p v) (Knows m opening k.behind words') (λ _. giver_knows) others_know;
      seats = seats_set k.behind k.behind s.views id v (given_view p v) k.seats at (refl, refl, refl) refl refl;
      unmade = k.unmade;
      at_end = k.at_end;
    }

  pub give_allows : (slots id : ℕ) (v : View S E P) (out : List (ℕ × P)) (st : Step P) (p : ℕ) (x : P) → v.spent ≡ false → held_at p v.held ≡ Some x
      → Allows (IsKept m opening size) slots id (v, (p, x) ∷ out) (p + 1) (λ _. 0) (λ _. Gives p st (v, (p, x) ∷ out) 0)
  give_allows slots id v out st p x live held s k count at small =
      (given_view p v, gives, tt, given_keeps s k id v p x at live held, (refl, refl))
