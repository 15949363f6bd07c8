-- The rule holds of a new book
use Rattle.std.proofs.Common.{◌≡◌, ℕ, zero, suc, ◌+◌, ◌≤◌, List, [], ◌∷◌, ◌++◌, length, length-append, map, false, refl, sym, ap, ◌∙◌, subst, arith}
use Rattle.std.proofs.lemmas.List.{length-map, length-replicate}
use Rattle.std.proofs.lemmas.List.Elements.{All-nil}
use Rattle.std.specs.Prelude.{Some, slice_get, slice_index, replicate}
use mathlib.Core.Option.{some, some-injective, some-ne-none}
use lib.ListN.{get_elem?}
use Rattle.atomic_table.specs.Table.{opening}
use Rattle.turn_book.specs.Rule.{Workings, Behind, IsKept, Knows}
use Rattle.turn_book.specs.Views.{first_view}
use Rattle.turn_book.proofs.Lists.{some_is, none_not, not_both, prefix-nil, index-zeros, index-left, index-right, index_is, get_within}

home : {P : Type 0} (ps : List P) (p : ℕ) (x : P) → slice_get ps p ≡ Some x → get_elem? (map some ps) p ≡ some (some x)
home [] p x h = absurd (none_not x h)
home (y ∷ ys) zero x h = ap some (ap some (some_is y x h))
home (y ∷ ys) (suc p) x h = home ys p x h

only : {V : Type 0} (v u : V) (i : ℕ) → get_elem? (v ∷ []) i ≡ some u → (i ≡ 0) × (v ≡ u)
only v u zero h = (refl, some-injective v u h)
only v u (suc i) h = absurd (some-ne-none u (sym h))

-- the words of a new book
abbrev pub first_words : ℕ → List ℕ → List ℕ
first_words n words = replicate (n + 1) 0 ++ (words ++ words)

low : (n i : ℕ) (words : List ℕ) → i ≤ n → slice_index (first_words n words) i ≡ 0
low n i words h = index-left (replicate (n + 1) 0) (words ++ words) i (let l = length-replicate {A = ℕ} (n + 1) 0 in omega arith) ∙ index-zeros (n + 1) i

in_bank : (n i x : ℕ) (words : List ℕ) → slice_get words i ≡ Some x → slice_index (first_words n words) (1 + n + 0 + i) ≡ x
in_bank n i x words h =
    index-right (replicate (n + 1) 0) (words ++ words) i (1 + n + 0 + i) (let l = length-replicate {A = ℕ} (n + 1) 0 in omega arith)
    ∙ index-left words words i (get_within words i x h)
    ∙ index_is words i x h

module _ {S E P : Type 0} (m : Workings S E P) where
  abbrev pub nothing_behind : S → Behind S E
  nothing_behind o = record { history = []; now = o; owner = λ p. 0; made = []; ended = [] }

  first_knows : (o : S) (ws : List ℕ) (id : ℕ) → Knows m o (nothing_behind o) ws id (first_view o)
  first_knows o ws id = record {
    opened = refl;
    begins = prefix-nil [];
    before = prefix-nil [];
    heard = prefix-nil [];
    stands = (o, refl, refl);
    looked = λ f h. absurd (none_not f h);
    reads = record {
      looks = All-nil _;
      misses = All-nil _;
      notes = All-nil _;
      knows = λ g h. absurd (none_not g h);
      drafts = λ i x h. absurd (none_not x h);
    };
    holds = λ p x h. absurd (none_not x h);
    idle = λ h. refl;
    own = λ c h. (refl, refl);
    listed = λ c h. absurd (none_not c h);
    desk = λ _. (refl, refl);
  }

  pub begun : (o : S) (ps : List P) (words : List ℕ) → m.opens o → m.parts o ≡ ps → m.published o ≡ words → IsKept m o (length words) (opening (first_words (length ps) words) ps (first_view o))
  begun o ps words opened has published =
      let ws : List ℕ = first_words (length ps) words in
      let n : length (m.parts o) ≡ length ps = ap length has in
      let w : length (m.published o) ≡ length words = ap length published in
      record {
        behind = nothing_behind o;
        begins = opened;
        legal = refl;
        front = low (length ps) 0 words (omega arith);
        width = w;
        wide = (let a = length-append (replicate (length ps + 1) 0) (words ++ words) in let b = length-append words words in let c = length-replicate {A = ℕ} (length ps + 1) 0 in omega arith);
        deep = length-map ps some ∙ ap length (sym has);
        turns = λ p h. (let z = low (length ps) (p + 1) words (omega arith) in omega arith);
        at_home = λ p x z is. home ps p x (ap (λ l. slice_get l p) (sym has) ∙ is);
        out = λ p h o. absurd (let z = low (length ps) (p + 1) words (omega arith) in let no_way : ⊥ = omega arith in no_way);
        bank = λ i x h. subst (λ k. slice_index (first_words (length ps) words) (1 + k + 0 + i) ≡ x) (sym n) (in_bank (length ps) i x words (ap (λ l. slice_get l i) (sym published) ∙ h));
        each_seat = λ id u at live. subst (λ w. Knows m o (nothing_behind o) ws id w) (only (first_view o) u id at).1 (first_knows o ws id);
        seats = record {
          one_desk = λ i j a b f g la lb da db. (only (first_view o) a i f).0 ∙ sym (only (first_view o) b j g).0;
          one_seat = λ i j a b c f g la lb ca cb. (only (first_view o) a i f).0 ∙ sym (only (first_view o) b j g).0;
          placed = λ c h. absurd (not_both false h refl);
        };
        unmade = λ c absent. refl;
        at_end = All-nil _;
      }
