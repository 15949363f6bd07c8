-- The published words. They stand in two banks behind the front and the turns: the bank of a generation is that of its parity, and
-- the other is the spare one
use Rattle.std.specs.Prelude.{◌≡◌, ℕ, ◌+◌, ◌≤◌, ◌%◌, List, [], ◌∷◌, ◌++◌, length, Bool, true, false, not, Option, Some, None}
use Rattle.std.specs.Prelude.{slice_get, slice_index, nat_eq, is_some, All, IfSome, count_by}
use Rattle.turn_book.specs.declared.view.Note.{Note}
use Rattle.turn_book.specs.declared.view.Draft.{Draft}
use Rattle.turn_book.specs.declared.view.View.{View}
use Rattle.turn_book.specs.Hands.{held_at}
use Rattle.turn_book.specs.Histories.{Runs}

abbrev pub is_odd : ℕ → Bool
is_odd g = nat_eq (g % 2) 1

-- Behind the front and n turns stand two banks of w words: the table's word of an index in the first bank, or in the second
abbrev pub place : ℕ → ℕ → Bool → ℕ → ℕ
place n w second i = 1 + n + elim second [ true ↦ w | false ↦ 0 ] + i

-- the value drafted last for an index, or none
abbrev pub draft_at : ℕ → List Draft → Option ℕ
draft_at i [] = None
draft_at i (d ∷ ds) = elim (nat_eq d.index i) [ true ↦ Some d.value | false ↦ draft_at i ds ]

-- each of these words was drafted
abbrev pub AreDrafted : List ℕ → List Draft → Type 0
AreDrafted words drafts = (i x : ℕ) → slice_get words i ≡ Some x → draft_at i drafts ≡ Some x

-- a note is of no generation above this one, and where it is of this one it has the published value
abbrev pub IsRight : List ℕ → ℕ → Note → Type 0
IsRight published generation note =
    (note.generation ≤ generation) × (note.generation ≡ generation → slice_get published note.index ≡ Some note.value)

-- a history and a longer one with equally many publications leave the same published words
abbrev pub GenerationsHaveWords : {S E : Type 0} → (S → E → S → Type 0) → (S → List ℕ) → (E → Bool) → Type 0
GenerationsHaveWords {S} {E} steps published is_publication =
    (o s u : S) (h k : List E) → Runs steps o h s → Runs steps o (h ++ k) u → count_by is_publication (h ++ k)
    ≡ count_by is_publication h → published u ≡ published s

module _ {S E P : Type 0} where
  -- the view holds the registry, which is part 0
  abbrev pub HasRegistry : View S E P → Type 0
  HasRegistry v = is_some (held_at 0 v.held) ≡ true

  -- In a table with n turns and banks of w words, the spare bank of the generation that the view knows begins here
  abbrev pub IsSpareBank : ℕ → ℕ → View S E P → ℕ → Type 0
  IsSpareBank n w v begin = IfSome v.knows (λ g. begin ≡ place n w (not (is_odd g)) 0)

  -- each note of the list's generation has the value that is published in the state that the list leaves
  abbrev pub NotesAreRight : (S → List ℕ) → (E → Bool) → View S E P → Type 0
  NotesAreRight published is_publication v = IfSome v.now (λ s. All (IsRight (published s) (count_by is_publication v.seen)) v.notes)

  -- What a view knows of the words, these being published under this generation, in a table with n turns
  pub record KnowsWords (published : List ℕ) (generation n : ℕ) (words : List ℕ) (v : View S E P) : Type 0 where
    -- no front that it found or expected is of a generation above the front's
    pub looks : All (λ f. f.generation ≤ generation) v.looks
    pub misses : All (λ x. (x.had.generation ≤ generation) × (x.found.generation ≤ generation)) v.misses
    -- nor is a note, and a note of the front's generation has the published value
    pub notes : All (IsRight published generation) v.notes
    -- Only the registry's holder has drafts or knows a generation, which is the front's, and each draft stands in the other bank
    pub knows : (g : ℕ) → v.knows ≡ Some g → (g ≡ generation) × HasRegistry v
    pub drafts : (i x : ℕ) → draft_at i v.drafts ≡ Some x → HasRegistry v
        × (slice_index words (place n (length published) (not (is_odd generation)) i) ≡ x)
