-- What each step on the book's words tells the seat that makes it
use Rattle.std.specs.Prelude.{◌≡◌, ◌≢◌, ℕ, ◌+◌, ◌<◌, ◌^◌, List, [], ◌∷◌, ◌++◌, length, Bool, true, false, Option, Some, slice_get}
use Rattle.std.specs.Prelude.{is_some, IfSome}
use Rattle.atomic_table.specs.Table.{Me, Step, rest}
use Rattle.turn_book.specs.declared.view.Front.{Front}
use Rattle.turn_book.specs.declared.view.View.{View}
use Rattle.turn_book.specs.Histories.{Runs, IsPrefix, last_of, entries_of}
use Rattle.turn_book.specs.Hands.{held_at}
use Rattle.turn_book.specs.Fronts.{front_of, front_after}
use Rattle.turn_book.specs.Banks.{AreDrafted, HasRegistry, NotesAreRight}
use Rattle.turn_book.specs.Rule.{Workings}
use Rattle.turn_book.specs.Views.{given_view, noted_view, drafted_view, IsLegal, HoldsRight, HasJustEnded, HasOnlyMade}
use Rattle.turn_book.specs.Views.{AddsNoneOfOwn, SamePlace, SameList, SameTurns, SameWords, AfterEntry}

module _ {S E P : Type 0} where
  -- the view's list became the whole history, which begins with what the view had seen
  abbrev pub Meets : Workings S E P → View S E P → View S E P → Type 0
  Meets m v w =
      IsPrefix v.seen w.seen × IsLegal m.opens m.steps w × HoldsRight m.parts w × HasJustEnded m.caller w × HasOnlyMade m.caller w
      × SamePlace v w × NotesAreRight m.published m.is_publication w

  -- with the registry held, a look tells its generation
  abbrev pub LearnsGeneration : ℕ → View S E P → View S E P → Type 0
  LearnsGeneration g v w =
      (w.notes ≡ v.notes) × (w.drafts ≡ v.drafts) × (HasRegistry v → w.knows ≡ Some g) × (is_some (held_at 0 v.held) ≡ false
      → w.knows ≡ v.knows) × ((h : ℕ) → w.knows ≡ Some h → h ≡ g)

  -- A load of the front: the list is the history, and looks grew by the front found
  abbrev pub Looks : Workings S E P → Step P → Me P (View S E P) → ℕ → Me P (View S E P) → Type 0
  Looks m st me found me' =
      (front_of found ≡ front_after m.is_publication me'.0.seen) × (me'.1 ≡ me.1) × Meets m me.0 me'.0
      × AddsNoneOfOwn m.caller me.0 me'.0 × SameTurns me.0 me'.0
      × (me'.0.looks ≡ me.0.looks ++ front_of found ∷ []) × (me'.0.misses ≡ me.0.misses)
      × LearnsGeneration (front_of found).generation me.0 me'.0

  -- The load of the front that ends a join: the list is the history, which begins with both lists that were joined, and looks stay
  abbrev pub Learns : Workings S E P → Step P → Me P (View S E P) → ℕ → Me P (View S E P) → Type 0
  Learns m st me found me' =
      (front_of found ≡ front_after m.is_publication me'.0.seen) × (me'.1 ≡ me.1) × Meets m me.0 me'.0
      × IsPrefix me.0.before me'.0.seen × IsPrefix me.0.heard me'.0.seen
      × ((c : ℕ) → me.0.caller ≡ Some c → entries_of m.caller c me'.0.seen ≡ entries_of m.caller c me.0.before) × SameTurns me.0 me'.0
      × (me'.0.looks ≡ me.0.looks) × (me'.0.misses ≡ me.0.misses) × SameWords me.0 me'.0

  -- the part is as some legal history has it that begins with what the view has seen
  abbrev pub IsAsHistoryHas : Workings S E P → View S E P → ℕ → P → Type 0
  IsAsHistoryHas m v p x =
      (o : S) × (h : List E) × (s : S) × (v.begin ≡ Some o) × m.opens o × IsPrefix v.seen h × Runs m.steps o h s
      × (slice_get (m.parts s) p ≡ Some x)

  -- A swap of a turn to 1: it was 0, and the part is held and in hand as the history has it; or it was found taken
  abbrev pub Takes : Workings S E P → ℕ → Step P → Me P (View S E P) → ℕ → Me P (View S E P) → Type 0
  Takes m p st me found me' =
      SameList me.0 me'.0 × SamePlace me.0 me'.0 × SameWords me.0 me'.0
      × (found ≡ 0 → (x : P) × (me'.1 ≡ (p, x) ∷ me.1) × (me'.0.held ≡ record { part = p; value = x } ∷ me.0.held)
      × (me'.0.took ≡ me.0.took ++ p ∷ []) × (me'.0.found ≡ me.0.found) × IsAsHistoryHas m me.0 p x)
      × (found ≢ 0 → (me'.1 ≡ me.1) × (me'.0.held ≡ me.0.held) × (me'.0.took ≡ me.0.took) × (me'.0.found ≡ me.0.found ++ p ∷ []))

  -- A store of 0 to the turn of the part that is first in hand: it went home, and of part 0 drafts and knows are emptied
  abbrev pub Gives : ℕ → Step P → Me P (View S E P) → ℕ → Me P (View S E P) → Type 0
  Gives p st me stored me' = (me'.0 ≡ given_view p me.0) × (me'.1 ≡ rest me.1)

  -- An exchange of the front that was won by this entry: the list ends with it, the held parts follow, and of a publication drafts
  -- are emptied and knows is one more
  abbrev pub Wins : Workings S E P → E → View S E P → View S E P → Type 0
  Wins m e v w =
      (w.seen ≡ v.seen ++ e ∷ []) × ((s t : S) → v.now ≡ Some s → w.now ≡ Some t → m.steps s e t) × AfterEntry (m.is_publication e) v w
      × ((had : Front) → last_of v.looks ≡ Some had → m.is_publication e ≡ true → (g : ℕ) → w.knows ≡ Some g
      → (g ≡ had.generation + 1) × (g < 2 ^ 32))

  -- an exchange of the front that was lost to the front found: misses grew by the pair
  abbrev pub Loses : Workings S E P → ℕ → View S E P → View S E P → Type 0
  Loses m found v w =
      (front_of found ≡ front_after m.is_publication w.seen) × (w.held ≡ v.held) × AddsNoneOfOwn m.caller v w × SameWords v w
      × ((had : Front) → last_of v.looks ≡ Some had → w.misses ≡ v.misses ++ record { had = had; found = front_of found } ∷ [])

  -- A compare and exchange of the front: the entry that is named was added, or another front was found
  abbrev pub Commits : Workings S E P → Option E → Step P → Me P (View S E P) → ℕ → Me P (View S E P) → Type 0
  Commits m entry st me found me' =
      (me'.1 ≡ me.1) × Meets m me.0 me'.0 × (me'.0.took ≡ me.0.took) × (me'.0.found ≡ me.0.found) × (me'.0.looks ≡ me.0.looks)
      × ((q : ℕ) → is_some (held_at q me'.0.held) ≡ is_some (held_at q me.0.held))
      × (found ≡ st.first → ((had : Front) → last_of me.0.looks ≡ Some had → had ≡ front_after m.is_publication me.0.seen)
      × (me'.0.misses ≡ me.0.misses) × IfSome entry (λ e. Wins m e me.0 me'.0))
      × (found ≢ st.first → Loses m found me.0 me'.0)

  -- A load of a published word of the bank of the last look's generation: it is noted under that generation
  abbrev pub ReadsWord : Option ℕ → Step P → Me P (View S E P) → ℕ → Me P (View S E P) → Type 0
  ReadsWord index st me found me' =
      (me'.1 ≡ me.1) × IfSome index (λ i. IfSome (last_of me.0.looks) (λ f. me'.0 ≡ noted_view i found f.generation me.0))

  -- a store to a word of the spare bank: it is drafted
  abbrev pub DraftsWord : Option ℕ → Step P → Me P (View S E P) → ℕ → Me P (View S E P) → Type 0
  DraftsWord index st me stored me' = (me'.1 ≡ me.1) × IfSome index (λ i. me'.0 ≡ drafted_view i stored me.0)

  -- the last front that the seat's loads found
  abbrev pub IsLastLook : Front → View S E P → Type 0
  IsLastLook had v = last_of v.looks ≡ Some had

  -- the state at which `had` was the front, where the view's list still ends there
  abbrev pub IsAt : Front → View S E P → S → Type 0
  IsAt had v s = (had.length ≡ length v.seen) × (v.now ≡ Some s)

  -- the entry is a step from the history of `had`
  abbrev pub LeadsOn : (S → E → S → Type 0) → Front → View S E P → E → Type 0
  LeadsOn steps had v e = (s : S) → IsAt had v s → (t : S) × steps s e t

  -- the seat holds the entry's reach
  abbrev pub HoldsReach : (S → E → ℕ → Bool) → Front → View S E P → E → Type 0
  HoldsReach reach had v e = (s : S) → IsAt had v s → (p : ℕ) → reach s e p ≡ true → is_some (held_at p v.held) ≡ true

  -- each word that is published in the state after the entry was drafted
  abbrev pub HasDrafted : (S → E → S → Type 0) → (S → List ℕ) → Front → View S E P → E → Type 0
  HasDrafted steps published had v e = (s t : S) → IsAt had v s → steps s e t → AreDrafted (published t) v.drafts
