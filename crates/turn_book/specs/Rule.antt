-- The rule of a book: one legal history, and what each seat knows of it
use Rattle.std.specs.Prelude.{◌≡◌, ℕ, ◌+◌, ◌<◌, ◌≤◌, List, [], Bool, ◌⊎◌, length, true, false, Some, None, slice_get, slice_index}
use Rattle.std.specs.Prelude.{is_some, All, count_by}
use mathlib.Core.Option.{some}
use lib.ListN.{get_elem?}
use Rattle.atomic_table.specs.Table.{State}
use Rattle.turn_book.specs.declared.view.Front.{Front}
use Rattle.turn_book.specs.declared.view.View.{View}
use Rattle.turn_book.specs.declared.view.Ended.{Ended}
use Rattle.turn_book.specs.Histories.{Runs, IsPrefix, entries_of, is_in, last_of}
use Rattle.turn_book.specs.Hands.{held_at}
use Rattle.turn_book.specs.Fronts.{word_of, front_after}
use Rattle.turn_book.specs.Banks.{is_odd, place, KnowsWords}
use Rattle.turn_book.specs.Views.{ended_at}

-- word 0 is the front, word p + 1 the turn of part p
abbrev pub turn_of : List ℕ → ℕ → ℕ
turn_of words p = slice_index words (p + 1)

-- what a machine is to the rule: its opening states, its steps, the parts and the published words of a state, and of an entry its
-- caller and whether it is a publication
pub record Workings (S E P : Type 0) : Type 1 where
  pub opens : S → Type 0
  pub steps : S → E → S → Type 0
  pub parts : S → List P
  pub published : S → List ℕ
  pub caller : E → ℕ
  pub is_publication : E → Bool

abbrev pub workings : {S E P : Type 0} → (S → Type 0) → (S → E → S → Type 0) → (S → List P) → (S → List ℕ) → (E → ℕ) → (E → Bool)
    → Workings S E P
workings opens steps parts published caller is_publication =
    record { opens = opens; steps = steps; parts = parts; published = published; caller = caller; is_publication = is_publication }

-- What stands behind the words: the history, the state that it leaves, the seat that holds each part whose turn is taken, the
-- callers for whom seats were split, and those whose seats were joined, with their entries
pub record Behind (S E : Type 0) : Type 0 where
  pub history : List E
  pub now : S
  pub owner : ℕ → ℕ
  pub made : List ℕ
  pub ended : List (Ended E)

module _ {S E P : Type 0} where
  -- what the seat, which is not spent, knows of the published words
  abbrev pub Reads : Workings S E P → Behind S E → List ℕ → View S E P → Type 0
  Reads m r words v = KnowsWords (m.published r.now) (count_by m.is_publication r.history) (length (m.parts r.now)) words v

  -- What the seat knows, which is not spent
  pub record Knows (m : Workings S E P) (opening : S) (r : Behind S E) (words : List ℕ) (id : ℕ) (v : View S E P) : Type 0 where
    -- its list is a beginning of the history, and it has the state that the list leaves
    pub opened : v.begin ≡ Some opening
    pub begins : IsPrefix v.seen r.history
    pub before : IsPrefix v.before r.history
    pub heard : IsPrefix v.heard r.history
    pub stands : (s : S) × (v.now ≡ Some s) × Runs m.steps opening v.seen s
    -- the last front that a load found was no longer than the list
    pub looked : (f : Front) → last_of v.looks ≡ Some f → f.length ≤ length v.seen
    pub reads : Reads m r words v
    -- what is held has a taken turn, is with no other seat, and is as the history has it
    pub holds : (p : ℕ) (x : P) → held_at p v.held ≡ Some x → (turn_of words p ≡ 1) × (r.owner p ≡ id)
        × (slice_get (m.parts r.now) p ≡ Some x)
    -- a seat without a caller holds nothing
    pub idle : v.caller ≡ None → v.held ≡ []
    -- the entries of its caller in the history are those that it has seen, and those of its list before the last join
    pub own : (c : ℕ) → v.caller ≡ Some c → (entries_of m.caller c r.history ≡ entries_of m.caller c v.seen)
        × (entries_of m.caller c r.history ≡ entries_of m.caller c v.before)
    -- its caller was made, and has not ended
    pub listed : (c : ℕ) → v.caller ≡ Some c → (is_in c r.made ≡ true) × (ended_at c r.ended ≡ None)
    -- the desk knows which callers were made and which ended
    pub desk : v.is_desk ≡ true → (v.made ≡ r.made) × (v.ended ≡ r.ended)

  -- the view of the seat i, which is not spent, holds the part
  abbrev pub IsOut : List (View S E P) → ℕ → ℕ → Type 0
  IsOut views i p = (v : View S E P) × (get_elem? views i ≡ some v) × (v.spent ≡ false) × (is_some (held_at p v.held) ≡ true)

  -- a seat that is not spent has the caller
  abbrev pub HasSeat : List (View S E P) → ℕ → Type 0
  HasSeat views c = (i : ℕ) × (v : View S E P) × (get_elem? views i ≡ some v) × (v.spent ≡ false) × (v.caller ≡ Some c)

  -- Who the seats are: one desk at most, one seat a caller at most, and each caller that was made has a seat or has ended
  pub record Seats (r : Behind S E) (views : List (View S E P)) : Type 0 where
    pub one_desk : (i j : ℕ) (v w : View S E P) → get_elem? views i ≡ some v → get_elem? views j ≡ some w → v.spent ≡ false
        → w.spent ≡ false → v.is_desk ≡ true → w.is_desk ≡ true → i ≡ j
    pub one_seat : (i j : ℕ) (v w : View S E P) (c : ℕ) → get_elem? views i ≡ some v → get_elem? views j ≡ some w → v.spent ≡ false
        → w.spent ≡ false → v.caller ≡ Some c → w.caller ≡ Some c → i ≡ j
    pub placed : (c : ℕ) → is_in c r.made ≡ true → HasSeat views c ⊎ (is_some (ended_at c r.ended) ≡ true)

  -- The rule, which holds between any two steps, in seven points. The book began in this state, with so many published words
  pub record IsKept (m : Workings S E P) (opening : S) (size : ℕ) (s : State P (View S E P)) : Type 0 where
    pub behind : Behind S E
    -- 1. The history is legal from the opening state that all views share. The front's length is the number of its entries, the
    -- front's generation the number of its publications
    pub begins : m.opens opening
    pub legal : Runs m.steps opening behind.history behind.now
    pub front : slice_index s.words 0 ≡ word_of (front_after m.is_publication behind.history)
    -- The words are the front, a turn for each part and two banks of published words. There is a slot for each part
    pub width : length (m.published behind.now) ≡ size
    pub wide : length s.words ≡ length (m.parts behind.now) + 1 + length (m.published behind.now) + length (m.published behind.now)
    pub deep : length s.homes ≡ length (m.parts behind.now)
    -- 2, 5 and 6 of each seat, and of 3 and 7 what is said of one seat alone.
    -- 2. What a seat has seen begins the history, and no generation that it looked up, missed or noted is above the front's.
    -- 5. A note of the front's generation has the published value.
    -- 6. Only the seat that holds the registry has drafts or knows a generation, which is the front's; each draft stands in the other bank
    pub each_seat : (id : ℕ) (v : View S E P) → get_elem? s.views id ≡ some v → v.spent ≡ false → Knows m opening behind s.words id v
    -- 3. A turn is 0 or 1. With 0 no view holds the part, and its slot has the part of the history; with 1 just the owner's view
    -- holds it, as the history has it
    pub turns : (p : ℕ) → p < length (m.parts behind.now) → turn_of s.words p < 2
    pub at_home : (p : ℕ) (x : P) → turn_of s.words p ≡ 0 → slice_get (m.parts behind.now) p ≡ Some x → get_elem? s.homes p ≡ some (some x)
    pub out : (p : ℕ) → p < length (m.parts behind.now) → turn_of s.words p ≡ 1 → IsOut s.views (behind.owner p) p
    -- 4. The bank of the generation's parity has the published words of the history
    pub bank : (i x : ℕ) → slice_get (m.published behind.now) i ≡ Some x
        → slice_index s.words (place (length (m.parts behind.now)) (length (m.published behind.now))
        (is_odd (count_by m.is_publication behind.history)) i) ≡ x
    -- 7. No two seats have one caller; a caller that was made has a seat or has ended, and has just the entries that its seat has
    -- seen or with which it ended; a caller that was not made has none; a seat without a caller holds nothing
    pub seats : Seats behind s.views
    pub unmade : (c : ℕ) → is_in c behind.made ≡ false → entries_of m.caller c behind.history ≡ []
    pub at_end : All (λ x. (is_in x.caller behind.made ≡ true) × (entries_of m.caller x.caller behind.history ≡ x.entries)) behind.ended
