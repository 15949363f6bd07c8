-- What the moves of a seat make of its view
use Rattle.std.specs.Prelude.{◌≡◌, ℕ, ◌+◌, List, [], ◌∷◌, length, Bool, true, false, Option, Some, None, slice_get, nat_eq, nat_le}
use Rattle.std.specs.Prelude.{if◌then◌else◌, IfSome, All}
use Rattle.atomic_table.specs.declared.shared.Seat.{Seat}
use Rattle.turn_book.specs.declared.view.Front.{Front}
use Rattle.turn_book.specs.declared.view.View.{View}
use Rattle.turn_book.specs.declared.view.Ended.{Ended}
use Rattle.turn_book.specs.Histories.{Runs, entries_of, is_in, last_of}
use Rattle.turn_book.specs.Hands.{held_at, held_without}

-- what a seat knows, and the slots that it has in hand
abbrev pub view_of : {P V : Type 0} → Seat P V → V
view_of seat = seat.me.0

abbrev pub slots_of : {P V : Type 0} → Seat P V → List (ℕ × P)
slots_of seat = seat.me.1

-- the entries with which a caller ended, or none where its pen was not joined
abbrev pub ended_at : {E : Type 0} → ℕ → List (Ended E) → Option (List E)
ended_at c [] = None
ended_at c (x ∷ xs) = elim (nat_eq x.caller c) [ true ↦ Some x.entries | false ↦ ended_at c xs ]

-- the list of the ended, with the seat's caller where it has one
abbrev pub with_end : {E : Type 0} → (E → ℕ) → Option ℕ → List E → List (Ended E) → List (Ended E)
with_end caller None seen l = l
with_end caller (Some c) seen l = record { caller = c; entries = entries_of caller c seen } ∷ l

-- one more, where there is a number
abbrev pub next_of : Option ℕ → Option ℕ
next_of None = None
next_of (Some g) = Some (g + 1)

module _ {S E P : Type 0} where
  -- the first seat, which is the desk's, at the beginning
  abbrev pub first_view : S → View S E P
  first_view s =
      record {
        begin = Some s;
        now = Some s;
        spent = false;
        is_desk = true;
        caller = None;
        seen = [];
        before = [];
        heard = [];
        looks = [];
        misses = [];
        held = [];
        took = [];
        found = [];
        notes = [];
        drafts = [];
        knows = None;
        made = [];
        ended = [];
      }

  -- what is left of a seat that another took in
  abbrev pub spent_view : View S E P
  spent_view =
      record {
        begin = None;
        now = None;
        spent = true;
        is_desk = false;
        caller = None;
        seen = [];
        before = [];
        heard = [];
        looks = [];
        misses = [];
        held = [];
        took = [];
        found = [];
        notes = [];
        drafts = [];
        knows = None;
        made = [];
        ended = [];
      }

  -- a new seat, for that caller or for none, which has seen the same and holds nothing
  abbrev pub split_view : Option ℕ → View S E P → View S E P
  split_view c v =
      record {
        begin = v.begin;
        now = v.now;
        spent = v.spent;
        is_desk = false;
        caller = c;
        seen = v.seen;
        before = [];
        heard = [];
        looks = [];
        misses = [];
        held = [];
        took = [];
        found = [];
        notes = [];
        drafts = [];
        knows = None;
        made = [];
        ended = [];
      }

  -- the seat from which it was split: the caller was made
  abbrev pub made_view : Option ℕ → View S E P → View S E P
  made_view c v = record v { made = elim c [ None ↦ v.made | Some d ↦ d ∷ v.made ] }

  -- a seat that took in another: it has the longer list with its state, knows both lists, and the other's caller has ended
  abbrev pub joined_view : (E → ℕ) → View S E P → View S E P → View S E P
  joined_view caller v w = record v {
    seen = if nat_le (length v.seen) (length w.seen) then w.seen else v.seen;
    now = if nat_le (length v.seen) (length w.seen) then w.now else v.now;
    before = v.seen;
    heard = w.seen;
    ended = with_end caller w.caller w.seen v.ended;
  }

  -- without a part; without the registry, which is part 0, nothing is drafted or known either
  abbrev pub given_view : ℕ → View S E P → View S E P
  given_view p v = record v {
    held = held_without p v.held;
    drafts = if nat_eq p 0 then [] else v.drafts;
    knows = if nat_eq p 0 then None else v.knows;
  }

  -- with one published word more that was read, under the generation of the last look
  abbrev pub noted_view : ℕ → ℕ → ℕ → View S E P → View S E P
  noted_view i x g v = record v { notes = record { index = i; value = x; generation = g } ∷ v.notes }

  -- with one word more that was written to the spare bank
  abbrev pub drafted_view : ℕ → ℕ → View S E P → View S E P
  drafted_view i x v = record v { drafts = record { index = i; value = x } ∷ v.drafts }

  -- the view's list is a legal history from the opening state that all views share, and `now` is the state that it leaves
  abbrev pub IsLegal : (S → Type 0) → (S → E → S → Type 0) → View S E P → Type 0
  IsLegal opens steps v = (o : S) × (s : S) × (v.begin ≡ Some o) × opens o × (v.now ≡ Some s) × Runs steps o v.seen s

  -- each held part has the value that the view's list gives it
  abbrev pub HoldsRight : (S → List P) → View S E P → Type 0
  HoldsRight parts v = (p : ℕ) (x : P) → held_at p v.held ≡ Some x → IfSome v.now (λ s. slice_get (parts s) p ≡ Some x)

  -- the desk's list has of each joined caller just the entries of the list that was joined
  abbrev pub HasJustEnded : (E → ℕ) → View S E P → Type 0
  HasJustEnded caller v = v.is_desk ≡ true → All (λ x. entries_of caller x.caller v.seen ≡ x.entries) v.ended

  -- the desk's list has no entry of a caller for whom no seat was split
  abbrev pub HasOnlyMade : (E → ℕ) → View S E P → Type 0
  HasOnlyMade caller v = v.is_desk ≡ true → (c : ℕ) → is_in c v.made ≡ false → entries_of caller c v.seen ≡ []

  -- of the view's own caller the list has the same entries as before
  abbrev pub AddsNoneOfOwn : (E → ℕ) → View S E P → View S E P → Type 0
  AddsNoneOfOwn caller v w = (c : ℕ) → v.caller ≡ Some c → entries_of caller c w.seen ≡ entries_of caller c v.seen

  -- the same opening state, caller and desk, with the same callers made and ended
  abbrev pub SamePlace : View S E P → View S E P → Type 0
  SamePlace v w =
      (w.begin ≡ v.begin) × (w.spent ≡ v.spent) × (w.caller ≡ v.caller) × (w.is_desk ≡ v.is_desk) × (w.made ≡ v.made)
      × (w.ended ≡ v.ended)

  -- the same list, with the same state, and the same fronts found
  abbrev pub SameList : View S E P → View S E P → Type 0
  SameList v w =
      (w.seen ≡ v.seen) × (w.now ≡ v.now) × (w.before ≡ v.before) × (w.heard ≡ v.heard) × (w.looks ≡ v.looks)
      × (w.misses ≡ v.misses)

  -- the same parts held, won and found taken
  abbrev pub SameTurns : View S E P → View S E P → Type 0
  SameTurns v w = (w.held ≡ v.held) × (w.took ≡ v.took) × (w.found ≡ v.found)

  -- the same knowledge of published words
  abbrev pub SameWords : View S E P → View S E P → Type 0
  SameWords v w = (w.notes ≡ v.notes) × (w.drafts ≡ v.drafts) × (w.knows ≡ v.knows)

  -- the same knowledge of published words; after a publication nothing is drafted, and the generation known is one more
  abbrev pub AfterEntry : Bool → View S E P → View S E P → Type 0
  AfterEntry publishes v w =
      (w.notes ≡ v.notes) × (w.drafts ≡ (if publishes then [] else v.drafts))
      × (w.knows ≡ (if publishes then next_of v.knows else v.knows))

  -- the last front that the view's loads found is of this generation
  abbrev pub LookedUnder : ℕ → View S E P → Type 0
  LookedUnder g v = (f : Front) → last_of v.looks ≡ Some f → f.generation ≡ g

  -- the generation that the view knows, if it knows one, is this one
  abbrev pub KnowsOnly : ℕ → View S E P → Type 0
  KnowsOnly g v = (h : ℕ) → v.knows ≡ Some h → h ≡ g
