-- What a book leaves when it is closed
use Rattle.std.specs.Prelude.{◌≡◌, ℕ, List, [], true, false, Some, is_some, All}
use Rattle.turn_book.specs.declared.view.Front.{Front}
use Rattle.turn_book.specs.declared.view.View.{View}
use Rattle.turn_book.specs.Histories.{Runs, IsPrefix, entries_of, is_in}
use Rattle.turn_book.specs.Fronts.{front_after}
use Rattle.turn_book.specs.Rule.{Workings}
use Rattle.turn_book.specs.Views.{ended_at}

module _ {S E P : Type 0} where
  -- each pen that was split for a caller was joined
  abbrev pub AllEnded : View S E P → Type 0
  AllEnded v = (c : ℕ) → is_in c v.made ≡ true → is_some (ended_at c v.ended) ≡ true

  -- One legal history, from the opening state that the desk began with, leaves these parts and has this front. It begins with what
  -- the desk has seen, has of each joined caller just the entries of its own list, and of no other caller any
  pub record EndsRight (m : Workings S E P) (opening : S) (v : View S E P) (left : List P) (front : Front) : Type 0 where
    pub history : List E
    pub now : S
    pub opened : v.begin ≡ Some opening
    pub begins : m.opens opening
    pub legal : Runs m.steps opening history now
    pub parts_left : m.parts now ≡ left
    pub counted : front ≡ front_after m.is_publication history
    pub seen : IsPrefix v.seen history
    pub ended : All (λ x. entries_of m.caller x.caller history ≡ x.entries) v.ended
    pub others : (c : ℕ) → is_in c v.made ≡ false → entries_of m.caller c history ≡ []
