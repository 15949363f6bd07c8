-- What stays of a view whose parts are given back.
use Rattle.std.proofs.Common.{◌≡◌, ℕ, List, [], ◌∷◌, refl}
use Rattle.turn_book.specs.declared.view.View.{View}
use Rattle.turn_book.specs.Many.{given_all}
use Rattle.turn_book.specs.Views.{SamePlace, SameList, given_view}

module _ {S E P : Type 0} where
  pub given_place : (ps : List ℕ) (v : View S E P) → SamePlace v (given_all ps v)
  given_place [] v = (refl, refl, refl, refl, refl, refl)
  given_place (p ∷ ps) v = given_place ps (given_view p v)

  pub given_list : (ps : List ℕ) (v : View S E P) → SameList v (given_all ps v)
  given_list [] v = (refl, refl, refl, refl, refl, refl)
  given_list (p ∷ ps) v = given_list ps (given_view p v)

  pub given_turns : (ps : List ℕ) (v : View S E P) → ((given_all ps v).took ≡ v.took) × ((given_all ps v).found ≡ v.found)
  given_turns [] v = (refl, refl)
  given_turns (p ∷ ps) v = given_turns ps (given_view p v)
