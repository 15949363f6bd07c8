-- What is known of the published words (this board's own rule).
use Rattle.std.specs.Prelude.{◌≡◌, ℕ, if◌then◌else◌, List, ◌∷◌, Some, None}
use Rattle.std.specs.declared.option.Option.{Option}
use Rattle.turn_book.specs.Views.{view_of}
use Rattle.part_rig.specs.declared.known.Known.{Known}
use Rattle.part_rig.specs.Noted.{published_in, noted_by, listed}

-- the list of words that it stands for: those that were published at its last look
abbrev pub list_of : Known → List ℕ
list_of known = published_in (view_of known.at.value.seat)

-- the word of an index, where it counts as noted
abbrev pub noted_at : Known → ℕ → Option ℕ
noted_at known k = noted_by known.settled known.looked known.places.items k

-- all that is kept of words: the generation of the last look, whether no word was loaded since, and the readings
abbrev pub kept_of : Known → List (Option ℕ)
kept_of known = Some known.looked ∷ (if known.settled then Some 1 else None) ∷ listed known.places.items

-- the same readings under the same look
pub record SameReadings (old new : Known) : Type 0 where
  pub places : new.places.items ≡ old.places.items
  pub looked : new.looked ≡ old.looked
  pub settled : new.settled ≡ old.settled
