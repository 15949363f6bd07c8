-- Which words count as noted, and the words that a seat's list publishes (this board's own rule).
use Rattle.std.specs.Prelude.{ℕ, Bool, true, false, nat_lt, List, [], ◌∷◌, is_none, Some, None}
use Rattle.std.specs.declared.option.Option.{Option}
use Rattle.board_model.specs.Board.{Board}
use Rattle.board_step.specs.Publications.{words}
use Rattle.part_slots.specs.Commits.{Seen}
use Rattle.part_rig.specs.declared.reading.Reading.{Reading}
use Rattle.part_rig.specs.Readings.{Places, read_at, word_under}
use Rattle.board_model.specs.declared.width.TheConstants.{WORDS}

-- the words that are published in the state of a seat's list
abbrev pub published_at : Option Board → List ℕ
published_at None = []
published_at (Some b) = words b

abbrev pub published_in : Seen → List ℕ
published_in v = published_at v.now

-- the word of an index that counts as noted: one that was read under the generation of the last look, where none was loaded since
abbrev pub noted_by : Bool → ℕ → Places → ℕ → Option ℕ
noted_by false looked places k = None
noted_by true looked places k = word_under looked (read_at places k)

-- what is missing once a word was asked for: what was missing before, or else the word's index where it is not noted
abbrev pub missing_after : Option ℕ → Option ℕ → ℕ → Option ℕ
missing_after (Some other) word k = Some other
missing_after None (Some word) k = None
missing_after None None k = Some k

-- whether it is the index of a word, if it is there
abbrev pub is_index : Option ℕ → Bool
is_index None = true
is_index (Some k) = nat_lt k WORDS

-- whether it is the index of a word that is not noted, if it is there
abbrev pub is_blank : (ℕ → Option ℕ) → Option ℕ → Bool
is_blank noted None = true
is_blank noted (Some k) = is_none (noted k)

-- ---- all that is kept of words, as a list

-- a reading, as its word and its generation
abbrev pub listed_by : Option Reading → List (Option ℕ) → List (Option ℕ)
listed_by None rest = None ∷ None ∷ rest
listed_by (Some r) rest = Some r.word ∷ Some r.generation ∷ rest

abbrev pub listed : Places → List (Option ℕ)
listed [] = []
listed (r ∷ rest) = listed_by r (listed rest)
