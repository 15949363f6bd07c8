-- The front word: how many publications the history has, and how many entries, in one number
use Rattle.std.specs.Prelude.{ℕ, ◌+◌, ◌*◌, ◌/◌, ◌%◌, ◌^◌, List, length, Bool, true, false, count_by}
use Rattle.turn_book.specs.declared.view.Front.{Front}

-- The content of a front word. A history has at most 2^40 entries, and may have just so many, so the length takes 41 bits
abbrev pub front_of : ℕ → Front
front_of n = record { generation = n / 2 ^ 41; length = n % 2 ^ 41 }

-- the front word with this content
abbrev pub word_of : Front → ℕ
word_of f = f.generation * 2 ^ 41 + f.length

-- by how much an entry raises the front word: a publication raises the generation too
abbrev pub rise_of : Bool → ℕ
rise_of true = 2 ^ 41 + 1
rise_of false = 1

-- the front of a history: the number of its publications, and of its entries
abbrev pub front_after : {E : Type 0} → (E → Bool) → List E → Front
front_after is_publication history = record { generation = count_by is_publication history; length = length history }
