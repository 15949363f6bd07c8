-- The eight levels of a chip: sets of them, bytes as such sets, and the order in which priority falls.
-- 8259A data sheet, the interrupt registers and the priority resolver.
use Rattle.std.specs.Prelude.{ℕ, ◌+◌, ◌%◌, Bool, false, not, ◌&&◌, ◌||◌, nat_eq, List, [], ◌∷◌, find}
use Rattle.std.specs.declared.option.Option.{Option}
use Rattle.std.specs.FinSet as set
use Rattle.irq_bits.specs.Members.{Numbers, members_of, word_of}

-- the levels of a byte: bit n stands for level n
abbrev pub levels_of : ℕ → Numbers
levels_of byte = members_of 8 byte

-- the byte of a set of levels
abbrev pub byte_of : Numbers → ℕ
byte_of levels = word_of 8 levels

-- the levels as priority falls: from the one after the lowest, round to the lowest
abbrev pub order : ℕ → List ℕ
order lowest =
    (lowest + 1) % 8 ∷ (lowest + 2) % 8 ∷ (lowest + 3) % 8 ∷ (lowest + 4) % 8
    ∷ (lowest + 5) % 8 ∷ (lowest + 6) % 8 ∷ (lowest + 7) % 8 ∷ (lowest + 8) % 8 ∷ []

-- whether k stands in the list, and no later than n
abbrev pub comes_by : List ℕ → ℕ → ℕ → Bool
comes_by [] k n = false
comes_by (x ∷ xs) k n = nat_eq x k || (not (nat_eq x n) && comes_by xs k n)

-- the level of highest priority in a set
unfoldable pub highest_of : ℕ → Numbers → Option ℕ
highest_of lowest levels = find (set.contains levels) (order lowest)
