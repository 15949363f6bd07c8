-- The numbers of the passes that a desk has made
use Rattle.std.specs.Prelude.{ℕ, zero, suc, List, [], ◌∷◌}

-- the numbers of so many passes, the last first
abbrev pub numbers_of : ℕ → List ℕ
numbers_of zero = []
numbers_of (suc n) = n ∷ numbers_of n
