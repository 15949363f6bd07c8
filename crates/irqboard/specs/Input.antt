-- What a read of the whole input leaves. The limit is 2 ^ 24 bytes, which is 16,777,216.
use Rattle.std.specs.Prelude.{◌≡◌, ℕ, ◌+◌, ◌<◌, ◌≤◌, List, length}
use Rattle.std.specs.declared.option.Option.{Option}
use Rattle.std.specs.Io.KnownBytes.{Consumes}
use Rattle.irqboard.specs.declared.reading.Stop.{Stop}
use Rattle.irqboard.specs.declared.reading.Stop.TheVariants.{TooLong}

-- bytes were read, and their number is one of those told
abbrev pub HasRead : Option (List ℕ) → Option (List ℕ) → (ℕ → Type 0) → Type 0
HasRead old new P = (bytes : List ℕ) × Consumes old new bytes × P (length bytes)

-- more bytes than the limit, and at most 4,096 more
abbrev pub IsBeyond : ℕ → Type 0
IsBeyond total = (16777216 < total) × (total ≤ 16777216 + 4096)

-- the reading stopped as too long exactly where more than the limit was read
abbrev pub StopsRightly : Option (List ℕ) → Option (List ℕ) → Stop → Type 0
StopsRightly old new (TooLong total) = IsBeyond total × HasRead old new (λ n. n ≡ total)
StopsRightly old new _ = HasRead old new (λ n. n ≤ 16777216)
