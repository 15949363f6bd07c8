-- A word of flags a pin as a set of holds.
use Rattle.std.specs.Prelude.{ℕ, ◌*◌, ◌/◌, ◌%◌, zero, suc, Bool, if◌then◌else◌, List, length, get_or}
use Rattle.std.specs.FinSet as members
use Rattle.irq_bits.specs.Members.{is_set}
use Rattle.source_levels.specs.Holds.{Hold, Holds, hold, number_of, source_of}

-- whether the bit of a hold is set: the word of its pin, the bit of its source's number
abbrev pub is_held : List ℕ → Hold → Bool
is_held words h = is_set (get_or words h.pin 0) (number_of h.source)

-- the hold of a place, 16 places a pin
abbrev pub hold_at : ℕ → Hold
hold_at k = hold (k / 16) (source_of (k % 16))

-- the holds of the places below k that pass the test
unfoldable pub holds_below : ℕ → (Hold → Bool) → Holds
holds_below zero p = members.empty
holds_below (suc k) p = if p (hold_at k) then members.insert (holds_below k p) (hold_at k) else holds_below k p

-- the holds of which the bit is set, in 16 bits a pin
unfoldable pub holds_of : List ℕ → Holds
holds_of words = holds_below (16 * length words) (is_held words)
