-- The index of ioeventfds: the same rows in order of their addresses, those of one address in order of registration.
use Rattle.std.specs.Prelude.{◌≡◌, ℕ, ◌≤◌, Bool, false, nat_eq, List, length, filter, count_by, AllPairs}
use Rattle.std.specs.List.Sorted.{IsNonDecreasingBy}
use Rattle.ioevent_set.specs.declared.row.IoRow.{IoRow}
use Rattle.ioevent_set.specs.Rows.{do_collide}

-- the address of a row
abbrev pub address_of : IoRow → ℕ
address_of row = row.address

-- a row at this address
abbrev pub is_at : ℕ → IoRow → Bool
is_at address row = nat_eq row.address address

-- at most 256 rows, of which no two collide; the index has as many rows, and as many of each kind, in order of addresses,
-- and at each address the same rows in the same order
pub record IsIndexed (rows by_address : List IoRow) : Type 0 where
  pub limit : length rows ≤ 256
  pub long : length by_address ≡ length rows
  pub apart : AllPairs (λ a b. do_collide a b ≡ false) rows
  pub ordered : IsNonDecreasingBy address_of by_address
  pub same : (address : ℕ) → filter (is_at address) by_address ≡ filter (is_at address) rows
  pub as_many : (kind : IoRow → Bool) → count_by kind by_address ≡ count_by kind rows
