-- The rows of ioeventfds (KVM_IOEVENTFD), a list in order of registration.
use Rattle.std.specs.Prelude.{◌≡◌, ℕ, Bool, true, false, not, ◌&&◌, ◌||◌, nat_eq, nat_le, if◌then◌else◌, List, length, filter, find}
use Rattle.std.specs.Prelude.{Option, Some, None, option_map, Result, Ok, Err, AllPairs}
use Rattle.std.specs.List.{list_any}
use Rattle.irq_base.specs.declared.call.Space.{Space}
use Rattle.irq_base.specs.declared.call.Space.TheVariants.{Port, Memory}
use Rattle.irq_base.specs.declared.refusal.Refusal.{Refusal}
use Rattle.irq_base.specs.declared.refusal.Refusal.TheVariants.{Exists, Full, NotThere}
use Rattle.ioevent_set.specs.declared.row.IoRow.{IoRow}

-- equal spaces
abbrev pub same_space : Space → Space → Bool
same_space Port Port = true
same_space Memory Memory = true
same_space a b = false

-- equal matches
abbrev pub same_want : Option ℕ → Option ℕ → Bool
same_want None None = true
same_want (Some m) (Some n) = nat_eq m n
same_want a b = false

-- either has no match, or both matches are equal
abbrev pub wants_meet : Option ℕ → Option ℕ → Bool
wants_meet (Some m) (Some n) = nat_eq m n
wants_meet a b = true

-- no match, or an equal one
abbrev pub accepts : Option ℕ → ℕ → Bool
accepts None value = true
accepts (Some wanted) value = nat_eq wanted value

-- two rows that are the same in every field
abbrev pub is_same : IoRow → IoRow → Bool
is_same a b =
    same_space a.space b.space
    && (nat_eq a.address b.address && (nat_eq a.len b.len && (nat_eq a.counter b.counter && same_want a.want b.want)))

-- space and address are equal, and either length is 0, or the lengths are equal and either has no match or both matches
-- are equal (this board's own rule, after Linux)
abbrev pub do_collide : IoRow → IoRow → Bool
do_collide a b =
    same_space a.space b.space
    && (nat_eq a.address b.address && (nat_eq a.len 0 || (nat_eq b.len 0 || (nat_eq a.len b.len && wants_meet a.want b.want))))

-- a write fits a row of its space and address, of length 0 or its own, and with no match or its own value
abbrev pub does_fit : Space → ℕ → ℕ → ℕ → IoRow → Bool
does_fit space address len value row =
    same_space row.space space && (nat_eq row.address address && ((nat_eq row.len 0 || nat_eq row.len len) && accepts row.want value))

-- the counter of a row, if there is one
abbrev pub counter_of : Option IoRow → Option ℕ
counter_of row = option_map (λ r. r.counter) row

-- the counter that a write rings: that of the row that it fits
abbrev pub rung_by : List IoRow → Space → ℕ → ℕ → ℕ → Option ℕ
rung_by rows space address len value = counter_of (find (does_fit space address len value) rows)

-- no two rows fit one write
abbrev pub AtMostOneFits : List IoRow → Space → ℕ → ℕ → ℕ → Type 0
AtMostOneFits rows space address len value =
    AllPairs (λ a b. (does_fit space address len value a && does_fit space address len value b) ≡ false) rows

-- the rows but this one
abbrev pub without_row : List IoRow → IoRow → List IoRow
without_row rows row = filter (λ other. not (is_same row other)) rows

-- a row that collides with one is refused, and then any where 256 are there
abbrev pub attach_answer : List IoRow → IoRow → Result (Unit {0}) Refusal
attach_answer rows row =
    if list_any (λ other. do_collide other row) rows then Err Exists else if nat_le 256 (length rows) then Err Full else Ok tt

-- a row that is not there cannot end
abbrev pub detach_answer : List IoRow → IoRow → Result (Unit {0}) Refusal
detach_answer rows row = if list_any (is_same row) rows then Ok tt else Err NotThere
