-- Requests, inhibition and the top of a chip.
-- 8259A data sheet, fully nested mode, special mask mode and special fully nested mode.
use Rattle.std.specs.Prelude.{ℕ, ◌<◌, ◌≡◌, Bool, true, false, not, ◌&&◌, nat_eq, List, if◌then◌else◌, find, Some, None}
use Rattle.std.specs.List.{list_any}
use Rattle.std.specs.declared.option.Option.{Option}
use Rattle.std.specs.FinSet as set
use Rattle.irq_bits.specs.Members.{Numbers}
use Rattle.pic_8259a.specs.Levels.{order, comes_by}
use Rattle.pic_8259a.specs.declared.chip.Chip.{Chip}
use Rattle.pic_8259a.specs.declared.chip.Place.{Place}
use Rattle.pic_8259a.specs.declared.chip.Place.TheVariants.{Slave, Master}

-- what a chip's own pins request: a level-triggered level while its pin is high, another level while its latch is set
abbrev pub own_requests : Chip → Numbers
own_requests c = set.union (set.intersection c.elcr c.high) (set.difference c.latches c.elcr)

-- the requests (IRR): on the master, level 2 requests also while the slave has a ready level
abbrev pub requests_of : Chip → Place → Numbers
requests_of c (Master true) = set.insert (own_requests c) 2
requests_of c _ = own_requests c

-- the in-service levels that inhibit: in special mask mode the masked ones do not
abbrev pub inhibitors_of : Chip → Numbers
inhibitors_of c = if c.special_mask then set.difference c.isr c.imr else c.isr

-- special fully nested mode counts on the master alone
abbrev pub nests_specially : Chip → Place → Bool
nests_specially c (Master _) = c.special_fully_nested
nests_specially c Slave = false

-- whether level k in service inhibits level n, by the order of priority: its own level and all behind it, but that in
-- special nesting level 2 does not inhibit itself
abbrev pub inhibits : Bool → List ℕ → ℕ → ℕ → Bool
inhibits special order k n = comes_by order k n && not (special && (nat_eq k 2 && nat_eq n 2))

-- whether some level of these inhibits level n, by the order of priority
abbrev pub is_inhibited : Bool → List ℕ → Numbers → ℕ → Bool
is_inhibited special order inhibitors n = list_any (λ k. set.contains inhibitors k && inhibits special order k n) order

-- a level is ready where it requests, is not masked and is not inhibited
abbrev pub is_ready : Chip → Place → ℕ → Bool
is_ready c place n =
    set.contains (requests_of c place) n
    && (not (set.contains c.imr n) && not (is_inhibited (nests_specially c place) (order c.lowest) (inhibitors_of c) n))

-- the top: the ready level of highest priority
unfoldable pub top_of : Chip → Place → Option ℕ
top_of c place = find (is_ready c place) (order c.lowest)

-- what makes a level the top: it is ready and no ready one comes before it; or none, where no level is ready
abbrev pub IsTop : Chip → Place → Option ℕ → Type 0
IsTop c place None = (n : ℕ) → n < 8 → is_ready c place n ≡ false
IsTop c place (Some t) = (is_ready c place t ≡ true) × ((n : ℕ) → n < 8 → is_ready c place n ≡ true → comes_by (order c.lowest) t n ≡ true)

-- the level of highest priority that asks and is not inhibited
unfoldable pub first_free : Bool → ℕ → Numbers → Numbers → Option ℕ
first_free special lowest asking inhibitors =
    find (λ n. set.contains asking n && not (is_inhibited special (order lowest) inhibitors n)) (order lowest)
