-- What the ports read at power-on: no level requests, and all levels are masked.
use Rattle.std.proofs.Common.{◌≡◌, ℕ, Bool, ◌&&◌, not, false, None, [], ◌∷◌, sym, ap, ◌∙◌, arith, is_some}
use Rattle.std.specs.Ordering.{nat_cmp}
use Rattle.std.specs.FinSet as set
use Rattle.std.specs.FinSet.{contains-empty}
use Rattle.irq_bits.specs.Members.{Numbers}
use Rattle.pic_8259a.specs.Levels.{levels_of, byte_of, order}
use Rattle.pic_8259a.specs.Chip.{chip_at_power_on}
use Rattle.pic_8259a.specs.Priority.{own_requests, requests_of, top_of, is_ready, is_inhibited, inhibitors_of}
use Rattle.pic_8259a.specs.Pair.{PortsStartAsTold}
use Rattle.pic_8259a.specs.Rules.{level-empty, level-union, level-intersection, level-difference, level-byte}
use Rattle.pic_8259a.specs.declared.chip.Place.TheVariants.{Slave, Master}
use Rattle.pic_8259a.proofs.Ready.{find_nothing}

both_empty : (f : Numbers → Numbers → Numbers) → levels_of 0 ≡ f (levels_of 0) (levels_of 0) → f set.empty set.empty ≡ set.empty
both_empty f e = ap (λ s. f s s) (sym level-empty) ∙ sym e ∙ level-empty

nothing_requests : own_requests chip_at_power_on ≡ set.empty
nothing_requests =
    (λ i. set.union (both_empty set.intersection (level-intersection 0 0) i) (both_empty set.difference (level-difference 0 0 (omega arith)) i))
    ∙ both_empty set.union (level-union 0 0)

no_top : top_of chip_at_power_on Slave ≡ None
unfolding top_of
no_top = find_nothing (is_ready chip_at_power_on Slave) (order 7) (λ n. ap (λ s. set.contains s n && free n) nothing_requests ∙ ap (λ b. b && free n) (contains-empty nat_cmp n))
  where
    free : ℕ → Bool
    free n = not (set.contains (levels_of 0xff) n) && not (is_inhibited false (order 7) (inhibitors_of chip_at_power_on) n)

no_byte : byte_of set.empty ≡ 0
no_byte = ap byte_of (sym level-empty) ∙ level-byte 0 (omega arith)

no_requests : byte_of (own_requests chip_at_power_on) ≡ 0
no_requests = ap byte_of nothing_requests ∙ no_byte

master_requests : byte_of (requests_of chip_at_power_on (Master (is_some (top_of chip_at_power_on Slave)))) ≡ 0
master_requests = ap (λ t. byte_of (requests_of chip_at_power_on (Master (is_some t)))) no_top ∙ no_requests

full_byte : byte_of (levels_of 0xff) ≡ 0xff
full_byte = level-byte 0xff (omega arith)

pub ports_start_as_told : PortsStartAsTold
ports_start_as_told i = master_requests i ∷ full_byte i ∷ no_requests i ∷ full_byte i ∷ no_byte i ∷ no_byte i ∷ []
