-- Rows of local APICs: a write at one place, and what stands at the others.
use Rattle.std.proofs.Common.{◌≡◌, ◌≢◌, ℕ, zero, suc, false, nat_eq, List, [], ◌∷◌, slice_get, slice_set, refl, ap, ◌∙◌, arith, Some, None}
use Rattle.std.specs.List.{list_any}
use Rattle.std.specs.declared.option.Option.{Option}
use Rattle.irq_base.specs.declared.message.Message.{Message}
use Rattle.lapic.specs.Registers.{LocalApic}
use Rattle.lapic.specs.Messages.{accepted}
use Rattle.board_model.specs.Hand.{flat}
use Rattle.board_raise.specs.OnRow.{Row, apic_in, accepted_at}
use Rattle.board_raise.proofs.SendExactly.{neither}

slice_get-set_other : {X : Type 0} (xs : List X) (i j : ℕ) (x : X) → i ≢ j → slice_get (slice_set xs i x) j ≡ slice_get xs j
slice_get-set_other [] i j x h = refl
slice_get-set_other (y ∷ ys) zero zero x h = absurd (h refl)
slice_get-set_other (y ∷ ys) zero (suc j) x h = refl
slice_get-set_other (y ∷ ys) (suc i) zero x h = refl
slice_get-set_other (y ∷ ys) (suc i) (suc j) x h = slice_get-set_other ys i j x (λ e. h (ap suc e))

differ : (i j : ℕ) → nat_eq j i ≡ false → i ≢ j
differ i j h e = grind arith

-- what stands at another place stays
pub apic_in-other : (row : Row) (i j : ℕ) (x : Option LocalApic) → nat_eq j i ≡ false → apic_in (slice_set row i x) j ≡ apic_in row j
apic_in-other row i j x h = ap flat (slice_get-set_other row i j x (differ i j h))

-- two rows have the same at these places
unfoldable pub Same : Row → Row → List ℕ → Type 0
Same row other [] = Unit {0}
Same row other (n ∷ ns) = (apic_in row n ≡ apic_in other n) × Same row other ns

pub same_itself : (row : Row) (ns : List ℕ) → Same row row ns
unfolding Same
same_itself row [] = tt
same_itself row (n ∷ ns) = (refl, same_itself row ns)

-- so they have after a write at another place
pub same_after : (row other : Row) (k : ℕ) (x : Option LocalApic) (ns : List ℕ) → list_any (λ n. nat_eq n k) ns ≡ false → Same row other ns → Same (slice_set row k x) other ns
unfolding Same
same_after row other k x [] apart same = tt
same_after row other k x (n ∷ ns) apart same =
    let each = neither (nat_eq n k) (list_any (λ n. nat_eq n k) ns) apart in
    (apic_in-other row k n x each.0 ∙ same.0, same_after row other k x ns each.1 same.1)

pub same_accepted : (row other : Row) (k : ℕ) (x : Option LocalApic) (message : Message) (ns : List ℕ) → list_any (λ n. nat_eq n k) ns ≡ false → Same row other ns → Same (accepted_at k x message row) other ns
same_accepted row other k None message ns apart same = same
same_accepted row other k (Some a) message ns apart same = same_after row other k (Some (accepted a message)) ns apart same
