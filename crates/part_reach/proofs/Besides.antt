-- What the local APIC of a processor tells of a call's reach is so on the board that a seat's list leaves.
use Rattle.std.proofs.Common.{◌≡◌, ℕ, zero, suc, ◌+◌, ◌<◌, Bool, true, false, List, [], ◌∷◌, nat_eq, slice_get, is_some, Some, None, refl, sym, ap, ◌∙◌, subst, arith}
use Rattle.std.proofs.lemmas.Bool.Decides.{nat_tests}
use Rattle.std.specs.Prelude.{not, ◌&&◌, ◌||◌, if◌then◌else◌, unwrap_or, IfSome}
use Rattle.std.specs.declared.option.Option.{Option}
use Rattle.irq_bits.specs.Members.{greatest_vector}
use Rattle.irq_base.specs.declared.call.Call.{Call}
use Rattle.irq_base.specs.declared.call.Call.TheVariants as calls
use Rattle.irq_base.specs.declared.call.Caller.{Caller}
use Rattle.irq_base.specs.declared.shape.Part.{Part}
use Rattle.irq_base.specs.declared.shape.Part.TheVariants.{Pic, Ioapic, Lapic}
use Rattle.irq_base.specs.declared.shape.Shape.{Shape}
use Rattle.lapic.specs.Registers.{LocalApic, power_on}
use Rattle.board_model.specs.Board.{Board, part_of}
use Rattle.board_model.specs.Routing.{routing_of_registry}
use Rattle.board_ack.specs.ReachLaws.{of_acknowledge_each}
use Rattle.board_calls.specs.Calls.{number_of}
use Rattle.board_calls.specs.Processors.{hears_pair}
use Rattle.board_step.specs.History.{opening}
use Rattle.board_step.specs.Reach.{of_ack, of_end, reach}
use Rattle.turn_book.specs.Hands.{held_at}
use Rattle.turn_book.specs.Histories.{is_in}
use Rattle.turn_book.specs.Views.{IsLegal, HoldsRight}
use Rattle.part_slots.specs.declared.slot.Slot.{Slot}
use Rattle.part_slots.specs.declared.slot.Slot.TheVariants as slots
use Rattle.part_slots.specs.Commits.{Seen}
use Rattle.part_slots.specs.Running.{Opens, IsStep}
use Rattle.part_slots.specs.Slots.{place, slots_of}
use Rattle.part_slots.proofs.Places.{lapic_slots}
use Rattle.part_attempt.proofs.Standing.{leads, right_is}
use Rattle.part_reach.specs.Beside.{beside_apic, beside, IsBeside}
use Rattle.part_reach.specs.Turns.{IsReachedAfter}
use Rattle.part_reach.proofs.Copied.{some_is, out_of_rest}

-- ---- the reach

abbrev ack_row : Board → ℕ → LocalApic → Part → Bool
ack_row b n apic q = of_ack of_acknowledge_each (routing_of_registry b.registry b.shape.tick) b.shape b n apic q

abbrev end_row : Board → Option ℕ → Part → Bool
end_row b vector q = of_end of_acknowledge_each (routing_of_registry b.registry b.shape.tick) b.shape b vector q

ack_reaches : (b : Board) (n : ℕ) (apic : LocalApic) (q : Part) → (if not apic.nmi && hears_pair n apic then Some Pic else None) ≡ Some q → ack_row b n apic q ≡ true
ack_reaches b n apic q told = by (not apic.nmi && hears_pair n apic) refl told
  where
    by : (t : Bool) → (not apic.nmi && hears_pair n apic) ≡ t → (if t then Some Pic else None) ≡ Some q → ack_row b n apic q ≡ true
    by true is told = subst (λ p. ack_row b n apic p ≡ true) (some_is Pic q told) (ap (λ t. t && true) is)
    by false is told = cc

end_reaches : (b : Board) (vector : Option ℕ) (q : Part) → (if is_some vector then Some Ioapic else None) ≡ Some q → end_row b vector q ≡ true
end_reaches b None q told = cc
end_reaches b (Some vector) q told = subst (λ p. end_row b (Some vector) p ≡ true) (some_is Ioapic q told) refl

or_more : (s t : Bool) → t ≡ true → (s || t) ≡ true
or_more true t is = refl
or_more false t is = is

apic_reaches : (b : Board) (caller : Caller) (call : Call) (q : Part) → beside_apic (part_of b (Lapic (number_of caller))) (number_of caller) call ≡ Some q → reach b caller call q ≡ true
apic_reaches b caller calls.Ack q told = ack_reaches b (number_of caller) (part_of b (Lapic (number_of caller))) q told
apic_reaches b caller calls.Eoi q told = or_more _ _ (end_reaches b (greatest_vector (part_of b (Lapic (number_of caller))).isr) q told)
apic_reaches b caller _ q told = cc

-- ---- the slot

slot_is : (apics : List LocalApic) (n : ℕ) (d : LocalApic) (x : Slot) (m : ℕ) (call : Call) (q : Part) → slice_get (lapic_slots apics) n ≡ Some x → beside x m call ≡ Some q → beside_apic (unwrap_or (slice_get apics n) d) m call ≡ Some q
slot_is [] n d x m call q is told = cc
slot_is (a ∷ apics) zero d x m call q is told = subst (λ s. beside s m call ≡ Some q) (sym (some_is (slots.Lapic a) x is)) told
slot_is (a ∷ apics) (suc n) d x m call q is told = slot_is apics n d x m call q is told

five : (n : ℕ) → suc (suc (suc (suc (suc n)))) ≡ n + 5
five n = omega arith

pub is_reached : (shape : Shape) (v : Seen) (begins : v.begin ≡ Some (opening shape)) (legal : IsLegal Opens IsStep v) (right : HoldsRight slots_of v) (caller : Caller) (call : Call) (q : Part)
    → IsBeside v (number_of caller) call q → IsReachedAfter shape caller call v.seen q
is_reached shape v begins legal right caller call q is =
    let n = number_of caller in
    let at : slice_get (slots_of legal.1) (suc (suc (suc (suc (suc n))))) ≡ Some is.slot = ap (slice_get (slots_of legal.1)) (five n) ∙ right_is shape v begins legal right (n + 5) is.slot is.held in
    record {
      board = legal.1;
      after = leads shape v begins legal;
      reached = apic_reaches legal.1 caller call q (slot_is legal.1.lapics n (power_on n) is.slot n call q at is.told);
    }

-- ---- its place

low_if : (t : Bool) (p q : Part) → place p < 5 → (if t then Some p else None) ≡ Some q → place q < 5
low_if true p q low is = subst (λ r. place r < 5) (some_is p q is) low
low_if false p q low is = cc

low : (slot : Slot) (n : ℕ) (call : Call) (q : Part) → beside slot n call ≡ Some q → place q < 5
low (slots.Lapic apic) n calls.Ack q told = low_if (not apic.nmi && hears_pair n apic) Pic q (omega arith) told
low (slots.Lapic apic) n calls.Eoi q told = low_if (is_some (greatest_vector apic.isr)) Ioapic q (omega arith) told
low (slots.Lapic apic) n _ q told = cc
low _ n call q told = cc

pub none_beside : (v : Seen) (n : ℕ) (call : Call) (turn : ℕ) → turn ≡ n + 5 → (o : Option Part) → IfSome o (IsBeside v n call) → IfSome o (λ q. is_in (place q) (turn ∷ []) ≡ false)
none_beside v n call turn at None is = tt
none_beside v n call turn at (Some q) is =
    let few = low is.slot n call q is.told in
    let other : nat_eq turn (place q) ≡ false = grind (arith, nat_tests) in
    out_of_rest turn (place q) [] other refl

-- what the slot that is held tells
pub told_by : (v : Seen) (n : ℕ) (call : Call) (x : Slot) (o : Option Part) → o ≡ beside x n call → held_at (n + 5) v.held ≡ Some x → IfSome o (IsBeside v n call)
told_by v n call x None is held = tt
told_by v n call x (Some q) is held = record { slot = x; held = held; told = sym is }
