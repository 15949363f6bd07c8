-- A named processor records an illegal vector.
use Rattle.std.proofs.Common.{◌≡◌, Bool, true, false, not, ◌&&◌, ◌||◌, nat_lt, if◌then◌else◌, refl, sym, true≢false}
use Rattle.irq_base.specs.declared.message.Message.{Message}
use Rattle.lapic.specs.Registers.{LocalApic, is_enabled}
use Rattle.lapic.specs.Messages.{is_nmi, with_error, with_request}
use Rattle.board_raise.specs.Laws.{IllegalVectorIsRecorded}

and_second : (a b : Bool) → (a && b) ≡ true → b ≡ true
and_second true b h = h
and_second false b h = absurd (true≢false (sym h))

by_tests : (a : LocalApic) (m : Message) (nmi enabled low : Bool) → (nmi || enabled) ≡ true → (if nmi then false else low) ≡ true
    → (if nmi then record a { nmi = true } else if not enabled then a else if low then with_error a 6 else with_request a m) ≡ with_error a 6
by_tests a m true enabled low hears illegal = absurd (true≢false (sym illegal))
by_tests a m false false low hears illegal = absurd (true≢false (sym hears))
by_tests a m false true false hears illegal = absurd (true≢false (sym illegal))
by_tests a m false true true hears illegal = refl

pub illegal_vector_is_recorded : IllegalVectorIsRecorded
illegal_vector_is_recorded message from p taken named illegal = by_tests p.apic message (is_nmi message.mode) (is_enabled p.apic) (nat_lt message.vector 16) (and_second _ _ named) illegal
