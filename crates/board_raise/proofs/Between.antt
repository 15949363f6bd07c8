-- Numbers in order, and the loops over them.
use Rattle.std.proofs.Common.{◌≡◌, ℕ, zero, suc, ◌+◌, ◌-◌, ◌<◌, ◌≤◌, true, false, nat_lt, if◌then◌else◌, [], ◌∷◌, ◌++◌, refl, sym, ap, ◌∙◌, arith, length, is_some, Some, None}
use Rattle.std.specs.declared.option.Option.{Option}
use Rattle.std.specs.FinSet as set
use Rattle.std.proofs.lemmas.List.{length-set}
use Rattle.irq_bits.specs.Members.{Numbers}
use Rattle.irq_base.specs.declared.message.Message.{Message}
use Rattle.lapic.specs.Registers.{LocalApic}
use Rattle.board_raise.specs.declared.sending.Reached.{Reached}
use Rattle.board_raise.specs.Send.{numbers_below, only}
use Rattle.board_raise.specs.OnRow.{Row, apic_in, missing_or, first_missing, accepted_at, accepted_by}
use Rattle.board_raise.specs.RowSteps.{numbers_from, numbers_between, answer_at, with_answer, reached_after}

pub between_none : (first end : ℕ) → end ≤ first → numbers_between first end ≡ []
unfolding numbers_between numbers_from
between_none first end h = let none : end - first ≡ 0 = omega (h, arith) in ap (numbers_from first) none

pub between_next : (first end : ℕ) → first < end → numbers_between first end ≡ first ∷ numbers_between (first + 1) end
unfolding numbers_between numbers_from
between_next first end h = let one_more : end - first ≡ suc (end - (first + 1)) = omega (h, arith) in ap (numbers_from first) one_more

from_push : (first count : ℕ) → numbers_from first (suc count) ≡ numbers_from first count ++ (first + count) ∷ []
unfolding numbers_from
from_push first zero = let same : first ≡ first + 0 = omega arith in ap (λ n. n ∷ []) same
from_push first (suc count) =
    let same : (first + 1) + count ≡ first + suc count = omega arith in
    ap (λ l. first ∷ l) (from_push (first + 1) count ∙ ap (λ n. numbers_from (first + 1) count ++ n ∷ []) same)

from_below : (count : ℕ) → numbers_from 0 count ≡ numbers_below count
unfolding numbers_from
from_below zero = refl
from_below (suc count) =
    let same : 0 + count ≡ count = omega arith in
    from_push 0 count ∙ ap (λ n. numbers_from 0 count ++ n ∷ []) same ∙ ap (λ l. l ++ count ∷ []) (from_below count)

pub between_below : (cpus : ℕ) → numbers_between 0 cpus ≡ numbers_below cpus
unfolding numbers_between
between_below cpus = let all : cpus - 0 ≡ cpus = omega arith in ap (numbers_from 0) all ∙ from_below cpus

pub between_one : (n cpus : ℕ) → n < cpus → numbers_between n (n + 1) ≡ only n cpus
between_one n cpus h =
    let next : n < n + 1 = omega arith in
    let last : n + 1 ≤ n + 1 = omega arith in
    let below : nat_lt n cpus ≡ true = grind (h, arith) in
    between_next n (n + 1) next ∙ ap (λ l. n ∷ l) (between_none (n + 1) (n + 1) last) ∙ sym (ap (λ t. if t then n ∷ [] else []) below)

pub between_no_one : (n cpus : ℕ) → cpus ≤ n → numbers_between 0 0 ≡ only n cpus
between_no_one n cpus h =
    let none : 0 ≤ 0 = omega arith in
    let above : nat_lt n cpus ≡ false = grind (h, arith) in
    between_none 0 0 none ∙ sym (ap (λ t. if t then n ∷ [] else []) above)

pub ruleset reach_rules = (between_below, between_one, between_no_one)

-- ---- the first that is lacking

pub lacking_here : (row : Row) (n end : ℕ) → n < end → is_some (apic_in row n) ≡ false → first_missing row (numbers_between n end) ≡ Some n
lacking_here row n end below none = ap (first_missing row) (between_next n end below) ∙ at (apic_in row n) none
  where
    at : (x : Option LocalApic) → is_some x ≡ false → missing_or n x (first_missing row (numbers_between (n + 1) end)) ≡ Some n
    at None h = refl
    at (Some a) h = absurd (cc)

pub lacking_later : (row : Row) (n end : ℕ) → n < end → is_some (apic_in row n) ≡ true → first_missing row (numbers_between n end) ≡ first_missing row (numbers_between (n + 1) end)
lacking_later row n end below some = ap (first_missing row) (between_next n end below) ∙ at (apic_in row n) some
  where
    at : (x : Option LocalApic) → is_some x ≡ true → missing_or n x (first_missing row (numbers_between (n + 1) end)) ≡ first_missing row (numbers_between (n + 1) end)
    at None h = absurd (cc)
    at (Some a) h = refl

pub none_lacking : (row : Row) (first end : ℕ) → end ≤ first → first_missing row (numbers_between first end) ≡ None
none_lacking row first end h = ap (first_missing row) (between_none first end h)

-- ---- the processors that accept

pub length-accepted : (n : ℕ) (x : Option LocalApic) (message : Message) (row : Row) → length (accepted_at n x message row) ≡ length row
length-accepted n None message row = refl
length-accepted n (Some apic) message row = length-set row n _

module _ (message : Message) (takers : Numbers) (n end : ℕ) (below : n < end) (row : Row) where
  pub accepted-taken : set.contains takers n ≡ true → accepted_by message takers (numbers_between n end) row ≡ accepted_by message takers (numbers_between (n + 1) end) (accepted_at n (apic_in row n) message row)
  accepted-taken h =
      ap (λ l. accepted_by message takers l row) (between_next n end below)
      ∙ ap (λ t. accepted_by message takers (numbers_between (n + 1) end) (if t then accepted_at n (apic_in row n) message row else row)) h

  pub accepted-passed : set.contains takers n ≡ false → accepted_by message takers (numbers_between n end) row ≡ accepted_by message takers (numbers_between (n + 1) end) row
  accepted-passed h =
      ap (λ l. accepted_by message takers l row) (between_next n end below)
      ∙ ap (λ t. accepted_by message takers (numbers_between (n + 1) end) (if t then accepted_at n (apic_in row n) message row else row)) h

  module _ (s : Reached) where
    pub reached-taken : set.contains takers n ≡ true → reached_after message takers (numbers_between n end) row s
        ≡ reached_after message takers (numbers_between (n + 1) end) (accepted_at n (apic_in row n) message row) (with_answer s n (answer_at (apic_in row n) message))
    unfolding reached_after
    reached-taken h =
        ap (λ l. reached_after message takers l row s) (between_next n end below)
        ∙ ap (λ t. if t then reached_after message takers (numbers_between (n + 1) end) (accepted_at n (apic_in row n) message row) (with_answer s n (answer_at (apic_in row n) message)) else reached_after message takers (numbers_between (n + 1) end) row s) h

    pub reached-passed : set.contains takers n ≡ false → reached_after message takers (numbers_between n end) row s ≡ reached_after message takers (numbers_between (n + 1) end) row s
    unfolding reached_after
    reached-passed h =
        ap (λ l. reached_after message takers l row s) (between_next n end below)
        ∙ ap (λ t. if t then reached_after message takers (numbers_between (n + 1) end) (accepted_at n (apic_in row n) message row) (with_answer s n (answer_at (apic_in row n) message)) else reached_after message takers (numbers_between (n + 1) end) row s) h

pub accepted-none : (message : Message) (takers : Numbers) (first end : ℕ) (row : Row) → end ≤ first → accepted_by message takers (numbers_between first end) row ≡ row
accepted-none message takers first end row h = ap (λ l. accepted_by message takers l row) (between_none first end h)

pub reached-none : (message : Message) (takers : Numbers) (first end : ℕ) (row : Row) (s : Reached) → end ≤ first → reached_after message takers (numbers_between first end) row s ≡ s
unfolding reached_after
reached-none message takers first end row s h = ap (λ l. reached_after message takers l row s) (between_none first end h)
