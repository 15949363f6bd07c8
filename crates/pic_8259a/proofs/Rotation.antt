-- The level of highest priority by a rotated byte, in every case by a table that the checker computes.
use Rattle.std.specs.Prelude.{ℕ, ◌≡◌, ◌+◌, ◌%◌, ◌<◌, zero, suc, Bool, true, false, ◌&&◌, nat_eq, nat_lt, find, Some, None, if◌then◌else◌}
use Rattle.std.specs.declared.option.Option.{Option}
use Rattle.std.specs.Int.{rotate_right, trailing_zeros, w8}
use Rattle.irq_bits.specs.Members.{is_set, members_of}
use Rattle.pic_8259a.specs.Levels.{order, highest_of}
use Rattle.irq_bits.specs.SetLemmas.{contains-set_below}
use Rattle.std.proofs.Common.{refl, sym, ap, ◌∙◌, arith, inl, inr, true≢false}
use Rattle.std.proofs.lemmas.Bool.Decides.{nat_tests, eqb_tells}

abbrev pub rotated_highest : ℕ → ℕ → Option ℕ
rotated_highest lowest byte = if nat_eq byte 0 then None else Some ((lowest + 1 + trailing_zeros w8 (rotate_right w8 byte (lowest + 1))) % 8)

-- the test of membership, as the table reads it
abbrev pub tested : ℕ → ℕ → Bool
tested byte n = nat_lt n 8 && is_set byte n

abbrev pub same : Option ℕ → Option ℕ → Bool
same None None = true
same (Some a) (Some b) = nat_eq a b
same _ _ = false

abbrev pub all_below : ℕ → (ℕ → Bool) → Bool
all_below zero p = true
all_below (suc k) p = p k && all_below k p

abbrev pub table_level : (l : ℕ) → Bool
table_level l = all_below 256 (λ byte. same (rotated_highest l byte) (find (tested byte) (order l)))

pub table : all_below 8 table_level ≡ true
unfolding lib.Count.count_trailing_zeros
table = refl

both_true : (a b : Bool) → (a && b) ≡ true → (a ≡ true) × (b ≡ true)
both_true a b e = grind arith

pub from_all : (k : ℕ) (p : ℕ → Bool) → all_below k p ≡ true → (n : ℕ) → n < k → p n ≡ true
from_all zero p all n below = absurd (omega arith)
from_all (suc k) p all n below =
    elim (eqb_tells n k) [
      | inl h ↦ ap p h.1 ∙ (both_true _ _ all).0
      | inr h ↦ from_all k p (both_true _ _ all).1 n (omega (arith, h.1))
    ]

same-is : (a b : Option ℕ) → same a b ≡ true → a ≡ b
same-is None None e = refl
same-is (Some a) (Some b) e = let f : a ≡ b = grind (arith, nat_tests) in ap Some f
same-is None (Some b) e = absurd (true≢false (sym e))
same-is (Some a) None e = absurd (true≢false (sym e))

in_table : (l byte : ℕ) → l < 8 → byte < 256 → rotated_highest l byte ≡ find (tested byte) (order l)
in_table l byte low fits = same-is _ _ (from_all 256 (λ b. same (rotated_highest l b) (find (tested b) (order l))) (from_all 8 table_level table l low) byte fits)

pub highest_by_rotation : (l byte : ℕ) → l < 8 → byte < 256 → highest_of l (members_of 8 byte) ≡ rotated_highest l byte
unfolding highest_of members_of
highest_by_rotation l byte low fits = (λ i. find (λ n. contains-set_below 8 (is_set byte) n i) (order l)) ∙ sym (in_table l byte low fits)
