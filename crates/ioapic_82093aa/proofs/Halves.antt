-- The two words of an entry tell the entry.
use Rattle.std.proofs.Common.{◌≡◌, ℕ, ◌+◌, ◌*◌, ◌/◌, ◌%◌, ◌^◌, ◌<◌, Bool, true, false, nat_eq, if◌then◌else◌, refl, ap, ◌∙◌, arith}
use Rattle.irq_bits.specs.Members.{is_set}
use Rattle.ioapic_82093aa.specs.Entries.{bit, low_word, high_word, WordsTellTheEntry}
use Rattle.ioapic_82093aa.specs.declared.entry.Entry.{Entry}

number : Bool → ℕ
number b = if b then 1 else 0

number-below : (b : Bool) → number b < 2
unfolding number
number-below true = omega arith
number-below false = omega arith

number-is : (b : Bool) → nat_eq (number b) 1 ≡ b
unfolding number
number-is true = refl
number-is false = refl

bit-number : (place : ℕ) (b : Bool) → bit place b ≡ number b * 2 ^ place
unfolding number
bit-number place true = omega arith
bit-number place false = omega arith

-- the low word as a sum of digits
sum : ℕ → ℕ → ℕ → ℕ → ℕ → ℕ → ℕ → ℕ
sum v m a b c d t = v + 2 ^ 8 * m + a * 2 ^ 11 + b * 2 ^ 13 + c * 2 ^ 14 + d * 2 ^ 15 + t * 2 ^ 16

record Digits (v m a b c d t : ℕ) : Type 0 where
  vector : sum v m a b c d t % 2 ^ 8 ≡ v
  mode : sum v m a b c d t / 2 ^ 8 % 2 ^ 3 ≡ m
  logical : sum v m a b c d t / 2 ^ 11 % 2 ≡ a
  active_low : sum v m a b c d t / 2 ^ 13 % 2 ≡ b
  remote_irr : sum v m a b c d t / 2 ^ 14 % 2 ≡ c
  level : sum v m a b c d t / 2 ^ 15 % 2 ≡ d
  masked : sum v m a b c d t / 2 ^ 16 % 2 ≡ t

digits : (v m a b c d t : ℕ) → v < 2 ^ 8 → m < 2 ^ 3 → a < 2 → b < 2 → c < 2 → d < 2 → t < 2 → Digits v m a b c d t
unfolding sum
digits v m a b c d t hv hm ha hb hc hd ht = record {
  vector = omega arith;
  mode = omega arith;
  logical = omega arith;
  active_low = omega arith;
  remote_irr = omega arith;
  level = omega arith;
  masked = omega arith;
}

low_word-sum : (e : Entry) → low_word e ≡ sum e.vector e.mode (number e.logical) (number e.active_low) (number e.remote_irr) (number e.level) (number e.masked)
unfolding sum
low_word-sum e i = e.vector + 2 ^ 8 * e.mode + bit-number 11 e.logical i + bit-number 13 e.active_low i + bit-number 14 e.remote_irr i + bit-number 15 e.level i + bit-number 16 e.masked i

pub words_tell_the_entry : WordsTellTheEntry
words_tell_the_entry e fits i = record {
  vector = (ap (λ w. w % 2 ^ 8) word ∙ d.vector) i;
  mode = (ap (λ w. w / 2 ^ 8 % 2 ^ 3) word ∙ d.mode) i;
  logical = (ap (λ w. is_set w 11) word ∙ ap (λ n. nat_eq n 1) d.logical ∙ number-is e.logical) i;
  active_low = (ap (λ w. is_set w 13) word ∙ ap (λ n. nat_eq n 1) d.active_low ∙ number-is e.active_low) i;
  remote_irr = (ap (λ w. is_set w 14) word ∙ ap (λ n. nat_eq n 1) d.remote_irr ∙ number-is e.remote_irr) i;
  level = (ap (λ w. is_set w 15) word ∙ ap (λ n. nat_eq n 1) d.level ∙ number-is e.level) i;
  masked = (ap (λ w. is_set w 16) word ∙ ap (λ n. nat_eq n 1) d.masked ∙ number-is e.masked) i;
  destination = destination i;
}
  where
    word : low_word e ≡ sum e.vector e.mode (number e.logical) (number e.active_low) (number e.remote_irr) (number e.level) (number e.masked)
    word = low_word-sum e

    d : Digits e.vector e.mode (number e.logical) (number e.active_low) (number e.remote_irr) (number e.level) (number e.masked)
    d = digits _ _ _ _ _ _ _ fits.vector fits.mode (number-below e.logical) (number-below e.active_low) (number-below e.remote_irr) (number-below e.level) (number-below e.masked)

    destination : high_word e / 2 ^ 24 ≡ e.destination
    destination = omega arith
