-- What the operations of 32-bit words are to sets of pins: the laws of words at that width.
use Rattle.std.proofs.Common.{◌≡◌, ℕ, ◌*◌, ◌/◌, ◌%◌, ◌^◌, ◌<◌, nat_eq, bit_and, bit_or, sym, ap, ◌∙◌, arith}
use Rattle.std.specs.Int.{w32, bit_not}
use Rattle.std.specs.FinSet as set
use Rattle.irq_bits.specs.Members.{members_of, word_of}
use Rattle.irq_bits.specs.Words.{members_of-test, members_of-zero, members_of-insert, members_of-remove, members_of-word}

pub pin-test : (word k : ℕ) → k < 32 → set.contains (members_of 32 word) k ≡ nat_eq (bit_and (word / 2 ^ k) 1) 1
pin-test word k below = members_of-test 32 word k below

pub pin-empty : members_of 32 0 ≡ set.empty
pin-empty = members_of-zero 32

pub pin-insert : (word k : ℕ) → k < 32 → members_of 32 (bit_or word (1 * 2 ^ k % 2 ^ 32)) ≡ set.insert (members_of 32 word) k
pin-insert word k below = members_of-insert w32 word k below

pub pin-remove : (word k : ℕ) → k < 32 → members_of 32 (bit_and word (bit_not w32 (1 * 2 ^ k % 2 ^ 32))) ≡ set.remove (members_of 32 word) k
pin-remove word k below = members_of-remove w32 word k below

pub pin-word : (word : ℕ) → word < 2 ^ 32 → word_of 32 (members_of 32 word) ≡ word
pin-word word fits = members_of-word 32 word fits

-- a word and its set are empty together
pub pin-none : (word : ℕ) → word < 2 ^ 32 → members_of 32 word ≡ set.empty → word ≡ 0
pin-none word fits e =
    sym (members_of-word 32 word fits) ∙ ap (word_of 32) (e ∙ sym (members_of-zero 32)) ∙ members_of-word 32 0 (omega arith)

pub ruleset pin_rules = (pin-test, pin-empty, pin-insert, pin-remove, pin-word, pin-none)
