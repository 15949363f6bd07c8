-- What the operations of bytes are to sets of levels: the laws of words at eight bits.
use Rattle.std.proofs.Common.{◌≡◌, ℕ, ◌*◌, ◌/◌, ◌%◌, ◌^◌, ◌<◌, nat_eq, bit_and, bit_or}
use Rattle.std.specs.Int.{w8, bit_not}
use Rattle.std.specs.FinSet as set
use Rattle.irq_bits.specs.Members.{members_of, word_of}
use Rattle.irq_bits.specs.Words.{members_of-test, members_of-zero, members_of-or, members_of-and, members_of-minus}
use Rattle.irq_bits.specs.Words.{members_of-insert, members_of-remove, members_of-word}

pub level-test : (byte k : ℕ) → k < 8 → set.contains (members_of 8 byte) k ≡ nat_eq (bit_and (byte / 2 ^ k) 1) 1
level-test byte k below = members_of-test 8 byte k below

pub level-empty : members_of 8 0 ≡ set.empty
level-empty = members_of-zero 8

pub level-union : (a b : ℕ) → members_of 8 (bit_or a b) ≡ set.union (members_of 8 a) (members_of 8 b)
level-union a b = members_of-or 8 a b

pub level-intersection : (a b : ℕ) → members_of 8 (bit_and a b) ≡ set.intersection (members_of 8 a) (members_of 8 b)
level-intersection a b = members_of-and 8 a b

pub level-difference : (a b : ℕ) → b < 2 ^ 8 → members_of 8 (bit_and a (bit_not w8 b)) ≡ set.difference (members_of 8 a) (members_of 8 b)
level-difference a b fits = members_of-minus w8 a b fits

pub level-insert : (byte k : ℕ) → k < 8 → members_of 8 (bit_or byte (1 * 2 ^ k % 2 ^ 8)) ≡ set.insert (members_of 8 byte) k
level-insert byte k below = members_of-insert w8 byte k below

pub level-remove : (byte k : ℕ) → k < 8 → members_of 8 (bit_and byte (bit_not w8 (1 * 2 ^ k % 2 ^ 8))) ≡ set.remove (members_of 8 byte) k
level-remove byte k below = members_of-remove w8 byte k below

pub level-byte : (byte : ℕ) → byte < 2 ^ 8 → word_of 8 (members_of 8 byte) ≡ byte
level-byte byte fits = members_of-word 8 byte fits

pub ruleset level_rules =
    (level-test, level-empty, level-union, level-intersection, level-difference, level-insert, level-remove, level-byte)
