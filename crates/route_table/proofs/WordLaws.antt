-- A word is that of at most one route, and gives it back.
use Rattle.std.proofs.Common.{◌≡◌, ◌≢◌, ℕ, ◌+◌, ◌*◌, ◌/◌, ◌%◌, ◌^◌, ◌<◌, Bool, true, false, ◌&&◌, nat_eq, nat_lt, if◌then◌else◌, Some, None, IsTrue, refl, sym, ap, ◌∙◌, arith}
use Rattle.std.proofs.lemmas.Bool.Decides.{nat_tests}
use Rattle.std.specs.Cmp.{first_so, second_so, unsigned_Decides}
use Rattle.std.specs.declared.option.Option.{Option}
use borrow.Author.Tests.{ltb-true}
use Rattle.irq_base.specs.declared.message.MsiWord.{MsiWord}
use Rattle.irq_base.specs.declared.message.Targets.{Targets}
use Rattle.irq_bits.specs.Fields.{bits_of}
use Rattle.route_table.specs.Words.{no_targets, is_route, is_route_of, is_good, pin_named, bits_of_targets, target_bits, targets_word, pins_in, message_in, of_kind, named_by, is_marked, is_word_of, given_where, targets_in}

-- ---- the fields of a word

abbrev pins_word : ℕ → ℕ → ℕ → ℕ → ℕ → ℕ
pins_word x a n b k = x * 2 ^ 63 + (1 + (a + n * 2) * 2 ^ 2 + (b + k * 2) * 2 ^ 7)

abbrev message_word : ℕ → ℕ → ℕ → ℕ
message_word x address payload = x * 2 ^ 63 + (2 + address * 2 ^ 2 + payload * 2 ^ 22)

pins_kind : (x a n b k : ℕ) → bits_of (pins_word x a n b k) 1 0 ≡ 1
pins_kind x a n b k = omega arith

pic_there : (x a n b k : ℕ) → a < 2 → bits_of (pins_word x a n b k) 2 2 ≡ a
pic_there x a n b k p = omega arith

pic_number : (x a n b k : ℕ) → a < 2 → n < 16 → bits_of (pins_word x a n b k) 6 3 ≡ n
pic_number x a n b k p q = omega arith

ioapic_there : (x a n b k : ℕ) → a < 2 → n < 16 → b < 2 → bits_of (pins_word x a n b k) 7 7 ≡ b
ioapic_there x a n b k p q r = omega arith

ioapic_number : (x a n b k : ℕ) → a < 2 → n < 16 → b < 2 → k < 32 → bits_of (pins_word x a n b k) 12 8 ≡ k
ioapic_number x a n b k p q r s = omega arith

message_kind : (x address payload : ℕ) → bits_of (message_word x address payload) 1 0 ≡ 2
message_kind x address payload = omega arith

message_address : (x address payload : ℕ) → address < 2 ^ 20 → bits_of (message_word x address payload) 21 2 ≡ address
message_address x address payload p = omega arith

message_payload : (x address payload : ℕ) → address < 2 ^ 20 → payload < 2 ^ 32 → bits_of (message_word x address payload) 53 22 ≡ payload
message_payload x address payload p q = omega arith

mark_bit : (x rest : ℕ) → x < 2 → rest < 2 ^ 63 → bits_of (x * 2 ^ 63 + rest) 63 63 ≡ x
mark_bit x rest p q = omega arith

-- ---- a word names the targets of which it is made

pins_back : (x a n b k : ℕ) → a < 2 → n < 16 → b < 2 → k < 32 → named_by (pins_word x a n b k) ≡ record { pic = pin_named a n; ioapic = pin_named b k; msi = None }
pins_back x a n b k p q r s =
    pins_named (pins_word x a n b k) (pins_kind x a n b k)
    ∙ (λ i. record {
      pic = pin_named (pic_there x a n b k p i) (pic_number x a n b k p q i);
      ioapic = pin_named (ioapic_there x a n b k p q r i) (ioapic_number x a n b k p q r s i);
      msi = None;
    })
  where
    pins_named : (w : ℕ) → bits_of w 1 0 ≡ 1 → named_by w ≡ record { pic = pin_named (bits_of w 2 2) (bits_of w 6 3); ioapic = pin_named (bits_of w 7 7) (bits_of w 12 8); msi = None }
    pins_named w kind = ap (λ k. of_kind k (pins_in w) (message_in w)) kind

message_back : (x address payload : ℕ) → address < 2 ^ 20 → payload < 2 ^ 32 → named_by (message_word x address payload) ≡ record { pic = None; ioapic = None; msi = Some (record { address = 0xfee00000 + address; payload = payload }) }
message_back x address payload p q =
    message_named (message_word x address payload) (message_kind x address payload)
    ∙ (λ i. record { pic = None; ioapic = None; msi = Some (record { address = 0xfee00000 + message_address x address payload p i; payload = message_payload x address payload p q i }) })
  where
    message_named : (w : ℕ) → bits_of w 1 0 ≡ 2 → named_by w ≡ record { pic = None; ioapic = None; msi = Some (record { address = 0xfee00000 + bits_of w 21 2; payload = bits_of w 53 22 }) }
    message_named w kind = ap (λ k. of_kind k (pins_in w) (message_in w)) kind

mark_number : Bool → ℕ
mark_number true = 1
mark_number false = 0

mark_is : (m : Bool) → (if m then 2 ^ 63 else 0) ≡ mark_number m * 2 ^ 63
unfolding mark_number
mark_is true = refl
mark_is false = refl

mark_small : (m : Bool) → mark_number m < 2
unfolding mark_number
mark_small true = omega arith
mark_small false = omega arith

mark_back : (m : Bool) → nat_eq (mark_number m) 1 ≡ m
unfolding mark_number
mark_back true = refl
mark_back false = refl

good_address : (m : MsiWord) → is_good m ≡ true → 0xfee00000 + m.address % 2 ^ 20 ≡ m.address
good_address m good = let high : m.address / 2 ^ 20 ≡ 0xfee = (unsigned_Decides (m.address / 2 ^ 20) 0xfee).0 (first_so _ _ good) in omega (arith, high)

good_payload : (m : MsiWord) → is_good m ≡ true → m.payload < 2 ^ 32
good_payload m good = ltb-true m.payload (2 ^ 32) (second_so _ _ good)

named_back : (pic ioapic : Option ℕ) (msi : Option MsiWord) (x : ℕ) → is_route_of pic ioapic msi ≡ true → named_by (x * 2 ^ 63 + bits_of_targets pic ioapic msi) ≡ record { pic = pic; ioapic = ioapic; msi = msi }
named_back None None None x route = let none : bits_of (x * 2 ^ 63 + 0) 1 0 ≡ 0 = omega arith in ap (λ k. of_kind k (pins_in (x * 2 ^ 63 + 0)) (message_in (x * 2 ^ 63 + 0))) none
named_back (Some n) None None x route = pins_back x 1 n 0 0 (omega arith) (ltb-true n 16 (first_so _ _ route)) (omega arith) (omega arith)
named_back None (Some k) None x route = let low : k < 24 = ltb-true k 24 route in pins_back x 0 0 1 k (omega arith) (omega arith) (omega arith) (omega (arith, low))
named_back (Some n) (Some k) None x route = let low : k < 24 = ltb-true k 24 (second_so _ _ route) in pins_back x 1 n 1 k (omega arith) (ltb-true n 16 (first_so _ _ route)) (omega arith) (omega (arith, low))
named_back None None (Some m) x route = message_back x (m.address % 2 ^ 20) m.payload (omega arith) (good_payload m route) ∙ (λ i. record { pic = None; ioapic = None; msi = Some (record { address = good_address m route i; payload = m.payload }) })
named_back (Some n) ioapic (Some m) x route = cc
named_back None (Some k) (Some m) x route = cc

pub small_bits : (pic ioapic : Option ℕ) (msi : Option MsiWord) → is_route_of pic ioapic msi ≡ true → bits_of_targets pic ioapic msi < 2 ^ 63
small_bits None None None route = omega arith
small_bits (Some n) None None route = let low : n < 16 = ltb-true n 16 (first_so _ _ route) in omega (arith, low)
small_bits None (Some k) None route = let low : k < 24 = ltb-true k 24 route in omega (arith, low)
small_bits (Some n) (Some k) None route = let low : n < 16 = ltb-true n 16 (first_so _ _ route) in let less : k < 24 = ltb-true k 24 (second_so _ _ route) in omega (arith, low, less)
small_bits None None (Some m) route = let low : m.payload < 2 ^ 32 = good_payload m route in omega (arith, low)
small_bits (Some n) ioapic (Some m) route = cc
small_bits None (Some k) (Some m) route = cc

named_back_of : (t : Targets) (m : Bool) → is_route t ≡ true → named_by (targets_word t m) ≡ t
named_back_of t m route = ap (λ mark. named_by (mark + target_bits t)) (mark_is m) ∙ named_back t.pic t.ioapic t.msi (mark_number m) route

marked_back_of : (t : Targets) (m : Bool) → is_route t ≡ true → is_marked (targets_word t m) ≡ m
marked_back_of t m route =
    ap (λ mark. is_marked (mark + target_bits t)) (mark_is m)
    ∙ ap (λ x. nat_eq x 1) (mark_bit (mark_number m) (target_bits t) (mark_small m) (small_bits t.pic t.ioapic t.msi route))
    ∙ mark_back m

-- ---- what a word gives

pub targets_in-route : (word : ℕ) → IsTrue (is_route (targets_in word).0)
unfolding targets_in
targets_in-route word = routed (is_word_of word (named_by word) (is_marked word)) (named_by word) (is_marked word) (λ e. first_so _ _ e)
  where
    routed : (b : Bool) (t : Targets) (m : Bool) → (b ≡ true → is_route t ≡ true) → is_route (given_where b t m).0 ≡ true
    routed true t m route = route refl
    routed false t m route = refl

pub targets_in-encoded : (word : ℕ) (t : Targets) (m : Bool) → IsTrue (is_route t) → word ≡ targets_word t m → targets_in word ≡ (t, m)
unfolding targets_in
targets_in-encoded word t m route e =
    let named : named_by word ≡ t = ap named_by e ∙ named_back_of t m route in
    let mark : is_marked word ≡ m = ap is_marked e ∙ marked_back_of t m route in
    let same : nat_eq (targets_word t m) word ≡ true = (unsigned_Decides (targets_word t m) word).1 (sym e) in
    (λ i. given_where (is_word_of word (named i) (mark i)) (named i) (mark i))
    ∙ (λ i. given_where (route i && same i) t m)

pub targets_in-other : (word : ℕ) → ((t : Targets) (m : Bool) → IsTrue (is_route t) → word ≢ targets_word t m) → targets_in word ≡ (no_targets, false)
unfolding targets_in
targets_in-other word none = other (is_word_of word (named_by word) (is_marked word)) (named_by word) (is_marked word)
    (λ e. none (named_by word) (is_marked word) (first_so _ _ e) (sym ((unsigned_Decides (targets_word (named_by word) (is_marked word)) word).0 (second_so _ _ e))))
  where
    other : (b : Bool) (t : Targets) (m : Bool) → (b ≡ true → ⊥) → given_where b t m ≡ (no_targets, false)
    other true t m never = absurd (never refl)
    other false t m never = refl

-- in code, the payload is known to fit
pub good_where : (address payload : ℕ) → payload < 2 ^ 32 → nat_eq (address / 2 ^ 20) 0xfee ≡ (nat_eq (address / 2 ^ 20) 0xfee && nat_lt payload (2 ^ 32))
good_where address payload fits = grind (arith, nat_tests)

pub ruleset word_rules = (targets_in-route, targets_in-encoded, targets_in-other)

pub ruleset good_rules = (good_where)
