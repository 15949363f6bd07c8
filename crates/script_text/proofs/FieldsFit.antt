-- What is read fits: numbers, rows and calls.
use Rattle.std.proofs.Common.{◌≡◌, ℕ, ◌^◌, ◌<◌, ◌≤◌, Bool, true, false, ◌&&◌, nat_eq, nat_lt, nat_le, List, [], ◌∷◌, length, codes, Some, None, Ok, Err, IfOk, if◌then◌else◌, refl, All, arith}
use Rattle.std.specs.Prelude.{slice_index, ◌||◌}
use Rattle.std.specs.declared.option.Option.{Option}
use Rattle.std.specs.declared.result.Result.{Result}
use Rattle.std.proofs.lemmas.Bool.Decides.{nat_tests}
use Rattle.std.proofs.lemmas.List.Elements.{All-cons, All-nil}
use Rattle.irq_base.specs.declared.fault.LineCause.{LineCause}
use Rattle.irq_base.specs.declared.fault.LineCause.TheVariants.{Number}
use Rattle.irq_base.specs.declared.call.Row.{Row}
use Rattle.irq_base.specs.declared.call.Row.TheVariants.{Pic, Ioapic, Msi as MsiRow}
use Rattle.script_text.specs.Causes.{of_one, of_two, of_three}
use Rattle.script_text.specs.Words.{same_text, parts_of, none, one, two, three, is_empty}
use Rattle.script_text.specs.Numbers.{between, hex, hex_from, decimal_in, decimal_from, hex64, hex32, hex16, number64, number16, number8}
use Rattle.script_text.specs.Commands.{optional, fixed_word, to_pin, to_message, to_target, row, row_parts, rows, with_row}
use Rattle.script_text.specs.Fitting.{FitsRow, FitsIfThere}

-- an answer of either arm
pub if-either : {X : Type 0} (P : X → Type 0) (b : Bool) (r s : Result X LineCause) → IfOk r P → IfOk s P → IfOk (if b then r else s) P
if-either P true r s h k = h
if-either P false r s h k = k

-- so many words
pub one-fits : {X : Type 0} (P : X → Type 0) (words : List (List ℕ)) (f : List ℕ → Result X LineCause) → ((w : List ℕ) → IfOk (f w) P) → IfOk (one words f) P
one-fits P [] f h = tt
one-fits P (a ∷ []) f h = h a
one-fits P (a ∷ b ∷ ws) f h = tt

pub two-fits : {X : Type 0} (P : X → Type 0) (words : List (List ℕ)) (f : List ℕ → List ℕ → Result X LineCause) → ((v w : List ℕ) → IfOk (f v w) P) → IfOk (two words f) P
two-fits P [] f h = tt
two-fits P (a ∷ []) f h = tt
two-fits P (a ∷ b ∷ []) f h = h a b
two-fits P (a ∷ b ∷ c ∷ ws) f h = tt

pub three-fits : {X : Type 0} (P : X → Type 0) (words : List (List ℕ)) (f : List ℕ → List ℕ → List ℕ → Result X LineCause) → ((v w x : List ℕ) → IfOk (f v w x) P) → IfOk (three words f) P
three-fits P [] f h = tt
three-fits P (a ∷ []) f h = tt
three-fits P (a ∷ b ∷ []) f h = tt
three-fits P (a ∷ b ∷ c ∷ []) f h = h a b c
three-fits P (a ∷ b ∷ c ∷ d ∷ ws) f h = tt

pub none-fits : {X : Type 0} (P : X → Type 0) (words : List (List ℕ)) (x : X) → P x → IfOk (none words x) P
none-fits P [] x h = h
none-fits P (w ∷ ws) x h = tt

-- fields that fit
pub of-one : {A X : Type 0} (P : X → Type 0) (Q : A → Type 0) (f : A → X) (a : Result A LineCause) → IfOk a Q → ((v : A) → Q v → P (f v)) → IfOk (of_one f a) P
of-one P Q f (Ok v) q k = k v q
of-one P Q f (Err e) q k = tt

pub of-two : {A B X : Type 0} (P : X → Type 0) (Q : A → Type 0) (R : B → Type 0) (f : A → B → X) (a : Result A LineCause) (b : Result B LineCause) →
    IfOk a Q → IfOk b R → ((v : A) (w : B) → Q v → R w → P (f v w)) → IfOk (of_two f a b) P
of-two P Q R f (Ok v) (Ok w) q r k = k v w q r
of-two P Q R f (Ok v) (Err e) q r k = tt
of-two P Q R f (Err d) (Ok w) q r k = tt
of-two P Q R f (Err d) (Err e) q r k = tt

pub of-three : {A B C X : Type 0} (P : X → Type 0) (Q : A → Type 0) (R : B → Type 0) (S : C → Type 0) (f : A → B → C → X) (a : Result A LineCause) (b : Result B LineCause) (c : Result C LineCause) →
    IfOk a Q → IfOk b R → IfOk c S → ((u : A) (v : B) (w : C) → Q u → R v → S w → P (f u v w)) → IfOk (of_three f a b c) P
of-three P Q R S f (Ok u) (Ok v) (Ok w) q r s k = k u v w q r s
of-three P Q R S f (Ok u) (Ok v) (Err e) q r s k = tt
of-three P Q R S f (Ok u) (Err d) (Ok w) q r s k = tt
of-three P Q R S f (Ok u) (Err d) (Err e) q r s k = tt
of-three P Q R S f (Err d) (Ok v) (Ok w) q r s k = tt
of-three P Q R S f (Err d) (Ok v) (Err e) q r s k = tt
of-three P Q R S f (Err d) (Err e) (Ok w) q r s k = tt
of-three P Q R S f (Err d) (Err e) (Err g) q r s k = tt

-- numbers
in-range : (least most : ℕ) (o : Option ℕ) → IfOk (between least most o) (λ n. (least ≤ n) × (n ≤ most))
in-range least most None = tt
in-range least most (Some n) = go (nat_le least n && nat_le n most) (λ h. (low h, high h))
  where
    go : (b : Bool) → (b ≡ true → (least ≤ n) × (n ≤ most)) → IfOk (if b then Ok n else Err Number) (λ n. (least ≤ n) × (n ≤ most))
    go true h = h refl
    go false h = tt

    low : (nat_le least n && nat_le n most) ≡ true → least ≤ n
    low h = grind (arith, nat_tests, h)

    high : (nat_le least n && nat_le n most) ≡ true → n ≤ most
    high h = grind (arith, nat_tests, h)

pub decimal-fits : (least most : ℕ) (word : List ℕ) → IfOk (decimal_in least most word) (λ n. (least ≤ n) × (n ≤ most))
decimal-fits least most word =
    if-either (λ n. (least ≤ n) × (n ≤ most)) (nat_eq (length word) 0 || (nat_lt 1 (length word) && nat_eq (slice_index word 0) 48)) (Err Number) (between least most (decimal_from 0 word))
    tt (in-range least most (decimal_from 0 word))

hex-fits : (most : ℕ) (word : List ℕ) → IfOk (hex most word) (λ n. (0 ≤ n) × (n ≤ most))
hex-fits most word =
    if-either (λ n. (0 ≤ n) × (n ≤ most)) (nat_eq (length word) 0 || nat_lt 16 (length word)) (Err Number) (between 0 most (hex_from 0 word)) tt (in-range 0 most (hex_from 0 word))

below : (least most bound : ℕ) (r : Result ℕ LineCause) → most < bound → IfOk r (λ n. (least ≤ n) × (n ≤ most)) → IfOk r (λ n. n < bound)
below least most bound (Ok n) less h = omega (arith, less, h.1)
below least most bound (Err e) less h = tt

abbrev pub Below : ℕ → ℕ → Type 0
Below bits n = n < 2 ^ bits

pub fits-hex64 : (w : List ℕ) → IfOk (hex64 w) (Below 64)
fits-hex64 w = below 0 0xffffffffffffffff (2 ^ 64) (hex64 w) (omega arith) (hex-fits 0xffffffffffffffff w)

pub fits-hex32 : (w : List ℕ) → IfOk (hex32 w) (Below 32)
fits-hex32 w = below 0 0xffffffff (2 ^ 32) (hex32 w) (omega arith) (hex-fits 0xffffffff w)

pub fits-hex16 : (w : List ℕ) → IfOk (hex16 w) (Below 16)
fits-hex16 w = below 0 0xffff (2 ^ 16) (hex16 w) (omega arith) (hex-fits 0xffff w)

pub fits-number64 : (w : List ℕ) → IfOk (number64 w) (Below 64)
fits-number64 w = below 0 0xffffffffffffffff (2 ^ 64) (number64 w) (omega arith) (decimal-fits 0 0xffffffffffffffff w)

pub fits-number16 : (w : List ℕ) → IfOk (number16 w) (Below 16)
fits-number16 w = below 0 0xffff (2 ^ 16) (number16 w) (omega arith) (decimal-fits 0 0xffff w)

pub fits-number8 : (w : List ℕ) → IfOk (number8 w) (Below 8)
fits-number8 w = below 0 0xff (2 ^ 8) (number8 w) (omega arith) (decimal-fits 0 0xff w)

-- any field
abbrev pub Any : {A : Type 0} → A → Type 0
Any x = Unit {0}

pub any : {A : Type 0} (r : Result A LineCause) → IfOk r (Any {A = A})
any (Ok x) = tt
any (Err e) = tt

-- what may be left out
pub optional-fits : (bits : ℕ) (fixed : List ℕ) (field : List ℕ → Result ℕ LineCause) (words : List (List ℕ)) → ((w : List ℕ) → IfOk (field w) (Below bits)) →
    IfOk (optional fixed field words) (FitsIfThere bits)
optional-fits bits fixed field words fits =
    if-either (FitsIfThere bits) (is_empty words) (Ok None) (two words (λ word value. of_two (λ (_ : Bool) v. Some v) (fixed_word fixed word) (field value))) tt
    (two-fits (FitsIfThere bits) words (λ word value. of_two (λ (_ : Bool) v. Some v) (fixed_word fixed word) (field value))
    (λ word value. of-two (FitsIfThere bits) (Any {A = Bool}) (Below bits) (λ (_ : Bool) v. Some v) (fixed_word fixed word) (field value) (any (fixed_word fixed word)) (fits value) (λ _ v _ h. h)))

-- rows
pin-fits : (gsi kind n : List ℕ) → IfOk (to_pin gsi kind n) FitsRow
pin-fits gsi kind n =
    if-either FitsRow (same_text kind (codes "pic")) _ _ (of-two FitsRow (Below 16) (Below 8) (λ g n. Pic g n) (number16 gsi) (number8 n) (fits-number16 gsi) (fits-number8 n) (λ _ _ g h. (g, h)))
    (if-either FitsRow (same_text kind (codes "io")) _ _ (of-two FitsRow (Below 16) (Below 8) (λ g n. Ioapic g n) (number16 gsi) (number8 n) (fits-number16 gsi) (fits-number8 n) (λ _ _ g h. (g, h))) tt)

message-fits : (gsi kind address payload : List ℕ) → IfOk (to_message gsi kind address payload) FitsRow
message-fits gsi kind address payload =
    if-either FitsRow (same_text kind (codes "msi")) _ _
    (of-three FitsRow (Below 16) (Below 64) (Below 32) (λ g a p. MsiRow g a p) (number16 gsi) (hex64 address) (hex32 payload) (fits-number16 gsi) (fits-hex64 address) (fits-hex32 payload) (λ _ _ _ g a p. (g, a, p))) tt

target-fits : (gsi : List ℕ) (parts : List (List ℕ)) → IfOk (to_target gsi parts) FitsRow
target-fits gsi [] = tt
target-fits gsi (kind ∷ []) = tt
target-fits gsi (kind ∷ n ∷ []) = pin-fits gsi kind n
target-fits gsi (kind ∷ address ∷ payload ∷ []) = message-fits gsi kind address payload
target-fits gsi (a ∷ b ∷ c ∷ d ∷ ps) = tt

parts-fit : (parts : List (List ℕ)) → IfOk (row_parts parts) FitsRow
parts-fit [] = tt
parts-fit (gsi ∷ []) = tt
parts-fit (gsi ∷ target ∷ []) = target-fits gsi (parts_of 46 target)
parts-fit (a ∷ b ∷ c ∷ ps) = tt

with-fits : (r : Result Row LineCause) (rs : Result (List Row) LineCause) → IfOk r FitsRow → IfOk rs (All FitsRow) → IfOk (with_row r rs) (All FitsRow)
with-fits (Ok r) (Ok rs) h hs = All-cons FitsRow r rs h hs
with-fits (Ok r) (Err e) h hs = tt
with-fits (Err d) rs h hs = tt

pub rows-fit : (words : List (List ℕ)) → IfOk (rows words) (All FitsRow)
rows-fit [] = All-nil FitsRow
rows-fit (word ∷ words) = with-fits (row word) (rows words) (parts-fit (parts_of 61 word)) (rows-fit words)
