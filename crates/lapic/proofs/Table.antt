-- What the table of registers finds, from the place of the row.
use Rattle.std.proofs.Common.{◌≡◌, ◌≢◌, ℕ, ◌<◌, zero, suc, Bool, true, false, ◌&&◌, cond, ◌==◌, nat_eq, List, [], ◌∷◌, length, map, get_or, Some, None, refl, sym, ap, ◌∙◌, subst, arith}
use Rattle.std.proofs.Math.ListN.{get_or-map}
use Rattle.std.proofs.lemmas.Bool.Decides.{nat_tests}
use Rattle.std.proofs.lemmas.List.{length-map}
use Rattle.std.proofs.lemmas.List.Quantifiers.{position-Some}
use Rattle.std.proofs.lemmas.Option.{get_or_from_slice_get}
use Rattle.std.specs.List.{position, find, list_all, All, slice_get}
use Rattle.reg_table.specs.declared.row.RegRow.{RegRow}
use Rattle.lapic.specs.declared.register.Register.TheVariants.{Id}
use Rattle.lapic.specs.Registers.{row_for, is_there, all_registers, register_at}

-- the element at a place that passes, where none before it does, is the one that is found
first_at : {X : Type 0} (q : X → Bool) (xs : List X) (k : ℕ) (d : X) → k < length xs → q (get_or xs k d) ≡ true → ((j : ℕ) → j < k → q (get_or xs j d) ≡ false) → find q xs ≡ Some (get_or xs k d)
first_at q [] k d below here before = absurd (omega arith)
first_at q (x ∷ xs) zero d below here before = ap (λ b. cond b (Some x) (find q xs)) here
first_at q (x ∷ xs) (suc k) d below here before = ap (λ b. cond b (Some x) (find q xs)) (before 0 (omega arith)) ∙ first_at q xs k d (omega arith) here (λ j h. before (suc j) (omega arith))

none_found : {X : Type 0} (q : X → Bool) (xs : List X) → ((k : ℕ) (d : X) → k < length xs → q (get_or xs k d) ≡ false) → find q xs ≡ None
none_found q [] none = refl
none_found q (x ∷ xs) none = ap (λ b. cond b (Some x) (find q xs)) (none 0 x (omega arith)) ∙ none_found q xs (λ k d h. none (suc k) d (omega arith))

both : (a b : Bool) → (a && b) ≡ true → (a ≡ true) × (b ≡ true)
both a b e = grind arith

all_pass : {X : Type 0} (t : X → Bool) (xs : List X) (k : ℕ) (d : X) → list_all t xs ≡ true → t d ≡ true → t (get_or xs k d) ≡ true
all_pass t [] k d all default = default
all_pass t (x ∷ xs) zero d all default = (both (t x) (list_all t xs) all).0
all_pass t (x ∷ xs) (suc k) d all default = all_pass t xs k d (both (t x) (list_all t xs) all).1 default

-- ---- the same of registers and their rows

-- the row at the place of an offset is that of the register which lies there
pub found : (k offset : ℕ) → Some k ≡ position (λ (r : RegRow). r.offset == offset) (map row_for all_registers) → register_at offset ≡ Some (get_or all_registers k Id)
unfolding register_at
found k offset e =
    let at = position-Some (λ (r : RegRow). r.offset == offset) (map row_for all_registers) k (row_for Id) (sym e) in
    let within : k < length all_registers = omega (arith, at.0, length-map all_registers row_for) in
    first_at (λ r. (row_for r).offset == offset) all_registers k Id within
    (ap (λ (r : RegRow). r.offset == offset) (sym (get_or-map row_for all_registers k Id)) ∙ at.1)
    (λ j h. ap (λ (r : RegRow). r.offset == offset) (sym (get_or-map row_for all_registers j Id)) ∙ at.2 j h)

unlike : (a b : ℕ) → a ≢ b → nat_eq a b ≡ false
unlike a b h = grind (arith, nat_tests)

pub not_found : (offset : ℕ) → All (λ (r : RegRow). r.offset ≢ offset) (map row_for all_registers) → register_at offset ≡ None
unfolding register_at
not_found offset none = none_found (λ r. (row_for r).offset == offset) all_registers (λ k d h.
    let within : k < length (map row_for all_registers) = omega (arith, h, length-map all_registers row_for) in
    unlike _ _ (subst (λ (r : RegRow). r.offset ≢ offset) (get_or-map row_for all_registers k d) (none k (row_for d) within)))

pub row_found : (k : ℕ) (row : RegRow) → slice_get (map row_for all_registers) k ≡ Some row → row ≡ row_for (get_or all_registers k Id)
row_found k row e = sym (get_or_from_slice_get (map row_for all_registers) k row (row_for Id) e) ∙ get_or-map row_for all_registers k Id

pub all_there : (k : ℕ) → is_there (get_or all_registers k Id) ≡ true
unfolding all_registers
all_there k = all_pass is_there all_registers k Id refl refl
