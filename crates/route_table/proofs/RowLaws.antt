-- Laws of rows: one row more, what the first row gives, and what the rules say by look-ups.
use Rattle.std.proofs.Common.{◌≡◌, ℕ, zero, suc, Bool, true, false, ◌&&◌, ◌||◌, if◌then◌else◌, List, [], ◌∷◌, ◌++◌, Some, None, refl, sym, ap, ◌∙◌, arith}
use Rattle.std.proofs.lemmas.List.Elements.{Contains-append_right}
use Rattle.std.specs.Cmp.{unsigned_Decides}
use Rattle.std.specs.List.{Contains, list_any}
use Rattle.std.specs.Option.{option_or, is_some}
use Rattle.std.specs.declared.option.Option.{Option}
use Rattle.irq_base.specs.declared.call.Row.{Row}
use Rattle.route_table.specs.Rows.{gsi_in, is_of, first_given}

pub Contains-one : (x y : Row) → Contains (x ∷ []) y → y ≡ x
Contains-one x y (zero, below, at) = sym at
Contains-one x y (suc k, below, at) = absurd (omega (arith, below))

some_or : {A : Type 0} (a b : Option A) → is_some (option_or a b) ≡ (is_some a || is_some b)
some_or None b = refl
some_or (Some x) b = refl

or_assoc : {A : Type 0} (a b c : Option A) → option_or (option_or a b) c ≡ option_or a (option_or b c)
or_assoc None b c = refl
or_assoc (Some x) b c = refl

pub or_none : {A : Type 0} (a : Option A) → a ≡ option_or a None
or_none None = refl
or_none (Some x) = refl

some_if : {A : Type 0} (b : Bool) (a : Option A) → is_some (if b then a else None) ≡ (b && is_some a)
some_if true a = refl
some_if false a = refl

-- one row more
pub first_given-snoc : {A : Type 0} (f : Row → Option A) (gsi : ℕ) (rows : List Row) (row : Row) →
    first_given f gsi (rows ++ row ∷ []) ≡ option_or (first_given f gsi rows) (if is_of gsi row then f row else None)
unfolding first_given
first_given-snoc f gsi [] row = sym (or_none (if is_of gsi row then f row else None))
first_given-snoc f gsi (x ∷ xs) row = ap (λ o. option_or (if is_of gsi x then f x else None) o) (first_given-snoc f gsi xs row) ∙ sym (or_assoc (if is_of gsi x then f x else None) (first_given f gsi xs) (if is_of gsi row then f row else None))

-- some row of the GSI gives some
pub is_some-first_given : {A : Type 0} (f : Row → Option A) (gsi : ℕ) (rows : List Row) → is_some (first_given f gsi rows) ≡ list_any (λ other. is_of gsi other && is_some (f other)) rows
unfolding first_given
is_some-first_given f gsi [] = refl
is_some-first_given f gsi (x ∷ xs) = some_or (if is_of gsi x then f x else None) (first_given f gsi xs) ∙ (λ i. some_if (is_of gsi x) (f x) i || is_some-first_given f gsi xs i)

-- what is given is given by a row
pub first_given-row : {A : Type 0} (f : Row → Option A) (gsi : ℕ) (rows : List Row) (a : A) → first_given f gsi rows ≡ Some a → (row : Row) × Contains rows row × (gsi_in row ≡ gsi) × (f row ≡ Some a)
unfolding first_given
first_given-row f gsi [] a e = cc
first_given-row f gsi (x ∷ xs) a e =
    elim (is_of gsi x) as (λ b. is_of gsi x ≡ b → option_or (if b then f x else None) (first_given f gsi xs) ≡ Some a → (row : Row) × Contains (x ∷ xs) row × (gsi_in row ≡ gsi) × (f row ≡ Some a)) [
      | true ↦ λ on. elim (f x) as (λ o. f x ≡ o → option_or o (first_given f gsi xs) ≡ Some a → (row : Row) × Contains (x ∷ xs) row × (gsi_in row ≡ gsi) × (f row ≡ Some a)) [
        | None ↦ λ _ rest. later (first_given-row f gsi xs a rest)
        | Some v ↦ λ is given. (x, (0, omega arith, refl), (unsigned_Decides (gsi_in x) gsi).0 on, is ∙ given)
      ] refl
      | false ↦ λ _ rest. later (first_given-row f gsi xs a rest)
    ] refl e
  where
    later : ((row : Row) × Contains xs row × (gsi_in row ≡ gsi) × (f row ≡ Some a)) → (row : Row) × Contains (x ∷ xs) row × (gsi_in row ≡ gsi) × (f row ≡ Some a)
    later found = (found.0, Contains-append_right (x ∷ []) xs found.0 found.1, found.2, found.3)
