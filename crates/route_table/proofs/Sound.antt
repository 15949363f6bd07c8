-- Rows that keep the rules: each is in the table that they make.
use Rattle.std.proofs.Common.{◌≡◌, ◌≢◌, ℕ, ◌+◌, ◌<◌, zero, suc, Bool, true, false, not, ◌&&◌, ◌||◌, nat_eq, nat_lt, if◌then◌else◌, inl, inr, List, [], ◌∷◌, ◌++◌, length, Some, None, true≢false, refl, sym, ap, subst, ◌∙◌, arith, append_assoc, append-nil}
use Rattle.std.proofs.lemmas.Bool.Decides.{nat_tests, eqb_tells}
use Rattle.std.proofs.lemmas.List.Elements.{Contains-append_cases, Contains-append_right}
use Rattle.std.specs.Cmp.{unsigned_Decides}
use Rattle.std.specs.List.{Contains, list_any}
use Rattle.std.specs.Option.{option_or, is_some}
use Rattle.std.specs.declared.option.Option.{Option}
use borrow.Author.Tests.{ltb-true}
use Rattle.irq_base.specs.Refusals.{Reason, first_of}
use Rattle.irq_base.specs.declared.call.Row.{Row}
use Rattle.irq_base.specs.declared.refusal.Refusal.{Refusal}
use Rattle.irq_base.specs.declared.refusal.Refusal.TheVariants.{NoGsi, BadRow, ChipTwice, Mixed, PinTwice, Full, BadMsi}
use Rattle.route_table.specs.Rows.{gsi_in, pic_in, ioapic_in, msi_in, is_of, is_same, is_good_if, are_both, is_of_same_chip, has_message, is_same_pin, row_reasons, reasons_after, refusal_of, first_given}
use Rattle.route_table.proofs.RowLaws.{Contains-one, first_given-snoc, first_given-row}
use Rattle.route_table.specs.Words.{is_below}
use Rattle.route_table.specs.Pins.{owner}

pub or_on : (a b : Bool) → b ≡ true → (a || b) ≡ true
or_on true b e = refl
or_on false b e = e

pub any_where : (p : Row → Bool) (rows : List Row) (row : Row) → Contains rows row → p row ≡ true → list_any p rows ≡ true
any_where p [] row (k, below, at) on = absurd (omega (arith, below))
any_where p (x ∷ xs) row (zero, below, at) on = ap (λ b. b || list_any p xs) (ap p at ∙ on)
any_where p (x ∷ xs) row (suc k, below, at) on = or_on (p x) (list_any p xs) (any_where p xs row (k, omega (arith, below), at) on)

-- ---- the pin's word

pub owner-row : (f : Row → Option ℕ) (n : ℕ) (rows : List Row) (v : ℕ) → owner f n rows ≡ v → v ≢ 0 → (row : Row) × Contains rows row × (gsi_in row + 1 ≡ v) × (is_same (f row) (Some n) ≡ true)
unfolding owner
owner-row f n [] v e some = absurd (some (sym e))
owner-row f n (x ∷ xs) v e some =
    elim (is_same (f x) (Some n)) as (λ b. is_same (f x) (Some n) ≡ b → (if b then gsi_in x + 1 else owner f n xs) ≡ v → (row : Row) × Contains (x ∷ xs) row × (gsi_in row + 1 ≡ v) × (is_same (f row) (Some n) ≡ true)) [
      | true ↦ λ on given. (x, (0, omega arith, refl), given, on)
      | false ↦ λ _ rest. let found = owner-row f n xs v rest some in (found.0, Contains-append_right (x ∷ []) xs found.0 found.1, found.2, found.3)
    ] refl e

own_word : (b : Bool) (g : ℕ) → (if b then g + 1 else 0) ≡ (if nat_eq 0 0 then (if b then g + 1 else 0) else 0)
own_word b g = refl

pub owner-snoc : (f : Row → Option ℕ) (n : ℕ) (rows : List Row) (row : Row) → owner f n (rows ++ row ∷ []) ≡ (if nat_eq (owner f n rows) 0 then (if is_same (f row) (Some n) then gsi_in row + 1 else 0) else owner f n rows)
unfolding owner
owner-snoc f n [] row = own_word (is_same (f row) (Some n)) (gsi_in row)
owner-snoc f n (x ∷ xs) row =
    elim (is_same (f x) (Some n)) as (λ b. (if b then gsi_in x + 1 else owner f n (xs ++ row ∷ [])) ≡ (if nat_eq (if b then gsi_in x + 1 else owner f n xs) 0 then (if is_same (f row) (Some n) then gsi_in row + 1 else 0) else (if b then gsi_in x + 1 else owner f n xs))) [
      | true ↦ kept (gsi_in x) _
      | false ↦ owner-snoc f n xs row
    ]
  where
    kept : (g w : ℕ) → g + 1 ≡ (if nat_eq (g + 1) 0 then w else g + 1)
    kept g w = grind (arith, nat_tests)

pub owner-any : (f : Row → Option ℕ) (n : ℕ) (rows : List Row) → not (nat_eq (owner f n rows) 0) ≡ list_any (λ other. is_same (f other) (Some n)) rows
unfolding owner
owner-any f n [] = refl
owner-any f n (x ∷ xs) =
    elim (is_same (f x) (Some n)) as (λ b. not (nat_eq (if b then gsi_in x + 1 else owner f n xs) 0) ≡ (b || list_any (λ other. is_same (f other) (Some n)) xs)) [
      | true ↦ above (gsi_in x)
      | false ↦ owner-any f n xs
    ]
  where
    above : (g : ℕ) → not (nat_eq (g + 1) 0) ≡ true
    above g = grind (arith, nat_tests)

-- ---- rows that keep the rules

-- each row gives its GSI what it names
abbrev pub Gives : {A : Type 0} → (Row → Option A) → List Row → Type 0
Gives {A} f rows = (row : Row) (a : A) → Contains rows row → f row ≡ Some a → first_given f (gsi_in row) rows ≡ Some a

-- the pin that a row names is its GSI's
abbrev pub Owns : (Row → Option ℕ) → List Row → Type 0
Owns f rows = (row : Row) (n : ℕ) → Contains rows row → f row ≡ Some n → owner f n rows ≡ gsi_in row + 1

pub record Sound (rows : List Row) : Type 0 where
  pub low : (row : Row) → Contains rows row → gsi_in row < 4096
  pub pic : Gives pic_in rows
  pub ioapic : Gives ioapic_in rows
  pub msi : Gives msi_in rows
  pub pic_owned : Owns pic_in rows
  pub ioapic_owned : Owns ioapic_in rows

-- a reason that does not hold
pub no_reason : (b : Bool) (r : Refusal) (rest : List Reason) → first_of ((b, r) ∷ rest) ≡ None → (b ≡ false) × (first_of rest ≡ None)
no_reason true r rest e = cc
no_reason false r rest e = (refl, e)

not_off : (b : Bool) → not b ≡ false → b ≡ true
not_off true e = refl
not_off false e = absurd (true≢false e)

-- the rules at a row
pub record Kept (rows : List Row) (row : Row) : Type 0 where
  pub low : nat_lt (gsi_in row) 4096 ≡ true
  pub pins : (is_below (pic_in row) 16 && is_below (ioapic_in row) 24) ≡ true
  pub good : is_good_if (msi_in row) ≡ true
  pub chip : list_any (λ other. is_of (gsi_in row) other && is_of_same_chip row other) rows ≡ false
  pub mixed : list_any (λ other. is_of (gsi_in row) other && has_message row other) rows ≡ false
  pub pin : list_any (is_same_pin row) rows ≡ false

kept_by : (a b c d f g : Bool) (p q r s t u : Refusal) →
    first_of ((a, p) ∷ (b, q) ∷ (c, r) ∷ (d, s) ∷ (f, t) ∷ (g, u) ∷ []) ≡ None →
    (a ≡ false) × (b ≡ false) × (c ≡ false) × (d ≡ false) × (f ≡ false) × (g ≡ false)
kept_by a b c d f g p q r s t u e =
    let v = no_reason a p ((b, q) ∷ (c, r) ∷ (d, s) ∷ (f, t) ∷ (g, u) ∷ []) e in
    let w = no_reason b q ((c, r) ∷ (d, s) ∷ (f, t) ∷ (g, u) ∷ []) v.1 in
    let x = no_reason c r ((d, s) ∷ (f, t) ∷ (g, u) ∷ []) w.1 in
    let y = no_reason d s ((f, t) ∷ (g, u) ∷ []) x.1 in
    let z = no_reason f t ((g, u) ∷ []) y.1 in
    (v.0, w.0, x.0, y.0, z.0, (no_reason g u [] z.1).0)

pub kept_of : (rows : List Row) (row : Row) → first_of (row_reasons rows row) ≡ None → Kept rows row
kept_of rows row e =
    let all = kept_by
    (not (nat_lt (gsi_in row) 4096))
    (not (is_below (pic_in row) 16 && is_below (ioapic_in row) 24))
    (not (is_good_if (msi_in row)))
    (list_any (λ other. is_of (gsi_in row) other && is_of_same_chip row other) rows)
    (list_any (λ other. is_of (gsi_in row) other && has_message row other) rows)
    (list_any (is_same_pin row) rows)
    NoGsi BadRow BadMsi ChipTwice Mixed PinTwice e in
    record { low = not_off _ all.0; pins = not_off _ all.1; good = not_off _ all.2; chip = all.3; mixed = all.4; pin = all.5 }

-- no row of the GSI gives what the test bars
free_of : {A : Type 0} (f : Row → Option A) (test : Row → Bool) (gsi : ℕ) (rows : List Row) → list_any (λ other. is_of gsi other && test other) rows ≡ false → ((other : Row) (a : A) → f other ≡ Some a → test other ≡ true) → first_given f gsi rows ≡ None
free_of {A} f test gsi rows none bars =
    elim (first_given f gsi rows) as (λ (o : Option A). first_given f gsi rows ≡ o → o ≡ None) [
      | None ↦ λ _. refl
      | Some a ↦ λ e.
          let found = first_given-row f gsi rows a e in
          let one : list_any (λ other. is_of gsi other && test other) rows ≡ true = any_where (λ other. is_of gsi other && test other) rows found.0 found.1 (λ i. (unsigned_Decides (gsi_in found.0) gsi).1 found.2 i && bars found.0 a found.3 i) in
          absurd (true≢false (sym one ∙ none))
    ] refl

gives-snoc : {A : Type 0} (f : Row → Option A) (rows : List Row) (row : Row) → Gives f rows → ((a : A) → f row ≡ Some a → first_given f (gsi_in row) rows ≡ None) → Gives f (rows ++ row ∷ [])
gives-snoc f rows row gives free r a inside is =
    elim (Contains-append_cases rows (row ∷ []) r inside) [
      | inl old ↦ first_given-snoc f (gsi_in r) rows row ∙ ap (λ o. option_or o (if is_of (gsi_in r) row then f row else None)) (gives r a old is)
      | inr last ↦
          let same : r ≡ row = Contains-one row r last in
          let named : f row ≡ Some a = ap f (sym same) ∙ is in
          let own : is_of (gsi_in r) row ≡ true = (unsigned_Decides (gsi_in row) (gsi_in r)).1 (ap gsi_in (sym same)) in
          first_given-snoc f (gsi_in r) rows row
          ∙ ap (λ o. option_or o (if is_of (gsi_in r) row then f row else None)) (ap (λ (x : Row). first_given f (gsi_in x) rows) same ∙ free a named)
          ∙ ap (λ b. if b then f row else None) own
          ∙ named
    ]

is_same-itself : (n : ℕ) → is_same (Some n) (Some n) ≡ true
is_same-itself n = (unsigned_Decides n n).1 refl

owns-snoc : (f : Row → Option ℕ) (rows : List Row) (row : Row) → Owns f rows → ((n : ℕ) → f row ≡ Some n → owner f n rows ≡ 0) → Owns f (rows ++ row ∷ [])
owns-snoc f rows row owns free r n inside is =
    elim (Contains-append_cases rows (row ∷ []) r inside) [
      | inl old ↦ owner-snoc f n rows row ∙ ap (λ v. if nat_eq v 0 then (if is_same (f row) (Some n) then gsi_in row + 1 else 0) else v) (owns r n old is) ∙ above (gsi_in r) _
      | inr last ↦
          let same : r ≡ row = Contains-one row r last in
          let named : f row ≡ Some n = ap f (sym same) ∙ is in
          owner-snoc f n rows row
          ∙ ap (λ v. if nat_eq v 0 then (if is_same (f row) (Some n) then gsi_in row + 1 else 0) else v) (free n named)
          ∙ ap (λ o. if is_same o (Some n) then gsi_in row + 1 else 0) named
          ∙ ap (λ b. if b then gsi_in row + 1 else 0) (is_same-itself n)
          ∙ ap (λ (x : Row). gsi_in x + 1) (sym same)
    ]
  where
    above : (g w : ℕ) → (if nat_eq (g + 1) 0 then w else g + 1) ≡ g + 1
    above g w = grind (arith, nat_tests)

-- a pin that no row names
pub free_pin : (f : Row → Option ℕ) (n : ℕ) (row : Row) (rows : List Row) → list_any (is_same_pin row) rows ≡ false → ((other : Row) → is_same (f other) (Some n) ≡ true → is_same_pin row other ≡ true) → owner f n rows ≡ 0
free_pin f n row rows none bars =
    elim (eqb_tells (owner f n rows) 0) [
      | inl h ↦ h.1
      | inr h ↦
          let found = owner-row f n rows (owner f n rows) refl h.1 in
          absurd (true≢false (sym (any_where (is_same_pin row) rows found.0 found.1 (bars found.0 found.3)) ∙ none))
    ]

pub sound-none : Sound []
sound-none = record {
  low = λ row (k, below, at). absurd (omega (arith, below));
  pic = λ row a (k, below, at). absurd (omega (arith, below));
  ioapic = λ row a (k, below, at). absurd (omega (arith, below));
  msi = λ row a (k, below, at). absurd (omega (arith, below));
  pic_owned = λ row n (k, below, at). absurd (omega (arith, below));
  ioapic_owned = λ row n (k, below, at). absurd (omega (arith, below));
}

-- one row more that keeps the rules
pub sound-snoc : (rows : List Row) (row : Row) → Sound rows → Kept rows row → Sound (rows ++ row ∷ [])
sound-snoc rows row s k = record {
  low = λ r inside. elim (Contains-append_cases rows (row ∷ []) r inside) [
    | inl old ↦ s.low r old
    | inr last ↦ let g : gsi_in row < 4096 = ltb-true (gsi_in row) 4096 k.low in let same : gsi_in r ≡ gsi_in row = ap gsi_in (Contains-one row r last) in omega (arith, g, same)
  ];
  pic = gives-snoc pic_in rows row s.pic (λ a named. free_of pic_in (is_of_same_chip row) (gsi_in row) rows k.chip (λ other b is i. (is_some (is i) && is_some (named i)) || are_both (ioapic_in other) (ioapic_in row)));
  ioapic = gives-snoc ioapic_in rows row s.ioapic (λ a named. free_of ioapic_in (is_of_same_chip row) (gsi_in row) rows k.chip (λ other b is. or_on (are_both (pic_in other) (pic_in row)) _ (λ i. is_some (is i) && is_some (named i))));
  msi = gives-snoc msi_in rows row s.msi (λ a named. free_of msi_in (has_message row) (gsi_in row) rows k.mixed (λ other b is i. is_some (is i) || is_some (msi_in row)));
  pic_owned = owns-snoc pic_in rows row s.pic_owned (λ n named. free_pin pic_in n row rows k.pin (λ other same. ap (λ b. b || is_same (ioapic_in other) (ioapic_in row)) (ap (λ o. is_same (pic_in other) o) named ∙ same)));
  ioapic_owned = owns-snoc ioapic_in rows row s.ioapic_owned (λ n named. free_pin ioapic_in n row rows k.pin (λ other same. or_on (is_same (pic_in other) (pic_in row)) _ (ap (λ o. is_same (ioapic_in other) o) named ∙ same)));
}

first_of-append : (xs ys : List Reason) → first_of (xs ++ ys) ≡ None → (first_of xs ≡ None) × (first_of ys ≡ None)
first_of-append [] ys e = (refl, e)
first_of-append (x ∷ xs) ys e =
    elim x.0 as (λ b. (if b then Some x.1 else first_of (xs ++ ys)) ≡ None → ((if b then Some x.1 else first_of xs) ≡ None) × (first_of ys ≡ None)) [
      | true ↦ λ some. absurd (some_is_none x.1 some)
      | false ↦ λ rest. first_of-append xs ys rest
    ] e
  where
    some_is_none : (r : Refusal) → Some r ≡ None → ⊥
    some_is_none r e = cc

sound_after : (earlier rows : List Row) → Sound earlier → first_of (reasons_after earlier rows) ≡ None → Sound (earlier ++ rows)
unfolding reasons_after
sound_after earlier [] s e = subst Sound (sym (append-nil earlier)) s
sound_after earlier (row ∷ rows) s e =
    let parts = first_of-append (row_reasons earlier row) (reasons_after (earlier ++ row ∷ []) rows) e in
    subst Sound (append_assoc earlier (row ∷ []) rows) (sound_after (earlier ++ row ∷ []) rows (sound-snoc earlier row s (kept_of earlier row parts.0)) parts.1)

-- a list that is not refused is sound
pub sound_of : (rows : List Row) → refusal_of rows ≡ None → Sound rows
sound_of rows e = sound_after [] rows sound-none (no_reason (nat_lt 4096 (length rows)) Full (reasons_after [] rows) e).1
