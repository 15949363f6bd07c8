-- Words and pins tell what the rows do, and go on to do so with one row more.
use Rattle.std.proofs.Common.{◌≡◌, ◌≢◌, ℕ, ◌+◌, ◌<◌, ◌≤◌, Bool, true, false, not, ◌&&◌, ◌||◌, nat_eq, nat_lt, if◌then◌else◌, inl, inr, List, [], ◌∷◌, ◌++◌, length, get_or, set, Some, None, true≢false, refl, sym, ap, subst, ◌∙◌, arith}
use Rattle.std.proofs.lemmas.Bool.Decides.{nat_tests, eqb_tells}
use Rattle.std.proofs.lemmas.List.{get_or-set_same, get_or-set_other, get_or_past}
use Rattle.std.specs.Cmp.{first_so, second_so, unsigned_Decides}
use Rattle.std.specs.List.{list_any}
use Rattle.std.specs.Option.{option_or, is_some}
use Rattle.std.specs.declared.option.Option.{Option}
use borrow.Author.Tests.{ltb-true}
use Rattle.irq_base.specs.declared.call.Row.{Row}
use Rattle.irq_base.specs.declared.call.Row.TheVariants.{Pic, Ioapic, Msi}
use Rattle.irq_base.specs.declared.message.MsiWord.{MsiWord}
use Rattle.irq_base.specs.declared.message.Targets.{Targets}
use Rattle.irq_base.specs.declared.refusal.Refusal.TheVariants.{NoGsi, BadRow, ChipTwice, Mixed, PinTwice, BadMsi}
use Rattle.route_table.specs.Words.{no_targets, is_below, is_route, is_route_of, targets_word, targets_in}
use Rattle.route_table.proofs.WordLaws.{targets_in-route, targets_in-encoded}
use Rattle.route_table.specs.Rows.{gsi_in, pic_in, ioapic_in, msi_in, is_of, is_same, is_good_if, are_both, is_of_same_chip, has_message, is_same_pin, row_reasons, has_target, targets_by, first_given}
use Rattle.route_table.proofs.RowLaws.{first_given-snoc, is_some-first_given, or_none}
use Rattle.route_table.specs.Pins.{owner}
use Rattle.route_table.proofs.Sound.{Kept, owner-snoc, owner-any, free_pin, or_on}
use Rattle.route_table.specs.Standing.{named_in, joined, route_at, is_taken, with_owner, fits_if, reasons_by, reasons_at, word_with, Stands}

-- past the end there is no target
pub route_at-past : (words : List ℕ) (gsi : ℕ) → length words ≤ gsi → no_targets ≡ (targets_in (get_or words gsi 0)).0
unfolding targets_in
route_at-past words gsi past = ap (λ w. (targets_in w).0) (sym (get_or_past words gsi 0 past))

pub ruleset past_rules = (route_at-past)

-- ---- a test of some row, in parts

any_chip : (a p q : Row → Bool) (b c : Bool) (rows : List Row) → list_any (λ o. a o && ((p o && b) || (q o && c))) rows ≡ ((list_any (λ o. a o && p o) rows && b) || (list_any (λ o. a o && q o) rows && c))
any_chip a p q b c [] = refl
any_chip a p q b c (x ∷ xs) = ap (λ r. (a x && ((p x && b) || (q x && c))) || r) (any_chip a p q b c xs) ∙ step (a x) (p x) (q x) b c (list_any (λ o. a o && p o) xs) (list_any (λ o. a o && q o) xs)
  where
    step : (a p q b c v w : Bool) → ((a && ((p && b) || (q && c))) || ((v && b) || (w && c))) ≡ ((((a && p) || v) && b) || (((a && q) || w) && c))
    step a p q b c v w = grind arith

any_mixed : (a m : Row → Bool) (b : Bool) (rows : List Row) → list_any (λ o. a o && (m o || b)) rows ≡ (list_any (λ o. a o && m o) rows || (b && list_any a rows))
any_mixed a m false [] = refl
any_mixed a m true [] = refl
any_mixed a m b (x ∷ xs) = ap (λ r. (a x && (m x || b)) || r) (any_mixed a m b xs) ∙ step (a x) (m x) b (list_any (λ o. a o && m o) xs) (list_any a xs)
  where
    step : (a m b v w : Bool) → ((a && (m || b)) || (v || (b && w))) ≡ (((a && m) || v) || (b && (a || w)))
    step a m b v w = grind arith

any_target : (a p q m : Row → Bool) → ((o : Row) → (p o || (q o || m o)) ≡ true) → (rows : List Row) → list_any a rows ≡ (list_any (λ o. a o && p o) rows || (list_any (λ o. a o && q o) rows || list_any (λ o. a o && m o) rows))
any_target a p q m each [] = refl
any_target a p q m each (x ∷ xs) = ap (λ r. a x || r) (any_target a p q m each xs) ∙ step (a x) (p x) (q x) (m x) _ _ _ (each x)
  where
    step : (a p q m v w z : Bool) → (p || (q || m)) ≡ true → (a || (v || (w || z))) ≡ (((a && p) || v) || (((a && q) || w) || ((a && m) || z)))
    step a p q m v w z e = grind arith

any_pin : (p q : Row → Bool) (rows : List Row) → list_any (λ o. p o || q o) rows ≡ (list_any p rows || list_any q rows)
any_pin p q [] = refl
any_pin p q (x ∷ xs) = ap (λ r. (p x || q x) || r) (any_pin p q xs) ∙ step (p x) (q x) (list_any p xs) (list_any q xs)
  where
    step : (p q v w : Bool) → ((p || q) || (v || w)) ≡ ((p || v) || (q || w))
    step p q v w = grind arith

is_same-none : (a : Option ℕ) → is_same a None ≡ false
is_same-none None = refl
is_same-none (Some n) = refl

any_same-none : (f : Row → Option ℕ) (rows : List Row) → list_any (λ o. is_same (f o) None) rows ≡ false
any_same-none f [] = refl
any_same-none f (x ∷ xs) = (λ i. is_same-none (f x) i || any_same-none f xs i)

taken_is : (f : Row → Option ℕ) (owners : List ℕ) (rows : List Row) (pin : Option ℕ) → ((n : ℕ) → get_or owners n 0 ≡ owner f n rows) → list_any (λ o. is_same (f o) pin) rows ≡ is_taken owners pin
taken_is f owners rows None same = any_same-none f rows
taken_is f owners rows (Some n) same = sym (owner-any f n rows) ∙ ap (λ v. not (nat_eq v 0)) (sym (same n))

names_some : (row : Row) → (is_some (pic_in row) || (is_some (ioapic_in row) || is_some (msi_in row))) ≡ true
unfolding pic_in ioapic_in msi_in
names_some (Pic gsi pin) = refl
names_some (Ioapic gsi pin) = refl
names_some (Msi gsi address payload) = refl

-- ---- the reasons by look-ups

chip_is : (rows : List Row) (row : Row) → list_any (λ other. is_of (gsi_in row) other && is_of_same_chip row other) rows ≡ (are_both (targets_by rows (gsi_in row)).pic (pic_in row) || are_both (targets_by rows (gsi_in row)).ioapic (ioapic_in row))
chip_is rows row =
    any_chip (is_of (gsi_in row)) (λ o. is_some (pic_in o)) (λ o. is_some (ioapic_in o)) (is_some (pic_in row)) (is_some (ioapic_in row)) rows
    ∙ (λ i. (sym (is_some-first_given pic_in (gsi_in row) rows) i && is_some (pic_in row)) || (sym (is_some-first_given ioapic_in (gsi_in row) rows) i && is_some (ioapic_in row)))

pub mixed_is : (rows : List Row) (row : Row) → list_any (λ other. is_of (gsi_in row) other && has_message row other) rows ≡ (is_some (targets_by rows (gsi_in row)).msi || (is_some (msi_in row) && has_target (targets_by rows (gsi_in row))))
mixed_is rows row =
    any_mixed (is_of (gsi_in row)) (λ o. is_some (msi_in o)) (is_some (msi_in row)) rows
    ∙ (λ i. sym (is_some-first_given msi_in (gsi_in row) rows) i || (is_some (msi_in row) && some_is i))
  where
    some_is : list_any (is_of (gsi_in row)) rows ≡ has_target (targets_by rows (gsi_in row))
    some_is = any_target (is_of (gsi_in row)) (λ o. is_some (pic_in o)) (λ o. is_some (ioapic_in o)) (λ o. is_some (msi_in o)) names_some rows
        ∙ (λ i. sym (is_some-first_given pic_in (gsi_in row) rows) i || (sym (is_some-first_given ioapic_in (gsi_in row) rows) i || sym (is_some-first_given msi_in (gsi_in row) rows) i))

pin_is : (words pics ioapics : List ℕ) (rows : List Row) (row : Row) → Stands words pics ioapics rows → list_any (is_same_pin row) rows ≡ (is_taken pics (pic_in row) || is_taken ioapics (ioapic_in row))
pin_is words pics ioapics rows row s =
    any_pin (λ o. is_same (pic_in o) (pic_in row)) (λ o. is_same (ioapic_in o) (ioapic_in row)) rows
    ∙ (λ i. taken_is pic_in pics rows (pic_in row) s.pic_owners i || taken_is ioapic_in ioapics rows (ioapic_in row) s.ioapic_owners i)

pub reasons_are : (words pics ioapics : List ℕ) (rows : List Row) (row : Row) → Stands words pics ioapics rows → row_reasons rows row ≡ reasons_at words pics ioapics row
reasons_are words pics ioapics rows row s =
    (λ i.
    (not (nat_lt (gsi_in row) 4096), NoGsi)
    ∷ (not (is_below (pic_in row) 16 && is_below (ioapic_in row) 24), BadRow)
    ∷ (not (is_good_if (msi_in row)), BadMsi)
    ∷ (chip_is rows row i, ChipTwice)
    ∷ (mixed_is rows row i, Mixed)
    ∷ (pin_is words pics ioapics rows row s i, PinTwice)
    ∷ [])
    ∙ ap (λ there. reasons_by (gsi_in row) (named_in row) there (is_taken pics (pic_in row) || is_taken ioapics (ioapic_in row))) (sym (s.routes (gsi_in row)))

-- ---- one row more

joined_below : (a b : Option ℕ) (k : ℕ) → is_below a k ≡ true → is_below b k ≡ true → is_below (option_or a b) k ≡ true
joined_below None b k p q = q
joined_below (Some n) b k p q = p

route_joined : (pic ioapic : Option ℕ) (msi : Option MsiWord) (row : Row) → is_route_of pic ioapic msi ≡ true → (is_below (pic_in row) 16 && is_below (ioapic_in row) 24) ≡ true → is_good_if (msi_in row) ≡ true → fits_if (msi_in row) ≡ true →
    (is_some msi || (is_some (msi_in row) && (is_some pic || (is_some ioapic || is_some msi)))) ≡ false →
    is_route_of (option_or pic (pic_in row)) (option_or ioapic (ioapic_in row)) (option_or msi (msi_in row)) ≡ true
unfolding pic_in ioapic_in msi_in
route_joined pic ioapic (Some m) row route pins good fits mixed = absurd (true≢false mixed)
route_joined pic ioapic None (Pic gsi n) route pins good fits mixed = (λ i. joined_below pic (Some n) 16 (first_so _ _ route) (first_so _ _ pins) i && joined_below ioapic None 24 (second_so _ _ route) refl i)
route_joined pic ioapic None (Ioapic gsi n) route pins good fits mixed = (λ i. joined_below pic None 16 (first_so _ _ route) refl i && joined_below ioapic (Some n) 24 (second_so _ _ route) pins i)
route_joined None None None (Msi gsi address payload) route pins good fits mixed = (λ i. good i && fits i)
route_joined (Some n) ioapic None (Msi gsi address payload) route pins good fits mixed = absurd (true≢false mixed)
route_joined None (Some n) None (Msi gsi address payload) route pins good fits mixed = absurd (true≢false mixed)

targets_with : (rows : List Row) (row : Row) → joined (targets_by rows (gsi_in row)) (named_in row) ≡ targets_by (rows ++ row ∷ []) (gsi_in row)
targets_with rows row = λ i. record { pic = one pic_in i; ioapic = one ioapic_in i; msi = one msi_in i }
  where
    one : {A : Type 0} (f : Row → Option A) → option_or (first_given f (gsi_in row) rows) (f row) ≡ first_given f (gsi_in row) (rows ++ row ∷ [])
    one f = ap (λ b. option_or (first_given f (gsi_in row) rows) (if b then f row else None)) (sym ((unsigned_Decides (gsi_in row) (gsi_in row)).1 refl)) ∙ sym (first_given-snoc f (gsi_in row) rows row)

targets_beside : (rows : List Row) (row : Row) (gsi : ℕ) → is_of gsi row ≡ false → targets_by rows gsi ≡ targets_by (rows ++ row ∷ []) gsi
targets_beside rows row gsi off = λ i. record { pic = one pic_in i; ioapic = one ioapic_in i; msi = one msi_in i }
  where
    one : {A : Type 0} (f : Row → Option A) → first_given f gsi rows ≡ first_given f gsi (rows ++ row ∷ [])
    one f = or_none (first_given f gsi rows) ∙ ap (λ b. option_or (first_given f gsi rows) (if b then f row else None)) (sym off) ∙ sym (first_given-snoc f gsi rows row)

owner_with : (f : Row → Option ℕ) (owners : List ℕ) (rows : List Row) (row : Row) → ((n : ℕ) → get_or owners n 0 ≡ owner f n rows) → ((n : ℕ) → f row ≡ Some n → (n < length owners) × (owner f n rows ≡ 0)) → (n : ℕ) → get_or (with_owner owners (f row) (gsi_in row)) n 0 ≡ owner f n (rows ++ row ∷ [])
owner_with f owners rows row same free n =
    elim (f row) as (λ o. f row ≡ o → get_or (with_owner owners o (gsi_in row)) n 0 ≡ owner f n (rows ++ row ∷ [])) [
      | None ↦ λ is. same n ∙ sym (owner-snoc f n rows row ∙ ap (λ o. word (owner f n rows) (is_same o (Some n))) is ∙ kept (owner f n rows))
      | Some m ↦ λ is. elim (eqb_tells n m) [
        | inl h ↦
            ap (λ k. get_or (set owners m (gsi_in row + 1)) k 0) h.1
            ∙ get_or-set_same owners m (gsi_in row + 1) 0 (free m is).0
            ∙ sym (ap (λ k. owner f k (rows ++ row ∷ [])) h.1 ∙ owner-snoc f m rows row ∙ ap (λ v. word v (is_same (f row) (Some m))) (free m is).1 ∙ ap (λ o. word 0 (is_same o (Some m))) is ∙ ap (word 0) ((unsigned_Decides m m).1 refl))
        | inr h ↦
            get_or-set_other owners m n (gsi_in row + 1) 0 h.1
            ∙ same n
            ∙ sym (owner-snoc f n rows row ∙ ap (λ o. word (owner f n rows) (is_same o (Some n))) is ∙ ap (word (owner f n rows)) (other m n h.1) ∙ kept (owner f n rows))
      ]
    ] refl
  where
    word : ℕ → Bool → ℕ
    word v b = if nat_eq v 0 then (if b then gsi_in row + 1 else 0) else v

    kept : (v : ℕ) → (if nat_eq v 0 then 0 else v) ≡ v
    kept v = grind (arith, nat_tests)

    other : (m n : ℕ) → n ≢ m → nat_eq m n ≡ false
    other m n ne = grind (arith, nat_tests)

pub stands-snoc : (words pics ioapics : List ℕ) (rows : List Row) (row : Row) → Stands words pics ioapics rows → Kept rows row → fits_if (msi_in row) ≡ true → length words ≡ 4096 → length pics ≡ 16 → length ioapics ≡ 24 →
    Stands (set words (gsi_in row) (word_with words row)) (with_owner pics (pic_in row) (gsi_in row)) (with_owner ioapics (ioapic_in row) (gsi_in row)) (rows ++ row ∷ [])
stands-snoc words pics ioapics rows row s k fits long sixteen twenty_four = record {
  encoded = λ gsi. elim (eqb_tells gsi (gsi_in row)) [
    | inl h ↦
        ap (λ q. get_or (set words (gsi_in row) (word_with words row)) q 0) h.1
        ∙ get_or-set_same words (gsi_in row) (word_with words row) 0 below
        ∙ ap (λ there. targets_word there false) (sym (
        ap (λ q. route_at (set words (gsi_in row) (word_with words row)) q) h.1
        ∙ ap (λ w. (targets_in w).0) (get_or-set_same words (gsi_in row) (word_with words row) 0 below)
        ∙ ap (λ (p : Targets × Bool). p.0) (targets_in-encoded (word_with words row) (joined (route_at words (gsi_in row)) (named_in row)) false route refl)
        ))
    | inr h ↦
        let same : get_or (set words (gsi_in row) (word_with words row)) gsi 0 ≡ get_or words gsi 0 = get_or-set_other words (gsi_in row) gsi (word_with words row) 0 h.1 in
        same ∙ s.encoded gsi ∙ ap (λ w. targets_word (targets_in w).0 false) (sym same)
  ];
  routes = λ gsi. elim (eqb_tells gsi (gsi_in row)) [
    | inl h ↦
        ap (λ q. route_at (set words (gsi_in row) (word_with words row)) q) h.1
        ∙ ap (λ w. (targets_in w).0) (get_or-set_same words (gsi_in row) (word_with words row) 0 below)
        ∙ ap (λ (p : Targets × Bool). p.0) (targets_in-encoded (word_with words row) (joined (route_at words (gsi_in row)) (named_in row)) false route refl)
        ∙ ap (λ there. joined there (named_in row)) (s.routes (gsi_in row))
        ∙ targets_with rows row
        ∙ ap (λ q. targets_by (rows ++ row ∷ []) q) (sym h.1)
    | inr h ↦
        ap (λ w. (targets_in w).0) (get_or-set_other words (gsi_in row) gsi (word_with words row) 0 h.1)
        ∙ s.routes gsi
        ∙ targets_beside rows row gsi (off gsi h.1)
  ];
  pic_owners = owner_with pic_in pics rows row s.pic_owners (λ n is. (pin_below (pic_in row) n 16 (length pics) is (first_so _ _ k.pins) sixteen, free_pin pic_in n row rows k.pin (λ other same. ap (λ b. b || is_same (ioapic_in other) (ioapic_in row)) (ap (λ o. is_same (pic_in other) o) is ∙ same))));
  ioapic_owners = owner_with ioapic_in ioapics rows row s.ioapic_owners (λ n is. (pin_below (ioapic_in row) n 24 (length ioapics) is (second_so _ _ k.pins) twenty_four, free_pin ioapic_in n row rows k.pin (λ other same. or_on (is_same (pic_in other) (pic_in row)) _ (ap (λ o. is_same (ioapic_in other) o) is ∙ same))));
}
  where
    below : gsi_in row < length words
    below = let low : gsi_in row < 4096 = ltb-true (gsi_in row) 4096 k.low in omega (arith, low, long)

    off : (gsi : ℕ) → gsi ≢ gsi_in row → is_of gsi row ≡ false
    off gsi ne = grind (arith, nat_tests)

    pin_below : (o : Option ℕ) (n count l : ℕ) → o ≡ Some n → is_below o count ≡ true → l ≡ count → n < l
    pin_below o n count l is low e = let small : n < count = ltb-true n count (ap (λ p. is_below p count) (sym is) ∙ low) in omega (arith, small, e)

    route : is_route (joined (route_at words (gsi_in row)) (named_in row)) ≡ true
    route = subst (λ (there : Targets). is_route (joined there (named_in row)) ≡ true) (sym (s.routes (gsi_in row)))
        (route_joined (targets_by rows (gsi_in row)).pic (targets_by rows (gsi_in row)).ioapic (targets_by rows (gsi_in row)).msi row
        (subst (λ (there : Targets). is_route there ≡ true) (s.routes (gsi_in row)) (targets_in-route (get_or words (gsi_in row) 0)))
        k.pins k.good fits (sym (mixed_is rows row) ∙ k.mixed))
