-- A pin that a chip does not have has no GSI.
use Rattle.std.proofs.Common.{◌≡◌, ◌≢◌, ℕ, ◌+◌, ◌<◌, ◌≤◌, Bool, true, false, nat_lt, List, [], ◌∷◌, length, get_or, set, get_or-set_same, get_or-set_other, below_more, refl, sym, ◌∙◌, arith, true≢false, Some, None}
use Rattle.std.proofs.lemmas.Bool.Decides.{nat_tests}
use Rattle.std.specs.Prelude.{IsTrue}
use Rattle.std.proofs.lemmas.List.{get_or_past, length-set}
use Rattle.std.specs.Cmp.{first_so, second_so}
use Rattle.std.specs.List.{find}
use Rattle.std.specs.FinMap as map
use Rattle.std.specs.declared.option.Option.{Option}
use Rattle.irq_base.specs.declared.event.Pin.TheVariants.{Pic, Ioapic}
use Rattle.irq_base.specs.declared.message.MsiWord.{MsiWord}
use Rattle.route_table.specs.Rows.{Table, is_same, targets_of}
use Rattle.route_table.specs.Pins.{has_pin, gsi_of}
use Rattle.route_table.specs.Words.{is_below, is_route_of, is_route}

find_none : (p : ℕ → Bool) (ns : List ℕ) → ((n : ℕ) → p n ≡ false) → find p ns ≡ None
find_none p [] none = refl
find_none p (n ∷ ns) none = rw (none n) (find_none p ns none)

below_not : (o : Option ℕ) (k n : ℕ) → k ≤ n → is_below o k ≡ true → is_same o (Some n) ≡ false
below_not None k n past h = refl
below_not (Some m) k n past h = grind (past, h, arith, nat_tests)

no_pin : (pic ioapic : Option ℕ) (msi : Option MsiWord) (n : ℕ) → IsTrue (is_route_of pic ioapic msi) → (16 ≤ n → is_same pic (Some n) ≡ false) × (24 ≤ n → is_same ioapic (Some n) ≡ false)
no_pin pic ioapic None n r = (λ past. below_not pic 16 n past (first_so _ _ r), λ past. below_not ioapic 24 n past (second_so _ _ r))
no_pin None None (Some m) n r = (λ past. refl, λ past. refl)
no_pin None (Some b) (Some m) n r = absurd (true≢false (sym r))
no_pin (Some a) ioapic (Some m) n r = absurd (true≢false (sym r))

-- one place more has its GSI
pub owned_next : (f : ℕ → Option ℕ) (count : ℕ) (gsis : List (Option ℕ)) (pin : ℕ) (v : Option ℕ) → pin < count → v ≡ f pin → (length gsis ≡ count) × ((n : ℕ) → n < pin → get_or gsis n None ≡ f n)
    → (length (set gsis pin v) ≡ count) × ((n : ℕ) → n < pin + 1 → get_or (set gsis pin v) n None ≡ f n)
owned_next f count gsis pin v below here so_far = (
  length-set gsis pin v ∙ so_far.0,
  below_more _ _
      (λ k less. let other : k ≢ pin = omega arith in rw get_or-set_other (so_far.1 k less))
      (let there : pin < length gsis = omega arith in rw get_or-set_same here),
)

module _ (table : Table) (routes : (gsi : ℕ) → IsTrue (is_route (targets_of table gsi))) (n : ℕ) where
  pub pic_past : 16 ≤ n → gsi_of table (Pic n) ≡ None
  unfolding gsi_of
  pic_past past = find_none (λ gsi. has_pin (Pic n) (targets_of table gsi)) (map.keys table) (λ gsi. (no_pin (targets_of table gsi).pic (targets_of table gsi).ioapic (targets_of table gsi).msi n (routes gsi)).0 past)

  pub ioapic_past : 24 ≤ n → gsi_of table (Ioapic n) ≡ None
  unfolding gsi_of
  ioapic_past past = find_none (λ gsi. has_pin (Ioapic n) (targets_of table gsi)) (map.keys table) (λ gsi. (no_pin (targets_of table gsi).pic (targets_of table gsi).ioapic (targets_of table gsi).msi n (routes gsi)).1 past)

  -- a list of the GSIs of all pins
  pub pic_owned : (gsis : List (Option ℕ)) → length gsis ≡ 16 → (n < 16 → get_or gsis n None ≡ gsi_of table (Pic n)) → get_or gsis n None ≡ gsi_of table (Pic n)
  pic_owned gsis long owned = elim (nat_lt n 16) as (λ t. nat_lt n 16 ≡ t → get_or gsis n None ≡ gsi_of table (Pic n)) [
    | true ↦ λ h. owned (grind (h, arith, nat_tests))
    | false ↦ λ h. let past : 16 ≤ n = grind (h, arith, nat_tests) in let far : length gsis ≤ n = omega arith in get_or_past gsis n None far ∙ sym (pic_past past)
  ] refl

  pub ioapic_owned : (gsis : List (Option ℕ)) → length gsis ≡ 24 → (n < 24 → get_or gsis n None ≡ gsi_of table (Ioapic n)) → get_or gsis n None ≡ gsi_of table (Ioapic n)
  ioapic_owned gsis long owned = elim (nat_lt n 24) as (λ t. nat_lt n 24 ≡ t → get_or gsis n None ≡ gsi_of table (Ioapic n)) [
    | true ↦ λ h. owned (grind (h, arith, nat_tests))
    | false ↦ λ h. let past : 24 ≤ n = grind (h, arith, nat_tests) in let far : length gsis ≤ n = omega arith in get_or_past gsis n None far ∙ sym (ioapic_past past)
  ] refl
