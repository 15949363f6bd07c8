-- Where the words of a registry stand, and when all of them were drafted
use Rattle.std.proofs.Common.{◌≡◌, ℕ, ◌+◌, ◌-◌, ◌<◌, ◌≤◌, zero, suc, inl, inr, List, [], ◌∷◌, ◌++◌, length, refl, sym, ap, ◌∙◌, arith}
use Rattle.std.proofs.lemmas.Bool.Decides.{leb_tells}
use Rattle.std.proofs.lemmas.List.{length-append}
use Rattle.std.specs.Prelude.{Some, slice_get, option_map}
use Rattle.irq_base.specs.declared.event.Pin.{Pin}
use Rattle.irq_base.specs.declared.event.Pin.TheVariants.{Pic, Ioapic}
use Rattle.irqfd_set.specs.Rows.{of_trigger}
use Rattle.route_table.specs.Rows.{targets_of}
use Rattle.route_table.specs.Pins.{gsi_of, IsPin}
use Rattle.route_table.specs.Words.{targets_word}
use Rattle.board_model.specs.Registry.{RegistryPart}
use Rattle.board_model.specs.Routing.{is_marked, trigger_of}
use Rattle.board_model.specs.Published.{each_below, words_of, published, trigger_word, pin_word}
use Rattle.turn_book.specs.declared.view.Draft.{Draft}
use Rattle.turn_book.specs.Banks.{draft_at, AreDrafted}
use Rattle.turn_book.proofs.Lists.{get_within}
use Rattle.route_bank.specs.Indices.{index_of_pin}
use Rattle.route_bank.specs.Drafting.{HasFrom, SameBelow}
use Rattle.route_bank.specs.Laws.{WordsStand, WordsStandAtIndices}

-- ---- rows of words

length-each_below : (n : ℕ) (f : ℕ → ℕ) → length (each_below n f) ≡ n
unfolding each_below
length-each_below zero f = refl
length-each_below (suc n) f = omega (arith, length-append (each_below n f) (f n ∷ []), length-each_below n f)

get-left : (xs ys : List ℕ) (i : ℕ) → i < length xs → slice_get (xs ++ ys) i ≡ slice_get xs i
get-left [] ys i low = absurd (omega arith)
get-left (x ∷ xs) ys zero low = refl
get-left (x ∷ xs) ys (suc i) low = get-left xs ys i (omega arith)

get-right : (xs ys : List ℕ) (i j : ℕ) → j ≡ length xs + i → slice_get (xs ++ ys) j ≡ slice_get ys i
get-right [] ys i j e = ap (slice_get ys) (let same : j ≡ i = omega arith in same)
get-right (x ∷ xs) ys i zero e = absurd (omega arith)
get-right (x ∷ xs) ys i (suc j) e = get-right xs ys i j (omega arith)

get-each_below : (n : ℕ) (f : ℕ → ℕ) (k : ℕ) → k < n → slice_get (each_below n f) k ≡ Some (f k)
unfolding each_below
get-each_below zero f k low = absurd (omega arith)
get-each_below (suc n) f k low = elim (leb_tells n k) [
  | inl h ↦
      let last : k ≡ n = omega (arith, h.1, low) in
      get-right (each_below n f) (f n ∷ []) 0 k (omega (arith, last, length-each_below n f)) ∙ ap (λ j. Some (f j)) (sym last)
  | inr h ↦ get-left (each_below n f) (f n ∷ []) k (omega (arith, length-each_below n f, h.1)) ∙ get-each_below n f k (omega (arith, h.1))
]

-- the k-th of the words in front of others, and of the others
get-first : (n : ℕ) (f : ℕ → ℕ) (rest : List ℕ) (k : ℕ) → k < n → slice_get (each_below n f ++ rest) k ≡ Some (f k)
get-first n f rest k low = get-left (each_below n f) rest k (omega (arith, length-each_below n f)) ∙ get-each_below n f k low

get-later : (n : ℕ) (f : ℕ → ℕ) (rest : List ℕ) (k j : ℕ) → j ≡ n + k → slice_get (each_below n f ++ rest) j ≡ slice_get rest k
get-later n f rest k j e = get-right (each_below n f) rest k j (omega (arith, length-each_below n f, e))

-- ---- the words of a registry

module _ (registry : RegistryPart) (tick : ℕ) where
  abbrev pub gsi_word : ℕ → ℕ
  gsi_word gsi = targets_word (targets_of registry.table gsi) (is_marked registry tick gsi)

  abbrev pub word_of_trigger : ℕ → ℕ
  word_of_trigger trigger = trigger_word (option_map trigger_of (of_trigger registry.irqfds trigger))

  abbrev pub pic_word : ℕ → ℕ
  pic_word number = pin_word (gsi_of registry.table (Pic number))

  abbrev pub ioapic_word : ℕ → ℕ
  ioapic_word number = pin_word (gsi_of registry.table (Ioapic number))

  -- the words behind those of the GSIs, of the triggers, and of the 8259A pins
  abbrev behind_pics : List ℕ
  behind_pics = each_below 24 ioapic_word

  abbrev behind_triggers : List ℕ
  behind_triggers = each_below 16 pic_word ++ behind_pics

  abbrev behind_gsis : List ℕ
  behind_gsis = each_below 256 word_of_trigger ++ behind_triggers

  gsi_at : (gsi : ℕ) → gsi < 4096 → slice_get (published registry tick) gsi ≡ Some (gsi_word gsi)
  unfolding words_of
  gsi_at gsi low = get-first 4096 gsi_word behind_gsis gsi low

  later_at : (k j : ℕ) → j ≡ 4096 + k → slice_get (published registry tick) j ≡ slice_get behind_gsis k
  unfolding words_of
  later_at k j e = get-later 4096 gsi_word behind_gsis k j e

  trigger_at : (trigger j : ℕ) → trigger < 256 → j ≡ 4096 + trigger → slice_get (published registry tick) j ≡ Some (word_of_trigger trigger)
  trigger_at trigger j low e = later_at trigger j e ∙ get-first 256 word_of_trigger behind_triggers trigger low

  pic_at : (number j : ℕ) → number < 16 → j ≡ 4352 + number → slice_get (published registry tick) j ≡ Some (pic_word number)
  pic_at number j low e = later_at (256 + number) j (omega (arith, e)) ∙ get-later 256 word_of_trigger behind_triggers number (256 + number) refl ∙ get-first 16 pic_word behind_pics number low

  past_pics : (k j : ℕ) → j ≡ 4368 + k → slice_get (published registry tick) j ≡ slice_get behind_pics k
  past_pics k j e =
      later_at (256 + (16 + k)) j (omega (arith, e))
      ∙ get-later 256 word_of_trigger behind_triggers (16 + k) (256 + (16 + k)) refl
      ∙ get-later 16 pic_word behind_pics k (16 + k) refl

  ioapic_at : (number j : ℕ) → number < 24 → j ≡ 4368 + number → slice_get (published registry tick) j ≡ Some (ioapic_word number)
  ioapic_at number j low e = past_pics number j e ∙ get-each_below 24 ioapic_word number low

  pin_at : (pin : Pin) → IsPin pin → slice_get (published registry tick) (index_of_pin pin) ≡ Some (pin_word (gsi_of registry.table pin))
  pin_at (Pic number) low = pic_at number (4352 + number) low refl
  pin_at (Ioapic number) low = ioapic_at number (4368 + number) low refl

  pub stand : WordsStand registry tick
  stand = record { gsis = gsi_at; triggers = λ trigger low. trigger_at trigger (4096 + trigger) low refl; pins = pin_at }

  -- words that were drafted in four runs are all of them
  pub all_drafted : (drafts : List Draft) → HasFrom 0 4096 gsi_word drafts → HasFrom 4096 256 word_of_trigger drafts → HasFrom 4352 16 pic_word drafts → HasFrom 4368 24 ioapic_word drafts → AreDrafted (published registry tick) drafts
  all_drafted drafts gsis triggers pics ioapics i x h = elim (leb_tells 4096 i) [
    | inr low ↦ ap (λ n. draft_at n drafts) (let same : i ≡ 0 + i = omega arith in same) ∙ gsis i low.1 ∙ value (gsi_word i) (gsi_at i low.1)
    | inl high ↦ elim (leb_tells 4352 i) [
      | inr low ↦
          let k = i - 4096 in
          let at : i ≡ 4096 + k = omega (arith, high.1) in
          let small : k < 256 = omega (arith, low.1, high.1) in
          ap (λ n. draft_at n drafts) at ∙ triggers k small ∙ value (word_of_trigger k) (trigger_at k i small at)
      | inl more ↦ elim (leb_tells 4368 i) [
        | inr low ↦
            let k = i - 4352 in
            let at : i ≡ 4352 + k = omega (arith, more.1) in
            let small : k < 16 = omega (arith, low.1, more.1) in
            ap (λ n. draft_at n drafts) at ∙ pics k small ∙ value (pic_word k) (pic_at k i small at)
        | inl most ↦
            let k = i - 4368 in
            let at : i ≡ 4368 + k = omega (arith, most.1) in
            let small : k < 24 = (let within = get_within behind_pics k x (sym (past_pics k i at) ∙ h) in omega (arith, within, length-each_below 24 ioapic_word)) in
            ap (λ n. draft_at n drafts) at ∙ ioapics k small ∙ value (ioapic_word k) (ioapic_at k i small at)
      ]
    ]
  ]
    where
      value : (y : ℕ) → slice_get (published registry tick) i ≡ Some y → Some y ≡ Some x
      value y is = sym is ∙ h

pub words_stand : WordsStandAtIndices
words_stand registry tick = stand registry tick

-- ---- runs of drafts

-- later words leave those below them
pub has_kept : (first n k : ℕ) (f : ℕ → ℕ) (old new : List Draft) → first + n ≤ k → SameBelow k old new → HasFrom first n f old → HasFrom first n f new
has_kept first n k f old new low same all j below = same (first + j) (omega (arith, low, below)) ∙ all j below

-- the same words by another name
pub has_same : (first n : ℕ) (f g : ℕ → ℕ) (drafts : List Draft) → ((k : ℕ) → k < n → f k ≡ g k) → HasFrom first n f drafts → HasFrom first n g drafts
has_same first n f g drafts same all k low = all k low ∙ ap (λ x. Some x) (same k low)
