-- The words of a sound registry tell its routing.
use Rattle.std.proofs.Common.{◌≡◌, ℕ, ◌+◌, ◌*◌, ◌^◌, ◌<◌, ◌≤◌, zero, suc, Bool, true, false, ◌&&◌, ◌||◌, nat_eq, if◌then◌else◌, cond, inl, inr, List, [], ◌∷◌, ◌++◌, length, get_or, Some, None, refl, sym, ap, ◌∙◌, arith, add-one}
use Rattle.std.proofs.lemmas.Bool.Decides.{nat_tests, eqb_tells, leb_tells}
use Rattle.std.proofs.lemmas.List.Elements.{All-head, All-tail}
use Rattle.std.proofs.lemmas.List.{length-append, get_or_append_left, get_or-append-add}
use Rattle.std.proofs.Math.Seq.{get_or-append_seam}
use Rattle.std.specs.Cmp.{first_so, second_so}
use Rattle.std.specs.FinMap as map
use Rattle.std.specs.List.{All, find}
use Rattle.std.specs.Option.{is_some, option_map}
use Rattle.std.specs.declared.option.Option.{Option}
use borrow.Author.Tests.{ltb-true}
use Rattle.irq_base.specs.declared.call.Row.{Row}
use Rattle.irq_base.specs.declared.event.Pin.{Pin}
use Rattle.irq_base.specs.declared.event.Pin.TheVariants.{Pic, Ioapic}
use Rattle.irq_base.specs.declared.message.MsiWord.{MsiWord}
use Rattle.irq_base.specs.declared.message.Targets.{Targets}
use Rattle.irqfd_set.specs.declared.irqfds.Irqfd.{Irqfd}
use Rattle.irqfd_set.specs.Rows.{has_trigger, of_trigger, has_resampler}
use Rattle.ack_notifiers.specs.declared.watches.Watch.{Watch}
use Rattle.ack_notifiers.specs.Rows.{has_watch}
use Rattle.irq_bits.specs.Fields.{bits_of}
use Rattle.route_table.specs.Words.{no_targets, is_route_of, targets_word, targets_in}
use Rattle.route_table.proofs.WordLaws.{targets_in-encoded}
use Rattle.route_table.specs.Rows.{Table, pic_in, ioapic_in, msi_in, is_same, targets_by, table_of, targets_of, first_given}
use Rattle.route_table.specs.Rows as table_rows
use Rattle.route_table.specs.Pins.{gsi_of}
use Rattle.route_table.proofs.Sound.{Sound, sound_of}
use Rattle.route_table.proofs.TableLaws.{given_by_rows}
use Rattle.board_model.specs.declared.trigger.TriggerWord.{TriggerWord}
use Rattle.board_model.specs.Registry.{RegistryPart}
use Rattle.board_model.specs.Routing.{Routing, trigger_of, is_marked, routing_of_registry}
use Rattle.board_model.specs.Laws.{WordsTellTheRouting, PublishedDecides}
use Rattle.board_model.specs.Published.{trigger_word, trigger_in, pin_word, gsi_in, each_below, words_of, published, word_at, gsi_word_at, trigger_word_at, pin_word_at, routing_of_words, IsSoundTable, IsSoundIrqfd, IsSoundRegistry}
use Rattle.board_model.specs.declared.width.TheConstants.{WORDS}

-- ---- lists of words

length-each_below : (n : ℕ) (f : ℕ → ℕ) → length (each_below n f) ≡ n
unfolding each_below
length-each_below zero f = refl
length-each_below (suc n) f = omega (arith, length-append (each_below n f) (f n ∷ []), length-each_below n f)

get_or-each_below : (n : ℕ) (f : ℕ → ℕ) (k : ℕ) → k < n → get_or (each_below n f) k 0 ≡ f k
unfolding each_below
get_or-each_below zero f k below = absurd (omega arith)
get_or-each_below (suc n) f k below =
    elim (eqb_tells k n) [
      | inl h ↦ ap (λ j. get_or (each_below n f ++ f n ∷ []) j 0) (h.1 ∙ sym (length-each_below n f)) ∙ get_or-append_seam (each_below n f) (f n) [] 0 ∙ ap f (sym h.1)
      | inr h ↦ get_or_append_left (each_below n f) (f n ∷ []) 0 k (omega (arith, length-each_below n f, h.1)) ∙ get_or-each_below n f k (omega (arith, h.1))
    ]

-- the k-th of the words in front of others, and of the others
get_or-first : (n : ℕ) (f : ℕ → ℕ) (rest : List ℕ) (k : ℕ) → k < n → get_or (each_below n f ++ rest) k 0 ≡ f k
get_or-first n f rest k below = get_or_append_left (each_below n f) rest 0 k (omega (arith, length-each_below n f)) ∙ get_or-each_below n f k below

get_or-later : (n : ℕ) (f : ℕ → ℕ) (rest : List ℕ) (k : ℕ) → get_or (each_below n f ++ rest) (n + k) 0 ≡ get_or rest k 0
get_or-later n f rest k = ap (λ m. get_or (each_below n f ++ rest) (m + k) 0) (sym (length-each_below n f)) ∙ get_or-append-add (each_below n f) rest k 0

word_at-within : (words : List ℕ) (place count k : ℕ) → k < count → word_at words place count k ≡ get_or words (place + k) 0
word_at-within words place count k below = grind (arith, nat_tests)

word_at-past : (words : List ℕ) (place count k : ℕ) → count ≤ k → word_at words place count k ≡ 0
word_at-past words place count k past = grind (arith, nat_tests)

-- ---- the words of triggers and pins

gsi_in-word : (gsi : Option ℕ) → gsi_in (pin_word gsi) ≡ gsi
gsi_in-word None = refl
gsi_in-word (Some gsi) = ap gsi_in (add-one gsi)

-- the fields of the word of a trigger, by its mark of a resample counter
mark_of : Bool → ℕ
mark_of true = 1
mark_of false = 0

mark_is : (b : Bool) → (if b then 2 ^ 13 else 0) ≡ mark_of b * 2 ^ 13
unfolding mark_of
mark_is true = refl
mark_is false = refl

mark_small : (b : Bool) → mark_of b < 2
unfolding mark_of
mark_small true = omega arith
mark_small false = omega arith

mark_back : (b : Bool) → nat_eq (mark_of b) 1 ≡ b
unfolding mark_of
mark_back true = refl
mark_back false = refl

there_bit : (gsi x : ℕ) → bits_of (1 + gsi * 2 + x * 2 ^ 13) 0 0 ≡ 1
there_bit gsi x = omega arith

gsi_bits : (gsi x : ℕ) → gsi < 4096 → bits_of (1 + gsi * 2 + x * 2 ^ 13) 12 1 ≡ gsi
gsi_bits gsi x low = omega arith

resample_bit : (gsi x : ℕ) → gsi < 4096 → x < 2 → bits_of (1 + gsi * 2 + x * 2 ^ 13) 13 13 ≡ x
resample_bit gsi x low small = omega arith

trigger_in-word : (trigger : TriggerWord) → trigger.gsi < 4096 → trigger_in (trigger_word (Some trigger)) ≡ Some trigger
trigger_in-word trigger low =
    ap (λ mark. trigger_in (1 + trigger.gsi * 2 + mark)) (mark_is trigger.resample)
    ∙ told (1 + trigger.gsi * 2 + mark_of trigger.resample * 2 ^ 13) (there_bit trigger.gsi (mark_of trigger.resample))
    ∙ (λ i. Some (record {
      gsi = gsi_bits trigger.gsi (mark_of trigger.resample) low i;
      resample = (ap (λ x. nat_eq x 1) (resample_bit trigger.gsi (mark_of trigger.resample) low (mark_small trigger.resample)) ∙ mark_back trigger.resample) i;
    }))
  where
    told : (w : ℕ) → bits_of w 0 0 ≡ 1 → trigger_in w ≡ Some (record { gsi = bits_of w 12 1; resample = nat_eq (bits_of w 13 13) 1 })
    told w there = ap (λ b. if nat_eq b 1 then Some (record { gsi = bits_of w 12 1; resample = nat_eq (bits_of w 13 13) 1 }) else None) there

-- ---- a number that is named, and one past those that there are

differs : (named count past : ℕ) → named < count → count ≤ past → nat_eq named past ≡ false
differs named count past low high = grind (arith, nat_tests)

differs_below : (named count past : ℕ) → named < count → count ≤ past → nat_eq past named ≡ false
differs_below named count past low high = grind (arith, nat_tests)

-- ---- irqfds and notifiers

trigger_back : (rows : List Irqfd) (counter : ℕ) → All IsSoundIrqfd rows → trigger_in (trigger_word (option_map trigger_of (of_trigger rows counter))) ≡ option_map trigger_of (of_trigger rows counter)
trigger_back [] counter all = refl
trigger_back (row ∷ rows) counter all =
    elim (has_trigger counter row) as (λ b. trigger_in (trigger_word (option_map trigger_of (cond b (Some row) (of_trigger rows counter)))) ≡ option_map trigger_of (cond b (Some row) (of_trigger rows counter))) [
      | true ↦ trigger_in-word (trigger_of row) (All-head IsSoundIrqfd row rows all).gsi
      | false ↦ trigger_back rows counter (All-tail IsSoundIrqfd row rows all)
    ]

no_trigger : (rows : List Irqfd) (counter : ℕ) → All IsSoundIrqfd rows → 256 ≤ counter → of_trigger rows counter ≡ None
no_trigger [] counter all past = refl
no_trigger (row ∷ rows) counter all past = ap (λ b. cond b (Some row) (of_trigger rows counter)) (differs row.trigger 256 counter (All-head IsSoundIrqfd row rows all).trigger past) ∙ no_trigger rows counter (All-tail IsSoundIrqfd row rows all) past

no_resampler : (rows : List Irqfd) (gsi : ℕ) → All IsSoundIrqfd rows → 4096 ≤ gsi → has_resampler rows gsi ≡ false
no_resampler [] gsi all past = refl
no_resampler (row ∷ rows) gsi all past = ap (λ b. b && is_some row.resample || has_resampler rows gsi) (differs row.gsi 4096 gsi (All-head IsSoundIrqfd row rows all).gsi past) ∙ no_resampler rows gsi (All-tail IsSoundIrqfd row rows all) past

-- a notifier names a GSI that there is
abbrev IsLow : Watch → Type 0
IsLow row = row.gsi < 4096

no_watch : (rows : List Watch) (gsi : ℕ) → All IsLow rows → 4096 ≤ gsi → has_watch rows gsi ≡ false
no_watch [] gsi all past = refl
no_watch (row ∷ rows) gsi all past = ap (λ b. b || has_watch rows gsi) (differs row.gsi 4096 gsi (All-head IsLow row rows all) past) ∙ no_watch rows gsi (All-tail IsLow row rows all) past

unmarked : (registry : RegistryPart) (tick gsi : ℕ) → IsSoundRegistry registry tick → 4096 ≤ gsi → is_marked registry tick gsi ≡ false
unmarked registry tick gsi sound past =
    λ i. no_resampler registry.irqfds gsi sound.irqfds past i || (no_watch registry.watches gsi sound.watches past i || differs_below tick 4096 gsi sound.ticks past i)

-- ---- the table

pick_past : {A : Type 0} (pick : Targets → Option A) (f : Row → Option A) → ((rows : List Row) (gsi : ℕ) → pick (targets_by rows gsi) ≡ first_given f gsi rows) → pick no_targets ≡ None → (rows : List Row) (gsi : ℕ) → Sound rows → 4096 ≤ gsi → pick (targets_of (table_of rows) gsi) ≡ None
pick_past {A} pick f picks none rows gsi sound past =
    elim (pick (targets_of (table_of rows) gsi)) as (λ (o : Option A). pick (targets_of (table_of rows) gsi) ≡ o → o ≡ None) [
      | None ↦ λ _. refl
      | Some a ↦ λ e.
          let found = given_by_rows pick f picks none rows gsi a e in
          let low : table_rows.gsi_in found.0 < 4096 = sound.low found.0 found.1 in
          absurd (omega (arith, low, found.2))
    ] refl

targets_past : (table : Table) (gsi : ℕ) → IsSoundTable table → 4096 ≤ gsi → targets_of table gsi ≡ no_targets
targets_past table gsi sound past =
    let rows = sound.made.0 in
    let kept = sound_of rows sound.made.1 in
    ap (λ t. targets_of t gsi) sound.made.2
    ∙ (λ i. record {
      pic = pick_past (λ t. t.pic) pic_in (λ _ _. refl) refl rows gsi kept past i;
      ioapic = pick_past (λ t. t.ioapic) ioapic_in (λ _ _. refl) refl rows gsi kept past i;
      msi = pick_past (λ t. t.msi) msi_in (λ _ _. refl) refl rows gsi kept past i;
    })

find_none : (p : ℕ → Bool) (xs : List ℕ) → ((x : ℕ) → p x ≡ false) → find p xs ≡ None
find_none p [] none = refl
find_none p (x ∷ xs) none = ap (λ b. cond b (Some x) (find p xs)) (none x) ∙ find_none p xs none

no_pic : (pic ioapic : Option ℕ) (msi : Option MsiWord) (n : ℕ) → 16 ≤ n → is_route_of pic ioapic msi ≡ true → is_same pic (Some n) ≡ false
no_pic None ioapic msi n past route = refl
no_pic (Some k) ioapic None n past route = differs k 16 n (ltb-true k 16 (first_so _ _ route)) past
no_pic (Some k) ioapic (Some m) n past route = cc

no_ioapic : (pic ioapic : Option ℕ) (msi : Option MsiWord) (n : ℕ) → 24 ≤ n → is_route_of pic ioapic msi ≡ true → is_same ioapic (Some n) ≡ false
no_ioapic pic None msi n past route = refl
no_ioapic pic (Some k) None n past route = differs k 24 n (ltb-true k 24 (second_so _ _ route)) past
no_ioapic None (Some k) (Some m) n past route = cc
no_ioapic (Some p) (Some k) (Some m) n past route = cc

no_gsi_of_pic : (table : Table) (n : ℕ) → IsSoundTable table → 16 ≤ n → gsi_of table (Pic n) ≡ None
unfolding gsi_of
no_gsi_of_pic table n sound past = find_none _ (map.keys table) (λ gsi. no_pic (targets_of table gsi).pic (targets_of table gsi).ioapic (targets_of table gsi).msi n past (sound.routes gsi))

no_gsi_of_ioapic : (table : Table) (n : ℕ) → IsSoundTable table → 24 ≤ n → gsi_of table (Ioapic n) ≡ None
unfolding gsi_of
no_gsi_of_ioapic table n sound past = find_none _ (map.keys table) (λ gsi. no_ioapic (targets_of table gsi).pic (targets_of table gsi).ioapic (targets_of table gsi).msi n past (sound.routes gsi))

-- ---- the words, place by place

gsi_word-is : (routing : Routing) (gsi : ℕ) → gsi < 4096 → gsi_word_at (words_of routing) gsi ≡ targets_word (routing.targets gsi) (routing.marked gsi)
unfolding words_of
gsi_word-is routing gsi below = word_at-within (words_of routing) 0 4096 gsi below ∙ ap (λ k. get_or (words_of routing) k 0) (place gsi) ∙ get_or-first 4096 _ _ gsi below
  where
    place : (k : ℕ) → 0 + k ≡ k
    place k = omega arith

trigger_word-is : (routing : Routing) (counter : ℕ) → counter < 256 → trigger_word_at (words_of routing) counter ≡ trigger_word (routing.trigger counter)
unfolding words_of
trigger_word-is routing counter below = word_at-within (words_of routing) 4096 256 counter below ∙ get_or-later 4096 _ _ counter ∙ get_or-first 256 _ _ counter below

pic_word-is : (routing : Routing) (pin : ℕ) → pin < 16 → pin_word_at (words_of routing) (Pic pin) ≡ pin_word (routing.gsi_of (Pic pin))
unfolding words_of
pic_word-is routing pin below =
    word_at-within (words_of routing) 4352 16 pin below
    ∙ ap (λ k. get_or (words_of routing) k 0) (place pin)
    ∙ get_or-later 4096 _ _ (256 + pin)
    ∙ get_or-later 256 _ _ pin
    ∙ get_or-first 16 _ _ pin below
  where
    place : (k : ℕ) → 4352 + k ≡ 4096 + (256 + k)
    place k = omega arith

ioapic_word-is : (routing : Routing) (pin : ℕ) → pin < 24 → pin_word_at (words_of routing) (Ioapic pin) ≡ pin_word (routing.gsi_of (Ioapic pin))
unfolding words_of
ioapic_word-is routing pin below =
    word_at-within (words_of routing) 4368 24 pin below
    ∙ ap (λ k. get_or (words_of routing) k 0) (place pin)
    ∙ get_or-later 4096 _ _ (256 + (16 + pin))
    ∙ get_or-later 256 _ _ (16 + pin)
    ∙ get_or-later 16 _ _ pin
    ∙ get_or-each_below 24 _ pin below
  where
    place : (k : ℕ) → 4368 + k ≡ 4096 + (256 + (16 + k))
    place k = omega arith

pub length-words_of : (routing : Routing) → length (words_of routing) ≡ WORDS
unfolding words_of
length-words_of routing = simp (length-append, length-each_below)

-- ---- what the words tell, place by place

targets_told : (registry : RegistryPart) (tick gsi : ℕ) → IsSoundRegistry registry tick → targets_in (gsi_word_at (published registry tick) gsi) ≡ (targets_of registry.table gsi, is_marked registry tick gsi)
targets_told registry tick gsi sound =
    elim (leb_tells 4096 gsi) [
      | inl h ↦
          ap targets_in (word_at-past (published registry tick) 0 4096 gsi h.1)
          ∙ targets_in-encoded 0 no_targets false refl refl
          ∙ (λ i. (sym (targets_past registry.table gsi sound.table h.1) i, sym (unmarked registry tick gsi sound h.1) i))
      | inr h ↦ targets_in-encoded _ (targets_of registry.table gsi) (is_marked registry tick gsi) (sound.table.routes gsi) (gsi_word-is (routing_of_registry registry tick) gsi h.1)
    ]

pin_told : (registry : RegistryPart) (tick : ℕ) (pin : Pin) → IsSoundRegistry registry tick → gsi_in (pin_word_at (published registry tick) pin) ≡ gsi_of registry.table pin
pin_told registry tick (Pic n) sound =
    elim (leb_tells 16 n) [
      | inl h ↦ ap gsi_in (word_at-past (published registry tick) 4352 16 n h.1) ∙ sym (no_gsi_of_pic registry.table n sound.table h.1)
      | inr h ↦ ap gsi_in (pic_word-is (routing_of_registry registry tick) n h.1) ∙ gsi_in-word (gsi_of registry.table (Pic n))
    ]
pin_told registry tick (Ioapic n) sound =
    elim (leb_tells 24 n) [
      | inl h ↦ ap gsi_in (word_at-past (published registry tick) 4368 24 n h.1) ∙ sym (no_gsi_of_ioapic registry.table n sound.table h.1)
      | inr h ↦ ap gsi_in (ioapic_word-is (routing_of_registry registry tick) n h.1) ∙ gsi_in-word (gsi_of registry.table (Ioapic n))
    ]

trigger_told : (registry : RegistryPart) (tick counter : ℕ) → IsSoundRegistry registry tick → trigger_in (trigger_word_at (published registry tick) counter) ≡ option_map trigger_of (of_trigger registry.irqfds counter)
trigger_told registry tick counter sound =
    elim (leb_tells 256 counter) [
      | inl h ↦ ap trigger_in (word_at-past (published registry tick) 4096 256 counter h.1) ∙ sym (ap (option_map trigger_of) (no_trigger registry.irqfds counter sound.irqfds h.1))
      | inr h ↦ ap trigger_in (trigger_word-is (routing_of_registry registry tick) counter h.1) ∙ trigger_back registry.irqfds counter sound.irqfds
    ]

-- the words of a sound registry are 4,392, and they tell its routing
pub words_tell : WordsTellTheRouting
words_tell registry tick sound = record {
  count = length-words_of (routing_of_registry registry tick);
  told = λ i. record {
    targets = λ gsi. (targets_told registry tick gsi sound i).0;
    marked = λ gsi. (targets_told registry tick gsi sound i).1;
    gsi_of = λ pin. pin_told registry tick pin sound i;
    trigger = λ counter. trigger_told registry tick counter sound i;
  };
}

-- equal words tell equal routings
pub published_decides : PublishedDecides
published_decides registry other tick other_tick sound other_sound same =
    sym (words_tell registry tick sound).told ∙ ap routing_of_words same ∙ (words_tell other other_tick other_sound).told
