-- Lists that end with a word for each number below n, and one word more
use Rattle.std.proofs.Common.{◌≡◌, ℕ, zero, suc, ◌+◌, ◌<◌, ◌||◌, Bool, false, nat_eq, get_or, List, [], ◌∷◌, ◌++◌, length, refl, sym, ap, ◌∙◌, append_assoc, append-nil, arith}
use Rattle.std.specs.Prelude.{option_map}
use Rattle.irq_base.specs.declared.event.Pin.TheVariants.{Pic, Ioapic}
use Rattle.irqfd_set.specs.declared.irqfds.Irqfd.{Irqfd}
use Rattle.irqfd_set.specs.Rows.{of_trigger, has_resampler}
use Rattle.ack_notifiers.specs.declared.watches.Watch.{Watch}
use Rattle.ack_notifiers.specs.Rows.{has_watch}
use Rattle.route_table.specs.Rows.{Table, targets_of}
use Rattle.route_table.specs.Pins.{gsi_of}
use Rattle.route_table.specs.Words.{targets_word}
use Rattle.board_model.specs.Routing.{trigger_of, is_marked}
use Rattle.board_model.specs.Published.{each_below, words_of, published, trigger_word, pin_word}
use Rattle.route_bank.specs.Indices.{registry_of}
use Rattle.route_bank.specs.Lists.{gsi_words, trigger_words, pic_words, ioapic_words}
use Rattle.route_bank.proofs.Places.{gsi_word}

each_next : (k : ℕ) (f : ℕ → ℕ) → each_below (suc k) f ≡ each_below k f ++ f k ∷ []
unfolding each_below
each_next k f = refl

one_word : (xs : List ℕ) (k : ℕ) (f : ℕ → ℕ) → (xs ++ each_below k f) ++ f k ∷ [] ≡ xs ++ each_below (k + 1) f
one_word xs k f = append_assoc xs (each_below k f) (f k ∷ []) ∙ ap (λ ys. xs ++ ys) (sym (each_next k f)) ∙ ap (λ n. xs ++ each_below n f) (let e : suc k ≡ k + 1 = omega arith in e)

no_word : (xs : List ℕ) (f : ℕ → ℕ) → xs ++ each_below zero f ≡ xs
unfolding each_below
no_word xs f = append-nil xs

pub gsi_more : (xs : List ℕ) (table : Table) (marks : List Bool) (k : ℕ) → (xs ++ gsi_words table marks k) ++ targets_word (targets_of table k) (get_or marks k false) ∷ [] ≡ xs ++ gsi_words table marks (k + 1)
unfolding gsi_words
gsi_more xs table marks k = one_word xs k (λ gsi. targets_word (targets_of table gsi) (get_or marks gsi false))

pub gsi_none : (xs : List ℕ) (table : Table) (marks : List Bool) → xs ++ gsi_words table marks 0 ≡ xs
unfolding gsi_words
gsi_none xs table marks = no_word xs (λ gsi. targets_word (targets_of table gsi) (get_or marks gsi false))

pub trigger_more : (xs : List ℕ) (irqfds : List Irqfd) (k : ℕ) → (xs ++ trigger_words irqfds k) ++ trigger_word (option_map trigger_of (of_trigger irqfds k)) ∷ [] ≡ xs ++ trigger_words irqfds (k + 1)
unfolding trigger_words
trigger_more xs irqfds k = one_word xs k (λ trigger. trigger_word (option_map trigger_of (of_trigger irqfds trigger)))

pub trigger_none : (xs : List ℕ) (irqfds : List Irqfd) → xs ++ trigger_words irqfds 0 ≡ xs
unfolding trigger_words
trigger_none xs irqfds = no_word xs (λ trigger. trigger_word (option_map trigger_of (of_trigger irqfds trigger)))

pub pic_more : (xs : List ℕ) (table : Table) (k : ℕ) → (xs ++ pic_words table k) ++ pin_word (gsi_of table (Pic k)) ∷ [] ≡ xs ++ pic_words table (k + 1)
unfolding pic_words
pic_more xs table k = one_word xs k (λ number. pin_word (gsi_of table (Pic number)))

pub pic_none : (xs : List ℕ) (table : Table) → xs ++ pic_words table 0 ≡ xs
unfolding pic_words
pic_none xs table = no_word xs (λ number. pin_word (gsi_of table (Pic number)))

pub ioapic_more : (xs : List ℕ) (table : Table) (k : ℕ) → (xs ++ ioapic_words table k) ++ pin_word (gsi_of table (Ioapic k)) ∷ [] ≡ xs ++ ioapic_words table (k + 1)
unfolding ioapic_words
ioapic_more xs table k = one_word xs k (λ number. pin_word (gsi_of table (Ioapic number)))

pub ioapic_none : (xs : List ℕ) (table : Table) → xs ++ ioapic_words table 0 ≡ xs
unfolding ioapic_words
ioapic_none xs table = no_word xs (λ number. pin_word (gsi_of table (Ioapic number)))

pub ruleset one_more = (gsi_more, gsi_none, trigger_more, trigger_none, pic_more, pic_none, ioapic_more, ioapic_none)

-- words that agree below n are the same list
each_same : (n : ℕ) (f g : ℕ → ℕ) → ((k : ℕ) → k < n → f k ≡ g k) → each_below n f ≡ each_below n g
unfolding each_below
each_same zero f g same = refl
each_same (suc n) f g same = λ i. each_same n f g (λ k low. same k (omega (arith, low))) i ++ same n (omega arith) i ∷ []

gsis_are : (table : Table) (marks : List Bool) (g : ℕ → ℕ) → ((gsi : ℕ) → gsi < 4096 → targets_word (targets_of table gsi) (get_or marks gsi false) ≡ g gsi) → gsi_words table marks 4096 ≡ each_below 4096 g
unfolding gsi_words
gsis_are table marks g same = each_same 4096 (λ gsi. targets_word (targets_of table gsi) (get_or marks gsi false)) g same

-- the four runs are all words of a registry, where the marks are its own
pub all_listed : (table : Table) (irqfds : List Irqfd) (watches : List Watch) (tick : ℕ) (marks : List Bool) → ((gsi : ℕ) → gsi < 4096 → get_or marks gsi false ≡ (has_resampler irqfds gsi || (has_watch watches gsi || nat_eq gsi tick)))
    → ((gsi_words table marks 4096 ++ trigger_words irqfds 256) ++ pic_words table 16) ++ ioapic_words table 24 ≡ published (registry_of table irqfds watches) tick
unfolding words_of trigger_words pic_words ioapic_words
all_listed table irqfds watches tick marks marked =
    let r = registry_of table irqfds watches in
    let a = gsi_words table marks 4096 in
    let b = trigger_words irqfds 256 in
    let c = pic_words table 16 in
    let d = ioapic_words table 24 in
    append_assoc (a ++ b) c d ∙ append_assoc a b (c ++ d) ∙ ap (λ xs. xs ++ (b ++ (c ++ d))) (gsis_are table marks (gsi_word r tick) (λ gsi low. ap (targets_word (targets_of table gsi)) (marked gsi low)))
