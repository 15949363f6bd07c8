-- A word that counts as noted of a pin is 0 or one more than a GSI that there can be.
use Rattle.std.proofs.Common.{◌≡◌, ℕ, ◌<◌, true, false, true≢false, nat_lt, List, Some, None, refl, sym, ap, ◌∙◌, subst, arith}
use Rattle.std.specs.Prelude.{count_by, IsTrue}
use Rattle.std.specs.declared.option.Option.{Option}
use Rattle.std.proofs.lemmas.Bool.Decides.{nat_tests}
use Rattle.irq_base.specs.declared.call.Row.{Row}
use Rattle.irq_base.specs.declared.event.Pin.{Pin}
use Rattle.irq_base.specs.declared.event.Pin.TheVariants.{Pic, Ioapic}
use Rattle.route_table.specs.Rows.{Table, is_same, pic_in, ioapic_in, table_of, targets_of}
use Rattle.route_table.specs.Pins.{has_pin, gsi_of}
use Rattle.route_table.proofs.Given.{pin_of_gsi}
use Rattle.route_table.proofs.Sound.{sound_of}
use Rattle.route_table.proofs.TableLaws.{given_by_rows}
use Rattle.route_bank.specs.Indices.{index_of_pin}
use Rattle.route_bank.proofs.Places.{words_stand}
use Rattle.board_model.specs.Published.{pin_word, IsSoundTable}
use Rattle.board_step.specs.Publications.{words}
use Rattle.board_step.specs.Step.{is_publication}
use Rattle.turn_book.specs.Banks.{NotesAreRight}
use Rattle.turn_book.specs.Views.{IsLegal}
use Rattle.part_slots.specs.Commits.{Seen}
use Rattle.part_slots.specs.Running.{Opens, IsStep}
use Rattle.part_slots.proofs.Histories.{states_stand}
use Rattle.part_rig.specs.Readings.{Places, AreNoted, PinsFit}
use Rattle.part_rig.specs.Noted.{noted_by}
use Rattle.part_rig.proofs.Telling.{some_is, board_told}

same_is : (o : Option ℕ) (n : ℕ) → is_same o (Some n) ≡ true → o ≡ Some n
same_is None n e = absurd (true≢false (sym e))
same_is (Some k) n e = let same : k ≡ n = grind (arith, nat_tests) in ap (λ x. Some x) same

-- a GSI that has a pin is one that there can be
gsi_low : (table : Table) (pin : Pin) (g : ℕ) → IsSoundTable table → gsi_of table pin ≡ Some g → g < 4096
gsi_low table pin g sound e = by pin (pin_of_gsi rows pin g (sym (ap (λ t. gsi_of t pin) sound.made.2) ∙ e))
  where
    rows : List Row
    rows = sound.made.0

    by : (pin : Pin) → IsTrue (has_pin pin (targets_of (table_of rows) g)) → g < 4096
    by (Pic n) has =
        let found = given_by_rows (λ t. t.pic) pic_in (λ _ _. refl) refl rows g n (same_is (targets_of (table_of rows) g).pic n has) in
        subst (λ x. x < 4096) found.2 ((sound_of rows sound.made.1).low found.0 found.1)
    by (Ioapic n) has =
        let found = given_by_rows (λ t. t.ioapic) ioapic_in (λ _ _. refl) refl rows g n (same_is (targets_of (table_of rows) g).ioapic n has) in
        subst (λ x. x < 4096) found.2 ((sound_of rows sound.made.1).low found.0 found.1)

word_low : (table : Table) (pin : Pin) → IsSoundTable table → (o : Option ℕ) → gsi_of table pin ≡ o → nat_lt 4096 (pin_word o) ≡ false
word_low table pin sound None e = refl
word_low table pin sound (Some g) e = let low = gsi_low table pin g sound e in grind (arith, nat_tests)

pub settled_pins : (v : Seen) (g : ℕ) (places : Places) → IsLegal Opens IsStep v → g ≡ count_by is_publication v.seen → NotesAreRight words is_publication v → AreNoted v.notes places → PinsFit (noted_by true g places)
settled_pins v g places legal is right noted pin w pins e =
    let b = legal.1 in
    let sound = (states_stand legal.0 b v.seen legal.3 legal.5).sound.registry in
    let same : w ≡ pin_word (gsi_of b.registry.table pin)
    = some_is w (pin_word (gsi_of b.registry.table pin)) (sym (board_told v g places legal is right noted (index_of_pin pin) w e) ∙ (words_stand b.registry b.shape.tick).pins pin pins) in
    ap (λ x. nat_lt 4096 x) same ∙ word_low b.registry.table pin sound.table (gsi_of b.registry.table pin) refl
