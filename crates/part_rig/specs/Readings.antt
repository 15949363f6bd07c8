-- Published words that were read, each under the generation of the look before it (this board's own rule).
use Rattle.std.specs.Prelude.{◌≡◌, ℕ, Bool, true, false, ◌&&◌, nat_eq, nat_lt, if◌then◌else◌, List, slice_get, slice_index, count_by, is_none, Some, None}
use Rattle.std.specs.List.{list_any}
use Rattle.std.specs.declared.option.Option.{Option}
use Rattle.irq_base.specs.declared.event.Pin.{Pin}
use Rattle.irq_base.specs.declared.message.Targets.{Targets}
use Rattle.route_table.specs.Pins.{IsPin}
use Rattle.route_table.specs.Words.{no_targets, targets_in}
use Rattle.route_bank.specs.Indices.{index_of_pin}
use Rattle.board_model.specs.declared.trigger.TriggerWord.{TriggerWord}
use Rattle.board_model.specs.Hand.{flat}
use Rattle.board_model.specs.Published as published
use Rattle.turn_book.specs.declared.view.Note.{Note}
use Rattle.part_rig.specs.declared.reading.Reading.{Reading}

-- at each index what was read there last, if anything was
abbrev pub Places : Type 0
Places = List (Option Reading)

-- what was read last at an index, if anything was
abbrev pub read_at : Places → ℕ → Option Reading
read_at places k = flat (slice_get places k)

-- the word of a reading, where it was read under this generation
abbrev pub word_under : ℕ → Option Reading → Option ℕ
word_under generation None = None
word_under generation (Some r) = if nat_eq r.generation generation then Some r.word else None

-- how many places have no word that was read under this generation
unfoldable pub blanks_under : ℕ → Places → ℕ
blanks_under generation places = count_by (λ r. is_none (word_under generation r)) places

-- ---- readings and notes

-- the note is of this reading at this index
abbrev pub is_note_of : ℕ → Reading → Note → Bool
is_note_of k r n = nat_eq n.index k && (nat_eq n.value r.word && nat_eq n.generation r.generation)

-- each reading was noted
abbrev pub AreNoted : List Note → Places → Type 0
AreNoted notes places = (k : ℕ) (r : Reading) → read_at places k ≡ Some r → list_any (is_note_of k r) notes ≡ true

-- ---- words of a list

-- each word that is told of an index is that of the list
abbrev pub AreOf : List ℕ → (ℕ → Option ℕ) → Type 0
AreOf list told = (k word : ℕ) → told k ≡ Some word → slice_index list k ≡ word

-- each word that is told of a pin is 0 or one more than a GSI that there can be
abbrev pub PinsFit : (ℕ → Option ℕ) → Type 0
PinsFit told = (pin : Pin) (word : ℕ) → IsPin pin → told (index_of_pin pin) ≡ Some word → nat_lt 4096 word ≡ false

-- ---- what a word tells, if it is told

abbrev pub targets_told : Option ℕ → Targets
targets_told None = no_targets
targets_told (Some word) = (targets_in word).0

abbrev pub marked_told : Option ℕ → Bool
marked_told None = false
marked_told (Some word) = (targets_in word).1

abbrev pub gsi_told : Option ℕ → Option ℕ
gsi_told None = None
gsi_told (Some word) = published.gsi_in word

abbrev pub trigger_told : Option ℕ → Option TriggerWord
trigger_told None = None
trigger_told (Some word) = published.trigger_in word
