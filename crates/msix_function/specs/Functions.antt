-- An MSI-X function: N entries, N pending bits, and the bits MSI-X Enable and Function Mask of its message control word
-- (PCI Local Bus Specification 3.0, 6.8.2.3 and 6.8.2.10).
use Rattle.std.specs.Prelude.{◌≡◌, ℕ, ◌/◌, Bool, true, false, not, ◌&&◌, ◌||◌, nat_lt, if◌then◌else◌, List, replicate, filter, fold, slice_index_or, slice_set}
use Rattle.std.specs.List.{range_with_len}
use Rattle.irq_base.specs.declared.message.MsiWord.{MsiWord}
use Rattle.msix_function.specs.Entries.{entry_at_power_on, is_masked, message_of, word_at, word_in, with_word}
use Rattle.msix_function.specs.declared.entry.Entry.{Entry}
use Rattle.msix_function.specs.declared.function.Function.{Function}

module _ {N : ℕ} where
  -- a function at power-on: each entry masked and else 0, both bits and all pending bits clear
  pub record IsAtPowerOn (f : Function N) : Type 0 where
    pub entries : f.entries ≡ replicate N entry_at_power_on
    pub is_pending : f.is_pending ≡ replicate N false
    pub enabled : f.enabled ≡ false
    pub masked : f.masked ≡ false

  abbrev pub entry_at : Function N → ℕ → Entry
  entry_at f k = slice_index_or f.entries k entry_at_power_on

  -- whether the pending bit of an entry is set
  abbrev pub is_pending_at : Function N → ℕ → Bool
  is_pending_at f k = slice_index_or f.is_pending k false

  -- an entry is held back where it or the function is masked
  abbrev pub is_held : Function N → ℕ → Bool
  is_held f k = f.masked || is_masked (entry_at f k)

  -- the message of an entry
  abbrev pub message_at : Function N → ℕ → MsiWord
  message_at f k = message_of (entry_at f k)

  -- ---- pending bits

  abbrev pub pended : Function N → ℕ → Function N
  pended f k = record f { is_pending = slice_set f.is_pending k true }

  abbrev pub cleared : Function N → ℕ → Function N
  cleared f k = record f { is_pending = slice_set f.is_pending k false }

  -- the pending bits of these entries are cleared
  abbrev pub all_cleared : Function N → List ℕ → Function N
  all_cleared f ks = fold cleared f ks

  -- an entry is due where the function is enabled, and the entry is pending and not held back
  abbrev pub is_due : Function N → ℕ → Bool
  is_due f k = f.enabled && (is_pending_at f k && not (is_held f k))

  -- the entries that are due, in order
  abbrev pub due : Function N → List ℕ
  due f = filter (is_due f) (range_with_len 0 N)

  -- ---- words and bits

  -- what an offset of the table reads: word w of entry k stands at 16 k + 4 w, and other offsets read 0
  abbrev pub loaded : Function N → ℕ → ℕ
  loaded f offset = if nat_lt (offset / 16) N then word_in (entry_at f (offset / 16)) (word_at offset) else 0

  -- the function after a write at an offset of the table; other offsets take no write
  abbrev pub stored : Function N → ℕ → ℕ → Function N
  stored f offset value =
      if nat_lt (offset / 16) N
      then record f { entries = slice_set f.entries (offset / 16) (with_word (entry_at f (offset / 16)) (word_at offset) value) }
      else f

  -- the function after a write of its two bits
  abbrev pub controlled : Function N → Bool → Bool → Function N
  controlled f enable mask = record f { enabled = enable; masked = mask }
