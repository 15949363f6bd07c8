-- What each word, each read, each acknowledge and each pin does to one 8259A.
-- 8259A data sheet, initialisation command words, operation command words, poll command and reading the status; the
-- edge/level register is that of the PIIX chips.
use Rattle.std.specs.Prelude.{ℕ, ◌+◌, ◌*◌, ◌/◌, ◌%◌, Bool, true, false, not, ◌&&◌, ◌||◌, nat_eq, if◌then◌else◌, Some, None}
use Rattle.std.specs.declared.option.Option.{Option}
use Rattle.std.specs.FinSet as set
use Rattle.irq_bits.specs.Members.{Numbers, is_set}
use Rattle.pic_8259a.specs.Levels.{levels_of, byte_of, highest_of}
use Rattle.pic_8259a.specs.Priority.{requests_of, inhibitors_of, top_of}
use Rattle.pic_8259a.specs.declared.chip.Chip.{Chip}
use Rattle.pic_8259a.specs.declared.chip.Place.{Place}
use Rattle.pic_8259a.specs.declared.chip.Expects.{Expects}
use Rattle.pic_8259a.specs.declared.chip.Expects.TheVariants.{Nothing, Icw2, Icw3, Icw4}
use Rattle.pic_8259a.specs.declared.chip.PinOutcome.{PinOutcome}
use Rattle.pic_8259a.specs.declared.chip.PinOutcome.TheVariants.{New, Stood, Masked, Lowered}

-- what is there after a word, and the pin that it acknowledged
pub record Effect (S : Type 0) : Type 0 where
  pub after : S
  pub pin : Option ℕ

-- what is there after a read, the value that it gave, and the pin that it acknowledged
pub record Read (S : Type 0) : Type 0 where
  pub after : S
  pub value : ℕ
  pub pin : Option ℕ

-- a new state with no pin acknowledged
abbrev pub quietly : Chip → Effect Chip
quietly c = record { after = c; pin = None }

-- ---- the acknowledge

-- an acknowledge of level t: its latch is cleared and its in-service bit set; under automatic EOI that bit is cleared at
-- once, the pin counts as acknowledged, and with rotation t becomes the lowest level
abbrev pub level_acknowledged : Chip → ℕ → Effect Chip
level_acknowledged c t = record {
  after = record c {
    latches = set.remove c.latches t;
    isr = if c.auto_eoi then set.remove c.isr t else set.insert c.isr t;
    lowest = if c.auto_eoi && c.rotates_in_auto_eoi then t else c.lowest;
  };
  pin = if c.auto_eoi then Some t else None;
}

-- ---- OCW2

-- an end of interrupt of a level clears its in-service bit, and acknowledges the pin where the bit was set
abbrev pub ended : Chip → Option ℕ → Effect Chip
ended c None = quietly c
ended c (Some n) = record { after = record c { isr = set.remove c.isr n }; pin = if set.contains c.isr n then Some n else None }

-- the level of a non-specific end of interrupt: the one in service of highest priority, masked ones being passed over in
-- special mask mode (this board's own rule)
abbrev pub highest_in_service : Chip → Option ℕ
highest_in_service c = highest_of c.lowest (inhibitors_of c)

-- a level, if there is one, becomes the lowest
abbrev pub rotated : Effect Chip → Option ℕ → Effect Chip
rotated e None = e
rotated e (Some n) = record { after = record e.after { lowest = n }; pin = e.pin }

-- OCW2 by its bits 7 to 5 and the level of its bits 2 to 0: 001 is the non-specific end of interrupt, 011 the specific one,
-- 101 and 111 are the same and rotate, 100 and 000 turn rotation in automatic EOI on and off, 110 sets the lowest level, and
-- 010 is nothing; what a rotation leaves is this board's own rule
abbrev pub commanded_by : ℕ → ℕ → Chip → Effect Chip
commanded_by command level c =
    if nat_eq command 1 then ended c (highest_in_service c)
    else if nat_eq command 3 then ended c (Some level)
    else if nat_eq command 5 then rotated (ended c (highest_in_service c)) (ended c (highest_in_service c)).pin
    else if nat_eq command 7 then rotated (ended c (Some level)) (Some level)
    else if nat_eq command 4 then quietly (record c { rotates_in_auto_eoi = true })
    else if nat_eq command 0 then quietly (record c { rotates_in_auto_eoi = false })
    else if nat_eq command 6 then rotated (quietly c) (Some level)
    else quietly c

abbrev pub commanded : Chip → ℕ → Effect Chip
commanded c value = commanded_by (value / 32) (value % 8) c

-- ---- OCW3

-- bits 6 and 5: 11 is special mask on, 10 off
abbrev pub special_mask_by : ℕ → Bool → Bool
special_mask_by two_bits before = if nat_eq two_bits 3 then true else if nat_eq two_bits 2 then false else before

-- bits 1 and 0: 10 reads the requests, 11 the levels in service
abbrev pub reads_isr_by : ℕ → Bool → Bool
reads_isr_by two_bits before = if nat_eq two_bits 3 then true else if nat_eq two_bits 2 then false else before

-- OCW3: bit 2 is the poll command, and only without it the choice of the register to read counts
abbrev pub controlled : Chip → ℕ → Chip
controlled c value =
    record c {
      special_mask = special_mask_by (value / 32 % 4) c.special_mask;
      poll_pending = is_set value 2;
      reads_isr = if is_set value 2 then c.reads_isr else reads_isr_by (value % 4) c.reads_isr;
    }

-- ---- initialisation

-- ICW1 clears the chip but for its base, its pins, its edge/level register and, with bit 0, automatic EOI and special
-- fully nested mode; bit 1 tells that no ICW3 follows, bit 0 that ICW4 follows. That the levels in service are cleared, and
-- that LTIM and 8080 mode are not told apart, is this board's own rule
abbrev pub initialised : Chip → ℕ → Chip
initialised c value =
    record c {
      imr = set.empty;
      latches = set.empty;
      isr = set.empty;
      lowest = 7;
      special_mask = false;
      rotates_in_auto_eoi = false;
      poll_pending = false;
      reads_isr = false;
      auto_eoi = c.auto_eoi && is_set value 0;
      special_fully_nested = c.special_fully_nested && is_set value 0;
      expects = Icw2 (not (is_set value 1)) (is_set value 0);
    }

-- the word after ICW3, or after ICW2 where no ICW3 follows
abbrev pub icw4_or_nothing : Bool → Expects
icw4_or_nothing icw4 = if icw4 then Icw4 else Nothing

-- a word at the odd port: the initialisation word that is expected, else the new mask; ICW3 is not used (this board's own
-- rule)
abbrev pub odd_written_by : Expects → Chip → ℕ → Chip
odd_written_by (Icw2 icw3 icw4) c value = record c { base = value / 8 * 8; expects = if icw3 then Icw3 icw4 else icw4_or_nothing icw4 }
odd_written_by (Icw3 icw4) c value = record c { expects = icw4_or_nothing icw4 }
odd_written_by Icw4 c value = record c { auto_eoi = is_set value 1; special_fully_nested = is_set value 4; expects = Nothing }
odd_written_by Nothing c value = record c { imr = levels_of value }

abbrev pub odd_written : Chip → ℕ → Chip
odd_written c value = odd_written_by c.expects c value

-- a word at the even port: ICW1 by bit 4, OCW3 by bit 3, else OCW2
abbrev pub even_written : Chip → ℕ → Effect Chip
even_written c value =
    if is_set value 4 then quietly (initialised c value) else if is_set value 3 then quietly (controlled c value) else commanded c value

-- ---- reads

-- a read that changes nothing
abbrev pub plainly : Chip → ℕ → Read Chip
plainly c value = record { after = c; value = value; pin = None }

-- what a poll gives, by the top: it ends the poll and acknowledges the top (this board's own rule)
abbrev pub polled_by : Option ℕ → Chip → Read Chip
polled_by None c = plainly (record c { poll_pending = false }) 0x00
polled_by (Some t) c =
    record {
      after = (level_acknowledged (record c { poll_pending = false }) t).after;
      value = 0x80 + t;
      pin = (level_acknowledged c t).pin;
    }

abbrev pub polled : Chip → Place → Read Chip
polled c place = polled_by (top_of c place) c

-- a read of the even port: the poll that is pending, else the levels in service or the requests
abbrev pub even_read : Chip → Place → Read Chip
even_read c place =
    if c.poll_pending then polled c place else plainly c (if c.reads_isr then byte_of c.isr else byte_of (requests_of c place))

-- a read of the odd port: the poll that is pending, else the mask
abbrev pub odd_read : Chip → Place → Read Chip
odd_read c place = if c.poll_pending then polled c place else plainly c (byte_of c.imr)

-- ---- pins

-- a pin that goes from low to high sets its latch, but for a level-triggered one; a fall leaves the latch (this board's own
-- rule: an edge stays latched until it is acknowledged or ICW1 comes)
abbrev pub with_pin : Chip → ℕ → Bool → Chip
with_pin c pin true = record c {
  high = set.insert c.high pin;
  latches = if not (set.contains c.high pin) && not (set.contains c.elcr pin) then set.insert c.latches pin else c.latches;
}
with_pin c pin false = record c { high = set.remove c.high pin }

-- what came of it: a rise is masked by the level's own mask bit; else it is new where the pin was low and, for an edge
-- pin, its latch was clear
abbrev pub outcome_of : Chip → ℕ → Bool → PinOutcome
outcome_of c pin true =
    if set.contains c.imr pin then Masked
    else if not (set.contains c.high pin) && (set.contains c.elcr pin || not (set.contains c.latches pin)) then New
    else Stood
outcome_of c pin false = Lowered

-- a write of the edge/level register: a level-triggered pin has no latch
abbrev pub elcr_written : Chip → Numbers → Chip
elcr_written c levels = record c { elcr = levels; latches = set.difference c.latches levels }
