-- What reads and writes of the two ports do to a channel (this project's own rules, after the 8254).
use Rattle.std.specs.Prelude.{ℕ, ◌+◌, ◌-◌, ◌*◌, ◌/◌, ◌%◌, Bool, true, false, ◌||◌, nat_eq, if◌then◌else◌, Option, Some, None}
use Rattle.std.specs.Option.{option_map_or}
use Rattle.pit_8254.specs.Words.{control_of, is_high, is_low_of_two, is_periodic}
use Rattle.pit_8254.specs.declared.channel.Channel.{Channel}
use Rattle.pit_8254.specs.declared.channel.Latch.{Latch}
use Rattle.pit_8254.specs.declared.countdown.Countdown.{Countdown}
use Rattle.pit_8254.specs.declared.words.Control.{Control}
use Rattle.pit_8254.specs.declared.words.Control.TheVariants as C
use Rattle.pit_8254.specs.declared.words.PitAccess.{PitAccess}
use Rattle.pit_8254.specs.declared.words.PitAccess.TheVariants.{Low, High, LowThenHigh}
use Rattle.pit_8254.specs.declared.words.PitMode.{PitMode}
use Rattle.pit_8254.specs.declared.words.Program.{Program}

-- the ports of channel 0 and of the control words
abbrev pub is_pit_port : ℕ → Bool
is_pit_port port = nat_eq port 0x40 || nat_eq port 0x43

-- a stopped channel that no control word has set
abbrev pub unset : Channel
unset = record { program = None; low = None; run = None; latch = None; second = false }

-- ---- counts

-- a count of 0 means 65,536
abbrev pub full_count : ℕ → ℕ
full_count n = if nat_eq n 0 then 65536 else n

-- a count that is loaded now
abbrev pub fresh : PitMode → ℕ → Countdown
fresh mode count = record { mode = mode; count = count; elapsed = 0; next = None }

-- what a whole count does in modes 2 and 3: 1 stops the channel; it is loaded at once where the channel is stopped, and is else the
-- next count
abbrev pub loaded_periodic : PitMode → ℕ → Option Countdown → Option Countdown
loaded_periodic mode count None = if nat_eq count 1 then None else Some (fresh mode count)
loaded_periodic mode count (Some r) = if nat_eq count 1 then None else Some (record r { next = Some count })

-- what a whole count does: in modes 0 and 4 it is loaded at once
abbrev pub loaded : PitMode → ℕ → Option Countdown → Option Countdown
loaded mode count run = if is_periodic mode then loaded_periodic mode count run else Some (fresh mode count)

-- the count that a byte makes whole, after the low byte that waits: none where it is the low one of two
abbrev pub whole_count : PitAccess → Option ℕ → ℕ → Option ℕ
whole_count Low low byte = Some byte
whole_count High low byte = Some (256 * byte)
whole_count LowThenHigh None byte = None
whole_count LowThenHigh (Some low) byte = Some (256 * byte + low)

-- the low byte that waits after it
abbrev pub waiting_byte : PitAccess → Option ℕ → ℕ → Option ℕ
waiting_byte Low low byte = None
waiting_byte High low byte = None
waiting_byte LowThenHigh None byte = Some byte
waiting_byte LowThenHigh (Some low) byte = None

-- what a byte of a count does to a channel that is set so
abbrev pub byte_taken : Program → ℕ → Channel → Channel
byte_taken p byte ch = record ch {
  low = waiting_byte p.access ch.low byte;
  run = option_map_or (λ n. loaded p.mode (full_count n) ch.run) (whole_count p.access ch.low byte) ch.run;
}

-- a byte of a count does nothing where no control word has set the channel
abbrev pub byte_written : Option Program → ℕ → Channel → Channel
byte_written None byte ch = ch
byte_written (Some p) byte ch = byte_taken p byte ch

-- ---- reads

-- what the channel shows of its count: the count less the clocks since the load, 0 past it and where it is stopped; 65,536 shows as 0
abbrev pub shown : Option Countdown → ℕ
shown None = 0
shown (Some r) = (r.count - r.elapsed) % 65536

-- the low or the high byte of a count
abbrev pub byte_of : Bool → ℕ → ℕ
byte_of high count = if high then count / 256 else count % 256

-- the count and the order that a read goes by: those of the latched count, if there is one
abbrev pub read_from : PitAccess → Option Latch → Channel → ℕ
read_from access (Some l) ch = byte_of (is_high access l.second) l.count
read_from access None ch = byte_of (is_high access ch.second) (shown ch.run)

-- what a read of the channel gives
abbrev pub byte_read : Option Program → Channel → ℕ
byte_read None ch = 0
byte_read (Some p) ch = read_from p.access ch.latch ch

-- a latched count goes when its last byte was read; else the bytes of a read alternate
abbrev pub order_after : PitAccess → Option Latch → Channel → Channel
order_after access (Some l) ch =
    record ch { latch = if is_low_of_two access l.second then Some (record l { second = true }) else None }
order_after access None ch = record ch { second = is_low_of_two access ch.second }

-- the channel after a read of its count
abbrev pub after_read : Option Program → Channel → Channel
after_read None ch = ch
after_read (Some p) ch = order_after p.access ch.latch ch

-- ---- control words

-- the count that the channel shows is latched
abbrev pub latched : Channel → Channel
latched ch = record ch { latch = Some (record { count = shown ch.run; second = false }) }

-- what a control word does; one that sets the channel, and a bad one, stop it and drop what was latched, waited or was to come
abbrev pub controlled : Control → Channel → Channel
controlled C.Nothing ch = ch
controlled C.Latch ch = latched ch
controlled C.Bad ch = unset
controlled (C.Program p) ch = record unset { program = Some p }

-- ---- the two ports

abbrev pub port_written : ℕ → ℕ → Channel → Channel
port_written port value ch =
    if nat_eq port 0x43 then controlled (control_of value) ch else byte_written ch.program value ch

abbrev pub port_read : ℕ → Channel → ℕ
port_read port ch = if nat_eq port 0x43 then 0 else byte_read ch.program ch

abbrev pub after_port_read : ℕ → Channel → Channel
after_port_read port ch = if nat_eq port 0x43 then ch else after_read ch.program ch
