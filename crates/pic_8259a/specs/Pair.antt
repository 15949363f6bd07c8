-- The pair of 8259As: its ports, its sixteen pins and its acknowledge cycle.
-- 8259A data sheet, cascade mode and the interrupt sequence; the ports are those of the PC, the edge/level registers
-- those of the PIIX chips.
use Rattle.std.specs.Prelude.{◌≡◌, ℕ, ◌+◌, ◌%◌, Bool, ◌||◌, nat_eq, nat_lt, is_some, if◌then◌else◌, Some, None, List, [], ◌∷◌, map}
use Rattle.std.specs.Prelude.{◌<◌, IfSome}
use Rattle.std.specs.declared.option.Option.{Option}
use Rattle.std.specs.FinSet as set
use Rattle.reg_table.specs.Rows.{resets}
use Rattle.reg_table.specs.declared.row.RegRow.{RegRow}
use Rattle.pic_8259a.specs.Levels.{levels_of, byte_of}
use Rattle.pic_8259a.specs.Chip.{chip_at_power_on}
use Rattle.pic_8259a.specs.Priority.{top_of}
use Rattle.pic_8259a.specs.Accesses.{Effect, Read, quietly, plainly, level_acknowledged, even_written, odd_written, elcr_written}
use Rattle.pic_8259a.specs.Accesses.{even_read, odd_read, with_pin, outcome_of}
use Rattle.pic_8259a.specs.declared.chip.Chip.{Chip}
use Rattle.pic_8259a.specs.declared.chip.Place.{Place}
use Rattle.pic_8259a.specs.declared.chip.Place.TheVariants.{Slave, Master}
use Rattle.pic_8259a.specs.declared.chip.PinOutcome.{PinOutcome}
use Rattle.pic_8259a.specs.declared.pair.Pair.{Pair}
use Rattle.pic_8259a.specs.declared.pair.AckedPins.{AckedPins}
use Rattle.pic_8259a.specs.declared.ports.Port.{Port}
use Rattle.pic_8259a.specs.declared.ports.Port.TheVariants.{MasterEven, MasterOdd, SlaveEven, SlaveOdd, MasterElcr, SlaveElcr}

abbrev pub pair_at_power_on : Pair
pair_at_power_on = record { master = chip_at_power_on; slave = chip_at_power_on }

-- the master's place: it hears whether the slave has a ready level
abbrev pub master_place : Pair → Place
master_place p = Master (is_some (top_of p.slave Slave))

-- the top of the master
abbrev pub master_top : Pair → Option ℕ
master_top p = top_of p.master (master_place p)

-- the output to the processor is active while the master has a ready level
abbrev pub has_output : Pair → Bool
has_output p = is_some (master_top p)

-- ---- pins

-- a level of the slave is pin 8 to 15
abbrev pub slave_pin : Option ℕ → Option ℕ
slave_pin None = None
slave_pin (Some level) = Some (8 + level)

abbrev pub pin_set : Pair → ℕ → Bool → Pair
pin_set p pin high =
    if nat_lt pin 8 then record p { master = with_pin p.master pin high } else record p { slave = with_pin p.slave (pin % 8) high }

abbrev pub pin_outcome : Pair → ℕ → Bool → PinOutcome
pin_outcome p pin high = if nat_lt pin 8 then outcome_of p.master pin high else outcome_of p.slave (pin % 8) high

-- ---- ports

-- a row of the table of ports
abbrev pub port_row : ℕ → ℕ → ℕ → RegRow
port_row offset writable reset = record { offset = offset; readable = 0xff; writable = writable; reset = reset }

-- the six ports: an even and an odd port for each chip, the odd one reading IMR, and the two edge/level registers with the
-- pins that may be level-triggered
abbrev pub port_rows : List RegRow
port_rows =
    port_row 0x20 0xff 0 ∷ port_row 0x21 0xff 0xff ∷ port_row 0xa0 0xff 0 ∷ port_row 0xa1 0xff 0xff
    ∷ port_row 0x4d0 0xf8 0 ∷ port_row 0x4d1 0xde 0 ∷ []

abbrev pub is_port : ℕ → Bool
is_port port = nat_eq port 0x20 || nat_eq port 0x21 || nat_eq port 0xa0 || nat_eq port 0xa1 || nat_eq port 0x4d0 || nat_eq port 0x4d1

abbrev pub port_of : ℕ → Port
port_of port =
    if nat_eq port 0x20 then MasterEven
    else if nat_eq port 0x21 then MasterOdd
    else if nat_eq port 0xa0 then SlaveEven
    else if nat_eq port 0xa1 then SlaveOdd
    else if nat_eq port 0x4d0 then MasterElcr
    else SlaveElcr

-- a word to the master or to the slave
abbrev pub to_master : Pair → Effect Chip → Effect Pair
to_master p e = record { after = record p { master = e.after }; pin = e.pin }

abbrev pub to_slave : Pair → Effect Chip → Effect Pair
to_slave p e = record { after = record p { slave = e.after }; pin = slave_pin e.pin }

-- a write by port; of the edge/level registers the pins 3 to 7 and 9, 10, 11, 12, 14, 15 can be written (this board's own
-- rule)
abbrev pub written : Pair → Port → ℕ → Effect Pair
written p MasterEven value = to_master p (even_written p.master value)
written p MasterOdd value = to_master p (quietly (odd_written p.master value))
written p SlaveEven value = to_slave p (even_written p.slave value)
written p SlaveOdd value = to_slave p (quietly (odd_written p.slave value))
written p MasterElcr value = to_master p (quietly (elcr_written p.master (set.intersection (levels_of value) (levels_of 0xf8))))
written p SlaveElcr value = to_slave p (quietly (elcr_written p.slave (set.intersection (levels_of value) (levels_of 0xde))))

abbrev pub write_to : Pair → ℕ → ℕ → Effect Pair
write_to p port value = written p (port_of port) value

-- a read from the master or from the slave
abbrev pub from_master : Pair → Read Chip → Read Pair
from_master p r = record { after = record p { master = r.after }; value = r.value; pin = r.pin }

abbrev pub from_slave : Pair → Read Chip → Read Pair
from_slave p r = record { after = record p { slave = r.after }; value = r.value; pin = slave_pin r.pin }

-- a read by port
abbrev pub read_by : Pair → Port → Read Pair
read_by p MasterEven = from_master p (even_read p.master (master_place p))
read_by p MasterOdd = from_master p (odd_read p.master (master_place p))
read_by p SlaveEven = from_slave p (even_read p.slave Slave)
read_by p SlaveOdd = from_slave p (odd_read p.slave Slave)
read_by p MasterElcr = from_master p (plainly p.master (byte_of p.master.elcr))
read_by p SlaveElcr = from_slave p (plainly p.slave (byte_of p.slave.elcr))

abbrev pub read_from : Pair → ℕ → Read Pair
read_from p port = read_by p (port_of port)

-- what each port reads at power-on is the value of its row
abbrev pub PortsStartAsTold : Type 0
PortsStartAsTold = map (λ row. (read_from pair_at_power_on row.offset).value) port_rows ≡ resets port_rows

-- ---- the acknowledge cycle

-- what a cycle gives: the pair after it, the vector, and the pins that count as acknowledged
pub record Cycle : Type 0 where
  pub after : Pair
  pub vector : ℕ
  pub pins : AckedPins

abbrev pub acked_pins : Option ℕ → Option ℕ → AckedPins
acked_pins master slave = record { master = master; slave = slave }

-- the slave's part, by its top: without one the vector is that of its level 7 and the slave does not change (this board's own
-- rule)
abbrev pub slave_cycle : Option ℕ → Pair → Option ℕ → Cycle
slave_cycle None p master = record { after = p; vector = p.slave.base + 7; pins = acked_pins master None }
slave_cycle (Some s) p master = record {
  after = record p { slave = (level_acknowledged p.slave s).after };
  vector = p.slave.base + s;
  pins = acked_pins master (slave_pin (level_acknowledged p.slave s).pin);
}

-- the cycle by the master's top: without one the vector is that of its level 7 and nothing changes (this board's own rule);
-- level 2 passes the cycle on to the slave
abbrev pub cycle_by : Option ℕ → Pair → Cycle
cycle_by None p = record { after = p; vector = p.master.base + 7; pins = acked_pins None None }
cycle_by (Some t) p =
    if nat_eq t 2
    then slave_cycle (top_of p.slave Slave)
    (record p { master = (level_acknowledged p.master t).after })
    (level_acknowledged p.master t).pin
    else record {
      after = record p { master = (level_acknowledged p.master t).after };
      vector = p.master.base + t;
      pins = acked_pins (level_acknowledged p.master t).pin None;
    }

abbrev pub cycle : Pair → Cycle
cycle p = cycle_by (master_top p) p

-- ---- what every access keeps

-- both pairs have the same pins high
pub record SameHigh (p q : Pair) : Type 0 where
  pub master : q.master.high ≡ p.master.high
  pub slave : q.slave.high ≡ p.slave.high

-- the pins of a cycle: that of the master below 8, that of the slave below 16
pub record InRange (pins : AckedPins) : Type 0 where
  pub master : IfSome pins.master (λ p. p < 8)
  pub slave : IfSome pins.slave (λ p. p < 16)
