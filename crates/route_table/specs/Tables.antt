-- The table that words stand for, and what a table keeps.
use Rattle.std.specs.Prelude.{◌≡◌, ℕ, List, length, Some, None, refl}
use Rattle.std.specs.Coded.{Coded, coded_ℕ, coded_option, coded×, code_by}
use Rattle.std.specs.FinMap as map
use Rattle.std.specs.declared.option.Option.{Option}
use Rattle.irq_base.specs.declared.call.Row.{Row}
use Rattle.irq_base.specs.declared.call.Row.TheVariants.{Pic, Ioapic, Msi}
use Rattle.irq_base.specs.declared.message.MsiWord.{MsiWord}
use Rattle.irq_base.specs.declared.message.Targets.{Targets}
use Rattle.route_table.specs.Rows.{Table, table_below, targets_of, refusal_of}
use Rattle.route_table.specs.Standing.{route_at, Stands}

abbrev pub message_code : Coded MsiWord
message_code =
    code_by (ℕ × ℕ) (coded× coded_ℕ coded_ℕ) (λ m. (m.address, m.payload)) (λ p. record { address = p.0; payload = p.1 }) (λ _.
    refl)

abbrev pub targets_code : Coded Targets
targets_code =
    code_by (Option ℕ
    × (Option ℕ × Option MsiWord)) (coded× (coded_option coded_ℕ) (coded× (coded_option coded_ℕ) (coded_option message_code)))
    (λ t. (t.pic, (t.ioapic, t.msi))) (λ p. record { pic = p.0; ioapic = p.1.0; msi = p.1.1 }) (λ _. refl)

abbrev pub table_code : Coded Table
table_code = map.code coded_ℕ targets_code

-- the table that the words of 4,096 GSIs stand for
unfoldable pub table_in : List ℕ → Table
table_in words = table_below 4096 (route_at words)

-- the words and the pins stand for rows that keep the rules, and there is room for other words
pub record IsTable (words spare pics ioapics : List ℕ) : Type 0 where
  pub long : length words ≡ 4096
  pub room : length spare ≡ 4096
  pub made : (rows : List Row) × Stands words pics ioapics rows × (refusal_of rows ≡ None)

-- a table has a row where it sends the row's GSI to what the row names
abbrev pub HasRow : Table → Row → Type 0
HasRow table (Pic gsi pin) = (targets_of table gsi).pic ≡ Some pin
HasRow table (Ioapic gsi pin) = (targets_of table gsi).ioapic ≡ Some pin
HasRow table (Msi gsi address payload) = (targets_of table gsi).msi ≡ Some (record { address = address; payload = payload })
