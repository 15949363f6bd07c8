-- What published words tell, where they tell the routing of their registry.
use Rattle.std.proofs.Common.{◌≡◌, ℕ, ◌<◌, Bool, true, false, nat_eq, if◌then◌else◌, Some, None, sym, ap, refl, arith}
use Rattle.std.proofs.Math.Logic.{∥∥₁_elim}
use Rattle.std.specs.Prelude.{IfSome, IsTrue, All, List, option_map}
use Rattle.irq_base.specs.declared.call.Row.{Row}
use Rattle.ack_notifiers.specs.declared.watches.Watch.{Watch}
use Rattle.std.specs.Coded.{Coded, coded_ℕ, coded_bool, coded_option, coded×, code_by}
use base.Stored.{Coded-set}
use Rattle.irq_base.specs.declared.event.Pin.{Pin}
use Rattle.irqfd_set.specs.Rows.{of_trigger}
use Rattle.route_table.specs.Rows.{refusal_of, table_of, targets_of}
use Rattle.route_table.specs.Pins.{gsi_of}
use Rattle.route_table.specs.Tables.{targets_code}
use Rattle.irq_bits.specs.Fields.{bits_of}
use Rattle.route_table.specs.Words.{is_route}
use Rattle.board_model.specs.declared.trigger.TriggerWord.{TriggerWord}
use Rattle.board_model.specs.Registry.{RegistryPart}
use Rattle.board_model.specs.Routing.{is_marked, trigger_of}
use Rattle.board_model.specs.Published.{published, IsSoundIrqfd, routing_of_words, trigger_in}
use Rattle.board_model.specs.Laws.{PublishesRouting}
use Rattle.board_model.proofs.Words.{words_tell}

abbrev trigger_code : Coded TriggerWord
trigger_code = code_by (ℕ × Bool) (coded× coded_ℕ coded_bool) (λ t. (t.gsi, t.resample)) (λ p. record { gsi = p.0; resample = p.1 }) (λ _. refl)

module _ (r : RegistryPart) (tick : ℕ) (told : ∥ PublishesRouting r tick ∥₁) where
  pub targets_told : (gsi : ℕ) → targets_of r.table gsi ≡ (routing_of_words (published r tick)).targets gsi
  targets_told gsi = ∥∥₁_elim told (Coded-set targets_code _ _) (λ p. sym (ap (λ routing. routing.targets gsi) p.told))

  pub marked_told : (gsi : ℕ) → is_marked r tick gsi ≡ (routing_of_words (published r tick)).marked gsi
  marked_told gsi = ∥∥₁_elim told (Coded-set coded_bool _ _) (λ p. sym (ap (λ routing. routing.marked gsi) p.told))

  pub gsi_told : (pin : Pin) → gsi_of r.table pin ≡ (routing_of_words (published r tick)).gsi_of pin
  gsi_told pin = ∥∥₁_elim told (Coded-set (coded_option coded_ℕ) _ _) (λ p. sym (ap (λ routing. routing.gsi_of pin) p.told))

  pub trigger_told : (counter : ℕ) → option_map trigger_of (of_trigger r.irqfds counter) ≡ (routing_of_words (published r tick)).trigger counter
  trigger_told counter = ∥∥₁_elim told (Coded-set (coded_option trigger_code) _ _) (λ p. sym (ap (λ routing. routing.trigger counter) p.told))

-- a registry publishes its routing where its table keeps the rules and its registrations name what there is
pub publishes : (r : RegistryPart) (tick : ℕ) → (rows : List Row) × (refusal_of rows ≡ None) × (r.table ≡ table_of rows) → ((gsi : ℕ) → IsTrue (is_route (targets_of r.table gsi)))
    → All IsSoundIrqfd r.irqfds → All (λ (row : Watch). row.gsi < 4096) r.watches → tick < 4096 → ∥ PublishesRouting r tick ∥₁
publishes r tick made routes irqfds watches low = ∣ words_tell r tick (record { table = record { made = made; routes = routes }; irqfds = irqfds; watches = watches; ticks = low }) ∣₁

-- the GSI of a trigger's word has twelve bits
pub trigger_in-range : (word : ℕ) → IfSome (trigger_in word) (λ t. t.gsi < 4096)
trigger_in-range word =
    elim (nat_eq (bits_of word 0 0) 1) as (λ b. IfSome (if b then Some (record { gsi = bits_of word 12 1; resample = nat_eq (bits_of word 13 13) 1 }) else None) (λ (t : TriggerWord). t.gsi < 4096)) [
      | true ↦ omega arith
      | false ↦ tt
    ]

pub ruleset word_rules = (targets_told, marked_told, gsi_told, trigger_told)
