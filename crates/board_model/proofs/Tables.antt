-- Equal words of sound registries decide the routing table; and how many words there are.
use Rattle.std.proofs.Common.{◌≡◌, ℕ, ◌<◌, zero, suc, if◌then◌else◌, List, None, refl, sym, ap, ◌∙◌, arith}
use Rattle.std.specs.FinMap as map
use Rattle.irq_base.specs.declared.call.Row.{Row}
use Rattle.irq_base.specs.declared.message.Targets.{Targets}
use Rattle.route_table.specs.Rows.{refusal_of, has_target, targets_by, table_below, table_of, targets_of}
use Rattle.route_table.proofs.TableLaws.{targets_of-rows}
use Rattle.board_model.specs.Routing.{Routing, routing_of_registry}
use Rattle.board_model.specs.Laws.{PublishesAsMany, PublishedDecidesTheTable}
use Rattle.board_model.proofs.Words.{length-words_of, published_decides}

pub publishes_as_many : PublishesAsMany
publishes_as_many registry tick = length-words_of (routing_of_registry registry tick)

-- equal targets make equal tables
same_below : (k : ℕ) (f g : ℕ → Targets) → ((gsi : ℕ) → gsi < k → f gsi ≡ g gsi) → table_below k f ≡ table_below k g
unfolding table_below
same_below zero f g same = refl
same_below (suc k) f g same =
    let below = same_below k f g (λ gsi low. same gsi (omega (arith, low))) in
    let here = same k (omega arith) in
    λ i. if has_target (here i) then map.insert (below i) k (here i) else below i

-- tables of rows that send each GSI alike are one
same_table : (rows others : List Row) → ((gsi : ℕ) → targets_of (table_of rows) gsi ≡ targets_of (table_of others) gsi) → table_of rows ≡ table_of others
unfolding table_of
same_table rows others same =
    same_below 4096 (targets_by rows) (targets_by others)
    (λ gsi low. sym (targets_of-rows rows gsi low) ∙ same gsi ∙ targets_of-rows others gsi low)

pub published_decides_the_table : PublishedDecidesTheTable
published_decides_the_table registry other tick other_tick both = one.2 ∙ same_table one.0 two.0 same ∙ sym two.2
  where
    one : (rows : List Row) × (refusal_of rows ≡ None) × (registry.table ≡ table_of rows)
    one = both.sound.table.made

    two : (rows : List Row) × (refusal_of rows ≡ None) × (other.table ≡ table_of rows)
    two = both.other_sound.table.made

    told : (gsi : ℕ) → targets_of registry.table gsi ≡ targets_of other.table gsi
    told gsi = ap (λ (r : Routing). r.targets gsi) (published_decides registry other tick other_tick both.sound both.other_sound both.words)

    same : (gsi : ℕ) → targets_of (table_of one.0) gsi ≡ targets_of (table_of two.0) gsi
    same gsi = ap (λ t. targets_of t gsi) (sym one.2) ∙ told gsi ∙ ap (λ t. targets_of t gsi) two.2
