use Rattle.std.proofs.Common.{◌≡◌, rules}
use Rattle.std.proofs.lemmas.List.Sorted.{IsNonDecreasingBy-from_sort_by_key}
use Rattle.std.proofs.lemmas.Fn.{always_returns_same}
use Rattle.actors.specs.declared.kept.Placed.{Placed}
use Rattle.actors.proofs.Ordering.{ordered}
use Rattle.actors.proofs.gathering.order.Goals as goal

pub returns-in-Ok-clause-ordered : goal.returns-in-Ok-clause-ordered
returns-in-Ok-clause-ordered c =
    ordered c.args.placed.now c.sort_by_key.new.self
    (IsNonDecreasingBy-from_sort_by_key (λ (p : Placed). p.at) _ c.in-Ok.ensures.sorted (λ a r q k. search rules))
    (c.in-Ok.ensures.stable (λ (p : Placed). p.at) (always_returns_same _ (λ a r. r ≡ a.0.now.at) _ (λ a r q k. search rules)))
