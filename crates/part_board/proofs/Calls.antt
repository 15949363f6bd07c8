-- A call that is attempted until it is answered
use Rattle.std.proofs.Common.{◌≡◌, List, Ok, ◌∙◌, subst}
use Rattle.std.specs.declared.result.Result.{Result}
use Rattle.irq_base.specs.declared.call.Call.{Call}
use Rattle.irq_base.specs.declared.call.Caller.{Caller}
use Rattle.irq_base.specs.declared.event.Event.{Event}
use Rattle.irq_base.specs.declared.lists.Entry.{Entry}
use Rattle.irq_base.specs.declared.reply.Done.{Done}
use Rattle.irq_base.specs.declared.reply.Spent.{Spent}
use Rattle.turn_book.specs.Histories.{IsPrefix}
use Rattle.turn_book.proofs.Lists.{prefix-trans}
use Rattle.part_attempt.specs.Attempts.{IfEntered}
use Rattle.part_board.specs.Seen.{entries_by}
use Rattle.part_board.specs.Tried.{IsEntered}

-- an entry behind what was learnt of others is one behind what was seen before that
pub entered_behind : (who same : Caller) (call : Call) (done : Done) (events : List Event) (before mid now : List Entry)
    (answer : Result Done Spent) → answer ≡ Ok done → same ≡ who → IsPrefix before mid → entries_by who mid ≡ entries_by who before
    → IfEntered (Ok answer) (λ d. IsEntered same call d events mid now) → IsEntered who call done events before now
entered_behind who same call done events before mid now answer answered is seen own entered =
    by (subst (λ c. IsEntered c call done events mid now) is (subst (λ a. IfEntered (Ok a) (λ d. IsEntered same call d events mid now)) answered entered))
  where
    by : IsEntered who call done events mid now → IsEntered who call done events before now
    by e = record {
      others = e.others;
      seen = prefix-trans before mid e.others seen e.seen;
      own = e.own ∙ own;
      entered = e.entered;
      at = e.at;
    }
