-- Calls of one caller, one after another.
use Rattle.std.proofs.Common.{◌≡◌, List, [], ◌∷◌, ◌++◌, append_assoc, Some, None, Ok, Err, IfOk, refl, sym, ap, ◌∙◌, subst}
use Rattle.std.proofs.lemmas.List.{append-nil}
use Rattle.std.specs.declared.option.Option.{Option}
use Rattle.std.specs.declared.result.Result.{Result}
use Rattle.irq_base.specs.declared.call.Call.{Call}
use Rattle.irq_base.specs.declared.call.Caller.{Caller}
use Rattle.irq_base.specs.declared.lists.Entry.{Entry}
use Rattle.irq_base.specs.declared.lists.NoMemory.{NoMemory}
use Rattle.irq_base.specs.declared.reply.Reply.{Reply}
use Rattle.irq_base.specs.declared.reply.Spent.{Spent}
use Rattle.script_text.specs.Asks.{Asks, ask, once, answered}
use Rattle.board_model.specs.Board.{Board}
use Rattle.board_step.specs.Step.{spent_of}
use Rattle.replaying.specs.FileOrder.{AsksInTurn}
use Rattle.replaying.specs.Played.{Answered, Played}
use Rattle.replaying.proofs.Unwished.{unwished_append}

asks-append : (who : Caller) (asks mid left : Asks) (es fs : List Entry) → AsksInTurn who asks es mid → AsksInTurn who mid fs left → AsksInTurn who asks (es ++ fs) left
asks-append who asks mid left [] fs first second = subst (λ a. AsksInTurn who a fs left) (sym first) second
asks-append who asks mid left (e ∷ es) fs (is, next, more) second = (is, next, asks-append who (answered asks e.reply) mid left es fs more second)

module _ (who : Caller) where
  -- nothing is asked
  pub played-nothing : (rest : Asks) (b : Board) (before : List Entry) → Played who rest rest b before None b before
  played-nothing rest b before = record {
    mine = [];
    grown = sym (append-nil before);
    asked = record { left = rest; asked = refl; leads = refl; leaves = refl };
  }

  -- a limit bars the first call
  pub played-barred : (call : Call) (k : Reply → Asks) (rest : Asks) (b : Board) (before : List Entry) (spent : Spent) (c : Board) (after : List Entry)
      → Answered who call b before (Err spent) c after → Played who (ask call k) rest b before (Some spent) c after
  played-barred call k rest b before spent c after (stays, kept, barred) = record {
    mine = [];
    grown = kept ∙ sym (append-nil before);
    asked = record { left = ask call k; asked = refl; leads = sym stays; leaves = (call, refl, ap (λ (x : Board). spent_of x call) stays ∙ barred) };
  }

  -- one call is answered
  pub played-one : (call : Call) (k : Reply → Asks) (b : Board) (before : List Entry) (reply : Reply) (c : Board) (after : List Entry)
      → Answered who call b before (Ok reply) c after → Played who (ask call k) (k reply) b before None c after
  played-one call k b before reply c after (told, step, grown) = record {
    mine = _ ∷ [];
    grown = grown;
    asked = record { left = k reply; asked = (refl, refl, refl); leads = (c, step, refl); leaves = refl };
  }

  -- what is asked first, and then
  pub played-then : (asks mid rest : Asks) (b : Board) (before : List Entry) (m : Board) (between : List Entry) (stop : Option Spent) (c : Board) (after : List Entry)
      → Played who asks mid b before None m between → Played who mid rest m between stop c after → Played who asks rest b before stop c after
  played-then asks mid rest b before m between stop c after first second = record {
    mine = first.mine ++ second.mine;
    grown = second.grown ∙ ap (λ es. es ++ second.mine) first.grown ∙ append_assoc before first.mine second.mine;
    asked = record {
      left = second.asked.left;
      asked = asks-append who asks mid second.asked.left first.mine second.mine (subst (λ a. AsksInTurn who asks first.mine a) first.asked.leaves first.asked.asked) second.asked.asked;
      leads = unwished_append b m c first.mine second.mine first.asked.leads second.asked.leads;
      leaves = second.asked.leaves;
    };
  }

  -- where a limit barred a call, what comes behind makes no difference
  pub played-stopped : (asks mid rest : Asks) (b : Board) (before : List Entry) (spent : Spent) (c : Board) (after : List Entry)
      → Played who asks mid b before (Some spent) c after → Played who asks rest b before (Some spent) c after
  played-stopped asks mid rest b before spent c after p = record {
    mine = p.mine;
    grown = p.grown;
    asked = record { left = p.asked.left; asked = p.asked.asked; leads = p.asked.leads; leaves = p.asked.leaves };
  }

  -- one call, answered or not
  pub once-answered : (call : Call) (rest : Asks) (b : Board) (before : List Entry) (reply : Reply) (c : Board) (after : List Entry)
      → Answered who call b before (Ok reply) c after → Played who (once call rest) rest b before None c after
  once-answered call rest b before reply c after answered = played-one call (λ _. rest) b before reply c after answered

  pub once-barred : (call : Call) (rest : Asks) (b : Board) (before : List Entry) (spent : Spent) (c : Board) (after : List Entry)
      → Answered who call b before (Err spent) c after → Played who (once call rest) rest b before (Some spent) c after
  once-barred call rest b before spent c after answered = played-barred call (λ _. rest) rest b before spent c after answered

-- what an answer tells, where it is known
pub answered_by : (who : Caller) (call : Call) (b : Board) (before : List Entry) (r : Result (Result Reply Spent) NoMemory) (answer : Result Reply Spent) (c : Board) (after : List Entry)
    → r ≡ Ok answer → IfOk r (λ a. Answered who call b before a c after) → Answered who call b before answer c after
answered_by who call b before r answer c after is given = subst (λ (x : Result (Result Reply Spent) NoMemory). IfOk x (λ a. Answered who call b before a c after)) is given

pub ruleset once_rules = (once-answered, once-barred)
