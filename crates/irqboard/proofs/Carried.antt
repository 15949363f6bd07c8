-- What holds for the words holds for the texts that they were taken from.
use Rattle.std.proofs.Common.{◌≡◌, ℕ, List, Ok, IfOk, IfSome, sym, subst}
use Rattle.std.specs.declared.result.Result.{Result}
use Rattle.std.specs.declared.io.Error.{Error}
use Rattle.irqboard.specs.Commands.{command_of}
use Rattle.irqboard.specs.Words.{Texts, words_in}
use Rattle.irqboard.specs.declared.command.Command.{Command}

pub carried : (P : Command → Type 0) (r : Result Texts Error) (t : Texts) (ws : List (List ℕ)) → r ≡ Ok t → ws ≡ words_in t
    → IfSome (command_of ws) P → IfOk r (λ u. IfSome (command_of (words_in u)) P)
carried P r t ws is same holds =
    subst (λ q. IfOk q (λ u. IfSome (command_of (words_in u)) P)) (sym is) (subst (λ v. IfSome (command_of v) P) same holds)
