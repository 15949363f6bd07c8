-- A text that is made of three numbers: nothing is read, and where there is want of memory nothing is written.
use Rattle.std.proofs.Common.{◌≡◌, ◌↔◌, ℕ, ◌≤◌, List, [], Ok, Err, IfOk, IfSome, Some, None, refl, sym, subst, arith}
use Rattle.std.specs.declared.option.Option.{Option}
use Rattle.std.specs.declared.result.Result.{Result}
use Rattle.std.specs.declared.io.Error.{Error}
use Rattle.std.specs.Io.KnownBytes.{Consumes}
use Rattle.irqboard.specs.Answers.{ReadsRightly}
use Rattle.irqboard.specs.Input.{HasRead}
use Rattle.irqboard.specs.Making.{AreNone, MakesRightly, making_of}
use Rattle.irqboard.specs.Words.{Texts, words_in, KnowsWords}
use Rattle.irqboard.specs.declared.making.Making.{Making}
use Rattle.irqboard.specs.declared.outcome.Outcome.{Outcome}
use Rattle.irqboard.specs.declared.outcome.Outcome.TheVariants.{Fine, Usage, BadInput, ReadFault, WriteFault, NoMemory, TooLong, NotLegal, Spent}

consumes_nothing : (left : Option (List ℕ)) → Consumes left left []
consumes_nothing None = tt
consumes_nothing (Some bytes) = refl

nothing_read : (left : Option (List ℕ)) → HasRead left left (λ n. n ≤ 16777216)
nothing_read left = ([], consumes_nothing left, omega arith)

pub unread : (IsText : List ℕ → Type 0) (left old new : Option (List ℕ)) (outcome : Outcome) → MakesRightly IsText old new outcome → ReadsRightly left left outcome
unread IsText left old new Fine made = nothing_read left
unread IsText left old new Usage made = absurd made
unread IsText left old new (BadInput line cause) made = absurd made
unread IsText left old new ReadFault made = absurd made
unread IsText left old new WriteFault made = nothing_read left
unread IsText left old new NoMemory made = nothing_read left
unread IsText left old new (TooLong bytes) made = absurd made
unread IsText left old new (NotLegal at flaw) made = absurd made
unread IsText left old new (Spent limit) made = absurd made

-- ---- of the words, and of the texts that they were taken from

pub knows : (r : Result Texts Error) (t : Texts) (ws : List (List ℕ)) (outcome : Outcome) → r ≡ Ok t → ws ≡ words_in t
    → ((outcome ≡ Usage) ↔ AreNone ws) → KnowsWords r outcome
knows r t ws outcome is same holds = subst (λ q. KnowsWords q outcome) (sym is) (by outcome (subst (λ v. (outcome ≡ Usage) ↔ AreNone v) same holds))
  where
    by : (o : Outcome) → ((o ≡ Usage) ↔ AreNone (words_in t)) → KnowsWords (Ok t) o
    by Fine h = h
    by Usage h = h
    by (BadInput line cause) h = h
    by ReadFault h = h
    by WriteFault h = h
    by NoMemory h = tt
    by (TooLong bytes) h = h
    by (NotLegal at flaw) h = h
    by (Spent limit) h = h

pub carried_made : (P : Making → Type 0) (r : Result Texts Error) (t : Texts) (ws : List (List ℕ)) → r ≡ Ok t → ws ≡ words_in t
    → IfSome (making_of ws) P → IfOk r (λ u. IfSome (making_of (words_in u)) P)
carried_made P r t ws is same holds =
    subst (λ q. IfOk q (λ u. IfSome (making_of (words_in u)) P)) (sym is) (subst (λ v. IfSome (making_of v) P) same holds)

-- what holds whatever is made
pub anyway : (P : Making → Type 0) (r : Result Texts Error) → ((m : Making) → P m) → IfOk r (λ u. IfSome (making_of (words_in u)) P)
anyway P (Ok t) each = by (making_of (words_in t))
  where
    by : (o : Option Making) → IfSome o P
    by None = tt
    by (Some m) = each m
anyway P (Err e) each = tt
