-- The words of the command line, and what comes where there are none.
use Rattle.std.specs.Prelude.{◌≡◌, ◌↔◌, ℕ, List, map, drop, string_bytes, Result, Ok, Err, String}
use Rattle.std.specs.IoError.{error_kind}
use Rattle.std.specs.Vec.Iter.{into_iter_items}
use Rattle.std.specs.declared.alloc.Global.{Global}
use Rattle.std.specs.declared.io.Error.{Error}
use Rattle.std.specs.declared.io.ErrorKind.{ErrorKind}
use Rattle.std.specs.declared.io.ErrorKind.TheVariants.{OutOfMemory}
use Rattle.std.specs.declared.vec.IntoIter.{IntoIter}
use Rattle.irqboard.specs.Making.{AreNone}
use Rattle.irqboard.specs.declared.outcome.Outcome.{Outcome}
use Rattle.irqboard.specs.declared.outcome.Outcome.TheVariants.{Usage, NoMemory}

-- the texts of a command line, the program's name first
abbrev pub Texts : Type 0
Texts = IntoIter (String Global) Global

-- its words, which are the texts behind the first
abbrev pub words_in : Texts → List (List ℕ)
words_in texts = map string_bytes (drop 1 (into_iter_items texts))

-- what comes where the texts are not to be had: want of memory, and else, where one is no text, that the words are none
abbrev pub without_words : ErrorKind → Outcome
without_words OutOfMemory = NoMemory
without_words _ = Usage

-- the words ask for nothing exactly where that is the answer, but for want of memory
abbrev pub KnowsWords : Result Texts Error → Outcome → Type 0
KnowsWords (Err e) outcome = outcome ≡ without_words (error_kind e)
KnowsWords (Ok texts) NoMemory = Unit {0}
KnowsWords (Ok texts) outcome = (outcome ≡ Usage) ↔ AreNone (words_in texts)
