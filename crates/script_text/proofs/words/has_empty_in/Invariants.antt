use Rattle.std.proofs.Common.{◌≡◌, length}
use Rattle.std.specs.List.{list_any}
use Rattle.script_text.specs.Words.{more_words, is_empty_word}
use Rattle.script_text.proofs.words.has_empty_in.Given as goal

-- the words so far are not empty
abbrev pub invariant-loop-word : goal.invariant-loop-word
invariant-loop-word l = list_any is_empty_word (more_words l.left) ≡ list_any is_empty_word (more_words l.tail)

abbrev pub decreases-loop-word : goal.decreases-loop-word
decreases-loop-word l = length l.left
