-- How a generated script is spelled (the one spelling of each number; this board's own rule).
use Rattle.std.specs.Prelude.{ℕ, List, [], ◌∷◌, ◌++◌, map, codes}
use Rattle.std.specs.Fmt.{decimal}
use Rattle.script_text.specs.declared.task.ActorLine.{ActorLine}
use Rattle.script_text.specs.Spelling.{actor_words, joined, with_feeds}
use Rattle.workload_gen.specs.Workload.{workload}

-- the header; the headers `tick` and `publications`, which may be left out, are
abbrev pub header_words : ℕ → List (List (List ℕ))
header_words c =
    (codes "irqboard" ∷ codes "1" ∷ [])
    ∷ (codes "cpus" ∷ decimal c ∷ [])
    ∷ (codes "counters" ∷ codes "16" ∷ [])
    ∷ (codes "calls" ∷ codes "2000000" ∷ [])
    ∷ []

-- the lines of the script of these three numbers, each as its words
abbrev pub workload_words : ℕ → ℕ → ℕ → List (List (List ℕ))
workload_words start n c = header_words c ++ (map actor_words (workload start n c).lines ++ (codes "end" ∷ []) ∷ [])

-- its text: the words of a line with one space between them, and a line feed behind each line
unfoldable pub workload_text : ℕ → ℕ → ℕ → List ℕ
workload_text start n c = with_feeds (map joined (workload_words start n c))

-- lines, each with its line feed
unfoldable pub lines_text : List ActorLine → List ℕ
lines_text lines = with_feeds (map joined (map actor_words lines))
