-- What a history counts: its entries, and those with a reply of each of seven kinds (this board's own rule).
use Rattle.std.specs.Prelude.{ℕ, Bool, true, false, List, [], ◌∷◌, ◌++◌, length, count_by, codes}
use Rattle.std.specs.Fmt.{decimal}
use Rattle.irq_base.specs.declared.lists.Entry.{Entry}
use Rattle.irq_base.specs.declared.reply.Reply.{Reply}
use Rattle.irq_base.specs.declared.reply.Reply.TheVariants as replies
use Rattle.irq_base.specs.declared.status.Status.TheVariants as statuses
use Rattle.workload_sum.specs.declared.kind.Kind.{Kind}
use Rattle.workload_sum.specs.declared.kind.Kind.TheVariants.{Delivered, Coalesced, Ignored, Vectors, Ended, Taken, Refused}

-- whether a reply is of a kind: a signal with that status, a vector, an end of interrupt, a count, a refusal
abbrev pub is_of : Kind → Reply → Bool
is_of Delivered (replies.Signal (statuses.Delivered new stood pic)) = true
is_of Coalesced (replies.Signal (statuses.Coalesced stood)) = true
is_of Ignored (replies.Signal (statuses.Ignored cause)) = true
is_of Vectors (replies.Vector vector) = true
is_of Ended (replies.Ended vector) = true
is_of Taken (replies.Count n) = true
is_of Refused (replies.Refused refusal) = true
is_of _ _ = false

-- how many entries have a reply of that kind
abbrev pub counted : Kind → List Entry → ℕ
counted kind history = count_by (λ e. is_of kind e.reply) history

-- a word, a space, a number, and a line feed
abbrev pub count_line : List ℕ → ℕ → List ℕ
count_line word n = word ++ (32 ∷ (decimal n ++ (10 ∷ [])))

-- the eight lines of a history
unfoldable pub summary_text : List Entry → List ℕ
summary_text history =
    count_line (codes "calls") (length history)
    ++ (count_line (codes "delivered") (counted Delivered history)
    ++ (count_line (codes "coalesced") (counted Coalesced history)
    ++ (count_line (codes "ignored") (counted Ignored history)
    ++ (count_line (codes "vectors") (counted Vectors history)
    ++ (count_line (codes "ended") (counted Ended history)
    ++ (count_line (codes "taken") (counted Taken history)
    ++ count_line (codes "refused") (counted Refused history)))))))
