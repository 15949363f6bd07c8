-- A caller that asks in turn, among the entries of all.
use Rattle.std.proofs.Common.{◌≡◌, false, List, [], ◌∷◌, ◌++◌, append_assoc, sym, ap, ◌∙◌}
use Rattle.std.proofs.lemmas.List.{append-nil}
use Rattle.std.proofs.lemmas.List.Sums.{fold-append}
use Rattle.irq_base.specs.declared.call.Caller.{Caller}
use Rattle.irq_base.specs.declared.lists.Entry.{Entry}
use Rattle.script_text.specs.Asks.{Asks, same_caller, next_call, answered, unrolled, tasks_of, asks_after}
use Rattle.script_text.specs.Scripts.{Script}
use Rattle.script_merging.specs.Merging.{replies_of, IsAsked, Merges}
use Rattle.script_merging.proofs.Merged.{own_reply, others_reply}
use Rattle.replaying.specs.FileOrder.{AsksInTurn}

module _ (s : Script) where
  -- what a caller still asks after these entries
  abbrev pub after : Caller → List Entry → Asks
  after who entries = asks_after who s.lines (replies_of who entries)

  one_later : (who : Caller) (before : List Entry) (e : Entry) → e.caller ≡ who → after who (before ++ e ∷ []) ≡ answered (after who before) e.reply
  one_later who before e is =
      ap (asks_after who s.lines) (own_reply who before e is) ∙ fold-append answered (unrolled (tasks_of who s.lines)) (replies_of who before) (e.reply ∷ [])

  -- a caller that asks in turn merges with what is there, and then asks what is left
  pub in_turn : (who : Caller) (asks left : Asks) (before es : List Entry) → after who before ≡ asks → AsksInTurn who asks es left
      → Merges s before es × (after who (before ++ es) ≡ left)
  in_turn who asks left before [] is over = (tt, ap (after who) (append-nil before) ∙ is ∙ over)
  in_turn who asks left before (e ∷ es) is (mine, next, more) =
      let asked : IsAsked s before e = ap (λ w. next_call (after w before)) mine ∙ ap next_call is ∙ next in
      let later = in_turn who (answered asks e.reply) left (before ++ e ∷ []) es (one_later who before e mine ∙ ap (λ a. answered a e.reply) is) more in
      ((asked, later.0), ap (after who) (sym (append_assoc before (e ∷ []) es)) ∙ later.1)

  -- what others ask stays
  pub others_stay : (who other : Caller) (asks left : Asks) (before es : List Entry) → same_caller who other ≡ false → AsksInTurn who asks es left
      → after other (before ++ es) ≡ after other before
  others_stay who other asks left before [] apart over = ap (after other) (append-nil before)
  others_stay who other asks left before (e ∷ es) apart (mine, next, more) =
      ap (after other) (sym (append_assoc before (e ∷ []) es))
      ∙ others_stay who other (answered asks e.reply) left (before ++ e ∷ []) es apart more
      ∙ ap (asks_after other s.lines) (others_reply other before e (ap (λ w. same_caller w other) mine ∙ apart))
