-- Lines of a transcript one after another.
use Rattle.std.proofs.Common.{◌≡◌, ℕ, ◌+◌, List, [], ◌∷◌, ◌++◌, Some, drop, drop-cons, ap, sym, ◌∙◌, append_assoc, add-one}
use Rattle.std.specs.List.{slice_get}
use Rattle.std.proofs.lemmas.Option.{slice_get_within, get_or_from_slice_get}
use Rattle.irq_base.specs.declared.event.Event.{Event}
use Rattle.irq_base.specs.declared.lists.Entry.{Entry}
use Rattle.transcript.specs.Text.{event_line, events_text, entry_text, entries_text}

drop-at : {A : Type 0} (xs : List A) (k : ℕ) (x : A) → slice_get xs k ≡ Some x → drop k xs ≡ x ∷ drop (k + 1) xs
drop-at xs k x h =
    drop-cons xs k x (slice_get_within xs k x h) ∙ (λ i. get_or_from_slice_get xs k x x h i ∷ drop ((sym (add-one k)) i) xs)

pub events_text-step : (text : List ℕ) (es : List Event) (k : ℕ) (e : Event) → slice_get es k ≡ Some e →
    ((text ++ event_line e) ++ 10 ∷ []) ++ events_text (drop (k + 1) es) ≡ text ++ events_text (drop k es)
events_text-step text es k e h =
    append_assoc (text ++ event_line e) (10 ∷ []) (events_text (drop (k + 1) es))
    ∙ append_assoc text (event_line e) (10 ∷ events_text (drop (k + 1) es))
    ∙ ap (λ r. text ++ events_text r) (sym (drop-at es k e h))

pub ruleset event_rules = (events_text-step)

pub entries_text-step : (text : List ℕ) (es : List Entry) (k : ℕ) (e : Entry) → slice_get es k ≡ Some e →
    (text ++ entry_text k e) ++ entries_text (k + 1) (drop (k + 1) es) ≡ text ++ entries_text k (drop k es)
entries_text-step text es k e h =
    append_assoc text (entry_text k e) (entries_text (k + 1) (drop (k + 1) es)) ∙ ap (λ r. text ++ entries_text k r) (sym (drop-at es k e h))

pub ruleset entry_rules = (entries_text-step)
