-- Entries of one caller among those of all, and entries behind others.
use Rattle.std.proofs.Common.{◌≡◌, Bool, true, false, cond, List, [], ◌∷◌, ◌++◌, append_assoc, map, filter, if◌then◌else◌, refl, sym, ap, ◌∙◌, subst}
use Rattle.std.proofs.lemmas.List.{append-nil, map-append}
use Rattle.std.proofs.lemmas.List.Elements.{filter-append}
use Rattle.irq_base.specs.declared.call.Caller.{Caller}
use Rattle.irq_base.specs.declared.lists.Entry.{Entry}
use Rattle.script_text.specs.Asks.{same_caller}
use Rattle.script_text.specs.Scripts.{Script}
use Rattle.script_merging.specs.Merging.{replies_of, IsAsked, Merges}
use Rattle.script_merging.proofs.Callers.{same_callers}

-- ---- replies

pub no_replies : (who : Caller) → replies_of who [] ≡ []
unfolding replies_of
no_replies who = refl

replies_append : (who : Caller) (es fs : List Entry) → replies_of who (es ++ fs) ≡ replies_of who es ++ replies_of who fs
unfolding replies_of
replies_append who es fs =
    ap (map (λ e. e.reply)) (filter-append (λ e. same_caller e.caller who) es fs)
    ∙ map-append (λ e. e.reply) (filter (λ e. same_caller e.caller who) es) (filter (λ e. same_caller e.caller who) fs)

reply_of_one : (who : Caller) (e : Entry) → replies_of who (e ∷ []) ≡ (if same_caller e.caller who then e.reply ∷ [] else [])
unfolding replies_of
reply_of_one who e = by (same_caller e.caller who)
  where
    by : (t : Bool) → map (λ e. e.reply) (cond t (e ∷ []) []) ≡ (if t then e.reply ∷ [] else [])
    by true = refl
    by false = refl

-- an entry of the caller, and one of another
pub own_reply : (who : Caller) (before : List Entry) (e : Entry) → e.caller ≡ who → replies_of who (before ++ e ∷ []) ≡ replies_of who before ++ e.reply ∷ []
own_reply who before e is =
    replies_append who before (e ∷ [])
    ∙ ap (λ rs. replies_of who before ++ rs) (reply_of_one who e ∙ ap (λ (t : Bool). if t then e.reply ∷ [] else []) (same_callers e.caller who is))

pub others_reply : (who : Caller) (before : List Entry) (e : Entry) → same_caller e.caller who ≡ false → replies_of who (before ++ e ∷ []) ≡ replies_of who before
others_reply who before e is =
    replies_append who before (e ∷ [])
    ∙ ap (λ rs. replies_of who before ++ rs) (reply_of_one who e ∙ ap (λ (t : Bool). if t then e.reply ∷ [] else []) is)
    ∙ append-nil (replies_of who before)

-- ---- entries behind others

pub merges_append : (s : Script) (before xs ys : List Entry) → Merges s before xs → Merges s (before ++ xs) ys → Merges s before (xs ++ ys)
merges_append s before [] ys first second = subst (λ es. Merges s es ys) (append-nil before) second
merges_append s before (x ∷ xs) ys (asks, more) second =
    (asks, merges_append s (before ++ x ∷ []) xs ys more (subst (λ es. Merges s es ys) (sym (append_assoc before (x ∷ []) xs)) second))

pub merges_more : (s : Script) (before es : List Entry) (e : Entry) → Merges s before es → IsAsked s (before ++ es) e → Merges s before (es ++ e ∷ [])
merges_more s before es e first asked = merges_append s before es (e ∷ []) first (asked, tt)
