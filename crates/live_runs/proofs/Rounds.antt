-- A note that goes along the passes twice.
use Rattle.std.proofs.Common.{◌≡◌, false, List, [], ◌∷◌, ◌++◌, append_assoc, length, All, Some, None, refl, sym, ap, ◌∙◌, subst, arith}
use Rattle.std.proofs.lemmas.List.{append-nil}
use Rattle.std.proofs.lemmas.List.Elements.{All-nil, All-cons, filter-append}
use Rattle.irq_base.specs.declared.call.Caller.{Caller}
use Rattle.irq_base.specs.declared.lists.Entry.{Entry}
use Rattle.irq_base.specs.declared.shape.Shape.{Shape}
use Rattle.board_step.specs.History.{opening}
use Rattle.std.specs.declared.option.Option.{Option}
use Rattle.turn_book.specs.Histories.{IsPrefix}
use Rattle.turn_book.proofs.Lists.{prefix-nil, prefix-trans, prefix-length, prefix-whole}
use Rattle.part_slots.specs.Callers.{is_caller}
use Rattle.part_board.specs.Closing.{IsPassedOn}
use Rattle.part_board.specs.declared.desk.Desk.{Desk}
use Rattle.part_board.specs.declared.note.Note.{Note}
use Rattle.part_board.specs.declared.pass.Pass.{Pass}
use Rattle.part_board.specs.Seen.{pass_seen, note_seen, desk_seen, has_made, entries_by, Learnt}
use Rattle.live_runs.specs.Made.{callers_of, HasLearnt}
use Rattle.live_runs.specs.Telling.{told_by, GoesAlong, AllKnow}

-- ---- entries of one caller, in lists of which one begins with another

prefix_by : (c : Caller) (xs ys : List Entry) → IsPrefix xs ys → IsPrefix (entries_by c xs) (entries_by c ys)
prefix_by c xs ys (rest, is) = (entries_by c rest, sym (filter-append (λ (e : Entry). is_caller e.caller c) xs rest) ∙ ap (entries_by c) is)

-- between two lists with the same entries of a caller there are just these
between : (c : Caller) (xs ys zs : List Entry) → IsPrefix xs ys → IsPrefix ys zs → entries_by c zs ≡ entries_by c xs → entries_by c ys ≡ entries_by c xs
between c xs ys zs first second same =
    sym (prefix-whole (entries_by c xs) (entries_by c ys) (prefix_by c xs ys first)
    (let many = ap length same in let le = prefix-length (entries_by c ys) (entries_by c zs) (prefix_by c ys zs second) in omega (arith, many, le)))

none_before : (c : Caller) (xs ys : List Entry) → IsPrefix xs ys → entries_by c ys ≡ [] → entries_by c xs ≡ []
none_before c xs ys first none = between c [] xs ys (xs, refl) first none

-- what a note told the desk has no entry of a caller whose pass the desk has not made
pub none_told : (o : Option Note) (note : Note) (desk : Desk) → o ≡ Some note → IsPrefix (note_seen note) (desk_seen desk) → ((c : Caller) → has_made desk c ≡ false → entries_by c (desk_seen desk) ≡ [])
    → (c : Caller) → has_made desk c ≡ false → entries_by c (told_by o) ≡ []
none_told o note desk is begins others c never = ap (λ p. entries_by c (told_by p)) is ∙ none_before c (note_seen note) (desk_seen desk) begins (others c never)

pub nothing_told : (o : Option Note) → o ≡ None → (c : Caller) → entries_by c (told_by o) ≡ []
nothing_told o is c = ap (λ p. entries_by c (told_by p)) is

-- ---- along the passes

-- a note that goes along one more pass goes along all
pub goes_on : (shape : Shape) (start : List Entry) (first after : List Entry) (all told : List Pass) (pass seen : Pass) (left rest more : List Pass) (last : List Entry)
    → ((qs : List Pass) → GoesAlong shape first left qs last → GoesAlong shape start all (told ++ qs) last)
    → left ≡ pass ∷ rest → seen.caller ≡ pass.caller → Learnt shape pass.caller (pass_seen pass) (pass_seen seen) → IsPrefix first (pass_seen seen) → after ≡ pass_seen seen
    → GoesAlong shape after rest more last → GoesAlong shape start all ((told ++ seen ∷ []) ++ more) last
goes_on shape start first after all told pass seen left rest more last step is caller learnt begins copy along =
    subst (λ l. GoesAlong shape start all l last) (sym (append_assoc told (seen ∷ []) more))
    (step (seen ∷ more) (subst (λ l. GoesAlong shape first l (seen ∷ more) last) (sym is) (caller, learnt, begins, subst (λ k. GoesAlong shape k rest more last) copy along)))

-- two looks, of which the second teaches no less
pub learnt_twice : (shape : Shape) (c d : Caller) (xs ys zs : List Entry) → d ≡ c → Learnt shape c xs ys → Learnt shape d ys zs → Learnt shape c xs zs
learnt_twice shape c d xs ys zs is one two = record {
  seen = prefix-trans xs ys zs one.seen two.seen;
  legal = two.legal;
  own = ap (λ e. entries_by e zs) (sym is) ∙ two.own ∙ ap (λ e. entries_by e ys) is ∙ one.own;
}

pub to_last : (shape : Shape) (first : List Entry) (ps qs : List Pass) (last : List Entry) → GoesAlong shape first ps qs last → IsPrefix first last
to_last shape first [] [] last is = ([], append-nil first ∙ sym is)
to_last shape first (p ∷ ps) (q ∷ qs) last (caller, learnt, learns, more) = prefix-trans first (pass_seen q) last learns (to_last shape (pass_seen q) ps qs last more)
to_last shape first [] (q ∷ qs) last along = absurd along
to_last shape first (p ∷ ps) [] last along = absurd along

one_knows : (shape : Shape) (list : List Entry) (p q r : Pass) → q.caller ≡ p.caller → r.caller ≡ q.caller → Learnt shape p.caller (pass_seen p) (pass_seen q) → Learnt shape q.caller (pass_seen q) (pass_seen r)
    → IsPrefix (pass_seen q) list → IsPrefix list (pass_seen r) → IsPassedOn list p × HasLearnt list r
one_knows shape list p q r one two first second before after = (
  record { seen = begins; own = own; whole = λ many. prefix-whole (pass_seen p) list begins (omega (arith, many)) },
  record { seen = after; own = ap (λ c. entries_by c (pass_seen r)) (two ∙ one) ∙ all ∙ sym own ∙ ap (λ c. entries_by c list) (sym (two ∙ one)) },
)
  where
    begins : IsPrefix (pass_seen p) list
    begins = prefix-trans (pass_seen p) (pass_seen q) list first.seen before

    all : entries_by p.caller (pass_seen r) ≡ entries_by p.caller (pass_seen p)
    all = ap (λ c. entries_by c (pass_seen r)) (sym one) ∙ second.own ∙ ap (λ c. entries_by c (pass_seen q)) one ∙ first.own

    own : entries_by p.caller list ≡ entries_by p.caller (pass_seen p)
    own = between p.caller (pass_seen p) list (pass_seen r) begins after all

abbrev Know : List Entry → List Pass → List Pass → Type 0
Know list ps rs = All (IsPassedOn list) ps × All (HasLearnt list) rs × (callers_of rs ≡ callers_of ps)

know_more : (list : List Entry) (p r : Pass) (ps rs : List Pass) → IsPassedOn list p × HasLearnt list r → r.caller ≡ p.caller → Know list ps rs → Know list (p ∷ ps) (r ∷ rs)
know_more list p r ps rs (on, learnt) caller (each, more, callers) =
    (All-cons (IsPassedOn list) p ps on each, All-cons (HasLearnt list) r rs learnt more, (λ i. caller i ∷ callers i))

-- a list that stands between the first round and the second
rest_know : (shape : Shape) (list first mid next last : List Entry) (ps qs rs : List Pass) → GoesAlong shape first ps qs mid → GoesAlong shape next qs rs last
    → IsPrefix mid list → IsPrefix list next → Know list ps rs
rest_know shape list first mid next last [] [] [] one two before after = (All-nil (IsPassedOn list), All-nil (HasLearnt list), refl)
rest_know shape list first mid next last (p ∷ ps) (q ∷ qs) (r ∷ rs) (caller, learnt, learns, more) (caller2, learnt2, learns2, more2) before after =
    know_more list p r ps rs
    (one_knows shape list p q r caller caller2 learnt learnt2
    (prefix-trans (pass_seen q) mid list (to_last shape (pass_seen q) ps qs mid more) before)
    (prefix-trans list next (pass_seen r) after learns2))
    (caller2 ∙ caller)
    (rest_know shape list (pass_seen q) mid (pass_seen r) last ps qs rs more more2 before (prefix-trans list next (pass_seen r) after learns2))
rest_know shape list first mid next last [] [] (r ∷ rs) one two before after = absurd two
rest_know shape list first mid next last [] (q ∷ qs) rs one two before after = absurd one
rest_know shape list first mid next last (p ∷ ps) [] rs one two before after = absurd one
rest_know shape list first mid next last (p ∷ ps) (q ∷ qs) [] one two before after = absurd two

-- ---- two rounds

-- what the second round leaves, where the desk has no entry of others in what it has seen or nothing was told
pub all_know : (shape : Shape) (desk : Desk) (mid last : List Entry) (ps qs rs : List Pass) → GoesAlong shape [] ps qs mid → GoesAlong shape mid qs rs last
    → ((c : Caller) → has_made desk c ≡ false → entries_by c last ≡ []) → AllKnow shape desk ps rs
all_know shape desk mid last [] [] [] one two others = record {
  callers = refl;
  legal = (opening shape, refl);
  each = All-nil (IsPassedOn []);
  learnt = All-nil (HasLearnt []);
  others = λ c never. refl;
}
all_know shape desk mid last (p ∷ ps) (q ∷ qs) (r ∷ rs) (caller, learnt, learns, more) (caller2, learnt2, learns2, more2) others = record {
  callers = all.2;
  legal = learnt2.legal;
  each = all.0;
  learnt = all.1;
  others = λ c never. none_before c (pass_seen r) last (to_last shape (pass_seen r) qs rs last more2) (others c never);
}
  where
    all : Know (pass_seen r) (p ∷ ps) (r ∷ rs)
    all = know_more (pass_seen r) p r ps rs
        (one_knows shape (pass_seen r) p q r caller caller2 learnt learnt2
        (prefix-trans (pass_seen q) mid (pass_seen r) (to_last shape (pass_seen q) ps qs mid more) learns2)
        (prefix-nil (pass_seen r)))
        (caller2 ∙ caller)
        (rest_know shape (pass_seen r) (pass_seen q) mid (pass_seen r) last ps qs rs more more2 learns2 (prefix-nil (pass_seen r)))
all_know shape desk mid last [] [] (r ∷ rs) one two others = absurd two
all_know shape desk mid last [] (q ∷ qs) rs one two others = absurd one
all_know shape desk mid last (p ∷ ps) [] rs one two others = absurd one
all_know shape desk mid last (p ∷ ps) (q ∷ qs) [] one two others = absurd two
