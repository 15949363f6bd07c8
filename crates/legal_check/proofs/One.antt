-- A transcript has one verdict: before a flaw, and in a legal run, no entry has a flaw.
use Rattle.std.proofs.Common.{◌≡◌, ℕ, zero, suc, ◌<◌, ◌≤◌, Bool, true, false, nat_lt, List, [], ◌∷◌, ◌++◌, length, take, slice_get, refl, sym, ◌∙◌, subst, append_assoc, ltb-true, ltb-false, Some, None, arith}
use Rattle.std.proofs.lemmas.List.{append-nil}
use Rattle.std.proofs.lemmas.Option.{slice_get_within}
use Rattle.irq_base.specs.declared.lists.Entry.{Entry}
use Rattle.board_model.specs.Board.{Board}
use Rattle.board_step.specs.Step.{Step}
use Rattle.board_step.specs.Applied.{LeadsOn}
use Rattle.board_step.specs.History.{opening, Leads}
use Rattle.board_step.proofs.Steps.{leads_to_one}
use Rattle.board_step.proofs.Following.{board_after_is_reached}
use Rattle.script_text.specs.Scripts.{Script}
use Rattle.transcript.specs.declared.transcript.Transcript.{Transcript}
use Rattle.legal_check.specs.declared.verdict.Flaw.{Flaw}
use Rattle.legal_check.specs.declared.verdict.Flaw.TheVariants.{Asked, Reply, Ending}
use Rattle.legal_check.specs.declared.verdict.Verdict.TheVariants.{Legal, NotAt}
use Rattle.script_merging.specs.Merging.{IsAsked, Merges}
use Rattle.script_histories.specs.Merging.{Stand, EndsWell, Fits}
use Rattle.legal_check.specs.Verdicts.{FlawAt, HasOneVerdict}
use Rattle.legal_check.proofs.Tried.{whole}

inner : {A : Type 0} (x y : A) → Some x ≡ Some y → x ≡ y
inner x y h = cc

nothing-there : {A : Type 0} {x : A} → None ≡ Some x → ⊥
nothing-there h = cc

-- each entry before a place is what its caller asks
asked-at : (s : Script) (before h : List Entry) (q p : ℕ) (e : Entry) → p < q → slice_get h p ≡ Some e → Merges s before (take q h) →
    IsAsked s (before ++ take p h) e
asked-at s before [] q p e below there h = absurd (nothing-there there)
asked-at s before (x ∷ xs) zero p e below there h = absurd (omega (arith, below))
asked-at s before (x ∷ xs) (suc q) zero e below there h =
    subst (λ (d : Entry). IsAsked s (before ++ []) d) (inner x e there) (subst (λ (ds : List Entry). IsAsked s ds x) (sym (append-nil before)) h.0)
asked-at s before (x ∷ xs) (suc q) (suc p) e below there h =
    subst (λ (ds : List Entry). IsAsked s ds e) (append_assoc before (x ∷ []) (take p xs))
    (asked-at s (before ++ x ∷ []) xs q p e (omega (arith, below)) there h.1)

-- and it is a step from the board before it
step-at : (b : Board) (h : List Entry) (q p : ℕ) (e : Entry) (d : Board) → p < q → slice_get h p ≡ Some e → Leads b (take q h) d →
    (c : Board) → Leads b (take p h) c → LeadsOn c e
step-at b [] q p e d below there leads c to = absurd (nothing-there there)
step-at b (x ∷ xs) zero p e d below there leads c to = absurd (omega (arith, below))
step-at b (x ∷ xs) (suc q) zero e d below there (next, step, rest) c to =
    (next, subst (λ (y : Board). Step y e next) to (subst (λ (f : Entry). Step b f next) (inner x e there) step))
step-at b (x ∷ xs) (suc q) (suc p) e d below there (next, step, rest) c (later, first, more) =
    step-at later xs q p e d (omega (arith, below)) there (subst (λ (n : Board). Leads n (take q xs) d) (leads_to_one b x next later step first) rest) c more

no-flaw-before : (s : Script) (run : Transcript) (p q : ℕ) (f : Flaw) (b : Board) → p < q → q ≤ length run.history → Stand s (take q run.history) b →
    FlawAt s run p f → ⊥
no-flaw-before s run p q Asked b below within stand at =
    at.has.has (asked-at s [] run.history q p at.has.entry below at.has.there stand.merge)
no-flaw-before s run p q Reply b below within stand at =
    at.has.has.1 (step-at (opening s.shape) run.history q p at.has.entry b below at.has.there stand.legal at.board at.before.legal)
no-flaw-before s run p q Ending b below within stand at = let last = at.has.last in absurd (omega (arith, below, within, last))

place-within : (s : Script) (run : Transcript) (p : ℕ) (f : Flaw) → FlawAt s run p f → p ≤ length run.history
place-within s run p Asked at = let below = slice_get_within run.history p at.has.entry at.has.there in omega (arith, below)
place-within s run p Reply at = let below = slice_get_within run.history p at.has.entry at.has.there in omega (arith, below)
place-within s run p Ending at = let last = at.has.last in omega (arith, last)

not-both : (s : Script) (run : Transcript) (p : ℕ) → FlawAt s run p Asked → FlawAt s run p Reply → ⊥
not-both s run p at by =
    let same = inner by.has.entry at.has.entry (sym by.has.there ∙ at.has.there) in
    at.has.has (subst (λ (e : Entry). IsAsked s (take p run.history) e) same by.has.has.0)

not-past : (h : List Entry) (p : ℕ) (e : Entry) → slice_get h p ≡ Some e → p ≡ length h → ⊥
not-past h p e there last = let below = slice_get_within h p e there in omega (arith, below, last)

one-flaw : (s : Script) (run : Transcript) (p : ℕ) (f g : Flaw) → FlawAt s run p f → FlawAt s run p g → f ≡ g
one-flaw s run p Asked Asked at by = refl
one-flaw s run p Asked Reply at by = absurd (not-both s run p at by)
one-flaw s run p Asked Ending at by = absurd (not-past run.history p at.has.entry at.has.there by.has.last)
one-flaw s run p Reply Asked at by = absurd (not-both s run p by at)
one-flaw s run p Reply Reply at by = refl
one-flaw s run p Reply Ending at by = absurd (not-past run.history p at.has.entry at.has.there by.has.last)
one-flaw s run p Ending Asked at by = absurd (not-past run.history p by.has.entry by.has.there at.has.last)
one-flaw s run p Ending Reply at by = absurd (not-past run.history p by.has.entry by.has.there at.has.last)
one-flaw s run p Ending Ending at by = refl

legal-has-none : (s : Script) (run : Transcript) (p : ℕ) (f : Flaw) → Fits s run → FlawAt s run p f → ⊥
legal-has-none s run p f fits at = go f at
  where
    all : take (length run.history) run.history ≡ run.history
    all = whole run.history (length run.history) (omega arith)

    stand : Stand s (take (length run.history) run.history) fits.board
    stand = subst (λ (es : List Entry). Stand s es fits.board) (sym all) fits.stand

    go : (f : Flaw) → FlawAt s run p f → ⊥
    go Asked at = no-flaw-before s run p (length run.history) Asked fits.board (slice_get_within run.history p at.has.entry at.has.there) (omega arith) stand at
    go Reply at = no-flaw-before s run p (length run.history) Reply fits.board (slice_get_within run.history p at.has.entry at.has.there) (omega arith) stand at
    go Ending at =
        let over : length run.history ≤ p = (let last = at.has.last in omega (arith, last)) in
        let there : Leads (opening s.shape) run.history at.board =
        subst (λ (es : List Entry). Leads (opening s.shape) es at.board) (whole run.history p over) at.before.legal in
        let same : fits.board ≡ at.board =
        sym (board_after_is_reached (opening s.shape) run.history fits.board fits.stand.legal) ∙ board_after_is_reached (opening s.shape) run.history at.board there in
        at.has.wrong (subst (λ (b : Board). EndsWell s run.history b run.spent) same fits.ends)

pub one-verdict : HasOneVerdict
one-verdict s run Legal Legal v w = refl
one-verdict s run Legal (NotAt q g) v w = absurd (legal-has-none s run q g v w)
one-verdict s run (NotAt p f) Legal v w = absurd (legal-has-none s run p f w v)
one-verdict s run (NotAt p f) (NotAt q g) v w = by (nat_lt p q) refl (nat_lt q p) refl
  where
    by : (t : Bool) → nat_lt p q ≡ t → (u : Bool) → nat_lt q p ≡ u → NotAt p f ≡ NotAt q g
    by true below u h = absurd (no-flaw-before s run p q f w.board (ltb-true p q below) (place-within s run q g w) w.before v)
    by false h true below = absurd (no-flaw-before s run q p g v.board (ltb-true q p below) (place-within s run p f v) v.before w)
    by false h false k =
        let less = ltb-false p q h in
        let more = ltb-false q p k in
        let same : p ≡ q = omega (arith, less, more) in
        let flaws : f ≡ g = one-flaw s run p f g v (subst (λ (n : ℕ). FlawAt s run n g) (sym same) w) in
        λ i. NotAt (same i) (flaws i)
