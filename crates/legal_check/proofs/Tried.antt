-- Entries without a flaw, one after another, and verdicts.
use Rattle.std.proofs.Common.{◌≡◌, ℕ, zero, suc, ◌≤◌, Bool, true, false, List, [], ◌∷◌, ◌++◌, length, take, slice_get, refl, ap, sym, ◌∙◌, subst, Some, arith}
use Rattle.std.proofs.Math.Seq.{take-append_seam}
use Rattle.irq_base.specs.declared.lists.Entry.{Entry}
use Rattle.irq_base.specs.declared.shape.Shape.{Shape}
use Rattle.board_model.specs.Board.{Board}
use Rattle.board_step.specs.History.{opening}
use Rattle.board_step.specs.Publications.{StepsKeepTheFrame}
use Rattle.script_text.specs.declared.progress.Progress.{Progress}
use Rattle.script_text.specs.Scripts.{Script}
use Rattle.transcript.specs.declared.transcript.Transcript.{Transcript}
use Rattle.legal_check.specs.declared.verdict.Flaw.{Flaw}
use Rattle.legal_check.specs.declared.verdict.Flaw.TheVariants.{Asked, Reply, Ending}
use Rattle.script_histories.specs.Merging.{Stand, EndsWell, Fits}
use Rattle.script_merging.proofs.Merged.{merges_more}
use Rattle.script_histories.proofs.Leading.{leads_more}
use Rattle.legal_check.specs.Verdicts.{HasFlaw, FlawAt}
use Rattle.legal_check.specs.Standing.{HaveFollowed, GoesOn}

-- entries without a flaw led to this board, and the actors followed them
pub record Running (s : Script) (entries : List Entry) (b : Board) (ps : List Progress) : Type 0 where
  pub stand : Stand s entries b
  pub followed : HaveFollowed s entries ps
  pub shape : b.shape ≡ s.shape

pub begins : (s : Script) (shape : Shape) (b : Board) (ps : List Progress) → shape ≡ s.shape → b ≡ opening shape → HaveFollowed s [] ps → Running s [] b ps
begins s shape b ps same is followed = record {
  stand = record { merge = tt; legal = sym (is ∙ ap opening same) };
  followed = followed;
  shape = ap (λ (c : Board). c.shape) is ∙ same;
}

pub goes : StepsKeepTheFrame → (s : Script) (entries now : List Entry) (b c : Board) (ps qs : List Progress) (e : Entry) → now ≡ entries ++ e ∷ [] →
    Running s entries b ps → GoesOn s entries b e c qs → Running s now c qs
goes frame s entries now b c ps qs e is run on = subst (λ (es : List Entry). Running s es c qs) (sym is) (record {
  stand = record { merge = merges_more s [] entries e run.stand.merge on.asked; legal = leads_more (opening s.shape) entries e b c run.stand.legal on.step };
  followed = on.followed;
  shape = (frame b e c on.step).shape ∙ run.shape;
})

pub flawed : (s : Script) (run : Transcript) (place : ℕ) (b : Board) (ps : List Progress) (e : Entry) (flaw : Flaw) → slice_get run.history place ≡ Some e →
    Running s (take place run.history) b ps → HasFlaw s (take place run.history) b e flaw → FlawAt s run place flaw
flawed s run place b ps e Asked there now has = record { board = b; before = now.stand; has = record { entry = e; there = there; has = has } }
flawed s run place b ps e Reply there now has = record { board = b; before = now.stand; has = record { entry = e; there = there; has = has } }
flawed s run place b ps e Ending there now has = absurd has

pub whole : {A : Type 0} (xs : List A) (n : ℕ) → length xs ≤ n → take n xs ≡ xs
whole [] zero over = refl
whole [] (suc n) over = refl
whole (x ∷ xs) zero over = absurd (omega (arith, over))
whole (x ∷ xs) (suc n) over = ap (λ (ys : List _). x ∷ ys) (whole xs n (omega (arith, over)))

pub fits : (s : Script) (run : Transcript) (n : ℕ) (b : Board) (ps : List Progress) → length run.history ≤ n → Running s (take n run.history) b ps →
    EndsWell s (take n run.history) b run.spent → Fits s run
fits s run n b ps over now ends = record {
  board = b;
  stand = subst (λ (es : List Entry). Stand s es b) (whole run.history n over) now.stand;
  ends = subst (λ (es : List Entry). EndsWell s es b run.spent) (whole run.history n over) ends;
}

pub ends-badly : (s : Script) (run : Transcript) (m n : ℕ) (b : Board) (ps : List Progress) → m ≡ length run.history → length run.history ≤ n →
    Running s (take n run.history) b ps → (EndsWell s (take n run.history) b run.spent → ⊥) → FlawAt s run m Ending
ends-badly s run m n b ps all over now bad = record {
  board = b;
  before = subst (λ (es : List Entry). Stand s es b) (whole run.history n over ∙ sym (whole run.history m (omega (arith, all)))) now.stand;
  has = record { last = all; wrong = λ ends. bad (subst (λ (es : List Entry). EndsWell s es b run.spent) (sym (whole run.history n over)) ends) };
}

-- what is written back through a slice of the whole
pub written_back : {A : Type 0} (n : ℕ) (new rest : List A) → n ≡ length new → take n (new ++ rest) ≡ new
written_back n new rest is = ap (λ k. take k (new ++ rest)) is ∙ take-append_seam new rest

pub true-false : (t : Bool) → t ≡ true → t ≡ false → ⊥
true-false t is other = wrong (sym is ∙ other)
  where
    wrong : true ≡ false → ⊥
    wrong e = cc
