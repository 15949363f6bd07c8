-- What actors leave, one after another.
use Rattle.std.proofs.Common.{◌≡◌, false, List, [], ◌∷◌, ◌++◌, append_assoc, map, All, Some, None, refl, sym, ◌∙◌, subst, arith}
use Rattle.std.proofs.lemmas.List.{append-nil}
use Rattle.std.proofs.lemmas.List.Elements.{All-cons}
use Rattle.std.specs.declared.option.Option.{Option}
use Rattle.irq_base.specs.declared.reply.Spent.{Spent}
use Rattle.actors.specs.Results.{first_of, first_in, entries_of_all, IsGathered}
use Rattle.actors.specs.declared.gathering.Results.{Results}
use Rattle.actors.specs.declared.kept.Placed.{Placed}
use Rattle.actors.specs.declared.playing.Played.{Played}

first_twice : (a b c : Option Spent) → first_of (first_of a b) c ≡ first_of a (first_of b c)
first_twice None b c = refl
first_twice (Some x) b c = refl

first_none : (a : Option Spent) → first_of a None ≡ a
first_none None = refl
first_none (Some x) = refl

module _ {F : Type 0} where
  abbrev IsKept : Played F → Type 0
  IsKept p = p.kept.lost ≡ false

  -- with what is left to gather, what was gathered makes all
  pub record Gathers (all rest : List (Played F)) (placed : List Placed) (faces : List F) (spent : Option Spent) : Type 0 where
    pub kept : All IsKept rest → All IsKept all
    pub placed_is : placed ++ entries_of_all rest ≡ entries_of_all all
    pub faces_are : faces ++ map (λ (p : Played F). p.face) rest ≡ map (λ (p : Played F). p.face) all
    pub spent_is : first_of spent (first_in (map (λ (p : Played F). p.spent) rest)) ≡ first_in (map (λ (p : Played F). p.spent) all)

  pub gathers_none : (all : List (Played F)) → Gathers all all [] [] None
  gathers_none all = record { kept = λ k. k; placed_is = refl; faces_are = refl; spent_is = refl }

  pub gathers_one : (all rest more : List (Played F)) (placed : List Placed) (faces : List F) (spent : Option Spent) (one : Played F)
      → Gathers all rest placed faces spent → rest ≡ one ∷ more → one.kept.lost ≡ false
      → Gathers all more (placed ++ one.kept.entries.items) (faces ++ one.face ∷ []) (first_of spent one.spent)
  gathers_one all rest more placed faces spent one g is kept = by (subst (λ r. Gathers all r placed faces spent) is g)
    where
      by : Gathers all (one ∷ more) placed faces spent → Gathers all more (placed ++ one.kept.entries.items) (faces ++ one.face ∷ []) (first_of spent one.spent)
      by h = record {
        kept = λ later. h.kept (All-cons IsKept one more kept later);
        placed_is = append_assoc placed one.kept.entries.items (entries_of_all more) ∙ h.placed_is;
        faces_are = append_assoc faces (one.face ∷ []) (map (λ (p : Played F). p.face) more) ∙ h.faces_are;
        spent_is = first_twice spent one.spent (first_in (map (λ (p : Played F). p.spent) more)) ∙ h.spent_is;
      }

  pub gathers_next : (all rest more : List (Played F)) (placed longer : List Placed) (faces others : List F) (spent later : Option Spent) (one : Played F)
      → Gathers all rest placed faces spent → rest ≡ one ∷ more → one.kept.lost ≡ false
      → longer ≡ placed ++ one.kept.entries.items → others ≡ faces ++ one.face ∷ [] → later ≡ first_of spent one.spent → Gathers all more longer others later
  gathers_next all rest more placed longer faces others spent later one g is kept a b c =
      subst (λ l. Gathers all more l others later) (sym a) (subst (λ l. Gathers all more (placed ++ one.kept.entries.items) l later) (sym b)
      (subst (λ o. Gathers all more (placed ++ one.kept.entries.items) (faces ++ one.face ∷ []) o) (sym c) (gathers_one all rest more placed faces spent one g is kept)))

  pub gathers_all : (all rest : List (Played F)) (got : Results F) → Gathers all rest got.placed.items got.faces.items got.spent → rest ≡ [] → IsGathered all got
  gathers_all all rest got g is = by (subst (λ r. Gathers all r got.placed.items got.faces.items got.spent) is g)
    where
      by : Gathers all [] got.placed.items got.faces.items got.spent → IsGathered all got
      by h = record {
        kept = h.kept (λ k d low. absurd (omega arith));
        placed = sym (append-nil got.placed.items) ∙ h.placed_is;
        faces = sym (append-nil got.faces.items) ∙ h.faces_are;
        spent = sym (first_none got.spent) ∙ h.spent_is;
      }
