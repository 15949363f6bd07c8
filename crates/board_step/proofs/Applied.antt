-- What a body left of all parts of a board in code is the next board, and it keeps what a board keeps.
use Rattle.board_step.proofs.Basics.{IfSome, Option, ◌≡◌, ℕ, ◌+◌, Bool, false, if◌then◌else◌, List, length, Some, None, option_map, refl, sym, ap, ◌∙◌, subst, Call, Caller, Event, Entry, Reply, Registry, BoardRig, part_in, all_parts, published, words_in, PinsFit, registry_of, parts_of, chips_of, CodeRegistry as RegistryPart, would_publish, Step, KeepsTheFrame, IsSound, IsTyped, IsOf, MayCall, entry_of, IsStepFrom, IsWhole, board_of, board_in, IsKept}
use Rattle.board_step.specs.declared.board.Board.TheInside.{Inside}
use Rattle.board_step.proofs.SoundSteps.{steps_keep_sound}
use Rattle.board_step.proofs.WordsStay.{words_stay}
use Rattle.board_step.proofs.Publishing.{steps_show_publications, steps_keep_the_frame}
use Rattle.board_step.proofs.WholeParts.{board_has_its_parts, parts_make_their_board, whole_parts_are_all}

-- the rig of a board has parts of it, and its words
pub kept_is_of : (a : Inside) → IsKept a → IsOf a.shape (words_in a.rig.words) (parts_of a.rig.parts) (board_in a)
kept_is_of a kept = record {
  one_shape = refl;
  sound = kept.sound.registry;
  publishes = sym kept.words;
  agrees = λ p v there. ap (λ q. part_in q p) (board_has_its_parts a.shape (parts_of a.rig.parts) a.length a.publications kept.whole) ∙ there;
}

-- the publications after a call that is one, or is none
abbrev pub published_by : Bool → ℕ → ℕ
published_by t n = if t then n + 1 else n

-- the board in code after a call
abbrev pub after_call : Inside → Call → BoardRig → Inside
after_call a call rig = record {
  shape = a.shape;
  rig = rig;
  length = a.length + 1;
  publications = published_by (would_publish (board_in a) call) a.publications;
}

module _ (a : Inside) (kept : IsKept a) (caller : Caller) (call : Call) (reply : Reply) (told : List Event) (rig : BoardRig)
    (from : IsStepFrom (board_in a) caller call (parts_of a.rig.parts) (parts_of rig.parts) reply told) (may : MayCall (board_in a) caller call)
    (places : length rig.parts.lapics ≡ a.shape.cpus) where
  abbrev entry : Entry
  entry = entry_of caller call reply told

  step : Step (board_in a) entry from.next
  step = from.step may

  frame : KeepsTheFrame (board_in a) entry from.next
  frame = steps_keep_the_frame (board_in a) entry from.next step

  whole : IsWhole a.shape (parts_of rig.parts)
  whole = record { places = places; each = λ p is. from.held p ∙ kept.whole.each p is }

  all : parts_of rig.parts ≡ all_parts from.next
  all = whole_parts_are_all (parts_of rig.parts) from.next from.agrees
      (frame.lapics ∙ kept.sound.lapics.places ∙ ap (λ s. s.cpus) (sym frame.shape))
      (subst (λ s. IsWhole s (parts_of rig.parts)) (sym frame.shape) whole)

  publications : published_by (would_publish (board_in a) call) a.publications ≡ from.next.publications
  publications = ap (λ t. published_by t a.publications) (steps_show_publications (board_in a) entry from.next step) ∙ sym frame.publications

  -- the fields are those of the next board
  pub applied_is : board_in (after_call a call rig) ≡ from.next
  applied_is = (λ i. board_of (sym frame.shape i) (all i) (sym frame.length i) (publications i)) ∙ parts_make_their_board from.next

  -- and the board in code makes a step
  pub applied_steps : Step (board_in a) entry (board_in (after_call a call rig))
  applied_steps = subst (Step (board_in a) entry) (sym applied_is) step

  -- a call that is no publication leaves the words
  pub words_left : would_publish (board_in a) call ≡ false → words_in rig.words ≡ words_in a.rig.words → words_in rig.words ≡ published from.next.registry from.next.shape.tick
  words_left never same = same ∙ kept.words ∙ sym (words_stay (board_in a) entry from.next step never)

  -- words that were published anew are those of the registry
  pub words_anew : IfSome rig.parts.registry (λ registry. words_in rig.words ≡ published (registry_of registry) a.shape.tick) → words_in rig.words ≡ published from.next.registry from.next.shape.tick
  words_anew anew = at rig.parts.registry (ap (λ q. part_in q Registry) all) anew
    where
      some_is : {A : Type 0} (x y : A) → Some x ≡ Some y → x ≡ y
      some_is x y e = cc

      none_is : {A : Type 0} (y : A) → None ≡ Some y → ⊥
      none_is y e = cc

      at : (o : Option RegistryPart) → option_map registry_of o ≡ Some from.next.registry → IfSome o (λ registry. words_in rig.words ≡ published (registry_of registry) a.shape.tick) → words_in rig.words ≡ published from.next.registry from.next.shape.tick
      at None there same = absurd (none_is from.next.registry there)
      at (Some registry) there same = same ∙ (λ i. published (some_is (registry_of registry) from.next.registry there i) (sym frame.shape i).tick)

  -- what a board keeps is kept
  pub applied_kept : IsTyped call → PinsFit (chips_of rig.parts) → words_in rig.words ≡ published from.next.registry from.next.shape.tick → IsKept (after_call a call rig)
  applied_kept typed pins words = record {
    whole = whole;
    sound = subst IsSound (sym applied_is) (steps_keep_sound (board_in a) entry from.next kept.sound typed step);
    pins = pins;
    words = words ∙ (λ i. published (sym applied_is i).registry (frame.shape i).tick);
  }
