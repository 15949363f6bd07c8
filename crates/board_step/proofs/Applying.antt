-- One call on a board in code is one step of it.
use Rattle.board_step.proofs.Basics.{◌≡◌, ◌+◌, Bool, true, false, true≢false, List, [], ◌∷◌, Ok, Some, None, refl, sym, ap, ◌∙◌, subst, arith, nat_tests, IfSome, unwrap_or, Option, is_allowed, Call, Caller, Event, Reply, Part, Registry, Lapic, BoardRig, LacksReached, Board, part_of, Parts, published, Wishes, run_on, words_in, Fits, registry_of, parts_of, chips_of, CodeParts, BodyLeads, FitsShape, FitsButTick, TellsOn, is_some, Applied, Ran, MayCall, plan_by, entry_of, Stepped, opening_registry, IsTyped, board_in, IsKept, spent_by, reach, would_publish, spent_of, Step, is_part}
use Rattle.board_step.specs.declared.board.Board.TheInside.{Inside}
use Rattle.board_step.proofs.Answered.{tells_did}
use Rattle.board_step.proofs.Applied.{kept_is_of, published_by, after_call, applied_steps, applied_kept, words_left, words_anew}
use Rattle.board_step.proofs.BodySteps.{done_ran}
use Rattle.board_step.proofs.OpeningParts.{sound_fits}
use Rattle.board_step.proofs.ReachDecides.{stays_outside_reach}
use Rattle.board_step.proofs.There.{reach_is_there}
use Rattle.board_step.proofs.WholeParts.{board_has_its_parts}

-- ---- other wishes

-- the board in code with its rig wishing for these
module _ (a : Inside) (rig : BoardRig) (ws : Wishes) (is : rig ≡ record a.rig { wishes = ws }) where
  abbrev pub wishing : Inside
  wishing = record a { rig = rig }

  pub wishing_kept : IsKept a → IsKept wishing
  wishing_kept kept = subst (λ r. IsKept (record a { rig = r })) (sym is) (record { whole = kept.whole; sound = kept.sound; pins = kept.pins; words = kept.words })

  pub wishing_is : board_in wishing ≡ board_in a
  wishing_is = ap (λ r. board_in (record a { rig = r })) is

  -- what the call told under them
  pub wishing_ran : IsKept a → (caller : Caller) (call : Call) (reply : Reply) (before now : List Event) (after : Parts) (later : Wishes)
      → TellsOn (λ answer. answer ∷ []) (Ok reply) before now after later (run_on (plan_by (words_in rig.words) a.shape caller call) (parts_of rig.parts) rig.wishes)
      → Ran (board_in a) caller call ws reply before now
  wishing_ran kept caller call reply before now after later h =
      let q = parts_of rig.parts in
      let words = words_in rig.words in
      subst (λ (x : Board × Wishes). Ran x.0 caller call x.1 reply before now) (λ i. (wishing_is i, (is i).wishes))
      (done_ran a.shape words q caller call rig.wishes (board_in wishing) (kept_is_of wishing (wishing_kept kept)) reply before now after later (tells_did (Ok reply) before now after later (run_on (plan_by words a.shape caller call) q rig.wishes) h))

-- ---- before the call

-- what is there is not made up
there : {A : Type 0} (o : Option A) (d : A) → is_some o ≡ true → Some (unwrap_or o d) ≡ o
there None d is = absurd (true≢false (sym is))
there (Some x) d is = refl

pub registry_there : (a : Inside) → IsKept a → Some (board_in a).registry ≡ (parts_of a.rig.parts).registry
registry_there a kept = there (parts_of a.rig.parts).registry opening_registry (kept.whole.each Registry refl)

-- the parts of a board fit its shape
pub board_fits : (a : Inside) → IsKept a → FitsShape a.shape a.rig.parts
board_fits a kept =
    subst (λ q. Fits a.shape q (chips_of a.rig.parts)) (board_has_its_parts a.shape (parts_of a.rig.parts) a.length a.publications kept.whole)
    (sound_fits (board_in a) (chips_of a.rig.parts) kept.sound kept.pins)

-- what is known before a call: the board in code, with its wishes, is kept, and it is the board before
pub record Called (a : Inside) (now : Board) (caller : Caller) (call : Call) (t : Bool) : Type 0 where
  pub kept : IsKept a
  pub view : board_in a ≡ now
  pub allowed : is_allowed caller call a.shape ≡ true
  pub publishes : t ≡ would_publish (board_in a) call

pub called : (a : Inside) (rig : BoardRig) (ws : Wishes) (is : rig ≡ record a.rig { wishes = ws }) → IsKept a → (now : Board) → board_in a ≡ now → (caller : Caller) (call : Call) (t : Bool) → is_allowed caller call now.shape ≡ true
    → (all : CodeParts) → all ≡ rig.parts → ((b : Board) → Some b.registry ≡ (parts_of all).registry → b.shape ≡ a.shape → t ≡ would_publish b call) → Called (wishing a rig ws is) now caller call t
called a rig ws is kept now view caller call t allowed all same told =
    let there = wishing_kept a rig ws is kept in
    let on : board_in (wishing a rig ws is) ≡ now = wishing_is a rig ws is ∙ view in
    record {
      kept = there;
      view = on;
      allowed = subst (λ (x : Board). is_allowed caller call x.shape ≡ true) (sym on) allowed;
      publishes = told (board_in (wishing a rig ws is)) (registry_there (wishing a rig ws is) there ∙ ap (λ (p : CodeParts). (parts_of p).registry) (sym same)) refl;
    }

-- a part that a call reaches is one of the board, which is in hand
pub never_lacks : (a : Inside) → IsKept a → (caller : Caller) (call : Call) → is_allowed caller call a.shape ≡ true → (p : Part) → LacksReached p (parts_of a.rig.parts) (reach (board_in a) caller call) → ⊥
never_lacks a kept caller call allowed p lacks = true≢false (sym (kept.whole.each p (is_of p lacks.reached)) ∙ ap is_some lacks.lacking)
  where
    is_of : (p : Part) → reach (board_in a) caller call p ≡ true → is_part a.shape p ≡ true
    is_of (Lapic n) within = grind ((reach_is_there (board_in a) caller call n allowed within), arith, nat_tests)
    is_of _ within = refl

module _ (a : Inside) (now : Board) (caller : Caller) (call : Call) (t : Bool) (w : Called a now caller call t) where
  -- the counts and whether it is a publication tell which limit bars the call
  pub spent_told : spent_of now call ≡ spent_by a.shape a.length a.publications t
  spent_told = ap (λ x. spent_of x call) (sym w.view) ∙ sym (ap (spent_by a.shape a.length a.publications) w.publishes)

  -- ---- after it

  module _ (free : spent_by a.shape a.length a.publications t ≡ None) (reply : Reply) (before later : List Event) (made rig : BoardRig) (parts : rig.parts ≡ made.parts)
      (led : BodyLeads a.shape (words_in a.rig.words) (parts_of a.rig.parts) caller call (Ok reply) before later (parts_of made.parts)) (fit : FitsButTick a.shape made.parts) (u : Bool) (branch : t ≡ u) where
    stepped : Stepped (board_in a) caller call (parts_of a.rig.parts) (parts_of rig.parts) reply before later
    stepped = subst (λ p. Stepped (board_in a) caller call (parts_of a.rig.parts) (parts_of p) reply before later) (sym parts) (led (board_in a) (kept_is_of a w.kept))

    fits : FitsButTick a.shape rig.parts
    fits = subst (FitsButTick a.shape) (sym parts) fit

    may : MayCall (board_in a) caller call
    may = record { allowed = w.allowed; in_limits = sym (ap (spent_by a.shape a.length a.publications) w.publishes) ∙ free }

    -- the board in code: one call more, and one publication more where it is one
    abbrev pub left : Inside
    left = record { shape = a.shape; rig = rig; length = a.length + 1; publications = published_by u a.publications }

    left_is : after_call a call rig ≡ left
    left_is = ap (λ x. record { shape = a.shape; rig = rig; length = a.length + 1; publications = published_by x a.publications }) (sym w.publishes ∙ branch)

    step : Step (board_in a) (entry_of caller call reply stepped.told) (board_in left)
    step = subst (λ x. Step (board_in a) (entry_of caller call reply stepped.told) (board_in x)) left_is (applied_steps a w.kept caller call reply stepped.told rig stepped.leads may fits.others.lapics.places)

    pub call_applied : (new : Board) → new ≡ board_in left → Applied now caller call (record { reply = reply; at = a.length }) before later new
    call_applied new is = subst (λ (x : Board × Board). Applied x.0 caller call (record { reply = reply; at = a.length }) before later x.1) (λ i. (w.view i, sym is i))
        (record { at = refl; told = stepped.told; events = stepped.noted; step = step })

    pub call_outside : (new : Board) → new ≡ board_in left → (p : Part) → reach now caller call p ≡ false → part_of new p ≡ part_of now p
    call_outside new is = subst (λ (x : Board × Board). (p : Part) → reach x.0 caller call p ≡ false → part_of x.1 p ≡ part_of x.0 p) (λ i. (w.view i, sym is i))
        (λ p outside. stays_outside_reach (board_in a) (entry_of caller call reply stepped.told) (board_in left) p step outside)

    keeps : IsTyped call → words_in rig.words ≡ published stepped.leads.next.registry stepped.leads.next.shape.tick → IsKept left
    keeps typed words = subst IsKept left_is (applied_kept a w.kept caller call reply stepped.told rig stepped.leads may fits.others.lapics.places typed (record { pic = fits.others.pins.pic; ioapic = fits.others.pins.ioapic }) words)

    -- no publication, and the words are as they were
    pub kept_quietly : IsTyped call → u ≡ false → words_in rig.words ≡ words_in a.rig.words → IsKept left
    kept_quietly typed quiet same = keeps typed (words_left a w.kept caller call reply stepped.told rig stepped.leads may fits.others.lapics.places (sym w.publishes ∙ branch ∙ quiet) same)

    -- the words are published anew
    pub kept_anew : IsTyped call → IfSome made.parts.registry (λ registry. words_in rig.words ≡ published (registry_of registry) a.shape.tick) → IsKept left
    kept_anew typed anew =
        keeps typed (words_anew a w.kept caller call reply stepped.told rig stepped.leads may fits.others.lapics.places (subst (λ (p : CodeParts). IfSome p.registry (λ registry. words_in rig.words ≡ published (registry_of registry) a.shape.tick)) (sym parts) anew))
