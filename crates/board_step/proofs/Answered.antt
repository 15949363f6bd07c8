-- What a call in code did is what a body has to do.
use Rattle.board_step.proofs.Basics.{◌≡◌, ℕ, true, false, not, ◌&&◌, ◌||◌, if◌then◌else◌, ◌++◌, List, [], ◌∷◌, Ok, Err, Some, None, refl, sym, ap, ◌∙◌, subst, arith, Result, is_some, find, list_any, Option, Irqfd, Reason, first_of, Call, Caller, Event, Refusal, Reply, Refused, Shape, with_told, Lacks, is_named, named_row, Board, Parts, Plan, Wishes, OnParts, gives, lacks, run_on, number_of, plan_in_range, FitsShape, FitsButTick, range_reasons, unless_refused, TellsOn, option_or, told-none, routing_of_words, plan_by, Did, BodyLeads, later_reasons, does_publish, publishes_unless, would_publish}
use Rattle.board_raise.specs.declared.parts.Parts as code
use Rattle.board_step.proofs.BodySteps.{done_leads}

-- ---- what it did leads on

pub tells_did : (result : Result Reply Lacks) (before now : List Event) (after : Parts) (later : Wishes) (o : OnParts (Unit {0})) → TellsOn (λ reply. reply ∷ []) result before now after later o → Did result before now after later o
tells_did (Ok reply) before now after later (gives a log left others) h = record {
  answers = sym h.1.ends.replies_are;
  noted = h.1.room ∙ ap (with_told before) h.1.ends.events_are;
  parts = h.1.ends.parts;
  left_over = h.1.ends.wishes;
}
tells_did (Ok reply) before now after later (lacks p) h = absurd h.1.ends
tells_did (Err l) before now after later (gives a log left others) h = absurd h
tells_did (Err l) before now after later (lacks p) h = h

pub told_leads : (shape : Shape) (words : List ℕ) (q : Parts) (caller : Caller) (call : Call) (ws : Wishes) (result : Result Reply Lacks) (before now : List Event) (after : Parts) (later : Wishes)
    → TellsOn (λ reply. reply ∷ []) result before now after later (run_on (plan_by words shape caller call) q ws) → BodyLeads shape words q caller call result before now after
told_leads shape words q caller call ws result before now after later h =
    done_leads shape words q caller call ws result before now after later (tells_did result before now after later (run_on (plan_by words shape caller call) q ws) h)

-- ---- a call is refused for its arguments, or it is not

module _ (words : List ℕ) (shape : Shape) (caller : Caller) (call : Call) where
  abbrev in_range : Plan (Unit {0})
  in_range = plan_in_range (routing_of_words words) shape (number_of caller) call

  pub not_refused : first_of (range_reasons shape call) ≡ None → in_range ≡ plan_by words shape caller call
  not_refused none = ap (λ (r : Option Refusal). unless_refused r in_range) (sym none)

  pub refused_tells : (refusal : Refusal) → first_of (range_reasons shape call) ≡ Some refusal → (before : List Event) (q : Parts) (ws : Wishes)
      → TellsOn (λ reply. reply ∷ []) (Ok (Refused refusal)) before before q ws (run_on (plan_by words shape caller call) q ws)
  refused_tells refusal one before q ws =
      subst (λ (r : Option Refusal). TellsOn (λ reply. reply ∷ []) (Ok (Refused refusal)) before before q ws (run_on (unless_refused r in_range) q ws)) (sym one)
      ([], record { ends = record { value_is = refl; events_are = refl; replies_are = refl; parts = refl; wishes = refl }; room = sym (told-none before) })

-- ---- parts that fit

pub fits_but : (shape : Shape) (p : code.Parts) → FitsShape shape p → FitsButTick shape p
fits_but shape p fits = record {
  others = record {
    limits = fits.limits;
    counters = fits.counters;
    registrations = fits.registrations;
    tick = tt;
    lapics = record { places = fits.lapics.places; numbers = fits.lapics.numbers };
    pins = record { pic = fits.pins.pic; ioapic = fits.pins.ioapic };
  };
  pending = (grind (arith, fits.tick));
}

-- ---- whether a call is a publication

-- the first of reasons and more reasons
first_of_both : (rs more : List Reason) → first_of (rs ++ more) ≡ option_or (first_of rs) (first_of more)
first_of_both [] more = refl
first_of_both (r ∷ rs) more = elim r.0 as (λ t. (if t then Some r.1 else first_of (rs ++ more)) ≡ option_or (if t then Some r.1 else first_of rs) (first_of more)) [ true ↦ refl | false ↦ first_of_both rs more ]

-- it is neither refused for its arguments nor for what stands, and it is of the kind
pub publishes_where : (b : Board) (call : Call) → would_publish b call ≡ (not (is_some (first_of (range_reasons b.shape call))) && (not (is_some (first_of (later_reasons b call))) && does_publish b call))
publishes_where b call = ap (λ r. publishes_unless r b call) (first_of_both (range_reasons b.shape call) (later_reasons b call)) ∙ (grind arith)

-- some row is so exactly where the first such is found
pub named_found : (rows : List Irqfd) (trigger gsi : ℕ) → is_some (named_row rows trigger gsi) ≡ list_any (is_named trigger gsi) rows
named_found [] trigger gsi = refl
named_found (row ∷ rows) trigger gsi = elim (is_named trigger gsi row) as (λ t. is_some (if t then Some row else find (is_named trigger gsi) rows) ≡ (t || list_any (is_named trigger gsi) rows)) [ true ↦ refl | false ↦ named_found rows trigger gsi ]
