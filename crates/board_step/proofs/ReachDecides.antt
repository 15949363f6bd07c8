-- A step changes nothing outside its reach, and depends on nothing else but the published words.
use Rattle.board_step.proofs.Basics.{◌≡◌, Bool, true, false, refl, sym, ap, ◌∙◌, length, is_allowed, Call, Caller, Part, Registry, Board, part_of, run, reaches, RegistryPart, plan_of, RunsAlike, agreeing_alike, unreached_stays, PublishTheSame, published_decides, published_decides_the_table, would_publish, with_counts, plan_on, outcome_of, counted, IsSound, StaysOutsideReach, SamePart, AgreesForCall, DependsOnReach, reach}
use Rattle.board_step.proofs.ReachCalls.{reach_is_table}

-- to count a call changes no part
counted_part : (t : Bool) (b : Board) (q : Part) → part_of (with_counts t b) q ≡ part_of b q
counted_part true b _ = refl
counted_part false b _ = refl

pub stays_outside_reach : StaysOutsideReach
stays_outside_reach b e c q step outside =
    sym (ap (λ (d : Board). part_of d q) step.leads)
    ∙ counted_part (would_publish b e.call) (outcome_of b e step.wishes).board q
    ∙ unreached_stays (plan_on b e.caller e.call) b step.wishes q (reach_is_table b e.caller e.call step.wishes q ∙ outside)

-- sound boards that publish the same words, and have a part the same, have it whole
whole_part : (b d : Board) → PublishTheSame b.registry d.registry b.shape.tick d.shape.tick → (q : Part) → SamePart b d q → part_of b q ≡ part_of d q
whole_part b d both Registry same =
    let table = published_decides_the_table b.registry d.registry b.shape.tick d.shape.tick both in
    λ i. record { table = table i; irqfds = same.irqfds i; watches = same.watches i; ioevents = same.ioevents i }
whole_part b d both _ same = same

-- parts that are equal are the same
pub equal_part : (b d : Board) (q : Part) → part_of b q ≡ part_of d q → SamePart b d q
equal_part b d Registry same = record {
  irqfds = ap (λ (r : RegistryPart). r.irqfds) same;
  watches = ap (λ (r : RegistryPart). r.watches) same;
  ioevents = ap (λ (r : RegistryPart). r.ioevents) same;
}
equal_part b d _ same = same

-- boards of one shape that publish the same words have one plan for a call
one_plan : (b d : Board) (caller : Caller) (call : Call) → IsSound b → IsSound d → AgreesForCall b d caller call → plan_on d caller call ≡ plan_on b caller call
one_plan b d caller call sound other agrees =
    λ i. plan_of (sym (published_decides b.registry d.registry b.shape.tick d.shape.tick sound.registry other.registry agrees.words) i) (sym agrees.shape i) caller call

pub depends_on_reach : DependsOnReach
depends_on_reach b d e c sound other agrees in_limits step = record {
  reaches = λ q.
      sym (reach_is_table d e.caller e.call step.wishes q)
      ∙ ap (λ m. reaches m d step.wishes q) same
      ∙ sym (alike.reach q)
      ∙ reach_is_table b e.caller e.call step.wishes q;
  next = counted d e.call (outcome_of d e step.wishes).board;
  step = record {
    allowed = ap (λ shape. is_allowed e.caller e.call shape) (sym agrees.shape) ∙ step.allowed;
    in_limits = in_limits;
    wishes = step.wishes;
    replied = ap (λ m. (run m d step.wishes).log.answers) same ∙ sym (ap (λ l. l.answers) alike.log) ∙ step.replied;
    told = ap (λ m. (run m d step.wishes).log.events) same ∙ sym (ap (λ l. l.events) alike.log) ∙ step.told;
    leads = refl;
  };
  parts = λ q within.
      counted_part (would_publish d e.call) (outcome_of d e step.wishes).board q
      ∙ ap (λ m. part_of (run m d step.wishes).board q) same
      ∙ sym (alike.after q (whole q within))
      ∙ sym (counted_part (would_publish b e.call) (outcome_of b e step.wishes).board q)
      ∙ ap (λ (x : Board). part_of x q) step.leads;
}
  where
    same : plan_on d e.caller e.call ≡ plan_on b e.caller e.call
    same = one_plan b d e.caller e.call sound other agrees

    both : PublishTheSame b.registry d.registry b.shape.tick d.shape.tick
    both = record { sound = sound.registry; other_sound = other.registry; words = agrees.words }

    whole : (q : Part) → reach b e.caller e.call q ≡ true → part_of b q ≡ part_of d q
    whole q within = whole_part b d both q (agrees.parts q within)

    lapics : length b.lapics ≡ length d.lapics
    lapics = sound.lapics.places ∙ ap (λ shape. shape.cpus) agrees.shape ∙ sym other.lapics.places

    alike : RunsAlike (plan_on b e.caller e.call) (plan_on b e.caller e.call) b d step.wishes
    alike = agreeing_alike (plan_on b e.caller e.call) b d step.wishes (record {
      lapics = lapics;
      parts = λ q within. whole q (sym (reach_is_table b e.caller e.call step.wishes q) ∙ within);
    })
