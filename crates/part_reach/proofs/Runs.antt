-- What a run of a call on copies of the parts that a pen holds comes to.
use Rattle.std.proofs.Common.{◌≡◌, ℕ, ◌-◌, ◌≤◌, Bool, true, false, true≢false, List, [], length, is_some, Some, None, Ok, Err, refl, sym, ap, ◌∙◌, subst, arith}
use Rattle.std.proofs.lemmas.List.{take_all}
use Rattle.std.specs.Prelude.{IfSome, count_by}
use Rattle.irq_base.specs.Callers.{is_allowed}
use Rattle.irq_base.specs.Room.{with_told}
use Rattle.irq_base.specs.declared.call.Call.{Call}
use Rattle.irq_base.specs.declared.call.Caller.{Caller}
use Rattle.irq_base.specs.declared.event.Event.{Event}
use Rattle.irq_base.specs.declared.reply.Reply.{Reply}
use Rattle.irq_base.specs.declared.reply.Spent.{Spent}
use Rattle.irq_base.specs.declared.shape.Part.{Part}
use Rattle.irq_base.specs.declared.shape.Part.TheVariants.{Registry}
use Rattle.irq_base.specs.declared.shape.Shape.{Shape}
use Rattle.board_model.specs.Board.{Board}
use Rattle.board_model.specs.Hand.{Parts as InHand}
use Rattle.board_raise.specs.declared.parts.Parts.{Parts}
use Rattle.board_raise.specs.InHand.{parts_of}
use Rattle.board_calls.specs.Done.{SameInHand, FitsShape, FitsButTick}
use Rattle.board_step.specs.Bodies.{entry_of, BodyLeads, Stepped}
use Rattle.board_step.specs.History.{opening}
use Rattle.board_step.specs.Laws.{IsTyped}
use Rattle.board_step.specs.Publications.{words}
use Rattle.board_step.specs.Step.{is_publication, would_publish, spent_of}
use Rattle.board_step.proofs.Publishing.{publications_reach_the_registry}
use Rattle.turn_book.specs.declared.view.Front.{Front}
use Rattle.turn_book.specs.Histories.{is_in}
use Rattle.turn_book.specs.Many.{HoldsJust}
use Rattle.turn_book.specs.Plays.{IsAt}
use Rattle.turn_book.specs.Views.{IsLegal, HoldsRight}
use Rattle.part_slots.specs.Commits.{Seen, HasInHand, IsEntered, MayBeMade}
use Rattle.part_slots.specs.Histories.{Stands}
use Rattle.part_slots.specs.Running.{Opens, IsStep}
use Rattle.part_slots.specs.Slots.{place, part_at, slots_of}
use Rattle.part_slots.proofs.Commits.{hands_are_of_the_board, calls_are_entered, lacking_is_reached}
use Rattle.part_attempt.specs.Attempts.{IsBarred}
use Rattle.part_attempt.proofs.Standing.{stands, leads, many}
use Rattle.part_reach.specs.Copies.{AreCopies}
use Rattle.part_reach.specs.Entered.{IsMadeOn}
use Rattle.part_reach.specs.Limits.{IsCounted}
use Rattle.part_rig.specs.declared.known.Known.{Known}
use Rattle.part_reach.specs.declared.want.Want.{Want}
use Rattle.part_reach.specs.declared.want.Want.TheVariants as wants
use Rattle.part_reach.specs.Turns.{IsReachedAfter}
use Rattle.part_reach.specs.Wants.{IsAskedFor, IsWanted}
use Rattle.part_reach.proofs.OnHand.{copies_fit, has_in_hand, none_held, in_hand}

-- what is told to an empty list is the list, where there is room for it
told_alone : (told : List Event) → length told ≤ 560 → with_told [] told ≡ told
unfolding with_told
told_alone told few = take_all (640 - length {A = Event} []) told (omega (arith, few))

module _ (shape : Shape) (v : Seen) (begins : v.begin ≡ Some (opening shape)) (legal : IsLegal Opens IsStep v) (right : HoldsRight slots_of v) (places : List ℕ) (just : HoldsJust places v.held) (q : Parts) (copies : AreCopies legal.1 places q) where
  -- the copies fit the shape
  pub fits_shape : FitsShape shape q
  fits_shape = let is = stands shape v begins legal in subst (λ s. FitsShape s q) is.shape (copies_fit legal.1 places q copies is.sound)

  -- the board's counts and its registry
  pub counted : (had : Front) → had.length ≡ length v.seen → had.generation ≡ count_by is_publication v.seen → IsCounted legal.1 shape had (parts_of q)
  counted had long published = record {
    one_shape = is.shape;
    calls = is.length ∙ sym long;
    publications = is.publications ∙ sym published;
    registry = by (is_in 0 places) refl;
  }
    where
      is : Stands shape v.seen legal.1
      is = stands shape v begins legal

      by : (t : Bool) → is_in 0 places ≡ t → is_some (parts_of q).registry ≡ true → Some legal.1.registry ≡ (parts_of q).registry
      by true within there = sym (copies.copied Registry within)
      by false out there = absurd (true≢false (sym there ∙ copies.none Registry out))

  -- a limit that bars the call on that board bars it there
  pub barred : (call : Call) (spent : Spent) → spent_of legal.1 call ≡ Some spent → IsBarred shape call spent v.seen
  barred call spent limit = record { last = legal.1; after = leads shape v begins legal; limit = limit }

  module _ (known : List ℕ) (told : IfSome v.now (λ b. words b ≡ known)) (caller : Caller) (call : Call) where
    hand : HasInHand shape known (parts_of q) v
    hand = has_in_hand shape v begins legal right places just q copies known told

    -- a part that is lacked is none of these places, and the call reaches it
    pub wanted : (part : Part) (before events : List Event) (after : InHand) → BodyLeads shape known (parts_of q) caller call (Err (record { part = part })) before events after
        → (is_in (place part) places ≡ false) × IsReachedAfter shape caller call v.seen part
    wanted part before events after did =
        let lacks = lacking_is_reached shape known (parts_of q) after caller call (record { part = part }) before events v legal.1 hand legal.4 did in (
          none_held shape v begins legal right places just q copies part lacks.lacking,
          record { board = legal.1; after = leads shape v begins legal; reached = lacks.reached },
        )

    -- so what is asked for is wanted
    pub is_wanted : (k : Known) (want : Want) (before events : List Event) (after : InHand) → IsAskedFor k shape known (parts_of q) caller call before events after want → IsWanted k shape caller call v places want
    is_wanted k (wants.Word index) before events after did = did
    is_wanted k (wants.Turn part) before events after did = wanted part before events after did

    -- what is answered is made on these places
    pub made : (had : Front) → had.length ≡ length v.seen → is_allowed caller call shape ≡ true → IsTyped call
        → ((would_publish legal.1 call ≡ true → is_some (parts_of q).registry ≡ true) → spent_of legal.1 call ≡ None)
        → (reply : Reply) (before events : List Event) (after : Parts) → before ≡ [] → BodyLeads shape known (parts_of q) caller call (Ok reply) before events (parts_of after)
        → SameInHand q after → FitsButTick shape after → IsMadeOn v (entry_of caller call reply events) places after
    made had long allowed typed free reply before events after none did same fits =
        subst (λ es. IsMadeOn v (entry_of caller call reply es) places after) (sym events_are) (record {
          before = legal.1;
          after = next.0;
          now = legal.4;
          step = next.1;
          reached = λ k within. sym (just k) ∙ entered.reach legal.1 at k within;
          in_hand = λ k within. entered.held (part_at k) ∙ in_hand shape v begins legal right places just q copies k within;
          agrees = entered.agrees legal.1 next.0 legal.4 next.1;
          pins = fits.others.pins;
          row = fits.others.lapics.places ∙ many shape v begins legal;
        })
      where
        is : Stands shape v.seen legal.1
        is = stands shape v begins legal

        worth : Stepped legal.1 caller call (parts_of q) (parts_of after) reply before events
        worth = did legal.1 (hands_are_of_the_board shape known (parts_of q) v legal.1 hand legal.4)

        may : MayBeMade v caller call
        may = record {
          board = legal.1;
          now = legal.4;
          may = record {
            allowed = subst (λ s. is_allowed caller call s ≡ true) (sym is.shape) allowed;
            in_limits = free (λ is_so. worth.leads.reached Registry (publications_reach_the_registry legal.1 caller call is_so));
          };
          typed = typed;
        }

        entered : IsEntered had v caller call (parts_of q) (parts_of after) reply before events
        entered = calls_are_entered shape known (parts_of q) (parts_of after) caller call reply before events had v hand may did

        at : IsAt had v legal.1
        at = (long, legal.4)

        next : (t : Board) × IsStep legal.1 (entry_of caller call reply entered.told) t
        next = entered.leads legal.1 at

        events_are : events ≡ entered.told
        events_are = entered.noted ∙ ap (λ es. with_told es entered.told) none ∙ told_alone entered.told entered.few
