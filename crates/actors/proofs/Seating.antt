-- Actors by their numbers, and what they leave, one by one.
use Rattle.std.proofs.Common.{◌≡◌, ℕ, zero, suc, ◌+◌, ◌<◌, List, [], ◌∷◌, map, length, slice_index_or, All, refl, sym, ap, ◌∙◌, subst, arith}
use Rattle.irq_base.specs.declared.call.Caller.TheVariants.{Device}
use Rattle.irq_base.specs.declared.face.Face.{Ghosts}
use Rattle.script_text.specs.Asks.{actors_of}
use Rattle.script_text.specs.Fitting.{IsScript}
use Rattle.script_text.specs.Scripts.{Script}
use Rattle.actors.specs.Kept.{HasPlayed}
use Rattle.actors.specs.Results.{HavePlayed}
use Rattle.actors.specs.Seats.{seats_from, CanPlay}
use Rattle.actors.specs.declared.playing.Played.{Played}
use Rattle.actors.specs.declared.seats.Seat.{Seat}

module _ {F : Type 0} where
  seat_at : (k : ℕ) (fs : List F) (i : ℕ) (d : Seat F) → i < length fs → slice_index_or (seats_from k fs) i d ≡ record { actor = k + i; face = slice_index_or fs i d.face }
  seat_at k [] i d low = absurd (omega (arith, low))
  seat_at k (f ∷ fs) zero d low = ap (λ n. record { actor = n; face = f }) (let e : k ≡ k + 0 = omega arith in e)
  seat_at k (f ∷ fs) (suc i) d low =
      seat_at (k + 1) fs i d (omega (arith, low)) ∙ ap (λ n. record { actor = n; face = slice_index_or fs i d.face }) (let e : k + 1 + i ≡ k + suc i = omega arith in e)

  pub many_seats : (k : ℕ) (fs : List F) → length (seats_from k fs) ≡ length fs
  many_seats k [] = refl
  many_seats k (f ∷ fs) = (let more = many_seats (k + 1) fs in omega (arith, more))

  at_map : {A : Type 0} (g : F → A) (fs : List F) (i : ℕ) (d : F) (e : A) → i < length fs → slice_index_or (map g fs) i e ≡ g (slice_index_or fs i d)
  at_map g [] i d e low = absurd (omega (arith, low))
  at_map g (f ∷ fs) zero d e low = refl
  at_map g (f ∷ fs) (suc i) d e low = at_map g fs i d e (omega (arith, low))

  many_mapped : {A : Type 0} (g : F → A) (fs : List F) → length (map g fs) ≡ length fs
  many_mapped g [] = refl
  many_mapped g (f ∷ fs) = (let more = many_mapped g fs in omega (arith, more))

  module _ (face : Ghosts F) (s : Script) where
    pub can_play : (fs : List F) (seats : List (Seat F)) → seats ≡ seats_from 0 fs → IsScript s → map face.who fs ≡ actors_of s.lines → All (λ f. face.stops f ≡ 0) fs
        → (i : ℕ) (x : Seat F) → i < length seats → x ≡ slice_index_or seats i x → CanPlay face s x
    can_play fs seats seated fits callers none i x low at = subst (CanPlay face s) (sym is) (record {
      script = fits;
      actor = (let more = many_mapped face.who fs in let all = ap length callers in omega (arith, here, more, all));
      caller = sym (at_map face.who fs i x.face (Device 0) here) ∙ ap (λ l. slice_index_or l i (Device 0)) callers;
      stops = none i x.face here;
    })
      where
        here : i < length fs
        here = (let many = ap length seated in let more = many_seats 0 fs in omega (arith, low, many, more))

        is : x ≡ record { actor = i; face = slice_index_or fs i x.face }
        is = at ∙ ap (λ l. slice_index_or l i x) seated ∙ seat_at 0 fs i x here ∙ ap (λ n. record { actor = n; face = slice_index_or fs i x.face }) (let e : 0 + i ≡ i = omega arith in e)

    pub have_played : (fs : List F) (ps : List (Played F)) → length ps ≡ length fs
        → ((i : ℕ) (d : Played F) (e : F) → i < length fs → HasPlayed face s (slice_index_or fs i e) (slice_index_or ps i d).face (slice_index_or ps i d).kept (slice_index_or ps i d).spent)
        → HavePlayed face s fs ps
    have_played [] [] many each = tt
    have_played [] (p ∷ ps) many each = absurd (omega (arith, many))
    have_played (f ∷ fs) [] many each = absurd (omega (arith, many))
    have_played (f ∷ fs) (p ∷ ps) many each =
        (each 0 p f (omega arith), have_played fs ps (omega (arith, many)) (λ i d e low. each (suc i) d e (omega (arith, low))))

    -- the face of a job is that of its place
    pub face_at : (fs : List F) (seats : List (Seat F)) (i : ℕ) (job : Seat F) (e : F) → seats ≡ seats_from 0 fs → i < length fs → slice_index_or seats i job ≡ job → job.face ≡ slice_index_or fs i e
    face_at fs seats i job e seated low is =
        ap (λ (x : Seat F). x.face) (sym is ∙ ap (λ l. slice_index_or l i job) seated ∙ seat_at 0 fs i job low) ∙ same_default fs i job.face e low
      where
        same_default : (fs : List F) (i : ℕ) (d e : F) → i < length fs → slice_index_or fs i d ≡ slice_index_or fs i e
        same_default [] i d e low = absurd (omega (arith, low))
        same_default (f ∷ fs) zero d e low = refl
        same_default (f ∷ fs) (suc i) d e low = same_default fs i d e (omega (arith, low))
