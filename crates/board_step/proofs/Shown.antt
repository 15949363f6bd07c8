-- The wishes that the events and the reply of a plan show are those of its sendings.
use Rattle.board_step.proofs.Basics.{◌≡◌, Bool, true, false, ◌++◌, List, [], ◌∷◌, refl, sym, ap, ◌∙◌, true≢false, if◌then◌else◌, arith, None, Option, contains-union, same_set, nat_cmp-IsAntisymmetric, nat_cmp, nat_cmp_total, Numbers, Event, Reply, Board, part_of, with_part, Sent, nobody, is_empty, TargetAnswer, sets_of, status_sent, Heading, About, injected, the_reply, Plan, done, look, put, tell, answer, choose, Log, Wishes, next_wish, later_wishes, run, reached, shown_wishes, len-empty, sending, sets-sent, Manner, sets_told, sets_replied, shows_there, Keeps, wish_of, wish_shown, wish_replied, wishes_told, union, empty_of_len, empty}

-- the choices that replies show
abbrev pub wishes_replied : List Reply → Wishes
wishes_replied [] = []
wishes_replied (r ∷ rs) = wish_replied r ++ wishes_replied rs

-- ---- one status

pub empty_is : is_empty empty ≡ true
empty_is = grind (len-empty nat_cmp, arith)

none_wished : wish_of nobody ≡ []
none_wished = ap (λ t. if t then (if t then [] else reached nobody ∷ []) else reached nobody ∷ []) empty_is

pub was_empty : (s : Numbers) → is_empty s ≡ true → s ≡ empty
was_empty s h = empty_of_len s (grind (h, arith))

pub wished : (s : Sent) → is_empty (reached s) ≡ false → wish_of s ≡ reached s ∷ []
wished s somebody = elim (is_empty s.new) as (λ t. is_empty s.new ≡ t → (if t then (if is_empty s.stood then [] else reached s ∷ []) else reached s ∷ []) ≡ reached s ∷ []) [
  | true ↦ λ no_new. elim (is_empty s.stood) as (λ t. is_empty s.stood ≡ t → (if t then [] else reached s ∷ []) ≡ reached s ∷ []) [
    | true ↦ λ none_stood. absurd (true≢false (
        sym (ap (λ n. is_empty (union n s.stood)) (was_empty s.new no_new) ∙ ap (λ n. is_empty (union empty n)) (was_empty s.stood none_stood) ∙ ap is_empty (same_set nat_cmp_total nat_cmp-IsAntisymmetric _ _ (λ q. contains-union nat_cmp_total _ _ q ∙ (grind arith))) ∙ empty_is)
        ∙ somebody))
    | false ↦ λ _. refl
  ] refl
  | false ↦ λ _. refl
] refl

event_none : (x : Event) → sets_told x ≡ nobody → wish_shown x ≡ []
event_none x h1 = grind (arith, none_wished)

reply_none : (r : Reply) → sets_replied r ≡ nobody → wish_replied r ≡ []
reply_none r h1 = grind (arith, none_wished)

-- ---- a log

-- the events and then the replies show the wishes of all sendings, and the events none where the replies show them
record AllShown (replies : Bool) (l : Log) : Type 0 where
  none : replies ≡ true → wishes_told l.events ≡ []
  all : wishes_told l.events ++ wishes_replied l.answers ≡ shown_wishes l.sendings

module _ (w : Manner) where
  module _ (m : Heading) (s : Sent) (l : Log) (somebody : is_empty (reached s) ≡ false) (r : AllShown w.replies l) where
    shows : (pic : Option TargetAnswer) → wish_of (sets_of (status_sent pic s)) ≡ reached s ∷ []
    shows pic = ap wish_of (sets-sent pic s) ∙ wished s somebody

    before : (pic : Option TargetAnswer) → (wish_of (sets_of (status_sent pic s)) ++ wishes_told l.events) ++ wishes_replied l.answers ≡ reached s ∷ shown_wishes l.sendings
    before pic = ap (λ ws. (ws ++ wishes_told l.events) ++ wishes_replied l.answers) (shows pic) ∙ ap (λ ws. reached s ∷ ws) r.all

    sent : (about : About) → shows_there w about ≡ true → AllShown w.replies (sending m about s l)
    sent (the_reply pic) place =
        let none = r.none (there w.replies place) in
        record { none = r.none; all = (λ i. none i ++ (shows pic i ++ wishes_replied l.answers)) ∙ ap (λ ws. reached s ∷ ws) (sym (ap (λ ws. ws ++ wishes_replied l.answers) none) ∙ r.all) }
      where
        there : (t : Bool) → (if t then true else false) ≡ true → t ≡ true
        there t h1 = grind arith
    sent (injected gsi pic) place = record { none = λ there. absurd (true≢false (sym place ∙ ap (λ t. if t then false else true) there)); all = before pic }
    sent _ place = record { none = λ there. absurd (true≢false (sym place ∙ ap (λ t. if t then false else true) there)); all = before None }

  -- ---- a plan

  shown_all : {A : Type 0} (m : Plan A) (b : Board) (ws : Wishes) → Keeps w m → AllShown w.replies (run m b ws).log
  shown_all (done a) b ws h = record { none = λ _. refl; all = refl }
  shown_all (look p k) b ws h = shown_all (k (part_of b p)) b ws (h (part_of b p))
  shown_all (put p v rest) b ws h = shown_all rest (with_part b p v) ws h.1
  shown_all (tell x rest) b ws h =
      let l = (run rest b ws).log in
      let r = shown_all rest b ws h.1 in
      record { none = λ there. (λ i. event_none x h.0 i ++ r.none there i); all = ap (λ ws. (ws ++ wishes_told l.events) ++ wishes_replied l.answers) (event_none x h.0) ∙ r.all }
  shown_all (answer x rest) b ws h =
      let l = (run rest b ws).log in
      let r = shown_all rest b ws h.1 in
      record { none = r.none; all = ap (λ ws. wishes_told l.events ++ (ws ++ wishes_replied l.answers)) (reply_none x h.0.sets) ∙ r.all }
  shown_all (choose m about g k) b ws h =
      let s = g (next_wish ws) in
      sent m s (run (k s) b (later_wishes ws)).log (h.0.somebody (next_wish ws)) (shown_all (k s) b (later_wishes ws) (h.1 s)) about h.0.place

  -- the events and then the replies show the wishes of the sendings
  pub all_shown : {A : Type 0} (m : Plan A) (b : Board) (ws : Wishes) → Keeps w m → wishes_told (run m b ws).log.events ++ wishes_replied (run m b ws).log.answers ≡ shown_wishes (run m b ws).log.sendings
  all_shown m b ws h = (shown_all m b ws h).all
