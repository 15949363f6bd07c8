-- Boards that agree on the reach run alike.
use Rattle.std.proofs.Common.{◌≡◌, Bool, true, false, refl, sym, ap, ◌∙◌, subst, ◌||◌}
use Rattle.board_model.specs.Board.{Board, part_of, with_part, is_same}
use Rattle.board_model.specs.Plan.{Plan, done, look, put, tell, answer, choose}
use Rattle.board_model.specs.Run.{Wishes, next_wish, later_wishes, told, answered, sending}
use Rattle.board_model.specs.Agreement.{AgreesOnReach, RunsAlike}
use Rattle.board_model.proofs.Lens.{same_itself, written_alike, lapics-with}

pub or-true : (a b : Bool) → a ≡ true → (a || b) ≡ true
or-true a b h = rw h refl

pub or-true_right : (a b : Bool) → b ≡ true → (a || b) ≡ true
or-true_right true b h = refl
or-true_right false b h = h

pub agreeing_alike : {A : Type 0} (m : Plan A) (b c : Board) (ws : Wishes) → AgreesOnReach m b c ws → RunsAlike m m b c ws
agreeing_alike (done a) b c ws h = record { value = refl; log = refl; wishes = refl; reach = λ q. refl; after = λ q e. e }
agreeing_alike {A} (look p k) b c ws h =
    let e : part_of b p ≡ part_of c p = h.parts p (or-true _ _ (same_itself p)) in
    let same : AgreesOnReach (k (part_of b p)) b c ws = record { lapics = h.lapics; parts = λ q s. h.parts q (or-true_right _ _ s) } in
    let r : RunsAlike (k (part_of b p)) (k (part_of c p)) b c ws =
    subst (λ v. RunsAlike (k (part_of b p)) (k v) b c ws) e (agreeing_alike (k (part_of b p)) b c ws same) in
    record { value = r.value; log = r.log; wishes = r.wishes; reach = λ q. ap (λ t. is_same p q || t) (r.reach q); after = r.after }
agreeing_alike (put p v rest) b c ws h =
    let n = lapics-with b p v ∙ h.lapics ∙ sym (lapics-with c p v) in
    let r = agreeing_alike rest (with_part b p v) (with_part c p v) ws (record { lapics = n; parts = λ q s. written_alike b c p q v h.lapics (h.parts q (or-true_right _ _ s)) }) in
    record { value = r.value; log = r.log; wishes = r.wishes; reach = λ q. ap (λ t. is_same p q || t) (r.reach q); after = λ q e. r.after q (written_alike b c p q v h.lapics e) }
agreeing_alike (tell x rest) b c ws h =
    let r = agreeing_alike rest b c ws (record { lapics = h.lapics; parts = h.parts }) in
    record { value = r.value; log = ap (told x) r.log; wishes = r.wishes; reach = r.reach; after = r.after }
agreeing_alike (answer x rest) b c ws h =
    let r = agreeing_alike rest b c ws (record { lapics = h.lapics; parts = h.parts }) in
    record { value = r.value; log = ap (answered x) r.log; wishes = r.wishes; reach = r.reach; after = r.after }
agreeing_alike (choose m about g k) b c ws h =
    let r = agreeing_alike (k (g (next_wish ws))) b c (later_wishes ws) (record { lapics = h.lapics; parts = h.parts }) in
    record { value = r.value; log = ap (sending m about (g (next_wish ws))) r.log; wishes = r.wishes; reach = r.reach; after = r.after }
