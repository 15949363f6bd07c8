-- `lend` hands on what `part_of` lends, with the book named first.
use Rattle.atomic_table.proofs.Names.{List, [], ◌∷◌, refl, ap, a_type, dcons, dnil, named, Val, vptr, vint, inst_fn, SProp, id⊢, ‵, raw, ◌⊛◌, some, later, ◌$◌, ◌∵◌, !, qed, by, move, keep, drop, split, join, fsplit3, fjoin, fjoin3, use1, feq_i, feq_l, pick, await, stop, addr, no_more, and_then, returns, enter, alloc_all, pass_all, free_all, look_at, get, through, sets, lands_as, tables, RattleType, owns, types_at, plain, only, nothing, param, bounded, Stays, stay_dropped, Goes-dropped, Goes-spent_ref, walk_of, RefMutOf, RefOf, mut_vals, mut_Tells, shr_vals, shr_Tells, uint_vals, uint_Tells, calls_at, yes, no}
use Rattle.atomic_table.proofs.Walks.{proved, leaves}
use mir.Syntax.{w32}
use denote.Builtin.{u32}
use denote.Triple.Table.{framed}
use denote.Triple.Spec.{triple_of}
use denote.Triple.Entry.{alive, Args}
use denote.Triple.Clauses.{Lasts, lasts, at_exit}
use denote.Ref.{MutRef, MutBor}
use Rattle.turn_book.specs.contracts.book.TurnBook as table
use Rattle.turn_book.specs.contracts.pen.Pen as pen
use Rattle.turn_book.specs.contracts.lend.part_of as inner
use Rattle.turn_book.proofs.lend.part_of.Met.{met}
use Rattle.turn_book.specs.contracts.book.TurnBook.lend.{ended, clauses}
use Rattle.turn_book.specs.contracts.book.TurnBook.lend.Key.{name as #self}
use Rattle.turn_book.proofs.book.TurnBook.lend.Statement.{statement}
use Rattle.turn_book.proofs.book.TurnBook.lend.Code as code

pub lend_spec : {M : Type 1} → statement M
lend_spec 𝓤 𝓛 𝓜 𝓡 wired T U Q P lT lU lQ lP g d d' m m' =
    let H = 𝓛.H in let 𝓣 = tables 𝓤 H 𝓜 𝓡 𝓡.env in let R : RattleType = param 0 T in let W : RattleType = param 1 U in let X : RattleType = param 2 Q in let Y : RattleType = param 3 P in let En = ended T U Q P g d d' in
    let inst = bounded (a_type ∷ a_type ∷ a_type ∷ a_type ∷ []) (T, (U, (Q, (P, tt)))) (dcons d (dcons d' dnil)) in let fn = inst_fn inst code.function in
    let Row : RattleType = table.the_row R W X Y g in let Sr : RattleType = pen.the_row R W X Y g in let self = RefOf (0 ∷ []) tt (plain (λ _. Row)) (λ _. tt) in
    let hs : Stays En.signature.params En.kept = (stay_dropped self yes, (stay_dropped (RefMutOf (0 ∷ []) tt (plain (λ _. Sr)) (λ _. tt)) no, (stay_dropped (plain (λ _. u32)) yes, tt))) in let c = clauses T U Q P g d d' 𝓛 𝓜.mem 𝓡.returns in
    let InEn = inner.ended T U Q P g d d' in let ic = inner.clauses T U Q P g d d' 𝓛 𝓜.mem 𝓡.returns in
    proved 𝓛 En hs c 𝓜 𝓡 (Goes-dropped 𝓛 5 self yes (λ κs x f. refl), (Goes-spent_ref 𝓛 5 (0 ∷ []) tt (plain (λ _. Sr)), (Goes-dropped 𝓛 5 (plain (λ _. u32)) yes (λ κs x f. refl), tt))) (#self inst) fn (code.unfolded 𝓤 H 𝓜 𝓡 wired (T, (U, (Q, (P, tt)))) d d')
    (λ κs. (shr_vals, (mut_vals, (uint_vals w32, tt)))) (λ κs. (shr_Tells (named 0) κs.0 Row, (mut_Tells (named 0) κs.0 Sr, (uint_Tells w32, tt)))) (λ κs qs bounds a gh are.
    let vs = shr_vals a.0 in let ws = mut_vals a.1.0 in let ns = uint_vals w32 a.1.1.0 in
    let y : (walk_of 𝓛 En hs c).Ghost = ((κs, qs, bounds, a, (vs, (ws, (ns, tt)))), gh) in let Post : Val → SProp 𝓤 = (walk_of 𝓛 En hs c).post y in
    let G = triple_of 𝓛 InEn.signature (inner.spec T U Q P g d d' 𝓛 𝓜.mem 𝓡.returns) in
    let b : Args InEn.signature κs = (a.1.0, (a.0, (a.1.1.0, tt))) in
    let z : G.Ghost = ((κs, qs, bounds, b, (ws, (vs, (ns, tt)))), gh) in
    let Lent = λ (r : MutBor U.Denot) (us : List Val). (MutRef (named 0) κs.0 W).own_val r us in
    qed 𝓛 ((raw (alive 𝓛 En.signature κs qs) ⊛ ‵ (owns (types_at En.signature.params κs) a y.0.4)) ∷ raw ((c κs a).requires gh) ∷ []) ∵
    split ! $ move ! (1 ∷ []) $ fsplit3 ! $
    enter ! 𝓣.C 𝓣.Λ fn (vptr a.0.ref_ptr.0 a.0.ref_ptr.1 ∷ vptr a.1.0.ref_ptr.0 a.1.0.ref_ptr.1 ∷ vint w32 a.1.1.0 ∷ []) Post $ alloc_all ! (λ l. pass_all ! refl ((tt, tt), ((tt, tt), ((tt, record { fits = are.1.1.0.1 }), tt))) $
    sets ! (addr ! (through ! refl (stop !))) refl (tt, tt) $
    move ! (0 ∷ 2 ∷ []) $ fjoin ! $ move ! (1 ∷ 0 ∷ []) $ fjoin ! $ move ! (1 ∷ 0 ∷ []) $ join ! $ join ! $ use1 𝓛 (raw (G.pre z)) (id⊢ 𝓤 _) $
    calls_at ! (framed 𝓤 H 𝓜 𝓣) G (met 𝓤 𝓛 𝓜 𝓡 (code.calls-turn_book::lend::part_of 𝓡.env wired) T U Q P lT lU lQ lP g d d' m m') z
    (and_then ! (get ! refl) (and_then ! (get ! refl) (and_then ! (get ! refl) (no_more !)))) (λ v.
    use1 𝓛 (later (some (λ (r : MutBor U.Denot). (raw (alive 𝓛 En.signature κs qs) ⊛ ‵ (Lent r (v ∷ []))) ⊛ some (λ (e : Lasts InEn κs b). ‵ (lasts InEn κs b e) ⊛ raw ((ic κs b).ensures gh r (at_exit InEn κs b e)))))) (id⊢ 𝓤 _) $
    await ! tt $ pick ! (λ r. split ! $ split ! $ move ! (2 ∷ []) $ pick ! (λ e. split ! $ drop ! $ move ! (2 ∷ []) $ fsplit3 ! $ feq_l ! (λ is.
    let val : Val = vptr r.ref_ptr.0 r.ref_ptr.1 in lands_as ! (ap only is) refl (tt, tt) $
    feq_i ! (List Val) (val ∷ []) (val ∷ []) refl $ fjoin3 ! $ nothing ! $ nothing ! $ fjoin ! $ nothing ! $ fjoin ! $ nothing ! $ fjoin ! $
    returns ! (look_at ! 0 refl) $ free_all ! refl $ keep ! (3 ∷ 0 ∷ 1 ∷ 2 ∷ []) $ by ! (leaves 𝓛 En hs c y val r (tt, (tt, (tt, tt))) (tt, (tt, (tt, tt))))))))))
