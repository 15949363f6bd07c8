use Rattle.std.proofs.Common.{◌≡◌, ◌+◌, ap, ◌∙◌, sym, subst, arith}
use Rattle.turn_book.specs.Views.{drafted_view}
use Rattle.turn_book.specs.Plays.{LeadsOn, HasDrafted}
use Rattle.book_rows.specs.declared.posting.Post.TheVariants.{Set}
use Rattle.book_rows.specs.declared.posting.Posts.{Posts}
use Rattle.book_rows.specs.Posting.{Posted, words_of}
use Rattle.book_rows.proofs.Numbers.{may_set, both_drafted}
use Rattle.book_rows.proofs.publishing.post_once.Goals as goal

pub add_post-requires-clause-step : goal.add_post-requires-clause-step
add_post-requires-clause-step c =
    let v = c.args.pen.now.seat.me.0 in
    let x = c.args.number in
    let w : c.spare-2.new.pen.seat.me.0 ≡ drafted_view 1 (x + 1) (drafted_view 0 x v) = c.spare-2.ensures.drafted ∙ ap (drafted_view 1 (x + 1)) c.spare.ensures.drafted in
    subst (λ u. LeadsOn Posted c.args.had u (Set c.args.caller x)) (sym w) (may_set v c.args.had c.args.caller x c.requires.legal (omega (arith, c.if-had-ge-MOST.false)) c.requires.generation (omega (arith, c.if-had-ge-MOST_POSTS.false)) c.requires.number)

pub add_post-requires-clause-drafted : goal.add_post-requires-clause-drafted
add_post-requires-clause-drafted c = λ publishes.
    let v = c.args.pen.now.seat.me.0 in
    let x = c.args.number in
    let w : c.spare-2.new.pen.seat.me.0 ≡ drafted_view 1 (x + 1) (drafted_view 0 x v) = c.spare-2.ensures.drafted ∙ ap (drafted_view 1 (x + 1)) c.spare.ensures.drafted in
    subst (λ u. HasDrafted Posted words_of c.args.had u (Set c.args.caller x)) (sym w) (λ s t at step. both_drafted x t v.drafts (ap (λ (y : Posts). y.posted) step.3))
