-- A message is sent, and a Close.
use Rattle.std.proofs.Common.{List, [], ◌∷◌, ◌++◌, refl, sym, ap, subst, ◌∙◌, append_assoc}
use Rattle.run_data.specs.declared.entry.FrameView.{FrameView}
use Rattle.node_crash.proofs.Ends.{stay_on}
use Rattle.node_parts.specs.Sending.{IsPlaced}
use Rattle.node_parts.proofs.Posting.{first_place}
use Rattle.node_parts.proofs.Posts.{posts_on}
use Rattle.node_parts.proofs.sending.post_last.Goals as goal

pub returns-clause-posted : goal.returns-clause-posted
returns-clause-posted c = λ was taken before. c.post.ensures.posted was taken (c.post_said.ensures.posted was taken before)

pub returns-clause-well : goal.returns-clause-well
returns-clause-well c = λ was taken f g before quiet of_f of_g all.
    let sent = c.args.sent.now.items in
    let first = c.post_said.ensures.well was taken f before quiet of_f (first_place was taken sent (g ∷ []) f all) in
    c.post.ensures.well was taken g (c.post_said.ensures.posted was taken before) quiet of_g (subst (λ (l : List FrameView). IsPlaced was taken l g) (sym first) (all (f ∷ []) [] g refl))
    ∙ ap (λ (l : List FrameView). l ++ g ∷ []) first
    ∙ append_assoc sent (f ∷ []) (g ∷ [])

pub returns-clause-paired : goal.returns-clause-paired
returns-clause-paired c = stay_on c.args.ends.now c.post_said.new.ends c.post.new.ends c.post_said.ensures.paired c.post.ensures.paired

pub returns-clause-posts : goal.returns-clause-posts
returns-clause-posts c =
    posts_on c.args.stamp c.args.ends.now c.post_said.new.ends c.post.new.ends c.args.sent.now.items c.post_said.new.sent.items c.post.new.sent.items c.post_said.ensures.posts c.post.ensures.posts
