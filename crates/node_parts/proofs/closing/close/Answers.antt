-- What the proof of `closing::close` needs beside the tactics.
use Rattle.std.proofs.Common.{ℕ, Bool, List, [], ◌∷◌, ◌++◌, None, refl, sym, ap, subst, ◌∙◌}
use Rattle.run_data.specs.declared.entry.EntryKind.TheVariants.{Close}
use Rattle.run_data.specs.declared.entry.FrameText.TheVariants.{Closing}
use Rattle.run_data.specs.declared.entry.FrameView.{FrameView}
use Rattle.node_model.specs.Ends.{frames}
use Rattle.node_model.specs.Look.{Effect}
use Rattle.node_ends.specs.Ends.{end_at, name_of}
use Rattle.node_ends.specs.Going.{AreAfter}
use Rattle.node_parts.specs.Sending.{PostsOnly}
use Rattle.node_parts.proofs.Posts.{posts_nothing}
use Rattle.node_parts.proofs.closing.close.Goals as goal

-- the entry of the close that sent these
abbrev closing : ℕ → ℕ → Bool → List FrameView → Effect
closing peer slot client sent = record { kind = Close peer slot client; taken = None; sent = sent; lines = []; calls = [] }

pub returns-clause-made : goal.returns-clause-made
returns-clause-made c =
    let a = name_of c.args.id in
    ap (closing a.peer a.slot a.client)
    (c.from_vec.ensures ∙ (c.close_if-sent.ensures.sent ∙ ap (λ (fs : List FrameView). fs ++ frames a (end_at c.args.ends.now a) (Closing ∷ [])) c.requires.empty))

pub returns-clause-after : goal.returns-clause-after
returns-clause-after c =
    subst (λ (fs : List FrameView). AreAfter c.args.ends.now c.close_if-sent.new.ends None fs) (sym c.from_vec.ensures)
    (c.close_if-sent.ensures.after c.args.ends.now None (subst (λ (fs : List FrameView). AreAfter c.args.ends.now c.args.ends.now None fs) (sym c.requires.empty) (c.ends_go_on.ensures.begin c.args.ends.now)))

pub returns-clause-posts : goal.returns-clause-posts
returns-clause-posts c =
    let kind = Close c.args.id.peer c.args.id.slot c.args.id.client in
    let was = c.args.ends.now in
    subst (λ (fs : List FrameView). PostsOnly [] c.args.stamp kind was c.close_if-sent.new.ends None fs) (sym c.from_vec.ensures)
    (c.close_if-sent.ensures.posts [] kind was None (subst (λ (fs : List FrameView). PostsOnly [] c.args.stamp kind was was None fs) (sym c.requires.empty) (posts_nothing was was refl [] c.args.stamp kind)))
