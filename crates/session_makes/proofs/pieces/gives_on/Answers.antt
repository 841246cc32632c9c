-- What the proof of `pieces::gives_on` needs beside the tactics.
use Rattle.std.proofs.Common.{ℕ, sym, ap, ◌∙◌}
use Rattle.node_model.specs.SessionStep.{on_piece}
use Rattle.session_makes.specs.Scenes.{here_in, is_reply, is_reply_if}
use Rattle.session_makes.proofs.ExpectingLemmas.{gives_piece}
use Rattle.session_makes.proofs.pieces.gives_on.Goals as goal

pub returns-else-left-eq0 : goal.returns-else-left-eq0
returns-else-left-eq0 c = λ filled.
    let h = here_in c.args.scene.now filled in
    c.piece.ensures filled ∙ ap (λ (n : ℕ). is_reply c.args.scene.now (on_piece h c.args.key.now c.args.at n)) c.min.ensures
    ∙ ap (is_reply_if c.args.scene.now) (sym (gives_piece h c.args.key.now c.args.at c.args.left c.args.good c.if-left-eq0.false))
