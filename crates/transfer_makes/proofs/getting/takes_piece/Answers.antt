-- What the proof of `getting::takes_piece` needs beside the tactics.
use Rattle.std.proofs.Common.{Bool, if◌then◌else◌, [], ◌∷◌, Some, sym, ap, ◌∙◌}
use Rattle.node_model.specs.JobStep.{attempts, quietly, talk, wrong_message}
use Rattle.annex_base.specs.declared.kinds.Call.TheVariants.{Append}
use Rattle.step_judging.specs.Same.{same_effect}
use Rattle.step_judging.specs.Rules.{effect_of}
use Rattle.job_makes.specs.Turns.{turn_in}
use Rattle.transfer_makes.proofs.getting.takes_piece.Goals as goal

pub returns-then-is_piece : goal.returns-then-is_piece
returns-then-is_piece c = λ s st.
    let t = turn_in c.args.turn.now s st in
    let f = c.args.frame.now in
    c.appends.ensures s st
    ∙ ap (λ (b : Bool). same_effect (if b then attempts t (Append ∷ []) (Some f) (quietly (talk t) (Some f)) else wrong_message t f c.args.peer) (effect_of c.args.turn.now.told.now)) (sym c.if-is_piece.true ∙ c.is_piece.ensures)

pub returns-else-is_piece : goal.returns-else-is_piece
returns-else-is_piece c = λ s st.
    let t = turn_in c.args.turn.now s st in
    let f = c.args.frame.now in
    c.wrong_message.ensures s st
    ∙ ap (λ (b : Bool). same_effect (if b then attempts t (Append ∷ []) (Some f) (quietly (talk t) (Some f)) else wrong_message t f c.args.peer) (effect_of c.args.turn.now.told.now)) (sym c.if-is_piece.false ∙ c.is_piece.ensures)
