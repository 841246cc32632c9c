-- What the proof of `putting::gives_piece` needs beside the tactics.
use Rattle.std.proofs.Common.{◌≡◌, ℕ, ◌+◌, Bool, true, false, if◌then◌else◌, [], ◌∷◌, Option, None, sym, ap, ◌∙◌}
use Rattle.node_model.specs.JobStep.{sends_to, talk}
use Rattle.node_model.specs.Sessions.{reaches}
use Rattle.node_model.specs.TransferStep.{content_of}
use Rattle.run_data.specs.declared.entry.FrameText.TheVariants.{Bytes, Closing}
use Rattle.step_judging.specs.Same.{same_effect}
use Rattle.step_judging.specs.Rules.{effect_of}
use Rattle.job_makes.specs.Turns.{turn_in}
use Rattle.transfer_makes.proofs.putting.gives_piece.Goals as goal

pub returns-then-reaches_past : goal.returns-then-reaches_past
returns-then-reaches_past c = λ s st.
    let t = turn_in c.args.turn.now s st in
    let reach : reaches (content_of t) (c.args.at + c.args.count) ≡ true = ap (λ (o : Option ℕ). reaches o (c.args.at + c.args.count)) (sym (c.content_of.ensures s st)) ∙ sym c.reaches_past.ensures ∙ c.if-reaches_past.true in
    c.gives_to.ensures s st ∙ ap (λ (b : Bool). same_effect (sends_to t (talk t) None c.args.peer ((if b then Bytes c.args.count else Closing) ∷ [])) (effect_of c.args.turn.now.told.now)) (sym reach)

pub returns-else-reaches_past : goal.returns-else-reaches_past
returns-else-reaches_past c = λ s st.
    let t = turn_in c.args.turn.now s st in
    let reach : reaches (content_of t) (c.args.at + c.args.count) ≡ false = ap (λ (o : Option ℕ). reaches o (c.args.at + c.args.count)) (sym (c.content_of.ensures s st)) ∙ sym c.reaches_past.ensures ∙ c.if-reaches_past.false in
    c.closes_to.ensures s st ∙ ap (λ (b : Bool). same_effect (sends_to t (talk t) None c.args.peer ((if b then Bytes c.args.count else Closing) ∷ [])) (effect_of c.args.turn.now.told.now)) (sym reach)
