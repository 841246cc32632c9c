-- What the proof of `putting::answers_from` needs beside the tactics.
use Rattle.std.proofs.Common.{◌≡◌, ℕ, Bool, true, false, if◌then◌else◌, Option, Some, sym, ap, ◌∙◌}
use Rattle.node_model.specs.JobStep.{says_to, talk, wrong_message}
use Rattle.node_model.specs.TransferStep.{content_of}
use Rattle.node_model.specs.SessionStep.{bytes_left}
use Rattle.node_model.specs.Sessions.{reaches}
use Rattle.p2p_wire.specs.declared.message.Message.TheVariants.{Data}
use Rattle.step_judging.specs.Same.{same_effect}
use Rattle.step_judging.specs.Rules.{effect_of}
use Rattle.job_makes.specs.Turns.{turn_in}
use Rattle.transfer_makes.proofs.putting.answers_from.Goals as goal

pub returns-then-reaches : goal.returns-then-reaches
returns-then-reaches c = λ s st.
    let t = turn_in c.args.turn.now s st in
    let f = c.args.frame.now in
    let told = effect_of c.args.turn.now.told.now in
    let has = c.content_of-content.ensures s st in
    let reach : reaches (content_of t) c.args.start ≡ true = ap (λ (o : Option ℕ). reaches o c.args.start) (sym has) ∙ sym c.reaches.ensures ∙ c.if-reaches.true in
    c.says_to.ensures s st (talk t) (c.talks.ensures s st)
    ∙ ap (λ (n : ℕ). same_effect (says_to t (talk t) (Some f) c.args.peer (Data n)) told) (c.bytes_left.ensures ∙ ap (λ (o : Option ℕ). bytes_left o c.args.start) has)
    ∙ ap (λ (b : Bool). same_effect (if b then says_to t (talk t) (Some f) c.args.peer (Data (bytes_left (content_of t) c.args.start)) else wrong_message t f c.args.peer) told) (sym reach)

pub returns-else-reaches : goal.returns-else-reaches
returns-else-reaches c = λ s st.
    let t = turn_in c.args.turn.now s st in
    let f = c.args.frame.now in
    let told = effect_of c.args.turn.now.told.now in
    let reach : reaches (content_of t) c.args.start ≡ false = ap (λ (o : Option ℕ). reaches o c.args.start) (sym (c.content_of-content.ensures s st)) ∙ sym c.reaches.ensures ∙ c.if-reaches.false in
    c.wrong_message.ensures s st ∙ ap (λ (b : Bool). same_effect (if b then says_to t (talk t) (Some f) c.args.peer (Data (bytes_left (content_of t) c.args.start)) else wrong_message t f c.args.peer) told) (sym reach)
