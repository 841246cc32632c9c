-- What the proof of `forcing::is_too_old` needs beside the tactics.
use Rattle.std.proofs.Common.{ap, ℕ, ◌∙◌, ◌≡◌, ◌&&◌, if◌then◌else◌}
use Rattle.step_makes.proofs.NeedLemmas.{nil_if}
use Rattle.std.specs.Prelude.{nat_lt}
use Rattle.job_makes.specs.Turns.{turn_in}
use Rattle.node_model.specs.JobStep.{end_with}
use Rattle.node_model.specs.DropStep.{target}
use Rattle.step_makes.proofs.forcing.is_too_old.Goals as goal

pub returns : goal.returns
returns c = λ s st.
    let t = turn_in c.args.turn.now s st in
    let p : ℕ = target t in
    let here : c.is_open.result ≡ (end_with t p).opened = c.is_open.ensures s st ∙ ap (λ (q : ℕ). (end_with t q).opened) c.target.ensures in
    c.both.ensures ∙ (λ i. here i && c.is_old.ensures i) ∙ nil_if ((end_with t p).opened && nat_lt t.w.version 3) p
