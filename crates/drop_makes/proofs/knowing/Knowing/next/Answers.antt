-- What the proof of `knowing::Knowing::next` needs beside the tactics.
use Rattle.std.proofs.Common.{ap, ◌∙◌}
use Rattle.std.specs.Prelude.{find}
use Rattle.node_model.specs.Knows.{asks_by}
use Rattle.state_jobs.specs.Works.{work_of}
use Rattle.drop_makes.specs.Knowings.{reading_in}
use Rattle.drop_makes.proofs.knowing.Knowing.next.Goals as goal

pub returns : goal.returns
returns c = λ s st.
    let k = c.args.self.now in
    c.next.ensures ∙ ap (find (asks_by (reading_in k.turn.now k.logs.now) (work_of k.turn.now.work.now))) (c.deref.ensures.value ∙ k.asked)
