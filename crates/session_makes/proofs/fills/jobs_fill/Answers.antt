-- What the proof of `fills::jobs_fill` needs beside the tactics.
use Rattle.std.proofs.Common.{Bool, ◌&&◌, sym, ap, ◌∙◌}
use Rattle.std.specs.Prelude.{bytes_eq}
use Rattle.std.specs.List.{list_any}
use Rattle.node_model.specs.Jobs.{Work}
use Rattle.state_jobs.specs.Works.{work_of}
use Rattle.session_makes.proofs.ServedLemmas.{any_map}
use Rattle.session_makes.proofs.fills.jobs_fill.Goals as goal

pub returns : goal.returns
returns c =
    let fills : Work → Bool = λ w. w.fills && bytes_eq w.what.key c.args.key.now in
    c.any_fills.ensures ∙ sym (any_map fills work_of c.running.result.now) ∙ ap (list_any fills) c.running.ensures
