-- What the proof of `working::Working::ready` needs beside the tactics.
use Rattle.std.proofs.Common.{List, ℕ, Option, IfSome, length, option_copied, option_map, sym, subst}
use Rattle.annex_base.specs.Lists.{Each}
use Rattle.node_model.specs.Jobs as jobs
use Rattle.state_jobs.specs.Works.{work_of}
use Rattle.state_owed.specs.Changes.{TalksWithin}
use Rattle.state_works.specs.Jobs.{works_of}
use Rattle.step_state.specs.Places.{count_in}
use Rattle.step_state.proofs.PeerLemmas.{talker_within}
use Rattle.step_state.proofs.working.Working.ready.Goals as goal

pub ready-requires-3-clause-job : goal.ready-requires-3-clause-job
ready-requires-3-clause-job c =
    let count = count_in c.args.place.now in
    let all : Each (TalksWithin count) (works_of c.ready.new.self) =
    subst (λ (ws : List jobs.Work). Each (TalksWithin count) ws) (sym c.ready.ensures.same.works) c.requires.within.jobs in
    subst (λ (ids : List (List ℕ)). IfSome (option_map work_of (option_copied c.talker-job.result)) (TalksWithin (length ids))) (sym c.ids-ids.ensures)
    (subst (λ (w : Option jobs.Work). IfSome w (TalksWithin count)) (sym c.talker-job.ensures) (talker_within count (works_of c.ready.new.self) c.args.entry.now.kind all))
