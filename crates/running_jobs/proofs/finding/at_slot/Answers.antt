-- The job in the slot.
use Rattle.std.proofs.Common.{sym, ◌∙◌}
use Rattle.running_jobs.proofs.Placing.{idle_idle, none_idle, ready_found}
use Rattle.running_jobs.proofs.finding.at_slot.Goals as goal

pub returns-in_default-clause-finds : goal.returns-in_default-clause-finds
returns-in_default-clause-finds c = none_idle c.args.place.now c.args.clock c.args.ends.now c.args.jobs.now c.args.time c.args.slot (sym c.index_of.ensures ∙ c.in_default.is)

pub returns-in-Some-2-clause-finds : goal.returns-in-Some-2-clause-finds
returns-in-Some-2-clause-finds c =
    ready_found c.args.place.now c.args.clock c.args.ends.now c.args.jobs.now c.args.time c.args.slot c.in-Some.index (sym c.index_of.ensures ∙ c.in-Some.is) c.index-jobs-index.result c.index-jobs-index.is
    c.in_ok-told.field-0 c.in-Some-2.told c.in-Some-2.is c.in_ok-told.ensures.answers c.in_ok-told.ensures.told c.in_ok-told.ensures.waits

pub returns-in-None-clause-finds : goal.returns-in-None-clause-finds
returns-in-None-clause-finds c =
    idle_idle c.args.place.now c.args.clock c.args.ends.now c.args.jobs.now c.args.time c.args.slot c.in-Some.index (sym c.index_of.ensures ∙ c.in-Some.is) c.index-jobs-index.result c.index-jobs-index.is
    c.in_ok-told.field-0 c.in-None.is c.in_ok-told.ensures.answers
