-- Whether the search finds one.
use Rattle.std.proofs.Common.{sym, subst, ◌∙◌}
use Rattle.running_jobs.specs.Finding.{Finds}
use Rattle.running_jobs.specs.Running.{Jobs}
use Rattle.running_jobs.proofs.Stepping.{ready_is, sees_each}
use Rattle.running_jobs.proofs.jobs.Jobs.is_ready.Goals as goal

pub returns-clause-ready : goal.returns-clause-ready
returns-clause-ready c = λ settings number rows contents s st k sees keeps.
    ready_is c.args.self.now.place c.args.clock c.args.ends.now c.args.self.now.running c.args.time c.in_ok-found.found rows contents s st k c.requires.tasks
    (subst (λ (js : Jobs). Finds js.place c.args.clock c.args.ends.now js.running c.args.time c.in_ok-found.found) c.self.view_is (rw c.deref.ensures.value at c.in_ok-found.ensures.finds))
    (sees_each c.args.ends.now c.args.clock settings c.args.self.now number c.args.time s st k sees) keeps sees.works.works
    ∙ sym c.is_some.ensures
