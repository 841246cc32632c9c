-- What is left when all have ended.
use Rattle.std.proofs.Common.{List, sym, subst}
use Rattle.running_jobs.specs.Ending.{CanEnd}
use Rattle.running_jobs.specs.Running.{AreFilled, Jobs, OwnAll}
use Rattle.node_tasks.specs.declared.task.Task.{Task}
use Rattle.running_jobs.proofs.Ends.{can_end, fills_none, owns_none}
use Rattle.running_jobs.proofs.jobs.Jobs.end_all.Goals as goal

pub end_all-requires : goal.end_all-requires
end_all-requires c = subst (λ (js : Jobs). CanEnd c.args.table.now js.running) (sym c.self.view_is) (can_end c.args.self.now c.args.table.now c.requires.owns)

pub returns-clause-owns : goal.returns-clause-owns
returns-clause-owns c =
    let jobs : Jobs = record { place = c.self.inside.place; running = c.self.inside.running.items; begun = c.self.inside.begun } in
    subst (λ (ts : List Task). OwnAll (record jobs { running = ts }) c.end_all.new.table) (sym c.end_all.ensures.none)
    (owns_none jobs c.args.table.now c.end_all.new.table (subst (λ (js : Jobs). OwnAll js c.args.table.now) (sym c.self.view_is) c.requires.owns) c.end_all.ensures.others)

pub returns-clause-filled : goal.returns-clause-filled
returns-clause-filled c = λ others are.
    fills_none c.args.table.now c.end_all.new.table c.self.inside.running.items c.end_all.ensures.fills others (subst (λ (js : Jobs). AreFilled c.args.table.now js.running others) (sym c.self.view_is) are)
