-- One more job.
use Rattle.std.proofs.Common.{◌<◌, length, subst}
use Rattle.running_jobs.specs.Running.{Jobs}
use Rattle.running_jobs.proofs.Beginning.{begins_so, fed_begun, filled_begun, owns_begun, works_begun}
use Rattle.running_jobs.proofs.jobs.Jobs.begin.Goals as goal

pub returns-clause-begins : goal.returns-clause-begins
returns-clause-begins c =
    let jobs : Jobs = record { place = c.self.inside.place; running = c.self.inside.running.items; begun = c.self.inside.begun } in
    begins_so jobs c.args.self.now c.args.what c.args.paths _ c.new_task-task.result c.find_slot.new.running.items c.add.new.running.items c.self.view_is c.find_slot.ensures.items c.in_ok-slot.ensures.slot c.new_task-task.ensures c.add.ensures

pub returns-clause-works : goal.returns-clause-works
returns-clause-works c = λ rows s st e st' own are kind follows.
    let jobs : Jobs = record { place = c.self.inside.place; running = c.self.inside.running.items; begun = c.self.inside.begun } in
    let now : Jobs = record { place = c.self.inside.place; running = c.add.new.running.items; begun = _ } in
    works_begun c.args.self.now now c.args.what c.args.paths
    (begins_so jobs c.args.self.now c.args.what c.args.paths _ c.new_task-task.result c.find_slot.new.running.items c.add.new.running.items c.self.view_is c.find_slot.ensures.items c.in_ok-slot.ensures.slot c.new_task-task.ensures c.add.ensures)
    rows s st e st' own are kind follows

pub returns-clause-owns : goal.returns-clause-owns
returns-clause-owns c = λ rows own.
    let jobs : Jobs = record { place = c.self.inside.place; running = c.self.inside.running.items; begun = c.self.inside.begun } in
    let now : Jobs = record { place = c.self.inside.place; running = c.add.new.running.items; begun = _ } in
    owns_begun c.args.self.now now c.args.what c.args.paths
    (begins_so jobs c.args.self.now c.args.what c.args.paths _ c.new_task-task.result c.find_slot.new.running.items c.add.new.running.items c.self.view_is c.find_slot.ensures.items c.in_ok-slot.ensures.slot c.new_task-task.ensures c.add.ensures)
    rows c.requires.may (subst (λ (js : Jobs). length js.running < 4) c.self.view_is c.in_ok-slot.ensures.free) own

pub returns-clause-filled : goal.returns-clause-filled
returns-clause-filled c = λ rows others are.
    let jobs : Jobs = record { place = c.self.inside.place; running = c.self.inside.running.items; begun = c.self.inside.begun } in
    let now : Jobs = record { place = c.self.inside.place; running = c.add.new.running.items; begun = _ } in
    filled_begun c.args.self.now now c.args.what c.args.paths
    (begins_so jobs c.args.self.now c.args.what c.args.paths _ c.new_task-task.result c.find_slot.new.running.items c.add.new.running.items c.self.view_is c.find_slot.ensures.items c.in_ok-slot.ensures.slot c.new_task-task.ensures c.add.ensures)
    rows others are

pub returns-clause-fed : goal.returns-clause-fed
returns-clause-fed c = λ q fed.
    let jobs : Jobs = record { place = c.self.inside.place; running = c.self.inside.running.items; begun = c.self.inside.begun } in
    let now : Jobs = record { place = c.self.inside.place; running = c.add.new.running.items; begun = _ } in
    fed_begun c.args.self.now now c.args.what c.args.paths
    (begins_so jobs c.args.self.now c.args.what c.args.paths _ c.new_task-task.result c.find_slot.new.running.items c.add.new.running.items c.self.view_is c.find_slot.ensures.items c.in_ok-slot.ensures.slot c.new_task-task.ensures c.add.ensures)
    q fed
