-- The first job that has a step.
use Rattle.std.proofs.Common.{◌≡◌, ◌*◌, length, Option, Some, None, refl, sym, ap, subst}
use Rattle.std.specs.Option.{option_map}
use Rattle.std.proofs.lemmas.Option.{same_Some}
use Rattle.annex_base.specs.Lists.{Each}
use Rattle.annex_base.proofs.Lists.{Each-weaker}
use Rattle.annex_base.proofs.Options.{none_and_some}
use Rattle.annex_base.proofs.Results.{OnErr-always}
use Rattle.trust_groups.specs.View.{settings_of}
use Rattle.node_model.specs.Look.{as_told}
use Rattle.node_model.specs.Turns.{job_step}
use Rattle.drop_phases.specs.Sides.{IsNumbered}
use Rattle.transfer_turns.specs.Steps.{seen}
use Rattle.node_tasks.specs.Tasks.{OwnsOf}
use Rattle.running_jobs.specs.declared.acted.Acted.{Acted}
use Rattle.running_jobs.specs.declared.finding.Found.{Found}
use Rattle.running_jobs.specs.Acting.{SeesActed, SeesJobs, StepsJobs}
use Rattle.running_jobs.specs.Finding.{Finds}
use Rattle.running_jobs.specs.Leaving.{Leaves}
use Rattle.running_jobs.specs.Running.{IsOwn, Jobs, OwnAll}
use Rattle.running_jobs.proofs.Owning.{agrees_after, leaves_after, numbers_after, numbers_still, owns_after}
use Rattle.running_jobs.proofs.Staying.{agrees_still, owns_still, stays_as, stays_here}
use Rattle.running_jobs.proofs.Stepping.{calls_so, none_steps, sees_each, steps_jobs}
use Rattle.running_jobs.proofs.jobs.Jobs.step.Goals as goal

pub returns-in_default-clause-step : goal.returns-in_default-clause-step
returns-in_default-clause-step g c = λ x tells s st k sees keeps acted.
    let jobs : Jobs = c.args.self.now in
    record {
      made = ap (option_map as_told) (none_steps jobs.place c.args.clock c.args.ends.now jobs.running c.args.time c.args.table.now x s st k
          (subst (λ (js : Jobs). Finds js.place c.args.clock c.args.ends.now js.running c.args.time None) c.self.view_is (subst (λ (o : Option Found). Finds c.self.inside.place c.args.clock c.args.ends.now c.self.inside.running.items c.args.time o) c.in_default.is (rw c.deref.ensures.value at c.in_ok-found.ensures.finds)))
          (sees_each c.args.ends.now c.args.clock (settings_of c.args.settings.now) jobs c.args.number c.args.time s st k sees) keeps sees.works.works);
      works = refl;
    }

pub returns-in_default-clause-calls : goal.returns-in_default-clause-calls
returns-in_default-clause-calls g c = λ x tells s st k sees keeps acted m made.
    let jobs : Jobs = c.args.self.now in
    absurd (none_and_some (job_step s st k) m
    (none_steps jobs.place c.args.clock c.args.ends.now jobs.running c.args.time c.args.table.now x s st k
    (subst (λ (js : Jobs). Finds js.place c.args.clock c.args.ends.now js.running c.args.time None) c.self.view_is (subst (λ (o : Option Found). Finds c.self.inside.place c.args.clock c.args.ends.now c.self.inside.running.items c.args.time o) c.in_default.is (rw c.deref.ensures.value at c.in_ok-found.ensures.finds)))
    (sees_each c.args.ends.now c.args.clock (settings_of c.args.settings.now) jobs c.args.number c.args.time s st k sees) keeps sees.works.works)
    made)

pub turn-requires-clause-owns : goal.turn-requires-clause-owns
turn-requires-clause-owns g c =
    subst (λ (js : Jobs). Each (OwnsOf c.args.table.now) js.running) (sym c.self.view_is)
    (Each-weaker (IsOwn c.args.self.now.begun c.args.table.now) (OwnsOf c.args.table.now) (λ t o. o.owns) c.args.self.now.running c.requires.owns.owns)

pub returns-clause-step : goal.returns-clause-step
returns-clause-step g c = λ x tells s st k sees keeps acted.
    let jobs : Jobs = record { place = c.self.inside.place; running = c.self.inside.running.items; begun = c.self.inside.begun } in
    let settings = settings_of c.args.settings.now in
    let was = c.args.keeper.now in
    let now = c.turn.new.keeper in
    let kept = seen (g.K.Keeper.contents was) (g.K.Keeper.parts was) (g.K.Keeper.records was) (g.K.Keeper.files was) (g.K.Keeper.faults was) (g.K.Keeper.failing was) in
    let kept' = seen (g.K.Keeper.contents now) (g.K.Keeper.parts now) (g.K.Keeper.records now) (g.K.Keeper.files now) (g.K.Keeper.faults now) (g.K.Keeper.failing now) in
    subst (λ (js : Jobs). StepsJobs s st k c.args.ends.now js (record { place = c.self.inside.place; running = c.turn.new.running.items; begun = c.self.inside.begun }) (Some c.in_ok-acted.acted)) c.self.view_is
    (steps_jobs c.args.ends.now c.args.clock settings jobs c.args.number c.args.time c.in-Some.found c.args.table.now c.turn.new.table kept kept' c.turn.new.running.items c.in_ok-acted.acted
    (subst (λ (js : Jobs). OwnAll js c.args.table.now) (sym c.self.view_is) c.requires.owns)
    (subst (λ (o : Option Found). Finds c.self.inside.place c.args.clock c.args.ends.now c.self.inside.running.items c.args.time o) c.in-Some.is (rw c.deref.ensures.value at c.in_ok-found.ensures.finds)) (rw c.find_ready.ensures.same at c.in_ok-acted.ensures.changes) x tells s st k
    (subst (λ (js : Jobs). SeesJobs c.args.ends.now c.args.clock settings js c.args.number c.args.time s st k) (sym c.self.view_is) sees) keeps
    (subst (λ (js : Jobs). SeesActed (g.K.Keeper.parts was) c.args.ends.now js k (Some c.in_ok-acted.acted)) (sym c.self.view_is) acted))

pub returns-clause-calls : goal.returns-clause-calls
returns-clause-calls g c = λ x tells s st k sees keeps acted.
    let jobs : Jobs = record { place = c.self.inside.place; running = c.self.inside.running.items; begun = c.self.inside.begun } in
    let settings = settings_of c.args.settings.now in
    let was = c.args.keeper.now in
    let now = c.turn.new.keeper in
    let kept = seen (g.K.Keeper.contents was) (g.K.Keeper.parts was) (g.K.Keeper.records was) (g.K.Keeper.files was) (g.K.Keeper.faults was) (g.K.Keeper.failing was) in
    let kept' = seen (g.K.Keeper.contents now) (g.K.Keeper.parts now) (g.K.Keeper.records now) (g.K.Keeper.files now) (g.K.Keeper.faults now) (g.K.Keeper.failing now) in
    calls_so c.args.ends.now c.args.clock settings jobs c.args.number c.args.time c.in-Some.found c.args.table.now c.turn.new.table kept kept' c.turn.new.running.items c.in_ok-acted.acted
    (subst (λ (js : Jobs). OwnAll js c.args.table.now) (sym c.self.view_is) c.requires.owns)
    (subst (λ (o : Option Found). Finds c.self.inside.place c.args.clock c.args.ends.now c.self.inside.running.items c.args.time o) c.in-Some.is (rw c.deref.ensures.value at c.in_ok-found.ensures.finds)) (rw c.find_ready.ensures.same at c.in_ok-acted.ensures.changes) x tells s st k
    (subst (λ (js : Jobs). SeesJobs c.args.ends.now c.args.clock settings js c.args.number c.args.time s st k) (sym c.self.view_is) sees) keeps
    (subst (λ (js : Jobs). SeesActed (g.K.Keeper.parts was) c.args.ends.now js k (Some c.in_ok-acted.acted)) (sym c.self.view_is) acted)

pub returns-clause-owns : goal.returns-clause-owns
returns-clause-owns g c =
    let jobs : Jobs = record { place = c.self.inside.place; running = c.self.inside.running.items; begun = c.self.inside.begun } in
    let was = c.args.keeper.now in
    let now = c.turn.new.keeper in
    let kept = seen (g.K.Keeper.contents was) (g.K.Keeper.parts was) (g.K.Keeper.records was) (g.K.Keeper.files was) (g.K.Keeper.faults was) (g.K.Keeper.failing was) in
    let kept' = seen (g.K.Keeper.contents now) (g.K.Keeper.parts now) (g.K.Keeper.records now) (g.K.Keeper.files now) (g.K.Keeper.faults now) (g.K.Keeper.failing now) in
    owns_after c.args.ends.now c.args.clock (settings_of c.args.settings.now) jobs c.args.number c.args.time c.in-Some.found c.args.table.now c.turn.new.table kept kept' c.turn.new.running.items c.in_ok-acted.acted
    (subst (λ (js : Jobs). OwnAll js c.args.table.now) (sym c.self.view_is) c.requires.owns) (rw c.find_ready.ensures.same at c.in_ok-acted.ensures.changes)

pub returns-clause-leaves : goal.returns-clause-leaves
returns-clause-leaves g c =
    let jobs : Jobs = record { place = c.self.inside.place; running = c.self.inside.running.items; begun = c.self.inside.begun } in
    let was = c.args.keeper.now in
    let now = c.turn.new.keeper in
    let kept = seen (g.K.Keeper.contents was) (g.K.Keeper.parts was) (g.K.Keeper.records was) (g.K.Keeper.files was) (g.K.Keeper.faults was) (g.K.Keeper.failing was) in
    let kept' = seen (g.K.Keeper.contents now) (g.K.Keeper.parts now) (g.K.Keeper.records now) (g.K.Keeper.files now) (g.K.Keeper.faults now) (g.K.Keeper.failing now) in
    subst (λ (js : Jobs). Leaves c.args.ends.now js (record { place = c.self.inside.place; running = c.turn.new.running.items; begun = c.self.inside.begun }) c.args.table.now c.turn.new.table kept kept' c.in_ok-acted.acted) c.self.view_is
    (leaves_after c.args.ends.now c.args.clock (settings_of c.args.settings.now) jobs c.args.number c.args.time c.in-Some.found c.args.table.now c.turn.new.table kept kept' c.turn.new.running.items c.in_ok-acted.acted
    (subst (λ (js : Jobs). OwnAll js c.args.table.now) (sym c.self.view_is) c.requires.owns) (rw c.find_ready.ensures.same at c.in_ok-acted.ensures.changes)
    (subst (λ (o : Option Found). Finds c.self.inside.place c.args.clock c.args.ends.now c.self.inside.running.items c.args.time o) c.in-Some.is (rw c.deref.ensures.value at c.in_ok-found.ensures.finds))
    (subst (λ (js : Jobs). length c.args.ends.now ≡ length js.place.ids * 8) (sym c.self.view_is) c.requires.count))

pub returns-in_err-found-clause-err : goal.returns-in_err-found-clause-err
returns-in_err-found-clause-err g c =
    let was = c.args.keeper.now in
    OnErr-always _ c.from_residual.result
    (stays_here c.args.self.now c.args.table.now (seen (g.K.Keeper.contents was) (g.K.Keeper.parts was) (g.K.Keeper.records was) (g.K.Keeper.files was) (g.K.Keeper.faults was) (g.K.Keeper.failing was)))

pub returns-in_err-acted-clause-err : goal.returns-in_err-acted-clause-err
returns-in_err-acted-clause-err g c =
    let was = c.args.keeper.now in
    let now = c.turn.new.keeper in
    let kept = seen (g.K.Keeper.contents was) (g.K.Keeper.parts was) (g.K.Keeper.records was) (g.K.Keeper.files was) (g.K.Keeper.faults was) (g.K.Keeper.failing was) in
    let kept' = seen (g.K.Keeper.contents now) (g.K.Keeper.parts now) (g.K.Keeper.records now) (g.K.Keeper.files now) (g.K.Keeper.faults now) (g.K.Keeper.failing now) in
    OnErr-always _ c.from_residual-in_err-acted.result
    (stays_as (record { place = c.self.inside.place; running = c.self.inside.running.items; begun = c.self.inside.begun }) c.args.self.now c.turn.new.running.items c.args.table.now c.turn.new.table kept kept' c.self.view_is c.in_err-acted.ensures.err)

pub returns-in_err-acted-clause-owns : goal.returns-in_err-acted-clause-owns
returns-in_err-acted-clause-owns g c =
    let was = c.args.keeper.now in
    let now = c.turn.new.keeper in
    let kept = seen (g.K.Keeper.contents was) (g.K.Keeper.parts was) (g.K.Keeper.records was) (g.K.Keeper.files was) (g.K.Keeper.faults was) (g.K.Keeper.failing was) in
    let kept' = seen (g.K.Keeper.contents now) (g.K.Keeper.parts now) (g.K.Keeper.records now) (g.K.Keeper.files now) (g.K.Keeper.faults now) (g.K.Keeper.failing now) in
    owns_still (record { place = c.self.inside.place; running = c.self.inside.running.items; begun = c.self.inside.begun }) c.args.self.now c.turn.new.running.items c.args.table.now c.turn.new.table kept kept' c.self.view_is c.in_err-acted.ensures.err
    c.requires.owns

pub returns-clause-agrees : goal.returns-clause-agrees
returns-clause-agrees g c =
    let jobs : Jobs = record { place = c.self.inside.place; running = c.self.inside.running.items; begun = c.self.inside.begun } in
    let was = c.args.keeper.now in
    let now = c.turn.new.keeper in
    let kept = seen (g.K.Keeper.contents was) (g.K.Keeper.parts was) (g.K.Keeper.records was) (g.K.Keeper.files was) (g.K.Keeper.faults was) (g.K.Keeper.failing was) in
    let kept' = seen (g.K.Keeper.contents now) (g.K.Keeper.parts now) (g.K.Keeper.records now) (g.K.Keeper.files now) (g.K.Keeper.faults now) (g.K.Keeper.failing now) in
    agrees_after c.args.ends.now c.args.clock (settings_of c.args.settings.now) jobs c.args.number c.args.time c.in-Some.found c.args.table.now c.turn.new.table kept kept' c.turn.new.running.items c.in_ok-acted.acted
    (subst (λ (js : Jobs). OwnAll js c.args.table.now) (sym c.self.view_is) c.requires.owns) (rw c.find_ready.ensures.same at c.in_ok-acted.ensures.changes) c.requires.agrees

pub returns-clause-numbered : goal.returns-clause-numbered
returns-clause-numbered g c = λ x is.
    let same : c.in_ok-acted.acted ≡ x = same_Some c.in_ok-acted.acted x is in
    subst (λ (a : Acted). IsNumbered c.args.number a.kind) same c.in_ok-acted.ensures.changes.leaves.numbered

pub returns-in_err-acted-clause-agrees : goal.returns-in_err-acted-clause-agrees
returns-in_err-acted-clause-agrees g c =
    let was = c.args.keeper.now in
    let now = c.turn.new.keeper in
    let kept = seen (g.K.Keeper.contents was) (g.K.Keeper.parts was) (g.K.Keeper.records was) (g.K.Keeper.files was) (g.K.Keeper.faults was) (g.K.Keeper.failing was) in
    let kept' = seen (g.K.Keeper.contents now) (g.K.Keeper.parts now) (g.K.Keeper.records now) (g.K.Keeper.files now) (g.K.Keeper.faults now) (g.K.Keeper.failing now) in
    agrees_still c.self.inside.running.items c.turn.new.running.items c.args.table.now c.turn.new.table kept kept' c.in_err-acted.ensures.err c.requires.agrees

pub returns-in_default-clause-numbers : goal.returns-in_default-clause-numbers
returns-in_default-clause-numbers g c = numbers_still c.holds_are_numbered.ensures c.args.number c.args.table.now c.requires.fresh

pub returns-clause-numbers : goal.returns-clause-numbers
returns-clause-numbers g c =
    let jobs : Jobs = record { place = c.self.inside.place; running = c.self.inside.running.items; begun = c.self.inside.begun } in
    let was = c.args.keeper.now in
    let now = c.turn.new.keeper in
    let kept = seen (g.K.Keeper.contents was) (g.K.Keeper.parts was) (g.K.Keeper.records was) (g.K.Keeper.files was) (g.K.Keeper.faults was) (g.K.Keeper.failing was) in
    let kept' = seen (g.K.Keeper.contents now) (g.K.Keeper.parts now) (g.K.Keeper.records now) (g.K.Keeper.files now) (g.K.Keeper.faults now) (g.K.Keeper.failing now) in
    numbers_after c.args.ends.now c.args.clock (settings_of c.args.settings.now) jobs c.args.number c.args.time c.in-Some.found c.args.table.now c.turn.new.table kept kept' c.turn.new.running.items c.in_ok-acted.acted
    (subst (λ (js : Jobs). OwnAll js c.args.table.now) (sym c.self.view_is) c.requires.owns) (rw c.find_ready.ensures.same at c.in_ok-acted.ensures.changes) c.holds_are_numbered.ensures c.requires.fresh
