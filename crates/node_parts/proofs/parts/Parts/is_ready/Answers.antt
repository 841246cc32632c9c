-- Whether there is a step.
use Rattle.std.proofs.Common.{List, sym, subst, ◌∙◌}
use Rattle.std.proofs.lemmas.Result.{IfOk-weaker}
use Rattle.link_ring.specs.Ends.{EndView}
use Rattle.running_jobs.specs.Acting.{SeesJobs}
use Rattle.node_parts.specs.Parts.{PartsView}
use Rattle.node_parts.specs.Steps.{SeesParts}
use Rattle.node_parts.proofs.Acted.{job_ready, session_ready}
use Rattle.node_parts.proofs.parts.Parts.is_ready.Goals as goal

pub returns-then-is_ready-clause-ready : goal.returns-then-is_ready-clause-ready
returns-then-is_ready-clause-ready c = λ x s st k sees.
    let p : PartsView = record { table = c.self.inside.table; links = c.self.inside.ends; sessions = c.self.inside.sessions; jobs = c.self.inside.jobs } in
    let m = c.args.moment in
    session_ready p x m.clock m.time m.number s st k (subst (λ (q : PartsView). SeesParts q x m.clock m.time m.number s st k) (sym c.self.view_is) sees)
    (λ ends looks sessions. c.is_ready.ensures.ready s st k ends looks sessions ∙ c.if-is_ready.true)

pub returns-clause-ready : goal.returns-clause-ready
returns-clause-ready c =
    let p : PartsView = record { table = c.self.inside.table; links = c.self.inside.ends; sessions = c.self.inside.sessions; jobs = c.self.inside.jobs } in
    let m = c.args.moment in
    IfOk-weaker c.is_ready-2.result _ _ (λ b ready. λ x s st k sees.
    job_ready p x m.clock m.time m.number s st k (subst (λ (q : PartsView). SeesParts q x m.clock m.time m.number s st k) (sym c.self.view_is) sees) c.nameless_are_asked.ensures c.sessions_and_jobs_fill.ensures c.self.invariant b
    (λ ends looks sessions. c.is_ready.ensures.ready s st k ends looks sessions ∙ c.if-is_ready.false)
    (λ view jobs keeps. ready view m.number p.table x s st k (subst (λ (l : List EndView). SeesJobs l m.clock view p.jobs m.number m.time s st k) (sym c.is_ready.ensures.ends) jobs) keeps))
    c.is_ready-2.ensures.ready
