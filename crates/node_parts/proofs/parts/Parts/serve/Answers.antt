-- What the proof of `parts::Parts::serve` needs beside the tactics.
use Rattle.std.proofs.Common.{List, length, ◌+◌, Option, Some, refl, sym, ap, subst, ◌∙◌, arith}
use Rattle.std.specs.Option.{ForSome, option_map}
use Rattle.annex_base.specs.declared.kinds.Call.{Call}
use Rattle.run_data.specs.declared.entry.By.TheVariants.{Job as by_job}
use Rattle.link_ring.specs.Ends.{EndView}
use Rattle.node_model.specs.Look.{Effect}
use Rattle.node_model.specs.SessionStep.{session_step}
use Rattle.content_lock.specs.CallsMade.{MakesCalls, fewer}
use Rattle.node_ends.specs.Joined.{StayPaired}
use Rattle.node_sessions.specs.Serving.{ServesIf}
use Rattle.running_jobs.specs.Running.{fills_at}
use Rattle.node_crash.proofs.Jobs.{no_jobs}
use Rattle.node_parts.specs.Parts.{AreAllFed, PartsView}
use Rattle.node_parts.specs.Posting.{PostsPieces, stamp_of}
use Rattle.node_parts.specs.declared.done.Done.{Done}
use Rattle.node_parts.specs.Steps.{HasPart, LeavesSo, Serves, WhereServed, failed_by}
use Rattle.node_parts.specs.Stored.{parts_then}
use Rattle.node_parts.proofs.Asked.{contents_served, has_of, parts_served}
use Rattle.node_parts.proofs.Pieces.{served_pieces}
use Rattle.node_parts.proofs.Served.{calls_of, failed_same, fed_served, leaves_at, made_at, no_job_served, none_served, quiet_served, step_of}
use Rattle.node_parts.proofs.Sounding.{sound_after, there_still}
use Rattle.node_parts.proofs.parts.Parts.serve.Goals as goal

pub returns-in_err-served-clause-fed : goal.returns-in_err-served-clause-fed
returns-in_err-served-clause-fed g c =
    let i = c.self.inside in
    let was : PartsView = record { table = i.table; links = i.ends; sessions = i.sessions; jobs = i.jobs } in
    let e = c.in_err-served.ensures in
    subst (λ (p : PartsView). ForSome (g.K.Keeper.parts c.args.keeper.now) (λ q. AreAllFed q p → ForSome (g.K.Keeper.parts c.step.new.keeper) (λ q'. AreAllFed q' (record { table = c.step.new.table; links = c.step.new.ends; sessions = c.step.new.self; jobs = i.jobs })))) c.self.view_is
    (fed_served was (record { table = c.step.new.table; links = c.step.new.ends; sessions = c.step.new.self; jobs = i.jobs }) (g.K.Keeper.parts c.args.keeper.now) (g.K.Keeper.parts c.step.new.keeper) c.self.invariant refl e.fed e.parts)

pub returns-clause-fed : goal.returns-clause-fed
returns-clause-fed g c =
    let i = c.self.inside in
    let was : PartsView = record { table = i.table; links = i.ends; sessions = i.sessions; jobs = i.jobs } in
    let e = c.in_ok-served.ensures in
    subst (λ (p : PartsView). ForSome (g.K.Keeper.parts c.args.keeper.now) (λ q. AreAllFed q p → ForSome (g.K.Keeper.parts c.step.new.keeper) (λ q'. AreAllFed q' (record { table = c.step.new.table; links = c.serve_if.new.ends; sessions = c.step.new.self; jobs = i.jobs })))) c.self.view_is
    (fed_served was (record { table = c.step.new.table; links = c.serve_if.new.ends; sessions = c.step.new.self; jobs = i.jobs }) (g.K.Keeper.parts c.args.keeper.now) (g.K.Keeper.parts c.step.new.keeper) c.self.invariant refl e.fed e.parts)

pub serve_if-requires-clause-serves : goal.serve_if-requires-clause-serves
serve_if-requires-clause-serves g c =
    subst (λ (links : List EndView). ServesIf links c.in_ok-served.served) (sym c.in_ok-served.ensures.same) c.in_ok-served.ensures.serves

pub invariant_of-self-2 : goal.invariant_of-self-2
invariant_of-self-2 g c =
    let i = c.self.inside in
    let now = c.serve_if.new.ends in
    let paired : StayPaired i.ends now = subst (λ (links : List EndView). StayPaired links now) c.in_ok-served.ensures.same c.serve_if.ensures.paired in
    sound_after (record { table = i.table; links = i.ends; sessions = i.sessions; jobs = i.jobs }) c.step.new.table now c.step.new.self c.self.invariant
    (c.serve_if.ensures.count ∙ ap (λ (links : List EndView). length links) c.in_ok-served.ensures.same) (there_still i.ends now c.step.new.self paired (c.in_ok-served.ensures.there i.ends c.self.invariant.there))
    c.in_ok-served.ensures.owns (c.in_ok-served.ensures.filled (fills_at i.jobs.running) c.self.invariant.filled) c.in_ok-served.ensures.bars
    (λ job share own. c.in_ok-served.ensures.others (by_job job) share (no_jobs i.sessions job) own)

pub returns-clause-step : goal.returns-clause-step
returns-clause-step g c =
    let i = c.self.inside in
    let was : PartsView = record { table = i.table; links = i.ends; sessions = i.sessions; jobs = i.jobs } in
    let now : PartsView = record { table = c.step.new.table; links = c.serve_if.new.ends; sessions = c.step.new.self; jobs = i.jobs } in
    let known = g.K.Keeper.parts c.args.keeper.now in
    let contents = g.K.Keeper.contents c.step.new.keeper in
    let m = c.args.moment in
    let e = c.in_ok-served.ensures in
    subst (λ (p : PartsView). ForSome (g.K.Keeper.contents c.args.keeper.now) (λ x. Serves p now x known contents m.clock m.time m.number c.serve_if.result)) c.self.view_is
    (step_of c.sessions_and_jobs_fill.ensures c.ends_go_on.ensures.ends c.sessions_of_closed_ends_are_new.ensures c.jobs_stay.ensures c.sessions_make_their_own_entries.ensures
    was now c.step.new.ends (g.K.Keeper.contents c.args.keeper.now) contents known m.clock m.time m.number c.read-shows.result
    c.in_ok-served.served c.serve_if.result c.self.invariant refl e.same c.read-shows.ensures.same e.step e.serves c.serve_if.ensures.made e.after c.serve_if.ensures.after e.idle
    c.stamp_at-stamp.result c.serve_if.ensures.posts)

pub returns-clause-asked : goal.returns-clause-asked
returns-clause-asked g c = λ q told fed.
    let i = c.self.inside in
    let was : PartsView = record { table = i.table; links = i.ends; sessions = i.sessions; jobs = i.jobs } in
    let served = c.in_ok-served.served in
    let done = c.serve_if.result in
    let same = made_at was.links c.step.new.ends served done c.in_ok-served.ensures.same c.serve_if.ensures.made in
    let none = no_job_served c.sessions_entries_are_no_jobs.ensures c.args.moment.number was.links served done same c.in_ok-served.ensures.kind in
    subst (λ (p : PartsView). ForSome done (λ d. HasPart (Some q) p d.kind d.taken)) c.self.view_is
    (has_of was (Some q) served done same none (c.looks_see_parts.ensures q was.sessions was.links served (subst (AreAllFed q) (sym c.self.view_is) fed).serving))

pub returns-clause-calls : goal.returns-clause-calls
returns-clause-calls g c =
    let i = c.self.inside in
    let was : PartsView = record { table = i.table; links = i.ends; sessions = i.sessions; jobs = i.jobs } in
    let known = g.K.Keeper.parts c.args.keeper.now in
    let before = g.K.Keeper.failing c.args.keeper.now in
    let after = g.K.Keeper.failing c.step.new.keeper in
    let m = c.args.moment in
    let e = c.in_ok-served.ensures in
    let done = c.serve_if.result in
    subst (λ (p : PartsView). ForSome (g.K.Keeper.contents c.args.keeper.now) (λ x. WhereServed p x known m.clock m.time m.number done (λ s st k. ForSome (session_step s st k) (λ (m : Effect). MakesCalls m.calls (failed_by done) before after)))) c.self.view_is
    (calls_of c.sessions_and_jobs_fill.ensures was c.step.new.ends (g.K.Keeper.contents c.args.keeper.now) known m.clock m.time m.number c.read-shows.result
    c.in_ok-served.served done before after c.self.invariant e.same c.read-shows.ensures.same c.serve_if.ensures.made e.calls)

pub returns-clause-left : goal.returns-clause-left
returns-clause-left g c =
    let served = c.in_ok-served.served in
    let done = c.serve_if.result in
    c.in_ok-served.ensures.left ∙ ap (λ (f : Option Call). option_map (fewer f) (g.K.Keeper.failing c.args.keeper.now)) (sym (failed_same c.step.new.ends served done c.serve_if.ensures.made))

pub returns-clause-contents : goal.returns-clause-contents
returns-clause-contents g c =
    let i = c.self.inside in
    let was : PartsView = record { table = i.table; links = i.ends; sessions = i.sessions; jobs = i.jobs } in
    let served = c.in_ok-served.served in
    let done = c.serve_if.result in
    let same = made_at was.links c.step.new.ends served done c.in_ok-served.ensures.same c.serve_if.ensures.made in
    c.in_ok-served.ensures.contents ∙ contents_served was (g.K.Keeper.contents c.args.keeper.now) (g.K.Keeper.parts c.args.keeper.now) served done same

pub returns-clause-parts : goal.returns-clause-parts
returns-clause-parts g c =
    let i = c.self.inside in
    let was : PartsView = record { table = i.table; links = i.ends; sessions = i.sessions; jobs = i.jobs } in
    let served = c.in_ok-served.served in
    let done = c.serve_if.result in
    let known = g.K.Keeper.parts c.args.keeper.now in
    let same = made_at was.links c.step.new.ends served done c.in_ok-served.ensures.same c.serve_if.ensures.made in
    let none = no_job_served c.sessions_entries_are_no_jobs.ensures c.args.moment.number was.links served done same c.in_ok-served.ensures.kind in
    c.in_ok-served.ensures.left_parts ∙ parts_served was known served done same none ∙ ap (λ (p : PartsView). parts_then p known done) c.self.view_is

pub returns-clause-leaves : goal.returns-clause-leaves
returns-clause-leaves g c =
    let i = c.self.inside in
    let was : PartsView = record { table = i.table; links = i.ends; sessions = i.sessions; jobs = i.jobs } in
    let now : PartsView = record { table = c.step.new.table; links = c.serve_if.new.ends; sessions = c.step.new.self; jobs = i.jobs } in
    let e = c.in_ok-served.ensures in
    subst (λ (p : PartsView). LeavesSo c.args.moment.number p now c.serve_if.result) c.self.view_is
    (leaves_at c.args.moment.number was now c.step.new.ends c.in_ok-served.served c.serve_if.result refl e.same c.serve_if.ensures.made e.after (e.numbers (c.args.moment.number + 1) (omega arith)) c.serve_if.ensures.after e.idle)

pub returns-clause-kind : goal.returns-clause-kind
returns-clause-kind g c =
    quiet_served c.sessions_entries_are_no_jobs.ensures c.args.moment.number c.step.new.ends c.in_ok-served.served c.serve_if.result c.serve_if.ensures.made c.in_ok-served.ensures.kind

pub returns-clause-posts : goal.returns-clause-posts
returns-clause-posts g c =
    let i = c.self.inside in
    let e = c.in_ok-served.ensures in
    let m = c.args.moment in
    let was : PartsView = record { table = i.table; links = i.ends; sessions = i.sessions; jobs = i.jobs } in
    let known = g.K.Keeper.contents c.args.keeper.now in
    subst (λ (p : PartsView). ForSome c.serve_if.result (λ (d : Done). PostsPieces (stamp_of m p.jobs.place.number) d.kind p known c.serve_if.new.ends d.taken d.sent)) c.self.view_is
    (served_pieces m c.number.result c.stamp_at-stamp.result was known c.step.new.ends c.serve_if.new.ends c.in_ok-served.served c.serve_if.result
    c.stamp_at-stamp.ensures c.number.ensures e.same c.serve_if.ensures.made c.serve_if.ensures.posts e.among e.pieces)

pub returns-clause-unasked : goal.returns-clause-unasked
returns-clause-unasked g c = λ none. c.in_ok-served.ensures.unasked (none_served c.step.new.ends c.in_ok-served.served c.serve_if.result c.serve_if.ensures.made none)
