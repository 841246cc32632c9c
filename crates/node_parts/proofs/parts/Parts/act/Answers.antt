-- What the proof of `parts::Parts::act` needs beside the tactics.
use Rattle.std.proofs.Common.{◌≡◌, ◌≤◌, ℕ, List, Option, Some, None, is_some, length, refl, sym, ap, subst, ◌∙◌, arith}
use Rattle.std.specs.Prelude.{All, IfSome, ◌<◌}
use Rattle.std.specs.Option.{ForSome, option_map}
use Rattle.std.proofs.lemmas.Option.{same_Some}
use Rattle.annex_base.specs.Causes.{Rose}
use Rattle.annex_base.proofs.Options.{some_none}
use Rattle.annex_base.proofs.Results.{OnErr-always}
use Rattle.run_data.specs.declared.entry.EntryKind.{EntryKind}
use Rattle.run_data.specs.declared.row.Hold.{Hold}
use Rattle.object_store.specs.Stores.{AreSmallParts}
use Rattle.trust_groups.specs.View.{settings_of}
use Rattle.link_ring.specs.Ends.{EndView}
use Rattle.content_lock.specs.CallsMade.{MakesCalls, fewer}
use Rattle.node_model.specs.Look.{Effect, failed_in}
use Rattle.node_model.specs.Turns.{job_step}
use Rattle.node_ends.specs.Joined.{StayPaired}
use Rattle.running_jobs.specs.Waiting.{WaitsFor}
use Rattle.transfer_turns.specs.Steps.{Seen, seen}
use Rattle.running_jobs.specs.declared.acted.Acted.{Acted}
use Rattle.running_jobs.specs.Leaving.{LeavesSo as LeavesJobsSo}
use Rattle.running_jobs.specs.Running.{Jobs}
use Rattle.node_parts.specs.declared.done.Done.{Done}
use Rattle.node_parts.specs.Jobs.{JobsGoOn}
use Rattle.node_parts.specs.Kinds.{IsQuiet}
use Rattle.node_parts.specs.Parts.{AreAllFed, PartsView}
use Rattle.node_parts.specs.Posting.{PostsPieces, stamp_of}
use Rattle.node_parts.specs.Steps.{Acts, HasPart, LeavesSo, OwesTold, WhereActed, session_asked}
use Rattle.node_parts.specs.Stored.{parts_then}
use Rattle.node_parts.proofs.Acted.{CallsThere, IsActed, IsOfJob, Laws, StepsThere, acted_asks, acts_none, acts_some, among_acted, calls_none, calls_some, contents_acted, fed_acted, has_acted, jobs_go_on, kind_of, leaves_acted, owes_acted, parts_acted, posts_acted, quiet_acted, none_fails, fed_idle, sound_acted, told_acted}
use Rattle.node_parts.proofs.parts.Parts.act.Given as given
use Rattle.node_parts.proofs.parts.Parts.act.Goals as goal

-- ---- where a job has a step: what was, and what is

abbrev was : (g : given.Over) → goal.After-act g → PartsView
was g c = let i = c.self.inside in record { table = i.table; links = i.ends; sessions = i.sessions; jobs = i.jobs }

abbrev now : (g : given.Over) → goal.After-act g → PartsView
now g c = record { table = c.step.new.table; links = c.act.new.ends; sessions = c.self.inside.sessions; jobs = c.step.new.self }

abbrev before : (g : given.Over) → goal.After-act g → Seen
before g c =
    let k = c.args.keeper.now in
    seen (g.K.Keeper.contents k) (g.K.Keeper.parts k) (g.K.Keeper.records k) (g.K.Keeper.files k) (g.K.Keeper.faults k) (g.K.Keeper.failing k)

abbrev after : (g : given.Over) → goal.After-act g → Seen
after g c =
    let k = c.step.new.keeper in
    seen (g.K.Keeper.contents k) (g.K.Keeper.parts k) (g.K.Keeper.records k) (g.K.Keeper.files k) (g.K.Keeper.faults k) (g.K.Keeper.failing k)

left : (g : given.Over) (c : goal.After-act g) → LeavesJobsSo (was g c).links (was g c).jobs (now g c).jobs (was g c).table (now g c).table (before g c) (after g c) (Some c.in-Some.acted)
left g c =
    subst (λ (o : Option Acted). LeavesJobsSo (was g c).links (was g c).jobs (now g c).jobs (was g c).table (now g c).table (before g c) (after g c) o) c.in-Some.is c.in_ok-acted.ensures.leaves

here : (g : given.Over) (c : goal.After-act g) → IsActed (was g c).links (now g c).links c.in-Some.acted c.act.result
here g c =
    let e = c.act.ensures in
    subst (λ (l : List EndView). IsActed l (now g c).links c.in-Some.acted c.act.result) c.in_ok-acted.ensures.ends (record { kind = e.kind; taken = e.taken; sent = e.sent; after = e.after; room = e.room; owes = e.owes })

kind : (g : given.Over) (c : goal.After-act g) → IsOfJob c.in-Some.acted.job c.in-Some.acted.kind
kind g c = kind_of c.in-Some.acted (left g c).kind

fresh_there : (g : given.Over) (c : goal.After-act g) → All (λ h. h.number < c.args.moment.number) (was g c).table.holds
fresh_there g c = subst (λ (p : PartsView). All (λ (h : Hold). h.number < c.args.moment.number) p.table.holds) (sym c.self.view_is) c.requires.fresh

laws : (g : given.Over) → goal.After-act g → Laws
laws g c = record {
  asked = c.nameless_are_asked.ensures;
  room = c.jobs_send_where_there_is_room.ensures;
  owns = c.jobs_make_their_own_entries.ensures.own;
  names = c.jobs_make_their_own_entries.ensures.number;
  fills = c.sessions_and_jobs_fill.ensures;
  go = c.ends_go_on.ensures.ends;
  stay = c.sessions_stay.ensures;
}

-- ---- where none has one

abbrev idle_was : (g : given.Over) → goal.In-None g → PartsView
idle_was g c = let i = c.self.inside in record { table = i.table; links = i.ends; sessions = i.sessions; jobs = i.jobs }

abbrev idle_now : (g : given.Over) → goal.In-None g → PartsView
idle_now g c = record { table = c.step.new.table; links = c.step.new.ends; sessions = c.self.inside.sessions; jobs = c.step.new.self }

abbrev idle_before : (g : given.Over) → goal.In-None g → Seen
idle_before g c =
    let k = c.args.keeper.now in
    seen (g.K.Keeper.contents k) (g.K.Keeper.parts k) (g.K.Keeper.records k) (g.K.Keeper.files k) (g.K.Keeper.faults k) (g.K.Keeper.failing k)

abbrev idle_after : (g : given.Over) → goal.In-None g → Seen
idle_after g c =
    let k = c.step.new.keeper in
    seen (g.K.Keeper.contents k) (g.K.Keeper.parts k) (g.K.Keeper.records k) (g.K.Keeper.files k) (g.K.Keeper.faults k) (g.K.Keeper.failing k)

idle_left : (g : given.Over) (c : goal.In-None g) → LeavesJobsSo (idle_was g c).links (idle_was g c).jobs (idle_now g c).jobs (idle_was g c).table (idle_now g c).table (idle_before g c) (idle_after g c) None
idle_left g c =
    subst (λ (o : Option Acted). LeavesJobsSo (idle_was g c).links (idle_was g c).jobs (idle_now g c).jobs (idle_was g c).table (idle_now g c).table (idle_before g c) (idle_after g c) o) c.in-None.is c.in_ok-acted.ensures.leaves

idle_stays : (g : given.Over) (c : goal.In-None g) → idle_now g c ≡ idle_was g c
idle_stays g c = λ n. record { table = (idle_left g c).1 n; links = c.in_ok-acted.ensures.ends n; sessions = c.self.inside.sessions; jobs = (idle_left g c).0 n }

idle_laws : (g : given.Over) → goal.In-None g → Laws
idle_laws g c = record {
  asked = c.nameless_are_asked.ensures;
  room = c.jobs_send_where_there_is_room.ensures;
  owns = c.jobs_make_their_own_entries.ensures.own;
  names = c.jobs_make_their_own_entries.ensures.number;
  fills = c.sessions_and_jobs_fill.ensures;
  go = c.ends_go_on.ensures.ends;
  stay = c.sessions_stay.ensures;
}

-- ---- what the frames ask for

pub act-requires-clause-slot : goal.act-requires-clause-slot
act-requires-clause-slot g c =
    let i = c.self.inside in
    let e = c.in_ok-acted.ensures in
    let k0 : Seen = seen (g.K.Keeper.contents c.args.keeper.now) (g.K.Keeper.parts c.args.keeper.now) (g.K.Keeper.records c.args.keeper.now) (g.K.Keeper.files c.args.keeper.now) (g.K.Keeper.faults c.args.keeper.now) (g.K.Keeper.failing c.args.keeper.now) in
    let k1 : Seen = seen (g.K.Keeper.contents c.step.new.keeper) (g.K.Keeper.parts c.step.new.keeper) (g.K.Keeper.records c.step.new.keeper) (g.K.Keeper.files c.step.new.keeper) (g.K.Keeper.faults c.step.new.keeper) (g.K.Keeper.failing c.step.new.keeper) in
    let left = subst (λ (o : Option Acted). LeavesJobsSo i.ends i.jobs c.step.new.self i.table c.step.new.table k0 k1 o) c.in-Some.is e.leaves in
    left.slot

pub act-requires-clause-waits : goal.act-requires-clause-waits
act-requires-clause-waits g c =
    let i = c.self.inside in
    let e = c.in_ok-acted.ensures in
    let k0 : Seen = seen (g.K.Keeper.contents c.args.keeper.now) (g.K.Keeper.parts c.args.keeper.now) (g.K.Keeper.records c.args.keeper.now) (g.K.Keeper.files c.args.keeper.now) (g.K.Keeper.faults c.args.keeper.now) (g.K.Keeper.failing c.args.keeper.now) in
    let k1 : Seen = seen (g.K.Keeper.contents c.step.new.keeper) (g.K.Keeper.parts c.step.new.keeper) (g.K.Keeper.records c.step.new.keeper) (g.K.Keeper.files c.step.new.keeper) (g.K.Keeper.faults c.step.new.keeper) (g.K.Keeper.failing c.step.new.keeper) in
    let a = c.in-Some.acted in
    let left = subst (λ (o : Option Acted). LeavesJobsSo i.ends i.jobs c.step.new.self i.table c.step.new.table k0 k1 o) c.in-Some.is e.leaves in
    subst (λ (links : List EndView). WaitsFor links a.slot a.takes) (sym e.ends) left.waits

-- ---- the step

pub returns-in-None-clause-step : goal.returns-in-None-clause-step
returns-in-None-clause-step g c =
    let e = c.in_ok-acted.ensures in
    let m = c.args.moment in
    let view = settings_of c.args.settings.now in
    subst (λ (p : PartsView). ForSome (idle_before g c).contents (λ x. Acts p (idle_now g c) x (idle_before g c).parts (idle_after g c).contents m.clock view m.time m.number None)) c.self.view_is
    (acts_none (idle_laws g c) (idle_was g c) (idle_now g c) m.clock view m.time m.number (idle_before g c).parts (idle_before g c).contents (idle_after g c).contents c.self.invariant
    (subst (λ (o : Option Acted). ForSome (idle_before g c).contents (λ x. StepsThere (idle_was g c) (idle_now g c).jobs m.clock view m.time m.number (idle_before g c).parts x o)) c.in-None.is e.step) (idle_stays g c) (ap (λ (k : Seen). k.contents) (idle_left g c).2))

pub returns-in-Some-clause-step : goal.returns-in-Some-clause-step
returns-in-Some-clause-step g c =
    let e = c.in_ok-acted.ensures in
    let m = c.args.moment in
    let view = settings_of c.args.settings.now in
    let a = c.in-Some.acted in
    let d = c.act.result in
    subst (λ (p : PartsView). ForSome (before g c).contents (λ x. Acts p (now g c) x (before g c).parts (after g c).contents m.clock view m.time m.number (Some d))) c.self.view_is
    (acts_some (laws g c) (was g c) (now g c) m.clock view m.time m.number (before g c) (after g c) c.self.invariant a d
    (subst (λ (o : Option Acted). ForSome (before g c).contents (λ x. StepsThere (was g c) (now g c).jobs m.clock view m.time m.number (before g c).parts x o)) c.in-Some.is e.step) (here g c) (kind g c) (left g c) refl e.owns)

pub returns-in-None-clause-asked : goal.returns-in-None-clause-asked
returns-in-None-clause-asked g c = λ q told fed d is. absurd (some_none d (sym is))

pub returns-in-Some-clause-asked : goal.returns-in-Some-clause-asked
returns-in-Some-clause-asked g c =
    let a = c.in-Some.acted in
    let d = c.act.result in
    λ q told fed x is.
    subst (λ (p : PartsView). HasPart (Some q) p x.kind x.taken) c.self.view_is
    (subst (λ (y : Done). HasPart (Some q) (was g c) y.kind y.taken) (same_Some d x is)
    (has_acted q (was g c) a d (here g c).kind (here g c).taken (kind g c) (c.jobs_see_parts.ensures q (was g c).jobs (was g c).links a (subst (AreAllFed q) (sym c.self.view_is) fed).acting)))

pub returns-in-Some-clause-no_session : goal.returns-in-Some-clause-no_session
returns-in-Some-clause-no_session g c =
    let a = c.in-Some.acted in
    let d = c.act.result in
    λ x is.
    subst (λ (p : PartsView). session_asked p.sessions x.taken ≡ None) c.self.view_is
    (subst (λ (y : Done). session_asked (was g c).sessions y.taken ≡ None) (same_Some d x is) (acted_asks (was g c).links (was g c).sessions a.slot a.takes d.taken (here g c).taken))

pub returns-in-None-clause-calls : goal.returns-in-None-clause-calls
returns-in-None-clause-calls g c =
    let e = c.in_ok-acted.ensures in
    let m = c.args.moment in
    let view = settings_of c.args.settings.now in
    subst (λ (p : PartsView). ForSome (idle_before g c).contents (λ x. WhereActed p x (idle_before g c).parts m.clock view m.time m.number None (λ s st k. ForSome (job_step s st k) (λ (m : Effect). MakesCalls m.calls None (idle_before g c).failing (idle_after g c).failing)))) c.self.view_is
    (calls_none (idle_laws g c) (idle_was g c) m.clock view m.time m.number (idle_before g c).parts (idle_before g c).contents (idle_before g c).failing (idle_after g c).failing c.self.invariant
    (subst (λ (o : Option Acted). ForSome (idle_before g c).contents (λ x. CallsThere (idle_was g c) m.clock view m.time m.number (idle_before g c).parts x o (idle_before g c).failing (idle_after g c).failing)) c.in-None.is e.calls))

pub returns-in-Some-clause-calls : goal.returns-in-Some-clause-calls
returns-in-Some-clause-calls g c =
    let e = c.in_ok-acted.ensures in
    let m = c.args.moment in
    let view = settings_of c.args.settings.now in
    let a = c.in-Some.acted in
    let d = c.act.result in
    subst (λ (p : PartsView). ForSome (before g c).contents (λ x. WhereActed p x (before g c).parts m.clock view m.time m.number (Some d) (λ s st k. ForSome (job_step s st k) (λ (m : Effect). MakesCalls m.calls (failed_in d.kind) (before g c).failing (after g c).failing)))) c.self.view_is
    (calls_some (laws g c) (was g c) m.clock view m.time m.number (before g c).parts (before g c).contents (before g c).failing (after g c).failing c.self.invariant a d (here g c).kind (here g c).taken (kind g c)
    (subst (λ (o : Option Acted). ForSome (before g c).contents (λ x. CallsThere (was g c) m.clock view m.time m.number (before g c).parts x o (before g c).failing (after g c).failing)) c.in-Some.is e.calls))

pub returns-in-None-clause-left : goal.returns-in-None-clause-left
returns-in-None-clause-left g c = ap (λ (k : Seen). k.failing) (idle_left g c).2 ∙ none_fails (idle_before g c).failing

pub returns-in-Some-clause-left : goal.returns-in-Some-clause-left
returns-in-Some-clause-left g c = (left g c).acts.leaves.left ∙ ap (λ (x : EntryKind). option_map (fewer (failed_in x)) (before g c).failing) (sym c.act.ensures.kind)

-- ---- what is left of the store

pub returns-in-None-clause-contents : goal.returns-in-None-clause-contents
returns-in-None-clause-contents g c = ap (λ (k : Seen). k.contents) (idle_left g c).2

pub returns-in-Some-clause-contents : goal.returns-in-Some-clause-contents
returns-in-Some-clause-contents g c =
    let a = c.in-Some.acted in
    let d = c.act.result in
    contents_acted (was g c) (now g c) (before g c) (after g c) a d c.act.ensures.kind (left g c)

pub returns-in-None-clause-parts : goal.returns-in-None-clause-parts
returns-in-None-clause-parts g c = ap (λ (k : Seen). k.parts) (idle_left g c).2

pub returns-in-Some-clause-parts : goal.returns-in-Some-clause-parts
returns-in-Some-clause-parts g c =
    let a = c.in-Some.acted in
    let d = c.act.result in
    parts_acted (was g c) (now g c) (before g c) (after g c) a d c.self.invariant (here g c) (kind g c) (left g c) ∙ ap (λ (p : PartsView). parts_then p (before g c).parts (Some d)) c.self.view_is

pub returns-in-None-clause-fed : goal.returns-in-None-clause-fed
returns-in-None-clause-fed g c =
    subst (λ (p : PartsView). ForSome (idle_before g c).parts (λ q. AreAllFed q p → ForSome (idle_after g c).parts (λ q'. AreAllFed q' (idle_now g c)))) c.self.view_is
    (fed_idle (idle_was g c) (idle_now g c) (idle_before g c).parts (idle_after g c).parts (idle_stays g c) (ap (λ (k : Seen). k.parts) (idle_left g c).2))

pub returns-in-Some-clause-fed : goal.returns-in-Some-clause-fed
returns-in-Some-clause-fed g c =
    let a = c.in-Some.acted in
    subst (λ (p : PartsView). ForSome (before g c).parts (λ q. AreAllFed q p → ForSome (after g c).parts (λ q'. AreAllFed q' (now g c)))) c.self.view_is
    (fed_acted c.others_leave_it.ensures.fed (was g c) (now g c) (before g c) (after g c) a c.self.invariant refl (left g c))

pub returns-in-None-clause-told_contents : goal.returns-in-None-clause-told_contents
returns-in-None-clause-told_contents g c = λ told. ap (λ (k : Seen). is_some k.contents) (idle_left g c).2

pub returns-in-Some-clause-told_contents : goal.returns-in-Some-clause-told_contents
returns-in-Some-clause-told_contents g c =
    let a = c.in-Some.acted in
    λ told. told_acted (was g c) (now g c) (before g c) (after g c) a (left g c) told

pub returns-in-None-clause-told_parts : goal.returns-in-None-clause-told_parts
returns-in-None-clause-told_parts g c = ap (λ (k : Seen). is_some k.parts) (idle_left g c).2

pub returns-in-Some-clause-told_parts : goal.returns-in-Some-clause-told_parts
returns-in-Some-clause-told_parts g c = (left g c).parts.told

pub returns-in-None-clause-small : goal.returns-in-None-clause-small
returns-in-None-clause-small g c = λ small. subst AreSmallParts (sym (ap (λ (k : Seen). k.parts) (idle_left g c).2)) small

pub returns-in-Some-clause-small : goal.returns-in-Some-clause-small
returns-in-Some-clause-small g c = (left g c).parts.small

pub returns-in-None-clause-files : goal.returns-in-None-clause-files
returns-in-None-clause-files g c = ap (λ (k : Seen). k.files) (idle_left g c).2

pub returns-in-Some-clause-files : goal.returns-in-Some-clause-files
returns-in-Some-clause-files g c = (left g c).acts.leaves.files

pub returns-in-None-clause-agrees : goal.returns-in-None-clause-agrees
returns-in-None-clause-agrees g c = c.in_ok-acted.ensures.agrees

pub returns-in-Some-clause-agrees : goal.returns-in-Some-clause-agrees
returns-in-Some-clause-agrees g c = c.in_ok-acted.ensures.agrees

pub returns-in-None-clause-later : goal.returns-in-None-clause-later
returns-in-None-clause-later g c = subst (λ (n : ℕ). (idle_before g c).faults ≤ n) (sym (ap (λ (k : Seen). k.faults) (idle_left g c).2)) (omega arith)

pub returns-in-Some-clause-later : goal.returns-in-Some-clause-later
returns-in-Some-clause-later g c = (left g c).acts.leaves.later

pub returns-in-Some-clause-cause : goal.returns-in-Some-clause-cause
returns-in-Some-clause-cause g c = subst (λ (x : EntryKind). IfSome (failed_in x) (λ call. Rose (before g c).faults (after g c).faults)) (sym c.act.ensures.kind) (left g c).acts.leaves.cause

-- ---- what is left of the parts

pub returns-in-None-clause-leaves : goal.returns-in-None-clause-leaves
returns-in-None-clause-leaves g c = idle_stays g c ∙ c.self.view_is

pub returns-in-Some-clause-leaves : goal.returns-in-Some-clause-leaves
returns-in-Some-clause-leaves g c =
    let m = c.args.moment in
    let a = c.in-Some.acted in
    let d = c.act.result in
    subst (λ (p : PartsView). LeavesSo m.number p (now g c) (Some d)) c.self.view_is
    (leaves_acted m.number (was g c) (now g c) (before g c) (after g c) a d (here g c) (left g c) c.in_ok-acted.ensures.numbers)

pub returns-in-Some-clause-posts : goal.returns-in-Some-clause-posts
returns-in-Some-clause-posts g c =
    let e = c.in_ok-acted.ensures in
    let m = c.args.moment in
    let a = c.in-Some.acted in
    let d = c.act.result in
    λ x is.
    subst (λ (p : PartsView). PostsPieces (stamp_of m p.jobs.place.number) x.kind p (before g c).contents c.act.new.ends x.taken x.sent) c.self.view_is
    (subst (λ (y : Done). PostsPieces (stamp_of m (was g c).jobs.place.number) y.kind (was g c) (before g c).contents c.act.new.ends y.taken y.sent) (same_Some d x is)
    (posts_acted m c.number.result c.stamp_at-stamp.result (was g c) (now g c) c.step.new.ends (before g c) (after g c) a d (left g c) c.self.invariant c.stamp_at-stamp.ensures c.number.ensures e.ends c.act.ensures.posts))

pub returns-in-Some-clause-kind : goal.returns-in-Some-clause-kind
returns-in-Some-clause-kind g c =
    let i = c.self.inside in
    let a = c.in-Some.acted in
    let d = c.act.result in
    λ x is. subst (λ (y : Done). IsQuiet y.kind) (same_Some d x is) (quiet_acted i.ends c.act.new.ends a d (here g c) (left g c).kind)

pub returns-in-Some-clause-jobs : goal.returns-in-Some-clause-jobs
returns-in-Some-clause-jobs g c =
    let a = c.in-Some.acted in
    let d = c.act.result in
    λ x is.
    subst (λ (p : PartsView). JobsGoOn p (now g c) x) c.self.view_is (subst (JobsGoOn (was g c) (now g c)) (same_Some d x is) (jobs_go_on (was g c) (now g c) (before g c) (after g c) a d c.self.invariant (here g c) (kind g c) (left g c)))

pub returns-in-None-clause-place : goal.returns-in-None-clause-place
returns-in-None-clause-place g c = ap (λ (j : Jobs). j.place) (idle_left g c).0 ∙ ap (λ (p : PartsView). p.jobs.place) c.self.view_is

pub returns-in-Some-clause-place : goal.returns-in-Some-clause-place
returns-in-Some-clause-place g c = (left g c).place ∙ ap (λ (p : PartsView). p.jobs.place) c.self.view_is

pub returns-in-None-clause-begun : goal.returns-in-None-clause-begun
returns-in-None-clause-begun g c = ap (λ (j : Jobs). j.begun) (idle_left g c).0 ∙ ap (λ (p : PartsView). p.jobs.begun) c.self.view_is

pub returns-in-Some-clause-begun : goal.returns-in-Some-clause-begun
returns-in-Some-clause-begun g c = (left g c).begun ∙ ap (λ (p : PartsView). p.jobs.begun) c.self.view_is

pub invariant_of-self-in-Some : goal.invariant_of-self-in-Some
invariant_of-self-in-Some g c =
    let i = c.self.inside in
    let e = c.in_ok-acted.ensures in
    let a = c.in-Some.acted in
    let paired : StayPaired i.ends c.act.new.ends = subst (λ (links : List EndView). StayPaired links c.act.new.ends) e.ends c.act.ensures.paired in
    sound_acted c.others_keep_their_shares.ensures c.args.moment.number (was g c) (now g c) (before g c) (after g c) a c.self.invariant (c.act.ensures.count ∙ ap (λ (links : List EndView). length links) e.ends) paired refl (left g c)
    (e.numbered a c.in-Some.is) (fresh_there g c) e.owns

-- ---- what is owed since

pub returns-in-Some-clause-owes : goal.returns-in-Some-clause-owes
returns-in-Some-clause-owes g c =
    let a = c.in-Some.acted in
    let d = c.act.result in
    λ x is. subst (λ (p : PartsView). OwesTold p x) c.self.view_is (subst (OwesTold (was g c)) (same_Some d x is) (owes_acted (was g c) (now g c) (before g c) (after g c) a d (here g c) (kind g c) (left g c)))

pub returns-in-Some-clause-among : goal.returns-in-Some-clause-among
returns-in-Some-clause-among g c =
    let a = c.in-Some.acted in
    let d = c.act.result in
    λ x is.
    subst (λ (p : PartsView). ForSome x.owes (λ t. t.repo < length p.jobs.place.ids)) c.self.view_is
    (subst (λ (y : Done). ForSome y.owes (λ t. t.repo < length (was g c).jobs.place.ids)) (same_Some d x is) (among_acted (was g c) (now g c) (before g c) (after g c) a d c.act.ensures.owes (left g c)))

-- ---- where there was no memory

pub returns-in_err-acted-clause-fed : goal.returns-in_err-acted-clause-fed
returns-in_err-acted-clause-fed g c =
    let i = c.self.inside in
    let e = c.in_err-acted.ensures in
    let was : PartsView = record { table = i.table; links = i.ends; sessions = i.sessions; jobs = i.jobs } in
    let now : PartsView = record { table = c.step.new.table; links = c.step.new.ends; sessions = i.sessions; jobs = c.step.new.self } in
    let stays : now ≡ was = (λ n. record { table = e.err.table n; links = e.ends n; sessions = i.sessions; jobs = e.err.jobs n }) in
    subst (λ (p : PartsView). ForSome (g.K.Keeper.parts c.args.keeper.now) (λ q. AreAllFed q p → ForSome (g.K.Keeper.parts c.step.new.keeper) (λ q'. AreAllFed q' now))) c.self.view_is
    (fed_idle was now (g.K.Keeper.parts c.args.keeper.now) (g.K.Keeper.parts c.step.new.keeper) stays e.err.parts)

pub returns-in_err-acted-clause-told_contents : goal.returns-in_err-acted-clause-told_contents
returns-in_err-acted-clause-told_contents g c = λ told. ap is_some c.in_err-acted.ensures.err.contents

pub returns-in_err-acted-clause-told_parts : goal.returns-in_err-acted-clause-told_parts
returns-in_err-acted-clause-told_parts g c = ap is_some c.in_err-acted.ensures.err.parts

pub returns-in_err-acted-clause-small : goal.returns-in_err-acted-clause-small
returns-in_err-acted-clause-small g c = λ small. subst AreSmallParts (sym c.in_err-acted.ensures.err.parts) small

pub returns-in_err-acted-clause-files : goal.returns-in_err-acted-clause-files
returns-in_err-acted-clause-files g c = c.in_err-acted.ensures.err.files

pub returns-in_err-acted-clause-later : goal.returns-in_err-acted-clause-later
returns-in_err-acted-clause-later g c = c.in_err-acted.ensures.err.later

pub returns-in_err-acted-clause-err_contents : goal.returns-in_err-acted-clause-err_contents
returns-in_err-acted-clause-err_contents g c = OnErr-always _ c.from_residual.result c.in_err-acted.ensures.err.contents

pub returns-in_err-acted-clause-err_parts : goal.returns-in_err-acted-clause-err_parts
returns-in_err-acted-clause-err_parts g c = OnErr-always _ c.from_residual.result c.in_err-acted.ensures.err.parts

pub returns-in_err-acted-clause-err_records : goal.returns-in_err-acted-clause-err_records
returns-in_err-acted-clause-err_records g c = OnErr-always _ c.from_residual.result c.in_err-acted.ensures.err.records

pub returns-in_err-acted-clause-err_failing : goal.returns-in_err-acted-clause-err_failing
returns-in_err-acted-clause-err_failing g c = OnErr-always _ c.from_residual.result c.in_err-acted.ensures.err.failing

pub returns-in_err-acted-clause-place : goal.returns-in_err-acted-clause-place
returns-in_err-acted-clause-place g c = ap (λ (j : Jobs). j.place) c.in_err-acted.ensures.err.jobs ∙ ap (λ (p : PartsView). p.jobs.place) c.self.view_is

pub returns-in_err-acted-clause-begun : goal.returns-in_err-acted-clause-begun
returns-in_err-acted-clause-begun g c = ap (λ (j : Jobs). j.begun) c.in_err-acted.ensures.err.jobs ∙ ap (λ (p : PartsView). p.jobs.begun) c.self.view_is

pub returns-in_err-acted-clause-err : goal.returns-in_err-acted-clause-err
returns-in_err-acted-clause-err g c =
    let i = c.self.inside in
    let e = c.in_err-acted.ensures in
    let was : PartsView = record { table = i.table; links = i.ends; sessions = i.sessions; jobs = i.jobs } in
    let now : PartsView = record { table = c.step.new.table; links = c.step.new.ends; sessions = i.sessions; jobs = c.step.new.self } in
    let stays : now ≡ was = (λ n. record { table = e.err.table n; links = e.ends n; sessions = i.sessions; jobs = e.err.jobs n }) in
    OnErr-always _ c.from_residual.result (stays ∙ c.self.view_is)

pub returns-in_err-acted-clause-agrees : goal.returns-in_err-acted-clause-agrees
returns-in_err-acted-clause-agrees g c = c.in_err-acted.ensures.agrees
