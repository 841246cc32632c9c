-- What the proof of `parts::Parts::close_end` needs beside the tactics.
use Rattle.std.proofs.Common.{◌≡◌, ◌<◌, All, Option, Some, None, true, false, refl, sym, ap, subst, ◌∙◌}
use Rattle.std.specs.Option.{ForSome}
use Rattle.annex_base.specs.declared.kinds.EntryStamp.{EntryStamp}
use Rattle.run_data.specs.declared.entry.Entry.{Entry}
use Rattle.object_store.specs.Stores.{Contents}
use Rattle.content_lock.specs.Stored.{Agrees}
use Rattle.node_model.specs.After.{state_after}
use Rattle.node_model.specs.SetUp.{SetUp}
use Rattle.node_model.specs.State.{State}
use Rattle.node_ends.specs.Ends.{end_at, name_of}
use Rattle.node_parts.specs.Parts.{AreAllFed, AreParts, PartsView}
use Rattle.node_parts.specs.Posting.{PostsPieces, stamp_of}
use Rattle.node_parts.specs.Steps.{Leaves, close_made, made_of}
use Rattle.node_parts.proofs.Closes.{fed_closed, for_one, leaves_closed, opens_closed, parts_closed, pieces_closed, shut_end, sound_closed}
use Rattle.node_parts.proofs.parts.Parts.close_end.Goals as goal

pub invariant_of-self : goal.invariant_of-self
invariant_of-self c =
    let i = c.self.inside in
    sound_closed (record { table = i.table; links = i.ends; sessions = i.sessions; jobs = i.jobs }) c.close-done.new.ends c.shut.new.sessions c.shut.new.table (name_of c.args.id) c.self.invariant c.shut.ensures c.close-done.ensures.paired c.close-done.ensures.count

pub returns-then-not-may_close-clause-shut : goal.returns-then-not-may_close-clause-shut
returns-then-not-may_close-clause-shut c = λ none s st are is.
    let i = c.self.inside in
    let was : PartsView = record { table = i.table; links = i.ends; sessions = i.sessions; jobs = i.jobs } in
    let a = name_of c.args.id in
    subst (λ (p : PartsView). (end_at p.links a).opened ≡ false) c.self.view_is (shut_end s st a was (λ among. c.may_close.ensures.shut c.if-not-may_close.true among) (subst (AreParts s st) (sym c.self.view_is) are) is)

pub returns-clause-opened : goal.returns-clause-opened
returns-clause-opened c =
    let i = c.self.inside in
    let was : PartsView = record { table = i.table; links = i.ends; sessions = i.sessions; jobs = i.jobs } in
    subst (λ (p : PartsView). ForSome (Some c.close-done.result) (λ d. (end_at p.links (name_of c.args.id)).opened ≡ true)) c.self.view_is
    (for_one (λ d. (end_at i.ends (name_of c.args.id)).opened ≡ true) c.close-done.result (c.may_close.ensures.opened c.if-not-may_close.false))

pub returns-clause-made : goal.returns-clause-made
returns-clause-made c =
    let i = c.self.inside in
    let a = name_of c.args.id in
    subst (λ (p : PartsView). ForSome (Some c.close-done.result) (λ d. made_of d ≡ close_made a (end_at p.links a))) c.self.view_is
    (for_one (λ d. made_of d ≡ close_made a (end_at i.ends a)) c.close-done.result c.close-done.ensures.made)

pub returns-clause-owes : goal.returns-clause-owes
returns-clause-owes c = for_one (λ d. d.owes ≡ None) c.close-done.result c.close-done.ensures.owes

pub returns-clause-parts : goal.returns-clause-parts
returns-clause-parts c =
    let i = c.self.inside in
    let was : PartsView = record { table = i.table; links = i.ends; sessions = i.sessions; jobs = i.jobs } in
    let now : PartsView = record { table = c.shut.new.table; links = c.close-done.new.ends; sessions = c.shut.new.sessions; jobs = i.jobs } in
    let e = c.close-done.ensures in
    for_one (λ d. (s : SetUp) (st : State) (e : Entry) → AreParts s st c.args.self.now → e.kind ≡ d.kind → e.taken ≡ d.taken → e.sent ≡ d.sent → AreParts s (state_after s st e) now) c.close-done.result
    (λ s st x are kind taken sent. parts_closed was now (name_of c.args.id) c.close-done.result c.stamp_at-stamp.result refl e.made c.shut.ensures e.after e.posts s st x (subst (AreParts s st) (sym c.self.view_is) are) kind taken sent
    c.ends_go_on.ensures.ends c.jobs_stay.ensures c.self.invariant)

pub returns-clause-leaves : goal.returns-clause-leaves
returns-clause-leaves c =
    let i = c.self.inside in
    let was : PartsView = record { table = i.table; links = i.ends; sessions = i.sessions; jobs = i.jobs } in
    let now : PartsView = record { table = c.shut.new.table; links = c.close-done.new.ends; sessions = c.shut.new.sessions; jobs = i.jobs } in
    let e = c.close-done.ensures in
    let n = c.args.moment.number in
    subst (λ (p : PartsView). Leaves n p now c.close-done.result) c.self.view_is
    (leaves_closed was now (name_of c.args.id) c.close-done.result c.stamp_at-stamp.result refl e.made c.shut.ensures e.after e.posts n (subst (λ (p : PartsView). All (λ h. h.number < n) p.table.holds) (sym c.self.view_is) c.requires.fresh))

pub returns-clause-posts : goal.returns-clause-posts
returns-clause-posts c =
    let i = c.self.inside in
    let was : PartsView = record { table = i.table; links = i.ends; sessions = i.sessions; jobs = i.jobs } in
    let now : PartsView = record { table = c.shut.new.table; links = c.close-done.new.ends; sessions = c.shut.new.sessions; jobs = i.jobs } in
    let e = c.close-done.ensures in
    let m = c.args.moment in
    subst (λ (p : PartsView). ForSome (Some c.close-done.result) (λ d. (known : Option Contents) → PostsPieces (stamp_of m p.jobs.place.number) d.kind p known now.links d.taken d.sent)) c.self.view_is
    (for_one (λ d. (known : Option Contents) → PostsPieces (stamp_of m i.jobs.place.number) d.kind was known now.links d.taken d.sent) c.close-done.result
    (λ known. subst (λ (s : EntryStamp). PostsPieces s c.close-done.result.kind was known now.links c.close-done.result.taken c.close-done.result.sent) (c.stamp_at-stamp.ensures ∙ ap (stamp_of m) c.number.ensures)
    (pieces_closed was now (name_of c.args.id) c.close-done.result c.stamp_at-stamp.result refl e.made c.shut.ensures e.after e.posts known)))

pub returns-clause-fed : goal.returns-clause-fed
returns-clause-fed c = λ q fed.
    let i = c.self.inside in
    let was : PartsView = record { table = i.table; links = i.ends; sessions = i.sessions; jobs = i.jobs } in
    let now : PartsView = record { table = c.shut.new.table; links = c.close-done.new.ends; sessions = c.shut.new.sessions; jobs = i.jobs } in
    let e = c.close-done.ensures in
    fed_closed was now (name_of c.args.id) c.close-done.result c.stamp_at-stamp.result refl e.made c.shut.ensures e.after e.posts q (subst (AreAllFed q) (sym c.self.view_is) fed)

pub returns-clause-agrees : goal.returns-clause-agrees
returns-clause-agrees c = λ known agrees. c.shut.ensures.agrees known (subst (λ (p : PartsView). Agrees known p.table.holds) (sym c.self.view_is) agrees)

pub returns-clause-opens : goal.returns-clause-opens
returns-clause-opens c = λ b is.
    let i = c.self.inside in
    let was : PartsView = record { table = i.table; links = i.ends; sessions = i.sessions; jobs = i.jobs } in
    let now : PartsView = record { table = c.shut.new.table; links = c.close-done.new.ends; sessions = c.shut.new.sessions; jobs = i.jobs } in
    let e = c.close-done.ensures in
    subst (λ (p : PartsView). (end_at p.links b).opened ≡ true) c.self.view_is (opens_closed was now (name_of c.args.id) c.close-done.result c.stamp_at-stamp.result refl e.made c.shut.ensures e.after e.posts b is)
