-- What the proof of `stepping::act` needs beside the tactics.
use Rattle.std.proofs.Common.{ℕ, ◌<◌, All, subst, inr, sym, ap, ◌∙◌}
use Rattle.node_model.specs.Turns.{job_step}
use Rattle.node_steps.specs.Nodes.{told_of, beside}
use Rattle.node_past.specs.Owing.{is_owing}
use Rattle.node_past.specs.Stored.{store_view}
use Rattle.node_steps.proofs.BeginLemmas.{fed_after}
use Rattle.node_steps.proofs.KeptLemmas.{stands_in}
use Rattle.node_ledger.proofs.WriteLemmas.{ledger_of}
use Rattle.node_steps.proofs.MoveLemmas.{next_number, acted_calls, acted_does, adds_if, jobs_tell, leaves_at, posts_at, steps_if}
use Rattle.node_steps.proofs.NoteLemmas.{debts_if, kept_if, owed_if_none, place_among}
use Rattle.node_past.proofs.OwedLemmas.{owed_in}
use Rattle.node_steps.proofs.TurnLemmas.{none_owing}
use Rattle.node_steps.proofs.stepping.act.Goals as goal

pub returns-clause-stands : goal.returns-clause-stands
returns-clause-stands g c =
    let i = c.ledger.inside in
    let p = c.args.parts.now in
    let stands = stands_in g.K.Keeper.contents g.K.Keeper.parts g.K.Keeper.records (ledger_of i.keeper i.branch i.past (owed_in i.past i.debts.items)) c.args.ledger.now p c.ledger.view_is c.requires.stands in
    let room = c.make_room in
    let w = c.act in
    let it = c.in_ok-done in
    let e = c.enter_if in
    let at = c.moment_of-moment in
    let law = c.settings_are_those_of_the_lines_read.ensures in
    let settings = c.in-Some.settings in
    let reads = c.make_index.ensures.reads c.ledger.invariant.1 settings c.in-Some.is in
    let none = none_owing (owed_in i.past i.debts.items) (ap (λ v. is_owing v.owed) c.ledger.view_is ∙ c.requires.paid) in record {
      kept = kept_if job_step c.tables_fill_as_states.ensures c.states_have_their_settings.ensures.made it.done i.past room.new.past e.new.past p w.new.self i.branch i.debts.items room.new.debts.items e.new.debts.items
          (g.K.Keeper.contents i.keeper) (g.K.Keeper.contents w.new.keeper) (g.K.Keeper.parts i.keeper) (g.K.Keeper.parts w.new.keeper) c.table.ensures.sound c.table-2.ensures.sound room.ensures.same room.ensures.same_debts e.ensures.enters c.ledger.invariant.2 none
          (leaves_at at.result i.past room.new.past p w.new.self it.done at.ensures room.ensures.same it.ensures.leaves) it.ensures.kind (jobs_tell p it.done it.ensures.owes)
          (acted_does at.result i.past room.new.past p i.branch (owed_in i.past i.debts.items) (g.K.Keeper.contents i.keeper) (g.K.Keeper.parts i.keeper) settings it.done at.ensures room.ensures.same law.read reads stands.kept
          w.new.self (g.K.Keeper.contents w.new.keeper) stands.fed it.ensures.step it.ensures.asked)
          w.ensures.told_parts w.ensures.told_contents w.ensures.place w.ensures.begun stands.kept;
      agrees = w.ensures.agrees;
      fed = fed_after (g.K.Keeper.parts i.keeper) (g.K.Keeper.parts w.new.keeper) p w.new.self w.ensures.told_parts w.ensures.fed stands.fed;
    }

pub invariant_of-ledger-2 : goal.invariant_of-ledger-2
invariant_of-ledger-2 g c =
    let i = c.ledger.inside in
    let p = c.args.parts.now in
    let stands = stands_in g.K.Keeper.contents g.K.Keeper.parts g.K.Keeper.records (ledger_of i.keeper i.branch i.past (owed_in i.past i.debts.items)) c.args.ledger.now p c.ledger.view_is c.requires.stands in
    let room = c.make_room in
    let w = c.act in
    let it = c.in_ok-done in
    let e = c.enter_if in
    let none = none_owing (owed_in i.past i.debts.items) (ap (λ v. is_owing v.owed) c.ledger.view_is ∙ c.requires.paid) in (
      λ f told. c.ledger.invariant.0 f (sym w.ensures.files ∙ told),
      c.make_index.ensures.reads c.ledger.invariant.1,
      debts_if it.done i.past room.new.past e.new.past i.debts.items room.new.debts.items e.new.debts.items room.ensures.same room.ensures.same_debts e.ensures.enters
          (place_among i.past.setup p.jobs.place it.done stands.kept.place it.ensures.among) c.ledger.invariant.2 none,
    )

pub returns-clause-adds : goal.returns-clause-adds
returns-clause-adds g c =
    let i = c.ledger.inside in
    let p = c.args.parts.now in
    let stands = stands_in g.K.Keeper.contents g.K.Keeper.parts g.K.Keeper.records (ledger_of i.keeper i.branch i.past (owed_in i.past i.debts.items)) c.args.ledger.now p c.ledger.view_is c.requires.stands in
    let room = c.make_room in
    let w = c.act in
    let it = c.in_ok-done in
    let e = c.enter_if in
    adds_if (λ x. store_view (g.K.Keeper.contents x) (g.K.Keeper.parts x) (g.K.Keeper.failing x) (g.K.Keeper.faults x))
    it.done e.result i.keeper w.new.keeper p w.new.self i.branch c.moment_of-moment.result.number i.past room.new.past e.new.past room.new.debts.items e.new.debts.items (owed_in i.past i.debts.items) (owed_in e.new.past e.new.debts.items)
    (beside p c.args.ledger.now) (ap (beside p) c.ledger.view_is) e.ensures.made room.ensures.same e.ensures.enters it.ensures.leaves
    (posts_at c.moment_of-moment.result i.past room.new.past p w.new.self (g.K.Keeper.contents i.keeper) it.done c.moment_of-moment.ensures room.ensures.same stands.kept.place it.ensures.posts) (λ d is. inr (w.ensures.sessions, it.ensures.jobs d is)) it.ensures.kind it.ensures.cause
    (record { contents = it.ensures.contents; parts = it.ensures.parts; left = it.ensures.left })
    (owed_if_none it.done i.past room.new.past e.new.past i.debts.items room.new.debts.items e.new.debts.items room.ensures.same room.ensures.same_debts e.ensures.enters c.ledger.invariant.2) it.ensures.unasked

pub returns-clause-step : goal.returns-clause-step
returns-clause-step g c =
    let i = c.ledger.inside in
    let p = c.args.parts.now in
    let stands = stands_in g.K.Keeper.contents g.K.Keeper.parts g.K.Keeper.records (ledger_of i.keeper i.branch i.past (owed_in i.past i.debts.items)) c.args.ledger.now p c.ledger.view_is c.requires.stands in
    let room = c.make_room in
    let w = c.act in
    let it = c.in_ok-done in
    let e = c.enter_if in
    let at = c.moment_of-moment in
    let law = c.settings_are_those_of_the_lines_read.ensures in
    let settings = c.in-Some.settings in
    let reads = c.make_index.ensures.reads c.ledger.invariant.1 settings c.in-Some.is in
    λ x told.
    steps_if (λ x. store_view (g.K.Keeper.contents x) (g.K.Keeper.parts x) (g.K.Keeper.failing x) (g.K.Keeper.faults x))
    job_step c.states_have_their_settings.ensures.made it.done e.result i.keeper w.new.keeper p w.new.self i.branch i.past room.new.past e.new.past room.new.debts.items e.new.debts.items
    (owed_in i.past i.debts.items) (owed_in e.new.past e.new.debts.items) (beside p c.args.ledger.now) (ap (beside p) c.ledger.view_is) e.ensures.made room.ensures.same e.ensures.enters stands.kept
    (acted_does at.result i.past room.new.past p i.branch (owed_in i.past i.debts.items) (g.K.Keeper.contents i.keeper) (g.K.Keeper.parts i.keeper) settings it.done at.ensures room.ensures.same law.read reads stands.kept
    w.new.self (g.K.Keeper.contents w.new.keeper) stands.fed it.ensures.step it.ensures.asked)
    (acted_calls at.result i.past room.new.past p i.branch (owed_in i.past i.debts.items) (g.K.Keeper.contents i.keeper) (g.K.Keeper.parts i.keeper) settings it.done at.ensures room.ensures.same law.read reads stands.kept
    (g.K.Keeper.failing i.keeper) (g.K.Keeper.failing w.new.keeper) it.ensures.calls)
    x (ap (λ v. told_of (g.K.Keeper.contents v.keeper) (g.K.Keeper.parts v.keeper)) c.ledger.view_is ∙ told)

pub act-requires-clause-agrees : goal.act-requires-clause-agrees
act-requires-clause-agrees g c =
    let i = c.ledger.inside in
    let p = c.args.parts.now in
    let stands = stands_in g.K.Keeper.contents g.K.Keeper.parts g.K.Keeper.records (ledger_of i.keeper i.branch i.past (owed_in i.past i.debts.items)) c.args.ledger.now p c.ledger.view_is c.requires.stands in
    stands.agrees

pub act-requires-clause-fresh : goal.act-requires-clause-fresh
act-requires-clause-fresh g c =
    let i = c.ledger.inside in
    let p = c.args.parts.now in
    let stands = stands_in g.K.Keeper.contents g.K.Keeper.parts g.K.Keeper.records (ledger_of i.keeper i.branch i.past (owed_in i.past i.debts.items)) c.args.ledger.now p c.ledger.view_is c.requires.stands in
    let room = c.make_room in
    subst (λ (n : ℕ). All (λ h. h.number < n) p.table.holds) (sym (ap (λ m. m.number) c.moment_of-moment.ensures ∙ next_number i.past room.new.past room.ensures.same)) stands.kept.numbered
