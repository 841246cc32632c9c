-- What the proof of `ledger::Ledger::bring` needs beside the tactics.
use Rattle.std.proofs.Common.{IfErr, subst, sym, ◌∙◌}
use Rattle.node_ledger.proofs.GainLemmas.{LedgerStops, grows_brought, seen_same, seen_stops, seen_told}
use Rattle.node_past.proofs.OwedLemmas.{debts_grow, owed_grows, owed_in}
use Rattle.node_ledger.proofs.FullLemmas.{room_seen}
use Rattle.node_ledger.proofs.WriteLemmas.{ledger_of}
use Rattle.node_ledger.proofs.ledger.Ledger.bring.Goals as goal

pub returns-clause-ok : goal.returns-clause-ok
returns-clause-ok g c =
    let i = c.self.inside in
    let w = c.bring in
    let grows = grows_brought w.result i.past w.new.past w.ensures.same w.ensures.err in
    seen_same w.result i.keeper w.new.keeper i.branch i.past w.new.past (owed_in i.past i.debts.items) (owed_in w.new.past i.debts.items) c.args.self.now c.self.view_is w.ensures.same
    (owed_grows i.past w.new.past i.debts.items grows c.self.invariant.2)

pub returns-clause-err : goal.returns-clause-err
returns-clause-err g c =
    let i = c.self.inside in
    let w = c.bring in
    let grows = grows_brought w.result i.past w.new.past w.ensures.same w.ensures.err in
    seen_stops w.result i.keeper w.new.keeper i.branch i.past w.new.past (owed_in i.past i.debts.items) (owed_in w.new.past i.debts.items) c.args.self.now c.self.view_is w.ensures.err
    (owed_grows i.past w.new.past i.debts.items grows c.self.invariant.2)

pub invariant_of-self : goal.invariant_of-self
invariant_of-self g c =
    let i = c.self.inside in
    let w = c.bring in
    let grows = grows_brought w.result i.past w.new.past w.ensures.same w.ensures.err in (
      λ f told. c.self.invariant.0 f (sym w.ensures.files ∙ told),
      c.self.invariant.1,
      debts_grow i.past w.new.past i.debts.items grows c.self.invariant.2,
    )

pub returns-clause-stops : goal.returns-clause-stops
returns-clause-stops g c =
    let i = c.self.inside in
    let w = c.bring in
    let owed = owed_in i.past i.debts.items in
    let owed' = owed_in w.new.past i.debts.items in
    let grows = grows_brought w.result i.past w.new.past w.ensures.same w.ensures.err in
    subst
    (λ v. IfErr w.result (λ e. LedgerStops c.args.key.now c.args.bytes.now c.args.table.now (g.K.Keeper.contents v.keeper) (g.K.Keeper.parts v.keeper) (g.K.Keeper.parts w.new.keeper) (g.K.Keeper.failing v.keeper) (g.K.Keeper.failing w.new.keeper) e v (ledger_of w.new.keeper i.branch w.new.past owed')))
    c.self.view_is
    (seen_told w.result i.keeper w.new.keeper i.branch i.past w.new.past owed owed' c.args.key.now c.args.bytes.now c.args.table.now
    (g.K.Keeper.contents i.keeper) (g.K.Keeper.parts i.keeper) (g.K.Keeper.parts w.new.keeper) (g.K.Keeper.failing i.keeper) (g.K.Keeper.failing w.new.keeper)
    w.ensures.stops (owed_grows i.past w.new.past i.debts.items grows c.self.invariant.2))

pub returns-clause-room : goal.returns-clause-room
returns-clause-room g c =
    let i = c.self.inside in
    room_seen c.bring.result (ledger_of i.keeper i.branch i.past (owed_in i.past i.debts.items)) c.args.self.now c.self.view_is c.bring.ensures.room
