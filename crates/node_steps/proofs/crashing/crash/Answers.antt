-- What the proof of `crashing::crash` needs beside the tactics.
use Rattle.std.proofs.Common.{ℕ, ◌<◌, All, List, refl, sym, ap, subst}
use Rattle.node_past.specs.Owing.{AreDebts}
use Rattle.node_past.proofs.OwedLemmas.{owed_in}
use Rattle.owed_lines.specs.declared.debt.Debt.{Debt}
use Rattle.node_ledger.proofs.WriteLemmas.{ledger_of}
use Rattle.node_steps.specs.Crashing.{Crashes}
use Rattle.node_steps.specs.Kept.{IsKept}
use Rattle.node_steps.specs.Nodes.{NodeView, beside, told_of}
use Rattle.node_steps.proofs.CrashLemmas.{crashes_one, kept_fallen, kept_ready}
use Rattle.node_steps.proofs.KeptLemmas.{stands_in}
use Rattle.node_steps.proofs.MoveLemmas.{next_number, seen, seen_same}
use Rattle.node_steps.proofs.crashing.crash.Goals as goal

pub fall-requires-clause-numbers : goal.fall-requires-clause-numbers
fall-requires-clause-numbers g c =
    let i = c.ledger.inside in
    let stood = stands_in g.K.Keeper.contents g.K.Keeper.parts g.K.Keeper.records (ledger_of i.keeper i.branch i.past (owed_in i.past i.debts.items)) c.args.ledger.now c.args.parts.now c.ledger.view_is c.requires.stands in
    subst (λ (n : ℕ). All (λ h. h.number < n) c.args.parts.now.table.holds) (sym (next_number i.past c.take_room.new.past c.take_room.ensures.same)) stood.kept.numbered

pub invariant_of-ledger : goal.invariant_of-ledger
invariant_of-ledger g c =
    let now = c.fall.new.past in
    (c.ledger.invariant.0, c.ledger.invariant.1, subst (AreDebts now.setup now.history.items) (sym c.clear.ensures.items) tt)

pub returns-clause-stands : goal.returns-clause-stands
returns-clause-stands g c =
    let i = c.ledger.inside in
    let stood = stands_in g.K.Keeper.contents g.K.Keeper.parts g.K.Keeper.records (ledger_of i.keeper i.branch i.past (owed_in i.past i.debts.items)) c.args.ledger.now c.args.parts.now c.ledger.view_is c.requires.stands in
    let p = c.args.parts.now in
    let ready = c.take_room.new.past in
    let w = c.fall in
    let told = told_of (g.K.Keeper.contents i.keeper) (g.K.Keeper.parts i.keeper) in
    let owed = owed_in i.past i.debts.items in
    let kept = kept_ready i.past ready p i.branch owed told c.take_room.ensures.same stood.kept in record {
      kept = subst (λ (ds : List Debt). IsKept w.new.past.setup w.new.past.clock w.new.past.history.items w.new.parts i.branch (owed_in w.new.past ds) told) (sym c.clear.ensures.items)
          (kept_fallen i.keeper c.args.clock p w.new.parts ready w.new.past i.branch owed w.ensures told kept c.tables_fill_as_states.ensures);
      agrees = w.ensures.agrees (g.K.Keeper.records i.keeper) stood.agrees;
      fed = λ q known. w.ensures.fed q (stood.fed q known);
    }

pub returns-clause-ok : goal.returns-clause-ok
returns-clause-ok g c =
    let i = c.ledger.inside in
    let stood = stands_in g.K.Keeper.contents g.K.Keeper.parts g.K.Keeper.records (ledger_of i.keeper i.branch i.past (owed_in i.past i.debts.items)) c.args.ledger.now c.args.parts.now c.ledger.view_is c.requires.stands in
    let p = c.args.parts.now in
    let ready = c.take_room.new.past in
    let w = c.fall in
    let told = told_of (g.K.Keeper.contents i.keeper) (g.K.Keeper.parts i.keeper) in
    let owed = owed_in i.past i.debts.items in
    let kept = kept_ready i.past ready p i.branch owed told c.take_room.ensures.same stood.kept in
    let number = ap (λ x. x.number) kept.place in
    subst (λ l. Crashes (told_of (g.K.Keeper.contents l.keeper) (g.K.Keeper.parts l.keeper)) c.args.clock (beside p l) (seen i.keeper w.new.parts i.branch w.new.past (owed_in w.new.past c.clear.new.self.items))) c.ledger.view_is
    (subst (λ (n : NodeView _). Crashes told c.args.clock n (seen i.keeper w.new.parts i.branch w.new.past (owed_in w.new.past c.clear.new.self.items)))
    (seen_same i.keeper i.keeper p p i.branch i.past ready owed owed (seen i.keeper p i.branch i.past owed) refl refl c.take_room.ensures.same refl)
    (subst (λ (ds : List Debt). Crashes told c.args.clock (seen i.keeper p i.branch ready owed) (seen i.keeper w.new.parts i.branch w.new.past (owed_in w.new.past ds))) (sym c.clear.ensures.items)
    (crashes_one i.keeper c.args.clock p w.new.parts ready w.new.past i.branch owed w.ensures told kept number)))

pub returns-clause-paired : goal.returns-clause-paired
returns-clause-paired g c = c.fall.ensures.paired
