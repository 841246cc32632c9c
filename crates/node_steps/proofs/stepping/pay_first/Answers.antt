-- What the proof of `stepping::pay_first` needs beside the tactics.
use Rattle.std.proofs.Common.{Ok, Err, drop, ap}
use Rattle.annex_base.specs.declared.kinds.Call.TheVariants.{PutFile}
use Rattle.node_past.specs.Stored.{store_view}
use Rattle.node_steps.specs.Nodes.{beside, told_of}
use Rattle.node_steps.proofs.KeptLemmas.{kept_status, refuses_beside, stands_so}
use Rattle.node_steps.proofs.PayLemmas.{adds_paid, failing_same, fault_adds, fault_steps, memory_fault, no_bundle, no_full, owing_first, pays_so, put_left, refused_same, steps_paid}
use Rattle.node_steps.proofs.StepLemmas.{told_some}
use Rattle.node_steps.proofs.stepping.pay_first.Goals as goal

pub returns-in-Ok-clause-stands : goal.returns-in-Ok-clause-stands
returns-in-Ok-clause-stands g c =
    let p = c.args.parts.now in
    let l = c.args.ledger.now in
    let first = owing_first l.owed c.requires.owes in
    let n = beside p l in
    let m = beside p c.pay.new.self in
    stands_so l c.pay.new.self p (g.K.Keeper.contents l.keeper) (g.K.Keeper.contents c.pay.new.self.keeper) (g.K.Keeper.parts l.keeper) (g.K.Keeper.parts c.pay.new.self.keeper) (g.K.Keeper.records l.keeper) (g.K.Keeper.records c.pay.new.self.keeper)
    c.pay.ensures.contents c.pay.ensures.parts c.pay.ensures.records
    (kept_status (Ok tt) first.0.by l c.pay.new.self p (told_of (g.K.Keeper.contents l.keeper) (g.K.Keeper.parts l.keeper)) first.0.key first.0.repo first.0.there c.files_are_changed_alone.ensures.there c.files_are_changed_alone.ensures.other (c.direct_entries_keep_parts.ensures p c.table.ensures.sound)
    (c.in-Ok.ensures.ok first.0 (drop 1 l.owed) first.1) tt) c.requires.stands

pub returns-in-Err-StoreFault-clause-stands : goal.returns-in-Err-StoreFault-clause-stands
returns-in-Err-StoreFault-clause-stands g c =
    let it = c.in-Err-StoreFault in
    let p = c.args.parts.now in
    let l = c.args.ledger.now in
    let first = owing_first l.owed c.requires.owes in
    let n = beside p l in
    let m = beside p c.pay.new.self in
    stands_so l c.pay.new.self p (g.K.Keeper.contents l.keeper) (g.K.Keeper.contents c.pay.new.self.keeper) (g.K.Keeper.parts l.keeper) (g.K.Keeper.parts c.pay.new.self.keeper) (g.K.Keeper.records l.keeper) (g.K.Keeper.records c.pay.new.self.keeper)
    c.pay.ensures.contents c.pay.ensures.parts c.pay.ensures.records
    (kept_status (Err it.field-0) first.0.by l c.pay.new.self p (told_of (g.K.Keeper.contents l.keeper) (g.K.Keeper.parts l.keeper)) first.0.key first.0.repo first.0.there c.files_are_changed_alone.ensures.there c.files_are_changed_alone.ensures.other (c.direct_entries_keep_parts.ensures p c.table.ensures.sound)
    tt (it.ensures.err first.0 (drop 1 l.owed) first.1)) c.requires.stands

pub returns-in-Err-NoMemory-clause-stands : goal.returns-in-Err-NoMemory-clause-stands
returns-in-Err-NoMemory-clause-stands g c =
    let it = c.in-Err-NoMemory in
    let p = c.args.parts.now in
    let l = c.args.ledger.now in
    let first = owing_first l.owed c.requires.owes in
    let n = beside p l in
    let m = beside p c.pay.new.self in
    stands_so l c.pay.new.self p (g.K.Keeper.contents l.keeper) (g.K.Keeper.contents c.pay.new.self.keeper) (g.K.Keeper.parts l.keeper) (g.K.Keeper.parts c.pay.new.self.keeper) (g.K.Keeper.records l.keeper) (g.K.Keeper.records c.pay.new.self.keeper)
    c.pay.ensures.contents c.pay.ensures.parts c.pay.ensures.records
    (kept_status (Err it.field-0) first.0.by l c.pay.new.self p (told_of (g.K.Keeper.contents l.keeper) (g.K.Keeper.parts l.keeper)) first.0.key first.0.repo first.0.there c.files_are_changed_alone.ensures.there c.files_are_changed_alone.ensures.other (c.direct_entries_keep_parts.ensures p c.table.ensures.sound)
    tt (it.ensures.err first.0 (drop 1 l.owed) first.1)) c.requires.stands

pub returns-in-Ok-clause-adds : goal.returns-in-Ok-clause-adds
returns-in-Ok-clause-adds g c =
    let p = c.args.parts.now in
    let l = c.args.ledger.now in
    let first = owing_first l.owed c.requires.owes in
    let n = beside p l in
    let m = beside p c.pay.new.self in
    adds_paid c.ends_go_on.ensures.begin n m first.0 (store_view (g.K.Keeper.contents n.keeper) (g.K.Keeper.parts n.keeper) (g.K.Keeper.failing n.keeper) (g.K.Keeper.faults n.keeper)) (store_view (g.K.Keeper.contents m.keeper) (g.K.Keeper.parts m.keeper) (g.K.Keeper.failing m.keeper) (g.K.Keeper.faults m.keeper)) (ap (beside p) (c.in-Ok.ensures.ok first.0 (drop 1 l.owed) first.1)) (put_left (store_view (g.K.Keeper.contents n.keeper) (g.K.Keeper.parts n.keeper) (g.K.Keeper.failing n.keeper) (g.K.Keeper.faults n.keeper)) (store_view (g.K.Keeper.contents m.keeper) (g.K.Keeper.parts m.keeper) (g.K.Keeper.failing m.keeper) (g.K.Keeper.faults m.keeper)) c.pay.ensures.contents c.pay.ensures.parts c.in-Ok.ensures.calls)

pub returns-in-Ok-clause-step : goal.returns-in-Ok-clause-step
returns-in-Ok-clause-step g c =
    let p = c.args.parts.now in
    let l = c.args.ledger.now in
    let first = owing_first l.owed c.requires.owes in
    let n = beside p l in
    let m = beside p c.pay.new.self in
    λ x told. steps_paid tt n m first.0 (store_view (g.K.Keeper.contents n.keeper) (g.K.Keeper.parts n.keeper) (g.K.Keeper.failing n.keeper) (g.K.Keeper.faults n.keeper)) (store_view (g.K.Keeper.contents m.keeper) (g.K.Keeper.parts m.keeper) (g.K.Keeper.failing m.keeper) (g.K.Keeper.faults m.keeper))
    (told_some (g.K.Keeper.contents l.keeper) (g.K.Keeper.parts l.keeper) x told).1 (ap (beside p) (c.in-Ok.ensures.ok first.0 (drop 1 l.owed) first.1))
    (pays_so (Ok tt) n m first.0 (drop 1 l.owed) (told_of (g.K.Keeper.contents l.keeper) (g.K.Keeper.parts l.keeper)) c.requires.stands.kept.state first.1 (ap (beside p) (c.in-Ok.ensures.ok first.0 (drop 1 l.owed) first.1)) tt x told) c.in-Ok.ensures.calls

pub returns-in-Err-StoreFault-clause-adds : goal.returns-in-Err-StoreFault-clause-adds
returns-in-Err-StoreFault-clause-adds g c =
    let it = c.in-Err-StoreFault in
    let p = c.args.parts.now in
    let l = c.args.ledger.now in
    let first = owing_first l.owed c.requires.owes in
    let n = beside p l in
    let m = beside p c.pay.new.self in
    fault_adds c.ends_go_on.ensures.begin it.field-0 n m first.0 (store_view (g.K.Keeper.contents n.keeper) (g.K.Keeper.parts n.keeper) (g.K.Keeper.failing n.keeper) (g.K.Keeper.faults n.keeper)) (store_view (g.K.Keeper.contents m.keeper) (g.K.Keeper.parts m.keeper) (g.K.Keeper.failing m.keeper) (g.K.Keeper.faults m.keeper))
    it.field-0-is (refuses_beside p first.0.by it.field-0 PutFile l c.pay.new.self (it.ensures.err first.0 (drop 1 l.owed) first.1)) c.pay.ensures.contents c.pay.ensures.parts it.ensures.calls (it.ensures.cause (λ j. Err (it.field-0-is j)))

pub returns-in-Err-StoreFault-clause-step : goal.returns-in-Err-StoreFault-clause-step
returns-in-Err-StoreFault-clause-step g c =
    let it = c.in-Err-StoreFault in
    let p = c.args.parts.now in
    let l = c.args.ledger.now in
    let first = owing_first l.owed c.requires.owes in
    let n = beside p l in
    let m = beside p c.pay.new.self in
    λ x told. fault_steps it.field-0 n m first.0 (store_view (g.K.Keeper.contents n.keeper) (g.K.Keeper.parts n.keeper) (g.K.Keeper.failing n.keeper) (g.K.Keeper.faults n.keeper)) (store_view (g.K.Keeper.contents m.keeper) (g.K.Keeper.parts m.keeper) (g.K.Keeper.failing m.keeper) (g.K.Keeper.faults m.keeper))
    (told_some (g.K.Keeper.contents l.keeper) (g.K.Keeper.parts l.keeper) x told).1 it.field-0-is (refuses_beside p first.0.by it.field-0 PutFile l c.pay.new.self (it.ensures.err first.0 (drop 1 l.owed) first.1)) (pays_so (Err it.field-0) n m first.0 (drop 1 l.owed) (told_of (g.K.Keeper.contents l.keeper) (g.K.Keeper.parts l.keeper)) c.requires.stands.kept.state first.1 tt (refuses_beside p first.0.by it.field-0 PutFile l c.pay.new.self (it.ensures.err first.0 (drop 1 l.owed) first.1)) x told) it.ensures.calls

pub returns-in-Err-NoMemory-clause-err : goal.returns-in-Err-NoMemory-clause-err
returns-in-Err-NoMemory-clause-err g c =
    let it = c.in-Err-NoMemory in
    let p = c.args.parts.now in
    let l = c.args.ledger.now in
    let first = owing_first l.owed c.requires.owes in
    let n = beside p l in
    let m = beside p c.pay.new.self in
    refused_same it.field-0 n m first.0 (memory_fault it.field-0 it.field-0-is) (refuses_beside p first.0.by it.field-0 PutFile l c.pay.new.self (it.ensures.err first.0 (drop 1 l.owed) first.1))

pub returns-in-Err-NoMemory-clause-err_store : goal.returns-in-Err-NoMemory-clause-err_store
returns-in-Err-NoMemory-clause-err_store g c =
    let it = c.in-Err-NoMemory in
    let p = c.args.parts.now in
    let l = c.args.ledger.now in
    let first = owing_first l.owed c.requires.owes in
    let n = beside p l in
    let m = beside p c.pay.new.self in
    let e = c.pay.ensures in
    record {
      contents = e.contents;
      parts = e.parts;
      records = e.records;
      files = it.ensures.err_files;
      failing = failing_same it.field-0 (g.K.Keeper.failing l.keeper) (g.K.Keeper.failing c.pay.new.self.keeper) (memory_fault it.field-0 it.field-0-is) it.ensures.calls;
    }

pub unreachable-requires : goal.unreachable-requires
unreachable-requires g c =
    let it = c.in-Err-Full in
    let p = c.args.parts.now in
    let l = c.args.ledger.now in
    let first = owing_first l.owed c.requires.owes in
    let n = beside p l in
    let m = beside p c.pay.new.self in
    no_full it.field-0 n m first.0 it.field-0-is (refuses_beside p first.0.by it.field-0 PutFile l c.pay.new.self (it.ensures.err first.0 (drop 1 l.owed) first.1)) c.requires.room

pub unreachable-requires-in-Err-BadBundle : goal.unreachable-requires-in-Err-BadBundle
unreachable-requires-in-Err-BadBundle g c =
    let it = c.in-Err-BadBundle in
    let p = c.args.parts.now in
    let l = c.args.ledger.now in
    let first = owing_first l.owed c.requires.owes in
    let n = beside p l in
    let m = beside p c.pay.new.self in
    no_bundle it.field-0 _ n m first.0 it.field-0-is (refuses_beside p first.0.by it.field-0 PutFile l c.pay.new.self (it.ensures.err first.0 (drop 1 l.owed) first.1))
