-- What the proof of `records::add` needs beside the tactics.
use Rattle.std.proofs.Common.{List, Some, ℕ, subst}
use Rattle.run_audit.proofs.Placing.{Sets, add_stays, set_here, stay_equal, stay_same}
use Rattle.run_audit.proofs.records.add.Goals as goal

pub returns-in_err-name-clause-same : goal.returns-in_err-name-clause-same
returns-in_err-name-clause-same c = stay_same c.args.repos c.args.kept.now.entries

pub returns-in_err-record-clause-same : goal.returns-in_err-record-clause-same
returns-in_err-record-clause-same c = stay_same c.args.repos c.args.kept.now.entries

pub returns-in_err-insert-clause-same : goal.returns-in_err-insert-clause-same
returns-in_err-insert-clause-same c = stay_equal c.args.repos c.args.kept.now.entries c.insert.new.self.entries c.in_err-insert.ensures.err

pub returns-clause-place : goal.returns-clause-place
returns-clause-place c =
    let sets = subst (λ (k : List ℕ). Sets c.args.kept.now.entries c.insert.new.self.entries k (Some c.in_ok-record.record)) c.in_ok-name.ensures c.in_ok-insert.ensures.updates.0 in
    (c.in_ok-record.record, set_here c.args.kept.now.entries c.insert.new.self.entries c.args.key.now (Some c.in_ok-record.record) sets)

pub returns-clause-same : goal.returns-clause-same
returns-clause-same c =
    let sets = subst (λ (k : List ℕ). Sets c.args.kept.now.entries c.insert.new.self.entries k (Some c.in_ok-record.record)) c.in_ok-name.ensures c.in_ok-insert.ensures.updates.0 in
    add_stays c.args.kept.now.entries c.insert.new.self.entries c.args.key.now c.args.repos c.in_ok-record.record c.in_ok-record.ensures c.requires sets
