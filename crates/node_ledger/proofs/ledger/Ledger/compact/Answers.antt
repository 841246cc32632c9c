-- What the proof of `ledger::Ledger::compact` needs beside the tactics.
use Rattle.std.proofs.Common.{List, ℕ, subst, None, Err, arith, sym, ap, ◌∙◌}
use Rattle.node_ledger.specs.Walks.{StopsAfter, compact_files, compact_file, over}
use Rattle.node_ledger.proofs.WalkLemmas.{stops, compact_over, step_more}
use Rattle.std.specs.List.{list_any}
use Rattle.annex_base.specs.declared.kinds.Call.TheVariants.{PutFile}
use Rattle.run_data.specs.Files.{file_of}
use Rattle.content_lock.specs.CallsMade.{MakesCalls}
use Rattle.node_ledger.specs.Calls.{MeetsFull, shrinks_at, to_compact}
use Rattle.node_past.specs.Calls.{StopsIn, to_write}
use Rattle.node_past.specs.declared.refused.NodeRefused.TheVariants.{Full, StoreFault}
use Rattle.node_past.proofs.CallLemmas.{makes_short, same_refusal}
use Rattle.node_ledger.proofs.FullLemmas.{meets_at}
use Rattle.node_ledger.proofs.WalkCallLemmas.{alone_at, not_compacted, shrinks_blind, stops_at, wrote_at, wrote_to_end}
use Rattle.node_ledger.proofs.ledger.Ledger.compact.Goals as goal

pub returns-in-Err-clause-err : goal.returns-in-Err-clause-err
returns-in-Err-clause-err g c =
    subst (λ (all : List (List ℕ)). StopsAfter (compact_files c.args.self.now) all c.in-Err.refused c.compact_file.new.self) c.loop-path.invariant.all
    (stops (compact_files c.args.self.now) _ c.in-Err.refused c.loop-path.self c.compact_file.new.self c.loop-path.path-index c.loop-path.invariant.is c.in-Err.ensures.err)

pub returns-in_err-paths-clause-calls : goal.returns-in_err-paths-clause-calls
returns-in_err-paths-clause-calls g c = makes_short (to_compact c.args.self.now) PutFile c.from_residual.result (g.K.Keeper.failing c.args.self.now.keeper) c.from_residual.ensures.1

pub returns-in-Err-clause-calls : goal.returns-in-Err-clause-calls
returns-in-Err-clause-calls g c =
    let start = c.args.self.now in
    let now = c.loop-path.self in
    let next = c.compact_file.new.self in
    let i = c.loop-path.path-index in
    let item = c.path-item.result in
    let path = c.bytes.result.now in
    let is = sym c.path-item.is ∙ sym c.bytes.ensures in
    subst (λ (xs : List (List ℕ)). StopsIn (to_write (list_any (shrinks_at start) xs)) PutFile c.in-Err.refused (g.K.Keeper.failing start.keeper) (g.K.Keeper.failing next.keeper)) c.loop-path.invariant.all
    (stops_at shrinks_at start now _ i item path c.in-Err.refused (g.K.Keeper.failing start.keeper) (g.K.Keeper.failing now.keeper) (g.K.Keeper.failing next.keeper) shrinks_blind c.loop-path-test.true is c.loop-path.invariant.wrote c.in-Err.ensures.calls)

pub returns-in-Err-clause-alone : goal.returns-in-Err-clause-alone
returns-in-Err-clause-alone g c =
    let start = c.args.self.now in
    let now = c.loop-path.self in
    let next = c.compact_file.new.self in
    let i = c.loop-path.path-index in
    let item = c.path-item.result in
    let path = c.bytes.result.now in
    let is = sym c.path-item.is ∙ sym c.bytes.ensures in
    λ fault. alone_at shrinks_at start now next _ i item path c.in-Err.refused (g.K.Keeper.failing start.keeper) (g.K.Keeper.failing now.keeper) (g.K.Keeper.failing next.keeper) shrinks_blind c.loop-path-test.true is c.loop-path.invariant.wrote c.in-Err.ensures.calls c.in-Err.ensures.err (same_refusal c.in-Err.refused StoreFault fault)

pub returns-in-Err-clause-full : goal.returns-in-Err-clause-full
returns-in-Err-clause-full g c =
    let start = c.args.self.now in
    let now = c.loop-path.self in
    let next = c.compact_file.new.self in
    let i = c.loop-path.path-index in
    let item = c.path-item.result in
    let path = c.bytes.result.now in
    let is = sym c.path-item.is ∙ sym c.bytes.ensures in
    let inv = c.loop-path.invariant in
    λ full. subst (λ (xs : List (List ℕ)). MeetsFull (compact_files start) shrinks_at xs (g.K.Keeper.failing start.keeper) (g.K.Keeper.failing next.keeper) start next) inv.all
    (meets_at (λ m p. compact_file m (file_of p)) shrinks_at start now next _ i item path c.in-Err.refused (g.K.Keeper.failing start.keeper) (g.K.Keeper.failing now.keeper) (g.K.Keeper.failing next.keeper) shrinks_blind c.loop-path-test.true is inv.is inv.wrote
    c.in-Err.ensures.calls c.in-Err.ensures.err (λ same. c.in-Err.ensures.full (ap Err same)) (same_refusal c.in-Err.refused Full full))

pub loop-path-preserved : goal.loop-path-preserved
loop-path-preserved g c =
    let start = c.args.self.now in
    let now = c.loop-path.self in
    let next = c.compact_file.new.self in
    let i = c.loop-path.path-index in
    let item = c.path-item.result in
    let path = c.bytes.result.now in
    let is = sym c.path-item.is ∙ sym c.bytes.ensures in
    let inv = c.loop-path.invariant in
    record {
      is = step_more (λ m p. compact_file m (file_of p)) (λ k m p. compact_over k m (file_of p)) start now next _ i item c.loop-path-test.true inv.is
          (c.in_default.ensures.ok ∙ ap (λ (p : List ℕ). over next.keeper (compact_file now (file_of p))) (sym is));
      wrote = wrote_at shrinks_at start now next _ i item path (g.K.Keeper.failing start.keeper) (g.K.Keeper.failing now.keeper) (g.K.Keeper.failing next.keeper) shrinks_blind c.loop-path-test.true is inv.wrote c.in_default.ensures.calls
          (λ none. c.in_default.ensures.ok ∙ ap (λ m. over next.keeper m) (not_compacted now path none));
      all = inv.all;
      lines = inv.lines;
      contents = c.compact_file.ensures.contents ∙ inv.contents;
      parts = c.compact_file.ensures.parts ∙ inv.parts;
      records = c.compact_file.ensures.records ∙ inv.records;
      later = omega (arith, inv.later, c.compact_file.ensures.later);
    }

pub returns-clause-calls : goal.returns-clause-calls
returns-clause-calls g c =
    let start = c.args.self.now in
    let now = c.loop-path.self in
    let i = c.loop-path.path-index in
    subst (λ (xs : List (List ℕ)). MakesCalls (to_write (list_any (shrinks_at start) xs)) None (g.K.Keeper.failing start.keeper) (g.K.Keeper.failing now.keeper)) c.loop-path.invariant.all
    (wrote_to_end shrinks_at start now _ i (g.K.Keeper.failing start.keeper) (g.K.Keeper.failing now.keeper) c.loop-path-test.false c.loop-path.invariant.wrote)
