-- What the proof of `compaction::has_outdated` needs beside the tactics.
use Rattle.std.proofs.Common.{sym, ap, ◌∙◌, ◌||◌, get_or, arith}
use Rattle.std.specs.List.{list_any}
use Rattle.std.proofs.lemmas.List.{take_all}
use Rattle.std.proofs.lemmas.List.Folds.{list_any_at, list_any_more}
use Rattle.log_grammar.specs.Reading.{entry_of}
use Rattle.log_lines.specs.Newest.{is_outdated}
use Rattle.log_lines.specs.Index.{Index}
use Rattle.log_lines.specs.Latest.{is_outdated_in}
use Rattle.log_lines.proofs.CompactLemmas.{outdated_by_newest, fewer_is}
use Rattle.log_lines.proofs.compaction.has_outdated.Goals as goal

pub returns-then-branch-clause-value : goal.returns-then-branch-clause-value
returns-then-branch-clause-value c =
    let lines = c.args.lines.now in
    let kind = c.args.kind in
    let line = c.line-item.result in
    let answer = c.in_ok-outdates.ensures
    ∙ ap (λ (n : Index). is_outdated_in n.entries (entry_of n.kind line)) c.in_ok-index.ensures
    ∙ outdated_by_newest kind lines line in
    let here = ap (is_outdated kind lines) (sym c.line-item.is) ∙ sym answer ∙ c.if-branch.true in
    sym (list_any_at (is_outdated kind lines) lines c.loop-line.line-index line c.loop-line-test.true here)

pub returns-then-branch-clause-fewer : goal.returns-then-branch-clause-fewer
returns-then-branch-clause-fewer c =
    let lines = c.args.lines.now in
    let kind = c.args.kind in
    let line = c.line-item.result in
    let answer = c.in_ok-outdates.ensures
    ∙ ap (λ (n : Index). is_outdated_in n.entries (entry_of n.kind line)) c.in_ok-index.ensures
    ∙ outdated_by_newest kind lines line in
    let here = ap (is_outdated kind lines) (sym c.line-item.is) ∙ sym answer ∙ c.if-branch.true in
    sym (fewer_is (is_outdated kind lines) lines ∙ list_any_at (is_outdated kind lines) lines c.loop-line.line-index line c.loop-line-test.true here)

pub loop-line-preserved : goal.loop-line-preserved
loop-line-preserved c =
    let lines = c.args.lines.now in
    let kind = c.args.kind in
    let line = c.line-item.result in
    let answer = c.in_ok-outdates.ensures
    ∙ ap (λ (n : Index). is_outdated_in n.entries (entry_of n.kind line)) c.in_ok-index.ensures
    ∙ outdated_by_newest kind lines line in
    let here = ap (is_outdated kind lines) (sym c.line-item.is) ∙ sym answer ∙ c.if-branch.false in
    list_any_more (is_outdated kind lines) lines c.loop-line.line-index line c.loop-line-test.true
    ∙ ap (λ b. b || is_outdated kind lines (get_or lines c.loop-line.line-index line)) c.loop-line.invariant
    ∙ here

pub returns-clause-fewer : goal.returns-clause-fewer
returns-clause-fewer c =
    let lines = c.args.lines.now in
    let kind = c.args.kind in
    sym (fewer_is (is_outdated kind lines) lines ∙ ap (list_any (is_outdated kind lines)) (sym (take_all c.loop-line.line-index lines (omega (arith, c.loop-line-test.false)))) ∙ c.loop-line.invariant)
