-- What the proof of `compaction::compact` needs beside the tactics.
use Rattle.std.proofs.Common.{sym, ap, ◌∙◌, ◌++◌, ◌∷◌, [], not}
use Rattle.log_grammar.specs.Reading.{entry_of}
use Rattle.log_lines.specs.Index.{Index, index_of}
use Rattle.log_lines.specs.Newest.{is_outdated}
use Rattle.log_lines.specs.Latest.{is_outdated_in}
use Rattle.log_lines.proofs.CompactLemmas.{filter_with, filter_without, outdated_by_newest}
use Rattle.log_lines.proofs.compaction.compact.Goals as goal

pub loop-line-preserved-in_ok-push : goal.loop-line-preserved-in_ok-push
loop-line-preserved-in_ok-push c =
    let lines = c.args.lines.items in
    let kind = c.args.kind in
    let made = c.in_ok-index.ensures ∙ ap (index_of kind) c.deref.ensures.value in
    let answer = c.in_ok-outdates.ensures ∙ ap (λ (n : Index). is_outdated_in n.entries (entry_of n.kind c.in-Some.line)) made ∙ outdated_by_newest kind lines c.in-Some.line in
    let stays = ap not (sym answer ∙ c.if-not-branch.true) in
    c.in_ok-push.ensures.items
    ∙ ap (λ ls. ls ++ c.in-Some.line ∷ []) c.loop-line.invariant
    ∙ sym (filter_with (λ line. not (is_outdated kind lines line)) c.loop-line.yielded c.in-Some.line stays)

pub loop-line-preserved : goal.loop-line-preserved
loop-line-preserved c =
    let lines = c.args.lines.items in
    let kind = c.args.kind in
    let made = c.in_ok-index.ensures ∙ ap (index_of kind) c.deref.ensures.value in
    let answer = c.in_ok-outdates.ensures ∙ ap (λ (n : Index). is_outdated_in n.entries (entry_of n.kind c.in-Some.line)) made ∙ outdated_by_newest kind lines c.in-Some.line in
    let out = ap not (sym answer ∙ c.if-not-branch.false) in
    c.loop-line.invariant ∙ sym (filter_without (λ line. not (is_outdated kind lines line)) c.loop-line.yielded c.in-Some.line out)
