-- What the proof of `line_set::place_of` needs beside the tactics.
use Rattle.std.proofs.Common.{◌≡◌, rules}
use Rattle.std.specs.List.{insert}
use Rattle.std.specs.Result.{MatchResult}
use Rattle.std.proofs.lemmas.Fn.{always_returns_same}
use Rattle.annex_base.specs.ByteOrder.{text_cmp}
use Rattle.annex_base.specs.Lists.{Member}
use Rattle.union_merge.specs.LineSet.{with_line}
use Rattle.union_merge.proofs.PlaceLemmas.{searched, place_found, place_missing, place_is}
use Rattle.union_merge.proofs.line_set.place_of.Goals as goal
use Rattle.union_merge.proofs.line_set.place_of.Goals.{After-binary_search_by}

found : (c : After-binary_search_by) → MatchResult c.binary_search_by.result (λ i. Member c.args.line.now c.args.lines.now) (λ i. (insert c.args.lines.now i c.args.line.now ≡ with_line c.args.lines.now c.args.line.now) × (Member c.args.line.now c.args.lines.now → ⊥))
found c =
    searched c.args.line.now c.args.lines.now c.binary_search_by.result c.requires c.binary_search_by.ensures.bound
    (c.binary_search_by.ensures.position (λ y. text_cmp y c.args.line.now) (always_returns_same _ (λ a r. r ≡ text_cmp a.0.now c.args.line.now) _ (λ a r f2 k. search rules)))

pub returns-clause-found : goal.returns-clause-found
returns-clause-found c = place_found c.args.line.now c.args.lines.now c.binary_search_by.result (found c)

pub returns-clause-missing : goal.returns-clause-missing
returns-clause-missing c = place_missing c.args.line.now c.args.lines.now c.binary_search_by.result (found c)

pub returns-clause-place : goal.returns-clause-place
returns-clause-place c = place_is c.args.line.now c.args.lines.now c.binary_search_by.result (found c)
