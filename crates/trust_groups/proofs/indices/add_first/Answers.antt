-- What the proof of `indices::add_first` needs beside the tactics.
use Rattle.std.proofs.Common.{sym, ap, ◌∙◌, true≢false}
use Rattle.log_lines.specs.Index.{Index, empty_index, index_with}
use Rattle.trust_groups.proofs.ReadsLemmas.{first_added}
use Rattle.trust_groups.proofs.indices.add_first.Goals as goal

pub returns-in_ok-insert-clause-ok : goal.returns-in_ok-insert-clause-ok
returns-in_ok-insert-clause-ok c =
    first_added c.args.files.now.entries c.insert.new.self.entries c.in_ok-path.path c.args.path.now c.add.new.self
    (index_with (empty_index _) c.args.line.now)
    c.in_ok-insert.ensures.entries c.in_ok-path.ensures.items
    (λ none. true≢false (sym (c.is_empty.ensures.1 none) ∙ c.if-not-is_empty.true))
    (c.in_ok-add.ensures.ok ∙ ap (λ (i : Index). index_with i c.args.line.now) (c.new-index.ensures ∙ ap empty_index c.kind_at.ensures))
