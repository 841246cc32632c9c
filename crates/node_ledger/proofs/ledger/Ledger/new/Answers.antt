-- What the proof of `ledger::Ledger::new` needs beside the tactics.
use Rattle.std.proofs.Common.{ℕ, List, [], Option, sym, ap, ◌∙◌}
use Rattle.std.specs.Option.{unwrap_or}
use Rattle.union_merge.specs.Branch.{Files, lines_at}
use Rattle.union_merge.specs.LineSet.{text_of}
use Rattle.store_entries.proofs.IndexLemmas.{indexed_new}
use Rattle.node_ledger.proofs.WriteLemmas.{no_debts}
use Rattle.node_ledger.proofs.ledger.Ledger.new.Goals as goal

pub invariant_of-result : goal.invariant_of-result
invariant_of-result g c =
    let branch = c.new.result in
    let past = c.new-2.result in (
      λ x told path. ap (λ (o : Option (List ℕ)). unwrap_or o []) (c.requires.files x told path) ∙ sym (ap (λ (b : Files). text_of (lines_at b path)) c.new.ensures),
      indexed_new c.new-3.result branch c.new.ensures c.new-3.ensures,
      no_debts past.setup past.history.items c.new-4.result.items c.new-4.ensures.items,
    )
