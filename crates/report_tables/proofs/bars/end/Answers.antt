-- What the proof of `bars::end` needs beside the tactics.
use Rattle.std.proofs.Common.{rules, not, ◌==◌}
use Rattle.std.proofs.lemmas.Map.Made.{filter_same_pairs}
use Rattle.report_tables.proofs.RowTables.{bars_ended}
use Rattle.report_tables.proofs.bars.end.Goals as goal

pub returns : goal.returns
returns c = λ key.
    bars_ended c.args.bars.now c.retain.new.self c.args.job key c.retain.ensures.was_ordered
    (filter_same_pairs _ (λ e. not (e.1 == c.args.job)) _ (λ k v b w f' t. search rules) _ _ c.retain.ensures.filtered)
