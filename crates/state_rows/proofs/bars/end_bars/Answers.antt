-- What the proof of `bars::end_bars` needs beside the tactics.
use Rattle.std.proofs.Common.{rules, not, ◌==◌}
use Rattle.std.proofs.lemmas.Map.Made.{filter_same_pairs}
use Rattle.state_rows.proofs.RowLemmas.{bars_ended}
use Rattle.state_rows.proofs.bars.end_bars.Goals as goal

pub returns : goal.returns
returns c = λ key.
    bars_ended c.args.bars.now.entries c.retain.new.self.entries c.args.job key c.len.ensures.unique
    (filter_same_pairs _ (λ e. not (e.1 == c.args.job)) _ (λ k v b w f' t. search rules) _ _ c.retain.ensures.filtered)
