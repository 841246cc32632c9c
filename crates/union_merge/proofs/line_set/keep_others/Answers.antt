-- What the proof of `line_set::keep_others` needs beside the tactics.
use Rattle.std.proofs.Common.{not, rules}
use Rattle.std.proofs.lemmas.Fn.{filter_same}
use Rattle.union_merge.specs.LineSet.{has_line}
use Rattle.union_merge.proofs.line_set.keep_others.Goals as goal

pub returns : goal.returns
returns c = filter_same _ (λ line. not (has_line c.args.other.now line)) _ (λ x b f' k. search rules) _ _ c.retain.ensures.filtered
