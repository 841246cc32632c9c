-- What the proof of `copies::no_drop_counts_trust_where_nobody_is_trusted` needs beside the tactics.
use Rattle.kept_copies.proofs.Untrusted.{ReadLaws, counts_no_trust}
use Rattle.kept_copies.proofs.copies.no_drop_counts_trust_where_nobody_is_trusted.Goals as goal

pub returns : goal.returns
returns c =
    let laws : ReadLaws = record {
      judged = c.ignored_never_count.ensures.judged;
      trusted = c.ignored_never_count.ensures.trusted;
      first = c.drops_read_their_need.ensures.first;
    } in
    counts_no_trust laws
