-- What the proof of `copies::a_copy_stays_where_no_drop_counts_trust` needs beside the tactics.
use Rattle.kept_copies.proofs.Staying.{CopyLaws, stays}
use Rattle.kept_copies.proofs.copies.a_copy_stays_where_no_drop_counts_trust.Goals as goal

pub returns : goal.returns
returns c =
    let laws : CopyLaws = record {
      enough = c.each_removal_is_one_drops.ensures.enough;
      only = c.removals_are_of_entries.ensures.only;
      all = c.removals_are_of_entries.ensures.all;
      read = c.least_is_what_drops_read.ensures.read;
      copies = c.copies_are_enough_without_claims.ensures;
      wanted = c.some_copies_are_wanted.ensures.mincopies;
    } in
    stays laws
