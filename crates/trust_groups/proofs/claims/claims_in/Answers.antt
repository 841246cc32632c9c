-- What the proof of `claims::claims_in` needs beside the tactics.
use Rattle.std.proofs.Common.{sym, subst}
use Rattle.std.specs.List.Sorted.{IsStrictlySortedBy}
use Rattle.annex_base.specs.ByteOrder.{text_cmp}
use Rattle.trust_groups.proofs.RepoLemmas.{none_sorted}
use Rattle.trust_groups.proofs.claims.claims_in.Goals as goal

pub returns-in-None-clause-sorted : goal.returns-in-None-clause-sorted
returns-in-None-clause-sorted c = subst (IsStrictlySortedBy text_cmp) (sym c.new.ensures.items) none_sorted
