-- What the proof of `claims::claims_among` needs beside the tactics.
use Rattle.std.proofs.Common.{List, ℕ, sym, ap, subst, ◌∙◌}
use Rattle.std.specs.List.Sorted.{IsStrictlySortedBy}
use Rattle.std.specs.Option.{option_copied}
use Rattle.std.proofs.lemmas.Result.{IfOk-weaker}
use Rattle.annex_base.specs.ByteOrder.{text_cmp}
use Rattle.annex_base.specs.Lists.{Member}
use Rattle.trust_groups.specs.Kept.{claims_among, level_among}
use Rattle.trust_groups.specs.Reads.{entries_or_none}
use Rattle.trust_groups.proofs.KeptLemmas.{claims_among-sorted, claims_among-alive}
use Rattle.trust_groups.proofs.claims.claims_among.Goals as goal

pub returns-clause-sorted : goal.returns-clause-sorted
returns-clause-sorted c =
    let level = level_among (entries_or_none (option_copied c.args.trust)) in
    IfOk-weaker c.claims_by.result _ _ (λ v is.
    subst (IsStrictlySortedBy text_cmp) (sym (is ∙ ap (claims_among level) c.entries-entries.ensures.value)) (claims_among-sorted level c.args.log.now.entries c.entries-entries.ensures.order)) c.claims_by.ensures

pub returns-clause-alive : goal.returns-clause-alive
returns-clause-alive c =
    let level = level_among (entries_or_none (option_copied c.args.trust)) in
    IfOk-weaker c.claims_by.result _ _ (λ v is repo among.
    claims_among-alive level c.args.log.now.entries repo (subst (λ (repos : List (List ℕ)). Member repo repos) (is ∙ ap (claims_among level) c.entries-entries.ensures.value) among)) c.claims_by.ensures
