-- What the proof of `groups::grouped_among` needs beside the tactics.
use Rattle.std.proofs.Common.{◌≢◌, ◌↔◌, [], List, ℕ, sym, ap, subst, ◌∙◌}
use Rattle.std.specs.List.Sorted.{IsStrictlySortedBy}
use Rattle.std.proofs.lemmas.Result.{IfOk-weaker}
use Rattle.annex_base.specs.ByteOrder.{text_cmp}
use Rattle.annex_base.specs.Lists.{Member}
use Rattle.trust_groups.specs.Kept.{groups_among, grouped_among}
use Rattle.trust_groups.proofs.ClaimLemmas.{grouped_among-exact, grouped_among-sorted}
use Rattle.trust_groups.proofs.groups.grouped_among.Goals as goal

pub returns-clause-sorted : goal.returns-clause-sorted
returns-clause-sorted c =
    IfOk-weaker c.grouped_by.result _ _ (λ v is.
    subst (IsStrictlySortedBy text_cmp) (sym (is ∙ ap grouped_among c.entries-entries.ensures.value)) (grouped_among-sorted c.args.index.now.entries c.entries-entries.ensures.order)) c.grouped_by.ensures

pub returns-clause-each : goal.returns-clause-each
returns-clause-each c =
    let es = c.args.index.now.entries in
    IfOk-weaker c.grouped_by.result _ _ (λ v is repo.
    subst (λ (repos : List (List ℕ)). Member repo repos ↔ (groups_among es repo ≢ [])) (sym (is ∙ ap grouped_among c.entries-entries.ensures.value)) (grouped_among-exact c.entries_are_found_by_topic.ensures es repo c.entries-entries.ensures.order)) c.grouped_by.ensures
