-- What the proof of `claims::claims_of` needs beside the tactics.
use Rattle.std.proofs.Common.{◌≡◌, ◌↔◌, List, ℕ, sym, ap, subst, ◌∙◌}
use Rattle.std.proofs.lemmas.Result.{IfOk-weaker}
use Rattle.annex_base.specs.Lists.{Member}
use Rattle.log_lines.specs.Index.{Index}
use Rattle.union_merge.specs.Branch.{lines_at}
use Rattle.hash_dirs.specs.LogPath.{location_path}
use Rattle.trust_groups.specs.Claims.{IsClaimed}
use Rattle.trust_groups.specs.Kept.{claims_among, level_among}
use Rattle.trust_groups.specs.View.{level_of}
use Rattle.trust_groups.proofs.ClaimLemmas.{claims_exact}
use Rattle.trust_groups.proofs.KeptLemmas.{claims_read}
use Rattle.trust_groups.proofs.claims.claims_of.Goals as goal

pub returns-clause-exact : goal.returns-clause-exact
returns-clause-exact c =
    let lines = lines_at c.args.branch.now in
    let key = c.args.key.now in
    let level = level_of c.args.levels.now in
    let file : c.lines_of-lines.result.now ≡ lines (location_path key) = c.lines_of-lines.ensures ∙ ap lines (c.bytes.ensures ∙ c.in_ok-path.ensures) in
    λ same. IfOk-weaker c.claims_among.result _ _ (λ v is.
    is
    ∙ ap (λ (n : Index). claims_among (level_among n.entries) c.in_ok-log.log.entries) c.index.ensures
    ∙ ap (λ (n : Index). claims_among level n.entries) c.in_ok-log.ensures
    ∙ claims_read lines key level c.lines_of-lines.result.now same file) c.claims_among.ensures.value

pub returns-clause-claimed : goal.returns-clause-claimed
returns-clause-claimed c =
    let lines = lines_at c.args.branch.now in
    let key = c.args.key.now in
    let level = level_of c.args.levels.now in
    let file : c.lines_of-lines.result.now ≡ lines (location_path key) = c.lines_of-lines.ensures ∙ ap lines (c.bytes.ensures ∙ c.in_ok-path.ensures) in
    λ same. IfOk-weaker c.claims_among.result _ _ (λ v is repo.
    let exact = is
    ∙ ap (λ (n : Index). claims_among (level_among n.entries) c.in_ok-log.log.entries) c.index.ensures
    ∙ ap (λ (n : Index). claims_among level n.entries) c.in_ok-log.ensures
    ∙ claims_read lines key level c.lines_of-lines.result.now same file in
    subst (λ (repos : List (List ℕ)). Member repo repos ↔ IsClaimed lines key repo) (sym exact) (claims_exact c.readings_are_exact.ensures.reading c.entries_are_found_by_topic.ensures lines key repo)) c.claims_among.ensures.value
