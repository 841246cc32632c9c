-- The line has the numbers of the settings that were read.
use Rattle.std.proofs.Common.{◌≡◌, ◌∷◌, ◌++◌, [], List, ℕ, ap, ◌∙◌}
use Rattle.annex_base.specs.Settings.{Settings}
use Rattle.glob_match.specs.Numbers.{mincopies_of, numcopies_of}
use Rattle.trust_groups.specs.Settings.{settings}
use Rattle.union_merge.specs.Branch.{lines_at}
use Rattle.shown_text.specs.Shown.{numbers_at_text}
use Rattle.shown_text.proofs.settings.put_path_numbers.Goals as goal

pub returns : goal.returns
returns c =
    let numcopies : c.numcopies_at-numcopies.result ≡ numcopies_of (settings (lines_at c.args.branch.now)) (c.args.path.now ∷ []) =
    c.numcopies_at-numcopies.ensures
    ∙ ap (λ (s : Settings). numcopies_of s (c.bytes.result.now ∷ [])) c.in_ok-settings.ensures.exact
    ∙ ap (λ (p : List ℕ). numcopies_of (settings (lines_at c.args.branch.now)) (p ∷ [])) c.bytes.ensures in
    let mincopies : c.mincopies_at-mincopies.result ≡ mincopies_of (settings (lines_at c.args.branch.now)) (c.args.path.now ∷ []) =
    c.mincopies_at-mincopies.ensures
    ∙ ap (λ (s : Settings). mincopies_of s (c.bytes-2.result.now ∷ [])) c.in_ok-settings.ensures.exact
    ∙ ap (λ (p : List ℕ). mincopies_of (settings (lines_at c.args.branch.now)) (p ∷ [])) c.bytes-2.ensures in
    c.in_ok-put_numbers_at.ensures
    ∙ ap (λ (n : ℕ). c.args.out.now.items ++ numbers_at_text c.args.run.now c.args.repo c.args.path.now n c.mincopies_at-mincopies.result) numcopies
    ∙ ap (λ (m : ℕ). c.args.out.now.items ++ numbers_at_text c.args.run.now c.args.repo c.args.path.now (numcopies_of (settings (lines_at c.args.branch.now)) (c.args.path.now ∷ [])) m) mincopies
