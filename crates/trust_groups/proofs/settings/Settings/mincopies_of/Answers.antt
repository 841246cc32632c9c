-- What the proof of `settings::Settings::mincopies_of` needs beside the tactics.
use Rattle.std.proofs.Common.{ℕ, Option, sym, ap, subst, ◌∙◌}
use Rattle.glob_match.specs.Numbers.{number_of_paths}
use Rattle.log_lines.specs.declared.entry.LogKind.TheVariants as kinds
use Rattle.log_lines.specs.Files.{file_name}
use Rattle.log_lines.specs.Index.{Index}
use Rattle.trust_groups.specs.Globs.{HaveGlobsOf}
use Rattle.trust_groups.specs.Reads.{Indices, entries_or_none, index_at, view_of}
use Rattle.trust_groups.specs.Settings.{patterns_of}
use Rattle.trust_groups.specs.View.{settings_of}
use Rattle.trust_groups.proofs.GlobLemmas.{kept_mincopies}
use Rattle.trust_groups.proofs.settings.Settings.mincopies_of.Goals as goal

pub number_of_paths-requires : goal.number_of_paths-requires
number_of_paths-requires c =
    let globs = c.self.inside.globs.entries in
    subst (λ (o : Option Index). HaveGlobsOf globs (entries_or_none o)) (ap (λ (es : Indices). index_at es (file_name kinds.MincopiesPath)) c.self.view_is ∙ sym c.log-log.ensures) (kept_mincopies globs (view_of c.self.inside.files.entries) c.self.invariant.0)

pub returns : goal.returns
returns c =
    c.number_of_paths.ensures
    ∙ ap (λ (o : Option Index). number_of_paths c.mincopies-whole.result (patterns_of (entries_or_none o)) c.args.paths.now) c.log-log.ensures
    ∙ ap (λ (n : ℕ). number_of_paths n (settings_of c.args.self.now).path_mincopies c.args.paths.now) c.mincopies-whole.ensures.value
