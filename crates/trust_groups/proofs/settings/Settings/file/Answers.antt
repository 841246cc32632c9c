-- What the proof of `settings::Settings::file` needs beside the tactics.
use Rattle.std.proofs.Common.{ap, ◌∙◌}
use Rattle.trust_groups.specs.Reads.{Indices, index_at}
use Rattle.annex_base.proofs.Rows.{lookup-shown}
use Rattle.trust_groups.proofs.settings.Settings.file.Goals as goal

pub returns : goal.returns
returns c = c.get.ensures.value ∙ lookup-shown c.self.inside.files.entries c.args.path.now ∙ ap (λ (es : Indices). index_at es c.args.path.now) c.self.view_is
