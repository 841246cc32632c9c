-- What the proof of `branch::Branch::file` needs beside the tactics.
use Rattle.std.proofs.Common.{◌∙◌, ap}
use Rattle.union_merge.specs.Branch.{file_at}
use Rattle.annex_base.proofs.Rows.{lookup-shown}
use Rattle.union_merge.proofs.branch.Branch.file.Goals as goal

pub returns : goal.returns
returns c = c.get.ensures.value ∙ lookup-shown c.self.inside.files.entries c.args.path.now ∙ ap (λ b. file_at b c.args.path.now) c.self.view_is
