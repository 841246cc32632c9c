-- What the proof of `tree::Tree::key` needs beside the tactics.
use Rattle.std.proofs.Common.{◌∙◌, ap}
use Rattle.annex_key.specs.Tree.{key_of}
use Rattle.annex_base.proofs.Rows.{lookup-shown}
use Rattle.annex_key.proofs.tree.Tree.key.Goals as goal

pub returns : goal.returns
returns c = c.get.ensures.value ∙ lookup-shown c.self.inside.keys.entries c.args.path.now ∙ ap (λ t. key_of t c.args.path.now) c.self.view_is
