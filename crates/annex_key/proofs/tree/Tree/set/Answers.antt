-- What the proof of `tree::Tree::set` needs beside the tactics.
use Rattle.std.proofs.Common.{ap, ◌∙◌}
use Rattle.std.proofs.lemmas.Result.{on_ok_weaker}
use Rattle.annex_key.specs.Tree.{with_key, key_of}
use Rattle.annex_key.proofs.TreeLaws.{key_of-with_key_same, key_of-with_key_other}
use Rattle.annex_key.proofs.tree.Tree.set.Goals as goal

pub returns-clause-here : goal.returns-clause-here
returns-clause-here c =
    let path = c.args.path.now in
    let key = c.args.key.now in
    on_ok_weaker c.put.result
    (λ is. ap (λ t. key_of t path) (is ∙ ap (λ t. with_key t path key) c.self.view_is) ∙ key_of-with_key_same c.args.self.now path key)
    c.put.ensures.ok

pub returns-clause-others : goal.returns-clause-others
returns-clause-others c =
    let path = c.args.path.now in
    let key = c.args.key.now in
    on_ok_weaker c.put.result
    (λ is other different. ap (λ t. key_of t other) (is ∙ ap (λ t. with_key t path key) c.self.view_is) ∙ key_of-with_key_other c.args.self.now path key other different)
    c.put.ensures.ok
