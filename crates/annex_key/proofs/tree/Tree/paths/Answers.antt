-- What the proof of `tree::Tree::paths` needs beside the tactics.
use Rattle.std.proofs.Common.{◌≡◌, ◌↔◌, List, ℕ, Some, Contains, ap, ◌∙◌}
use Rattle.std.specs.BTreeMap.{is_at}
use Rattle.std.specs.List.{list_any}
use Rattle.std.specs.List.Sorted.{IsStrictlySortedBy}
use Rattle.annex_base.specs.ByteOrder.{text_cmp}
use Rattle.annex_base.proofs.Results.{IfOk-both}
use Rattle.annex_key.specs.Tree.{key_of, paths_of}
use Rattle.annex_key.specs.TreeView.{has_path, view_of}
use Rattle.annex_key.proofs.IndexedLemmas.{index_paths}
use Rattle.annex_key.proofs.TreeLaws.{paths_each}
use Rattle.annex_key.proofs.tree.Tree.paths.Goals as goal

pub returns-clause-value : goal.returns-clause-value
returns-clause-value c =
    let t = view_of c.self.inside.keys.entries in
    IfOk-both c.paths_of.result (λ v. (p : List ℕ) → has_path c.self.inside.paths c.args.key.now p ≡ list_any (is_at (text_cmp p)) v.items) (λ v. IsStrictlySortedBy text_cmp v.items) (λ v. v.items ≡ paths_of c.args.self.now c.args.key.now)
    (λ v has sorted. index_paths t c.self.inside.paths c.args.key.now v.items c.self.invariant has sorted ∙ ap (λ u. paths_of u c.args.key.now) c.self.view_is)
    c.paths_of.ensures.has c.paths_of.ensures.order

pub returns-clause-each : goal.returns-clause-each
returns-clause-each c =
    let t = view_of c.self.inside.keys.entries in
    IfOk-both c.paths_of.result (λ v. (p : List ℕ) → has_path c.self.inside.paths c.args.key.now p ≡ list_any (is_at (text_cmp p)) v.items) (λ v. IsStrictlySortedBy text_cmp v.items) (λ v. (path : List ℕ) → Contains v.items path ↔ (key_of c.args.self.now path ≡ Some c.args.key.now))
    (λ v has sorted. paths_each c.self.inside.keys.entries c.args.self.now c.args.key.now v.items c.self.view_is (index_paths t c.self.inside.paths c.args.key.now v.items c.self.invariant has sorted) c.self.invariant.sorted)
    c.paths_of.ensures.has c.paths_of.ensures.order
