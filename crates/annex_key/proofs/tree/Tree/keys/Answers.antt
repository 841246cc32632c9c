-- What the proof of `tree::Tree::keys` needs beside the tactics.
use Rattle.std.proofs.Common.{◌≡◌, ◌≢◌, ◌↔◌, List, ℕ, Some, AllPairs, Contains, sym, subst, ap, ◌∙◌}
use Rattle.std.specs.List.Sorted.{IsStrictlySortedBy}
use Rattle.std.specs.Map.{keys_of, values_of}
use Rattle.annex_base.specs.ByteOrder.{text_cmp}
use Rattle.annex_base.proofs.Results.{IfOk-both}
use Rattle.annex_key.specs.Tree.{key_of, distinct_keys}
use Rattle.annex_key.specs.TreeView.{view_of}
use Rattle.annex_key.proofs.OnceLemmas.{first_values}
use Rattle.annex_key.proofs.TreeLaws.{keys_each, each_once-distinct}
use Rattle.annex_key.proofs.tree.Tree.keys.Goals as goal

pub returns-clause-value : goal.returns-clause-value
returns-clause-value c =
    let t = view_of c.self.inside.keys.entries in
    IfOk-both c.copies.result (λ v. v.items ≡ values_of c.in_ok-firsts.firsts.entries) (λ v. IsStrictlySortedBy text_cmp (keys_of c.in_ok-firsts.firsts.entries)) (λ v. v.items ≡ distinct_keys c.args.self.now)
    (λ v is sorted. is ∙ first_values t c.self.inside.paths c.in_ok-firsts.firsts c.self.invariant c.in_ok-firsts.ensures sorted ∙ ap distinct_keys c.self.view_is)
    c.copies.ensures.value c.copies.ensures.ordered

pub returns-clause-once : goal.returns-clause-once
returns-clause-once c =
    let t = view_of c.self.inside.keys.entries in
    IfOk-both c.copies.result (λ v. v.items ≡ values_of c.in_ok-firsts.firsts.entries) (λ v. IsStrictlySortedBy text_cmp (keys_of c.in_ok-firsts.firsts.entries)) (λ v. AllPairs (λ x y. x ≢ y) v.items)
    (λ v is sorted. subst (AllPairs (λ x y. x ≢ y)) (sym (is ∙ first_values t c.self.inside.paths c.in_ok-firsts.firsts c.self.invariant c.in_ok-firsts.ensures sorted)) (each_once-distinct (values_of t)))
    c.copies.ensures.value c.copies.ensures.ordered

pub returns-clause-each : goal.returns-clause-each
returns-clause-each c =
    let t = view_of c.self.inside.keys.entries in
    IfOk-both c.copies.result (λ v. v.items ≡ values_of c.in_ok-firsts.firsts.entries) (λ v. IsStrictlySortedBy text_cmp (keys_of c.in_ok-firsts.firsts.entries)) (λ v. (key : List ℕ) → Contains v.items key ↔ ((path : List ℕ) × (key_of c.args.self.now path ≡ Some key)))
    (λ v is sorted. keys_each c.self.inside.keys.entries c.args.self.now v.items c.self.view_is (is ∙ first_values t c.self.inside.paths c.in_ok-firsts.firsts c.self.invariant c.in_ok-firsts.ensures sorted) c.self.invariant.sorted)
    c.copies.ensures.value c.copies.ensures.ordered
