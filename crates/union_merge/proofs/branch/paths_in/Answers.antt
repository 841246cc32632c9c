-- What the proof of `branch::paths_in` needs beside the tactics.
use Rattle.std.proofs.Common.{◌++◌, ◌∙◌, List, ℕ, map, ap, sym}
use Rattle.union_merge.proofs.ViewLemmas.{keys_of-files_of}
use Rattle.union_merge.proofs.branch.paths_in.Goals as goal

pub loop-path-init : goal.loop-path-init
loop-path-init c =
    ap (λ (xs : List (List ℕ)). xs ++ map (λ p. p.items) c.into_iter-path-iterator.result) c.new-paths.ensures.items
    ∙ ap (map (λ p. p.items)) (c.into_iter-path-iterator.ensures.into_iter_gives ∙ c.keys-path-items.ensures.rest)
    ∙ sym (keys_of-files_of c.args.files.now.entries)
