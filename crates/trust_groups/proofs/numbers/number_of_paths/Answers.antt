-- What the proof of `numbers::number_of_paths` needs beside the tactics.
use Rattle.std.proofs.Common.{List, ℕ, Option, Some, None, map, ap, arith, unwrap_or, ◌∙◌}
use Rattle.std.specs.Option.{option_copied}
use Rattle.std.proofs.lemmas.List.{take_all}
use Rattle.glob_match.specs.Numbers.{number_of_path}
use Rattle.trust_groups.specs.Globs.{greater, greatest}
use Rattle.trust_groups.specs.Reads.{entries_or_none}
use Rattle.trust_groups.specs.Settings.{patterns_of}
use Rattle.trust_groups.proofs.NumberLemmas.{greatest_is, next_path}
use Rattle.trust_groups.proofs.numbers.number_of_paths.Goals as goal

pub loop-path-preserved : goal.loop-path-preserved
loop-path-preserved c =
    let f = λ (path : List ℕ). number_of_path c.args.whole (patterns_of (entries_or_none (option_copied c.args.index))) path in
    c.greater-found.ensures
    ∙ ap (λ (n : ℕ). greater c.loop-path.found (Some n)) (c.number_of_path-number.ensures ∙ ap f c.bytes.ensures)
    ∙ next_path f c.args.paths.now c.loop-path.path-index c.path-item.result c.loop-path.found c.loop-path-test.true c.path-item.is c.loop-path.invariant

pub returns : goal.returns
returns c =
    let f = λ (path : List ℕ). number_of_path c.args.whole (patterns_of (entries_or_none (option_copied c.args.index))) path in
    c.unwrap_or.ensures
    ∙ ap (λ (o : Option ℕ). unwrap_or o c.args.whole) (c.loop-path.invariant ∙ ap (λ (ps : List (List ℕ)). greatest None (map f ps)) (take_all c.loop-path.path-index c.args.paths.now (omega (arith, c.loop-path-test.false))))
    ∙ greatest_is c.args.whole (map f c.args.paths.now)
