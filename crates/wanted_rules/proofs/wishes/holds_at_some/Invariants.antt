-- What holds at each turn of the loops of `wishes::holds_at_some`.
use Rattle.std.proofs.Common.{◌≡◌, ℕ, List, [], ◌∷◌, false, take}
use Rattle.std.specs.List.{list_any}
use Rattle.glob_match.specs.Numbers.{numcopies_of}
use Rattle.trust_groups.specs.View.{settings_of}
use Rattle.wanted_expr.specs.Truth.{holds}
use Rattle.wanted_rules.specs.Reads.{at_path, formulas_of, judged}
use Rattle.wanted_rules.proofs.wishes.holds_at_some.Given as goal

-- the facts are those that were passed, but for what is set at each path, and it holds at no path so far
abbrev pub invariant-loop-path : goal.invariant-loop-path
invariant-loop-path l =
    ((n : ℕ) (path : List ℕ) → at_path l.facts n path ≡ at_path l.fn.plain n path)
    × (list_any (λ path. holds l.expr (judged (formulas_of l.groups) (at_path l.fn.plain (numcopies_of (settings_of l.settings) (path ∷ [])) path))) (take l.path-index l.paths) ≡ false)
