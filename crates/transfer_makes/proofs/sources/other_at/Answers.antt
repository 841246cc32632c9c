-- The repository is one of them, or not.
use Rattle.std.proofs.Common.{ℕ, List, ap, sym, ◌∙◌, arith}
use Rattle.std.specs.Prelude.{slice_get}
use Rattle.transfer_makes.proofs.Others.{below}
use Rattle.transfer_makes.proofs.sources.other_at.Goals as goal

pub returns-else-repo-count : goal.returns-else-repo-count
returns-else-repo-count c = c.number_at.ensures ∙ ap (λ (l : List ℕ). slice_get l c.args.place) (sym (below c.args.repo c.args.count (omega arith)))
