-- What holds at each turn of the loops of `run::put_repos`.
use Rattle.std.proofs.Common.{◌≡◌, ◌++◌, take}
use Rattle.std.specs.List.{flat_map}
use Rattle.journal_text.specs.Journal.{repo_line}
use Rattle.journal_text.proofs.run.put_repos.Given as goal

abbrev pub invariant-loop-repo : goal.invariant-loop-repo
invariant-loop-repo l = l.out.items ≡ l.fn.out.items ++ flat_map repo_line (take l.repo-index l.repos)
