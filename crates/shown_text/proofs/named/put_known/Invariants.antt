-- What holds at each turn of the loops of `named::put_known`.
use Rattle.std.proofs.Common.{◌≡◌, ◌++◌, take, map, filter}
use Rattle.std.specs.List.{list_any}
use Rattle.std.specs.Str.{bytes_eq}
use Rattle.shown_text.proofs.named.put_known.Given as goal

abbrev pub invariant-loop-repo : goal.invariant-loop-repo
invariant-loop-repo l =
    l.words.items ≡ l.fn.words.items ++ map (λ repo. repo.name) (filter (λ repo. list_any (λ id. bytes_eq id repo.id) l.ids) (take l.repo-index l.repos))
