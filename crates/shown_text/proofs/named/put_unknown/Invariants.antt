-- What holds at each turn of the loops of `named::put_unknown`.
use Rattle.std.proofs.Common.{◌≡◌, ◌++◌, take, map, filter, not}
use Rattle.std.specs.List.{list_any}
use Rattle.std.specs.Str.{bytes_eq}
use Rattle.annex_base.specs.RepoText.{repo_text}
use Rattle.shown_text.proofs.named.put_unknown.Given as goal

abbrev pub invariant-loop-id : goal.invariant-loop-id
invariant-loop-id l =
    l.words.items ≡ l.fn.words.items ++ map repo_text (filter (λ id. not (list_any (λ repo. bytes_eq id repo.id) l.repos)) (take l.id-index l.ids))
