-- The repositories that a script's first commands declare.
use Rattle.std.proofs.Common.{◌≡◌, ℕ, ◌+◌, ◌<◌, List, [], ◌∷◌, ◌++◌, length, take, get_or, refl, sym, ap, ◌∙◌}
use Rattle.std.proofs.lemmas.List.{take_more, append-nil, append_assoc}
use Rattle.run_data.specs.declared.run.RepoView.{RepoView}
use Rattle.script_commands.specs.declared.command.Command.{Command}
use Rattle.driver_script.specs.Lines.{declared_by, repos_of}

repos_behind : (xs ys : List Command) → repos_of (xs ++ ys) ≡ repos_of xs ++ repos_of ys
repos_behind [] ys = refl
repos_behind (x ∷ xs) ys = ap (λ (rs : List RepoView). declared_by x ++ rs) (repos_behind xs ys) ∙ sym (append_assoc (declared_by x) (repos_of xs) (repos_of ys))

pub repos_next : (xs : List Command) (i : ℕ) (x : Command) → i < length xs → x ≡ get_or xs i x → repos_of (take (i + 1) xs) ≡ repos_of (take i xs) ++ declared_by x
repos_next xs i x within is =
    ap repos_of (take_more xs i x within ∙ ap (λ (y : Command). take i xs ++ y ∷ []) (sym is))
    ∙ (repos_behind (take i xs) (x ∷ []) ∙ ap (λ (rs : List RepoView). repos_of (take i xs) ++ rs) (append-nil (declared_by x)))
