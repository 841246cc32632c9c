-- Whether a repository wants and requires the content of a path, as a line shows it (own).
use Rattle.std.specs.Prelude.{ℕ, Bool, true, false, List, ◌++◌, codes}
use Rattle.annex_base.specs.Settings.{Settings}
use Rattle.run_data.specs.declared.run.Run.{Run}
use Rattle.run_data.specs.Repos.{id_of}
use Rattle.script_words.specs.Words.{printed_word}
use Rattle.run_text.specs.Names.{name_of}
use Rattle.wanted_expr.specs.Wanted.{is_required, wants}

abbrev pub yes_or_no : Bool → List ℕ
yes_or_no true = codes "yes"
yes_or_no false = codes "no"

-- by these settings, of a key with these paths: whether the repository is to get it, and whether it is to keep it and
-- must, both as if it had no copy of its own
abbrev pub wants_text : Run → ℕ → ℕ → List ℕ → Settings → List ℕ → List (List ℕ) → List ℕ
wants_text run r target path s key paths =
    let id = id_of run.repos target in
    codes "wants " ++ name_of run.repos r ++ codes " " ++ name_of run.repos target ++ codes " " ++ printed_word path
    ++ codes " get=" ++ yes_or_no (wants s id key paths false)
    ++ codes " keep=" ++ yes_or_no (wants s id key paths true)
    ++ codes " required=" ++ yes_or_no (is_required s id key paths) ++ codes "\n"
