-- The plan of a repository, as lines show it (own).
use Rattle.std.specs.Prelude.{ℕ, List, ◌++◌, length, codes}
use Rattle.std.specs.Fmt.{decimal}
use Rattle.std.specs.List.{flat_map}
use Rattle.run_data.specs.declared.run.RepoView.{RepoView}
use Rattle.run_data.specs.declared.run.Run.{Run}
use Rattle.run_text.specs.Names.{name_of}
use Rattle.script_words.specs.Words.{printed_word}
use Rattle.wanted_rules.specs.declared.action.Action.{Action}
use Rattle.wanted_rules.specs.declared.action.Action.TheVariants.{Get, Put, DropHere, DropFrom}

abbrev pub action_line : List RepoView → Action → List ℕ
action_line repos (Get key) = codes "get " ++ printed_word key ++ codes "\n"
action_line repos (Put key peer) = codes "put " ++ printed_word key ++ codes " " ++ name_of repos peer ++ codes "\n"
action_line repos (DropHere key) = codes "drophere " ++ printed_word key ++ codes "\n"
action_line repos (DropFrom key peer) = codes "dropfrom " ++ printed_word key ++ codes " " ++ name_of repos peer ++ codes "\n"

-- of which repository the plan is and how many actions it has, and a line for each
abbrev pub plan_text : Run → ℕ → List Action → List ℕ
plan_text run r actions = codes "plan " ++ name_of run.repos r ++ codes " " ++ decimal (length actions) ++ codes "\n" ++ flat_map (action_line run.repos) actions
