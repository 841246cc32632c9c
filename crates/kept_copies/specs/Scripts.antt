-- Scripts that trust nobody, and the lines with which a script puts contents in place (own).
use Rattle.std.specs.Prelude.{ℕ, ◌≤◌, Bool, true, false, not, ◌&&◌, nat_le, List, bytes_eq, count_by, length}
use Rattle.std.specs.List.{list_all, list_any}
use Rattle.annex_base.specs.Lists.{Each}
use Rattle.log_lines.specs.declared.entry.LogKind.TheVariants as kinds
use Rattle.run_data.specs.declared.entry.LogFile.{LogFile}
use Rattle.run_data.specs.declared.entry.LogFile.TheVariants.{Of}
use Rattle.run_data.specs.declared.run.Run.{Run}
use Rattle.run_model.specs.Safety.{copies_at}
use Rattle.script_commands.specs.declared.command.Action.{Action}
use Rattle.script_commands.specs.declared.command.Action.TheVariants.{Add, File, Have, Raw, Set}
use Rattle.script_commands.specs.declared.command.Command.{Command}
use Rattle.script_commands.specs.declared.command.Command.TheVariants.{Does, Repo}

-- ---- trust

-- git-annex internals: trust.log
abbrev pub is_trust_log : LogFile → Bool
is_trust_log (Of kinds.Trust) = true
is_trust_log file = false

-- The action writes into a trust log: it sets a level of trust, or adds a line as it stands. A merge or a sync writes only
-- what other repositories have.
abbrev pub writes_trust : Action → Bool
writes_trust (Set r kind topic value) = is_trust_log (Of kind)
writes_trust (Raw r file line) = is_trust_log file
writes_trust action = false

-- so does the line; a line of a block writes into no log
abbrev pub sets_trust : Command → Bool
sets_trust (Does action) = writes_trust action
sets_trust line = false

-- no line of the script writes into a trust log
abbrev pub trusts_nobody : List Command → Bool
trusts_nobody lines = list_all (λ line. not (sets_trust line)) lines

-- ---- contents

-- the line puts a content of the key in place
abbrev pub puts_content : List ℕ → Command → Bool
puts_content key (Does (Have r k bytes)) = bytes_eq k key
puts_content key (Does (Add r path k bytes)) = bytes_eq k key
puts_content key line = false

-- the line declares a repository, gives a key a path, or puts a content in place
abbrev pub prepares : Command → Bool
prepares (Repo name id offset version locks) = true
prepares (Does (Have r key bytes)) = true
prepares (Does (Add r path key bytes)) = true
prepares (Does (File path key)) = true
prepares line = false

-- each of these lines does, and one of them puts a content of the key in place
abbrev pub have_content : List Command → List ℕ → Bool
have_content lines key = list_all prepares lines && list_any (puts_content key) lines

-- so it is for each of these keys
abbrev pub have_contents : List Command → List (List ℕ) → Bool
have_contents lines keys = list_all prepares lines && list_all (λ key. list_any (puts_content key) lines) keys

-- ---- what is kept

-- each of the keys has a copy at the end of the run
abbrev pub KeepsAll : Run → List (List ℕ) → Type 0
KeepsAll run keys = Each (λ key. 1 ≤ copies_at run key (length run.entries)) keys

-- how many of the keys have one
abbrev pub kept_of : Run → List (List ℕ) → ℕ
kept_of run keys = count_by (λ key. nat_le 1 (copies_at run key (length run.entries))) keys
