-- What a line changes for the lines behind it (own).
use Rattle.std.specs.Prelude.{ℕ, ◌+◌, Bool, true, false, not, ◌||◌, List, [], ◌∷◌, ◌++◌, length}
use Rattle.std.specs.BTreeSet.{insert_key}
use Rattle.annex_key.specs.Tree.{Entries, with_key}
use Rattle.script_forms.specs.declared.changes.Change.{Change as BorrowedChange}
use Rattle.script_forms.specs.declared.changes.Change.TheVariants as borrowed
use Rattle.script_commands.specs.declared.command.Action.{Action}
use Rattle.script_commands.specs.declared.command.Action.TheVariants as actions
use Rattle.script_commands.specs.declared.command.Command.{Command}
use Rattle.script_commands.specs.declared.command.Command.TheVariants as commands
use Rattle.script_forms.specs.declared.context.Repository.{Repository}
use Rattle.script_forms.specs.Context.{Context, new_paths, placed_cmp}

-- A repository is declared; a content of a key is put at a repository; there is a content that is put nowhere yet; a path has a
-- key, whose content is put at a repository; a path has a key; so many milliseconds go by; or nothing.
pub data Change : Type 0 where
  Declares : Repository → Change
  Puts : ℕ → List ℕ → List ℕ → Change
  Brings : List ℕ → Change
  Adds : ℕ → List ℕ → List ℕ → List ℕ → Change
  Names : List ℕ → List ℕ → Change
  Waits : ℕ → Change
  Nothing : Change

-- what an action changes
abbrev pub change_by : Action → Change
change_by (actions.Have r key content) = Puts r key content
change_by (actions.SetPart r key content) = Brings content
change_by (actions.Add r path key content) = Adds r path key content
change_by (actions.File path key) = Names path key
change_by (actions.Set r kind topic value) = Nothing
change_by (actions.Raw r file line) = Nothing
change_by (actions.Merge r other) = Nothing
change_by (actions.Compact r) = Nothing
change_by (actions.Sync r) = Nothing
change_by (actions.Begin r job) = Nothing
change_by (actions.Run r job) = Nothing
change_by (actions.Turns r turns) = Nothing
change_by actions.Settle = Nothing
change_by (actions.Close r other) = Nothing
change_by (actions.Crash r clock) = Nothing
change_by (actions.Wait milliseconds) = Waits milliseconds
change_by (actions.Fail r call) = Nothing

-- what each line changes
abbrev pub change_of : Command → Change
change_of (commands.Repo name id offset version locks) = Declares (record { name = name; id = id; offset = offset; version = version; locks = locks })
change_of (commands.Does action) = change_by action
change_of (commands.Damage r key content) = Brings content
change_of (commands.Par lines) = Nothing
change_of (commands.Shows what) = Nothing

-- a change that borrows a line's parts
abbrev pub as_change : BorrowedChange → Change
as_change (borrowed.Declares name id offset version locks) = Declares (record { name = name.now; id = id.now; offset = offset; version = version; locks = locks })
as_change (borrowed.Puts r key content) = Puts r key.now content.now
as_change (borrowed.Brings content) = Brings content.now
as_change (borrowed.Adds r path key content) = Adds r path.now key.now content.now
as_change (borrowed.Names path key) = Names path.now key.now
as_change (borrowed.Waits milliseconds) = Waits milliseconds
as_change borrowed.Nothing = Nothing

-- ---- what a change makes of what lines are read by

abbrev pub declares : Change → Bool
declares (Declares repository) = true
declares (Puts r key content) = false
declares (Brings content) = false
declares (Adds r path key content) = false
declares (Names path key) = false
declares (Waits milliseconds) = false
declares Nothing = false

-- the repositories that are declared
abbrev pub repos_by : Change → List Repository
repos_by (Declares repository) = repository ∷ []
repos_by (Puts r key content) = []
repos_by (Brings content) = []
repos_by (Adds r path key content) = []
repos_by (Names path key) = []
repos_by (Waits milliseconds) = []
repos_by Nothing = []

abbrev pub tree_by : Entries → Change → Entries
tree_by tree (Declares repository) = tree
tree_by tree (Puts r key content) = tree
tree_by tree (Brings content) = tree
tree_by tree (Adds r path key content) = with_key tree path key
tree_by tree (Names path key) = with_key tree path key
tree_by tree (Waits milliseconds) = tree
tree_by tree Nothing = tree

-- how many paths the tree has more
abbrev pub files_by : Entries → Change → ℕ
files_by tree (Declares repository) = 0
files_by tree (Puts r key content) = 0
files_by tree (Brings content) = 0
files_by tree (Adds r path key content) = new_paths tree path
files_by tree (Names path key) = new_paths tree path
files_by tree (Waits milliseconds) = 0
files_by tree Nothing = 0

abbrev pub placed_by : List (ℕ × List ℕ) → Change → List (ℕ × List ℕ)
placed_by placed (Declares repository) = placed
placed_by placed (Puts r key content) = insert_key placed_cmp placed (r, key)
placed_by placed (Brings content) = placed
placed_by placed (Adds r path key content) = insert_key placed_cmp placed (r, key)
placed_by placed (Names path key) = placed
placed_by placed (Waits milliseconds) = placed
placed_by placed Nothing = placed

-- the bytes of its content
abbrev pub content_size : Change → ℕ
content_size (Declares repository) = 0
content_size (Puts r key content) = length content
content_size (Brings content) = length content
content_size (Adds r path key content) = length content
content_size (Names path key) = 0
content_size (Waits milliseconds) = 0
content_size Nothing = 0

-- the milliseconds that go by
abbrev pub wait_by : Change → ℕ
wait_by (Declares repository) = 0
wait_by (Puts r key content) = 0
wait_by (Brings content) = 0
wait_by (Adds r path key content) = 0
wait_by (Names path key) = 0
wait_by (Waits milliseconds) = milliseconds
wait_by Nothing = 0

-- the context behind the change
abbrev pub context_by : Context → Change → Context
context_by context change = record {
  repos = context.repos ++ repos_by change;
  closed = context.closed || not (declares change);
  tree = tree_by context.tree change;
  files = context.files + files_by context.tree change;
  placed = placed_by context.placed change;
  contents = context.contents + content_size change;
  waited = context.waited + wait_by change;
}
