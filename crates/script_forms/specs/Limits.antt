-- What is counted in a script, and how much of it there may be (own).
use Rattle.std.specs.Prelude.{ℕ, ◌+◌, Bool, nat_lt, List, length, Option, Some, None, codes, if◌then◌else◌}
use Rattle.script_commands.specs.declared.command.Command.{Command}
use Rattle.script_forms.specs.declared.fault.Quantity.{Quantity}
use Rattle.script_forms.specs.declared.fault.Quantity.TheVariants.{Repositories, Content, Contents, Files, Time}
use Rattle.script_forms.specs.Changes.{Change, Declares, Puts, Brings, Adds, Names, Waits, Nothing, change_of}
use Rattle.script_forms.specs.Context.{Context, new_paths}
use Rattle.script_forms.specs.Steps.{most_content}

-- the name of what is counted, as a report says it
abbrev pub quantity_name : Quantity → List ℕ
quantity_name Repositories = codes "repositories"
quantity_name Content = codes "content"
quantity_name Contents = codes "contents"
quantity_name Files = codes "files"
quantity_name Time = codes "time"

abbrev pub limit_of : Quantity → ℕ
limit_of Repositories = 16
limit_of Content = most_content
limit_of Contents = 268435456
limit_of Files = 4096
limit_of Time = 1000000000000

abbrev pub passed_by : Quantity → ℕ → Option Quantity → Option Quantity
passed_by quantity n others = if nat_lt (limit_of quantity) n then Some quantity else others

-- the bytes of one content more
abbrev pub contents_pass : Context → List ℕ → Option Quantity → Option Quantity
contents_pass context content others = passed_by Contents (context.contents + length content) others

-- the tree with the path
abbrev pub files_pass : Context → List ℕ → Option Quantity
files_pass context path = passed_by Files (context.files + new_paths context.tree path) None

-- the first limit that a change passes
abbrev pub limit_passed : Context → Change → Option Quantity
limit_passed context (Declares repository) = passed_by Repositories (length context.repos + 1) None
limit_passed context (Puts r key content) = contents_pass context content None
limit_passed context (Brings content) = contents_pass context content None
limit_passed context (Adds r path key content) = contents_pass context content (files_pass context path)
limit_passed context (Names path key) = files_pass context path
limit_passed context (Waits milliseconds) = passed_by Time (context.waited + milliseconds) None
limit_passed context Nothing = None

-- the first limit that a command passes; the limit of one content is met in the command's form
abbrev pub first_limit : Context → Command → Option Quantity
first_limit context command = limit_passed context (change_of command)
