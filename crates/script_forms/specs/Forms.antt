-- The forms of a script's lines (own): a row for each, with the word that it begins with, and what its other words say.
use Rattle.std.specs.Prelude.{ℕ, Bool, true, false, List, [], ◌∷◌, Option, Some, None, Result, Ok, Err, codes, bytes_eq, if◌then◌else◌}
use Rattle.std.specs.List.{find}
use Rattle.std.specs.Option.{option_map}
use Rattle.annex_base.specs.ResultSteps.{◌>>=◌}
use Rattle.annex_base.specs.declared.kinds.Level.{Level}
use Rattle.annex_base.specs.declared.kinds.Call.{Call}
use Rattle.log_lines.specs.declared.entry.LogKind.{LogKind}
use Rattle.log_lines.specs.declared.entry.LogKind.TheVariants as log_kinds
use Rattle.log_lines.specs.declared.entry.Topic.{Topic}
use Rattle.log_lines.specs.declared.entry.Topic.TheVariants as topics
use Rattle.log_lines.specs.declared.entry.Value.{Value}
use Rattle.log_lines.specs.declared.entry.Value.TheVariants as values
use Rattle.run_data.specs.declared.entry.LogFile.{LogFile}
use Rattle.run_data.specs.declared.job.Job.{Job}
use Rattle.run_data.specs.declared.job.JobKind.{JobKind}
use Rattle.run_data.specs.declared.job.JobKind.TheVariants as kinds
use Rattle.script_words.specs.Places.{Cursor}
use Rattle.script_words.specs.Words.{first_place}
use Rattle.script_commands.specs.declared.command.NamedKey.{NamedKey}
use Rattle.script_commands.specs.declared.command.Action.TheVariants.{Have, SetPart, Add, File, Set, Raw, Merge, Compact, Sync, Begin, Run, Turns, Settle, Close, Crash, Wait, Fail}
use Rattle.script_commands.specs.declared.command.Agendum.{Agendum}
use Rattle.script_commands.specs.declared.command.BlockLine.{BlockLine}
use Rattle.script_commands.specs.declared.command.BlockLine.TheVariants.{Runs, Crashes, Closes, Fails}
use Rattle.script_commands.specs.declared.command.Command.{Command}
use Rattle.script_commands.specs.declared.command.Command.TheVariants.{Repo, Does, Damage, Shows}
use Rattle.script_commands.specs.declared.command.Showing.{Showing}
use Rattle.script_commands.specs.declared.command.Showing.TheVariants as showings
use Rattle.script_forms.specs.declared.verb.Verb.{Verb}
use Rattle.script_forms.specs.declared.verb.Verb.TheVariants as verbs
use Rattle.script_forms.specs.declared.verb.BlockVerb.{BlockVerb}
use Rattle.script_forms.specs.declared.verb.BlockVerb.TheVariants as block_verbs
use Rattle.script_forms.specs.declared.verb.JobVerb.{JobVerb}
use Rattle.script_forms.specs.declared.verb.JobVerb.TheVariants as job_verbs
use Rattle.script_forms.specs.declared.verb.LineVerb.{LineVerb}
use Rattle.script_forms.specs.declared.verb.LineVerb.TheVariants.{Par, End, Says}
use Rattle.script_forms.specs.declared.verb.Show.{Show}
use Rattle.script_forms.specs.declared.verb.Show.TheVariants as shows
use Rattle.script_forms.specs.declared.fault.LineFault.{LineFault}
use Rattle.script_forms.specs.declared.fault.LineFault.TheVariants.{Wrong, Past}
use Rattle.script_forms.specs.declared.fault.Quantity.TheVariants.{Content}
use Rattle.script_forms.specs.Context.{Context}
use Rattle.script_forms.specs.Verify.{made_key}
use Rattle.script_forms.specs.Steps

-- what the words of a line say from a place on, by what the lines before it declared
abbrev pub Form : Type 0 → Type 0
Form A = Context → Cursor → Result A LineFault

-- ---- the steps, each with the form that goes on behind it

abbrev pub repo : {A : Type 0} → (ℕ → Form A) → Form A
repo next context at = Steps.repo_at context at >>= λ x. next x.0 context x.1

abbrev pub target : {A : Type 0} → (Topic → Form A) → Form A
target next context at = Steps.target_at context at >>= λ x. next x.0 context x.1

abbrev pub other : {A : Type 0} → ℕ → (ℕ → Form A) → Form A
other r next context at = Steps.other_at context r at >>= λ x. next x.0 context x.1

abbrev pub new_name : {A : Type 0} → (List ℕ → Form A) → Form A
new_name next context at = Steps.new_name_at context at >>= λ x. next x.0 context x.1

abbrev pub new_id : {A : Type 0} → (List ℕ → Form A) → Form A
new_id next context at = Steps.new_id_at context at >>= λ x. next x.0 context x.1

abbrev pub number : {A : Type 0} → ℕ → (ℕ → Form A) → Form A
number greatest next context at = Steps.number_at greatest at >>= λ x. next x.0 context x.1

abbrev pub level : {A : Type 0} → (Level → Form A) → Form A
level next context at = Steps.level_at at >>= λ x. next x.0 context x.1

abbrev pub call : {A : Type 0} → (Call → Form A) → Form A
call next context at = Steps.call_at at >>= λ x. next x.0 context x.1

abbrev pub path : {A : Type 0} → (List ℕ → Form A) → Form A
path next context at = Steps.path_at at >>= λ x. next x.0 context x.1

abbrev pub tree_path : {A : Type 0} → (List ℕ → Form A) → Form A
tree_path next context at = Steps.tree_path_at context at >>= λ x. next x.0 context x.1

abbrev pub group : {A : Type 0} → (List ℕ → Form A) → Form A
group next context at = Steps.group_at at >>= λ x. next x.0 context x.1

abbrev pub key : {A : Type 0} → (NamedKey → Form A) → Form A
key next context at = Steps.key_at context at >>= λ x. next x.0 context x.1

abbrev pub placed_key : {A : Type 0} → ℕ → (NamedKey → Form A) → Form A
placed_key r next context at = Steps.placed_key_at context r at >>= λ x. next x.0 context x.1

abbrev pub content : {A : Type 0} → (List ℕ → Form A) → Form A
content next context at = Steps.content_at at >>= λ x. next x.0 context x.1

abbrev pub matching_content : {A : Type 0} → List ℕ → (List ℕ → Form A) → Form A
matching_content key next context at = Steps.matching_at key at >>= λ x. next x.0 context x.1

abbrev pub file : {A : Type 0} → (LogFile → Form A) → Form A
file next context at = Steps.file_at at >>= λ x. next x.0 context x.1

abbrev pub log_file : {A : Type 0} → (LogFile → Form A) → Form A
log_file next context at = Steps.log_file_at context at >>= λ x. next x.0 context x.1

abbrev pub offset : {A : Type 0} → (ℕ → Form A) → Form A
offset next context at = next (Steps.offset_at at).0 context (Steps.offset_at at).1

abbrev pub version : {A : Type 0} → (ℕ → Form A) → Form A
version next context at = next (Steps.version_at at).0 context (Steps.version_at at).1

abbrev pub locks : {A : Type 0} → (Bool → Form A) → Form A
locks next context at = next (Steps.locks_at at).0 context (Steps.locks_at at).1

abbrev pub clock : {A : Type 0} → (ℕ → Form A) → Form A
clock next context at = next (Steps.clock_at at).0 context (Steps.clock_at at).1

abbrev pub turns : {A : Type 0} → (ℕ → Form A) → Form A
turns next context at = next (Steps.turns_at at).0 context (Steps.turns_at at).1

abbrev pub maybe_path : {A : Type 0} → (Option (List ℕ) → Form A) → Form A
maybe_path next context at = next (Steps.maybe_path_at at).0 context (Steps.maybe_path_at at).1

abbrev pub maybe_from : {A : Type 0} → ℕ → (Option ℕ → Form A) → Form A
maybe_from r next context at = Steps.from_at context r at >>= λ x. next x.0 context x.1

abbrev pub to : {A : Type 0} → ℕ → (ℕ → Form A) → Form A
to r next context at = Steps.to_at context r at >>= λ x. next x.0 context x.1

abbrev pub way : {A : Type 0} → (JobKind → Form A) → Form A
way next context at = Steps.way_at at >>= λ x. next x.0 context x.1

-- no word is left
abbrev pub ends : {A : Type 0} → A → Form A
ends said context at = Steps.end_at at >>= λ _. Ok said

abbrev pub end_within_at : List ℕ → Cursor → Result Unit LineFault
end_within_at content at = Steps.end_at at >>= λ _. if Steps.is_large content then Err (Past Content) else Ok tt

-- no word is left, and the content doesn't pass its limit
abbrev pub ends_within : {A : Type 0} → List ℕ → A → Form A
ends_within content said context at = end_within_at content at >>= λ _. Ok said

-- the rest of the line: a text of at most 4,096 bytes, any text, a glob, a raw line that isn't empty, groups
abbrev pub text : {A : Type 0} → (List ℕ → A) → Form A
text said context at = Steps.text_at at >>= λ x. Ok (said x)

abbrev pub rest : {A : Type 0} → (List ℕ → A) → Form A
rest said context at = Steps.rest_at at >>= λ x. Ok (said x)

abbrev pub glob : {A : Type 0} → (List ℕ → A) → Form A
glob said context at = Steps.glob_at at >>= λ x. Ok (said x)

abbrev pub raw_line : {A : Type 0} → (List ℕ → A) → Form A
raw_line said context at = Steps.full_rest_at at >>= λ x. Ok (said x)

abbrev pub groups : {A : Type 0} → (List (List ℕ) → A) → Form A
groups said context at = Steps.groups_at at >>= λ x. Ok (said x)

-- what is left of the line has at most 4,096 bytes
abbrev pub short : {A : Type 0} → Form A → Form A
short next context at = Steps.short_at at >>= λ _. next context at

-- no line but those of repositories came before
abbrev pub first : {A : Type 0} → Form A → Form A
first next context at = if context.closed then Err (Wrong (first_place at.line)) else next context at

-- ---- jobs

abbrev pub a_job : JobKind → NamedKey → Option ℕ → Job
a_job kind k peer = record { kind = kind; key = k.key; path = k.path; peer = peer }

abbrev pub job_row : JobVerb → List ℕ × Form (ℕ × Job)
job_row job_verbs.Drop = (codes "drop", repo λ r. key λ k. maybe_from r λ p. ends (r, a_job kinds.Drop k p))
job_row job_verbs.Get = (codes "get", repo λ r. key λ k. maybe_from r λ p. ends (r, a_job kinds.Get k p))
job_row job_verbs.Copy = (codes "copy", repo λ r. key λ k. to r λ p. ends (r, a_job kinds.Copy k (Some p)))
job_row job_verbs.Move = (codes "move", repo λ r. key λ k. way λ kind. other r λ p. ends (r, a_job kind k (Some p)))

abbrev pub all_jobs : List JobVerb
all_jobs = job_verbs.Drop ∷ job_verbs.Get ∷ job_verbs.Copy ∷ job_verbs.Move ∷ []

abbrev pub job_named : List ℕ → Option JobVerb
job_named word = find (λ v. bytes_eq (job_row v).0 word) all_jobs

abbrev pub job_verb_at : Steps.Step JobVerb
job_verb_at at = Steps.saying_at job_named at

-- a job's verb, and the job
abbrev pub job : {A : Type 0} → (ℕ → Job → A) → Form A
job said context at = job_verb_at at >>= λ v. (job_row v.0).1 context v.1 >>= λ j. Ok (said j.0 j.1)

-- ---- lines that may stand in a block

abbrev pub agendum : ℕ → BlockLine → Agendum
agendum r line = record { repo = r; line = line }

abbrev pub runs : Form (ℕ × Job) → Form Agendum
runs form context at = form context at >>= λ j. Ok (agendum j.0 (Runs j.1))

abbrev pub block_row : BlockVerb → List ℕ × Form Agendum
block_row (block_verbs.Job v) = ((job_row v).0, runs (job_row v).1)
block_row block_verbs.Crash = (codes "crash", repo λ r. clock λ c. ends (agendum r (Crashes c)))
block_row block_verbs.Close = (codes "close", repo λ r. other r λ o. ends (agendum r (Closes o)))
block_row block_verbs.Fail = (codes "fail", repo λ r. call λ c. ends (agendum r (Fails c)))

-- the same line outside a block
abbrev pub outside_block : ℕ → BlockLine → Command
outside_block r (Runs job) = Does (Run r job)
outside_block r (Crashes clock) = Does (Crash r clock)
outside_block r (Closes other) = Does (Close r other)
outside_block r (Fails call) = Does (Fail r call)

abbrev pub stands_alone : Form Agendum → Form Command
stands_alone form context at = form context at >>= λ l. Ok (outside_block l.repo l.line)

-- ---- lines that show something

abbrev pub show_row : Show → List ℕ × Form Showing
show_row shows.Presence = (codes "presence", key λ k. ends (showings.Presence k))
show_row shows.Claims = (codes "claims", repo λ r. key λ k. ends (showings.Claims r k))
show_row shows.Location = (codes "location", repo λ r. key λ k. ends (showings.Location r k))
show_row shows.Log = (codes "log", repo λ r. file λ f. ends (showings.Log r f))
show_row shows.Logs = (codes "logs", repo λ r. ends (showings.Logs r))
show_row shows.Numbers = (codes "numbers", repo λ r. maybe_path λ p. ends (showings.Numbers r p))
show_row shows.Level = (codes "level", repo λ r. repo λ t. ends (showings.Level r t))
show_row shows.Wants = (codes "wants", repo λ r. repo λ t. tree_path λ p. ends (showings.Wants r t p))
show_row shows.Row = (codes "row", repo λ r. key λ k. ends (showings.Row r k))
show_row shows.Plan = (codes "plan", repo λ r. ends (showings.Plan r))
show_row shows.Totals = (codes "totals", ends showings.Totals)
show_row shows.Journal = (codes "journal", ends showings.Journal)

abbrev pub all_shows : List Show
all_shows = shows.Presence ∷ shows.Claims ∷ shows.Location ∷ shows.Log ∷ shows.Logs ∷ shows.Numbers ∷ shows.Level ∷ shows.Wants ∷ shows.Row ∷ shows.Plan ∷ shows.Totals ∷ shows.Journal ∷ []

abbrev pub show_named : List ℕ → Option Show
show_named word = find (λ v. bytes_eq (show_row v).0 word) all_shows

abbrev pub show_at : Steps.Step Show
show_at at = Steps.saying_at show_named at

-- what is shown, and of what
abbrev pub show : Form Command
show context at = show_at at >>= λ v. (show_row v.0).1 context v.1 >>= λ what. Ok (Shows what)

-- ---- all lines, but for the two that begin and end a block

-- an entry of this topic in a log of r
abbrev pub sets : ℕ → LogKind → Topic → Value → Command
sets r kind topic value = Does (Set r kind topic value)

-- a setting of a repository: its expression or its description
abbrev pub text_setting : LogKind → Form Command
text_setting kind = repo λ r. target λ t. text (λ x. sets r kind t (values.Text x))

-- a number of copies, and one for the paths that a glob matches
abbrev pub number_setting : LogKind → Form Command
number_setting kind = repo λ r. number 999999999 λ n. ends (sets r kind topics.Whole (values.Number n))

abbrev pub number_by_path : LogKind → Form Command
number_by_path kind = repo λ r. number 999999999 λ n. glob (λ g. sets r kind (topics.Pattern g) (values.Number n))

abbrev pub row : Verb → List ℕ × Form Command
row verbs.Repo = (codes "repo", first (new_name λ name. new_id λ id. offset λ o. version λ v. locks λ l. ends (Repo name id o v l)))
row verbs.Numcopies = (codes "numcopies", number_setting log_kinds.Numcopies)
row verbs.Mincopies = (codes "mincopies", number_setting log_kinds.Mincopies)
row verbs.NumcopiesFor = (codes "numcopiesfor", number_by_path log_kinds.NumcopiesPath)
row verbs.MincopiesFor = (codes "mincopiesfor", number_by_path log_kinds.MincopiesPath)
row verbs.Trust = (codes "trust", repo λ r. target λ t. level λ l. ends (sets r log_kinds.Trust t (values.Level l)))
row verbs.Describe = (codes "describe", text_setting log_kinds.Uuid)
row verbs.Wanted = (codes "wanted", text_setting log_kinds.Preferred)
row verbs.Required = (codes "required", text_setting log_kinds.Required)
row verbs.Group = (codes "group", repo λ r. target λ t. groups (λ gs. sets r log_kinds.Group t (values.Groups gs)))
row verbs.GroupWanted = (codes "groupwanted", repo λ r. short (group λ g. rest (λ x. sets r log_kinds.GroupPreferred (topics.Group g) (values.Text x))))
row verbs.Log = (codes "log", repo λ r. log_file λ f. raw_line (λ l. Does (Raw r f l)))
row verbs.Have = (codes "have", repo λ r. key λ k. matching_content k.key λ c. ends_within c (Does (Have r k.key c)))
row verbs.Part = (codes "part", repo λ r. key λ k. content λ c. ends_within c (Does (SetPart r k.key c)))
row verbs.Damage = (codes "damage", repo λ r. placed_key r λ k. content λ c. ends_within c (Damage r k.key c))
row verbs.Add = (codes "add", repo λ r. path λ p. content λ c. ends_within c (Does (Add r p (made_key p c) c)))
row verbs.File = (codes "file", path λ p. key λ k. ends (Does (File p k.key)))
row (verbs.InBlock v) = ((block_row v).0, stands_alone (block_row v).1)
row verbs.Begin = (codes "begin", job (λ r j. Does (Begin r j)))
row verbs.Turn = (codes "turn", repo λ r. turns λ n. ends (Does (Turns r n)))
row verbs.Settle = (codes "settle", ends (Does Settle))
row verbs.Merge = (codes "merge", repo λ r. other r λ o. ends (Does (Merge r o)))
row verbs.Compact = (codes "compact", repo λ r. ends (Does (Compact r)))
row verbs.Sync = (codes "sync", repo λ r. ends (Does (Sync r)))
row verbs.Wait = (codes "wait", number 18446744073709551615 λ ms. ends (Does (Wait ms)))
row verbs.Show = (codes "show", show)

abbrev pub all_verbs : List Verb
all_verbs = verbs.Repo ∷ verbs.Numcopies ∷ verbs.Mincopies ∷ verbs.NumcopiesFor ∷ verbs.MincopiesFor ∷ verbs.Trust ∷ verbs.Describe ∷ verbs.Wanted ∷ verbs.Required ∷ verbs.Group ∷ verbs.GroupWanted ∷ verbs.Log ∷ verbs.Have ∷ verbs.Part ∷ verbs.Damage ∷ verbs.Add ∷ verbs.File ∷ verbs.InBlock (block_verbs.Job job_verbs.Drop) ∷ verbs.InBlock (block_verbs.Job job_verbs.Get) ∷ verbs.InBlock (block_verbs.Job job_verbs.Copy) ∷ verbs.InBlock (block_verbs.Job job_verbs.Move) ∷ verbs.InBlock block_verbs.Crash ∷ verbs.InBlock block_verbs.Close ∷ verbs.InBlock block_verbs.Fail ∷ verbs.Begin ∷ verbs.Turn ∷ verbs.Settle ∷ verbs.Merge ∷ verbs.Compact ∷ verbs.Sync ∷ verbs.Wait ∷ verbs.Show ∷ []

abbrev pub verb_named : List ℕ → Option Verb
verb_named word = find (λ v. bytes_eq (row v).0 word) all_verbs

-- a line that begins or ends a block, or one of the forms above
abbrev pub line_named : List ℕ → Option LineVerb
line_named word = if bytes_eq (codes "par") word then Some Par
    else if bytes_eq (codes "end") word then Some End
    else option_map Says (verb_named word)
