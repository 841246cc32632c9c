-- What each command of a script has where it stands (own).
use Rattle.std.specs.Prelude.{◌≡◌, ◌≢◌, ℕ, ◌<◌, ◌≤◌, true, false, List, [], ◌∷◌, length, Option, Some, None, IfSome}
use Rattle.std.specs.Str.{is_utf8}
use Rattle.annex_base.specs.Lines.{IsOneLine}
use Rattle.annex_base.specs.Lists.{Each}
use Rattle.annex_base.specs.RepoText.{IsId}
use Rattle.annex_key.specs.KeyText.{IsKeyText}
use Rattle.annex_key.specs.Tree.{key_of}
use Rattle.key_verify.specs.Matching.{MatchesKey}
use Rattle.log_lines.specs.LineText.{is_group}
use Rattle.log_lines.specs.declared.entry.LogKind.{LogKind}
use Rattle.log_lines.specs.declared.entry.LogKind.TheVariants as log_kinds
use Rattle.log_lines.specs.declared.entry.Topic.{Topic}
use Rattle.log_lines.specs.declared.entry.Topic.TheVariants as topics
use Rattle.log_lines.specs.declared.entry.Value.{Value}
use Rattle.log_lines.specs.declared.entry.Value.TheVariants as values
use Rattle.run_data.specs.declared.entry.LogFile.{LogFile}
use Rattle.run_data.specs.declared.entry.LogFile.TheVariants.{Location, Of, Other}
use Rattle.run_data.specs.declared.job.Job.{Job}
use Rattle.script_words.specs.Fields.{is_name, is_path}
use Rattle.script_commands.specs.declared.command.NamedKey.{NamedKey}
use Rattle.script_commands.specs.declared.command.Action.{Action}
use Rattle.script_commands.specs.declared.command.Action.TheVariants.{Have, SetPart, Add, File, Set, Raw, Merge, Compact, Sync, Begin, Run, Turns, Settle, Close, Crash, Wait, Fail}
use Rattle.script_commands.specs.declared.command.Agendum.{Agendum}
use Rattle.script_commands.specs.declared.command.BlockLine.{BlockLine}
use Rattle.script_commands.specs.declared.command.BlockLine.TheVariants.{Runs, Crashes, Closes, Fails}
use Rattle.script_commands.specs.declared.command.Command.{Command}
use Rattle.script_commands.specs.declared.command.Command.TheVariants.{Repo, Does, Damage, Par, Shows}
use Rattle.script_commands.specs.declared.command.Showing.{Showing}
use Rattle.script_commands.specs.declared.command.Showing.TheVariants as showings
use Rattle.script_forms.specs.Context.{Context, has_id, has_name, has_path, is_placed}
use Rattle.script_forms.specs.Limits.{first_limit}
use Rattle.script_lang.specs.Script.{context_with}
use Rattle.script_forms.specs.Steps.{most_content}
use Rattle.script_forms.specs.Verify.{made_key}

-- the number of a repository that is declared
abbrev pub IsRepo : Context → ℕ → Type 0
IsRepo context r = r < length context.repos

-- the numbers of two different repositories
pub record AreTwo (context : Context) (r other : ℕ) : Type 0 where
  pub first : IsRepo context r
  pub second : IsRepo context other
  pub distinct : r ≢ other

-- a text of a line: UTF-8 without a newline
pub record IsLineText (text : List ℕ) : Type 0 where
  pub utf8 : is_utf8 text ≡ true
  pub single : IsOneLine text

-- the text of a key; where a path named it, the key that the tree has at the path
pub record IsKnownKey (context : Context) (key : List ℕ) (path : Option (List ℕ)) : Type 0 where
  pub text : IsKeyText key
  pub named : IfSome path (λ p. key_of context.tree p ≡ Some key)

abbrev pub IsNamedKey : Context → NamedKey → Type 0
IsNamedKey context k = IsKnownKey context k.key k.path

-- a new repository, before any other line
pub record MayDeclare (context : Context) (name id : List ℕ) : Type 0 where
  pub first : context.closed ≡ false
  pub good_name : is_name name ≡ true
  pub new_name : has_name context.repos name ≡ false
  pub good_id : IsId id
  pub new_id : has_id context.repos id ≡ false

abbrev pub IsGroup : List ℕ → Type 0
IsGroup group = is_group group ≡ true

abbrev pub IsPath : List ℕ → Type 0
IsPath path = is_path path ≡ true

abbrev pub IsSmall : List ℕ → Type 0
IsSmall content = length content ≤ most_content

-- a log file by its name
abbrev pub IsNamedFile : LogFile → Type 0
IsNamedFile (Location key) = ⊥
IsNamedFile (Of kind) = kind ≢ log_kinds.Location
IsNamedFile (Other name) = ⊥

-- the location log of a key, or a log file by its name
abbrev pub IsLogFile : LogFile → Type 0
IsLogFile (Location key) = IsKeyText key
IsLogFile (Of kind) = kind ≢ log_kinds.Location
IsLogFile (Other name) = ⊥

-- a job of the repository r; its peer is another
pub record IsJob (context : Context) (r : ℕ) (job : Job) : Type 0 where
  pub repo : IsRepo context r
  pub key : IsKnownKey context job.key job.path
  pub peer : IfSome job.peer (λ p. AreTwo context r p)

-- the line of a block has this where it stands
abbrev pub StandsAs : Context → ℕ → BlockLine → Type 0
StandsAs context r (Runs job) = IsJob context r job
StandsAs context r (Crashes clock) = IsRepo context r × (clock ≤ 100000000000)
StandsAs context r (Closes other) = AreTwo context r other
StandsAs context r (Fails call) = IsRepo context r

abbrev pub StandsInBlock : Context → Agendum → Type 0
StandsInBlock context l = StandsAs context l.repo l.line

-- the topic is a repository that is declared
abbrev pub IsTarget : Context → Topic → Type 0
IsTarget context (topics.Repo id) = has_id context.repos id ≡ true
IsTarget context topic = ⊥

abbrev pub IsWhole : Topic → Type 0
IsWhole topics.Whole = Unit {0}
IsWhole topic = ⊥

abbrev pub IsPattern : Topic → Type 0
IsPattern (topics.Pattern glob) = IsLineText glob
IsPattern topic = ⊥

abbrev pub IsGroupTopic : Topic → Type 0
IsGroupTopic (topics.Group group) = IsGroup group
IsGroupTopic topic = ⊥

abbrev pub IsNumber : Value → Type 0
IsNumber (values.Number n) = n ≤ 999999999
IsNumber value = ⊥

abbrev pub IsLevel : Value → Type 0
IsLevel (values.Level level) = Unit {0}
IsLevel value = ⊥

abbrev pub IsText : Value → Type 0
IsText (values.Text text) = IsLineText text
IsText value = ⊥

abbrev pub AreGroups : Value → Type 0
AreGroups (values.Groups groups) = Each IsGroup groups
AreGroups value = ⊥

-- what a line may set of a topic in the log of a kind: a number of copies, for all paths or for those that a glob matches; the
-- level, the description, the groups or an expression of a repository; the expression of a group
abbrev pub IsSetting : Context → LogKind → Topic → Value → Type 0
IsSetting context log_kinds.Location topic value = ⊥
IsSetting context log_kinds.Trust topic value = IsTarget context topic × IsLevel value
IsSetting context log_kinds.Uuid topic value = IsTarget context topic × IsText value
IsSetting context log_kinds.Group topic value = IsTarget context topic × AreGroups value
IsSetting context log_kinds.Preferred topic value = IsTarget context topic × IsText value
IsSetting context log_kinds.Required topic value = IsTarget context topic × IsText value
IsSetting context log_kinds.GroupPreferred topic value = IsGroupTopic topic × IsText value
IsSetting context log_kinds.Numcopies topic value = IsWhole topic × IsNumber value
IsSetting context log_kinds.Mincopies topic value = IsWhole topic × IsNumber value
IsSetting context log_kinds.NumcopiesPath topic value = IsPattern topic × IsNumber value
IsSetting context log_kinds.MincopiesPath topic value = IsPattern topic × IsNumber value

-- the action has this where its line stands
abbrev pub IsValidAction : Context → Action → Type 0
IsValidAction context (Have r key content) = IsRepo context r × IsKeyText key × MatchesKey key content × IsSmall content
IsValidAction context (SetPart r key content) = IsRepo context r × IsKeyText key × IsSmall content
IsValidAction context (Add r path key content) = IsRepo context r × IsPath path × (key ≡ made_key path content) × IsSmall content
IsValidAction context (File path key) = IsPath path × IsKeyText key
IsValidAction context (Set r kind topic value) = IsRepo context r × IsSetting context kind topic value
IsValidAction context (Raw r file line) = IsRepo context r × IsLogFile file × IsLineText line × (line ≢ [])
IsValidAction context (Merge r other) = AreTwo context r other
IsValidAction context (Compact r) = IsRepo context r
IsValidAction context (Sync r) = IsRepo context r
IsValidAction context (Begin r job) = IsJob context r job
IsValidAction context (Run r job) = IsJob context r job
IsValidAction context (Turns r turns) = IsRepo context r
IsValidAction context Settle = Unit {0}
IsValidAction context (Close r other) = AreTwo context r other
IsValidAction context (Crash r clock) = IsRepo context r × (clock ≤ 100000000000)
IsValidAction context (Wait milliseconds) = Unit {0}
IsValidAction context (Fail r call) = IsRepo context r

-- what is shown has this where its line stands
abbrev pub IsValidShowing : Context → Showing → Type 0
IsValidShowing context (showings.Presence k) = IsNamedKey context k
IsValidShowing context (showings.Claims r k) = IsRepo context r × IsNamedKey context k
IsValidShowing context (showings.Location r k) = IsRepo context r × IsNamedKey context k
IsValidShowing context (showings.Log r file) = IsRepo context r × IsNamedFile file
IsValidShowing context (showings.Logs r) = IsRepo context r
IsValidShowing context (showings.Numbers r path) = IsRepo context r × IfSome path IsPath
IsValidShowing context (showings.Level r target) = IsRepo context r × IsRepo context target
IsValidShowing context (showings.Wants r target path) = IsRepo context r × IsRepo context target × (has_path context.tree path ≡ true)
IsValidShowing context (showings.Row r k) = IsRepo context r × IsNamedKey context k
IsValidShowing context (showings.Plan r) = IsRepo context r
IsValidShowing context showings.Totals = Unit {0}
IsValidShowing context showings.Journal = Unit {0}

-- the command has this where it stands
abbrev pub IsValidIn : Context → Command → Type 0
IsValidIn context (Repo name id offset version locks) = MayDeclare context name id × (offset ≤ 100000000000) × (1 ≤ version) × (version ≤ 3)
IsValidIn context (Does action) = IsValidAction context action
IsValidIn context (Damage r key content) = IsRepo context r × IsKeyText key × (is_placed context r key ≡ true) × IsSmall content
IsValidIn context (Par lines) = Each (StandsInBlock context) lines
IsValidIn context (Shows what) = IsValidShowing context what

-- each command has this where it stands, and passes no limit
abbrev pub AllStand : Context → List Command → Type 0
AllStand context [] = Unit {0}
AllStand context (c ∷ cs) = IsValidIn context c × (first_limit context c ≡ None) × AllStand (context_with context c) cs
