-- What each command has where it stands, its line of the driver has.
use Rattle.std.proofs.Common.{◌≡◌, ◌≢◌, inl, inr, ℕ, ◌+◌, ◌<◌, ◌≤◌, ◌^◌, true, false, List, [], ◌∷◌, length, Option, Some, None, IfSome, refl, sym, ◌∙◌, subst, true≢false, arith, length-append}
use Rattle.std.proofs.lemmas.Bool.Decides.{eqb_tells}
use Rattle.std.proofs.lemmas.List.{length-map}
use Rattle.annex_base.specs.Lines.{IsOneLine, is_not_newline, newline}
use Rattle.annex_base.specs.Lists.{Each}
use Rattle.annex_base.proofs.Conditions.{eqb_refl}
use Rattle.annex_base.proofs.Lines.{one_line-by_test, one_line-members}
use Rattle.annex_base.proofs.Lists.{Each-weaker, list_all_weaker}
use Rattle.annex_key.specs.KeyText.{IsKey, IsKeyText, key_text}
use Rattle.annex_key.specs.View.{first_fault, size_part}
use Rattle.key_verify.specs.MakingKeys as making
use Rattle.key_verify.specs.Matching.{MatchesKey}
use Rattle.log_lines.specs.LineText.{is_group, is_group_byte}
use Rattle.log_lines.specs.declared.entry.LogKind.{LogKind}
use Rattle.log_lines.specs.declared.entry.LogKind.TheVariants as kinds
use Rattle.log_lines.specs.declared.entry.Topic.{Topic}
use Rattle.log_lines.specs.declared.entry.Topic.TheVariants as topics
use Rattle.log_lines.specs.declared.entry.Value.{Value}
use Rattle.log_lines.specs.declared.entry.Value.TheVariants as values
use Rattle.union_merge.specs.LineSet.{IsLine}
use Rattle.run_data.specs.Files.{HasPath, kind_of}
use Rattle.run_data.specs.Repos.{fits_size}
use Rattle.run_data.specs.declared.entry.LogFile.{LogFile}
use Rattle.run_data.specs.declared.entry.LogFile.TheVariants as files
use Rattle.run_data.specs.declared.job.Job.{Job}
use Rattle.run_data.specs.declared.job.JobKind.{JobKind}
use Rattle.run_data.specs.declared.job.JobKind.TheVariants as job_kinds
use Rattle.script_commands.specs.declared.command.Action.{Action}
use Rattle.script_commands.specs.declared.command.Action.TheVariants as actions
use Rattle.script_commands.specs.declared.command.Command.{Command}
use Rattle.script_commands.specs.declared.command.Command.TheVariants as commands
use Rattle.script_lang.specs.Steps.{most_content}
use Rattle.script_lang.specs.Verify.{made_key}
use Rattle.script_lang.specs.Context.{Context}
use Rattle.script_lang.specs.Script as script
use Rattle.script_lang.specs.Script.{context_with}
use Rattle.script_lang.specs.Preconditions as standing
use Rattle.driver_model.specs.Driver.{DriverInput}
use Rattle.driver_model.specs.Scripts.{IsJob, IsOne, IsOneAction, IsOther, IsPlainTopic, IsPlainValue}
use Rattle.driver_script.specs.Lines.{declared_by, is_added, is_built_action, is_built_job, repos_of, view_of}
use Rattle.driver_script.proofs.BuiltLemmas.{IsBuilt}

-- ---- what a line has

-- a byte of a group's name is no newline
group_byte : (b : ℕ) → is_group_byte b ≡ true → is_not_newline b ≡ true
group_byte b is = elim (eqb_tells b newline) [
  | inl same ↦ absurd (let no : is_group_byte b ≡ false = rw (same.1) refl in true≢false (sym is ∙ no))
  | inr other ↦ rw (other.0) refl
]

group_is : (g : List ℕ) → is_group g ≡ true → IsOneLine g
group_is [] is = absurd cc
group_is (b ∷ bs) is = one_line-by_test (b ∷ bs) (list_all_weaker is_group_byte is_not_newline group_byte (b ∷ bs) is)

fits_is : (o : Option ℕ) (n : ℕ) → IfSome o (λ size. size ≡ n) → fits_size o n ≡ true
fits_is None n is = refl
fits_is (Some size) n is = rw is (eqb_refl n)

file_has_path : (file : LogFile) → is_added file ≡ true → standing.IsLogFile file → HasPath file
file_has_path (files.Location key) added is = is
file_has_path (files.Of kind) added is = is
file_has_path (files.Other name) added is = absurd cc

file_has_kind : (file : LogFile) → is_added file ≡ true → kind_of file ≢ None
file_has_kind (files.Location key) added none = cc
file_has_kind (files.Of kind) added none = cc
file_has_kind (files.Other name) added none = cc

line_is : (text : List ℕ) → text ≢ [] → IsOneLine text → IsLine text
line_is text some single = record { some = some; single = one_line-members text single }

known : (n m r : ℕ) → n ≤ m → r < n → r < m
known n m r few less = omega (arith, few, less)

-- the law of the texts of keys, as the lemmas take it
abbrev pub KeysHaveNoFault : Type 0
KeysHaveNoFault = (key : List ℕ) → IsKeyText key → first_fault key ≡ None

-- another repository of the script is another of the driver's
other_is : (g : DriverInput) (x : Context) (r other : ℕ) → length x.repos ≤ length g.repos → standing.AreTwo x r other → IsOther g r other
other_is g x r other few two = (known _ _ other few two.second, (λ same. two.distinct (sym same)))

-- a job that is built has a peer where it needs one, which is another
made_job : (g : DriverInput) (x : Context) (r : ℕ) (kind : JobKind) (key : List ℕ) (path : Option (List ℕ)) (peer : Option ℕ) → first_fault key ≡ None → length x.repos ≤ length g.repos → is_built_job kind peer ≡ true
    → IfSome peer (λ p. standing.AreTwo x r p) → IsJob g r (record { kind = kind; key = key; path = path; peer = peer })
made_job g x r job_kinds.Drop key path None valid few built two = record { peer = refl; valid = valid }
made_job g x r job_kinds.Get key path None valid few built two = record { peer = refl; valid = valid }
made_job g x r job_kinds.Copy key path None valid few built two = absurd (cc)
made_job g x r job_kinds.MoveTo key path None valid few built two = absurd (cc)
made_job g x r job_kinds.MoveFrom key path None valid few built two = absurd (cc)
made_job g x r kind key path (Some peer) valid few built two = record { peer = other_is g x r peer few two; valid = valid }

job_is : KeysHaveNoFault → (g : DriverInput) (x : Context) (r : ℕ) (job : Job) → length x.repos ≤ length g.repos → is_built_job job.kind job.peer ≡ true → standing.IsJob x r job → IsJob g r job
job_is valid g x r job few built stands = made_job g x r job.kind job.key job.path job.peer (valid job.key stands.key.text) few built stands.peer

-- the laws of texts of keys and of keys that are made of bytes, as the lemmas take them
pub record KeyLaws : Type 0 where
  pub faultless : KeysHaveNoFault
  pub made : (path bytes : List ℕ) → length bytes < 2 ^ 64 → IsKey (making.made_key path bytes)
  pub matching : (path bytes : List ℕ) → length bytes < 2 ^ 64 → MatchesKey (key_text (making.made_key path bytes)) bytes

small_enough : (n : ℕ) → n ≤ most_content → n < 2 ^ 64
small_enough n small = bounded n small
  where
    bounded : (k : ℕ) → k ≤ 16777216 → k < 18446744073709551616
    bounded k small = omega (arith, small)

-- a key that is made of a content is the content's
pub made_is : KeyLaws → (path key content : List ℕ) → key ≡ made_key path content → standing.IsSmall content → IsKeyText key × MatchesKey key content
unfolding made_key
made_is laws path key content is small =
    let fits = small_enough (length content) small in
    subst (λ (k : List ℕ). IsKeyText k × MatchesKey k content) (sym is)
    (record { parts = making.made_key path content; key = laws.made path content fits; spelled = refl }, laws.matching path content fits)

-- ---- one line

-- what a line may set is of one line, and in a log that isn't of locations
plain_target : (x : Context) (t : Topic) → standing.IsTarget x t → IsPlainTopic t
plain_target x (topics.Repo id) is = tt
plain_target x (topics.Group name) is = absurd is
plain_target x topics.Whole is = absurd is
plain_target x (topics.Pattern glob) is = absurd is

plain_text : (v : Value) → standing.IsText v → IsPlainValue v
plain_text (values.Text text) is = is.single
plain_text values.Gone is = absurd is
plain_text values.Absent is = absurd is
plain_text values.Present is = absurd is
plain_text (values.Level level) is = absurd is
plain_text (values.Groups groups) is = absurd is
plain_text (values.Number n) is = absurd is

plain_number : (v : Value) → standing.IsNumber v → IsPlainValue v
plain_number (values.Number n) is = tt
plain_number values.Gone is = absurd is
plain_number values.Absent is = absurd is
plain_number values.Present is = absurd is
plain_number (values.Level level) is = absurd is
plain_number (values.Text text) is = absurd is
plain_number (values.Groups groups) is = absurd is

plain_level : (v : Value) → standing.IsLevel v → IsPlainValue v
plain_level (values.Level level) is = tt
plain_level values.Gone is = absurd is
plain_level values.Absent is = absurd is
plain_level values.Present is = absurd is
plain_level (values.Text text) is = absurd is
plain_level (values.Groups groups) is = absurd is
plain_level (values.Number n) is = absurd is

plain_groups : (v : Value) → standing.AreGroups v → IsPlainValue v
plain_groups (values.Groups groups) is = Each-weaker standing.IsGroup IsOneLine group_is groups is
plain_groups values.Gone is = absurd is
plain_groups values.Absent is = absurd is
plain_groups values.Present is = absurd is
plain_groups (values.Level level) is = absurd is
plain_groups (values.Text text) is = absurd is
plain_groups (values.Number n) is = absurd is

plain_whole : (t : Topic) → standing.IsWhole t → IsPlainTopic t
plain_whole topics.Whole is = tt
plain_whole (topics.Repo id) is = absurd is
plain_whole (topics.Group name) is = absurd is
plain_whole (topics.Pattern glob) is = absurd is

plain_pattern : (t : Topic) → standing.IsPattern t → IsPlainTopic t
plain_pattern (topics.Pattern glob) is = is.single
plain_pattern (topics.Repo id) is = absurd is
plain_pattern (topics.Group name) is = absurd is
plain_pattern topics.Whole is = absurd is

plain_group : (t : Topic) → standing.IsGroupTopic t → IsPlainTopic t
plain_group (topics.Group name) is = group_is name is
plain_group (topics.Repo id) is = absurd is
plain_group topics.Whole is = absurd is
plain_group (topics.Pattern glob) is = absurd is

abbrev pub IsPlainSetting : LogKind → Topic → Value → Type 0
IsPlainSetting kind topic value = (kind ≢ kinds.Location) × IsPlainTopic topic × IsPlainValue value

pub plain_setting : (x : Context) (kind : LogKind) (topic : Topic) (value : Value) → standing.IsSetting x kind topic value → IsPlainSetting kind topic value
plain_setting x kinds.Location topic value is = absurd is
plain_setting x kinds.Trust topic value is = ((λ same. cc), plain_target x topic is.0, plain_level value is.1)
plain_setting x kinds.Uuid topic value is = ((λ same. cc), plain_target x topic is.0, plain_text value is.1)
plain_setting x kinds.Group topic value is = ((λ same. cc), plain_target x topic is.0, plain_groups value is.1)
plain_setting x kinds.Preferred topic value is = ((λ same. cc), plain_target x topic is.0, plain_text value is.1)
plain_setting x kinds.Required topic value is = ((λ same. cc), plain_target x topic is.0, plain_text value is.1)
plain_setting x kinds.GroupPreferred topic value is = ((λ same. cc), plain_group topic is.0, plain_text value is.1)
plain_setting x kinds.Numcopies topic value is = ((λ same. cc), plain_whole topic is.0, plain_number value is.1)
plain_setting x kinds.Mincopies topic value is = ((λ same. cc), plain_whole topic is.0, plain_number value is.1)
plain_setting x kinds.NumcopiesPath topic value is = ((λ same. cc), plain_pattern topic is.0, plain_number value is.1)
plain_setting x kinds.MincopiesPath topic value is = ((λ same. cc), plain_pattern topic is.0, plain_number value is.1)

one_action : KeyLaws → (g : DriverInput) (x : Context) (a : Action) → length x.repos ≤ length g.repos → standing.IsValidAction x a → is_built_action a ≡ true → IsOneAction g a
one_action v g x (actions.Have r key content) n s b = (known _ _ r n s.0, (s.1, fits_is (size_part key) (length content) s.2.size))
one_action v g x (actions.SetPart r key content) n s b = known _ _ r n s.0
one_action v g x (actions.Add r path key content) n s b =
    let made = made_is v path key content s.2 s.3 in
    (known _ _ r n s.0, (made.0, fits_is (size_part key) (length content) made.1.size))
one_action v g x (actions.File path key) n s b = s.1
one_action v g x (actions.Set r kind topic value) n s b = let plain = plain_setting x kind topic value s.1 in (known _ _ r n s.0, plain.0, plain.1, plain.2)
one_action v g x (actions.Raw r file text) n s b = (known _ _ r n s.0, file_has_path file b s.1, file_has_kind file b, line_is text s.3 s.2.single)
one_action v g x (actions.Merge r other) n s b = known _ _ r n s.first
one_action v g x (actions.Compact r) n s b = known _ _ r n s
one_action v g x (actions.Sync r) n s b = known _ _ r n s
one_action v g x (actions.Begin r job) n s b = (known _ _ r n s.repo, job_is v.faultless g x r job n b s)
one_action v g x (actions.Run r job) n s b = (known _ _ r n s.repo, job_is v.faultless g x r job n b s)
one_action v g x (actions.Turns r turns) n s b = known _ _ r n s
one_action v g x actions.Settle n s b = tt
one_action v g x (actions.Close r other) n s b = (known _ _ r n s.first, (known _ _ other n s.second, λ same. s.distinct (sym same)))
one_action v g x (actions.Crash r clock) n s b = known _ _ r n s.0
one_action v g x (actions.Wait milliseconds) n s b = tt
one_action v g x (actions.Fail r call) n s b = tt

one_line : KeyLaws → (g : DriverInput) (x : Context) (c : Command) → length x.repos ≤ length g.repos → standing.IsValidIn x c → IsBuilt c → IsOne g c
one_line v g x (commands.Repo name id offset version locks) n s b = tt
one_line v g x (commands.Does a) n s b = one_action v g x a n s b
one_line v g x (commands.Damage r key content) n s b = absurd cc
one_line v g x (commands.Par lines) n s b = absurd cc
one_line v g x (commands.Shows what) n s b = tt

-- ---- all lines

-- a command declares as many repositories for those behind it as the driver has more
declares_alike : (c : Command) → length (script.declared_by c) ≡ length (declared_by c)
declares_alike c = sym (length-map (script.declared_by c) view_of)

pub all_lines : KeyLaws → (g : DriverInput) (x : Context) (cs : List Command)
    → length x.repos + length (repos_of cs) ≤ length g.repos → standing.AllStand x cs → Each IsBuilt cs → Each (IsOne g) cs
all_lines v g x [] n s e = tt
all_lines v g x (c ∷ cs) n s e =
    let both = length-append (declared_by c) (repos_of cs) in
    let long = length-append x.repos (script.declared_by c) in
    let alike = declares_alike c in (
      one_line v g x c (omega (arith, n, both)) s.0 e.0,
      all_lines v g (context_with x c) cs (omega (arith, n, both, long, alike)) s.2 e.1,
    )
