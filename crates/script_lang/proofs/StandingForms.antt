-- What each form of line gives stands where the line does.
use Rattle.std.proofs.Common.{◌≡◌, ◌⊎◌, inl, inr, ℕ, ◌<◌, ◌≤◌, Bool, true, false, List, [], ◌∷◌, length, Option, Some, None, Result, Ok, Err, refl, sym, ap, ◌∙◌, subst, IfSome}
use Rattle.std.specs.Prelude.{codes, if◌then◌else◌}
use Rattle.annex_base.specs.Lines.{IsOneLine}
use Rattle.annex_base.specs.Lists.{Each}
use Rattle.annex_base.specs.ResultSteps.{◌>>=◌}
use Rattle.annex_base.proofs.Conditions.{if_is}
use Rattle.annex_base.proofs.Results.{bind_ok, ok_is}
use Rattle.key_verify.specs.Matching.{MatchesKey}
use Rattle.log_lines.specs.LineText.{is_group}
use Rattle.log_lines.specs.declared.entry.LogKind.{LogKind}
use Rattle.log_lines.specs.declared.entry.LogKind.TheVariants as log_kinds
use Rattle.log_lines.specs.declared.entry.Topic.{Topic}
use Rattle.log_lines.specs.declared.entry.Topic.TheVariants as topics
use Rattle.log_lines.specs.declared.entry.Value.TheVariants as values
use Rattle.annex_base.specs.declared.kinds.Level.{Level}
use Rattle.annex_base.specs.declared.kinds.Call.{Call}
use Rattle.run_data.specs.declared.entry.LogFile.{LogFile}
use Rattle.run_data.specs.declared.job.Job.{Job}
use Rattle.run_data.specs.declared.job.JobKind.{JobKind}
use Rattle.run_data.specs.declared.job.JobKind.TheVariants as kinds
use Rattle.script_words.specs.Places.{Cursor}
use Rattle.script_words.specs.Words.{first_place}
use Rattle.script_words.specs.Fields.{greatest_offset}
use Rattle.script_commands.specs.declared.command.NamedKey.{NamedKey}
use Rattle.script_commands.specs.declared.command.Action.TheVariants.{Begin, Turns}
use Rattle.script_commands.specs.declared.command.Agendum.{Agendum}
use Rattle.script_commands.specs.declared.command.BlockLine.{BlockLine}
use Rattle.script_commands.specs.declared.command.BlockLine.TheVariants.{Runs, Crashes, Closes, Fails}
use Rattle.script_commands.specs.declared.command.Command.{Command}
use Rattle.script_commands.specs.declared.command.Command.TheVariants.{Repo, Does, Shows}
use Rattle.script_commands.specs.declared.command.Showing.{Showing}
use Rattle.script_commands.specs.declared.command.Showing.TheVariants as showings
use Rattle.script_forms.specs.declared.fault.LineFault.{LineFault}
use Rattle.script_forms.specs.declared.fault.LineFault.TheVariants.{Wrong, Past}
use Rattle.script_forms.specs.declared.fault.Quantity.TheVariants.{Content}
use Rattle.script_forms.specs.declared.verb.Verb.{Verb}
use Rattle.script_forms.specs.declared.verb.Verb.TheVariants as verbs
use Rattle.script_forms.specs.declared.verb.BlockVerb.{BlockVerb}
use Rattle.script_forms.specs.declared.verb.BlockVerb.TheVariants as block_verbs
use Rattle.script_forms.specs.declared.verb.JobVerb.{JobVerb}
use Rattle.script_forms.specs.declared.verb.JobVerb.TheVariants as job_verbs
use Rattle.script_forms.specs.declared.verb.Show.{Show}
use Rattle.script_forms.specs.declared.verb.Show.TheVariants as shows
use Rattle.script_forms.specs.Context.{Context, has_path}
use Rattle.script_forms.specs.Forms
use Rattle.script_forms.specs.Forms.{Form}
use Rattle.script_lang.specs.Preconditions.{IsRepo, IsTarget, AreTwo, IsLineText, IsKnownKey, IsNamedKey, IsGroup, IsPath, IsNamedFile, IsLogFile, IsSmall, IsJob, MayDeclare, IsSetting, IsValidIn, IsValidShowing, StandsAs, StandsInBlock}
use Rattle.script_forms.specs.Steps
use Rattle.script_forms.specs.Verify.{is_content_of}
use Rattle.script_lang.proofs.StepLemmas.{Gives, Always, Ends, IsNewName, IsNewId, IsFullText, saying_gives, repo_gives, target_gives, other_gives, new_name_gives, new_id_gives, number_gives, level_gives, call_gives, path_gives, tree_path_gives, group_gives, rest_ends, full_rest_ends, text_ends, glob_ends, groups_ends}
use Rattle.script_lang.proofs.KeyLemmas.{KeysAreTexts, HasKeys, IsPlacedKey, IsVersion, MayBeContent, IsPeer, key_gives, placed_key_gives, file_gives, log_file_gives, content_gives, matching_gives, content_is, small_is, offset_gives, clock_gives, version_gives, locks_gives, turns_gives, maybe_path_gives, from_gives, to_gives, way_gives}

-- what a form gives has this, on a line of one line
pub record Says {A : Type 0} (P : A → Type 0) (context : Context) (form : Form A) : Type 0 where
  pub given : (at : Cursor) (x : A) → IsOneLine at.line → form context at ≡ Ok x → P x

-- any value
abbrev Anything : {X : Type 0} → X → Type 0
Anything x = Unit {0}

abbrev UpTo : ℕ → ℕ → Type 0
UpTo greatest n = n ≤ greatest

abbrev HasPath : Context → List ℕ → Type 0
HasPath context p = has_path context.tree p ≡ true

abbrev IsPathIf : Option (List ℕ) → Type 0
IsPathIf o = IfSome o IsPath

-- a form that begins with a step
behind : {X A : Type 0} (Q : X → Type 0) (P : A → Type 0) (context : Context) (step : Steps.Step X) (next : X → Form A)
    → Gives Q step → ((x : X) → Q x → Says P context (next x)) → (at : Cursor) (y : A) → IsOneLine at.line → (step at >>= λ x. next x.0 context x.1) ≡ Ok y → P y
behind Q P context step next gives others at y one e =
    let b = bind_ok (step at) (λ x. next x.0 context x.1) y e in
    let g = gives at b.0 one b.1 in
    (others b.0.0 g.0).given b.0.1 y (subst IsOneLine (sym g.1) one) b.2

-- a form that begins with an option
behind_option : {X A : Type 0} (Q : X → Type 0) (P : A → Type 0) (context : Context) (step : Cursor → X × Cursor) (next : X → Form A)
    → Always Q step → ((x : X) → Q x → Says P context (next x)) → (at : Cursor) (y : A) → IsOneLine at.line → next (step at).0 context (step at).1 ≡ Ok y → P y
behind_option Q P context step next gives others at y one e =
    let g = gives at in
    (others (step at).0 g.0).given (step at).1 y (subst IsOneLine (sym g.1) one) e

-- a form that takes the rest of the line
takes : {X A : Type 0} (Q : X → Type 0) (P : A → Type 0) (step : Cursor → Result X LineFault) (said : X → A)
    → Ends Q step → ((x : X) → Q x → P (said x)) → (at : Cursor) (y : A) → IsOneLine at.line → (step at >>= λ x. Ok (said x)) ≡ Ok y → P y
takes Q P step said ends is at y one e =
    let b = bind_ok (step at) (λ x. Ok (said x)) y e in
    subst P (ok_is LineFault (said b.0) y b.2) (is b.0 (ends at b.0 one b.1))

large_or : (b : Bool) (y : Unit {0}) → (if b then Err (Past Content) else Ok tt) ≡ Ok y → b ≡ false
large_or true y e = absurd cc
large_or false y e = refl

module _ (law : KeysAreTexts) (matches : (key content : List ℕ) → is_content_of key content ≡ true → MatchesKey key content) (context : Context) (keys : HasKeys context) where
  -- ---- forms by their first step

  ends_says : {A : Type 0} (P : A → Type 0) (said : A) → P said → Says P context (Forms.ends said)
  ends_says P said is = record { given = λ at y one e. let b = bind_ok (Steps.end_at at) (λ u. Ok said) y e in subst P (ok_is LineFault said y b.2) is }

  within_says : {A : Type 0} (P : A → Type 0) (content : List ℕ) (said : A) → (Steps.is_large content ≡ false → P said) → Says P context (Forms.ends_within content said)
  within_says P content said is = record {
    given = λ at y one e.
        let b = bind_ok (Forms.end_within_at content at) (λ u. Ok said) y e in
        let w = bind_ok (Steps.end_at at) (λ u. if Steps.is_large content then Err (Past Content) else Ok tt) b.0 b.1 in
        subst P (ok_is LineFault said y b.2) (is (large_or (Steps.is_large content) b.0 w.2));
  }

  short_says : {A : Type 0} (P : A → Type 0) (next : Form A) → Says P context next → Says P context (Forms.short next)
  short_says P next says = record { given = λ at y one e. let b = bind_ok (Steps.short_at at) (λ u. next context at) y e in says.given at y one b.2 }

  first_from : {A : Type 0} (P : A → Type 0) (next : Form A) → (context.closed ≡ false → Says P context next) → (b : Bool) → context.closed ≡ b
      → (at : Cursor) (y : A) → IsOneLine at.line → (if b then Err (Wrong (first_place at.line)) else next context at) ≡ Ok y → P y
  first_from P next says true is at y one e = absurd cc
  first_from P next says false is at y one e = (says is).given at y one e

  first_says : {A : Type 0} (P : A → Type 0) (next : Form A) → (context.closed ≡ false → Says P context next) → Says P context (Forms.first next)
  first_says P next says = record { given = first_from P next says context.closed refl }

  repo_then : {A : Type 0} (P : A → Type 0) (next : ℕ → Form A) → ((x : ℕ) → (IsRepo context) x → Says P context (next x)) → Says P context (Forms.repo next)
  repo_then P next others = record { given = behind (IsRepo context) P context (Steps.repo_at context) next (repo_gives context) others }

  target_then : {A : Type 0} (P : A → Type 0) (next : Topic → Form A) → ((x : Topic) → (IsTarget context) x → Says P context (next x)) → Says P context (Forms.target next)
  target_then P next others = record { given = behind (IsTarget context) P context (Steps.target_at context) next (target_gives context) others }

  name_then : {A : Type 0} (P : A → Type 0) (next : List ℕ → Form A) → ((x : List ℕ) → (IsNewName context) x → Says P context (next x)) → Says P context (Forms.new_name next)
  name_then P next others = record { given = behind (IsNewName context) P context (Steps.new_name_at context) next (new_name_gives context) others }

  id_then : {A : Type 0} (P : A → Type 0) (next : List ℕ → Form A) → ((x : List ℕ) → (IsNewId context) x → Says P context (next x)) → Says P context (Forms.new_id next)
  id_then P next others = record { given = behind (IsNewId context) P context (Steps.new_id_at context) next (new_id_gives context) others }

  level_then : {A : Type 0} (P : A → Type 0) (next : Level → Form A) → ((x : Level) → Anything x → Says P context (next x)) → Says P context (Forms.level next)
  level_then P next others = record { given = behind Anything P context Steps.level_at next level_gives others }

  call_then : {A : Type 0} (P : A → Type 0) (next : Call → Form A) → ((x : Call) → Anything x → Says P context (next x)) → Says P context (Forms.call next)
  call_then P next others = record { given = behind Anything P context Steps.call_at next call_gives others }

  path_then : {A : Type 0} (P : A → Type 0) (next : List ℕ → Form A) → ((x : List ℕ) → IsPath x → Says P context (next x)) → Says P context (Forms.path next)
  path_then P next others = record { given = behind IsPath P context Steps.path_at next path_gives others }

  tree_path_then : {A : Type 0} (P : A → Type 0) (next : List ℕ → Form A) → ((x : List ℕ) → (HasPath context) x → Says P context (next x)) → Says P context (Forms.tree_path next)
  tree_path_then P next others = record { given = behind (HasPath context) P context (Steps.tree_path_at context) next (tree_path_gives context) others }

  group_then : {A : Type 0} (P : A → Type 0) (next : List ℕ → Form A) → ((x : List ℕ) → IsGroup x → Says P context (next x)) → Says P context (Forms.group next)
  group_then P next others = record { given = behind IsGroup P context Steps.group_at next group_gives others }

  key_then : {A : Type 0} (P : A → Type 0) (next : NamedKey → Form A) → ((x : NamedKey) → (IsNamedKey context) x → Says P context (next x)) → Says P context (Forms.key next)
  key_then P next others = record { given = behind (IsNamedKey context) P context (Steps.key_at context) next (key_gives law context keys) others }

  content_then : {A : Type 0} (P : A → Type 0) (next : List ℕ → Form A) → ((x : List ℕ) → Anything x → Says P context (next x)) → Says P context (Forms.content next)
  content_then P next others = record { given = behind Anything P context Steps.content_at next content_gives others }

  file_then : {A : Type 0} (P : A → Type 0) (next : LogFile → Form A) → ((x : LogFile) → IsNamedFile x → Says P context (next x)) → Says P context (Forms.file next)
  file_then P next others = record { given = behind IsNamedFile P context Steps.file_at next (file_gives law context keys) others }

  log_file_then : {A : Type 0} (P : A → Type 0) (next : LogFile → Form A) → ((x : LogFile) → IsLogFile x → Says P context (next x)) → Says P context (Forms.log_file next)
  log_file_then P next others = record { given = behind IsLogFile P context (Steps.log_file_at context) next (log_file_gives law context keys) others }

  way_then : {A : Type 0} (P : A → Type 0) (next : JobKind → Form A) → ((x : JobKind) → Anything x → Says P context (next x)) → Says P context (Forms.way next)
  way_then P next others = record { given = behind Anything P context Steps.way_at next way_gives others }

  offset_then : {A : Type 0} (P : A → Type 0) (next : ℕ → Form A) → ((x : ℕ) → (UpTo greatest_offset) x → Says P context (next x)) → Says P context (Forms.offset next)
  offset_then P next others = record { given = behind_option (UpTo greatest_offset) P context Steps.offset_at next offset_gives others }

  version_then : {A : Type 0} (P : A → Type 0) (next : ℕ → Form A) → ((x : ℕ) → IsVersion x → Says P context (next x)) → Says P context (Forms.version next)
  version_then P next others = record { given = behind_option IsVersion P context Steps.version_at next version_gives others }

  locks_then : {A : Type 0} (P : A → Type 0) (next : Bool → Form A) → ((x : Bool) → Anything x → Says P context (next x)) → Says P context (Forms.locks next)
  locks_then P next others = record { given = behind_option Anything P context Steps.locks_at next locks_gives others }

  clock_then : {A : Type 0} (P : A → Type 0) (next : ℕ → Form A) → ((x : ℕ) → (UpTo greatest_offset) x → Says P context (next x)) → Says P context (Forms.clock next)
  clock_then P next others = record { given = behind_option (UpTo greatest_offset) P context Steps.clock_at next clock_gives others }

  turns_then : {A : Type 0} (P : A → Type 0) (next : ℕ → Form A) → ((x : ℕ) → Anything x → Says P context (next x)) → Says P context (Forms.turns next)
  turns_then P next others = record { given = behind_option Anything P context Steps.turns_at next turns_gives others }

  maybe_path_then : {A : Type 0} (P : A → Type 0) (next : Option (List ℕ) → Form A) → ((x : Option (List ℕ)) → IsPathIf x → Says P context (next x)) → Says P context (Forms.maybe_path next)
  maybe_path_then P next others = record { given = behind_option IsPathIf P context Steps.maybe_path_at next maybe_path_gives others }

  number_then : {A : Type 0} (P : A → Type 0) (greatest : ℕ) (next : ℕ → Form A) → ((n : ℕ) → n ≤ greatest → Says P context (next n)) → Says P context (Forms.number greatest next)
  number_then P greatest next others = record { given = behind (λ n. n ≤ greatest) P context (Steps.number_at greatest) next (number_gives greatest) others }

  other_then : {A : Type 0} (P : A → Type 0) (r : ℕ) → IsRepo context r → (next : ℕ → Form A) → ((o : ℕ) → AreTwo context r o → Says P context (next o)) → Says P context (Forms.other r next)
  other_then P r known next others = record { given = behind (AreTwo context r) P context (Steps.other_at context r) next (other_gives context r known) others }

  peer_then : {A : Type 0} (P : A → Type 0) (r : ℕ) → IsRepo context r → (next : Option ℕ → Form A) → ((p : Option ℕ) → IsPeer context r p → Says P context (next p)) → Says P context (Forms.maybe_from r next)
  peer_then P r known next others = record { given = behind (IsPeer context r) P context (Steps.from_at context r) next (from_gives context r known) others }

  to_then : {A : Type 0} (P : A → Type 0) (r : ℕ) → IsRepo context r → (next : ℕ → Form A) → ((p : ℕ) → AreTwo context r p → Says P context (next p)) → Says P context (Forms.to r next)
  to_then P r known next others = record { given = behind (AreTwo context r) P context (Steps.to_at context r) next (to_gives context r known) others }

  placed_then : {A : Type 0} (P : A → Type 0) (r : ℕ) (next : NamedKey → Form A) → ((k : NamedKey) → IsPlacedKey law context keys r k → Says P context (next k)) → Says P context (Forms.placed_key r next)
  placed_then P r next others = record { given = behind (IsPlacedKey law context keys r) P context (Steps.placed_key_at context r) next (placed_key_gives law context keys r) others }

  matching_then : {A : Type 0} (P : A → Type 0) (key : List ℕ) (next : List ℕ → Form A) → ((c : List ℕ) → MayBeContent key c → Says P context (next c)) → Says P context (Forms.matching_content key next)
  matching_then P key next others = record { given = behind (MayBeContent key) P context (Steps.matching_at key) next (matching_gives key) others }

  text_says : {A : Type 0} (P : A → Type 0) (said : List ℕ → A) → ((x : List ℕ) → IsLineText x → P (said x)) → Says P context (Forms.text said)
  text_says P said is = record { given = takes IsLineText P Steps.text_at said text_ends is }

  rest_says : {A : Type 0} (P : A → Type 0) (said : List ℕ → A) → ((x : List ℕ) → IsLineText x → P (said x)) → Says P context (Forms.rest said)
  rest_says P said is = record { given = takes IsLineText P Steps.rest_at said rest_ends is }

  glob_says : {A : Type 0} (P : A → Type 0) (said : List ℕ → A) → ((x : List ℕ) → IsLineText x → P (said x)) → Says P context (Forms.glob said)
  glob_says P said is = record { given = takes IsLineText P Steps.glob_at said glob_ends is }

  raw_says : {A : Type 0} (P : A → Type 0) (said : List ℕ → A) → ((x : List ℕ) → IsFullText x → P (said x)) → Says P context (Forms.raw_line said)
  raw_says P said is = record { given = takes IsFullText P Steps.full_rest_at said full_rest_ends is }

  groups_says : {A : Type 0} (P : A → Type 0) (said : List (List ℕ) → A) → ((x : List (List ℕ)) → Each IsGroup x → P (said x)) → Says P context (Forms.groups said)
  groups_says P said is = record { given = takes (λ gs. Each IsGroup gs) P Steps.groups_at said groups_ends is }

  -- ---- jobs

  abbrev JobStands : ℕ × Job → Type 0
  JobStands x = IsJob context x.0 x.1

  a_job : (kind : JobKind) (r : ℕ) (k : NamedKey) (p : Option ℕ) → IsRepo context r → IsNamedKey context k → IsPeer context r p → JobStands (r, Forms.a_job kind k p)
  a_job kind r k p known key peer = record { repo = known; key = key; peer = peer }

  job_says : (v : JobVerb) → Says JobStands context (Forms.job_row v).1
  job_says job_verbs.Drop = repo_then JobStands _ (λ r known. key_then JobStands _ (λ k key. peer_then JobStands r known _ (λ p peer. ends_says JobStands _ (a_job kinds.Drop r k p known key peer))))
  job_says job_verbs.Get = repo_then JobStands _ (λ r known. key_then JobStands _ (λ k key. peer_then JobStands r known _ (λ p peer. ends_says JobStands _ (a_job kinds.Get r k p known key peer))))
  job_says job_verbs.Copy = repo_then JobStands _ (λ r known. key_then JobStands _ (λ k key. to_then JobStands r known _ (λ p two. ends_says JobStands _ (a_job kinds.Copy r k (Some p) known key two))))
  job_says job_verbs.Move = repo_then JobStands _ (λ r known. key_then JobStands _ (λ k key. way_then JobStands _ (λ kind u. other_then JobStands r known _ (λ p two. ends_says JobStands _ (a_job kind r k (Some p) known key two)))))

  -- ---- lines that may stand in a block

  abbrev B : Agendum → Type 0
  B = StandsInBlock context

  runs_says : (form : Form (ℕ × Job)) → Says JobStands context form → Says B context (Forms.runs form)
  runs_says form says = record {
    given = λ at y one e.
        let b = bind_ok (form context at) (λ j. Ok (Forms.agendum j.0 (Runs j.1))) y e in
        subst B (ok_is LineFault (Forms.agendum b.0.0 (Runs b.0.1)) y b.2) (says.given at b.0 one b.1);
  }

  pub block_says : (v : BlockVerb) → Says B context (Forms.block_row v).1
  block_says (block_verbs.Job v) = runs_says (Forms.job_row v).1 (job_says v)
  block_says block_verbs.Crash =
      repo_then B _ (λ r known. clock_then B (λ c. Forms.ends (Forms.agendum r (Crashes c))) (λ c le. ends_says B (Forms.agendum r (Crashes c)) (known, le)))
  block_says block_verbs.Close = repo_then B _ (λ r known. other_then B r known _ (λ o two. ends_says B _ two))
  block_says block_verbs.Fail = repo_then B _ (λ r known. call_then B _ (λ c u. ends_says B _ known))

  abbrev P : Command → Type 0
  P = IsValidIn context

  alone_is : (r : ℕ) (l : BlockLine) → StandsAs context r l → P (Forms.outside_block r l)
  alone_is r (Runs job) is = is
  alone_is r (Crashes clock) is = is
  alone_is r (Closes other) is = is
  alone_is r (Fails call) is = is

  alone_says : (form : Form Agendum) → Says B context form → Says P context (Forms.stands_alone form)
  alone_says form says = record {
    given = λ at y one e.
        let b = bind_ok (form context at) (λ l. Ok (Forms.outside_block l.repo l.line)) y e in
        subst P (ok_is LineFault (Forms.outside_block b.0.repo b.0.line) y b.2) (alone_is b.0.repo b.0.line (says.given at b.0 one b.1));
  }

  -- ---- lines that show something

  abbrev S : Showing → Type 0
  S = IsValidShowing context

  show_says : (v : Show) → Says S context (Forms.show_row v).1
  show_says shows.Presence = key_then S _ (λ k key. ends_says S _ key)
  show_says shows.Claims = repo_then S _ (λ r known. key_then S _ (λ k key. ends_says S _ (known, key)))
  show_says shows.Location = repo_then S _ (λ r known. key_then S _ (λ k key. ends_says S _ (known, key)))
  show_says shows.Log = repo_then S _ (λ r known. file_then S _ (λ f is. ends_says S _ (known, is)))
  show_says shows.Logs = repo_then S _ (λ r known. ends_says S _ known)
  show_says shows.Numbers = repo_then S _ (λ r known. maybe_path_then S (λ o. Forms.ends (showings.Numbers r o)) (λ o is. ends_says S (showings.Numbers r o) (known, is)))
  show_says shows.Level = repo_then S _ (λ r known. repo_then S _ (λ t also. ends_says S _ (known, also)))
  show_says shows.Wants = repo_then S _ (λ r known. repo_then S _ (λ t also. tree_path_then S _ (λ p is. ends_says S _ (known, also, is))))
  show_says shows.Row = repo_then S _ (λ r known. key_then S _ (λ k key. ends_says S _ (known, key)))
  show_says shows.Plan = repo_then S _ (λ r known. ends_says S _ known)
  show_says shows.Totals = ends_says S _ tt
  show_says shows.Journal = ends_says S _ tt

  any_shown : (v : Show) → Says P context (λ context at. (Forms.show_row v).1 context at >>= λ what. Ok (Shows what))
  any_shown v = record {
    given = λ at y one e.
        let b = bind_ok ((Forms.show_row v).1 context at) (λ what. Ok (Shows what)) y e in
        subst P (ok_is LineFault (Shows b.0) y b.2) ((show_says v).given at b.0 one b.1);
  }

  any_show : Says P context Forms.show
  any_show = record {
    given = behind (λ v. Unit {0}) P context (Steps.saying_at Forms.show_named) (λ v context at. (Forms.show_row v).1 context at >>= λ what. Ok (Shows what))
        (saying_gives (λ v. Unit {0}) Forms.show_named (λ text v one e. tt)) (λ v u. any_shown v);
  }

  any_job : Says P context (Forms.job (λ r job. Does (Begin r job)))
  any_job = record {
    given = λ at y one e.
        let v = bind_ok (Steps.saying_at Forms.job_named at) (λ v. (Forms.job_row v.0).1 context v.1 >>= λ j. Ok (Does (Begin j.0 j.1))) y e in
        let given = saying_gives (λ v. Unit {0}) Forms.job_named (λ text v one e. tt) at v.0 one v.1 in
        let j = bind_ok ((Forms.job_row v.0.0).1 context v.0.1) (λ j. Ok (Does (Begin j.0 j.1))) y v.2 in
        subst P (ok_is LineFault (Does (Begin j.0.0 j.0.1)) y j.2) ((job_says v.0.0).given v.0.1 j.0 (subst IsOneLine (sym given.1) one) j.1);
  }

  -- ---- all lines

  number_says : (kind : LogKind) → ((n : ℕ) → n ≤ 999999999 → IsSetting context kind topics.Whole (values.Number n)) → Says P context (Forms.number_setting kind)
  number_says kind is = repo_then P _ (λ r known. number_then P 999999999 _ (λ n le. ends_says P _ (known, is n le)))

  by_path_says : (kind : LogKind) → ((n : ℕ) (glob : List ℕ) → n ≤ 999999999 → IsLineText glob → IsSetting context kind (topics.Pattern glob) (values.Number n)) → Says P context (Forms.number_by_path kind)
  by_path_says kind is = repo_then P _ (λ r known. number_then P 999999999 _ (λ n le. glob_says P _ (λ x text. (known, is n x le text))))

  text_setting_says : (kind : LogKind) → ((t : Topic) (text : List ℕ) → IsTarget context t → IsLineText text → IsSetting context kind t (values.Text text)) → Says P context (Forms.text_setting kind)
  text_setting_says kind is = repo_then P _ (λ r known. target_then P _ (λ t also. text_says P _ (λ x text. (known, is t x also text))))

  pub row_says : (v : Verb) → Says P context (Forms.row v).1
  row_says verbs.Repo = first_says P _ (λ front. name_then P _ (λ name n. id_then P _ (λ id i. offset_then P _ (λ o le. version_then P _ (λ v known. locks_then P _ (λ l u.
      ends_says P (Repo name id o v l) (record { first = front; good_name = n.good; new_name = n.new; good_id = i.good; new_id = i.new }, le, known.0, known.1)))))))
  row_says verbs.Numcopies = number_says log_kinds.Numcopies (λ n le. (tt, le))
  row_says verbs.Mincopies = number_says log_kinds.Mincopies (λ n le. (tt, le))
  row_says verbs.NumcopiesFor = by_path_says log_kinds.NumcopiesPath (λ n glob le is. (is, le))
  row_says verbs.MincopiesFor = by_path_says log_kinds.MincopiesPath (λ n glob le is. (is, le))
  row_says verbs.Trust = repo_then P _ (λ r known. target_then P _ (λ t also. level_then P _ (λ l u. ends_says P _ (known, (also, tt)))))
  row_says verbs.Describe = text_setting_says log_kinds.Uuid (λ t text also is. (also, is))
  row_says verbs.Wanted = text_setting_says log_kinds.Preferred (λ t text also is. (also, is))
  row_says verbs.Required = text_setting_says log_kinds.Required (λ t text also is. (also, is))
  row_says verbs.Group = repo_then P _ (λ r known. target_then P _ (λ t also. groups_says P _ (λ x is. (known, (also, is)))))
  row_says verbs.GroupWanted = repo_then P _ (λ r known. short_says P _ (group_then P _ (λ g is. rest_says P _ (λ x text. (known, (is, text))))))
  row_says verbs.Log = repo_then P _ (λ r known. log_file_then P _ (λ f is. raw_says P _ (λ x full. (known, is, full.text, full.full))))
  row_says verbs.Have = repo_then P _ (λ r known. key_then P _ (λ k key. matching_then P k.key _ (λ c may.
      within_says P c _ (λ small. (known, key.text, matches k.key c (content_is k.key c small may), small_is c small)))))
  row_says verbs.Part = repo_then P _ (λ r known. key_then P _ (λ k key. content_then P _ (λ c u. within_says P c _ (λ small. (known, key.text, small_is c small)))))
  row_says verbs.Damage = repo_then P _ (λ r known. placed_then P r _ (λ k key. content_then P _ (λ c u. within_says P c _ (λ small. (known, key.named.text, key.placed, small_is c small)))))
  row_says verbs.Add = repo_then P _ (λ r known. path_then P _ (λ p is. content_then P _ (λ c u. within_says P c _ (λ small. (known, is, refl, small_is c small)))))
  row_says verbs.File = path_then P _ (λ p is. key_then P _ (λ k key. ends_says P _ (is, key.text)))
  row_says (verbs.InBlock v) = alone_says (Forms.block_row v).1 (block_says v)
  row_says verbs.Begin = any_job
  row_says verbs.Turn = repo_then P _ (λ r known. turns_then P (λ n. Forms.ends (Does (Turns r n))) (λ n u. ends_says P (Does (Turns r n)) known))
  row_says verbs.Settle = ends_says P _ tt
  row_says verbs.Merge = repo_then P _ (λ r known. other_then P r known _ (λ o two. ends_says P _ two))
  row_says verbs.Compact = repo_then P _ (λ r known. ends_says P _ known)
  row_says verbs.Sync = repo_then P _ (λ r known. ends_says P _ known)
  row_says verbs.Wait = number_then P 18446744073709551615 _ (λ n le. ends_says P _ tt)
  row_says verbs.Show = any_show
