-- The files of branches: their paths are those of logs, and their lines are sets of lines. So what the script writes, merges and
-- compacts may come.
use Rattle.std.proofs.Common.{◌≡◌, ℕ, ◌<◌, Bool, true, false, List, [], ◌∷◌, ◌++◌, Option, Some, None, ◌⊎◌, inl, inr, refl, sym, ap, ◌∙◌, subst, ◌≢◌}
use Rattle.std.specs.Prelude.{cond, if◌then◌else◌, not, filter, length, bytes_eq}
use Rattle.std.specs.BTreeMap.{is_at}
use Rattle.std.specs.Cmp.{Equal-is}
use Rattle.std.specs.List.{list_any}
use Rattle.std.specs.Ordering.{match_ordering}
use Rattle.std.specs.declared.cmp.Ordering.{Ordering}
use Rattle.std.specs.declared.cmp.Ordering.TheVariants.{Less, Equal, Greater}
use Rattle.std.proofs.lemmas.List.Kept.{IsStrictlySortedBy-filter}
use Rattle.annex_base.specs.ByteOrder.{text_cmp}
use Rattle.annex_base.specs.Lists.{Each, Member}
use Rattle.annex_base.specs.declared.kinds.Call.TheVariants as calls
use Rattle.annex_base.specs.declared.kinds.Word.{Word}
use Rattle.annex_base.proofs.Conditions.{bytes_eq-refl}
use Rattle.annex_base.proofs.Lists.{Each-filter, Each-from_members, Each-left, list_any_member}
use Rattle.annex_base.proofs.TextOrder.{order_cons, order_nil, same_text}
use Rattle.annex_key.specs.KeyText.{IsKeyText}
use Rattle.log_lines.specs.declared.entry.LogKind.{LogKind}
use Rattle.log_lines.specs.declared.entry.LogKind.TheVariants as logkinds
use Rattle.log_lines.specs.declared.entry.Topic.TheVariants as topics
use Rattle.log_lines.specs.LineText.{line_text}
use Rattle.log_lines.specs.Newest.{newest_stamp, next_stamp}
use Rattle.union_merge.specs.Branch.{Files, file_at, lines_at, or_none, with_file}
use Rattle.union_merge.specs.LineSet.{IsLine, IsLineSet, union}
use Rattle.run_data.specs.declared.entry.Entry.{Entry}
use Rattle.run_data.specs.declared.entry.EntryKind.{EntryKind}
use Rattle.run_data.specs.declared.entry.EntryKind.TheVariants as kinds
use Rattle.run_data.specs.declared.entry.FrameView.{FrameView}
use Rattle.run_data.specs.declared.entry.FrameText.{FrameText}
use Rattle.run_data.specs.declared.entry.LogFile.{LogFile}
use Rattle.run_data.specs.declared.entry.LogFile.TheVariants.{Location}
use Rattle.run_data.specs.declared.run.RepoView.{RepoView}
use Rattle.run_data.specs.Files.{HasPath, file_of, file_path, kind_of}
use Rattle.run_data.specs.Repos.{id_of}
use Rattle.p2p_wire.specs.declared.message.Message.{Message}
use Rattle.node_model.specs.AnyTime.{MayCome}
use Rattle.node_model.specs.Files.{compact_lines}
use Rattle.node_model.specs.Found.{IsJobEntry, IsSessionEntry, StepFound}
use Rattle.node_model.specs.JobStep.{Turn, turn_of}
use Rattle.node_model.specs.Look.{Look, Effect}
use Rattle.node_model.specs.OwedLines.{OwedLine, due, if_new, stamp_at, status, status_line}
use Rattle.node_model.specs.SessionStep.{Here, here}
use Rattle.node_model.specs.Ends.{server_end}
use Rattle.node_model.specs.Sessions.{Doing}
use Rattle.node_model.specs.SetUp.{SetUp}
use Rattle.run_model.specs.Logs.{branch, branch_after, compact_file, lines_of_file}
use Rattle.run_model.specs.Past.{is_of, now}
use Rattle.run_model.specs.Run.{ComesAnyTime, IsStep, MayBe, OwnPart, RunPast, RunStep, TimeIs}
use Rattle.run_model.specs.States.{owes, state_of}
use Rattle.driver_model.specs.Driver.{Driver, DriverInput, fails_at, notes}
use Rattle.driver_model.specs.ScriptSteps.{compacts, compacts_files, faults, is_nil, lines_of, logs, logs_some, logs_status, merges, merges_files, news, shrinks, unknown_lines, wall_of, writes}
use Rattle.driver_model.specs.Logged.{LogsWell}
use Rattle.driver_model.specs.Scripts.{HasBoundedPast}
use Rattle.driver_model.specs.Sound.{IsSound}
use Rattle.driver_model.proofs.Holding.{Keeps, steps_on}
use Rattle.driver_model.proofs.Premises.{Laws}
use Rattle.driver_model.proofs.Scripted.{keeps_calling, keeps_faults, keeps_notes}
use Rattle.driver_model.proofs.WrittenLines.{written_line}
use Rattle.std.proofs.lemmas.Bool.{ltb-true}

-- ---- sets of lines

empty_set : IsLineSet []
empty_set = record { sorted = order_nil; each = tt }

one_set : (line : List ℕ) → IsLine line → IsLineSet (line ∷ [])
one_set line is = record { sorted = order_cons line [] tt order_nil; each = (is, tt) }

filter_set : (q : List ℕ → Bool) (xs : List (List ℕ)) → IsLineSet xs → IsLineSet (filter q xs)
filter_set q xs x = record { sorted = IsStrictlySortedBy-filter text_cmp q xs x.sorted; each = Each-filter IsLine q xs x.each }

pub compact_set : (kind : Option LogKind) (lines : List (List ℕ)) → IsLineSet lines → IsLineSet (compact_lines kind lines)
compact_set None lines is = is
compact_set (Some kind) lines is = filter_set _ lines is

-- ---- the status lines

plain_status : (there : Bool) (id : List ℕ) (stamp : ℕ) → IsLine (line_text logkinds.Location (record { topic = topics.Repo id; stamp = Some stamp; value = status there }))
plain_status true id stamp = written_line logkinds.Location (topics.Repo id) stamp (status true) tt tt
plain_status false id stamp = written_line logkinds.Location (topics.Repo id) stamp (status false) tt tt

status_set : (has : List (List ℕ)) (id : List ℕ) (there : Bool) (clock : ℕ) → IsLineSet (if_new has (status_line has id there clock))
status_set has id there clock = go (list_any (λ old. bytes_eq old (status_line has id there clock)) has)
  where
    go : (b : Bool) → IsLineSet (if b then [] else status_line has id there clock ∷ [])
    go true = empty_set
    go false = one_set (status_line has id there clock) (plain_status there id (next_stamp (newest_stamp logkinds.Location has (topics.Repo id)) (stamp_at clock)))

status_new : (has : List (List ℕ)) (line : List ℕ) → Each (λ x. ¬ Member x has) (if_new has line)
status_new has line = go (list_any (λ old. bytes_eq old line) has) refl
  where
    go : (b : Bool) → list_any (λ old. bytes_eq old line) has ≡ b → Each (λ x. ¬ Member x has) (if b then [] else line ∷ [])
    go true i = tt
    go false i = ((λ m. let no' : true ≡ false = sym (list_any_member (λ old. bytes_eq old line) has line m (bytes_eq-refl line)) ∙ i in absurd (cc)), tt)

-- ---- lines are logged

-- lines that may be logged
pub record MayWrite (d : Driver) (r : ℕ) (file : LogFile) (lines : List (List ℕ)) : Type 0 where
  pub path : HasPath file
  pub known : kind_of file ≢ None
  pub set : IsLineSet lines
  pub new : Each (λ line. ¬ Member line (lines_of_file d.past r (file_path file))) lines

module _ (laws : Laws) (g : DriverInput) where
  pub keeps_noted : (d : Driver) (r : ℕ) (file : LogFile) (lines : List (List ℕ)) → r < length g.repos → MayWrite d r file lines → Keeps g d → Keeps g (notes r (kinds.Log file) lines d)
  keeps_noted d r file lines known x k = keeps_notes laws g d r (kinds.Log file) lines known (λ h small. (record { path = x.path; known = x.known; set = x.set; new = x.new }, refl)) k

  pub keeps_logs : (d : Driver) (r : ℕ) (file : LogFile) (lines : List (List ℕ)) → r < length g.repos → MayWrite d r file lines → Keeps g d → Keeps g (logs r file lines d)
  keeps_logs d r file lines known x k = keeps_calling laws g d r calls.PutFile (notes r (kinds.Log file) lines d) known refl k (λ i. keeps_noted d r file lines known x k)

  pub keeps_some : (d : Driver) (r : ℕ) (file : LogFile) (lines : List (List ℕ)) → r < length g.repos → MayWrite d r file lines → Keeps g d → Keeps g (logs_some r file lines d)
  keeps_some d r file [] known x k = k
  keeps_some d r file (line ∷ lines) known x k = keeps_logs d r file (line ∷ lines) known x k

  unknown_may : (d : Driver) (r : ℕ) (file : LogFile) (lines : List (List ℕ)) → HasPath file → kind_of file ≢ None → IsLineSet lines → MayWrite d r file (unknown_lines d r file lines)
  unknown_may d r file lines path known set = record {
    path = path;
    known = known;
    set = laws.differs lines (lines_of d r file) set;
    new = Each-from_members (λ line. ¬ Member line (lines_of d r file)) (unknown_lines d r file lines) (λ line m. ((laws.lacking lines (lines_of d r file) line).0 m).1);
  }

  pub keeps_writes : (d : Driver) (r : ℕ) (file : LogFile) (line : List ℕ) → r < length g.repos → HasPath file → kind_of file ≢ None → IsLine line → Keeps g d → Keeps g (writes r file line d)
  keeps_writes d r file line known path kind is k = keeps_some d r file (unknown_lines d r file (line ∷ [])) known (unknown_may d r file (line ∷ []) path kind (one_set line is)) k

  pub keeps_status : (d : Driver) (r : ℕ) (key : List ℕ) → IsKeyText key → r < length g.repos → Keeps g d → Keeps g (logs_status g r key d)
  keeps_status d r key text known k = keeps_logs d r (Location key) (if_new has (status_line has (id_of g.repos r) true (wall_of g d r))) known
      (record { path = text; known = λ e. absurd (cc); set = status_set has (id_of g.repos r) true (wall_of g d r); new = status_new has (status_line has (id_of g.repos r) true (wall_of g d r)) }) k
    where
      has : List (List ℕ)
      has = lines_of d r (Location key)

-- ---- the files of branches

abbrev pub File : Type 0
File = List ℕ × List (List ℕ)

-- the path is that of a log
abbrev pub PathWell : List ℕ → Type 0
PathWell path = HasPath (file_of path) × (kind_of (file_of path) ≢ None)

abbrev pub FileWell : File → Type 0
FileWell f = PathWell f.0 × IsLineSet f.1

with_each : (path : List ℕ) (lines : List (List ℕ)) (files : Files) → PathWell path → IsLineSet lines → Each FileWell files → Each FileWell (with_file files path lines)
with_each path lines [] well set all = ((well, set), tt)
with_each path lines (f ∷ files) well set all = go (text_cmp path f.0) (with_each path lines files well set all.1)
  where
    go : (o : Ordering) → Each FileWell (with_file files path lines) → Each FileWell (match_ordering o ((path, lines) ∷ f ∷ files) ((f.0, lines) ∷ files) (f ∷ with_file files path lines))
    go Less more = ((well, set), all)
    go Equal more = ((all.0.0, set), all.1)
    go Greater more = (all.0, more)

lines_set : (path : List ℕ) (files : Files) → Each FileWell files → IsLineSet (lines_at files path)
lines_set path [] all = empty_set
lines_set path (f ∷ files) all = go (is_at (text_cmp path) f.0) (lines_set path files all.1)
  where
    go : (b : Bool) → IsLineSet (lines_at files path) → IsLineSet (or_none (cond b (Some f.1) (file_at files path)))
    go true more = all.0.1
    go false more = more

-- a file that is there has the path of a log
path_there : (path : List ℕ) (lines : List (List ℕ)) (files : Files) → Each FileWell files → file_at files path ≡ Some lines → PathWell path
path_there path lines [] all e = absurd (cc)
path_there path lines (f ∷ files) all e = go (path_there path lines files all.1) (is_at (text_cmp path) f.0) refl e
  where
    go : (file_at files path ≡ Some lines → PathWell path) → (b : Bool) → is_at (text_cmp path) f.0 ≡ b → cond b (Some f.1) (file_at files path) ≡ Some lines → PathWell path
    go more true i e = subst PathWell (sym (same_text path f.0 ((Equal-is (text_cmp path f.0)).0 i))) all.0.0
    go more false i e = more e

module _ (laws : Laws) where
  file_well : (file : LogFile) → HasPath file → kind_of file ≢ None → PathWell (file_path file)
  file_well file path known = subst (λ (f : LogFile). HasPath f × (kind_of f ≢ None)) (sym (laws.file_again file path known)) (path, known)

  branch_well : (kind : EntryKind) (lines : List (List ℕ)) (was : Files) → LogsWell kind lines → Each FileWell was → Each FileWell (branch_after was kind lines)
  branch_well (kinds.Log file) lines was x all =
      with_each (file_path file) (union (lines_at was (file_path file)) lines) was (file_well file x.0 x.1) (laws.unions (lines_at was (file_path file)) lines (lines_set (file_path file) was all) x.2) all
  branch_well (kinds.Compact file) lines was x all = go (file_at was (file_path file)) refl
    where
      go : (o : Option (List (List ℕ))) → file_at was (file_path file) ≡ o → Each FileWell (compact_file file was o)
      go None i = all
      go (Some lines) i = with_each (file_path file) (compact_lines (kind_of file) lines) was (path_there (file_path file) lines was all i)
          (compact_set (kind_of file) lines (subst IsLineSet (ap or_none i) (lines_set (file_path file) was all))) all
  branch_well kind lines was x all = all

  -- ---- the entries of a run log well

  module _ (s : SetUp) (past : List Entry) (keys : Each (λ o. IsKeyText o.key) (state_of s past).owed) where
    session_log : (h : Here) (was : Doing) (asked : Option Message) (says : List FrameText) (lines : List (List ℕ)) (kind : EntryKind) → IsSessionEntry h was asked says kind → LogsWell kind lines
    session_log h was asked says lines (kinds.Log file) x = absurd x
    session_log h was asked says lines kind x = tt

    job_log : (t : Turn) (m : Effect) (lines : List (List ℕ)) (kind : EntryKind) → IsJobEntry t m kind → LogsWell kind lines
    job_log t m lines (kinds.Log file) x = absurd x
    job_log t m lines kind x = tt

    come_log : (lines : List (List ℕ)) (sent : List FrameView) (kind : EntryKind) → MayCome s (state_of s past) lines sent kind → LogsWell kind lines
    come_log lines sent (kinds.Log file) x = (x.0.path, x.0.known, x.0.set)
    come_log lines sent kind x = tt

    owed_log : (o : OwedLine) (os : List OwedLine) (clock : ℕ) → (state_of s past).owed ≡ o ∷ os → LogsWell (kinds.Log (Location o.key)) (due s.repos (state_of s past).lines clock o)
    owed_log o os clock is = ((subst (Each (λ o. IsKeyText o.key)) is keys).0, (λ e. absurd (cc)), status_set _ (id_of s.repos o.repo) o.there clock)

    step_log : (k : Look) (m : Effect) → StepFound s (state_of s past) k m → LogsWell m.kind m.lines
    step_log k m (inl x) = elim (x.writes) [
      | inl y ↦ subst (λ (z : Effect). LogsWell z.kind z.lines) (sym y) (owed_log x.first x.rest ((state_of s past).wall k.time) x.owes_it)
      | inr y ↦ subst (λ (z : Effect). LogsWell z.kind z.lines) (sym y) tt
    ]
    step_log k m (inr (inl x)) = session_log (here s (state_of s past) k (server_end x.peer x.slot)) ((state_of s past).sessions (server_end x.peer x.slot)).doing x.asked x.says m.lines m.kind x.found
    step_log k m (inr (inr x)) = job_log (turn_of s (state_of s past) k x.w) m m.lines m.kind x.found

    own_log : (words : ℕ → Option Word) (e : Entry) → OwnPart s past words e → LogsWell e.kind e.lines
    own_log words e own = go own.does
      where
        go : IsStep s past words e ⊎ ComesAnyTime s past e → LogsWell e.kind e.lines
        go (inl x) = subst (λ (z : Entry). LogsWell z.kind z.lines) (sym x.is) (step_log x.look x.made (laws.entries.finds s (state_of s past) x.look x.made x.makes))
        go (inr x) = come_log e.lines e.sent e.kind x.may

wait_log : (before : ℕ) (e : Entry) (kind : EntryKind) (lines : List (List ℕ)) → TimeIs before e kind None → LogsWell kind lines
wait_log before e (kinds.Wait ms) lines x = tt
wait_log before e kind lines x = absurd x

-- ---- the branches of a run

abbrev pub set_ups : List RepoView → (ℕ → ℕ → List (List ℕ)) → ℕ → SetUp
set_ups repos P r = record { number = r; repos = repos; paths = P r }

-- the keys of the lines that are owed are keys
abbrev pub OwedKeys : Type 0
OwedKeys = (repos : List RepoView) (P : ℕ → ℕ → List (List ℕ)) (past : List Entry) → RunPast (set_ups repos P) past → (r : ℕ) → Each (λ o. IsKeyText o.key) (owes repos past r)

module _ (laws : Laws) (keys : OwedKeys) (repos : List RepoView) (P : ℕ → ℕ → List (List ℕ)) where
  entry_log : (past : List Entry) (e : Entry) → RunPast (set_ups repos P) past → RunStep (set_ups repos P) past e → LogsWell e.kind e.lines
  entry_log past e run x = go e.repo x.order.time_is x.may
    where
      go : (o : Option ℕ) → TimeIs (now past) e e.kind o → MayBe (set_ups repos P) past e o → LogsWell e.kind e.lines
      go None t m = wait_log (now past) e e.kind e.lines t
      go (Some r) t m = own_log laws (set_ups repos P r) past (keys repos P past run r) m.0 e m.1

  -- each entry of a run
  pub all_log : (past : List Entry) → RunPast (set_ups repos P) past → Each (λ (e : Entry). LogsWell e.kind e.lines) past
  all_log [] run = tt
  all_log (e ∷ past) run = (entry_log past e run.1 run.0, all_log past run.1)

  -- the files of all branches are well
  branches_well : (past : List Entry) → RunPast (set_ups repos P) past → (r : ℕ) → Each FileWell (branch past r)
  branches_well [] run r = tt
  branches_well (e ∷ past) run r = go (branches_well past run.1 r) (is_of r e)
    where
      go : Each FileWell (branch past r) → (b : Bool) → Each FileWell (if b then branch_after (branch past r) e.kind e.lines else branch past r)
      go all true = branch_well laws e.kind e.lines (branch past r) (entry_log past e run.1 run.0) all
      go all false = all

-- ---- merges and compactions

fits_files : (g : DriverInput) (r : ℕ) (files : Files) (d : Driver) → HasBoundedPast (merges_files r files d) → HasBoundedPast d
fits_files g r [] d fits = fits
fits_files g r (f ∷ files) d fits = go (fits_files g r files) (is_nil (news d r f.0 f.1)) (fails_at d r calls.PutFile) fits
  where
    go : ((d : Driver) → HasBoundedPast (merges_files r files d) → HasBoundedPast d) → (b c : Bool)
        → HasBoundedPast (if b then merges_files r files d else (if c then faults r calls.PutFile d else merges_files r files (notes r (kinds.Log (file_of f.0)) (news d r f.0 f.1) d))) → HasBoundedPast d
    go more true c x = more d x
    go more false true x = (x.0.1, x.1)
    go more false false x = let y = more (notes r (kinds.Log (file_of f.0)) (news d r f.0 f.1) d) x in (y.0.1, y.1)

module _ (laws : Laws) (g : DriverInput) (r : ℕ) (known : r < length g.repos) where
  keeps_files : (files : Files) (d : Driver) → Each FileWell files → Keeps g d → Keeps g (merges_files r files d)
  keeps_files [] d all k = k
  keeps_files (f ∷ files) d all k = go (keeps_files files) (is_nil (news d r f.0 f.1)) (fails_at d r calls.PutFile)
    where
      may : MayWrite d r (file_of f.0) (news d r f.0 f.1)
      may = unknown_may laws g d r (file_of f.0) f.1 all.0.0.0 all.0.0.1 all.0.1

      go : ((d : Driver) → Each FileWell files → Keeps g d → Keeps g (merges_files r files d)) → (b c : Bool)
          → Keeps g (if b then merges_files r files d else (if c then faults r calls.PutFile d else merges_files r files (notes r (kinds.Log (file_of f.0)) (news d r f.0 f.1) d)))
      go more true c = more d all.1 k
      go more false true = keeps_faults laws g d r calls.PutFile known refl k
      go more false false = more (notes r (kinds.Log (file_of f.0)) (news d r f.0 f.1) d) all.1 (keeps_noted laws g d r (file_of f.0) (news d r f.0 f.1) known may k)

  pub keeps_merges : OwedKeys → (d : Driver) (other : ℕ) → Keeps g d → Keeps g (merges r other d)
  keeps_merges keys d other k fits =
      let h = k (fits_files g r (branch d.past other) d fits) in
      keeps_files (branch d.past other) d (branches_well laws keys g.repos _ d.past (steps_on g d.tree d.marks d.past h.run) other) k fits

  -- so does a merge that has gone over the first of them
  pub keeps_merge_start : OwedKeys → (d : Driver) (other : ℕ) (done left : Files) → branch d.past other ≡ done ++ left → IsSound g d → Keeps g (merges_files r done d)
  keeps_merge_start keys d other done left is h =
      let all = branches_well laws keys g.repos _ d.past (steps_on g d.tree d.marks d.past h.run) other in
      keeps_files done d (Each-left FileWell done left (subst (Each FileWell) is all)) (λ f. h)

  pub keeps_compacted : (files : Files) (d : Driver) → Keeps g d → Keeps g (compacts_files r files d)
  keeps_compacted [] d k = k
  keeps_compacted (f ∷ files) d k = go (keeps_compacted files) (shrinks d r (file_of f.0)) refl (fails_at d r calls.PutFile)
    where
      go : ((d : Driver) → Keeps g d → Keeps g (compacts_files r files d)) → (b : Bool) → shrinks d r (file_of f.0) ≡ b → (c : Bool)
          → Keeps g (if not b then compacts_files r files d else (if c then faults r calls.PutFile d else compacts_files r files (notes r (kinds.Compact (file_of f.0)) [] d)))
      go more false i c = more d k
      go more true i true = keeps_faults laws g d r calls.PutFile known refl k
      go more true i false = more (notes r (kinds.Compact (file_of f.0)) [] d)
          (keeps_notes laws g d r (kinds.Compact (file_of f.0)) [] known (λ h small. (record { shrinks = ltb-true (length (compact_lines (kind_of (file_of f.0)) (lines_of d r (file_of f.0)))) (length (lines_of d r (file_of f.0))) i }, refl, refl)) k)

  pub keeps_compacts : (d : Driver) → Keeps g d → Keeps g (compacts r d)
  keeps_compacts d k = keeps_compacted (branch d.past r) d k
