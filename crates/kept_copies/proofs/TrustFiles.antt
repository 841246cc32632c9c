-- Files that are no trust logs: where no entry writes into one, no branch has one, and a step of a repository writes into none.
use Rattle.std.proofs.Common.{◌≡◌, ◌≢◌, ℕ, Bool, true, false, List, [], ◌∷◌, Option, Some, None, ◌⊎◌, inl, inr, refl, sym, subst}
use Rattle.std.specs.Prelude.{bytes_eq, cond, if◌then◌else◌}
use Rattle.std.specs.BTreeMap.{is_at}
use Rattle.std.specs.Cmp.{Equal-is}
use Rattle.std.specs.Ordering.{match_ordering}
use Rattle.std.specs.declared.cmp.Ordering.{Ordering}
use Rattle.std.specs.declared.cmp.Ordering.TheVariants.{Less, Equal, Greater}
use Rattle.std.proofs.lemmas.Bool.{true≢false}
use Rattle.annex_base.specs.ByteOrder.{text_cmp}
use Rattle.annex_base.specs.Lists.{Each}
use Rattle.annex_base.proofs.Conditions.{bytes_eq_tells}
use Rattle.annex_base.proofs.TextOrder.{same_text}
use Rattle.log_lines.specs.declared.entry.LogKind.{LogKind}
use Rattle.log_lines.specs.declared.entry.LogKind.TheVariants as logkinds
use Rattle.log_lines.specs.Files.{file_name}
use Rattle.union_merge.specs.Branch.{Files, file_at, lines_at, with_file}
use Rattle.union_merge.specs.LineSet.{union}
use Rattle.p2p_wire.specs.declared.message.Message.{Message}
use Rattle.run_data.specs.declared.entry.Entry.{Entry}
use Rattle.run_data.specs.declared.entry.EntryKind.{EntryKind}
use Rattle.run_data.specs.declared.entry.EntryKind.TheVariants as kinds
use Rattle.run_data.specs.declared.entry.FrameText.{FrameText}
use Rattle.run_data.specs.declared.entry.LogFile.{LogFile}
use Rattle.run_data.specs.declared.entry.LogFile.TheVariants.{Location, Of, Other}
use Rattle.run_data.specs.Files.{file_of, file_path, kind_of}
use Rattle.node_model.specs.Ends.{server_end}
use Rattle.node_model.specs.Files.{compact_lines}
use Rattle.node_model.specs.Found.{IsJobEntry, IsSessionEntry, StepFound}
use Rattle.node_model.specs.JobStep.{Turn, turn_of}
use Rattle.node_model.specs.Look.{Look, Effect}
use Rattle.node_model.specs.SessionStep.{Here, here}
use Rattle.node_model.specs.Sessions.{Doing}
use Rattle.node_model.specs.SetUp.{SetUp}
use Rattle.node_model.specs.State.{State}
use Rattle.node_model.specs.Step.{step}
use Rattle.run_model.specs.Logs.{branch, branch_after, compact_file}
use Rattle.run_model.specs.Past.{is_of}
use Rattle.kept_copies.specs.Scripts.{is_trust_log}
use Rattle.kept_copies.specs.Trusting.{trust_path}

-- the laws of steps and files, as the lemmas take them
pub record FileLaws : Type 0 where
  pub finds : (s : SetUp) (st : State) (k : Look) (m : Effect) → step s st k ≡ Some m → StepFound s st k m
  pub again : (path : List ℕ) → file_path (file_of path) ≡ path
  pub told : (file other : LogFile) (kind : LogKind) → file_path file ≡ file_path other → kind_of other ≡ Some kind → (kind_of file ≡ Some kind) ⊎ (kind_of file ≡ None)

-- ---- paths

-- the path isn't that of a trust log
abbrev pub IsApart : List ℕ → Type 0
IsApart path = bytes_eq path trust_path ≡ false

kind_apart : (kind : LogKind) → is_trust_log (Of kind) ≡ false → IsApart (file_name kind)
kind_apart logkinds.Trust h = absurd (true≢false h)
kind_apart logkinds.Location h = refl
kind_apart logkinds.Uuid h = refl
kind_apart logkinds.Group h = refl
kind_apart logkinds.Preferred h = refl
kind_apart logkinds.Required h = refl
kind_apart logkinds.GroupPreferred h = refl
kind_apart logkinds.Numcopies h = refl
kind_apart logkinds.Mincopies h = refl
kind_apart logkinds.NumcopiesPath h = refl
kind_apart logkinds.MincopiesPath h = refl

pub location_apart : FileLaws → (key : List ℕ) → IsApart (file_path (Location key))
location_apart laws key = elim (bytes_eq_tells (file_path (Location key)) trust_path) [
  | inl same ↦ absurd (not_both (laws.told (Location key) (Of logkinds.Trust) logkinds.Trust same.1 refl))
  | inr other ↦ other.0
]
  where
    not_both : (Some logkinds.Location ≡ Some logkinds.Trust) ⊎ (Some logkinds.Location ≡ None) → ⊥
    not_both (inl e) = cc
    not_both (inr e) = cc

-- a file of a known kind that is no trust log
pub file_apart : FileLaws → (file : LogFile) → is_trust_log file ≡ false → kind_of file ≢ None → IsApart (file_path file)
file_apart laws (Location key) h known = location_apart laws key
file_apart laws (Of kind) h known = kind_apart kind h
file_apart laws (Other name) h known = absurd (known refl)

-- ---- entries

-- the entry writes into a trust log
abbrev pub logs_trust : EntryKind → Bool
logs_trust (kinds.Log file) = bytes_eq (file_path file) trust_path
logs_trust kind = false

-- none of these does
abbrev pub LogNoTrust : List Entry → Type 0
LogNoTrust past = Each (λ e. logs_trust e.kind ≡ false) past

session_logs : (h : Here) (was : Doing) (asked : Option Message) (says : List FrameText) (kind : EntryKind) → IsSessionEntry h was asked says kind → logs_trust kind ≡ false
session_logs h was asked says (kinds.Log file) x = absurd x
session_logs h was asked says kind x = refl

job_logs : (t : Turn) (m : Effect) (kind : EntryKind) → IsJobEntry t m kind → logs_trust kind ≡ false
job_logs t m (kinds.Log file) x = absurd x
job_logs t m kind x = refl

-- a step of a repository writes into location logs alone
pub step_logs : FileLaws → (s : SetUp) (st : State) (k : Look) (m : Effect) → StepFound s st k m → logs_trust m.kind ≡ false
step_logs laws s st k m (inl x) = elim (x.writes) [
  | inl y ↦ subst (λ (z : Effect). logs_trust z.kind ≡ false) (sym y) (location_apart laws x.first.key)
  | inr y ↦ subst (λ (z : Effect). logs_trust z.kind ≡ false) (sym y) refl
]
step_logs laws s st k m (inr (inl x)) = session_logs (here s st k (server_end x.peer x.slot)) (st.sessions (server_end x.peer x.slot)).doing x.asked x.says m.kind x.found
step_logs laws s st k m (inr (inr x)) = job_logs (turn_of s st k x.w) m m.kind x.found

-- ---- branches

abbrev pub IsPlain : List ℕ × List (List ℕ) → Type 0
IsPlain f = IsApart f.0

with_plain : (path : List ℕ) (lines : List (List ℕ)) (files : Files) → IsApart path → Each IsPlain files → Each IsPlain (with_file files path lines)
with_plain path lines [] apart all = (apart, tt)
with_plain path lines (f ∷ files) apart all = go (text_cmp path f.0) (with_plain path lines files apart all.1)
  where
    go : (o : Ordering) → Each IsPlain (with_file files path lines) → Each IsPlain (match_ordering o ((path, lines) ∷ f ∷ files) ((f.0, lines) ∷ files) (f ∷ with_file files path lines))
    go Less more = (apart, all)
    go Equal more = (all.0, all.1)
    go Greater more = (all.0, more)

-- a file that is there
plain_there : (path : List ℕ) (lines : List (List ℕ)) (files : Files) → Each IsPlain files → file_at files path ≡ Some lines → IsApart path
plain_there path lines [] all e = absurd (cc)
plain_there path lines (f ∷ files) all e = go (plain_there path lines files all.1) (is_at (text_cmp path) f.0) refl e
  where
    go : (file_at files path ≡ Some lines → IsApart path) → (b : Bool) → is_at (text_cmp path) f.0 ≡ b → cond b (Some f.1) (file_at files path) ≡ Some lines → IsApart path
    go more true i e = subst IsApart (sym (same_text path f.0 ((Equal-is (text_cmp path f.0)).0 i))) all.0
    go more false i e = more e

after_plain : (kind : EntryKind) (lines : List (List ℕ)) (was : Files) → logs_trust kind ≡ false → Each IsPlain was → Each IsPlain (branch_after was kind lines)
after_plain (kinds.Log file) lines was h all = with_plain (file_path file) (union (lines_at was (file_path file)) lines) was h all
after_plain (kinds.Compact file) lines was h all = go (file_at was (file_path file)) refl
  where
    go : (o : Option (List (List ℕ))) → file_at was (file_path file) ≡ o → Each IsPlain (compact_file file was o)
    go None i = all
    go (Some found) i = with_plain (file_path file) (compact_lines (kind_of file) found) was (plain_there (file_path file) found was all i) all
after_plain kind lines was h all = all

pub branch_plain : (past : List Entry) (r : ℕ) → LogNoTrust past → Each IsPlain (branch past r)
branch_plain [] r none = tt
branch_plain (e ∷ past) r none = go (branch_plain past r none.1) (is_of r e)
  where
    go : Each IsPlain (branch past r) → (b : Bool) → Each IsPlain (if b then branch_after (branch past r) e.kind e.lines else branch past r)
    go all true = after_plain e.kind e.lines (branch past r) none.0 all
    go all false = all
