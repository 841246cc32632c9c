-- Where no line of a trust log says that a repository is trusted, no drop reads that one is, and none counts one by trust.
use Rattle.std.proofs.Common.{◌≡◌, ◌≢◌, ℕ, Bool, true, false, List, [], ◌∷◌, ◌++◌, Option, Some, None, inl, inr, refl, sym, ap, ◌∙◌, subst}
use Rattle.std.specs.Prelude.{fold, if◌then◌else◌, slice_get}
use Rattle.std.specs.Ordering.{is_lt, match_ordering}
use Rattle.std.specs.declared.cmp.Ordering.{Ordering}
use Rattle.std.specs.declared.cmp.Ordering.TheVariants.{Less, Equal, Greater}
use Rattle.std.proofs.lemmas.Bool.{cases_Bool, true≢false}
use Rattle.annex_base.specs.Lists.{Each, Member}
use Rattle.annex_base.specs.declared.kinds.Level.TheVariants as levels
use Rattle.annex_base.proofs.Conditions.{if_either}
use Rattle.annex_base.proofs.Lists.{Each-right}
use Rattle.annex_base.proofs.Pasts.{past_before}
use Rattle.drop_proof.specs.declared.evidence.Evidence.{Evidence}
use Rattle.log_lines.specs.declared.entry.Entry.{Entry as Said}
use Rattle.log_lines.specs.declared.entry.LogKind.TheVariants as kinds
use Rattle.log_lines.specs.declared.entry.Topic.{Topic}
use Rattle.log_lines.specs.declared.entry.Topic.TheVariants as topics
use Rattle.log_lines.specs.Newest.{entry_at, entry_cmp, newer, newest, same_topic, topic_cmp, with_entry, with_entry_if}
use Rattle.log_lines.specs.Reading.{entry_of}
use Rattle.trust_groups.specs.Settings.{Lines, level, level_in, value_in}
use Rattle.run_data.specs.declared.entry.Entry.{Entry}
use Rattle.run_data.specs.declared.run.Run.{Run}
use Rattle.run_data.specs.Repos.{id_of}
use Rattle.node_model.specs.Evidence.{is_trusted}
use Rattle.run_model.specs.Logs.{added_by, lines_ever, read_at}
use Rattle.run_model.specs.Past.{is_of}
use Rattle.run_model.specs.Run.{IsRun}
use Rattle.run_model.specs.Safety.{Removal, past_at}
use Rattle.race_core.specs.Places.{removal_at}
use Rattle.race_core.specs.Readings.{IsFirstStep, Judge, judge_at, level_read}
use Rattle.kept_copies.specs.Trusting.{CountsNoTrust, TrustsNobody, is_trusted_level, says_trusted, trust_path}

-- ---- what is read of a trust log

-- what is said, if something is, isn't that a repository is trusted
abbrev SaysOther : Option Said → Type 0
SaysOther o = is_trusted_level (level_in (value_in o)) ≡ false

abbrev IsOther : Said → Type 0
IsOther e = SaysOther (Some e)

newer_other : (e f : Said) → IsOther e → IsOther f → IsOther (newer e f)
newer_other e f was new = if_either IsOther (is_lt (entry_cmp e f)) f e (λ i. new) (λ i. was)

with_other : (es : List Said) (e : Said) → Each IsOther es → IsOther e → Each IsOther (with_entry es e)
with_other [] e all new = (new, tt)
with_other (x ∷ xs) e all new = go (with_other xs e all.1 new) (topic_cmp e.topic x.topic)
  where
    go : Each IsOther (with_entry xs e) → (o : Ordering) → Each IsOther (match_ordering o (e ∷ x ∷ xs) (newer x e ∷ xs) (x ∷ with_entry xs e))
    go more Less = (new, all)
    go more Equal = (newer_other x e all.0 new, all.1)
    go more Greater = (all.0, more)

with_if_other : (es : List Said) (o : Option Said) → Each IsOther es → SaysOther o → Each IsOther (with_entry_if es o)
with_if_other es None all new = all
with_if_other es (Some e) all new = with_other es e all new

all_other : (read : List ℕ → Option Said) (lines : List (List ℕ)) (es : List Said) → Each IsOther es → Each (λ line. SaysOther (read line)) lines
    → Each IsOther (fold (λ (es : List Said) (line : List ℕ). with_entry_if es (read line)) es lines)
all_other read [] es all none = all
all_other read (line ∷ lines) es all none = all_other read lines (with_entry_if es (read line)) (with_if_other es (read line) all none.0) none.1

at_other : (es : List Said) (topic : Topic) → Each IsOther es → SaysOther (entry_at es topic)
at_other [] topic all = refl
at_other (e ∷ es) topic all = go (at_other es topic all.1) (same_topic topic e.topic)
  where
    go : SaysOther (entry_at es topic) → (b : Bool) → SaysOther (if b then Some e else entry_at es topic)
    go more true = all.0
    go more false = more

-- nobody is trusted by such lines
level_other : (lines : Lines) (repo : List ℕ) → Each (λ line. says_trusted line ≡ false) (lines trust_path) → level lines repo ≢ levels.Trusted
level_other lines repo none is =
    let other : is_trusted_level (level lines repo) ≡ false = at_other (newest kinds.Trust (lines trust_path)) (topics.Repo repo) (all_other (entry_of kinds.Trust) (lines trust_path) [] tt none) in
    true≢false (sym (ap is_trusted_level is) ∙ other)

-- ---- at each place of a run

abbrev Unsaid : List Entry → ℕ → Type 0
Unsaid past r = Each (λ line. says_trusted line ≡ false) (lines_ever past r trust_path)

unsaid_before : (e : Entry) (past : List Entry) (r : ℕ) → Unsaid (e ∷ past) r → Unsaid past r
unsaid_before e past r = go (is_of r e)
  where
    go : (b : Bool) → Each (λ line. says_trusted line ≡ false) (if b then added_by trust_path e.kind e.lines ++ lines_ever past r trust_path else lines_ever past r trust_path) → Unsaid past r
    go true h = Each-right (λ line. says_trusted line ≡ false) (added_by trust_path e.kind e.lines) (lines_ever past r trust_path) h
    go false h = h

unsaid_at : (run : Run) (place r : ℕ) → TrustsNobody run → Unsaid (past_at run place) r
unsaid_at run place r nobody = past_before (λ (past : List Entry). Unsaid past r) (λ e past h. unsaid_before e past r h) place run.entries (nobody r)

-- ---- removals

-- the laws of what drops read, as the lemma takes them
pub record ReadLaws : Type 0 where
  pub judged : (run : Run) (key : List ℕ) (place : ℕ) (e : Entry) (x : Removal) → removal_at run key place e ≡ Some x → (judge : Judge) × (judge_at run place e ≡ Some judge)
  pub trusted : (run : Run) (key : List ℕ) (place : ℕ) (e : Entry) (x : Removal) (judge : Judge) (item : Evidence) → removal_at run key place e ≡ Some x → judge_at run place e ≡ Some judge → Member item x.items
      → is_trusted item.kind ≡ true → level_read run judge item.repo ≡ levels.Trusted
  pub first : (run : Run) (key : List ℕ) (place : ℕ) (e : Entry) (x : Removal) (judge : Judge) → IsRun run → slice_get run.entries place ≡ Some e → removal_at run key place e ≡ Some x → judge_at run place e ≡ Some judge
      → (first : ℕ) × IsFirstStep run judge.repo judge.job first × (read_at judge.past judge.repo judge.job ≡ past_at run first)

pub counts_no_trust : ReadLaws → (run : Run) (key : List ℕ) (place : ℕ) → IsRun run → TrustsNobody run → CountsNoTrust run key place
counts_no_trust laws run key place is nobody x item before among = elim (cases_Bool (is_trusted item.kind)) [
  | inl trusted ↦ absurd (unread (laws.trusted run key before.at before.entry x judge.0 item before.removal_is judge.1 among trusted))
  | inr other ↦ other
]
  where
    judge : (judge : Judge) × (judge_at run before.at before.entry ≡ Some judge)
    judge = laws.judged run key before.at before.entry x before.removal_is

    read : (first : ℕ) × IsFirstStep run judge.0.repo judge.0.job first × (read_at judge.0.past judge.0.repo judge.0.job ≡ past_at run first)
    read = laws.first run key before.at before.entry x judge.0 is before.entry_is before.removal_is judge.1

    unread : level_read run judge.0 item.repo ≢ levels.Trusted
    unread = level_other (lines_ever (read_at judge.0.past judge.0.repo judge.0.job) judge.0.repo) (id_of run.repos item.repo)
        (subst (λ (past : List Entry). Unsaid past judge.0.repo) (sym read.2) (unsaid_at run read.0 judge.0.repo nobody))
