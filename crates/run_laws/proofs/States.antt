-- The state of a repository, carried over its entries one after the other: it agrees with what its past says, and so its steps do.
use Rattle.std.proofs.Common.{◌≡◌, ◌≢◌, ℕ, ◌<◌, ◌≤◌, Bool, true, false, List, [], ◌∷◌, Option, Some, None, ◌⊎◌, inl, inr, refl, sym, ap, ◌∙◌, subst, arith}
use Rattle.std.specs.Prelude.{if◌then◌else◌, ◌==◌, find}
use Rattle.std.specs.Option.{unwrap_or}
use Rattle.std.proofs.lemmas.Bool.{eqb-true}
use Rattle.annex_base.specs.Lists.{Member}
use Rattle.annex_base.specs.Settings.{Settings}
use Rattle.annex_base.proofs.Conditions.{eqb_refl}
use Rattle.annex_base.proofs.Lists.{find_member}
use Rattle.annex_base.proofs.Functions.{funext}
use Rattle.step_facts.proofs.Below.{SentAreRead, LogLaws}
use Rattle.trust_groups.specs.Settings.{settings}
use Rattle.run_data.specs.declared.entry.Entry.{Entry}
use Rattle.run_data.specs.declared.entry.EntryKind.{EntryKind}
use Rattle.run_data.specs.declared.entry.EntryKind.TheVariants.{Log, Compact}
use Rattle.run_model.specs.Past.{begun_count, is_of}
use Rattle.run_model.specs.Logs.{before_step, is_step, lines_of_file, read_at, settings_of}
use Rattle.past_facts.proofs.LogLemmas.{kept_reads_as_ever}
use Rattle.node_model.specs.SetUp.{SetUp}
use Rattle.node_model.specs.State.{State}
use Rattle.run_model.specs.States.{state_of, works}
use Rattle.node_model.specs.After.{has_read, read_after, state_after, states, AgreesAtDrops}
use Rattle.node_model.specs.Files.{lines_after}
use Rattle.node_model.specs.Jobs.{Drops, Fresh, Gets, Part, Phase, Puts, Work}
use Rattle.node_model.specs.Look.{Look}
use Rattle.node_model.specs.Step.{step}
use Rattle.run_model.specs.Run.{OwnPast}
use Rattle.step_facts.proofs.BySteps.{earlier}
use Rattle.past_facts.proofs.OwnState.{own}
use Rattle.step_facts.proofs.WorkNumbers.{number_begun, same_number_same_work}
use Rattle.step_facts.proofs.JobSteps.{Origin, origin}
use Rattle.job_facts.proofs.PhaseFacts.{is_fresh}
use Rattle.job_facts.proofs.WorkFits.{step_number, step_runs, works_fit}
use Rattle.job_facts.proofs.Untouched.{begin_still, begins_later}
use Rattle.job_facts.proofs.DropReads.{stays_read, step_read}
use Rattle.run_laws.proofs.AtTargets.{at_targets}
use Rattle.past_facts.proofs.StateAfter.{after_is, kept_after, other_is}
use Rattle.job_facts.proofs.NotDropping.{comes_unread, future_reads, still_unread}
use Rattle.job_facts.proofs.DropLeaves.{fresh_unread}
use Rattle.job_facts.proofs.SameReads.{step_same}

-- ---- the work with a number

member_found : (j : ℕ) (ws : List Work) (w : Work) → Member w ws → w.number ≡ j → find (λ x. x.number == j) ws ≡ None → ⊥
member_found j [] w m is none = absurd m
member_found j (x ∷ ws) w m is none = go (λ n. member_found j ws w n is) (x.number == j) refl m none
  where
    go : (Member w ws → find (λ x. x.number == j) ws ≡ None → ⊥) → (b : Bool) → (x.number == j) ≡ b → Member w (x ∷ ws) → (if b then Some x else find (λ x. x.number == j) ws) ≡ None → ⊥
    go more true at n g = absurd (cc)
    go more false at (inl same) g = let yes' : (x.number == j) ≡ true = ap (λ (y : Work). y.number == j) (sym same) ∙ ap (λ n. n == j) is ∙ eqb_refl j in absurd (let both : true ≡ false = sym yes' ∙ at in cc)
    go more false at (inr n) g = more n g

found_is : (s : SetUp) (past : List Entry) → OwnPast s past → (w : Work) → Member w (works past s.number) → (j : ℕ) → w.number ≡ j → find (λ x. x.number == j) (works past s.number) ≡ Some w
found_is s past h w m j is = go (find (λ x. x.number == j) (works past s.number)) refl
  where
    go : (o : Option Work) → find (λ x. x.number == j) (works past s.number) ≡ o → o ≡ Some w
    go None none = absurd (member_found j (works past s.number) w m is none)
    go (Some v) at =
        let was = find_member (λ x. x.number == j) (works past s.number) v at in
        ap Some (same_number_same_work s past h.run v w was.0 m (eqb-true v.number j was.1 ∙ sym is))

none_found : (s : SetUp) (past : List Entry) → OwnPast s past → (j : ℕ) → begun_count past s.number < j → find (λ x. x.number == j) (works past s.number) ≡ None
none_found s past h j later = go (find (λ x. x.number == j) (works past s.number)) refl
  where
    go : (o : Option Work) → find (λ x. x.number == j) (works past s.number) ≡ o → o ≡ None
    go None none = refl
    go (Some v) at =
        let was = find_member (λ x. x.number == j) (works past s.number) v at in
        let below : v.number ≤ begun_count past s.number = number_begun s past h.run v was.0 in
        let same : v.number ≡ j = eqb-true v.number j was.1 in
        absurd (omega arith)

-- ---- what has been read

drops_read : (phase : Phase) → is_fresh phase ≡ false → has_read Drops phase ≡ true
drops_read Fresh later = absurd (cc)
drops_read phase later = refl

read_drops : (part : Part) (phase : Phase) → has_read part phase ≡ true → part ≡ Drops
read_drops Drops phase e = refl
read_drops Gets phase e = absurd (cc)
read_drops Puts phase e = absurd (cc)

fresh_reads : (part : Part) (phase : Phase) → (part ≢ Drops) ⊎ (is_fresh phase ≡ true) → has_read part phase ≡ false
fresh_reads Drops Fresh by = refl
fresh_reads Drops phase (inl apart) = absurd (apart refl)
fresh_reads Drops phase (inr fresh) = absurd (cc)
fresh_reads Gets phase by = refl
fresh_reads Puts phase by = refl

-- a step of a job changes no log
step_lines : (j : ℕ) (kind : EntryKind) (path : List ℕ) (was lines : List (List ℕ)) → is_step j kind ≡ true → lines_after path was kind lines ≡ was
step_lines j (Log file) path was lines step = absurd (cc)
step_lines j (Compact file) path was lines step = absurd (cc)
step_lines j kind path was lines step = refl

-- where nothing was read, it is what the logs say
unread_is : (past : List Entry) (r j : ℕ) → before_step past r j ≡ None → settings_of (read_at past r j) r ≡ settings_of past r
unread_is past r j none = ap (λ (o : Option (List Entry)). settings_of (unwrap_or o past) r) none

module _ (log_laws : LogLaws) (reads_back : SentAreRead) (s : SetUp) (past : List Entry) (e : Entry) (h : OwnPast s (e ∷ past)) (is : is_of s.number e ≡ true) where
  abbrev r : ℕ
  r = s.number

  abbrev st : State
  st = state_of s past

  abbrev now' : Settings
  now' = (state_after s st e).logs

  before : OwnPast s past
  before = earlier s past e h

  now_is : settings_of (e ∷ past) r ≡ now'
  now_is = sym (kept_reads_as_ever log_laws (e ∷ past) r) ∙ ap settings (kept_after log_laws past r e is)

  -- what the state after it has, by the work before it
  by_work : (j : ℕ) (o : Option Work) → find (λ x. x.number == j) (works past r) ≡ o → (state_after s st e).read j ≡ read_after now' (st.read j) o
  by_work j o at = ap (read_after now' (st.read j)) at

  -- it reads what the logs say now
  reads_now : (j : ℕ) (o : Option Work) → find (λ x. x.number == j) (works past r) ≡ o → ((w : Work) → o ≡ Some w → has_read w.part w.phase ≡ false) → before_step (e ∷ past) r j ≡ None
      → settings_of (read_at (e ∷ past) r j) r ≡ (state_after s st e).read j
  reads_now j o at off none = unread_is (e ∷ past) r j none ∙ now_is ∙ sym (by_work j o at ∙ go o off)
    where
      go : (o : Option Work) → ((w : Work) → o ≡ Some w → has_read w.part w.phase ≡ false) → read_after now' (st.read j) o ≡ now'
      go None off = refl
      go (Some w) off = rw (off w refl) refl

  -- it has read before
  reads_then : (w : Work) → Member w (works past r) → w.part ≡ Drops → is_fresh w.phase ≡ false → settings_of (read_at (e ∷ past) r w.number) r ≡ (state_after s st e).read w.number
  reads_then w m part later =
      stays_read past e r w.number ((at_targets reads_back s past before w m).1 part later)
      ∙ sym (by_work w.number (Some w) (found_is s past before w m w.number refl) ∙ rw (ap (λ p. has_read p w.phase) part ∙ drops_read w.phase later) refl)

  -- it reads by this entry, the first step of its drop
  reads_first : (w : Work) → Member w (works past r) → w.part ≡ Drops → is_fresh w.phase ≡ true → is_step w.number e.kind ≡ true
      → settings_of (read_at (e ∷ past) r w.number) r ≡ (state_after s st e).read w.number
  reads_first w m part fresh step =
      ap (λ p. settings_of p r) (step_read past e r w.number is step ((at_targets reads_back s past before w m).0 part)).1
      ∙ unread_is past r w.number (fresh_unread s past before.run w m part fresh) ∙ sym (kept_reads_as_ever log_laws past r)
      ∙ ap settings (sym (funext (λ path. lines_after path (lines_of_file past r path) e.kind e.lines) (lines_of_file past r) (λ path. step_lines w.number e.kind path (lines_of_file past r path) e.lines step)))
      ∙ sym (by_work w.number (Some w) (found_is s past before w m w.number refl) ∙ rw (fresh_reads w.part w.phase (inr fresh)) refl)

  by_origin : (w : Work) → Origin s past e w → w.part ≡ Drops → settings_of (read_at (e ∷ past) r w.number) r ≡ (state_after s st e).read w.number
  by_origin w (inl b) part =
      let later = begins_later s past e h.run is w b in
      reads_now w.number None (none_found s past before w.number later) (λ x bad. let no_work : None ≡ Some x = bad in absurd (cc))
      (still_unread past e r w.number (λ own. begin_still s past e w b) (future_reads s past before.run w.number later))
  by_origin w (inr (inl b)) part = go (is_fresh w.phase) refl
    where
      go : (c : Bool) → is_fresh w.phase ≡ c → settings_of (read_at (e ∷ past) r w.number) r ≡ (state_after s st e).read w.number
      go false later = reads_then w b.ran part later
      go true fresh = reads_now w.number (Some w) (found_is s past before w b.ran w.number refl) (λ x same. let both : w ≡ x = cc in subst (λ (y : Work). has_read y.part y.phase ≡ false) both (fresh_reads w.part w.phase (inr fresh)))
          (still_unread past e r w.number (λ own. b.still) (fresh_unread s past before.run w b.ran part fresh))
  by_origin w (inr (inr b)) part = go b.by.w.part refl
    where
      runs : Member b.by.w (works past s.number)
      runs = step_runs s past e w b

      number : b.by.w.number ≡ w.number
      number = sym (step_number s past e w b)

      drops : b.by.w.part ≡ Drops → (c : Bool) → is_fresh b.by.w.phase ≡ c → settings_of (read_at (e ∷ past) r b.by.w.number) r ≡ (state_after s st e).read b.by.w.number
      drops at true fresh = reads_first b.by.w runs at fresh b.step
      drops at false later = reads_then b.by.w runs at later

      comes : b.by.w.part ≢ Drops → settings_of (read_at (e ∷ past) r w.number) r ≡ (state_after s st e).read w.number
      comes apart = reads_now w.number (Some b.by.w) (found_is s past before b.by.w runs w.number number) (λ x same. let both : b.by.w ≡ x = cc in subst (λ (y : Work). has_read y.part y.phase ≡ false) both (fresh_reads b.by.w.part b.by.w.phase (inl apart)))
          (comes_unread s past e before.run w b apart part)

      go : (p : Part) → b.by.w.part ≡ p → settings_of (read_at (e ∷ past) r w.number) r ≡ (state_after s st e).read w.number
      go Drops at = subst (λ n. settings_of (read_at (e ∷ past) r n) r ≡ (state_after s st e).read n) number (drops at (is_fresh b.by.w.phase) refl)
      go Gets at = comes (λ d. let no_drop : Gets ≡ Drops = sym at ∙ d in absurd (cc))
      go Puts at = comes (λ d. let no_drop : Puts ≡ Drops = sym at ∙ d in absurd (cc))

  -- **the state after an entry agrees with what the past says then**
  pub after_agrees : AgreesAtDrops (state_of s (e ∷ past)) (state_after s (state_of s past) e)
  after_agrees = record { same = after_is log_laws s past e is; reads = λ w m part. by_origin w (origin s past e h.run is w m) part }

-- ---- states that agree do so after an entry too

pub after_same : (s : SetUp) (st other : State) (e : Entry) → AgreesAtDrops st other → state_after s st e ≡ state_after s other e
after_same s st other e agrees =
    ap (λ z. state_after s z e) agrees.same
    ∙ (λ i. record (state_after s other e) { read = funext (λ j. read_after logs (st.read j) (find (λ w. w.number == j) other.works)) (λ j. read_after logs (other.read j) (find (λ w. w.number == j) other.works)) read_same i })
  where
    logs : Settings
    logs = (state_after s other e).logs

    works_same : st.works ≡ other.works
    works_same = ap (λ (z : State). z.works) agrees.same

    read_same : (j : ℕ) → read_after logs (st.read j) (find (λ w. w.number == j) other.works) ≡ read_after logs (other.read j) (find (λ w. w.number == j) other.works)
    read_same j = go (find (λ w. w.number == j) other.works) refl
      where
        go : (o : Option Work) → find (λ w. w.number == j) other.works ≡ o → read_after logs (st.read j) o ≡ read_after logs (other.read j) o
        go None at = refl
        go (Some w) at = by (has_read w.part w.phase) refl
          where
            by : (b : Bool) → has_read w.part w.phase ≡ b → (if b then st.read j else logs) ≡ (if b then other.read j else logs)
            by false is = refl
            by true is =
                let was = find_member (λ w. w.number == j) other.works w at in
                subst (λ n. st.read n ≡ other.read n) (eqb-true w.number j was.1) (agrees.reads w (subst (Member w) (sym works_same) was.0) (read_drops w.part w.phase is))

-- **the state that is carried over a repository's own entries agrees with what the past says**
pub states_agree : LogLaws → SentAreRead → (s : SetUp) (past : List Entry) → OwnPast s past → AgreesAtDrops (state_of s past) (states s (own s.number past))
states_agree log_laws reads_back s [] h = record { same = refl; reads = λ w m. absurd m }
states_agree log_laws reads_back s (e ∷ past) h = go (states_agree log_laws reads_back s past (earlier s past e h)) (is_of s.number e) refl
  where
    go : AgreesAtDrops (state_of s past) (states s (own s.number past)) → (b : Bool) → is_of s.number e ≡ b → AgreesAtDrops (state_of s (e ∷ past)) (states s (if b then e ∷ own s.number past else own s.number past))
    go was true is = subst (AgreesAtDrops (state_of s (e ∷ past))) (after_same s (state_of s past) (states s (own s.number past)) e was) (after_agrees log_laws reads_back s past e h is)
    go was false is = subst (λ st. AgreesAtDrops st (states s (own s.number past))) (sym (other_is s past e is)) was

-- **so a step is one from the state that is carried**
pub step_states : LogLaws → SentAreRead → (s : SetUp) (past : List Entry) (k : Look) → OwnPast s past → step s (state_of s past) k ≡ step s (states s (own s.number past)) k
step_states log_laws reads_back s past k h = step_same s (state_of s past) (states s (own s.number past)) k (works_fit s past h.run) (states_agree log_laws reads_back s past h)
