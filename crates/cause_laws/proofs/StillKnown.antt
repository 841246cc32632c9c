-- A drop that is to end by an old protocol, or for its time, knows enough still, and its first end is what it was.
use Rattle.std.proofs.Common.{◌≡◌, ℕ, Bool, true, false, List, [], ◌∷◌, Some, None, ◌⊎◌, inl, inr, refl, sym, ap, ◌∙◌, subst}
use Rattle.std.specs.Prelude.{◌==◌, ◌&&◌, ◌||◌, if◌then◌else◌, filter, length, map, nat_lt, not}
use Rattle.std.specs.List.{list_all, list_any}
use Rattle.annex_base.specs.Lists.{Each, Member}
use Rattle.annex_base.specs.Settings.{Settings}
use Rattle.annex_base.specs.declared.kinds.Call.TheVariants.{Unhold}
use Rattle.annex_base.proofs.Conditions.{eqb_refl, if_either}
use Rattle.annex_base.proofs.Lists.{Each-filter}
use Rattle.step_facts.proofs.Below.{SentAreRead}
use Rattle.drop_proof.specs.declared.evidence.Evidence.{Evidence}
use Rattle.drop_proof.specs.declared.rule.Side.TheVariants.{Remote}
use Rattle.drop_proof.specs.Judging.{least_end}
use Rattle.run_data.specs.declared.entry.By.{By}
use Rattle.run_data.specs.declared.entry.By.TheVariants.{Job as by_job, Peer, Script}
use Rattle.run_data.specs.declared.entry.Entry.{Entry}
use Rattle.run_data.specs.declared.entry.EntryKind.{EntryKind}
use Rattle.run_data.specs.declared.entry.EntryKind.TheVariants.{Close, Crash, Fault, Release, Share, End as ends_job}
use Rattle.run_data.specs.declared.job.Job.{Job}
use Rattle.run_data.specs.declared.job.Outcome.{Outcome}
use Rattle.run_data.specs.declared.job.Outcome.TheVariants.{Refused}
use Rattle.run_data.specs.declared.row.Hold.{Hold}
use Rattle.run_data.specs.declared.job.DropRefusal.TheVariants as refusals
use Rattle.node_model.specs.Clocks.{ClockSet, runs_on}
use Rattle.node_model.specs.Calls.{to_release}
use Rattle.node_model.specs.Rows.{holds_after, is_lost_ordered, keep_of, option_is, restart, same_owner}
use Rattle.node_model.specs.Slots.{job_by, job_of}
use Rattle.run_model.specs.Past.{Occurs, clock, clock_set, holds, is_of}
use Rattle.run_model.specs.Causes.{newest_step}
use Rattle.run_data.specs.Repos.{id_of}
use Rattle.run_model.specs.Logs.{is_step, read_at, settings_of}
use Rattle.node_model.specs.Evidence.{candidates, gather, reached_candidates, standing_by}
use Rattle.node_model.specs.SetUp.{SetUp}
use Rattle.node_model.specs.State.{State}
use Rattle.run_model.specs.States.{state_of, rows_at, works}
use Rattle.node_model.specs.Jobs
use Rattle.node_model.specs.Jobs.{AsksTime, Drops, Ends, Heard, Late, Next, Phase, Work, partner, running_job, side_of, target_of}
use Rattle.node_model.specs.Look.{Effect}
use Rattle.node_model.specs.Knows.{is_unasked, offer_by, standing_of, reading, need_by}
use Rattle.step_facts.proofs.Knowing.{known, knows_enough, next_of}
use Rattle.node_model.specs.JobStep.{Turn, ends, farewells, owns_share}
use Rattle.node_model.specs.Turns.{by_partner, goes, has_room, needs, outcome_of}
use Rattle.node_model.specs.Found.{IsJobEntry}
use Rattle.run_model.specs.Run.{OwnPast, OwnRun}
use Rattle.step_facts.proofs.ClientSteps.{attempts_even}
use Rattle.step_facts.proofs.JobSteps.{Origin, Steps, invariant, turn_at}
use Rattle.run_laws.proofs.ClockKept.{clock_kept, clock_other, stepped_stands}
use Rattle.job_facts.proofs.GetsBegin.{no_release}
use Rattle.job_facts.proofs.NotDropping.{moved_on}
use Rattle.job_facts.proofs.PhaseFacts.{is_fresh, only_time}
use Rattle.job_facts.proofs.Untouched.{is_share}
use Rattle.job_facts.proofs.TalkFacts.{Fits}
use Rattle.job_facts.proofs.WorkFits.{drops_stay, step_kind, step_number, step_runs, step_what, steps_good, works_fit}
use Rattle.job_facts.proofs.Aims.{aims, other_target}
use Rattle.job_facts.proofs.Targets.{at_target, next_but}
use Rattle.job_facts.proofs.PhasesFit.{target_peer}
use Rattle.dialogue_facts.proofs.EndReasons.{DropReason, Reason, kind_reason}
use Rattle.dialogue_facts.proofs.EndSteps.{LateBy, Old, TooLate, time_late_by}
use Rattle.dialogue_facts.proofs.Carried.{ListOrNext, kind_carries}
use Rattle.cause_laws.proofs.Refusals.{Stands, side_is}
use Rattle.cause_laws.proofs.Standing.{old_at, old_on, stands}
use Rattle.run_laws.proofs.AtTargets.{at_targets, enough_same}
use Rattle.job_facts.proofs.DropReads.{stays_read, step_read, told_of}
use Rattle.step_facts.proofs.BySteps.{earlier}

-- ---- what was read and heard decides what a job knows

abbrev known_of : SetUp → (ℕ → ℕ) → Settings → List (List ℕ) → Job → List (ℕ × Heard) → List Evidence
known_of s clock read paths what heard =
    let side = Jobs.drop_side what.kind what.peer in
    let need = need_by read paths in
    gather side need (λ c. offer_by clock (standing_by read what.key (id_of s.repos c)) (told_of heard c))
    (reached_candidates (λ c. is_unasked (standing_by read what.key (id_of s.repos c)) (told_of heard c)) (candidates side (length s.repos) s.number (Jobs.or_own s.number side what.peer))) []

known_is : (s : SetUp) (st : State) (w : Work) → known s st w ≡ known_of s st.clock (st.read w.number) (s.paths w.number) w.what w.heard
unfolding standing_of
known_is s st w = refl

pub known_same : (s : SetUp) (st other : State) (w v : Work) → st.clock ≡ other.clock → st.read w.number ≡ other.read v.number → w.number ≡ v.number → w.what ≡ v.what → w.heard ≡ v.heard → known s st w ≡ known s other v
known_same s st other w v clock read number what heard = known_is s st w ∙ (λ i. known_of s (clock i) (read i) (s.paths (number i)) (what i) (heard i)) ∙ sym (known_is s other v)

-- ---- shares of its own that are open

abbrev pub NoneOpen : ℕ → List Hold → Type 0
NoneOpen j hs = Each (λ h. (same_owner h.owner (by_job j) && not h.kept) ≡ false) hs

and_false : (b : Bool) → (b && false) ≡ false
and_false true = refl
and_false false = refl

open_none : (j : ℕ) (hs : List Hold) → NoneOpen j hs → list_any (λ h. same_owner h.owner (by_job j) && not h.kept) hs ≡ false
open_none j [] a = refl
open_none j (h ∷ hs) a = rw a.0 (open_none j hs a.1)

-- what is kept already, or is another's, stays so
kept_stays : (j : ℕ) (owner : By) (h : Hold) → (same_owner h.owner (by_job j) && not h.kept) ≡ false → (same_owner (keep_of owner h).owner (by_job j) && not (keep_of owner h).kept) ≡ false
kept_stays j owner h e =
    if_either (λ (x : Hold). (same_owner x.owner (by_job j) && not x.kept) ≡ false) (same_owner h.owner owner) (record h { kept = true }) h (λ y. and_false (same_owner h.owner (by_job j))) (λ y. e)

kept_map : (j : ℕ) (owner : By) (hs : List Hold) → NoneOpen j hs → NoneOpen j (map (keep_of owner) hs)
kept_map j owner [] a = tt
kept_map j owner (h ∷ hs) a = (kept_stays j owner h a.0, kept_map j owner hs a.1)

restart_map : (j clock : ℕ) (hs : List Hold) → NoneOpen j (map (restart clock) hs)
restart_map j clock [] = tt
restart_map j clock (h ∷ hs) = (and_false (same_owner h.owner (by_job j)), restart_map j clock hs)

-- after its release failed all of them are kept
all_kept : (j : ℕ) (hs : List Hold) → NoneOpen j (map (keep_of (by_job j)) hs)
all_kept j [] = tt
all_kept j (h ∷ hs) = (
  if_either (λ (x : Hold). (same_owner x.owner (by_job j) && not x.kept) ≡ false) (same_owner h.owner (by_job j)) (record h { kept = true }) h (λ e. and_false (same_owner h.owner (by_job j)))
      (λ e. ap (λ (b : Bool). b && not h.kept) e),
  all_kept j hs,
)

-- an entry that is no share of its own opens none
open_after : (j : ℕ) (was : List Hold) (kind : EntryKind) → (is_share kind ≡ true → option_is (job_of kind) j ≡ false) → NoneOpen j was → NoneOpen j (holds_after was kind)
open_after j was (Share number end owner k) still a = (other owner (still refl), a)
  where
    other : (owner : By) → option_is (job_by owner) j ≡ false → (same_owner owner (by_job j) && true) ≡ false
    other Script e = refl
    other (by_job i) e = ap (λ (b : Bool). b && true) e
    other (Peer p q) e = refl
open_after j was (Release number k) still a = Each-filter (λ (h : Hold). (same_owner h.owner (by_job j) && not h.kept) ≡ false) _ was a
open_after j was (Close peer slot client) still a =
    if_either (NoneOpen j) client was (map (keep_of (Peer peer slot)) was) (λ e. a) (λ e. kept_map j (Peer peer slot) was a)
open_after j was (Fault Unhold owner) still a = kept_map j owner was a
open_after j was (ends_job job outcome) still a =
    if_either (NoneOpen j) (is_lost_ordered outcome) (map (keep_of (by_job job)) was) (filter (λ h. h.kept || not (same_owner h.owner (by_job job))) was)
    (λ e. kept_map j (by_job job) was a) (λ e. Each-filter (λ (h : Hold). (same_owner h.owner (by_job j) && not h.kept) ≡ false) _ was a)
open_after j was (Crash clock) still a = restart_map j clock was
open_after j was kind still a = a

none_open : (past : List Entry) (e : Entry) (r j : ℕ) → (is_of r e && is_step j e.kind) ≡ false → NoneOpen j (holds past r) → NoneOpen j (holds (e ∷ past) r)
none_open past e r j still a = go still (is_of r e) refl
  where
    step_free : (kind : EntryKind) → is_step j kind ≡ false → is_share kind ≡ true → option_is (job_of kind) j ≡ false
    step_free (Share number end owner key) none share = none
    step_free kind none share = absurd (cc)

    go : (is_of r e && is_step j e.kind) ≡ false → (b : Bool) → is_of r e ≡ b → NoneOpen j (holds (e ∷ past) r)
    go none true is = rw is (open_after j (holds past r) e.kind (step_free e.kind (rw is at none)) a)
    go none false is = rw is a

-- ---- a job that is to end for its time, and has none

abbrev lates : Turn → ℕ → Turn
lates before time = record before { w = record before.w { phase = Late time } }

module _ (before : Turn) (time : ℕ) (none : owns_share (lates before time) ≡ false) where
  abbrev l : Turn
  l = lates before time

  abbrev IsEndOf : Effect → Type 0
  IsEndOf x = (j : ℕ) × (outcome : Outcome) × (x.kind ≡ ends_job j outcome)

  ending : (outcome : Outcome) → IsEndOf (ends l None outcome)
  ending outcome = attempts_even IsEndOf l (to_release (owns_share l && not (is_lost_ordered outcome))) None
      (record { kind = ends_job l.w.number outcome; taken = None; sent = farewells l (is_lost_ordered outcome); lines = []; calls = [] })
      (λ call f. absurd (no_release (owns_share l) (not (is_lost_ordered outcome)) none call f)) (l.w.number, outcome, refl)

  late_ends : (m : Effect) → by_partner l (partner l.w.what.peer l.w.phase) ≡ Some m → IsEndOf m
  late_ends m e = go (list_all (has_room l) (needs l (Late time))) e
    where
      go : (b : Bool) → (if b then Some (goes l (Late time)) else None) ≡ Some m → IsEndOf m
      go false g = absurd (cc)
      go true g = let same : goes l (Late time) ≡ m = cc in subst IsEndOf same (ending (outcome_of l (Late time)))

-- ---- what it knew stands

-- it knows enough, and has a first end
pub record Knew (s : SetUp) (past : List Entry) (w : Work) (end : ℕ) : Type 0 where
  pub part_is : w.part ≡ Drops
  pub enough : knows_enough s (state_of s past) w ≡ true
  pub first : least_end (known s (state_of s past) w) ≡ Some end

-- its release failed at this time, in its newest entry; it has no share of its own that is open, and the clock is as it was set then
pub record FailedThen (s : SetUp) (past : List Entry) (j time : ℕ) : Type 0 where
  pub entry : Entry
  pub before : List Entry
  pub occurs : Occurs past entry before
  pub own : is_of s.number entry ≡ true
  pub newest : newest_step past s.number j ≡ Some entry
  pub kind_is : entry.kind ≡ Fault Unhold (by_job j)
  pub time_is : time ≡ entry.time
  pub unowned : NoneOpen j (holds past s.number)
  pub set : clock_set s.repos before s.number ≡ clock_set s.repos past s.number

abbrev pub KnewAt : SetUp → List Entry → Work → Phase → Type 0
KnewAt s past w (Late time) = (end : ℕ) × Knew s past w end × (nat_lt (clock s.repos past s.number time) end ≡ false) × FailedThen s past w.number time
KnewAt s past w (Ends (Refused (refusals.OldProtocol n))) = (end : ℕ) × Knew s past w end
KnewAt s past w phase = Unit {0}

-- the same is read and heard, by the same clock
pub record SameRead (s : SetUp) (past : List Entry) (w : Work) (past' : List Entry) (w' : Work) : Type 0 where
  pub part_is : w.part ≡ Drops → w'.part ≡ Drops
  pub number_is : w'.number ≡ w.number
  pub set : clock_set s.repos past' s.number ≡ clock_set s.repos past s.number
  pub read : settings_of (read_at past' s.number w'.number) s.number ≡ settings_of (read_at past s.number w.number) s.number
  pub what : w'.what ≡ w.what
  pub heard : w'.heard ≡ w.heard

knew_same : (s : SetUp) (past : List Entry) (w : Work) (past' : List Entry) (w' : Work) (end : ℕ) → (w.part ≡ Drops → SameRead s past w past' w') → Knew s past w end → Knew s past' w' end
knew_same s past w past' w' end same k =
    let z = same k.part_is in
    record {
      part_is = z.part_is k.part_is;
      enough = enough_same s (state_of s past') (state_of s past) w' w (ap (λ c. runs_on c) z.set) z.read z.number_is z.what z.heard ∙ k.enough;
      first = ap least_end (known_same s (state_of s past') (state_of s past) w' w (ap (λ c. runs_on c) z.set) z.read z.number_is z.what z.heard) ∙ k.first;
    }

-- it is to end for its time
abbrev IsLate : Phase → Type 0
IsLate (Late time) = Unit {0}
IsLate phase = ⊥

knew_kept : (s : SetUp) (past : List Entry) (w : Work) (e : Entry) (w' : Work) (phase : Phase) → (IsLate phase → (is_of s.number e && is_step w.number e.kind) ≡ false)
    → (w.part ≡ Drops → is_fresh phase ≡ false → SameRead s past w (e ∷ past) w') → KnewAt s past w phase → KnewAt s (e ∷ past) w' phase
knew_kept s past w e w' (Late time) still same k = (k.0, knew_same s past w (e ∷ past) w' k.0 (λ part. same part refl) k.1, ap (λ (c : ClockSet). nat_lt (runs_on c time) k.0) (same k.1.part_is refl).set ∙ k.2, still_failed (same k.1.part_is refl) k.3)
  where
    still_failed : SameRead s past w (e ∷ past) w' → FailedThen s past w.number time → FailedThen s (e ∷ past) w'.number time
    still_failed z f = record {
      entry = f.entry;
      before = f.before;
      occurs = inr f.occurs;
      own = f.own;
      newest = ap (newest_step (e ∷ past) s.number) z.number_is
          ∙ (ap (λ (b : Bool). if b then Some e else newest_step past s.number w.number) (still tt) ∙ f.newest);
      unowned = subst (λ n. NoneOpen n (holds (e ∷ past) s.number)) (sym z.number_is) (none_open past e s.number w.number (still tt) f.unowned);
      kind_is = f.kind_is ∙ ap (λ n. Fault Unhold (by_job n)) (sym z.number_is);
      time_is = f.time_is;
      set = f.set ∙ sym z.set;
    }
knew_kept s past w e w' (Ends (Refused (refusals.OldProtocol n))) still same k = (k.0, knew_same s past w (e ∷ past) w' k.0 (λ part. same part refl) k.1)
knew_kept s past w e w' phase still same k = tt

module _ (reads_back : SentAreRead) (s : SetUp) (p : List Entry) (e : Entry) (h : OwnPast s (e ∷ p)) where
  abbrev before : OwnPast s p
  before = earlier s p e h

  -- an entry that is no step of it, and sets no clock
  still_read : clock_set s.repos (e ∷ p) s.number ≡ clock_set s.repos p s.number → (w : Work) → Member w (works p s.number) → w.part ≡ Drops → is_fresh w.phase ≡ false → SameRead s p w (e ∷ p) w
  still_read set w m part later = record {
    part_is = λ d. d;
    number_is = refl;
    set = set;
    read = stays_read p e s.number w.number ((at_targets reads_back s p before w m).1 part later);
    what = refl;
    heard = refl;
  }

  module _ (is : is_of s.number e ≡ true) (x : Work) (b : Steps s p e x) where
    abbrev v : Work
    v = b.by.w

    runs : Member v (works p s.number)
    runs = step_runs s p e x b

    fits : Fits v.part v.phase
    fits = works_fit s p before.run v runs

    abbrev t : Turn
    t = turn_at s p e b.by

    list : ListOrNext v x
    list = subst (ListOrNext v) (sym b.work_is) (kind_carries (rows_at p s.number) s.number v e e.kind).2

    set_same : clock_set s.repos (e ∷ p) s.number ≡ clock_set s.repos p s.number
    set_same = clock_kept s.repos p s.number e (stepped_stands s p e b.by)

    step_reads : x.heard ≡ v.heard → v.part ≡ Drops → SameRead s p v (e ∷ p) x
    step_reads heard part = record {
      part_is = λ d. drops_stay v.part v.phase x.part x.phase (steps_good s p e x b fits) d;
      number_is = step_number s p e x b;
      set = set_same;
      read = ap (λ n. settings_of (read_at (e ∷ p) s.number n) s.number) (step_number s p e x b)
          ∙ ap (λ q. settings_of q s.number) (step_read p e s.number v.number is b.step ((at_targets reads_back s p before v runs).0 part)).1;
      what = step_what s p e x b;
      heard = heard;
    }

    heard_same : (phase : Phase) → x.phase ≡ phase → (phase ≡ Next → ⊥) → x.heard ≡ v.heard
    heard_same phase at apart = elim (list) [ inl next ↦ absurd (apart (sym at ∙ next)) | inr same ↦ same ]

    -- it knows enough where it stands at its target
    enough_at : v.part ≡ Drops → side_of v ≡ Remote → at_target (target_of s.number v) v.phase ≡ true → knows_enough s (state_of s p) v ≡ true
    enough_at part side at = (at_targets reads_back s p before v runs).2 part side (other_target s v (aims s p before.run v runs) part side) at

    kind : IsJobEntry t b.by.made e.kind
    kind = step_kind s p e x b

    late_now : (time : ℕ) (owner : By) → x.phase ≡ Late time → v.phase ≡ AsksTime → e.kind ≡ Fault Unhold owner → time ≡ e.time → KnewAt s (e ∷ p) x (Late time)
    late_now time owner to at k same =
        let failed : e.kind ≡ Fault Unhold (by_job x.number) = k ∙ ap (Fault Unhold) (subst (IsJobEntry t b.by.made) k kind).0 ∙ ap (λ n. Fault Unhold (by_job n)) (sym (step_number s p e x b)) in
        let held : holds (e ∷ p) s.number ≡ map (keep_of (by_job x.number)) (holds p s.number) =
        ap (λ (b : Bool). if b then holds_after (holds p s.number) e.kind else holds p s.number) is ∙ ap (holds_after (holds p s.number)) failed in
        let part = only_time v.part (subst (Fits v.part) at fits) in
        let remote : side_of v ≡ Remote = sym (side_is v) ∙ subst (Stands s.number p (running_job v)) at (stands reads_back s p before v runs) in
        let peer : v.what.peer ≡ Some (target_of s.number v) = target_peer s v (aims s p before.run v runs) part remote in
        let late : TooLate t = subst (LateBy t) (sym (ap (λ (y : Entry). y.kind) b.by.is) ∙ k) (time_late_by t b.by.made (target_of s.number v) at part peer b.by.does) in
        let knew : Knew s p v late.end = record { part_is = part; enough = enough_at part remote (subst (λ q. at_target (target_of s.number v) q ≡ true) (sym at) refl); first = late.first } in
        let when : time ≡ b.by.look.time = same ∙ ap (λ (y : Entry). y.time) b.by.is in (
          late.end,
          knew_same s p v (e ∷ p) x late.end (step_reads (heard_same (Late time) to (λ n. cc))) knew,
          ap (λ (c : ClockSet). nat_lt (runs_on c time) late.end) set_same ∙ (ap (λ q. nat_lt (clock s.repos p s.number q) late.end) when ∙ late.late),
          record {
            entry = e;
            before = p;
            occurs = inl (refl, refl);
            own = is;
            newest = ap (newest_step (e ∷ p) s.number) (step_number s p e x b) ∙ rw (is, b.step) refl;
            kind_is = failed;
            time_is = same;
            unowned = subst (NoneOpen x.number) (sym held) (all_kept x.number (holds p s.number));
            set = sym set_same;
          },
        )

    old_knew : (n : ℕ) (version peer : ℕ) → x.phase ≡ Ends (Refused (refusals.OldProtocol n)) → Old t version peer → knows_enough s (state_of s p) v ≡ true → KnewAt s (e ∷ p) x (Ends (Refused (refusals.OldProtocol n)))
    old_knew n version peer to old enough =
        (old.end, knew_same s p v (e ∷ p) x old.end (step_reads (heard_same (Ends (Refused (refusals.OldProtocol n))) to (λ m. cc))) (record { part_is = old.part_is; enough = enough; first = old.first }))

    chosen_enough : (peer version : ℕ) → Old t version peer → (knows_enough s (state_of s p) v ≡ true) ⊎ (next_of s (state_of s p) v ≡ Some peer) → knows_enough s (state_of s p) v ≡ true
    chosen_enough peer version old (inl enough) = enough
    chosen_enough peer version old (inr next) =
        absurd (next_but (reading s (state_of s p) v) v old.side (other_target s v (aims s p before.run v runs) old.part_is old.side) (next ∙ ap Some (sym old.target_is)))

    old_now : (n : ℕ) → x.phase ≡ Ends (Refused (refusals.OldProtocol n)) → DropReason (rows_at p s.number) s.number v e e.kind (refusals.OldProtocol n) → KnewAt s (e ∷ p) x (Ends (Refused (refusals.OldProtocol n)))
    old_now n to (k, inl z) =
        let st = stands reads_back s p before v runs in
        let old = old_at reads_back s p e h is x b st n z.0 z.1 z.2 k in
        old_knew n n z.0 to old (enough_at old.part_is old.side (subst (λ q. at_target (target_of s.number v) q ≡ true) (sym z.1) (subst (λ q. (q == target_of s.number v) ≡ true) old.target_is (eqb_refl (target_of s.number v)))))
    old_now n to (k, inr z) =
        let st = stands reads_back s p before v runs in
        let old = old_on reads_back s p e h is x b st z.0 z.2 k in
        old_knew n v.version old.0 to old.1 (chosen_enough old.0 v.version old.1 old.2)

    knew_now : (phase : Phase) → x.phase ≡ phase → Reason (rows_at p s.number) s.number v e e.kind phase → KnewAt s (e ∷ p) x phase
    knew_now (Late time) to z = late_now time z.1.0 to z.0 z.1.1 z.2
    knew_now (Ends (Refused (refusals.OldProtocol n))) to z = old_now n to z
    knew_now phase to z = tt

    pub knew_step : KnewAt s p v v.phase → KnewAt s (e ∷ p) x x.phase
    knew_step was = elim (kind_reason (rows_at p s.number) s.number v e e.kind) [
      | inl same ↦ stays (ap (λ (y : Work). y.phase) b.work_is ∙ same) list
      | inr reason ↦ knew_now x.phase refl (subst (λ (y : Work). Reason (rows_at p s.number) s.number v e e.kind y.phase) (sym b.work_is) reason)
    ]
      where
        -- it ends by the next step, since it has no share to release
        no_later : IsLate v.phase → ⊥
        no_later late = go v.phase refl late was
          where
            go : (phase : Phase) → v.phase ≡ phase → IsLate phase → KnewAt s p v phase → ⊥
            go (Late time) at late k =
                let same : t ≡ lates t time = (λ i. record t { w = record v { phase = at i } }) in
                let end = late_ends t time (open_none v.number (holds p s.number) k.3.unowned) b.by.made
                (subst (λ (y : Turn). by_partner y (partner y.w.what.peer y.w.phase) ≡ Some b.by.made) same b.by.does) in
                moved_on s p e x b end.0 end.1 end.2
            go phase at late k = late

        stays : x.phase ≡ v.phase → ListOrNext v x → KnewAt s (e ∷ p) x x.phase
        stays same (inl next) = subst (KnewAt s (e ∷ p) x) (sym next) tt
        stays same (inr heard) = subst (KnewAt s (e ∷ p) x) (sym same) (knew_kept s p v e x v.phase (λ late. absurd (no_later late)) (λ part later. step_reads heard part) was)

still_of : (b : Bool) {c : Bool} → c ≡ false → (b && c) ≡ false
still_of true e = e
still_of false e = refl

-- **what it knew stands**
pub knew : SentAreRead → (s : SetUp) (past : List Entry) → OwnPast s past → (w : Work) → Member w (works past s.number) → KnewAt s past w w.phase
knew reads_back s past h w m = invariant s (λ p x. OwnPast s p → KnewAt s p x x.phase) (λ p e is x n was h. knew_kept s p x e x x.phase (λ late. ap (λ (b : Bool). b && is_step x.number e.kind) is) (still_read reads_back s p e h (clock_other s.repos p s.number e is) x n) (was (earlier s p e h))) own past h.run w m h
  where
    own : (p : List Entry) (e : Entry) → OwnRun s (e ∷ p) → is_of s.number e ≡ true → ((x : Work) → Member x (works p s.number) → OwnPast s p → KnewAt s p x x.phase)
        → (x : Work) → Origin s p e x → OwnPast s (e ∷ p) → KnewAt s (e ∷ p) x x.phase
    own p e run is was x (inl b) h = subst (λ (y : Work). KnewAt s (e ∷ p) y y.phase) (sym b.work_is) tt
    own p e run is was x (inr (inl b)) h = knew_kept s p x e x x.phase (λ late. still_of (is_of s.number e) b.still) (still_read reads_back s p e h (clock_kept s.repos p s.number e b.no_crash) x b.ran) (was x b.ran (earlier s p e h))
    own p e run is was x (inr (inr b)) h = knew_step reads_back s p e h is x b (was b.by.w (step_runs s p e x b) (earlier s p e h))
