-- Over a repository's own past: a move that is still at its transfer, though its entries tell that this is done, is to end; so a drop
-- that begins has read nothing before.
use Rattle.std.proofs.Common.{◌≡◌, ◌≢◌, ℕ, ◌+◌, ◌<◌, ◌≤◌, Bool, true, false, List, [], ◌∷◌, Option, Some, None, ◌⊎◌, inl, inr, refl, sym, ap, ◌∙◌, subst, arith}
use Rattle.std.specs.Prelude.{if◌then◌else◌, ◌&&◌, ◌||◌, ◌==◌}
use Rattle.std.proofs.lemmas.Bool.{and_right, ne_eqb}
use Rattle.annex_base.specs.Lists.{Member}
use Rattle.annex_base.proofs.Conditions.{or_first}
use Rattle.run_data.specs.declared.entry.Entry.{Entry}
use Rattle.run_data.specs.declared.entry.EntryKind.{EntryKind}
use Rattle.run_data.specs.declared.entry.EntryKind.TheVariants.{Begin, Gain, Talk, End as ends_job}
use Rattle.run_data.specs.declared.job.Job.{Job}
use Rattle.run_data.specs.declared.job.JobKind.{JobKind}
use Rattle.run_data.specs.declared.job.JobKind.TheVariants as kinds
use Rattle.run_data.specs.declared.job.Outcome.{Outcome}
use Rattle.node_model.specs.Slots.{is_begin}
use Rattle.run_model.specs.Past.{begun_count, is_of}
use Rattle.run_model.specs.Logs.{before_step, in_drop, is_drop, is_step, starts_drop}
use Rattle.node_model.specs.SetUp.{SetUp}
use Rattle.node_model.specs.Jobs
use Rattle.node_model.specs.Jobs.{Drops, Gets, Part, Phase, Puts, Work, is_move, after_failed_release, work_kind}
use Rattle.run_model.specs.States.{rows_at, works}
use Rattle.node_model.specs.AnyTime.{IsPeer}
use Rattle.run_model.specs.Run.{OwnRun}
use Rattle.step_facts.proofs.JobNumbers.{begins_next}
use Rattle.step_facts.proofs.JobSteps.{Origin, Steps, invariant, stepped_found, turn_at}
use Rattle.step_facts.proofs.WorkNumbers.{number_begun}
use Rattle.job_facts.proofs.PhaseFacts.{GoodTo}
use Rattle.job_facts.proofs.WorkFits.{step_number, step_runs, step_what, steps_good, works_fit}
use Rattle.job_facts.proofs.Untouched.{begins_later, begun_before, not_yet}
use Rattle.job_facts.proofs.Aims.{aims, kind_turns}
use Rattle.step_facts.proofs.ClientTurns.{made_entry, moved}
use Rattle.job_facts.proofs.TransferMade.{Stuck, is_end, stuck_ends}
use Rattle.job_facts.proofs.TransferStuck.{kind_stuck}

-- ---- a job whose step an entry is not

still_starts : (past : List Entry) (r j : ℕ) (e : Entry) (kind : EntryKind) → ((job : ℕ) (what : Job) → kind ≡ Begin job what → job ≢ j) → is_step j kind ≡ false → starts_drop past r j e kind ≡ false
still_starts past r j e (Begin job what) apart still = rw (ne_eqb job j (apart job what refl)) refl
still_starts past r j e (Gain source size key) apart still = still
still_starts past r j e (Talk job) apart still = rw still refl
still_starts past r j e kind apart still = refl

-- an entry that starts no drop of the job
not_started : (past : List Entry) (r j : ℕ) (e : Entry) → (is_of r e ≡ true → starts_drop past r j e e.kind ≡ false) → in_drop (e ∷ past) r j ≡ in_drop past r j
not_started past r j e none = go (is_of r e) refl (in_drop past r j)
  where
    off : (b : Bool) → (b || false) ≡ b
    off true = refl
    off false = refl

    go : (b : Bool) → is_of r e ≡ b → (was : Bool) → (was || (b && starts_drop past r j e e.kind)) ≡ was
    go true is was = rw (none is) (off was)
    go false is was = off was

begin_apart : (s : SetUp) (past : List Entry) (e : Entry) → OwnRun s (e ∷ past) → is_of s.number e ≡ true → (j : ℕ) → begun_count (e ∷ past) s.number < j → (job : ℕ) (what : Job) → e.kind ≡ Begin job what → job ≢ j
begin_apart s past e run is j later job what kind same =
    let own = run.0 is in
    let next : job ≡ begun_count past s.number + 1 = begins_next s past own.0 e own.1 job what kind in
    let begins : is_begin e.kind ≡ true = ap is_begin kind in
    let now' : begun_count (e ∷ past) s.number ≡ begun_count past s.number + 1 = rw (is, begins) refl in
    let below : begun_count past s.number + 1 < j = subst (λ n. n < j) now' later in
    absurd (omega arith)

-- a job that hasn't begun isn't in its drop
pub future_undropped : (s : SetUp) (past : List Entry) → OwnRun s past → (j : ℕ) → begun_count past s.number < j → in_drop past s.number j ≡ false
future_undropped s [] run j later = refl
future_undropped s (e ∷ past) run j later =
    let before = begun_before past e s.number j later in
    not_started past s.number j e (λ is. let own = run.0 is in still_starts past s.number j e e.kind (begin_apart s past e run is j later) (not_yet s past own.0 e run.1 own.1 j before))
    ∙ future_undropped s past run.1 j before

pub if_none : {X : Type 0} (a b c : Bool) (x : X) → c ≡ false → (if a && (b && c) then Some x else None) ≡ None
if_none true true false x e = refl
if_none true false false x e = refl
if_none false b false x e = refl
if_none a b true x e = absurd (cc)

-- a job that isn't in its drop has read nothing
pub undropped_unread : (past : List Entry) (r j : ℕ) → in_drop past r j ≡ false → before_step past r j ≡ None
undropped_unread [] r j off = refl
undropped_unread (e ∷ past) r j off =
    let was = or_first (in_drop past r j) (is_of r e && starts_drop past r j e e.kind) off in
    rw (undropped_unread past r j was, was) (if_none (is_of r e) (is_step j e.kind) false past refl)

-- it doesn't read by an entry that is none of its steps
pub still_unread : (past : List Entry) (e : Entry) (r j : ℕ) → (is_of r e ≡ true → is_step j e.kind ≡ false) → before_step past r j ≡ None → before_step (e ∷ past) r j ≡ None
still_unread past e r j still none = rw none (go (is_of r e) refl)
  where
    go : (b : Bool) → is_of r e ≡ b → (if b && (is_step j e.kind && in_drop past r j) then Some past else None) ≡ None
    go true is = rw (still is) refl
    go false is = refl

pub future_reads : (s : SetUp) (past : List Entry) → OwnRun s past → (j : ℕ) → begun_count past s.number < j → before_step past s.number j ≡ None
future_reads s past run j later = undropped_unread past s.number j (future_undropped s past run j later)

-- ---- moves at their transfer

move_no_drop : (kind : JobKind) → is_move kind ≡ true → is_drop kind ≡ false
move_no_drop kinds.Drop e = absurd (cc)
move_no_drop kind e = refl

unreleased_stuck : (w : Work) (time : ℕ) (phase : Phase) → w.phase ≡ phase → Stuck w → Stuck (after_failed_release w time phase)
unreleased_stuck w time Jobs.AsksTime is (inl end) = absurd (let no_end : is_end Jobs.AsksTime ≡ true = subst (λ p. is_end p ≡ true) is end in cc)
unreleased_stuck w time Jobs.AsksTime is (inr none) = absurd (let no_next : Jobs.AsksTime ≡ Jobs.Next = sym is ∙ none.1 in cc)
unreleased_stuck w time phase is stuck = stuck

was_transfer : (part : Part) (old : Phase) (to : Part) (phase : Phase) → GoodTo part old to phase → to ≢ Drops → part ≢ Drops
was_transfer Drops old Drops phase g apart = λ e. apart refl
was_transfer Drops old Gets phase g apart = absurd g
was_transfer Drops old Puts phase g apart = absurd g
was_transfer Gets old to phase g apart = λ e. absurd (let no_drop : Gets ≡ Drops = e in cc)
was_transfer Puts old to phase g apart = λ e. absurd (let no_drop : Puts ≡ Drops = e in cc)

abbrev Transfers : SetUp → List Entry → Work → Type 0
Transfers s past w = is_move w.what.kind ≡ true → w.part ≢ Drops → in_drop past s.number w.number ≡ true → Stuck w

-- a move has a peer
pub move_peer : (s : SetUp) (past : List Entry) → OwnRun s past → (w : Work) → Member w (works past s.number) → is_move w.what.kind ≡ true → (peer : ℕ) × (w.what.peer ≡ Some peer)
move_peer s past run w m move = go w.what.kind w.what.peer move (aims s past run w m).0
  where
    go : (kind : JobKind) (peer : Option ℕ) → is_move kind ≡ true → IsPeer s kind peer → (p : ℕ) × (peer ≡ Some p)
    go kind (Some p) is a = (p, refl)
    go kinds.MoveTo None is a = absurd (cc)
    go kinds.MoveFrom None is a = absurd (cc)
    go kind None is a = absurd (cc)

-- the entry that a job made, and what its work is then
pub entry_moved : (s : SetUp) (past : List Entry) (e : Entry) (x : Work) (b : Steps s past e x) → x ≡ moved (turn_at s past e b.by) b.by.made b.by.made.kind
entry_moved s past e x b = b.work_is ∙ (let entry : e ≡ made_entry (turn_at s past e b.by) b.by.made = b.by.is in (λ i. work_kind (rows_at past s.number) s.number b.by.w (entry i) (entry i).kind))

-- it doesn't end its job
pub moved_on : (s : SetUp) (past : List Entry) (e : Entry) (x : Work) (b : Steps s past e x) → (j : ℕ) (outcome : Outcome) → b.by.made.kind ≢ ends_job j outcome
moved_on s past e x b j outcome k = b.goes_on j outcome (ap (λ (y : Entry). y.kind) b.by.is ∙ k)

-- a step of a job that is to end leaves it there
stuck_stays : (s : SetUp) (past : List Entry) (e : Entry) (x : Work) (b : Steps s past e x) → b.by.w.part ≢ Drops → Stuck b.by.w → (x.part ≡ b.by.w.part) × Stuck x
stuck_stays s past e x b apart stuck = elim (stuck_ends (turn_at s past e b.by) apart b.by.made stuck b.by.does) [
  | inl end ↦ absurd (moved_on s past e x b end.0 end.1 end.2)
  | inr fault ↦ (let after : x ≡ after_failed_release b.by.w b.by.look.time b.by.w.phase = entry_moved s past e x b ∙ ap (moved (turn_at s past e b.by) b.by.made) fault.1 in
      (ap (λ (y : Work). y.part) after ∙ same b.by.w b.by.look.time b.by.w.phase, subst Stuck (sym after) (unreleased_stuck b.by.w b.by.look.time b.by.w.phase refl stuck)))
]
  where
    same : (w : Work) (time : ℕ) (phase : Phase) → (after_failed_release w time phase).part ≡ w.part
    same w time Jobs.AsksTime = refl
    same w time phase = refl

-- **a move at its transfer that its entries tell is done is to end**
pub transfers_stuck : (s : SetUp) (past : List Entry) → OwnRun s past → (w : Work) → Member w (works past s.number) → Transfers s past w
transfers_stuck s past run w m = invariant s (λ p x. Transfers s p x)
    (λ p e is x n was move apart drops. was move apart (sym (not_started p s.number x.number e (λ own. let no_own : true ≡ false = sym own ∙ is in absurd (cc))) ∙ drops)) own past run w m
  where
    own : (p : List Entry) (e : Entry) → OwnRun s (e ∷ p) → is_of s.number e ≡ true → ((x : Work) → Member x (works p s.number) → Transfers s p x) → (x : Work) → Origin s p e x → Transfers s (e ∷ p) x
    own p e r is was x (inl b) move apart drops =
        let kind : is_move b.what.kind ≡ true = subst (λ (y : Work). is_move y.what.kind ≡ true) b.work_is move in
        let starts : starts_drop p s.number x.number e e.kind ≡ false = ap (starts_drop p s.number x.number e) b.kind_is ∙ and_right (b.job == x.number) (is_drop b.what.kind) (move_no_drop b.what.kind kind) in
        let none : in_drop (e ∷ p) s.number x.number ≡ false = not_started p s.number x.number e (λ own. starts) ∙ future_undropped s p r.1 x.number (begins_later s p e r is x b) in
        absurd (let both : true ≡ false = sym drops ∙ none in cc)
    own p e r is was x (inr (inl b)) move apart drops =
        let mine = r.0 is in
        let below : x.number ≤ begun_count p s.number = number_begun s p r.1 x b.ran in
        was x b.ran move apart (sym (not_started p s.number x.number e (λ own. still_starts p s.number x.number e e.kind
        (λ job what kind same. let next : job ≡ begun_count p s.number + 1 = begins_next s p mine.0 e mine.1 job what kind in absurd (omega arith)) b.still)) ∙ drops)
    own p e r is was x (inr (inr b)) move apart drops =
        let v = b.by.w in
        let runs = step_runs s p e x b in
        let turn = turn_at s p e b.by in
        let made = b.by.made in
        let v_move : is_move v.what.kind ≡ true = subst (λ (q : Job). is_move q.kind ≡ true) (step_what s p e x b) move in
        let v_apart : v.part ≢ Drops = was_transfer v.part v.phase x.part x.phase (steps_good s p e x b (works_fit s p r.1 v runs)) apart in
        let after = entry_moved s p e x b in
        let now' : (in_drop p s.number v.number || (is_of s.number e && starts_drop p s.number v.number e e.kind)) ≡ true = subst (λ n. in_drop (e ∷ p) s.number n ≡ true) (step_number s p e x b) drops in
        elim (or_was (in_drop p s.number v.number) (is_of s.number e) (starts_drop p s.number v.number e e.kind) now') [
          | inl old ↦ (stuck_stays s p e x b v_apart (was v runs v_move v_apart old)).1
          | inr starts ↦ subst Stuck (sym after) (kind_stuck turn made b.by.does v_apart v_move (move_peer s p r.1 v runs v_move) p s.number made.kind refl (stepped_found s p e b.by).found (moved_on s p e x b)
              (subst (λ (y : Entry). starts_drop p s.number v.number y y.kind ≡ true) b.by.is starts) (λ d. apart (ap (λ (y : Work). y.part) after ∙ d)))
        ]
      where
        or_was : (a b c : Bool) → (a || (b && c)) ≡ true → (a ≡ true) ⊎ (c ≡ true)
        or_was true b c h = inl refl
        or_was false true c h = inr h
        or_was false false c h = absurd (cc)

-- **so a move that comes to its drop has read nothing before**
pub comes_unread : (s : SetUp) (past : List Entry) (e : Entry) → OwnRun s past → (x : Work) (b : Steps s past e x) → b.by.w.part ≢ Drops → x.part ≡ Drops → before_step (e ∷ past) s.number x.number ≡ None
comes_unread s past e run x b apart part = subst (λ n. before_step (e ∷ past) s.number n ≡ None) (sym (step_number s past e x b)) (go (in_drop past s.number v.number) refl)
  where
    v : Work
    v = b.by.w

    move : is_move b.by.w.what.kind ≡ true
    move = elim (kind_turns (rows_at past s.number) s.number b.by.w e e.kind) [
      | inl same ↦ absurd (apart (sym same ∙ sym (ap (λ (y : Work). y.part) b.work_is) ∙ part))
      | inr is ↦ is
    ]

    go : (d : Bool) → in_drop past s.number v.number ≡ d → before_step (e ∷ past) s.number v.number ≡ None
    go true is = let stays = stuck_stays s past e x b apart (transfers_stuck s past run v (step_runs s past e x b) move apart is) in absurd (apart (sym stays.0 ∙ part))
    go false is = rw (undropped_unread past s.number v.number is, is) (if_none (is_of s.number e) (is_step v.number e.kind) false past refl)
