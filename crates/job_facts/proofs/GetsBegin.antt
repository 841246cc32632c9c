-- A get that is to begin has made no step: its first step brings it to another phase, or to its drop.
use Rattle.std.proofs.Common.{◌≡◌, ◌≢◌, ℕ, ◌<◌, Bool, true, false, List, [], ◌∷◌, Option, Some, None, inl, inr, refl, sym, ap, ◌∙◌, subst}
use Rattle.std.specs.Prelude.{nat_lt, if◌then◌else◌, ◌&&◌, ◌||◌, filter, map, not}
use Rattle.std.specs.List.{list_all, list_any}
use Rattle.std.proofs.lemmas.Bool.{or_parts}
use Rattle.annex_base.specs.Lists.{Each, Member}
use Rattle.annex_base.specs.declared.kinds.Call.{Call}
use Rattle.annex_base.proofs.Lists.{Each-filter}
use Rattle.annex_base.proofs.Conditions.{if_either}
use Rattle.annex_base.specs.declared.kinds.Call.TheVariants as calls
use Rattle.run_data.specs.declared.entry.By.{By}
use Rattle.run_data.specs.declared.entry.By.TheVariants.{Script, Job as by_job, Peer}
use Rattle.run_data.specs.declared.entry.Entry.{Entry}
use Rattle.run_data.specs.declared.entry.EntryKind.{EntryKind}
use Rattle.run_data.specs.declared.entry.EntryKind.TheVariants.{Share, Release, Close, Crash, Fault, End as ends_job}
use Rattle.run_data.specs.declared.entry.FrameText.TheVariants.{Opening}
use Rattle.run_data.specs.declared.job.Outcome.{Outcome}
use Rattle.run_data.specs.declared.job.Outcome.TheVariants as outcomes
use Rattle.run_data.specs.declared.job.TransferRefusal.TheVariants as failures
use Rattle.run_data.specs.declared.row.Hold.{Hold}
use Rattle.run_model.specs.Past.{begun_count, holds, is_of}
use Rattle.node_model.specs.Rows.{holds_after, is_lost_ordered, keep_of, option_is, same_owner, restart}
use Rattle.run_model.specs.Frames
use Rattle.run_model.specs.Frames.{is_job}
use Rattle.node_model.specs.Slots.{job_by, job_of}
use Rattle.run_model.specs.Logs.{has_stepped, is_step}
use Rattle.p2p_wire.specs.declared.message.Message.TheVariants.{Get}
use Rattle.p2p_wire.specs.Messages.{message_of, text_of}
use Rattle.node_model.specs.SetUp.{SetUp}
use Rattle.node_model.specs.Jobs.{Drops, Fresh, Gets, Part, Phase, Puts, Work, first_look, is_move, partner, says_some, work_kind}
use Rattle.run_model.specs.States.{rows_at, works}
use Rattle.node_model.specs.Calls.{to_release, to_read, to_resume}
use Rattle.node_model.specs.Look.{Effect}
use Rattle.annex_base.specs.Calls.{same_call}
use Rattle.step_facts.proofs.Below.{SentAreRead}
use Rattle.node_model.specs.JobStep.{Turn, by_me, end_with, ends, farewells, is_there, key_of, me, owns_share, quietly, says_to, sends_to, talk}
use Rattle.node_model.specs.Requests.{asks, goes_to}
use Rattle.node_model.specs.TransferStep.{first_get, next_source}
use Rattle.node_model.specs.Turns.{by_partner, goes, goes_on, has_room, needs}
use Rattle.run_model.specs.Run.{OwnRun}
use Rattle.step_facts.proofs.Spoken.{get_read}
use Rattle.step_facts.proofs.JobSteps.{Origin, Stepped, Steps, invariant, turn_at}
use Rattle.job_facts.proofs.PhaseFacts.{GoodTo, is_fresh}
use Rattle.job_facts.proofs.WorkFits.{step_runs, steps_good, works_fit}
use Rattle.job_facts.proofs.Untouched.{asks_by, asks_copy, begin_still, begins_later, begun_before, fresh_is, has_asked, is_share, not_yet}
use Rattle.step_facts.proofs.ClientTurns.{made_entry, moved}
use Rattle.step_facts.proofs.ClientSteps.{attempts_even}

-- ---- a job that hasn't begun has made no step

pub unstepped : (s : SetUp) (past : List Entry) → OwnRun s past → (j : ℕ) → begun_count past s.number < j → has_stepped past s.number j ≡ false
unstepped s [] run j later = refl
unstepped s (e ∷ past) run j later = go (unstepped s past run.1 j (begun_before past e s.number j later)) (is_of s.number e) refl
  where
    go : has_stepped past s.number j ≡ false → (b : Bool) → is_of s.number e ≡ b → has_stepped (e ∷ past) s.number j ≡ false
    go x false is = rw is x
    go x true is = let own = run.0 is in rw (is, not_yet s past own.0 e run.1 own.1 j (begun_before past e s.number j later)) x

-- ---- a job that has made no step, or asked for no copy, has no share

abbrev pub Unheld : ℕ → List Hold → Type 0
Unheld j hs = Each (λ h. same_owner h.owner (by_job j) ≡ false) hs

unheld_map : (j : ℕ) (f : Hold → Hold) (hs : List Hold) → ((h : Hold) → (f h).owner ≡ h.owner) → Unheld j hs → Unheld j (map f hs)
unheld_map j f [] same a = tt
unheld_map j f (h ∷ hs) same a = (ap (λ (b : By). same_owner b (by_job j)) (same h) ∙ a.0, unheld_map j f hs same a.1)

keep_owner : (owner : By) (h : Hold) → (keep_of owner h).owner ≡ h.owner
keep_owner owner h = if_either (λ (x : Hold). x.owner ≡ h.owner) (same_owner h.owner owner) (record h { kept = true }) h (λ e. refl) (λ e. refl)

unheld_after : (j : ℕ) (was : List Hold) (kind : EntryKind) → (is_share kind ≡ true → option_is (job_of kind) j ≡ false) → Unheld j was → Unheld j (holds_after was kind)
unheld_after j was (Share number end owner k) still a = (other owner (still refl), a)
  where
    other : (owner : By) → option_is (job_by owner) j ≡ false → same_owner owner (by_job j) ≡ false
    other Script e = refl
    other (by_job i) e = e
    other (Peer p q) e = refl
unheld_after j was (Release number k) still a = Each-filter (λ (h : Hold). same_owner h.owner (by_job j) ≡ false) _ was a
unheld_after j was (Close peer slot client) still a =
    if_either (Unheld j) client was (map (keep_of (Peer peer slot)) was) (λ e. a) (λ e. unheld_map j (keep_of (Peer peer slot)) was (keep_owner (Peer peer slot)) a)
unheld_after j was (Fault calls.Unhold owner) still a = unheld_map j (keep_of owner) was (keep_owner owner) a
unheld_after j was (ends_job job outcome) still a =
    if_either (Unheld j) (is_lost_ordered outcome) (map (keep_of (by_job job)) was) (filter (λ h. h.kept || not (same_owner h.owner (by_job job))) was)
    (λ e. unheld_map j (keep_of (by_job job)) was (keep_owner (by_job job)) a) (λ e. Each-filter (λ (h : Hold). same_owner h.owner (by_job j) ≡ false) _ was a)
unheld_after j was (Crash clock) still a = unheld_map j (restart clock) was (λ h. refl) a
unheld_after j was kind still a = a

pub unheld : (past : List Entry) (r j : ℕ) → has_stepped past r j ≡ false → Unheld j (holds past r)
unheld [] r j none = tt
unheld (e ∷ past) r j none =
    let both = or_parts (is_of r e && is_step j e.kind) (has_stepped past r j) none in
    go (unheld past r j both.1) both.0 (is_of r e) refl
  where
    step_free : (kind : EntryKind) → is_step j kind ≡ false → is_share kind ≡ true → option_is (job_of kind) j ≡ false
    step_free (Share number end owner key) still share = still
    step_free kind still share = absurd (cc)

    go : Unheld j (holds past r) → (is_of r e && is_step j e.kind) ≡ false → (b : Bool) → is_of r e ≡ b → Unheld j (holds (e ∷ past) r)
    go a still true is = rw is (unheld_after j (holds past r) e.kind (step_free e.kind (rw is at still)) a)
    go a still false is = rw is a

pub unasked_unheld : (past : List Entry) (r j : ℕ) → has_asked past r j ≡ false → Unheld j (holds past r)
unasked_unheld [] r j none = tt
unasked_unheld (e ∷ past) r j none = go (unasked_unheld past r j two.1) (is_of r e) refl
  where
    two : ((is_job r j e && asks_by e.kind e.sent) ≡ false) × (has_asked past r j ≡ false)
    two = or_parts (is_job r j e && asks_by e.kind e.sent) (has_asked past r j) none

    off : (a b c d : Bool) → a ≡ true → (a && b && (c || d)) ≡ false → c ≡ true → b ≡ false
    off true false c d i n s = refl
    off true true true d i n s = n
    off true true false d i n s = absurd (cc)
    off false b c d i n s = absurd (cc)

    go : Unheld j (holds past r) → (b : Bool) → is_of r e ≡ b → Unheld j (holds (e ∷ past) r)
    go a true is = rw is (unheld_after j (holds past r) e.kind (λ s. off (is_of r e) (option_is (job_of e.kind) j) (is_share e.kind) (list_any (Frames.says asks_copy) e.sent) is two.0 s) a)
    go a false is = rw is a

pub owns_none : (j : ℕ) (hs : List Hold) → Unheld j hs → list_any (λ h. same_owner h.owner (by_job j) && not h.kept) hs ≡ false
owns_none j [] a = refl
owns_none j (h ∷ hs) a = rw a.0 (owns_none j hs a.1)

-- ---- its first step

pub no_release : (b c : Bool) → b ≡ false → (call : Call) → list_any (same_call call) (to_release (b && c)) ≡ true → ⊥
no_release true c e call h = absurd (cc)
no_release false c e call h = absurd (cc)

module _ (before : Turn) where
  -- a get that is to begin
  abbrev t : Turn
  t = record before { w = record before.w { part = Gets; phase = Fresh } }

  -- it goes to another part, or to another phase
  abbrev Leaves : Effect → EntryKind → Type 0
  Leaves m (ends_job j outcome) = Unit {0}
  Leaves m kind = (moved t m kind).part ≡ Gets → is_fresh (moved t m kind).phase ≡ false

  abbrev LeavesBy : Effect → Type 0
  LeavesBy m = Leaves m m.kind

  fault_leaves : (cs : List Call) → list_any (same_call calls.PutFile) cs ≡ false → list_any (same_call calls.Unhold) cs ≡ false → (call : Call) → list_any (same_call call) cs ≡ true
      → LeavesBy (quietly (Fault call (by_me t)) None)
  fault_leaves cs a b calls.PutFile e = absurd (let both : true ≡ false = sym e ∙ a in cc)
  fault_leaves cs a b calls.Unhold e = absurd (let both : true ≡ false = sym e ∙ b in cc)
  fault_leaves cs a b call e = λ p. refl

  look_leaves : (r : ℕ) (w : Work) (here : Bool) (bar : Option ℕ) → w.part ≡ Gets → (first_look r w Gets here bar).part ≡ Gets → is_fresh (first_look r w Gets here bar).phase ≡ false
  look_leaves r w true bar gets = if_either (λ (x : Work). x.part ≡ Gets → is_fresh x.phase ≡ false) (is_move w.what.kind) (record w { part = Drops; phase = Fresh; fills = false })
      (record w { phase = Rattle.node_model.specs.Jobs.Ends (outcomes.Got None None); fills = false }) (λ e p. absurd (let no_part : Drops ≡ Gets = p in cc)) (λ e p. refl)
  look_leaves r w false bar gets = λ p. refl

  quiet_leaves : LeavesBy (quietly (talk t) None)
  quiet_leaves = look_leaves (me t) (record t.w { fills = true }) (is_there t) (t.bar (key_of t)) refl

  module _ (none : owns_share t ≡ false) (read : message_of (text_of (Get t.look.part [] (key_of t))) ≡ Some (Get t.look.part [] (key_of t))) where
    ends_leaves : (outcome : Outcome) → LeavesBy (ends t None outcome)
    ends_leaves outcome = attempts_even LeavesBy t (to_release (owns_share t && not (is_lost_ordered outcome))) None
        (record { kind = ends_job t.w.number outcome; taken = None; sent = farewells t (is_lost_ordered outcome); lines = []; calls = [] })
        (λ call e. absurd (no_release (owns_share t) (not (is_lost_ordered outcome)) none call e)) tt

    -- neither of the calls is this one
    resumes_without : (call : Call) → same_call call calls.PartSize ≡ false → same_call call calls.ReadPart ≡ false → (reads : Bool)
        → list_any (same_call call) (calls.PartSize ∷ to_read reads) ≡ false
    resumes_without call a b true = rw a (rw b refl)
    resumes_without call a b false = rw a refl

    goes_leaves : (peer : ℕ) → LeavesBy (goes_to t peer)
    goes_leaves peer = if_either LeavesBy (end_with t peer).opened (asks t t.w.version None peer Gets) (sends_to t (talk t) None peer (Opening ∷ []))
        (λ e. attempts_even LeavesBy t (to_resume t.look.part) None (says_to t (talk t) None peer (Get t.look.part [] (key_of t))) (fault_leaves (to_resume t.look.part) (resumes_without calls.PutFile refl refl (nat_lt 0 t.look.part)) (resumes_without calls.Unhold refl refl (nat_lt 0 t.look.part)))
        (λ p. ap (λ o. is_fresh (says_some (record t.w { fills = true }) t.look.time peer None o).phase) read))
        (λ e p. refl)

    get_leaves : (here filled : Bool) (source : Option ℕ) → LeavesBy (first_get t here filled source)
    get_leaves true filled source = if_either LeavesBy (is_move t.w.what.kind) (quietly (talk t) None) (ends t None (outcomes.Got None None)) (λ e. quiet_leaves) (λ e. ends_leaves (outcomes.Got None None))
    get_leaves false true source = ends_leaves (outcomes.TransferRefused failures.Busy)
    get_leaves false false None = quiet_leaves
    get_leaves false false (Some peer) = goes_leaves peer

    first_leaves : (m : Effect) → by_partner t (partner t.w.what.peer t.w.phase) ≡ Some m → LeavesBy m
    first_leaves m e = go (list_all (has_room t) (needs t Fresh)) e
      where
        go : (b : Bool) → (if b then Some (goes t Fresh) else None) ≡ Some m → LeavesBy m
        go false g = absurd (cc)
        go true g =
            let same : goes t Fresh ≡ m = cc in
            subst LeavesBy same (attempts_even LeavesBy t (calls.Has ∷ []) None (first_get t (is_there t) (t.filled (key_of t)) (next_source t)) (fault_leaves (calls.Has ∷ []) refl refl)
            (get_leaves (is_there t) (t.filled (key_of t)) (next_source t)))

-- the step of a get that is to begin, where it has no share
stepped_leaves : SentAreRead → (s : SetUp) (past : List Entry) (e : Entry) (x : Stepped s past e) → OwnRun s past → Member x.w (works past s.number) → x.w.part ≡ Gets → x.w.phase ≡ Fresh
    → owns_share (turn_at s past e x) ≡ false → Leaves (turn_at s past e x) x.made x.made.kind
stepped_leaves reads_back s past e x h runs part fresh none =
    first_leaves (turn_at s past e x) none (get_read reads_back s past h x.w runs x.look.part x.small) x.made
    (subst (λ (y : Turn). by_partner y (partner y.w.what.peer y.w.phase) ≡ Some x.made) same x.does)
  where
    same : turn_at s past e x ≡ t (turn_at s past e x)
    same i = record (turn_at s past e x) { w = record x.w { part = part i; phase = fresh i } }

-- ---- over the run

gets_before : (part : Part) (old : Phase) (to : Part) (phase : Phase) → GoodTo part old to phase → to ≡ Gets → is_fresh phase ≡ true → (part ≡ Gets) × (is_fresh old ≡ true)
gets_before Gets old Gets phase g is fresh = (refl, go (is_fresh old) refl)
  where
    go : (b : Bool) → is_fresh old ≡ b → b ≡ true
    go true e = refl
    go false e = let later = g.1 e in absurd (cc)
gets_before Gets old Puts phase g is fresh = absurd g
gets_before Gets old Drops phase g is fresh = absurd (cc)
gets_before Puts old Gets phase g is fresh = absurd g
gets_before Puts old Puts phase g is fresh = absurd (cc)
gets_before Puts old Drops phase g is fresh = absurd (cc)
gets_before Drops old Gets phase g is fresh = absurd g
gets_before Drops old Puts phase g is fresh = absurd g
gets_before Drops old Drops phase g is fresh = absurd (cc)

leaves_is : (before : Turn) (m : Effect) (kind : EntryKind) → ((j : ℕ) (outcome : Outcome) → kind ≢ ends_job j outcome) → Leaves before m kind
    → (moved (t before) m kind).part ≡ Gets → is_fresh (moved (t before) m kind).phase ≡ false
leaves_is before m (ends_job j outcome) goes_on leaves = absurd (goes_on j outcome refl)
leaves_is before m kind goes_on leaves = leaves

-- a get that is to begin made no such step
no_first : SentAreRead → (s : SetUp) (past : List Entry) (e : Entry) (x : Work) (b : Steps s past e x) → OwnRun s past → has_stepped past s.number b.by.w.number ≡ false → b.by.w.part ≡ Gets → b.by.w.phase ≡ Fresh
    → x.part ≡ Gets → is_fresh x.phase ≡ false
no_first reads_back s past e x b h none part fresh is =
    let turn = turn_at s past e b.by in
    let m = b.by.made in
    let entry : e ≡ made_entry (t turn) m = b.by.is in
    let w_is : b.by.w ≡ (t turn).w = (λ i. record b.by.w { part = part i; phase = fresh i }) in
    let after : x ≡ moved (t turn) m m.kind = b.work_is ∙ (λ i. work_kind (rows_at past s.number) s.number (w_is i) (entry i) (entry i).kind) in
    let unowned : owns_share turn ≡ false = owns_none b.by.w.number (holds past s.number) (unheld past s.number b.by.w.number none) in
    let leaves = stepped_leaves reads_back s past e b.by h (step_runs s past e x b) part fresh unowned in
    let not_end : (j : ℕ) (outcome : Outcome) → m.kind ≢ ends_job j outcome = (λ j outcome k. b.goes_on j outcome (ap (λ (y : Entry). y.kind) entry ∙ k)) in
    ap (λ (y : Work). is_fresh y.phase) after ∙ leaves_is turn m m.kind not_end leaves (sym (ap (λ (y : Work). y.part) after) ∙ is)

-- a get that is to begin has made no step
pub no_step : SentAreRead → (s : SetUp) (past : List Entry) → OwnRun s past → (w : Work) → Member w (works past s.number) → w.part ≡ Gets → w.phase ≡ Fresh → has_stepped past s.number w.number ≡ false
no_step reads_back s past run w m part fresh =
    invariant s (λ p x. x.part ≡ Gets → x.phase ≡ Fresh → has_stepped p s.number x.number ≡ false) (λ p e is x n was part fresh. rw is (was part fresh)) own past run w m part fresh
  where
    own : (p : List Entry) (e : Entry) → OwnRun s (e ∷ p) → is_of s.number e ≡ true → ((x : Work) → Member x (works p s.number) → x.part ≡ Gets → x.phase ≡ Fresh → has_stepped p s.number x.number ≡ false)
        → (x : Work) → Origin s p e x → x.part ≡ Gets → x.phase ≡ Fresh → has_stepped (e ∷ p) s.number x.number ≡ false
    own p e r is was x (inl b) part fresh = rw (is, begin_still s p e x b) (unstepped s p r.1 x.number (begins_later s p e r is x b))
    own p e r is was x (inr (inl b)) part fresh = rw (is, b.still) (was x b.ran part fresh)
    own p e r is was x (inr (inr b)) part fresh =
        let v = b.by.w in
        let runs = step_runs s p e x b in
        let now : is_fresh x.phase ≡ true = ap is_fresh fresh in
        let old = gets_before v.part v.phase x.part x.phase (steps_good s p e x b (works_fit s p r.1 v runs)) part now in
        let first : v.phase ≡ Fresh = fresh_is v.phase old.1 in
        let later : is_fresh x.phase ≡ false = no_first reads_back s p e x b r.1 (was v runs old.0 first) old.0 first part in
        absurd (let both : true ≡ false = sym now ∙ later in cc)
