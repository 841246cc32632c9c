-- The first step of a job, and of its drop, leaves its place: so where it stands there, it has made none.
use Rattle.node_model.specs.Clocks.{hold_time}
use Rattle.std.proofs.Common.{◌≡◌, ◌≢◌, ℕ, ◌+◌, Bool, true, false, List, [], ◌∷◌, Option, Some, None, inl, inr, refl, sym, ap, ◌∙◌, subst}
use Rattle.std.specs.Prelude.{if◌then◌else◌, ◌&&◌, not}
use Rattle.std.specs.List.{list_all, list_any}
use Rattle.annex_base.specs.Lists.{Member}
use Rattle.annex_base.specs.declared.kinds.Call.{Call}
use Rattle.annex_base.proofs.Conditions.{if_either}
use Rattle.annex_base.specs.declared.kinds.Call.TheVariants as calls
use Rattle.drop_proof.specs.declared.rule.Side.{Side}
use Rattle.drop_proof.specs.declared.rule.Side.TheVariants.{Local, Remote}
use Rattle.run_data.specs.declared.entry.Entry.{Entry}
use Rattle.run_data.specs.declared.entry.EntryKind.{EntryKind}
use Rattle.run_data.specs.declared.entry.EntryKind.TheVariants.{Fault, End as ends_job}
use Rattle.run_data.specs.declared.entry.FrameText.TheVariants.{Opening}
use Rattle.run_data.specs.declared.job.DropRefusal.{DropRefusal}
use Rattle.run_data.specs.declared.job.Outcome.{Outcome}
use Rattle.run_data.specs.declared.job.Outcome.TheVariants.{Refused, TransferRefused}
use Rattle.run_data.specs.declared.job.DropRefusal.TheVariants as refusals
use Rattle.run_data.specs.declared.job.TransferRefusal.TheVariants as failures
use Rattle.run_data.specs.declared.job.Job.{Job}
use Rattle.run_data.specs.declared.job.JobKind.{JobKind as KindOfJob}
use Rattle.run_data.specs.declared.job.JobKind.TheVariants as kinds
use Rattle.run_model.specs.Causes.{is_get, is_put}
use Rattle.node_model.specs.Slots.{RunningJob}
use Rattle.run_model.specs.Past.{holds, is_of}
use Rattle.node_model.specs.Rows.{is_lost_ordered}
use Rattle.node_model.specs.Evidence.{Standing, Asked}
use Rattle.run_model.specs.Logs.{before_step, has_stepped, in_drop, is_step}
use Rattle.node_model.specs.Look.{Effect}
use Rattle.annex_base.specs.Calls.{same_call}
use Rattle.step_facts.proofs.Below.{SentAreRead}
use Rattle.p2p_wire.specs.declared.message.Message.TheVariants.{Put}
use Rattle.p2p_wire.specs.Messages.{message_of, text_of}
use Rattle.node_model.specs.SetUp.{SetUp}
use Rattle.node_model.specs.Jobs.{Drops, Fresh, Gets, Part, Phase, Puts, Work, drop_side, first_look, first_part, partner, running_job, says_some, side_of, work_kind}
use Rattle.run_model.specs.States.{rows_at, works}
use Rattle.node_model.specs.Calls.{to_hold, to_release}
use Rattle.node_model.specs.JobStep.{Turn, bar_there, by_me, clock_of, end_with, ends, farewells, is_there, key_of, me, owns_share, quietly, sends_to, talk}
use Rattle.node_model.specs.DropStep.{bars, first_drop, first_remote, held_until, own_share, required_there, row_refusal, shares, tries_own}
use Rattle.node_model.specs.Requests.{asks, goes_to}
use Rattle.node_model.specs.TransferStep.{first_put}
use Rattle.node_model.specs.Turns.{by_partner, goes, goes_on, has_room, needs}
use Rattle.run_model.specs.Run.{OwnPast, OwnRun}
use Rattle.step_facts.proofs.Spoken.{put_read}
use Rattle.step_facts.proofs.JobSteps.{Origin, Steps, invariant, turn_at}
use Rattle.step_facts.proofs.JobKept.{kind_kept}
use Rattle.job_facts.proofs.PhaseFacts.{GoodTo, is_fresh}
use Rattle.job_facts.proofs.WorkFits.{step_number, step_runs, steps_good, works_fit}
use Rattle.job_facts.proofs.Untouched.{begin_still, begins_later, fresh_is}
use Rattle.job_facts.proofs.Starts.{starts_unasked}
use Rattle.step_facts.proofs.ClientTurns.{made_entry, moved}
use Rattle.step_facts.proofs.ClientSteps.{attempts_even}
use Rattle.job_facts.proofs.GetsBegin.{no_release, owns_none, unasked_unheld, unstepped}
use Rattle.step_facts.proofs.BySteps.{earlier}
use Rattle.job_facts.proofs.NotDropping.{if_none, undropped_unread}
use Rattle.std.proofs.lemmas.Bool.{or_parts}
use Rattle.std.specs.Option.{option_or}

-- a job that is to begin its part, at another phase afterwards
abbrev pub at_start : Part → Turn → Turn
at_start part before = record before { w = record before.w { part = part; phase = Fresh } }

abbrev pub Off : Turn → Effect → EntryKind → Type 0
Off t m (ends_job j outcome) = Unit {0}
Off t m kind = is_fresh (moved t m kind).phase ≡ false

abbrev OffBy : Turn → Effect → Type 0
OffBy t m = Off t m m.kind

pub plain_call : (cs : List Call) → list_any (same_call calls.PutFile) cs ≡ false → list_any (same_call calls.Unhold) cs ≡ false → (P : Call → Type 0) → ((call : Call) → call ≢ calls.PutFile → call ≢ calls.Unhold → P call) → (call : Call) → list_any (same_call call) cs ≡ true → P call
plain_call cs a b P good calls.PutFile e = absurd (let both : true ≡ false = sym e ∙ a in cc)
plain_call cs a b P good calls.Unhold e = absurd (let both : true ≡ false = sym e ∙ b in cc)
plain_call cs a b P good call e = good call (λ h. cc) (λ h. cc)

ends_off : (t : Turn) → owns_share t ≡ false → (outcome : Outcome) → OffBy t (ends t None outcome)
ends_off t none outcome = attempts_even (OffBy t) t (to_release (owns_share t && not (is_lost_ordered outcome))) None
    (record { kind = ends_job t.w.number outcome; taken = None; sent = farewells t (is_lost_ordered outcome); lines = []; calls = [] })
    (λ call e. absurd (no_release (owns_share t) (not (is_lost_ordered outcome)) none call e)) tt

-- ---- a copy

module _ (before : Turn) (none : owns_share before ≡ false) where
  abbrev p : Turn
  p = at_start Puts before

  put_fault : (call : Call) → call ≢ calls.PutFile → call ≢ calls.Unhold → OffBy p (quietly (Fault call (by_me p)) None)
  put_fault calls.PutFile a b = absurd (a refl)
  put_fault calls.Unhold a b = absurd (b refl)
  put_fault call a b = refl

  module _ (read : message_of (text_of (Put [] (key_of p))) ≡ Some (Put [] (key_of p))) where
    put_goes : (peer : ℕ) → OffBy p (goes_to p peer)
    put_goes peer = if_either (OffBy p) (end_with p peer).opened (asks p p.w.version None peer Puts) (sends_to p (talk p) None peer (Opening ∷ []))
        (λ e. ap (λ o. is_fresh (says_some p.w p.look.time peer None o).phase) read) (λ e. refl)

    put_first : (here : Bool) (peer : Option ℕ) → OffBy p (first_put p here peer)
    put_first true (Some peer) = put_goes peer
    put_first true None = ends_off p none (TransferRefused failures.NotHere)
    put_first false peer = ends_off p none (TransferRefused failures.NotHere)

    put_off : (m : Effect) → by_partner p None ≡ Some m → OffBy p m
    put_off m e = go (list_all (has_room p) (needs p Fresh)) e
      where
        go : (b : Bool) → (if b then Some (goes p Fresh) else None) ≡ Some m → OffBy p m
        go false g = absurd (cc)
        go true g =
            let same : goes p Fresh ≡ m = cc in
            subst (OffBy p) same (attempts_even (OffBy p) p (calls.Has ∷ []) None (first_put p (is_there p) p.w.what.peer)
            (plain_call (calls.Has ∷ []) refl refl (λ call. OffBy p (quietly (Fault call (by_me p)) None)) put_fault) (put_first (is_there p) p.w.what.peer))

-- ---- a drop

module _ (before : Turn) (none : owns_share before ≡ false) where
  abbrev d : Turn
  d = at_start Drops before

  drop_fault : (call : Call) → call ≢ calls.PutFile → call ≢ calls.Unhold → OffBy d (quietly (Fault call (by_me d)) None)
  drop_fault calls.PutFile a b = absurd (a refl)
  drop_fault calls.Unhold a b = absurd (b refl)
  drop_fault call a b = go call (side_of d.w)
    where
      go : (call : Call) (side : Side) → is_fresh (Rattle.node_model.specs.Jobs.fault_phase (me d) d.w Drops side Fresh).phase ≡ false
      go call Remote = refl
      go call Local = refl

  drop_quiet : OffBy d (quietly (talk d) None)
  drop_quiet = go (is_there d) (d.bar (key_of d))
    where
      go : (here : Bool) (bar : Option ℕ) → is_fresh (first_look (me d) d.w Drops here bar).phase ≡ false
      go here bar = refl

  drop_bars : (refusal : Option DropRefusal) → OffBy d (bars d refusal)
  drop_bars (Some refusal) = ends_off d none (Refused refusal)
  drop_bars None = refl

  drop_shares : OffBy d (shares d)
  drop_shares = attempts_even (OffBy d) d (to_hold (is_there d) (bar_there d)) None (made_of (is_there d) (bar_there d)) (bad (is_there d) (bar_there d)) (go (is_there d) (bar_there d))
    where
      made_of : Bool → Option ℕ → Effect
      made_of here bar = quietly (own_share (d.number) (clock_of d + hold_time) d.w.number (key_of d) (talk d) (by_me d) here bar) None

      bad : (here : Bool) (bar : Option ℕ) (call : Call) → list_any (same_call call) (to_hold here bar) ≡ true → OffBy d (quietly (Fault call (by_me d)) None)
      bad true None = plain_call (calls.Has ∷ calls.Hold ∷ []) refl refl (λ call. OffBy d (quietly (Fault call (by_me d)) None)) drop_fault
      bad true (Some i) = plain_call (calls.Has ∷ []) refl refl (λ call. OffBy d (quietly (Fault call (by_me d)) None)) drop_fault
      bad false bar = plain_call (calls.Has ∷ []) refl refl (λ call. OffBy d (quietly (Fault call (by_me d)) None)) drop_fault

      go : (here : Bool) (bar : Option ℕ) → OffBy d (made_of here bar)
      go false bar = drop_quiet
      go true (Some i) = drop_quiet
      go true None = refl

  drop_own : (standing : Standing) → OffBy d (tries_own d standing)
  drop_own Asked = drop_shares
  drop_own standing = drop_quiet

  drop_remote : (required : Option (List ℕ)) → OffBy d (first_remote d required)
  drop_remote (Some text) = ends_off d none (Refused (refusals.Required text))
  drop_remote None = drop_own (d.read.standing (me d))

  drop_first : (side : Side) → OffBy d (first_drop d side)
  drop_first Local = attempts_even (OffBy d) d (calls.Has ∷ []) None (bars d (row_refusal (is_there d) (required_there d) (bar_there d) (held_until d)))
      (plain_call (calls.Has ∷ []) refl refl (λ call. OffBy d (quietly (Fault call (by_me d)) None)) drop_fault) (drop_bars (row_refusal (is_there d) (required_there d) (bar_there d) (held_until d)))
  drop_first Remote = drop_remote (required_there d)

  drop_off : (m : Effect) → by_partner d None ≡ Some m → OffBy d m
  drop_off m e = go (list_all (has_room d) (needs d Fresh)) e
    where
      go : (b : Bool) → (if b then Some (goes d Fresh) else None) ≡ Some m → OffBy d m
      go false g = absurd (cc)
      go true g = let same : goes d Fresh ≡ m = cc in subst (OffBy d) same (drop_first (side_of d.w))

-- ---- over the run

off_is : (t : Turn) (m : Effect) (kind : EntryKind) → ((j : ℕ) (outcome : Outcome) → kind ≢ ends_job j outcome) → Off t m kind → is_fresh (moved t m kind).phase ≡ false
off_is t m (ends_job j outcome) goes_on off = absurd (goes_on j outcome refl)
off_is t m kind goes_on off = off

-- a step of a job that is to begin its part leaves that place
left : (s : SetUp) (past : List Entry) (e : Entry) (x : Work) (b : Steps s past e x) (part : Part) → b.by.w.part ≡ part → b.by.w.phase ≡ Fresh
    → ((m : Effect) → by_partner (at_start part (turn_at s past e b.by)) None ≡ Some m → Off (at_start part (turn_at s past e b.by)) m m.kind) → is_fresh x.phase ≡ false
left s past e x b part is fresh off =
    let turn = turn_at s past e b.by in
    let t = at_start part turn in
    let m = b.by.made in
    let entry : e ≡ made_entry t m = b.by.is in
    let w_is : b.by.w ≡ t.w = (λ i. record b.by.w { part = is i; phase = fresh i }) in
    let same : turn ≡ t = (λ i. record turn { w = w_is i }) in
    let does : by_partner t None ≡ Some m = subst (λ (y : Turn). by_partner y (partner y.w.what.peer y.w.phase) ≡ Some m) same b.by.does in
    let after : x ≡ moved t m m.kind = b.work_is ∙ (λ i. work_kind (rows_at past s.number) s.number (w_is i) (entry i) (entry i).kind) in
    let not_end : (j : ℕ) (outcome : Outcome) → m.kind ≢ ends_job j outcome = (λ j outcome k. b.goes_on j outcome (ap (λ (y : Entry). y.kind) entry ∙ k)) in
    ap (λ (y : Work). is_fresh y.phase) after ∙ off_is t m m.kind not_end (off m does)

-- the job has no share of its own there
pub unowned : (s : SetUp) (past : List Entry) (e : Entry) (x : Work) (b : Steps s past e x) → OwnRun s past → (b.by.w.part ≡ Drops → is_fresh b.by.w.phase ≡ true) → owns_share (turn_at s past e b.by) ≡ false
unowned s past e x b run start =
    owns_none b.by.w.number (holds past s.number) (unasked_unheld past s.number b.by.w.number (starts_unasked s past run b.by.w (step_runs s past e x b) start).unasked)

fresh_before : (part : Part) (old : Phase) (phase : Phase) → GoodTo part old Puts phase → is_fresh phase ≡ true → (part ≡ Puts) × (is_fresh old ≡ true)
fresh_before Puts old phase g fresh = (refl, go (is_fresh old) refl)
  where
    go : (b : Bool) → is_fresh old ≡ b → b ≡ true
    go true e = refl
    go false e = absurd (let both : true ≡ false = sym fresh ∙ g.1 e in cc)
fresh_before Gets old phase g fresh = absurd g
fresh_before Drops old phase g fresh = absurd g

puts_off : SentAreRead → (s : SetUp) (past : List Entry) (e : Entry) (x : Work) (b : Steps s past e x) → OwnPast s past → b.by.w.part ≡ Puts → b.by.w.phase ≡ Fresh → is_fresh x.phase ≡ false
puts_off reads_back s past e x b h part fresh =
    let none = unowned s past e x b h.run (λ d. absurd (let both : Puts ≡ Drops = sym part ∙ d in cc)) in
    left s past e x b Puts part fresh (put_off (turn_at s past e b.by) none (put_read reads_back s past h.run b.by.w (step_runs s past e x b)))

drops_off : (s : SetUp) (past : List Entry) (e : Entry) (x : Work) (b : Steps s past e x) → OwnPast s past → b.by.w.part ≡ Drops → b.by.w.phase ≡ Fresh → is_fresh x.phase ≡ false
drops_off s past e x b h part fresh =
    let none = unowned s past e x b h.run (λ d. ap is_fresh fresh) in
    left s past e x b Drops part fresh (drop_off (turn_at s past e b.by) none)

-- **a copy that is to begin has made no step**
pub puts_unstepped : SentAreRead → (s : SetUp) (past : List Entry) → OwnPast s past → (w : Work) → Member w (works past s.number) → w.part ≡ Puts → w.phase ≡ Fresh → has_stepped past s.number w.number ≡ false
puts_unstepped reads_back s past h w m part fresh =
    invariant s (λ p x. OwnPast s p → x.part ≡ Puts → x.phase ≡ Fresh → has_stepped p s.number x.number ≡ false) (λ p e is x n was h part fresh. rw is (was (earlier s p e h) part fresh)) own past h.run w m h part fresh
  where
    own : (p : List Entry) (e : Entry) → OwnRun s (e ∷ p) → is_of s.number e ≡ true → ((x : Work) → Member x (works p s.number) → OwnPast s p → x.part ≡ Puts → x.phase ≡ Fresh → has_stepped p s.number x.number ≡ false)
        → (x : Work) → Origin s p e x → OwnPast s (e ∷ p) → x.part ≡ Puts → x.phase ≡ Fresh → has_stepped (e ∷ p) s.number x.number ≡ false
    own p e r is was x (inl b) h part fresh = rw (is, begin_still s p e x b) (unstepped s p r.1 x.number (begins_later s p e r is x b))
    own p e r is was x (inr (inl b)) h part fresh = rw (is, b.still) (was x b.ran (earlier s p e h) part fresh)
    own p e r is was x (inr (inr b)) h part fresh =
        let v = b.by.w in
        let now : is_fresh x.phase ≡ true = ap is_fresh fresh in
        let good = steps_good s p e x b (works_fit s p r.1 v (step_runs s p e x b)) in
        let old = fresh_before v.part v.phase x.phase (subst (λ q. GoodTo v.part v.phase q x.phase) part good) now in
        let later = puts_off reads_back s p e x b (earlier s p e h) old.0 (fresh_is v.phase old.1) in
        absurd (let both : true ≡ false = sym now ∙ later in cc)

-- ---- drops

-- while a copy is under way, no drop of it has begun, as the entries tell
abbrev pub MovesLate : SetUp → Type 0
MovesLate s = (past : List Entry) (e : Entry) → OwnPast s (e ∷ past) → is_of s.number e ≡ true → (w : Work) (x : Steps s past e w) → x.by.w.part ≡ Puts → w.part ≡ Drops → in_drop past s.number x.by.w.number ≡ false

none_of : {X : Type 0} (a b : Option X) → a ≡ None → b ≡ None → option_or a b ≡ None
none_of a b p q = rw (p, q) refl

in_next : (past : List Entry) (e : Entry) (r j : ℕ) → in_drop past r j ≡ false → before_step (e ∷ past) r j ≡ None
in_next past e r j none =
    none_of (before_step past r j) (if is_of r e && (is_step j e.kind && in_drop past r j) then Some past else None) (undropped_unread past r j none) (if_none (is_of r e) (is_step j e.kind) (in_drop past r j) past none)

off_step : {X : Type 0} (a b c : Bool) (x : X) → b ≡ false → (if a && (b && c) then Some x else None) ≡ None
off_step true false c x e = refl
off_step false b c x e = refl
off_step a true c x e = absurd (cc)

still_unread : (past : List Entry) (e : Entry) (r j : ℕ) → is_step j e.kind ≡ false → before_step past r j ≡ None → before_step (e ∷ past) r j ≡ None
still_unread past e r j still none = none_of (before_step past r j) (if is_of r e && (is_step j e.kind && in_drop past r j) then Some past else None) none (off_step (is_of r e) (is_step j e.kind) (in_drop past r j) past still)

other_unread : (past : List Entry) (e : Entry) (r j : ℕ) → is_of r e ≡ false → before_step past r j ≡ None → before_step (e ∷ past) r j ≡ None
other_unread past e r j other none = rw (other, none) refl

unstepped_unread : (past : List Entry) (r j : ℕ) → has_stepped past r j ≡ false → before_step past r j ≡ None
unstepped_unread [] r j none = refl
unstepped_unread (e ∷ past) r j none =
    none_of (before_step past r j) (if is_of r e && (is_step j e.kind && in_drop past r j) then Some past else None) (unstepped_unread past r j (or_parts (is_of r e && is_step j e.kind) (has_stepped past r j) none).1)
    (off_both (is_of r e) (is_step j e.kind) (in_drop past r j) (or_parts (is_of r e && is_step j e.kind) (has_stepped past r j) none).0)
  where
    off_both : (a b c : Bool) → (a && b) ≡ false → (if a && (b && c) then Some past else None) ≡ None
    off_both true false c h = refl
    off_both false b c h = refl
    off_both true true c h = absurd (cc)

-- a transfer is of a job of its kind
abbrev pub OfKind : Work → Type 0
OfKind w = (w.part ≡ Gets → is_get w.what.kind ≡ true) × (w.part ≡ Puts → is_put w.what.kind ≡ true)

first_kind : (kind : KindOfJob) → (first_part kind ≡ Gets → is_get kind ≡ true) × (first_part kind ≡ Puts → is_put kind ≡ true)
first_kind kinds.Get = ((λ e. refl), (λ e. cc))
first_kind kinds.MoveFrom = ((λ e. refl), (λ e. cc))
first_kind kinds.Copy = ((λ e. cc), (λ e. refl))
first_kind kinds.MoveTo = ((λ e. cc), (λ e. refl))
first_kind kinds.Drop = ((λ e. cc), (λ e. cc))

gets_was : (part : Part) (old phase : Phase) → GoodTo part old Gets phase → part ≡ Gets
gets_was Gets old phase g = refl
gets_was Puts old phase g = absurd g
gets_was Drops old phase g = absurd g

pub puts_was : (part : Part) (old phase : Phase) → GoodTo part old Puts phase → part ≡ Puts
puts_was Gets old phase g = absurd g
puts_was Puts old phase g = refl
puts_was Drops old phase g = absurd g

pub of_kind : (s : SetUp) (past : List Entry) → OwnRun s past → (w : Work) → Member w (works past s.number) → OfKind w
of_kind s past run w m = invariant s (λ p x. OfKind x) (λ p e is x n was. was) own past run w m
  where
    own : (p : List Entry) (e : Entry) → OwnRun s (e ∷ p) → is_of s.number e ≡ true → ((x : Work) → Member x (works p s.number) → OfKind x) → (x : Work) → Origin s p e x → OfKind x
    own p e r is was x (inl b) = subst OfKind (sym b.work_is) (first_kind b.what.kind)
    own p e r is was x (inr (inl b)) = was x b.ran
    own p e r is was x (inr (inr b)) =
        let v = b.by.w in
        let good = steps_good s p e x b (works_fit s p r.1 v (step_runs s p e x b)) in
        let what : x.what ≡ v.what = ap (λ (j : RunningJob). j.what) (ap running_job b.work_is ∙ kind_kept (rows_at p s.number) s.number v e e.kind) in
        let old = was v (step_runs s p e x b) in (
          (λ part. ap (λ (q : Job). is_get q.kind) what ∙ old.0 (gets_was v.part v.phase x.phase (subst (λ q. GoodTo v.part v.phase q x.phase) part good))),
          (λ part. ap (λ (q : Job). is_put q.kind) what ∙ old.1 (puts_was v.part v.phase x.phase (subst (λ q. GoodTo v.part v.phase q x.phase) part good))),
        )

gets_remote : (kind : KindOfJob) (peer : Option ℕ) → is_get kind ≡ true → drop_side kind peer ≡ Remote
gets_remote kinds.Get peer e = refl
gets_remote kinds.MoveFrom peer e = refl
gets_remote kinds.Drop peer e = absurd (cc)
gets_remote kinds.Copy peer e = absurd (cc)
gets_remote kinds.MoveTo peer e = absurd (cc)

-- **a local drop that is to begin has made no step of its drop**
pub drop_unread : (s : SetUp) → MovesLate s → (past : List Entry) → OwnPast s past → (w : Work) → Member w (works past s.number) → w.part ≡ Drops → w.phase ≡ Fresh → side_of w ≡ Local → before_step past s.number w.number ≡ None
drop_unread s late past h w m part fresh side =
    invariant s (λ p x. OwnPast s p → x.part ≡ Drops → x.phase ≡ Fresh → side_of x ≡ Local → before_step p s.number x.number ≡ None)
    (λ p e is x n was h part fresh side. other_unread p e s.number x.number is (was (earlier s p e h) part fresh side)) own past h.run w m h part fresh side
  where
    own : (p : List Entry) (e : Entry) → OwnRun s (e ∷ p) → is_of s.number e ≡ true
        → ((x : Work) → Member x (works p s.number) → OwnPast s p → x.part ≡ Drops → x.phase ≡ Fresh → side_of x ≡ Local → before_step p s.number x.number ≡ None)
        → (x : Work) → Origin s p e x → OwnPast s (e ∷ p) → x.part ≡ Drops → x.phase ≡ Fresh → side_of x ≡ Local → before_step (e ∷ p) s.number x.number ≡ None
    own p e r is was x (inl b) h part fresh side = still_unread p e s.number x.number (begin_still s p e x b) (unstepped_unread p s.number x.number (unstepped s p r.1 x.number (begins_later s p e r is x b)))
    own p e r is was x (inr (inl b)) h part fresh side = still_unread p e s.number x.number b.still (was x b.ran (earlier s p e h) part fresh side)
    own p e r is was x (inr (inr b)) h part fresh side = by_part v.part refl
      where
        v : Work
        v = b.by.w

        good : GoodTo v.part v.phase x.part x.phase
        good = steps_good s p e x b (works_fit s p r.1 v (step_runs s p e x b))

        by_part : (q : Part) → v.part ≡ q → before_step (e ∷ p) s.number x.number ≡ None
        by_part Drops at = go (is_fresh v.phase) refl
          where
            g : GoodTo Drops v.phase Drops x.phase
            g = subst (λ q. GoodTo Drops v.phase q x.phase) part (subst (λ q. GoodTo q v.phase x.part x.phase) at good)

            go : (c : Bool) → is_fresh v.phase ≡ c → before_step (e ∷ p) s.number x.number ≡ None
            go false old = absurd (let both : true ≡ false = sym (ap is_fresh fresh) ∙ g.1 old in cc)
            go true old = absurd (let both : true ≡ false = sym (ap is_fresh fresh) ∙ drops_off s p e x b (earlier s p e h) at (fresh_is v.phase old) in cc)
        by_part Gets at =
            let what : x.what ≡ v.what = ap (λ (j : RunningJob). j.what) (ap running_job b.work_is ∙ kind_kept (rows_at p s.number) s.number v e e.kind) in
            let remote : side_of v ≡ Remote = gets_remote v.what.kind v.what.peer ((of_kind s p r.1 v (step_runs s p e x b)).0 at) in
            absurd (let both : Local ≡ Remote = sym side ∙ ap (λ (q : Job). drop_side q.kind q.peer) what ∙ remote in cc)
        by_part Puts at = subst (λ n. before_step (e ∷ p) s.number n ≡ None) (sym (step_number s p e x b)) (in_next p e s.number v.number (late p e h is x b at part))
