-- The first step of a drop leads on: a drop that is to begin has read nothing.
use Rattle.node_model.specs.Clocks.{hold_time}
use Rattle.std.proofs.Common.{◌≡◌, ◌≢◌, ℕ, Bool, true, false, List, [], ◌∷◌, Option, Some, None, inl, inr, refl, sym, ap, ◌∙◌, subst}
use Rattle.std.specs.Prelude.{if◌then◌else◌, not, ◌&&◌, ◌+◌}
use Rattle.std.specs.List.{list_all, list_any}
use Rattle.annex_base.specs.Lists.{Member}
use Rattle.annex_base.specs.declared.kinds.Call.{Call}
use Rattle.annex_base.specs.declared.kinds.Call.TheVariants as calls
use Rattle.drop_proof.specs.declared.rule.Side.{Side}
use Rattle.drop_proof.specs.declared.rule.Side.TheVariants.{Local, Remote}
use Rattle.run_data.specs.declared.entry.Entry.{Entry}
use Rattle.run_data.specs.declared.entry.EntryKind.{EntryKind}
use Rattle.run_data.specs.declared.entry.EntryKind.TheVariants.{Fault, End as ends_job}
use Rattle.run_data.specs.declared.job.Outcome.{Outcome}
use Rattle.run_data.specs.declared.job.Outcome.TheVariants.{Refused}
use Rattle.run_data.specs.declared.job.DropRefusal.{DropRefusal}
use Rattle.run_data.specs.declared.job.DropRefusal.TheVariants as refusals
use Rattle.run_model.specs.Past.{holds, is_of}
use Rattle.node_model.specs.Rows.{is_lost_ordered}
use Rattle.run_model.specs.Logs.{before_step}
use Rattle.node_model.specs.Evidence.{Standing, Asked, Claimed, Ignored}
use Rattle.node_model.specs.SetUp.{SetUp}
use Rattle.node_model.specs.Jobs.{Drops, Fresh, Gets, Part, Puts, Work, fault_phase, first_look, partner, side_of}
use Rattle.run_model.specs.States.{works}
use Rattle.node_model.specs.Calls.{to_hold, to_release}
use Rattle.node_model.specs.Look.{Effect}
use Rattle.annex_base.specs.Calls.{same_call}
use Rattle.node_model.specs.JobStep.{Turn, bar_there, by_me, clock_of, ends, farewells, is_there, key_of, me, owns_share, quietly, talk}
use Rattle.node_model.specs.DropStep.{bars, first_drop, first_remote, held_until, own_share, required_there, row_refusal, tries_own}
use Rattle.node_model.specs.Turns.{by_partner, goes, goes_on, has_room, needs}
use Rattle.run_model.specs.Run.{OwnRun}
use Rattle.step_facts.proofs.JobSteps.{Origin, Steps, invariant, turn_at}
use Rattle.job_facts.proofs.PhaseFacts.{GoodTo, is_fresh}
use Rattle.job_facts.proofs.WorkFits.{step_runs, steps_good, works_fit}
use Rattle.job_facts.proofs.Untouched.{begin_still, begins_later, fresh_is}
use Rattle.job_facts.proofs.Starts.{starts_unasked}
use Rattle.step_facts.proofs.ClientTurns.{moved}
use Rattle.step_facts.proofs.ClientSteps.{attempts_even}
use Rattle.job_facts.proofs.GetsBegin.{no_release, owns_none, unasked_unheld}
use Rattle.job_facts.proofs.NotDropping.{comes_unread, entry_moved, future_reads, moved_on, still_unread}

-- ---- its first step

module _ (before : Turn) where
  -- a drop that is to begin
  abbrev t : Turn
  t = record before { w = record before.w { part = Drops; phase = Fresh } }

  abbrev Leaves : Effect → EntryKind → Type 0
  Leaves m (ends_job j outcome) = Unit {0}
  Leaves m kind = is_fresh (moved t m kind).phase ≡ false

  abbrev LeavesBy : Effect → Type 0
  LeavesBy m = Leaves m m.kind

  side_leaves : (side : Side) → is_fresh (fault_phase (me t) t.w Drops side Fresh).phase ≡ false
  side_leaves Local = refl
  side_leaves Remote = refl

  fault_leaves : (cs : List Call) → list_any (same_call calls.PutFile) cs ≡ false → list_any (same_call calls.Unhold) cs ≡ false → (call : Call) → list_any (same_call call) cs ≡ true
      → LeavesBy (quietly (Fault call (by_me t)) None)
  fault_leaves cs a b calls.PutFile e = absurd (let both : true ≡ false = sym e ∙ a in cc)
  fault_leaves cs a b calls.Unhold e = absurd (let both : true ≡ false = sym e ∙ b in cc)
  fault_leaves cs a b call e = side_leaves (side_of t.w)

  look_leaves : (here : Bool) (bar : Option ℕ) → is_fresh (first_look (me t) t.w Drops here bar).phase ≡ false
  look_leaves here bar = refl

  quiet_leaves : LeavesBy (quietly (talk t) None)
  quiet_leaves = look_leaves (is_there t) (bar_there t)

  share_leaves : (hold end : ℕ) (here : Bool) (bar : Option ℕ) → LeavesBy (quietly (own_share hold end t.w.number (key_of t) (talk t) (by_me t) here bar) None)
  share_leaves hold end true None = refl
  share_leaves hold end true (Some i) = quiet_leaves
  share_leaves hold end false bar = quiet_leaves

  no_put : (here : Bool) (bar : Option ℕ) → list_any (same_call calls.PutFile) (to_hold here bar) ≡ false
  no_put true None = refl
  no_put true (Some i) = refl
  no_put false bar = refl

  no_unhold : (here : Bool) (bar : Option ℕ) → list_any (same_call calls.Unhold) (to_hold here bar) ≡ false
  no_unhold true None = refl
  no_unhold true (Some i) = refl
  no_unhold false bar = refl

  tries_leaves : (standing : Standing) → LeavesBy (tries_own t standing)
  tries_leaves Asked = attempts_even LeavesBy t (to_hold (is_there t) (bar_there t)) None
      (quietly (own_share (t.number) (clock_of t + hold_time) t.w.number (key_of t) (talk t) (by_me t) (is_there t) (bar_there t)) None)
      (fault_leaves (to_hold (is_there t) (bar_there t)) (no_put (is_there t) (bar_there t)) (no_unhold (is_there t) (bar_there t)))
      (share_leaves (t.number) (clock_of t + hold_time) (is_there t) (bar_there t))
  tries_leaves Claimed = quiet_leaves
  tries_leaves (Ignored cause) = quiet_leaves

  module _ (none : owns_share t ≡ false) where
    ends_leaves : (outcome : Outcome) → LeavesBy (ends t None outcome)
    ends_leaves outcome = attempts_even LeavesBy t (to_release (owns_share t && not (is_lost_ordered outcome))) None
        (record { kind = ends_job t.w.number outcome; taken = None; sent = farewells t (is_lost_ordered outcome); lines = []; calls = [] })
        (λ call e. absurd (no_release (owns_share t) (not (is_lost_ordered outcome)) none call e)) tt

    bars_leaves : (refusal : Option DropRefusal) → LeavesBy (bars t refusal)
    bars_leaves (Some refusal) = ends_leaves (Refused refusal)
    bars_leaves None = refl

    remote_leaves : (text : Option (List ℕ)) → LeavesBy (first_remote t text)
    remote_leaves (Some text) = ends_leaves (Refused (refusals.Required text))
    remote_leaves None = tries_leaves (t.read.standing (me t))

    drop_leaves : (side : Side) → LeavesBy (first_drop t side)
    drop_leaves Local = attempts_even LeavesBy t (calls.Has ∷ []) None (bars t (row_refusal (is_there t) (required_there t) (bar_there t) (held_until t)))
        (fault_leaves (calls.Has ∷ []) refl refl) (bars_leaves (row_refusal (is_there t) (required_there t) (bar_there t) (held_until t)))
    drop_leaves Remote = remote_leaves (required_there t)

    first_leaves : (m : Effect) → by_partner t (partner t.w.what.peer t.w.phase) ≡ Some m → LeavesBy m
    first_leaves m e = go (list_all (has_room t) (needs t Fresh)) e
      where
        go : (b : Bool) → (if b then Some (goes t Fresh) else None) ≡ Some m → LeavesBy m
        go false g = absurd (cc)
        go true g = let same : goes t Fresh ≡ m = cc in subst LeavesBy same (drop_leaves (side_of t.w))

leaves_is : (before : Turn) (m : Effect) (kind : EntryKind) → ((j : ℕ) (outcome : Outcome) → kind ≢ ends_job j outcome) → Leaves before m kind → is_fresh (moved (t before) m kind).phase ≡ false
leaves_is before m (ends_job j outcome) goes_on leaves = absurd (goes_on j outcome refl)
leaves_is before m kind goes_on leaves = leaves

-- **the first step of a drop leads on**
pub drop_goes_on : (s : SetUp) (past : List Entry) (e : Entry) → OwnRun s past → (x : Work) (b : Steps s past e x) → b.by.w.part ≡ Drops → is_fresh b.by.w.phase ≡ true → is_fresh x.phase ≡ false
drop_goes_on s past e run x b part fresh =
    let turn = turn_at s past e b.by in
    let m = b.by.made in
    let phase : b.by.w.phase ≡ Fresh = fresh_is b.by.w.phase fresh in
    let same : turn ≡ t turn = (λ i. record turn { w = record b.by.w { part = part i; phase = phase i } }) in
    let unasked = starts_unasked s past run b.by.w (step_runs s past e x b) (λ drops. fresh) in
    let unowned : owns_share turn ≡ false = owns_none b.by.w.number (holds past s.number) (unasked_unheld past s.number b.by.w.number unasked.unasked) in
    let does : by_partner (t turn) (partner (t turn).w.what.peer (t turn).w.phase) ≡ Some m = subst (λ (y : Turn). by_partner y (partner y.w.what.peer y.w.phase) ≡ Some m) same b.by.does in
    let after : x ≡ moved (t turn) m m.kind = entry_moved s past e x b ∙ ap (λ (y : Turn). moved y m m.kind) same in
    ap (λ (y : Work). is_fresh y.phase) after ∙ leaves_is turn m m.kind (moved_on s past e x b) (first_leaves turn unowned m does)

-- ---- so one that is to begin has read nothing

abbrev Unread : SetUp → List Entry → Work → Type 0
Unread s past w = w.part ≡ Drops → is_fresh w.phase ≡ true → before_step past s.number w.number ≡ None

-- **a drop that is to begin has read nothing**
pub fresh_unread : (s : SetUp) (past : List Entry) → OwnRun s past → (w : Work) → Member w (works past s.number) → Unread s past w
fresh_unread s past run w m = invariant s (λ p x. Unread s p x)
    (λ p e is x n was part fresh. still_unread p e s.number x.number (λ own. let no_own : true ≡ false = sym own ∙ is in absurd (cc)) (was part fresh)) own past run w m
  where
    own : (p : List Entry) (e : Entry) → OwnRun s (e ∷ p) → is_of s.number e ≡ true → ((x : Work) → Member x (works p s.number) → Unread s p x) → (x : Work) → Origin s p e x → Unread s (e ∷ p) x
    own p e r is was x (inl b) part fresh = still_unread p e s.number x.number (λ own. begin_still s p e x b) (future_reads s p r.1 x.number (begins_later s p e r is x b))
    own p e r is was x (inr (inl b)) part fresh = still_unread p e s.number x.number (λ own. b.still) (was x b.ran part fresh)
    own p e r is was x (inr (inr b)) part fresh = go b.by.w.part refl
      where
        off : (part : Part) → part ≢ Drops → b.by.w.part ≡ part → before_step (e ∷ p) s.number x.number ≡ None
        off q apart at = comes_unread s p e r.1 x b (λ d. apart (sym at ∙ d)) part

        fresh_before : b.by.w.part ≡ Drops → (c : Bool) → is_fresh b.by.w.phase ≡ c → before_step (e ∷ p) s.number x.number ≡ None
        fresh_before at true now' = absurd (let later : is_fresh x.phase ≡ false = drop_goes_on s p e r.1 x b at now' in let both : true ≡ false = sym fresh ∙ later in cc)
        fresh_before at false later = absurd (let good : GoodTo Drops b.by.w.phase Drops x.phase = subst (λ q. GoodTo q b.by.w.phase Drops x.phase) at (subst (λ q. GoodTo b.by.w.part b.by.w.phase q x.phase) part
            (steps_good s p e x b (works_fit s p r.1 b.by.w (step_runs s p e x b)))) in let both : true ≡ false = sym fresh ∙ good.1 later in cc)

        go : (q : Part) → b.by.w.part ≡ q → before_step (e ∷ p) s.number x.number ≡ None
        go Drops at = fresh_before at (is_fresh b.by.w.phase) refl
        go Gets at = off Gets (λ d. let no_drop : Gets ≡ Drops = d in cc) at
        go Puts at = off Puts (λ d. let no_drop : Puts ≡ Drops = d in cc) at
