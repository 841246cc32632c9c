-- Where a drop stands that runs alone.
use Rattle.std.specs.Prelude.{if◌then◌else◌, ◌&&◌, ◌*◌, length, nat_lt, slice_get, ◌==◌}
use Rattle.std.specs.Option.{option_or, unwrap_or}
use Rattle.std.proofs.Common.{◌≡◌, ◌≢◌, ℕ, ◌<◌, Bool, true, false, List, [], ◌∷◌, ◌++◌, Option, Some, None, inl, inr, refl, sym, ap, ◌∙◌, subst}
use Rattle.std.proofs.lemmas.Bool.{true≢false}
use Rattle.annex_base.specs.Lists.{Each, Member}
use Rattle.annex_base.proofs.Conditions.{eqb_refl}
use Rattle.drop_proof.specs.declared.rule.Need.{Need}
use Rattle.drop_proof.specs.declared.rule.Side.{Side}
use Rattle.drop_proof.specs.declared.rule.Side.TheVariants.{Local, Remote}
use Rattle.run_data.specs.declared.entry.Entry.{Entry}
use Rattle.run_data.specs.declared.entry.EntryKind.{EntryKind}
use Rattle.run_data.specs.declared.entry.EntryKind.TheVariants.{Begin, Order, Log, Fault}
use Rattle.run_data.specs.declared.job.Job.{Job}
use Rattle.run_data.specs.declared.job.JobKind.TheVariants as kinds
use Rattle.run_data.specs.declared.run.Run.{Run}
use Rattle.run_data.specs.Repos.{IsSetUp, id_of}
use Rattle.run_data.specs.declared.job.JobKind.{JobKind}
use Rattle.wanted_expr.specs.Wanted.{required}
use Rattle.node_model.specs.Evidence.{standing_by}
use Rattle.node_model.specs.Jobs
use Rattle.node_model.specs.Jobs.{Drops, Puts, Phase, Fresh, Next, Opens, Greets, AsksLock, AsksLook, AsksTime, Removed, Orders, Work, new_work, works_after, Gets, Part, first_part, drop_side, or_own, side_of, target_of}
use Rattle.node_model.specs.Knows.{standing_of}
use Rattle.node_model.specs.Rows.{option_is}
use Rattle.node_model.specs.SetUp.{SetUp, version_in}
use Rattle.node_model.specs.Slots.{job_of}
use Rattle.node_model.specs.State.{State}
use Rattle.run_model.specs.Logs.{before_step, in_drop, is_step, settings_of, read_at}
use Rattle.run_model.specs.Past.{Occurs, bar, clock, holds, is_of, present}
use Rattle.run_model.specs.Run.{OwnPast, RunPast, set_up, job_paths}
use Rattle.run_model.specs.States.{rows_at, state_of, works}
use Rattle.step_facts.proofs.Below.{SentAreRead}
use Rattle.step_facts.proofs.JobSteps.{stepped_job, stepped_runs}
use Rattle.past_facts.proofs.OwnRuns.{step_at, part_of}
use Rattle.job_facts.proofs.DropLeaves.{fresh_unread}
use Rattle.job_facts.proofs.PhaseFacts.{GoodTo, is_fresh}
use Rattle.job_facts.proofs.TalkFacts.{Fits, under_way}
use Rattle.run_laws.proofs.Decisions.{stepped_of}
use Rattle.alone_drops.specs.Alone.{MayGo}
use Rattle.alone_drops.specs.Offers.{OffersSuffice, gives_hold, is_free}
use Rattle.alone_drops.proofs.Since.{AddsLine, Beginning, Since, is_calm}
use Rattle.alone_drops.proofs.Sides.{Aims}
use Rattle.alone_drops.proofs.Shuts.{is_number, no_work}
use Rattle.alone_drops.proofs.Heard.{Fit}
use Rattle.alone_drops.proofs.Usual.{Asking}
use Rattle.alone_drops.proofs.Start.{base_bar, base_clock, base_holds, base_owes, base_present, base_settings, no_works}

-- entries of others leave the state alone
abbrev pub OthersChangeNothing : Type 0
OthersChangeNothing = (s : SetUp) (past : List Entry) (e : Entry) → is_of s.number e ≡ false → state_of s (e ∷ past) ≡ state_of s past

pub drop_part : (kind : JobKind) → kind ≡ kinds.Drop → first_part kind ≡ Drops
drop_part kind is = ap first_part is

-- a step of a job, of a kind that may come then
pub calm_step : (j i : ℕ) (kind : EntryKind) → is_calm kind ≡ true → job_of kind ≡ Some i → i ≡ j → is_step j kind ≡ true
calm_step j i (Begin job what) u is same = absurd (cc)
calm_step j i (Fault call by) u is same = absurd (cc)
calm_step j i kind u is same = subst (λ (o : Option ℕ). option_is o j ≡ true) (sym is) (subst (λ n. (n == j) ≡ true) (sym same) (eqb_refl j))

pub drops_good : (old : Phase) (part : Part) (phase : Phase) → GoodTo Drops old part phase → (part ≡ Drops) × Fits Drops phase × (is_fresh old ≡ false → is_fresh phase ≡ false)
drops_good old Drops phase g = (refl, g.0, g.1)
drops_good old Gets phase g = absurd g
drops_good old Puts phase g = absurd g

-- the target of a remote drop speaks version 3, and its row lets the content go
pub record Obeys (run : Run) (past : List Entry) (time a j to : ℕ) (key : List ℕ) : Type 0 where
  pub three : version_in (slice_get run.repos to) ≡ 3
  pub may : MayGo run past time a j to key

module _ (reads_back : SentAreRead) (run : Run) (repos : Each IsSetUp run.repos) (past : List Entry) (b : Entry) (a j : ℕ) (what : Job) (z : Beginning run past b a j what) (h0 : RunPast (set_up run) (b ∷ past)) (side : Side) (to : ℕ) (aims : Aims a what side to) (others : OthersChangeNothing) where
  abbrev base : List Entry
  base = b ∷ past

  abbrev s : SetUp
  s = set_up run a

  abbrev Fits' : ℕ → Jobs.Heard → Type 0
  Fits' = Fit reads_back run repos past b a j what z h0 side to aims

  -- ---- where it stands

  -- the row lets the content of a local drop go
  abbrev pub Allowed : Type 0
  Allowed = side ≡ Local → (present past a what.key ≡ true) × MayGo run past b.time a j a what.key

  -- it has read the logs as they were; and a local drop has found its row free, and its content not required
  pub record Under (p : List Entry) : Type 0 where
    pub first : List Entry
    pub read : before_step p a j ≡ Some first
    pub settings_is : settings_of first a ≡ settings_of past a
    pub allowed : Allowed

  abbrev pub Suffices : Type 0
  Suffices = OffersSuffice side run.repos (job_paths run a j) past a to what.key

  abbrev pub Refuses : ℕ → Type 0
  Refuses peer = peer ≢ to → (is_free past peer what.key && gives_hold run.repos a peer) ≡ false

  -- what is known where it stands
  abbrev pub Known : Phase → Type 0
  Known Next = Unit {0}
  Known (Opens peer) = Unit {0}
  Known (Greets peer) = Unit {0}
  Known (AsksLock peer since) = Unit {0}
  Known (AsksLook peer) = Refuses peer
  Known AsksTime = side ≡ Remote
  Known Orders = (side ≡ Remote) × Suffices
  Known Removed = Suffices
  Known phase = ⊥

  abbrev pub Stage : List Entry → Phase → Type 0
  Stage p Fresh = state_of s p ≡ state_of s base
  Stage p phase = Under p × Known phase

  -- its orders come before their deadlines
  abbrev pub IsTimely : Option ℕ → Type 0
  IsTimely d = (n : ℕ) → d ≡ Some n → nat_lt (clock run.repos past to b.time) (1000 * n) ≡ true

  abbrev pub AreTimely : List Entry → Type 0
  AreTimely p = (x : Entry) (before : List Entry) → Occurs p x before → is_of a x ≡ true → (goal : ℕ) (d : Option ℕ) (need : Need) (key : List ℕ) → x.kind ≡ Order j goal d need key → IsTimely d

  pub record Inv (p : List Entry) (w : Work) : Type 0 where
    pub part_is : w.part ≡ Drops
    pub heard : Each (λ x. Fits' x.0 x.1) w.heard
    pub stage : Stage p w.phase
    pub timely : AreTimely p

  pub under_kept : (p : List Entry) (e : Entry) → Under p → Under (e ∷ p)
  under_kept p e u = record {
    first = u.first;
    read = ap (λ o. option_or o (if is_of a e && (is_step j e.kind && in_drop p a j) then Some p else None)) u.read;
    settings_is = u.settings_is;
    allowed = u.allowed;
  }

  pub stage_kept : (p : List Entry) (e : Entry) (phase : Phase) → is_fresh phase ≡ false → Stage p phase → Stage (e ∷ p) phase
  stage_kept p e Fresh f x = absurd (cc)
  stage_kept p e phase f x = (under_kept p e x.0, x.1)

  pub stage_is : (p : List Entry) (phase : Phase) → is_fresh phase ≡ false → Stage p phase → Under p × Known phase
  stage_is p Fresh f x = absurd (cc)
  stage_is p phase f x = x

  -- where it is under way; from an order it may come to its removal
  abbrev pub A : Phase → Phase → Type 0
  A old = Asking (old ≡ Orders) Refuses

  pub known_asks : (phase : Phase) → under_way phase ≡ true → Known phase → A phase phase
  known_asks Next u x = tt
  known_asks (Opens peer) u x = tt
  known_asks (Greets peer) u x = tt
  known_asks (AsksLock peer since) u x = tt
  known_asks (AsksLook peer) u x = x
  known_asks AsksTime u x = tt
  known_asks Orders u x = refl
  known_asks Removed u x = absurd (cc)
  known_asks phase u x = absurd x

  -- ---- orders

  pub timely_kept : (p : List Entry) (e : Entry) → (is_of a e ≡ true → (goal : ℕ) (d : Option ℕ) (need : Need) (key : List ℕ) → e.kind ≡ Order j goal d need key → IsTimely d) → AreTimely p → AreTimely (e ∷ p)
  timely_kept p e new old x before (inl o) own goal d need key is = new (subst (λ (y : Entry). is_of a y ≡ true) o.0 own) goal d need key (ap (λ (y : Entry). y.kind) (sym o.0) ∙ is)
  timely_kept p e new old x before (inr o) own goal d need key is = old x before o own goal d need key is

  base_timely : AreTimely base
  base_timely x before (inl o) own goal d need key is = absurd (let bad : Order j goal d need key ≡ Begin j what = sym is ∙ ap (λ (y : Entry). y.kind) o.0 ∙ z.kind_is in cc)
  base_timely x before (inr o) own goal d need key is =
      let at = step_at run past x before h0.1 o in
      let part = part_of (set_up run) before x a at.0 own in
      let y = stepped_of s before part.words x part.own j (Order j goal d need key) is (eqb_refl j) in
      absurd (no_work reads_back run repos past b a j what z h0 x before o y.w (stepped_runs s before x y) (is_number x.kind y.w.number j (stepped_job s before x y) (subst (λ k. option_is (job_of k) j ≡ true) (sym is) (eqb_refl j))))

  -- ---- entries that are no steps of it

  kept_inv : (p : List Entry) (e : Entry) (w : Work) → (Stage p Fresh → Stage (e ∷ p) Fresh) → (is_of a e ≡ true → (goal : ℕ) (d : Option ℕ) (need : Need) (key : List ℕ) → e.kind ≡ Order j goal d need key → IsTimely d) → Inv p w → Inv (e ∷ p) w
  kept_inv p e w fresh orders i = record { part_is = i.part_is; heard = i.heard; stage = go w.phase (is_fresh w.phase) refl i.stage; timely = timely_kept p e orders i.timely }
    where
      go : (phase : Phase) (d : Bool) → is_fresh phase ≡ d → Stage p phase → Stage (e ∷ p) phase
      go Fresh true f x = fresh x
      go phase true f x = absurd (cc)
      go phase false f x = stage_kept p e phase f x

  pub other_inv : (p : List Entry) (e : Entry) (w : Work) → is_of a e ≡ false → Inv p w → Inv (e ∷ p) w
  other_inv p e w off = kept_inv p e w (λ x. others s p e off ∙ x) (λ own. absurd (true≢false (sym own ∙ off)))

  pub line_inv : (xs : List Entry) (e : Entry) (w : Work) → Since run base (e ∷ xs) → is_of a e ≡ true → (a < length run.repos) → AddsLine e → Inv (xs ++ base) w → Inv (e ∷ xs ++ base) w
  line_inv xs e w t own known l = kept_inv (xs ++ base) e w (λ x. absurd (t.0.owed a l.file own l.kind_is (ap (λ (st : State). st.owed) x ∙ base_owes reads_back run repos past b a j what z h0 known)))
      (λ by_a goal d need key is. absurd (let bad : Log l.file ≡ Order j goal d need key = sym l.kind_is ∙ is in cc))

  pub begin_inv : (w : Work) → Member w (works base a) → Inv base w
  begin_inv w m = by (subst (λ (ws : List Work). Member w (works_after (rows_at past a) a ws b (Begin j what))) (no_works reads_back run repos past b a j what z h0)
      (subst (λ k. Member w (works_after (rows_at past a) a (works past a) b k)) z.kind_is (rw z.by_a at m)))
    where
      by : Member w (new_work [] j what ∷ []) → Inv base w
      by (inl is) = subst (Inv base) (sym is) (record { part_is = drop_part what.kind aims.drops; heard = tt; stage = refl; timely = base_timely })
      by (inr n) = absurd n

  -- ---- what its first step finds: all stands as it began

  -- how the logs that it reads see its own repository
  standing_read : (p : List Entry) (w : Work) → settings_of (read_at p a w.number) a ≡ settings_of past a → w.what ≡ what → standing_of s (state_of s p) w a ≡ standing_by (settings_of past a) what.key (id_of run.repos a)
  unfolding standing_of
  standing_read p w logs what_is = λ n. standing_by (logs n) (what_is n).key (id_of run.repos a)

  pub record AsBegun (p : List Entry) (w : Work) : Type 0 where
    pub unread : before_step p a w.number ≡ None
    pub settings_is : settings_of p a ≡ settings_of past a
    pub standing_is : standing_of s (state_of s p) w a ≡ standing_by (settings_of past a) what.key (id_of run.repos a)
    pub present_is : present p a w.what.key ≡ present past a what.key
    pub bar_is : bar p a w.what.key ≡ bar past a what.key
    pub holds_are : holds p a ≡ holds past a
    pub clock_is : clock run.repos p a ≡ clock run.repos past a
    pub requires_is : required (settings_of (read_at p a w.number) a) (id_of run.repos (target_of a w)) w.what.key (s.paths w.number) ≡ required (settings_of past a) (id_of run.repos to) what.key (s.paths j)

  pub as_begun : (p : List Entry) (w : Work) → OwnPast s p → Member w (works p a) → Inv p w → w.phase ≡ Fresh → w.number ≡ j → w.what ≡ what → AsBegun p w
  as_begun p w pp runs i fresh number what_is = record {
    unread = unread;
    settings_is = settings_is;
    standing_is = standing_read p w logs what_is;
    present_is = (λ n. present p a (what_is n).key) ∙ (ap (λ (q : State). q.present what.key) same ∙ base_present reads_back run repos past b a j what z h0 what.key);
    bar_is = (λ n. bar p a (what_is n).key) ∙ (ap (λ (q : State). q.bar what.key) same ∙ base_bar reads_back run repos past b a j what z h0 what.key);
    holds_are = ap (λ (q : State). q.holds) same ∙ base_holds reads_back run repos past b a j what z h0;
    clock_is = ap (λ (q : State). q.clock) same ∙ base_clock reads_back run repos past b a j what z h0;
    requires_is = λ n. required (logs n) (id_of run.repos (target_is n)) (what_is n).key (s.paths (number n));
  }
    where
      same : state_of s p ≡ state_of s base
      same = subst (Stage p) fresh i.stage

      unread : before_step p a w.number ≡ None
      unread = fresh_unread s p pp.run w runs i.part_is (ap is_fresh fresh)

      settings_is : settings_of p a ≡ settings_of past a
      settings_is = ap (λ (q : State). q.logs) same ∙ base_settings reads_back run repos past b a j what z h0

      logs : settings_of (read_at p a w.number) a ≡ settings_of past a
      logs = ap (λ o. settings_of (unwrap_or o p) a) unread ∙ settings_is

      side_is : side_of w ≡ side
      side_is = ap (λ (q : Job). drop_side q.kind q.peer) what_is ∙ aims.side_is

      target_is : target_of a w ≡ to
      target_is = (λ n. or_own a (side_is n) (what_is n).peer) ∙ aims.target_is
