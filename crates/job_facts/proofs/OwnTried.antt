-- A remote drop has tried its own repository before it asks any other; so a job opens connections with other repositories alone.
use Rattle.std.proofs.Common.{◌≡◌, ◌≢◌, ℕ, ◌<◌, Bool, true, false, List, [], ◌∷◌, length, Option, Some, None, ◌⊎◌, inl, inr, refl, sym, ap, ◌∙◌, subst, arith}
use Rattle.std.specs.Prelude.{◌==◌, ◌&&◌, ◌||◌, find, not, slice_get}
use Rattle.std.specs.List.{range_with_len}
use Rattle.std.proofs.lemmas.Bool.{true≢false, and_from, or_left, or_right}
use Rattle.std.proofs.lemmas.Bool.Decides.{nat_tests}
use Rattle.annex_base.specs.Lists.{Member}
use Rattle.annex_base.specs.declared.kinds.Call.{Call}
use Rattle.annex_base.specs.declared.kinds.Call.TheVariants.{PutFile, Unhold}
use Rattle.annex_base.proofs.Conditions.{eqb_refl}
use Rattle.annex_base.proofs.Lists.{Member-filter_from, Member-filter_parts, find_member}
use Rattle.annex_base.proofs.Numbers.{Member-range}
use Rattle.step_facts.proofs.Below.{SentAreRead}
use Rattle.drop_proof.specs.declared.rule.Side.{Side}
use Rattle.drop_proof.specs.declared.rule.Side.TheVariants.{Local, Remote}
use Rattle.run_data.specs.declared.entry.By.{By}
use Rattle.run_data.specs.declared.entry.Entry.{Entry}
use Rattle.run_data.specs.declared.entry.EntryKind.{EntryKind}
use Rattle.run_data.specs.declared.entry.EntryKind.TheVariants.{Bar, Fault, Gain, Gone, Order, Share, Talk, End as ends_job}
use Rattle.run_data.specs.declared.job.Job.{Job}
use Rattle.run_data.specs.declared.job.JobKind.{JobKind}
use Rattle.run_data.specs.declared.job.JobKind.TheVariants as kinds
use Rattle.run_data.specs.declared.job.Outcome.{Outcome}
use Rattle.run_data.specs.declared.job.Cause.TheVariants as causes
use Rattle.node_model.specs.Slots.{job_by}
use Rattle.node_model.specs.Rows.{option_is}
use Rattle.run_model.specs.Past.{is_of}
use Rattle.run_model.specs.Logs.{before_step, has_stepped, hears_has_it, in_drop, is_quiet, read_at, settings_of, starts_drop}
use Rattle.run_data.specs.Repos.{id_of}
use Rattle.node_model.specs.Evidence.{Asked, Claimed, Ignored, Standing, candidates, standing_by}
use Rattle.p2p_wire.specs.declared.message.Message.{Message}
use Rattle.node_model.specs.SetUp.{SetUp, others}
use Rattle.node_model.specs.State.{State}
use Rattle.run_model.specs.States.{state_of, rows_at, works}
use Rattle.node_model.specs.AnyTime.{IsPeer}
use Rattle.node_model.specs.Jobs
use Rattle.node_model.specs.Jobs.{Drops, Fresh, Gets, Heard, Part, Phase, Puts, RowsAndEnds, Work, claims, fault_of, first_look, first_part, learns, partner, side_of, talks, target_of, unshared_cause, after_failed_release, work_kind}
use Rattle.node_model.specs.Look.{Effect}
use Rattle.step_facts.proofs.Knowing.{is_to_ask}
use Rattle.node_model.specs.Knows.{is_unasked, standing_of}
use Rattle.node_model.specs.JobStep.{Turn, me, others_of}
use Rattle.node_model.specs.TransferStep.{sources}
use Rattle.node_model.specs.Turns.{goes_on}
use Rattle.node_model.specs.Found.{IsJobEntry as FoundBy}
use Rattle.run_model.specs.Run.{OwnRun}
use Rattle.step_facts.proofs.JobKept.{fault_stays}
use Rattle.job_facts.proofs.TalkFacts.{Fits, TalkKind}
use Rattle.job_facts.proofs.PhaseFacts.{GoodTo, is_fresh, readies_place}
use Rattle.step_facts.proofs.JobSteps.{Origin, Stepped, Steps, invariant, stepped_runs, turn_at}
use Rattle.job_facts.proofs.WorkFits.{step_kind, step_number, step_runs, step_sent, step_talk, step_what, steps_good, works_fit}
use Rattle.job_facts.proofs.HeardLists.{Changed, kind_changed, share_or, talker_heard, talker_is}
use Rattle.job_facts.proofs.Starts.{fresh_no_order}
use Rattle.job_facts.proofs.Aims.{aims, can_drop, kind_turns, move_drops, other_target}
use Rattle.job_facts.proofs.DropReads.{begun_drop, read_kept, stays_read, step_read, told_of}
use Rattle.job_facts.proofs.PartTurns.{FirstTurn, HasIt, TakenTurn, on_turn}
use Rattle.job_facts.proofs.GetsBegin.{no_step}
use Rattle.job_facts.proofs.JobOpens.{Called}
use Rattle.step_facts.proofs.Flights.{get_member}
use Rattle.job_facts.proofs.Untouched.{fresh_is}

fresh_off : (phase : Phase) → phase ≡ Fresh → is_fresh phase ≡ false → ⊥
fresh_off phase is later = let no' : is_fresh Fresh ≡ false = subst (λ p. is_fresh p ≡ false) is later in cc

-- ---- the other repositories

not_same : (a b : ℕ) → a ≢ b → not (a == b) ≡ true
not_same a b apart = go (a == b) refl
  where
    go : (c : Bool) → (a == b) ≡ c → not c ≡ true
    go true e = absurd (apart (grind (arith, nat_tests)))
    go false e = refl

-- a peer of a job is one of them
pub peer_other : (s : SetUp) (peer : ℕ) → peer < length s.repos → peer ≢ s.number → Member peer (others s)
peer_other s peer known apart =
    Member-filter_from (λ x. not (x == s.number)) (range_with_len 0 (length s.repos)) peer (Member-range 0 (length s.repos) peer (omega arith) (omega arith)) (not_same peer s.number apart)

pub other_apart : (s : SetUp) (peer : ℕ) → Member peer (others s) → peer ≢ s.number
other_apart s peer m same =
    let kept = (Member-filter_parts (λ x. not (x == s.number)) (range_with_len 0 (length s.repos)) peer m).1 in
    absurd (grind (arith, nat_tests))

pub kind_peer : (s : SetUp) (kind : JobKind) (o : Option ℕ) (peer : ℕ) → IsPeer s kind o → o ≡ Some peer → Member peer (others s)
kind_peer s kind None peer is e = absurd (cc)
kind_peer s kind (Some p) peer is e = let same : p ≡ peer = cc in subst (λ n. Member n (others s)) same (peer_other s p is.0 is.1)

-- the source that a get asks next
source_other : (s : SetUp) (t : Turn) (kind : JobKind) (o : Option ℕ) (peer : ℕ) → others_of t ≡ others s → IsPeer s kind o → slice_get (sources t o) (length t.w.causes) ≡ Some peer → Member peer (others s)
source_other s t kind None peer same is e = subst (Member peer) same (get_member (others_of t) (length t.w.causes) peer e)
source_other s t kind (Some p) peer same is e = kind_peer s kind (Some p) peer is (only (get_member (p ∷ []) (length t.w.causes) peer e))
  where
    only : Member peer (p ∷ []) → Some p ≡ Some peer
    only (inl same) = ap Some (sym same)
    only (inr m) = absurd m

-- a candidate that a drop asks, but its own repository
next_other : (s : SetUp) (side : Side) (t : ℕ) (q : ℕ → Bool) (peer : ℕ) → find q (candidates side (length s.repos) s.number t) ≡ Some peer → Member peer (others s) ⊎ ((side ≡ Remote) × (q s.number ≡ true))
next_other s Local t q peer e = inl (find_member q (others s) peer e).0
next_other s Remote t q peer e = go (find_member q (candidates Remote (length s.repos) s.number t) peer e)
  where
    go : Member peer (candidates Remote (length s.repos) s.number t) × (q peer ≡ true) → Member peer (others s) ⊎ ((Remote ≡ Remote) × (q s.number ≡ true))
    go (inl same, yes') = inr (refl, subst (λ n. q n ≡ true) same yes')
    go (inr m, yes') = inl (Member-filter_parts (λ x. not (x == t)) (others s) peer m).0

-- ---- what was read and heard of a candidate

to_ask_is : (s : SetUp) (st : State) (w : Work) (c : ℕ) → is_to_ask s st w c ≡ is_unasked (standing_by (st.read w.number) w.what.key (id_of s.repos c)) (told_of w.heard c)
unfolding standing_of
to_ask_is s st w c = refl

to_ask_same : (s : SetUp) (st other : State) (w v : Work) (c : ℕ) → st.read w.number ≡ other.read v.number → w.what ≡ v.what → w.heard ≡ v.heard → is_to_ask s st w c ≡ is_to_ask s other v c
to_ask_same s st other w v c read what heard =
    to_ask_is s st w c ∙ (λ i. is_unasked (standing_by (read i) (what i).key (id_of s.repos c)) (told_of (heard i) c)) ∙ sym (to_ask_is s other v c)

told_unasked : (standing : Standing) (h : Heard) → is_unasked standing (Some h) ≡ false
told_unasked Asked h = refl
told_unasked Claimed h = refl
told_unasked (Ignored cause) h = refl

unasked_longer : (standing : Standing) (c p : ℕ) (h : Heard) (heard : List (ℕ × Heard)) → is_unasked standing (told_of heard c) ≡ false → is_unasked standing (told_of ((p, h) ∷ heard) c) ≡ false
unasked_longer standing c p h heard was = go (p == c) refl
  where
    go : (b : Bool) → (p == c) ≡ b → is_unasked standing (told_of ((p, h) ∷ heard) c) ≡ false
    go true is = rw is (told_unasked standing h)
    go false is = rw is was

-- it heard of the repository
heard_unasked : (s : SetUp) (st : State) (w : Work) (c : ℕ) (h : Heard) (heard : List (ℕ × Heard)) → w.heard ≡ (c, h) ∷ heard → is_to_ask s st w c ≡ false
heard_unasked s st w c h heard is =
    let standing = standing_by (st.read w.number) w.what.key (id_of s.repos c) in
    to_ask_is s st w c ∙ ap (λ (hs : List (ℕ × Heard)). is_unasked standing (told_of hs c)) is ∙ now standing
  where
    now : (standing : Standing) → is_unasked standing (told_of ((c, h) ∷ heard) c) ≡ false
    now standing = rw (eqb_refl c) (told_unasked standing h)

-- ---- the first step of a remote drop

-- it hears of its own repository then
abbrev Tells : ℕ → Work → Work → Type 0
Tells r w x = (h : Heard) × (x.heard ≡ (r, h) ∷ w.heard)

talk_tells : (rows : RowsAndEnds) (r : ℕ) (w y : Work) (e : Entry) → y.part ≡ Drops → y.phase ≡ Fresh → y.heard ≡ w.heard → e.sent ≡ [] → e.taken ≡ None → Tells r w (talks rows r y e e.sent)
talk_tells rows r w y e part phase heard sent taken = (Jobs.Lacks (unshared_cause (rows.bar y.what.key)), ap (λ (x : Work). x.heard) looks ∙ ap (λ (hs : List (ℕ × Heard)). (r, Jobs.Lacks (unshared_cause (rows.bar y.what.key))) ∷ hs) heard)
  where
    looks : talks rows r y e e.sent ≡ first_look r y Drops (rows.present y.what.key) (rows.bar y.what.key)
    looks = ap (talks rows r y e) sent ∙ ap (Jobs.hears_frame rows r y) taken ∙ ap (Jobs.quiet rows r y) phase
        ∙ ap (λ (q : Part). first_look r y q (rows.present y.what.key) (rows.bar y.what.key)) part

fault_tells : (r : ℕ) (w : Work) (time : ℕ) (call : Call) → w.part ≡ Drops → w.phase ≡ Fresh → side_of w ≡ Remote → is_fresh (fault_of r w time call).phase ≡ false → (h : Heard) × ((fault_of r w time call).heard ≡ (r, h) ∷ w.heard)
fault_tells r w time PutFile part phase side later = absurd (fresh_off w.phase phase later)
fault_tells r w time Unhold part phase side later = absurd (fresh_off w.phase phase (subst (λ (x : Work). is_fresh x.phase ≡ false) (ap (after_failed_release w time) phase) later))
fault_tells r w time call part phase side later = (Jobs.Lacks causes.Fault, λ i. (Jobs.fault_phase r w (part i) (side i) (phase i)).heard)

module _ (t : Turn) (m : Effect) (rows : RowsAndEnds) (e : Entry) (part : t.w.part ≡ Drops) (phase : t.w.phase ≡ Fresh) (side : side_of t.w ≡ Remote) (sent : e.sent ≡ m.sent) (taken : e.taken ≡ m.taken) where
  no_local : side_of t.w ≡ Local → ⊥
  no_local is = let both : Local ≡ Remote = sym is ∙ side in cc

  kind_tells : (kind : EntryKind) → FoundBy t m kind → TalkKind t m kind → ((j : ℕ) (outcome : Outcome) → kind ≢ ends_job j outcome) → is_fresh (work_kind rows (me t) t.w e kind).phase ≡ false
      → Tells (me t) t.w (work_kind rows (me t) t.w e kind)
  kind_tells (Share hold end by key) x y goes_on later = (Jobs.Held e.time, refl)
  kind_tells (Bar j need key) x y goes_on later = absurd (no_local x.side)
  kind_tells (Gone by key) x y goes_on later = absurd (no_local x.side)
  kind_tells (Order j peer deadline need key) x y goes_on later = absurd (fresh_no_order t (ap is_fresh phase) y)
  kind_tells (Gain by size key) x y goes_on later = absurd (let both : Fresh ≡ Jobs.GetsWord x.peer x.start size = sym phase ∙ x.phase_is in cc)
  kind_tells (ends_job j outcome) x y goes_on later = absurd (goes_on j outcome refl)
  kind_tells (Talk (Some j)) x y goes_on later =
      let quiet = y.first part phase in
      let z = learns (claims t.w t.w.part t.w.phase) t.w.phase e.taken in
      let place = readies_place t.w e.taken in
      subst (λ p. Tells (me t) t.w (Jobs.talks_on rows (me t) z e (partner t.w.what.peer p))) (sym phase)
      (talk_tells rows (me t) t.w z e (place.0 ∙ part) (place.1 ∙ phase) (talker_heard t e.taken) (sent ∙ quiet.sends_none) (taken ∙ quiet.takes_none))
  kind_tells (Fault call by) x y goes_on later = fault_tells (me t) t.w e.time call part phase side later
  kind_tells kind x y goes_on later = absurd x

-- ---- a move from a peer begins its drop, as the entries tell

gets_has : (phase : Phase) (m : Message) → Fits Gets phase → HasIt phase m → ⊥
gets_has (Jobs.PutsOffer peer) m fits has = fits
gets_has (Jobs.PutsAnswer peer start) m fits has = fits
gets_has phase m fits has = has

module _ (reads_back : SentAreRead) (s : SetUp) where
  gets_begins : (past : List Entry) (e : Entry) → OwnRun s past → (x : Stepped s past e) → (kind : EntryKind) → FoundBy (turn_at s past e x) x.made kind → x.w.part ≡ Gets
      → (work_kind (rows_at past s.number) s.number x.w e kind).part ≡ Drops → ((j : ℕ) (outcome : Outcome) → kind ≢ ends_job j outcome) → starts_drop past s.number x.w.number e kind ≡ true
  gets_begins past e run x (Share hold end by key) k gets part goes_on = absurd (let both : Gets ≡ Drops = sym gets ∙ k.part_is in cc)
  gets_begins past e run x (Bar j need key) k gets part goes_on = absurd (let both : Gets ≡ Drops = sym gets ∙ k.part_is in cc)
  gets_begins past e run x (Gone by key) k gets part goes_on = absurd (let both : Gets ≡ Drops = sym gets ∙ k.part_is in cc)
  gets_begins past e run x (Order j peer deadline need key) k gets part goes_on = absurd (let both : Gets ≡ Drops = sym gets ∙ k.part_is in cc)
  gets_begins past e run x (ends_job j outcome) k gets part goes_on = absurd (goes_on j outcome refl)
  gets_begins past e run x (Fault call by) k gets part goes_on = absurd (let both : Gets ≡ Drops = sym gets ∙ sym (fault_stays s.number x.w e.time call).1 ∙ part in cc)
  gets_begins past e run x (Gain by size key) k gets part goes_on = subst (λ (b : By). option_is (job_by b) x.w.number ≡ true) (sym k.by_is) (eqb_refl x.w.number)
  gets_begins past e run x (Talk (Some j)) k gets part goes_on =
      let w = x.w in
      let y = learns (claims w w.part w.phase) w.phase e.taken in
      let place = readies_place w e.taken in
      let mine : option_is (Some j) w.number ≡ true = subst (λ n. (n == w.number) ≡ true) (sym k.0) (eqb_refl w.number) in
      rw mine (go y place.0 place.1 (on_turn (rows_at past s.number) s.number y e (partner w.what.peer w.phase)) part)
    where
      runs : Member x.w (works past s.number)
      runs = stepped_runs s past e x

      go : (y : Work) → y.part ≡ x.w.part → y.phase ≡ x.w.phase
          → ((Jobs.talks_on (rows_at past s.number) s.number y e (partner x.w.what.peer x.w.phase)).part ≡ y.part) ⊎ ((e.sent ≡ []) × (FirstTurn y e.taken ⊎ TakenTurn y e.taken))
          → (Jobs.talks_on (rows_at past s.number) s.number y e (partner x.w.what.peer x.w.phase)).part ≡ Drops
          → ((is_quiet e.taken e.sent && not (has_stepped past s.number x.w.number)) || hears_has_it past s.number e.taken) ≡ true
      go y p q (inl same) drops = absurd (let both : Gets ≡ Drops = sym gets ∙ sym p ∙ sym same ∙ drops in cc)
      go y p q (inr (sent, inl at)) drops = rw (at.2, sent, no_step reads_back s past run x.w runs gets (sym q ∙ at.1)) refl
      go y p q (inr (sent, inr at)) drops = absurd (gets_has y.phase at.2.0 (subst (λ h. Fits Gets h) (sym q) (subst (λ h. Fits h x.w.phase) gets (works_fit s past run x.w runs))) at.2.2)
  gets_begins past e run x kind k gets part goes_on = absurd k

-- ---- the part of a job, by its kind

abbrev PartIs : Work → Type 0
PartIs w = (w.part ≡ first_part w.what.kind) ⊎ (w.part ≡ Drops)

good_part : (old : Part) (phase : Phase) (to : Part) (later : Phase) (first : Part) → GoodTo old phase to later → (old ≡ first) ⊎ (old ≡ Drops) → (to ≡ first) ⊎ (to ≡ Drops)
good_part Gets phase Gets later first g was = was
good_part Puts phase Puts later first g was = was
good_part Drops phase Drops later first g was = was
good_part Gets phase Drops later first g was = inr refl
good_part Puts phase Drops later first g was = inr refl
good_part Gets phase Puts later first g was = absurd g
good_part Puts phase Gets later first g was = absurd g
good_part Drops phase Gets later first g was = absurd g
good_part Drops phase Puts later first g was = absurd g

parts_are : (s : SetUp) (past : List Entry) → OwnRun s past → (w : Work) → Member w (works past s.number) → PartIs w
parts_are s past run w m = invariant s (λ p x. PartIs x) (λ p e is x n was. was) own past run w m
  where
    own : (p : List Entry) (e : Entry) → OwnRun s (e ∷ p) → is_of s.number e ≡ true → ((x : Work) → Member x (works p s.number) → PartIs x) → (x : Work) → Origin s p e x → PartIs x
    own p e r is was x (inl b) = subst PartIs (sym b.work_is) (inl refl)
    own p e r is was x (inr (inl b)) = was x b.ran
    own p e r is was x (inr (inr b)) =
        let v = b.by.w in
        let runs = step_runs s p e x b in
        subst (λ (k : Job). (x.part ≡ first_part k.kind) ⊎ (x.part ≡ Drops)) (sym (step_what s p e x b))
        (good_part v.part v.phase x.part x.phase (first_part v.what.kind) (steps_good s p e x b (works_fit s p r.1 v runs)) (was v runs))

-- a drop that puts is a move to a peer, whose removal is here
puts_local : (kind : JobKind) (peer : Option ℕ) → first_part kind ≡ Puts → can_drop kind ≡ true → Jobs.drop_side kind peer ≡ Local
puts_local kinds.MoveTo peer part drops = refl
puts_local kinds.Copy peer part drops = absurd (cc)
puts_local kinds.Drop peer part drops = absurd (cc)
puts_local kinds.Get peer part drops = absurd (cc)
puts_local kinds.MoveFrom peer part drops = absurd (cc)

-- ---- the invariant

-- of a remote drop that has made its first step, what it read is fixed, and its own repository isn't to be asked
abbrev Tried : SetUp → List Entry → Work → Type 0
Tried s past w = w.part ≡ Drops → side_of w ≡ Remote → (in_drop past s.number w.number ≡ true)
    × (is_fresh w.phase ≡ false → ((b : List Entry) × (before_step past s.number w.number ≡ Some b)) × (is_to_ask s (state_of s past) w s.number ≡ false))

kept_tried : (s : SetUp) (past : List Entry) (e : Entry) (w : Work) → Tried s past w → Tried s (e ∷ past) w
kept_tried s past e w x part side = (
  or_left (in_drop past s.number w.number) (is_of s.number e && starts_drop past s.number w.number e e.kind) (x part side).0,
  λ later.
      let y = (x part side).1 later in
      (read_kept past e s.number w.number y.0, to_ask_same s (state_of s (e ∷ past)) (state_of s past) w w s.number (stays_read past e s.number w.number y.0) refl refl ∙ y.1),
)

module _ (reads_back : SentAreRead) (s : SetUp) (p : List Entry) (e : Entry) (r : OwnRun s (e ∷ p)) (is : is_of s.number e ≡ true) (x : Work) (b : Steps s p e x) (part : x.part ≡ Drops) (side : side_of x ≡ Remote) where
  abbrev v : Work
  v = b.by.w

  abbrev now : State
  now = state_of s (e ∷ p)

  runs : Member v (works p s.number)
  runs = step_runs s p e x b

  fits : Fits v.part v.phase
  fits = works_fit s p r.1 v runs

  good : GoodTo v.part v.phase x.part x.phase
  good = steps_good s p e x b fits

  what : x.what ≡ v.what
  what = step_what s p e x b

  number : x.number ≡ v.number
  number = step_number s p e x b

  v_side : side_of v ≡ Remote
  v_side = subst (λ (q : Job). Jobs.drop_side q.kind q.peer ≡ Remote) what side

  -- the drop went on
  module _ (v_part : v.part ≡ Drops) (was : Tried s p v) where
    same_read : now.read x.number ≡ (state_of s p).read v.number
    same_read = ap (λ n. settings_of (read_at (e ∷ p) s.number n) s.number) number ∙ ap (λ q. settings_of q s.number) (step_read p e s.number v.number is b.step (was v_part v_side).0).1

    longer : (c : ℕ) (h : Heard) → x.heard ≡ (c, h) ∷ v.heard → is_to_ask s (state_of s p) v s.number ≡ false → is_to_ask s now x s.number ≡ false
    longer c h heard old =
        to_ask_is s now x s.number ∙ (λ i. is_unasked (standing_by (same_read i) (what i).key (id_of s.repos s.number)) (told_of (heard i) s.number))
        ∙ unasked_longer (standing_by ((state_of s p).read v.number) v.what.key (id_of s.repos s.number)) s.number c h v.heard (sym (to_ask_is s (state_of s p) v s.number) ∙ old)

    by_list : (y : Work) → x ≡ y → Changed (rows_at p s.number) s.number v e y → is_to_ask s (state_of s p) v s.number ≡ false → is_to_ask s now x s.number ≡ false
    by_list y same (inl list) old = to_ask_same s now (state_of s p) x v s.number same_read what (ap (λ (z : Work). z.heard) same ∙ list) ∙ old
    by_list y same (inr (inl l)) old = longer s.number (Jobs.Lacks l.cause) (ap (λ (z : Work). z.heard) same ∙ l.list) old
    by_list y same (inr (inr (inl l))) old = longer l.peer (Jobs.Lacks causes.Closed) (ap (λ (z : Work). z.heard) same ∙ l.list) old
    by_list y same (inr (inr (inr l))) old = elim (l.told) [
      | inl k ↦ longer k.peer (Jobs.Held k.since) (ap (λ (z : Work). z.heard) same ∙ k.list) old
      | inr k ↦ elim (k.told) [
        | inl z ↦ longer k.peer Jobs.Seen (ap (λ (z : Work). z.heard) same ∙ z.1) old
        | inr z ↦ longer k.peer Jobs.Unseen (ap (λ (z : Work). z.heard) same ∙ z.1) old
      ]
    ]

    by_first : (y : Work) → x ≡ y → Tells s.number v y → is_to_ask s now x s.number ≡ false
    by_first y same h = heard_unasked s now x s.number h.0 v.heard (ap (λ (z : Work). z.heard) same ∙ h.1)

    not_asked : is_fresh x.phase ≡ false → is_to_ask s now x s.number ≡ false
    not_asked later = go (is_fresh v.phase) refl
      where
        t : Turn
        t = turn_at s p e b.by

        go : (c : Bool) → is_fresh v.phase ≡ c → is_to_ask s now x s.number ≡ false
        go false old = elim (share_or e.kind) [
          | inl k ↦ longer s.number (Jobs.Held e.time) (ap (λ (z : Work). z.heard) b.work_is ∙ ap (λ q. (work_kind (rows_at p s.number) s.number v e q).heard) k.4) ((was v_part v_side).1 old).1
          | inr other ↦ by_list (work_kind (rows_at p s.number) s.number v e e.kind) b.work_is (kind_changed (rows_at p s.number) s.number v e (talker_is t e.taken) e.kind other) ((was v_part v_side).1 old).1
        ]
        go true old =
            by_first (work_kind (rows_at p s.number) s.number v e e.kind) b.work_is
            (kind_tells t b.by.made (rows_at p s.number) e v_part (fresh_is v.phase old) v_side (step_sent s p e x b) (ap (λ (y : Entry). y.taken) b.by.is) e.kind (step_kind s p e x b) (step_talk s p e x b fits)
            b.goes_on (subst (λ (y : Work). is_fresh y.phase ≡ false) b.work_is later))

    goes_tried : (in_drop (e ∷ p) s.number x.number ≡ true)
        × (is_fresh x.phase ≡ false → ((c : List Entry) × (before_step (e ∷ p) s.number x.number ≡ Some c)) × (is_to_ask s (state_of s (e ∷ p)) x s.number ≡ false))
    goes_tried = (
      or_left (in_drop p s.number x.number) (is_of s.number e && starts_drop p s.number x.number e e.kind) (subst (λ n. in_drop p s.number n ≡ true) (sym number) (was v_part v_side).0),
      λ later. (
        subst (λ n. (c : List Entry) × (before_step (e ∷ p) s.number n ≡ Some c)) (sym number) (step_read p e s.number v.number is b.step (was v_part v_side).0).0,
        not_asked later,
      ),
    )

  -- or begins
  new_phase : v.part ≢ Drops → x.phase ≡ Fresh
  new_phase apart = go v.part x.part good part apart
    where
      go : (old to : Part) → GoodTo old v.phase to x.phase → to ≡ Drops → old ≢ Drops → x.phase ≡ Fresh
      go Gets Drops g to off = g
      go Puts Drops g to off = g
      go Drops to g is off = absurd (off refl)
      go Gets Gets g to off = absurd (cc)
      go Gets Puts g to off = absurd (cc)
      go Puts Gets g to off = absurd (cc)
      go Puts Puts g to off = absurd (cc)

  no_puts : v.part ≡ Puts → ⊥
  no_puts puts = elim (kind_turns (rows_at p s.number) s.number v e e.kind) [
    | inl same ↦ (let both : Puts ≡ Drops = sym puts ∙ sym same ∙ sym (ap (λ (y : Work). y.part) b.work_is) ∙ part in cc)
    | inr move ↦ elim (parts_are s p r.1 v runs) [
      | inl first' ↦ (let local : side_of v ≡ Local = puts_local v.what.kind v.what.peer (sym first' ∙ puts) (move_drops v.what.kind move) in let both : Local ≡ Remote = sym local ∙ v_side in cc)
      | inr drops ↦ (let both : Puts ≡ Drops = sym puts ∙ drops in cc)
    ]
  ]

  new_tried : v.part ≡ Gets → (in_drop (e ∷ p) s.number x.number ≡ true)
      × (is_fresh x.phase ≡ false → ((c : List Entry) × (before_step (e ∷ p) s.number x.number ≡ Some c)) × (is_to_ask s (state_of s (e ∷ p)) x s.number ≡ false))
  new_tried gets = (
    or_right (in_drop p s.number x.number) (is_of s.number e && starts_drop p s.number x.number e e.kind)
        (and_from (is_of s.number e) (starts_drop p s.number x.number e e.kind) is
        (subst (λ n. starts_drop p s.number n e e.kind ≡ true) (sym number)
        (gets_begins reads_back s p e r.1 b.by e.kind (step_kind s p e x b) gets (sym (ap (λ (y : Work). y.part) b.work_is) ∙ part) b.goes_on))),
    λ later. absurd (fresh_off x.phase (new_phase (λ d. let both : Gets ≡ Drops = sym gets ∙ d in cc)) later),
  )

  step_tried : Tried s p v → (in_drop (e ∷ p) s.number x.number ≡ true)
      × (is_fresh x.phase ≡ false → ((c : List Entry) × (before_step (e ∷ p) s.number x.number ≡ Some c)) × (is_to_ask s (state_of s (e ∷ p)) x s.number ≡ false))
  step_tried was = go v.part refl
    where
      go : (q : Part) → v.part ≡ q → (in_drop (e ∷ p) s.number x.number ≡ true)
          × (is_fresh x.phase ≡ false → ((c : List Entry) × (before_step (e ∷ p) s.number x.number ≡ Some c)) × (is_to_ask s (state_of s (e ∷ p)) x s.number ≡ false))
      go Drops at = goes_tried at was
      go Gets at = new_tried at
      go Puts at = absurd (no_puts at)

module _ (reads_back : SentAreRead) (s : SetUp) where
  tried : (past : List Entry) → OwnRun s past → (w : Work) → Member w (works past s.number) → Tried s past w
  tried past run w m = invariant s (Tried s) (λ p e is x n was. kept_tried s p e x was) own past run w m
    where
      own : (p : List Entry) (e : Entry) → OwnRun s (e ∷ p) → is_of s.number e ≡ true → ((x : Work) → Member x (works p s.number) → Tried s p x) → (x : Work) → Origin s p e x → Tried s (e ∷ p) x
      own p e r is was x (inl b) part side = (begun_drop s p e x is b part, λ later. absurd (fresh_off x.phase (ap (λ (y : Work). y.phase) b.work_is) later))
      own p e r is was x (inr (inl b)) part side = kept_tried s p e x (was x b.ran) part side
      own p e r is was x (inr (inr b)) part side = step_tried reads_back s p e r is x b part side (was b.by.w (step_runs s p e x b))

  -- ---- whom it calls

  target_peer : (kind : JobKind) (o : Option ℕ) (side : Side) → IsPeer s kind o → Jobs.or_own s.number side o ≢ s.number → Member (Jobs.or_own s.number side o) (others s)
  target_peer kind (Some peer) Remote is apart = peer_other s peer is.0 is.1
  target_peer kind None Remote is apart = absurd (apart refl)
  target_peer kind o Local is apart = absurd (apart refl)

  -- a job opens connections with other repositories alone
  pub called_other : (past : List Entry) (e : Entry) → OwnRun s past → (x : Stepped s past e) (peer : ℕ) → Called (turn_at s past e x) peer → Member peer (others s)
  called_other past e run x peer (inl source) = source_other s (turn_at s past e x) x.w.what.kind x.w.what.peer peer refl (aims s past run x.w (stepped_runs s past e x)).0 source
  called_other past e run x peer (inr (inl own)) = kind_peer s x.w.what.kind x.w.what.peer peer (aims s past run x.w (stepped_runs s past e x)).0 own
  called_other past e run x peer (inr (inr (part, phase, inl (knows, next)))) =
      elim (next_other s (side_of x.w) (target_of s.number x.w) (is_to_ask s (state_of s past) x.w) peer next) [
        | inl m ↦ m
        | inr own ↦ absurd (true≢false (sym own.1 ∙ ((tried past run x.w (stepped_runs s past e x) part own.0).1 (ap is_fresh phase)).1))
      ]
  called_other past e run x peer (inr (inr (part, phase, inr (knows, side, same)))) =
      let a = aims s past run x.w (stepped_runs s past e x) in
      subst (λ n. Member n (others s)) (sym same) (target_peer x.w.what.kind x.w.what.peer (side_of x.w) a.0 (other_target s x.w a part side))
