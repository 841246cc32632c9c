-- While a drop runs alone no end of its connections is closed.
use Rattle.std.specs.Prelude.{◌&&◌, ◌==◌}
use Rattle.std.proofs.Common.{◌≡◌, ◌≢◌, ℕ, ◌+◌, ◌≤◌, true, false, List, [], ◌∷◌, ◌++◌, Option, Some, None, inl, inr, refl, sym, ap, ◌∙◌, subst, arith}
use Rattle.std.proofs.lemmas.Bool.{true≢false, and_parts, eqb-true}
use Rattle.annex_base.specs.Lists.{Each, Member}
use Rattle.annex_base.specs.declared.kinds.Found.{Found}
use Rattle.annex_base.specs.declared.kinds.Found.TheVariants as found
use Rattle.annex_base.proofs.Lists.{Each-member, list_any_found}
use Rattle.run_data.specs.declared.entry.Entry.{Entry}
use Rattle.run_data.specs.declared.entry.EntryKind.{EntryKind}
use Rattle.run_data.specs.declared.entry.EntryKind.TheVariants.{Begin, Gain, Share, Release, Check, Gone, Talk, Close, Fault}
use Rattle.run_data.specs.declared.entry.FrameView.{FrameView}
use Rattle.run_data.specs.declared.entry.FrameText.{FrameText}
use Rattle.run_data.specs.declared.entry.FrameText.TheVariants.{Opening, Closing, Bytes, Line}
use Rattle.run_data.specs.declared.job.Job.{Job}
use Rattle.run_data.specs.declared.run.Run.{Run}
use Rattle.run_data.specs.Repos.{IsSetUp}
use Rattle.p2p_wire.specs.declared.message.Message.{Message}
use Rattle.p2p_wire.specs.Messages.{message_of}
use Rattle.node_model.specs.Found.{IsSessionEntry, SaysTalk}
use Rattle.node_model.specs.Jobs.{Work, running_job}
use Rattle.node_model.specs.Rows.{option_is}
use Rattle.node_model.specs.Sessions.{Doing}
use Rattle.node_model.specs.SessionStep.{Here}
use Rattle.node_model.specs.Slots.{RunningJob, job_of}
use Rattle.run_model.specs.Causes.{ClosedWith, Closes, HearsMessage}
use Rattle.run_model.specs.Frames.{FlyingFrame, MayTake, is_job}
use Rattle.run_model.specs.Past.{Occurs, begun_count, is_of, jobs}
use Rattle.run_model.specs.Run.{RunPast, RunStep, set_up}
use Rattle.run_model.specs.Said.{CloseIt, Said, message_in, said_line}
use Rattle.run_model.specs.States.{works}
use Rattle.step_facts.proofs.Below.{SentAreRead}
use Rattle.step_facts.proofs.JobKept.{jobs_are}
use Rattle.step_facts.proofs.JobSteps.{stepped_job, stepped_runs}
use Rattle.step_facts.proofs.Makers.{TakenBy, taken_of, taker}
use Rattle.step_facts.proofs.Plain.{member_mapped}
use Rattle.step_facts.proofs.WorkNumbers.{number_begun}
use Rattle.past_facts.proofs.OwnRuns.{step_at, Part, own_past, part_of}
use Rattle.past_facts.proofs.PlaceParts.{begun_more}
use Rattle.past_facts.proofs.Told.{sends_member}
use Rattle.run_laws.proofs.FromStep.{meets}
use Rattle.run_laws.proofs.HeardTells.{taken_peer}
use Rattle.run_laws.proofs.SessionOwn.{way_at}
use Rattle.run_laws.proofs.WayCounts.{in_sender-is, way_in}
use Rattle.cause_laws.proofs.Epochs.{client_end}
use Rattle.alone_drops.proofs.Since.{Beginning, Later, Since, split, is_calm}
use Rattle.alone_drops.proofs.Ends.{quietly}
use Rattle.alone_drops.proofs.Frames.{NewFrame, answer_new}
use Rattle.alone_drops.proofs.Rows.{who}

-- ---- what a session says that makes no Close and no fault

abbrev NoClosing : List FrameText → Type 0
NoClosing says = Each (λ b. b ≢ Closing) says

line_open : (text : List ℕ) → Line text ≢ Closing
line_open text e = cc

one_line : (text : List ℕ) (says : List FrameText) → says ≡ Line text ∷ [] → NoClosing says
one_line text says is = subst NoClosing (sym is) (line_open text, tt)

none_said : (says : List FrameText) → says ≡ [] → NoClosing says
none_said says is = subst NoClosing (sym is) tt

talk_open : (clock : ℕ) (says : List FrameText) → SaysTalk clock says → NoClosing says
talk_open clock [] x = tt
talk_open clock (Bytes n ∷ []) x = ((λ e. cc), tt)
talk_open clock (Line text ∷ []) x = (line_open text, tt)
talk_open clock says x = absurd x

check_open : (h : Here) (doing : Doing) (asked : Option Message) (says : List FrameText) (what : Found) (key : List ℕ) → IsSessionEntry h doing asked says (Check what key) → NoClosing says
check_open h doing asked says found.Present key x = one_line _ says x.says_is
check_open h doing asked says found.Absent key x = elim (x.3) [ inl y ↦ one_line _ says y | inr y ↦ one_line _ says y.0 ]
check_open h doing asked says found.Barred key x = one_line _ says x.3
check_open h doing asked says found.Held key x = one_line _ says x.3
check_open h doing asked says found.Late key x = one_line _ says x.2
check_open h doing asked says found.Nolock key x = one_line _ says x.3

session_open : (h : Here) (doing : Doing) (asked : Option Message) (says : List FrameText) (kind : EntryKind) → is_calm kind ≡ true → IsSessionEntry h doing asked says kind → NoClosing says
session_open h doing asked says (Share hold end by key) u x = one_line _ says x.says_is
session_open h doing asked says (Check what key) u x = check_open h doing asked says what key x
session_open h doing asked says (Gone by key) u x = one_line _ says x.says_is
session_open h doing asked says (Release hold key) u x = none_said says x.says_is
session_open h doing asked says (Gain by size key) u x = one_line _ says x.says_is
session_open h doing asked says (Talk None) u x = talk_open _ says x
session_open h doing asked says (Close peer slot client) u x = absurd (cc)
session_open h doing asked says (Fault call by) u x = absurd (cc)
session_open h doing asked says kind u x = absurd x

line_closes : (o : Option Message) → said_line o ≡ CloseIt → ⊥
line_closes None e = cc
line_closes (Some m) e = cc

close_is : (body : FrameText) → message_in body ≡ CloseIt → body ≡ Closing
unfolding message_in
close_is Closing e = refl
close_is Opening e = absurd (cc)
close_is (Bytes n) e = absurd (cc)
close_is (Line text) e = absurd (line_closes (message_of text) e)

-- ---- jobs that are to begin

occurs_begun : (past : List Entry) (x : Entry) (before : List Entry) (r : ℕ) → Occurs past x before → begun_count before r ≤ begun_count past r
occurs_begun [] x before r o = absurd o
occurs_begun (e ∷ past) x before r (inl o) = subst (λ (p : List Entry). begun_count p r ≤ begun_count (e ∷ past) r) (sym o.1) (begun_more e past r)
occurs_begun (e ∷ past) x before r (inr o) = more (begun_count before r) (begun_count past r) (begun_count (e ∷ past) r) (occurs_begun past x before r o) (begun_more e past r)
  where
    more : (i k l : ℕ) → i ≤ k → k ≤ l → i ≤ l
    more i k l m n = omega (arith, m, n)

pub is_number : (kind : EntryKind) (i j : ℕ) → job_of kind ≡ Some i → option_is (job_of kind) j ≡ true → i ≡ j
is_number kind i j is same = eqb-true i j (subst (λ (o : Option ℕ). option_is o j ≡ true) is same)

module _ (reads_back : SentAreRead) (run : Run) (repos : Each IsSetUp run.repos) (past : List Entry) (b : Entry) (a j : ℕ) (what : Job) (z : Beginning run past b a j what) (h0 : RunPast (set_up run) (b ∷ past)) where
  abbrev base : List Entry
  base = b ∷ past

  later_number : j ≡ begun_count past a + 1
  later_number = (quietly reads_back run repos past b a j what z h0).may.number_is

  too_late : (k n : ℕ) → k ≤ n → j ≡ n + 1 → k ≡ j → ⊥
  too_late k n i e f = omega (arith, i, e, f)

  -- no job before had this number
  pub no_work : (x : Entry) (before : List Entry) → Occurs past x before → (w : Work) → Member w (works before a) → w.number ≡ j → ⊥
  no_work x before o w m same =
      let h = (step_at run past x before h0.1 o).1 in
      too_late w.number (begun_count past a) (more w.number (begun_count before a) (begun_count past a) (number_begun (set_up run a) before (own_past run repos a before h).run w m) (occurs_begun past x before a o)) later_number same
    where
      more : (i k l : ℕ) → i ≤ k → k ≤ l → i ≤ l
      more i k l m n = omega (arith, m, n)

  -- nobody hears a Close
  no_close : (xs : List Entry) → RunPast (set_up run) (xs ++ base) → Since run base xs → (e : Entry) → RunStep (set_up run) (xs ++ base) e → is_job a j e ≡ true → (f : FrameView) → e.taken ≡ Some f → f.up ≡ false → message_in f.body ≡ CloseIt → ⊥
  no_close xs h t e step mine f took down says = elim (who reads_back run repos past b a j what z h0 l.ys l.steps l.since c (λ same. apart (sym same)) it.entry l.step l.calm.kind by_c) [
    | inl y ↦ subst (Member it.frame) y.sends_none among
    | inr y ↦ Each-member (λ (s : FrameText). s ≢ Closing) y.says it.frame.body (session_open y.hh y.doing y.asked y.says it.entry.kind l.calm.kind y.found) (y.sent it.frame among) body
  ]
    where
      p : List Entry
      p = xs ++ base

      own : is_of a e ≡ true
      own = (and_parts (is_of a e) (option_is (job_of e.kind) j) mine).0

      part : Part (set_up run) p a e
      part = part_of (set_up run) p e a step own

      k : TakenBy (set_up run a) p e f
      k = taken_of (set_up run a) p e (taker (set_up run a) p part.words e part.own f took down) f took

      c : ℕ
      c = k.peer

      apart : a ≢ c
      apart same = ((meets reads_back run repos p e h step).own a own).taken_from f took (taken_peer (set_up run a) p e f k ∙ sym same)

      may : MayTake p (way_in a (client_end c k.w.slot) f.epoch) f
      may = subst (λ v. MayTake p v f) (way_at a (client_end c k.w.slot) f k.of_end) (part.frames.takes f took)

      it : FlyingFrame
      it = may.it

      new : NewFrame run base (way_in a (client_end c k.w.slot) f.epoch) it
      new = answer_new reads_back run repos past b a j what z h0 xs h t c k.w.slot apart f k.of_end k.opened k.may may

      l : Later run base it.entry it.before
      l = new.later

      by_c : is_of c it.entry ≡ true
      by_c = subst (λ m. is_of m it.entry ≡ true) (in_sender-is a (client_end c k.w.slot) f.epoch) new.by

      among : Member it.frame it.entry.sent
      among = sends_member (way_in a (client_end c k.w.slot) f.epoch) it.entry it.frame new.on

      body : it.frame.body ≡ Closing
      body = may.body_is ∙ close_is f.body says

  -- what it heard came since
  pub heard_since : (xs : List Entry) → RunPast (set_up run) (xs ++ base) → Since run base xs → (peer : ℕ) (m : Said) (x : HearsMessage (xs ++ base) a j peer m) → Later run base x.entry x.before
  heard_since xs h t peer m x = elim (split run base xs h t x.entry x.before x.occurs) [ inr l ↦ l | inl o ↦ absurd (before o) ]
    where
      own : (is_of a x.entry ≡ true) × (option_is (job_of x.entry.kind) j ≡ true)
      own = and_parts (is_of a x.entry) (option_is (job_of x.entry.kind) j) x.own

      before : Occurs base x.entry x.before → ⊥
      before (inl o) = let none : x.entry.taken ≡ None = ap (λ (y : Entry). y.taken) o.0 ∙ (quietly reads_back run repos past b a j what z h0).takes_none in let bad : None ≡ Some x.f = sym none ∙ x.takes_it in cc
      before (inr o) =
          let at = step_at run past x.entry x.before h0.1 o in
          let part = part_of (set_up run) x.before x.entry a at.0 own.0 in
          let y = taker (set_up run a) x.before part.words x.entry part.own x.f x.takes_it x.down in
          no_work x.entry x.before o y.w (stepped_runs (set_up run a) x.before x.entry y) (is_number x.entry.kind y.w.number j (stepped_job (set_up run a) x.before x.entry y) own.1)

  never_hears : (xs : List Entry) → RunPast (set_up run) (xs ++ base) → Since run base xs → (peer : ℕ) → HearsMessage (xs ++ base) a j peer CloseIt → ⊥
  never_hears xs h t peer x = let l = heard_since xs h t peer CloseIt x in no_close l.ys l.steps l.since x.entry l.step x.own x.f x.takes_it x.down x.says

  never_closes : (xs : List Entry) → RunPast (set_up run) (xs ++ base) → Since run base xs → (peer : ℕ) → Closes (xs ++ base) a j peer → ⊥
  never_closes xs h t peer x = elim (split run base xs h t x.entry x.before x.occurs) [
    | inr l ↦ true≢false (sym l.calm.kind ∙ ap is_calm x.kind_is)
    | inl o ↦ before o
  ]
    where
      before : Occurs base x.entry x.before → ⊥
      before (inl o) = let bad : Close peer x.slot true ≡ Begin j what = sym x.kind_is ∙ ap (λ (y : Entry). y.kind) o.0 ∙ z.kind_is in cc
      before (inr o) =
          let y = list_any_found (λ (r : RunningJob). (r.number == j) && (r.slot == x.slot)) (jobs x.before a) x.slot_is in
          let w = member_mapped running_job (works x.before a) y.0 (subst (Member y.0) (sym (jobs_are x.before a)) y.1) in
          no_work x.entry x.before o w.0 w.1 (ap (λ (r : RunningJob). r.number) (sym w.2) ∙ eqb-true y.0.number j (and_parts (y.0.number == j) (y.0.slot == x.slot) y.2).0)

  -- **no end of the job's connections is closed**
  pub never_shut : (xs : List Entry) → RunPast (set_up run) (xs ++ base) → Since run base xs → (peer : ℕ) → ClosedWith (xs ++ base) a j peer → ⊥
  never_shut xs h t peer (inl x) = never_hears xs h t peer x.0
  never_shut xs h t peer (inr x) = never_closes xs h t peer x.0
