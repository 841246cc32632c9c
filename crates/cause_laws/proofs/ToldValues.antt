-- The causes that a drop was told by its entries have the values that its list has, with the words beside its answers.
use Rattle.std.proofs.Common.{◌≡◌, ◌≢◌, ℕ, ◌<◌, Bool, true, false, List, [], ◌∷◌, Option, Some, None, ◌⊎◌, inl, inr, refl, sym, ap, ◌∙◌, subst}
use Rattle.std.specs.Prelude.{if◌then◌else◌, ◌==◌, ◌&&◌, length, not, option_map, slice_get}
use Rattle.std.specs.List.{list_any}
use Rattle.std.proofs.lemmas.Bool.{true≢false, and_parts, eqb-true, ne_eqb, not-true}
use Rattle.std.proofs.lemmas.Option.{same_Some}
use Rattle.std.specs.Option.{option_or}
use Rattle.annex_base.specs.Lists.{Each, Member}
use Rattle.annex_base.specs.declared.kinds.Found.TheVariants as found
use Rattle.annex_base.specs.declared.kinds.Word.{Word}
use Rattle.annex_base.proofs.Conditions.{eqb_apart, eqb_refl}
use Rattle.step_facts.proofs.Below.{SentAreRead}
use Rattle.run_data.specs.declared.entry.Entry.{Entry}
use Rattle.run_data.specs.declared.entry.EntryKind.{EntryKind}
use Rattle.run_data.specs.declared.entry.EntryKind.TheVariants.{Check, Close, Fault, Talk, End as ends_job}
use Rattle.run_data.specs.declared.entry.FrameView.{FrameView}
use Rattle.run_data.specs.declared.entry.FrameText.{FrameText}
use Rattle.run_data.specs.declared.entry.FrameText.TheVariants.{Opening, Closing, Bytes, Line}
use Rattle.run_data.specs.declared.job.Cause.{Cause}
use Rattle.run_data.specs.declared.job.Cause.TheVariants as causes
use Rattle.run_data.specs.declared.job.Outcome.{Outcome}
use Rattle.p2p_wire.specs.declared.message.Message.{Message}
use Rattle.p2p_wire.specs.declared.message.Message.TheVariants.{CheckPresent, Failure}
use Rattle.p2p_wire.specs.Messages.{message_of}
use Rattle.run_model.specs.Said.{Said, CloseIt, Says, is_close, message_in}
use Rattle.run_model.specs.Past.{Always, bar, begun_count, begun_job, is_of, jobs}
use Rattle.node_model.specs.Slots.{RunningJob, job_of}
use Rattle.node_model.specs.Rows.{option_is}
use Rattle.run_model.specs.Frames.{FlyingFrame, SendingEntry, is_job, last_request, said_of, sender, frames_sent, sending_entry, taken_count, up_of, way_of}
use Rattle.run_model.specs.Logs.{before_step, in_drop, is_step}
use Rattle.run_model.specs.Drops.{cause_by_sender, cause_closed, cause_of_kind, cause_own, cause_said, cause_taken, cause_with, is_first_step, key_in, newer_cause, option_is_none, or_closed, or_fault, shuts, tells_cause, told_cause}
use Rattle.node_model.specs.Evidence.{Fails, candidates}
use Rattle.node_model.specs.SetUp.{SetUp}
use Rattle.node_model.specs.Sessions.{line_in}
use Rattle.run_model.specs.States.{end_at, rows_at, works}
use Rattle.node_model.specs.Jobs
use Rattle.node_model.specs.Jobs.{AsksLook, Drops, Fresh, Heard, Lacks, Orders, Part, Phase, Unseen, Work, job_end, partner, running_job, side_of, target_of, work_kind}
use Rattle.node_model.specs.Knows.{cause_heard, cause_of_word, heard_offer}
use Rattle.run_model.specs.Words.{awaits_word, word_of, word_of_kind, word_told}
use Rattle.run_model.specs.Run.{OwnPart, OwnPast, OwnRun, RunPast, RunStep, set_up}
use Rattle.step_facts.proofs.BySteps.{earlier}
use Rattle.run_laws.proofs.SaidDown.{is_said, said_is}
use Rattle.job_facts.proofs.TalkFacts.{Fits}
use Rattle.step_facts.proofs.JobSteps.{Begins, Origin, Stays, Stepped, Steps, invariant, stepped_job, stepped_runs, turn_at}
use Rattle.step_facts.proofs.WorkNumbers.{same_number_same_work}
use Rattle.dialogue_facts.proofs.WordsTold.{word_now, word_still}
use Rattle.job_facts.proofs.PhaseFacts.{is_fresh, only_look}
use Rattle.job_facts.proofs.DropLeaves.{fresh_unread}
use Rattle.cause_laws.proofs.EvidenceCauses.{CausesTold}
use Rattle.job_facts.proofs.WorkFits.{step_kind, step_runs, step_sent, works_fit}
use Rattle.job_facts.proofs.DropReads.{read_kept, step_read, told_of}
use Rattle.job_facts.proofs.Untouched.{begin_still, begins_later, begun_before, not_yet, still_sends}
use Rattle.dialogue_facts.proofs.PartnerCloses.{stepped_shuts}
use Rattle.step_facts.proofs.Makers.{TakenBy, taken_of, taker}
use Rattle.step_facts.proofs.ClientCounts.{LastIs, Request, request}
use Rattle.step_facts.proofs.ClientWays.{asked_by}
use Rattle.run_laws.proofs.ClientAwaits.{taken_last}
use Rattle.job_facts.proofs.HeardLists.{Changed, kind_changed, share_or, talker_is}
use Rattle.job_facts.proofs.HeardSteps.{moved_listens}
use Rattle.step_facts.proofs.ClientLeaves.{Taking}
use Rattle.run_laws.proofs.Decisions.{runs_begun, stepped_of}
use Rattle.step_facts.proofs.JobKept.{kind_kept}
use Rattle.job_facts.proofs.OwnTried.{other_apart}
use Rattle.dialogue_facts.proofs.DropPartners.{partner_other}
use Rattle.drop_proof.specs.declared.rule.Side.{Side}
use Rattle.drop_proof.specs.declared.rule.Side.TheVariants.{Local, Remote}
use Rattle.run_laws.proofs.AtTargets.{at_targets}
use Rattle.dialogue_facts.proofs.OwnCauses.{look_failure, own_value}
use Rattle.run_laws.proofs.SessionAnswers as table
use Rattle.job_facts.proofs.Speaks
use Rattle.run_laws.proofs.HeardAgrees.{cause_if, refuses_look, takes_failure}
use Rattle.run_laws.proofs.HeardTells.{made_as, stepped_own, taken_peer}
use Rattle.run_laws.proofs.HeardCauses.{Told, shut_told, told_stays}
use Rattle.run_laws.proofs.HeardHolds.{Candidate, HoldsOf, gave_none, on_candidate, target_in}
use Rattle.run_laws.proofs.HeardInduction.{heard_holds}
use Rattle.past_facts.proofs.Known.{cause_known}
use Rattle.run_laws.proofs.ConnectionOwn.{taken_from_step}
use Rattle.past_facts.proofs.OwnRuns.{own_past, part_of}
use Rattle.run_laws.proofs.AnswersFit.{answer_of, failure_fits}
use Rattle.run_data.specs.declared.run.Run.{Run}
use Rattle.run_data.specs.Repos.{IsSetUp}
use Rattle.job_facts.proofs.Aims.{aims, other_target}
use Rattle.run_laws.proofs.DropOwn.{target_local}
use Rattle.annex_base.proofs.Lists.{Member-filter_parts}

-- ---- a cause that is told without a refused look

-- none, or that the connection was closed
abbrev pub Lean : Option Cause → Type 0
Lean None = Unit {0}
Lean (Some causes.Closed) = Unit {0}
Lean (Some c) = ⊥

newer_lean : (a b : Option Cause) → Lean a → Lean b → Lean (newer_cause a b)
newer_lean None b x y = y
newer_lean (Some c) b x y = x

first_lean : (a b : Option Cause) → Lean a → Lean b → Lean (option_or a b)
first_lean None b x y = y
first_lean (Some c) b x y = x

if_lean : (b : Bool) (c d : Option Cause) → Lean c → Lean d → Lean (if b then c else d)
if_lean true c d x y = x
if_lean false c d x y = y

closed_lean : (js : List RunningJob) (j r : ℕ) (kind : EntryKind) → Lean (cause_closed js j r kind)
closed_lean js j r (Close peer slot true) = if_lean (_) (Some causes.Closed) None tt tt
closed_lean js j r (Close peer slot false) = tt
closed_lean js j r kind = tt

lean_closed : (o : Option Cause) → Lean o → option_is_none o ≡ false → o ≡ Some causes.Closed
lean_closed None x e = absurd (cc)
lean_closed (Some causes.Closed) x e = refl
lean_closed (Some c) x e = absurd x

-- more entries
lean_more : (past : List Entry) (e : Entry) (r j c : ℕ) → Lean (cause_with past e c r j (sender past r e.taken)) → Lean (told_cause past r j c) → Lean (told_cause (e ∷ past) r j c)
lean_more past e r j c now old = newer_lean (tells_cause past e c r j) (or_closed past e c r j (told_cause past r j c)) now
    (first_lean (told_cause past r j c) (if is_of r e then cause_closed (jobs past r) j c e.kind else None) old (if_lean (is_of r e) (cause_closed (jobs past r) j c e.kind) None (closed_lean (jobs past r) j c e.kind) tt))

told_more : (past : List Entry) (e : Entry) (r j c : ℕ) (q : Cause) → cause_with past e c r j (sender past r e.taken) ≡ None → told_cause past r j c ≡ Some q → told_cause (e ∷ past) r j c ≡ Some q
told_more past e r j c q none old i = newer_cause (none i) (option_or (old i) (if is_of r e then cause_closed (jobs past r) j c e.kind else None))

told_new : (past : List Entry) (e : Entry) (r j c : ℕ) (q : Cause) → cause_with past e c r j (sender past r e.taken) ≡ Some q → told_cause (e ∷ past) r j c ≡ Some q
told_new past e r j c q new i = newer_cause (new i) (or_closed past e c r j (told_cause past r j c))

-- what closes is a Close
line_close : (o : Option Message) → is_close (Rattle.run_model.specs.Said.said_line o) ≡ true → ⊥
line_close None e = absurd (cc)
line_close (Some m) e = absurd (cc)

close_body : (body : FrameText) → is_close (message_in body) ≡ true → body ≡ Closing
unfolding message_in
close_body Closing e = refl
close_body Opening e = absurd (cc)
close_body (Bytes n) e = absurd (cc)
close_body (Line text) e = absurd (line_close (message_of text) e)

-- ---- what is known of one repository

pub record Valued (past : List Entry) (r j c : ℕ) (h : Heard) : Type 0 where
  pub told : told_cause past r j c ≡ Some (cause_heard (word_told past r j c) (Some h))
  pub read : (c == r) ≡ true → (b : List Entry) × (before_step past r j ≡ Some b)

abbrev pub Value : List Entry → ℕ → ℕ → ℕ → Option Heard → Type 0
Value past r j c None = (c == r) ≡ false → Lean (told_cause past r j c)
Value past r j c (Some h) = gave_none (Some h) ≡ true → Valued past r j c h

abbrev pub Values : SetUp → List Entry → Work → Type 0
Values s past w = (c : ℕ) → (target_in s.number (running_job w) == c) ≡ false → Value past s.number w.number c (told_of w.heard c)

-- an entry that tells nothing of it
value_kept : (past : List Entry) (e : Entry) (r j c : ℕ) (o : Option Heard) → ((c == r) ≡ false → o ≡ None → Lean (cause_with past e c r j (sender past r e.taken)))
    → ((h : Heard) → o ≡ Some h → Valued past r j c h → cause_with past e c r j (sender past r e.taken) ≡ None) → ((h : Heard) → o ≡ Some h → word_told (e ∷ past) r j c ≡ word_told past r j c)
    → Value past r j c o → Value (e ∷ past) r j c o
value_kept past e r j c None lean none word x = λ other. lean_more past e r j c (lean other refl) (x other)
value_kept past e r j c (Some h) lean none word x = λ gave. let v = x gave in record {
  told = told_more past e r j c (cause_heard (word_told past r j c) (Some h)) (none h refl v) v.told ∙ ap (λ (o : Option Word). Some (cause_heard o (Some h))) (sym (word h refl));
  read = λ own. read_kept past e r j (v.read own);
}

awaits_partner : (c : ℕ) (target : Option ℕ) (phase : Phase) → awaits_word c target phase ≡ true → partner target phase ≡ Some c
awaits_partner c target (AsksLook p) e = ap Some (eqb-true p c e)
awaits_partner c (Some n) Orders e = ap Some (eqb-true n c e)
awaits_partner c None Orders e = absurd (cc)
awaits_partner c target phase e = absurd (cc)

-- ---- an entry that isn't the repository's

other_cause : (past : List Entry) (e : Entry) (r j c : ℕ) (s : Option SendingEntry) → is_of r e ≡ false → cause_with past e c r j s ≡ None
other_cause past e r j c s is = go (c == r)
  where
    go : (b : Bool) → (if b then (if is_first_step past r j e then cause_own (bar past r (key_in (begun_job past r j))) e.kind else None)
        else (if is_job r j e then (if list_any (shuts c) e.sent then Some causes.Closed else cause_taken past r c s e.taken) else None)) ≡ None
    go true = rw is refl
    go false = rw is refl

lean_none : (o : Option Cause) → o ≡ None → Lean o
lean_none o is = subst Lean (sym is) tt

other_values : (s : SetUp) (past : List Entry) (e : Entry) (w : Work) → is_of s.number e ≡ false → Values s past w → Values s (e ∷ past) w
other_values s past e w is x c apart =
    let none = other_cause past e s.number w.number c (sender past s.number e.taken) is in
    value_kept past e s.number w.number c (told_of w.heard c) (λ other n. lean_none (_) none) (λ h i v. none) (λ h i. rw is refl) (x c apart)

-- ---- a refused look

said_or : (m : Said) (o : Option Said) (s : Option SendingEntry) → Lean (cause_said m o s) ⊎ (m ≡ Says Failure)
said_or CloseIt o s = inl tt
said_or (Says Failure) o s = inr refl
said_or m o s = inl tt

-- a job takes FAILURE where it asked for a look
pub record RefusedLook (s : SetUp) (past : List Entry) (e : Entry) (j c : ℕ) : Type 0 where
  pub by : Stepped s past e
  pub number : by.w.number ≡ j
  pub f : FrameView
  pub took : e.taken ≡ Some f
  pub told : line_in f.body ≡ Some Failure
  pub p : ℕ
  pub phase : by.w.phase ≡ AsksLook p
  pub peer : f.peer ≡ c

phase_or : (phase : Phase) → ((p : ℕ) × (phase ≡ AsksLook p)) ⊎ (refuses_look phase ≡ false)
phase_or (AsksLook p) = inl (p, refl)
phase_or phase = inr refl

module _ (reads_back : SentAreRead) (s : SetUp) (past : List Entry) (words : ℕ → Option Word) (e : Entry) (h : OwnPast s past) (own : OwnPart s past words e) where
  abbrev r : ℕ
  r = s.number

  -- **an entry tells no cause but that a connection is closed, or it takes a refused look**
  lean_or : (j c : ℕ) (from : Option SendingEntry) → (c == r) ≡ false → Lean (cause_with past e c r j from) ⊎ RefusedLook s past e j c
  lean_or j c from other = go (is_job r j e) refl
    where
      of_whole : (o : Option Cause) → cause_with past e c r j from ≡ o → Lean o → Lean (cause_with past e c r j from) ⊎ RefusedLook s past e j c
      of_whole o is x = inl (subst Lean (sym is) x)

      frame : is_job r j e ≡ true → list_any (shuts c) e.sent ≡ false → (f : FrameView) → e.taken ≡ Some f → (b : Bool) → ((f.peer == c) && not f.up) ≡ b → Lean (cause_with past e c r j from) ⊎ RefusedLook s past e j c
      frame its open' f took false at = of_whole None (rw (other, its, open', took, at) refl) tt
      frame its open' f took true at =
          let asked = option_map said_of (last_request past (up_of (way_of r f))) in
          let whole : cause_with past e c r j from ≡ cause_said (message_in f.body) asked from = rw (other, its, open', took, at) refl in
          let two = and_parts (f.peer == c) (not f.up) at in
          let down : f.up ≡ false = not-true f.up two.1 in
          let x = taker s past words e own f took down in
          elim (said_or (message_in f.body) asked from) [
            | inl y ↦ of_whole (cause_said (message_in f.body) asked from) whole y
            | inr failure ↦ elim (phase_or x.w.phase) [
              | inl p ↦ inr (record {
                by = x;
                number = eqb-true x.w.number j (subst (λ o. option_is o j ≡ true) (stepped_job s past e x) (and_parts (is_of r e) (option_is (job_of e.kind) j) its).1);
                f = f;
                took = took;
                told = is_said f.body Failure failure;
                p = p.0;
                phase = p.1;
                peer = eqb-true f.peer c two.0;
              })
              | inr n ↦ of_whole None (whole ∙ takes_failure reads_back s past h e f down (taken_of s past e x f took) failure from ∙ ap (λ q. cause_if q from) n) tt
            ]
          ]

      go : (b : Bool) → is_job r j e ≡ b → Lean (cause_with past e c r j from) ⊎ RefusedLook s past e j c
      go false its = of_whole None (rw (other, its) refl) tt
      go true its = closes (list_any (shuts c) e.sent) refl
        where
          closes : (b : Bool) → list_any (shuts c) e.sent ≡ b → Lean (cause_with past e c r j from) ⊎ RefusedLook s past e j c
          closes true shut = of_whole (Some causes.Closed) (rw (other, its, shut) refl) tt
          closes false open' = by_taken e.taken refl
            where
              by_taken : (o : Option FrameView) → e.taken ≡ o → Lean (cause_with past e c r j from) ⊎ RefusedLook s past e j c
              by_taken None took = of_whole None (rw (other, its, open', took) refl) tt
              by_taken (Some f) took = frame its open' f took ((f.peer == c) && not f.up) refl

  module _ (j c : ℕ) (x : RefusedLook s past e j c) where
    part_is : x.by.w.part ≡ Drops
    part_is = only_look x.by.w.part x.p (subst (Fits x.by.w.part) x.phase (works_fit s past h.run x.by.w (stepped_runs s past e x.by)))

    heard_so : e ≡ Rattle.node_model.specs.Look.entry_of s.number x.by.look (Rattle.node_model.specs.JobStep.hears (turn_at s past e x.by) x.f)
    heard_so = x.by.is ∙ ap (Rattle.node_model.specs.Look.entry_of s.number x.by.look)
        (made_as reads_back s past e x.by (works_fit s past h.run x.by.w (stepped_runs s past e x.by)) x.f x.took
        ∙ look_failure (turn_at s past e x.by) (taken_of s past e x.by x.f x.took).peer x.f x.p x.phase part_is x.told)

    -- it is a step of the job
    refused_kind : e.kind ≡ Talk (Some x.by.w.number)
    refused_kind = ap (λ (y : Entry). y.kind) heard_so

    refused_step : is_step j e.kind ≡ true
    refused_step = ap (is_step j) (refused_kind ∙ ap (λ n. Talk (Some n)) x.number) ∙ eqb_refl j

    refused_sends : e.sent ≡ []
    refused_sends = ap (λ (y : Entry). y.sent) heard_so

  -- ---- of a repository of which the job has heard, nothing more is told

  -- the job doesn't stand on its connection
  partner_not : (w : Work) → Member w (works past r) → (c : ℕ) (o : Heard) → told_of w.heard c ≡ Some o → (target_in r (running_job w) == c) ≡ false → partner w.what.peer w.phase ≡ Some c → ⊥
  partner_not w m c o heard apart on = go w.part refl
    where
      holds : HoldsOf s past w
      holds = heard_holds reads_back s past h w m

      empty : w.heard ≡ [] → ⊥
      empty none = let bad : None ≡ Some o = sym (ap (λ hs. told_of hs c) none) ∙ heard in cc

      go : (q : Part) → w.part ≡ q → ⊥
      go Drops is =
          let cand = on_candidate s past (running_job w) w.heard w.phase c (subst (λ q. Fits q w.phase) is (works_fit s past h.run w m)) on apart (holds.asking is) in
          let bad : None ≡ Some o = sym cand.unheard ∙ heard in cc
      go Jobs.Gets is = empty (holds.start (λ d. absurd (let bad : Jobs.Gets ≡ Drops = sym is ∙ d in cc)))
      go Jobs.Puts is = empty (holds.start (λ d. absurd (let bad : Jobs.Puts ≡ Drops = sym is ∙ d in cc)))

  any_none : {X : Type 0} (q : X → Bool) (xs : List X) → ((x : X) → Member x xs → q x ≡ true → ⊥) → list_any q xs ≡ false
  any_none q [] no' = refl
  any_none q (x ∷ xs) no' = go (q x) refl (any_none q xs (λ y m. no' y (inr m)))
    where
      go : (b : Bool) → q x ≡ b → list_any q xs ≡ false → list_any q (x ∷ xs) ≡ false
      go true is more = absurd (no' x (inl refl) is)
      go false is more = rw is more

  passed_cause : (w : Work) → Member w (works past r) → (c : ℕ) (o : Heard) → told_of w.heard c ≡ Some o → (target_in r (running_job w) == c) ≡ false → (is_step w.number e.kind ≡ true → (j : ℕ) (outcome : Outcome) → e.kind ≢ ends_job j outcome)
      → (from : Option SendingEntry) → Valued past r w.number c o → cause_with past e c r w.number from ≡ None
  passed_cause w m c o heard apart goes_on from v = by_own (c == r) refl
    where
      by_own : (b : Bool) → (c == r) ≡ b → cause_with past e c r w.number from ≡ None
      by_own true mine =
          let read : before_step past r w.number ≡ Some (v.read mine).0 = (v.read mine).1 in
          let later : is_first_step past r w.number e ≡ false = ap (λ q. is_of r e && is_step w.number e.kind && (in_drop past r w.number && option_is_none q)) read ∙ off (is_of r e && is_step w.number e.kind) (in_drop past r w.number) in
          rw (mine, later) refl
        where
          off : (a b : Bool) → (a && (b && false)) ≡ false
          off true true = refl
          off true false = refl
          off false b = refl
      by_own false other = by_job (is_job r w.number e) refl
        where
          by_job : (b : Bool) → is_job r w.number e ≡ b → cause_with past e c r w.number from ≡ None
          by_job false its = rw (other, its) refl
          by_job true its = by_taken e.taken refl
            where
              numbered : (x : Stepped s past e) → x.w ≡ w
              numbered x = same_number_same_work s past h.run x.w w (stepped_runs s past e x) m
                  (eqb-true x.w.number w.number (subst (λ o. option_is o w.number ≡ true) (stepped_job s past e x) (and_parts (is_of r e) (option_is (job_of e.kind) w.number) its).1))

              shuts_none : list_any (shuts c) e.sent ≡ false
              shuts_none = by_step (is_step w.number e.kind) refl
                where
                  by_step : (b : Bool) → is_step w.number e.kind ≡ b → list_any (shuts c) e.sent ≡ false
                  by_step false still = ap (list_any (shuts c)) (still_sends s past words e own w.number still (and_parts (is_of r e) (option_is (job_of e.kind) w.number) its).1)
                  by_step true step =
                      let x = stepped_of s past words e own w.number e.kind refl step in
                      any_none (shuts c) e.sent (λ g n q.
                      let one = and_parts (g.peer == c) (g.up && is_close (message_in g.body)) q in
                      let two = and_parts g.up (is_close (message_in g.body)) one.1 in
                      partner_not w m c o heard apart (subst (λ (y : Work). partner y.what.peer y.phase ≡ Some c) (numbered x)
                      (stepped_shuts s past e x (goes_on step) g n (close_body g.body two.1) ∙ ap Some (eqb-true g.peer c one.0))))

              by_taken : (o : Option FrameView) → e.taken ≡ o → cause_with past e c r w.number from ≡ None
              by_taken None took = rw (other, its, shuts_none, took) refl
              by_taken (Some f) took = by_peer ((f.peer == c) && not f.up) refl
                where
                  by_peer : (b : Bool) → ((f.peer == c) && not f.up) ≡ b → cause_with past e c r w.number from ≡ None
                  by_peer false at = rw (other, its, shuts_none, took, at) refl
                  by_peer true at =
                      let two = and_parts (f.peer == c) (not f.up) at in
                      let x = taker s past words e own f took (not-true f.up two.1) in
                      let k = taken_of s past e x f took in
                      let peer : k.peer ≡ c = sym (taken_peer s past e f k) ∙ eqb-true f.peer c two.0 in
                      absurd (partner_not w m c o heard apart (subst (λ (y : Work). partner y.what.peer y.phase ≡ Some c) (numbered x) (k.on ∙ ap Some peer)))

  -- the word of such a repository stays
  word_passed : (w : Work) → Member w (works past r) → (c : ℕ) (o : Heard) → told_of w.heard c ≡ Some o → (target_in r (running_job w) == c) ≡ false → word_told (e ∷ past) r w.number c ≡ word_told past r w.number c
  word_passed w m c o heard apart = word_still s past e w c h.run m (off (awaits_word c w.what.peer w.phase) refl)
    where
      off : (b : Bool) → awaits_word c w.what.peer w.phase ≡ b → b ≡ false
      off false is = refl
      off true is = absurd (partner_not w m c o heard apart (awaits_partner c w.what.peer w.phase is))

  value_passed : (w : Work) → Member w (works past r) → (is_step w.number e.kind ≡ true → (j : ℕ) (outcome : Outcome) → e.kind ≢ ends_job j outcome) → Values s past w → (c : ℕ) → (target_in r (running_job w) == c) ≡ false
      → ((c == r) ≡ false → told_of w.heard c ≡ None → Lean (cause_with past e c r w.number (sender past r e.taken))) → Value (e ∷ past) r w.number c (told_of w.heard c)
  value_passed w m goes_on x c apart lean =
      value_kept past e r w.number c (told_of w.heard c) lean (λ o i v. passed_cause w m c o i apart goes_on (sender past r e.taken) v) (λ o i. word_passed w m c o i apart) (x c apart)

-- ---- an entry that is no step of the job

stays_values : SentAreRead → (s : SetUp) (past : List Entry) (words : ℕ → Option Word) (e : Entry) → OwnPast s past → OwnPart s past words e → (w : Work) → Stays s past e w → Values s past w → Values s (e ∷ past) w
stays_values reads_back s past words e h own w b x c apart =
    value_passed reads_back s past words e h own w b.ran (λ step. absurd (true≢false (sym step ∙ b.still))) x c apart
    (λ other none. elim (lean_or reads_back s past words e h own w.number c (sender past s.number e.taken) other) [
      | inl lean ↦ lean
      | inr z ↦ absurd (true≢false (sym (refused_step reads_back s past words e h own w.number c z) ∙ b.still))
    ])

-- ---- a step of the job

told_first : (q : ℕ) (o : Heard) (list : List (ℕ × Heard)) → told_of ((q, o) ∷ list) q ≡ Some o
told_first q o list = rw (eqb_refl q) refl

-- the refused look's sender found no content to see
abbrev pub LookFit : SetUp → List Entry → Entry → Type 0
LookFit s past e = (f : FrameView) → e.taken ≡ Some f → f.up ≡ false → message_in f.body ≡ Says Failure → (key : List ℕ) → option_map said_of (last_request past (up_of (way_of s.number f))) ≡ Some (Says (CheckPresent key))
    → (it : FlyingFrame) × (slice_get (frames_sent past (way_of s.number f)) (taken_count past (way_of s.number f)) ≡ Some it) × (table.refuses_look it.entry.kind ≡ true)

look_said : (o : Option FlyingFrame) (time : ℕ) (key : List ℕ) → option_map asked_by o ≡ Some (request time (Some (CheckPresent key))) → option_map said_of o ≡ Some (Says (CheckPresent key))
look_said None time key e = absurd (cc)
look_said (Some x) time key e =
    let is : Some (line_in x.frame.body) ≡ Some (Some (CheckPresent key)) = ap (λ (o : Option Request). option_map (λ (q : Request). q.what) o) e in
    let line : line_in x.frame.body ≡ Some (CheckPresent key) = cc in
    ap Some (said_is x.frame.body (CheckPresent key) line)

-- the cause is the word's
cause_word : (kind : EntryKind) → table.refuses_look kind ≡ true → or_fault (cause_of_kind kind) ≡ cause_of_word (word_of_kind kind)
cause_word (Check found.Absent key) e = refl
cause_word (Check found.Barred key) e = refl
cause_word (Fault call by) e = refl
cause_word (Check found.Present key) e = absurd (cc)
cause_word (Check found.Held key) e = absurd (cc)
cause_word (Check found.Late key) e = absurd (cc)
cause_word (Check found.Nolock key) e = absurd (cc)
cause_word kind e = absurd (cc)

-- a drop that is to begin by trying its own repository has made no step as a drop
abbrev pub DropsUnread : SetUp → Type 0
DropsUnread s = (past : List Entry) → OwnPast s past → (w : Work) → Member w (works past s.number) → w.part ≡ Drops → w.phase ≡ Fresh → side_of w ≡ Remote → before_step past s.number w.number ≡ None

module _ (reads_back : SentAreRead) (s : SetUp) (past : List Entry) (words : ℕ → Option Word) (e : Entry) (h : OwnPast s past) (own : OwnPart s past words e) (is : is_of s.number e ≡ true)
    (others' : (f : FrameView) → e.taken ≡ Some f → (f.peer == s.number) ≡ false) (fits : LookFit s past e) (unread : DropsUnread s) (x : Work) (b : Steps s past e x) (was : Values s past b.by.w) where
  abbrev v : Work
  v = b.by.w

  abbrev rr : ℕ
  rr = s.number

  abbrev y : Work
  y = work_kind (rows_at past s.number) s.number b.by.w e e.kind

  runs : Member v (works past rr)
  runs = step_runs s past e x b

  abbrev New : List (ℕ × Heard) → ℕ → Type 0
  New list c = Value (e ∷ past) s.number b.by.w.number c (told_of list c)

  of_list : (list : List (ℕ × Heard)) (c : ℕ) → y.heard ≡ list → New list c → New y.heard c
  of_list list c same n = subst (λ hs. New hs c) (sym same) n

  -- a word at the head
  headed : (q : ℕ) (o : Heard) (c : ℕ) → ((q == c) ≡ true → Value (e ∷ past) rr v.number q (Some o)) → ((q == c) ≡ false → New v.heard c) → New ((q, o) ∷ v.heard) c
  headed q o c now old = go (q == c) refl
    where
      go : (d : Bool) → (q == c) ≡ d → New ((q, o) ∷ v.heard) c
      go true same = subst (λ n. Value (e ∷ past) rr v.number n (told_of ((q, o) ∷ v.heard) n)) (eqb-true q c same)
          (subst (Value (e ∷ past) rr v.number q) (sym (told_first q o v.heard)) (now same))
      go false other = subst (Value (e ∷ past) rr v.number c) (sym (rw other refl)) (old other)

  passed : (c : ℕ) → (target_in rr (running_job v) == c) ≡ false → ((c == rr) ≡ false → told_of v.heard c ≡ None → Lean (cause_with past e c rr v.number (sender past rr e.taken))) → New v.heard c
  passed c apart lean = value_passed reads_back s past words e h own v runs (λ step. b.goes_on) was c apart lean

  -- a refused look
  by_refused : (c0 : ℕ) (z : RefusedLook s past e v.number c0) (c : ℕ) → (target_in rr (running_job v) == c) ≡ false → New y.heard c
  by_refused c0 z c apart = of_list ((z.f.peer, Unseen) ∷ v.heard) c list (headed z.f.peer Unseen c (λ same gave. value) (λ other. passed c apart (λ o n. lean other o)))
    where
      same_work : z.by.w ≡ v
      same_work = same_number_same_work s past h.run z.by.w v (stepped_runs s past e z.by) runs z.number

      k : TakenBy s past e z.f
      k = taken_of s past e z.by z.f z.took

      down : z.f.up ≡ false
      down = (Speaks.hears s past e z.by z.f z.took).1

      peer_is : z.f.peer ≡ z.p
      peer_is = taken_peer s past e z.f k ∙ same_Some k.peer z.p (sym k.on ∙ ap (partner z.by.w.what.peer) z.phase)

      taking : Taking (turn_at s past e z.by) z.f k.peer
      taking = record { on = k.on; awaiting = k.awaiting; opened = k.opened; of_end = k.of_end }

      entry : e ≡ Rattle.node_model.specs.Look.entry_of s.number z.by.look (Rattle.node_model.specs.JobStep.hears (turn_at s past e z.by) z.f)
      entry = heard_so reads_back s past words e h own v.number c0 z

      of_by : (work_kind (rows_at past rr) rr z.by.w e e.kind).heard ≡ (z.p, Unseen) ∷ z.by.w.heard
      of_by = subst (λ (q : Entry). (work_kind (rows_at past rr) rr z.by.w q q.kind).heard ≡ (z.p, Unseen) ∷ z.by.w.heard) (sym entry)
          (ap (λ (w : Work). w.heard) (moved_listens (turn_at s past e z.by) z.f k.peer taking Failure (AsksLook z.p) z.phase z.told)
          ∙ ap (λ (hs : List (ℕ × Heard)). (z.p, Unseen) ∷ hs) (Rattle.job_facts.proofs.HeardLists.talker_heard (turn_at s past e z.by) (Some z.f)))

      list : y.heard ≡ (z.f.peer, Unseen) ∷ v.heard
      list = subst (λ (w : Work). (work_kind (rows_at past rr) rr w e e.kind).heard ≡ (z.p, Unseen) ∷ w.heard) same_work of_by ∙ ap (λ n. (n, Unseen) ∷ v.heard) (sym peer_is)

      its : is_job rr v.number e ≡ true
      its = stepped_own s past e b.by

      sends : e.sent ≡ []
      sends = refused_sends reads_back s past words e h own v.number c0 z

      lean : (z.f.peer == c) ≡ false → (c == rr) ≡ false → Lean (cause_with past e c rr v.number (sender past rr e.taken))
      lean other o = lean_none (cause_with past e c rr v.number (sender past rr e.taken)) (rw (o, its, sends) (ap (λ (t : Option FrameView). cause_taken past rr c (sender past rr e.taken) t) z.took ∙ rw other refl))

      whole : (from : Option SendingEntry) → cause_with past e z.f.peer rr v.number from ≡ cause_taken past rr z.f.peer from e.taken
      whole from = rw (others' z.f z.took, its, sends) refl

      by_frame : (from : Option SendingEntry) → cause_taken past rr z.f.peer from (Some z.f) ≡ cause_said (message_in z.f.body) (option_map said_of (last_request past (up_of (way_of rr z.f)))) from
      by_frame from = rw (eqb_refl z.f.peer, down) refl

      value : Valued (e ∷ past) rr v.number z.f.peer Unseen
      value = record {
        told = told_new past e rr v.number z.f.peer (or_fault (cause_of_kind it.0.entry.kind)) cause ∙ ap Some (cause_word it.0.entry.kind it.2 ∙ ap cause_of_word (sym word));
        read = λ same. absurd (true≢false (sym same ∙ others' z.f z.took));
      }
        where
          last : LastIs z.by.w.what.key z.by.w.what.peer z.by.w.phase k.peer (option_map asked_by (last_request past (up_of (way_of rr z.f))))
          last = taken_last reads_back s past h e z.f down (ap Rattle.step_facts.proofs.Ways.is_answer (said_is z.f.body Failure z.told)) k (option_map asked_by (last_request past (up_of (way_of rr z.f)))) refl

          looked : (time : ℕ) × (option_map asked_by (last_request past (up_of (way_of rr z.f))) ≡ Some (request time (Some (CheckPresent z.by.w.what.key))))
          looked = subst (λ (q : Phase). LastIs z.by.w.what.key z.by.w.what.peer q k.peer (option_map asked_by (last_request past (up_of (way_of rr z.f))))) z.phase last (sym peer_is ∙ taken_peer s past e z.f k)

          it : (it : FlyingFrame) × (slice_get (frames_sent past (way_of rr z.f)) (taken_count past (way_of rr z.f)) ≡ Some it) × (table.refuses_look it.entry.kind ≡ true)
          it = fits z.f z.took down (said_is z.f.body Failure z.told) z.by.w.what.key (look_said (last_request past (up_of (way_of rr z.f))) looked.0 z.by.w.what.key looked.1)

          from : sender past rr e.taken ≡ Some (sending_entry it.0)
          from = ap (sender past rr) z.took ∙ ap (option_map sending_entry) it.1

          said : cause_said (message_in z.f.body) (option_map said_of (last_request past (up_of (way_of rr z.f)))) (sender past rr e.taken) ≡ Some (cause_by_sender (sender past rr e.taken))
          said = takes_failure reads_back s past h e z.f down k (said_is z.f.body Failure z.told) (sender past rr e.taken) ∙ ap (λ q. cause_if (refuses_look q) (sender past rr e.taken)) z.phase

          cause : cause_with past e z.f.peer rr v.number (sender past rr e.taken) ≡ Some (or_fault (cause_of_kind it.0.entry.kind))
          cause = whole (sender past rr e.taken) ∙ ap (λ (t : Option FrameView). cause_taken past rr z.f.peer (sender past rr e.taken) t) z.took ∙ by_frame (sender past rr e.taken) ∙ said ∙ ap (λ q. Some (cause_by_sender q)) from

          word : word_told (e ∷ past) rr v.number z.f.peer ≡ word_of_kind it.0.entry.kind
          word = word_now s past e v z.f.peer z.f h.run runs is (stepped_job s past e b.by) (subst (λ (w : Work). awaits_word z.f.peer w.what.peer w.phase ≡ true) same_work (ap (awaits_word z.f.peer z.by.w.what.peer) z.phase ∙ ap (λ n. n == z.f.peer) (sym peer_is) ∙ eqb_refl z.f.peer))
              z.took refl ∙ ap word_of it.1

  -- every other step
  by_changed : (c : ℕ) → (target_in rr (running_job v) == c) ≡ false → ((c == rr) ≡ false → Lean (cause_with past e c rr v.number (sender past rr e.taken))) → Changed (rows_at past rr) rr v e y → New y.heard c
  by_changed c apart lean (inl same) = of_list v.heard c same (passed c apart (λ o n. lean o))
  by_changed c apart lean (inr (inl o)) = of_list ((rr, Lacks o.cause) ∷ v.heard) c o.list (headed rr (Lacks o.cause) c (λ same gave. own_lacks same) (λ other. passed c apart (λ q n. lean q)))
    where
      own_lacks : (rr == c) ≡ true → Valued (e ∷ past) rr v.number rr (Lacks o.cause)
      own_lacks same = record {
        told = told_new past e rr v.number rr o.cause cause;
        read = λ self. (step_read past e rr v.number is b.step drop).0;
      }
        where
          remote : (side : Side) → side_of v ≡ side → side ≡ Remote
          remote Remote at = refl
          remote Local at =
              absurd (true≢false (sym same ∙ subst (λ n. (n == c) ≡ false) (ap (λ (d : Side). Jobs.or_own rr d v.what.peer) at) apart))

          drop : in_drop past rr v.number ≡ true
          drop = (at_targets reads_back s past h v runs).0 o.part_is

          none : before_step past rr v.number ≡ None
          none = unread past h v runs o.part_is o.first (remote (side_of v) refl)

          first : is_first_step past rr v.number e ≡ true
          first = rw (is, b.step, drop, none) refl

          cause : cause_with past e rr rr v.number (sender past rr e.taken) ≡ Some o.cause
          cause = rw (eqb_refl rr, first) (ap (λ q. cause_own (bar past rr (key_in q)) e.kind) (runs_begun s past h.run v runs)
              ∙ own_value (turn_at s past e b.by) b.by.made (rows_at past rr) rr e e.kind (step_kind s past e x b) (sym (step_sent s past e x b)) b.goes_on o)
  by_changed c apart lean (inr (inr (inl k))) = of_list ((k.peer, Lacks causes.Closed) ∷ v.heard) c k.list (headed k.peer (Lacks causes.Closed) c (λ same gave. closed same) (λ other. passed c apart (λ o n. lean o)))
    where
      closed : (k.peer == c) ≡ true → Valued (e ∷ past) rr v.number k.peer (Lacks causes.Closed)
      closed same = record { told = lean_closed (told_cause (e ∷ past) rr v.number k.peer) now (cause_known (e ∷ past) rr v.number k.peer ∙ told); read = λ self. absurd (true≢false (sym self ∙ other)) }
        where
          at : k.peer ≡ c
          at = eqb-true k.peer c same

          other : (k.peer == rr) ≡ false
          other = ne_eqb k.peer rr (other_apart s k.peer (partner_other reads_back s past h.run v runs k.part_is k.peer k.on))

          holds : HoldsOf s past v
          holds = heard_holds reads_back s past h v runs

          cand : Candidate s past (running_job v) v.heard k.peer
          cand = on_candidate s past (running_job v) v.heard v.phase k.peer (subst (λ q. Fits q v.phase) k.part_is (works_fit s past h.run v runs)) k.on k.no_target (holds.asking k.part_is)

          told : Told (e ∷ past) rr v.number k.peer
          told = go (end_at past rr (job_end v k.peer)).opened refl
            where
              go : (d : Bool) → (end_at past rr (job_end v k.peer)).opened ≡ d → Told (e ∷ past) rr v.number k.peer
              go false shut = told_stays past e rr v.number k.peer (cand.shut other shut)
              go true open' = shut_told past e rr v.number k.peer v.slot (end_at past rr (job_end v k.peer)) (stepped_own s past e b.by) other open' k.shut

          old : Lean (told_cause past rr v.number k.peer)
          old = subst (Value past rr v.number k.peer) cand.unheard (was k.peer (subst (λ n. (target_in rr (running_job v) == n) ≡ false) (sym at) apart)) other

          now : Lean (told_cause (e ∷ past) rr v.number k.peer)
          now = lean_more past e rr v.number k.peer (subst (λ n. Lean (cause_with past e n rr v.number (sender past rr e.taken))) (sym at) (lean (subst (λ n. (n == rr) ≡ false) at other))) old
  by_changed c apart lean (inr (inr (inr z))) = elim (z.told) [
    | inl q ↦ of_list ((q.peer, Jobs.Held q.since) ∷ v.heard) c q.list (headed q.peer (Jobs.Held q.since) c (λ same gave. absurd (cc)) (λ other. passed c apart (λ o n. lean o)))
    | inr q ↦ elim (q.told) [
      | inl g ↦ of_list ((q.peer, Jobs.Seen) ∷ v.heard) c g.1 (headed q.peer Jobs.Seen c (λ same gave. absurd (cc)) (λ other. passed c apart (λ o n. lean o)))
      | inr g ↦ by_refused z.f.peer (record { by = b.by; number = refl; f = z.f; took = z.takes_it; told = z.says_it ∙ ap Some g.0; p = q.peer; phase = q.phase_is; peer = refl }) c apart
    ]
  ]

  step_values : Values s (e ∷ past) x
  step_values = subst (Values s (e ∷ past)) (sym b.work_is) (λ c apart. subst (λ (j : RunningJob). Value (e ∷ past) rr j.number c (told_of y.heard c)) (sym same) (at c (subst (λ (j : RunningJob). (target_in rr j == c) ≡ false) same apart)))
    where
      same : running_job y ≡ running_job v
      same = kind_kept (rows_at past rr) rr v e e.kind

      normal : (c : ℕ) → (target_in rr (running_job v) == c) ≡ false → ((c == rr) ≡ false → Lean (cause_with past e c rr v.number (sender past rr e.taken))) → New y.heard c
      normal c apart lean = elim (share_or e.kind) [
        | inl k ↦ of_list ((rr, Jobs.Held e.time) ∷ v.heard) c (ap (λ kind. (work_kind (rows_at past rr) rr v e kind).heard) k.4) (headed rr (Jobs.Held e.time) c (λ same gave. absurd (cc)) (λ other. passed c apart (λ o n. lean o)))
        | inr apart' ↦ by_changed c apart lean (kind_changed (rows_at past rr) rr v e (talker_is (turn_at s past e b.by) e.taken) e.kind apart')
      ]

      at : (c : ℕ) → (target_in rr (running_job v) == c) ≡ false → New y.heard c
      at c apart = go (c == rr) refl
        where
          go : (d : Bool) → (c == rr) ≡ d → New y.heard c
          go true mine = normal c apart (λ other. absurd (true≢false (sym mine ∙ other)))
          go false other = elim (lean_or reads_back s past words e h own v.number c (sender past rr e.taken) other) [
            | inl lean ↦ normal c apart (λ o. lean)
            | inr z ↦ by_refused c z c apart
          ]

-- ---- over the past

abbrev pub LooksFit : SetUp → List Entry → Type 0
LooksFit s past = Always (λ p e. is_of s.number e ≡ true → LookFit s p e) past

module _ (reads_back : SentAreRead) (s : SetUp) where
  -- nothing was told to a job that hasn't begun, but that a connection was closed
  future_lean : (past : List Entry) → OwnPast s past → (j : ℕ) → begun_count past s.number < j → (c : ℕ) → (c == s.number) ≡ false → Lean (told_cause past s.number j c)
  future_lean [] h j later c other = tt
  future_lean (e ∷ past) h j later c other = go (begun_before past e s.number j later) (future_lean past (earlier s past e h) j (begun_before past e s.number j later) c other) (is_of s.number e) refl
    where
      go : begun_count past s.number < j → Lean (told_cause past s.number j c) → (b : Bool) → is_of s.number e ≡ b → Lean (told_cause (e ∷ past) s.number j c)
      go before old false is = lean_more past e s.number j c (lean_none (_) (other_cause past e s.number j c (sender past s.number e.taken) is)) old
      go before old true is =
          let own = h.run.0 is in
          lean_more past e s.number j c (elim (lean_or reads_back s past own.0 e (earlier s past e h) own.1 j c (sender past s.number e.taken) other) [
            | inl lean ↦ lean
            | inr z ↦ absurd (true≢false (sym (refused_step reads_back s past own.0 e (earlier s past e h) own.1 j c z) ∙ not_yet s past own.0 e h.run.1 own.1 j before))
          ]) old

  begins_values : (past : List Entry) (e : Entry) → OwnPast s (e ∷ past) → is_of s.number e ≡ true → (w : Work) → Begins s past e w → Values s (e ∷ past) w
  begins_values past e h is w b c apart = subst (λ (hs : List (ℕ × Heard)). Value (e ∷ past) s.number w.number c (told_of hs c)) (sym (ap (λ (y : Work). y.heard) b.work_is)) now
    where
      now : (c == s.number) ≡ false → Lean (told_cause (e ∷ past) s.number w.number c)
      now other =
          let own = h.run.0 is in
          lean_more past e s.number w.number c (elim (lean_or reads_back s past own.0 e (earlier s past e h) own.1 w.number c (sender past s.number e.taken) other) [
            | inl lean ↦ lean
            | inr z ↦ absurd (true≢false (sym (refused_step reads_back s past own.0 e (earlier s past e h) own.1 w.number c z) ∙ begin_still s past e w b))
          ]) (future_lean past (earlier s past e h) w.number (begins_later s past e h.run is w b) c other)

  -- **the values of what a drop was told**
  pub told_values : DropsUnread s → (past : List Entry) → OwnPast s past → LooksFit s past → (w : Work) → Member w (works past s.number) → Values s past w
  told_values unread past h fits w m = invariant s (λ p x. OwnPast s p → LooksFit s p → Values s p x) (λ p e is x n was k l. other_values s p e x is (was (earlier s p e k) l.1)) own past h.run w m h fits
    where
      own : (p : List Entry) (e : Entry) → OwnRun s (e ∷ p) → is_of s.number e ≡ true → ((x : Work) → Member x (works p s.number) → OwnPast s p → LooksFit s p → Values s p x)
          → (x : Work) → Origin s p e x → OwnPast s (e ∷ p) → LooksFit s (e ∷ p) → Values s (e ∷ p) x
      own p e r is was x (inl b) k l = begins_values p e k is x b
      own p e r is was x (inr (inl b)) k l =
          let mine = k.run.0 is in
          stays_values reads_back s p mine.0 e (earlier s p e k) mine.1 x b (was x b.ran (earlier s p e k) l.1)
      own p e r is was x (inr (inr b)) k l =
          let before = earlier s p e k in
          let mine = k.run.0 is in
          step_values reads_back s p mine.0 e before mine.1 is (λ f took. ne_eqb f.peer s.number (taken_from_step reads_back s p mine.0 e before k.bounds.0 is mine.1 f took)) (l.0 is) unread x b (was b.by.w (step_runs s p e x b) before l.1)

-- ---- CausesTold

fails_none : (o : Heard) → heard_offer (λ time. time) (Some o) ≡ Fails → gave_none (Some o) ≡ true
fails_none (Jobs.Held since) e = absurd (cc)
fails_none Jobs.Seen e = absurd (cc)
fails_none Unseen e = refl
fails_none (Lacks cause) e = refl

-- a candidate isn't the target
candidate_apart : (side : Side) (n r target c : ℕ) → (side ≡ Local → target ≡ r) → (side ≡ Remote → target ≢ r) → Member c (candidates side n r target) → (target == c) ≡ false
candidate_apart Local n r target c own apart m = subst (λ t. (t == c) ≡ false) (sym (own refl)) (eqb_apart c r (Member-filter_parts (λ x. not (x == r)) (_) c m).1)
candidate_apart Remote n r target c own apart (inl same) = subst (λ d. (target == d) ≡ false) (sym same) (ne_eqb target r (apart refl))
candidate_apart Remote n r target c own apart (inr m) = eqb_apart c target (Member-filter_parts (λ x. not (x == target)) (_) c m).1

-- a drop that is to begin has read nothing
drops_unread : (s : SetUp) → DropsUnread s
drops_unread s past h w m part fresh side = fresh_unread s past h.run w m part (ap is_fresh fresh)

-- **CausesTold**, by what answers fit
pub causes_told : SentAreRead → (s : SetUp) → (past : List Entry) → OwnPast s past → LooksFit s past → (w : Work) → Member w (works past s.number) → w.part ≡ Drops → CausesTold s past w
causes_told reads_back s past h fits w m part c candidate asked heard is none =
    let apart = candidate_apart (side_of w) (length s.repos) s.number (target_of s.number w) c (target_local s.number (side_of w) w.what.peer) (λ remote. other_target s w (aims s past h.run w m) part remote) candidate in
    (subst (Value past s.number w.number c) is (told_values reads_back s (drops_unread s) past h fits w m c apart) (fails_none heard none)).told

-- ---- in a run

module _ (reads_back : SentAreRead) (run : Run) (repos : Each IsSetUp run.repos) where
  look_fit : (r : ℕ) (past : List Entry) (e : Entry) → RunPast (set_up run) past → RunStep (set_up run) past e → is_of r e ≡ true → LookFit (set_up run r) past e
  look_fit r past e h step is f took down says key last =
      let may = (part_of (set_up run) past e r step is).frames.takes f took in
      let a = answer_of reads_back run repos past e r f Failure h step is took down says refl may in
      let fit : table.AnswerFits a.asked may.it.entry.kind Failure = failure_fits a.asked may.it.entry.kind a.answering in
      let same : Says a.asked ≡ Says (CheckPresent key) = sym a.asked_is ∙ same_Some _ _ (sym (ap (option_map said_of) a.last) ∙ last) in
      (may.it, may.next, subst (λ m. table.AnswerFits m may.it.entry.kind Failure) (says_inj same) fit)
    where
      says_inj : {m n : Message} → Says m ≡ Says n → m ≡ n
      says_inj e = cc

  looks_fit : (r : ℕ) (past : List Entry) → RunPast (set_up run) past → LooksFit (set_up run r) past
  looks_fit r [] h = tt
  looks_fit r (e ∷ past) h = ((λ is. look_fit r past e h.1 h.0 is), looks_fit r past h.1)

  -- **CausesTold in a run**
  pub run_told : (r : ℕ) (past : List Entry) → RunPast (set_up run) past → (w : Work) → Member w (works past r) → w.part ≡ Drops → CausesTold (set_up run r) past w
  run_told r past h w m part = causes_told reads_back (set_up run r) past (own_past run repos r past h) (looks_fit r past h) w m part
