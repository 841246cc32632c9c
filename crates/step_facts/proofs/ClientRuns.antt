-- Over the own part of a run: at each open end of a running job, requests and answers are as its phase says.
use Rattle.std.proofs.Common.{◌≡◌, ◌≢◌, ℕ, ◌<◌, Bool, true, false, List, [], ◌∷◌, length, Option, Some, None, ◌⊎◌, inl, inr, refl, sym, ap, ◌∙◌, subst}
use Rattle.std.specs.Prelude.{if◌then◌else◌, ◌==◌, ◌&&◌, find, fold, map, not}
use Rattle.std.proofs.lemmas.Bool.{true≢false, eqb-true, not-true, and_parts, and_right}
use Rattle.std.specs.Option.{option_or}
use Rattle.annex_base.specs.Lists.{Each, Member}
use Rattle.annex_base.specs.declared.kinds.Call.TheVariants.{PutFile}
use Rattle.annex_base.specs.declared.kinds.Word.{Word}
use Rattle.annex_base.proofs.Lists.{Each-filter, Member-filter_parts, find_member}
use Rattle.annex_base.proofs.Conditions.{and_first, eqb_refl, eqb_sym, if_either}
use Rattle.annex_base.specs.Bools.{same_bool}
use Rattle.annex_base.proofs.Options.{first_some-was, option_or-was}
use Rattle.run_data.specs.declared.entry.By.{By}
use Rattle.run_data.specs.declared.entry.By.TheVariants.{Script}
use Rattle.run_data.specs.declared.entry.Entry.{Entry}
use Rattle.run_data.specs.declared.entry.EntryKind.{EntryKind}
use Rattle.run_data.specs.declared.entry.EntryKind.TheVariants.{Begin, Gain, Share, Bar, Order, Gone, Log, Compact, Talk, Close, Crash, Fault, End as ends_job}
use Rattle.run_data.specs.declared.entry.FrameView.{FrameView}
use Rattle.run_data.specs.declared.entry.FrameText.{FrameText}
use Rattle.run_data.specs.declared.entry.FrameText.TheVariants.{Closing}
use Rattle.run_data.specs.declared.entry.LogFile.TheVariants.{Location}
use Rattle.run_data.specs.declared.job.Job.{Job}
use Rattle.node_model.specs.Slots.{RunningJob, job_by, job_of}
use Rattle.node_model.specs.Rows.{is_lost_ordered, option_is}
use Rattle.run_model.specs.Past.{is_of}
use Rattle.node_model.specs.Ends.{EndName, End, end_after, end_sends, end_takes, end_took, frames, sends_at, sent_at, server_end, taken_at, takes_at}
use Rattle.node_model.specs.Look.{Look, Effect, entry_of}
use Rattle.node_model.specs.SetUp.{SetUp, slots}
use Rattle.run_model.specs.States.{end_at, rows_at, works, state_of}
use Rattle.node_model.specs.Jobs.{Phase, Fresh, RowsAndEnds, Work, job_end, new_work, partner, running_job, work_after, work_kind, works_after}
use Rattle.node_model.specs.OwedLines.{due}
use Rattle.node_model.specs.State.{State}
use Rattle.node_model.specs.OwedStep.{owed_step}
use Rattle.node_model.specs.SessionStep.{here, session_step}
use Rattle.node_model.specs.JobStep.{Turn, end_with, farewell, turn_of, others_of}
use Rattle.node_model.specs.Turns.{job_step, slot_step}
use Rattle.node_model.specs.Step.{step}
use Rattle.node_model.specs.AnyTime.{MayCome}
use Rattle.run_model.specs.Run.{IsStep, ComesAnyTime, OwnRun}
use Rattle.node_model.specs.Found.{ByJob, ByOwed, BySession, GivesAt, IsJobEntry, TakesAt}
use Rattle.step_facts.proofs.JobSteps.{job_is, session_none}
use Rattle.step_facts.proofs.WorkNumbers.{same_work}
use Rattle.step_facts.proofs.JobFacts.{partner_found}
use Rattle.step_facts.proofs.JobKept.{after_kept, jobs_are}
use Rattle.step_facts.proofs.JobNumbers.{Falling, jobs_numbered}
use Rattle.step_facts.proofs.SessionFacts.{session_found}
use Rattle.step_facts.proofs.StepFacts.{pays_found}
use Rattle.step_facts.proofs.ClientCounts.{Counted, Counts, Fits, counts_after, counts_at, counts_sends, counts_took}
use Rattle.step_facts.proofs.ClientTurns.{Even}
use Rattle.step_facts.proofs.ClientSteps.{Speaks, partner_even}
use Rattle.step_facts.proofs.ServerEnds.{close_closes, each_flat}
use Rattle.step_facts.proofs.Plain.{member_mapped}

-- ---- the invariant

abbrev pub client_end : ℕ → ℕ → EndName
client_end peer slot = record { peer = peer; slot = slot; client = true }

-- what a job's phase says is so at each of its ends
abbrev pub FitsAt : List Entry → ℕ → RunningJob → Phase → Type 0
FitsAt past r j phase = (p : ℕ) → Fits j.what.key j.what.peer phase p (end_at past r (client_end p j.slot)) (counts_at past r (client_end p j.slot))

abbrev pub AllFit : SetUp → List Entry → Type 0
AllFit s past = (w : Work) → Member w (works past s.number) → FitsAt past s.number (running_job w) w.phase

-- ---- hypotheses, of others: one job per slot; a job begins in a slot whose ends are shut; what a job says is read so

pub record Slots (s : SetUp) (past : List Entry) : Type 0 where
  pub one : (w x : Work) → Member w (works past s.number) → Member x (works past s.number) → w.slot ≡ x.slot → w.number ≡ x.number
  pub shut : (job : ℕ) (what : Job) (peer : ℕ) → length (works past s.number) < 4 → (end_at past s.number (job_end (new_work (works past s.number) job what) peer)).opened ≡ false

abbrev pub SpeaksAt : (s : SetUp) (past : List Entry) → Look → Type 0
SpeaksAt s past look = (w : Work) → Member w (works past s.number) → Speaks (turn_of s (state_of s past) look w)

abbrev pub Fluent_does : (s : SetUp) (past : List Entry) (words : ℕ → Option Word) (e : Entry) → IsStep s past words e ⊎ ComesAnyTime s past e → Type 0
Fluent_does s past words e (inl x) = SpeaksAt s past x.look
Fluent_does s past words e (inr y) = Unit {0}

-- of each entry of the repository, and what stood before it
abbrev pub Given : (s : SetUp) (past : List Entry) → OwnRun s past → Type 0
Given s [] run = Unit {0}
Given s (e ∷ past) run = Slots s past × ((is : is_of s.number e ≡ true) → Fluent_does s past (run.0 is).0 e (run.0 is).1.does) × Given s past run.1

-- ---- entries that send Closes alone, or nothing, at the client's ends

fold_closes : (time : ℕ) (c : End) (q : Counts) (fs : List FrameView) → Each (λ f. f.body ≡ Closing) fs
    → (fold (λ q f. counts_sends time q f.body) q fs ≡ q) × ((fold (λ c f. end_sends c f.body) c fs).opened ≡ true → c.opened ≡ true)
fold_closes time c q [] all = (refl, λ o. o)
fold_closes time c q (f ∷ fs) all =
    let rest = fold_closes time (end_sends c f.body) (counts_sends time q f.body) fs all.1 in (
      rest.0 ∙ ap (λ (b : FrameText). counts_sends time q b) all.0,
      λ o. absurd (true≢false (sym (rest.1 o) ∙ ap (λ (b : FrameText). (end_sends c b).opened) all.0)),
    )

-- at this end the entry takes nothing, and sends Closes alone
pub record Idle (a : EndName) (e : Entry) : Type 0 where
  pub takes_none : taken_at a e.taken ≡ None
  pub closes : Each (λ f. f.body ≡ Closing) (sent_at a e.sent)

idle_fits : (key : List ℕ) (target : Option ℕ) (phase : Phase) (p : ℕ) (a : EndName) (e : Entry) (c : End) (q : Counts) → Idle a e → Fits key target phase p c q
    → Fits key target phase p (end_after a c e) (counts_after a q e)
idle_fits key target phase p a e c q idle fits = λ l o.
    let x = fold_closes e.time c q (sent_at a e.sent) idle.closes in
    let o' : (fold (λ c f. end_sends c f.body) (end_took c (taken_at a e.taken)) (sent_at a e.sent)).opened ≡ true = o in
    let was : c.opened ≡ true = x.1 (subst (λ (t : Option FrameView). (fold (λ c f. end_sends c f.body) (end_took c t) (sent_at a e.sent)).opened ≡ true) idle.takes_none o') in
    subst (Counted key target phase p) (sym (ap (λ (t : Option FrameView). fold (λ q f. counts_sends e.time q f.body) (counts_took q t) (sent_at a e.sent)) idle.takes_none ∙ x.0)) (fits l was)

-- ---- which jobs run after an entry

abbrev pub ends_it : EntryKind → ℕ → Bool
ends_it (ends_job j outcome) number = number == j
ends_it kind number = false

-- the work ran before, and the entry moved it
pub record Was (rows : RowsAndEnds) (r : ℕ) (was : List Work) (e : Entry) (x : Work) : Type 0 where
  pub w : Work
  pub ran : Member w was
  pub goes_on : ends_it e.kind w.number ≡ false
  pub is : x ≡ work_after rows r e w

-- a job that begins
pub record IsNew (was : List Work) (kind : EntryKind) (x : Work) : Type 0 where
  pub job : ℕ
  pub what : Job
  pub begins : kind ≡ Begin job what
  pub is : x ≡ new_work was job what

-- a job that ran as another begins
pub record WasThere (was : List Work) (kind : EntryKind) (x : Work) : Type 0 where
  pub ran : Member x was
  pub job : ℕ
  pub what : Job
  pub begins : kind ≡ Begin job what

works_were : (rows : RowsAndEnds) (r : ℕ) (was : List Work) (e : Entry) (kind : EntryKind) → e.kind ≡ kind → (x : Work) → Member x (works_after rows r was e kind)
    → IsNew was kind x ⊎ (WasThere was kind x ⊎ Was rows r was e x)
works_were rows r was e (Begin job what) is x (inl m) = inl (record { job = job; what = what; begins = refl; is = m })
works_were rows r was e (Begin job what) is x (inr m) = inr (inl (record { ran = m; job = job; what = what; begins = refl }))
works_were rows r was e (ends_job j outcome) is x m =
    let y = Member-filter_parts (λ (w : Work). not (w.number == j)) was x m in
    let other : (x.number == j) ≡ false = not-true (x.number == j) y.1 in
    inr (inr (record { w = x; ran = y.0; goes_on = ap (λ k. ends_it k x.number) is ∙ other; is = same (eqb_sym j x.number ∙ other) }))
  where
    same : (j == x.number) ≡ false → x ≡ work_after rows r e x
    same apart = subst (λ (k : EntryKind). x ≡ (if option_is (job_of k) x.number then work_kind rows r x e e.kind else x)) (sym is) (rw apart refl)
works_were rows r was e (Crash clock) is x m = absurd m
works_were rows r was e kind is x m = let z = member_mapped (work_after rows r e) was x m in inr (inr (record { w = z.0; ran = z.1; goes_on = ap (λ k. ends_it k z.0.number) is; is = z.2 }))

-- ---- an entry that is not of the job

-- at every end of a job in this slot the entry takes nothing, and sends Closes alone
abbrev pub IdleAt : ℕ → Entry → Type 0
IdleAt slot e = (p : ℕ) → Idle (client_end p slot) e

idle_kept : (past : List Entry) (r : ℕ) (e : Entry) (j : RunningJob) (phase : Phase) → is_of r e ≡ true → IdleAt j.slot e → FitsAt past r j phase → FitsAt (e ∷ past) r j phase
idle_kept past r e j phase own idle fits p = rw own
    (idle_fits j.what.key j.what.peer phase p (client_end p j.slot) e (end_at past r (client_end p j.slot)) (counts_at past r (client_end p j.slot)) (idle p) (fits p))

pub quiet_idle : (e : Entry) (slot : ℕ) → e.taken ≡ None → e.sent ≡ [] → IdleAt slot e
quiet_idle e slot none nothing p = record {
  takes_none = ap (taken_at (client_end p slot)) none;
  closes = subst (λ (fs : List FrameView). Each (λ f. f.body ≡ Closing) (sent_at (client_end p slot) fs)) (sym nothing) tt;
}

pub closes_idle : (e : Entry) (slot : ℕ) → e.taken ≡ None → Each (λ f. f.body ≡ Closing) e.sent → IdleAt slot e
closes_idle e slot none all p = record {
  takes_none = ap (taken_at (client_end p slot)) none;
  closes = Each-filter (λ f. f.body ≡ Closing) (sends_at (client_end p slot)) e.sent all;
}

-- ---- entries that may come at any point

-- what an entry that may come at any point is to a job that ran
pub record Aside (rows : RowsAndEnds) (r : ℕ) (e : Entry) (kind : EntryKind) : Type 0 where
  pub idle : (slot : ℕ) → IdleAt slot e
  pub leaves : (w : Work) → option_is (job_of kind) w.number ≡ false

aside : (s : SetUp) (past : List Entry) (e : Entry) (kind : EntryKind) → e.kind ≡ kind → e.taken ≡ None → MayCome s (state_of s past) e.lines e.sent kind
    → ((job : ℕ) (what : Job) → kind ≢ Begin job what) → ((clock : ℕ) → kind ≢ Crash clock) → Aside (rows_at past s.number) s.number e kind
aside s past e (Gain Script size key) is none may begins crash = record { idle = λ slot. quiet_idle e slot none may.2; leaves = λ w. refl }
aside s past e (Log file) is none may begins crash = record { idle = λ slot. quiet_idle e slot none may.1; leaves = λ w. refl }
aside s past e (Compact file) is none may begins crash = record { idle = λ slot. quiet_idle e slot none may.2; leaves = λ w. refl }
aside s past e (Fault call Script) is none may begins crash = record { idle = λ slot. quiet_idle e slot none may.2; leaves = λ w. refl }
aside s past e (Close peer slot client) is none may begins crash =
    let a : EndName = record { peer = peer; slot = slot; client = client } in
    record { idle = λ n. closes_idle e n none (subst (Each (λ (f : FrameView). f.body ≡ Closing)) (sym may.3) (close_closes s past a)); leaves = λ w. refl }
aside s past e (Begin job what) is none may begins crash = absurd (begins job what refl)
aside s past e (Crash clock) is none may begins crash = absurd (crash clock refl)
aside s past e kind is none may begins crash = absurd may

-- ---- what a step's entry is to a job that ran

-- frames of a server's end are of no client's end
server_frames : (peer slot : ℕ) (c : End) (bodies : List FrameText) (p n : ℕ) → sent_at (client_end p n) (frames (server_end peer slot) c bodies) ≡ []
server_frames peer slot c [] p n = refl
server_frames peer slot c (body ∷ bodies) p n = rw (no_up ((peer == p) && (slot == n))) (server_frames peer slot (end_sends c body) bodies p n)
  where
    no_up : (b : Bool) → (b && false) ≡ false
    no_up true = refl
    no_up false = refl

up_of_server : (up : Bool) → same_bool false (if up then false else true) ≡ true → same_bool true (if up then false else true) ≡ false
up_of_server true e = refl
up_of_server false e = absurd (cc)

server_takes : (peer slot : ℕ) (f : FrameView) (p n : ℕ) → takes_at (server_end peer slot) f ≡ true → taken_at (client_end p n) (Some f) ≡ None
server_takes peer slot f p n e =
    let up : same_bool false (if f.up then false else true) ≡ true = (and_parts ((f.peer == peer) && (f.slot == slot)) (same_bool false (if f.up then false else true)) e).1 in
    let apart : takes_at (client_end p n) f ≡ false = and_right ((f.peer == p) && (f.slot == n)) (same_bool true (if f.up then false else true)) (up_of_server f.up up) in
    rw apart refl

pub session_idle : (s : SetUp) (st : State) (k : Look) (m : Effect) (x : BySession s st k m) (slot : ℕ) → IdleAt slot (entry_of s.number k m)
session_idle s st k m x slot p = elim (x.frame) [ inl t ↦ taking t | inr g ↦ giving g ]
  where
    sent : (c : End) → m.sent ≡ frames (server_end x.peer x.slot) c x.says → Each (λ f. f.body ≡ Closing) (sent_at (client_end p slot) m.sent)
    sent c is = subst (Each (λ (f : FrameView). f.body ≡ Closing)) (sym (ap (sent_at (client_end p slot)) is ∙ server_frames x.peer x.slot c x.says p slot)) tt

    taking : TakesAt s st (server_end x.peer x.slot) x.asked x.says m → Idle (client_end p slot) (entry_of s.number k m)
    taking t = record {
      takes_none = ap (taken_at (client_end p slot)) t.taken_is ∙ server_takes x.peer x.slot t.f p slot t.of_end;
      closes = sent (end_takes (st.ends (server_end x.peer x.slot)) t.f.epoch t.f.body) t.sent_is;
    }

    giving : GivesAt s st (server_end x.peer x.slot) x.asked x.says m → Idle (client_end p slot) (entry_of s.number k m)
    giving g = record { takes_none = ap (taken_at (client_end p slot)) g.taken_is; closes = sent (st.ends (server_end x.peer x.slot)) g.sent_is }

-- ---- the frames of a job are of its slot

frames_slot : (a : EndName) (c : End) (bodies : List FrameText) → Each (λ f. f.slot ≡ a.slot) (frames a c bodies)
frames_slot a c [] = tt
frames_slot a c (body ∷ bodies) = (refl, frames_slot a (end_sends c body) bodies)

job_frames : (t : Turn) (m : Effect) (kind : EntryKind) → IsJobEntry t m kind → Each (λ f. f.slot ≡ t.w.slot) m.sent
job_frames t m (Share hold end by key) x = subst (Each (λ (f : FrameView). f.slot ≡ t.w.slot)) (sym x.sends_none) tt
job_frames t m (Bar j need key) x = subst (Each (λ (f : FrameView). f.slot ≡ t.w.slot)) (sym x.sends_none) tt
job_frames t m (Gone by key) x = subst (Each (λ (f : FrameView). f.slot ≡ t.w.slot)) (sym x.sends_none) tt
job_frames t m (Order j peer deadline need key) x = subst (Each (λ (f : FrameView). f.slot ≡ t.w.slot)) (sym x.sent_is) (refl, tt)
job_frames t m (Gain by size key) x = subst (Each (λ (f : FrameView). f.slot ≡ t.w.slot)) (sym x.sent_is) (refl, tt)
job_frames t m (ends_job j outcome) x = subst (Each (λ (f : FrameView). f.slot ≡ t.w.slot)) (sym x.sent_is)
    (each_flat (λ (f : FrameView). f.slot ≡ t.w.slot) (λ peer. frames (job_end t.w peer) (end_with t peer) (farewell t (is_lost_ordered outcome) peer (end_with t peer).opened))
    (λ peer. frames_slot (job_end t.w peer) (end_with t peer) (farewell t (is_lost_ordered outcome) peer (end_with t peer).opened)) (others_of t))
job_frames t m (Talk (Some j)) x = elim (x.1) [
  | inl none ↦ subst (Each (λ (f : FrameView). f.slot ≡ t.w.slot)) (sym none) tt
  | inr one ↦ subst (Each (λ (f : FrameView). f.slot ≡ t.w.slot)) (sym one.2) (refl, tt)
]
job_frames t m (Fault call by) x = subst (Each (λ (f : FrameView). f.slot ≡ t.w.slot)) (sym x.1) tt
job_frames t m kind x = absurd x

middle_off : (a b c : Bool) → b ≡ false → (a && b && c) ≡ false
middle_off true true c e = absurd (cc)
middle_off true false c e = refl
middle_off false b c e = refl

none_there : (p n slot : ℕ) (fs : List FrameView) → Each (λ f. f.slot ≡ slot) fs → (slot == n) ≡ false → sent_at (client_end p n) fs ≡ []
none_there p n slot [] all apart = refl
none_there p n slot (f ∷ fs) all apart = rw (middle_off (f.peer == p) (f.slot == n) (same_bool f.up true) (subst (λ (k : ℕ). (k == n) ≡ false) (sym all.0) apart)) (none_there p n slot fs all.1 apart)

other_takes : (w : Work) (peer : ℕ) (f : FrameView) (p n : ℕ) → takes_at (job_end w peer) f ≡ true → (w.slot == n) ≡ false → taken_at (client_end p n) (Some f) ≡ None
other_takes w peer f p n e apart =
    let two : ((f.peer == peer) && (f.slot == w.slot)) ≡ true = and_first ((f.peer == peer) && (f.slot == w.slot)) (same_bool true (if f.up then false else true)) e in
    let is : f.slot ≡ w.slot = eqb-true f.slot w.slot (and_parts (f.peer == peer) (f.slot == w.slot) two).1 in
    let off : (f.slot == n) ≡ false = subst (λ (k : ℕ). (k == n) ≡ false) (sym is) apart in
    rw (middle_off (f.peer == p) (f.slot == n) (same_bool true (if f.up then false else true)) off) refl

pub job_idle : (s : SetUp) (st : State) (k : Look) (m : Effect) (x : ByJob s st k m) (n : ℕ) → (x.w.slot == n) ≡ false → IdleAt n (entry_of s.number k m)
job_idle s st k m x n apart p = record {
  takes_none = elim (x.frame) [ inl none ↦ ap (taken_at (client_end p n)) none | inr t ↦ ap (taken_at (client_end p n)) t.taken_is ∙ other_takes x.w t.peer t.f p n t.of_end apart ];
  closes = subst (Each (λ (f : FrameView). f.body ≡ Closing)) (sym (none_there p n x.w.slot m.sent (job_frames (turn_of s st k x.w) m m.kind x.found) apart)) tt;
}

-- ---- the step of a job, and what it keeps

pub record ByJobEven (s : SetUp) (st : State) (k : Look) (m : Effect) : Type 0 where
  pub by : ByJob s st k m
  pub even : Even (turn_of s st k by.w) m m.kind

slot_even : (s : SetUp) (st : State) (k : Look) → ((w : Work) → Member w st.works → Speaks (turn_of s st k w)) → (slot : ℕ) (m : Effect) (w : Option Work)
    → find (λ w. w.slot == slot) st.works ≡ w → slot_step s st k w ≡ Some m → ByJobEven s st k m
slot_even s st k speaks slot m None is e = absurd (cc)
slot_even s st k speaks slot m (Some w) is e =
    let x = partner_found (turn_of s st k w) m (partner w.what.peer w.phase) refl e in
    let there = find_member (λ (y : Work). y.slot == slot) st.works w is in
    record { by = record { w = w; slot = slot; runs = is; frame = x.frame; found = x.found }; even = partner_even (turn_of s st k w) m (speaks w there.0) (partner w.what.peer w.phase) refl e }

job_even : (s : SetUp) (st : State) (k : Look) → ((w : Work) → Member w st.works → Speaks (turn_of s st k w)) → (m : Effect) → job_step s st k ≡ Some m → ByJobEven s st k m
job_even s st k speaks m e =
    let x = first_some-was (λ slot. slot_step s st k (find (λ w. w.slot == slot) st.works)) slots m e in
    slot_even s st k speaks x.0 m (find (λ w. w.slot == x.0) st.works) refl x.2

pub step_even : (s : SetUp) (st : State) (k : Look) → ((w : Work) → Member w st.works → Speaks (turn_of s st k w)) → (m : Effect) → step s st k ≡ Some m
    → ByOwed s st k m ⊎ (BySession s st k m ⊎ ByJobEven s st k m)
step_even s st k speaks m e = elim (option_or-was (owed_step s st k) (option_or (session_step s st k) (job_step s st k)) m e) [
  | inl o ↦ inl (pays_found s st k m st.owed refl o)
  | inr r ↦ inr (elim (option_or-was (session_step s st k) (job_step s st k) m r) [ inl x ↦ inl (session_found s st k m x) | inr x ↦ inr (job_even s st k speaks m x) ])
]

-- ---- a running job is known by its number

pub falling_works : (s : SetUp) (past : List Entry) → OwnRun s past → Falling (map running_job (works past s.number))
falling_works s past run = subst Falling (sym (jobs_are past s.number)) (jobs_numbered s past run).falling

-- ---- over the run

module _ (s : SetUp) (past : List Entry) (e : Entry) (own : is_of s.number e ≡ true) (falls : Falling (map running_job (works past s.number))) (given : Slots s past) (fits : AllFit s past) where
  abbrev r : ℕ
  r = s.number

  abbrev After : Work → Type 0
  After x = FitsAt (e ∷ past) r (running_job x) x.phase

  kept : (w : Work) → Member w (works past r) → IdleAt w.slot e → After w
  kept w ran idle = idle_kept past r e (running_job w) w.phase own idle (fits w ran)

  left : (w : Work) → Member w (works past r) → IdleAt w.slot e → work_after (rows_at past r) r e w ≡ w → After (work_after (rows_at past r) r e w)
  left w ran idle same = subst After (sym same) (kept w ran idle)

  not_its : (w : Work) → option_is (job_of e.kind) w.number ≡ false → work_after (rows_at past r) r e w ≡ w
  not_its w apart = rw apart refl

  -- a job that begins, in a slot whose ends are shut
  begins : (job : ℕ) (what : Job) → length (works past r) < 4 → e.taken ≡ None → e.sent ≡ [] → After (new_work (works past r) job what)
  begins job what room none nothing =
      let w = new_work (works past r) job what in
      idle_kept past r e (running_job w) Fresh own (quiet_idle e w.slot none nothing) (λ p l o. absurd (true≢false (sym o ∙ given.shut job what p room)))

  -- what holds of each job that ran
  moved_fits : (kind : EntryKind) → e.kind ≡ kind → ((job : ℕ) (what : Job) → kind ≢ Begin job what)
      → ((w : Work) → Member w (works past r) → ends_it e.kind w.number ≡ false → After (work_after (rows_at past r) r e w))
      → (x : Work) → Member x (works_after (rows_at past r) r (works past r) e kind) → After x
  moved_fits kind is no_begin all x m = elim (works_were (rows_at past r) r (works past r) e kind is x m) [
    | inl n ↦ absurd (no_begin n.job n.what n.begins)
    | inr y ↦ elim y [ inl n ↦ absurd (no_begin n.job n.what n.begins) | inr z ↦ subst After (sym z.is) (all z.w z.ran z.goes_on) ]
  ]

  aside_fits : (kind : EntryKind) → e.kind ≡ kind → ((job : ℕ) (what : Job) → kind ≢ Begin job what) → Aside (rows_at past r) r e kind
      → (x : Work) → Member x (works_after (rows_at past r) r (works past r) e kind) → After x
  aside_fits kind is no_begin a x m = moved_fits kind is no_begin
      (λ w ran goes_on. left w ran (a.idle w.slot) (not_its w (subst (λ (k : EntryKind). option_is (job_of k) w.number ≡ false) (sym is) (a.leaves w)))) x m

  any_fits : e.taken ≡ None → (kind : EntryKind) → e.kind ≡ kind → MayCome s (state_of s past) e.lines e.sent kind → (x : Work) → Member x (works_after (rows_at past r) r (works past r) e kind) → After x
  any_fits none (Begin job what) is may x (inl m) = subst After (sym m) (begins job what may.0.slot_free none may.2)
  any_fits none (Begin job what) is may x (inr m) = kept x m (quiet_idle e x.slot none may.2)
  any_fits none (Crash clock) is may x m = absurd m
  any_fits none (Gain by size key) is may x m = aside_fits (Gain by size key) is (λ job what h. cc) (aside s past e (Gain by size key) is none may (λ job what h. cc) (λ clock h. cc)) x m
  any_fits none (Log file) is may x m = aside_fits (Log file) is (λ job what h. cc) (aside s past e (Log file) is none may (λ job what h. cc) (λ clock h. cc)) x m
  any_fits none (Compact file) is may x m = aside_fits (Compact file) is (λ job what h. cc) (aside s past e (Compact file) is none may (λ job what h. cc) (λ clock h. cc)) x m
  any_fits none (Fault call by) is may x m = aside_fits (Fault call by) is (λ job what h. cc) (aside s past e (Fault call by) is none may (λ job what h. cc) (λ clock h. cc)) x m
  any_fits none (Close peer slot client) is may x m = aside_fits (Close peer slot client) is (λ job what h. cc) (aside s past e (Close peer slot client) is none may (λ job what h. cc) (λ clock h. cc)) x m
  any_fits none kind is may x m = absurd may

  -- ---- an entry of a step

  module _ (k : Look) (m : Effect) (is : e ≡ entry_of s.number k m) where
    kind_is : e.kind ≡ m.kind
    kind_is = ap (λ (y : Entry). y.kind) is

    idle_of : (slot : ℕ) → IdleAt slot (entry_of s.number k m) → IdleAt slot e
    idle_of slot idle = subst (IdleAt slot) (sym is) idle

    -- a line that is owed
    owed_made : (n : Effect) → m ≡ n → n.taken ≡ None → n.sent ≡ [] → (slot : ℕ) → IdleAt slot e
    owed_made n same none nothing slot = quiet_idle e slot (ap (λ (y : Entry). y.taken) is ∙ ap (λ (y : Effect). y.taken) same ∙ none) (ap (λ (y : Entry). y.sent) is ∙ ap (λ (y : Effect). y.sent) same ∙ nothing)

    line_fault : (by : By) (w : Work) → e.kind ≡ Fault PutFile by → work_after (rows_at past r) r e w ≡ w
    line_fault by w h = subst (λ (kind : EntryKind). (if option_is (job_of kind) w.number then work_kind (rows_at past r) r w e kind else w) ≡ w) (sym h)
        (if_either (λ (y : Work). y ≡ w) (option_is (job_by by) w.number) w w (λ q. refl) (λ q. refl))

    owed_fits : ByOwed s (state_of s past) k m → (x : Work) → Member x (works_after (rows_at past r) r (works past r) e e.kind) → After x
    owed_fits o x mem = elim (o.writes) [ inl w ↦ log w | inr w ↦ fault w ]
      where
        log : m ≡ record { kind = Log (Location o.first.key); taken = None; sent = []; lines = due s.repos (state_of s past).lines ((state_of s past).wall k.time) o.first; calls = PutFile ∷ [] } → After x
        log w =
            let kind : e.kind ≡ Log (Location o.first.key) = kind_is ∙ ap (λ (y : Effect). y.kind) w in
            moved_fits e.kind refl (λ job what h. let bad : Log (Location o.first.key) ≡ Begin job what = sym kind ∙ h in cc)
            (λ v ran goes_on. left v ran (owed_made (record { kind = Log (Location o.first.key); taken = None; sent = []; lines = due s.repos (state_of s past).lines ((state_of s past).wall k.time) o.first; calls = PutFile ∷ [] }) w refl refl v.slot)
            (not_its v (ap (λ q. option_is (job_of q) v.number) kind))) x mem

        fault : m ≡ record { kind = Fault PutFile o.first.by; taken = None; sent = []; lines = []; calls = PutFile ∷ [] } → After x
        fault w =
            let kind : e.kind ≡ Fault PutFile o.first.by = kind_is ∙ ap (λ (y : Effect). y.kind) w in
            moved_fits e.kind refl (λ job what h. let bad : Fault PutFile o.first.by ≡ Begin job what = sym kind ∙ h in cc)
            (λ v ran goes_on. left v ran (owed_made (record { kind = Fault PutFile o.first.by; taken = None; sent = []; lines = []; calls = PutFile ∷ [] }) w refl refl v.slot) (line_fault o.first.by v kind)) x mem

    session_fits : BySession s (state_of s past) k m → (x : Work) → Member x (works_after (rows_at past r) r (works past r) e e.kind) → After x
    session_fits b x mem =
        let h = here s (state_of s past) k (server_end b.peer b.slot) in
        let doing = ((state_of s past).sessions (server_end b.peer b.slot)).doing in
        let none : job_of e.kind ≡ None = ap job_of kind_is ∙ session_none h doing b.asked b.says m.kind b.found in
        moved_fits e.kind refl (λ job what q. let bad : Some job ≡ None = sym (ap job_of q) ∙ none in cc)
        (λ v ran goes_on. left v ran (idle_of v.slot (session_idle s (state_of s past) k m b v.slot)) (not_its v (ap (λ o. option_is o v.number) none))) x mem

    -- the job's own entry
    own_even : (w : Work) → Member w (works past r) → (kind : EntryKind) → IsJobEntry (turn_of s (state_of s past) k w) m kind → Even (turn_of s (state_of s past) k w) m kind
        → ends_it kind w.number ≡ false → FitsAt (entry_of r k m ∷ past) r (running_job w) (work_kind (rows_at past r) r w (entry_of r k m) kind).phase
    own_even w ran (ends_job j outcome) found even goes_on =
        absurd (true≢false (sym (eqb_refl w.number) ∙ subst (λ n. (w.number == n) ≡ false) found.number_is goes_on))
    own_even w ran kind found even goes_on = λ p. rw (eqb_refl r) (even p (counts_at past r (client_end p w.slot)) (fits w ran p))

    job_fits : ByJobEven s (state_of s past) k m → (x : Work) → Member x (works_after (rows_at past r) r (works past r) e e.kind) → After x
    job_fits b x mem =
        moved_fits e.kind refl (λ job what q. begins_not m.kind b.by.found job what (sym kind_is ∙ q)) (λ w ran goes_on. go w ran goes_on (w.number == v.number) refl) x mem
      where
        v : Work
        v = b.by.w

        v_runs : Member v (works past r)
        v_runs = (find_member (λ (y : Work). y.slot == b.by.slot) (works past r) v b.by.runs).0

        begins_not : (kind : EntryKind) → IsJobEntry (turn_of s (state_of s past) k v) m kind → (job : ℕ) (what : Job) → kind ≢ Begin job what
        begins_not (Begin j w) found job what q = found
        begins_not (Share hold end by key) found job what q = absurd (cc)
        begins_not (Bar j need key) found job what q = absurd (cc)
        begins_not (Gone by key) found job what q = absurd (cc)
        begins_not (Order j peer deadline need key) found job what q = absurd (cc)
        begins_not (Gain by size key) found job what q = absurd (cc)
        begins_not (ends_job j outcome) found job what q = absurd (cc)
        begins_not (Talk j) found job what q = absurd (cc)
        begins_not (Fault call by) found job what q = absurd (cc)
        begins_not kind found job what q = found

        its : job_of m.kind ≡ Some v.number
        its = job_is (turn_of s (state_of s past) k v) m m.kind b.by.found

        own_after : ends_it e.kind v.number ≡ false → FitsAt (entry_of r k m ∷ past) r (running_job (work_after (rows_at past r) r (entry_of r k m) v)) (work_after (rows_at past r) r (entry_of r k m) v).phase
        own_after goes_on =
            subst (λ (j : RunningJob). FitsAt (entry_of r k m ∷ past) r j (work_after (rows_at past r) r (entry_of r k m) v).phase) (sym (after_kept (rows_at past r) r (entry_of r k m) v))
            (subst (λ (o : Option ℕ). FitsAt (entry_of r k m ∷ past) r (running_job v) (if option_is o v.number then work_kind (rows_at past r) r v (entry_of r k m) m.kind else v).phase) (sym its)
            (subst (λ (c : Bool). FitsAt (entry_of r k m ∷ past) r (running_job v) (if c then work_kind (rows_at past r) r v (entry_of r k m) m.kind else v).phase) (sym (eqb_refl v.number))
            (own_even v v_runs m.kind b.by.found b.even (subst (λ (q : EntryKind). ends_it q v.number ≡ false) kind_is goes_on))))

        go : (w : Work) → Member w (works past r) → ends_it e.kind w.number ≡ false → (c : Bool) → (w.number == v.number) ≡ c → After (work_after (rows_at past r) r e w)
        go w ran goes_on true same =
            let one : v ≡ w = same_work (works past r) falls v w v_runs ran (sym (eqb-true w.number v.number same)) in
            subst (λ (y : Work). After (work_after (rows_at past r) r e y)) one
            (subst (λ (e' : Entry). FitsAt (e' ∷ past) r (running_job (work_after (rows_at past r) r e' v)) (work_after (rows_at past r) r e' v).phase) (sym is)
            (own_after (subst (λ (y : Work). ends_it e.kind y.number ≡ false) (sym one) goes_on)))
        go w ran goes_on false apart =
            left w ran (idle_of w.slot (job_idle s (state_of s past) k m b.by w.slot (slots_apart (v.slot == w.slot) refl))) (not_its w (ap (λ q. option_is (job_of q) w.number) kind_is ∙ ap (λ o. option_is o w.number) its ∙ (eqb_sym v.number w.number ∙ apart)))
          where
            slots_apart : (c : Bool) → (v.slot == w.slot) ≡ c → (v.slot == w.slot) ≡ false
            slots_apart false h = h
            slots_apart true h = absurd (true≢false (sym (eqb_refl w.number) ∙ subst (λ n. (w.number == n) ≡ false) (given.one v w v_runs ran (eqb-true v.slot w.slot h)) apart))

    step_fits : ByOwed s (state_of s past) k m ⊎ (BySession s (state_of s past) k m ⊎ ByJobEven s (state_of s past) k m) → (x : Work) → Member x (works_after (rows_at past r) r (works past r) e e.kind) → After x
    step_fits (inl o) = owed_fits o
    step_fits (inr (inl b)) = session_fits b
    step_fits (inr (inr b)) = job_fits b

  does_fits : (words : ℕ → Option Word) (d : IsStep s past words e ⊎ ComesAnyTime s past e) → Fluent_does s past words e d
      → (x : Work) → Member x (works_after (rows_at past r) r (works past r) e e.kind) → After x
  does_fits words (inl x) speaks = step_fits x.look x.made x.is (step_even s (state_of s past) x.look speaks x.made x.makes)
  does_fits words (inr y) speaks = any_fits y.takes_none e.kind refl y.may

-- **at each open end of a running job, requests and answers are as its phase says**
pub all_fit : (s : SetUp) (past : List Entry) (run : OwnRun s past) → Given s past run → AllFit s past
all_fit s [] run given = λ w m. absurd m
all_fit s (e ∷ past) run given = go (all_fit s past run.1 given.2) (is_of s.number e) refl
  where
    go : AllFit s past → (b : Bool) → is_of s.number e ≡ b → AllFit s (e ∷ past)
    go fits true is = λ w m. does_fits s past e is (falling_works s past run.1) given.0 fits (run.0 is).0 (run.0 is).1.does (given.1 is) w
        (subst (λ (c : Bool). Member w (if c then works_after (rows_at past s.number) s.number (works past s.number) e e.kind else works past s.number)) is m)
    go fits false is = λ w m p. rw is (fits w (subst (λ (c : Bool). Member w (if c then works_after (rows_at past s.number) s.number (works past s.number) e e.kind else works past s.number)) is m) p)
