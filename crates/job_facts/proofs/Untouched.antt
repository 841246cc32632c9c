-- A running job is not done; and a job that is at its transfer, or at the first step of its drop, has decided nothing and asked nobody for
-- a copy.
use Rattle.std.proofs.Common.{◌≡◌, ◌≢◌, ℕ, ◌+◌, ◌<◌, ◌≤◌, Bool, true, false, List, [], ◌∷◌, Option, Some, None, ◌⊎◌, inl, inr, refl, sym, ap, ◌∙◌, subst, arith}
use Rattle.std.specs.Prelude.{if◌then◌else◌, ◌==◌, ◌&&◌, ◌||◌, not, length}
use Rattle.std.specs.List.{list_any}
use Rattle.std.proofs.lemmas.Bool.{eqb-true, and_left, or_from, and_right}
use Rattle.annex_base.specs.Lists.{Member}
use Rattle.annex_base.specs.declared.kinds.Word.{Word}
use Rattle.run_data.specs.declared.entry.By.TheVariants.{Script}
use Rattle.run_data.specs.declared.entry.Entry.{Entry}
use Rattle.run_data.specs.declared.entry.EntryKind.{EntryKind}
use Rattle.run_data.specs.declared.entry.EntryKind.TheVariants.{Begin, Gain, Share, Bar, Gone, Order, Talk, Crash, Fault, End as ends_job}
use Rattle.run_data.specs.declared.entry.FrameView.{FrameView}
use Rattle.run_data.specs.declared.entry.FrameText.{FrameText}
use Rattle.run_data.specs.declared.entry.FrameText.TheVariants.{Opening, Closing, Bytes, Line}
use Rattle.run_data.specs.declared.job.Outcome.{Outcome}
use Rattle.run_model.specs.Past.{Decision, begun_count, decision, decided_after, is_of}
use Rattle.node_model.specs.Slots.{is_begin, job_of}
use Rattle.node_model.specs.Rows.{is_lost_ordered, option_is}
use Rattle.run_model.specs.Drops.{is_done, done_kind}
use Rattle.run_model.specs.Logs.{is_step}
use Rattle.run_model.specs.Frames
use Rattle.run_model.specs.Frames.{is_job}
use Rattle.run_model.specs.Said.{Said, Says, message_in, said_line}
use Rattle.p2p_wire.specs.declared.message.Message.{Message}
use Rattle.p2p_wire.specs.declared.message.Message.TheVariants.{CheckPresent, LockContent}
use Rattle.p2p_wire.specs.Messages.{message_of}
use Rattle.node_model.specs.SetUp.{SetUp}
use Rattle.run_model.specs.States.{state_of, works}
use Rattle.node_model.specs.AnyTime.{MayCome}
use Rattle.node_model.specs.Jobs.{Drops, Fresh, Gets, Part, Phase, Puts, Work}
use Rattle.node_model.specs.Look.{Look, Effect}
use Rattle.node_model.specs.JobStep.{Turn, turn_of}
use Rattle.node_model.specs.SessionStep.{here}
use Rattle.node_model.specs.Ends.{server_end}
use Rattle.run_model.specs.Run.{OwnPart, OwnRun}
use Rattle.node_model.specs.Found.{ByJob, ByOwed, BySession, IsJobEntry}
use Rattle.step_facts.proofs.StepFacts.{step_found}
use Rattle.job_facts.proofs.PhaseFacts.{BodyReads, GoodTo, PartReads, SentReads, is_fresh}
use Rattle.step_facts.proofs.JobNumbers.{begins_next}
use Rattle.step_facts.proofs.WorkNumbers.{number_begun}
use Rattle.step_facts.proofs.JobSteps.{Begins, Origin, Stepped, invariant, made_by, session_none, step_is_job, stepped_job, stepped_runs}
use Rattle.job_facts.proofs.WorkFits.{step_runs, step_number}

-- ---- what is said of a job

abbrev pub asks_copy : Said → Bool
asks_copy (Says (LockContent key)) = true
asks_copy (Says (CheckPresent key)) = true
asks_copy _ = false

abbrev pub is_share : EntryKind → Bool
is_share (Share hold end owner key) = true
is_share _ = false

abbrev pub asks_by : EntryKind → List FrameView → Bool
asks_by kind sent = is_share kind || list_any (Frames.says asks_copy) sent

-- job j of r has asked for a copy, of its own repository or of another
abbrev pub has_asked : List Entry → ℕ → ℕ → Bool
has_asked past r j = list_any (λ e. is_job r j e && (is_share e.kind || list_any (Frames.says asks_copy) e.sent)) past

-- ---- entries that are no steps of a job

come_sends : (s : SetUp) (past : List Entry) (lines : List (List ℕ)) (sent : List FrameView) (j : ℕ) (kind : EntryKind) → MayCome s (state_of s past) lines sent kind → option_is (job_of kind) j ≡ true → sent ≡ []
come_sends s past lines sent j (Begin job what) x is = x.2
come_sends s past lines sent j (Fault call Script) x is = x.2
come_sends s past lines sent j (Gain Script size key) x is = x.2
come_sends s past lines sent j (EntryKind.Log file) x is = x.1
come_sends s past lines sent j (EntryKind.Compact file) x is = x.2
come_sends s past lines sent j (EntryKind.Close peer slot client) x is = absurd (cc)
come_sends s past lines sent j (Crash clock) x is = absurd (cc)
come_sends s past lines sent j kind x is = absurd x

job_sends : (t : Turn) (m : Effect) (j : ℕ) (kind : EntryKind) → IsJobEntry t m kind → is_step j kind ≡ false → option_is (job_of kind) j ≡ true → m.sent ≡ []
job_sends t m j (Fault call by) x still is = x.1
job_sends t m j (Share hold end by key) x still is = absurd (cc)
job_sends t m j (Bar k need key) x still is = absurd (cc)
job_sends t m j (Gone by key) x still is = absurd (cc)
job_sends t m j (Order k peer deadline need key) x still is = absurd (cc)
job_sends t m j (Gain by size key) x still is = absurd (cc)
job_sends t m j (ends_job k outcome) x still is = absurd (cc)
job_sends t m j (Talk (Some k)) x still is = absurd (cc)
job_sends t m j kind x still is = absurd x

-- an entry of a job that is no step of it sends nothing
pub still_sends : (s : SetUp) (past : List Entry) (words : ℕ → Option Word) (e : Entry) → OwnPart s past words e → (j : ℕ) → is_step j e.kind ≡ false → option_is (job_of e.kind) j ≡ true → e.sent ≡ []
still_sends s past words e own j still is = elim (own.does) [
  | inl x ↦ (let kind = sym (ap (λ (y : Entry). y.kind) x.is) in ap (λ (y : Entry). y.sent) x.is
      ∙ steps x.look x.made (step_found s (state_of s past) x.look x.made x.makes)
      (subst (λ k. is_step j k ≡ false) (ap (λ (y : Entry). y.kind) x.is) still) (subst (λ k. option_is (job_of k) j ≡ true) (ap (λ (y : Entry). y.kind) x.is) is))
  | inr x ↦ come_sends s past e.lines e.sent j e.kind x.may is
]
  where
    steps : (k : Look) (m : Effect) → (ByOwed s (state_of s past) k m ⊎ (BySession s (state_of s past) k m ⊎ ByJob s (state_of s past) k m))
        → is_step j m.kind ≡ false → option_is (job_of m.kind) j ≡ true → m.sent ≡ []
    steps k m (inl y) still is = elim (y.writes) [ inl w ↦ ap (λ (z : Effect). z.sent) w | inr w ↦ ap (λ (z : Effect). z.sent) w ]
    steps k m (inr (inl y)) still is =
        let none : job_of m.kind ≡ None = session_none (here s (state_of s past) k (server_end y.peer y.slot)) ((state_of s past).sessions (server_end y.peer y.slot)).doing y.asked y.says m.kind y.found in
        let no_job : option_is None j ≡ true = subst (λ o. option_is o j ≡ true) none is in
        absurd (cc)
    steps k m (inr (inr y)) still is = job_sends (turn_of s (state_of s past) k y.w) m j m.kind y.found still is

no_step_share : (j : ℕ) (kind : EntryKind) → is_step j kind ≡ false → option_is (job_of kind) j ≡ true → is_share kind ≡ false
no_step_share j (Share hold end by key) still is = absurd (cc)
no_step_share j kind still is = refl

-- an entry that is no step of the job asks for no copy
pub still_asks : (s : SetUp) (past : List Entry) (words : ℕ → Option Word) (e : Entry) → OwnPart s past words e → (j : ℕ) → is_step j e.kind ≡ false
    → (is_job s.number j e && asks_by e.kind e.sent) ≡ false
still_asks s past words e own j still = go (option_is (job_of e.kind) j) refl
  where
    go : (b : Bool) → option_is (job_of e.kind) j ≡ b → (is_job s.number j e && asks_by e.kind e.sent) ≡ false
    go false is = and_left (is_job s.number j e) (asks_by e.kind e.sent) (and_right (is_of s.number e) (option_is (job_of e.kind) j) is)
    go true is = and_right (is_job s.number j e) (asks_by e.kind e.sent) (or_from (is_share e.kind) (list_any (Frames.says asks_copy) e.sent) (no_step_share j e.kind still is)
        (subst (λ fs. list_any (Frames.says asks_copy) fs ≡ false) (sym (still_sends s past words e own j still is)) refl))

if_off : {X : Type 0} (b : Bool) (x : X) → b ≡ false → (if b then Some x else None) ≡ None
if_off true x h = absurd (cc)
if_off false x h = refl

pub still_decided : (place j : ℕ) (kind : EntryKind) → is_step j kind ≡ false → decided_after place j None kind ≡ None
still_decided place j (Bar job need key) still = let d : Decision = record { place = place; key = key; need = need } in if_off (job == j) d still
still_decided place j kind still = refl

pub still_done : (j : ℕ) (kind : EntryKind) → is_step j kind ≡ false → done_kind j kind ≡ false
still_done j (ends_job job outcome) still = and_left (job == j) (not (is_lost_ordered outcome)) still
still_done j kind still = refl

-- ---- a job that has done nothing yet

-- it decided nothing, and asked nobody
pub record Unasked (past : List Entry) (r j : ℕ) : Type 0 where
  pub undecided : decision past r j ≡ None
  pub unasked : has_asked past r j ≡ false

pub unasked_after : (past : List Entry) (r : ℕ) (e : Entry) (j : ℕ) → is_of r e ≡ true → decided_after (length past) j None e.kind ≡ None → (is_job r j e && asks_by e.kind e.sent) ≡ false
    → Unasked past r j → Unasked (e ∷ past) r j
unasked_after past r e j is no_bar no_ask x = record {
  undecided = rw is (ap (λ (d : Option Decision). decided_after (length past) j d e.kind) x.undecided ∙ no_bar);
  unasked = or_from (is_job r j e && asks_by e.kind e.sent) (has_asked past r j) no_ask x.unasked;
}

pub unasked_other : (past : List Entry) (r : ℕ) (e : Entry) (j : ℕ) → is_of r e ≡ false → Unasked past r j → Unasked (e ∷ past) r j
unasked_other past r e j is x = record { undecided = rw is x.undecided; unasked = rw is x.unasked }

pub done_other : (past : List Entry) (r : ℕ) (e : Entry) (j : ℕ) → is_of r e ≡ false → is_done past r j ≡ false → is_done (e ∷ past) r j ≡ false
done_other past r e j is x = rw is x

pub done_after : (past : List Entry) (r : ℕ) (e : Entry) (j : ℕ) → done_kind j e.kind ≡ false → is_done past r j ≡ false → is_done (e ∷ past) r j ≡ false
done_after past r e j no_end x = or_from (is_of r e && done_kind j e.kind) (is_done past r j) (and_right (is_of r e) (done_kind j e.kind) no_end) x

-- an entry is no step of a job that hasn't begun
pub not_yet : (s : SetUp) (past : List Entry) (words : ℕ → Option Word) (e : Entry) → OwnRun s past → OwnPart s past words e → (j : ℕ) → begun_count past s.number < j → is_step j e.kind ≡ false
not_yet s past words e run own j later = elim (made_by s past words e own) [
  | inl none ↦ none j
  | inr x ↦ go x (is_step j e.kind) refl
]
  where
    go : Stepped s past e → (b : Bool) → is_step j e.kind ≡ b → b ≡ false
    go x false is = refl
    go x true is =
        let same : x.w.number ≡ j = eqb-true x.w.number j (subst (λ o. option_is o j ≡ true) (stepped_job s past e x) (step_is_job j e.kind is)) in
        let below : x.w.number ≤ begun_count past s.number = number_begun s past run x.w (stepped_runs s past e x) in
        absurd (omega arith)

-- nothing is said of a job that hasn't begun
pub record Future (past : List Entry) (r j : ℕ) : Type 0 where
  pub nothing : Unasked past r j
  pub open' : is_done past r j ≡ false

pub begun_before : (past : List Entry) (e : Entry) (r j : ℕ) → begun_count (e ∷ past) r < j → begun_count past r < j
begun_before past e r j = go (is_of r e && is_begin e.kind)
  where
    go : (b : Bool) → (if b then begun_count past r + 1 else begun_count past r) < j → begun_count past r < j
    go true h = omega arith
    go false h = h

pub future : (s : SetUp) (past : List Entry) → OwnRun s past → (j : ℕ) → begun_count past s.number < j → Future past s.number j
future s [] run j later = record { nothing = record { undecided = refl; unasked = refl }; open' = refl }
future s (e ∷ past) run j later = go (future s past run.1 j (begun_before past e s.number j later)) (is_of s.number e) refl
  where
    go : Future past s.number j → (b : Bool) → is_of s.number e ≡ b → Future (e ∷ past) s.number j
    go x false is = record { nothing = unasked_other past s.number e j is x.nothing; open' = done_other past s.number e j is x.open' }
    go x true is =
        let own = run.0 is in
        let still = not_yet s past own.0 e run.1 own.1 j (begun_before past e s.number j later) in
        record {
          nothing = unasked_after past s.number e j is (still_decided (length past) j e.kind still) (still_asks s past own.0 e own.1 j still) x.nothing;
          open' = done_after past s.number e j (still_done j e.kind still) x.open';
        }

-- ---- running jobs

pub begins_later : (s : SetUp) (past : List Entry) (e : Entry) → OwnRun s (e ∷ past) → is_of s.number e ≡ true → (w : Work) → Begins s past e w → begun_count past s.number < w.number
begins_later s past e run is w b =
    let own = run.0 is in
    let next : b.job ≡ begun_count past s.number + 1 = begins_next s past own.0 e own.1 b.job b.what b.kind_is in
    let number : w.number ≡ b.job = ap (λ (x : Work). x.number) b.work_is in
    omega arith

pub begin_still : (s : SetUp) (past : List Entry) (e : Entry) (w : Work) → Begins s past e w → is_step w.number e.kind ≡ false
begin_still s past e w b = subst (λ k. is_step w.number k ≡ false) (sym b.kind_is) refl

end_off : (j : ℕ) (kind : EntryKind) → ((i : ℕ) (outcome : Outcome) → kind ≢ ends_job i outcome) → done_kind j kind ≡ false
end_off j (ends_job i outcome) goes_on = absurd (goes_on i outcome refl)
end_off j kind goes_on = refl

-- a running job is not done
pub runs_open : (s : SetUp) (past : List Entry) → OwnRun s past → (w : Work) → Member w (works past s.number) → is_done past s.number w.number ≡ false
runs_open s past run w m =
    invariant s (λ p x. is_done p s.number x.number ≡ false) (λ p e is x n was. done_other p s.number e x.number is was) own past run w m
  where
    own : (p : List Entry) (e : Entry) → OwnRun s (e ∷ p) → is_of s.number e ≡ true → ((x : Work) → Member x (works p s.number) → is_done p s.number x.number ≡ false)
        → (x : Work) → Origin s p e x → is_done (e ∷ p) s.number x.number ≡ false
    own p e r is was x (inl b) =
        done_after p s.number e x.number (still_done x.number e.kind (begin_still s p e x b)) (future s p r.1 x.number (begins_later s p e r is x b)).open'
    own p e r is was x (inr (inl b)) = done_after p s.number e x.number (still_done x.number e.kind b.still) (was x b.ran)
    own p e r is was x (inr (inr b)) =
        done_after p s.number e x.number (end_off x.number e.kind b.goes_on)
        (subst (λ n. is_done p s.number n ≡ false) (sym (step_number s p e x b)) (was b.by.w (step_runs s p e x b)))

-- ---- what a step at the first steps asks

abbrev pub AtStart : Part → Phase → Type 0
AtStart part phase = part ≡ Drops → is_fresh phase ≡ true

pub start_before : (part : Part) (old : Phase) (to : Part) (phase : Phase) → GoodTo part old to phase → AtStart to phase → AtStart part old
start_before Gets old to phase g start is = absurd (cc)
start_before Puts old to phase g start is = absurd (cc)
start_before Drops old Gets phase g start is = absurd g
start_before Drops old Puts phase g start is = absurd g
start_before Drops old Drops phase g start is = go (is_fresh old) refl
  where
    go : (b : Bool) → is_fresh old ≡ b → b ≡ true
    go true e = refl
    go false e = let later = g.1 e in let now = start refl in absurd (cc)

pub fresh_is : (phase : Phase) → is_fresh phase ≡ true → phase ≡ Fresh
fresh_is Fresh e = refl
fresh_is phase e = absurd (cc)

abbrev pub OneAtMost : List FrameView → Type 0
OneAtMost [] = Unit {0}
OneAtMost (f ∷ []) = Unit {0}
OneAtMost (f ∷ g ∷ fs) = ⊥

get_copies : (m : Message) → PartReads Gets m → asks_copy (Says m) ≡ false
get_copies (LockContent key) reads = absurd reads
get_copies (CheckPresent key) reads = absurd reads
get_copies m reads = refl

put_copies : (m : Message) → PartReads Puts m → asks_copy (Says m) ≡ false
put_copies (LockContent key) reads = absurd reads
put_copies (CheckPresent key) reads = absurd reads
put_copies m reads = refl

part_copies : (part : Part) (m : Message) → part ≢ Drops → PartReads part m → asks_copy (Says m) ≡ false
part_copies Gets m apart reads = get_copies m reads
part_copies Puts m apart reads = put_copies m reads
part_copies Drops m apart reads = absurd (apart refl)

line_copies : (part : Part) (o : Option Message) → part ≢ Drops → ((m : Message) → o ≡ Some m → PartReads part m) → asks_copy (said_line o) ≡ false
line_copies part None apart reads = refl
line_copies part (Some m) apart reads = part_copies part m apart (reads m refl)

body_copies : (part : Part) (body : FrameText) → part ≢ Drops → BodyReads part body → asks_copy (message_in body) ≡ false
unfolding message_in
body_copies part Opening apart reads = refl
body_copies part Closing apart reads = refl
body_copies part (Bytes n) apart reads = refl
body_copies part (Line text) apart reads = line_copies part (message_of text) apart reads

pub sent_copies : (part : Part) (sent : List FrameView) → part ≢ Drops → OneAtMost sent → SentReads part sent → list_any (Frames.says asks_copy) sent ≡ false
sent_copies part [] apart one reads = refl
sent_copies part (f ∷ []) apart one reads = or_from (asks_copy (message_in f.body)) false (body_copies part f.body apart reads) refl
sent_copies part (f ∷ g ∷ fs) apart one reads = absurd one
