-- What a bar and an order of a repository's own part of a run stand on.
use Rattle.std.proofs.Common.{◌≡◌, ◌≢◌, ℕ, ◌+◌, ◌≤◌, Bool, true, false, List, [], ◌∷◌, Option, Some, None, ◌⊎◌, inl, inr, refl, sym, ap, ◌∙◌, subst, arith}
use Rattle.std.specs.Prelude.{◌==◌}
use Rattle.annex_base.specs.Lists.{Member}
use Rattle.annex_base.specs.declared.kinds.Word.{Word}
use Rattle.annex_base.proofs.Conditions.{eqb_refl, eqb_more}
use Rattle.step_facts.proofs.Below.{SentAreRead}
use Rattle.drop_proof.specs.declared.rule.Need.{Need}
use Rattle.drop_proof.specs.declared.rule.Side.{Side}
use Rattle.drop_proof.specs.declared.rule.Side.TheVariants.{Local, Remote}
use Rattle.run_data.specs.Repos.{id_of}
use Rattle.wanted_expr.specs.Wanted.{required}
use Rattle.run_data.specs.declared.entry.Entry.{Entry}
use Rattle.run_data.specs.declared.entry.EntryKind.{EntryKind}
use Rattle.run_data.specs.declared.entry.EntryKind.TheVariants.{Begin, Bar, Order}
use Rattle.run_data.specs.declared.entry.FrameText.TheVariants.{Line}
use Rattle.run_data.specs.declared.job.Job.{Job}
use Rattle.run_model.specs.Past.{begun_count, begun_job, begun_job_after, decision, is_of}
use Rattle.p2p_wire.specs.Messages.{order_of, text_of}
use Rattle.run_model.specs.Drops.{is_done, key_in}
use Rattle.run_model.specs.Logs.{in_drop, is_step, need_read, read_at, settings_of}
use Rattle.node_model.specs.SetUp.{SetUp}
use Rattle.run_model.specs.States.{state_of, end_at, rows_at, works}
use Rattle.node_model.specs.Ends.{frames}
use Rattle.node_model.specs.Jobs.{Drops, Work, job_end, or_own, running_job, side_of, target_of}
use Rattle.step_facts.proofs.Knowing.{knows_enough}
use Rattle.run_model.specs.Run.{OwnPart, OwnPast, OwnRun}
use Rattle.node_model.specs.Found.{HasDeadline, IsJobEntry}
use Rattle.node_model.specs.Slots.{RunningJob}
use Rattle.step_facts.proofs.JobKept.{kind_kept}
use Rattle.step_facts.proofs.JobNumbers.{begins_next}
use Rattle.step_facts.proofs.WorkNumbers.{number_begun}
use Rattle.node_model.specs.JobStep.{Turn}
use Rattle.run_laws.proofs.NotRequired.{target_spared}
use Rattle.job_facts.proofs.TalkFacts.{OrderStands, TalkKind, slot_talks}
use Rattle.job_facts.proofs.PhaseFacts.{is_fresh}
use Rattle.step_facts.proofs.JobSteps.{Origin, Stepped, invariant, made_by, stepped_found, stepped_runs, turn_at}
use Rattle.job_facts.proofs.WorkFits.{works_fit}
use Rattle.job_facts.proofs.Untouched.{has_asked, runs_open}
use Rattle.job_facts.proofs.Starts.{fresh_no_order, starts_unasked}
use Rattle.job_facts.proofs.Targets.{order_stands}
use Rattle.job_facts.proofs.Aims.{aims, other_target}
use Rattle.run_laws.proofs.AtTargets.{at_targets}

-- ---- which job it is

begun_off : (j : ℕ) (was : Option Job) (kind : EntryKind) → ((job : ℕ) (what : Job) → kind ≡ Begin job what → (job == j) ≡ false) → begun_job_after j was kind ≡ was
begun_off j was (Begin job what) off = rw (off job what refl) refl
begun_off j was kind off = refl

step_no_begin : (j : ℕ) (kind : EntryKind) → is_step j kind ≡ true → (job : ℕ) (what : Job) → kind ≢ Begin job what
step_no_begin j kind step job what is = let no_step : is_step j (Begin job what) ≡ true = subst (λ k. is_step j k ≡ true) is step in cc

-- a running job is the one that began with its number
pub runs_begun : (s : SetUp) (past : List Entry) → OwnRun s past → (w : Work) → Member w (works past s.number) → begun_job past s.number w.number ≡ Some w.what
runs_begun s past run w m =
    invariant s (λ p x. begun_job p s.number x.number ≡ Some x.what) (λ p e is x n was. rw is was) own past run w m
  where
    own : (p : List Entry) (e : Entry) → OwnRun s (e ∷ p) → is_of s.number e ≡ true → ((x : Work) → Member x (works p s.number) → begun_job p s.number x.number ≡ Some x.what)
        → (x : Work) → Origin s p e x → begun_job (e ∷ p) s.number x.number ≡ Some x.what
    own p e r is was x (inl b) =
        let number : x.number ≡ b.job = ap (λ (y : Work). y.number) b.work_is in
        let what : x.what ≡ b.what = ap (λ (y : Work). y.what) b.work_is in
        let made : begun_job_after b.job (begun_job p s.number b.job) e.kind ≡ Some b.what = subst (λ k. begun_job_after b.job (begun_job p s.number b.job) k ≡ Some b.what) (sym b.kind_is) (rw (eqb_refl b.job) refl) in
        rw is (subst (λ n. begun_job_after n (begun_job p s.number n) e.kind ≡ Some x.what) (sym number) (made ∙ ap Some (sym what)))
    own p e r is was x (inr (inl b)) =
        let mine = r.0 is in
        let below : x.number ≤ begun_count p s.number = number_begun s p r.1 x b.ran in
        rw is (begun_off x.number (begun_job p s.number x.number) e.kind
        (λ job what k. let next : job ≡ begun_count p s.number + 1 = begins_next s p mine.0 e mine.1 job what k in eqb_more x.number job (omega arith)) ∙ was x b.ran)
    own p e r is was x (inr (inr b)) =
        let v = b.by.w in
        let same : running_job x ≡ running_job v = ap running_job b.work_is ∙ kind_kept (rows_at p s.number) s.number v e e.kind in
        let number : x.number ≡ v.number = ap (λ (j : RunningJob). j.number) same in
        let what : x.what ≡ v.what = ap (λ (j : RunningJob). j.what) same in
        let kept : begun_job_after v.number (begun_job p s.number v.number) e.kind ≡ Some v.what =
        begun_off v.number (begun_job p s.number v.number) e.kind (λ job what k. absurd (step_no_begin v.number e.kind b.step job what k)) ∙ was v (stepped_runs s p e b.by) in
        rw is (subst (λ n. begun_job_after n (begun_job p s.number n) e.kind ≡ Some x.what) (sym number) (kept ∙ ap Some (sym what)))

-- ---- who made it

pub stepped_of : (s : SetUp) (past : List Entry) (words : ℕ → Option Word) (e : Entry) → OwnPart s past words e → (j : ℕ) (kind : EntryKind) → e.kind ≡ kind → is_step j kind ≡ true → Stepped s past e
stepped_of s past words e own j kind is step = elim (made_by s past words e own) [
  | inl none ↦ absurd (let both : true ≡ false = sym step ∙ ap (is_step j) (sym is) ∙ none j in cc)
  | inr x ↦ x
]

pub kind_of : (s : SetUp) (past : List Entry) (e : Entry) (x : Stepped s past e) (kind : EntryKind) → e.kind ≡ kind → IsJobEntry (turn_at s past e x) x.made kind
kind_of s past e x kind is = subst (IsJobEntry (turn_at s past e x) x.made) (sym (ap (λ (y : Entry). y.kind) x.is) ∙ is) (stepped_found s past e x).found

talk_of : (s : SetUp) (past : List Entry) (e : Entry) (x : Stepped s past e) → OwnRun s past → (kind : EntryKind) → e.kind ≡ kind → TalkKind (turn_at s past e x) x.made kind
talk_of s past e x run kind is =
    subst (TalkKind (turn_at s past e x) x.made) (sym (ap (λ (y : Entry). y.kind) x.is) ∙ is)
    (slot_talks s (state_of s past) x.look x.made x.w (works_fit s past run x.w (stepped_runs s past e x)) x.does)

-- ---- bars

-- what a bar stands on, beside its row
pub record BarStands (s : SetUp) (past : List Entry) (j : ℕ) (need : Need) (key : List ℕ) : Type 0 where
  pub first : decision past s.number j ≡ None
  pub open' : is_done past s.number j ≡ false
  pub nothing_asked : has_asked past s.number j ≡ false
  pub dropping : in_drop past s.number j ≡ true
  pub key_is : key ≡ key_in (begun_job past s.number j)
  pub need_is : need ≡ need_read (s.paths j) past s.number j
  pub spared : required (settings_of (read_at past s.number j) s.number) (id_of s.repos s.number) key (s.paths j) ≡ None

own_target : (r : ℕ) (side : Side) (peer : Option ℕ) → side ≡ Local → r ≡ or_own r side peer
own_target r Local peer is = refl
own_target r Remote peer is = absurd (cc)

pub bar_stands : SentAreRead → (s : SetUp) (past : List Entry) (words : ℕ → Option Word) (e : Entry) → OwnPast s past → OwnPart s past words e → (j : ℕ) (need : Need) (key : List ℕ) → e.kind ≡ Bar j need key
    → BarStands s past j need key
bar_stands reads_back s past words e h own j need key is =
    let run = h.run in
    let x = stepped_of s past words e own j (Bar j need key) is (eqb_refl j) in
    let w = x.w in
    let runs = stepped_runs s past e x in
    let f = kind_of s past e x (Bar j need key) is in
    let none = starts_unasked s past run w runs (λ part. subst (λ p. is_fresh p ≡ true) (sym f.first) refl) in
    subst (λ n. BarStands s past n need key) (sym f.number_is) (record {
      first = none.undecided;
      open' = runs_open s past run w runs;
      nothing_asked = none.unasked;
      dropping = (at_targets reads_back s past h w runs).0 f.part_is;
      key_is = f.key_is ∙ ap key_in (sym (runs_begun s past run w runs));
      need_is = f.need_is;
      spared = (λ i. required (settings_of (read_at past s.number w.number) s.number) (id_of s.repos (own_target s.number (side_of w) w.what.peer f.side i)) (f.key_is i) (s.paths w.number)) ∙ f.spared;
    })

-- ---- orders

-- what an order stands on: the job that gives it, what it knows, and its deadline
pub record OrderStandsOn (s : SetUp) (past : List Entry) (e : Entry) (j peer : ℕ) (deadline : Option ℕ) (need : Need) (key : List ℕ) : Type 0 where
  pub by : Stepped s past e
  pub runs : Member by.w (works past s.number)
  pub number_is : j ≡ by.w.number
  pub part_is : by.w.part ≡ Drops
  pub side : side_of by.w ≡ Remote
  pub target_is : peer ≡ target_of s.number by.w
  pub open' : is_done past s.number j ≡ false
  pub enough : knows_enough s (state_of s past) by.w ≡ true
  pub dropping : in_drop past s.number j ≡ true
  pub key_is : key ≡ key_in (begun_job past s.number j)
  pub need_is : need ≡ need_read (s.paths j) past s.number j
  pub spared : required (settings_of (read_at past s.number j) s.number) (id_of s.repos peer) key (s.paths j) ≡ None
  pub timed : HasDeadline (turn_at s past e by) by.made.taken deadline
  pub sent_is : by.made.sent ≡ frames (job_end by.w peer) (end_at past s.number (job_end by.w peer)) (Line (text_of (order_of deadline key)) ∷ [])

pub order_stands_on : SentAreRead → (s : SetUp) (past : List Entry) (words : ℕ → Option Word) (e : Entry) → OwnPast s past → OwnPart s past words e
    → (j peer : ℕ) (deadline : Option ℕ) (need : Need) (key : List ℕ) → e.kind ≡ Order j peer deadline need key → OrderStandsOn s past e j peer deadline need key
order_stands_on reads_back s past words e h own j peer deadline need key is =
    let run = h.run in
    let x = stepped_of s past words e own j (Order j peer deadline need key) is (eqb_refl j) in
    let w = x.w in
    let runs = stepped_runs s past e x in
    let f = kind_of s past e x (Order j peer deadline need key) is in
    let at = at_targets reads_back s past h w runs in
    let apart = other_target s w (aims s past run w runs) f.part_is f.side in
    record {
      by = x;
      runs = runs;
      number_is = f.number_is;
      part_is = f.part_is;
      side = f.side;
      target_is = f.target_is;
      open' = subst (λ n. is_done past s.number n ≡ false) (sym f.number_is) (runs_open s past run w runs);
      enough = enough_by x (order_stands (turn_at s past e x) f.side apart (talk_of s past e x run (Order j peer deadline need key) is)) (λ here. at.2 f.part_is f.side apart here);
      dropping = subst (λ n. in_drop past s.number n ≡ true) (sym f.number_is) (at.0 f.part_is);
      key_is = f.key_is ∙ ap key_in (sym (subst (λ n. begun_job past s.number n ≡ Some w.what) (sym f.number_is) (runs_begun s past run w runs)));
      need_is = f.need_is ∙ ap (λ n. need_read (s.paths n) past s.number n) (sym f.number_is);
      spared = (λ i. required (settings_of (read_at past s.number (f.number_is i)) s.number) (id_of s.repos (f.target_is i)) (f.key_is i) (s.paths (f.number_is i)))
          ∙ target_spared reads_back s past h w runs f.part_is f.side (stands_later (turn_at s past e x) (talk_of s past e x run (Order j peer deadline need key) is) (is_fresh w.phase) refl);
      timed = f.timed;
      sent_is = f.sent_is;
    }
  where
    stands_later : (t : Turn) → OrderStands t → (f : Bool) → is_fresh t.w.phase ≡ f → is_fresh t.w.phase ≡ false
    stands_later t stands true fresh = absurd (fresh_no_order t fresh stands)
    stands_later t stands false fresh = fresh

    enough_by : {A : Type 0} (x : Stepped s past e) → A ⊎ (knows_enough s (state_of s past) x.w ≡ true) → (A → knows_enough s (state_of s past) x.w ≡ true) → knows_enough s (state_of s past) x.w ≡ true
    enough_by x (inl a) f = f a
    enough_by x (inr k) f = k
