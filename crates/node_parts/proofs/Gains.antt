-- The part that a job's content comes of: it has the size that the entry tells.
use Rattle.std.proofs.Common.{◌≡◌, inl, inr, ℕ, Bool, true, false, List, [], ◌∷◌, map, Option, Some, None, length, refl, sym, ap, subst, ◌∙◌}
use Rattle.std.specs.Prelude.{◌==◌, IfSome, find}
use Rattle.std.proofs.lemmas.Option.{same_Some}
use Rattle.annex_base.specs.Lists.{Member}
use Rattle.annex_base.specs.declared.kinds.Call.{Call}
use Rattle.annex_base.proofs.Lists.{find_member}
use Rattle.annex_base.proofs.Options.{first_some-was, some_none, where_some}
use Rattle.run_data.specs.declared.entry.By.{By}
use Rattle.run_data.specs.declared.entry.EntryKind.{EntryKind}
use Rattle.run_data.specs.declared.entry.EntryKind.TheVariants as kinds
use Rattle.run_data.specs.declared.entry.FrameText.{FrameText}
use Rattle.run_data.specs.declared.entry.FrameText.TheVariants as texts
use Rattle.run_data.specs.declared.entry.FrameView.{FrameView}
use Rattle.p2p_wire.specs.declared.message.Message.{Message}
use Rattle.p2p_wire.specs.declared.message.Message.TheVariants as messages
use Rattle.p2p_wire.specs.Messages.{message_of}
use Rattle.object_store.specs.Stores.{Parts as StoredParts}
use Rattle.content_lock.specs.Rows.{Rows, is_filling}
use Rattle.node_model.specs.Calls.{to_commit}
use Rattle.node_model.specs.Jobs.{Gets, GetsWord, Work, job_end}
use Rattle.node_model.specs.JobStep.{Turn, by_me, end_with, key_of, quietly, turn_of}
use Rattle.node_model.specs.Look.{Effect, Look, failing_call, unless, waiting_frame}
use Rattle.node_model.specs.SetUp.{SetUp, slots}
use Rattle.node_model.specs.Slots.{job_of}
use Rattle.node_model.specs.State.{State}
use Rattle.node_model.specs.TransferStep.{gains, takes_get}
use Rattle.node_model.specs.Turns.{awaits, by_partner, has_room, job_step, slot_step, takes_frame, takes_text, with_partner}
use Rattle.job_frames.specs.Sending.{IsOwnEntry}
use Rattle.session_state.specs.declared.doing.Taken.{Taken}
use Rattle.session_state.specs.declared.incoming.Incoming.TheVariants as incoming
use Rattle.session_state.specs.Talking.{Brings, SeesTaken, heard_line}
use Rattle.get_phases.specs.Gets.{SeesPart, TookRight, fill_in, part_of, phase_of}
use Rattle.get_phases.specs.declared.getting.Getting.{Getting}
use Rattle.get_phases.specs.declared.getting.Phase.{Phase as GetPhase}
use Rattle.get_phases.specs.declared.getting.Phase.TheVariants as phases
use Rattle.running_jobs.specs.Worker.{Worker}
use Rattle.running_jobs.specs.Worker.TheVariants as workers
use Rattle.running_jobs.specs.Task.{Task}
use Rattle.running_jobs.specs.Task.TheVariants as tasks
use Rattle.running_jobs.specs.TaskActing.{IsJudged}
use Rattle.running_jobs.specs.Tasks.{OwnsOf, number_of, work_now}
use Rattle.running_jobs.specs.Acting.{SeesPartAt as JobSeesPartAt}
use Rattle.running_jobs.specs.Running.{AllApart, job_at}
use Rattle.node_parts.proofs.Among.{found_by_number}

-- ---- the step of a get that has taken all

-- VALID came, and the content is of this size
pub record GainsIt (t : Turn) (size : ℕ) (taken : Option FrameView) (z : ℕ) (key : List ℕ) : Type 0 where
  pub f : FrameView
  pub taken_is : taken ≡ Some f
  pub text : List ℕ
  pub body_is : f.body ≡ texts.Line text
  pub valid : message_of text ≡ Some messages.Valid
  pub size_is : z ≡ size
  pub key_is : key ≡ key_of t

-- where the entry is that of a content that came
abbrev GainsBy : Turn → ℕ → Option FrameView → EntryKind → Type 0
GainsBy t size taken (kinds.Gain by z key) = GainsIt t size taken z key
GainsBy t size taken kind = Unit {0}

abbrev Gained : Turn → ℕ → Effect → Type 0
Gained t size m = GainsBy t size m.taken m.kind

attempted : (t : Turn) (size : ℕ) (o : Option Call) (taken : Option FrameView) (made : Effect) → Gained t size made → Gained t size (unless o (λ call. quietly (kinds.Fault call (by_me t)) taken) made)
attempted t size None taken made h = h
attempted t size (Some call) taken made h = tt

module _ (t0 : Turn) (w0 : Work) (peer start size : ℕ) where
  abbrev at_word : Work
  at_word = record w0 { part = Gets; phase = GetsWord peer start size }

  abbrev turn : Turn
  turn = record t0 { w = at_word }

  module _ (f : FrameView) (text : List ℕ) (body_is : f.body ≡ texts.Line text) where
    by_verdict : (right : Bool) → message_of text ≡ Some messages.Valid → Gained turn size (gains turn f peer size right)
    by_verdict true valid = record { f = f; taken_is = refl; text = text; body_is = body_is; valid = valid; size_is = refl; key_is = refl }
    by_verdict false valid = tt

    by_message : (m : Message) → message_of text ≡ Some m → Gained turn size (takes_get turn f peer (GetsWord peer start size) m)
    by_message messages.Valid is = attempted turn size (failing_call turn.look.fails (to_commit turn.look.right)) (Some f) (gains turn f peer size turn.look.right) (by_verdict turn.look.right is)
    by_message messages.Invalid is = tt
    by_message m is = tt

    by_text : (o : Option Message) → message_of text ≡ o → Gained turn size (takes_text turn f peer o)
    by_text None is = tt
    by_text (Some m) is = by_message m is

  by_body : (f : FrameView) (body : FrameText) → f.body ≡ body → Gained turn size (takes_frame turn peer f body)
  by_body f texts.Opening is = tt
  by_body f texts.Closing is = tt
  by_body f (texts.Bytes n) is = tt
  by_body f (texts.Line text) is = by_text f text is (message_of text) refl

  gained_by : (m : Effect) → by_partner turn (Some peer) ≡ Some m → Gained turn size m
  gained_by m is = go (end_with turn peer).opened is
    where
      there : (o : Option FrameView) → awaits turn peer o ≡ Some m → Gained turn size m
      there None at = absurd (some_none m (sym at))
      there (Some f) at =
          subst (Gained turn size) (same_Some (takes_frame turn peer f f.body) m (where_some (has_room turn peer) (Some (takes_frame turn peer f f.body)) m at).1) (by_body f f.body refl)

      go : (opened : Bool) → with_partner turn peer opened ≡ Some m → Gained turn size m
      go false at = subst (Gained turn size) (same_Some _ m at) tt
      go true at = there (waiting_frame (end_with turn peer) turn.look (job_end turn.w peer)) at

-- of any get that stands so
pub gained_so : (s : SetUp) (st : State) (k : Look) (w : Work) (peer start size : ℕ) (m : Effect) → w.part ≡ Gets → w.phase ≡ GetsWord peer start size → slot_step s st k (Some w) ≡ Some m → Gained (turn_of s st k w) size m
gained_so s st k w peer start size m part phase step =
    subst (λ (x : Work). Gained (turn_of s st k x) size m) (sym same)
    (gained_by (turn_of s st k literal) w peer start size m (ap (λ (x : Work). slot_step s st k (Some x)) (sym same) ∙ step))
  where
    literal : Work
    literal = record w { part = Gets; phase = GetsWord peer start size }

    same : w ≡ literal
    same = λ i. record w { part = part i; phase = phase i }

-- ---- the job of an entry

-- what a law says of the entries of jobs
abbrev pub NamesJob : Type 0
NamesJob = (s : SetUp) (st : State) (k : Look) (w : Work) (m : Effect) → slot_step s st k (Some w) ≡ Some m → job_of m.kind ≡ Some w.number

abbrev pub OwnsEntry : Type 0
OwnsEntry = (s : SetUp) (st : State) (k : Look) (w : Work) (m : Effect) → slot_step s st k (Some w) ≡ Some m → IsOwnEntry m

map_member : {X Y : Type 0} (f : X → Y) (xs : List X) (y : Y) → Member y (map f xs) → (x : X) × Member x xs × (y ≡ f x)
map_member f [] y among = absurd among
map_member f (x ∷ xs) y (inl same) = (x, inl refl, same)
map_member f (x ∷ xs) y (inr later) = let it = map_member f xs y later in (it.0, inr it.1, it.2)

-- a step of the jobs is the step of one of their works
pub record OfWork (s : SetUp) (st : State) (k : Look) (m : Effect) : Type 0 where
  pub w : Work
  pub among : Member w st.works
  pub step : slot_step s st k (Some w) ≡ Some m

pub of_work : (s : SetUp) (st : State) (k : Look) (m : Effect) → job_step s st k ≡ Some m → OfWork s st k m
of_work s st k m is =
    let it = first_some-was (λ slot. slot_step s st k (find (λ (w : Work). w.slot == slot) st.works)) slots m is in
    go it.0 (find (λ (w : Work). w.slot == it.0) st.works) refl it.2
  where
    go : (slot : ℕ) (o : Option Work) → find (λ (w : Work). w.slot == slot) st.works ≡ o → slot_step s st k o ≡ Some m → OfWork s st k m
    go slot None at step = absurd (some_none m (sym step))
    go slot (Some w) at step = record { w = w; among = (find_member (λ (x : Work). x.slot == slot) st.works w at).0; step = step }

-- and its entry is its own
pub own_entry : OwnsEntry → (s : SetUp) (st : State) (k : Look) (m : Effect) → job_step s st k ≡ Some m → IsOwnEntry m
own_entry law s st k m is = let it = of_work s st k m is in law s st k it.w m it.step

-- it is the step of the job that its entry names
pub own_step : NamesJob → (s : SetUp) (st : State) (k : Look) (ts : List Task) (m : Effect) (n : ℕ) (t : Task) → AllApart ts → st.works ≡ map work_now ts → job_step s st k ≡ Some m → job_of m.kind ≡ Some n → job_at ts n ≡ Some t
    → slot_step s st k (Some (work_now t)) ≡ Some m
own_step law s st k ts m n t apart works is names found =
    let it = of_work s st k m is in
    let one = map_member work_now ts it.w (subst (Member it.w) works it.among) in
    let number : number_of one.0 ≡ n = sym (ap (λ (x : Work). x.number) one.2) ∙ same_Some it.w.number n (sym (law s st k it.w m it.step) ∙ names) in
    let same : one.0 ≡ t = same_Some one.0 t (sym (found_by_number ts one.0 apart one.1) ∙ (ap (job_at ts) number ∙ found)) in
    ap (λ (x : Task). slot_step s st k (Some (work_now x))) (sym same) ∙ (ap (λ (x : Work). slot_step s st k (Some x)) (sym one.2) ∙ it.step)

-- ---- the size

-- the part of the key is told, and has this size
abbrev pub IsSizeOf : Option StoredParts → List ℕ → ℕ → Type 0
IsSizeOf None key size = ⊥
IsSizeOf (Some p) key size = size ≡ length (p key)

-- where the entry is that of a content that came
abbrev pub FitsGain : EntryKind → Option StoredParts → Type 0
FitsGain (kinds.Gain by size key) known = IsSizeOf known key size
FitsGain kind known = Unit {0}

-- the job of a get
abbrev got_by : Getting → List (List ℕ) → Task
got_by g paths = tasks.Transfers (record { worker = workers.Gets g; paths = paths })

module _ (s : SetUp) (st : State) (k : Look) (rows : Rows) (known : Option StoredParts) (by : By) (size : ℕ) (key : List ℕ) (m : Effect) (kind : m.kind ≡ kinds.Gain by size key) where
  of_taken : (g : Getting) (paths : List (List ℕ)) (peer start : ℕ) (taken : Taken) (o : Option StoredParts) → GainsIt (turn_of s st k (work_now (got_by g paths))) taken.size m.taken size key → (taken.fill ≡ g.job.key) → SeesTaken o taken k.right → IsSizeOf o key size
  of_taken g paths peer start taken None gain fill sees = absurd sees
  of_taken g paths peer start taken (Some p) gain fill sees = gain.size_is ∙ (sees.0.0 ∙ ap (λ (x : List ℕ). length (p x)) (fill ∙ sym gain.key_is))

  module _ (g : Getting) (paths : List (List ℕ)) (own : OwnsOf rows (got_by g paths)) (step : slot_step s st k (Some (work_now (got_by g paths))) ≡ Some m)
      (sees : (f : FrameView) → m.taken ≡ Some f → JobSeesPartAt known (got_by g paths) (Some f) k.part k.right) where
    by_phase : (ph : GetPhase) → g.phase ≡ ph → TookRight ph → IsSizeOf known key size
    by_phase (phases.Word peer start taken) is right =
        let gain : GainsIt (turn_of s st k (work_now (got_by g paths))) taken.size m.taken size key =
        subst (GainsBy (turn_of s st k (work_now (got_by g paths))) taken.size m.taken) kind
        (gained_so s st k (work_now (got_by g paths)) peer start taken.size m (part_is g.phase is) (ap phase_of is) step) in
        let has = subst (λ (x : GetPhase). IfSome (fill_in x) (λ (k : List ℕ). (k ≡ g.job.key) × (is_filling rows k ≡ true))) is own.1 in
        let brings : Brings gain.f.body (incoming.Message messages.Valid) = subst (λ (b : FrameText). Brings b (incoming.Message messages.Valid)) (sym gain.body_is)
        (subst (λ (o : Option Message). heard_line o (incoming.Message messages.Valid)) (sym gain.valid) refl) in
        let seen = subst (λ (x : GetPhase). SeesPart known g.job.key x (Some (incoming.Message messages.Valid)) k.part k.right) is (sees gain.f gain.taken_is (incoming.Message messages.Valid) brings) in
        of_taken g paths peer start taken known gain has.0 seen
      where
        part_is : (x : GetPhase) → x ≡ phases.Word peer start taken → part_of x ≡ Gets
        part_is x same = ap part_of same
    by_phase ph is right = absurd right

  of_worker : (v : Worker) (paths : List (List ℕ)) → IsJudged (kinds.Gain by size key) (tasks.Transfers (record { worker = v; paths = paths })) → OwnsOf rows (tasks.Transfers (record { worker = v; paths = paths }))
      → slot_step s st k (Some (work_now (tasks.Transfers (record { worker = v; paths = paths })))) ≡ Some m
      → ((f : FrameView) → m.taken ≡ Some f → JobSeesPartAt known (tasks.Transfers (record { worker = v; paths = paths })) (Some f) k.part k.right) → IsSizeOf known key size
  of_worker (workers.Puts p) paths judged own step sees = absurd judged
  of_worker (workers.Gets g) paths judged own step sees = by_phase g paths own step sees g.phase refl judged

  -- the part of which a job's content came has the size that the entry tells
  pub of_task : (t : Task) → IsJudged (kinds.Gain by size key) t → OwnsOf rows t → slot_step s st k (Some (work_now t)) ≡ Some m → ((f : FrameView) → m.taken ≡ Some f → JobSeesPartAt known t (Some f) k.part k.right) → IsSizeOf known key size
  of_task (tasks.Drops j) judged own step sees = absurd judged
  of_task (tasks.Transfers w) judged own step sees = of_worker w.worker w.paths judged own step sees
