-- What an entry of a repository tells its jobs of a copy: the partner's SUCCESS where the phase asks for one, and nothing else.
use Rattle.std.proofs.Common.{◌≡◌, ℕ, Bool, true, false, List, [], ◌∷◌, Option, Some, None, ◌⊎◌, inl, inr, refl, sym, ap, ◌∙◌, subst}
use Rattle.std.specs.Prelude.{if◌then◌else◌, ◌==◌, ◌&&◌, not}
use Rattle.std.proofs.lemmas.Bool.{true≢false, eqb-true, and_parts}
use Rattle.std.proofs.lemmas.Option.{same_Some}
use Rattle.annex_base.specs.Lists.{Member}
use Rattle.annex_base.specs.declared.kinds.Word.{Word}
use Rattle.annex_base.proofs.Conditions.{and_first, eqb_refl}
use Rattle.annex_base.specs.Bools.{same_bool}
use Rattle.step_facts.proofs.Below.{SentAreRead}
use Rattle.run_data.specs.declared.entry.By.TheVariants.{Script, Job as by_job, Peer}
use Rattle.run_data.specs.declared.entry.Entry.{Entry}
use Rattle.run_data.specs.declared.entry.EntryKind.{EntryKind}
use Rattle.run_data.specs.declared.entry.EntryKind.TheVariants.{Share, Talk}
use Rattle.run_data.specs.declared.entry.FrameView.{FrameView}
use Rattle.p2p_wire.specs.declared.message.Message.{Message}
use Rattle.p2p_wire.specs.declared.message.Message.TheVariants.{Success}
use Rattle.run_model.specs.Said.{message_in, Says}
use Rattle.run_model.specs.Past.{is_of}
use Rattle.node_model.specs.Rows.{option_is}
use Rattle.run_model.specs.Frames.{is_job, last_request, up_of, way_of}
use Rattle.node_model.specs.Slots.{job_of}
use Rattle.run_model.specs.Logs.{is_step}
use Rattle.past_facts.proofs.Heard.{Heard, heard_answer, heard_frame, heard_kind, hears}
use Rattle.run_laws.proofs.SaidDown.{is_said, said_is}
use Rattle.run_laws.proofs.HeardAgrees.{by_phase, takes_other, takes_success}
use Rattle.node_model.specs.SetUp.{SetUp}
use Rattle.node_model.specs.Sessions.{line_in}
use Rattle.node_model.specs.Jobs
use Rattle.node_model.specs.Jobs.{AsksLock, AsksLook, Held, Phase, Seen, Work, work_kind}
use Rattle.run_model.specs.States.{rows_at, works}
use Rattle.node_model.specs.Look.{Effect, entry_of}
use Rattle.node_model.specs.JobStep.{Turn, end_with, hears as hears_it, talk}
use Rattle.node_model.specs.Turns.{by_partner, takes_frame}
use Rattle.run_model.specs.Run.{OwnPart, OwnPast}
use Rattle.job_facts.proofs.TalkFacts.{Fits}
use Rattle.step_facts.proofs.ClientTurns.{made_entry}
use Rattle.step_facts.proofs.ClientLeaves.{Taking}
use Rattle.job_facts.proofs.Speaks
use Rattle.step_facts.proofs.Makers.{stepped_takes, taken_of, taker, TakenBy}
use Rattle.step_facts.proofs.JobSteps.{Stepped, stepped_job, stepped_runs, turn_at}
use Rattle.job_facts.proofs.HeardSteps.{lock_heard, lock_success, look_heard, look_success, took_as}
use Rattle.job_facts.proofs.PhaseFacts.{only_lock, only_look}

-- ---- what an entry tells, by the frame that it takes

-- the frame that a job takes is of its partner
pub taken_peer : (s : SetUp) (past : List Entry) (e : Entry) (f : FrameView) (t : TakenBy s past e f) → f.peer ≡ t.peer
taken_peer s past e f t =
    eqb-true f.peer t.peer (and_first (f.peer == t.peer) (f.slot == t.w.slot)
    (and_first ((f.peer == t.peer) && (f.slot == t.w.slot)) (same_bool true (if f.up then false else true)) t.of_end))

-- what SUCCESS tells the job of its partner
pub success_tells : SentAreRead → (s : SetUp) (past : List Entry) → OwnPast s past → (e : Entry) (f : FrameView) → e.taken ≡ Some f → f.up ≡ false
    → (t : TakenBy s past e f) → message_in f.body ≡ Says Success → is_job s.number t.w.number e ≡ true → (t.peer == s.number) ≡ false
    → hears past e t.peer s.number t.w.number ≡ by_phase t.w.what.key t.w.phase
success_tells reads_back s past past_is e f took down t success its other =
    let peer : (f.peer == t.peer) ≡ true = ap (λ n. n == t.peer) (taken_peer s past e f t) ∙ eqb_refl t.peer in
    rw (other, its, took) (subst (λ (b : Bool). (if b && not f.up then heard_answer (message_in f.body) (last_request past (up_of (way_of s.number f))) else []) ≡ by_phase t.w.what.key t.w.phase) (sym peer)
    (subst (λ (b : Bool). (if not b then heard_answer (message_in f.body) (last_request past (up_of (way_of s.number f))) else []) ≡ by_phase t.w.what.key t.w.phase) (sym down)
    (takes_success reads_back s past past_is e f down t success)))

either_none : (b : Bool) → (let none : List Heard = [] in if b then none else none) ≡ []
either_none true = refl
either_none false = refl

-- of any other repository but its own it hears nothing
pub tells_else : (r c j : ℕ) (past : List Entry) (e : Entry) (f : FrameView) → e.taken ≡ Some f → (f.peer == c) ≡ false → (c == r) ≡ false → hears past e c r j ≡ []
tells_else r c j past e f took apart other = rw (other, took, apart) (either_none (is_job r j e))

-- where nothing is taken, nothing is heard of others
pub tells_none : (r c j : ℕ) (past : List Entry) (e : Entry) → e.taken ≡ None → (c == r) ≡ false → hears past e c r j ≡ []
tells_none r c j past e took other = rw (other, took) (either_none (is_job r j e))

-- nor by an entry that isn't the job's
pub tells_others : (r c j : ℕ) (past : List Entry) (e : Entry) → is_job r j e ≡ false → (c == r) ≡ false → hears past e c r j ≡ []
tells_others r c j past e not_its other = rw (other, not_its) refl

-- ---- the job that takes a frame

-- an entry that it steps by is its own
pub stepped_own : (s : SetUp) (past : List Entry) (e : Entry) (x : Stepped s past e) → is_job s.number x.w.number e ≡ true
stepped_own s past e x =
    let of : is_of s.number e ≡ true = ap (λ (y : Entry). is_of s.number y) x.is ∙ eqb_refl s.number in
    rw (of, stepped_job s past e x) (eqb_refl x.w.number)

-- ---- whether it is told of a copy

-- SUCCESS where the phase asks for a lock, or for a look
pub record GotLock (phase : Phase) (taken : Option FrameView) : Type 0 where
  pub f : FrameView
  pub took : taken ≡ Some f
  pub told : line_in f.body ≡ Some Success
  pub peer : ℕ
  pub since : ℕ
  pub phase_is : phase ≡ AsksLock peer since

pub record GotLook (phase : Phase) (taken : Option FrameView) : Type 0 where
  pub f : FrameView
  pub took : taken ≡ Some f
  pub told : line_in f.body ≡ Some Success
  pub peer : ℕ
  pub phase_is : phase ≡ AsksLook peer

abbrev pub NoCopy : List ℕ → Phase → Option FrameView → Type 0
NoCopy key phase taken = (f : FrameView) → taken ≡ Some f → line_in f.body ≡ Some Success → by_phase key phase ≡ []

success_or : (m : Option Message) → (m ≡ Some Success) ⊎ ((m ≡ Some Success) → ⊥)
success_or None = inr (λ e. cc)
success_or (Some Success) = inl refl
success_or (Some m) = inr (λ e. cc)

pub told_or : (key : List ℕ) (phase : Phase) (taken : Option FrameView) → NoCopy key phase taken ⊎ (GotLock phase taken ⊎ GotLook phase taken)
told_or key phase None = inl (λ f took told. absurd (cc))
told_or key phase (Some f) = elim (success_or (line_in f.body)) [
  | inr other ↦ inl (λ g took told. absurd (other (ap (λ (h : FrameView). line_in h.body) (same_Some f g took) ∙ told)))
  | inl told ↦ go phase refl told
]
  where
    go : (p : Phase) → phase ≡ p → line_in f.body ≡ Some Success → NoCopy key phase (Some f) ⊎ (GotLock phase (Some f) ⊎ GotLook phase (Some f))
    go (AsksLock peer since) is told = inr (inl (record { f = f; took = refl; told = told; peer = peer; since = since; phase_is = is }))
    go (AsksLook peer) is told = inr (inr (record { f = f; took = refl; told = told; peer = peer; phase_is = is }))
    go p is told = inl (λ g took h. ap (by_phase key) is)

module _ (reads_back : SentAreRead) (s : SetUp) (past : List Entry) (e : Entry) (x : Stepped s past e) (fit : Fits x.w.part x.w.phase) where
  abbrev t : Turn
  t = turn_at s past e x

  -- the step that takes a frame
  pub made_as : (f : FrameView) (took : e.taken ≡ Some f) → x.made ≡ takes_frame t (taken_of s past e x f took).peer f f.body
  made_as f took =
      let k = stepped_takes s past e x f took in
      took_as t x.made k.0.peer k.0.partner_is (end_with t k.0.peer).opened (subst (λ p. by_partner t p ≡ Some x.made) k.0.partner_is x.does) f (sym (ap (λ (y : Entry). y.taken) x.is) ∙ took)

  taking : (f : FrameView) (took : e.taken ≡ Some f) → Taking t f (taken_of s past e x f took).peer
  taking f took = let k = taken_of s past e x f took in record { on = k.on; awaiting = k.awaiting; opened = k.opened; of_end = k.of_end }

  -- the entry, where the frame is heard and nothing said
  heard_entry : (f : FrameView) → x.made ≡ hears_it t f → e ≡ made_entry t (hears_it t f)
  heard_entry f same = x.is ∙ ap (λ (m : Effect). entry_of s.number x.look m) same

  after_heard : (f : FrameView) (hs : List (ℕ × Jobs.Heard)) → e ≡ made_entry t (hears_it t f) → (work_kind (rows_at past s.number) s.number x.w (made_entry t (hears_it t f)) (talk t)).heard ≡ hs
      → (work_kind (rows_at past s.number) s.number x.w e e.kind).heard ≡ hs
  after_heard f hs same h = subst (λ (y : Entry). (work_kind (rows_at past s.number) s.number x.w y y.kind).heard ≡ hs) (sym same) h

  -- it took the frame, and talks
  pub record Listens (list : List (ℕ × Jobs.Heard)) : Type 0 where
    pub kind_is : e.kind ≡ Talk (Some x.w.number)
    pub list_is : (work_kind (rows_at past s.number) s.number x.w e e.kind).heard ≡ list

  pub lock_listens : (g : GotLock x.w.phase e.taken) → Listens ((g.peer, Held g.since) ∷ x.w.heard)
  lock_listens g =
      let part = only_lock x.w.part g.peer g.since (subst (Fits x.w.part) g.phase_is fit) in
      let peer = (taken_of s past e x g.f g.took).peer in
      let same = heard_entry g.f (made_as g.f g.took ∙ lock_success t peer g.f g.peer g.since g.phase_is part g.told) in
      record { kind_is = ap (λ (y : Entry). y.kind) same; list_is = after_heard g.f ((g.peer, Held g.since) ∷ x.w.heard) same (lock_heard t g.f peer (taking g.f g.took) g.peer g.since g.phase_is g.told) }

  pub look_listens : (g : GotLook x.w.phase e.taken) → Listens ((g.peer, Seen) ∷ x.w.heard)
  look_listens g =
      let part = only_look x.w.part g.peer (subst (Fits x.w.part) g.phase_is fit) in
      let peer = (taken_of s past e x g.f g.took).peer in
      let same = heard_entry g.f (made_as g.f g.took ∙ look_success t peer g.f g.peer g.phase_is part g.told) in
      record { kind_is = ap (λ (y : Entry). y.kind) same; list_is = after_heard g.f ((g.peer, Seen) ∷ x.w.heard) same (look_heard t g.f peer (taking g.f g.took) g.peer g.phase_is g.told) }

  -- ---- what it hears

  module _ (past_is : OwnPast s past) where
    -- by the phase, where it takes SUCCESS
    pub stepped_tells : (f : FrameView) (took : e.taken ≡ Some f) → line_in f.body ≡ Some Success → (f.peer == s.number) ≡ false → hears past e f.peer s.number x.w.number ≡ by_phase x.w.what.key x.w.phase
    stepped_tells f took told other =
        let k = taken_of s past e x f took in
        let same : f.peer ≡ k.peer = taken_peer s past e f k in
        subst (λ c. hears past e c s.number x.w.number ≡ by_phase x.w.what.key x.w.phase) (sym same)
        (success_tells reads_back s past past_is e f took (Speaks.hears s past e x f took).1 k (said_is f.body Success told) (stepped_own s past e x) (subst (λ c. (c == s.number) ≡ false) same other))

    -- nothing of others, where it is told of no copy
    pub stepped_silent : NoCopy x.w.what.key x.w.phase e.taken → (c : ℕ) → (c == s.number) ≡ false → hears past e c s.number x.w.number ≡ []
    stepped_silent bare c other = by_taken e.taken refl
      where
        nothing : List Heard
        nothing = []

        by_taken : (o : Option FrameView) → e.taken ≡ o → hears past e c s.number x.w.number ≡ []
        by_taken None took = tells_none s.number c x.w.number past e took other
        by_taken (Some f) took = by_peer (f.peer == c) refl
          where
            -- the message is another
            unsaid : (line_in f.body ≡ Some Success → ⊥) → hears past e c s.number x.w.number ≡ []
            unsaid not_it =
                let none : heard_answer (message_in f.body) (last_request past (up_of (way_of s.number f))) ≡ [] = takes_other (message_in f.body) (last_request past (up_of (way_of s.number f))) (λ h. not_it (is_said f.body Success h)) in
                rw (other, stepped_own s past e x, took, none) (either ((f.peer == c) && not f.up))
              where
                either : (b : Bool) → (if b then nothing else nothing) ≡ nothing
                either true = refl
                either false = refl

            by_peer : (b : Bool) → (f.peer == c) ≡ b → hears past e c s.number x.w.number ≡ []
            by_peer false apart = tells_else s.number c x.w.number past e f took apart other
            by_peer true same =
                let is : f.peer ≡ c = eqb-true f.peer c same in
                elim (success_or (line_in f.body)) [
                  | inl told ↦ subst (λ n. hears past e n s.number x.w.number ≡ []) is (stepped_tells f took told (subst (λ n. (n == s.number) ≡ false) (sym is) other) ∙ bare f took told)
                  | inr not_it ↦ unsaid not_it
                ]

-- ---- an entry that is no step of the job

-- its own repository it doesn't hear
pub still_own : (j time : ℕ) (kind : EntryKind) → is_step j kind ≡ false → heard_kind j time kind ≡ []
still_own j time (Share hold end (by_job i) key) still = rw still refl
still_own j time (Share hold end Script key) still = refl
still_own j time (Share hold end (Peer peer slot) key) still = refl
still_own j time kind still = refl

-- nor any other
pub still_tells : SentAreRead → (s : SetUp) (past : List Entry) (words : ℕ → Option Word) (e : Entry) → OwnPart s past words e → ((w : Work) → Member w (works past s.number) → Fits w.part w.phase)
    → OwnPast s past → (j : ℕ) → is_step j e.kind ≡ false → (c : ℕ) → hears past e c s.number j ≡ []
still_tells reads_back s past words e own fit past_is j still c = go (c == s.number) refl
  where
    nothing : List Heard
    nothing = []

    other_frame : (f : FrameView) → e.taken ≡ Some f → (c == s.number) ≡ false → is_job s.number j e ≡ true → (up : Bool) → f.up ≡ up → hears past e c s.number j ≡ []
    other_frame f took other its true up = rw (other, its, took) (off (f.peer == c) f.up (heard_answer (message_in f.body) (last_request past (up_of (way_of s.number f)))) up)
      where
        off : (a b : Bool) (xs : List Heard) → b ≡ true → (if a && not b then xs else nothing) ≡ nothing
        off true true xs h = refl
        off true false xs h = absurd (cc)
        off false b xs h = refl
    other_frame f took other its false up =
        let x = taker s past words e own f took up in
        let w_fit = fit x.w (stepped_runs s past e x) in
        let number : x.w.number ≡ j = eqb-true x.w.number j (subst (λ o. option_is o j ≡ true) (stepped_job s past e x) ((and_parts (is_of s.number e) (option_is (job_of e.kind) j) its).1)) in
        let talks : e.kind ≡ Talk (Some x.w.number) → ⊥ = λ kind. true≢false (sym (subst (λ n. (x.w.number == n) ≡ true) number (eqb_refl x.w.number)) ∙ subst (λ k. is_step j k ≡ false) kind still) in
        subst (λ n. hears past e c s.number n ≡ []) number (elim (told_or x.w.what.key x.w.phase e.taken) [
          | inl bare ↦ stepped_silent reads_back s past e x w_fit past_is bare c other
          | inr got ↦ elim got [
            | inl g ↦ absurd (talks (lock_listens reads_back s past e x w_fit g).kind_is)
            | inr g ↦ absurd (talks (look_listens reads_back s past e x w_fit g).kind_is)
          ]
        ])

    by_taken : (o : Option FrameView) → e.taken ≡ o → (c == s.number) ≡ false → (b : Bool) → is_job s.number j e ≡ b → hears past e c s.number j ≡ []
    by_taken o took other false its = tells_others s.number c j past e its other
    by_taken None took other true its = tells_none s.number c j past e took other
    by_taken (Some f) took other true its = other_frame f took other its f.up refl

    go : (b : Bool) → (c == s.number) ≡ b → hears past e c s.number j ≡ []
    go true own_is = own_hears (is_of s.number e)
      where
        own_hears : (b : Bool) → (if c == s.number then (if b then heard_kind j e.time e.kind else []) else (if is_job s.number j e then heard_frame past s.number c e.taken else [])) ≡ []
        own_hears true = rw own_is (still_own j e.time e.kind still)
        own_hears false = rw own_is refl
    go false other = by_taken e.taken refl other (is_job s.number j e) refl
