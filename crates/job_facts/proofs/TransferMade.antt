-- What a get or a put makes that says nothing, that hears that its peer has the content, or that is to end.
use Rattle.std.proofs.Common.{◌≡◌, ◌≢◌, ℕ, Bool, true, false, List, [], ◌∷◌, Option, Some, None, ◌⊎◌, inl, inr, refl, sym, ap, ◌∙◌, subst}
use Rattle.std.specs.Prelude.{if◌then◌else◌, length, slice_get, not, ◌&&◌, ◌+◌, min}
use Rattle.std.specs.List.{list_all}
use Rattle.annex_base.specs.declared.kinds.Call.{Call}
use Rattle.annex_base.proofs.Conditions.{if_either}
use Rattle.annex_base.specs.declared.kinds.Call.TheVariants as calls
use Rattle.run_data.specs.declared.entry.By.{By}
use Rattle.run_data.specs.declared.entry.EntryKind.TheVariants.{Talk, Fault, End as ends_job}
use Rattle.run_data.specs.declared.entry.FrameView.{FrameView}
use Rattle.run_data.specs.declared.entry.FrameText.{FrameText}
use Rattle.run_data.specs.declared.entry.FrameText.TheVariants.{Opening, Closing, Bytes, Line}
use Rattle.run_data.specs.declared.job.Outcome.{Outcome}
use Rattle.run_data.specs.declared.job.Outcome.TheVariants.{Got, TransferRefused}
use Rattle.run_data.specs.declared.job.TransferRefusal.TheVariants as failures
use Rattle.node_model.specs.Rows.{is_lost_ordered}
use Rattle.p2p_wire.specs.declared.message.Message.{Message}
use Rattle.p2p_wire.specs.declared.message.Message.TheVariants.{AlreadyHave, AuthSuccess, Data, Error, Failure, Get, Invalid, Put, PutFrom, Success, Valid, Version}
use Rattle.p2p_wire.specs.Messages.{message_of, text_of}
use Rattle.node_model.specs.Sessions.{line_in, reaches}
use Rattle.node_model.specs.Jobs
use Rattle.node_model.specs.Jobs.{Drops, Fresh, Gets, GetsData, GetsWord, Greets, Next, Opens, Part, Phase, Puts, PutsAnswer, PutsBytes, PutsOffer, PutsWord, Work, is_move, job_end, partner}
use Rattle.node_model.specs.Ends.{frames}
use Rattle.node_model.specs.Look.{Effect, waiting_frame}
use Rattle.node_model.specs.Calls.{to_release, to_resume}
use Rattle.node_model.specs.JobStep.{Turn, attempts, by_me, end_with, ends, farewells, hears, is_there, key_of, owns_share, quietly, says_to, sends_to, talk, wrong_message}
use Rattle.node_model.specs.Requests.{asks, goes_to}
use Rattle.node_model.specs.TransferStep.{content_of, first_get, first_put, next_get, next_source, takes_get, takes_put}
use Rattle.node_model.specs.Turns.{awaits, by_partner, first_step, goes, goes_on, has_room, is_awaiting, needs, next_step, outcome_of, takes, takes_answer, takes_frame, takes_text, with_partner}
use Rattle.job_facts.proofs.PartTurns.{HasIt}
use Rattle.step_facts.proofs.JobFacts.{frame_found, partner_found}
use Rattle.step_facts.proofs.ClientSteps.{attempts_even, release_is}

-- the messages by which a peer has the content
abbrev pub SaysHas : Message → Type 0
SaysHas AlreadyHave = Unit {0}
SaysHas Success = Unit {0}
SaysHas m = ⊥

abbrev pub is_end : Phase → Bool
is_end (Jobs.Ends outcome) = true
is_end phase = false

-- it is to end, or has nobody left to ask
abbrev pub NoneLeft : Work → Type 0
NoneLeft w = (w.part ≡ Gets) × (w.phase ≡ Next) × ((peer : ℕ) × (w.what.peer ≡ Some peer) × (slice_get (peer ∷ []) (length w.causes) ≡ None))

abbrev pub Stuck : Work → Type 0
Stuck w = (is_end w.phase ≡ true) ⊎ NoneLeft w

module _ (t : Turn) where
  -- why it says nothing and takes nothing: its connection is closed, or it is a get that finds the content, or nobody to ask
  abbrev pub QuietBy : Type 0
  QuietBy = ((peer : ℕ) × (partner t.w.what.peer t.w.phase ≡ Some peer) × ((end_with t peer).opened ≡ false))
      ⊎ ((t.w.part ≡ Gets) × (t.w.phase ≡ Fresh) × ((is_there t ≡ true) ⊎ (next_source t ≡ None)))

  abbrev pub Quiet : Effect → Type 0
  Quiet m = (j : ℕ) → m.kind ≡ Talk (Some j) → m.taken ≡ None → m.sent ≡ [] → QuietBy

  -- it ends, or its share can't be released
  abbrev pub Ending : Effect → Type 0
  Ending m = ((j : ℕ) × (outcome : Outcome) × (m.kind ≡ ends_job j outcome)) ⊎ ((by : By) × (m.kind ≡ Fault calls.Unhold by))

  fault_quiet : (taken : Option FrameView) (call : Call) → Quiet (quietly (Fault call (by_me t)) taken)
  fault_quiet taken call j kind none sent = absurd (let no_talk : Fault call (by_me t) ≡ Talk (Some j) = kind in cc)

  attempts_quiet : (cs : List Call) (taken : Option FrameView) (m : Effect) → Quiet m → Quiet (attempts t cs taken m)
  attempts_quiet cs taken m good = attempts_even Quiet t cs taken m (λ call e. fault_quiet taken call) good

  sends_quiet : (taken : Option FrameView) (peer : ℕ) (body : FrameText) → Quiet (sends_to t (talk t) taken peer (body ∷ []))
  sends_quiet taken peer body j kind none sent = absurd (cc)

  ends_quiet : (taken : Option FrameView) (outcome : Outcome) → Quiet (ends t taken outcome)
  ends_quiet taken outcome = attempts_quiet (to_release (owns_share t && not (is_lost_ordered outcome))) taken
      (record { kind = ends_job t.w.number outcome; taken = taken; sent = farewells t (is_lost_ordered outcome); lines = []; calls = [] })
      (λ j kind none sent. absurd (let no_talk : ends_job t.w.number outcome ≡ Talk (Some j) = kind in cc))

  asks_quiet : (version : ℕ) (taken : Option FrameView) (peer : ℕ) (part : Part) → part ≢ Drops → Quiet (asks t version taken peer part)
  asks_quiet version taken peer Gets apart = attempts_quiet (to_resume t.look.part) taken (says_to t (talk t) taken peer (Get t.look.part [] (key_of t))) (sends_quiet taken peer (Line (text_of (Get t.look.part [] (key_of t)))))
  asks_quiet version taken peer Puts apart = sends_quiet taken peer (Line (text_of (Put [] (key_of t))))
  asks_quiet version taken peer Drops apart = absurd (apart refl)

  module _ (apart : t.w.part ≢ Drops) where
    goes_quiet : (peer : ℕ) → Quiet (goes_to t peer)
    goes_quiet peer = if_either Quiet (end_with t peer).opened (asks t t.w.version None peer t.w.part) (sends_to t (talk t) None peer (Opening ∷ []))
        (λ e. asks_quiet t.w.version None peer t.w.part apart) (λ e. sends_quiet None peer Opening)

    get_quiet : (here filled : Bool) (source : Option ℕ) → ((here ≡ true) ⊎ (source ≡ None) → QuietBy) → Quiet (first_get t here filled source)
    get_quiet true filled source by = if_either Quiet (is_move t.w.what.kind) (quietly (talk t) None) (ends t None (Got None None)) (λ e j kind none sent. by (inl refl)) (λ e. ends_quiet None (Got None None))
    get_quiet false true source by = ends_quiet None (TransferRefused failures.Busy)
    get_quiet false false None by = λ j kind none sent. by (inr refl)
    get_quiet false false (Some peer) by = goes_quiet peer

    put_quiet : (here : Bool) (peer : Option ℕ) → Quiet (first_put t here peer)
    put_quiet true (Some peer) = goes_quiet peer
    put_quiet true None = ends_quiet None (TransferRefused failures.NotHere)
    put_quiet false peer = ends_quiet None (TransferRefused failures.NotHere)

    first_quiet : t.w.phase ≡ Fresh → (part : Part) → t.w.part ≡ part → Quiet (first_step t part)
    first_quiet fresh Gets is = attempts_quiet (calls.Has ∷ []) None (first_get t (is_there t) (t.filled (key_of t)) (next_source t))
        (get_quiet (is_there t) (t.filled (key_of t)) (next_source t) (λ found. inr (is, fresh, found)))
    first_quiet fresh Puts is = attempts_quiet (calls.Has ∷ []) None (first_put t (is_there t) t.w.what.peer) (put_quiet (is_there t) t.w.what.peer)
    first_quiet fresh Drops is = absurd (apart is)

    source_quiet : (source : Option ℕ) → Quiet (next_get t source)
    source_quiet None = ends_quiet None (TransferRefused (failures.NoSource t.w.causes))
    source_quiet (Some peer) = goes_quiet peer

    next_quiet : (part : Part) → t.w.part ≡ part → Quiet (next_step t part)
    next_quiet Gets is = source_quiet (next_source t)
    next_quiet Puts is = source_quiet (next_source t)
    next_quiet Drops is = absurd (apart is)

    phase_quiet : (phase : Phase) → t.w.phase ≡ phase → Quiet (goes t phase)
    phase_quiet Fresh is = first_quiet is t.w.part refl
    phase_quiet Next is = next_quiet t.w.part refl
    phase_quiet (PutsBytes peer start at left) is = attempts_quiet (calls.Read ∷ []) None
        (sends_to t (talk t) None peer (piece ∷ [])) (sends_quiet None peer piece)
      where
        piece : FrameText
        piece = if reaches (content_of t) (at + min 32768 left) then Bytes (min 32768 left) else Closing
    phase_quiet (PutsWord peer start) is = sends_quiet None peer (Line (text_of Valid))
    phase_quiet phase is = ends_quiet None (outcome_of t phase)

    on_quiet : (m : Effect) → goes_on t ≡ Some m → Quiet m
    on_quiet m e = go (list_all (has_room t) (needs t t.w.phase)) e
      where
        go : (b : Bool) → (if b then Some (goes t t.w.phase) else None) ≡ Some m → Quiet m
        go true g = let same : goes t t.w.phase ≡ m = cc in subst Quiet same (phase_quiet t.w.phase refl)
        go false g = absurd (cc)

    -- it takes a frame
    frame_quiet : (peer : ℕ) (m : Effect) → partner t.w.what.peer t.w.phase ≡ Some peer → (f : Option FrameView) → awaits t peer f ≡ Some m → Quiet m
    frame_quiet peer m on None e = absurd (cc)
    frame_quiet peer m on (Some f) e = go (has_room t peer) e
      where
        go : (b : Bool) → (if b then Some (takes_frame t peer f f.body) else None) ≡ Some m → Quiet m
        go true g =
            let same : takes_frame t peer f f.body ≡ m = cc in
            subst Quiet same (λ j kind none sent. absurd (let taken : Some f ≡ None = sym (frame_found t peer f on f.body refl).0 ∙ none in cc))
        go false g = absurd (cc)

    -- **a get or a put that says and takes nothing**
    pub by_quiet : (m : Effect) (p : Option ℕ) → partner t.w.what.peer t.w.phase ≡ p → by_partner t p ≡ Some m → Quiet m
    by_quiet m None on e = on_quiet m e
    by_quiet m (Some peer) on e = at (end_with t peer).opened refl e
      where
        at : (b : Bool) → (end_with t peer).opened ≡ b → with_partner t peer b ≡ Some m → Quiet m
        at false shut g = λ j kind none sent. inl (peer, on, shut)
        at true open' g = go (is_awaiting t.w.phase) g
          where
            go : (b : Bool) → (if b then awaits t peer (waiting_frame (end_with t peer) t.look (job_end t.w peer)) else goes_on t) ≡ Some m → Quiet m
            go true h = frame_quiet peer m on (waiting_frame (end_with t peer) t.look (job_end t.w peer)) h
            go false h = on_quiet m h

    -- ---- it hears that its peer has the content

    -- it hears it, or it is wrong
    abbrev pub Hears : ℕ → FrameView → Message → Effect → Type 0
    Hears peer f m made = (HasIt t.w.phase m × (made.sent ≡ [])) ⊎ (made.sent ≡ frames (job_end t.w peer) (end_with t peer) (Closing ∷ []))

    get_hears : (f : FrameView) (peer : ℕ) (phase : Phase) (m : Message) → SaysHas m → takes_get t f peer phase m ≡ wrong_message t f peer
    get_hears f peer (GetsData p start) (Data n) has = absurd has
    get_hears f peer (GetsWord p start size) Valid has = absurd has
    get_hears f peer (GetsWord p start size) Invalid has = absurd has
    get_hears f peer phase m has = refl

    put_hears : (f : FrameView) (peer : ℕ) (phase : Phase) (m : Message) → SaysHas m → (HasIt phase m × (takes_put t f peer phase m ≡ hears t f)) ⊎ (takes_put t f peer phase m ≡ wrong_message t f peer)
    put_hears f peer (PutsOffer p) AlreadyHave has = inl (tt, refl)
    put_hears f peer (PutsOffer p) Failure has = absurd has
    put_hears f peer (PutsOffer p) (Error text) has = absurd has
    put_hears f peer (PutsOffer p) (PutFrom n) has = absurd has
    put_hears f peer (PutsAnswer p start) Success has = inl (tt, refl)
    put_hears f peer (PutsAnswer p start) Failure has = absurd has
    put_hears f peer phase m has = inr refl

    part_hears : (f : FrameView) (peer : ℕ) (part : Part) (phase : Phase) (m : Message) → part ≢ Drops → SaysHas m
        → (HasIt phase m × (takes_answer t f peer part phase m ≡ hears t f)) ⊎ (takes_answer t f peer part phase m ≡ wrong_message t f peer)
    part_hears f peer Gets phase m off has = inr (get_hears f peer phase m has)
    part_hears f peer Puts phase m off has = put_hears f peer phase m has
    part_hears f peer Drops phase m off has = absurd (off refl)

    takes_is : (f : FrameView) (peer : ℕ) (phase : Phase) (m : Message) → SaysHas m → takes t f peer phase m ≡ takes_answer t f peer t.w.part phase m
    takes_is f peer (Opens p) (AuthSuccess id) has = absurd has
    takes_is f peer (Greets p) (Version n) has = absurd has
    takes_is f peer phase m has = refl

    body_hears : (f : FrameView) (peer : ℕ) (m : Message) (body : FrameText) → line_in body ≡ Some m → SaysHas m → Hears peer f m (takes_frame t peer f body)
    body_hears f peer m (Line text) is has =
        let made : takes_text t f peer (message_of text) ≡ takes_answer t f peer t.w.part t.w.phase m = ap (takes_text t f peer) is ∙ takes_is f peer t.w.phase m has in
        elim (part_hears f peer t.w.part t.w.phase m apart has) [
          | inl x ↦ inl (x.0, ap (λ (z : Effect). z.sent) (made ∙ x.1))
          | inr x ↦ inr (ap (λ (z : Effect). z.sent) (made ∙ x))
        ]
    body_hears f peer m Opening is has = absurd (cc)
    body_hears f peer m Closing is has = absurd (cc)
    body_hears f peer m (Bytes n) is has = absurd (cc)

    -- **a get or a put that takes a frame by which its peer has the content**
    pub by_hears : (made : Effect) (peer : ℕ) (f : FrameView) (m : Message) → partner t.w.what.peer t.w.phase ≡ Some peer → by_partner t (Some peer) ≡ Some made → made.taken ≡ Some f
        → line_in f.body ≡ Some m → SaysHas m → Hears peer f m made
    by_hears made peer f m on e taken is has = at (end_with t peer).opened e
      where
        awaiting : is_awaiting t.w.phase ≡ true
        awaiting = elim ((partner_found t made (Some peer) on e).frame) [
          | inl none ↦ absurd (let no_frame : None ≡ Some f = sym none ∙ taken in cc)
          | inr x ↦ x.awaits
        ]

        framed : (o : Option FrameView) → awaits t peer o ≡ Some made → Hears peer f m made
        framed None e = absurd (cc)
        framed (Some g) e = go (has_room t peer) e
          where
            go : (b : Bool) → (if b then Some (takes_frame t peer g g.body) else None) ≡ Some made → Hears peer f m made
            go true h =
                let same : takes_frame t peer g g.body ≡ made = cc in
                let both : Some g ≡ Some f = sym (frame_found t peer g on g.body refl).0 ∙ ap (λ (z : Effect). z.taken) same ∙ taken in
                let frame : g ≡ f = cc in
                subst (Hears peer f m) same (body_hears g peer m g.body (ap (λ (z : FrameView). line_in z.body) frame ∙ is) has)
            go false h = absurd (cc)

        at : (b : Bool) → with_partner t peer b ≡ Some made → Hears peer f m made
        at false h = absurd (let same : quietly (talk t) None ≡ made = cc in let none : None ≡ Some f = ap (λ (z : Effect). z.taken) same ∙ taken in cc)
        at true h = framed (waiting_frame (end_with t peer) t.look (job_end t.w peer))
            (subst (λ b. (if b then awaits t peer (waiting_frame (end_with t peer) t.look (job_end t.w peer)) else goes_on t) ≡ Some made) awaiting h)

    -- ---- it is to end

    ends_ending : (outcome : Outcome) → Ending (ends t None outcome)
    ends_ending outcome = attempts_even Ending t (to_release (owns_share t && not (is_lost_ordered outcome))) None
        (record { kind = ends_job t.w.number outcome; taken = None; sent = farewells t (is_lost_ordered outcome); lines = []; calls = [] })
        (λ call e. inr (by_me t, ap (λ c. Fault c (by_me t)) (release_is (owns_share t && not (is_lost_ordered outcome)) call e))) (inl (t.w.number, outcome, refl))

    end_ending : (phase : Phase) → is_end phase ≡ true → Ending (goes t phase)
    end_ending (Jobs.Ends outcome) is = ends_ending outcome
    end_ending phase is = absurd (cc)

    stuck_goes : Stuck t.w → (partner t.w.what.peer t.w.phase ≡ None) × Ending (goes t t.w.phase)
    stuck_goes (inl is) = (alone t.w.phase is, end_ending t.w.phase is)
      where
        alone : (phase : Phase) → is_end phase ≡ true → partner t.w.what.peer phase ≡ None
        alone (Jobs.Ends outcome) h = refl
        alone phase h = absurd (cc)
    stuck_goes (inr x) =
        let none : next_source t ≡ None = ap (λ o. slice_get (Rattle.node_model.specs.TransferStep.sources t o) (length t.w.causes)) x.2.1 ∙ x.2.2 in (
          ap (partner t.w.what.peer) x.1,
          subst (λ p. Ending (goes t p)) (sym x.1) (subst (λ p. Ending (next_step t p)) (sym x.0)
              (subst (λ o. Ending (next_get t o)) (sym none) (ends_ending (TransferRefused (failures.NoSource t.w.causes))))),
        )

    -- **a get or a put that is to end, or has nobody left to ask, ends**
    pub stuck_ends : (m : Effect) → Stuck t.w → by_partner t (partner t.w.what.peer t.w.phase) ≡ Some m → Ending m
    stuck_ends m stuck e = let x = stuck_goes stuck in go x.1 (list_all (has_room t) (needs t t.w.phase)) (ap (by_partner t) (sym x.0) ∙ e)
      where
        go : Ending (goes t t.w.phase) → (b : Bool) → (if b then Some (goes t t.w.phase) else None) ≡ Some m → Ending m
        go ending true g = let same : goes t t.w.phase ≡ m = cc in subst Ending same ending
        go ending false g = absurd (cc)
