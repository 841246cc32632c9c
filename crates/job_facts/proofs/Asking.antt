-- Where a drop stands on a connection it came by its own choice, and its list is as it was then: so it asks each candidate for its copy
-- once.
use Rattle.std.proofs.Common.{◌≡◌, ◌≢◌, ℕ, Bool, true, false, List, [], ◌∷◌, Option, Some, None, ◌⊎◌, inl, inr, refl, sym, ap, ◌∙◌, subst}
use Rattle.std.specs.Prelude.{◌==◌}
use Rattle.annex_base.specs.declared.kinds.Call.{Call}
use Rattle.annex_base.specs.declared.kinds.Call.TheVariants.{PutFile, Unhold}
use Rattle.annex_base.proofs.Conditions.{if_either}
use Rattle.drop_proof.specs.declared.rule.Side.{Side}
use Rattle.drop_proof.specs.declared.rule.Side.TheVariants.{Remote}
use Rattle.run_data.specs.declared.entry.Entry.{Entry}
use Rattle.run_data.specs.declared.entry.EntryKind.{EntryKind}
use Rattle.run_data.specs.declared.entry.EntryKind.TheVariants.{Gain, Share, Bar, Gone, Order, Talk, Fault, End as ends_job}
use Rattle.run_data.specs.declared.entry.FrameView.{FrameView}
use Rattle.run_data.specs.declared.entry.FrameText.{FrameText}
use Rattle.run_data.specs.declared.entry.FrameText.TheVariants.{Opening, Closing, Bytes, Line}
use Rattle.run_data.specs.declared.job.Outcome.{Outcome}
use Rattle.run_data.specs.declared.job.Outcome.TheVariants as outcomes
use Rattle.run_data.specs.declared.job.DropRefusal.TheVariants as refusals
use Rattle.run_data.specs.declared.job.Cause.TheVariants as causes
use Rattle.p2p_wire.specs.declared.message.Message.{Message}
use Rattle.p2p_wire.specs.declared.message.Message.TheVariants.{CheckPresent, Failure, GetTimestamp, LockContent, Remove, RemoveBefore, Success, Version}
use Rattle.p2p_wire.specs.Messages.{message_of, text_of, order_of}
use Rattle.node_model.specs.Ends.{end_after, frames}
use Rattle.node_model.specs.Jobs
use Rattle.node_model.specs.Jobs.{AsksLock, AsksLook, AsksTime, Drops, Fresh, Gets, GetsBytes, GetsData, Greets, Next, Opens, Orders, Part, Phase, Puts, PutsAnswer, PutsBytes, PutsOffer, RowsAndEnds, Work, claims, closed_part, fault_of, fault_phase, first_look, hears_frame, job_end, learns, listens, quiet, says, says_some, sends, side_of, talks, talks_on, target_of, to_phase, after_frame, after_line, after_failed_release, work_kind}
use Rattle.node_model.specs.Look.{Effect}
use Rattle.node_model.specs.JobStep.{Turn, end_with}
use Rattle.node_model.specs.Found.{IsJobEntry}
use Rattle.job_facts.proofs.ReadAs.{SameHead}
use Rattle.job_facts.proofs.TalkFacts.{Apart, Chosen, Fits, DropAsks, PartSays, SaysOne, TalkKind}
use Rattle.job_facts.proofs.PhaseFacts.{only_word, readies_place}
use Rattle.job_facts.proofs.WorkFits.{drop_is, drop_jobs, head_of}
use Rattle.job_facts.proofs.Targets.{readies_heard}

-- the drop stands on a connection
abbrev pub is_on_one : Phase → Bool
is_on_one (Opens peer) = true
is_on_one (Greets peer) = true
is_on_one (AsksLock peer since) = true
is_on_one (AsksLook peer) = true
is_on_one AsksTime = true
is_on_one Orders = true
is_on_one phase = false

-- whence a step comes to this phase: it was there, or it has chosen the peer at Next, or it goes on there; a lock is asked of no target of
-- a remote drop, and all else of that alone
abbrev pub Came : Turn → Entry → Phase → Type 0
Came t e (Opens p) = (t.w.phase ≡ Opens p) ⊎ ((t.w.phase ≡ Next) × Chosen t p × (e.sent ≡ frames (job_end t.w p) (end_with t p) (Opening ∷ [])))
Came t e (Greets p) = (t.w.phase ≡ Greets p) ⊎ (t.w.phase ≡ Opens p)
Came t e (AsksLock p since) = (t.w.phase ≡ AsksLock p since) ⊎ (((t.w.phase ≡ Greets p) ⊎ ((t.w.phase ≡ Next) × Chosen t p × ((end_with t p).opened ≡ true))) × Apart t p)
Came t e (AsksLook p) = (t.w.phase ≡ AsksLook p) ⊎ ((since : ℕ) × (t.w.phase ≡ AsksLock p since))
Came t e AsksTime = (t.w.phase ≡ AsksTime) ⊎ (side_of t.w ≡ Remote)
Came t e Orders = (t.w.phase ≡ Orders) ⊎ (side_of t.w ≡ Remote)
Came t e phase = Unit {0}

module _ (t : Turn) (e : Entry) where
  was_there : (phase : Phase) → t.w.phase ≡ phase → Came t e phase
  was_there (Opens p) is = inl is
  was_there (Greets p) is = inl is
  was_there (AsksLock p since) is = inl is
  was_there (AsksLook p) is = inl is
  was_there AsksTime is = inl is
  was_there Orders is = inl is
  was_there phase is = tt

  abbrev pub Comes : Work → Work → Type 0
  Comes w x = is_on_one x.phase ≡ true → (x.heard ≡ w.heard) × Came t e x.phase

  away : (w x : Work) → is_on_one x.phase ≡ false → Comes w x
  away w x off at = absurd (let both : true ≡ false = sym at ∙ off in cc)

  moves : (w : Work) (phase : Phase) → (is_on_one phase ≡ true → Came t e phase) → Comes w (to_phase w phase)
  moves w phase f at = (refl, f at)

  module _ (w : Work) (same : w.phase ≡ t.w.phase) where
    stays : Comes w w
    stays at = (refl, was_there w.phase (sym same))

    same_phase : (phase : Phase) → w.phase ≡ phase → Comes w (to_phase w phase)
    same_phase phase is at = (refl, was_there phase (sym same ∙ is))

    listens_comes : (phase : Phase) (m : Message) → Fits Drops phase → Comes w (listens w phase m)
    listens_comes (AsksLock peer since) Success f = away w (listens w (AsksLock peer since) Success) refl
    listens_comes (AsksLook peer) Success f = away w (listens w (AsksLook peer) Success) refl
    listens_comes (AsksLook peer) Failure f = away w (listens w (AsksLook peer) Failure) refl
    listens_comes Orders Success f = away w (listens w Orders Success) refl
    listens_comes Orders Failure f = away w (listens w Orders Failure) refl
    listens_comes (Greets peer) (Version k) f = away w (listens w (Greets peer) (Version k)) refl
    listens_comes (GetsData peer start) m f = absurd f
    listens_comes (PutsOffer peer) m f = absurd f
    listens_comes (PutsAnswer peer start) m f = absurd f
    listens_comes phase m f = stays

    line_comes : (m : Option Message) → Fits Drops w.phase → Comes w (after_line w m)
    line_comes None f = stays
    line_comes (Some m) f = listens_comes w.phase m f

    gets_comes : (k : ℕ) (phase : Phase) → w.phase ≡ phase → Fits Drops phase → Comes w (to_phase w (Jobs.gets_bytes k phase))
    gets_comes k (GetsBytes peer start size left) is f = absurd f
    gets_comes k phase is f = same_phase phase is

    took_comes : (body : FrameText) → Fits Drops w.phase → Comes w (after_frame w body)
    took_comes (Bytes k) f = gets_comes k w.phase refl f
    took_comes (Line text) f = line_comes (message_of text) f
    took_comes body f = stays

    first_comes : (r : ℕ) (part : Part) (here : Bool) (bar : Option ℕ) → part ≡ Drops → Comes w (first_look r w part here bar)
    first_comes r Gets here bar is = absurd (let no_part : Gets ≡ Drops = is in cc)
    first_comes r Puts here bar is = absurd (let no_part : Puts ≡ Drops = is in cc)
    first_comes r Drops here bar is = away w (first_look r w Drops here bar) refl

    quiet_comes : (rows : RowsAndEnds) (r : ℕ) (phase : Phase) → w.part ≡ Drops → Comes w (quiet rows r w phase)
    quiet_comes rows r Fresh is = first_comes r w.part (rows.present w.what.key) (rows.bar w.what.key) is
    quiet_comes rows r Next is = away w (quiet rows r w Next) refl
    quiet_comes rows r phase is = stays

    hears_comes : (rows : RowsAndEnds) (r : ℕ) (taken : Option FrameView) → w.part ≡ Drops → Fits Drops w.phase → Comes w (hears_frame rows r w taken)
    hears_comes rows r None is f = quiet_comes rows r w.phase is
    hears_comes rows r (Some g) is f = took_comes g.body f

    closed_comes : (r : ℕ) (peer : ℕ) (part : Part) → part ≡ Drops → Comes w (closed_part r w peer part)
    closed_comes r peer Gets is = absurd (let no_part : Gets ≡ Drops = is in cc)
    closed_comes r peer Puts is = absurd (let no_part : Puts ≡ Drops = is in cc)
    closed_comes r peer Drops is =
        if_either (Comes w) (target_of r w == peer) (to_phase w (Jobs.Ends (outcomes.Refused (refusals.Lost (Jobs.is_ordered w.phase))))) (Jobs.hears w peer (Jobs.Lacks causes.Closed))
        (λ h. away w (to_phase w (Jobs.Ends (outcomes.Refused (refusals.Lost (Jobs.is_ordered w.phase))))) refl) (λ h. away w (Jobs.hears w peer (Jobs.Lacks causes.Closed)) refl)

    puts_comes : (k : ℕ) (phase : Phase) → w.phase ≡ phase → Fits Drops phase → Comes w (to_phase w (Jobs.puts_bytes k phase))
    puts_comes k (PutsBytes peer start at left) is f = absurd f
    puts_comes k phase is f = same_phase phase is

    -- ---- what it says

    says_comes : (time peer : ℕ) (taken : Option Message) (phase : Phase) (m x : Message) → t.w.phase ≡ phase → DropAsks t peer phase m → SameHead m x → Comes w (says w time peer taken x)
    says_comes time peer taken (Opens p) (Version k) (Version j) is a h = moves w (Greets peer) (λ at. inr (is ∙ ap Opens a))
    says_comes time peer taken (Greets p) (LockContent k) (LockContent q) is a h = moves w (AsksLock peer time) (λ at. inr (inl (is ∙ ap Greets a.0), a.2))
    says_comes time peer taken (Greets p) GetTimestamp GetTimestamp is a h = moves w AsksTime (λ at. inr a.2)
    says_comes time peer taken Next (LockContent k) (LockContent q) is a h = moves w (AsksLock peer time) (λ at. inr (inr (is, a.1, a.3), a.2))
    says_comes time peer taken Next GetTimestamp GetTimestamp is a h = moves w AsksTime (λ at. inr a.2)
    says_comes time peer taken (AsksLock p since) (CheckPresent k) (CheckPresent q) is a h = moves w (AsksLook peer) (λ at. inr (since, is ∙ ap (λ n. AsksLock n since) a.0))
    says_comes time peer taken (Opens p) (Version k) x is a h = absurd h
    says_comes time peer taken (Greets p) (LockContent k) x is a h = absurd h
    says_comes time peer taken (Greets p) GetTimestamp x is a h = absurd h
    says_comes time peer taken Next (LockContent k) x is a h = absurd h
    says_comes time peer taken Next GetTimestamp x is a h = absurd h
    says_comes time peer taken (AsksLock p since) (CheckPresent k) x is a h = absurd h
    says_comes time peer taken phase m x is a h = absurd a

    some_comes : (time peer : ℕ) (taken : Option Message) (m : Message) (o : Option Message) → message_of (text_of m) ≡ o → DropAsks t peer t.w.phase m → Comes w (says_some w time peer taken o)
    some_comes time peer taken m None back a = stays
    some_comes time peer taken m (Some x) back a = says_comes time peer taken t.w.phase m x refl a (head_of m x (drop_jobs m (drop_is t peer t.w.phase m a)) back)

    talk_comes : (time peer : ℕ) (taken : Option Message) (body : FrameText) → Fits Drops w.phase → PartSays t peer Drops body
        → e.sent ≡ frames (job_end t.w peer) (end_with t peer) (body ∷ []) → Comes w (sends w time peer taken body)
    talk_comes time peer taken Opening f a sent = moves w (Opens peer) (λ at. inr (a.0, a.1, sent))
    talk_comes time peer taken Closing f a sent = stays
    talk_comes time peer taken (Bytes k) f a sent = puts_comes k w.phase refl f
    talk_comes time peer taken (Line text) f a sent = some_comes time peer taken a.0 (message_of text) (ap message_of (sym a.1)) a.2

    order_some : (time peer : ℕ) (taken : Option Message) (deadline : Option ℕ) (key : List ℕ) (o : Option Message) → message_of (text_of (order_of deadline key)) ≡ o → side_of t.w ≡ Remote
        → Comes w (says_some w time peer taken o)
    order_some time peer taken deadline key None back side = stays
    order_some time peer taken None key (Some x) back side = go x (head_of (Remove key) x tt back)
      where
        go : (x : Message) → SameHead (Remove key) x → Comes w (says w time peer taken x)
        go (Remove k) h = moves w Orders (λ at. inr side)
        go x h = absurd h
    order_some time peer taken (Some n) key (Some x) back side = go x (head_of (RemoveBefore n key) x tt back)
      where
        go : (x : Message) → SameHead (RemoveBefore n key) x → Comes w (says w time peer taken x)
        go (RemoveBefore k q) h = moves w Orders (λ at. inr side)
        go x h = absurd h

    -- what it sends, nothing or one frame
    sent_comes : (rows : RowsAndEnds) (r : ℕ) (m : Effect) (sent : List FrameView) → t.w.part ≡ Drops → w.part ≡ Drops → Fits Drops w.phase → (sent ≡ []) ⊎ SaysOne t m.sent → sent ≡ m.sent → e.sent ≡ sent
        → Comes w (talks rows r w e sent)
    sent_comes rows r m sent part mine f (inl none) is all = subst (λ fs. Comes w (talks rows r w e fs)) (sym none) (hears_comes rows r e.taken mine f)
    sent_comes rows r m sent part mine f (inr one) is all =
        subst (λ fs. Comes w (talks rows r w e fs)) (sym (is ∙ one.sent_is))
        (talk_comes e.time one.peer (Jobs.taken_message e.taken) one.body f (subst (λ p. PartSays t one.peer p one.body) part one.says) (all ∙ is ∙ one.sent_is))

    on_comes : (rows : RowsAndEnds) (r : ℕ) (p : Option ℕ) → w.part ≡ Drops → Comes w (talks rows r w e e.sent) → Comes w (talks_on rows r w e p)
    on_comes rows r None part said = said
    on_comes rows r (Some peer) part said =
        if_either (Comes w) (end_after (job_end w peer) (rows.ends (job_end w peer)) e).opened (talks rows r w e e.sent) (closed_part r w peer w.part)
        (λ h. said) (λ h. closed_comes r peer w.part part)

  fault_comes : (r : ℕ) (w : Work) (part : Part) (side : Side) (phase : Phase) → Comes w (fault_phase r w part side phase)
  fault_comes r w Drops Remote Fresh = away w (fault_phase r w Drops Remote Fresh) refl
  fault_comes r w part side phase = away w (to_phase w (Jobs.Ends (Jobs.stores_fault w.part))) refl

  unreleased_comes : (w : Work) (time : ℕ) (phase : Phase) → w.phase ≡ t.w.phase → Comes w (after_failed_release w time phase)
  unreleased_comes w time AsksTime same = away w (after_failed_release w time AsksTime) refl
  unreleased_comes w time phase same = stays w same

  call_comes : (r : ℕ) (w : Work) (time : ℕ) (call : Call) → w.phase ≡ t.w.phase → Comes w (fault_of r w time call)
  call_comes r w time PutFile same = stays w same
  call_comes r w time Unhold same = unreleased_comes w time w.phase same
  call_comes r w time call same = fault_comes r w w.part (side_of w) w.phase

  readied_comes : (w x y : Work) → x.heard ≡ w.heard → Comes x y → Comes w y
  readied_comes w x y heard c at = let z = c at in (z.0 ∙ heard, z.1)

  -- **whence a drop's own entry brings it to a connection**
  pub kind_came : (m : Effect) (rows : RowsAndEnds) (r : ℕ) (kind : EntryKind) → IsJobEntry t m kind → TalkKind t m kind → Fits t.w.part t.w.phase → t.w.part ≡ Drops → e.sent ≡ m.sent
      → ((j : ℕ) (outcome : Outcome) → kind ≢ ends_job j outcome) → Comes t.w (work_kind rows r t.w e kind)
  kind_came m rows r (Share hold end by key) x y fits part sent goes_on = away t.w (work_kind rows r t.w e (Share hold end by key)) refl
  kind_came m rows r (Bar j need key) x y fits part sent goes_on = away t.w (work_kind rows r t.w e (Bar j need key)) refl
  kind_came m rows r (Gone by key) x y fits part sent goes_on = away t.w (work_kind rows r t.w e (Gone by key)) refl
  kind_came m rows r (Order j peer deadline need key) x y fits part sent goes_on =
      let w = learns (claims t.w t.w.part t.w.phase) t.w.phase e.taken in
      let place = readies_place t.w e.taken in
      let said : Comes w (talks rows r w e e.sent) = subst (λ fs. Comes w (talks rows r w e fs)) (sym (sent ∙ x.sent_is))
      (order_some w place.1 e.time peer (Jobs.taken_message e.taken) deadline key (message_of (text_of (order_of deadline key))) refl x.side) in
      readied_comes t.w w (work_kind rows r t.w e (Order j peer deadline need key)) (readies_heard t.w e.taken) (on_comes w place.1 rows r (Jobs.partner t.w.what.peer t.w.phase) (place.0 ∙ part) said)
  kind_came m rows r (Gain by size key) x y fits part sent goes_on =
      let gets : t.w.part ≡ Gets = only_word t.w.part x.peer x.start size (subst (Fits t.w.part) x.phase_is fits) in
      absurd (let no_part : Gets ≡ Drops = sym gets ∙ part in cc)
  kind_came m rows r (ends_job j outcome) x y fits part sent goes_on = absurd (goes_on j outcome refl)
  kind_came m rows r (Talk (Some j)) x y fits part sent goes_on =
      let w = learns (claims t.w t.w.part t.w.phase) t.w.phase e.taken in
      let place = readies_place t.w e.taken in
      let f : Fits Drops w.phase = subst (Fits Drops) (sym place.1) (subst (λ p. Fits p t.w.phase) part fits) in
      let said : Comes w (talks rows r w e e.sent) = sent_comes w place.1 rows r m e.sent part (place.0 ∙ part) f (says y.says) sent refl in
      readied_comes t.w w (work_kind rows r t.w e (Talk (Some j))) (readies_heard t.w e.taken) (on_comes w place.1 rows r (Jobs.partner t.w.what.peer t.w.phase) (place.0 ∙ part) said)
    where
      says : (m.sent ≡ []) ⊎ SaysOne t m.sent → (e.sent ≡ []) ⊎ SaysOne t m.sent
      says (inl none) = inl (sent ∙ none)
      says (inr one) = inr one
  kind_came m rows r (Fault call by) x y fits part sent goes_on = call_comes r t.w e.time call refl
  kind_came m rows r kind x y fits part sent goes_on = absurd x
