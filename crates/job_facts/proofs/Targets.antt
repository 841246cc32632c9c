-- A remote drop that stands at its target: how it came there.
use Rattle.job_facts.proofs.WorkFits.{drop_is, drop_jobs, head_of}
use Rattle.job_facts.proofs.PhaseFacts.{only_word, readies_place}
use Rattle.job_facts.proofs.ReadAs.{SameHead}
use Rattle.node_model.specs.Found.{IsJobEntry}
use Rattle.node_model.specs.Look.{Effect}
use Rattle.node_model.specs.Ends.{end_after}
use Rattle.run_data.specs.declared.job.Outcome.{Outcome}
use Rattle.run_data.specs.declared.entry.EntryKind.TheVariants.{Gain, Share, Bar, Gone, Order, Talk, Fault, End as ends_job}
use Rattle.run_data.specs.declared.entry.Entry.{Entry}
use Rattle.run_data.specs.declared.entry.EntryKind.{EntryKind}
use Rattle.std.proofs.Common.{◌≡◌, ◌≢◌, ℕ, Bool, true, false, Option, Some, None, ◌⊎◌, inl, inr, refl, sym, ◌∙◌, subst, arith, ap, List, []}
use Rattle.std.specs.Prelude.{◌==◌, find, filter, not}
use Rattle.std.specs.List.{range_with_len}
use Rattle.std.proofs.lemmas.Bool.Decides.{nat_tests}
use Rattle.std.proofs.lemmas.Bool.{eqb-true}
use Rattle.annex_base.specs.Lists.{Member}
use Rattle.annex_base.specs.declared.kinds.Call.{Call}
use Rattle.annex_base.specs.declared.kinds.Call.TheVariants.{PutFile, Unhold}
use Rattle.annex_base.proofs.Conditions.{eqb_refl, if_either}
use Rattle.annex_base.proofs.Lists.{Member-filter_parts, find_member}
use Rattle.drop_proof.specs.declared.rule.Side.{Side}
use Rattle.drop_proof.specs.declared.rule.Side.TheVariants.{Remote}
use Rattle.run_data.specs.declared.entry.FrameView.{FrameView}
use Rattle.run_data.specs.declared.entry.FrameText.{FrameText}
use Rattle.run_data.specs.declared.entry.FrameText.TheVariants.{Bytes, Line, Opening, Closing}
use Rattle.run_data.specs.declared.job.Outcome.TheVariants as outcomes
use Rattle.run_data.specs.declared.job.DropRefusal.TheVariants as refusals
use Rattle.run_data.specs.declared.job.Cause.TheVariants as causes
use Rattle.node_model.specs.Evidence.{candidates}
use Rattle.p2p_wire.specs.declared.message.Message.{Message}
use Rattle.p2p_wire.specs.declared.message.Message.TheVariants.{Failure, GetTimestamp, Remove, RemoveBefore, Success, Version, CheckPresent, LockContent}
use Rattle.p2p_wire.specs.Messages.{message_of, order_of, text_of}
use Rattle.node_model.specs.Jobs
use Rattle.node_model.specs.Jobs.{AsksLock, AsksLook, AsksTime, Drops, Ends, Fresh, Gets, GetsBytes, GetsData, Greets, Next, Opens, Orders, Part, Phase, Puts, PutsAnswer, PutsBytes, PutsOffer, RowsAndEnds, Work, claims, closed_part, fault_of, fault_phase, first_look, hears_frame, job_end, learns, listens, quiet, says, says_some, sends, side_of, talks, talks_on, target_of, to_phase, after_frame, after_line, after_failed_release, work_kind}
use Rattle.node_model.specs.Knows.{enough_by, next_by, Reading, asks_by}
use Rattle.node_model.specs.JobStep.{Turn, me}
use Rattle.node_model.specs.DropStep.{target}
use Rattle.job_facts.proofs.TalkFacts.{Chosen, Fits, DropAsks, OrderStands, PartSays, SaysOne, TalkKind}
use Rattle.job_facts.proofs.HeardLists.{claims_heard, learns_heard}

-- the job stands on the connection with its target, or waits for what it asked there
abbrev pub at_target : ℕ → Phase → Bool
at_target t (Opens peer) = peer == t
at_target t (Greets peer) = peer == t
at_target t AsksTime = true
at_target t Orders = true
at_target t phase = false

not_self : (n : ℕ) → not (n == n) ≡ true → ⊥
not_self n e = grind (arith, nat_tests)

-- a remote drop asks its target for no copy
candidates_but : (n a t : ℕ) (q : ℕ → Bool) → t ≢ a → find q (candidates Remote n a t) ≡ Some t → ⊥
candidates_but n a t q apart e = go (find_member q (candidates Remote n a t) t e).0
  where
    go : Member t (candidates Remote n a t) → ⊥
    go (inl m) = apart m
    go (inr m) = not_self t (Member-filter_parts (λ x. not (x == t)) (filter (λ x. not (x == a)) (range_with_len 0 n)) t m).1

pub next_but : (r : Reading) (w : Work) → side_of w ≡ Remote → target_of r.repo w ≢ r.repo → next_by r w ≡ Some (target_of r.repo w) → ⊥
next_but r w side apart e =
    candidates_but r.count r.repo (target_of r.repo w) (asks_by r w) apart
    (subst (λ d. find (asks_by r w) (candidates d r.count r.repo (target_of r.repo w)) ≡ Some (target_of r.repo w)) side e)

chosen_enough : (t : Turn) → side_of t.w ≡ Remote → target t ≢ me t → Chosen t (target t) → enough_by t.read t.w ≡ true
chosen_enough t side apart (inl c) = absurd (next_but t.read t.w side apart c.1)
chosen_enough t side apart (inr c) = c.0

-- ---- what a step leaves as it was

-- x stands at the target n only where w, which heard the same, did, or where it is so
abbrev pub Comes : ℕ → Type 0 → Work → Work → Type 0
Comes n P w x = at_target n x.phase ≡ true → (x.heard ≡ w.heard) × ((at_target n w.phase ≡ true) ⊎ P)

module _ (n : ℕ) (P : Type 0) where
  stays : (w : Work) → Comes n P w w
  stays w at = (refl, inl at)

  -- to a phase that isn't at the target
  away : (w x : Work) → at_target n x.phase ≡ false → Comes n P w x
  away w x off at = absurd (let both : true ≡ false = sym at ∙ off in cc)

  moves : (w : Work) (phase : Phase) → (at_target n phase ≡ true → (at_target n w.phase ≡ true) ⊎ P) → Comes n P w (to_phase w phase)
  moves w phase f at = (refl, f at)

  same_phase : (w : Work) (phase : Phase) → w.phase ≡ phase → Comes n P w (to_phase w phase)
  same_phase w phase is at = (refl, inl (subst (λ p. at_target n p ≡ true) (sym is) at))

  listens_comes : (w : Work) (phase : Phase) (m : Message) → Fits Drops phase → Comes n P w (listens w phase m)
  listens_comes w (AsksLock peer since) Success f = away w (listens w (AsksLock peer since) Success) refl
  listens_comes w (AsksLook peer) Success f = away w (listens w (AsksLook peer) Success) refl
  listens_comes w (AsksLook peer) Failure f = away w (listens w (AsksLook peer) Failure) refl
  listens_comes w Orders Success f = away w (listens w Orders Success) refl
  listens_comes w Orders Failure f = away w (listens w Orders Failure) refl
  listens_comes w (Greets peer) (Version k) f = away w (listens w (Greets peer) (Version k)) refl
  listens_comes w (GetsData peer start) m f = absurd f
  listens_comes w (PutsOffer peer) m f = absurd f
  listens_comes w (PutsAnswer peer start) m f = absurd f
  listens_comes w phase m f = stays w

  line_comes : (w : Work) (m : Option Message) → Fits Drops w.phase → Comes n P w (after_line w m)
  line_comes w None f = stays w
  line_comes w (Some m) f = listens_comes w w.phase m f

  gets_comes : (w : Work) (k : ℕ) (phase : Phase) → w.phase ≡ phase → Fits Drops phase → Comes n P w (to_phase w (Jobs.gets_bytes k phase))
  gets_comes w k (GetsBytes peer start size left) is f = absurd f
  gets_comes w k phase is f = same_phase w phase is

  took_comes : (w : Work) (body : FrameText) → Fits Drops w.phase → Comes n P w (after_frame w body)
  took_comes w (Bytes k) f = gets_comes w k w.phase refl f
  took_comes w (Line text) f = line_comes w (message_of text) f
  took_comes w body f = stays w

  first_comes : (r : ℕ) (w : Work) (part : Part) (here : Bool) (bar : Option ℕ) → part ≡ Drops → Comes n P w (first_look r w part here bar)
  first_comes r w Gets here bar is = absurd (let no_part : Gets ≡ Drops = is in cc)
  first_comes r w Puts here bar is = absurd (let no_part : Puts ≡ Drops = is in cc)
  first_comes r w Drops here bar is = away w (first_look r w Drops here bar) refl

  quiet_comes : (rows : RowsAndEnds) (r : ℕ) (w : Work) (phase : Phase) → w.part ≡ Drops → Comes n P w (quiet rows r w phase)
  quiet_comes rows r w Fresh is = first_comes r w w.part (rows.present w.what.key) (rows.bar w.what.key) is
  quiet_comes rows r w Next is = away w (quiet rows r w Next) refl
  quiet_comes rows r w phase is = stays w

  hears_comes : (rows : RowsAndEnds) (r : ℕ) (w : Work) (taken : Option FrameView) → w.part ≡ Drops → Fits Drops w.phase → Comes n P w (hears_frame rows r w taken)
  hears_comes rows r w None is f = quiet_comes rows r w w.phase is
  hears_comes rows r w (Some g) is f = took_comes w g.body f

  closed_comes : (r : ℕ) (w : Work) (peer : ℕ) (part : Part) → part ≡ Drops → Comes n P w (closed_part r w peer part)
  closed_comes r w peer Gets is = absurd (let no_part : Gets ≡ Drops = is in cc)
  closed_comes r w peer Puts is = absurd (let no_part : Puts ≡ Drops = is in cc)
  closed_comes r w peer Drops is =
      if_either (Comes n P w) (target_of r w == peer) (to_phase w (Ends (outcomes.Refused (refusals.Lost (Jobs.is_ordered w.phase))))) (Jobs.hears w peer (Jobs.Lacks causes.Closed))
      (λ e. away w (to_phase w (Ends (outcomes.Refused (refusals.Lost (Jobs.is_ordered w.phase))))) refl) (λ e. away w (Jobs.hears w peer (Jobs.Lacks causes.Closed)) refl)

  puts_comes : (w : Work) (k : ℕ) (phase : Phase) → w.phase ≡ phase → Fits Drops phase → Comes n P w (to_phase w (Jobs.puts_bytes k phase))
  puts_comes w k (PutsBytes peer start at left) is f = absurd f
  puts_comes w k phase is f = same_phase w phase is

  fault_comes : (r : ℕ) (w : Work) (part : Part) (side : Side) (phase : Phase) → Comes n P w (fault_phase r w part side phase)
  fault_comes r w Drops Remote Fresh = away w (fault_phase r w Drops Remote Fresh) refl
  fault_comes r w part side phase = away w (to_phase w (Ends (Jobs.stores_fault w.part))) refl

  unreleased_comes : (w : Work) (time : ℕ) (phase : Phase) → Comes n P w (after_failed_release w time phase)
  unreleased_comes w time AsksTime = away w (after_failed_release w time AsksTime) refl
  unreleased_comes w time phase = stays w

  call_comes : (r : ℕ) (w : Work) (time : ℕ) (call : Call) → Comes n P w (fault_of r w time call)
  call_comes r w time PutFile = stays w
  call_comes r w time Unhold = unreleased_comes w time w.phase
  call_comes r w time call = fault_comes r w w.part (side_of w) w.phase

-- ---- a step of a remote drop

abbrev Knew : Turn → Type 0
Knew t = enough_by t.read t.w ≡ true

pub order_stands : (t : Turn) → side_of t.w ≡ Remote → target t ≢ me t → OrderStands t → (at_target (target t) t.w.phase ≡ true) ⊎ Knew t
order_stands t side apart (inl at) = inr (chosen_enough t side apart at.1)
order_stands t side apart (inr (inl at)) = inl (subst (λ p. at_target (target t) p ≡ true) (sym at) (eqb_refl (target t)))
order_stands t side apart (inr (inr at)) = inl (subst (λ p. at_target (target t) p ≡ true) (sym at) refl)

module _ (t : Turn) (side : side_of t.w ≡ Remote) (apart : target t ≢ me t) (w : Work) (same : w.phase ≡ t.w.phase) where
  says_comes : (time peer : ℕ) (taken : Option Message) (phase : Phase) (m x : Message) → w.phase ≡ phase → DropAsks t peer phase m → SameHead m x → Comes (target t) (Knew t) w (says w time peer taken x)
  says_comes time peer taken (Opens p) (Version k) (Version j) is a h =
      moves (target t) (Knew t) w (Greets peer)
      (λ at. inl (subst (λ q. at_target (target t) q ≡ true) (sym is) (subst (λ q. (q == target t) ≡ true) (sym a) at)))
  says_comes time peer taken (Greets p) (LockContent k) (LockContent q) is a h = away (target t) (Knew t) w (to_phase w (AsksLock peer time)) refl
  says_comes time peer taken (Greets p) GetTimestamp GetTimestamp is a h =
      moves (target t) (Knew t) w AsksTime
      (λ at. inl (subst (λ q. at_target (target t) q ≡ true) (sym is) (subst (λ q. (q == target t) ≡ true) (sym (a.0 ∙ a.1)) (eqb_refl (target t)))))
  says_comes time peer taken Next (LockContent k) (LockContent q) is a h = away (target t) (Knew t) w (to_phase w (AsksLock peer time)) refl
  says_comes time peer taken Next GetTimestamp GetTimestamp is a h =
      moves (target t) (Knew t) w AsksTime (λ at. inr (chosen_enough t side apart (subst (Chosen t) a.1 a.0)))
  says_comes time peer taken (AsksLock p since) (CheckPresent k) (CheckPresent q) is a h = away (target t) (Knew t) w (to_phase w (AsksLook peer)) refl
  says_comes time peer taken (Opens p) (Version k) x is a h = absurd h
  says_comes time peer taken (Greets p) (LockContent k) x is a h = absurd h
  says_comes time peer taken (Greets p) GetTimestamp x is a h = absurd h
  says_comes time peer taken Next (LockContent k) x is a h = absurd h
  says_comes time peer taken Next GetTimestamp x is a h = absurd h
  says_comes time peer taken (AsksLock p since) (CheckPresent k) x is a h = absurd h
  says_comes time peer taken phase m x is a h = absurd a

  some_comes : (time peer : ℕ) (taken : Option Message) (m : Message) (o : Option Message) → message_of (text_of m) ≡ o → DropAsks t peer t.w.phase m → Comes (target t) (Knew t) w (says_some w time peer taken o)
  some_comes time peer taken m None e a = stays (target t) (Knew t) w
  some_comes time peer taken m (Some x) e a = says_comes time peer taken t.w.phase m x same a (head_of m x (drop_jobs m (drop_is t peer t.w.phase m a)) e)

  talk_comes : (time peer : ℕ) (taken : Option Message) (body : FrameText) → Fits Drops w.phase → PartSays t peer Drops body → Comes (target t) (Knew t) w (sends w time peer taken body)
  talk_comes time peer taken Opening f a =
      moves (target t) (Knew t) w (Opens peer) (λ at. inr (chosen_enough t side apart (subst (Chosen t) (eqb-true peer (target t) at) a.1)))
  talk_comes time peer taken Closing f a = stays (target t) (Knew t) w
  talk_comes time peer taken (Bytes k) f a = puts_comes (target t) (Knew t) w k w.phase refl f
  talk_comes time peer taken (Line text) f a = some_comes time peer taken a.0 (message_of text) (ap message_of (sym a.1)) a.2

  order_moves : OrderStands t → at_target (target t) Orders ≡ true → (at_target (target t) w.phase ≡ true) ⊎ Knew t
  order_moves stands at = subst (λ p. (at_target (target t) p ≡ true) ⊎ Knew t) (sym same) (order_stands t side apart stands)

  order_some : (time peer : ℕ) (taken : Option Message) (deadline : Option ℕ) (key : List ℕ) (o : Option Message) → message_of (text_of (order_of deadline key)) ≡ o → OrderStands t
      → Comes (target t) (Knew t) w (says_some w time peer taken o)
  order_some time peer taken deadline key None e stands = stays (target t) (Knew t) w
  order_some time peer taken None key (Some x) e stands = go x (head_of (Remove key) x tt e)
    where
      go : (x : Message) → SameHead (Remove key) x → Comes (target t) (Knew t) w (says w time peer taken x)
      go (Remove k) h = moves (target t) (Knew t) w Orders (order_moves stands)
      go x h = absurd h
  order_some time peer taken (Some n) key (Some x) e stands = go x (head_of (RemoveBefore n key) x tt e)
    where
      go : (x : Message) → SameHead (RemoveBefore n key) x → Comes (target t) (Knew t) w (says w time peer taken x)
      go (RemoveBefore k q) h = moves (target t) (Knew t) w Orders (order_moves stands)
      go x h = absurd h

  -- what it sends, nothing or one frame
  sent_comes : (rows : RowsAndEnds) (r : ℕ) (e : Entry) (m : Effect) (sent : List FrameView) → t.w.part ≡ Drops → w.part ≡ Drops → Fits Drops w.phase → (sent ≡ []) ⊎ SaysOne t m.sent → sent ≡ m.sent
      → Comes (target t) (Knew t) w (talks rows r w e sent)
  sent_comes rows r e m sent part mine f (inl none) is =
      subst (λ fs. Comes (target t) (Knew t) w (talks rows r w e fs)) (sym none) (hears_comes (target t) (Knew t) rows r w e.taken mine f)
  sent_comes rows r e m sent part mine f (inr one) is =
      subst (λ fs. Comes (target t) (Knew t) w (talks rows r w e fs)) (sym (is ∙ one.sent_is))
      (talk_comes e.time one.peer (Jobs.taken_message e.taken) one.body f (subst (λ p. PartSays t one.peer p one.body) part one.says))

  on_comes : (rows : RowsAndEnds) (r : ℕ) (e : Entry) (p : Option ℕ) → w.part ≡ Drops → Comes (target t) (Knew t) w (talks rows r w e e.sent) → Comes (target t) (Knew t) w (talks_on rows r w e p)
  on_comes rows r e None part said = said
  on_comes rows r e (Some peer) part said =
      if_either (Comes (target t) (Knew t) w) (end_after (job_end w peer) (rows.ends (job_end w peer)) e).opened (talks rows r w e e.sent) (closed_part r w peer w.part)
      (λ h. said) (λ h. closed_comes (target t) (Knew t) r w peer w.part part)

-- what it learns and claims changes nothing that it heard
pub readies_heard : (w : Work) (taken : Option FrameView) → (learns (claims w w.part w.phase) w.phase taken).heard ≡ w.heard
readies_heard w taken = learns_heard (claims w w.part w.phase) w.phase taken ∙ claims_heard w w.part w.phase

readied_comes : (n : ℕ) (P : Type 0) (w x y : Work) → x.phase ≡ w.phase → x.heard ≡ w.heard → Comes n P x y → Comes n P w y
readied_comes n P w x y phase heard c at = let z = c at in (z.0 ∙ heard, subst (λ p. (at_target n p ≡ true) ⊎ P) phase z.1)

pub kind_comes : (t : Turn) (m : Effect) (rows : RowsAndEnds) (r : ℕ) (e : Entry) (kind : EntryKind) → IsJobEntry t m kind → TalkKind t m kind → Fits t.w.part t.w.phase → t.w.part ≡ Drops → side_of t.w ≡ Remote
    → target t ≢ me t → e.sent ≡ m.sent → ((j : ℕ) (outcome : Outcome) → kind ≢ ends_job j outcome) → Comes (target t) (Knew t) t.w (work_kind rows r t.w e kind)
kind_comes t m rows r e (Share hold end by key) x y fits part side apart sent goes_on = away (target t) (Knew t) t.w (work_kind rows r t.w e (Share hold end by key)) refl
kind_comes t m rows r e (Bar j need key) x y fits part side apart sent goes_on = away (target t) (Knew t) t.w (work_kind rows r t.w e (Bar j need key)) refl
kind_comes t m rows r e (Gone by key) x y fits part side apart sent goes_on = away (target t) (Knew t) t.w (work_kind rows r t.w e (Gone by key)) refl
kind_comes t m rows r e (Order j peer deadline need key) x y fits part side apart sent goes_on =
    let w = learns (claims t.w t.w.part t.w.phase) t.w.phase e.taken in
    let place = readies_place t.w e.taken in
    let said : Comes (target t) (Knew t) w (talks rows r w e e.sent) =
    subst (λ fs. Comes (target t) (Knew t) w (talks rows r w e fs)) (sym (sent ∙ x.sent_is))
    (order_some t side apart w place.1 e.time peer (Jobs.taken_message e.taken) deadline key (message_of (text_of (order_of deadline key))) refl y) in
    readied_comes (target t) (Knew t) t.w w (work_kind rows r t.w e (Order j peer deadline need key)) place.1 (readies_heard t.w e.taken)
    (on_comes t side apart w place.1 rows r e (Jobs.partner t.w.what.peer t.w.phase) (place.0 ∙ part) said)
kind_comes t m rows r e (Gain by size key) x y fits part side apart sent goes_on =
    let gets : t.w.part ≡ Gets = only_word t.w.part x.peer x.start size (subst (Fits t.w.part) x.phase_is fits) in
    absurd (let no_part : Gets ≡ Drops = sym gets ∙ part in cc)
kind_comes t m rows r e (ends_job j outcome) x y fits part side apart sent goes_on = absurd (goes_on j outcome refl)
kind_comes t m rows r e (Talk (Some j)) x y fits part side apart sent goes_on =
    let w = learns (claims t.w t.w.part t.w.phase) t.w.phase e.taken in
    let place = readies_place t.w e.taken in
    let f : Fits Drops w.phase = subst (Fits Drops) (sym place.1) (subst (λ p. Fits p t.w.phase) part fits) in
    let said : Comes (target t) (Knew t) w (talks rows r w e e.sent) = sent_comes t side apart w place.1 rows r e m e.sent part (place.0 ∙ part) f (says y.says) sent in
    readied_comes (target t) (Knew t) t.w w (work_kind rows r t.w e (Talk (Some j))) place.1 (readies_heard t.w e.taken)
    (on_comes t side apart w place.1 rows r e (Jobs.partner t.w.what.peer t.w.phase) (place.0 ∙ part) said)
  where
    says : (m.sent ≡ []) ⊎ SaysOne t m.sent → (e.sent ≡ []) ⊎ SaysOne t m.sent
    says (inl none) = inl (sent ∙ none)
    says (inr one) = inr one
kind_comes t m rows r e (Fault call by) x y fits part side apart sent goes_on = call_comes (target t) (Knew t) r t.w e.time call
kind_comes t m rows r e kind x y fits part side apart sent goes_on = absurd x
