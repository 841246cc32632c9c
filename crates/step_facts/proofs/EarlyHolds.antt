-- A job heard of locks that it asked for within the bounds of time: so a deadline is a number of the wire.
use Rattle.node_model.specs.Clocks.{hold_time}
use Rattle.std.proofs.Common.{◌≡◌, ℕ, ◌+◌, ◌-◌, ◌/◌, ◌<◌, ◌≤◌, ◌^◌, Bool, true, false, List, [], ◌∷◌, ◌++◌, Option, Some, None, refl, subst, arith}
use Rattle.std.specs.Prelude.{if◌then◌else◌, ◌==◌, fold, filter, find, map, min, not, option_map}
use Rattle.std.specs.List.{reduce}
use Rattle.annex_base.specs.Lists.{Each, Member}
use Rattle.annex_base.specs.declared.kinds.Call.{Call}
use Rattle.annex_base.specs.declared.kinds.Call.TheVariants.{Unhold, PutFile}
use Rattle.annex_base.proofs.Lists.{Each-member, Each-push}
use Rattle.annex_base.proofs.Conditions.{if_either}
use Rattle.step_facts.proofs.Below.{SentAreRead}
use Rattle.drop_proof.specs.declared.evidence.Evidence.{Evidence}
use Rattle.drop_proof.specs.declared.evidence.Kind.{Kind}
use Rattle.drop_proof.specs.declared.evidence.Kind.TheVariants.{Locked, Trusted, Recent}
use Rattle.drop_proof.specs.declared.rule.Need.{Need}
use Rattle.drop_proof.specs.declared.rule.Side.{Side}
use Rattle.drop_proof.specs.declared.rule.Side.TheVariants.{Remote}
use Rattle.drop_proof.specs.Judging.{ends, is_enough, least_end}
use Rattle.run_data.specs.declared.entry.Entry.{Entry}
use Rattle.run_data.specs.declared.entry.EntryKind.{EntryKind}
use Rattle.run_data.specs.declared.entry.EntryKind.TheVariants.{Begin, Gain, Share, Bar, Gone, Crash, Fault, End as ends_job}
use Rattle.run_data.specs.declared.entry.FrameView.{FrameView}
use Rattle.run_data.specs.declared.entry.FrameText.{FrameText}
use Rattle.run_data.specs.declared.entry.FrameText.TheVariants.{Opening, Closing, Bytes, Line}
use Rattle.run_data.specs.declared.job.Outcome.{Outcome}
use Rattle.run_data.specs.declared.job.Outcome.TheVariants as outcomes
use Rattle.run_data.specs.declared.job.DropRefusal.TheVariants as refusals
use Rattle.run_data.specs.declared.job.Cause.TheVariants as causes
use Rattle.run_model.specs.Past.{Always, is_of}
use Rattle.node_model.specs.Rows.{option_is}
use Rattle.node_model.specs.Slots.{job_of}
use Rattle.p2p_wire.specs.declared.message.Message.{Message}
use Rattle.p2p_wire.specs.declared.message.Message.TheVariants.{Version, LockContent, CheckPresent, GetTimestamp, Remove, RemoveBefore, Get, Put, PutFrom, AlreadyHave, Data, Valid, Success, Failure, Error}
use Rattle.p2p_wire.specs.Messages.{message_of, text_of}
use Rattle.node_model.specs.Evidence.{Offer, Gives, Fails, Standing, Claimed, Ignored, Asked, gather, pick, reached_candidates}
use Rattle.node_model.specs.SetUp.{SetUp}
use Rattle.node_model.specs.Sessions.{line_in}
use Rattle.node_model.specs.Ends.{end_after}
use Rattle.node_model.specs.Jobs
use Rattle.node_model.specs.Jobs.{AsksLock, AsksLook, Drops, Fresh, GetsBytes, GetsData, GetsWord, Gets, Greets, Heard, Held, Next, Orders, Part, Phase, Puts, PutsAnswer, PutsBytes, PutsOffer, PutsWord, RowsAndEnds, Work, claims, closed_part, fault_of, fault_phase, first_look, after_gain, gets_bytes, gets_more, heard_of, hears, hears_frame, job_end, learns, listens, put_from, puts_answer, puts_bytes, puts_more, quiet, says, says_some, sends, talks, talks_on, target_of, to_phase, unshared_cause, after_frame, after_line, after_transfer, after_failed_release, word_taken, work_after, work_kind, works_after}
use Rattle.run_model.specs.States.{rows_at, works, state_of}
use Rattle.step_facts.proofs.Knowing.{candidates_of, is_to_ask, known, knows}
use Rattle.node_model.specs.Knows.{heard_offer, need_of, offer_by, standing_of}
use Rattle.run_model.specs.Run.{IsBounded, OwnPast}
use Rattle.step_facts.proofs.Spoken.{before_read, clock_small}

-- ---- a job, with a bound of time

abbrev pub PhaseEarly : ℕ → Phase → Type 0
PhaseEarly b (AsksLock peer since) = since ≤ b
PhaseEarly b phase = Unit {0}

abbrev pub HeardEarly : ℕ → Heard → Type 0
HeardEarly b (Held since) = since ≤ b
HeardEarly b x = Unit {0}

pub record Early (b : ℕ) (w : Work) : Type 0 where
  pub phase : PhaseEarly b w.phase
  pub heard : Each (λ x. HeardEarly b x.1) w.heard

module _ (b : ℕ) where
  to_early : (w : Work) (p : Phase) → Early b w → PhaseEarly b p → Early b (to_phase w p)
  to_early w p a h = record { phase = h; heard = a.heard }

  heard_early : (w : Work) (peer : ℕ) (x : Heard) → Early b w → HeardEarly b x → Early b (hears w peer x)
  heard_early w peer x a h = record { phase = tt; heard = (h, a.heard) }

  transferred_early : (w : Work) (o : Outcome) → Early b w → Early b (after_transfer w o)
  transferred_early w o a = if_either (Early b) (Jobs.is_move w.what.kind) (record w { part = Drops; phase = Fresh; fills = false }) (record w { phase = Jobs.Ends o; fills = false })
      (λ e. record { phase = tt; heard = a.heard }) (λ e. record { phase = tt; heard = a.heard })

  closed_early : (r : ℕ) (w : Work) (peer : ℕ) (part : Part) → Early b w → Early b (closed_part r w peer part)
  closed_early r w peer Gets a = record { phase = tt; heard = a.heard }
  closed_early r w peer Puts a = record { phase = tt; heard = a.heard }
  closed_early r w peer Drops a =
      if_either (Early b) (target_of r w == peer) (to_phase w (Jobs.Ends (outcomes.Refused (refusals.Lost (Jobs.is_ordered w.phase))))) (hears w peer (Jobs.Lacks causes.Closed))
      (λ e. record { phase = tt; heard = a.heard }) (λ e. heard_early w peer (Jobs.Lacks causes.Closed) a tt)

  gets_early : (peer start size left : ℕ) → PhaseEarly b (gets_more peer start size left)
  gets_early peer start size left = if_either (PhaseEarly b) (left == 0) (GetsWord peer start size) (GetsBytes peer start size left) (λ e. tt) (λ e. tt)

  puts_early : (peer start at left : ℕ) → PhaseEarly b (puts_more peer start at left)
  puts_early peer start at left = if_either (PhaseEarly b) (left == 0) (PutsWord peer start) (PutsBytes peer start at left) (λ e. tt) (λ e. tt)

  word_early : (w : Work) (word : Option Message) (phase : Phase) → Early b w → Early b (word_taken w word phase)
  word_early w word (GetsWord peer start size) a = record { phase = tt; heard = a.heard }
  word_early w word phase a = a

  from_early : (peer left : ℕ) (taken : Option Message) → PhaseEarly b (put_from peer left taken)
  from_early peer left (Some (PutFrom start)) = puts_early peer start start left
  from_early peer left taken = tt

  answer_early : (phase : Phase) → PhaseEarly b phase → PhaseEarly b (puts_answer phase)
  answer_early (PutsWord peer start) h = tt
  answer_early phase h = h

  says_early : (w : Work) (time peer : ℕ) (taken : Option Message) (m : Message) → time ≤ b → Early b w → Early b (says w time peer taken m)
  says_early w time peer taken (Version n) t a = to_early w (Greets peer) a tt
  says_early w time peer taken (Get n file key) t a = to_early w (GetsData peer n) a tt
  says_early w time peer taken (Put file key) t a = to_early w (PutsOffer peer) a tt
  says_early w time peer taken (Data n) t a = to_early w (put_from peer n taken) a (from_early peer n taken)
  says_early w time peer taken Valid t a = to_early w (puts_answer w.phase) a (answer_early w.phase a.phase)
  says_early w time peer taken (LockContent key) t a = to_early w (AsksLock peer time) a t
  says_early w time peer taken (CheckPresent key) t a = to_early w (AsksLook peer) a tt
  says_early w time peer taken GetTimestamp t a = to_early w Jobs.AsksTime a tt
  says_early w time peer taken (Remove key) t a = to_early w Orders a tt
  says_early w time peer taken (RemoveBefore n key) t a = to_early w Orders a tt
  says_early w time peer taken Failure t a = word_early w taken w.phase a
  says_early w time peer taken m t a = a

  says_some_early : (w : Work) (time peer : ℕ) (taken m : Option Message) → time ≤ b → Early b w → Early b (says_some w time peer taken m)
  says_some_early w time peer taken None t a = a
  says_some_early w time peer taken (Some m) t a = says_early w time peer taken m t a

  bytes_put_early : (n : ℕ) (phase : Phase) → PhaseEarly b phase → PhaseEarly b (puts_bytes n phase)
  bytes_put_early n (PutsBytes peer start at left) h = puts_early peer start (at + n) (left - n)
  bytes_put_early n phase h = h

  sends_early : (w : Work) (time peer : ℕ) (taken : Option Message) (body : FrameText) → time ≤ b → Early b w → Early b (sends w time peer taken body)
  sends_early w time peer taken Opening t a = to_early w (Jobs.Opens peer) a tt
  sends_early w time peer taken Closing t a = a
  sends_early w time peer taken (Bytes n) t a = to_early w (puts_bytes n w.phase) a (bytes_put_early n w.phase a.phase)
  sends_early w time peer taken (Line text) t a = says_some_early w time peer taken (message_of text) t a

  listens_early : (w : Work) (phase : Phase) (m : Message) → PhaseEarly b phase → Early b w → Early b (listens w phase m)
  listens_early w (AsksLock peer since) Success h a = heard_early w peer (Held since) a h
  listens_early w (AsksLook peer) Success h a = heard_early w peer Jobs.Seen a tt
  listens_early w (AsksLook peer) Failure h a = heard_early w peer Jobs.Unseen a tt
  listens_early w Orders Success h a = to_early w Jobs.Removed a tt
  listens_early w Orders Failure h a = to_early w Jobs.Denied a tt
  listens_early w (Greets peer) (Version n) h a = record { phase = tt; heard = a.heard }
  listens_early w (GetsData peer start) (Data n) h a = to_early w (gets_more peer start start n) a (gets_early peer start start n)
  listens_early w (PutsOffer peer) AlreadyHave h a = transferred_early w (outcomes.Copied None) a
  listens_early w (PutsOffer peer) (Error text) h a = record { phase = tt; heard = a.heard }
  listens_early w (PutsOffer peer) Failure h a = record { phase = tt; heard = a.heard }
  listens_early w (PutsAnswer peer start) Success h a = transferred_early w (outcomes.Copied (Some start)) a
  listens_early w (PutsAnswer peer start) Failure h a = record { phase = tt; heard = a.heard }
  listens_early w phase m h a = a

  line_early : (w : Work) (m : Option Message) → Early b w → Early b (after_line w m)
  line_early w None a = a
  line_early w (Some m) a = listens_early w w.phase m a.phase a

  bytes_get_early : (n : ℕ) (phase : Phase) → PhaseEarly b phase → PhaseEarly b (gets_bytes n phase)
  bytes_get_early n (GetsBytes peer start size left) h = gets_early peer start (size + n) (left - n)
  bytes_get_early n phase h = h

  took_early : (w : Work) (body : FrameText) → Early b w → Early b (after_frame w body)
  took_early w (Bytes n) a = to_early w (gets_bytes n w.phase) a (bytes_get_early n w.phase a.phase)
  took_early w (Line text) a = line_early w (message_of text) a
  took_early w body a = a

  first_early : (r : ℕ) (w : Work) (part : Part) (here : Bool) (bar : Option ℕ) → Early b w → Early b (first_look r w part here bar)
  first_early r w Gets true bar a = transferred_early w (outcomes.Got None None) a
  first_early r w Drops here bar a = heard_early w r (Jobs.Lacks (unshared_cause bar)) a tt
  first_early r w part here bar a = to_early w Next a tt

  quiet_early : (rows : RowsAndEnds) (r : ℕ) (w : Work) (phase : Phase) → Early b w → Early b (quiet rows r w phase)
  quiet_early rows r w Fresh a = first_early r w w.part (rows.present w.what.key) (rows.bar w.what.key) a
  quiet_early rows r w Next a = record { phase = tt; heard = a.heard }
  quiet_early rows r w phase a = a

  frame_early : (rows : RowsAndEnds) (r : ℕ) (w : Work) (taken : Option FrameView) → Early b w → Early b (hears_frame rows r w taken)
  frame_early rows r w None a = quiet_early rows r w w.phase a
  frame_early rows r w (Some f) a = took_early w f.body a

  talks_early : (rows : RowsAndEnds) (r : ℕ) (w : Work) (e : Entry) (fs : List FrameView) → e.time ≤ b → Early b w → Early b (talks rows r w e fs)
  talks_early rows r w e (f ∷ fs) t a = sends_early w e.time f.peer (Jobs.taken_message e.taken) f.body t a
  talks_early rows r w e [] t a = frame_early rows r w e.taken a

  on_early : (rows : RowsAndEnds) (r : ℕ) (w : Work) (e : Entry) (p : Option ℕ) → e.time ≤ b → Early b w → Early b (talks_on rows r w e p)
  on_early rows r w e None t a = talks_early rows r w e e.sent t a
  on_early rows r w e (Some peer) t a =
      if_either (Early b) (end_after (job_end w peer) (rows.ends (job_end w peer)) e).opened (talks rows r w e e.sent) (closed_part r w peer w.part)
      (λ h. talks_early rows r w e e.sent t a) (λ h. closed_early r w peer w.part a)

  claims_early : (w : Work) (part : Part) (phase : Phase) → Early b w → Early b (claims w part phase)
  claims_early w Gets Fresh a = record { phase = a.phase; heard = a.heard }
  claims_early w part phase a = a

  learns_early : (w : Work) (phase : Phase) (taken : Option FrameView) → Early b w → Early b (learns w phase taken)
  learns_early w (Greets peer) (Some f) a = if_either (Early b) (option_is w.what.peer peer) (record w { version = Jobs.version_said w.version (line_in f.body) }) w
      (λ e. record { phase = a.phase; heard = a.heard }) (λ e. a)
  learns_early w phase taken a = a

  fault_early : (r : ℕ) (w : Work) (part : Part) (side : Side) (phase : Phase) → Early b w → Early b (fault_phase r w part side phase)
  fault_early r w Drops Remote Fresh a = heard_early w r (Jobs.Lacks causes.Fault) a tt
  fault_early r w part side phase a = record { phase = tt; heard = a.heard }

  unreleased_early : (w : Work) (time : ℕ) (phase : Phase) → Early b w → Early b (after_failed_release w time phase)
  unreleased_early w time Jobs.AsksTime a = record { phase = tt; heard = a.heard }
  unreleased_early w time phase a = a

  call_early : (r : ℕ) (w : Work) (time : ℕ) (call : Call) → Early b w → Early b (fault_of r w time call)
  call_early r w time PutFile a = a
  call_early r w time Unhold a = unreleased_early w time w.phase a
  call_early r w time call a = fault_early r w w.part (Jobs.side_of w) w.phase a

  gained_early : (w : Work) (phase : Phase) → Early b w → Early b (after_gain w phase)
  gained_early w (GetsWord peer start size) a = transferred_early w (outcomes.Got (Some peer) (Some start)) a
  gained_early w phase a = a

  kind_early : (rows : RowsAndEnds) (r : ℕ) (w : Work) (e : Entry) (kind : EntryKind) → e.time ≤ b → Early b w → Early b (work_kind rows r w e kind)
  kind_early rows r w e (Fault call owner) t a = call_early r w e.time call a
  kind_early rows r w e (Bar job need key) t a = to_early w Next a tt
  kind_early rows r w e (Share hold end owner key) t a = heard_early w r (Held e.time) a t
  kind_early rows r w e (Gone source key) t a = to_early w Jobs.Removed a tt
  kind_early rows r w e (Gain source size key) t a = gained_early w w.phase a
  kind_early rows r w e kind t a =
      let x = claims w w.part w.phase in
      on_early rows r (learns x w.phase e.taken) e (Jobs.partner w.what.peer w.phase) t (learns_early x w.phase e.taken (claims_early w w.part w.phase a))

  after_early : (rows : RowsAndEnds) (r : ℕ) (e : Entry) (w : Work) → e.time ≤ b → Early b w → Early b (work_after rows r e w)
  after_early rows r e w t a = if_either (Early b) (option_is (job_of e.kind) w.number) (work_kind rows r w e e.kind) w (λ h. kind_early rows r w e e.kind t a) (λ h. a)

  all_early : (rows : RowsAndEnds) (r : ℕ) (e : Entry) (ws : List Work) → e.time ≤ b → Each (Early b) ws → Each (Early b) (map (work_after rows r e) ws)
  all_early rows r e [] t a = tt
  all_early rows r e (w ∷ ws) t a = (after_early rows r e w t a.0, all_early rows r e ws t a.1)

  filter_early : (q : Work → Bool) (ws : List Work) → Each (Early b) ws → Each (Early b) (filter q ws)
  filter_early q [] a = tt
  filter_early q (w ∷ ws) a = go (filter_early q ws a.1) (q w) refl
    where
      go : Each (Early b) (filter q ws) → (t : Bool) → q w ≡ t → Each (Early b) (filter q (w ∷ ws))
      go more true is = rw is (a.0, more)
      go more false is = rw is more

  step_early : (rows : RowsAndEnds) (r : ℕ) (ws : List Work) (e : Entry) (kind : EntryKind) → e.time ≤ b → Each (Early b) ws → Each (Early b) (works_after rows r ws e kind)
  step_early rows r ws e (Begin job what) t a = (record { phase = tt; heard = tt }, a)
  step_early rows r ws e (ends_job job outcome) t a = filter_early (λ w. not (w.number == job)) ws a
  step_early rows r ws e (Crash clock) t a = tt
  step_early rows r ws e kind t a = all_early rows r e ws t a

-- each running job heard of locks that it asked for within the bounds of time
pub works_early : (past : List Entry) (r : ℕ) → Always (λ p x. IsBounded x) past → Each (Early 1000000000000) (works past r)
works_early [] r all = tt
works_early (e ∷ past) r all = go (works_early past r all.1) (is_of r e) refl
  where
    go : Each (Early 1000000000000) (works past r) → (b : Bool) → is_of r e ≡ b → Each (Early 1000000000000) (works (e ∷ past) r)
    go a true is = rw is (step_early 1000000000000 (rows_at past r) r (works past r) e e.kind all.0.in_time a)
    go a false is = rw is a

-- ---- the evidence

abbrev KindBelow : ℕ → Kind → Type 0
KindBelow n (Locked end) = end ≤ n
KindBelow n kind = Unit {0}

abbrev ItemBelow : ℕ → Evidence → Type 0
ItemBelow n i = KindBelow n i.kind

abbrev OfferBelow : ℕ → Offer → Type 0
OfferBelow n (Gives kind) = KindBelow n kind
OfferBelow n Fails = Unit {0}

gathered : (n : ℕ) (side : Side) (need : Need) (ask : ℕ → Offer) → ((c : ℕ) → OfferBelow n (ask c)) → (cs : List ℕ) (items : List Evidence) → Each (ItemBelow n) items → Each (ItemBelow n) (gather side need ask cs items)
gathered n side need ask f [] items a = a
gathered n side need ask f (c ∷ cs) items a = go (λ more h. gathered n side need ask f cs more h) (is_enough side need items) (ask c) (f c)
  where
    go : ((more : List Evidence) → Each (ItemBelow n) more → Each (ItemBelow n) (gather side need ask cs more)) → (b : Bool) (o : Offer) → OfferBelow n o
        → Each (ItemBelow n) (if b then items else pick o (λ kind. gather side need ask cs (items ++ record { repo = c; kind = kind } ∷ [])) (gather side need ask cs items))
    go more true o h = a
    go more false (Gives kind) h = more (items ++ record { repo = c; kind = kind } ∷ []) (Each-push (ItemBelow n) items (record { repo = c; kind = kind }) a h)
    go more false Fails h = more items a

ends_below : (n : ℕ) (items : List Evidence) → Each (ItemBelow n) items → Each (λ end. end ≤ n) (ends items)
ends_below n [] a = tt
ends_below n (i ∷ is) a = go i.kind refl a.0 (ends_below n is a.1)
  where
    go : (kind : Kind) → i.kind ≡ kind → KindBelow n kind → Each (λ end. end ≤ n) (ends is) → Each (λ end. end ≤ n) (ends (i ∷ is))
    go (Locked end) e h more = rw e (h, more)
    go Trusted e h more = rw e more
    go Recent e h more = rw e more

least_below : (n x : ℕ) (xs : List ℕ) → x ≤ n → fold min x xs ≤ n
least_below n x [] h = h
least_below n x (y ∷ ys) h = least_below n (min x y) ys (omega (arith, h))

first_below : (n : ℕ) (xs : List ℕ) (end : ℕ) → Each (λ e. e ≤ n) xs → reduce min xs ≡ Some end → end ≤ n
first_below n [] end a h = absurd (cc)
first_below n (x ∷ xs) end a h = let same : fold min x xs ≡ end = cc in subst (λ q. q ≤ n) same (least_below n x xs a.0)

found_early : (b c : ℕ) (xs : List (ℕ × Heard)) → Each (λ x. HeardEarly b x.1) xs → (x : Heard) → option_map (λ y. y.1) (find (λ y. y.0 == c) xs) ≡ Some x → HeardEarly b x
found_early b c [] a x h = absurd (cc)
found_early b c (y ∷ ys) a x h = go (λ g. found_early b c ys a.1 x g) (y.0 == c) refl h
  where
    go : (option_map (λ (z : ℕ × Heard). z.1) (find (λ z. z.0 == c) ys) ≡ Some x → HeardEarly b x) → (t : Bool) → (y.0 == c) ≡ t → option_map (λ (z : ℕ × Heard). z.1) (find (λ z. z.0 == c) (y ∷ ys)) ≡ Some x → HeardEarly b x
    go more true is g = let f : Some y.1 ≡ Some x = rw is at g in let same : y.1 ≡ x = cc in subst (HeardEarly b) same a.0
    go more false is g = more (rw is at g)

offered : (b n : ℕ) (clock : ℕ → ℕ) → ((time : ℕ) → time ≤ b → clock time ≤ n) → (standing : Standing) (o : Option Heard) → ((x : Heard) → o ≡ Some x → HeardEarly b x)
    → OfferBelow (n + hold_time) (offer_by clock standing o)
offered b n clock small Claimed o f = tt
offered b n clock small (Ignored cause) o f = tt
offered b n clock small Asked None f = tt
offered b n clock small Asked (Some (Held since)) f = let h : clock since ≤ n = small since (f (Held since) refl) in omega (arith, h)
offered b n clock small Asked (Some x) f = other x f
  where
    other : (x : Heard) → ((y : Heard) → Some x ≡ Some y → HeardEarly b y) → OfferBelow (n + hold_time) (heard_offer clock (Some x))
    other (Held since) g = let h : clock since ≤ n = small since (g (Held since) refl) in omega (arith, h)
    other x g = tt

-- the first end of what a running job knows
pub first_end_below : (s : SetUp) (past : List Entry) (w : Work) (end : ℕ) → OwnPast s past → Member w (works past s.number) → least_end (known s (state_of s past) w) ≡ Some end → end ≤ 1100000600000
first_end_below s past w end h runs is =
    let early : Early 1000000000000 w = Each-member (Early 1000000000000) (works past s.number) w (works_early past s.number h.bounds) runs in
    first_below 1100000600000 (ends (known s (state_of s past) w)) end
    (ends_below 1100000600000 (known s (state_of s past) w)
    (gathered 1100000600000 (Jobs.side_of w) (need_of s (state_of s past) w) (knows s (state_of s past) w)
    (λ c. offered 1000000000000 1100000000000 (state_of s past).clock (λ time le. clock_small s.repos past s.number time h.repos h.bounds le) (standing_of s (state_of s past) w c) (heard_of w c)
    (λ x e. found_early 1000000000000 c w.heard early.heard x e)) (reached_candidates (is_to_ask s (state_of s past) w) (candidates_of s w)) [] tt)) is

-- an order with a deadline is read as it was said
pub deadline_read : SentAreRead → (s : SetUp) (past : List Entry) (w : Work) (n end now : ℕ) → OwnPast s past → Member w (works past s.number) → n < 2 ^ 61 → least_end (known s (state_of s past) w) ≡ Some end
    → message_of (text_of (RemoveBefore (n + (end - now) / 1000) w.what.key)) ≡ Some (RemoveBefore (n + (end - now) / 1000) w.what.key)
deadline_read reads_back s past w n end now h runs small is =
    let below : end ≤ 1100000600000 = first_end_below s past w end h runs is in
    before_read reads_back s past h.run w runs (n + (end - now) / 1000) (omega (arith, below, small))
