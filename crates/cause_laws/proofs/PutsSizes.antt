-- What a copy has yet to send, and what it sent, is the content's size as it told how many bytes come.
use Rattle.std.proofs.Common.{◌≡◌, ℕ, ◌+◌, ◌-◌, ◌≤◌, Bool, true, false, List, [], ◌∷◌, Option, Some, None, inl, inr, refl, sym, ap, ◌∙◌, subst, arith}
use Rattle.std.specs.Prelude.{if◌then◌else◌, min, nat_le}
use Rattle.std.specs.List.{list_all}
use Rattle.std.proofs.lemmas.Bool.Decides.{nat_tests}
use Rattle.annex_base.specs.Lists.{Each, Member}
use Rattle.annex_base.proofs.Conditions.{if_either}
use Rattle.annex_base.specs.declared.kinds.Call.TheVariants as calls
use Rattle.step_facts.proofs.Below.{SentAreRead}
use Rattle.run_data.specs.declared.entry.Entry.{Entry}
use Rattle.run_data.specs.declared.entry.EntryKind.TheVariants.{Fault}
use Rattle.run_data.specs.declared.entry.FrameView.{FrameView}
use Rattle.run_data.specs.declared.entry.FrameText.{FrameText}
use Rattle.run_data.specs.declared.entry.FrameText.TheVariants.{Opening, Closing, Bytes, Line}
use Rattle.run_data.specs.declared.run.Run.{Run}
use Rattle.run_data.specs.Repos.{IsSetUp}
use Rattle.run_model.specs.Past.{Occurs, is_of}
use Rattle.node_model.specs.Slots.{RunningJob}
use Rattle.run_model.specs.Frames.{is_job}
use Rattle.p2p_wire.specs.declared.message.Message.{Message}
use Rattle.p2p_wire.specs.declared.message.Message.TheVariants.{Data, PutFrom}
use Rattle.p2p_wire.specs.Messages.{message_of, text_of}
use Rattle.node_model.specs.SetUp.{SetUp}
use Rattle.run_model.specs.States.{content, rows_at, works}
use Rattle.node_model.specs.Sessions.{line_in, reaches}
use Rattle.node_model.specs.SessionStep.{bytes_left}
use Rattle.node_model.specs.Jobs
use Rattle.node_model.specs.Jobs.{Part, Phase, Puts, PutsBytes, PutsOffer, Work, job_end, partner, running_job, taken_message}
use Rattle.node_model.specs.Look.{Effect, failing_call, waiting_frame}
use Rattle.node_model.specs.JobStep.{Turn, by_me, end_with, quietly, says_to, sends_to, talk, wrong_message}
use Rattle.node_model.specs.TransferStep.{content_of, puts_from, puts_piece}
use Rattle.node_model.specs.Turns.{by_partner, goes, goes_on, has_room, is_awaiting, needs, takes, takes_answer, takes_frame, takes_text, with_partner, awaits}
use Rattle.run_model.specs.Run.{OwnPast, RunPast, RunStep, set_up}
use Rattle.step_facts.proofs.Cases.{unless_found}
use Rattle.step_facts.proofs.JobKept.{kind_kept}
use Rattle.step_facts.proofs.JobSteps.{Origin, Steps, origin, stepped_runs, turn_at}
use Rattle.job_facts.proofs.TalkFacts.{Fits}
use Rattle.job_facts.proofs.WorkFits.{works_fit}
use Rattle.job_facts.proofs.PhasesFit.{works_speak}
use Rattle.step_facts.proofs.Makers.{stepped_takes}
use Rattle.cause_laws.proofs.Refusals.{stepped_own}
use Rattle.dialogue_facts.proofs.EndReasons.{SendsMore, kind_reason, Reason}
use Rattle.step_facts.proofs.ClientTurns.{live_on}
use Rattle.job_facts.proofs.Dialogue.{Suits, SuitsLine, SuitsMessage}
use Rattle.dialogue_facts.proofs.Greeted.{partner_takes}
use Rattle.past_facts.proofs.OwnRuns.{own_past}
use Rattle.cause_laws.proofs.ConversationClient
use Rattle.cause_laws.proofs.ConversationClient.{Conversing}
use Rattle.cause_laws.proofs.Conversations.{conversing}
use Rattle.job_facts.proofs.PhaseFacts.{only_offer}

-- an entry of the job found a content of this size
pub record WasSize (past : List Entry) (r j : ℕ) (key : List ℕ) (size : ℕ) : Type 0 where
  pub entry : Entry
  pub before : List Entry
  pub occurs : Occurs past entry before
  pub own : is_job r j entry ≡ true
  pub size_is : content before r key ≡ Some size

abbrev pub Sized : List Entry → ℕ → Work → Type 0
Sized past r w = (peer start at left : ℕ) → w.phase ≡ PutsBytes peer start at left → WasSize past r w.number w.what.key (at + left)

-- ---- what a step sends

abbrev first_of : List FrameView → Option FrameText
first_of [] = None
first_of (f ∷ fs) = Some f.body

-- a piece is no longer than what is left
piece_first : (t : Turn) (peer at left n : ℕ) → first_of (puts_piece t peer at (min 32768 left)).sent ≡ Some (Bytes n) → n ≤ left
piece_first t peer at left n = unless_found (λ (m : Effect). first_of m.sent ≡ Some (Bytes n) → n ≤ left) (failing_call t.look.fails (calls.Read ∷ [])) (λ call. quietly (Fault call (by_me t)) None)
    (sends_to t (talk t) None peer ((if reaches (content_of t) (at + min 32768 left) then Bytes (min 32768 left) else Closing) ∷ [])) (λ call e. absurd (cc)) (go (reaches (content_of t) (at + min 32768 left)))
  where
    low : (k : ℕ) → min 32768 left ≡ k → k ≤ left
    low k e = grind (arith, nat_tests)

    go : (b : Bool) → Some (if b then Bytes (min 32768 left) else Closing) ≡ Some (Bytes n) → n ≤ left
    go true e = let same : min 32768 left ≡ n = cc in low n same
    go false e = absurd (cc)

-- a step of a job that sends bytes
bytes_step : (t : Turn) (m : Effect) (peer start at left n : ℕ) → t.w.phase ≡ PutsBytes peer start at left → by_partner t (partner t.w.what.peer t.w.phase) ≡ Some m → first_of m.sent ≡ Some (Bytes n) → n ≤ left
bytes_step t m peer start at left n is does first = go (end_with t peer).opened (subst (λ (o : Option ℕ). by_partner t o ≡ Some m) (ap (partner t.w.what.peer) is) does)
  where
    go : (b : Bool) → with_partner t peer b ≡ Some m → n ≤ left
    go false e = let same : quietly (talk t) None ≡ m = cc in absurd (let no' : None ≡ Some (Bytes n) = ap (λ (k : Effect). first_of k.sent) same ∙ first in cc)
    go true e = on (list_all (has_room t) (needs t t.w.phase)) (subst (λ (b : Bool). (if b then awaits t peer (waiting_frame (end_with t peer) t.look (job_end t.w peer)) else goes_on t) ≡ Some m) (ap is_awaiting is) e)
      where
        on : (b : Bool) → (if b then Some (goes t t.w.phase) else None) ≡ Some m → n ≤ left
        on false g = absurd (cc)
        on true g =
            let same : goes t t.w.phase ≡ m = cc in
            let piece : puts_piece t peer at (min 32768 left) ≡ m = sym (ap (goes t) is) ∙ same in
            piece_first t peer at left n (ap (λ (k : Effect). first_of k.sent) piece ∙ first)

-- a copy that tells how many bytes come has so many from that place on
data_first : (t : Turn) (f : FrameView) (peer at left : ℕ) → message_of (text_of (Data (bytes_left (content_of t) at))) ≡ Some (Data (bytes_left (content_of t) at))
    → (b : FrameText) → first_of (puts_from t f peer at).sent ≡ Some b → line_in b ≡ Some (Data left) → content_of t ≡ Some (at + left)
data_first t f peer at left reads b = unless_found (λ (m : Effect). first_of m.sent ≡ Some b → line_in b ≡ Some (Data left) → content_of t ≡ Some (at + left)) (failing_call t.look.fails (calls.Size ∷ [])) (λ call. quietly (Fault call (by_me t)) (Some f))
    (if reaches (content_of t) at then says_to t (talk t) (Some f) peer (Data (bytes_left (content_of t) at)) else wrong_message t f peer) (λ call e told. absurd (cc))
    (if_either (λ (m : Effect). first_of m.sent ≡ Some b → line_in b ≡ Some (Data left) → content_of t ≡ Some (at + left)) (reaches (content_of t) at) (says_to t (talk t) (Some f) peer (Data (bytes_left (content_of t) at))) (wrong_message t f peer)
    (λ there e told. size (content_of t) there (same_left (sym reads ∙ (ap line_in (body e) ∙ told)))) (λ gone e told. absurd (let none : None ≡ Some (Data left) = ap line_in (closes e) ∙ told in cc)))
  where
    body : Some (Line (text_of (Data (bytes_left (content_of t) at)))) ≡ Some b → Line (text_of (Data (bytes_left (content_of t) at))) ≡ b
    body e = cc

    closes : Some Closing ≡ Some b → Closing ≡ b
    closes e = cc

    same_left : Some (Data (bytes_left (content_of t) at)) ≡ Some (Data left) → bytes_left (content_of t) at ≡ left
    same_left e = cc

    size : (o : Option ℕ) → reaches o at ≡ true → bytes_left o at ≡ left → o ≡ Some (at + left)
    size None there is = absurd (cc)
    size (Some k) there is = ap (λ n. Some n) (whole k there is)
      where
        whole : (k : ℕ) → nat_le at k ≡ true → k - at ≡ left → k ≡ at + left
        whole k l e = grind (arith, nat_tests)

-- the place is told to an offer
offer_only : (phase : Phase) (n : ℕ) → SuitsMessage phase (PutFrom n) → (peer : ℕ) × (phase ≡ PutsOffer peer)
offer_only (PutsOffer p) n h = (p, refl)
offer_only phase n h = absurd h

line_suits : (phase : Phase) (b : FrameText) (m : Message) → line_in b ≡ Some m → Suits phase b → SuitsMessage phase m
line_suits phase (Line text) m told h = subst (SuitsLine phase) told h
line_suits phase Opening m told h = absurd (cc)
line_suits phase Closing m told h = absurd (cc)
line_suits phase (Bytes n) m told h = absurd (cc)

offer_takes : (t : Turn) (f : FrameView) (p q n : ℕ) → t.w.phase ≡ PutsOffer q → t.w.part ≡ Puts → (b : FrameText) → line_in b ≡ Some (PutFrom n) → takes_frame t p f b ≡ puts_from t f p n
offer_takes t f p q n is part (Line text) told = ap (takes_text t f p) told ∙ (ap (λ (z : Phase). takes t f p z (PutFrom n)) is ∙ ap (λ (z : Part). takes_answer t f p z (PutsOffer q) (PutFrom n)) part)
offer_takes t f p q n is part Opening told = absurd (cc)
offer_takes t f p q n is part Closing told = absurd (cc)
offer_takes t f p q n is part (Bytes k) told = absurd (cc)

-- ---- over a run

abbrev AllSized : List Entry → ℕ → Type 0
AllSized past r = (w : Work) → Member w (works past r) → Sized past r w

module _ (reads_back : SentAreRead) (run : Run) (repos : Each IsSetUp run.repos) (past : List Entry) (e : Entry) (h : RunPast (set_up run) past) (step : RunStep (set_up run) past e) (r : ℕ) (own : is_of r e ≡ true) (was : AllSized past r) where
  abbrev s : SetUp
  s = set_up run r

  own_p : OwnPast s past
  own_p = own_past run repos r past h

  talking : Conversing past r
  talking = conversing reads_back run repos past h r

  grows : (j : ℕ) (key : List ℕ) (size : ℕ) → WasSize past r j key size → WasSize (e ∷ past) r j key size
  grows j key size x = record { entry = x.entry; before = x.before; occurs = inr x.occurs; own = x.own; size_is = x.size_is }

  module _ (x : Work) (b : Steps s past e x) where
    abbrev t : Turn
    t = turn_at s past e b.by

    abbrev v : Work
    v = b.by.w

    runs : Member v (works past r)
    runs = stepped_runs s past e b.by

    made_sent : e.sent ≡ b.by.made.sent
    made_sent = ap (λ (z : Entry). z.sent) b.by.is

    reason_sized : (peer start at left : ℕ) → SendsMore v e peer start at left → WasSize (e ∷ past) r v.number v.what.key (at + left)
    reason_sized peer start at left (inl z) =
        let old = was v runs peer start z.0 z.1 z.3 in
        let first : first_of b.by.made.sent ≡ Some (Bytes z.2) = ap first_of (sym made_sent ∙ z.6.sent_is) ∙ ap (λ (c : FrameText). Some c) z.6.body_is in
        let low : z.2 ≤ z.1 = bytes_step t b.by.made peer start z.0 z.1 z.2 z.3 b.by.does first in
        subst (WasSize (e ∷ past) r v.number v.what.key) (sum at left z.0 z.1 z.2 z.4 z.5 low) (grows v.number v.what.key (z.0 + z.1) old)
      where
        sum : (at left from before n : ℕ) → at ≡ from + n → left ≡ before - n → n ≤ before → from + before ≡ at + left
        sum at left from before n i j k = omega (arith, i, j, k)
    reason_sized peer start at left (inr z) = told e.taken refl z.1
      where
        told : (o : Option FrameView) → e.taken ≡ o → taken_message o ≡ Some (PutFrom at) → WasSize (e ∷ past) r v.number v.what.key (at + left)
        told None took is = absurd (cc)
        told (Some f) took is =
            let k = stepped_takes s past e b.by f took in
            let f_is : k.0.f ≡ f = k.1 in
            let p = k.0.peer in
            let on : partner v.what.peer v.phase ≡ Some p = k.0.partner_is in
            let took_it = partner_takes t b.by.made p on k.0.awaits k.0.opened b.by.does in
            let both : Some took_it.f ≡ Some f = sym took_it.taken_is ∙ (sym (ap (λ (z : Entry). z.taken) b.by.is) ∙ took) in
            let same : took_it.f ≡ f = cc in
            let suits = ConversationClient.suits reads_back run repos past e h step r own talking b.by p took_it.f took_it.of_end took_it.may k.0.opened took_it.taken_is on (talking v runs p (live_on v.what.peer v.phase p on) k.0.opened) in
            let line : line_in took_it.f.body ≡ Some (PutFrom at) = ap (λ (g : FrameView). line_in g.body) same ∙ is in
            let offer = offer_only v.phase at (line_suits v.phase took_it.f.body (PutFrom at) line suits) in
            let puts : v.part ≡ Puts = only_offer v.part offer.0 (subst (Fits v.part) offer.1 (works_fit s past own_p.run v runs)) in
            let made : b.by.made ≡ puts_from t took_it.f p at = took_it.made_is ∙ offer_takes t took_it.f p offer.0 at offer.1 puts took_it.f.body line in
            let first : first_of (puts_from t took_it.f p at).sent ≡ Some z.0.f.body = ap (λ (m : Effect). first_of m.sent) (sym made) ∙ ap first_of (sym made_sent ∙ z.0.sent_is) in
            record {
              entry = e;
              before = past;
              occurs = inl (refl, refl);
              own = stepped_own s past e b.by own;
              size_is = data_first t took_it.f p at left ((works_speak reads_back s past b.by.look own_p b.by.small v runs).data' at) z.0.f.body first z.0.told;
            }

    steps_sized : Sized (e ∷ past) r x
    steps_sized peer start at left is =
        let like : running_job x ≡ running_job v = ap running_job b.work_is ∙ kind_kept (rows_at past r) r b.by.w e e.kind in
        subst (λ (j : RunningJob). WasSize (e ∷ past) r j.number j.what.key (at + left)) (sym like) (elim (kind_reason (rows_at past r) r b.by.w e e.kind) [
          | inl same ↦ grows v.number v.what.key (at + left) (was v runs peer start at left (sym same ∙ (sym (ap (λ (z : Work). z.phase) b.work_is) ∙ is)))
          | inr reason ↦ reason_sized peer start at left (subst (Reason (rows_at past r) r b.by.w e e.kind) (sym (ap (λ (z : Work). z.phase) b.work_is) ∙ is) reason)
        ])

  pub own_sized : AllSized (e ∷ past) r
  own_sized x m = by (origin s past e (own_past run repos r (e ∷ past) (step, h)).run own x m)
    where
      by : Origin s past e x → Sized (e ∷ past) r x
      by (inl b) = λ peer start at left is. absurd (let no' : Jobs.Fresh ≡ PutsBytes peer start at left = sym (ap (λ (z : Work). z.phase) b.work_is) ∙ is in cc)
      by (inr (inl b)) = λ peer start at left is. grows x.number x.what.key (at + left) (was x b.ran peer start at left is)
      by (inr (inr b)) = steps_sized x b

module _ (reads_back : SentAreRead) (run : Run) (repos : Each IsSetUp run.repos) where
  pub sized : (past : List Entry) → RunPast (set_up run) past → (r : ℕ) (w : Work) → Member w (works past r) → Sized past r w
  sized [] h r = λ w m. absurd m
  sized (e ∷ past) h r = go (sized past h.1 r) (is_of r e) refl
    where
      go : ((w : Work) → Member w (works past r) → Sized past r w) → (b : Bool) → is_of r e ≡ b → (w : Work) → Member w (works (e ∷ past) r) → Sized (e ∷ past) r w
      go was true own = own_sized reads_back run repos past e h.1 h.0 r own was
      go was false other = λ w m peer start at left is. let x = was w (rw other at m) peer start at left is in record { entry = x.entry; before = x.before; occurs = inr x.occurs; own = x.own; size_is = x.size_is }
