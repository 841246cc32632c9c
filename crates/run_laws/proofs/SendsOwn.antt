-- The facts of Own on what one entry sends: at most one request and one answer on a way, and each message where it may be.
use Rattle.std.proofs.Common.{◌≡◌, ℕ, Bool, true, false, List, [], ◌∷◌, Option, Some, None, ◌⊎◌, inl, inr, refl, sym, ap, ◌∙◌, subst}
use Rattle.std.specs.Prelude.{if◌then◌else◌, filter}
use Rattle.annex_base.specs.Lists.{Each, Member}
use Rattle.annex_base.specs.declared.kinds.Word.{Word}
use Rattle.annex_base.proofs.Lists.{Each-filter, Each-member, filter_none}
use Rattle.step_facts.proofs.Below.{SentAreRead}
use Rattle.drop_proof.specs.declared.rule.Need.{Need}
use Rattle.run_data.specs.declared.entry.Entry.{Entry}
use Rattle.run_data.specs.declared.entry.EntryKind.TheVariants.{Order}
use Rattle.run_data.specs.declared.entry.FrameView.{FrameView}
use Rattle.run_data.specs.declared.entry.FrameText.TheVariants.{Closing, Line}
use Rattle.p2p_wire.specs.declared.message.Message.TheVariants.{UnlockContent}
use Rattle.p2p_wire.specs.Messages.{order_of, text_of}
use Rattle.run_model.specs.Said.{Said, Says, Unknown, is_request, message_in}
use Rattle.step_facts.proofs.Ways.{is_answer}
use Rattle.run_model.specs.Frames.{Way, is_on, on_way, says, taker_of}
use Rattle.node_model.specs.SetUp.{SetUp}
use Rattle.step_facts.proofs.BySteps.{ByStep}
use Rattle.run_model.specs.Run.{OwnPart, OwnPast}
use Rattle.node_model.specs.Found.{IsJobEntry}
use Rattle.step_facts.proofs.Makers.{who}
use Rattle.step_facts.proofs.JobSteps.{Stepped, stepped_found, stepped_job, stepped_runs, turn_at}
use Rattle.job_facts.proofs.Speaks
use Rattle.run_laws.proofs.JobLines.{Few, JobSaid, farewells_fail, job_few, job_said, orders_order, tells_no_time, unlocks_end}
use Rattle.job_facts.proofs.OrdersRead.{order_read}
use Rattle.run_laws.proofs.SaidDown.{said_closing}
use Rattle.run_laws.proofs.SessionSays.{read_of}
use Rattle.past_facts.proofs.Own.{AtMostOne, MaySend}
use Rattle.run_laws.proofs.SessionOwn.{SessionSpeaks, any_closes, close_sends, closes_one, session_one_answer, session_one_request, session_sends_step, speaks}

-- ---- who made an own entry

-- one that closes at most; a session; a job
abbrev pub Speaker : SetUp → List Entry → Entry → Type 0
Speaker s past e = Each (λ g. g.body ≡ Closing) e.sent ⊎ (SessionSpeaks s e ⊎ Stepped s past e)

pub speaker : (s : SetUp) (past : List Entry) (words : ℕ → Option Word) (e : Entry) → OwnPart s past words e → Speaker s past e
speaker s past words e own = elim (who s past words e own) [
  | inl x ↦ inl (elim (x.2) [ inl none ↦ subst (Each (λ g. g.body ≡ Closing)) (sym none) tt | inr any ↦ any_closes s past e any ])
  | inr x ↦ inr (elim x [ inl y ↦ inl (speaks s past e y.1) | inr y ↦ inr y ])
]

-- ---- the fields `one_request` and `one_answer`

-- no Close, no giving back of a lock and no unread line passes the test
record SkipsFarewells (test : Said → Bool) : Type 0 where
  close : test (message_in Closing) ≡ false
  none : test Unknown ≡ false
  unlock : (key : List ℕ) → test (Says (UnlockContent key)) ≡ false

few_one : (test : Said → Bool) → SkipsFarewells test → (t : FrameView → Bool) (sent : List FrameView) → Few sent → AtMostOne (filter (says test) (filter t sent))
few_one test c t sent (inl i) = subst (λ (fs : List FrameView). AtMostOne (filter (says test) (filter t fs))) (sym i) tt
few_one test c t sent (inr (inl i)) = subst (λ (fs : List FrameView). AtMostOne (filter (says test) (filter t fs))) (sym i.1) (go (t i.0))
  where
    go : (b : Bool) → AtMostOne (filter (says test) (if b then i.0 ∷ [] else []))
    go true = at_most (says test i.0)
      where
        at_most : (b : Bool) → AtMostOne (if b then i.0 ∷ [] else [])
        at_most true = tt
        at_most false = tt
    go false = tt
few_one test c t sent (inr (inr a)) =
    subst AtMostOne (sym (filter_none (says test) (filter t sent) (Each-filter (λ g. says test g ≡ false) t sent (farewells_fail test c.close c.none c.unlock sent a)))) tt

job_one : (s : SetUp) (past : List Entry) (e : Entry) (test : Said → Bool) → SkipsFarewells test → Stepped s past e → (w : Way) → AtMostOne (filter (says test) (on_way w e))
job_one s past e test c x w =
    few_one test c (is_on w (taker_of w)) e.sent (subst Few (sym (ap (λ (y : Entry). y.sent) x.is)) (job_few (turn_at s past e x) x.made x.made.kind (stepped_found s past e x).found))

pub one_request_step : ByStep (λ s past e. (w : Way) → AtMostOne (filter (says is_request) (on_way w e)))
one_request_step s past words e h b is part w = go (speaker s past words e part)
  where
    go : Speaker s past e → AtMostOne (filter (says is_request) (on_way w e))
    go (inl x) = closes_one is_request w e (ap is_request said_closing) x
    go (inr (inl x)) = session_one_request s e x w
    go (inr (inr x)) = job_one s past e is_request (record { close = ap is_request said_closing; none = refl; unlock = λ key. refl }) x w

pub one_answer_step : ByStep (λ s past e. (w : Way) → AtMostOne (filter (says is_answer) (on_way w e)))
one_answer_step s past words e h b is part w = go (speaker s past words e part)
  where
    go : Speaker s past e → AtMostOne (filter (says is_answer) (on_way w e))
    go (inl x) = closes_one is_answer w e (ap is_answer said_closing) x
    go (inr (inl x)) = session_one_answer s e x w
    go (inr (inr x)) = job_one s past e is_answer (record { close = ap is_answer said_closing; none = refl; unlock = λ key. refl }) x w

-- ---- the field `sends`

order_same : (d d' : Option ℕ) (k k' : List ℕ) → order_of d k ≡ order_of d' k' → (d ≡ d') × (k ≡ k')
order_same None None k k' e = (refl, cc)
order_same (Some n) (Some n') k k' e = (cc, cc)
order_same None (Some n') k k' e = absurd (cc)
order_same (Some n) None k k' e = absurd (cc)

module _ (s : SetUp) (past : List Entry) (e : Entry) (h : OwnPast s past) (x : Stepped s past e) (g : FrameView) (m : Member g e.sent) where
  kind_is : e.kind ≡ x.made.kind
  kind_is = ap (λ (y : Entry). y.kind) x.is

  found : IsJobEntry (turn_at s past e x) x.made e.kind
  found = subst (IsJobEntry (turn_at s past e x) x.made) (sym kind_is) (stepped_found s past e x).found

  said : JobSaid (turn_at s past e x) e.kind g
  said = job_said (turn_at s past e x) x.made e.kind found g (subst (Member g) (ap (λ (y : Entry). y.sent) x.is) m)

  -- an order goes to its target, with its deadline and key
  order_is : (deadline : Option ℕ) (key : List ℕ) → message_in g.body ≡ Says (order_of deadline key) → (j : ℕ) × (need : Need) × (e.kind ≡ Order j g.peer deadline need key)
  order_is deadline key i =
      let o = orders_order (turn_at s past e x) e.kind g deadline key said i in
      at o.0 o.1 o.2 o.3 o.4 o.5
    where
      at : (j peer : ℕ) (d : Option ℕ) (need : Need) (k : List ℕ) → e.kind ≡ Order j peer d need k → (j : ℕ) × (need : Need) × (e.kind ≡ Order j g.peer deadline need key)
      at j peer d need k is =
          let f = subst (IsJobEntry (turn_at s past e x) x.made) is found in
          let y = subst (λ kind. JobSaid (turn_at s past e x) kind g) is said in
          let line = y.1 ∙ ap (λ k. Line (text_of (order_of d k))) f.key_is in
          let read = order_read s past h x.look x.w (stepped_runs s past e x) x.made d f.timed (order_of deadline key) (read_of (text_of (order_of d x.w.what.key)) (order_of deadline key) (sym (ap message_in line) ∙ i)) in
          let same = order_same deadline d key x.w.what.key read in
          (j, need, is ∙ ap (λ p. Order j p d need k) (sym y.0) ∙ ap (λ z. Order j g.peer z need k) (sym same.0) ∙ ap (Order j g.peer deadline need) (f.key_is ∙ sym same.1))

  pub job_sends_so : MaySend s.repos s.number past e g
  job_sends_so = record {
    yes = λ v y. absurd (let no' : true ≡ false = sym (Speaks.speaks s past e x g m).1 ∙ v in cc);
    time = λ n y. absurd (tells_no_time (turn_at s past e x) e.kind g n said y);
    request = λ v y. (x.w.number, stepped_job s past e x);
    order = λ deadline key y. order_is deadline key y;
    unlock = λ key y. unlocks_end (turn_at s past e x) e.kind g key said y;
  }

pub sends_step : SentAreRead → ByStep (λ s past e. (g : FrameView) → Member g e.sent → MaySend s.repos s.number past e g)
sends_step reads_back s past words e h b is part g m = go (speaker s past words e part)
  where
    go : Speaker s past e → MaySend s.repos s.number past e g
    go (inl x) = close_sends s.repos s.number past e g (Each-member (λ (f : FrameView). f.body ≡ Closing) e.sent g x m)
    go (inr (inl x)) = session_sends_step reads_back s past words e h b is part x g m
    go (inr (inr x)) = job_sends_so s past e h x g m
