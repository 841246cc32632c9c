-- An order is sent by the entry of that kind alone: by a running job that has its target as peer.
use Rattle.std.proofs.Common.{◌≡◌, ℕ, ◌<◌, ◌≤◌, true, false, List, [], ◌∷◌, Option, Some, None, ◌⊎◌, inl, inr, sym, ap, ◌∙◌, subst, arith}
use Rattle.std.proofs.lemmas.Bool.{eqb-true, and_parts}
use Rattle.annex_base.specs.Lists.{Member}
use Rattle.annex_base.specs.declared.kinds.Word.{Word}
use Rattle.annex_base.proofs.Conditions.{and_first}
use Rattle.annex_base.proofs.Lists.{Each-member}
use Rattle.drop_proof.specs.declared.rule.Need.{Need}
use Rattle.run_data.specs.declared.entry.Entry.{Entry}
use Rattle.run_data.specs.declared.entry.EntryKind.TheVariants.{Order}
use Rattle.run_data.specs.declared.entry.FrameView.{FrameView}
use Rattle.run_data.specs.declared.entry.FrameText.{FrameText}
use Rattle.run_data.specs.declared.entry.FrameText.TheVariants.{Closing}
use Rattle.run_model.specs.Past.{Occurs, begun_count, is_of}
use Rattle.node_model.specs.Rows.{option_is}
use Rattle.run_model.specs.Frames.{is_job}
use Rattle.node_model.specs.Slots.{job_of}
use Rattle.p2p_wire.specs.Messages.{order_of}
use Rattle.node_model.specs.SetUp.{SetUp}
use Rattle.node_model.specs.Sessions.{line_in}
use Rattle.node_model.specs.Ends.{End, EndName, end_sends, frames, server_end}
use Rattle.run_model.specs.Run.{OwnPart, OwnRun}
use Rattle.step_facts.proofs.ServerEnds.{GivesHere, TakesHere, come_closes}
use Rattle.run_laws.proofs.SaidDown.{said_is}
use Rattle.run_laws.proofs.JobLines.{job_said, orders_order}
use Rattle.step_facts.proofs.Makers.{who}
use Rattle.step_facts.proofs.JobSteps.{Stepped, stepped_found, stepped_job, stepped_runs, turn_at}
use Rattle.job_facts.proofs.Untouched.{begun_before}
use Rattle.step_facts.proofs.WorkNumbers.{number_begun}

-- ---- who sends one

-- the entry is an order
pub record OrderEntry (e : Entry) : Type 0 where
  pub j : ℕ
  pub peer : ℕ
  pub deadline : Option ℕ
  pub need : Need
  pub key : List ℕ
  pub kind_is : e.kind ≡ Order j peer deadline need key

frames_side : (a : EndName) (c : End) (bodies : List FrameText) (g : FrameView) → Member g (frames a c bodies) → g.up ≡ a.client
frames_side a c [] g m = absurd m
frames_side a c (body ∷ bodies) g (inl i) = ap (λ (f : FrameView). f.up) i
frames_side a c (body ∷ bodies) g (inr m) = frames_side a (end_sends c body) bodies g m

-- what goes up and is read as an order is sent by a job's entry of that kind
order_sent : (s : SetUp) (past : List Entry) (words : ℕ → Option Word) (e : Entry) → OwnPart s past words e → (g : FrameView) → Member g e.sent → g.up ≡ true
    → (deadline : Option ℕ) (key : List ℕ) → line_in g.body ≡ Some (order_of deadline key) → Stepped s past e × OrderEntry e
order_sent s past words e own g n up deadline key line = elim (who s past words e own) [
  | inl x ↦ absurd (elim (x.2) [
    | inl none ↦ subst (Member g) none n
    | inr y ↦ closing g.body (Each-member (λ (f : FrameView). f.body ≡ Closing) e.sent g (come_closes s past e.lines e.sent e.kind y.may) n) line
  ])
  | inr x ↦ elim x [ inl y ↦ absurd (session y.1.0 y.1.1 y.1.3) | inr y ↦ (y, job y) ]
]
  where
    closing : (body : FrameText) → body ≡ Closing → line_in body ≡ Some (order_of deadline key) → ⊥
    closing body is h = let none : None ≡ Some (order_of deadline key) = sym (ap line_in is) ∙ h in cc

    down : (p q : ℕ) (c : End) (says : List FrameText) → e.sent ≡ frames (server_end p q) c says → ⊥
    down p q c says is = let no_up : true ≡ false = sym up ∙ frames_side (server_end p q) c says g (subst (Member g) is n) in cc

    session : (p q : ℕ) → TakesHere s past (server_end p q) e ⊎ GivesHere s past (server_end p q) e → ⊥
    session p q (inl y) = down p q _ _ y.sent_is
    session p q (inr y) = down p q _ _ y.sent_is

    job : Stepped s past e → OrderEntry e
    job x =
        let kind : e.kind ≡ x.made.kind = ap (λ (y : Entry). y.kind) x.is in
        let said = job_said (turn_at s past e x) x.made x.made.kind (stepped_found s past e x).found g (subst (Member g) (ap (λ (y : Entry). y.sent) x.is) n) in
        let o = orders_order (turn_at s past e x) x.made.kind g deadline key said (said_is g.body (order_of deadline key) line) in
        record { j = o.0; peer = o.1; deadline = o.2; need = o.3; key = o.4; kind_is = kind ∙ o.5 }

-- ---- of which job

-- job j of r sent this order
pub record SentOrder (past : List Entry) (r j : ℕ) (g : FrameView) : Type 0 where
  pub x : Entry
  pub before : List Entry
  pub stands : Occurs past x before
  pub mine : is_job r j x ≡ true
  pub sent : Member g x.sent
  pub up : g.up ≡ true
  pub deadline : Option ℕ
  pub key : List ℕ
  pub line : line_in g.body ≡ Some (order_of deadline key)

-- it sent it before this entry, or by it
pub record NowOrders (e : Entry) (r j : ℕ) (g : FrameView) : Type 0 where
  pub mine : is_job r j e ≡ true
  pub sent : Member g e.sent
  pub up : g.up ≡ true
  pub deadline : Option ℕ
  pub key : List ℕ
  pub line : line_in g.body ≡ Some (order_of deadline key)

pub order_when : (past : List Entry) (e : Entry) (r j : ℕ) (g : FrameView) → SentOrder (e ∷ past) r j g → SentOrder past r j g ⊎ NowOrders e r j g
order_when past e r j g o = go o.stands
  where
    go : ((o.x ≡ e) × (o.before ≡ past)) ⊎ Occurs past o.x o.before → SentOrder past r j g ⊎ NowOrders e r j g
    go (inl at) = inr (record {
      mine = subst (λ (y : Entry). is_job r j y ≡ true) at.0 o.mine;
      sent = subst (λ (y : Entry). Member g y.sent) at.0 o.sent;
      up = o.up;
      deadline = o.deadline;
      key = o.key;
      line = o.line;
    })
    go (inr at) = inl (record { x = o.x; before = o.before; stands = at; mine = o.mine; sent = o.sent; up = o.up; deadline = o.deadline; key = o.key; line = o.line })

-- the job that orders now
pub record Orderer (s : SetUp) (past : List Entry) (e : Entry) (j : ℕ) : Type 0 where
  pub order : OrderEntry e
  pub by : Stepped s past e
  pub number_is : by.w.number ≡ j

pub orderer : (s : SetUp) (past : List Entry) (words : ℕ → Option Word) (e : Entry) (j : ℕ) (g : FrameView) → OwnPart s past words e → NowOrders e s.number j g → Orderer s past e j
orderer s past words e j g own now =
    let o = order_sent s past words e own g now.sent now.up now.deadline now.key now.line in
    let x = o.0 in
    let mine : option_is (job_of e.kind) j ≡ true = (and_parts (is_of s.number e) (option_is (job_of e.kind) j) now.mine).1 in
    record { order = o.1; by = x; number_is = eqb-true x.w.number j (subst (λ (q : Option ℕ). option_is q j ≡ true) (stepped_job s past e x) mine) }

-- a job that hasn't begun has ordered nothing
pub unordered : (s : SetUp) (past : List Entry) → OwnRun s past → (j : ℕ) (g : FrameView) → begun_count past s.number < j → SentOrder past s.number j g → ⊥
unordered s [] run j g later o = o.stands
unordered s (e ∷ past) run j g later o = elim (order_when past e s.number j g o) [
  | inl old ↦ unordered s past run.1 j g before old
  | inr now ↦ new now
]
  where
    before : begun_count past s.number < j
    before = begun_before past e s.number j later

    new : NowOrders e s.number j g → ⊥
    new now =
        let own = run.0 (and_first (is_of s.number e) (option_is (job_of e.kind) j) now.mine) in
        let x = orderer s past own.0 e j g own.1 now in
        let below : x.by.w.number ≤ begun_count past s.number = number_begun s past run.1 x.by.w (stepped_runs s past e x.by) in
        let is : x.by.w.number ≡ j = x.number_is in
        let b = before in
        omega arith
