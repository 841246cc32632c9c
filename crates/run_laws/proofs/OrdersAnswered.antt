-- A job that has ordered waits for the answer, or has it, or lost it: so it ends, other than by a lost order, with every request on the
-- order's way answered.
use Rattle.std.proofs.Common.{◌≡◌, ℕ, ◌+◌, ◌≤◌, Bool, true, false, List, [], ◌∷◌, length, Option, Some, None, ◌⊎◌, inl, inr, refl, sym, ap, ◌∙◌, subst, arith}
use Rattle.std.specs.Prelude.{◌==◌, if◌then◌else◌, ◌&&◌, filter, find, fold}
use Rattle.std.proofs.lemmas.Bool.{and_parts, eqb-true}
use Rattle.std.specs.Option.{option_or}
use Rattle.annex_base.specs.Lists.{Each, Member}
use Rattle.annex_base.specs.declared.kinds.Call.TheVariants.{Unhold}
use Rattle.annex_base.specs.declared.kinds.Word.{Word}
use Rattle.annex_base.proofs.Lists.{Each-filter, Each-member, Member-filter_from, find_member, filter_none}
use Rattle.annex_base.proofs.Conditions.{eqb_refl}
use Rattle.annex_base.proofs.Options.{first_some-was, option_or-was}
use Rattle.step_facts.proofs.Below.{SentAreRead}
use Rattle.drop_proof.specs.declared.rule.Side.TheVariants.{Remote}
use Rattle.run_data.specs.declared.entry.Entry.{Entry}
use Rattle.run_data.specs.declared.entry.EntryKind.{EntryKind}
use Rattle.run_data.specs.declared.entry.EntryKind.TheVariants.{Begin, Order, Talk, Fault, End as ends_job}
use Rattle.run_data.specs.declared.entry.FrameView.{FrameView}
use Rattle.run_data.specs.declared.entry.FrameText.{FrameText}
use Rattle.run_data.specs.declared.entry.FrameText.TheVariants.{Opening, Closing, Bytes, Line}
use Rattle.run_data.specs.declared.job.Job.{Job}
use Rattle.run_data.specs.declared.job.Outcome.{Outcome}
use Rattle.run_data.specs.declared.job.Outcome.TheVariants.{Refused}
use Rattle.run_data.specs.declared.job.DropRefusal.TheVariants as refusals
use Rattle.node_model.specs.Slots.{RunningJob, job_of}
use Rattle.node_model.specs.Rows.{is_lost_ordered, option_is}
use Rattle.run_model.specs.Past.{is_of}
use Rattle.run_model.specs.Frames.{Way, requests, says, taken_if, up_of, way_of}
use Rattle.node_model.specs.Look.{Effect, entry_of}
use Rattle.run_model.specs.Logs.{is_step}
use Rattle.p2p_wire.specs.declared.message.Message.{Message}
use Rattle.p2p_wire.specs.Messages.{order_of, text_of}
use Rattle.step_facts.proofs.Ways.{is_answer}
use Rattle.run_model.specs.Said.{is_request, message_in}
use Rattle.node_model.specs.SetUp.{SetUp, slots}
use Rattle.node_model.specs.Sessions.{line_in}
use Rattle.node_model.specs.Ends.{End, EndName, end_after, end_sends, end_takes, end_took, frames, sends_at, sent_at, taken_at, takes_at}
use Rattle.run_model.specs.States.{end_at, rows_at, works, state_of}
use Rattle.node_model.specs.Jobs
use Rattle.node_model.specs.Jobs.{Denied, Drops, Ends, Orders, Phase, Removed, Work, job_end, partner, side_of, talks, talks_on, work_kind}
use Rattle.node_model.specs.OwedStep.{owed_step}
use Rattle.node_model.specs.SessionStep.{session_step}
use Rattle.node_model.specs.JobStep.{Turn, by_me, end_with, me, talk, turn_of}
use Rattle.node_model.specs.Turns.{by_partner, job_step, outcome_of, slot_step, takes_frame}
use Rattle.run_model.specs.Run.{IsStep, OwnPart, OwnPast, OwnRun}
use Rattle.node_model.specs.Found.{ByJob, ByOwed, GivesOrder, IsJobEntry}
use Rattle.step_facts.proofs.ServerEnds.{come_closes, sent_same}
use Rattle.run_laws.proofs.WayCounts.{hits, in_count, in_other, one_if, out_count, out_other}
use Rattle.run_laws.proofs.SaidDown.{said_closing}
use Rattle.step_facts.proofs.SessionFacts.{session_found}
use Rattle.step_facts.proofs.StepFacts.{pays_found}
use Rattle.step_facts.proofs.JobFacts.{partner_found}
use Rattle.step_facts.proofs.WorkNumbers.{same_slot_same_work}
use Rattle.step_facts.proofs.JobSteps.{Origin, Stays, Stepped, Steps, invariant, stepped_job, stepped_runs, turn_at}
use Rattle.step_facts.proofs.ClientCounts.{asks_for, is_asking}
use Rattle.step_facts.proofs.ClientTurns.{made_entry, moved, rows_of, talker, talker_slot}
use Rattle.step_facts.proofs.ClientRuns.{Idle, IdleAt, client_end, closes_idle, job_idle, quiet_idle, session_idle}
use Rattle.step_facts.proofs.ClientWays.{Keeps, down_way, up_way}
use Rattle.run_laws.proofs.ClientAwaits.{taken_awaits, taken_way}
use Rattle.step_facts.proofs.Makers.{TakenBy, taken_of}
use Rattle.job_facts.proofs.Speaks
use Rattle.run_laws.proofs.Decisions.{kind_of, stepped_of}
use Rattle.job_facts.proofs.Untouched.{begins_later}
use Rattle.step_facts.proofs.ClientKeeps.{all_keep, by_taken, taken_there}
use Rattle.step_facts.proofs.EndEpochs.{client_sends, from_end, sends_is}
use Rattle.step_facts.proofs.JobEnds.{SentWell}
use Rattle.job_facts.proofs.Aims.{aims}
use Rattle.job_facts.proofs.TalkFacts.{Fits, OrderStands, TalkKind}
use Rattle.job_facts.proofs.WorkFits.{drops_stay, step_kind, step_number, step_running, step_runs, step_sent, step_talk, step_what, steps_good, works_fit}
use Rattle.step_facts.proofs.BySteps.{earlier}
use Rattle.job_facts.proofs.PhasesFit.{target_peer}
use Rattle.run_laws.proofs.OrdersSent.{NowOrders, OrderEntry, Orderer, SentOrder, order_when, orderer, unordered}
use Rattle.step_facts.proofs.OrderSteps.{OrdersMake, Rested, RestedMakes, orders_at, rested_makes}

-- ---- where the order stands

abbrev order_end : FrameView → EndName
order_end g = client_end g.peer g.slot

-- every request on the order's way has its answer
abbrev pub Answered : ℕ → List Entry → FrameView → Type 0
Answered r past g = length (requests past (up_way r (order_end g) g.epoch)) ≤ taken_if is_answer past (down_way r (order_end g) g.epoch)

-- it is the last word at the job's target, in the present epoch
pub record AwaitsOrder (s : SetUp) (past : List Entry) (w : Work) (g : FrameView) : Type 0 where
  pub side : side_of w ≡ Remote
  pub part : w.part ≡ Drops
  pub peer : w.what.peer ≡ Some g.peer
  pub epoch : g.epoch ≡ (end_at past s.number (order_end g)).epoch

abbrev pub OrderIs : SetUp → List Entry → Work → FrameView → Phase → Type 0
OrderIs s past w g Orders = AwaitsOrder s past w g
OrderIs s past w g Removed = Answered s.number past g
OrderIs s past w g Denied = Answered s.number past g
OrderIs s past w g (Ends (Refused (refusals.Lost true))) = Unit {0}
OrderIs s past w g phase = ⊥

-- so stands each order that it has sent, on a connection of its slot
abbrev pub Ordered : SetUp → List Entry → Work → Type 0
Ordered s past w = (g : FrameView) → SentOrder past s.number w.number g → (g.slot ≡ w.slot) × OrderIs s past w g w.phase

-- ---- an entry that leaves it so

none_counted : (n : ℕ) (fs : List FrameView) → Each (λ g. g.body ≡ Closing) fs → filter (says is_request) (filter (λ g. g.epoch == n) fs) ≡ []
none_counted n fs all = filter_none (says is_request) (filter (λ g. g.epoch == n) fs) (Each-filter (λ (g : FrameView). says is_request g ≡ false) (λ g. g.epoch == n) fs (none fs all))
  where
    none : (fs : List FrameView) → Each (λ g. g.body ≡ Closing) fs → Each (λ g. says is_request g ≡ false) fs
    none [] all = tt
    none (f ∷ fs) all = (ap (λ b. is_request (message_in b)) all.0 ∙ ap is_request said_closing, none fs all.1)

answered_kept : (r : ℕ) (past : List Entry) (e : Entry) (g : FrameView) → is_of r e ≡ true → Each (λ f. f.body ≡ Closing) (sent_at (order_end g) e.sent) → Answered r past g → Answered r (e ∷ past) g
answered_kept r past e g is closes old =
    let more = out_count is_request r (order_end g) g.epoch e past is in
    let none : length (filter (says is_request) (filter (λ (f : FrameView). f.epoch == g.epoch) (sent_at (order_end g) e.sent))) ≡ 0 = ap length (none_counted g.epoch (sent_at (order_end g) e.sent) closes) in
    let got = in_count is_answer r (order_end g) g.epoch e past is in
    add (length (requests (e ∷ past) (up_way r (order_end g) g.epoch))) (length (requests past (up_way r (order_end g) g.epoch))) _ (taken_if is_answer (e ∷ past) (down_way r (order_end g) g.epoch)) (taken_if is_answer past (down_way r (order_end g) g.epoch)) _ more none got old
  where
    add : (x y z u v w : ℕ) → x ≡ y + z → z ≡ 0 → u ≡ v + w → y ≤ v → x ≤ u
    add x y z u v w a b c d = omega arith

answered_other : (r : ℕ) (past : List Entry) (e : Entry) (g : FrameView) → is_of r e ≡ false → Answered r past g → Answered r (e ∷ past) g
answered_other r past e g is old =
    let more = ap length (out_other is_request r (order_end g) g.epoch e past is) in
    let got = in_other is_answer r (order_end g) g.epoch e past is in
    same (length (requests (e ∷ past) (up_way r (order_end g) g.epoch))) (length (requests past (up_way r (order_end g) g.epoch))) (taken_if is_answer (e ∷ past) (down_way r (order_end g) g.epoch)) (taken_if is_answer past (down_way r (order_end g) g.epoch)) more got old
  where
    same : (x y u v : ℕ) → x ≡ y → u ≡ v → y ≤ v → x ≤ u
    same x y u v a b c = omega arith

closes_epoch : (c : End) (fs : List FrameView) → Each (λ f. f.body ≡ Closing) fs → (fold (λ c f. end_sends c f.body) c fs).epoch ≡ c.epoch
closes_epoch c [] all = refl
closes_epoch c (f ∷ fs) all = closes_epoch (end_sends c f.body) fs all.1 ∙ ap (λ (b : FrameText). (end_sends c b).epoch) all.0

idle_epoch : (a : EndName) (c : End) (e : Entry) → Idle a e → (end_after a c e).epoch ≡ c.epoch
idle_epoch a c e idle =
    ap (λ (o : Option FrameView). (fold (λ (d : End) (f : FrameView). end_sends d f.body) (end_took c o) (sent_at a e.sent)).epoch) idle.takes_none ∙ closes_epoch c (sent_at a e.sent) idle.closes

kept_own : (s : SetUp) (past : List Entry) (e : Entry) (w : Work) (g : FrameView) → is_of s.number e ≡ true → Idle (order_end g) e → (phase : Phase) → OrderIs s past w g phase → OrderIs s (e ∷ past) w g phase
kept_own s past e w g is idle Orders x = record {
  side = x.side;
  part = x.part;
  peer = x.peer;
  epoch = x.epoch ∙ sym (ap (λ (b : Bool). (if b then end_after (order_end g) (end_at past s.number (order_end g)) e else end_at past s.number (order_end g)).epoch) is ∙ idle_epoch (order_end g) (end_at past s.number (order_end g)) e idle);
}
kept_own s past e w g is idle Removed x = answered_kept s.number past e g is idle.closes x
kept_own s past e w g is idle Denied x = answered_kept s.number past e g is idle.closes x
kept_own s past e w g is idle (Ends (Refused (refusals.Lost true))) x = tt
kept_own s past e w g is idle phase x = absurd x

kept_other : (s : SetUp) (past : List Entry) (e : Entry) (w : Work) (g : FrameView) → is_of s.number e ≡ false → (phase : Phase) → OrderIs s past w g phase → OrderIs s (e ∷ past) w g phase
kept_other s past e w g is Orders x = record {
  side = x.side;
  part = x.part;
  peer = x.peer;
  epoch = x.epoch ∙ sym (ap (λ (b : Bool). (if b then end_after (order_end g) (end_at past s.number (order_end g)) e else end_at past s.number (order_end g)).epoch) is);
}
kept_other s past e w g is Removed x = answered_other s.number past e g is x
kept_other s past e w g is Denied x = answered_other s.number past e g is x
kept_other s past e w g is (Ends (Refused (refusals.Lost true))) x = tt
kept_other s past e w g is phase x = absurd x

-- a release that fails leaves such a job as it was
unreleased_same : (w : Work) (time : ℕ) (phase : Phase) → Rested phase → Jobs.after_failed_release w time phase ≡ w
unreleased_same w time Removed rested = refl
unreleased_same w time Denied rested = refl
unreleased_same w time (Ends outcome) rested = refl
unreleased_same w time phase rested = absurd rested

-- ---- an entry that is no step of the job

-- the job waits for its answer, or rests
abbrev Standing : SetUp → List Entry → Work → FrameView → Type 0
Standing s past w g = ((w.phase ≡ Orders) × AwaitsOrder s past w g) ⊎ Rested w.phase

stands_so : (s : SetUp) (past : List Entry) (w : Work) (g : FrameView) (phase : Phase) → w.phase ≡ phase → OrderIs s past w g phase → Standing s past w g
stands_so s past w g Orders is x = inl (is, x)
stands_so s past w g Removed is x = inr (subst Rested (sym is) tt)
stands_so s past w g Denied is x = inr (subst Rested (sym is) tt)
stands_so s past w g (Ends (Refused (refusals.Lost true))) is x = inr (subst Rested (sym is) tt)
stands_so s past w g phase is x = absurd x

-- such a job's entries are steps of it
stands_step : (s : SetUp) (past : List Entry) (g : FrameView) (t : Turn) (m : Effect) → Standing s past t.w g → by_partner t (partner t.w.what.peer t.w.phase) ≡ Some m → is_step t.w.number m.kind ≡ true
stands_step s past g t m (inl x) e = ap (is_step t.w.number) (orders_at t g.peer x.1.part x.0 x.1.peer x.1.side m e).0 ∙ eqb_refl t.w.number
stands_step s past g t m (inr x) e = elim (rested_makes t t.w.phase refl x m e) [
  | inl quiet ↦ ap (λ (y : Effect). is_step t.w.number y.kind) quiet ∙ eqb_refl t.w.number
  | inr over ↦ ap (is_step t.w.number) over ∙ eqb_refl t.w.number
]

stays_idle : (s : SetUp) (past : List Entry) (words : ℕ → Option Word) (e : Entry) (w : Work) (g : FrameView) → OwnRun s past → OwnPart s past words e → Member w (works past s.number) → is_step w.number e.kind ≡ false
    → Standing s past w g → IdleAt w.slot e
stays_idle s past words e w g run own ran still stands = elim (own.does) [
  | inl x ↦ subst (IdleAt w.slot) (sym x.is) (stepped x)
  | inr x ↦ closes_idle e w.slot x.takes_none (come_closes s past e.lines e.sent e.kind x.may)
]
  where
    stepped : (x : IsStep s past words e) → IdleAt w.slot (entry_of s.number x.look x.made)
    stepped x = elim (option_or-was (owed_step s (state_of s past) x.look) (option_or (session_step s (state_of s past) x.look) (job_step s (state_of s past) x.look)) x.made x.makes) [
      | inl o ↦ owed (pays_found s (state_of s past) x.look x.made (state_of s past).owed refl o)
      | inr r ↦ elim (option_or-was (session_step s (state_of s past) x.look) (job_step s (state_of s past) x.look) x.made r) [
        | inl h ↦ session_idle s (state_of s past) x.look x.made (session_found s (state_of s past) x.look x.made h) w.slot
        | inr h ↦ job h
      ]
    ]
      where
        owed : ByOwed s (state_of s past) x.look x.made → IdleAt w.slot (entry_of s.number x.look x.made)
        owed o = elim (o.writes) [
          | inl y ↦ quiet_idle (entry_of s.number x.look x.made) w.slot (ap (λ (z : Effect). z.taken) y) (ap (λ (z : Effect). z.sent) y)
          | inr y ↦ quiet_idle (entry_of s.number x.look x.made) w.slot (ap (λ (z : Effect). z.taken) y) (ap (λ (z : Effect). z.sent) y)
        ]

        by_slot : (slot : ℕ) (o : Option Work) → find (λ v. v.slot == slot) (works past s.number) ≡ o → slot_step s (state_of s past) x.look o ≡ Some x.made → IdleAt w.slot (entry_of s.number x.look x.made)
        by_slot slot None is h = absurd (cc)
        by_slot slot (Some v) is h = go (v.slot == w.slot) refl
          where
            found : ByJob s (state_of s past) x.look x.made
            found = let y = partner_found (turn_of s (state_of s past) x.look v) x.made (partner v.what.peer v.phase) refl h in
                record { w = v; slot = slot; runs = is; frame = y.frame; found = y.found }

            go : (b : Bool) → (v.slot == w.slot) ≡ b → IdleAt w.slot (entry_of s.number x.look x.made)
            go false apart = job_idle s (state_of s past) x.look x.made found w.slot apart
            go true same =
                let one : w ≡ v = same_slot_same_work s past run w v ran (find_member (λ (y : Work). y.slot == slot) (works past s.number) v is).0 (sym (eqb-true v.slot w.slot same)) in
                let steps : is_step v.number x.made.kind ≡ true = stands_step s past g (turn_of s (state_of s past) x.look v) x.made (subst (λ (y : Work). Standing s past y g) one stands) h in
                let off : is_step v.number x.made.kind ≡ false = subst (λ (y : Work). is_step y.number x.made.kind ≡ false) one (ap (λ (z : Entry). is_step w.number z.kind) (sym x.is) ∙ still) in
                absurd (let both : true ≡ false = sym steps ∙ off in cc)

        job : job_step s (state_of s past) x.look ≡ Some x.made → IdleAt w.slot (entry_of s.number x.look x.made)
        job h =
            let y = first_some-was (λ slot. slot_step s (state_of s past) x.look (find (λ v. v.slot == slot) (works past s.number))) slots x.made h in
            by_slot y.0 (find (λ v. v.slot == y.0) (works past s.number)) refl y.2

-- ---- the step by which a job orders

sends_order : (y : Work) (time peer : ℕ) (taken : Option Message) (body : FrameText) (deadline : Option ℕ) (key : List ℕ) → line_in body ≡ Some (order_of deadline key) → (Jobs.sends y time peer taken body).phase ≡ Orders
sends_order y time peer taken (Line text) None key e = ap (λ (o : Option Message). (Jobs.says_some y time peer taken o).phase) e
sends_order y time peer taken (Line text) (Some n) key e = ap (λ (o : Option Message). (Jobs.says_some y time peer taken o).phase) e
sends_order y time peer taken Opening deadline key e = absurd (cc)
sends_order y time peer taken Closing deadline key e = absurd (cc)
sends_order y time peer taken (Bytes n) deadline key e = absurd (cc)

module _ (t : Turn) (m : Effect) (peer : ℕ) (body : FrameText) (sent : m.sent ≡ frames (job_end t.w peer) (end_with t peer) (body ∷ [])) (deadline : Option ℕ) (key : List ℕ)
    (line : line_in body ≡ Some (order_of deadline key)) (open' : (end_after (job_end t.w peer) (end_with t peer) (made_entry t m)).opened ≡ true) where
  abbrev y : Work
  y = talker t m.taken

  said : (talks (rows_of t) (me t) y (made_entry t m) m.sent).phase ≡ Orders
  said = ap (λ (fs : List FrameView). (talks (rows_of t) (me t) y (made_entry t m) fs).phase) sent ∙ sends_order y t.look.time peer (Jobs.taken_message m.taken) body deadline key line

  pub comes_to : (p : Option ℕ) → (p ≡ None) ⊎ (p ≡ Some peer) → (talks_on (rows_of t) (me t) y (made_entry t m) p).phase ≡ Orders
  comes_to None place = said
  comes_to (Some q) (inl none) = absurd (cc)
  comes_to (Some q) (inr some) =
      let same : q ≡ peer = cc in
      let at : job_end y q ≡ job_end t.w peer = (λ i. record { peer = same i; slot = talker_slot t m.taken i; client = true }) in
      let still : (end_after (job_end y q) (t.ends (job_end y q)) (made_entry t m)).opened ≡ true = ap (λ (a : EndName). (end_after a (t.ends a) (made_entry t m)).opened) at ∙ open' in
      rw still said

order_asks : (body : FrameText) (deadline : Option ℕ) (key : List ℕ) → line_in body ≡ Some (order_of deadline key) → is_asking body ≡ true
order_asks (Line text) None key e = ap asks_for e
order_asks (Line text) (Some n) key e = ap asks_for e
order_asks Opening deadline key e = absurd (cc)
order_asks Closing deadline key e = absurd (cc)
order_asks (Bytes n) deadline key e = absurd (cc)

-- a request that is sent is of the epoch that its end has then
asked_epoch : (past : List Entry) (r : ℕ) (e : Entry) (g : FrameView) → Keeps past r (order_end g) e → Member g e.sent → g.up ≡ true → is_asking g.body ≡ true → g.epoch ≡ (end_after (order_end g) (end_at past r (order_end g)) e).epoch
asked_epoch past r e g keeps m up asks = elim (keeps.sends) [
  | inl none ↦ absurd (let both : true ≡ false = sym asks ∙ Each-member (λ (f : FrameView). is_asking f.body ≡ false) (sent_at (order_end g) e.sent) g none here in cc)
  | inr one ↦ single one.0 one.1 one.2
]
  where
    at : from_end g ≡ order_end g
    at i = record { peer = g.peer; slot = g.slot; client = up i }

    here : Member g (sent_at (order_end g) e.sent)
    here = Member-filter_from (sends_at (order_end g)) e.sent g m (sends_is (order_end g) g at)

    single : (f : FrameView) → sent_at (order_end g) e.sent ≡ f ∷ [] → f.epoch ≡ (end_after (order_end g) (end_at past r (order_end g)) e).epoch → g.epoch ≡ (end_after (order_end g) (end_at past r (order_end g)) e).epoch
    single f is epoch = elim (subst (Member g) is here) [ inl i ↦ ap (λ (h : FrameView). h.epoch) i ∙ epoch | inr i ↦ absurd i ]

module _ (reads_back : SentAreRead) (s : SetUp) (past : List Entry) (e : Entry) (h : OwnPast s (e ∷ past)) (is : is_of s.number e ≡ true) (x : Work) (b : Steps s past e x) where
  abbrev r : ℕ
  r = s.number

  abbrev v : Work
  v = b.by.w

  abbrev t : Turn
  t = turn_at s past e b.by

  abbrev m : Effect
  m = b.by.made

  runs : Member v (works past r)
  runs = step_runs s past e x b

  same_what : x.what ≡ v.what
  same_what = step_what s past e x b

  same_slot : x.slot ≡ v.slot
  same_slot = ap (λ (j : RunningJob). j.slot) (step_running s past e x b)

  entry_is : e ≡ made_entry t m
  entry_is = b.by.is

  -- where it goes
  after_is : (kind : EntryKind) → e.kind ≡ kind → x ≡ moved t m kind
  after_is kind k = b.work_is ∙ (λ i. work_kind (rows_at past r) r v (entry_is i) (k i))

  fits : Fits v.part v.phase
  fits = works_fit s past h.run.1 v runs

  -- ---- it orders

  module _ (g : FrameView) (now : NowOrders e r x.number g) (o : OrderEntry e) where
    gives : GivesOrder t o.j o.peer o.deadline o.need o.key m.taken m.sent
    gives = subst (IsJobEntry t m) o.kind_is (step_kind s past e x b)

    abbrev body : FrameText
    body = Line (text_of (order_of o.deadline o.key))

    abbrev a : EndName
    a = job_end v o.peer

    abbrev c : End
    c = end_with t o.peer

    frame_is : g ≡ record { peer = o.peer; slot = v.slot; up = true; epoch = c.epoch; seq = c.sent + 1; body = body }
    frame_is = elim (subst (Member g) (step_sent s past e x b ∙ gives.sent_is) now.sent) [ inl i ↦ i | inr i ↦ absurd i ]

    line : line_in body ≡ Some (order_of now.deadline now.key)
    line = ap (λ (f : FrameView). line_in f.body) (sym frame_is) ∙ now.line

    opened : c.opened ≡ true
    opened = go (client_sends s past (h.run.0 is).0 e (h.run.0 is).1 g now.sent now.up)
      where
        at : from_end g ≡ job_end v o.peer
        at = ap from_end frame_is

        go : SentWell (end_at past r (from_end g)) g → c.opened ≡ true
        go (inl y) = ap (λ (d : EndName). (end_at past r d).opened) (sym at) ∙ y.0
        go (inr y) = absurd (let both : body ≡ Opening = sym (ap (λ (f : FrameView). f.body) frame_is) ∙ y.2 in cc)

    took_open : (q : Option FrameView) → taken_at a m.taken ≡ q → (end_took c q).opened ≡ true
    took_open None q = opened
    took_open (Some f) q = go f.body refl
      where
        go : (text : FrameText) → f.body ≡ text → (end_takes c f.epoch text).opened ≡ true
        go Opening i = refl
        go (Bytes n) i = opened
        go (Line text) i = opened
        go Closing i =
            let there = taken_there a m.taken f q in
            let made = by_taken t m f there.0 (partner v.what.peer v.phase) refl b.by.does in
            let kind : Order o.j o.peer o.deadline o.need o.key ≡ talk t =
            sym o.kind_is ∙ ap (λ (y : Entry). y.kind) entry_is ∙ ap (λ (y : Effect). y.kind) made.2 ∙ ap (λ (y : FrameText). (takes_frame t made.0 f y).kind) i in
            absurd (cc)

    open' : (end_after a c (made_entry t m)).opened ≡ true
    open' = ap (λ (fs : List FrameView). (fold (λ (d : End) (f : FrameView). end_sends d f.body) (end_took c (taken_at a m.taken)) fs).opened) (ap (sent_at a) gives.sent_is ∙ sent_same a c (body ∷ []))
        ∙ took_open (taken_at a m.taken) refl

    peer_is : v.what.peer ≡ Some o.peer
    peer_is = target_peer s v (aims s past h.run.1 v runs) gives.part_is gives.side ∙ ap (λ n. Some n) (sym gives.target_is)

    place : OrderStands t → (partner v.what.peer v.phase ≡ None) ⊎ (partner v.what.peer v.phase ≡ Some o.peer)
    place (inl at) = inl (ap (partner v.what.peer) at.0)
    place (inr (inl at)) = inr (ap (partner v.what.peer) at ∙ ap (λ n. Some n) (sym gives.target_is))
    place (inr (inr at)) = inr (ap (partner v.what.peer) at ∙ peer_is)

    phase_is : x.phase ≡ Orders
    phase_is = ap (λ (y : Work). y.phase) (after_is (Order o.j o.peer o.deadline o.need o.key) o.kind_is)
        ∙ comes_to t m o.peer body gives.sent_is now.deadline now.key line open' (partner v.what.peer v.phase) (place (subst (TalkKind t m) o.kind_is (step_talk s past e x b fits)))

    pub orders_now : (g.slot ≡ x.slot) × OrderIs s (e ∷ past) x g x.phase
    orders_now = (
      ap (λ (f : FrameView). f.slot) frame_is ∙ sym same_slot,
      subst (OrderIs s (e ∷ past) x g) (sym phase_is) (record {
        side = ap (λ (q : Job). Jobs.drop_side q.kind q.peer) same_what ∙ gives.side;
        part = drops_stay v.part v.phase x.part x.phase (steps_good s past e x b fits) gives.part_is;
        peer = ap (λ (q : Job). q.peer) same_what ∙ peer_is ∙ ap (λ (f : FrameView). Some f.peer) (sym frame_is);
        epoch = asked_epoch past r e g ((all_keep reads_back s (e ∷ past) h g.peer g.slot).0 is) now.sent now.up (order_asks g.body now.deadline now.key now.line)
            ∙ sym (ap (λ (b : Bool). (if b then end_after (order_end g) (end_at past r (order_end g)) e else end_at past r (order_end g)).epoch) is);
      }),
    )

  -- ---- it has ordered

  module _ (g : FrameView) (slot_is : g.slot ≡ v.slot) where
    -- it takes the answer
    module _ (ordered : AwaitsOrder s past v g) (stage : v.phase ≡ Orders) (f : FrameView) (took : e.taken ≡ Some f) (none : e.sent ≡ []) (answer : is_answer (message_in f.body) ≡ true) where
      abbrev taker : TakenBy s past e f
      taker = taken_of s past e b.by f took

      down : f.up ≡ false
      down = (Speaks.hears s past e b.by f took).1

      peer_same : taker.peer ≡ g.peer
      peer_same =
          let both : Some taker.peer ≡ Some g.peer = sym taker.on ∙ ap (partner v.what.peer) stage ∙ ordered.peer in
          cc

      slot_same : taker.w.slot ≡ g.slot
      slot_same = sym slot_is

      way_is : way_of r f ≡ down_way r (order_end g) g.epoch
      way_is = taken_way reads_back s past (earlier s past e h) e f down answer taker
          ∙ (λ i. down_way r (client_end (peer_same i) (slot_same i)) (end_at past r (client_end (peer_same i) (slot_same i))).epoch)
          ∙ ap (down_way r (order_end g)) (sym ordered.epoch)

      balance : length (requests past (up_way r (order_end g) g.epoch)) ≡ taken_if is_answer past (down_way r (order_end g) g.epoch) + 1
      balance = subst (λ (w : Way). length (requests past (up_of w)) ≡ taken_if is_answer past w + 1) way_is (taken_awaits reads_back s past (earlier s past e h) e f down answer taker)

      hit : hits is_answer g.epoch (taken_at (order_end g) e.taken) ≡ true
      hit = ap (λ (q : Option FrameView). hits is_answer g.epoch (taken_at (order_end g) q)) took ∙ ap (λ (c : Bool). hits is_answer g.epoch (if c then Some f else None)) at_end
          ∙ ap (λ (n : ℕ). (n == g.epoch) && says is_answer f) (ap (λ (w : Way). w.epoch) way_is) ∙ ap (λ (c : Bool). c && says is_answer f) (eqb_refl g.epoch) ∙ answer
        where
          at_end : takes_at (order_end g) f ≡ true
          at_end = subst (λ (d : EndName). takes_at d f ≡ true) (λ i. client_end (peer_same i) (slot_same i)) taker.of_end

      answered_now : Answered r (e ∷ past) g
      answered_now =
          let more = out_count is_request r (order_end g) g.epoch e past is in
          let nothing : length (filter (says is_request) (filter (λ (k : FrameView). k.epoch == g.epoch) (sent_at (order_end g) e.sent))) ≡ 0 = ap (λ (fs : List FrameView). length (filter (says is_request) (filter (λ (k : FrameView). k.epoch == g.epoch) (sent_at (order_end g) fs)))) none in
          let got = in_count is_answer r (order_end g) g.epoch e past is in
          add (length (requests (e ∷ past) (up_way r (order_end g) g.epoch))) (length (requests past (up_way r (order_end g) g.epoch))) _ (taken_if is_answer (e ∷ past) (down_way r (order_end g) g.epoch)) (taken_if is_answer past (down_way r (order_end g) g.epoch)) _
          more nothing got (ap one_if hit) balance
        where
          add : (a b c d k n : ℕ) → a ≡ b + c → c ≡ 0 → d ≡ k + n → n ≡ 1 → b ≡ k + 1 → a ≤ d
          add a b c d k n p q r t u = omega arith

    steps_at : AwaitsOrder s past v g → v.phase ≡ Orders → OrdersMake t m → OrderIs s (e ∷ past) x g x.phase
    steps_at ordered stage (kind, inl over) = subst (OrderIs s (e ∷ past) x g) (sym (ap (λ (y : Work). y.phase) (after_is (talk t) (ap (λ (y : Entry). y.kind) entry_is ∙ kind)) ∙ over)) tt
    steps_at ordered stage (kind, inr ans) = elim (ans.phase) [ inl at ↦ goes Removed at answered | inr at ↦ goes Denied at answered ]
      where
        answered : Answered r (e ∷ past) g
        answered = answered_now ordered stage ans.f (ap (λ (y : Entry). y.taken) entry_is ∙ ap (λ (y : Effect). y.taken) ans.made) (ap (λ (y : Entry). y.sent) entry_is ∙ ap (λ (y : Effect). y.sent) ans.made) ans.answer

        goes : (to : Phase) → (moved t m (talk t)).phase ≡ to → OrderIs s (e ∷ past) x g to → OrderIs s (e ∷ past) x g x.phase
        goes to at o = subst (OrderIs s (e ∷ past) x g) (sym (ap (λ (y : Work). y.phase) (after_is (talk t) (ap (λ (y : Entry). y.kind) entry_is ∙ kind)) ∙ at)) o

    rests_at : Rested v.phase → OrderIs s past v g v.phase → RestedMakes t v.phase m → OrderIs s (e ∷ past) x g x.phase
    rests_at rested ordered (inl quiet) =
        let kind : e.kind ≡ Fault Unhold (by_me t) = ap (λ (y : Entry). y.kind) entry_is ∙ ap (λ (y : Effect). y.kind) quiet in
        let same : x ≡ v = after_is (Fault Unhold (by_me t)) kind ∙ unreleased_same v t.look.time v.phase rested in
        let idle : IdleAt v.slot e = quiet_idle e v.slot (ap (λ (y : Entry). y.taken) entry_is ∙ ap (λ (y : Effect). y.taken) quiet) (ap (λ (y : Entry). y.sent) entry_is ∙ ap (λ (y : Effect). y.sent) quiet) in
        subst (λ (y : Work). OrderIs s (e ∷ past) y g y.phase) (sym same)
        (kept_own s past e v g is (subst (λ n. Idle (client_end g.peer n) e) (sym slot_is) (idle g.peer)) v.phase ordered)
    rests_at rested ordered (inr over) = absurd (b.goes_on v.number (outcome_of t v.phase) (ap (λ (y : Entry). y.kind) entry_is ∙ over))

    pub ordered_then : OrderIs s past v g v.phase → (g.slot ≡ x.slot) × OrderIs s (e ∷ past) x g x.phase
    ordered_then ordered = (
      slot_is ∙ sym same_slot,
      elim (stands_so s past v g v.phase refl ordered) [
        | inl at ↦ steps_at at.1 at.0 (orders_at t g.peer at.1.part at.0 at.1.peer at.1.side m b.by.does)
        | inr rested ↦ rests_at rested ordered (rested_makes t v.phase refl rested m b.by.does)
      ],
    )

-- ---- over the run

module _ (reads_back : SentAreRead) (s : SetUp) where
  abbrev At : List Entry → Work → Type 0
  At p x = OwnPast s p → Ordered s p x

  of_other : (p : List Entry) (e : Entry) → is_of s.number e ≡ false → (x : Work) → Member x (works p s.number) → At p x → At (e ∷ p) x
  of_other p e is x n was h g o = elim (order_when p e s.number x.number g o) [
    | inl old ↦ (let z = was (earlier s p e h) g old in (z.0, kept_other s p e x g is x.phase z.1))
    | inr now ↦ absurd (let mine = (and_parts (is_of s.number e) (option_is (job_of e.kind) x.number) now.mine).0 in let both : true ≡ false = sym mine ∙ is in cc)
  ]

  -- the order's entry is a step of its job
  orders_step : (p : List Entry) (e : Entry) (j : ℕ) → Orderer s p e j → is_step j e.kind ≡ true
  orders_step p e j o =
      let own : Some o.order.j ≡ Some o.by.w.number = sym (ap job_of o.order.kind_is) ∙ stepped_job s p e o.by in
      let same : o.order.j ≡ o.by.w.number = cc in
      ap (is_step j) o.order.kind_is ∙ ap (λ n. n == j) (same ∙ o.number_is) ∙ eqb_refl j

  of_own : (p : List Entry) (e : Entry) → OwnRun s (e ∷ p) → is_of s.number e ≡ true → ((x : Work) → Member x (works p s.number) → At p x) → (x : Work) → Origin s p e x → At (e ∷ p) x
  of_own p e r is was x origin h g o = elim (order_when p e s.number x.number g o) [ inl old ↦ before origin old | inr now ↦ at origin now ]
    where
      then_idle : Stays s p e x → (z : (g.slot ≡ x.slot) × OrderIs s p x g x.phase) → (g.slot ≡ x.slot) × OrderIs s (e ∷ p) x g x.phase
      then_idle b z =
          let idle = stays_idle s p (r.0 is).0 e x g r.1 (r.0 is).1 b.ran b.still (stands_so s p x g x.phase refl z.1) in
          (z.0, kept_own s p e x g is (subst (λ n. Idle (client_end g.peer n) e) (sym z.0) (idle g.peer)) x.phase z.1)

      before : Origin s p e x → SentOrder p s.number x.number g → (g.slot ≡ x.slot) × OrderIs s (e ∷ p) x g x.phase
      before (inl b) old = absurd (unordered s p r.1 x.number g (begins_later s p e r is x b) old)
      before (inr (inl b)) old = then_idle b (was x b.ran (earlier s p e h) g old)
      before (inr (inr b)) old =
          let h' = earlier s p e h in
          let z = was b.by.w (step_runs s p e x b) h' g (subst (λ n. SentOrder p s.number n g) (step_number s p e x b) old) in
          ordered_then reads_back s p e h is x b g z.0 z.1

      at : Origin s p e x → NowOrders e s.number x.number g → (g.slot ≡ x.slot) × OrderIs s (e ∷ p) x g x.phase
      at (inl b) now =
          let y = orderer s p (r.0 is).0 e x.number g (r.0 is).1 now in
          absurd (let both : Begin b.job b.what ≡ Order y.order.j y.order.peer y.order.deadline y.order.need y.order.key = sym b.kind_is ∙ y.order.kind_is in cc)
      at (inr (inl b)) now =
          let y = orderer s p (r.0 is).0 e x.number g (r.0 is).1 now in
          absurd (let both : true ≡ false = sym (orders_step p e x.number y) ∙ b.still in cc)
      at (inr (inr b)) now =
          let y = orderer s p (r.0 is).0 e x.number g (r.0 is).1 now in
          orders_now reads_back s p e h is x b g now y.order

  -- **each order that a running job has sent awaits its answer, or has it, or is lost**
  pub orders_stand : (past : List Entry) → OwnPast s past → (w : Work) → Member w (works past s.number) → Ordered s past w
  orders_stand past h w n = invariant s At of_other of_own past h.run w n h

  -- a job that has ordered ends, other than by a lost order, when every request on that connection has its answer
  pub ends_answered : (past : List Entry) (words : ℕ → Option Word) (e : Entry) → OwnPast s past → OwnPart s past words e → (j : ℕ) (outcome : Outcome) → e.kind ≡ ends_job j outcome → is_lost_ordered outcome ≡ false
      → (g : FrameView) → SentOrder past s.number j g → Answered s.number past g
  ends_answered past words e h own j outcome is found g o =
      let x = stepped_of s past words e own j (ends_job j outcome) is (eqb_refl j) in
      let number : j ≡ x.w.number = (kind_of s past e x (ends_job j outcome) is).number_is in
      go x (orders_stand past h x.w (stepped_runs s past e x) g (subst (λ n. SentOrder past s.number n g) number o)).1
    where
      made_kind : (x : Stepped s past e) → x.made.kind ≡ ends_job j outcome
      made_kind x = sym (ap (λ (y : Entry). y.kind) x.is) ∙ is

      by_rest : (x : Stepped s past e) (phase : Phase) → Rested phase → OrderIs s past x.w g phase → RestedMakes (turn_at s past e x) phase x.made → Answered s.number past g
      by_rest x phase rested z (inl quiet) = absurd (let both : Fault Unhold (by_me (turn_at s past e x)) ≡ ends_job j outcome = sym (ap (λ (y : Effect). y.kind) quiet) ∙ made_kind x in cc)
      by_rest x Removed rested z (inr over) = z
      by_rest x Denied rested z (inr over) = z
      by_rest x (Ends (Refused (refusals.Lost true))) rested z (inr over) =
          let both : ends_job x.w.number (Refused (refusals.Lost true)) ≡ ends_job j outcome = sym over ∙ made_kind x in
          let same : Refused (refusals.Lost true) ≡ outcome = cc in
          absurd (let no' : true ≡ false = ap is_lost_ordered same ∙ found in cc)
      by_rest x Orders rested z (inr over) = absurd rested
      by_rest x phase rested z (inr over) = absurd z

      go : (x : Stepped s past e) → OrderIs s past x.w g x.w.phase → Answered s.number past g
      go x z = elim (stands_so s past x.w g x.w.phase refl z) [
        | inl at ↦ absurd (let both : Talk (Some x.w.number) ≡ ends_job j outcome = sym (orders_at (turn_at s past e x) g.peer at.1.part at.0 at.1.peer at.1.side x.made x.does).0 ∙ made_kind x in cc)
        | inr rested ↦ by_rest x x.w.phase rested z (rested_makes (turn_at s past e x) x.w.phase refl rested x.made x.does)
      ]
