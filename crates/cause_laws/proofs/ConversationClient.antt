-- **On an open connection of a running job, the dialogue through the entries of the client**: the steps of the job keep it, or open the
-- connection; and what the job takes suits where it stands.
use Rattle.std.proofs.Common.{◌≡◌, ◌≢◌, ℕ, ◌+◌, ◌<◌, ◌≤◌, Bool, true, false, List, [], ◌∷◌, ◌++◌, Option, Some, None, ◌⊎◌, inl, inr, refl, sym, ap, ◌∙◌, subst, arith}
use Rattle.std.specs.Prelude.{◌==◌, ◌&&◌, find, option_map}
use Rattle.std.proofs.lemmas.Bool.{true≢false, and_parts, eqb-true}
use Rattle.annex_base.specs.Lists.{Each, Member}
use Rattle.annex_base.proofs.Lists.{Member-filter_parts, find_member}
use Rattle.step_facts.proofs.Below.{SentAreRead}
use Rattle.run_data.specs.declared.entry.Entry.{Entry}
use Rattle.run_data.specs.declared.entry.EntryKind.{EntryKind}
use Rattle.run_data.specs.declared.entry.EntryKind.TheVariants.{End as ends_job}
use Rattle.run_data.specs.declared.entry.FrameView.{FrameView}
use Rattle.run_data.specs.declared.entry.FrameText.{FrameText}
use Rattle.run_data.specs.declared.entry.FrameText.TheVariants.{Opening, Closing}
use Rattle.run_data.specs.declared.job.Outcome.{Outcome}
use Rattle.run_data.specs.declared.run.Run.{Run}
use Rattle.run_data.specs.Repos.{IsSetUp}
use Rattle.node_model.specs.Slots.{RunningJob}
use Rattle.run_model.specs.Past.{is_of}
use Rattle.node_model.specs.Rows.{option_is}
use Rattle.run_model.specs.Frames.{MayTake, Way}
use Rattle.p2p_wire.specs.declared.message.Message.{Message}
use Rattle.p2p_wire.specs.declared.message.Message.TheVariants.{Version}
use Rattle.node_model.specs.SetUp.{SetUp}
use Rattle.node_model.specs.Ends.{End, EndName, end_after, end_takes, end_took, is_opening, may_take, sends_at, sent_at, server_end, taken_at, takes_at, end_sends}
use Rattle.run_model.specs.States.{end_at, session, works}
use Rattle.node_model.specs.Sessions.{Session, line_in, new_session}
use Rattle.node_model.specs.Jobs.{Drops, Greets, Heard, Opens, Phase, Work, job_end, partner, running_job}
use Rattle.node_model.specs.Look.{Effect}
use Rattle.node_model.specs.JobStep.{Turn, is_held}
use Rattle.run_model.specs.Run.{OwnPast, OwnRun, RunPast, RunStep, set_up}
use Rattle.node_model.specs.Turns.{is_awaiting}
use Rattle.step_facts.proofs.JobKept.{kind_kept}
use Rattle.step_facts.proofs.JobSteps.{Stepped, stepped_found, stepped_runs, turn_at}
use Rattle.job_facts.proofs.WorkFits.{works_fit}
use Rattle.job_facts.proofs.PhasesFit.{works_speak}
use Rattle.cause_laws.proofs.Refusals.{Stands}
use Rattle.cause_laws.proofs.Standing.{stands}
use Rattle.step_facts.proofs.ServerEnds.{same_end-is, takes_end}
use Rattle.step_facts.proofs.EndMoves.{all_epoch, all_opened, end_own, may_epoch, opening_closed, sends_all, takes_epoch}
use Rattle.step_facts.proofs.EndEpochs.{client_sends, from_end, own_takes}
use Rattle.step_facts.proofs.JobEnds.{SentWell}
use Rattle.job_facts.proofs.OpenEnds.{open_runs}
use Rattle.job_facts.proofs.OwnTried.{other_apart}
use Rattle.dialogue_facts.proofs.Carried.{Learns, kind_carries}
use Rattle.step_facts.proofs.ClientCounts.{IsLive}
use Rattle.step_facts.proofs.ClientTurns.{live_on, made_entry, moved, rows_of}
use Rattle.dialogue_facts.proofs.ClientDoes.{ClientDoes, Quiet, client_does}
use Rattle.run_laws.proofs.LocksHeard.{free_of, lock_stays}
use Rattle.dialogue_facts.proofs.Greeted.{Took, greeted_version, opens_unknown, partner_takes}
use Rattle.job_facts.proofs.Dialogue
use Rattle.job_facts.proofs.Dialogue.{Stance, Suits, is_greeted, kept, phase_stance, rests, stance, stands_at}
use Rattle.dialogue_facts.proofs.DialogueSteps.{comes_suits}
use Rattle.dialogue_facts.proofs.DialogueTurns.{ClosesFor, GoesOn, Good, KeepsTo, KnowsVersion, OpensIt, bodies, stands_on, body_of}
use Rattle.dialogue_facts.proofs.DialogueWalk.{Walks}
use Rattle.dialogue_facts.proofs.DialogueTakes.{WaitsSuit, partner_good}
use Rattle.run_laws.proofs.SessionOwn.{way_at}
use Rattle.past_facts.proofs.OwnRuns.{Part, own_past, part_of}
use Rattle.cause_laws.proofs.Queues.{First, Queue, first_of, in_none_taken, in_takes, out_all, out_none}
use Rattle.cause_laws.proofs.Epochs.{follows, none_yet, not_both}
use Rattle.cause_laws.proofs.ConversationServer.{Where, down_way, up_way}

-- the dialogue of a running job with p
pub record Conversation (past : List Entry) (r p : ℕ) (w : Work) : Type 0 where
  pub z : Session
  pub up : List FrameText
  pub down : List FrameText
  pub talk : Dialogue.Dialogue (stands_at w p) z up down
  pub knows : KnowsVersion w p z
  pub there : Where past r p w.slot (end_at past r (job_end w p)).epoch (end_at past p (server_end r w.slot)) (session past p (server_end r w.slot)) (stands_at w p) z up down

abbrev pub Conversing : List Entry → ℕ → Type 0
Conversing past r = (w : Work) → Member w (works past r) → (p : ℕ) → IsLive w.phase → (end_at past r (job_end w p)).opened ≡ true → Conversation past r p w

-- ---- where a job stands

at_open : (w : Work) (p : ℕ) → stands_at w p ≡ Dialogue.AtOpen → w.phase ≡ Opens p
at_open w p e = go (partner w.what.peer w.phase) refl
  where
    rests_no : (k : Bool) → rests k ≡ Dialogue.AtOpen → ⊥
    rests_no true h = cc
    rests_no false h = cc

    phase_is : (q : Phase) → phase_stance q ≡ Dialogue.AtOpen → (peer : ℕ) × (q ≡ Opens peer)
    phase_is (Opens peer) h = (peer, refl)
    phase_is q h = absurd (cc)

    on : (q : ℕ) → partner w.what.peer w.phase ≡ Some q → (c : Bool) → (q == p) ≡ c → w.phase ≡ Opens p
    on q is true same =
        let at : partner w.what.peer w.phase ≡ Some p = is ∙ ap (λ n. Some n) (eqb-true q p same) in
        let x = phase_is w.phase (sym (stands_on w.what.peer w.phase (kept w p) p at) ∙ e) in
        let both : Some x.0 ≡ Some p = sym (ap (partner w.what.peer) x.1) ∙ at in
        let peer : x.0 ≡ p = cc in
        x.1 ∙ ap Opens peer
    on q is false apart = absurd (rests_no (kept w p) (sym (rw (is, apart) refl) ∙ e))

    go : (o : Option ℕ) → partner w.what.peer w.phase ≡ o → w.phase ≡ Opens p
    go (Some q) is = on q is (q == p) refl
    go None is = absurd (rests_no (kept w p) (sym (rw is refl) ∙ e))

-- it knows the version, or is to
known_or : (w : Work) (p : ℕ) → (is_greeted (stands_at w p) ≡ true) ⊎ ((w.phase ≡ Opens p) ⊎ (w.phase ≡ Greets p))
known_or w p = go (partner w.what.peer w.phase) refl
  where
    greeted : (k : Bool) → is_greeted (rests k) ≡ true
    greeted true = refl
    greeted false = refl

    phase_is : (q : Phase) → w.phase ≡ q → partner w.what.peer q ≡ Some p → (is_greeted (phase_stance q) ≡ true) ⊎ ((w.phase ≡ Opens p) ⊎ (w.phase ≡ Greets p))
    phase_is (Opens peer) is at = let same : peer ≡ p = cc in inr (inl (is ∙ ap Opens same))
    phase_is (Greets peer) is at = let same : peer ≡ p = cc in inr (inr (is ∙ ap Greets same))
    phase_is q is at = inl refl

    on : (q : ℕ) → partner w.what.peer w.phase ≡ Some q → (c : Bool) → (q == p) ≡ c → (is_greeted (stands_at w p) ≡ true) ⊎ ((w.phase ≡ Opens p) ⊎ (w.phase ≡ Greets p))
    on q is true same =
        let at : partner w.what.peer w.phase ≡ Some p = is ∙ ap (λ n. Some n) (eqb-true q p same) in
        subst (λ (s : Stance). (is_greeted s ≡ true) ⊎ ((w.phase ≡ Opens p) ⊎ (w.phase ≡ Greets p))) (sym (stands_on w.what.peer w.phase (kept w p) p at)) (phase_is w.phase refl at)
    on q is false apart = inl (ap is_greeted (rw (is, apart) refl) ∙ greeted (kept w p))

    go : (o : Option ℕ) → partner w.what.peer w.phase ≡ o → (is_greeted (stands_at w p) ≡ true) ⊎ ((w.phase ≡ Opens p) ⊎ (w.phase ≡ Greets p))
    go (Some q) is = on q is (q == p) refl
    go None is = inl (ap is_greeted (rw is refl) ∙ greeted (kept w p))

good_keeps : (t : Turn) (m : Effect) (kind : EntryKind) → ((j : ℕ) (outcome : Outcome) → kind ≢ ends_job j outcome) → Good t m kind → KeepsTo t m (moved t m kind) × ClosesFor t m
good_keeps t m (ends_job j outcome) on g = absurd (on j outcome refl)
good_keeps t m kind on g = g

-- the answer to VERSION
greets_told : (z : Session) (o : Option Message) → Dialogue.Answered Dialogue.AtGreet z o → (n : ℕ) × (o ≡ Some (Version n)) × (z.version ≡ n)
greets_told z (Some (Version n)) a = (n, refl, a.1)
greets_told z o a = absurd a

-- ---- an entry of the client

module _ (reads_back : SentAreRead) (run : Run) (repos : Each IsSetUp run.repos) (past : List Entry) (e : Entry) (h : RunPast (set_up run) past) (step : RunStep (set_up run) past e) (r : ℕ) (own : is_of r e ≡ true) (was : Conversing past r) where
  abbrev s : SetUp
  s = set_up run r

  part : Part (set_up run) past r e
  part = part_of (set_up run) past e r step own

  own_p : OwnPast s past
  own_p = own_past run repos r past h

  run_now : OwnRun s (e ∷ past)
  run_now = (own_past run repos r (e ∷ past) (step, h)).run

  -- ---- a step of a job

  module _ (y : Stepped s past e) where
    abbrev t : Turn
    t = turn_at s past e y

    abbrev m : Effect
    m = y.made

    abbrev w : Work
    w = y.w

    runs : Member w (works past r)
    runs = stepped_runs s past e y

    made_is : e ≡ made_entry t m
    made_is = y.is

    taken_is : e.taken ≡ m.taken
    taken_is = ap (λ (x : Entry). x.taken) made_is

    sent_is : e.sent ≡ m.sent
    sent_is = ap (λ (x : Entry). x.sent) made_is

    -- what comes to it is the first on the way
    module _ (p : ℕ) (f : FrameView) (of_end : takes_at (job_end w p) f ≡ true) (may : may_take (end_at past r (job_end w p)) f ≡ true) (opened : (end_at past r (job_end w p)).opened ≡ true) (took : m.taken ≡ Some f) where
      abbrev n : ℕ
      n = (end_at past r (job_end w p)).epoch

      no_opening : is_opening f.body ≡ false
      no_opening = go (is_opening f.body) refl
        where
          go : (c : Bool) → is_opening f.body ≡ c → c ≡ false
          go true o = absurd (true≢false (sym opened ∙ opening_closed (end_at past r (job_end w p)) f o may))
          go false o = refl

      at_n : f.epoch ≡ n
      at_n = (may_epoch (end_at past r (job_end w p)) f no_opening may).1

      comes : MayTake past (down_way r p w.slot n) f
      comes = subst (λ k. MayTake past (down_way r p w.slot k) f) at_n (subst (λ (v : Way). MayTake past v f) (way_at r (job_end w p) f of_end) (part.frames.takes f (taken_is ∙ took)))

      first : (bs : List FrameText) → Queue past (down_way r p w.slot n) bs → First past e (down_way r p w.slot n) f bs
      first bs q = first_of past e (down_way r p w.slot n) f bs comes q

      pub suits : (on : partner w.what.peer w.phase ≡ Some p) → Conversation past r p w → Suits w.phase f.body
      suits on x = go x.there
        where
          by_talk : (down left : List FrameText) → x.down ≡ down → down ≡ f.body ∷ left → Suits w.phase f.body
          by_talk down left is comes_so = comes_suits w.phase x.z x.up left f.body
              (subst (λ (ds : List FrameText). Dialogue.Dialogue (phase_stance w.phase) x.z x.up ds) (is ∙ comes_so) (subst (λ (at : Stance). Dialogue.Dialogue at x.z x.up x.down) (stands_on w.what.peer w.phase (kept w p) p on) x.talk))

          shutting : (down rest left : List FrameText) → x.down ≡ down → down ++ Closing ∷ rest ≡ f.body ∷ left → Suits w.phase f.body
          shutting [] rest left is e = subst (Suits w.phase) (head e) tt
            where
              first_in : List FrameText → FrameText
              first_in [] = Closing
              first_in (c ∷ cs) = c

              head : Closing ∷ rest ≡ f.body ∷ left → Closing ≡ f.body
              head e = ap first_in e
          shutting (c ∷ cs) rest left is e = by_talk (c ∷ cs) cs is (ap (λ (b : FrameText). b ∷ cs) (ap first_in e))
            where
              first_in : List FrameText → FrameText
              first_in [] = Closing
              first_in (b ∷ bs) = b

          go : Where past r p w.slot n (end_at past p (server_end r w.slot)) (session past p (server_end r w.slot)) (stands_at w p) x.z x.up x.down → Suits w.phase f.body
          go (inl z) = absurd (let q = first x.down z.down_queue in let no' : [] ≡ f.body ∷ q.left = sym z.nothing ∙ q.bodies_is in cc)
          go (inr (inl z)) = let q = first x.down z.down_queue in by_talk x.down q.left refl q.bodies_is
          go (inr (inr z)) = let q = first (x.down ++ Closing ∷ z.rest) z.down_queue in shutting x.down z.rest q.left refl q.bodies_is

    free : (p : ℕ) → w.part ≢ Drops → kept w p ≡ false
    free p apart = ap (λ (hs : List (ℕ × Heard)). is_held (option_map (λ x. x.1) (find (λ x. x.0 == p) hs))) ((free_of s past own_p.run w runs).none apart)

    walks : Walks t
    walks = record {
      speaks = works_speak reads_back s past y.look own_p y.small w runs;
      fits = works_fit s past own_p.run w runs;
      no_locks = λ apart peer. free peer apart;
      target_free = (free_of s past own_p.run w runs).target_free;
      times_remote = λ is. subst (Stands r past (running_job w)) is (stands reads_back s past own_p w runs);
    }

    waits_suit : WaitsSuit t m
    waits_suit p on opened awaiting f waits took =
        let found = find_member (λ g. takes_at (job_end w p) g && may_take (end_at past r (job_end w p)) g) y.look.at_hand f waits in
        let both = and_parts (takes_at (job_end w p) f) (may_take (end_at past r (job_end w p)) f) found.1 in
        suits p f both.0 both.1 opened took on (was w runs p (live_on w.what.peer w.phase p on) opened)

    module _ (goes_on : (j : ℕ) (outcome : Outcome) → m.kind ≢ ends_job j outcome) where
      abbrev x : Work
      x = moved t m m.kind

      pub keeps : KeepsTo t m x × ClosesFor t m
      keeps = good_keeps t m m.kind goes_on (partner_good t m walks waits_suit (partner w.what.peer w.phase) refl y.does)

      like : running_job x ≡ running_job w
      like = kind_kept (rows_of t) r w (made_entry t m) m.kind

      slot_is : x.slot ≡ w.slot
      slot_is = ap (λ (j : RunningJob). j.slot) like

      peer_is : x.what.peer ≡ w.what.peer
      peer_is = ap (λ (j : RunningJob). j.what.peer) like

      module _ (p : ℕ) (p_other : p ≢ r) (other : is_of p e ≡ false) (live : IsLive x.phase) (now : (end_at (e ∷ past) r (job_end w p)).opened ≡ true) where
        abbrev a : EndName
        a = job_end w p

        abbrev c : End
        c = end_at past r (job_end w p)

        abbrev b : EndName
        b = server_end r w.slot

        abbrev mid : End
        mid = end_took c (taken_at a m.taken)

        after : end_at (e ∷ past) r a ≡ sends_all mid (sent_at a m.sent)
        after = end_own r past a e own ∙ (λ i. sends_all (end_took c (taken_at a (taken_is i))) (sent_at a (sent_is i)))

        now_made : (end_after a c (made_entry t m)).opened ≡ true
        now_made = ap (λ (z : End). z.opened) (sym after) ∙ now

        abbrev next : Stance
        next = stance w.what.peer x.phase (kept x p) p

        next_is : stands_at x p ≡ next
        next_is = ap (λ (o : Option ℕ). stance o x.phase (kept x p) p) peer_is

        -- what is sent there, one by one
        sent_wells : (fs : List FrameView) → ((g : FrameView) → Member g fs → Member g e.sent × (sends_at a g ≡ true)) → Each (SentWell c) fs
        sent_wells [] f = tt
        sent_wells (g ∷ gs) f = (one (f g (inl refl)), sent_wells gs (λ z k. f z (inr k)))
          where
            one : Member g e.sent × (sends_at a g ≡ true) → SentWell c g
            one k =
                let at : from_end g ≡ a = same_end-is (from_end g) a k.1 in
                subst (λ (z : EndName). SentWell (end_at past r z) g) at (client_sends s past part.words e part.own g k.0 (ap (λ (z : EndName). z.client) at))

        sent_there : Each (SentWell c) (sent_at a e.sent)
        sent_there = sent_wells (sent_at a e.sent) (λ g k. Member-filter_parts (sends_at a) e.sent g k)

        sent_made : sent_at a e.sent ≡ sent_at a m.sent
        sent_made = ap (sent_at a) sent_is

        taken_made : taken_at a e.taken ≡ taken_at a m.taken
        taken_made = ap (taken_at a) taken_is

        -- ---- the connection is opened

        open_all : (fs : List FrameView) → Each (SentWell c) fs → bodies fs ≡ Opening ∷ [] → Each (λ g. g.epoch ≡ c.epoch + 1) fs × ((sends_all c fs).epoch ≡ c.epoch + 1)
        open_all [] all is = absurd (cc)
        open_all (g ∷ []) all is = ((one all.0, tt), ap (λ (body : FrameText). (end_sends c body).epoch) first_is)
          where
            first_in : List FrameText → FrameText
            first_in [] = Closing
            first_in (z ∷ zs) = z

            first_is : g.body ≡ Opening
            first_is = ap first_in is

            one : SentWell c g → g.epoch ≡ c.epoch + 1
            one (inl z) = absurd (true≢false (sym (ap is_opening first_is) ∙ z.2))
            one (inr z) = z.1
        open_all (g ∷ g' ∷ gs) all is = absurd (let no' : bodies gs ≡ bodies gs = refl in more is)
          where
            tail : List FrameText → List FrameText
            tail [] = []
            tail (z ∷ zs) = zs

            more : g.body ∷ g'.body ∷ bodies gs ≡ Opening ∷ [] → ⊥
            more e = let no' : g'.body ∷ bodies gs ≡ [] = ap tail e in cc

        opens : OpensIt t (taken_at a m.taken) (sent_at a m.sent) next → Conversation (e ∷ past) r p x
        opens o = record {
          z = new_session;
          up = Opening ∷ [];
          down = [];
          talk = subst (λ (at : Stance). Dialogue.Dialogue at new_session (Opening ∷ []) []) (sym (next_is ∙ o.stands)) (refl, inl (refl, refl));
          knows = λ to greeted. absurd (let no' : false ≡ true = ap is_greeted (sym (next_is ∙ o.stands)) ∙ greeted in cc);
          there = subst (λ q. Where (e ∷ past) r p q (end_at (e ∷ past) r (record { peer = p; slot = q; client = true })).epoch (end_at (e ∷ past) p (server_end r q)) (session (e ∷ past) p (server_end r q)) (stands_at x p) new_session (Opening ∷ []) []) (sym slot_is)
              (subst (λ k. Where (e ∷ past) r p w.slot k (end_at (e ∷ past) p b) (session (e ∷ past) p b) (stands_at x p) new_session (Opening ∷ []) []) (sym epoch_now)
              (inl (record { later = rw other later; at_open = next_is ∙ o.stands; opening = refl; nothing = refl; up_queue = up_now; down_queue = down_now })));
        }
          where
            none_taken : taken_at a e.taken ≡ None
            none_taken = taken_made ∙ o.takes_none

            all : Each (λ g. g.epoch ≡ c.epoch + 1) (sent_at a m.sent) × ((sends_all c (sent_at a m.sent)).epoch ≡ c.epoch + 1)
            all = open_all (sent_at a m.sent) (subst (Each (SentWell c)) sent_made sent_there) o.opens

            epoch_now : (end_at (e ∷ past) r a).epoch ≡ c.epoch + 1
            epoch_now = ap (λ (z : End). z.epoch) after ∙ (ap (λ o. (sends_all (end_took c o) (sent_at a m.sent)).epoch) o.takes_none ∙ all.1)

            low : (end_at past p b).epoch ≤ c.epoch
            low = follows reads_back run repos past h r p w.slot (λ same. p_other (sym same))

            later : (end_at past p b).epoch < c.epoch + 1
            later = less (end_at past p b).epoch c.epoch low
              where
                less : (i j : ℕ) → i ≤ j → i < j + 1
                less i j l = omega (arith, l)

            next_later : (k : ℕ) → k < k + 1
            next_later k = omega arith

            up_now : Queue (e ∷ past) (up_way r p w.slot (c.epoch + 1)) (Opening ∷ [])
            up_now = subst (Queue (e ∷ past) (up_way r p w.slot (c.epoch + 1))) (ap bodies sent_made ∙ o.opens)
                (out_all r a (c.epoch + 1) past e own other [] (subst (Each (λ g. g.epoch ≡ c.epoch + 1)) (sym sent_made) all.0) (none_yet reads_back run repos past h r a (c.epoch + 1) (next_later c.epoch)))

            down_now : Queue (e ∷ past) (down_way r p w.slot (c.epoch + 1)) []
            down_now = in_none_taken r a (c.epoch + 1) past e own other [] none_taken (none_yet reads_back run repos past h p b (c.epoch + 1) later)

        -- ---- or the job goes on with it

        at_epoch : (fs : List FrameView) → c.opened ≡ true → Each (SentWell c) fs → Each (λ g. g.epoch ≡ c.epoch) fs
        at_epoch [] o all = tt
        at_epoch (g ∷ gs) o all = (one all.0, at_epoch gs o all.1)
          where
            one : SentWell c g → g.epoch ≡ c.epoch
            one (inl z) = z.1
            one (inr z) = absurd (true≢false (sym o ∙ z.0))

        at_greets : w.phase ≡ Greets p → is_greeted (stands_at w p) ≡ false
        at_greets is = ap is_greeted (stands_on w.what.peer w.phase (kept w p) p (ap (partner w.what.peer) is)) ∙ ap (λ (q : Phase). is_greeted (phase_stance q)) is

        -- the version that it knows then
        abbrev Told : Session → Type 0
        Told z = (f : FrameView) → m.taken ≡ Some f → takes_at a f ≡ true → w.phase ≡ Greets p → (k : ℕ) × (line_in f.body ≡ Some (Version k)) × (z.version ≡ k)

        knows_now : c.opened ≡ true → (z : Session) → KnowsVersion w p z → Told z → KnowsVersion x p z
        knows_now opened z knew told to greeted = by (known_or w p)
          where
            to_w : w.what.peer ≡ Some p
            to_w = sym peer_is ∙ to

            learnt : (Learns w (made_entry t m) x.version) → is_greeted (stands_at w p) ≡ true → x.version ≡ z.version
            learnt l g =
                let same : l.peer ≡ p = sym (eqb-true p l.peer (subst (λ (o : Option ℕ). option_is o l.peer ≡ true) to_w l.is_peer)) in
                absurd (true≢false (sym g ∙ at_greets (l.phase_is ∙ ap Greets same)))

            takes_of : (phase : Phase) → w.phase ≡ phase → partner w.what.peer phase ≡ Some p → is_awaiting phase ≡ true → Took t m p
            takes_of phase is on awaiting = partner_takes t m p (ap (partner w.what.peer) is ∙ on) (ap is_awaiting is ∙ awaiting) opened y.does

            by : (is_greeted (stands_at w p) ≡ true) ⊎ ((w.phase ≡ Opens p) ⊎ (w.phase ≡ Greets p)) → x.version ≡ z.version
            by (inl g) = elim ((kind_carries (rows_of t) r w (made_entry t m) m.kind).0) [
              | inl same ↦ same ∙ knew to_w g
              | inr l ↦ learnt l g
            ]
            by (inr (inl is)) =
                let took = takes_of (Opens p) is refl refl in
                let suit = suits p took.f took.of_end took.may opened took.taken_is (ap (partner w.what.peer) is) (was w runs p (live_on w.what.peer w.phase p (ap (partner w.what.peer) is)) opened) in
                absurd (true≢false (sym greeted ∙ opens_unknown t m p is walks.speaks.version took suit now_made))
            by (inr (inr is)) =
                let took = takes_of (Greets p) is refl refl in
                let k = told took.f took.taken_is took.of_end is in
                greeted_version t m p k.0 took.f is to_w took.taken_is k.1 m.kind (stepped_found s past e y).found goes_on live greeted ∙ sym k.2

        -- what came to it, where its version is asked
        told_by : (z : Session) (up left : List FrameText) (f : FrameView) → Dialogue.Dialogue (stands_at w p) z up (f.body ∷ left) → w.phase ≡ Greets p → (k : ℕ) × (line_in f.body ≡ Some (Version k)) × (z.version ≡ k)
        told_by z up left f talk is = go (subst (λ (q : Phase). Dialogue.Dialogue (phase_stance q) z up (f.body ∷ left)) is
            (subst (λ (at : Stance). Dialogue.Dialogue at z up (f.body ∷ left)) (stands_on w.what.peer w.phase (kept w p) p (ap (partner w.what.peer) is)) talk))
          where
            first_in : List FrameText → FrameText
            first_in [] = Closing
            first_in (v ∷ vs) = v

            go : Dialogue.Asked Dialogue.AtGreet z up (f.body ∷ left) → (k : ℕ) × (line_in f.body ≡ Some (Version k)) × (z.version ≡ k)
            go (inl v) = absurd (let no' : f.body ∷ left ≡ [] = v.none_down in cc)
            go (inr v) =
                let same : f.body ≡ v.body = ap first_in v.alone in
                let k = greets_told z (line_in v.body) v.fits in
                (k.0, ap line_in same ∙ k.1, k.2)

        -- put together
        build : (z : Session) (up down : List FrameText) → Dialogue.Dialogue next z up down → KnowsVersion x p z → (end_at (e ∷ past) r a).epoch ≡ c.epoch
            → Where (e ∷ past) r p w.slot c.epoch (end_at past p b) (session past p b) (stands_at x p) z up down → Conversation (e ∷ past) r p x
        build z up down talk knows epoch there = record {
          z = z;
          up = up;
          down = down;
          talk = subst (λ (at : Stance). Dialogue.Dialogue at z up down) (sym next_is) talk;
          knows = knows;
          there = subst (λ q. Where (e ∷ past) r p q (end_at (e ∷ past) r (record { peer = p; slot = q; client = true })).epoch (end_at (e ∷ past) p (server_end r q)) (session (e ∷ past) p (server_end r q)) (stands_at x p) z up down) (sym slot_is)
              (subst (λ k. Where (e ∷ past) r p w.slot k (end_at (e ∷ past) p b) (session (e ∷ past) p b) (stands_at x p) z up down) (sym epoch)
              (subst (λ (d : End). Where (e ∷ past) r p w.slot c.epoch d (session (e ∷ past) p b) (stands_at x p) z up down) (sym end_same)
              (subst (λ (v : Session). Where (e ∷ past) r p w.slot c.epoch (end_at past p b) v (stands_at x p) z up down) (sym session_same) there)));
        }
          where
            end_same : end_at (e ∷ past) p b ≡ end_at past p b
            end_same = rw other refl

            session_same : session (e ∷ past) p b ≡ session past p b
            session_same = rw other refl

        module _ (g : GoesOn t p (taken_at a m.taken) (sent_at a m.sent) next) where
          old : Conversation past r p w
          old = was w runs p g.live g.opened

          epochs : Each (λ g. g.epoch ≡ c.epoch) (sent_at a e.sent)
          epochs = at_epoch (sent_at a e.sent) g.opened sent_there

          up_now : Queue past (up_way r p w.slot c.epoch) old.up → Queue (e ∷ past) (up_way r p w.slot c.epoch) (old.up ++ bodies (sent_at a m.sent))
          up_now q = subst (λ fs. Queue (e ∷ past) (up_way r p w.slot c.epoch) (old.up ++ bodies fs)) sent_made (out_all r a c.epoch past e own other old.up epochs q)

          epoch_by : (o : Option FrameView) → taken_at a m.taken ≡ o → (end_took c o).epoch ≡ c.epoch → (end_at (e ∷ past) r a).epoch ≡ c.epoch
          epoch_by o is same = ap (λ (z : End). z.epoch) after ∙ (all_epoch mid (sent_at a m.sent) g.none_opens ∙ (ap (λ o. (end_took c o).epoch) is ∙ same))

          -- it takes nothing there
          takes_nothing : taken_at a m.taken ≡ None → Conversation (e ∷ past) r p x
          takes_nothing none = build old.z (old.up ++ bodies (sent_at a m.sent)) old.down talk (knows_now g.opened old.z old.knows told) (epoch_by None none refl) (go old.there)
            where
              talk : Dialogue.Dialogue next old.z (old.up ++ bodies (sent_at a m.sent)) old.down
              talk = g.keeps old.z old.up old.down old.knows (subst (λ (o : Option FrameView). Dialogue.Dialogue (stands_at w p) old.z old.up (body_of o ++ old.down)) (sym none) old.talk)

              not_some : (f : FrameView) → m.taken ≡ Some f → takes_at a f ≡ true → ⊥
              not_some f took of_end = let no' : None ≡ Some f = sym none ∙ (ap (taken_at a) took ∙ rw of_end refl) in cc

              told : Told old.z
              told f took of_end is = absurd (not_some f took of_end)

              down_still : (bs : List FrameText) → Queue past (down_way r p w.slot c.epoch) bs → Queue (e ∷ past) (down_way r p w.slot c.epoch) bs
              down_still bs q = in_none_taken r a c.epoch past e own other bs (taken_made ∙ none) q

              go : Where past r p w.slot c.epoch (end_at past p b) (session past p b) (stands_at w p) old.z old.up old.down
                  → Where (e ∷ past) r p w.slot c.epoch (end_at past p b) (session past p b) (stands_at x p) old.z (old.up ++ bodies (sent_at a m.sent)) old.down
              go (inl u) =
                  let is = at_open w p u.at_open in
                  let took = partner_takes t m p (ap (partner w.what.peer) is) (ap is_awaiting is) g.opened y.does in
                  absurd (not_some took.f took.taken_is took.of_end)
              go (inr (inl u)) = inr (inl (record { opened = u.opened; epoch_is = u.epoch_is; session_is = u.session_is; up_queue = up_now u.up_queue; down_queue = down_still old.down u.down_queue }))
              go (inr (inr u)) = inr (inr (record { rest = u.rest; down_queue = down_still (old.down ++ Closing ∷ u.rest) u.down_queue }))

          -- it takes the first
          takes_first : (f : FrameView) → taken_at a m.taken ≡ Some f → m.taken ≡ Some f → takes_at a f ≡ true → Conversation (e ∷ past) r p x
          takes_first f some took of_end = go old.there
            where
              may : may_take c f ≡ true
              may = ap (λ (z : EndName). may_take (end_at past r z) f) (sym (takes_end a f of_end)) ∙ own_takes s past part.words e f part.own (taken_is ∙ took)

              shut_no : is_opening f.body ≡ false
              shut_no = no_opening p f of_end may g.opened took

              epoch : (end_at (e ∷ past) r a).epoch ≡ c.epoch
              epoch = epoch_by (Some f) some (takes_epoch c f.epoch f.body shut_no)

              -- what is left, where this comes first
              goes_so : (left : List FrameText) → old.down ≡ f.body ∷ left
                  → Where (e ∷ past) r p w.slot c.epoch (end_at past p b) (session past p b) (stands_at x p) old.z (old.up ++ bodies (sent_at a m.sent)) left → Conversation (e ∷ past) r p x
              goes_so left is there =
                  let talk : Dialogue.Dialogue (stands_at w p) old.z old.up (f.body ∷ left) = subst (λ (ds : List FrameText). Dialogue.Dialogue (stands_at w p) old.z old.up ds) is old.talk in
                  build old.z (old.up ++ bodies (sent_at a m.sent)) left
                  (g.keeps old.z old.up left old.knows (subst (λ (o : Option FrameView). Dialogue.Dialogue (stands_at w p) old.z old.up (body_of o ++ left)) (sym some) talk))
                  (knows_now g.opened old.z old.knows (λ f' took' of_end' at. told f' took' talk at)) epoch there
                where
                  told : (f' : FrameView) → m.taken ≡ Some f' → Dialogue.Dialogue (stands_at w p) old.z old.up (f.body ∷ left) → w.phase ≡ Greets p → (k : ℕ) × (line_in f'.body ≡ Some (Version k)) × (old.z.version ≡ k)
                  told f' took' talk at =
                      let one : Some f ≡ Some f' = sym took ∙ took' in
                      let same : f ≡ f' = cc in
                      subst (λ (q : FrameView). (k : ℕ) × (line_in q.body ≡ Some (Version k)) × (old.z.version ≡ k)) same (told_by old.z old.up left f talk at)

              takes_down : (bs : List FrameText) → (q : First past e (down_way r p w.slot c.epoch) f bs) → Queue (e ∷ past) (down_way r p w.slot c.epoch) q.left
              takes_down bs q = in_takes r a c.epoch past e own other f bs (taken_made ∙ some) (at_n p f of_end may g.opened took) q

              closing_no : f.body ≡ Closing → ⊥
              closing_no is =
                  let open_mid : mid.opened ≡ true = all_opened mid (sent_at a m.sent) g.none_opens now_made in
                  true≢false (sym open_mid ∙ (ap (λ o. (end_took c o).opened) some ∙ ap (λ (body : FrameText). (end_takes c f.epoch body).opened) is))

              shutting : (down rest left : List FrameText) → old.down ≡ down → down ++ Closing ∷ rest ≡ f.body ∷ left → Queue (e ∷ past) (down_way r p w.slot c.epoch) left → Conversation (e ∷ past) r p x
              shutting [] rest left is comes_so q = absurd (closing_no (sym (ap first_in comes_so)))
                where
                  first_in : List FrameText → FrameText
                  first_in [] = Closing
                  first_in (v ∷ vs) = v
              shutting (v ∷ vs) rest left is comes_so q = goes_so vs (is ∙ ap (λ (body : FrameText). body ∷ vs) (ap first_in comes_so)) (inr (inr (record { rest = rest; down_queue = subst (Queue (e ∷ past) (down_way r p w.slot c.epoch)) (sym (ap others_in comes_so)) q })))
                where
                  first_in : List FrameText → FrameText
                  first_in [] = Closing
                  first_in (u ∷ us) = u

                  others_in : List FrameText → List FrameText
                  others_in [] = []
                  others_in (u ∷ us) = us

              go : Where past r p w.slot c.epoch (end_at past p b) (session past p b) (stands_at w p) old.z old.up old.down → Conversation (e ∷ past) r p x
              go (inl u) = absurd (let q = first p f of_end may g.opened took old.down u.down_queue in let no' : [] ≡ f.body ∷ q.left = sym u.nothing ∙ q.bodies_is in cc)
              go (inr (inl u)) = let q = first p f of_end may g.opened took old.down u.down_queue in
                  goes_so q.left q.bodies_is (inr (inl (record { opened = u.opened; epoch_is = u.epoch_is; session_is = u.session_is; up_queue = up_now u.up_queue; down_queue = takes_down old.down q })))
              go (inr (inr u)) = let q = first p f of_end may g.opened took (old.down ++ Closing ∷ u.rest) u.down_queue in
                  shutting old.down u.rest q.left refl q.bodies_is (takes_down (old.down ++ Closing ∷ u.rest) q)

          goes : Conversation (e ∷ past) r p x
          goes = by m.taken refl
            where
              by : (o : Option FrameView) → m.taken ≡ o → Conversation (e ∷ past) r p x
              by None took = takes_nothing (ap (taken_at a) took)
              by (Some f) took = here_or (takes_at a f) refl
                where
                  here_or : (k : Bool) → takes_at a f ≡ k → Conversation (e ∷ past) r p x
                  here_or true of_end = takes_first f (ap (taken_at a) took ∙ rw of_end refl) took of_end
                  here_or false off = takes_nothing (ap (taken_at a) took ∙ rw off refl)

        -- **the job's step keeps the dialogue**
        pub moved_goes : (option_is (partner w.what.peer w.phase) p ≡ false → kept w p ≡ true → kept x p ≡ true) → Conversation (e ∷ past) r p x
        moved_goes locks = elim (keeps.0.0 p locks live now_made) [ inl o ↦ opens o | inr g ↦ goes g ]

  -- ---- an entry that does nothing there

  quiet_goes : (x : Work) (p : ℕ) → is_of p e ≡ false → IsLive x.phase → (end_at (e ∷ past) r (job_end x p)).opened ≡ true → Quiet s past e x (job_end x p) → Conversation (e ∷ past) r p x
  quiet_goes x p other live now q = record { z = old.z; up = old.up; down = old.down; talk = old.talk; knows = old.knows; there = there }
    where
      old : Conversation past r p x
      old = was x q.ran p live (ap (λ (c : End). c.opened) (sym q.same) ∙ now)

      up_still : (bs : List FrameText) → Queue past (up_way r p x.slot (end_at past r (job_end x p)).epoch) bs → Queue (e ∷ past) (up_way r p x.slot (end_at past r (job_end x p)).epoch) bs
      up_still bs z = out_none r (job_end x p) (end_at past r (job_end x p)).epoch past e own other bs (subst (Each (λ g. (g.epoch == (end_at past r (job_end x p)).epoch) ≡ false)) (sym q.sends_none) tt) z

      down_still : (bs : List FrameText) → Queue past (down_way r p x.slot (end_at past r (job_end x p)).epoch) bs → Queue (e ∷ past) (down_way r p x.slot (end_at past r (job_end x p)).epoch) bs
      down_still bs z = in_none_taken r (job_end x p) (end_at past r (job_end x p)).epoch past e own other bs q.takes_none z

      still : Where past r p x.slot (end_at past r (job_end x p)).epoch (end_at past p (server_end r x.slot)) (session past p (server_end r x.slot)) (stands_at x p) old.z old.up old.down
          → Where (e ∷ past) r p x.slot (end_at past r (job_end x p)).epoch (end_at past p (server_end r x.slot)) (session past p (server_end r x.slot)) (stands_at x p) old.z old.up old.down
      still (inl u) = inl (record { later = u.later; at_open = u.at_open; opening = u.opening; nothing = u.nothing; up_queue = up_still old.up u.up_queue; down_queue = down_still old.down u.down_queue })
      still (inr (inl u)) = inr (inl (record { opened = u.opened; epoch_is = u.epoch_is; session_is = u.session_is; up_queue = up_still old.up u.up_queue; down_queue = down_still old.down u.down_queue }))
      still (inr (inr u)) = inr (inr (record { rest = u.rest; down_queue = down_still (old.down ++ Closing ∷ u.rest) u.down_queue }))

      end_same : end_at (e ∷ past) p (server_end r x.slot) ≡ end_at past p (server_end r x.slot)
      end_same = rw other refl

      session_same : session (e ∷ past) p (server_end r x.slot) ≡ session past p (server_end r x.slot)
      session_same = rw other refl

      there : Where (e ∷ past) r p x.slot (end_at (e ∷ past) r (job_end x p)).epoch (end_at (e ∷ past) p (server_end r x.slot)) (session (e ∷ past) p (server_end r x.slot)) (stands_at x p) old.z old.up old.down
      there = subst (λ k. Where (e ∷ past) r p x.slot k (end_at (e ∷ past) p (server_end r x.slot)) (session (e ∷ past) p (server_end r x.slot)) (stands_at x p) old.z old.up old.down) (sym (ap (λ (c : End). c.epoch) q.same))
          (subst (λ (d : End). Where (e ∷ past) r p x.slot (end_at past r (job_end x p)).epoch d (session (e ∷ past) p (server_end r x.slot)) (stands_at x p) old.z old.up old.down) (sym end_same)
          (subst (λ (v : Session). Where (e ∷ past) r p x.slot (end_at past r (job_end x p)).epoch (end_at past p (server_end r x.slot)) v (stands_at x p) old.z old.up old.down) (sym session_same) (still old.there)))

  -- **the dialogue goes on through an entry of the client**
  pub client_goes : Conversing (e ∷ past) r
  client_goes x k p live now = by (client_does reads_back s past e run_now own x p now k)
    where
      p_other : p ≢ r
      p_other = other_apart s p (open_runs reads_back s (e ∷ past) run_now (job_end x p) refl now).peer

      other : is_of p e ≡ false
      other = not_both e.repo r p own (λ same. p_other (sym same))

      by : ClientDoes s past e x (job_end x p) → Conversation (e ∷ past) r p x
      by (inl q) = quiet_goes x p other live now q
      by (inr v) = subst (Conversation (e ∷ past) r p) (sym v.work_is)
          (moved_goes v.by v.goes_on p p_other other (subst (λ (z : Work). IsLive z.phase) v.work_is live) now_w locks)
        where
          slot_same : x.slot ≡ v.by.w.slot
          slot_same = ap (λ (z : Work). z.slot) v.work_is ∙ slot_is v.by v.goes_on

          now_w : (end_at (e ∷ past) r (job_end v.by.w p)).opened ≡ true
          now_w = subst (λ q. (end_at (e ∷ past) r (record { peer = p; slot = q; client = true })).opened ≡ true) slot_same now

          locks : option_is (partner v.by.w.what.peer v.by.w.phase) p ≡ false → kept v.by.w p ≡ true → kept (moved (turn_at s past e v.by) v.by.made v.by.made.kind) p ≡ true
          locks off had = subst (λ (z : Work). kept z p ≡ true) v.work_is (elim (v.stood) [
            | inl same ↦ subst (λ (z : Work). kept z p ≡ true) same had
            | inr b ↦ lock_stays s past e x b.0 (works_fit s past own_p.run b.0.by.w (stepped_runs s past e b.0.by)) p p_other
                (subst (λ (z : Stepped s past e). option_is (partner z.w.what.peer z.w.phase) p ≡ false) (sym b.1) off) (subst (λ (z : Stepped s past e). kept z.w p ≡ true) (sym b.1) had)
          ])
