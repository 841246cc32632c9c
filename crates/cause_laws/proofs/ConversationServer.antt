-- **On an open connection of a running job, the dialogue through the entries of the server**: what its session does and what is on the way
-- suit where the job stands; or it is to take the Opening; or a Close is on the way.
use Rattle.std.proofs.Common.{◌≡◌, ℕ, ◌<◌, ◌≤◌, Bool, true, false, List, [], ◌∷◌, ◌++◌, Option, Some, None, ◌⊎◌, inl, inr, refl, sym, ap, ◌∙◌, subst, arith, append_assoc}
use Rattle.std.specs.Prelude.{◌==◌, filter, slice_get, suc, zero, ◌^◌}
use Rattle.std.proofs.lemmas.Bool.{true≢false, eqb-true}
use Rattle.std.proofs.lemmas.Bool.Decides.{nat_tests}
use Rattle.annex_base.specs.Lists.{Each, Member}
use Rattle.annex_base.proofs.Lists.{Member-filter_parts}
use Rattle.step_facts.proofs.Below.{SentAreRead}
use Rattle.run_data.specs.declared.entry.Entry.{Entry}
use Rattle.run_data.specs.declared.entry.FrameView.{FrameView}
use Rattle.run_data.specs.declared.entry.FrameText.{FrameText}
use Rattle.run_data.specs.declared.entry.FrameText.TheVariants.{Opening, Closing, Bytes, Line}
use Rattle.run_data.specs.declared.run.RepoView.{RepoView}
use Rattle.run_data.specs.declared.run.Run.{Run}
use Rattle.run_data.specs.Repos.{IsSetUp, id_of}
use Rattle.run_model.specs.Past.{is_of}
use Rattle.run_model.specs.Frames.{MayTake, Way}
use Rattle.p2p_wire.specs.declared.message.Message.TheVariants.{AuthSuccess}
use Rattle.p2p_wire.specs.Messages.{text_of}
use Rattle.node_model.specs.SetUp.{SetUp, version_in}
use Rattle.run_model.specs.States.{state_of, end_at, content, session}
use Rattle.node_model.specs.Ends.{End, EndName, end_takes, end_took, is_opening, may_take, sends_at, sent_at, server_end, taken_at, takes_at}
use Rattle.node_model.specs.Sessions.{Session, new_session, session_after}
use Rattle.node_model.specs.SessionStep.{here, on_frame}
use Rattle.node_model.specs.Look.{Look}
use Rattle.run_model.specs.Run.{OwnPast, RunPast, RunStep, set_up}
use Rattle.run_laws.proofs.WayCounts.{way_in, way_out}
use Rattle.step_facts.proofs.ServerEnds.{GivesHere, Shuts, TakesHere, at_server, same_end-is, takes_end}
use Rattle.step_facts.proofs.EndMoves.{OpensNone, all_epoch, end_own, end_shuts, may_epoch, opening_closed, sends_all, session_own, taken_none, takes_epoch, took_at}
use Rattle.step_facts.proofs.NewSessions.{closed_new}
use Rattle.step_facts.proofs.EndEpochs.{between, from_end, own_takes, server_sends}
use Rattle.job_facts.proofs.Dialogue
use Rattle.job_facts.proofs.Dialogue.{Stance, is_greeted}
use Rattle.dialogue_facts.proofs.DialogueTurns.{bodies}
use Rattle.dialogue_facts.proofs.DialogueReplies.{Opens, Spot, after_frame}
use Rattle.dialogue_facts.proofs.DialogueServes.{frame_serves}
use Rattle.dialogue_facts.proofs.DialogueGives.{gave_first, gives_serves}
use Rattle.dialogue_facts.proofs.DialogueCloses.{closes_no}
use Rattle.dialogue_facts.proofs.DialogueServer.{Stands, answer, gave_bodies, gave_stands, spot_of, taken_end, took_bodies, took_stands}
use Rattle.run_laws.proofs.SessionOwn.{way_at}
use Rattle.past_facts.proofs.OwnRuns.{Part, own_past, part_of}
use Rattle.cause_laws.proofs.Queues.{First, Queue, first_of, in_none_taken, in_still, in_takes, out_all, out_none, out_sends, hits}
use Rattle.cause_laws.proofs.Epochs.{client_end, opening_sent}

abbrev pub up_way : ℕ → ℕ → ℕ → ℕ → Way
up_way r p q n = way_out r (client_end p q) n

abbrev pub down_way : ℕ → ℕ → ℕ → ℕ → Way
down_way r p q n = way_in r (client_end p q) n

apart_below : (i j k : ℕ) → i ≡ j → j < k → (i == k) ≡ false
apart_below i j k same l = grind (arith, nat_tests)

-- ---- where the server is, at the client's opening n

-- it is to take the Opening
pub record Unopened (past : List Entry) (r p q n : ℕ) (d : End) (at : Stance) (up down : List FrameText) : Type 0 where
  pub later : d.epoch < n
  pub at_open : at ≡ Dialogue.AtOpen
  pub opening : up ≡ Opening ∷ []
  pub nothing : down ≡ []
  pub up_queue : Queue past (up_way r p q n) up
  pub down_queue : Queue past (down_way r p q n) down

-- its session serves it
pub record Serving (past : List Entry) (r p q n : ℕ) (d : End) (v z : Session) (up down : List FrameText) : Type 0 where
  pub opened : d.opened ≡ true
  pub epoch_is : d.epoch ≡ n
  pub session_is : v ≡ z
  pub up_queue : Queue past (up_way r p q n) up
  pub down_queue : Queue past (down_way r p q n) down

-- or a Close is on the way
pub record Shutting (past : List Entry) (r p q n : ℕ) (down : List FrameText) : Type 0 where
  pub rest : List FrameText
  pub down_queue : Queue past (down_way r p q n) (down ++ Closing ∷ rest)

abbrev pub Where : List Entry → ℕ → ℕ → ℕ → ℕ → End → Session → Stance → Session → List FrameText → List FrameText → Type 0
Where past r p q n d v at z up down = Unopened past r p q n d at up down ⊎ (Serving past r p q n d v z up down ⊎ Shutting past r p q n down)

-- the dialogue goes on, where the session was this one
pub record Continues (past : List Entry) (r p q n : ℕ) (d : End) (v : Session) (at : Stance) (was : Session) : Type 0 where
  pub z : Session
  pub up : List FrameText
  pub down : List FrameText
  pub talk : Dialogue.Dialogue at z up down
  pub version : is_greeted at ≡ true → z.version ≡ was.version
  pub there : Where past r p q n d v at z up down

-- ---- an entry of the server

oldest_in : (repos : List RepoView) (r : ℕ) → Each IsSetUp repos → 1 ≤ version_in (slice_get repos r)
oldest_in [] r all = omega arith
oldest_in (x ∷ xs) zero all = all.0.oldest
oldest_in (x ∷ xs) (suc r) all = oldest_in xs r all.1

module _ (reads_back : SentAreRead) (run : Run) (repos : Each IsSetUp run.repos) (past : List Entry) (e : Entry) (h : RunPast (set_up run) past) (step : RunStep (set_up run) past e) (r p q : ℕ) (own : is_of p e ≡ true) (other : is_of r e ≡ false) where
  abbrev s : SetUp
  s = set_up run p

  abbrev b : EndName
  b = server_end r q

  abbrev d : End
  d = end_at past p b

  abbrev v : Session
  v = session past p b

  abbrev n : ℕ
  n = (end_at past r (client_end p q)).epoch

  part : Part (set_up run) past p e
  part = part_of (set_up run) past e p step own

  own_p : OwnPast s past
  own_p = own_past run repos p past h

  spot : (k : Look) → k.part < 2 ^ 62 → e.time ≡ k.time → Spot (here s (state_of s past) k b)
  spot k small time = spot_of reads_back s past own_p part.own.known (oldest_in run.repos p repos) k small (subst (λ t. t ≤ 1000000000000) time step.order.in_time) b

  abbrev Then : Stance → Session → Type 0
  Then at was = Continues (e ∷ past) r p q n (end_at (e ∷ past) p b) (session (e ∷ past) p b) at was

  -- what it sends there is of the epoch that the end is at, once it took
  abbrev mid : End
  mid = between s past part.words e part.own b

  sent_each : (fs : List FrameView) → ((g : FrameView) → Member g fs → Member g e.sent × (sends_at b g ≡ true)) → Each (λ g. (g.epoch ≡ mid.epoch) × (is_opening g.body ≡ false)) fs
  sent_each [] f = tt
  sent_each (g ∷ gs) f = (one g (f g (inl refl)), sent_each gs (λ x m. f x (inr m)))
    where
      one : (g : FrameView) → Member g e.sent × (sends_at b g ≡ true) → (g.epoch ≡ mid.epoch) × (is_opening g.body ≡ false)
      one g m =
          let at : from_end g ≡ b = same_end-is (from_end g) b m.1 in
          let x = server_sends s past part.words e part.own g m.0 (ap (λ (a : EndName). a.client) at) in
          (x.0 ∙ ap (λ (a : EndName). (between s past part.words e part.own a).epoch) at, x.1)

  sent_there : Each (λ g. (g.epoch ≡ mid.epoch) × (is_opening g.body ≡ false)) (sent_at b e.sent)
  sent_there = sent_each (sent_at b e.sent) (λ g m. Member-filter_parts (sends_at b) e.sent g m)

  each_first : (fs : List FrameView) → Each (λ g. (g.epoch ≡ mid.epoch) × (is_opening g.body ≡ false)) fs → mid.epoch ≡ n → Each (λ g. g.epoch ≡ n) fs
  each_first [] all e = tt
  each_first (g ∷ gs) all e = (all.0.0 ∙ e, each_first gs all.1 e)

  each_none : (fs : List FrameView) → Each (λ g. (g.epoch ≡ mid.epoch) × (is_opening g.body ≡ false)) fs → mid.epoch < n → Each (λ g. (g.epoch == n) ≡ false) fs
  each_none [] all l = tt
  each_none (g ∷ gs) all l = (apart_below g.epoch mid.epoch n all.0.0 l, each_none gs all.1 l)

  each_opens : (fs : List FrameView) → Each (λ g. (g.epoch ≡ mid.epoch) × (is_opening g.body ≡ false)) fs → OpensNone fs
  each_opens [] all = tt
  each_opens (g ∷ gs) all = (all.0.1, each_opens gs all.1)

  -- a frame on the way to it
  comes : (f : FrameView) → e.taken ≡ Some f → takes_at b f ≡ true → f.epoch ≡ n → MayTake past (up_way r p q n) f
  comes f took of_end at = subst (λ k. MayTake past (up_way r p q k) f) at (subst (λ (w : Way). MayTake past w f) (way_at p b f of_end) (part.frames.takes f took))

  -- ---- a Close is on the way

  shutting : (at : Stance) (z : Session) (up down : List FrameText) → Dialogue.Dialogue at z up down → Shutting past r p q n down → Then at z
  shutting at z up down talk x = record {
    z = z;
    up = up;
    down = down;
    talk = talk;
    version = λ g. refl;
    there = inr (inr (record {
      rest = x.rest ++ bodies (filter (λ g. g.epoch == n) (sent_at b e.sent));
      down_queue = subst (Queue (e ∷ past) (down_way r p q n)) (append_assoc down (Closing ∷ x.rest) (bodies (filter (λ g. g.epoch == n) (sent_at b e.sent)))) (out_sends p b n past e own other (down ++ Closing ∷ x.rest) x.down_queue);
    }));
  }

  -- ---- it serves

  module _ (at : Stance) (z : Session) (up down : List FrameText) (talk : Dialogue.Dialogue at z up down) (x : Serving past r p q n d v z up down) where
    talk_v : Dialogue.Dialogue at v up down
    talk_v = subst (λ (w : Session). Dialogue.Dialogue at w up down) (sym x.session_is) talk

    -- it closes, and what it says is that
    closes_now : (fs : List FrameText) → bodies (sent_at b e.sent) ≡ Closing ∷ fs → mid.epoch ≡ n → Then at z
    closes_now fs is epoch = record {
      z = z;
      up = up;
      down = down;
      talk = talk;
      version = λ g. refl;
      there = inr (inr (record { rest = fs; down_queue = subst (λ (bs : List FrameText). Queue (e ∷ past) (down_way r p q n) (down ++ bs)) is (out_all p b n past e own other down (each_first (sent_at b e.sent) sent_there epoch) x.down_queue) }));
    }

    shuts_it : Shuts b e → Then at z
    shuts_it y = go (sent_at b e.sent) refl
      where
        epoch : mid.epoch ≡ n
        epoch = ap (λ o. (end_took d o).epoch) y.takes_none ∙ x.epoch_is

        go : (fs : List FrameView) → sent_at b e.sent ≡ fs → Then at z
        go [] none = record {
          z = z;
          up = up;
          down = down;
          talk = talk;
          version = λ g. refl;
          there = inr (inl (record {
            opened = ap (λ (c : End). c.opened) end_same ∙ x.opened;
            epoch_is = ap (λ (c : End). c.epoch) end_same ∙ x.epoch_is;
            session_is = session_own p past b e own ∙ ((λ i. session_after (content past p) e.kind v (none i) (y.takes_none i)) ∙ x.session_is);
            up_queue = in_none_taken p b n past e own other up y.takes_none x.up_queue;
            down_queue = out_none p b n past e own other down (subst (Each (λ g. (g.epoch == n) ≡ false)) (sym none) tt) x.down_queue;
          }));
        }
          where
            end_same : end_at (e ∷ past) p b ≡ d
            end_same = end_own p past b e own ∙ (end_shuts b d e y ∙ ap (sends_all d) none)
        go (f ∷ fs) some =
            let closing : f.body ≡ Closing = (subst (Each (λ g. g.body ≡ Closing)) some y.closes).0 in
            closes_now (bodies fs) (ap bodies some ∙ ap (λ (c : FrameText). c ∷ bodies fs) closing) epoch

    gives_it : GivesHere s past b e → Then at z
    gives_it y = elim (gives_serves (here s (state_of s past) y.k b) at v up down y.x talk_v y.next) [
      | inl shut ↦ closes_now [] (gave_bodies s past e b own y ∙ shut) epoch
      | inr says ↦ (let st = gave_stands s past e b own y says.0 in record {
        z = gave_first v y.x.says;
        up = up;
        down = down ++ y.x.says;
        talk = says.2;
        version = λ g. says.1 g ∙ ap (λ (w : Session). w.version) x.session_is;
        there = inr (inl (record {
          opened = st.opened_is ∙ x.opened;
          epoch_is = st.epoch_is ∙ x.epoch_is;
          session_is = st.session_is;
          up_queue = in_none_taken p b n past e own other up (taken_none s past b e y) x.up_queue;
          down_queue = subst (λ (bs : List FrameText). Queue (e ∷ past) (down_way r p q n) (down ++ bs)) (gave_bodies s past e b own y) (out_all p b n past e own other down (each_first (sent_at b e.sent) sent_there epoch) x.down_queue);
        }));
      })
    ]
      where
        epoch : mid.epoch ≡ n
        epoch = ap (λ o. (end_took d o).epoch) (taken_none s past b e y) ∙ x.epoch_is

    takes_it : (y : TakesHere s past b e) → is_opening y.f.body ≡ false → Then at z
    takes_it y no_opening = elim (frame_serves reads_back (content past p) (here s (state_of s past) y.k b) (spot y.k y.part_small y.time_is) at v y.f.body first.left down no_opening talk_first) [
      | inl shut ↦ closes_now [] (took_bodies s past e b own y ∙ shut) epoch
      | inr says ↦ (let st = took_stands s past e b own y says.0 in record {
        z = after_frame (content past p) v y.f.body (answer s past e b own y);
        up = first.left;
        down = down ++ (answer s past e b own y).says;
        talk = says.2;
        version = λ g. says.1 g ∙ ap (λ (w : Session). w.version) x.session_is;
        there = inr (inl (record {
          opened = st.opened_is ∙ stays y.f.body no_opening talk_first;
          epoch_is = st.epoch_is ∙ (takes_epoch d y.f.epoch y.f.body no_opening ∙ x.epoch_is);
          session_is = st.session_is;
          up_queue = in_takes p b n past e own other y.f up (took_at s past b e y) at_n first;
          down_queue = subst (λ (bs : List FrameText). Queue (e ∷ past) (down_way r p q n) (down ++ bs)) (took_bodies s past e b own y) (out_all p b n past e own other down (each_first (sent_at b e.sent) sent_there epoch) x.down_queue);
        }));
      })
    ]
      where
        at_n : y.f.epoch ≡ n
        at_n = (may_epoch d y.f no_opening y.may).1 ∙ x.epoch_is

        first : First past e (up_way r p q n) y.f up
        first = first_of past e (up_way r p q n) y.f up (comes y.f y.taken_is y.of_end at_n) x.up_queue

        talk_first : Dialogue.Dialogue at v (y.f.body ∷ first.left) down
        talk_first = subst (λ (us : List FrameText). Dialogue.Dialogue at v us down) first.bodies_is talk_v

        epoch : mid.epoch ≡ n
        epoch = ap (λ o. (end_took d o).epoch) (took_at s past b e y) ∙ (takes_epoch d y.f.epoch y.f.body no_opening ∙ x.epoch_is)

        stays : (body : FrameText) → is_opening body ≡ false → Dialogue.Dialogue at v (body ∷ first.left) down → (end_takes d y.f.epoch body).opened ≡ true
        stays Opening o t = absurd (cc)
        stays Closing o t = absurd (closes_no at v first.left down t)
        stays (Bytes k) o t = x.opened
        stays (Line text) o t = x.opened

    serves : Then at z
    serves = elim (at_server s past part.words e r q part.own) [
      | inl y ↦ shuts_it y
      | inr y ↦ elim y [
        | inl y ↦ by y (is_opening y.f.body) refl
        | inr y ↦ gives_it y
      ]
    ]
      where
        by : (y : TakesHere s past b e) → (c : Bool) → is_opening y.f.body ≡ c → Then at z
        by y false o = takes_it y o
        by y true o = absurd (true≢false (sym x.opened ∙ opening_closed d y.f o y.may))

  -- ---- it is to take the Opening

  module _ (at : Stance) (z : Session) (up down : List FrameText) (talk : Dialogue.Dialogue at z up down) (x : Unopened past r p q n d at up down) where
    -- it does something else
    stays_away : mid.epoch < n → (up' : Queue (e ∷ past) (up_way r p q n) up) → Then at z
    stays_away later up' = record {
      z = z;
      up = up;
      down = down;
      talk = talk;
      version = λ g. refl;
      there = inl (record {
        later = subst (λ k. k < n) (sym (ap (λ (c : End). c.epoch) (end_own p past b e own) ∙ all_epoch mid (sent_at b e.sent) (each_opens (sent_at b e.sent) sent_there))) later;
        at_open = x.at_open;
        opening = x.opening;
        nothing = x.nothing;
        up_queue = up';
        down_queue = out_none p b n past e own other down (each_none (sent_at b e.sent) sent_there later) x.down_queue;
      });
    }

    -- it takes it
    opens_it : (y : TakesHere s past b e) → y.f.body ≡ Opening → y.f.epoch ≡ n → Then at z
    opens_it y is at_n = record {
      z = v;
      up = [];
      down = told ∷ [];
      talk = subst (λ (a : Stance). Dialogue.Dialogue a v [] (told ∷ [])) (sym x.at_open) (v_new, inr (refl, told, id_of run.repos p, refl, (spot y.k y.part_small y.time_is).auth));
      version = λ g. absurd (let no' : false ≡ true = ap is_greeted (sym x.at_open) ∙ g in cc);
      there = inr (inl (record {
        opened = st.opened_is ∙ ap (λ (body : FrameText). (end_takes d y.f.epoch body).opened) is;
        epoch_is = st.epoch_is ∙ (ap (λ (body : FrameText). (end_takes d y.f.epoch body).epoch) is ∙ at_n);
        session_is = st.session_is ∙ ap (λ (body : FrameText). after_frame (content past p) v body (on_frame (here s (state_of s past) y.k b) v body)) is;
        up_queue = subst (Queue (e ∷ past) (up_way r p q n)) none_left (in_takes p b n past e own other y.f up (took_at s past b e y) at_n first);
        down_queue = subst (Queue (e ∷ past) (down_way r p q n)) (ap (λ (ds : List FrameText). ds ++ bodies (sent_at b e.sent)) x.nothing ∙ (took_bodies s past e b own y ∙ says_is))
            (out_all p b n past e own other down (each_first (sent_at b e.sent) sent_there epoch) x.down_queue);
      }));
    }
      where
        told : FrameText
        told = Line (text_of (AuthSuccess (id_of run.repos p)))

        first : First past e (up_way r p q n) y.f up
        first = first_of past e (up_way r p q n) y.f up (comes y.f y.taken_is y.of_end at_n) x.up_queue

        rest_of : List FrameText → List FrameText
        rest_of [] = []
        rest_of (c ∷ cs) = cs

        none_left : first.left ≡ []
        none_left = ap rest_of (sym first.bodies_is ∙ x.opening)

        says_is : (answer s past e b own y).says ≡ told ∷ []
        says_is = ap (λ (body : FrameText). (on_frame (here s (state_of s past) y.k b) v body).says) is

        opens_said : Opens (answer s past e b own y).says
        opens_said = subst Opens (sym says_is) (refl, tt)

        st : Stands s past e b own (taken_end s past e b own y) (after_frame (content past p) v y.f.body (answer s past e b own y))
        st = took_stands s past e b own y opens_said

        v_new : v ≡ new_session
        v_new = closed_new s r q past own_p.run (opening_closed d y.f (ap is_opening is) y.may)

        epoch : mid.epoch ≡ n
        epoch = ap (λ o. (end_took d o).epoch) (took_at s past b e y) ∙ (ap (λ (body : FrameText). (end_takes d y.f.epoch body).epoch) is ∙ at_n)

    takes_there : (f : FrameView) → taken_at b e.taken ≡ Some f → e.taken ≡ Some f → takes_at b f ≡ true → Then at z
    takes_there f at_b took of_end = by f.body refl (f.epoch == n) refl
      where
        may : may_take d f ≡ true
        may = ap (λ (a : EndName). may_take (end_at past p a) f) (sym (takes_end b f of_end)) ∙ own_takes s past part.words e f part.own took

        mid_is : mid.epoch ≡ (end_takes d f.epoch f.body).epoch
        mid_is = ap (λ o. (end_took d o).epoch) at_b

        no_hit : (f.epoch == n) ≡ false → Queue (e ∷ past) (up_way r p q n) up
        no_hit apart = in_still p b n past e own other up (ap (λ o. hits n o) at_b ∙ apart) x.up_queue

        less : (i j k : ℕ) → i ≡ j → j < k → i < k
        less i j k same l = omega (arith, same, l)

        smaller : (i k : ℕ) → i ≤ k → (i == k) ≡ false → i < k
        smaller i k l apart = grind (arith, nat_tests)

        -- no Opening: it is of the end's epoch
        older : (body : FrameText) → f.body ≡ body → is_opening body ≡ false → Then at z
        older body is o =
            let epoch : f.epoch ≡ d.epoch = (may_epoch d f (ap is_opening is ∙ o) may).1 in
            stays_away (less mid.epoch d.epoch n (mid_is ∙ takes_epoch d f.epoch f.body (ap is_opening is ∙ o)) x.later) (no_hit (apart_below f.epoch d.epoch n epoch x.later))

        by : (body : FrameText) → f.body ≡ body → (c : Bool) → (f.epoch == n) ≡ c → Then at z
        by Opening is true same = elim (at_server s past part.words e r q part.own) [
          | inl y ↦ absurd (let no' : None ≡ Some f = sym y.takes_none ∙ at_b in cc)
          | inr y ↦ elim y [
            | inl y ↦ (let one : Some y.f ≡ Some f = sym y.taken_is ∙ took in let f_is : y.f ≡ f = cc in opens_it y (ap (λ (g : FrameView). g.body) f_is ∙ is) (ap (λ (g : FrameView). g.epoch) f_is ∙ eqb-true f.epoch n same))
            | inr y ↦ absurd (let no' : None ≡ Some f = sym (taken_none s past b e y) ∙ at_b in cc)
          ]
        ]
        by Opening is false apart =
            let low : f.epoch ≤ n = opening_sent reads_back run repos past h r p q f.epoch f (subst (λ (w : Way). MayTake past w f) (way_at p b f of_end) (part.frames.takes f took)) in
            stays_away (less mid.epoch f.epoch n (mid_is ∙ ap (λ (body : FrameText). (end_takes d f.epoch body).epoch) is) (smaller f.epoch n low apart)) (no_hit apart)
        by Closing is c same = older Closing is refl
        by (Bytes k) is c same = older (Bytes k) is refl
        by (Line text) is c same = older (Line text) is refl

    unopened : Then at z
    unopened = go e.taken refl
      where
        away : taken_at b e.taken ≡ None → Then at z
        away none = stays_away (subst (λ k. k < n) (sym (ap (λ o. (end_took d o).epoch) none)) x.later) (in_none_taken p b n past e own other up none x.up_queue)

        go : (o : Option FrameView) → e.taken ≡ o → Then at z
        go None took = away (ap (taken_at b) took)
        go (Some f) took = here_or (takes_at b f) refl
          where
            here_or : (c : Bool) → takes_at b f ≡ c → Then at z
            here_or true of_end = takes_there f (ap (taken_at b) took ∙ rw of_end refl) took of_end
            here_or false off = away (ap (taken_at b) took ∙ rw off refl)

  -- **the dialogue goes on**
  pub server_goes : (at : Stance) (z : Session) (up down : List FrameText) → Dialogue.Dialogue at z up down → Where past r p q n d v at z up down → Then at z
  server_goes at z up down talk (inl x) = unopened at z up down talk x
  server_goes at z up down talk (inr (inl x)) = serves at z up down talk x
  server_goes at z up down talk (inr (inr x)) = shutting at z up down talk x
