-- Where a sound driver is settled, no job stands on a connection, and none that is to go on lacks room.
use Rattle.std.proofs.Common.{◌≡◌, ◌≢◌, ℕ, ◌<◌, ◌≤◌, Bool, true, false, List, [], ◌∷◌, ◌++◌, Option, Some, None, inl, inr, refl, sym, ap, ◌∙◌, subst, arith, true≢false}
use Rattle.std.specs.Prelude.{if◌then◌else◌, ◌&&◌, ◌==◌, find, length, slice_get}
use Rattle.std.specs.List.{list_all}
use Rattle.std.proofs.lemmas.Bool.{and_from}
use Rattle.std.proofs.lemmas.List.{reverse-reverse}
use Rattle.annex_base.specs.Lists.{Member}
use Rattle.annex_base.proofs.Conditions.{eqb_refl}
use Rattle.annex_base.proofs.Lists.{Each-member, Member-append_left, Member-filter_from, Member-filter_parts, Member-flat_map, Member-map, find_member}
use Rattle.run_data.specs.declared.entry.FrameView.{FrameView}
use Rattle.run_data.specs.declared.entry.FrameText.{FrameText}
use Rattle.run_data.specs.declared.entry.FrameText.TheVariants.{Opening, Closing}
use Rattle.node_model.specs.AnyTime.{all_ends, ends_with}
use Rattle.node_model.specs.Ends.{EndName, is_opening, may_take, server_end, takes_at}
use Rattle.node_model.specs.Jobs.{Phase, PutsBytes, PutsWord, Work, job_end, partner}
use Rattle.node_model.specs.JobStep.{Turn, end_with, turn_of}
use Rattle.node_model.specs.Look.{Look, waiting_frame}
use Rattle.node_model.specs.Sessions.{Session}
use Rattle.node_model.specs.SessionStep.{gives_next, here}
use Rattle.node_model.specs.SetUp.{SetUp, others, slots}
use Rattle.node_model.specs.Step.{step}
use Rattle.node_model.specs.Turns.{awaits, by_partner, goes, goes_on, has_room, is_awaiting, needs, takes_frame, with_partner}
use Rattle.run_model.specs.Frames.{frames_sent, taken_count}
use Rattle.run_model.specs.Run.{OwnRun, RunPast, paths_at, set_up}
use Rattle.run_model.specs.States.{end_at, session, state_of, works}
use Rattle.step_facts.proofs.Below.{SentAreRead}
use Rattle.step_facts.proofs.ClientCounts.{IsLive, none_is}
use Rattle.step_facts.proofs.ClientTurns.{live_on}
use Rattle.past_facts.proofs.OwnRuns.{own_past}
use Rattle.job_facts.proofs.Dialogue
use Rattle.job_facts.proofs.Dialogue.{Stance, kept, phase_stance, rests, stands_at}
use Rattle.job_facts.proofs.OpenEnds.{open_runs}
use Rattle.job_facts.proofs.OwnTried.{other_apart}
use Rattle.dialogue_facts.proofs.DialogueTurns.{rests_at, stands_on}
use Rattle.cause_laws.proofs.ConversationClient.{Conversation}
use Rattle.cause_laws.proofs.ConversationServer.{Shutting, Where, down_way, up_way}
use Rattle.cause_laws.proofs.Conversations.{conversing}
use Rattle.cause_laws.proofs.Epochs.{client_end}
use Rattle.cause_laws.proofs.Queues.{Queue}
use Rattle.driver_model.specs.Driver as rings
use Rattle.driver_model.specs.Driver.{Driver, DriverInput, Flight, frames_to, is_sent_by, set_up_of}
use Rattle.driver_model.specs.Driving.{run_with}
use Rattle.driver_model.specs.Sound.{ComesDown, IsSound}
use Rattle.driver_model.specs.Turning.{plain_look}
use Rattle.driver_model.specs.Ways.{IsOver}
use Rattle.driver_model.proofs.Scripted.{other_is}
use Rattle.rest_laws.specs.Settled.{IsSettled}
use Rattle.rest_laws.proofs.Comes.{ComesDownTo, comes_down, first_next, first_opening, first_young, none_down, served}
use Rattle.rest_laws.proofs.Flown.{IsNext, next_flies, steps_of_it}
use Rattle.rest_laws.proofs.Found.{found_some, gives_none, job_none}
use Rattle.rest_laws.proofs.Leaving.{Leaves, at_hand_first, first_comes, leaves, room_there, sent, sent_from}
use Rattle.rest_laws.proofs.Moves.{Moves, moves, rests_down, sends_down}
use Rattle.rest_laws.proofs.Places.{other_known, work_slot}
use Rattle.rest_laws.proofs.Queued.{IsSome, empty_next, shut_over, some_next}
use Rattle.rest_laws.proofs.Unturned.{IdleTurns, IsYoung, none}
use Rattle.rest_laws.proofs.Upward.{none_up}

at_open_no : (k : Bool) → rests k ≡ Dialogue.AtOpen → ⊥
at_open_no true e = cc
at_open_no false e = cc

sends_no : (phase : Phase) → is_awaiting phase ≡ false → phase_stance phase ≡ Dialogue.AtOpen → ⊥
sends_no (PutsBytes peer start at left) idle e = cc
sends_no (PutsWord peer start) idle e = cc
sends_no phase idle e = true≢false idle

client_in : (s : SetUp) (p q : ℕ) → Member p (others s) → Member q slots → Member (client_end p q) (all_ends s)
client_in s p q mp mq = Member-flat_map (λ n. ends_with n true ++ ends_with n false) (others s) p (client_end p q) mp
    (Member-append_left (ends_with p true) (ends_with p false) (client_end p q) (Member-map (λ slot. client_end p slot) slots q mq))

module _ (reads_back : SentAreRead) (turns : IdleTurns) (g : DriverInput) (d : Driver) (sound : IsSound g d) (settled : IsSettled g d) (c : ℕ) (known : c < length g.repos) where
  h : RunPast (set_up (run_with g d)) d.past
  h = steps_of_it g d sound

  run_c : OwnRun (set_up (run_with g d) c) d.past
  run_c = (own_past (run_with g d) sound.run.repos c d.past h).run

  -- with the paths as the driver has them
  pub own_c : OwnRun (set_up_of g d c) d.past
  own_c = subst (λ (s : SetUp). OwnRun s d.past) same run_c
    where
      same : Path SetUp (set_up (run_with g d) c) (set_up_of g d c)
      same i = record { number = c; repos = g.repos; paths = paths_at d.tree (reverse-reverse d.past i) c }

  abbrev s : SetUp
  s = set_up_of g d c

  abbrev k : Look
  k = plain_look (set_up_of g d c) d

  pub none_c : step (set_up_of g d c) (state_of (set_up_of g d c) d.past) (plain_look (set_up_of g d c) d) ≡ None
  none_c = none turns g d settled c known

  -- ---- a connection with p

  module _ (p q : ℕ) (mp : Member p (others (set_up_of g d c))) (mq : Member q slots) where
    abbrev a : EndName
    a = client_end p q

    abbrev b : EndName
    b = server_end c q

    known_p : p < length g.repos
    known_p = other_known (set_up_of g d c) p mp

    apart : c ≢ p
    apart same = other_apart (set_up_of g d c) p mp (sym same)

    mc : Member c (others (set_up_of g d p))
    mc = other_is (set_up_of g d p) c known apart

    pub up_none : sent p (server_end c q) d.flights ≡ [] → sent c (client_end p q) d.flights ≡ []
    up_none e = none_up reads_back turns g d sound settled c p q known_p mc mq apart (room_there p b d.flights e)

    pub room_up : sent c (client_end p q) d.flights ≡ [] → rings.has_room c d.flights (client_end p q) ≡ true
    room_up e = room_there c a d.flights e

    -- a closed end has room
    pub shut_room : (end_at d.past c (client_end p q)).opened ≡ false → rings.has_room c d.flights (client_end p q) ≡ true
    shut_room closed = room_up (up_none (none_down reads_back turns g d sound settled c p q apart known closed))

    module _ (opened : (end_at d.past c (client_end p q)).opened ≡ true) where
      abbrev n : ℕ
      n = (end_at d.past c (client_end p q)).epoch

      not_over : IsOver (end_at d.past c (client_end p q)) (end_at d.past c (client_end p q)).epoch → ⊥
      not_over (inl l) = omega (arith, l)
      not_over (inr z) = true≢false (sym opened ∙ z.1)

      -- what a queue has flies
      down_flies : (bs : List FrameText) → Queue d.past (down_way c p q (end_at d.past c (client_end p q)).epoch) bs → IsSome bs → sent p (server_end c q) d.flights ≡ [] → ⊥
      down_flies bs que some e =
          let it = some_next d.past (down_way c p q n) bs que some in
          let z = next_flies g d sound p b n it.0 it.1 not_over in
          subst (Member z.z) e (Member-filter_from (is_sent_by p b) d.flights z.z z.flies (sent_from p b z.z z.leaves))

      up_flies : (bs : List FrameText) → Queue d.past (up_way c p q (end_at d.past c (client_end p q)).epoch) bs → IsSome bs → (IsOver (end_at d.past p (server_end c q)) (end_at d.past c (client_end p q)).epoch → ⊥)
          → sent c (client_end p q) d.flights ≡ [] → ⊥
      up_flies bs que some young e =
          let it = some_next d.past (up_way c p q n) bs que some in
          let z = next_flies g d sound c a n it.0 it.1 young in
          subst (Member z.z) e (Member-filter_from (is_sent_by c a) d.flights z.z z.flies (sent_from c a z.z z.leaves))

      -- where a queue is empty nothing flies
      pub down_empty : Queue d.past (down_way c p q (end_at d.past c (client_end p q)).epoch) [] → sent p (server_end c q) d.flights ≡ []
      down_empty que = go (sent p b d.flights) refl
        where
          go : (xs : List Flight) → sent p b d.flights ≡ xs → xs ≡ []
          go [] e = refl
          go (x ∷ ys) e =
              let z = comes_down reads_back turns g d sound settled c p q apart known x ys e in
              absurd (empty_next d.past (down_way c p q n) z.next.it que (subst (λ m. slice_get (frames_sent d.past (down_way c p q m)) (taken_count d.past (down_way c p q m)) ≡ Some z.next.it) z.epoch_is z.next.next))

      up_empty : (end_at d.past p (server_end c q)).epoch ≡ (end_at d.past c (client_end p q)).epoch → Queue d.past (up_way c p q (end_at d.past c (client_end p q)).epoch) [] → sent c (client_end p q) d.flights ≡ []
      up_empty at que = go (sent c a d.flights) refl
        where
          go : (xs : List Flight) → sent c a d.flights ≡ xs → xs ≡ []
          go [] e = refl
          go (x ∷ ys) e = absurd (by (first_young reads_back turns g d sound settled c p q known_p mc mq x ys e))
            where
              high : x.frame.epoch ≤ (end_at d.past c (client_end p q)).epoch
              high = first_opening reads_back turns g d sound settled c p q known_p mc mq x ys e

              next : IsNext g d sound c (client_end p q) x
              next = first_next reads_back turns g d sound settled c p q known_p mc mq x ys e

              by : IsYoung (end_at d.past p (server_end c q)) x.frame.epoch → ⊥
              by (inl l) = let i = high in omega (arith, l, i, at)
              by (inr y) = empty_next d.past (up_way c p q n) next.it que (subst (λ m. slice_get (frames_sent d.past (up_way c p q m)) (taken_count d.past (up_way c p q m)) ≡ Some next.it) (y.0 ∙ at) next.next)

      -- where the server is past the opening, nothing flies up
      pub up_over : IsOver (end_at d.past p (server_end c q)) (end_at d.past c (client_end p q)).epoch → sent c (client_end p q) d.flights ≡ []
      up_over over = go (sent c a d.flights) refl
        where
          go : (xs : List Flight) → sent c a d.flights ≡ xs → xs ≡ []
          go [] e = refl
          go (x ∷ ys) e = absurd (by (first_young reads_back turns g d sound settled c p q known_p mc mq x ys e) over)
            where
              high : x.frame.epoch ≤ (end_at d.past c (client_end p q)).epoch
              high = first_opening reads_back turns g d sound settled c p q known_p mc mq x ys e

              by : IsYoung (end_at d.past p (server_end c q)) x.frame.epoch → IsOver (end_at d.past p (server_end c q)) (end_at d.past c (client_end p q)).epoch → ⊥
              by (inl l) (inl m) = let i = high in omega (arith, l, i, m)
              by (inl l) (inr m) = let i = high in let j = m.0 in omega (arith, l, i, j)
              by (inr y) (inl m) = let i = high in let j = y.0 in omega (arith, i, j, m)
              by (inr y) (inr m) = true≢false (sym y.1 ∙ m.1)

      -- a Close is on the way down: the server is past the opening
      pub shutting_over : (down : List FrameText) → Shutting d.past c p q (end_at d.past c (client_end p q)).epoch down → IsOver (end_at d.past p (server_end c q)) (end_at d.past c (client_end p q)).epoch
      shutting_over down u = shut_over reads_back (run_with g d) sound.run.repos c p q d.past h n down u

  -- ---- a job

  module _ (w : Work) (m : Member w (works d.past c)) where
    abbrev t : Turn
    t = turn_of (set_up_of g d c) (state_of (set_up_of g d c) d.past) (plain_look (set_up_of g d c) d) w

    mq_w : Member w.slot slots
    mq_w = work_slot d.past c w m

    stuck : by_partner t (partner w.what.peer w.phase) ≡ None
    stuck = job_none (set_up_of g d c) d.past (plain_look (set_up_of g d c) d) none_c own_c w m mq_w

    module _ (p : ℕ) (opened : (end_at d.past c (client_end p w.slot)).opened ≡ true) where
      mp : Member p (others (set_up_of g d c))
      mp = (open_runs reads_back (set_up (run_with g d) c) d.past run_c (client_end p w.slot) refl opened).peer

      talks : IsLive w.phase → Conversation d.past c p w
      talks live = conversing reads_back (run_with g d) sound.run.repos d.past h c w m p live opened

      -- ---- it awaits a frame there

      module _ (on : partner w.what.peer w.phase ≡ Some p) (awaiting : is_awaiting w.phase ≡ true) where
        awaits_none : awaits t p (waiting_frame (end_with t p) k (job_end w p)) ≡ None
        awaits_none =
            let one : with_partner t p (end_with t p).opened ≡ None = subst (λ (o : Option ℕ). by_partner t o ≡ None) on stuck in
            let two : with_partner t p true ≡ None = subst (λ (o : Bool). with_partner t p o ≡ None) opened one in
            subst (λ (o : Bool). (if o then awaits t p (waiting_frame (end_with t p) k (job_end w p)) else goes_on t) ≡ None) awaiting two

        -- so nothing flies down, where it has room
        takes_it : sent c (client_end p w.slot) d.flights ≡ [] → (x : Flight) (ys : List Flight) → sent p (server_end c w.slot) d.flights ≡ x ∷ ys → ⊥
        takes_it up x ys e = found_some (λ f. takes_at (client_end p w.slot) f && may_take (end_at d.past c (client_end p w.slot)) f) k.at_hand x.frame there (and_from _ _ at may) waits
          where
            z : ComesDownTo reads_back turns g d sound settled c p w.slot (apart p w.slot mp mq_w) known x
            z = comes_down reads_back turns g d sound settled c p w.slot (apart p w.slot mp mq_w) known x ys e

            room : has_room t p ≡ true
            room = room_up p w.slot mp mq_w up

            none_waits : (o : Option FrameView) → awaits t p o ≡ None → o ≡ None
            none_waits None i = refl
            none_waits (Some f) i = absurd (let no' : Some (takes_frame t p f f.body) ≡ None = subst (λ (r : Bool). (if r then Some (takes_frame t p f f.body) else None) ≡ None) room i in cc)

            waits : waiting_frame (end_with t p) k (job_end w p) ≡ None
            waits = none_waits (waiting_frame (end_with t p) k (job_end w p)) awaits_none

            comes : find (takes_at (client_end p w.slot)) (frames_to c d.flights) ≡ Some x.frame
            comes = first_comes p (server_end c w.slot) d.flights x ys e

            there : Member x.frame k.at_hand
            there = at_hand_first (set_up_of g d c) (frames_to c d.flights) (client_end p w.slot) x.frame (client_in (set_up_of g d c) p w.slot mp mq_w) comes

            at : takes_at (client_end p w.slot) x.frame ≡ true
            at = (find_member (takes_at (client_end p w.slot)) (frames_to c d.flights) x.frame comes).1

            in_it : Member x d.flights × Leaves p (server_end c w.slot) x
            in_it = let two = Member-filter_parts (is_sent_by p (server_end c w.slot)) d.flights x (subst (Member x) (sym e) (inl refl)) in (two.0, leaves p (server_end c w.slot) x two.1)

            plain : is_opening x.frame.body ≡ false
            plain = Each-member ComesDown d.flights x sound.down in_it.0 in_it.1.up_is

            may : may_take (end_at d.past c (client_end p w.slot)) x.frame ≡ true
            may = rw plain (and_from (end_at d.past c (client_end p w.slot)).opened _ opened (ap (λ j. j == (end_at d.past c (client_end p w.slot)).epoch) z.epoch_is ∙ eqb_refl (end_at d.past c (client_end p w.slot)).epoch))

        down_goes : (xs : List Flight) → sent p (server_end c w.slot) d.flights ≡ xs → sent c (client_end p w.slot) d.flights ≡ [] → (xs ≡ [] → ⊥) → ⊥
        down_goes [] e up some = some refl
        down_goes (x ∷ ys) e up some = takes_it up x ys e

        awaits_no : ⊥
        awaits_no = go x.there
          where
            x : Conversation d.past c p w
            x = talks (live_on w.what.peer w.phase p on)

            talk : Dialogue.Dialogue (phase_stance w.phase) x.z x.up x.down
            talk = subst (λ (at : Stance). Dialogue.Dialogue at x.z x.up x.down) (stands_on w.what.peer w.phase (kept w p) p on) x.talk

            no_down : Queue d.past (down_way c p w.slot (end_at d.past c (client_end p w.slot)).epoch) x.down → x.down ≡ [] → sent p (server_end c w.slot) d.flights ≡ []
            no_down que e = down_empty p w.slot mp mq_w opened (subst (λ (bs : List FrameText). Queue d.past (down_way c p w.slot (end_at d.past c (client_end p w.slot)).epoch) bs) e que)

            go : Where d.past c p w.slot (end_at d.past c (client_end p w.slot)).epoch (end_at d.past p (server_end c w.slot)) (session d.past p (server_end c w.slot)) (stands_at w p) x.z x.up x.down → ⊥
            go (inl u) = up_flies p w.slot mp mq_w opened x.up u.up_queue (record { first = Opening; more = []; is = u.opening }) later (up_none p w.slot mp mq_w (no_down u.down_queue u.nothing))
              where
                later : IsOver (end_at d.past p (server_end c w.slot)) (end_at d.past c (client_end p w.slot)).epoch → ⊥
                later (inl l) = let i = u.later in omega (arith, l, i)
                later (inr z) = let i = u.later in let j = z.0 in omega (arith, i, j)
            go (inr (inl v)) = by (moves w.what.peer w.phase p x.z x.up x.down on awaiting talk)
              where
                young : IsOver (end_at d.past p (server_end c w.slot)) (end_at d.past c (client_end p w.slot)).epoch → ⊥
                young (inl l) = let i = v.epoch_is in omega (arith, l, i)
                young (inr z) = true≢false (sym v.opened ∙ z.1)

                by : Moves x.z x.up x.down → ⊥
                by (inl y) = up_flies p w.slot mp mq_w opened x.up v.up_queue y.0 young (up_none p w.slot mp mq_w (no_down v.down_queue y.1))
                by (inr (inl y)) = down_goes (sent p (server_end c w.slot) d.flights) refl
                    (up_empty p w.slot mp mq_w opened v.epoch_is (subst (λ (bs : List FrameText). Queue d.past (up_way c p w.slot (end_at d.past c (client_end p w.slot)).epoch) bs) y.1 v.up_queue))
                    (λ e. down_flies p w.slot mp mq_w opened x.down v.down_queue y.0 e)
                by (inr (inr y)) = gives_none (set_up_of g d p) d.past (plain_look (set_up_of g d p) d) (none turns g d settled p (known_p p w.slot mp mq_w)) c w.slot (served (set_up_of g d p) c w.slot (mc p w.slot mp mq_w) mq_w)
                    (room_there p (server_end c w.slot) d.flights (no_down v.down_queue y.1))
                    (here (set_up_of g d p) (state_of (set_up_of g d p) d.past) (plain_look (set_up_of g d p) d) (server_end c w.slot)) _ v.opened
                    (ap (λ (z : Session). gives_next (here (set_up_of g d p) (state_of (set_up_of g d p) d.past) (plain_look (set_up_of g d p) d) (server_end c w.slot)) z.doing) v.session_is
                    ∙ ap (gives_next (here (set_up_of g d p) (state_of (set_up_of g d p) d.past) (plain_look (set_up_of g d p) d) (server_end c w.slot))) y.2.is)
            go (inr (inr u)) = down_goes (sent p (server_end c w.slot) d.flights) refl (up_over p w.slot mp mq_w opened (shutting_over p w.slot mp mq_w opened x.down u)) (λ e. down_flies p w.slot mp mq_w opened (x.down ++ Closing ∷ u.rest) u.down_queue (some x.down) e)
              where
                some : (bs : List FrameText) → IsSome (bs ++ Closing ∷ u.rest)
                some [] = record { first = Closing; more = u.rest; is = refl }
                some (y ∷ ys) = record { first = y; more = ys ++ Closing ∷ u.rest; is = refl }

      -- ---- or it stands there otherwise, and nothing comes down, but for a Close: so nothing flies up

      quiet_up : (x : Conversation d.past c p w) → (stands_at w p ≡ Dialogue.AtOpen → ⊥) → x.down ≡ [] → sent c (client_end p w.slot) d.flights ≡ []
      quiet_up x no_open none_down = go x.there
        where
          go : Where d.past c p w.slot (end_at d.past c (client_end p w.slot)).epoch (end_at d.past p (server_end c w.slot)) (session d.past p (server_end c w.slot)) (stands_at w p) x.z x.up x.down
              → sent c (client_end p w.slot) d.flights ≡ []
          go (inl u) = absurd (no_open u.at_open)
          go (inr (inl v)) = up_none p w.slot mp mq_w (down_empty p w.slot mp mq_w opened (subst (λ (bs : List FrameText). Queue d.past (down_way c p w.slot (end_at d.past c (client_end p w.slot)).epoch) bs) none_down v.down_queue))
          go (inr (inr u)) = up_over p w.slot mp mq_w opened (shutting_over p w.slot mp mq_w opened x.down u)

      -- it sends bytes there
      pub sends_room : partner w.what.peer w.phase ≡ Some p → is_awaiting w.phase ≡ false → has_room t p ≡ true
      sends_room on idle =
          let x = talks (live_on w.what.peer w.phase p on) in
          let at = stands_on w.what.peer w.phase (kept w p) p on in
          room_up p w.slot mp mq_w (quiet_up x (λ e. sends_no w.phase idle (sym at ∙ e)) (sends_down w.what.peer w.phase p x.z x.up x.down on idle (subst (λ (z : Stance). Dialogue.Dialogue z x.z x.up x.down) at x.talk)))

      -- it has no partner
      pub rests_room : IsLive w.phase → partner w.what.peer w.phase ≡ None → has_room t p ≡ true
      rests_room live alone =
          let x = talks live in
          let at = rests_at w.what.peer w.phase (kept w p) p (none_is (partner w.what.peer w.phase) p alone) in
          room_up p w.slot mp mq_w (quiet_up x (λ e. at_open_no (kept w p) (sym at ∙ e)) (rests_down (kept w p) x.z x.up x.down (subst (λ (z : Stance). Dialogue.Dialogue z x.z x.up x.down) at x.talk)))

    -- **it stands on no connection**
    pub no_partner : (p : ℕ) → partner w.what.peer w.phase ≡ Some p → ⊥
    no_partner p on = go (end_at d.past c (client_end p w.slot)).opened refl
      where
        with_it : with_partner t p (end_with t p).opened ≡ None
        with_it = subst (λ (o : Option ℕ). by_partner t o ≡ None) on stuck

        go : (o : Bool) → (end_at d.past c (client_end p w.slot)).opened ≡ o → ⊥
        go false closed = let no' : with_partner t p false ≡ None = subst (λ (o : Bool). with_partner t p o ≡ None) closed with_it in cc
        go true opened = by (is_awaiting w.phase) refl
          where
            by : (o : Bool) → is_awaiting w.phase ≡ o → ⊥
            by true awaiting = awaits_no p opened on awaiting
            by false idle = sends (sends_room p opened on idle) w.phase refl idle
              where
                open_it : with_partner t p true ≡ None
                open_it = subst (λ (o : Bool). with_partner t p o ≡ None) opened with_it

                goes_none : goes_on t ≡ None
                goes_none = subst (λ (o : Bool). (if o then awaits t p (waiting_frame (end_with t p) k (job_end w p)) else goes_on t) ≡ None) idle open_it

                one_room : has_room t p ≡ true → list_all (has_room t) (p ∷ []) ≡ true
                one_room room = rw room refl

                has_some : (ps : List ℕ) → needs t w.phase ≡ ps → list_all (has_room t) ps ≡ true → ⊥
                has_some ps is all =
                    let no' : Some (goes t w.phase) ≡ None = subst (λ (o : Bool). (if o then Some (goes t w.phase) else None) ≡ None) (ap (list_all (has_room t)) is ∙ all) goes_none in cc

                same_peer : (peer : ℕ) → Some peer ≡ Some p → peer ≡ p
                same_peer peer e = cc

                sends : has_room t p ≡ true → (phase : Phase) → w.phase ≡ phase → is_awaiting phase ≡ false → ⊥
                sends room (PutsBytes peer start at left) is off =
                    has_some (peer ∷ []) (ap (needs t) is) (subst (λ n. list_all (has_room t) (n ∷ []) ≡ true) (sym (same_peer peer (sym (ap (partner w.what.peer) is) ∙ on))) (one_room room))
                sends room (PutsWord peer start) is off =
                    has_some (peer ∷ []) (ap (needs t) is) (subst (λ n. list_all (has_room t) (n ∷ []) ≡ true) (sym (same_peer peer (sym (ap (partner w.what.peer) is) ∙ on))) (one_room room))
                sends room phase is off = true≢false off

    -- a live job without a partner has room wherever it may go
    pub alone_room : IsLive w.phase → partner w.what.peer w.phase ≡ None → (p : ℕ) → Member p (others (set_up_of g d c)) → has_room t p ≡ true
    alone_room live alone p mp = go (end_at d.past c (client_end p w.slot)).opened refl
      where
        go : (o : Bool) → (end_at d.past c (client_end p w.slot)).opened ≡ o → has_room t p ≡ true
        go false closed = shut_room p w.slot mp mq_w closed
        go true opened = rests_room p opened live alone

    -- and a job without a partner lacks room
    pub goes_none_alone : partner w.what.peer w.phase ≡ None → list_all (has_room t) (needs t w.phase) ≡ true → ⊥
    goes_none_alone alone all =
        let one : goes_on t ≡ None = subst (λ (o : Option ℕ). by_partner t o ≡ None) alone stuck in
        let no' : Some (goes t w.phase) ≡ None = subst (λ (o : Bool). (if o then Some (goes t w.phase) else None) ≡ None) all one in cc
