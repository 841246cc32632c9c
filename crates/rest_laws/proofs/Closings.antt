-- Of the closings of a connection, over a run: a server that sent a Close is past that opening; and where a server isn't past an opening that
-- the client has come to, the client's end is open there, or a Close is on the way up.
use Rattle.std.proofs.Common.{◌≡◌, ◌≢◌, ℕ, zero, suc, ◌+◌, ◌<◌, ◌≤◌, Bool, true, false, List, [], ◌∷◌, ◌++◌, Option, Some, None, ◌⊎◌, inl, inr, refl, sym, ap, ◌∙◌, subst, arith, true≢false}
use Rattle.std.specs.Prelude.{◌==◌, filter, length, map, nat_le, slice_get}
use Rattle.std.proofs.lemmas.Bool.{eqb-true, or_right}
use Rattle.std.proofs.lemmas.Bool.Decides.{nat_tests}
use Rattle.std.proofs.lemmas.Option.{same_Some}
use Rattle.annex_base.specs.Lists.{Each, Member}
use Rattle.annex_base.proofs.Conditions.{eqb_refl}
use Rattle.annex_base.proofs.Lists.{Each-from_members, Each-member, Member-filter_from, Member-filter_parts, Member-map, slice_get-left}
use Rattle.run_data.specs.declared.entry.Entry.{Entry}
use Rattle.run_data.specs.declared.entry.FrameView.{FrameView}
use Rattle.run_data.specs.declared.entry.FrameText.{FrameText}
use Rattle.run_data.specs.declared.entry.FrameText.TheVariants.{Closing}
use Rattle.run_data.specs.declared.run.Run.{Run}
use Rattle.run_data.specs.Repos.{IsSetUp}
use Rattle.node_model.specs.Ends.{End, EndName, end_takes, end_took, is_opening, may_take, sends_at, sent_at, server_end, taken_at}
use Rattle.node_model.specs.Sessions.{is_closing, sends_close}
use Rattle.run_model.specs.Frames.{FlyingFrame, MayTake, Way, flying_frame, frames_sent, taken_count}
use Rattle.run_model.specs.Past.{is_of}
use Rattle.run_model.specs.Run.{RunPast, RunStep, set_up}
use Rattle.run_model.specs.Said.{is_request}
use Rattle.run_model.specs.States.{end_at}
use Rattle.step_facts.proofs.Below.{SentAreRead}
use Rattle.step_facts.proofs.EndEpochs.{from_end, opening_later, opening_takes, server_sends}
use Rattle.step_facts.proofs.EndMoves.{OpensNone, all_epoch, all_opened, closed_stays, end_gave, end_own, end_shuts, end_took-is, gave_none, may_epoch, sends_all, shuts_none, taken_none, takes_epoch, took_at, took_none}
use Rattle.step_facts.proofs.Flights.{get_append, get_none}
use Rattle.step_facts.proofs.NewSessions.{close_shuts}
use Rattle.step_facts.proofs.Plain.{member_mapped}
use Rattle.step_facts.proofs.ServerEnds.{AtServer, TakesHere, at_server, same_end-is}
use Rattle.past_facts.proofs.OwnRuns.{Part, part_of}
use Rattle.past_facts.proofs.Told.{prefixes}
use Rattle.past_facts.proofs.Turns
use Rattle.run_laws.proofs.FromStep.{message_past}
use Rattle.run_laws.proofs.HeardCauses.{SentClose, TookClose, shut_by}
use Rattle.run_laws.proofs.SessionOwn.{way_at}
use Rattle.run_laws.proofs.WayCounts.{on_out}
use Rattle.cause_laws.proofs.ConversationServer.{down_way, up_way}
use Rattle.cause_laws.proofs.Epochs.{client_end, not_both}
use Rattle.cause_laws.proofs.Queues.{hits}
use Rattle.driver_model.specs.Ways.{IsOver}
use Rattle.rest_laws.proofs.Openings
use Rattle.rest_laws.proofs.Openings.{GoesOn, OpensIt, client_step, count_other, count_own}

-- ---- lists

at_or_behind : {X : Type 0} (xs ys : List X) (y : X) → Member y ys → (k : ℕ) × (slice_get (xs ++ ys) k ≡ Some y) × (length xs ≤ k)
at_or_behind [] [] y m = absurd m
at_or_behind [] (z ∷ ys) y (inl same) = (zero, ap (λ v. Some v) (sym same), omega arith)
at_or_behind [] (z ∷ ys) y (inr m) = let k = at_or_behind [] ys y m in (suc k.0, k.1, omega arith)
at_or_behind (x ∷ xs) ys y m = let k = at_or_behind xs ys y m in let l = k.2 in (suc k.0, k.1, omega (arith, l))

closes_any : (fs : List FrameView) (g : FrameView) → Member g fs → g.body ≡ Closing → sends_close fs ≡ true
closes_any [] g m is = absurd m
closes_any (f ∷ fs) g (inl same) is = let c : is_closing f.body ≡ true = ap (λ (z : FrameView). is_closing z.body) (sym same) ∙ ap is_closing is in rw c refl
closes_any (f ∷ fs) g (inr m) is = or_right (is_closing f.body) (sends_close fs) (closes_any fs g m is)

closed_none : (body : FrameText) → body ≡ Closing → is_opening body ≡ false
closed_none body is = ap is_opening is

module _ (reads_back : SentAreRead) (run : Run) (repos : Each IsSetUp run.repos) (c v q : ℕ) where
  abbrev a : EndName
  a = client_end v q

  abbrev b : EndName
  b = server_end c q

  -- ---- an entry of the server

  module _ (past : List Entry) (e : Entry) (h : RunPast (set_up run) past) (step : RunStep (set_up run) past e) (own : is_of v e ≡ true) where
    abbrev d : End
    d = end_at past v b

    abbrev now : End
    now = end_at (e ∷ past) v b

    part : Part (set_up run) past v e
    part = part_of (set_up run) past e v step own

    abbrev mid : End
    mid = end_took d (taken_at b e.taken)

    -- what it sends is of the opening that it is at
    sends : (g : FrameView) → Member g (sent_at b e.sent) → (g.epoch ≡ mid.epoch) × (is_opening g.body ≡ false)
    sends g m =
        let two = Member-filter_parts (sends_at b) e.sent g m in
        let at : from_end g ≡ b = same_end-is (from_end g) b two.1 in
        let x = server_sends (set_up run v) past part.words e part.own g two.0 (ap (λ (z : EndName). z.client) at) in
        (x.0 ∙ ap (λ (z : EndName). (end_took (end_at past v z) (taken_at z e.taken)).epoch) at, x.1)

    opens_none : OpensNone (sent_at b e.sent)
    opens_none = Each-from_members (λ g. is_opening g.body ≡ false) (sent_at b e.sent) (λ g m. (sends g m).1)

    after : now ≡ sends_all mid (sent_at b e.sent)
    after = end_own v past b e own

    -- a Close that it sends is of an opening that it is past then
    close_over : (g : FrameView) → Member g (sent_at b e.sent) → g.body ≡ Closing → IsOver now g.epoch
    close_over g m is = inr (
      (sends g m).0 ∙ sym (ap (λ (z : End). z.epoch) after ∙ all_epoch mid (sent_at b e.sent) opens_none),
      ap (λ (z : End). z.opened) after ∙ close_shuts mid (sent_at b e.sent) opens_none (closes_any (sent_at b e.sent) g m is),
    )

    moved_over : (n : ℕ) → now.epoch ≡ d.epoch → (now.opened ≡ true → d.opened ≡ true) → IsOver d n → IsOver now n
    moved_over n same opened (inl l) = inl (subst (λ k. n < k) (sym same) l)
    moved_over n same opened (inr x) = inr (x.0 ∙ sym same, shut now.opened refl)
      where
        shut : (t : Bool) → now.opened ≡ t → t ≡ false
        shut false i = refl
        shut true i = absurd (true≢false (sym (opened i) ∙ x.1))

    -- what it is past it stays past
    pub over_stays : (n : ℕ) → IsOver (end_at past v (server_end c q)) n → IsOver (end_at (e ∷ past) v (server_end c q)) n
    over_stays n o = elim (at_server (set_up run v) past part.words e c q part.own) [
      | inl z ↦ (let end' = end_own v past b e own ∙ end_shuts b d e z in
          moved_over n (ap (λ (z : End). z.epoch) end' ∙ all_epoch d _ (shuts_none _ z.closes)) (λ k. all_opened d _ (shuts_none _ z.closes) (sym (ap (λ (z : End). z.opened) end') ∙ k)) o)
      | inr z ↦ elim z [
        | inl y ↦ took y (is_opening y.f.body) refl o
        | inr y ↦ (let end' = end_own v past b e own ∙ end_gave (set_up run v) past b e y in
            moved_over n (ap (λ (z : End). z.epoch) end' ∙ all_epoch d _ (gave_none (set_up run v) past b e y)) (λ k. all_opened d _ (gave_none (set_up run v) past b e y) (sym (ap (λ (z : End). z.opened) end') ∙ k)) o)
      ]
    ]
      where
        took : (y : TakesHere (set_up run v) past b e) → (t : Bool) → is_opening y.f.body ≡ t → IsOver d n → IsOver now n
        took y t opens o = by t opens o
          where
            end' : now ≡ sends_all (end_takes d y.f.epoch y.f.body) (sent_at b e.sent)
            end' = end_own v past b e own ∙ end_took-is (set_up run v) past b e y

            epoch : now.epoch ≡ (end_takes d y.f.epoch y.f.body).epoch
            epoch = ap (λ (z : End). z.epoch) end' ∙ all_epoch (end_takes d y.f.epoch y.f.body) _ (took_none (set_up run v) past b e y)

            up : (i j k : ℕ) → (i < j) ⊎ (i ≡ j) → j < k → i < k
            up i j k (inl l) m = omega (arith, l, m)
            up i j k (inr l) m = omega (arith, l, m)

            low : IsOver d n → (n < d.epoch) ⊎ (n ≡ d.epoch)
            low (inl l) = inl l
            low (inr x) = inr x.0

            by : (t : Bool) → is_opening y.f.body ≡ t → IsOver d n → IsOver now n
            by true opens o = inl (up n d.epoch now.epoch (low o) (subst (λ k. d.epoch < k) (sym (epoch ∙ ap (λ (z : End). z.epoch) (opening_takes d y.f.epoch y.f.body opens))) (opening_later d y.f opens y.may)))
            by false plain o = moved_over n (epoch ∙ takes_epoch d y.f.epoch y.f.body plain) (λ k. (may_epoch d y.f plain y.may).0) o

    -- a Close that it takes leaves it past that opening
    took_over : (f : FrameView) → taken_at b e.taken ≡ Some f → f.body ≡ Closing → may_take d f ≡ true → IsOver now f.epoch
    took_over f took is may =
        let two = may_epoch d f (closed_none f.body is) may in
        inr (
          two.1 ∙ sym (ap (λ (z : End). z.epoch) after ∙ (all_epoch mid (sent_at b e.sent) opens_none ∙ (ap (λ o. (end_took d o).epoch) took ∙ takes_epoch d f.epoch f.body (closed_none f.body is)))),
          ap (λ (z : End). z.opened) after ∙ closed_stays mid (sent_at b e.sent) opens_none (ap (λ o. (end_took d o).opened) took ∙ ap (λ body. (end_takes d f.epoch body).opened) is),
        )

  -- ---- what it sends on a way

  sent_own : (past : List Entry) (e : Entry) (n : ℕ) → is_of v e ≡ true → frames_sent (e ∷ past) (down_way c v q n) ≡ frames_sent past (down_way c v q n) ++ map (flying_frame e past) (filter (λ g. g.epoch == n) (sent_at b e.sent))
  sent_own past e n own = rw own (ap (λ (gs : List FrameView). frames_sent past (down_way c v q n) ++ map (flying_frame e past) gs) (on_out v b n e))

  -- **a server that sent a Close is past that opening**
  pub closing_over : (past : List Entry) → RunPast (set_up run) past → (n k : ℕ) (it : FlyingFrame) → slice_get (frames_sent past (down_way c v q n)) k ≡ Some it → it.frame.body ≡ Closing → IsOver (end_at past v (server_end c q)) n
  closing_over [] h n k it at is = absurd (get_none k it at)
  closing_over (e ∷ past) h n k it at is = go (closing_over past h.1 n k it) (is_of v e) refl
    where
      go : (slice_get (frames_sent past (down_way c v q n)) k ≡ Some it → it.frame.body ≡ Closing → IsOver (end_at past v b) n) → (t : Bool) → is_of v e ≡ t → IsOver (end_at (e ∷ past) v b) n
      go old false off =
          let same : end_at (e ∷ past) v b ≡ end_at past v b = rw off refl in
          let still : frames_sent (e ∷ past) (down_way c v q n) ≡ frames_sent past (down_way c v q n) = rw off refl in
          subst (λ (z : End). IsOver z n) (sym same) (old (subst (λ (xs : List FlyingFrame). slice_get xs k ≡ Some it) still at) is)
      go old true own = elim (get_append (frames_sent past (down_way c v q n)) _ k it (subst (λ (xs : List FlyingFrame). slice_get xs k ≡ Some it) (sent_own past e n own) at)) [
        | inl z ↦ over_stays past e h.1 h.0 own n (old z is)
        | inr m ↦ new (member_mapped (flying_frame e past) (filter (λ g. g.epoch == n) (sent_at b e.sent)) it m)
      ]
        where
          new : (x : FrameView) × Member x (filter (λ g. g.epoch == n) (sent_at b e.sent)) × (it ≡ flying_frame e past x) → IsOver (end_at (e ∷ past) v b) n
          new x =
              let two = Member-filter_parts (λ (g : FrameView). g.epoch == n) (sent_at b e.sent) x.0 x.1 in
              subst (λ k. IsOver (end_at (e ∷ past) v b) k) (eqb-true x.0.epoch n two.1) (close_over past e h.1 h.0 own x.0 two.0 (ap (λ (y : FlyingFrame). y.frame.body) (sym x.2) ∙ is))

  -- ---- a Close on the way up

  pub record Ahead (past : List Entry) (n : ℕ) : Type 0 where
    pub place : ℕ
    pub it : FlyingFrame
    pub at : slice_get (frames_sent past (up_way c v q n)) place ≡ Some it
    pub closes : it.frame.body ≡ Closing
    pub later : taken_count past (up_way c v q n) ≤ place

  abbrev pub Stands : List Entry → ℕ → Type 0
  Stands past n = (((end_at past c (client_end v q)).epoch ≡ n) × ((end_at past c (client_end v q)).opened ≡ true)) ⊎ Ahead past n

  -- more frames are sent
  longer : (past : List Entry) (e : Entry) (n : ℕ) (more : List FlyingFrame) → frames_sent (e ∷ past) (up_way c v q n) ≡ frames_sent past (up_way c v q n) ++ more → taken_count (e ∷ past) (up_way c v q n) ≡ taken_count past (up_way c v q n)
      → Ahead past n → Ahead (e ∷ past) n
  longer past e n more is count x = record {
    place = x.place;
    it = x.it;
    at = subst (λ (xs : List FlyingFrame). slice_get xs x.place ≡ Some x.it) (sym is) (slice_get-left (frames_sent past (up_way c v q n)) more x.place x.it x.at);
    closes = x.closes;
    later = subst (λ k. k ≤ x.place) (sym count) x.later;
  }

  module _ (apart : c ≢ v) where
    -- ---- an entry of the client

    module _ (past : List Entry) (e : Entry) (h : RunPast (set_up run) past) (step : RunStep (set_up run) past e) (own : is_of c e ≡ true) (n : ℕ)
        (old : n ≤ (end_at past c a).epoch → Stands past n) (not_over : IsOver (end_at past v b) n → ⊥) where
      off : is_of v e ≡ false
      off = not_both e.repo c v own apart

      count : taken_count (e ∷ past) (up_way c v q n) ≡ taken_count past (up_way c v q n)
      count = count_other reads_back run repos c v q past e n off

      taken_in : taken_count past (up_way c v q n) ≤ length (frames_sent past (up_way c v q n))
      taken_in = (Turns.taken_of is_request past (up_way c v q n) (prefixes run.repos past (up_way c v q n) (message_past reads_back run repos past h))).within

      stays_ahead : Ahead past n → Stands (e ∷ past) n
      stays_ahead x = inr (longer past e n _ (Openings.sent_own reads_back run repos c v q past e n own) count x)

      opens : OpensIt reads_back run repos c v q past e h step own → n ≤ (end_at (e ∷ past) c a).epoch → Stands (e ∷ past) n
      opens o high = go (nat_le n (end_at past c a).epoch) refl
        where
          go : (t : Bool) → nat_le n (end_at past c a).epoch ≡ t → Stands (e ∷ past) n
          go true i = let low : n ≤ (end_at past c a).epoch = grind (arith, nat_tests) in elim (old low) [
            | inl x ↦ absurd (true≢false (sym x.1 ∙ o.closed))
            | inr x ↦ stays_ahead x
          ]
          go false i = inl (o.after_epoch ∙ is n (end_at past c a).epoch i (subst (λ k. n ≤ k) o.after_epoch high), o.after_open)
            where
              is : (i j : ℕ) → nat_le i j ≡ false → i ≤ j + 1 → j + 1 ≡ i
              is i j k l = grind (arith, nat_tests)

      module _ (z : GoesOn reads_back run repos c v q past e h step own) (at_n : (end_at past c a).epoch ≡ n) (opened : (end_at past c a).opened ≡ true) where
        sent_close : SentClose a e → Stands (e ∷ past) n
        sent_close t =
            let there = Member-filter_from (sends_at a) e.sent t.g t.sent t.of_end in
            let epoch : t.g.epoch ≡ n = Each-member (λ g. g.epoch ≡ (end_at past c a).epoch) (sent_at a e.sent) t.g z.epochs there ∙ at_n in
            let new = Member-filter_from (λ (g : FrameView). g.epoch == n) (sent_at a e.sent) t.g there (ap (λ k. k == n) epoch ∙ eqb_refl n) in
            let k = at_or_behind (frames_sent past (up_way c v q n)) (map (flying_frame e past) (filter (λ g. g.epoch == n) (sent_at a e.sent))) (flying_frame e past t.g)
            (Member-map (flying_frame e past) (filter (λ g. g.epoch == n) (sent_at a e.sent)) t.g new) in
            let l = k.2 in
            let m = taken_in in
            inr (record {
              place = k.0;
              it = flying_frame e past t.g;
              at = subst (λ (xs : List FlyingFrame). slice_get xs k.0 ≡ Some (flying_frame e past t.g)) (sym (Openings.sent_own reads_back run repos c v q past e n own)) k.1;
              closes = t.body_is;
              later = subst (λ i. i ≤ k.0) (sym count) (omega (arith, l, m));
            })

        took_close : TookClose a e → Stands (e ∷ past) n
        took_close t =
            let at : taken_at a e.taken ≡ Some t.f = ap (taken_at a) t.took ∙ rw (t.of_end) refl in
            let part = part_of (set_up run) past e c step own in
            let m = subst (λ (w : Way). MayTake past w t.f) (way_at c a t.f t.of_end) (part.frames.takes t.f t.took) in
            let two = may_epoch (end_at past c a) t.f (closed_none t.f.body t.body_is) ((Openings.keeps reads_back run repos c v q past e h step own).takes t.f at) in
            let over = closing_over past h t.f.epoch (taken_count past (down_way c v q t.f.epoch)) m.it m.next (m.body_is ∙ t.body_is) in
            absurd (not_over (subst (λ k. IsOver (end_at past v b) k) (two.1 ∙ at_n) over))

        goes : Stands (e ∷ past) n
        goes = go (end_at (e ∷ past) c a).opened refl
          where
            go : (t : Bool) → (end_at (e ∷ past) c a).opened ≡ t → Stands (e ∷ past) n
            go true o = inl (z.same ∙ at_n, o)
            go false o = elim (shut_by a (end_at past c a) e opened (sym (ap (λ (x : End). x.opened) (end_own c past a e own)) ∙ o)) [ inl t ↦ took_close t | inr t ↦ sent_close t ]

      client_stands : n ≤ (end_at (e ∷ past) c a).epoch → Stands (e ∷ past) n
      client_stands high = elim (client_step reads_back run repos c v q past e h step own) [
        | inl o ↦ opens o high
        | inr z ↦ elim (old (subst (λ k. n ≤ k) z.same high)) [
          | inl x ↦ goes z x.0 x.1
          | inr x ↦ stays_ahead x
        ]
      ]

    -- ---- an entry of the server

    module _ (past : List Entry) (e : Entry) (h : RunPast (set_up run) past) (step : RunStep (set_up run) past e) (own : is_of v e ≡ true) (n : ℕ) (old : Stands past n) (not_over : IsOver (end_at (e ∷ past) v b) n → ⊥) where
      off_c : is_of c e ≡ false
      off_c = not_both e.repo v c own (λ same. apart (sym same))

      end_same : end_at (e ∷ past) c a ≡ end_at past c a
      end_same = rw off_c refl

      sent_same : frames_sent (e ∷ past) (up_way c v q n) ≡ frames_sent past (up_way c v q n)
      sent_same = rw off_c refl

      part_v : Part (set_up run) past v e
      part_v = part_of (set_up run) past e v step own

      ahead : (t : Bool) → hits n (taken_at b e.taken) ≡ t → Ahead past n → Ahead (e ∷ past) n
      ahead t hit x = record { place = x.place; it = x.it; at = subst (λ (xs : List FlyingFrame). slice_get xs x.place ≡ Some x.it) (sym sent_same) x.at; closes = x.closes; later = by t hit }
        where
          next : (i j : ℕ) → i ≤ j → (i == j) ≡ false → i + 1 ≤ j
          next i j l k = grind (arith, nat_tests)

          by : (t : Bool) → hits n (taken_at b e.taken) ≡ t → taken_count (e ∷ past) (up_way c v q n) ≤ x.place
          by false hit = subst (λ k. k ≤ x.place) (sym (count_own reads_back run repos c v q past e n false own hit)) x.later
          by true hit = subst (λ k. k ≤ x.place) (sym (count_own reads_back run repos c v q past e n true own hit)) (next (taken_count past (up_way c v q n)) x.place x.later (other (taken_count past (up_way c v q n) == x.place) refl))
            where
              -- what is taken is no Close, or the server were past the opening
              other : (u : Bool) → (taken_count past (up_way c v q n) == x.place) ≡ u → u ≡ false
              other false i = refl
              other true i = absurd (took (taken_at b e.taken) refl hit)
                where
                  here : taken_count past (up_way c v q n) ≡ x.place
                  here = eqb-true (taken_count past (up_way c v q n)) x.place i

                  took : (o : Option FrameView) → taken_at b e.taken ≡ o → hits n o ≡ true → ⊥
                  took None is k = true≢false (sym k)
                  took (Some f) is k = whose (at_server (set_up run v) past part_v.words e c q part_v.own)
                    where
                      at_n : f.epoch ≡ n
                      at_n = eqb-true f.epoch n k

                      whose : AtServer (set_up run v) past b e → ⊥
                      whose (inl z) = let no' : None ≡ Some f = sym z.takes_none ∙ is in cc
                      whose (inr (inr y)) = let no' : None ≡ Some f = sym (taken_none (set_up run v) past b e y) ∙ is in cc
                      whose (inr (inl y)) =
                          let same : y.f ≡ f = same_Some y.f f (sym (took_at (set_up run v) past b e y) ∙ is) in
                          let m = subst (λ (w : Way). MayTake past w y.f) (way_at v b y.f y.of_end) (part_v.frames.takes y.f y.taken_is) in
                          let at_y : y.f.epoch ≡ n = ap (λ (z : FrameView). z.epoch) same ∙ at_n in
                          let next_n : slice_get (frames_sent past (up_way c v q n)) (taken_count past (up_way c v q n)) ≡ Some m.it
                          = subst (λ j. slice_get (frames_sent past (up_way c v q j)) (taken_count past (up_way c v q j)) ≡ Some m.it) at_y m.next in
                          let one : m.it ≡ x.it = same_Some m.it x.it (sym next_n ∙ (ap (λ j. slice_get (frames_sent past (up_way c v q n)) j) here ∙ x.at)) in
                          let closes : y.f.body ≡ Closing = sym m.body_is ∙ (ap (λ (z : FlyingFrame). z.frame.body) one ∙ x.closes) in
                          not_over (subst (λ j. IsOver (end_at (e ∷ past) v b) j) at_y (took_over past e h step own y.f (took_at (set_up run v) past b e y) closes y.may))

      server_stands : Stands (e ∷ past) n
      server_stands = elim old [
        | inl x ↦ inl (ap (λ (z : End). z.epoch) end_same ∙ x.0, ap (λ (z : End). z.opened) end_same ∙ x.1)
        | inr x ↦ inr (ahead (hits n (taken_at b e.taken)) refl x)
      ]

    -- **where the server isn't past an opening that the client has come to, the client's end is open there, or a Close is on the way up**
    pub stands : (past : List Entry) → RunPast (set_up run) past → (n : ℕ) → n ≤ (end_at past c (client_end v q)).epoch → (IsOver (end_at past v (server_end c q)) n → ⊥) → Stands past n
    stands [] h n high not_over = absurd (not_over (inr (zero_is n high, refl)))
      where
        zero_is : (n : ℕ) → n ≤ 0 → n ≡ 0
        zero_is n l = omega (arith, l)
    stands (e ∷ past) h n high not_over = go (stands past h.1 n) (is_of c e) refl (is_of v e) refl
      where
        go : (n ≤ (end_at past c a).epoch → (IsOver (end_at past v b) n → ⊥) → Stands past n) → (t : Bool) → is_of c e ≡ t → (u : Bool) → is_of v e ≡ u → Stands (e ∷ past) n
        go old true own u other =
            let same : end_at (e ∷ past) v b ≡ end_at past v b = rw (not_both e.repo c v own apart) refl in
            let still : IsOver (end_at past v b) n → ⊥ = (λ o. not_over (subst (λ (z : End). IsOver z n) (sym same) o)) in
            client_stands past e h.1 h.0 own n (λ l. old l still) still high
        go old false off true own =
            let same : end_at (e ∷ past) c a ≡ end_at past c a = rw off refl in
            server_stands past e h.1 h.0 own n (old (subst (λ (z : End). n ≤ z.epoch) same high) (λ o. not_over (over_stays past e h.1 h.0 own n o))) not_over
        go old false off false other =
            let same : end_at (e ∷ past) c a ≡ end_at past c a = rw off refl in
            let same_b : end_at (e ∷ past) v b ≡ end_at past v b = rw other refl in
            let sent_still : frames_sent (e ∷ past) (up_way c v q n) ≡ frames_sent past (up_way c v q n) = rw off refl in
            elim (old (subst (λ (z : End). n ≤ z.epoch) same high) (λ o. not_over (subst (λ (z : End). IsOver z n) (sym same_b) o))) [
              | inl x ↦ inl (ap (λ (z : End). z.epoch) same ∙ x.0, ap (λ (z : End). z.opened) same ∙ x.1)
              | inr x ↦ inr (record {
                place = x.place;
                it = x.it;
                at = subst (λ (xs : List FlyingFrame). slice_get xs x.place ≡ Some x.it) (sym sent_still) x.at;
                closes = x.closes;
                later = subst (λ k. k ≤ x.place) (sym (count_other reads_back run repos c v q past e n other)) x.later;
              })
            ]
