-- Of the openings of a connection, over a run: the first frame of each that the client sends is an Opening and no other is, and the server
-- has taken a frame of the one that it is at, and none of a later one.
use Rattle.std.proofs.Common.{◌≡◌, ℕ, zero, suc, ◌+◌, ◌<◌, ◌≤◌, Bool, true, false, List, [], ◌∷◌, ◌++◌, Option, Some, None, ◌⊎◌, inl, inr, refl, sym, ap, ◌∙◌, subst, arith, true≢false}
use Rattle.std.specs.Prelude.{if◌then◌else◌, ◌&&◌, ◌==◌, filter, map, nat_le, slice_get}
use Rattle.std.proofs.lemmas.Bool.{eqb-true}
use Rattle.std.proofs.lemmas.Bool.Decides.{nat_tests}
use Rattle.std.proofs.lemmas.Option.{same_Some}
use Rattle.annex_base.specs.Bools.{same_bool}
use Rattle.annex_base.specs.Lists.{Each, Member}
use Rattle.annex_base.proofs.Conditions.{and_regrouped, eqb_refl}
use Rattle.annex_base.proofs.Lists.{Each-from_members, Each-member, Member-filter_parts, slice_get-left}
use Rattle.run_data.specs.declared.entry.Entry.{Entry}
use Rattle.run_data.specs.declared.entry.FrameView.{FrameView}
use Rattle.run_data.specs.declared.entry.FrameText.{FrameText}
use Rattle.run_data.specs.declared.entry.FrameText.TheVariants.{Opening, Closing, Bytes, Line}
use Rattle.run_data.specs.declared.run.Run.{Run}
use Rattle.run_data.specs.Repos.{IsSetUp}
use Rattle.node_model.specs.Ends.{End, EndName, end_sends, end_takes, end_took, is_opening, sends_at, sent_at, server_end, taken_at, takes_at}
use Rattle.run_model.specs.Frames.{FlyingFrame, MayTake, Way, flying_frame, frames_sent, taken_count, taker_of, takes}
use Rattle.run_model.specs.Past.{is_of}
use Rattle.run_model.specs.Run.{RunPast, RunStep, set_up}
use Rattle.run_model.specs.States.{end_at}
use Rattle.step_facts.proofs.Below.{SentAreRead}
use Rattle.step_facts.proofs.ClientCounts.{is_asking}
use Rattle.step_facts.proofs.ClientKeeps.{all_keep}
use Rattle.step_facts.proofs.ClientWays.{Keeps}
use Rattle.step_facts.proofs.EndEpochs.{client_sends, from_end, opening_later, opening_takes, server_sends}
use Rattle.step_facts.proofs.EndMoves.{all_epoch, all_opened, end_gave, end_own, end_shuts, end_took-is, gave_none, may_epoch, sends_all, shuts_none, taken_none, takes_epoch, took_at, took_none}
use Rattle.step_facts.proofs.Flights.{Sending, get_append, get_none, sending}
use Rattle.step_facts.proofs.JobEnds.{SentWell}
use Rattle.step_facts.proofs.Plain.{member_mapped}
use Rattle.step_facts.proofs.ServerEnds.{TakesHere, at_server, same_end-is}
use Rattle.past_facts.proofs.OwnRuns.{Part, own_past, part_of, step_at}
use Rattle.past_facts.proofs.Told.{OnWay, on_parts, sends_member, sends_on}
use Rattle.run_laws.proofs.SessionOwn.{way_at}
use Rattle.run_laws.proofs.WayCounts.{on_out, other_side}
use Rattle.cause_laws.proofs.ConversationServer.{down_way, up_way}
use Rattle.cause_laws.proofs.Epochs.{client_end, none_sent}
use Rattle.cause_laws.proofs.Queues.{hits}

no_asking : (body : FrameText) → is_asking body ≡ false → is_opening body ≡ false
no_asking Opening e = absurd (true≢false e)
no_asking Closing e = refl
no_asking (Bytes n) e = refl
no_asking (Line text) e = refl

module _ (reads_back : SentAreRead) (run : Run) (repos : Each IsSetUp run.repos) (c v q : ℕ) where
  abbrev a : EndName
  a = client_end v q

  abbrev b : EndName
  b = server_end c q

  -- what comes down is no Opening
  pub down_plain : (past : List Entry) → RunPast (set_up run) past → (n : ℕ) (f : FrameView) → MayTake past (down_way c v q n) f → is_opening f.body ≡ false
  down_plain past h n f m = ap is_opening (sym m.body_is) ∙ (server_sends (set_up run v) m.it.before part.words m.it.entry part.own m.it.frame (sends_member w m.it.entry m.it.frame z.sends) on.up_is).1
    where
      w : Way
      w = down_way c v q n

      z : Sending past (down_way c v q n) m.it
      z = sending past (down_way c v q n) (taken_count past (down_way c v q n)) m.it m.next

      on : OnWay (down_way c v q n) (taker_of (down_way c v q n)) m.it.frame
      on = on_parts (down_way c v q n) (taker_of (down_way c v q n)) m.it.frame (sends_on (down_way c v q n) m.it.entry m.it.frame z.sends)

      part : Part (set_up run) m.it.before v m.it.entry
      part = part_of (set_up run) m.it.before m.it.entry v (step_at run past m.it.entry m.it.before h z.occurs).0 z.repo_is

  -- ---- an entry of the client

  module _ (past : List Entry) (e : Entry) (h : RunPast (set_up run) past) (step : RunStep (set_up run) past e) (own : is_of c e ≡ true) where
    abbrev was : End
    was = end_at past c a

    abbrev now : End
    now = end_at (e ∷ past) c a

    part : Part (set_up run) past c e
    part = part_of (set_up run) past e c step own

    pub keeps : Keeps past c (client_end v q) e
    keeps = (all_keep reads_back (set_up run c) (e ∷ past) (own_past run repos c (e ∷ past) (step, h)) v q).0 own

    -- it opens the connection
    pub record OpensIt : Type 0 where
      pub closed : (end_at past c (client_end v q)).opened ≡ false
      pub g : FrameView
      pub sent_is : sent_at (client_end v q) e.sent ≡ g ∷ []
      pub body_is : g.body ≡ Opening
      pub epoch_is : g.epoch ≡ (end_at past c (client_end v q)).epoch + 1
      pub after_epoch : (end_at (e ∷ past) c (client_end v q)).epoch ≡ (end_at past c (client_end v q)).epoch + 1
      pub after_open : (end_at (e ∷ past) c (client_end v q)).opened ≡ true

    -- or what it sends there is of the opening that its end is at
    pub record GoesOn : Type 0 where
      pub opens_none : Each (λ g. is_opening g.body ≡ false) (sent_at (client_end v q) e.sent)
      pub epochs : Each (λ g. g.epoch ≡ (end_at past c (client_end v q)).epoch) (sent_at (client_end v q) e.sent)
      pub same : (end_at (e ∷ past) c (client_end v q)).epoch ≡ (end_at past c (client_end v q)).epoch
      pub stays : (end_at (e ∷ past) c (client_end v q)).opened ≡ true → (end_at past c (client_end v q)).opened ≡ true

    well : (g : FrameView) → Member g (sent_at a e.sent) → SentWell was g
    well g m =
        let two = Member-filter_parts (sends_at a) e.sent g m in
        let at : from_end g ≡ a = same_end-is (from_end g) a two.1 in
        subst (λ (z : EndName). SentWell (end_at past c z) g) at (client_sends (set_up run c) past part.words e part.own g two.0 (ap (λ (z : EndName). z.client) at))

    -- what it takes there is of that opening too
    pub record Between : Type 0 where
      pub epoch_is : (end_took (end_at past c (client_end v q)) (taken_at (client_end v q) e.taken)).epoch ≡ (end_at past c (client_end v q)).epoch
      pub opened : (end_took (end_at past c (client_end v q)) (taken_at (client_end v q) e.taken)).opened ≡ true → (end_at past c (client_end v q)).opened ≡ true

    pub took_plain : (f : FrameView) → taken_at (client_end v q) e.taken ≡ Some f → (is_opening f.body ≡ false) × (e.taken ≡ Some f) × (takes_at (client_end v q) f ≡ true)
    took_plain f is = go e.taken refl is
      where
        go : (o : Option FrameView) → e.taken ≡ o → taken_at a o ≡ Some f → (is_opening f.body ≡ false) × (e.taken ≡ Some f) × (takes_at a f ≡ true)
        go None took at = absurd (cc)
        go (Some g) took at = by (takes_at a g) refl at
          where
            by : (t : Bool) → takes_at a g ≡ t → (if t then Some g else None) ≡ Some f → (is_opening f.body ≡ false) × (e.taken ≡ Some f) × (takes_at a f ≡ true)
            by false of_end k = absurd (cc)
            by true of_end k =
                let same : g ≡ f = same_Some g f k in
                let it : e.taken ≡ Some f = took ∙ ap (λ (z : FrameView). Some z) same in
                let at_f : takes_at a f ≡ true = subst (λ (z : FrameView). takes_at a z ≡ true) same of_end in
                (down_plain past h f.epoch f (subst (λ (w : Way). MayTake past w f) (way_at c a f at_f) (part.frames.takes f it)), it, at_f)

    pub between : Between
    between = go (taken_at a e.taken) refl
      where
        go : (o : Option FrameView) → taken_at a e.taken ≡ o → Between
        go None is = record { epoch_is = ap (λ o. (end_took was o).epoch) is; opened = λ o. sym (ap (λ o. (end_took was o).opened) is) ∙ o }
        go (Some f) is =
            let plain = took_plain f is in
            let may = may_epoch was f plain.0 (keeps.takes f is) in
            record { epoch_is = ap (λ o. (end_took was o).epoch) is ∙ takes_epoch was f.epoch f.body plain.0; opened = λ o. may.0 }

    abbrev mid : End
    mid = end_took was (taken_at a e.taken)

    goes : ((g : FrameView) → Member g (sent_at a e.sent) → is_opening g.body ≡ false) → OpensIt ⊎ GoesOn
    goes none = inr (record {
      opens_none = all;
      epochs = Each-from_members (λ g. g.epoch ≡ was.epoch) (sent_at a e.sent) (λ g m. of_epoch g (none g m) (well g m));
      same = ap (λ (z : End). z.epoch) (end_own c past a e own) ∙ (all_epoch mid (sent_at a e.sent) all ∙ between.epoch_is);
      stays = λ o. between.opened (all_opened mid (sent_at a e.sent) all (sym (ap (λ (z : End). z.opened) (end_own c past a e own)) ∙ o));
    })
      where
        all : Each (λ g. is_opening g.body ≡ false) (sent_at a e.sent)
        all = Each-from_members (λ g. is_opening g.body ≡ false) (sent_at a e.sent) none

        of_epoch : (g : FrameView) → is_opening g.body ≡ false → SentWell was g → g.epoch ≡ was.epoch
        of_epoch g plain (inl x) = x.1
        of_epoch g plain (inr x) = absurd (true≢false (sym (ap is_opening x.2) ∙ plain))

    pub client_step : OpensIt ⊎ GoesOn
    client_step = elim (keeps.sends) [
      | inl all ↦ goes (λ g m. no_asking g.body (Each-member (λ g. is_asking g.body ≡ false) (sent_at a e.sent) g all m))
      | inr one ↦ single one.0 one.1 (is_opening one.0.body) refl
    ]
      where
        single : (g : FrameView) → sent_at a e.sent ≡ g ∷ [] → (t : Bool) → is_opening g.body ≡ t → OpensIt ⊎ GoesOn
        single g is false plain = goes (λ z m. by z (subst (Member z) is m))
          where
            by : (z : FrameView) → Member z (g ∷ []) → is_opening z.body ≡ false
            by z (inl same) = ap (λ (y : FrameView). is_opening y.body) same ∙ plain
            by z (inr m) = absurd m
        single g is true opens = from (well g (subst (Member g) (sym is) (inl refl)))
          where
            after : now ≡ end_sends mid g.body
            after = end_own c past a e own ∙ ap (sends_all mid) is

            from : SentWell was g → OpensIt ⊎ GoesOn
            from (inl x) = absurd (true≢false (sym opens ∙ x.2))
            from (inr x) =
                let sends : end_sends mid g.body ≡ record { epoch = mid.epoch + 1; opened = true; sent = 1 } = ap (end_sends mid) x.2 in
                inl (record {
                  closed = x.0;
                  g = g;
                  sent_is = is;
                  body_is = x.2;
                  epoch_is = x.1;
                  after_epoch = ap (λ (z : End). z.epoch) (after ∙ sends) ∙ ap (λ n. n + 1) between.epoch_is;
                  after_open = ap (λ (z : End). z.opened) (after ∙ sends);
                })

  -- ---- what it sends on a way

  pub sent_own : (past : List Entry) (e : Entry) (n : ℕ) → is_of c e ≡ true → frames_sent (e ∷ past) (up_way c v q n) ≡ frames_sent past (up_way c v q n) ++ map (flying_frame e past) (filter (λ g. g.epoch == n) (sent_at (client_end v q) e.sent))
  sent_own past e n own = rw own (ap (λ (gs : List FrameView). frames_sent past (up_way c v q n) ++ map (flying_frame e past) gs) (on_out c a n e))

  pub sent_other : (past : List Entry) (e : Entry) (n : ℕ) → is_of c e ≡ false → frames_sent (e ∷ past) (up_way c v q n) ≡ frames_sent past (up_way c v q n)
  sent_other past e n off = rw off refl

  -- the first is an Opening
  pub record FirstOpens (past : List Entry) (n : ℕ) : Type 0 where
    pub it : FlyingFrame
    pub first : slice_get (frames_sent past (up_way c v q n)) 0 ≡ Some it
    pub opens : it.frame.body ≡ Opening

  older_first : (past : List Entry) (e : Entry) (n : ℕ) → FirstOpens past n → (more : List FlyingFrame) → frames_sent (e ∷ past) (up_way c v q n) ≡ frames_sent past (up_way c v q n) ++ more → FirstOpens (e ∷ past) n
  older_first past e n x more is = record { it = x.it; first = subst (λ (xs : List FlyingFrame). slice_get xs 0 ≡ Some x.it) (sym is) (slice_get-left (frames_sent past (up_way c v q n)) more 0 x.it x.first); opens = x.opens }

  pub first_opens : (past : List Entry) → RunPast (set_up run) past → (n : ℕ) → 1 ≤ n → n ≤ (end_at past c (client_end v q)).epoch → FirstOpens past n
  first_opens [] h n low high = absurd (omega (arith, low, high))
  first_opens (e ∷ past) h n low high = go (first_opens past h.1 n low) (is_of c e) refl
    where
      go : (n ≤ (end_at past c a).epoch → FirstOpens past n) → (t : Bool) → is_of c e ≡ t → FirstOpens (e ∷ past) n
      go old false off =
          let same : end_at (e ∷ past) c a ≡ end_at past c a = rw off refl in
          let x = old (subst (λ (z : End). n ≤ z.epoch) same high) in
          record { it = x.it; first = subst (λ (xs : List FlyingFrame). slice_get xs 0 ≡ Some x.it) (sym (sent_other past e n off)) x.first; opens = x.opens }
      go old true own = elim (client_step past e h.1 h.0 own) [
        | inl o ↦ opened o
        | inr z ↦ older_first past e n (old (subst (λ k. n ≤ k) z.same high)) _ (sent_own past e n own)
      ]
        where
          opened : OpensIt past e h.1 h.0 own → FirstOpens (e ∷ past) n
          opened o = by (at_most n (end_at past c a).epoch (subst (λ k. n ≤ k) o.after_epoch high))
            where
              at_most : (i j : ℕ) → i ≤ j + 1 → (i ≤ j) ⊎ (i ≡ j + 1)
              at_most i j l = pick (nat_le i j) refl
                where
                  pick : (t : Bool) → nat_le i j ≡ t → (i ≤ j) ⊎ (i ≡ j + 1)
                  pick true k = inl (grind (arith, nat_tests))
                  pick false k = inr (grind (arith, nat_tests))

              by : (n ≤ (end_at past c a).epoch) ⊎ (n ≡ (end_at past c a).epoch + 1) → FirstOpens (e ∷ past) n
              by (inl l) = older_first past e n (old l) _ (sent_own past e n own)
              by (inr is) = record {
                it = flying_frame e past o.g;
                first = ap (λ (xs : List FlyingFrame). slice_get xs 0) (sent_own past e n own ∙ (ap (λ (xs : List FlyingFrame). xs ++ map (flying_frame e past) (filter (λ g. g.epoch == n) (sent_at a e.sent))) none ∙ ap (map (flying_frame e past)) new));
                opens = o.body_is;
              }
                where
                  later : (i j : ℕ) → i ≡ j + 1 → j < i
                  later i j e = omega (arith, e)

                  none : frames_sent past (up_way c v q n) ≡ []
                  none = none_sent reads_back run repos past h.1 c a n (later n (end_at past c a).epoch is)

                  at_n : (o.g.epoch == n) ≡ true
                  at_n = ap (λ k. k == n) (o.epoch_is ∙ sym is) ∙ eqb_refl n

                  new : filter (λ (g : FrameView). g.epoch == n) (sent_at a e.sent) ≡ o.g ∷ []
                  new = ap (filter (λ (g : FrameView). g.epoch == n)) o.sent_is ∙ rw at_n refl

  -- and no other is
  pub only_first : (past : List Entry) → RunPast (set_up run) past → (n k : ℕ) (it : FlyingFrame) → slice_get (frames_sent past (up_way c v q n)) k ≡ Some it → is_opening it.frame.body ≡ true → k ≡ 0
  only_first [] h n k it at opens = absurd (get_none k it at)
  only_first (e ∷ past) h n k it at opens = go (only_first past h.1 n k it) (is_of c e) refl
    where
      go : (slice_get (frames_sent past (up_way c v q n)) k ≡ Some it → is_opening it.frame.body ≡ true → k ≡ 0) → (t : Bool) → is_of c e ≡ t → k ≡ 0
      go old false off = old (subst (λ (xs : List FlyingFrame). slice_get xs k ≡ Some it) (sent_other past e n off) at) opens
      go old true own = elim (get_append (frames_sent past (up_way c v q n)) _ k it (subst (λ (xs : List FlyingFrame). slice_get xs k ≡ Some it) (sent_own past e n own) at)) [
        | inl z ↦ old z opens
        | inr m ↦ new (member_mapped (flying_frame e past) (filter (λ g. g.epoch == n) (sent_at a e.sent)) it m)
      ]
        where
          new : (x : FrameView) × Member x (filter (λ g. g.epoch == n) (sent_at a e.sent)) × (it ≡ flying_frame e past x) → k ≡ 0
          new x = elim (client_step past e h.1 h.0 own) [
            | inl o ↦ opened o
            | inr z ↦ absurd (true≢false (sym (ap (λ (y : FlyingFrame). is_opening y.frame.body) (sym x.2) ∙ opens) ∙ Each-member (λ g. is_opening g.body ≡ false) (sent_at a e.sent) x.0 z.opens_none two.0))
          ]
            where
              two : Member x.0 (sent_at a e.sent) × ((x.0.epoch == n) ≡ true)
              two = Member-filter_parts (λ (g : FrameView). g.epoch == n) (sent_at a e.sent) x.0 x.1

              opened : OpensIt past e h.1 h.0 own → k ≡ 0
              opened o = one k (subst (λ (xs : List FlyingFrame). slice_get xs k ≡ Some it) all at)
                where
                  is_g : Member x.0 (o.g ∷ []) → x.0 ≡ o.g
                  is_g (inl same) = same
                  is_g (inr m) = absurd m

                  at_g : o.g.epoch ≡ n
                  at_g = ap (λ (y : FrameView). y.epoch) (sym (is_g (subst (Member x.0) o.sent_is two.0))) ∙ eqb-true x.0.epoch n two.1

                  stays : filter (λ (g : FrameView). g.epoch == n) (o.g ∷ []) ≡ o.g ∷ []
                  stays = rw (ap (λ k. k == n) at_g ∙ eqb_refl n) refl

                  later : (i j k : ℕ) → i ≡ j + 1 → i ≡ k → j < k
                  later i j k e f = omega (arith, e, f)

                  all : frames_sent (e ∷ past) (up_way c v q n) ≡ flying_frame e past o.g ∷ []
                  all = sent_own past e n own ∙ (ap (λ (xs : List FlyingFrame). xs ++ map (flying_frame e past) (filter (λ g. g.epoch == n) (sent_at a e.sent)))
                      (none_sent reads_back run repos past h.1 c a n (later o.g.epoch (end_at past c a).epoch n o.epoch_is at_g))
                      ∙ ap (map (flying_frame e past)) (ap (filter (λ (g : FrameView). g.epoch == n)) o.sent_is ∙ stays))

                  one : (k : ℕ) → slice_get (flying_frame e past o.g ∷ []) k ≡ Some it → k ≡ 0
                  one zero z = refl
                  one (suc k) z = absurd (get_none k it z)

  -- ---- what the server has taken

  takes_up : (n : ℕ) (o : Option FrameView) → takes (up_way c v q n) o ≡ hits n (taken_at b o)
  takes_up n None = refl
  takes_up n (Some f) = and_regrouped (f.peer == c) (f.slot == q) (same_bool f.up true) (f.epoch == n)
      ∙ (ap (λ t. ((f.peer == c) && (f.slot == q) && t) && (f.epoch == n)) (other_side f.up false) ∙ go (takes_at b f))
    where
      go : (t : Bool) → (t && (f.epoch == n)) ≡ hits n (if t then Some f else None)
      go true = refl
      go false = refl

  pub count_own : (past : List Entry) (e : Entry) (n : ℕ) (t : Bool) → is_of v e ≡ true → hits n (taken_at (server_end c q) e.taken) ≡ t → taken_count (e ∷ past) (up_way c v q n) ≡ (if t then taken_count past (up_way c v q n) + 1 else taken_count past (up_way c v q n))
  count_own past e n t own hit = ap (λ z. if z && takes (up_way c v q n) e.taken then taken_count past (up_way c v q n) + 1 else taken_count past (up_way c v q n)) own
      ∙ ap (λ z. if z then taken_count past (up_way c v q n) + 1 else taken_count past (up_way c v q n)) (takes_up n e.taken ∙ hit)

  pub count_other : (past : List Entry) (e : Entry) (n : ℕ) → is_of v e ≡ false → taken_count (e ∷ past) (up_way c v q n) ≡ taken_count past (up_way c v q n)
  count_other past e n off = rw off refl

  -- it has taken so many frames of the opening
  pub record HasTaken (d : End) (n k : ℕ) : Type 0 where
    pub not_yet : d.epoch < n → k ≡ 0
    pub at_it : d.epoch ≡ n → 1 ≤ n → 1 ≤ k
    pub begun : d.opened ≡ true → 1 ≤ d.epoch

  same_taken : (d d' : End) (n k k' : ℕ) → d'.epoch ≡ d.epoch → (d'.opened ≡ true → d.opened ≡ true) → k' ≡ k → HasTaken d n k → HasTaken d' n k'
  same_taken d d' n k k' same opened count x = record {
    not_yet = λ l. count ∙ x.not_yet (subst (λ i. i < n) same l);
    at_it = λ i low. subst (λ j. 1 ≤ j) (sym count) (x.at_it (sym same ∙ i) low);
    begun = λ o. subst (λ j. 1 ≤ j) (sym same) (x.begun (opened o));
  }

  more_taken : (d' : End) (n k k' : ℕ) → n ≤ d'.epoch → (d'.opened ≡ true → 1 ≤ d'.epoch) → k' ≡ k + 1 → HasTaken d' n k'
  more_taken d' n k k' low begun count = record { not_yet = λ l. absurd (omega (arith, low, l)); at_it = λ i o. omega (arith, count); begun = begun }

  pub has_taken : (past : List Entry) → RunPast (set_up run) past → (n : ℕ) → HasTaken (end_at past v (server_end c q)) n (taken_count past (up_way c v q n))
  has_taken [] h n = record { not_yet = λ l. refl; at_it = λ i low. absurd (omega (arith, i, low)); begun = λ o. absurd (true≢false (sym o)) }
  has_taken (e ∷ past) h n = go (has_taken past h.1 n) (is_of v e) refl
    where
      go : HasTaken (end_at past v b) n (taken_count past (up_way c v q n)) → (t : Bool) → is_of v e ≡ t → HasTaken (end_at (e ∷ past) v b) n (taken_count (e ∷ past) (up_way c v q n))
      go old false off =
          let same : end_at (e ∷ past) v b ≡ end_at past v b = rw off refl in
          same_taken (end_at past v b) (end_at (e ∷ past) v b) n _ _ (ap (λ (z : End). z.epoch) same) (λ o. sym (ap (λ (z : End). z.opened) same) ∙ o) (count_other past e n off) old
      go old true own = elim (at_server (set_up run v) past part.words e c q part.own) [
        | inl z ↦ (let end' = end_own v past b e own ∙ end_shuts b (end_at past v b) e z in
            still (ap (λ (d : End). d.epoch) end' ∙ all_epoch (end_at past v b) _ (shuts_none _ z.closes)) (λ o. all_opened (end_at past v b) _ (shuts_none _ z.closes) (sym (ap (λ (d : End). d.opened) end') ∙ o)) (ap (hits n) z.takes_none))
        | inr z ↦ elim z [
          | inl y ↦ took y (is_opening y.f.body) refl (y.f.epoch == n) refl
          | inr y ↦ (let end' = end_own v past b e own ∙ end_gave (set_up run v) past b e y in
              still (ap (λ (d : End). d.epoch) end' ∙ all_epoch (end_at past v b) _ (gave_none (set_up run v) past b e y)) (λ o. all_opened (end_at past v b) _ (gave_none (set_up run v) past b e y) (sym (ap (λ (d : End). d.opened) end') ∙ o))
              (ap (hits n) (taken_none (set_up run v) past b e y)))
        ]
      ]
        where
          part : Part (set_up run) past v e
          part = part_of (set_up run) past e v h.0 own

          still : (end_at (e ∷ past) v b).epoch ≡ (end_at past v b).epoch → ((end_at (e ∷ past) v b).opened ≡ true → (end_at past v b).opened ≡ true) → hits n (taken_at b e.taken) ≡ false
              → HasTaken (end_at (e ∷ past) v b) n (taken_count (e ∷ past) (up_way c v q n))
          still same opened none = same_taken (end_at past v b) (end_at (e ∷ past) v b) n _ _ same opened (count_own past e n false own none) old

          after : (y : TakesHere (set_up run v) past b e) → (end_at (e ∷ past) v b).epoch ≡ (end_takes (end_at past v b) y.f.epoch y.f.body).epoch
          after y = ap (λ (d : End). d.epoch) (end_own v past b e own ∙ end_took-is (set_up run v) past b e y) ∙ all_epoch (end_takes (end_at past v b) y.f.epoch y.f.body) _ (took_none (set_up run v) past b e y)

          begun : (y : TakesHere (set_up run v) past b e) → (t : Bool) → is_opening y.f.body ≡ t → (end_at (e ∷ past) v b).opened ≡ true → 1 ≤ (end_at (e ∷ past) v b).epoch
          begun y true o k =
              let i : (end_at (e ∷ past) v b).epoch ≡ y.f.epoch = after y ∙ ap (λ (d : End). d.epoch) (opening_takes (end_at past v b) y.f.epoch y.f.body o) in
              let l : (end_at past v b).epoch < y.f.epoch = opening_later (end_at past v b) y.f o y.may in
              omega (arith, i, l)
          begun y false o k = subst (λ j. 1 ≤ j) (sym (after y ∙ takes_epoch (end_at past v b) y.f.epoch y.f.body o)) (old.begun (may_epoch (end_at past v b) y.f o y.may).0)

          hit : (y : TakesHere (set_up run v) past b e) → (t : Bool) → (y.f.epoch == n) ≡ t → hits n (taken_at b e.taken) ≡ t
          hit y t is = ap (hits n) (took_at (set_up run v) past b e y) ∙ is

          took : (y : TakesHere (set_up run v) past b e) → (t : Bool) → is_opening y.f.body ≡ t → (u : Bool) → (y.f.epoch == n) ≡ u → HasTaken (end_at (e ∷ past) v b) n (taken_count (e ∷ past) (up_way c v q n))
          took y t opens true is =
              let at_n : y.f.epoch ≡ n = eqb-true y.f.epoch n is in
              more_taken (end_at (e ∷ past) v b) n _ _ (by t opens at_n) (begun y t opens) (count_own past e n true own (hit y true is))
            where
              by : (t : Bool) → is_opening y.f.body ≡ t → y.f.epoch ≡ n → n ≤ (end_at (e ∷ past) v b).epoch
              by true o at_n = let i : (end_at (e ∷ past) v b).epoch ≡ y.f.epoch = after y ∙ ap (λ (d : End). d.epoch) (opening_takes (end_at past v b) y.f.epoch y.f.body o) in omega (arith, i, at_n)
              by false o at_n =
                  let i : (end_at (e ∷ past) v b).epoch ≡ (end_at past v b).epoch = after y ∙ takes_epoch (end_at past v b) y.f.epoch y.f.body o in
                  let j : y.f.epoch ≡ (end_at past v b).epoch = (may_epoch (end_at past v b) y.f o y.may).1 in
                  omega (arith, i, j, at_n)
          took y false o false is = still (after y ∙ takes_epoch (end_at past v b) y.f.epoch y.f.body o) (λ k. (may_epoch (end_at past v b) y.f o y.may).0) (hit y false is)
          took y true o false is =
              let i : (end_at (e ∷ past) v b).epoch ≡ y.f.epoch = after y ∙ ap (λ (d : End). d.epoch) (opening_takes (end_at past v b) y.f.epoch y.f.body o) in
              let l : (end_at past v b).epoch < y.f.epoch = opening_later (end_at past v b) y.f o y.may in
              let count = count_own past e n false own (hit y false is) in
              record {
                not_yet = λ k. count ∙ old.not_yet (less (end_at past v b).epoch y.f.epoch (end_at (e ∷ past) v b).epoch n l i k);
                at_it = λ k low. absurd (apart y.f.epoch n is (sym i ∙ k));
                begun = begun y true o;
              }
            where
              less : (i j k n : ℕ) → i < j → k ≡ j → k < n → i < n
              less i j k n x y z = omega (arith, x, y, z)

              apart : (i n : ℕ) → (i == n) ≡ false → i ≡ n → ⊥
              apart i n e same = true≢false (sym (ap (λ k. k == n) same ∙ eqb_refl n) ∙ e)
