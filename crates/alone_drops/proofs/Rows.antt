-- The rows while a drop runs alone: those of others than its target are as they were, and nothing comes in the way at the target of a remote drop.
use Rattle.std.proofs.Common.{◌≡◌, ◌≢◌, ℕ, Bool, true, false, List, [], ◌∷◌, ◌++◌, Option, Some, None, ◌⊎◌, inl, inr, refl, sym, ap, ◌∙◌, subst}
use Rattle.std.proofs.lemmas.Bool.{true≢false}
use Rattle.annex_base.specs.Lists.{Each, Member}
use Rattle.drop_proof.specs.declared.rule.Side.{Side}
use Rattle.drop_proof.specs.declared.rule.Side.TheVariants.{Remote}
use Rattle.run_data.specs.declared.entry.Entry.{Entry}
use Rattle.run_data.specs.declared.entry.EntryKind.{EntryKind}
use Rattle.run_data.specs.declared.entry.EntryKind.TheVariants.{Gain, Share, Release, Check, Gone, Log, Talk, Close, Wait, Fault, Bar, Crash}
use Rattle.run_data.specs.declared.entry.FrameView.{FrameView}
use Rattle.run_data.specs.declared.entry.FrameText.{FrameText}
use Rattle.run_data.specs.declared.job.Job.{Job}
use Rattle.run_data.specs.declared.run.Run.{Run}
use Rattle.run_data.specs.Repos.{IsSetUp}
use Rattle.p2p_wire.specs.declared.message.Message.{Message}
use Rattle.p2p_wire.specs.Messages.{order_of}
use Rattle.p2p_wire.specs.declared.message.Message.TheVariants.{LockContent}
use Rattle.node_model.specs.Ends.{EndName, server_end}
use Rattle.node_model.specs.Found.{IsSessionEntry}
use Rattle.node_model.specs.Rows.{bar_after, present_after, is_blocked}
use Rattle.node_model.specs.Sessions.{Doing, Session, line_in}
use Rattle.node_model.specs.SessionStep.{Here, gives_next, here, on_frame}
use Rattle.node_model.specs.SetUp.{SetUp}
use Rattle.run_model.specs.Frames.{FlyingFrame, MayTake}
use Rattle.run_model.specs.Past.{bar, is_of, now, present, clock, clock_set, holds}
use Rattle.run_model.specs.Run.{RunPast, RunStep, TimeIs, set_up}
use Rattle.run_model.specs.Said.{Says, message_in}
use Rattle.run_model.specs.States.{session, state_of}
use Rattle.step_facts.proofs.Below.{SentAreRead}
use Rattle.step_facts.proofs.ServerEnds.{BySessionAt, GivesHere, TakesHere}
use Rattle.step_facts.proofs.SessionFacts.{frame_found, gives_found}
use Rattle.past_facts.proofs.Changes.{repo_of, same_repo, PutsBar, Shares, bar_was, blocked_was}
use Rattle.past_facts.proofs.OwnRuns.{Part, part_of}
use Rattle.run_laws.proofs.SaidDown.{said_is}
use Rattle.run_laws.proofs.SessionOwn.{served_other, way_at}
use Rattle.run_laws.proofs.WayCounts.{way_in}
use Rattle.run_laws.proofs.ClockKept.{clock_kept, clock_other}
use Rattle.alone_drops.proofs.Since.{AddsLine, Beginning, Since, calm_who, stepped_since, is_calm}
use Rattle.alone_drops.proofs.Frames.{NewFrame, frame_body, reached, rest_gives, taken_new, up_frame}
use Rattle.alone_drops.proofs.Sides.{Aims}
use Rattle.alone_drops.proofs.Sends.{lock_to, order_to}

-- ---- time

time_of : (before : ℕ) (e : Entry) (kind : EntryKind) (r : ℕ) → TimeIs before e kind (Some r) → e.time ≡ before
time_of before e (Wait ms) r h = h
time_of before e kind r h = h

pub own_time : (s : ℕ → SetUp) (past : List Entry) (e : Entry) (r : ℕ) → RunStep s past e → is_of r e ≡ true → e.time ≡ now past
own_time s past e r step own = time_of (now past) e e.kind r (subst (λ o. TimeIs (now past) e e.kind o) (repo_of e r own) step.order.time_is)

module _ (reads_back : SentAreRead) (run : Run) (repos : Each IsSetUp run.repos) (past : List Entry) (b : Entry) (a j : ℕ) (what : Job) (z : Beginning run past b a j what) (h0 : RunPast (set_up run) (b ∷ past)) where
  abbrev base : List Entry
  base = b ∷ past

  somebody : (o : Option ℕ) (before : ℕ) (e : Entry) → TimeIs before e e.kind o → is_calm e.kind ≡ true → e.time ≡ before
  somebody (Some r) before e h u = time_of before e e.kind r h
  somebody None before e h u = go e.kind h u
    where
      go : (kind : EntryKind) → TimeIs before e kind None → is_calm kind ≡ true → e.time ≡ before
      go (Wait ms) h u = absurd (cc)
      go kind h u = absurd h

  -- no time passes
  pub now_since : (xs : List Entry) → RunPast (set_up run) (xs ++ base) → Since run base xs → now (xs ++ base) ≡ b.time
  now_since [] h t = refl
  now_since (e ∷ xs) h t = somebody e.repo (now (xs ++ base)) e h.0.order.time_is t.0.kind ∙ now_since xs h.1 t.1

  -- ---- a session speaks with a alone
  pub session_by_a : (xs : List Entry) → RunPast (set_up run) (xs ++ base) → Since run base xs → (c : ℕ) (e : Entry) → RunStep (set_up run) (xs ++ base) e → is_of c e ≡ true → (k : BySessionAt (set_up run c) (xs ++ base) e) → k.0 ≡ a
  session_by_a xs h t c e step own k = by k.3
    where
      p : List Entry
      p = xs ++ base

      part : Part (set_up run) p c e
      part = part_of (set_up run) p e c step own

      n : EndName
      n = server_end k.0 k.1

      by : TakesHere (set_up run c) p n e ⊎ GivesHere (set_up run c) p n e → k.0 ≡ a
      by (inl y) =
          let m = subst (λ v. MayTake p v y.f) (way_at c n y.f y.of_end) (part.frames.takes y.f y.taken_is) in
          (up_frame reads_back run repos past b a j what z h0 k.0 c k.1 y.f.epoch m.it (taken_new reads_back run repos past b a j what z h0 c k.0 k.1 k.2 xs h t part.own.known y.f y.of_end y.may m)).0
      by (inr y) = elim (reached reads_back run repos past b a j what z h0 c k.0 k.1 k.2 xs h t) [
        | inl s ↦ s.0
        | inr s ↦ absurd (rest_gives run past z.rest c k.0 k.1 part.own.known k.2 (here (set_up run c) (state_of (set_up run c) p) y.k n) y.x (sym s.opened_is ∙ y.opened)
            (subst (λ (v : Session). gives_next (here (set_up run c) (state_of (set_up run c) p) y.k n) v.doing ≡ Some y.x) s.session_is y.next))
      ]

  -- so none does at a
  pub no_session : (xs : List Entry) → RunPast (set_up run) (xs ++ base) → Since run base xs → (e : Entry) → RunStep (set_up run) (xs ++ base) e → is_of a e ≡ true → BySessionAt (set_up run a) (xs ++ base) e → ⊥
  no_session xs h t e step own k = served_other (set_up run a) k.0 k.1 k.2 (session_by_a xs h t a e step own k)

  -- ---- another repository's entries

  module _ (xs : List Entry) (h : RunPast (set_up run) (xs ++ base)) (t : Since run base xs) (c : ℕ) (off : c ≢ a) (e : Entry) (step : RunStep (set_up run) (xs ++ base) e) (u : is_calm e.kind ≡ true) (own : is_of c e ≡ true) where
    abbrev q : List Entry
    q = xs ++ base

    mine : Part (set_up run) q c e
    mine = part_of (set_up run) q e c step own

    -- a new frame asks this
    pub record Asks (m : Message) : Type 0 where
      pub x : ℕ
      pub slot : ℕ
      pub epoch : ℕ
      pub it : FlyingFrame
      pub new : NewFrame run base (way_in c (server_end x slot) epoch) it
      pub says : message_in it.frame.body ≡ Says m

    pub record BySession : Type 0 where
      pub hh : Here
      pub doing : Doing
      pub asked : Option Message
      pub says : List FrameText
      pub found : IsSessionEntry hh doing asked says e.kind
      pub asks : (m : Message) → asked ≡ Some m → Asks m
      pub sent : (g : FrameView) → Member g e.sent → Member g.body says

    -- the entry adds a line, or a session made it that a new frame asks
    pub who : AddsLine e ⊎ BySession
    who = elim (calm_who (set_up run c) q mine.words e mine.own u) [
      | inl y ↦ inl y
      | inr y ↦ elim y [ inl k ↦ inr (by k k.3) | inr k ↦ absurd (off (stepped_since run past b a j what z xs t c e k).at) ]
    ]
      where
        by : (k : BySessionAt (set_up run c) q e) → TakesHere (set_up run c) q (server_end k.0 k.1) e ⊎ GivesHere (set_up run c) q (server_end k.0 k.1) e → BySession
        by k (inl y) =
            let m = subst (λ v. MayTake q v y.f) (way_at c (server_end k.0 k.1) y.f y.of_end) (mine.frames.takes y.f y.taken_is) in
            let h' = here (set_up run c) (state_of (set_up run c) q) y.k (server_end k.0 k.1) in
            let was = session q c (server_end k.0 k.1) in
            record {
              hh = h';
              doing = was.doing;
              asked = line_in y.f.body;
              says = (on_frame h' was y.f.body).says;
              found = subst (IsSessionEntry h' was.doing (line_in y.f.body) (on_frame h' was y.f.body).says) (sym y.kind_is) (frame_found h' was y.f.body);
              asks = λ m' is. record {
                x = k.0;
                slot = k.1;
                epoch = y.f.epoch;
                it = m.it;
                new = taken_new reads_back run repos past b a j what z h0 c k.0 k.1 k.2 xs h t mine.own.known y.f y.of_end y.may m;
                says = ap message_in m.body_is ∙ said_is y.f.body m' is;
              };
              sent = λ g n. frame_body _ _ _ g (subst (Member g) y.sent_is n);
            }
        by k (inr y) =
            let h' = here (set_up run c) (state_of (set_up run c) q) y.k (server_end k.0 k.1) in
            let was = session q c (server_end k.0 k.1) in
            record {
              hh = h';
              doing = was.doing;
              asked = None;
              says = y.x.says;
              found = subst (IsSessionEntry h' was.doing None y.x.says) (sym y.kind_is) (gives_found h' was.doing y.x y.next);
              asks = λ m' is. absurd (cc);
              sent = λ g n. frame_body _ _ _ g (subst (Member g) y.sent_is n);
            }

  -- ---- the rows: of others than the target they are as they were, and nothing comes in the way at the target of a remote drop

  module _ (side : Side) (to : ℕ) (aims : Aims a what side to) where
    -- what an entry of a session leaves of the row of a key
    abbrev RowKept : List ℕ → EntryKind → Type 0
    RowKept key kind = ((was : Bool) → present_after key was kind ≡ was) × ((was : Option ℕ) → bar_after key was kind ≡ was)

    session_row : (hh : Here) (doing : Doing) (asked : Option Message) (says : List FrameText) (key : List ℕ) (kind : EntryKind) → is_calm kind ≡ true → ((deadline : Option ℕ) (k : List ℕ) → asked ≡ Some (order_of deadline k) → ⊥)
        → IsSessionEntry hh doing asked says kind → RowKept key kind
    session_row hh doing asked says key (Share hold end by k) u off x = (λ was. refl, λ was. refl)
    session_row hh doing asked says key (Check found k) u off x = (λ was. refl, λ was. refl)
    session_row hh doing asked says key (Gone by k) u off x = absurd (off x.deadline k x.asks)
    session_row hh doing asked says key (Release hold k) u off x = (λ was. refl, λ was. refl)
    session_row hh doing asked says key (Gain by size k) u off x = absurd (cc)
    session_row hh doing asked says key (Talk None) u off x = (λ was. refl, λ was. refl)
    session_row hh doing asked says key (Close peer slot client) u off x = absurd (cc)
    session_row hh doing asked says key (Fault call by) u off x = absurd (cc)
    session_row hh doing asked says key kind u off x = absurd x

    pub record SameRow (p : List Entry) (c : ℕ) (key : List ℕ) : Type 0 where
      pub present_is : present p c key ≡ present past c key
      pub bar_is : bar p c key ≡ bar past c key

    module _ (xs : List Entry) (h : RunPast (set_up run) (xs ++ base)) (t : Since run base xs) (c : ℕ) (off : c ≢ a) (e : Entry) (step : RunStep (set_up run) (xs ++ base) e) (u : is_calm e.kind ≡ true) (own : is_of c e ≡ true) where
      row_kept : c ≢ to → (key : List ℕ) → RowKept key e.kind
      row_kept other key = elim (who xs h t c off e step u own) [
        | inl y ↦ subst (RowKept key) (sym y.kind_is) (λ was. refl, λ was. refl)
        | inr y ↦ session_row y.hh y.doing y.asked y.says key e.kind u (λ deadline k is. let n = y.asks (order_of deadline k) is in other (order_to reads_back run repos past b a j what z h0 side to aims c n.x n.slot n.epoch n.it n.new deadline k n.says)) y.found
      ]

      -- no lock is taken at the target
      no_share : side ≡ Remote → c ≡ to → (key : List ℕ) → Shares e c key → ⊥
      no_share remote at key y = elim (who xs h t c off e step u own) [
        | inl v ↦ (let bad : Log v.file ≡ Share y.hold y.end y.owner key = sym v.kind_is ∙ y.kind_is in cc)
        | inr v ↦ (let found = subst (IsSessionEntry v.hh v.doing v.asked v.says) y.kind_is v.found in
            let n = v.asks (LockContent key) found.asks in
            lock_to reads_back run repos past b a j what z h0 side to aims c n.x n.slot n.epoch n.it n.new remote key n.says at)
      ]

      -- nor a bar put
      no_bar : (key : List ℕ) (i : ℕ) → PutsBar e c key i → ⊥
      no_bar key i y = elim (who xs h t c off e step u own) [
        | inl v ↦ (let bad : Log v.file ≡ Bar i y.need key = sym v.kind_is ∙ y.kind_is in cc)
        | inr v ↦ subst (IsSessionEntry v.hh v.doing v.asked v.says) y.kind_is v.found
      ]

    -- **the row of a repository other than the target is what it was**
    pub row_since : (xs : List Entry) → RunPast (set_up run) (xs ++ base) → Since run base xs → (c : ℕ) → c ≢ a → c ≢ to → (key : List ℕ) → SameRow (xs ++ base) c key
    row_since [] h t c off other key = go (is_of c b) refl
      where
        go : (d : Bool) → is_of c b ≡ d → SameRow base c key
        go true own = absurd (off (same_repo b c a own z.by_a))
        go false away = record { present_is = rw away refl; bar_is = rw away refl }
    row_since (e ∷ xs) h t c off other key = go (row_since xs h.1 t.1 c off other key) (is_of c e) refl
      where
        go : SameRow (xs ++ base) c key → (d : Bool) → is_of c e ≡ d → SameRow (e ∷ xs ++ base) c key
        go old true own =
            let k = row_kept xs h.1 t.1 c off e h.0 t.0.kind own other key in
            record { present_is = rw own (k.0 (present (xs ++ base) c key) ∙ old.present_is); bar_is = rw own (k.1 (bar (xs ++ base) c key) ∙ old.bar_is) }
        go old false away = record { present_is = rw away old.present_is; bar_is = rw away old.bar_is }

    no_crash : (kind : EntryKind) → is_calm kind ≡ true → (clk : ℕ) → kind ≡ Crash clk → ⊥
    no_crash kind u clk is = true≢false (sym u ∙ ap is_calm is)

    -- clocks aren't set
    pub set_since : (xs : List Entry) → Since run base xs → (c : ℕ) → c ≢ a → clock_set run.repos (xs ++ base) c ≡ clock_set run.repos past c
    set_since [] t c off = clock_other run.repos past c b (go (is_of c b) refl)
      where
        go : (d : Bool) → is_of c b ≡ d → d ≡ false
        go true own = absurd (off (same_repo b c a own z.by_a))
        go false away = refl
    set_since (e ∷ xs) t c off = clock_kept run.repos (xs ++ base) c e (λ clk is. no_crash e.kind t.0.kind clk is) ∙ set_since xs t.1 c off

    -- **at the target nothing comes in the way**
    pub record Clear (p : List Entry) (key : List ℕ) : Type 0 where
      pub free : bar p to key ≡ None
      pub unheld : is_blocked (holds p to) key (clock run.repos past to b.time) ≡ false

    pub clear_since : side ≡ Remote → (key : List ℕ) → bar past to key ≡ None → is_blocked (holds past to) key (clock run.repos past to b.time) ≡ false → (xs : List Entry) → RunPast (set_up run) (xs ++ base) → Since run base xs → Clear (xs ++ base) key
    clear_since remote key free unheld [] h t = go (is_of to b) refl
      where
        go : (d : Bool) → is_of to b ≡ d → Clear base key
        go true own = absurd (aims.apart remote (same_repo b to a own z.by_a))
        go false away = record { free = rw away free; unheld = rw away unheld }
    clear_since remote key free unheld (e ∷ xs) h t = go (clear_since remote key free unheld xs h.1 t.1) (is_of to e) refl
      where
        p : List Entry
        p = xs ++ base

        go : Clear p key → (d : Bool) → is_of to e ≡ d → Clear (e ∷ p) key
        go old false away = record { free = rw away old.free; unheld = rw away old.unheld }
        go old true own = record { free = bars (bar (e ∷ p) to key) refl; unheld = holds' (is_blocked (holds (e ∷ p) to) key (clock run.repos past to b.time)) refl }
          where
            bars : (o : Option ℕ) → bar (e ∷ p) to key ≡ o → o ≡ None
            bars None is = refl
            bars (Some i) is = elim (bar_was e p to key i is) [
              | inl was ↦ absurd (let both : None ≡ Some i = sym old.free ∙ was in cc)
              | inr y ↦ absurd (no_bar xs h.1 t.1 to (aims.apart remote) e h.0 t.0.kind own key i y)
            ]

            holds' : (d : Bool) → is_blocked (holds (e ∷ p) to) key (clock run.repos past to b.time) ≡ d → d ≡ false
            holds' false is = refl
            holds' true is = elim (blocked_was e p to key (clock run.repos past to b.time) is) [
              | inl was ↦ absurd (true≢false (sym was ∙ old.unheld))
              | inr y ↦ elim y [
                | inl s ↦ absurd (no_share xs h.1 t.1 to (aims.apart remote) e h.0 t.0.kind own remote refl key s)
                | inr s ↦ absurd (no_crash e.kind t.0.kind s.clock s.kind_is)
              ]
            ]
