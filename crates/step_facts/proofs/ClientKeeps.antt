-- Each entry of a repository keeps a client's end to its epoch: it takes there what the end may take, and sends there one frame of the epoch
-- that the end has then, or no request.
use Rattle.std.proofs.Common.{◌≡◌, ℕ, ◌+◌, Bool, true, false, List, [], ◌∷◌, ◌++◌, Option, Some, None, ◌⊎◌, inl, inr, refl, sym, ap, ◌∙◌, subst}
use Rattle.std.specs.Prelude.{if◌then◌else◌, ◌==◌, ◌&&◌, find, fold, not}
use Rattle.std.specs.List.{list_all}
use Rattle.std.specs.Option.{option_or}
use Rattle.annex_base.specs.Lists.{Each}
use Rattle.annex_base.specs.declared.kinds.Word.{Word}
use Rattle.annex_base.proofs.Lists.{Each-filter, find_member}
use Rattle.annex_base.proofs.Options.{first_some-was, option_or-was}
use Rattle.step_facts.proofs.Below.{SentAreRead}
use Rattle.run_data.specs.declared.entry.Entry.{Entry}
use Rattle.run_data.specs.declared.entry.EntryKind.{EntryKind}
use Rattle.run_data.specs.declared.entry.EntryKind.TheVariants.{Gain, Share, Bar, Gone, Order, Talk, Fault, End as ends_job}
use Rattle.run_data.specs.declared.entry.FrameView.{FrameView}
use Rattle.run_data.specs.declared.entry.FrameText.{FrameText}
use Rattle.run_data.specs.declared.entry.FrameText.TheVariants.{Opening, Closing, Bytes, Line}
use Rattle.node_model.specs.Rows.{is_lost_ordered}
use Rattle.node_model.specs.Look.{Look, Effect, entry_of, waiting_frame}
use Rattle.p2p_wire.specs.declared.message.Message.TheVariants.{UnlockContent, Success}
use Rattle.p2p_wire.specs.Messages.{message_of, order_of, text_of}
use Rattle.node_model.specs.SetUp.{SetUp, others, slots}
use Rattle.node_model.specs.Ends.{End, EndName, end_after, end_sends, end_takes, end_took, frames, is_opening, may_take, sends_at, sent_at, server_end, taken_at, takes_at}
use Rattle.run_model.specs.States.{end_at, works, state_of}
use Rattle.node_model.specs.Jobs.{Work, job_end, partner}
use Rattle.node_model.specs.OwedStep.{owed_step}
use Rattle.node_model.specs.SessionStep.{session_step}
use Rattle.node_model.specs.JobStep.{Turn, end_with, farewell, farewells, has_lock, key_of, quietly, talk, turn_of, wrong_message}
use Rattle.node_model.specs.Turns.{awaits, by_partner, goes, goes_on, has_room, is_awaiting, job_step, needs, slot_step, takes_frame, with_partner}
use Rattle.run_model.specs.Run.{IsStep, OwnPart, OwnPast}
use Rattle.node_model.specs.Found.{ByOwed, BySession, IsJobEntry}
use Rattle.step_facts.proofs.SessionFacts.{session_found}
use Rattle.step_facts.proofs.StepFacts.{pays_found}
use Rattle.step_facts.proofs.JobFacts.{Goes, frame_found, goes_found, partner_found}
use Rattle.step_facts.proofs.ServerEnds.{come_closes, each_flat, end_of, same_end, same_end-is, sent_other, sent_same, takes_end}
use Rattle.step_facts.proofs.EndMoves.{takes_epoch}
use Rattle.step_facts.proofs.EndEpochs.{own_takes}
use Rattle.step_facts.proofs.Spoken.{unlock_read}
use Rattle.step_facts.proofs.ClientCounts.{asks_for, is_asking}
use Rattle.step_facts.proofs.ClientRuns.{client_end}
use Rattle.step_facts.proofs.ClientWays.{Keeps, KeepsAll}
use Rattle.step_facts.proofs.BySteps.{earlier}

-- ---- what the entry sends there

abbrev NoneAsks : List FrameView → Type 0
NoneAsks fs = Each (λ g. is_asking g.body ≡ false) fs

-- no request, or one frame of the epoch that the end has then
abbrev Sends : SetUp → List Entry → EndName → Entry → Type 0
Sends s past a e = NoneAsks (sent_at a e.sent) ⊎ ((g : FrameView) × (sent_at a e.sent ≡ g ∷ []) × (g.epoch ≡ (end_after a (end_at past s.number a) e).epoch))

closes_ask : (fs : List FrameView) → Each (λ g. g.body ≡ Closing) fs → NoneAsks fs
closes_ask [] all = tt
closes_ask (f ∷ fs) all = (ap is_asking all.0, closes_ask fs all.1)

nothing_sent : (s : SetUp) (past : List Entry) (a : EndName) (e : Entry) → e.sent ≡ [] → Sends s past a e
nothing_sent s past a e is = inl (subst (λ (fs : List FrameView). NoneAsks (sent_at a fs)) (sym is) tt)

-- ---- a step that takes a frame

module _ (t : Turn) (m : Effect) (f : FrameView) (took : m.taken ≡ Some f) where
  none : {A : Type 0} (n : Effect) → n ≡ m → n.taken ≡ None → A
  none n same is = absurd (let both : None ≡ Some f = sym is ∙ ap (λ (y : Effect). y.taken) same ∙ took in cc)

  on_its_own : {A : Type 0} → Goes t t.w.phase → goes_on t ≡ Some m → A
  on_its_own free e = go (list_all (has_room t) (needs t t.w.phase)) e
    where
      go : {A : Type 0} → (b : Bool) → (if b then Some (goes t t.w.phase) else None) ≡ Some m → A
      go false g = absurd (cc)
      go true g = let same : goes t t.w.phase ≡ m = cc in none (goes t t.w.phase) same (goes_found t t.w.phase refl free).0

  by_frame : (peer : ℕ) → partner t.w.what.peer t.w.phase ≡ Some peer → (o : Option FrameView) → awaits t peer o ≡ Some m → m ≡ takes_frame t peer f f.body
  by_frame peer on None e = absurd (cc)
  by_frame peer on (Some g) e = go (has_room t peer) e
    where
      go : (b : Bool) → (if b then Some (takes_frame t peer g g.body) else None) ≡ Some m → m ≡ takes_frame t peer f f.body
      go false h = absurd (cc)
      go true h =
          let same : takes_frame t peer g g.body ≡ m = cc in
          let both : Some g ≡ Some f = sym (frame_found t peer g on g.body refl).0 ∙ ap (λ (y : Effect). y.taken) same ∙ took in
          let it : g ≡ f = cc in
          subst (λ (h : FrameView). m ≡ takes_frame t peer h h.body) it (sym same)

  by_peer : (peer : ℕ) → partner t.w.what.peer t.w.phase ≡ Some peer → (b : Bool) → with_partner t peer b ≡ Some m → m ≡ takes_frame t peer f f.body
  by_peer peer on false e = let same : quietly (talk t) None ≡ m = cc in none (quietly (talk t) None) same refl
  by_peer peer on true e = go (is_awaiting t.w.phase) refl e
    where
      go : (b : Bool) → is_awaiting t.w.phase ≡ b → (if b then awaits t peer (waiting_frame (end_with t peer) t.look (job_end t.w peer)) else goes_on t) ≡ Some m → m ≡ takes_frame t peer f f.body
      go true awaiting g = by_frame peer on (waiting_frame (end_with t peer) t.look (job_end t.w peer)) g
      go false idle g = on_its_own (inr idle) g

  -- it is what the frame makes, on the connection of its partner
  pub by_taken : (p : Option ℕ) → partner t.w.what.peer t.w.phase ≡ p → by_partner t p ≡ Some m → (peer : ℕ) × (p ≡ Some peer) × (m ≡ takes_frame t peer f f.body)
  by_taken None on e = on_its_own (inl on) e
  by_taken (Some peer) on e = (peer, refl, by_peer peer on (end_with t peer).opened e)

-- ---- the entry of a job

sends_epoch : (c d : End) (body : FrameText) → c.epoch ≡ d.epoch → (end_sends c body).epoch ≡ (end_sends d body).epoch
sends_epoch c d Opening e = ap (λ n. n + 1) e
sends_epoch c d Closing e = e
sends_epoch c d (Bytes n) e = e
sends_epoch c d (Line text) e = e

abbrev first_body : FrameText → List FrameView → FrameText
first_body none [] = none
first_body none (g ∷ gs) = g.body

pub taken_there : (a : EndName) (o : Option FrameView) (f : FrameView) → taken_at a o ≡ Some f → (o ≡ Some f) × (takes_at a f ≡ true)
taken_there a None f e = absurd (cc)
taken_there a (Some g) f e = go (takes_at a g) refl e
  where
    go : (b : Bool) → takes_at a g ≡ b → (if b then Some g else None) ≡ Some f → (Some g ≡ Some f) × (takes_at a f ≡ true)
    go true is h = let same : g ≡ f = cc in (h, subst (λ (z : FrameView). takes_at a z ≡ true) same is)
    go false is h = absurd (cc)

module _ (s : SetUp) (past : List Entry) (k : Look) (w : Work) (m : Effect) (does : by_partner (turn_of s (state_of s past) k w) (partner w.what.peer w.phase) ≡ Some m)
    (may : (f : FrameView) → m.taken ≡ Some f → may_take (end_at past s.number (end_of f)) f ≡ true) where
  abbrev t : Turn
  t = turn_of s (state_of s past) k w

  abbrev e : Entry
  e = entry_of s.number k m

  -- the epoch isn't changed by what is taken, where a request is sent
  same_epoch : (peer : ℕ) (body : FrameText) → m.sent ≡ frames (job_end w peer) (end_with t peer) (body ∷ []) → is_asking body ≡ true
      → (end_took (end_with t peer) (taken_at (job_end w peer) m.taken)).epoch ≡ (end_with t peer).epoch
  same_epoch peer body sent asks = go (taken_at (job_end w peer) m.taken) refl
    where
      go : (o : Option FrameView) → taken_at (job_end w peer) m.taken ≡ o → (end_took (end_with t peer) o).epoch ≡ (end_with t peer).epoch
      go None is = refl
      go (Some f) is = test (is_opening f.body) refl
        where
          there : (m.taken ≡ Some f) × (takes_at (job_end w peer) f ≡ true)
          there = taken_there (job_end w peer) m.taken f is

          test : (b : Bool) → is_opening f.body ≡ b → (end_takes (end_with t peer) f.epoch f.body).epoch ≡ (end_with t peer).epoch
          test false no' = takes_epoch (end_with t peer) f.epoch f.body no'
          test true opens = absurd (refused f.body refl opens)
            where
              refused : (b : FrameText) → f.body ≡ b → is_opening b ≡ true → ⊥
              refused Opening at h =
                  let x = by_taken t m f there.0 (partner w.what.peer w.phase) refl does in
                  let made : m ≡ wrong_message t f x.0 = x.2 ∙ ap (takes_frame t x.0 f) at in
                  let both : frames (job_end w peer) (end_with t peer) (body ∷ []) ≡ frames (job_end w x.0) (end_with t x.0) (Closing ∷ []) = sym sent ∙ ap (λ (y : Effect). y.sent) made in
                  let same : body ≡ Closing = ap (first_body Closing) both in
                  let no'' : true ≡ false = sym asks ∙ ap is_asking same in cc
              refused Closing at h = absurd (cc)
              refused (Bytes n) at h = absurd (cc)
              refused (Line text) at h = absurd (cc)

  one_sends : (a : EndName) (peer : ℕ) (body : FrameText) → m.sent ≡ frames (job_end w peer) (end_with t peer) (body ∷ []) → Sends s past a e
  one_sends a peer body sent = go (same_end (job_end w peer) a) refl
    where
      there : EndName → Type 0
      there a = Sends s past a e

      here : Sends s past (job_end w peer) e
      here = test (is_asking body) refl
        where
          is : sent_at (job_end w peer) m.sent ≡ frames (job_end w peer) (end_with t peer) (body ∷ [])
          is = ap (sent_at (job_end w peer)) sent ∙ sent_same (job_end w peer) (end_with t peer) (body ∷ [])

          test : (b : Bool) → is_asking body ≡ b → Sends s past (job_end w peer) e
          test false no' = inl (subst NoneAsks (sym is) (no', tt))
          test true asks =
              let c = end_took (end_with t peer) (taken_at (job_end w peer) m.taken) in
              inr (_, is, sends_epoch (end_with t peer) c body (sym (same_epoch peer body sent asks)) ∙ ap (λ (fs : List FrameView). (fold (λ (d : End) (f : FrameView). end_sends d f.body) c fs).epoch) (sym is))

      go : (b : Bool) → same_end (job_end w peer) a ≡ b → Sends s past a e
      go true same = subst there (same_end-is (job_end w peer) a same) here
      go false apart = inl (subst NoneAsks (sym (ap (sent_at a) sent ∙ sent_other (job_end w peer) a (end_with t peer) (body ∷ []) apart)) tt)

  none_sends : (a : EndName) → m.sent ≡ [] → Sends s past a e
  none_sends a is = nothing_sent s past a e is

  -- what is said at a job's end is no request
  farewells_none : message_of (text_of (UnlockContent w.what.key)) ≡ Some (UnlockContent w.what.key) → (lost : Bool) → NoneAsks (farewells t lost)
  farewells_none read lost = each_flat (λ (g : FrameView). is_asking g.body ≡ false) (λ peer. frames (job_end w peer) (end_with t peer) (farewell t lost peer (end_with t peer).opened))
      (λ peer. at peer (end_with t peer).opened) (others s)
    where
      at : (peer : ℕ) (b : Bool) → NoneAsks (frames (job_end w peer) (end_with t peer) (farewell t lost peer b))
      at peer false = tt
      at peer true = go (has_lock t peer && not lost)
        where
          go : (c : Bool) → NoneAsks (frames (job_end w peer) (end_with t peer) ((if c then Line (text_of (UnlockContent (key_of t))) ∷ [] else []) ++ Closing ∷ []))
          go true = (ap asks_for read, (refl, tt))
          go false = (refl, tt)

  kind_sends : (a : EndName) (kind : EntryKind) → IsJobEntry t m kind → message_of (text_of (UnlockContent w.what.key)) ≡ Some (UnlockContent w.what.key) → Sends s past a e
  kind_sends a (Share hold end by key) x read = none_sends a x.sends_none
  kind_sends a (Bar j need key) x read = none_sends a x.sends_none
  kind_sends a (Gone by key) x read = none_sends a x.sends_none
  kind_sends a (Order j peer deadline need key) x read = one_sends a peer (Line (text_of (order_of deadline key))) x.sent_is
  kind_sends a (Gain by size key) x read = one_sends a x.peer (Line (text_of Success)) x.sent_is
  kind_sends a (ends_job j outcome) x read = inl (subst (λ (fs : List FrameView). NoneAsks (sent_at a fs)) (sym x.sent_is)
      (Each-filter (λ (g : FrameView). is_asking g.body ≡ false) (sends_at a) (farewells t (is_lost_ordered outcome)) (farewells_none read (is_lost_ordered outcome))))
  kind_sends a (Talk (Some j)) x read = elim (x.1) [ inl none ↦ none_sends a none | inr one ↦ one_sends a one.0 one.1 one.2 ]
  kind_sends a (Fault call by) x read = none_sends a x.1
  kind_sends a kind x read = absurd x

-- ---- an own entry

module _ (reads_back : SentAreRead) (s : SetUp) (past : List Entry) (h : OwnPast s past) where
  owed_sends : (a : EndName) (k : Look) (m : Effect) → ByOwed s (state_of s past) k m → Sends s past a (entry_of s.number k m)
  owed_sends a k m o = nothing_sent s past a (entry_of s.number k m) (elim (o.writes) [ inl w ↦ ap (λ (y : Effect). y.sent) w | inr w ↦ ap (λ (y : Effect). y.sent) w ])

  session_sends : (peer slot : ℕ) (k : Look) (m : Effect) → BySession s (state_of s past) k m → Sends s past (client_end peer slot) (entry_of s.number k m)
  session_sends peer slot k m x = elim (x.frame) [
    | inl y ↦ at (end_takes ((state_of s past).ends (server_end x.peer x.slot)) y.f.epoch y.f.body) y.sent_is
    | inr y ↦ at ((state_of s past).ends (server_end x.peer x.slot)) y.sent_is
  ]
    where
      apart : (b : Bool) → (b && false) ≡ false
      apart true = refl
      apart false = refl

      at : (c : End) → m.sent ≡ frames (server_end x.peer x.slot) c x.says → Sends s past (client_end peer slot) (entry_of s.number k m)
      at c is = inl (subst NoneAsks (sym (ap (sent_at (client_end peer slot)) is ∙ sent_other (server_end x.peer x.slot) (client_end peer slot) c x.says (apart ((x.peer == peer) && (x.slot == slot))))) tt)

  job_sends : (a : EndName) (k : Look) (m : Effect) → ((f : FrameView) → m.taken ≡ Some f → may_take (end_at past s.number (end_of f)) f ≡ true) → job_step s (state_of s past) k ≡ Some m
      → Sends s past a (entry_of s.number k m)
  job_sends a k m may e =
      let x = first_some-was (λ slot. slot_step s (state_of s past) k (find (λ w. w.slot == slot) (works past s.number))) slots m e in
      by_slot x.0 (find (λ w. w.slot == x.0) (works past s.number)) refl x.2
    where
      by_slot : (slot : ℕ) (o : Option Work) → find (λ w. w.slot == slot) (works past s.number) ≡ o → slot_step s (state_of s past) k o ≡ Some m → Sends s past a (entry_of s.number k m)
      by_slot slot None is g = absurd (cc)
      by_slot slot (Some w) is g =
          let runs = (find_member (λ (y : Work). y.slot == slot) (works past s.number) w is).0 in
          kind_sends s past k w m g may a m.kind (partner_found (turn_of s (state_of s past) k w) m (partner w.what.peer w.phase) refl g).found (unlock_read reads_back s past h.run w runs)

  own_sends : (words : ℕ → Option Word) (e : Entry) → OwnPart s past words e → (peer slot : ℕ) → Sends s past (client_end peer slot) e
  own_sends words e own peer slot = elim (own.does) [
    | inl x ↦ subst (Sends s past (client_end peer slot)) (sym x.is) (stepped x)
    | inr x ↦ inl (closes_ask (sent_at (client_end peer slot) e.sent) (Each-filter (λ (g : FrameView). g.body ≡ Closing) (sends_at (client_end peer slot)) e.sent (come_closes s past e.lines e.sent e.kind x.may)))
  ]
    where
      stepped : (x : IsStep s past words e) → Sends s past (client_end peer slot) (entry_of s.number x.look x.made)
      stepped x = elim (option_or-was (owed_step s (state_of s past) x.look) (option_or (session_step s (state_of s past) x.look) (job_step s (state_of s past) x.look)) x.made x.makes) [
        | inl o ↦ owed_sends (client_end peer slot) x.look x.made (pays_found s (state_of s past) x.look x.made (state_of s past).owed refl o)
        | inr r ↦ elim (option_or-was (session_step s (state_of s past) x.look) (job_step s (state_of s past) x.look) x.made r) [
          | inl g ↦ session_sends peer slot x.look x.made (session_found s (state_of s past) x.look x.made g)
          | inr g ↦ job_sends (client_end peer slot) x.look x.made
              (λ f took. own_takes s past words e f own (ap (λ (y : Entry). y.taken) x.is ∙ took)) g
        ]
      ]

  own_keeps : (words : ℕ → Option Word) (e : Entry) → OwnPart s past words e → (peer slot : ℕ) → Keeps past s.number (client_end peer slot) e
  own_keeps words e own peer slot = record {
    sends = own_sends words e own peer slot;
    takes = λ f is.
        let there = taken_there (client_end peer slot) e.taken f is in
        subst (λ (a : EndName). may_take (end_at past s.number a) f ≡ true) (takes_end (client_end peer slot) f there.1) (own_takes s past words e f own there.0);
  }

-- every client's end keeps to its epochs
pub all_keep : SentAreRead → (s : SetUp) (past : List Entry) → OwnPast s past → (peer slot : ℕ) → KeepsAll s.number (client_end peer slot) past
all_keep reads_back s [] h peer slot = tt
all_keep reads_back s (e ∷ past) h peer slot =
    let before = earlier s past e h in
    ((λ is. own_keeps reads_back s past before (h.run.0 is).0 e (h.run.0 is).1 peer slot), all_keep reads_back s past before peer slot)
