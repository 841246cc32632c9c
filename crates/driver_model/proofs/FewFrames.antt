-- An entry sends at most two frames at one end.
use Rattle.std.proofs.Common.{◌≡◌, ℕ, suc, ◌≤◌, Bool, true, false, List, [], ◌∷◌, ◌++◌, Option, Some, None, ◌⊎◌, inl, inr, refl, sym, ap, ◌∙◌, subst, arith}
use Rattle.std.specs.Prelude.{if◌then◌else◌, ◌&&◌, not, flat_map, length, map}
use Rattle.std.proofs.lemmas.List.{append-nil}
use Rattle.std.proofs.lemmas.List.Elements.{filter-append}
use Rattle.annex_base.specs.declared.kinds.Found.{Found}
use Rattle.annex_base.specs.declared.kinds.Found.TheVariants as found
use Rattle.annex_base.specs.declared.kinds.Word.{Word}
use Rattle.annex_base.proofs.Lists.{filter_shorter}
use Rattle.run_data.specs.declared.entry.By.TheVariants.{Script}
use Rattle.run_data.specs.declared.entry.Entry.{Entry}
use Rattle.run_data.specs.declared.entry.EntryKind.{EntryKind}
use Rattle.run_data.specs.declared.entry.EntryKind.TheVariants.{Begin, Gain, Share, Release, Check, Bar, Order, Gone, Log, Compact, Talk, Close, Crash, Fault, End as ends_job}
use Rattle.run_data.specs.declared.entry.FrameView.{FrameView}
use Rattle.run_data.specs.declared.entry.FrameText.{FrameText}
use Rattle.run_data.specs.declared.entry.FrameText.TheVariants.{Closing, Bytes, Line}
use Rattle.p2p_wire.specs.declared.message.Message.{Message}
use Rattle.p2p_wire.specs.declared.message.Message.TheVariants.{UnlockContent}
use Rattle.p2p_wire.specs.Messages.{order_of, text_of}
use Rattle.node_model.specs.AnyTime.{MayCome, all_ends, close_at, closes_all}
use Rattle.node_model.specs.Ends.{End, EndName, end_sends, frames, sends_at, sent_at, server_end}
use Rattle.node_model.specs.Found.{AnswersAbsent, AsksOne, GivesAt, IsJobEntry, SaysClose, SaysFault, SaysTalk, IsSessionEntry, StepFound, TakesAt, success_line}
use Rattle.node_model.specs.Jobs.{Work, job_end}
use Rattle.node_model.specs.JobStep.{Turn, end_with, farewell, farewells, has_lock, key_of, turn_of}
use Rattle.node_model.specs.Look.{Look, Effect}
use Rattle.node_model.specs.Rows.{is_lost_ordered}
use Rattle.node_model.specs.SessionStep.{Here, here, now_of}
use Rattle.node_model.specs.Sessions.{Doing}
use Rattle.node_model.specs.SetUp.{SetUp, others}
use Rattle.node_model.specs.State.{State}
use Rattle.run_model.specs.Run.{ComesAnyTime, IsStep, OwnPart}
use Rattle.run_model.specs.States.{state_of}
use Rattle.driver_model.specs.Apart.{AreApart}
use Rattle.driver_model.proofs.EndLemmas.{same_end, same_end-is, sent_other}
use Rattle.driver_model.proofs.EndsApart.{all_apart, job_ends_apart}
use Rattle.driver_model.proofs.FrameNumbers.{none_at}
use Rattle.driver_model.proofs.Premises.{StepsFind}

-- ---- at one end

frames_length : (a : EndName) (c : End) (bodies : List FrameText) → length (frames a c bodies) ≡ length bodies
frames_length a c [] = refl
frames_length a c (body ∷ bodies) = ap suc (frames_length a (end_sends c body) bodies)

no_more : (i j k : ℕ) → i ≤ j → j ≡ k → k ≤ 2 → i ≤ 2
no_more i j k x y z = omega (arith, x, y, z)

-- what is said there is at most two frames
few_one : (a b : EndName) (c : End) (bodies : List FrameText) → length bodies ≤ 2 → length (sent_at a (frames b c bodies)) ≤ 2
few_one a b c bodies few = no_more (length (sent_at a (frames b c bodies))) (length (frames b c bodies)) (length bodies) (filter_shorter (sends_at a) (frames b c bodies)) (frames_length b c bodies) few

few_as : (a : EndName) (fs gs : List FrameView) → fs ≡ gs → length (sent_at a gs) ≤ 2 → length (sent_at a fs) ≤ 2
few_as a fs gs same few = subst (λ (zs : List FrameView). length (sent_at a zs) ≤ 2) (sym same) few

few_none : (a : EndName) (fs : List FrameView) → fs ≡ [] → length (sent_at a fs) ≤ 2
few_none a fs none = few_as a fs [] none (omega arith)

module _ (ends : EndName → End) (says : EndName → List FrameText) (few : (b : EndName) → length (says b) ≤ 2) where
  abbrev out : EndName → List FrameView
  out b = frames b (ends b) (says b)

  few_each : (a : EndName) (bs : List EndName) → AreApart bs → length (sent_at a (flat_map out bs)) ≤ 2
  few_each a [] n = omega arith
  few_each a (b ∷ bs) n = subst (λ (fs : List FrameView). length fs ≤ 2) (sym (filter-append (sends_at a) (out b) (flat_map out bs))) (go (few_each a bs n.1) (same_end b a) refl)
    where
      go : length (sent_at a (flat_map out bs)) ≤ 2 → (t : Bool) → same_end b a ≡ t → length (sent_at a (out b) ++ sent_at a (flat_map out bs)) ≤ 2
      go more true is =
          let same : b ≡ a = same_end-is b a is in
          subst (λ (z : EndName). length (sent_at z (out b) ++ sent_at z (flat_map out bs)) ≤ 2) same
          (subst (λ (fs : List FrameView). length (sent_at b (out b) ++ fs) ≤ 2) (sym (none_at ends says b bs n.0))
          (subst (λ (fs : List FrameView). length fs ≤ 2) (sym (append-nil (sent_at b (out b)))) (few_one b b (ends b) (says b) (few b))))
      go more false is = subst (λ (fs : List FrameView). length (fs ++ sent_at a (flat_map out bs)) ≤ 2) (sym (sent_other b a (ends b) (says b) is)) more

-- ---- a session says no more

few_talk : (clock : ℕ) (says : List FrameText) → SaysTalk clock says → length says ≤ 2
few_talk clock [] x = omega arith
few_talk clock (Bytes n ∷ []) x = omega arith
few_talk clock (Line text ∷ []) x = omega arith
few_talk clock says x = absurd x

few_close : (says : List FrameText) → SaysClose says → length says ≤ 2
few_close [] x = omega arith
few_close (Closing ∷ []) x = omega arith
few_close (Line text ∷ Closing ∷ []) x = omega arith
few_close says x = absurd x

few_is : (says : List FrameText) (known : List FrameText) → says ≡ known → length known ≤ 2 → length says ≤ 2
few_is says known same few = subst (λ (xs : List FrameText). length xs ≤ 2) (sym same) few

few_fault : (says : List FrameText) → SaysFault says → length says ≤ 2
few_fault says (inl x) = few_is says _ x (omega arith)
few_fault says (inr (inl x)) = few_is says _ x (omega arith)
few_fault says (inr (inr x)) = few_is says _ x (omega arith)

few_absent : (asked : Option Message) (key : List ℕ) (says : List FrameText) → AnswersAbsent asked key says → length says ≤ 2
few_absent asked key says (inl x) = few_is says _ x (omega arith)
few_absent asked key says (inr x) = few_is says _ x.0 (omega arith)

few_check : (h : Here) (doing : Doing) (asked : Option Message) (key : List ℕ) (says : List FrameText) (what : Found) → IsSessionEntry h doing asked says (Check what key) → length says ≤ 2
few_check h doing asked key says found.Present x = few_is says _ x.says_is (omega arith)
few_check h doing asked key says found.Absent x = few_absent asked key says x.3
few_check h doing asked key says found.Barred x = few_is says _ x.3 (omega arith)
few_check h doing asked key says found.Held x = few_is says _ x.3 (omega arith)
few_check h doing asked key says found.Late x = few_is says _ x.2 (omega arith)
few_check h doing asked key says found.Nolock x = few_is says _ x.3 (omega arith)

few_said : (h : Here) (doing : Doing) (asked : Option Message) (says : List FrameText) (kind : EntryKind) → IsSessionEntry h doing asked says kind → length says ≤ 2
few_said h doing asked says (Share hold end by key) x = few_is says _ x.says_is (omega arith)
few_said h doing asked says (Check what key) x = few_check h doing asked key says what x
few_said h doing asked says (Gone by key) x = few_is says _ x.says_is (omega arith)
few_said h doing asked says (Release hold key) x = few_is says _ x.says_is (omega arith)
few_said h doing asked says (Gain by size key) x = few_is says _ x.says_is (omega arith)
few_said h doing asked says (Talk None) x = few_talk (now_of h) says x
few_said h doing asked says (Close peer slot client) x = few_close says x.1
few_said h doing asked says (Fault call by) x = few_fault says x.1
few_said h doing asked says kind x = absurd x

few_session : (s : SetUp) (st : State) (a b : EndName) (asked : Option Message) (says : List FrameText) (m : Effect) → length says ≤ 2 → TakesAt s st b asked says m ⊎ GivesAt s st b asked says m
    → length (sent_at a m.sent) ≤ 2
few_session s st a b asked says m few (inl x) = few_as a m.sent _ x.sent_is (few_one a b _ says few)
few_session s st a b asked says m few (inr x) = few_as a m.sent _ x.sent_is (few_one a b _ says few)

-- ---- nor does a job

few_farewell : (t : Turn) (lost : Bool) (peer : ℕ) (opened : Bool) → length (farewell t lost peer opened) ≤ 2
few_farewell t lost peer false = omega arith
few_farewell t lost peer true = go (has_lock t peer && not lost)
  where
    go : (b : Bool) → length ((if b then Line (text_of (UnlockContent (key_of t))) ∷ [] else []) ++ Closing ∷ []) ≤ 2
    go true = omega arith
    go false = omega arith

module _ (s : SetUp) (st : State) (k : Look) (w : Work) where
  abbrev t : Turn
  t = turn_of s st k w

  named : (lost : Bool) (xs : List ℕ) → flat_map (λ b. frames b (st.ends b) (farewell t lost b.peer (st.ends b).opened)) (map (job_end w) xs)
      ≡ flat_map (λ peer. frames (job_end w peer) (end_with t peer) (farewell t lost peer (end_with t peer).opened)) xs
  named lost [] = refl
  named lost (x ∷ xs) = ap (λ (fs : List FrameView). frames (job_end w x) (end_with t x) (farewell t lost x (end_with t x).opened) ++ fs) (named lost xs)

  few_last : (a : EndName) (lost : Bool) → length (sent_at a (farewells t lost)) ≤ 2
  few_last a lost = few_as a (farewells t lost) _ (sym (named lost (others s)))
      (few_each st.ends (λ b. farewell t lost b.peer (st.ends b).opened) (λ b. few_farewell t lost b.peer (st.ends b).opened) a (map (job_end w) (others s)) (job_ends_apart s w))

  few_asks : (a : EndName) (fs : List FrameView) → AsksOne t fs → length (sent_at a fs) ≤ 2
  few_asks a fs (inl n) = few_none a fs n
  few_asks a fs (inr x) = few_as a fs _ x.2 (few_one a (job_end w x.0) (end_with t x.0) (x.1 ∷ []) (omega arith))

  few_job : (a : EndName) (m : Effect) (kind : EntryKind) → IsJobEntry t m kind → length (sent_at a m.sent) ≤ 2
  few_job a m (Share hold end by key) x = few_none a m.sent x.sends_none
  few_job a m (Bar j need key) x = few_none a m.sent x.sends_none
  few_job a m (Gone by key) x = few_none a m.sent x.sends_none
  few_job a m (Order j peer deadline need key) x = few_as a m.sent _ x.sent_is (few_one a (job_end w peer) (end_with t peer) (Line (text_of (order_of deadline key)) ∷ []) (omega arith))
  few_job a m (Gain by size key) x = few_as a m.sent _ x.sent_is (few_one a (job_end w x.peer) (end_with t x.peer) success_line (omega arith))
  few_job a m (ends_job j outcome) x = few_as a m.sent _ x.sent_is (few_last a (is_lost_ordered outcome))
  few_job a m (Talk (Some j)) x = few_asks a m.sent x.1
  few_job a m (Fault call by) x = few_none a m.sent x.1
  few_job a m kind x = absurd x

-- ---- nor an entry that comes at any time

module _ (s : SetUp) (st : State) where
  abbrev closing : Bool → List FrameText
  closing true = Closing ∷ []
  closing false = []

  few_closing : (b : Bool) → length (closing b) ≤ 2
  few_closing true = omega arith
  few_closing false = omega arith

  one_named : (a : EndName) → close_at s st a ≡ frames a (st.ends a) (closing (st.ends a).opened)
  one_named a = go (st.ends a).opened
    where
      go : (o : Bool) → (if o then frames a (st.ends a) (Closing ∷ []) else []) ≡ frames a (st.ends a) (closing o)
      go true = refl
      go false = refl

  closes_named : (xs : List EndName) → flat_map (close_at s st) xs ≡ flat_map (λ b. frames b (st.ends b) (closing (st.ends b).opened)) xs
  closes_named [] = refl
  closes_named (x ∷ xs) = ap (λ (fs : List FrameView). fs ++ flat_map (close_at s st) xs) (one_named x) ∙ ap (λ (fs : List FrameView). frames x (st.ends x) (closing (st.ends x).opened) ++ fs) (closes_named xs)

  few_crash : (a : EndName) → length (sent_at a (closes_all s st)) ≤ 2
  few_crash a = few_as a (closes_all s st) _ (closes_named (all_ends s)) (few_each st.ends (λ b. closing (st.ends b).opened) (λ b. few_closing (st.ends b).opened) a (all_ends s) (all_apart s))

  few_come : (a : EndName) (lines : List (List ℕ)) (sent : List FrameView) (kind : EntryKind) → MayCome s st lines sent kind → length (sent_at a sent) ≤ 2
  few_come a lines sent (Begin job what) x = few_none a sent x.2
  few_come a lines sent (Gain Script size key) x = few_none a sent x.2
  few_come a lines sent (Log file) x = few_none a sent x.1
  few_come a lines sent (Compact file) x = few_none a sent x.2
  few_come a lines sent (Fault call Script) x = few_none a sent x.2
  few_come a lines sent (Close peer slot client) x =
      let b : EndName = record { peer = peer; slot = slot; client = client } in
      few_as a sent _ (x.3 ∙ one_named b) (few_one a b (st.ends b) (closing (st.ends b).opened) (few_closing (st.ends b).opened))
  few_come a lines sent (Crash clock) x = few_as a sent _ x.1 (few_crash a)
  few_come a lines sent kind x = absurd x

  few_step : (a : EndName) (k : Look) (m : Effect) → StepFound s st k m → length (sent_at a m.sent) ≤ 2
  few_step a k m (inl x) = elim (x.writes) [
    | inl y ↦ few_none a m.sent (ap (λ (z : Effect). z.sent) y)
    | inr y ↦ few_none a m.sent (ap (λ (z : Effect). z.sent) y)
  ]
  few_step a k m (inr (inl x)) = few_session s st a (server_end x.peer x.slot) x.asked x.says m (few_said (here s st k (server_end x.peer x.slot)) (st.sessions (server_end x.peer x.slot)).doing x.asked x.says m.kind x.found) x.frame
  few_step a k m (inr (inr x)) = few_job s st k x.w a m m.kind x.found

pub few_sent : StepsFind → (s : SetUp) (past : List Entry) (words : ℕ → Option Word) (e : Entry) (a : EndName) → OwnPart s past words e → length (sent_at a e.sent) ≤ 2
few_sent finds s past words e a own = go own.does
  where
    go : IsStep s past words e ⊎ ComesAnyTime s past e → length (sent_at a e.sent) ≤ 2
    go (inl x) = subst (λ (z : Entry). length (sent_at a z.sent) ≤ 2) (sym x.is) (few_step s (state_of s past) a x.look x.made (finds s (state_of s past) x.look x.made x.makes))
    go (inr x) = few_come s (state_of s past) a e.lines e.sent e.kind x.may
