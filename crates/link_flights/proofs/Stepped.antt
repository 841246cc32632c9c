-- What a step sends is sent in order, and what it takes is the first frame at its end.
use Rattle.std.proofs.Common.{◌≡◌, ℕ, Bool, true, false, not, List, [], ◌∷◌, ◌++◌, Option, Some, None, ◌⊎◌, inl, inr, refl, sym, ap, ◌∙◌, subst, true≢false}
use Rattle.std.specs.Prelude.{if◌then◌else◌, ◌&&◌, IfSome, flat_map, map}
use Rattle.std.specs.Option.{option_and_then, option_map, option_to_list}
use Rattle.std.proofs.lemmas.Bool.{false_from_ne_true}
use Rattle.annex_base.specs.Lists.{Each, Member}
use Rattle.annex_base.proofs.Lists.{Member-append_cases}
use Rattle.link_ring.specs.declared.frame.Frame.{Frame}
use Rattle.link_ring.specs.Ends.{EndView, next_frame}
use Rattle.run_data.specs.declared.entry.EntryKind.{EntryKind}
use Rattle.run_data.specs.declared.entry.EntryKind.TheVariants.{Bar, Fault, Gain, Gone, Order, Share, Talk, End as ends_job}
use Rattle.run_data.specs.declared.entry.FrameView.{FrameView}
use Rattle.run_data.specs.declared.entry.FrameText.{FrameText}
use Rattle.run_data.specs.declared.entry.FrameText.TheVariants.{Closing, Line}
use Rattle.p2p_wire.specs.declared.message.Message.TheVariants.{UnlockContent}
use Rattle.p2p_wire.specs.Messages.{order_of, text_of}
use Rattle.node_model.specs.AnyTime.{all_ends, close_at, closes_all}
use Rattle.node_model.specs.Ends.{End, EndName, end_sends, end_takes, end_took, frames, is_opening, may_take, sends_at, server_end, taken_at, takes_at}
use Rattle.node_model.specs.Found.{AsksOne, ByJob, BySession, IsJobEntry, JobTakes, StepFound, success_line}
use Rattle.node_model.specs.JobStep.{Turn, end_with, farewell, farewells, has_lock, key_of, others_of, turn_of}
use Rattle.node_model.specs.Jobs.{Work, job_end}
use Rattle.node_model.specs.Look.{Look, Effect}
use Rattle.node_model.specs.Rows.{is_lost_ordered}
use Rattle.node_model.specs.SetUp.{SetUp, others}
use Rattle.node_model.specs.State.{State}
use Rattle.node_model.specs.Step.{step}
use Rattle.node_ends.specs.Ends.{frame_at, hand_at, link_at}
use Rattle.driver_model.specs.Apart.{AreApart}
use Rattle.link_flights.proofs.Naming.{end_own, takes_end}
use Rattle.link_flights.proofs.Orderly.{Calm, InOrder, NoOpening, frames_alike, none_opens, one_end, same_end-refl, some_ends, took_alike}
use Rattle.annex_base.proofs.Options.{none_and_some}

-- by the laws of lower crates: what steps find, that the ends of a job are apart, and that a step opens closed ends of clients alone
pub record SendLaws : Type 0 where
  pub finds : (s : SetUp) (st : State) (k : Look) (m : Effect) → step s st k ≡ Some m → StepFound s st k m
  pub apart : (s : SetUp) (w : Work) → AreApart (map (job_end w) (others s))
  pub opens : (s : SetUp) (st : State) (k : Look) (m : Effect) (g : FrameView) (a : EndName) → step s st k ≡ Some m → Member g m.sent → sends_at a g ≡ true → is_opening g.body ≡ true
      → (a.client ≡ true) × ((st.ends a).opened ≡ false)

-- by the law of race_core: what a step takes is at hand
abbrev pub TakenAtHand : Type 0
TakenAtHand = (s : SetUp) (st : State) (k : Look) (m : Effect) (f : FrameView) → step s st k ≡ Some m → m.taken ≡ Some f → Member f k.at_hand

-- what it sends is sent in order
abbrev pub IsOrderly : State → Effect → Type 0
IsOrderly st m = InOrder st.ends m.taken m.sent

-- at an open end no Opening is taken
may_calm : (c : End) (f : FrameView) → c.opened ≡ true → may_take c f ≡ true → is_opening f.body ≡ false
may_calm c f opened_is may = go (is_opening f.body) refl
  where
    go : (b : Bool) → is_opening f.body ≡ b → b ≡ false
    go false is = refl
    go true is = absurd (true≢false (sym (rw (is, opened_is) at may)))

-- ---- a step

module _ (laws : SendLaws) (s : SetUp) (st : State) (k : Look) (m : Effect) (makes : step s st k ≡ Some m) where
  silent : m.sent ≡ [] → IsOrderly st m
  silent nothing = one_end st.ends m.taken m.sent (record { peer = 0; slot = 0; client = false }) [] nothing tt

  -- where an Opening is sent at an end, this is a client's, and closed
  abbrev OpensAt : EndName → FrameText → Type 0
  OpensAt a body = is_opening body ≡ true → (a.client ≡ true) × ((st.ends a).opened ≡ false)

  opens_at : (a : EndName) (c : End) (bodies : List FrameText) → m.sent ≡ frames a c bodies → Each (OpensAt a) bodies
  opens_at a c bodies is = go c bodies (λ g among. laws.opens s st k m g a makes (subst (Member g) (sym is) among))
    where
      go : (c : End) (bodies : List FrameText) → ((g : FrameView) → Member g (frames a c bodies) → sends_at a g ≡ true → OpensAt a g.body) → Each (OpensAt a) bodies
      go c [] all = tt
      go c (body ∷ bodies) all = (
        all (record { peer = a.peer; slot = a.slot; up = a.client; epoch = (end_sends c body).epoch; seq = (end_sends c body).sent; body = body }) (inl refl) (same_end-refl a),
        go (end_sends c body) bodies (λ g among. all g (inr among)),
      )

  -- ---- a session

  server_opens : (a : EndName) → a.client ≡ false → (bodies : List FrameText) → Each (OpensAt a) bodies → NoOpening bodies
  server_opens a server [] all = tt
  server_opens a server (body ∷ bodies) all = (false_from_ne_true (is_opening body) (λ is. true≢false (sym (all.0 is).0 ∙ server)), server_opens a server bodies all.1)

  session_orderly : BySession s st k m → IsOrderly st m
  session_orderly x = elim (x.frame) [
    | inl y ↦ at (end_takes (st.ends a) y.f.epoch y.f.body) y.sent_is (ap (λ (o : Option FrameView). end_took (st.ends a) (taken_at a o)) y.taken_is ∙ ap (λ (b : Bool). end_took (st.ends a) (if b then Some y.f else None)) y.of_end)
    | inr y ↦ at (st.ends a) y.sent_is (ap (λ (o : Option FrameView). end_took (st.ends a) (taken_at a o)) y.taken_is)
  ]
    where
      a : EndName
      a = server_end x.peer x.slot

      at : (c : End) → m.sent ≡ frames a c x.says → end_took (st.ends a) (taken_at a m.taken) ≡ c → IsOrderly st m
      at c is between = one_end st.ends m.taken m.sent a x.says (is ∙ ap (λ (c : End). frames a c x.says) (sym between))
          (none_opens (st.ends a) (taken_at a m.taken) x.says (server_opens a refl x.says (opens_at a c x.says is)))

  -- ---- a job

  module _ (x : ByJob s st k m) where
    abbrev w : Work
    w = x.w

    abbrev t : Turn
    t = turn_of s st k x.w

    -- what it takes is no Opening
    calm : Calm m.taken
    calm f is = go x.frame
      where
        go : (m.taken ≡ None) ⊎ JobTakes (turn_of s st k x.w) m → is_opening f.body ≡ false
        go (inl none) = absurd (none_and_some m.taken f none is)
        go (inr y) =
            let one : Some y.f ≡ Some f = sym y.taken_is ∙ is in
            let same : y.f ≡ f = cc in
            subst (λ (g : FrameView). is_opening g.body ≡ false) same (may_calm (end_with t y.peer) y.f y.opened y.may)

    -- at one of its ends
    at_one : (peer : ℕ) (bodies : List FrameText) → m.sent ≡ frames (job_end w peer) (end_with t peer) bodies → NoOpening bodies → IsOrderly st m
    at_one peer bodies is none =
        one_end st.ends m.taken m.sent (job_end w peer) bodies
        (is ∙ frames_alike (job_end w peer) (st.ends (job_end w peer)) (end_took (st.ends (job_end w peer)) (taken_at (job_end w peer) m.taken)) bodies (took_alike (st.ends (job_end w peer)) (job_end w peer) m.taken calm))
        (none_opens (st.ends (job_end w peer)) (taken_at (job_end w peer) m.taken) bodies none)

    -- at a closed end it takes nothing
    none_there : (a : EndName) → (st.ends a).opened ≡ false → taken_at a m.taken ≡ None
    none_there a closed = go x.frame
      where
        go : (m.taken ≡ None) ⊎ JobTakes (turn_of s st k x.w) m → taken_at a m.taken ≡ None
        go (inl none) = ap (taken_at a) none
        go (inr y) = ap (taken_at a) y.taken_is ∙ at (takes_at a y.f) refl
          where
            at : (b : Bool) → takes_at a y.f ≡ b → (if b then Some y.f else None) ≡ None
            at false is = refl
            at true is = absurd (true≢false (sym y.opened ∙ ap (λ (b : EndName). (st.ends b).opened) (sym (takes_end (job_end x.w y.peer) y.f y.of_end) ∙ takes_end a y.f is) ∙ closed))

    asks : AsksOne t m.sent → IsOrderly st m
    asks (inl nothing) = silent nothing
    asks (inr y) = go (is_opening y.1) refl
      where
        a : EndName
        a = job_end x.w y.0

        go : (b : Bool) → is_opening y.1 ≡ b → IsOrderly st m
        go false is = at_one y.0 (y.1 ∷ []) y.2 (is, tt)
        go true is =
            let closed = ((opens_at a (st.ends a) (y.1 ∷ []) y.2).0 is).1 in
            let none = none_there a closed in
            one_end st.ends m.taken m.sent a (y.1 ∷ []) (y.2 ∙ ap (λ (o : Option FrameView). frames a (end_took (st.ends a) o) (y.1 ∷ [])) (sym none)) ((λ opening. (closed, none)), tt)

    abbrev last : Bool → EndName → List FrameText
    last lost b = farewell t lost b.peer (st.ends b).opened

    last_none : (lost : Bool) (b : EndName) → NoOpening (last lost b)
    last_none lost b = go (st.ends b).opened
      where
        own : (c : Bool) → NoOpening ((if c then Line (text_of (UnlockContent (key_of (turn_of s st k x.w)))) ∷ [] else []) ++ Closing ∷ [])
        own true = (refl, (refl, tt))
        own false = (refl, tt)

        go : (c : Bool) → NoOpening (farewell (turn_of s st k x.w) lost b.peer c)
        go false = tt
        go true = own (has_lock (turn_of s st k x.w) b.peer && not lost)

    named : (lost : Bool) (xs : List ℕ) → flat_map (λ b. frames b (st.ends b) (last lost b)) (map (job_end w) xs)
        ≡ flat_map (λ peer. frames (job_end w peer) (end_with t peer) (farewell t lost peer (end_with t peer).opened)) xs
    named lost [] = refl
    named lost (y ∷ ys) = ap (λ (fs : List FrameView). frames (job_end w y) (end_with t y) (farewell t lost y (end_with t y).opened) ++ fs) (named lost ys)

    says_last : (lost : Bool) → m.sent ≡ farewells t lost → IsOrderly st m
    says_last lost is = subst (λ (fs : List FrameView). InOrder st.ends m.taken fs) (named lost (others_of t) ∙ sym is)
        (some_ends st.ends (last lost) m.taken calm (map (job_end w) (others_of t)) (laws.apart s w) (last_none lost))

    job_orderly : (kind : EntryKind) → IsJobEntry t m kind → IsOrderly st m
    job_orderly (Share hold end by key) y = silent y.sends_none
    job_orderly (Bar j need key) y = silent y.sends_none
    job_orderly (Gone by key) y = silent y.sends_none
    job_orderly (Order j peer deadline need key) y = at_one peer (Line (text_of (order_of deadline key)) ∷ []) y.sent_is (refl, tt)
    job_orderly (Gain by size key) y = at_one y.peer success_line y.sent_is (refl, tt)
    job_orderly (ends_job j outcome) y = says_last (is_lost_ordered outcome) y.sent_is
    job_orderly (Talk (Some j)) y = asks y.1
    job_orderly (Fault call by) y = silent y.1
    job_orderly kind y = absurd y

  -- ---- whoever makes it

  pub step_orderly : IsOrderly st m
  step_orderly = go (laws.finds s st k m makes)
    where
      go : StepFound s st k m → IsOrderly st m
      go (inl x) = elim (x.writes) [
        | inl y ↦ silent (ap (λ (z : Effect). z.sent) y)
        | inr y ↦ silent (ap (λ (z : Effect). z.sent) y)
      ]
      go (inr (inl x)) = session_orderly x
      go (inr (inr x)) = job_orderly x m.kind x.found

-- ---- what is taken is the first frame at its end

among : (links : List EndView) (xs : List EndName) (f : FrameView) → Member f (flat_map (λ (b : EndName). option_to_list (hand_at links b)) xs) → (b : EndName) × (hand_at links b ≡ Some f)
among links [] f member = absurd member
among links (b ∷ xs) f member = go (hand_at links b) refl (Member-append_cases (option_to_list (hand_at links b)) (flat_map (λ (b : EndName). option_to_list (hand_at links b)) xs) f member) (λ m. among links xs f m)
  where
    go : (o : Option FrameView) → hand_at links b ≡ o → Member f (option_to_list o) ⊎ Member f (flat_map (λ (b : EndName). option_to_list (hand_at links b)) xs)
        → (Member f (flat_map (λ (b : EndName). option_to_list (hand_at links b)) xs) → (c : EndName) × (hand_at links c ≡ Some f)) → (c : EndName) × (hand_at links c ≡ Some f)
    go o is (inr later) more = more later
    go None is (inl here') more = absurd here'
    go (Some g) is (inl (inl same)) more = (b, is ∙ ap Some (sym same))
    go (Some g) is (inl (inr none)) more = absurd none

-- a frame that is at hand at one end, and comes to the other, is at hand there
same_hand : (a b : EndName) (o : Option Frame) (f : FrameView) → option_map (frame_at b) o ≡ Some f → takes_at a f ≡ true → b ≡ a
same_hand a b None f is comes = absurd (cc)
same_hand a b (Some g) f is comes =
    let same : frame_at b g ≡ f = cc in
    sym (end_own b g) ∙ takes_end a (frame_at b g) (subst (λ (h : FrameView). takes_at a h ≡ true) (sym same) comes)

pub first_taken : (links : List EndView) (s : SetUp) (hand : List FrameView) (taken : Option FrameView) (a : EndName) (v : EndView)
    → hand ≡ flat_map (λ (b : EndName). option_to_list (hand_at links b)) (all_ends s) → ((f : FrameView) → taken ≡ Some f → Member f hand)
    → link_at links a ≡ Some v → IfSome (taken_at a taken) (λ f. option_map (frame_at a) (next_frame v) ≡ Some f)
first_taken links s hand None a v sees at is = tt
first_taken links s hand (Some f) a v sees at is = go (takes_at a f) refl
  where
    found : takes_at a f ≡ true → option_map (frame_at a) (next_frame v) ≡ Some f
    found comes =
        let b = among links (all_ends s) f (subst (λ (fs : List FrameView). Member f fs) sees (at f refl)) in
        let same : b.0 ≡ a = same_hand a b.0 (option_and_then next_frame (link_at links b.0)) f b.1 comes in
        sym (ap (λ (o : Option EndView). option_map (frame_at a) (option_and_then next_frame o)) is) ∙ subst (λ (c : EndName). hand_at links c ≡ Some f) same b.1

    go : (t : Bool) → takes_at a f ≡ t → IfSome (if t then Some f else None) (λ g. option_map (frame_at a) (next_frame v) ≡ Some g)
    go true comes = found comes
    go false other = tt

-- ---- closes

closes : (c : Bool) → NoOpening (if c then Closing ∷ [] else [])
closes true = (refl, tt)
closes false = tt

close_named : (s : SetUp) (st : State) (b : EndName) → frames b (st.ends b) (if (st.ends b).opened then Closing ∷ [] else []) ≡ close_at s st b
close_named s st b = go (st.ends b).opened
  where
    go : (c : Bool) → frames b (st.ends b) (if c then Closing ∷ [] else []) ≡ (if c then frames b (st.ends b) (Closing ∷ []) else [])
    go true = refl
    go false = refl

pub close_in_order : (s : SetUp) (st : State) (b : EndName) → InOrder st.ends None (close_at s st b)
close_in_order s st b =
    one_end st.ends None (close_at s st b) b (if (st.ends b).opened then Closing ∷ [] else []) (sym (close_named s st b))
    (none_opens (st.ends b) None (if (st.ends b).opened then Closing ∷ [] else []) (closes (st.ends b).opened))

all_named : (s : SetUp) (st : State) (bs : List EndName) → flat_map (λ b. frames b (st.ends b) (if (st.ends b).opened then Closing ∷ [] else [])) bs ≡ flat_map (close_at s st) bs
all_named s st [] = refl
all_named s st (b ∷ bs) = ap (λ (fs : List FrameView). fs ++ flat_map (λ b. frames b (st.ends b) (if (st.ends b).opened then Closing ∷ [] else [])) bs) (close_named s st b)
    ∙ ap (λ (fs : List FrameView). close_at s st b ++ fs) (all_named s st bs)

pub closes_in_order : (s : SetUp) (st : State) → AreApart (all_ends s) → InOrder st.ends None (closes_all s st)
closes_in_order s st apart = subst (λ (fs : List FrameView). InOrder st.ends None fs) (all_named s st (all_ends s))
    (some_ends st.ends (λ b. if (st.ends b).opened then Closing ∷ [] else []) None (λ f is. absurd (none_and_some None f refl is)) (all_ends s) apart (λ b. closes (st.ends b).opened))
