-- Frames are sent in order: each has the epoch and the number that come next at its end.
use Rattle.std.proofs.Common.{◌≡◌, ◌≢◌, ℕ, ◌+◌, Bool, true, false, List, [], ◌∷◌, ◌++◌, Option, Some, None, ◌⊎◌, inl, inr, refl, sym, ap, ◌∙◌, subst}
use Rattle.std.specs.Prelude.{if◌then◌else◌, flat_map, map}
use Rattle.std.proofs.lemmas.List.{append-nil}
use Rattle.std.proofs.lemmas.List.Elements.{filter-append}
use Rattle.annex_base.specs.Lists.{Each}
use Rattle.annex_base.specs.declared.kinds.Word.{Word}
use Rattle.annex_base.proofs.Conditions.{if_turned}
use Rattle.run_data.specs.declared.entry.Entry.{Entry}
use Rattle.run_data.specs.declared.entry.EntryKind.{EntryKind}
use Rattle.run_data.specs.declared.entry.EntryKind.TheVariants.{Begin, Gain, Share, Bar, Order, Gone, Log, Compact, Talk, Close, Crash, Fault, End as ends_job}
use Rattle.run_data.specs.declared.entry.By.TheVariants.{Script}
use Rattle.run_data.specs.declared.entry.FrameView.{FrameView}
use Rattle.run_data.specs.declared.entry.FrameText.{FrameText}
use Rattle.run_data.specs.declared.entry.FrameText.TheVariants.{Opening, Closing, Bytes, Line}
use Rattle.node_model.specs.Ends.{End, EndName, end_sends, end_takes, end_took, frames, is_opening, sends_at, sent_at, server_end, taken_at, takes_at}
use Rattle.p2p_wire.specs.Messages.{order_of, text_of}
use Rattle.node_model.specs.Rows.{is_lost_ordered}
use Rattle.node_model.specs.SetUp.{SetUp, others}
use Rattle.run_model.specs.States.{end_at, state_of}
use Rattle.node_model.specs.Jobs.{Work, job_end}
use Rattle.node_model.specs.Look.{Look, Effect}
use Rattle.node_model.specs.JobStep.{Turn, end_with, farewell, farewells, turn_of}
use Rattle.p2p_wire.specs.declared.message.Message.{Message}
use Rattle.node_model.specs.Found.{AsksOne, ByJob, GivesAt, IsJobEntry, JobTakes, StepFound, TakesAt, success_line}
use Rattle.node_model.specs.AnyTime.{MayCome, all_ends, close_at, closes_all}
use Rattle.run_model.specs.Run.{ComesAnyTime, IsStep, OwnPart}
use Rattle.driver_model.specs.Apart.{AreApart}
use Rattle.driver_model.proofs.EndLemmas.{same_end, same_end-is, same_end-not, sent_other, sent_same, takes_end}
use Rattle.driver_model.proofs.EndsApart.{all_apart, job_ends_apart}
use Rattle.driver_model.proofs.Premises.{StepsFind}
use Rattle.annex_base.proofs.Options.{none_and_some}

-- these frames are sent one after the other by an end that stands so
abbrev pub Numbered : End → List FrameView → Type 0
Numbered c [] = Unit {0}
Numbered c (f ∷ fs) = (f.epoch ≡ (end_sends c f.body).epoch) × (f.seq ≡ (end_sends c f.body).sent) × Numbered (end_sends c f.body) fs

frames_numbered : (a : EndName) (c : End) (bodies : List FrameText) → Numbered c (frames a c bodies)
frames_numbered a c [] = tt
frames_numbered a c (body ∷ bodies) = (refl, refl, frames_numbered a (end_sends c body) bodies)

-- ---- at one end of those at which frames are sent

-- what is sent at one end alone
at_one : (b a : EndName) (c d : End) (bodies : List FrameText) → (b ≡ a → c ≡ d) → Numbered d (sent_at a (frames b c bodies))
at_one b a c d bodies as' = go (same_end b a) refl
  where
    go : (t : Bool) → same_end b a ≡ t → Numbered d (sent_at a (frames b c bodies))
    go true is =
        let same : b ≡ a = same_end-is b a is in
        subst (λ (z : End). Numbered z (sent_at a (frames b c bodies))) (as' same)
        (subst (λ z. Numbered c (sent_at z (frames b c bodies))) same (subst (Numbered c) (sym (sent_same b c bodies)) (frames_numbered b c bodies)))
    go false is = subst (Numbered d) (sym (sent_other b a c bodies is)) tt

module _ (ends : EndName → End) (says : EndName → List FrameText) where
  abbrev out : EndName → List FrameView
  out b = frames b (ends b) (says b)

  pub none_at : (a : EndName) (bs : List EndName) → Each (λ z. z ≢ a) bs → sent_at a (flat_map out bs) ≡ []
  none_at a [] n = refl
  none_at a (b ∷ bs) n = filter-append (sends_at a) (out b) (flat_map out bs) ∙ rw (sent_other b a (ends b) (says b) (same_end-not b a n.0), none_at a bs n.1) refl

  at_each : (a : EndName) (bs : List EndName) → AreApart bs → Numbered (ends a) (sent_at a (flat_map out bs))
  at_each a [] n = tt
  at_each a (b ∷ bs) n = subst (Numbered (ends a)) (sym (filter-append (sends_at a) (out b) (flat_map out bs))) (go (at_each a bs n.1) (same_end b a) refl)
    where
      go : Numbered (ends a) (sent_at a (flat_map out bs)) → (t : Bool) → same_end b a ≡ t → Numbered (ends a) (sent_at a (out b) ++ sent_at a (flat_map out bs))
      go more true is =
          let same : b ≡ a = same_end-is b a is in
          subst (λ z. Numbered (ends z) (sent_at z (out b) ++ sent_at z (flat_map out bs))) same
          (rw (none_at b bs n.0, sent_same b (ends b) (says b)) (subst (Numbered (ends b)) (sym (append-nil (out b))) (frames_numbered b (ends b) (says b))))
      go more false is = rw (sent_other b a (ends b) (says b) is) more

-- ---- what a repository sends

epochs_like : (c d : End) (body : FrameText) → c.epoch ≡ d.epoch → (end_sends c body).epoch ≡ (end_sends d body).epoch
epochs_like c d Opening i = ap (λ n. n + 1) i
epochs_like c d Closing i = i
epochs_like c d (Bytes n) i = i
epochs_like c d (Line text) i = i

sents_like : (c d : End) (body : FrameText) → c.sent ≡ d.sent → (end_sends c body).sent ≡ (end_sends d body).sent
sents_like c d Opening i = refl
sents_like c d Closing i = ap (λ n. n + 1) i
sents_like c d (Bytes n) i = ap (λ n. n + 1) i
sents_like c d (Line text) i = ap (λ n. n + 1) i

-- numbers depend on the epoch and on how many were sent
like : (c d : End) (fs : List FrameView) → c.epoch ≡ d.epoch → c.sent ≡ d.sent → Numbered c fs → Numbered d fs
like c d [] i j n = tt
like c d (f ∷ fs) i j n =
    let x = epochs_like c d f.body i in
    let y = sents_like c d f.body j in
    (n.0 ∙ x, n.1 ∙ y, like (end_sends c f.body) (end_sends d f.body) fs x y n.2)

-- what an own entry takes is no Opening, but at a server
abbrev pub TakesWell : Option FrameView → Type 0
TakesWell taken = (f : FrameView) → taken ≡ Some f → f.up ≡ false → is_opening f.body ≡ false

pub took_like : (c : End) (f : FrameView) → is_opening f.body ≡ false → (c.epoch ≡ (end_takes c f.epoch f.body).epoch) × (c.sent ≡ (end_takes c f.epoch f.body).sent)
took_like c f n = go f.body n
  where
    go : (body : FrameText) → is_opening body ≡ false → (c.epoch ≡ (end_takes c f.epoch body).epoch) × (c.sent ≡ (end_takes c f.epoch body).sent)
    go Opening n = absurd (cc)
    go Closing n = (refl, refl)
    go (Bytes k) n = (refl, refl)
    go (Line text) n = (refl, refl)

module _ (s : SetUp) (past : List Entry) where
  abbrev end_now : EndName → End
  end_now a = end_at past s.number a

  abbrev between : Option FrameView → EndName → End
  between taken a = end_took (end_now a) (taken_at a taken)

  -- a frame that is no Opening changes no numbers
  between_like : (taken : Option FrameView) (a : EndName) → ((f : FrameView) → taken ≡ Some f → is_opening f.body ≡ false) → ((end_now a).epoch ≡ (between taken a).epoch) × ((end_now a).sent ≡ (between taken a).sent)
  between_like None a n = (refl, refl)
  between_like (Some f) a n = go (takes_at a f)
    where
      go : (b : Bool) → ((end_now a).epoch ≡ (end_took (end_now a) (if b then Some f else None)).epoch) × ((end_now a).sent ≡ (end_took (end_now a) (if b then Some f else None)).sent)
      go true = took_like (end_now a) f (n f refl)
      go false = (refl, refl)

  to_between : (taken : Option FrameView) (a : EndName) (fs : List FrameView) → ((f : FrameView) → taken ≡ Some f → is_opening f.body ≡ false) → Numbered (end_now a) fs → Numbered (between taken a) fs
  to_between taken a fs n x = let y = between_like taken a n in like (end_now a) (between taken a) fs y.0 y.1 x

  -- ---- a job's frames

  module _ (k : Look) (w : Work) where
    abbrev t : Turn
    t = turn_of s (state_of s past) k w

    one : (a : EndName) (peer : ℕ) (bodies : List FrameText) → Numbered (end_now a) (sent_at a (frames (job_end w peer) (end_with t peer) bodies))
    one a peer bodies = at_one (job_end w peer) a (end_with t peer) (end_now a) bodies (λ e. ap end_now e)

    flat_named : (lost : Bool) (xs : List ℕ) → flat_map (λ b. frames b (end_now b) (farewell t lost b.peer (end_now b).opened)) (map (job_end w) xs)
        ≡ flat_map (λ peer. frames (job_end w peer) (end_with t peer) (farewell t lost peer (end_with t peer).opened)) xs
    flat_named lost [] = refl
    flat_named lost (x ∷ xs) = ap (λ fs. frames (job_end w x) (end_with t x) (farewell t lost x (end_with t x).opened) ++ fs) (flat_named lost xs)

    last : (a : EndName) (lost : Bool) → Numbered (end_now a) (sent_at a (farewells t lost))
    last a lost = subst (λ fs. Numbered (end_now a) (sent_at a fs)) (flat_named lost (others s))
        (at_each end_now (λ b. farewell t lost b.peer (end_now b).opened) a (map (job_end w) (others s)) (job_ends_apart s w))

    none : (a : EndName) (fs : List FrameView) → fs ≡ [] → Numbered (end_now a) (sent_at a fs)
    none a fs n = subst (λ z. Numbered (end_now a) (sent_at a z)) (sym n) tt

    some : (a : EndName) (fs : List FrameView) (peer : ℕ) (bodies : List FrameText) → fs ≡ frames (job_end w peer) (end_with t peer) bodies → Numbered (end_now a) (sent_at a fs)
    some a fs peer bodies n = subst (λ z. Numbered (end_now a) (sent_at a z)) (sym n) (one a peer bodies)

    asks : (a : EndName) (fs : List FrameView) → AsksOne t fs → Numbered (end_now a) (sent_at a fs)
    asks a fs (inl n) = none a fs n
    asks a fs (inr x) = some a fs x.0 (x.1 ∷ []) x.2

    job_numbered : (a : EndName) (m : Effect) (kind : EntryKind) → IsJobEntry t m kind → Numbered (end_now a) (sent_at a m.sent)
    job_numbered a m (Share hold end by key) x = none a m.sent x.sends_none
    job_numbered a m (Bar j need key) x = none a m.sent x.sends_none
    job_numbered a m (Gone by key) x = none a m.sent x.sends_none
    job_numbered a m (Order j peer deadline need key) x = some a m.sent peer (Line (text_of (order_of deadline key)) ∷ []) x.sent_is
    job_numbered a m (Gain by size key) x = some a m.sent x.peer success_line x.sent_is
    job_numbered a m (ends_job j outcome) x = subst (λ z. Numbered (end_now a) (sent_at a z)) (sym x.sent_is) (last a (is_lost_ordered outcome))
    job_numbered a m (Talk (Some j)) x = asks a m.sent x.1
    job_numbered a m (Fault call by) x = none a m.sent x.1
    job_numbered a m kind x = absurd x

  -- ---- any own frames

  pub close_numbered : (a b : EndName) → Numbered (end_now a) (sent_at a (close_at s (state_of s past) b))
  close_numbered a b = go (end_now b).opened
    where
      go : (o : Bool) → Numbered (end_now a) (sent_at a (if o then frames b (end_now b) (Closing ∷ []) else []))
      go true = at_one b a (end_now b) (end_now a) (Closing ∷ []) (λ e. ap end_now e)
      go false = tt

  abbrev closing : Bool → List FrameText
  closing true = Closing ∷ []
  closing false = []

  close_named : (xs : List EndName) → flat_map (λ b. frames b (end_now b) (closing (end_now b).opened)) xs ≡ flat_map (close_at s (state_of s past)) xs
  close_named [] = refl
  close_named (x ∷ xs) = go (end_now x).opened (close_named xs)
    where
      go : (o : Bool) → flat_map (λ b. frames b (end_now b) (closing (end_now b).opened)) xs ≡ flat_map (close_at s (state_of s past)) xs
          → frames x (end_now x) (closing o) ++ flat_map (λ b. frames b (end_now b) (closing (end_now b).opened)) xs ≡ (if o then frames x (end_now x) (Closing ∷ []) else []) ++ flat_map (close_at s (state_of s past)) xs
      go true e = ap (λ fs. frames x (end_now x) (Closing ∷ []) ++ fs) e
      go false e = e

  crash_numbered : (a : EndName) → Numbered (end_now a) (sent_at a (closes_all s (state_of s past)))
  crash_numbered a = subst (λ fs. Numbered (end_now a) (sent_at a fs)) (close_named (all_ends s)) (at_each end_now (λ b. closing (end_now b).opened) a (all_ends s) (all_apart s))

  come_numbered : (a : EndName) (lines : List (List ℕ)) (sent : List FrameView) (kind : EntryKind) → MayCome s (state_of s past) lines sent kind → Numbered (end_now a) (sent_at a sent)
  come_numbered a lines sent (Begin job what) x = subst (λ z. Numbered (end_now a) (sent_at a z)) (sym x.2) tt
  come_numbered a lines sent (Gain Script size key) x = subst (λ z. Numbered (end_now a) (sent_at a z)) (sym x.2) tt
  come_numbered a lines sent (Log file) x = subst (λ z. Numbered (end_now a) (sent_at a z)) (sym x.1) tt
  come_numbered a lines sent (Compact file) x = subst (λ z. Numbered (end_now a) (sent_at a z)) (sym x.2) tt
  come_numbered a lines sent (Fault call Script) x = subst (λ z. Numbered (end_now a) (sent_at a z)) (sym x.2) tt
  come_numbered a lines sent (Close peer slot client) x = subst (λ z. Numbered (end_now a) (sent_at a z)) (sym x.3) (close_numbered a (record { peer = peer; slot = slot; client = client }))
  come_numbered a lines sent (Crash clock) x = subst (λ z. Numbered (end_now a) (sent_at a z)) (sym x.1) (crash_numbered a)
  come_numbered a lines sent kind x = absurd x

  -- the session's frames are at one end
  session_numbered : (a b : EndName) (asked : Option Message) (says : List FrameText) (m : Effect) → TakesAt s (state_of s past) b asked says m ⊎ GivesAt s (state_of s past) b asked says m → Numbered (between m.taken a) (sent_at a m.sent)
  session_numbered a b asked says m (inl x) =
      let c = end_takes (end_now b) x.f.epoch x.f.body in
      subst (λ fs. Numbered (between m.taken a) (sent_at a fs)) (sym x.sent_is) (at_one b a c (between m.taken a) says same)
    where
      same : b ≡ a → end_takes (end_now b) x.f.epoch x.f.body ≡ between m.taken a
      same i = sym (ap (λ o. end_took (end_now b) (taken_at b o)) x.taken_is ∙ ap (λ t. end_took (end_now b) (if t then Some x.f else None)) x.of_end) ∙ ap (between m.taken) i
  session_numbered a b asked says m (inr x) =
      subst (λ fs. Numbered (between m.taken a) (sent_at a fs)) (sym x.sent_is) (at_one b a (end_now b) (between m.taken a) says same)
    where
      same : b ≡ a → end_now b ≡ between m.taken a
      same i = sym (ap (λ o. end_took (end_now b) (taken_at b o)) x.taken_is) ∙ ap (between m.taken) i

  owed_numbered : (a : EndName) (m : Effect) → m.taken ≡ None → m.sent ≡ [] → Numbered (between m.taken a) (sent_at a m.sent)
  owed_numbered a m none nothing = subst (λ fs. Numbered (between m.taken a) (sent_at a fs)) (sym nothing) tt

  step_numbered : (a : EndName) (k : Look) (m : Effect) → TakesWell m.taken → StepFound s (state_of s past) k m → Numbered (between m.taken a) (sent_at a m.sent)
  step_numbered a k m well (inl x) = elim (x.writes) [
    | inl y ↦ owed_numbered a m (ap (λ (z : Effect). z.taken) y) (ap (λ (z : Effect). z.sent) y)
    | inr y ↦ owed_numbered a m (ap (λ (z : Effect). z.taken) y) (ap (λ (z : Effect). z.sent) y)
  ]
  step_numbered a k m well (inr (inl x)) = session_numbered a (server_end x.peer x.slot) x.asked x.says m x.frame
  step_numbered a k m well (inr (inr y)) = to_between m.taken a (sent_at a m.sent) (no_opening y) (job_numbered k y.w a m m.kind y.found)
    where
      no_opening : (y : ByJob s (state_of s past) k m) (f : FrameView) → m.taken ≡ Some f → is_opening f.body ≡ false
      no_opening y f i = go y.frame
        where
          go : (m.taken ≡ None) ⊎ JobTakes (turn_of s (state_of s past) k y.w) m → is_opening f.body ≡ false
          go (inl n) = absurd (none_and_some m.taken f n i)
          go (inr z) =
              let two : Some z.f ≡ Some f = sym z.taken_is ∙ i in
              let same : z.f ≡ f = cc in
              well f i (ap (λ (g : FrameView). g.up) (sym same) ∙ client_takes z.peer z.f z.of_end)
            where
              client_takes : (peer : ℕ) (g : FrameView) → takes_at (job_end y.w peer) g ≡ true → g.up ≡ false
              client_takes peer g h = if_turned g.up (ap (λ (b : EndName). b.client) (takes_end (job_end y.w peer) g h))

-- what is sent at an end is numbered there
pub numbered : StepsFind → (s : SetUp) (past : List Entry) (words : ℕ → Option Word) (e : Entry) (a : EndName) → OwnPart s past words e → TakesWell e.taken
    → Numbered (end_took (end_at past s.number a) (taken_at a e.taken)) (sent_at a e.sent)
numbered finds s past words e a own well = go own.does
  where
    go : IsStep s past words e ⊎ ComesAnyTime s past e → Numbered (end_took (end_at past s.number a) (taken_at a e.taken)) (sent_at a e.sent)
    go (inl x) = subst (λ (z : Entry). Numbered (end_took (end_at past s.number a) (taken_at a z.taken)) (sent_at a z.sent)) (sym x.is)
        (step_numbered s past a x.look x.made (λ f i. well f (ap (λ (z : Entry). z.taken) x.is ∙ i)) (finds s (state_of s past) x.look x.made x.makes))
    go (inr x) = to_between s past e.taken a (sent_at a e.sent) (λ f i. absurd (none_and_some e.taken f x.takes_none i)) (come_numbered s past a e.lines e.sent e.kind x.may)
