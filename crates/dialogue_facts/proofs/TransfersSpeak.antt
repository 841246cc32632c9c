-- A get or a copy speaks, other than at its end, only to its partner, or to the peer that it asks next.
use Rattle.std.proofs.Common.{◌≡◌, ◌≢◌, ℕ, Bool, true, false, List, [], ◌∷◌, Option, Some, None, ◌⊎◌, inl, inr, refl, ap, subst}
use Rattle.std.specs.Prelude.{bytes_eq, codes, ◌+◌, if◌then◌else◌, ◌&&◌, min, nat_lt, nat_le, not}
use Rattle.std.specs.List.{list_all}
use Rattle.annex_base.specs.Lists.{Each, Member}
use Rattle.annex_base.specs.declared.kinds.Call.{Call}
use Rattle.annex_base.proofs.Conditions.{if_either}
use Rattle.annex_base.proofs.Lists.{Each-member}
use Rattle.annex_base.specs.declared.kinds.Call.TheVariants as calls
use Rattle.run_data.specs.declared.entry.Entry.{Entry}
use Rattle.run_data.specs.declared.entry.EntryKind.{EntryKind}
use Rattle.run_data.specs.declared.entry.EntryKind.TheVariants.{Fault, Gain, End as ends_job}
use Rattle.run_data.specs.declared.entry.FrameView.{FrameView}
use Rattle.run_data.specs.declared.entry.FrameText.{FrameText}
use Rattle.run_data.specs.declared.entry.FrameText.TheVariants.{Opening, Closing, Bytes, Line}
use Rattle.run_data.specs.declared.job.Outcome.{Outcome}
use Rattle.run_data.specs.declared.job.Outcome.TheVariants.{Got, TransferRefused}
use Rattle.run_data.specs.declared.job.TransferRefusal.TheVariants as failures
use Rattle.node_model.specs.Rows.{is_lost_ordered}
use Rattle.p2p_wire.specs.declared.message.Message.{Message}
use Rattle.p2p_wire.specs.declared.message.Message.TheVariants.{AlreadyHave, AuthSuccess, Data, Error, Failure, Get, Invalid, Put, PutFrom, Success, Valid, Version}
use Rattle.p2p_wire.specs.Messages.{message_of, text_of}
use Rattle.node_model.specs.SetUp.{SetUp}
use Rattle.node_model.specs.Jobs.{Part, Gets, Puts, Drops, Phase, Fresh, Next, Opens, Greets, GetsData, GetsBytes, GetsWord, PutsAnswer, PutsBytes, PutsOffer, PutsWord, job_end, partner, is_move}
use Rattle.node_model.specs.Calls.{to_commit, to_release, to_resume}
use Rattle.node_model.specs.Look.{Effect, failing_call, waiting_frame}
use Rattle.node_model.specs.JobStep.{Turn, attempts, by_me, end_with, ends, farewells, hears, is_there, key_of, owns_share, quietly, says_to, sends_to, talk, wrong_message}
use Rattle.node_model.specs.Sessions.{reaches}
use Rattle.node_model.specs.SessionStep.{bytes_left}
use Rattle.node_model.specs.Requests.{asks, goes_to}
use Rattle.node_model.specs.TransferStep.{first_get, first_put, gains, next_get, next_source, puts_from, puts_piece, takes_bytes, takes_get, takes_put}
use Rattle.node_model.specs.Turns.{awaits, by_partner, first_step, goes, goes_on, has_room, is_awaiting, needs, next_step, outcome_of, takes, takes_answer, takes_frame, takes_text, with_partner}
use Rattle.step_facts.proofs.Cases.{unless_found}
use Rattle.step_facts.proofs.JobSteps.{Stepped, turn_at}

abbrev IsEnd : EntryKind → Type 0
IsEnd (ends_job j outcome) = Unit {0}
IsEnd kind = ⊥

-- a part other than a drop
abbrev pub Transfers : Part → Type 0
Transfers Gets = Unit {0}
Transfers Puts = Unit {0}
Transfers Drops = ⊥

-- the peer is the partner, or is asked next: a get's next source, a copy's peer
abbrev pub Place : Turn → ℕ → Type 0
Place t peer = (partner t.w.what.peer t.w.phase ≡ Some peer) ⊎ ((next_source t ≡ Some peer) ⊎ ((t.w.part ≡ Puts) × (t.w.what.peer ≡ Some peer)))

abbrev Tells : Turn → Effect → Type 0
Tells t m = IsEnd m.kind ⊎ Each (λ g. Place t g.peer) m.sent

attempts_tells : (t : Turn) (cs : List Call) (taken : Option FrameView) (m : Effect) → Tells t m → Tells t (attempts t cs taken m)
attempts_tells t cs taken m g = unless_found (Tells t) (failing_call t.look.fails cs) (λ call. quietly (Fault call (by_me t)) taken) m (λ call. inr tt) g

one_tells : (t : Turn) (kind : EntryKind) (taken : Option FrameView) (peer : ℕ) (body : FrameText) → Place t peer → Tells t (sends_to t kind taken peer (body ∷ []))
one_tells t kind taken peer body place = inr (place, tt)

ends_tells : (t : Turn) (taken : Option FrameView) (outcome : Outcome) → Tells t (ends t taken outcome)
ends_tells t taken outcome =
    let lost = is_lost_ordered outcome in
    attempts_tells t (to_release (owns_share t && not lost)) taken (record { kind = ends_job t.w.number outcome; taken = taken; sent = farewells t lost; lines = []; calls = [] }) (inl tt)

asks_tells : (t : Turn) (version : ℕ) (taken : Option FrameView) (peer : ℕ) (part : Part) → Transfers part → Place t peer → Tells t (asks t version taken peer part)
asks_tells t version taken peer Gets is place =
    attempts_tells t (to_resume t.look.part) taken (says_to t (talk t) taken peer (Get t.look.part [] (key_of t))) (one_tells t (talk t) taken peer (Line (text_of (Get t.look.part [] (key_of t)))) place)
asks_tells t version taken peer Puts is place = one_tells t (talk t) taken peer (Line (text_of (Put [] (key_of t)))) place
asks_tells t version taken peer Drops is place = absurd is

goes_to_tells : (t : Turn) (peer : ℕ) → Transfers t.w.part → Place t peer → Tells t (goes_to t peer)
goes_to_tells t peer is place = if_either (Tells t) (end_with t peer).opened (asks t t.w.version None peer t.w.part) (sends_to t (talk t) None peer (Opening ∷ []))
    (λ o. asks_tells t t.w.version None peer t.w.part is place) (λ o. one_tells t (talk t) None peer Opening place)

first_get_tells : (t : Turn) (here filled : Bool) (source : Option ℕ) → Transfers t.w.part → next_source t ≡ source → Tells t (first_get t here filled source)
first_get_tells t true filled source part is = if_either (Tells t) (is_move t.w.what.kind) (quietly (talk t) None) (ends t None (Got None None)) (λ e. inr tt) (λ e. ends_tells t None (Got None None))
first_get_tells t false true source part is = ends_tells t None (TransferRefused failures.Busy)
first_get_tells t false false None part is = inr tt
first_get_tells t false false (Some peer) part is = goes_to_tells t peer part (inr (inl is))

first_put_tells : (t : Turn) (here : Bool) (peer : Option ℕ) → Transfers t.w.part → t.w.part ≡ Puts → t.w.what.peer ≡ peer → Tells t (first_put t here peer)
first_put_tells t true (Some peer) part puts is = goes_to_tells t peer part (inr (inr (puts, is)))
first_put_tells t true None part puts is = ends_tells t None (TransferRefused failures.NotHere)
first_put_tells t false peer part puts is = ends_tells t None (TransferRefused failures.NotHere)

first_tells : (t : Turn) (part : Part) → Transfers t.w.part → t.w.part ≡ part → Tells t (first_step t part)
first_tells t Gets part is =
    attempts_tells t (calls.Has ∷ []) None (first_get t (is_there t) (t.filled (key_of t)) (next_source t)) (first_get_tells t (is_there t) (t.filled (key_of t)) (next_source t) part refl)
first_tells t Puts part is = attempts_tells t (calls.Has ∷ []) None (first_put t (is_there t) t.w.what.peer) (first_put_tells t (is_there t) t.w.what.peer part is refl)
first_tells t Drops part is = absurd (subst Transfers is part)

next_get_tells : (t : Turn) (source : Option ℕ) → Transfers t.w.part → next_source t ≡ source → Tells t (next_get t source)
next_get_tells t None part is = ends_tells t None (TransferRefused (failures.NoSource t.w.causes))
next_get_tells t (Some peer) part is = goes_to_tells t peer part (inr (inl is))

next_tells : (t : Turn) (part : Part) → Transfers t.w.part → t.w.part ≡ part → Tells t (next_step t part)
next_tells t Gets part is = next_get_tells t (next_source t) part refl
next_tells t Puts part is = next_get_tells t (next_source t) part refl
next_tells t Drops part is = absurd (subst Transfers is part)

piece_tells : (t : Turn) (peer at n : ℕ) → Place t peer → Tells t (puts_piece t peer at n)
piece_tells t peer at n place =
    let body = if reaches (t.content (key_of t)) (at + n) then Bytes n else Closing in
    attempts_tells t (calls.Read ∷ []) None (sends_to t (talk t) None peer (body ∷ [])) (one_tells t (talk t) None peer body place)

goes_tells : (t : Turn) → Transfers t.w.part → (phase : Phase) → t.w.phase ≡ phase → Tells t (goes t phase)
goes_tells t part Fresh is = first_tells t t.w.part part refl
goes_tells t part Next is = next_tells t t.w.part part refl
goes_tells t part (PutsBytes peer start at left) is = piece_tells t peer at (min 32768 left) (inl (ap (partner t.w.what.peer) is))
goes_tells t part (PutsWord peer start) is = one_tells t (talk t) None peer (Line (text_of Valid)) (inl (ap (partner t.w.what.peer) is))
goes_tells t part phase is = ends_tells t None (outcome_of t phase)

-- ---- the steps that take a frame

module _ (t : Turn) (f : FrameView) (peer : ℕ) (part : Transfers t.w.part) (place : Place t peer) where
  wrong_tells : Tells t (wrong_message t f peer)
  wrong_tells = one_tells t (talk t) (Some f) peer Closing place

  bytes_tells : (n : ℕ) (phase : Phase) → Tells t (takes_bytes t f peer n phase)
  bytes_tells n (GetsBytes p start size left) =
      if_either (Tells t) (nat_lt 0 n && nat_le n left) (attempts t (calls.Append ∷ []) (Some f) (quietly (talk t) (Some f))) (wrong_message t f peer)
      (λ e. attempts_tells t (calls.Append ∷ []) (Some f) (quietly (talk t) (Some f)) (inr tt)) (λ e. wrong_tells)
  bytes_tells n phase = wrong_tells

  gains_tells : (size : ℕ) (right : Bool) → Tells t (gains t f peer size right)
  gains_tells size true = one_tells t (Gain (by_me t) size (key_of t)) (Some f) peer (Line (text_of Success)) place
  gains_tells size false = one_tells t (talk t) (Some f) peer (Line (text_of Failure)) place

  get_tells : (phase : Phase) (m : Message) → Tells t (takes_get t f peer phase m)
  get_tells (GetsData p start) (Data n) = inr tt
  get_tells (GetsWord p start size) Valid = attempts_tells t (to_commit t.look.right) (Some f) (gains t f peer size t.look.right) (gains_tells size t.look.right)
  get_tells (GetsWord p start size) Invalid = one_tells t (talk t) (Some f) peer (Line (text_of Failure)) place
  get_tells phase m = wrong_tells

  from_tells : (n : ℕ) → Tells t (puts_from t f peer n)
  from_tells n =
      let data' = says_to t (talk t) (Some f) peer (Data (bytes_left (t.content (key_of t)) n)) in
      let there = reaches (t.content (key_of t)) n in
      attempts_tells t (calls.Size ∷ []) (Some f) (if there then data' else wrong_message t f peer) (if_either (Tells t) there data' (wrong_message t f peer) (λ e. one_tells t (talk t) (Some f) peer (Line (text_of (Data (bytes_left (t.content (key_of t)) n)))) place) (λ e. wrong_tells))

  put_tells : (phase : Phase) (m : Message) → Tells t (takes_put t f peer phase m)
  put_tells (PutsOffer p) AlreadyHave = inr tt
  put_tells (PutsOffer p) Failure = inr tt
  put_tells (PutsOffer p) (Error text) = if_either (Tells t) (bytes_eq text (codes "busy")) (hears t f) (wrong_message t f peer) (λ e. inr tt) (λ e. wrong_tells)
  put_tells (PutsOffer p) (PutFrom n) = from_tells n
  put_tells (PutsAnswer p start) Success = inr tt
  put_tells (PutsAnswer p start) Failure = inr tt
  put_tells phase m = wrong_tells

  answer_tells : (q : Part) → Transfers q → (phase : Phase) (m : Message) → Tells t (takes_answer t f peer q phase m)
  answer_tells Gets is phase m = get_tells phase m
  answer_tells Puts is phase m = put_tells phase m
  answer_tells Drops is phase m = absurd is

  takes_tells : (phase : Phase) (m : Message) → Tells t (takes t f peer phase m)
  takes_tells (Opens p) (AuthSuccess id) = one_tells t (talk t) (Some f) peer (Line (text_of (Version 3))) place
  takes_tells (Greets p) (Version n) = if_either (Tells t) (nat_le n 3) (asks t n (Some f) peer t.w.part) (wrong_message t f peer) (λ e. asks_tells t n (Some f) peer t.w.part part place) (λ e. wrong_tells)
  takes_tells phase m = answer_tells t.w.part part phase m

  text_tells : (m : Option Message) → Tells t (takes_text t f peer m)
  text_tells None = wrong_tells
  text_tells (Some m) = takes_tells t.w.phase m

  frame_tells : (body : FrameText) → Tells t (takes_frame t peer f body)
  frame_tells Opening = wrong_tells
  frame_tells Closing = inr tt
  frame_tells (Bytes n) = bytes_tells n t.w.phase
  frame_tells (Line text) = text_tells (message_of text)

-- ---- the step

module _ (t : Turn) (m : Effect) (part : Transfers t.w.part) where
  on_tells : goes_on t ≡ Some m → Tells t m
  on_tells e = go (list_all (has_room t) (needs t t.w.phase)) e
    where
      go : (b : Bool) → (if b then Some (goes t t.w.phase) else None) ≡ Some m → Tells t m
      go true g = let same : goes t t.w.phase ≡ m = cc in subst (Tells t) same (goes_tells t part t.w.phase refl)
      go false g = absurd (cc)

  awaits_tells : (peer : ℕ) → Place t peer → (f : Option FrameView) → awaits t peer f ≡ Some m → Tells t m
  awaits_tells peer place None e = absurd (cc)
  awaits_tells peer place (Some f) e = go (has_room t peer) e
    where
      go : (b : Bool) → (if b then Some (takes_frame t peer f f.body) else None) ≡ Some m → Tells t m
      go true g = let same : takes_frame t peer f f.body ≡ m = cc in subst (Tells t) same (frame_tells t f peer part place f.body)
      go false g = absurd (cc)

  with_tells : (peer : ℕ) → Place t peer → (b : Bool) → with_partner t peer b ≡ Some m → Tells t m
  with_tells peer place false e = let same : quietly (talk t) None ≡ m = cc in subst (Tells t) same (inr tt)
  with_tells peer place true e = go (is_awaiting t.w.phase) e
    where
      go : (b : Bool) → (if b then awaits t peer (waiting_frame (end_with t peer) t.look (job_end t.w peer)) else goes_on t) ≡ Some m → Tells t m
      go true g = awaits_tells peer place (waiting_frame (end_with t peer) t.look (job_end t.w peer)) g
      go false g = on_tells g

  partner_tells : (p : Option ℕ) → partner t.w.what.peer t.w.phase ≡ p → by_partner t p ≡ Some m → Tells t m
  partner_tells None on e = on_tells e
  partner_tells (Some peer) on e = with_tells peer (inl on) (end_with t peer).opened e

-- **a transfer that goes on speaks to its partner, or to the peer that it asks next**
pub transfers_tell : (s : SetUp) (past : List Entry) (e : Entry) (x : Stepped s past e) → Transfers x.w.part → ((j : ℕ) (outcome : Outcome) → e.kind ≢ ends_job j outcome)
    → (g : FrameView) → Member g e.sent → Place (turn_at s past e x) g.peer
transfers_tell s past e x part goes_on g m = elim (partner_tells (turn_at s past e x) x.made part (partner x.w.what.peer x.w.phase) refl x.does) [
  | inl end ↦ absurd (ended x.made.kind (ap (λ (y : Entry). y.kind) x.is) end)
  | inr all ↦ Each-member (λ g. Place (turn_at s past e x) g.peer) x.made.sent g all (subst (Member g) (ap (λ (y : Entry). y.sent) x.is) m)
]
  where
    ended : (kind : EntryKind) → e.kind ≡ kind → IsEnd kind → ⊥
    ended (ends_job j outcome) same end = goes_on j outcome same
    ended kind same end = elim end [ ]
