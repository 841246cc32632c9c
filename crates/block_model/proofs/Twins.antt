-- Two drivers that differ in the frames on their way and in the calls still to fail alone: an entry leaves their stores the same.
use Rattle.std.proofs.Common.{◌≡◌, ℕ, Bool, true, false, List, [], ◌∷◌, ◌++◌, Option, Some, None, refl, sym, ap, ◌∙◌}
use Rattle.std.specs.Prelude.{◌==◌, ◌||◌, if◌then◌else◌, find, map}
use Rattle.std.specs.List.{list_any}
use Rattle.annex_base.specs.declared.kinds.Call.{Call}
use Rattle.annex_base.proofs.Lists.{Member-append_left, list_any_found, list_any_member}
use Rattle.run_data.specs.declared.entry.By.{By}
use Rattle.run_data.specs.declared.entry.EntryKind.{EntryKind}
use Rattle.run_data.specs.declared.entry.EntryKind.TheVariants.{Gain, Gone, Talk, Fault}
use Rattle.run_data.specs.declared.entry.FrameText.{FrameText}
use Rattle.run_data.specs.declared.entry.FrameText.TheVariants.{Bytes, Line}
use Rattle.run_data.specs.declared.entry.FrameView.{FrameView}
use Rattle.node_model.specs.Jobs.{Phase, PutsBytes, Work}
use Rattle.node_model.specs.Look.{Effect}
use Rattle.node_model.specs.Sessions.{Doing, Gives, line_in, message_said}
use Rattle.node_model.specs.State.{State}
use Rattle.driver_model.specs.Driver.{Driver, DriverInput, FailLine, Flight, but_first, drops_part, end_from, fails_at, flight, is_failing, piece_given_by, piece_of, piece_put_by, piece_put_by_work}
use Rattle.driver_model.specs.Turning.{asked_key, is_failure, is_valid, part_right, part_size, store_after, takes_frame, takes_into}
use Rattle.block_model.proofs.OwnStores.{but_no, but_yes}

-- the driver with other frames on their way, and other calls still to fail
abbrev pub twin : Driver → List Flight → List FailLine → Driver
twin d ys zs = record d { flights = ys; fails = zs }

-- ---- lists

module _ {X : Type 0} (q : X → Bool) where
  -- the first to which a test applies isn't one that stands behind another
  pub first_append : (xs ys : List X) → list_any q xs ≡ true → but_first q (xs ++ ys) ≡ but_first q xs ++ ys
  first_append [] ys a = absurd (cc)
  first_append (x ∷ xs) ys a = go (first_append xs ys) (q x) refl a
    where
      go : (list_any q xs ≡ true → but_first q (xs ++ ys) ≡ but_first q xs ++ ys) → (b : Bool) → q x ≡ b → (b || list_any q xs) ≡ true → but_first q (x ∷ xs ++ ys) ≡ but_first q (x ∷ xs) ++ ys
      go more true i h = but_yes q x (xs ++ ys) i ∙ sym (ap (λ zs. zs ++ ys) (but_yes q x xs i))
      go more false i h = but_no q x (xs ++ ys) i ∙ ap (λ zs. x ∷ zs) (more h) ∙ sym (ap (λ zs. zs ++ ys) (but_no q x xs i))

  pub any_append : (xs ys : List X) → list_any q xs ≡ true → list_any q (xs ++ ys) ≡ true
  any_append xs ys a = let z = list_any_found q xs a in list_any_member q (xs ++ ys) z.0 (Member-append_left xs ys z.0 z.1) z.2

-- ---- pieces and parts

module _ (d : Driver) (ys : List Flight) (zs : List FailLine) where
  given_twin : (r n : ℕ) (doing : Doing) → piece_given_by (twin d ys zs) r n doing ≡ piece_given_by d r n doing
  given_twin r n (Gives key at left good) = refl
  given_twin r n doing = refl

  put_twin : (r n : ℕ) (key : List ℕ) (phase : Phase) → piece_put_by (twin d ys zs) r n key phase ≡ piece_put_by d r n key phase
  put_twin r n key (PutsBytes peer start at left) = refl
  put_twin r n key phase = refl

  work_twin : (r n : ℕ) (o : Option Work) → piece_put_by_work (twin d ys zs) r n o ≡ piece_put_by_work d r n o
  work_twin r n None = refl
  work_twin r n (Some w) = put_twin r n w.what.key w.phase

  piece_twin : (st : State) (r : ℕ) (f : FrameView) (body : FrameText) → piece_of (twin d ys zs) st r f body ≡ piece_of d st r f body
  piece_twin st r f (Bytes n) = go f.up
    where
      go : (b : Bool) → (if b then piece_put_by_work (twin d ys zs) r n (find (λ w. w.slot == f.slot) st.works) else piece_given_by (twin d ys zs) r n (st.sessions (end_from f)).doing)
          ≡ (if b then piece_put_by_work d r n (find (λ w. w.slot == f.slot) st.works) else piece_given_by d r n (st.sessions (end_from f)).doing)
      go true = work_twin r n (find (λ w. w.slot == f.slot) st.works)
      go false = given_twin r n (st.sessions (end_from f)).doing
  piece_twin st r f body = refl

  flight_twin : (st : State) (r : ℕ) (f : FrameView) → flight (twin d ys zs) st r f ≡ flight d st r f
  flight_twin st r f = λ i. record { to = f.peer; frame = record f { peer = r }; bytes = piece_twin st r f f.body i }

  pub flights_twin : (st : State) (r : ℕ) (fs : List FrameView) → map (flight (twin d ys zs) st r) fs ≡ map (flight d st r) fs
  flights_twin st r [] = refl
  flights_twin st r (f ∷ fs) = λ i. flight_twin st r f i ∷ flights_twin st r fs i

  pub size_twin : (r : ℕ) (o : Option (List ℕ)) → part_size (twin d ys zs) r o ≡ part_size d r o
  size_twin r None = refl
  size_twin r (Some key) = refl

  pub right_twin : (g : DriverInput) (r : ℕ) (o : Option (List ℕ)) → part_right g (twin d ys zs) r o ≡ part_right g d r o
  right_twin g r None = refl
  right_twin g r (Some key) = refl

-- ---- the store after an entry

module _ (r : ℕ) (d : Driver) (ys : List Flight) (rest : List FailLine) where
  into_twin : (key bytes : List ℕ) (body : FrameText) (sent : List FrameView)
      → takes_into r key bytes body sent (twin d ys (d.fails ++ rest)) ≡ twin (takes_into r key bytes body sent d) ys ((takes_into r key bytes body sent d).fails ++ rest)
  into_twin key bytes (Bytes n) [] = refl
  into_twin key bytes (Line text) sent = go (is_valid (line_in (Line text))) (is_failure (message_said sent))
    where
      go : (b c : Bool) → (if b then (if c then drops_part r key (twin d ys (d.fails ++ rest)) else twin d ys (d.fails ++ rest)) else twin d ys (d.fails ++ rest))
          ≡ twin (if b then (if c then drops_part r key d else d) else d) ys ((if b then (if c then drops_part r key d else d) else d).fails ++ rest)
      go true true = refl
      go true false = refl
      go false c = refl
  into_twin key bytes body sent = refl

  frame_twin : (bytes : List ℕ) (key : Option (List ℕ)) (taken : Option FrameView) (sent : List FrameView)
      → takes_frame r bytes key taken sent (twin d ys (d.fails ++ rest)) ≡ twin (takes_frame r bytes key taken sent d) ys ((takes_frame r bytes key taken sent d).fails ++ rest)
  frame_twin bytes (Some key) (Some f) sent = into_twin key bytes f.body sent
  frame_twin bytes key taken sent = refl

  -- where a fault answers a line that waits, further lines stay behind it
  pub store_twin : (st : State) (m : Effect) (bytes : List ℕ) (kind : EntryKind) → ((call : Call) (by : By) → kind ≡ Fault call by → fails_at d r call ≡ true)
      → store_after st r m bytes kind (twin d ys (d.fails ++ rest)) ≡ twin (store_after st r m bytes kind d) ys ((store_after st r m bytes kind d).fails ++ rest)
  store_twin st m bytes (Gain by size key) a = refl
  store_twin st m bytes (Gone by key) a = refl
  store_twin st m bytes (Talk job) a = frame_twin bytes (asked_key st m) m.taken m.sent
  store_twin st m bytes (Fault call by) a = ap (λ zs. twin d ys zs) (first_append (is_failing r call) d.fails rest (a call by refl))
  store_twin st m bytes kind a = refl

-- the store asks nothing of the calls that a step made
pub told_alike : (st : State) (r : ℕ) (m : Effect) (bytes : List ℕ) (kind : EntryKind) (d : Driver) → store_after st r (record m { calls = [] }) bytes kind d ≡ store_after st r m bytes kind d
told_alike st r m bytes (Gain by size key) d = refl
told_alike st r m bytes (Gone by key) d = refl
told_alike st r m bytes (Talk job) d = refl
told_alike st r m bytes (Fault call by) d = refl
told_alike st r m bytes kind d = refl
