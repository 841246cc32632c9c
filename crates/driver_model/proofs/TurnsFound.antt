-- A turn is found from the step that is made at the driver's look for it: the plain look finds a step of the same session or job, which
-- asks for the same part, and the first call of the step that is to fail is the one that failed.
use Rattle.std.proofs.Common.{◌≡◌, ℕ, Bool, true, false, List, [], ◌∷◌, Option, Some, None, ◌⊎◌, inl, inr, refl, sym, ap, ◌∙◌, subst}
use Rattle.std.specs.Prelude.{if◌then◌else◌, ◌==◌, find}
use Rattle.std.specs.List.{list_all}
use Rattle.std.specs.Option.{option_map, option_or}
use Rattle.annex_base.specs.declared.kinds.Call.{Call}
use Rattle.annex_base.specs.declared.kinds.Word.{Word}
use Rattle.run_data.specs.declared.entry.EntryKind.{EntryKind}
use Rattle.run_data.specs.declared.entry.EntryKind.TheVariants.{End as ends_job}
use Rattle.run_data.specs.declared.entry.FrameView.{FrameView}
use Rattle.run_data.specs.declared.job.Outcome.{Outcome}
use Rattle.node_model.specs.Ends.{EndName, server_end}
use Rattle.node_model.specs.Jobs.{Work, job_end, partner}
use Rattle.node_model.specs.JobStep.{Turn, end_with, turn_of}
use Rattle.node_model.specs.Look.{Look, Effect, failed_in, waiting_frame}
use Rattle.node_model.specs.OwedLines.{OwedLine}
use Rattle.node_model.specs.OwedStep.{pays_first}
use Rattle.node_model.specs.SessionStep.{Here, gives_made, gives_next, here, session_at, session_makes, session_step}
use Rattle.node_model.specs.Sessions
use Rattle.node_model.specs.Sessions.{Doing}
use Rattle.node_model.specs.SetUp.{SetUp, served_connections, slots}
use Rattle.node_model.specs.Slots.{job_of}
use Rattle.node_model.specs.State.{State}
use Rattle.node_model.specs.Step.{step}
use Rattle.node_model.specs.Turns.{awaits, by_partner, goes, goes_on, has_room, is_awaiting, job_step, needs, slot_step, takes_frame, with_partner}
use Rattle.driver_model.specs.Driver.{Driver, DriverInput, fails_at, set_up_of, state_at}
use Rattle.driver_model.specs.Finding.{MakesStep, after_step, driver_at_turn}
use Rattle.driver_model.specs.Turning.{asked_key, calm_look, looks, made_calls, makes, part_right, part_size, plain_look, step_key, told_words, turn}
use Rattle.driver_model.specs.WordsRead.{AgreeWhereRead}
use Rattle.driver_model.proofs.Alike.{Alike, first_alike, list_alike, other_ready, some_alike}
use Rattle.driver_model.proofs.EndsAlike.{ends_alike, given_next}
use Rattle.driver_model.proofs.Needed.{needed}
use Rattle.driver_model.proofs.Premises.{NamedJobs}
use Rattle.driver_model.proofs.WordsAside.{words_aside}

-- ---- any two looks that have the same time, count, frames and rooms find a step of the same session or job

-- both ask for the part of the same key
abbrev SameAsked : State → Effect → Effect → Type 0
SameAsked st m m' = asked_key st m ≡ asked_key st m'

-- the entry is one of the turn's job
abbrev Mine : Turn → Effect → Type 0
Mine t m = job_of m.kind ≡ Some t.w.number

-- the job stands on no connection, or on one where it awaits nothing
abbrev IsFree : Work → Type 0
IsFree w = (partner w.what.peer w.phase ≡ None) ⊎ (is_awaiting w.phase ≡ false)

module _ (names : NamedJobs) (s : SetUp) (st : State) (k : Look) (fails : Option Call) (part : ℕ) (right : Bool) (others : ℕ → Option Word) where
  abbrev k1 : Look
  k1 = record k { fails = fails; part = part; right = right; words = others }

  abbrev A : Effect → Effect → Type 0
  A m m' = SameAsked st m m'

  asked_by : (m : Effect) (o : Option ℕ) → job_of m.kind ≡ o → asked_key st m ≡ step_key st o m.taken
  asked_by m o e = ap (λ (j : Option ℕ). step_key st j m.taken) e

  -- ---- a session

  module _ (a : EndName) where
    abbrev h0 : Here
    h0 = here s st k a

    abbrev h1 : Here
    h1 = here s st k1 a

    given : (doing : Doing) → Alike A (gives_made a (st.ends a) (gives_next h0 doing)) (gives_made a (st.ends a) (gives_next h1 doing))
    given (Sessions.Gives key at left good) = ap (λ (j : Option ℕ). step_key st j None) (none h0 ∙ sym (none h1))
      where
        none : (h : Here) → job_of (given_next h key at left good).kind ≡ None
        none h = names.gives h (Sessions.Gives key at left good) (given_next h key at left good) refl
    given doing = tt

    makes_alike : (o : Option FrameView) → Alike A (session_makes h0 (st.ends a) (st.sessions a) o) (session_makes h1 (st.ends a) (st.sessions a) o)
    makes_alike (Some f) = ap (λ (j : Option ℕ). step_key st j (Some f)) (names.answers h0 (st.sessions a) f.body ∙ sym (names.answers h1 (st.sessions a) f.body))
    makes_alike None = go (st.ends a).opened
      where
        go : (b : Bool) → Alike A (if b then gives_made a (st.ends a) (gives_next h0 (st.sessions a).doing) else None) (if b then gives_made a (st.ends a) (gives_next h1 (st.sessions a).doing) else None)
        go true = given (st.sessions a).doing
        go false = tt

    session_alike : Alike A (session_at s st k a) (session_at s st k1 a)
    session_alike = go (k.room a)
      where
        go : (b : Bool) → Alike A (if b then session_makes h0 (st.ends a) (st.sessions a) (waiting_frame (st.ends a) k a) else None) (if b then session_makes h1 (st.ends a) (st.sessions a) (waiting_frame (st.ends a) k1 a) else None)
        go true = makes_alike (waiting_frame (st.ends a) k a)
        go false = tt

  -- ---- a job

  module _ (w : Work) where
    abbrev t0 : Turn
    t0 = turn_of s st k w

    abbrev t1 : Turn
    t1 = turn_of s st k1 w

    both_own : (m m' : Effect) → Mine t0 m → Mine t1 m' → A m m'
    both_own m m' e e' = asked_by m (Some w.number) e ∙ sym (asked_by m' (Some w.number) e')

    goes_on-alike : IsFree w → Alike A (goes_on t0) (goes_on t1)
    goes_on-alike free = subst (λ ps. Alike A (if list_all (has_room t0) (needs t0 w.phase) then Some (goes t0 w.phase) else None) (if list_all (has_room t0) ps then Some (goes t1 w.phase) else None)) (needed s st k fails part right others w w.phase)
        (some_alike A (list_all (has_room t0) (needs t0 w.phase)) (goes t0 w.phase) (goes t1 w.phase) (both_own (goes t0 w.phase) (goes t1 w.phase) (names.goes t0 free) (names.goes t1 free)))

    awaits_alike : (peer : ℕ) → partner w.what.peer w.phase ≡ Some peer → (o : Option FrameView) → Alike A (awaits t0 peer o) (awaits t1 peer o)
    awaits_alike peer on None = tt
    awaits_alike peer on (Some f) = some_alike A (has_room t0 peer) (takes_frame t0 peer f f.body) (takes_frame t1 peer f f.body)
        (both_own (takes_frame t0 peer f f.body) (takes_frame t1 peer f f.body) (names.takes t0 peer f on) (names.takes t1 peer f on))

    with_alike : (peer : ℕ) → partner w.what.peer w.phase ≡ Some peer → (opened : Bool) → Alike A (with_partner t0 peer opened) (with_partner t1 peer opened)
    with_alike peer on false = refl
    with_alike peer on true = go (is_awaiting w.phase) refl
      where
        go : (b : Bool) → is_awaiting w.phase ≡ b → Alike A (if b then awaits t0 peer (waiting_frame (end_with t0 peer) k (job_end w peer)) else goes_on t0) (if b then awaits t1 peer (waiting_frame (end_with t1 peer) k1 (job_end w peer)) else goes_on t1)
        go true awaits_it = awaits_alike peer on (waiting_frame (end_with t0 peer) k (job_end w peer))
        go false awaits_none = goes_on-alike (inr awaits_none)

    by_alike : (o : Option ℕ) → partner w.what.peer w.phase ≡ o → Alike A (by_partner t0 o) (by_partner t1 o)
    by_alike None on = goes_on-alike (inl on)
    by_alike (Some peer) on = with_alike peer on (end_with t0 peer).opened

  slot_alike : (o : Option Work) → Alike A (slot_step s st k o) (slot_step s st k1 o)
  slot_alike None = tt
  slot_alike (Some w) = by_alike w (partner w.what.peer w.phase) refl

  -- where no line is owed
  pub rest_alike : Alike A (option_or (session_step s st k) (job_step s st k)) (option_or (session_step s st k1) (job_step s st k1))
  rest_alike = first_alike A (session_step s st k) (session_step s st k1) (job_step s st k) (job_step s st k1)
      (list_alike A (λ (c : ℕ × ℕ). session_at s st k (server_end c.0 c.1)) (λ (c : ℕ × ℕ). session_at s st k1 (server_end c.0 c.1)) (λ c. session_alike (server_end c.0 c.1)) (served_connections s))
      (list_alike A (λ slot. slot_step s st k (find (λ w. w.slot == slot) st.works)) (λ slot. slot_step s st k1 (find (λ w. w.slot == slot) st.works)) (λ slot. slot_alike (find (λ w. w.slot == slot) st.works)) slots)

-- ---- an owed line

-- a step with these owed lines
abbrev pub step_of : SetUp → State → List OwedLine → Look → Option Effect
step_of s st os k = option_or (pays_first s st k os) (option_or (session_step s st k) (job_step s st k))

-- the driver's own look for this step, with all words that the job was told
abbrev pub look_told : DriverInput → Driver → ℕ → SetUp → State → Effect → Look
look_told g d r s st m = record (calm_look g d r s st m) { fails = failed_in m.kind }

-- the step is made at that look
pub record IsTold (g : DriverInput) (r : ℕ) (d : Driver) (m : Effect) : Type 0 where
  pub steps : step (set_up_of g d r) (state_at g d r) (look_told g (driver_at_turn g r d) r (set_up_of g d r) (state_at g d r) m) ≡ Some m
  pub fails : failed_in m.kind ≡ find (fails_at (driver_at_turn g r d) r) m.calls

-- what the turn wants of the step that a plain look finds, where this is made
pub record IsPlain (g : DriverInput) (r : ℕ) (d : Driver) (m m0 : Effect) : Type 0 where
  pub plain : step (set_up_of g d r) (state_at g d r) (plain_look (set_up_of g d r) (driver_at_turn g r d)) ≡ Some m0
  pub makes_it : step (set_up_of g d r) (state_at g d r) (record (calm_look g (driver_at_turn g r d) r (set_up_of g d r) (state_at g d r) m0) { fails = failed_in m.kind }) ≡ Some m

calls_in : (o : Option Effect) (cs : List Call) → option_map (λ (z : Effect). z.calls) o ≡ Some cs → made_calls o ≡ cs
calls_in None cs h = absurd (cc)
calls_in (Some z) cs h = cc

module _ (names : NamedJobs) (g : DriverInput) (r : ℕ) (d : Driver) (m : Effect) (x : IsTold g r d m) where
  abbrev s : SetUp
  s = set_up_of g d r

  abbrev st : State
  st = state_at g d r

  abbrev c : Driver
  c = driver_at_turn g r d

  abbrev told : Look
  told = look_told g c r s st m

  -- ---- the turn, by the plain step

  module _ (m0 : Effect) (p : IsPlain g r d m m0) where
    abbrev calm : Look
    calm = calm_look g c r s st m0

    failed_is : find (fails_at c r) (made_calls (step s st calm)) ≡ failed_in m.kind
    failed_is = ap (find (fails_at c r)) (calls_in (step s st calm) m.calls (sym (names.calls.same s st calm (failed_in m.kind)) ∙ ap (option_map (λ (z : Effect). z.calls)) p.makes_it)) ∙ sym x.fails

    turn_by : turn g r d ≡ after_step g r d m
    turn_by =
        ap (λ (o : Option Effect). looks g r s st o c) p.plain
        ∙ ap (λ (o : Option Call). makes st r (record calm { fails = o }) (step s st (record calm { fails = o })) c) failed_is
        ∙ ap (λ (o : Option Effect). makes st r (record calm { fails = failed_in m.kind }) o c) p.makes_it

  -- ---- where a line is owed, it is paid first

  module _ (o : OwedLine) (os : List OwedLine) (e : st.owed ≡ o ∷ os) where
    pays : (k : Look) → step s st k ≡ step_of s st (o ∷ os) k
    pays k = ap (λ (os : List OwedLine). step_of s st os k) e

    owed_plain : (m0 : Effect) → step_of s st (o ∷ os) (plain_look s c) ≡ Some m0 → IsPlain g r d m m0
    owed_plain m0 i = record {
      plain = pays (plain_look s c) ∙ i;
      makes_it = pays (record (calm_look g c r s st m0) { fails = failed_in m.kind }) ∙ sym (pays told) ∙ x.steps;
    }

    owed_turn : turn g r d ≡ after_step g r d m
    owed_turn = turn_by _ (owed_plain _ refl)

  -- ---- where none is owed

  module _ (e : st.owed ≡ []) where
    goes_on-by : (k : Look) → step s st k ≡ option_or (session_step s st k) (job_step s st k)
    goes_on-by k = ap (λ (os : List OwedLine). step_of s st os k) e

    -- the look with this failing call, the part of this key, and these words
    abbrev look : Option Call → Option (List ℕ) → (ℕ → Option Word) → Look
    look fails key words = record (plain_look s c) { fails = fails; part = part_size c r key; right = part_right g c r key; words = words }

    abbrev words_of : Effect → ℕ → Option Word
    words_of m = told_words c.past r m.kind

    module _ (m0 : Effect) (i : step s st (plain_look s c) ≡ Some m0) (same : asked_key st m ≡ asked_key st m0) where
      words_agree : (w : Work) (outcome : Outcome) → m.kind ≡ ends_job w.number outcome → (peer : ℕ) → words_of m peer ≡ words_of m0 peer
      words_agree w outcome is peer =
          let calm : step s st (look None (asked_key st m) (words_of m)) ≡ Some m = ap (λ (o : Option Call). step s st (look o (asked_key st m) (words_of m))) (sym (ap failed_in is)) ∙ x.steps in
          let ends = ends_alike names s st (plain_look s c) (part_size c r (asked_key st m)) (part_right g c r (asked_key st m)) (words_of m) m0 m w.number outcome refl i calm is in
          ap (λ (kind : EntryKind). told_words c.past r kind peer) is ∙ sym (ap (λ (kind : EntryKind). told_words c.past r kind peer) ends.1)

      rest_plain : IsPlain g r d m m0
      rest_plain = record {
        plain = i;
        makes_it = ap (λ (key : Option (List ℕ)). step s st (look (failed_in m.kind) key (words_of m0))) (sym same)
            ∙ sym (words_aside s st told (words_of m0) (λ m' j w outcome there is peer reads. words_agree w outcome (ap (λ (z : Effect). z.kind) (made_same m' j) ∙ is) peer)) ∙ x.steps;
      }
        where
          made_same : (m' : Effect) → step s st told ≡ Some m' → m ≡ m'
          made_same m' j = let both : Some m ≡ Some m' = sym x.steps ∙ j in cc

    rest_turn : turn g r d ≡ after_step g r d m
    rest_turn =
        let ready = other_ready (SameAsked st) (option_or (session_step s st told) (job_step s st told)) (option_or (session_step s st (plain_look s c)) (job_step s st (plain_look s c))) m
        (sym (goes_on-by told) ∙ x.steps) (rest_alike names s st told None 0 false (λ peer. None)) in
        turn_by ready.0 (rest_plain ready.0 (goes_on-by (plain_look s c) ∙ ready.1) ready.2)

  turn_told : turn g r d ≡ after_step g r d m
  turn_told = go st.owed refl
    where
      go : (os : List OwedLine) → st.owed ≡ os → turn g r d ≡ after_step g r d m
      go [] e = rest_turn e
      go (o ∷ os) e = owed_turn o os e

-- ---- any look of the driver's for the step

look_path : (k l : Look) → k.time ≡ l.time → k.count ≡ l.count → k.at_hand ≡ l.at_hand → ((a : EndName) → k.room a ≡ l.room a) → k.fails ≡ l.fails → k.part ≡ l.part → k.right ≡ l.right
    → Path Look k (record l { words = k.words })
look_path k l time count hand room fails part right i =
    record { time = time i; count = count i; at_hand = hand i; room = λ a. room a i; fails = fails i; part = part i; right = right i; words = k.words }

module _ (g : DriverInput) (r : ℕ) (d : Driver) (m : Effect) (x : MakesStep g r d m) where
  abbrev own : Look
  own = look_told g (driver_at_turn g r d) r (set_up_of g d r) (state_at g d r) m

  -- the driver's own look, but with the words that were found
  abbrev near : Look
  near = record own { words = x.look.words }

  near_is : Path Look x.look near
  near_is = let y = x.is_look in look_path x.look own y.time_is y.count_is y.hand_is y.room_is y.fails_is y.part_is y.right_is

  near_steps : step (set_up_of g d r) (state_at g d r) near ≡ Some m
  near_steps = ap (λ (k : Look). step (set_up_of g d r) (state_at g d r) k) (sym near_is) ∙ x.steps

  is_told : IsTold g r d m
  is_told = record {
    steps = sym (words_aside (set_up_of g d r) (state_at g d r) near own.words (λ m' i. subst (λ (z : Effect). AgreeWhereRead (set_up_of g d r) (state_at g d r) z x.look.words own.words) (made_same m' i) x.is_look.words_are)) ∙ near_steps;
    fails = x.fails;
  }
    where
      made_same : (m' : Effect) → step (set_up_of g d r) (state_at g d r) near ≡ Some m' → m ≡ m'
      made_same m' i = let both : Some m ≡ Some m' = sym near_steps ∙ i in cc

  pub turn_found : NamedJobs → turn g r d ≡ after_step g r d m
  turn_found names = turn_told names g r d m is_told

-- where no step is ready
pub turn_idle : (g : DriverInput) (r : ℕ) (d : Driver) → step (set_up_of g d r) (state_at g d r) (plain_look (set_up_of g d r) (driver_at_turn g r d)) ≡ None → turn g r d ≡ driver_at_turn g r d
turn_idle g r d e = ap (λ (o : Option Effect). looks g r (set_up_of g d r) (state_at g d r) o (driver_at_turn g r d)) e
