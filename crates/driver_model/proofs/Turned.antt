-- A turn of the driver keeps what holds: its entry is a step, and takes a frame that may be taken.
use Rattle.annex_base.proofs.Conditions.{eqb_refl}
use Rattle.annex_base.specs.Calls.{same_call, call_number}
use Rattle.std.specs.List.{list_any}
use Rattle.std.proofs.Common.{◌≡◌, ℕ, ◌^◌, ◌<◌, ◌≤◌, Bool, true, false, List, [], ◌∷◌, ◌++◌, Option, Some, None, ◌⊎◌, inl, inr, refl, sym, ap, ◌∙◌, subst, arith}
use Rattle.std.specs.Prelude.{cond, if◌then◌else◌, not, filter, find, flat_map, length, max}
use Rattle.std.specs.Option.{option_map, option_to_list}
use Rattle.std.proofs.Math.Nat.{le-max_left, le-max_right}
use Rattle.annex_base.specs.Lists.{Each, Member}
use Rattle.annex_base.specs.declared.kinds.Call.{Call}
use Rattle.annex_base.specs.declared.kinds.Word.{Word}
use Rattle.annex_base.proofs.Lists.{list_any_member, Each-filter, Member-append_cases, find_member}
use Rattle.run_data.specs.declared.entry.EntryKind.{EntryKind}
use Rattle.run_data.specs.declared.entry.EntryKind.TheVariants.{Gain, Gone, Talk, Fault, End as ends_job}
use Rattle.run_data.specs.declared.entry.FrameView.{FrameView}
use Rattle.run_data.specs.declared.entry.FrameText.{FrameText}
use Rattle.run_data.specs.declared.entry.FrameText.TheVariants.{Bytes, Line}
use Rattle.run_data.specs.declared.job.Outcome.{Outcome}
use Rattle.node_model.specs.SetUp.{SetUp}
use Rattle.node_model.specs.Ends.{EndName, takes_at}
use Rattle.node_model.specs.Sessions.{line_in, message_said}
use Rattle.node_model.specs.State.{State}
use Rattle.node_model.specs.Look.{failing_call, failed_in, Look, Effect, entry_of}
use Rattle.node_model.specs.Step.{step}
use Rattle.node_model.specs.AnyTime.{all_ends}
use Rattle.run_model.specs.Words.{word_told}
use Rattle.driver_model.proofs.EndLemmas.{takes_end}
use Rattle.driver_model.proofs.Premises.{Laws}
use Rattle.driver_model.specs.Scripts.{HasBoundedPast}
use Rattle.driver_model.specs.Sound.{ComesDown, GoesToOther, IsOfOpening, IsSound}
use Rattle.driver_model.specs.Stores.{StoredBytes, bytes_in, is_stored, stored_bytes}
use Rattle.driver_model.specs.Driver.{Driver, DriverInput, adds, answers, without_old_flights, commits, drops_part, end_to, fails_at, frames_to, old_at, part_at, puts_part, removes_content, set_up_of, state_at}
use Rattle.driver_model.specs.Turning.{asked_key, bytes_taken, calm_look, made_calls, is_failure, is_valid, look_for, looks, makes, part_right, part_size, plain_look, steps, store_after, takes_frame, takes_into, told_words, turn}
use Rattle.driver_model.proofs.InTurn.{turn_filter}
use Rattle.driver_model.proofs.InFlight.{first_found, flies_cleared}
use Rattle.driver_model.proofs.Holding.{Keeps, NewEntry, keeps_adds}

-- ---- contents and parts

abbrev Small : ℕ → StoredBytes → Type 0
Small n x = length x.bytes ≤ n

each_larger : (m n : ℕ) (xs : List StoredBytes) → m ≤ n → Each (Small m) xs → Each (Small n) xs
each_larger m n [] i a = tt
each_larger m n (x ∷ xs) i a = let j = a.0 in (omega (arith, i, j), each_larger m n xs i a.1)

module _ (g : DriverInput) (d : Driver) where
  pub keeps_commits : (r : ℕ) (key : List ℕ) → Keeps g d → Keeps g (commits r key d)
  keeps_commits r key k fits = let h = k fits in record { run = h.run; flies = h.flies; order = h.order; down = h.down; apart = h.apart; openings = h.openings; turn = h.turn; parts = Each-filter (Small d.largest) (λ x. not (is_stored r key x)) d.parts h.parts; keys = h.keys }

  pub keeps_removes : (r : ℕ) (key : List ℕ) → Keeps g d → Keeps g (removes_content r key d)
  keeps_removes r key k fits = let h = k fits in record { run = h.run; flies = h.flies; order = h.order; down = h.down; apart = h.apart; openings = h.openings; turn = h.turn; parts = h.parts; keys = h.keys }

  pub keeps_drops : (r : ℕ) (key : List ℕ) → Keeps g d → Keeps g (drops_part r key d)
  keeps_drops r key k fits = let h = k fits in record { run = h.run; flies = h.flies; order = h.order; down = h.down; apart = h.apart; openings = h.openings; turn = h.turn; parts = Each-filter (Small d.largest) (λ x. not (is_stored r key x)) d.parts h.parts; keys = h.keys }

  pub keeps_answers : (r : ℕ) (call : Call) → Keeps g d → Keeps g (answers r call d)
  keeps_answers r call k fits = let h = k fits in record { run = h.run; flies = h.flies; order = h.order; down = h.down; apart = h.apart; openings = h.openings; turn = h.turn; parts = h.parts; keys = h.keys }

  pub keeps_puts : (r : ℕ) (key bytes : List ℕ) → Keeps g d → Keeps g (puts_part r key bytes d)
  keeps_puts r key bytes k fits =
      let more = le-max_left d.largest (length bytes) in
      let small = fits.1 in
      let h = k (fits.0, omega (arith, more, small)) in
      record {
        run = h.run;
        flies = h.flies;
        order = h.order;
        down = h.down;
        apart = h.apart;
        openings = h.openings;
        turn = h.turn;
        parts = (le-max_right d.largest (length bytes), each_larger d.largest (max d.largest (length bytes)) (filter (λ x. not (is_stored r key x)) d.parts) more (Each-filter (Small d.largest) (λ x. not (is_stored r key x)) d.parts h.parts));
        keys = h.keys;
      }

  pub keeps_cleared : (r : ℕ) → Keeps g d → Keeps g (without_old_flights (state_at g d r) r d)
  keeps_cleared r k fits =
      let h = k fits in
      record {
        run = h.run;
        flies = λ q a n. flies_cleared d.past (state_at g d r) r d.flights q a n (λ b. refl) (h.flies q a n);
        order = h.order;
        down = Each-filter ComesDown (λ x. not (old_at (state_at g d r) r x)) d.flights h.down;
        apart = Each-filter GoesToOther (λ x. not (old_at (state_at g d r) r x)) d.flights h.apart;
        openings = Each-filter (IsOfOpening d.past) (λ x. not (old_at (state_at g d r) r x)) d.flights h.openings;
        turn = turn_filter (λ x. not (old_at (state_at g d r) r x)) d.flights h.turn;
        parts = h.parts;
        keys = h.keys;
      }

  keeps_into : (r : ℕ) (key bytes : List ℕ) (body : FrameText) (sent : List FrameView) → Keeps g d → Keeps g (takes_into r key bytes body sent d)
  keeps_into r key bytes (Bytes n) [] k = keeps_puts r key (part_at d r key ++ bytes) k
  keeps_into r key bytes (Line text) sent k = go (is_valid (line_in (Line text))) (is_failure (message_said sent))
    where
      go : (b c : Bool) → Keeps g (if b then (if c then drops_part r key d else d) else d)
      go true true = keeps_drops r key k
      go true false = k
      go false c = k
  keeps_into r key bytes body sent k = k

  keeps_frame : (r : ℕ) (bytes : List ℕ) (key : Option (List ℕ)) (taken : Option FrameView) (sent : List FrameView) → Keeps g d → Keeps g (takes_frame r bytes key taken sent d)
  keeps_frame r bytes (Some key) (Some f) sent k = keeps_into r key bytes f.body sent k
  keeps_frame r bytes key taken sent k = k

  pub keeps_store : (st : State) (r : ℕ) (m : Effect) (bytes : List ℕ) (kind : EntryKind) → Keeps g d → Keeps g (store_after st r m bytes kind d)
  keeps_store st r m bytes (Gain by size key) k = keeps_commits r key k
  keeps_store st r m bytes (Gone by key) k = keeps_removes r key k
  keeps_store st r m bytes (Talk job) k = keeps_frame r bytes (asked_key st m) m.taken m.sent k
  keeps_store st r m bytes (Fault call by) k = keeps_answers r call k
  keeps_store st r m bytes kind k = k

-- ---- what is at hand is first

listed : {X : Type 0} (o : Option X) (x : X) → Member x (option_to_list o) → o ≡ Some x
listed None x m = absurd m
listed (Some y) x (inl i) = ap Some (sym i)
listed (Some y) x (inr m) = absurd m

hand_first : (fs : List FrameView) (ends : List EndName) (f : FrameView) → Member f (flat_map (λ a. option_to_list (find (takes_at a) fs)) ends) → find (takes_at (end_to f)) fs ≡ Some f
hand_first fs [] f m = absurd m
hand_first fs (a ∷ ends) f m = go (hand_first fs ends f) (Member-append_cases (option_to_list (find (takes_at a) fs)) (flat_map (λ a. option_to_list (find (takes_at a) fs)) ends) f m)
  where
    go : (Member f (flat_map (λ a. option_to_list (find (takes_at a) fs)) ends) → find (takes_at (end_to f)) fs ≡ Some f)
        → Member f (option_to_list (find (takes_at a) fs)) ⊎ Member f (flat_map (λ a. option_to_list (find (takes_at a) fs)) ends) → find (takes_at (end_to f)) fs ≡ Some f
    go more (inr n) = more n
    go more (inl n) =
        let is = listed (find (takes_at a) fs) f n in
        subst (λ (b : EndName). find (takes_at b) fs ≡ Some f) (sym (takes_end a f (find_member (takes_at a) fs f is).1)) is

-- ---- parts are small

part_in : (r : ℕ) (key : List ℕ) (n : ℕ) (xs : List StoredBytes) → Each (Small n) xs → length (stored_bytes xs r key) ≤ n
part_in r key n [] a = omega arith
part_in r key n (x ∷ xs) a = go (part_in r key n xs a.1) (is_stored r key x)
  where
    go : length (stored_bytes xs r key) ≤ n → (b : Bool) → length (bytes_in (cond b (Some x) (find (is_stored r key) xs))) ≤ n
    go more true = a.0
    go more false = more

size_small : (g : DriverInput) (d : Driver) (r : ℕ) (o : Option (List ℕ)) → IsSound g d → HasBoundedPast d → part_size d r o < 2 ^ 62
size_small g d r None h fits = omega arith
size_small g d r (Some key) h fits = let i = part_in r key d.largest d.parts h.parts in let j = fits.1 in omega (arith, i, j)

-- ---- the turn

-- two looks that differ in the part and the words alone end the same job
abbrev pub EndsAlike : Type 0
EndsAlike = (s : SetUp) (st : State) (k : Look) (part : ℕ) (right : Bool) (words : ℕ → Option Word) (m m' : Effect) (j : ℕ) (outcome : Outcome) → k.fails ≡ None
    → step s st k ≡ Some m → step s st (record k { part = part; right = right; words = words }) ≡ Some m' → m'.kind ≡ ends_job j outcome → (o : Outcome) × (m.kind ≡ ends_job j o)

module _ (laws : Laws) (alike : EndsAlike) (g : DriverInput) (r : ℕ) (known : r < length g.repos) (d : Driver) where
  abbrev s : SetUp
  s = set_up_of g d r

  abbrev st : State
  st = state_at g d r

  -- a step that ends a job met no failing call
  calm : (m m' : Effect) (o : Option Call) → find (fails_at d r) (made_calls (step s st (calm_look g d r s st m))) ≡ o → step s st (record (calm_look g d r s st m) { fails = o }) ≡ Some m'
      → (j : ℕ) (outcome : Outcome) → m'.kind ≡ ends_job j outcome → step s st (calm_look g d r s st m) ≡ Some m'
  calm m m' None i e j outcome is = e
  calm m m' (Some call) i e j outcome is =
      let k = calm_look g d r s st m in
      let same : made_calls (step s st k) ≡ m'.calls = calls_in (step s st k) m'.calls (sym (laws.names.calls.same s st k (Some call)) ∙ ap (option_map (λ (z : Effect). z.calls)) e) in
      let hit = find_member (fails_at d r) (made_calls (step s st k)) call i in
      let among : list_any (same_call call) m'.calls ≡ true = list_any_member (same_call call) m'.calls call (subst (Member call) same hit.0) (eqb_refl (call_number call)) in
      let told : failed_in m'.kind ≡ failing_call (Some call) m'.calls = laws.names.calls.fails s st (record k { fails = Some call }) m' e in
      let failed : failed_in m'.kind ≡ Some call = told ∙ ap (λ (b : Bool). if b then Some call else None) among in
      absurd (let no' : None ≡ Some call = sym (ap failed_in is) ∙ failed in cc)
    where
      calls_in : (o : Option Effect) (cs : List Call) → option_map (λ (z : Effect). z.calls) o ≡ Some cs → made_calls o ≡ cs
      calls_in None cs h = absurd (cc)
      calls_in (Some z) cs h = cc

  pub words_told : (m m' : Effect) → step s st (plain_look s d) ≡ Some m → step s st (look_for g d r s st m) ≡ Some m'
      → (j : ℕ) (outcome : Outcome) → m'.kind ≡ ends_job j outcome → (c : ℕ) → told_words d.past r m.kind c ≡ word_told d.past r j c
  words_told m m' plain e j outcome is c =
      let quiet = calm m m' (find (fails_at d r) (made_calls (step s st (calm_look g d r s st m)))) refl e j outcome is in
      let same = alike s st (plain_look s d) (part_size d r (asked_key st m)) (part_right g d r (asked_key st m)) (told_words d.past r m.kind) m m' j outcome refl plain quiet is in
      ap (λ kind. told_words d.past r kind c) same.1

  pub new_entry : (m m' : Effect) → step s st (plain_look s d) ≡ Some m → step s st (look_for g d r s st m) ≡ Some m' → IsSound g d → HasBoundedPast d → NewEntry g d r (entry_of r (look_for g d r s st m) m')
  new_entry m m' plain e h fits = record {
    words = told_words d.past r m.kind;
    repo_is = refl;
    time_is = refl;
    count_is = refl;
    own = record { known = known; does = inl (record { look = look_for g d r s st m; made = m'; makes = e; is = refl; words_are = refl; part_small = size_small g d r (asked_key st m) h fits }) };
    first = λ f i. first_found r f d.flights (hand_first (frames_to r d.flights) (all_ends s) f (laws.at_hand s st (look_for g d r s st m) m' f e i));
    tells = words_told m m' plain e;
  }

  keeps_makes : (m : Effect) → step s st (plain_look s d) ≡ Some m → (o : Option Effect) → step s st (look_for g d r s st m) ≡ o → Keeps g d → Keeps g (makes st r (look_for g d r s st m) o d)
  keeps_makes m plain None e k = k
  keeps_makes m plain (Some m') e k =
      keeps_store g (adds st r (entry_of r (look_for g d r s st m) m') d) st r m' (bytes_taken r m'.taken d) m'.kind
      (keeps_adds laws g d r st (entry_of r (look_for g d r s st m) m') k (λ h fits fit. new_entry m m' plain e h fits))

  keeps_looks : (o : Option Effect) → step s st (plain_look s d) ≡ o → Keeps g d → Keeps g (looks g r s st o d)
  keeps_looks None e k = k
  keeps_looks (Some m) e k = keeps_makes m e (step s st (look_for g d r s st m)) refl k

  pub keeps_steps : Keeps g d → Keeps g (steps g r s st d)
  keeps_steps k = keeps_looks (step s st (plain_look s d)) refl k

-- a turn
pub keeps_turn : Laws → EndsAlike → (g : DriverInput) (r : ℕ) → r < length g.repos → (d : Driver) → Keeps g d → Keeps g (turn g r d)
keeps_turn laws alike g r known d k = keeps_steps laws alike g r known (without_old_flights (state_at g d r) r d) (keeps_cleared g d r k)
