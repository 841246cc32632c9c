-- What each repository keeps of its own store serves the merged entries.
use Rattle.std.proofs.Common.{◌≡◌, ◌⊎◌, ℕ, ◌+◌, ◌<◌, ◌≤◌, Bool, true, false, List, [], ◌∷◌, ◌++◌, Option, Some, None, inl, inr, refl, sym, ap, ◌∙◌, subst, append_assoc, append-nil, arith}
use Rattle.std.specs.Prelude.{cond, if◌then◌else◌, ◌==◌, ◌&&◌, filter, length, map, reverse, slice_get}
use Rattle.std.proofs.lemmas.Bool.{and_parts, eqb-true}
use Rattle.std.proofs.lemmas.List.{map-append}
use Rattle.std.proofs.lemmas.List.Elements.{filter-append}
use Rattle.annex_base.specs.Bools.{same_bool}
use Rattle.annex_base.specs.Lists.{Each, Member}
use Rattle.annex_base.specs.declared.kinds.Word.{Word}
use Rattle.annex_base.proofs.Conditions.{eqb_refl, same_bool_is, same_bool_refl}
use Rattle.annex_base.proofs.Functions.{funext}
use Rattle.annex_base.proofs.Lists.{filter_no, filter_yes, slice_get-left}
use Rattle.run_data.specs.declared.entry.Entry.{Entry}
use Rattle.run_data.specs.declared.entry.EntryKind.{EntryKind}
use Rattle.run_data.specs.declared.entry.EntryKind.TheVariants.{Begin, Close, Crash, Gain, Gone, Talk, Fault}
use Rattle.run_data.specs.declared.entry.FrameView.{FrameView}
use Rattle.run_data.specs.declared.entry.FrameText.{FrameText}
use Rattle.run_data.specs.declared.entry.FrameText.TheVariants.{Bytes, Line}
use Rattle.run_data.specs.declared.job.JobKind.{JobKind}
use Rattle.run_data.specs.declared.run.Run.{Run}
use Rattle.run_data.specs.declared.run.TreeMark.{TreeMark}
use Rattle.run_model.specs.Frames.{FlyingFrame, MayTake, Way, flying_frame, frames_sent, is_on, on_way, sender_of, taken_count, taker_of, takes, way_of}
use Rattle.run_model.specs.Past.{Always, begun_count, is_of}
use Rattle.run_model.specs.Run.{FramesPart, IsRun, MayBe, OwnPart, RunPast, RunStep, paths_at, paths_begun, repo_number, set_up}
use Rattle.run_model.specs.States.{state_of}
use Rattle.node_model.specs.AnyTime.{IsPeer, MayCome}
use Rattle.node_model.specs.Ends.{EndName}
use Rattle.node_model.specs.Jobs.{Work}
use Rattle.node_model.specs.Look.{Effect}
use Rattle.node_model.specs.Rows.{option_is}
use Rattle.node_model.specs.Sessions.{line_in, message_said}
use Rattle.node_model.specs.SetUp.{SetUp}
use Rattle.node_model.specs.Slots.{is_begin}
use Rattle.node_model.specs.State.{State}
use Rattle.node_model.specs.Step.{step}
use Rattle.growth_laws.specs.Merged.{AreFirstLetters, Letter, TakesNext, letter_of, letters, word_got}
use Rattle.past_facts.proofs.OwnRuns.{own_past}
use Rattle.step_facts.proofs.JobNumbers.{begins_next}
use Rattle.growth_laws.proofs.MergedOrder.{reverse_cons}
use Rattle.growth_laws.proofs.MergedRuns.{Reads, ReadsIts, is_own, take_own, words_are}
use Rattle.past_facts.proofs.OwnState.{state_own}
use Rattle.step_facts.proofs.Plain.{option_same}
use Rattle.growth_laws.proofs.PathsRead.{step_paths}
use Rattle.past_facts.proofs.Told.{taker_way}
use Rattle.step_facts.proofs.WorkNumbers.{number_begun}
use Rattle.driver_model.specs.Driver.{Driver, DriverInput, Flight, drops_part, flight, piece_of, set_up_of, state_at}
use Rattle.driver_model.specs.Sound.{ComesDown}
use Rattle.driver_model.specs.Turning.{asked_key, is_failure, is_valid, part_right, part_size, store_after, takes_frame, takes_into}
use Rattle.driver_model.specs.Ways.{Flies, InOrder, is_flight, way_out}
use Rattle.driver_model.proofs.EndLemmas.{out_sender-is, out_taker-is}
use Rattle.driver_model.proofs.Premises.{EntryLaws}
use Rattle.block_model.specs.Alone.{IsAlone, AreOwnDeeds, CameWhole, IsOwnDeed, IsOwnLine, IsOwnStep, after_own, after_owns, bytes_came, bytes_flying, piece_in, pieces_sent}
use Rattle.block_model.specs.Following.{IsOfLine, after_entries, after_entry, but_next, bytes_next, effect_of, is_of_line, stands}
use Rattle.block_model.specs.Merging.{AreAllServed, IsServed, IsToldStep}
use Rattle.block_model.proofs.FirstOnWay.{get_map}
use Rattle.block_model.proofs.FlightsGo.{bytes_on, came_on, down_on, flies_on, new_bytes, order_on, piece_alone}
use Rattle.block_model.proofs.Merges.{entry_past, entry_same, run_suffix}
use Rattle.block_model.proofs.OwnStores.{fails_alone, right_alone, size_alone, store_alone, store_other}

-- ---- the store leaves the frames

into_flights : (r : ℕ) (key bytes : List ℕ) (body : FrameText) (sent : List FrameView) (d : Driver) → (takes_into r key bytes body sent d).flights ≡ d.flights
into_flights r key bytes (Bytes n) [] d = refl
into_flights r key bytes (Line text) sent d = go (is_valid (line_in (Line text))) (is_failure (message_said sent))
  where
    go : (b c : Bool) → (if b then (if c then drops_part r key d else d) else d).flights ≡ d.flights
    go true true = refl
    go true false = refl
    go false c = refl
into_flights r key bytes body sent d = refl

frame_flights : (r : ℕ) (bytes : List ℕ) (key : Option (List ℕ)) (taken : Option FrameView) (sent : List FrameView) (d : Driver) → (takes_frame r bytes key taken sent d).flights ≡ d.flights
frame_flights r bytes (Some key) (Some f) sent d = into_flights r key bytes f.body sent d
frame_flights r bytes key taken sent d = refl

pub store_flights : (st : State) (r : ℕ) (m : Effect) (bytes : List ℕ) (kind : EntryKind) (d : Driver) → (store_after st r m bytes kind d).flights ≡ d.flights
store_flights st r m bytes (Gain by size key) d = refl
store_flights st r m bytes (Gone by key) d = refl
store_flights st r m bytes (Talk job) d = frame_flights r bytes (asked_key st m) m.taken m.sent d
store_flights st r m bytes (Fault call by) d = refl
store_flights st r m bytes kind d = refl

entry_flights : (g : DriverInput) (r : ℕ) (e : Entry) (d : Driver) → (after_entry g r e d).flights ≡ but_next r e.taken d.flights ++ map (flight d (state_at g d r) r) e.sent
entry_flights g r e d = store_flights (state_at g d r) r (effect_of e) (bytes_next r e.taken d.flights) e.kind (stands (state_at g d r) r e d)

-- ---- a past and what came behind it

pub begun_more : (r : ℕ) (more past : List Entry) → begun_count past r ≤ begun_count (more ++ past) r
begun_more r [] past = omega arith
begun_more r (e ∷ more) past = go (begun_more r more past) (is_of r e && is_begin e.kind)
  where
    go : begun_count past r ≤ begun_count (more ++ past) r → (b : Bool) → begun_count past r ≤ (if b then begun_count (more ++ past) r + 1 else begun_count (more ++ past) r)
    go i true = omega (arith, i)
    go i false = i

frames_more : (w : Way) (k : ℕ) (it : FlyingFrame) (more past : List Entry) → slice_get (frames_sent past w) k ≡ Some it → slice_get (frames_sent (more ++ past) w) k ≡ Some it
frames_more w k it [] past i = i
frames_more w k it (e ∷ more) past i = go (frames_more w k it more past i) (is_of (sender_of w) e)
  where
    go : slice_get (frames_sent (more ++ past) w) k ≡ Some it → (b : Bool)
        → slice_get (if b then frames_sent (more ++ past) w ++ map (flying_frame e (more ++ past)) (on_way w e) else frames_sent (more ++ past) w) k ≡ Some it
    go j true = slice_get-left (frames_sent (more ++ past) w) (map (flying_frame e (more ++ past)) (on_way w e)) k it j
    go j false = j

module _ (s : ℕ → SetUp) (past : List Entry) (e : Entry) (h : RunStep s past e) (r : ℕ) (who : e.repo ≡ Some r) where
  pub may_of : (words : ℕ → Option Word) × OwnPart (s r) past words e × FramesPart past r words e
  may_of = subst (λ (o : Option ℕ). MayBe s past e o) who h.may

-- the entry takes the next letter that came to r
abbrev pub Took : (ℕ → Way → List Letter) → ℕ → List Entry → Entry → Type 0
Took got r past e = (f : FrameView) → e.taken ≡ Some f → TakesNext (got r (way_of r f)) past (way_of r f) e f

module _ (laws : EntryLaws) (g : DriverInput) (tree : List TreeMark) (marks : List ℕ) (entries : List Entry) (run : IsRun (record { repos = g.repos; entries = entries; tree = tree; marks = marks }))
    (got : ℕ → Way → List Letter) (pieces : ℕ → Way → List (List ℕ))
    (came : (r : ℕ) (w : Way) → r < length g.repos → taker_of w ≡ r → AreFirstLetters (got r w) (reverse entries) w)
    (took : (r : ℕ) → r < length g.repos → Always (Took got r) (filter (is_of r) (reverse entries))) where
  abbrev whole : Run
  whole = record { repos = g.repos; entries = entries; tree = tree; marks = marks }

  abbrev s_of : ℕ → SetUp
  s_of r = set_up whole r

  -- ---- paths

  not_begun : (past : List Entry) (e : Entry) → RunStep (set_up whole) past e → (r j : ℕ) → e.repo ≡ Some r → j ≤ begun_count past r → (was : List (List ℕ)) (kind : EntryKind) → e.kind ≡ kind
      → paths_begun tree (length past) j was kind ≡ was
  not_begun past e h r j who few was (Begin job what) k =
      let x = may_of (set_up whole) past e h r who in
      let next : job ≡ begun_count past r + 1 = begins_next (s_of r) past x.0 e x.1 job what k in
      let other : (job == j) ≡ false = grind arith in
      rw other refl
  not_begun past e h r j who few was kind k = refl

  paths_kept : (more past : List Entry) → RunPast (set_up whole) (more ++ past) → (r j : ℕ) → j ≤ begun_count past r → paths_at tree (more ++ past) r j ≡ paths_at tree past r j
  paths_kept [] past h r j few = refl
  paths_kept (e ∷ more) past h r j few = go (paths_kept more past h.1 r j few) (is_of r e) refl
    where
      few' : j ≤ begun_count (more ++ past) r
      few' = let i = begun_more r more past in omega (arith, few, i)

      go : paths_at tree (more ++ past) r j ≡ paths_at tree past r j → (b : Bool) → is_of r e ≡ b → paths_at tree (e ∷ more ++ past) r j ≡ paths_at tree past r j
      go same true i = rw i (not_begun (more ++ past) e h.0 r j (option_same e.repo r i) few' (paths_at tree (more ++ past) r j) e.kind refl) ∙ same
      go same false i = rw i same

  -- ---- letters

  reads_one : (r : ℕ) → r < length g.repos → (more past : List Entry) (e : Entry) → reverse entries ≡ more ++ e ∷ past → RunStep (set_up whole) past e → e.repo ≡ Some r → Took got r (filter (is_of r) past) e
      → (f : FrameView) → e.taken ≡ Some f → Reads (got r) past r f
  reads_one r known more past e final h who t f i = record { it = m.it; letter = n.letter; next = m.next; from = n.next; same = same }
    where
      w : Way
      w = way_of r f

      m : MayTake past (way_of r f) f
      m = (may_of (set_up whole) past e h r who).2.takes f i

      n : TakesNext (got r (way_of r f)) (filter (is_of r) past) (way_of r f) e f
      n = t f i

      first : AreFirstLetters (got r (way_of r f)) (reverse entries) (way_of r f)
      first = came r (way_of r f) known (taker_way r f)

      sent : slice_get (letters (reverse entries) (way_of r f)) (taken_count past (way_of r f)) ≡ Some (letter_of m.it)
      sent = get_map letter_of (frames_sent (reverse entries) (way_of r f)) (taken_count past (way_of r f)) m.it
          (subst (λ zs. slice_get (frames_sent zs (way_of r f)) (taken_count past (way_of r f)) ≡ Some m.it) (append_assoc more (e ∷ []) past ∙ sym final) (frames_more (way_of r f) (taken_count past (way_of r f)) m.it (more ++ e ∷ []) past m.next))

      there : slice_get (letters (reverse entries) (way_of r f)) (taken_count past (way_of r f)) ≡ Some n.letter
      there = ap (slice_get (letters (reverse entries) (way_of r f))) (take_own r (way_of r f) (taker_way r f) past) ∙ ap (λ ls. slice_get ls (taken_count (filter (is_of r) past) (way_of r f))) first.is
          ∙ slice_get-left (got r (way_of r f)) first.rest (taken_count (filter (is_of r) past) (way_of r f)) n.letter n.next

      same : letter_of m.it ≡ n.letter
      same = let both : Some (letter_of m.it) ≡ Some n.letter = sym sent ∙ there in cc

  own_head : (r : ℕ) (past : List Entry) (e : Entry) → is_of r e ≡ true → Always (Took got r) (filter (is_of r) (e ∷ past)) → Took got r (filter (is_of r) past) e
  own_head r past e i a = (subst (Always (Took got r)) (filter_yes (is_of r) e past i) a).0

  own_tail : (r : ℕ) (past : List Entry) (e : Entry) → Always (Took got r) (filter (is_of r) (e ∷ past)) → Always (Took got r) (filter (is_of r) past)
  own_tail r past e a = go (is_of r e) refl
    where
      go : (b : Bool) → is_of r e ≡ b → Always (Took got r) (filter (is_of r) past)
      go true i = (subst (Always (Took got r)) (filter_yes (is_of r) e past i) a).1
      go false i = subst (Always (Took got r)) (filter_no (is_of r) e past i) a

  reads_all : (r : ℕ) → r < length g.repos → (past more : List Entry) → reverse entries ≡ more ++ past → RunPast (set_up whole) past → Always (Took got r) (filter (is_of r) past) → Always (ReadsIts (got r) r) past
  reads_all r known [] more final h a = tt
  reads_all r known (e ∷ past) more final h a = (
    (λ who f i. reads_one r known more past e final h.0 who (own_head r past e (is_own e r who) a) f i),
    reads_all r known past (more ++ e ∷ []) (final ∙ sym (append_assoc more (e ∷ []) past)) h.1 (own_tail r past e a),
  )

  took_before : (r : ℕ) (more past : List Entry) → Always (Took got r) (filter (is_of r) (more ++ past)) → Always (Took got r) (filter (is_of r) past)
  took_before r [] past a = a
  took_before r (e ∷ more) past a = took_before r more past (own_tail r (more ++ past) e a)

  -- ---- one entry

  module _ (d : Driver) (tree_is : d.tree ≡ tree) (more : List Entry) (final : reverse entries ≡ more ++ d.past) (p : ℕ) (known : p < length g.repos) (own : Driver) (x : IsAlone d p own) where
    steps : RunPast (set_up whole) (more ++ d.past)
    steps = subst (RunPast (set_up whole)) final run.steps

    before : RunPast (set_up whole) d.past
    before = run_suffix (set_up whole) more d.past steps

    pub states : state_of (set_up whole p) own.past ≡ state_of (set_up whole p) d.past
    states = ap (state_of (set_up whole p)) x.past ∙ sym (state_own (set_up whole p) d.past)

    same_paths : (w : Work) → Member w (state_of (set_up whole p) d.past).works → paths_at d.tree d.past p w.number ≡ (set_up whole p).paths w.number
    same_paths w m = ap (λ t. paths_at t d.past p w.number) tree_is
        ∙ sym (paths_kept more d.past steps p w.number (number_begun (set_up whole p) d.past (own_past whole run.repos p d.past before).run w m)) ∙ ap (λ zs. paths_at tree zs p w.number) (sym final)

    told_step : (e : Entry) → IsOwnStep g (set_up whole p) (got p) own e → IsToldStep g d p e
    told_step e y = record {
      look = y.look;
      made = y.made;
      makes = step_paths (set_up whole p) (state_of (set_up whole p) d.past) y.look (paths_at d.tree d.past p) same_paths ∙ subst (λ (st : State). step (set_up whole p) st y.look ≡ Some y.made) states y.makes;
      is = y.is;
      part_is = y.part_is ∙ size_alone d p own x (asked_key (state_of (set_up whole p) own.past) y.made) ∙ ap (λ st. part_size d p (asked_key st y.made)) states;
      right_is = y.right_is ∙ right_alone d p own x g (asked_key (state_of (set_up whole p) own.past) y.made) ∙ ap (λ st. part_right g d p (asked_key st y.made)) states;
      tells = λ j outcome k c. y.tells j outcome k c ∙ ap (λ zs. word_got (got p) zs p j c) x.past
          ∙ sym (words_are (got p) (set_up whole p) j c d.past (reads_all p known d.past more final before (took_before p more d.past (subst (λ zs. Always (Took got p) (filter (is_of p) zs)) final (took p known)))));
    }

    peer_same : (kind : JobKind) (peer : Option ℕ) → IsPeer (set_up whole p) kind peer → IsPeer (set_up_of g d p) kind peer
    peer_same kind None h = h
    peer_same kind (Some peer) h = h

    come_same : (st : State) (lines : List (List ℕ)) (sent : List FrameView) (kind : EntryKind) → is_of_line kind ≡ true → MayCome (set_up whole p) st lines sent kind → MayCome (set_up_of g d p) st lines sent kind
    come_same st lines sent (Begin job what) i h = let m = h.0 in (record { number_is = m.number_is; slot_free = m.slot_free; peer = peer_same what.kind what.peer m.peer; valid = m.valid }, h.1, h.2)
    come_same st lines sent (Close peer slot client) i h = h
    come_same st lines sent (Crash clock) i h = h
    come_same st lines sent kind i h = absurd (cc)

    of_line : (e : Entry) → IsOwnLine (set_up whole p) own e → IsOfLine g d p e
    of_line e y = record {
      kind = y.kind;
      comes = record {
        may = come_same (state_of (set_up whole p) d.past) e.lines e.sent e.kind y.kind (subst (λ (st : State). MayCome (set_up whole p) st e.lines e.sent e.kind) states y.comes.may);
        takes_none = y.comes.takes_none;
      };
    }

    pub served : (e : Entry) → e.repo ≡ Some p → IsOwnDeed g (set_up whole p) (got p) (pieces p) own e → IsServed g d e
    served e who y = record {
      r = p;
      repo_is = who;
      known = known;
      does = does y.does;
      answers = λ call by k. sym (fails_alone d p own x call) ∙ y.answers call by k;
    }
      where
        does : IsOwnStep g (set_up whole p) (got p) own e ⊎ IsOwnLine (set_up whole p) own e → IsToldStep g d p e ⊎ IsOfLine g d p e
        does (inl z) = inl (told_step e z)
        does (inr z) = inr (of_line e z)

  -- ---- all entries

  -- what holds between the driver, before these entries, and what each repository keeps alone
  pub record Joint (d : Driver) (es : List Entry) (locals : ℕ → Driver) : Type 0 where
    pub tree_is : d.tree ≡ tree
    pub final : reverse entries ≡ reverse es ++ d.past
    pub made : Each (λ e. (r : ℕ) × (e.repo ≡ Some r)) es
    pub alone : (r : ℕ) → IsAlone d r (locals r)
    pub deeds : (r : ℕ) → r < length g.repos → AreOwnDeeds g (set_up whole r) (got r) (pieces r) (locals r) (filter (is_of r) es)
    pub flies : (q : ℕ) (a : EndName) (n : ℕ) → Flies d.past d.flights q a n
    pub order : (q : ℕ) (a : EndName) (n : ℕ) → InOrder d.past q a n
    pub down : Each ComesDown d.flights
    pub queue : (q : ℕ) (a : EndName) (n : ℕ) → CameWhole (taken_count d.past (way_out q a n)) (pieces a.peer (way_out q a n)) (bytes_flying q a n d.flights)
        (pieces_sent (set_up whole q) (pieces q) (way_out q a n) (filter (is_of q) es) (locals q))

  module _ (d : Driver) (e : Entry) (es : List Entry) (locals : ℕ → Driver) (j : Joint d (e ∷ es) locals) where
    abbrev p : ℕ
    p = j.made.0.0

    who : e.repo ≡ Some j.made.0.0
    who = j.made.0.1

    turned : reverse entries ≡ (reverse es ++ e ∷ []) ++ d.past
    turned = j.final ∙ ap (λ zs. zs ++ d.past) (reverse_cons e es)

    placed : reverse entries ≡ reverse es ++ e ∷ d.past
    placed = turned ∙ append_assoc (reverse es) (e ∷ []) d.past

    here : RunPast (set_up whole) (e ∷ d.past)
    here = run_suffix (set_up whole) (reverse es) (e ∷ d.past) (subst (RunPast (set_up whole)) placed run.steps)

    part : (words : ℕ → Option Word) × OwnPart (set_up whole j.made.0.0) d.past words e × FramesPart d.past j.made.0.0 words e
    part = may_of (set_up whole) d.past e here.0 j.made.0.0 who

    known : j.made.0.0 < length g.repos
    known = part.1.known

    deed : IsOwnDeed g (set_up whole j.made.0.0) (got j.made.0.0) (pieces j.made.0.0) (locals j.made.0.0) e
    deed = (subst (AreOwnDeeds g (set_up whole j.made.0.0) (got j.made.0.0) (pieces j.made.0.0) (locals j.made.0.0)) (filter_yes (is_of j.made.0.0) e es (is_own e j.made.0.0 who)) (j.deeds j.made.0.0 known)).0

    is_served : IsServed g d e
    is_served = served d j.tree_is (reverse es ++ e ∷ []) turned j.made.0.0 known (locals j.made.0.0) (j.alone j.made.0.0) e who deed

    states_are : state_of (set_up whole j.made.0.0) (locals j.made.0.0).past ≡ state_of (set_up whole j.made.0.0) d.past
    states_are = states d j.tree_is (reverse es ++ e ∷ []) turned j.made.0.0 known (locals j.made.0.0) (j.alone j.made.0.0)

    -- ---- what comes

    counts : (w : Way) → taker_of w ≡ j.made.0.0 → taken_count (locals j.made.0.0).past w ≡ taken_count d.past w
    counts w i = ap (λ zs. taken_count zs w) (j.alone j.made.0.0).past ∙ sym (take_own j.made.0.0 w i d.past)

    few : (q : ℕ) (a : EndName) (n : ℕ) → (is_of (taker_of (way_out q a n)) e && takes (way_out q a n) e.taken) ≡ true → taken_count d.past (way_out q a n) < length (pieces a.peer (way_out q a n))
    few q a n h = go e.taken refl
      where
        two : (is_of (taker_of (way_out q a n)) e ≡ true) × (takes (way_out q a n) e.taken ≡ true)
        two = and_parts (is_of (taker_of (way_out q a n)) e) (takes (way_out q a n) e.taken) h

        taker : j.made.0.0 ≡ a.peer
        taker = eqb-true j.made.0.0 a.peer (ap (λ o. option_is o a.peer) (sym who) ∙ ap (λ k. is_of k e) (sym (out_taker-is q a n)) ∙ two.0)

        some : (f : FrameView) → e.taken ≡ Some f → takes (way_out q a n) (Some f) ≡ true → taken_count d.past (way_out q a n) < length (pieces a.peer (way_out q a n))
        some f i t =
            let on : is_on (way_out q a n) q f ≡ true = ap (λ k. is_on (way_out q a n) k f) (sym (out_sender-is q a n)) ∙ t in
            let one = and_parts (f.peer == q) ((f.slot == a.slot) && (same_bool f.up a.client && (f.epoch == n))) on in
            let three = and_parts (f.slot == a.slot) (same_bool f.up a.client && (f.epoch == n)) one.1 in
            let four = and_parts (same_bool f.up a.client) (f.epoch == n) three.1 in
            let w_is : way_of j.made.0.0 f ≡ way_out q a n = same_way f (eqb-true f.peer q one.0) (eqb-true f.slot a.slot three.0) (same_bool_is f.up a.client four.0) (eqb-true f.epoch n four.1) in
            let c = deed.came f i in
            let k = counts (way_of j.made.0.0 f) (taker_way j.made.0.0 f) in
            let c' : taken_count d.past (way_of j.made.0.0 f) < length (pieces j.made.0.0 (way_of j.made.0.0 f)) = subst (λ m. m < length (pieces j.made.0.0 (way_of j.made.0.0 f))) k c in
            subst (λ r. taken_count d.past (way_out q a n) < length (pieces r (way_out q a n))) taker (subst (λ w. taken_count d.past w < length (pieces j.made.0.0 w)) w_is c')
          where
            same_way : (f : FrameView) → f.peer ≡ q → f.slot ≡ a.slot → f.up ≡ a.client → f.epoch ≡ n → way_of j.made.0.0 f ≡ way_out q a n
            same_way f i k u m t = record { client = if u t then i t else taker t; server = if u t then taker t else i t; slot = k t; up = u t; epoch = m t }

        go : (o : Option FrameView) → e.taken ≡ o → taken_count d.past (way_out q a n) < length (pieces a.peer (way_out q a n))
        go None i = absurd (let no' : false ≡ true = ap (takes (way_out q a n)) (sym i) ∙ two.1 in cc)
        go (Some f) i = some f i (ap (takes (way_out q a n)) (sym i) ∙ two.1)

    bytes_are : bytes_came (pieces j.made.0.0) (locals j.made.0.0).past j.made.0.0 e.taken ≡ bytes_next j.made.0.0 e.taken d.flights
    bytes_are = go e.taken refl
      where
        go : (o : Option FrameView) → e.taken ≡ o → bytes_came (pieces j.made.0.0) (locals j.made.0.0).past j.made.0.0 e.taken ≡ bytes_next j.made.0.0 e.taken d.flights
        go None i = ap (bytes_came (pieces j.made.0.0) (locals j.made.0.0).past j.made.0.0) i ∙ sym (ap (λ o. bytes_next j.made.0.0 o d.flights) i)
        go (Some f) i =
            let a : EndName = record { peer = j.made.0.0; slot = f.slot; client = f.up } in
            let hit = hits f i in
            ap (bytes_came (pieces j.made.0.0) (locals j.made.0.0).past j.made.0.0) i
            ∙ ap (λ k. piece_in (slice_get (pieces j.made.0.0 (way_of j.made.0.0 f)) k)) (counts (way_of j.made.0.0 f) (taker_way j.made.0.0 f))
            ∙ sym (bytes_on laws (set_up whole j.made.0.0) d.past e who part.0 part.1 part.2.takes d.flights j.flies j.order j.down f.peer a f.epoch (pieces j.made.0.0 (way_of j.made.0.0 f))
            (pieces_sent (set_up whole f.peer) (pieces f.peer) (way_of j.made.0.0 f) (filter (is_of f.peer) (e ∷ es)) (locals f.peer)) hit (few f.peer a f.epoch hit) (j.queue f.peer a f.epoch))
          where
            hits : (f : FrameView) → e.taken ≡ Some f
                → (is_of (taker_of (way_out f.peer (record { peer = j.made.0.0; slot = f.slot; client = f.up }) f.epoch)) e && takes (way_out f.peer (record { peer = j.made.0.0; slot = f.slot; client = f.up }) f.epoch) e.taken) ≡ true
            hits f i =
                let w : Way = way_out f.peer (record { peer = j.made.0.0; slot = f.slot; client = f.up }) f.epoch in
                ap (λ o. is_of (taker_of w) e && takes w o) i ∙ ap (λ k. is_of k e && is_on w (sender_of w) f) (out_taker-is f.peer (record { peer = j.made.0.0; slot = f.slot; client = f.up }) f.epoch)
                ∙ ap (λ k. is_of j.made.0.0 e && is_on w k f) (out_sender-is f.peer (record { peer = j.made.0.0; slot = f.slot; client = f.up }) f.epoch)
                ∙ ap (λ b. b && is_on w f.peer f) (is_own e j.made.0.0 who) ∙ rw (eqb_refl f.peer, eqb_refl f.slot, same_bool_refl f.up, eqb_refl f.epoch) refl

    -- ---- afterwards

    abbrev after : Driver
    after = after_entry g j.made.0.0 e d

    abbrev next : ℕ → Driver
    next q = if is_of q e then after_own (set_up whole q) (pieces q) e (locals q) else locals q

    alone_own : IsAlone (after_entry g j.made.0.0 e d) j.made.0.0 (after_own (set_up whole j.made.0.0) (pieces j.made.0.0) e (locals j.made.0.0))
    alone_own = subst (IsAlone (after_entry g j.made.0.0 e d) j.made.0.0)
        (λ i. store_after (sym states_are i) j.made.0.0 (effect_of e) (sym bytes_are i) e.kind (record (locals j.made.0.0) { past = e ∷ (locals j.made.0.0).past }))
        (store_alone (stands (state_at g d j.made.0.0) j.made.0.0 e d) j.made.0.0 (record (locals j.made.0.0) { past = e ∷ (locals j.made.0.0).past }) grown (state_at g d j.made.0.0) (effect_of e) (bytes_next j.made.0.0 e.taken d.flights) e.kind)
      where
        grown : IsAlone (stands (state_at g d j.made.0.0) j.made.0.0 e d) j.made.0.0 (record (locals j.made.0.0) { past = e ∷ (locals j.made.0.0).past })
        grown = let x = j.alone j.made.0.0 in record { past = ap (λ zs. e ∷ zs) x.past ∙ sym (filter_yes (is_of j.made.0.0) e d.past (is_own e j.made.0.0 who)); fails = x.fails; contents = x.contents; parts = x.parts }

    alone_other : (r : ℕ) → is_of r e ≡ false → IsAlone (after_entry g j.made.0.0 e d) r (locals r)
    alone_other r i = store_other (stands (state_at g d j.made.0.0) j.made.0.0 e d) r j.made.0.0 apart (locals r) kept (state_at g d j.made.0.0) (effect_of e) (bytes_next j.made.0.0 e.taken d.flights) e.kind
      where
        apart : r ≡ j.made.0.0 → ⊥
        apart k = let no' : true ≡ false = sym (is_own e j.made.0.0 who) ∙ ap (λ m. is_of m e) (sym k) ∙ i in cc

        kept : IsAlone (stands (state_at g d j.made.0.0) j.made.0.0 e d) r (locals r)
        kept = let x = j.alone r in record { past = x.past ∙ sym (filter_no (is_of r) e d.past i); fails = x.fails; contents = x.contents; parts = x.parts }

    is_maker : (r : ℕ) → is_of r e ≡ true → j.made.0.0 ≡ r
    is_maker r i = eqb-true j.made.0.0 r (ap (λ o. option_is o r) (sym who) ∙ i)

    alone_next : (r : ℕ) → IsAlone (after_entry g j.made.0.0 e d) r (next r)
    alone_next r = go (is_of r e) refl
      where
        go : (b : Bool) → is_of r e ≡ b → IsAlone (after_entry g j.made.0.0 e d) r (if b then after_own (set_up whole r) (pieces r) e (locals r) else locals r)
        go true i = subst (λ k. IsAlone (after_entry g j.made.0.0 e d) k (after_own (set_up whole k) (pieces k) e (locals k))) (is_maker r i) alone_own
        go false i = alone_other r i

    deeds_next : (r : ℕ) → r < length g.repos → AreOwnDeeds g (set_up whole r) (got r) (pieces r) (next r) (filter (is_of r) es)
    deeds_next r l = go (is_of r e) (j.deeds r l)
      where
        go : (b : Bool) → AreOwnDeeds g (set_up whole r) (got r) (pieces r) (locals r) (cond b (e ∷ filter (is_of r) es) (filter (is_of r) es))
            → AreOwnDeeds g (set_up whole r) (got r) (pieces r) (if b then after_own (set_up whole r) (pieces r) e (locals r) else locals r) (filter (is_of r) es)
        go true h = h.1
        go false h = h

    queue_next : (q : ℕ) (a : EndName) (n : ℕ) → CameWhole (taken_count (e ∷ d.past) (way_out q a n)) (pieces a.peer (way_out q a n))
        (bytes_flying q a n (but_next j.made.0.0 e.taken d.flights ++ map (flight d (state_at g d j.made.0.0) j.made.0.0) e.sent))
        (pieces_sent (set_up whole q) (pieces q) (way_out q a n) (filter (is_of q) es) (next q))
    queue_next q a n = go (is_of q e) refl (j.queue q a n)
      where
        w : Way
        w = way_out q a n

        new : List Flight
        new = map (flight d (state_at g d j.made.0.0) j.made.0.0) e.sent

        sent_bytes : bytes_flying q a n (map (flight d (state_at g d j.made.0.0) j.made.0.0) e.sent)
            ≡ (if j.made.0.0 == q then map (λ f. piece_of d (state_at g d j.made.0.0) j.made.0.0 f f.body) (filter (is_on (way_out q a n) a.peer) e.sent) else [])
        sent_bytes = new_bytes laws (set_up whole j.made.0.0) d.past e who part.0 part.1 part.2.takes d.flights j.flies j.order j.down q a n d (state_at g d j.made.0.0) e.sent

        both : bytes_flying q a n (but_next j.made.0.0 e.taken d.flights ++ map (flight d (state_at g d j.made.0.0) j.made.0.0) e.sent)
            ≡ bytes_flying q a n (but_next j.made.0.0 e.taken d.flights) ++ bytes_flying q a n (map (flight d (state_at g d j.made.0.0) j.made.0.0) e.sent)
        both = ap (map (λ (x : Flight). x.bytes)) (filter-append (is_flight q a n) (but_next j.made.0.0 e.taken d.flights) new)
            ∙ map-append (λ (x : Flight). x.bytes) (filter (is_flight q a n) (but_next j.made.0.0 e.taken d.flights)) (filter (is_flight q a n) new)

        came_so : (sent : List (List ℕ)) → CameWhole (taken_count d.past (way_out q a n)) (pieces a.peer (way_out q a n)) (bytes_flying q a n d.flights) sent
            → CameWhole (taken_count (e ∷ d.past) (way_out q a n)) (pieces a.peer (way_out q a n)) (bytes_flying q a n (but_next j.made.0.0 e.taken d.flights)) sent
        came_so sent x = came_on laws (set_up whole j.made.0.0) d.past e who part.0 part.1 part.2.takes d.flights j.flies j.order j.down q a n (pieces a.peer (way_out q a n)) sent (few q a n) x

        -- what it sends there, as it knows it alone
        own_bytes : j.made.0.0 ≡ q → map (λ f. piece_of (locals q) (state_of (set_up whole q) (locals q).past) q f f.body) (on_way (way_out q a n) e)
            ≡ map (λ f. piece_of d (state_at g d j.made.0.0) j.made.0.0 f f.body) (filter (is_on (way_out q a n) a.peer) e.sent)
        own_bytes i = subst (λ k. map (λ f. piece_of (locals k) (state_of (set_up whole k) (locals k).past) k f f.body) (on_way (way_out q a n) e)
            ≡ map (λ f. piece_of d (state_at g d j.made.0.0) j.made.0.0 f f.body) (filter (is_on (way_out q a n) a.peer) e.sent)) i
            (ap (λ h. map h (on_way (way_out q a n) e)) (funext _ _ (λ f. piece_alone d j.made.0.0 (locals j.made.0.0) (j.alone j.made.0.0) (state_of (set_up whole j.made.0.0) (locals j.made.0.0).past) f f.body
            ∙ ap (λ st. piece_of d st j.made.0.0 f f.body) states_are))
            ∙ ap (λ k. map (λ f. piece_of d (state_at g d j.made.0.0) j.made.0.0 f f.body) (filter (is_on (way_out q a n) k) e.sent)) (out_taker-is q a n))

        go : (b : Bool) → is_of q e ≡ b
            → CameWhole (taken_count d.past (way_out q a n)) (pieces a.peer (way_out q a n)) (bytes_flying q a n d.flights) (pieces_sent (set_up whole q) (pieces q) (way_out q a n) (cond b (e ∷ filter (is_of q) es) (filter (is_of q) es)) (locals q))
            → CameWhole (taken_count (e ∷ d.past) (way_out q a n)) (pieces a.peer (way_out q a n)) (bytes_flying q a n (but_next j.made.0.0 e.taken d.flights ++ map (flight d (state_at g d j.made.0.0) j.made.0.0) e.sent))
            (pieces_sent (set_up whole q) (pieces q) (way_out q a n) (filter (is_of q) es) (if b then after_own (set_up whole q) (pieces q) e (locals q) else locals q))
        go true i x =
            let y = came_so _ x in
            let later = pieces_sent (set_up whole q) (pieces q) (way_out q a n) (filter (is_of q) es) (after_own (set_up whole q) (pieces q) e (locals q)) in
            let mine : List (List ℕ) = map (λ f. piece_of (locals q) (state_of (set_up whole q) (locals q).past) q f f.body) (on_way (way_out q a n) e) in
            let maker = is_maker q i in
            let new_is : bytes_flying q a n new ≡ mine = sent_bytes ∙ rw (subst (λ k. (j.made.0.0 == k) ≡ true) maker (eqb_refl j.made.0.0)) (sym (own_bytes maker)) in
            record {
              more = y.more;
              is = ap (λ zs. zs ++ later) (both ∙ ap (λ zs. bytes_flying q a n (but_next j.made.0.0 e.taken d.flights) ++ zs) new_is)
                  ∙ append_assoc (bytes_flying q a n (but_next j.made.0.0 e.taken d.flights)) mine later ∙ y.is;
            }
        go false i x =
            let y = came_so _ x in
            let other : (j.made.0.0 == q) ≡ false = ap (λ o. option_is o q) (sym who) ∙ i in
            let new_is : bytes_flying q a n new ≡ [] = sent_bytes ∙ rw other refl in
            record {
              more = y.more;
              is = ap (λ zs. zs ++ pieces_sent (set_up whole q) (pieces q) (way_out q a n) (filter (is_of q) es) (locals q))
                  (both ∙ ap (λ zs. bytes_flying q a n (but_next j.made.0.0 e.taken d.flights) ++ zs) new_is ∙ append-nil (bytes_flying q a n (but_next j.made.0.0 e.taken d.flights))) ∙ y.is;
            }

    joint_next : Joint (after_entry g j.made.0.0 e d) es next
    joint_next = record {
      tree_is = (entry_same g j.made.0.0 e d).0 ∙ j.tree_is;
      final = placed ∙ ap (λ zs. reverse es ++ zs) (sym past_is);
      made = j.made.1;
      alone = alone_next;
      deeds = deeds_next;
      flies = λ q a n. moved_to (λ past xs. Flies past xs q a n) (flies_on laws (set_up whole j.made.0.0) d.past e who part.0 part.1 part.2.takes d.flights j.flies j.order j.down d (state_at g d j.made.0.0) q a n);
      order = λ q a n. moved_to (λ past xs. InOrder past q a n) (order_on laws (set_up whole j.made.0.0) d.past e who part.0 part.1 part.2.takes d.flights j.flies j.order j.down q a n);
      down = moved_to (λ past xs. Each ComesDown xs) (down_on laws (set_up whole j.made.0.0) d.past e who part.0 part.1 part.2.takes d.flights j.flies j.order j.down d (state_at g d j.made.0.0));
      queue = λ q a n. moved_to (λ past xs. CameWhole (taken_count past (way_out q a n)) (pieces a.peer (way_out q a n)) (bytes_flying q a n xs) (pieces_sent (set_up whole q) (pieces q) (way_out q a n) (filter (is_of q) es) (next q))) (queue_next q a n);
    }
      where
        past_is : (after_entry g j.made.0.0 e d).past ≡ e ∷ d.past
        past_is = entry_past g j.made.0.0 e d

        moved_to : (P : List Entry → List Flight → Type 0) → P (e ∷ d.past) (but_next j.made.0.0 e.taken d.flights ++ map (flight d (state_at g d j.made.0.0) j.made.0.0) e.sent)
            → P (after_entry g j.made.0.0 e d).past (after_entry g j.made.0.0 e d).flights
        moved_to P h = subst (λ zs. P zs (after_entry g j.made.0.0 e d).flights) (sym past_is) (subst (P (e ∷ d.past)) (sym (entry_flights g j.made.0.0 e d)) h)

  pub serve : (es : List Entry) (d : Driver) (locals : ℕ → Driver) → Joint d es locals → AreAllServed g d es
  serve [] d locals j = tt
  serve (e ∷ es) d locals j = (is_served d e es locals j, subst (λ (o : Option ℕ). AreAllServed g (after_entry g (repo_number o) e d) es) (sym (who d e es locals j)) (serve es (after_entry g j.made.0.0 e d) (next d e es locals j) (joint_next d e es locals j)))

  -- what each keeps alone at the end is what the driver says of it
  pub end_alone : (es : List Entry) (d : Driver) (locals : ℕ → Driver) → Joint d es locals → (r : ℕ) → IsAlone (after_entries g es d) r (after_owns (set_up whole r) (pieces r) (filter (is_of r) es) (locals r))
  end_alone [] d locals j r = j.alone r
  end_alone (e ∷ es) d locals j r = subst (λ (o : Option ℕ). IsAlone (after_entries g es (after_entry g (repo_number o) e d)) r (after_owns (set_up whole r) (pieces r) (filter (is_of r) (e ∷ es)) (locals r))) (sym (who d e es locals j))
      (go (is_of r e) (end_alone es (after_entry g j.made.0.0 e d) (next d e es locals j) (joint_next d e es locals j) r))
    where
      go : (b : Bool) → IsAlone (after_entries g es (after_entry g j.made.0.0 e d)) r (after_owns (set_up whole r) (pieces r) (filter (is_of r) es) (if b then after_own (set_up whole r) (pieces r) e (locals r) else locals r))
          → IsAlone (after_entries g es (after_entry g j.made.0.0 e d)) r (after_owns (set_up whole r) (pieces r) (cond b (e ∷ filter (is_of r) es) (filter (is_of r) es)) (locals r))
      go true x = x
      go false x = x
