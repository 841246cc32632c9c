-- A fleet whose node made a turn has come to where the driver is after its own.
use Rattle.std.proofs.Common.{◌≡◌, ◌≢◌, ℕ, ◌<◌, ◌≤◌, ◌^◌, Bool, true, false, List, [], ◌∷◌, Option, Some, None, length, map, inl, inr, refl, sym, ap, ◌∙◌, subst}
use Rattle.std.specs.Prelude.{◌==◌, find, flat_map, is_some, reverse, slice_get}
use Rattle.std.proofs.lemmas.List.{reverse-append}
use Rattle.std.proofs.lemmas.Option.{same_Some}
use Rattle.std.specs.Option.{ForSome, option_map, option_to_list}
use Rattle.std.proofs.lemmas.Bool.{eqb-false, eqb-true}
use Rattle.annex_base.specs.Lists.{Each, Member}
use Rattle.annex_base.proofs.Lists.{Each-weaker, Member-filter_parts}
use Rattle.annex_base.specs.declared.kinds.EntryStamp.{EntryStamp}
use Rattle.annex_base.specs.declared.kinds.Word.{Word}
use Rattle.annex_base.proofs.Conditions.{eqb_refl}
use Rattle.link_ring.specs.Ends.{EndView, after_drop, fresh}
use Rattle.object_store.specs.Stores.{AreSmallParts, Contents, Parts}
use Rattle.run_data.specs.declared.entry.Entry.{Entry}
use Rattle.run_data.specs.declared.entry.EntryKind.{EntryKind}
use Rattle.run_data.specs.declared.entry.EntryKind.TheVariants as kinds
use Rattle.run_data.specs.declared.entry.FrameText.TheVariants as texts
use Rattle.run_data.specs.declared.entry.FrameView.{FrameView}
use Rattle.run_data.specs.declared.job.Outcome.{Outcome}
use Rattle.run_model.specs.Past.{is_of}
use Rattle.run_model.specs.Run.{IsSmall}
use Rattle.run_model.specs.States as runs
use Rattle.run_model.specs.States.{works}
use Rattle.node_model.specs.After.{AgreesAtDrops, states}
use Rattle.node_model.specs.AnyTime.{all_ends}
use Rattle.node_model.specs.Ends.{EndName, sends_at, sent_at, taken_at}
use Rattle.node_model.specs.Jobs.{Work}
use Rattle.node_model.specs.Look.{Look, Effect, entry_of}
use Rattle.node_model.specs.Sessions.{Session}
use Rattle.node_model.specs.SetUp.{SetUp}
use Rattle.node_model.specs.State.{State}
use Rattle.node_model.specs.Step.{step}
use Rattle.node_ends.specs.declared.sending.Sending.{Sending}
use Rattle.node_ends.specs.declared.sending.Sending.TheVariants as sendings
use Rattle.node_ends.specs.Ends.{AreEnds, IsEndOf, hand_at, link_at, room_at, stands, wait_at}
use Rattle.node_sessions.specs.Pieces.{IsPieceOf}
use Rattle.joined_nodes.specs.Tasks.{work_now}
use Rattle.joined_nodes.specs.Running.{Jobs, given_of, words_at}
use Rattle.joined_nodes.specs.Posting.{IsPieceOfWork, IsPieceSent, Posts, after_step as end_after_step, word_with}
use Rattle.link_flights.specs.Fleets.{AreAllCarried, AreEndsIn, AreOwnEndsIn, PostsAsDefined}
use Rattle.link_flights.specs.Flights.{HasAtHand, IsEndIn}
use Rattle.run_laws.specs.Jobs.{AnswersAsked, AreJobs}
use Rattle.link_flights.specs.Heard.{HeardSo, WordsGoOn}
use Rattle.link_flights.specs.Words.{AreAllWorded, TellsWords}
use Rattle.driver_model.specs.Driver.{Driver, DriverInput, adds, end_to, has_room, part_at, piece_of, set_up_of, state_at, without_old_flights}
use Rattle.driver_model.specs.Finding.{MakesStep, after_step, driver_at_turn}
use Rattle.driver_model.specs.Scripts.{HasBoundedPast, IsKnown}
use Rattle.driver_model.specs.Sound.{IsSound, StaysSound}
use Rattle.driver_model.specs.Turning.{asked_key, bytes_taken, plain_look, told_words, turn}
use Rattle.driver_model.specs.WordsRead.{AgreeWhereRead}
use Rattle.joined_nodes.specs.Nodes as nodes
use Rattle.joined_nodes.specs.Nodes.{NodeView}
use Rattle.joined_nodes.specs.Stored.{StoreView}
use Rattle.joined_nodes.specs.Turning.{Adds, IsIdle, StepsBy, done_in, stamp_then, words_by}
use Rattle.fleet_model.specs.Fleets.{AreUnused, FleetView, HasCome, HasGiven, links_at}
use Rattle.fleet_model.specs.Matches.{DecidesMatches}
use Rattle.fleet_model.specs.Steps.{OneTurns, with_newest, with_links}
use Rattle.fleet_model.specs.Stores.{IsTold, content_in}
use Rattle.fleet_model.specs.Turns.{IsWhole, StandsWell}
use Rattle.fleet_model.proofs.Bounds.{AreShortParts, kind_is_small, largest_fits}
use Rattle.fleet_model.proofs.Coming.{ends_in}
use Rattle.fleet_model.proofs.DirectContents.{StandsTold, stands_told}
use Rattle.fleet_model.proofs.EndsThere.{end_there, own_room, part_fits, takes_own, wait_there}
use Rattle.fleet_model.proofs.Going.{goes_within}
use Rattle.fleet_model.proofs.Hearing.{WordLaws}
use Rattle.fleet_model.proofs.Idle.{none_ready, turned_idly}
use Rattle.fleet_model.proofs.Looking.{LookLaws, TurnMade, node_makes_step}
use Rattle.fleet_model.proofs.Noting.{IsRaised}
use Rattle.fleet_model.proofs.Pathing.{given_among, given_on, had_there}
use Rattle.fleet_model.proofs.PiecesGiven.{piece_is_given, piece_is_put}
use Rattle.fleet_model.proofs.Raising.{raised_is}
use Rattle.fleet_model.proofs.States.{state_is}
use Rattle.fleet_model.proofs.TurnEnds.{EndLaws, dropped_hand, is_posted}
use Rattle.fleet_model.proofs.TurnNode.{last_same, no_step_makes, turned_node}
use Rattle.fleet_model.proofs.TurnStore.{store_changes}
use Rattle.fleet_model.proofs.Turned.{turn_goes, turned}
use Rattle.fleet_model.proofs.Unused.{dropped_unused, posted_unused, turn_unused}
use Rattle.fleet_model.proofs.WordsGo.{ChangesByAnswers, words_go}
use Rattle.fleet_model.proofs.WordsTold.{tells_words}

-- the laws of a turn
pub record TurnLaws : Type 0 where
  pub looks : LookLaws
  pub ends : EndLaws
  pub words : WordLaws
  pub found : (g : DriverInput) (r : ℕ) (d : Driver) (m : Effect) → MakesStep g r d m → turn g r d ≡ after_step g r d m
  pub idle : (g : DriverInput) (r : ℕ) (d : Driver) → step (set_up_of g d r) (state_at g d r) (plain_look (set_up_of g d r) (driver_at_turn g r d)) ≡ None → turn g r d ≡ driver_at_turn g r d
  pub stays : (g : DriverInput) (r : ℕ) (d : Driver) → IsKnown g r → StaysSound g d (turn g r d)
  pub read : (s : SetUp) (past : List Entry) (m : Effect) (words : ℕ → ℕ → Option Word) (own : ℕ → Option Word) → HeardSo past s.number words
      → ((j : ℕ) (outcome : Outcome) → m.kind ≡ kinds.End j outcome → (c : ℕ) → own c ≡ words j c) → AgreeWhereRead s (runs.state_of s past) m own (told_words past s.number m.kind)
  pub room : (g : DriverInput) (links : List EndView) (s : SetUp) (d : Driver) (a : EndName) (v : EndView) → IsSound g d → length d.past < 2 ^ 30 → AreEnds links s (runs.state_of s d.past) → Member a (all_ends s)
      → link_at links a ≡ Some v → IsEndIn d.flights s.number a v → room_at links a ≡ (plain_look s (without_old_flights (runs.state_of s d.past) s.number d)).room a
  pub own_room : (g : DriverInput) (d : Driver) (r : ℕ) (a : EndName) → IsSound g d → a.peer ≡ r → has_room r d.flights a ≡ true
  pub sends : (g : DriverInput) (d : Driver) (r : ℕ) (k : Look) (m : Effect) → IsSound g d → IsKnown g r → k.part < 2 ^ 62 → step (set_up_of g d r) (state_at g d r) k ≡ Some m → Each (λ f. f.peer ≢ r) m.sent
  pub takes : (g : DriverInput) (d : Driver) (r : ℕ) (k : Look) (m : Effect) (f : FrameView) → IsSound g d → IsKnown g r → k.part < 2 ^ 62 → step (set_up_of g d r) (state_at g d r) k ≡ Some m → m.taken ≡ Some f → f.peer ≢ r
  pub dropped : (d : Driver) (st : State) (r : ℕ) (a : EndName) (v : EndView) → a.peer ≢ r → st.ends a ≡ stands v → IsEndIn d.flights r a v → IsEndIn (without_old_flights st r d).flights r a (after_drop v)
  pub worded : (s : SetUp) (d : Driver) (was now : ℕ → List EndView) (mine : List EndView) (e : Entry) (sender : EntryStamp) (word : EndName → Sending → Option Word) (said : EndName → List Sending)
      → s.number < length s.repos → AreEnds (was s.number) s (runs.state_of s d.past) → AreEndsIn d.flights (length s.repos) was → AreAllWorded d.past (length s.repos) was → e.repo ≡ Some s.number → TellsWords e word
      → PostsAsDefined s (runs.state_of s d.past) (without_old_flights (runs.state_of s d.past) s.number d) sender word said (map after_drop (was s.number)) mine e
      → AreAllCarried (length s.repos) s.number mine was now → AreAllWorded (e ∷ d.past) (length s.repos) now
  pub worded_idly : (s : SetUp) (d : Driver) (was now : ℕ → List EndView) → s.number < length s.repos → AreEnds (was s.number) s (runs.state_of s d.past) → AreEndsIn d.flights (length s.repos) was
      → AreAllWorded d.past (length s.repos) was → AreAllCarried (length s.repos) s.number (map after_drop (was s.number)) was now → AreAllWorded d.past (length s.repos) now
  pub jobs : (g : DriverInput) (d : Driver) (r : ℕ) → IsSound g d → AreJobs (works d.past r)
  pub asked : (g : DriverInput) (d : Driver) (past : List Entry) (e : Entry) (r : ℕ) → IsSound g d → d.past ≡ e ∷ past → is_of r e ≡ true → AnswersAsked past r e
  pub changed : (s : SetUp) (past : List Entry) (k : Look) (m : Effect) (e : Entry) → step s (runs.state_of s past) k ≡ Some m → e.repo ≡ Some s.number → e.kind ≡ m.kind → e.taken ≡ m.taken → e.sent ≡ m.sent
      → AreJobs (works past s.number) → ChangesByAnswers past s.number e
  pub stepped : (s : SetUp) (past : List Entry) (k : Look) (m : Effect) (e : Entry) (ends : ℕ → List EndView) (was now : ℕ → ℕ → Option Word) → s.number < length s.repos
      → AreEnds (ends s.number) s (runs.state_of s past) → AreAllWorded past (length s.repos) ends → k.at_hand ≡ flat_map (λ b. option_to_list (hand_at (map after_drop (ends s.number)) b)) (all_ends s)
      → step s (runs.state_of s past) k ≡ Some m → e.repo ≡ Some s.number → e.kind ≡ m.kind → e.taken ≡ m.taken → AreJobs (works past s.number) → AnswersAsked past s.number e
      → WordsGoOn (map after_drop (ends s.number)) past s.number e was now → HeardSo past s.number was → HeardSo (e ∷ past) s.number now
  pub listed : (s : SetUp) (a : EndName) → IsEndOf s a → Member a (all_ends s)

-- ---- before the turn

pub agreed : {K : Type 0} → TurnLaws → (tells : K → StoreView) (g : DriverInput) (d : Driver) (r : ℕ) (n : NodeView K) (was : FleetView K) → HasCome tells g d was → slice_get was.nodes r ≡ Some n
    → AgreesAtDrops (state_at g d r) (nodes.state_of (set_up_of g d r) n.history)
agreed laws tells g d r n was h at = state_is laws.looks.carried g d r n h.sound (h.each r n at).history

pub ends_stand : {K : Type 0} → TurnLaws → (tells : K → StoreView) (g : DriverInput) (d : Driver) (r : ℕ) (n : NodeView K) (was : FleetView K) → HasCome tells g d was → slice_get was.nodes r ≡ Some n → StandsWell g d r n
    → AreEnds n.parts.links (set_up_of g d r) (state_at g d r)
ends_stand laws tells g d r n was h at well =
    record { count = well.parts.ends.count; ends = λ a among. ap (λ (x : State). x.ends a) (agreed laws tells g d r n was h at).same ∙ well.parts.ends.ends a among }

pub own_ends : {K : Type 0} → TurnLaws → (tells : K → StoreView) (g : DriverInput) (d : Driver) (r : ℕ) (n : NodeView K) (was : FleetView K) → HasCome tells g d was → slice_get was.nodes r ≡ Some n → StandsWell g d r n
    → AreOwnEndsIn d.flights (set_up_of g d r) n.parts.links
own_ends laws tells g d r n was h at well =
    subst (AreOwnEndsIn d.flights (set_up_of g d r)) (ap ends_in at) (laws.ends.own (set_up_of g d r) d (links_at was.nodes) well.known h.ends)

-- the node's end of this name stands as the flights tell
own_end : {K : Type 0} (tells : K → StoreView) (g : DriverInput) (d : Driver) (r : ℕ) (n : NodeView K) (was : FleetView K) (a : EndName) (v : EndView) → HasCome tells g d was → slice_get was.nodes r ≡ Some n → StandsWell g d r n
    → a.peer ≢ r → link_at n.parts.links a ≡ Some v → IsEndIn d.flights r a v
own_end tells g d r n was a v h at well apart there =
    h.ends r a v well.known (end_there n.parts.links (length g.repos) a v well.parts.ends.count there).peer apart (ap (λ (links : List EndView). link_at links a) (ap ends_in at) ∙ there)

unused_here : {K : Type 0} (tells : K → StoreView) (g : DriverInput) (d : Driver) (r : ℕ) (n : NodeView K) (was : FleetView K) (a : EndName) (v : EndView) → HasCome tells g d was → slice_get was.nodes r ≡ Some n
    → a.peer ≡ r → link_at n.parts.links a ≡ Some v → v ≡ fresh
unused_here tells g d r n was a v h at own there = h.selves r a v own (ap (λ (links : List EndView). link_at links a) (ap ends_in at) ∙ there)

-- the node's ends have the room that the driver sees
pub rooms_agree : {K : Type 0} → TurnLaws → (tells : K → StoreView) (g : DriverInput) (d : Driver) (r : ℕ) (n : NodeView K) (was : FleetView K) → HasCome tells g d was → slice_get was.nodes r ≡ Some n → StandsWell g d r n
    → (a : EndName) → is_some (link_at n.parts.links a) ≡ true → has_room r (driver_at_turn g r d).flights a ≡ room_at n.parts.links a
rooms_agree laws tells g d r n was h at well a there = go (link_at n.parts.links a) refl there
  where
    by_peer : (v : EndView) → link_at n.parts.links a ≡ Some v → (b : Bool) → (a.peer == r) ≡ b → has_room r (driver_at_turn g r d).flights a ≡ room_at n.parts.links a
    by_peer v e true own = own_room g d r n.parts.links a v (laws.own_room g d r a h.sound (eqb-true a.peer r own)) e (unused_here tells g d r n was a v h at (eqb-true a.peer r own) e)
    by_peer v e false other =
        let name = end_there n.parts.links (length g.repos) a v well.parts.ends.count e in
        let apart : a.peer ≢ r = eqb-false a.peer r other in
        sym (laws.room g n.parts.links (set_up_of g d r) d a v h.sound well.few (ends_stand laws tells g d r n was h at well)
        (laws.listed (set_up_of g d r) a (record { peer = name.peer; other = apart; slot = name.slot })) e (own_end tells g d r n was a v h at well apart e))

    go : (o : Option EndView) → link_at n.parts.links a ≡ o → is_some o ≡ true → has_room r (driver_at_turn g r d).flights a ≡ room_at n.parts.links a
    go None e there = absurd (cc)
    go (Some v) e there = by_peer v e (a.peer == r) refl

-- ---- a turn with a step

pub turn_comes : {K : Type 0} → TurnLaws → (tells : K → StoreView) (g : DriverInput) (d : Driver) (r : ℕ) (n m : NodeView K) (was after : FleetView K)
    → DecidesMatches g → HasCome tells g d was → OneTurns r n m was after → StandsWell g d r n
    → Adds (map after_drop n.parts.links) (tells n.keeper) (tells m.keeper) (with_newest d n) m → StepsBy step (tells n.keeper) (tells m.keeper) (with_newest d n) m
    → (AreSmallParts (tells n.keeper).parts → AreSmallParts (tells m.keeper).parts) → IsWhole tells m → m.time ≤ 1000000000000 → m.count < 2 ^ 62 → HasCome tells g (turn g r d) after
turn_comes {K} laws tells g d r n m was after decides h one well ad by small whole early few =
    turned laws.words tells g d r n m made was after h one is raised_m ends_after words_after heard_after paths_after unused_after small_made (λ before. large) early few (laws.stays g r d well.known)
  where
    s : SetUp
    s = set_up_of g d r

    st : State
    st = state_at g d r

    c : Driver
    c = driver_at_turn g r d

    own : IsRaised tells g d r (with_newest d n)
    own = raised_is tells g d r n (h.each r n one.before)

    links_are : links_at was.nodes r ≡ n.parts.links
    links_are = ap ends_in one.before

    ends_are : AreEnds n.parts.links s st
    ends_are = ends_stand laws tells g d r n was h one.before well

    tm : TurnMade g d r (with_newest d n) m by.kind by.taken
    tm = node_makes_step laws.looks tells g d r (with_newest d n) m h.sound own decides well.parts well.sound (own_ends laws tells g d r n was h one.before well) (rooms_agree laws tells g d r n was h one.before well) (had_there g d r n.parts.jobs.running (h.each r n one.before).paths)
        (λ made. laws.read s d.past made (words_at n.parts.jobs.running) (words_by (with_newest d n) made.kind) (h.each r n one.before).heard (λ j outcome e c. ap (λ (kind : EntryKind). words_by (with_newest d n) kind c) e)) by

    made : Effect
    made = tm.made

    is : turn g r d ≡ after_step g r d made
    is = laws.found g r d made tm.is_step

    e : Entry
    e = entry_of r (plain_look s c) made

    entry : ad.entry ≡ e
    entry = last_same n.history ad.entry e (sym ad.history ∙ tm.adds)

    part_small : tm.is_step.look.part < 2 ^ 62
    part_small = subst (λ (x : ℕ). x < 2 ^ 62) (sym tm.is_step.is_look.part_is) (part_fits g d r (asked_key st made) h.sound h.fits)

    away : Each (λ f. f.peer ≢ r) ad.entry.sent
    away = subst (λ (x : Entry). Each (λ f. f.peer ≢ r) x.sent) (sym entry) (laws.sends g d r tm.is_step.look made h.sound well.known part_small tm.is_step.steps)

    from : (f : FrameView) → ad.entry.taken ≡ Some f → f.peer ≢ r
    from f takes = laws.takes g d r tm.is_step.look made f h.sound well.known part_small tm.is_step.steps (ap (λ (x : Entry). x.taken) (sym entry) ∙ takes)

    hand : (f : FrameView) → by.taken ≡ Some f → (v : EndView) × (link_at n.parts.links (end_to f) ≡ Some v) × HasAtHand c.flights r (end_to f) (after_drop v)
    hand f takes =
        let taken : ad.entry.taken ≡ Some f = ap (λ (x : Entry). x.taken) entry ∙ (tm.taken_is ∙ takes) in
        let there = wait_there n.parts.links (end_to f) f (ad.posts.posts.took (end_to f) f (ap (taken_at (end_to f)) taken ∙ takes_own f)) in
        let apart : f.peer ≢ r = from f taken in
        let name = end_there n.parts.links (length g.repos) (end_to f) there.0 well.parts.ends.count there.1 in (
          there.0,
          there.1,
          (laws.dropped d st r (end_to f) there.0 apart
              (ends_are.ends (end_to f) (laws.listed s (end_to f) (record { peer = name.peer; other = apart; slot = name.slot })) ∙ ap Rattle.node_ends.specs.Ends.end_in there.1)
              (own_end tells g d r n was (end_to f) there.0 h one.before well apart there.1)).at_hand,
        )

    raised_m : IsRaised tells g (after_step g r d made) r m
    raised_m = turned_node laws.looks.found tells g d r (with_newest d n) m by.kind by.taken own (agreed laws tells g d r n was h one.before) well.parts (laws.jobs g d r h.sound) hand ad tm

    -- the store stays small

    d1 : Driver
    d1 = adds st r e c

    bytes : List ℕ
    bytes = bytes_taken r made.taken c

    short_before : AreShortParts r d1
    short_before key = part_fits g d r (Some key) h.sound h.fits

    small_before : AreSmallParts (tells n.keeper).parts
    small_before = go (tells n.keeper).parts (h.each r n one.before).store.parts
      where
        go : (o : Option Parts) → IsTold o (λ p. (key : List ℕ) → p key ≡ part_at d r key) → AreSmallParts o
        go None told = absurd told
        go (Some p) told = λ q is key. subst (λ (xs : List ℕ). length xs < 2 ^ 62) (sym (told key) ∙ ap (λ (f : Parts). f key) (same_Some p q is)) (part_fits g d r (Some key) h.sound h.fits)

    short_after : AreShortParts r (after_step g r d made)
    short_after = go (tells m.keeper).parts raised_m.store.parts (small small_before)
      where
        go : (o : Option Parts) → IsTold o (λ p. (key : List ℕ) → p key ≡ part_at (after_step g r d made) r key) → AreSmallParts o → AreShortParts r (after_step g r d made)
        go None told short = absurd told
        go (Some p) told short = λ key. subst (λ (xs : List ℕ). length xs < 2 ^ 62) (told key) (short p refl key)

    large : (after_step g r d made).largest < 2 ^ 62
    large = largest_fits st r made bytes made.kind d1 h.fits.1 short_after

    fits_m : nodes.MatchesSetup m.setup s
    fits_m = subst (λ (x : _). nodes.MatchesSetup x s) (sym ad.setup) own.entries.setup

    history : reverse m.history ≡ e ∷ reverse n.history
    history = ap reverse tm.adds ∙ reverse-append n.history (e ∷ [])

    -- what the node has after the step is the state's, since its store tells
    stands_after : StandsTold s m.parts m.owed (tells m.keeper).contents (nodes.state_of s m.history)
    stands_after = stands_told s m.parts m.branch m.owed (tells m.keeper).contents (tells m.keeper).parts (nodes.state_of s m.history) (content_in (after_step g r d made) r) (part_at (after_step g r d made) r) raised_m.store.contents raised_m.store.parts (whole.state s fits_m)

    small_made : IsSmall made.kind
    small_made = kind_is_small st r made bytes made.kind d1 (nodes.state_of s n.history).content stands_after.contents short_before
        (λ clock is_crash. no_step_makes s st tm.is_step.look made (laws.looks.found.found s st tm.is_step.look made tm.is_step.steps) (kinds.Crash clock) refl is_crash)
        (subst (λ (o : Option Contents). IsTold o (λ x. (key : List ℕ) → x key ≡ content_in (after_step g r d made) r key)) stands_after.is raised_m.store.contents)
        (λ key. stands_after.stands.stored.content key ∙ ap (λ (xs : List Entry). (states s xs).content key) history)

    sender : EntryStamp
    sender = stamp_then (with_newest d n)

    p : Posts sender e.kind (map after_drop (links_at was.nodes r)) m.parts.links e.taken e.sent
    p = record {
      count = ad.posts.posts.count ∙ ap (λ (links : List EndView). length (map after_drop links)) (sym links_are);
      took = λ a f takes. ap (λ (links : List EndView). wait_at (map after_drop links) a) links_are ∙ ad.posts.posts.took a f (ap (λ (x : Entry). taken_at a x.taken) entry ∙ takes);
      said = ad.posts.posts.said;
      listed = λ a. ad.posts.posts.listed a ∙ ap (λ (x : Entry). map (λ f. f.body) (sent_at a x.sent)) entry;
      links = λ a. ad.posts.posts.links a ∙ (λ i. option_map (end_after_step sender (entry i).kind a (entry i).taken (ad.posts.posts.said a)) (link_at (map after_drop (sym links_are i)) a));
    }

    ends_were : AreEnds (links_at was.nodes r) s st
    ends_were = subst (λ (links : List EndView). AreEnds links s st) (sym links_are) ends_are

    -- a piece is of what the sessions were giving, or the copies
    pieces : (a : EndName) (f : FrameView) (bytes : List ℕ) → Member f (sent_at a ad.entry.sent) → Member (sendings.Bytes bytes) (ad.posts.posts.said a) → f.body ≡ texts.Bytes (length bytes) → bytes ≡ piece_of c st r f f.body
    pieces a f bytes among told body = go (tells n.keeper).contents (h.each r n one.before).store.contents (ad.posts.pieces a bytes told)
      where
        sends : sends_at a f ≡ true
        sends = (Member-filter_parts (sends_at a) ad.entry.sent f among).1

        by_way : (x : Contents) → ((key : List ℕ) → x key ≡ content_in d r key) → (b : Bool) → a.client ≡ b → IsPieceSent b (record n.parts { links = map after_drop n.parts.links }) x a bytes → bytes ≡ piece_of c st r f f.body
        by_way x has true client piece = piece_is_put d st r x a f bytes has sends client body
            (subst (λ (ws : List Work). IsPieceOfWork x (find (λ w. w.slot == a.slot) ws) bytes) (sym (ap (λ (y : State). y.works) (agreed laws tells g d r n was h one.before).same)) (piece s (nodes.state_of s n.history) well.parts.works))
        by_way x has false server piece = piece_is_given d st r x a f bytes has sends server body
            (subst (λ (session : Session). IsPieceOf x session.doing bytes) (sym (ap (λ (y : State). y.sessions a) (agreed laws tells g d r n was h one.before).same)) (piece s (nodes.state_of s n.history) well.parts.sessions))

        go : (o : Option Contents) → IsTold o (λ x. (key : List ℕ) → x key ≡ content_in d r key) → ForSome o (λ x. IsPieceSent a.client (record n.parts { links = map after_drop n.parts.links }) x a bytes) → bytes ≡ piece_of c st r f f.body
        go None has piece = absurd has
        go (Some x) has piece = by_way x has a.client refl (piece x refl)

    posted : PostsAsDefined s st c sender (λ a. word_with a e.taken e.kind) ad.posts.posts.said (map after_drop (links_at was.nodes r)) m.parts.links e
    posted = is_posted laws.ends s st d tm.is_step.look made e (links_at was.nodes) m.parts.links sender well.known ends_were h.ends tm.is_step.steps tm.is_step.is_look.hand_is refl refl p
        (λ a f bytes among told. pieces a f bytes (subst (λ (x : Entry). Member f (sent_at a x.sent)) (sym entry) among) told)

    carried : AreAllCarried (length g.repos) r m.parts.links (links_at was.nodes) (links_at after.nodes)
    carried = subst (λ (count : ℕ). AreAllCarried count r m.parts.links (links_at was.nodes) (links_at after.nodes)) h.count one.carried

    ends_after : AreEndsIn (adds st r e c).flights (length g.repos) (links_at after.nodes)
    ends_after = laws.ends.moved s st d (links_at was.nodes) (links_at after.nodes) m.parts.links e sender (λ a. word_with a e.taken e.kind) ad.posts.posts.said well.known ends_were h.ends posted carried

    past : (after_step g r d made).past ≡ e ∷ d.past
    past = (store_changes st r made (bytes_taken r made.taken c) made.kind (adds st r e c)).past

    words_after : AreAllWorded (after_step g r d made).past (length g.repos) (links_at after.nodes)
    words_after = subst (λ (xs : List Entry). AreAllWorded xs (length g.repos) (links_at after.nodes)) (sym past)
        (laws.worded s d (links_at was.nodes) (links_at after.nodes) m.parts.links e sender (λ a. word_with a e.taken e.kind) ad.posts.posts.said well.known ends_were h.ends h.words refl (tells_words e) posted carried)

    fits_after : HasBoundedPast (after_step g r d made)
    fits_after = goes_within r d (after_step g r d made) h.fits (turn_goes g d r made small_made (λ before. large))
        (subst (λ (t : ℕ). t ≤ 1000000000000) raised_m.entries.time early) (subst (λ (x : ℕ). x < 2 ^ 62) raised_m.entries.count few)

    sound_after : IsSound g (after_step g r d made)
    sound_after = subst (StaysSound g d) is (laws.stays g r d well.known) h.sound fits_after

    works_was : works d.past r ≡ map work_now n.parts.jobs.running
    works_was = ap (λ (x : State). x.works) (agreed laws tells g d r n was h one.before).same ∙ well.parts.works.works

    works_after : works (e ∷ d.past) r ≡ map work_now m.parts.jobs.running
    works_after = ap (λ (xs : List Entry). works xs r) (sym past)
        ∙ (ap (λ (x : State). x.works) (state_is laws.looks.carried g (after_step g r d made) r m sound_after raised_m.entries.history).same
        ∙ stands_then.stands.parts_are.works.works)
      where
        later : SetUp
        later = set_up_of g (after_step g r d made) r

        stands_then : StandsTold later m.parts m.owed (tells m.keeper).contents (nodes.state_of later m.history)
        stands_then = stands_told later m.parts m.branch m.owed (tells m.keeper).contents (tells m.keeper).parts (nodes.state_of later m.history) (content_in (after_step g r d made) r) (part_at (after_step g r d made) r) raised_m.store.contents raised_m.store.parts
            (whole.state later raised_m.entries.setup)

    words_on : WordsGoOn (map after_drop (links_at was.nodes r)) d.past r e (words_at n.parts.jobs.running) (words_at m.parts.jobs.running)
    words_on = words_go d.past r e (map after_drop (links_at was.nodes r)) (record n.parts { links = map after_drop n.parts.links }) m.parts (done_in ad.entry) (ap (map after_drop) (sym links_are))
        (ap (λ (x : Entry). x.kind) entry) (ap (λ (x : Entry). x.taken) entry) works_was works_after (laws.jobs g d r h.sound)
        (subst (λ (xs : List Entry). AreJobs (works xs r)) past (laws.jobs g (after_step g r d made) r sound_after))
        (laws.changed s d.past tm.is_step.look made e tm.is_step.steps refl refl refl refl (laws.jobs g d r h.sound)) ad.jobs

    heard_after : HeardSo (after_step g r d made).past r (words_at m.parts.jobs.running)
    heard_after = subst (λ (xs : List Entry). HeardSo xs r (words_at m.parts.jobs.running)) (sym past)
        (laws.stepped s d.past tm.is_step.look made e (links_at was.nodes) (words_at n.parts.jobs.running) (words_at m.parts.jobs.running) well.known ends_were h.words
        (tm.is_step.is_look.hand_is ∙ sym (dropped_hand laws.ends s st d (links_at was.nodes) well.known ends_were h.ends)) tm.is_step.steps refl refl refl (laws.jobs g d r h.sound)
        (laws.asked g (after_step g r d made) d.past e r sound_after past (eqb_refl r)) words_on (h.each r n one.before).heard)

    paths_after : Each (λ j. HasGiven (after_step g r d made) r (given_of j)) m.parts.jobs.running
    paths_after = Each-weaker (λ j. HasGiven d r (given_of j)) (λ j. HasGiven (after_step g r d made) r (given_of j)) (λ j. given_on laws.words g d (after_step g r d made) r (e ∷ []) sound_after past (turn_goes g d r made small_made (λ before. large)).tree (given_of j)) m.parts.jobs.running
        (elim (ad.jobs) [
          | inl same ↦ subst (λ (js : Jobs). Each (λ j. HasGiven d r (given_of j)) js.running) (sym same) (h.each r n one.before).paths
          | inr goes ↦ given_among d r n.parts.jobs.running m.parts.jobs.running goes.1.given (h.each r n one.before).paths
        ])

    unused_after : AreUnused (links_at after.nodes)
    unused_after = turn_unused r n m was after one h.selves
        (posted_unused r (map after_drop n.parts.links) m.parts.links sender ad.entry.kind ad.entry.taken ad.entry.sent ad.posts.posts away from
        (dropped_unused r n.parts.links (λ a v there at. unused_here tells g d r n was a v h one.before there at)))

-- ---- a turn without

pub idle_comes : {K : Type 0} → TurnLaws → (tells : K → StoreView) (g : DriverInput) (d : Driver) (r : ℕ) (n m : NodeView K) (was after : FleetView K)
    → HasCome tells g d was → OneTurns r n m was after → StandsWell g d r n
    → m ≡ with_links (with_newest d n) (map after_drop n.parts.links) → IsIdle (with_newest d n) (set_up_of g d r) → HasCome tells g (turn g r d) after
idle_comes {K} laws tells g d r n m was after h one well but idle =
    turned_idly tells g d r n m was after h one is raised_m ends_after words_after heard_after paths_after unused_after (laws.stays g r d well.known)
  where
    s : SetUp
    s = set_up_of g d r

    st : State
    st = state_at g d r

    own : IsRaised tells g d r (with_newest d n)
    own = raised_is tells g d r n (h.each r n one.before)

    links_are : links_at was.nodes r ≡ n.parts.links
    links_are = ap ends_in one.before

    mine : m.parts.links ≡ map after_drop (links_at was.nodes r)
    mine = ap (λ (x : NodeView K). x.parts.links) but ∙ ap (map after_drop) (sym links_are)

    ends_were : AreEnds (links_at was.nodes r) s st
    ends_were = subst (λ (links : List EndView). AreEnds links s st) (sym links_are) (ends_stand laws tells g d r n was h one.before well)

    is : turn g r d ≡ driver_at_turn g r d
    is = laws.idle g r d (none_ready laws.looks tells g d r (with_newest d n) h.sound own well.parts (own_ends laws tells g d r n was h one.before well) (rooms_agree laws tells g d r n was h one.before well) (had_there g d r n.parts.jobs.running (h.each r n one.before).paths) idle)

    raised_m : IsRaised tells g d r m
    raised_m = subst (λ (x : NodeView K). IsRaised tells g d r x) (sym but)
        (record { entries = record { setup = own.entries.setup; history = own.entries.history; branch = own.entries.branch; time = own.entries.time; count = own.entries.count }; store = own.store })

    carried : AreAllCarried (length g.repos) r (map after_drop (links_at was.nodes r)) (links_at was.nodes) (links_at after.nodes)
    carried = subst (λ (count : ℕ). AreAllCarried count r (map after_drop (links_at was.nodes r)) (links_at was.nodes) (links_at after.nodes)) h.count
        (subst (λ (links : List EndView). AreAllCarried (length was.nodes) r links (links_at was.nodes) (links_at after.nodes)) mine one.carried)

    ends_after : AreEndsIn (driver_at_turn g r d).flights (length g.repos) (links_at after.nodes)
    ends_after = laws.ends.idle s st d (links_at was.nodes) (links_at after.nodes) well.known ends_were h.ends carried

    words_after : AreAllWorded d.past (length g.repos) (links_at after.nodes)
    words_after = laws.worded_idly s d (links_at was.nodes) (links_at after.nodes) well.known ends_were h.ends h.words carried

    heard_after : HeardSo d.past r (words_at m.parts.jobs.running)
    heard_after = subst (λ (x : NodeView K). HeardSo d.past r (words_at x.parts.jobs.running)) (sym but) (h.each r n one.before).heard

    paths_after : Each (λ j. HasGiven d r (given_of j)) m.parts.jobs.running
    paths_after = subst (λ (x : NodeView K). Each (λ j. HasGiven d r (given_of j)) x.parts.jobs.running) (sym but) (h.each r n one.before).paths

    unused_after : AreUnused (links_at after.nodes)
    unused_after = turn_unused r n m was after one h.selves
        (λ a v there at. dropped_unused r n.parts.links (λ a v there at. unused_here tells g d r n was a v h one.before there at) a v there
        (ap (λ (x : NodeView K). link_at x.parts.links a) (sym but) ∙ at))
