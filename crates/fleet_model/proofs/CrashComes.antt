-- A fleet whose node crashed has come to where the driver is after the crash.
use Rattle.std.proofs.Common.{◌≡◌, ◌≢◌, ℕ, ◌+◌, ◌<◌, ◌≤◌, ◌^◌, Bool, true, false, List, [], ◌∷◌, ◌++◌, Option, Some, None, length, map, refl, sym, ap, ◌∙◌, subst, le_refl, le-add_right}
use Rattle.std.specs.Prelude.{if◌then◌else◌}
use Rattle.std.specs.List.{AllZip}
use Rattle.std.proofs.lemmas.Option.{none-some}
use Rattle.annex_base.specs.Lists.{Each, Member}
use Rattle.annex_base.specs.declared.kinds.EntryStamp.{EntryStamp}
use Rattle.annex_base.specs.declared.kinds.Word.{Word}
use Rattle.annex_base.proofs.Conditions.{eqb_refl}
use Rattle.annex_base.proofs.Lists.{Each-filter, Each-flat_map, Each-from_members, Each-weaker}
use Rattle.link_ring.specs.Ends.{EndView}
use Rattle.run_data.specs.declared.entry.Entry.{Entry}
use Rattle.run_data.specs.declared.entry.EntryKind.{EntryKind}
use Rattle.run_data.specs.declared.entry.EntryKind.TheVariants as kinds
use Rattle.run_data.specs.declared.entry.FrameText.{FrameText}
use Rattle.run_data.specs.declared.entry.FrameText.TheVariants as texts
use Rattle.run_data.specs.declared.entry.FrameView.{FrameView}
use Rattle.run_model.specs.Logs.{branch, branch_after}
use Rattle.run_model.specs.States as runs
use Rattle.run_model.specs.States.{works}
use Rattle.node_model.specs.After.{AgreesAtDrops}
use Rattle.node_model.specs.AnyTime.{all_ends, close_at, closes_all}
use Rattle.node_model.specs.Ends.{End, EndName, frames, is_opening, sends_at, sent_at}
use Rattle.node_model.specs.Jobs.{Work}
use Rattle.node_model.specs.SetUp.{SetUp}
use Rattle.node_model.specs.State.{State}
use Rattle.node_ends.specs.declared.sending.Sending.{Sending}
use Rattle.node_ends.specs.Ends.{AreEnds, IsEndOf, end_in, link_at}
use Rattle.node_ends.specs.Sent.{text_of_sending}
use Rattle.joined_nodes.specs.Crashing.{Crashes, crash_entry}
use Rattle.joined_nodes.specs.Nodes as nodes
use Rattle.joined_nodes.specs.Nodes.{NodeView, told_of}
use Rattle.joined_nodes.specs.Posting.{Posts, word_with}
use Rattle.joined_nodes.specs.Running.{Jobs, given_of, words_at}
use Rattle.joined_nodes.specs.Stored.{StoreView}
use Rattle.joined_nodes.specs.Turning.{stamp_then}
use Rattle.driver_model.specs.Driver.{Driver, DriverInput, adds, entry, newest_count, piece_of, set_up_of, state_at}
use Rattle.driver_model.specs.ScriptSteps.{crashes}
use Rattle.driver_model.specs.Sound.{IsSound, StaysSound}
use Rattle.link_flights.specs.Entries.{HasPiece, SendsInOrder}
use Rattle.link_flights.specs.Fleets.{AreAllCarried, AreEndsIn, PostsAsDefined}
use Rattle.link_flights.specs.Heard.{HeardSo}
use Rattle.link_flights.specs.Words.{AreAllWorded}
use Rattle.fleet_model.specs.Fleets.{AreUnused, FleetView, HasCome, HasGiven, links_at}
use Rattle.fleet_model.specs.Steps.{OneTurns, with_newest}
use Rattle.fleet_model.specs.Turns.{StandsWell}
use Rattle.fleet_model.proofs.CloseComes.{carried_on, told_there}
use Rattle.fleet_model.proofs.CloseEnds.{IsThere, is_close}
use Rattle.fleet_model.proofs.Coming.{ends_in}
use Rattle.fleet_model.proofs.Going.{GoesOn}
use Rattle.fleet_model.proofs.Hearing.{WordLaws}
use Rattle.fleet_model.proofs.Noting.{IsRaised, own_more}
use Rattle.fleet_model.proofs.Raising.{raised_is}
use Rattle.fleet_model.proofs.States.{Carried, state_is}
use Rattle.fleet_model.proofs.Unused.{posted_unused, turn_unused}

-- ---- the Closes of a crash

-- the frame is a Close to another repository than this
abbrev Shuts : ℕ → FrameView → Type 0
Shuts r f = (f.body ≡ texts.Closing) × (f.peer ≢ r)

end_shuts : (s : SetUp) (st : State) (a : EndName) → a.peer ≢ s.number → Each (Shuts s.number) (close_at s st a)
end_shuts s st a other = go (st.ends a).opened
  where
    go : (b : Bool) → Each (Shuts s.number) (if b then frames a (st.ends a) (texts.Closing ∷ []) else [])
    go true = ((refl, other), tt)
    go false = tt

all_shut : (s : SetUp) (st : State) → ((a : EndName) → Member a (all_ends s) → IsEndOf s a) → Each (Shuts s.number) (closes_all s st)
all_shut s st numbers = Each-flat_map (Shuts s.number) (close_at s st) (all_ends s)
    (Each-from_members (λ a. Each (Shuts s.number) (close_at s st a)) (all_ends s) (λ a among. end_shuts s st a (numbers a among).other))

first_said : (x : Sending) (said : List Sending) (t : FrameText) (ts : List FrameText) → map text_of_sending (x ∷ said) ≡ t ∷ ts → (text_of_sending x ≡ t) × (map text_of_sending said ≡ ts)
first_said x said t ts e = (cc, cc)

-- Closes have no bytes
no_bytes : (piece : FrameView → List ℕ) (fs : List FrameView) (said : List Sending) → Each (λ f. f.body ≡ texts.Closing) fs → map text_of_sending said ≡ map (λ (f : FrameView). f.body) fs
    → AllZip (λ f x. HasPiece (piece f) x) fs said
no_bytes piece [] [] closes listed = tt
no_bytes piece [] (x ∷ said) closes listed = absurd (cc)
no_bytes piece (f ∷ fs) [] closes listed = absurd (cc)
no_bytes piece (f ∷ fs) (x ∷ said) closes listed =
    let first = first_said x said f.body (map (λ (f : FrameView). f.body) fs) listed in
    (subst (HasPiece (piece f)) (sym (is_close x (first.0 ∙ closes.0))) tt, no_bytes piece fs said closes.1 first.1)

-- ---- the crash

-- the laws of a crash
pub record CrashLaws : Type 0 where
  pub in_order : (s : SetUp) (st : State) (a : EndName) → SendsInOrder (st.ends a) a None (closes_all s st)
  pub ends : (s : SetUp) (st : State) (d : Driver) (was now : ℕ → List EndView) (mine : List EndView) (e : Entry) (sender : EntryStamp) (word : EndName → Sending → Option Word) (said : EndName → List Sending)
      → s.number < length s.repos → AreEndsIn d.flights (length s.repos) was → e.taken ≡ None → Each (λ f. is_opening f.body ≡ false) e.sent
      → PostsAsDefined s st d sender word said (was s.number) mine e → AreAllCarried (length s.repos) s.number mine was now → AreEndsIn (adds st s.number e d).flights (length s.repos) now
  pub words : (s : SetUp) (d : Driver) (was now : ℕ → List EndView) (mine : List EndView) (e : Entry) (sender : EntryStamp) (word : EndName → Sending → Option Word) (said : EndName → List Sending)
      → s.number < length s.repos → AreEnds (was s.number) s (runs.state_of s d.past) → AreEndsIn d.flights (length s.repos) was → AreAllWorded d.past (length s.repos) was → e.repo ≡ Some s.number → e.taken ≡ None
      → Each (λ f. is_opening f.body ≡ false) e.sent → PostsAsDefined s (runs.state_of s d.past) d sender word said (was s.number) mine e → AreAllCarried (length s.repos) s.number mine was now
      → AreAllWorded (e ∷ d.past) (length s.repos) now
  pub numbers : (s : SetUp) (a : EndName) → Member a (all_ends s) → IsEndOf s a

pub crash_comes : {K : Type 0} → CrashLaws → WordLaws → Carried → (tells : K → StoreView) (g : DriverInput) (d : Driver) (r clock : ℕ) (n m : NodeView K) (was after : FleetView K)
    → HasCome tells g d was → OneTurns r n m was after → StandsWell g d r n → Crashes (told_of (tells n.keeper).contents (tells n.keeper).parts) clock (with_newest d n) m → clock ≤ 100000000000
    → m.time ≤ 1000000000000 → m.count < 2 ^ 62 → StaysSound g d (crashes g r clock d) → HasCome tells g (crashes g r clock d) after
crash_comes {K} laws words carried tells g d r clock n m was after h one well c near early few sound =
    carried_on words tells g d d' r n m was after h one on raised_now ends_after words_after heard_after paths_after unused_after early few sound
  where
    s : SetUp
    s = set_up_of g d r

    st : State
    st = state_at g d r

    kind : EntryKind
    kind = kinds.Crash clock

    e : Entry
    e = record (entry d r kind []) { sent = closes_all s st }

    d' : Driver
    d' = crashes g r clock d

    sender : EntryStamp
    sender = stamp_then (with_newest d n)

    word : EndName → Sending → Option Word
    word q = word_with q None kind

    base : ℕ → List EndView
    base = links_at was.nodes

    links_are : links_at was.nodes r ≡ n.parts.links
    links_are = ap ends_in one.before

    own : IsRaised tells g d r (with_newest d n)
    own = raised_is tells g d r n (h.each r n one.before)

    agrees : AgreesAtDrops st (nodes.state_of s n.history)
    agrees = state_is carried g d r n h.sound (h.each r n one.before).history

    ends_are : AreEnds n.parts.links s st
    ends_are = record { count = well.parts.ends.count; ends = λ a among. ap (λ (x : State). x.ends a) agrees.same ∙ well.parts.ends.ends a among }

    ends_were : AreEnds (links_at was.nodes r) s st
    ends_were = subst (λ (links : List EndView). AreEnds links s st) (sym links_are) ends_are

    -- what the node sent is what the driver sends

    told : IsThere (told_of (tells n.keeper).contents (tells n.keeper).parts)
    told = told_there tells d r n (h.each r n one.before).store

    sent_is : c.sent ≡ closes_all s st
    sent_is = c.closes told.0 told.1 s own.entries.setup ∙ sym (ap (closes_all s) agrees.same)

    shut : Each (Shuts r) (closes_all s st)
    shut = all_shut s st (laws.numbers s)

    closing : Each (λ f. f.body ≡ texts.Closing) (closes_all s st)
    closing = Each-weaker (Shuts r) (λ (f : FrameView). f.body ≡ texts.Closing) (λ f is. is.0) (closes_all s st) shut

    not_opening : Each (λ f. is_opening f.body ≡ false) e.sent
    not_opening = Each-weaker (λ (f : FrameView). f.body ≡ texts.Closing) (λ (f : FrameView). is_opening f.body ≡ false) (λ f is. ap is_opening is) (closes_all s st) closing

    away : Each (λ f. f.peer ≢ r) c.sent
    away = subst (λ (fs : List FrameView). Each (λ f. f.peer ≢ r) fs) (sym sent_is) (Each-weaker (Shuts r) (λ (f : FrameView). f.peer ≢ r) (λ f is. is.1) (closes_all s st) shut)

    -- the node

    entry_is : crash_entry (with_newest d n) clock c.sent ≡ e
    entry_is = λ i. record {
      time = own.entries.time i;
      count = own.entries.count i + 1;
      repo = Some (sym own.entries.setup.number i);
      kind = kinds.Crash clock;
      taken = None;
      sent = sent_is i;
      lines = [];
    }

    raised_now : IsRaised tells g d' r m
    raised_now = subst (λ (x : NodeView K). IsRaised tells g d' r x) (sym c.node)
        (record {
          entries = record {
            setup = record { number = own.entries.setup.number; ids = own.entries.setup.ids; offset = own.entries.setup.offset; version = own.entries.setup.version; locks = own.entries.setup.locks };
            history = ap (λ (x : Entry). n.history ++ x ∷ []) entry_is ∙ (ap (λ (xs : List Entry). xs ++ e ∷ []) own.entries.history ∙ sym (own_more r e d.past (eqb_refl r)));
            branch = own.entries.branch ∙ sym (ap (λ (t : Bool). if t then branch_after (branch d.past r) (kinds.Crash clock) [] else branch d.past r) (eqb_refl r));
            time = own.entries.time;
            count = ap (λ (k : ℕ). k + 1) own.entries.count;
          };
          store = record { contents = own.store.contents; parts = own.store.parts; failing = own.store.failing };
        })

    on : GoesOn r d d'
    on = record {
      more = e ∷ [];
      past = refl;
      own = (eqb_refl r, tt);
      tree = refl;
      marks = refl;
      stores = λ q v apart is. record { contents = is.contents; parts = is.parts; failing = is.failing };
      at = refl;
      counted = le-add_right (newest_count d.past) 1;
      bounds = (record { time_is = refl; counted = le_refl (newest_count d.past + 1); small = near }, tt);
      large = λ fits. fits;
    }

    -- the ends

    p : Posts sender kind n.parts.links m.parts.links None c.sent
    p = (c.posts None).posts

    listed : (q : EndName) → map text_of_sending (p.said q) ≡ map (λ (f : FrameView). f.body) (sent_at q e.sent)
    listed q = p.listed q ∙ ap (λ (fs : List FrameView). map (λ (f : FrameView). f.body) (sent_at q fs)) sent_is

    posted_here : PostsAsDefined s st d sender word p.said n.parts.links m.parts.links e
    posted_here = record {
      posts = λ q u among at. record {
        takes = tt;
        listed = listed q;
        in_order = subst (λ (k : End). SendsInOrder k q None e.sent) (ends_are.ends q among ∙ ap end_in at) (laws.in_order s st q);
        pieces = no_bytes (λ f. piece_of d st r f f.body) (sent_at q e.sent) (p.said q) (Each-filter (λ (f : FrameView). f.body ≡ texts.Closing) (sends_at q) (closes_all s st) closing) (listed q);
      };
      links = p.links;
    }

    posted : PostsAsDefined s st d sender word p.said (links_at was.nodes r) m.parts.links e
    posted = subst (λ (links : List EndView). PostsAsDefined s st d sender word p.said links m.parts.links e) (sym links_are) posted_here

    carried_after : AreAllCarried (length g.repos) r m.parts.links base (links_at after.nodes)
    carried_after = subst (λ (count : ℕ). AreAllCarried count r m.parts.links base (links_at after.nodes)) h.count one.carried

    ends_after : AreEndsIn d'.flights (length g.repos) (links_at after.nodes)
    ends_after = laws.ends s st d base (links_at after.nodes) m.parts.links e sender word p.said well.known h.ends refl not_opening posted carried_after

    words_after : AreAllWorded d'.past (length g.repos) (links_at after.nodes)
    words_after = laws.words s d base (links_at after.nodes) m.parts.links e sender word p.said well.known ends_were h.ends h.words refl refl not_opening posted carried_after

    unused_after : AreUnused (links_at after.nodes)
    unused_after = turn_unused r n m was after one h.selves
        (posted_unused r n.parts.links m.parts.links sender kind None c.sent p away (λ f takes. absurd (none-some f takes))
        (λ a v self at. h.selves r a v self (ap (λ (links : List EndView). link_at links a) links_are ∙ at)))

    -- no job runs then

    none_works : works (e ∷ d.past) r ≡ []
    none_works = ap (λ (b : Bool). if b then [] else works d.past r) (eqb_refl r)

    heard_after : HeardSo d'.past r (words_at m.parts.jobs.running)
    heard_after w q among reads = absurd (subst (λ (ws : List Work). Member w ws) none_works among)

    paths_after : IsSound g d' → Each (λ j. HasGiven d' r (given_of j)) m.parts.jobs.running
    paths_after sound_after = subst (λ (jobs : Jobs). Each (λ j. HasGiven d' r (given_of j)) jobs.running) (sym c.jobs) tt
