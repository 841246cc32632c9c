-- A node closes its ends of the connections with another, one after the other, as the driver does.
use Rattle.std.proofs.Common.{◌≡◌, ◌≢◌, ◌⊎◌, inl, inr, ℕ, ◌+◌, ◌*◌, ◌<◌, Bool, true, false, not, List, [], ◌∷◌, ◌++◌, Option, Some, None, length, map, refl, sym, ap, ◌∙◌, subst}
use Rattle.std.specs.Prelude.{fold, if◌then◌else◌, is_some}
use Rattle.std.specs.Option.{option_map}
use Rattle.annex_base.specs.Lists.{Each, Member}
use Rattle.annex_base.specs.declared.kinds.EntryStamp.{EntryStamp}
use Rattle.annex_base.specs.declared.kinds.Word.{Word}
use Rattle.annex_base.proofs.Conditions.{eqb_refl, not_not}
use Rattle.link_ring.specs.Ends.{EndView, after_carry}
use Rattle.object_store.specs.Stores.{Contents}
use Rattle.run_data.specs.declared.entry.Entry.{Entry}
use Rattle.run_data.specs.declared.entry.EntryKind.{EntryKind}
use Rattle.run_data.specs.declared.entry.EntryKind.TheVariants as kinds
use Rattle.run_data.specs.declared.entry.FrameView.{FrameView}
use Rattle.run_model.specs.Logs.{branch, branch_after}
use Rattle.run_model.specs.States as runs
use Rattle.node_model.specs.AnyTime.{all_ends, close_at}
use Rattle.node_model.specs.Ends.{End, EndName, end_after, end_sends, is_opening, sent_at}
use Rattle.node_model.specs.SetUp.{SetUp}
use Rattle.node_model.specs.State.{State}
use Rattle.node_ends.specs.declared.sending.Sending.{Sending}
use Rattle.node_ends.specs.declared.sending.Sending.TheVariants as sendings
use Rattle.node_ends.specs.Sent.{text_of_sending}
use Rattle.node_ends.specs.Ends.{AreEnds, IsEndOf, end_at, end_in, link_at}
use Rattle.node_ends.specs.Joined.{end_with, link_carried}
use Rattle.joined_nodes.specs.Closing.{Closes, ClosesEach, LeavesShut, close_entry}
use Rattle.joined_nodes.specs.Nodes.{NodeView}
use Rattle.joined_nodes.specs.Posting.{Posts, word_with}
use Rattle.joined_nodes.specs.Stored.{StoreView}
use Rattle.joined_nodes.specs.Turning.{stamp_then}
use Rattle.driver_model.specs.Driver.{Driver, DriverInput, adds, entry, piece_of, set_up_of, state_at}
use Rattle.driver_model.specs.ScriptSteps.{closes_each, closes_end, sends}
use Rattle.link_flights.specs.Entries.{SendsInOrder, link_after}
use Rattle.link_flights.specs.Fleets.{AreAllCarried, AreEndsIn, PostsAsDefined}
use Rattle.link_flights.specs.Words.{AreAllWorded}
use Rattle.fleet_model.proofs.CloseEnds.{BothThere, IsThere, SaysClose, StaysCarried, after_close, after_none, all_carried, both_carried, carried_stands, carry_closed, carry_to_closed, closed, closing, no_pieces, posted_elsewhere, posted_here, says_close, there_is}
use Rattle.fleet_model.proofs.LinkSets.{across, end_set, others_unset, pair_carried, pair_long, same_or_not, set_end, with_pair}
use Rattle.fleet_model.proofs.Noting.{IsRaised, own_more}

-- the laws of ends that are closed
pub record CloseLaws : Type 0 where
  pub in_order : (s : SetUp) (st : State) (a b : EndName) → SendsInOrder (st.ends a) a None (close_at s st b)
  pub ends : (s : SetUp) (st : State) (d : Driver) (was now : ℕ → List EndView) (mine : List EndView) (e : Entry) (sender : EntryStamp) (word : EndName → Sending → Option Word) (said : EndName → List Sending)
      → s.number < length s.repos → AreEndsIn d.flights (length s.repos) was → e.taken ≡ None → Each (λ f. is_opening f.body ≡ false) e.sent
      → PostsAsDefined s st d sender word said (was s.number) mine e → AreAllCarried (length s.repos) s.number mine was now → AreEndsIn (adds st s.number e d).flights (length s.repos) now
  pub words : (s : SetUp) (d : Driver) (was now : ℕ → List EndView) (mine : List EndView) (e : Entry) (sender : EntryStamp) (word : EndName → Sending → Option Word) (said : EndName → List Sending)
      → s.number < length s.repos → AreEnds (was s.number) s (runs.state_of s d.past) → AreEndsIn d.flights (length s.repos) was → AreAllWorded d.past (length s.repos) was → e.repo ≡ Some s.number → e.taken ≡ None
      → Each (λ f. is_opening f.body ≡ false) e.sent → PostsAsDefined s (runs.state_of s d.past) d sender word said (was s.number) mine e → AreAllCarried (length s.repos) s.number mine was now
      → AreAllWorded (e ∷ d.past) (length s.repos) now
  pub stays : StaysCarried
  pub numbers : (s : SetUp) (a : EndName) → Member a (all_ends s) → IsEndOf s a
  pub there : (links : List EndView) (count : ℕ) (a : EndName) → length links ≡ count * 8 → a.peer < count → a.slot < 4 → is_some (link_at links a) ≡ true

-- an end at another repository
pub record IsAway (count r : ℕ) (a : EndName) : Type 0 where
  pub peer : a.peer < count
  pub other : a.peer ≢ r
  pub slot : a.slot < 4

-- The node has closed some ends, and so has the driver. If frames were carried between its ends and those that others had, these ends came
-- of them, which are as the flights tell.
pub record IsClosing {K : Type 0} (tells : K → StoreView) (g : DriverInput) (r : ℕ) (n : NodeView K) (base : ℕ → List EndView) (d : Driver) (m : NodeView K) : Type 0 where
  pub raised : IsRaised tells g d r m
  pub jobs : m.parts.jobs ≡ n.parts.jobs
  pub long : length m.parts.links ≡ length g.repos * 8
  pub states : (a : EndName) → IsAway (length g.repos) r a → runs.end_at d.past r a ≡ end_at m.parts.links a
  pub selves : (a : EndName) → a.peer ≡ r → link_at m.parts.links a ≡ link_at n.parts.links a
  pub ends : ℕ → List EndView
  pub ends_long : length (ends r) ≡ length g.repos * 8
  pub carried : AreAllCarried (length g.repos) r m.parts.links base ends
  pub flights : AreEndsIn d.flights (length g.repos) ends
  pub words : AreAllWorded d.past (length g.repos) ends

-- each other repository has ends at r
abbrev pub OthersThere : ℕ → ℕ → (ℕ → List EndView) → Type 0
OthersThere count r base = (q slot : ℕ) (client : Bool) → q < count → q ≢ r → slot < 4 → IsThere (link_at (base q) (end_with r slot client))

module _ {K : Type 0} (laws : CloseLaws) (tells : K → StoreView) (g : DriverInput) (r : ℕ) (n : NodeView K) (base : ℕ → List EndView) (known : r < length g.repos) (others : OthersThere (length g.repos) r base) where
  abbrev Stands : Driver → NodeView K → Type 0
  Stands d m = IsClosing tells g r n base d m

  own_there : (d : Driver) (m : NodeView K) → Stands d m → (q slot : ℕ) (client : Bool) → q < length g.repos → q ≢ r → slot < 4 → IsThere (link_at m.parts.links (end_with q slot client))
  own_there d m h q slot client within other low = there_is _ (laws.there m.parts.links (length g.repos) (end_with q slot client) h.long within low)

  ends_there : (d : Driver) (m : NodeView K) (h : Stands d m) → BothThere (length g.repos) r h.ends
  ends_there d m h = both_carried (length g.repos) r m.parts.links base h.ends h.carried (own_there d m h) others

  -- those ends stand as the driver says
  ends_stand : (d : Driver) (m : NodeView K) (h : Stands d m) → AreEnds (h.ends r) (set_up_of g d r) (state_at g d r)
  ends_stand d m h = record {
    count = h.ends_long;
    ends = λ a among.
        let is = laws.numbers (set_up_of g d r) a among in
        h.states a (record { peer = is.peer; other = is.other; slot = is.slot })
        ∙ sym (ap end_in (h.carried.own a.peer a.slot a.client is.peer is.other is.slot)
        ∙ carried_stands _ _ (own_there d m h a.peer a.slot a.client is.peer is.other is.slot) (others a.peer a.slot (not a.client) is.peer is.other is.slot));
  }

  -- ---- an end that was open

  closed_one : (a : EndName) (d : Driver) (m m' : NodeView K) → IsAway (length g.repos) r a → Stands d m → Closes a m m' → Stands (closes_end g r a d) m'
  closed_one a d m m' away h c = subst (λ (x : Driver). Stands x m') (sym is)
      (record {
        raised = raised_now;
        jobs = c.jobs ∙ h.jobs;
        long = p.count ∙ h.long;
        states = states_now;
        selves = λ b own. posted_elsewhere a b (end_at m.parts.links a) sender kind m.parts.links m'.parts.links p (λ (same : b ≡ a). away.other (ap (λ (x : EndName). x.peer) (sym same) ∙ own)) ∙ h.selves b own;
        ends = now;
        ends_long = pair_long h.ends r a y z v w away.slot away.other v_at w_at ∙ h.ends_long;
        carried = pair_carried h.ends r a y z v w away.slot away.other v_at w_at (length g.repos) base m.parts.links m'.parts.links (closed x.0 sender) b.0 h.carried
            (λ q other. posted_elsewhere a q (end_at m.parts.links a) sender kind m.parts.links m'.parts.links p other) (posted_here a (end_at m.parts.links a) sender kind m.parts.links m'.parts.links x.0 p x.1) b.1 refl refl;
        flights = laws.ends s st d h.ends now mine e sender word p.said known h.flights refl not_opening posted carried_now;
        words = laws.words s d h.ends now mine e sender word p.said known (ends_stand d m h) h.flights h.words refl refl not_opening posted carried_now;
      })
    where
      s : SetUp
      s = set_up_of g d r

      st : State
      st = state_at g d r

      kind : EntryKind
      kind = kinds.Close a.peer a.slot a.client

      e : Entry
      e = record (entry d r kind []) { sent = closing a (runs.end_at d.past r a) }

      sender : EntryStamp
      sender = stamp_then m

      word : EndName → Sending → Option Word
      word q = word_with q None kind

      same_end : runs.end_at d.past r a ≡ end_at m.parts.links a
      same_end = h.states a away

      opened : (runs.end_at d.past r a).opened ≡ true
      opened = ap (λ (x : End). x.opened) same_end ∙ c.opened

      is : closes_end g r a d ≡ adds st r e d
      is = ap (λ (t : Bool). if t then adds (state_at g d r) r (record (entry d r (kinds.Close a.peer a.slot a.client) []) { sent = if t then closing a (runs.end_at d.past r a) else [] }) d else d) opened

      p : Posts sender kind m.parts.links m'.parts.links None (closing a (end_at m.parts.links a))
      p = (c.posts None).posts

      -- the node

      entry_is : close_entry m a ≡ e
      entry_is = λ i. record {
        time = h.raised.entries.time i;
        count = h.raised.entries.count i + 1;
        repo = Some (sym h.raised.entries.setup.number i);
        kind = kinds.Close a.peer a.slot a.client;
        taken = None;
        sent = closing a (sym same_end i);
        lines = [];
      }

      raised_now : IsRaised tells g (adds st r e d) r m'
      raised_now = subst (λ (x : NodeView K). IsRaised tells g (adds st r e d) r x) (sym c.node)
          (record {
            entries = record {
              setup = record { number = h.raised.entries.setup.number; ids = h.raised.entries.setup.ids; offset = h.raised.entries.setup.offset; version = h.raised.entries.setup.version; locks = h.raised.entries.setup.locks };
              history = ap (λ (x : Entry). m.history ++ x ∷ []) entry_is ∙ (ap (λ (xs : List Entry). xs ++ e ∷ []) h.raised.entries.history ∙ sym (own_more r e d.past (eqb_refl r)));
              branch = h.raised.entries.branch ∙ sym (ap (λ (t : Bool). if t then branch_after (branch d.past r) (kinds.Close a.peer a.slot a.client) [] else branch d.past r) (eqb_refl r));
              time = h.raised.entries.time;
              count = ap (λ (k : ℕ). k + 1) h.raised.entries.count;
            };
            store = record { contents = h.raised.store.contents; parts = h.raised.store.parts; failing = h.raised.store.failing };
          })

      states_now : (q : EndName) → IsAway (length g.repos) r q → runs.end_at (e ∷ d.past) r q ≡ end_at m'.parts.links q
      states_now q far =
          ap (λ (t : Bool). if t then end_after q (runs.end_at d.past r q) e else runs.end_at d.past r q) (eqb_refl r)
          ∙ ((λ i. fold (λ (k : End) (f : FrameView). end_sends k f.body) (h.states q far i) (sent_at q (closing a (same_end i)))) ∙ sym (c.ends.ends q))

      -- both ends of the connection

      x : IsThere (link_at m.parts.links a)
      x = own_there d m h a.peer a.slot a.client away.peer away.other away.slot

      b : IsThere (link_at (base a.peer) (across r a))
      b = others a.peer a.slot (not a.client) away.peer away.other away.slot

      v : EndView
      v = after_carry x.0 b.0

      w : EndView
      w = after_carry b.0 x.0

      y : EndView
      y = after_carry (closed x.0 sender) b.0

      z : EndView
      z = after_carry b.0 (closed x.0 sender)

      v_at : link_at (h.ends r) a ≡ Some v
      v_at = h.carried.own a.peer a.slot a.client away.peer away.other away.slot ∙ (λ i. link_carried (x.1 i) (b.1 i))

      w_at : link_at (h.ends a.peer) (across r a) ≡ Some w
      w_at = h.carried.theirs a.peer a.slot (not a.client) away.peer away.other away.slot
          ∙ (λ i. link_carried (b.1 i) ((ap (λ (t : Bool). link_at m.parts.links (end_with a.peer a.slot t)) (not_not a.client) ∙ x.1) i))

      now : ℕ → List EndView
      now = with_pair h.ends r a y z

      mine : List EndView
      mine = set_end (h.ends r) a (closed v sender)

      carried_now : AreAllCarried (length g.repos) r mine h.ends now
      carried_now = pair_carried h.ends r a y z v w away.slot away.other v_at w_at (length g.repos) h.ends (h.ends r) mine (closed v sender) w
          (all_carried laws.stays d (length g.repos) r h.ends known h.flights (ends_there d m h)) (λ q other. others_unset (h.ends r) a q (closed v sender) away.slot other)
          (end_set (h.ends r) a (closed v sender) v away.slot v_at) w_at (carry_closed sender x.0 b.0) (carry_to_closed sender x.0 b.0)

      -- what was sent

      says : SaysClose a p.said
      says = says_close a (end_at m.parts.links a) sender kind m.parts.links m'.parts.links p

      not_opening : Each (λ f. is_opening f.body ≡ false) e.sent
      not_opening = (refl, tt)

      sent_is : close_at s st a ≡ e.sent
      sent_is = ap (λ (t : Bool). if t then closing a (runs.end_at d.past r a) else []) opened

      either : (q : EndName) → (p.said q ≡ []) ⊎ (p.said q ≡ sendings.Close ∷ [])
      either q = elim (same_or_not a q) [
        | inl same ↦ inr (ap p.said same ∙ says.here)
        | inr other ↦ inl (says.elsewhere q other)
      ]

      listed : (q : EndName) → map text_of_sending (p.said q) ≡ map (λ (f : FrameView). f.body) (sent_at q e.sent)
      listed q = p.listed q ∙ ap (λ (k : End). map (λ (f : FrameView). f.body) (sent_at q (closing a k))) (sym same_end)

      links_now : (q : EndName) → link_at mine q ≡ option_map (link_after sender (word q) q None (p.said q)) (link_at (h.ends r) q)
      links_now q = elim (same_or_not a q) [
        | inl same ↦ subst (λ (k : EndName). link_at mine k ≡ option_map (link_after sender (word_with k None kind) k None (p.said k)) (link_at (h.ends r) k)) (sym same)
            (end_set (h.ends r) a (closed v sender) v away.slot v_at
            ∙ sym (ap (option_map (link_after sender (word_with a None kind) a None (p.said a))) v_at ∙ after_close sender (word_with a None kind) a (p.said a) v says.here refl))
        | inr other ↦ others_unset (h.ends r) a q (closed v sender) away.slot other ∙ sym (after_none sender (word_with q None kind) q (p.said q) (link_at (h.ends r) q) (says.elsewhere q other))
      ]

      posted : PostsAsDefined s st d sender word p.said (h.ends r) mine e
      posted = record {
        posts = λ q u among at. record {
          takes = tt;
          listed = listed q;
          in_order = subst (λ (k : End). SendsInOrder k q None e.sent) ((ends_stand d m h).ends q among ∙ ap end_in at)
              (subst (λ (sent : List FrameView). SendsInOrder (st.ends q) q None sent) sent_is (laws.in_order s st q a));
          pieces = no_pieces (λ f. piece_of d st r f f.body) (sent_at q e.sent) (p.said q) (either q) (listed q);
        };
        links = links_now;
      }

  -- ---- an end that wasn't

  left_one : (a : EndName) (d : Driver) (m m' : NodeView K) (told : Option Contents) → IsThere told → Stands d m → IsAway (length g.repos) r a → LeavesShut told a m m' → Stands (closes_end g r a d) m'
  left_one a d m m' told known_told h away c = subst (λ (x : NodeView K). Stands (closes_end g r a d) x) (sym c.node) (subst (λ (x : Driver). Stands x m) (sym is) h)
    where
      shut : (runs.end_at d.past r a).opened ≡ false
      shut = ap (λ (x : End). x.opened) (h.states a away) ∙ c.shut known_told.0 known_told.1 (set_up_of g d r) h.raised.entries.setup

      is : closes_end g r a d ≡ d
      is = ap (λ (t : Bool). if t then sends g r (kinds.Close a.peer a.slot a.client) (close_at (set_up_of g d r) (state_at g d r) a) d else d) shut

  pub closed_each : (told : Option Contents) → IsThere told → (ends : List EndName) (d : Driver) (m m' : NodeView K) → Each (IsAway (length g.repos) r) ends → Stands d m → ClosesEach told ends m m' → Stands (closes_each g r ends d) m'
  closed_each told known_told [] d m m' away h c = subst (λ (x : NodeView K). Stands d x) (sym c) h
  closed_each told known_told (a ∷ ends) d m m' away h c =
      closed_each told known_told ends (closes_end g r a d) c.0 m' away.1
      (elim (c.1) [
        | inl closes ↦ closed_one a d m c.0 away.0 h closes
        | inr leaves ↦ left_one a d m c.0 told known_told h away.0 leaves
      ])
      c.2
