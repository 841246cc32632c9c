-- The closes of a node's ends, from those of its past and of the parts beside it.
use Rattle.std.proofs.Common.{◌≡◌, ◌≢◌, inl, inr, ℕ, suc, ◌≤◌, ◌<◌, ◌+◌, ◌*◌, Bool, true, false, List, [], ◌∷◌, ◌++◌, All, Option, Some, None, Result, Ok, Err, OnOk, OnErr, drop, get_or, length, map, refl, sym, ap, subst, arith, ◌∙◌, append_assoc}
use borrow.Author.Tests.{ltb-false}
use Rattle.std.specs.Prelude.{if◌then◌else◌, filter, is_some, nat_lt, vec_capacity, vec_len}
use Rattle.std.specs.declared.vec.Vec.{Vec}
use Rattle.std.specs.declared.alloc.Global.{Global}
use Rattle.std.proofs.lemmas.Bool.{cases_Bool}
use Rattle.std.proofs.lemmas.List.{append-nil, drop_all, drop_more, length-append, length-map}
use Rattle.annex_base.specs.Lists.{Each}
use Rattle.annex_base.proofs.Lists.{Each-from_members, Each-member, Each-weaker, Member-append_left, Member-append_right}
use Rattle.run_data.specs.declared.entry.Entry.{Entry}
use Rattle.run_data.specs.declared.entry.EntryKind.TheVariants.{Close}
use Rattle.run_data.specs.declared.entry.FrameText.TheVariants.{Closing}
use Rattle.run_data.specs.declared.entry.FrameView.{FrameView}
use Rattle.run_data.specs.declared.run.RepoView.{RepoView}
use Rattle.object_store.specs.Stores.{Contents, Parts as StoredParts}
use Rattle.object_store.specs.declared.keeper.HoldRecord.{HoldRecord}
use Rattle.content_lock.specs.Stored.{Agrees}
use Rattle.union_merge.specs.Branch.{Files}
use Rattle.link_ring.specs.Ends.{EndView}
use Rattle.node_model.specs.After.{state_after}
use Rattle.node_model.specs.Clocks.{ClockSet}
use Rattle.node_model.specs.Ends.{EndName, frames}
use Rattle.node_model.specs.Look.{Effect}
use Rattle.node_model.specs.OwedLines.{OwedLine}
use Rattle.node_model.specs.Rows.{bar_after, holds_after}
use Rattle.node_model.specs.SetUp.{SetUp}
use Rattle.node_model.specs.State.{State}
use Rattle.node_ends.specs.declared.name.EndId.{EndId}
use Rattle.node_ends.specs.Ends.{IsEndOf, end_at, link_at, name_of}
use Rattle.node_ends.specs.Going.{AreAfter}
use Rattle.node_ends.specs.Joined.{StayPaired, StaysSo}
use Rattle.node_parts.specs.Parts.{AreParts, PartsView}
use Rattle.node_parts.specs.Places.{PlaceView}
use Rattle.node_parts.specs.Posting.{PostsPieces}
use Rattle.node_parts.specs.Running.{Jobs}
use Rattle.node_past.specs.declared.past.Past.{Past}
use Rattle.node_past.specs.declared.setup.Ended.{Ended}
use Rattle.node_past.specs.declared.setup.Setup.{Setup}
use Rattle.node_past.specs.Pasts.{IsReady, SamePast, frames_entry}
use Rattle.node_past.specs.declared.refused.NodeRefused.{NodeRefused}
use Rattle.run_data.specs.Histories.{most_entries}
use Rattle.node_past.proofs.OwedLemmas.{Grows, grows_same}
use Rattle.node_steps.specs.Closing.{Closes, ClosesEach, close_entry, ends_to, open_count}
use Rattle.node_steps.specs.Kept.{IsFed, IsKept}
use Rattle.node_steps.specs.Nodes.{MatchesSetup, IsState, NodeView, state_of}
use Rattle.node_steps.specs.Shutting.{IsListing, Shuts, ShutsEach, ShutsIf, ShutsReady}
use Rattle.node_steps.specs.Turning.{stamp_then}
use Rattle.node_steps.proofs.BeginLemmas.{kept_entered}
use Rattle.node_steps.proofs.MoveLemmas.{same_length, seen, seen_same}
use Rattle.node_steps.proofs.StepLemmas.{FillLaw, state_more}

-- ---- one close

module _ {K : Type 0} (k : K) (a : EndName) (p p' : PartsView) (was now : Past) (branch : Files) (owed : List OwedLine) (shuts : Shuts a p p' was now) where
  abbrev before : NodeView K
  before = seen k p branch was owed

  kind_is : shuts.done.kind ≡ Close a.peer a.slot a.client
  kind_is = ap (λ (m : Effect). m.kind) shuts.made

  taken_is : shuts.done.taken ≡ None
  taken_is = ap (λ (m : Effect). m.taken) shuts.made

  sent_is : shuts.done.sent ≡ frames a (end_at p.links a) (Closing ∷ [])
  sent_is = ap (λ (m : Effect). m.sent) shuts.made

  history_is : now.history.items ≡ was.history.items ++ close_entry before a ∷ []
  history_is = shuts.enters.history ∙ ap (λ (m : Effect). was.history.items ++ frames_entry was m.kind m.taken m.sent ∷ []) shuts.made

  node_is : seen k p' branch now owed ≡ record before { parts = p'; count = was.count + 1; history = was.history.items ++ close_entry before a ∷ [] }
  node_is =
      let e = shuts.enters in
      let h : List Entry = was.history.items ++ close_entry before a ∷ [] in
      let view : Setup → ℕ → ℕ → ClockSet → List Entry → List Ended → NodeView K =
      (λ s t c m x os. record { setup = s; keeper = k; parts = p'; branch = branch; time = t; count = c; clock = m; history = x; outcomes = os; owed = owed }) in
      ap (λ (s : Setup). view s now.time now.count now.clock now.history.items now.outcomes.items) e.setup
      ∙ ap (λ (t : ℕ). view was.setup t now.count now.clock now.history.items now.outcomes.items) e.time
      ∙ ap (λ (c : ℕ). view was.setup was.time c now.clock now.history.items now.outcomes.items) e.count
      ∙ ap (λ (m : ClockSet). view was.setup was.time (was.count + 1) m now.history.items now.outcomes.items) e.clock
      ∙ ap (λ (x : List Entry). view was.setup was.time (was.count + 1) was.clock x now.outcomes.items) history_is
      ∙ ap (λ (os : List Ended). view was.setup was.time (was.count + 1) was.clock h os) (e.outcomes ∙ append-nil was.outcomes.items)

  closes_one : p.jobs.place.number ≡ was.setup.number → Closes a before (seen k p' branch now owed)
  closes_one number = record {
    opened = shuts.opened;
    node = node_is;
    jobs = shuts.jobs;
    ends = subst (λ (m : Effect). AreAfter p.links p'.links m.taken m.sent) shuts.made shuts.leaves.ends;
    posts = λ known.
        subst (λ (m : Effect). PostsPieces (stamp_then before) m.kind p known p'.links m.taken m.sent) shuts.made
        (subst (λ (n : ℕ). PostsPieces (record { time = was.time; count = was.count + 1; repo = n }) shuts.done.kind p known p'.links shuts.done.taken shuts.done.sent) number (shuts.posts known));
  }

  module _ (told : Option Contents) (fills : FillLaw) (kept : IsKept was.setup was.clock was.history.items p branch owed told) where
    abbrev entry : Entry
    entry = close_entry before a

    state_shut : (s : SetUp) → MatchesSetup was.setup s → IsState s p' branch owed told (state_after s (state_of s was.history.items) entry)
    state_shut s fits =
        let is = kept.state s fits in
        record {
          holds = shuts.leaves.holds ∙ (λ i. holds_after (is.holds i) (kind_is i));
          bars = λ key. shuts.leaves.bars key ∙ (λ i. bar_after key (is.bars key i) (kind_is i));
          lines = is.lines;
          stands = λ c known.
              let stands = is.stands c known in
              let parts : AreParts s (state_after s (state_of s was.history.items) entry) p' = shuts.parts s (state_of s was.history.items) entry stands.parts_are (sym kind_is) (sym taken_is) (sym sent_is) in
              record {
                parts_are = parts;
                fills = λ key. fills s (state_after s (state_of s was.history.items) entry) p' key shuts.sound parts;
                stored = record { present = stands.stored.present; content = stands.stored.content };
                owed_are = stands.owed_are;
              };
        }

    longer : length (was.history.items ++ entry ∷ []) ≡ length was.history.items + 1
    longer = length-append was.history.items (entry ∷ [])

    counted : vec_len was.history + 1 + 1 ≡ length (was.history.items ++ entry ∷ []) + 1
    counted = let len = was.history.ok.0 in omega (arith, longer, len)

    begun_still : p'.jobs.begun ≤ length (was.history.items ++ entry ∷ [])
    begun_still = let few = kept.begun in let same = ap (λ (j : Jobs). j.begun) shuts.jobs in omega (arith, few, same, longer)

    kept_shut : IsKept now.setup now.clock now.history.items p' branch owed told
    kept_shut = kept_entered was.setup now.setup was.clock now.clock (was.history.items ++ entry ∷ []) now.history.items p' branch owed owed told shuts.enters.setup shuts.enters.clock history_is refl (record {
      state = λ s fits. subst (IsState s p' branch owed told) (sym (state_more s was.history.items entry)) (state_shut s fits);
      clock = λ s fits. ap (λ (st : State). st.clock) (state_more s was.history.items entry) ∙ kept.clock s fits;
      numbered = subst (λ (n : ℕ). All (λ x. x.number < n) p'.table.holds) counted shuts.leaves.numbers;
      place = ap (λ (j : Jobs). j.place) shuts.jobs ∙ kept.place;
      begun = begun_still;
    })

  grows_shut : Grows was now
  grows_shut = record { setup = shuts.enters.setup; more = close_entry before a ∷ []; history = history_is }

-- ---- all of them

grows_on : (was mid now : Past) → Grows was mid → Grows mid now → Grows was now
grows_on was mid now first second = record {
  setup = second.setup ∙ first.setup;
  more = first.more ++ second.more;
  history = second.history ∙ (ap (λ (h : List Entry). h ++ second.more) first.history ∙ append_assoc was.history.items first.more second.more);
}

stays_same : (o : Option EndView) → StaysSo o o
stays_same None = tt
stays_same (Some v) = λ other pair. pair

stays_on : (a b c : Option EndView) → StaysSo a b → StaysSo b c → StaysSo a c
stays_on None None c p q = q
stays_on None (Some y) c p q = absurd p
stays_on (Some x) None c p q = absurd p
stays_on (Some x) (Some y) None p q = q
stays_on (Some x) (Some y) (Some z) p q = λ other pair. q other (p other pair)

-- an end at another repository
pub record IsOther (setup : Setup) (a : EndName) : Type 0 where
  pub peer : a.peer < length setup.repos
  pub other : a.peer ≢ setup.number
  pub slot : a.slot < 4

end_of : (setup : Setup) (s : SetUp) (a : EndName) → MatchesSetup setup s → IsOther setup a → IsEndOf s a
end_of setup s a fits is =
    let count : length setup.repos ≡ length s.repos = ap (λ (ids : List (List ℕ)). length ids) (sym fits.ids) ∙ length-map s.repos (λ (repo : RepoView). repo.id) in
    record {
      peer = subst (λ (n : ℕ). a.peer < n) count is.peer;
      other = λ same. is.other (same ∙ fits.number);
      slot = is.slot;
    }

-- what these closes leave
pub record ClosedSo {K : Type 0} (k : K) (ends : List EndName) (p p' : PartsView) (was now : Past) (branch : Files) (owed : List OwedLine) (told : Option Contents) : Type 0 where
  pub kept : IsKept now.setup now.clock now.history.items p' branch owed told
  pub closes : ClosesEach told ends (seen k p branch was owed) (seen k p' branch now owed)
  pub fed : (stored : Option StoredParts) → IsFed stored p → IsFed stored p'
  pub agrees : (known : Option (List HoldRecord)) → Agrees known p.table.holds → Agrees known p'.table.holds
  pub grows : Grows was now
  pub paired : StayPaired p.links p'.links

closed_none : {K : Type 0} (k : K) (p : PartsView) (was : Past) (branch : Files) (owed : List OwedLine) (told : Option Contents) → IsKept was.setup was.clock was.history.items p branch owed told → ClosedSo k [] p p was was branch owed told
closed_none k p was branch owed told kept = record {
  kept = kept;
  closes = refl;
  fed = λ stored fed. fed;
  agrees = λ known agrees. agrees;
  grows = grows_same was was (record { setup = refl; time = refl; clock = refl; count = refl; history = refl; outcomes = refl });
  paired = λ a. stays_same (link_at p.links a);
}

-- one more
closed_shut : {K : Type 0} (k : K) (a : EndName) (ends : List EndName) (p mid p' : PartsView) (was past now : Past) (branch : Files) (owed : List OwedLine) (told : Option Contents) → p.jobs.place.number ≡ was.setup.number → Shuts a p mid was past
    → ClosedSo k ends mid p' past now branch owed told → ClosedSo k (a ∷ ends) p p' was now branch owed told
closed_shut k a ends p mid p' was past now branch owed told number shuts rest = record {
  kept = rest.kept;
  closes = (seen k mid branch past owed, inl (closes_one k a p mid was past branch owed shuts number), rest.closes);
  fed = λ stored fed. rest.fed stored (λ q known. shuts.fed q (fed q known));
  agrees = λ known agrees. rest.agrees known (shuts.agrees known agrees);
  grows = grows_on was past now (grows_shut k a p mid was past branch owed shuts) rest.grows;
  paired = λ b. stays_on (link_at p.links b) (link_at mid.links b) (link_at p'.links b) (shuts.paired b) (rest.paired b);
}

-- or it was none
closed_kept : {K : Type 0} (k : K) (a : EndName) (ends : List EndName) (p p' : PartsView) (was now : Past) (branch : Files) (owed : List OwedLine) (told : Option Contents) → IsOther was.setup a → IsKept was.setup was.clock was.history.items p branch owed told
    → ((s : SetUp) (st : State) → AreParts s st p → IsEndOf s a → (end_at p.links a).opened ≡ false) → ClosedSo k ends p p' was now branch owed told → ClosedSo k (a ∷ ends) p p' was now branch owed told
closed_kept k a ends p p' was now branch owed told other kept shut rest = record {
  kept = rest.kept;
  closes = (
    seen k p branch was owed,
    inr (record { node = refl; shut = λ c known s fits. shut s (state_of s was.history.items) ((kept.state s fits).stands c known).parts_are (end_of was.setup s a fits other) }),
    rest.closes,
  );
  fed = rest.fed;
  agrees = rest.agrees;
  grows = rest.grows;
  paired = rest.paired;
}

pub closed_each : {K : Type 0} (k : K) (ends : List EndName) (p p' : PartsView) (was now : Past) (branch : Files) (owed : List OwedLine) (told : Option Contents) → FillLaw → Each (IsOther was.setup) ends → ShutsEach ends p p' was now
    → IsKept was.setup was.clock was.history.items p branch owed told → ClosedSo k ends p p' was now branch owed told
closed_each {K} k [] p p' was now branch owed told fills others shut kept =
    subst (λ (q : PartsView). ClosedSo k [] p q was now branch owed told) (sym shut.0) (subst (λ (x : Past). ClosedSo k [] p p was x branch owed told) (sym shut.1) (closed_none k p was branch owed told kept))
closed_each {K} k (a ∷ ends) p p' was now branch owed told fills others shut kept =
    let mid = shut.0 in
    let past = shut.1 in
    elim shut.2 [
      | inl shuts ↦
          closed_shut k a ends p mid p' was past now branch owed told (ap (λ (x : PlaceView). x.number) kept.place) shuts
          (closed_each k ends mid p' past now branch owed told fills (subst (λ (x : Setup). Each (IsOther x) ends) (sym shuts.enters.setup) others.1) shut.3 (kept_shut k a p mid was past branch owed shuts told fills kept))
      | inr keeps ↦
          closed_kept k a ends p p' was now branch owed told others.0 kept keeps.shut
          (closed_each k ends p p' was now branch owed told fills others.1 (subst (λ (q : PartsView). ShutsEach ends q p' was now) keeps.parts (subst (λ (x : Past). ShutsEach ends mid p' x now) keeps.past shut.3)) kept)
    ]

-- ---- one after the other

-- of the parts and the past after one close
longer_past : (was now : Past) (e : Entry) → now.history.items ≡ was.history.items ++ e ∷ [] → vec_len now.history ≡ vec_len was.history + 1
longer_past was now e is = now.history.ok.0 ∙ (ap (λ (h : List Entry). length h) is ∙ (length-append was.history.items (e ∷ []) ∙ ap (λ (n : ℕ). n + 1) (sym was.history.ok.0)))

open_more : (links : List EndView) (a : EndName) (ends : List EndName) → (end_at links a).opened ≡ true → open_count links (a ∷ ends) ≡ suc (open_count links ends)
open_more links a ends is = ap (λ (b : Bool). length (if b then a ∷ filter (λ x. (end_at links x).opened) ends else filter (λ x. (end_at links x).opened) ends)) is

open_same : (links : List EndView) (a : EndName) (ends : List EndName) → (end_at links a).opened ≡ false → open_count links (a ∷ ends) ≡ open_count links ends
open_same links a ends is = ap (λ (b : Bool). length (if b then a ∷ filter (λ x. (end_at links x).opened) ends else filter (λ x. (end_at links x).opened) ends)) is

open_least : (links : List EndView) (a : EndName) (ends : List EndName) → open_count links ends ≤ open_count links (a ∷ ends)
open_least links a ends = elim (cases_Bool (end_at links a).opened) [
  | inl is ↦ let more = open_more links a ends is in omega (arith, more)
  | inr is ↦ let same = open_same links a ends is in omega (arith, same)
]

open_fewer : (links links' : List EndView) (ends : List EndName) → ((b : EndName) → (end_at links' b).opened ≡ true → (end_at links b).opened ≡ true) → open_count links' ends ≤ open_count links ends
open_fewer links links' [] opens = omega arith
open_fewer links links' (a ∷ ends) opens =
    let rest = open_fewer links links' ends opens in
    elim (cases_Bool (end_at links' a).opened) [
      | inl is ↦ (let now = open_more links' a ends is in let was = open_more links a ends (opens a is) in omega (arith, now, was, rest))
      | inr is ↦ (let now = open_same links' a ends is in let was = open_least links a ends in omega (arith, now, was, rest))
    ]

pub shut_few : (a : EndName) (p p' : PartsView) (was now : Past) (ends : List EndName) → ShutsIf a p p' was now → vec_len now.history + open_count p'.links ends ≤ vec_len was.history + open_count p.links (a ∷ ends)
shut_few a p p' was now ends shut = elim shut [
  | inl shuts ↦
      (let len = longer_past was now (frames_entry was shuts.done.kind shuts.done.taken shuts.done.sent) shuts.enters.history in
      let more = open_more p.links a ends shuts.opened in
      let fewer = open_fewer p.links p'.links ends shuts.opens in
      omega (arith, len, more, fewer))
  | inr keeps ↦
      (let len = ap (λ (x : Past). vec_len x.history) keeps.past in
      let same = ap (λ (q : PartsView). open_count q.links ends) keeps.parts in
      let least = open_least p.links a ends in
      omega (arith, len, same, least))
]

pub shut_length : (a : EndName) (p p' : PartsView) (was now : Past) → ShutsIf a p p' was now → vec_len now.history ≤ vec_len was.history + 1
shut_length a p p' was now shut = elim shut [
  | inl shuts ↦ (let len = longer_past was now (frames_entry was shuts.done.kind shuts.done.taken shuts.done.sent) shuts.enters.history in omega (arith, len))
  | inr keeps ↦ (let len = ap (λ (x : Past). vec_len x.history) keeps.past in omega (arith, len))
]

pub shut_numbers : (a : EndName) (p p' : PartsView) (was now : Past) → ShutsIf a p p' was now → All (λ h. h.number < vec_len was.history + 1) p.table.holds → All (λ h. h.number < vec_len now.history + 1) p'.table.holds
shut_numbers a p p' was now shut numbers = elim shut [
  | inl shuts ↦
      subst (λ (n : ℕ). All (λ h. h.number < n + 1) p'.table.holds) (sym (longer_past was now (frames_entry was shuts.done.kind shuts.done.taken shuts.done.sent) shuts.enters.history)) shuts.leaves.numbers
  | inr keeps ↦
      subst (λ (x : Past). All (λ h. h.number < vec_len x.history + 1) p'.table.holds) (sym keeps.past) (subst (λ (q : PartsView). All (λ h. h.number < vec_len was.history + 1) q.table.holds) (sym keeps.parts) numbers)
]

stays_there : (a b : Option EndView) → StaysSo a b → is_some a ≡ true → is_some b ≡ true
stays_there None b stays is = absurd cc
stays_there (Some v) None stays is = absurd stays
stays_there (Some v) (Some w) stays is = refl

pub shut_there : (a : EndName) (p p' : PartsView) (was now : Past) (ids : List EndId) → ShutsIf a p p' was now → Each (λ (id : EndId). is_some (link_at p.links (name_of id)) ≡ true) ids → Each (λ (id : EndId). is_some (link_at p'.links (name_of id)) ≡ true) ids
shut_there a p p' was now ids shut there = elim shut [
  | inl shuts ↦
      Each-weaker (λ (id : EndId). is_some (link_at p.links (name_of id)) ≡ true) (λ (id : EndId). is_some (link_at p'.links (name_of id)) ≡ true)
      (λ id is. stays_there (link_at p.links (name_of id)) (link_at p'.links (name_of id)) (shuts.paired (name_of id)) is) ids there
  | inr keeps ↦ subst (λ (q : PartsView). Each (λ (id : EndId). is_some (link_at q.links (name_of id)) ≡ true) ids) (sym keeps.parts) there
]

-- whatever closes the ends that are left closes all
abbrev pub ShutsOn : List EndId → List EndId → PartsView → PartsView → Past → Past → Type 0
ShutsOn all left first p past was = (q : PartsView) (last : Past) → ShutsEach (map name_of left) p q was last → ShutsEach (map name_of all) first q past last

pub shut_on : (all : List EndId) (id : EndId) (left : List EndId) (first p p' : PartsView) (past was now : Past) → ShutsOn all (id ∷ left) first p past was → ShutsIf (name_of id) p p' was now → ShutsOn all left first p' past now
shut_on all id left first p p' past was now closes shut = λ q last rest. closes q last (p', now, shut, rest)

-- the first of the ends that are left
pub next_end : (ids : List EndId) (i : ℕ) (x : EndId) → i < length ids → x ≡ get_or ids i x → drop i ids ≡ x ∷ drop (i + 1) ids
next_end ids i x below at = drop_more ids i x below ∙ ap (λ (y : EndId). y ∷ drop (i + 1) ids) (sym at)

-- with room for what is left, its first has its place where it is open
pub ready_next : (p : PartsView) (past : Past) (x : EndId) (left : List EndId) (n : ℕ) → vec_len past.history + open_count p.links (map name_of (x ∷ left)) ≤ most_entries → vec_len past.history + n ≤ vec_capacity past.history → 0 < n
    → (end_at p.links (name_of x)).opened ≡ true → IsReady past
ready_next p past x left n few room some opened =
    let more = open_more p.links (name_of x) (map name_of left) opened in
    record { room = omega (arith, room, some); few = omega (arith, few, more) }

pub all_shut : (ids : List EndId) (i : ℕ) (first p : PartsView) (past was : Past) → length ids ≤ i → ShutsOn ids (drop i ids) first p past was → ShutsEach (map name_of ids) first p past was
all_shut ids i first p past was over closes = subst (λ (xs : List EndId). ShutsOn ids xs first p past was) (drop_all i ids over) closes p was (refl, refl)

-- one more was counted
pub open_next : (links : List EndView) (a : EndName) (ends : List EndName) (b : Bool) → b ≡ (end_at links a).opened → (n : ℕ) → n ≡ (if b then 1 else 0) → (open_count links (a ∷ ends) ≡ n + open_count links ends) × (n ≤ 1)
open_next links a ends true is n one = (let more = open_more links a ends (sym is) in omega (arith, more, one), omega (arith, one))
open_next links a ends false is n none = (let same = open_same links a ends (sym is) in omega (arith, same, none), omega (arith, none))

pub all_counted : (ids : List EndId) (i : ℕ) (links : List EndView) (n : ℕ) → length ids ≤ i → n + open_count links (map name_of (drop i ids)) ≡ open_count links (map name_of ids) → n ≡ open_count links (map name_of ids)
all_counted ids i links n over counts =
    let none = ap (λ (xs : List EndId). open_count links (map name_of xs)) (drop_all i ids over) in
    omega (arith, none, counts)

-- ---- lists

pub last_listing : (lists : List (Vec FrameView Global)) (v : Vec FrameView Global) → Each IsListing (lists ++ v ∷ []) → IsListing v × Each IsListing lists
last_listing lists v each = (
  Each-member IsListing (lists ++ v ∷ []) v each (Member-append_right lists (v ∷ []) v (inl refl)),
  Each-from_members IsListing lists (λ x among. Each-member IsListing (lists ++ v ∷ []) x each (Member-append_left lists (v ∷ []) x among)),
)

-- ---- all ends at one repository

each_named : (P : EndName → Type 0) (ids : List EndId) → Each P (map name_of ids) → Each (λ (id : EndId). P (name_of id)) ids
each_named P [] each = tt
each_named P (x ∷ xs) each = (each.0, each_named P xs each.1)

each_end : (P : EndName → Type 0) (peer : ℕ) → ((slot : ℕ) (client : Bool) → slot < 4 → P (record { peer = peer; slot = slot; client = client })) → Each P (ends_to peer)
each_end P peer each = (
  each 0 true (omega arith),
  (each 1 true (omega arith), (each 2 true (omega arith), (each 3 true (omega arith), (each 0 false (omega arith), (each 1 false (omega arith), (each 2 false (omega arith), (each 3 false (omega arith), tt))))))),
)

-- what a law says of them
abbrev pub ThereLaw : Type 0
ThereLaw = (links : List EndView) (count : ℕ) (a : EndName) → length links ≡ count * 8 → a.peer < count → a.slot < 4 → is_some (link_at links a) ≡ true

pub ids_there : ThereLaw → (links : List EndView) (count peer : ℕ) (ids : List EndId) → map name_of ids ≡ ends_to peer → length links ≡ count * 8 → peer < count → Each (λ (id : EndId). is_some (link_at links (name_of id)) ≡ true) ids
ids_there law links count peer ids names whole known = each_named (λ a. is_some (link_at links a) ≡ true) ids
    (subst (λ (ends : List EndName). Each (λ a. is_some (link_at links a) ≡ true) ends) (sym names)
    (each_end (λ a. is_some (link_at links a) ≡ true) peer (λ slot client low. law links count (record { peer = peer; slot = slot; client = client }) whole known low)))

ends_others : (setup : Setup) (peer : ℕ) → peer < length setup.repos → peer ≢ setup.number → Each (IsOther setup) (ends_to peer)
ends_others setup peer known other = each_end (IsOther setup) peer (λ slot client low. record { peer = known; other = other; slot = low })

-- ---- as many places as are open

-- where this many are open, the history lacks places for them, or it doesn't
pub lacks_so : (n opened : ℕ) (links : List EndView) (names ends : List EndName) (b : Bool) → names ≡ ends → opened ≡ open_count links names → b ≡ nat_lt most_entries (n + opened) → nat_lt most_entries (n + open_count links ends) ≡ b
lacks_so n opened links names ends b same count is =
    ap (λ (xs : List EndName). nat_lt most_entries (n + open_count links xs)) (sym same) ∙ (ap (λ (m : ℕ). nat_lt most_entries (n + m)) (sym count) ∙ sym is)

pub few_places : (was ready : Past) (opened : ℕ) (links : List EndView) (names : List EndName) (b : Bool) → SamePast was ready → opened ≡ open_count links names → b ≡ nat_lt most_entries (vec_len was.history + opened) → b ≡ false
    → vec_len ready.history + open_count links names ≤ most_entries
few_places was ready opened links names b same count is none =
    let len = same_length was ready same in
    let few = ltb-false most_entries (vec_len was.history + opened) (sym is ∙ none) in
    omega (arith, len, few, count)

-- ---- the call

-- after a refusal nothing has changed
pub record CalledSo {K : Type 0} (k : K) (r : Result (Unit {0}) NodeRefused) (peer : ℕ) (p p' : PartsView) (was now : Past) (branch : Files) (owed : List OwedLine) (told : Option Contents) : Type 0 where
  pub kept : IsKept now.setup now.clock now.history.items p' branch owed told
  pub ok : OnOk r (ClosesEach told (ends_to peer) (seen k p branch was owed) (seen k p' branch now owed))
  pub err : OnErr r (seen k p' branch now owed ≡ seen k p branch was owed)
  pub fed : (stored : Option StoredParts) → IsFed stored p → IsFed stored p'
  pub agrees : (known : Option (List HoldRecord)) → Agrees known p.table.holds → Agrees known p'.table.holds
  pub grows : Grows was now
  pub paired : StayPaired p.links p'.links

kept_same : (was ready : Past) (p : PartsView) (branch : Files) (owed : List OwedLine) (told : Option Contents) → SamePast was ready → IsKept was.setup was.clock was.history.items p branch owed told → IsKept ready.setup ready.clock ready.history.items p branch owed told
kept_same was ready p branch owed told same kept = kept_entered was.setup ready.setup was.clock ready.clock was.history.items ready.history.items p branch owed owed told same.setup same.clock same.history refl kept

ready_same : {K : Type 0} (k : K) (was ready : Past) (p : PartsView) (branch : Files) (owed : List OwedLine) → SamePast was ready → seen k p branch ready owed ≡ seen k p branch was owed
ready_same k was ready p branch owed same = seen_same k k p p branch was ready owed owed (seen k p branch was owed) refl refl same refl

pub called : {K : Type 0} (k : K) (r : Result (Unit {0}) NodeRefused) (peer : ℕ) (p p' : PartsView) (was now : Past) (branch : Files) (owed : List OwedLine) (told : Option Contents) → FillLaw → peer < length was.setup.repos → peer ≢ was.setup.number
    → OnOk r (ShutsReady (ends_to peer) p p' was now) → OnErr r ((p' ≡ p) × SamePast was now) → IsKept was.setup was.clock was.history.items p branch owed told → CalledSo k r peer p p' was now branch owed told
called {K} k (Ok x) peer p p' was now branch owed told fills known other ok err kept =
    let ready = ok.0 in
    let same = ok.1 in
    let others = subst (λ (s : Setup). Each (IsOther s) (ends_to peer)) (sym same.setup) (ends_others was.setup peer known other) in
    let closed = closed_each k (ends_to peer) p p' ready now branch owed told fills others ok.2 (kept_same was ready p branch owed told same kept) in
    record {
      kept = closed.kept;
      ok = subst (λ (n : NodeView K). ClosesEach told (ends_to peer) n (seen k p' branch now owed)) (ready_same k was ready p branch owed same) closed.closes;
      err = tt;
      fed = closed.fed;
      agrees = closed.agrees;
      grows = grows_on was ready now (grows_same was ready same) closed.grows;
      paired = closed.paired;
    }
called {K} k (Err e) peer p p' was now branch owed told fills known other ok err kept =
    let same = err.1 in
    record {
      kept = subst (λ (q : PartsView). IsKept now.setup now.clock now.history.items q branch owed told) (sym err.0) (kept_same was now p branch owed told same kept);
      ok = tt;
      err = ap (λ (q : PartsView). seen k q branch now owed) err.0 ∙ ready_same k was now p branch owed same;
      fed = λ stored fed. subst (IsFed stored) (sym err.0) fed;
      agrees = λ known agrees. subst (λ (q : PartsView). Agrees known q.table.holds) (sym err.0) agrees;
      grows = grows_same was now same;
      paired = subst (λ (q : PartsView). StayPaired p.links q.links) (sym err.0) (λ a. stays_same (link_at p.links a));
    }
