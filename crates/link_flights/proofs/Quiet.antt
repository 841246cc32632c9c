-- What leaves the flights as they are.
use Rattle.std.proofs.Common.{◌≡◌, ℕ, zero, suc, Bool, true, false, List, [], ◌∷◌, ◌++◌, Option, Some, None, refl, sym, ap, ◌∙◌, subst}
use Rattle.std.specs.Prelude.{◌*◌, if◌then◌else◌, map, nat_lt, replicate, slice_get}
use Rattle.std.proofs.lemmas.List.{append-nil}
use Rattle.link_ring.specs.Ends.{EndView, fresh}
use Rattle.link_ring.specs.Places.{end_place}
use Rattle.annex_base.proofs.Conditions.{if_either}
use Rattle.run_data.specs.declared.entry.Entry.{Entry}
use Rattle.run_data.specs.declared.entry.EntryKind.{EntryKind}
use Rattle.run_data.specs.declared.entry.EntryKind.TheVariants as kinds
use Rattle.run_data.specs.declared.entry.FrameView.{FrameView}
use Rattle.run_data.specs.declared.entry.FrameText.{FrameText}
use Rattle.run_data.specs.declared.entry.FrameText.TheVariants as texts
use Rattle.node_model.specs.Ends.{EndName}
use Rattle.node_model.specs.Look.{Look, Effect, entry_of}
use Rattle.node_model.specs.Sessions.{line_in, message_said}
use Rattle.node_model.specs.State.{State}
use Rattle.driver_model.specs.Driver.{Driver, Flight, adds, at_first, but_taken, flight}
use Rattle.driver_model.specs.Turning.{asked_key, bytes_taken, is_failure, is_valid, makes, store_after, takes_frame, takes_into}
use Rattle.link_flights.specs.Fleets.{AreEndsIn}
use Rattle.link_flights.specs.Flights.{IsEndIn}
use Rattle.node_ends.specs.Ends.{link_at}

pub first_none : (r : ℕ) (a : EndName) → IsEndIn at_first.flights r a fresh
first_none r a = record { at_hand = refl; on_way = refl; used = refl }

fresh_at : (n i : ℕ) (v : EndView) → slice_get (replicate n fresh) i ≡ Some v → v ≡ fresh
fresh_at zero i v is = absurd (cc)
fresh_at (suc n) zero v is = cc
fresh_at (suc n) (suc i) v is = fresh_at n i v is

-- each end is fresh at first
pub end_first : (count : ℕ) (a : EndName) (v : EndView) → link_at (replicate (count * 8) fresh) a ≡ Some v → v ≡ fresh
end_first count a v is = go (nat_lt a.slot 4) is
  where
    go : (b : Bool) → (if b then slice_get (replicate (count * 8) fresh) (end_place a.peer a.slot a.client) else None) ≡ Some v → v ≡ fresh
    go true at = fresh_at (count * 8) (end_place a.peer a.slot a.client) v at
    go false at = absurd (cc)

pub all_first : (count : ℕ) → AreEndsIn at_first.flights count (λ q. replicate (count * 8) fresh)
all_first count q a v within peer apart is = subst (λ (w : EndView). IsEndIn [] q a w) (sym (end_first count a v is)) (first_none q a)

pub entry_quiet : (d : Driver) (st : State) (r : ℕ) (e : Entry) → e.taken ≡ None → e.sent ≡ [] → (adds st r e d).flights ≡ d.flights
entry_quiet d st r e none nothing =
    ap (λ (o : Option FrameView). but_taken r o d.flights ++ map (flight d st r) e.sent) none
    ∙ ap (λ (fs : List FrameView). d.flights ++ map (flight d st r) fs) nothing ∙ append-nil d.flights

-- the flights are these
abbrev Flies : List Flight → Driver → Type 0
Flies xs d = d.flights ≡ xs

into_flights : (r : ℕ) (key bytes : List ℕ) (body : FrameText) (sent : List FrameView) (d : Driver) → Flies d.flights (takes_into r key bytes body sent d)
into_flights r key bytes texts.Opening sent d = refl
into_flights r key bytes texts.Closing sent d = refl
into_flights r key bytes (texts.Bytes n) [] d = refl
into_flights r key bytes (texts.Bytes n) (f ∷ sent) d = refl
into_flights r key bytes (texts.Line text) sent d =
    if_either (Flies d.flights) (is_valid (line_in (texts.Line text))) _ _
    (λ is. if_either (Flies d.flights) (is_failure (message_said sent)) _ _ (λ i. refl) (λ i. refl)) (λ is. refl)

frame_flights : (r : ℕ) (bytes : List ℕ) (key : Option (List ℕ)) (taken : Option FrameView) (sent : List FrameView) (d : Driver) → Flies d.flights (takes_frame r bytes key taken sent d)
frame_flights r bytes None taken sent d = refl
frame_flights r bytes (Some key) None sent d = refl
frame_flights r bytes (Some key) (Some f) sent d = into_flights r key bytes f.body sent d

pub store_flights : (d : Driver) (st : State) (r : ℕ) (m : Effect) (bytes : List ℕ) (kind : EntryKind) → (store_after st r m bytes kind d).flights ≡ d.flights
store_flights d st r m bytes (kinds.Gain by size key) = refl
store_flights d st r m bytes (kinds.Gone by key) = refl
store_flights d st r m bytes (kinds.Talk job) = frame_flights r bytes (asked_key st m) m.taken m.sent d
store_flights d st r m bytes (kinds.Fault call by) = refl
store_flights d st r m bytes kind = refl

pub made_flights : (st : State) (r : ℕ) (k : Look) (m : Effect) (d : Driver) → (makes st r k (Some m) d).flights ≡ (adds st r (entry_of r k m) d).flights
made_flights st r k m d = store_flights (adds st r (entry_of r k m) d) st r m (bytes_taken r m.taken d) m.kind
