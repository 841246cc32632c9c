-- The bytes of the piece that a turn takes, at a node's end and in the driver.
use Rattle.std.proofs.Common.{◌≡◌, ℕ, Bool, true, false, List, [], ◌∷◌, length, map, Option, Some, None, refl, sym, ap, ◌∙◌}
use Rattle.std.specs.Prelude.{filter, find, if◌then◌else◌, nat_lt, option_and_then, slice_get}
use Rattle.std.specs.Option.{option_map, option_map_or}
use Rattle.std.proofs.lemmas.Option.{same_Some, slice_get-map}
use Rattle.annex_base.proofs.Conditions.{not_by_if}
use Rattle.annex_base.proofs.Lists.{find-filter}
use Rattle.link_ring.specs.declared.frame.Body.{Body}
use Rattle.link_ring.specs.declared.frame.Body.TheVariants as bodies
use Rattle.link_ring.specs.declared.frame.Frame.{Frame}
use Rattle.link_ring.specs.Ends.{EndView, after_drop, is_taken, next_frame}
use Rattle.run_data.specs.declared.entry.FrameText.TheVariants as texts
use Rattle.run_data.specs.declared.entry.FrameView.{FrameView}
use Rattle.node_model.specs.Ends.{EndName, may_take}
use Rattle.link_ring.specs.Places.{end_place}
use Rattle.node_ends.specs.Ends.{end_at, frame_at, if_may, link_at, text_in, wait_at}
use Rattle.node_sessions.specs.Stored.{bytes_at, bytes_of}
use Rattle.joined_nodes.specs.PartStored as stored
use Rattle.joined_nodes.specs.PartStored.{end_of_frame}
use Rattle.driver_model.specs.Driver.{Flight, end_to, is_at}
use Rattle.driver_model.specs.Turning as turning
use Rattle.link_flights.specs.Flights.{HasAtHand, bytes_in, comes_to, flight_at}

-- ---- the first of a list

abbrev anything : {X : Type 0} → X → Bool
anything x = true

first_of_filter : {X : Type 0} (p : X → Bool) (xs : List X) → find anything (filter p xs) ≡ find p xs
first_of_filter p [] = refl
first_of_filter p (x ∷ xs) = go (p x) refl (first_of_filter p xs)
  where
    go : (b : Bool) → p x ≡ b → find anything (filter p xs) ≡ find p xs → find anything (filter p (x ∷ xs)) ≡ find p (x ∷ xs)
    go true e rest = rw e refl
    go false e rest = rw e rest

first_of_map : {X Y : Type 0} (f : X → Y) (xs : List X) → find anything (map f xs) ≡ option_map f (find anything xs)
first_of_map f [] = refl
first_of_map f (x ∷ xs) = refl

-- ---- the bytes

same_end : (f : FrameView) → end_of_frame f ≡ end_to f
same_end f = λ i. record { peer = f.peer; slot = f.slot; client = not_by_if f.up i }

same_body : (body : Body) → bytes_in body ≡ bytes_of body
same_body bodies.Open = refl
same_body (bodies.Line text) = refl
same_body (bodies.Bytes bytes) = refl
same_body bodies.Close = refl

same_bytes : (r : ℕ) (a : EndName) (o : Option Frame) → turning.bytes_of (option_map (flight_at r a) o) ≡ option_map_or (λ (f : Frame). bytes_of f.body) o []
same_bytes r a None = refl
same_bytes r a (Some x) = same_body x.body

pub link_dropped : (links : List EndView) (a : EndName) → link_at (map after_drop links) a ≡ option_map after_drop (link_at links a)
link_dropped links a = go (nat_lt a.slot 4)
  where
    go : (b : Bool) → (if b then slice_get (map after_drop links) (end_place a.peer a.slot a.client) else None) ≡ option_map after_drop (if b then slice_get links (end_place a.peer a.slot a.client) else None)
    go true = slice_get-map after_drop links (end_place a.peer a.slot a.client)
    go false = refl

-- at an end whose frames at hand are the flights that come to it
pub taken_bytes : (r : ℕ) (xs : List Flight) (links : List EndView) (f : FrameView) (v : EndView) → link_at links (end_to f) ≡ Some v → HasAtHand xs r (end_to f) (after_drop v)
    → stored.bytes_taken (map after_drop links) (Some f) ≡ turning.bytes_of (find (is_at r f) xs)
taken_bytes r xs links f v there hand =
    ap (bytes_at (map after_drop links)) (same_end f)
    ∙ (ap (λ (o : Option EndView). option_map_or (λ (f : Frame). bytes_of f.body) (option_and_then next_frame o) []) (link_dropped links (end_to f) ∙ ap (option_map after_drop) there)
    ∙ (sym (same_bytes r (end_to f) (next_frame (after_drop v))) ∙ ap turning.bytes_of (sym first)))
  where
    first : find (is_at r f) xs ≡ option_map (flight_at r (end_to f)) (next_frame (after_drop v))
    first =
        sym (first_of_filter (comes_to r (end_to f)) xs)
        ∙ (ap (find anything) (sym hand)
        ∙ (first_of_map (flight_at r (end_to f)) (after_drop v).at_hand
        ∙ ap (option_map (flight_at r (end_to f))) (first_of_filter (is_taken v) v.at_hand ∙ sym (find-filter (is_taken v) v.at_hand))))

-- ---- their count

body_long : (body : Body) (n : ℕ) → text_in body ≡ texts.Bytes n → length (bytes_of body) ≡ n
body_long bodies.Open n e = absurd (cc)
body_long (bodies.Line text) n e = absurd (cc)
body_long (bodies.Bytes bytes) n e = cc
body_long bodies.Close n e = absurd (cc)

-- of a piece that waits there are as many bytes as it says
waits_long : (links : List EndView) (a : EndName) (f : FrameView) (n : ℕ) → wait_at links a ≡ Some f → f.body ≡ texts.Bytes n → length (bytes_at links a) ≡ n
waits_long links a f n waits body = go (option_and_then next_frame (link_at links a)) waits
  where
    go : (o : Option Frame) → option_and_then (if_may (end_at links a)) (option_map (frame_at a) o) ≡ Some f → length (option_map_or (λ (x : Frame). bytes_of x.body) o []) ≡ n
    go None e = absurd (cc)
    go (Some x) e = by_test (may_take (end_at links a) (frame_at a x)) e
      where
        by_test : (b : Bool) → (if b then Some (frame_at a x) else None) ≡ Some f → length (bytes_of x.body) ≡ n
        by_test true e = body_long x.body n (ap (λ (y : FrameView). y.body) (same_Some (frame_at a x) f e) ∙ body)
        by_test false e = absurd (cc)

pub taken_long : (r : ℕ) (xs : List Flight) (links : List EndView) (f : FrameView) (v : EndView) (n : ℕ) → link_at links (end_to f) ≡ Some v → HasAtHand xs r (end_to f) (after_drop v)
    → wait_at (map after_drop links) (end_to f) ≡ Some f → f.body ≡ texts.Bytes n → length (turning.bytes_of (find (is_at r f) xs)) ≡ n
taken_long r xs links f v n there hand waits body =
    ap length (sym (taken_bytes r xs links f v there hand) ∙ ap (bytes_at (map after_drop links)) (same_end f)) ∙ waits_long (map after_drop links) (end_to f) f n waits body
