-- How the flights change by a frame that is taken or sent, and by an entry.
use Rattle.std.proofs.Common.{◌≡◌, ℕ, ◌+◌, ◌<◌, ◌≤◌, Bool, true, false, cond, List, [], ◌∷◌, ◌++◌, drop, get_or, length, length-drop, map, Option, Some, None, refl, sym, ap, subst, ◌∙◌, arith}
use Rattle.std.specs.Prelude.{◌&&◌, ◌==◌, filter, if◌then◌else◌}
use Rattle.std.proofs.lemmas.Bool.{and_parts, eqb-true}
use Rattle.std.proofs.lemmas.List.{drop_more, length-map}
use Rattle.std.proofs.lemmas.List.Elements.{filter-append}
use Rattle.std.specs.Option.{option_to_list}
use Rattle.annex_base.specs.Bools.{same_bool}
use Rattle.annex_base.specs.declared.kinds.Word.{Word}
use Rattle.run_data.specs.declared.entry.Entry.{Entry}
use Rattle.run_data.specs.declared.entry.FrameText.{FrameText}
use Rattle.run_data.specs.declared.entry.FrameView.{FrameView}
use Rattle.node_model.specs.Rows.{option_is}
use Rattle.run_model.specs.Frames.{Way, is_on, on_way, sender_of, taker_of, takes, way_of}
use Rattle.run_model.specs.Past.{is_of}
use Rattle.run_model.specs.Words.{word_of_kind}
use Rattle.step_judging.specs.Carried as carried
use Rattle.step_judging.specs.Carried.{WaitingFrame, flight_after, flight_sent, flight_took, is_first, waits_as}
use Rattle.step_judging.specs.Same.{same_body}
use Rattle.annex_base.proofs.Lists.{Each-weaker, cons_first, cons_rest}
use Rattle.state_flights.specs.Flights.{HasRoomFor, HaveLess, HaveSame, bodies_of, flight_on, room_on, took_on, waits_on, waits_with}
use Rattle.state_flights.specs.Tables.{flight_at, room_at}
use Rattle.state_flights.specs.Ways.{opening_of, same_opening, same_way, way_sent}
use Rattle.state_flights.specs.declared.flights.Flights.{Flights}
use Rattle.state_flights.specs.declared.opening.Opening.{Opening}

-- ---- both directions

and_true : (b : Bool) → (b && true) ≡ b
and_true true = refl
and_true false = refl

and_false : (b : Bool) → (b && false) ≡ false
and_false true = refl
and_false false = refl

abbrev Flying : Type 0
Flying = Opening → carried.Flight

-- those of one direction change so at the opening of a way
abbrev pub ChangesAt : (Bool → carried.Flight → carried.Flight) → Flying → Flying → Way → Type 0
ChangesAt g was now a = (other : Opening) → now other ≡ g (same_opening (opening_of a) other) (was other)

module _ (g : Bool → carried.Flight → carried.Flight) (stays : (y : carried.Flight) → g false y ≡ y) (was now : Flying) (a : Way) (changes : ChangesAt g was now a) where
  here : (up : Bool) (w : Way) → a.up ≡ up → now (opening_of w) ≡ g (same_opening (opening_of a) (opening_of w) && same_bool a.up up) (was (opening_of w))
  here up w is =
      changes (opening_of w)
      ∙ ap (λ (b : Bool). g b (was (opening_of w))) (sym (ap (λ (c : Bool). same_opening (opening_of a) (opening_of w) && same_bool c up) is ∙ same up))
    where
      same : (c : Bool) → (same_opening (opening_of a) (opening_of w) && same_bool c c) ≡ same_opening (opening_of a) (opening_of w)
      same true = and_true (same_opening (opening_of a) (opening_of w))
      same false = and_true (same_opening (opening_of a) (opening_of w))

  pub up_changes : (down : Flying) → a.up ≡ true → (w : Way) → (if w.up then now (opening_of w) else down (opening_of w)) ≡ g (same_way a w) (if w.up then was (opening_of w) else down (opening_of w))
  up_changes down is w = go w.up
    where
      go : (up : Bool) → (if up then now (opening_of w) else down (opening_of w)) ≡ g (same_opening (opening_of a) (opening_of w) && same_bool a.up up) (if up then was (opening_of w) else down (opening_of w))
      go true = here true w is
      go false = sym (ap (λ (b : Bool). g (same_opening (opening_of a) (opening_of w) && same_bool b false) (down (opening_of w))) is
          ∙ ap (λ (b : Bool). g b (down (opening_of w))) (and_false (same_opening (opening_of a) (opening_of w))) ∙ stays (down (opening_of w)))

  pub down_changes : (up : Flying) → a.up ≡ false → (w : Way) → (if w.up then up (opening_of w) else now (opening_of w)) ≡ g (same_way a w) (if w.up then up (opening_of w) else was (opening_of w))
  down_changes up is w = go w.up
    where
      go : (u : Bool) → (if u then up (opening_of w) else now (opening_of w)) ≡ g (same_opening (opening_of a) (opening_of w) && same_bool a.up u) (if u then up (opening_of w) else was (opening_of w))
      go false = here false w is
      go true = sym (ap (λ (b : Bool). g (same_opening (opening_of a) (opening_of w) && same_bool b true) (up (opening_of w))) is
          ∙ ap (λ (b : Bool). g b (up (opening_of w))) (and_false (same_opening (opening_of a) (opening_of w))) ∙ stays (up (opening_of w)))

-- the frames of the way are those of its direction
pub there_up : {X : Type 0} (up down : Opening → X) (a : Way) (at : Opening) → at ≡ opening_of a → a.up ≡ true → up at ≡ (if a.up then up (opening_of a) else down (opening_of a))
there_up up down a at is goes = ap up is ∙ sym (ap (λ (b : Bool). if b then up (opening_of a) else down (opening_of a)) goes)

pub there_down : {X : Type 0} (up down : Opening → X) (a : Way) (at : Opening) → at ≡ opening_of a → a.up ≡ false → down at ≡ (if a.up then up (opening_of a) else down (opening_of a))
there_down up down a at is goes = ap down is ∙ sym (ap (λ (b : Bool). if b then up (opening_of a) else down (opening_of a)) goes)

-- room that is left in one direction is left
pub up_left : (less : ℕ) (was now down : Opening → ℕ) → ((other : Opening) → was other ≤ now other + less) → (w : Way)
    → (if w.up then was (opening_of w) else down (opening_of w)) ≤ (if w.up then now (opening_of w) else down (opening_of w)) + less
up_left less was now down left w = go w.up
  where
    go : (up : Bool) → (if up then was (opening_of w) else down (opening_of w)) ≤ (if up then now (opening_of w) else down (opening_of w)) + less
    go true = left (opening_of w)
    go false = omega arith

pub down_left : (less : ℕ) (was now up : Opening → ℕ) → ((other : Opening) → was other ≤ now other + less) → (w : Way)
    → (if w.up then up (opening_of w) else was (opening_of w)) ≤ (if w.up then up (opening_of w) else now (opening_of w)) + less
down_left less was now up left w = go w.up
  where
    go : (u : Bool) → (if u then up (opening_of w) else was (opening_of w)) ≤ (if u then up (opening_of w) else now (opening_of w)) + less
    go true = omega arith
    go false = left (opening_of w)

-- those of a direction that stay
pub up_stay : (was now down : Flying) → ((other : Opening) → now other ≡ was other) → (w : Way) → (if w.up then now (opening_of w) else down (opening_of w)) ≡ (if w.up then was (opening_of w) else down (opening_of w))
up_stay was now down same w = ap (λ (x : carried.Flight). if w.up then x else down (opening_of w)) (same (opening_of w))

pub down_stay : (was now up : Flying) → ((other : Opening) → now other ≡ was other) → (w : Way) → (if w.up then up (opening_of w) else now (opening_of w)) ≡ (if w.up then up (opening_of w) else was (opening_of w))
down_stay was now up same w = ap (λ (x : carried.Flight). if w.up then up (opening_of w) else x) (same (opening_of w))

-- the frame that may be taken has the next number
pub next_number : (xs : List WaitingFrame) (n : ℕ) (f : FrameView) → is_first xs n f ≡ true → f.seq ≡ n + 1
next_number [] n f is = absurd (cc)
next_number (x ∷ xs) n f is = eqb-true f.seq (n + 1) (and_parts (f.seq == n + 1) (same_body x.body f.body) is).0

-- ---- the way of a frame

five : (a b c d : Bool) → (a && (b && (c && (true && d)))) ≡ ((a && (b && (c && d))) && true)
five a b c d = sym (and_true (a && (b && (c && d))))

six : (a b c d : Bool) → (a && (b && (c && (true && d)))) ≡ ((b && (a && (c && d))) && true)
six a b c d = swap a b ∙ sym (and_true (b && (a && (c && d))))
  where
    swap : (x y : Bool) → (x && (y && (c && d))) ≡ (y && (x && (c && d)))
    swap true true = refl
    swap true false = refl
    swap false true = refl
    swap false false = refl

never : (a b c d x : Bool) → (a && (b && (c && (false && d)))) ≡ (x && false)
never a b c d x = none a b c ∙ sym (and_false x)
  where
    none : (u v w : Bool) → (u && (v && (w && false))) ≡ false
    none true true true = refl
    none true true false = refl
    none true false w = refl
    none false v w = refl

-- the entry of r takes a frame of the way exactly where it is the frame's
pub takes_way : (r : ℕ) (f : FrameView) (w : Way) → ((r == taker_of w) && is_on w (sender_of w) f) ≡ same_way (way_of r f) w
takes_way r f w = go f.up w.up
  where
    go : (u v : Bool) → ((r == (if v then w.server else w.client)) && ((f.peer == (if v then w.client else w.server)) && ((f.slot == w.slot) && (same_bool u v && (f.epoch == w.epoch)))))
        ≡ ((((if u then f.peer else r) == w.client) && (((if u then r else f.peer) == w.server) && ((f.slot == w.slot) && (f.epoch == w.epoch)))) && same_bool u v)
    go true true = six (r == w.server) (f.peer == w.client) (f.slot == w.slot) (f.epoch == w.epoch)
    go false false = five (r == w.client) (f.peer == w.server) (f.slot == w.slot) (f.epoch == w.epoch)
    go true false = never (r == w.client) (f.peer == w.server) (f.slot == w.slot) (f.epoch == w.epoch) ((f.peer == w.client) && ((r == w.server) && ((f.slot == w.slot) && (f.epoch == w.epoch))))
    go false true = never (r == w.server) (f.peer == w.client) (f.slot == w.slot) (f.epoch == w.epoch) ((r == w.client) && ((f.peer == w.server) && ((f.slot == w.slot) && (f.epoch == w.epoch))))

-- and so does what it sends
pub sends_way : (r : ℕ) (f : FrameView) (w : Way) → ((r == sender_of w) && is_on w (taker_of w) f) ≡ same_way (way_sent r f) w
sends_way r f w = go f.up w.up
  where
    go : (u v : Bool) → ((r == (if v then w.client else w.server)) && ((f.peer == (if v then w.server else w.client)) && ((f.slot == w.slot) && (same_bool u v && (f.epoch == w.epoch)))))
        ≡ ((((if u then r else f.peer) == w.client) && (((if u then f.peer else r) == w.server) && ((f.slot == w.slot) && (f.epoch == w.epoch)))) && same_bool u v)
    go true true = five (r == w.client) (f.peer == w.server) (f.slot == w.slot) (f.epoch == w.epoch)
    go false false = six (r == w.server) (f.peer == w.client) (f.slot == w.slot) (f.epoch == w.epoch)
    go true false = never (r == w.server) (f.peer == w.client) (f.slot == w.slot) (f.epoch == w.epoch) ((r == w.client) && ((f.peer == w.server) && ((f.slot == w.slot) && (f.epoch == w.epoch))))
    go false true = never (r == w.client) (f.peer == w.server) (f.slot == w.slot) (f.epoch == w.epoch) ((f.peer == w.client) && ((r == w.server) && ((f.slot == w.slot) && (f.epoch == w.epoch))))

took_is : (r : ℕ) (o : Option FrameView) (w : Way) → ((r == taker_of w) && takes w o) ≡ took_on r o w
took_is r None w = and_false (r == taker_of w)
took_is r (Some f) w = takes_way r f w

-- ---- frames that are sent, one after the other

pub sent_none : (x : carried.Flight) → flight_sent true [] x ≡ x
sent_none x = ap (λ xs. record { waiting = xs; taken = x.taken }) (append_none x.waiting)
  where
    append_none : (xs : List WaitingFrame) → xs ++ [] ≡ xs
    append_none [] = refl
    append_none (y ∷ ys) = ap (λ zs. y ∷ zs) (append_none ys)

sent_twice : (xs ys : List WaitingFrame) (x : carried.Flight) → flight_sent true ys (flight_sent true xs x) ≡ flight_sent true (xs ++ ys) x
sent_twice xs ys x = ap (λ zs. record { waiting = zs; taken = x.taken }) (both x.waiting)
  where
    both : (zs : List WaitingFrame) → (zs ++ xs) ++ ys ≡ zs ++ (xs ++ ys)
    both [] = refl
    both (z ∷ zs) = ap (λ us. z ∷ us) (both zs)

map_both : (word : Option Word) (fs gs : List FrameView) → map (waits_with word) (fs ++ gs) ≡ map (waits_with word) fs ++ map (waits_with word) gs
map_both word [] gs = refl
map_both word (f ∷ fs) gs = ap (λ xs. waits_with word f ∷ xs) (map_both word fs gs)

pub sent_more : (r : ℕ) (word : Option Word) (fs : List FrameView) (f : FrameView) (w : Way) (x : carried.Flight)
    → flight_sent (same_way (way_sent r f) w) (waits_with word f ∷ []) (flight_sent true (waits_on r word fs w) x) ≡ flight_sent true (waits_on r word (fs ++ f ∷ []) w) x
sent_more r word fs f w x =
    one (same_way (way_sent r f) w)
    ∙ sent_twice (waits_on r word fs w) (map (waits_with word) (cond (same_way (way_sent r f) w) (f ∷ []) [])) x
    ∙ ap (λ xs. flight_sent true xs x) (sym (ap (map (waits_with word)) (filter-append (λ g. same_way (way_sent r g) w) fs (f ∷ [])) ∙ map_both word (filter (λ g. same_way (way_sent r g) w) fs) (cond (same_way (way_sent r f) w) (f ∷ []) [])))
  where
    one : (b : Bool) → flight_sent b (waits_with word f ∷ []) (flight_sent true (waits_on r word fs w) x) ≡ flight_sent true (map (waits_with word) (cond b (f ∷ []) [])) (flight_sent true (waits_on r word fs w) x)
    one true = refl
    one false = sym (sent_none (flight_sent true (waits_on r word fs w) x))

-- ---- an entry

-- where the sender isn't r, none of its frames is of the way
none_on : (r : ℕ) (fs : List FrameView) (w : Way) → (r == sender_of w) ≡ false → filter (λ f. same_way (way_sent r f) w) fs ≡ []
none_on r [] w apart = refl
none_on r (f ∷ fs) w apart = ap (λ (b : Bool). cond b (f ∷ filter (λ g. same_way (way_sent r g) w) fs) (filter (λ g. same_way (way_sent r g) w) fs)) off ∙ none_on r fs w apart
  where
    off : same_way (way_sent r f) w ≡ false
    off = sym (sends_way r f w) ∙ ap (λ (b : Bool). b && is_on w (taker_of w) f) apart

-- and where it is, those that are on it
all_on : (r : ℕ) (fs : List FrameView) (w : Way) → (r == sender_of w) ≡ true → filter (λ f. same_way (way_sent r f) w) fs ≡ filter (is_on w (taker_of w)) fs
all_on r [] w is = refl
all_on r (f ∷ fs) w is =
    ap (λ (b : Bool). cond b (f ∷ filter (λ g. same_way (way_sent r g) w) fs) (filter (λ g. same_way (way_sent r g) w) fs)) on
    ∙ ap (λ (gs : List FrameView). cond (is_on w (taker_of w) f) (f ∷ gs) gs) (all_on r fs w is)
  where
    on : same_way (way_sent r f) w ≡ is_on w (taker_of w) f
    on = sym (sends_way r f w) ∙ ap (λ (b : Bool). b && is_on w (taker_of w) f) is

sent_is : (r : ℕ) (kind_word : Option Word) (fs : List FrameView) (w : Way) (x : carried.Flight)
    → flight_sent true (waits_on r kind_word fs w) x ≡ flight_sent (r == sender_of w) (map (waits_with kind_word) (filter (is_on w (taker_of w)) fs)) x
sent_is r word fs w x = go (r == sender_of w) refl
  where
    go : (b : Bool) → (r == sender_of w) ≡ b → flight_sent true (waits_on r word fs w) x ≡ flight_sent b (map (waits_with word) (filter (is_on w (taker_of w)) fs)) x
    go true is = ap (λ gs. flight_sent true (map (waits_with word) gs) x) (all_on r fs w is)
    go false apart = ap (λ gs. flight_sent true (map (waits_with word) gs) x) (none_on r fs w apart) ∙ sent_none x

-- the flights after an entry of r
pub after_entry : (r : ℕ) (e : Entry) (w : Way) (was mid now : carried.Flight) → e.repo ≡ Some r
    → mid ≡ flight_took (took_on r e.taken w) was → now ≡ flight_sent true (waits_on r (word_of_kind e.kind) e.sent w) mid
    → now ≡ flight_after w was e
after_entry r e w was mid now own took sent =
    sent ∙ sent_is r (word_of_kind e.kind) e.sent w mid
    ∙ ap (flight_sent (r == sender_of w) (map (waits_as e.kind) (on_way w e))) (took ∙ ap (λ (b : Bool). flight_took b was) (sym (took_is r e.taken w)))
    ∙ ap (λ (o : Option ℕ). flight_sent (option_is o (sender_of w)) (map (waits_as e.kind) (on_way w e)) (flight_took (option_is o (taker_of w) && takes w e.taken) was)) (sym own)

-- ---- tables that stay

pub same_rooms : (was now : Flights) → HaveSame was now → (w : Way) → room_on now w ≡ room_on was w
same_rooms was now same w =
    ap (λ entries. if w.up then room_at entries (opening_of w) else room_at now.down.entries (opening_of w)) same.up
    ∙ ap (λ entries. if w.up then room_at was.up.entries (opening_of w) else room_at entries (opening_of w)) same.down

pub same_flights : (was now : Flights) → HaveSame was now → (w : Way) → flight_on now w ≡ flight_on was w
same_flights was now same w =
    ap (λ entries. if w.up then flight_at entries (opening_of w) else flight_at now.down.entries (opening_of w)) same.up
    ∙ ap (λ entries. if w.up then flight_at was.up.entries (opening_of w) else flight_at entries (opening_of w)) same.down

-- where there is more room than before there is enough
pub more_room : (r count : ℕ) (frames : List FrameView) (was now : Flights) → HaveLess 0 was now → HasRoomFor r frames count was → HasRoomFor r frames count now
more_room r count frames was now more enough =
    Each-weaker (λ f. count ≤ room_on was (way_sent r f)) (λ f. count ≤ room_on now (way_sent r f)) (λ f low. let left = more (way_sent r f) in omega (arith, low, left)) frames enough

-- and for one frame less, where there is one less
pub less_room : (r count : ℕ) (frames : List FrameView) (was now : Flights) → HaveLess 1 was now → HasRoomFor r frames (count + 1) was → HasRoomFor r frames count now
less_room r count frames was now less enough =
    Each-weaker (λ f. count + 1 ≤ room_on was (way_sent r f)) (λ f. count ≤ room_on now (way_sent r f)) (λ f low. let left = less (way_sent r f) in omega (arith, low, left)) frames enough

pub fewer : (r count less : ℕ) (frames : List FrameView) (x : Flights) → less ≤ count → HasRoomFor r frames count x → HasRoomFor r frames less x
fewer r count less frames x le enough =
    Each-weaker (λ f. count ≤ room_on x (way_sent r f)) (λ f. less ≤ room_on x (way_sent r f)) (λ f low. omega (arith, low, le)) frames enough

-- ---- what the frames carry that are still to be sent

pub some_bodies : (bodies : List FrameText) (frames : List FrameView) (i : ℕ) → bodies ≡ bodies_of (drop i frames) → i < length frames → 0 < length bodies
some_bodies bodies frames i is within =
    let long = length-map (drop i frames) (λ (f : FrameView). f.body) in
    let cut = length-drop i frames in
    let same = ap length is in
    omega (arith, long, cut, same, within)

pub first_body : (popped : Option FrameText) (body : FrameText) (old new : List FrameText) (frames : List FrameView) (i : ℕ) (f : FrameView)
    → popped ≡ Some body → old ≡ option_to_list popped ++ new → old ≡ bodies_of (drop i frames) → i < length frames → f ≡ get_or frames i f
    → (body ≡ f.body) × (new ≡ bodies_of (drop (i + 1) frames))
first_body popped body old new frames i f is items bodies within at =
    let both : body ∷ new ≡ f.body ∷ bodies_of (drop (i + 1) frames) =
    sym (ap (λ (o : Option FrameText). option_to_list o ++ new) is) ∙ sym items ∙ bodies ∙ ap bodies_of (drop_more frames i f within)
    ∙ ap (λ (g : FrameView). g.body ∷ bodies_of (drop (i + 1) frames)) (sym at) in
    (cons_first body f.body new (bodies_of (drop (i + 1) frames)) both, cons_rest body f.body new (bodies_of (drop (i + 1) frames)) both)
