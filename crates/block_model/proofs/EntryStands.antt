-- One more entry of a block keeps the driver sound.
use Rattle.std.proofs.Common.{◌≡◌, ◌≢◌, ℕ, ◌<◌, ◌≤◌, ◌^◌, Bool, true, false, List, [], ◌∷◌, ◌++◌, Option, Some, None, ◌⊎◌, inl, inr, refl, sym, ap, ◌∙◌, subst, arith}
use Rattle.std.specs.Prelude.{cond, find, length, map}
use Rattle.std.proofs.lemmas.Bool.{eqb-true}
use Rattle.std.proofs.lemmas.List.{reverse-reverse}
use Rattle.annex_base.specs.Lists.{Each}
use Rattle.annex_base.specs.declared.kinds.Word.{Word}
use Rattle.annex_base.proofs.Conditions.{eqb_refl}
use Rattle.annex_base.proofs.Lists.{Each-append, Each-left, Each-map, Each-middle, Each-right}
use Rattle.run_data.specs.declared.entry.Entry.{Entry}
use Rattle.run_data.specs.declared.entry.EntryKind.{EntryKind}
use Rattle.run_data.specs.declared.entry.EntryKind.TheVariants as kinds
use Rattle.run_data.specs.declared.entry.FrameView.{FrameView}
use Rattle.run_data.specs.declared.job.Outcome.{Outcome}
use Rattle.run_model.specs.Past.{Occurs, is_of}
use Rattle.run_model.specs.Run.{ComesInOrder, FramesPart, IsRun, MayBe, OwnPart, RunStep, repo_number}
use Rattle.run_model.specs.States.{end_at}
use Rattle.node_model.specs.AnyTime.{MayCome}
use Rattle.node_model.specs.Ends.{EndName, is_opening, takes_at}
use Rattle.node_model.specs.Rows.{option_is}
use Rattle.node_model.specs.SetUp.{SetUp}
use Rattle.node_model.specs.State.{State}
use Rattle.driver_model.specs.Driver.{Driver, DriverInput, FailLine, Flight, but_first, but_taken, end_to, flight, is_at, set_up_of, state_at, without_old_flights}
use Rattle.driver_model.specs.Scripts.{HasBoundedPast}
use Rattle.driver_model.specs.Sound.{ComeInTurn, ComesDown, GoesToOther, IsOfOpening, IsSound}
use Rattle.driver_model.specs.Stores.{StoredBytes, bytes_in, is_stored, stored_bytes}
use Rattle.driver_model.specs.Turning.{asked_key, part_size}
use Rattle.driver_model.specs.Ways.{Flies, InOrder, bodies_flying, is_flight, numbered_body}
use Rattle.driver_model.proofs.EndLemmas.{takes_self}
use Rattle.driver_model.proofs.FrameNumbers.{TakesWell}
use Rattle.driver_model.proofs.Holding.{Keeps, entry_on, run_on, set_up_on}
use Rattle.driver_model.proofs.InFlight.{IsFirst, flies_adds, not_over}
use Rattle.driver_model.proofs.InTurn.{but_each, openings_add, turn_adds, turn_but}
use Rattle.driver_model.proofs.Premises.{Laws}
use Rattle.driver_model.proofs.Turned.{keeps_cleared, keeps_store}
use Rattle.driver_model.proofs.WayNumbers.{order_other, order_own}
use Rattle.block_model.specs.Blocks.{with_fails}
use Rattle.block_model.specs.Following.{IsChosenStep, IsOfLine, MayAllFollow, MayFollow, after_entries, after_entry, bytes_next, but_next, effect_of, is_next, stands, without_old_of}
use Rattle.block_model.proofs.FirstOnWay.{OnWay, Split, but_split, filter_front, first_body, one_way, split_of, way_parts}

pub next_each : (P : Flight → Type 0) (r : ℕ) (o : Option FrameView) (xs : List Flight) → Each P xs → Each P (but_next r o xs)
next_each P r None xs a = a
next_each P r (Some f) xs a = but_each P (is_next r f) xs a

next_turn : (r : ℕ) (o : Option FrameView) (xs : List Flight) → ComeInTurn xs → ComeInTurn (but_next r o xs)
next_turn r None xs t = t
next_turn r (Some f) xs t = turn_but (is_next r f) xs t

-- ---- the flights, with the frame that is taken in front

pub record Moved (past : List Entry) (r : ℕ) (o : Option FrameView) (xs : List Flight) : Type 0 where
  pub moved : List Flight
  pub flies : (q : ℕ) (a : EndName) (n : ℕ) → Flies past moved q a n
  pub first : (f : FrameView) → o ≡ Some f → IsFirst r f moved
  pub down : Each ComesDown moved
  pub left : but_taken r o moved ≡ but_next r o xs

module _ (past : List Entry) (r : ℕ) (f : FrameView) (xs : List Flight) (flies : (q : ℕ) (a : EndName) (n : ℕ) → Flies past xs q a n) (down : Each ComesDown xs)
    (z : Split (is_next r f) xs) (body : numbered_body z.x.frame ≡ numbered_body f) where
  abbrev its : OnWay f.peer (record { peer = r; slot = f.slot; client = f.up }) f.epoch z.x
  its = way_parts f.peer (record { peer = r; slot = f.slot; client = f.up }) f.epoch z.x z.it

  frame_is : z.x.frame ≡ f
  frame_is i = record {
    peer = its.peer_is i;
    slot = its.slot_is i;
    up = its.up_is i;
    epoch = its.epoch_is i;
    seq = (body i).seq;
    body = (body i).body;
  }

  it_is : is_at r f z.x ≡ true
  it_is = rw (its.to_is, eqb_refl r) (subst (λ (g : FrameView). takes_at (end_to f) g ≡ true) (sym frame_is) (takes_self f))

  same_bodies : (q : ℕ) (a : EndName) (n : ℕ) → bodies_flying q a n (z.x ∷ z.front ++ z.back) ≡ bodies_flying q a n xs
  same_bodies q a n = ap (map (λ (x : Flight). numbered_body x.frame)) (sym (filter_front (is_flight q a n) z.front z.back z.x none)) ∙ ap (bodies_flying q a n) (sym z.is)
    where
      none : is_flight q a n z.x ≡ true → Each (λ y. is_flight q a n y ≡ false) z.front
      none hit = subst (λ (p : Flight → Bool). Each (λ y. p y ≡ false) z.front) (λ i y. sym (one_way q f.peer a (record { peer = r; slot = f.slot; client = f.up }) n f.epoch z.x (way_parts q a n z.x hit) its y) i) z.none

  flies_front : (q : ℕ) (a : EndName) (n : ℕ) → Flies past xs q a n → Flies past (z.x ∷ z.front ++ z.back) q a n
  flies_front q a n (inl o) = inl o
  flies_front q a n (inr l) = inr (record { inside = l.inside; same = same_bodies q a n ∙ l.same })

  all_down : Each ComesDown (z.front ++ z.x ∷ z.back)
  all_down = subst (Each ComesDown) z.is down

  pub move_some : Moved past r (Some f) xs
  move_some = record {
    moved = z.x ∷ z.front ++ z.back;
    flies = λ q a n. flies_front q a n (flies q a n);
    first = λ g i. let same : f ≡ g = cc in subst (λ (h : FrameView). IsFirst r h (z.x ∷ z.front ++ z.back)) same (record { front = []; x = z.x; back = z.front ++ z.back; split = refl; none = tt; it = it_is; frame_is = frame_is });
    down = (Each-middle ComesDown z.front z.x z.back all_down, Each-append ComesDown z.front z.back (Each-left ComesDown z.front (z.x ∷ z.back) all_down) (Each-right ComesDown z.front (z.x ∷ z.back) all_down).1);
    left = rw it_is (sym (ap (but_first (is_next r f)) z.is ∙ but_split (is_next r f) z.front z.back z.x z.none z.it));
  }

-- ---- one more entry

module _ (laws : Laws) (g : DriverInput) (d : Driver) (h : IsSound g d) (r : ℕ) (e : Entry) (who : e.repo ≡ Some r) (order : ComesInOrder d.past e)
    (words : ℕ → Option Word) (own : OwnPart (set_up_of g d r) d.past words e) (frames : FramesPart d.past r words e) where
  moved : (o : Option FrameView) → e.taken ≡ o → Moved d.past r o d.flights
  moved None i = record { moved = d.flights; flies = h.flies; first = λ f j. absurd (cc); down = h.down; left = refl }
  moved (Some f) i = go (h.flies f.peer (record { peer = r; slot = f.slot; client = f.up }) f.epoch)
    where
      go : Flies d.past d.flights f.peer (record { peer = r; slot = f.slot; client = f.up }) f.epoch → Moved d.past r (Some f) d.flights
      go (inl o) = absurd (not_over (end_at d.past r (end_to f)) f (laws.entries.takes (set_up_of g d r) d.past words e f (end_to f) own i (takes_self f)) o)
      go (inr l) =
          let y = first_body d.past r f d.flights (frames.takes f i) (h.order f.peer (record { peer = r; slot = f.slot; client = f.up }) f.epoch) l in
          let z = split_of (is_next r f) d.flights (numbered_body f) y.0 y.1 in
          move_some d.past r f d.flights h.flies h.down z.0 z.1

  m : Moved d.past r e.taken d.flights
  m = moved e.taken refl

  takes_well : TakesWell e.taken
  takes_well f i u =
      let y = m.first f i in
      ap (λ (g : FrameView). is_opening g.body) (sym y.frame_is) ∙ Each-middle ComesDown y.front y.x y.back (subst (Each ComesDown) y.split m.down) (ap (λ (g : FrameView). g.up) y.frame_is ∙ u)

  entry_step : RunStep (set_up_on g d.tree d.past) d.past e
  entry_step = record { order = order; may = subst (MayBe (set_up_on g d.tree d.past) d.past e) (sym who) (words, own, frames) }

  order_stands : (q : ℕ) (a : EndName) (n : ℕ) → InOrder (e ∷ d.past) q a n
  order_stands q a n = go (is_of q e) refl
    where
      is_of' : Entry → ℕ → Bool
      is_of' e k = is_of k e

      go : (b : Bool) → is_of q e ≡ b → InOrder (e ∷ d.past) q a n
      go false i = order_other q a n d.past e i (h.order q a n)
      go true i =
          let same : r ≡ q = eqb-true r q (ap (λ o. option_is o q) (sym who) ∙ i) in
          subst (λ k. InOrder (e ∷ d.past) k a n) same (order_own laws.entries (set_up_of g d r) a n d.past words e (ap (is_of' e) same ∙ i) own takes_well (h.order r a n))

  run_now : IsRun (run_on g d.tree d.marks (e ∷ d.past))
  run_now = entry_on laws g d.tree d.marks d.past e h.run entry_step

  -- it sends to others alone
  sends_out : Each (λ f. f.peer ≢ r) e.sent
  sends_out = laws.others (run_on g d.tree d.marks (e ∷ d.past)) e d.past r run_now (subst (λ (z : List Entry). Occurs z e d.past) (sym (reverse-reverse (e ∷ d.past))) (inl (refl, refl)))
      (ap (λ o. option_is o r) who ∙ eqb_refl r)

  pub stands_sound : (st : State) → IsSound g (stands st r e d)
  stands_sound st = record {
    run = run_now;
    flies = λ q a n. subst (λ (xs : List Flight). Flies (e ∷ d.past) (xs ++ map (flight d st r) e.sent) q a n) m.left
        (flies_adds laws.entries (set_up_of g d r) d.past words e own who m.moved m.first q a n d st (m.flies q a n));
    order = order_stands;
    down = Each-append ComesDown (but_next r e.taken d.flights) (map (flight d st r) e.sent) (next_each ComesDown r e.taken d.flights h.down)
        (Each-map ComesDown (flight d st r) e.sent (laws.entries.sends (set_up_of g d r) d.past words e own));
    apart = Each-append GoesToOther (but_next r e.taken d.flights) (map (flight d st r) e.sent) (next_each GoesToOther r e.taken d.flights h.apart) (Each-map GoesToOther (flight d st r) e.sent sends_out);
    openings = openings_add (set_up_of g d r) d.past words e own d st who (but_next r e.taken d.flights) (next_each (IsOfOpening d.past) r e.taken d.flights h.openings);
    turn = turn_adds (set_up_of g d r) d.past words e own d st (but_next r e.taken d.flights) (next_each (IsOfOpening d.past) r e.taken d.flights h.openings) (next_turn r e.taken d.flights h.turn);
    parts = h.parts;
    keys = h.keys;
  }

-- ---- what may follow

-- no part is greater than the greatest
part_in : (r : ℕ) (key : List ℕ) (n : ℕ) (xs : List StoredBytes) → Each (λ x. length x.bytes ≤ n) xs → length (stored_bytes xs r key) ≤ n
part_in r key n [] a = omega arith
part_in r key n (x ∷ xs) a = go (part_in r key n xs a.1) (is_stored r key x)
  where
    go : length (stored_bytes xs r key) ≤ n → (b : Bool) → length (bytes_in (cond b (Some x) (find (is_stored r key) xs))) ≤ n
    go more true = a.0
    go more false = more

pub part_small : (g : DriverInput) (d : Driver) (r : ℕ) (o : Option (List ℕ)) → IsSound g d → HasBoundedPast d → part_size d r o < 2 ^ 62
part_small g d r None h fits = omega arith
part_small g d r (Some key) h fits = let i = part_in r key d.largest d.parts h.parts in let j = fits.1 in omega (arith, i, j)

no_end : (s : SetUp) (st : State) (lines : List (List ℕ)) (sent : List FrameView) (kind : EntryKind) (j : ℕ) (outcome : Outcome) → MayCome s st lines sent kind → kind ≡ kinds.End j outcome → ⊥
no_end s st lines sent kind j outcome may is = subst (MayCome s st lines sent) is may

-- what an entry that follows is of its own, with the words that it found
pub record Part (g : DriverInput) (d : Driver) (r : ℕ) (e : Entry) : Type 0 where
  pub words : ℕ → Option Word
  pub own : OwnPart (set_up_of g d r) d.past words e
  pub frames : FramesPart d.past r words e

pub part_of : (g : DriverInput) (d : Driver) (r : ℕ) (e : Entry) → r < length g.repos → IsSound g d → HasBoundedPast d → IsChosenStep g d r e ⊎ IsOfLine g d r e → Part g d r e
part_of g d r e known h fits (inl c) = record {
  words = c.look.words;
  own = record {
    known = known;
    does = inl (record { look = c.look; made = c.made; makes = c.makes; is = c.is; words_are = refl; part_small = subst (λ n. n < 2 ^ 62) (sym c.part_is) (part_small g d r (asked_key (state_at g d r) c.made) h fits) });
  };
  frames = c.frames;
}
part_of g d r e known h fits (inr c) = record {
  words = λ q. None;
  own = record { known = known; does = inr c.comes };
  frames = record {
    takes = λ f i. let none : None ≡ Some f = sym c.comes.takes_none ∙ i in absurd (cc);
    tells = λ j outcome is q. absurd (no_end (set_up_of g d r) (state_at g d r) e.lines e.sent e.kind j outcome c.comes.may is);
  };
}

pub keeps_stands : Laws → (g : DriverInput) (d : Driver) (e : Entry) → (x : MayFollow g d e) → Keeps g d → Keeps g (stands (state_at g d x.r) x.r e d)
keeps_stands laws g d e x k fits =
    let before : HasBoundedPast d = (fits.0.1, fits.1) in
    let p = part_of g d x.r e x.known (k before) before x.does in
    stands_sound laws g d (k before) x.r e x.repo_is x.order p.words p.own p.frames (state_at g d x.r)

pub keeps_entry : Laws → (g : DriverInput) (d : Driver) (e : Entry) → MayFollow g d e → Keeps g d → Keeps g (after_entry g (repo_number e.repo) e d)
keeps_entry laws g d e x k = subst (λ (o : Option ℕ). Keeps g (after_entry g (repo_number o) e d)) (sym x.repo_is)
    (keeps_store g (stands (state_at g d x.r) x.r e d) (state_at g d x.r) x.r (effect_of e) (bytes_next x.r e.taken d.flights) e.kind (keeps_stands laws g d e x k))

pub keeps_entries : Laws → (g : DriverInput) (es : List Entry) (d : Driver) → MayAllFollow g d es → Keeps g d → Keeps g (after_entries g es d)
keeps_entries laws g [] d all k = k
keeps_entries laws g (e ∷ es) d all k = keeps_entries laws g es (after_entry g (repo_number e.repo) e d) all.1 (keeps_entry laws g d e all.0 k)

pub keeps_old : (g : DriverInput) (rs : List ℕ) (d : Driver) → Keeps g d → Keeps g (without_old_of g rs d)
keeps_old g [] d k = k
keeps_old g (r ∷ rs) d k = keeps_old g rs (without_old_flights (state_at g d r) r d) (keeps_cleared g d r k)

pub keeps_fails : (g : DriverInput) (xs : List FailLine) (d : Driver) → Keeps g d → Keeps g (with_fails xs d)
keeps_fails g xs d k fits = let h = k fits in record { run = h.run; flies = h.flies; order = h.order; down = h.down; apart = h.apart; openings = h.openings; turn = h.turn; parts = h.parts; keys = h.keys }
