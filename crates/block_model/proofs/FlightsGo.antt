-- How the frames on their way go on by an entry of a repository: their order, and their bytes.
use Rattle.std.proofs.Common.{◌≡◌, ℕ, suc, ◌+◌, ◌<◌, Bool, true, false, List, [], ◌∷◌, ◌++◌, Option, Some, None, inl, inr, refl, sym, ap, ◌∙◌, subst, arith}
use Rattle.std.specs.Prelude.{if◌then◌else◌, ◌==◌, ◌&&◌, drop, filter, find, length, map, slice_get}
use Rattle.std.proofs.lemmas.Bool.{eqb-true}
use Rattle.annex_base.specs.Bools.{same_bool}
use Rattle.annex_base.specs.Lists.{Each}
use Rattle.annex_base.specs.declared.kinds.Word.{Word}
use Rattle.annex_base.proofs.Lists.{Each-append, Each-map, Each-middle, filter_no, filter_yes, slice_get-within}
use Rattle.run_data.specs.declared.entry.Entry.{Entry}
use Rattle.run_data.specs.declared.entry.FrameView.{FrameView}
use Rattle.run_data.specs.declared.entry.FrameText.{FrameText}
use Rattle.run_data.specs.declared.entry.FrameText.TheVariants.{Bytes}
use Rattle.run_model.specs.Frames.{MayTake, Way, is_on, sender_of, taken_count, taker_of, takes, way_of}
use Rattle.run_model.specs.Past.{is_of}
use Rattle.run_model.specs.Run.{OwnPart}
use Rattle.run_model.specs.States.{end_at}
use Rattle.node_model.specs.Ends.{EndName, is_opening}
use Rattle.node_model.specs.Jobs.{Phase, PutsBytes, Work}
use Rattle.node_model.specs.Rows.{option_is}
use Rattle.node_model.specs.Sessions.{Doing, Gives}
use Rattle.node_model.specs.SetUp.{SetUp}
use Rattle.node_model.specs.State.{State}
use Rattle.driver_model.specs.Driver.{Driver, Flight, but_first, end_from, end_to, flight, piece_given_by, piece_of, piece_put_by, piece_put_by_work, slice}
use Rattle.driver_model.specs.Sound.{ComesDown}
use Rattle.driver_model.specs.Stores.{stored_bytes}
use Rattle.driver_model.specs.Turning.{bytes_of}
use Rattle.driver_model.specs.Ways.{Flies, InOrder, is_flight, numbered_body, way_out}
use Rattle.driver_model.proofs.EndLemmas.{out_sender-is, out_taker-is, takes_self}
use Rattle.driver_model.proofs.FrameNumbers.{TakesWell}
use Rattle.driver_model.proofs.InFlight.{flies_adds, not_over}
use Rattle.driver_model.proofs.Premises.{EntryLaws}
use Rattle.driver_model.proofs.WayNumbers.{order_other, order_own}
use Rattle.block_model.specs.Alone.{IsAlone, CameWhole, bytes_flying, piece_in}
use Rattle.block_model.specs.Following.{but_next, bytes_next, is_next}
use Rattle.block_model.proofs.EntryStands.{Moved, move_some, next_each}
use Rattle.block_model.proofs.FirstOnWay.{OnWay, Split, but_split, drop_at, filter_front, first_body, one_way, split_of, way_parts}
use Rattle.block_model.proofs.OwnStores.{content_alone}

-- ---- lists

pub find_split : (q : Flight → Bool) (front back : List Flight) (x : Flight) → Each (λ y. q y ≡ false) front → q x ≡ true → find q (front ++ x ∷ back) ≡ Some x
find_split q [] back x n i = rw i refl
find_split q (y ∷ front) back x n i = rw n.0 (find_split q front back x n.1 i)

one_more : (n : ℕ) → suc n ≡ n + 1
one_more n = omega arith

-- one more piece is taken
came_next : (T : ℕ) (pieces flying sent left : List (List ℕ)) (bytes : List ℕ) → flying ≡ bytes ∷ left → T < length pieces → CameWhole T pieces flying sent
    → CameWhole (T + 1) pieces left sent × (bytes ≡ piece_in (slice_get pieces T))
came_next T pieces flying sent left bytes is few x =
    let y = slice_get-within pieces T few in
    let d = drop_at T pieces y.0 y.1 in
    let all : bytes ∷ (left ++ sent) ≡ y.0 ∷ (drop (suc T) pieces ++ x.more) = ap (λ zs. zs ++ sent) (sym is) ∙ x.is ∙ ap (λ zs. zs ++ x.more) d in
    let tail : left ++ sent ≡ drop (suc T) pieces ++ x.more = cc in
    let head : bytes ≡ y.0 = cc in
    (record { more = x.more; is = tail ∙ ap (λ k. drop k pieces ++ x.more) (one_more T) }, head ∙ ap piece_in (sym y.1))

-- ---- ways of an entry

module _ (laws : EntryLaws) (s : SetUp) (past : List Entry) (e : Entry) (who : e.repo ≡ Some s.number) (words : ℕ → Option Word) (own : OwnPart s past words e)
    (may : (f : FrameView) → e.taken ≡ Some f → MayTake past (way_of s.number f) f) (xs : List Flight) (flies : (q : ℕ) (a : EndName) (n : ℕ) → Flies past xs q a n)
    (order : (q : ℕ) (a : EndName) (n : ℕ) → InOrder past q a n) (down : Each ComesDown xs) where
  abbrev p : ℕ
  p = s.number

  -- the flight of the frame that is taken
  pub taken_flight : (f : FrameView) → e.taken ≡ Some f → (z : Split (is_next s.number f) xs) × (numbered_body z.x.frame ≡ numbered_body f)
  taken_flight f i = go (flies f.peer (record { peer = s.number; slot = f.slot; client = f.up }) f.epoch)
    where
      go : Flies past xs f.peer (record { peer = s.number; slot = f.slot; client = f.up }) f.epoch → (z : Split (is_next s.number f) xs) × (numbered_body z.x.frame ≡ numbered_body f)
      go (inl o) = absurd (not_over (end_at past s.number (end_to f)) f (laws.takes s past words e f (end_to f) own i (takes_self f)) o)
      go (inr l) =
          let y = first_body past s.number f xs (may f i) (order f.peer (record { peer = s.number; slot = f.slot; client = f.up }) f.epoch) l in
          split_of (is_next s.number f) xs (numbered_body f) y.0 y.1

  moved : (o : Option FrameView) → e.taken ≡ o → Moved past s.number o xs
  moved None i = record { moved = xs; flies = flies; first = λ f j. absurd (cc); down = down; left = refl }
  moved (Some f) i = let z = taken_flight f i in move_some past s.number f xs flies down z.0 z.1

  m : Moved past s.number e.taken xs
  m = moved e.taken refl

  takes_well : TakesWell e.taken
  takes_well f i u =
      let y = m.first f i in
      ap (λ (g : FrameView). is_opening g.body) (sym y.frame_is) ∙ Each-middle ComesDown y.front y.x y.back (subst (Each ComesDown) y.split m.down) (ap (λ (g : FrameView). g.up) y.frame_is ∙ u)

  pub flies_on : (d : Driver) (st : State) (q : ℕ) (a : EndName) (n : ℕ) → Flies (e ∷ past) (but_next s.number e.taken xs ++ map (flight d st s.number) e.sent) q a n
  flies_on d st q a n = subst (λ (zs : List Flight). Flies (e ∷ past) (zs ++ map (flight d st s.number) e.sent) q a n) m.left
      (flies_adds laws s past words e own who m.moved m.first q a n d st (m.flies q a n))

  pub order_on : (q : ℕ) (a : EndName) (n : ℕ) → InOrder (e ∷ past) q a n
  order_on q a n = go (is_of q e) refl
    where
      is_of' : Entry → ℕ → Bool
      is_of' e k = is_of k e

      go : (b : Bool) → is_of q e ≡ b → InOrder (e ∷ past) q a n
      go false i = order_other q a n past e i (order q a n)
      go true i =
          let same : s.number ≡ q = eqb-true s.number q (ap (λ o. option_is o q) (sym who) ∙ i) in
          subst (λ k. InOrder (e ∷ past) k a n) same (order_own laws s a n past words e (ap (is_of' e) same ∙ i) own takes_well (order s.number a n))

  pub down_on : (d : Driver) (st : State) → Each ComesDown (but_next s.number e.taken xs ++ map (flight d st s.number) e.sent)
  down_on d st = Each-append ComesDown (but_next s.number e.taken xs) (map (flight d st s.number) e.sent) (next_each ComesDown s.number e.taken xs down)
      (Each-map ComesDown (flight d st s.number) e.sent (laws.sends s past words e own))

  -- ---- bytes

  module _ (q : ℕ) (a : EndName) (n : ℕ) where
    abbrev w : Way
    w = way_out q a n

    -- the bytes that are left of the way, and those taken from it, if any are
    abbrev Goes : Bool → Type 0
    Goes true = bytes_flying q a n xs ≡ bytes_next s.number e.taken xs ∷ bytes_flying q a n (but_next s.number e.taken xs)
    Goes false = bytes_flying q a n (but_next s.number e.taken xs) ≡ bytes_flying q a n xs

    of_taker : is_of (taker_of (way_out q a n)) e ≡ (s.number == a.peer)
    of_taker = ap (λ k. is_of k e) (out_taker-is q a n) ∙ ap (λ o. option_is o a.peer) who

    some_goes : (f : FrameView) → e.taken ≡ Some f → (b : Bool) → (is_of (taker_of (way_out q a n)) e && takes (way_out q a n) e.taken) ≡ b → Goes b
    some_goes f i b h = at b (sym key ∙ h)
      where
        z : Split (is_next s.number f) xs
        z = (taken_flight f i).0

        its : OnWay f.peer (record { peer = s.number; slot = f.slot; client = f.up }) f.epoch z.x
        its = way_parts f.peer (record { peer = s.number; slot = f.slot; client = f.up }) f.epoch z.x z.it

        -- whether it is on this way
        key : (is_of (taker_of (way_out q a n)) e && takes (way_out q a n) e.taken) ≡ is_flight q a n z.x
        key = ap (λ o. is_of (taker_of (way_out q a n)) e && takes (way_out q a n) o) i ∙ ap (λ c. c && is_on (way_out q a n) (sender_of (way_out q a n)) f) of_taker
            ∙ ap (λ k. (s.number == a.peer) && is_on (way_out q a n) k f) (out_sender-is q a n) ∙ sym flew
          where
            flew : is_flight q a n z.x ≡ ((s.number == a.peer) && is_on (way_out q a n) q f)
            flew j = (its.to_is j == a.peer) && ((its.peer_is j == q) && ((its.slot_is j == a.slot) && (same_bool (its.up_is j) a.client && (its.epoch_is j == n))))

        none : is_flight q a n z.x ≡ true → Each (λ y. is_flight q a n y ≡ false) z.front
        none hit = subst (λ (p : Flight → Bool). Each (λ y. p y ≡ false) z.front) (λ j y. sym (one_way q f.peer a (record { peer = s.number; slot = f.slot; client = f.up }) n f.epoch z.x (way_parts q a n z.x hit) its y) j) z.none

        front : bytes_flying q a n xs ≡ bytes_flying q a n (z.x ∷ z.front ++ z.back)
        front = ap (bytes_flying q a n) z.is ∙ ap (map (λ (x : Flight). x.bytes)) (filter_front (is_flight q a n) z.front z.back z.x none)

        left : but_next s.number e.taken xs ≡ z.front ++ z.back
        left = ap (λ o. but_next s.number o xs) i ∙ ap (but_first (is_next s.number f)) z.is ∙ but_split (is_next s.number f) z.front z.back z.x z.none z.it

        bytes_are : bytes_next s.number e.taken xs ≡ z.x.bytes
        bytes_are = ap (λ o. bytes_next s.number o xs) i ∙ ap (λ zs. bytes_of (find (is_next s.number f) zs)) z.is ∙ ap bytes_of (find_split (is_next s.number f) z.front z.back z.x z.none z.it)

        at : (c : Bool) → is_flight q a n z.x ≡ c → Goes c
        at true hit = front ∙ ap (map (λ (x : Flight). x.bytes)) (filter_yes (is_flight q a n) z.x (z.front ++ z.back) hit) ∙ ap (λ bs. bs ∷ bytes_flying q a n (z.front ++ z.back)) (sym bytes_are)
            ∙ ap (λ zs. bytes_next s.number e.taken xs ∷ bytes_flying q a n zs) (sym left)
        at false miss = ap (bytes_flying q a n) left ∙ sym (front ∙ ap (map (λ (x : Flight). x.bytes)) (filter_no (is_flight q a n) z.x (z.front ++ z.back) miss))

    pub goes : (b : Bool) → (is_of (taker_of (way_out q a n)) e && takes (way_out q a n) e.taken) ≡ b → Goes b
    goes b h = go e.taken refl
      where
        never : (c b : Bool) → (c && false) ≡ b → b ≡ false
        never true b i = sym i
        never false b i = sym i

        go : (o : Option FrameView) → e.taken ≡ o → Goes b
        go (Some f) i = some_goes f i b h
        go None i =
            let no' : b ≡ false = never (is_of (taker_of (way_out q a n)) e) b (ap (λ o. is_of (taker_of (way_out q a n)) e && takes (way_out q a n) o) (sym i) ∙ h) in
            subst Goes (sym no') (ap (λ o. bytes_flying q a n (but_next s.number o xs)) i)

    -- what came on the way is as before, but for what is taken
    pub came_on : (pieces sent : List (List ℕ)) → ((is_of (taker_of (way_out q a n)) e && takes (way_out q a n) e.taken) ≡ true → taken_count past (way_out q a n) < length pieces)
        → CameWhole (taken_count past (way_out q a n)) pieces (bytes_flying q a n xs) sent → CameWhole (taken_count (e ∷ past) (way_out q a n)) pieces (bytes_flying q a n (but_next s.number e.taken xs)) sent
    came_on pieces sent few x = go (is_of (taker_of (way_out q a n)) e && takes (way_out q a n) e.taken) refl
      where
        T : ℕ
        T = taken_count past (way_out q a n)

        go : (b : Bool) → (is_of (taker_of (way_out q a n)) e && takes (way_out q a n) e.taken) ≡ b
            → CameWhole (if b then taken_count past (way_out q a n) + 1 else taken_count past (way_out q a n)) pieces (bytes_flying q a n (but_next s.number e.taken xs)) sent
        go true h = (came_next (taken_count past (way_out q a n)) pieces (bytes_flying q a n xs) sent (bytes_flying q a n (but_next s.number e.taken xs)) (bytes_next s.number e.taken xs) (goes true h) (few h) x).0
        go false h = record { more = x.more; is = ap (λ zs. zs ++ sent) (goes false h) ∙ x.is }

    -- and so are the bytes that are taken from it
    pub bytes_on : (pieces sent : List (List ℕ)) → (is_of (taker_of (way_out q a n)) e && takes (way_out q a n) e.taken) ≡ true → taken_count past (way_out q a n) < length pieces
        → CameWhole (taken_count past (way_out q a n)) pieces (bytes_flying q a n xs) sent → bytes_next s.number e.taken xs ≡ piece_in (slice_get pieces (taken_count past (way_out q a n)))
    bytes_on pieces sent h few x =
        (came_next (taken_count past (way_out q a n)) pieces (bytes_flying q a n xs) sent (bytes_flying q a n (but_next s.number e.taken xs)) (bytes_next s.number e.taken xs) (goes true h) few x).1

    -- the bytes that it sends there
    module _ (d : Driver) (st : State) where
      on_new : (g : FrameView) → is_flight q a n (flight d st s.number g) ≡ ((s.number == q) && is_on (way_out q a n) a.peer g)
      on_new g = swap (g.peer == a.peer) (s.number == q) ((g.slot == a.slot) && (same_bool g.up a.client && (g.epoch == n)))
        where
          swap : (x y z : Bool) → (x && (y && z)) ≡ (y && (x && z))
          swap true true z = refl
          swap true false z = refl
          swap false true z = refl
          swap false false z = refl

      pub new_bytes : (gs : List FrameView) → bytes_flying q a n (map (flight d st s.number) gs) ≡ (if s.number == q then map (λ f. piece_of d st s.number f f.body) (filter (is_on (way_out q a n) a.peer) gs) else [])
      new_bytes [] = go (s.number == q)
        where
          go : (b : Bool) → Path (List (List ℕ)) [] (if b then [] else [])
          go true = refl
          go false = refl
      new_bytes (g ∷ gs) = go (new_bytes gs) (s.number == q) refl (is_on (way_out q a n) a.peer g) refl
        where
          go : bytes_flying q a n (map (flight d st s.number) gs) ≡ (if s.number == q then map (λ f. piece_of d st s.number f f.body) (filter (is_on (way_out q a n) a.peer) gs) else [])
              → (b : Bool) → (s.number == q) ≡ b → (c : Bool) → is_on (way_out q a n) a.peer g ≡ c
              → bytes_flying q a n (map (flight d st s.number) (g ∷ gs)) ≡ (if s.number == q then map (λ f. piece_of d st s.number f f.body) (filter (is_on (way_out q a n) a.peer) (g ∷ gs)) else [])
          go more true i true j = let hit : is_flight q a n (flight d st s.number g) ≡ true = on_new g ∙ rw (i, j) refl in rw (hit, i, j) (ap (λ zs. piece_of d st s.number g g.body ∷ zs) (more ∙ rw i refl))
          go more true i false j = let miss : is_flight q a n (flight d st s.number g) ≡ false = on_new g ∙ rw (i, j) refl in rw (miss, i, j) (more ∙ rw i refl)
          go more false i c j = let miss : is_flight q a n (flight d st s.number g) ≡ false = on_new g ∙ rw i refl in rw (miss, i) (more ∙ rw i refl)

-- ---- pieces of a repository alone

module _ (d : Driver) (r : ℕ) (own : Driver) (x : IsAlone d r own) where
  slices : (key : List ℕ) (at n : ℕ) → slice (stored_bytes own.contents r key) at n ≡ slice (stored_bytes d.contents r key) at n
  slices key at n = ap (λ bytes. slice bytes at n) (content_alone d r own x key)

  given_alone : (n : ℕ) (doing : Doing) → piece_given_by own r n doing ≡ piece_given_by d r n doing
  given_alone n (Gives key at left good) = slices key at n
  given_alone n doing = refl

  put_alone : (n : ℕ) (key : List ℕ) (phase : Phase) → piece_put_by own r n key phase ≡ piece_put_by d r n key phase
  put_alone n key (PutsBytes peer start at left) = slices key at n
  put_alone n key phase = refl

  work_alone : (n : ℕ) (o : Option Work) → piece_put_by_work own r n o ≡ piece_put_by_work d r n o
  work_alone n None = refl
  work_alone n (Some w) = put_alone n w.what.key w.phase

  pub piece_alone : (st : State) (f : FrameView) (body : FrameText) → piece_of own st r f body ≡ piece_of d st r f body
  piece_alone st f (Bytes n) = go f.up
    where
      go : (b : Bool) → (if b then piece_put_by_work own r n (find (λ w. w.slot == f.slot) st.works) else piece_given_by own r n (st.sessions (end_from f)).doing)
          ≡ (if b then piece_put_by_work d r n (find (λ w. w.slot == f.slot) st.works) else piece_given_by d r n (st.sessions (end_from f)).doing)
      go true = work_alone n (find (λ w. w.slot == f.slot) st.works)
      go false = given_alone n (st.sessions (end_from f)).doing
  piece_alone st f body = refl
