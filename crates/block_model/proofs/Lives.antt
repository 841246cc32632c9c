-- Frames on their way that an end may still take: what drops the others, and what an entry changes of them.
use Rattle.std.proofs.Common.{◌≡◌, ℕ, ◌<◌, Bool, true, false, List, [], ◌∷◌, ◌++◌, Option, Some, None, ◌⊎◌, inl, inr, refl, sym, ap, ◌∙◌, subst, arith}
use Rattle.std.specs.Prelude.{if◌then◌else◌, ◌==◌, ◌&&◌, ◌||◌, filter, find, length, nat_lt, not}
use Rattle.std.specs.List.{list_any}
use Rattle.std.proofs.lemmas.Bool.{and_parts, eqb-true, false_from_ne_true}
use Rattle.std.proofs.lemmas.Bool.Decides.{nat_tests}
use Rattle.std.proofs.lemmas.List.Elements.{filter-append}
use Rattle.annex_base.specs.Lists.{Each, Member}
use Rattle.annex_base.specs.declared.kinds.Word.{Word}
use Rattle.annex_base.proofs.Conditions.{eqb_refl, same_bool_refl}
use Rattle.annex_base.proofs.Lists.{Each-always, Each-filter, Each-from_members, Each-member, Each-weaker, filter_all, filter_both, filter_yes, list_any_found, list_any_member}
use Rattle.run_data.specs.declared.entry.Entry.{Entry}
use Rattle.run_data.specs.declared.entry.FrameView.{FrameView}
use Rattle.run_model.specs.Frames.{is_on}
use Rattle.run_model.specs.Past.{is_of}
use Rattle.run_model.specs.Run.{OwnPart}
use Rattle.run_model.specs.States.{end_at}
use Rattle.node_model.specs.Ends.{End, EndName, may_take, takes_at}
use Rattle.node_model.specs.Rows.{option_is}
use Rattle.node_model.specs.SetUp.{SetUp}
use Rattle.driver_model.specs.Driver.{Driver, DriverInput, FailLine, Flight, but_first, but_taken, end_to, is_at, is_old, old_at, state_at}
use Rattle.driver_model.specs.Rounds.{numbers}
use Rattle.driver_model.specs.Turning.{bytes_of, bytes_taken}
use Rattle.driver_model.specs.Ways.{IsOver, way_out}
use Rattle.driver_model.proofs.EndLemmas.{takes_self}
use Rattle.driver_model.proofs.InFlight.{IsFirst, not_over, old_by, over_or, over_own}
use Rattle.driver_model.proofs.Numbers.{below_len}
use Rattle.driver_model.proofs.Premises.{EntryLaws}
use Rattle.block_model.specs.Following.{but_next, bytes_next, is_next, without_old_of}
use Rattle.block_model.proofs.FirstOnWay.{but_split, way_parts}
use Rattle.block_model.proofs.FlightsGo.{find_split}
use Rattle.block_model.proofs.OwnStores.{but_first_kept, filter_kept, find_kept}
use Rattle.block_model.proofs.Resting.{NoneOld}
use Rattle.block_model.proofs.Twins.{twin}

-- the end of one of these repositories takes the frame no more
abbrev pub gone : List ℕ → List Entry → Flight → Bool
gone rs past x = list_any (λ r. x.to == r) rs && is_old (end_at past x.to (end_to x.frame)) x.frame

abbrev pub live : List ℕ → List Entry → Flight → Bool
live rs past x = not (gone rs past x)

-- ---- what is dropped

old_gone : (g : DriverInput) (d : Driver) (rs : List ℕ) (r : ℕ) (x : Flight) → Member r rs → old_at (state_at g d r) r x ≡ true → gone rs d.past x ≡ true
old_gone g d rs r x m e =
    let two = and_parts (x.to == r) (is_old (end_at d.past r (end_to x.frame)) x.frame) e in
    let among : list_any (λ q. x.to == q) rs ≡ true = list_any_member (λ q. x.to == q) rs r m two.0 in
    let old : is_old (end_at d.past x.to (end_to x.frame)) x.frame ≡ true = ap (λ q. is_old (end_at d.past q (end_to x.frame)) x.frame) (eqb-true x.to r two.0) ∙ two.1 in
    rw (among, old) refl

not_true : (b : Bool) → (b ≡ true → ⊥) → not b ≡ true
not_true true n = absurd (n refl)
not_true false n = refl

was_false : (b : Bool) → not b ≡ true → b ≡ true → ⊥
was_false true i j = let no' : false ≡ true = i in absurd (cc)
was_false false i j = absurd (cc)

-- one that is live isn't old at any of them
live_young : (g : DriverInput) (d : Driver) (rs : List ℕ) (r : ℕ) (x : Flight) → Member r rs → live rs d.past x ≡ true → not (old_at (state_at g d r) r x) ≡ true
live_young g d rs r x m l = not_true (old_at (state_at g d r) r x) (λ e. was_false (gone rs d.past x) l (old_gone g d rs r x m e))

-- what a turn drops isn't live
pub live_cleared : (g : DriverInput) (d : Driver) (rs : List ℕ) (r : ℕ) → Member r rs → (xs : List Flight) → filter (live rs d.past) (filter (λ x. not (old_at (state_at g d r) r x)) xs) ≡ filter (live rs d.past) xs
live_cleared g d rs r m xs = filter_kept (live rs d.past) (λ x. not (old_at (state_at g d r) r x)) (λ x l. live_young g d rs r x m l) xs

one_dropped : (a b c o : Bool) → (a ≡ true → c ≡ o) → not ((a || b) && c) ≡ (not (a && o) && not (b && c))
one_dropped true b true o same = go o (same refl)
  where
    go : (o : Bool) → true ≡ o → not ((true || b) && true) ≡ (not (true && o) && not (b && true))
    go true i = refl
    go false i = absurd (cc)
one_dropped true b false o same = go o b (same refl)
  where
    go : (o b : Bool) → false ≡ o → not ((true || b) && false) ≡ (not (true && o) && not (b && false))
    go true b i = absurd (cc)
    go false true i = refl
    go false false i = refl
one_dropped false b c o same = refl

-- where all of these have dropped what is old, the live ones are left
pub cleared_live : (g : DriverInput) (d : Driver) (rs : List ℕ) (ys : List Flight) (zs : List FailLine) → without_old_of g rs (twin d ys zs) ≡ twin d (filter (live rs d.past) ys) zs
cleared_live g d [] ys zs = ap (λ xs. twin d xs zs) (sym (filter_all (live [] d.past) ys (Each-always (λ x. live [] d.past x ≡ true) (λ x. refl) ys)))
cleared_live g d (r ∷ rs) ys zs =
    cleared_live g d rs (filter (λ x. not (old_at (state_at g d r) r x)) ys) zs
    ∙ ap (λ xs. twin d xs zs) (sym (filter_both (live (r ∷ rs) d.past) (live rs d.past) (λ x. not (old_at (state_at g d r) r x)) both ys))
  where
    both : (x : Flight) → live (r ∷ rs) d.past x ≡ (not (old_at (state_at g d r) r x) && live rs d.past x)
    both x = one_dropped (x.to == r) (list_any (λ q. x.to == q) rs) (is_old (end_at d.past x.to (end_to x.frame)) x.frame) (is_old (end_at d.past r (end_to x.frame)) x.frame)
        (λ i. ap (λ q. is_old (end_at d.past q (end_to x.frame)) x.frame) (eqb-true x.to r i))

-- where none is old, all are live
pub none_live : (g : DriverInput) (d : Driver) → ((r : ℕ) → r < length g.repos → NoneOld g d r) → filter (live (numbers g) d.past) d.flights ≡ d.flights
none_live g d none = filter_all (live (numbers g) d.past) d.flights (Each-from_members (λ x. live (numbers g) d.past x ≡ true) d.flights (λ x m. not_true (gone (numbers g) d.past x) (λ e. at x m e)))
  where
    at : (x : Flight) → Member x d.flights → gone (numbers g) d.past x ≡ true → ⊥
    at x m e =
        let two = and_parts (list_any (λ q. x.to == q) (numbers g)) (is_old (end_at d.past x.to (end_to x.frame)) x.frame) e in
        let found = list_any_found (λ q. x.to == q) (numbers g) two.0 in
        let known = Each-member (λ q. q < length g.repos) (numbers g) found.0 (below_len 0 (length g.repos) (length g.repos) (omega arith)) found.1 in
        let old : is_old (end_at d.past found.0 (end_to x.frame)) x.frame ≡ true = ap (λ q. is_old (end_at d.past q (end_to x.frame)) x.frame) (sym (eqb-true x.to found.0 found.2)) ∙ two.1 in
        let all : old_at (state_at g d found.0) found.0 x ≡ true = rw (found.2, old) refl in
        was_false (old_at (state_at g d found.0) found.0 x) (Each-member (λ z. not (old_at (state_at g d found.0) found.0 z) ≡ true) d.flights x (none found.0 known) m) all

-- ---- one more entry

over_old : (c : End) (n : ℕ) → IsOver c n → old_by c n ≡ true
over_old c n (inl i) = let t : nat_lt n c.epoch ≡ true = grind (arith, nat_tests) in rw t refl
over_old c n (inr i) = go (nat_lt n c.epoch) refl
  where
    same : (n == c.epoch) ≡ true
    same = ap (λ k. k == c.epoch) i.0 ∙ eqb_refl c.epoch

    go : (b : Bool) → nat_lt n c.epoch ≡ b → old_by c n ≡ true
    go true j = rw j refl
    go false j = rw (j, same, i.1) refl

old_over : (c : End) (n : ℕ) → old_by c n ≡ true → IsOver c n
old_over c n e = go (over_or c n)
  where
    go : IsOver c n ⊎ (old_by c n ≡ false) → IsOver c n
    go (inl o) = o
    go (inr no') = absurd (let both : true ≡ false = sym e ∙ no' in cc)

module _ (laws : EntryLaws) (s : SetUp) (past : List Entry) (words : ℕ → Option Word) (e : Entry) (who : e.repo ≡ Some s.number) (own : OwnPart s past words e) where
  over_next : (q : ℕ) (a : EndName) (n : ℕ) → IsOver (end_at past q a) n → IsOver (end_at (e ∷ past) q a) n
  over_next q a n o = go (is_of q e) refl
    where
      is_of' : Entry → ℕ → Bool
      is_of' e k = is_of k e

      go : (b : Bool) → is_of q e ≡ b → IsOver (end_at (e ∷ past) q a) n
      go true i =
          let same : s.number ≡ q = eqb-true s.number q (ap (λ o. option_is o q) (sym who) ∙ i) in
          subst (λ k. IsOver (end_at (e ∷ past) k a) n) same (over_own laws s past words e a n (ap (is_of' e) same ∙ i) own (subst (λ k. IsOver (end_at past k a) n) (sym same) o))
      go false i = subst (λ (c : End). IsOver c n) (sym unchanged) o
        where
          unchanged : end_at (e ∷ past) q a ≡ end_at past q a
          unchanged = rw i refl

  gone_next : (rs : List ℕ) (x : Flight) → gone rs past x ≡ true → gone rs (e ∷ past) x ≡ true
  gone_next rs x i =
      let two = and_parts (list_any (λ q. x.to == q) rs) (is_old (end_at past x.to (end_to x.frame)) x.frame) i in
      let old : is_old (end_at (e ∷ past) x.to (end_to x.frame)) x.frame ≡ true =
      over_old (end_at (e ∷ past) x.to (end_to x.frame)) x.frame.epoch (over_next x.to (end_to x.frame) x.frame.epoch (old_over (end_at past x.to (end_to x.frame)) x.frame.epoch two.1)) in
      rw (two.0, old) refl

  -- what is live afterwards was so before
  live_before : (rs : List ℕ) (x : Flight) → live rs (e ∷ past) x ≡ true → live rs past x ≡ true
  live_before rs x l = not_true (gone rs past x) (λ i. was_false (gone rs (e ∷ past) x) l (gone_next rs x i))

  -- so where the live ones were the same, they are the same afterwards
  pub live_next : (rs : List ℕ) (xs ys new : List Flight) → filter (live rs past) xs ≡ filter (live rs past) ys → filter (live rs (e ∷ past)) (xs ++ new) ≡ filter (live rs (e ∷ past)) (ys ++ new)
  live_next rs xs ys new same = filter-append (live rs (e ∷ past)) xs new ∙ ap (λ zs. zs ++ filter (live rs (e ∷ past)) new) front ∙ sym (filter-append (live rs (e ∷ past)) ys new)
    where
      kept : (zs : List Flight) → filter (live rs (e ∷ past)) (filter (live rs past) zs) ≡ filter (live rs (e ∷ past)) zs
      kept zs = filter_kept (live rs (e ∷ past)) (live rs past) (live_before rs) zs

      front : filter (live rs (e ∷ past)) xs ≡ filter (live rs (e ∷ past)) ys
      front = sym (kept xs) ∙ ap (filter (live rs (e ∷ past))) same ∙ kept ys

-- ---- a frame is taken

never_old : (b c : Bool) → c ≡ false → not (b && c) ≡ true
never_old true c i = ap not i
never_old false c i = refl

module _ (rs : List ℕ) (past : List Entry) (r : ℕ) (f : FrameView) (may : may_take (end_at past r (end_to f)) f ≡ true) (xs ys : List Flight) (y : IsFirst r f xs)
    (same : filter (live rs past) ys ≡ filter (live rs past) xs) where
  young : old_by (end_at past r (end_to f)) f.epoch ≡ false
  young = false_from_ne_true (old_by (end_at past r (end_to f)) f.epoch) (λ e. not_over (end_at past r (end_to f)) f may (old_over (end_at past r (end_to f)) f.epoch e))

  -- a flight of the way and the epoch of the frame
  pub record Near (z : Flight) : Type 0 where
    pub to_is : z.to ≡ r
    pub end_is : end_to z.frame ≡ end_to f
    pub epoch_is : z.frame.epoch ≡ f.epoch

  near : (z : Flight) → is_next r f z ≡ true → Near z
  near z e =
      let x = way_parts f.peer (record { peer = r; slot = f.slot; client = f.up }) f.epoch z e in
      record {
        to_is = x.to_is;
        end_is = λ i. record { peer = x.peer_is i; slot = x.slot_is i; client = if x.up_is i then false else true };
        epoch_is = x.epoch_is;
      }

  next_live : (z : Flight) → is_next r f z ≡ true → live rs past z ≡ true
  next_live z e =
      let x = near z e in
      let same_end : is_old (end_at past z.to (end_to z.frame)) z.frame ≡ old_by (end_at past r (end_to f)) f.epoch = λ i. old_by (end_at past (x.to_is i) (x.end_is i)) (x.epoch_is i) in
      never_old (list_any (λ q. z.to == q) rs) (is_old (end_at past z.to (end_to z.frame)) z.frame) (same_end ∙ young)

  next_at : (z : Flight) → is_next r f z ≡ true → is_at r f z ≡ true
  next_at z e =
      let x = near z e in
      let to_it : (z.to == r) ≡ true = ap (λ k. k == r) x.to_is ∙ eqb_refl r in
      rw to_it (subst (λ (a : EndName). takes_at a z.frame ≡ true) x.end_is (takes_self z.frame))

  to_it : (y.x.to == r) ≡ true
  to_it = (and_parts (y.x.to == r) (takes_at (end_to f) y.x.frame) y.it).0

  hit : is_next r f y.x ≡ true
  hit = subst (λ k. ((k == r) && is_on (way_out f.peer (record { peer = r; slot = f.slot; client = f.up }) f.epoch) f.peer y.x.frame) ≡ true) (sym (eqb-true y.x.to r to_it))
      (subst (λ (h : FrameView). ((r == r) && is_on (way_out f.peer (record { peer = r; slot = f.slot; client = f.up }) f.epoch) f.peer h) ≡ true) (sym y.frame_is)
      (rw (eqb_refl r, eqb_refl f.peer, eqb_refl f.slot, same_bool_refl f.up, eqb_refl f.epoch) refl))

  none_next : Each (λ z. is_next r f z ≡ false) y.front
  none_next = Each-weaker (λ z. is_at r f z ≡ false) (λ z. is_next r f z ≡ false)
      (λ z n. false_from_ne_true (is_next r f z) (λ e. let both : true ≡ false = sym (next_at z e) ∙ n in cc)) y.front y.none

  live_parts : filter (live rs past) xs ≡ filter (live rs past) y.front ++ y.x ∷ filter (live rs past) y.back
  live_parts = ap (filter (live rs past)) y.split ∙ filter-append (live rs past) y.front (y.x ∷ y.back)
      ∙ ap (λ zs. filter (live rs past) y.front ++ zs) (filter_yes (live rs past) y.x y.back (next_live y.x hit))

  none_live' : Each (λ z. is_next r f z ≡ false) (filter (live rs past) y.front)
  none_live' = Each-filter (λ z. is_next r f z ≡ false) (live rs past) y.front none_next

  pub live_taken : filter (live rs past) (but_first (is_next r f) ys) ≡ filter (live rs past) (but_first (is_at r f) xs)
  live_taken =
      but_first_kept (is_next r f) (live rs past) next_live ys
      ∙ ap (but_first (is_next r f)) (same ∙ live_parts)
      ∙ but_split (is_next r f) (filter (live rs past) y.front) (filter (live rs past) y.back) y.x none_live' hit
      ∙ sym (filter-append (live rs past) y.front y.back)
      ∙ ap (filter (live rs past)) (sym (ap (but_first (is_at r f)) y.split ∙ but_split (is_at r f) y.front y.back y.x y.none y.it))

  pub bytes_same : bytes_of (find (is_next r f) ys) ≡ bytes_of (find (is_at r f) xs)
  bytes_same =
      ap bytes_of (sym (find_kept (is_next r f) (live rs past) next_live ys)
      ∙ ap (find (is_next r f)) (same ∙ live_parts)
      ∙ find_split (is_next r f) (filter (live rs past) y.front) (filter (live rs past) y.back) y.x none_live' hit)
      ∙ sym (ap bytes_of (ap (find (is_at r f)) y.split ∙ find_split (is_at r f) y.front y.back y.x y.none y.it))

-- what is taken, if anything is
module _ (rs : List ℕ) (past : List Entry) (r : ℕ) (d : Driver) (ys : List Flight) (same : filter (live rs past) ys ≡ filter (live rs past) d.flights) where
  pub live_left : (o : Option FrameView) → ((f : FrameView) → o ≡ Some f → may_take (end_at past r (end_to f)) f ≡ true) → ((f : FrameView) → o ≡ Some f → IsFirst r f d.flights)
      → filter (live rs past) (but_next r o ys) ≡ filter (live rs past) (but_taken r o d.flights)
  live_left None may first = same
  live_left (Some f) may first = live_taken rs past r f (may f refl) d.flights ys (first f refl) same

  pub bytes_left : (o : Option FrameView) → ((f : FrameView) → o ≡ Some f → may_take (end_at past r (end_to f)) f ≡ true) → ((f : FrameView) → o ≡ Some f → IsFirst r f d.flights)
      → bytes_next r o ys ≡ bytes_taken r o d
  bytes_left None may first = refl
  bytes_left (Some f) may first = bytes_same rs past r f (may f refl) d.flights ys (first f refl) same
