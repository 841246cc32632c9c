-- What clients sent comes to each end in order of its openings, where some of it is taken or dropped, and where an entry sends more.
use Rattle.std.proofs.Common.{◌≡◌, ℕ, ◌≤◌, Bool, true, false, List, [], ◌∷◌, ◌++◌, Option, Some, None, inl, inr, refl, sym, ap, ◌∙◌, subst, arith, true≢false}
use Rattle.std.specs.Prelude.{cond, if◌then◌else◌, filter, map}
use Rattle.std.proofs.lemmas.Bool.{eqb-true}
use Rattle.annex_base.specs.Lists.{Each, Member}
use Rattle.annex_base.specs.declared.kinds.Word.{Word}
use Rattle.annex_base.proofs.Conditions.{eqb_refl}
use Rattle.annex_base.proofs.Lists.{Each-append, Each-filter, Each-from_members, Each-map, Each-weaker}
use Rattle.run_data.specs.declared.entry.Entry.{Entry}
use Rattle.run_data.specs.declared.entry.FrameView.{FrameView}
use Rattle.node_model.specs.Ends.{End, EndName}
use Rattle.node_model.specs.Rows.{option_is}
use Rattle.node_model.specs.SetUp.{SetUp}
use Rattle.node_model.specs.State.{State}
use Rattle.run_model.specs.Past.{is_of}
use Rattle.run_model.specs.Run.{OwnPart}
use Rattle.run_model.specs.States.{end_at}
use Rattle.step_facts.proofs.EndEpochs.{client_sends, end_grows, from_end, new_sent}
use Rattle.step_facts.proofs.JobEnds.{SentWell}
use Rattle.driver_model.specs.Driver.{Driver, Flight, but_first, but_taken, flight, is_at}
use Rattle.driver_model.specs.Sound.{ComeInTurn, ComesBehind, IsOfOpening}

-- ---- some is gone

pub but_each : (P : Flight → Type 0) (q : Flight → Bool) (xs : List Flight) → Each P xs → Each P (but_first q xs)
but_each P q [] a = tt
but_each P q (x ∷ xs) a = go (but_each P q xs a.1) (q x)
  where
    go : Each P (but_first q xs) → (b : Bool) → Each P (cond b xs (x ∷ but_first q xs))
    go more true = a.1
    go more false = (a.0, more)

pub turn_filter : (q : Flight → Bool) (xs : List Flight) → ComeInTurn xs → ComeInTurn (filter q xs)
turn_filter q [] t = tt
turn_filter q (x ∷ xs) t = go (turn_filter q xs t.1) (q x)
  where
    go : ComeInTurn (filter q xs) → (b : Bool) → ComeInTurn (cond b (x ∷ filter q xs) (filter q xs))
    go more true = (Each-filter (ComesBehind x) q xs t.0, more)
    go more false = more

pub turn_but : (q : Flight → Bool) (xs : List Flight) → ComeInTurn xs → ComeInTurn (but_first q xs)
turn_but q [] t = tt
turn_but q (x ∷ xs) t = go (turn_but q xs t.1) (q x)
  where
    go : ComeInTurn (but_first q xs) → (b : Bool) → ComeInTurn (cond b xs (x ∷ but_first q xs))
    go more true = t.1
    go more false = (but_each (ComesBehind x) q xs t.0, more)

pub turn_taken : (r : ℕ) (o : Option FrameView) (xs : List Flight) → ComeInTurn xs → ComeInTurn (but_taken r o xs)
turn_taken r None xs t = t
turn_taken r (Some f) xs t = turn_but (is_at r f) xs t

turn_append : (xs ys : List Flight) → ComeInTurn xs → ComeInTurn ys → Each (λ x. Each (ComesBehind x) ys) xs → ComeInTurn (xs ++ ys)
turn_append [] ys a b c = b
turn_append (x ∷ xs) ys a b c = (Each-append (ComesBehind x) xs ys a.0 c.0, turn_append xs ys a.1 b c.1)

-- ---- an entry sends more

same_opening : (c : End) (g h : FrameView) → SentWell c g → SentWell c h → g.epoch ≤ h.epoch
same_opening c g h (inl x) (inl y) = let i = x.1 in let j = y.1 in omega (arith, i, j)
same_opening c g h (inr x) (inr y) = let i = x.1 in let j = y.1 in omega (arith, i, j)
same_opening c g h (inl x) (inr y) = absurd (true≢false (sym x.0 ∙ y.0))
same_opening c g h (inr x) (inl y) = absurd (true≢false (sym y.0 ∙ x.0))

no_earlier : (n : ℕ) (c : End) (g : FrameView) → n ≤ c.epoch → SentWell c g → n ≤ g.epoch
no_earlier n c g low (inl x) = let i = x.1 in omega (arith, low, i)
no_earlier n c g low (inr x) = let i = x.1 in omega (arith, low, i)

turned_up : (b : Bool) → (if b then false else true) ≡ false → b ≡ true
turned_up true e = refl
turned_up false e = absurd (true≢false e)

module _ (s : SetUp) (past : List Entry) (words : ℕ → Option Word) (e : Entry) (own : OwnPart s past words e) (d : Driver) (st : State) where
  abbrev fly : FrameView → Flight
  fly g = flight d st s.number g

  well : (g : FrameView) → Member g e.sent → g.up ≡ true → SentWell (end_at past s.number (from_end g)) g
  well g m up = client_sends s past words e own g m up

  -- two of them at one end
  beside : (g h : FrameView) → Member g e.sent → Member h e.sent → ComesBehind (fly g) (fly h)
  beside g h m n up to at = same_opening (end_at past s.number (from_end g)) g h (well g m up)
      (subst (λ (a : EndName). SentWell (end_at past s.number a) h) ends (well h n up_h))
    where
      up_h : h.up ≡ true
      up_h = turned_up h.up (ap (λ (a : EndName). a.client) at ∙ ap (λ b. if b then false else true) up)

      ends : from_end h ≡ from_end g
      ends i = record { peer = to i; slot = (ap (λ (a : EndName). a.slot) at) i; client = (up_h ∙ sym up) i }

  new_turn : (gs : List FrameView) → ((g : FrameView) → Member g gs → Member g e.sent) → ComeInTurn (map (flight d st s.number) gs)
  new_turn [] among = tt
  new_turn (g ∷ gs) among = (
    Each-map (ComesBehind (fly g)) (flight d st s.number) gs (Each-from_members (λ h. ComesBehind (fly g) (fly h)) gs (λ h m. beside g h (among g (inl refl)) (among h (inr m)))),
    new_turn gs (λ h m. among h (inr m)),
  )

  -- one of them behind one that was sent before
  behind : (x : Flight) (g : FrameView) → IsOfOpening past x → Member g e.sent → ComesBehind x (fly g)
  behind x g low m up to at = no_earlier x.frame.epoch (end_at past s.number (from_end g)) g
      (subst (λ (c : End). x.frame.epoch ≤ c.epoch) ends (low up)) (well g m up_g)
    where
      up_g : g.up ≡ true
      up_g = turned_up g.up (ap (λ (a : EndName). a.client) at ∙ ap (λ b. if b then false else true) up)

      ends : end_at past x.frame.peer (record { peer = x.to; slot = x.frame.slot; client = true }) ≡ end_at past s.number (from_end g)
      ends i = end_at past ((sym (ap (λ (a : EndName). a.peer) at)) i) (record { peer = (sym to) i; slot = (sym (ap (λ (a : EndName). a.slot) at)) i; client = (sym up_g) i })

  pub turn_adds : (xs : List Flight) → Each (IsOfOpening past) xs → ComeInTurn xs → ComeInTurn (xs ++ map (flight d st s.number) e.sent)
  turn_adds xs low t = turn_append xs (map (flight d st s.number) e.sent) t (new_turn e.sent (λ g m. m))
      (Each-weaker (IsOfOpening past) (λ x. Each (ComesBehind x) (map (flight d st s.number) e.sent)) (λ x l. Each-map (ComesBehind x) (flight d st s.number) e.sent (Each-from_members (λ g. ComesBehind x (fly g)) e.sent (λ g m. behind x g l m))) xs low)

  -- ---- openings grow

  module _ (mine : e.repo ≡ Some s.number) where
    is_own : is_of s.number e ≡ true
    is_own = ap (λ o. option_is o s.number) mine ∙ eqb_refl s.number

    grows : (q : ℕ) (a : EndName) → (end_at past q a).epoch ≤ (end_at (e ∷ past) q a).epoch
    grows q a = go (is_of q e) refl
      where
        go : (b : Bool) → is_of q e ≡ b → (end_at past q a).epoch ≤ (end_at (e ∷ past) q a).epoch
        go true i = subst (λ k. (end_at past k a).epoch ≤ (end_at (e ∷ past) k a).epoch) (eqb-true s.number q (ap (λ o. option_is o q) (sym mine) ∙ i)) (end_grows s past words e own is_own a)
        go false i = let same : end_at (e ∷ past) q a ≡ end_at past q a = rw i refl in subst (λ (c : End). (end_at past q a).epoch ≤ c.epoch) (sym same) (omega arith)

    stays : (x : Flight) → IsOfOpening past x → IsOfOpening (e ∷ past) x
    stays x low up = let i = low up in let j = grows x.frame.peer (record { peer = x.to; slot = x.frame.slot; client = true }) in more x.frame.epoch _ _ i j
      where
        more : (i j k : ℕ) → i ≤ j → j ≤ k → i ≤ k
        more i j k x y = omega (arith, x, y)

    new_opening : (g : FrameView) → Member g e.sent → IsOfOpening (e ∷ past) (fly g)
    new_opening g m up = new_sent s past words e own is_own (record { peer = g.peer; slot = g.slot; client = true }) g m (λ i. record { peer = g.peer; slot = g.slot; client = up i })

    pub openings_add : (xs : List Flight) → Each (IsOfOpening past) xs → Each (IsOfOpening (e ∷ past)) (xs ++ map (flight d st s.number) e.sent)
    openings_add xs low = Each-append (IsOfOpening (e ∷ past)) xs (map (flight d st s.number) e.sent) (Each-weaker (IsOfOpening past) (IsOfOpening (e ∷ past)) stays xs low)
        (Each-map (IsOfOpening (e ∷ past)) (flight d st s.number) e.sent (Each-from_members (λ g. IsOfOpening (e ∷ past) (fly g)) e.sent new_opening))
