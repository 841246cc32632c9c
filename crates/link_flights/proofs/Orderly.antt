-- Frames that are sent at one end, or at several that are apart, are sent in order.
use Rattle.std.proofs.Common.{◌≡◌, ◌≢◌, ◌⊎◌, inl, inr, ℕ, ◌+◌, Bool, true, false, List, [], ◌∷◌, ◌++◌, Option, Some, None, refl, sym, ap, ◌∙◌, subst, true≢false}
use Rattle.std.specs.Prelude.{◌==◌, ◌&&◌, flat_map, if◌then◌else◌, map}
use Rattle.std.proofs.lemmas.Bool.{and_parts, eqb-true, false_from_ne_true}
use Rattle.std.proofs.lemmas.List.{append-nil}
use Rattle.std.proofs.lemmas.List.Elements.{filter-append}
use Rattle.annex_base.specs.Lists.{Each}
use Rattle.annex_base.proofs.Conditions.{eqb_refl, same_bool_is, same_bool_refl}
use Rattle.annex_base.specs.Bools.{same_bool}
use Rattle.run_data.specs.declared.entry.FrameView.{FrameView}
use Rattle.run_data.specs.declared.entry.FrameText.{FrameText}
use Rattle.run_data.specs.declared.entry.FrameText.TheVariants as texts
use Rattle.node_model.specs.Ends.{End, EndName, end_sends, end_takes, end_took, frames, is_opening, sends_at, sent_at, taken_at, takes_at}
use Rattle.driver_model.specs.Apart.{AreApart}
use Rattle.link_flights.specs.Entries.{OpensClosed, SendsInOrder}
use Rattle.link_flights.proofs.Naming.{end_path}

-- ---- names of ends

abbrev same_end : EndName → EndName → Bool
same_end b a = ((b.peer == a.peer) && (b.slot == a.slot)) && same_bool b.client a.client

same_end-is : (b a : EndName) → same_end b a ≡ true → b ≡ a
same_end-is b a e =
    let two = and_parts ((b.peer == a.peer) && (b.slot == a.slot)) (same_bool b.client a.client) e in
    let one = and_parts (b.peer == a.peer) (b.slot == a.slot) two.0 in
    end_path b.peer b.slot b.client a (eqb-true b.peer a.peer one.0) (eqb-true b.slot a.slot one.1) (same_bool_is b.client a.client two.1)

pub same_end-refl : (a : EndName) → same_end a a ≡ true
same_end-refl a = rw (eqb_refl a.peer, eqb_refl a.slot) (same_bool_refl a.client)

same_end-not : (b a : EndName) → b ≢ a → same_end b a ≡ false
same_end-not b a differs = false_from_ne_true (same_end b a) (λ is. differs (same_end-is b a is))

-- ---- what opens nothing

abbrev pub NoOpening : List FrameText → Type 0
NoOpening bodies = Each (λ b. is_opening b ≡ false) bodies

-- what an entry takes is no Opening
abbrev pub Calm : Option FrameView → Type 0
Calm taken = (f : FrameView) → taken ≡ Some f → is_opening f.body ≡ false

-- ---- at one end

sent_other : (b a : EndName) (c : End) (bodies : List FrameText) → same_end b a ≡ false → sent_at a (frames b c bodies) ≡ []
sent_other b a c [] e = refl
sent_other b a c (body ∷ bodies) e = rw e (sent_other b a (end_sends c body) bodies e)

sent_same : (a : EndName) (c : End) (bodies : List FrameText) → sent_at a (frames a c bodies) ≡ frames a c bodies
sent_same a c [] = refl
sent_same a c (body ∷ bodies) = rw (same_end-refl a) (ap (λ (fs : List FrameView). record { peer = a.peer; slot = a.slot; up = a.client; epoch = (end_sends c body).epoch; seq = (end_sends c body).sent; body = body } ∷ fs) (sent_same a (end_sends c body) bodies))

bodies_of : (a : EndName) (c : End) (bodies : List FrameText) → map (λ (f : FrameView). f.body) (frames a c bodies) ≡ bodies
bodies_of a c [] = refl
bodies_of a c (body ∷ bodies) = ap (λ (bs : List FrameText). body ∷ bs) (bodies_of a (end_sends c body) bodies)

pub none_opens : (c : End) (o : Option FrameView) (bodies : List FrameText) → NoOpening bodies → OpensClosed c o bodies
none_opens c o [] none = tt
none_opens c o (body ∷ bodies) none = ((λ is. absurd (true≢false (sym is ∙ none.0))), none.1)

-- ---- numbers depend on the epoch and on how many were sent

pub record Alike (c d : End) : Type 0 where
  pub epoch : c.epoch ≡ d.epoch
  pub sent : c.sent ≡ d.sent

sends_alike : (c d : End) (body : FrameText) → Alike c d → Alike (end_sends c body) (end_sends d body)
sends_alike c d texts.Opening x = record { epoch = ap (λ (n : ℕ). n + 1) x.epoch; sent = refl }
sends_alike c d texts.Closing x = record { epoch = x.epoch; sent = ap (λ (n : ℕ). n + 1) x.sent }
sends_alike c d (texts.Bytes n) x = record { epoch = x.epoch; sent = ap (λ (n : ℕ). n + 1) x.sent }
sends_alike c d (texts.Line text) x = record { epoch = x.epoch; sent = ap (λ (n : ℕ). n + 1) x.sent }

pub frames_alike : (a : EndName) (c d : End) (bodies : List FrameText) → Alike c d → frames a c bodies ≡ frames a d bodies
frames_alike a c d [] x = refl
frames_alike a c d (body ∷ bodies) x =
    let y = sends_alike c d body x in
    ap (λ (n : ℕ). record { peer = a.peer; slot = a.slot; up = a.client; epoch = n; seq = (end_sends c body).sent; body = body } ∷ frames a (end_sends c body) bodies) y.epoch
    ∙ ap (λ (n : ℕ). record { peer = a.peer; slot = a.slot; up = a.client; epoch = (end_sends d body).epoch; seq = n; body = body } ∷ frames a (end_sends c body) bodies) y.sent
    ∙ ap (λ (fs : List FrameView). record { peer = a.peer; slot = a.slot; up = a.client; epoch = (end_sends d body).epoch; seq = (end_sends d body).sent; body = body } ∷ fs) (frames_alike a (end_sends c body) (end_sends d body) bodies y)

takes_alike : (c : End) (n : ℕ) (body : FrameText) → is_opening body ≡ false → Alike c (end_takes c n body)
takes_alike c n texts.Opening none = absurd (true≢false none)
takes_alike c n texts.Closing none = record { epoch = refl; sent = refl }
takes_alike c n (texts.Bytes k) none = record { epoch = refl; sent = refl }
takes_alike c n (texts.Line text) none = record { epoch = refl; sent = refl }

pub took_alike : (c : End) (a : EndName) (taken : Option FrameView) → Calm taken → Alike c (end_took c (taken_at a taken))
took_alike c a None calm = record { epoch = refl; sent = refl }
took_alike c a (Some f) calm = go (takes_at a f)
  where
    go : (b : Bool) → Alike c (end_took c (if b then Some f else None))
    go true = takes_alike c f.epoch f.body (calm f refl)
    go false = record { epoch = refl; sent = refl }

-- ---- in order

module _ (ends : EndName → End) (taken : Option FrameView) (sent : List FrameView) where
  abbrev pub InOrder : Type 0
  InOrder = (a : EndName) → SendsInOrder (ends a) a taken sent

  abbrev between : EndName → End
  between a = end_took (ends a) (taken_at a taken)

  -- of what was sent at an end these are the bodies
  of_bodies : (a : EndName) (bodies : List FrameText) → sent_at a sent ≡ frames a (between a) bodies → OpensClosed (ends a) (taken_at a taken) bodies → SendsInOrder (ends a) a taken sent
  of_bodies a bodies is opens =
      let same : bodies ≡ map (λ (f : FrameView). f.body) (sent_at a sent) = sym (ap (map (λ (f : FrameView). f.body)) is ∙ bodies_of a (between a) bodies) in
      record { next = is ∙ ap (frames a (between a)) same; opens = subst (λ (bs : List FrameText). OpensClosed (ends a) (taken_at a taken) bs) same opens }

  -- all is sent at one end
  pub one_end : (b : EndName) (bodies : List FrameText) → sent ≡ frames b (between b) bodies → OpensClosed (ends b) (taken_at b taken) bodies → InOrder
  one_end b bodies is opens a = go (same_end b a) refl
    where
      go : (t : Bool) → same_end b a ≡ t → SendsInOrder (ends a) a taken sent
      go true same =
          subst (λ (z : EndName). SendsInOrder (ends z) z taken sent) (same_end-is b a same)
          (of_bodies b bodies (ap (sent_at b) is ∙ sent_same b (between b) bodies) opens)
      go false other = of_bodies a [] (ap (sent_at a) is ∙ sent_other b a (between b) bodies other) tt

-- ---- at several

module _ (ends : EndName → End) (says : EndName → List FrameText) where
  abbrev out : EndName → List FrameView
  out b = frames b (ends b) (says b)

  none_at : (a : EndName) (bs : List EndName) → Each (λ z. z ≢ a) bs → sent_at a (flat_map out bs) ≡ []
  none_at a [] n = refl
  none_at a (b ∷ bs) n = filter-append (sends_at a) (out b) (flat_map out bs) ∙ rw (sent_other b a (ends b) (says b) (same_end-not b a n.0), none_at a bs n.1) refl

  at_each : (a : EndName) (bs : List EndName) → AreApart bs → (sent_at a (flat_map out bs) ≡ []) ⊎ (sent_at a (flat_map out bs) ≡ out a)
  at_each a [] n = inl refl
  at_each a (b ∷ bs) n = go (at_each a bs n.1) (same_end b a) refl
    where
      both : sent_at a (flat_map out (b ∷ bs)) ≡ sent_at a (out b) ++ sent_at a (flat_map out bs)
      both = filter-append (sends_at a) (out b) (flat_map out bs)

      go : (sent_at a (flat_map out bs) ≡ []) ⊎ (sent_at a (flat_map out bs) ≡ out a) → (t : Bool) → same_end b a ≡ t
          → (sent_at a (flat_map out (b ∷ bs)) ≡ []) ⊎ (sent_at a (flat_map out (b ∷ bs)) ≡ out a)
      go more true is =
          let same : b ≡ a = same_end-is b a is in
          inr (both ∙ subst (λ (z : EndName). sent_at z (out b) ++ sent_at z (flat_map out bs) ≡ out z) same
          (ap (λ (fs : List FrameView). fs ++ sent_at b (flat_map out bs)) (sent_same b (ends b) (says b)) ∙ ap (λ (fs : List FrameView). out b ++ fs) (none_at b bs n.0) ∙ append-nil (out b)))
      go (inl none) false is = inl (both ∙ ap (λ (fs : List FrameView). fs ++ sent_at a (flat_map out bs)) (sent_other b a (ends b) (says b) is) ∙ none)
      go (inr one) false is = inr (both ∙ ap (λ (fs : List FrameView). fs ++ sent_at a (flat_map out bs)) (sent_other b a (ends b) (says b) is) ∙ one)

  -- where nothing is opened
  pub some_ends : (taken : Option FrameView) → Calm taken → (bs : List EndName) → AreApart bs → ((b : EndName) → NoOpening (says b)) → InOrder ends taken (flat_map out bs)
  some_ends taken calm bs apart none a = elim (at_each a bs apart) [
    | inl nothing ↦ of_bodies ends taken (flat_map out bs) a [] nothing tt
    | inr one ↦ of_bodies ends taken (flat_map out bs) a (says a) (one ∙ frames_alike a (ends a) (end_took (ends a) (taken_at a taken)) (says a) (took_alike (ends a) a taken calm))
        (none_opens (ends a) (taken_at a taken) (says a) (none a))
  ]
