-- The frames of a step have their places.
use Rattle.std.proofs.Common.{◌≡◌, inl, inr, ℕ, zero, suc, ◌+◌, ◌≤◌, Bool, true, false, ◌&&◌, if◌then◌else◌, List, [], ◌∷◌, ◌++◌, refl, sym, ap, subst, ◌∙◌, arith, append-nil, append_assoc}
use Rattle.std.specs.Prelude.{◌==◌, filter, flat_map, fold, not}
use Rattle.std.specs.List.{range_with_len}
use Rattle.std.proofs.lemmas.Bool.Decides.{nat_tests}
use Rattle.std.proofs.lemmas.List.Elements.{filter-append}
use Rattle.annex_base.specs.Lists.{Each}
use Rattle.annex_base.proofs.Conditions.{eqb_refl}
use Rattle.annex_base.proofs.Lists.{Each-append, Each-filter, Each-weaker, cons_first, cons_rest, nil_cons}
use Rattle.run_data.specs.declared.entry.FrameView.{FrameView}
use Rattle.run_data.specs.declared.entry.FrameText.{FrameText}
use Rattle.run_data.specs.declared.entry.FrameText.TheVariants.{Closing, Line}
use Rattle.p2p_wire.specs.declared.message.Message.TheVariants.{UnlockContent}
use Rattle.p2p_wire.specs.Messages.{text_of}
use Rattle.node_model.specs.Ends.{End, EndName, end_sends, frames, sends_at, sent_at}
use Rattle.node_model.specs.Jobs.{job_end}
use Rattle.node_model.specs.JobStep.{Turn, end_with, farewell, farewells, has_lock, key_of, others_of}
use Rattle.job_frames.specs.Sending.{HasPlace, SendsWell}

-- ---- one frame behind the other

abbrev pub AllPlaced : (EndName → End) → (EndName → Bool) → List FrameView → List FrameView → Type 0
AllPlaced ends room before [] = Unit {0}
AllPlaced ends room before (f ∷ fs) = HasPlace ends room before f × AllPlaced ends room (before ++ f ∷ []) fs

module _ (ends : EndName → End) (room : EndName → Bool) where
  place_behind : (before sent xs ys : List FrameView) (f : FrameView) → AllPlaced ends room before sent → sent ≡ xs ++ f ∷ ys → HasPlace ends room (before ++ xs) f
  place_behind before [] [] ys f all is = absurd (nil_cons f ys is)
  place_behind before [] (x ∷ xs) ys f all is = absurd (nil_cons x (xs ++ f ∷ ys) is)
  place_behind before (g ∷ sent) [] ys f all is =
      subst (λ (fs : List FrameView). HasPlace ends room fs f) (sym (append-nil before))
      (subst (λ (h : FrameView). HasPlace ends room before h) (cons_first g f sent ys is) all.0)
  place_behind before (g ∷ sent) (x ∷ xs) ys f all is =
      subst (λ (fs : List FrameView). HasPlace ends room fs f) (append_assoc before (g ∷ []) xs ∙ ap (λ (h : FrameView). before ++ h ∷ xs) (cons_first g x sent (xs ++ f ∷ ys) is))
      (place_behind (before ++ g ∷ []) sent xs ys f all.1 (cons_rest g x sent (xs ++ f ∷ ys) is))

  pub placed_well : (sent : List FrameView) → AllPlaced ends room [] sent → SendsWell ends room sent
  placed_well sent all xs ys f is = place_behind [] sent xs ys f all is

  pub placed_append : (before xs ys : List FrameView) → AllPlaced ends room before xs → AllPlaced ends room (before ++ xs) ys → AllPlaced ends room before (xs ++ ys)
  placed_append before [] ys first next = subst (λ (fs : List FrameView). AllPlaced ends room fs ys) (append-nil before) next
  placed_append before (x ∷ xs) ys first next =
      (first.0, placed_append (before ++ x ∷ []) xs ys first.1 (subst (λ (fs : List FrameView). AllPlaced ends room fs ys) (sym (append_assoc before (x ∷ []) xs)) next))

-- ---- each of the others is listed once

abbrev AllOther : List ℕ → Type 0
AllOther [] = Unit {0}
AllOther (x ∷ xs) = Each (λ y. (x == y) ≡ false) xs × AllOther xs

range_from : (start n : ℕ) → Each (λ y. start ≤ y) (range_with_len start n)
range_from start zero = tt
range_from start (suc n) = (omega arith, Each-weaker (λ y. start + 1 ≤ y) (λ y. start ≤ y) (λ y above. omega (arith, above)) (range_with_len (start + 1) n) (range_from (start + 1) n))

not_equal : (x y : ℕ) → x + 1 ≤ y → (x == y) ≡ false
not_equal x y above = grind (arith, nat_tests)

range_other : (start n : ℕ) → AllOther (range_with_len start n)
range_other start zero = tt
range_other start (suc n) = (Each-weaker (λ y. start + 1 ≤ y) (λ y. (start == y) ≡ false) (not_equal start) (range_with_len (start + 1) n) (range_from (start + 1) n), range_other (start + 1) n)

filter_other : (p : ℕ → Bool) (xs : List ℕ) → AllOther xs → AllOther (filter p xs)
filter_other p [] other = tt
filter_other p (x ∷ xs) other = go (filter_other p xs other.1) (p x)
  where
    go : AllOther (filter p xs) → (b : Bool) → AllOther (if b then x ∷ filter p xs else filter p xs)
    go more true = (Each-filter (λ y. (x == y) ≡ false) p xs other.0, more)
    go more false = more

others_once : (t : Turn) → AllOther (others_of t)
others_once t = filter_other (λ x. not (x == t.read.repo)) (range_with_len 0 t.read.count) (range_other 0 t.read.count)

-- ---- farewells

module _ (t : Turn) (lost : Bool) where
  abbrev to_peer : ℕ → List FrameView
  to_peer peer = frames (job_end t.w peer) (end_with t peer) (farewell t lost peer (end_with t peer).opened)

  -- a lock is given back on an open connection only where there is room
  abbrev pub MayUnlock : ℕ → Type 0
  MayUnlock peer = (has_lock t peer && not lost) ≡ true → (end_with t peer).opened ≡ true → t.look.room (job_end t.w peer) ≡ true

  sent_elsewhere : (peer other : ℕ) (c : End) (bodies : List FrameText) → (peer == other) ≡ false → sent_at (job_end t.w other) (frames (job_end t.w peer) c bodies) ≡ []
  sent_elsewhere peer other c [] apart = refl
  sent_elsewhere peer other c (body ∷ bodies) apart = rw apart (sent_elsewhere peer other (end_sends c body) bodies apart)

  own_end : (peer : ℕ) (c : End) (body : FrameText) → sent_at (job_end t.w peer) (frames (job_end t.w peer) c (body ∷ [])) ≡ frames (job_end t.w peer) c (body ∷ [])
  own_end peer c body = rw (eqb_refl peer, eqb_refl t.w.slot) refl

  none_yet : (peer : ℕ) (c : End) (body : FrameText) (before : List FrameView) → sent_at (job_end t.w peer) before ≡ []
      → sent_at (job_end t.w peer) (before ++ frames (job_end t.w peer) c (body ∷ [])) ≡ frames (job_end t.w peer) c (body ∷ [])
  none_yet peer c body before none =
      filter-append (sends_at (job_end t.w peer)) before (frames (job_end t.w peer) c (body ∷ []))
      ∙ ap (λ (fs : List FrameView). fs ++ sent_at (job_end t.w peer) (frames (job_end t.w peer) c (body ∷ []))) none
      ∙ own_end peer c body

  open_then : (peer : ℕ) (before fs : List FrameView) → sent_at (job_end t.w peer) before ≡ fs → (fold (λ c g. end_sends c g.body) (end_with t peer) fs).opened ≡ true
      → (fold (λ c g. end_sends c g.body) (end_with t peer) (sent_at (job_end t.w peer) before)).opened ≡ true
  open_then peer before fs is live = ap (λ (gs : List FrameView). (fold (λ c g. end_sends c g.body) (end_with t peer) gs).opened) is ∙ live

  abbrev sent_as : ℕ → End → FrameText → FrameView
  sent_as peer c body = record { peer = peer; slot = t.w.slot; up = true; epoch = (end_sends c body).epoch; seq = (end_sends c body).sent; body = body }

  next_then : (peer : ℕ) (before fs : List FrameView) (f : FrameView) → sent_at (job_end t.w peer) before ≡ fs → frames (job_end t.w peer) (fold (λ c g. end_sends c g.body) (end_with t peer) fs) (f.body ∷ []) ≡ f ∷ []
      → frames (job_end t.w peer) (fold (λ c g. end_sends c g.body) (end_with t peer) (sent_at (job_end t.w peer) before)) (f.body ∷ []) ≡ f ∷ []
  next_then peer before fs f is next = ap (λ (gs : List FrameView). frames (job_end t.w peer) (fold (λ c g. end_sends c g.body) (end_with t peer) gs) (f.body ∷ [])) is ∙ next

  peer_placed : (peer : ℕ) (before : List FrameView) → sent_at (job_end t.w peer) before ≡ [] → MayUnlock peer → AllPlaced t.ends t.look.room before (to_peer peer)
  peer_placed peer before none may = by_end (end_with t peer).opened refl
    where
      by_lock : (end_with t peer).opened ≡ true → (b : Bool) → (has_lock t peer && not lost) ≡ b
          → AllPlaced t.ends t.look.room before (frames (job_end t.w peer) (end_with t peer) ((if b then Line (text_of (UnlockContent (key_of t))) ∷ [] else []) ++ Closing ∷ []))
      by_lock live true lock =
          let line = Line (text_of (UnlockContent (key_of t))) in
          let unlock = frames (job_end t.w peer) (end_with t peer) (line ∷ []) in (
            (next_then peer before [] (sent_as peer (end_with t peer) line) none refl, inr (refl, may lock live, none)),
            ((next_then peer (before ++ unlock) unlock (sent_as peer (end_sends (end_with t peer) line) Closing) (none_yet peer (end_with t peer) line before none) refl, inl (refl, open_then peer (before ++ unlock) unlock (none_yet peer (end_with t peer) line before none) live)), tt),
          )
      by_lock live false lock = ((next_then peer before [] (sent_as peer (end_with t peer) Closing) none refl, inl (refl, open_then peer before [] none live)), tt)

      by_end : (b : Bool) → (end_with t peer).opened ≡ b → AllPlaced t.ends t.look.room before (frames (job_end t.w peer) (end_with t peer) (farewell t lost peer b))
      by_end false shut = tt
      by_end true live = by_lock live (has_lock t peer && not lost) refl

  none_after : (x : ℕ) (xs : List ℕ) (before : List FrameView) → Each (λ y. (x == y) ≡ false) xs → Each (λ y. sent_at (job_end t.w y) before ≡ []) xs
      → Each (λ y. sent_at (job_end t.w y) (before ++ to_peer x) ≡ []) xs
  none_after x [] before other none = tt
  none_after x (y ∷ xs) before other none = (
    filter-append (sends_at (job_end t.w y)) before (to_peer x)
        ∙ ap (λ (fs : List FrameView). fs ++ sent_at (job_end t.w y) (to_peer x)) none.0
        ∙ sent_elsewhere x y (end_with t x) (farewell t lost x (end_with t x).opened) other.0,
    none_after x xs before other.1 none.1,
  )

  each_placed : (peers : List ℕ) (before : List FrameView) → AllOther peers → Each MayUnlock peers → Each (λ y. sent_at (job_end t.w y) before ≡ []) peers → AllPlaced t.ends t.look.room before (flat_map to_peer peers)
  each_placed [] before other may none = tt
  each_placed (x ∷ xs) before other may none =
      placed_append t.ends t.look.room before (to_peer x) (flat_map to_peer xs) (peer_placed x before none.0 may.0)
      (each_placed xs (before ++ to_peer x) other.1 may.1 (none_after x xs before other.0 none.1))

  nothing_sent : (peers : List ℕ) → Each (λ y. sent_at (job_end t.w y) [] ≡ []) peers
  nothing_sent [] = tt
  nothing_sent (x ∷ xs) = (refl, nothing_sent xs)

  pub farewells_placed : Each MayUnlock (others_of t) → AllPlaced t.ends t.look.room [] (farewells t lost)
  farewells_placed may = each_placed (others_of t) [] (others_once t) may (nothing_sent (others_of t))

  -- and each is the client's
  frames_client : (peer : ℕ) (c : End) (bodies : List FrameText) → Each (λ g. g.up ≡ true) (frames (job_end t.w peer) c bodies)
  frames_client peer c [] = tt
  frames_client peer c (body ∷ bodies) = (refl, frames_client peer (end_sends c body) bodies)

  each_client : (peers : List ℕ) → Each (λ g. g.up ≡ true) (flat_map to_peer peers)
  each_client [] = tt
  each_client (x ∷ xs) = Each-append (λ g. g.up ≡ true) (to_peer x) (flat_map to_peer xs) (frames_client x (end_with t x) (farewell t lost x (end_with t x).opened)) (each_client xs)

  pub farewells_client : Each (λ g. g.up ≡ true) (farewells t lost)
  farewells_client = each_client (others_of t)
