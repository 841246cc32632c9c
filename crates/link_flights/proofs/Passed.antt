-- An end that takes no frame of an epoch any more takes none after it took or sent something.
use Rattle.std.proofs.Common.{◌≡◌, ◌⊎◌, inl, inr, ℕ, ◌<◌, Bool, true, false, not, ◌&&◌, ◌||◌, List, [], ◌∷◌, Option, Some, None, refl, sym, ◌∙◌, subst, arith, true≢false}
use Rattle.std.specs.Prelude.{◌==◌, fold, IfSome, nat_lt}
use Rattle.std.specs.Option.{option_map}
use Rattle.std.proofs.lemmas.Bool.{eqb-true, not-true}
use Rattle.std.proofs.lemmas.Bool.Decides.{nat_tests}
use Rattle.annex_base.proofs.Lists.{find_member}
use Rattle.link_ring.specs.declared.frame.Frame.{Frame}
use Rattle.link_ring.specs.Ends.{EndView, is_taken, next_frame}
use Rattle.run_data.specs.declared.entry.FrameView.{FrameView}
use Rattle.run_data.specs.declared.entry.FrameText.{FrameText}
use Rattle.run_data.specs.declared.entry.FrameText.TheVariants as texts
use Rattle.node_model.specs.Ends.{End, EndName, end_sends, end_takes, end_took}
use Rattle.node_ends.specs.Ends.{frame_at, stands}
use Rattle.driver_model.specs.Driver.{is_old}
use Rattle.driver_model.specs.Ways.{IsOver}
use Rattle.link_flights.proofs.Dropped.{old_same}

-- a frame of this epoch is old there
abbrev pub is_over : End → ℕ → Bool
is_over c n = nat_lt n c.epoch || ((n == c.epoch) && not c.opened)

-- it takes no more, or else such frames aren't old
pub over_or : (c : End) (n : ℕ) → IsOver c n ⊎ (is_over c n ≡ false)
over_or c n = go (nat_lt n c.epoch) refl (n == c.epoch) refl c.opened refl
  where
    go : (a : Bool) → nat_lt n c.epoch ≡ a → (b : Bool) → (n == c.epoch) ≡ b → (o : Bool) → c.opened ≡ o → IsOver c n ⊎ (is_over c n ≡ false)
    go true i b j o k = inl (inl (grind (arith, nat_tests)))
    go false i true j false k = inl (inr (eqb-true n c.epoch j, k))
    go false i true j true k = inr (rw (i, j, k) refl)
    go false i false j o k = inr (rw (i, j) refl)

-- ---- it sends

one_sent : (c : End) (body : FrameText) (n : ℕ) → IsOver c n → IsOver (end_sends c body) n
one_sent c texts.Opening n (inl i) = inl (omega (arith, i))
one_sent c texts.Opening n (inr i) = let j = i.0 in inl (omega (arith, j))
one_sent c texts.Closing n (inl i) = inl i
one_sent c texts.Closing n (inr i) = inr (i.0, refl)
one_sent c (texts.Bytes k) n o = o
one_sent c (texts.Line text) n o = o

pub over_sent : (c : End) (fs : List FrameView) (n : ℕ) → IsOver c n → IsOver (fold (λ c f. end_sends c f.body) c fs) n
over_sent c [] n o = o
over_sent c (f ∷ fs) n o = over_sent (end_sends c f.body) fs n (one_sent c f.body n o)

-- ---- it takes a frame that isn't old

later : (c : End) (m n : ℕ) → is_over c m ≡ false → IsOver c n → n < m
later c m n young o = go (nat_lt m c.epoch) refl (m == c.epoch) refl c.opened refl young o
  where
    go : (b : Bool) → nat_lt m c.epoch ≡ b → (t : Bool) → (m == c.epoch) ≡ t → (p : Bool) → c.opened ≡ p → (b || (t && not p)) ≡ false → IsOver c n → n < m
    go true i t j p k y o = absurd (true≢false y)
    go false i t j p k y (inl l) = grind (arith, nat_tests)
    go false i true j false k y (inr l) = absurd (true≢false y)
    go false i true j true k y (inr l) = absurd (true≢false (sym k ∙ l.1))
    go false i false j p k y (inr l) = let e = l.0 in grind (arith, nat_tests)

one_taken : (c : End) (m : ℕ) (body : FrameText) (n : ℕ) → is_over c m ≡ false → IsOver c n → IsOver (end_takes c m body) n
one_taken c m texts.Opening n young o = inl (later c m n young o)
one_taken c m texts.Closing n young (inl i) = inl i
one_taken c m texts.Closing n young (inr i) = inr (i.0, refl)
one_taken c m (texts.Bytes k) n young o = o
one_taken c m (texts.Line text) n young o = o

mapped_frame : (a : EndName) (o : Option Frame) (f : FrameView) → option_map (frame_at a) o ≡ Some f → (g : Frame) × (o ≡ Some g) × (frame_at a g ≡ f)
mapped_frame a None f is = absurd (cc)
mapped_frame a (Some g) f is = (g, refl, (let same : frame_at a g ≡ f = cc in same))

pub over_taken : (v : EndView) (a : EndName) (o : Option FrameView) (n : ℕ) → IfSome o (λ f. option_map (frame_at a) (next_frame v) ≡ Some f) → IsOver (stands v) n → IsOver (end_took (stands v) o) n
over_taken v a None n takes over = over
over_taken v a (Some f) n takes over =
    let g = mapped_frame a (next_frame v) f takes in
    let young : is_old (stands v) (frame_at a g.0) ≡ false = not-true (is_old (stands v) (frame_at a g.0)) (old_same v a g.0 ∙ (find_member (is_taken v) v.at_hand g.0 g.1).1) in
    one_taken (stands v) f.epoch f.body n (subst (λ (h : FrameView). is_over (stands v) h.epoch ≡ false) g.2 young) over
