-- The end of a job closes its ends.
use Rattle.std.proofs.Common.{◌≡◌, ℕ, Bool, true, false, List, [], ◌∷◌, ◌++◌, inl, inr, refl, sym, ap, ◌∙◌}
use Rattle.std.specs.Prelude.{if◌then◌else◌, ◌&&◌, flat_map, not}
use Rattle.std.proofs.lemmas.List.Elements.{filter-append}
use Rattle.annex_base.specs.Lists.{Member}
use Rattle.annex_base.proofs.Lists.{Each-filter}
use Rattle.run_data.specs.declared.entry.FrameView.{FrameView}
use Rattle.run_data.specs.declared.entry.FrameText.TheVariants.{Closing, Line}
use Rattle.p2p_wire.specs.declared.message.Message.TheVariants.{UnlockContent}
use Rattle.p2p_wire.specs.Messages.{text_of}
use Rattle.node_model.specs.Ends.{End, EndName, end_sends, frames, is_opening, sends_at, sent_at}
use Rattle.node_model.specs.Jobs.{job_end}
use Rattle.node_model.specs.JobStep.{Turn, end_with, farewell, farewells, has_lock, key_of, others_of}
use Rattle.step_facts.proofs.ServerEnds.{each_flat, sent_same}
use Rattle.step_facts.proofs.EndMoves.{NoOpening, OpensNone, closed_stays, frames_none, sends_all}

pub fold_append : (c : End) (fs gs : List FrameView) → sends_all c (fs ++ gs) ≡ sends_all (sends_all c fs) gs
fold_append c [] gs = refl
fold_append c (f ∷ fs) gs = fold_append (end_sends c f.body) fs gs

-- what a job says last to a peer
abbrev to_peer : Turn → Bool → ℕ → List FrameView
to_peer t lost peer = frames (job_end t.w peer) (end_with t peer) (farewell t lost peer (end_with t peer).opened)

pub farewell_none : (t : Turn) (lost : Bool) (peer : ℕ) (b : Bool) → NoOpening (farewell t lost peer b)
farewell_none t lost peer false = tt
farewell_none t lost peer true = go (has_lock t peer && not lost)
  where
    go : (b : Bool) → NoOpening ((if b then Line (text_of (UnlockContent (key_of t))) ∷ [] else []) ++ Closing ∷ [])
    go true = (refl, (refl, tt))
    go false = (refl, tt)

all_none : (t : Turn) (lost : Bool) (a : EndName) (xs : List ℕ) → OpensNone (sent_at a (flat_map (to_peer t lost) xs))
all_none t lost a xs = Each-filter (λ g. is_opening g.body ≡ false) (sends_at a) (flat_map (to_peer t lost) xs)
    (each_flat (λ g. is_opening g.body ≡ false) (to_peer t lost) (λ peer. frames_none (job_end t.w peer) (end_with t peer) (farewell t lost peer (end_with t peer).opened) (farewell_none t lost peer (end_with t peer).opened)) xs)

-- an open one is closed
closes_it : (t : Turn) (lost : Bool) (peer : ℕ) (d : End) → (end_with t peer).opened ≡ true → (sends_all d (sent_at (job_end t.w peer) (to_peer t lost peer))).opened ≡ false
closes_it t lost peer d o =
    ap (λ fs. (sends_all d fs).opened) (sent_same (job_end t.w peer) (end_with t peer) (farewell t lost peer (end_with t peer).opened))
    ∙ ap (λ b. (sends_all d (frames (job_end t.w peer) (end_with t peer) (farewell t lost peer b))).opened) o ∙ go (has_lock t peer && not lost)
  where
    go : (b : Bool) → (sends_all d (frames (job_end t.w peer) (end_with t peer) ((if b then Line (text_of (UnlockContent (key_of t))) ∷ [] else []) ++ Closing ∷ []))).opened ≡ false
    go true = refl
    go false = refl

module _ (t : Turn) (lost : Bool) (peer : ℕ) (o : (end_with t peer).opened ≡ true) where
  abbrev a : EndName
  a = job_end t.w peer

  split : (d : End) (x : ℕ) (xs : List ℕ) → sends_all d (sent_at a (flat_map (to_peer t lost) (x ∷ xs))) ≡ sends_all (sends_all d (sent_at a (to_peer t lost x))) (sent_at a (flat_map (to_peer t lost) xs))
  split d x xs = ap (sends_all d) (filter-append (sends_at a) (to_peer t lost x) (flat_map (to_peer t lost) xs)) ∙ fold_append d (sent_at a (to_peer t lost x)) (sent_at a (flat_map (to_peer t lost) xs))

  all_closed : (d : End) (xs : List ℕ) → Member peer xs → (sends_all d (sent_at a (flat_map (to_peer t lost) xs))).opened ≡ false
  all_closed d [] m = absurd m
  all_closed d (x ∷ xs) (inl i) = ap (λ (z : End). z.opened) (split d x xs)
      ∙ closed_stays (sends_all d (sent_at a (to_peer t lost x))) (sent_at a (flat_map (to_peer t lost) xs)) (all_none t lost a xs) (ap (λ y. (sends_all d (sent_at a (to_peer t lost y))).opened) (sym i) ∙ closes_it t lost peer d o)
  all_closed d (x ∷ xs) (inr m) = ap (λ (z : End). z.opened) (split d x xs) ∙ all_closed (sends_all d (sent_at a (to_peer t lost x))) xs m

-- after the farewells an end with another repository is closed
pub farewells_close : (t : Turn) (lost : Bool) (peer : ℕ) (d : End) → (d.opened ≡ true → (end_with t peer).opened ≡ true) → Member peer (others_of t) → (sends_all d (sent_at (job_end t.w peer) (farewells t lost))).opened ≡ false
farewells_close t lost peer d was m = go d.opened refl
  where
    go : (b : Bool) → d.opened ≡ b → (sends_all d (sent_at (job_end t.w peer) (farewells t lost))).opened ≡ false
    go true i = all_closed t lost peer (was i) d (others_of t) m
    go false i = closed_stays d (sent_at (job_end t.w peer) (farewells t lost)) (all_none t lost (job_end t.w peer) (others_of t)) i
