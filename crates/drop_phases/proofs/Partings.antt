-- What is sent at the end, peer by peer.
use Rattle.std.proofs.Common.{◌≡◌, ◌≢◌, ℕ, ◌+◌, Bool, true, false, not, List, [], ◌∷◌, ◌++◌, sym, ap, ◌∙◌, arith}
use Rattle.std.specs.Prelude.{◌==◌, if◌then◌else◌, flat_map}
use Rattle.std.specs.List.{range_with_len}
use Rattle.std.proofs.lemmas.Grind.{flat_map-append}
use Rattle.std.proofs.lemmas.List.{append-nil}
use Rattle.std.proofs.lemmas.List.Elements.{filter-append}
use Rattle.std.proofs.lemmas.Bool.Decides.{nat_tests}
use Rattle.annex_base.proofs.Numbers.{range_more}
use Rattle.node_model.specs.Evidence.{but}
use Rattle.run_data.specs.declared.entry.FrameView.{FrameView}
use Rattle.run_data.specs.declared.entry.FrameText.{FrameText}
use Rattle.node_model.specs.Ends.{EndName, End, frames}
use Rattle.drop_phases.specs.declared.turn.Parcel.{Parcel}
use Rattle.drop_phases.specs.Worker.{Worker}
use Rattle.drop_phases.specs.Working.{end_in, frames_of, end_frames, parting_at, texts_of}

abbrev pub upto : (ℕ → List FrameView) → ℕ → ℕ → List FrameView
upto f r n = flat_map f (but r (range_with_len 0 n))

upto_more : (f : ℕ → List FrameView) (r n : ℕ) → upto f r (n + 1) ≡ upto f r n ++ flat_map f (if not (n == r) then n ∷ [] else [])
upto_more f r n =
    ap (λ (l : List ℕ). flat_map f (but r l)) (range_more n) ∙ ap (flat_map f) (filter-append (λ x. not (x == r)) (range_with_len 0 n) (n ∷ []))
    ∙ flat_map-append f (but r (range_with_len 0 n)) (if not (n == r) then n ∷ [] else [])

pub upto_self : (f : ℕ → List FrameView) (r n : ℕ) → n ≡ r → upto f r (n + 1) ≡ upto f r n
upto_self f r n is =
    let e : (n == r) ≡ true = grind (arith, nat_tests) in
    upto_more f r n ∙ ap (λ (b : Bool). upto f r n ++ flat_map f (if not b then n ∷ [] else [])) e ∙ append-nil (upto f r n)

pub upto_other : (f : ℕ → List FrameView) (r n : ℕ) → n ≢ r → upto f r (n + 1) ≡ upto f r n ++ f n
upto_other f r n other =
    let e : (n == r) ≡ false = grind (arith, nat_tests) in
    upto_more f r n ∙ ap (λ (b : Bool). upto f r n ++ flat_map f (if not b then n ∷ [] else [])) e ∙ ap (λ (l : List FrameView). upto f r n ++ l) (append-nil (f n))

-- a closed end is sent nothing
pub shut_at : (ends : EndName → End) (w : Worker) (lost : Bool) (peer : ℕ) → (ends (end_in w.slot peer)).opened ≡ false → parting_at ends w lost peer ≡ []
shut_at ends w lost peer shut = ap (λ (b : Bool). frames (end_in w.slot peer) (ends (end_in w.slot peer)) (end_frames w lost peer b)) shut

pub upto_shut : (ends : EndName → End) (w : Worker) (lost : Bool) (r peer : ℕ) → peer ≢ r → (ends (end_in w.slot peer)).opened ≡ false
    → upto (parting_at ends w lost) r (peer + 1) ≡ upto (parting_at ends w lost) r peer
upto_shut ends w lost r peer other shut =
    upto_other (parting_at ends w lost) r peer other
    ∙ ap (λ (l : List FrameView). upto (parting_at ends w lost) r peer ++ l) (shut_at ends w lost peer shut) ∙ append-nil (upto (parting_at ends w lost) r peer)

-- one parcel more
frames_more : (ends : EndName → End) (slot : ℕ) (ps : List Parcel) (p : Parcel)
    → frames_of ends slot (ps ++ p ∷ []) ≡ frames_of ends slot ps ++ frames (end_in slot p.peer) (ends (end_in slot p.peer)) (texts_of p.body)
frames_more ends slot ps p =
    flat_map-append (λ (q : Parcel). frames (end_in slot q.peer) (ends (end_in slot q.peer)) (texts_of q.body)) ps (p ∷ [])
    ∙ ap (λ (l : List FrameView). frames_of ends slot ps ++ l) (append-nil (frames (end_in slot p.peer) (ends (end_in slot p.peer)) (texts_of p.body)))

pub upto_parted : (ends : EndName → End) (w : Worker) (lost : Bool) (r peer : ℕ) (ps : List Parcel) (p : Parcel) → peer ≢ r → (ends (end_in w.slot peer)).opened ≡ true
    → p.peer ≡ peer → texts_of p.body ≡ end_frames w lost peer true → frames_of ends w.slot ps ≡ upto (parting_at ends w lost) r peer
    → frames_of ends w.slot (ps ++ p ∷ []) ≡ upto (parting_at ends w lost) r (peer + 1)
upto_parted ends w lost r peer ps p other live to says was =
    let a = end_in w.slot peer in
    let this : frames (end_in w.slot p.peer) (ends (end_in w.slot p.peer)) (texts_of p.body) ≡ parting_at ends w lost peer =
    ap (λ (n : ℕ). frames (end_in w.slot n) (ends (end_in w.slot n)) (texts_of p.body)) to ∙ ap (λ (l : List FrameText). frames a (ends a) l) (says ∙ ap (end_frames w lost peer) (sym live)) in
    frames_more ends w.slot ps p ∙ ap (λ (l : List FrameView). l ++ frames (end_in w.slot p.peer) (ends (end_in w.slot p.peer)) (texts_of p.body)) was
    ∙ ap (λ (l : List FrameView). upto (parting_at ends w lost) r peer ++ l) this ∙ sym (upto_other (parting_at ends w lost) r peer other)
