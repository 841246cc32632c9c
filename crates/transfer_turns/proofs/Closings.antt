-- What is sent at the end, peer by peer.
use Rattle.std.proofs.Common.{◌≡◌, ◌≢◌, ℕ, ◌+◌, Bool, true, false, List, [], ◌∷◌, ◌++◌, sym, ap, ◌∙◌}
use Rattle.std.specs.Prelude.{if◌then◌else◌}
use Rattle.std.proofs.lemmas.Grind.{flat_map-append}
use Rattle.std.proofs.lemmas.List.{append-nil}
use Rattle.run_data.specs.declared.entry.FrameText.TheVariants.{Closing}
use Rattle.run_data.specs.declared.entry.FrameView.{FrameView}
use Rattle.node_model.specs.Ends.{End, EndName, frames}
use Rattle.transfer_turns.specs.declared.parcels.Parcel.{Parcel}
use Rattle.transfer_turns.specs.declared.parcels.ParcelBody.TheVariants as bodies
use Rattle.transfer_turns.specs.Parcels.{end_in, frames_of, text_in}
use Rattle.transfer_turns.specs.Turns.{Sight, parting_at}
use Rattle.drop_phases.proofs.Partings.{upto, upto_other}

-- the frames of one parcel, and of one more
pub one_parcel : (ends : EndName → End) (slot : ℕ) (p : Parcel) → frames_of ends slot (p ∷ []) ≡ frames (end_in slot p.peer) (ends (end_in slot p.peer)) (text_in p.body ∷ [])
one_parcel ends slot p = append-nil (frames (end_in slot p.peer) (ends (end_in slot p.peer)) (text_in p.body ∷ []))

frames_more : (ends : EndName → End) (slot : ℕ) (ps : List Parcel) (p : Parcel)
    → frames_of ends slot (ps ++ p ∷ []) ≡ frames_of ends slot ps ++ frames (end_in slot p.peer) (ends (end_in slot p.peer)) (text_in p.body ∷ [])
frames_more ends slot ps p =
    flat_map-append (λ (q : Parcel). frames (end_in slot q.peer) (ends (end_in slot q.peer)) (text_in q.body ∷ [])) ps (p ∷ []) ∙ ap (λ (l : List FrameView). frames_of ends slot ps ++ l) (one_parcel ends slot p)

-- a closed end is sent nothing
shut_at : (x : Sight) (slot peer : ℕ) → (x.ends (end_in slot peer)).opened ≡ false → parting_at x slot peer ≡ []
shut_at x slot peer shut = ap (λ (b : Bool). frames (end_in slot peer) (x.ends (end_in slot peer)) (if b then Closing ∷ [] else [])) shut

pub upto_shut : (x : Sight) (slot r peer : ℕ) → peer ≢ r → (x.ends (end_in slot peer)).opened ≡ false → upto (parting_at x slot) r (peer + 1) ≡ upto (parting_at x slot) r peer
upto_shut x slot r peer other shut =
    upto_other (parting_at x slot) r peer other ∙ ap (λ (l : List FrameView). upto (parting_at x slot) r peer ++ l) (shut_at x slot peer shut) ∙ append-nil (upto (parting_at x slot) r peer)

pub upto_parted : (x : Sight) (slot r peer : ℕ) (ps : List Parcel) → peer ≢ r → (x.ends (end_in slot peer)).opened ≡ true → frames_of x.ends slot ps ≡ upto (parting_at x slot) r peer
    → frames_of x.ends slot (ps ++ record { peer = peer; body = bodies.Close } ∷ []) ≡ upto (parting_at x slot) r (peer + 1)
upto_parted x slot r peer ps other live was =
    let a = end_in slot peer in
    let this : frames a (x.ends a) (Closing ∷ []) ≡ parting_at x slot peer = ap (λ (b : Bool). frames a (x.ends a) (if b then Closing ∷ [] else [])) (sym live) in
    frames_more x.ends slot ps (record { peer = peer; body = bodies.Close }) ∙ ap (λ (l : List FrameView). l ++ frames a (x.ends a) (Closing ∷ [])) was
    ∙ ap (λ (l : List FrameView). upto (parting_at x slot) r peer ++ l) this ∙ sym (upto_other (parting_at x slot) r peer other)
