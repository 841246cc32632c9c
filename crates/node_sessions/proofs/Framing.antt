-- The frames that a session takes and sends are its end's, and no other session's.
use Rattle.std.proofs.Common.{◌≡◌, ℕ, Bool, true, false, List, [], ◌∷◌, Option, Some, None, refl, ap, ◌∙◌}
use Rattle.std.specs.Prelude.{◌&&◌, ◌==◌, if◌then◌else◌}
use Rattle.std.specs.Option.{option_map, option_and_then}
use Rattle.annex_base.proofs.Conditions.{eqb_refl, same_bool_refl}
use Rattle.run_data.specs.declared.entry.FrameText.{FrameText}
use Rattle.run_data.specs.declared.entry.FrameView.{FrameView}
use Rattle.link_ring.specs.declared.frame.Frame.{Frame}
use Rattle.link_ring.specs.Ends.{EndView, next_frame}
use Rattle.node_model.specs.Ends.{End, EndName, end_sends, frames, may_take, sends_at, sent_at, server_end, taken_at, takes_at}
use Rattle.node_ends.specs.Ends.{end_at, frame_at, if_may, link_at, wait_at}

-- ---- frames that are sent

one_mine : (peer slot : ℕ) (client : Bool) (epoch seq : ℕ) (body : FrameText) → sends_at (record { peer = peer; slot = slot; client = client }) (record { peer = peer; slot = slot; up = client; epoch = epoch; seq = seq; body = body }) ≡ true
one_mine peer slot client epoch seq body = rw (eqb_refl peer, eqb_refl slot, same_bool_refl client) refl

pub sent_mine : (a : EndName) (c : End) (bodies : List FrameText) → sent_at a (frames a c bodies) ≡ frames a c bodies
sent_mine a c [] = refl
sent_mine a c (body ∷ bodies) =
    let d = end_sends c body in rw (one_mine a.peer a.slot a.client d.epoch d.sent body) (ap (λ (fs : List FrameView). record { peer = a.peer; slot = a.slot; up = a.client; epoch = d.epoch; seq = d.sent; body = body } ∷ fs) (sent_mine a d bodies))

-- none of them is sent at another server's end
pub sent_else : (p s q t : ℕ) (c : End) (bodies : List FrameText) → ((p == q) && (s == t)) ≡ false → sent_at (server_end q t) (frames (server_end p s) c bodies) ≡ []
sent_else p s q t c [] apart = refl
sent_else p s q t c (body ∷ bodies) apart = rw apart (sent_else p s q t (end_sends c body) bodies apart)

-- ---- the frame that is taken

-- what waits at an end is a frame of its connection, which it may take
pub record IsFrameAt (a : EndName) (c : End) (f : FrameView) : Type 0 where
  pub frame : Frame
  pub is : f ≡ frame_at a frame
  pub may : may_take c f ≡ true

may_of : (c : End) (a : EndName) (x : Frame) (f : FrameView) → if_may c (frame_at a x) ≡ Some f → IsFrameAt a c f
may_of c a x f e = go (may_take c (frame_at a x)) refl e
  where
    go : (b : Bool) → may_take c (frame_at a x) ≡ b → (if b then Some (frame_at a x) else None) ≡ Some f → IsFrameAt a c f
    go true may g =
        let same : f ≡ frame_at a x = cc in record { frame = x; is = same; may = ap (may_take c) same ∙ may }
    go false may g = absurd cc

pub waits_form : (links : List EndView) (a : EndName) (f : FrameView) → wait_at links a ≡ Some f → IsFrameAt a (end_at links a) f
waits_form links a f e = go (option_and_then next_frame (link_at links a)) e
  where
    go : (o : Option Frame) → option_and_then (if_may (end_at links a)) (option_map (frame_at a) o) ≡ Some f → IsFrameAt a (end_at links a) f
    go None g = absurd cc
    go (Some x) g = may_of (end_at links a) a x f g

taken_test : (p s q t : ℕ) (b : Bool) → ((p == q) && (s == t)) ≡ b → (x : Frame) → takes_at (server_end q t) (frame_at (server_end p s) x) ≡ b
taken_test p s q t true is x = rw is refl
taken_test p s q t false is x = rw is refl

pub taken_mine : (p s : ℕ) (c : End) (f : FrameView) → IsFrameAt (server_end p s) c f → taken_at (server_end p s) (Some f) ≡ Some f
taken_mine p s c f h =
    let test : takes_at (server_end p s) f ≡ true = ap (takes_at (server_end p s)) h.is ∙ taken_test p s p s true (rw (eqb_refl p, eqb_refl s) refl) h.frame in rw test refl

pub taken_else : (p s q t : ℕ) (c : End) (f : FrameView) → ((p == q) && (s == t)) ≡ false → IsFrameAt (server_end p s) c f → taken_at (server_end q t) (Some f) ≡ None
taken_else p s q t c f apart h =
    let test : takes_at (server_end q t) f ≡ false = ap (takes_at (server_end q t)) h.is ∙ taken_test p s q t false apart h.frame in rw test refl
