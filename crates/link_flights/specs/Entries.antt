-- What an entry of a repository makes of its ends, and how it takes and sends there (own).
use Rattle.std.specs.Prelude.{◌≡◌, true, false, if◌then◌else◌, ℕ, List, [], ◌∷◌, fold, map, IfSome, is_some, Option, Some, None}
use Rattle.std.specs.List.{AllZip}
use Rattle.std.specs.Option.{option_map}
use Rattle.annex_base.specs.Lists.{Each}
use Rattle.annex_base.specs.declared.kinds.EntryStamp.{EntryStamp}
use Rattle.annex_base.specs.declared.kinds.Word.{Word}
use Rattle.link_ring.specs.Ends.{EndView, after_take, next_frame}
use Rattle.run_data.specs.declared.entry.FrameView.{FrameView}
use Rattle.run_data.specs.declared.entry.FrameText.{FrameText}
use Rattle.node_model.specs.Ends.{End, EndName, end_took, frames, is_opening, sent_at, taken_at}
use Rattle.node_model.specs.State.{State}
use Rattle.node_ends.specs.declared.sending.Sending.{Sending}
use Rattle.node_ends.specs.declared.sending.Sending.TheVariants as sendings
use Rattle.node_ends.specs.Ends.{frame_at, stands}
use Rattle.node_ends.specs.Sent.{link_sends, text_of_sending}
use Rattle.driver_model.specs.Driver.{Driver, piece_of}

-- ---- by node_ends' calls

-- the end a after `take`, if it is the one at which the entry took its frame
abbrev pub taken_off : EndName → Option FrameView → EndView → EndView
taken_off a taken v = if is_some (taken_at a taken) then after_take v else v

-- the end a after the entry took its frame and then sent this there, each with its word
abbrev pub link_after : EntryStamp → (Sending → Option Word) → EndName → Option FrameView → List Sending → EndView → EndView
link_after sender word a taken said v = fold (λ w x. link_sends sender (word x) x w) (taken_off a taken v) said

-- ---- by the definition of a step

-- only the first of these is an opening, and that where the end is closed and nothing was taken at it
abbrev pub OpensClosed : End → Option FrameView → List FrameText → Type 0
OpensClosed c taken [] = Unit {0}
OpensClosed c taken (body ∷ bodies) = (is_opening body ≡ true → (c.opened ≡ false) × (taken ≡ None)) × Each (λ b. is_opening b ≡ false) bodies

-- what an entry sends at the end a, which stood so before it: the frames that this end sends next
pub record SendsInOrder (c : End) (a : EndName) (taken : Option FrameView) (sent : List FrameView) : Type 0 where
  pub next : sent_at a sent ≡ frames a (end_took c (taken_at a taken)) (map (λ f. f.body) (sent_at a sent))
  pub opens : OpensClosed c (taken_at a taken) (map (λ f. f.body) (sent_at a sent))

-- ---- both

-- a piece has these bytes
abbrev pub HasPiece : List ℕ → Sending → Type 0
HasPiece bytes sendings.Open = Unit {0}
HasPiece bytes sendings.Close = Unit {0}
HasPiece bytes (sendings.Line line listed) = Unit {0}
HasPiece bytes (sendings.Bytes piece) = piece ≡ bytes

-- An entry of r, which the driver d and the state st came before, takes and sends at the end a as the definition does: it takes
-- the first frame that isn't old, if any; what was said is what it lists; it is in order; and the pieces are those of the content.
pub record PostsAt (d : Driver) (st : State) (r : ℕ) (a : EndName) (v : EndView) (taken : Option FrameView) (sent : List FrameView) (said : List Sending) : Type 0 where
  pub takes : IfSome (taken_at a taken) (λ f. option_map (frame_at a) (next_frame v) ≡ Some f)
  pub listed : map text_of_sending said ≡ map (λ f. f.body) (sent_at a sent)
  pub in_order : SendsInOrder (stands v) a taken sent
  pub pieces : AllZip (λ f x. HasPiece (piece_of d st r f f.body) x) (sent_at a sent) said
