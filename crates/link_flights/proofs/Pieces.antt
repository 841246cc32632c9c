-- The bytes of what is said, frame by frame.
use Rattle.std.proofs.Common.{◌≡◌, inl, inr, ℕ, List, [], ◌∷◌, refl, sym}
use Rattle.std.specs.Prelude.{length, map}
use Rattle.std.specs.List.{AllZip}
use Rattle.annex_base.specs.Lists.{Member}
use Rattle.run_data.specs.declared.entry.FrameView.{FrameView}
use Rattle.run_data.specs.declared.entry.FrameText.TheVariants as texts
use Rattle.node_ends.specs.declared.sending.Sending.{Sending}
use Rattle.node_ends.specs.declared.sending.Sending.TheVariants as sendings
use Rattle.node_ends.specs.Sent.{text_of_sending}
use Rattle.link_flights.specs.Entries.{HasPiece}

pub pieces_zip : (piece : FrameView → List ℕ) (fs : List FrameView) (said : List Sending) → map text_of_sending said ≡ map (λ (f : FrameView). f.body) fs
    → ((f : FrameView) (bytes : List ℕ) → Member f fs → Member (sendings.Bytes bytes) said → f.body ≡ texts.Bytes (length bytes) → bytes ≡ piece f)
    → AllZip (λ f x. HasPiece (piece f) x) fs said
pieces_zip piece [] [] listed each = tt
pieces_zip piece [] (x ∷ said) listed each = absurd (cc)
pieces_zip piece (f ∷ fs) [] listed each = absurd (cc)
pieces_zip piece (f ∷ fs) (x ∷ said) listed each =
    let here : text_of_sending x ≡ f.body = cc in
    let more : map text_of_sending said ≡ map (λ (g : FrameView). g.body) fs = cc in
    (one x (inl refl) here, pieces_zip piece fs said more (λ g bytes m n is. each g bytes (inr m) (inr n) is))
  where
    one : (y : Sending) → Member y (x ∷ said) → text_of_sending y ≡ f.body → HasPiece (piece f) y
    one sendings.Open member is = tt
    one sendings.Close member is = tt
    one (sendings.Line line l) member is = tt
    one (sendings.Bytes bytes) member is = each f bytes (inl refl) member (sym is)
