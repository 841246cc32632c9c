-- Each parcel is sent as its frame.
use Rattle.std.proofs.Common.{List, ℕ, Some, [], ◌∷◌, length, sym, ap, subst, ◌∙◌}
use Rattle.p2p_wire.specs.Messages.{text_of}
use Rattle.run_data.specs.declared.entry.FrameText.TheVariants as texts
use Rattle.drop_phases.specs.Working.{end_in}
use Rattle.node_ends.specs.declared.sending.Sending.TheVariants as sendings
use Rattle.transfer_turns.specs.declared.parcels.ParcelBody.{ParcelBody}
use Rattle.transfer_turns.specs.Parcels.{text_in}
use Rattle.node_parts.specs.Sending.{Answers, PostsWith, answers_at, piece_in, pieces_at}
use Rattle.node_parts.proofs.Posting.{parcel_well}
use Rattle.node_parts.proofs.Posts.{with_none}
use Rattle.node_parts.proofs.transfer_frames.post_parcel.Goals as goal

-- ---- the frames

pub returns-in-Open-clause-well : goal.returns-in-Open-clause-well
returns-in-Open-clause-well c = λ was taken before quiet.
    parcel_well was taken c.args.slot c.args.parcel.peer c.args.sent.now.items c.post.new.sent.items (text_in c.args.parcel.body ∷ []) texts.Opening (ap (λ (b : ParcelBody). text_in b ∷ []) c.in-Open.is)
    (λ f of place. c.post.ensures.well was taken f before quiet of place)

pub returns-in-Close-clause-well : goal.returns-in-Close-clause-well
returns-in-Close-clause-well c = λ was taken before quiet.
    parcel_well was taken c.args.slot c.args.parcel.peer c.args.sent.now.items c.post-in-Close.new.sent.items (text_in c.args.parcel.body ∷ []) texts.Closing (ap (λ (b : ParcelBody). text_in b ∷ []) c.in-Close.is)
    (λ f of place. c.post-in-Close.ensures.well was taken f before quiet of place)

pub returns-in-Message-clause-well : goal.returns-in-Message-clause-well
returns-in-Message-clause-well c = λ was taken before quiet.
    parcel_well was taken c.args.slot c.args.parcel.peer c.args.sent.now.items c.post_said.new.sent.items (text_in c.args.parcel.body ∷ []) (texts.Line (text_of c.in-Message.said)) (ap (λ (b : ParcelBody). text_in b ∷ []) c.in-Message.is)
    (λ f of place. c.post_said.ensures.well was taken f before quiet of place)

pub returns-in-Piece-clause-well : goal.returns-in-Piece-clause-well
returns-in-Piece-clause-well c = λ was taken before quiet.
    parcel_well was taken c.args.slot c.args.parcel.peer c.args.sent.now.items c.post_piece.new.sent.items (text_in c.args.parcel.body ∷ []) (texts.Bytes (length c.from_vec-piece.result))
    (ap (λ (b : ParcelBody). text_in b ∷ []) c.in-Piece.is ∙ ap (λ (bytes : List ℕ). texts.Bytes (length bytes) ∷ []) (sym c.from_vec-piece.ensures))
    (λ f of place. c.post_piece.ensures.well was taken f before quiet of place)

-- ---- the links

pub returns-in-Open-clause-posts : goal.returns-in-Open-clause-posts
returns-in-Open-clause-posts c = with_none (pieces_at c.args.slot c.args.parcel) c.args.stamp c.args.ends.now c.post.new.ends c.args.sent.now.items c.post.new.sent.items c.post.ensures.posts

pub returns-in-Close-clause-posts : goal.returns-in-Close-clause-posts
returns-in-Close-clause-posts c = with_none (pieces_at c.args.slot c.args.parcel) c.args.stamp c.args.ends.now c.post-in-Close.new.ends c.args.sent.now.items c.post-in-Close.new.sent.items c.post-in-Close.ensures.posts

pub returns-in-Message-clause-posts : goal.returns-in-Message-clause-posts
returns-in-Message-clause-posts c = with_none (pieces_at c.args.slot c.args.parcel) c.args.stamp c.args.ends.now c.post_said.new.ends c.args.sent.now.items c.post_said.new.sent.items c.post_said.ensures.posts

pub returns-in-Piece-clause-posts : goal.returns-in-Piece-clause-posts
returns-in-Piece-clause-posts c =
    let a = end_in c.args.slot c.args.parcel.peer in
    subst (λ (these : Answers). PostsWith these c.args.stamp c.args.ends.now c.post_piece.new.ends c.args.sent.now.items c.post_piece.new.sent.items)
    (ap (λ (bytes : List ℕ). answers_at a (Some (sendings.Bytes bytes))) c.from_vec-piece.ensures ∙ sym (ap (λ (b : ParcelBody). answers_at a (piece_in b)) c.in-Piece.is))
    c.post_piece.ensures.posts
