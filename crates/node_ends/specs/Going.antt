-- How the ends of a repository go on by what its entry takes and sends (own).
use Rattle.std.specs.Prelude.{◌≡◌, ◌≢◌, [], ◌∷◌, ◌++◌, List, length, fold, Option}
use Rattle.std.specs.Option.{option_map}
use Rattle.annex_base.specs.declared.kinds.EntryStamp.{EntryStamp}
use Rattle.annex_base.specs.declared.kinds.Word.{Word}
use Rattle.link_ring.specs.Ends.{EndView}
use Rattle.run_data.specs.declared.entry.FrameView.{FrameView}
use Rattle.node_model.specs.Ends.{EndName, end_took, end_sends, frames, taken_at, sent_at}
use Rattle.node_ends.specs.declared.sending.Sending.{Sending}
use Rattle.node_ends.specs.Ends.{end_at, link_at}
use Rattle.node_ends.specs.Sent.{link_sends, text_of_sending}

-- these are the ends after those took this frame, if one, and then sent these
pub record AreAfter (was now : List EndView) (taken : Option FrameView) (sent : List FrameView) : Type 0 where
  pub count : length now ≡ length was
  pub ends : (a : EndName) → end_at now a ≡ fold (λ c f. end_sends c f.body) (end_took (end_at was a) (taken_at a taken)) (sent_at a sent)

-- the end of this name has sent it, which an entry lists as this frame, and no other end has changed
pub record IsSent (a : EndName) (sender : EntryStamp) (word : Option Word) (said : Sending) (was now : List EndView) (f : FrameView) : Type 0 where
  pub view : frames a (end_at was a) (text_of_sending said ∷ []) ≡ f ∷ []
  pub state : end_at now a ≡ end_sends (end_at was a) (text_of_sending said)
  pub link : link_at now a ≡ option_map (link_sends sender word said) (link_at was a)
  pub others : (b : EndName) → b ≢ a → link_at now b ≡ link_at was b
  pub count : length now ≡ length was
  pub after : (first : List EndView) (taken : Option FrameView) (sent : List FrameView) → AreAfter first was taken sent → AreAfter first now taken (sent ++ f ∷ [])
