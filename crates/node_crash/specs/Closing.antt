-- What a crash sends at the ends of a repository (own).
use Rattle.std.specs.Prelude.{◌≡◌, ◌≢◌, ◌⊎◌, ℕ, true, false, if◌then◌else◌, List, [], ◌∷◌, ◌++◌, Option, None, flat_map, is_some, length}
use Rattle.std.specs.List.{range_with_len}
use Rattle.annex_base.specs.Lists.{Each}
use Rattle.annex_base.specs.declared.kinds.EntryStamp.{EntryStamp}
use Rattle.run_data.specs.declared.entry.FrameText.TheVariants.{Closing}
use Rattle.run_data.specs.declared.entry.FrameView.{FrameView}
use Rattle.link_ring.specs.Ends.{EndView}
use Rattle.node_model.specs.AnyTime.{ends_with}
use Rattle.node_model.specs.Ends.{EndName, frames}
use Rattle.node_model.specs.Evidence.{but}
use Rattle.node_ends.specs.declared.sending.Sending.TheVariants as sendings
use Rattle.node_ends.specs.Ends.{end_at, link_at}
use Rattle.node_ends.specs.Going.{AreAfter, IsSent}
use Rattle.node_ends.specs.Joined.{StayPaired}

-- the Close of an end that is open
abbrev pub shut_at : List EndView → EndName → List FrameView
shut_at links a = if (end_at links a).opened then frames a (end_at links a) (Closing ∷ []) else []

-- the ends with these, in the order in which a crash closes them
abbrev pub names_with : List ℕ → List EndName
names_with peers = flat_map (λ peer. ends_with peer true ++ ends_with peer false) peers

-- those of the repository of this number among so many
abbrev pub all_names : ℕ → ℕ → List EndName
all_names own count = names_with (but own (range_with_len 0 count))

-- the end has sent a Close, which is listed behind the others, if it was open; else all is as it was
abbrev pub ClosesAt : EndName → EntryStamp → List EndView → List EndView → List FrameView → List FrameView → Type 0
ClosesAt a sender was now sent sent' = ((now ≡ was) × (sent' ≡ sent)) ⊎ ((f : FrameView) × IsSent a sender None sendings.Close was now f × (sent' ≡ sent ++ f ∷ []))

-- these ends have done so, one after the other
abbrev pub CloseInTurn : List EndName → EntryStamp → List EndView → List EndView → List FrameView → List FrameView → Type 0
CloseInTurn [] sender was now sent sent' = (now ≡ was) × (sent' ≡ sent)
CloseInTurn (a ∷ names) sender was now sent sent' = (mid : List EndView) × (listed : List FrameView) × ClosesAt a sender was mid sent listed × CloseInTurn names sender mid now listed sent'

-- each end of these that was open has sent a Close, in this order, and no other end has changed
pub record SendsCloses (names : List EndName) (sender : EntryStamp) (was now : List EndView) (sent sent' : List FrameView) : Type 0 where
  pub listed : sent' ≡ sent ++ flat_map (shut_at was) names
  pub turns : CloseInTurn names sender was now sent sent'
  pub others : (b : EndName) → Each (λ a. b ≢ a) names → link_at now b ≡ link_at was b
  pub each : (b : EndName) → (link_at now b ≡ link_at was b) ⊎ ((end_at now b).opened ≡ false)
  pub there : (b : EndName) → is_some (link_at was b) ≡ true → is_some (link_at now b) ≡ true
  pub after : (first : List EndView) (taken : Option FrameView) → AreAfter first was taken sent → AreAfter first now taken sent'
  pub paired : StayPaired was now
  pub count : length now ≡ length was
