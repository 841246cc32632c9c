-- What an entry makes of the flights at each end.
use Rattle.std.proofs.Common.{◌≡◌, ◌≢◌, ℕ, Bool, true, false, List, ◌++◌, Option, Some, None, refl, sym, ap, ◌∙◌, subst}
use Rattle.std.specs.Prelude.{filter, fold, if◌then◌else◌, IfSome, is_some, map}
use Rattle.std.specs.List.{AllZip}
use Rattle.std.specs.Option.{option_map}
use Rattle.std.proofs.lemmas.List.{append-nil}
use Rattle.std.proofs.lemmas.List.Elements.{filter-append}
use Rattle.annex_base.specs.Lists.{Each}
use Rattle.annex_base.specs.declared.kinds.EntryStamp.{EntryStamp}
use Rattle.annex_base.specs.declared.kinds.Word.{Word}
use Rattle.link_ring.specs.declared.frame.Frame.{Frame}
use Rattle.link_ring.specs.Ends.{EndView, after_take, is_taken, next_frame}
use Rattle.run_data.specs.declared.entry.FrameView.{FrameView}
use Rattle.run_data.specs.declared.entry.FrameText.{FrameText}
use Rattle.node_model.specs.Ends.{End, EndName, end_took, frames, is_opening, sent_at, taken_at, takes_at}
use Rattle.node_model.specs.State.{State}
use Rattle.node_ends.specs.declared.sending.Sending.{Sending}
use Rattle.node_ends.specs.Ends.{frame_at, stands}
use Rattle.node_ends.specs.Sent.{link_sends, text_of_sending}
use Rattle.driver_model.specs.Driver.{Driver, Flight, but_first, but_taken, flight, is_at, piece_of}
use Rattle.link_flights.specs.Entries.{HasPiece, OpensClosed, PostsAt, link_after, taken_off}
use Rattle.driver_model.specs.Ways.{other_end}
use Rattle.link_flights.specs.Flights.{HasAtHand, comes_to, flight_at}
use Rattle.link_flights.proofs.Lists.{but_other, but_own, rest, rest_mapped}
use Rattle.link_flights.proofs.Naming.{at_elsewhere, at_other, at_own, none_beside, sent_there}
use Rattle.link_flights.proofs.Said.{flies, hand_says, hand_sends, hand_taken, none_opened, stands_taken, way_taken}

-- ---- the flights

-- the first goes where the entry took a frame
abbrev pub without_taken : {X : Type 0} → Option FrameView → List X → List X
without_taken o xs = if is_some o then rest xs else xs

mapped_without : {X Y : Type 0} (f : X → Y) (o : Option FrameView) (xs : List X) (ys : List Y) → map f xs ≡ ys → map f (without_taken o xs) ≡ without_taken o ys
mapped_without f None xs ys same = same
mapped_without f (Some g) xs ys same = rest_mapped f xs ∙ ap rest same

but_here : (r : ℕ) (a : EndName) (taken : Option FrameView) (xs : List Flight) → filter (comes_to r a) (but_taken r taken xs) ≡ without_taken (taken_at a taken) (filter (comes_to r a) xs)
but_here r a None xs = refl
but_here r a (Some f) xs = go (takes_at a f) refl
  where
    go : (b : Bool) → takes_at a f ≡ b → filter (comes_to r a) (but_first (is_at r f) xs) ≡ without_taken (if b then Some f else None) (filter (comes_to r a) xs)
    go true is = but_own (comes_to r a) (is_at r f) (at_own r a f is) xs
    go false is = but_other (comes_to r a) (is_at r f) (at_other r a f is) xs

but_there : (r q : ℕ) (b : EndName) (taken : Option FrameView) (xs : List Flight) → q ≢ r → filter (comes_to q b) (but_taken r taken xs) ≡ filter (comes_to q b) xs
but_there r q b None xs apart = refl
but_there r q b (Some f) xs apart = but_other (comes_to q b) (is_at r f) (at_elsewhere r q b f apart) xs

module _ (d : Driver) (st : State) (r : ℕ) (taken : Option FrameView) (sent : List FrameView) where
  abbrev pub flights_now : List Flight
  flights_now = but_taken r taken d.flights ++ map (flight d st r) sent

  split_now : (q : ℕ) (b : EndName) → filter (comes_to q b) flights_now ≡ filter (comes_to q b) (but_taken r taken d.flights) ++ filter (comes_to q b) (map (flight d st r) sent)
  split_now q b = filter-append (comes_to q b) (but_taken r taken d.flights) (map (flight d st r) sent)

  -- to an end of r
  pub come_here : (a : EndName) → a.peer ≢ r → filter (comes_to r a) flights_now ≡ without_taken (taken_at a taken) (filter (comes_to r a) d.flights)
  come_here a apart =
      split_now r a ∙ ap (λ (xs : List Flight). filter (comes_to r a) (but_taken r taken d.flights) ++ xs) (none_beside d st r r a sent apart)
      ∙ append-nil (filter (comes_to r a) (but_taken r taken d.flights)) ∙ but_here r a taken d.flights

  -- to the other end of a connection of r
  pub come_there : (a : EndName) → a.peer ≢ r → filter (comes_to a.peer (other_end r a)) flights_now ≡ filter (comes_to a.peer (other_end r a)) d.flights ++ map (flight d st r) (sent_at a sent)
  come_there a apart =
      split_now a.peer (other_end r a)
      ∙ ap (λ (xs : List Flight). xs ++ filter (comes_to a.peer (other_end r a)) (map (flight d st r) sent)) (but_there r a.peer (other_end r a) taken d.flights apart)
      ∙ ap (λ (xs : List Flight). filter (comes_to a.peer (other_end r a)) d.flights ++ xs) (sent_there d st r a sent)

  -- between two others
  pub come_elsewhere : (q : ℕ) (b : EndName) → q ≢ r → b.peer ≢ r → filter (comes_to q b) flights_now ≡ filter (comes_to q b) d.flights
  come_elsewhere q b apart beside =
      split_now q b ∙ ap (λ (xs : List Flight). filter (comes_to q b) (but_taken r taken d.flights) ++ xs) (none_beside d st r q b sent beside)
      ∙ append-nil (filter (comes_to q b) (but_taken r taken d.flights)) ∙ but_there r q b taken d.flights apart

-- ---- the end at which it took and sent

module _ (d : Driver) (st : State) (r : ℕ) (a : EndName) (v : EndView) (taken : Option FrameView) (sent : List FrameView) (said : List Sending)
    (sender : EntryStamp) (word : Sending → Option Word) (posts : PostsAt d st r a v taken sent said) where
  abbrev pub after : EndView
  after = link_after sender word a taken said v

  abbrev pub between : End
  between = end_took (stands v) (taken_at a taken)

  pub stands_off : (o : Option FrameView) → IfSome o (λ f. option_map (frame_at a) (next_frame v) ≡ Some f) → stands (if is_some o then after_take v else v) ≡ end_took (stands v) o
  stands_off None takes = refl
  stands_off (Some f) takes = stands_taken a v f takes

  pub way_off : (o : Option FrameView) → (if is_some o then after_take v else v).on_way ≡ v.on_way
  way_off None = refl
  way_off (Some f) = way_taken v

  pub listed_frames : sent_at a sent ≡ frames a between (map text_of_sending said)
  listed_frames = posts.in_order.next ∙ ap (frames a between) (sym posts.listed)

  -- the frames on their way are the flights that were added there
  pub way_now : map (flight_at a.peer (other_end r a)) after.on_way ≡ map (flight_at a.peer (other_end r a)) v.on_way ++ map (flight d st r) (sent_at a sent)
  way_now =
      flies d st r a sender word said (taken_off a taken v) between (stands_off (taken_at a taken) posts.takes)
      (subst (λ (fs : List FrameView). AllZip (λ f x. HasPiece (piece_of d st r f f.body) x) fs said) listed_frames posts.pieces)
      ∙ ap (λ (fs : List Frame). map (flight_at a.peer (other_end r a)) fs ++ map (flight d st r) (frames a between (map text_of_sending said))) (way_off (taken_at a taken))
      ∙ ap (λ (fs : List FrameView). map (flight_at a.peer (other_end r a)) v.on_way ++ map (flight d st r) fs) (sym listed_frames)

  abbrev sends : EndView → Sending → EndView
  sends w x = link_sends sender (word x) x w

  -- nothing old is at hand
  pub hand_young : Each (λ f. is_taken v f ≡ true) v.at_hand → after.at_hand ≡ without_taken (taken_at a taken) v.at_hand
  hand_young young = go (taken_at a taken) (subst (λ (bodies : List FrameText). OpensClosed (stands v) (taken_at a taken) bodies) (sym posts.listed) posts.in_order.opens)
    where
      go : (o : Option FrameView) → OpensClosed (stands v) o (map text_of_sending said) → (fold sends (if is_some o then after_take v else v) said).at_hand ≡ without_taken o v.at_hand
      go None opens = hand_says d st r a sender word said v young opens
      go (Some f) opens = hand_sends d st r a sender word said (after_take v) (none_opened (stands v) f (map text_of_sending said) opens) ∙ hand_taken v young

  -- it takes nothing, and opens nothing
  pub hand_still : taken_at a taken ≡ None → Each (λ b. is_opening b ≡ false) (map (λ f. f.body) (sent_at a sent)) → after.at_hand ≡ without_taken (taken_at a taken) v.at_hand
  hand_still none opens = go (taken_at a taken) none
    where
      go : (o : Option FrameView) → o ≡ None → (fold sends (if is_some o then after_take v else v) said).at_hand ≡ without_taken o v.at_hand
      go None is = hand_sends d st r a sender word said v (subst (λ (bodies : List FrameText). Each (λ b. is_opening b ≡ false) bodies) (sym posts.listed) opens)
      go (Some f) is = absurd (cc)

  hand_now : after.at_hand ≡ without_taken (taken_at a taken) v.at_hand → HasAtHand d.flights r a v → a.peer ≢ r → HasAtHand (flights_now d st r taken sent) r a after
  hand_now kept hand apart =
      ap (map (flight_at r a)) kept ∙ mapped_without (flight_at r a) (taken_at a taken) v.at_hand (filter (comes_to r a) d.flights) hand
      ∙ sym (come_here d st r taken sent a apart)

  pub hand_now_young : Each (λ f. is_taken v f ≡ true) v.at_hand → HasAtHand d.flights r a v → a.peer ≢ r → HasAtHand (flights_now d st r taken sent) r a after
  hand_now_young young hand apart = hand_now (hand_young young) hand apart

  pub hand_now_still : taken_at a taken ≡ None → Each (λ b. is_opening b ≡ false) (map (λ f. f.body) (sent_at a sent)) → HasAtHand d.flights r a v → a.peer ≢ r
      → HasAtHand (flights_now d st r taken sent) r a after
  hand_now_still none opens hand apart = hand_now (hand_still none opens) hand apart
