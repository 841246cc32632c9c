-- What is sent at an end, by node_ends' words and by node_model's.
use Rattle.std.proofs.Common.{◌≡◌, ◌+◌, ℕ, Bool, true, false, not, ◌&&◌, ◌||◌, List, [], ◌∷◌, ◌++◌, Option, Some, None, refl, sym, ap, ◌∙◌, subst, arith, append_assoc, true≢false}
use Rattle.std.specs.Prelude.{◌==◌, fold, if◌then◌else◌, length, map, nat_lt}
use Rattle.std.specs.List.{AllZip, after_first}
use Rattle.std.specs.Option.{option_map}
use Rattle.std.proofs.lemmas.Bool.Decides.{nat_tests}
use Rattle.std.proofs.lemmas.List.{append-nil, map-append}
use Rattle.annex_base.specs.Lists.{Each}
use Rattle.annex_base.proofs.Lists.{filter_all}
use Rattle.annex_base.specs.declared.kinds.EntryStamp.{EntryStamp}
use Rattle.annex_base.specs.declared.kinds.Word.{Word}
use Rattle.link_ring.specs.declared.frame.Frame.{Frame}
use Rattle.link_ring.specs.declared.frame.Body.{Body}
use Rattle.link_ring.specs.declared.frame.Body.TheVariants as bodies
use Rattle.link_ring.specs.declared.end.Phase.{Phase}
use Rattle.link_ring.specs.declared.end.Phase.TheVariants.{Closed, Opening, Open}
use Rattle.link_ring.specs.Frames.{is_closed}
use Rattle.link_ring.specs.Ends.{EndView, after_take, is_taken, next_frame, phase_after_frame, with_body, with_taken}
use Rattle.run_data.specs.declared.entry.FrameView.{FrameView}
use Rattle.run_data.specs.declared.entry.FrameText.{FrameText}
use Rattle.run_data.specs.declared.entry.FrameText.TheVariants as texts
use Rattle.node_model.specs.Ends.{End, EndName, end_sends, end_takes, end_took, frames, is_opening}
use Rattle.node_model.specs.State.{State}
use Rattle.node_ends.specs.declared.sending.Sending.{Sending}
use Rattle.node_ends.specs.declared.sending.Sending.TheVariants as sendings
use Rattle.node_ends.specs.Ends.{frame_at, stands, text_in}
use Rattle.node_ends.specs.Sent.{link_sends, next_sent, opened_for, text_of_sending}
use Rattle.driver_model.specs.Driver.{Driver, Flight, flight, piece_of}
use Rattle.link_flights.specs.Entries.{HasPiece, OpensClosed}
use Rattle.driver_model.specs.Ways.{other_end}
use Rattle.link_flights.specs.Flights.{flight_at}
use Rattle.link_flights.proofs.Lists.{rest, rest_after}
use Rattle.link_flights.proofs.Naming.{not_other_side}

-- ---- how an end stands after what it takes and sends

open_kept : (p : Phase) → is_closed (phase_after_frame p) ≡ is_closed p
open_kept Closed = refl
open_kept Opening = refl
open_kept Open = refl

pub stands_sent : (sender : EntryStamp) (word : Option Word) (x : Sending) (v : EndView) → stands (link_sends sender word x v) ≡ end_sends (stands v) (text_of_sending x)
stands_sent sender word sendings.Open v = refl
stands_sent sender word sendings.Close v = refl
stands_sent sender word (sendings.Line line listed) v = ap (λ (b : Bool). record { epoch = v.epoch; opened = not b; sent = v.sent + 1 }) (open_kept v.phase)
stands_sent sender word (sendings.Bytes bytes) v = ap (λ (b : Bool). record { epoch = v.epoch; opened = not b; sent = v.sent + 1 }) (open_kept v.phase)

body_stands : (u : EndView) (n : ℕ) (b : Body) → stands (with_body u n b) ≡ end_takes (stands u) n (text_in b)
body_stands u n bodies.Open = refl
body_stands u n (bodies.Line text) = refl
body_stands u n (bodies.Bytes bytes) = refl
body_stands u n bodies.Close = refl

frame_stands : (a : EndName) (u : EndView) (o : Option Frame) (f : FrameView) → option_map (frame_at a) o ≡ Some f → stands (with_taken u o) ≡ end_takes (stands u) f.epoch f.body
frame_stands a u None f is = absurd (cc)
frame_stands a u (Some g) f is =
    let same : frame_at a g ≡ f = cc in
    body_stands u g.epoch g.body ∙ ap (λ (h : FrameView). end_takes (stands u) h.epoch h.body) same

pub stands_taken : (a : EndName) (v : EndView) (f : FrameView) → option_map (frame_at a) (next_frame v) ≡ Some f → stands (after_take v) ≡ end_took (stands v) (Some f)
stands_taken a v f is = frame_stands a (record v { at_hand = after_first (is_taken v) v.at_hand }) (next_frame v) f is

hand_with_body : (u : EndView) (n : ℕ) (b : Body) → ((with_body u n b).at_hand ≡ u.at_hand) × ((with_body u n b).on_way ≡ u.on_way)
hand_with_body u n bodies.Open = (refl, refl)
hand_with_body u n (bodies.Line text) = (refl, refl)
hand_with_body u n (bodies.Bytes bytes) = (refl, refl)
hand_with_body u n bodies.Close = (refl, refl)

hand_with_taken : (u : EndView) (o : Option Frame) → ((with_taken u o).at_hand ≡ u.at_hand) × ((with_taken u o).on_way ≡ u.on_way)
hand_with_taken u None = (refl, refl)
hand_with_taken u (Some f) = hand_with_body u f.epoch f.body

-- where nothing is old, the first frame at hand goes
pub hand_taken : (v : EndView) → Each (λ f. is_taken v f ≡ true) v.at_hand → (after_take v).at_hand ≡ rest v.at_hand
hand_taken v all = (hand_with_taken (record v { at_hand = after_first (is_taken v) v.at_hand }) (next_frame v)).0 ∙ rest_after (is_taken v) v.at_hand all

pub way_taken : (v : EndView) → (after_take v).on_way ≡ v.on_way
way_taken v = (hand_with_taken (record v { at_hand = after_first (is_taken v) v.at_hand }) (next_frame v)).1

-- ---- what is sent

flight_path : (to peer slot epoch seq : ℕ) (body : FrameText) (u w : Bool) (bs cs : List ℕ) → u ≡ w → bs ≡ cs
    → Path Flight (record { to = to; frame = record { peer = peer; slot = slot; up = u; epoch = epoch; seq = seq; body = body }; bytes = bs })
    (record { to = to; frame = record { peer = peer; slot = slot; up = w; epoch = epoch; seq = seq; body = body }; bytes = cs })
flight_path to peer slot epoch seq body u w bs cs x y i = record { to = to; frame = record { peer = peer; slot = slot; up = x i; epoch = epoch; seq = seq; body = body }; bytes = y i }

way_opened : (x : Sending) (v : EndView) → (opened_for x v).on_way ≡ v.on_way
way_opened sendings.Open v = refl
way_opened sendings.Close v = refl
way_opened (sendings.Line line listed) v = refl
way_opened (sendings.Bytes bytes) v = refl

module _ (d : Driver) (st : State) (r : ℕ) (a : EndName) (sender : EntryStamp) (word : Sending → Option Word) where
  abbrev sends : EndView → Sending → EndView
  sends w x = link_sends sender (word x) x w

  -- a frame of r as it comes to the other end
  abbrev over : Frame → Flight
  over = flight_at a.peer (other_end r a)

  -- the frame that an end in this state lists next
  abbrev listed : End → FrameText → FrameView
  listed c body = record { peer = a.peer; slot = a.slot; up = a.client; epoch = (end_sends c body).epoch; seq = (end_sends c body).sent; body = body }

  abbrev Given : List FrameView → List Sending → Type 0
  Given fs said = AllZip (λ f x. HasPiece (piece_of d st r f f.body) x) fs said

  one_flies : (x : Sending) (v : EndView) → HasPiece (piece_of d st r (listed (stands v) (text_of_sending x)) (text_of_sending x)) x
      → over (next_sent sender (word x) x (opened_for x v)) ≡ flight d st r (listed (stands v) (text_of_sending x))
  one_flies sendings.Open v piece = flight_path a.peer r a.slot (v.epoch + 1) 1 texts.Opening (not (if a.client then false else true)) a.client [] [] (not_other_side a.client) refl
  one_flies sendings.Close v piece = flight_path a.peer r a.slot v.epoch (v.sent + 1) texts.Closing (not (if a.client then false else true)) a.client [] [] (not_other_side a.client) refl
  one_flies (sendings.Line line l) v piece = flight_path a.peer r a.slot v.epoch (v.sent + 1) (texts.Line line) (not (if a.client then false else true)) a.client [] [] (not_other_side a.client) refl
  one_flies (sendings.Bytes bytes) v piece =
      flight_path a.peer r a.slot v.epoch (v.sent + 1) (texts.Bytes (length bytes)) (not (if a.client then false else true)) a.client bytes
      (piece_of d st r (listed (stands v) (texts.Bytes (length bytes))) (texts.Bytes (length bytes))) (not_other_side a.client) piece

  way_more : (x : Sending) (v : EndView) → (sends v x).on_way ≡ v.on_way ++ next_sent sender (word x) x (opened_for x v) ∷ []
  way_more x v = ap (λ (fs : List Frame). fs ++ next_sent sender (word x) x (opened_for x v) ∷ []) (way_opened x v)

  -- the frames on their way from the end are the flights that the driver adds
  pub flies : (said : List Sending) (v : EndView) (c : End) → stands v ≡ c → Given (frames a c (map text_of_sending said)) said
      → map over (fold sends v said).on_way ≡ map over v.on_way ++ map (flight d st r) (frames a c (map text_of_sending said))
  flies [] v c at all = sym (append-nil (map over v.on_way))
  flies (x ∷ said) v c at all =
      let body = text_of_sending x in
      let next = next_sent sender (word x) x (opened_for x v) in
      let later = map (flight d st r) (frames a (end_sends c body) (map text_of_sending said)) in
      let here : over next ≡ flight d st r (listed c body) =
      subst (λ (c : End). HasPiece (piece_of d st r (listed c body) body) x → over next ≡ flight d st r (listed c body)) at (one_flies x v) all.0 in
      flies said (sends v x) (end_sends c body) (stands_sent sender (word x) x v ∙ ap (λ (c : End). end_sends c body) at) all.1
      ∙ ap (λ (fs : List Frame). map over fs ++ later) (way_more x v)
      ∙ ap (λ (xs : List Flight). xs ++ later) (map-append over v.on_way (next ∷ []))
      ∙ append_assoc (map over v.on_way) (over next ∷ []) later
      ∙ ap (λ (y : Flight). map over v.on_way ++ y ∷ later) here

  -- ---- what stays at hand

  not_opened : (x : Sending) (v : EndView) → is_opening (text_of_sending x) ≡ false → opened_for x v ≡ v
  not_opened sendings.Open v is = absurd (true≢false is)
  not_opened sendings.Close v is = refl
  not_opened (sendings.Line line l) v is = refl
  not_opened (sendings.Bytes bytes) v is = refl

  pub hand_sends : (said : List Sending) (v : EndView) → Each (λ b. is_opening b ≡ false) (map text_of_sending said) → (fold sends v said).at_hand ≡ v.at_hand
  hand_sends [] v none = refl
  hand_sends (x ∷ said) v none = hand_sends said (sends v x) none.1 ∙ ap (λ (w : EndView). w.at_hand) (not_opened x v none.0)

  -- what isn't old at a closed end is of a later epoch
  later : (v : EndView) (f : Frame) → not (is_closed v.phase) ≡ false → is_taken v f ≡ true → nat_lt v.epoch f.epoch ≡ true
  later v f closed young = go (is_closed v.phase) closed young
    where
      go : (b : Bool) → not b ≡ false → not (nat_lt f.epoch v.epoch || ((f.epoch == v.epoch) && b)) ≡ true → nat_lt v.epoch f.epoch ≡ true
      go true shut y = grind (arith, nat_tests)
      go false shut y = absurd (true≢false shut)

  all_later : (v : EndView) → not (is_closed v.phase) ≡ false → (fs : List Frame) → Each (λ f. is_taken v f ≡ true) fs → Each (λ f. nat_lt v.epoch f.epoch ≡ true) fs
  all_later v closed [] all = tt
  all_later v closed (f ∷ fs) all = (later v f closed all.0, all_later v closed fs all.1)

  hand_opens : (x : Sending) (v : EndView) → Each (λ f. is_taken v f ≡ true) v.at_hand → (is_opening (text_of_sending x) ≡ true → not (is_closed v.phase) ≡ false)
      → (opened_for x v).at_hand ≡ v.at_hand
  hand_opens sendings.Open v young opens = filter_all (λ f. nat_lt v.epoch f.epoch) v.at_hand (all_later v (opens refl) v.at_hand young)
  hand_opens sendings.Close v young opens = refl
  hand_opens (sendings.Line line l) v young opens = refl
  hand_opens (sendings.Bytes bytes) v young opens = refl

  -- where nothing old is at hand, an opening drops nothing
  pub hand_says : (said : List Sending) (v : EndView) → Each (λ f. is_taken v f ≡ true) v.at_hand → OpensClosed (stands v) None (map text_of_sending said)
      → (fold sends v said).at_hand ≡ v.at_hand
  hand_says [] v young opens = refl
  hand_says (x ∷ said) v young opens = hand_sends said (sends v x) opens.1 ∙ hand_opens x v young (λ is. (opens.0 is).0)

-- an entry that takes at the end opens nothing there
pub none_opened : (c : End) (f : FrameView) (bodies : List FrameText) → OpensClosed c (Some f) bodies → Each (λ b. is_opening b ≡ false) bodies
none_opened c f [] opens = tt
none_opened c f (body ∷ bodies) opens = (go (is_opening body) refl, opens.1)
  where
    go : (b : Bool) → is_opening body ≡ b → b ≡ false
    go false is = refl
    go true is = let no' : Some f ≡ None = (opens.0 is).1 in absurd (cc)
