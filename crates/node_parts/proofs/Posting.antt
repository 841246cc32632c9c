-- The frames of a step are sent where they have their places.
use Rattle.std.proofs.Common.{◌≡◌, ◌≢◌, inl, inr, ℕ, ◌<◌, ◌*◌, ◌+◌, Bool, true, false, ◌&&◌, if◌then◌else◌, List, [], ◌∷◌, ◌++◌, Option, Some, None, is_some, length, refl, sym, ap, subst, ◌∙◌, arith, append-nil, append_assoc}
use Rattle.std.specs.Prelude.{◌^◌, ◌-◌, flat_map, nat_le, nat_lt, slice_get}
use Rattle.std.specs.Option.{ForSome, option_to_list}
use Rattle.std.proofs.lemmas.Bool.{and_parts, true≢false}
use Rattle.std.proofs.lemmas.List.Elements.{filter-append}
use Rattle.std.proofs.lemmas.Option.{slice_get_within}
use Rattle.annex_base.specs.declared.kinds.EntryStamp.{EntryStamp}
use Rattle.annex_base.proofs.Conditions.{eqb_refl, same_bool_refl}
use Rattle.annex_base.proofs.Lists.{append_nil_left, cons_first, cons_nil}
use Rattle.run_data.specs.declared.entry.FrameText.{FrameText}
use Rattle.run_data.specs.declared.entry.FrameText.TheVariants as texts
use Rattle.run_data.specs.declared.entry.FrameView.{FrameView}
use Rattle.link_ring.specs.Ends.{EndView, free}
use Rattle.link_ring.specs.Places.{end_place}
use Rattle.node_model.specs.Ends.{End, EndName, end_sends, end_takes, end_took, frames, is_opening, sends_at, sent_at, taken_at}
use Rattle.node_model.specs.Sessions.{is_closing}
use Rattle.node_ends.specs.declared.sending.Sending.{Sending}
use Rattle.node_ends.specs.Ends.{end_at, end_in as end_of_link, has_room, link_at, passes, room_at, stands}
use Rattle.node_ends.specs.Going.{AreAfter, IsSent}
use Rattle.node_ends.specs.Sent.{link_may, may_send, text_of_sending}
use Rattle.p2p_wire.specs.Messages.{text_of}
use Rattle.drop_phases.specs.declared.turn.Parcel.{Parcel}
use Rattle.drop_phases.specs.declared.turn.ParcelBody.{ParcelBody}
use Rattle.drop_phases.specs.declared.turn.ParcelBody.TheVariants as bodies
use Rattle.drop_phases.specs.Working.{end_in, texts_of}
use Rattle.transfer_turns.specs.declared.parcels.Parcel.{Parcel as TransferParcel}
use Rattle.transfer_turns.specs.Parcels.{text_in}
use Rattle.job_frames.specs.Sending.{MaySend, TakesNoOpening, end_of, stood_at}
use Rattle.node_crash.proofs.Ends.{same_or_other}
use Rattle.node_parts.specs.Sending.{ArePlaced, IsFrame, IsPlaced, IsPosted, frames_of_drop, frames_of_transfer}

-- what a law says of ends with room, and of open ones
pub record Permits : Type 0 where
  pub opening : (links : List EndView) (a : EndName) → room_at links a ≡ true → may_send links a texts.Opening ≡ true
  pub line : (links : List EndView) (a : EndName) (line : List ℕ) → room_at links a ≡ true → may_send links a (texts.Line line) ≡ true
  pub bytes : (links : List EndView) (a : EndName) (n : ℕ) → room_at links a ≡ true → may_send links a (texts.Bytes n) ≡ true
  pub closing : (links : List EndView) (a : EndName) → (end_at links a).opened ≡ true → may_send links a texts.Closing ≡ true

-- ---- the end that sends a frame

-- the end that sends a frame does so
pub sends_its : (f : FrameView) → sends_at (end_of f) f ≡ true
sends_its f = rw (eqb_refl f.peer, eqb_refl f.slot) (same_bool_refl f.up)

pub frame_end : (a : EndName) (c : End) (text : FrameText) (f : FrameView) → frames a c (text ∷ []) ≡ f ∷ [] → end_of f ≡ a
frame_end a c text f view = ap end_of (sym (cons_first (record { peer = a.peer; slot = a.slot; up = a.client; epoch = (end_sends c text).epoch; seq = (end_sends c text).sent; body = text }) f [] [] view))

not_sent : (a : EndName) (f : FrameView) → sent_at a (f ∷ []) ≡ [] → sends_at a f ≡ false
not_sent a f none = go (sends_at a f) none
  where
    go : (b : Bool) → (if b then f ∷ [] else []) ≡ [] → b ≡ false
    go true is = absurd (cons_nil f [] is)
    go false is = refl

none_right : (xs ys : List FrameView) → xs ++ ys ≡ [] → ys ≡ []
none_right [] ys is = is
none_right (x ∷ xs) ys is = absurd (cons_nil x (xs ++ ys) is)

-- ---- a frame more

module _ (was now : List EndView) (taken : Option FrameView) (sent : List FrameView) (posted : IsPosted was taken now sent) where
  pub posted_more : (next : List EndView) (a : EndName) (stamp : EntryStamp) (said : Sending) (f : FrameView) → IsSent a stamp None said now next f → IsPosted was taken next (sent ++ f ∷ [])
  posted_more next a stamp said f is = record {
    after = is.after was taken sent posted.after;
    room = λ quiet b room none.
        let split : sent_at b sent ++ sent_at b (f ∷ []) ≡ [] = sym (filter-append (sends_at b) sent (f ∷ [])) ∙ none in
        let other : sends_at b f ≡ false = not_sent b f (none_right (sent_at b sent) (sent_at b (f ∷ [])) split) in
        let apart : b ≢ a = λ same. true≢false (sym (ap (λ (x : EndName). sends_at x f) (same ∙ sym (frame_end a (end_at now a) (text_of_sending said) f is.view)) ∙ sends_its f) ∙ other) in
        ap (passes has_room) (is.others b apart) ∙ posted.room quiet b room (append_nil_left (sent_at b sent) (sent_at b (f ∷ [])) split);
  }

  -- how the end of a frame stands
  stands_now : (a : EndName) → end_at now a ≡ stood_at (λ b. end_took (end_at was b) (taken_at b taken)) sent a
  stands_now a = posted.after.ends a

  closing_may : Permits → (a : EndName) (text : FrameText) → is_closing text ≡ true → (end_at now a).opened ≡ true → may_send now a text ≡ true
  closing_may permits a texts.Closing is live = permits.closing now a live
  closing_may permits a texts.Opening is live = absurd (true≢false (sym is))
  closing_may permits a (texts.Line line) is live = absurd (true≢false (sym is))
  closing_may permits a (texts.Bytes n) is live = absurd (true≢false (sym is))

  other_may : Permits → (a : EndName) (text : FrameText) → is_closing text ≡ false → room_at now a ≡ true → may_send now a text ≡ true
  other_may permits a texts.Closing is room = absurd (true≢false is)
  other_may permits a texts.Opening is room = permits.opening now a room
  other_may permits a (texts.Line line) is room = permits.line now a line room
  other_may permits a (texts.Bytes n) is room = permits.bytes now a n room

  own_may : Permits → TakesNoOpening taken → (f : FrameView) → MaySend (λ b. end_took (end_at was b) (taken_at b taken)) (room_at was) sent f → may_send now (end_of f) f.body ≡ true
  own_may permits quiet f (inl is) = closing_may permits (end_of f) f.body is.0 (ap (λ (c : End). c.opened) (stands_now (end_of f)) ∙ is.1)
  own_may permits quiet f (inr is) = other_may permits (end_of f) f.body is.0 (posted.room quiet (end_of f) is.1 is.2)

  pub may_place : Permits → TakesNoOpening taken → (a : EndName) (text : FrameText) (f : FrameView) → IsFrame a text f → IsPlaced was taken sent f → may_send now a text ≡ true
  may_place permits quiet a text f is place = ap (λ (b : EndName). may_send now b text) (sym is.at) ∙ ap (λ (t : FrameText). may_send now (end_of f) t) (sym is.body) ∙ own_may permits quiet f place.1

  own_next : (f : FrameView) → IsPlaced was taken sent f → frames (end_of f) (end_at now (end_of f)) (f.body ∷ []) ≡ f ∷ []
  own_next f place = ap (λ (c : End). frames (end_of f) c (f.body ∷ [])) (stands_now (end_of f)) ∙ place.0

  -- what is sent is the frame that has its place
  same_frame : (a : EndName) (text : FrameText) (f g : FrameView) → IsFrame a text f → IsPlaced was taken sent f → frames a (end_at now a) (text ∷ []) ≡ g ∷ [] → g ≡ f
  same_frame a text f g is place view =
      cons_first g f [] [] (sym view ∙ ap (λ (b : EndName). frames b (end_at now b) (text ∷ [])) (sym is.at) ∙ ap (λ (t : FrameText). frames (end_of f) (end_at now (end_of f)) (t ∷ [])) (sym is.body) ∙ own_next f place)

  -- it is listed, where the end may send it
  module _ (next : List EndView) (a : EndName) (stamp : EntryStamp) (said : Sending) (o : Option FrameView) (gives : is_some o ≡ may_send now a (text_of_sending said)) (is : ForSome o (IsSent a stamp None said now next)) where
    pub posted_by : (may_send now a (text_of_sending said) ≡ false → (o ≡ None) × (next ≡ now)) → IsPosted was taken next (sent ++ option_to_list o)
    posted_by kept = go o gives is
      where
        go : (p : Option FrameView) → is_some p ≡ may_send now a (text_of_sending said) → ForSome p (IsSent a stamp None said now next) → IsPosted was taken next (sent ++ option_to_list p)
        go None g i = subst (λ (l : List EndView). IsPosted was taken l (sent ++ [])) (sym (kept (sym g)).1) (subst (IsPosted was taken now) (sym (append-nil sent)) posted)
        go (Some f) g i = posted_more next a stamp said f (i f refl)

    pub listed_by : Permits → TakesNoOpening taken → (f : FrameView) → IsFrame a (text_of_sending said) f → IsPlaced was taken sent f → sent ++ option_to_list o ≡ sent ++ f ∷ []
    listed_by permits quiet f of place = go o gives is
      where
        go : (p : Option FrameView) → is_some p ≡ may_send now a (text_of_sending said) → ForSome p (IsSent a stamp None said now next) → sent ++ option_to_list p ≡ sent ++ f ∷ []
        go None g i = absurd (true≢false (sym (may_place permits quiet a (text_of_sending said) f of place) ∙ sym g))
        go (Some g') g i = ap (λ (x : FrameView). sent ++ x ∷ []) (same_frame a (text_of_sending said) f g' of place (i g' refl).view)

-- ---- frames that have their places

module _ (was : List EndView) (taken : Option FrameView) (sent fs gs : List FrameView) (all : ArePlaced was taken sent (fs ++ gs)) where
  pub placed_first : ArePlaced was taken sent fs
  placed_first xs ys f is = all xs (ys ++ gs) f (ap (λ (l : List FrameView). l ++ gs) is ∙ append_assoc xs (f ∷ ys) gs)

  pub placed_next : ArePlaced was taken (sent ++ fs) gs
  placed_next xs ys f is = subst (λ (l : List FrameView). IsPlaced was taken l f) (sym (append_assoc sent fs xs))
      (all (fs ++ xs) ys f (ap (λ (l : List FrameView). fs ++ l) is ∙ sym (append_assoc fs xs (f ∷ ys))))

pub first_place : (was : List EndView) (taken : Option FrameView) (sent fs : List FrameView) (f : FrameView) → ArePlaced was taken sent (f ∷ fs) → IsPlaced was taken sent f
first_place was taken sent fs f all = subst (λ (l : List FrameView). IsPlaced was taken l f) (append-nil sent) (all [] fs f refl)

-- ---- the end of a parcel

passed_some : {X : Type 0} (p : X → Bool) (o : Option X) → passes p o ≡ true → is_some o ≡ true
passed_some p None is = is
passed_some p (Some x) is = refl

pub low_peer : (links : List EndView) (count : ℕ) (a : EndName) → length links ≡ count * 8 → is_some (link_at links a) ≡ true → a.peer < count
low_peer links count a size there = go (nat_lt a.slot 4) there
  where
    within : (o : Option EndView) → slice_get links (end_place a.peer a.slot a.client) ≡ o → is_some o ≡ true → a.peer < count
    within None at is = absurd (true≢false (sym is))
    within (Some v) at is =
        let low : end_place a.peer a.slot a.client < length links = slice_get_within links (end_place a.peer a.slot a.client) v at in
        omega (arith, low, size)

    go : (b : Bool) → is_some (if b then slice_get links (end_place a.peer a.slot a.client) else None) ≡ true → a.peer < count
    go true is = within (slice_get links (end_place a.peer a.slot a.client)) refl is
    go false is = absurd (true≢false (sym is))

pub sent_there : (links : List EndView) (a : EndName) (text : FrameText) → may_send links a text ≡ true → is_some (link_at links a) ≡ true
sent_there links a text may = passed_some (link_may text) (link_at links a) may

-- ---- a frame is taken

same_epoch : (c : End) (epoch : ℕ) (body : FrameText) → is_opening body ≡ false → (end_takes c epoch body).epoch ≡ c.epoch
same_epoch c epoch texts.Opening other = absurd (true≢false other)
same_epoch c epoch texts.Closing other = refl
same_epoch c epoch (texts.Line line) other = refl
same_epoch c epoch (texts.Bytes n) other = refl

all_three : (b c d : Bool) → b ≡ true → c ≡ true → d ≡ true → (b && (c && d)) ≡ true
all_three true true true p q r = refl
all_three true true false p q r = r
all_three true false d p q r = q
all_three false c d p q r = p

-- an end that took another frame than an opening has the room that it had
room_after_take : (was now : List EndView) (a : EndName) (f : FrameView) → is_opening f.body ≡ false → room_at was a ≡ true → may_send now a (texts.Line []) ≡ true → end_at now a ≡ end_took (end_at was a) (Some f) → room_at now a ≡ true
room_after_take was now a f other room may state = go (link_at was a) (link_at now a) room may state
  where
    go : (v w : Option EndView) → passes has_room v ≡ true → passes (link_may (texts.Line [])) w ≡ true → end_of_link w ≡ end_took (end_of_link v) (Some f) → passes has_room w ≡ true
    go None w had has is = absurd (true≢false (sym had))
    go (Some v) None had has is = absurd (true≢false (sym has))
    go (Some v) (Some w) had has is =
        let places = and_parts (nat_le 2 (free w)) (nat_lt (w.sent + 1) (2 ^ 62)) has in
        let numbers = and_parts (nat_lt (v.sent + 1) (2 ^ 62)) (nat_lt v.epoch (2 ^ 32 - 1)) (and_parts (nat_le 2 (free v)) (nat_lt (v.sent + 1) (2 ^ 62) && nat_lt v.epoch (2 ^ 32 - 1)) had).1 in
        let epoch : w.epoch ≡ v.epoch = ap (λ (c : End). c.epoch) is ∙ same_epoch (stands v) f.epoch f.body other in
        all_three (nat_le 2 (free w)) (nat_lt (w.sent + 1) (2 ^ 62)) (nat_lt w.epoch (2 ^ 32 - 1)) places.0 places.1 (ap (λ (n : ℕ). nat_lt n (2 ^ 32 - 1)) epoch ∙ numbers.1)

pub taken_posted : (was now : List EndView) (a : EndName) (f : FrameView) → room_at was a ≡ true → may_send now a (texts.Line []) ≡ true → end_at now a ≡ end_took (end_at was a) (Some f) → ((b : EndName) → b ≢ a → link_at now b ≡ link_at was b)
    → AreAfter was now (Some f) [] → IsPosted was (Some f) now []
taken_posted was now a f had may state others after = record {
  after = after;
  room = λ quiet b room none. elim (same_or_other b a) [
    | inl same ↦ subst (λ (x : EndName). room_at now x ≡ true) (sym same) (room_after_take was now a f quiet had may state)
    | inr other ↦ ap (passes has_room) (others b other) ∙ room
  ];
}

-- ---- all parcels, of which each has such frames

-- what was sent, and the frames of the parcels that are left, which have their places, are the frames of all
pub record GoesWell {P : Type 0} (was : List EndView) (taken : Option FrameView) (each : P → List FrameView) (first : List FrameView) (all : List P) (sent : List FrameView) (left : List P) : Type 0 where
  pub whole : sent ++ flat_map each left ≡ first ++ flat_map each all
  pub placed : ArePlaced was taken sent (flat_map each left)

module _ {P : Type 0} (was : List EndView) (taken : Option FrameView) (each : P → List FrameView) (first : List FrameView) (all : List P) where
  pub goes_first : ArePlaced was taken first (flat_map each all) → GoesWell was taken each first all first all
  goes_first placed = record { whole = refl; placed = placed }

  module _ (sent : List FrameView) (p : P) (left : List P) where
    pub goes_placed : GoesWell was taken each first all sent (p ∷ left) → ArePlaced was taken sent (each p)
    goes_placed goes = placed_first was taken sent (each p) (flat_map each left) goes.placed

    pub goes_on_well : (more : List FrameView) → GoesWell was taken each first all sent (p ∷ left) → more ≡ sent ++ each p → GoesWell was taken each first all more left
    goes_on_well more goes is = subst (λ (l : List FrameView). GoesWell was taken each first all l left) (sym is) (record {
      whole = append_assoc sent (each p) (flat_map each left) ∙ goes.whole;
      placed = placed_next was taken sent (each p) (flat_map each left) goes.placed;
    })

  pub all_well : (sent : List FrameView) (left : List P) → left ≡ [] → GoesWell was taken each first all sent left → sent ≡ first ++ flat_map each all
  all_well sent left none goes = sym (append-nil sent) ∙ (ap (λ (ps : List P). sent ++ flat_map each ps) (sym none) ∙ goes.whole)

-- ---- one parcel

module _ (was : List EndView) (taken : Option FrameView) (slot peer : ℕ) (sent now : List FrameView) where
  -- the frame with this text that an end of a job's sends, as it stands so
  abbrev sent_as : End → FrameText → FrameView
  sent_as c text = record { peer = peer; slot = slot; up = true; epoch = (end_sends c text).epoch; seq = (end_sends c text).sent; body = text }

  -- the frames with these texts
  abbrev sent_here : List FrameText → List FrameView
  sent_here ts = frames (end_in slot peer) (end_at was (end_in slot peer)) ts

  pub parcel_well : (ts : List FrameText) (text : FrameText) → ts ≡ text ∷ [] → ((f : FrameView) → IsFrame (end_in slot peer) text f → IsPlaced was taken sent f → now ≡ sent ++ f ∷ [])
      → ArePlaced was taken sent (sent_here ts) → now ≡ sent ++ sent_here ts
  parcel_well ts text is sends all =
      let c : End = end_at was (end_in slot peer) in
      let f : FrameView = sent_as c text in
      let fs : sent_here ts ≡ f ∷ [] = ap (frames (end_in slot peer) c) is in
      sends f (record { at = refl; body = refl }) (first_place was taken sent [] f (subst (ArePlaced was taken sent) fs all)) ∙ ap (λ (l : List FrameView). sent ++ l) (sym fs)

  pub last_well : (ts : List FrameText) (text next : FrameText) → ts ≡ text ∷ next ∷ [] → ((f g : FrameView) → IsFrame (end_in slot peer) text f → IsFrame (end_in slot peer) next g → ArePlaced was taken sent (f ∷ g ∷ []) → now ≡ sent ++ f ∷ g ∷ [])
      → ArePlaced was taken sent (sent_here ts) → now ≡ sent ++ sent_here ts
  last_well ts text next is sends all =
      let c : End = end_at was (end_in slot peer) in
      let f : FrameView = sent_as c text in
      let g : FrameView = sent_as (end_sends c text) next in
      let fs : sent_here ts ≡ f ∷ g ∷ [] = ap (frames (end_in slot peer) c) is in
      sends f g (record { at = refl; body = refl }) (record { at = refl; body = refl }) (subst (ArePlaced was taken sent) fs all) ∙ ap (λ (l : List FrameView). sent ++ l) (sym fs)

  -- a frame of a parcel that has its place is sent at an end that is there
  pub texts_there : Permits → TakesNoOpening taken → (ends : List EndView) → IsPosted was taken ends sent → (ts : List FrameText) (text : FrameText) (more : List FrameText) → ts ≡ text ∷ more → ArePlaced was taken sent (sent_here ts)
      → is_some (link_at ends (end_in slot peer)) ≡ true
  texts_there permits quiet ends posted ts text more is all =
      let c : End = end_at was (end_in slot peer) in
      let f : FrameView = sent_as c text in
      let rest : List FrameView = frames (end_in slot peer) (end_sends c text) more in
      let fs : sent_here ts ≡ f ∷ rest = ap (frames (end_in slot peer) c) is in
      sent_there ends (end_in slot peer) text
      (may_place was ends taken sent posted permits quiet (end_in slot peer) text f (record { at = refl; body = refl }) (first_place was taken sent rest f (subst (ArePlaced was taken sent) fs all)))

module _ (was : List EndView) (taken : Option FrameView) (slot : ℕ) (sent now : List FrameView) (permits : Permits) (quiet : TakesNoOpening taken) (ends : List EndView) (posted : IsPosted was taken ends sent) where
  pub drop_there : (p : Parcel) → ArePlaced was taken sent (frames_of_drop was slot p) → is_some (link_at ends (end_in slot p.peer)) ≡ true
  drop_there p all = go p.body refl
    where
      some_text : (text : FrameText) (more : List FrameText) → texts_of p.body ≡ text ∷ more → is_some (link_at ends (end_in slot p.peer)) ≡ true
      some_text text more is = texts_there was taken slot p.peer sent now permits quiet ends posted (texts_of p.body) text more is all

      go : (b : ParcelBody) → p.body ≡ b → is_some (link_at ends (end_in slot p.peer)) ≡ true
      go bodies.Open is = some_text texts.Opening [] (ap texts_of is)
      go bodies.Close is = some_text texts.Closing [] (ap texts_of is)
      go (bodies.Message m) is = some_text (texts.Line (text_of m)) [] (ap texts_of is)
      go (bodies.Last m) is = some_text (texts.Line (text_of m)) (texts.Closing ∷ []) (ap texts_of is)

  pub transfer_there : (p : TransferParcel) → ArePlaced was taken sent (frames_of_transfer was slot p) → is_some (link_at ends (end_in slot p.peer)) ≡ true
  transfer_there p all = texts_there was taken slot p.peer sent now permits quiet ends posted (text_in p.body ∷ []) (text_in p.body) [] refl all

-- ---- a whole step

-- the listing is empty at first, and the parcels are these
module _ {P : Type 0} (was : List EndView) (taken : Option FrameView) (each : P → List FrameView) (listing sent : List FrameView) (empty : listing ≡ []) (ps all : List P) (same : ps ≡ all) where
  pub sent_well : (ArePlaced was taken listing (flat_map each ps) → sent ≡ listing ++ flat_map each ps) → ArePlaced was taken [] (flat_map each all) → sent ≡ flat_map each all
  sent_well step placed =
      let here : ArePlaced was taken listing (flat_map each ps) =
      subst (λ (l : List FrameView). ArePlaced was taken l (flat_map each ps)) (sym empty)
      (subst (λ (xs : List P). ArePlaced was taken [] (flat_map each xs)) (sym same) placed) in
      step here
      ∙ (ap (λ (l : List FrameView). l ++ flat_map each ps) empty
      ∙ ap (λ (xs : List P). flat_map each xs) same)
