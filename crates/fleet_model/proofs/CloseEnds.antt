-- What one Close of a node makes of its ends and of those of the others, as if frames were carried behind it.
use Rattle.std.proofs.Common.{◌≡◌, ◌≢◌, ◌⊎◌, inl, inr, ℕ, ◌+◌, ◌<◌, Bool, true, false, not, List, [], ◌∷◌, ◌++◌, Option, Some, None, length, map, refl, sym, ap, ◌∙◌, subst, arith}
use Rattle.std.specs.Prelude.{◌==◌, ◌&&◌, cond, is_some}
use Rattle.std.specs.List.{AllZip}
use Rattle.std.specs.Option.{option_map}
use Rattle.std.proofs.lemmas.Bool.{and_parts, eqb-true}
use Rattle.std.proofs.lemmas.List.{append-nil, append_assoc, length-append}
use Rattle.annex_base.specs.Bools.{same_bool}
use Rattle.annex_base.specs.declared.kinds.EntryStamp.{EntryStamp}
use Rattle.annex_base.specs.declared.kinds.Word.{Word}
use Rattle.annex_base.proofs.Conditions.{eqb_refl, same_bool_is, same_bool_refl}
use Rattle.link_ring.specs.Ends.{EndView, after_carry}
use Rattle.link_ring.specs.declared.frame.Frame.{Frame}
use Rattle.run_data.specs.declared.entry.EntryKind.{EntryKind}
use Rattle.run_data.specs.declared.entry.FrameText.{FrameText}
use Rattle.run_data.specs.declared.entry.FrameText.TheVariants as texts
use Rattle.run_data.specs.declared.entry.FrameView.{FrameView}
use Rattle.node_model.specs.Ends.{End, EndName, frames, sends_at, sent_at}
use Rattle.node_ends.specs.declared.sending.Sending.{Sending}
use Rattle.node_ends.specs.declared.sending.Sending.TheVariants as sendings
use Rattle.node_ends.specs.Ends.{end_in, link_at}
use Rattle.node_ends.specs.Joined.{end_with, link_carried}
use Rattle.node_ends.specs.Sent.{link_sends, next_sent, text_of_sending}
use Rattle.joined_nodes.specs.Posting.{Posts, word_with}
use Rattle.driver_model.specs.Driver.{Driver}
use Rattle.driver_model.specs.Ways.{other_end}
use Rattle.link_flights.specs.Entries.{HasPiece, link_after}
use Rattle.link_flights.specs.Fleets.{AreAllCarried, AreEndsIn}
use Rattle.link_flights.specs.Flights.{IsEndIn}

-- ---- one end sends a Close

-- an end that sent a Close
abbrev pub closed : EndView → EntryStamp → EndView
closed v sender = link_sends sender None sendings.Close v

-- to carry what waited, then to close, and to carry again is to close and to carry
pub carry_closed : (sender : EntryStamp) (x w : EndView) → after_carry (closed x sender) w ≡ after_carry (closed (after_carry x w) sender) (after_carry w x)
carry_closed sender x w = λ i. record (closed x sender) { at_hand = sym (append-nil (x.at_hand ++ w.on_way)) i; on_way = []; used = many i }
  where
    f : Frame
    f = next_sent sender None sendings.Close x

    many : length w.at_hand + length (x.on_way ++ f ∷ []) ≡ length (w.at_hand ++ x.on_way) + length (f ∷ [])
    many = let a = length-append x.on_way (f ∷ []) in let b = length-append w.at_hand x.on_way in omega (arith, a, b)

-- and the same for the other end
pub carry_to_closed : (sender : EntryStamp) (x w : EndView) → after_carry w (closed x sender) ≡ after_carry (after_carry w x) (closed (after_carry x w) sender)
carry_to_closed sender x w = λ i. record w { at_hand = hand i; on_way = []; used = many i }
  where
    f : Frame
    f = next_sent sender None sendings.Close x

    hand : w.at_hand ++ (x.on_way ++ f ∷ []) ≡ (w.at_hand ++ x.on_way) ++ f ∷ []
    hand = sym (append_assoc w.at_hand x.on_way (f ∷ []))

    many : length x.at_hand + length w.on_way ≡ length (x.at_hand ++ w.on_way) + 0
    many = let a = length-append x.at_hand w.on_way in omega (arith, a)

-- ---- the frame of a Close, and what was said at each end

sends_own : (a : EndName) (f : FrameView) → f.peer ≡ a.peer → f.slot ≡ a.slot → f.up ≡ a.client → sends_at a f ≡ true
sends_own a f peer slot up = rw (peer, slot, up, eqb_refl a.peer, eqb_refl a.slot) (same_bool_refl a.client)

sends_is : (a b : EndName) (f : FrameView) → f.peer ≡ a.peer → f.slot ≡ a.slot → f.up ≡ a.client → sends_at b f ≡ true → b ≡ a
sends_is a b f peer slot up is =
    let way = and_parts ((f.peer == b.peer) && (f.slot == b.slot)) (same_bool f.up b.client) is in
    let numbers = and_parts (f.peer == b.peer) (f.slot == b.slot) way.0 in
    let same_peer : b.peer ≡ a.peer = sym (eqb-true f.peer b.peer numbers.0) ∙ peer in
    let same_slot : b.slot ≡ a.slot = sym (eqb-true f.slot b.slot numbers.1) ∙ slot in
    let same_client : b.client ≡ a.client = sym (same_bool_is f.up b.client way.1) ∙ up in
    λ i. record { peer = same_peer i; slot = same_slot i; client = same_client i }

-- what an entry that closes the end a, which stood so, sends
abbrev pub closing : EndName → End → List FrameView
closing a c = frames a c (texts.Closing ∷ [])

abbrev close_frame : EndName → End → FrameView
close_frame a c = record { peer = a.peer; slot = a.slot; up = a.client; epoch = c.epoch; seq = c.sent + 1; body = texts.Closing }

pub sent_own : (a : EndName) (c : End) → sent_at a (closing a c) ≡ closing a c
sent_own a c = ap (λ (b : Bool). cond b (closing a c) []) (sends_own a (close_frame a c) refl refl refl)

pub sent_elsewhere : (a b : EndName) (c : End) → b ≢ a → sent_at b (closing a c) ≡ []
sent_elsewhere a b c other = go (sends_at b (close_frame a c)) refl
  where
    go : (t : Bool) → sends_at b (close_frame a c) ≡ t → sent_at b (closing a c) ≡ []
    go true e = absurd (other (sends_is a b (close_frame a c) refl refl refl e))
    go false e = ap (λ (t : Bool). cond t (closing a c) []) e

none_said : (said : List Sending) → map text_of_sending said ≡ [] → said ≡ []
none_said [] none = refl
none_said (x ∷ said) none = absurd (cc)

pub is_close : (x : Sending) → text_of_sending x ≡ texts.Closing → x ≡ sendings.Close
is_close sendings.Open e = absurd (cc)
is_close sendings.Close e = refl
is_close (sendings.Line line l) e = absurd (cc)
is_close (sendings.Bytes bytes) e = absurd (cc)

first_text : (x : Sending) (said : List Sending) (t : FrameText) → map text_of_sending (x ∷ said) ≡ t ∷ [] → (text_of_sending x ≡ t) × (map text_of_sending said ≡ [])
first_text x said t e = (cc, cc)

one_close : (said : List Sending) → map text_of_sending said ≡ texts.Closing ∷ [] → said ≡ sendings.Close ∷ []
one_close [] e = absurd (cc)
one_close (x ∷ said) e =
    let parts = first_text x said texts.Closing e in
    λ i. is_close x parts.0 i ∷ none_said said parts.1 i

-- a Close has no bytes
pub no_pieces : (piece : FrameView → List ℕ) (fs : List FrameView) (said : List Sending) → (said ≡ []) ⊎ (said ≡ sendings.Close ∷ []) → map text_of_sending said ≡ map (λ (f : FrameView). f.body) fs
    → AllZip (λ f x. HasPiece (piece f) x) fs said
no_pieces piece [] [] is listed = tt
no_pieces piece [] (x ∷ said) is listed = absurd (cc)
no_pieces piece (f ∷ fs) [] is listed = absurd (cc)
no_pieces piece (f ∷ fs) (x ∷ said) (inl none) listed = absurd (cc)
no_pieces piece (f ∷ []) (x ∷ []) (inr one) listed = (subst (HasPiece (piece f)) (sym (first x [] one)) tt, tt)
  where
    first : (x : Sending) (xs : List Sending) → x ∷ xs ≡ sendings.Close ∷ [] → x ≡ sendings.Close
    first x xs e = cc
no_pieces piece (f ∷ g ∷ fs) (x ∷ []) (inr one) listed = absurd (cc)
no_pieces piece (f ∷ []) (x ∷ y ∷ said) (inr one) listed = absurd (cc)
no_pieces piece (f ∷ g ∷ fs) (x ∷ y ∷ said) (inr one) listed = absurd (cc)

-- ---- the ends of a node that closed one

-- what is said by an entry that closes the end a
pub record SaysClose (a : EndName) (said : EndName → List Sending) : Type 0 where
  pub here : said a ≡ sendings.Close ∷ []
  pub elsewhere : (b : EndName) → b ≢ a → said b ≡ []

pub says_close : (a : EndName) (c : End) (sender : EntryStamp) (kind : EntryKind) (was now : List EndView) (p : Posts sender kind was now None (closing a c)) → SaysClose a p.said
says_close a c sender kind was now p = record {
  here = one_close (p.said a) (p.listed a ∙ ap (map (λ (f : FrameView). f.body)) (sent_own a c));
  elsewhere = λ b other. none_said (p.said b) (p.listed b ∙ ap (map (λ (f : FrameView). f.body)) (sent_elsewhere a b c other));
}

nothing_sent : (o : Option EndView) → option_map (λ (v : EndView). v) o ≡ o
nothing_sent None = refl
nothing_sent (Some v) = refl

-- whoever sent it, where this was said at an end it stays as it was, or was closed
pub after_none : (sender : EntryStamp) (word : Sending → Option Word) (b : EndName) (said : List Sending) (o : Option EndView) → said ≡ [] → option_map (link_after sender word b None said) o ≡ o
after_none sender word b said o none = ap (λ (xs : List Sending). option_map (link_after sender word b None xs) o) none ∙ nothing_sent o

pub after_close : (sender : EntryStamp) (word : Sending → Option Word) (a : EndName) (said : List Sending) (v : EndView) → said ≡ sendings.Close ∷ [] → word sendings.Close ≡ None
    → option_map (link_after sender word a None said) (Some v) ≡ Some (closed v sender)
after_close sender word a said v one none = ap (λ (xs : List Sending). option_map (link_after sender word a None xs) (Some v)) one ∙ (λ i. Some (link_sends sender (none i) sendings.Close v))

pub posted_here : (a : EndName) (c : End) (sender : EntryStamp) (kind : EntryKind) (was now : List EndView) (v : EndView) → Posts sender kind was now None (closing a c) → link_at was a ≡ Some v
    → link_at now a ≡ Some (closed v sender)
posted_here a c sender kind was now v p at =
    p.links a ∙ (ap (option_map (link_after sender (word_with a None kind) a None (p.said a))) at
    ∙ after_close sender (word_with a None kind) a (p.said a) v (says_close a c sender kind was now p).here refl)

pub posted_elsewhere : (a b : EndName) (c : End) (sender : EntryStamp) (kind : EntryKind) (was now : List EndView) → Posts sender kind was now None (closing a c) → b ≢ a → link_at now b ≡ link_at was b
posted_elsewhere a b c sender kind was now p other =
    p.links b ∙ after_none sender (word_with b None kind) b (p.said b) (link_at was b) ((says_close a c sender kind was now p).elsewhere b other)

-- ---- carried ends

abbrev pub IsThere : {X : Type 0} → Option X → Type 0
IsThere {X} o = (x : X) × (o ≡ Some x)

pub there_is : (o : Option EndView) → is_some o ≡ true → IsThere o
there_is None e = absurd (cc)
there_is (Some v) e = (v, refl)

pub carried_there : (o p : Option EndView) → IsThere o → IsThere p → IsThere (link_carried o p)
carried_there o p x y = (after_carry x.0 y.0, λ i. link_carried (x.1 i) (y.1 i))

-- an end stands as it did, once frames were carried
pub carried_stands : (o p : Option EndView) → IsThere o → IsThere p → end_in (link_carried o p) ≡ end_in o
carried_stands o p x y = (λ i. end_in (link_carried (x.1 i) (y.1 i))) ∙ sym (ap end_in x.1)

-- carrying changes no end that is as the flights tell
abbrev pub StaysCarried : Type 0
StaysCarried = (d : Driver) (r : ℕ) (a : EndName) (v w : EndView) → IsEndIn d.flights r a v → IsEndIn d.flights a.peer (other_end r a) w → after_carry v w ≡ v

-- each repository has ends at r, and r at each
pub record BothThere (count r : ℕ) (ends : ℕ → List EndView) : Type 0 where
  pub own : (q slot : ℕ) (client : Bool) → q < count → q ≢ r → slot < 4 → IsThere (link_at (ends r) (end_with q slot client))
  pub theirs : (q slot : ℕ) (client : Bool) → q < count → q ≢ r → slot < 4 → IsThere (link_at (ends q) (end_with r slot client))

other_is : (q p slot : ℕ) (client : Bool) → end_with q slot (not client) ≡ other_end q (end_with p slot client)
other_is q p slot true = refl
other_is q p slot false = refl

two_carried : StaysCarried → (d : Driver) (count : ℕ) (ends : ℕ → List EndView) → AreEndsIn d.flights count ends → (q p slot : ℕ) (client : Bool) → q < count → p < count → p ≢ q
    → IsThere (link_at (ends q) (end_with p slot client)) → IsThere (link_at (ends p) (end_with q slot (not client)))
    → link_at (ends q) (end_with p slot client) ≡ link_carried (link_at (ends q) (end_with p slot client)) (link_at (ends p) (end_with q slot (not client)))
two_carried law d count ends are q p slot client known other apart x y =
    x.1 ∙ (ap (λ (v : EndView). Some v) (sym (law d q (end_with p slot client) x.0 y.0 (are q (end_with p slot client) x.0 known other apart x.1)
    (subst (λ (b : EndName). IsEndIn d.flights p b y.0) (other_is q p slot client) (are p (end_with q slot (not client)) y.0 other known (λ e. apart (sym e)) y.1))))
    ∙ (λ i. link_carried (sym x.1 i) (sym y.1 i)))

pub all_carried : StaysCarried → (d : Driver) (count r : ℕ) (ends : ℕ → List EndView) → r < count → AreEndsIn d.flights count ends → BothThere count r ends → AreAllCarried count r (ends r) ends ends
all_carried law d count r ends known are both = record {
  own = λ q slot client within other low. two_carried law d count ends are r q slot client known within other (both.own q slot client within other low) (both.theirs q slot (not client) within other low);
  theirs = λ q slot client within other low. two_carried law d count ends are q r slot client within known (λ e. other (sym e)) (both.theirs q slot client within other low) (both.own q slot (not client) within other low);
  others = λ q b within other apart. refl;
}

pub both_carried : (count r : ℕ) (mine : List EndView) (base ends : ℕ → List EndView) → AreAllCarried count r mine base ends
    → ((q slot : ℕ) (client : Bool) → q < count → q ≢ r → slot < 4 → IsThere (link_at mine (end_with q slot client)))
    → ((q slot : ℕ) (client : Bool) → q < count → q ≢ r → slot < 4 → IsThere (link_at (base q) (end_with r slot client))) → BothThere count r ends
both_carried count r mine base ends carried own theirs = record {
  own = λ q slot client within other low. moved (sym (carried.own q slot client within other low)) (carried_there _ _ (own q slot client within other low) (theirs q slot (not client) within other low));
  theirs = λ q slot client within other low. moved (sym (carried.theirs q slot client within other low)) (carried_there _ _ (theirs q slot client within other low) (own q slot (not client) within other low));
}
  where
    moved : {o p : Option EndView} → o ≡ p → IsThere o → IsThere p
    moved e x = subst IsThere e x
