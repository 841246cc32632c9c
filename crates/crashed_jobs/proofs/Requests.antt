-- The last request on the connection of a frame.
use Rattle.std.proofs.Common.{◌≡◌, ℕ, Bool, true, false, if◌then◌else◌, List, [], ◌∷◌, ◌++◌, filter, map, reverse, Option, Some, None, refl, sym, ◌∙◌, ap, append-nil}
use Rattle.std.specs.Option.{option_map, option_or}
use Rattle.std.proofs.lemmas.List.{map-append, reverse-append}
use Rattle.std.proofs.lemmas.List.Elements.{filter-append}
use Rattle.run_data.specs.declared.entry.Entry.{Entry}
use Rattle.run_data.specs.declared.entry.FrameView.{FrameView}
use Rattle.run_model.specs.Frames.{FlyingFrame, Way, flying_frame, frames_sent, last_of, last_request, on_way, requests, said_of, says, up_of, way_of}
use Rattle.run_model.specs.Past.{is_of}
use Rattle.run_model.specs.Said.{is_request, message_in}
use Rattle.crashed_jobs.specs.Looks.{asked_before, asked_by, asked_frames, asks_on, goes_there, last_asked, said_in}

-- ---- the last of a list

or_none : {X : Type 0} (y : X) (ys : List X) (o : Option X) → option_or (last_of (y ∷ ys)) o ≡ last_of (y ∷ ys)
or_none y [] o = refl
or_none y (z ∷ zs) o = or_none z zs o

-- that of the second list, if it has one
last-append : {X : Type 0} (xs ys : List X) → last_of (xs ++ ys) ≡ option_or (last_of ys) (last_of xs)
last-append [] [] = refl
last-append [] (y ∷ ys) = sym (or_none y ys None)
last-append (x ∷ []) [] = refl
last-append (x ∷ []) (y ∷ ys) = sym (or_none y ys (Some x))
last-append (x ∷ z ∷ zs) ys = last-append (z ∷ zs) ys

last-map : {X Y : Type 0} (f : X → Y) (xs : List X) → last_of (map f xs) ≡ option_map f (last_of xs)
last-map f [] = refl
last-map f (x ∷ []) = refl
last-map f (x ∷ y ∷ ys) = last-map f (y ∷ ys)

-- ---- one more entry, and one more frame

last_request-more : (past : List Entry) (r : ℕ) (f : FrameView) (e : Entry)
    → last_of (asked_frames (e ∷ past) r f) ≡ option_or (last_of (asked_by r f e)) (last_of (asked_frames past r f))
last_request-more past r f e = last-append (asked_frames past r f) (asked_by r f e)

-- the front of some entries ends with this entry, which made the last request
module _ (r : ℕ) (f : FrameView) (entries front earlier : List Entry) (e : Entry)
    (same : last_of (asked_frames (reverse entries) r f) ≡ last_of (asked_frames (reverse front) r f)) (is : front ≡ earlier ++ e ∷ []) where
  with_last : last_of (asked_frames (reverse entries) r f) ≡ option_or (last_of (asked_by r f e)) (last_of (asked_frames (reverse earlier) r f))
  with_last =
      same ∙ ap (λ (l : List Entry). last_of (asked_frames (reverse l) r f)) is
      ∙ ap (λ (l : List Entry). last_of (asked_frames l r f)) (reverse-append earlier (e ∷ []))
      ∙ last_request-more (reverse earlier) r f e

  pub asked_by_it : (g : FrameView) → last_of (asked_by r f e) ≡ Some g → Some g ≡ last_of (asked_frames (reverse entries) r f)
  asked_by_it g one = sym (with_last ∙ ap (λ (o : Option FrameView). option_or o (last_of (asked_frames (reverse earlier) r f))) one)

  pub asked_earlier : last_of (asked_by r f e) ≡ None → last_of (asked_frames (reverse entries) r f) ≡ last_of (asked_frames (reverse earlier) r f)
  asked_earlier none = with_last ∙ ap (λ (o : Option FrameView). option_or o (last_of (asked_frames (reverse earlier) r f))) none

last_asked-more : (f : FrameView) (sent : List FrameView) (x : FrameView) → last_asked f (sent ++ x ∷ []) ≡ (if asks_on f x then Some x else last_asked f sent)
last_asked-more f sent x =
    ap last_of (filter-append (asks_on f) sent (x ∷ [])) ∙ last-append (filter (asks_on f) sent) (filter (asks_on f) (x ∷ [])) ∙ one (asks_on f x) refl
  where
    one : (b : Bool) → asks_on f x ≡ b → option_or (last_of (filter (asks_on f) (x ∷ []))) (last_asked f sent) ≡ (if asks_on f x then Some x else last_asked f sent)
    one true is = rw is refl
    one false is = rw is refl

-- the front of some frames ends with a request there
pub asked_last : (f : FrameView) (sent front earlier : List FrameView) (x : FrameView) → last_asked f sent ≡ last_asked f front → front ≡ earlier ++ x ∷ []
    → asks_on f x ≡ true → Some x ≡ last_asked f sent
asked_last f sent front earlier x same is asks =
    sym (same ∙ ap (last_asked f) is ∙ last_asked-more f earlier x ∙ ap (λ (b : Bool). if b then Some x else last_asked f earlier) asks)

-- ---- the requests of a way, as frames

-- the way up of a frame's connection
abbrev asked_way : ℕ → FrameView → Way
asked_way r f = record { client = r; server = f.peer; slot = f.slot; up = true; epoch = f.epoch }

way_is : (r : ℕ) (f : FrameView) → f.up ≡ false → up_of (way_of r f) ≡ asked_way r f
way_is r f down = rw down refl

abbrev is_asked : FlyingFrame → Bool
is_asked x = says is_request x.frame

module _ (r : ℕ) (f : FrameView) where
  abbrev framed : List FlyingFrame → List FrameView
  framed xs = map (λ x. x.frame) (filter is_asked xs)

  framed-append : (xs ys : List FlyingFrame) → framed (xs ++ ys) ≡ framed xs ++ framed ys
  framed-append xs ys = ap (map (λ (x : FlyingFrame). x.frame)) (filter-append is_asked xs ys) ∙ map-append (λ (x : FlyingFrame). x.frame) (filter is_asked xs) (filter is_asked ys)

  -- the requests among what an entry sent there
  framed_sent : (e : Entry) (past : List Entry) (sent : List FrameView) → framed (map (flying_frame e past) (filter (goes_there f) sent)) ≡ filter (asks_on f) sent
  framed_sent e past [] = refl
  framed_sent e past (g ∷ sent) = cases (goes_there f g) (is_request (message_in g.body)) refl refl (framed_sent e past sent)
    where
      cases : (b c : Bool) → goes_there f g ≡ b → is_request (message_in g.body) ≡ c
          → framed (map (flying_frame e past) (filter (goes_there f) sent)) ≡ filter (asks_on f) sent
          → framed (map (flying_frame e past) (filter (goes_there f) (g ∷ sent))) ≡ filter (asks_on f) (g ∷ sent)
      cases true true goes asks rest = rw (goes, asks) (ap (λ (l : List FrameView). g ∷ l) rest)
      cases true false goes asks rest = rw (goes, asks) rest
      cases false c goes asks rest = rw goes rest

  requests_are : (past : List Entry) → framed (frames_sent past (asked_way r f)) ≡ asked_frames past r f
  requests_are [] = refl
  requests_are (e ∷ past) = cases (is_of r e) refl (requests_are past)
    where
      cases : (b : Bool) → is_of r e ≡ b → framed (frames_sent past (asked_way r f)) ≡ asked_frames past r f
          → framed (frames_sent (e ∷ past) (asked_way r f)) ≡ asked_frames (e ∷ past) r f
      cases true own rest = rw own
          (framed-append (frames_sent past (asked_way r f)) (map (flying_frame e past) (on_way (asked_way r f) e))
          ∙ ap (λ (l : List FrameView). l ++ framed (map (flying_frame e past) (on_way (asked_way r f) e))) rest
          ∙ ap (λ (l : List FrameView). asked_frames past r f ++ l) (framed_sent e past e.sent))
      cases false other rest = rw (other, append-nil) rest

said_of_frame : (o : Option FlyingFrame) → option_map said_in (option_map (λ (x : FlyingFrame). x.frame) o) ≡ option_map said_of o
said_of_frame None = refl
said_of_frame (Some x) = refl

-- what the last request said
pub asked_is : (past : List Entry) (r : ℕ) (f : FrameView) → f.up ≡ false → option_map said_in (last_of (asked_frames past r f)) ≡ asked_before past r f
asked_is past r f down =
    ap (λ (l : List FrameView). option_map said_in (last_of l)) (sym (requests_are r f past))
    ∙ ap (option_map said_in) (last-map (λ (x : FlyingFrame). x.frame) (requests past (asked_way r f)))
    ∙ said_of_frame (last_request past (asked_way r f))
    ∙ ap (λ (w : Way). option_map said_of (last_request past w)) (sym (way_is r f down))
