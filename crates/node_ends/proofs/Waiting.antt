-- What waits at an end is found among what is at hand at all ends.
use Rattle.std.proofs.Common.{◌≡◌, ◌⊎◌, inl, inr, Bool, ◌&&◌, List, [], ◌∷◌, ◌++◌, Option, Some, None, refl, sym, ap, subst, ◌∙◌}
use Rattle.std.specs.Prelude.{flat_map}
use Rattle.std.specs.List.{find}
use Rattle.std.specs.Option.{option_map, option_and_then, option_to_list, option_or}
use Rattle.std.proofs.lemmas.Bool.{cases_Bool}
use Rattle.annex_base.specs.Lists.{Member}
use Rattle.link_ring.specs.declared.frame.Frame.{Frame}
use Rattle.link_ring.specs.Ends.{EndView, next_frame}
use Rattle.run_data.specs.declared.entry.FrameView.{FrameView}
use Rattle.node_model.specs.Ends.{End, EndName, may_take, takes_at}
use Rattle.node_model.specs.Look.{Look, waiting_frame}
use Rattle.node_model.specs.State.{State}
use Rattle.node_model.specs.SetUp.{SetUp}
use Rattle.node_model.specs.AnyTime.{all_ends}
use Rattle.node_ends.specs.Ends.{AreEnds, SeesEnds, link_at, end_at, frame_at, hand_at, if_may, wait_at}
use Rattle.node_ends.proofs.Naming.{takes_own, takes_is}

-- the test of what waits at an end that stands so
abbrev waits : EndName → End → FrameView → Bool
waits a c f = takes_at a f && may_take c f

abbrev hand : List EndView → EndName → Option Frame
hand links a = option_and_then next_frame (link_at links a)

abbrev at_one : List EndView → EndName → List FrameView
at_one links a = option_to_list (hand_at links a)

-- ---- one end

-- what an end has at hand is found there where it may be taken
own_hand : (a : EndName) (c : End) (o : Option Frame) (rest : List FrameView)
    → find (waits a c) (option_to_list (option_map (frame_at a) o) ++ rest) ≡ option_or (option_and_then (if_may c) (option_map (frame_at a) o)) (find (waits a c) rest)
own_hand a c None rest = refl
own_hand a c (Some f) rest = elim (cases_Bool (may_take c (frame_at a f))) [
  | inl is ↦ rw (takes_own a f, is) refl
  | inr other ↦ rw (takes_own a f, other) refl
]

-- what another end has at hand isn't, or it is that end
other_hand : (a x : EndName) (c : End) (o : Option Frame) (rest : List FrameView)
    → (a ≡ x) ⊎ (find (waits a c) (option_to_list (option_map (frame_at x) o) ++ rest) ≡ find (waits a c) rest)
other_hand a x c None rest = inr refl
other_hand a x c (Some f) rest = elim (cases_Bool (takes_at a (frame_at x f))) [
  | inl is ↦ inl (takes_is x a f is)
  | inr other ↦ inr (rw other refl)
]

-- ---- all ends

-- nothing, or what waits at this end
abbrev IsAt : List EndView → EndName → Option FrameView → Type 0
IsAt links a o = (o ≡ None) ⊎ (o ≡ wait_at links a)

either : (w o : Option FrameView) → (o ≡ None) ⊎ (o ≡ w) → (option_or w o ≡ None) ⊎ (option_or w o ≡ w)
either None o is = is
either (Some f) o is = inr refl

first : (w o : Option FrameView) → (o ≡ None) ⊎ (o ≡ w) → option_or w o ≡ w
first None o (inl none) = none
first None o (inr same) = same
first (Some f) o is = refl

abbrev among : List EndView → EndName → List EndName → Option FrameView
among links a xs = find (waits a (end_at links a)) (flat_map (at_one links) xs)

own_first : (links : List EndView) (a : EndName) (xs : List EndName) → among links a (a ∷ xs) ≡ option_or (wait_at links a) (among links a xs)
own_first links a xs = own_hand a (end_at links a) (hand links a) (flat_map (at_one links) xs)

none_or_own : (links : List EndView) (a : EndName) (xs : List EndName) → IsAt links a (among links a xs)
none_or_own links a [] = inl refl
none_or_own links a (x ∷ xs) = elim (other_hand a x (end_at links a) (hand links x) (flat_map (at_one links) xs)) [
  | inl same ↦ subst (λ (y : EndName). IsAt links a (among links a (y ∷ xs))) same
      (subst (λ (o : Option FrameView). IsAt links a o) (sym (own_first links a xs)) (either (wait_at links a) (among links a xs) (none_or_own links a xs)))
  | inr skip ↦ subst (λ (o : Option FrameView). IsAt links a o) (sym skip) (none_or_own links a xs)
]

pub among_is : (links : List EndView) (a : EndName) (xs : List EndName) → Member a xs → among links a xs ≡ wait_at links a
among_is links a [] member = absurd member
among_is links a (x ∷ xs) (inl same) = subst (λ (y : EndName). among links a (y ∷ xs) ≡ wait_at links a) same
    (own_first links a xs ∙ first (wait_at links a) (among links a xs) (none_or_own links a xs))
among_is links a (x ∷ xs) (inr later) = elim (other_hand a x (end_at links a) (hand links x) (flat_map (at_one links) xs)) [
  | inl same ↦ subst (λ (y : EndName). among links a (y ∷ xs) ≡ wait_at links a) same
      (own_first links a xs ∙ first (wait_at links a) (among links a xs) (none_or_own links a xs))
  | inr skip ↦ skip ∙ among_is links a xs later
]

pub waits_so : (links : List EndView) (s : SetUp) (st : State) (k : Look) (a : EndName) → AreEnds links s st → SeesEnds links s k → Member a (all_ends s)
    → waiting_frame (st.ends a) k a ≡ wait_at links a
waits_so links s st k a are sees member =
    ap (λ (c : End). waiting_frame c k a) (are.ends a member)
    ∙ ap (λ (fs : List FrameView). find (waits a (end_at links a)) fs) sees.at_hand
    ∙ among_is links a (all_ends s) member
