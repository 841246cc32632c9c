-- What a step leaves of the store is below 2 ^ 62 bytes, where the node's store has so.
use Rattle.std.proofs.Common.{◌≡◌, ℕ, ◌<◌, ◌^◌, Bool, true, false, List, [], Option, Some, length, refl, sym, ap, ◌∙◌, subst, arith}
use Rattle.std.specs.Prelude.{if◌then◌else◌, max}
use Rattle.std.specs.Option.{option_map}
use Rattle.std.proofs.lemmas.Option.{same_Some}
use Rattle.annex_base.proofs.Conditions.{bytes_eq-refl}
use Rattle.object_store.specs.Stores.{Contents}
use Rattle.run_data.specs.declared.entry.EntryKind.{EntryKind}
use Rattle.run_data.specs.declared.entry.EntryKind.TheVariants as kinds
use Rattle.run_data.specs.declared.entry.FrameText.{FrameText}
use Rattle.run_data.specs.declared.entry.FrameText.TheVariants as texts
use Rattle.run_data.specs.declared.entry.FrameView.{FrameView}
use Rattle.run_model.specs.Run.{IsSmall}
use Rattle.node_model.specs.Look.{Effect}
use Rattle.node_model.specs.Rows.{content_after}
use Rattle.node_model.specs.Sessions.{line_in, message_said}
use Rattle.node_model.specs.State.{State}
use Rattle.driver_model.specs.Driver.{Driver, drops_part, part_at}
use Rattle.driver_model.specs.Turning.{asked_key, is_failure, is_valid, store_after, takes_frame, takes_into}
use Rattle.fleet_model.specs.Stores.{content_in}
use Rattle.fleet_model.proofs.Placing.{part_of_put}
use Rattle.fleet_model.proofs.Storing.{kept_with}

-- ---- parts

-- all parts of r are so short
abbrev pub AreShortParts : ℕ → Driver → Type 0
AreShortParts r d = (key : List ℕ) → length (part_at d r key) < 2 ^ 62

most : (n m : ℕ) → n < 2 ^ 62 → m < 2 ^ 62 → max n m < 2 ^ 62
most n m small few = grind arith

into_fits : (r : ℕ) (key bytes : List ℕ) (body : FrameText) (sent : List FrameView) (d : Driver) → d.largest < 2 ^ 62 → AreShortParts r (takes_into r key bytes body sent d) → (takes_into r key bytes body sent d).largest < 2 ^ 62
into_fits r key bytes (texts.Bytes n) [] d small parts =
    most d.largest (length _) small (subst (λ (xs : List ℕ). length xs < 2 ^ 62) (part_of_put d r key _) (parts key))
into_fits r key bytes (texts.Line text) sent d small parts = go (is_valid (line_in (texts.Line text))) (is_failure (message_said sent))
  where
    go : (a b : Bool) → (if a then (if b then drops_part r key d else d) else d).largest < 2 ^ 62
    go true true = small
    go true false = small
    go false b = small
into_fits r key bytes body sent d small parts = small

frame_fits : (r : ℕ) (bytes : List ℕ) (key : Option (List ℕ)) (taken : Option FrameView) (sent : List FrameView) (d : Driver) → d.largest < 2 ^ 62 → AreShortParts r (takes_frame r bytes key taken sent d)
    → (takes_frame r bytes key taken sent d).largest < 2 ^ 62
frame_fits r bytes (Some key) (Some f) sent d small parts = into_fits r key bytes f.body sent d small parts
frame_fits r bytes key taken sent d small parts = small

pub largest_fits : (st : State) (r : ℕ) (m : Effect) (bytes : List ℕ) (kind : EntryKind) (d : Driver) → d.largest < 2 ^ 62 → AreShortParts r (store_after st r m bytes kind d) → (store_after st r m bytes kind d).largest < 2 ^ 62
largest_fits st r m bytes (kinds.Talk job) d small parts = frame_fits r bytes (asked_key st m) m.taken m.sent d small parts
largest_fits st r m bytes kind d small parts = small

-- ---- contents

pub kind_is_small : (st : State) (r : ℕ) (m : Effect) (bytes : List ℕ) (kind : EntryKind) (d : Driver) (before : List ℕ → Option ℕ) (c : Contents) → AreShortParts r d
    → ((clock : ℕ) → kind ≡ kinds.Crash clock → ⊥) → ((key : List ℕ) → c key ≡ content_in (store_after st r m bytes kind d) r key) → ((key : List ℕ) → option_map length (c key) ≡ content_after key (before key) kind)
    → IsSmall kind
kind_is_small st r m bytes (kinds.Gain by size key) d before c parts never has counts =
    subst (λ (n : ℕ). n < 2 ^ 62) (same_Some (length (part_at d r key)) size (sym content ∙ counted)) (parts key)
  where
    content : option_map length (c key) ≡ Some (length (part_at d r key))
    content = ap (option_map length) (has key ∙ (kept_with d.contents r key (part_at d r key) key ∙ ap (λ (b : Bool). if b then Some (part_at d r key) else content_in d r key) (bytes_eq-refl key)))

    counted : option_map length (c key) ≡ Some size
    counted = counts key ∙ ap (λ (b : Bool). if b then Some size else before key) (bytes_eq-refl key)
kind_is_small st r m bytes (kinds.Crash clock) d before c parts never has counts = absurd (never clock refl)
kind_is_small st r m bytes kind d before c parts never has counts = tt
