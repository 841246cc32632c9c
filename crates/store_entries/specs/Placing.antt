-- What a step that places a content or a part finds, and makes of the parts of a store (own).
use Rattle.std.specs.Prelude.{◌≡◌, ℕ, Bool, true, false, ◌||◌, List, Option, is_some, bytes_eq}
use Rattle.std.specs.Option.{ForSome}
use Rattle.content_lock.specs.Rows.{Rows, is_filling}
use Rattle.object_store.specs.Stores.{Contents, Parts}

-- the content is there, or the key is being filled, as far as the store tells
abbrev pub IsTaken : Bool → Option Contents → Rows → List ℕ → Type 0
IsTaken taken known rows key = ForSome known (λ c. taken ≡ (is_some (c key) || is_filling rows key))

-- the key's part has these bytes, and the others are as they were, as far as the store tells
pub record HasPart (key bytes : List ℕ) (known known' : Option Parts) : Type 0 where
  pub tells : is_some known' ≡ is_some known
  pub bytes_are : ForSome known' (λ now. now key ≡ bytes)
  pub others : ForSome known (λ was. ForSome known' (λ now. (k : List ℕ) → bytes_eq key k ≡ false → now k ≡ was k))

-- the parts of other keys are as they were, as far as the store tells
pub record LeavesOthers (key : List ℕ) (known known' : Option Parts) : Type 0 where
  pub tells : is_some known' ≡ is_some known
  pub others : ForSome known (λ was. ForSome known' (λ now. (k : List ℕ) → bytes_eq key k ≡ false → now k ≡ was k))

-- the parts of the keys that are being filled are as they were, as far as the store tells
pub record LeavesFilled (rows : Rows) (known known' : Option Parts) : Type 0 where
  pub tells : is_some known' ≡ is_some known
  pub filled : ForSome known (λ was. ForSome known' (λ now. (k : List ℕ) → is_filling rows k ≡ true → now k ≡ was k))
