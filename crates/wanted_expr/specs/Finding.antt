-- For private contracts: what a search for a word, or for its value, tells, and whether a fault is want of memory.
use Rattle.std.specs.Prelude.{◌≡◌, ℕ, ◌<◌, ◌++◌, slice_index, List, Bool, true, false, not, IsTrue, Option, Some, None, Result, Ok, Err}
use Rattle.wanted_expr.specs.declared.fault.ExprFault.{ExprFault}
use Rattle.wanted_expr.specs.declared.fault.ExprFault.TheVariants as faults
use Rattle.wanted_expr.specs.declared.word.WordFault.{WordFault}
use Rattle.wanted_expr.specs.declared.word.WordFault.TheVariants.{Unknown, Value, NoMemory}
use Rattle.wanted_expr.specs.Words.{SizeUnit, IsDigits, unit_text, unit_size}

-- a value that is looked for, or that there is none; memory may run out
abbrev pub FindsValue : {X : Type 0} → (X → Type 0) → Result X WordFault → Type 0
FindsValue P (Ok x) = P x
FindsValue P (Err Unknown) = ⊥
FindsValue {X} P (Err Value) = (x : X) → P x → ⊥
FindsValue P (Err NoMemory) = Unit {0}

-- the same of a word, the name of which is known or not
abbrev pub FindsNamed : {X : Type 0} → Bool → (X → Type 0) → Result X WordFault → Type 0
FindsNamed known P (Ok x) = P x
FindsNamed known P (Err Unknown) = IsTrue (not known)
FindsNamed {X} known P (Err Value) = IsTrue known × ((x : X) → P x → ⊥)
FindsNamed known P (Err NoMemory) = Unit {0}

-- a value cut before its unit: the only place where a number can end
pub record Ends (value number : List ℕ) (size : ℕ) : Type 0 where
  pub unit : SizeUnit
  pub spelled : value ≡ number ++ unit_text unit
  pub sized : size ≡ unit_size unit
  pub only : (digits : List ℕ) (other : SizeUnit) → IsDigits digits → value ≡ digits ++ unit_text other → (digits ≡ number) × (other ≡ unit)

-- the last colon among the first n bytes
abbrev pub IsLastColon : List ℕ → ℕ → Option ℕ → Type 0
IsLastColon value n None = (k : ℕ) → k < n → slice_index value k ≡ 58 → ⊥
IsLastColon value n (Some i) = (i < n) × (slice_index value i ≡ 58) × ((k : ℕ) → i < k → k < n → slice_index value k ≡ 58 → ⊥)

abbrev pub is_memory : ExprFault → Bool
is_memory faults.NoMemory = true
is_memory _ = false
