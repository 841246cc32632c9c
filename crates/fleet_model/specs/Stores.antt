-- What a node's store tells, beside what the driver says that it has (own).
use Rattle.std.specs.Prelude.{◌≡◌, ℕ, List, filter, find, length, Option, Some, None}
use Rattle.std.specs.Option.{option_map}
use Rattle.annex_base.specs.declared.kinds.Call.{Call}
use Rattle.joined_nodes.specs.Stored.{StoreView}
use Rattle.driver_model.specs.Driver.{Driver, is_failing, part_at}
use Rattle.driver_model.specs.Stores.{StoredBytes, is_stored}

-- it is told, and so
abbrev pub IsTold : {X : Type 0} → Option X → (X → Type 0) → Type 0
IsTold None P = ⊥
IsTold (Some x) P = P x

-- the content of the key that r has, if it has it
abbrev pub content_in : Driver → ℕ → List ℕ → Option (List ℕ)
content_in d r key = option_map (λ (x : StoredBytes). x.bytes) (find (is_stored r key) d.contents)

-- how many `fail` lines wait for the call
abbrev pub waiting_fails : Driver → ℕ → Call → ℕ
waiting_fails d r call = length (filter (is_failing r call) d.fails)

-- the store tells all this, and it is what the driver says of r
pub record IsStoreOf (d : Driver) (r : ℕ) (v : StoreView) : Type 0 where
  pub contents : IsTold v.contents (λ c. (key : List ℕ) → c key ≡ content_in d r key)
  pub parts : IsTold v.parts (λ p. (key : List ℕ) → p key ≡ part_at d r key)
  pub failing : IsTold v.failing (λ n. (call : Call) → n call ≡ waiting_fails d r call)
