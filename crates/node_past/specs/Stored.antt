-- What a store has, where it tells.
use Rattle.std.specs.Prelude.{◌≡◌, ℕ, List, [], Option, None}
use Rattle.std.specs.Option.{ForSome}
use Rattle.annex_base.specs.declared.kinds.Call.{Call}
use Rattle.object_store.specs.declared.keeper.HoldRecord.{HoldRecord}
use Rattle.object_store.specs.Stores.{Contents, Parts, Files}

-- Of a store, where it tells: its contents, its parts, and how many calls of each kind are still to fail; and how often it has
-- failed.
pub record StoreView : Type 0 where
  pub contents : Option Contents
  pub parts : Option Parts
  pub failing : Option (Call → ℕ)
  pub faults : ℕ

abbrev pub store_view : Option Contents → Option Parts → Option (Call → ℕ) → ℕ → StoreView
store_view contents parts failing faults = record { contents = contents; parts = parts; failing = failing; faults = faults }

-- it has nothing
pub record HasNothing (cs : Option Contents) (ps : Option Parts) (rs : Option (List HoldRecord)) (fs : Option Files) : Type 0 where
  pub contents : ForSome cs (λ c. (key : List ℕ) → c key ≡ None)
  pub parts : ForSome ps (λ p. (key : List ℕ) → p key ≡ [])
  pub records : ForSome rs (λ r. r ≡ [])
  pub files : ForSome fs (λ f. (path : List ℕ) → f path ≡ None)

-- a call that writes a file leaves the contents, the parts and the hold records
pub record LeavesRest (cs cs' : Option Contents) (ps ps' : Option Parts) (rs rs' : Option (List HoldRecord)) : Type 0 where
  pub contents : cs' ≡ cs
  pub parts : ps' ≡ ps
  pub records : rs' ≡ rs

-- it tells what it told
pub record TellsSame (cs cs' : Option Contents) (ps ps' : Option Parts) (rs rs' : Option (List HoldRecord)) (fs fs' : Option Files) (ns ns' : Option (Call → ℕ)) : Type 0 where
  pub contents : cs' ≡ cs
  pub parts : ps' ≡ ps
  pub records : rs' ≡ rs
  pub files : fs' ≡ fs
  pub failing : ns' ≡ ns
