-- Where a repository stands in its run, as data, and how that is its set-up (own).
use Rattle.std.specs.Prelude.{◌≡◌, ℕ, List, length, map}
use Rattle.run_data.specs.Repos.{offset_of}
use Rattle.node_model.specs.SetUp.{SetUp}
use Rattle.step_state.specs.declared.place.Place.{Place}

-- its number, the identifiers of all repositories, how many they are, and how far its wall clock is ahead of the script's time
abbrev pub number_in : Place → ℕ
number_in p = p.number

abbrev pub ids_in : Place → List (List ℕ)
ids_in p = p.ids.items

abbrev pub count_in : Place → ℕ
count_in p = length (ids_in p)

abbrev pub offset_in : Place → ℕ
offset_in p = p.offset

-- they are those of the set-up
pub record IsPlaceOf (p : Place) (s : SetUp) : Type 0 where
  pub number : s.number ≡ number_in p
  pub ids : map (λ repo. repo.id) s.repos ≡ ids_in p
  pub offset : offset_of s.repos s.number ≡ offset_in p
