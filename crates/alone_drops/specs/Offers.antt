-- What the candidates offer a drop, as the logs and the rows stand (own).
use Rattle.std.specs.Prelude.{ℕ, ◌≤◌, Bool, true, false, ◌&&◌, ◌||◌, ◌==◌, List, length, slice_get, count_by, max}
use Rattle.drop_proof.specs.declared.rule.Need.{Need}
use Rattle.drop_proof.specs.declared.rule.Side.{Side}
use Rattle.drop_proof.specs.declared.rule.Side.TheVariants.{Local, Remote}
use Rattle.run_data.specs.declared.entry.Entry.{Entry}
use Rattle.run_data.specs.declared.run.RepoView.{RepoView}
use Rattle.run_data.specs.Repos.{id_of}
use Rattle.node_model.specs.Evidence.{Standing, Claimed, Ignored, Asked, candidates, standing_by}
use Rattle.node_model.specs.Knows.{need_by}
use Rattle.node_model.specs.SetUp.{locks_in}
use Rattle.run_model.specs.Past.{bar, present}
use Rattle.run_model.specs.Drops.{option_is_none}
use Rattle.run_model.specs.Logs.{settings_of}

pub data Offered : Type 0 where
  Nothing ALock AClaim ALook : Offered

-- the content is there, and no bar stands on it
abbrev pub is_free : List Entry → ℕ → List ℕ → Bool
is_free past c key = present past c key && option_is_none (bar past c key)

-- a repository holds its content for its own jobs, and for its peers where it isn't declared nolock
abbrev pub gives_hold : List RepoView → ℕ → ℕ → Bool
gives_hold repos a c = (c == a) || locks_in (slice_get repos c)

-- by how the logs see it; where it is to be asked, by its row, and by whether it gives holds
abbrev pub offered : Standing → (free holds : Bool) → Offered
offered (Ignored cause) free holds = Nothing
offered Claimed free holds = AClaim
offered Asked false holds = Nothing
offered Asked true true = ALock
offered Asked true false = ALook

-- what c offers a drop of the key by a
abbrev pub offer_at : List RepoView → List Entry → ℕ → List ℕ → ℕ → Offered
offer_at repos past a key c =
    offered (standing_by (settings_of past a) key (id_of repos c)) (is_free past c key) (gives_hold repos a c)

abbrev pub is_offer : Offered → Bool
is_offer Nothing = false
is_offer offer = true

-- a lock, or a claim
abbrev pub is_full_offer : Offered → Bool
is_full_offer ALock = true
is_full_offer AClaim = true
is_full_offer offer = false

-- how many of the candidates' offers pass a test
abbrev pub count_offers : (Offered → Bool) → Side → List RepoView → List Entry → ℕ → ℕ → List ℕ → ℕ
count_offers test side repos past a target key =
    count_by (λ c. test (offer_at repos past a key c)) (candidates side (length repos) a target)

-- the numbers of copies that the logs of a ask for of a content with these paths
abbrev pub need_at : List (List ℕ) → List Entry → ℕ → Need
need_at paths past a = need_by (settings_of past a) paths

-- the offers are enough for a drop by a from the target of a key with these paths
abbrev pub OffersSuffice : Side → List RepoView → List (List ℕ) → List Entry → ℕ → ℕ → List ℕ → Type 0
OffersSuffice Local repos paths past a target key =
    let need = need_at paths past a in max need.n need.m ≤ count_offers is_offer Local repos past a target key
OffersSuffice Remote repos paths past a target key =
    let need = need_at paths past a in
    (max need.n need.m ≤ count_offers is_offer Remote repos past a target key)
    × (need.m ≤ count_offers is_full_offer Remote repos past a target key)
