-- What a drop knows, said of its repository's state.
use Rattle.std.specs.Prelude.{ℕ, Bool, List, length, Option}
use Rattle.annex_base.specs.declared.kinds.Word.{Word}
use Rattle.drop_proof.specs.declared.evidence.Evidence.{Evidence}
use Rattle.run_data.specs.declared.job.CandidateCause.{CandidateCause}
use Rattle.node_model.specs.Evidence.{Offer, candidates}
use Rattle.node_model.specs.SetUp.{SetUp}
use Rattle.node_model.specs.Jobs.{Work, side_of, target_of}
use Rattle.node_model.specs.State.{State}
use Rattle.node_model.specs.Knows.{reading, knows_by, asks_by, known_by, enough_by, next_by, causes_by}

abbrev pub knows : SetUp → State → Work → ℕ → Offer
knows s st w = knows_by (reading s st w) w

abbrev pub is_to_ask : SetUp → State → Work → ℕ → Bool
is_to_ask s st w = asks_by (reading s st w) w

abbrev pub candidates_of : SetUp → Work → List ℕ
candidates_of s w = candidates (side_of w) (length s.repos) s.number (target_of s.number w)

abbrev pub known : SetUp → State → Work → List Evidence
known s st w = known_by (reading s st w) w

abbrev pub knows_enough : SetUp → State → Work → Bool
knows_enough s st w = enough_by (reading s st w) w

-- the candidate that is asked next
abbrev pub next_of : SetUp → State → Work → Option ℕ
next_of s st w = next_by (reading s st w) w

abbrev pub causes_known : SetUp → State → (ℕ → Option Word) → Work → List CandidateCause
causes_known s st words w = causes_by (reading s st w) words w
