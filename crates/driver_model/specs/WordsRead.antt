-- The words that the end of a job reads (own).
use Rattle.std.specs.Prelude.{◌≡◌, ◌⊎◌, ℕ, Bool, true, false, Option, Some}
use Rattle.annex_base.specs.declared.kinds.Word.{Word}
use Rattle.annex_base.specs.Lists.{Member}
use Rattle.drop_proof.specs.declared.rule.Side.{Side}
use Rattle.drop_proof.specs.declared.rule.Side.TheVariants.{Remote}
use Rattle.run_data.specs.declared.entry.EntryKind.TheVariants.{End as ends_job}
use Rattle.run_data.specs.declared.job.Outcome.{Outcome}
use Rattle.node_model.specs.Jobs.{Denied, Phase, Removed, Unseen, Work, heard_of, side_of, target_of}
use Rattle.node_model.specs.Look.{Effect}
use Rattle.node_model.specs.SetUp.{SetUp}
use Rattle.node_model.specs.State.{State}

-- a drop that stands so has its target's answer to an order
abbrev pub is_answered : Side → Phase → Bool
is_answered Remote Removed = true
is_answered side Denied = true
is_answered side phase = false

-- the end of the job, which is one of r, reads the word of c: that beside a refused look, or the target's beside its answer
abbrev pub ReadsWord : ℕ → Work → ℕ → Type 0
ReadsWord r w c = (heard_of w c ≡ Some Unseen) ⊎ ((is_answered (side_of w) w.phase ≡ true) × (c ≡ target_of r w))

-- if this step ends a job, these words and the others are the same of each repository whose word that end reads
abbrev pub AgreeWhereRead : SetUp → State → Effect → (words others : ℕ → Option Word) → Type 0
AgreeWhereRead s st m words others =
    (w : Work) (outcome : Outcome) → Member w st.works → m.kind ≡ ends_job w.number outcome → (c : ℕ) → ReadsWord s.number w c → words c ≡ others c
