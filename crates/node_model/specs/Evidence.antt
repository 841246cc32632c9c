-- The candidates of a drop, what they offer, and the evidence of that (git-annex-numcopies, git-annex-mincopies).
use Rattle.std.specs.Prelude.{ℕ, Bool, true, false, not, ◌&&◌, if◌then◌else◌, ◌==◌, List, [], ◌∷◌, ◌++◌, filter, bytes_eq}
use Rattle.std.specs.List.{range_with_len, list_any}
use Rattle.annex_base.specs.Settings.{Settings}
use Rattle.annex_base.specs.declared.kinds.Level.{Level}
use Rattle.annex_base.specs.declared.kinds.Level.TheVariants as levels
use Rattle.drop_proof.specs.declared.rule.Need.{Need}
use Rattle.drop_proof.specs.declared.evidence.Kind.{Kind}
use Rattle.drop_proof.specs.declared.evidence.Kind.TheVariants.{Locked, Trusted, Recent}
use Rattle.drop_proof.specs.declared.evidence.Evidence.{Evidence}
use Rattle.drop_proof.specs.declared.rule.Side.{Side}
use Rattle.drop_proof.specs.declared.rule.Side.TheVariants.{Local, Remote}
use Rattle.drop_proof.specs.Judging.{is_enough}
use Rattle.run_data.specs.declared.job.Cause.{Cause}
use Rattle.run_data.specs.declared.job.Cause.TheVariants.{Untrusted as cause_untrusted, Dead as cause_dead}
use Rattle.run_data.specs.declared.job.CandidateCause.{CandidateCause}
use Rattle.run_data.specs.declared.job.Proof.{Proof}

-- ---- the candidates and what they offer

-- how the logs that the job read at its first step see a repository
pub data Standing : Type 0 where
  Claimed : Standing  -- trusted, and claimed to have the key
  Ignored : (cause : Cause) → Standing  -- untrusted or dead
  Asked : Standing

abbrev pub standing_seen : Level → Bool → Standing
standing_seen levels.Trusted true = Claimed
standing_seen levels.Trusted false = Asked
standing_seen levels.Semitrusted claimed = Asked
standing_seen levels.Untrusted claimed = Ignored cause_untrusted
standing_seen levels.Dead claimed = Ignored cause_dead

-- how settings see a repository, for a job on this key
abbrev pub standing_by : Settings → List ℕ → List ℕ → Standing
standing_by s key repo = standing_seen (s.level repo) (list_any (λ claimed. bytes_eq claimed repo) (s.claims key))

pub data Offer : Type 0 where
  Gives : Kind → Offer
  Fails : Offer

abbrev pub pick : {X : Type 0} → Offer → (Kind → X) → X → X
pick (Gives kind) gives fails = gives kind
pick Fails gives fails = fails

-- the candidates are asked in order, one after the other, until the evidence is enough (own)
abbrev pub gather : Side → Need → (ℕ → Offer) → List ℕ → List Evidence → List Evidence
gather side need ask [] items = items
gather side need ask (c ∷ cs) items =
    if is_enough side need items then items
    else pick (ask c) (λ kind. gather side need ask cs (items ++ record { repo = c; kind = kind } ∷ [])) (gather side need ask cs items)

abbrev pub but : ℕ → List ℕ → List ℕ
but r xs = filter (λ x. not (x == r)) xs

-- a local drop asks all others; a remote one its own repository first, and then all but the target
abbrev pub candidates : Side → ℕ → ℕ → ℕ → List ℕ
candidates Local n a target = but a (range_with_len 0 n)
candidates Remote n a target = a ∷ but target (but a (range_with_len 0 n))

-- the candidates before the first for which the job waits
abbrev pub reached_candidates : (ℕ → Bool) → List ℕ → List ℕ
reached_candidates waits [] = []
reached_candidates waits (c ∷ cs) = if waits c then [] else c ∷ reached_candidates waits cs

-- ---- what a drop's outcome says

-- the repositories, in order of number, that are items of one kind
abbrev pub repos_of : (Kind → Bool) → ℕ → List Evidence → List ℕ
repos_of is n items = filter (λ r. list_any (λ i. (i.repo == r) && is i.kind) items) (range_with_len 0 n)

abbrev pub is_locked : Kind → Bool
is_locked (Locked end) = true
is_locked Trusted = false
is_locked Recent = false

abbrev pub is_trusted : Kind → Bool
is_trusted (Locked end) = false
is_trusted Trusted = true
is_trusted Recent = false

abbrev pub is_recent : Kind → Bool
is_recent (Locked end) = false
is_recent Trusted = false
is_recent Recent = true

-- the evidence as an outcome states it
abbrev pub proof_of : ℕ → Need → List Evidence → Proof
proof_of n need items = record { need = need; locked = repos_of is_locked n items; trusted = repos_of is_trusted n items; recent = repos_of is_recent n items }

-- the candidates that gave nothing, in order, each with its cause
abbrev pub failures : (ℕ → Offer) → (ℕ → Cause) → List ℕ → List CandidateCause
failures ask cause [] = []
failures ask cause (c ∷ cs) = pick (ask c) (λ kind. failures ask cause cs) (record { repo = c; cause = cause c } ∷ failures ask cause cs)
