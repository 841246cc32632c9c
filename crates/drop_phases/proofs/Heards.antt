-- What was heard of a repository.
use Rattle.std.proofs.Common.{◌≡◌, ℕ, true, false, List, [], ◌∷◌, Option, Some, None, refl, ap, ◌∙◌}
use Rattle.std.specs.Prelude.{◌==◌, if◌then◌else◌, find, map, option_map}
use Rattle.node_model.specs.Jobs as Jobs
use Rattle.node_model.specs.JobStep.{is_held}
use Rattle.drop_phases.specs.declared.phase.Heard.{Heard}
use Rattle.drop_phases.specs.declared.phase.Heard.TheVariants as heards
use Rattle.drop_phases.specs.Working.{heard_as, heard_in, is_lock, newest_of}

pub heard_same : (xs : List (ℕ × Heard)) (peer : ℕ) → heard_in xs peer ≡ option_map heard_as (newest_of xs peer)
heard_same [] peer = refl
heard_same (x ∷ xs) peer =
    elim (x.0 == peer) as (λ b. option_map (λ (y : ℕ × Jobs.Heard). y.1) (if b then Some (x.0, heard_as x.1) else find (λ y. y.0 == peer) (map (λ (y : ℕ × Heard). (y.0, heard_as y.1)) xs)) ≡ option_map heard_as (option_map (λ (y : ℕ × Heard). y.1) (if b then Some x else find (λ y. y.0 == peer) xs)))
    [ true ↦ refl | false ↦ heard_same xs peer ]

lock_as : (x : Option Heard) → is_held (option_map heard_as x) ≡ is_lock x
lock_as None = refl
lock_as (Some (heards.Held since)) = refl
lock_as (Some heards.Seen) = refl
lock_as (Some (heards.Unseen word)) = refl
lock_as (Some (heards.Lacks cause)) = refl

pub lock_same : (xs : List (ℕ × Heard)) (peer : ℕ) → is_held (heard_in xs peer) ≡ is_lock (newest_of xs peer)
lock_same xs peer = ap is_held (heard_same xs peer) ∙ lock_as (newest_of xs peer)
