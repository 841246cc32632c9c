-- The word behind the bytes of a part (own).
use Rattle.std.specs.Prelude.{◌≡◌, ℕ, Bool, if◌then◌else◌, Option}
use Rattle.session_state.specs.declared.doing.Taken.{Taken}
use Rattle.get_phases.specs.declared.getting.Ending.TheVariants as endings
use Rattle.get_phases.specs.declared.getting.Phase.{Phase}
use Rattle.get_phases.specs.declared.getting.Phase.TheVariants as phases
use Rattle.get_verdicts.specs.Verdicts.{IsVerdict}

-- all bytes have come from this peer, and its word on them is awaited
pub record IsServed (peer : ℕ) (phase : Phase) : Type 0 where
  pub start : ℕ
  pub taken : Taken
  pub at : phase ≡ phases.Word peer start taken

-- all bytes have come from this peer, from this offset on, and this is the verdict on the part
pub record IsJudged (peer start : ℕ) (size : Option ℕ) (phase : Phase) : Type 0 where
  pub taken : Taken
  pub at : phase ≡ phases.Word peer start taken
  pub verdict : IsVerdict taken size

-- where it stands that has the content from this peer: at the end, or before the drop of a move
abbrev pub phase_gained : Bool → ℕ → ℕ → Phase
phase_gained moves peer start = if moves then phases.Done else phases.Ends (endings.Got peer start)
