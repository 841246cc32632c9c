-- Runs in which nobody is trusted, and drops that count nobody by trust (git-annex trust; git-annex internals: trust.log).
use Rattle.std.specs.Prelude.{◌≡◌, ℕ, Bool, true, false, List, reverse}
use Rattle.annex_base.specs.Lists.{Each, Member}
use Rattle.annex_base.specs.declared.kinds.Level.{Level}
use Rattle.annex_base.specs.declared.kinds.Level.TheVariants as levels
use Rattle.drop_proof.specs.declared.evidence.Evidence.{Evidence}
use Rattle.log_lines.specs.declared.entry.LogKind.TheVariants as kinds
use Rattle.log_lines.specs.Files.{file_name}
use Rattle.log_lines.specs.Reading.{entry_of}
use Rattle.trust_groups.specs.Settings.{level_in, value_in}
use Rattle.run_data.specs.declared.run.Run.{Run}
use Rattle.node_model.specs.Evidence.{is_trusted}
use Rattle.run_model.specs.Logs.{lines_ever}
use Rattle.run_model.specs.Safety.{Removal}
use Rattle.race_core.specs.Removals.{IsRemovalBefore}

-- the path of a trust log
abbrev pub trust_path : List ℕ
trust_path = file_name kinds.Trust

abbrev pub is_trusted_level : Level → Bool
is_trusted_level levels.Trusted = true
is_trusted_level level = false

-- the line of a trust log says that a repository is trusted
abbrev pub says_trusted : List ℕ → Bool
says_trusted line = is_trusted_level (level_in (value_in (entry_of kinds.Trust line)))

-- none of the lines that a repository of the run ever added to its trust log says so
abbrev pub TrustsNobody : Run → Type 0
TrustsNobody run = (r : ℕ) → Each (λ line. says_trusted line ≡ false) (lines_ever (reverse run.entries) r trust_path)

-- no drop of the key whose removal stands before this place counted a repository by trust, without a look or a lock
abbrev pub CountsNoTrust : Run → List ℕ → ℕ → Type 0
CountsNoTrust run key place = (x : Removal) (item : Evidence) → IsRemovalBefore run key place x → Member item x.items → is_trusted item.kind ≡ false
