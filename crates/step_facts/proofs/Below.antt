-- The laws of the crates below, as the lemmas take them.
use Rattle.std.proofs.Common.{◌≡◌, ◌≢◌, ◌⊎◌, ◌↔◌, ℕ, List, ◌++◌, Some, None}
use Rattle.annex_base.specs.Lists.{Member}
use Rattle.log_lines.specs.declared.entry.LogKind.{LogKind}
use Rattle.log_lines.specs.Keeping.{SameLines}
use Rattle.log_lines.specs.Newest.{ReadAlike, current_lines}
use Rattle.union_merge.specs.LineSet.{union}
use Rattle.union_merge.specs.Branch.{Files, lines_at, with_file}
use Rattle.trust_groups.specs.Alike.{SameReading}
use Rattle.trust_groups.specs.Settings.{Lines, settings}
use Rattle.run_data.specs.declared.entry.LogFile.{LogFile}
use Rattle.run_data.specs.Files.{file_path, kind_of}
use Rattle.p2p_wire.specs.declared.message.Message.{Message}
use Rattle.p2p_wire.specs.Messages.{IsShort, IsWire, message_of, text_of}

-- each message that is sent is read from its line
abbrev pub SentAreRead : Type 0
SentAreRead = (m : Message) → IsWire m → IsShort m → message_of (text_of m) ≡ Some m

-- how the files of a branch are changed, and what their lines say
pub record LogLaws : Type 0 where
  pub by_set : (kind : LogKind) (xs ys : List (List ℕ)) → SameLines xs ys → ReadAlike kind xs ys
  pub compaction : (kind : LogKind) (lines : List (List ℕ)) → ReadAlike kind (current_lines kind lines) lines
  pub joined : (kind : LogKind) (xs ys others all : List (List ℕ)) → ReadAlike kind xs ys → ReadAlike kind others all → ReadAlike kind (xs ++ others) (ys ++ all)
  pub of_both : (xs ys : List (List ℕ)) (line : List ℕ) → Member line (union xs ys) ↔ (Member line xs ⊎ Member line ys)
  pub set : (files : Files) (path : List ℕ) (lines : List (List ℕ)) → lines_at (with_file files path lines) path ≡ lines
  pub set_others : (files : Files) (path other : List ℕ) (lines : List (List ℕ)) → other ≢ path → lines_at (with_file files path lines) other ≡ lines_at files other
  pub kinds : (file other : LogFile) (kind : LogKind) → file_path file ≡ file_path other → kind_of other ≡ Some kind → (kind_of file ≡ Some kind) ⊎ (kind_of file ≡ None)
  pub alike : (x y : Lines) → SameReading x y → settings x ≡ settings y
