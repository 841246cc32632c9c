-- What is written of a journal that is audited (own).
use Rattle.std.specs.Prelude.{ℕ, ◌+◌, List, [], ◌∷◌, ◌++◌, None, codes}
use Rattle.std.specs.Fmt.{decimal}
use Rattle.std.specs.List.{flat_map}
use Rattle.run_data.specs.declared.row.RowView.{RowView}
use Rattle.run_text.specs.Jobs.{key_text}
use Rattle.shown_text.specs.Row.{found_text}
use Rattle.run_audit.specs.declared.key_audit.KeyAudit.{KeyAudit}

-- the line of a key with a removal
abbrev pub key_line : KeyAudit → List ℕ
key_line x =
    codes "key " ++ key_text x.key None ++ codes " removals=" ++ decimal x.removals ++ codes " least=" ++ decimal x.least
    ++ codes " mincopies=" ++ decimal x.mincopies ++ codes "\n"

-- how many removals there are of all keys
abbrev pub all_removals : List KeyAudit → ℕ
all_removals [] = 0
all_removals (x ∷ xs) = x.removals + all_removals xs

-- the lines of keys, and then how many entries and removals the run has
abbrev pub audit_text : List KeyAudit → ℕ → List ℕ
audit_text keys entries =
    flat_map key_line keys ++ codes "audit entries=" ++ decimal entries ++ codes " removals=" ++ decimal (all_removals keys) ++ codes "\n"

-- the line that names an entry, counted from 1, with the rule that it breaks and the row that it found
abbrev pub refusal_text : ℕ → ℕ → RowView → List ℕ
refusal_text entry rule found =
    codes "not a run entry=" ++ decimal entry ++ codes " rule=" ++ decimal rule ++ codes " found=" ++ found_text found ++ codes "\n"

-- the line that names the first line outside the format of journals
abbrev pub outside_text : ℕ → List ℕ
outside_text line = codes "input line " ++ decimal line ++ codes "\n"
