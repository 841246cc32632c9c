-- The text of the row of a key (own): whether the content is there, whose bar stands, and which holds block.
use Rattle.std.specs.Prelude.{ℕ, Bool, true, false, if◌then◌else◌, List, ◌++◌, codes}
use Rattle.std.specs.Fmt.{decimal}
use Rattle.run_data.specs.declared.row.HoldView.{HoldView}
use Rattle.run_data.specs.declared.row.RowView.{RowView}
use Rattle.run_data.specs.declared.run.Run.{Run}
use Rattle.run_text.specs.Jobs.{key_text}
use Rattle.run_text.specs.Words.{joined_text, number_or_dash}
use Rattle.run_text.specs.Names.{name_of}
use Rattle.script_commands.specs.declared.command.NamedKey.{NamedKey}

abbrev pub kept_text : Bool → List ℕ
kept_text true = codes ":kept"
kept_text false = codes ":open"

abbrev pub hold_text : HoldView → List ℕ
hold_text h = decimal h.end ++ kept_text h.kept

-- what stands behind the key; an absent content has neither bar nor holds
abbrev pub found_text : RowView → List ℕ
found_text row = if row.present then codes "present bar=" ++ number_or_dash row.bar ++ codes " holds=" ++ joined_text 44 hold_text row.holds else codes "absent"

abbrev pub row_text : Run → ℕ → NamedKey → RowView → List ℕ
row_text run r k row = codes "row " ++ name_of run.repos r ++ codes " " ++ key_text k.key k.path ++ codes " " ++ found_text row ++ codes "\n"
