-- The line that a job owes, as the definitions have it (own).
use Rattle.run_data.specs.declared.entry.By.TheVariants.{Job as by_job}
use Rattle.node_model.specs.OwedLines.{OwedLine, owed_line}
use Rattle.owed_lines.specs.declared.line.ToldLine.{ToldLine}

-- the line that a job owes since it was told so
abbrev pub line_of : ToldLine → OwedLine
line_of t = owed_line (by_job t.job) t.repo t.there t.key
