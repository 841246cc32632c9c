-- The line of a storm (own).
use Rattle.std.specs.Prelude.{ℕ, List, ◌++◌, codes}
use Rattle.std.specs.Fmt.{decimal}
use Rattle.run_data.specs.declared.run.Run.{Run}
use Rattle.script_commands.specs.declared.command.Command.{Command}
use Rattle.kept_copies.specs.Scripts.{kept_of}
use Rattle.kept_copies.specs.Storms.{storm_keys}
use Rattle.storm_line.specs.Counts.{done_count, noslot_count, refused_count}

-- the line with these numbers
abbrev pub line_text : (number jobs done refused noslots kept : ℕ) → List ℕ
line_text number jobs done refused noslots kept =
    codes "storm number=" ++ decimal number ++ codes " jobs=" ++ decimal jobs ++ codes " done=" ++ decimal done ++ codes " refused=" ++ decimal refused
    ++ codes " noslot=" ++ decimal noslots ++ codes " kept=" ++ decimal kept ++ codes "\n"

-- a storm of so many jobs drawn from the number: how many were done, how many ended otherwise, how many found no slot, and how many of its
-- keys some repository has at the end
abbrev pub storm_line : ℕ → ℕ → List Command → Run → List ℕ
storm_line number jobs script run = line_text number jobs (done_count run) (refused_count run) (noslot_count script run) (kept_of run storm_keys)
