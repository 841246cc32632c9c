-- What the proof of `lines::has_line` needs beside the tactics.
use Rattle.std.proofs.Common.{List, ℕ, Option, sym, ap, ◌∙◌}
use Rattle.std.specs.Prelude.{bytes_eq}
use Rattle.std.specs.List.{list_any}
use Rattle.std.specs.Option.{option_copied}
use Rattle.union_merge.specs.Branch.{or_none}
use Rattle.branch_lines.proofs.LineLemmas.{found_is}
use Rattle.branch_lines.proofs.lines.has_line.Goals as goal

pub returns-in-Some : goal.returns-in-Some
returns-in-Some c =
    found_is c.contains.result c.args.line.now c.in-Some.lines.now c.contains.ensures
    ∙ ap (λ file. list_any (λ old. bytes_eq old c.args.line.now) (or_none (option_copied file))) (sym c.in-Some.is)
    ∙ ap (λ (o : Option (List (List ℕ))). list_any (λ old. bytes_eq old c.args.line.now) (or_none o)) c.file.ensures
