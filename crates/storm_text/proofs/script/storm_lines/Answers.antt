-- What the proof of `script::storm_lines` needs beside the tactics.
use Rattle.std.proofs.Common.{ℕ, List, ◌++◌, ap, ◌∙◌}
use Rattle.storm_text.specs.Times.{script_text}
use Rattle.storm_text.proofs.script.storm_lines.Goals as goal

pub returns : goal.returns
returns c = c.in_ok-put_script.ensures ∙ ap (λ (l : List ℕ). l ++ script_text 48 c.args.number c.args.jobs) c.new-out.ensures.items
