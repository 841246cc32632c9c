-- What the proof of `script::cut_lines` needs beside the tactics.
use Rattle.std.proofs.Common.{rules}
use Rattle.annex_base.specs.Lines.{is_newline}
use Rattle.std.proofs.lemmas.Iterator.Consumers.{map_from_collect}
use Rattle.std.proofs.lemmas.Iterator.Splits.{YieldsList-from_slice_split}
use Rattle.script_lang.proofs.script.cut_lines.Goals as goal

pub returns : goal.returns
returns c = map_from_collect _ c.collect.ensures.ran (YieldsList-from_slice_split _ is_newline c.args.bytes.now c.split.ensures.rest c.split.ensures.done c.split.ensures.closure (λ x b q k. search rules))
