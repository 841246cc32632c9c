-- What the proof of `content::Content::size` needs beside the tactics.
use Rattle.std.proofs.Common.{sym}
use Rattle.script_words.proofs.FillLemmas.{length-fill_bytes}
use Rattle.script_words.proofs.content.Content.size.Goals as goal

pub returns-in-Fill : goal.returns-in-Fill
returns-in-Fill c = rw (← c.self.view_is, c.in-Fill.is) (sym (length-fill_bytes _ _))
