-- What the proof of `content::split_colon` needs beside the tactics.
use Rattle.std.proofs.Common.{sym, ap, drop, ◌∙◌, drop-drop}
use Rattle.std.proofs.lemmas.List.Sums.{prefix_len-le-length}
use Rattle.std.specs.Prelude.{not}
use Rattle.script_words.specs.Contents.{is_colon}
use Rattle.script_words.proofs.content.split_colon.Goals as goal

pub split_at-requires : goal.split_at-requires
split_at-requires c = rw c.colon_len-end.ensures (prefix_len-le-length (λ b. not (is_colon b)) c.args.text.now)

pub returns-in-Some-clause-back : goal.returns-in-Some-clause-back
returns-in-Some-clause-back c =
    rw (← c.colon_len-end.ensures, ← drop-drop 1 c.colon_len-end.result c.args.text.now)
    (ap (drop 1) (sym c.in-Some.ensures.cases.0 ∙ c.split_at.ensures.back))
