-- What the proof of `files::is_one_line` needs beside the tactics.
use Rattle.std.proofs.Common.{ℕ, Bool, ap, sym, ◌∙◌}
use Rattle.std.specs.Prelude.{◌&&◌, ◌==◌, not}
use Rattle.std.specs.List.{list_all}
use Rattle.annex_base.specs.Lines.{newline}
use Rattle.union_merge.specs.LineSet.{is_empty}
use Rattle.any_time_checks.proofs.LineLemmas.{empty_len}
use Rattle.any_time_checks.proofs.files.is_one_line.Goals as goal

pub returns-then-not-is_empty : goal.returns-then-not-is_empty
returns-then-not-is_empty c =
    let line = c.args.text.now in
    let p : ℕ → Bool = λ b. not (b == newline) in
    c.has_no_newline.ensures ∙ ap (list_all p) c.bytes-then-not-is_empty.ensures
    ∙ sym (ap (λ (b : Bool). b && list_all p line) (sym (ap not (c.is_empty.ensures ∙ empty_len c.bytes.result.now ∙ ap is_empty c.bytes.ensures)) ∙ ap not c.if-not-is_empty.true))
