-- What the proof of `state::comment` needs beside the tactics.
use Rattle.std.proofs.Common.{◌≡◌, false, refl}
use Rattle.std.specs.Str.{is_utf8}
use Rattle.std.proofs.lemmas.Bool.{false_from_ne_true}
use Rattle.std.proofs.lemmas.Str.{IsUtf8-from_is_utf8, is_utf8-from_IsUtf8}
use Rattle.script_lang.specs.Script.{comment_at}
use Rattle.script_lang.proofs.state.comment.Goals as goal

pub returns-in-Ok : goal.returns-in-Ok
unfolding comment_at
returns-in-Ok c = rw (is_utf8-from_IsUtf8 c.args.line.now c.in-Ok.ensures.cases.1) refl

pub returns-in-Err : goal.returns-in-Err
unfolding comment_at
returns-in-Err c =
    let none : is_utf8 c.args.line.now ≡ false = false_from_ne_true (is_utf8 c.args.line.now) (λ e. c.in-Err.ensures.cases.0 (IsUtf8-from_is_utf8 c.args.line.now e)) in
    rw (none, c.wrong.ensures, c.last_word.ensures, c.split_at.ensures.front, c.valid_up_to.ensures, c.in-Err.ensures.valid_len) refl
