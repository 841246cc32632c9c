-- What the proof of `word::glob` needs beside the tactics.
use Rattle.std.proofs.Common.{rules, ◌<◌, length, arith, subst, List, ℕ}
use Rattle.std.specs.Str.{chars}
use Rattle.std.proofs.lemmas.Str.{is_utf8-from_IsUtf8, IsUtf8-from_is_utf8}
use Rattle.glob_match.specs.Glob.{IsGlob}
use Rattle.wanted_expr.proofs.word.glob.Goals as goal

pub returns-in_default : goal.returns-in_default
returns-in_default c = λ x k. c.in_default.ensures.cases.0 (IsUtf8-from_is_utf8 c.args.value.now k.1)

pub returns-in-Ok-parse : goal.returns-in-Ok-parse
returns-in-Ok-parse c =
    let some : 0 < length c.args.value.now = first_of (search rules, grind arith) in
    (some, is_utf8-from_IsUtf8 c.args.value.now c.in-Ok.ensures.cases.1, subst (λ (w : List ℕ). IsGlob c.in-Ok-parse.glob (chars w)) c.in-Ok.ensures.cases.0 c.in-Ok-parse.ensures.found)
