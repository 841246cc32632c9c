-- What the proof of `glob::Glob::matches_path` needs beside the tactics.
use Rattle.std.proofs.Common.{◌≡◌, ◌∙◌, ◌&&◌, Bool, true, List, ℕ, sym, ap}
use Rattle.std.specs.Str.{chars, is_utf8}
use Rattle.std.proofs.lemmas.Str.{is_utf8-from_IsUtf8, IsUtf8-from_is_utf8}
use Rattle.annex_base.proofs.Conditions.{by_test}
use Rattle.glob_match.specs.Glob.{glob_matches}
use Rattle.glob_match.proofs.glob.Glob.matches_path.Goals as goal

pub returns-in-Ok : goal.returns-in-Ok
returns-in-Ok c =
    let utf8 : is_utf8 c.args.path.now ≡ true = is_utf8-from_IsUtf8 c.args.path.now c.in-Ok.ensures.cases.1 in
    c.matches.ensures.exact ∙ (ap (λ (text : List ℕ). glob_matches c.args.self.now (chars text)) c.in-Ok.ensures.cases.0 ∙ ap (λ (b : Bool). b && glob_matches c.args.self.now (chars c.args.path.now)) (sym utf8))

pub returns-in-Err : goal.returns-in-Err
returns-in-Err c =
    by_test (is_utf8 c.args.path.now)
    (λ t. absurd (c.in-Err.ensures.cases.0 (IsUtf8-from_is_utf8 c.args.path.now t)))
    (λ t. ap (λ (b : Bool). b && glob_matches c.args.self.now (chars c.args.path.now)) (sym t))
