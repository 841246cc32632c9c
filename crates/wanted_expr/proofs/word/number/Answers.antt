-- What the proof of `word::number` needs beside the tactics.
use Rattle.std.proofs.Common.{rules, sym, subst, ℕ, Option}
use Rattle.annex_base.specs.Finding.{Found}
use Rattle.wanted_expr.specs.Words.{IsDigits}
use Rattle.wanted_expr.proofs.WordLemmas.{digits_utf8, parsed_number, IsNumber}
use Rattle.wanted_expr.proofs.word.number.Goals as goal

pub returns-in_default : goal.returns-in_default
returns-in_default c = λ x k. c.in_default.ensures.cases.0 (digits_utf8 c.args.digits.now k.0.digits)

pub returns : goal.returns
returns c =
    let d : IsDigits c.args.digits.now = search rules in
    let text = c.in-Ok.ensures.cases.0 in
    subst (λ (o : Option ℕ). Found (λ x. x) (IsNumber c.args.digits.now) o) (sym c.ok.ensures.value) (parsed_number c.args.digits.now c.parse.result (rw text at c.parse.ensures.value.0) d)
