-- What the proof of `script::read_lines` needs beside the tactics.
use Rattle.std.proofs.Common.{◌≡◌, ◌∙◌, ◌+◌, map, drop, sym, ap, subst}
use Rattle.std.proofs.lemmas.Result.{err_from_is_err_and}
use Rattle.script_lang.specs.Script.{State, Reading, IsFault, goes_on, lines_reading}
use Rattle.script_lang.proofs.LineLemmas.{front_reading}
use Rattle.script_lang.proofs.script.read_lines.Goals as goal

pub loop-i-preserved : goal.loop-i-preserved
loop-i-preserved c =
    let others : State → Reading = λ next. lines_reading next (c.loop-i.i + 1 + 1) (map (λ w. w.now) (drop (c.loop-i.i + 1) c.args.lines.now)) in
    sym (front_reading (λ w. w.now) c.args.lines.now c.loop-i.i _ c.loop-i.state (c.loop-i.i + 1) c.loop-i-test.true
    ∙ ap (λ r. goes_on (c.loop-i.i + 1) r others) c.in_ok-take_line.ensures.ok)
    ∙ c.loop-i.invariant

pub returns-in_err-take_line : goal.returns-in_err-take_line
returns-in_err-take_line c =
    let p = err_from_is_err_and c.from_residual-in_err-take_line.result c.from_residual-in_err-take_line.ensures.1 in
    let others : State → Reading = λ next. lines_reading next (c.loop-i.i + 1 + 1) (map (λ w. w.now) (drop (c.loop-i.i + 1) c.args.lines.now)) in
    rw (p.1, p.2)
    (subst (IsFault c.in_err-take_line.field-0.0)
    (sym (front_reading (λ w. w.now) c.args.lines.now c.loop-i.i _ c.loop-i.state (c.loop-i.i + 1) c.loop-i-test.true) ∙ c.loop-i.invariant)
    (c.in_err-take_line.ensures.err others))
