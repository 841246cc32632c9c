-- Bytes are asked for where the content isn't there, nor being filled.
use Rattle.std.proofs.Common.{false, refl, sym, ap, ◌∙◌}
use Rattle.std.specs.Option.{option_map}
use Rattle.std.proofs.lemmas.Result.{IfOk-weaker}
use Rattle.annex_base.specs.declared.kinds.Call.TheVariants as calls
use Rattle.annex_base.proofs.Results.{IfOk-both, OnErr-always}
use Rattle.node_model.specs.Calls.{to_resume}
use Rattle.session_state.specs.Answers.{here_of}
use Rattle.node_model.specs.Look.{failed_in}
use Rattle.content_lock.specs.CallsMade.{fewer}
use Rattle.session_state.proofs.Calling.{makes_first, makes_one, unfailed}
use Rattle.session_parts.proofs.asking.put.Goals as goal

pub returns-else-is_filling-clause-does : goal.returns-else-is_filling-clause-does
returns-else-is_filling-clause-does g c =
    IfOk-both c.ask.result _ _ _
    (λ r does still k is part right tells.
    let told = rw (← c.in-Ok-false.ensures.parts) at tells in
    record {
      answers = does (here_of c.args.scene c.args.table.now k (failed_in r.0.kind) part right) told (sym (c.in-Ok-false.ensures.ok k is) ∙ c.in-Ok-false.field-0-test) (sym c.is_filling.ensures ∙ c.if-is_filling.false) refl refl;
      changes = still k _ (c.ask.ensures.contents ∙ c.in-Ok-false.ensures.contents ∙ is);
    })
    c.ask.ensures.does c.ask.ensures.still

pub returns-in_err-text-in-Ok-false-clause-err_failing : goal.returns-in_err-text-in-Ok-false-clause-err_failing
returns-in_err-text-in-Ok-false-clause-err_failing g c = OnErr-always _ c.from_residual.result (unfailed calls.Has _ _ c.in-Ok-false.ensures.failing)

pub returns-then-is_filling-clause-calls : goal.returns-then-is_filling-clause-calls
returns-then-is_filling-clause-calls g c = λ k is part tells.
    rw (c.says-then-is_filling.ensures, sym (c.in-Ok-false.ensures.ok k is) ∙ c.in-Ok-false.field-0-test, sym c.is_filling.ensures ∙ c.if-is_filling.true)
    (makes_one calls.Has false _ _ c.in-Ok-false.ensures.failing)

pub returns-then-is_filling-clause-left : goal.returns-then-is_filling-clause-left
returns-then-is_filling-clause-left g c = rw c.says-then-is_filling.ensures (makes_one calls.Has false _ _ c.in-Ok-false.ensures.failing).left

pub returns-in-Ok-true-clause-calls : goal.returns-in-Ok-true-clause-calls
returns-in-Ok-true-clause-calls g c = λ k is part tells.
    rw (c.says.ensures, sym (c.in-Ok-true.ensures.ok k is) ∙ c.in-Ok-true.field-0-test) (makes_one calls.Has false _ _ c.in-Ok-true.ensures.failing)

pub returns-in-Ok-true-clause-left : goal.returns-in-Ok-true-clause-left
returns-in-Ok-true-clause-left g c = rw c.says.ensures (makes_one calls.Has false _ _ c.in-Ok-true.ensures.failing).left

pub returns-else-is_filling-clause-calls : goal.returns-else-is_filling-clause-calls
returns-else-is_filling-clause-calls g c =
    IfOk-weaker c.ask.result _ _
    (λ r made k is part tells.
    let told = rw (← c.in-Ok-false.ensures.parts) at tells in
    rw (sym (c.in-Ok-false.ensures.ok k is) ∙ c.in-Ok-false.field-0-test, sym c.is_filling.ensures ∙ c.if-is_filling.false)
    (makes_first calls.Has (to_resume part) _ _ _ _ c.in-Ok-false.ensures.failing (made part told)))
    c.ask.ensures.calls

pub returns-else-is_filling-clause-left : goal.returns-else-is_filling-clause-left
returns-else-is_filling-clause-left g c =
    IfOk-weaker c.ask.result _ _ (λ r left. left ∙ ap (option_map (fewer (failed_in r.0.kind))) (unfailed calls.Has _ _ c.in-Ok-false.ensures.failing)) c.ask.ensures.left

pub returns-else-is_filling-clause-err_failing : goal.returns-else-is_filling-clause-err_failing
returns-else-is_filling-clause-err_failing g c = rw (← unfailed calls.Has _ _ c.in-Ok-false.ensures.failing) c.ask.ensures.err_failing
