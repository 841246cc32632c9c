-- What is due where the text is no script: its reading says so.
use Rattle.std.proofs.Common.{◌≡◌, ap, sym, subst, ◌∙◌, arith}
use Rattle.script_forms.specs.declared.fault.ScriptFault.{ScriptFault}
use Rattle.script_lang.specs.Limits.{limit_of, quantity_name}
use Rattle.script_lang.specs.Script.{reading, BadLine, PastLimit, IsFault}
use Rattle.script_answers.specs.declared.status.Status.TheVariants.{Limit}
use Rattle.script_answers.specs.Top.{IsDue, limit_text}
use Rattle.script_answers.proofs.DueLemmas.{due_by, complaint_is_due, past_is_due}
use Rattle.script_answers.proofs.GoodLemmas.{always_good, bad_has_none, good_by, long_is_none, past_has_none}
use Rattle.annex_cli.proofs.due.due_text.Goals as goal

pub returns-then-bytes-gt-SCRIPT_LIMIT-clause-good_start : goal.returns-then-bytes-gt-SCRIPT_LIMIT-clause-good_start
returns-then-bytes-gt-SCRIPT_LIMIT-clause-good_start g c = long_is_none c.limit_due.result c.args.bytes.now (omega arith)

pub returns-in-Ok-clause-good : goal.returns-in-Ok-clause-good
returns-in-Ok-clause-good g c = good_by c.script_due.result c.args.bytes.now _ c.script_due.ensures.good

pub returns-in-Ok-clause-good_start : goal.returns-in-Ok-clause-good_start
returns-in-Ok-clause-good_start g c = good_by c.script_due.result c.args.bytes.now _ c.script_due.ensures.good

pub returns-in-Err-BadLine-clause-due : goal.returns-in-Err-BadLine-clause-due
returns-in-Err-BadLine-clause-due g c =
    let fault = c.in-Err-BadLine in
    let bad : reading c.args.bytes.now ≡ BadLine fault.line fault.byte = subst (λ (e : ScriptFault). IsFault e (reading c.args.bytes.now)) fault.field-0-is fault.ensures in
    due_by c.complaint_due.result c.args.bytes.now _ _ c.complaint_due.ensures (complaint_is_due c.args.bytes.now fault.line fault.byte (omega arith) bad)

pub returns-in-Err-TooMuch-clause-due : goal.returns-in-Err-TooMuch-clause-due
returns-in-Err-TooMuch-clause-due g c =
    let fault = c.in-Err-TooMuch in
    let past : reading c.args.bytes.now ≡ PastLimit fault.quantity = subst (λ (e : ScriptFault). IsFault e (reading c.args.bytes.now)) fault.field-0-is fault.ensures in
    let said : limit_text c.name.result.now c.limit.result ≡ limit_text (quantity_name fault.quantity) (limit_of fault.quantity) =
    ap (λ name. limit_text name c.limit.result) c.name.ensures ∙ ap (limit_text (quantity_name fault.quantity)) c.limit.ensures in
    due_by c.limit_due-in-Err-TooMuch.result c.args.bytes.now _ _ c.limit_due-in-Err-TooMuch.ensures
    (subst (IsDue c.args.bytes.now Limit) (sym said) (past_is_due c.args.bytes.now fault.quantity (omega arith) past))

pub returns-in-Err-BadLine-clause-good_start : goal.returns-in-Err-BadLine-clause-good_start
returns-in-Err-BadLine-clause-good_start g c =
    let fault = c.in-Err-BadLine in
    let bad : reading c.args.bytes.now ≡ BadLine fault.line fault.byte = subst (λ (e : ScriptFault). IsFault e (reading c.args.bytes.now)) fault.field-0-is fault.ensures in
    always_good c.complaint_due.result c.args.bytes.now _ (bad_has_none c.args.bytes.now fault.line fault.byte bad)

pub returns-in-Err-TooMuch-clause-good_start : goal.returns-in-Err-TooMuch-clause-good_start
returns-in-Err-TooMuch-clause-good_start g c =
    let fault = c.in-Err-TooMuch in
    let past : reading c.args.bytes.now ≡ PastLimit fault.quantity = subst (λ (e : ScriptFault). IsFault e (reading c.args.bytes.now)) fault.field-0-is fault.ensures in
    always_good c.limit_due-in-Err-TooMuch.result c.args.bytes.now _ (past_has_none c.args.bytes.now fault.quantity past)
