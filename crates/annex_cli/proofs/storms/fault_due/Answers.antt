-- What is due where the text is no script: its reading says so.
use Rattle.std.proofs.Common.{◌≡◌, ap, subst, sym, ◌∙◌}
use Rattle.script_forms.specs.declared.fault.ScriptFault.{ScriptFault}
use Rattle.script_lang.specs.Limits.{limit_of, quantity_name}
use Rattle.script_lang.specs.Script.{reading, BadLine, PastLimit, IsFault}
use Rattle.script_answers.specs.declared.status.Status.TheVariants.{Limit}
use Rattle.script_answers.specs.Storms.{IsStormAnswer}
use Rattle.script_answers.specs.Top.{limit_text}
use Rattle.script_answers.proofs.StormLemmas.{answered_by, complaint_answers, past_answers}
use Rattle.annex_cli.proofs.storms.fault_due.Goals as goal

pub returns-in-BadLine : goal.returns-in-BadLine
returns-in-BadLine c =
    let n = c.args.storm.number in
    let m = c.args.storm.jobs in
    let fault = c.in-BadLine in
    let bad : reading c.args._bytes.now ≡ BadLine fault.line fault.byte = subst (λ (e : ScriptFault). IsFault e (reading c.args._bytes.now)) fault.is c.requires.fault in
    answered_by c.complaint_due.result n m _ _ c.complaint_due.ensures (complaint_answers n m c.args._bytes.now fault.line fault.byte c.requires.text c.requires.short bad)

pub returns-in-TooMuch : goal.returns-in-TooMuch
returns-in-TooMuch c =
    let n = c.args.storm.number in
    let m = c.args.storm.jobs in
    let fault = c.in-TooMuch in
    let past : reading c.args._bytes.now ≡ PastLimit fault.quantity = subst (λ (e : ScriptFault). IsFault e (reading c.args._bytes.now)) fault.is c.requires.fault in
    let said : limit_text c.name.result.now c.limit.result ≡ limit_text (quantity_name fault.quantity) (limit_of fault.quantity) =
    ap (λ name. limit_text name c.limit.result) c.name.ensures ∙ ap (limit_text (quantity_name fault.quantity)) c.limit.ensures in
    answered_by c.limit_due.result n m _ _ c.limit_due.ensures (subst (IsStormAnswer n m Limit) (sym said) (past_answers n m c.args._bytes.now fault.quantity c.requires.text c.requires.short past))
