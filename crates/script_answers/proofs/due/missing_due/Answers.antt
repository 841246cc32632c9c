-- The first command for which a part is missing stands on a line, which is named.
use Rattle.std.proofs.Common.{[], length, ap, sym, ◌∙◌, arith}
use Rattle.std.specs.Prelude.{not, slice_get}
use Rattle.std.proofs.lemmas.List.Quantifiers.{position-Some}
use Rattle.script_commands.specs.declared.command.Command.TheVariants.{Par}
use Rattle.driver_script.specs.Lines.{is_built}
use Rattle.driver_script.specs.Script.{IsUnbuilt}
use Rattle.script_answers.proofs.DueLemmas.{HaveOneReading, due_by, missing_is_due}
use Rattle.script_answers.proofs.GoodLemmas.{good_where_ok, missing_has_none}
use Rattle.script_answers.proofs.due.missing_due.Goals as goal

pub line_at-requires : goal.line_at-requires
line_at-requires c =
    let long = ap length (c.deref.ensures.value ∙ c.in_ok-numbers.ensures) ∙ c.commands_have_lines.ensures c.args.bytes.now c.args._script.now c.requires.says in
    let within = (position-Some (λ command. not (is_built command)) c.args._script.now c.args.place (Par []) c.requires.first).0 in
    omega (arith, long, within)

pub returns-clause-due : goal.returns-clause-due
returns-clause-due c =
    let numbers = c.deref.ensures.value ∙ c.in_ok-numbers.ensures in
    let unbuilt : IsUnbuilt c.args.bytes.now c.line_at.result = record {
      all = c.args._script.now;
      says = c.requires.says;
      place = c.args.place;
      first = c.requires.first;
      line_is = ap (λ ns. slice_get ns c.args.place) (sym numbers) ∙ c.line_at.ensures;
    } in
    due_by c.complaint_due.result c.args.bytes.now _ _ c.complaint_due.ensures (missing_is_due c.args.bytes.now c.line_at.result c.requires.short unbuilt)

pub returns-clause-good : goal.returns-clause-good
returns-clause-good c =
    let numbers = c.deref.ensures.value ∙ c.in_ok-numbers.ensures in
    let law = c.scripts_are_built_or_not.ensures in
    let one : HaveOneReading = record { script = law.script; line = law.line; one = law.one } in
    good_where_ok c.complaint_due.result c.args.bytes.now (missing_has_none one c.args.bytes.now c.line_at.result (record {
      all = c.args._script.now;
      says = c.requires.says;
      place = c.args.place;
      first = c.requires.first;
      line_is = ap (λ ns. slice_get ns c.args.place) (sym numbers) ∙ c.line_at.ensures;
    }))
