-- All commands can be driven, or the first that can't stands on a line.
use Rattle.std.proofs.Common.{◌≡◌, ◌⊎◌, inl, inr, ℕ, List, length, get_or, arith}
use Rattle.std.proofs.lemmas.Option.{slice_get-get_or}
use Rattle.script_commands.specs.declared.command.Command.{Command}
use Rattle.script_lang.specs.Script.{reading, Commands}
use Rattle.script_lang.specs.Numbering.{line_numbers}
use Rattle.driver_script.specs.Script.{IsScript, IsUnbuilt}
use Rattle.driver_script.proofs.BuiltLemmas.{IsEither, built_or_first}
use Rattle.driver_script.proofs.laws.scripts_run_or_miss_a_form.Goals as goal

told : (text : List ℕ) (all : List Command) → reading text ≡ Commands all → length (line_numbers text) ≡ length all → IsEither all → IsScript text all ⊎ ((line : ℕ) × IsUnbuilt text line)
told text all says long (inl built) = inl (record { says = says; built = built.0 })
told text all says long (inr first) =
    let within = first.2 in
    inr (get_or (line_numbers text) first.0 0, record { all = all; says = says; place = first.0; first = first.1; line_is = slice_get-get_or (line_numbers text) first.0 0 (omega (arith, long, within)) })

pub returns : goal.returns
returns c = λ text all says. told text all says (c.commands_have_lines.ensures text all says) (built_or_first all)
