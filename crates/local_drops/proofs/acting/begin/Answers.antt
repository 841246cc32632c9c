-- What the repository requires.
use Rattle.std.proofs.Common.{sym, ap, ◌∙◌}
use Rattle.std.specs.Option.{option_copied}
use Rattle.local_drops.proofs.acting.begin.Goals as goal

pub end_required-requires-clause-required : goal.end_required-requires-clause-required
end_required-requires-clause-required g c = sym c.required.ensures ∙ ap option_copied c.in-Some.is

pub put_bar-requires-clause-spared : goal.put_bar-requires-clause-spared
put_bar-requires-clause-spared g c = sym c.required.ensures ∙ ap option_copied c.in-None.is

pub returns-in-Some-clause-does : goal.returns-in-Some-clause-does
returns-in-Some-clause-does g c = c.end_required.ensures.does c.args.input.now.time c.args.input.now.number c.args.table.now c.requires.owns

pub returns-in-Some-clause-calls : goal.returns-in-Some-clause-calls
returns-in-Some-clause-calls g c = c.end_required.ensures.calls c.args.input.now.time c.args.input.now.number c.args.table.now c.requires.owns
