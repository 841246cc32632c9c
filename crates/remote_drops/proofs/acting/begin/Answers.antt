-- What its target requires.
use Rattle.std.proofs.Common.{sym, ap, ◌∙◌}
use Rattle.std.specs.Option.{option_copied}
use Rattle.drop_phases.proofs.Numbers.{each_number}
use Rattle.drop_proof.specs.declared.rule.Side.TheVariants.{Remote}
use Rattle.drop_phases.specs.Sides.{HearsOwn}
use Rattle.remote_requests.proofs.RemoteBegun.{ended_own}
use Rattle.remote_requests.proofs.Apart.{stays_in}
use Rattle.remote_drops.proofs.acting.begin.Goals as goal

pub end_required-requires-clause-required : goal.end_required-requires-clause-required
end_required-requires-clause-required g c = sym c.required.ensures ∙ ap option_copied c.in-Some.is

pub try_own-requires-clause-spared : goal.try_own-requires-clause-spared
try_own-requires-clause-spared g c = sym c.required.ensures ∙ ap option_copied c.in-None.is

pub returns-in-Some-clause-did : goal.returns-in-Some-clause-did
returns-in-Some-clause-did g c = c.end_required.ensures.did c.args.input.now.number

pub returns-in-Some-clause-numbered : goal.returns-in-Some-clause-numbered
returns-in-Some-clause-numbered g c = each_number c.args.input.now.number c.end_required.result c.end_required.ensures.numbered

pub returns-in-Some-clause-calls : goal.returns-in-Some-clause-calls
returns-in-Some-clause-calls g c = c.end_required.ensures.calls c.args.input.now.number

pub returns-in-Some-clause-own : goal.returns-in-Some-clause-own
returns-in-Some-clause-own g c = ended_own (HearsOwn Remote (g.H.Here.reading c.args.here.now) c.end_required.new.worker) c.end_required.result c.end_required.ensures.ended

pub returns-in-Some-clause-apart : goal.returns-in-Some-clause-apart
returns-in-Some-clause-apart g c = stays_in (g.H.Here.reading c.args.here.now).repo c.args.target c.args.worker.now c.end_required.new.worker c.end_required.result c.end_required.ensures.apart
