-- What the proof of `holders::Holders::hold` needs beside the tactics.
use Rattle.std.proofs.Common.{ap, length, length-set, sym, ◌∙◌}
use Rattle.std.proofs.lemmas.Option.{slice_get_within}
use Rattle.run_audit.proofs.Holding.{held, held_none}
use Rattle.run_audit.proofs.holders.Holders.hold.Goals as goal

pub set-requires : goal.set-requires
set-requires c = slice_get_within c.args.self.now.each.items c.args.repo c.in-Some.holder (sym c.in-Some.ensures)

pub returns-in-Some-clause-all : goal.returns-in-Some-clause-all
returns-in-Some-clause-all c = ap length c.set.ensures ∙ length-set c.args.self.now.each.items c.args.repo _

pub returns-in-Some-clause-each : goal.returns-in-Some-clause-each
returns-in-Some-clause-each c = λ r lt. held c.args.self.now.each.items c.set.new.self.each.items c.args.repo c.in-Some.holder c.args.copy (sym c.in-Some.ensures) c.set.ensures r

pub returns-in-None-clause-each : goal.returns-in-None-clause-each
returns-in-None-clause-each c = λ r lt. held_none c.args.self.now.each.items c.args.repo r c.args.copy (sym c.in-None.ensures) lt
