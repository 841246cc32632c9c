-- What the proof of `numbers::glob_of` needs beside the tactics.
use Rattle.std.proofs.Common.{sym, ap, ◌∙◌}
use Rattle.std.specs.Option.{option_copied}
use Rattle.std.proofs.lemmas.Option.{none-some, same_Some}
use Rattle.glob_match.specs.Spelled.{glob_in}
use Rattle.trust_groups.proofs.numbers.glob_of.Goals as goal

pub returns-in-Some : goal.returns-in-Some
returns-in-Some c = c.as_ref.ensures.value ∙ same_Some c.in-Some.glob.now (glob_in c.args.pattern.now) (sym (ap option_copied c.in-Some.is) ∙ (c.get.ensures.value ∙ c.requires))

pub returns-in-None : goal.returns-in-None
returns-in-None c = absurd (none-some (glob_in c.args.pattern.now) (sym (ap option_copied c.in-None.is) ∙ (c.get.ensures.value ∙ c.requires)))
