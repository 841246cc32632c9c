-- What the proof of `numbers::pattern_matches` needs beside the tactics.
use Rattle.std.proofs.Common.{sym, ap, ◌∙◌, List, Option}
use Rattle.std.specs.Option.{option_copied}
use Rattle.glob_match.specs.declared.item.Item.{Item}
use Rattle.glob_match.specs.Numbers.{spelled_matches}
use Rattle.trust_groups.proofs.numbers.pattern_matches.Goals as goal

pub returns-in-Some : goal.returns-in-Some
returns-in-Some c = c.matches_path.ensures ∙ ap (λ (o : Option (List Item)). spelled_matches o c.args.path.now) (sym (ap option_copied c.in-Some.is) ∙ c.glob_of.ensures)

pub returns-in-None : goal.returns-in-None
returns-in-None c = ap (λ (o : Option (List Item)). spelled_matches o c.args.path.now) (sym (ap option_copied c.in-None.is) ∙ c.glob_of.ensures)
