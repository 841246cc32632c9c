-- What the proof of `numbers::number_of_path` needs beside the tactics.
use Rattle.std.proofs.Common.{List, ℕ, Option, None, sym, ap, subst, unwrap_or, ◌∙◌}
use Rattle.std.specs.Option.{option_copied}
use Rattle.glob_match.specs.Numbers.{number_of_path}
use Rattle.log_lines.specs.declared.entry.Entry.{Entry}
use Rattle.log_lines.specs.Index.{Index}
use Rattle.trust_groups.specs.Globs.{HaveGlobsOf, greatest, numbers_for}
use Rattle.trust_groups.specs.Reads.{entries_or_none}
use Rattle.trust_groups.specs.Settings.{patterns_of}
use Rattle.trust_groups.proofs.NumberLemmas.{greatest_is}
use Rattle.trust_groups.proofs.numbers.number_of_path.Goals as goal

pub greatest_for-requires : goal.greatest_for-requires
greatest_for-requires c = subst (HaveGlobsOf c.args.globs.now.entries) (ap (λ (o : Option Index). entries_or_none o) (ap option_copied c.in-Some.is) ∙ sym c.entries.ensures.value) c.requires

pub returns-in-Some : goal.returns-in-Some
returns-in-Some c =
    let path = c.args.path.now in
    let whole = c.args.whole in
    c.unwrap_or.ensures
    ∙ ap (λ (o : Option ℕ). unwrap_or o whole) (c.greatest_for.ensures ∙ ap (λ (es : List Entry). greatest None (numbers_for path (patterns_of es))) c.entries.ensures.value)
    ∙ greatest_is whole (numbers_for path (patterns_of c.in-Some.index.now.entries))
    ∙ ap (λ (o : Option Index). number_of_path whole (patterns_of (entries_or_none o)) path) (sym (ap option_copied c.in-Some.is))
