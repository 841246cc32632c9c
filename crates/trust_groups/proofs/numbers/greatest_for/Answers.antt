-- What the proof of `numbers::greatest_for` needs beside the tactics.
use Rattle.std.proofs.Common.{List, ℕ, Option, None, sym, ap, subst, ◌∙◌}
use Rattle.log_lines.specs.declared.entry.Topic.{Topic}
use Rattle.log_lines.specs.declared.statement.Statement.{Statement}
use Rattle.log_lines.specs.Index.{entries_in, entry_with}
use Rattle.trust_groups.specs.Globs.{HaveGlobsOf, greatest, numbers_for}
use Rattle.trust_groups.specs.Settings.{patterns_of}
use Rattle.trust_groups.proofs.NumberLemmas.{next_entry}
use Rattle.trust_groups.proofs.numbers.greatest_for.Goals as goal

pub loop-topic-init : goal.loop-topic-init
loop-topic-init c =
    let given = c.into_iter-topic-iterator.ensures.into_iter_gives in (
      ap (λ (its : List (Topic × Statement)). greatest None (numbers_for c.args.path.now (patterns_of (entries_in its)))) given,
      subst (λ (its : List (Topic × Statement)). HaveGlobsOf c.args.globs.now.entries (entries_in its)) (sym given) c.requires,
    )

pub number_for-number-requires : goal.number_for-number-requires
number_for-number-requires c = (subst (λ (its : List (Topic × Statement)). HaveGlobsOf c.args.globs.now.entries (entries_in its)) c.in-Some.ensures.steps c.loop-topic.invariant.1).0

pub loop-topic-preserved : goal.loop-topic-preserved
loop-topic-preserved c =
    let path = c.args.path.now in
    let found = c.loop-topic.found in
    let rest = entries_in c.next.new.self in (
      ap (λ (o : Option ℕ). greatest o (numbers_for path (patterns_of rest))) c.greater-found.ensures
          ∙ next_entry path (entry_with c.in-Some.topic.now c.in-Some.statement.now) rest found c.number_for-number.result c.number_for-number.ensures
          ∙ ap (λ (its : List (Topic × Statement)). greatest found (numbers_for path (patterns_of (entries_in its)))) (sym c.in-Some.ensures.steps)
          ∙ c.loop-topic.invariant.0,
      (subst (λ (its : List (Topic × Statement)). HaveGlobsOf c.args.globs.now.entries (entries_in its)) c.in-Some.ensures.steps c.loop-topic.invariant.1).1,
    )

pub returns : goal.returns
returns c =
    ap (λ (its : List (Topic × Statement)). greatest c.loop-topic.found (numbers_for c.args.path.now (patterns_of (entries_in its)))) (sym c.in-None.ensures.steps.0) ∙ c.loop-topic.invariant.0
