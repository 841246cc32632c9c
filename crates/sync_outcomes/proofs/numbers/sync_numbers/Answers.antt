-- What the proof of `numbers::sync_numbers` needs beside the tactics.
use Rattle.std.proofs.Common.{List, ap, ◌∙◌}
use Rattle.run_data.specs.declared.entry.Entry.{Entry}
use Rattle.run_model.specs.Past.{begun_count}
use Rattle.sync_outcomes.proofs.Counts.{numbers_are}
use Rattle.sync_outcomes.proofs.numbers.sync_numbers.Goals as goal

pub returns : goal.returns
returns c =
    numbers_are c.args.run.now c.args.repo c.args.from c.args.upto c.begun_count-past.result c.between-entries.result.now
    (c.begun_count-past.ensures ∙ ap (λ (l : List Entry). begun_count l c.args.repo) c.before-2.ensures) c.between-entries.ensures
    c.gets.result c.puts.result c.drops.result c.refusals.result c.gets.ensures c.puts.ensures c.drops.ensures c.refusals.ensures
