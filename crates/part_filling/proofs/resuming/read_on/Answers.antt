-- The digester takes each piece that is read.
use Rattle.std.proofs.Common.{ℕ, ◌∙◌, arith, rules}
use Rattle.annex_base.specs.declared.kinds.Call.TheVariants as calls
use Rattle.session_state.proofs.Calling.{memory_handed, unchanged_all, unfailed}
use Rattle.part_filling.proofs.Reading.{grown}
use Rattle.part_filling.proofs.resuming.read_on.Goals as goal

pub loop-at-preserved : goal.loop-at-preserved
loop-at-preserved g c =
    let was = c.loop-at.invariant in
    let read = c.in_ok-count.ensures in
    record {
      contents = read.contents ∙ was.contents;
      parts = read.parts ∙ was.parts;
      records = read.records ∙ was.records;
      files = read.files ∙ was.files;
      later = omega (arith, read.later, was.later);
      failing = unfailed calls.ReadPart _ _ read.failing ∙ was.failing;
      none = λ some failing is. read.failing.told failing (was.failing ∙ is);
      room = search rules;
      count = search rules;
      within = omega arith;
      fed = λ p is size.
          let had = was.fed p is size in
          let told = was.parts ∙ is in
          grown (p c.args.key.now) c.loop-at.room c.read_part.new.room _ c.args.key.now c.loop-at.at c.in_ok-count.count _ _ had.0 (read.ok p told) (read.room p told) c.split_at.ensures.front had.1 c.update.ensures.taken;
    }

pub returns-in_err-count-clause-memory : goal.returns-in_err-count-clause-memory
returns-in_err-count-clause-memory g c = memory_handed ℕ c.from_residual.result calls.ReadPart c.in_err-count.field-0.0 _ _ _ c.from_residual.ensures.1 c.loop-at.invariant.failing c.in_err-count.ensures.failing

pub returns-clause-calls : goal.returns-clause-calls
returns-clause-calls g c =
    let was = c.loop-at.invariant in
    record { told = was.none (omega (arith, c.loop-at-test.false)); count = was.failing ∙ unchanged_all calls.ReadPart _ (was.none (omega (arith, c.loop-at-test.false))) }
