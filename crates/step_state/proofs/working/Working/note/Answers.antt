-- What the proof of `working::Working::note` needs beside the tactics.
use Rattle.std.proofs.Common.{refl, sym, ◌∙◌}
use Rattle.state_works.specs.Jobs.{works_of}
use Rattle.step_state.specs.Places.{count_in}
use Rattle.step_state.proofs.StateLemmas.{jobs_within, rows_beside, some_set_up, with_works}
use Rattle.step_state.proofs.working.Working.note.Goals as goal

pub returns-clause-working : goal.returns-clause-working
returns-clause-working c = λ s st place rows ended so are.
    let number = place.number ∙ sym c.number.ensures.value in
    record {
      works = c.note-2.ensures.works s st number rows ended are.works;
      reads = c.note.ensures s st c.args.entry.now are.works so.kept are.reads;
      owed = c.note-3.ensures.owed s st c.args.entry.now so.owed are.owed;
    }

pub returns-clause-within : goal.returns-clause-within
returns-clause-within c = λ s st rows ended peers adds is.
    let was = c.args.self.now in
    let r = c.number.result in
    let ws = works_of was.jobs in
    let jobs = c.note-2.ensures.works (some_set_up r) (with_works st ws) refl (rows_beside c.args.rows.now st ws rows) ended (record { works = refl }) in
    record {
      jobs = jobs_within (count_in c.args.place.now) r was.jobs c.note-2.new.self st c.args.entry.now peers is.jobs jobs;
      owed = c.note-3.ensures.within (count_in c.args.place.now) adds is.owed;
    }
