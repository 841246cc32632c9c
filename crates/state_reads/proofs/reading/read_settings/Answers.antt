-- What the proof of `reading::read_settings` needs beside the tactics.
use Rattle.std.proofs.Common.{ap, refl, ◌∙◌}
use Rattle.std.specs.Prelude.{slice_get}
use Rattle.trust_groups.specs.View.{settings_of}
use Rattle.state_jobs.specs.Works.{work_of}
use Rattle.state_reads.proofs.Knowing.{logs_known}
use Rattle.state_reads.proofs.reading.read_settings.Goals as goal

pub returns : goal.returns
returns c = λ lines same. (
  refl,
  λ s number listed had.
      logs_known c.readings_are_exact.ensures.nothing (settings_of c.args.logs.now) lines s (work_of c.args.work.now) c.args.repo c.args.ids.now c.args.paths.now c.id_at-target.result c.in_ok-known.known
      same number listed had (c.id_at-target.ensures ∙ ap (slice_get c.args.ids.now) c.target.ensures) c.in_ok-known.ensures.need c.in_ok-known.ensures.standings c.in_ok-known.ensures.required,
)
