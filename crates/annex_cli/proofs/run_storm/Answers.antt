-- What is due was written whole.
use Rattle.std.proofs.Common.{◌≡◌, ℕ, List, subst}
use Rattle.std.specs.Io.KnownBytes.{append_known}
use Rattle.script_answers.proofs.StormLemmas.{answers_written}
use Rattle.annex_cli.proofs.run_storm.Goals as goal

pub returns-in-Ok-write_whole-clause-answers : goal.returns-in-Ok-write_whole-clause-answers
returns-in-Ok-write_whole-clause-answers g c =
    answers_written c.args.storm.number c.args.storm.jobs (g.K.Sink.taken c.args.sink.now) (g.K.Sink.taken c.write_whole.new.sink) c.in-Ok.due.status c.in-Ok.due.text.items c.in-Ok.ensures
    (subst (λ (text : List ℕ). g.K.Sink.taken c.write_whole.new.sink ≡ append_known (g.K.Sink.taken c.args.sink.now) text) c.deref.ensures.value c.in-Ok-write_whole.ensures.ok)
