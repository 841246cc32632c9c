-- What the answers come of whose words are kept.
use Rattle.std.proofs.Common.{subst}
use Rattle.run_model.specs.Run.{RunPast, set_up}
use Rattle.run_laws.proofs.WordsAsked.{answers_asked}
use Rattle.run_laws.proofs.jobs.kept_words_were_asked.Goals as goal

pub returns : goal.returns
returns c run past e r is ends mine =
    let steps = subst (RunPast (set_up run)) ends is.steps in
    answers_asked c.sent_messages_are_read.ensures.read run is.repos past e r steps.1 steps.0 mine
