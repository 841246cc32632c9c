-- In a run a FAILURE that a job takes says what its sender found.
use Rattle.std.proofs.Common.{◌≡◌, ℕ, true, false, List, Some, refl, sym, ap, ◌∙◌, subst}
use Rattle.std.specs.Prelude.{slice_get}
use Rattle.std.proofs.lemmas.Option.{same_Some}
use Rattle.annex_base.specs.Lists.{Each}
use Rattle.step_facts.proofs.Below.{SentAreRead}
use Rattle.run_data.specs.declared.entry.Entry.{Entry}
use Rattle.run_data.specs.declared.entry.EntryKind.{EntryKind}
use Rattle.run_data.specs.declared.entry.FrameView.{FrameView}
use Rattle.run_data.specs.declared.run.Run.{Run}
use Rattle.run_data.specs.Repos.{IsSetUp}
use Rattle.run_model.specs.Past.{Occurs, is_of}
use Rattle.p2p_wire.specs.declared.message.Message.{Message}
use Rattle.p2p_wire.specs.declared.message.Message.TheVariants.{Failure, Put, Remove, RemoveBefore, Valid}
use Rattle.run_model.specs.Said.{Says, message_in}
use Rattle.run_model.specs.Frames.{FlyingFrame, said_of, frames_sent, taken_count, way_of}
use Rattle.run_model.specs.Run.{RunPast, set_up}
use Rattle.run_laws.proofs.SessionAnswers.{AnswerFits}
use Rattle.cause_laws.proofs.AnswerCauses.{FailsFor, FailuresFit}
use Rattle.past_facts.proofs.OwnRuns.{part_of, step_at}
use Rattle.run_laws.proofs.AnswersFit.{AnswerOf, answer_of, failure_fits}

fails_for : (asked : Message) (kind : EntryKind) → AnswerFits asked kind Failure → FailsFor (Says asked) kind
fails_for (Remove key) kind x = x
fails_for (RemoveBefore n key) kind x = x
fails_for (Put file key) kind x = x
fails_for Valid kind x = x
fails_for asked kind x = tt

module _ (reads_back : SentAreRead) (run : Run) (repos : Each IsSetUp run.repos) where
  -- what a FAILURE that a job takes answers
  pub failure_of : (past : List Entry) → RunPast (set_up run) past → (r : ℕ) (x : Entry) (before : List Entry) → Occurs past x before → is_of r x ≡ true → (f : FrameView) → x.taken ≡ Some f → f.up ≡ false → message_in f.body ≡ Says Failure
      → (it : FlyingFrame) → slice_get (frames_sent before (way_of r f)) (taken_count before (way_of r f)) ≡ Some it → AnswerOf before r f it Failure
  failure_of past h r x before o is f takes down says' it next =
      let at = step_at run past x before h o in
      let may = (part_of (set_up run) before x r at.0 is).frames.takes f takes in
      subst (λ (z : FlyingFrame). AnswerOf before r f z Failure) (same_Some may.it it (sym may.next ∙ next)) (answer_of reads_back run repos before x r f Failure at.1 at.0 is takes down says' refl may)

  -- **a FAILURE says what its sender found**
  pub failures_fit : (past : List Entry) → RunPast (set_up run) past → FailuresFit past
  failures_fit past h r x before o is f takes down says' asked it last next =
      let y = failure_of past h r x before o is f takes down says' it next in
      let same : y.request ≡ asked = same_Some y.request asked (sym y.last ∙ last) in
      subst (λ q. FailsFor q it.entry.kind) (sym y.asked_is ∙ ap said_of same) (fails_for y.asked it.entry.kind (failure_fits y.asked it.entry.kind y.answering))
