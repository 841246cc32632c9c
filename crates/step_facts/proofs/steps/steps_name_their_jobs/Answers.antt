-- Whose entry a step makes.
use Rattle.std.proofs.Common.{None, refl}
use Rattle.node_model.specs.Ends.{server_end}
use Rattle.node_model.specs.JobStep.{turn_of}
use Rattle.node_model.specs.Sessions.{line_in}
use Rattle.node_model.specs.SessionStep.{here, on_frame}
use Rattle.node_model.specs.Turns.{goes, takes_frame}
use Rattle.step_facts.proofs.JobFacts as jobs
use Rattle.step_facts.proofs.JobSteps.{job_is, session_none}
use Rattle.step_facts.proofs.SessionFacts as sessions
use Rattle.step_facts.proofs.steps.steps_name_their_jobs.Goals as goal

pub returns-clause-session : goal.returns-clause-session
returns-clause-session c s st k m x = session_none (here s st k (server_end x.peer x.slot)) (st.sessions (server_end x.peer x.slot)).doing x.asked x.says m.kind x.found

pub returns-clause-job : goal.returns-clause-job
returns-clause-job c s st k m x = job_is (turn_of s st k x.w) m m.kind x.found

pub returns-clause-answers : goal.returns-clause-answers
returns-clause-answers c h was body = session_none h was.doing (line_in body) (on_frame h was body).says (on_frame h was body).kind (sessions.frame_found h was body)

pub returns-clause-gives : goal.returns-clause-gives
returns-clause-gives c h doing x is = session_none h doing None x.says x.kind (sessions.gives_found h doing x is)

pub returns-clause-goes : goal.returns-clause-goes
returns-clause-goes c t free = job_is t (goes t t.w.phase) (goes t t.w.phase).kind (jobs.goes_found t t.w.phase refl free).1

pub returns-clause-takes : goal.returns-clause-takes
returns-clause-takes c t peer f on = job_is t (takes_frame t peer f f.body) (takes_frame t peer f f.body).kind (jobs.frame_found t peer f on f.body refl).1
