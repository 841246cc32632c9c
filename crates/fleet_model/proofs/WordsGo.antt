-- The words that a node's jobs have heard go on with the past, by how its jobs go on.
use Rattle.std.proofs.Common.{◌≡◌, ◌≢◌, ◌⊎◌, inl, inr, ℕ, Bool, true, false, List, [], ◌∷◌, Option, Some, None, map, refl, sym, ap, ◌∙◌, subst}
use Rattle.std.specs.Prelude.{◌==◌, cond}
use Rattle.std.specs.Option.{option_map_or}
use Rattle.std.proofs.lemmas.Option.{same_Some}
use Rattle.std.proofs.lemmas.Bool.{eqb-false, eqb-true}
use Rattle.annex_base.specs.Lists.{Member}
use Rattle.annex_base.proofs.Options.{some_none}
use Rattle.annex_base.specs.declared.kinds.Word.{Word}
use Rattle.drop_proof.specs.declared.rule.Side.{Side}
use Rattle.drop_proof.specs.declared.rule.Side.TheVariants.{Local, Remote}
use Rattle.link_ring.specs.Ends.{EndView}
use Rattle.p2p_wire.specs.declared.message.Message.{Message}
use Rattle.p2p_wire.specs.declared.message.Message.TheVariants.{Failure, Success}
use Rattle.p2p_wire.specs.Messages.{message_of}
use Rattle.run_data.specs.declared.entry.Entry.{Entry}
use Rattle.run_data.specs.declared.entry.FrameText.{FrameText}
use Rattle.run_data.specs.declared.entry.FrameText.TheVariants as texts
use Rattle.run_data.specs.declared.entry.FrameView.{FrameView}
use Rattle.run_model.specs.States.{works}
use Rattle.run_model.specs.Words.{awaits_word}
use Rattle.node_model.specs.Jobs as models
use Rattle.node_model.specs.Jobs.{Work, is_ordered, or_own, side_of}
use Rattle.node_model.specs.Rows.{option_is}
use Rattle.node_model.specs.Sessions.{line_in}
use Rattle.node_model.specs.Slots.{job_of}
use Rattle.drop_phases.specs.declared.phase.Heard.{Heard}
use Rattle.drop_phases.specs.declared.phase.Phase.{Phase}
use Rattle.drop_phases.specs.declared.phase.Phase.TheVariants as phases
use Rattle.drop_phases.specs.declared.turn.Taken.TheVariants as takens
use Rattle.drop_phases.specs.Feeding.{IsAnswer}
use Rattle.drop_phases.specs.Working.{end_in, heard_as, is_target, phase_as, taken_line, taken_of}
use Rattle.get_phases.specs.Gets as gets
use Rattle.get_phases.specs.declared.getting.Phase.{Phase as GetPhase}
use Rattle.get_phases.specs.declared.getting.Phase.TheVariants as getting
use Rattle.put_steps.specs.Puts as puts
use Rattle.put_steps.specs.declared.phase.Phase.{Phase as PutPhase}
use Rattle.put_steps.specs.declared.phase.Phase.TheVariants as offers
use Rattle.joined_nodes.specs.TransferJob.{TransferJob}
use Rattle.joined_nodes.specs.Worker.{Worker}
use Rattle.joined_nodes.specs.Worker.TheVariants as workers
use Rattle.joined_nodes.specs.Workers.{work_of}
use Rattle.joined_nodes.specs.Waiting.{word_at}
use Rattle.joined_nodes.specs.Task.{Task}
use Rattle.joined_nodes.specs.Task.TheVariants as tasks
use Rattle.joined_nodes.specs.Tasks.{number_of, work_now}
use Rattle.joined_nodes.specs.Running.{job_at, words_at, words_of_task}
use Rattle.joined_nodes.specs.Jobs.{AwaitsAnswerOf, HearsMore, HearsSo, JobsGoOn, heard_of, is_target_of, phase_of}
use Rattle.joined_nodes.specs.Parts.{PartsView}
use Rattle.joined_nodes.specs.Done.{Done}
use Rattle.run_laws.specs.Jobs.{AreJobs, TakesAnswer, keeps_word}
use Rattle.link_flights.specs.Heard.{HearsOf, WordsGoOn}
use Rattle.joined_nodes.specs.Turning.{GoOn}

-- ---- the job that a work is

-- the running job with the number of this work
pub record JobOf (js : List Task) (w : Work) : Type 0 where
  pub job : Task
  pub here : job_at js w.number ≡ Some job
  pub among : Member job js
  pub number : number_of job ≡ w.number

job_of_work : (js : List Task) (w : Work) → Member w (map work_now js) → JobOf js w
job_of_work [] w among = absurd among
job_of_work (j ∷ js) w among = go (number_of j == w.number) refl among (job_of_work js w)
  where
    later : JobOf js w → (number_of j == w.number) ≡ false → JobOf (j ∷ js) w
    later x e = record { job = x.job; here = ap (λ (b : Bool). cond b (Some j) (job_at js w.number)) e ∙ x.here; among = inr x.among; number = x.number }

    go : (b : Bool) → (number_of j == w.number) ≡ b → Member w (work_now j ∷ map work_now js) → (Member w (map work_now js) → JobOf js w) → JobOf (j ∷ js) w
    go true e among rest = record { job = j; here = ap (λ (b : Bool). cond b (Some j) (job_at js w.number)) e; among = inl refl; number = eqb-true (number_of j) w.number e }
    go false e (inl is) rest = absurd (eqb-false (number_of j) w.number e (ap (λ (x : Work). x.number) (sym is)))
    go false e (inr among) rest = later (rest among) e

member_of_job : (js : List Task) (j : Task) → Member j js → Member (work_now j) (map work_now js)
member_of_job [] j among = absurd among
member_of_job (x ∷ js) j (inl is) = inl (ap work_now is)
member_of_job (x ∷ js) j (inr among) = inr (member_of_job js j among)

-- it is that work, where works have numbers of their own
is_work : (js : List Task) (ws : List Work) (w : Work) → ws ≡ map work_now js → AreJobs ws → Member w ws → (x : JobOf js w) → work_now x.job ≡ w
is_work js ws w are jobs among x = jobs.apart (work_now x.job) w (subst (Member (work_now x.job)) (sym are) (member_of_job js x.job x.among)) among x.number

-- ---- a transfer stands in no phase of a drop

-- a phase in which a job awaits an answer that has a word
abbrev awaits_some : models.Phase → Bool
awaits_some (models.AsksLook peer) = true
awaits_some models.Orders = true
awaits_some phase = false

get_awaits_none : (p : GetPhase) → awaits_some (gets.phase_of p) ≡ false
get_awaits_none getting.Fresh = refl
get_awaits_none (getting.Next fill) = refl
get_awaits_none (getting.Opens peer fill) = refl
get_awaits_none (getting.Greets peer fill) = refl
get_awaits_none (getting.Data peer wanting) = refl
get_awaits_none (getting.Bytes peer start taking) = refl
get_awaits_none (getting.Word peer start taken) = refl
get_awaits_none (getting.Ends why) = refl
get_awaits_none getting.Done = refl

put_awaits_none : (p : PutPhase) → awaits_some (puts.phase_of p) ≡ false
put_awaits_none offers.Fresh = refl
put_awaits_none (offers.Opens peer) = refl
put_awaits_none (offers.Greets peer) = refl
put_awaits_none (offers.Offer peer) = refl
put_awaits_none (offers.Bytes s) = refl
put_awaits_none (offers.Word peer start) = refl
put_awaits_none (offers.Answer peer start) = refl
put_awaits_none (offers.Ends why) = refl
put_awaits_none offers.Done = refl

worker_awaits_none : (v : Worker) (paths : List (List ℕ)) → awaits_some (work_of (record { worker = v; paths = paths })).phase ≡ false
worker_awaits_none (workers.Gets w) paths = get_awaits_none w.phase
worker_awaits_none (workers.Puts w) paths = put_awaits_none w.phase

never_awaits : (w : TransferJob) (phase : models.Phase) → (work_of w).phase ≡ phase → awaits_some phase ≡ true → ⊥
never_awaits w phase e some = clash (sym (worker_awaits_none w.worker w.paths) ∙ (ap awaits_some e ∙ some))
  where
    clash : false ≡ true → ⊥
    clash e = cc

-- ---- where it stands

-- what it has heard is what its work has
worker_heard : (v : Worker) (paths : List (List ℕ)) → (work_of (record { worker = v; paths = paths })).heard ≡ []
worker_heard (workers.Gets w) paths = refl
worker_heard (workers.Puts w) paths = refl

work_heard : (t : Task) → (work_now t).heard ≡ map (λ (k : ℕ × Heard). (k.0, heard_as k.1)) (heard_of t)
work_heard (tasks.Drops j) = refl
work_heard (tasks.Transfers w) = worker_heard w.worker w.paths

abbrev words_there : Option Task → ℕ → Option Word
words_there o = option_map_or words_of_task o (λ c. None)

phase_is_look : (phase : Phase) (peer : ℕ) → phase_as phase ≡ models.AsksLook peer → phase ≡ phases.AsksLook peer
phase_is_look (phases.AsksLook p) peer e = cc
phase_is_look phase peer e = absurd (cc)

look_phase : (t : Task) (peer : ℕ) → (work_now t).phase ≡ models.AsksLook peer → phase_of t ≡ Some (phases.AsksLook peer)
look_phase (tasks.Drops j) peer e = ap (λ (p : Phase). Some p) (phase_is_look j.worker.phase peer e)
look_phase (tasks.Transfers w) peer e = absurd (never_awaits w (models.AsksLook peer) e refl)

phase_is_orders : (phase : Phase) → phase_as phase ≡ models.Orders → phase ≡ phases.Orders
phase_is_orders phases.Orders e = refl
phase_is_orders phase e = absurd (cc)

orders_phase : (t : Task) → (work_now t).phase ≡ models.Orders → phase_of t ≡ Some phases.Orders
orders_phase (tasks.Drops j) e = ap (λ (p : Phase). Some p) (phase_is_orders j.worker.phase e)
orders_phase (tasks.Transfers w) e = absurd (never_awaits w models.Orders e refl)

orders_work : (t : Task) → phase_of t ≡ Some phases.Orders → (work_now t).phase ≡ models.Orders
orders_work (tasks.Drops j) e = ap phase_as (same_Some j.worker.phase phases.Orders e)
orders_work (tasks.Transfers w) e = absurd (some_none phases.Orders (sym e))

-- who is its target
no_target : (side : Side) (peer : Option ℕ) (c : ℕ) → (side ≡ Remote → option_is peer c ≡ false) → is_target side peer c ≡ false
no_target Local peer c other = refl
no_target Remote peer c other = other refl

its_target : (side : Side) (peer : Option ℕ) (c : ℕ) → is_target side peer c ≡ true → (side ≡ Remote) × (peer ≡ Some c)
its_target Local peer c is = absurd (cc)
its_target Remote None c is = absurd (cc)
its_target Remote (Some x) c is = (refl, ap (λ (n : ℕ). Some n) (eqb-true x c is))

-- a look asks another than the target
no_target_asked : (t : Task) (c : ℕ) → (side_of (work_now t) ≡ Remote → option_is (work_now t).what.peer c ≡ false) → is_target_of t c ≡ false
no_target_asked (tasks.Drops j) c other = no_target (side_of (work_now (tasks.Drops j))) j.worker.job.peer c other
no_target_asked (tasks.Transfers w) c other = refl

target_asked : (t : Task) (c : ℕ) → is_target_of t c ≡ true → (side_of (work_now t) ≡ Remote) × ((work_now t).what.peer ≡ Some c)
target_asked (tasks.Drops j) c is = its_target (side_of (work_now (tasks.Drops j))) j.worker.job.peer c is
target_asked (tasks.Transfers w) c is = absurd (cc)

-- ---- an answer that is kept

line_taken : (o : Option Message) (m : Message) → o ≡ Some m → taken_line o ≡ takens.Message m
line_taken o m e = ap taken_line e

said_taken : (body : FrameText) (m : Message) → line_in body ≡ Some m → taken_of body ≡ takens.Message m
said_taken (texts.Line text) m e = line_taken (message_of text) m e
said_taken body m e = absurd (cc)

is_answer : (m : Message) → keeps_word models.Orders (Some m) ≡ true → IsAnswer (takens.Message m)
is_answer Failure kept = tt
is_answer Success kept = tt
is_answer m kept = absurd (cc)

-- ---- the words of all jobs

-- a job that takes an answer whose word is kept isn't as it was
abbrev pub ChangesByAnswers : List Entry → ℕ → Entry → Type 0
ChangesByAnswers past r e = (w v : Work) (f : FrameView) → Member w (works past r) → Member v (works (e ∷ past) r) → v.number ≡ w.number → TakesAnswer w e f → v.phase ≢ w.phase

module _ (past : List Entry) (r : ℕ) (e : Entry) (links : List EndView) (was now : PartsView) (d : Done) (links_are : was.links ≡ links) (kind_is : d.kind ≡ e.kind) (taken_is : d.taken ≡ e.taken)
    (are : works past r ≡ map work_now was.jobs.running) (are' : works (e ∷ past) r ≡ map work_now now.jobs.running) (jobs : AreJobs (works past r)) (jobs' : AreJobs (works (e ∷ past) r)) where
  -- a job that runs before and afterwards
  module _ (w v : Work) (in_was : Member w (works past r)) (in_now : Member v (works (e ∷ past) r)) (number : v.number ≡ w.number) where
    x : JobOf was.jobs.running w
    x = job_of_work was.jobs.running w (subst (Member w) are in_was)

    y : JobOf now.jobs.running v
    y = job_of_work now.jobs.running v (subst (Member v) are' in_now)

    here : job_at now.jobs.running w.number ≡ Some y.job
    here = ap (job_at now.jobs.running) (sym number) ∙ y.here

    is_w : work_now x.job ≡ w
    is_w = is_work was.jobs.running (works past r) w are jobs in_was x

    is_v : work_now y.job ≡ v
    is_v = is_work now.jobs.running (works (e ∷ past) r) v are' jobs' in_now y

    abbrev Goes : Type 0
    Goes = JobsGoOn was now d

    hears : (on : Goes) → on.job ≡ w.number → HearsSo was.links d x.job y.job
    hears on job = on.hears y.job (ap (job_at now.jobs.running) job ∙ here) x.job (ap (job_at was.jobs.running) job ∙ x.here)

    at_links : (f : FrameView) → word_at was.links (end_in f.slot f.peer) ≡ word_at links (end_in f.slot f.peer)
    at_links f = ap (λ (ls : List EndView). word_at ls (end_in f.slot f.peer)) links_are

    module _ (f : FrameView) (takes : TakesAnswer w e f) where
      abbrev Kept : Type 0
      Kept = words_at now.jobs.running w.number f.peer ≡ word_at links (end_in f.slot f.peer)

      now_words : words_of_task y.job f.peer ≡ word_at was.links (end_in f.slot f.peer) → Kept
      now_words same = ap (λ (o : Option Task). words_there o f.peer) here ∙ (same ∙ at_links f)

      -- by where it stood, and what it took
      by_phase : HearsSo was.links d x.job y.job → (phase : models.Phase) → w.phase ≡ phase → (m : Option Message) → line_in f.body ≡ m → awaits_word f.peer w.what.peer phase ≡ true → keeps_word phase m ≡ true → Kept
      by_phase heard (models.AsksLook peer) at (Some Failure) said awaited kept =
          let asked : w.phase ≡ models.AsksLook f.peer = at ∙ ap models.AsksLook (eqb-true peer f.peer awaited) in
          now_words (heard.look f (taken_is ∙ takes.taken) (look_phase x.job f.peer (ap (λ (k : Work). k.phase) is_w ∙ asked)) (said_taken f.body Failure said)
          (no_target_asked x.job f.peer (λ remote. ap (λ (k : Work). option_is k.what.peer f.peer) is_w ∙ jobs.looks w f.peer in_was asked (ap side_of (sym is_w) ∙ remote))))
      by_phase heard models.Orders at (Some m) said awaited kept =
          now_words (heard.answer f (taken_is ∙ takes.taken) (orders_phase x.job (ap (λ (k : Work). k.phase) is_w ∙ at)) (subst IsAnswer (sym (said_taken f.body m said)) (is_answer m kept)))
      by_phase heard phase at m said awaited kept = absurd (cc)

      kept_when : ChangesByAnswers past r e → GoOn was now d → Kept
      kept_when changes (inl same) =
          let still : works (e ∷ past) r ≡ works past r = are' ∙ (ap (λ (k : _). map work_now k.running) same ∙ sym are) in
          absurd (changes w v f in_was in_now number takes (ap (λ (k : Work). k.phase) (jobs.apart v w (subst (Member v) still in_now) in_was number)))
      kept_when changes (inr acts) =
          let on = acts.1 in
          let job : on.job ≡ w.number = same_Some on.job w.number (sym on.made ∙ (ap job_of kind_is ∙ takes.made)) in
          by_phase (hears on job) w.phase refl (line_in f.body) refl takes.awaited takes.kept

    module _ (c : ℕ) where
      abbrev Rest : Type 0
      Rest = HearsOf r w v c ⊎ (words_at now.jobs.running w.number c ≡ words_at was.jobs.running w.number c)

      same_words : words_of_task y.job c ≡ words_of_task x.job c → Rest
      same_words same = inr (ap (λ (o : Option Task). words_there o c) here ∙ (same ∙ sym (ap (λ (o : Option Task). words_there o c) x.here)))

      heard_more : HearsMore x.job y.job c → Rest
      heard_more z = inl (inl (
        heard_as z.0,
        ap (λ (k : Work). k.heard) (sym is_v) ∙ (work_heard y.job ∙ (ap (map (λ (k : ℕ × Heard). (k.0, heard_as k.1))) z.1 ∙ (λ i. (c, heard_as z.0) ∷ (sym (work_heard x.job) ∙ ap (λ (k : Work). k.heard) is_w) i))),
      ))

      awaited : AwaitsAnswerOf x.job c → Rest
      awaited z =
          let its = target_asked x.job c z.1 in
          let phase : w.phase ≡ models.Orders = ap (λ (k : Work). k.phase) (sym is_w) ∙ orders_work x.job z.0 in
          inl (inr (
            ap is_ordered phase,
            sym (ap (λ (k : Work). or_own r (side_of k) k.what.peer) (sym is_w) ∙ (λ i. or_own r (its.0 i) (its.1 i))),
          ))

      by_rest : HearsMore x.job y.job c ⊎ (AwaitsAnswerOf x.job c ⊎ (words_of_task y.job c ≡ words_of_task x.job c)) → Rest
      by_rest (inl more) = heard_more more
      by_rest (inr (inl ordered)) = awaited ordered
      by_rest (inr (inr same)) = same_words same

      rest_when : GoOn was now d → Rest
      rest_when (inl same) = inr (ap (λ (k : _). words_at k.running w.number c) same)
      rest_when (inr acts) = by_job (w.number == acts.1.job) refl
        where
          by_job : (b : Bool) → (w.number == acts.1.job) ≡ b → Rest
          by_job false other = inr (ap (λ (o : Option Task). words_there o c) (acts.1.apart w.number (λ (i : w.number ≡ acts.1.job). eqb-false w.number acts.1.job other i)))
          by_job true own = by_rest ((hears acts.1 (sym (eqb-true w.number acts.1.job own))).rest c)

  pub words_go : ChangesByAnswers past r e → GoOn was now d → WordsGoOn links past r e (words_at was.jobs.running) (words_at now.jobs.running)
  words_go changes goes = record {
    kept = λ w v f in_was in_now number takes. kept_when w v in_was in_now number f takes changes goes;
    rest = λ w v c in_was in_now number. rest_when w v in_was in_now number c goes;
  }
