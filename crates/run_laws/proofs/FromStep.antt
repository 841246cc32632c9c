-- Runs by steps are runs with messages, and so safe: each entry that is its repository's own part has the facts that runs with
-- messages need.
use Rattle.std.proofs.Common.{◌≡◌, ℕ, true, List, [], ◌∷◌, Option, Some, None, subst}
use Rattle.std.specs.Prelude.{reverse}
use Rattle.annex_base.specs.Lists.{Each}
use Rattle.annex_base.proofs.Conditions.{eqb_refl}
use Rattle.step_facts.proofs.Below.{SentAreRead}
use Rattle.run_data.specs.declared.entry.By.{By}
use Rattle.run_data.specs.declared.entry.Entry.{Entry}
use Rattle.run_data.specs.declared.entry.EntryKind.{EntryKind}
use Rattle.run_data.specs.declared.entry.EntryKind.TheVariants.{Gone}
use Rattle.run_data.specs.declared.run.Run.{Run}
use Rattle.run_data.specs.Repos.{IsSetUp}
use Rattle.run_model.specs.Past.{Always, now}
use Rattle.node_model.specs.Rows.{option_is}
use Rattle.run_model.specs.Safety.{IsSafe}
use Rattle.step_facts.proofs.BySteps.{ByStep}
use Rattle.run_laws.proofs.Decisions.{bar_stands, order_stands_on}
use Rattle.past_facts.proofs.ReadOnce.{StatesRead}
use Rattle.run_model.specs.Run.{job_paths, IsRun, RunPast, RunStep, TimeIs, set_up}
use Rattle.past_facts.specs.Lawful.{IsLawful}
use Rattle.past_facts.proofs.Own.{IsMessageRun, Meets, MessagePast, Own}
use Rattle.past_facts.proofs.MessageRuns.{message_lawful, message_safe}
use Rattle.run_laws.proofs.FoundOwn.{known_step, look_step, no_script_step, obeys_step, share_step, shares_with_step}
use Rattle.run_laws.proofs.SessionOwn.{answered_step, release_step}
use Rattle.run_laws.proofs.SendsOwn.{one_answer_step, one_request_step, sends_step}
use Rattle.run_laws.proofs.ConnectionOwn.{one_job_step, sent_to_step, taken_from_step}
use Rattle.run_laws.proofs.PhaseOwn.{awaits_step, bar_put_step, ends_step}
use Rattle.run_laws.proofs.DropOwn.{orders_step, removes_step}
use Rattle.past_facts.proofs.OwnRuns.{in_order, part_of, bounded, own_past}

-- an entry that is its repository's own part, after the repository's own entries, has the facts that runs with messages need
abbrev pub StepIsOwn : Type 0
StepIsOwn = ByStep (λ s past e. Own s.repos s.number past e)

pub step_is_own : SentAreRead → StepIsOwn
step_is_own reads_back s past words e h b is part = record {
  known = known_step s past words e h b is part;
  taken_from = taken_from_step reads_back s past words e h b is part;
  sent_to = sent_to_step reads_back s past words e h b is part;
  sends = sends_step reads_back s past words e h b is part;
  one_request = one_request_step s past words e h b is part;
  one_answer = one_answer_step s past words e h b is part;
  answered = answered_step reads_back s past words e h b is part;
  awaits = awaits_step reads_back s past words e h b is part;
  one_job = one_job_step reads_back s past words e h b is part;
  share = share_step s past words e h b is part;
  shares_with = shares_with_step s past words e h b is part;
  look = look_step s past words e h b is part;
  release = release_step s past words e h b is part;
  bar_put = bar_put_step reads_back s past words e h b is part;
  removes = removes_step reads_back s past words e h b is part;
  obeys = obeys_step s past words e h b is part;
  no_script = no_script_step s past words e h b is part;
  orders = orders_step reads_back s past words e h b is part;
  ends = ends_step reads_back s past words e h b is part;
}

-- only a wait has no repository
somebody : (before : ℕ) (e : Entry) (by : By) (key : List ℕ) (repo : Option ℕ) → TimeIs before e (Gone by key) repo → (r : ℕ) × (option_is repo r ≡ true)
somebody before e by key (Some r) h = (r, eqb_refl r)
somebody before e by key None h = elim h [ ]

-- ---- runs

module _ (reads_back : SentAreRead) (run : Run) (repos : Each IsSetUp run.repos) where
  pub meets : (past : List Entry) (e : Entry) → RunPast (set_up run) past → RunStep (set_up run) past e → Meets run.repos past e
  meets past e h x = record {
    order = in_order (now past) e e.kind e.repo x.order.time_is;
    somebody = λ by key kind. somebody (now past) e by key e.repo (subst (λ (k : EntryKind). TimeIs (now past) e k e.repo) kind x.order.time_is);
    own = λ r is. let p = part_of (set_up run) past e r x is in step_is_own reads_back (set_up run r) past p.words e (own_past run repos r past h) (bounded past e x.order) is p.own;
    frames = λ r f is takes. (part_of (set_up run) past e r x is).frames.takes f takes;
  }

  pub message_past : (past : List Entry) → RunPast (set_up run) past → MessagePast run.repos past
  message_past [] h = tt
  message_past (e ∷ past) h = (meets past e h.1 h.0, message_past past h.1)

  -- what the bars and the orders of a run state
  states : (past : List Entry) (e : Entry) → RunPast (set_up run) past → RunStep (set_up run) past e → StatesRead run.repos (job_paths run) past e
  states past e h x = record {
    bars = λ r j need key is kind. let p = part_of (set_up run) past e r x is in
        let b = bar_stands reads_back (set_up run r) past p.words e (own_past run repos r past h) p.own j need key kind in (b.need_is, b.spared);
    orders = λ r j target deadline need key is kind. let p = part_of (set_up run) past e r x is in
        let o = order_stands_on reads_back (set_up run r) past p.words e (own_past run repos r past h) p.own j target deadline need key kind in (o.need_is, o.spared);
  }

  pub stated_past : (past : List Entry) → RunPast (set_up run) past → Always (StatesRead run.repos (job_paths run)) past
  stated_past [] h = tt
  stated_past (e ∷ past) h = (states past e h.1 h.0, stated_past past h.1)

-- a run by steps is a run with messages
pub runs_are_messages : SentAreRead → (run : Run) → IsRun run → IsMessageRun run
runs_are_messages reads_back run h = record { steps = message_past reads_back run h.repos (reverse run.entries) h.steps }

-- and so it is lawful, and safe
pub runs_are_lawful : SentAreRead → (run : Run) → IsRun run → IsLawful run
runs_are_lawful reads_back run h = message_lawful run (runs_are_messages reads_back run h)

pub runs_are_safe : SentAreRead → (run : Run) → IsRun run → IsSafe run
runs_are_safe reads_back run h = message_safe run (runs_are_messages reads_back run h)
