-- What the beginning of a job leaves as it was.
use Rattle.std.proofs.Common.{◌≡◌, ℕ, ◌<◌, List, [], ◌∷◌, ◌++◌, Option, Some, None, refl, ap, ◌∙◌}
use Rattle.std.specs.Prelude.{length, map}
use Rattle.std.specs.Option.{option_or}
use Rattle.annex_base.specs.Lists.{Each}
use Rattle.run_data.specs.declared.entry.Entry.{Entry}
use Rattle.run_data.specs.declared.entry.EntryKind.{EntryKind}
use Rattle.run_data.specs.declared.job.Job.{Job}
use Rattle.run_data.specs.declared.run.Run.{Run}
use Rattle.run_data.specs.Repos.{IsSetUp}
use Rattle.node_model.specs.Clocks.{runs_on, wall}
use Rattle.node_model.specs.Jobs.{Work, running_job}
use Rattle.node_model.specs.OwedLines.{OwedLine, owed_after}
use Rattle.node_model.specs.OwedStep.{owed_step, pays_first}
use Rattle.node_model.specs.Look.{Look}
use Rattle.node_model.specs.Rows.{bar_after, present_after, holds_after}
use Rattle.node_model.specs.SetUp.{SetUp}
use Rattle.run_model.specs.Logs.{added_by, lines_ever, lines_of_file, settings_of}
use Rattle.run_model.specs.Past.{bar, clock, clock_set, holds, present, set_after}
use Rattle.run_model.specs.Run.{RunPast, set_up}
use Rattle.run_model.specs.States.{owes, state_of, works}
use Rattle.trust_groups.specs.Settings.{settings}
use Rattle.step_facts.proofs.Below.{SentAreRead}
use Rattle.step_facts.proofs.JobKept.{jobs_are}
use Rattle.alone_drops.proofs.Since.{Beginning}

module _ (reads_back : SentAreRead) (run : Run) (repos : Each IsSetUp run.repos) (past : List Entry) (b : Entry) (a j : ℕ) (what : Job) (z : Beginning run past b a j what) (h0 : RunPast (set_up run) (b ∷ past)) where
  abbrev base : List Entry
  base = b ∷ past

  abbrev s : SetUp
  s = set_up run a

  -- ---- what the beginning leaves as it was

  pub base_present : (key : List ℕ) → present base a key ≡ present past a key
  base_present key = rw z.by_a (ap (present_after key (present past a key)) z.kind_is)

  pub base_bar : (key : List ℕ) → bar base a key ≡ bar past a key
  base_bar key = rw z.by_a (ap (bar_after key (bar past a key)) z.kind_is)

  pub base_holds : holds base a ≡ holds past a
  base_holds = rw z.by_a (ap (holds_after (holds past a)) z.kind_is)

  base_set : clock_set run.repos base a ≡ clock_set run.repos past a
  base_set = rw z.by_a (ap (set_after b.time (clock_set run.repos past a)) z.kind_is)

  pub base_clock : clock run.repos base a ≡ clock run.repos past a
  base_clock = ap runs_on base_set

  base_lines : (path : List ℕ) → lines_ever base a path ≡ lines_ever past a path
  base_lines path = rw z.by_a (ap (λ (k : EntryKind). added_by path k b.lines ++ lines_ever past a path) z.kind_is)

  pub base_settings : settings_of base a ≡ settings_of past a
  base_settings = ap settings (λ i. λ path. base_lines path i)

  -- ---- nothing is owed

  owed_none : (os : List OwedLine) (k : Look) → pays_first s (state_of s past) k os ≡ None → os ≡ []
  owed_none [] k e = refl
  owed_none (o ∷ os) k e = absurd (cc)

  past_owes : (a < length run.repos) → owes run.repos past a ≡ []
  past_owes known = let r = z.rest a known in owed_none (owes run.repos past a) r.0 (none (owed_step s (state_of s past) r.0) _ r.2)
    where
      none : {X : Type 0} (x y : Option X) → option_or x y ≡ None → x ≡ None
      none None y e = refl
      none (Some x) y e = absurd (cc)

  pub base_owes : (a < length run.repos) → owes run.repos base a ≡ []
  base_owes known = rw z.by_a (ap (λ (k : EntryKind). owed_after run.repos (lines_of_file past a) (wall run.repos a b.time) (works past a) a (owes run.repos past a) b k) z.kind_is ∙ past_owes known)

  -- ---- no job runs before

  pub no_works : works past a ≡ []
  no_works = go (works past a) (jobs_are past a ∙ z.idle a)
    where
      go : (ws : List Work) → map running_job ws ≡ [] → ws ≡ []
      go [] e = refl
      go (w ∷ ws) e = absurd (cc)
