-- A step reads of a set-up's paths only those of the running jobs.
use Rattle.std.proofs.Common.{◌≡◌, ℕ, ◌+◌, List, Option, Some, None, refl, ap, ◌∙◌}
use Rattle.std.specs.Prelude.{◌&&◌, ◌||◌, ◌==◌, find, length, nat_lt}
use Rattle.std.specs.Option.{option_or}
use Rattle.annex_base.specs.Lists.{Member}
use Rattle.annex_base.specs.OptionSteps.{first_some}
use Rattle.annex_base.specs.declared.kinds.Word.{Word}
use Rattle.annex_base.proofs.Lists.{find_member}
use Rattle.run_data.specs.declared.entry.Entry.{Entry}
use Rattle.run_data.specs.Repos.{id_of}
use Rattle.node_model.specs.Jobs.{Work, partner, target_of}
use Rattle.node_model.specs.JobStep.{Turn, turn_of}
use Rattle.node_model.specs.Knows.{Reading, need_by, standing_of}
use Rattle.node_model.specs.Look.{Effect, Look}
use Rattle.node_model.specs.OwedStep.{owed_step}
use Rattle.node_model.specs.SessionStep.{is_filled, session_step}
use Rattle.node_model.specs.SetUp.{SetUp, slots}
use Rattle.node_model.specs.State.{State}
use Rattle.node_model.specs.Step.{step}
use Rattle.node_model.specs.Turns.{by_partner, job_step, slot_step}
use Rattle.wanted_expr.specs.Wanted.{required}
use Rattle.step_judging.specs.Rules.{comes, effect_of, is_effect, is_own, is_step}
use Rattle.step_judging.specs.Telling.{look_of}

-- the set-up with other paths
abbrev pub with_paths : SetUp → (ℕ → List (List ℕ)) → SetUp
with_paths s p = record { number = s.number; repos = s.repos; paths = p }

-- these are the paths that the set-up has for the running jobs
abbrev pub HavePaths : SetUp → List Work → (ℕ → List (List ℕ)) → Type 0
HavePaths s works p = (w : Work) → Member w works → s.paths w.number ≡ p w.number

-- what a job reads, with these paths of its key
abbrev reading_with : SetUp → State → Work → List (List ℕ) → Reading
reading_with s st w paths = record {
  repo = s.number;
  count = length s.repos;
  clock = st.clock;
  need = need_by (st.read w.number) paths;
  standing = standing_of s st w;
  requires = required (st.read w.number) (id_of s.repos (target_of s.number w)) w.what.key paths;
}

abbrev turn_with : SetUp → State → Look → Work → List (List ℕ) → Turn
turn_with s st k w paths = record {
  read = reading_with s st w paths;
  clock = st.clock;
  number = st.made + 1;
  present = st.present;
  bar = st.bar;
  content = st.content;
  holds = st.holds;
  filled = is_filled s st;
  ends = st.ends;
  look = k;
  w = w;
}

standing_same : (s : SetUp) (p : ℕ → List (List ℕ)) (st : State) (w : Work) → standing_of s st w ≡ standing_of (with_paths s p) st w
unfolding standing_of
standing_same s p st w = refl

module _ (s : SetUp) (p : ℕ → List (List ℕ)) (st : State) (have : HavePaths s st.works p) where
  turn_same : (k : Look) (w : Work) → Member w st.works → turn_of s st k w ≡ turn_of (with_paths s p) st k w
  turn_same k w among =
      ap (turn_with s st k w) (have w among)
      ∙ ap (λ standing. record (turn_with s st k w (p w.number)) { read = record (reading_with s st w (p w.number)) { standing = standing } }) (standing_same s p st w)

  slot_same : (k : Look) (slot : ℕ) → slot_step s st k (find (λ w. w.slot == slot) st.works) ≡ slot_step (with_paths s p) st k (find (λ w. w.slot == slot) st.works)
  slot_same k slot = go (find (λ w. w.slot == slot) st.works) refl
    where
      go : (o : Option Work) → find (λ w. w.slot == slot) st.works ≡ o → slot_step s st k o ≡ slot_step (with_paths s p) st k o
      go None is = refl
      go (Some w) is = ap (λ (t : Turn). by_partner t (partner w.what.peer w.phase)) (turn_same k w (find_member (λ v. v.slot == slot) st.works w is).0)

  job_same : (k : Look) → job_step s st k ≡ job_step (with_paths s p) st k
  job_same k = λ i. first_some (λ slot. slot_same k slot i) slots

  pub step_same : (k : Look) → step s st k ≡ step (with_paths s p) st k
  step_same k = ap (λ (o : Option Effect). option_or (owed_step s st k) (option_or (session_step s st k) o)) (job_same k)

  pub own_same : (words : ℕ → Option Word) (e : Entry) → is_own s st words e ≡ is_own (with_paths s p) st words e
  own_same words e =
      ap (λ (o : Option Effect). nat_lt s.number (length s.repos) && (is_effect o (effect_of e) || comes s st e)) (step_same (look_of st words e))

  pub is_step_same : (words : ℕ → Option Word) (e : Entry) → is_step s st words e ≡ is_step (with_paths s p) st words e
  is_step_same words e = ap (λ (o : Option Effect). is_effect o (effect_of e)) (step_same (look_of st words e))
