-- What a turn of the driver makes is a step for some choice: its look has the part that the step asks for, and a failing call was to fail.
use Rattle.std.proofs.Common.{◌≡◌, ℕ, ◌<◌, Bool, true, false, List, [], ◌∷◌, Option, Some, None, refl, sym, ap, ◌∙◌, subst}
use Rattle.std.specs.Prelude.{if◌then◌else◌, length}
use Rattle.std.specs.List.{list_any}
use Rattle.std.specs.Option.{option_or}
use Rattle.annex_base.specs.Calls.{same_call}
use Rattle.annex_base.specs.declared.kinds.Call.{Call}
use Rattle.annex_base.specs.declared.kinds.Word.{Word}
use Rattle.annex_base.proofs.Lists.{find_member}
use Rattle.run_data.specs.declared.entry.By.{By}
use Rattle.run_data.specs.declared.entry.Entry.{Entry}
use Rattle.run_data.specs.declared.entry.EntryKind.TheVariants.{Fault}
use Rattle.run_model.specs.Run.{FramesPart, IsStep}
use Rattle.node_model.specs.Look.{Look, Effect, entry_of, failed_in, failing_call}
use Rattle.node_model.specs.OwedLines.{OwedLine}
use Rattle.node_model.specs.SessionStep.{session_step}
use Rattle.node_model.specs.SetUp.{SetUp}
use Rattle.node_model.specs.State.{State}
use Rattle.node_model.specs.Step.{step}
use Rattle.node_model.specs.Turns.{job_step}
use Rattle.driver_model.specs.Driver.{Driver, DriverInput, FailLine, Flight, fails_at, set_up_of, state_at}
use Rattle.driver_model.specs.Scripts.{HasBoundedPast}
use Rattle.driver_model.specs.Sound.{IsSound}
use Rattle.driver_model.specs.Turning.{asked_key, calm_look, look_for, made_calls, part_right, part_size, plain_look}
use Rattle.driver_model.proofs.Alike.{other_ready}
use Rattle.driver_model.proofs.EndsAlike.{ends_alike}
use Rattle.driver_model.proofs.Holding.{NewEntry}
use Rattle.driver_model.proofs.InFlight.{may_be_taken}
use Rattle.driver_model.proofs.Premises.{Laws, NamedJobs}
use Rattle.driver_model.proofs.Turned.{new_entry, words_told}
use Rattle.driver_model.proofs.TurnsFound.{rest_alike, step_of}
use Rattle.block_model.specs.Following.{IsChosenStep}
use Rattle.block_model.proofs.EntryStands.{part_small}
use Rattle.block_model.proofs.Twins.{right_twin, size_twin, twin}

-- both ask for the part of the same key
abbrev SameAsked : State → Effect → Effect → Type 0
SameAsked st m m' = asked_key st m ≡ asked_key st m'

-- where no line is owed, looks that differ in the failing call, the part and the words alone find steps that ask for the same part
asked_same : NamedJobs → (s : SetUp) (st : State) (k : Look) (fails : Option Call) (part : ℕ) (right : Bool) (words : ℕ → Option Word) (m m' : Effect) → st.owed ≡ []
    → step s st k ≡ Some m → step s st (record k { fails = fails; part = part; right = right; words = words }) ≡ Some m' → asked_key st m ≡ asked_key st m'
asked_same names s st k fails part right words m m' none e e' = ready.2 ∙ ap (asked_key st) same
  where
    k' : Look
    k' = record k { fails = fails; part = part; right = right; words = words }

    by : (l : Look) → step s st l ≡ option_or (session_step s st l) (job_step s st l)
    by l = ap (λ (os : List OwedLine). step_of s st os l) none

    ready : (m0 : Effect) × (option_or (session_step s st (record k { fails = fails; part = part; right = right; words = words })) (job_step s st (record k { fails = fails; part = part; right = right; words = words })) ≡ Some m0) × SameAsked st m m0
    ready = other_ready (SameAsked st) (option_or (session_step s st k) (job_step s st k)) (option_or (session_step s st k') (job_step s st k')) m (sym (by k) ∙ e)
        (rest_alike names s st k fails part right words)

    same : ready.0 ≡ m'
    same = let both : Some ready.0 ≡ Some m' = sym ready.1 ∙ sym (by k') ∙ e' in cc

module _ (laws : Laws) (g : DriverInput) (r : ℕ) (known : r < length g.repos) (c : Driver) (m m' : Effect)
    (plain : step (set_up_of g c r) (state_at g c r) (plain_look (set_up_of g c r) c) ≡ Some m)
    (e : step (set_up_of g c r) (state_at g c r) (look_for g c r (set_up_of g c r) (state_at g c r) m) ≡ Some m') where
  abbrev s : SetUp
  s = set_up_of g c r

  abbrev st : State
  st = state_at g c r

  abbrev k : Look
  k = look_for g c r s st m

  -- the entry of the turn
  abbrev pub made_entry : Entry
  made_entry = entry_of r k m'

  -- its look with the part of this key
  abbrev with_part : Option (List ℕ) → Look
  with_part key = record k { part = part_size c r key; right = part_right g c r key }

  steps_so : step s st (with_part (asked_key st m')) ≡ Some m'
  steps_so = go st.owed refl
    where
      go : (os : List OwedLine) → st.owed ≡ os → step s st (with_part (asked_key st m')) ≡ Some m'
      go [] i =
          let same = asked_same laws.names s st (plain_look s c) k.fails k.part k.right k.words m m' i plain e in
          ap (λ (key : Option (List ℕ)). step s st (with_part key)) (sym same) ∙ e
      go (o ∷ os) i =
          ap (λ (ls : List OwedLine). step_of s st ls (with_part (asked_key st m'))) i
          ∙ sym (ap (λ (ls : List OwedLine). step_of s st ls k) i) ∙ e

  module _ (h : IsSound g c) (fits : HasBoundedPast c) where
    pub is_new : NewEntry g c r made_entry
    is_new = new_entry laws (ends_alike laws.names) g r known c m m' plain e h fits

    frames : FramesPart c.past r k.words made_entry
    frames = record {
      takes = λ f i. may_be_taken laws.entries s c.past is_new.words made_entry is_new.own is_new.repo_is c.flights is_new.first f i
          (h.flies f.peer (record { peer = r; slot = f.slot; client = f.up }) f.epoch) (h.order f.peer (record { peer = r; slot = f.slot; client = f.up }) f.epoch);
      tells = words_told laws (ends_alike laws.names) g r known c m m' plain e;
    }

    pub is_chosen : (ys : List Flight) (zs : List FailLine) → IsChosenStep g (twin c ys zs) r made_entry
    is_chosen ys zs = record {
      look = with_part (asked_key st m');
      made = m';
      makes = steps_so;
      is = refl;
      part_is = sym (size_twin c ys zs r (asked_key st m'));
      right_is = sym (right_twin c ys zs g r (asked_key st m'));
      frames = frames;
    }

    pub is_step : IsStep s c.past k.words made_entry
    is_step = record { look = k; made = m'; makes = e; is = refl; words_are = refl; part_small = part_small g c r (asked_key st m) h fits }

  -- a fault answers a line that waits
  pub fault_waits : (call : Call) (by : By) → m'.kind ≡ Fault call by → fails_at c r call ≡ true
  fault_waits call by is = go k.fails refl (sym (laws.names.calls.fails s st k m' e) ∙ ap failed_in is)
    where
      same : (a : Call) (b : Bool) → (if b then Some a else None) ≡ Some call → a ≡ call
      same a true i = cc
      same a false i = absurd (cc)

      go : (o : Option Call) → k.fails ≡ o → failing_call o m'.calls ≡ Some call → fails_at c r call ≡ true
      go None i j = absurd (cc)
      go (Some a) i j = subst (λ a. fails_at c r a ≡ true) (same a (list_any (same_call a) m'.calls) j) (find_member (fails_at c r) (made_calls (step s st (calm_look g c r s st m))) a i).1
