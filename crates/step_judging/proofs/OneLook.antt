-- If an entry is a step for any look, it is the step for the one that it tells of.
use Rattle.std.proofs.Common.{◌≡◌, ℕ, ◌<◌, ◌^◌, Bool, true, false, List, [], ◌∷◌, Option, Some, None, refl, ap, subst, ◌∙◌, arith}
use Rattle.std.specs.Prelude.{if◌then◌else◌, nat_lt}
use Rattle.std.specs.List.{list_any}
use Rattle.std.specs.Option.{option_or, option_map}
use Rattle.std.proofs.lemmas.Bool.{ltb-true}
use Rattle.annex_base.specs.declared.kinds.Call.{Call}
use Rattle.annex_base.specs.declared.kinds.Call.TheVariants.{PutFile}
use Rattle.annex_base.specs.declared.kinds.Word.{Word}
use Rattle.annex_base.specs.Calls.{same_call}
use Rattle.run_data.specs.declared.entry.EntryKind.{EntryKind}
use Rattle.run_data.specs.declared.entry.EntryKind.TheVariants.{Fault, Log}
use Rattle.run_data.specs.declared.entry.LogFile.TheVariants.{Location}
use Rattle.p2p_wire.specs.Messages.{rest_in}
use Rattle.node_model.specs.Look.{Look, Effect, as_told, failing_call, unless}
use Rattle.node_model.specs.OwedLines.{OwedLine, due}
use Rattle.node_model.specs.OwedStep.{pays_first}
use Rattle.node_model.specs.SessionStep.{session_step}
use Rattle.node_model.specs.SetUp.{SetUp}
use Rattle.node_model.specs.State.{State}
use Rattle.node_model.specs.Step.{step}
use Rattle.node_model.specs.Turns.{job_step}
use Rattle.run_laws.specs.Sound.{HasOneSlotEach}
use Rattle.step_judging.specs.Telling.{is_end, number_behind, part_told, small_part}
use Rattle.step_judging.proofs.SessionAgain.{look_told, session_again, session_passed, first_seen}
use Rattle.step_judging.proofs.JobAgain.{job_again, job_by_one}

fails_again : (o : Option Call) (cs : List Call) (c : Call) → failing_call o cs ≡ Some c → failing_call (Some c) cs ≡ Some c
fails_again None cs c e = absurd (cc)
fails_again (Some b) cs c e = go (list_any (same_call b) cs) refl e
  where
    go : (t : Bool) → list_any (same_call b) cs ≡ t → (if t then Some b else None) ≡ Some c → failing_call (Some c) cs ≡ Some c
    go true is g = let same : b ≡ c = cc in subst (λ (x : Call). failing_call (Some x) cs ≡ Some x) same (rw is refl)
    go false is g = absurd (cc)

pays_again : (s : SetUp) (st : State) (k : Look) (words : ℕ → Option Word) (o : OwedLine) (os : List OwedLine) (m : Effect) → pays_first s st k (o ∷ os) ≡ Some m
    → pays_first s st (look_told st.works words k m) (o ∷ os) ≡ Some m
pays_again s st k words o os m e = go (failing_call k.fails (PutFile ∷ [])) refl e
  where
    lost : Call → Effect
    lost call = record { kind = Fault call o.by; taken = None; sent = []; lines = []; calls = PutFile ∷ [] }

    written : Effect
    written = record { kind = Log (Location o.key); taken = None; sent = []; lines = due s.repos st.lines (st.wall k.time) o; calls = PutFile ∷ [] }

    go : (c : Option Call) → failing_call k.fails (PutFile ∷ []) ≡ c → Some (unless c lost written) ≡ Some m → pays_first s st (look_told st.works words k m) (o ∷ os) ≡ Some m
    go None is g =
        let same : written ≡ m = cc in
        subst (λ (n : Effect). pays_first s st (look_told st.works words k n) (o ∷ os) ≡ Some n) same refl
    go (Some c) is g =
        let same : lost c ≡ m = cc in
        subst (λ (n : Effect). pays_first s st (look_told st.works words k n) (o ∷ os) ≡ Some n) same
        (ap (λ (f : Option Call). Some (unless f lost written)) (fails_again k.fails (PutFile ∷ []) c is))

module _ (s : SetUp) (st : State) (k : Look) (words : ℕ → Option Word) (m : Effect) (small : k.part < 2 ^ 62) (same : is_end m.kind ≡ true → words ≡ k.words) (slots : HasOneSlotEach st) where
  abbrev k' : Look
  k' = look_told st.works words k m

  others_again : (o : Option Effect) → session_step s st k ≡ o → option_or o (job_step s st k) ≡ Some m → option_map as_told (option_or (session_step s st k') (job_step s st k')) ≡ Some (as_told m)
  others_again (Some n) is e =
      let made : n ≡ m = cc in
      first_seen (session_step s st k') (job_step s st k') (as_told m) (session_again s st k words small m same (is ∙ ap (λ (x : Effect). Some x) made))
  others_again None is e =
      let by = (job_by_one s st k words small m same e).2 in
      let passed = session_passed s st k words small m (job_by_one s st k words small m same e).0.number by in
      ap (λ (x : Option Effect). option_map as_told (option_or x (job_step s st k'))) passed ∙ job_again s st k words small m same slots e

  owed_again : (os : List OwedLine) → option_or (pays_first s st k os) (option_or (session_step s st k) (job_step s st k)) ≡ Some m
      → option_map as_told (option_or (pays_first s st k' os) (option_or (session_step s st k') (job_step s st k'))) ≡ Some (as_told m)
  owed_again [] e = others_again (session_step s st k) refl e
  owed_again (o ∷ os) e = let paid : pays_first s st k (o ∷ os) ≡ Some m = e in ap (λ (x : Option Effect). option_map as_told (option_or x (option_or (session_step s st k') (job_step s st k')))) (pays_again s st k words o os m paid)

  pub step_again : step s st k ≡ Some m → option_map as_told (step s st k') ≡ Some (as_told m)
  step_again e = owed_again st.owed e

-- the part that is told is a part
small_told : (n : ℕ) → small_part n < 2 ^ 62
small_told n = go (nat_lt n (2 ^ 62)) refl
  where
    go : (b : Bool) → nat_lt n (2 ^ 62) ≡ b → (if b then n else 1) < 2 ^ 62
    go true is = ltb-true n (2 ^ 62) is
    go false is = omega arith

pub part_small : (kind : EntryKind) (line : List ℕ) → part_told kind line < 2 ^ 62
part_small (Fault call by) line = omega arith
part_small kind line = small_told (number_behind (rest_in line))
