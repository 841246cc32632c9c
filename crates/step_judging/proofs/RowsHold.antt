-- A step finds the row that its entry needs.
use Rattle.std.proofs.Common.{◌≡◌, ◌⊎◌, inl, inr, ℕ, ◌<◌, ◌^◌, Bool, true, false, List, [], ◌∷◌, Option, Some, None, refl, sym, ap, subst, ◌∙◌}
use Rattle.std.specs.Prelude.{◌&&◌, ◌==◌, filter, if◌then◌else◌, is_none, not}
use Rattle.std.specs.List.{list_any}
use Rattle.std.specs.Option.{option_or}
use Rattle.std.proofs.lemmas.Bool.{and_from, true≢false}
use Rattle.annex_base.specs.declared.kinds.Call.{Call}
use Rattle.annex_base.specs.declared.kinds.Call.TheVariants as calls
use Rattle.annex_base.proofs.Conditions.{and_first, and_second, eqb_refl}
use Rattle.annex_base.proofs.Lists.{find_member, list_any_weaker}
use Rattle.run_data.specs.declared.entry.By.{By}
use Rattle.run_data.specs.declared.entry.By.TheVariants.{Script, Job as by_job, Peer}
use Rattle.run_data.specs.declared.entry.EntryKind.{EntryKind}
use Rattle.run_data.specs.declared.entry.EntryKind.TheVariants as kinds
use Rattle.run_data.specs.declared.entry.LogFile.TheVariants.{Location}
use Rattle.run_data.specs.declared.entry.FrameView.{FrameView}
use Rattle.run_data.specs.declared.row.Hold.{Hold}
use Rattle.p2p_wire.specs.declared.message.Message.{Message}
use Rattle.p2p_wire.specs.Messages.{order_of}
use Rattle.node_model.specs.AnyTime.{MayCome, is_scripts}
use Rattle.node_model.specs.DropStep.{until}
use Rattle.node_model.specs.Ends.{server_end}
use Rattle.node_model.specs.Found.{StepFound, ByJob, ByOwed, BySession, IsBeforeDeadline, IsJobEntry, IsSessionEntry}
use Rattle.node_model.specs.Jobs.{Work, taken_message}
use Rattle.node_model.specs.JobStep.{turn_of}
use Rattle.node_model.specs.Look.{Look, Effect, failing_call, unless}
use Rattle.node_model.specs.OwedLines.{OwedLine, due}
use Rattle.node_model.specs.OwedStep.{pays_first}
use Rattle.node_model.specs.Rows.{blocks, is_blocked, option_is}
use Rattle.node_model.specs.Sessions.{Doing, Guards}
use Rattle.node_model.specs.SessionStep.{here, session_step}
use Rattle.node_model.specs.SetUp.{SetUp}
use Rattle.node_model.specs.State.{State}
use Rattle.node_model.specs.Step.{step}
use Rattle.node_model.specs.Turns.{job_step}
use Rattle.step_judging.specs.Rules.{is_free, is_in_time, needs_row}
use Rattle.run_laws.specs.Sound.{IsSound, is_open_for, is_open_hold}
use Rattle.step_judging.specs.Telling.{failed_call}
use Rattle.step_judging.proofs.JobAgain.{job_unheld}
use Rattle.step_judging.proofs.SessionAgain.{session_unheld}
use Rattle.step_judging.proofs.SessionKeeps.{is_guarding}

-- ---- parts of a row

free_is : (st : State) (key : List ℕ) → st.present key ≡ true → st.bar key ≡ None → is_free st key ≡ true
free_is st key there free = and_from (st.present key) (is_none (st.bar key)) there (rw free refl)

-- no hold blocks where none is told of
unheld_is : (hs : List Hold) (key : List ℕ) (clock : ℕ) → until (filter (blocks key clock) hs) ≡ None → is_blocked hs key clock ≡ false
unheld_is [] key clock e = refl
unheld_is (h ∷ hs) key clock e = go (λ f. unheld_is hs key clock f) (blocks key clock h) refl e
  where
    go : (until (filter (blocks key clock) hs) ≡ None → is_blocked hs key clock ≡ false) → (b : Bool) → blocks key clock h ≡ b → until (if b then h ∷ filter (blocks key clock) hs else filter (blocks key clock) hs) ≡ None → is_blocked (h ∷ hs) key clock ≡ false
    go more true is f = absurd (cc)
    go more false is f = rw is (more f)

in_time_is : (clock : ℕ) (deadline : Option ℕ) (key : List ℕ) → IsBeforeDeadline clock deadline → is_in_time clock (Some (order_of deadline key)) ≡ true
in_time_is clock None key h = refl
in_time_is clock (Some n) key h = h

and_three : (a b c : Bool) → a ≡ true → b ≡ true → c ≡ true → (a && b && c) ≡ true
and_three a b c p q r = and_from (a && b) c (and_from a b p q) r

-- ---- by who made it

-- a fault other than of a hold's release needs nothing
fault_needs : (st : State) (clock : ℕ) (told : Option Message) (call : Call) (by : By) → (call ≡ calls.Unhold → list_any (is_open_for by) st.holds ≡ true)
    → needs_row st clock told (kinds.Fault call by) ≡ true
fault_needs st clock told calls.Unhold by f = f refl
fault_needs st clock told call by f = refl

-- a step finds what the table of its kind says
abbrev pub StepsFind : Type 0
StepsFind = (s : SetUp) (st : State) (k : Look) (m : Effect) → step s st k ≡ Some m → StepFound s st k m

module _ (s : SetUp) (st : State) (k : Look) (sound : IsSound st) where
  -- a guarding session's hold is open
  guarded : (p q : ℕ) → is_guarding (st.sessions (server_end p q)).doing ≡ true → list_any (is_open_for (Peer p q)) st.holds ≡ true
  guarded p q e = go (st.sessions (server_end p q)).doing refl e
    where
      go : (d : Doing) → (st.sessions (server_end p q)).doing ≡ d → is_guarding d ≡ true → list_any (is_open_for (Peer p q)) st.holds ≡ true
      go (Guards hold key) is g =
          list_any_weaker (λ h. is_open_hold hold key h && is_open_for (Peer p q) h) (is_open_for (Peer p q)) (λ h f. and_second (is_open_hold hold key h) (is_open_for (Peer p q) h) f) st.holds
          (sound.guards p q hold key is)
      go d is g = absurd (cc)

  session_row : (m : Effect) (x : BySession s st k m) → (unheld : (by : By) → m.kind ≡ kinds.Fault calls.Unhold by → list_any (is_open_for by) st.holds ≡ true)
      → (kind : EntryKind) → m.kind ≡ kind
      → IsSessionEntry (here s st k (server_end x.peer x.slot)) (st.sessions (server_end x.peer x.slot)).doing x.asked x.says kind
      → needs_row st (st.clock k.time) (taken_message m.taken) kind ≡ true
  session_row m x unheld (kinds.Share hold end by key) is f = free_is st key f.there f.free
  session_row m x unheld (kinds.Release hold key) is f =
      list_any_weaker (λ h. is_open_hold hold key h && is_open_for (Peer x.peer x.slot) h) (is_open_hold hold key) (λ h g. and_first (is_open_hold hold key h) (is_open_for (Peer x.peer x.slot) h) g)
      st.holds (sound.guards x.peer x.slot hold key f.guards)
  session_row m x unheld (kinds.Gone by key) is f =
      subst (λ (b : By). needs_row st (st.clock k.time) (taken_message m.taken) (kinds.Gone b key) ≡ true) (sym f.by_is)
      (and_three (is_free st key) (not (is_blocked st.holds key (st.clock k.time))) (is_in_time (st.clock k.time) (taken_message m.taken)) (free_is st key f.there f.free) (rw f.unheld refl) soon)
    where
      told : taken_message m.taken ≡ x.asked
      told = elim (x.frame) [
        | inl t ↦ ap taken_message t.taken_is ∙ sym t.asked_is
        | inr g ↦ absurd (let both : None ≡ Some (order_of f.deadline key) = sym g.asked_is ∙ f.asks in cc)
      ]

      soon : is_in_time (st.clock k.time) (taken_message m.taken) ≡ true
      soon = ap (is_in_time (st.clock k.time)) (told ∙ f.asks) ∙ in_time_is (st.clock k.time) f.deadline key f.soon
  session_row m x unheld (kinds.Fault call by) is f =
      fault_needs st (st.clock k.time) (taken_message m.taken) call by
      (λ e. unheld by (is ∙ ap (λ (c : Call). kinds.Fault c by) e))
  session_row m x unheld (kinds.Bar job need key) is f = absurd f
  session_row m x unheld kind is f = refl

  job_row : (m : Effect) (x : ByJob s st k m) → (unheld : (by : By) → m.kind ≡ kinds.Fault calls.Unhold by → list_any (is_open_for by) st.holds ≡ true)
      → (kind : EntryKind) → m.kind ≡ kind → IsJobEntry (turn_of s st k x.w) m kind → needs_row st (st.clock k.time) (taken_message m.taken) kind ≡ true
  job_row m x unheld (kinds.Share hold end by key) is f = subst (λ (y : List ℕ). is_free st y ≡ true) (sym f.key_is) (free_is st x.w.what.key f.there f.free)
  job_row m x unheld (kinds.Release hold key) is f = absurd f
  job_row m x unheld (kinds.Bar job need key) is f =
      subst (λ (y : List ℕ). (is_free st y && not (is_blocked st.holds y (st.clock k.time))) ≡ true) (sym f.key_is)
      (and_from (is_free st x.w.what.key) (not (is_blocked st.holds x.w.what.key (st.clock k.time))) (free_is st x.w.what.key f.there f.free) (rw (unheld_is st.holds x.w.what.key (st.clock k.time) f.unheld) refl))
  job_row m x unheld (kinds.Gone by key) is f =
      let among = (find_member (λ (w : Work). w.slot == x.slot) st.works x.w x.runs).0 in
      let bar : st.bar x.w.what.key ≡ Some x.w.number = sound.bars x.w among f.part_is f.side f.next in
      subst (λ (b : By). needs_row st (st.clock k.time) (taken_message m.taken) (kinds.Gone b key) ≡ true) (sym f.by_is)
      (subst (λ (y : List ℕ). option_is (st.bar y) x.w.number ≡ true) (sym f.key_is) (rw bar (eqb_refl x.w.number)))
  job_row m x unheld (kinds.Fault call by) is f =
      fault_needs st (st.clock k.time) (taken_message m.taken) call by
      (λ e. unheld by (is ∙ ap (λ (c : Call). kinds.Fault c by) e))
  job_row m x unheld kind is f = refl

  owed_row : (m : Effect) → ByOwed s st k m → needs_row st (st.clock k.time) (taken_message m.taken) m.kind ≡ true
  owed_row m x = elim (x.writes) [
    | inl w ↦ subst (λ (n : Effect). needs_row st (st.clock k.time) (taken_message n.taken) n.kind ≡ true) (sym w) refl
    | inr w ↦ subst (λ (n : Effect). needs_row st (st.clock k.time) (taken_message n.taken) n.kind ≡ true) (sym w) refl
  ]

  -- a failed release is that of a hold that is open
  module _ (small : k.part < 2 ^ 62) (m : Effect) (by : By) (is : m.kind ≡ kinds.Fault calls.Unhold by) where
    failed : failed_call m.kind ≡ Some calls.Unhold
    failed = ap failed_call is

    by_same : (owner : By) → m.kind ≡ kinds.Fault calls.Unhold owner → owner ≡ by
    by_same owner e = let both : kinds.Fault calls.Unhold owner ≡ kinds.Fault calls.Unhold by = sym e ∙ is in cc

    at_others : (o : Option Effect) → session_step s st k ≡ o → option_or o (job_step s st k) ≡ Some m → list_any (is_open_for by) st.holds ≡ true
    at_others (Some n) was e =
        let made : n ≡ m = cc in
        let h = session_unheld s st k (λ c. None) small m (was ∙ ap (λ (x : Effect). Some x) made) failed in
        subst (λ (b : By). list_any (is_open_for b) st.holds ≡ true) (by_same (Peer h.0 h.1) h.2) (guarded h.0 h.1 h.3)
    at_others None was e =
        let h = job_unheld s st k k.words small m (λ f. refl) e failed in
        subst (λ (b : By). list_any (is_open_for b) st.holds ≡ true) (by_same (by_job h.0) h.1) h.2

    at_owed : (os : List OwedLine) → option_or (pays_first s st k os) (option_or (session_step s st k) (job_step s st k)) ≡ Some m → list_any (is_open_for by) st.holds ≡ true
    at_owed [] e = at_others (session_step s st k) refl e
    at_owed (o ∷ os) e = absurd (paid (failing_call k.fails (calls.PutFile ∷ [])) (ways k.fails) e)
      where
        lost : Call → Effect
        lost call = record { kind = kinds.Fault call o.by; taken = None; sent = []; lines = []; calls = calls.PutFile ∷ [] }

        written : Effect
        written = record { kind = kinds.Log (Location o.key); taken = None; sent = []; lines = due s.repos st.lines (st.wall k.time) o; calls = calls.PutFile ∷ [] }

        ways : (c : Option Call) → (failing_call c (calls.PutFile ∷ []) ≡ None) ⊎ (failing_call c (calls.PutFile ∷ []) ≡ Some calls.PutFile)
        ways None = inl refl
        ways (Some calls.PutFile) = inr refl
        ways (Some _) = inl refl

        paid : (c : Option Call) → (c ≡ None) ⊎ (c ≡ Some calls.PutFile) → Some (unless c lost written) ≡ Some m → ⊥
        paid None w g = let made : written ≡ m = cc in let both : kinds.Log (Location o.key) ≡ kinds.Fault calls.Unhold by = ap (λ (x : Effect). x.kind) made ∙ is in cc
        paid (Some c) (inl none) g = cc
        paid (Some c) (inr some) g =
            let made : lost c ≡ m = cc in
            let call : c ≡ calls.PutFile = cc in
            let both : kinds.Fault c o.by ≡ kinds.Fault calls.Unhold by = ap (λ (x : Effect). x.kind) made ∙ is in cc

  pub step_row : StepsFind → k.part < 2 ^ 62 → (m : Effect) → step s st k ≡ Some m → needs_row st (st.clock k.time) (taken_message m.taken) m.kind ≡ true
  step_row found small m e = elim (found s st k m e) [
    | inl x ↦ owed_row m x
    | inr y ↦ others y
  ]
    where
      unheld : (by : By) → m.kind ≡ kinds.Fault calls.Unhold by → list_any (is_open_for by) st.holds ≡ true
      unheld by is = at_owed small m by is st.owed e

      others : BySession s st k m ⊎ ByJob s st k m → needs_row st (st.clock k.time) (taken_message m.taken) m.kind ≡ true
      others (inl x) = session_row m x unheld m.kind refl x.found
      others (inr x) = job_row m x unheld m.kind refl x.found

-- what may come at any point needs no row
pub any_row : (s : SetUp) (st : State) (lines : List (List ℕ)) (sent : List FrameView) (clock : ℕ) (told : Option Message) (kind : EntryKind) → MayCome s st lines sent kind
    → needs_row st clock told kind ≡ true
any_row s st lines sent clock told (kinds.Begin job what) h = refl
any_row s st lines sent clock told (kinds.Gain by size key) h = refl
any_row s st lines sent clock told (kinds.Log file) h = refl
any_row s st lines sent clock told (kinds.Compact file) h = refl
any_row s st lines sent clock told (kinds.Fault call Script) h = fault_needs st clock told call Script (λ e. absurd (unscripted call e h.0))
  where
    unscripted : (c : Call) → c ≡ calls.Unhold → is_scripts c ≡ true → ⊥
    unscripted c e f = true≢false (sym f ∙ ap is_scripts e)
any_row s st lines sent clock told (kinds.Fault call (by_job j)) h = absurd h
any_row s st lines sent clock told (kinds.Fault call (Peer p q)) h = absurd h
any_row s st lines sent clock told (kinds.Close peer slot client) h = refl
any_row s st lines sent clock told (kinds.Crash to) h = refl
any_row s st lines sent clock told kind h = absurd h
