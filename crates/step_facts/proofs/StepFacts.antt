-- What a step found: one law over all kinds of entries, and what it says of each kind.
use Rattle.std.proofs.Common.{◌≡◌, ℕ, List, [], ◌∷◌, Option, Some, None, ◌⊎◌, inl, inr, refl, sym, ap, ◌∙◌, subst}
use Rattle.std.specs.Option.{option_or}
use Rattle.annex_base.specs.declared.kinds.Call.{Call}
use Rattle.annex_base.specs.declared.kinds.Call.TheVariants.{PutFile}
use Rattle.annex_base.specs.declared.kinds.Found.{Found}
use Rattle.annex_base.proofs.Options.{option_or-was}
use Rattle.drop_proof.specs.declared.rule.Need.{Need}
use Rattle.run_data.specs.declared.entry.EntryKind.{EntryKind}
use Rattle.run_data.specs.declared.entry.EntryKind.TheVariants.{Share, Release, Check, Bar, Gone, Log, Fault}
use Rattle.run_data.specs.declared.entry.By.TheVariants.{Script, Job as by_job, Peer}
use Rattle.run_data.specs.declared.entry.LogFile.TheVariants.{Location}
use Rattle.node_model.specs.SetUp.{SetUp}
use Rattle.node_model.specs.Ends.{server_end}
use Rattle.node_model.specs.OwedLines.{OwedLine, due}
use Rattle.node_model.specs.State.{State}
use Rattle.node_model.specs.Look.{Look, Effect, failing_call, unless}
use Rattle.node_model.specs.OwedStep.{owed_step, pays_first}
use Rattle.node_model.specs.SessionStep.{here, session_step}
use Rattle.node_model.specs.JobStep.{turn_of}
use Rattle.node_model.specs.Turns.{job_step}
use Rattle.node_model.specs.Step.{step}
use Rattle.node_model.specs.Found.{ByJob, ByOwed, BySession, IsJobEntry, IsSessionEntry, StepFound}
use Rattle.step_facts.proofs.Cases.{TakesAtHand, takes_none}
use Rattle.step_facts.proofs.SessionFacts.{session_at_hand, session_found}
use Rattle.step_facts.proofs.JobFacts.{job_at_hand, job_found}

-- ---- the law

pub pays_found : (s : SetUp) (st : State) (k : Look) (m : Effect) (os : List OwedLine) → st.owed ≡ os → pays_first s st k os ≡ Some m → ByOwed s st k m
pays_found s st k m [] is e = absurd (cc)
pays_found s st k m (o ∷ os) is e = go (failing_call k.fails (PutFile ∷ [])) (fails k.fails) e
  where
    lost : Call → Effect
    lost call = record { kind = Fault call o.by; taken = None; sent = []; lines = []; calls = PutFile ∷ [] }

    written : Effect
    written = record { kind = Log (Location o.key); taken = None; sent = []; lines = due s.repos st.lines (st.wall k.time) o; calls = PutFile ∷ [] }

    fails : (c : Option Call) → (failing_call c (PutFile ∷ []) ≡ None) ⊎ (failing_call c (PutFile ∷ []) ≡ Some PutFile)
    fails None = inl refl
    fails (Some PutFile) = inr refl
    fails (Some _) = inl refl

    go : (c : Option Call) → (c ≡ None) ⊎ (c ≡ Some PutFile) → Some (unless c lost written) ≡ Some m → ByOwed s st k m
    go None ways g = let same : written ≡ m = cc in record { first = o; rest = os; owes_it = is; writes = inl (sym same) }
    go (Some call) (inl no_call) g = absurd (cc)
    go (Some call) (inr is_call) g =
        let same : lost call ≡ m = cc in
        let it : call ≡ PutFile = cc in
        record { first = o; rest = os; owes_it = is; writes = inr (sym same ∙ ap lost it) }

pub step_found : (s : SetUp) (st : State) (k : Look) (m : Effect) → step s st k ≡ Some m → StepFound s st k m
step_found s st k m e = elim (option_or-was (owed_step s st k) (option_or (session_step s st k) (job_step s st k)) m e) [
  | inl o ↦ inl (pays_found s st k m st.owed refl o)
  | inr r ↦ inr (others r)
]
  where
    others : option_or (session_step s st k) (job_step s st k) ≡ Some m → BySession s st k m ⊎ ByJob s st k m
    others r = elim (option_or-was (session_step s st k) (job_step s st k) m r) [
      | inl x ↦ inl (session_found s st k m x)
      | inr x ↦ inr (job_found s st k m x)
    ]

-- what it takes is at hand
pub taken_at_hand : (s : SetUp) (st : State) (k : Look) (m : Effect) → step s st k ≡ Some m → TakesAtHand k m
taken_at_hand s st k m e = elim (option_or-was (owed_step s st k) (option_or (session_step s st k) (job_step s st k)) m e) [
  | inl o ↦ takes_none k m (elim ((pays_found s st k m st.owed refl o).writes) [ inl w ↦ ap (λ (z : Effect). z.taken) w | inr w ↦ ap (λ (z : Effect). z.taken) w ])
  | inr r ↦ elim (option_or-was (session_step s st k) (job_step s st k) m r) [ inl x ↦ session_at_hand s st k m x | inr x ↦ job_at_hand s st k m x ]
]

-- ---- by its kind

-- the kinds of an entry that writes an owed line
abbrev pub IsOwedKind : EntryKind → Type 0
IsOwedKind (Log file) = Unit {0}
IsOwedKind (Fault call by) = Unit {0}
IsOwedKind kind = ⊥

owed_kind : (s : SetUp) (st : State) (k : Look) (m : Effect) (kind : EntryKind) → ByOwed s st k m → m.kind ≡ kind → IsOwedKind kind
owed_kind s st k m kind x is = elim (x.writes) [
  | inl w ↦ subst IsOwedKind (sym (ap (λ y. y.kind) w) ∙ is) tt
  | inr w ↦ subst IsOwedKind (sym (ap (λ y. y.kind) w) ∙ is) tt
]

-- a session made it, and found this
pub record SessionMade (s : SetUp) (st : State) (k : Look) (m : Effect) (kind : EntryKind) : Type 0 where
  pub by : BySession s st k m
  pub found : IsSessionEntry (here s st k (server_end by.peer by.slot)) (st.sessions (server_end by.peer by.slot)).doing by.asked by.says kind

-- a job made it, and found this
pub record JobMade (s : SetUp) (st : State) (k : Look) (m : Effect) (kind : EntryKind) : Type 0 where
  pub by : ByJob s st k m
  pub found : IsJobEntry (turn_of s st k by.w) m kind

-- an entry of a kind that writes no owed line is a session's or a job's
pub kind_found : (s : SetUp) (st : State) (k : Look) (m : Effect) (kind : EntryKind) → step s st k ≡ Some m → m.kind ≡ kind → (IsOwedKind kind → ⊥)
    → SessionMade s st k m kind ⊎ JobMade s st k m kind
kind_found s st k m kind e is not = elim (step_found s st k m e) [
  | inl o ↦ absurd (not (owed_kind s st k m kind o is))
  | inr r ↦ made r
]
  where
    made : BySession s st k m ⊎ ByJob s st k m → SessionMade s st k m kind ⊎ JobMade s st k m kind
    made (inl x) = inl (record { by = x; found = subst (IsSessionEntry (here s st k (server_end x.peer x.slot)) (st.sessions (server_end x.peer x.slot)).doing x.asked x.says) is x.found })
    made (inr x) = inr (record { by = x; found = subst (IsJobEntry (turn_of s st k x.w) m) is x.found })

module _ (s : SetUp) (st : State) (k : Look) (m : Effect) (e : step s st k ≡ Some m) where
  -- a share for a peer: LOCKCONTENT found the content free
  pub share_found : (hold end p c : ℕ) (key : List ℕ) → m.kind ≡ Share hold end (Peer p c) key → SessionMade s st k m (Share hold end (Peer p c) key)
  share_found hold end p c key is = elim (kind_found s st k m (Share hold end (Peer p c) key) e is (λ x. x)) [
    | inl x ↦ x
    | inr x ↦ absurd (let no_job : Peer p c ≡ by_job x.by.w.number = x.found.by_is in cc)
  ]

  -- a job's share of its own repository
  pub own_share_found : (hold end j : ℕ) (key : List ℕ) → m.kind ≡ Share hold end (by_job j) key → JobMade s st k m (Share hold end (by_job j) key)
  own_share_found hold end j key is = elim (kind_found s st k m (Share hold end (by_job j) key) e is (λ x. x)) [
    | inl x ↦ absurd (let no_peer : by_job j ≡ Peer x.by.peer x.by.slot = x.found.by_is in cc)
    | inr x ↦ x
  ]

  pub check_found : (what : Found) (key : List ℕ) → m.kind ≡ Check what key → SessionMade s st k m (Check what key)
  check_found what key is = elim (kind_found s st k m (Check what key) e is (λ x. x)) [ inl x ↦ x | inr x ↦ absurd x.found ]

  pub release_found : (hold : ℕ) (key : List ℕ) → m.kind ≡ Release hold key → SessionMade s st k m (Release hold key)
  release_found hold key is = elim (kind_found s st k m (Release hold key) e is (λ x. x)) [ inl x ↦ x | inr x ↦ absurd x.found ]

  pub bar_found : (j : ℕ) (need : Need) (key : List ℕ) → m.kind ≡ Bar j need key → JobMade s st k m (Bar j need key)
  bar_found j need key is = elim (kind_found s st k m (Bar j need key) e is (λ x. x)) [ inl x ↦ absurd x.found | inr x ↦ x ]

  -- a removal by a peer's order; by a job; never by the script
  pub obeyed_found : (p c : ℕ) (key : List ℕ) → m.kind ≡ Gone (Peer p c) key → SessionMade s st k m (Gone (Peer p c) key)
  obeyed_found p c key is = elim (kind_found s st k m (Gone (Peer p c) key) e is (λ x. x)) [
    | inl x ↦ x
    | inr x ↦ absurd (let no_job : Peer p c ≡ by_job x.by.w.number = x.found.by_is in cc)
  ]

  pub removes_found : (j : ℕ) (key : List ℕ) → m.kind ≡ Gone (by_job j) key → JobMade s st k m (Gone (by_job j) key)
  removes_found j key is = elim (kind_found s st k m (Gone (by_job j) key) e is (λ x. x)) [
    | inl x ↦ absurd (let no_peer : by_job j ≡ Peer x.by.peer x.by.slot = x.found.by_is in cc)
    | inr x ↦ x
  ]

  pub gone_by_script : (key : List ℕ) → m.kind ≡ Gone Script key → ⊥
  gone_by_script key is = elim (kind_found s st k m (Gone Script key) e is (λ x. x)) [
    | inl x ↦ (let no_peer : Script ≡ Peer x.by.peer x.by.slot = x.found.by_is in cc)
    | inr x ↦ (let no_job : Script ≡ by_job x.by.w.number = x.found.by_is in cc)
  ]
