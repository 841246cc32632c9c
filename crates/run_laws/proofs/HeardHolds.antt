-- What holds of a running job's list of what it heard, by its entries; what keeps it, and what a new word at its head does.
use Rattle.std.proofs.Common.{◌≡◌, ℕ, Bool, true, false, List, [], ◌∷◌, Option, Some, None, ◌⊎◌, inl, inr, refl, sym, ap, ◌∙◌, subst}
use Rattle.std.specs.Prelude.{◌==◌}
use Rattle.std.proofs.lemmas.Bool.{true≢false, eqb-true}
use Rattle.std.proofs.lemmas.Option.{same_Some}
use Rattle.annex_base.proofs.Conditions.{eqb_refl}
use Rattle.drop_proof.specs.declared.rule.Side.{Side}
use Rattle.drop_proof.specs.declared.rule.Side.TheVariants.{Remote}
use Rattle.run_data.specs.declared.entry.Entry.{Entry}
use Rattle.node_model.specs.Slots.{RunningJob}
use Rattle.past_facts.proofs.Heard.{heard, hears, newer_heard}
use Rattle.run_laws.proofs.KnownAgrees.{heard_as}
use Rattle.run_laws.proofs.HeardCauses.{Told, told_stays}
use Rattle.node_model.specs.SetUp.{SetUp}
use Rattle.run_model.specs.States.{end_at}
use Rattle.node_model.specs.Jobs
use Rattle.node_model.specs.Jobs.{AsksLock, AsksLook, AsksTime, Drops, Greets, Lacks, Opens, Orders, Part, Phase, Unseen, Work, partner, running_job}
use Rattle.step_facts.proofs.ClientRuns.{client_end}
use Rattle.job_facts.proofs.DropReads.{told_of}
use Rattle.job_facts.proofs.TalkFacts.{Fits}
use Rattle.job_facts.proofs.Untouched.{AtStart}

-- it heard of a copy that there is none
abbrev pub gave_none : Option Jobs.Heard → Bool
gave_none (Some Unseen) = true
gave_none (Some (Lacks cause)) = true
gave_none h = false

abbrev pub side_in : RunningJob → Side
side_in j = Jobs.drop_side j.what.kind j.what.peer

abbrev pub target_in : ℕ → RunningJob → ℕ
target_in r j = Jobs.or_own r (side_in j) j.what.peer

-- a candidate, on whose connection the job stands, told nothing yet; once the connection is closed, the entries say so
pub record Candidate (s : SetUp) (past : List Entry) (j : RunningJob) (list : List (ℕ × Jobs.Heard)) (peer : ℕ) : Type 0 where
  pub unheard : told_of list peer ≡ None
  pub shut : (peer == s.number) ≡ false → (end_at past s.number (client_end peer j.slot)).opened ≡ false → Told past s.number j.number peer

abbrev pub AtTarget : SetUp → RunningJob → ℕ → Type 0
AtTarget s j peer = (side_in j ≡ Remote) × (peer ≡ target_in s.number j)

-- where a drop stands
abbrev pub Asking : SetUp → List Entry → RunningJob → List (ℕ × Jobs.Heard) → Phase → Type 0
Asking s past j list (Opens p) = AtTarget s j p ⊎ Candidate s past j list p
Asking s past j list (Greets p) = AtTarget s j p ⊎ Candidate s past j list p
Asking s past j list (AsksLock p since) = Candidate s past j list p
Asking s past j list (AsksLook p) = Candidate s past j list p
Asking s past j list AsksTime = side_in j ≡ Remote
Asking s past j list Orders = side_in j ≡ Remote
Asking s past j list phase = Unit {0}

-- the list agrees with the entries
pub record Lists (s : SetUp) (past : List Entry) (j : RunningJob) (list : List (ℕ × Jobs.Heard)) : Type 0 where
  pub heard_is : (c : ℕ) → heard past s.number j.number c ≡ heard_as j.what.key (told_of list c)
  pub told : (c : ℕ) → (c == s.number) ≡ false → gave_none (told_of list c) ≡ true → Told past s.number j.number c

pub record Holds (s : SetUp) (past : List Entry) (j : RunningJob) (list : List (ℕ × Jobs.Heard)) (part : Part) (phase : Phase) : Type 0 where
  pub lists : Lists s past j list
  pub start : AtStart part phase → list ≡ []
  pub asking : part ≡ Drops → Asking s past j list phase

abbrev pub HoldsOf : SetUp → List Entry → Work → Type 0
HoldsOf s past w = Holds s past (running_job w) w.heard w.part w.phase

-- ---- an entry that tells the job nothing

-- an end that is shut was so before, or the entry tells why
abbrev pub ShutTold : SetUp → List Entry → Entry → RunningJob → Type 0
ShutTold s past e j = (peer : ℕ) → (peer == s.number) ≡ false → (end_at (e ∷ past) s.number (client_end peer j.slot)).opened ≡ false
    → ((end_at past s.number (client_end peer j.slot)).opened ≡ false) ⊎ Told (e ∷ past) s.number j.number peer

module _ (s : SetUp) (past : List Entry) (e : Entry) (j : RunningJob) where
  pub candidate_kept : (list : List (ℕ × Jobs.Heard)) (peer : ℕ) → ShutTold s past e j → Candidate s past j list peer → Candidate s (e ∷ past) j list peer
  candidate_kept list peer ends x = record {
    unheard = x.unheard;
    shut = λ other shut. elim (ends peer other shut) [ inl before ↦ told_stays past e s.number j.number peer (x.shut other before) | inr now' ↦ now' ];
  }

  pub asking_kept : (list : List (ℕ × Jobs.Heard)) (phase : Phase) → ShutTold s past e j → Asking s past j list phase → Asking s (e ∷ past) j list phase
  asking_kept list (Opens p) ends (inl x) = inl x
  asking_kept list (Opens p) ends (inr x) = inr (candidate_kept list p ends x)
  asking_kept list (Greets p) ends (inl x) = inl x
  asking_kept list (Greets p) ends (inr x) = inr (candidate_kept list p ends x)
  asking_kept list (AsksLock p since) ends x = candidate_kept list p ends x
  asking_kept list (AsksLook p) ends x = candidate_kept list p ends x
  asking_kept list AsksTime ends x = x
  asking_kept list Orders ends x = x
  asking_kept list phase ends x = tt

  still_heard : (c : ℕ) → hears past e c s.number j.number ≡ [] → heard (e ∷ past) s.number j.number c ≡ heard past s.number j.number c
  still_heard c tells = ap (λ hs. newer_heard hs (heard past s.number j.number c)) tells

  pub lists_kept : (list : List (ℕ × Jobs.Heard)) → ((c : ℕ) → hears past e c s.number j.number ≡ []) → Lists s past j list → Lists s (e ∷ past) j list
  lists_kept list tells x = record {
    heard_is = λ c. still_heard c (tells c) ∙ x.heard_is c;
    told = λ c other none. told_stays past e s.number j.number c (x.told c other none);
  }

  pub holds_kept : (list : List (ℕ × Jobs.Heard)) (part : Part) (phase : Phase) → ((c : ℕ) → hears past e c s.number j.number ≡ []) → ShutTold s past e j → Holds s past j list part phase → Holds s (e ∷ past) j list part phase
  holds_kept list part phase tells ends x = record { lists = lists_kept list tells x.lists; start = x.start; asking = λ drops. asking_kept list phase ends (x.asking drops) }

  -- ---- a new word

  pub told_head : (q : ℕ) (h : Jobs.Heard) (list : List (ℕ × Jobs.Heard)) → told_of ((q, h) ∷ list) q ≡ Some h
  told_head q h list = rw (eqb_refl q) refl

  told_tail : (q c : ℕ) (h : Jobs.Heard) (list : List (ℕ × Jobs.Heard)) → (q == c) ≡ false → told_of ((q, h) ∷ list) c ≡ told_of list c
  told_tail q c h list apart = rw apart refl

  pub lists_new : (q : ℕ) (h : Jobs.Heard) (list : List (ℕ × Jobs.Heard)) → ((c : ℕ) → (q == c) ≡ false → hears past e c s.number j.number ≡ [])
      → heard (e ∷ past) s.number j.number q ≡ heard_as j.what.key (Some h) → (gave_none (Some h) ≡ true → (q == s.number) ≡ false → Told (e ∷ past) s.number j.number q)
      → Lists s past j list → Lists s (e ∷ past) j ((q, h) ∷ list)
  lists_new q h list tells says told x = record { heard_is = λ c. is c (q == c) refl; told = λ c other none. tells_why c other none (q == c) refl }
    where
      is : (c : ℕ) (b : Bool) → (q == c) ≡ b → heard (e ∷ past) s.number j.number c ≡ heard_as j.what.key (told_of ((q, h) ∷ list) c)
      is c true same =
          let at : q ≡ c = eqb-true q c same in
          subst (λ n. heard (e ∷ past) s.number j.number n ≡ heard_as j.what.key (told_of ((q, h) ∷ list) n)) at (says ∙ ap (heard_as j.what.key) (sym (told_head q h list)))
      is c false apart = still_heard c (tells c apart) ∙ (x.heard_is c ∙ ap (heard_as j.what.key) (sym (told_tail q c h list apart)))

      tells_why : (c : ℕ) → (c == s.number) ≡ false → gave_none (told_of ((q, h) ∷ list) c) ≡ true → (b : Bool) → (q == c) ≡ b → Told (e ∷ past) s.number j.number c
      tells_why c other none true same =
          let at : q ≡ c = eqb-true q c same in
          subst (λ n. Told (e ∷ past) s.number j.number n) at
          (told (subst (λ o. gave_none o ≡ true) (told_head q h list) (subst (λ n. gave_none (told_of ((q, h) ∷ list) n) ≡ true) (sym at) none)) (subst (λ n. (n == s.number) ≡ false) (sym at) other))
      tells_why c other none false apart = told_stays past e s.number j.number c (x.told c other (subst (λ o. gave_none o ≡ true) (told_tail q c h list apart) none))

  -- a word that there is none, of one of whom nothing was heard before
  pub none_new : (q : ℕ) (h : Jobs.Heard) (list : List (ℕ × Jobs.Heard)) → ((c : ℕ) → hears past e c s.number j.number ≡ []) → heard_as j.what.key (Some h) ≡ None → told_of list q ≡ None
      → ((q == s.number) ≡ false → Told (e ∷ past) s.number j.number q) → Lists s past j list → Lists s (e ∷ past) j ((q, h) ∷ list)
  none_new q h list tells none before told x =
      lists_new q h list (λ c apart. tells c) (still_heard q (tells q) ∙ (x.heard_is q ∙ (ap (heard_as j.what.key) before ∙ sym none))) (λ gave other. told other) x

-- ---- where it stands

not_at_target : (s : SetUp) (past : List Entry) (j : RunningJob) (list : List (ℕ × Jobs.Heard)) (p peer : ℕ) → p ≡ peer → (target_in s.number j == peer) ≡ false → AtTarget s j p ⊎ Candidate s past j list p → Candidate s past j list peer
not_at_target s past j list p peer same apart (inr x) = subst (Candidate s past j list) same x
not_at_target s past j list p peer same apart (inl x) =
    absurd (true≢false (sym (eqb_refl peer) ∙ subst (λ n. (n == peer) ≡ false) (sym (sym same ∙ x.1)) apart))

target_peer : (s : SetUp) (past : List Entry) (j : RunningJob) (list : List (ℕ × Jobs.Heard)) (peer : ℕ) → j.what.peer ≡ Some peer → (target_in s.number j == peer) ≡ false → side_in j ≡ Remote → Candidate s past j list peer
target_peer s past j list peer on apart side =
    let is : target_in s.number j ≡ peer = ap (λ (d : Side). Jobs.or_own s.number d j.what.peer) side ∙ ap (Jobs.or_own s.number Remote) on in
    absurd (true≢false (sym (eqb_refl peer) ∙ subst (λ n. (n == peer) ≡ false) is apart))

-- on a connection, not its target's, it stands with a candidate
pub on_candidate : (s : SetUp) (past : List Entry) (j : RunningJob) (list : List (ℕ × Jobs.Heard)) (phase : Phase) (peer : ℕ) → Fits Drops phase → partner j.what.peer phase ≡ Some peer → (target_in s.number j == peer) ≡ false
    → Asking s past j list phase → Candidate s past j list peer
on_candidate s past j list (Opens p) peer fits on apart x = not_at_target s past j list p peer (same_Some p peer on) apart x
on_candidate s past j list (Greets p) peer fits on apart x = not_at_target s past j list p peer (same_Some p peer on) apart x
on_candidate s past j list (AsksLock p since) peer fits on apart x = subst (Candidate s past j list) (same_Some p peer on) x
on_candidate s past j list (AsksLook p) peer fits on apart x = subst (Candidate s past j list) (same_Some p peer on) x
on_candidate s past j list AsksTime peer fits on apart x = target_peer s past j list peer on apart x
on_candidate s past j list Orders peer fits on apart x = target_peer s past j list peer on apart x
on_candidate s past j list (Jobs.GetsData p start) peer fits on apart x = absurd fits
on_candidate s past j list (Jobs.GetsBytes p start size left) peer fits on apart x = absurd fits
on_candidate s past j list (Jobs.GetsWord p start size) peer fits on apart x = absurd fits
on_candidate s past j list (Jobs.PutsOffer p) peer fits on apart x = absurd fits
on_candidate s past j list (Jobs.PutsBytes p start at left) peer fits on apart x = absurd fits
on_candidate s past j list (Jobs.PutsWord p start) peer fits on apart x = absurd fits
on_candidate s past j list (Jobs.PutsAnswer p start) peer fits on apart x = absurd fits
on_candidate s past j list phase peer fits on apart x = absurd (let bad : None ≡ Some peer = on in cc)
