-- One repository of a run: what is its own part, and what it is after an entry.
use Rattle.std.proofs.Common.{◌≡◌, ℕ, ◌<◌, Bool, true, false, List, [], ◌∷◌, length, map, Option, Some, None, refl, sym, ap, subst, ◌∙◌, arith, inl, inr}
use Rattle.std.specs.Prelude.{◌&&◌, ◌||◌, ◌==◌, if◌then◌else◌, nat_lt, not}
use Rattle.std.proofs.lemmas.Bool.{eqb-true}
use Rattle.std.proofs.lemmas.Bool.Decides.{nat_tests}
use Rattle.annex_base.specs.Lists.{Member as Among}
use Rattle.annex_base.specs.declared.kinds.Word.{Word}
use Rattle.annex_base.proofs.Lists.{Member-filter_parts}
use Rattle.run_data.specs.declared.entry.Entry.{Entry}
use Rattle.run_data.specs.declared.entry.EntryKind.{EntryKind}
use Rattle.run_data.specs.declared.entry.EntryKind.TheVariants.{Begin, Crash, End}
use Rattle.node_model.specs.After.{state_after}
use Rattle.node_model.specs.Jobs.{RowsAndEnds, Work, running_job, work_after, works_after}
use Rattle.node_model.specs.SetUp.{SetUp}
use Rattle.node_model.specs.Slots.{RunningJob, job_of}
use Rattle.node_model.specs.State.{State}
use Rattle.run_laws.specs.Sound.{IsSeated}
use Rattle.state_reads.specs.Reads.{HadPaths}
use Rattle.step_judging.specs.Carried.{words_at_end}
use Rattle.step_judging.specs.Rules.{comes, is_own, is_step}
use Rattle.step_judging.specs.Told.{is_told}
use Rattle.step_state.specs.States.{IsStateOf}
use Rattle.job_makes.specs.Turns.{word_in}
use Rattle.step_rules.specs.Members.{BeginsWith, IsMemberOf, paths_after, paths_at, paths_for, paths_read, words_after, words_at}
use Rattle.step_rules.specs.declared.member.Member.{Member}
use Rattle.step_rules.specs.declared.words.Hears.{Hears}
use Rattle.step_rules.proofs.SameReads.{state_same}
use Rattle.step_rules.proofs.SameStep.{is_step_same, with_paths}

-- ---- its own part

abbrev pub MakersLaw : Type 0
MakersLaw = (s : SetUp) (st : State) (words : ℕ → Option Word) (e : Entry) → IsSeated st → is_step s st words e ≡ is_told s st words e

-- the set-up with the paths that are kept
abbrev pub kept_for : Member → SetUp → SetUp
kept_for m s = with_paths s (paths_at m.paths)

pub had_kept : (m : Member) (s : SetUp) (kind : EntryKind) → HadPaths (kept_for m s) kind (paths_for m.paths (job_of kind))
had_kept m s kind = λ job is. sym (ap (paths_for m.paths) is)

pub state_kept : (m : Member) (s : SetUp) (st : State) (words : ℕ → ℕ → Option Word) → IsMemberOf m s st words → IsStateOf m.state (kept_for m s) st
state_kept m s st words is = state_same s (paths_at m.paths) st is.paths m.state is.state

module _ (makers : MakersLaw) (m : Member) (s : SetUp) (st : State) (words : ℕ → ℕ → Option Word) (e : Entry) (heard : ℕ → Option Word)
    (known : s.number < length s.repos) (seated : IsSeated st) (is : IsMemberOf m s st words) (said : (c : ℕ) → heard c ≡ words_at_end words e.kind c) where
  step_told : is_step s st (words_at_end words e.kind) e ≡ is_told (kept_for m s) st heard e
  step_told =
      is_step_same s (paths_at m.paths) st is.paths (words_at_end words e.kind) e
      ∙ (λ i. is_step (kept_for m s) st (λ c. sym (said c) i) e)
      ∙ makers (kept_for m s) st heard e seated

  own_is : (told any : Bool) → told ≡ is_told (kept_for m s) st heard e → any ≡ comes s st e → (told || any) ≡ is_own s st (words_at_end words e.kind) e
  own_is told any so may =
      let here : nat_lt s.number (length s.repos) ≡ true = grind (arith, nat_tests) in
      ap (λ (b : Bool). b || any) (so ∙ sym step_told)
      ∙ ap (λ (b : Bool). is_step s st (words_at_end words e.kind) e || b) may
      ∙ sym (ap (λ (b : Bool). b && (is_step s st (words_at_end words e.kind) e || comes s st e)) here)

  -- it is the step
  pub own_told : (told : Bool) → told ≡ is_told (kept_for m s) st heard e → told ≡ true → true ≡ is_own s st (words_at_end words e.kind) e
  own_told told so holds = sym (ap (λ (b : Bool). b || comes s st e) holds) ∙ own_is told (comes s st e) so refl

  -- it isn't, and may come
  pub own_other : (told any : Bool) → told ≡ is_told (kept_for m s) st heard e → told ≡ false → any ≡ comes s st e → any ≡ is_own s st (words_at_end words e.kind) e
  own_other told any so fails may = sym (ap (λ (b : Bool). b || any) fails) ∙ own_is told any so may

-- ---- after an entry

abbrev pub JobsStay : Type 0
JobsStay = (rows : RowsAndEnds) (r : ℕ) (e : Entry) (w : Work) → running_job (work_after rows r e w) ≡ running_job w

same_number : (n : ℕ) → (n == n) ≡ true
same_number n = grind (arith, nat_tests)

number_back : (m n : ℕ) → (n == m) ≡ false → (m == n) ≡ false
number_back m n apart = go (m == n) refl
  where
    go : (b : Bool) → (m == n) ≡ b → b ≡ false
    go false is = refl
    go true is = absurd (let both : true ≡ false = sym (same_number n) ∙ ap (λ (k : ℕ). n == k) (sym (eqb-true m n is)) ∙ apart in cc)

not_true : (b : Bool) → not b ≡ true → b ≡ false
not_true true e = absurd (cc)
not_true false e = refl

-- it is one of these, or one of those before with its number
abbrev pub IsFrom : Work → List Work → Type 0
IsFrom w was = (v : Work) × Among v was × (v.number ≡ w.number)

from_map : JobsStay → (rows : RowsAndEnds) (r : ℕ) (e : Entry) (was : List Work) (w : Work) → Among w (map (work_after rows r e) was) → IsFrom w was
from_map stay rows r e [] w among = absurd among
from_map stay rows r e (v ∷ was) w (inl same) = (v, inl refl, ap (λ (j : RunningJob). j.number) (sym (stay rows r e v)) ∙ ap (λ (x : Work). x.number) (sym same))
from_map stay rows r e (v ∷ was) w (inr later) = let z = from_map stay rows r e was w later in (z.0, inr z.1, z.2)

module _ (stay : JobsStay) (m n : Member) (s : SetUp) (st : State) (words : ℕ → ℕ → Option Word) (e : Entry) (begun : List (List ℕ)) (hears : Option Hears)
    (is : IsMemberOf m s st words) (begins : BeginsWith s e.kind begun) where
  abbrev rows : RowsAndEnds
  rows = record { present = st.present; bar = st.bar; ends = st.ends }

  from_was : (w : Work) → IsFrom w st.works → s.paths w.number ≡ paths_at m.paths w.number
  from_was w z = ap s.paths (sym z.2) ∙ is.paths z.0 z.1 ∙ ap (paths_at m.paths) z.2

  -- a job's paths are those that are kept then
  paths_then : (kind : EntryKind) → BeginsWith s kind begun → (w : Work) → Among w (works_after rows s.number st.works e kind)
      → s.paths w.number ≡ paths_after w.number (paths_at m.paths w.number) kind begun
  paths_then (Begin job what) new w among = go (job == w.number) refl among
    where
      go : (b : Bool) → (job == w.number) ≡ b → Among w (works_after rows s.number st.works e (Begin job what)) → s.paths w.number ≡ (if b then begun else paths_at m.paths w.number)
      go true same a = ap s.paths (sym (eqb-true job w.number same)) ∙ new
      go false apart (inl same) = absurd (let both : false ≡ true = sym apart ∙ ap (λ (x : Work). job == x.number) same ∙ same_number job in cc)
      go false apart (inr later) = is.paths w later
  paths_then (End job outcome) new w among =
      let parts = Member-filter_parts (λ v. not (v.number == job)) st.works w among in
      is.paths w parts.0 ∙ sym (ap (λ (b : Bool). if b then [] else paths_at m.paths w.number) (number_back job w.number (not_true (w.number == job) parts.1)))
  paths_then (Crash clock) new w among = absurd among
  paths_then kind new w among = from_was w (from_map stay rows s.number e st.works w among)

  words_then : (o : Option Hears) → (job c : ℕ) → words_after (λ j d. word_in (words_at m.words j) d) o job c ≡ words_after words o job c
  words_then None job c = sym (is.heard job c)
  words_then (Some h) job c = ap (λ (x : Option Word). if (h.job == job) && (h.peer == c) then h.word else x) (sym (is.heard job c))

  module _ (after : (x : SetUp) (y : State) → HadPaths x e.kind (paths_read m.paths e.kind begun) → IsStateOf m.state x y → IsStateOf n.state x (state_after x y e)) where
    -- of a kind that begins no job
    plain : ((w : Work) → Among w (works_after rows s.number st.works e e.kind) → IsFrom w st.works) → HadPaths (kept_for m s) e.kind (paths_read m.paths e.kind begun)
        → IsStateOf n.state s (state_after s st e)
    plain from had =
        state_same (kept_for m s) s.paths (state_after s st e) (λ w among. sym (from_was w (from w among))) n.state
        (after (kept_for m s) st had (state_kept m s st words is))

    state_then : (kind : EntryKind) → e.kind ≡ kind → IsStateOf n.state s (state_after s st e)
    state_then (Begin job what) same =
        after s st (subst (λ (k : EntryKind). HadPaths s k (paths_read m.paths k begun)) (sym same) (λ j one. ap s.paths (some_same job j one) ∙ subst (λ (k : EntryKind). BeginsWith s k begun) same begins)) is.state
      where
        some_same : (a b : ℕ) → Some a ≡ Some b → b ≡ a
        some_same a b one = cc
    state_then (End job outcome) same = plain
        (λ w among. let parts = Member-filter_parts (λ v. not (v.number == job)) st.works w (subst (λ (k : EntryKind). Among w (works_after rows s.number st.works e k)) same among) in (w, parts.0, refl))
        (subst (λ (k : EntryKind). HadPaths (kept_for m s) k (paths_read m.paths k begun)) (sym same) (had_kept m s (End job outcome)))
    state_then (Crash clock) same = plain
        (λ w among. absurd (subst (λ (k : EntryKind). Among w (works_after rows s.number st.works e k)) same among))
        (subst (λ (k : EntryKind). HadPaths (kept_for m s) k (paths_read m.paths k begun)) (sym same) (had_kept m s (Crash clock)))
    state_then kind same = plain
        (λ w among. from_map stay rows s.number e st.works w (subst (λ (k : EntryKind). Among w (works_after rows s.number st.works e k)) same among))
        (subst (λ (k : EntryKind). HadPaths (kept_for m s) k (paths_read m.paths k begun)) (sym same) (had_kept m s kind))

    pub member_after : ((job : ℕ) → paths_at n.paths job ≡ paths_after job (paths_at m.paths job) e.kind begun)
        → ((job c : ℕ) → word_in (words_at n.words job) c ≡ words_after (λ j d. word_in (words_at m.words j) d) hears job c)
        → IsMemberOf n s (state_after s st e) (words_after words hears)
    member_after kept said = record {
      state = state_then e.kind refl;
      heard = λ job c. sym (said job c ∙ words_then hears job c);
      paths = λ w among. paths_then e.kind begins w among ∙ sym (kept w.number);
    }
