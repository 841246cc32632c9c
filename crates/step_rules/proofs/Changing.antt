-- One repository of several takes note of an entry, or gets more room; and answers by their parts.
use Rattle.std.proofs.Common.{◌≡◌, ℕ, ◌≤◌, List, [], slice_set, Option, Some, Result, Ok, Err, IfErr, sym, ap, subst, ◌∙◌}
use Rattle.std.specs.Prelude.{OnErr, OnOk, slice_get, unwrap_or}
use Rattle.std.specs.Map.{lookup}
use Rattle.std.specs.Result.{IsErrAnd}
use Rattle.annex_base.specs.declared.kinds.Word.{Word}
use Rattle.run_data.specs.declared.entry.Entry.{Entry}
use Rattle.run_data.specs.declared.run.Run.{Run}
use Rattle.node_model.specs.SetUp.{SetUp}
use Rattle.node_model.specs.State.{State}
use Rattle.run_model.specs.Run.{IsRun}
use Rattle.step_state.specs.States.{IsStateOf, IsWell, count_of, made_of}
use Rattle.step_rules.specs.Allowed.{TellsFirst}
use Rattle.step_rules.specs.Members.{IsBounded, IsMemberOf, StaysMember, same_job}
use Rattle.step_rules.specs.Runs.{start_of}
use Rattle.step_rules.specs.States.{ChangesMember, TellsOf}
use Rattle.step_rules.specs.declared.member.Member.{Member}
use Rattle.step_rules.specs.declared.wanted.Wanted.{Wanted}
use Rattle.step_rules.specs.declared.wanted.Wanted.TheVariants.{Broken, NoMemory}
use Rattle.step_rules.proofs.Places.{length_set, set_here, set_there}

-- ---- answers

pub on_ok : {A E P Q : Type 0} (r : Result A E) → (P → Q) → OnOk r P → OnOk r Q
on_ok (Ok x) f p = f p
on_ok (Err e) f p = tt

pub on_err : {A E P Q : Type 0} (r : Result A E) → (P → Q) → OnErr r P → OnErr r Q
on_err (Ok x) f p = tt
on_err (Err e) f p = f p

pub on_err_always : {A E P : Type 0} (r : Result A E) → P → OnErr r P
on_err_always (Ok x) p = tt
on_err_always (Err e) p = p

pub handed_on : {A : Type 0} (P : Wanted → Type 0) (r : Result A Wanted) (w : Wanted) → IsErrAnd r (λ d. d ≡ w) → P w → IfErr r P
handed_on P (Ok x) w is p = tt
handed_on P (Err d) w is p = subst P (sym is) p

pub first_told : (run : Run) (most place : ℕ) (e : Entry) (w : Wanted) → place ≤ most → IsRun (start_of run place) → slice_get run.entries place ≡ Some e → TellsOf (start_of run place) e w → TellsFirst run most w
first_told run most place e (Broken rule found) low before at tells = record { place = place; within = low; before = before; entry = e; at = at; tells = tells }
first_told run most place e NoMemory low before at tells = tt

-- ---- a repository with more room

pub member_stays : (m n : Member) → StaysMember m n → (s : SetUp) (st : State) (words : ℕ → ℕ → Option Word) → IsMemberOf m s st words → IsMemberOf n s st words
member_stays m n same s st words is = record {
  state = subst (λ x. IsStateOf x s st) (sym same.state) is.state;
  heard = λ job c. is.heard job c ∙ sym (same.words job c);
  paths = λ w among. is.paths w among ∙ ap (λ entries. unwrap_or (lookup (same_job w.number) entries) []) (sym same.paths);
}

pub bounded_stays : (m n : Member) → StaysMember m n → (count made : ℕ) → IsBounded count made m → IsBounded count made n
bounded_stays m n same count made b = record {
  well = subst IsWell (sym same.state) b.well;
  repos = ap count_of same.state ∙ b.repos;
  few = subst (λ x. made_of x ≤ made) (sym same.state) b.few;
}

-- ---- one of several

pub changes_at : (P : Member → Member → Type 0) (ms : List Member) (r : ℕ) (m n : Member) → slice_get ms r ≡ Some m → P m n → ChangesMember r P ms (slice_set ms r n)
changes_at P ms r m n at here = record {
  count = length_set ms r n;
  here = λ x y was now. let one : m ≡ x = same_one m x (sym at ∙ was) in subst (λ (z : Member). P z y) one (subst (P m) (set_here ms r n y now) here);
  others = λ q apart. set_there ms r q n apart;
}
  where
    same_one : (a b : Member) → Some a ≡ Some b → a ≡ b
    same_one a b is = cc
