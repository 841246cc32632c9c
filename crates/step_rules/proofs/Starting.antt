-- Before the first entry of a run.
use Rattle.std.proofs.Common.{◌≡◌, ℕ, zero, suc, ◌≤◌, List, [], ◌∷◌, ◌++◌, length, Some, None, inl, inr, subst, ◌∙◌, arith}
use Rattle.std.specs.Prelude.{slice_get}
use Rattle.annex_base.specs.Lists.{Each}
use Rattle.run_data.specs.Repos.{IsSetUp, offset_of}
use Rattle.run_data.specs.declared.run.RepoView.{RepoView}
use Rattle.node_model.specs.After.{first_state}
use Rattle.node_model.specs.SetUp.{SetUp}
use Rattle.step_rules.specs.Members.{IsMemberOf}
use Rattle.step_rules.specs.declared.member.Member.{Member}
use Rattle.step_rules.proofs.Places.{place_last}

pub offset_low : (repos : List RepoView) (r : ℕ) → Each IsSetUp repos → offset_of repos r ≤ 100000000000
offset_low [] r is = omega arith
offset_low (x ∷ repos) zero is = is.0.offset
offset_low (x ∷ repos) (suc r) is = offset_low repos r is.1

abbrev pub IsFirst : List RepoView → ℕ → Member → Type 0
IsFirst repos r m = (s : SetUp) → s.repos ≡ repos → s.number ≡ r → IsMemberOf m s (first_state s) (λ job c. None)

pub member_more : (was now : List Member) (repos : List RepoView) (n : ℕ) (x : Member) → now ≡ was ++ x ∷ [] → length was ≡ n → ((r : ℕ) (m : Member) → slice_get was r ≡ Some m → IsFirst repos r m) → IsFirst repos n x
    → (r : ℕ) (m : Member) → slice_get now r ≡ Some m → IsFirst repos r m
member_more was now repos n x more long before last r m at =
    elim (place_last was r x m (subst (λ ms. slice_get ms r ≡ Some m) more at)) [
      | inl here ↦ (λ s same number. subst (λ (y : Member). IsMemberOf y s (first_state s) (λ job c. None)) here.1 (last s same (number ∙ here.0 ∙ long)))
      | inr there ↦ before r m there
    ]
