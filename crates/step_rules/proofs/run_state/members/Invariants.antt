-- What holds at each turn of the loop of `run_state::members`.
use Rattle.std.proofs.Common.{◌≡◌, ℕ, length, None, Some}
use Rattle.std.specs.Prelude.{slice_get}
use Rattle.annex_base.specs.Lists.{Each}
use Rattle.node_model.specs.After.{first_state}
use Rattle.node_model.specs.SetUp.{SetUp}
use Rattle.step_rules.specs.Members.{IsBounded, IsMemberOf}
use Rattle.step_rules.specs.declared.member.Member.{Member}
use Rattle.step_rules.proofs.run_state.members.Given as goal

abbrev pub invariant-loop-number : goal.invariant-loop-number
invariant-loop-number l = record {
  count : length l.all.items ≡ l.number;
  members : (r : ℕ) (m : Member) → slice_get l.all.items r ≡ Some m → (s : SetUp) → s.repos ≡ l.repos → s.number ≡ r → IsMemberOf m s (first_state s) (λ job c. None);
  bounded : Each (IsBounded (length l.repos) 0) l.all.items;
}
