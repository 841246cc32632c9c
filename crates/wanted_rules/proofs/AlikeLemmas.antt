-- Equal settings give the same wants, requirements and plans.
use Rattle.std.proofs.Common.{◌≡◌, ap}
use Rattle.annex_base.specs.Settings.{Settings}
use Rattle.wanted_expr.specs.Wanted.{required, wants}
use Rattle.wanted_rules.specs.Plan.{PlanAlike, plan}

pub equal_alike : (s t : Settings) → s ≡ t → PlanAlike s t
equal_alike s t same = record {
  wants_alike = λ repo key paths gone. ap (λ u. wants u repo key paths gone) same;
  required_alike = λ repo key paths. ap (λ u. required u repo key paths) same;
  plan_alike = λ tree here repos. ap (λ u. plan u tree here repos) same;
}
