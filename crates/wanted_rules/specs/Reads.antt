-- What is read once of the expressions of a repository, and the facts that they are judged by.
use Rattle.std.specs.Prelude.{◌≡◌, ℕ, Bool, false, nat_le, not, ◌&&◌, if◌then◌else◌, List, [], ◌∷◌, ◌++◌, bytes_eq, filter, flat_map, map, Option, Some, None}
use Rattle.std.specs.List.{list_any}
use Rattle.std.specs.Option.{option_copied}
use Rattle.annex_base.specs.Settings.{Settings}
use Rattle.trust_groups.specs.Reads.{Indices}
use Rattle.trust_groups.specs.View.{text_read}
use Rattle.wanted_expr.specs.declared.data.Claimant.{Claimant}
use Rattle.wanted_expr.specs.declared.data.Facts.{Facts}
use Rattle.wanted_expr.specs.declared.data.Member.{Member}
use Rattle.wanted_expr.specs.Formula.{Formula}
use Rattle.wanted_expr.specs.Truth.{holds, rank}
use Rattle.wanted_expr.specs.Wanted.{claimant, formula_read, group_formula, group_text, standard_text}
use Rattle.wanted_rules.specs.declared.group_exprs.GroupExprs.{GroupExprs}

-- a repository, and the settings by which its wishes are told
pub record Wishing : Type 0 where
  pub indices : Indices
  pub repo : List ℕ

-- ---- expressions

-- the names with one more, unless it stands there
abbrev pub once_with : List (List ℕ) → List ℕ → List (List ℕ)
once_with names name = if list_any (bytes_eq name) names then names else names ++ name ∷ []

-- what `standard` and `groupwanted` stand for in the expressions of a repository
pub record GroupFormulas : Type 0 where
  pub standard : Option Formula
  pub groupwanted : Option Formula

abbrev pub group_formulas : Settings → List ℕ → GroupFormulas
group_formulas s repo = record {
  standard = text_read formula_read (group_text standard_text (s.groups repo));
  groupwanted = text_read group_formula (group_text s.group_preferred (s.groups repo));
}

-- the same of expressions that stand elsewhere
abbrev pub formulas_of : GroupExprs → GroupFormulas
formulas_of g = record { standard = option_copied g.standard; groupwanted = option_copied g.groupwanted }

-- the one formula; none where there are several
abbrev pub only_formula : List Formula → Option Formula
only_formula (formula ∷ []) = Some formula
only_formula formulas = None

-- the expressions are those of the repository
pub record AreRead (s : Settings) (repo : List ℕ) (preferred required : Option Formula) (groups : GroupFormulas) : Type 0 where
  pub is_preferred : preferred ≡ text_read formula_read (s.preferred repo)
  pub is_required : required ≡ text_read formula_read (s.required repo)
  pub are_groups : groups ≡ group_formulas s repo

-- ---- facts

-- no expression holds nowhere
abbrev pub formula_holds : Option Formula → Facts → Bool
formula_holds None f = false
formula_holds (Some formula) f = holds formula f

-- with what the expressions of the groups say
abbrev pub with_standard_by : GroupFormulas → Facts → Facts
with_standard_by g f = record f { standard = formula_holds g.standard f }

abbrev pub with_groupwanted_by : GroupFormulas → Facts → Facts
with_groupwanted_by g f = record f { groupwanted = formula_holds g.groupwanted f }

abbrev pub judged : GroupFormulas → Facts → Facts
judged g f = with_groupwanted_by g (with_standard_by g f)

-- at a path with this number of copies
abbrev pub at_path : Facts → ℕ → List ℕ → Facts
at_path f numcopies path = record f { path = Some path; numcopies = numcopies; standard = false; groupwanted = false }

-- repositories that are claimed, without one whose copy is assumed gone
abbrev pub claimed_by : Settings → List ℕ → Bool → List (List ℕ) → List Claimant
claimed_by s repo gone repos = map (claimant s) (filter (λ claimed. not (gone && bytes_eq repo claimed)) repos)

-- the groups of a repository
abbrev pub members_of : List ℕ → List (List ℕ) → List Member
members_of repo groups = map (λ group. record { repo = repo; group = group }) groups

-- the groups of the repositories that aren't dead
abbrev pub members_among : Settings → List (List ℕ) → List Member
members_among s repos = flat_map (λ repo. members_of repo (s.groups repo)) (filter (λ repo. nat_le 1 (rank (s.level repo))) repos)
