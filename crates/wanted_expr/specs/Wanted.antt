-- Which contents a repository wants, and which it requires (git-annex-preferred-content, git-annex-required, git-annex-groupwanted;
-- where the project differs, its own rule is marked).
use Rattle.std.specs.Prelude.{ℕ, nat_le, Bool, true, false, not, ◌&&◌, ◌||◌, if◌then◌else◌, List, [], ◌∷◌, codes, bytes_eq, filter, flat_map, map, Option, Some, None, is_some, option_to_list, unwrap_or}
use Rattle.std.specs.List.{list_any}
use Rattle.annex_base.specs.Settings.{Settings}
use Rattle.annex_key.specs.Tree.{each_once}
use Rattle.annex_key.specs.View.{backend_part, size_part}
use Rattle.glob_match.specs.Numbers.{numcopies_of}
use Rattle.wanted_expr.specs.declared.data.Claimant.{Claimant}
use Rattle.wanted_expr.specs.declared.data.Facts.{Facts}
use Rattle.wanted_expr.specs.declared.data.Member.{Member}
use Rattle.wanted_expr.specs.declared.data.Word.TheVariants.{Present}
use Rattle.wanted_expr.specs.Formula.{Formula, Atom}
use Rattle.wanted_expr.specs.Parsed.{entry_of, formula_in}
use Rattle.wanted_expr.specs.Truth.{has_groupwanted, holds, rank}

-- A repository stands here as its identifier, a group as its name, and a key as its text.

-- ---- what an expression says

-- a text outside the grammar reads as `present` (own)
abbrev pub formula_read : List ℕ → Formula
formula_read text = unwrap_or (formula_in text) (Atom Present)

abbrev pub without_groupwanted : Formula → Formula
without_groupwanted formula = if has_groupwanted formula then Atom Present else formula

-- so does the expression of a group where it has `groupwanted` (own)
abbrev pub group_formula : List ℕ → Formula
group_formula text = without_groupwanted (formula_read text)

-- the standard groups (own)
abbrev pub standard_texts : List (List ℕ × List ℕ)
standard_texts =
    (codes "backup", codes "anything")
    ∷ (codes "source", codes "not copies=1")
    ∷ (codes "archive", codes "not copies=archive:1 or approxlackingcopies=1")
    ∷ (codes "client", codes "exclude=*archive/* or not copies=archive:1 or approxlackingcopies=1")
    ∷ (codes "unwanted", codes "nothing")
    ∷ []

-- ---- facts

-- the repositories that are claimed to have the key; the repository's own copy may be assumed gone
abbrev pub claimed_with : Settings → List ℕ → List ℕ → Bool → List (List ℕ)
claimed_with s repo key gone = filter (λ claimed. not (gone && bytes_eq repo claimed)) (s.claims key)

abbrev pub claimant : Settings → List ℕ → Claimant
claimant s repo = record { repo = repo; level = s.level repo; groups = s.groups repo }

-- the members of groups, without dead repositories
abbrev pub members : Settings → List Member
members s = flat_map (λ repo. map (λ group. record { repo = repo; group = group }) (s.groups repo)) (filter (λ repo. nat_le 1 (rank (s.level repo))) s.grouped)

-- what an expression of the repository is judged by, for a key at a path, beside the expressions of its groups
abbrev pub plain_facts : Settings → List ℕ → List ℕ → Bool → Option (List ℕ) → Facts
plain_facts s repo key gone path = record {
  path = path;
  backend = backend_part key;
  size = size_part key;
  present = list_any (bytes_eq repo) (s.claims key);
  numcopies = numcopies_of s (option_to_list path);
  claimed = map (claimant s) (claimed_with s repo key gone);
  members = members s;
  standard = false;
  groupwanted = false;
}

-- the one group for which there is a text that isn't empty; a doubled group counts once
abbrev pub is_text : List ℕ → Bool
is_text [] = false
is_text (b ∷ bs) = true

abbrev pub only_text : List (List ℕ) → List ℕ
only_text (text ∷ []) = text
only_text texts = []

abbrev pub group_text : (List ℕ → List ℕ) → List (List ℕ) → List ℕ
group_text text_of groups = only_text (filter is_text (map text_of (each_once groups)))

-- false where there is no such group, or where there are several (own)
abbrev pub text_holds : (List ℕ → Formula) → List ℕ → Facts → Bool
text_holds read text f = is_text text && holds (read text) f

abbrev pub standard_text : List ℕ → List ℕ
standard_text group = unwrap_or (entry_of standard_texts group) []

-- the expression of the repository's standard group holds, and then that of its one group with an expression
abbrev pub with_standard : Settings → List ℕ → Facts → Facts
with_standard s repo f = record f { standard = text_holds formula_read (group_text standard_text (s.groups repo)) f }

abbrev pub with_groupwanted : Settings → List ℕ → Facts → Facts
with_groupwanted s repo f = record f { groupwanted = text_holds group_formula (group_text s.group_preferred (s.groups repo)) f }

abbrev pub facts : Settings → List ℕ → List ℕ → Bool → Option (List ℕ) → Facts
facts s repo key gone path = with_groupwanted s repo (with_standard s repo (plain_facts s repo key gone path))

-- ---- wants and requirements

-- some path of the key, or none where it has no path
abbrev pub cases_of : List (List ℕ) → List (Option (List ℕ))
cases_of [] = None ∷ []
cases_of (path ∷ paths) = map (λ p. Some p) (path ∷ paths)

-- the text is true for the repository and the key
abbrev pub is_true : Settings → List ℕ → List ℕ → List (List ℕ) → Bool → List ℕ → Bool
is_true s repo key paths gone text = list_any (λ path. holds (formula_read text) (facts s repo key gone path)) (cases_of paths)

-- whether the repository wants the key, which has these paths; its copy may be assumed gone. No expression wants everything (own)
unfoldable pub wants : Settings → List ℕ → List ℕ → List (List ℕ) → Bool → Bool
wants s repo key paths gone = let text = s.preferred repo in not (is_text text) || is_true s repo key paths gone text

-- the expression of a repository that requires the key, which has these paths, with the repository's copy assumed gone: no
-- expression requires nothing (own)
unfoldable pub required : Settings → List ℕ → List ℕ → List (List ℕ) → Option (List ℕ)
required s repo key paths = let text = s.required repo in if is_text text && is_true s repo key paths true text then Some text else None

abbrev pub is_required : Settings → List ℕ → List ℕ → List (List ℕ) → Bool
is_required s repo key paths = is_some (required s repo key paths)
