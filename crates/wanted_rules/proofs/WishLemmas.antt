-- What the expressions of a repository say, by the facts for a key.
use Rattle.std.proofs.Common.{◌≡◌, ℕ, ◌+◌, ◌<◌, Bool, true, false, not, ◌&&◌, ◌||◌, if◌then◌else◌, List, [], ◌∷◌, ◌++◌, length, filter, flat_map, get_or, map, take, Option, Some, None, refl, sym, ap, ◌∙◌, append_assoc, bytes_eq, nat_le}
use Rattle.std.specs.List.{list_any}
use Rattle.std.proofs.lemmas.Grind.{flat_map-append}
use Rattle.std.proofs.lemmas.List.{append-nil, map-append, take_more}
use Rattle.std.proofs.lemmas.List.Elements.{filter-append}
use Rattle.std.proofs.lemmas.Option.{none-some, same_Some}
use Rattle.annex_base.specs.Settings.{Settings}
use Rattle.annex_base.proofs.Options.{some_none}
use Rattle.glob_match.specs.Numbers.{numcopies_of}
use Rattle.wanted_expr.specs.declared.data.Claimant.{Claimant}
use Rattle.wanted_expr.specs.declared.data.Facts.{Facts}
use Rattle.wanted_expr.specs.declared.data.Member.{Member}
use Rattle.wanted_expr.specs.Formula.{Formula}
use Rattle.wanted_expr.specs.Truth.{holds, rank}
use Rattle.wanted_expr.specs.Wanted.{cases_of, claimant, facts, formula_read, group_formula, group_text, is_text, plain_facts, required, standard_text, text_holds, wants, with_groupwanted, with_standard}
use Rattle.trust_groups.specs.View.{text_read}
use Rattle.wanted_rules.specs.Reads.{GroupFormulas, at_path, claimed_by, formula_holds, group_formulas, judged, members_among, members_of, with_groupwanted_by, with_standard_by}
use Rattle.wanted_rules.proofs.GroupLemmas.{list_any_map}

-- ---- the expressions of groups

read_holds : (read : List ℕ → Formula) (text : List ℕ) (f : Facts) → formula_holds (text_read read text) f ≡ text_holds read text f
read_holds read text f = elim (is_text text) as (λ b. formula_holds (if b then Some (read text) else None) f ≡ (b && holds (read text) f)) [
  | true ↦ refl
  | false ↦ refl
]

by_standard : (s : Settings) (repo : List ℕ) (f : Facts) → with_standard_by (group_formulas s repo) f ≡ with_standard s repo f
by_standard s repo f = ap (λ (b : Bool). record f { standard = b }) (read_holds formula_read (group_text standard_text (s.groups repo)) f)

by_groupwanted : (s : Settings) (repo : List ℕ) (f : Facts) → with_groupwanted_by (group_formulas s repo) f ≡ with_groupwanted s repo f
by_groupwanted s repo f = ap (λ (b : Bool). record f { groupwanted = b }) (read_holds group_formula (group_text s.group_preferred (s.groups repo)) f)

pub judged_is : (s : Settings) (repo : List ℕ) (g : GroupFormulas) (f : Facts) → g ≡ group_formulas s repo → judged g f ≡ with_groupwanted s repo (with_standard s repo f)
judged_is s repo g f is =
    ap (λ (h : GroupFormulas). judged h f) is ∙ ap (with_groupwanted_by (group_formulas s repo)) (by_standard s repo f) ∙ by_groupwanted s repo (with_standard s repo f)

-- ---- the paths of a key

or_false : (b : Bool) → (b || false) ≡ b
or_false true = refl
or_false false = refl

-- without a path
pub true_nowhere : (s : Settings) (repo key : List ℕ) (gone : Bool) (g : GroupFormulas) (expr : Formula) (paths : List (List ℕ)) → g ≡ group_formulas s repo → paths ≡ []
    → holds expr (judged g (plain_facts s repo key gone None)) ≡ list_any (λ path. holds expr (facts s repo key gone path)) (cases_of paths)
true_nowhere s repo key gone g expr paths is none =
    ap (holds expr) (judged_is s repo g (plain_facts s repo key gone None) is)
    ∙ sym (or_false (holds expr (facts s repo key gone None)))
    ∙ ap (λ (ps : List (List ℕ)). list_any (λ path. holds expr (facts s repo key gone path)) (cases_of ps)) (sym none)

some_cases : (paths : List (List ℕ)) → (paths ≡ [] → ⊥) → map (λ p. Some p) paths ≡ cases_of paths
some_cases [] some = absurd (some refl)
some_cases (path ∷ paths) some = refl

-- at some path
pub true_at_some : (s : Settings) (repo key : List ℕ) (gone : Bool) (g : GroupFormulas) (expr : Formula) (paths : List (List ℕ)) → g ≡ group_formulas s repo → (paths ≡ [] → ⊥)
    → list_any (λ path. holds expr (judged g (at_path (plain_facts s repo key gone None) (numcopies_of s (path ∷ [])) path))) paths ≡ list_any (λ path. holds expr (facts s repo key gone path)) (cases_of paths)
true_at_some s repo key gone g expr paths is some =
    let each : (λ (path : List ℕ). holds expr (judged g (at_path (plain_facts s repo key gone None) (numcopies_of s (path ∷ [])) path))) ≡ (λ (path : List ℕ). holds expr (facts s repo key gone (Some path)))
    = λ i path. holds expr (judged_is s repo g (plain_facts s repo key gone (Some path)) is i) in
    ap (λ (p : List ℕ → Bool). list_any p paths) each
    ∙ list_any_map (λ (path : Option (List ℕ)). holds expr (facts s repo key gone path)) (λ (p : List ℕ). Some p) paths
    ∙ ap (list_any (λ path. holds expr (facts s repo key gone path))) (some_cases paths some)

-- ---- wants and requirements

pub wants_all : (s : Settings) (repo key : List ℕ) (paths : List (List ℕ)) (gone : Bool) → None ≡ text_read formula_read (s.preferred repo) → true ≡ wants s repo key paths gone
unfolding wants
wants_all s repo key paths gone none = go (is_text (s.preferred repo)) none
  where
    go : (b : Bool) → None ≡ (if b then Some (formula_read (s.preferred repo)) else None) → true ≡ (not b || list_any (λ path. holds (formula_read (s.preferred repo)) (facts s repo key gone path)) (cases_of paths))
    go true e = absurd (none-some (formula_read (s.preferred repo)) e)
    go false e = refl

pub wants_by : (s : Settings) (repo key : List ℕ) (paths : List (List ℕ)) (gone : Bool) (expr : Formula) → Some expr ≡ text_read formula_read (s.preferred repo)
    → list_any (λ path. holds expr (facts s repo key gone path)) (cases_of paths) ≡ wants s repo key paths gone
unfolding wants
wants_by s repo key paths gone expr some = go (is_text (s.preferred repo)) some
  where
    go : (b : Bool) → Some expr ≡ (if b then Some (formula_read (s.preferred repo)) else None)
        → list_any (λ path. holds expr (facts s repo key gone path)) (cases_of paths) ≡ (not b || list_any (λ path. holds (formula_read (s.preferred repo)) (facts s repo key gone path)) (cases_of paths))
    go true e = let is = same_Some expr (formula_read (s.preferred repo)) e in ap (λ (x : Formula). list_any (λ path. holds x (facts s repo key gone path)) (cases_of paths)) is
    go false e = absurd (some_none expr e)

pub requires_none : (s : Settings) (repo key : List ℕ) (paths : List (List ℕ)) → None ≡ text_read formula_read (s.required repo) → None ≡ required s repo key paths
unfolding required
requires_none s repo key paths none = go (is_text (s.required repo)) none
  where
    go : (b : Bool) → None ≡ (if b then Some (formula_read (s.required repo)) else None)
        → None ≡ (if b && list_any (λ path. holds (formula_read (s.required repo)) (facts s repo key true path)) (cases_of paths) then Some (s.required repo) else None)
    go true e = absurd (none-some (formula_read (s.required repo)) e)
    go false e = refl

pub requires_by : (s : Settings) (repo key : List ℕ) (paths : List (List ℕ)) (expr : Formula) (found : Bool) → Some expr ≡ text_read formula_read (s.required repo)
    → found ≡ list_any (λ path. holds expr (facts s repo key true path)) (cases_of paths) → (if found then Some (s.required repo) else None) ≡ required s repo key paths
unfolding required
requires_by s repo key paths expr found some is = go (is_text (s.required repo)) some
  where
    go : (b : Bool) → Some expr ≡ (if b then Some (formula_read (s.required repo)) else None)
        → (if found then Some (s.required repo) else None) ≡ (if b && list_any (λ path. holds (formula_read (s.required repo)) (facts s repo key true path)) (cases_of paths) then Some (s.required repo) else None)
    go true e =
        let same = same_Some expr (formula_read (s.required repo)) e in
        ap (λ (t : Bool). if t then Some (s.required repo) else None) (is ∙ ap (λ (x : Formula). list_any (λ path. holds x (facts s repo key true path)) (cases_of paths)) same)
    go false e = absurd (some_none expr e)

-- ---- facts

pub next_claimed : (s : Settings) (repo : List ℕ) (gone : Bool) (repos : List (List ℕ)) (i : ℕ) (other : List ℕ) (claimed : List Claimant) → i < length repos → other ≡ get_or repos i other → claimed ≡ claimed_by s repo gone (take i repos)
    → claimed ++ claimed_by s repo gone (other ∷ []) ≡ claimed_by s repo gone (take (i + 1) repos)
next_claimed s repo gone repos i other claimed within is so_far =
    let p = λ (c : List ℕ). not (gone && bytes_eq repo c) in
    ap (λ (cs : List Claimant). cs ++ claimed_by s repo gone (other ∷ [])) so_far
    ∙ sym (map-append (claimant s) (filter p (take i repos)) (filter p (other ∷ [])))
    ∙ ap (map (claimant s)) (sym (filter-append p (take i repos) (other ∷ [])))
    ∙ ap (claimed_by s repo gone) (ap (λ (r : List ℕ). take i repos ++ r ∷ []) is ∙ sym (take_more repos i other within))

pub next_members : (s : Settings) (repos : List (List ℕ)) (i : ℕ) (repo : List ℕ) (members : List Member) → i < length repos → repo ≡ get_or repos i repo → members ≡ members_among s (take i repos)
    → members ++ members_among s (repo ∷ []) ≡ members_among s (take (i + 1) repos)
next_members s repos i repo members within is so_far =
    let p = λ (r : List ℕ). nat_le 1 (rank (s.level r)) in
    let f = λ (r : List ℕ). members_of r (s.groups r) in
    ap (λ (ms : List Member). ms ++ members_among s (repo ∷ [])) so_far
    ∙ sym (flat_map-append f (filter p (take i repos)) (filter p (repo ∷ [])))
    ∙ ap (flat_map f) (sym (filter-append p (take i repos) (repo ∷ [])))
    ∙ ap (members_among s) (ap (λ (r : List ℕ). take i repos ++ r ∷ []) is ∙ sym (take_more repos i repo within))

-- one repository that is alive
pub alive_members : (s : Settings) (repo : List ℕ) → nat_le 1 (rank (s.level repo)) ≡ true → members_of repo (s.groups repo) ≡ members_among s (repo ∷ [])
alive_members s repo alive = rw alive (sym (append-nil (members_of repo (s.groups repo))))

pub dead_members : (s : Settings) (repo : List ℕ) (members : List Member) → nat_le 1 (rank (s.level repo)) ≡ false → members ≡ members ++ members_among s (repo ∷ [])
dead_members s repo members dead = rw dead (sym (append-nil members))

pub next_member : (repo : List ℕ) (groups : List (List ℕ)) (i : ℕ) (group : List ℕ) (before members : List Member) → i < length groups → group ≡ get_or groups i group → members ≡ before ++ members_of repo (take i groups)
    → members ++ record { repo = repo; group = group } ∷ [] ≡ before ++ members_of repo (take (i + 1) groups)
next_member repo groups i group before members within is so_far =
    let member : Member = record { repo = repo; group = group } in
    ap (λ (ms : List Member). ms ++ member ∷ []) so_far
    ∙ append_assoc before (members_of repo (take i groups)) (member ∷ [])
    ∙ ap (λ (ms : List Member). before ++ ms) (sym (map-append (λ (g : List ℕ). let m : Member = record { repo = repo; group = g } in m) (take i groups) (group ∷ []))
    ∙ ap (members_of repo) (ap (λ (g : List ℕ). take i groups ++ g ∷ []) is ∙ sym (take_more groups i group within)))

pub gone_claimed : (s : Settings) (repo : List ℕ) (gone : Bool) (other : List ℕ) (claimed : List Claimant) → (gone && bytes_eq repo other) ≡ true → claimed ≡ claimed ++ claimed_by s repo gone (other ∷ [])
gone_claimed s repo gone other claimed is = rw is (sym (append-nil claimed))

pub here_claimed : (s : Settings) (repo : List ℕ) (gone : Bool) (other : List ℕ) → (gone && bytes_eq repo other) ≡ false → claimant s other ∷ [] ≡ claimed_by s repo gone (other ∷ [])
here_claimed s repo gone other is = rw is refl
