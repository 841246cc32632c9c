-- Repositories, and changes of the tree, one after the other.
use Rattle.std.proofs.Common.{◌≡◌, ℕ, Bool, true, false, List, [], ◌∷◌, ◌++◌, Option, Some, None, refl, ap, subst, ◌∙◌}
use Rattle.std.specs.Prelude.{◌&&◌, nat_le, if◌then◌else◌}
use Rattle.std.proofs.lemmas.Option.{cond_some}
use Rattle.annex_base.specs.OptionSteps.{◌>>=◌}
use Rattle.run_data.specs.declared.run.RepoView.{RepoView}
use Rattle.run_data.specs.declared.run.TreeMark.{TreeMark}
use Rattle.journal_reading.specs.Lines.{repo_form, is_new, path_form}
use Rattle.journal_reading.specs.Reading.{repo_by, repos_in, mark_by, marks_in}
use Rattle.journal_reader.specs.Steps.{repo_behind, next_repo, mark_behind, next_mark}
use Rattle.journal_reader.proofs.PushLemmas.{before_rest, before_more, before_end}

none_cond : {A : Type 0} (b : Bool) (x : A) → (if b then Some x else None) ≡ None → b ≡ false
none_cond true x e = absurd cc
none_cond false x e = refl

-- ---- repositories

repo_on : (repos : List RepoView) (lines : List (List ℕ)) (x : RepoView × List (List ℕ)) → next_repo repos lines ≡ Some x → repos_in repos lines ≡ repos_in (repos ++ x.0 ∷ []) x.1
repo_on repos [] x e = absurd cc
repo_on repos (line ∷ lines) x e = go (repo_form.read line) e
  where
    go : (o : Option RepoView) → (o >>= repo_behind repos lines) ≡ Some x → repo_by repos o line lines (λ more. repos_in more lines) ≡ repos_in (repos ++ x.0 ∷ []) x.1
    go None e = absurd cc
    go (Some r) e =
        let h = cond_some (is_new repos r) (r, lines) x e in
        subst (λ y. repo_by repos (Some r) line lines (λ more. repos_in more lines) ≡ repos_in (repos ++ y.0 ∷ []) y.1) h.1 (rw h.0 refl)

pub repo_more : (repos : List RepoView) (whole : List RepoView × List (List ℕ)) (lines : List (List ℕ)) (x : RepoView × List (List ℕ))
    → whole ≡ repos_in repos lines → next_repo repos lines ≡ Some x → whole ≡ repos_in (repos ++ x.0 ∷ []) x.1
repo_more repos whole lines x so_far is = so_far ∙ repo_on repos lines x is

repo_over : (repos : List RepoView) (lines : List (List ℕ)) → next_repo repos lines ≡ None → repos_in repos lines ≡ (repos, lines)
repo_over repos [] e = refl
repo_over repos (line ∷ lines) e = go (repo_form.read line) e
  where
    go : (o : Option RepoView) → (o >>= repo_behind repos lines) ≡ None → repo_by repos o line lines (λ more. repos_in more lines) ≡ (repos, line ∷ lines)
    go None e = refl
    go (Some r) e = rw (none_cond (is_new repos r) (r, lines) e) refl

pub repo_end : (repos : List RepoView) (whole : List RepoView × List (List ℕ)) (lines : List (List ℕ))
    → whole ≡ repos_in repos lines → next_repo repos lines ≡ None → whole ≡ (repos, lines)
repo_end repos whole lines so_far none = so_far ∙ repo_over repos lines none

-- ---- changes of the tree

abbrev Marks : Type 0
Marks = List TreeMark × List (List ℕ)

-- a change before others
abbrev mark_first : TreeMark → Marks → Marks
mark_first m x = (m ∷ x.0, x.1)

abbrev more_marks : ℕ → TreeMark × List (List ℕ) → Marks
more_marks most x = mark_first x.0 (marks_in x.0.place most x.1)

mark_on : (last most : ℕ) (lines : List (List ℕ)) (x : TreeMark × List (List ℕ)) → next_mark last most lines ≡ Some x → marks_in last most lines ≡ more_marks most x
mark_on last most [] x e = absurd cc
mark_on last most (line ∷ lines) x e = go (path_form.read line) e
  where
    go : (o : Option TreeMark) → (o >>= mark_behind last most lines) ≡ Some x → mark_by last most o line lines (λ place. marks_in place most lines) ≡ more_marks most x
    go None e = absurd cc
    go (Some m) e =
        let h = cond_some (nat_le last m.place && nat_le m.place most) (m, lines) x e in
        subst (λ y. mark_by last most (Some m) line lines (λ place. marks_in place most lines) ≡ more_marks most y) h.1 (rw h.0 refl)

mark_over : (last most : ℕ) (lines : List (List ℕ)) → next_mark last most lines ≡ None → marks_in last most lines ≡ ([], lines)
mark_over last most [] e = refl
mark_over last most (line ∷ lines) e = go (path_form.read line) e
  where
    go : (o : Option TreeMark) → (o >>= mark_behind last most lines) ≡ None → mark_by last most o line lines (λ place. marks_in place most lines) ≡ ([], line ∷ lines)
    go None e = refl
    go (Some m) e = rw (none_cond (nat_le last m.place && nat_le m.place most) (m, lines) e) refl

pub mark_more : (last most : ℕ) (marks : List TreeMark) (whole : Marks) (lines : List (List ℕ)) (x : TreeMark × List (List ℕ))
    → whole ≡ before_rest marks (marks_in last most lines) → next_mark last most lines ≡ Some x
    → whole ≡ before_rest (marks ++ x.0 ∷ []) (marks_in x.0.place most x.1)
mark_more last most marks whole lines x so_far is =
    so_far ∙ ap (before_rest marks) (mark_on last most lines x is) ∙ before_more marks x.0 (marks_in x.0.place most x.1)

pub mark_end : (last most : ℕ) (marks : List TreeMark) (whole : Marks) (lines : List (List ℕ))
    → whole ≡ before_rest marks (marks_in last most lines) → next_mark last most lines ≡ None → whole ≡ (marks, lines)
mark_end last most marks whole lines so_far none = so_far ∙ ap (before_rest marks) (mark_over last most lines none) ∙ before_end marks lines
