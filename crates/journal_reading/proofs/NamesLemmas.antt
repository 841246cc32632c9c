-- Lists of repositories are read as they are written.
use Rattle.std.proofs.Common.{◌≡◌, ℕ, true, List, [], ◌∷◌, refl}
use Rattle.std.specs.List.{flat_map}
use Rattle.annex_base.specs.Lists.{Each}
use Rattle.annex_base.proofs.Lists.{list_all_append}
use Rattle.run_data.specs.declared.run.RepoView.{RepoView}
use Rattle.journal_reading.specs.Forms.{Form, joined}
use Rattle.journal_reading.specs.Fields.{repo_number, rises, repo_list}
use Rattle.journal_reading.proofs.FormLemmas.{IsForm, Lacks, lacks, is_other}
use Rattle.journal_reading.proofs.FieldLemmas.{AreNamed, is_repo_number, is_tested}
use Rattle.journal_reading.proofs.ListLemmas.{is_joined}

rest_lacks : {A : Type 0} (c b : ℕ) (form : Form A) → Lacks c form → is_other c b ≡ true → (xs : List A) → Each form.ok xs → lacks c (flat_map (λ y. b ∷ form.text y) xs) ≡ true
rest_lacks c b form none apart [] each = refl
rest_lacks c b form none apart (x ∷ xs) each =
    list_all_append (is_other c) (b ∷ form.text x) (flat_map (λ y. b ∷ form.text y) xs) (rw apart (none x each.0)) (rest_lacks c b form none apart xs each.1)

pub joined_lacks : {A : Type 0} (c b : ℕ) (form : Form A) → Lacks c form → is_other c b ≡ true → is_other c 45 ≡ true → Lacks c (joined b form)
joined_lacks c b form none apart dash [] each = rw dash refl
joined_lacks c b form none apart dash (x ∷ xs) each =
    list_all_append (is_other c) (form.text x) (flat_map (λ y. b ∷ form.text y) xs) (none x each.0) (rest_lacks c b form none apart xs each.1)

pub is_repo_list : (repos : List RepoView) → AreNamed repos → IsForm (repo_list repos)
is_repo_list repos named = is_tested rises (joined 44 (repo_number repos)) (is_joined 44 (repo_number repos) (is_repo_number repos named) named.lacks_comma refl named.no_dash)

pub list_space : (repos : List RepoView) → AreNamed repos → Lacks 32 (repo_list repos)
list_space repos named xs ok = joined_lacks 32 44 (repo_number repos) named.lacks_space refl refl xs ok.0
