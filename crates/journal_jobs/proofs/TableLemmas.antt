-- Tables whose rows begin with the same mark, and tables that follow each other.
use Rattle.std.proofs.Common.{◌≡◌, ℕ, List, [], ◌∷◌, ◌++◌, map, Option, Some, None, refl, sym, ap, ◌∙◌}
use Rattle.std.specs.Prelude.{codes}
use Rattle.std.specs.Option.{option_or}
use Rattle.annex_base.specs.OptionSteps.{◌>>=◌}
use Rattle.run_data.specs.declared.run.RepoView.{RepoView}
use Rattle.run_data.specs.declared.job.Outcome.{Outcome}
use Rattle.script_words.specs.Marks.{behind_mark}
use Rattle.journal_reading.specs.Forms.{Row, row_in, by_rows}
use Rattle.journal_reading.specs.Kinds.{done_rows, drop_rows, transfer_rows, outcome_form}
use Rattle.journal_jobs.specs.Tables.{marked, refusal_rows, refused_transfers, ended_at}
use Rattle.journal_jobs.proofs.MarkLemmas.{none_after, behind_more}

one_row : {A : Type 0} (o : Option (List ℕ)) (r : Row A) (rows : List (Row A))
    → option_or ((o >>= behind_mark r.mark) >>= r.read) (o >>= by_rows rows) ≡ (o >>= by_rows (r ∷ rows))
one_row None r rows = refl
one_row (Some rest) r rows = refl

pub marked_rows : {A : Type 0} (mark : List ℕ) (rows : List (Row A)) (bytes : List ℕ) → by_rows (map (marked mark) rows) bytes ≡ (behind_mark mark bytes >>= by_rows rows)
marked_rows mark [] bytes = sym (none_after (behind_mark mark bytes))
marked_rows {A} mark (r ∷ rows) bytes =
    ap (λ (o : Option (List ℕ)). option_or (o >>= r.read) (by_rows (map (marked mark) rows) bytes)) (behind_more mark r.mark bytes)
    ∙ ap (λ (o : Option A). option_or ((behind_mark mark bytes >>= behind_mark r.mark) >>= r.read) o) (marked_rows mark rows bytes)
    ∙ one_row (behind_mark mark bytes) r rows

or_more : {A : Type 0} (o p q : Option A) → option_or o (option_or p q) ≡ option_or (option_or o p) q
or_more None p q = refl
or_more (Some x) p q = refl

pub rows_more : {A : Type 0} (rows others : List (Row A)) (bytes : List ℕ) → by_rows (rows ++ others) bytes ≡ option_or (by_rows rows bytes) (by_rows others bytes)
rows_more [] others bytes = refl
rows_more {A} (r ∷ rows) others bytes =
    ap (λ (o : Option A). option_or (row_in bytes r) o) (rows_more rows others bytes)
    ∙ or_more (row_in bytes r) (by_rows rows bytes) (by_rows others bytes)

two_steps : {A B C : Type 0} (o : Option A) (f : A → Option B) (g : B → Option C) → ((o >>= f) >>= g) ≡ (o >>= λ x. f x >>= g)
two_steps None f g = refl
two_steps (Some x) f g = refl

both_steps : {A B : Type 0} (o : Option A) (f g : A → Option B) → option_or (o >>= f) (o >>= g) ≡ (o >>= λ x. option_or (f x) (g x))
both_steps None f g = refl
both_steps (Some x) f g = refl

-- how a job ended is read behind the words that its rows share
pub ended_is : (repos : List RepoView) (own : ℕ) (word bytes : List ℕ) → (outcome_form repos own word).read bytes ≡ ended_at repos own word bytes
ended_is repos own word bytes =
    let drops : by_rows (drop_rows repos own) bytes ≡ (behind_mark (codes "refused ") bytes >>= by_rows (refusal_rows repos own)) =
    marked_rows (codes "refused ") (refusal_rows repos own) bytes in
    let transfers : by_rows (transfer_rows repos own word) bytes ≡ (behind_mark (codes "refused ") bytes >>= λ rest. behind_mark word rest >>= by_rows (refused_transfers repos own)) =
    marked_rows (codes "refused " ++ word) (refused_transfers repos own) bytes
    ∙ ap (λ (o : Option (List ℕ)). o >>= by_rows (refused_transfers repos own)) (behind_more (codes "refused ") word bytes)
    ∙ two_steps (behind_mark (codes "refused ") bytes) (behind_mark word) (by_rows (refused_transfers repos own)) in
    rows_more (done_rows repos) (drop_rows repos own ++ transfer_rows repos own word) bytes
    ∙ ap (λ (o : Option Outcome). option_or (by_rows (done_rows repos) bytes) o)
    (rows_more (drop_rows repos own) (transfer_rows repos own word) bytes
    ∙ ap (λ (o : Option Outcome). option_or o (by_rows (transfer_rows repos own word) bytes)) drops
    ∙ ap (λ (o : Option Outcome). option_or (behind_mark (codes "refused ") bytes >>= by_rows (refusal_rows repos own)) o) transfers
    ∙ both_steps (behind_mark (codes "refused ") bytes) (by_rows (refusal_rows repos own)) (λ rest. behind_mark word rest >>= by_rows (refused_transfers repos own)))
