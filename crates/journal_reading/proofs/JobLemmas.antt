-- Jobs are read as they are written.
use Rattle.std.proofs.Common.{◌≡◌, ℕ, ◌<◌, true, not, ◌==◌, List, [], ◌++◌, length, Option, Some, None, refl, sym, ap, ◌∙◌, append_assoc}
use Rattle.std.specs.Prelude.{codes}
use Rattle.annex_base.specs.Lines.{is_one_line}
use Rattle.annex_key.specs.Tree.{Entries}
use Rattle.run_data.specs.declared.run.RepoView.{RepoView}
use Rattle.run_data.specs.declared.job.Job.{Job}
use Rattle.run_data.specs.declared.job.JobKind.{JobKind}
use Rattle.run_data.specs.declared.job.JobKind.TheVariants as jobs
use Rattle.run_text.specs.Jobs.{kind_text, way_text, key_text, job_text}
use Rattle.run_text.specs.Names.{name_of}
use Rattle.script_words.specs.Marks.{behind_mark}
use Rattle.script_words.specs.Words.{is_break}
use Rattle.journal_reading.specs.Forms.{nothing, row_in, by_rows}
use Rattle.journal_reading.specs.Fields.{repo_number, other_number, IsNamedKey, keyed}
use Rattle.journal_reading.specs.Kinds.{a_job, peer_by, job_mark, job_alone, job_with, job_rows, job_form, IsPeer, IsJob}
use Rattle.journal_reading.proofs.FormLemmas.{IsForm, is_nothing, is_behind, RowBack, row_back, rows_back}
use Rattle.journal_reading.proofs.TableLemmas.{reads_at, none_behind, one_before}
use Rattle.journal_reading.proofs.SoundLemmas.{OneLine, RowLine, line_append, row_line, rows_line, Sound}
use Rattle.journal_reading.proofs.FieldLemmas.{AreNamed, is_repo_number, is_tested}
use Rattle.journal_reading.proofs.KeyLemmas.{is_keyed, keyed_none}
use Rattle.journal_reading.proofs.SoundFields.{keyed_line}

is_from : (repos : List RepoView) → AreNamed repos → (r : ℕ) → IsForm (peer_by repos r (codes " from "))
is_from repos named r = is_behind (codes " from ") (other_number repos r) (is_tested (λ p. not (r == p)) (repo_number repos) (is_repo_number repos named))

is_to : (repos : List RepoView) → AreNamed repos → (r : ℕ) → IsForm (peer_by repos r (codes " to "))
is_to repos named r = is_behind (codes " to ") (other_number repos r) (is_tested (λ p. not (r == p)) (repo_number repos) (is_repo_number repos named))

alone_back : (repos : List RepoView) (tree : Entries) (r : ℕ) (kind : JobKind) → IsPeer repos r kind None → RowBack (job_text repos r) (IsJob repos tree r) (job_alone repos tree r (kind_text kind) kind)
alone_back repos tree r kind peer = row_back (job_text repos r) (IsJob repos tree r) (job_mark repos r (kind_text kind)) (keyed tree nothing) (λ x. a_job kind x.0 None)
    (is_keyed tree nothing is_nothing (λ y ok. refl))
    (λ x ok. (sym (append_assoc (job_mark repos r (kind_text kind)) (key_text x.0.0 x.0.1) []), record { key = ok.0; peer = peer }))

from_back : (repos : List RepoView) → AreNamed repos → (tree : Entries) (r : ℕ) (kind : JobKind) → way_text kind ≡ codes " from " → ((p : ℕ) → p < length repos → not (r == p) ≡ true → IsPeer repos r kind (Some p))
    → RowBack (job_text repos r) (IsJob repos tree r) (job_with repos tree r (kind_text kind) (codes " from ") kind)
from_back repos named tree r kind way peer = row_back (job_text repos r) (IsJob repos tree r) (job_mark repos r (kind_text kind)) (keyed tree (peer_by repos r (codes " from "))) (λ x. a_job kind x.0 (Some x.1))
    (is_keyed tree (peer_by repos r (codes " from ")) (is_from repos named r) (λ y ok. refl))
    (λ x ok. (
      sym (append_assoc (job_mark repos r (kind_text kind)) (key_text x.0.0 x.0.1) (codes " from " ++ name_of repos x.1))
          ∙ ap (λ l. job_mark repos r (kind_text kind) ++ key_text x.0.0 x.0.1 ++ (l ++ name_of repos x.1)) (sym way),
      record { key = ok.0; peer = peer x.1 ok.1.0 ok.1.1 },
    ))

to_back : (repos : List RepoView) → AreNamed repos → (tree : Entries) (r : ℕ) (kind : JobKind) → way_text kind ≡ codes " to " → ((p : ℕ) → p < length repos → not (r == p) ≡ true → IsPeer repos r kind (Some p))
    → RowBack (job_text repos r) (IsJob repos tree r) (job_with repos tree r (kind_text kind) (codes " to ") kind)
to_back repos named tree r kind way peer = row_back (job_text repos r) (IsJob repos tree r) (job_mark repos r (kind_text kind)) (keyed tree (peer_by repos r (codes " to "))) (λ x. a_job kind x.0 (Some x.1))
    (is_keyed tree (peer_by repos r (codes " to ")) (is_to repos named r) (λ y ok. refl))
    (λ x ok. (
      sym (append_assoc (job_mark repos r (kind_text kind)) (key_text x.0.0 x.0.1) (codes " to " ++ name_of repos x.1))
          ∙ ap (λ l. job_mark repos r (kind_text kind) ++ key_text x.0.0 x.0.1 ++ (l ++ name_of repos x.1)) (sym way),
      record { key = ok.0; peer = peer x.1 ok.1.0 ok.1.1 },
    ))

pub job_back : (repos : List RepoView) → AreNamed repos → (tree : Entries) (r : ℕ) (bytes : List ℕ) (job : Job) → by_rows (job_rows repos tree r) bytes ≡ Some job → (bytes ≡ job_text repos r job) × IsJob repos tree r job
job_back repos named tree r bytes job e = rows_back (job_text repos r) (IsJob repos tree r) (job_rows repos tree r) (
  alone_back repos tree r jobs.Drop tt,
  (
    from_back repos named tree r jobs.Drop refl (λ p a b. (a, b)),
    (
      alone_back repos tree r jobs.Get tt,
      (
        from_back repos named tree r jobs.Get refl (λ p a b. (a, b)),
        (to_back repos named tree r jobs.Copy refl (λ p a b. (a, b)), (to_back repos named tree r jobs.MoveTo refl (λ p a b. (a, b)), (from_back repos named tree r jobs.MoveFrom refl (λ p a b. (a, b)), tt))),
      ),
    ),
  ),
)
    bytes job e

-- ---- each is read by its row

is_alone : (tree : Entries) → IsForm (keyed tree nothing)
is_alone tree = is_keyed tree nothing is_nothing (λ y ok. refl)

is_with_from : (repos : List RepoView) → AreNamed repos → (tree : Entries) (r : ℕ) → IsForm (keyed tree (peer_by repos r (codes " from ")))
is_with_from repos named tree r = is_keyed tree (peer_by repos r (codes " from ")) (is_from repos named r) (λ y ok. refl)

is_with_to : (repos : List RepoView) → AreNamed repos → (tree : Entries) (r : ℕ) → IsForm (keyed tree (peer_by repos r (codes " to ")))
is_with_to repos named tree r = is_keyed tree (peer_by repos r (codes " to ")) (is_to repos named r) (λ y ok. refl)

spelled_with : (mark k tail : List ℕ) → mark ++ (k ++ tail) ≡ (mark ++ k) ++ tail
spelled_with mark k tail = sym (append_assoc mark k tail)

-- the row of a job alone reads nothing of one with a peer
alone_none : (repos : List RepoView) (tree : Entries) (r : ℕ) (word : List ℕ) (kind : JobKind) (k : List ℕ) (path : Option (List ℕ)) (tail : List ℕ) → IsNamedKey tree k path → is_break tail ≡ true → nothing.read tail ≡ None
    → row_in ((job_mark repos r word ++ key_text k path) ++ tail) (job_alone repos tree r word kind) ≡ None
alone_none repos tree r word kind k path tail ok ends none = none_behind (job_mark repos r word) (keyed tree nothing) (λ x. a_job kind x.0 None) (key_text k path ++ tail) ((job_mark repos r word ++ key_text k path) ++ tail)
    (spelled_with (job_mark repos r word) (key_text k path) tail) (keyed_none tree nothing k path tail ok ends none)

-- nor that of a move to a repository of a move from one
to_none : (repos : List RepoView) (tree : Entries) (r : ℕ) (k : List ℕ) (path : Option (List ℕ)) (p : ℕ) → IsNamedKey tree k path
    → row_in ((job_mark repos r (codes "move ") ++ key_text k path) ++ (codes " from " ++ name_of repos p)) (job_with repos tree r (codes "move ") (codes " to ") jobs.MoveTo) ≡ None
unfolding behind_mark
to_none repos tree r k path p ok = none_behind (job_mark repos r (codes "move ")) (keyed tree (peer_by repos r (codes " to "))) (λ x. a_job jobs.MoveTo x.0 (Some x.1)) (key_text k path ++ (codes " from " ++ name_of repos p))
    ((job_mark repos r (codes "move ") ++ key_text k path) ++ (codes " from " ++ name_of repos p))
    (spelled_with (job_mark repos r (codes "move ")) (key_text k path) (codes " from " ++ name_of repos p))
    (keyed_none tree (peer_by repos r (codes " to ")) k path (codes " from " ++ name_of repos p) ok refl refl)

abbrev written : List RepoView → ℕ → JobKind → List ℕ → Option (List ℕ) → Option ℕ → List ℕ
written repos r kind k path peer = job_text repos r (a_job kind (k, path) peer)

abbrev Reads : List RepoView → Entries → ℕ → JobKind → List ℕ → Option (List ℕ) → Option ℕ → Type 0
Reads repos tree r kind k path peer = by_rows (job_rows repos tree r) (written repos r kind k path peer) ≡ Some (a_job kind (k, path) peer)

drop_alone : (repos : List RepoView) (tree : Entries) (r : ℕ) (k : List ℕ) (path : Option (List ℕ)) → IsNamedKey tree k path → Reads repos tree r jobs.Drop k path None
drop_alone repos tree r k path ok = reads_at (job_rows repos tree r) 0 (written repos r jobs.Drop k path None) (job_mark repos r (codes "drop ")) (keyed tree nothing) (λ x. a_job jobs.Drop x.0 None)
    (is_alone tree) ((k, path), tt) (ok, tt) (spelled_with (job_mark repos r (codes "drop ")) (key_text k path) []) refl refl

drop_from : (repos : List RepoView) → AreNamed repos → (tree : Entries) (r : ℕ) (k : List ℕ) (path : Option (List ℕ)) (p : ℕ) → IsNamedKey tree k path → p < length repos → not (r == p) ≡ true → Reads repos tree r jobs.Drop k path (Some p)
drop_from repos named tree r k path p ok low other = reads_at (job_rows repos tree r) 1 (written repos r jobs.Drop k path (Some p)) (job_mark repos r (codes "drop ")) (keyed tree (peer_by repos r (codes " from "))) (λ x. a_job jobs.Drop x.0 (Some x.1))
    (is_with_from repos named tree r) ((k, path), p) (ok, (low, other)) (spelled_with (job_mark repos r (codes "drop ")) (key_text k path) (codes " from " ++ name_of repos p)) refl
    (one_before (row_in (written repos r jobs.Drop k path (Some p)) (job_alone repos tree r (codes "drop ") jobs.Drop))
    (alone_none repos tree r (codes "drop ") jobs.Drop k path (codes " from " ++ name_of repos p) ok refl refl))

get_alone : (repos : List RepoView) (tree : Entries) (r : ℕ) (k : List ℕ) (path : Option (List ℕ)) → IsNamedKey tree k path → Reads repos tree r jobs.Get k path None
unfolding behind_mark
get_alone repos tree r k path ok = reads_at (job_rows repos tree r) 2 (written repos r jobs.Get k path None) (job_mark repos r (codes "get ")) (keyed tree nothing) (λ x. a_job jobs.Get x.0 None)
    (is_alone tree) ((k, path), tt) (ok, tt) (spelled_with (job_mark repos r (codes "get ")) (key_text k path) []) refl refl

get_from : (repos : List RepoView) → AreNamed repos → (tree : Entries) (r : ℕ) (k : List ℕ) (path : Option (List ℕ)) (p : ℕ) → IsNamedKey tree k path → p < length repos → not (r == p) ≡ true → Reads repos tree r jobs.Get k path (Some p)
unfolding behind_mark
get_from repos named tree r k path p ok low other = reads_at (job_rows repos tree r) 3 (written repos r jobs.Get k path (Some p)) (job_mark repos r (codes "get ")) (keyed tree (peer_by repos r (codes " from "))) (λ x. a_job jobs.Get x.0 (Some x.1))
    (is_with_from repos named tree r) ((k, path), p) (ok, (low, other)) (spelled_with (job_mark repos r (codes "get ")) (key_text k path) (codes " from " ++ name_of repos p)) refl
    (one_before (row_in (written repos r jobs.Get k path (Some p)) (job_alone repos tree r (codes "get ") jobs.Get))
    (alone_none repos tree r (codes "get ") jobs.Get k path (codes " from " ++ name_of repos p) ok refl refl))

copy_to : (repos : List RepoView) → AreNamed repos → (tree : Entries) (r : ℕ) (k : List ℕ) (path : Option (List ℕ)) (p : ℕ) → IsNamedKey tree k path → p < length repos → not (r == p) ≡ true → Reads repos tree r jobs.Copy k path (Some p)
unfolding behind_mark
copy_to repos named tree r k path p ok low other = reads_at (job_rows repos tree r) 4 (written repos r jobs.Copy k path (Some p)) (job_mark repos r (codes "copy ")) (keyed tree (peer_by repos r (codes " to "))) (λ x. a_job jobs.Copy x.0 (Some x.1))
    (is_with_to repos named tree r) ((k, path), p) (ok, (low, other)) (spelled_with (job_mark repos r (codes "copy ")) (key_text k path) (codes " to " ++ name_of repos p)) refl refl

move_to : (repos : List RepoView) → AreNamed repos → (tree : Entries) (r : ℕ) (k : List ℕ) (path : Option (List ℕ)) (p : ℕ) → IsNamedKey tree k path → p < length repos → not (r == p) ≡ true → Reads repos tree r jobs.MoveTo k path (Some p)
unfolding behind_mark
move_to repos named tree r k path p ok low other = reads_at (job_rows repos tree r) 5 (written repos r jobs.MoveTo k path (Some p)) (job_mark repos r (codes "move ")) (keyed tree (peer_by repos r (codes " to "))) (λ x. a_job jobs.MoveTo x.0 (Some x.1))
    (is_with_to repos named tree r) ((k, path), p) (ok, (low, other)) (spelled_with (job_mark repos r (codes "move ")) (key_text k path) (codes " to " ++ name_of repos p)) refl refl

move_from : (repos : List RepoView) → AreNamed repos → (tree : Entries) (r : ℕ) (k : List ℕ) (path : Option (List ℕ)) (p : ℕ) → IsNamedKey tree k path → p < length repos → not (r == p) ≡ true → Reads repos tree r jobs.MoveFrom k path (Some p)
unfolding behind_mark
move_from repos named tree r k path p ok low other = reads_at (job_rows repos tree r) 6 (written repos r jobs.MoveFrom k path (Some p)) (job_mark repos r (codes "move ")) (keyed tree (peer_by repos r (codes " from "))) (λ x. a_job jobs.MoveFrom x.0 (Some x.1))
    (is_with_from repos named tree r) ((k, path), p) (ok, (low, other)) (spelled_with (job_mark repos r (codes "move ")) (key_text k path) (codes " from " ++ name_of repos p)) refl
    (one_before (row_in (written repos r jobs.MoveFrom k path (Some p)) (job_with repos tree r (codes "move ") (codes " to ") jobs.MoveTo)) (to_none repos tree r k path p ok))

reads_by : (repos : List RepoView) → AreNamed repos → (tree : Entries) (r : ℕ) (kind : JobKind) (k : List ℕ) (path : Option (List ℕ)) (peer : Option ℕ) → IsNamedKey tree k path → IsPeer repos r kind peer → Reads repos tree r kind k path peer
reads_by repos named tree r jobs.Drop k path None ok is = drop_alone repos tree r k path ok
reads_by repos named tree r jobs.Get k path None ok is = get_alone repos tree r k path ok
reads_by repos named tree r jobs.Copy k path None ok is = absurd is
reads_by repos named tree r jobs.MoveTo k path None ok is = absurd is
reads_by repos named tree r jobs.MoveFrom k path None ok is = absurd is
reads_by repos named tree r jobs.Drop k path (Some p) ok is = drop_from repos named tree r k path p ok is.0 is.1
reads_by repos named tree r jobs.Get k path (Some p) ok is = get_from repos named tree r k path p ok is.0 is.1
reads_by repos named tree r jobs.Copy k path (Some p) ok is = copy_to repos named tree r k path p ok is.0 is.1
reads_by repos named tree r jobs.MoveTo k path (Some p) ok is = move_to repos named tree r k path p ok is.0 is.1
reads_by repos named tree r jobs.MoveFrom k path (Some p) ok is = move_from repos named tree r k path p ok is.0 is.1

pub is_job_form : (repos : List RepoView) → AreNamed repos → (tree : Entries) (r : ℕ) → IsForm (job_form repos tree r)
is_job_form repos named tree r = record {
  there = λ job ok. reads_by repos named tree r job.kind job.key job.path job.peer ok.key ok.peer;
  back = λ bytes job e. job_back repos named tree r bytes job e;
}

-- ---- of one line

mark_line : (repos : List RepoView) → AreNamed repos → (r : ℕ) (word : List ℕ) → is_one_line word ≡ true → is_one_line (job_mark repos r word) ≡ true
mark_line repos named r word plain = line_append (word ++ name_of repos r) (codes " ") (line_append word (name_of repos r) plain (named.one_line r)) refl

alone_line : (repos : List RepoView) → AreNamed repos → (tree : Entries) (r : ℕ) (word : List ℕ) (kind : JobKind) → is_one_line word ≡ true → RowLine (job_alone repos tree r word kind)
alone_line repos named tree r word kind plain = row_line (job_mark repos r word) (keyed tree nothing) (λ x. a_job kind x.0 None) (mark_line repos named r word plain)
    (keyed_line tree nothing (is_alone tree) (λ y ok. refl))

from_line : (repos : List RepoView) → AreNamed repos → (tree : Entries) (r : ℕ) (word : List ℕ) (kind : JobKind) → is_one_line word ≡ true → RowLine (job_with repos tree r word (codes " from ") kind)
from_line repos named tree r word kind plain = row_line (job_mark repos r word) (keyed tree (peer_by repos r (codes " from "))) (λ x. a_job kind x.0 (Some x.1)) (mark_line repos named r word plain)
    (keyed_line tree (peer_by repos r (codes " from ")) (is_with_from repos named tree r) (λ p ok. line_append (codes " from ") (name_of repos p) refl (named.one_line p)))

to_line : (repos : List RepoView) → AreNamed repos → (tree : Entries) (r : ℕ) (word : List ℕ) (kind : JobKind) → is_one_line word ≡ true → RowLine (job_with repos tree r word (codes " to ") kind)
to_line repos named tree r word kind plain = row_line (job_mark repos r word) (keyed tree (peer_by repos r (codes " to "))) (λ x. a_job kind x.0 (Some x.1)) (mark_line repos named r word plain)
    (keyed_line tree (peer_by repos r (codes " to ")) (is_with_to repos named tree r) (λ p ok. line_append (codes " to ") (name_of repos p) refl (named.one_line p)))

pub job_line : (repos : List RepoView) → AreNamed repos → (tree : Entries) (r : ℕ) → OneLine (job_form repos tree r)
job_line repos named tree r = rows_line (job_rows repos tree r) (
  alone_line repos named tree r (codes "drop ") jobs.Drop refl,
  (
    from_line repos named tree r (codes "drop ") jobs.Drop refl,
    (
      alone_line repos named tree r (codes "get ") jobs.Get refl,
      (
        from_line repos named tree r (codes "get ") jobs.Get refl,
        (to_line repos named tree r (codes "copy ") jobs.Copy refl, (to_line repos named tree r (codes "move ") jobs.MoveTo refl, (from_line repos named tree r (codes "move ") jobs.MoveFrom refl, tt))),
      ),
    ),
  ),
)

abbrev pub sound_job : (repos : List RepoView) → AreNamed repos → (tree : Entries) (r : ℕ) → Sound Job
sound_job repos named tree r = record { form = job_form repos tree r; is = is_job_form repos named tree r; line = job_line repos named tree r }
