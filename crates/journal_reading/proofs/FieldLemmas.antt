-- The fields of a journal's lines are read as they are written.
use Rattle.std.proofs.Common.{◌≡◌, ℕ, zero, suc, ◌<◌, Bool, true, false, if◌then◌else◌, List, [], ◌∷◌, ◌++◌, length, get_or, Some, None, refl, sym, ap, subst, ◌∙◌, append_assoc, arith}
use Rattle.std.specs.Prelude.{bytes_eq, codes, position, slice_get, nat_lt}
use Rattle.std.specs.List.{find, position_or_len}
use Rattle.std.proofs.lemmas.List.Quantifiers.{position-Some}
use Rattle.std.proofs.lemmas.Bool.{ltb-true}
use Rattle.annex_base.proofs.Conditions.{bytes_eq-true}
use Rattle.annex_base.specs.declared.kinds.Found.{Found}
use Rattle.std.specs.Fmt.{decimal}
use Rattle.std.specs.Char.{is_ascii_digit}
use Rattle.std.proofs.lemmas.Bool.Decides.{nat_tests}
use Rattle.std.proofs.lemmas.Option.{cond_some}
use Rattle.annex_base.specs.Lines.{is_one_line}
use Rattle.annex_base.proofs.Numbers.{decimal-all}
use Rattle.annex_base.proofs.Lists.{list_all_append, slice_get-within}
use Rattle.annex_base.proofs.Options.{bind_some}
use Rattle.annex_base.specs.declared.kinds.Found.TheVariants as finds
use Rattle.script_words.specs.Marks.{behind_mark}
use Rattle.script_words.specs.Fields.{call_word, all_calls}
use Rattle.script_words.proofs.FieldLemmas as words
use Rattle.run_data.specs.declared.entry.By.{By}
use Rattle.run_data.specs.declared.entry.By.TheVariants as bys
use Rattle.run_data.specs.declared.run.RepoView.{RepoView}
use Rattle.run_text.specs.Names.{name_of, name_in}
use Rattle.journal_text.specs.Journal.{by_text, found_text, side_text}
use Rattle.journal_reading.specs.Forms.{Form, nothing, up_to, by_rows, row_in, tested}
use Rattle.journal_reading.specs.Fields.{small, large, a_byte, repo_number, key, of_script, of_job, of_peer, by_rows_of, other_rows, all_found, both, IsBy, IsOther, by_form, other_by, found_form, side_form, call_form}
use Rattle.journal_reading.proofs.FormLemmas.{IsForm, Lacks, lacks, is_other, is_number, is_one_of, is_passing, is_nothing, is_up_to, RowBack, is_table, row_back, row_gives, first_reads, later_reads}

-- ---- values that pass a test

pub is_tested : {A : Type 0} (test : A → Bool) (form : Form A) → IsForm form → IsForm (tested test form)
is_tested {A} test form is = record {
  there = λ x ok. rw (is.there x ok.0, ok.1) refl;
  back = λ bytes x e.
      let h = bind_some (form.read bytes) (λ y. if test y then Some y else None) x e in
      let g = cond_some (test h.0) h.0 x h.2 in
      let w = is.back bytes h.0 h.1 in
      subst (λ (y : A). (bytes ≡ form.text y) × (form.ok y × (test y ≡ true))) g.1 (w.0, (w.1, g.0));
}

-- ---- numbers

pub is_small : IsForm small
is_small = is_number 4294967295 (omega arith)

pub is_large : IsForm large
is_large = is_number 18446744073709551615 (omega arith)

pub is_a_byte : IsForm a_byte
is_a_byte = is_number 255 (omega arith)

digit_other : (b : ℕ) → is_ascii_digit b ≡ false → (d : ℕ) → is_ascii_digit d ≡ true → is_other b d ≡ true
digit_other b none d is = grind (arith, nat_tests)

pub decimal_lacks : (b : ℕ) → is_ascii_digit b ≡ false → (n : ℕ) → lacks b (decimal n) ≡ true
decimal_lacks b none n = decimal-all (is_other b) (digit_other b none) n

-- ---- keys

pub is_key_form : IsForm key
is_key_form = is_passing _

-- ---- words

found_each : (x : Found) → find (λ y. bytes_eq (found_text y) (found_text x)) all_found ≡ Some x
found_each finds.Present = refl
found_each finds.Absent = refl
found_each finds.Barred = refl
found_each finds.Held = refl
found_each finds.Late = refl
found_each finds.Nolock = refl

pub is_found_form : IsForm found_form
is_found_form = is_one_of found_text all_found found_each

side_each : (x : Bool) → find (λ y. bytes_eq (side_text y) (side_text x)) both ≡ Some x
side_each true = refl
side_each false = refl

pub is_side_form : IsForm side_form
is_side_form = is_one_of side_text both side_each

pub is_call_form : IsForm call_form
is_call_form = is_one_of call_word all_calls (λ call. words.call_found call)

pub found_space : Lacks 32 found_form
found_space finds.Present ok = refl
found_space finds.Absent ok = refl
found_space finds.Barred ok = refl
found_space finds.Held ok = refl
found_space finds.Late ok = refl
found_space finds.Nolock ok = refl

-- ---- repositories

-- each name is read as its number, and has none of the bytes that end it
pub record AreNamed (repos : List RepoView) : Type 0 where
  pub read : (r : ℕ) → r < length repos → position (λ x. bytes_eq x.name (name_of repos r)) repos ≡ Some r
  pub lacks_space : (r : ℕ) → r < length repos → lacks 32 (name_of repos r) ≡ true
  pub lacks_point : (r : ℕ) → r < length repos → lacks 46 (name_of repos r) ≡ true
  pub lacks_comma : (r : ℕ) → r < length repos → lacks 44 (name_of repos r) ≡ true
  pub lacks_colon : (r : ℕ) → r < length repos → lacks 58 (name_of repos r) ≡ true
  pub no_dash : position (λ x. bytes_eq x.name (codes "-")) repos ≡ None
  pub one_line : (r : ℕ) → is_one_line (name_of repos r) ≡ true

got_or : (repos : List RepoView) (r : ℕ) (x : RepoView) → slice_get repos r ≡ Some x → get_or repos r x ≡ x
got_or [] r x e = refl
got_or (y ∷ ys) zero x e = cc
got_or (y ∷ ys) (suc r) x e = got_or ys r x e

position_within : (repos : List RepoView) (word : List ℕ) (r : ℕ) → position (λ (x : RepoView). bytes_eq x.name word) repos ≡ Some r → r < length repos
position_within repos word r e =
    let test : RepoView → Bool = λ x. bytes_eq x.name word in
    let h = cond_some (nat_lt (position_or_len test repos) (length repos)) (position_or_len test repos) r e in
    subst (λ k. k < length repos) h.1 (ltb-true (position_or_len test repos) (length repos) h.0)

pub named_back : (repos : List RepoView) (word : List ℕ) (r : ℕ) → position (λ (x : RepoView). bytes_eq x.name word) repos ≡ Some r → (word ≡ name_of repos r) × (r < length repos)
named_back repos word r e =
    let test : RepoView → Bool = λ x. bytes_eq x.name word in
    let g = slice_get-within repos r (position_within repos word r e) in
    let p = position-Some test repos r g.0 e in
    let passes : bytes_eq g.0.name word ≡ true = subst (λ (x : RepoView). bytes_eq x.name word ≡ true) (got_or repos r g.0 g.1) p.1 in
    (sym (bytes_eq-true g.0.name word passes) ∙ ap name_in (sym g.1), p.0)

pub is_repo_number : (repos : List RepoView) → AreNamed repos → IsForm (repo_number repos)
is_repo_number repos named = record { there = named.read; back = named_back repos }

-- ---- for whom

abbrev peer_parts : List RepoView → Form (ℕ × ℕ)
peer_parts repos = up_to 46 (repo_number repos) (λ p. small)

is_peer_parts : (repos : List RepoView) → AreNamed repos → IsForm (peer_parts repos)
is_peer_parts repos named = is_up_to 46 (repo_number repos) (λ p. small) (is_repo_number repos named) named.lacks_point (λ p ok. is_small)

peer_spelled : (repos : List RepoView) (x : ℕ × ℕ) → codes "peer:" ++ (peer_parts repos).text x ≡ by_text repos (bys.Peer x.0 x.1)
peer_spelled repos x = simp append_assoc

script_back : (repos : List RepoView) → RowBack (by_text repos) (IsBy repos) of_script
script_back repos = row_back (by_text repos) (IsBy repos) (codes "script") nothing (λ x. bys.Script) is_nothing (λ x ok. (refl, tt))

job_back : (repos : List RepoView) → RowBack (by_text repos) (IsBy repos) of_job
job_back repos = row_back (by_text repos) (IsBy repos) (codes "job:") small bys.Job is_small (λ x ok. (refl, ok))

peer_back : (repos : List RepoView) → AreNamed repos → RowBack (by_text repos) (IsBy repos) (of_peer repos)
peer_back repos named = row_back (by_text repos) (IsBy repos) (codes "peer:") (peer_parts repos) (λ x. bys.Peer x.0 x.1) (is_peer_parts repos named) (λ x ok. (peer_spelled repos x, ok))

other_back : (repos : List RepoView) → RowBack (by_text repos) (IsOther repos) of_job
other_back repos = row_back (by_text repos) (IsOther repos) (codes "job:") small bys.Job is_small (λ x ok. (refl, ok))

other_peer_back : (repos : List RepoView) → AreNamed repos → RowBack (by_text repos) (IsOther repos) (of_peer repos)
other_peer_back repos named = row_back (by_text repos) (IsOther repos) (codes "peer:") (peer_parts repos) (λ x. bys.Peer x.0 x.1) (is_peer_parts repos named) (λ x ok. (peer_spelled repos x, ok))

job_gives : (repos : List RepoView) (j : ℕ) → small.ok j → row_in (by_text repos (bys.Job j)) of_job ≡ Some (bys.Job j)
job_gives repos j ok = row_gives (codes "job:") small bys.Job is_small j ok (by_text repos (bys.Job j)) refl

peer_gives : (repos : List RepoView) → AreNamed repos → (p slot : ℕ) → p < length repos → small.ok slot → row_in (by_text repos (bys.Peer p slot)) (of_peer repos) ≡ Some (bys.Peer p slot)
peer_gives repos named p slot among ok = row_gives (codes "peer:") (peer_parts repos) (λ x. bys.Peer x.0 x.1) (is_peer_parts repos named) (p, slot) (among, ok) (by_text repos (bys.Peer p slot)) (peer_spelled repos (p, slot))

other_there : (repos : List RepoView) → AreNamed repos → (by : By) → IsOther repos by → by_rows (other_rows repos) (by_text repos by) ≡ Some by
unfolding behind_mark
other_there repos named bys.Script ok = absurd ok
other_there repos named (bys.Job j) ok = first_reads of_job (of_peer repos ∷ []) (by_text repos (bys.Job j)) (bys.Job j) (job_gives repos j ok)
other_there repos named (bys.Peer p slot) ok =
    later_reads of_job (of_peer repos ∷ []) (by_text repos (bys.Peer p slot)) (bys.Peer p slot) refl
    (first_reads (of_peer repos) [] (by_text repos (bys.Peer p slot)) (bys.Peer p slot) (peer_gives repos named p slot ok.0 ok.1))

by_there : (repos : List RepoView) → AreNamed repos → (by : By) → IsBy repos by → by_rows (by_rows_of repos) (by_text repos by) ≡ Some by
unfolding behind_mark
by_there repos named bys.Script ok = refl
by_there repos named (bys.Job j) ok = later_reads of_script (other_rows repos) (by_text repos (bys.Job j)) (bys.Job j) refl (other_there repos named (bys.Job j) ok)
by_there repos named (bys.Peer p slot) ok = later_reads of_script (other_rows repos) (by_text repos (bys.Peer p slot)) (bys.Peer p slot) refl (other_there repos named (bys.Peer p slot) ok)

pub is_other_by : (repos : List RepoView) → AreNamed repos → IsForm (other_by repos)
is_other_by repos named = is_table (by_text repos) (other_rows repos) (IsOther repos) (other_back repos, (other_peer_back repos named, tt)) (other_there repos named)

pub is_by_form : (repos : List RepoView) → AreNamed repos → IsForm (by_form repos)
is_by_form repos named = is_table (by_text repos) (by_rows_of repos) (IsBy repos) (script_back repos, (job_back repos, (peer_back repos named, tt))) (by_there repos named)

-- ---- they have no space

pub by_lacks : (repos : List RepoView) → AreNamed repos → Lacks 32 (by_form repos)
by_lacks repos named bys.Script ok = refl
by_lacks repos named (bys.Job j) ok = decimal_lacks 32 refl j
by_lacks repos named (bys.Peer p slot) ok =
    subst (λ text. lacks 32 text ≡ true) (peer_spelled repos (p, slot)) (list_all_append (is_other 32) (name_of repos p) (46 ∷ decimal slot) (named.lacks_space p ok.0) (decimal_lacks 32 refl slot))

pub other_lacks : (repos : List RepoView) → AreNamed repos → Lacks 32 (other_by repos)
other_lacks repos named bys.Script ok = absurd ok
other_lacks repos named (bys.Job j) ok = decimal_lacks 32 refl j
other_lacks repos named (bys.Peer p slot) ok = by_lacks repos named (bys.Peer p slot) ok
