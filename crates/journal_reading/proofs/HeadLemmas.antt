-- The first line of an entry, and the lines of repositories and of changes of the tree, are read as they are written.
use Rattle.std.proofs.Common.{◌≡◌, ℕ, ◌<◌, ◌≤◌, Bool, true, false, not, ◌==◌, if◌then◌else◌, List, [], ◌∷◌, ◌++◌, length, take, drop, Some, None, refl, sym, ap, subst, ◌∙◌, append_assoc, length-append, arith}
use Rattle.std.specs.Prelude.{codes, bytes_eq, nat_lt, nat_le, ◌&&◌}
use Rattle.std.specs.List.{find}
use Rattle.std.specs.Fmt.{decimal}
use Rattle.std.specs.Str.{is_utf8}
use Rattle.std.proofs.lemmas.Bool.{and_parts, eqb-true, ltb-true, lt-ltb, leb-true, le-leb}
use Rattle.std.proofs.lemmas.Bool.Decides.{nat_tests}
use Rattle.std.proofs.lemmas.List.{take-append-drop, take_at, drop_at, length-take-le}
use Rattle.annex_base.specs.Lines.{newline, slash, is_not_newline, is_one_line}
use Rattle.annex_base.specs.OptionSteps.{◌>>=◌}
use Rattle.annex_base.specs.RepoText.{repo_text}
use Rattle.annex_base.proofs.Conditions.{and_first, and_second}
use Rattle.annex_base.proofs.Lines.{one_line-passes, one_line-decimal}
use Rattle.annex_base.proofs.Options.{bind_some, where_some}
use Rattle.annex_base.proofs.RepoLemmas.{repo_again, repo_takes, repo_text-all}
use Rattle.annex_key.specs.Tree.{Entries}
use Rattle.run_data.specs.declared.run.RepoView.{RepoView}
use Rattle.run_data.specs.declared.run.TreeMark.{TreeMark}
use Rattle.run_data.specs.declared.entry.Entry.{Entry}
use Rattle.run_text.specs.Names.{name_of}
use Rattle.script_words.specs.Fields.{begins, ends, is_path, is_name, greatest_offset}
use Rattle.journal_text.specs.Journal.{kind_text, head_text, locks_text, repo_line, path_line}
use Rattle.journal_reading.specs.Forms.{Form, number, or_dash_text, cut, by_rows, tested}
use Rattle.journal_reading.specs.Fields.{small, key, repo_number}
use Rattle.journal_reading.specs.Lines.{Head, head_form, id_form, locks_word, repo_parts, a_repo, IsRepo, repo_words, repo_form, sized_in, sized_at, sized, is_line_path, a_mark, path_parts, IsChange, path_words, path_form}
use Rattle.journal_reading.proofs.FormLemmas.{IsForm, Lacks, is_other, is_number, cut_found, cut_written}
use Rattle.journal_reading.proofs.TableLemmas.{reads_at}
use Rattle.journal_reading.proofs.SoundLemmas.{OneLine, line_by_text, line_append, number_line, tested_line, Sound, SoundRow, sound_row, those, is_table_of, line_of_table, sound_behind, sound_up_to, sound_one_of, sound_passing}
use Rattle.journal_reading.proofs.FieldLemmas.{AreNamed, is_small, is_key_form, is_tested, decimal_lacks}
use Rattle.journal_reading.proofs.SoundFields.{sound_small, sound_large, small_space, large_space, large_point, key_one_line}
use Rattle.journal_reading.proofs.OutcomeLemmas.{sound_repo_or_dash, dash_lacks, dash_name}
use Rattle.journal_reading.proofs.KindLemmas.{sound_did, is_clock}
use Rattle.journal_reading.proofs.NameLemmas.{name_lacks}

-- ---- the first line of an entry

abbrev pub sound_head : (repos : List RepoView) → AreNamed repos → (tree : Entries) (past : List Entry) → Sound Head
sound_head repos named tree past = sound_up_to 46 sound_large (λ t. sound_up_to 32 sound_large (λ c.
    sound_up_to 32 (sound_repo_or_dash repos named) (λ r. sound_did repos named tree past r) (dash_lacks 32 refl (repo_number repos) named.lacks_space) refl) large_space refl) large_point refl

pub is_head_form : (repos : List RepoView) → AreNamed repos → (tree : Entries) (past : List Entry) → IsForm (head_form repos tree past)
is_head_form repos named tree past = (sound_head repos named tree past).is

pub head_form_line : (repos : List RepoView) → AreNamed repos → (tree : Entries) (past : List Entry) → OneLine (head_form repos tree past)
head_form_line repos named tree past = (sound_head repos named tree past).line

abbrev pub head_of : Entry → Head
head_of e = (e.time, (e.count, (e.repo, (e.kind, length e.lines))))

abbrev pub head_line : List RepoView → List Entry → Entry → List ℕ
head_line repos past e = (head_form repos [] past).text (head_of e)

head_words : (t c name text : List ℕ) → (t ++ 46 ∷ (c ++ 32 ∷ (name ++ 32 ∷ text))) ++ newline ∷ [] ≡ t ++ codes "." ++ c ++ codes " " ++ name ++ codes " " ++ text ++ codes "\n"
head_words t c name text = simp append_assoc

pub head_spelled : (repos : List RepoView) (past : List Entry) (e : Entry) → head_line repos past e ++ newline ∷ [] ≡ head_text repos past e
head_spelled repos past e =
    let text : List ℕ = kind_text repos past e.repo (length e.lines) e.kind in
    head_words (decimal e.time) (decimal e.count) (or_dash_text (name_of repos) e.repo) text
    ∙ ap (λ l. decimal e.time ++ codes "." ++ decimal e.count ++ codes " " ++ l ++ codes " " ++ text ++ codes "\n") (dash_name repos e.repo)

-- ---- repositories

is_id_form : IsForm id_form
is_id_form = record {
  there = λ id ok. repo_again (repo_text id) id ok refl;
  back = λ bytes id e. let h = repo_takes bytes id e in (h.1, h.0);
}

above_newline : (b : ℕ) → 45 ≤ b → is_not_newline b ≡ true
above_newline b low = grind (arith, nat_tests)

above_space : (b : ℕ) → 45 ≤ b → is_other 32 b ≡ true
above_space b low = grind (arith, nat_tests)

abbrev sound_id : Sound (List ℕ)
sound_id = record { form = id_form; is = is_id_form; line = line_by_text id_form is_id_form (λ id ok. repo_text-all is_not_newline above_newline id) }

id_space : Lacks 32 id_form
id_space id ok = repo_text-all (is_other 32) above_space id

abbrev sound_name : Sound (List ℕ)
sound_name = sound_passing is_name (λ name is. name_lacks 10 refl name is)

clock_space : Lacks 32 (number greatest_offset)
clock_space n ok = decimal_lacks 32 refl n

abbrev sound_offset : Sound ℕ
sound_offset = record { form = number greatest_offset; is = is_clock; line = number_line greatest_offset }

is_three : IsForm (number 3)
is_three = is_number 3 (omega arith)

abbrev sound_version : Sound ℕ
sound_version = record { form = tested (λ v. nat_le 1 v) (number 3); is = is_tested (λ v. nat_le 1 v) (number 3) is_three; line = tested_line (λ v. nat_le 1 v) (number 3) (number_line 3) }

version_space : Lacks 32 (tested (λ v. nat_le 1 v) (number 3))
version_space n ok = decimal_lacks 32 refl n

locks_each : (x : Bool) → find (λ y. bytes_eq (locks_word y) (locks_word x)) (true ∷ false ∷ []) ≡ Some x
locks_each true = refl
locks_each false = refl

abbrev sound_locks : Sound Bool
sound_locks = sound_one_of locks_word (true ∷ false ∷ []) locks_each refl

abbrev sound_parts : Sound (List ℕ × (List ℕ × (ℕ × (ℕ × Bool))))
sound_parts = sound_up_to 32 sound_name (λ n. sound_up_to 32 sound_id (λ i. sound_behind (codes "offset=") (sound_up_to 32 sound_offset (λ o.
    sound_behind (codes "version=") (sound_up_to 32 sound_version (λ v. sound_locks) version_space refl) refl) clock_space refl) refl) id_space refl) (λ name is. name_lacks 32 refl name is) refl

abbrev repo_row : SoundRow repo_words IsRepo
repo_row = sound_row repo_words IsRepo (codes "repo ") sound_parts a_repo refl
    (λ x ok. (refl, record { name = ok.0; id = ok.1.0; offset = ok.1.1.0; oldest = leb-true 1 x.1.1.1.0 ok.1.1.1.0.1; newest = ok.1.1.1.0.0 }))

repo_there : (repo : RepoView) → IsRepo repo → by_rows (those repo_words IsRepo (repo_row ∷ [])) (repo_words repo) ≡ Some repo
repo_there repo ok = reads_at (those repo_words IsRepo (repo_row ∷ [])) 0 (repo_words repo) (codes "repo ") repo_parts a_repo sound_parts.is
    (repo.name, (repo.id, (repo.offset, (repo.version, repo.locks)))) (ok.name, (ok.id, (ok.offset, ((ok.newest, le-leb 1 repo.version ok.oldest), tt)))) refl refl refl

pub is_repo_form : IsForm repo_form
is_repo_form = is_table_of repo_words IsRepo (repo_row ∷ []) repo_there

pub repo_form_line : OneLine repo_form
repo_form_line = line_of_table repo_words IsRepo (repo_row ∷ [])

repo_line_words : (n i o v : List ℕ) (locks : Bool) → (codes "repo " ++ (n ++ 32 ∷ (i ++ 32 ∷ (codes "offset=" ++ (o ++ 32 ∷ (codes "version=" ++ (v ++ 32 ∷ locks_word locks))))))) ++ newline ∷ []
    ≡ codes "repo " ++ n ++ codes " " ++ i ++ codes " offset=" ++ o ++ codes " version=" ++ v ++ locks_text locks ++ codes "\n"
repo_line_words n i o v true = simp append_assoc
repo_line_words n i o v false = simp append_assoc

pub repo_spelled : (repo : RepoView) → repo_words repo ++ newline ∷ [] ≡ repo_line repo
repo_spelled repo = repo_line_words repo.name (repo_text repo.id) (decimal repo.offset) (decimal repo.version) repo.locks

-- ---- so many bytes

pub sized_at_there : {A : Type 0} (test : List ℕ → Bool) (next : Form A) → IsForm next → (path : List ℕ) (y : A) → test path ≡ true → next.ok y → sized_at test next (length path) (path ++ 32 ∷ next.text y) ≡ Some (path, y)
sized_at_there {A} test next is path y passes ok =
    let n = length path in
    let rest : List ℕ = 32 ∷ next.text y in
    let low : nat_lt n (length (path ++ rest)) ≡ true = lt-ltb n (length (path ++ rest)) (longer path (next.text y)) in
    ap (λ t. if t then sized_in test next (take n (path ++ rest)) (drop n (path ++ rest)) else None) low
    ∙ ap (λ p. sized_in test next p (drop n (path ++ rest))) (take_at path rest n refl)
    ∙ ap (λ r. sized_in test next path r) (drop_at path rest n refl)
    ∙ ap (λ t. if t then (next.read (next.text y) >>= λ z. Some (path, z)) else None) passes
    ∙ ap (λ o. o >>= λ z. Some (path, z)) (is.there y ok)
  where
    longer : (p t : List ℕ) → length p < length (p ++ 32 ∷ t)
    longer p t = omega (arith, length-append p (32 ∷ t))

sized_there : {A : Type 0} (test : List ℕ → Bool) (next : Form A) → IsForm next → (x : List ℕ × A) → (sized test next).ok x → (sized test next).read ((sized test next).text x) ≡ Some x
sized_there test next is x ok =
    ap (λ o. o >>= λ parts. small.read parts.0 >>= λ n. sized_at test next n parts.1) (cut_found 32 (decimal (length x.0)) (x.0 ++ 32 ∷ next.text x.1) (decimal_lacks 32 refl (length x.0)))
    ∙ ap (λ o. o >>= λ n. sized_at test next n (x.0 ++ 32 ∷ next.text x.1)) (is_small.there (length x.0) ok.0)
    ∙ sized_at_there test next is x.0 x.1 ok.1.0 ok.1.1

record SizedBack {A : Type 0} (test : List ℕ → Bool) (next : Form A) (path rest : List ℕ) (x : List ℕ × A) : Type 0 where
  pub path_is : path ≡ x.0
  pub rest_is : rest ≡ 32 ∷ next.text x.1
  pub passes : test x.0 ≡ true
  pub ok : next.ok x.1

sized_in_back : {A : Type 0} (test : List ℕ → Bool) (next : Form A) → IsForm next → (path rest : List ℕ) (x : List ℕ × A) → sized_in test next path rest ≡ Some x → SizedBack test next path rest x
sized_in_back {A} test next is path [] x e = absurd (no_pair x e)
  where
    no_pair : (x : List ℕ × A) → None ≡ Some x → ⊥
    no_pair x e = cc
sized_in_back {A} test next is path (b ∷ rest) x e =
    let h = where_some (b == 32 && test path) (next.read rest >>= λ y. Some (path, y)) x e in
    let both = and_parts (b == 32) (test path) h.0 in
    let g = bind_some (next.read rest) (λ y. Some (path, y)) x h.1 in
    let w = is.back rest g.0 g.1 in
    subst (SizedBack test next path (b ∷ rest)) (same_pair (path, g.0) x g.2)
    (record { path_is = refl; rest_is = ap (λ c. c ∷ rest) (eqb-true b 32 both.0) ∙ ap (λ l. 32 ∷ l) w.0; passes = both.1; ok = w.1 })
  where
    same_pair : (x y : List ℕ × A) → Some x ≡ Some y → x ≡ y
    same_pair x y e = cc

sized_back : {A : Type 0} (test : List ℕ → Bool) (next : Form A) → IsForm next → (bytes : List ℕ) (x : List ℕ × A) → (sized test next).read bytes ≡ Some x → (bytes ≡ (sized test next).text x) × (sized test next).ok x
sized_back test next is bytes x e =
    let h = bind_some (cut 32 bytes) (λ parts. small.read parts.0 >>= λ n. sized_at test next n parts.1) x e in
    let g = bind_some (small.read h.0.0) (λ n. sized_at test next n h.0.1) x h.2 in
    let w = is_small.back h.0.0 g.0 g.1 in
    let f = where_some (nat_lt g.0 (length h.0.1)) (sized_in test next (take g.0 h.0.1) (drop g.0 h.0.1)) x g.2 in
    let v = sized_in_back test next is (take g.0 h.0.1) (drop g.0 h.0.1) x f.1 in
    let low : g.0 < length h.0.1 = ltb-true g.0 (length h.0.1) f.0 in
    let size : length x.0 ≡ g.0 = ap length (sym v.path_is) ∙ length-take-le g.0 h.0.1 (omega arith) in
    let rest : h.0.1 ≡ x.0 ++ 32 ∷ next.text x.1 = sym (take-append-drop g.0 h.0.1) ∙ ap (λ l. l ++ drop g.0 h.0.1) v.path_is ∙ ap (λ l. x.0 ++ l) v.rest_is in
    let small_size : length x.0 ≤ 4294967295 = subst (λ n. n ≤ 4294967295) (sym size) w.1 in (
      cut_written 32 bytes h.0 h.1 ∙ ap (λ l. l ++ 32 ∷ h.0.1) (w.0 ∙ ap decimal (sym size)) ∙ ap (λ l. decimal (length x.0) ++ 32 ∷ l) rest,
      (small_size, (v.passes, v.ok)),
    )

is_sized : {A : Type 0} (test : List ℕ → Bool) (next : Form A) → IsForm next → IsForm (sized test next)
is_sized test next is = record { there = sized_there test next is; back = sized_back test next is }

-- ---- changes of the tree

line_path_line : (path : List ℕ) → is_line_path path ≡ true → is_one_line path ≡ true
line_path_line path e = and_second (is_path path) (is_one_line path) e

is_sized_path : IsForm (sized is_line_path key)
is_sized_path = is_sized is_line_path key is_key_form

sized_line : OneLine (sized is_line_path key)
sized_line = line_by_text (sized is_line_path key) is_sized_path (λ x ok.
    line_append (decimal (length x.0)) (32 ∷ (x.0 ++ 32 ∷ x.1)) (one_line-passes (decimal (length x.0)) (one_line-decimal (length x.0)))
    (line_append x.0 (32 ∷ x.1) (line_path_line x.0 ok.1.0) (key_one_line x.1 ok.1.1)))

abbrev sound_sized : Sound (List ℕ × List ℕ)
sound_sized = record { form = sized is_line_path key; is = is_sized_path; line = sized_line }

abbrev sound_change : Sound (ℕ × (List ℕ × List ℕ))
sound_change = sound_up_to 32 sound_small (λ p. sound_sized) small_space refl

path_short : (path : List ℕ) → is_path path ≡ true → length path ≤ 4294967295
path_short path e =
    let c = not (begins slash path) in
    let d = not (ends slash path) in
    let four = and_first (nat_le 1 (length path) && nat_le (length path) 1024 && c && d) (is_utf8 path) e in
    let three = and_first (nat_le 1 (length path) && nat_le (length path) 1024 && c) d four in
    let two = and_first (nat_le 1 (length path) && nat_le (length path) 1024) c three in
    let short = leb-true (length path) 1024 (and_second (nat_le 1 (length path)) (nat_le (length path) 1024) two) in
    omega arith

abbrev path_row : SoundRow path_words IsChange
path_row = sound_row path_words IsChange (codes "path ") sound_change a_mark refl (λ x ok. (refl, record { place = ok.0; path = ok.1.1.0; key = ok.1.1.1 }))

path_there : (mark : TreeMark) → IsChange mark → by_rows (those path_words IsChange (path_row ∷ [])) (path_words mark) ≡ Some mark
path_there mark ok = reads_at (those path_words IsChange (path_row ∷ [])) 0 (path_words mark) (codes "path ") path_parts a_mark sound_change.is
    (mark.place, (mark.path, mark.key)) (ok.place, (path_short mark.path (and_first (is_path mark.path) (is_one_line mark.path) ok.path), (ok.path, ok.key))) refl refl refl

pub is_path_form : IsForm path_form
is_path_form = is_table_of path_words IsChange (path_row ∷ []) path_there

pub path_form_line : OneLine path_form
path_form_line = line_of_table path_words IsChange (path_row ∷ [])

path_line_words : (p n path k : List ℕ) → (codes "path " ++ (p ++ 32 ∷ (n ++ 32 ∷ (path ++ 32 ∷ k)))) ++ newline ∷ [] ≡ codes "path " ++ p ++ codes " " ++ n ++ codes " " ++ path ++ codes " " ++ k ++ codes "\n"
path_line_words p n path k = simp append_assoc

pub path_spelled : (mark : TreeMark) → path_words mark ++ newline ∷ [] ≡ path_line mark
path_spelled mark = path_line_words (decimal mark.place) (decimal (length mark.path)) mark.path mark.key
