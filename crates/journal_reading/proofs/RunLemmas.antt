-- Journals of well-formed runs are read as those runs, and what is read is printed so.
use Rattle.std.proofs.Common.{◌≡◌, inl, inr, ℕ, ◌≤◌, Bool, true, if◌then◌else◌, List, [], ◌∷◌, ◌++◌, map, length, Option, Some, None, refl, sym, ap, subst, ◌∙◌, append_assoc}
use Rattle.std.specs.Prelude.{codes, nat_le, ◌&&◌}
use Rattle.std.specs.List.{flat_map}
use Rattle.std.specs.Fmt.{decimal}
use Rattle.std.proofs.lemmas.Bool.{and_parts, cases_Bool, leb-true, le-leb}
use Rattle.std.proofs.lemmas.List.{append-nil}
use Rattle.annex_base.specs.Lines.{newline, is_one_line}
use Rattle.annex_base.specs.Lists.{Each}
use Rattle.annex_base.proofs.Lists.{Each-append}
use Rattle.run_data.specs.declared.run.Run.{Run}
use Rattle.run_data.specs.declared.run.RepoView.{RepoView}
use Rattle.run_data.specs.declared.run.TreeMark.{TreeMark}
use Rattle.run_data.specs.declared.entry.Entry.{Entry}
use Rattle.script_words.specs.Marks.{behind_mark}
use Rattle.journal_text.specs.Journal.{journal, repo_line, path_line, entries_text}
use Rattle.journal_reading.specs.Forms.{behind}
use Rattle.journal_reading.specs.Fields.{large}
use Rattle.journal_reading.specs.Lines.{IsRepo, repo_words, repo_form, is_new, path_words, path_form}
use Rattle.journal_reading.specs.Reading.{Saying, ◌>>>◌, said_or, one, lines_of, entries_in, repo_by, repos_in, mark_by, marks_in, header, a_run, run_behind, marks_behind, run_in, ended, reading_of, journal_in}
use Rattle.journal_reading.specs.Reading.Saying.{Said, Outside}
use Rattle.journal_reading.specs.Reading.Reading.{Journal}
use Rattle.journal_reading.specs.WellFormed.{AreNew, AreMarks, IsWellFormedRun, unmarked, JournalsAreRead, IsJournal, TextsReadAsTheirRuns, JournalsDiffer, text_of_lines}
use Rattle.journal_reading.proofs.FormLemmas.{IsForm, is_behind}
use Rattle.journal_reading.proofs.FieldLemmas.{is_large}
use Rattle.journal_reading.proofs.NameLemmas.{are_named}
use Rattle.journal_reading.proofs.SoundLemmas.{text_by_line, behind_line, number_line}
use Rattle.journal_reading.proofs.AddedLemmas.{said_goes, one_said}
use Rattle.journal_reading.proofs.HeadLemmas.{is_repo_form, repo_form_line, repo_spelled, is_path_form, path_form_line, path_spelled}
use Rattle.journal_reading.proofs.LineLemmas.{lines_found, lines_joined, differ}
use Rattle.journal_reading.proofs.EntryLemmas.{Unmarked, entries_lines, entries_unmarked, entries_there, entries_back, same_said, lines_text, text_append, entries_spelled, AreLines, entries_lined}

-- ---- repositories

repo_unmarked : (line : List ℕ) → behind_mark (codes "repo ") line ≡ None → repo_form.read line ≡ None
repo_unmarked line none = rw none refl

path_unmarked : (line : List ℕ) → behind_mark (codes "path ") line ≡ None → path_form.read line ≡ None
path_unmarked line none = rw none refl

repos_there : (xs before : List RepoView) (rest : List (List ℕ)) → Each IsRepo xs → AreNew before xs → Unmarked (codes "repo ") rest → repos_in before (map repo_words xs ++ rest) ≡ (before ++ xs, rest)
repos_there [] before [] each new none = ap (λ (b : List RepoView). (b, [])) (sym (append-nil before))
repos_there [] before (line ∷ lines) each new none =
    ap (λ o. repo_by before o line lines (λ more. repos_in more lines)) (repo_unmarked line none) ∙ ap (λ (b : List RepoView). (b, line ∷ lines)) (sym (append-nil before))
repos_there (x ∷ xs) before rest each new none =
    let more : List (List ℕ) = map repo_words xs ++ rest in
    ap (λ o. repo_by before o (repo_words x) more (λ b. repos_in b more)) (is_repo_form.there x each.0)
    ∙ ap (λ t. if t then repos_in (before ++ x ∷ []) more else (before, repo_words x ∷ more)) new.0
    ∙ repos_there xs (before ++ x ∷ []) rest each.1 new.1 none
    ∙ ap (λ (b : List RepoView). (b, rest)) (append_assoc before (x ∷ []) xs)

pub record ReposBack (before : List RepoView) (lines : List (List ℕ)) (r : List RepoView × List (List ℕ)) : Type 0 where
  pub xs : List RepoView
  pub now : r.0 ≡ before ++ xs
  pub spelled : lines ≡ map repo_words xs ++ r.1
  pub each : Each IsRepo xs
  pub new : AreNew before xs

no_repos : (before : List RepoView) (lines : List (List ℕ)) → ReposBack before lines (before, lines)
no_repos before lines = record { xs = []; now = sym (append-nil before); spelled = refl; each = tt; new = tt }

repo_by_back : (before : List RepoView) (line : List ℕ) (lines : List (List ℕ)) → ((b : List RepoView) → ReposBack b lines (repos_in b lines)) → (o : Option RepoView) → repo_form.read line ≡ o
    → ReposBack before (line ∷ lines) (repo_by before o line lines (λ more. repos_in more lines))
repo_by_back before line lines more None is = no_repos before (line ∷ lines)
repo_by_back before line lines more (Some x) is = elim (cases_Bool (is_new before x)) [
  | inl new ↦
      let w = is_repo_form.back line x is in
      let v = more (before ++ x ∷ []) in
      subst (λ (t : Bool). ReposBack before (line ∷ lines) (if t then repos_in (before ++ x ∷ []) lines else (before, line ∷ lines))) (sym new)
      (record {
        xs = x ∷ v.xs;
        now = v.now ∙ append_assoc before (x ∷ []) v.xs;
        spelled = ap (λ (l : List ℕ). l ∷ lines) w.0 ∙ ap (λ (l : List (List ℕ)). repo_words x ∷ l) v.spelled;
        each = (w.1, v.each);
        new = (new, v.new);
      })
  | inr old ↦ subst (λ (t : Bool). ReposBack before (line ∷ lines) (if t then repos_in (before ++ x ∷ []) lines else (before, line ∷ lines))) (sym old) (no_repos before (line ∷ lines))
]

pub repos_back : (lines : List (List ℕ)) (before : List RepoView) → ReposBack before lines (repos_in before lines)
repos_back [] before = no_repos before []
repos_back (line ∷ lines) before = repo_by_back before line lines (λ b. repos_back lines b) (repo_form.read line) refl

-- ---- changes of the tree

marks_there : (ms : List TreeMark) (last most : ℕ) (rest : List (List ℕ)) → AreMarks last most ms → Unmarked (codes "path ") rest → marks_in last most (map path_words ms ++ rest) ≡ (ms, rest)
marks_there [] last most [] ok none = refl
marks_there [] last most (line ∷ lines) ok none = ap (λ o. mark_by last most o line lines (λ place. marks_in place most lines)) (path_unmarked line none)
marks_there (m ∷ ms) last most rest ok none =
    let more : List (List ℕ) = map path_words ms ++ rest in
    let low : nat_le last m.place ≡ true = le-leb last m.place ok.0.in_order in
    let high : nat_le m.place most ≡ true = le-leb m.place most ok.0.within in
    let test : (nat_le last m.place && nat_le m.place most) ≡ true = ap (λ t. t && nat_le m.place most) low ∙ high in
    ap (λ o. mark_by last most o (path_words m) more (λ place. marks_in place most more)) (is_path_form.there m ok.0.change)
    ∙ ap (λ t. if t then (m ∷ (marks_in m.place most more).0, (marks_in m.place most more).1) else ([], path_words m ∷ more)) test
    ∙ ap (λ (r : List TreeMark × List (List ℕ)). (m ∷ r.0, r.1)) (marks_there ms m.place most rest ok.1 none)

pub record MarksBack (last most : ℕ) (lines : List (List ℕ)) (r : List TreeMark × List (List ℕ)) : Type 0 where
  pub spelled : lines ≡ map path_words r.0 ++ r.1
  pub ok : AreMarks last most r.0

mark_by_back : (last most : ℕ) (line : List ℕ) (lines : List (List ℕ)) → ((place : ℕ) → MarksBack place most lines (marks_in place most lines)) → (o : Option TreeMark) → path_form.read line ≡ o
    → MarksBack last most (line ∷ lines) (mark_by last most o line lines (λ place. marks_in place most lines))
mark_by_back last most line lines more None is = record { spelled = refl; ok = tt }
mark_by_back last most line lines more (Some m) is = elim (cases_Bool (nat_le last m.place && nat_le m.place most)) [
  | inl fits ↦
      let w = is_path_form.back line m is in
      let v = more m.place in
      let both = and_parts (nat_le last m.place) (nat_le m.place most) fits in
      subst (λ (t : Bool). MarksBack last most (line ∷ lines) (if t then (m ∷ (marks_in m.place most lines).0, (marks_in m.place most lines).1) else ([], line ∷ lines))) (sym fits)
      (record {
        spelled = ap (λ (l : List ℕ). l ∷ lines) w.0 ∙ ap (λ (l : List (List ℕ)). path_words m ∷ l) v.spelled;
        ok = (record { in_order = leb-true last m.place both.0; within = leb-true m.place most both.1; change = w.1 }, v.ok);
      })
  | inr out ↦ subst (λ (t : Bool). MarksBack last most (line ∷ lines) (if t then (m ∷ (marks_in m.place most lines).0, (marks_in m.place most lines).1) else ([], line ∷ lines))) (sym out) (record { spelled = refl; ok = tt })
]

pub marks_back : (lines : List (List ℕ)) (last most : ℕ) → MarksBack last most lines (marks_in last most lines)
marks_back [] last most = record { spelled = refl; ok = tt }
marks_back (line ∷ lines) last most = mark_by_back last most line lines (λ place. marks_back lines place most) (path_form.read line) refl

-- ---- the lines of a journal

pub is_header : IsForm (behind (codes "journal ") large)
is_header = is_behind (codes "journal ") large is_large

abbrev pub header_line : ℕ → List ℕ
header_line n = codes "journal " ++ decimal n

abbrev pub journal_lines : List RepoView → List TreeMark → List Entry → List (List ℕ)
journal_lines repos tree entries = header_line (length entries) ∷ (map repo_words repos ++ (map path_words tree ++ entries_lines repos [] entries))

spelled_lines : (repos : List RepoView) (tree : List TreeMark) (entries : List Entry) → text_of_lines (journal_lines repos tree entries)
    ≡ codes "journal " ++ decimal (length entries) ++ codes "\n" ++ flat_map repo_line repos ++ flat_map path_line tree ++ entries_text repos [] entries
spelled_lines repos tree entries =
    let front : List ℕ = header_line (length entries) ++ newline ∷ [] in
    let a = map repo_words repos in
    let b = map path_words tree in
    let c = entries_lines repos [] entries in
    ap (λ l. front ++ l)
    (text_append a (b ++ c) ∙ ap (λ l. text_of_lines a ++ l) (text_append b c)
    ∙ ap (λ l. l ++ (text_of_lines b ++ text_of_lines c)) (lines_text repo_words repo_line repo_spelled repos)
    ∙ ap (λ l. flat_map repo_line repos ++ (l ++ text_of_lines c)) (lines_text path_words path_line path_spelled tree)
    ∙ ap (λ l. flat_map repo_line repos ++ (flat_map path_line tree ++ l)) (entries_spelled repos [] entries))
    ∙ sym (grouped front (flat_map repo_line repos) (flat_map path_line tree) (entries_text repos [] entries))
  where
    grouped : (w x y z : List ℕ) → ((w ++ x) ++ y) ++ z ≡ w ++ (x ++ (y ++ z))
    grouped w x y z = append_assoc (w ++ x) y z ∙ append_assoc w x (y ++ z)

repos_lined : (repos : List RepoView) → Each IsRepo repos → AreLines (map repo_words repos)
repos_lined [] each = tt
repos_lined (x ∷ xs) each = (text_by_line repo_form is_repo_form repo_form_line x each.0, repos_lined xs each.1)

marks_lined : (last most : ℕ) (ms : List TreeMark) → AreMarks last most ms → AreLines (map path_words ms)
marks_lined last most [] ok = tt
marks_lined last most (m ∷ ms) ok = (text_by_line path_form is_path_form path_form_line m ok.0.change, marks_lined m.place most ms ok.1)

journal_lined : (run : Run) → IsWellFormedRun run → AreLines (journal_lines run.repos run.tree run.entries)
journal_lined run is =
    let named = are_named run.repos is.repos is.distinct in (
      text_by_line (behind (codes "journal ") large) is_header (behind_line (codes "journal ") large refl (number_line 18446744073709551615)) (length run.entries) is.count,
      Each-append (λ line. is_one_line line ≡ true) (map repo_words run.repos) (map path_words run.tree ++ entries_lines run.repos [] run.entries) (repos_lined run.repos is.repos)
          (Each-append (λ line. is_one_line line ≡ true) (map path_words run.tree) (entries_lines run.repos [] run.entries) (marks_lined 0 (length run.entries) run.tree is.tree)
          (entries_lined run.repos named run.tree run.entries [] 0 refl is.entries)),
    )

-- ---- a well-formed run is read

paths_after : (ms : List TreeMark) (rest : List (List ℕ)) → Unmarked (codes "repo ") rest → Unmarked (codes "repo ") (map path_words ms ++ rest)
unfolding behind_mark
paths_after [] rest none = none
paths_after (m ∷ ms) rest none = refl

pub run_there : (run : Run) → IsWellFormedRun run → run_in (journal_lines run.repos run.tree run.entries) ≡ Said (unmarked run) []
run_there run is =
    let named = are_named run.repos is.repos is.distinct in
    let n = length run.entries in
    let c : List (List ℕ) = entries_lines run.repos [] run.entries in
    let b : List (List ℕ) = map path_words run.tree ++ c in
    let a : List (List ℕ) = map repo_words run.repos ++ b in
    let no_repo : Unmarked (codes "repo ") b = paths_after run.tree c (entries_unmarked 114 (codes "epo ") refl run.repos run.tree 0 [] run.entries is.entries) in
    let no_path : Unmarked (codes "path ") c = entries_unmarked 112 (codes "ath ") refl run.repos run.tree 0 [] run.entries is.entries in
    ap (λ o. said_or (header_line n ∷ a) a o >>> λ k more. marks_behind k (repos_in [] more)) (is_header.there n is.count)
    ∙ ap (λ r. marks_behind n r) (repos_there run.repos [] b is.repos is.distinct no_repo)
    ∙ ap (λ m. run_behind n run.repos m) (marks_there run.tree 0 n c is.tree no_path)
    ∙ ap (λ o. o >>> λ entries more. Said (a_run run.repos run.tree entries) more) (entries_there run.repos named run.tree run.entries [] 0 refl is.entries)

-- the text of a journal's lines is the journal, and they are its lines
pub journal_text_is : (run : Run) → text_of_lines (journal_lines run.repos run.tree run.entries) ≡ journal run
journal_text_is run = spelled_lines run.repos run.tree run.entries

pub journal_cut : (run : Run) → IsWellFormedRun run → lines_of (journal run) ≡ (journal_lines run.repos run.tree run.entries, [])
journal_cut run is =
    let lines : List (List ℕ) = journal_lines run.repos run.tree run.entries in
    ap lines_of (sym (append-nil (text_of_lines lines) ∙ journal_text_is run)) ∙ lines_found lines [] (journal_lined run is) refl

pub are_read : JournalsAreRead
unfolding journal_in
are_read run is =
    ap reading_of (journal_cut run is) ∙ ap (λ o. ended (length (journal_lines run.repos run.tree run.entries)) [] o) (run_there run is)

-- ---- what is read is printed

pub record RunBack (all : List (List ℕ)) (run : Run) (rest : List (List ℕ)) : Type 0 where
  pub spelled : all ≡ journal_lines run.repos run.tree run.entries ++ rest
  pub is : IsWellFormedRun run
  pub marks : run.marks ≡ []

pub run_back : (all : List (List ℕ)) (run : Run) (rest : List (List ℕ)) → run_in all ≡ Said run rest → RunBack all run rest
run_back all run rest e =
    let h = said_goes (one header all) (λ n more. marks_behind n (repos_in [] more)) run rest e in
    let n : ℕ = h.x in
    let o = one_said header all n h.lines h.was in
    let w = is_header.back o.line n o.reads in
    let repos : List RepoView × List (List ℕ) = repos_in [] h.lines in
    let r = repos_back h.lines [] in
    let marks : List TreeMark × List (List ℕ) = marks_in 0 n repos.1 in
    let m = marks_back repos.1 0 n in
    let g = said_goes (entries_in n repos.0 marks.0 [] marks.1) (λ entries more. Said (a_run repos.0 marks.0 entries) more) run rest h.then in
    let each : Each IsRepo repos.0 = subst (Each IsRepo) (sym r.now) r.each in
    let new : AreNew [] repos.0 = subst (AreNew []) (sym r.now) r.new in
    let named = are_named repos.0 each new in
    let v = entries_back n repos.0 named marks.0 [] 0 marks.1 g.x g.lines refl g.was in
    let found : Run = a_run repos.0 marks.0 g.x in
    let both = same_said found run g.lines rest g.then in
    let c : List (List ℕ) = entries_lines repos.0 [] g.x in
    let third : marks.1 ≡ c ++ rest = v.spelled ∙ ap (λ ls. c ++ ls) both.1 in
    let second : repos.1 ≡ map path_words marks.0 ++ (c ++ rest) = m.spelled ∙ ap (λ ls. map path_words marks.0 ++ ls) third in
    let first : h.lines ≡ map repo_words repos.0 ++ (map path_words marks.0 ++ (c ++ rest)) = r.spelled ∙ ap (λ ls. map repo_words r.xs ++ ls) second ∙ ap (λ (xs : List RepoView). map repo_words xs ++ (map path_words marks.0 ++ (c ++ rest))) (sym r.now) in
    let whole : all ≡ journal_lines repos.0 marks.0 g.x ++ rest =
    o.first ∙ ap (λ (l : List ℕ). l ∷ h.lines) (w.0 ∙ ap header_line (sym v.count))
    ∙ ap (λ ls. header_line (length g.x) ∷ ls) (first ∙ sym (grouped (map repo_words repos.0) (map path_words marks.0) c rest)) in
    subst (λ (y : Run). RunBack all y rest) both.0 (record {
      spelled = whole;
      is = record {
        repos = each;
        distinct = new;
        count = subst (λ k. k ≤ 18446744073709551615) (sym v.count) w.1;
        tree = subst (λ k. AreMarks 0 k marks.0) (sym v.count) m.ok;
        entries = v.ok;
      };
      marks = refl;
    })
  where
    grouped : (x y z rest : List (List ℕ)) → (x ++ (y ++ z)) ++ rest ≡ x ++ (y ++ (z ++ rest))
    grouped x y z rest = append_assoc x (y ++ z) rest ∙ ap (λ l. x ++ l) (append_assoc y z rest)

ended_back : (count : ℕ) (tail : List ℕ) (o : Saying Run) (run : Run) → ended count tail o ≡ Journal run → (tail ≡ []) × (o ≡ Said run [])
ended_back count [] (Said found []) run e = (refl, cc)
ended_back count (b ∷ tail) (Said found []) run e = absurd cc
ended_back count [] (Said found (line ∷ lines)) run e = absurd cc
ended_back count (b ∷ tail) (Said found (line ∷ lines)) run e = absurd cc
ended_back count [] (Outside lines) run e = absurd cc
ended_back count (b ∷ tail) (Outside lines) run e = absurd cc

what_is_read : (bytes : List ℕ) (run : Run) → journal_in bytes ≡ Journal run → IsJournal bytes run
unfolding journal_in
what_is_read bytes run e =
    let cut : List (List ℕ) × List ℕ = lines_of bytes in
    let h = ended_back (length cut.0) cut.1 (run_in cut.0) run e in
    let w = run_back cut.0 run [] h.1 in
    let lines : List (List ℕ) = journal_lines run.repos run.tree run.entries in
    let text : text_of_lines lines ≡ bytes =
    ap text_of_lines (sym (w.spelled ∙ append-nil lines)) ∙ sym (append-nil (text_of_lines cut.0)) ∙ ap (λ l. text_of_lines cut.0 ++ l) (sym h.0) ∙ lines_joined bytes in
    (w.is, sym (journal_text_is run) ∙ text, w.marks)

pub are_printed : TextsReadAsTheirRuns
are_printed bytes run = (
  what_is_read bytes run,
  λ is. ap journal_in (sym is.1) ∙ are_read run is.0 ∙ ap (λ (m : List ℕ). Journal (record run { marks = m })) (sym is.2),
)

pub are_apart : JournalsDiffer
are_apart = differ are_read
