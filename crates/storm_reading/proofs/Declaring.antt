-- The lines that declare the repositories of a storm.
use Rattle.std.proofs.Common.{◌≡◌, ℕ, ◌+◌, ◌<◌, Bool, true, false, List, [], ◌∷◌, ◌++◌, length, map, Some, None, Ok, refl, ap, ◌∙◌, arith}
use Rattle.std.specs.Prelude.{◌||◌, codes, flat_map, if◌then◌else◌, nat_le, nat_lt, not}
use Rattle.std.specs.List.{list_all, range_with_len}
use Rattle.std.specs.Fmt.{decimal, digits}
use Rattle.uuid.specs.Text.{by_index}
use Rattle.annex_base.specs.Lines.{is_not_newline, newline}
use Rattle.annex_base.specs.RepoText.{repo_of}
use Rattle.script_forms.specs.declared.context.Repository.{Repository}
use Rattle.script_forms.specs.declared.verb.Verb.TheVariants as verbs
use Rattle.script_forms.specs.Context.{Context, has_id}
use Rattle.script_forms.specs.Forms.{row}
use Rattle.script_forms.specs.Limits.{passed_by}
use Rattle.script_forms.specs.declared.fault.Quantity.TheVariants.{Repositories}
use Rattle.script_forms.specs.Steps.{locks_at, new_id_at, new_name, new_name_at, nolock_of, offset_at, unless_known, version_at}
use Rattle.script_words.specs.Fields.{offset_of, version_of}
use Rattle.script_words.specs.Marks.{behind_mark}
use Rattle.script_words.specs.Places.{Cursor}
use Rattle.script_words.specs.Words.{is_break}
use Rattle.storm_script.specs.Storm.{repo_line, repo_word}
use Rattle.kept_copies.specs.Storms.{id_bytes, repo_command}
use Rattle.storm_reading.proofs.Writing.{is_plain, repo_declared}
use Rattle.storm_reading.proofs.Leading.{Holds, Led, Said, formed, led_line, led_range, verb}
use Rattle.storm_reading.proofs.Naming.{of_eight, passes_below, repo_plain}
use Rattle.storm_reading.proofs.Rows.{Before}
use Rattle.storm_reading.proofs.Stepping.{Stands, WordLaws, ended, not_taken, nothing_taken, reads, takes}

-- the first so many repositories
abbrev repos_before : ℕ → List Repository
repos_before r = map repo_declared (range_with_len 0 r)

-- they are declared, and no line but theirs came
pub record Declared (r : ℕ) (context : Context) : Type 0 where
  pub known : context.repos ≡ repos_before r
  pub only : context.closed ≡ false
  pub empty : context.contents ≡ 0

pub all_declared : (context : Context) → Declared 8 context → Holds 0 context
all_declared context d = let none = d.empty in record { known = d.known; few = omega (arith, none) }

-- ---- words

abbrev id_word : ℕ → List ℕ
id_word r = codes "00000000-0000-4000-8000-00000000000" ++ decimal r

abbrev mark : Bool → List ℕ
mark gives_none = if gives_none then codes " nolock" else []

name_said : (context : Context) (r : ℕ) → r < 8 → context.repos ≡ repos_before r → new_name context (repo_word r) ≡ Some (repo_word r)
unfolding digits
name_said context r h known =
    ap (λ rs. new_name (record context { repos = rs }) (repo_word r)) known
    ∙ of_eight (λ (q : ℕ). new_name (record context { repos = repos_before q }) (repo_word q)) (λ (q : ℕ). Some (repo_word q)) refl r h

id_plain : (r : ℕ) → r < 8 → is_plain (id_word r) ≡ true
unfolding digits
id_plain r h = passes_below (λ (q : ℕ). is_plain (id_word q)) 0 8 refl r (omega arith) (omega (arith, h))

id_spelled : (r : ℕ) → r < 8 → repo_of (id_word r) ≡ Some (id_bytes r)
unfolding digits by_index repo_of
id_spelled r h = of_eight (λ (q : ℕ). repo_of (id_word q)) (λ (q : ℕ). Some (id_bytes q)) refl r h

id_new : (r : ℕ) → r < 8 → has_id (repos_before r) (id_bytes r) ≡ false
id_new r h = of_eight (λ (q : ℕ). has_id (repos_before q) (id_bytes q)) (λ (q : ℕ). false) refl r h

id_said : (context : Context) (r : ℕ) → r < 8 → context.repos ≡ repos_before r → unless_known context (repo_of (id_word r)) ≡ Some (id_bytes r)
id_said context r h known = rw (id_spelled r h, known, id_new r h) refl

-- ---- a line

-- what stands behind the identifier
record Options (at : Cursor) (locks : Bool) : Type 0 where
  pub offset : offset_at at ≡ (0, at)
  pub version : version_at at ≡ (3, at)
  pub after : Cursor
  pub gives : locks_at at ≡ (locks, after)
  pub behind : Before after []

options : WordLaws → (at : Cursor) (b : Bool) → Before at (mark b) → Options at (not b)
unfolding offset_at version_at locks_at behind_mark
options words at true e =
    let s : Stands at (32 ∷ []) (codes "nolock") [] = record { goes_on = e; blank = refl; plain = refl; ends = refl } in
    let t = takes words nolock_of at (32 ∷ []) (codes "nolock") [] false s refl in
    record {
      offset = rw (not_taken words offset_of at (32 ∷ []) (codes "nolock") [] s refl) refl;
      version = rw (not_taken words version_of at (32 ∷ []) (codes "nolock") [] s refl) refl;
      after = t.after;
      gives = rw (t.gives) refl;
      behind = t.behind;
    }
options words at false e = record {
  offset = rw (nothing_taken words offset_of at e) refl;
  version = rw (nothing_taken words version_of at e) refl;
  after = at;
  gives = rw (nothing_taken words nolock_of at e) refl;
  behind = e;
}

mark_breaks : (b : Bool) → is_break (mark b) ≡ true
mark_breaks true = refl
mark_breaks false = refl

locks_are : (r : ℕ) → r < 8 → not (nat_le 6 r) ≡ nat_lt r 6
locks_are r h = of_eight (λ (q : ℕ). not (nat_le 6 q)) (λ (q : ℕ). nat_lt q 6) refl r h

-- the line, without its end
abbrev line_of : ℕ → List ℕ
line_of r = codes "repo " ++ repo_word r ++ codes " " ++ id_word r ++ mark (nat_le 6 r)

abbrev behind_verb : ℕ → List ℕ
behind_verb r = 32 ∷ (repo_word r ++ (32 ∷ (id_word r ++ mark (nat_le 6 r))))

begins : (r : ℕ) → r < 8 → line_of r ≡ codes "repo" ++ behind_verb r
unfolding digits
begins r h = of_eight (λ (q : ℕ). line_of q) (λ (q : ℕ). codes "repo" ++ behind_verb q) refl r h

ends_so : (r : ℕ) → r < 8 → line_of r ++ newline ∷ [] ≡ repo_line r
unfolding digits
ends_so r h = of_eight (λ (q : ℕ). line_of q ++ newline ∷ []) (λ (q : ℕ). repo_line q) refl r h

line_one : (r : ℕ) → r < 8 → list_all is_not_newline (line_of r) ≡ true
unfolding digits
line_one r h = passes_below (λ (q : ℕ). list_all is_not_newline (line_of q)) 0 8 refl r (omega arith) (omega (arith, h))

few_before : (r : ℕ) → r < 8 → passed_by Repositories (length (repos_before r) + 1) None ≡ None
few_before r h = of_eight (λ (q : ℕ). passed_by Repositories (length (repos_before q) + 1) None) (λ (q : ℕ). None) refl r h

one_more : (r : ℕ) → r < 8 → repos_before r ++ repo_declared r ∷ [] ≡ repos_before (r + 1)
one_more r h = of_eight (λ (q : ℕ). repos_before q ++ repo_declared q ∷ []) (λ (q : ℕ). repos_before (q + 1)) refl r h

module _ (words : WordLaws) where
  repo_row : (context : Context) (at : Cursor) (r : ℕ) → r < 8 → Declared r context → Before at (behind_verb r) → (row verbs.Repo).1 context at ≡ Ok (repo_command r)
  unfolding new_name_at new_id_at
  repo_row context at r h d e =
      let rest = 32 ∷ (id_word r ++ mark (nat_le 6 r)) in
      let n = reads words (new_name context) at (32 ∷ []) (repo_word r) rest (repo_word r) (record { goes_on = e; blank = refl; plain = repo_plain r h; ends = refl }) (name_said context r h (d.known)) in
      let i = reads words (λ word. unless_known context (repo_of word)) n.after (32 ∷ []) (id_word r) (mark (nat_le 6 r)) (id_bytes r) (record { goes_on = n.behind; blank = refl; plain = id_plain r h; ends = mark_breaks (nat_le 6 r) }) (id_said context r h (d.known)) in
      let o = options words i.after (nat_le 6 r) i.behind in
      rw (d.only, n.gives, i.gives, o.offset, o.version, o.gives, ended words o.after o.behind, locks_are r h) refl

  repo_said : (r : ℕ) → r < 8 → Said (Declared r) (Declared (r + 1)) (line_of r) (repo_command r)
  repo_said r h =
      let v = verb words (line_of r) (codes "repo") (behind_verb r) verbs.Repo (begins r h) refl refl refl in
      record {
        says = λ context before number d. formed context before number (line_of r) (behind_verb r) verbs.Repo (repo_command r) v refl (repo_row context v.after r h d v.behind)
            (ap (λ rs. passed_by Repositories (length rs + 1) None) d.known ∙ few_before r h);
        holds = λ context d.
            let none = d.empty in
            record {
              known = ap (λ rs. rs ++ repo_declared r ∷ []) d.known ∙ one_more r h;
              only = ap (λ b. b || false) d.only;
              empty = omega (arith, none);
            };
        one = line_one r h;
        built = refl;
      }

  pub repos_led : Led (Declared 0) (Declared 8) (flat_map repo_line (range_with_len 0 8)) (map repo_command (range_with_len 0 8))
  repos_led =
      led_range Declared repo_line repo_command 0 8 (λ a low high. led_line (Declared a) (Declared (a + 1)) (line_of a) (repo_line a) (repo_command a) (ends_so a high) (repo_said a high)) 8 0 (omega arith) refl
