-- The line that is written has the entry.
use Rattle.std.proofs.Common.{◌⊎◌, inl, inr, ◌≡◌, ℕ, ◌<◌, ◌≤◌, ◌^◌, List, [], ◌∷◌, ◌++◌, length, take, append_assoc, Option, Some, None, Result, Ok, Err, IfOk, refl, sym, ap, subst, ◌∙◌, arith, lit<}
use Rattle.std.specs.Char.{is_ascii_digit}
use Rattle.std.specs.List.{AllPass}
use Rattle.std.specs.Fmt.{decimal}
use Rattle.std.specs.Str.Parse.{digits_value}
use Rattle.std.proofs.lemmas.List.{append-nil, take_all}
use Rattle.std.proofs.lemmas.List.Sums.{AllPass-from_list_all}
use Rattle.std.proofs.lemmas.Fmt.{digits_decimal, digits_value-decimal, decimal_nonempty, length-decimal-le}
use Rattle.std.proofs.lemmas.Option.{same_Some}
use Rattle.annex_base.specs.RepoText.{repo_text}
use Rattle.annex_base.specs.StampText.{IsStamp, stamp_text}
use Rattle.annex_base.proofs.StampLemmas.{ascii_numerals, stamp_written}
use Rattle.annex_base.proofs.Lists.{list_all_append, nil_cons}
use Rattle.log_grammar.specs.declared.entry.LogKind.{LogKind}
use Rattle.log_grammar.specs.declared.entry.LogKind.TheVariants as kinds
use Rattle.log_grammar.specs.declared.entry.Topic.{Topic}
use Rattle.log_grammar.specs.declared.entry.Value.{Value}
use Rattle.log_grammar.specs.declared.entry.Value.TheVariants as values
use Rattle.log_grammar.specs.declared.entry.Entry.{Entry}
use Rattle.annex_base.specs.Lines.{space, is_not_space}
use Rattle.log_grammar.specs.LineText.{stamp_mark, EndsMarked, BeginsStamped, Ends, IsLocationLine, IsRepoLine, IsLevelBody, IsTextBody, IsGroupBody, IsUngroupedLine, IsGroupLine, IsGroupTextLine, IsNumber, IsNumberLine, IsPathNumberLine, IsStatus, HasForm, IsLine, HasLine, topic_text, value_text, spaced_value, stamp_first, stamp_last, spaced_text, repo_line_text, group_line_text, number_line_text, line_text}
use Rattle.log_grammar.specs.Reading.{last_word}
use Rattle.log_grammar.proofs.NumberLemmas.{nine_digits_below}
use Rattle.log_grammar.proofs.WordLemmas.{last_again}
use Rattle.log_grammar.proofs.StampLemmas.{stamp_below}
use Rattle.log_grammar.proofs.FormLemmas.{single_all, single_none}
use Rattle.log_grammar.proofs.PlainLemmas.{Plain, plain_append, plain_nil, plain_low, digits_plain, stamp_plain, plain_before, plain_after}

-- ---- a stamp in front

written : (line : List ℕ) (time : ℕ) (rest : List ℕ) → BeginsStamped line time rest → IsStamp (stamp_text time) time
written line time rest is = stamp_written time (stamp_below is.stamp time is.is)

rest_plain : (line : List ℕ) (time : ℕ) (rest : List ℕ) → Plain line → BeginsStamped line time rest → Plain rest
rest_plain line time rest p is = plain_after is.stamp rest (subst Plain is.spelled p)

space_plain : Plain (space ∷ [])
space_plain = plain_low (space ∷ []) refl

first_plain : (stamp rest : List ℕ) → Plain stamp → Plain rest → Plain (stamp ++ (space ∷ []) ++ rest)
first_plain stamp rest p q = plain_append (stamp ++ (space ∷ [])) rest (plain_append stamp (space ∷ []) p space_plain) q

first_begins : (time : ℕ) (rest : List ℕ) → IsStamp (stamp_text time) time → BeginsStamped (stamp_first (Some time) ++ rest) time rest
first_begins time rest is = record { stamp = stamp_text time; is = is; spelled = append_assoc (stamp_text time) (space ∷ []) rest }

-- a line of this text, which is a stamp, a space and the rest
record Begun (text : List ℕ) (time : ℕ) (rest : List ℕ) : Type 0 where
  plain : Plain text
  begins : BeginsStamped text time rest

begun : (line : List ℕ) (time : ℕ) (rest rest' text : List ℕ) → BeginsStamped line time rest → Plain rest' → text ≡ stamp_first (Some time) ++ rest' → Begun text time rest'
begun line time rest rest' text is p spelled =
    let stamp = written line time rest is in
    subst (λ (t : List ℕ). Begun t time rest') (sym spelled)
    (record { plain = first_plain (stamp_text time) rest' (stamp_plain (stamp_text time) time stamp) p; begins = first_begins time rest' stamp })

record Written (IsForm : List ℕ → Entry → Type 0) (text : List ℕ) (e : Entry) : Type 0 where
  plain : Plain text
  form : IsForm text e

-- ---- location logs

status_letter : (v : Value) (letter : ℕ) → IsStatus v letter → value_text v ≡ letter ∷ []
status_letter values.Present letter is = is
status_letter values.Absent letter is = is
status_letter values.Gone letter is = is
status_letter v letter is = absurd is

location_spelled : (first repo : List ℕ) (letter : ℕ) → first ++ (letter ∷ []) ++ (space ∷ []) ++ repo ≡ first ++ (letter ∷ space ∷ repo)
location_spelled first repo letter = simp append_assoc

location_written : (line : List ℕ) (e : Entry) → Plain line → IsLocationLine line e → Written IsLocationLine (spaced_text e) e
location_written line e p is =
    let rest = is.letter ∷ space ∷ repo_text is.id in
    let spelled : spaced_text e ≡ stamp_first (Some is.time) ++ rest =
    ap (λ (s : Option ℕ). stamp_first s ++ value_text e.value ++ (space ∷ []) ++ topic_text e.topic) is.at
    ∙ ap (λ (v : List ℕ). stamp_first (Some is.time) ++ v ++ (space ∷ []) ++ topic_text e.topic) (status_letter e.value is.letter is.status)
    ∙ ap (λ (t : Topic). stamp_first (Some is.time) ++ (is.letter ∷ []) ++ (space ∷ []) ++ topic_text t) is.topic
    ∙ location_spelled (stamp_first (Some is.time)) (repo_text is.id) is.letter in
    let b = begun line is.time rest rest (spaced_text e) is.begins (rest_plain line is.time rest p is.begins) spelled in
    record { plain = b.plain; form = record { time = is.time; letter = is.letter; id = is.id; begins = b.begins; status = is.status; repo = is.repo; topic = is.topic; at = is.at } }

-- ---- numbers

record IsWritten (v : Value) (digits : List ℕ) : Type 0 where
  text : value_text v ≡ digits
  says : IsNumber v digits
  plain : Plain digits

number_below : (digits : List ℕ) (n : ℕ) → AllPass is_ascii_digit digits → length digits ≤ 9 → n ≡ digits_value 10 digits → n < 10 ^ 9
number_below digits n all short is =
    omega (arith, is, ap (digits_value 10) (take_whole digits), nine_digits_below digits (length digits) all short) where
      take_whole : (ds : List ℕ) → take (length ds) ds ≡ ds
      take_whole ds = take_all (length ds) ds (omega arith)

number_is : (v : Value) (digits : List ℕ) → IsNumber v digits → (d : List ℕ) × IsWritten v d
number_is (values.Number n) digits is =
    let below : n < 10 ^ 9 = number_below digits n is.2 is.1 is.3 in
    let small : n < 2 ^ 64 = omega arith in
    let all : AllPass is_ascii_digit (decimal n) = AllPass-from_list_all is_ascii_digit (decimal n) (digits_decimal ascii_numerals n small) in (
      decimal n,
      record {
        text = refl;
        says = (decimal_nonempty n small, length-decimal-le 9 n (lit< tt) below small, all, sym (digits_value-decimal ascii_numerals n small));
        plain = digits_plain (decimal n) all;
      },
    )
number_is v digits is = absurd is

number_written : (line : List ℕ) (e : Entry) → Plain line → IsNumberLine line e → Written IsNumberLine (number_line_text e) e
number_written line e p is =
    let d = number_is e.value is.digits is.says in
    let spelled : number_line_text e ≡ stamp_first (Some is.time) ++ d.0 =
    ap (λ (s : Option ℕ). stamp_first s ++ value_text e.value) is.at ∙ ap (λ (v : List ℕ). stamp_first (Some is.time) ++ v) d.1.text in
    let b = begun line is.time is.digits d.0 (number_line_text e) is.begins d.1.plain spelled in
    record { plain = b.plain; form = record { time = is.time; digits = d.0; begins = b.begins; says = d.1.says; topic = is.topic; at = is.at } }

spaced_parts : (first digits pattern : List ℕ) → first ++ digits ++ (space ∷ []) ++ pattern ≡ first ++ (digits ++ (space ∷ pattern))
spaced_parts first digits pattern = simp append_assoc

path_number_written : (line : List ℕ) (e : Entry) → Plain line → IsPathNumberLine line e → Written IsPathNumberLine (spaced_text e) e
path_number_written line e p is =
    let d = number_is e.value is.digits is.says in
    let first = stamp_first (Some is.time) in
    let rest' = d.0 ++ (space ∷ is.pattern) in
    let spelled : spaced_text e ≡ first ++ rest' =
    ap (λ (s : Option ℕ). stamp_first s ++ value_text e.value ++ (space ∷ []) ++ topic_text e.topic) is.at
    ∙ ap (λ (v : List ℕ). first ++ v ++ (space ∷ []) ++ topic_text e.topic) d.1.text
    ∙ ap (λ (t : Topic). first ++ d.0 ++ (space ∷ []) ++ topic_text t) is.topic
    ∙ spaced_parts first d.0 is.pattern in
    let pattern = plain_after is.digits is.pattern (rest_plain line is.time (is.digits ++ (space ∷ is.pattern)) p is.begins) in
    let plain = plain_append d.0 (space ∷ is.pattern) d.1.plain (plain_append (space ∷ []) is.pattern (plain_low (space ∷ []) refl) pattern) in
    let b = begun line is.time (is.digits ++ (space ∷ is.pattern)) rest' (spaced_text e) is.begins plain spelled in
    record { plain = b.plain; form = record { time = is.time; digits = d.0; pattern = is.pattern; begins = b.begins; says = d.1.says; some = is.some; topic = is.topic; at = is.at } }

-- ---- the value after a topic

-- the text of the value is the body that was read, or the space of an empty text
abbrev SameBody : List ℕ → List ℕ → Type 0
SameBody body' body = (body' ≡ body) ⊎ ((body' ≡ space ∷ []) × (body ≡ []))

body_plain : (front body body' : List ℕ) → Plain (front ++ body) → SameBody body' body → Plain (front ++ body')
body_plain front body body' p same =
    elim same [
      | inl is ↦ subst (λ (b : List ℕ). Plain (front ++ b)) (sym is) p
      | inr none ↦
          let whole : front ++ body ≡ front = ap (λ (b : List ℕ). front ++ b) none.1 ∙ append-nil front in
          subst (λ (b : List ℕ). Plain (front ++ b)) (sym none.0) (plain_append front (space ∷ []) (subst Plain whole p) space_plain)
    ]

record Spaced (IsBody : Value → List ℕ → Type 0) (v : Value) (body : List ℕ) : Type 0 where
  says : IsBody v (spaced_value v)
  same : SameBody (spaced_value v) body

level_spaced : (v : Value) (body : List ℕ) → IsLevelBody v body → Spaced IsLevelBody v body
level_spaced (values.Level l) body is = record { says = refl; same = inl (sym is) }
level_spaced v body is = absurd is

text_spaced : (v : Value) (body : List ℕ) → IsTextBody v body → Spaced IsTextBody v body
text_spaced (values.Text t) body is = record { says = inl refl; same = elim is [ inl spelled ↦ inl (sym spelled) | inr none ↦ inr (ap (λ (l : List ℕ). space ∷ l) none.0, none.1) ] }
text_spaced v body is = absurd is

groups_spaced : (v : Value) (body : List ℕ) → IsGroupBody v body → Spaced IsGroupBody v body
groups_spaced (values.Groups gs) body is = record { says = (is.0, refl); same = inl (sym is.1) }
groups_spaced v body is = absurd is

-- ---- lines of a group

group_written : (line : List ℕ) (e : Entry) → Plain line → IsGroupTextLine line e → Written IsGroupTextLine (group_line_text e) e
group_written line e p is =
    let s = text_spaced e.value is.body is.says in
    let rest = is.group ++ is.body in
    let rest' = is.group ++ spaced_value e.value in
    let spelled : group_line_text e ≡ stamp_first (Some is.time) ++ rest' =
    ap (λ (t : Option ℕ). stamp_first t ++ topic_text e.topic ++ spaced_value e.value) is.at
    ∙ ap (λ (t : Topic). stamp_first (Some is.time) ++ topic_text t ++ spaced_value e.value) is.topic
    ∙ append_assoc (stamp_first (Some is.time)) is.group (spaced_value e.value) in
    let b = begun line is.time rest rest' (group_line_text e) is.begins (body_plain is.group is.body (spaced_value e.value) (rest_plain line is.time rest p is.begins) s.same) spelled in
    record { plain = b.plain; form = record { time = is.time; group = is.group; body = spaced_value e.value; begins = b.begins; named = is.named; says = s.says; topic = is.topic; at = is.at } }

-- ---- lines of a repository

front_plain : (line front : List ℕ) (stamp : Option ℕ) → Plain line → Ends line front stamp → Plain front
front_plain line front None p ends = subst Plain ends.1 p
front_plain line front (Some time) p ends = plain_before front (stamp_mark ++ ends.stamp) (subst Plain ends.spelled p)

last_plain : (line front : List ℕ) (stamp : Option ℕ) → Ends line front stamp → Plain (stamp_last stamp)
last_plain line front None ends = plain_nil
last_plain line front (Some time) ends =
    plain_append (space ∷ stamp_mark) (stamp_text time) (plain_low (space ∷ stamp_mark) refl) (stamp_plain (stamp_text time) time (stamp_written time (stamp_below ends.stamp time ends.is)))

-- after the last space stands one word
two_words : (a b : List ℕ × List ℕ) → Some a ≡ Some b → a.1 ≡ b.1
two_words a b e = ap (λ (x : List ℕ × List ℕ). x.1) (same_Some a b e)

space_unmarked : (repo : List ℕ) → ¬ EndsMarked (repo ++ (space ∷ []))
space_unmarked repo = λ has.
    let last = sym (last_again repo [] refl) ∙ ap last_word has.spelled ∙ last_again has.front (stamp_mark ++ has.rest) (list_all_append is_not_space stamp_mark has.rest refl has.word) in
    nil_cons 116 _ (two_words (repo, []) (has.front, stamp_mark ++ has.rest) last)

same_unmarked : (line repo body body' : List ℕ) → ¬ EndsMarked line → line ≡ repo ++ body → SameBody body' body → ¬ EndsMarked (repo ++ body')
same_unmarked line repo body body' other spelled same =
    elim same [
      | inl is ↦ subst (λ (l : List ℕ). ¬ EndsMarked l) (spelled ∙ ap (λ (b : List ℕ). repo ++ b) (sym is)) other
      | inr none ↦ subst (λ (b : List ℕ). ¬ EndsMarked (repo ++ b)) (sym none.0) (space_unmarked repo)
    ]

ends_written : (line repo body body' : List ℕ) (stamp : Option ℕ) → Ends line (repo ++ body) stamp → SameBody body' body → Ends (repo ++ body' ++ stamp_last stamp) (repo ++ body') stamp
ends_written line repo body body' None ends same =
    let whole : repo ++ body' ++ [] ≡ repo ++ body' = append-nil (repo ++ body') in
    (subst (λ (l : List ℕ). ¬ EndsMarked l) (sym whole) (same_unmarked line repo body body' ends.0 ends.1 same), whole)
ends_written line repo body body' (Some time) ends same = record { stamp = stamp_text time; is = stamp_written time (stamp_below ends.stamp time ends.is); spelled = refl }

repo_written : (IsBody : Value → List ℕ → Type 0) → ((v : Value) (body : List ℕ) → IsBody v body → Spaced IsBody v body) → (line : List ℕ) (e : Entry) → Plain line → IsRepoLine IsBody line e
    → Written (IsRepoLine IsBody) (repo_line_text e) e
repo_written IsBody spaced line e p is =
    let s = spaced e.value is.body is.says in
    let repo = repo_text is.id in
    let body' = spaced_value e.value in
    let spelled : repo_line_text e ≡ repo ++ body' ++ stamp_last e.stamp = ap (λ (t : Topic). topic_text t ++ body' ++ stamp_last e.stamp) is.topic in
    let front = front_plain line (repo ++ is.body) e.stamp p is.ends in
    subst (λ (t : List ℕ). Written (IsRepoLine IsBody) t e) (sym spelled) (record {
      plain = plain_append (repo ++ body') (stamp_last e.stamp) (body_plain repo is.body body' front s.same) (last_plain line (repo ++ is.body) e.stamp is.ends);
      form = record { id = is.id; body = body'; ends = ends_written line repo is.body body' e.stamp is.ends s.same; repo = is.repo; says = s.says; topic = is.topic };
    })

-- two spaces come back as one
ungrouped_written : (line : List ℕ) (e : Entry) → Plain line → IsUngroupedLine line e → Written IsGroupLine (repo_line_text e) e
ungrouped_written line e p is =
    let repo = repo_text is.id in
    let spelled : repo_line_text e ≡ repo ++ [] ++ stamp_last (Some is.time) =
    ap (λ (t : Topic). topic_text t ++ spaced_value e.value ++ stamp_last e.stamp) is.topic
    ∙ ap (λ (v : Value). repo ++ spaced_value v ++ stamp_last e.stamp) is.none
    ∙ ap (λ (s : Option ℕ). repo ++ [] ++ stamp_last s) is.at in
    let front = plain_before repo [] (front_plain line (repo ++ (space ∷ [])) (Some is.time) p is.ends) in
    let stamp = stamp_written is.time (stamp_below is.ends.stamp is.time is.ends.is) in
    let ends : Ends (repo ++ [] ++ stamp_last (Some is.time)) (repo ++ []) (Some is.time) = record { stamp = stamp_text is.time; is = stamp; spelled = refl } in
    let last = last_plain line (repo ++ (space ∷ [])) (Some is.time) is.ends in
    let says : IsGroupBody e.value [] = subst (λ (v : Value). IsGroupBody v []) (sym is.none) (refl, refl) in
    subst (λ (t : List ℕ). Written IsGroupLine t e) (sym spelled) (record {
      plain = plain_append (repo ++ []) (stamp_last (Some is.time)) (plain_append repo [] front plain_nil) last;
      form = inl (record { id = is.id; body = []; ends = subst (Ends (repo ++ [] ++ stamp_last (Some is.time)) (repo ++ [])) (sym is.at) ends; repo = is.repo; says = says; topic = is.topic });
    })

groups_written : (line : List ℕ) (e : Entry) → Plain line → IsGroupLine line e → Written IsGroupLine (repo_line_text e) e
groups_written line e p (inl is) = let w = repo_written IsGroupBody groups_spaced line e p is in record { plain = w.plain; form = inl w.form }
groups_written line e p (inr is) = ungrouped_written line e p is

-- ---- each kind

form_written : (kind : LogKind) (line : List ℕ) (e : Entry) → Plain line → HasForm kind line e → Written (HasForm kind) (line_text kind e) e
form_written kinds.Location = location_written
form_written kinds.Trust = repo_written IsLevelBody level_spaced
form_written kinds.Uuid = repo_written IsTextBody text_spaced
form_written kinds.Group = groups_written
form_written kinds.Preferred = repo_written IsTextBody text_spaced
form_written kinds.Required = repo_written IsTextBody text_spaced
form_written kinds.GroupPreferred = group_written
form_written kinds.Numcopies = number_written
form_written kinds.Mincopies = number_written
form_written kinds.NumcopiesPath = path_number_written
form_written kinds.MincopiesPath = path_number_written

-- the line that is written for an entry has that entry
pub line_again : (kind : LogKind) (e : Entry) → HasLine kind e → length (line_text kind e) ≤ 8192 → IsLine kind (line_text kind e) e
line_again kind e has short =
    let line = has.line in
    let text = has.is.text in
    let w = form_written kind line e (record { utf8 = text.utf8; single = single_all line text.single }) has.is.form in
    record { text = record { short = short; utf8 = w.plain.utf8; single = single_none (line_text kind e) w.plain.single }; form = w.form }

pub written_again : {E : Type 0} (kind : LogKind) (e : Entry) (r : Result (List ℕ) E) (text : List ℕ) → HasLine kind e → length (line_text kind e) ≤ 8192 → text ≡ line_text kind e
    → IfOk r (λ t. t ≡ text) → IfOk r (λ t. IsLine kind t e)
written_again kind e (Ok t) text has short spelled h = subst (λ (l : List ℕ). IsLine kind l e) (sym (h ∙ spelled)) (line_again kind e has short)
written_again kind e (Err x) text has short spelled h = tt
