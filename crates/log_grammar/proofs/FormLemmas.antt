-- What is read is in the grammar, and each line of the grammar is read.
use Rattle.std.proofs.Common.{inl, inr, ◌≡◌, ℕ, suc, ◌<◌, true, nat_le, ◌&&◌, ◌==◌, true≢false, List, [], ◌∷◌, ◌++◌, length, slice_index_or, Contains, Option, Some, None, refl, sym, ap, subst, ◌∙◌, arith}
use Rattle.std.specs.List.{list_all}
use Rattle.std.specs.Option.{is_some}
use Rattle.std.specs.Str.{is_utf8}
use Rattle.std.proofs.lemmas.Bool.{leb-true, le-leb, cases_Bool, eqb-true, and_parts}
use Rattle.std.proofs.lemmas.List.Sums.{AllPass-from_list_all}
use Rattle.std.proofs.lemmas.Str.{is_utf8-from_IsUtf8, IsUtf8-from_is_utf8}
use Rattle.std.proofs.lemmas.Option.{none-some, same_Some}
use Rattle.annex_base.specs.RepoText.{repo_of, repo_text}
use Rattle.annex_base.proofs.Options.{bind_some, where_some}
use Rattle.annex_base.proofs.RepoLemmas.{repo_again, repo_takes}
use Rattle.log_grammar.specs.declared.entry.LogKind.{LogKind}
use Rattle.log_grammar.specs.declared.entry.LogKind.TheVariants as kinds
use Rattle.log_grammar.specs.declared.entry.Topic.{Topic}
use Rattle.log_grammar.specs.declared.entry.Topic.TheVariants as topics
use Rattle.log_grammar.specs.declared.entry.Value.{Value}
use Rattle.log_grammar.specs.declared.entry.Value.TheVariants as values
use Rattle.log_grammar.specs.declared.entry.Entry.{Entry}
use Rattle.annex_base.specs.Lines.{space, newline, is_not_newline, is_not_space}
use Rattle.log_grammar.specs.LineText.{IsNumber, IsPathNumberLine, IsWord, BeginsStamped, IsLineText, IsLocationLine, IsRepoLine, IsLevelBody, IsTextBody, IsGroupLine, Ends, IsGroupTextLine, IsNumberLine, IsStatus, HasForm, IsLine}
use Rattle.log_grammar.specs.Reading.{first_word, stamp_front, repo_line, status_of, location_of, number_of, copies_of, number_and_rest, path_copies_of, some_text, level_body, trust_of, text_body, text_of, group_body, groups_of, group_front, group_text_of, form_of, is_line_text, entry_of}
use Rattle.log_grammar.proofs.WordLemmas.{first_again, first_takes}
use Rattle.log_grammar.proofs.StampLemmas.{digit_no_space, digits_pass, front_takes, front_again}
use Rattle.log_grammar.proofs.RepoLemmas.{line_takes, line_again}
use Rattle.log_grammar.proofs.BodyLemmas.{status_takes, status_again, level_takes, level_value, text_takes, text_again, text_value, groups_takes, groups_value, group_front_takes, group_front_again, number_takes, number_value}

abbrev made : Topic → Option ℕ → Value → Entry
made topic stamp value = record { topic = topic; stamp = stamp; value = value }

-- an entry of these parts
made_is : (e : Entry) (topic : Topic) (stamp : Option ℕ) (value : Value) → e.topic ≡ topic → e.stamp ≡ stamp → e.value ≡ value → made topic stamp value ≡ e
made_is e topic stamp value a b c = ap (λ (t : Topic). made t stamp value) (sym a) ∙ ap (λ (s : Option ℕ). made e.topic s value) (sym b) ∙ ap (λ (v : Value). made e.topic e.stamp v) (sym c)

-- ---- location logs

location_takes : (line : List ℕ) (e : Entry) → location_of line ≡ Some e → IsLocationLine line e
unfolding location_of
location_takes line e h =
    let begin = bind_some (stamp_front line) _ e h in
    let word = bind_some (first_word begin.0.1) _ e begin.2 in
    let status = bind_some (status_of word.0.0) _ e word.2 in
    let id = bind_some (repo_of word.0.1) _ e status.2 in
    let letter = status_takes word.0.0 status.0 status.1 in
    let repo = repo_takes word.0.1 id.0 id.1 in
    let rest : begin.0.1 ≡ letter.0 ∷ space ∷ repo_text id.0 =
    first_takes begin.0.1 word.0 word.1 ∙ ap (λ (w : List ℕ). w ++ space ∷ word.0.1) letter.2 ∙ ap (λ (t : List ℕ). letter.0 ∷ space ∷ t) repo.1 in
    subst (IsLocationLine line) (same_Some (made (topics.Repo id.0) (Some begin.0.0) status.0) e id.2) (record {
      time = begin.0.0;
      letter = letter.0;
      id = id.0;
      begins = subst (λ (r : List ℕ). BeginsStamped line begin.0.0 r) rest (front_takes line begin.0 begin.1);
      status = letter.1;
      repo = repo.0;
      topic = refl;
      at = refl;
    })

letter_word : (v : Value) (letter : ℕ) → IsStatus v letter → IsWord (letter ∷ [])
letter_word values.Present letter is = subst IsWord is refl
letter_word values.Absent letter is = subst IsWord is refl
letter_word values.Gone letter is = subst IsWord is refl
letter_word v letter is = absurd is

location_again : (line : List ℕ) (e : Entry) → IsLocationLine line e → location_of line ≡ Some e
unfolding location_of
location_again line e is =
    let begin = front_again line is.time (is.letter ∷ space ∷ repo_text is.id) is.begins in
    let word : first_word (is.letter ∷ space ∷ repo_text is.id) ≡ Some (is.letter ∷ [], repo_text is.id) =
    first_again (is.letter ∷ []) (repo_text is.id) (letter_word e.value is.letter is.status) in
    rw (begin, word, status_again e.value is.letter is.status, repo_again (repo_text is.id) is.id is.repo refl)
    (ap Some (made_is e (topics.Repo is.id) (Some is.time) e.value is.topic is.at refl))

-- ---- numbers of copies

copies_takes : (line : List ℕ) (e : Entry) → copies_of line ≡ Some e → IsNumberLine line e
unfolding copies_of
copies_takes line e h =
    let begin = bind_some (stamp_front line) _ e h in
    let number = bind_some (number_of begin.0.1) _ e begin.2 in
    subst (IsNumberLine line) (same_Some (made topics.Whole (Some begin.0.0) (values.Number number.0)) e number.2) (record {
      time = begin.0.0;
      digits = begin.0.1;
      begins = front_takes line begin.0 begin.1;
      says = number_takes begin.0.1 number.0 number.1;
      topic = refl;
      at = refl;
    })

copies_again : (line : List ℕ) (e : Entry) → IsNumberLine line e → copies_of line ≡ Some e
unfolding copies_of
copies_again line e is =
    let begin = front_again line is.time is.digits is.begins in
    let number = number_value e.value is.digits is.says in
    rw (begin, number.2) (ap Some (made_is e topics.Whole (Some is.time) (values.Number number.0) is.topic is.at number.1))

-- ---- numbers of copies by path

number_word : (v : Value) (digits : List ℕ) → IsNumber v digits → IsWord digits
number_word (values.Number n) digits is = digits_pass is_not_space digit_no_space digits is.2
number_word v digits is = absurd is

some_takes : (text t : List ℕ) → some_text text ≡ Some t → (0 < length text) × (text ≡ t)
some_takes [] t e = absurd (none-some t e)
some_takes (b ∷ bs) t e = (omega arith, same_Some (b ∷ bs) t e)

some_again : (text : List ℕ) → 0 < length text → some_text text ≡ Some text
some_again [] some = absurd (omega (arith, some))
some_again (b ∷ bs) some = refl

path_copies_takes : (line : List ℕ) (e : Entry) → path_copies_of line ≡ Some e → IsPathNumberLine line e
unfolding path_copies_of number_and_rest
path_copies_takes line e h =
    let begin = bind_some (stamp_front line) _ e h in
    let numbered = bind_some (number_and_rest begin.0.1) _ e begin.2 in
    let word = bind_some (first_word begin.0.1) _ numbered.0 numbered.1 in
    let number = bind_some (number_of word.0.0) _ numbered.0 word.2 in
    let pattern = bind_some (some_text word.0.1) _ numbered.0 number.2 in
    let pair : (number.0, pattern.0) ≡ numbered.0 = same_Some (number.0, pattern.0) numbered.0 pattern.2 in
    let some = some_takes word.0.1 pattern.0 pattern.1 in
    let rest : begin.0.1 ≡ word.0.0 ++ (space ∷ pattern.0) = first_takes begin.0.1 word.0 word.1 ∙ ap (λ (t : List ℕ). word.0.0 ++ (space ∷ t)) some.1 in
    subst (IsPathNumberLine line) (same_Some (made (topics.Pattern numbered.0.1) (Some begin.0.0) (values.Number numbered.0.0)) e numbered.2)
    (subst (λ (x : ℕ × List ℕ). IsPathNumberLine line (made (topics.Pattern x.1) (Some begin.0.0) (values.Number x.0))) pair (record {
      time = begin.0.0;
      digits = word.0.0;
      pattern = pattern.0;
      begins = subst (λ (r : List ℕ). BeginsStamped line begin.0.0 r) rest (front_takes line begin.0 begin.1);
      says = number_takes word.0.0 number.0 number.1;
      some = subst (λ (t : List ℕ). 0 < length t) some.1 some.0;
      topic = refl;
      at = refl;
    }))

path_copies_again : (line : List ℕ) (e : Entry) → IsPathNumberLine line e → path_copies_of line ≡ Some e
unfolding path_copies_of number_and_rest
path_copies_again line e is =
    let begin = front_again line is.time (is.digits ++ (space ∷ is.pattern)) is.begins in
    let word = first_again is.digits is.pattern (number_word e.value is.digits is.says) in
    let number = number_value e.value is.digits is.says in
    rw (begin, word, number.2, some_again is.pattern is.some) (ap Some (made_is e (topics.Pattern is.pattern) (Some is.time) (values.Number number.0) is.topic is.at number.1))

-- ---- lines that begin with an identifier

trust_takes : (line : List ℕ) (e : Entry) → trust_of line ≡ Some e → IsRepoLine IsLevelBody line e
unfolding trust_of
trust_takes line e h =
    let parts = bind_some (repo_line line) _ e h in
    let level = bind_some (level_body parts.0.1) _ e parts.2 in
    let is = line_takes line parts.0 parts.1 in
    subst (IsRepoLine IsLevelBody line) (same_Some (made (topics.Repo parts.0.0) parts.0.2 (values.Level level.0)) e level.2)
    (record { id = parts.0.0; body = parts.0.1; ends = is.1; repo = is.0; says = level_takes parts.0.1 level.0 level.1; topic = refl })

trust_again : (line : List ℕ) (e : Entry) → IsRepoLine IsLevelBody line e → trust_of line ≡ Some e
unfolding trust_of
trust_again line e is =
    let parts = line_again line is.id is.body e.stamp is.repo is.ends in
    let level = level_value e.value is.body is.says in
    rw (parts, level.2) (ap Some (made_is e (topics.Repo is.id) e.stamp (values.Level level.0) is.topic refl level.1))

text_line_takes : (line : List ℕ) (e : Entry) → text_of line ≡ Some e → IsRepoLine IsTextBody line e
unfolding text_of
text_line_takes line e h =
    let parts = bind_some (repo_line line) _ e h in
    let text = bind_some (text_body parts.0.1) _ e parts.2 in
    let is = line_takes line parts.0 parts.1 in
    subst (IsRepoLine IsTextBody line) (same_Some (made (topics.Repo parts.0.0) parts.0.2 (values.Text text.0)) e text.2)
    (record { id = parts.0.0; body = parts.0.1; ends = is.1; repo = is.0; says = text_takes parts.0.1 text.0 text.1; topic = refl })

text_line_again : (line : List ℕ) (e : Entry) → IsRepoLine IsTextBody line e → text_of line ≡ Some e
unfolding text_of
text_line_again line e is =
    let parts = line_again line is.id is.body e.stamp is.repo is.ends in
    let text = text_value e.value is.body is.says in
    rw (parts, text_again is.body text.0 text.2) (ap Some (made_is e (topics.Repo is.id) e.stamp (values.Text text.0) is.topic refl text.1))

stamp_time : (o : Option ℕ) → is_some o ≡ true → (time : ℕ) × (o ≡ Some time)
stamp_time None h = absurd (true≢false (sym h))
stamp_time (Some time) h = (time, refl)

group_line_takes : (line : List ℕ) (e : Entry) → groups_of line ≡ Some e → IsGroupLine line e
unfolding groups_of
group_line_takes line e h =
    let parts = bind_some (repo_line line) _ e h in
    let names = bind_some (group_body (is_some parts.0.2) parts.0.1) _ e parts.2 in
    let is = line_takes line parts.0 parts.1 in
    subst (IsGroupLine line) (same_Some (made (topics.Repo parts.0.0) parts.0.2 (values.Groups names.0)) e names.2)
    (elim (groups_takes (is_some parts.0.2) parts.0.1 names.0 names.1) [
      | inl says ↦ inl (record { id = parts.0.0; body = parts.0.1; ends = is.1; repo = is.0; says = says; topic = refl })
      | inr left ↦ inr (
          let stamp = stamp_time parts.0.2 left.at in
          record {
            id = parts.0.0;
            time = stamp.0;
            ends = subst (Ends line (repo_text parts.0.0 ++ (space ∷ []))) stamp.1 (subst (λ (b : List ℕ). Ends line (repo_text parts.0.0 ++ b) parts.0.2) left.spaced is.1);
            repo = is.0;
            topic = refl;
            at = stamp.1;
            none = ap (λ (gs : List (List ℕ)). values.Groups gs) left.none;
          })
    ])

group_line_again : (line : List ℕ) (e : Entry) → IsGroupLine line e → groups_of line ≡ Some e
unfolding groups_of
group_line_again line e (inl is) =
    let parts = line_again line is.id is.body e.stamp is.repo is.ends in
    let names = groups_value (is_some e.stamp) e.value is.body is.says in
    rw (parts, names.2) (ap Some (made_is e (topics.Repo is.id) e.stamp (values.Groups names.0) is.topic refl names.1))
group_line_again line e (inr is) =
    let parts = line_again line is.id (space ∷ []) (Some is.time) is.repo is.ends in
    rw parts (ap Some (made_is e (topics.Repo is.id) (Some is.time) (values.Groups []) is.topic is.at is.none))

-- ---- lines of a group

group_text_takes : (line : List ℕ) (e : Entry) → group_text_of line ≡ Some e → IsGroupTextLine line e
unfolding group_text_of
group_text_takes line e h =
    let begin = bind_some (stamp_front line) _ e h in
    let named = bind_some (group_front begin.0.1) _ e begin.2 in
    let text = bind_some (text_body named.0.1) _ e named.2 in
    let is = group_front_takes begin.0.1 named.0 named.1 in
    subst (IsGroupTextLine line) (same_Some (made (topics.Group named.0.0) (Some begin.0.0) (values.Text text.0)) e text.2) (record {
      time = begin.0.0;
      group = named.0.0;
      body = named.0.1;
      begins = subst (λ (r : List ℕ). BeginsStamped line begin.0.0 r) is.1 (front_takes line begin.0 begin.1);
      named = is.0;
      says = text_takes named.0.1 text.0 text.1;
      topic = refl;
      at = refl;
    })

group_text_again : (line : List ℕ) (e : Entry) → IsGroupTextLine line e → group_text_of line ≡ Some e
unfolding group_text_of
group_text_again line e is =
    let begin = front_again line is.time (is.group ++ is.body) is.begins in
    let text = text_value e.value is.body is.says in
    rw (begin, group_front_again is.group is.body text.0 is.named text.2, text_again is.body text.0 text.2)
    (ap Some (made_is e (topics.Group is.group) (Some is.time) (values.Text text.0) is.topic is.at text.1))

-- ---- each kind

form_takes : (kind : LogKind) (line : List ℕ) (e : Entry) → form_of kind line ≡ Some e → HasForm kind line e
form_takes kinds.Location = location_takes
form_takes kinds.Trust = trust_takes
form_takes kinds.Uuid = text_line_takes
form_takes kinds.Group = group_line_takes
form_takes kinds.Preferred = text_line_takes
form_takes kinds.Required = text_line_takes
form_takes kinds.GroupPreferred = group_text_takes
form_takes kinds.Numcopies = copies_takes
form_takes kinds.Mincopies = copies_takes
form_takes kinds.NumcopiesPath = path_copies_takes
form_takes kinds.MincopiesPath = path_copies_takes

form_again : (kind : LogKind) (line : List ℕ) (e : Entry) → HasForm kind line e → form_of kind line ≡ Some e
form_again kinds.Location = location_again
form_again kinds.Trust = trust_again
form_again kinds.Uuid = text_line_again
form_again kinds.Group = group_line_again
form_again kinds.Preferred = text_line_again
form_again kinds.Required = text_line_again
form_again kinds.GroupPreferred = group_text_again
form_again kinds.Numcopies = copies_again
form_again kinds.Mincopies = copies_again
form_again kinds.NumcopiesPath = path_copies_again
form_again kinds.MincopiesPath = path_copies_again

-- ---- the text of a line

newline_fails : (b : ℕ) → is_not_newline b ≡ true → b ≡ newline → ⊥
newline_fails b is at = absurd (true≢false (sym is ∙ ap is_not_newline at))

pub single_all : (line : List ℕ) → ¬ Contains line newline → list_all is_not_newline line ≡ true
single_all [] none = refl
single_all (b ∷ bs) none =
    elim (cases_Bool (b == newline)) [
      | inl at ↦ absurd (none (0, omega arith, eqb-true b newline at))
      | inr other ↦ rw (other, single_all bs (λ has. none (suc has.0, omega (arith, has.1), has.2))) refl
    ]

pub single_none : (line : List ℕ) → list_all is_not_newline line ≡ true → ¬ Contains line newline
single_none line all = λ has. newline_fails (slice_index_or line has.0 newline) (AllPass-from_list_all is_not_newline line all has.0 newline has.1) has.2

line_text : (line : List ℕ) → is_line_text line ≡ true → IsLineText line
line_text line e =
    let outer = and_parts (nat_le (length line) 8192 && is_utf8 line) (list_all is_not_newline line) e in
    let inner = and_parts (nat_le (length line) 8192) (is_utf8 line) outer.0 in
    record {
      short = leb-true (length line) 8192 inner.0;
      utf8 = IsUtf8-from_is_utf8 line inner.1;
      single = single_none line outer.1;
    }

is_text_again : (line : List ℕ) → IsLineText line → is_line_text line ≡ true
is_text_again line is = rw (le-leb (length line) 8192 is.short, is_utf8-from_IsUtf8 line is.utf8, single_all line is.single) refl

-- what is read is in the grammar
pub entry_takes : (kind : LogKind) (line : List ℕ) (e : Entry) → entry_of kind line ≡ Some e → IsLine kind line e
unfolding entry_of
entry_takes kind line e h =
    let parts = where_some (is_line_text line) (form_of kind line) e h in
    record { text = line_text line parts.0; form = form_takes kind line e parts.1 }

-- and each line in the grammar is read
pub entry_again : (kind : LogKind) (line : List ℕ) (e : Entry) → IsLine kind line e → entry_of kind line ≡ Some e
unfolding entry_of
entry_again kind line e is = rw (is_text_again line is.text) (form_again kind line e is.form)

-- so a line has at most one entry
pub one_entry : (kind : LogKind) (line : List ℕ) (e e' : Entry) → IsLine kind line e → IsLine kind line e' → e ≡ e'
one_entry kind line e e' is is' = same_Some e e' (sym (entry_again kind line e is) ∙ entry_again kind line e' is')
