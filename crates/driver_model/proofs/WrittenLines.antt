-- The lines that a script writes are lines: they have no newline, and aren't empty.
use Rattle.std.proofs.Common.{◌≢◌, ℕ, List, [], ◌∷◌, ◌++◌, Some, refl}
use Rattle.annex_base.specs.Lines.{IsOneLine, space}
use Rattle.annex_base.specs.Lists.{Each}
use Rattle.annex_base.specs.declared.kinds.Level.{Level}
use Rattle.annex_base.specs.declared.kinds.Level.TheVariants as levels
use Rattle.annex_base.specs.StampText.{stamp_text}
use Rattle.annex_base.proofs.Lines.{one_line-append, one_line-by_test, one_line-cons, one_line-decimal, one_line-flat_map, one_line-members, one_line-nil, one_line-repo_text, one_line-stamp_text}
use Rattle.annex_base.proofs.Lists.{Each-weaker}
use Rattle.log_lines.specs.declared.entry.LogKind.{LogKind}
use Rattle.log_lines.specs.declared.entry.LogKind.TheVariants as kinds
use Rattle.log_lines.specs.declared.entry.Topic.{Topic}
use Rattle.log_lines.specs.declared.entry.Topic.TheVariants as topics
use Rattle.log_lines.specs.declared.entry.Value.{Value}
use Rattle.log_lines.specs.declared.entry.Value.TheVariants as values
use Rattle.log_lines.specs.declared.entry.Entry.{Entry}
use Rattle.log_lines.specs.LineText.{stamp_mark, topic_text, value_text, spaced_value, level_letter, stamp_first, stamp_last, line_text, repo_line_text, number_line_text, spaced_text}
use Rattle.union_merge.specs.LineSet.{IsLine}
use Rattle.driver_model.specs.Scripts.{IsPlainTopic, IsPlainValue}

space_one : IsOneLine (space ∷ [])
space_one = one_line-by_test (space ∷ []) refl

spaced_one : (text : List ℕ) → IsOneLine text → IsOneLine (space ∷ text)
spaced_one text one = one_line-cons space text refl one

-- ---- values

level_one : (l : Level) → IsOneLine (level_letter l)
level_one levels.Trusted = one_line-by_test (level_letter levels.Trusted) refl
level_one levels.Semitrusted = one_line-by_test (level_letter levels.Semitrusted) refl
level_one levels.Untrusted = one_line-by_test (level_letter levels.Untrusted) refl
level_one levels.Dead = one_line-by_test (level_letter levels.Dead) refl

groups_one : (gs : List (List ℕ)) → Each IsOneLine gs → IsOneLine (value_text (values.Groups gs))
groups_one gs all = one_line-flat_map (λ g. space ∷ g) gs (Each-weaker IsOneLine (λ g. IsOneLine (space ∷ g)) spaced_one gs all)

value_one : (v : Value) → IsPlainValue v → IsOneLine (value_text v)
value_one values.Present h = one_line-by_test (value_text values.Present) refl
value_one values.Absent h = one_line-by_test (value_text values.Absent) refl
value_one values.Gone h = one_line-by_test (value_text values.Gone) refl
value_one (values.Level l) h = level_one l
value_one (values.Text t) h = h
value_one (values.Groups gs) h = groups_one gs h
value_one (values.Number n) h = one_line-decimal n

spaced_value_one : (v : Value) → IsPlainValue v → IsOneLine (spaced_value v)
spaced_value_one (values.Groups gs) h = groups_one gs h
spaced_value_one values.Present h = spaced_one (value_text values.Present) (value_one values.Present h)
spaced_value_one values.Absent h = spaced_one (value_text values.Absent) (value_one values.Absent h)
spaced_value_one values.Gone h = spaced_one (value_text values.Gone) (value_one values.Gone h)
spaced_value_one (values.Level l) h = spaced_one (level_letter l) (level_one l)
spaced_value_one (values.Text t) h = spaced_one t h
spaced_value_one (values.Number n) h = spaced_one (value_text (values.Number n)) (one_line-decimal n)

topic_one : (topic : Topic) → IsPlainTopic topic → IsOneLine (topic_text topic)
topic_one (topics.Repo id) h = one_line-repo_text id
topic_one (topics.Group name) h = h
topic_one topics.Whole h = one_line-nil
topic_one (topics.Pattern glob) h = h

-- ---- whole lines

first_one : (time : ℕ) → IsOneLine (stamp_first (Some time))
first_one time = one_line-append (stamp_text time) (space ∷ []) (one_line-stamp_text time) space_one

last_one : (time : ℕ) → IsOneLine (stamp_last (Some time))
last_one time = one_line-append (space ∷ stamp_mark) (stamp_text time) (one_line-by_test (space ∷ stamp_mark) refl) (one_line-stamp_text time)

some_left : (xs ys : List ℕ) → xs ≢ [] → (xs ++ ys) ≢ []
some_left [] ys h e = h refl
some_left (x ∷ xs) ys h e = cc

some_right : (xs ys : List ℕ) → ys ≢ [] → (xs ++ ys) ≢ []
some_right [] ys h e = h e
some_right (x ∷ xs) ys h e = cc

one_some : (x : ℕ) (xs : List ℕ) → (x ∷ xs) ≢ []
one_some x xs e = cc

first_some : (time : ℕ) → stamp_first (Some time) ≢ []
first_some time = some_right (stamp_text time) (space ∷ []) (one_some space [])

-- the line that is written of an entry with a stamp is a line
pub written_line : (kind : LogKind) (topic : Topic) (time : ℕ) (value : Value) → IsPlainTopic topic → IsPlainValue value → IsLine (line_text kind (record { topic = topic; stamp = Some time; value = value }))
written_line kind topic time value t v = record { some = some kind; single = one_line-members (line_text kind e) (one kind) }
  where
    e : Entry
    e = record { topic = topic; stamp = Some time; value = value }

    repo_one : IsOneLine (repo_line_text e)
    repo_one = one_line-append (topic_text topic ++ spaced_value value) (stamp_last (Some time)) (one_line-append (topic_text topic) (spaced_value value) (topic_one topic t) (spaced_value_one value v)) (last_one time)

    number_one : IsOneLine (number_line_text e)
    number_one = one_line-append (stamp_first (Some time)) (value_text value) (first_one time) (value_one value v)

    spaced_one' : IsOneLine (spaced_text e)
    spaced_one' = one_line-append (stamp_first (Some time) ++ value_text value ++ (space ∷ [])) (topic_text topic) (one_line-append (stamp_first (Some time) ++ value_text value) (space ∷ []) number_one space_one) (topic_one topic t)

    one : (kind : LogKind) → IsOneLine (line_text kind e)
    one kinds.Location = spaced_one'
    one kinds.NumcopiesPath = spaced_one'
    one kinds.MincopiesPath = spaced_one'
    one kinds.GroupPreferred =
        one_line-append (stamp_first (Some time) ++ topic_text topic) (spaced_value value) (one_line-append (stamp_first (Some time)) (topic_text topic) (first_one time) (topic_one topic t)) (spaced_value_one value v)
    one kinds.Numcopies = number_one
    one kinds.Mincopies = number_one
    one kind = repo_one

    repo_some : repo_line_text e ≢ []
    repo_some = some_right (topic_text topic ++ spaced_value value) (stamp_last (Some time)) (one_some space (stamp_mark ++ stamp_text time))

    number_some : number_line_text e ≢ []
    number_some = some_left (stamp_first (Some time)) (value_text value) (first_some time)

    spaced_some : spaced_text e ≢ []
    spaced_some = some_left (stamp_first (Some time) ++ value_text value ++ (space ∷ [])) (topic_text topic) (some_left (stamp_first (Some time) ++ value_text value) (space ∷ []) number_some)

    some : (kind : LogKind) → line_text kind e ≢ []
    some kinds.Location = spaced_some
    some kinds.NumcopiesPath = spaced_some
    some kinds.MincopiesPath = spaced_some
    some kinds.GroupPreferred =
        some_left (stamp_first (Some time) ++ topic_text topic) (spaced_value value) (some_left (stamp_first (Some time)) (topic_text topic) (first_some time))
    some kinds.Numcopies = number_some
    some kinds.Mincopies = number_some
    some kind = repo_some
