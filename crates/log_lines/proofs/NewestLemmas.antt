-- The newest entries of lines: by induction on the lines, and that they are the reading.
use Rattle.std.proofs.Common.{◌⊎◌, inl, inr, ◌≡◌, ◌≢◌, ◌↔◌, ℕ, ◌+◌, ◌<◌, length, take, get_or, true, false, List, [], ◌∷◌, ◌++◌, Option, Some, None, Result, Ok, Err, IfOk, refl, sym, ap, subst, ◌∙◌}
use Rattle.std.specs.declared.vec.Vec.{Vec}
use Rattle.std.specs.declared.alloc.Global.{Global}
use Rattle.std.specs.Ordering.{is_lt}
use Rattle.std.specs.List.{fold}
use Rattle.std.proofs.lemmas.List.{take_more}
use Rattle.std.proofs.lemmas.Option.{same_Some, none-some}
use Rattle.annex_base.specs.Lists.{Member}
use Rattle.annex_base.proofs.Options.{none_by}
use Rattle.annex_base.proofs.Conditions.{by_test}
use Rattle.log_grammar.specs.declared.entry.LogKind.{LogKind}
use Rattle.log_grammar.specs.declared.entry.Topic.{Topic}
use Rattle.log_grammar.specs.declared.entry.Entry.{Entry}
use Rattle.log_grammar.specs.LineText.{IsLine}
use Rattle.log_grammar.specs.Reading.{entry_of}
use Rattle.log_lines.specs.Newest.{same_topic, entry_cmp, is_older, IsNewest, IsReading, newer, with_entry_if, newest, entry_at, newest_of, ReadAlike}
use Rattle.log_lines.specs.Latest.{said_of, newer_of}
use Rattle.log_lines.specs.Keeping.{Says}
use Rattle.log_grammar.proofs.FormLemmas.{entry_takes, entry_again}
use Rattle.log_lines.proofs.OrderLemmas.{same_topic_is, same_topic_own}
use Rattle.log_lines.proofs.NewerLemmas.{newer_stays, newer_later, newer_not_before, newer_not_after, not_lt_through, tied_is, newer_of_assoc, newer_of_none, said_same}
use Rattle.log_lines.proofs.PutLemmas.{IsRising, none_rising, put_if_rising, put_at, at_member, member_at, rising_same}

-- the newest entry of the topic, by recursion on the lines
pub latest : LogKind → List (List ℕ) → Topic → Option Entry
latest kind [] topic = None
latest kind (line ∷ lines) topic = newer_of (said_of topic (entry_of kind line)) (latest kind lines topic)

-- ---- lines after others

abbrev read_from : LogKind → List Entry → List (List ℕ) → List Entry
read_from kind es lines = fold (λ es line. with_entry_if es (entry_of kind line)) es lines

read_append : (kind : LogKind) (es : List Entry) (xs ys : List (List ℕ)) → read_from kind es (xs ++ ys) ≡ read_from kind (read_from kind es xs) ys
read_append kind es [] ys = refl
read_append kind es (x ∷ xs) ys = read_append kind (with_entry_if es (entry_of kind x)) xs ys

pub newest_append : (kind : LogKind) (xs ys : List (List ℕ)) → newest kind (xs ++ ys) ≡ fold (λ es line. with_entry_if es (entry_of kind line)) (newest kind xs) ys
newest_append kind xs ys = read_append kind [] xs ys

put_if_at : (es : List Entry) (o : Option Entry) (t : Topic) → IsRising es → entry_at (with_entry_if es o) t ≡ newer_of (entry_at es t) (said_of t o)
put_if_at es None t h = sym (newer_of_none (entry_at es t))
put_if_at es (Some e) t h = put_at es e t h

read_rising : (kind : LogKind) (es : List Entry) (lines : List (List ℕ)) → IsRising es → IsRising (read_from kind es lines)
read_rising kind es [] h = h
read_rising kind es (line ∷ lines) h = read_rising kind (with_entry_if es (entry_of kind line)) lines (put_if_rising es (entry_of kind line) h)

read_at : (kind : LogKind) (es : List Entry) (lines : List (List ℕ)) (t : Topic) → IsRising es → entry_at (read_from kind es lines) t ≡ newer_of (entry_at es t) (latest kind lines t)
unfolding latest
read_at kind es [] t h = sym (newer_of_none (entry_at es t))
read_at kind es (line ∷ lines) t h =
    let o = entry_of kind line in
    read_at kind (with_entry_if es o) lines t (put_if_rising es o h)
    ∙ ap (λ a. newer_of a (latest kind lines t)) (put_if_at es o t h)
    ∙ newer_of_assoc (entry_at es t) (said_of t o) (latest kind lines t)

-- the topics of the newest entries rise
pub newest_rising : (kind : LogKind) (lines : List (List ℕ)) → IsRising (newest kind lines)
newest_rising kind lines = read_rising kind [] lines none_rising

newest_is_latest : (kind : LogKind) (lines : List (List ℕ)) (t : Topic) → newest_of kind lines t ≡ latest kind lines t
newest_is_latest kind lines t = read_at kind [] lines t none_rising

-- ---- the newest entry of a topic, line by line

pub newest_of-cons : (kind : LogKind) (line : List ℕ) (lines : List (List ℕ)) (t : Topic) → newest_of kind (line ∷ lines) t ≡ newer_of (said_of t (entry_of kind line)) (newest_of kind lines t)
unfolding latest
newest_of-cons kind line lines t = newest_is_latest kind (line ∷ lines) t ∙ ap (newer_of (said_of t (entry_of kind line))) (sym (newest_is_latest kind lines t))

pub newest_of-append : (kind : LogKind) (xs ys : List (List ℕ)) (t : Topic) → newest_of kind (xs ++ ys) t ≡ newer_of (newest_of kind xs t) (newest_of kind ys t)
newest_of-append kind xs ys t =
    ap (λ es. entry_at es t) (newest_append kind xs ys)
    ∙ read_at kind (newest kind xs) ys t (newest_rising kind xs)
    ∙ ap (newer_of (newest_of kind xs t)) (sym (newest_is_latest kind ys t))

pub newest_of-push : (kind : LogKind) (lines : List (List ℕ)) (line : List ℕ) (t : Topic) → newest_of kind (lines ++ line ∷ []) t ≡ newer_of (newest_of kind lines t) (said_of t (entry_of kind line))
newest_of-push kind lines line t =
    newest_of-append kind lines (line ∷ []) t
    ∙ ap (newer_of (newest_of kind lines t)) (newest_of-cons kind line [] t ∙ newer_of_none (said_of t (entry_of kind line)))

-- ---- what the newest entry of a topic says

pub said_is : (t : Topic) (o : Option Entry) (e : Entry) → said_of t o ≡ Some e → (o ≡ Some e) × (t ≡ e.topic)
said_is t None e h = absurd (none-some e h)
said_is t (Some f) e h =
    by_test (same_topic t f.topic)
    (λ s. let is = same_Some f e (rw s at h) in (ap Some is, same_topic_is t f.topic s ∙ ap (λ (x : Entry). x.topic) is))
    (λ s. absurd (none-some e (rw s at h)))

one_of_both : (a b : Option Entry) (e : Entry) → newer_of a b ≡ Some e → (a ≡ Some e) ⊎ (b ≡ Some e)
one_of_both None b e h = inr h
one_of_both (Some f) None e h = inl h
one_of_both (Some f) (Some g) e h =
    by_test (is_lt (entry_cmp f g))
    (λ l. inr (ap Some (sym (newer_later f g l)) ∙ h))
    (λ l. inl (ap Some (sym (newer_stays f g l)) ∙ h))

later_says : (kind : LogKind) (line : List ℕ) (lines : List (List ℕ)) (e : Entry) → Says kind lines e → Says kind (line ∷ lines) e
later_says kind line lines e s = record { line = s.line; among = inr s.among; says = s.says }

latest_says : (kind : LogKind) (lines : List (List ℕ)) (t : Topic) (e : Entry) → latest kind lines t ≡ Some e → Says kind lines e × (t ≡ e.topic)
unfolding latest
latest_says kind [] t e h = absurd (none-some e h)
latest_says kind (line ∷ lines) t e h =
    elim (one_of_both (said_of t (entry_of kind line)) (latest kind lines t) e h) [
      | inl here ↦
          let is = said_is t (entry_of kind line) e here in
          (record { line = line; among = inl refl; says = entry_takes kind line e is.0 }, is.1)
      | inr there ↦ let rest = latest_says kind lines t e there in (later_says kind line lines e rest.0, rest.1)
    ]

-- an entry, and none of the topic is newer
record Bounds (o : Option Entry) (f : Entry) : Type 0 where
  entry : Entry
  is : o ≡ Some entry
  last : is_lt (entry_cmp entry f) ≡ false

bounds_first : (f : Entry) (b : Option Entry) → Bounds (newer_of (Some f) b) f
bounds_first f None = record { entry = f; is = refl; last = own f }
  where
    own : (x : Entry) → is_lt (entry_cmp x x) ≡ false
    own x = by_test (is_lt (entry_cmp x x)) (λ l. ap (λ y. is_lt (entry_cmp y x)) (sym (newer_later x x l)) ∙ newer_not_after x x) (λ l. l)
bounds_first f (Some g) = record { entry = newer f g; is = refl; last = newer_not_before f g }

bounds_second : (a b : Option Entry) (f : Entry) → Bounds b f → Bounds (newer_of a b) f
bounds_second None b f k = k
bounds_second (Some e) b f k = record {
  entry = newer e k.entry;
  is = ap (newer_of (Some e)) k.is;
  last = not_lt_through (newer e k.entry) k.entry f (newer_not_after e k.entry) k.last;
}

latest_bounds : (kind : LogKind) (lines : List (List ℕ)) (t : Topic) (f : Entry) (line : List ℕ) → Member line lines → IsLine kind line f → t ≡ f.topic → Bounds (latest kind lines t) f
unfolding latest
latest_bounds kind [] t f line among says topic = absurd among
latest_bounds kind (x ∷ xs) t f line (inl is) says topic =
    let read : entry_of kind x ≡ Some f = ap (entry_of kind) (sym is) ∙ entry_again kind line f says in
    rw (read, said_same t f topic) (bounds_first f (latest kind xs t))
latest_bounds kind (x ∷ xs) t f line (inr among) says topic =
    bounds_second (said_of t (entry_of kind x)) (latest kind xs t) f (latest_bounds kind xs t f line among says topic)

older_parts : (e f : Entry) → is_lt (entry_cmp e f) ≡ false → is_older e f ≡ false
older_parts e f h = by_test (same_topic e.topic f.topic) (λ s. rw (s, h) refl) (λ s. rw s refl)

older_same : (e f : Entry) → e.topic ≡ f.topic → is_older e f ≡ false → is_lt (entry_cmp e f) ≡ false
older_same e f topic h =
    let same : same_topic e.topic f.topic ≡ true = ap (same_topic e.topic) (sym topic) ∙ same_topic_own e.topic in
    rw same at h

latest_newest : (kind : LogKind) (lines : List (List ℕ)) (t : Topic) (e : Entry) → latest kind lines t ≡ Some e → IsNewest kind lines e
latest_newest kind lines t e h =
    let found = latest_says kind lines t e h in
    record {
      line = found.0.line;
      among = found.0.among;
      says = found.0.says;
      last = λ line f among says.
          by_test (same_topic e.topic f.topic)
          (λ s.
          let bound = latest_bounds kind lines t f line among says (found.1 ∙ same_topic_is e.topic f.topic s) in
          let is = same_Some bound.entry e (sym bound.is ∙ h) in
          older_parts e f (subst (λ (x : Entry). is_lt (entry_cmp x f) ≡ false) is bound.last))
          (λ s. rw s refl);
    }

newest_latest : (kind : LogKind) (lines : List (List ℕ)) (e : Entry) → IsNewest kind lines e → latest kind lines e.topic ≡ Some e
newest_latest kind lines e new =
    let bound = latest_bounds kind lines e.topic e new.line new.among new.says refl in
    let found = latest_says kind lines e.topic bound.entry bound.is in
    let last = older_same e bound.entry found.1 (new.last found.0.line bound.entry found.0.among found.0.says) in
    bound.is ∙ ap Some (tied_is bound.entry e (sym found.1) bound.last last)

-- the newest entry of the topic is the one entry that is newest and speaks of it
pub newest_of_is : (kind : LogKind) (lines : List (List ℕ)) (t : Topic) (e : Entry) → newest_of kind lines t ≡ Some e → IsNewest kind lines e × (e.topic ≡ t)
newest_of_is kind lines t e h =
    let read = sym (newest_is_latest kind lines t) ∙ h in
    (latest_newest kind lines t e read, sym ((latest_says kind lines t e read).1))

pub is_newest_of : (kind : LogKind) (lines : List (List ℕ)) (e : Entry) → IsNewest kind lines e → newest_of kind lines e.topic ≡ Some e
is_newest_of kind lines e new = newest_is_latest kind lines e.topic ∙ newest_latest kind lines e new

-- where a line says an entry of the topic, the topic has a newest one
pub newest_of_some : (kind : LogKind) (lines : List (List ℕ)) (f : Entry) → Says kind lines f → (e : Entry) × (newest_of kind lines f.topic ≡ Some e)
newest_of_some kind lines f s =
    let bound = latest_bounds kind lines f.topic f s.line s.among s.says refl in (bound.entry, newest_is_latest kind lines f.topic ∙ bound.is)

-- ---- the newest entries are the one reading

pub newest_reading : (kind : LogKind) (lines : List (List ℕ)) → IsReading kind lines (newest kind lines)
newest_reading kind lines = record {
  sorted = newest_rising kind lines;
  each = λ e. (
    λ among. (newest_of_is kind lines e.topic e (member_at (newest kind lines) e (newest_rising kind lines) among)).0,
    λ new. (at_member (newest kind lines) e.topic e (is_newest_of kind lines e new)).0,
  );
}

pub reading_same : (kind : LogKind) (lines : List (List ℕ)) (es fs : List Entry) → IsReading kind lines es → IsReading kind lines fs → es ≡ fs
reading_same kind lines es fs r s = rising_same es fs r.sorted s.sorted (λ e m. (s.each e).1 ((r.each e).0 m)) (λ e m. (r.each e).1 ((s.each e).0 m))

-- lines with the same newest entries read alike
pub alike_by_newest : (kind : LogKind) (xs ys : List (List ℕ)) → ((e : Entry) → IsNewest kind xs e → IsNewest kind ys e) → ((e : Entry) → IsNewest kind ys e → IsNewest kind xs e) → ReadAlike kind xs ys
alike_by_newest kind xs ys f g =
    let r = newest_reading kind xs in
    let s = newest_reading kind ys in
    rising_same (newest kind xs) (newest kind ys) r.sorted s.sorted (λ e m. (s.each e).1 (f e ((r.each e).0 m))) (λ e m. (r.each e).1 (g e ((s.each e).0 m)))

newest_within : (kind : LogKind) (xs ys : List (List ℕ)) → ((l : List ℕ) → Member l xs → Member l ys) → ((l : List ℕ) → Member l ys → Member l xs) → (e : Entry) → IsNewest kind xs e → IsNewest kind ys e
newest_within kind xs ys f g e new = record {
  line = new.line;
  among = f new.line new.among;
  says = new.says;
  last = λ other h among says. new.last other h (g other among) says;
}

-- lines with the same members read alike
pub alike_by_members : (kind : LogKind) (xs ys : List (List ℕ)) → ((l : List ℕ) → Member l xs ↔ Member l ys) → ReadAlike kind xs ys
alike_by_members kind xs ys same =
    let f : (l : List ℕ) → Member l xs → Member l ys = λ l. (same l).0 in
    let g : (l : List ℕ) → Member l ys → Member l xs = λ l. (same l).1 in
    alike_by_newest kind xs ys (newest_within kind xs ys f g) (newest_within kind ys xs g f)

-- lines that read alike do so with more lines after them
pub alike_append : (kind : LogKind) (xs ys more : List (List ℕ)) → ReadAlike kind xs ys → ReadAlike kind (xs ++ more) (ys ++ more)
alike_append kind xs ys more alike =
    newest_append kind xs more ∙ ap (λ es. fold (λ es line. with_entry_if es (entry_of kind line)) es more) alike ∙ sym (newest_append kind ys more)

pub reading_by : {E : Type 0} (kind : LogKind) (lines : List (List ℕ)) (es : List Entry) (r : Result (Vec Entry Global) E) → es ≡ newest kind lines → IfOk r (λ v. v.items ≡ es) → IfOk r (λ v. IsReading kind lines v.items)
reading_by kind lines es (Ok v) made is = subst (IsReading kind lines) (sym (is ∙ made)) (newest_reading kind lines)
reading_by kind lines es (Err x) made is = tt

-- one line more of those that are read in order
pub newest_of-take : (kind : LogKind) (lines : List (List ℕ)) (i : ℕ) (line : List ℕ) (t : Topic) → i < length lines → line ≡ get_or lines i line → newest_of kind (take (i + 1) lines) t ≡ newer_of (newest_of kind (take i lines) t) (said_of t (entry_of kind line))
newest_of-take kind lines i line t within is =
    ap (λ ls. newest_of kind ls t) (take_more lines i line within ∙ ap (λ l. take i lines ++ l ∷ []) (sym is))
    ∙ newest_of-push kind (take i lines) line t

pub newest_of_says : (kind : LogKind) (lines : List (List ℕ)) (t : Topic) (e : Entry) → newest_of kind lines t ≡ Some e → Says kind lines e × (e.topic ≡ t)
newest_of_says kind lines t e h =
    let found = newest_of_is kind lines t e h in
    (record { line = found.0.line; among = found.0.among; says = found.0.says }, found.1)

pub newest_of_found : (kind : LogKind) (lines : List (List ℕ)) (t : Topic) (e : Entry) → (newest_of kind lines t ≡ Some e) ↔ (IsNewest kind lines e × (e.topic ≡ t))
newest_of_found kind lines t e = (
  newest_of_is kind lines t e,
  λ h. ap (newest_of kind lines) (sym h.1) ∙ is_newest_of kind lines e h.0,
)

-- there is none exactly where no line speaks of the topic
pub newest_of_none : (kind : LogKind) (lines : List (List ℕ)) (t : Topic) → (newest_of kind lines t ≡ None) ↔ ((e : Entry) → Says kind lines e → e.topic ≢ t)
newest_of_none kind lines t = (
  λ none e said topic.
      let found = newest_of_some kind lines e said in none-some found.0 (sym none ∙ ap (newest_of kind lines) (sym topic) ∙ found.1),
  λ silent. none_by (newest_of kind lines t) (λ e h. let found = newest_of_says kind lines t e h in silent e found.0 found.1),
)
