-- Compaction keeps the reading, as additions and merges do.
use Rattle.std.proofs.Common.{inl, inr, ◌≡◌, ◌↔◌, ℕ, Bool, true, false, not, ◌||◌, List, [], ◌∷◌, ◌++◌, filter, length, ◌<◌, ◌≤◌, nat_lt, Option, Some, None, refl, sym, ap, ◌∙◌, arith}
use Rattle.std.specs.List.{list_any}
use Rattle.std.proofs.lemmas.Bool.{lt-ltb, le-ltb, not-true}
use Rattle.std.proofs.lemmas.List.{append-nil}
use Rattle.std.proofs.lemmas.List.Elements.{filter-append}
use Rattle.std.proofs.lemmas.Option.{same_Some}
use Rattle.annex_base.specs.Lists.{Member, Each}
use Rattle.annex_base.proofs.Conditions.{by_test}
use Rattle.annex_base.proofs.Lists.{Each-member, filter_shorter, list_any_found, list_any_member, Member-append_cases, Member-append_left, Member-append_right, Member-filter_from, Member-filter_parts}
use Rattle.log_grammar.specs.declared.entry.LogKind.{LogKind}
use Rattle.log_grammar.specs.declared.entry.Entry.{Entry}
use Rattle.log_grammar.specs.Reading.{entry_of}
use Rattle.log_lines.specs.Newest.{same_topic, is_older, IsNewest, newer, newest, newest_of, ReadAlike, says_newer, outdated_by, is_outdated, current_lines}
use Rattle.log_lines.specs.Latest.{said_of, newer_of, is_outdated_in}
use Rattle.log_lines.specs.Keeping.{HasNewer, Keeps}
use Rattle.log_lines.specs.Keeping.Keeps.{Empty, Add, AddAgain, Merge, Arrange, Compact}
use Rattle.log_grammar.proofs.FormLemmas.{entry_takes, entry_again}
use Rattle.log_grammar.proofs.EqualLemmas.{other}
use Rattle.log_lines.proofs.OrderLemmas.{same_topic_own}
use Rattle.log_lines.proofs.NewerLemmas.{newer_topic, lt_newer}
use Rattle.log_lines.proofs.NewestLemmas.{newest_of-cons, newest_of_is, said_is, alike_by_newest, alike_by_members, alike_append}

-- ---- a line that is outdated

tells_newer : (e : Entry) (o : Option Entry) → says_newer e o ≡ true → (f : Entry) × (o ≡ Some f) × (is_older e f ≡ true)
tells_newer e None h = other h
tells_newer e (Some f) h = (f, refl, h)

outdated_newer : (kind : LogKind) (lines : List (List ℕ)) (line : List ℕ) (o : Option Entry) → entry_of kind line ≡ o → outdated_by kind lines o ≡ true → HasNewer kind lines line
outdated_newer kind lines line None read h = other h
outdated_newer kind lines line (Some e) read h =
    let found = list_any_found (λ l. says_newer e (entry_of kind l)) lines h in
    let told = tells_newer e (entry_of kind found.0) found.2 in
    record {
      entry = e;
      later = told.0;
      says = entry_takes kind line e read;
      said = record { line = found.0; among = found.1; says = entry_takes kind found.0 told.0 told.1 };
      older = told.2;
    }

pub outdated_has_newer : (kind : LogKind) (lines : List (List ℕ)) (line : List ℕ) → is_outdated kind lines line ≡ true → HasNewer kind lines line
outdated_has_newer kind lines line h = outdated_newer kind lines line (entry_of kind line) refl h

pub has_newer_outdated : (kind : LogKind) (lines : List (List ℕ)) (line : List ℕ) → HasNewer kind lines line → is_outdated kind lines line ≡ true
has_newer_outdated kind lines line n =
    let read = entry_again kind line n.entry n.says in
    let told : says_newer n.entry (entry_of kind n.said.line) ≡ true = ap (says_newer n.entry) (entry_again kind n.said.line n.later n.said.says) ∙ n.older in
    ap (outdated_by kind lines) read ∙ list_any_member (λ l. says_newer n.entry (entry_of kind l)) lines n.said.line n.said.among told

-- ---- compaction keeps what is newest

pub compacted_among : (kind : LogKind) (lines : List (List ℕ)) (line : List ℕ) → Member line (current_lines kind lines) → Member line lines × (is_outdated kind lines line ≡ false)
compacted_among kind lines line among =
    let found = Member-filter_parts (λ l. not (is_outdated kind lines l)) lines line among in (found.0, not-true (is_outdated kind lines line) found.1)

pub among_compacted : (kind : LogKind) (lines : List (List ℕ)) (line : List ℕ) → Member line lines → is_outdated kind lines line ≡ false → Member line (current_lines kind lines)
among_compacted kind lines line among h = Member-filter_from (λ l. not (is_outdated kind lines l)) lines line among (ap not h)

compacted_newest : (kind : LogKind) (lines : List (List ℕ)) (e : Entry) → IsNewest kind (current_lines kind lines) e → IsNewest kind lines e
compacted_newest kind lines e new =
    let stands = compacted_among kind lines new.line new.among in
    record {
      line = new.line;
      among = stands.0;
      says = new.says;
      last = λ line f among says.
          by_test (is_older e f)
          (λ t. other (sym stands.1 ∙ has_newer_outdated kind lines new.line (record { entry = e; later = f; says = new.says; said = record { line = line; among = among; says = says }; older = t })))
          (λ t. t);
    }

newest_compacted : (kind : LogKind) (lines : List (List ℕ)) (e : Entry) → IsNewest kind lines e → IsNewest kind (current_lines kind lines) e
newest_compacted kind lines e new = record {
  line = new.line;
  among = among_compacted kind lines new.line new.among
      (by_test (is_outdated kind lines new.line)
      (λ t. let n = outdated_has_newer kind lines new.line t in
      let own = same_Some n.entry e (sym (entry_again kind new.line n.entry n.says) ∙ entry_again kind new.line e new.says) in
      other (sym (new.last n.said.line n.later n.said.among n.said.says) ∙ ap (λ (x : Entry). is_older x n.later) (sym own) ∙ n.older))
      (λ t. t));
  says = new.says;
  last = λ line f among says. new.last line f (compacted_among kind lines line among).0 says;
}

pub compacted_alike : (kind : LogKind) (lines : List (List ℕ)) → ReadAlike kind (current_lines kind lines) lines
compacted_alike kind lines = alike_by_newest kind (current_lines kind lines) lines (compacted_newest kind lines) (newest_compacted kind lines)

-- a line is left out exactly where it has a newer one
pub left_out : (kind : LogKind) (lines : List (List ℕ)) (line : List ℕ) → Member line lines → (¬ Member line (current_lines kind lines)) ↔ HasNewer kind lines line
left_out kind lines line among = (
  λ out. by_test (is_outdated kind lines line) (outdated_has_newer kind lines line) (λ t. absurd (out (among_compacted kind lines line among t))),
  λ n m. other (sym (compacted_among kind lines line m).1 ∙ has_newer_outdated kind lines line n),
)

-- ---- a topic's newest entry tells whether a line is outdated

newer_said : (e : Entry) (o : Option Entry) → says_newer e o ≡ says_newer e (said_of e.topic o)
newer_said e None = refl
newer_said e (Some f) = by_test (same_topic e.topic f.topic) (λ s. rw (s, s) refl) (λ s. rw s refl)

newer_of_both : (e : Entry) (a b : Option Entry) → ((f : Entry) → a ≡ Some f → f.topic ≡ e.topic) → ((f : Entry) → b ≡ Some f → f.topic ≡ e.topic) → says_newer e (newer_of a b) ≡ says_newer e a || says_newer e b
newer_of_both e None b p q = refl
newer_of_both e (Some f) None p q = by_test (is_older e f) (λ t. rw t refl) (λ t. rw t refl)
newer_of_both e (Some f) (Some g) p q =
    let first : same_topic e.topic f.topic ≡ true = ap (same_topic e.topic) (p f refl) ∙ same_topic_own e.topic in
    let second : same_topic e.topic g.topic ≡ true = ap (same_topic e.topic) (q g refl) ∙ same_topic_own e.topic in
    let both : same_topic e.topic (newer f g).topic ≡ true = ap (same_topic e.topic) (newer_topic f g e.topic (p f refl) (q g refl)) ∙ same_topic_own e.topic in
    rw (first, second, both) (lt_newer e f g)

pub any_newer : (kind : LogKind) (lines : List (List ℕ)) (e : Entry) → list_any (λ line. says_newer e (entry_of kind line)) lines ≡ says_newer e (newest_of kind lines e.topic)
any_newer kind [] e = refl
any_newer kind (line ∷ lines) e =
    let o = entry_of kind line in
    let n = newest_of kind lines e.topic in
    ap (λ b. b || list_any (λ l. says_newer e (entry_of kind l)) lines) (newer_said e o)
    ∙ ap (λ b. says_newer e (said_of e.topic o) || b) (any_newer kind lines e)
    ∙ sym (newer_of_both e (said_of e.topic o) n (λ f h. sym (said_is e.topic o f h).1) (λ f h. (newest_of_is kind lines e.topic f h).1))
    ∙ ap (says_newer e) (sym (newest_of-cons kind line lines e.topic))

-- ---- files that are merged

pub alike_turned : (kind : LogKind) (xs ys : List (List ℕ)) → ReadAlike kind (xs ++ ys) (ys ++ xs)
alike_turned kind xs ys = alike_by_members kind (xs ++ ys) (ys ++ xs) (λ l. (turn xs ys l, turn ys xs l))
  where
    turn : (xs ys : List (List ℕ)) (l : List ℕ) → Member l (xs ++ ys) → Member l (ys ++ xs)
    turn xs ys l among = elim (Member-append_cases xs ys l among) [ inl m ↦ Member-append_right ys xs l m | inr m ↦ Member-append_left ys xs l m ]

pub alike_both : (kind : LogKind) (xs others ys all : List (List ℕ)) → ReadAlike kind xs others → ReadAlike kind ys all → ReadAlike kind (xs ++ ys) (others ++ all)
alike_both kind xs others ys all first second =
    alike_append kind xs others ys first
    ∙ alike_turned kind others ys
    ∙ alike_append kind ys all others second
    ∙ alike_turned kind all others

alike_again : (kind : LogKind) (ever lines : List (List ℕ)) → Each (λ line. Member line ever) lines → ReadAlike kind (ever ++ lines) ever
alike_again kind ever lines all = alike_by_members kind (ever ++ lines) ever (λ l. (back l, Member-append_left ever lines l))
  where
    back : (l : List ℕ) → Member l (ever ++ lines) → Member l ever
    back l among = elim (Member-append_cases ever lines l among) [ inl m ↦ m | inr m ↦ Each-member (λ line. Member line ever) lines l all m ]

pub kept_alike : (kind : LogKind) {kept ever : List (List ℕ)} → Keeps kind kept ever → ReadAlike kind kept ever
kept_alike kind Empty = refl
kept_alike kind (Add kept ever lines h) = alike_append kind kept ever lines (kept_alike kind h)
kept_alike kind (AddAgain kept ever lines all h) = alike_append kind kept ever lines (kept_alike kind h) ∙ alike_again kind ever lines all
kept_alike kind (Merge kept ever others all h k) = alike_both kind kept ever others all (kept_alike kind h) (kept_alike kind k)
kept_alike kind (Arrange kept ever arranged same h) = sym (alike_by_members kind kept arranged same) ∙ kept_alike kind h
kept_alike kind (Compact kept ever h) = compacted_alike kind kept ∙ kept_alike kind h

-- ---- a list is filtered in order

pub filter_with : {X : Type 0} (p : X → Bool) (xs : List X) (x : X) → p x ≡ true → filter p (xs ++ x ∷ []) ≡ filter p xs ++ x ∷ []
filter_with p xs x h = filter-append p xs (x ∷ []) ∙ rw h refl

pub filter_without : {X : Type 0} (p : X → Bool) (xs : List X) (x : X) → p x ≡ false → filter p (xs ++ x ∷ []) ≡ filter p xs
filter_without p xs x h = filter-append p xs (x ∷ []) ∙ rw h (append-nil (filter p xs))

-- a line is outdated where the newest entry of its topic is newer
outdated_in : (kind : LogKind) (lines : List (List ℕ)) (o : Option Entry) → is_outdated_in (newest kind lines) o ≡ outdated_by kind lines o
outdated_in kind lines None = refl
outdated_in kind lines (Some e) = sym (any_newer kind lines e)

pub outdated_by_newest : (kind : LogKind) (lines : List (List ℕ)) (line : List ℕ) → is_outdated_in (newest kind lines) (entry_of kind line) ≡ is_outdated kind lines line
outdated_by_newest kind lines line = outdated_in kind lines (entry_of kind line)

-- a line without a newer one stays
pub stays : (kind : LogKind) (lines : List (List ℕ)) (line : List ℕ) → Member line lines → ¬ HasNewer kind lines line → Member line (current_lines kind lines)
stays kind lines line among last =
    among_compacted kind lines line among (by_test (is_outdated kind lines line) (λ t. absurd (last (outdated_has_newer kind lines line t))) (λ t. t))

-- ---- whether a line is left out

fewer_where : {X : Type 0} (p : X → Bool) (xs : List X) → list_any p xs ≡ true → length (filter (λ x. not (p x)) xs) < length xs
fewer_where p [] h = other h
fewer_where p (x ∷ xs) h =
    by_test (p x)
    (λ t. let rest = filter_shorter (λ y. not (p y)) xs in rw t (omega (arith, rest)))
    (λ t. let rest = fewer_where p xs (rw t at h) in rw t (omega (arith, rest)))

all_where : {X : Type 0} (p : X → Bool) (xs : List X) → list_any p xs ≡ false → length xs ≤ length (filter (λ x. not (p x)) xs)
all_where p [] h = omega arith
all_where p (x ∷ xs) h =
    by_test (p x)
    (λ t. other (sym (rw t at h)))
    (λ t. let rest = all_where p xs (rw t at h) in rw t (omega (arith, rest)))

pub fewer_is : {X : Type 0} (p : X → Bool) (xs : List X) → nat_lt (length (filter (λ x. not (p x)) xs)) (length xs) ≡ list_any p xs
fewer_is p xs =
    by_test (list_any p xs)
    (λ t. lt-ltb (length (filter (λ x. not (p x)) xs)) (length xs) (fewer_where p xs t) ∙ sym t)
    (λ t. le-ltb (length (filter (λ x. not (p x)) xs)) (length xs) (all_where p xs t) ∙ sym t)
