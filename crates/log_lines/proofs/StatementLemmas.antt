-- Statements by topic in a map, as entries in order of topic.
use Rattle.std.proofs.Common.{◌≡◌, true, false, List, [], ◌∷◌, Option, None, Result, Ok, Err, OnOk, OnErr, refl, sym, ap, subst, ◌∙◌}
use Rattle.std.specs.declared.cmp.Ordering.{Ordering}
use Rattle.std.specs.Ordering.{is_lt}
use Rattle.std.specs.Map.{lookup}
use Rattle.std.specs.Option.{option_map}
use Rattle.std.specs.BTreeMap.{insert_entry, is_at}
use Rattle.annex_base.proofs.Conditions.{by_test}
use Rattle.annex_base.proofs.TextOrder.{by_order}
use Rattle.log_grammar.specs.declared.entry.Topic.{Topic}
use Rattle.log_grammar.specs.declared.entry.Topic.TheVariants as topics
use Rattle.log_lines.specs.declared.statement.Statement.{Statement}
use Rattle.log_grammar.specs.contracts.entry.TopicOrd.TheImpl as topic_ord
use Rattle.log_lines.specs.Newest.{topic_cmp, same_topic, with_entry, with_entry_if, entry_at, says_newer}
use Rattle.log_grammar.specs.declared.entry.Entry.{Entry}
use Rattle.log_lines.specs.Index.{statement_of, entry_with, entries_in}
use Rattle.log_lines.specs.Latest.{statement_cmp, is_news, is_old}
use Rattle.log_grammar.specs.contracts.entry.TopicPartialEq.TheImpl as topic_impl
use Rattle.log_grammar.proofs.EqualLemmas.{other, topic_same, topic_equal}
use Rattle.log_lines.proofs.OrderLemmas.{topic_exact, same_topic_is, same_topic_own}
use Rattle.log_lines.proofs.PutLemmas.{IsRising, put_if_rising, ArePast, rising_parts, past_further}

-- the derived order of topics is theirs
pub topic_order : (t u : Topic) → topic_ord.ghosts.cmp t u ≡ topic_cmp t u
topic_order (topics.Repo a) (topics.Repo b) = refl
topic_order (topics.Repo a) (topics.Group b) = refl
topic_order (topics.Repo a) topics.Whole = refl
topic_order (topics.Group a) (topics.Repo b) = refl
topic_order (topics.Group a) (topics.Group b) = refl
topic_order (topics.Group a) topics.Whole = refl
topic_order topics.Whole (topics.Repo b) = refl
topic_order topics.Whole (topics.Group b) = refl
topic_order topics.Whole topics.Whole = refl
topic_order (topics.Repo a) (topics.Pattern b) = refl
topic_order (topics.Group a) (topics.Pattern b) = refl
topic_order topics.Whole (topics.Pattern b) = refl
topic_order (topics.Pattern a) (topics.Repo b) = refl
topic_order (topics.Pattern a) (topics.Group b) = refl
topic_order (topics.Pattern a) topics.Whole = refl
topic_order (topics.Pattern a) (topics.Pattern b) = refl

pub topic_orders : topic_ord.ghosts.cmp ≡ topic_cmp
topic_orders = λ i t u. topic_order t u i

abbrev known_at : (Topic → Topic → Ordering) → List (Topic × Statement) → Topic → Option Statement
known_at cmp statements t = lookup (is_at (cmp t)) statements

-- a statement that is news is put
pub put_news : (statements : List (Topic × Statement)) (t : Topic) (c : Statement) → is_news c (known_at topic_cmp statements t) ≡ true → entries_in (insert_entry topic_cmp statements t c) ≡ with_entry (entries_in statements) (entry_with t c)
put_news [] t c news = refl
put_news (p ∷ ps) t c news =
    by_order (topic_cmp t p.0)
    (λ o. rw o refl)
    (λ o.
    let less : is_lt (statement_cmp p.1 c) ≡ true = rw o at news in
    let topic = topic_exact t p.0 o in
    rw (o, less, topic) refl)
    (λ o. let more : is_news c (known_at topic_cmp ps t) ≡ true = rw o at news in rw (o, put_news ps t c more) refl)

past_unknown : (statements : List (Topic × Statement)) (t : Topic) → ArePast t (entries_in statements) → known_at topic_cmp statements t ≡ None
past_unknown [] t past = refl
past_unknown (p ∷ ps) t past = rw past.0 (past_unknown ps t past.1)

-- where it isn't, it changes nothing
pub put_known : (statements : List (Topic × Statement)) (t : Topic) (c : Statement) → IsRising (entries_in statements) → is_news c (known_at topic_cmp statements t) ≡ false → entries_in statements ≡ with_entry (entries_in statements) (entry_with t c)
put_known [] t c up news = other (sym news)
put_known (p ∷ ps) t c up news =
    let parts = rising_parts (entry_with p.0 p.1) (entries_in ps) up in
    by_order (topic_cmp t p.0)
    (λ o.
    let none = past_unknown (p ∷ ps) t (o, past_further t p.0 (entries_in ps) o parts.0) in
    other (sym news ∙ ap (is_news c) none))
    (λ o. let not_less : is_lt (statement_cmp p.1 c) ≡ false = rw o at news in rw (o, not_less) refl)
    (λ o.
    let more : is_news c (known_at topic_cmp ps t) ≡ false = rw o at news in
    rw o (ap (λ es. entry_with p.0 p.1 ∷ es) (put_known ps t c parts.1 more)))

-- two topics are the same for `==` as they are in order
pub topic_eq_same : (t u : Topic) → topic_impl.ghosts.eq t u ≡ same_topic u t
topic_eq_same t u =
    by_test (topic_impl.ghosts.eq t u)
    (λ e. e ∙ sym (ap (λ x. same_topic x t) (sym (topic_same t u e)) ∙ same_topic_own t))
    (λ e.
    by_test (same_topic u t)
    (λ s. other (sym e ∙ ap (topic_impl.ghosts.eq t) (same_topic_is u t s) ∙ topic_equal t))
    (λ s. e ∙ sym s))

-- what is known of a topic is the entry of it
pub old_at : (statements : List (Topic × Statement)) (t : Topic) (c : Statement) → is_old c (known_at topic_cmp statements t) ≡ says_newer (entry_with t c) (entry_at (entries_in statements) t)
old_at [] t c = refl
old_at (p ∷ ps) t c = by_test (same_topic t p.0) (λ s. rw (s, s) refl) (λ s. rw s (old_at ps t c))

-- what a topic's entry says is what the map has
pub statement_at : (statements : List (Topic × Statement)) (t : Topic) → known_at topic_cmp statements t ≡ option_map statement_of (entry_at (entries_in statements) t)
statement_at [] t = refl
statement_at (p ∷ ps) t = by_test (same_topic t p.0) (λ s. rw s refl) (λ s. rw s (statement_at ps t))

-- the topics still rise when a line is put, or nothing is changed
pub kept_rising : {T E : Type 0} (r : Result T E) (old new : List (Topic × Statement)) (o : Option Entry) → IsRising (entries_in old) → OnOk r (entries_in new ≡ with_entry_if (entries_in old) o) → OnErr r (new ≡ old) → IsRising (entries_in new)
kept_rising (Ok v) old new o up ok err = subst IsRising (sym ok) (put_if_rising (entries_in old) o up)
kept_rising (Err e) old new o up ok err = subst (λ s. IsRising (entries_in s)) (sym err) up
