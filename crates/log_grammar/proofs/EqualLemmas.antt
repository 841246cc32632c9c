-- Entries that compare equal are the same.
use Rattle.std.proofs.Common.{◌≡◌, ℕ, Bool, true, false, ◌&&◌, ◌==◌, List, Option, Some, None, refl, sym, ap, true≢false}
use Rattle.std.specs.Bool.{Decides}
use Rattle.std.specs.Option.{option_eq}
use Rattle.std.specs.Cmp.Lexicographic.{pointwise}
use Rattle.std.proofs.lemmas.Bool.{eqb-true, and_parts, and_from}
use Rattle.std.proofs.lemmas.Bool.Decides.{Decides-eqb}
use Rattle.std.proofs.lemmas.Slice.Eq.{slice_eq-Decides}
use Rattle.annex_base.specs.declared.kinds.Level.{Level}
use Rattle.annex_base.specs.declared.kinds.Level.TheVariants as levels
use Rattle.annex_base.specs.contracts.kinds.LevelPartialEq.TheImpl as level_impl
use Rattle.annex_base.specs.contracts.stamp.StampPartialEq.TheImpl as stamp_impl
use Rattle.log_grammar.specs.declared.entry.Topic.{Topic}
use Rattle.log_grammar.specs.declared.entry.Topic.TheVariants as topics
use Rattle.log_grammar.specs.declared.entry.Value.{Value}
use Rattle.log_grammar.specs.declared.entry.Value.TheVariants as values
use Rattle.log_grammar.specs.declared.entry.Entry.{Entry}
use Rattle.log_grammar.specs.contracts.entry.TopicPartialEq.TheImpl as topic_impl
use Rattle.log_grammar.specs.contracts.entry.ValuePartialEq.TheImpl as value_impl
use Rattle.log_grammar.specs.contracts.entry.EntryPartialEq.TheImpl as entry_impl

-- a test that fails where it passes
pub other : {A : Type 0} → false ≡ true → A
other e = absurd (true≢false (sym e))

level_same : (l m : Level) → level_impl.ghosts.eq l m ≡ true → l ≡ m
level_same levels.Dead levels.Dead e = refl
level_same levels.Untrusted levels.Untrusted e = refl
level_same levels.Semitrusted levels.Semitrusted e = refl
level_same levels.Trusted levels.Trusted e = refl
level_same l m e = other e

level_equal : (l : Level) → level_impl.ghosts.eq l l ≡ true
level_equal levels.Dead = refl
level_equal levels.Untrusted = refl
level_equal levels.Semitrusted = refl
level_equal levels.Trusted = refl

bytes : (l m : List ℕ) → Decides (pointwise ◌==◌ l m) (l ≡ m)
bytes l m = slice_eq-Decides Decides-eqb l m (pointwise ◌==◌ l m) refl

names : (l m : List (List ℕ)) → Decides (pointwise (pointwise ◌==◌) l m) (l ≡ m)
names l m = slice_eq-Decides bytes l m (pointwise (pointwise ◌==◌) l m) refl

pub topic_same : (t u : Topic) → topic_impl.ghosts.eq t u ≡ true → t ≡ u
topic_same (topics.Repo l) (topics.Repo m) e = ap topics.Repo ((bytes l m).0 e)
topic_same (topics.Group l) (topics.Group m) e = ap topics.Group ((bytes l m).0 e)
topic_same topics.Whole topics.Whole e = refl
topic_same (topics.Pattern l) (topics.Pattern m) e = ap topics.Pattern ((bytes l m).0 e)
topic_same t u e = other e

pub topic_equal : (t : Topic) → topic_impl.ghosts.eq t t ≡ true
topic_equal (topics.Repo l) = (bytes l l).1 refl
topic_equal (topics.Group l) = (bytes l l).1 refl
topic_equal topics.Whole = refl
topic_equal (topics.Pattern l) = (bytes l l).1 refl

value_same : (v w : Value) → value_impl.ghosts.eq v w ≡ true → v ≡ w
value_same values.Gone values.Gone e = refl
value_same values.Absent values.Absent e = refl
value_same values.Present values.Present e = refl
value_same (values.Level l) (values.Level m) e = ap values.Level (level_same l m e)
value_same (values.Text l) (values.Text m) e = ap values.Text ((bytes l m).0 e)
value_same (values.Groups l) (values.Groups m) e = ap values.Groups ((names l m).0 e)
value_same (values.Number n) (values.Number m) e = ap values.Number (eqb-true n m e)
value_same v w e = other e

value_equal : (v : Value) → value_impl.ghosts.eq v v ≡ true
value_equal values.Gone = refl
value_equal values.Absent = refl
value_equal values.Present = refl
value_equal (values.Level l) = level_equal l
value_equal (values.Text l) = (bytes l l).1 refl
value_equal (values.Groups l) = (names l l).1 refl
value_equal (values.Number n) = (Decides-eqb n n).1 refl

abbrev stamp_eq : Option ℕ → Option ℕ → Bool
stamp_eq s t = option_eq (λ x y. stamp_impl.ghosts.eq x y) s t

stamp_same : (s t : Option ℕ) → stamp_eq s t ≡ true → s ≡ t
stamp_same None None e = refl
stamp_same (Some n) (Some m) e = ap Some (eqb-true n m e)
stamp_same s t e = other e

stamp_equal : (s : Option ℕ) → stamp_eq s s ≡ true
stamp_equal None = refl
stamp_equal (Some n) = (Decides-eqb n n).1 refl

pub entry_same : (a b : Entry) → entry_impl.ghosts.eq a b ≡ true → a ≡ b
entry_same a b e =
    let first = and_parts (topic_impl.ghosts.eq a.topic b.topic) (stamp_eq a.stamp b.stamp && value_impl.ghosts.eq a.value b.value) e in
    let second = and_parts (stamp_eq a.stamp b.stamp) (value_impl.ghosts.eq a.value b.value) first.1 in
    let topic = topic_same a.topic b.topic first.0 in
    let stamp = stamp_same a.stamp b.stamp second.0 in
    let value = value_same a.value b.value second.1 in
    rw (topic, stamp, value) refl

pub entry_equal : (a : Entry) → entry_impl.ghosts.eq a a ≡ true
entry_equal a =
    and_from (topic_impl.ghosts.eq a.topic a.topic) (stamp_eq a.stamp a.stamp && value_impl.ghosts.eq a.value a.value) (topic_equal a.topic)
    (and_from (stamp_eq a.stamp a.stamp) (value_impl.ghosts.eq a.value a.value) (stamp_equal a.stamp) (value_equal a.value))
