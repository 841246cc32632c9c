-- Topics, values and entries are in a total order, and what the order doesn't tell apart is the same.
use Rattle.std.proofs.Common.{◌≡◌, ℕ, true, List, [], ◌∷◌, Some, None, refl, ap, subst}
use Rattle.std.specs.declared.cmp.Ordering.{Ordering}
use Rattle.std.specs.declared.cmp.Ordering.TheVariants.{Less, Equal, Greater}
use Rattle.std.specs.Ordering.{nat_cmp, ordering_then, is_eq}
use Rattle.std.specs.Option.{option_cmp}
use Rattle.std.specs.Cmp.{IsTotalOrder}
use Rattle.std.specs.Cmp.Lexicographic.{slice_cmp, options_total}
use Rattle.std.proofs.lemmas.Cmp.{nat_cmp_total, nat_list_cmp_total, lists_total, on_total, then_total, tied_itself}
use Rattle.std.proofs.lemmas.Map.Lookups.{CmpEqualImpliesEq, exact_unsigned, exact_bytes}
use Rattle.annex_base.specs.ByteOrder.{text_cmp}
use Rattle.annex_base.specs.declared.kinds.Level.{Level}
use Rattle.annex_base.specs.declared.kinds.Level.TheVariants as levels
use Rattle.log_grammar.specs.declared.entry.Topic.{Topic}
use Rattle.log_grammar.specs.declared.entry.Topic.TheVariants as topics
use Rattle.log_grammar.specs.declared.entry.Value.TheVariants as values
use Rattle.log_grammar.specs.declared.entry.Entry.{Entry}
use Rattle.log_grammar.proofs.EqualLemmas.{other}
use Rattle.log_lines.specs.Newest.{topic_rank, topic_cmp, same_topic, distrust, value_class, value_weight, value_cmp, entry_cmp}

-- what is first and then second is told apart by neither
then_equal : (o p : Ordering) → ordering_then o p ≡ Equal → (o ≡ Equal) × (p ≡ Equal)
then_equal Less p e = other (ap is_eq e)
then_equal Equal p e = (refl, e)
then_equal Greater p e = other (ap is_eq e)

-- lists of what the order tells apart
lists_exact : {K : Type 0} (R : K → K → Ordering) → CmpEqualImpliesEq R → CmpEqualImpliesEq (slice_cmp R)
lists_exact R own [] [] e = refl
lists_exact R own [] (y ∷ ys) e = other (ap is_eq e)
lists_exact R own (x ∷ xs) [] e = other (ap is_eq e)
lists_exact R own (x ∷ xs) (y ∷ ys) e =
    let both = then_equal (R x y) (slice_cmp R xs ys) e in rw (own x y both.0, lists_exact R own xs ys both.1) refl

texts_exact : CmpEqualImpliesEq (slice_cmp text_cmp)
texts_exact = lists_exact text_cmp exact_bytes

-- ---- topics

topic_text : Topic → List ℕ
topic_text (topics.Repo id) = id
topic_text (topics.Group name) = name
topic_text topics.Whole = []
topic_text (topics.Pattern glob) = glob

topic_in_parts : (t u : Topic) → ordering_then (nat_cmp (topic_rank t) (topic_rank u)) (text_cmp (topic_text t) (topic_text u)) ≡ topic_cmp t u
unfolding topic_text
topic_in_parts (topics.Repo a) (topics.Repo b) = refl
topic_in_parts (topics.Repo a) (topics.Group b) = refl
topic_in_parts (topics.Repo a) topics.Whole = refl
topic_in_parts (topics.Group a) (topics.Repo b) = refl
topic_in_parts (topics.Group a) (topics.Group b) = refl
topic_in_parts (topics.Group a) topics.Whole = refl
topic_in_parts topics.Whole (topics.Repo b) = refl
topic_in_parts topics.Whole (topics.Group b) = refl
topic_in_parts topics.Whole topics.Whole = refl
topic_in_parts (topics.Repo a) (topics.Pattern b) = refl
topic_in_parts (topics.Group a) (topics.Pattern b) = refl
topic_in_parts topics.Whole (topics.Pattern b) = refl
topic_in_parts (topics.Pattern a) (topics.Repo b) = refl
topic_in_parts (topics.Pattern a) (topics.Group b) = refl
topic_in_parts (topics.Pattern a) topics.Whole = refl
topic_in_parts (topics.Pattern a) (topics.Pattern b) = refl

pub topic_total : IsTotalOrder topic_cmp
topic_total = subst IsTotalOrder (λ i t u. topic_in_parts t u i) (then_total (on_total topic_rank nat_cmp_total) (on_total topic_text nat_list_cmp_total))

pub topic_exact : CmpEqualImpliesEq topic_cmp
topic_exact (topics.Repo a) (topics.Repo b) e = ap topics.Repo (exact_bytes a b e)
topic_exact (topics.Group a) (topics.Group b) e = ap topics.Group (exact_bytes a b e)
topic_exact topics.Whole topics.Whole e = refl
topic_exact (topics.Pattern a) (topics.Pattern b) e = ap topics.Pattern (exact_bytes a b e)
topic_exact t u e = other (ap is_eq e)

equal_is : (o : Ordering) → is_eq o ≡ true → o ≡ Equal
equal_is Less e = other e
equal_is Equal e = refl
equal_is Greater e = other e

pub same_topic_is : (t u : Topic) → same_topic t u ≡ true → t ≡ u
same_topic_is t u e = topic_exact t u (equal_is (topic_cmp t u) e)

pub same_topic_own : (t : Topic) → same_topic t t ≡ true
same_topic_own t = ap is_eq (tied_itself topic_total t)

-- ---- values

pub value_total : IsTotalOrder value_cmp
value_total = then_total (on_total value_class nat_cmp_total) (on_total value_weight (lists_total nat_list_cmp_total))

one_is : {X : Type 0} (x y : X) → x ∷ [] ≡ y ∷ [] → x ≡ y
one_is x y e = cc

level_exact : (l m : Level) → nat_cmp (distrust l) (distrust m) ≡ Equal → l ≡ m
level_exact levels.Trusted levels.Trusted e = refl
level_exact levels.Semitrusted levels.Semitrusted e = refl
level_exact levels.Untrusted levels.Untrusted e = refl
level_exact levels.Dead levels.Dead e = refl
level_exact l m e = other (ap is_eq e)

pub value_exact : CmpEqualImpliesEq value_cmp
value_exact values.Gone values.Gone e = refl
value_exact values.Absent values.Absent e = refl
value_exact values.Present values.Present e = refl
value_exact (values.Level l) (values.Level m) e =
    let weights = texts_exact (value_weight (values.Level l)) (value_weight (values.Level m)) e in
    ap values.Level (level_exact l m (same_number (distrust l) (distrust m) (one_is (distrust l) (distrust m) (one_is (distrust l ∷ []) (distrust m ∷ []) weights))))
  where
    same_number : (a b : ℕ) → a ≡ b → nat_cmp a b ≡ Equal
    same_number a b h = rw h (tied_itself nat_cmp_total b)
value_exact (values.Text t) (values.Text u) e = ap values.Text (one_is t u (texts_exact (t ∷ []) (u ∷ []) e))
value_exact (values.Groups g) (values.Groups h) e = ap values.Groups (texts_exact g h e)
value_exact (values.Number n) (values.Number m) e =
    ap values.Number (one_is n m (one_is (n ∷ []) (m ∷ []) (texts_exact ((n ∷ []) ∷ []) ((m ∷ []) ∷ []) e)))
value_exact v w e = other (ap is_eq e)

-- ---- entries

pub entry_total : IsTotalOrder entry_cmp
entry_total = then_total (on_total (λ (e : Entry). e.stamp) (options_total nat_cmp_total)) (on_total (λ (e : Entry). e.value) value_total)

stamp_exact : CmpEqualImpliesEq (option_cmp nat_cmp)
stamp_exact None None e = refl
stamp_exact (Some n) (Some m) e = ap Some (exact_unsigned n m e)
stamp_exact s t e = other (ap is_eq e)

-- entries of one topic that the order doesn't tell apart
pub entry_exact : (e f : Entry) → e.topic ≡ f.topic → entry_cmp e f ≡ Equal → e ≡ f
entry_exact e f topic same =
    let both = then_equal (option_cmp nat_cmp e.stamp f.stamp) (value_cmp e.value f.value) same in
    let stamp = stamp_exact e.stamp f.stamp both.0 in
    let value = value_exact e.value f.value both.1 in
    rw (topic, stamp, value) refl
