-- The newer of two entries: which it is, and that of three it doesn't matter which two come first.
use Rattle.std.proofs.Common.{◌≡◌, true, false, ◌||◌, if◌then◌else◌, Option, Some, None, refl, sym, ap, ◌∙◌}
use Rattle.std.specs.declared.cmp.Ordering.{Ordering}
use Rattle.std.specs.declared.cmp.Ordering.TheVariants.{Less, Equal, Greater}
use Rattle.std.specs.Ordering.{is_lt, is_gt, ordering_reverse}
use Rattle.std.specs.Cmp.{IsTotalOrder}
use Rattle.std.proofs.lemmas.Cmp.{upto}
use Rattle.annex_base.proofs.Conditions.{by_test}
use Rattle.annex_base.proofs.Numbers.{is_lt_true}
use Rattle.log_grammar.specs.declared.entry.Topic.{Topic}
use Rattle.log_grammar.specs.declared.entry.Entry.{Entry}
use Rattle.log_lines.specs.Newest.{same_topic, entry_cmp, newer}
use Rattle.log_lines.specs.Latest.{said_of, newer_of}
use Rattle.log_grammar.proofs.EqualLemmas.{other}
use Rattle.log_lines.proofs.OrderLemmas.{entry_total, entry_exact, same_topic_own}

gt_reverse : (o : Ordering) → is_gt (ordering_reverse o) ≡ is_lt o
gt_reverse Less = refl
gt_reverse Equal = refl
gt_reverse Greater = refl

neither : (o : Ordering) → is_lt o ≡ false → is_gt o ≡ false → o ≡ Equal
neither Less e f = other (sym e)
neither Equal e f = refl
neither Greater e f = other (sym f)

-- ---- the greater of two under any total order

module _ {K : Type 0} {R : K → K → Ordering} (o : IsTotalOrder R) where
  lt_trans : (x y z : K) → is_lt (R x y) ≡ true → is_lt (R y z) ≡ true → is_lt (R x z) ≡ true
  lt_trans x y z a b = ap is_lt (o.trans x y z (is_lt_true (R x y) a) (is_lt_true (R y z) b))

  gt_is : (x y : K) → is_gt (R x y) ≡ is_lt (R y x)
  gt_is x y = ap is_gt (o.antisymm x y) ∙ gt_reverse (R y x)

  not_lt_trans : (x y z : K) → is_lt (R x y) ≡ false → is_lt (R y z) ≡ false → is_lt (R x z) ≡ false
  not_lt_trans x y z a b = sym (gt_is z x) ∙ upto o z y x (gt_is z y ∙ b) (gt_is y x ∙ a)

  not_lt_own : (x : K) → is_lt (R x x) ≡ false
  not_lt_own x = by_test (is_lt (R x x)) (λ a. other (sym (sym a ∙ sym (gt_is x x) ∙ ap is_gt (is_lt_true (R x x) a)))) (λ a. a)

  not_lt_both : (x y : K) → is_lt (R x y) ≡ false → is_lt (R y x) ≡ false → R x y ≡ Equal
  not_lt_both x y a b = neither (R x y) a (gt_is x y ∙ b)

  abbrev greater : K → K → K
  greater x y = if is_lt (R x y) then y else x

  greater_assoc : (x y z : K) → greater (greater x y) z ≡ greater x (greater y z)
  greater_assoc x y z =
      by_test (is_lt (R x y))
      (λ a. by_test (is_lt (R y z)) (λ b. rw (a, b, lt_trans x y z a b) refl) (λ b. rw (a, b, a) refl))
      (λ a. by_test (is_lt (R y z)) (λ b. rw (a, b) refl) (λ b. rw (a, b, not_lt_trans x y z a b, a) refl))

  -- below the greater of two exactly where it is below one of them
  lt_greater : (x y z : K) → is_lt (R x (greater y z)) ≡ is_lt (R x y) || is_lt (R x z)
  lt_greater x y z =
      by_test (is_lt (R y z))
      (λ b. by_test (is_lt (R x y)) (λ a. rw (b, a, lt_trans x y z a b) refl) (λ a. rw (b, a) refl))
      (λ b. by_test (is_lt (R x y)) (λ a. rw (b, a) refl) (λ a. rw (b, a, not_lt_trans x y z a b) refl))

  -- the greater of two is below neither
  greater_first : (x y : K) → is_lt (R (greater x y) x) ≡ false
  greater_first x y =
      by_test (is_lt (R x y))
      (λ a. rw a (sym (gt_is x y) ∙ ap is_gt (is_lt_true (R x y) a)))
      (λ a. rw a (not_lt_own x))

  greater_second : (x y : K) → is_lt (R (greater x y) y) ≡ false
  greater_second x y = by_test (is_lt (R x y)) (λ a. rw a (not_lt_own y)) (λ a. rw (a, a) refl)

-- ---- the newer of two entries

pub newer_assoc : (e f g : Entry) → newer (newer e f) g ≡ newer e (newer f g)
newer_assoc e f g = greater_assoc entry_total e f g

pub newer_later : (e f : Entry) → is_lt (entry_cmp e f) ≡ true → newer e f ≡ f
newer_later e f a = rw a refl

pub newer_stays : (e f : Entry) → is_lt (entry_cmp e f) ≡ false → newer e f ≡ e
newer_stays e f a = rw a refl

pub newer_topic : (e f : Entry) (t : Topic) → e.topic ≡ t → f.topic ≡ t → (newer e f).topic ≡ t
newer_topic e f t a b = by_test (is_lt (entry_cmp e f)) (λ h. ap (λ (x : Entry). x.topic) (newer_later e f h) ∙ b) (λ h. ap (λ (x : Entry). x.topic) (newer_stays e f h) ∙ a)

-- entries of one topic of which neither is older
pub tied_is : (e f : Entry) → e.topic ≡ f.topic → is_lt (entry_cmp e f) ≡ false → is_lt (entry_cmp f e) ≡ false → e ≡ f
tied_is e f topic a b = entry_exact e f topic (not_lt_both entry_total e f a b)

pub newer_not_before : (e f : Entry) → is_lt (entry_cmp (newer e f) e) ≡ false
newer_not_before e f = greater_first entry_total e f

pub newer_not_after : (e f : Entry) → is_lt (entry_cmp (newer e f) f) ≡ false
newer_not_after e f = greater_second entry_total e f

pub not_lt_through : (e f g : Entry) → is_lt (entry_cmp e f) ≡ false → is_lt (entry_cmp f g) ≡ false → is_lt (entry_cmp e g) ≡ false
not_lt_through e f g a b = not_lt_trans entry_total e f g a b

pub lt_newer : (e f g : Entry) → is_lt (entry_cmp e (newer f g)) ≡ is_lt (entry_cmp e f) || is_lt (entry_cmp e g)
lt_newer e f g = lt_greater entry_total e f g

-- ---- where there may be none

pub newer_of_assoc : (a b c : Option Entry) → newer_of (newer_of a b) c ≡ newer_of a (newer_of b c)
newer_of_assoc None b c = refl
newer_of_assoc (Some e) None c = refl
newer_of_assoc (Some e) (Some f) None = refl
newer_of_assoc (Some e) (Some f) (Some g) = ap Some (newer_assoc e f g)

pub newer_of_none : (a : Option Entry) → newer_of a None ≡ a
newer_of_none None = refl
newer_of_none (Some e) = refl

-- the entry speaks of the topic, or the option has none
pub said_same : (t : Topic) (e : Entry) → t ≡ e.topic → said_of t (Some e) ≡ Some e
said_same t e h = let same : same_topic t e.topic ≡ true = ap (λ u. same_topic u e.topic) h ∙ same_topic_own e.topic in rw same refl

pub said_other : (t : Topic) (e : Entry) → same_topic t e.topic ≡ false → said_of t (Some e) ≡ None
said_other t e h = rw h refl

pub said_when : (t : Topic) (e : Entry) → same_topic t e.topic ≡ true → said_of t (Some e) ≡ Some e
said_when t e h = rw h refl
