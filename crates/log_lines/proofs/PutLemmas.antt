-- Entries in order of topic, and one more of them.
use Rattle.std.proofs.Common.{inl, inr, ◌≡◌, ◌↔◌, true, false, List, [], ◌∷◌, map, Option, Some, None, refl, sym, ap, subst, ◌∙◌}
use Rattle.std.specs.declared.cmp.Ordering.TheVariants.{Less, Greater}
use Rattle.std.specs.Ordering.{is_eq, is_lt, ordering_reverse}
use Rattle.std.specs.List.{AllByRecursion}
use Rattle.std.specs.List.Sorted.{IsStrictlySortedBy}
use Rattle.std.proofs.lemmas.Cmp.{tied_itself}
use Rattle.std.proofs.lemmas.Option.{same_Some}
use Rattle.annex_base.specs.Lists.{Member}
use Rattle.annex_base.proofs.Conditions.{by_test}
use Rattle.annex_base.proofs.TextOrder.{by_order}
use Rattle.log_grammar.specs.declared.entry.Topic.{Topic}
use Rattle.log_grammar.specs.declared.entry.Entry.{Entry}
use Rattle.log_lines.specs.Newest.{topic_cmp, same_topic, newer, with_entry, with_entry_if, entry_at}
use Rattle.log_lines.specs.Latest.{said_of, newer_of}
use Rattle.log_grammar.proofs.EqualLemmas.{other}
use Rattle.log_lines.proofs.OrderLemmas.{topic_total, topic_exact, same_topic_is, same_topic_own}
use Rattle.log_lines.proofs.NewerLemmas.{newer_topic, newer_of_none}

-- the topics rise
abbrev pub IsRising : List Entry → Type 0
IsRising es = IsStrictlySortedBy topic_cmp (map (λ e. e.topic) es)

-- each topic is past this one
abbrev pub ArePast : Topic → List Entry → Type 0
ArePast t es = AllByRecursion (λ u. topic_cmp t u ≡ Less) (map (λ e. e.topic) es)

pub rising_parts : (e : Entry) (es : List Entry) → IsRising (e ∷ es) → ArePast e.topic es × IsRising es
unfolding IsStrictlySortedBy
rising_parts e es h = h

pub parts_rising : (e : Entry) (es : List Entry) → ArePast e.topic es → IsRising es → IsRising (e ∷ es)
unfolding IsStrictlySortedBy
parts_rising e es past h = (past, h)

pub none_rising : IsRising []
unfolding IsStrictlySortedBy
none_rising = tt

not_same : (t u : Topic) → topic_cmp t u ≡ Less → same_topic t u ≡ false
not_same t u h = ap is_eq h

turned : (t u : Topic) → topic_cmp t u ≡ Greater → topic_cmp u t ≡ Less
turned t u h = topic_total.antisymm u t ∙ ap ordering_reverse h

pub past_further : (t u : Topic) (es : List Entry) → topic_cmp t u ≡ Less → ArePast u es → ArePast t es
past_further t u [] h past = tt
past_further t u (e ∷ es) h past = (topic_total.trans t u e.topic h past.0, past_further t u es h past.1)

past_member : (t : Topic) (es : List Entry) (e : Entry) → ArePast t es → Member e es → topic_cmp t e.topic ≡ Less
past_member t [] e past among = absurd among
past_member t (x ∷ xs) e past (inl is) = ap (λ (y : Entry). topic_cmp t y.topic) is ∙ past.0
past_member t (x ∷ xs) e past (inr among) = past_member t xs e past.1 among

-- ---- a topic that all are past has no entry

past_none : (t : Topic) (es : List Entry) → ArePast t es → entry_at es t ≡ None
past_none t [] past = refl
past_none t (e ∷ es) past = let apart = not_same t e.topic past.0 in rw apart (past_none t es past.1)

-- ---- the topics still rise with one more entry

put_past : (t : Topic) (es : List Entry) (e : Entry) → topic_cmp t e.topic ≡ Less → ArePast t es → ArePast t (with_entry es e)
put_past t [] e h past = (h, tt)
put_past t (x ∷ xs) e h past =
    by_order (topic_cmp e.topic x.topic)
    (λ o. rw o (h, past))
    (λ o. rw o (ap (topic_cmp t) (newer_topic x e x.topic refl (topic_exact e.topic x.topic o)) ∙ past.0, past.1))
    (λ o. rw o (past.0, put_past t xs e h past.1))

pub put_rising : (es : List Entry) (e : Entry) → IsRising es → IsRising (with_entry es e)
put_rising [] e h = parts_rising e [] tt none_rising
put_rising (x ∷ xs) e h =
    let parts = rising_parts x xs h in
    by_order (topic_cmp e.topic x.topic)
    (λ o. rw o (parts_rising e (x ∷ xs) (o, past_further e.topic x.topic xs o parts.0) h))
    (λ o. rw o (parts_rising (newer x e) xs (subst (λ t. ArePast t xs) (sym (newer_topic x e x.topic refl (topic_exact e.topic x.topic o))) parts.0) parts.1))
    (λ o. rw o (parts_rising x (with_entry xs e) (put_past x.topic xs e (turned e.topic x.topic o) parts.0) (put_rising xs e parts.1)))

pub put_if_rising : (es : List Entry) (o : Option Entry) → IsRising es → IsRising (with_entry_if es o)
put_if_rising es None h = h
put_if_rising es (Some e) h = put_rising es e h

-- ---- the entry of each topic with one more entry

put_before : (t : Topic) (es : List Entry) (e : Entry) → ArePast e.topic es → entry_at (e ∷ es) t ≡ newer_of (entry_at es t) (said_of t (Some e))
put_before t es e past =
    by_test (same_topic t e.topic)
    (λ s.
    let none : entry_at es t ≡ None = ap (entry_at es) (same_topic_is t e.topic s) ∙ past_none e.topic es past in
    rw (s, none) refl)
    (λ s. rw s (sym (newer_of_none (entry_at es t))))

put_over : (t : Topic) (x : Entry) (xs : List Entry) (e : Entry) → e.topic ≡ x.topic → entry_at (newer x e ∷ xs) t ≡ newer_of (entry_at (x ∷ xs) t) (said_of t (Some e))
put_over t x xs e is =
    let topic = newer_topic x e x.topic refl is in
    by_test (same_topic t x.topic)
    (λ s.
    let new : same_topic t (newer x e).topic ≡ true = ap (same_topic t) topic ∙ s in
    let own : same_topic t e.topic ≡ true = ap (same_topic t) is ∙ s in
    rw (new, s, own) refl)
    (λ s.
    let new : same_topic t (newer x e).topic ≡ false = ap (same_topic t) topic ∙ s in
    let own : same_topic t e.topic ≡ false = ap (same_topic t) is ∙ s in
    rw (new, s, own) (sym (newer_of_none (entry_at xs t))))

put_after : (t : Topic) (x : Entry) (xs rest : List Entry) (e : Entry) → topic_cmp e.topic x.topic ≡ Greater → entry_at rest t ≡ newer_of (entry_at xs t) (said_of t (Some e)) → entry_at (x ∷ rest) t ≡ newer_of (entry_at (x ∷ xs) t) (said_of t (Some e))
put_after t x xs rest e o after =
    by_test (same_topic t x.topic)
    (λ s.
    let apart : same_topic t e.topic ≡ false = ap (λ u. same_topic u e.topic) (same_topic_is t x.topic s) ∙ not_same x.topic e.topic (turned e.topic x.topic o) in
    rw (s, apart) refl)
    (λ s. rw s after)

pub put_at : (es : List Entry) (e : Entry) (t : Topic) → IsRising es → entry_at (with_entry es e) t ≡ newer_of (entry_at es t) (said_of t (Some e))
put_at [] e t h = refl
put_at (x ∷ xs) e t h =
    let parts = rising_parts x xs h in
    by_order (topic_cmp e.topic x.topic)
    (λ o. rw o (put_before t (x ∷ xs) e (o, past_further e.topic x.topic xs o parts.0)))
    (λ o. rw o (put_over t x xs e (topic_exact e.topic x.topic o)))
    (λ o. rw o (put_after t x xs (with_entry xs e) e o (put_at xs e t parts.1)))

-- ---- members

pub at_member : (es : List Entry) (t : Topic) (e : Entry) → entry_at es t ≡ Some e → Member e es × (t ≡ e.topic)
at_member [] t e h = absurd cc
at_member (x ∷ xs) t e h =
    by_test (same_topic t x.topic)
    (λ s.
    let is : x ≡ e = same_Some x e (rw s at h) in
    (inl (sym is), same_topic_is t x.topic s ∙ ap (λ (y : Entry). y.topic) is))
    (λ s. let rest = at_member xs t e (rw s at h) in (inr rest.0, rest.1))

pub member_at : (es : List Entry) (e : Entry) → IsRising es → Member e es → entry_at es e.topic ≡ Some e
member_at [] e h among = absurd among
member_at (x ∷ xs) e h (inl is) =
    let same : same_topic e.topic x.topic ≡ true = ap (λ (y : Entry). same_topic e.topic y.topic) (sym is) ∙ same_topic_own e.topic in
    rw same (ap Some (sym is))
member_at (x ∷ xs) e h (inr among) =
    let parts = rising_parts x xs h in
    let below = past_member x.topic xs e parts.0 among in
    let apart : same_topic e.topic x.topic ≡ false = ap is_eq (topic_total.antisymm e.topic x.topic ∙ ap ordering_reverse below) in
    rw apart (member_at xs e parts.1 among)

pub found_by_topic : (es : List Entry) (topic : Topic) (e : Entry) → IsRising es → (entry_at es topic ≡ Some e) ↔ (Member e es × (e.topic ≡ topic))
found_by_topic es topic e rising = (
  λ found. let is = at_member es topic e found in (is.0, sym is.1),
  λ is. subst (λ (t : Topic). entry_at es t ≡ Some e) is.1 (member_at es e rising is.0),
)

-- two lists in order with the same members are the same
pub rising_same : (xs ys : List Entry) → IsRising xs → IsRising ys → ((e : Entry) → Member e xs → Member e ys) → ((e : Entry) → Member e ys → Member e xs) → xs ≡ ys
rising_same [] [] p q f g = refl
rising_same [] (y ∷ ys) p q f g = absurd (g y (inl refl))
rising_same (x ∷ xs) [] p q f g = absurd (f x (inl refl))
rising_same (x ∷ xs) (y ∷ ys) p q f g =
    let first = rising_parts x xs p in
    let second = rising_parts y ys q in
    let head = heads x xs y ys first.0 second.0 (f x (inl refl)) (g y (inl refl)) in
    let tail = rising_same xs ys first.1 second.1
    (λ e among. later y e ys (subst (λ z. topic_cmp z.topic e.topic ≡ Less) head (past_member x.topic xs e first.0 among)) (f e (inr among)))
    (λ e among. later x e xs (subst (λ z. topic_cmp z.topic e.topic ≡ Less) (sym head) (past_member y.topic ys e second.0 among)) (g e (inr among))) in
    rw (head, tail) refl
  where
    later : (y e : Entry) (ys : List Entry) → topic_cmp y.topic e.topic ≡ Less → Member e (y ∷ ys) → Member e ys
    later y e ys below (inl is) = other (ap is_lt (sym (tied_itself topic_total y.topic)) ∙ ap (λ (z : Entry). is_lt (topic_cmp y.topic z.topic)) (sym is) ∙ ap is_lt below)
    later y e ys below (inr among) = among

    heads : (x : Entry) (xs : List Entry) (y : Entry) (ys : List Entry) → ArePast x.topic xs → ArePast y.topic ys → Member x (y ∷ ys) → Member y (x ∷ xs) → x ≡ y
    heads x xs y ys p q (inl is) m = is
    heads x xs y ys p q (inr m) (inl is) = sym is
    heads x xs y ys p q (inr m) (inr n) =
        let down = past_member y.topic ys x q m in
        let up = past_member x.topic xs y p n in
        other (sym (ap is_lt (topic_total.antisymm x.topic y.topic ∙ ap ordering_reverse down)) ∙ ap is_lt up)
