-- The removal with the latest decision, and what follows from it: lawful pasts are safe.
use Rattle.std.proofs.Common.{◌≡◌, ℕ, ◌≤◌, Bool, true, false, not, ◌&&◌, ◌||◌, List, [], ◌∷◌, length, Option, Some, None, ◌⊎◌, inl, inr, refl, sym, ap, ◌∙◌, subst, arith, take, reverse}
use Rattle.std.specs.Prelude.{bytes_eq, ◌==◌, nat_lt}
use Rattle.std.specs.List.{list_any}
use Rattle.std.proofs.lemmas.Bool.{true≢false, or_left, or_right, or_parts, or_from, and_from, cases_Bool}
use Rattle.std.proofs.lemmas.Bool.Decides.{nat_tests}
use Rattle.run_data.specs.declared.entry.Entry.{Entry}
use Rattle.run_data.specs.declared.run.RepoView.{RepoView}
use Rattle.run_data.specs.declared.run.Run.{Run}
use Rattle.drop_proof.specs.declared.evidence.Kind.{Kind}
use Rattle.drop_proof.specs.declared.evidence.Kind.TheVariants.{Locked, Trusted, Recent}
use Rattle.drop_proof.specs.declared.evidence.Evidence.{Evidence}
use Rattle.drop_proof.specs.declared.rule.Side.TheVariants.{Local, Remote}
use Rattle.run_data.specs.declared.entry.By.{By}
use Rattle.run_data.specs.declared.entry.By.TheVariants.{Script, Job as by_job, Peer}
use Rattle.run_data.specs.declared.entry.EntryKind.{EntryKind}
use Rattle.std.specs.Cmp.Lexicographic.{bytes_decides}
use Rattle.run_data.specs.declared.entry.EntryKind.TheVariants.{Gone}
use Rattle.run_model.specs.Past.{clock, present, decision, Decision, is_of}
use Rattle.run_model.specs.Drops.{Vouch, Lock, reply, evidence, standing, offer_from}
use Rattle.node_model.specs.Evidence.{Gives, is_trusted}
use Rattle.drop_proof.specs.Judging.{counts}
use Rattle.run_model.specs.Safety.{Removal, removal, removals, add_removal, smaller, least_need, trusts, claim, count, within, stands, all_stand, is_backed, is_gone, has_enough, is_rightful, IsSafe, past_at}
use Rattle.annex_base.specs.Lists.{Each, Member}
use Rattle.annex_base.proofs.Lists.{Each-both, Each-weaker, Each-member, list_any_member, list_all-from_Each}
use Rattle.annex_base.proofs.Conditions.{eqb_refl}
use Rattle.annex_base.proofs.Pasts.{past_before}
use Rattle.past_facts.specs.Lawful.{IsLawfulEntry, IsLawfulPast, IsLawful, FoundRemote, IsFresh}
use Rattle.past_facts.proofs.Gather.{evidence_each, never_target, offer_locked}
use Rattle.past_facts.proofs.Changes.{removal_is, order_is, present_stays, same_repo, removal_was, Removes, Obeys, reply_vouched}
use Rattle.past_facts.proofs.Facts.{is_later, ItemOk, RemovalOk, Facts, LocalDrop, local_drop, lock_there, remote_lock, obeyed, facts_start, facts_kept}

-- no removal of the list decided later
abbrev pub None_later : ℕ → List Removal → Type 0
None_later place xs = list_any (is_later place) xs ≡ false

later_down : (p q : ℕ) → p ≤ q → (xs : List Removal) → None_later p xs → None_later q xs
later_down p q le [] h = refl
later_down p q le (x ∷ xs) h =
    let w = or_parts (is_later p x) (list_any (is_later p) xs) h in
    let first : is_later p x ≡ false = w.0 in
    let it : is_later q x ≡ false = grind (arith, nat_tests) in
    or_from (is_later q x) (list_any (is_later q) xs) it (later_down p q le xs w.1)

pub record Latest (xs : List Removal) : Type 0 where
  pub it : Removal
  pub among : Member it xs
  pub last : None_later it.decision xs

pub latest : (x : Removal) (xs : List Removal) → Latest (x ∷ xs)
latest x [] = record { it = x; among = inl refl; last = grind (arith, nat_tests) }
latest x (y ∷ ys) = go (latest y ys)
  where
    go : Latest (y ∷ ys) → Latest (x ∷ y ∷ ys)
    go w = pick (nat_lt w.it.decision x.decision) refl
      where
        pick : (b : Bool) → nat_lt w.it.decision x.decision ≡ b → Latest (x ∷ y ∷ ys)
        pick true e = record {
          it = x;
          among = inl refl;
          last = or_from (is_later x.decision x) (list_any (is_later x.decision) (y ∷ ys)) (grind (arith, nat_tests)) (later_down w.it.decision x.decision (grind (arith, nat_tests)) (y ∷ ys) w.last);
        }
        pick false e = record { it = w.it; among = inr w.among; last = or_from (is_later w.it.decision x) (list_any (is_later w.it.decision) (y ∷ ys)) e w.last }

no_least : (y : Removal) (xs : List Removal) → Member y xs → least_need xs ≡ None → ⊥
no_least y [] k h = k
no_least y (x ∷ xs) k h = cc

pub least_least : (y : Removal) (xs : List Removal) (m : ℕ) → Member y xs → least_need xs ≡ Some m → m ≤ y.need.m
least_least y [] m k h = absurd k
least_least y (x ∷ xs) m k h = subst (λ l. l ≤ y.need.m) is (go (λ l w f. least_least y xs l w f) k (least_need xs) refl)
  where
    is : smaller x.need.m (least_need xs) ≡ m
    is = cc

    go : ((l : ℕ) → Member y xs → least_need xs ≡ Some l → l ≤ y.need.m) → (y ≡ x) ⊎ Member y xs → (o : Option ℕ) → least_need xs ≡ o → smaller x.need.m o ≤ y.need.m
    go ih (inl e) None f = let same : x.need.m ≡ y.need.m = ap (λ z. z.need.m) (sym e) in omega arith
    go ih (inl e) (Some l) f = let same : x.need.m ≡ y.need.m = ap (λ z. z.need.m) (sym e) in omega arith
    go ih (inr w) (Some l) f = omega (arith, ih l w f)
    go ih (inr w) None f = absurd (no_least y xs w f)

-- each trusted item is seen as one
trusts_each : (items : List Evidence) → Each (λ i. is_trusted i.kind ≡ true → list_any (λ k. (k.repo == i.repo) && is_trusted k.kind) items ≡ true) items
trusts_each [] = tt
trusts_each (i ∷ items) = (
  λ t. or_left _ _ (and_from (i.repo == i.repo) (is_trusted i.kind) (eqb_refl i.repo) t),
  Each-weaker _ (λ k. is_trusted k.kind ≡ true → list_any (λ l. (l.repo == k.repo) && is_trusted l.kind) (i ∷ items) ≡ true) (λ k h t. or_right _ _ (h t)) items (trusts_each items),
)

-- the copies and claims are no fewer than what the latest removal's drop needed
latest_counts : (repos : List RepoView) (past : List Entry) (key : List ℕ) → Facts repos past → (w : Latest (removals repos past key)) → w.it.need.m ≤ count repos past key
latest_counts repos past key f w = x.counted (λ r. present past r key || claim repos past r key) all
  where
    x : RemovalOk repos past key w.it
    x = Each-member (RemovalOk repos past key) (removals repos past key) w.it (f.removed key) w.among

    one : (i : Evidence) → ItemOk repos past key w.it.side w.it.decision i → (is_trusted i.kind ≡ true → trusts i.repo w.it ≡ true) → counts w.it.side i ≡ true → (present past i.repo key || claim repos past i.repo key) ≡ true
    one i ok t c = elim (cases_Bool (is_trusted i.kind)) [
      | inl s ↦ or_right (present past i.repo key) (claim repos past i.repo key) (list_any_member (trusts i.repo) (removals repos past key) w.it w.among (t s))
      | inr s ↦ elim ((ok c s).copy) [ inl k ↦ or_left (present past i.repo key) (claim repos past i.repo key) k | inr k ↦ absurd (true≢false (sym k ∙ w.last)) ]
    ]

    all : Each (λ i. counts w.it.side i ≡ true → (present past i.repo key || claim repos past i.repo key) ≡ true) w.it.items
    all = Each-both _ _ _ one w.it.items x.items (trusts_each w.it.items)

pub enough_left : (repos : List RepoView) (past : List Entry) (key : List ℕ) → Facts repos past → within (least_need (removals repos past key)) (count repos past key) ≡ true
enough_left repos past key f = go (removals repos past key) refl
  where
    go : (xs : List Removal) → removals repos past key ≡ xs → within (least_need xs) (count repos past key) ≡ true
    go [] e = refl
    go (x ∷ xs) e =
        let w : Latest (removals repos past key) = subst Latest (sym e) (latest x xs) in
        let le = latest_counts repos past key f w in
        let small = least_least w.it (x ∷ xs) (smaller x.need.m (least_need xs)) (subst (λ ys. Member w.it ys) e w.among) refl in
        grind (arith, nat_tests)

-- ---- the second part: a removal leaves what its drop's evidence stands for

-- another repository's copy is not taken away by it
still_there : (e : Entry) (past : List Entry) (r c : ℕ) (key : List ℕ) → is_of r e ≡ true → not (c == r) ≡ true → present past c key ≡ true → present (e ∷ past) c key ≡ true
still_there e past r c key is other h = elim (present_stays e past c key h) [
  | inl s ↦ s
  | inr t ↦ let same : c ≡ r = same_repo e c r t.repo_is is in absurd (true≢false (sym (subst (λ x. not (x == r) ≡ true) same other) ∙ ap not (eqb_refl r)))
]

-- each locked item has its copy
abbrev CopyStands : List Entry → List ℕ → Evidence → Type 0
CopyStands past key i = (end : ℕ) → i.kind ≡ Locked end → present past i.repo key ≡ true

local_copies : (repos : List RepoView) (past : List Entry) (e : Entry) → Facts repos past → IsLawfulEntry repos past e → (r j : ℕ) (key : List ℕ) (d : Decision) → is_of r e ≡ true → decision past r j ≡ Some d
    → LocalDrop repos past r j e.time key d → Each (CopyStands (e ∷ past) key) (evidence Local repos past r j r d.need)
local_copies repos past e f law r j key d is at w =
    Each-both _ _ (CopyStands (e ∷ past) key) (λ i h k. h k) (evidence Local repos past r j r d.need)
    (evidence_each (λ i. IsFresh past r j e.time i → CopyStands (e ∷ past) key i) (λ c. not (c == r) ≡ true) Local repos past r j r d.need item (never_target Local (length repos) r r refl))
    w.in_time.ends
  where
    item : (c : ℕ) (kind : Kind) → not (c == r) ≡ true → offer_from repos past r j c ≡ Gives kind → IsFresh past r j e.time (record { repo = c; kind = kind }) → CopyStands (e ∷ past) key (record { repo = c; kind = kind })
    item c kind other g lt end k =
        let o = offer_locked (clock repos past r) (standing repos past r j c) (reply past r j c) end (g ∙ ap (λ x. Gives x) k) in
        let v : Vouch = Lock o.0 o.1 o.2.0 o.2.1.0 in
        let told : reply past r j c ≡ Some v = o.2.1.1 in
        let row = lock_there repos past e f law c r j o.0 o.1 o.2.0 o.2.1.0 (reply_vouched past r j c v told) w.open' (lt end o.0 o.1 o.2.0 o.2.1.0 k told) in
        still_there e past r c key is other (subst (λ l. present past c l ≡ true) (w.in_time.keys c v told) row.there)

remote_copies : (repos : List RepoView) (past : List Entry) (e : Entry) → Facts repos past → IsLawfulEntry repos past e → (r a : ℕ) (key : List ℕ) → is_of r e ≡ true
    → (w : FoundRemote repos past e r a key) → Each (CopyStands (e ∷ past) key) (evidence Remote repos w.s.before a w.j r w.need)
remote_copies repos past e f law r a key is w =
    Each-both _ _ (CopyStands (e ∷ past) key) (λ i h k. h k) (evidence Remote repos w.s.before a w.j r w.need)
    (evidence_each (λ i. IsFresh w.s.before a w.j e.time i → CopyStands (e ∷ past) key i) (λ c. not (c == r) ≡ true) Remote repos w.s.before a w.j r w.need item (never_target Remote (length repos) a r w.other))
    w.in_time.ends
  where
    item : (c : ℕ) (kind : Kind) → not (c == r) ≡ true → offer_from repos w.s.before a w.j c ≡ Gives kind → IsFresh w.s.before a w.j e.time (record { repo = c; kind = kind }) → CopyStands (e ∷ past) key (record { repo = c; kind = kind })
    item c kind other g lt end k = still_there e past r c key is other (remote_lock repos past e f law r a key w c end (g ∙ ap (λ x. Gives x) k) (λ x hold since owner l q h. lt end hold since owner l k h)).there

-- copies and claims make the items stand
stands_one : (repos : List RepoView) (past : List Entry) (key : List ℕ) (x : Removal) → Member x (removals repos past key) → (i : Evidence)
    → CopyStands past key i → (is_trusted i.kind ≡ true → trusts i.repo x ≡ true) → stands repos past key i ≡ true
stands_one repos past key x m i c t = go i.kind refl
  where
    go : (kind : Kind) → i.kind ≡ kind → stands repos past key i ≡ true
    go (Locked end) h = rw h (c end h)
    go Trusted h = rw h (list_any_member (trusts i.repo) (removals repos past key) x m (t (rw h refl)))
    go Recent h = rw h refl

kept : (repos : List RepoView) (past : List Entry) (e : Entry) (key : List ℕ) → Facts repos past → IsLawfulEntry repos past e → is_backed repos (e ∷ past) key ≡ true
kept repos past e key f law = go (removal repos past key e) refl
  where
    copies : (x : Removal) → Removes repos e past key x ⊎ Obeys repos e past key x → Each (CopyStands (e ∷ past) key) x.items
    copies x (inl t) = subst (λ (y : Removal). Each (CopyStands (e ∷ past) key) y.items) (sym t.is)
        (local_copies repos past e f law t.r t.j key t.d t.repo_is t.decided_is (local_drop repos past e law t.r t.j key t.d t.repo_is t.kind_is t.decided_is))
    copies x (inr t) = let w = obeyed repos past e law key x t in
        subst (λ (y : Removal). Each (CopyStands (e ∷ past) key) y.items) (sym w.1) (remote_copies repos past e f law t.r t.a key t.repo_is w.0)

    go : (o : Option Removal) → removal repos past key e ≡ o → all_stand repos (e ∷ past) key o ≡ true
    go None h = refl
    go (Some x) h =
        let m : Member x (removals repos (e ∷ past) key) = subst (λ o. Member x (add_removal o (removals repos past key))) (sym h) (inl refl) in
        list_all-from_Each (stands repos (e ∷ past) key) x.items
        (Each-both _ _ _ (λ i. stands_one repos (e ∷ past) key x m i) x.items (copies x (removal_was repos e past key x h)) (trusts_each x.items))

-- each removal is a drop's, and its evidence was enough
drop_owned : (repos : List RepoView) (past : List Entry) (e : Entry) → IsLawfulEntry repos past e → (key : List ℕ) → is_rightful repos (e ∷ past) key ≡ true
drop_owned repos past e law key = go e.kind refl
  where
    case : (by : By) → e.kind ≡ Gone by key → (r : ℕ) → is_of r e ≡ true → has_enough (removal repos past key e) ≡ true
    case Script kind r is = absurd (law.drops key kind)
    case (by_job j) kind r is = let w = law.removes r j key is kind in rw (removal_is repos e past r j key w.d is kind w.decided_is w.key_is) w.enough
    case (Peer a slot) kind r is = let w = law.obeys r a slot key is kind in rw (order_is repos e past r a slot w.j w.deadline w.need key w.s is kind w.sent_is w.from_a w.kind_is) w.enough

    gone : (by : By) (k : List ℕ) (same : Bool) → bytes_eq k key ≡ same → e.kind ≡ Gone by k → (not same || has_enough (removal repos past key e)) ≡ true
    gone by k false h kind = refl
    gone by k true h kind =
        let same : k ≡ key = (bytes_decides k key).0 h in
        let kind' : e.kind ≡ Gone by key = kind ∙ ap (λ x. Gone by x) same in
        let at = law.repo key by kind' in case by kind' at.0 at.1

    go : (kind : EntryKind) → e.kind ≡ kind → (not (is_gone key kind) || has_enough (removal repos past key e)) ≡ true
    go (Gone by k) h = gone by k (bytes_eq k key) refl h
    go _ h = refl

owned_of : (repos : List RepoView) (past : List Entry) (key : List ℕ) → IsLawfulPast repos past → is_rightful repos past key ≡ true
owned_of repos [] key h = refl
owned_of repos (e ∷ past) key h = drop_owned repos past e h.0 key

-- ---- whole runs

pub facts_of : (repos : List RepoView) (past : List Entry) → IsLawfulPast repos past → Facts repos past
facts_of repos [] h = facts_start repos
facts_of repos (e ∷ past) h = facts_kept repos past e (facts_of repos past h.1) h.0

backed_of : (repos : List RepoView) (past : List Entry) (key : List ℕ) → IsLawfulPast repos past → is_backed repos past key ≡ true
backed_of repos [] key h = refl
backed_of repos (e ∷ past) key h = kept repos past e key (facts_of repos past h.1) h.0

pub lawful_at : (repos : List RepoView) (place : ℕ) (entries : List Entry) → IsLawfulPast repos (reverse entries) → IsLawfulPast repos (reverse (take place entries))
lawful_at repos place entries h = past_before (IsLawfulPast repos) (λ e past k. k.1) place entries h

pub lawful_safe : (run : Run) → IsLawful run → IsSafe run
lawful_safe run h = record {
  enough = λ key place. enough_left run.repos (past_at run place) key (facts_of run.repos (past_at run place) (lawful_at run.repos place run.entries h.steps));
  drops = λ key place. owned_of run.repos (past_at run place) key (lawful_at run.repos place run.entries h.steps);
  kept = λ key place. backed_of run.repos (past_at run place) key (lawful_at run.repos place run.entries h.steps);
}
