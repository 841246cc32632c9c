-- What the candidates of a drop give.
use Rattle.node_model.specs.Clocks.{hold_time}
use Rattle.std.proofs.Common.{◌≡◌, ℕ, ◌+◌, ◌<◌, ◌≤◌, Bool, true, false, not, cond, List, [], ◌∷◌, ◌++◌, length, Option, Some, None, ◌⊎◌, inl, inr, refl, sym, ap, ◌∙◌, subst, arith}
use Rattle.std.specs.Prelude.{◌≢◌, ◌==◌, count_by, max, nat_le, if◌then◌else◌}
use Rattle.std.specs.List.{range_with_len}
use Rattle.std.proofs.lemmas.Bool.{true≢false, and_parts, cases_Bool, eqb-true}
use Rattle.std.proofs.lemmas.Bool.Decides.{nat_tests}
use Rattle.std.proofs.lemmas.List.Sums.{sum_by_push}
use Rattle.drop_proof.specs.declared.rule.Need.{Need}
use Rattle.run_data.specs.declared.entry.By.{By}
use Rattle.drop_proof.specs.declared.evidence.Kind.{Kind}
use Rattle.drop_proof.specs.declared.evidence.Kind.TheVariants.{Locked, Recent}
use Rattle.drop_proof.specs.declared.evidence.Evidence.{Evidence}
use Rattle.drop_proof.specs.declared.rule.Side.{Side}
use Rattle.drop_proof.specs.declared.rule.Side.TheVariants.{Local, Remote}
use Rattle.run_data.specs.declared.entry.Entry.{Entry}
use Rattle.run_data.specs.declared.run.RepoView.{RepoView}
use Rattle.run_model.specs.Drops.{Vouch, Lock, Look, offer, vouch_offer, offer_from, waits, evidence}
use Rattle.node_model.specs.Evidence.{Standing, Claimed, Ignored, Asked, Offer, Gives, Fails, pick, gather, but, candidates, reached_candidates}
use Rattle.drop_proof.specs.Judging.{is_enough, counts}
use Rattle.annex_base.specs.Lists.{Each, Member}
use Rattle.annex_base.proofs.Lists.{Each-append, Each-left, Each-right, Each-passes}
use Rattle.annex_base.proofs.Conditions.{eqb_refl}
use Rattle.annex_base.proofs.Numbers.{Member-range}
use Rattle.past_facts.proofs.Lists.{count_by-yes, count_by-tail, count_by-filter, count_by-cons}

abbrev pub MatchSide : Side → Type 0 → Type 0 → Type 0
MatchSide Local P Q = P
MatchSide Remote P Q = Q

-- what holds of each item that a candidate may give holds of each that was gathered
pub gather_each : (P : Evidence → Type 0) (C : ℕ → Type 0) (side : Side) (need : Need) (ask : ℕ → Offer)
    → ((c : ℕ) (kind : Kind) → C c → ask c ≡ Gives kind → P (record { repo = c; kind = kind }))
    → (cs : List ℕ) (items : List Evidence) → Each C cs → Each P items → Each P (gather side need ask cs items)
gather_each P C side need ask f [] items cok h = h
gather_each P C side need ask f (c ∷ cs) items cok h =
    go (λ more k. gather_each P C side need ask f cs more cok.1 k) (is_enough side need items) (ask c) refl
  where
    go : ((more : List Evidence) → Each P more → Each P (gather side need ask cs more)) → (b : Bool) (o : Offer) → ask c ≡ o
        → Each P (if b then items else pick o (λ kind. gather side need ask cs (items ++ record { repo = c; kind = kind } ∷ [])) (gather side need ask cs items))
    go ih true o e = h
    go ih false (Gives kind) e = ih (items ++ record { repo = c; kind = kind } ∷ []) (Each-append P items (record { repo = c; kind = kind } ∷ []) h (f c kind cok.0 e, tt))
    go ih false Fails e = ih items h

-- what was gathered holds what was there before
pub gather_left : (P : Evidence → Type 0) (side : Side) (need : Need) (ask : ℕ → Offer) (cs : List ℕ) (items : List Evidence) → Each P (gather side need ask cs items) → Each P items
gather_left P side need ask [] items h = h
gather_left P side need ask (c ∷ cs) items h = go (λ more k. gather_left P side need ask cs more k) (is_enough side need items) (ask c) h
  where
    go : ((more : List Evidence) → Each P (gather side need ask cs more) → Each P more) → (b : Bool) (o : Offer)
        → Each P (if b then items else pick o (λ kind. gather side need ask cs (items ++ record { repo = c; kind = kind } ∷ [])) (gather side need ask cs items)) → Each P items
    go ih true o k = k
    go ih false (Gives kind) k = Each-left P items (record { repo = c; kind = kind } ∷ []) (ih (items ++ record { repo = c; kind = kind } ∷ []) k)
    go ih false Fails k = ih items k

abbrev unit : Bool → ℕ
unit b = cond b 1 0

unit_yes : (b : Bool) → b ≡ true → unit b ≡ 1
unit_yes true e = refl
unit_yes false e = cc

unit_no : (b : Bool) → b ≡ false → unit b ≡ 0
unit_no true e = cc
unit_no false e = refl

counts_push : (side : Side) (items : List Evidence) (i : Evidence) → count_by (counts side) (items ++ i ∷ []) ≡ count_by (counts side) items + cond (counts side i) 1 0
counts_push side items i = sum_by_push (λ y. cond (counts side y) 1 0) items i

pub gather_count : (q : ℕ → Bool) (side : Side) (need : Need) (ask : ℕ → Offer) (cs : List ℕ) (items : List Evidence)
    → Each (λ i. counts side i ≡ true → q i.repo ≡ true) (gather side need ask cs items) → count_by (counts side) (gather side need ask cs items) ≤ count_by (counts side) items + count_by q cs
gather_count q side need ask [] items h = omega arith
gather_count q side need ask (c ∷ cs) items h =
    go (λ more k. gather_count q side need ask cs more k) (is_enough side need items) (ask c) h
  where
    go : ((more : List Evidence) → Each (λ i. counts side i ≡ true → q i.repo ≡ true) (gather side need ask cs more) → count_by (counts side) (gather side need ask cs more) ≤ count_by (counts side) more + count_by q cs) → (b : Bool) (o : Offer)
        → Each (λ i. counts side i ≡ true → q i.repo ≡ true) (if b then items else pick o (λ kind. gather side need ask cs (items ++ record { repo = c; kind = kind } ∷ [])) (gather side need ask cs items))
        → count_by (counts side) (if b then items else pick o (λ kind. gather side need ask cs (items ++ record { repo = c; kind = kind } ∷ [])) (gather side need ask cs items)) ≤ count_by (counts side) items + count_by q (c ∷ cs)
    go ih true o k = omega arith
    go ih false (Gives kind) k =
        let i : Evidence = record { repo = c; kind = kind } in
        let more = items ++ i ∷ [] in
        let all = gather_left (λ y. counts side y ≡ true → q y.repo ≡ true) side need ask cs more k in
        let yes = (Each-right (λ y. counts side y ≡ true → q y.repo ≡ true) items (i ∷ []) all).0 in
        elim (cases_Bool (counts side i)) [
          | inl s ↦ omega (arith, unit_yes (counts side i) s, ih more k, counts_push side items i, count_by-yes q c cs (yes s))
          | inr s ↦ omega (arith, unit_no (counts side i) s, ih more k, counts_push side items i, count_by-tail q c cs)
        ]
    go ih false Fails k = omega (arith, ih items k, count_by-tail q c cs)

-- an element and the others are no more than all
pub count_by-but : (q : ℕ → Bool) (a : ℕ) (xs : List ℕ) → Member a xs → count_by q (a ∷ but a xs) ≤ count_by q xs
count_by-but q a [] m = absurd m
count_by-but q a (x ∷ xs) m = go (λ k. count_by-but q a xs k) m (x == a) refl
  where
    rest : count_by q (but a xs) ≤ count_by q xs
    rest = count_by-filter q (λ y. not (y == a)) xs

    go : (Member a xs → count_by q (a ∷ but a xs) ≤ count_by q xs) → (a ≡ x) ⊎ Member a xs → (b : Bool) → (x == a) ≡ b
        → count_by q (a ∷ cond (not b) (x ∷ but a xs) (but a xs)) ≤ count_by q (x ∷ xs)
    go ih k true e = let same : x ≡ a = eqb-true x a e in
        let one : unit (q x) ≡ unit (q a) = ap (λ y. unit (q y)) same in
        omega (arith, rest, one, count_by-cons q a (but a xs), count_by-cons q x xs)
    go ih (inl k) false e = absurd (true≢false (sym (eqb_refl a) ∙ subst (λ y. (y == a) ≡ false) (sym k) e))
    go ih (inr k) false e = omega (arith, ih k, count_by-cons q a (but a xs), count_by-cons q a (x ∷ but a xs), count_by-cons q x (but a xs), count_by-cons q x xs)

-- the repositories that a drop may ask are among all, each once
candidates_count : (q : ℕ → Bool) (side : Side) (n a target : ℕ) → MatchSide side (Unit {0}) (a < n) → count_by q (candidates side n a target) ≤ count_by q (range_with_len 0 n)
candidates_count q Local n a target lt = count_by-filter q (λ r. not (r == a)) (range_with_len 0 n)
candidates_count q Remote n a target lt =
    omega (
      arith,
      count_by-cons q a (but target (but a (range_with_len 0 n))),
      count_by-cons q a (but a (range_with_len 0 n)),
      count_by-filter q (λ r. not (r == target)) (but a (range_with_len 0 n)),
      count_by-but q a (range_with_len 0 n) (Member-range 0 n a (omega arith) (omega arith)),
    )

-- what holds of each candidate holds of those before the first that is waited for, which are no more
pub reached_each : (P : ℕ → Type 0) (waits : ℕ → Bool) (cs : List ℕ) → Each P cs → Each P (reached_candidates waits cs)
reached_each P waits [] h = tt
reached_each P waits (c ∷ cs) h = go (reached_each P waits cs h.1) (waits c)
  where
    go : Each P (reached_candidates waits cs) → (b : Bool) → Each P (if b then [] else c ∷ reached_candidates waits cs)
    go ih true = tt
    go ih false = (h.0, ih)

reached_count : (q : ℕ → Bool) (waits : ℕ → Bool) (cs : List ℕ) → count_by q (reached_candidates waits cs) ≤ count_by q cs
reached_count q waits [] = omega arith
reached_count q waits (c ∷ cs) = go (reached_count q waits cs) (waits c)
  where
    go : count_by q (reached_candidates waits cs) ≤ count_by q cs → (b : Bool) → count_by q (if b then [] else c ∷ reached_candidates waits cs) ≤ count_by q (c ∷ cs)
    go ih true = omega arith
    go ih false = rw (count_by-cons q c (reached_candidates waits cs), count_by-cons q c cs) (omega arith)

-- what holds of each item that a candidate may give holds of each item of the evidence
pub evidence_each : (P : Evidence → Type 0) (C : ℕ → Type 0) (side : Side) (repos : List RepoView) (past : List Entry) (a j target : ℕ) (need : Need)
    → ((c : ℕ) (kind : Kind) → C c → offer_from repos past a j c ≡ Gives kind → P (record { repo = c; kind = kind }))
    → Each C (candidates side (length repos) a target) → Each P (evidence side repos past a j target need)
evidence_each P C side repos past a j target need f h =
    gather_each P C side need (offer_from repos past a j) f (reached_candidates (waits repos past a j) (candidates side (length repos) a target)) [] (reached_each C (waits repos past a j) (candidates side (length repos) a target) h) tt

-- evidence counts each repository once
pub evidence_count : (q : ℕ → Bool) (side : Side) (repos : List RepoView) (past : List Entry) (a j target : ℕ) (need : Need) → MatchSide side (Unit {0}) (a < length repos)
    → Each (λ i. counts side i ≡ true → q i.repo ≡ true) (evidence side repos past a j target need) → count_by (counts side) (evidence side repos past a j target need) ≤ count_by q (range_with_len 0 (length repos))
evidence_count q side repos past a j target need lt all =
    omega (
      arith,
      gather_count q side need (offer_from repos past a j) (reached_candidates (waits repos past a j) (candidates side (length repos) a target)) [] all,
      reached_count q (waits repos past a j) (candidates side (length repos) a target),
      candidates_count q side (length repos) a target lt,
    )

-- the target is no candidate
pub never_target : (side : Side) (n a target : ℕ) → MatchSide side (a ≡ target) (a ≢ target) → Each (λ c. not (c == target) ≡ true) (candidates side n a target)
never_target Local n a target e = subst (λ t. Each (λ c. not (c == t) ≡ true) (but a (range_with_len 0 n))) e (Each-passes (λ c. not (c == a)) (range_with_len 0 n))
never_target Remote n a target e = (other (a == target) refl, Each-passes (λ c. not (c == target)) (but a (range_with_len 0 n)))
  where
    other : (b : Bool) → (a == target) ≡ b → not b ≡ true
    other true h = absurd (e (eqb-true a target h))
    other false h = refl

pub enough_m : (side : Side) (need : Need) (items : List Evidence) → is_enough side need items ≡ true → need.m ≤ count_by (counts side) items
enough_m side need items h = le (count_by (counts side) items) (and_parts (nat_le (max need.n need.m) (length items)) (nat_le need.m (count_by (counts side) items)) h).1
  where
    le : (c : ℕ) → nat_le need.m c ≡ true → need.m ≤ c
    le c k = grind (arith, nat_tests)

-- a locked item comes from a lock
pub offer_locked : (clock : ℕ → ℕ) (s : Standing) (o : Option Vouch) (end : ℕ) → offer clock s o ≡ Gives (Locked end)
    → (hold since : ℕ) × ((owner : By) × ((key : List ℕ) × (o ≡ Some (Lock hold since owner key))))
offer_locked clock Claimed o end h = cc
offer_locked clock (Ignored cause) o end h = cc
offer_locked clock Asked None end h = cc
offer_locked clock Asked (Some (Lock hold since owner key)) end h = (hold, since, (owner, (key, refl)))
offer_locked clock Asked (Some (Look key)) end h = cc

pub offer_recent : (clock : ℕ → ℕ) (s : Standing) (o : Option Vouch) → offer clock s o ≡ Gives Recent → (key : List ℕ) × (o ≡ Some (Look key))
offer_recent clock Claimed o h = cc
offer_recent clock (Ignored cause) o h = cc
offer_recent clock Asked None h = cc
offer_recent clock Asked (Some (Lock hold since owner key)) h = cc
offer_recent clock Asked (Some (Look key)) h = (key, refl)

pub offer_end : (clock : ℕ → ℕ) (s : Standing) (o : Option Vouch) (hold since end : ℕ) (owner : By) (key : List ℕ) → offer clock s o ≡ Gives (Locked end) → o ≡ Some (Lock hold since owner key) → end ≡ clock since + hold_time
offer_end clock Claimed o hold since end owner key h e = absurd (cc)
offer_end clock (Ignored cause) o hold since end owner key h e = absurd (cc)
offer_end clock Asked o hold since end owner key h e = let k : vouch_offer clock (Some (Lock hold since owner key)) ≡ Gives (Locked end) = rw e at h in cc
