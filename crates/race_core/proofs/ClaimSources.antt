-- Where removals and claims come from: each is of an entry before; and without claims the copies alone are enough.
use Rattle.std.proofs.Common.{◌≡◌, ℕ, ◌≤◌, Bool, true, false, ◌&&◌, ◌||◌, List, [], ◌∷◌, length, Option, Some, None, ◌⊎◌, inl, inr, refl, sym, ap, ◌∙◌, subst, arith}
use Rattle.std.specs.Prelude.{◌==◌, count_by, min}
use Rattle.std.specs.List.{range_with_len}
use Rattle.std.proofs.lemmas.Bool.{true≢false, and_parts, eqb-true, cases_Bool}
use Rattle.std.proofs.lemmas.Option.{same_Some}
use Rattle.annex_base.specs.Lists.{Member}
use Rattle.annex_base.proofs.Lists.{list_any_found}
use Rattle.step_facts.proofs.Below.{SentAreRead}
use Rattle.drop_proof.specs.declared.evidence.Evidence.{Evidence}
use Rattle.run_data.specs.declared.entry.Entry.{Entry}
use Rattle.run_data.specs.declared.run.RepoView.{RepoView}
use Rattle.run_data.specs.declared.run.Run.{Run}
use Rattle.run_model.specs.Past.{Occurs, present}
use Rattle.node_model.specs.Evidence.{is_trusted}
use Rattle.run_model.specs.Safety.{Removal, add_removal, copies_at, least_need, past_at, removal, removals, smaller, trusts}
use Rattle.run_model.specs.Run.{IsRun}
use Rattle.race_core.specs.Places.{claim_at, count_at, removals_at}
use Rattle.race_core.specs.Removals.{IsRemovalBefore, IsTrustedBefore}
use Rattle.past_facts.proofs.Latest.{least_least}
use Rattle.past_facts.proofs.EntryPlaces.{at_occurs, occurs_at}
use Rattle.race_core.proofs.AtPlaces.{enough_least}

-- ---- each removal is an entry's

removal_of : (repos : List RepoView) (past : List Entry) (key : List ℕ) (x : Removal) → Member x (removals repos past key) → (e : Entry) × (before : List Entry) × (Occurs past e before) × (removal repos before key e ≡ Some x)
removal_of repos [] key x m = absurd m
removal_of repos (e ∷ past) key x m = go (λ k. removal_of repos past key x k) (removal repos past key e) refl m
  where
    older : (y : Entry) × (before : List Entry) × (Occurs past y before) × (removal repos before key y ≡ Some x) → (y : Entry) × (before : List Entry) × (Occurs (e ∷ past) y before) × (removal repos before key y ≡ Some x)
    older w = (w.0, w.1, inr w.2, w.3)

    go : (Member x (removals repos past key) → (y : Entry) × (before : List Entry) × (Occurs past y before) × (removal repos before key y ≡ Some x)) → (o : Option Removal) → removal repos past key e ≡ o
        → Member x (add_removal o (removals repos past key)) → (y : Entry) × (before : List Entry) × (Occurs (e ∷ past) y before) × (removal repos before key y ≡ Some x)
    go ih None is k = older (ih k)
    go ih (Some y) is (inl k) = (e, past, inl (refl, refl), is ∙ ap (λ z. Some z) (sym k))
    go ih (Some y) is (inr k) = older (ih k)

of_removal : (repos : List RepoView) (past : List Entry) (key : List ℕ) (x : Removal) (e : Entry) (before : List Entry) → Occurs past e before → removal repos before key e ≡ Some x → Member x (removals repos past key)
of_removal repos [] key x e before o is = absurd o
of_removal repos (y ∷ past) key x e before (inl o) is =
    let here : removal repos past key y ≡ Some x = subst (λ (z : Entry). removal repos past key z ≡ Some x) o.0 (subst (λ (p : List Entry). removal repos p key e ≡ Some x) o.1 is) in
    subst (λ r. Member x (add_removal r (removals repos past key))) (sym here) (inl refl)
of_removal repos (y ∷ past) key x e before (inr o) is = go (removal repos past key y) (of_removal repos past key x e before o is)
  where
    go : (o : Option Removal) → Member x (removals repos past key) → Member x (add_removal o (removals repos past key))
    go None k = k
    go (Some z) k = inr k

pub removal_before : (run : Run) (key : List ℕ) (place : ℕ) (x : Removal) → Member x (removals_at run key place) → IsRemovalBefore run key place x
removal_before run key place x m =
    let t = removal_of run.repos (past_at run place) key x m in
    let w = occurs_at run place t.0 t.1 t.2 in
    record { at = w.at; earlier = w.earlier; entry = t.0; entry_is = w.entry_is; removal_is = subst (λ past. removal run.repos past key t.0 ≡ Some x) w.before_is t.3 }

pub removal_counts : (run : Run) (key : List ℕ) (place : ℕ) (x : Removal) → IsRemovalBefore run key place x → Member x (removals_at run key place)
removal_counts run key place x w = of_removal run.repos (past_at run place) key x w.entry (past_at run w.at) (at_occurs run place w.at w.entry w.earlier w.entry_is) w.removal_is

-- ---- the least need

at_least : (a b : ℕ) → (min a b ≡ a) ⊎ (min a b ≡ b)
at_least a b = grind arith

least_was : (xs : List Removal) (m : ℕ) → least_need xs ≡ Some m → (x : Removal) × Member x xs × (x.need.m ≡ m)
least_was [] m h = absurd (cc)
least_was (x ∷ xs) m h = go (λ k l. least_was xs k l) (least_need xs) refl
  where
    is : smaller x.need.m (least_need xs) ≡ m
    is = same_Some (smaller x.need.m (least_need xs)) m h

    go : ((k : ℕ) → least_need xs ≡ Some k → (y : Removal) × Member y xs × (y.need.m ≡ k)) → (o : Option ℕ) → least_need xs ≡ o → (y : Removal) × Member y (x ∷ xs) × (y.need.m ≡ m)
    go ih None o = (x, inl refl, ap (smaller x.need.m) (sym o) ∙ is)
    go ih (Some k) o =
        let t = ih k o in
        let at : min x.need.m k ≡ m = ap (smaller x.need.m) (sym o) ∙ is in
        elim (at_least x.need.m k) [ inl l ↦ (x, inl refl, sym l ∙ at) | inr l ↦ (t.0, inr t.1, t.2 ∙ (sym l ∙ at)) ]

-- the least need is that of a removal before, and no removal needs less
pub least_removal : (run : Run) (key : List ℕ) (place least : ℕ) → least_need (removals_at run key place) ≡ Some least → (x : Removal) × IsRemovalBefore run key place x × (x.need.m ≡ least)
least_removal run key place least h = let t = least_was (removals_at run key place) least h in (t.0, removal_before run key place t.0 t.1, t.2)

pub least_of_all : (run : Run) (key : List ℕ) (place least : ℕ) (x : Removal) → least_need (removals_at run key place) ≡ Some least → IsRemovalBefore run key place x → least ≤ x.need.m
least_of_all run key place least x h w = least_least x (removals_at run key place) least (removal_counts run key place x w) h

-- ---- claims

-- a claim is a trusted item of a removal before
pub claim_was : (run : Run) (key : List ℕ) (place r : ℕ) → claim_at run key place r ≡ true → IsTrustedBefore run key place r
claim_was run key place r h =
    let t = list_any_found (trusts r) (removals_at run key place) h in
    let i = list_any_found (λ (i : Evidence). (i.repo == r) && is_trusted i.kind) t.0.items t.2 in
    let a = and_parts (i.0.repo == r) (is_trusted i.0.kind) i.2 in
    record { removal = t.0; before = removal_before run key place t.0 t.1; item = i.0; among = i.1; repo_is = eqb-true i.0.repo r a.0; trusted = a.1 }

-- no removal of these has a trusted item
no_claim : (run : Run) (key : List ℕ) (place r : ℕ) → ((x : Removal) (item : Evidence) → Member x (removals_at run key place) → Member item x.items → is_trusted item.kind ≡ false) → claim_at run key place r ≡ false
no_claim run key place r none = elim (cases_Bool (claim_at run key place r)) [
  | inl h ↦ (let t = list_any_found (trusts r) (removals_at run key place) h in
      let i = list_any_found (λ (i : Evidence). (i.repo == r) && is_trusted i.kind) t.0.items t.2 in
      absurd (true≢false (sym (and_parts (i.0.repo == r) (is_trusted i.0.kind) i.2).1 ∙ none t.0 i.0 t.1 i.1)))
  | inr h ↦ h
]

-- the copies alone, where nothing was trusted
pub copies_enough : SentAreRead → (run : Run) (key : List ℕ) (place least : ℕ) → IsRun run → ((x : Removal) (item : Evidence) → Member x (removals_at run key place) → Member item x.items → is_trusted item.kind ≡ false)
    → least_need (removals_at run key place) ≡ Some least → least ≤ copies_at run key place
copies_enough reads_back run key place least h none is = subst (λ n. least ≤ n) same (enough_least reads_back run key place least h is)
  where
    off : (a b : Bool) → b ≡ false → (a || b) ≡ a
    off true b e = refl
    off false b e = e

    same : count_at run key place ≡ copies_at run key place
    same = ap (λ q. count_by q (range_with_len 0 (length run.repos))) (λ i r. off (present (past_at run place) r key) (claim_at run key place r) (no_claim run key place r none) i)
