-- In a run the least count that an audit tells is at least the least m that it tells.
use Rattle.std.proofs.Common.{◌≡◌, ◌≢◌, inl, inr, ℕ, ◌≤◌, true, List, [], ◌∷◌, ◌++◌, length, take, Option, Some, None, refl, sym, ap, subst, ◌∙◌, arith}
use Rattle.std.specs.Prelude.{min, nat_le, reverse}
use Rattle.std.proofs.lemmas.Bool.{leb-true}
use Rattle.std.proofs.lemmas.List.{length-reverse, reverse-append, reverse-reverse}
use Rattle.std.proofs.Math.Seq.{take-append_seam}
use Rattle.run_data.specs.declared.entry.Entry.{Entry}
use Rattle.run_data.specs.declared.run.RepoView.{RepoView}
use Rattle.run_data.specs.declared.run.Run.{Run}
use Rattle.run_model.specs.Safety.{IsSafe, Removal, add_removal, count, least_need, past_at, removal, removals, smaller, within}
use Rattle.step_judging.specs.Audits.{WereAll, audit}
use Rattle.step_judging.proofs.Audited.{audit_holds, none_before}

behind : (past before : List Entry) → WereAll past before → (front : List Entry) × (past ≡ front ++ before)
behind [] before h = ([], sym h)
behind (e ∷ past) before (inl h) = ([], sym h)
behind (e ∷ past) before (inr h) = let w = behind past before h in (e ∷ w.0, ap (λ xs. e ∷ xs) w.1)

-- entries that were all stood before some place
placed : (run : Run) (before : List Entry) → WereAll (reverse run.entries) before → past_at run (length before) ≡ before
placed run before h =
    let w = behind (reverse run.entries) before h in
    let entries : run.entries ≡ reverse before ++ reverse w.0 = sym (reverse-reverse run.entries) ∙ ap reverse w.1 ∙ reverse-append w.0 before in
    let front : take (length before) run.entries ≡ reverse before =
    ap (take (length before)) entries ∙ ap (λ n. take n (reverse before ++ reverse w.0)) (sym (length-reverse before)) ∙ take-append_seam (reverse before) (reverse w.0) in
    ap reverse front ∙ reverse-reverse before

some_need : (xs : List Removal) → xs ≢ [] → (k : ℕ) × (least_need xs ≡ Some k)
some_need [] h = absurd (h refl)
some_need (x ∷ xs) h = (smaller x.need.m (least_need xs), refl)

empty_need : (xs : List Removal) → least_need xs ≡ None → xs ≡ []
empty_need [] e = refl
empty_need (y ∷ ys) e = absurd (cc)

-- more removals have no greater least need
needs_less : (repos : List RepoView) (past before : List Entry) (key : List ℕ) (k m : ℕ) → WereAll past before → least_need (removals repos before key) ≡ Some k
    → least_need (removals repos past key) ≡ Some m → m ≤ k
needs_less repos [] before key k m h at all = absurd (cc)
needs_less repos (e ∷ past) before key k m (inl h) at all =
    let same : Some k ≡ Some m = sym at ∙ ap (λ (b : List Entry). least_need (removals repos b key)) h ∙ all in let eq : k ≡ m = cc in omega arith
needs_less repos (e ∷ past) before key k m (inr h) at all = go (removal repos past key e) (λ n e'. needs_less repos past before key k n h at e') all
  where
    go : (o : Option Removal) → ((n : ℕ) → least_need (removals repos past key) ≡ Some n → n ≤ k) → least_need (add_removal o (removals repos past key)) ≡ Some m → m ≤ k
    go None ih f = ih m f
    go (Some x) ih f = more (least_need (removals repos past key)) refl
      where
        more : (o : Option ℕ) → least_need (removals repos past key) ≡ o → m ≤ k
        more None none = absurd (let gone : removals repos before key ≡ [] = none_before repos past before key h (empty_need (removals repos past key) none) in let both : None ≡ Some k = sym (ap least_need gone) ∙ at in cc)
        more (Some n) some =
            let low : n ≤ k = ih n some in
            let is : smaller x.need.m (Some n) ≡ m = (let both : Some (smaller x.need.m (least_need (removals repos past key))) ≡ Some m = f in let v : smaller x.need.m (least_need (removals repos past key)) ≡ m = cc in ap (smaller x.need.m) (sym some) ∙ v) in
            let is' : min x.need.m n ≡ m = is in omega (arith, is', low)

pub least_enough : (run : Run) → IsSafe run → (key : List ℕ) (n m : ℕ) → (audit run.repos (reverse run.entries) key).least ≡ Some n → (audit run.repos (reverse run.entries) key).need ≡ Some m → m ≤ n
least_enough run safe key n m least need =
    let a = audit_holds run.repos (reverse run.entries) key in
    let w = a.least_is.reached n least in
    let before = w.0 in
    let k = some_need (removals run.repos before key) w.2 in
    let there : past_at run (length before) ≡ before = placed run before w.1 in
    let enough : within (least_need (removals run.repos before key)) (count run.repos before key) ≡ true =
    subst (λ (b : List Entry). within (least_need (removals run.repos b key)) (count run.repos b key) ≡ true) there (safe.enough key (length before)) in
    let tested : nat_le k.0 (count run.repos before key) ≡ true = subst (λ (o : Option ℕ). within o (count run.repos before key) ≡ true) k.1 enough in
    let high : k.0 ≤ count run.repos before key = leb-true k.0 (count run.repos before key) tested in
    let low : m ≤ k.0 = needs_less run.repos (reverse run.entries) before key k.0 m w.1 k.1 (sym a.need_is ∙ need) in
    let at : count run.repos before key ≡ n = w.3 in
    omega (arith, high, low, at)
