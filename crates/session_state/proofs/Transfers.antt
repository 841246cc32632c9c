-- Contents that come and go: what a read gives, and what a verdict tells.
use Rattle.std.proofs.Common.{◌≡◌, ℕ, zero, suc, ◌+◌, ◌≤◌, ◌++◌, Bool, true, false, List, [], ◌∷◌, length, take, drop, map, Option, Some, None, refl, sym, ap, subst, ◌∙◌, arith, length-drop}
use Rattle.std.proofs.Math.Seq.{take-add}
use Rattle.run_data.specs.declared.entry.By.TheVariants.{Peer}
use Rattle.run_data.specs.declared.entry.EntryKind.{EntryKind}
use Rattle.run_data.specs.declared.entry.EntryKind.TheVariants.{Close, Gain}
use Rattle.object_store.specs.Stores.{Contents, Parts, read_length, room_after_read}
use Rattle.node_model.specs.Rows.{keep_of}
use Rattle.node_model.specs.SessionStep.{on_valid}
use Rattle.content_lock.specs.Rows.{Rows}
use Rattle.session_state.specs.declared.place.Scene.{Scene}
use Rattle.session_state.specs.declared.step.Step.{Step}
use Rattle.session_state.specs.Answers.{AnswersAsAsked}
use Rattle.key_verify.specs.declared.digester.Sum.{Sum}
use Rattle.key_verify.specs.declared.verdict.Verdict.{Verdict}
use Rattle.key_verify.specs.declared.verdict.Verdict.TheVariants.{Right, WrongDigest, WrongSize}
use Rattle.key_verify.specs.Matching.{MatchesKey, verdict_of}
use Rattle.key_verify.specs.Sums.{sum_of}
use Rattle.std.proofs.lemmas.Bool.{false_from_ne_true}
use Rattle.std.proofs.lemmas.Option.{same_Some}
use Rattle.std.specs.Prelude.{◌↔◌}
use Rattle.session_state.specs.declared.doing.Taken.{Taken}
use Rattle.session_state.specs.Phases.{IsJudged, IsNoGain, IsRightSum}
use Rattle.session_state.specs.Talking.{AreAfterStep, IsSumOf, SeesTaken, Tells}

-- what was let go in a phase without a share changes no row, so an entry that changes none fits
pub stays : (kind : EntryKind) (peer slot : ℕ) (rows now : Rows) → map (keep_of (Peer peer slot)) rows.holds ≡ rows.holds → AreAfterStep (Close peer slot false) rows now
    → ((r : Rows) → AreAfterStep kind r r) → AreAfterStep kind rows now
stays kind peer slot rows now free closed still = record {
  holds = closed.holds ∙ free ∙ (still rows).holds;
  bars = λ k. closed.bars k ∙ (still rows).bars k;
}

-- ---- reading

take_front : {X : Type 0} (n : ℕ) (xs ys : List X) → n ≤ length xs → take n (take n xs ++ ys) ≡ take n xs
take_front zero xs ys e = refl
take_front (suc n) [] ys e = absurd (omega (arith, e))
take_front (suc n) (x ∷ xs) ys e = ap (◌∷◌ x) (take_front n xs ys (omega (arith, e)))

-- what was read before, and the front of the room
pub next_taken : (p room room' : List ℕ) (at count : ℕ) → count ≡ read_length p at (length room) → room' ≡ room_after_read p at room
    → take at p ++ take count room' ≡ take (at + count) p
next_taken p room room' at count e is =
    let bound : count ≤ length (drop at p) = omega (arith, e, length-drop at p) in
    let front : take count room' ≡ take count (drop at p) = ap (take count) (is ∙ λ i. take (sym e i) (drop at p) ++ drop (sym e i) room) ∙ take_front count (drop at p) (drop count room) bound in
    ap (λ (l : List ℕ). take at p ++ l) front ∙ sym (take-add at count p)

-- ---- the verdict

-- a part that was judged right matches its key
pub sees_right : (known : Option Parts) (t : Taken) (sum : Sum) (key : List ℕ) (right : Bool) (v : Verdict) → t.sum ≡ Some sum → key ≡ t.fill
    → ((bytes : List ℕ) → sum ≡ sum_of key bytes → ((v ≡ Right) ↔ MatchesKey key bytes)) → v ≡ Right → SeesTaken known t right → (right ≡ true) × (sum.size ≡ t.size) × Tells known (λ p. sum.size ≡ length (p key))
sees_right None t sum key right v has same judged is sees = absurd sees
sees_right (Some p) t sum key right v has same judged is sees =
    let told : sum ≡ sum_of key (p key) = summed t.sum has t.fill (sym same) sees.0.1 in
    let matches : MatchesKey t.fill (p t.fill) = subst (λ (k : List ℕ). MatchesKey k (p k)) same ((judged (p key) told).0 is) in
    let size : sum.size ≡ length (p key) = ap (λ (s : Sum). s.size) told in
    (sees.1.1 matches, size ∙ ap (λ (k : List ℕ). length (p k)) same ∙ sym sees.0.0, size)
  where
    summed : (s : Option Sum) → s ≡ Some sum → (fill : List ℕ) → fill ≡ key → IsSumOf s fill (p fill) → sum ≡ sum_of key (p key)
    summed None e fill f is = absurd is
    summed (Some x) e fill f is = subst (λ (k : List ℕ). sum ≡ sum_of k (p k)) f (same_Some _ _ (sym e) ∙ is)

-- and one that wasn't doesn't
pub sees_wrong : (known : Option Parts) (t : Taken) (sum : Sum) (key : List ℕ) (right : Bool) (v : Verdict) → t.sum ≡ Some sum → key ≡ t.fill
    → ((bytes : List ℕ) → sum ≡ sum_of key bytes → ((v ≡ Right) ↔ MatchesKey key bytes)) → (v ≡ Right → ⊥) → SeesTaken known t right → right ≡ false
sees_wrong None t sum key right v has same judged other sees = absurd sees
sees_wrong (Some p) t sum key right v has same judged other sees = false_from_ne_true right
    (λ yes. other ((judged (p key) (summed t.sum has t.fill (sym same) sees.0.1)).1 (subst (λ (k : List ℕ). MatchesKey k (p k)) (sym same) (sees.1.0 yes))))
  where
    summed : (s : Option Sum) → s ≡ Some sum → (fill : List ℕ) → fill ≡ key → IsSumOf s fill (p fill) → sum ≡ sum_of key (p key)
    summed None e fill f is = absurd is
    summed (Some x) e fill f is = subst (λ (k : List ℕ). sum ≡ sum_of k (p k)) f (same_Some _ _ (sym e) ∙ is)

pub judged_so : (x : Scene) (rows : Rows) (c : Contents) (known : Option Contents) (part : ℕ) (right b : Bool) (key fill : List ℕ) (n size : ℕ) (step : Step) → right ≡ b → key ≡ fill → n ≡ size
    → AnswersAsAsked x rows c known part b (λ h. on_valid h key n) step → AnswersAsAsked x rows c known part right (λ h. on_valid h fill size) step
judged_so x rows c known part right b key fill n size step r k e d =
    subst (λ (a : Bool). AnswersAsAsked x rows c known part a (λ h. on_valid h fill size) step) (sym r)
    (subst (λ (f : List ℕ). AnswersAsAsked x rows c known part b (λ h. on_valid h f size) step) k
    (subst (λ (m : ℕ). AnswersAsAsked x rows c known part b (λ h. on_valid h key m) step) e d))

pub wrong_size : (v : Verdict) (want got : ℕ) → v ≡ WrongSize want got → v ≡ Right → ⊥
wrong_size v want got is e = cc

pub wrong_digest : (v : Verdict) (want got : List ℕ) → v ≡ WrongDigest want got → v ≡ Right → ⊥
wrong_digest v want got is e = cc

-- whatever follows from a right verdict is judged, and what is no gain needs none
pub judged_right : (t : Taken) (sum : Sum) (key : List ℕ) (v : Verdict) (kind : EntryKind) → t.sum ≡ Some sum → key ≡ t.fill → v ≡ verdict_of key sum → v ≡ Right → IsJudged t kind
judged_right t sum key v (Gain by size k) has same exact is =
    subst (λ (o : Option Sum). IsRightSum o t.fill) (sym has) (subst (λ (k : List ℕ). verdict_of k sum ≡ Right) same (sym exact ∙ is))
judged_right t sum key v kind has same exact is = tt

pub judged_lost : (t : Taken) (kind : EntryKind) → IsNoGain kind → IsJudged t kind
judged_lost t (Gain by size key) lost = absurd lost
judged_lost t kind lost = tt
