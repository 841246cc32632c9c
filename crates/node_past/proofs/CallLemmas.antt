-- From what a store tells of each call to the calls of a step.
use Rattle.std.proofs.Common.{◌≡◌, ℕ, ◌-◌, Bool, true, false, List, [], ◌∷◌, ◌++◌, Option, Some, None, Result, Ok, Err, IfErr, refl, sym, ap, ◌∙◌, subst, arith}
use Rattle.std.specs.Prelude.{nat_lt, cond, find, if◌then◌else◌}
use Rattle.std.specs.Option.{option_map, option_or}
use Rattle.std.specs.Result.{IsErrAnd}
use Rattle.std.proofs.lemmas.List.Folds.{find-append}
use Rattle.annex_base.specs.Calls.{same_call}
use Rattle.annex_base.specs.declared.kinds.Call.{Call}
use Rattle.annex_base.proofs.Calls.{same_call-is}
use Rattle.annex_base.proofs.Functions.{funext}
use Rattle.object_store.specs.Calls.{FailsAsTold, has_failed, one_fewer}
use Rattle.object_store.specs.declared.keeper.KeeperFault.{KeeperFault}
use Rattle.object_store.specs.declared.keeper.KeeperFault.TheVariants as faults
use Rattle.node_past.specs.declared.refused.NodeRefused.{NodeRefused}
use Rattle.node_past.specs.declared.refused.NodeRefused.TheVariants as refusals
use Rattle.content_lock.specs.CallsMade.{MakesCalls, fewer}
use Rattle.node_past.specs.Calls.{Makes, StopsIn, refusal_of}

-- how many calls of each kind are still to fail, where the store tells
abbrev pub Failing : Type 0
Failing = Option (Call → ℕ)

-- ---- a call that didn't fail

-- where none was to fail, the numbers stay
stays : (call : Call) (failing : Call → ℕ) → false ≡ nat_lt 0 (failing call) → one_fewer call failing ≡ failing
stays call failing none = funext (one_fewer call failing) failing (λ c. go c (same_call call c) refl)
  where
    zero : (n : ℕ) → false ≡ nat_lt 0 n → n - 1 ≡ n
    zero n e = grind arith

    go : (c : Call) (b : Bool) → same_call call c ≡ b → (if b then failing c - 1 else failing c) ≡ failing c
    go c true same = zero (failing c) (none ∙ ap (λ (x : Call). nat_lt 0 (failing x)) (same_call-is call c same))
    go c false same = refl

pub unfailed : (call : Call) (before after : Failing) → FailsAsTold call before after false → after ≡ before
unfailed call None after it = it.count
unfailed call (Some failing) after it = it.count ∙ ap (λ (f : Call → ℕ). Some f) (stays call failing (it.told failing refl))

-- ---- calls one after the other

as_it_was : (before : Failing) → before ≡ option_map (fewer None) before
as_it_was None = refl
as_it_was (Some failing) = refl

-- calls of which none failed leave the numbers
pub all_well : (made : List Call) (before after : Failing) → MakesCalls made None before after → after ≡ before
all_well made before after it = it.left ∙ sym (as_it_was before)

pub makes_none : (before after : Failing) → after ≡ before → MakesCalls [] None before after
makes_none before after same = record { first = λ failing told. refl; left = same ∙ as_it_was before }

-- one call, which fails
pub makes_failed : (call : Call) (before after : Failing) → FailsAsTold call before after true → MakesCalls (call ∷ []) (Some call) before after
makes_failed call before after it = record {
  first = λ failing told. ap (λ (b : Bool). cond b (Some call) None) (it.told failing told);
  left = it.count;
}

-- or doesn't
pub makes_one : (call : Call) (before after : Failing) → FailsAsTold call before after false → MakesCalls (call ∷ []) None before after
makes_one call before after it = record {
  first = λ failing told. ap (λ (b : Bool). cond b (Some call) None) (it.told failing told);
  left = unfailed call before after it ∙ as_it_was before;
}

-- the first that is found in two lists
found_later : {X : Type 0} (p : X → Bool) (xs ys : List X) (x : Option X) → None ≡ find p xs → x ≡ find p ys → x ≡ find p (xs ++ ys)
found_later {X} p xs ys x none is = is ∙ ap (λ (o : Option X). option_or o (find p ys)) none ∙ sym (find-append p xs ys)

found_earlier : {X : Type 0} (p : X → Bool) (xs ys : List X) (x : X) → Some x ≡ find p xs → Some x ≡ find p (xs ++ ys)
found_earlier {X} p xs ys x is = ap (λ (o : Option X). option_or o (find p ys)) is ∙ sym (find-append p xs ys)

-- calls that went well, and then these
pub makes_then : (made more : List Call) (failed : Option Call) (before mid after : Failing) → MakesCalls made None before mid → MakesCalls more failed mid after → MakesCalls (made ++ more) failed before after
makes_then made more failed before mid after it rest =
    let same : mid ≡ before = all_well made before mid it in
    record {
      first = λ failing told. found_later (λ call. nat_lt 0 (failing call)) made more failed (it.first failing told) (rest.first failing (same ∙ told));
      left = rest.left ∙ ap (option_map (fewer failed)) same;
    }

-- calls that were to follow one that failed
pub makes_before : (made more : List Call) (call : Call) (before after : Failing) → MakesCalls made (Some call) before after → MakesCalls (made ++ more) (Some call) before after
makes_before made more call before after it = record {
  first = λ failing told. found_earlier (λ c. nat_lt 0 (failing c)) made more call (it.first failing told);
  left = it.left;
}

-- ---- refusals

-- a call that was refused for this fault
pub stops_one : (T : Type 0) (call : Call) (fault : KeeperFault) (e : NodeRefused) (before after : Failing) → FailsAsTold call before after (has_failed {T = T} (Err fault)) → e ≡ refusal_of fault → StopsIn (call ∷ []) call e before after
stops_one T call faults.Failed e before after it is = subst (λ (x : NodeRefused). StopsIn (call ∷ []) call x before after) (sym is) (makes_failed call before after it)
stops_one T call faults.NoMemory e before after it is = subst (λ (x : NodeRefused). StopsIn (call ∷ []) call x before after) (sym is) (unfailed call before after it)

-- a call that failed
pub stops_failed : (call : Call) (e : NodeRefused) (before after : Failing) → FailsAsTold call before after true → e ≡ refusals.StoreFault → StopsIn (call ∷ []) call e before after
stops_failed call e before after it is = subst (λ (x : NodeRefused). StopsIn (call ∷ []) call x before after) (sym is) (makes_failed call before after it)

-- a refusal before the first call
pub stops_early : (made : List Call) (call : Call) (e : NodeRefused) (before after : Failing) → (e ≡ refusals.StoreFault → ⊥) → after ≡ before → StopsIn made call e before after
stops_early made call refusals.Full before after well same = same
stops_early made call refusals.StoreFault before after well same = absurd (well refl)
stops_early made call (refusals.BadBundle at) before after well same = same
stops_early made call refusals.NoMemory before after well same = same

-- a refusal after calls that went well
pub stops_then : (made more : List Call) (call : Call) (e : NodeRefused) (before mid after : Failing) → MakesCalls made None before mid → StopsIn more call e mid after → StopsIn (made ++ more) call e before after
stops_then made more call refusals.Full before mid after it rest = rest ∙ all_well made before mid it
stops_then made more call refusals.StoreFault before mid after it rest = makes_then made more (Some call) before mid after it rest
stops_then made more call (refusals.BadBundle at) before mid after it rest = rest ∙ all_well made before mid it
stops_then made more call refusals.NoMemory before mid after it rest = rest ∙ all_well made before mid it

-- calls that were to follow
pub stops_before : (made more : List Call) (call : Call) (e : NodeRefused) (before after : Failing) → StopsIn made call e before after → StopsIn (made ++ more) call e before after
stops_before made more call refusals.Full before after it = it
stops_before made more call refusals.StoreFault before after it = makes_before made more call before after it
stops_before made more call (refusals.BadBundle at) before after it = it
stops_before made more call refusals.NoMemory before after it = it

-- ---- a refusal that is handed on

pub handed : {X : Type 0} (P : NodeRefused → Type 0) (r : Result X NodeRefused) (e : NodeRefused) → IsErrAnd r (λ d. d ≡ e) → P e → IfErr r P
handed P (Ok x) e is holds = tt
handed P (Err d) e is holds = subst P (sym is) holds

pub makes_handed : {X : Type 0} (made : List Call) (call : Call) (r : Result X NodeRefused) (e : NodeRefused) (before after : Failing) → IsErrAnd r (λ d. d ≡ e) → StopsIn made call e before after → Makes made call r before after
makes_handed made call (Ok x) e before after is stops = absurd is
makes_handed made call (Err d) e before after is stops = subst (λ (x : NodeRefused). StopsIn made call x before after) (sym is) stops

-- memory ran out before the first call
pub makes_short : {X : Type 0} (made : List Call) (call : Call) (r : Result X NodeRefused) (failing : Failing) → IsErrAnd r (λ d. d ≡ refusals.NoMemory) → Makes made call r failing failing
makes_short made call r failing is = makes_handed made call r refusals.NoMemory failing failing is refl

-- a refusal before the first call, by which the store didn't fail
pub makes_early : {X Y : Type 0} (made : List Call) (call : Call) (r : Result X NodeRefused) (e : NodeRefused) (failing : Failing) → IsErrAnd r (λ d. d ≡ e) → (◌≡◌ {A = Result Y NodeRefused} (Err e) (Err refusals.StoreFault) → ⊥) → Makes made call r failing failing
makes_early made call r e failing is well = makes_handed made call r e failing failing is (stops_early made call e failing failing (λ f. well (ap (λ (x : NodeRefused). Err x) f)) refl)

pub same_refusal : {X : Type 0} (e d : NodeRefused) → ◌≡◌ {A = Result X NodeRefused} (Err e) (Err d) → e ≡ d
same_refusal e d is = cc
