-- Calls of a store that were made, one after the other.
use Rattle.std.proofs.Common.{◌≡◌, ℕ, ◌-◌, Bool, true, false, List, [], ◌∷◌, Option, Some, None, refl, sym, ◌∙◌, subst, arith}
use Rattle.std.specs.Prelude.{nat_lt, if◌then◌else◌, Result, Ok, Err}
use Rattle.std.specs.Option.{ForSome, option_map}
use Rattle.std.specs.Result.{IsErrAnd, IsErrOf}
use Rattle.annex_base.specs.Calls.{same_call}
use Rattle.annex_base.specs.declared.kinds.Call.{Call}
use Rattle.annex_base.proofs.Calls.{same_call-is}
use Rattle.object_store.specs.Calls.{FailsAsTold, has_failed, one_fewer}
use Rattle.object_store.specs.declared.keeper.KeeperFault.{KeeperFault}
use Rattle.object_store.specs.declared.keeper.KeeperFault.TheVariants as faults
use Rattle.content_lock.specs.Turns.{FailInTurn, CallOutcome}
use Rattle.content_lock.specs.CallsMade.{MakesCalls, fewer}

-- ---- one call

none_fewer : (n : ℕ) → false ≡ nat_lt 0 n → n - 1 ≡ n
none_fewer n e = grind arith

-- of a kind of which none is to fail, one fewer is none fewer
unchanged : (call : Call) (failing : Call → ℕ) → false ≡ nat_lt 0 (failing call) → (c : Call) → one_fewer call failing c ≡ failing c
unchanged call failing none c = go (same_call call c) refl
  where
    go : (b : Bool) → same_call call c ≡ b → (if b then failing c - 1 else failing c) ≡ failing c
    go true e = none_fewer (failing c) (subst (λ (d : Call). false ≡ nat_lt 0 (failing d)) (same_call-is call c e) none)
    go false e = refl

-- a call that didn't fail changes no number
pub unfailed : (call : Call) (before after : Option (Call → ℕ)) → FailsAsTold call before after false → after ≡ before
unfailed call None after only = only.count
unfailed call (Some failing) after only = only.count ∙ (λ i. Some (λ c. unchanged call failing (only.told failing refl) c i))

pub as_it_was : (before : Option (Call → ℕ)) → before ≡ option_map (fewer None) before
as_it_was None = refl
as_it_was (Some failing) = refl

pub unmoved : (before after : Option (Call → ℕ)) → after ≡ before → after ≡ option_map (fewer None) before
unmoved before after same = same ∙ as_it_was before

-- the call, if it failed
abbrev pub failed_of : Call → Bool → Option Call
failed_of call true = Some call
failed_of call false = None

-- ---- calls in order

-- no call
pub makes_none : (before after : Option (Call → ℕ)) → after ≡ before → MakesCalls [] None before after
makes_none before after same = record { first = λ failing is. refl; left = unmoved before after same }

-- a call that failed, whatever was to follow
pub makes_failed : (call : Call) (rest : List Call) (before after : Option (Call → ℕ)) → FailsAsTold call before after true → MakesCalls (call ∷ rest) (Some call) before after
makes_failed call rest before after only = record { first = λ failing is. rw (← only.told failing is) refl; left = only.count }

-- a call that went well, and what follows
pub makes_first : (call : Call) (rest : List Call) (failed : Option Call) (before mid after : Option (Call → ℕ)) → FailsAsTold call before mid false → MakesCalls rest failed mid after → MakesCalls (call ∷ rest) failed before after
makes_first call rest failed before mid after only more =
    let same : mid ≡ before = unfailed call before mid only in
    let m : MakesCalls rest failed before after = subst (λ (o : Option (Call → ℕ)). MakesCalls rest failed o after) same more in
    record { first = λ failing is. m.first failing is ∙ (rw (← only.told failing is) refl); left = m.left }

-- one call
pub makes_one : (call : Call) (failed : Bool) (before after : Option (Call → ℕ)) → FailsAsTold call before after failed → MakesCalls (call ∷ []) (failed_of call failed) before after
makes_one call true before after only = makes_failed call [] before after only
makes_one call false before after only = makes_first call [] None before after after only (makes_none after after refl)

-- ---- calls in turn

pub turn_one : (call : Call) (failed : Bool) (before after : Option (Call → ℕ)) → FailInTurn ((call, failed) ∷ []) before after → FailsAsTold call before after failed
turn_one call failed before after turns = record { told = turns.0; count = turns.1 }

pub turn_first : (call : Call) (failed : Bool) (rest : List CallOutcome) (before after : Option (Call → ℕ)) → FailInTurn ((call, failed) ∷ rest) before after → FailsAsTold call before (option_map (one_fewer call) before) failed
turn_first call failed rest before after turns = record { told = turns.0; count = refl }

-- one call in turn, and two
pub makes_turn : (call : Call) (failed : Bool) (before after : Option (Call → ℕ)) → FailInTurn ((call, failed) ∷ []) before after → MakesCalls (call ∷ []) (failed_of call failed) before after
makes_turn call failed before after turns = makes_one call failed before after (turn_one call failed before after turns)

pub makes_turns : (call next : Call) (failed : Bool) (before after : Option (Call → ℕ)) → FailInTurn ((call, false) ∷ (next, failed) ∷ []) before after → MakesCalls (call ∷ next ∷ []) (failed_of next failed) before after
makes_turns call next failed before after turns =
    makes_first call (next ∷ []) (failed_of next failed) before (option_map (one_fewer call) before) after (turn_first call false ((next, failed) ∷ []) before after turns)
    (makes_turn next failed (option_map (one_fewer call) before) after turns.1)

pub turn_unfailed : (call : Call) (before after : Option (Call → ℕ)) → FailInTurn ((call, false) ∷ []) before after → after ≡ before
turn_unfailed call before after turns = unfailed call before after (turn_one call false before after turns)

-- ---- for want of memory

-- a call that was refused for want of memory changes no number
pub memory_left : (T : Type 0) (call : Call) (fault : KeeperFault) (before after : Option (Call → ℕ)) → fault ≡ faults.NoMemory → FailsAsTold call before after (has_failed {T = T} (Err fault)) → after ≡ before
memory_left T call faults.NoMemory before after is only = unfailed call before after only
memory_left T call faults.Failed before after is only = absurd cc

-- so where the fault is handed on
pub memory_handed : {T : Type 0} (S : Type 0) (r : Result T KeeperFault) (call : Call) (fault : KeeperFault) (before mid after : Option (Call → ℕ)) → IsErrAnd r (λ d. d ≡ fault) → mid ≡ before
    → FailsAsTold call mid after (has_failed {T = S} (Err fault)) → IsErrOf r faults.NoMemory → after ≡ before
memory_handed S (Ok x) call fault before mid after same was only is = absurd same
memory_handed S (Err d) call fault before mid after same was only is =
    let memory : d ≡ faults.NoMemory = cc in
    memory_left S call fault mid after (sym same ∙ memory) only ∙ was

-- where no call of a kind is to fail, one that didn't leaves the numbers
pub unchanged_all : (call : Call) (before : Option (Call → ℕ)) → ForSome before (λ failing. false ≡ nat_lt 0 (failing call)) → before ≡ option_map (one_fewer call) before
unchanged_all call None none = refl
unchanged_all call (Some failing) none = λ i. Some (λ c. sym (unchanged call failing (none failing refl) c) i)

-- calls of which none failed leave the numbers
pub all_well : (calls : List Call) (before after : Option (Call → ℕ)) → MakesCalls calls None before after → after ≡ before
all_well calls before after made = made.left ∙ sym (as_it_was before)
