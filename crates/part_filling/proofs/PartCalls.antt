-- The calls by which a part is asked for.
use Rattle.std.proofs.Common.{◌≡◌, ℕ, ◌<◌, true, false, nat_lt, List, [], length, Option, Some, None, refl, sym, ap, subst, ◌∙◌, arith}
use Rattle.std.specs.Option.{ForSome}
use Rattle.annex_base.specs.declared.kinds.Call.{Call}
use Rattle.annex_base.specs.declared.kinds.Call.TheVariants as calls
use Rattle.object_store.specs.Calls.{FailsAsTold}
use Rattle.object_store.specs.Stores.{Parts}
use Rattle.node_model.specs.Calls.{to_read, to_resume}
use Rattle.content_lock.specs.CallsMade.{MakesCalls}
use Rattle.session_state.specs.Talking.{Tells}
use Rattle.session_state.proofs.Calling.{makes_failed, makes_first}

-- the size that the store gave is the part's
pub told_part : (known : Option Parts) (part size : ℕ) (key : List ℕ) → Tells known (λ p. part ≡ length (p key)) → ForSome known (λ p. size ≡ length (p key)) → size ≡ part
told_part None part size key tells gave = absurd tells
told_part (Some p) part size key tells gave = gave p refl ∙ sym tells

pub is_some_left : (n : ℕ) → 0 < n → true ≡ nat_lt 0 n
is_some_left n some = grind arith

-- the part was read, and the read failed
pub reads_not : (part size : ℕ) (before mid after : Option (Call → ℕ)) → size ≡ part → 0 < size → FailsAsTold calls.PartSize before mid false → FailsAsTold calls.ReadPart mid after true → MakesCalls (to_resume part) (Some calls.ReadPart) before after
reads_not part size before mid after same some first read =
    makes_first calls.PartSize (to_read (nat_lt 0 part)) (Some calls.ReadPart) before mid after first
    (subst (λ b. MakesCalls (to_read b) (Some calls.ReadPart) mid after) (is_some_left size some ∙ ap (nat_lt 0) same) (makes_failed calls.ReadPart [] mid after read))

-- or went well
pub reads_all : (part size : ℕ) (before mid after : Option (Call → ℕ)) → size ≡ part → FailsAsTold calls.PartSize before mid false → MakesCalls (to_read (nat_lt 0 size)) None mid after → MakesCalls (to_resume part) None before after
reads_all part size before mid after same first made =
    makes_first calls.PartSize (to_read (nat_lt 0 part)) None before mid after first
    (subst (λ (n : ℕ). MakesCalls (to_read (nat_lt 0 n)) None mid after) same made)

-- the size couldn't be asked for
pub sizes_not : (part : ℕ) (before after : Option (Call → ℕ)) → FailsAsTold calls.PartSize before after true → MakesCalls (to_resume part) (Some calls.PartSize) before after
sizes_not part before after it = makes_failed calls.PartSize (to_read (nat_lt 0 part)) before after it
