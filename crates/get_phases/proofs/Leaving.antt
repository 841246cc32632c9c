-- What calls of a store leave of it, one after the other.
use Rattle.std.proofs.Common.{ℕ, ◌≤◌, Option, Some, None, ap, ◌∙◌, arith}
use Rattle.std.specs.Prelude.{IfSome}
use Rattle.std.specs.Option.{option_map}
use Rattle.annex_base.specs.Causes.{Rose}
use Rattle.annex_base.specs.declared.kinds.Call.{Call}
use Rattle.content_lock.specs.CallsMade.{fewer}
use Rattle.transfer_turns.specs.Steps.{LeavesAll, LeavesBut, Seen}

caused : (failed : Option Call) (a b c : ℕ) → a ≤ b → IfSome failed (λ call. Rose b c) → IfSome failed (λ call. Rose a c)
caused None a b c less cause = tt
caused (Some call) a b c less cause = omega (arith, less, cause)

-- calls that went well, and what follows
pub leaves_then : (failed : Option Call) (k m k' : Seen) → LeavesAll k m → LeavesBut failed m k' → LeavesBut failed k k'
leaves_then failed k m k' a b =
    record {
      contents = b.contents ∙ a.contents;
      parts = b.parts ∙ a.parts;
      records = b.records ∙ a.records;
      files = b.files ∙ a.files;
      later = omega (arith, a.later, b.later);
      cause = caused failed k.faults m.faults k'.faults a.later b.cause;
      left = b.left ∙ ap (option_map (fewer failed)) a.failing;
    }

pub leaves_all : (k m k' : Seen) → LeavesAll k m → LeavesAll m k' → LeavesAll k k'
leaves_all k m k' a b =
    record {
      contents = b.contents ∙ a.contents;
      parts = b.parts ∙ a.parts;
      records = b.records ∙ a.records;
      files = b.files ∙ a.files;
      later = omega (arith, a.later, b.later);
      failing = b.failing ∙ a.failing;
    }
