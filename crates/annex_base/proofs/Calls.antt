-- The calls of a store are told apart by their numbers.
use Rattle.std.proofs.Common.{◌≡◌, ℕ, true, refl, sym, ap, ◌∙◌}
use Rattle.std.specs.Prelude.{◌==◌, if◌then◌else◌}
use Rattle.std.proofs.lemmas.Bool.{eqb-true}
use Rattle.annex_base.specs.Calls.{call_number, same_call}
use Rattle.annex_base.specs.declared.kinds.Call.{Call}
use Rattle.annex_base.specs.declared.kinds.Call.TheVariants as calls

-- the call of a number
abbrev call_at : ℕ → Call
call_at n =
    if n == 0 then calls.Has else (if n == 1 then calls.Size else (if n == 2 then calls.Read else (if n == 3 then calls.PartSize else (if n == 4 then calls.ReadPart else
    (if n == 5 then calls.Append else (if n == 6 then calls.Commit else (if n == 7 then calls.DropPart else (if n == 8 then calls.Remove else (if n == 9 then calls.Hold else
    (if n == 10 then calls.Unhold else (if n == 11 then calls.Holds else (if n == 12 then calls.PutFile else calls.File))))))))))))

call_found : (call : Call) → call_at (call_number call) ≡ call
call_found calls.Has = refl
call_found calls.Size = refl
call_found calls.Read = refl
call_found calls.PartSize = refl
call_found calls.ReadPart = refl
call_found calls.Append = refl
call_found calls.Commit = refl
call_found calls.DropPart = refl
call_found calls.Remove = refl
call_found calls.Hold = refl
call_found calls.Unhold = refl
call_found calls.Holds = refl
call_found calls.PutFile = refl
call_found calls.File = refl

pub same_call-is : (c d : Call) → same_call c d ≡ true → c ≡ d
same_call-is c d same = sym (call_found c) ∙ ap call_at (eqb-true (call_number c) (call_number d) same) ∙ call_found d
