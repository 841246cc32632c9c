-- One answer is due for the bytes of a journal.
use Rattle.std.proofs.Common.{◌≡◌, ◌⊎◌, inl, inr, ℕ, ◌<◌, List, length, Option, Some, refl, sym, ap, subst, ◌∙◌, arith}
use Rattle.std.specs.Prelude.{codes}
use Rattle.std.specs.Io.KnownBytes.{append_known}
use Rattle.script_answers.specs.Top.{EndsWith, limit_text}
use Rattle.script_answers.specs.Whole.{IsRead}
use Rattle.script_answers.specs.declared.status.Status.{Status}
use Rattle.script_answers.specs.declared.status.Status.TheVariants.{Done, Usage, Script, ReadFault, WriteFault, NoMemory, Limit, NotARun, Input}
use Rattle.script_answers.proofs.DueLemmas.{read_all_or_long}
use Rattle.audit_answers.specs.Due.{AnswersAudit, IsAuditDue, IsAuditDueRead, WritesAudit, input_limit}

abbrev pub IsOne : Status → Status → List ℕ → List ℕ → Type 0
IsOne s s' t t' = (s ≡ s') × (t ≡ t')

-- for one text one answer is due
abbrev pub OneLaw : Type 0
OneLaw = (bytes text more : List ℕ) (status other : Status) → IsAuditDue bytes status text → IsAuditDue bytes other more → (status ≡ other) × (text ≡ more)

-- past the limit, the limit is due
long_text : List ℕ
long_text = limit_text (codes "input") input_limit

due_long : (bytes : List ℕ) (s : Status) (t : List ℕ) → input_limit < length bytes → IsAuditDue bytes s t → IsOne s Limit t long_text
unfolding long_text
due_long bytes Done t long d = absurd (omega (arith, d.short))
due_long bytes NotARun t long d = absurd (omega (arith, d.short))
due_long bytes Input t long d = absurd (omega (arith, d.short))
due_long bytes Limit t long d = (refl, d.text_is)
due_long bytes Script t long d = absurd d
due_long bytes Usage t long d = absurd d
due_long bytes ReadFault t long d = absurd d
due_long bytes WriteFault t long d = absurd d
due_long bytes NoMemory t long d = absurd d

-- what is due for what was read is due for what there was
due_same : OneLaw → (bytes : List ℕ) (s s' : Status) (text : List ℕ) (left left' : Option (List ℕ)) (t : List ℕ) → left ≡ Some bytes → IsAuditDue bytes s text
    → IsAuditDueRead left left' s' t → IsOne s' s t text
due_same one bytes s s' text left left' t known d r = go (read_all_or_long input_limit bytes r.bytes left' (subst (λ l. IsRead input_limit l left' r.bytes) known r.read))
  where
    go : (r.bytes ≡ bytes) ⊎ ((input_limit < length r.bytes) × (input_limit < length bytes)) → IsOne s' s t text
    go (inl same) = one bytes t text s' s (subst (λ b. IsAuditDue b s' t) same r.due) d
    go (inr long) =
        let read = due_long r.bytes s' t long.0 r.due in
        let all = due_long bytes s text long.1 d in
        (read.0 ∙ sym all.0, read.1 ∙ sym all.1)

module _ (one : OneLaw) (bytes text : List ℕ) (s : Status) (left left' taken taken' : Option (List ℕ)) (known : left ≡ Some bytes) (d : IsAuditDue bytes s text) where
  due_written : (result : Status) → WritesAudit left left' taken taken' result → EndsWith s text taken taken' result
  due_written result w =
      let same = due_same one bytes s result text left left' w.text known d w.due in
      inl (same.0, w.whole ∙ ap (λ t. append_known taken t) same.1)

  -- without a fault, what is due is answered, or memory ran out
  pub audit_answered : (result : Status) → AnswersAudit left left' taken taken' result → (result ≡ ReadFault → ⊥) → (result ≡ WriteFault → ⊥) → EndsWith s text taken taken' result
  audit_answered Done a r w = due_written Done a
  audit_answered Limit a r w = due_written Limit a
  audit_answered NotARun a r w = due_written NotARun a
  audit_answered Input a r w = due_written Input a
  audit_answered WriteFault a r w = absurd (w refl)
  audit_answered ReadFault a r w = absurd (r refl)
  audit_answered NoMemory a r w = inr (refl, a)
  audit_answered Usage a r w = absurd a
  audit_answered Script a r w = absurd a
