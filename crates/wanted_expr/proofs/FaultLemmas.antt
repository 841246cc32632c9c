-- Reading stops exactly at the first fault.
use Rattle.std.proofs.Common.{◌≡◌, ◌⊎◌, inl, inr, ℕ, ◌<◌, false, List, [], ◌∷◌, length, Option, Some, None, Ok, Err, refl, sym, ap, subst, ◌∙◌, arith, true≢false}
use Rattle.std.specs.Prelude.{nat_lt}
use Rattle.annex_base.proofs.Conditions.{by_test}
use Rattle.annex_base.proofs.Results.{guard_ok, guard_err, ok_is, err_is, err_ok, ok_err}
use Rattle.wanted_expr.specs.declared.fault.ExprFault.{ExprFault}
use Rattle.wanted_expr.specs.declared.fault.ExprFault.TheVariants.{BadParen, NoOperand, UnknownWord, BadValue, OpenQuote, TooDeep, TooLong, NoMemory}
use Rattle.wanted_expr.specs.declared.lexeme.Operator.TheVariants.{And}
use Rattle.wanted_expr.specs.declared.lexeme.Lexeme.{Lexeme}
use Rattle.wanted_expr.specs.declared.lexeme.Lexeme.TheVariants.{Open, Close, Not, Infix, Term}
use Rattle.wanted_expr.specs.Expressions.{NextIs, IsEnd, BeginsWith, IsFaultAt, IsUnbalanced, LacksTerm, open_after, open_parens, outermost}
use Rattle.wanted_expr.specs.Formula.{Formula, Atom, Negation, combination}
use Rattle.wanted_expr.specs.Reading.{Pending, Negating, Grouping, Joining, State, Awaiting, Having, EndsHere, deeper, finish, has_pending, no_term, open_count, open_places, ready, run, settle, step, whole}
use Rattle.wanted_expr.specs.Tokens.{IsNoLexeme}
use Rattle.wanted_expr.proofs.ReadLemmas.{run_bind}
use Rattle.wanted_expr.proofs.SoundLemmas.{begins_with, begun_with, none_pending, read_sound}

-- ---- the `(` that are open

abbrev pub pending_in : State → List Pending
pending_in (Awaiting k) = k
pending_in (Having f k) = k

settle_opened : (k : List Pending) (f : Formula) → open_places (pending_in (settle f k)) ≡ open_places k
settle_opened [] f = refl
settle_opened (Negating ∷ k) f = settle_opened k (Negation f)
settle_opened (Grouping at ∷ k) f = refl
settle_opened (Joining left operator ∷ k) f = settle_opened k (combination (Some operator) left f)

ready_opened : (s : State) → open_places (ready s) ≡ open_places (pending_in s)
ready_opened (Awaiting k) = refl
ready_opened (Having f k) = refl

deeper_opened : (at : ℕ) (p : Pending) (k : List Pending) (t : State) → deeper at p k ≡ Ok t → open_places (p ∷ k) ≡ open_places (pending_in t)
deeper_opened at p k t e = ap (λ (u : State). open_places (pending_in u)) (guard_ok (nat_lt (open_count k) 64) (TooDeep at) (Awaiting (p ∷ k)) t e).1

step_opened : (at : ℕ) (l : Lexeme) (s t : State) → step at l s ≡ Ok t → open_after at l (open_places (pending_in s)) ≡ open_places (pending_in t)
step_opened at Open s t e = ap (λ (w : List ℕ). at ∷ w) (sym (ready_opened s)) ∙ deeper_opened at (Grouping at) (ready s) t e
step_opened at Not s t e = sym (ready_opened s) ∙ deeper_opened at Negating (ready s) t e
step_opened at (Infix operator) (Awaiting k) t e = absurd (err_ok (NoOperand at) t e)
step_opened at (Infix operator) (Having f k) t e = ap (λ (u : State). open_places (pending_in u)) (ok_is ExprFault (Awaiting (Joining f operator ∷ k)) t e)
step_opened at (Term word) s t e = sym (ready_opened s) ∙ (sym (settle_opened (ready s) (Atom word)) ∙ ap (λ (u : State). open_places (pending_in u)) (ok_is ExprFault (settle (Atom word) (ready s)) t e))
step_opened at Close (Awaiting k) t e = absurd (err_ok (no_term at (open_places k)) t e)
step_opened at Close (Having f []) t e = absurd (err_ok (BadParen at) t e)
step_opened at Close (Having f (Negating ∷ k)) t e = absurd (err_ok (BadParen at) t e)
step_opened at Close (Having f (Joining left operator ∷ k)) t e = absurd (err_ok (BadParen at) t e)
step_opened at Close (Having f (Grouping place ∷ k)) t e = sym (settle_opened k f) ∙ ap (λ (u : State). open_places (pending_in u)) (ok_is ExprFault (settle f k) t e)

run_opened : (xs : List (ℕ × Lexeme)) (s t : State) → run xs s ≡ Ok t → open_parens (open_places (pending_in s)) xs ≡ open_places (pending_in t)
run_opened [] s t e = ap (λ (u : State). open_places (pending_in u)) (ok_is ExprFault s t e)
run_opened (x ∷ xs) s t e =
    let k = run_bind (step x.0 x.1 s) xs t e in
    ap (λ (w : List ℕ). open_parens w xs) (step_opened x.0 x.1 s k.0 k.1) ∙ run_opened xs k.0 t k.2

pub opened_is : (xs : List (ℕ × Lexeme)) (t : State) → run xs (Awaiting []) ≡ Ok t → open_parens [] xs ≡ open_places (pending_in t)
opened_is xs t e = run_opened xs (Awaiting []) t e

-- ---- where an operator can't stand

no_infix : (read : List (ℕ × Lexeme)) (k : List Pending) → run read (Awaiting []) ≡ Ok (Awaiting k) → BeginsWith read (Infix And) → ⊥
no_infix read k e b = let t = begun_with read 0 (Infix And) (Awaiting k) e b in err_ok (NoOperand 0) t.0 t.1

operator_next : (read : List (ℕ × Lexeme)) (f : Formula) (k : List Pending) → run read (Awaiting []) ≡ Ok (Having f k) → BeginsWith read (Infix And)
operator_next read f k e = begins_with read 0 (Infix And) (Having f k) (Awaiting (Joining f And ∷ k)) e refl

not_with : (read : List (ℕ × Lexeme)) (at : ℕ) (l : Lexeme) (s : State) (fault : ExprFault) → run read (Awaiting []) ≡ Ok s → step at l s ≡ Err fault → BeginsWith read l → ⊥
not_with read at l s fault e h b = let t = begun_with read at l s e b in err_ok fault t.0 (sym h ∙ t.1)

-- ---- where reading stops is a fault

whole_err : (f : Formula) (o : Option ℕ) (fault : ExprFault) → Err fault ≡ whole f o → (at : ℕ) × (o ≡ Some at) × (fault ≡ BadParen at)
whole_err f None fault e = absurd cc
whole_err f (Some at) fault e = (at, refl, err_is Formula fault (BadParen at) e)

no_term_is : (at : ℕ) (ps : List ℕ) (fault : ExprFault) → no_term at ps ≡ fault → ((ps ≡ []) × (fault ≡ BadParen at)) ⊎ ((0 < length ps) × (fault ≡ NoOperand at))
no_term_is at [] fault e = inl (refl, sym e)
no_term_is at (p ∷ ps) fault e = inr (omega arith, sym e)

lexical : (total : ℕ) (rest : List ℕ) (read : List (ℕ × Lexeme)) (fault : ExprFault) → IsNoLexeme total rest fault → IsFaultAt total read rest fault
lexical total rest read (BadParen at) h = absurd h
lexical total rest read (NoOperand at) h = absurd h
lexical total rest read (UnknownWord at) h = h
lexical total rest read (BadValue at) h = h
lexical total rest read (OpenQuote at) h = h
lexical total rest read (TooDeep at) h = absurd h
lexical total rest read TooLong h = absurd h
lexical total rest read NoMemory h = absurd h

closing_fault : (total : ℕ) (rest after : List ℕ) (read : List (ℕ × Lexeme)) (k : List Pending) (at : ℕ) (fault : ExprFault) → run read (Awaiting []) ≡ Ok (Awaiting k) → NextIs total rest at Close after → no_term at (open_places k) ≡ fault → IsFaultAt total read rest fault
closing_fault total rest after read k at fault e n h = elim (no_term_is at (open_places k) fault h) [
  | inl j ↦ subst (IsFaultAt total read rest) (sym j.1) (inl (after, n, opened_is read (Awaiting k) e ∙ j.0))
  | inr j ↦ subst (IsFaultAt total read rest) (sym j.1) (no_infix read k e, inr (inl (after, n, subst (λ (w : List ℕ). 0 < length w) (sym (opened_is read (Awaiting k) e)) j.0)))
]

deep_fault : (total : ℕ) (rest after : List ℕ) (read : List (ℕ × Lexeme)) (s : State) (at : ℕ) (l : Lexeme) (p : Pending) (fault : ExprFault) → (l ≡ Open) ⊎ (l ≡ Not) → step at l s ≡ deeper at p (ready s) → run read (Awaiting []) ≡ Ok s → NextIs total rest at l after → step at l s ≡ Err fault → IsFaultAt total read rest fault
deep_fault total rest after read s at l p fault kind is e n h =
    let k = guard_err (nat_lt (open_count (ready s)) 64) (TooDeep at) fault (Awaiting (p ∷ ready s)) (sym is ∙ h) in
    subst (IsFaultAt total read rest) k.1 (l, after, kind, n, not_with read at l s fault e h)

step_fault : (total : ℕ) (rest after : List ℕ) (read : List (ℕ × Lexeme)) (s : State) (at : ℕ) (l : Lexeme) (fault : ExprFault) → run read (Awaiting []) ≡ Ok s → NextIs total rest at l after → step at l s ≡ Err fault → IsFaultAt total read rest fault
step_fault total rest after read s at Open fault e n h = deep_fault total rest after read s at Open (Grouping at) fault (inl refl) refl e n h
step_fault total rest after read s at Not fault e n h = deep_fault total rest after read s at Not Negating fault (inr refl) refl e n h
step_fault total rest after read s at (Term word) fault e n h = absurd (ok_err fault (settle (Atom word) (ready s)) h)
step_fault total rest after read (Awaiting k) at (Infix operator) fault e n h = subst (IsFaultAt total read rest) (err_is State (NoOperand at) fault h) (no_infix read k e, inl (operator, after, n))
step_fault total rest after read (Having f k) at (Infix operator) fault e n h = absurd (ok_err fault (Awaiting (Joining f operator ∷ k)) h)
step_fault total rest after read (Awaiting k) at Close fault e n h = closing_fault total rest after read k at fault e n (err_is State (no_term at (open_places k)) fault h)
step_fault total rest after read (Having f []) at Close fault e n h = subst (IsFaultAt total read rest) (err_is State (BadParen at) fault h) (inl (after, n, opened_is read (Having f []) e))
step_fault total rest after read (Having f (Grouping place ∷ k)) at Close fault e n h = absurd (ok_err fault (settle f k) h)
step_fault total rest after read (Having f (Negating ∷ k)) at Close fault e n h = absurd (true≢false (none_pending f (Negating ∷ k) _ (read_sound read (Having f (Negating ∷ k)) e)))
step_fault total rest after read (Having f (Joining left operator ∷ k)) at Close fault e n h = absurd (true≢false (none_pending f (Joining left operator ∷ k) _ (read_sound read (Having f (Joining left operator ∷ k)) e)))

end_fault : (total : ℕ) (rest : List ℕ) (read : List (ℕ × Lexeme)) (s : State) (fault : ExprFault) → run read (Awaiting []) ≡ Ok s → IsEnd total rest → Err fault ≡ finish total s → IsFaultAt total read rest fault
end_fault total rest read (Awaiting k) fault e n h = subst (IsFaultAt total read rest) (sym (err_is Formula fault (NoOperand total) h)) (no_infix read k e, inr (inr (n, refl)))
end_fault total rest read (Having f k) fault e n h =
    let w = whole_err f (outermost (open_places k)) fault h in
    subst (IsFaultAt total read rest) (sym w.2) (inr (n, operator_next read f k e, ap outermost (opened_is read (Having f k) e) ∙ w.1))

pub fault_found : (total : ℕ) (rest : List ℕ) (read : List (ℕ × Lexeme)) (s : State) (fault : ExprFault) → run read (Awaiting []) ≡ Ok s → EndsHere total rest s (Err fault) → IsFaultAt total read rest fault
fault_found total rest read s fault e (inl h) = end_fault total rest read s fault e h.0 h.1
fault_found total rest read s fault e (inr (inl h)) = lexical total rest read fault (subst (IsNoLexeme total rest) (sym (err_is Formula fault h.0 h.2)) h.1)
fault_found total rest read s fault e (inr (inr h)) = subst (IsFaultAt total read rest) (sym (err_is Formula fault h.3 h.6)) (step_fault total rest h.2 read s h.0 h.1 h.3 e h.4 h.5)

-- ---- reading stops at a fault

stops_by : (total : ℕ) (rest after : List ℕ) (s : State) (at : ℕ) (l : Lexeme) (fault : ExprFault) → NextIs total rest at l after → step at l s ≡ Err fault → EndsHere total rest s (Err fault)
stops_by total rest after s at l fault n h = inr (inr (at, l, after, fault, n, h, refl))

pub no_places : (k : List Pending) → has_pending k ≡ false → open_places k ≡ [] → k ≡ []
no_places [] none e = refl
no_places (Negating ∷ k) none e = absurd (true≢false none)
no_places (Joining left operator ∷ k) none e = absurd (true≢false none)
no_places (Grouping at ∷ k) none e = absurd cc

never_opened : (read : List (ℕ × Lexeme)) (s : State) (at : ℕ) → run read (Awaiting []) ≡ Ok s → open_parens [] read ≡ [] → step at Close s ≡ Err (BadParen at)
never_opened read (Awaiting k) at e h = ap (λ (w : List ℕ). Err (no_term at w)) (sym (opened_is read (Awaiting k) e) ∙ h)
never_opened read (Having f k) at e h =
    ap (λ (w : List Pending). step at Close (Having f w)) (no_places k (none_pending f k _ (read_sound read (Having f k) e)) (sym (opened_is read (Having f k) e) ∙ h))

unbalanced_stops : (total : ℕ) (rest : List ℕ) (read : List (ℕ × Lexeme)) (s : State) (at : ℕ) → run read (Awaiting []) ≡ Ok s → IsUnbalanced total read rest at → EndsHere total rest s (Err (BadParen at))
unbalanced_stops total rest read s at e (inl h) = stops_by total rest h.0 s at Close (BadParen at) h.1 (never_opened read s at e h.2)
unbalanced_stops total rest read (Awaiting k) at e (inr h) = absurd (no_infix read k e h.1)
unbalanced_stops total rest read (Having f k) at e (inr h) = inl (h.0, sym (ap (whole f) (ap outermost (sym (opened_is read (Having f k) e)) ∙ h.2)))

some_open : (at : ℕ) (ps : List ℕ) → 0 < length ps → no_term at ps ≡ NoOperand at
some_open at [] h = absurd (omega (arith, h))
some_open at (p ∷ ps) h = refl

lacking_stops : (total : ℕ) (rest : List ℕ) (read : List (ℕ × Lexeme)) (k : List Pending) (at : ℕ) → run read (Awaiting []) ≡ Ok (Awaiting k) → LacksTerm total read rest at → EndsHere total rest (Awaiting k) (Err (NoOperand at))
lacking_stops total rest read k at e (inl h) = stops_by total rest h.1 (Awaiting k) at (Infix h.0) (NoOperand at) h.2 refl
lacking_stops total rest read k at e (inr (inl h)) =
    stops_by total rest h.0 (Awaiting k) at Close (NoOperand at) h.1 (ap Err (some_open at (open_places k) (subst (λ (w : List ℕ). 0 < length w) (opened_is read (Awaiting k) e) h.2)))
lacking_stops total rest read k at e (inr (inr h)) = inl (h.0, ap (λ (n : ℕ). Err (NoOperand n)) h.1)

too_deep : (read : List (ℕ × Lexeme)) (s : State) (at : ℕ) (l : Lexeme) (p : Pending) → run read (Awaiting []) ≡ Ok s → step at l s ≡ deeper at p (ready s) → (BeginsWith read l → ⊥) → step at l s ≡ Err (TooDeep at)
too_deep read s at l p e is none =
    by_test (nat_lt (open_count (ready s)) 64)
    (λ t. absurd (none (begins_with read at l s (Awaiting (p ∷ ready s)) e (is ∙ rw t refl))))
    (λ t. is ∙ rw t refl)

deep_stops : (total : ℕ) (rest after : List ℕ) (read : List (ℕ × Lexeme)) (s : State) (at : ℕ) (l : Lexeme) → run read (Awaiting []) ≡ Ok s → (l ≡ Open) ⊎ (l ≡ Not) → NextIs total rest at l after → (BeginsWith read l → ⊥) → EndsHere total rest s (Err (TooDeep at))
deep_stops total rest after read s at l e (inl is) n none =
    stops_by total rest after s at Open (TooDeep at) (subst (λ (m : Lexeme). NextIs total rest at m after) is n) (too_deep read s at Open (Grouping at) e refl (λ b. none (subst (BeginsWith read) (sym is) b)))
deep_stops total rest after read s at l e (inr is) n none =
    stops_by total rest after s at Not (TooDeep at) (subst (λ (m : Lexeme). NextIs total rest at m after) is n) (too_deep read s at Not Negating e refl (λ b. none (subst (BeginsWith read) (sym is) b)))

pub fault_stops : (total : ℕ) (rest : List ℕ) (read : List (ℕ × Lexeme)) (s : State) (fault : ExprFault) → run read (Awaiting []) ≡ Ok s → IsFaultAt total read rest fault → EndsHere total rest s (Err fault)
fault_stops total rest read s (BadParen at) e h = unbalanced_stops total rest read s at e h
fault_stops total rest read (Awaiting k) (NoOperand at) e h = lacking_stops total rest read k at e h.1
fault_stops total rest read (Having f k) (NoOperand at) e h = absurd (h.0 (operator_next read f k e))
fault_stops total rest read s (UnknownWord at) e h = inr (inl (UnknownWord at, h, refl))
fault_stops total rest read s (BadValue at) e h = inr (inl (BadValue at, h, refl))
fault_stops total rest read s (OpenQuote at) e h = inr (inl (OpenQuote at, h, refl))
fault_stops total rest read s (TooDeep at) e h = deep_stops total rest h.1 read s at h.0 e h.2 h.3 h.4
fault_stops total rest read s TooLong e h = absurd h
fault_stops total rest read s NoMemory e h = absurd h
