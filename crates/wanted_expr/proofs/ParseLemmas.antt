-- Reading ends with a formula exactly on expressions, and with a fault exactly where that is the first one.
use Rattle.std.proofs.Common.{◌≡◌, ◌⊎◌, inl, inr, ℕ, ◌≤◌, List, [], length, Option, Some, None, Ok, Err, refl, sym, ap, subst, ◌∙◌}
use Rattle.annex_base.proofs.Results.{ok_is, err_is, ok_err}
use Rattle.wanted_expr.specs.declared.fault.ExprFault.{ExprFault}
use Rattle.wanted_expr.specs.declared.fault.ExprFault.TheVariants.{BadParen, NoOperand, UnknownWord, BadValue, OpenQuote, TooDeep, TooLong, NoMemory}
use Rattle.wanted_expr.specs.declared.lexeme.Lexeme.{Lexeme}
use Rattle.wanted_expr.specs.Expressions.{IsExpression, IsFirstFault, IsCause, outermost, without_places}
use Rattle.wanted_expr.specs.Formula.{Formula}
use Rattle.wanted_expr.specs.Reading.{Pending, State, Awaiting, Having, Answers, Ends, EndsHere, finish, open_places, run, whole}
use Rattle.wanted_expr.specs.Syntax.{Spells}
use Rattle.wanted_expr.proofs.FaultLemmas.{fault_found, fault_stops, no_places}
use Rattle.wanted_expr.proofs.GrammarLemmas.{spelled_is_read}
use Rattle.wanted_expr.proofs.SameLemmas.{one_end}
use Rattle.wanted_expr.proofs.SoundLemmas.{begins, begun, ended_spells, none_pending, read_sound}
use Rattle.wanted_expr.proofs.StackLemmas.{none_open}
use Rattle.wanted_expr.proofs.UniqueLemmas.{GlobsAreUnique}

pub expression_ends : (text : List ℕ) (f : Formula) → IsExpression text f → Ends text (Ok f)
expression_ends text f h = record { read = h.read; rest = h.rest; state = Having f []; reads = h.reads; runs = spelled_is_read h.read f h.spells; ends = inl (h.at_end, refl) }

whole_ok : (f g : Formula) (o : Option ℕ) → Ok f ≡ whole g o → (o ≡ None) × (f ≡ g)
whole_ok f g None e = (refl, ok_is ExprFault f g e)
whole_ok f g (Some at) e = absurd (ok_err (BadParen at) f e)

finished : (total : ℕ) (read : List (ℕ × Lexeme)) (s : State) (f : Formula) → run read (Awaiting []) ≡ Ok s → Ok f ≡ finish total s → Spells (without_places read) f
finished total read (Awaiting k) f r e = absurd (ok_err (NoOperand total) f e)
finished total read (Having g k) f r e =
    let w = whole_ok f g (outermost (open_places k)) e in
    let sound = read_sound read (Having g k) r in
    let none : k ≡ [] = no_places k (none_pending g k (without_places read) sound) (none_open (open_places k) w.0) in
    subst (Spells (without_places read)) (sym w.1) (ended_spells g (without_places read) (read_sound read (Having g []) (r ∙ ap (λ (j : List Pending). Ok (Having g j)) none)))

pub ends_expression : (text : List ℕ) (f : Formula) → length text ≤ 4096 → Ends text (Ok f) → IsExpression text f
ends_expression text f short h = go h.ends
  where
    go : EndsHere (length text) h.rest h.state (Ok f) → IsExpression text f
    go (inl e) = record { short = short; read = h.read; rest = h.rest; reads = h.reads; at_end = e.0; spells = finished (length text) h.read h.state f h.runs e.1 }
    go (inr (inl e)) = absurd (ok_err e.0 f e.2)
    go (inr (inr e)) = absurd (ok_err e.3 f e.6)

pub fault_ends : (text : List ℕ) (e : ExprFault) → IsFirstFault text e → Ends text (Err e)
fault_ends text e h =
    let b = begun h.read h.begins in
    record { read = h.read; rest = h.rest; state = b.0; reads = h.reads; runs = b.1; ends = fault_stops (length text) h.rest h.read b.0 e b.1 h.fault_at }

pub ends_fault : (text : List ℕ) (e : ExprFault) → length text ≤ 4096 → Ends text (Err e) → IsFirstFault text e
ends_fault text e short h =
    record { short = short; read = h.read; rest = h.rest; reads = h.reads; begins = begins h.read h.state h.runs; fault_at = fault_found (length text) h.rest h.read h.state e h.runs h.ends }

-- ---- what the laws say

pub one_formula : GlobsAreUnique → (text : List ℕ) (f g : Formula) → IsExpression text f → IsExpression text g → f ≡ g
one_formula globs text f g h k = ok_is ExprFault f g (one_end globs text (Ok f) (Ok g) (expression_ends text f h) (expression_ends text g k))

pub one_fault : GlobsAreUnique → (text : List ℕ) (d e : ExprFault) → IsFirstFault text d → IsFirstFault text e → d ≡ e
one_fault globs text d e h k = err_is Formula d e (one_end globs text (Err d) (Err e) (fault_ends text d h) (fault_ends text e k))

pub not_both : GlobsAreUnique → (text : List ℕ) (f : Formula) (e : ExprFault) → IsExpression text f → IsFirstFault text e → ⊥
not_both globs text f e h k = ok_err e f (one_end globs text (Ok f) (Err e) (expression_ends text f h) (fault_ends text e k))

-- ---- what parsing says

pub refused_only : GlobsAreUnique → (text : List ℕ) (e : ExprFault) (f : Formula) → Answers text (Err e) → IsExpression text f → e ≡ NoMemory
refused_only globs text NoMemory f a h = refl
refused_only globs text (BadParen at) f a h = absurd (ok_err (BadParen at) f (one_end globs text (Ok f) (Err (BadParen at)) (expression_ends text f h) a))
refused_only globs text (NoOperand at) f a h = absurd (ok_err (NoOperand at) f (one_end globs text (Ok f) (Err (NoOperand at)) (expression_ends text f h) a))
refused_only globs text (UnknownWord at) f a h = absurd (ok_err (UnknownWord at) f (one_end globs text (Ok f) (Err (UnknownWord at)) (expression_ends text f h) a))
refused_only globs text (BadValue at) f a h = absurd (ok_err (BadValue at) f (one_end globs text (Ok f) (Err (BadValue at)) (expression_ends text f h) a))
refused_only globs text (OpenQuote at) f a h = absurd (ok_err (OpenQuote at) f (one_end globs text (Ok f) (Err (OpenQuote at)) (expression_ends text f h) a))
refused_only globs text (TooDeep at) f a h = absurd (ok_err (TooDeep at) f (one_end globs text (Ok f) (Err (TooDeep at)) (expression_ends text f h) a))
refused_only globs text TooLong f a h = absurd (ok_err TooLong f (one_end globs text (Ok f) (Err TooLong) (expression_ends text f h) a))

pub cause : (text : List ℕ) (e : ExprFault) → length text ≤ 4096 → Answers text (Err e) → IsCause text e
cause text NoMemory short a = tt
cause text (BadParen at) short a = ends_fault text (BadParen at) short a
cause text (NoOperand at) short a = ends_fault text (NoOperand at) short a
cause text (UnknownWord at) short a = ends_fault text (UnknownWord at) short a
cause text (BadValue at) short a = ends_fault text (BadValue at) short a
cause text (OpenQuote at) short a = ends_fault text (OpenQuote at) short a
cause text (TooDeep at) short a = ends_fault text (TooDeep at) short a
cause text TooLong short a = absurd (ends_fault text TooLong short a).fault_at

pub refused_first : GlobsAreUnique → (text : List ℕ) (e d : ExprFault) → length text ≤ 4096 → Answers text (Err e) → IsFirstFault text d → (e ≡ d) ⊎ (e ≡ NoMemory)
refused_first globs text NoMemory d short a h = inr refl
refused_first globs text (BadParen at) d short a h = inl (one_fault globs text (BadParen at) d (ends_fault text (BadParen at) short a) h)
refused_first globs text (NoOperand at) d short a h = inl (one_fault globs text (NoOperand at) d (ends_fault text (NoOperand at) short a) h)
refused_first globs text (UnknownWord at) d short a h = inl (one_fault globs text (UnknownWord at) d (ends_fault text (UnknownWord at) short a) h)
refused_first globs text (BadValue at) d short a h = inl (one_fault globs text (BadValue at) d (ends_fault text (BadValue at) short a) h)
refused_first globs text (OpenQuote at) d short a h = inl (one_fault globs text (OpenQuote at) d (ends_fault text (OpenQuote at) short a) h)
refused_first globs text (TooDeep at) d short a h = inl (one_fault globs text (TooDeep at) d (ends_fault text (TooDeep at) short a) h)
refused_first globs text TooLong d short a h = absurd (ends_fault text TooLong short a).fault_at
