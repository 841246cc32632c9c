-- Reading from left to right is the grammar, in both directions.
use Rattle.std.proofs.Common.{◌≡◌, ℕ, ◌+◌, ◌<◌, ◌≤◌, true, false, List, [], ◌∷◌, ◌++◌, Option, Some, None, Result, Ok, refl, sym, ap, ◌∙◌, arith, true≢false}
use Rattle.std.specs.Prelude.{nat_lt, ◌&&◌}
use Rattle.std.proofs.lemmas.Bool.{and_parts, lt-ltb}
use Rattle.annex_base.specs.ResultSteps.{◌>>=◌}
use Rattle.annex_base.proofs.Lists.{cons_first, cons_rest}
use Rattle.wanted_expr.specs.declared.fault.ExprFault.{ExprFault}
use Rattle.wanted_expr.specs.declared.lexeme.Operator.{Operator}
use Rattle.wanted_expr.specs.declared.lexeme.Operator.TheVariants.{And}
use Rattle.wanted_expr.specs.declared.lexeme.Lexeme.{Lexeme}
use Rattle.wanted_expr.specs.declared.lexeme.Lexeme.TheVariants.{Open, Close, Not, Infix, Term}
use Rattle.wanted_expr.specs.Expressions.{without_places}
use Rattle.wanted_expr.specs.Formula.{Formula, Atom, combination}
use Rattle.wanted_expr.specs.Reading.{Pending, Negating, Grouping, Joining, State, Awaiting, Having, deeper, has_pending, open_count, run, settle, step}
use Rattle.wanted_expr.specs.Syntax.{Syntax, Plain, Negated, Grouped, Joined, Spells, depth, is_grammatical, is_term, lexemes, formula_said, sign}
use Rattle.wanted_expr.proofs.ReadLemmas.{run_append}
use Rattle.wanted_expr.proofs.StackLemmas.{settled}

-- ---- lexemes with their places

uncons : (ps : List (ℕ × Lexeme)) (l : Lexeme) (ls : List Lexeme) → without_places ps ≡ l ∷ ls → (at : ℕ) × (rest : List (ℕ × Lexeme)) × (ps ≡ (at, l) ∷ rest) × (without_places rest ≡ ls)
uncons [] l ls e = absurd cc
uncons (p ∷ ps) l ls e = (p.0, ps, ap (λ (m : Lexeme). (p.0, m) ∷ ps) (cons_first p.1 l (without_places ps) ls e), cons_rest p.1 l (without_places ps) ls e)

split : (ps : List (ℕ × Lexeme)) (xs ys : List Lexeme) → without_places ps ≡ xs ++ ys → (front back : List (ℕ × Lexeme)) × (ps ≡ front ++ back) × (without_places front ≡ xs) × (without_places back ≡ ys)
split ps [] ys e = ([], ps, refl, refl, e)
split ps (x ∷ xs) ys e =
    let k = uncons ps x (xs ++ ys) e in
    let j = split k.1 xs ys k.3 in
    ((k.0, x) ∷ j.0, j.1, k.2 ∙ ap (λ (w : List (ℕ × Lexeme)). (k.0, x) ∷ w) j.2, ap (λ (w : List Lexeme). x ∷ w) j.3, j.4)

no_more : (ps : List (ℕ × Lexeme)) → without_places ps ≡ [] → ps ≡ []
no_more [] e = refl
no_more (p ∷ ps) e = absurd cc

pub unplaced_append : (xs ys : List (ℕ × Lexeme)) → without_places (xs ++ ys) ≡ without_places xs ++ without_places ys
unplaced_append [] ys = refl
unplaced_append (x ∷ xs) ys = ap (λ (w : List Lexeme). x.1 ∷ w) (unplaced_append xs ys)

pub within : (n : ℕ) → nat_lt n 64 ≡ true → n < 64
within n h = grind arith

-- ---- what the grammar spells is read

deeper_is : (at : ℕ) (p : Pending) (k : List Pending) → open_count k < 64 → deeper at p k ≡ Ok (Awaiting (p ∷ k))
deeper_is at p k small = rw (lt-ltb (open_count k) 64 small) refl

record IsRead (s : Syntax) : Type 0 where
  as_term : is_term s ≡ true → (k : List Pending) (ps : List (ℕ × Lexeme)) → depth s + open_count k ≤ 64 → without_places ps ≡ lexemes s → run ps (Awaiting k) ≡ Ok (settle (formula_said s) k)
  as_whole : (k : List Pending) (ps : List (ℕ × Lexeme)) → depth s + open_count k ≤ 64 → has_pending k ≡ false → without_places ps ≡ lexemes s → run ps (Awaiting k) ≡ Ok (Having (formula_said s) k)

-- a term is a whole where nothing awaits it
term_whole : (s : Syntax) → ((k : List Pending) (ps : List (ℕ × Lexeme)) → depth s + open_count k ≤ 64 → without_places ps ≡ lexemes s → run ps (Awaiting k) ≡ Ok (settle (formula_said s) k)) → IsRead s
term_whole s h = record { as_term = λ t. h; as_whole = λ k ps small none e. h k ps small e ∙ ap (λ (u : State). Ok u) (settled (formula_said s) k none) }

step_on : (ps rest : List (ℕ × Lexeme)) (at : ℕ) (l : Lexeme) (s t : State) → ps ≡ (at, l) ∷ rest → step at l s ≡ Ok t → run ps s ≡ run rest t
step_on ps rest at l s t e h = ap (λ (w : List (ℕ × Lexeme)). run w s) e ∙ ap (λ (r : Result State ExprFault). r >>= run rest) h

front_on : (ps front back : List (ℕ × Lexeme)) (s t : State) → ps ≡ front ++ back → run front s ≡ Ok t → run ps s ≡ run back t
front_on ps front back s t e h = ap (λ (w : List (ℕ × Lexeme)). run w s) e ∙ run_append front back s t h

at_end : (ps : List (ℕ × Lexeme)) (s : State) → without_places ps ≡ [] → run ps s ≡ Ok s
at_end ps s e = ap (λ (w : List (ℕ × Lexeme)). run w s) (no_more ps e)

-- a term that follows another with nothing between them
bare_term : (s : Syntax) → is_term s ≡ true → (term : Formula) (k : List Pending) (ps : List (ℕ × Lexeme)) → without_places ps ≡ lexemes s → run ps (Having term k) ≡ run ps (Awaiting (Joining term And ∷ k))
bare_term (Plain word) t term k ps e =
    let u = uncons ps (Term word) [] e in
    step_on ps u.1 u.0 (Term word) (Having term k) (settle (Atom word) (Joining term And ∷ k)) u.2 refl
    ∙ sym (step_on ps u.1 u.0 (Term word) (Awaiting (Joining term And ∷ k)) (settle (Atom word) (Joining term And ∷ k)) u.2 refl)
bare_term (Negated s) t term k ps e =
    let u = uncons ps Not (lexemes s) e in
    ap (λ (w : List (ℕ × Lexeme)). run w (Having term k)) u.2 ∙ sym (ap (λ (w : List (ℕ × Lexeme)). run w (Awaiting (Joining term And ∷ k))) u.2)
bare_term (Grouped s) t term k ps e =
    let u = uncons ps Open (lexemes s ++ Close ∷ []) e in
    ap (λ (w : List (ℕ × Lexeme)). run w (Having term k)) u.2 ∙ sym (ap (λ (w : List (ℕ × Lexeme)). run w (Awaiting (Joining term And ∷ k))) u.2)
bare_term (Joined left between right) t term k ps e = absurd (true≢false (sym t))

joint_then : (left right : Syntax) (between : Option Operator) (k : List Pending) (ps : List (ℕ × Lexeme)) → is_term right ≡ true → IsRead right → depth right + open_count k ≤ 64 → has_pending k ≡ false → without_places ps ≡ sign between ++ lexemes right → run ps (Having (formula_said left) k) ≡ Ok (Having (formula_said (Joined left between right)) k)
joint_then left right None k ps t h small none e =
    bare_term right t (formula_said left) k ps e
    ∙ (h.as_term t (Joining (formula_said left) And ∷ k) ps (omega (arith, small)) e
    ∙ ap (λ (u : State). Ok u) (settled (combination (Some And) (formula_said left) (formula_said right)) k none))
joint_then left right (Some operator) k ps t h small none e =
    let u = uncons ps (Infix operator) (lexemes right) e in
    step_on ps u.1 u.0 (Infix operator) (Having (formula_said left) k) (Awaiting (Joining (formula_said left) operator ∷ k)) u.2 refl
    ∙ (h.as_term t (Joining (formula_said left) operator ∷ k) u.1 (omega (arith, small)) u.3
    ∙ ap (λ (v : State). Ok v) (settled (combination (Some operator) (formula_said left) (formula_said right)) k none))

is_read : (s : Syntax) → is_grammatical s ≡ true → IsRead s
is_read (Plain word) g = term_whole (Plain word) (λ k ps small e.
    let u = uncons ps (Term word) [] e in
    step_on ps u.1 u.0 (Term word) (Awaiting k) (settle (Atom word) k) u.2 refl ∙ at_end u.1 (settle (Atom word) k) u.3)
is_read (Negated s) g = term_whole (Negated s) (λ k ps small e.
    let both = and_parts (is_term s) (is_grammatical s) g in
    let u = uncons ps Not (lexemes s) e in
    step_on ps u.1 u.0 Not (Awaiting k) (Awaiting (Negating ∷ k)) u.2 (deeper_is u.0 Negating k (omega (arith, small)))
    ∙ (is_read s both.1).as_term both.0 (Negating ∷ k) u.1 (omega (arith, small)) u.3)
is_read (Grouped s) g = term_whole (Grouped s) (λ k ps small e.
    let u = uncons ps Open (lexemes s ++ Close ∷ []) e in
    let v = split u.1 (lexemes s) (Close ∷ []) u.3 in
    let w = uncons v.1 Close [] v.4 in
    step_on ps u.1 u.0 Open (Awaiting k) (Awaiting (Grouping u.0 ∷ k)) u.2 (deeper_is u.0 (Grouping u.0) k (omega (arith, small)))
    ∙ (front_on u.1 v.0 v.1 (Awaiting (Grouping u.0 ∷ k)) (Having (formula_said s) (Grouping u.0 ∷ k)) v.2 ((is_read s g).as_whole (Grouping u.0 ∷ k) v.0 (omega (arith, small)) refl v.3)
    ∙ (step_on v.1 w.1 w.0 Close (Having (formula_said s) (Grouping u.0 ∷ k)) (settle (formula_said s) k) w.2 refl ∙ at_end w.1 (settle (formula_said s) k) w.3)))
is_read (Joined left between right) g =
    let first = and_parts (is_grammatical left) (is_term right && is_grammatical right) g in
    let both = and_parts (is_term right) (is_grammatical right) first.1 in
    record {
      as_term = λ t. absurd (true≢false (sym t));
      as_whole = λ k ps small none e.
          let v = split ps (lexemes left) (sign between ++ lexemes right) e in
          front_on ps v.0 v.1 (Awaiting k) (Having (formula_said left) k) v.2 ((is_read left first.0).as_whole k v.0 (omega (arith, small)) none v.3)
          ∙ joint_then left right between k v.1 both.0 (is_read right both.1) (omega (arith, small)) none v.4;
    }

pub spelled_is_read : (ps : List (ℕ × Lexeme)) (f : Formula) → Spells (without_places ps) f → run ps (Awaiting []) ≡ Ok (Having f [])
spelled_is_read ps f s =
    (is_read s.syntax_of s.grammatical).as_whole [] ps (omega (arith, s.shallow)) refl s.spelled ∙ ap (λ (g : Formula). Ok (Having g [])) (sym s.says)
