-- What was read is spelled by what awaits its term, and some expression begins with it.
use Rattle.std.proofs.Common.{◌≡◌, ℕ, suc, ◌+◌, ◌≤◌, true, false, List, [], ◌∷◌, ◌++◌, Option, Some, None, Result, Ok, refl, sym, ap, subst, ◌∙◌, arith, append_assoc, append-nil}
use Rattle.std.specs.Prelude.{nat_lt, ◌&&◌}
use Rattle.std.proofs.lemmas.Bool.{and_from}
use Rattle.annex_base.proofs.Results.{guard_ok, ok_is}
use Rattle.annex_base.specs.ResultSteps.{◌>>=◌}
use Rattle.wanted_expr.specs.declared.data.Word.TheVariants.{Anything}
use Rattle.wanted_expr.specs.declared.fault.ExprFault.{ExprFault}
use Rattle.wanted_expr.specs.declared.fault.ExprFault.TheVariants.{TooDeep}
use Rattle.wanted_expr.specs.declared.lexeme.Operator.{Operator}
use Rattle.wanted_expr.specs.declared.lexeme.Operator.TheVariants.{And}
use Rattle.wanted_expr.specs.declared.lexeme.Lexeme.{Lexeme}
use Rattle.wanted_expr.specs.declared.lexeme.Lexeme.TheVariants.{Open, Close, Not, Infix, Term}
use Rattle.wanted_expr.specs.Expressions.{without_places}
use Rattle.wanted_expr.specs.Formula.{Formula, Atom, Negation, combination}
use Rattle.wanted_expr.specs.Reading.{Pending, Negating, Grouping, Joining, State, Awaiting, Having, deeper, has_pending, open_count, ready, run, settle, step}
use Rattle.wanted_expr.specs.Syntax.{Syntax, Plain, Negated, Grouped, Joined, Spells, Begins, depth, is_grammatical, is_term, lexemes, formula_said, sign}
use Rattle.wanted_expr.proofs.GrammarLemmas.{spelled_is_read, unplaced_append, within}
use Rattle.wanted_expr.proofs.ReadLemmas.{run_append, run_bind, run_one}
use Rattle.wanted_expr.proofs.StackLemmas.{settled}

abbrev pub operator_of : Option Operator → Operator
operator_of None = And
operator_of (Some operator) = operator

joined_by : (between : Option Operator) (a b : Formula) → combination (Some (operator_of between)) a b ≡ combination between a b
joined_by None a b = refl
joined_by (Some operator) a b = refl

-- the formula is that of the syntax, which fits in under what is open
pub record Fitting (k : List Pending) (s : Syntax) (f : Formula) : Type 0 where
  pub grammatical : is_grammatical s ≡ true
  pub small : depth s + open_count k ≤ 64
  pub says : f ≡ formula_said s

-- the lexemes that led to what awaits its term
pub record Operand (k : List Pending) (before front : List Lexeme) (left : Formula) (operator : Operator) : Type 0 where
  pub syntax_of : Syntax
  pub between : Option Operator
  pub spelled : front ≡ before ++ (lexemes syntax_of ++ sign between)
  pub operator_is : operator ≡ operator_of between
  pub fitting : Fitting k syntax_of left
  pub settled_there : has_pending k ≡ false

abbrev pub Stands : List Pending → List Lexeme → Type 0
Stands [] front = front ≡ []
Stands (Negating ∷ k) front = (before : List Lexeme) × (front ≡ before ++ Not ∷ []) × Stands k before
Stands (Grouping at ∷ k) front = (before : List Lexeme) × (front ≡ before ++ Open ∷ []) × Stands k before
Stands (Joining left operator ∷ k) front = (before : List Lexeme) × Operand k before front left operator × Stands k before

pub record Complete (k : List Pending) (front : List Lexeme) (f : Formula) : Type 0 where
  pub before : List Lexeme
  pub syntax_of : Syntax
  pub spelled : front ≡ before ++ lexemes syntax_of
  pub fitting : Fitting k syntax_of f
  pub settled_there : has_pending k ≡ false
  pub stands : Stands k before

abbrev pub Sound : State → List Lexeme → Type 0
Sound (Awaiting k) front = (open_count k ≤ 64) × Stands k front
Sound (Having f k) front = Complete k front f

sound_at : (s : State) (front other : List Lexeme) → front ≡ other → Sound s front → Sound s other
sound_at s front other e h = subst (Sound s) e h

settle_sound : (k : List Pending) (before : List Lexeme) (s : Syntax) → is_term s ≡ true → is_grammatical s ≡ true → depth s + open_count k ≤ 64 → Stands k before → Sound (settle (formula_said s) k) (before ++ lexemes s)
settle_sound [] before s t g small st = record { before = before; syntax_of = s; spelled = refl; fitting = record { grammatical = g; small = small; says = refl }; settled_there = refl; stands = st }
settle_sound (Negating ∷ k) before s t g small st =
    sound_at (settle (Negation (formula_said s)) k) (st.0 ++ lexemes (Negated s)) (before ++ lexemes s)
    (sym (append_assoc st.0 (Not ∷ []) (lexemes s)) ∙ ap (λ (w : List Lexeme). w ++ lexemes s) (sym st.1))
    (settle_sound k st.0 (Negated s) refl (and_from (is_term s) (is_grammatical s) t g) (omega (arith, small)) st.2)
settle_sound (Grouping at ∷ k) before s t g small st = record { before = before; syntax_of = s; spelled = refl; fitting = record { grammatical = g; small = small; says = refl }; settled_there = refl; stands = st }
settle_sound (Joining left operator ∷ k) before s t g small st =
    let o = st.1 in
    let whole_is : combination (Some operator) left (formula_said s) ≡ formula_said (Joined o.syntax_of o.between s) = ap (λ (x : Operator). combination (Some x) left (formula_said s)) o.operator_is ∙ (joined_by o.between left (formula_said s) ∙ ap (λ (x : Formula). combination o.between x (formula_said s)) o.fitting.says) in
    subst (λ (u : State). Sound u (before ++ lexemes s)) (sym (settled (combination (Some operator) left (formula_said s)) k o.settled_there)) (record {
      before = st.0;
      syntax_of = Joined o.syntax_of o.between s;
      spelled = ap (λ (w : List Lexeme). w ++ lexemes s) o.spelled ∙ (append_assoc st.0 (lexemes o.syntax_of ++ sign o.between) (lexemes s) ∙ ap (λ (w : List Lexeme). st.0 ++ w) (append_assoc (lexemes o.syntax_of) (sign o.between) (lexemes s)));
      fitting = record {
        grammatical = and_from (is_grammatical o.syntax_of) (is_term s && is_grammatical s) o.fitting.grammatical (and_from (is_term s) (is_grammatical s) t g);
        small = omega (arith, small, o.fitting.small);
        says = whole_is;
      };
      settled_there = o.settled_there;
      stands = st.2;
    })

ready_sound : (s : State) (front : List Lexeme) → Sound s front → (open_count (ready s) ≤ 64) × Stands (ready s) front
ready_sound (Awaiting k) front h = h
ready_sound (Having f k) front h = (
  omega (arith, h.fitting.small),
  (
    h.before,
    record {
      syntax_of = h.syntax_of;
      between = None;
      spelled = h.spelled ∙ ap (λ (w : List Lexeme). h.before ++ w) (sym (append-nil (lexemes h.syntax_of)));
      operator_is = refl;
      fitting = h.fitting;
      settled_there = h.settled_there;
    },
    h.stands,
  ),
)

deeper_sound : (at : ℕ) (p : Pending) (l : Lexeme) (k : List Pending) (front : List Lexeme) (t : State) → open_count (p ∷ k) ≡ suc (open_count k) → (Stands k front → Stands (p ∷ k) (front ++ l ∷ [])) → Stands k front → deeper at p k ≡ Ok t → Sound t (front ++ l ∷ [])
deeper_sound at p l k front t one stands st e =
    let h = guard_ok (nat_lt (open_count k) 64) (TooDeep at) (Awaiting (p ∷ k)) t e in
    subst (λ (u : State). Sound u (front ++ l ∷ [])) h.1 (omega (arith, within (open_count k) h.0, one), stands st)

pub step_sound : (at : ℕ) (l : Lexeme) (s t : State) (front : List Lexeme) → Sound s front → step at l s ≡ Ok t → Sound t (front ++ l ∷ [])
step_sound at Open s t front h e = deeper_sound at (Grouping at) Open (ready s) front t (let one : 1 + open_count (ready s) ≡ suc (open_count (ready s)) = omega arith in one) (λ st. (front, refl, st)) (ready_sound s front h).1 e
step_sound at Not s t front h e = deeper_sound at Negating Not (ready s) front t (let one : 1 + open_count (ready s) ≡ suc (open_count (ready s)) = omega arith in one) (λ st. (front, refl, st)) (ready_sound s front h).1 e
step_sound at (Infix operator) (Awaiting k) t front h e = absurd cc
step_sound at (Infix operator) (Having f k) t front h e = subst (λ (u : State). Sound u (front ++ Infix operator ∷ [])) (ok_is ExprFault (Awaiting (Joining f operator ∷ k)) t e) (
  omega (arith, h.fitting.small),
  (
    h.before,
    record {
      syntax_of = h.syntax_of;
      between = Some operator;
      spelled = ap (λ (w : List Lexeme). w ++ Infix operator ∷ []) h.spelled ∙ append_assoc h.before (lexemes h.syntax_of) (Infix operator ∷ []);
      operator_is = refl;
      fitting = h.fitting;
      settled_there = h.settled_there;
    },
    h.stands,
  ),
)
step_sound at (Term word) s t front h e =
    let r = ready_sound s front h in
    subst (λ (u : State). Sound u (front ++ Term word ∷ [])) (ok_is ExprFault (settle (Atom word) (ready s)) t e) (settle_sound (ready s) front (Plain word) refl refl (omega (arith, r.0)) r.1)
step_sound at Close (Awaiting k) t front h e = absurd cc
step_sound at Close (Having f []) t front h e = absurd cc
step_sound at Close (Having f (Negating ∷ k)) t front h e = absurd cc
step_sound at Close (Having f (Joining left operator ∷ k)) t front h e = absurd cc
step_sound at Close (Having f (Grouping place ∷ k)) t front h e =
    let s = h.syntax_of in
    let st = h.stands in
    let spelled : st.0 ++ lexemes (Grouped s) ≡ front ++ Close ∷ [] =
    sym (ap (λ (w : List Lexeme). w ++ Close ∷ []) (h.spelled ∙ (ap (λ (w : List Lexeme). w ++ lexemes s) st.1 ∙ append_assoc st.0 (Open ∷ []) (lexemes s))) ∙ append_assoc st.0 (Open ∷ lexemes s) (Close ∷ []))
    in
    let ends : settle (formula_said (Grouped s)) k ≡ t = ap (λ (g : Formula). settle g k) (sym h.fitting.says) ∙ ok_is ExprFault (settle f k) t e in
    subst (λ (u : State). Sound u (front ++ Close ∷ [])) ends (sound_at (settle (formula_said (Grouped s)) k) (st.0 ++ lexemes (Grouped s)) (front ++ Close ∷ []) spelled (settle_sound k st.0 (Grouped s) refl h.fitting.grammatical (omega (arith, h.fitting.small)) st.2))

pub run_sound : (xs : List (ℕ × Lexeme)) (s t : State) (front : List Lexeme) → Sound s front → run xs s ≡ Ok t → Sound t (front ++ without_places xs)
run_sound [] s t front h e = sound_at t front (front ++ []) (sym (append-nil front)) (subst (λ (u : State). Sound u front) (ok_is ExprFault s t e) h)
run_sound (x ∷ xs) s t front h e =
    let k = run_bind (step x.0 x.1 s) xs t e in
    sound_at t ((front ++ x.1 ∷ []) ++ without_places xs) (front ++ without_places (x ∷ xs)) (append_assoc front (x.1 ∷ []) (without_places xs))
    (run_sound xs k.0 t (front ++ x.1 ∷ []) (step_sound x.0 x.1 s k.0 front h k.1) k.2)

pub start_sound : Sound (Awaiting []) []
start_sound = (omega arith, refl)

pub read_sound : (xs : List (ℕ × Lexeme)) (t : State) → run xs (Awaiting []) ≡ Ok t → Sound t (without_places xs)
read_sound xs t e = run_sound xs (Awaiting []) t [] start_sound e

pub ended_spells : (f : Formula) (front : List Lexeme) → Sound (Having f []) front → Spells front f
ended_spells f front h = record { syntax_of = h.syntax_of; grammatical = h.fitting.grammatical; shallow = omega (arith, h.fitting.small); spelled = h.spelled ∙ ap (λ (w : List Lexeme). w ++ lexemes h.syntax_of) h.stands; says = h.fitting.says }

pub none_pending : (f : Formula) (k : List Pending) (front : List Lexeme) → Sound (Having f k) front → has_pending k ≡ false
none_pending f k front h = h.settled_there

-- ---- some expression begins with what was read

abbrev closings : List Pending → List (ℕ × Lexeme)
closings [] = []
closings (Negating ∷ k) = closings k
closings (Grouping at ∷ k) = (0, Close) ∷ closings k
closings (Joining left operator ∷ k) = closings k

close_all : (k : List Pending) (f : Formula) → (g : Formula) × (run (closings k) (settle f k) ≡ Ok (Having g []))
close_all [] f = (f, refl)
close_all (Negating ∷ k) f = close_all k (Negation f)
close_all (Grouping at ∷ k) f = close_all k f
close_all (Joining left operator ∷ k) f = close_all k (combination (Some operator) left f)

goes_on : (s : State) (front : List Lexeme) → Sound s front → (more : List (ℕ × Lexeme)) × (g : Formula) × (run more s ≡ Ok (Having g []))
goes_on (Awaiting k) front h = let e = close_all k (Atom Anything) in ((0, Term Anything) ∷ closings k, e.0, e.1)
goes_on (Having f k) front h =
    let e = close_all k f in
    (closings k, e.0, ap (run (closings k)) (sym (settled f k h.settled_there)) ∙ e.1)

pub begins : (xs : List (ℕ × Lexeme)) (s : State) → run xs (Awaiting []) ≡ Ok s → Begins (without_places xs)
begins xs s e =
    let k = goes_on s (without_places xs) (read_sound xs s e) in
    let all : run (xs ++ k.0) (Awaiting []) ≡ Ok (Having k.1 []) = run_append xs k.0 (Awaiting []) s e ∙ k.2 in
    record { more = without_places k.0; formula = k.1; spells = subst (λ (w : List Lexeme). Spells w k.1) (unplaced_append xs k.0) (ended_spells k.1 (without_places (xs ++ k.0)) (read_sound (xs ++ k.0) (Having k.1 []) all)) }

-- what some expression begins with is read

abbrev placed : List Lexeme → List (ℕ × Lexeme)
placed [] = []
placed (l ∷ ls) = (0, l) ∷ placed ls

unplaced_placed : (ls : List Lexeme) → without_places (placed ls) ≡ ls
unplaced_placed [] = refl
unplaced_placed (l ∷ ls) = ap (λ (w : List Lexeme). l ∷ w) (unplaced_placed ls)

run_front : (xs ys : List (ℕ × Lexeme)) (s t : State) → run (xs ++ ys) s ≡ Ok t → (u : State) × (run xs s ≡ Ok u)
run_front [] ys s t e = (s, refl)
run_front (x ∷ xs) ys s t e =
    let k = run_bind (step x.0 x.1 s) (xs ++ ys) t e in
    let j = run_front xs ys k.0 t k.2 in
    (j.0, ap (λ (r : Result State ExprFault). r >>= run xs) k.1 ∙ j.1)

pub begun : (xs : List (ℕ × Lexeme)) → Begins (without_places xs) → (s : State) × (run xs (Awaiting []) ≡ Ok s)
begun xs b =
    let spelled : Spells (without_places (xs ++ placed b.more)) b.formula = subst (λ (w : List Lexeme). Spells w b.formula) (sym (unplaced_append xs (placed b.more) ∙ ap (λ (w : List Lexeme). without_places xs ++ w) (unplaced_placed b.more))) b.spells in
    run_front xs (placed b.more) (Awaiting []) (Having b.formula []) (spelled_is_read (xs ++ placed b.more) b.formula spelled)

-- one more lexeme

pub begins_with : (xs : List (ℕ × Lexeme)) (at : ℕ) (l : Lexeme) (s t : State) → run xs (Awaiting []) ≡ Ok s → step at l s ≡ Ok t → Begins (without_places xs ++ l ∷ [])
begins_with xs at l s t e h =
    subst Begins (unplaced_append xs ((at, l) ∷ [])) (begins (xs ++ (at, l) ∷ []) t (run_append xs ((at, l) ∷ []) (Awaiting []) s e ∙ run_one at l s t h))

pub begun_with : (xs : List (ℕ × Lexeme)) (at : ℕ) (l : Lexeme) (s : State) → run xs (Awaiting []) ≡ Ok s → Begins (without_places xs ++ l ∷ []) → (t : State) × (step at l s ≡ Ok t)
begun_with xs at l s e b =
    let k = begun (xs ++ (at, l) ∷ []) (subst Begins (sym (unplaced_append xs ((at, l) ∷ []))) b) in
    let one = run_bind (step at l s) [] k.0 (sym (run_append xs ((at, l) ∷ []) (Awaiting []) s e) ∙ k.1) in
    (one.0, one.1)
