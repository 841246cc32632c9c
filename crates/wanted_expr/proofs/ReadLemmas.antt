-- Reading goes on, or stops, with one more lexeme.
use Rattle.std.proofs.Common.{◌≡◌, ℕ, inr, List, [], ◌∷◌, ◌++◌, length, Result, Ok, Err, IsErrAnd, refl, sym, ap, subst, ◌∙◌}
use Rattle.annex_base.specs.ResultSteps.{◌>>=◌}
use Rattle.annex_base.proofs.Results.{ok_is, err_ok}
use Rattle.wanted_expr.specs.declared.data.Tree.{Tree}
use Rattle.wanted_expr.specs.declared.fault.ExprFault.{ExprFault}
use Rattle.wanted_expr.specs.declared.fault.ExprFault.TheVariants.{BadParen, NoOperand, UnknownWord, BadValue, OpenQuote, TooDeep, TooLong, NoMemory}
use Rattle.wanted_expr.specs.declared.lexeme.Lexeme.{Lexeme}
use Rattle.wanted_expr.specs.Expressions.{NextIs, Reads}
use Rattle.wanted_expr.specs.Reading.{State, Awaiting, step, run, Ends, Gives, Answers, reading_state}

pub reads_on : (total : ℕ) (text : List ℕ) (read : List (ℕ × Lexeme)) (rest after : List ℕ) (at : ℕ) (lexeme : Lexeme) → Reads total text read rest → NextIs total rest at lexeme after → Reads total text (read ++ (at, lexeme) ∷ []) after
reads_on total text [] rest after at lexeme r n = (after, subst (λ (w : List ℕ). NextIs total w at lexeme after) (sym r) n, refl)
reads_on total text (x ∷ xs) rest after at lexeme r n = (r.0, r.1, reads_on total r.0 xs rest after at lexeme r.2 n)

pub run_bind : (r : Result State ExprFault) (xs : List (ℕ × Lexeme)) (s : State) → (r >>= run xs) ≡ Ok s → (t : State) × (r ≡ Ok t) × (run xs t ≡ Ok s)
run_bind (Ok t) xs s e = (t, refl, e)
run_bind (Err d) xs s e = absurd (err_ok d s e)

pub run_append : (xs ys : List (ℕ × Lexeme)) (s t : State) → run xs s ≡ Ok t → run (xs ++ ys) s ≡ run ys t
run_append [] ys s t e = ap (run ys) (ok_is ExprFault s t e)
run_append (x ∷ xs) ys s t e =
    let k = run_bind (step x.0 x.1 s) xs t e in
    ap (λ (r : Result State ExprFault). r >>= run (xs ++ ys)) k.1 ∙ run_append xs ys k.0 t k.2

pub run_one : (at : ℕ) (lexeme : Lexeme) (s t : State) → step at lexeme s ≡ Ok t → run ((at, lexeme) ∷ []) s ≡ Ok t
run_one at lexeme s t e = ap (λ (r : Result State ExprFault). r >>= run []) e

pub runs_on : (read : List (ℕ × Lexeme)) (at : ℕ) (lexeme : Lexeme) (s t u : State) → run read s ≡ Ok t → step at lexeme t ≡ Ok u → run (read ++ (at, lexeme) ∷ []) s ≡ Ok u
runs_on read at lexeme s t u r e = run_append read ((at, lexeme) ∷ []) s t r ∙ run_one at lexeme t u e

-- the state behind some lexemes
record Stands (text : List ℕ) (rest : List ℕ) (state : State) : Type 0 where
  read : List (ℕ × Lexeme)
  reads : Reads (length text) text read rest
  runs : run read (Awaiting []) ≡ Ok state

ends_by : (text rest after : List ℕ) (state : State) (at : ℕ) (lexeme : Lexeme) (fault : ExprFault) → Stands text rest state → NextIs (length text) rest at lexeme after → step at lexeme state ≡ Err fault → Ends text (Err fault)
ends_by text rest after state at lexeme fault s n e = record { read = s.read; rest = rest; state = state; reads = s.reads; runs = s.runs; ends = inr (inr (at, lexeme, after, fault, n, e, refl)) }

given : (text rest after : List ℕ) (state : State) (at : ℕ) (lexeme : Lexeme) (fault : ExprFault) → Stands text rest state → NextIs (length text) rest at lexeme after → Gives reading_state (Err fault) (step at lexeme state) → Answers text (Err fault)
given text rest after state at lexeme (BadParen place) s n g = ends_by text rest after state at lexeme (BadParen place) s n g
given text rest after state at lexeme (NoOperand place) s n g = ends_by text rest after state at lexeme (NoOperand place) s n g
given text rest after state at lexeme (UnknownWord place) s n g = ends_by text rest after state at lexeme (UnknownWord place) s n g
given text rest after state at lexeme (BadValue place) s n g = ends_by text rest after state at lexeme (BadValue place) s n g
given text rest after state at lexeme (OpenQuote place) s n g = ends_by text rest after state at lexeme (OpenQuote place) s n g
given text rest after state at lexeme (TooDeep place) s n g = ends_by text rest after state at lexeme (TooDeep place) s n g
given text rest after state at lexeme TooLong s n g = ends_by text rest after state at lexeme TooLong s n g
given text rest after state at lexeme NoMemory s n g = tt

pub stops : (text rest after : List ℕ) (read : List (ℕ × Lexeme)) (state : State) (at : ℕ) (lexeme : Lexeme) (fault : ExprFault) (r : Result Tree ExprFault) → Reads (length text) text read rest → run read (Awaiting []) ≡ Ok state → NextIs (length text) rest at lexeme after → Gives reading_state (Err fault) (step at lexeme state) → IsErrAnd r (λ f. f ≡ fault) → Answers text r
stops text rest after read state at lexeme fault (Ok tree) reads runs n g same = absurd same
stops text rest after read state at lexeme fault (Err f) reads runs n g same =
    subst (λ (d : ExprFault). Answers text (Err d)) (sym same) (given text rest after state at lexeme fault (record { read = read; reads = reads; runs = runs }) n g)
