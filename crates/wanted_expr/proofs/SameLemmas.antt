-- Reading a text ends in one way.
use Rattle.std.proofs.Common.{◌≡◌, ◌⊎◌, inl, inr, ℕ, Bool, true, false, List, [], ◌∷◌, length, Option, Some, None, Result, Ok, Err, refl, sym, ap, subst, ◌∙◌, true≢false}
use Rattle.std.specs.Prelude.{codes, bytes_eq, ◌||◌, if◌then◌else◌}
use Rattle.std.proofs.lemmas.Option.{same_Some, none-some}
use Rattle.annex_base.proofs.Results.{ok_is, err_is, err_ok}
use Rattle.wanted_expr.specs.declared.data.Word.{Word}
use Rattle.wanted_expr.specs.declared.fault.ExprFault.{ExprFault}
use Rattle.wanted_expr.specs.declared.fault.ExprFault.TheVariants.{BadParen, NoOperand, UnknownWord, BadValue, OpenQuote, TooDeep, TooLong, NoMemory}
use Rattle.wanted_expr.specs.declared.lexeme.Operator.TheVariants.{And, Or}
use Rattle.wanted_expr.specs.declared.lexeme.Lexeme.{Lexeme}
use Rattle.wanted_expr.specs.declared.lexeme.Lexeme.TheVariants.{Open, Close, Not, Infix, Term}
use Rattle.wanted_expr.specs.Expressions.{IsLexeme, NextIs, IsEnd, Reads, is_operator}
use Rattle.wanted_expr.specs.Formula.{Formula}
use Rattle.wanted_expr.specs.Pieces.{Piece, Opening, Closing, Written, PieceRead, piece_at}
use Rattle.wanted_expr.specs.Reading.{State, Awaiting, Ends, EndsHere, run, step}
use Rattle.wanted_expr.specs.Tokens.{IsNoLexeme}
use Rattle.wanted_expr.specs.Words.{IsWord, has_name}
use Rattle.wanted_expr.proofs.ReadLemmas.{run_bind}
use Rattle.wanted_expr.proofs.UniqueLemmas.{GlobsAreUnique, word_unique, no_operator, has_known_name}

-- ---- one piece is one lexeme

abbrev sign_of : Piece → Option Lexeme
sign_of Opening = Some Open
sign_of Closing = Some Close
sign_of (Written text) =
    if bytes_eq text (codes "not") then Some Not else
    if bytes_eq text (codes "and") then Some (Infix And) else
    if bytes_eq text (codes "or") then Some (Infix Or) else None

written_same : (s t : List ℕ) → Written s ≡ Written t → s ≡ t
written_same s t e = cc

record IsTerm (piece : Piece) (lexeme : Lexeme) : Type 0 where
  word : Word
  text : List ℕ
  lexeme_is : lexeme ≡ Term word
  piece_is : piece ≡ Written text
  word_is : IsWord text word

-- a piece that is a word is no sign
no_sign : (text : List ℕ) → is_operator text ≡ false → sign_of (Written text) ≡ None
no_sign text e = go (bytes_eq text (codes "and")) (bytes_eq text (codes "or")) (bytes_eq text (codes "not")) e
  where
    go : (a b c : Bool) → (a || (b || (c || false))) ≡ false → (if c then Some Not else if a then Some (Infix And) else if b then Some (Infix Or) else None) ≡ None
    go true b c h = absurd (true≢false h)
    go false true c h = absurd (true≢false h)
    go false false true h = absurd (true≢false h)
    go false false false h = refl

tells : (piece : Piece) (l : Lexeme) → IsLexeme piece l → (sign_of piece ≡ Some l) ⊎ IsTerm piece l
tells piece Open h = inl (ap sign_of h)
tells piece Close h = inl (ap sign_of h)
tells piece Not h = inl (ap sign_of h)
tells piece (Infix And) h = inl (ap sign_of h)
tells piece (Infix Or) h = inl (ap sign_of h)
tells piece (Term word) h = inr (record { word = word; text = h.0; lexeme_is = refl; piece_is = h.1; word_is = h.2 })

term_no_sign : (piece : Piece) (l m : Lexeme) → IsTerm piece l → sign_of piece ≡ Some m → ⊥
term_no_sign piece l m t e = none-some m (sym (no_sign t.text (no_operator t.text t.word t.word_is)) ∙ (sym (ap sign_of t.piece_is) ∙ e))

lexeme_unique : GlobsAreUnique → (piece : Piece) (l m : Lexeme) → IsLexeme piece l → IsLexeme piece m → l ≡ m
lexeme_unique globs piece l m h k = both (tells piece l h) (tells piece m k)
  where
    both : (sign_of piece ≡ Some l) ⊎ IsTerm piece l → (sign_of piece ≡ Some m) ⊎ IsTerm piece m → l ≡ m
    both (inl p) (inl q) = same_Some l m (sym p ∙ q)
    both (inl p) (inr q) = absurd (term_no_sign piece m l q p)
    both (inr p) (inl q) = absurd (term_no_sign piece l m p q)
    both (inr p) (inr q) =
        let same : p.text ≡ q.text = written_same p.text q.text (sym p.piece_is ∙ q.piece_is) in
        p.lexeme_is ∙ (ap Term (word_unique globs q.text p.word q.word (subst (λ (w : List ℕ). IsWord w p.word) same p.word_is) q.word_is) ∙ sym q.lexeme_is)

-- ---- what can't be at once

record SamePiece (at place : ℕ) (p q : Piece) (after rest : List ℕ) : Type 0 where
  places : at ≡ place
  pieces : p ≡ q
  rests : after ≡ rest

piece_same : (at place : ℕ) (p q : Piece) (after rest : List ℕ) → ◌≡◌ {A = PieceRead} (Ok (Some (at, p, after))) (Ok (Some (place, q, rest))) → SamePiece at place p q after rest
piece_same at place p q after rest e = record { places = ap place_in e; pieces = ap piece_in e; rests = ap rest_in e }
  where
    place_in : PieceRead → ℕ
    place_in (Ok (Some x)) = x.0
    place_in (Ok None) = at
    place_in (Err n) = at

    piece_in : PieceRead → Piece
    piece_in (Ok (Some x)) = x.1
    piece_in (Ok None) = p
    piece_in (Err n) = p

    rest_in : PieceRead → List ℕ
    rest_in (Ok (Some x)) = x.2
    rest_in (Ok None) = after
    rest_in (Err n) = after

piece_none : (at : ℕ) (p : Piece) (after : List ℕ) → ◌≡◌ {A = PieceRead} (Ok (Some (at, p, after))) (Ok None) → ⊥
piece_none at p after e = cc

piece_err : (x : Option (ℕ × Piece × List ℕ)) (n : ℕ) → ◌≡◌ {A = PieceRead} (Ok x) (Err n) → ⊥
piece_err x n e = cc

next_same : GlobsAreUnique → (total : ℕ) (bytes : List ℕ) (at place : ℕ) (l m : Lexeme) (after rest : List ℕ) → NextIs total bytes at l after → NextIs total bytes place m rest → (at ≡ place) × (l ≡ m) × (after ≡ rest)
next_same globs total bytes at place l m after rest h k =
    let same = piece_same at place h.0 k.0 after rest (sym h.1 ∙ k.1) in
    (same.places, lexeme_unique globs k.0 l m (subst (λ (p : Piece). IsLexeme p l) same.pieces h.2) k.2, same.rests)

next_end : (total : ℕ) (bytes : List ℕ) (at : ℕ) (l : Lexeme) (after : List ℕ) → NextIs total bytes at l after → IsEnd total bytes → ⊥
next_end total bytes at l after n e = piece_none at n.0 after (sym n.1 ∙ e)

-- a piece that is a word or an operator, or not a word at all
no_operator_there : (text : List ℕ) (l : Lexeme) → IsLexeme (Written text) l → is_operator text ≡ false → (w : Word) × IsWord text w
no_operator_there text Open h e = absurd cc
no_operator_there text Close h e = absurd cc
no_operator_there text Not h e = absurd (true≢false (sym (ap is_operator (written_same text (codes "not") h)) ∙ e))
no_operator_there text (Infix And) h e = absurd (true≢false (sym (ap is_operator (written_same text (codes "and") h)) ∙ e))
no_operator_there text (Infix Or) h e = absurd (true≢false (sym (ap is_operator (written_same text (codes "or") h)) ∙ e))
no_operator_there text (Term w) h e = (w, subst (λ (t : List ℕ). IsWord t w) (sym (written_same text h.0 h.1)) h.2)

next_word : (total : ℕ) (bytes : List ℕ) (at place : ℕ) (l : Lexeme) (after rest text : List ℕ) → NextIs total bytes at l after → piece_at total bytes ≡ Ok (Some (place, Written text, rest)) → is_operator text ≡ false → (w : Word) × IsWord text w
next_word total bytes at place l after rest text n e none =
    let same = piece_same at place n.0 (Written text) after rest (sym n.1 ∙ e) in
    no_operator_there text l (subst (λ (p : Piece). IsLexeme p l) same.pieces n.2) none

next_no_lexeme : (total : ℕ) (bytes : List ℕ) (at : ℕ) (l : Lexeme) (after : List ℕ) (fault : ExprFault) → NextIs total bytes at l after → IsNoLexeme total bytes fault → ⊥
next_no_lexeme total bytes at l after (OpenQuote place) n e = piece_err (Some (at, n.0, after)) place (sym n.1 ∙ e)
next_no_lexeme total bytes at l after (UnknownWord place) n e = let w = next_word total bytes at place l after e.1 e.0 n e.2 e.3 in true≢false (sym (has_known_name e.0 w.0 w.1) ∙ e.4)
next_no_lexeme total bytes at l after (BadValue place) n e = let w = next_word total bytes at place l after e.1 e.0 n e.2 e.3 in e.5 w.0 w.1
next_no_lexeme total bytes at l after (BadParen place) n e = e
next_no_lexeme total bytes at l after (NoOperand place) n e = e
next_no_lexeme total bytes at l after (TooDeep place) n e = e
next_no_lexeme total bytes at l after TooLong n e = e
next_no_lexeme total bytes at l after NoMemory n e = e

end_no_lexeme : (total : ℕ) (bytes : List ℕ) (fault : ExprFault) → IsEnd total bytes → IsNoLexeme total bytes fault → ⊥
end_no_lexeme total bytes (OpenQuote place) n e = piece_err None place (sym n ∙ e)
end_no_lexeme total bytes (UnknownWord place) n e = piece_none place (Written e.0) e.1 (sym e.2 ∙ n)
end_no_lexeme total bytes (BadValue place) n e = piece_none place (Written e.0) e.1 (sym e.2 ∙ n)
end_no_lexeme total bytes (BadParen place) n e = e
end_no_lexeme total bytes (NoOperand place) n e = e
end_no_lexeme total bytes (TooDeep place) n e = e
end_no_lexeme total bytes TooLong n e = e
end_no_lexeme total bytes NoMemory n e = e

-- what is wrong with the first piece
abbrev no_lexeme_of : PieceRead → ExprFault
no_lexeme_of (Err at) = OpenQuote at
no_lexeme_of (Ok None) = TooLong
no_lexeme_of (Ok (Some (at, Opening, after))) = TooLong
no_lexeme_of (Ok (Some (at, Closing, after))) = TooLong
no_lexeme_of (Ok (Some (at, Written text, after))) = if has_name text then BadValue at else UnknownWord at

no_lexeme_is : (total : ℕ) (bytes : List ℕ) (fault : ExprFault) → IsNoLexeme total bytes fault → no_lexeme_of (piece_at total bytes) ≡ fault
no_lexeme_is total bytes (OpenQuote place) e = ap no_lexeme_of e
no_lexeme_is total bytes (UnknownWord place) e = ap no_lexeme_of e.2 ∙ rw e.4 refl
no_lexeme_is total bytes (BadValue place) e = ap no_lexeme_of e.2 ∙ rw e.4 refl
no_lexeme_is total bytes (BadParen place) e = absurd e
no_lexeme_is total bytes (NoOperand place) e = absurd e
no_lexeme_is total bytes (TooDeep place) e = absurd e
no_lexeme_is total bytes TooLong e = absurd e
no_lexeme_is total bytes NoMemory e = absurd e

-- ---- one end

here_same : GlobsAreUnique → (total : ℕ) (rest : List ℕ) (s : State) (a b : Result Formula ExprFault) → EndsHere total rest s a → EndsHere total rest s b → a ≡ b
here_same globs total rest s a b (inl h) (inl k) = h.1 ∙ sym k.1
here_same globs total rest s a b (inl h) (inr (inl k)) = absurd (end_no_lexeme total rest k.0 h.0 k.1)
here_same globs total rest s a b (inl h) (inr (inr k)) = absurd (next_end total rest k.0 k.1 k.2 k.4 h.0)
here_same globs total rest s a b (inr (inl h)) (inl k) = absurd (end_no_lexeme total rest h.0 k.0 h.1)
here_same globs total rest s a b (inr (inl h)) (inr (inl k)) = h.2 ∙ (ap Err (sym (no_lexeme_is total rest h.0 h.1) ∙ no_lexeme_is total rest k.0 k.1) ∙ sym k.2)
here_same globs total rest s a b (inr (inl h)) (inr (inr k)) = absurd (next_no_lexeme total rest k.0 k.1 k.2 h.0 k.4 h.1)
here_same globs total rest s a b (inr (inr h)) (inl k) = absurd (next_end total rest h.0 h.1 h.2 h.4 k.0)
here_same globs total rest s a b (inr (inr h)) (inr (inl k)) = absurd (next_no_lexeme total rest h.0 h.1 h.2 k.0 h.4 k.1)
here_same globs total rest s a b (inr (inr h)) (inr (inr k)) =
    let same = next_same globs total rest h.0 k.0 h.1 k.1 h.2 k.2 h.4 k.4 in
    h.6 ∙ (ap Err (err_is State h.3 k.3 (sym h.5 ∙ (ap (λ (at : ℕ). step at h.1 s) same.0 ∙ (ap (λ (l : Lexeme). step k.0 l s) same.1 ∙ k.5)))) ∙ sym k.6)

-- where reading ends, no lexeme leads on
here_stays : GlobsAreUnique → {P : Type 0} (total : ℕ) (rest after : List ℕ) (s t : State) (a : Result Formula ExprFault) (at : ℕ) (l : Lexeme) → EndsHere total rest s a → NextIs total rest at l after → step at l s ≡ Ok t → P
here_stays globs total rest after s t a at l (inl h) n e = absurd (next_end total rest at l after n h.0)
here_stays globs total rest after s t a at l (inr (inl h)) n e = absurd (next_no_lexeme total rest at l after h.0 n h.1)
here_stays globs total rest after s t a at l (inr (inr h)) n e =
    let same = next_same globs total rest h.0 at h.1 l h.2 after h.4 n in
    absurd (err_ok h.3 t (sym h.5 ∙ (ap (λ (place : ℕ). step place h.1 s) same.0 ∙ (ap (λ (m : Lexeme). step at m s) same.1 ∙ e))))

ends_same : GlobsAreUnique → (total : ℕ) (bytes : List ℕ) (start : State) (xs ys : List (ℕ × Lexeme)) (rest after : List ℕ) (s t : State) (a b : Result Formula ExprFault) → Reads total bytes xs rest → run xs start ≡ Ok s → EndsHere total rest s a → Reads total bytes ys after → run ys start ≡ Ok t → EndsHere total after t b → a ≡ b
ends_same globs total bytes start [] [] rest after s t a b r u h q v k =
    here_same globs total after t a b
    (subst (λ (w : List ℕ). EndsHere total w t a) (sym r ∙ q) (subst (λ (w : State). EndsHere total rest w a) (sym (ok_is ExprFault start s u) ∙ ok_is ExprFault start t v) h)) k
ends_same globs total bytes start [] (y ∷ ys) rest after s t a b r u h q v k =
    let j = run_bind (step y.0 y.1 start) ys t v in
    here_stays globs total bytes q.0 start j.0 a y.0 y.1
    (subst (λ (w : List ℕ). EndsHere total w start a) (sym r) (subst (λ (w : State). EndsHere total rest w a) (sym (ok_is ExprFault start s u)) h)) q.1 j.1
ends_same globs total bytes start (x ∷ xs) [] rest after s t a b r u h q v k =
    let j = run_bind (step x.0 x.1 start) xs s u in
    here_stays globs total bytes r.0 start j.0 b x.0 x.1
    (subst (λ (w : List ℕ). EndsHere total w start b) (sym q) (subst (λ (w : State). EndsHere total after w b) (sym (ok_is ExprFault start t v)) k)) r.1 j.1
ends_same globs total bytes start (x ∷ xs) (y ∷ ys) rest after s t a b r u h q v k =
    let same = next_same globs total bytes x.0 y.0 x.1 y.1 r.0 q.0 r.1 q.1 in
    let i = run_bind (step x.0 x.1 start) xs s u in
    let j = run_bind (step y.0 y.1 start) ys t v in
    let one : i.0 ≡ j.0 = ok_is ExprFault i.0 j.0 (sym i.1 ∙ (ap (λ (place : ℕ). step place x.1 start) same.0 ∙ (ap (λ (m : Lexeme). step y.0 m start) same.1 ∙ j.1))) in
    ends_same globs total q.0 j.0 xs ys rest after s t a b
    (subst (λ (w : List ℕ). Reads total w xs rest) same.2 r.2) (subst (λ (w : State). run xs w ≡ Ok s) one i.2) h q.2 j.2 k

pub one_end : GlobsAreUnique → (text : List ℕ) (a b : Result Formula ExprFault) → Ends text a → Ends text b → a ≡ b
one_end globs text a b h k = ends_same globs (length text) text (Awaiting []) h.read k.read h.rest k.rest h.state k.state a b h.reads h.runs h.ends k.reads k.runs k.ends
