-- Order by the newest entry's moment, and rows by their data.
use Rattle.std.proofs.Common.{◌≡◌, ℕ, Bool, true, false, cond, List, [], ◌∷◌, ◌++◌, Option, Some, None, refl, sym, ap, ◌∙◌}
use Rattle.std.specs.Prelude.{◌&&◌, ◌||◌, filter, is_none, map, not, option_map, reverse}
use Rattle.std.specs.List.{list_any}
use Rattle.std.proofs.lemmas.List.{reverse-append, reverse-reverse}
use Rattle.std.proofs.lemmas.List.Elements.{filter-append}
use Rattle.std.proofs.lemmas.List.Folds.{list_any-append}
use Rattle.run_data.specs.declared.entry.Entry.{Entry}
use Rattle.run_data.specs.declared.row.Hold.{Hold}
use Rattle.node_model.specs.Rows.{blocks, is_blocked}
use Rattle.node_model.specs.State.{State}
use Rattle.step_judging.specs.Carried.{is_ordered_by}
use Rattle.step_judging.specs.Rules.{is_free}
use Rattle.step_judging.specs.Verdicts.{hold_view}
use Rattle.state_rows.specs.Rows.{AreRowsOf, bar_of, holds_of}
use Rattle.state_rows.specs.declared.rows.Rows.{Rows}
use Rattle.state_checks.specs.Moments.{is_ordered_at, moment_of}
use Rattle.state_checks.specs.Rows.{blocking, is_free_in, may_go}

pub ordered_same : (was : Option Entry) (e : Entry) → is_ordered_at (option_map moment_of was) e ≡ is_ordered_by was e
ordered_same None e = refl
ordered_same (Some f) e = refl

-- ---- the newest first, or the oldest

or_swap : (b c : Bool) → (b || c) ≡ (c || b)
or_swap true true = refl
or_swap true false = refl
or_swap false true = refl
or_swap false false = refl

or_false : (b : Bool) → (b || false) ≡ b
or_false true = refl
or_false false = refl

pub any_back : {X : Type 0} (p : X → Bool) (xs : List X) → list_any p (reverse xs) ≡ list_any p xs
any_back p [] = refl
any_back {X} p (x ∷ xs) =
    ap (list_any p) (reverse-append (x ∷ []) xs) ∙ list_any-append p (reverse xs) (x ∷ [])
    ∙ ap (λ (b : Bool). b || (p x || false)) (any_back p xs) ∙ ap (λ (b : Bool). list_any p xs || b) (or_false (p x)) ∙ or_swap (list_any p xs) (p x)

pub any_of : {X : Type 0} (p : X → Bool) (xs back : List X) → reverse xs ≡ back → list_any p xs ≡ list_any p back
any_of p xs back is = sym (any_back p xs) ∙ ap (list_any p) is

pub filter_back : {X : Type 0} (p : X → Bool) (xs : List X) → filter p (reverse xs) ≡ reverse (filter p xs)
filter_back p [] = refl
filter_back {X} p (x ∷ xs) =
    ap (filter p) (reverse-append (x ∷ []) xs) ∙ filter-append p (reverse xs) (x ∷ []) ∙ ap (λ (ys : List X). ys ++ filter p (x ∷ [])) (filter_back p xs) ∙ one (p x)
  where
    one : (b : Bool) → reverse (filter p xs) ++ cond b (x ∷ []) [] ≡ reverse (cond b (x ∷ filter p xs) (filter p xs))
    one true = sym (reverse-append (x ∷ []) (filter p xs))
    one false = none (reverse (filter p xs))
      where
        none : (ys : List X) → ys ++ [] ≡ ys
        none [] = refl
        none (y ∷ ys) = ap (λ zs. y ∷ zs) (none ys)

pub blocking_back : {X Y : Type 0} (f : X → Y) (p : X → Bool) (xs : List X) → map f (reverse (filter p (reverse xs))) ≡ map f (filter p xs)
blocking_back f p xs = ap (λ ys. map f (reverse ys)) (filter_back p xs) ∙ ap (map f) (reverse-reverse (filter p xs))

-- what is left of one more
pub map_more : {X Y : Type 0} (f : X → Y) (xs ys : List X) → map f (xs ++ ys) ≡ map f xs ++ map f ys
map_more f [] ys = refl
map_more f (x ∷ xs) ys = ap (λ zs. f x ∷ zs) (map_more f xs ys)

pub blocking_more : (holds : List Hold) (h : Hold) (key : List ℕ) (clock : ℕ)
    → blocking (holds ++ h ∷ []) key clock ≡ blocking holds key clock ++ map hold_view (cond (blocks key clock h) (h ∷ []) [])
blocking_more holds h key clock = ap (map hold_view) (filter-append (blocks key clock) holds (h ∷ [])) ∙ map_more hold_view (filter (blocks key clock) holds) (cond (blocks key clock h) (h ∷ []) [])

-- ---- rows

pub free_same : (rows : Rows) (st : State) → AreRowsOf rows st → (key : List ℕ) → is_free_in rows key ≡ is_free st key
free_same rows st are key =
    ap (λ (b : Bool). b && is_none (bar_of rows key)) (sym (are.present key)) ∙ ap (λ (o : Option ℕ). st.present key && is_none o) (sym (are.bar key))

pub go_same : (rows : Rows) (st : State) → AreRowsOf rows st → (key : List ℕ) (clock : ℕ) → may_go rows key clock ≡ (is_free st key && not (is_blocked st.holds key clock))
go_same rows st are key clock =
    ap (λ (b : Bool). b && not (is_blocked (holds_of rows) key clock)) (free_same rows st are key) ∙ ap (λ (hs : List Hold). is_free st key && not (is_blocked hs key clock)) (sym are.holds)
