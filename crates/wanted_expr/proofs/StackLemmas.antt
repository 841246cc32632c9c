-- The frames in memory and what awaits its term.
use Rattle.std.proofs.Common.{◌≡◌, ℕ, ◌<◌, true, false, List, [], ◌∷◌, ◌++◌, length, take, Option, Some, None, Ok, refl, sym, ap, ◌∙◌, true≢false}
use Rattle.std.specs.Prelude.{not, option_to_list, IfSome}
use Rattle.std.specs.Option.{option_map}
use Rattle.std.proofs.lemmas.Bool.{not-true, lt-ltb}
use Rattle.wanted_expr.specs.declared.data.Tree.{Tree}
use Rattle.wanted_expr.specs.declared.fault.ExprFault.TheVariants as faults
use Rattle.wanted_expr.specs.declared.lexeme.Operator.{Operator}
use Rattle.wanted_expr.specs.declared.lexeme.Operator.TheVariants.{And}
use Rattle.wanted_expr.specs.declared.reading.Frame.{Frame}
use Rattle.wanted_expr.specs.declared.reading.Frame.TheVariants as frames
use Rattle.wanted_expr.specs.declared.reading.Reading.{Reading}
use Rattle.wanted_expr.specs.Expressions.{outermost}
use Rattle.wanted_expr.specs.Formula.{Formula, formula_of}
use Rattle.wanted_expr.specs.Reading.{Pending, Negating, Grouping, Joining, Awaiting, Having, above, after_operator, completion, deeper, has_pending, is_group, no_term, open_count, open_places, pending_of, ready, reading_state, settle, without_group}

pub above_push : (k : List Pending) (fs : List Frame) (f : Frame) → above k (fs ++ f ∷ []) ≡ pending_of f ∷ above k fs
above_push k [] f = refl
above_push k (g ∷ fs) f = above_push (pending_of g ∷ k) fs f

pub above_pushed : (items fs : List Frame) (f : Frame) → items ≡ fs ++ f ∷ [] → above [] items ≡ pending_of f ∷ above [] fs
above_pushed items fs f e = ap (above []) e ∙ above_push [] fs f

pub settle_on : (term : Formula) (p : Pending) (k : List Pending) → is_group p ≡ false → settle term (p ∷ k) ≡ settle (completion p term) k
settle_on term Negating k e = refl
settle_on term (Grouping at) k e = absurd (true≢false e)
settle_on term (Joining left operator) k e = refl

pub settled : (term : Formula) (k : List Pending) → has_pending k ≡ false → settle term k ≡ Having term k
settled term [] e = refl
settled term (Negating ∷ k) e = absurd (true≢false e)
settled term (Grouping at ∷ k) e = refl
settled term (Joining left operator ∷ k) e = absurd (true≢false e)

pub ready_pushed : (r : Reading) (tree : Tree) (items : List Frame) → r.term ≡ Some tree → items ≡ r.stack.items ++ frames.Left tree And ∷ [] → above [] items ≡ ready (reading_state r)
ready_pushed r tree items e pushed = rw e (above_pushed items r.stack.items (frames.Left tree And) pushed)

pub joins : (r : Reading) (tree : Tree) (at : ℕ) (operator : Operator) (items : List Frame) → r.term ≡ Some tree → items ≡ r.stack.items ++ frames.Left tree operator ∷ [] → after_operator at operator (reading_state r) ≡ Ok (Awaiting (above [] items))
joins r tree at operator items e pushed = rw e (ap (λ (k : List Pending). Ok (Awaiting k)) (sym (above_pushed items r.stack.items (frames.Left tree operator) pushed)))

pub has_last : (items fs : List Frame) (f : Frame) → items ≡ fs ++ f ∷ [] → has_pending (above [] items) ≡ not (is_group (pending_of f))
has_last items fs f e = ap has_pending (above_pushed items fs f e)

pub popped_pending : (old fs : List Frame) (o : Option Frame) → old ≡ fs ++ option_to_list o → has_pending (above [] old) ≡ true → IfSome o (λ f. is_group (pending_of f) ≡ false)
popped_pending old fs None e has = tt
popped_pending old fs (Some f) e has = not-true (is_group (pending_of f)) (sym (has_last old fs f e) ∙ has)

-- The first `(` that is open.

outer_stays : (k : List Pending) (fs : List Frame) (p : ℕ) (ps : List ℕ) → open_places k ≡ p ∷ ps → outermost (open_places (above k fs)) ≡ outermost (p ∷ ps)
outer_stays k [] p ps e = ap outermost e
outer_stays k (frames.Not ∷ fs) p ps e = outer_stays (Negating ∷ k) fs p ps e
outer_stays k (frames.Paren at ∷ fs) p ps e = outer_stays (Grouping at ∷ k) fs at (p ∷ ps) (ap (λ (w : List ℕ). at ∷ w) e)
outer_stays k (frames.Left tree operator ∷ fs) p ps e = outer_stays (Joining (formula_of tree) operator ∷ k) fs p ps e

pub found_paren : (stack rest after : List Frame) (k : List Pending) (first : Frame) (at : ℕ) → open_places k ≡ [] → above [] stack ≡ above k rest → rest ≡ first ∷ after → first ≡ frames.Paren at → Some at ≡ outermost (open_places (above [] stack))
found_paren stack rest after k first at none same e is =
    sym (ap (λ (w : List Pending). outermost (open_places w)) (same ∙ ap (above k) (e ∙ ap (λ (f : Frame). f ∷ after) is)) ∙ outer_stays (Grouping at ∷ k) after at [] (ap (λ (w : List ℕ). at ∷ w) none))

pub none_open : (ps : List ℕ) → outermost ps ≡ None → ps ≡ []
none_open [] e = refl
none_open (at ∷ []) e = absurd cc
none_open (at ∷ place ∷ places) e = absurd (cons_nil (none_open (place ∷ places) e))
  where
    cons_nil : place ∷ places ≡ [] → ⊥
    cons_nil d = cc

pub never_opened : (at : ℕ) (ps : List ℕ) → None ≡ outermost ps → faults.BadParen at ≡ no_term at ps
never_opened at ps e = sym (ap (no_term at) (none_open ps (sym e)))

-- The innermost `(` is closed.

pub deepens : (at : ℕ) (p : Pending) (k whole pushed : List Pending) → k ≡ whole → open_count k < 64 → pushed ≡ p ∷ k → deeper at p whole ≡ Ok (Awaiting pushed)
deepens at p k whole pushed same small e =
    ap (deeper at p) (sym same) ∙ rw (lt-ltb (open_count k) 64 small) (ap (λ (w : List Pending). Ok (Awaiting w)) (sym e))

take_front : (fs : List Frame) (f : Frame) → take (length fs) (fs ++ f ∷ []) ≡ fs
take_front [] f = refl
take_front (g ∷ fs) f = ap (λ (w : List Frame). g ∷ w) (take_front fs f)

behind : (p : Pending) (k : List Pending) → is_group p ≡ true → without_group (p ∷ k) ≡ Some k
behind Negating k e = absurd (true≢false (sym e))
behind (Grouping at) k e = refl
behind (Joining left operator) k e = absurd (true≢false (sym e))

pub group_last : (items fs : List Frame) (f : Frame) (n : ℕ) → items ≡ fs ++ f ∷ [] → n ≡ length fs → is_group (pending_of f) ≡ true → without_group (above [] items) ≡ option_map (λ m. above [] (take m items)) (Some n)
group_last items fs f n e count is =
    ap without_group (above_pushed items fs f e)
    ∙ (behind (pending_of f) (above [] fs) is ∙ ap (λ (w : List Frame). Some (above [] w)) (sym (ap (λ (m : ℕ). take m items) count ∙ (ap (take (length fs)) e ∙ take_front fs f))))

not_behind : (p : Pending) (k : List Pending) → is_group p ≡ false → without_group (p ∷ k) ≡ None
not_behind Negating k e = refl
not_behind (Grouping at) k e = absurd (true≢false e)
not_behind (Joining left operator) k e = refl

pub no_group_last : (items fs : List Frame) (f : Frame) → items ≡ fs ++ f ∷ [] → is_group (pending_of f) ≡ false → without_group (above [] items) ≡ None
no_group_last items fs f e is = ap without_group (above_pushed items fs f e) ∙ not_behind (pending_of f) (above [] fs) is
