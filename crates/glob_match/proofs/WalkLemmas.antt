-- The walk finds a cut exactly where there is one.
use Rattle.std.proofs.Common.{◌≡◌, ℕ, ◌≤◌, ◌&&◌, Bool, true, false, if◌then◌else◌, List, [], ◌∷◌, length, Option, Some, None, refl, sym, ap, subst, ◌∙◌, inl, inr, arith}
use Rattle.std.proofs.lemmas.Bool.{or_cases, or_right}
use Rattle.std.proofs.lemmas.List.{nil_from_length}
use Rattle.annex_base.proofs.Conditions.{and_second, by_test}
use Rattle.glob_match.specs.declared.item.Item.{Item}
use Rattle.glob_match.specs.Glob.{is_run, takes, is_nothing, some_rest, first_and_rest, glob_matches}
use Rattle.glob_match.specs.Walk.{char_at, segment_at, find_at, or_later}

-- the items end, or a run comes next
abbrev pub stops : List Item → List ℕ → Bool
stops [] text = is_nothing text
stops (i ∷ items) text = is_run i

-- what is left after a segment matches
abbrev pub resumed : Option (List Item × List ℕ) → Bool
resumed None = false
resumed (Some x) = glob_matches x.0 x.1

-- what is left stops, and has no more items
abbrev pub Stops : List Item → Option (List Item × List ℕ) → Type 0
Stops items None = Unit {0}
Stops items (Some x) = (stops x.0 x.1 ≡ true) × (length x.0 ≤ length items)

pub run_matches : (i : Item) (items : List Item) → is_run i ≡ true → glob_matches (i ∷ items) ≡ some_rest (glob_matches items)
run_matches i items r = ap (λ (b : Bool). λ (text : List ℕ). if b then some_rest (glob_matches items) text else first_and_rest (takes i) (glob_matches items) text) r

pub one_matches : (i : Item) (items : List Item) → is_run i ≡ false → glob_matches (i ∷ items) ≡ first_and_rest (takes i) (glob_matches items)
one_matches i items r = ap (λ (b : Bool). λ (text : List ℕ). if b then some_rest (glob_matches items) text else first_and_rest (takes i) (glob_matches items) text) r

pub segment_resumes : (items : List Item) (text : List ℕ) → glob_matches items text ≡ resumed (segment_at items text)
segment_resumes [] [] = refl
segment_resumes [] (c ∷ cs) = refl
segment_resumes (i ∷ items) [] = by_test (is_run i) (λ e. rw e (rw e refl)) (λ e. rw e refl)
segment_resumes (i ∷ items) (c ∷ cs) =
    by_test (is_run i) (λ e. rw e (rw e refl))
    (λ e. by_test (takes i c) (λ t. rw (e, t) (segment_resumes items cs)) (λ t. rw (e, t) refl))

weaker_stops : (i : Item) (items : List Item) (found : Option (List Item × List ℕ)) → Stops items found → Stops (i ∷ items) found
weaker_stops i items None s = tt
weaker_stops i items (Some x) s = (s.0, omega (arith, s.1))

pub segment_stops : (items : List Item) (text : List ℕ) → Stops items (segment_at items text)
segment_stops [] [] = (refl, omega arith)
segment_stops [] (c ∷ cs) = tt
segment_stops (i ∷ items) [] = by_test (is_run i) (λ e. rw e (e, omega arith)) (λ e. rw e tt)
segment_stops (i ∷ items) (c ∷ cs) =
    by_test (is_run i) (λ e. rw e (e, omega arith))
    (λ e. by_test (takes i c) (λ t. rw (e, t) (weaker_stops i items (segment_at items cs) (segment_stops items cs))) (λ t. rw (e, t) tt))

later_stops : (items : List Item) (found later : Option (List Item × List ℕ)) → Stops items found → Stops items later → Stops items (or_later found later)
later_stops items None later s t = t
later_stops items (Some x) later s t = s

pub find_stops : (items : List Item) (text : List ℕ) → Stops items (find_at items text)
find_stops items [] = segment_stops items []
find_stops items (c ∷ cs) = later_stops items (segment_at items (c ∷ cs)) (find_at items cs) (segment_stops items (c ∷ cs)) (find_stops items cs)

pub rest_from_whole : (p : List ℕ → Bool) (text : List ℕ) → p text ≡ true → some_rest p text ≡ true
rest_from_whole p [] e = e
rest_from_whole p (c ∷ cs) e = rw e refl

rest_twice : (p : List ℕ → Bool) (text : List ℕ) → some_rest (some_rest p) text ≡ true → some_rest p text ≡ true
rest_twice p [] e = e
rest_twice p (c ∷ cs) e =
    elim (or_cases (some_rest p (c ∷ cs)) (some_rest (some_rest p) cs) e) [
      | inl here ↦ here
      | inr later ↦ or_right (p (c ∷ cs)) (some_rest p cs) (rest_twice p cs later)
    ]

rest_past_first : (one : ℕ → Bool) (p : List ℕ → Bool) (c : ℕ) (cs : List ℕ) → some_rest (first_and_rest one p) (c ∷ cs) ≡ true → some_rest p cs ≡ true
rest_past_first one p c [] e =
    elim (or_cases (one c && p []) false e) [
      | inl here ↦ and_second (one c) (p []) here
      | inr later ↦ cc
    ]
rest_past_first one p c (d ∷ ds) e =
    elim (or_cases (one c && p (d ∷ ds)) (some_rest (first_and_rest one p) (d ∷ ds)) e) [
      | inl here ↦ rest_from_whole p (d ∷ ds) (and_second (one c) (p (d ∷ ds)) here)
      | inr later ↦ or_right (p (d ∷ ds)) (some_rest p ds) (rest_past_first one p d ds later)
    ]

-- where the items match some rest, what is left after a segment does too
Slides : Option (List Item × List ℕ) → Type 0
Slides None = Unit {0}
Slides (Some x) = some_rest (glob_matches x.0) x.1 ≡ true

slide : (items : List Item) (text : List ℕ) → some_rest (glob_matches items) text ≡ true → Slides (segment_at items text)
unfolding Slides
slide [] [] e = e
slide [] (c ∷ cs) e = tt
slide (i ∷ items) [] e = by_test (is_run i) (λ r. rw r e) (λ r. rw r tt)
slide (i ∷ items) (c ∷ cs) e =
    by_test (is_run i) (λ r. rw r e)
    (λ r. by_test (takes i c)
    (λ t. rw (r, t) (slide items cs (rest_past_first (takes i) (glob_matches items) c cs (subst (λ (f : List ℕ → Bool). some_rest f (c ∷ cs) ≡ true) (one_matches i items r) e))))
    (λ t. rw (r, t) tt))

-- at a stop, what matches some rest matches here
whole_from_rest : (items : List Item) (text : List ℕ) → stops items text ≡ true → some_rest (glob_matches items) text ≡ true → glob_matches items text ≡ true
whole_from_rest [] [] s e = refl
whole_from_rest [] (c ∷ cs) s e = cc
whole_from_rest (i ∷ items) text s e =
    let r : is_run i ≡ true = s in
    let k : some_rest (some_rest (glob_matches items)) text ≡ true = subst (λ (f : List ℕ → Bool). some_rest f text ≡ true) (run_matches i items r) e in
    rw r (rest_twice (glob_matches items) text k)

-- the first place where a segment goes is as good as a later one
first_is_enough : (items : List Item) (c : ℕ) (cs : List ℕ) (found later : Option (List Item × List ℕ)) → segment_at items (c ∷ cs) ≡ found → some_rest (glob_matches items) cs ≡ resumed later → some_rest (glob_matches items) (c ∷ cs) ≡ resumed (or_later found later)
unfolding Slides
first_is_enough items c cs None later here there = rw (segment_resumes items (c ∷ cs), here) there
first_is_enough items c cs (Some x) later here there =
    by_test (some_rest (glob_matches items) (c ∷ cs))
    (λ e. let s : Slides (Some x) = subst Slides here (slide items (c ∷ cs) e) in
    let stop : Stops items (Some x) = subst (Stops items) here (segment_stops items (c ∷ cs)) in
    e ∙ sym (whole_from_rest x.0 x.1 stop.0 s))
    (λ e. let one : glob_matches items (c ∷ cs) ≡ glob_matches x.0 x.1 = segment_resumes items (c ∷ cs) ∙ ap resumed here in
    by_test (glob_matches x.0 x.1)
    (λ t. let k : glob_matches items (c ∷ cs) ≡ true = one ∙ t in let w = rest_from_whole (glob_matches items) (c ∷ cs) k in cc)
    (λ t. e ∙ sym t))

pub find_resumes : (items : List Item) (text : List ℕ) → some_rest (glob_matches items) text ≡ resumed (find_at items text)
find_resumes items [] = segment_resumes items []
find_resumes items (c ∷ cs) = first_is_enough items c cs (segment_at items (c ∷ cs)) (find_at items cs) refl (find_resumes items cs)

-- What the code tells at each place.

ends_here : (text : List ℕ) → None ≡ char_at text → Some ([], text) ≡ segment_at [] text
ends_here [] e = refl
ends_here (c ∷ cs) e = cc

pub segment_ends : (items : List Item) (text : List ℕ) → length items ≡ 0 → None ≡ char_at text → Some (items, text) ≡ segment_at items text
segment_ends items text none end = rw (nil_from_length items none) (ends_here text end)

goes_on : (text : List ℕ) (x : ℕ × List ℕ) → Some x ≡ char_at text → None ≡ segment_at [] text
goes_on [] x e = cc
goes_on (c ∷ cs) x e = refl

pub segment_goes_on : (items : List Item) (text : List ℕ) (x : ℕ × List ℕ) → length items ≡ 0 → Some x ≡ char_at text → None ≡ segment_at items text
segment_goes_on items text x none e = rw (nil_from_length items none) (goes_on text x e)

pub find_here : (items : List Item) (text : List ℕ) (x : List Item × List ℕ) → Some x ≡ segment_at items text → Some x ≡ find_at items text
find_here items [] x e = e
find_here items (c ∷ cs) x e = ap (λ (o : Option (List Item × List ℕ)). or_later o (find_at items cs)) e

pub none_resumes : (found : Option (List Item × List ℕ)) → None ≡ found → resumed found ≡ false
none_resumes found e = ap resumed (sym e)

-- what was found matches where the whole does, and stops
pub record Continues (before : List Item) (whole : Bool) (items : List Item) (text : List ℕ) : Type 0 where
  pub same : glob_matches items text ≡ whole
  pub stop : stops items text ≡ true
  pub fewer : length items ≤ length before

continues_from : (before : List Item) (whole : Bool) (found : Option (List Item × List ℕ)) (x : List Item × List ℕ) → Some x ≡ found → whole ≡ resumed found → Stops before found → Continues before whole x.0 x.1
continues_from before whole found x e same s =
    let t : Stops before (Some x) = subst (Stops before) (sym e) s in
    record { same = ap resumed e ∙ sym same; stop = t.0; fewer = t.1 }

pub segment_continues : (items : List Item) (text : List ℕ) (x : List Item × List ℕ) → Some x ≡ segment_at items text → Continues items (glob_matches items text) x.0 x.1
segment_continues items text x e = continues_from items (glob_matches items text) (segment_at items text) x e (segment_resumes items text) (segment_stops items text)

pub find_continues : (items : List Item) (text : List ℕ) (x : List Item × List ℕ) → Some x ≡ find_at items text → Continues items (some_rest (glob_matches items) text) x.0 x.1
find_continues items text x e = continues_from items (some_rest (glob_matches items) text) (find_at items text) x e (find_resumes items text) (find_stops items text)

-- a stop with items left is a run
pub run_at_stop : (i : Item) (items : List Item) (text : List ℕ) → stops (i ∷ items) text ≡ true → glob_matches (i ∷ items) text ≡ some_rest (glob_matches items) text
run_at_stop i items text s = ap (λ (f : List ℕ → Bool). f text) (run_matches i items s)

pub rests_at_run : (items : List Item) (i : Item) (after : List Item) (text : List ℕ) → items ≡ i ∷ after → stops items text ≡ true → glob_matches items text ≡ some_rest (glob_matches after) text
rests_at_run items i after text e s =
    ap (λ (is : List Item). glob_matches is text) e ∙ run_at_stop i after text (subst (λ (is : List Item). stops is text ≡ true) e s)
