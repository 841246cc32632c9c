-- One job among those that run.
use Rattle.std.proofs.Common.{◌≡◌, ◌≢◌, inl, inr, ℕ, Bool, true, false, if◌then◌else◌, List, [], ◌∷◌, ◌++◌, filter, map, Option, Some, None, refl, sym, ap, subst, ◌∙◌}
use Rattle.std.specs.Prelude.{find, length, not, slice_get, ◌==◌}
use Rattle.std.specs.Option.{option_map}
use Rattle.std.proofs.lemmas.Bool.{ne_eqb}
use Rattle.annex_base.specs.Lists.{Each, Member}
use Rattle.annex_base.proofs.Conditions.{eqb_refl}
use Rattle.annex_base.proofs.Lists.{Each-append, Each-left, Each-map, Each-member, Each-middle, Each-right, filter_all, filter_no, filter_yes}
use Rattle.node_model.specs.Jobs.{Work}
use Rattle.node_tasks.specs.declared.task.Task.{Task}
use Rattle.node_tasks.specs.Tasks.{number_of, work_now}
use Rattle.running_jobs.specs.Changes.{task_after}
use Rattle.running_jobs.specs.Running.{AllApart, AreApart, job_at}

pub find_mapped : {X Y : Type 0} (f : X → Y) (p : Y → Bool) (xs : List X) → find p (map f xs) ≡ option_map f (find (λ x. p (f x)) xs)
find_mapped f p [] = refl
find_mapped f p (x ∷ xs) = go (find_mapped f p xs) (p (f x))
  where
    go : find p (map f xs) ≡ option_map f (find (λ y. p (f y)) xs) → (b : Bool) → (if b then Some (f x) else find p (map f xs)) ≡ option_map f (if b then Some x else find (λ y. p (f y)) xs)
    go ih true = refl
    go ih false = ih

pub get_middle : {X : Type 0} (front : List X) (x : X) (back : List X) → slice_get (front ++ x ∷ back) (length front) ≡ Some x
get_middle [] x back = refl
get_middle (y ∷ front) x back = get_middle front x back

-- ---- jobs with their own numbers, slots and keys

pub apart_before : (front : List Task) (t : Task) (back : List Task) → AllApart (front ++ t ∷ back) → Each (λ x. AreApart x t) front
apart_before [] t back h = tt
apart_before (x ∷ front) t back h = (Each-middle (AreApart x) front t back h.0, apart_before front t back h.1)

pub apart_behind : (front : List Task) (t : Task) (back : List Task) → AllApart (front ++ t ∷ back) → Each (AreApart t) back
apart_behind [] t back h = h.0
apart_behind (x ∷ front) t back h = apart_behind front t back h.1

-- one of them may be another that is apart from the others
pub apart_with : (front : List Task) (t t' : Task) (back : List Task) → Each (λ x. AreApart x t') front → Each (AreApart t') back → AllApart (front ++ t ∷ back) → AllApart (front ++ t' ∷ back)
apart_with [] t t' back before behind h = (behind, h.1)
apart_with (x ∷ front) t t' back before behind h = (
  Each-append (AreApart x) front (t' ∷ back) (Each-left (AreApart x) front (t ∷ back) h.0) (before.0, (Each-right (AreApart x) front (t ∷ back) h.0).1),
  apart_with front t t' back before.1 behind h.1,
)

pub apart_without : (front : List Task) (t : Task) (back : List Task) → AllApart (front ++ t ∷ back) → AllApart (front ++ back)
apart_without [] t back h = h.1
apart_without (x ∷ front) t back h =
    (Each-append (AreApart x) front back (Each-left (AreApart x) front (t ∷ back) h.0) (Each-right (AreApart x) front (t ∷ back) h.0).1, apart_without front t back h.1)

-- a job is found by its number
pub found_by_number : (ts : List Task) (t : Task) → AllApart ts → Member t ts → find (λ x. number_of x == number_of t) ts ≡ Some t
found_by_number [] t apart among = absurd among
found_by_number (x ∷ xs) t apart (inl same) = subst (λ (y : Task). (if number_of y == number_of t then Some y else find (λ z. number_of z == number_of t) xs) ≡ Some t) same (rw (eqb_refl (number_of t)) refl)
found_by_number (x ∷ xs) t apart (inr later) =
    let other : (number_of x == number_of t) ≡ false = ne_eqb (number_of x) (number_of t) (Each-member (AreApart x) xs t apart.0 later).number in
    rw other (found_by_number xs t apart.1 later)

-- none is found by a number that none has
pub none_by_number : (ts : List Task) (n : ℕ) → Each (λ x. number_of x ≢ n) ts → job_at ts n ≡ None
none_by_number [] n others = refl
none_by_number (x ∷ xs) n others = rw (ne_eqb (number_of x) n others.0) (none_by_number xs n others.1)

-- the others are found as they were, where one of them goes on or is off
pub others_found : (n : ℕ) (front : List Task) (t t' : Task) (back : List Task) (ended : Bool) → number_of t ≢ n → number_of t' ≡ number_of t → job_at (front ++ (task_after ended t' ++ back)) n ≡ job_at (front ++ t ∷ back) n
others_found n [] t t' back true other same = rw (ne_eqb (number_of t) n other) refl
others_found n [] t t' back false other same = rw (ne_eqb (number_of t) n other, ne_eqb (number_of t') n (λ e. other (sym same ∙ e))) refl
others_found n (x ∷ front) t t' back ended other same = ap (λ (o : Option Task). if number_of x == n then Some x else o) (others_found n front t t' back ended other same)

-- ---- their works

-- one of them goes on
works_stay : (f : Work → Work) (ts : List Task) → Each (λ x. f (work_now x) ≡ work_now x) ts → map f (map work_now ts) ≡ map work_now ts
works_stay f [] h = refl
works_stay f (x ∷ xs) h = λ i. h.0 i ∷ works_stay f xs h.1 i

pub works_on : (f : Work → Work) (front : List Task) (t t' : Task) (back : List Task) → Each (λ x. f (work_now x) ≡ work_now x) front → f (work_now t) ≡ work_now t' → Each (λ x. f (work_now x) ≡ work_now x) back
    → map f (map work_now (front ++ t ∷ back)) ≡ map work_now (front ++ t' ∷ back)
works_on f [] t t' back before goes behind = λ i. goes i ∷ works_stay f back behind i
works_on f (x ∷ front) t t' back before goes behind = λ i. before.0 i ∷ works_on f front t t' back before.1 goes behind i

abbrev pub is_left : ℕ → Work → Bool
is_left n w = not (w.number == n)

-- one of them is off
pub works_off : (n : ℕ) (front : List Task) (t : Task) (back : List Task) → Each (λ x. is_left n (work_now x) ≡ true) front → is_left n (work_now t) ≡ false → Each (λ x. is_left n (work_now x) ≡ true) back
    → filter (is_left n) (map work_now (front ++ t ∷ back)) ≡ map work_now (front ++ back)
works_off n [] t back before off behind = filter_no (is_left n) (work_now t) (map work_now back) off ∙ filter_all (is_left n) (map work_now back) (Each-map (λ w. is_left n w ≡ true) work_now back behind)
works_off n (x ∷ front) t back before off behind =
    filter_yes (is_left n) (work_now x) (map work_now (front ++ t ∷ back)) before.0 ∙ ap (λ (ws : List Work). work_now x ∷ ws) (works_off n front t back before.1 off behind)
