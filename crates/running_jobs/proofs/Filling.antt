-- The keys that are filled after the step of a job, and after its end.
use Rattle.std.proofs.Common.{◌≡◌, ℕ, Bool, true, false, if◌then◌else◌, List, [], ◌∷◌, ◌++◌, Option, Some, None, refl, sym, ap, ◌∙◌, true≢false}
use Rattle.std.specs.Prelude.{◌&&◌, ◌||◌, IfSome, bytes_eq, is_some, map, not}
use Rattle.std.specs.List.{list_any}
use Rattle.std.proofs.lemmas.List.Folds.{list_any-append}
use Rattle.annex_base.specs.Lists.{Each}
use Rattle.annex_base.proofs.Conditions.{bytes_eq-refl, bytes_eq-true}
use Rattle.content_lock.specs.Rows.{Rows, is_filling}
use Rattle.drop_phases.specs.declared.phase.Token.{Token}
use Rattle.drop_phases.specs.declared.phase.Token.TheVariants as tokens
use Rattle.drop_phases.specs.Doing.{HasToken}
use Rattle.get_phases.specs.Gets.{fill_in}
use Rattle.node_model.specs.Jobs.{Work}
use Rattle.transfer_turns.specs.Steps.{fills_key}
use Rattle.node_tasks.specs.Worker.{Worker}
use Rattle.node_tasks.specs.Worker.TheVariants.{Gets, Puts}
use Rattle.node_tasks.specs.Workers.{HasFill, work_of}
use Rattle.node_tasks.specs.declared.task.Task.{Task}
use Rattle.node_tasks.specs.declared.task.Task.TheVariants as tasks
use Rattle.node_tasks.specs.Tasks.{OwnsOf, number_of, work_now}
use Rattle.running_jobs.specs.Running.{fills_at}
use Rattle.running_jobs.proofs.Transfers.{as_job}

-- ---- two tests

pub turned : (a b : Bool) → (a && b) ≡ false → (b && a) ≡ false
turned true true h = h
turned true false h = refl
turned false true h = refl
turned false false h = refl

pub one_apart : (f x : Bool) → (f && x) ≡ false → x ≡ true → f ≡ false
one_apart false x apart is = refl
one_apart true x apart is = absurd (true≢false (sym is ∙ apart))

-- ---- who fills a key has the right to

fill_there : (rows : Rows) (key mine : List ℕ) (o : Option (List ℕ)) → IfSome o (λ (own : List ℕ). (own ≡ mine) × (is_filling rows own ≡ true)) → (is_some o && bytes_eq mine key) ≡ true → is_filling rows key ≡ true
fill_there rows key mine None given e = absurd (true≢false (sym e))
fill_there rows key mine (Some own) given e = ap (is_filling rows) (sym (given.0 ∙ bytes_eq-true mine key e)) ∙ given.1

right_of : (rows : Rows) (v : Worker) (key : List ℕ) → HasFill rows (as_job v) → fills_key (work_of (as_job v)) key ≡ true → is_filling rows key ≡ true
right_of rows (Puts w) key has fills = absurd (true≢false (sym fills))
right_of rows (Gets w) key has fills = fill_there rows key w.job.key (fill_in w.phase) has fills

pub right_there : (rows : Rows) (t : Task) (key : List ℕ) → OwnsOf rows t → fills_key (work_now t) key ≡ true → is_filling rows key ≡ true
right_there rows (tasks.Drops j) key owns fills = absurd (true≢false (sym fills))
right_there rows (tasks.Transfers w) key owns fills = right_of rows w.worker key owns.1 fills

-- what a job has of the table, it has where its tokens stay, and the right to each key that it fills
fill_on : (rows rows' : Rows) (mine : List ℕ) (o : Option (List ℕ)) → ((is_some o && bytes_eq mine mine) ≡ true → is_filling rows' mine ≡ true) → IfSome o (λ (own : List ℕ). (own ≡ mine) × (is_filling rows own ≡ true))
    → IfSome o (λ (own : List ℕ). (own ≡ mine) × (is_filling rows' own ≡ true))
fill_on rows rows' mine None filled given = tt
fill_on rows rows' mine (Some own) filled given = (given.0, ap (is_filling rows') given.0 ∙ filled (bytes_eq-refl mine))

right_on : (rows rows' : Rows) (v : Worker) → ((key : List ℕ) → fills_key (work_of (as_job v)) key ≡ true → is_filling rows' key ≡ true) → HasFill rows (as_job v) → HasFill rows' (as_job v)
right_on rows rows' (Puts w) fills has = tt
right_on rows rows' (Gets w) fills has = fill_on rows rows' w.job.key (fill_in w.phase) (fills w.job.key) has

pub owns_on : (rows rows' : Rows) (t : Task) → OwnsOf rows t → ((key : List ℕ) (token : Token) → HasToken (number_of t) key token rows → HasToken (number_of t) key token rows')
    → ((key : List ℕ) → fills_key (work_now t) key ≡ true → is_filling rows' key ≡ true) → OwnsOf rows' t
owns_on rows rows' (tasks.Drops j) owns stay fills = stay j.worker.job.key j.worker.token owns
owns_on rows rows' (tasks.Transfers w) owns stay fills = (stay (work_of w).what.key tokens.Nothing owns.0, right_on rows rows' w.worker fills owns.1)

-- ---- a step of one job, and another that fills the key or doesn't

none : (b : Bool) → (b && false) ≡ false
none true = refl
none false = refl

-- r and m: the key is filled before the step, and after it; f and f': the job fills it before, and after; x: another does
pub stays_apart : (r m f f' x : Bool) → m ≡ (if f' then true else (if f then false else r)) → (f' && not f && r) ≡ false → (x ≡ true → r ≡ true) → (f && x) ≡ false → (x ≡ true → m ≡ true) × ((f' && x) ≡ false)
stays_apart r m f f' false after free there apart = ((λ e. absurd (true≢false (sym e))), none f')
stays_apart r m true f' true after free there apart = absurd (true≢false apart)
stays_apart r m false true true after free there apart = absurd (true≢false (sym (there refl) ∙ free))
stays_apart r m false false true after free there apart = ((λ e. after ∙ there refl), refl)

-- the same after the job is settled
pub settled_there : (ended f' m n x : Bool) → n ≡ (if ended then (not f' && m) else m) → (x ≡ true → m ≡ true) → (f' && x) ≡ false → x ≡ true → n ≡ true
settled_there ended f' m n false is there apart e = absurd (true≢false (sym e))
settled_there false f' m n true is there apart e = is ∙ there refl
settled_there true true m n true is there apart e = absurd (true≢false apart)
settled_there true false m n true is there apart e = is ∙ there refl

-- ---- a step of one job, and all keys: a and b are those of the jobs before and behind it, o those of others

pub filled_on : (a b o f f' r m : Bool) → r ≡ ((a || (f || b)) || o) → ((a || (f || b)) && o) ≡ false → (f && a) ≡ false → (f && b) ≡ false → m ≡ (if f' then true else (if f then false else r)) → (f' && not f && r) ≡ false
    → (m ≡ ((a || (f' || b)) || o)) × (((a || (f' || b)) && o) ≡ false)
filled_on true b o true true r m is apart x y after free = absurd (true≢false x)
filled_on false b o true true r m is apart x y after free = (after, apart)
filled_on true b o false true r m is apart x y after free = absurd (true≢false (sym is ∙ free))
filled_on false true o false true r m is apart x y after free = absurd (true≢false (sym is ∙ free))
filled_on false false o false true r m is apart x y after free = (after, sym is ∙ free)
filled_on true b o true false r m is apart x y after free = absurd (true≢false x)
filled_on false true o true false r m is apart x y after free = absurd (true≢false y)
filled_on false false o true false r m is apart x y after free = (after ∙ sym apart, refl)
filled_on a b o false false r m is apart x y after free = (after ∙ is, apart)

-- it goes on, and so do these keys
pub filled_off : (a b o f' m n : Bool) → m ≡ ((a || (f' || b)) || o) → ((a || (f' || b)) && o) ≡ false → (f' && a) ≡ false → (f' && b) ≡ false → n ≡ (not f' && m) → (n ≡ ((a || b) || o)) × (((a || b) && o) ≡ false)
filled_off true b o true m n is apart x y after = absurd (true≢false x)
filled_off false true o true m n is apart x y after = absurd (true≢false y)
filled_off false false o true m n is apart x y after = (after ∙ sym apart, refl)
filled_off a b o false m n is apart x y after = (after ∙ is, apart)

-- ---- the keys of a list

pub fills_append : (xs ys : List Task) (key : List ℕ) → fills_at (xs ++ ys) key ≡ (fills_at xs key || fills_at ys key)
fills_append xs ys key = list_any-append (λ (t : Task). fills_key (work_now t) key) xs ys

pub apart_all : (f : Bool) (key : List ℕ) (xs : List Task) → Each (λ x. (f && fills_key (work_now x) key) ≡ false) xs → (f && fills_at xs key) ≡ false
apart_all false key xs h = refl
apart_all true key [] h = refl
apart_all true key (x ∷ xs) h = ap (λ (b : Bool). b || fills_at xs key) h.0 ∙ apart_all true key xs h.1

-- the works of a list fill these keys
pub fills_works : (ts : List Task) (key : List ℕ) → fills_at ts key ≡ list_any (λ (w : Work). fills_key w key) (map work_now ts)
fills_works [] key = refl
fills_works (t ∷ ts) key = ap (λ (b : Bool). fills_key (work_now t) key || b) (fills_works ts key)

-- ---- the end of one of the jobs, and of all

-- a: those that are left fill the key; x: the one that ends does; n: the key is filled after its end
pub ended_one : (a x m n : Bool) → n ≡ (not x && m) → (not a && n) ≡ (not (a || (x || false)) && m)
ended_one true x m n is = refl
ended_one false true m n is = is
ended_one false false m n is = is

pub none_filled : (f o m n : Bool) → m ≡ (f || o) → (f && o) ≡ false → n ≡ (not f && m) → (n ≡ o) × ((false && o) ≡ false)
none_filled true o m n is apart after = (after ∙ sym apart, refl)
none_filled false o m n is apart after = (after ∙ is, refl)
