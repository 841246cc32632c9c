-- How a job came to be the one running job of its number after an entry.
use Rattle.std.proofs.Common.{◌≡◌, ◌⊎◌, inl, inr, ℕ, Bool, true, false, cond, not, ◌==◌, List, [], ◌∷◌, Option, Some, None, find, filter, map, refl, sym, ap, subst, ◌∙◌, true≢false, arith}
use Rattle.std.specs.Prelude.{if◌then◌else◌}
use Rattle.std.proofs.lemmas.Bool.Decides.{nat_tests}
use Rattle.annex_base.specs.Lists.{Member}
use Rattle.annex_base.proofs.Conditions.{by_test}
use Rattle.annex_base.proofs.Lists.{Member-filter_parts, find-filter}
use Rattle.run_data.specs.declared.entry.Entry.{Entry}
use Rattle.run_data.specs.declared.entry.EntryKind.{EntryKind}
use Rattle.run_data.specs.declared.entry.EntryKind.TheVariants.{Begin, Crash, End as ends_job}
use Rattle.node_model.specs.After.{has_read}
use Rattle.node_model.specs.Jobs.{Drops, Fresh, Gets, Part, Phase, Puts, RowsAndEnds, Work, first_part, new_work, running_job, work_after, work_kind, works_after}
use Rattle.node_model.specs.Rows.{option_is}
use Rattle.node_model.specs.Slots.{RunningJob, job_of}
use Rattle.state_reads.specs.Begun.{begins, begun_drop, if_begins, work_at}
use Rattle.state_reads.specs.Reads.{IsOnly}
use Rattle.state_reads.proofs.Moves.{GoesOn, entry_goes}

-- ---- numbers

pub same_number : (n : ℕ) → (n == n) ≡ true
same_number n = grind (arith, nat_tests)

pub number_is : (a b : ℕ) → (a == b) ≡ true → a ≡ b
number_is a b e = grind (arith, nat_tests)

option_has : (o : Option ℕ) (n : ℕ) → option_is o n ≡ true → o ≡ Some n
option_has None n e = absurd (true≢false (sym e))
option_has (Some m) n e = ap (λ (k : ℕ). Some k) (number_is m n e)

-- ---- parts

pub unread_fresh : (part : Part) → has_read part Fresh ≡ false
unread_fresh Gets = refl
unread_fresh Puts = refl
unread_fresh Drops = refl

at_beginning : (part : Part) (phase : Phase) → part ≡ Drops → has_read part phase ≡ false → begins part phase ≡ true
at_beginning Gets phase is h = absurd cc
at_beginning Puts phase is h = absurd cc
at_beginning Drops Fresh is h = refl
at_beginning Drops phase is h = absurd (true≢false h)

-- ---- lists

-- what passes the one test passes the other
filter_within : {X : Type 0} (p q : X → Bool) → ((x : X) → p x ≡ true → q x ≡ true) → (xs : List X) → filter p (filter q xs) ≡ filter p xs
filter_within p q weaker [] = refl
filter_within {X} p q weaker (x ∷ xs) = go (filter_within p q weaker xs) (p x) refl (q x) refl
  where
    go : filter p (filter q xs) ≡ filter p xs → (a : Bool) → p x ≡ a → (b : Bool) → q x ≡ b → filter p (filter q (x ∷ xs)) ≡ filter p (x ∷ xs)
    go more true is true has = rw (has, is) (ap (λ (ys : List X). x ∷ ys) more)
    go more true is false has = absurd (true≢false (sym (weaker x is) ∙ has))
    go more false is true has = rw (has, is) more
    go more false is false has = rw (has, is) more

one_mapped : {X Y : Type 0} (f : X → Y) (xs : List X) (y : Y) → map f xs ≡ y ∷ [] → (x : X) × (xs ≡ x ∷ []) × (f x ≡ y)
one_mapped f [] y e = absurd cc
one_mapped f (x ∷ []) y e = let same : f x ≡ y = cc in (x, refl, same)
one_mapped f (x ∷ z ∷ zs) y e = absurd cc

-- the first of a list in which one passes
only_found : (ws : List Work) (w : Work) → IsOnly ws w → find (λ (v : Work). v.number == w.number) ws ≡ Some w
only_found ws w only =
    let p : Work → Bool = λ v. v.number == w.number in
    sym (find-filter p ws) ∙ ap (find p) only ∙ ap (λ (b : Bool). if b then Some w else None) (same_number w.number)

none_found : (ws : List Work) (number : ℕ) → filter (λ (v : Work). v.number == number) ws ≡ [] → find (λ (v : Work). v.number == number) ws ≡ None
none_found ws number none = let p : Work → Bool = λ v. v.number == number in sym (find-filter p ws) ∙ ap (find p) none

filter_moved : (f : Work → Work) → ((w : Work) → (f w).number ≡ w.number) → (number : ℕ) (ws : List Work)
    → filter (λ (v : Work). v.number == number) (map f ws) ≡ map f (filter (λ (v : Work). v.number == number) ws)
filter_moved f same number [] = refl
filter_moved f same number (w ∷ ws) =
    (λ i. cond (same w i == number) (f w ∷ filter (λ (v : Work). v.number == number) (map f ws)) (filter (λ (v : Work). v.number == number) (map f ws)))
    ∙ go (w.number == number) (filter_moved f same number ws)
  where
    go : (b : Bool) → filter (λ (v : Work). v.number == number) (map f ws) ≡ map f (filter (λ (v : Work). v.number == number) ws)
        → cond b (f w ∷ filter (λ (v : Work). v.number == number) (map f ws)) (filter (λ (v : Work). v.number == number) (map f ws)) ≡ map f (cond b (w ∷ filter (λ (v : Work). v.number == number) ws) (filter (λ (v : Work). v.number == number) ws))
    go true more = ap (λ (vs : List Work). f w ∷ vs) more
    go false more = more

-- ---- how it came to be there

-- it is new: none had its number, and it has read nothing
pub record IsNew (ws : List Work) (x : Work) : Type 0 where
  pub none : find (λ (v : Work). v.number == x.number) ws ≡ None
  pub unread : has_read x.part x.phase ≡ false

-- it was one of those before; where it comes past a drop's first step, it is the drop at whose first step the entry stands
pub record WasThere (ws : List Work) (e : Entry) (x : Work) : Type 0 where
  pub work : Work
  pub found : find (λ (v : Work). v.number == work.number) ws ≡ Some work
  pub only : IsOnly ws work
  pub job : running_job x ≡ running_job work
  pub reads : has_read work.part work.phase ≡ false → has_read x.part x.phase ≡ true → begun_drop ws e.kind ≡ Some work

abbrev pub Came : List Work → Entry → Work → Type 0
Came ws e x = IsNew ws x ⊎ WasThere ws e x

-- as it was
unmoved : (ws : List Work) (e : Entry) (x : Work) → IsOnly ws x → Came ws e x
unmoved ws e x only = inr (record { work = x; found = only_found ws x only; only = only; job = refl; reads = λ unread read. absurd (true≢false (sym read ∙ unread)) })

-- a new job, and those before
begun_came : (ws : List Work) (e : Entry) (new x : Work) → has_read new.part new.phase ≡ false → IsOnly (new ∷ ws) x → Came ws e x
begun_came ws e new x unread only = go (new.number == x.number) only
  where
    go : (b : Bool) → cond b (new ∷ filter (λ (v : Work). v.number == x.number) ws) (filter (λ (v : Work). v.number == x.number) ws) ≡ x ∷ [] → Came ws e x
    go true is =
        let same : new ≡ x = cc in
        let none : filter (λ (v : Work). v.number == x.number) ws ≡ [] = cc in
        inl (record { none = none_found ws x.number none; unread = subst (λ (w : Work). has_read w.part w.phase ≡ false) same unread })
    go false is = unmoved ws e x is

-- one that stays where another ends
stayed_came : (ws : List Work) (e : Entry) (job : ℕ) (x : Work) → IsOnly (filter (λ (v : Work). not (v.number == job)) ws) x → Came ws e x
stayed_came ws e job x only =
    let p : Work → Bool = λ v. v.number == x.number in
    let q : Work → Bool = λ v. not (v.number == job) in
    let among : Member x (filter p (filter q ws)) = subst (λ (vs : List Work). Member x vs) (sym only) (inl refl) in
    let here : q x ≡ true = (Member-filter_parts q ws x (Member-filter_parts p (filter q ws) x among).0).1 in
    unmoved ws e x (sym (filter_within p q (λ v is. ap (λ (n : ℕ). not (n == job)) (number_is v.number x.number is) ∙ here) ws) ∙ only)

-- one that the entry moves, or not
moved_one : (rows : RowsAndEnds) (r : ℕ) (ws : List Work) (e : Entry) (x w : Work) → filter (λ (v : Work). v.number == x.number) ws ≡ w ∷ [] → work_after rows r e w ≡ x → Came ws e x
moved_one rows r ws e x w one is =
    let goes : GoesOn w (work_after rows r e w) = entry_goes rows r e w in
    let job : running_job x ≡ running_job w = ap running_job (sym is) ∙ goes.job in
    let number : x.number ≡ w.number = ap (λ (j : RunningJob). j.number) job in
    let only : IsOnly ws w = subst (λ (n : ℕ). filter (λ (v : Work). v.number == n) ws ≡ w ∷ []) number one in
    let found : find (λ (v : Work). v.number == w.number) ws ≡ Some w = only_found ws w only in
    inr (record {
      work = w;
      found = found;
      only = only;
      job = job;
      reads = λ unread read.
          by_test (option_is (job_of e.kind) w.number)
          (λ its.
          let drops : w.part ≡ Drops = goes.drops (subst (λ (v : Work). has_read v.part v.phase ≡ true) (sym is) read) in
          ap (λ (o : Option ℕ). if_begins (work_at ws o)) (option_has (job_of e.kind) w.number its)
          ∙ ap if_begins found
          ∙ ap (λ (b : Bool). if b then Some w else None) (at_beginning w.part w.phase drops unread))
          (λ other.
          let same : x ≡ w = sym is ∙ ap (λ (b : Bool). if b then work_kind rows r w e e.kind else w) other in
          absurd (true≢false (sym (subst (λ (v : Work). has_read v.part v.phase ≡ true) same read) ∙ unread)));
    })

moved_came : (rows : RowsAndEnds) (r : ℕ) (ws : List Work) (e : Entry) (x : Work) → IsOnly (map (work_after rows r e) ws) x → Came ws e x
moved_came rows r ws e x only =
    let f : Work → Work = work_after rows r e in
    let kept : (v : Work) → (f v).number ≡ v.number = λ v. ap (λ (j : RunningJob). j.number) (entry_goes rows r e v).job in
    let one = one_mapped f (filter (λ (v : Work). v.number == x.number) ws) x (sym (filter_moved f kept x.number ws) ∙ only) in
    moved_one rows r ws e x one.0 one.1 one.2

-- whatever the entry is
pub came : (rows : RowsAndEnds) (r : ℕ) (ws : List Work) (e : Entry) (kind : EntryKind) (x : Work) → IsOnly (works_after rows r ws e kind) x → Came ws e x
came rows r ws e (Begin job what) x only = begun_came ws e (new_work ws job what) x (unread_fresh (first_part what.kind)) only
came rows r ws e (ends_job job outcome) x only = stayed_came ws e job x only
came rows r ws e (Crash clock) x only = absurd cc
came rows r ws e kind x only = moved_came rows r ws e x only
