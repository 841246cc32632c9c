-- What a store has of the holds, and what the rows have of bars, as they change.
use Rattle.std.proofs.Common.{◌≡◌, ℕ, ◌<◌, Bool, true, false, not, List, [], ◌∷◌, Option, Some, None, refl, sym, ap, ◌∙◌, subst, arith, cond}
use Rattle.std.specs.Prelude.{◌==◌, ◌&&◌, if◌then◌else◌, All, bytes_eq, filter, is_some, length, map, nat_lt}
use Rattle.std.specs.Map.{lookup}
use Rattle.std.specs.Option.{ForSome, option_map}
use Rattle.std.proofs.lemmas.Option.{same_Some}
use Rattle.annex_base.specs.Lists.{Each}
use Rattle.annex_base.proofs.Conditions.{bytes_eq-refl, bytes_eq-true}
use Rattle.annex_base.proofs.Lists.{All-from_Each, Each-from_All, cons_first, cons_rest}
use Rattle.drop_proof.specs.declared.rule.Need.{Need}
use Rattle.run_data.specs.declared.entry.By.{By}
use Rattle.run_data.specs.declared.entry.EntryKind.TheVariants as kinds
use Rattle.run_data.specs.declared.row.Hold.{Hold}
use Rattle.node_model.specs.Rows.{restart, same_owner}
use Rattle.object_store.specs.declared.keeper.HoldRecord.{HoldRecord}
use Rattle.object_store.specs.Stores.{Contents, with_at, with_record, without_record}
use Rattle.content_lock.specs.Rows.{AreAfter, Rows, bar_at}
use Rattle.content_lock.specs.Stored.{Agrees, AgreesInEnds, AreContentsAfter, AreRecordsOf, Label, label_in, label_of, record_of, with_new, without_content}
use Rattle.content_lock.specs.Tokens.{BarView, HasBar, HasShare, Owns, ShareView, keep_numbered, others_of}
use Rattle.content_lock.proofs.TokenLemmas.{given_new, others_own_new, owns_new}

-- ---- records

-- a greater number's record stands first
stands_first : (rs : List HoldRecord) (hs : List Hold) (r : HoldRecord) → AreRecordsOf hs rs → Each (λ h. h.number < r.number) hs → with_record rs r ≡ r ∷ rs
stands_first [] hs r same less = refl
stands_first (x ∷ xs) [] r same less = absurd cc
stands_first (x ∷ xs) (h ∷ hs) r same less =
    let number : x.number ≡ h.number = ap (λ (l : Label). l.0) (cons_first (label_in x) (label_of h) (map label_in xs) (map label_of hs) same) in
    let lt : x.number < r.number = subst (λ (n : ℕ). n < r.number) (sym number) less.0 in
    let is : nat_lt x.number r.number ≡ true = grind arith in
    ap (λ (b : Bool). if b then r ∷ x ∷ xs else (if x.number == r.number then r ∷ xs else x ∷ with_record xs r)) is

pub recorded_new : (known : Option (List HoldRecord)) (hs : List Hold) (r : HoldRecord) → Agrees known hs → All (λ h. h.number < r.number) hs → option_map (λ rs. with_record rs r) known ≡ with_new r known
recorded_new None hs r agrees less = refl
recorded_new (Some rs) hs r agrees less = ap (λ (l : List HoldRecord). Some l) (stands_first rs hs r (agrees rs refl) (Each-from_All (λ h. h.number < r.number) hs less))

-- each hold has the number of its record
numbers_each : (rs : List HoldRecord) (hs : List Hold) (n : ℕ) → AreRecordsOf hs rs → Each (λ r. r.number < n) rs → Each (λ h. h.number < n) hs
numbers_each rs [] n same less = tt
numbers_each [] (h ∷ hs) n same less = absurd cc
numbers_each (x ∷ xs) (h ∷ hs) n same less =
    let number : x.number ≡ h.number = ap (λ (l : Label). l.0) (cons_first (label_in x) (label_of h) (map label_in xs) (map label_of hs) same) in
    (subst (λ (m : ℕ). m < n) number less.0, numbers_each xs hs n (cons_rest (label_in x) (label_of h) (map label_in xs) (map label_of hs) same) less.1)

pub numbers_told : (rs : List HoldRecord) (hs : List Hold) (n : ℕ) → AreRecordsOf hs rs → All (λ r. r.number < n) rs → All (λ h. h.number < n) hs
numbers_told rs hs n same less = All-from_Each (λ h. h.number < n) hs (numbers_each rs hs n same (Each-from_All (λ r. r.number < n) rs less))

filter_over : {X Y : Type 0} (f : X → Y) (p : Y → Bool) (xs : List X) → filter p (map f xs) ≡ map f (filter (λ x. p (f x)) xs)
filter_over f p [] = refl
filter_over {X} {Y} f p (x ∷ xs) =
    let ih : filter p (map f xs) ≡ map f (filter (λ x. p (f x)) xs) = filter_over f p xs in
    elim (p (f x)) as (λ b. (if b then f x ∷ filter p (map f xs) else filter p (map f xs)) ≡ map f (if b then x ∷ filter (λ x. p (f x)) xs else filter (λ x. p (f x)) xs))
    [ true ↦ ap (λ (l : List Y). f x ∷ l) ih | false ↦ ih ]

pub agrees_without : (known : Option (List HoldRecord)) (hs : List Hold) (n : ℕ) → Agrees known hs → Agrees (option_map (λ rs. without_record rs n) known) (others_of n hs)
agrees_without None hs n agrees x is = absurd cc
agrees_without (Some rs) hs n agrees x is =
    let p : Label → Bool = λ l. not (l.0 == n) in
    let left : without_record rs n ≡ x = same_Some (without_record rs n) x is in
    ap (map label_in) (sym left) ∙ sym (filter_over label_in p rs) ∙ ap (filter p) (agrees rs refl) ∙ filter_over label_of p hs

pub ends_without : (known : Option (List HoldRecord)) (hs : List Hold) (n : ℕ) → AgreesInEnds known hs → AgreesInEnds (option_map (λ rs. without_record rs n) known) (others_of n hs)
ends_without None hs n agrees x is = absurd cc
ends_without (Some rs) hs n agrees x is =
    let p : HoldRecord → Bool = λ r. not (r.number == n) in
    sym (same_Some (without_record rs n) x is) ∙ ap (filter p) (agrees rs refl) ∙ filter_over record_of p hs

pub records_kept : (n : ℕ) (hs : List Hold) → map record_of (map (keep_numbered n) hs) ≡ map record_of hs
records_kept n [] = refl
records_kept n (h ∷ hs) = ap (λ (l : List HoldRecord). record_of h ∷ l) (records_kept n hs)

pub labels_kept : (n : ℕ) (hs : List Hold) → map label_of (map (keep_numbered n) hs) ≡ map label_of hs
labels_kept n [] = refl
labels_kept n (h ∷ hs) = ap (λ (l : List Label). label_of h ∷ l) (labels_kept n hs)

pub labels_restarted : (now : ℕ) (hs : List Hold) → map label_of (map (restart now) hs) ≡ map label_of hs
labels_restarted now [] = refl
labels_restarted now (h ∷ hs) = ap (λ (l : List Label). label_of h ∷ l) (labels_restarted now hs)

pub restarted_kept : (now : ℕ) (hs : List Hold) → Each (λ h. h.kept ≡ true) (map (restart now) hs)
restarted_kept now [] = tt
restarted_kept now (h ∷ hs) = (refl, restarted_kept now hs)

-- ---- a share that was taken

module _ (was now : Rows) (number end : ℕ) (owner : By) (key given : List ℕ) (same : given ≡ key) (less : All (λ h. h.number < number) was.holds)
    (after : AreAfter (kinds.Share number end owner given) was now) where
  abbrev new_hold : Hold
  new_hold = record { number = number; key = given; end = end; kept = false; owner = owner }

  pub share_owns : Owns owner None was.holds → Owns owner (Some (record { number = number; key = key; owner = owner })) now.holds
  share_owns owns =
      subst (λ (hs : List Hold). Owns owner (Some (record { number = number; key = key; owner = owner })) hs) (sym after.holds)
      (subst (λ (k : List ℕ). Owns owner (Some (record { number = number; key = k; owner = owner })) (new_hold ∷ was.holds)) same (owns_new new_hold was.holds refl less owns))

  pub share_given : HasShare now.holds (record { number = number; key = key; owner = owner })
  share_given =
      subst (λ (hs : List Hold). HasShare hs (record { number = number; key = key; owner = owner })) (sym after.holds)
      (subst (λ (k : List ℕ). HasShare (new_hold ∷ was.holds) (record { number = number; key = k; owner = owner })) same (given_new new_hold was.holds refl))

  pub share_others : (by : By) (share : Option ShareView) → same_owner owner by ≡ false → Owns by share was.holds → Owns by share now.holds
  share_others by share differ owns = subst (Owns by share) (sym after.holds) (others_own_new new_hold was.holds by share less differ owns)

-- ---- bars

pub bar_others : (was now : Rows) (key : List ℕ) (job : ℕ) → ((need : Need) → AreAfter (kinds.Bar job need key) was now) → bar_at was key ≡ None → (other : BarView) → HasBar was other → HasBar now other
bar_others was now key job after free other has =
    (after (record { n = 0; m = 0 })).bars other.key ∙ go (bytes_eq key other.key) refl
  where
    go : (b : Bool) → bytes_eq key other.key ≡ b → (if b then Some job else bar_at was other.key) ≡ Some other.job
    go true same =
        let none : bar_at was other.key ≡ None = ap (bar_at was) (sym (bytes_eq-true key other.key same)) ∙ free in
        let some : None ≡ Some other.job = sym none ∙ has in
        absurd cc
    go false differ = has

pub bar_given : (was now : Rows) (key : List ℕ) (job : ℕ) → ((need : Need) → AreAfter (kinds.Bar job need key) was now) → HasBar now (record { key = key; job = job })
bar_given was now key job after =
    (after (record { n = 0; m = 0 })).bars key ∙ ap (λ (b : Bool). if b then Some job else bar_at was key) (bytes_eq-refl key)

abbrev Bars : Type 0
Bars = List (List ℕ × ℕ)

pub unbar_others : (old new : Bars) (key : List ℕ) (job : ℕ) → ((q : List ℕ) → lookup (bytes_eq q) new ≡ cond (bytes_eq key q) None (lookup (bytes_eq q) old)) → lookup (bytes_eq key) old ≡ Some job
    → (other : BarView) → (other.job == job) ≡ false → lookup (bytes_eq other.key) old ≡ Some other.job → lookup (bytes_eq other.key) new ≡ Some other.job
unbar_others old new key job off given other differ has = off other.key ∙ go (bytes_eq key other.key) refl
  where
    go : (b : Bool) → bytes_eq key other.key ≡ b → cond b None (lookup (bytes_eq other.key) old) ≡ Some other.job
    go false differs = has
    go true same =
        let one : job ≡ other.job = same_Some job other.job (sym given ∙ ap (λ (k : List ℕ). lookup (bytes_eq k) old) (bytes_eq-true key other.key same) ∙ has) in
        absurd (apart job other.job one differ)
      where
        apart : (a b : ℕ) → a ≡ b → (b == a) ≡ false → ⊥
        apart a b same differs = grind arith

-- ---- contents

pub removed_contents : (known : Option Contents) (key : List ℕ) (by : By) → ForSome known (λ was. ForSome (without_content known key) (AreContentsAfter (kinds.Gone by key) was))
removed_contents None key by was is now left = absurd cc
removed_contents (Some contents) key by was is now left =
    subst (λ (c : Contents). AreContentsAfter (kinds.Gone by key) c now) (same_Some contents was is)
    (subst (AreContentsAfter (kinds.Gone by key) contents) (same_Some (with_at contents key None) now left)
    (record {
      present = λ k. there (bytes_eq key k) (contents k);
      sizes = λ k. long (bytes_eq key k) (contents k);
    }))
  where
    there : (b : Bool) (c : Option (List ℕ)) → is_some (if b then None else c) ≡ (is_some c && not b)
    there true None = refl
    there true (Some bytes) = refl
    there false None = refl
    there false (Some bytes) = refl

    long : (b : Bool) (c : Option (List ℕ)) → option_map length (if b then None else c) ≡ (if b then None else option_map length c)
    long true c = refl
    long false c = refl
