-- Pasts in which a repository has made more entries than it may, and what is left of them.
use Rattle.std.proofs.Common.{◌≡◌, ℕ, ◌+◌, ◌<◌, ◌≤◌, Bool, true, false, List, [], ◌∷◌, ◌++◌, inl, inr, refl, sym, ap, ◌∙◌, subst, append_assoc, arith}
use Rattle.std.specs.Prelude.{if◌then◌else◌, length, nat_lt, reverse}
use Rattle.std.proofs.lemmas.Bool.{cases_Bool, false_from_ne_true, lt-ltb, ltb-false, ltb-true}
use Rattle.std.proofs.lemmas.List.{reverse-append, reverse-reverse}
use Rattle.annex_base.specs.Lists.{Each, Member}
use Rattle.annex_base.proofs.Lists.{Each-member, filter_no, filter_yes, list_any_found, list_any_member, list_any_nowhere}
use Rattle.annex_base.proofs.Numbers.{below_more, Member-range, not_both}
use Rattle.run_data.specs.Histories.{most_entries}
use Rattle.run_data.specs.declared.entry.Entry.{Entry}
use Rattle.run_data.specs.declared.run.Run.{Run}
use Rattle.run_model.specs.Past.{is_of}
use Rattle.driver_model.specs.Driver.{Driver, DriverInput}
use Rattle.driver_model.specs.Limits.{AddsOwn, HasFull, StopsAtFull, count_of, is_too_long, within_limit}
use Rattle.driver_model.specs.Rounds.{numbers}
use Rattle.driver_model.specs.Sound.{OnlyAdds}
use Rattle.driver_model.proofs.Numbers.{below_len}

-- ---- how many entries a repository has made

pub count_own : (r : ℕ) (e : Entry) (past : List Entry) → is_of r e ≡ true → count_of (e ∷ past) r ≡ count_of past r + 1
count_own r e past own = let i = ap length (filter_yes (is_of r) e past own) in omega (arith, i)

count_other : (r : ℕ) (e : Entry) (past : List Entry) → is_of r e ≡ false → count_of (e ∷ past) r ≡ count_of past r
count_other r e past other = ap length (filter_no (is_of r) e past other)

-- one more entry makes it more by at most one
pub count_one : (r : ℕ) (e : Entry) (past : List Entry) → (count_of past r ≤ count_of (e ∷ past) r) × (count_of (e ∷ past) r ≤ count_of past r + 1)
count_one r e past = elim (cases_Bool (is_of r e)) [
  | inl own ↦ let i = count_own r e past own in (omega (arith, i), omega (arith, i))
  | inr other ↦ let i = count_other r e past other in (omega (arith, i), omega (arith, i))
]

pub count_more : (r : ℕ) (more past : List Entry) → count_of past r ≤ count_of (more ++ past) r
count_more r [] past = omega arith
count_more r (e ∷ more) past = let i = count_more r more past in let j = (count_one r e (more ++ past)).0 in omega (arith, i, j)

-- ---- pasts that are too long

pub too_long : (g : DriverInput) (past : List Entry) (r : ℕ) → r < length g.repos → most_entries < count_of past r → is_too_long g past ≡ true
too_long g past r known many = list_any_member (λ q. nat_lt most_entries (count_of past q)) (numbers g) r
    (Member-range 0 (length g.repos) r (omega arith) (omega (arith, known))) (lt-ltb most_entries (count_of past r) many)

is_number : (g : DriverInput) (r : ℕ) → Member r (numbers g) → r < length g.repos
is_number g r m = Each-member (λ q. q < length g.repos) (numbers g) r (below_len 0 (length g.repos) (length g.repos) (omega arith)) m

-- one of the repositories has made more than it may
abbrev pub Exceeds : DriverInput → List Entry → Type 0
Exceeds g past = (r : ℕ) × (r < length g.repos) × (most_entries < count_of past r)

exceeds : (g : DriverInput) (past : List Entry) → is_too_long g past ≡ true → Exceeds g past
exceeds g past i =
    let x = list_any_found (λ q. nat_lt most_entries (count_of past q)) (numbers g) i in
    (x.0, is_number g x.0 x.1, ltb-true most_entries (count_of past x.0) x.2)

pub few_entries : (g : DriverInput) (past : List Entry) → is_too_long g past ≡ false → (r : ℕ) → r < length g.repos → count_of past r ≤ most_entries
few_entries g past i r known =
    let none = list_any_nowhere (λ q. nat_lt most_entries (count_of past q)) (numbers g) i in
    let among = Member-range 0 (length g.repos) r (omega arith) (omega (arith, known)) in
    ltb-false most_entries (count_of past r) (Each-member (λ q. nat_lt most_entries (count_of past q) ≡ false) (numbers g) r none among)

pub not_too_long : (g : DriverInput) (past : List Entry) → ((q : ℕ) → q < length g.repos → count_of past q ≤ most_entries) → is_too_long g past ≡ false
not_too_long g past few = false_from_ne_true (is_too_long g past) (λ i.
    let x = exceeds g past i in
    not_both most_entries (count_of past x.0) x.2 (few x.0 x.1))

-- ---- the past as far as it isn't too long

drops : (g : DriverInput) (e : Entry) (past : List Entry) → is_too_long g (e ∷ past) ≡ true → within_limit g (e ∷ past) ≡ within_limit g past
drops g e past i = go (is_too_long g (e ∷ past)) i
  where
    go : (b : Bool) → b ≡ true → (if b then within_limit g past else e ∷ past) ≡ within_limit g past
    go true j = refl
    go false j = absurd (cc)

pub keeps_whole : (g : DriverInput) (past : List Entry) → is_too_long g past ≡ false → within_limit g past ≡ past
keeps_whole g [] i = refl
keeps_whole g (e ∷ past) i = go (is_too_long g (e ∷ past)) i
  where
    go : (b : Bool) → b ≡ false → (if b then within_limit g past else e ∷ past) ≡ e ∷ past
    go true j = absurd (cc)
    go false j = refl

below_next : (n a b c : ℕ) → n ≤ a → a ≤ b → c ≡ b + 1 → n < c
below_next n a b c i j k = omega (arith, i, j, k)

module _ (g : DriverInput) (r : ℕ) (known : r < length g.repos) where
  -- all that comes after a repository has made more than it may is gone
  drops_later : (more past : List Entry) → most_entries < count_of past r → within_limit g (more ++ past) ≡ within_limit g past
  drops_later [] past many = refl
  drops_later (e ∷ more) past many =
      let above_it = below_more most_entries (count_of past r) (count_of (e ∷ more ++ past) r) many (count_more r (e ∷ more) past) in
      drops g e (more ++ past) (too_long g (e ∷ more ++ past) r known above_it) ∙ drops_later more past many

  -- so is each entry of one that has made all that it may
  drops_own : (more past : List Entry) → Each (λ e. is_of r e ≡ true) more → most_entries ≤ count_of past r → within_limit g (more ++ past) ≡ within_limit g past
  drops_own [] past own full = refl
  drops_own (e ∷ more) past own full =
      let above_it = below_next most_entries (count_of past r) (count_of (more ++ past) r) (count_of (e ∷ more ++ past) r) full (count_more r more past) (count_own r e (more ++ past) own.0) in
      drops g e (more ++ past) (too_long g (e ∷ more ++ past) r known above_it) ∙ drops_own more past own.1 full

-- ---- steps that meet a full history

at_most : (n a : ℕ) → a ≡ n → n ≤ a
at_most n a i = omega (arith, i)

next_above : (n a b : ℕ) → a ≡ n → b ≡ a + 1 → n < b
next_above n a b i j = omega (arith, i, j)

pub asks_full : (g : DriverInput) (r : ℕ) (d after : Driver) → r < length g.repos → AddsOwn r d after → count_of d.past r ≡ most_entries → ((q : ℕ) → count_of d.past q ≤ most_entries)
    → within_limit g after.past ≡ d.past
asks_full g r d after known x full few =
    ap (within_limit g) x.adds
    ∙ drops_own g r known x.more d.past x.own (at_most most_entries (count_of d.past r) full)
    ∙ keeps_whole g d.past (not_too_long g d.past (λ q i. few q))

module _ (g : DriverInput) (r : ℕ) (after : Driver) (run : Run) (x : StopsAtFull g r after run) where
  next_many : most_entries < count_of (x.next ∷ x.past) r
  next_many = next_above most_entries (count_of x.past r) (count_of (x.next ∷ x.past) r) x.full (count_own r x.next x.past x.own)

  pub stop_too_long : is_too_long g after.past ≡ true
  stop_too_long =
      let above_it = below_more most_entries (count_of (x.next ∷ x.past) r) (count_of (x.more ++ x.next ∷ x.past) r) next_many (count_more r x.more (x.next ∷ x.past)) in
      subst (λ (past : List Entry). is_too_long g past ≡ true) (sym x.goes_on) (too_long g (x.more ++ x.next ∷ x.past) r x.known above_it)

  stop_past : within_limit g after.past ≡ x.past
  stop_past =
      ap (within_limit g) x.goes_on
      ∙ drops_later g r x.known x.more (x.next ∷ x.past) next_many
      ∙ drops g x.next x.past (too_long g (x.next ∷ x.past) r x.known next_many)
      ∙ keeps_whole g x.past (not_too_long g x.past (λ q i. x.few q))

  pub stop_entries : reverse (within_limit g after.past) ≡ run.entries
  stop_entries = ap reverse stop_past ∙ sym x.entries

-- what only adds has the past behind it
pub past_behind : (d after : Driver) (y : OnlyAdds d after) → after.past ≡ reverse y.0 ++ d.past
past_behind d after y =
    sym (reverse-reverse after.past)
    ∙ ap reverse y.1
    ∙ reverse-append (reverse d.past) y.0
    ∙ ap (λ past. reverse y.0 ++ past) (reverse-reverse d.past)

pub stop_later : (g : DriverInput) (r : ℕ) (mid after : Driver) (run : Run) → StopsAtFull g r mid run → OnlyAdds mid after → StopsAtFull g r after run
stop_later g r mid after run x y = record {
  known = x.known;
  past = x.past;
  entries = x.entries;
  lawful = x.lawful;
  full = x.full;
  few = x.few;
  more = reverse y.0 ++ x.more;
  next = x.next;
  own = x.own;
  goes_on = past_behind mid after y ∙ ap (λ past. reverse y.0 ++ past) x.goes_on ∙ sym (append_assoc (reverse y.0) x.more (x.next ∷ x.past));
}

-- ---- what is left of a past that is too long

all_it_may : (n a b : ℕ) → n < b → a ≤ n → b ≤ a + 1 → a ≡ n
all_it_may n a b i j k = omega (arith, i, j, k)

none_below : (n : ℕ) → n < 0 → ⊥
none_below n i = omega (arith, i)

pub left_full : (g : DriverInput) (past : List Entry) → is_too_long g past ≡ true → HasFull g (within_limit g past)
left_full g [] i = absurd (none_below most_entries (exceeds g [] i).2)
left_full g (e ∷ past) i = subst (HasFull g) (sym (drops g e past i)) (elim (cases_Bool (is_too_long g past)) [
  | inl long ↦ left_full g past long
  | inr short ↦
      let x = exceeds g (e ∷ past) i in
      subst (HasFull g) (sym (keeps_whole g past short))
      (x.0, x.1, all_it_may most_entries (count_of past x.0) (count_of (e ∷ past) x.0) x.2 (few_entries g past short x.0 x.1) (count_one x.0 e past).1)
])
