-- Which hold is named of those that block.
use Rattle.std.proofs.Common.{◌≡◌, inl, inr, ℕ, ◌<◌, ◌≤◌, Bool, true, false, not, List, [], ◌∷◌, ◌++◌, Option, Some, None, is_some, refl, sym, ap, ◌∙◌, subst, arith, append-nil, true≢false}
use Rattle.std.specs.Prelude.{◌==◌, ◌&&◌, ◌||◌, if◌then◌else◌, nat_lt, max, filter, fold, map, reverse, find, bytes_eq, IfNone, IfSome}
use Rattle.std.specs.List.{list_any}
use Rattle.std.specs.Map.{values_of}
use Rattle.std.proofs.lemmas.List.{append_assoc}
use Rattle.std.proofs.lemmas.List.Elements.{filter-append}
use mathlib.Core.List.{reverse-cons}
use Rattle.annex_base.specs.Lists.{Each, Member}
use Rattle.std.proofs.lemmas.Option.{same_Some}
use Rattle.annex_base.proofs.Conditions.{eqb_less, eqb_refl, if_same}
use Rattle.annex_base.proofs.Lists.{All-from_Each, Contains-from_Member, Each-always, Each-both, Each-filter, Each-map, Each-member, Each-weaker, filter_none, filter_yes}
use Rattle.run_data.specs.declared.row.Hold.{Hold}
use Rattle.node_model.specs.DropStep.{until}
use Rattle.node_model.specs.Rows.{blocks, is_blocked}
use Rattle.content_lock.specs.declared.hold.Blocker.{Blocker}
use Rattle.content_lock.specs.Blocking.{Names, last_blocking}
use Rattle.content_lock.specs.Indexed.{AreFalling, AreRising, IsIndexed, after_hold, blocker_of, blocker_with, end_of, hold_at, listed_at, on_key, outlasts}
use Rattle.content_lock.proofs.IndexedLemmas.{Lists, numbers_on}
use Rattle.content_lock.proofs.NumberedLemmas.{falling-filter, lookup_is}

-- ---- until when holds block, with one more at the front

max_assoc : (a b c : ℕ) → max (max a b) c ≡ max a (max b c)
max_assoc a b c = omega arith

fold_max : (a b : ℕ) (hs : List Hold) → fold (λ (n : ℕ) (x : Hold). max n x.end) (max a b) hs ≡ max a (fold (λ (n : ℕ) (x : Hold). max n x.end) b hs)
fold_max a b [] = refl
fold_max a b (h ∷ hs) = ap (λ (n : ℕ). fold (λ (n : ℕ) (x : Hold). max n x.end) n hs) (max_assoc a b h.end) ∙ fold_max a (max b h.end) hs

abbrev later_of : ℕ → Option (Option ℕ) → Option ℕ
later_of end None = Some end
later_of end (Some None) = None
later_of end (Some (Some other)) = Some (max end other)

abbrev is_open : Hold → Bool
is_open h = not h.kept

with_open : (end : ℕ) (x : Hold) (xs : List Hold) (b : Bool)
    → Some (if b then None else Some (fold (λ (n : ℕ) (y : Hold). max n y.end) (max end x.end) xs))
    ≡ Some (later_of end (Some (if b then None else Some (fold (λ (n : ℕ) (y : Hold). max n y.end) x.end xs))))
with_open end x xs true = refl
with_open end x xs false = ap (λ (n : ℕ). Some (Some n)) (fold_max end x.end xs)

until_cons : (h : Hold) (hs : List Hold) → until (h ∷ hs) ≡ Some (if h.kept then later_of h.end (until hs) else None)
until_cons h hs = go h.kept hs
  where
    go : (b : Bool) (hs : List Hold)
        → Some (if not b || list_any is_open hs then None else Some (fold (λ (n : ℕ) (x : Hold). max n x.end) h.end hs)) ≡ Some (if b then later_of h.end (until hs) else None)
    go false hs = refl
    go true [] = refl
    go true (x ∷ xs) = with_open h.end x xs (list_any is_open (x ∷ xs))

-- ---- what is named

-- none blocks longer
abbrev NotLonger : Option ℕ → Hold → Type 0
NotLonger None x = Unit {0}
NotLonger (Some end) x = (x.kept ≡ true) × (x.end ≤ end)

record IsNamed (b : Blocker) (hs : List Hold) : Type 0 where
  longest : until hs ≡ Some b.until
  bound : Each (NotLonger b.until) hs
  among : Member b.hold (map (λ (x : Hold). x.number) (last_blocking b.until hs))
  least : Each (λ m. b.hold ≤ m) (map (λ (x : Hold). x.number) (last_blocking b.until hs))

abbrev fresh : Hold → Blocker
fresh h = record { hold = h.number; until = end_of h }

own_last : (h : Hold) (rest : List Hold) → last_blocking (end_of h) rest ≡ [] → last_blocking (end_of h) (h ∷ rest) ≡ h ∷ []
own_last h rest none = go h.kept refl none
  where
    go : (b : Bool) → h.kept ≡ b → last_blocking (if b then Some h.end else None) rest ≡ [] → last_blocking (if b then Some h.end else None) (h ∷ rest) ≡ h ∷ []
    go true k none = filter_yes (λ (x : Hold). x.end == h.end) h rest (eqb_refl h.end) ∙ ap (λ (l : List Hold). h ∷ l) none
    go false k none = filter_yes is_open h rest (ap not k) ∙ ap (λ (l : List Hold). h ∷ l) none

own_bound : (h : Hold) → NotLonger (end_of h) h
own_bound h = go h.kept refl
  where
    go : (b : Bool) → h.kept ≡ b → NotLonger (if b then Some h.end else None) h
    go true k = (k, omega arith)
    go false k = tt

-- a hold that lasts longer than each older one
fresh_named : (h : Hold) (rest : List Hold) → until (h ∷ rest) ≡ Some (end_of h) → Each (NotLonger (end_of h)) rest → last_blocking (end_of h) rest ≡ [] → IsNamed (fresh h) (h ∷ rest)
fresh_named h rest longest bound none =
    let own = own_last h rest none in
    record {
      longest = longest;
      bound = (own_bound h, bound);
      among = subst (λ (l : List Hold). Member h.number (map (λ (x : Hold). x.number) l)) (sym own) (inl refl);
      least = subst (λ (l : List Hold). Each (λ m. h.number ≤ m) (map (λ (x : Hold). x.number) l)) (sym own) (omega arith, tt);
    }

longer_named : (h : Hold) (found : Blocker) (hs : List Hold) → IsNamed found hs → outlasts h found.until ≡ true → IsNamed (fresh h) (h ∷ hs)
longer_named h found hs named longer = go found.until h.kept refl named.longest named.bound longer
  where
    go : (u : Option ℕ) (b : Bool) → h.kept ≡ b → until hs ≡ Some u → Each (NotLonger u) hs → outlasts h u ≡ true → IsNamed (fresh h) (h ∷ hs)
    go None b k longest bound longer = absurd (true≢false (sym longer))
    go (Some o) false k longest bound longer =
        let unending : end_of h ≡ None = ap (λ (c : Bool). if c then Some h.end else None) k in
        fresh_named h hs (until_cons h hs ∙ ap (λ (c : Bool). Some (if c then later_of h.end (until hs) else None)) k ∙ ap Some (sym unending))
        (subst (λ (e : Option ℕ). Each (NotLonger e) hs) (sym unending) (Each-always (NotLonger None) (λ x. tt) hs))
        (subst (λ (e : Option ℕ). last_blocking e hs ≡ []) (sym unending) (filter_none is_open hs (Each-weaker (NotLonger (Some o)) (λ x. is_open x ≡ false) (λ x is. ap not is.0) hs bound)))
    go (Some o) true k longest bound longer =
        let ending : end_of h ≡ Some h.end = ap (λ (c : Bool). if c then Some h.end else None) k in
        let t : nat_lt o h.end ≡ true = ap (λ (c : Bool). not c || nat_lt o h.end) (sym k) ∙ longer in
        let lt : o < h.end = grind arith in
        let greater : max h.end o ≡ h.end = omega arith in
        fresh_named h hs
        (until_cons h hs ∙ ap (λ (c : Bool). Some (if c then later_of h.end (until hs) else None)) k ∙ ap (λ (v : Option (Option ℕ)). Some (later_of h.end v)) longest ∙ ap (λ (n : ℕ). Some (Some n)) greater ∙ ap Some (sym ending))
        (subst (λ (e : Option ℕ). Each (NotLonger e) hs) (sym ending) (Each-weaker (NotLonger (Some o)) (NotLonger (Some h.end)) (λ x is. (is.0, omega (arith, is.1, lt))) hs bound))
        (subst (λ (e : Option ℕ). last_blocking e hs ≡ []) (sym ending)
        (filter_none (λ (x : Hold). x.end == h.end) hs (Each-weaker (NotLonger (Some o)) (λ x. (x.end == h.end) ≡ false) (λ x is. eqb_less x.end h.end (omega (arith, is.1, lt))) hs bound)))

-- an older hold stays the least
more_last : (p : Hold → Bool) (h : Hold) (hs : List Hold) (m : ℕ) → Each (λ x. x.number < h.number) hs → Member m (map (λ (x : Hold). x.number) (filter p hs)) → Each (λ n. m ≤ n) (map (λ (x : Hold). x.number) (filter p hs))
    → Member m (map (λ (x : Hold). x.number) (filter p (h ∷ hs))) × Each (λ n. m ≤ n) (map (λ (x : Hold). x.number) (filter p (h ∷ hs)))
more_last p h hs m less among least = go (p h)
  where
    below : m < h.number
    below = Each-member (λ n. n < h.number) (map (λ (x : Hold). x.number) (filter p hs)) m (Each-map (λ n. n < h.number) (λ (x : Hold). x.number) (filter p hs) (Each-filter (λ x. x.number < h.number) p hs less)) among

    go : (b : Bool) → Member m (map (λ (x : Hold). x.number) (if b then h ∷ filter p hs else filter p hs)) × Each (λ n. m ≤ n) (map (λ (x : Hold). x.number) (if b then h ∷ filter p hs else filter p hs))
    go true = (inr among, (omega (arith, below), least))
    go false = (among, least)

shorter_named : (h : Hold) (found : Blocker) (hs : List Hold) → Each (λ x. x.number < h.number) hs → IsNamed found hs → outlasts h found.until ≡ false → IsNamed found (h ∷ hs)
shorter_named h found hs less named shorter = go found.until h.kept refl named.longest named.bound named.among named.least shorter
  where
    go : (u : Option ℕ) (b : Bool) → h.kept ≡ b → until hs ≡ Some u → Each (NotLonger u) hs
        → Member found.hold (map (λ (x : Hold). x.number) (last_blocking u hs)) → Each (λ m. found.hold ≤ m) (map (λ (x : Hold). x.number) (last_blocking u hs))
        → outlasts h u ≡ false → IsNamed (record { hold = found.hold; until = u }) (h ∷ hs)
    go None b k longest bound among least shorter =
        let last = more_last is_open h hs found.hold less among least in
        record {
          longest = until_cons h hs ∙ ap (λ (v : Option (Option ℕ)). Some (if h.kept then later_of h.end v else None)) longest ∙ ap Some (if_same h.kept None);
          bound = (tt, bound);
          among = last.0;
          least = last.1;
        }
    go (Some o) false k longest bound among least shorter = absurd (true≢false (ap (λ (c : Bool). not c || nat_lt o h.end) (sym k) ∙ shorter))
    go (Some o) true k longest bound among least shorter =
        let t : nat_lt o h.end ≡ false = ap (λ (c : Bool). not c || nat_lt o h.end) (sym k) ∙ shorter in
        let le : h.end ≤ o = grind arith in
        let other : max h.end o ≡ o = omega arith in
        let last = more_last (λ (x : Hold). x.end == o) h hs found.hold less among least in
        record {
          longest = until_cons h hs ∙ ap (λ (c : Bool). Some (if c then later_of h.end (until hs) else None)) k ∙ ap (λ (v : Option (Option ℕ)). Some (later_of h.end v)) longest ∙ ap (λ (n : ℕ). Some (Some n)) other;
          bound = ((k, le), bound);
          among = last.0;
          least = last.1;
        }

blocker_named : (hs : List Hold) (b : Blocker) → AreFalling hs → blocker_of hs ≡ Some b → IsNamed b hs
blocker_named [] b falling is = absurd cc
blocker_named (h ∷ []) b falling is = subst (λ (c : Blocker). IsNamed c (h ∷ [])) (same_Some (fresh h) b is) (fresh_named h [] (until_cons h []) tt (nothing (end_of h)))
  where
    nothing : (e : Option ℕ) → last_blocking e [] ≡ []
    nothing None = refl
    nothing (Some e) = refl
blocker_named (h ∷ x ∷ xs) b falling is =
    let found = blocker_with x (blocker_of xs) in
    go found (outlasts h found.until) refl (blocker_named (x ∷ xs) found falling.1 refl) is
  where
    go : (found : Blocker) (t : Bool) → outlasts h found.until ≡ t → IsNamed found (x ∷ xs) → Some (if t then fresh h else found) ≡ Some b → IsNamed b (h ∷ x ∷ xs)
    go found true t named is = subst (λ (c : Blocker). IsNamed c (h ∷ x ∷ xs)) (same_Some (fresh h) b is) (longer_named h found (x ∷ xs) named t)
    go found false t named is = subst (λ (c : Blocker). IsNamed c (h ∷ x ∷ xs)) (same_Some found b is) (shorter_named h found (x ∷ xs) falling.0 named t)

pub blocker_names : (hs : List Hold) (b : Blocker) → AreFalling hs → blocker_of hs ≡ Some b → Names b.hold b.until hs
blocker_names hs b falling is =
    let named = blocker_named hs b falling is in
    let numbers = map (λ (x : Hold). x.number) (last_blocking b.until hs) in
    record {
      longest = named.longest;
      least = record { among = Contains-from_Member numbers b.hold named.among; least = All-from_Each (λ m. b.hold ≤ m) numbers named.least };
    }

pub none_blocks : (hs : List Hold) → blocker_of hs ≡ None → until hs ≡ None
none_blocks [] is = refl
none_blocks (h ∷ hs) is = absurd cc

pub some_blocks : (p : Hold → Bool) (hs : List Hold) → list_any p hs ≡ is_some (blocker_of (filter p hs))
some_blocks p [] = refl
some_blocks p (h ∷ hs) = go (p h) (some_blocks p hs)
  where
    go : (b : Bool) → list_any p hs ≡ is_some (blocker_of (filter p hs)) → (b || list_any p hs) ≡ is_some (blocker_of (if b then h ∷ filter p hs else filter p hs))
    go true ih = refl
    go false ih = ih

-- ---- the numbers on the key give it

found_each : (hs : List Hold) → AreRising hs → Each (λ h. find (λ x. x.number == h.number) hs ≡ Some h) hs
found_each [] rising = tt
found_each (h ∷ hs) rising = (
  rw (eqb_refl h.number) refl,
  Each-both (λ x. h.number < x.number) (λ x. find (λ y. y.number == x.number) hs ≡ Some x) (λ x. find (λ y. y.number == x.number) (h ∷ hs) ≡ Some x)
      (λ x lt is. rw (eqb_less h.number x.number lt) is) hs rising.0 (found_each hs rising.1),
)

module _ (key : List ℕ) (now : ℕ) where
  abbrev p : Hold → Bool
  p = blocks key now

  abbrev step : List (ℕ × Hold) → Option Blocker → ℕ → Option Blocker
  step es found n = after_hold key now (hold_at es n) found

  turned : (x : Hold) (xs done : List Hold) → filter p (reverse (x ∷ xs)) ++ done ≡ filter p (reverse xs) ++ (if p x then x ∷ done else done)
  turned x xs done =
      ap (λ (l : List Hold). filter p l ++ done) (reverse-cons x xs) ∙ ap (λ (l : List Hold). l ++ done) (filter-append p (reverse xs) (x ∷ []))
      ∙ append_assoc (filter p (reverse xs)) (filter p (x ∷ [])) done ∙ ap (λ (l : List Hold). filter p (reverse xs) ++ l) (go (p x))
    where
      go : (b : Bool) → (if b then x ∷ [] else []) ++ done ≡ (if b then x ∷ done else done)
      go true = refl
      go false = refl

  fold_named : (es : List (ℕ × Hold)) (xs done : List Hold) → Each (λ h. hold_at es h.number ≡ Some h) xs
      → fold (step es) (blocker_of done) (numbers_on key xs) ≡ blocker_of (filter p (reverse xs) ++ done)
  fold_named es [] done found = refl
  fold_named es (x ∷ xs) done found =
      go (bytes_eq x.key key) refl ∙ fold_named es xs (if p x then x ∷ done else done) found.1 ∙ ap blocker_of (sym (turned x xs done))
    where
      taken : (b : Bool) → (if b then Some (blocker_with x (blocker_of done)) else blocker_of done) ≡ blocker_of (if b then x ∷ done else done)
      taken true = refl
      taken false = refl

      go : (b : Bool) → bytes_eq x.key key ≡ b
          → fold (step es) (blocker_of done) (map (λ (h : Hold). h.number) (if b then x ∷ on_key key xs else on_key key xs)) ≡ fold (step es) (blocker_of (if p x then x ∷ done else done)) (numbers_on key xs)
      go true k =
          ap (λ (o : Option Hold). fold (step es) (after_hold key now o (blocker_of done)) (numbers_on key xs)) found.0
          ∙ ap (λ (o : Option Blocker). fold (step es) o (numbers_on key xs)) (taken (p x))
      go false k =
          let out : p x ≡ false = ap (λ (b : Bool). b && (not x.kept || nat_lt now x.end)) k in
          ap (λ (b : Bool). fold (step es) (blocker_of (if b then x ∷ done else done)) (numbers_on key xs)) (sym out)

  pub first_is : (es : List (ℕ × Hold)) (lists : Lists) → IsIndexed es lists
      → fold (step es) None (listed_at lists key) ≡ blocker_of (filter p (reverse (values_of es)))
  first_is es lists indexed =
      let hs = values_of es in
      let each = Each-weaker (λ h. find (λ x. x.number == h.number) hs ≡ Some h) (λ h. hold_at es h.number ≡ Some h)
      (λ h is. ap (λ (fs : List (ℕ × Hold)). hold_at fs h.number) indexed.named ∙ lookup_is hs h.number ∙ is) hs (found_each hs indexed.rising) in
      ap (fold (step es) None) (indexed.listed key) ∙ fold_named es hs [] each ∙ ap blocker_of (append-nil (filter p (reverse hs)))

-- ---- what a look at the holds answers

pub blocker_seen : (key : List ℕ) (now : ℕ) (es : List (ℕ × Hold)) (lists : Lists) (view : List Hold) (o : Option Blocker) → IsIndexed es lists → reverse (values_of es) ≡ view
    → o ≡ fold (λ found n. after_hold key now (hold_at es n) found) None (listed_at lists key) → o ≡ blocker_of (filter (blocks key now) view)
blocker_seen key now es lists view o indexed seen is = is ∙ first_is key now es lists indexed ∙ ap (λ (l : List Hold). blocker_of (filter (blocks key now) l)) seen

pub none_named : (key : List ℕ) (now : ℕ) (view : List Hold) (o : Option Blocker) → o ≡ blocker_of (filter (blocks key now) view)
    → IfNone o ((is_blocked view key now ≡ false) × (until (filter (blocks key now) view) ≡ None))
none_named key now view None is = (some_blocks (blocks key now) view ∙ ap is_some (sym is), none_blocks (filter (blocks key now) view) (sym is))
none_named key now view (Some b) is = tt

pub some_named : (key : List ℕ) (now : ℕ) (view : List Hold) (o : Option Blocker) → AreFalling view → o ≡ blocker_of (filter (blocks key now) view)
    → IfSome o (λ b. (is_blocked view key now ≡ true) × Names b.hold b.until (filter (blocks key now) view))
some_named key now view None falling is = tt
some_named key now view (Some b) falling is =
    (some_blocks (blocks key now) view ∙ ap is_some (sym is), blocker_names (filter (blocks key now) view) b (falling-filter (blocks key now) view falling) (sym is))
