-- Whose shares a list of holds has, as the holds change.
use Rattle.std.proofs.Common.{◌≡◌, inl, inr, ℕ, ◌<◌, Bool, true, false, not, List, [], ◌∷◌, Option, Some, None, refl, sym, ap, ◌∙◌, subst, arith, true≢false}
use Rattle.std.specs.Prelude.{◌==◌, ◌&&◌, ◌||◌, All, filter, find, map, if◌then◌else◌}
use Rattle.std.specs.Option.{option_map}
use Rattle.std.proofs.lemmas.Option.{same_Some}
use Rattle.std.proofs.Math.Bool.{or-false, or-true}
use Rattle.annex_base.specs.Lists.{Each, Member}
use Rattle.annex_base.proofs.Conditions.{and_first, and_second, eqb_refl}
use Rattle.annex_base.proofs.Lists.{Each-from_All, Each-member, Each-weaker, filter_all, find_member, Each-filter}
use Rattle.annex_base.proofs.Options.{map_some}
use Rattle.run_data.specs.declared.entry.By.{By}
use Rattle.run_data.specs.declared.entry.By.TheVariants.{Script, Job, Peer}
use Rattle.run_data.specs.declared.row.Hold.{Hold}
use Rattle.node_model.specs.Rows.{keep_of, same_owner}
use Rattle.content_lock.specs.Indexed.{AreFalling}
use Rattle.content_lock.specs.Tokens.{HasShare, Owns, ShareView, keep_numbered, open_share, others_of, share_of, without_open}

-- ---- tests

pub same_itself : (by : By) → same_owner by by ≡ true
same_itself Script = refl
same_itself (Job i) = eqb_refl i
same_itself (Peer p s) = rw (eqb_refl p, eqb_refl s) refl

-- ---- what stays as it is

-- the owner's keeping changes it not
abbrev pub Stays : By → Hold → Type 0
Stays by h = keep_of by h ≡ h

pub stays_each : (by : By) (hs : List Hold) → map (keep_of by) hs ≡ hs → Each (Stays by) hs
stays_each by [] is = tt
stays_each by (h ∷ hs) is = (cons_head (keep_of by h) h (map (keep_of by) hs) hs is, stays_each by hs (cons_tail (keep_of by h) h (map (keep_of by) hs) hs is))
  where
    cons_head : (x y : Hold) (xs ys : List Hold) → x ∷ xs ≡ y ∷ ys → x ≡ y
    cons_head x y xs ys e = cc

    cons_tail : (x y : Hold) (xs ys : List Hold) → x ∷ xs ≡ y ∷ ys → xs ≡ ys
    cons_tail x y xs ys e = cc

pub each_stays : (by : By) (hs : List Hold) → Each (Stays by) hs → map (keep_of by) hs ≡ hs
each_stays by [] stays = refl
each_stays by (h ∷ hs) stays = λ i. stays.0 i ∷ each_stays by hs stays.1 i

pub other_stays : (by : By) (h : Hold) → same_owner h.owner by ≡ false → Stays by h
other_stays by h other = ap (λ (b : Bool). if b then record h { kept = true } else h) other

pub kept_stays : (by : By) (h : Hold) → h.kept ≡ true → Stays by h
kept_stays by h kept = go (same_owner h.owner by)
  where
    go : (b : Bool) → (if b then record h { kept = true } else h) ≡ h
    go true = ap (λ (c : Bool). record h { kept = c }) (sym kept)
    go false = refl

pub all_kept : (by : By) (hs : List Hold) → Each (λ h. h.kept ≡ true) hs → map (keep_of by) hs ≡ hs
all_kept by hs kept = each_stays by hs (Each-weaker (λ h. h.kept ≡ true) (Stays by) (kept_stays by) hs kept)

pub nobody_owns : (by : By) (hs : List Hold) → Each (λ h. h.kept ≡ true) hs → Owns by None hs
nobody_owns by hs kept = record { owner = refl; given = refl; kept = all_kept by hs kept }

-- ---- what passes a filter

pub each_passing : (P : Hold → Type 0) (q : Hold → Bool) (hs : List Hold) → Each P (filter q hs) → Each (λ h. q h ≡ true → P h) hs
each_passing P q [] each = tt
each_passing P q (h ∷ hs) each = go (q h) refl (λ e. each_passing P q hs e) each
  where
    go : (b : Bool) → q h ≡ b → (Each P (filter q hs) → Each (λ x. q x ≡ true → P x) hs) → Each P (if b then h ∷ filter q hs else filter q hs) → (q h ≡ true → P h) × Each (λ x. q x ≡ true → P x) hs
    go true is ih each = (λ _. each.0, ih each.1)
    go false is ih each = (λ yes. absurd (true≢false (sym yes ∙ is)), ih each)

pub each_filtered : (P : Hold → Type 0) (q : Hold → Bool) (hs : List Hold) → Each (λ h. q h ≡ true → P h) hs → Each P (filter q hs)
each_filtered P q [] each = tt
each_filtered P q (h ∷ hs) each = go (q h) refl (each_filtered P q hs each.1)
  where
    go : (b : Bool) → q h ≡ b → Each P (filter q hs) → Each P (if b then h ∷ filter q hs else filter q hs)
    go true is ih = (each.0 is, ih)
    go false is ih = ih

find_filtered : (p q : Hold → Bool) → ((h : Hold) → p h ≡ true → q h ≡ true) → (hs : List Hold) → find p (filter q hs) ≡ find p hs
find_filtered p q all [] = refl
find_filtered p q all (h ∷ hs) = go (p h) (q h) refl refl (find_filtered p q all hs)
  where
    go : (b c : Bool) → p h ≡ b → q h ≡ c → find p (filter q hs) ≡ find p hs → find p (if c then h ∷ filter q hs else filter q hs) ≡ (if b then Some h else find p hs)
    go b true is passes ih = rw is (ap (λ (o : Option Hold). if b then Some h else o) ih)
    go true false is passes ih = absurd (true≢false (sym (all h is) ∙ passes))
    go false false is passes ih = ih

find_mapped : (p : Hold → Bool) (f : Hold → Hold) → ((h : Hold) → p (f h) ≡ p h) → (hs : List Hold) → find p (map f hs) ≡ option_map f (find p hs)
find_mapped p f same [] = refl
find_mapped p f same (h ∷ hs) = ap (λ (b : Bool). if b then Some (f h) else find p (map f hs)) (same h) ∙ go (p h) (find_mapped p f same hs)
  where
    go : (b : Bool) → find p (map f hs) ≡ option_map f (find p hs) → (if b then Some (f h) else find p (map f hs)) ≡ option_map f (if b then Some h else find p hs)
    go true ih = refl
    go false ih = ih

-- ---- the open hold of a share

abbrev pub opens : ℕ → Hold → Bool
opens n h = (h.number == n) && not h.kept

-- it is there
found : (hs : List Hold) (s : ShareView) → HasShare hs s → (h : Hold) × (find (opens s.number) hs ≡ Some h) × (share_of h ≡ s)
found hs s has = map_some (find (opens s.number) hs) share_of s has

number_of_found : (n : ℕ) (h : Hold) → opens n h ≡ true → (h.number == n) ≡ true
number_of_found n h is = and_first (h.number == n) (not h.kept) is

-- shares of two owners have two numbers
pub apart : (hs : List Hold) (s t : ShareView) → HasShare hs s → HasShare hs t → same_owner s.owner t.owner ≡ false → (t.number == s.number) ≡ false
apart hs s t has other differ = go (t.number == s.number) refl
  where
    go : (b : Bool) → (t.number == s.number) ≡ b → (t.number == s.number) ≡ false
    go false is = is
    go true is =
        let same : t.number ≡ s.number = grind arith in
        let one : t ≡ s = same_Some t s (sym other ∙ ap (open_share hs) same ∙ has) in
        absurd (true≢false (sym (same_itself s.owner) ∙ ap (λ (x : ShareView). same_owner s.owner x.owner) (sym one) ∙ differ))

-- ---- a new hold

others_new : (h : Hold) (hs : List Hold) → Each (λ x. x.number < h.number) hs → others_of h.number (h ∷ hs) ≡ hs
others_new h hs less =
    ap (λ (b : Bool). if not b then h ∷ others_of h.number hs else others_of h.number hs) (eqb_refl h.number)
    ∙ filter_all (λ x. not (x.number == h.number)) hs (Each-weaker (λ x. x.number < h.number) (λ x. not (x.number == h.number) ≡ true) (λ x lt. smaller x.number h.number lt) hs less)
  where
    smaller : (a b : ℕ) → a < b → not (a == b) ≡ true
    smaller a b lt = grind arith

pub off_again : (h : Hold) (hs : List Hold) → All (λ x. x.number < h.number) hs → others_of h.number (h ∷ hs) ≡ hs
off_again h hs less = others_new h hs (Each-from_All (λ x. x.number < h.number) hs less)

pub given_new : (h : Hold) (hs : List Hold) → h.kept ≡ false → HasShare (h ∷ hs) (share_of h)
given_new h hs unkept =
    ap (λ (b : Bool). option_map share_of (if b && not h.kept then Some h else find (opens h.number) hs)) (eqb_refl h.number)
    ∙ ap (λ (b : Bool). option_map share_of (if not b then Some h else find (opens h.number) hs)) unkept

pub owns_new : (h : Hold) (hs : List Hold) → h.kept ≡ false → All (λ x. x.number < h.number) hs → Owns h.owner None hs → Owns h.owner (Some (share_of h)) (h ∷ hs)
owns_new h hs unkept less owns = record {
  owner = refl;
  given = given_new h hs unkept;
  kept = let same = off_again h hs less in ap (map (keep_of h.owner)) same ∙ owns.kept ∙ sym same;
}

greater_apart : (h : Hold) (hs : List Hold) (s : ShareView) → Each (λ x. x.number < h.number) hs → HasShare hs s → (h.number == s.number) ≡ false
greater_apart h hs s less has =
    let it = found hs s has in
    let member = find_member (opens s.number) hs it.0 it.1 in
    go it.0.number s.number h.number (number_of_found s.number it.0 member.1) (Each-member (λ x. x.number < h.number) hs it.0 less member.0)
  where
    go : (a b c : ℕ) → (a == b) ≡ true → a < c → (c == b) ≡ false
    go a b c same lt = grind arith

pub others_own_new : (h : Hold) (hs : List Hold) (by : By) (share : Option ShareView) → All (λ x. x.number < h.number) hs → same_owner h.owner by ≡ false → Owns by share hs → Owns by share (h ∷ hs)
others_own_new h hs by None less other owns = record {
  owner = refl;
  given = refl;
  kept = λ i. other_stays by h other i ∷ owns.kept i;
}
others_own_new h hs by (Some s) less other owns =
    let has : HasShare hs s = owns.given in
    let differ = greater_apart h hs s (Each-from_All (λ x. x.number < h.number) hs less) has in
    let rest : others_of s.number (h ∷ hs) ≡ h ∷ others_of s.number hs = ap (λ (b : Bool). if not b then h ∷ others_of s.number hs else others_of s.number hs) differ in
    record {
      owner = owns.owner;
      given = ap (λ (b : Bool). option_map share_of (if b && not h.kept then Some h else find (opens s.number) hs)) differ ∙ has;
      kept = ap (map (keep_of by)) rest ∙ (λ i. other_stays by h other i ∷ owns.kept i) ∙ sym rest;
    }

-- ---- a hold that is taken off

by_of : (s : ShareView) (by : By) (t : ShareView) → t.owner ≡ by → same_owner s.owner by ≡ false → same_owner s.owner t.owner ≡ false
by_of s by t is differ = ap (same_owner s.owner) is ∙ differ

pub others_own_off : (hs : List Hold) (s : ShareView) (by : By) (other : Option ShareView) → HasShare hs s → same_owner s.owner by ≡ false → Owns by other hs → Owns by other (others_of s.number hs)
others_own_off hs s by None has differ owns = record {
  owner = refl;
  given = refl;
  kept = each_stays by (others_of s.number hs) (Each-filter (Stays by) (λ h. not (h.number == s.number)) hs (stays_each by hs owns.kept));
}
others_own_off hs s by (Some t) has differ owns =
    let away = apart hs s t has owns.given (by_of s by t owns.owner differ) in
    record {
      owner = owns.owner;
      given = ap (option_map share_of) (find_filtered (opens t.number) (λ h. not (h.number == s.number)) (λ h is. other_number h.number (number_of_found t.number h is) away) hs) ∙ owns.given;
      kept = each_stays by (others_of t.number (others_of s.number hs))
          (each_filtered (Stays by) (λ h. not (h.number == t.number)) (others_of s.number hs)
          (Each-filter (λ h. not (h.number == t.number) ≡ true → Stays by h) (λ h. not (h.number == s.number)) hs
          (each_passing (Stays by) (λ h. not (h.number == t.number)) hs (stays_each by (others_of t.number hs) owns.kept))));
    }
  where
    other_number : (n : ℕ) → (n == t.number) ≡ true → (t.number == s.number) ≡ false → not (n == s.number) ≡ true
    other_number n same away = grind arith

-- ---- a hold that is kept

-- the one of its number
alone : (hs : List Hold) (h : Hold) → AreFalling hs → Member h hs → Each (λ x. (x.number == h.number) ≡ true → x ≡ h) hs
alone [] h falling among = absurd among
alone (x ∷ xs) h falling (inl same) = (
  λ _. sym same,
  Each-weaker (λ y. y.number < x.number) (λ y. (y.number == h.number) ≡ true → y ≡ h)
      (λ y lt is. absurd (less_than y.number x.number h.number lt (ap (λ (z : Hold). z.number) same) is)) xs falling.0,
)
  where
    less_than : (a b c : ℕ) → a < b → c ≡ b → (a == c) ≡ true → ⊥
    less_than a b c lt same is = grind arith
alone (x ∷ xs) h falling (inr later) =
    (λ is. absurd (greater_than x.number h.number (Each-member (λ y. y.number < x.number) xs h falling.0 later) is), alone xs h falling.1 later)
  where
    greater_than : (a b : ℕ) → b < a → (a == b) ≡ true → ⊥
    greater_than a b lt is = grind arith

same_keeping : (by : By) (n : ℕ) (hs : List Hold) → Each (λ h. keep_numbered n h ≡ keep_of by h) hs → map (keep_numbered n) hs ≡ map (keep_of by) hs
same_keeping by n [] each = refl
same_keeping by n (h ∷ hs) each = λ i. each.0 i ∷ same_keeping by n hs each.1 i

keeping : (s : ShareView) (h x : Hold) → share_of h ≡ s → ((x.number == s.number) ≡ true → x ≡ h) → (not (x.number == s.number) ≡ true → Stays s.owner x) → keep_numbered s.number x ≡ keep_of s.owner x
keeping s h x it one other = go (x.number == s.number) refl
  where
    go : (b : Bool) → (x.number == s.number) ≡ b → keep_numbered s.number x ≡ keep_of s.owner x
    go true is =
        let mine : same_owner x.owner s.owner ≡ true = ap (λ (y : Hold). same_owner y.owner s.owner) (one is) ∙ ap (λ (t : ShareView). same_owner t.owner s.owner) it ∙ same_itself s.owner in
        ap (λ (b : Bool). record x { kept = x.kept || b }) is ∙ ap (λ (c : Bool). record x { kept = c }) (or-true x.kept)
        ∙ sym (ap (λ (b : Bool). if b then record x { kept = true } else x) mine)
    go false is =
        ap (λ (b : Bool). record x { kept = x.kept || b }) is ∙ ap (λ (c : Bool). record x { kept = c }) (or-false x.kept) ∙ sym (other (ap not is))

-- keeping the one hold is keeping the owner's
pub keeps_owners : (hs : List Hold) (s : ShareView) → AreFalling hs → Owns s.owner (Some s) hs → map (keep_numbered s.number) hs ≡ map (keep_of s.owner) hs
keeps_owners hs s falling owns =
    let it = found hs s owns.given in
    let member = find_member (opens s.number) hs it.0 it.1 in
    let number : it.0.number ≡ s.number = same_number it.0.number s.number (number_of_found s.number it.0 member.1) in
    let one = subst (λ (n : ℕ). Each (λ x. (x.number == n) ≡ true → x ≡ it.0) hs) number (alone hs it.0 falling member.0) in
    let rest = each_passing (Stays s.owner) (λ h. not (h.number == s.number)) hs (stays_each s.owner (others_of s.number hs) owns.kept) in
    same_keeping s.owner s.number hs (both hs it.0 it.2 one rest)
  where
    same_number : (a b : ℕ) → (a == b) ≡ true → a ≡ b
    same_number a b e = grind arith

    both : (hs : List Hold) (h : Hold) → share_of h ≡ s → Each (λ x. (x.number == s.number) ≡ true → x ≡ h) hs → Each (λ x. not (x.number == s.number) ≡ true → Stays s.owner x) hs
        → Each (λ x. keep_numbered s.number x ≡ keep_of s.owner x) hs
    both [] h it one rest = tt
    both (x ∷ xs) h it one rest = (keeping s h x it one.0 rest.0, both xs h it one.1 rest.1)

twice : (by : By) (hs : List Hold) → map (keep_of by) (map (keep_of by) hs) ≡ map (keep_of by) hs
twice by [] = refl
twice by (h ∷ hs) = λ i. go (same_owner h.owner by) refl i ∷ twice by hs i
  where
    go : (b : Bool) → same_owner h.owner by ≡ b → keep_of by (if b then record h { kept = true } else h) ≡ (if b then record h { kept = true } else h)
    go true is = kept_stays by (record h { kept = true }) refl
    go false is = other_stays by h is

pub owns_kept : (hs : List Hold) (s : ShareView) → AreFalling hs → Owns s.owner (Some s) hs → Owns s.owner None (map (keep_numbered s.number) hs)
owns_kept hs s falling owns = record {
  owner = refl;
  given = refl;
  kept = let same = keeps_owners hs s falling owns in ap (map (keep_of s.owner)) same ∙ twice s.owner hs ∙ sym same;
}

still_stays : (by : By) (n : ℕ) (h : Hold) → Stays by h → Stays by (keep_numbered n h)
still_stays by n h stays = go (same_owner h.owner by) refl
  where
    go : (b : Bool) → same_owner h.owner by ≡ b → Stays by (keep_numbered n h)
    go true is =
        let kept : h.kept ≡ true = sym (ap (λ (x : Hold). x.kept) (sym (ap (λ (b : Bool). if b then record h { kept = true } else h) is) ∙ stays)) in
        kept_stays by (keep_numbered n h) (ap (λ (c : Bool). c || (h.number == n)) kept)
    go false is = other_stays by (keep_numbered n h) is

each_mapped : (by : By) (n : ℕ) (hs : List Hold) → Each (Stays by) hs → Each (Stays by) (map (keep_numbered n) hs)
each_mapped by n [] each = tt
each_mapped by n (h ∷ hs) each = (still_stays by n h each.0, each_mapped by n hs each.1)

others_mapped : (n m : ℕ) (hs : List Hold) → others_of m (map (keep_numbered n) hs) ≡ map (keep_numbered n) (others_of m hs)
others_mapped n m [] = refl
others_mapped n m (h ∷ hs) = go (not (h.number == m)) (others_mapped n m hs)
  where
    go : (b : Bool) → others_of m (map (keep_numbered n) hs) ≡ map (keep_numbered n) (others_of m hs)
        → (if b then keep_numbered n h ∷ others_of m (map (keep_numbered n) hs) else others_of m (map (keep_numbered n) hs)) ≡ map (keep_numbered n) (if b then h ∷ others_of m hs else others_of m hs)
    go true ih = ap (λ (l : List Hold). keep_numbered n h ∷ l) ih
    go false ih = ih

pub others_own_kept : (hs : List Hold) (s : ShareView) (by : By) (other : Option ShareView) → HasShare hs s → same_owner s.owner by ≡ false → Owns by other hs → Owns by other (map (keep_numbered s.number) hs)
others_own_kept hs s by None has differ owns = record {
  owner = refl;
  given = refl;
  kept = each_stays by (map (keep_numbered s.number) hs) (each_mapped by s.number hs (stays_each by hs owns.kept));
}
others_own_kept hs s by (Some t) has differ owns =
    let away = apart hs s t has owns.given (by_of s by t owns.owner differ) in
    let rest = others_mapped s.number t.number hs in
    record {
      owner = owns.owner;
      given = ap (option_map share_of) (find_mapped (opens t.number) (keep_numbered s.number) (λ h. still_opens h away) hs) ∙ as_before (find (opens t.number) hs) ∙ owns.given;
      kept = ap (map (keep_of by)) rest
          ∙ each_stays by (map (keep_numbered s.number) (others_of t.number hs)) (each_mapped by s.number (others_of t.number hs) (stays_each by (others_of t.number hs) owns.kept)) ∙ sym rest;
    }
  where
    as_before : (o : Option Hold) → option_map share_of (option_map (keep_numbered s.number) o) ≡ option_map share_of o
    as_before None = refl
    as_before (Some h) = refl

    still_opens : (h : Hold) → (t.number == s.number) ≡ false → opens t.number (keep_numbered s.number h) ≡ opens t.number h
    still_opens h away = go (h.number == t.number) (h.number == s.number) h.kept refl refl
      where
        go : (b c k : Bool) → (h.number == t.number) ≡ b → (h.number == s.number) ≡ c → (b && not (k || c)) ≡ (b && not k)
        go false c k is at = refl
        go true false k is at = ap not (or-false k)
        go true true k is at = absurd (both_not h.number is at)
          where
            both_not : (n : ℕ) → (n == t.number) ≡ true → (n == s.number) ≡ true → ⊥
            both_not n is at = grind arith

-- ---- a hold that is taken off, of an owner who has no other open one

same_filter : (p q : Hold → Bool) (hs : List Hold) → Each (λ h. p h ≡ q h) hs → filter p hs ≡ filter q hs
same_filter p q [] same = refl
same_filter p q (h ∷ hs) same =
    ap (λ (b : Bool). if b then h ∷ filter p hs else filter p hs) same.0 ∙ ap (λ (l : List Hold). if q h then h ∷ l else l) (same_filter p q hs same.1)

-- an owner's hold that keeping changes not is kept
kept_of : (by : By) (h : Hold) → Stays by h → same_owner h.owner by ≡ true → h.kept ≡ true
kept_of by h stays is = sym (ap (λ (x : Hold). x.kept) (sym (ap (λ (b : Bool). if b then record h { kept = true } else h) is) ∙ stays))

offing : (s : ShareView) (h x : Hold) → share_of h ≡ s → h.kept ≡ false → ((x.number == s.number) ≡ true → x ≡ h) → (not (x.number == s.number) ≡ true → Stays s.owner x)
    → not (x.number == s.number) ≡ (x.kept || not (same_owner x.owner s.owner))
offing s h x it unkept one other = go (x.number == s.number) refl (same_owner x.owner s.owner) refl
  where
    go : (b : Bool) → (x.number == s.number) ≡ b → (m : Bool) → same_owner x.owner s.owner ≡ m → not (x.number == s.number) ≡ (x.kept || not (same_owner x.owner s.owner))
    go true is m mine =
        let own : same_owner x.owner s.owner ≡ true = ap (λ (y : Hold). same_owner y.owner s.owner) (one is) ∙ ap (λ (t : ShareView). same_owner t.owner s.owner) it ∙ same_itself s.owner in
        let unkept_x : x.kept ≡ false = ap (λ (y : Hold). y.kept) (one is) ∙ unkept in
        ap not is ∙ sym ((λ i. unkept_x i || not (own i)))
    go false is true mine =
        let kept : x.kept ≡ true = kept_of s.owner x (other (ap not is)) mine in
        ap not is ∙ sym (ap (λ (k : Bool). k || not (same_owner x.owner s.owner)) kept)
    go false is false mine = ap not is ∙ sym (ap (λ (m : Bool). x.kept || not m) mine ∙ or-true x.kept)

-- taking the one hold off is taking the owner's open ones off
pub off_is_owners : (hs : List Hold) (s : ShareView) → AreFalling hs → Owns s.owner (Some s) hs → others_of s.number hs ≡ without_open s.owner hs
off_is_owners hs s falling owns =
    let it = found hs s owns.given in
    let member = find_member (opens s.number) hs it.0 it.1 in
    let number : it.0.number ≡ s.number = same_number it.0.number s.number (number_of_found s.number it.0 member.1) in
    let unkept : it.0.kept ≡ false = not_true it.0.kept (and_second (it.0.number == s.number) (not it.0.kept) member.1) in
    let one = subst (λ (n : ℕ). Each (λ x. (x.number == n) ≡ true → x ≡ it.0) hs) number (alone hs it.0 falling member.0) in
    let rest = each_passing (Stays s.owner) (λ h. not (h.number == s.number)) hs (stays_each s.owner (others_of s.number hs) owns.kept) in
    same_filter (λ h. not (h.number == s.number)) (λ h. h.kept || not (same_owner h.owner s.owner)) hs (both hs it.0 it.2 unkept one rest)
  where
    same_number : (a b : ℕ) → (a == b) ≡ true → a ≡ b
    same_number a b e = grind arith

    not_true : (b : Bool) → not b ≡ true → b ≡ false
    not_true true e = absurd (true≢false (sym e))
    not_true false e = refl

    both : (hs : List Hold) (h : Hold) → share_of h ≡ s → h.kept ≡ false → Each (λ x. (x.number == s.number) ≡ true → x ≡ h) hs → Each (λ x. not (x.number == s.number) ≡ true → Stays s.owner x) hs
        → Each (λ x. not (x.number == s.number) ≡ (x.kept || not (same_owner x.owner s.owner))) hs
    both [] h it unkept one rest = tt
    both (x ∷ xs) h it unkept one rest = (offing s h x it unkept one.0 rest.0, both xs h it unkept one.1 rest.1)
